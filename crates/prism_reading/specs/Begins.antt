-- Tokens with which texts of rules begin, for rules that are made of others.
use Rattle.std.specs.Prelude.{◌⊎◌, ℕ, List, ◌++◌, ◌∷◌, []}
use Rattle.prism_syntax.specs.declared.tokens.Kind.{Kind}
use Rattle.prism_syntax.specs.declared.tokens.Kind.TheVariants as k
use Rattle.prism_reading.specs.Sequences.{IsTerminal}

-- nothing, or the one token of this kind
pub data BeginsTerminal (kind : Kind) : List Kind → Type 0 where
  nothing : BeginsTerminal kind []
  whole : BeginsTerminal kind (kind ∷ [])

-- nothing, or a name
pub data BeginsName : List Kind → Type 0 where
  nothing : BeginsName []
  whole : {text : List ℕ} → BeginsName (k.Name text ∷ [])

-- nothing, or the name of a label
pub data BeginsQuoted : List Kind → Type 0 where
  nothing : BeginsQuoted []
  whole : {text : List ℕ} → BeginsQuoted (k.Quoted text ∷ [])

-- the tokens end inside a text of one rule, or inside what comes after a whole one
pub data BeginsBoth {X : Type 0} (First : List Kind → X → Type 0) (BeginsFirst BeginsSecond : List Kind → Type 0) : List Kind → Type 0 where
  inside : {a : List Kind} → BeginsFirst a → BeginsBoth First BeginsFirst BeginsSecond a
  after : {a b : List Kind} {x : X} → First a x → BeginsSecond b → BeginsBoth First BeginsFirst BeginsSecond (a ++ b)

-- one token, and then what begins the rest
abbrev pub BeginsAfter : Kind → (List Kind → Type 0) → List Kind → Type 0
BeginsAfter token BeginsRest = BeginsBoth (IsTerminal token) (BeginsTerminal token) BeginsRest

-- the tokens begin a text of one rule or of another
abbrev pub BeginsOneOf : (List Kind → Type 0) → (List Kind → Type 0) → List Kind → Type 0
BeginsOneOf BeginsFirst BeginsSecond tokens = BeginsFirst tokens ⊎ BeginsSecond tokens

-- the tokens end inside a text of the rule, after whole ones, or between two
pub data BeginsEach {X : Type 0} (Rule : List Kind → X → Type 0) (Begins : List Kind → Type 0) : List Kind → Type 0 where
  nothing : BeginsEach Rule Begins []
  inside : {a : List Kind} → Begins a → BeginsEach Rule Begins a
  after : {a b : List Kind} {x : X} → Rule a x → BeginsEach Rule Begins b → BeginsEach Rule Begins (a ++ b)

-- the same of texts with a token between each two of them
pub data BeginsSeparated {X : Type 0} (between : Kind) (Rule : List Kind → X → Type 0) (Begins : List Kind → Type 0) : List Kind → Type 0 where
  inside : {a : List Kind} → Begins a → BeginsSeparated between Rule Begins a
  after : {a b : List Kind} {x : X} → Rule a x → BeginsSeparated between Rule Begins b → BeginsSeparated between Rule Begins (a ++ (between ∷ b))
