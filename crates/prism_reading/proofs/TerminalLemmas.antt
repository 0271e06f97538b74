-- What the first token tells of the rules whose texts are single tokens.
use Rattle.std.proofs.Common.{◌≡◌, ℕ, List, [], ◌∷◌, ◌++◌, length, refl, sym, ap, ◌∙◌, subst, arith}
use Rattle.std.proofs.lemmas.List.{length-append}
use Rattle.prism_syntax.specs.declared.tokens.Kind.{Kind}
use Rattle.prism_syntax.specs.declared.tokens.Kind.TheVariants as k
use Rattle.prism_syntax.specs.declared.tokens.Token.{Token}
use Rattle.prism_syntax.specs.Tokens.{kinds}
use Rattle.prism_reading.specs.Reach.{IsPrefix, IsReach}
use Rattle.prism_reading.specs.Reading.{Anything, Parses, Fails}
use Rattle.prism_reading.specs.Sequences.{IsTerminal, terminal, IsName, name, IsQuoted, quoted}
use Rattle.prism_reading.proofs.ReachLemmas.{count_kinds, heads, whole_prefix, reach_nil}

-- a rule has a text, and each text of it is a single token
pub record IsSingle {X : Type 0} (Rule : List Kind → X → Type 0) : Type 0 where
  pub some : IsPrefix Rule []
  pub single : (a : List Kind) (x : X) → Rule a x → length a ≡ 1

-- the first token is a text of the rule
pub single_parses : {X : Type 0} {Rule : List Kind → X → Type 0} {x : X} {tokens rest : List Token} → IsSingle Rule → (first : Token) → tokens ≡ first ∷ rest
    → Rule (first.kind ∷ []) x → Parses Rule Anything tokens x rest (length rest)
single_parses {Rule = Rule} {x = x} {rest = rest} is first cut text = record {
  prefix = first ∷ [];
  cut = cut;
  text = text;
  follows = tt;
  reach = record {
    prefix = first.kind ∷ [];
    rest = kinds rest;
    cut = ap kinds cut;
    count = count_kinds rest;
    begins = whole_prefix Rule (first.kind ∷ []) x text;
    furthest = λ f after equal begins. let one = is.single (f ++ begins.more) begins.tree begins.text in
        omega (arith, one, length-append f begins.more, length-append f after, ap length equal, ap length (ap kinds cut), count_kinds rest);
  };
}

-- no first token is
pub single_fails : {X : Type 0} {Rule : List Kind → X → Type 0} {tokens : List Token} → IsSingle Rule
    → ((first : Kind) (after : List Kind) (x : X) → kinds tokens ≡ first ∷ after → Rule (first ∷ []) x → ⊥) → Fails Rule Anything tokens (length tokens)
single_fails {X = X} {Rule = Rule} {tokens = tokens} is wrong = record {
  none = λ prefix after tree equal text follows. none prefix after tree equal text (is.single prefix tree text);
  reach = subst (IsReach (IsPrefix Rule) (kinds tokens)) (count_kinds tokens) (reach_nil is.some (λ f r equal begins. nothing f r begins.more begins.tree equal begins.text (is.single (f ++ begins.more) begins.tree begins.text)));
}
  where
    none : (prefix after : List Kind) (tree : X) → kinds tokens ≡ prefix ++ after → Rule prefix tree → length prefix ≡ 1 → ⊥
    none [] after tree equal text one = omega (arith, one)
    none (t ∷ []) after tree equal text one = wrong t after tree equal text
    none (t ∷ (u ∷ more)) after tree equal text one = omega (arith, one)

    nothing : (f r more : List Kind) (tree : X) → kinds tokens ≡ f ++ r → Rule (f ++ more) tree → length (f ++ more) ≡ 1 → f ≡ []
    nothing [] r more tree equal text one = refl
    nothing (t ∷ []) r [] tree equal text one = absurd (wrong t r tree equal text)
    nothing (t ∷ []) r (u ∷ more) tree equal text one = absurd (omega (arith, one))
    nothing (t ∷ (u ∷ f)) r more tree equal text one = absurd (omega (arith, one))

-- a token of a kind is a single token
pub terminal_single : (kind : Kind) → IsSingle (IsTerminal kind)
terminal_single kind = record { some = record { more = kind ∷ []; tree = tt; text = terminal }; single = λ a x text. one a x text }
  where
    one : (a : List Kind) (x : Unit {0}) → IsTerminal kind a x → length a ≡ 1
    one a x terminal = refl

-- so is a name
pub name_single : IsSingle IsName
name_single = record { some = record { more = k.Name [] ∷ []; tree = []; text = name }; single = λ a x text. one a x text }
  where
    one : (a : List Kind) (x : List ℕ) → IsName a x → length a ≡ 1
    one a x name = refl

-- so is the name of a label
pub quoted_single : IsSingle IsQuoted
quoted_single = record { some = record { more = k.Quoted [] ∷ []; tree = []; text = quoted }; single = λ a x text. one a x text }
  where
    one : (a : List Kind) (x : List ℕ) → IsQuoted a x → length a ≡ 1
    one a x quoted = refl

-- the first token is of the kind
pub terminal_parses : {kind : Kind} {tokens rest : List Token} (first : Token) → tokens ≡ first ∷ rest → first.kind ≡ kind → Parses (IsTerminal kind) Anything tokens tt rest (length rest)
terminal_parses {kind = kind} first cut is = single_parses (terminal_single kind) first cut (subst (λ t. IsTerminal kind (t ∷ []) tt) (sym is) terminal)

-- and it is not
pub terminal_fails : {kind : Kind} {tokens : List Token} → ((after : List Kind) → kinds tokens ≡ kind ∷ after → ⊥) → Fails (IsTerminal kind) Anything tokens (length tokens)
terminal_fails {kind = kind} {tokens = tokens} wrong = single_fails (terminal_single kind) (λ first after x equal text. other first after x equal text)
  where
    other : (first : Kind) (after : List Kind) (x : Unit {0}) → kinds tokens ≡ first ∷ after → IsTerminal kind (first ∷ []) x → ⊥
    other first after x equal terminal = wrong after equal

-- no tokens, or a first one of another kind
pub other_kind : {kind : Kind} (tokens : List Token) → ((first : Token) (rest : List Token) → tokens ≡ first ∷ rest → first.kind ≡ kind → ⊥) → (after : List Kind) → kinds tokens ≡ kind ∷ after → ⊥
other_kind [] wrong after equal = cc
other_kind (t ∷ ts) wrong after equal = wrong t ts refl (heads equal)

-- what a token of a kind tells of the kinds
pub terminal_kinds : {kind : Kind} {tokens rest : List Token} {left : ℕ} → Parses (IsTerminal kind) Anything tokens tt rest left → kinds tokens ≡ kind ∷ kinds rest
terminal_kinds {kind = kind} {tokens = tokens} {rest = rest} parses = of_text parses.prefix parses.cut parses.text
  where
    of_text : (prefix : List Token) → tokens ≡ prefix ++ rest → IsTerminal kind (kinds prefix) tt → kinds tokens ≡ kind ∷ kinds rest
    of_text [] cut text = absurd (let none = (terminal_single kind).single (kinds []) tt text in omega (arith, none))
    of_text (t ∷ []) cut text = ap kinds cut ∙ ap (λ u. u ∷ kinds rest) (kind_of t.kind text)
      where
        kind_of : (u : Kind) → IsTerminal kind (u ∷ []) tt → u ≡ kind
        kind_of u terminal = refl
    of_text (t ∷ (u ∷ more)) cut text = absurd (let none = (terminal_single kind).single (kinds (t ∷ (u ∷ more))) tt text in omega (arith, none))

-- no tokens begin with none
pub no_first : (tokens : List Token) {first : Kind} {after : List Kind} → length tokens ≡ 0 → kinds tokens ≡ first ∷ after → ⊥
no_first tokens none equal = omega (arith, none, ap length equal, count_kinds tokens)

-- a text of one name is that name's token
pub name_kind : {t : Kind} {x : List ℕ} → IsName (t ∷ []) x → t ≡ k.Name x
name_kind name = refl

-- and the text of one quoted name is its
pub quoted_kind : {t : Kind} {x : List ℕ} → IsQuoted (t ∷ []) x → t ≡ k.Quoted x
quoted_kind quoted = refl
