-- Rules of single tokens that have a tree by themselves, and expressions up to a token that ends them.
use Rattle.std.proofs.Common.{◌≡◌, List, [], ◌∷◌, ◌++◌, length, true, false, Option, Some, None, refl, sym, ◌∙◌, ap, subst, append_assoc}
use Rattle.std.proofs.lemmas.Option.{none-some}
use Rattle.prism_syntax.specs.declared.labels.Labels.{Labels}
use Rattle.prism_syntax.specs.declared.labels.Labels.TheVariants.{Allowed, Refused}
use Rattle.prism_syntax.specs.declared.tokens.Kind.{Kind}
use Rattle.prism_syntax.specs.declared.tokens.Kind.TheVariants as k
use Rattle.prism_syntax.specs.declared.tokens.Token.{Token}
use Rattle.prism_syntax.specs.declared.expressions.Expr.{Expr}
use Rattle.prism_syntax.specs.declared.expressions.Expr.TheVariants as e
use Rattle.prism_syntax.specs.declared.expressions.Func.{Func}
use Rattle.prism_syntax.specs.declared.precedence.Precedence.{Precedence}
use Rattle.prism_syntax.specs.declared.precedence.Precedence.TheVariants as rule
use Rattle.prism_syntax.specs.Precedence.{atom, function}
use Rattle.prism_syntax.specs.Tokens.{kinds}
use Rattle.prism_syntax.specs.Expressions.{Derives, IsExpr, chain, bare, sign, plain, conditional, leaf, paren, call, end}
use Rattle.prism_reading.specs.Reading.{Anything, Parses, Fails}
use Rattle.prism_reading.specs.Sequences.{Ended, ended}
use Rattle.prism_reading.proofs.DefiniteLemmas.{IsDefinite, HasText, Starts, closed, found, misses}
use Rattle.prism_reading.proofs.ReachLemmas.{heads, tails}
use Rattle.prism_reading.proofs.TerminalLemmas.{no_first}
use Rattle.prism_expression.specs.Follow.{goes_on}
use Rattle.prism_expression.proofs.CompareLemmas.{agreed}
use Rattle.prism_expression.proofs.RankLemmas.{SignOf, bang, dash, sign_of}
use Rattle.prop_parser.specs.Parts.{IsOne, one}

-- what stands in a `Some`
same_some : {X : Type 0} {x y : X} → Some x ≡ Some y → x ≡ y
same_some equal = cc

one_agree : {X : Type 0} (tree_of : Kind → Option X) (a b r s : List Kind) (x y : X) → IsOne tree_of a x → IsOne tree_of b y → a ++ r ≡ b ++ s → (r ≡ s) × (x ≡ y)
one_agree tree_of _ _ r s x y (one {t = t} is) (one {t = u} other) equal =
    (tails equal, same_some (sym is ∙ ap tree_of (heads equal) ∙ other))

-- one token is definite
pub one_definite : {X : Type 0} (tree_of : Kind → Option X) → IsDefinite (IsOne tree_of) Anything
one_definite tree_of = closed (λ a b r s x y first second _ _ equal. one_agree tree_of a b r s x y first second equal)

-- a token that has a tree
abbrev pub HasTree : {X : Type 0} → (Kind → Option X) → Kind → Type 0
HasTree {X} tree_of t = (x : X) × (tree_of t ≡ Some x)

one_some : {X : Type 0} {tree_of : Kind → Option X} (a : List Kind) (x : X) → IsOne tree_of a x → a ≡ [] → ⊥
one_some _ x (one is) equal = cc

one_first : {X : Type 0} {tree_of : Kind → Option X} (t : Kind) (l a : List Kind) (x : X) → IsOne tree_of a x → a ≡ t ∷ l → HasTree tree_of t
one_first {tree_of = tree_of} t l _ x (one is) equal = (x, ap tree_of (sym (heads equal)) ∙ is)

-- it begins with such a token
pub one_starts : {X : Type 0} (tree_of : Kind → Option X) → Starts (IsOne tree_of) (HasTree tree_of)
one_starts tree_of = record { some = λ x text. one_some [] x text refl; first = λ t a x text. one_first t a (t ∷ a) x text refl }

-- the first token has a tree
pub one_found : {X : Type 0} (tree_of : Kind → Option X) {ts rest : List Token} {x : X} (first : Token) → ts ≡ first ∷ rest → tree_of first.kind ≡ Some x → Parses (IsOne tree_of) Anything ts x rest (length rest)
one_found tree_of {ts = ts} {rest = rest} {x = x} first cut is = found ts (first ∷ []) rest x (one_definite tree_of) cut (one is) tt

-- it has none
pub one_missing : {X : Type 0} (tree_of : Kind → Option X) {ts rest : List Token} → HasText (IsOne tree_of) → (first : Token) → ts ≡ first ∷ rest → tree_of first.kind ≡ None → Fails (IsOne tree_of) Anything ts (length ts)
one_missing tree_of {ts = ts} has first cut is =
    misses ts (one_starts tree_of) has (λ t l equal tree. none-some tree.0 (sym is ∙ ap tree_of (heads (sym (ap kinds cut) ∙ equal)) ∙ tree.1))

-- there is none
pub one_none : {X : Type 0} (tree_of : Kind → Option X) {ts : List Token} → HasText (IsOne tree_of) → length ts ≡ 0 → Fails (IsOne tree_of) Anything ts (length ts)
one_none tree_of {ts = ts} has none = misses ts (one_starts tree_of) has (λ t l equal tree. no_first ts none equal)

until_agree : {labels : Labels} {l : Precedence} (stop : Kind) (a b r s : List Kind) (x y : Expr) → goes_on l stop ≡ false → Ended (Derives labels l) stop a x → Ended (Derives labels l) stop b y → a ++ r ≡ b ++ s → (r ≡ s) × (x ≡ y)
until_agree stop _ _ r s x y stops (ended {a = a} first) (ended {a = b} second) equal =
    let whole : a ++ (stop ∷ r) ≡ b ++ (stop ∷ s) = sym (append_assoc a (stop ∷ []) r) ∙ equal ∙ append_assoc b (stop ∷ []) s in
    let same = agreed first second whole stops stops in
    (tails same.1, same.2)

-- a text of a level up to a token that does not go on it is definite
pub until_definite : (labels : Labels) (l : Precedence) (stop : Kind) → goes_on l stop ≡ false → IsDefinite (Ended (Derives labels l) stop) Anything
until_definite labels l stop stops = closed (λ a b r s x y first second _ _ equal. until_agree stop a b r s x y stops first second equal)

-- `true` is an expression, and a sum
pub true_sum : Derives Allowed rule.Sum (k.True ∷ []) (e.Truth true)
true_sum = chain refl (chain refl (bare refl (leaf refl)) end) end

pub true_text : IsExpr Allowed (k.True ∷ []) (e.Truth true)
true_text = plain (chain refl (chain refl (chain refl (chain refl (bare refl (chain refl (chain refl true_sum end) end)) end) end) end) end)

-- a state formula up to a token
pub state_has : (stop : Kind) → HasText (Ended (IsExpr Allowed) stop)
state_has stop = record { tokens = k.True ∷ (stop ∷ []); tree = e.Truth true; text = ended true_text }

-- a bound up to a token
pub bound_has : (stop : Kind) → HasText (Ended (Derives Allowed rule.Sum) stop)
bound_has stop = record { tokens = k.True ∷ (stop ∷ []); tree = e.Truth true; text = ended true_sum }

-- a token other than the words of path formulas
pub record IsNoPathWord (t : Kind) : Type 0 where
  pub next : t ≡ k.X → ⊥
  pub finally : t ≡ k.F → ⊥
  pub globally : t ≡ k.G → ⊥

-- the tokens begin with such a token
pub data BeginsState : List Kind → Type 0 where
  begins : {t : Kind} (ts : List Kind) → IsNoPathWord t → BeginsState (t ∷ ts)

-- and go on
begins_more : {ks : List Kind} (more : List Kind) → BeginsState ks → BeginsState (ks ++ more)
begins_more more (begins ts is) = begins (ts ++ more) is

sign_word : {l : Precedence} {t : Kind} → SignOf l t → IsNoPathWord t
sign_word bang = record { next = λ is. cc; finally = λ is. cc; globally = λ is. cc }
sign_word dash = record { next = λ is. cc; finally = λ is. cc; globally = λ is. cc }

atom_word : (labels : Labels) (t : Kind) (x : Expr) → atom labels t ≡ Some x → IsNoPathWord t
atom_word labels t x found = record {
  next = λ is. none labels k.X refl (sym (ap (atom labels) is) ∙ found);
  finally = λ is. nothing labels k.F refl (sym (ap (atom labels) is) ∙ found);
  globally = λ is. never labels k.G refl (sym (ap (atom labels) is) ∙ found);
}
  where
    none : (p : Labels) (u : Kind) → u ≡ k.X → atom p k.X ≡ Some x → ⊥
    none Allowed u is found = none-some x found
    none Refused u is found = none-some x found

    nothing : (p : Labels) (u : Kind) → u ≡ k.F → atom p k.F ≡ Some x → ⊥
    nothing Allowed u is found = none-some x found
    nothing Refused u is found = none-some x found

    never : (p : Labels) (u : Kind) → u ≡ k.G → atom p k.G ≡ Some x → ⊥
    never Allowed u is found = none-some x found
    never Refused u is found = none-some x found

function_word : (t : Kind) (f : Func) → function t ≡ Some f → IsNoPathWord t
function_word t f found = record {
  next = λ is. none-some f (sym (ap function is) ∙ found);
  finally = λ is. none-some f (sym (ap function is) ∙ found);
  globally = λ is. none-some f (sym (ap function is) ∙ found);
}

-- no expression begins with a word of path formulas
pub text_begins_state : {labels : Labels} {l : Precedence} {ks : List Kind} {x : Expr} → Derives labels l ks x → BeginsState ks
text_begins_state (chain {b = b} is_true operand links) = begins_more b (text_begins_state operand)
text_begins_state (bare is_true operand) = text_begins_state operand
text_begins_state {l = l} (sign {t = t} {a = a} is_true operand) = begins a (sign_word (sign_of l t is_true))
text_begins_state (plain first) = text_begins_state first
text_begins_state (conditional {b = b} {c = c} first second third) = begins_more (k.Query ∷ (b ++ (k.Colon ∷ c))) (text_begins_state first)
text_begins_state {labels = labels} (leaf {t = t} {x = x} found) = begins [] (atom_word labels t x found)
text_begins_state (paren {a = a} inside) = begins (a ++ (k.Close ∷ [])) (record { next = λ is. cc; finally = λ is. cc; globally = λ is. cc })
text_begins_state (call {t = t} {f = f} {a = a} {b = b} found fits first parts) = begins (k.Open ∷ (a ++ (b ++ (k.Close ∷ [])))) (function_word t f found)

state_some : {stop : Kind} (a : List Kind) (x : Expr) → Ended (IsExpr Allowed) stop a x → a ≡ [] → ⊥
state_some _ x (ended {a = []} text) equal = cc
state_some _ x (ended {a = t ∷ a} text) equal = cc

word_of_first : {t : Kind} {l ks : List Kind} → BeginsState ks → ks ≡ t ∷ l → IsNoPathWord t
word_of_first (begins ts is) equal = subst IsNoPathWord (heads equal) is

state_first : {stop : Kind} (t : Kind) (l a : List Kind) (x : Expr) → Ended (IsExpr Allowed) stop a x → a ≡ t ∷ l → IsNoPathWord t
state_first {stop = stop} t l _ x (ended text) equal = word_of_first (begins_more (stop ∷ []) (text_begins_state text)) equal

-- so a state formula begins with another token
pub state_starts : (stop : Kind) → Starts (Ended (IsExpr Allowed) stop) IsNoPathWord
state_starts stop = record { some = λ x text. state_some [] x text refl; first = λ t a x text. state_first t a (t ∷ a) x text refl }
