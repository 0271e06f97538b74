-- The words that are refused by name.
use Rattle.std.specs.Prelude.{◌≡◌, ℕ, List, [], ◌∷◌, ◌++◌, ◌||◌, ◌&&◌, not, codes, bytes_eq, unwrap_or, All, Bool, true, false}
use Rattle.prism_syntax.specs.declared.tokens.Kind.{Kind}
use Rattle.prism_syntax.specs.declared.tokens.Kind.TheVariants as k
use Rattle.prism_syntax.specs.Spelling.{is_refused, spelling_of}
use Rattle.prism_limits.specs.declared.kinds.TextKind.{TextKind}
use Rattle.prism_limits.specs.declared.kinds.TextKind.TheVariants.{Nested}
use Rattle.prism_limits.specs.Places.{StandsAt}

-- a reserved word that is an operator in texts of this kind, though others refuse it
abbrev pub has_operator : TextKind → Kind → Bool
has_operator Nested k.W = true
has_operator Nested k.R = true
has_operator _ _ = false

-- a reserved word of the language that texts of this kind refuse: those that the profile leaves out, but for their
-- operators
abbrev pub refuses_word : TextKind → Kind → Bool
refuses_word text token = is_refused token && not (has_operator text token)

-- a token that is refused where these tokens follow it: a reserved word that texts of this kind refuse, or the name
-- `log` or `round` with `(` after it
pub data IsRefused (text : TextKind) : Kind → List Kind → Type 0 where
  word : (token : Kind) (after : List Kind) → refuses_word text token ≡ true → IsRefused text token after
  log : (after : List Kind) → IsRefused text (k.Name (codes "log")) (k.Open ∷ after)
  round : (after : List Kind) → IsRefused text (k.Name (codes "round")) (k.Open ∷ after)

-- tokens that end inside a rewards block: the word `rewards`, after which `endrewards` has not come
pub record EndsInRewards (tokens : List Kind) : Type 0 where
  pub before : List Kind
  pub inside : List Kind
  pub cut : tokens ≡ before ++ (k.Rewards ∷ inside)
  pub unended : All (λ token. token ≡ k.EndRewards → ⊥) inside

-- the token with this index is refused by name, and stands outside each rewards block
pub record HasRefusedWord (text : TextKind) (tokens : List Kind) (index : ℕ) : Type 0 where
  pub before : List Kind
  pub token : Kind
  pub after : List Kind
  pub stands : StandsAt tokens index before token after
  pub refused : IsRefused text token after
  pub outside : EndsInRewards before → ⊥

-- the word of a token: its spelling, or the text of a name; a number has none
abbrev pub word_of : Kind → List ℕ
word_of (k.Name text) = text
word_of (k.Quoted text) = text
word_of kind = unwrap_or (spelling_of kind) []

-- the name `log` or `round`, which is refused where `(` follows it
abbrev pub is_left_out : Kind → Bool
is_left_out (k.Name text) = bytes_eq text (codes "log") || bytes_eq text (codes "round")
is_left_out _ = false

-- the tokens begin with `(`
abbrev pub begins_open : List Kind → Bool
begins_open (k.Open ∷ tokens) = true
begins_open _ = false
