-- Tokens that are refused by name.
use Rattle.std.proofs.Common.{◌≡◌, ◌+◌, ℕ, Bool, true, false, ◌||◌, ◌&&◌, List, [], ◌∷◌, ◌++◌, codes, ◌⊎◌, inl, inr, ⊎_elim, ◌↔◌, refl, sym, ap, subst, arith}
use Rattle.std.specs.Prelude.{IsTrue, bytes_eq}
use Rattle.std.specs.Cmp.Lexicographic.{bytes_decides}
use Rattle.std.proofs.lemmas.Bool.{and_parts, or_cases, or_left, or_right}
use Rattle.prism_syntax.specs.declared.tokens.Kind.{Kind}
use Rattle.prism_syntax.specs.declared.tokens.Kind.TheVariants as k
use Rattle.prism_syntax.specs.Spelling.{is_refused}
use Rattle.prism_limits.specs.declared.kinds.TextKind.{TextKind}
use Rattle.prism_limits.specs.Places.{IsFirst}
use Rattle.prism_limits.specs.Words.{refuses_word, IsRefused, word, log, round, HasRefusedWord, EndsInRewards, is_left_out, begins_open}
use Rattle.prism_limits.specs.ChainWalk.{inside_after}
use Rattle.prism_limits.proofs.PlaceLemmas.{Walks, cuts_start, cuts_stands, cuts_same, stands_within, walk_next, walk_found, walk_none}
use Rattle.prism_limits.proofs.RewardsLemmas.{Knows, starts_outside, inside_next}

-- the test that a token is refused where these tokens follow it
abbrev pub refuses : TextKind → Kind → List Kind → Bool
refuses text token after = refuses_word text token || (is_left_out token && begins_open after)

-- tokens that begin with `(` are `(` and others
opened : (after : List Kind) → begins_open after ≡ true → (rest : List Kind) × (after ≡ k.Open ∷ rest)
opened [] begins = absurd (cc)
opened (k.Open ∷ rest) begins = (rest, refl)
opened (_ ∷ rest) begins = absurd (cc)

-- a name that is left out is one of two
left_out : (token : Kind) → is_left_out token ≡ true → (token ≡ k.Name (codes "log")) ⊎ (token ≡ k.Name (codes "round"))
left_out (k.Name text) out =
    ⊎_elim (λ (first : bytes_eq text (codes "log") ≡ true). inl (ap k.Name ((bytes_decides text (codes "log")).0 first)))
    (λ (second : bytes_eq text (codes "round") ≡ true). inr (ap k.Name ((bytes_decides text (codes "round")).0 second)))
    (or_cases _ _ out)
left_out _ out = absurd (cc)

-- a left out name before `(` is refused
left_out_refused : {text : TextKind} (token : Kind) (after : List Kind) → is_left_out token ≡ true → begins_open after ≡ true → IsRefused text token after
left_out_refused {text = text} token after out begins =
    let rest = opened after begins in
    ⊎_elim
    (λ (name : token ≡ k.Name (codes "log")). subst (λ (t : Kind). IsRefused text t after) (sym name) (subst (λ (ts : List Kind). IsRefused text (k.Name (codes "log")) ts) (sym rest.1) (log rest.0)))
    (λ (name : token ≡ k.Name (codes "round")). subst (λ (t : Kind). IsRefused text t after) (sym name) (subst (λ (ts : List Kind). IsRefused text (k.Name (codes "round")) ts) (sym rest.1) (round rest.0)))
    (left_out token out)

refuses_sound : (text : TextKind) (token : Kind) (after : List Kind) → IsTrue (refuses text token after) → IsRefused text token after
refuses_sound text token after test =
    ⊎_elim (λ (refused : refuses_word text token ≡ true). word token after refused)
    (λ (name : (is_left_out token && begins_open after) ≡ true). let parts = and_parts _ _ name in left_out_refused token after parts.0 parts.1)
    (or_cases _ _ test)

refuses_whole : (text : TextKind) (token : Kind) (after : List Kind) → IsRefused text token after → IsTrue (refuses text token after)
refuses_whole text _ _ (word token after refused) = or_left _ _ refused
refuses_whole text _ _ (log after) = or_right _ _ refl
refuses_whole text _ _ (round after) = or_right _ _ refl

-- the test decides whether a token is refused
pub refuses_exact : (text : TextKind) (token : Kind) (after : List Kind) → IsTrue (refuses text token after) ↔ IsRefused text token after
refuses_exact text token after = (refuses_sound text token after, refuses_whole text token after)

-- a result that is this test decides whether a token is refused
pub refuses_by : (text : TextKind) (result : Bool) (token : Kind) (after : List Kind) → result ≡ refuses text token after → IsTrue result ↔ IsRefused text token after
refuses_by text result token after same = subst (λ (b : Bool). IsTrue b ↔ IsRefused text token after) (sym same) (refuses_exact text token after)

-- a walk that looks for a refused word
abbrev pub Looks : TextKind → Bool → List Kind → List Kind → ℕ → Type 0
Looks text inside tokens rest index = Walks (Knows inside) (HasRefusedWord text tokens) tokens rest index

-- where the walk begins
pub look_start : (text : TextKind) (tokens : List Kind) → Looks text false tokens tokens 0
look_start text tokens = record {
  before = [];
  cuts = cuts_start tokens;
  known = (λ is_true. absurd (cc), λ ends. absurd (starts_outside ends));
  none = λ other below _. absurd (omega arith);
}

-- a refused word at the walk's place stands after the tokens that were walked over
here : {text : TextKind} {inside : Bool} {tokens rest : List Kind} {token : Kind} {index : ℕ} → Looks text inside tokens (token ∷ rest) index → HasRefusedWord text tokens index → IsRefused text token rest × (inside ≡ true → ⊥)
here {text = text} {inside = inside} {rest = rest} {token = token} walk has =
    let same = cuts_same walk.cuts has.stands in
    let refused : IsRefused text token has.after = subst (λ (t : Kind). IsRefused text t has.after) (sym same.token_same) has.refused in (
      subst (λ (ts : List Kind). IsRefused text token ts) (sym same.rest_same) refused,
      λ was. has.outside (subst EndsInRewards same.before_same (walk.known.0 was)),
    )

-- the walk goes on past a token that is not refused, or that stands in a rewards block
pub look_next : {text : TextKind} {inside next : Bool} {tokens rest : List Kind} {token : Kind} {index : ℕ} → Looks text inside tokens (token ∷ rest) index
    → ((inside ≡ true) ⊎ (IsRefused text token rest → ⊥)) → next ≡ inside_after inside token → Looks text next tokens rest (index + 1)
look_next {text = text} {inside = inside} {rest = rest} {token = token} walk passed after =
    walk_next walk (λ has.
    let found = here walk has in
    ⊎_elim (λ (was : inside ≡ true). found.1 was) (λ (not_refused : IsRefused text token rest → ⊥). not_refused found.0) passed)
    (subst (λ b. Knows b (walk.before ++ (token ∷ []))) (sym after) (inside_next inside token walk.before walk.known))

-- the walk has come to a refused word
pub look_found : {text : TextKind} {inside : Bool} {tokens rest : List Kind} {token : Kind} {index : ℕ} → Looks text inside tokens (token ∷ rest) index → inside ≡ false → IsRefused text token rest → IsFirst (HasRefusedWord text tokens) index
look_found {rest = rest} {token = token} walk outside refused =
    walk_found walk (record { before = walk.before; token = token; after = rest; stands = cuts_stands walk.cuts; refused = refused; outside = λ ends. let was = walk.known.1 ends in cc })

-- the walk has come to the end
pub look_none : {text : TextKind} {inside : Bool} {tokens : List Kind} {index : ℕ} → Looks text inside tokens [] index → (other : ℕ) → HasRefusedWord text tokens other → ⊥
look_none walk = walk_none walk (λ other has. stands_within has.stands)

-- a token is passed over where the walk is inside a rewards block, or where it is not refused
pub passed : {text : TextKind} {refused inside : Bool} {token : Kind} {after : List Kind} → (IsTrue refused ↔ IsRefused text token after) → (((refused ≡ true) × (inside ≡ true)) ⊎ (refused ≡ false)) → ((inside ≡ true) ⊎ (IsRefused text token after → ⊥))
passed {refused = refused} {inside = inside} exact either =
    ⊎_elim (λ (open_block : (refused ≡ true) × (inside ≡ true)). inl open_block.1)
    (λ (not_refused : refused ≡ false). inr (λ has. let is_true = exact.1 has in cc))
    either
