-- The modules that take part in an action.
use Rattle.std.proofs.Common.{◌≡◌, ◌==◌, ◌||◌, ◌&&◌, ℕ, Bool, true, false, List, [], ◌∷◌, All, get_or, refl, sym, ap, ◌∙◌, subst, inl, inr}
use Rattle.std.specs.List.{list_any}
use Rattle.std.specs.Option.{option_map_or}
use Rattle.std.proofs.lemmas.Bool.{cases_Bool, cases_eq, ne_eqb, eq-eqb, eqb-true, and_parts, and_from, false_from_ne_true, true≢false}
use Rattle.std.proofs.lemmas.List.Elements.{All-head, All-tail}
use Rattle.std.proofs.lemmas.List.Folds.{list_any_at}
use Rattle.chain_model.specs.declared.chain.Act.{Act}
use Rattle.chain_model.specs.Chain.{is_part, TakesExactly}

-- a test that holds of each of several modules holds of one that is among them
among_passes : (f : ℕ → Bool) (owner : ℕ) (modules : List ℕ) → All (λ m. f m ≡ true) modules
    → list_any (λ n. n == owner) modules ≡ true → f owner ≡ true
among_passes f owner [] each found = cc
among_passes f owner (m ∷ ms) each found =
    elim (cases_eq m owner) [
      | inl same ↦ subst (λ (n : ℕ). f n ≡ true) same (All-head (λ n. f n ≡ true) m ms each)
      | inr other ↦
          among_passes f owner ms (All-tail (λ n. f n ≡ true) m ms each)
          (sym (ap (λ (b : Bool). b || list_any (λ n. n == owner) ms) (ne_eqb m owner other)) ∙ found)
    ]

-- a test that holds of the module of each command with an action holds of a module that has one
part_passes : (g : ℕ → Bool) (action owner : ℕ) (commands : List Act)
    → All (λ act. is_part action act.module act ≡ true → g act.module ≡ true) commands
    → list_any (is_part action owner) commands ≡ true → g owner ≡ true
part_passes g action owner [] each found = cc
part_passes g action owner (act ∷ acts) each found =
    elim (cases_Bool (is_part action owner act)) [
      | inl part ↦
          let parts : (option_map_or (λ a. a == action) act.action false ≡ true) × ((act.module == owner) ≡ true) =
          and_parts (option_map_or (λ a. a == action) act.action false) (act.module == owner) part in
          let own : is_part action act.module act ≡ true =
          and_from (option_map_or (λ a. a == action) act.action false) (act.module == act.module) parts.0 (eq-eqb act.module act.module refl) in
          subst (λ (n : ℕ). g n ≡ true) (eqb-true act.module owner parts.1)
          (All-head (λ (a : Act). is_part action a.module a ≡ true → g a.module ≡ true) act acts each own)
      | inr none ↦
          part_passes g action owner acts
          (All-tail (λ (a : Act). is_part action a.module a ≡ true → g a.module ≡ true) act acts each)
          (sym (ap (λ (b : Bool). b || list_any (is_part action owner) acts) none) ∙ found)
    ]

-- two tests that hold together are one
same_test : (a b : Bool) → (a ≡ true → b ≡ true) → (b ≡ true → a ≡ true) → a ≡ b
same_test true b there back = sym (there refl)
same_test false b there back = sym (false_from_ne_true b (λ holds. true≢false (sym (back holds))))

-- modules are exact where each has a command with the action, and the module of each such command is among them
pub exact-from_parts : (commands : List Act) (action : ℕ) (modules : List ℕ)
    → All (λ owner. list_any (is_part action owner) commands ≡ true) modules
    → All (λ act. is_part action act.module act ≡ true → list_any (λ n. n == act.module) modules ≡ true) commands
    → TakesExactly commands action modules
exact-from_parts commands action modules each_module each_command owner =
    same_test (list_any (λ n. n == owner) modules) (list_any (is_part action owner) commands)
    (among_passes (λ m. list_any (is_part action m) commands) owner modules each_module)
    (part_passes (λ m. list_any (λ n. n == m) modules) action owner commands each_command)

-- where modules are exact each has a command with the action
pub part-from_exact : (commands : List Act) (action : ℕ) (modules : List ℕ) → TakesExactly commands action modules
    → All (λ owner. list_any (is_part action owner) commands ≡ true) modules
part-from_exact commands action modules exact k d within =
    sym (exact (get_or modules k d))
    ∙ list_any_at (λ n. n == get_or modules k d) modules k d within (eq-eqb (get_or modules k d) (get_or modules k d) refl)

-- and the module of each command with the action is among them
pub among-from_exact : (commands : List Act) (action : ℕ) (modules : List ℕ) → TakesExactly commands action modules
    → All (λ act. is_part action act.module act ≡ true → list_any (λ n. n == act.module) modules ≡ true) commands
among-from_exact commands action modules exact k d within part =
    exact (get_or commands k d).module
    ∙ list_any_at (is_part action (get_or commands k d).module) commands k d within part
