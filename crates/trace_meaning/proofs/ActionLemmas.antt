-- There are at most as many actions as commands, since each action has a command and a command has at most one action.
use Rattle.std.proofs.Common.{◌≡◌, ◌==◌, ◌&&◌, ◌||◌, ℕ, zero, suc, ◌≤◌, List, [], ◌∷◌, length, get_or, Bool, true, false, refl, sym, ap, ◌∙◌, inl, inr, arith, nat_lt}
use Rattle.std.specs.Prelude.{Option, Some, None}
use Rattle.std.specs.List.{list_any}
use Rattle.std.specs.Option.{option_map_or}
use Rattle.std.proofs.lemmas.Bool.{cases_Bool, cases_lt, lt-ltb, le-ltb, eq-eqb, eqb-true}
use Rattle.std.proofs.lemmas.List.Folds.{list_any_at}
use Rattle.chain_model.specs.declared.chain.Act.{Act}
use Rattle.chain_model.specs.declared.chain.Action.{Action}
use Rattle.chain_model.specs.declared.chain.Chain.{Chain}
use Rattle.chain_model.specs.Chain.{is_part, IsAction}

-- a command's action has a number below another
abbrev is_below : ℕ → Option ℕ → Bool
is_below n None = false
is_below n (Some action) = nat_lt action n

-- one more, where a command counts
abbrev counted : Bool → ℕ → ℕ
counted true rest = suc rest
counted false rest = rest

-- how many commands have an action with a number below another
abbrev commands_below : ℕ → List Act → ℕ
commands_below n [] = 0
commands_below n (act ∷ acts) = counted (is_below n act.action) (commands_below n acts)

-- a command counts once at most
counted-le : (b : Bool) (rest most : ℕ) → rest ≤ most → counted b rest ≤ suc most
counted-le true rest most few = omega (arith, few)
counted-le false rest most few = omega (arith, few)

-- so there are at most as many as commands
below-le : (n : ℕ) (acts : List Act) → commands_below n acts ≤ length acts
below-le n [] = omega arith
below-le n (act ∷ acts) = counted-le (is_below n act.action) (commands_below n acts) (length acts) (below-le n acts)

-- with one more number there are no fewer, and one more where the command has it
counted-grows : (action : Option ℕ) (n rest more : ℕ) → rest ≤ more → counted (is_below n action) rest ≤ counted (is_below (suc n) action) more
counted-grows None n rest more grows = grows
counted-grows (Some action) n rest more grows =
    elim (cases_lt action n) [
      | inl below ↦
          let now : nat_lt action n ≡ true = lt-ltb action n below in
          let then_too : nat_lt action (suc n) ≡ true = lt-ltb action (suc n) (omega (arith, below)) in
          let left : counted (nat_lt action n) rest ≡ suc rest = ap (λ b. counted b rest) now in
          let right : counted (nat_lt action (suc n)) more ≡ suc more = ap (λ b. counted b more) then_too in
          omega (arith, left, right, grows)
      | inr past ↦
          let now : nat_lt action n ≡ false = le-ltb action n past in
          let left : counted (nat_lt action n) rest ≡ rest = ap (λ b. counted b rest) now in
          elim (cases_lt action (suc n)) [
            | inl below ↦
                let right : counted (nat_lt action (suc n)) more ≡ suc more = ap (λ b. counted b more) (lt-ltb action (suc n) below) in
                omega (arith, left, right, grows)
            | inr above ↦
                let right : counted (nat_lt action (suc n)) more ≡ more = ap (λ b. counted b more) (le-ltb action (suc n) above) in
                omega (arith, left, right, grows)
          ]
    ]

-- no fewer commands are below the next number
below-grows : (n : ℕ) (acts : List Act) → commands_below n acts ≤ commands_below (suc n) acts
below-grows n [] = omega arith
below-grows n (act ∷ acts) =
    counted-grows act.action n (commands_below n acts) (commands_below (suc n) acts) (below-grows n acts)

-- the command of a module with this action has this action
part_action : (n owner : ℕ) (action : Option ℕ) (same : Bool) → (option_map_or (λ a. a == n) action false && same) ≡ true → action ≡ Some n
part_action n owner None same holds = absurd (cc)
part_action n owner (Some a) same holds =
    elim (cases_Bool (a == n)) [
      | inl is ↦ ap Some (eqb-true a n is)
      | inr other ↦
          let no : (false && same) ≡ true = ap (λ b. b && same) (sym other) ∙ holds in
          absurd (cc)
    ]

-- the command with a number is below the next one alone
counted-more : (n : ℕ) (action : Option ℕ) (rest more : ℕ) → action ≡ Some n → rest ≤ more
    → suc (counted (is_below n action) rest) ≤ counted (is_below (suc n) action) more
counted-more n action rest more is grows =
    let left : counted (is_below n action) rest ≡ rest =
    ap (λ a. counted (is_below n a) rest) is ∙ ap (λ b. counted b rest) (le-ltb n n (omega arith)) in
    let right : counted (is_below (suc n) action) more ≡ suc more =
    ap (λ a. counted (is_below (suc n) a) more) is ∙ ap (λ b. counted b more) (lt-ltb n (suc n) (omega arith)) in
    omega (arith, left, right, grows)

-- where one more of the other commands is below the next number, so is one more of all
counted-both : (action : Option ℕ) (n rest more : ℕ) → suc rest ≤ more
    → suc (counted (is_below n action) rest) ≤ counted (is_below (suc n) action) more
counted-both None n rest more grows = grows
counted-both (Some action) n rest more grows =
    let more_than : counted (is_below n (Some action)) (suc rest) ≤ counted (is_below (suc n) (Some action)) more =
    counted-grows (Some action) n (suc rest) more grows in
    elim (cases_Bool (nat_lt action n)) [
      | inl is_true ↦
          let left : counted (nat_lt action n) rest ≡ suc rest = ap (λ b. counted b rest) is_true in
          let wider : counted (nat_lt action n) (suc rest) ≡ suc (suc rest) = ap (λ b. counted b (suc rest)) is_true in
          omega (arith, left, wider, more_than)
      | inr is_false ↦
          let left : counted (nat_lt action n) rest ≡ rest = ap (λ b. counted b rest) is_false in
          let wider : counted (nat_lt action n) (suc rest) ≡ suc rest = ap (λ b. counted b (suc rest)) is_false in
          omega (arith, left, wider, more_than)
    ]

-- where a command has the number, one more is below the next
below-more : (n owner : ℕ) (acts : List Act) → list_any (is_part n owner) acts ≡ true → suc (commands_below n acts) ≤ commands_below (suc n) acts
below-more n owner [] some = absurd (cc)
below-more n owner (act ∷ acts) some =
    elim (cases_Bool (is_part n owner act)) [
      | inl here ↦
          counted-more n act.action (commands_below n acts) (commands_below (suc n) acts)
          (part_action n owner act.action (act.module == owner) here) (below-grows n acts)
      | inr other ↦
          counted-both act.action n (commands_below n acts) (commands_below (suc n) acts)
          (below-more n owner acts (sym (ap (λ (b : Bool). b || list_any (is_part n owner) acts) other) ∙ some))
    ]

-- each action below a number has a command
all_below : (chain : Chain) (n : ℕ) → n ≤ length chain.actions → n ≤ commands_below n chain.commands
all_below chain zero within = omega arith
all_below chain (suc n) within =
    let none : Action = record { name = []; takes = [] } in
    let action : Action = get_or chain.actions n none in
    let fits : IsAction chain.commands n action = chain.well_formed.each_action.each n none (omega (arith, within)) in
    let owner : ℕ = get_or action.takes 0 0 in
    let among : list_any (λ m. m == owner) action.takes ≡ true =
    list_any_at (λ m. m == owner) action.takes 0 0 (omega (arith, fits.some)) (eq-eqb owner owner refl) in
    omega (arith, all_below chain n (omega (arith, within)), below-more n owner chain.commands (sym (fits.exact owner) ∙ among))

-- a chain has at most 4,096 actions
pub actions_few : (chain : Chain) → length chain.actions ≤ 4096
actions_few chain =
    omega (
      arith,
      all_below chain (length chain.actions) (omega arith),
      below-le (length chain.actions) chain.commands,
      chain.well_formed.few_commands,
    )
