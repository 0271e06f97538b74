-- Which group a choice is in, and that the groups make the choices of a state.
use Rattle.std.proofs.Math.Seq.{drop-cons}
use Rattle.std.proofs.Common.{◌≡◌, ℕ, suc, ◌+◌, ◌-◌, ◌<◌, ◌≤◌, ◌^◌, List, [], ◌∷◌, ◌++◌, length, get_or, map, min, drop, refl, sym, ap, ◌∙◌, add-one, arith, length-append, append_assoc}
use Rattle.std.specs.Prelude.{slice_get, flat_map, filter, Option, Some, option_map}
use Rattle.std.specs.List.{enumerate_from}
use Rattle.std.proofs.lemmas.Grind.{flat_map-append}
use Rattle.std.proofs.lemmas.List.{length-map}
use Rattle.chain_model.specs.declared.chain.Chain.{Chain}
use Rattle.chain_model.specs.declared.chain.Action.{Action}
use Rattle.chain_model.specs.declared.chain.Act.{Act}
use Rattle.chain_model.specs.declared.steps.Choice.{Choice}
use Rattle.chain_model.specs.Chain.{is_unlabelled}
use Rattle.chain_model.specs.Choices.{combinations, choices_among, command_is, single_choice, action_choices}
use Rattle.trace_meaning.specs.declared.groups.Group.{Group}
use Rattle.trace_meaning.specs.Groups.{group_choices, single_group, action_group, groups_of}
use Rattle.trace_meaning.proofs.CombinationLemmas.{get_front, get_back, get_mapped}

-- a group has as many choices as there are combinations of its parts
pub group_size : (group : Group) → length (group_choices group) ≡ length (combinations group.parts)
group_size group = length-map (combinations group.parts) (λ (commands : List ℕ). record { action = group.action; commands = commands })

-- and they stand in the order of these
pub group_nth : (group : Group) (number : ℕ) (commands : List ℕ) → slice_get (combinations group.parts) number ≡ Some commands
    → slice_get (group_choices group) number ≡ Some (record { action = group.action; commands = commands })
group_nth group number commands is =
    get_mapped (λ (commands : List ℕ). record { action = group.action; commands = commands }) (combinations group.parts) number
    ∙ ap (option_map (λ (commands : List ℕ). record { action = group.action; commands = commands })) is

-- a choice stands among the groups that are left
pub record Found (groups : List Group) (i left : ℕ) (whole : Option Choice) : Type 0 where
  pub there : left < length (flat_map group_choices (drop i groups))
  pub few : length (flat_map group_choices (drop i groups)) ≤ 2 ^ 48
  pub same : slice_get (flat_map group_choices (drop i groups)) left ≡ whole

-- the groups that are left are this one and the others
pub record Cut (groups : List Group) (i : ℕ) (group : Group) : Type 0 where
  pub lists : flat_map group_choices (drop i groups) ≡ group_choices group ++ flat_map group_choices (drop (i + 1) groups)
  pub size : length (flat_map group_choices (drop i groups)) ≡ length (group_choices group) + length (flat_map group_choices (drop (i + 1) groups))

pub cut_at : (groups : List Group) (i : ℕ) (group : Group) → i < length groups → group ≡ get_or groups i group → Cut groups i group
cut_at groups i group lt is =
    let cut : drop i groups ≡ group ∷ drop (i + 1) groups = drop-cons groups i group lt ∙ ap (λ g. g ∷ drop (suc i) groups) (sym is) ∙ ap (λ k. group ∷ drop k groups) (sym (add-one i)) in
    let lists = ap (flat_map group_choices) cut in
    record { lists = lists; size = ap length lists ∙ length-append (group_choices group) (flat_map group_choices (drop (i + 1) groups)) }

pub here : (groups : List Group) (i left many : ℕ) (group : Group) (whole : Option Choice) → i < length groups → group ≡ get_or groups i group → Found groups i left whole
    → many ≡ min (length (group_choices group)) (2 ^ 48 + 1) → left < many → slice_get (group_choices group) left ≡ whole
here groups i left many group whole lt is so counted less =
    let c = cut_at groups i group lt is in
    sym (get_front (group_choices group) (flat_map group_choices (drop (i + 1) groups)) left (omega (arith, counted, less))) ∙ sym (ap (λ ls. slice_get ls left) c.lists) ∙ so.same

pub fits_here : (groups : List Group) (i left many : ℕ) (group : Group) (whole : Option Choice) → i < length groups → group ≡ get_or groups i group → Found groups i left whole
    → many ≡ min (length (group_choices group)) (2 ^ 48 + 1) → left < many → (left < length (group_choices group)) × (length (group_choices group) ≤ 2 ^ 48)
fits_here groups i left many group whole lt is so counted less = let c = cut_at groups i group lt is in (omega (arith, counted, less), omega (arith, c.size, so.few))

pub further : (groups : List Group) (i left many : ℕ) (group : Group) (whole : Option Choice) → i < length groups → group ≡ get_or groups i group → Found groups i left whole
    → many ≡ min (length (group_choices group)) (2 ^ 48 + 1) → many ≤ left → Found groups (i + 1) (left - many) whole
further groups i left many group whole lt is so counted more =
    let c = cut_at groups i group lt is in
    let exact : many ≡ length (group_choices group) = omega (arith, counted, c.size, so.few) in
    record {
      there = omega (arith, exact, more, c.size, so.there);
      few = omega (arith, c.size, so.few);
      same = sym (get_back (group_choices group) (flat_map group_choices (drop (i + 1) groups)) (left - many) left (omega (arith, exact, more))) ∙ sym (ap (λ ls. slice_get ls left) c.lists) ∙ so.same;
    }

-- a command without an action is a group of one choice
single_groups-choices : (numbers : List ℕ) → flat_map group_choices (map single_group numbers) ≡ map single_choice numbers
single_groups-choices [] = refl
single_groups-choices (n ∷ ns) = ap (λ ls. single_choice n ∷ ls) (single_groups-choices ns)

action_groups-choices : (acts : List Act) (enabled : List ℕ) (actions : List (ℕ × Action))
    → flat_map group_choices (map (action_group acts enabled) actions) ≡ flat_map (λ action. action_choices acts enabled action.0 action.1.takes) actions
action_groups-choices acts enabled [] = refl
action_groups-choices acts enabled (action ∷ actions) =
    ap (λ ls. action_choices acts enabled action.0 action.1.takes ++ ls) (action_groups-choices acts enabled actions)

-- the groups make the choices
pub groups_choices : (chain : Chain) (enabled : List ℕ) → flat_map group_choices (groups_of chain enabled) ≡ choices_among chain enabled
groups_choices chain enabled =
    let numbers : List ℕ = filter (command_is is_unlabelled chain.commands) enabled in
    let actions : List (ℕ × Action) = enumerate_from 0 chain.actions in
    flat_map-append group_choices (map single_group numbers) (map (action_group chain.commands enabled) actions)
    ∙ ap (λ ls. ls ++ flat_map group_choices (map (action_group chain.commands enabled) actions)) (single_groups-choices numbers)
    ∙ ap (λ ls. map single_choice numbers ++ ls) (action_groups-choices chain.commands enabled actions)

-- one more is pushed
pub pushed_next : {A B : Type 0} (f : A → B) (xs : List A) (i : ℕ) (d : A) (y : B) (out new whole : List B) → i < length xs → y ≡ f (get_or xs i d) → new ≡ out ++ (y ∷ [])
    → out ++ map f (drop i xs) ≡ whole → new ++ map f (drop (i + 1) xs) ≡ whole
pushed_next f xs i d y out new whole lt is more so =
    ap (λ ls. ls ++ map f (drop (i + 1) xs)) more
    ∙ append_assoc out (y ∷ []) (map f (drop (i + 1) xs))
    ∙ ap (λ z. out ++ (z ∷ map f (drop (i + 1) xs))) is
    ∙ ap (λ k. out ++ map f (get_or xs i d ∷ drop k xs)) (add-one i)
    ∙ ap (λ ls. out ++ map f ls) (sym (drop-cons xs i d lt)) ∙ so
