-- The expressions of a job, added one after another; and its commands.
use Rattle.std.proofs.Common.{◌≡◌, ℕ, ◌+◌, ◌<◌, List, [], ◌∷◌, ◌++◌, map, length, get_or, take, refl, sym, ap, ◌∙◌, subst, append_assoc}
use Rattle.std.specs.Prelude.{flat_map}
use Rattle.std.proofs.lemmas.List.{map-append, take_more}
use Rattle.chain_model.specs.declared.expressions.Typed.{Typed}
use Rattle.chain_model.specs.declared.chain.Arm.{Arm}
use Rattle.chain_model.specs.declared.chain.Act.{Act}
use Rattle.chain_model.specs.States.{State}
use Rattle.chain_model.specs.Choices.{no_labels}
use Rattle.guard_code.specs.declared.nodes.Node.{Node}
use Rattle.guard_code.specs.declared.code.Command.{Command}
use Rattle.guard_code.specs.Tests.{IsSmall}
use Rattle.guard_code.specs.Wholes.{truth_of}
use Rattle.guard_code.specs.Means.{Means, AllMean, Adds}
use Rattle.guard_code.specs.Guards.{told_act, told_command}
use Rattle.guard_code.specs.Codes.{branch_expressions, command_expressions}
use Rattle.guard_code.proofs.CompileLemmas.{adds_more}

append_none : {A : Type 0} (xs : List A) → xs ++ [] ≡ xs
append_none [] = refl
append_none (x ∷ xs) = ap (λ ys. x ∷ ys) (append_none xs)

flat_one : {A B : Type 0} (g : A → List B) (xs : List A) (x : A) → flat_map g (xs ++ (x ∷ [])) ≡ flat_map g xs ++ g x
flat_one g [] x = append_none (g x)
flat_one g (y ∷ ys) x = ap (λ zs. g y ++ zs) (flat_one g ys x) ∙ sym (append_assoc (g y) (flat_map g ys) (g x))

flat_more : {A B : Type 0} (g : A → List B) (xs : List A) (i : ℕ) (x : A) → i < length xs → x ≡ get_or xs i x → flat_map g (take i xs) ++ g x ≡ flat_map g (take (i + 1) xs)
flat_more g xs i x lt is =
    sym (flat_one g (take i xs) x)
    ∙ ap (λ y. flat_map g (take i xs ++ (y ∷ []))) is
    ∙ ap (flat_map g) (sym (take_more xs i x lt))

map_more : {A B : Type 0} (f : A → B) (xs : List A) (i : ℕ) (x : A) → i < length xs → x ≡ get_or xs i x → map f (take i xs) ++ (f x ∷ []) ≡ map f (take (i + 1) xs)
map_more f xs i x lt is =
    sym (map-append f (take i xs) (x ∷ []))
    ∙ ap (λ y. map f (take i xs ++ (y ∷ []))) is
    ∙ ap (map f) (sym (take_more xs i x lt))

pub sets_more : (before middle after : List Node) (sets : List (ℕ × Typed)) (i : ℕ) (set : ℕ × Typed) → i < length sets → set ≡ get_or sets i set
    → Adds before middle (map (λ s. s.1) (take i sets)) → Adds middle after (set.1 ∷ []) → Adds before after (map (λ s. s.1) (take (i + 1) sets))
sets_more before middle after sets i set lt is first second =
    subst (Adds before after) (map_more (λ (s : ℕ × Typed). s.1) sets i set lt is) (adds_more before middle after (map (λ (s : ℕ × Typed). s.1) (take i sets)) (set.1 ∷ []) first second)

pub branches_more : (before middle between after : List Node) (arms : List Arm) (i : ℕ) (arm : Arm) → i < length arms → arm ≡ get_or arms i arm
    → Adds before middle (flat_map branch_expressions (take i arms)) → Adds middle between (arm.weight ∷ []) → Adds between after (map (λ s. s.1) arm.sets)
    → Adds before after (flat_map branch_expressions (take (i + 1) arms))
branches_more before middle between after arms i arm lt is first weight sets =
    subst (Adds before after) (flat_more branch_expressions arms i arm lt is)
    (adds_more before middle after (flat_map branch_expressions (take i arms)) (branch_expressions arm) first
    (adds_more middle between after (arm.weight ∷ []) (map (λ (s : ℕ × Typed). s.1) arm.sets) weight sets))

pub commands_more : (before middle between after : List Node) (acts : List Act) (i : ℕ) (act : Act) → i < length acts → act ≡ get_or acts i act
    → Adds before middle (flat_map command_expressions (take i acts)) → Adds middle between (act.guard ∷ []) → Adds between after (flat_map branch_expressions act.branches)
    → Adds before after (flat_map command_expressions (take (i + 1) acts))
commands_more before middle between after acts i act lt is first guard branches =
    subst (Adds before after) (flat_more command_expressions acts i act lt is)
    (adds_more before middle after (flat_map command_expressions (take i acts)) (command_expressions act) first
    (adds_more middle between after (act.guard ∷ []) (flat_map branch_expressions act.branches) guard branches))

-- nodes that stand after none
pub all_added : (nodes : List Node) (exprs : List Typed) → Adds [] nodes exprs → AllMean nodes exprs
all_added nodes exprs added = record { same = added.same }

-- a compiled command tells what its command does
same_told : (state : State) (act : Act) (command : Command) → IsSmall state → command.module ≡ act.module → command.action ≡ act.action → Means command.guard act.guard
    → told_command state command ≡ told_act state act
same_told state act command small owner action means =
    λ i. record { owner = owner i; action = action i; guard = ap truth_of (means.same no_labels state small) i }

pub told_more : (commands after : List Command) (acts : List Act) (i : ℕ) (act : Act) (command : Command) → i < length acts → act ≡ get_or acts i act
    → command.module ≡ act.module → command.action ≡ act.action → Means command.guard act.guard → after ≡ commands ++ (command ∷ [])
    → ((state : State) → IsSmall state → map (told_command state) commands ≡ map (told_act state) (take i acts))
    → (state : State) → IsSmall state → map (told_command state) after ≡ map (told_act state) (take (i + 1) acts)
told_more commands after acts i act command lt is owner action means more before state small =
    ap (map (told_command state)) more
    ∙ map-append (told_command state) commands (command ∷ [])
    ∙ ap (λ ts. ts ++ (told_command state command ∷ [])) (before state small)
    ∙ ap (λ t. map (told_act state) (take i acts) ++ (t ∷ [])) (same_told state act command small owner action means)
    ∙ map_more (told_act state) acts i act lt is
