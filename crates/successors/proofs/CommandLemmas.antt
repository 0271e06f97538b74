-- Compiled commands, one after another.
use Rattle.std.proofs.Common.{◌≡◌, ℕ, suc, ◌+◌, ◌<◌, List, [], ◌∷◌, ◌++◌, length, get_or, set, take, drop, map, Bool, true, false, cond, refl, sym, ap, ◌∙◌, subst, inl, inr, arith, add-one, append_assoc, append-nil, length-append, Result, Ok, Err, Some}
use Rattle.std.specs.Prelude.{slice_get}
use Rattle.std.proofs.lemmas.Bool.{cases_lt}
use Rattle.std.proofs.lemmas.List.{at_drop_more, take_more, take_more_set, length-take, map-append, map_more}
use Rattle.std.proofs.lemmas.Option.{same_Some, slice_get_within}
use Rattle.chain_model.specs.declared.outcome.TraceFault.{TraceFault}
use Rattle.chain_model.specs.declared.expressions.Typed.{Typed}
use Rattle.chain_model.specs.declared.chain.Arm.{Arm}
use Rattle.chain_model.specs.declared.chain.Act.{Act}
use Rattle.chain_model.specs.declared.chain.Chain.{Chain}
use Rattle.chain_model.specs.Results.{◌>>=◌, each}
use Rattle.chain_model.specs.States.{State}
use Rattle.chain_model.specs.Values.{Valued, value_with}
use Rattle.chain_model.specs.Choices.{no_labels, value_in}
use Rattle.chain_model.specs.Step.{as_weight, arms_of, weights_of}
use Rattle.guard_code.specs.declared.nodes.Node.{Node}
use Rattle.guard_code.specs.Wholes.{TruthResult, truth_of}
use Rattle.guard_code.specs.Nodes.{node_value}
use Rattle.guard_code.specs.Means.{Means, AllMean}
use Rattle.trace_meaning.proofs.CombinationLemmas.{get_front, get_back}
use Rattle.trace_meaning.proofs.ResultLemmas.{prepend}
use Rattle.successors.specs.declared.commands.Command.{Command}
use Rattle.successors.specs.Enabled.{is_set, numbers_with}
use Rattle.successors.specs.Weighing.{HasWeights}
use Rattle.successors.specs.Commands.{IsCommandCode, AreGuardNodes, enabled_by}

-- one node more
mean_more : (nodes new : List Node) (node : Node) (exprs : List Typed) (expr : Typed) → AllMean nodes exprs → Means node expr → new ≡ nodes ++ (node ∷ [])
    → AllMean new (exprs ++ (expr ∷ []))
mean_more nodes new node exprs expr all means more = record {
  same = λ labels state small.
      ap (map (node_value labels state)) more
      ∙ map-append (node_value labels state) nodes (node ∷ [])
      ∙ (λ j. all.same labels state small j ++ (means.same labels state small j ∷ []))
      ∙ sym (map-append (value_with labels state) exprs (expr ∷ []));
}

-- one weight more
pub weight_more : (arms : List Arm) (i : ℕ) (arm : Arm) (nodes new : List Node) (node : Node) → i < length arms → arm ≡ get_or arms i arm
    → AllMean nodes (map (λ (a : Arm). a.weight) (take i arms)) → Means node arm.weight → new ≡ nodes ++ (node ∷ [])
    → AllMean new (map (λ (a : Arm). a.weight) (take (i + 1) arms))
weight_more arms i arm nodes new node lt is all means more =
    subst (AllMean new)
    (ap (λ (a : Arm). map (λ (a : Arm). a.weight) (take i arms) ++ (a.weight ∷ [])) is ∙ sym (map_more (λ (a : Arm). a.weight) arms i arm lt))
    (mean_more nodes new node (map (λ (a : Arm). a.weight) (take i arms)) arm.weight all means more)

-- one guard more
pub guard_more : (acts : List Act) (i : ℕ) (act : Act) (nodes new : List Node) (node : Node) → i < length acts → act ≡ get_or acts i act
    → AreGuardNodes (take i acts) nodes → Means node act.guard → new ≡ nodes ++ (node ∷ []) → AreGuardNodes (take (i + 1) acts) new
guard_more acts i act nodes new node lt is all means more =
    let longer : take (i + 1) acts ≡ take i acts ++ (act ∷ []) = take_more acts i act lt ∙ ap (λ (a : Act). take i acts ++ (a ∷ [])) (sym is) in
    record {
      long = omega (arith, all.long, ap length more, length-append nodes (node ∷ []), ap length longer, length-append (take i acts) (act ∷ []));
      same = λ state small.
          ap (map (λ (n : Node). truth_of (node_value no_labels state n))) more
          ∙ map-append (λ (n : Node). truth_of (node_value no_labels state n)) nodes (node ∷ [])
          ∙ (λ j. all.same state small j ++ (truth_of (means.same no_labels state small j) ∷ []))
          ∙ sym (map-append (λ (a : Act). truth_of (value_in state a.guard)) (take i acts) (act ∷ []))
          ∙ ap (map (λ (a : Act). truth_of (value_in state a.guard))) (sym longer);
    }

-- what comes of values, and of what has them
each_map : {A B : Type 0} (f : A → Valued) (g : (x : Valued) → Result B TraceFault) (xs : List A) → each (λ x. g (f x)) xs ≡ each g (map f xs)
each_map f g [] = refl
each_map f g (x ∷ xs) = ap (λ rest. g (f x) >>= λ y. rest >>= λ ys. Ok (y ∷ ys)) (each_map f g xs)

map_weights : (f : Typed → Valued) (arms : List Arm) → map f (map (λ (a : Arm). a.weight) arms) ≡ map (λ (a : Arm). f a.weight) arms
map_weights f [] = refl
map_weights f (arm ∷ arms) = ap (λ ls. f arm.weight ∷ ls) (map_weights f arms)

-- the nodes of the weights of a command's branches
pub has_weights : (chain : Chain) (command : ℕ) (arms : List Arm) (nodes : List Node) → arms_of chain command ≡ arms
    → AllMean nodes (map (λ (a : Arm). a.weight) arms) → length nodes ≡ length arms → HasWeights chain command nodes
has_weights chain command arms nodes is all long = record {
  weights = λ state small.
      ap (weights_of state command) is
      ∙ each_map (λ (a : Arm). value_in state a.weight) (λ (v : Valued). v >>= as_weight command) arms
      ∙ ap (each (λ (v : Valued). v >>= as_weight command)) (sym (all.same no_labels state small ∙ map_weights (value_in state) arms))
      ∙ sym (each_map (node_value no_labels state) (λ (v : Valued). v >>= as_weight command) nodes);
  long = long ∙ ap length (sym is);
}

-- one command more
pub command_more : (chain : Chain) (commands new : List Command) (n : ℕ) (command : Command) → length commands ≡ n
    → ((k : ℕ) (c : Command) → slice_get commands k ≡ Some c → IsCommandCode chain k c) → IsCommandCode chain n command → new ≡ commands ++ (command ∷ [])
    → (k : ℕ) (c : Command) → slice_get new k ≡ Some c → IsCommandCode chain k c
command_more chain commands new n command long each one more k c at =
    let joined : slice_get (commands ++ (command ∷ [])) k ≡ Some c = ap (λ ls. slice_get ls k) (sym more) ∙ at in
    elim (cases_lt k n) [
      | inl below ↦ each k c (sym (get_front commands (command ∷ []) k (omega (arith, below, long))) ∙ joined)
      | inr past ↦
          let within : k < length (commands ++ (command ∷ [])) = slice_get_within (commands ++ (command ∷ [])) k c joined in
          let here : k ≡ n = omega (arith, within, past, long, length-append commands (command ∷ [])) in
          let same : Some command ≡ Some c = sym (get_back commands (command ∷ []) 0 k (omega (arith, here, long))) ∙ joined in
          subst (λ m. IsCommandCode chain m c) (sym here) (subst (IsCommandCode chain n) (same_Some command c same) one)
    ]

-- the numbers with a bit, one byte more
numbers_more : (n : ℕ) (bytes : List ℕ) (byte : ℕ) → numbers_with 0 n (bytes ++ (byte ∷ [])) ≡ numbers_with 0 n bytes ++ cond (is_set 0 byte) ((n + length bytes) ∷ []) []
numbers_more n [] byte = ap (λ k. cond (is_set 0 byte) (k ∷ []) []) (omega arith)
numbers_more n (first ∷ bytes) byte =
    ap (λ ls. cond (is_set 0 first) (n ∷ ls) ls) (numbers_more (suc n) bytes byte ∙ ap (λ k. numbers_with 0 (suc n) bytes ++ cond (is_set 0 byte) (k ∷ []) []) (omega arith))
    ∙ by_test (is_set 0 first)
  where
    by_test : (b : Bool) → cond b (n ∷ (numbers_with 0 (suc n) bytes ++ cond (is_set 0 byte) ((n + suc (length bytes)) ∷ []) [])) (numbers_with 0 (suc n) bytes ++ cond (is_set 0 byte) ((n + suc (length bytes)) ∷ []) [])
        ≡ cond b (n ∷ numbers_with 0 (suc n) bytes) (numbers_with 0 (suc n) bytes) ++ cond (is_set 0 byte) ((n + suc (length bytes)) ∷ []) []
    by_test true = refl
    by_test false = refl

-- one more number stands before the others, where its guard holds
stands_before : (numbers : List ℕ) (n : ℕ) (holds : Bool) (others : Result (List ℕ) TraceFault)
    → prepend numbers (others >>= λ o. Ok (cond holds (n ∷ o) o)) ≡ prepend (numbers ++ cond holds (n ∷ []) []) others
stands_before numbers n holds (Err fault) = refl
stands_before numbers n true (Ok o) = ap Ok (sym (append_assoc numbers (n ∷ []) o))
stands_before numbers n false (Ok o) = ap (λ ls. Ok (ls ++ o)) (sym (append-nil numbers))

-- the numbers of the bytes up to one more
pub numbers_next : (bytes : List ℕ) (i byte : ℕ) (holds : Bool) → i < length bytes → is_set 0 byte ≡ holds
    → numbers_with 0 0 (take (i + 1) (set bytes i byte)) ≡ numbers_with 0 0 (take i bytes) ++ cond holds (i ∷ []) []
numbers_next bytes i byte holds room bit =
    ap (numbers_with 0 0) (take_more_set bytes i byte room) ∙ numbers_more 0 (take i bytes) byte
    ∙ ap (λ k. numbers_with 0 0 (take i bytes) ++ cond (is_set 0 byte) (k ∷ []) []) (omega (arith, length-take i bytes, room))
    ∙ ap (λ b. numbers_with 0 0 (take i bytes) ++ cond b (i ∷ []) []) bit

-- one guard further
pub guards_next : (state : State) (guards : List Node) (i : ℕ) (guard : Node) (holds : Bool) (bytes : List ℕ) (byte : ℕ) (whole : Result (List ℕ) TraceFault)
    → i < length guards → i < length bytes → guard ≡ get_or guards i guard → truth_of (node_value no_labels state guard) ≡ Ok holds → is_set 0 byte ≡ holds
    → prepend (numbers_with 0 0 (take i bytes)) (enabled_by i state (drop i guards)) ≡ whole
    → prepend (numbers_with 0 0 (take (i + 1) (set bytes i byte))) (enabled_by (i + 1) state (drop (i + 1) guards)) ≡ whole
guards_next state guards i guard holds bytes byte whole lt room is value bit so =
    let numbers : List ℕ = numbers_with 0 0 (take i bytes) in
    let others : Result (List ℕ) TraceFault = enabled_by (suc i) state (drop (i + 1) guards) in
    ap (λ ls. prepend ls (enabled_by (i + 1) state (drop (i + 1) guards))) (numbers_next bytes i byte holds room bit)
    ∙ ap (λ k. prepend (numbers ++ cond holds (i ∷ []) []) (enabled_by k state (drop (i + 1) guards))) (add-one i)
    ∙ sym (stands_before numbers i holds others)
    ∙ ap (λ (r : TruthResult). prepend numbers (r >>= λ h. others >>= λ o. Ok (cond h (i ∷ o) o))) (sym value)
    ∙ ap (λ (g : Node). prepend numbers (enabled_by i state (g ∷ drop (i + 1) guards))) is
    ∙ sym (at_drop_more (λ ls. prepend numbers (enabled_by i state ls)) guards i guard lt)
    ∙ so
