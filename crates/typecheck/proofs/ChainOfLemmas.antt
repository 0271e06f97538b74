-- The parts that are made of a flat model are its chain, where nothing is refused.
use Rattle.std.proofs.Common.{Bor, ◌≡◌, ℕ, zero, suc, ◌+◌, ◌<◌, ◌≤◌, List, [], ◌∷◌, Option, true, false, All, length, map, get_or, bytes_eq, refl, sym, ap, ◌∙◌, subst, arith, option_map, nat_lt}
use Rattle.std.specs.Prelude.{None, Some, ◌||◌, ◌==◌, IfSome, filter_map, position, if◌then◌else◌}
use Rattle.std.specs.List.{AllZip, AllPairs, enumerate_from, list_any, cons_option}
use Rattle.std.specs.Option.{option_map_or, option_or}
use Rattle.indexmap.specs.IndexMap.{get}
use Rattle.std.proofs.lemmas.Bool.{eq-eqb}
use Rattle.std.proofs.lemmas.List.{length-map}
use Rattle.std.proofs.lemmas.List.Elements.{All-nil, All-append, All-map}
use Rattle.chain_model.specs.declared.values.Sort.{Sort}
use Rattle.chain_model.specs.declared.values.Sort.TheVariants as sort
use Rattle.chain_model.specs.declared.expressions.Labels.TheVariants.{Refused}
use Rattle.chain_model.specs.declared.expressions.Typed.{Typed}
use Rattle.chain_model.specs.declared.chain.Var.{Var}
use Rattle.chain_model.specs.declared.chain.Action.{Action}
use Rattle.chain_model.specs.declared.chain.Act.{Act}
use Rattle.chain_model.specs.declared.chain.Chain.{Chain}
use Rattle.chain_model.specs.Chain.{IsVariable, IsCommand, IsAction, AreActions, IsChain}
use Rattle.chain_model.specs.Sorts.{◌>>=◌}
use Rattle.chain_model.specs.Typing.{HasSort}
use Rattle.chain_model.specs.Values.{Valued}
use Rattle.prism_syntax.specs.declared.expressions.Expr.{Expr}
use Rattle.prism_syntax.specs.declared.commands.Command.{Command}
use Rattle.prism_syntax.specs.declared.models.Named.{Named}
use Rattle.prism_syntax.specs.declared.models.Variable.{Variable}
use Rattle.prism_syntax.specs.declared.models.Module.{Module}
use Rattle.prism_syntax.specs.declared.models.FlatText.{FlatText}
use Rattle.prism_names.specs.First.{Name}
use Rattle.const_eval.specs.declared.consts.Constant.{Constant}
use Rattle.typed_trees.specs.Leaves.{shown, constant_leaf, variable_leaf, leaf_of}
use Rattle.typed_trees.specs.Trees.{tree_of, no_label}
use Rattle.typed_trees.specs.declared.scopes.Scope.{Scope}
use Rattle.typed_trees.specs.Scopes.{tree_in}
use Rattle.typed_trees.specs.Numbers.{constant_value}
use Rattle.typed_trees.proofs.TableLemmas.{same_bytes}
use Rattle.typecheck.specs.declared.parts.Parts.{Parts}
use Rattle.typecheck.specs.declared.fault.Item.TheVariants as item
use Rattle.typecheck.specs.Declarations.{module_name, variables_of, commands_of, declared_variables, variable_sorts, declared_commands, declared_actions, first_appearances}
use Rattle.typecheck.specs.ModelRefusals.{sort_by}
use Rattle.typecheck.specs.Items.{is_tree_of, command_fits, unfit_variable, unfit_command, unfit_label, unfit_in_module, unfit_in_modules}
use Rattle.typecheck.specs.Ranges.{variable_fault, if_outside}
use Rattle.typecheck.specs.Writes.{owner_in, foreign_write, global_write, double_write}
use Rattle.typecheck.specs.Chains.{IsVariableOf, IsCommandOf, IsLabelOf, IsChainOf}
use Rattle.typecheck.specs.Sorts.{IsScope}
use Rattle.typecheck.specs.Limits.{IsWithin}
use Rattle.typecheck.specs.Parts.{all_made, made_variable, made_command, made_label, made_actions, made_parts, taking, has_action, action_number}
use Rattle.typecheck.proofs.MakingLemmas.{made-each, map-zip, zip-long, zip-weaker, zip-All, zip-Pairs, zip-any}
use Rattle.typecheck.proofs.FirstOfLemmas.{neither, passes, unmapped, each-none, each-numbered, each-fails, All-unmap}
use Rattle.typecheck.proofs.DeclaredLemmas.{shown-small, few, neither-holds, rows, rows-All, rows-Pairs}
use Rattle.typecheck.proofs.VariableLemmas.{variable-of, variable-is}
use Rattle.typecheck.proofs.TypeLemmas.{tree-there, tree-sorted}
use Rattle.typecheck.proofs.ModelLemmas.{Accepted, trees-are, variables-are}
use Rattle.typecheck.proofs.CommandLemmas.{Fits, IsAct, command-made}
use Rattle.typecheck.proofs.PartLemmas.{parts-there}
use Rattle.typecheck.proofs.TakingLemmas.{action-is, appears-once, appears-few, told-few, own-place, among-actions, among-here, has_name}
use Rattle.typecheck.proofs.ActionLemmas.{among-appear}

-- the commands of modules fit, where no item of modules is unfit
fit-modules : (constant_tree tree : Expr → Option Typed) (sorts : Name → Option Sort) (vs cs from : ℕ) (modules : List Module)
    → unfit_in_modules constant_tree tree sorts vs cs modules ≡ None
    → All (λ (c : ℕ × Command). command_fits tree sorts c.1 ≡ true) (rows commands_of (λ number c. (number, c)) from modules)
fit-modules constant_tree tree sorts vs cs from [] none = All-nil (λ (c : ℕ × Command). command_fits tree sorts c.1 ≡ true)
fit-modules constant_tree tree sorts vs cs from (m ∷ modules) none =
    let one = neither (unfit_in_module constant_tree tree sorts vs cs m)
    (unfit_in_modules constant_tree tree sorts (vs + length (variables_of m)) (cs + length (commands_of m)) modules) none in
    let two = neither (unfit_variable constant_tree vs (variables_of m)) (unfit_command tree sorts cs (commands_of m)) one.0 in
    All-append (λ (c : ℕ × Command). command_fits tree sorts c.1 ≡ true) (map (λ c. (from, c)) (commands_of m)) (rows commands_of (λ number c. (number, c)) (from + 1) modules)
    (All-map (λ (c : ℕ × Command). command_fits tree sorts c.1 ≡ true) (λ c. (from, c)) (commands_of m)
    (each-numbered (λ c. if command_fits tree sorts c.1 then None else Some (item.Command (shown c.0))) (λ c. command_fits tree sorts c ≡ true)
    (λ k c is. passes (command_fits tree sorts c) (item.Command (shown k)) is) cs (commands_of m) two.1))
    (fit-modules constant_tree tree sorts (vs + length (variables_of m)) (cs + length (commands_of m)) (from + 1) modules one.1)

-- what is made of a numbered list, at a place
get_or-numbered : {X Y : Type 0} (f : ℕ × X → Y) (from : ℕ) (xs : List X) (i : ℕ) (d : Y) (e : X) → i < length xs
    → get_or (map f (enumerate_from from xs)) i d ≡ f (from + i, get_or xs i e)
get_or-numbered f from [] i d e lt = absurd (omega (arith, lt))
get_or-numbered f from (x ∷ xs) zero d e lt = ap (λ k. f (k, x)) (let same : from ≡ from + 0 = omega arith in same)
get_or-numbered f from (x ∷ xs) (suc i) d e lt =
    get_or-numbered f (from + 1) xs i d e (omega (arith, lt)) ∙ ap (λ k. f (k, get_or xs i e)) (let same : from + 1 + i ≡ from + suc i = omega arith in same)

long-numbered : {X : Type 0} (from : ℕ) (xs : List X) → length (enumerate_from from xs) ≡ length xs
long-numbered from [] = refl
long-numbered from (x ∷ xs) = let rest : length (enumerate_from (from + 1) xs) ≡ length xs = long-numbered (from + 1) xs in omega (arith, rest)

action-names : (acts : List Act) (from : ℕ) (names : List Name)
    → map (λ (a : Action). a.name) (map (λ a. record { name = a.1; takes = taking acts a.0 }) (enumerate_from from names)) ≡ names
action-names acts from [] = refl
action-names acts from (n ∷ names) = ap (λ rest. n ∷ rest) (action-names acts (from + 1) names)

-- a place of a list has the same item whatever is said of places past its end
get_or-any : {X : Type 0} (xs : List X) (i : ℕ) (d e : X) → i < length xs → get_or xs i d ≡ get_or xs i e
get_or-any [] i d e lt = absurd (omega (arith, lt))
get_or-any (x ∷ xs) zero d e lt = refl
get_or-any (x ∷ xs) (suc i) d e lt = get_or-any xs i d e (omega (arith, lt))

module _ (flat : FlatText) (consts : List (Name × Constant)) (ok : Accepted flat consts)
    (within : All IsWithin (map (made_variable (constant_value consts)) (declared_variables flat))) where
  abbrev values : Expr → Valued
  values = constant_value consts

  abbrev declared : List (Option ℕ × Variable)
  declared = declared_variables flat

  abbrev commands : List (ℕ × Command)
  commands = declared_commands flat

  abbrev vars : List Var
  vars = map (made_variable values) declared

  abbrev names : List Name
  names = declared_actions flat

  abbrev variables : Name → Option Typed
  variables = variable_leaf (variable_sorts flat)

  abbrev tree : Expr → Option Typed
  tree = tree_of (leaf_of consts (variable_sorts flat)) no_label

  abbrev titles : List Name
  titles = map module_name flat.modules

  record Small : Type 0 where
    pub few_modules : length flat.modules ≤ 64
    pub few_variables : length declared ≤ 256
    pub few_commands : length commands ≤ 4096
    pub narrow : All (λ c. nat_lt 64 (length c.1.branches) ≡ false) commands

  small : Small
  small =
      let one = neither-holds (nat_lt 64 (length flat.modules)) (nat_lt 256 (length declared) || (nat_lt 4096 (length commands)
      || list_any (λ c. nat_lt 64 (length c.1.branches)) commands)) ok.small in
      let two = neither-holds (nat_lt 256 (length declared)) (nat_lt 4096 (length commands) || list_any (λ c. nat_lt 64 (length c.1.branches)) commands) one.1 in
      let three = neither-holds (nat_lt 4096 (length commands)) (list_any (λ c. nat_lt 64 (length c.1.branches)) commands) two.1 in
      record {
        few_modules = few 64 (length flat.modules) one.0;
        few_variables = few 256 (length declared) two.0;
        few_commands = few 4096 (length commands) three.0;
        narrow = each-fails (λ c. nat_lt 64 (length c.1.branches)) commands three.1;
      }

  few-vars : length vars ≤ 256
  few-vars = omega (arith, small.few_variables, length-map declared (made_variable values))

  few-names : length names ≤ 4096
  few-names =
      omega (arith, appears-few [] (filter_map (λ c. c.1.action) commands), told-few (λ (c : ℕ × Command). c.1.action) commands, small.few_commands)

  few-titles : length titles ≤ 64
  few-titles = omega (arith, small.few_modules, length-map flat.modules module_name)

  titled : length titles ≡ length flat.modules
  titled = length-map flat.modules module_name

  fit-texts : All (λ (c : ℕ × Command). command_fits tree (sort_by variables) c.1 ≡ true) commands × (unfit_label tree flat.labels ≡ None)
  fit-texts =
      let constant_tree : Expr → Option Typed = tree_of (constant_leaf consts) no_label in
      let one = neither (unfit_variable constant_tree 0 flat.globals)
      (option_or (unfit_in_modules constant_tree tree (sort_by variables) (length flat.globals) 0 flat.modules) (unfit_label tree flat.labels)) ok.fit in
      let two = neither (unfit_in_modules constant_tree tree (sort_by variables) (length flat.globals) 0 flat.modules) (unfit_label tree flat.labels) one.1 in
      (fit-modules constant_tree tree (sort_by variables) (length flat.globals) 0 0 flat.modules two.0, two.1)

  -- each command is of a module that is there
  inside : All (λ (c : ℕ × Command). c.0 < length titles) commands
  inside =
      rows-All commands_of (λ number c. (number, c)) (λ c. c.0 < length titles) 0 (length flat.modules) (λ number c above below. omega (arith, below, titled)) 0 flat.modules
      (omega arith) (omega arith)

  all-fit : All (Fits flat consts few-vars (length titles) few-names few-titles) commands
  all-fit k d lt = record {
    fit = fit-texts.0 k d lt;
    own = each-none (foreign_write (owner_in declared)) commands ok.own k d lt;
    free = All-unmap (λ c. global_write (owner_in declared) c ≡ None) (λ (c : ℕ × Command). c.1) commands
        (each-none (global_write (owner_in declared)) (map (λ c. c.1) commands) ok.unwritten) k d lt;
    once = All-unmap (λ c. double_write c ≡ None) (λ (c : ℕ × Command). c.1) commands (each-none double_write (map (λ c. c.1) commands) ok.once) k d lt;
    narrow = small.narrow k d lt;
    inside = inside k d lt;
  }

  abbrev IsCommandMade : ℕ × Command → Act → Type 0
  IsCommandMade = IsAct flat consts few-vars (length titles) few-names few-titles

  acts : (made : List Act) × (all_made (map (made_command tree variables names) commands) ≡ Some made) × AllZip IsCommandMade commands made
  acts = made-each (made_command tree variables names) (Fits flat consts few-vars (length titles) few-names few-titles) IsCommandMade
      (command-made flat consts few-vars (length titles) few-names few-titles) commands all-fit

  abbrev IsLabelMade : Named → Name × Typed → Type 0
  IsLabelMade l made = IsLabelOf consts flat l made × HasSort vars Refused sort.Bool made.1

  label-made : (l : Named) → is_tree_of sort.Bool (tree l.body) ≡ true → (made : Name × Typed) × (made_label tree l ≡ Some made) × IsLabelMade l made
  label-made l fits =
      let t = tree-there sort.Bool (tree l.body) fits in (
        (l.name, t.0),
        ap (λ o. o >>= λ body. Some (l.name, body)) t.1,
        (record { name = refl; body = t.1 }, tree-sorted consts declared values few-vars l.body t.0 sort.Bool t.1 t.2),
      )

  labels : (made : List (Name × Typed)) × (all_made (map (made_label tree) flat.labels) ≡ Some made) × AllZip IsLabelMade flat.labels made
  labels = made-each (made_label tree) (λ l. is_tree_of sort.Bool (tree l.body) ≡ true) IsLabelMade label-made flat.labels
      (each-numbered (λ l. if is_tree_of sort.Bool (tree l.1.body) then None else Some (item.Label (shown l.0))) (λ l. is_tree_of sort.Bool (tree l.body) ≡ true)
      (λ k l is. passes (is_tree_of sort.Bool (tree l.body)) (item.Label (shown k)) is) 0 flat.labels fit-texts.1)

  -- the parts
  pub whole : Parts
  whole = record { vars = vars; actions = made_actions acts.0 names; modules = titles; commands = acts.0; labels = labels.0 }

  -- the parts are made
  pub made : made_parts values tree variables declared commands flat.labels flat.modules names ≡ Some whole
  unfolding whole
  made = parts-there values tree variables declared commands flat.labels flat.modules names acts.0 labels.0 acts.1 labels.1

  -- each variable is one of the chain
  owned : All (λ (v : Option ℕ × Variable). IfSome (option_map shown v.0) (λ number. number < length titles)) declared
  owned =
      All-append (λ (v : Option ℕ × Variable). IfSome (option_map shown v.0) (λ number. number < length titles)) (map (λ v. (None, v)) flat.globals)
      (rows variables_of (λ number v. (Some number, v)) 0 flat.modules)
      (All-map (λ (v : Option ℕ × Variable). IfSome (option_map shown v.0) (λ number. number < length titles)) (λ v. (None, v)) flat.globals (λ k d lt. tt))
      (rows-All variables_of (λ number v. (Some number, v)) (λ (v : Option ℕ × Variable). IfSome (option_map shown v.0) (λ number. number < length titles)) 0 (length flat.modules)
      (λ number v above below. omega (arith, below, titled, shown-small number (omega (arith, below, small.few_modules)))) 0 flat.modules (omega arith) (omega arith))

  -- its owner is shown as it is
  owner-exact : All (λ (v : Option ℕ × Variable). option_map shown v.0 ≡ v.0) declared
  owner-exact =
      All-append (λ (v : Option ℕ × Variable). option_map shown v.0 ≡ v.0) (map (λ v. (None, v)) flat.globals)
      (rows variables_of (λ number v. (Some number, v)) 0 flat.modules)
      (All-map (λ (v : Option ℕ × Variable). option_map shown v.0 ≡ v.0) (λ v. (None, v)) flat.globals (λ k d lt. refl))
      (rows-All variables_of (λ number v. (Some number, v)) (λ (v : Option ℕ × Variable). option_map shown v.0 ≡ v.0) 0 (length flat.modules)
      (λ number v above below. ap Some (shown-small number (omega (arith, below, small.few_modules)))) 0 flat.modules (omega arith) (omega arith))

  valued : All (λ (v : Option ℕ × Variable). variable_fault values v.1 ≡ None) declared
  valued =
      All-unmap (λ v. variable_fault values v ≡ None) (λ (v : Option ℕ × Variable). v.1) declared
      (each-numbered (λ v. option_map (λ found. (v.0, found)) (variable_fault values v.1)) (λ v. variable_fault values v ≡ None)
      (λ k v is. unmapped (λ found. (k, found)) (variable_fault values v) is) 0 (map (λ v. v.1) declared) ok.valued)

  started : All (λ (v : Option ℕ × Variable). if_outside values v.1 ≡ None) declared
  started =
      All-unmap (λ v. if_outside values v ≡ None) (λ (v : Option ℕ × Variable). v.1) declared (each-none (if_outside values) (map (λ v. v.1) declared) ok.within)

  each-variable : All (IsVariable (length titles)) vars
  each-variable =
      All-map (IsVariable (length titles)) (made_variable values) declared (λ k d lt.
      variable-is consts (length titles) (get_or declared k d) (owned k d lt) (started k d lt) (All-unmap IsWithin (made_variable values) declared within k d lt))

  -- commands go by module
  by-module : AllPairs (λ a b. a.module ≤ b.module) acts.0
  by-module =
      zip-Pairs IsCommandMade (λ a b. a.0 ≤ b.0) (λ a b. a.module ≤ b.module) (λ x z y w one two le. omega (arith, one.owner, two.owner, le)) commands acts.0 acts.2
      (rows-Pairs commands_of (λ number c. (number, c)) (λ a b. a.0 ≤ b.0) (λ i j x z le. le) 0 flat.modules)

  -- some command has each action
  some-part : (i : ℕ) (n : Name) → i < length names → get_or names i n ≡ n → list_any (has_action i) acts.0 ≡ true
  some-part i n lt here =
      zip-any IsCommandMade (has_name n) (has_action i) follows commands acts.0 acts.2
      (sym (among-actions n commands) ∙ (sym (among-appear [] (filter_map (λ c. c.1.action) commands) n refl) ∙ among-here names i n lt here))
    where
      place : position (bytes_eq n) names ≡ Some i
      place = own-place names i n (appears-once [] (filter_map (λ c. c.1.action) commands)) lt here

      numbered : (o : Option Name) → option_map_or (λ m. bytes_eq m n) o false ≡ true → action_number names o ≡ Some i
      numbered None holds = absurd (let never : ⊥ = cc in never)
      numbered (Some m) holds =
          ap (λ (z : Name). option_map shown (position (bytes_eq z) names)) (same_bytes m n holds)
          ∙ (ap (option_map shown) place ∙ ap Some (shown-small i (omega (arith, lt, few-names))))

      follows : (c : ℕ × Command) (act : Act) → IsCommandMade c act → has_name n c ≡ true → has_action i act ≡ true
      follows c act is holds =
          ap (λ (o : Option ℕ). option_map_or (λ k. k == i) o false) (is.action ∙ numbered c.1.action holds) ∙ eq-eqb i i refl

  -- each action is one of its number
  each-action : AreActions acts.0 (made_actions acts.0 names)
  each-action = record {
    each = λ number default lt.
        let within : number < length names = omega (arith, lt, long-actions) in
        let name : Name = get_or names number default.name in
        subst (IsAction acts.0 number)
        (sym (get_or-numbered (λ a. record { name = a.1; takes = taking acts.0 a.0 }) 0 names number default default.name within
        ∙ ap (λ k. record { name = name; takes = taking acts.0 k }) (let e : 0 + number ≡ number = omega arith in e)))
        (action-is acts.0 number name (some-part number name within (again number default.name within)) by-module);
  }
    where
      long-actions : length (made_actions acts.0 names) ≡ length names
      long-actions = length-map (enumerate_from 0 names) (λ (a : ℕ × Name). record { name = a.1; takes = taking acts.0 a.0 }) ∙ long-numbered 0 names

      again : (number : ℕ) (d : Name) → number < length names → get_or names number (get_or names number d) ≡ get_or names number d
      again number d lt = get_or-any names number (get_or names number d) d lt

  long-made : length (made_actions acts.0 names) ≡ length names
  long-made = length-map (enumerate_from 0 names) (λ (a : ℕ × Name). record { name = a.1; takes = taking acts.0 a.0 }) ∙ long-numbered 0 names

  -- the parts are a chain
  pub is-chain : IsChain whole.vars whole.actions whole.modules whole.commands whole.labels
  unfolding whole
  is-chain = record {
    few_modules = few-titles;
    few_variables = few-vars;
    few_commands = let long : length commands ≡ length acts.0 = zip-long IsCommandMade commands acts.0 acts.2 in omega (arith, long, small.few_commands);
    each_variable = each-variable;
    each_command = subst (λ (n : ℕ). All (IsCommand vars n (length titles)) acts.0) (sym long-made)
        (zip-All IsCommandMade (IsCommand vars (length names) (length titles)) (λ c act is. is.formed) commands acts.0 acts.2);
    by_module = by-module;
    each_action = each-action;
    each_label = zip-All IsLabelMade (λ label. HasSort vars Refused sort.Bool label.1) (λ l label is. is.1) flat.labels labels.0 labels.2;
  }

  -- they are those of the model
  pub variables-of : AllZip (IsVariableOf consts) declared whole.vars
  unfolding whole
  variables-of = map-zip (IsVariableOf consts) (made_variable values) declared (λ k d lt. variable-of consts (get_or declared k d) (owner-exact k d lt) (valued k d lt))

  pub actions-of : map (λ (action : Action). action.name) whole.actions ≡ names
  unfolding whole
  actions-of = action-names acts.0 0 names

  pub commands-of : AllZip (IsCommandOf consts flat) commands whole.commands
  unfolding whole
  commands-of = zip-weaker IsCommandMade (IsCommandOf consts flat) (λ c act is. is.text) commands acts.0 acts.2

  pub labels-of : AllZip (IsLabelOf consts flat) flat.labels whole.labels
  unfolding whole
  labels-of = zip-weaker IsLabelMade (IsLabelOf consts flat) (λ l label is. is.0) flat.labels labels.0 labels.2

  -- whoever has these parts has the chain of the model
  pub chain-of-parts : (parts : Parts) → parts ≡ whole → (chain : Chain) → chain.vars ≡ parts.vars → chain.actions ≡ parts.actions → chain.modules ≡ parts.modules
      → chain.commands ≡ parts.commands → chain.labels ≡ parts.labels → IsChainOf flat consts chain
  unfolding whole
  chain-of-parts parts same chain one two three four five = record {
    vars = subst (AllZip (IsVariableOf consts) declared) (sym (one ∙ ap (λ (p : Parts). p.vars) same)) variables-of;
    actions = ap (map (λ (action : Action). action.name)) (two ∙ ap (λ (p : Parts). p.actions) same) ∙ actions-of;
    modules = three ∙ ap (λ (p : Parts). p.modules) same;
    commands = subst (AllZip (IsCommandOf consts flat) commands) (sym (four ∙ ap (λ (p : Parts). p.commands) same)) commands-of;
    labels = subst (AllZip (IsLabelOf consts flat) flat.labels) (sym (five ∙ ap (λ (p : Parts). p.labels) same)) labels-of;
  }

  pub parts-chain : (parts : Parts) → parts ≡ whole → IsChain parts.vars parts.actions parts.modules parts.commands parts.labels
  parts-chain parts same = subst (λ (p : Parts). IsChain p.vars p.actions p.modules p.commands p.labels) (sym same) is-chain

told-mapped : {X Y Z : Type 0} (f : Y → Option Z) (g : X → Y) (xs : List X) → filter_map f (map g xs) ≡ filter_map (λ x. f (g x)) xs
told-mapped f g [] = refl
told-mapped f g (x ∷ xs) = ap (cons_option (f (g x))) (told-mapped f g xs)

-- what tables give is what the text gives
pub tables-give : (flat : FlatText) (scope : Scope) (is : IsScope scope scope.consts.now (variable_sorts flat)) (vs : List (Option ℕ × Bor Variable)) (cs : List (ℕ × Bor Command))
    → map {B = Option ℕ × Variable} (λ v. (v.0, v.1.now)) vs ≡ declared_variables flat → map {B = ℕ × Command} (λ c. (c.0, c.1.now)) cs ≡ declared_commands flat
    → made_parts (constant_value scope.consts.now) (tree_in scope) (get bytes_eq scope.variables.now) (map {B = Option ℕ × Variable} (λ v. (v.0, v.1.now)) vs)
    (map {B = ℕ × Command} (λ c. (c.0, c.1.now)) cs) flat.labels flat.modules (first_appearances [] (filter_map (λ c. c.1.now.action) cs))
    ≡ made_parts (constant_value scope.consts.now) (tree_of (leaf_of scope.consts.now (variable_sorts flat)) no_label) (variable_leaf (variable_sorts flat)) (declared_variables flat)
    (declared_commands flat) flat.labels flat.modules (declared_actions flat)
tables-give flat scope is vs cs one two =
    λ i. made_parts (constant_value scope.consts.now) (trees-are scope scope.consts.now (variable_sorts flat) is i) (variables-are scope scope.consts.now (variable_sorts flat) is i)
    (one i) (two i) flat.labels flat.modules (first_appearances [] (named i))
  where
    named : filter_map (λ c. c.1.now.action) cs ≡ filter_map (λ c. c.1.action) (declared_commands flat)
    named = sym (told-mapped {Y = ℕ × Command} (λ c. c.1.action) (λ c. (c.0, c.1.now)) cs) ∙ ap (filter_map (λ c. c.1.action)) two
