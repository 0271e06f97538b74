-- The tokens of the lines of a flat text match the rules of the grammar, each with its own tree.
use Rattle.std.proofs.Common.{◌≡◌, List, [], ◌∷◌, ◌++◌, Option, map, codes, refl, sym, ap, ◌∙◌, subst, unwrap_or}
use Rattle.std.specs.Prelude.{None, Some, flat_map}
use Rattle.std.specs.Option.{option_map, option_map_or}
use Rattle.std.proofs.lemmas.List.{append_assoc}
use Rattle.prism_syntax.specs.declared.tokens.Kind.{Kind}
use Rattle.prism_syntax.specs.declared.tokens.Kind.TheVariants as k
use Rattle.prism_syntax.specs.declared.expressions.Expr.{Expr}
use Rattle.prism_syntax.specs.declared.commands.Branch.{Branch}
use Rattle.prism_syntax.specs.declared.commands.Command.{Command}
use Rattle.prism_syntax.specs.declared.models.SortWord.{SortWord}
use Rattle.prism_syntax.specs.declared.models.SortWord.TheVariants as sort
use Rattle.prism_syntax.specs.declared.models.ConstText.{ConstText}
use Rattle.prism_syntax.specs.declared.models.Named.{Named}
use Rattle.prism_syntax.specs.declared.models.Variable.{Variable}
use Rattle.prism_syntax.specs.declared.models.Module.{Module}
use Rattle.prism_syntax.specs.declared.models.Module.TheVariants.{Written}
use Rattle.prism_syntax.specs.Spelling.{spelling_of}
use Rattle.prism_syntax.specs.Tokens as cut
use Rattle.prism_syntax.specs.WellFormed.{IsFormedKind, IsFormedName}
use Rattle.prism_syntax.specs.Models.{Each, Separated, IsOptional, IsSort, IsConst, IsFormula, IsLabel, IsVariable, IsAssign, IsUpdate, IsWeighted, AreBranches, IsAction, IsCommand, IsModule, IsGlobal}
use Rattle.prism_syntax.specs.Replaced.{replaced}
use Rattle.prism_names.specs.First.{Name}
use Rattle.module_expand.specs.Expanded.{with_body}
use Rattle.module_expand.specs.Renamed.{renamed, copied_variable, copied_set, copied_branch, copied_command}
use Rattle.module_expand.specs.Flat.{flat_const}
use Rattle.prism_print.specs.Pieces.{Piece, token, blank, line_end, tokens_of}
use Rattle.prism_print.specs.Layout.{spaced, separated, expression}
use Rattle.prism_print.specs.Printed.{ended, sort_token, const_line, range, variable_line, global_line, formula_line, label_line, assignment, update, branch, command_line, indented, module_lines}
use Rattle.prism_print.proofs.TokensLemmas.{tree_tokens, tokens-append, tokens-between}
use Rattle.prism_print.proofs.StandsLemmas.{AreFormedKinds, none, more, first_formed, rest_formed, joined, front_formed, behind_formed, Matches, AllStand, replaced_stands, close_formed}

-- some well-formed tokens match a rule, with this tree
abbrev pub HasText : {X : Type 0} → (List Kind → X → Type 0) → X → Type 0
HasText IsOne x = (ks : List Kind) × Matches IsOne ks x

-- other names are well formed
abbrev pub AreFormedNames : (Name → Option Name) → Type 0
AreFormedNames names = (n m : Name) → names n ≡ Some m → IsFormedName m

pub semicolon_formed : IsFormedKind k.Semicolon
unfolding spelling_of
semicolon_formed = (codes ";", cut.fixed (codes ";") k.Semicolon refl)

pub module_formed : IsFormedKind k.Module
unfolding spelling_of
module_formed = (codes "module", cut.fixed (codes "module") k.Module refl)

pub endmodule_formed : IsFormedKind k.EndModule
unfolding spelling_of
endmodule_formed = (codes "endmodule", cut.fixed (codes "endmodule") k.EndModule refl)

pub sort_formed : (s : SortWord) → IsFormedKind (sort_token s)
unfolding spelling_of
sort_formed sort.Int = (codes "int", cut.fixed (codes "int") k.Int refl)
sort_formed sort.Double = (codes "double", cut.fixed (codes "double") k.Double refl)
sort_formed sort.Bool = (codes "bool", cut.fixed (codes "bool") k.Bool refl)

sort_is : (s : SortWord) → IsSort (sort_token s ∷ []) s
sort_is sort.Int = IsSort.int
sort_is sort.Double = IsSort.double
sort_is sort.Bool = IsSort.bool

-- an expression after a token, where there is one
abbrev pub behind : Kind → Option Expr → List Piece
behind lead o = option_map_or (λ x. spaced lead ++ expression x) o []

range_tokens : (x y : Expr) (rest : List Piece) → tokens_of (range (Some (x, y)) ++ rest)
    ≡ k.OpenBracket ∷ (tree_tokens x ++ (k.Dots ∷ (tree_tokens y ++ (k.CloseBracket ∷ tokens_of rest))))
range_tokens x y rest = ap (λ ks. k.OpenBracket ∷ ks)
    (ap tokens_of (append_assoc (expression x) (token k.Dots ∷ (expression y ++ (token k.CloseBracket ∷ []))) rest)
    ∙ (tokens-append (expression x) (token k.Dots ∷ ((expression y ++ (token k.CloseBracket ∷ [])) ++ rest))
    ∙ ap (λ ks. tree_tokens x ++ (k.Dots ∷ ks)) (ap tokens_of (append_assoc (expression y) (token k.CloseBracket ∷ []) rest)
    ∙ tokens-append (expression y) (token k.CloseBracket ∷ rest))))

command_tokens : (action : List Piece) (g : Expr) (branches : List Piece)
    → tokens_of (action ++ (token k.CloseBracket ∷ blank ∷ (expression g ++ (spaced k.Arrow ++ (branches ++ ended)))))
    ≡ tokens_of action ++ (k.CloseBracket ∷ (tree_tokens g ++ (k.Arrow ∷ (tokens_of branches ++ (k.Semicolon ∷ [])))))
command_tokens action g branches =
    tokens-append action (token k.CloseBracket ∷ blank ∷ (expression g ++ (spaced k.Arrow ++ (branches ++ ended))))
    ∙ ap (λ ks. tokens_of action ++ (k.CloseBracket ∷ ks)) (tokens-between (expression g) (branches ++ ended) k.Arrow
    ∙ ap (λ ks. tree_tokens g ++ (k.Arrow ∷ ks)) (tokens-append branches ended))

-- a rule and the lines of its trees
module _ {X : Type 0} (IsOne : List Kind → X → Type 0) (line : X → List Piece) (change : X → X)
    (each : (a : List Kind) (x : X) → IsOne a x → AreFormedKinds a → Matches IsOne (tokens_of (line (change x))) (change x)) where
  -- texts one after another
  pub each_stands : {a : List Kind} {xs : List X} → Each IsOne a xs → AreFormedKinds a
      → Matches (Each IsOne) (tokens_of (flat_map line (map change xs))) (map change xs)
  each_stands Each.end formed = record { text = Each.end; formed = none }
  each_stands (Each.more {a = a} {b = b} {x = x} {xs = xs} first rest) formed =
      let one = each a x first (front_formed a b formed) in
      let others = each_stands rest (behind_formed a b formed) in
      subst (λ ks. Matches (Each IsOne) ks (change x ∷ map change xs)) (sym (tokens-append (line (change x)) (flat_map line (map change xs)))) (record {
        text = Each.more one.text others.text;
        formed = joined (tokens_of (line (change x))) one.formed others.formed;
      })

  module _ (between : Kind) where
    some_first : {ks : List Kind} {xs : List X} → Separated between IsOne ks xs → xs ≡ [] → ⊥
    some_first (Separated.one first) is = cc
    some_first (Separated.more first rest) is = cc

    separated-more : (x : List Piece) (ys : List X) → (ys ≡ [] → ⊥) → tokens_of (separated (spaced between) (x ∷ map line (map change ys)))
        ≡ tokens_of x ++ (between ∷ tokens_of (separated (spaced between) (map line (map change ys))))
    separated-more x [] some = absurd (some refl)
    separated-more x (y ∷ ys) some = tokens-between x (separated (spaced between) (map line (map change (y ∷ ys)))) between

    -- texts with a token between each two of them
    pub separated_stands : {a : List Kind} {xs : List X} → Separated between IsOne a xs → AreFormedKinds a
        → Matches (Separated between IsOne) (tokens_of (separated (spaced between) (map line (map change xs)))) (map change xs)
    separated_stands (Separated.one {a = a} {x = x} first) formed = let one = each a x first formed in record { text = Separated.one one.text; formed = one.formed }
    separated_stands (Separated.more {a = a} {b = b} {x = x} {xs = xs} first rest) formed =
        let one = each a x first (front_formed a (between ∷ b) formed) in
        let after = behind_formed a (between ∷ b) formed in
        let others = separated_stands rest (rest_formed after) in
        subst (λ ks. Matches (Separated between IsOne) ks (change x ∷ map change xs)) (sym (separated-more (line (change x)) xs (some_first rest))) (record {
          text = Separated.more one.text others.text;
          formed = joined (tokens_of (line (change x))) one.formed (more (first_formed after) others.formed);
        })

-- names says which names have other ones, by what names in expressions stand for
module _ (names : Name → Option Name) (by : Name → Option Expr) (named : AreFormedNames names) (trees : AllStand by) where
  name_formed : (n : Name) → IsFormedName n → IsFormedName (renamed names n)
  name_formed n formed = at (names n) (named n)
    where
      at : (o : Option Name) → ((m : Name) → o ≡ Some m → IsFormedName m) → IsFormedName (unwrap_or o n)
      at None all = formed
      at (Some m) all = all m refl

  optional_stands : (lead : Kind) {a : List Kind} {v : Option Expr} → IsOptional lead a v → AreFormedKinds a
      → Matches (IsOptional lead) (tokens_of (behind lead (option_map (replaced by) v))) (option_map (replaced by) v)
  optional_stands lead IsOptional.absent formed = record { text = IsOptional.absent; formed = none }
  optional_stands lead (IsOptional.present {a = a} {x = x} tree) formed = let inside = replaced_stands by trees tree (rest_formed formed) in
      record { text = IsOptional.present inside.text; formed = more (first_formed formed) inside.formed }

  pub const_stands : {a : List Kind} {c : ConstText} → IsConst a c → AreFormedKinds a → Matches IsConst (tokens_of (const_line (flat_const by c))) (flat_const by c)
  const_stands (IsConst.const {a = a} {b = b} {n = n} {s = s} {v = v} word value) formed =
      let after = behind_formed a (k.Name n ∷ (b ++ (k.Semicolon ∷ []))) (rest_formed formed) in
      let inside = optional_stands k.Equal value (front_formed b (k.Semicolon ∷ []) (rest_formed after)) in
      let o : Option Expr = option_map (replaced by) v in
      subst (λ ks. Matches IsConst (k.Const ∷ (sort_token s ∷ (k.Name n ∷ ks))) (record { name = n; sort = s; value = o })) (sym (tokens-append (behind k.Equal o) ended)) (record {
        text = IsConst.const (sort_is s) inside.text;
        formed = more (first_formed formed) (more (sort_formed s) (more (first_formed after)
            (joined (tokens_of (behind k.Equal o)) inside.formed (more semicolon_formed none))));
      })

  pub variable_stands : {a : List Kind} {v : Variable} → IsVariable a v → AreFormedKinds a
      → Matches IsVariable (tokens_of (variable_line (copied_variable names by v))) (copied_variable names by v)
  variable_stands (IsVariable.ranged {a = a} {b = b} {c = c} {n = n} {x = x} {y = y} {z = z} low high init) formed =
      let bracket = rest_formed (rest_formed formed) in
      let first = rest_formed bracket in
      let dots = behind_formed a (k.Dots ∷ (b ++ (k.CloseBracket ∷ (c ++ (k.Semicolon ∷ []))))) first in
      let close = behind_formed b (k.CloseBracket ∷ (c ++ (k.Semicolon ∷ []))) (rest_formed dots) in
      let lower = replaced_stands by trees low (front_formed a (k.Dots ∷ (b ++ (k.CloseBracket ∷ (c ++ (k.Semicolon ∷ []))))) first) in
      let upper = replaced_stands by trees high (front_formed b (k.CloseBracket ∷ (c ++ (k.Semicolon ∷ []))) (rest_formed dots)) in
      let start = optional_stands k.Init init (front_formed c (k.Semicolon ∷ []) (rest_formed close)) in
      let o : Option Expr = option_map (replaced by) z in
      let new : Variable = record { name = renamed names n; range = Some (replaced by x, replaced by y); init = o } in
      subst (λ ks. Matches IsVariable (k.Name (renamed names n) ∷ (k.Colon ∷ ks)) new)
      (sym (range_tokens (replaced by x) (replaced by y) (behind k.Init o ++ ended)
      ∙ ap (λ ks. k.OpenBracket ∷ (tree_tokens (replaced by x) ++ (k.Dots ∷ (tree_tokens (replaced by y) ++ (k.CloseBracket ∷ ks))))) (tokens-append (behind k.Init o) ended)))
      (record {
        text = IsVariable.ranged lower.text upper.text start.text;
        formed = more (name_formed n (first_formed formed)) (more (first_formed (rest_formed formed)) (more (first_formed bracket)
            (joined (tree_tokens (replaced by x)) lower.formed (more (first_formed dots)
            (joined (tree_tokens (replaced by y)) upper.formed (more (first_formed close)
            (joined (tokens_of (behind k.Init o)) start.formed (more semicolon_formed none))))))));
      })
  variable_stands (IsVariable.truth {c = c} {n = n} {z = z} init) formed =
      let bool = rest_formed (rest_formed formed) in
      let start = optional_stands k.Init init (front_formed c (k.Semicolon ∷ []) (rest_formed bool)) in
      let o : Option Expr = option_map (replaced by) z in
      let new : Variable = record { name = renamed names n; range = None; init = o } in
      subst (λ ks. Matches IsVariable (k.Name (renamed names n) ∷ (k.Colon ∷ (k.Bool ∷ ks))) new) (sym (tokens-append (behind k.Init o) ended)) (record {
        text = IsVariable.truth start.text;
        formed = more (name_formed n (first_formed formed)) (more (first_formed (rest_formed formed)) (more (first_formed bool)
            (joined (tokens_of (behind k.Init o)) start.formed (more semicolon_formed none))));
      })

  pub global_stands : {a : List Kind} {v : Variable} → IsGlobal a v → AreFormedKinds a
      → Matches IsGlobal (tokens_of (global_line (copied_variable names by v))) (copied_variable names by v)
  global_stands (IsGlobal.global variable) formed = let inside = variable_stands variable (rest_formed formed) in
      record { text = IsGlobal.global inside.text; formed = more (first_formed formed) inside.formed }

  pub formula_stands : {a : List Kind} {f : Named} → IsFormula a f → AreFormedKinds a
      → Matches IsFormula (tokens_of (formula_line (with_body (replaced by) f))) (with_body (replaced by) f)
  formula_stands (IsFormula.formula {a = a} {n = n} {x = x} body) formed =
      let equal = rest_formed (rest_formed formed) in
      let inside = replaced_stands by trees body (front_formed a (k.Semicolon ∷ []) (rest_formed equal)) in
      subst (λ ks. Matches IsFormula (k.Formula ∷ (k.Name n ∷ (k.Equal ∷ ks))) (record { name = n; body = replaced by x })) (sym (tokens-append (expression (replaced by x)) ended)) (record {
        text = IsFormula.formula inside.text;
        formed = more (first_formed formed) (more (first_formed (rest_formed formed)) (more (first_formed equal)
            (joined (tree_tokens (replaced by x)) inside.formed (more semicolon_formed none))));
      })

  pub label_stands : {a : List Kind} {f : Named} → IsLabel a f → AreFormedKinds a
      → Matches IsLabel (tokens_of (label_line (with_body (replaced by) f))) (with_body (replaced by) f)
  label_stands (IsLabel.label {a = a} {n = n} {x = x} body) formed =
      let equal = rest_formed (rest_formed formed) in
      let inside = replaced_stands by trees body (front_formed a (k.Semicolon ∷ []) (rest_formed equal)) in
      subst (λ ks. Matches IsLabel (k.Label ∷ (k.Quoted n ∷ (k.Equal ∷ ks))) (record { name = n; body = replaced by x })) (sym (tokens-append (expression (replaced by x)) ended)) (record {
        text = IsLabel.label inside.text;
        formed = more (first_formed formed) (more (first_formed (rest_formed formed)) (more (first_formed equal)
            (joined (tree_tokens (replaced by x)) inside.formed (more semicolon_formed none))));
      })

  assign_stands : {a : List Kind} {s : Name × Expr} → IsAssign a s → AreFormedKinds a
      → Matches IsAssign (tokens_of (assignment (copied_set names by s))) (copied_set names by s)
  assign_stands (IsAssign.assign {a = a} {n = n} {x = x} value) formed =
      let prime = rest_formed (rest_formed formed) in
      let inside = replaced_stands by trees value (front_formed a (k.Close ∷ []) (rest_formed (rest_formed prime))) in
      subst (λ ks. Matches IsAssign (k.Open ∷ (k.Name (renamed names n) ∷ (k.Prime ∷ (k.Equal ∷ ks)))) (renamed names n, replaced by x))
      (sym (tokens-append (expression (replaced by x)) (token k.Close ∷ []))) (record {
        text = IsAssign.assign inside.text;
        formed = more (first_formed formed) (more (name_formed n (first_formed (rest_formed formed))) (more (first_formed prime) (more (first_formed (rest_formed prime))
            (joined (tree_tokens (replaced by x)) inside.formed (more close_formed none)))));
      })

  update_is : (sets : List (Name × Expr)) → (sets ≡ [] → ⊥) → update (map (copied_set names by) sets)
      ≡ separated (spaced k.Ampersand) (map assignment (map (copied_set names by) sets))
  update_is [] some = absurd (some refl)
  update_is (s ∷ sets) some = refl

  update_stands : {a : List Kind} {sets : List (Name × Expr)} → IsUpdate a sets → AreFormedKinds a
      → Matches IsUpdate (tokens_of (update (map (copied_set names by) sets))) (map (copied_set names by) sets)
  update_stands IsUpdate.nothing formed = record { text = IsUpdate.nothing; formed = formed }
  update_stands (IsUpdate.assigns {s = sets} parts) formed =
      let inside = separated_stands IsAssign assignment (copied_set names by) (λ a x text formed. assign_stands text formed) k.Ampersand parts formed in
      subst (λ pieces. Matches IsUpdate (tokens_of pieces) (map (copied_set names by) sets))
      (sym (update_is sets (some_first IsAssign assignment (copied_set names by) (λ a x text formed. assign_stands text formed) k.Ampersand parts)))
      (record { text = IsUpdate.assigns inside.text; formed = inside.formed })

  weighted_stands : {a : List Kind} {b : Branch} → IsWeighted a b → AreFormedKinds a
      → Matches IsWeighted (tokens_of (branch (copied_branch names by b))) (copied_branch names by b)
  weighted_stands (IsWeighted.weighted {a = a} {b = b} {x = x} {s = sets} weight assigned) formed =
      let colon = behind_formed a (k.Colon ∷ b) formed in
      let first = replaced_stands by trees weight (front_formed a (k.Colon ∷ b) formed) in
      let second = update_stands assigned (rest_formed colon) in
      let new : List Piece = update (map (copied_set names by) sets) in
      subst (λ ks. Matches IsWeighted ks (record { weight = Some (replaced by x); sets = map (copied_set names by) sets }))
      (sym (ap tokens_of (append_assoc (expression (replaced by x)) (spaced k.Colon) new) ∙ tokens-between (expression (replaced by x)) new k.Colon)) (record {
        text = IsWeighted.weighted first.text second.text;
        formed = joined (tree_tokens (replaced by x)) first.formed (more (first_formed colon) second.formed);
      })

  branches_stand : {a : List Kind} {bs : List Branch} → AreBranches a bs → AreFormedKinds a
      → Matches AreBranches (tokens_of (separated (spaced k.Plus) (map branch (map (copied_branch names by) bs)))) (map (copied_branch names by) bs)
  branches_stand (AreBranches.alone {s = sets} assigned) formed = let inside = update_stands assigned formed in
      record { text = AreBranches.alone inside.text; formed = inside.formed }
  branches_stand (AreBranches.several {bs = bs} parts) formed =
      let inside = separated_stands IsWeighted branch (copied_branch names by) (λ a x text formed. weighted_stands text formed) k.Plus parts formed in
      record { text = AreBranches.several inside.text; formed = inside.formed }

  -- the name of an action, where it has one
  abbrev action_pieces : Option Name → List Piece
  action_pieces o = option_map_or (λ name. token (k.Name name) ∷ []) o []

  action_stands : {a : List Kind} {o : Option Name} → IsAction a o → AreFormedKinds a
      → Matches IsAction (tokens_of (action_pieces (option_map (renamed names) o))) (option_map (renamed names) o)
  action_stands IsAction.unlabelled formed = record { text = IsAction.unlabelled; formed = none }
  action_stands (IsAction.labelled {n = n}) formed = record { text = IsAction.labelled; formed = more (name_formed n (first_formed formed)) none }

  pub command_stands : {a : List Kind} {c : Command} → IsCommand a c → AreFormedKinds a
      → Matches IsCommand (tokens_of (command_line (copied_command names by c))) (copied_command names by c)
  command_stands (IsCommand.command {a = a} {g = g} {b = b} {n = n} {x = x} {bs = bs} action guard branches) formed =
      let close = behind_formed a (k.CloseBracket ∷ (g ++ (k.Arrow ∷ (b ++ (k.Semicolon ∷ []))))) (rest_formed formed) in
      let arrow = behind_formed g (k.Arrow ∷ (b ++ (k.Semicolon ∷ []))) (rest_formed close) in
      let first = action_stands action (front_formed a (k.CloseBracket ∷ (g ++ (k.Arrow ∷ (b ++ (k.Semicolon ∷ []))))) (rest_formed formed)) in
      let second = replaced_stands by trees guard (front_formed g (k.Arrow ∷ (b ++ (k.Semicolon ∷ []))) (rest_formed close)) in
      let third = branches_stand branches (front_formed b (k.Semicolon ∷ []) (rest_formed arrow)) in
      let name : List Piece = action_pieces (option_map (renamed names) n) in
      let parts : List Piece = separated (spaced k.Plus) (map branch (map (copied_branch names by) bs)) in
      subst (λ ks. Matches IsCommand (k.OpenBracket ∷ ks) (record { action = option_map (renamed names) n; guard = replaced by x; branches = map (copied_branch names by) bs }))
      (sym (command_tokens name (replaced by x) parts)) (record {
        text = IsCommand.command first.text second.text third.text;
        formed = more (first_formed formed) (joined (tokens_of name) first.formed (more (first_formed close)
            (joined (tree_tokens (replaced by x)) second.formed (more (first_formed arrow)
            (joined (tokens_of parts) third.formed (more semicolon_formed none))))));
      })

  -- the line of a variable of a module, and of a command
  abbrev pub variable_piece : Variable → List Piece
  variable_piece v = indented (variable_line v)

  abbrev pub command_piece : Command → List Piece
  command_piece c = indented (command_line c)

  pub variables_stand : {a : List Kind} {vs : List Variable} → Each IsVariable a vs → AreFormedKinds a
      → Matches (Each IsVariable) (tokens_of (flat_map variable_piece (map (copied_variable names by) vs))) (map (copied_variable names by) vs)
  variables_stand = each_stands IsVariable variable_piece (copied_variable names by) (λ a x text formed. variable_stands text formed)

  pub commands_stand : {a : List Kind} {cs : List Command} → Each IsCommand a cs → AreFormedKinds a
      → Matches (Each IsCommand) (tokens_of (flat_map command_piece (map (copied_command names by) cs))) (map (copied_command names by) cs)
  commands_stand = each_stands IsCommand command_piece (copied_command names by) (λ a x text formed. command_stands text formed)

  module_tokens : (first second : List Piece) → tokens_of (first ++ (second ++ (token k.EndModule ∷ line_end ∷ [])))
      ≡ tokens_of first ++ (tokens_of second ++ (k.EndModule ∷ []))
  module_tokens first second = tokens-append first (second ++ (token k.EndModule ∷ line_end ∷ []))
      ∙ ap (λ ks. tokens_of first ++ ks) (tokens-append second (token k.EndModule ∷ line_end ∷ []))

  -- a copy of the variables and commands of a module
  pub copied_stands : (title : Name) {a b : List Kind} {vs : List Variable} {cs : List Command} → IsFormedName title
      → Matches (Each IsVariable) a vs → Matches (Each IsCommand) b cs
      → Matches IsModule (tokens_of (module_lines (Written title (map (copied_variable names by) vs) (map (copied_command names by) cs))))
      (Written title (map (copied_variable names by) vs) (map (copied_command names by) cs))
  copied_stands title {vs = vs} {cs = cs} formed variables commands =
      let first = variables_stand variables.text variables.formed in
      let second = commands_stand commands.text commands.formed in
      let front : List Piece = flat_map variable_piece (map (copied_variable names by) vs) in
      let rest : List Piece = flat_map command_piece (map (copied_command names by) cs) in
      subst (λ ks. Matches IsModule (k.Module ∷ (k.Name title ∷ ks)) (Written title (map (copied_variable names by) vs) (map (copied_command names by) cs)))
      (sym (module_tokens front rest)) (record {
        text = IsModule.written first.text second.text;
        formed = more module_formed (more formed (joined (tokens_of front) first.formed (joined (tokens_of rest) second.formed (more endmodule_formed none))));
      })
