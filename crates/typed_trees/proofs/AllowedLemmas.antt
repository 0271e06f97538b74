-- An expression that is well typed where the built-in labels may not stand is so where they may.
use Rattle.std.proofs.Common.{◌≡◌, ℕ, suc, List, [], ◌∷◌, Option, Bool, true, false, map, length, cond, refl, sym, ap, ◌∙◌, subst, unwrap_or}
use Rattle.std.specs.Prelude.{None, Some, if◌then◌else◌}
use Rattle.std.proofs.lemmas.List.{length-map}
use Rattle.chain_model.specs.declared.values.Sort.{Sort}
use Rattle.chain_model.specs.declared.expressions.Labels.{Labels}
use Rattle.chain_model.specs.declared.expressions.Labels.TheVariants.{Allowed, Refused}
use Rattle.chain_model.specs.declared.expressions.Func.{Func}
use Rattle.chain_model.specs.declared.expressions.Func.TheVariants as f
use Rattle.chain_model.specs.declared.expressions.Op.{Op}
use Rattle.chain_model.specs.declared.expressions.Typed.{Typed, Typed-F, roll-Typed, map-Typed}
use Rattle.chain_model.specs.declared.expressions.Form.{Form, roll-Form, map-Form}
use Rattle.chain_model.specs.declared.expressions.Form.TheOpen.{Form-F}
use Rattle.chain_model.specs.declared.expressions.Form.TheOpen as node
use Rattle.chain_model.specs.declared.expressions.Form.TheFolds.{fold-Typed, fold-Form, fold-roll-Form, fold-roll-Typed, ind-Typed}
use Rattle.chain_model.specs.declared.chain.Var.{Var}
use Rattle.chain_model.specs.Sorts.{◌>>=◌, is_level, call_sort, level_sort, link_sort, links_sort, result_sort, number_sort, extreme_sort, extremes_sort, only_sort, both_sorts, rounded_sort, power_sort, remainder_sort, negation_sort, opposite_sort, conditional_sort}
use Rattle.chain_model.specs.Typing.{sort_of, form_sort, as_declared}
use Rattle.typed_trees.proofs.BindLemmas.{bind-Some}

-- where one gives something the other gives the same
abbrev Follows : {A : Type 0} → Option A → Option A → Type 0
Follows {A} p q = (t : A) → p ≡ Some t → q ≡ Some t

follows-bind : {A B : Type 0} (p q : Option A) (g h : A → Option B) → Follows p q → ((x : A) → Follows (g x) (h x)) → Follows (p >>= g) (q >>= h)
follows-bind p q g h one more t is =
    let b = bind-Some p g t is in
    ap (λ o. o >>= h) (one b.0 b.1) ∙ more b.0 t b.2

-- two sorts of a part, of which one follows the other
abbrev Pair : Type 0
Pair = (p : Option Sort) × (q : Option Sort) × Follows p q

abbrev lefts : List Pair → List (Option Sort)
lefts zs = map (λ z. z.0) zs

abbrev rights : List Pair → List (Option Sort)
rights zs = map (λ z. z.1) zs

links-follow : (a : Sort) (zs : List Pair) (ops : List Op) → Follows (links_sort a (lefts zs) ops) (links_sort a (rights zs) ops)
links-follow a [] ops t is = is
links-follow a (z ∷ zs) [] t is = is
links-follow a (z ∷ zs) (op ∷ ops) t is =
    follows-bind (link_sort op a z.0) (link_sort op a z.1) (λ j. links_sort j (lefts zs) ops) (λ j. links_sort j (rights zs) ops)
    (follows-bind z.0 z.1 (result_sort op a) (result_sort op a) z.2 (λ x u same. same)) (λ j. links-follow j zs ops) t is

extreme-follow : (a : Sort) (zs : List Pair) → Follows (extreme_sort a (lefts zs)) (extreme_sort a (rights zs))
extreme-follow a [] t is = is
extreme-follow a (z ∷ zs) t is =
    follows-bind z.0 z.1 (λ b. number_sort a b >>= λ j. extreme_sort j (lefts zs)) (λ b. number_sort a b >>= λ j. extreme_sort j (rights zs)) z.2
    (λ b. follows-bind (number_sort a b) (number_sort a b) (λ j. extreme_sort j (lefts zs)) (λ j. extreme_sort j (rights zs)) (λ u same. same) (λ j. extreme-follow j zs)) t is

extremes-follow : (zs : List Pair) → Follows (extremes_sort (lefts zs)) (extremes_sort (rights zs))
extremes-follow [] t is = is
extremes-follow (z ∷ []) t is = is
extremes-follow (z ∷ (w ∷ zs)) t is =
    follows-bind z.0 z.1 (λ s. extreme_sort s (lefts (w ∷ zs))) (λ s. extreme_sort s (rights (w ∷ zs))) z.2 (λ s. extreme-follow s (w ∷ zs)) t is

only-follow : (zs : List Pair) → Follows (only_sort (lefts zs)) (only_sort (rights zs))
only-follow [] t is = is
only-follow (z ∷ []) t is = z.2 t is
only-follow (z ∷ (w ∷ zs)) t is = is

both-follow : (zs : List Pair) → Follows (both_sorts (lefts zs)) (both_sorts (rights zs))
both-follow [] t is = is
both-follow (z ∷ []) t is = is
both-follow (z ∷ (w ∷ [])) t is =
    follows-bind z.0 z.1 (λ s. w.0 >>= λ u. Some (s, u)) (λ s. w.1 >>= λ u. Some (s, u)) z.2
    (λ s. follows-bind w.0 w.1 (λ u. Some (s, u)) (λ u. Some (s, u)) w.2 (λ u v same. same)) t is
both-follow (z ∷ (w ∷ (v ∷ zs))) t is = is

call-follow : (func : Func) (zs : List Pair) → Follows (call_sort func (lefts zs)) (call_sort func (rights zs))
call-follow f.Min zs t is = extremes-follow zs t is
call-follow f.Max zs t is = extremes-follow zs t is
call-follow f.Floor zs t is = follows-bind (only_sort (lefts zs)) (only_sort (rights zs)) rounded_sort rounded_sort (only-follow zs) (λ x u same. same) t is
call-follow f.Ceil zs t is = follows-bind (only_sort (lefts zs)) (only_sort (rights zs)) rounded_sort rounded_sort (only-follow zs) (λ x u same. same) t is
call-follow f.Pow zs t is =
    follows-bind (both_sorts (lefts zs)) (both_sorts (rights zs)) (λ s. power_sort s.0 s.1) (λ s. power_sort s.0 s.1) (both-follow zs) (λ x u same. same) t is
call-follow f.Mod zs t is =
    follows-bind (both_sorts (lefts zs)) (both_sorts (rights zs)) (λ s. remainder_sort s.0 s.1) (λ s. remainder_sort s.0 s.1) (both-follow zs) (λ x u same. same) t is

level-follow : (zs : List Pair) (ops : List Op) → Follows (level_sort (lefts zs) ops) (level_sort (rights zs) ops)
level-follow [] ops t is = is
level-follow (z ∷ zs) [] t is = is
level-follow (z ∷ zs) (op ∷ ops) t is =
    chosen (is_level (length (lefts zs)) op ops) (is_level (length (rights zs)) op ops)
    (ap (λ n. is_level n op ops) (length-map zs (λ w. w.0) ∙ sym (length-map zs (λ w. w.1)))) is
  where
    chosen : (b c : Bool) → b ≡ c → (if b then z.0 >>= (λ a. links_sort a (lefts zs) (op ∷ ops)) else None) ≡ Some t
        → (if c then z.1 >>= (λ a. links_sort a (rights zs) (op ∷ ops)) else None) ≡ Some t
    chosen true c same found = subst (λ d. (if d then z.1 >>= (λ a. links_sort a (rights zs) (op ∷ ops)) else None) ≡ Some t) same
        (follows-bind z.0 z.1 (λ a. links_sort a (lefts zs) (op ∷ ops)) (λ a. links_sort a (rights zs) (op ∷ ops)) z.2 (λ a. links-follow a zs (op ∷ ops)) t found)
    chosen false c same found = absurd (let never : ⊥ = cc in never)

module _ (vars : List Var) where
  abbrev declared : Typed-F (Sort → Option Sort) (Option Sort) → Option Sort
  declared t = as_declared t.sort (t.form t.sort)

  abbrev found_in : Labels → Form → Sort → Option Sort
  found_in labels = fold-Form (Sort → Option Sort) (Option Sort) (form_sort vars labels) declared

  abbrev FormFollows : Form → Type 0
  FormFollows form = (s : Sort) → Follows (found_in Refused form s) (found_in Allowed form s)

  abbrev TreeFollows : Typed → Type 0
  TreeFollows tree = Follows (sort_of vars Refused tree) (sort_of vars Allowed tree)

  abbrev FormPart : Type 0
  FormPart = (x : Form) × FormFollows x

  abbrev TreePart : Type 0
  TreePart = (x : Typed) × TreeFollows x

  abbrev shape : Form-F FormPart TreePart → Form-F Form Typed
  shape y = map-Form FormPart TreePart Form Typed (λ p. p.0) (λ p. p.0) y

  abbrev layer_of : Labels → Form-F FormPart TreePart → Sort → Option Sort
  layer_of labels y s = form_sort vars labels (map-Form Form Typed (Sort → Option Sort) (Option Sort) (found_in labels) (sort_of vars labels) (shape y)) s

  lefts-are : (ps : List TreePart) → map (sort_of vars Refused) (map (λ p. p.0) ps) ≡ lefts (map (λ p. (sort_of vars Refused p.0, sort_of vars Allowed p.0, p.1)) ps)
  lefts-are [] = refl
  lefts-are (p ∷ ps) = ap (λ rest. sort_of vars Refused p.0 ∷ rest) (lefts-are ps)

  rights-are : (ps : List TreePart) → map (sort_of vars Allowed) (map (λ p. p.0) ps) ≡ rights (map (λ p. (sort_of vars Refused p.0, sort_of vars Allowed p.0, p.1)) ps)
  rights-are [] = refl
  rights-are (p ∷ ps) = ap (λ rest. sort_of vars Allowed p.0 ∷ rest) (rights-are ps)

  layer : (y : Form-F FormPart TreePart) (s : Sort) → Follows (layer_of Refused y s) (layer_of Allowed y s)
  layer (node.Lit v) s t is = is
  layer (node.Var n) s t is = is
  layer (node.Call func ps) s t is =
      let zs : List Pair = map (λ p. (sort_of vars Refused p.0, sort_of vars Allowed p.0, p.1)) ps in
      ap (call_sort func) (rights-are ps) ∙ call-follow func zs t (sym (ap (call_sort func) (lefts-are ps)) ∙ is)
  layer (node.Not p) s t is =
      follows-bind (sort_of vars Refused p.0) (sort_of vars Allowed p.0) negation_sort negation_sort p.1 (λ x u same. same) t is
  layer (node.Minus p) s t is =
      follows-bind (sort_of vars Refused p.0) (sort_of vars Allowed p.0) opposite_sort opposite_sort p.1 (λ x u same. same) t is
  layer (node.Level ps ops) s t is =
      let zs : List Pair = map (λ p. (sort_of vars Refused p.0, sort_of vars Allowed p.0, p.1)) ps in
      ap (λ parts. level_sort parts ops) (rights-are ps) ∙ level-follow zs ops t (sym (ap (λ parts. level_sort parts ops) (lefts-are ps)) ∙ is)
  layer (node.If c x y) s t is =
      follows-bind (sort_of vars Refused c.0) (sort_of vars Allowed c.0)
      (λ a. sort_of vars Refused x.0 >>= λ b. sort_of vars Refused y.0 >>= conditional_sort a b)
      (λ a. sort_of vars Allowed x.0 >>= λ b. sort_of vars Allowed y.0 >>= conditional_sort a b) c.1
      (λ a. follows-bind (sort_of vars Refused x.0) (sort_of vars Allowed x.0)
      (λ b. sort_of vars Refused y.0 >>= conditional_sort a b) (λ b. sort_of vars Allowed y.0 >>= conditional_sort a b) x.1
      (λ b. follows-bind (sort_of vars Refused y.0) (sort_of vars Allowed y.0) (conditional_sort a b) (conditional_sort a b) y.1 (λ z u same. same))) t is
  layer node.IsInit s t is = absurd (let never : ⊥ = cc in never)
  layer node.IsDeadlock s t is = absurd (let never : ⊥ = cc in never)

  -- an expression of some sort without built-in labels is of that sort where they may stand
  pub sort_of-Allowed : (tree : Typed) → TreeFollows tree
  sort_of-Allowed = ind-Typed FormFollows TreeFollows
      (λ x y is. subst (λ z. FormFollows (roll-Form z)) is (λ s t found.
      ap (λ g. g s) (fold-roll-Form (Sort → Option Sort) (Option Sort) (form_sort vars Allowed) declared (shape y))
      ∙ layer y s t (sym (ap (λ g. g s) (fold-roll-Form (Sort → Option Sort) (Option Sort) (form_sort vars Refused) declared (shape y))) ∙ found)))
      (λ x y is. subst (λ z. TreeFollows (roll-Typed z)) is (λ t found.
      let d : Typed-F Form Typed = map-Typed FormPart TreePart Form Typed (λ p. p.0) (λ p. p.0) y in
      fold-roll-Typed (Sort → Option Sort) (Option Sort) (form_sort vars Allowed) declared d
      ∙ follows-bind (found_in Refused y.form.0 y.sort) (found_in Allowed y.form.0 y.sort) (λ s. as_declared y.sort (Some s)) (λ s. as_declared y.sort (Some s))
      (y.form.1 y.sort) (λ s u same. same) t
      (sym (fold-roll-Typed (Sort → Option Sort) (Option Sort) (form_sort vars Refused) declared d) ∙ found)))
