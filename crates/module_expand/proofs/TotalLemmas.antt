-- The size of a flat text from the sizes of its parts.
use Rattle.std.proofs.Common.{◌≡◌, ℕ, ◌+◌, ◌-◌, ◌^◌, ◌<◌, List, [], ◌∷◌, ◌++◌, Option, map, min, max, length, get_or, take, arith, sym, ap, ◌∙◌, subst, unwrap_or}
use Rattle.std.specs.Prelude.{None, Some, ◌⊎◌, find, position, slice_get}
use mathlib.Core.Logic.{inl, inr}
use Rattle.std.specs.List.{flat_map}
use Rattle.std.proofs.lemmas.Grind.{common_steps, flat_map-append}
use Rattle.std.proofs.lemmas.List.{map-append}
use Rattle.std.proofs.lemmas.List.Quantifiers.{position-Some}
use Rattle.prism_syntax.specs.declared.expressions.Expr.{Expr}
use Rattle.prism_syntax.specs.declared.commands.Command.{Command}
use Rattle.prism_syntax.specs.declared.models.Named.{Named}
use Rattle.prism_syntax.specs.declared.models.Variable.{Variable}
use Rattle.prism_syntax.specs.declared.models.Module.{Module}
use Rattle.prism_syntax.specs.declared.models.Module.TheVariants.{Written, Renamed}
use Rattle.prism_syntax.specs.declared.models.ModelText.{ModelText}
use Rattle.prism_syntax.specs.Replaced.{replaced}
use Rattle.prism_names.specs.First.{Name}
use Rattle.module_expand.specs.declared.sizes.Size.{Size}
use Rattle.module_expand.specs.Expanded.{stands_for, AreExpanded}
use Rattle.module_expand.specs.Renamed.{no_names, right_of, as_tree, copied_module}
use Rattle.module_expand.specs.Flat.{is_written_as, source_of, flat_module, flat_of}
use Rattle.module_expand.specs.Listed.{const_exprs, variable_exprs, module_exprs, bodies, exprs_of, AreTooLarge}
use Rattle.module_expand.specs.Sizes.{IsSize, AreSizesOfEach}
use Rattle.module_expand.proofs.FirstLemmas.{one_more, some_same, find-at_position, find-no_position}
use Rattle.module_expand.proofs.OrderLemmas.{there_below}
use Rattle.module_expand.proofs.PlaceLemmas.{at_front, at_end, front_or_end}
use Rattle.module_expand.proofs.ListedLemmas.{exprs-consts, exprs-variables, exprs-module, exprs-bodies}
use Rattle.module_expand.proofs.RenamedLemmas.{size-renamed}
use Rattle.module_expand.proofs.SizeLemmas.{size-append}

-- the expressions of a flat text, part by part
pub flat_exprs : (m : ModelText) (trees : List Named) → AreExpanded m.formulas trees → exprs_of (flat_of m trees)
    ≡ map (replaced (stands_for trees)) (flat_map const_exprs m.consts)
    ++ (map (replaced (stands_for trees)) (flat_map variable_exprs m.globals)
    ++ (map (replaced (stands_for trees)) (bodies m.formulas)
    ++ (flat_map module_exprs (map (flat_module m.modules (stands_for trees)) m.modules)
    ++ map (replaced (stands_for trees)) (bodies m.labels))))
flat_exprs m trees expanded = λ i. exprs-consts by m.consts i ++ (exprs-variables no_names by m.globals i ++ (formulas i
    ++ (flat_map module_exprs (map (flat_module m.modules by) m.modules) ++ exprs-bodies by m.labels i)))
  where
    by : Name → Option Expr
    by = stands_for trees

    formulas : bodies trees ≡ map (replaced by) (bodies m.formulas)
    formulas = ap bodies expanded ∙ exprs-bodies by m.formulas

-- a size past the limits is that of expressions past the limits
pub size_large : (s : Size) (xs : List Expr) → IsSize s xs → (65536 < s.nodes) ⊎ (64 < s.depth) → AreTooLarge xs
size_large s xs p (inl nodes) = inl (omega (arith, p.nodes, nodes))
size_large s xs p (inr depth) = inr (omega (arith, p.depth, depth))

pub large_size : (s : Size) (xs : List Expr) → IsSize s xs → AreTooLarge xs → (65536 < s.nodes) ⊎ (64 < s.depth)
large_size s xs p (inl nodes) = inl (omega (arith, p.nodes, nodes))
large_size s xs p (inr depth) = inr (omega (arith, p.depth, depth))

-- one module more
pub size-module_more : (a b r : Size) (change : Module → Module) (ms : List Module) (i : ℕ) (m : Module)
    → i < length ms → m ≡ get_or ms i m
    → r.nodes ≡ min (a.nodes + b.nodes) (2 ^ 64 - 1) → r.depth ≡ max a.depth b.depth
    → IsSize a (flat_map module_exprs (map change (take i ms))) → IsSize b (module_exprs (change m))
    → IsSize r (flat_map module_exprs (map change (take (i + 1) ms)))
size-module_more a b r change ms i m lt is nodes depth p q = subst (IsSize r) (sym joined)
    (size-append a b r _ _ nodes depth p q)
  where
    whole : (ys : List Expr) → ys ++ [] ≡ ys
    whole ys = grind (arith, common_steps)

    joined : flat_map module_exprs (map change (take (i + 1) ms)) ≡ flat_map module_exprs (map change (take i ms))
        ++ module_exprs (change m)
    joined = ap (λ z. flat_map module_exprs (map change z)) (one_more ms i m lt is)
        ∙ (ap (flat_map module_exprs) (map-append change (take i ms) (m ∷ []))
        ∙ (flat_map-append module_exprs (map change (take i ms)) (change m ∷ [])
        ∙ ap (λ z. flat_map module_exprs (map change (take i ms)) ++ z) (whole (module_exprs (change m)))))

-- the size of a module that is written out is that of its copy
pub sized_written : (modules : List Module) (by : Name → Option Expr) (s : Size) (m : Module) (title : Name)
    (vars : List Variable) (commands : List Command)
    → m ≡ Written title vars commands → IsSize s (map (replaced by) (module_exprs m))
    → IsSize s (module_exprs (flat_module modules by m))
sized_written modules by s m title vars commands is p =
    subst (λ d. IsSize s (module_exprs (flat_module modules by d))) (sym is)
    (subst (IsSize s) (sym (exprs-module no_names by title (Written title vars commands)))
    (subst (λ d. IsSize s (map (replaced by) (module_exprs d))) is p))

sized_source : (modules : List Module) (by : Name → Option Expr) (s : Size) (title source : Name)
    (pairs : List (Name × Name)) (from : Module)
    → source_of modules source ≡ from → IsSize s (map (replaced by) (module_exprs from))
    → IsSize s (module_exprs (flat_module modules by (Renamed title source pairs)))
sized_source modules by s title source pairs from is p =
    subst (IsSize s) (sym (exprs-module (right_of pairs) (as_tree (right_of pairs)) title
    (copied_module no_names by title (source_of modules source))))
    (size-renamed (right_of pairs) s (module_exprs (copied_module no_names by title (source_of modules source)))
    (subst (IsSize s) (sym (exprs-module no_names by title (source_of modules source)))
    (subst (λ d. IsSize s (map (replaced by) (module_exprs d))) (sym is) p)))

-- the size of a renamed module is that of its source
pub sized_renamed : (modules : List Module) (by : Name → Option Expr) (s : Size) (m : Module) (title source : Name)
    (pairs : List (Name × Name)) (from : Module)
    → m ≡ Renamed title source pairs → find (is_written_as source) modules ≡ Some from
    → IsSize s (map (replaced by) (module_exprs from))
    → IsSize s (module_exprs (flat_module modules by m))
sized_renamed modules by s m title source pairs from is found p =
    subst (λ d. IsSize s (module_exprs (flat_module modules by d))) (sym is)
    (sized_source modules by s title source pairs from (ap (λ o. unwrap_or o (Written source [] [])) found) p)

pub sized_missing : (modules : List Module) (by : Name → Option Expr) (s : Size) (m : Module) (title source : Name)
    (pairs : List (Name × Name))
    → m ≡ Renamed title source pairs → find (is_written_as source) modules ≡ None → IsSize s []
    → IsSize s (module_exprs (flat_module modules by m))
sized_missing modules by s m title source pairs is found p =
    subst (λ d. IsSize s (module_exprs (flat_module modules by d))) (sym is)
    (sized_source modules by s title source pairs (Written source [] [])
    (ap (λ o. unwrap_or o (Written source [] [])) found) p)

-- the size of one module more stands at its place
each_after : (by : Name → Option Expr) (ms : List Module) (m : Module) (sizes : List Size) (s : Size) → length sizes
    ≡ length ms
    → AreSizesOfEach by ms sizes → IsSize s (map (replaced by) (module_exprs m)) → AreSizesOfEach by (ms ++ (m ∷ []))
    (sizes ++ (s ∷ []))
each_after by ms m sizes s long each own place d at = elim (front_or_end ms m d place at) [
  | inl front ↦ (let size = each place d front in (size.0, at_front sizes s size.0 place size.1, size.2))
  | inr end ↦ (
    s,
    ap (slice_get (sizes ++ (s ∷ []))) (end.0 ∙ sym long) ∙ at_end sizes s,
    subst (λ x. IsSize s (map (replaced by) (module_exprs x))) end.1 own,
  )
]

pub each_more : (by : Name → Option Expr) (ms : List Module) (i : ℕ) (m : Module) (old new : List Size) (s : Size)
    → i < length ms → m ≡ get_or ms i m
    → length old ≡ i → new ≡ old ++ (s ∷ []) → AreSizesOfEach by (take i ms) old
    → IsSize s (map (replaced by) (module_exprs m)) → AreSizesOfEach by (take (i + 1) ms) new
each_more by ms i m old new s lt is long made each own =
    subst (λ xs. AreSizesOfEach by xs new) (sym (one_more ms i m lt is))
    (subst (AreSizesOfEach by (take i ms ++ (m ∷ []))) (sym made)
    (each_after by (take i ms) m old s (long ∙ sym taken) each own))
  where
    taken : length (take i ms) ≡ i
    taken = grind (arith, common_steps, lt)

-- the size of the module at a place, where it is written out
pub size-written_at : (modules : List Module) (by : Name → Option Expr) (each : List Size) (place : ℕ)
    (m item : Module) (title : Name) (vars : List Variable)
    (commands : List Command) (r : Size) → AreSizesOfEach by modules each → slice_get modules place ≡ Some m
    → slice_get modules place ≡ Some item
    → item ≡ Written title vars commands → ((s : Size) → slice_get each place ≡ Some s → r ≡ s)
    → IsSize r (module_exprs (flat_module modules by m))
size-written_at modules by each place m item title vars commands r sizes at got is told =
    let s = sizes place m at in
    subst (λ z. IsSize z (module_exprs (flat_module modules by m))) (sym (told s.0 s.1))
    (sized_written modules by s.0 m title vars commands (some_same m item (sym at ∙ got) ∙ is) s.2)

-- the same where it is a renaming of the module at place i
pub size-renamed_at : (modules : List Module) (by : Name → Option Expr) (each : List Size) (place i : ℕ)
    (m item : Module) (title source : Name)
    (pairs : List (Name × Name)) (r : Size) → AreSizesOfEach by modules each → slice_get modules place ≡ Some m
    → slice_get modules place ≡ Some item
    → item ≡ Renamed title source pairs → position (is_written_as source) modules ≡ Some i
    → ((s : Size) → slice_get each i ≡ Some s → r ≡ s)
    → IsSize r (module_exprs (flat_module modules by m))
size-renamed_at modules by each place i m item title source pairs r sizes at got is found told =
    let from = there_below modules i (position-Some (is_written_as source) modules i m found).0 in
    let s = sizes i from.0 from.1 in
    subst (λ z. IsSize z (module_exprs (flat_module modules by m))) (sym (told s.0 s.1))
    (sized_renamed modules by s.0 m title source pairs from.0 (some_same m item (sym at ∙ got) ∙ is)
    (find-at_position (is_written_as source) modules i found ∙ from.1) s.2)

-- the same where its source isn't written out
pub size-missing_at : (modules : List Module) (by : Name → Option Expr) (place : ℕ) (m item : Module)
    (title source : Name)
    (pairs : List (Name × Name)) (r : Size) → slice_get modules place ≡ Some m → slice_get modules place ≡ Some item
    → item ≡ Renamed title source pairs → position (is_written_as source) modules ≡ None → IsSize r []
    → IsSize r (module_exprs (flat_module modules by m))
size-missing_at modules by place m item title source pairs r at got is none empty =
    sized_missing modules by r m title source pairs (some_same m item (sym at ∙ got) ∙ is)
    (find-no_position (is_written_as source) modules none) empty
