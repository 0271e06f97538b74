-- No two pieces of a layout run together.
use Rattle.std.proofs.Common.{◌≡◌, ℕ, Bool, true, false, ◌&&◌, ◌||◌, not, ◌==◌, List, [], ◌∷◌, ◌++◌, map, Option, Some, None, refl, sym, subst, append_assoc, arith}
use Rattle.std.specs.Prelude.{flat_map}
use Rattle.std.specs.Option.{option_map_or}
use Rattle.std.proofs.lemmas.Bool.Decides.{nat_tests}
use Rattle.prism_syntax.specs.declared.tokens.Kind.{Kind}
use Rattle.prism_syntax.specs.declared.tokens.Kind.TheVariants as k
use Rattle.prism_syntax.specs.declared.expressions.Expr.{Expr, map-Expr}
use Rattle.prism_syntax.specs.declared.expressions.Expr.TheOpen.{Expr-F}
use Rattle.prism_syntax.specs.declared.expressions.Expr.TheOpen as top
use Rattle.prism_syntax.specs.declared.expressions.Expr.TheViews.{roll-Expr}
use Rattle.prism_syntax.specs.declared.expressions.Expr.TheFolds.{fold-roll-Expr, ind-Expr}
use Rattle.prism_syntax.specs.declared.expressions.Func.{Func}
use Rattle.prism_syntax.specs.declared.expressions.Func.TheVariants as f
use Rattle.prism_syntax.specs.declared.expressions.Op.{Op}
use Rattle.prism_syntax.specs.declared.commands.Branch.{Branch}
use Rattle.prism_syntax.specs.declared.commands.Command.{Command}
use Rattle.prism_syntax.specs.declared.models.ConstText.{ConstText}
use Rattle.prism_syntax.specs.declared.models.Named.{Named}
use Rattle.prism_syntax.specs.declared.models.Variable.{Variable}
use Rattle.prism_syntax.specs.declared.models.Module.{Module}
use Rattle.prism_syntax.specs.declared.models.Module.TheVariants.{Written, Renamed}
use Rattle.prism_syntax.specs.declared.models.FlatText.{FlatText}
use Rattle.prism_syntax.specs.Spelling.{spelling_of}
use Rattle.prism_syntax.specs.Inverses.{operator_token, function_token}
use Rattle.prism_print.specs.Pieces.{Piece, token, blank, line_end}
use Rattle.prism_print.specs.Layout.{spaced, separated, chained, truth_token, expression_step, expression}
use Rattle.prism_print.specs.Printed.{ended, const_line, range, variable_line, global_line, formula_line, label_line, assignment, update, branch, command_line, indented, module_lines, layout}
use Rattle.prism_print.proofs.EndLemmas.{is_edge, goes_on_symbol}
use Rattle.prism_print.proofs.ApartLemmas.{ends_each, ends_symbols, stops, softens, stopped, soft, prime, Apart, apart_append}

-- ---- what ends each token ends each symbol

stop_soft_byte : (c : ℕ) (b : Bool) → ((is_edge c && not (c == 47)) || (c == 46 && b)) ≡ true → (not (goes_on_symbol c) && not (c == 47)) ≡ true
stop_soft_byte c b is = grind (arith, nat_tests)

each_and_symbols : (o : Option (List ℕ)) → ends_each o ≡ true → ends_symbols o ≡ true
each_and_symbols None is = absurd (cc)
each_and_symbols (Some []) is = absurd (cc)
each_and_symbols (Some (c ∷ cs)) is = stop_soft_byte c _ is

stops_soften : (ps : List Piece) → stops ps ≡ true → softens ps ≡ true
stops_soften [] is = refl
stops_soften (token kind ∷ ps) is = each_and_symbols (spelling_of kind) is
stops_soften (blank ∷ ps) is = refl
stops_soften (line_end ∷ ps) is = refl

-- ---- parts that stand before what ends each token

-- pieces that are apart before what ends each token, and with which no symbol goes on
abbrev pub IsPart : List Piece → Type 0
IsPart ps = (rest : List Piece) → stops rest ≡ true → Apart ps rest × (softens (ps ++ rest) ≡ true)

-- a part and what follows it
before : (x b rest : List Piece) → IsPart x → stops (b ++ rest) ≡ true → Apart b rest → Apart (x ++ b) rest × (softens ((x ++ b) ++ rest) ≡ true)
before x b rest part stop more =
    let first = part (b ++ rest) stop in (
      apart_append x b rest first.0 more,
      subst (λ ps. softens ps ≡ true) (sym (append_assoc x b rest)) first.1,
    )

-- pieces that are apart before anything, and a part after them
then_part : (a b : List Piece) → ((rest : List Piece) → Apart a rest × (softens (a ++ rest) ≡ true)) → IsPart b → IsPart (a ++ b)
then_part a b first part rest stop =
    let more = part rest stop in
    let here = first (b ++ rest) in (
      apart_append a b rest here.0 more.0,
      subst (λ ps. softens ps ≡ true) (sym (append_assoc a b rest)) here.1,
    )

nothing : IsPart []
nothing rest stop = (tt, stops_soften rest stop)

one_token : (kind : Kind) → ends_symbols (spelling_of kind) ≡ true → IsPart (token kind ∷ [])
one_token kind is rest stop = ((stopped stop, tt), is)

abbrev AreParts : List (List Piece) → Type 0
AreParts [] = Unit {0}
AreParts (x ∷ xs) = IsPart x × AreParts xs

-- parts with something between each two of them
separated_part : (between : List Piece) → ((rest : List Piece) → stops (between ++ rest) ≡ true) → ((rest : List Piece) → Apart between rest)
    → (parts : List (List Piece)) → AreParts parts → IsPart (separated between parts)
separated_part between stop apart [] are = nothing
separated_part between stop apart (x ∷ []) are = are.0
separated_part between stop apart (x ∷ (y ∷ ys)) are = λ rest stop_rest.
    let others : List Piece = separated between (y ∷ ys) in
    let more = separated_part between stop apart (y ∷ ys) are.1 rest stop_rest in
    before x (between ++ others) rest are.0 (subst (λ ps. stops ps ≡ true) (sym (append_assoc between others rest)) (stop (others ++ rest)))
    (apart_append between others rest (apart (others ++ rest)) more.0)

-- ---- expressions

abbrev Laid : Expr → Type 0
Laid x = IsPart (expression x)

abbrev Both : Type 0
Both = (x : Expr) × Laid x

abbrev laid : List Both → List (List Piece)
laid ps = map expression (map (λ p. p.0) ps)

chained_part : (ps : List Both) (ops : List Op) → IsPart (chained (laid ps) ops)
chained_part [] ops = nothing
chained_part (p ∷ ps) [] = p.1
chained_part (p ∷ ps) (op ∷ ops) = λ rest stop.
    before (expression p.0) (spaced (operator_token op) ++ chained (laid ps) ops) rest p.1 refl (stopped refl, (chained_part ps ops rest stop).0)

are_parts : (ps : List Both) → AreParts (laid ps)
are_parts [] = tt
are_parts (p ∷ ps) = (p.1, are_parts ps)

function_softens : (g : Func) → ends_symbols (spelling_of (function_token g)) ≡ true
unfolding spelling_of
function_softens f.Min = refl
function_softens f.Max = refl
function_softens g = refl

truth_softens : (b : Bool) → ends_symbols (spelling_of (truth_token b)) ≡ true
unfolding spelling_of
truth_softens true = refl
truth_softens false = refl

layer : (y : Expr-F Both) → IsPart (expression_step (map-Expr Expr (List Piece) expression (map-Expr Both Expr (λ p. p.0) y)))
unfolding spelling_of
layer (top.Whole v) = one_token (k.Whole v) refl
layer (top.Real v) = one_token (k.Real v) refl
layer (top.Truth b) = one_token (truth_token b) (truth_softens b)
layer (top.Name n) = one_token (k.Name n) refl
layer (top.Quoted n) = one_token (k.Quoted n) refl
layer (top.Paren p) = λ rest stop.
    let x = before (expression p.0) (token k.Close ∷ []) rest p.1 refl (stopped stop, tt) in
    ((soft refl x.1, x.0), refl)
layer (top.Call g ps) = λ rest stop.
    let between : List Piece = token k.Comma ∷ blank ∷ [] in
    let parts : IsPart (separated between (laid ps)) = separated_part between (λ r. refl) (λ r. (stopped refl, tt)) (laid ps) (are_parts ps) in
    let x = before (separated between (laid ps)) (token k.Close ∷ []) rest parts refl (stopped stop, tt) in
    ((stopped refl, (soft refl x.1, x.0)), function_softens g)
layer (top.Not p) = λ rest stop. let x = p.1 rest stop in ((soft refl x.1, x.0), refl)
layer (top.Minus p) = λ rest stop. let x = p.1 rest stop in ((soft refl x.1, x.0), refl)
layer (top.Level ps os) = chained_part ps os
layer (top.If p q r) = λ rest stop.
    let z = r.1 rest stop in
    let last : List Piece = spaced k.Colon ++ expression r.0 in
    let y = before (expression q.0) last rest q.1 refl (stopped refl, z.0) in
    before (expression p.0) (spaced k.Query ++ (expression q.0 ++ last)) rest p.1 refl (stopped refl, y.0)

-- each expression is a part
pub expression_part : (x : Expr) → IsPart (expression x)
expression_part = ind-Expr Laid (λ x y is.
    subst (λ z. Laid (roll-Expr z)) is (subst IsPart (sym (fold-roll-Expr (List Piece) expression_step (map-Expr Both Expr (λ p. p.0) y))) (layer y)))

-- ---- lines

-- pieces that are apart before anything
abbrev IsLine : List Piece → Type 0
IsLine ps = (rest : List Piece) → Apart ps rest

lines_apart : {X : Type 0} (line : X → List Piece) → ((x : X) → IsLine (line x)) → (xs : List X) → IsLine (flat_map line xs)
lines_apart line each [] rest = tt
lines_apart line each (x ∷ xs) rest = apart_append (line x) (flat_map line xs) rest (each x (flat_map line xs ++ rest)) (lines_apart line each xs rest)

-- a value after `=` or `init`, or none, and the line's end
abbrev valued : Kind → Option Expr → List Piece
valued kind value = option_map_or (λ x. spaced kind ++ expression x) value [] ++ ended

value_stops : (kind : Kind) (value : Option Expr) (rest : List Piece) → stops (valued kind value ++ rest) ≡ true
unfolding spelling_of
value_stops kind None rest = refl
value_stops kind (Some x) rest = refl

value_line : (kind : Kind) (value : Option Expr) → IsLine (valued kind value)
unfolding spelling_of
value_line kind None rest = (stopped refl, tt)
value_line kind (Some x) rest = (stopped refl, (before (expression x) ended rest (expression_part x) refl (stopped refl, tt)).0)

const_apart : (c : ConstText) → IsLine (const_line c)
const_apart c rest = (stopped refl, (stopped refl, (stopped (value_stops k.Equal c.value rest), value_line k.Equal c.value rest)))

range_apart : (r : Option (Expr × Expr)) (rest : List Piece) → stops rest ≡ true → Apart (range r) rest
unfolding spelling_of
range_apart None rest stop = (stopped stop, tt)
range_apart (Some r) rest stop =
    let last : List Piece = expression r.1 ++ (token k.CloseBracket ∷ []) in
    let y = before (expression r.1) (token k.CloseBracket ∷ []) rest (expression_part r.1) refl (stopped stop, tt) in
    let x = before (expression r.0) (token k.Dots ∷ last) rest (expression_part r.0) refl (soft refl y.1, y.0) in
    (soft refl x.1, x.0)

variable_apart : (v : Variable) → IsLine (variable_line v)
variable_apart v rest =
    let initial : List Piece = valued k.Init v.init in (
      stopped refl,
      (
        stopped refl,
        apart_append (range v.range) initial rest
            (range_apart v.range (initial ++ rest) (value_stops k.Init v.init rest)) (value_line k.Init v.init rest),
      ),
    )

global_apart : (v : Variable) → IsLine (global_line v)
global_apart v rest = (stopped refl, variable_apart v rest)

formula_apart : (g : Named) → IsLine (formula_line g)
formula_apart g rest = (stopped refl, (stopped refl, value_line k.Equal (Some g.body) rest))

label_apart : (g : Named) → IsLine (label_line g)
label_apart g rest = (stopped refl, (stopped refl, value_line k.Equal (Some g.body) rest))

-- ---- commands

assignment_part : (s : List ℕ × Expr) → IsPart (assignment s)
unfolding spelling_of
assignment_part s = λ rest stop.
    let x = before (expression s.1) (token k.Close ∷ []) rest (expression_part s.1) refl (stopped stop, tt) in
    ((soft refl refl, (stopped refl, (prime, (soft refl x.1, x.0)))), refl)

parts_of : {X : Type 0} (part : X → List Piece) → ((x : X) → IsPart (part x)) → (xs : List X) → AreParts (map part xs)
parts_of part each [] = tt
parts_of part each (x ∷ xs) = (each x, parts_of part each xs)

spaced_parts : (kind : Kind) (parts : List (List Piece)) → AreParts parts → IsPart (separated (spaced kind) parts)
spaced_parts kind parts are = separated_part (spaced kind) (λ r. refl) (λ r. (stopped refl, tt)) parts are

update_part : (sets : List (List ℕ × Expr)) → IsPart (update sets)
unfolding spelling_of
update_part [] = one_token k.True refl
update_part (s ∷ sets) = spaced_parts k.Ampersand (map assignment (s ∷ sets)) (parts_of assignment assignment_part (s ∷ sets))

branch_part : (b : Branch) → IsPart (branch b)
branch_part b = weighted b.weight
  where
    weighted : (w : Option Expr) → IsPart (option_map_or (λ x. expression x ++ spaced k.Colon) w [] ++ update b.sets)
    weighted None = update_part b.sets
    weighted (Some x) = then_part (expression x ++ spaced k.Colon) (update b.sets)
        (λ rest. before (expression x) (spaced k.Colon) rest (expression_part x) refl (stopped refl, tt)) (update_part b.sets)

command_apart : (c : Command) → IsLine (command_line c)
unfolding spelling_of
command_apart c rest = acted c.action
  where
    branches : List Piece
    branches = separated (spaced k.Plus) (map branch c.branches)

    guarded : List Piece
    guarded = expression c.guard ++ (spaced k.Arrow ++ (branches ++ ended))

    guarded_apart : Apart guarded rest
    guarded_apart =
        let last = before branches ended rest (spaced_parts k.Plus (map branch c.branches) (parts_of branch branch_part c.branches)) refl (stopped refl, tt) in
        (before (expression c.guard) (spaced k.Arrow ++ (branches ++ ended)) rest (expression_part c.guard) refl (stopped refl, last.0)).0

    acted : (action : Option (List ℕ)) → Apart (token k.OpenBracket ∷ (option_map_or (λ name. token (k.Name name) ∷ []) action []
        ++ (token k.CloseBracket ∷ blank ∷ guarded))) rest
    acted None = (stopped refl, (stopped refl, guarded_apart))
    acted (Some name) = (soft refl refl, (stopped refl, (stopped refl, guarded_apart)))

-- ---- modules and the whole text

module_apart : (m : Module) → IsLine (module_lines m)
module_apart (Written title vars commands) rest =
    let last : List Piece = token k.EndModule ∷ line_end ∷ [] in
    let lines : List Piece = flat_map (λ c. indented (command_line c)) commands ++ last in
    let ends = apart_append (flat_map (λ c. indented (command_line c)) commands) last rest
    (lines_apart (λ c. indented (command_line c)) command_apart commands (last ++ rest)) (stopped refl, tt) in (
      stopped refl,
      (
        stopped refl,
        apart_append (flat_map (λ v. indented (variable_line v)) vars) lines rest
            (lines_apart (λ v. indented (variable_line v)) variable_apart vars (lines ++ rest)) ends,
      ),
    )
module_apart (Renamed title source pairs) rest = tt

-- no two pieces of a flat text run together
pub layout_apart : (flat : FlatText) → Apart (layout flat) []
layout_apart flat =
    let labels : List Piece = flat_map label_line flat.labels in
    let modules : List Piece = flat_map module_lines flat.modules ++ labels in
    let formulas : List Piece = flat_map formula_line flat.formulas ++ modules in
    let globals : List Piece = flat_map global_line flat.globals ++ formulas in (
      stopped refl,
      apart_append (flat_map const_line flat.consts) globals [] (lines_apart const_line const_apart flat.consts (globals ++ []))
          (apart_append (flat_map global_line flat.globals) formulas [] (lines_apart global_line global_apart flat.globals (formulas ++ []))
          (apart_append (flat_map formula_line flat.formulas) modules [] (lines_apart formula_line formula_apart flat.formulas (modules ++ []))
          (apart_append (flat_map module_lines flat.modules) labels [] (lines_apart module_lines module_apart flat.modules (labels ++ []))
          (lines_apart label_line label_apart flat.labels [])))),
    )
