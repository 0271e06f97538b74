-- The text of pieces, part by part.
use Rattle.std.proofs.Common.{OnOk, Result, Ok, Err, codes, ◌≡◌, ℕ, zero, suc, ◌+◌, ◌<◌, ◌≤◌, ◌==◌, if◌then◌else◌, List, [], ◌∷◌, ◌++◌, length, map, flat_map, drop, get_or, refl, sym, ap, ap₂, ◌∙◌, append_assoc, ne_eqb, arith}
use Rattle.std.proofs.lemmas.Bool.{cond-false}
use Rattle.std.specs.List.{range_with_len}
use Rattle.std.specs.Result.{is_ok}
use Rattle.std.proofs.lemmas.Grind.{flat_map-append}
use Rattle.std.proofs.lemmas.List.FromFn.{map-range_with_len_more}
use Rattle.std.proofs.lemmas.List.{drop_more, drop_all, append-nil}
use Rattle.prism_syntax.specs.declared.commands.Command.{Command}
use Rattle.prism_syntax.specs.declared.models.Variable.{Variable}
use Rattle.prism_syntax.specs.declared.models.ConstText.{ConstText}
use Rattle.prism_syntax.specs.declared.models.Named.{Named}
use Rattle.prism_syntax.specs.declared.models.FlatText.{FlatText}
use Rattle.prism_syntax.specs.declared.models.Module.{Module}
use Rattle.prism_syntax.specs.declared.models.Module.TheVariants.{Written}
use Rattle.prism_syntax.specs.declared.tokens.Kind.TheVariants as k
use Rattle.prism_syntax.specs.Spelling.{spelling_of}
use Rattle.prism_print.specs.Pieces.{Piece, token, line_end, bytes_of, text_of}
use Rattle.prism_print.specs.Layout.{separated}
use Rattle.prism_print.specs.Printed.{indented, const_line, variable_line, global_line, formula_line, label_line, command_line, module_lines, layout}

-- the text of some pieces and of others
pub text_append : (xs ys : List Piece) → text_of (xs ++ ys) ≡ text_of xs ++ text_of ys
text_append xs ys = flat_map-append bytes_of xs ys

-- the text of lines, one after another
pub text_lines : {X : Type 0} (f : X → List Piece) (xs : List X)
    → text_of (flat_map f xs) ≡ flat_map (λ x. text_of (f x)) xs
text_lines f [] = refl
text_lines f (x ∷ xs) = text_append (f x) (flat_map f xs) ∙ ap (λ rest. text_of (f x) ++ rest) (text_lines f xs)

-- ---- parts with something between each two of them

-- the text of what is left of some parts, where so many stand before them
pub left_of_parts : {X : Type 0} → List Piece → (X → List Piece) → ℕ → List X → List ℕ
left_of_parts between f zero xs = text_of (separated between (map f xs))
left_of_parts between f (suc i) xs = flat_map (λ x. text_of between ++ text_of (f x)) xs

-- the first part, and the others each after what stands between
first_part : {X : Type 0} (between : List Piece) (f : X → List Piece) (x : X) (xs : List X)
    → text_of (separated between (map f (x ∷ xs))) ≡ text_of (f x) ++ left_of_parts between f 1 xs
unfolding left_of_parts
first_part between f x [] = sym (append-nil (text_of (f x)))
first_part between f x (y ∷ ys) =
    text_append (f x) (between ++ separated between (map f (y ∷ ys)))
    ∙ ap (λ rest. text_of (f x) ++ rest)
    (text_append between (separated between (map f (y ∷ ys)))
    ∙ ap (λ rest. text_of between ++ rest) (first_part between f y ys)
    ∙ sym (append_assoc (text_of between) (text_of (f y)) (left_of_parts between f 1 ys)))

-- one part more
next_part : {X : Type 0} (between : List Piece) (f : X → List Piece) (i : ℕ) (x : X) (xs : List X)
    → left_of_parts between f i (x ∷ xs)
    ≡ (if i == 0 then [] else text_of between) ++ (text_of (f x) ++ left_of_parts between f (suc i) xs)
unfolding left_of_parts
next_part between f zero x xs = first_part between f x xs
next_part between f (suc i) x xs =
    append_assoc (text_of between) (text_of (f x)) (left_of_parts between f 1 xs)
    ∙ ap (λ l. l ++ (text_of (f x) ++ left_of_parts between f 1 xs))
    (sym (cond-false (suc i == 0) [] (text_of between) (ne_eqb (suc i) 0 (λ e. omega (arith, e)))))

-- at first all parts are left
pub all_left : {X : Type 0} (between : List Piece) (f : X → List Piece) (xs : List X) (text : List ℕ)
    → text ++ left_of_parts between f 0 xs ≡ text ++ text_of (separated between (map f xs))
unfolding left_of_parts
all_left between f xs text = refl

-- a part is appended after what stands between
pub part_appended : {X : Type 0} (between : List Piece) (f : X → List Piece) (i : ℕ) (xs : List X) (x : X)
    (text lead after whole : List ℕ) → i < length xs → x ≡ get_or xs i x → lead ≡ text ++ (if i == 0 then [] else text_of between)
    → after ≡ lead ++ text_of (f x) → text ++ left_of_parts between f i (drop i xs) ≡ whole
    → after ++ left_of_parts between f (i + 1) (drop (i + 1) xs) ≡ whole
part_appended between f i xs x text lead after whole within is leads appended so_far =
    let rest = left_of_parts between f (i + 1) (drop (i + 1) xs) in
    let same : suc i ≡ i + 1 = omega arith in
    let before = if i == 0 then [] else text_of between in
    ap (λ a. a ++ rest) (appended ∙ ap (λ l. l ++ text_of (f x)) leads)
    ∙ append_assoc (text ++ before) (text_of (f x)) rest
    ∙ append_assoc text before (text_of (f x) ++ rest)
    ∙ ap (λ r. text ++ r) (sym (ap (left_of_parts between f i) (drop_more xs i x within ∙ ap (λ y. y ∷ drop (i + 1) xs) (sym is))
    ∙ next_part between f i x (drop (i + 1) xs)
    ∙ ap (λ n. before ++ (text_of (f x) ++ left_of_parts between f n (drop (i + 1) xs))) same))
    ∙ so_far

-- nothing is left after the last part
none_left : {X : Type 0} (between : List Piece) (f : X → List Piece) (i : ℕ) → left_of_parts between f i [] ≡ []
unfolding left_of_parts
none_left between f zero = refl
none_left between f (suc i) = refl

-- all parts are appended
pub parts_appended : {X : Type 0} (between : List Piece) (f : X → List Piece) (i : ℕ) (xs : List X) (text whole : List ℕ)
    → length xs ≤ i → text ++ left_of_parts between f i (drop i xs) ≡ whole → text ≡ whole
parts_appended between f i xs text whole past so_far =
    sym (append-nil text) ∙ ap (λ r. text ++ r) (sym (ap (left_of_parts between f i) (drop_all i xs past) ∙ none_left between f i))
    ∙ so_far

-- ---- digits one by one

-- a digit is appended
pub digit_appended : (f : ℕ → ℕ) (i : ℕ) (start text after : List ℕ) (digit : ℕ)
    → text ≡ start ++ map f (range_with_len 0 i) → digit ≡ f i → after ≡ text ++ (digit ∷ [])
    → after ≡ start ++ map f (range_with_len 0 (i + 1))
digit_appended f i start text after digit so_far is appended =
    appended ∙ ap₂ (λ t d. t ++ (d ∷ [])) so_far is ∙ append_assoc start (map f (range_with_len 0 i)) (f i ∷ [])
    ∙ ap (λ r. start ++ r) (sym (map-range_with_len_more f 0 i i (omega arith)))

-- ---- the lines of a module

-- the lines of a module, part by part
module_text : (title : List ℕ) (vars : List Variable) (commands : List Command)
    → text_of (module_lines (Written title vars commands))
    ≡ codes "module " ++ (title ++ (codes "\n" ++ (flat_map (λ v. text_of (indented (variable_line v))) vars
    ++ (flat_map (λ c. text_of (indented (command_line c))) commands ++ codes "endmodule\n"))))
unfolding spelling_of
module_text title vars commands =
    let ends : List Piece = token k.EndModule ∷ line_end ∷ [] in
    let var_lines = flat_map (λ v. indented (variable_line v)) vars in
    let command_lines = flat_map (λ c. indented (command_line c)) commands in
    ap (λ rest. codes "module " ++ (title ++ (codes "\n" ++ rest)))
    (text_append var_lines (command_lines ++ ends)
    ∙ ap₂ (λ a b. a ++ b) (text_lines (λ v. indented (variable_line v)) vars)
    (text_append command_lines ends ∙ ap (λ b. b ++ text_of ends) (text_lines (λ c. indented (command_line c)) commands)))

-- six parts, appended one by one
six_appended : (t a b c d e f : List ℕ) → (((((t ++ a) ++ b) ++ c) ++ d) ++ e) ++ f ≡ t ++ (a ++ (b ++ (c ++ (d ++ (e ++ f)))))
six_appended t a b c d e f =
    append_assoc ((((t ++ a) ++ b) ++ c) ++ d) e f ∙ append_assoc (((t ++ a) ++ b) ++ c) d (e ++ f)
    ∙ append_assoc ((t ++ a) ++ b) c (d ++ (e ++ f)) ∙ append_assoc (t ++ a) b (c ++ (d ++ (e ++ f)))
    ∙ append_assoc t a (b ++ (c ++ (d ++ (e ++ f))))

-- the lines of a module are appended
pub module_appended : {E : Type 0} (title : List ℕ) (vars : List Variable) (commands : List Command)
    (start one two three four five six : List ℕ) (last : Result (Unit {0}) E)
    → one ≡ start ++ codes "module " → two ≡ one ++ title → three ≡ two ++ codes "\n"
    → four ≡ three ++ flat_map (λ v. text_of (indented (variable_line v))) vars
    → five ≡ four ++ flat_map (λ c. text_of (indented (command_line c))) commands
    → six ≡ (if is_ok last then five ++ codes "endmodule\n" else five)
    → OnOk last (six ≡ start ++ text_of (module_lines (Written title vars commands)))
module_appended title vars commands start one two three four five six (Err fault) a b c d e f = tt
module_appended title vars commands start one two three four five six (Ok done) a b c d e f =
    f ∙ rw (e, d, c, b, a) (six_appended start (codes "module ") title (codes "\n")
    (flat_map (λ v. text_of (indented (variable_line v))) vars)
    (flat_map (λ c. text_of (indented (command_line c))) commands) (codes "endmodule\n"))
    ∙ ap (λ all. start ++ all) (sym (module_text title vars commands))

-- ---- the lines of a flat text

-- the lines of a flat text, part by part
flat_text : (flat : FlatText) → text_of (layout flat)
    ≡ codes "dtmc\n" ++ (flat_map (λ x. text_of (const_line x)) flat.consts
    ++ (flat_map (λ x. text_of (global_line x)) flat.globals
    ++ (flat_map (λ x. text_of (formula_line x)) flat.formulas
    ++ (flat_map (λ x. text_of (module_lines x)) flat.modules
    ++ flat_map (λ x. text_of (label_line x)) flat.labels))))
unfolding spelling_of
flat_text flat =
    let consts = flat_map const_line flat.consts in
    let globals = flat_map global_line flat.globals in
    let formulas = flat_map formula_line flat.formulas in
    let modules = flat_map module_lines flat.modules in
    let labels = flat_map label_line flat.labels in
    ap (λ rest. codes "dtmc\n" ++ rest)
    (text_append consts (globals ++ (formulas ++ (modules ++ labels)))
    ∙ ap₂ (λ a b. a ++ b) (text_lines const_line flat.consts)
    (text_append globals (formulas ++ (modules ++ labels))
    ∙ ap₂ (λ a b. a ++ b) (text_lines global_line flat.globals)
    (text_append formulas (modules ++ labels)
    ∙ ap₂ (λ a b. a ++ b) (text_lines formula_line flat.formulas)
    (text_append modules labels
    ∙ ap₂ (λ a b. a ++ b) (text_lines module_lines flat.modules) (text_lines label_line flat.labels)))))

-- the lines of a flat text are appended
pub flat_appended : {E : Type 0} (flat : FlatText) (start one two three four five six : List ℕ)
    (consts : List ConstText) (globals : List Variable) (formulas : List Named) (modules : List Module) (labels : List Named)
    (last : Result (Unit {0}) E)
    → one ≡ start ++ codes "dtmc\n" → two ≡ one ++ flat_map (λ x. text_of (const_line x)) consts
    → three ≡ two ++ flat_map (λ x. text_of (global_line x)) globals
    → four ≡ three ++ flat_map (λ x. text_of (formula_line x)) formulas
    → five ≡ four ++ flat_map (λ x. text_of (module_lines x)) modules
    → OnOk last (six ≡ five ++ flat_map (λ x. text_of (label_line x)) labels)
    → consts ≡ flat.consts → globals ≡ flat.globals → formulas ≡ flat.formulas → modules ≡ flat.modules
    → labels ≡ flat.labels → OnOk last (six ≡ start ++ text_of (layout flat))
flat_appended flat start one two three four five six consts globals formulas modules labels (Err fault) a b c d e f g h i j k = tt
flat_appended flat start one two three four five six consts globals formulas modules labels (Ok done) a b c d e f g h i j k =
    f ∙ rw (e, d, c, b, a, g, h, i, j, k) (six_appended start (codes "dtmc\n")
    (flat_map (λ x. text_of (const_line x)) flat.consts) (flat_map (λ x. text_of (global_line x)) flat.globals)
    (flat_map (λ x. text_of (formula_line x)) flat.formulas) (flat_map (λ x. text_of (module_lines x)) flat.modules)
    (flat_map (λ x. text_of (label_line x)) flat.labels))
    ∙ ap (λ all. start ++ all) (sym (flat_text flat))
