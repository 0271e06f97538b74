-- Chains of the language whose parts are all whole numbers, or all truth values.
use Rattle.std.proofs.Common.{◌≡◌, List, [], ◌∷◌, map, Bool, true, false, not, ◌&&◌, ℤ, ◌+ℤ◌, ◌-ℤ◌, ◌*ℤ◌, unsigned_abs, refl, sym, ◌∙◌, ap, subst, Ok, Err, nat_lt}
use Rattle.std.specs.Prelude.{if◌then◌else◌}
use Rattle.std.specs.List.{list_all}
use Rattle.smc_num.specs.Fraction.{limit}
use Rattle.chain_model.specs.declared.outcome.TraceFault.{TraceFault}
use Rattle.chain_model.specs.declared.outcome.TraceFault.TheVariants.{OutOfLimit}
use Rattle.chain_model.specs.declared.values.Value.TheVariants as v
use Rattle.chain_model.specs.declared.expressions.Op.{Op}
use Rattle.chain_model.specs.declared.expressions.Op.TheVariants as o
use Rattle.chain_model.specs.Results.{◌>>=◌}
use Rattle.chain_model.specs.Step.{stored}
use Rattle.chain_model.specs.Values.{Valued, as_value, join, links_value, level_value}
use Rattle.guard_code.specs.Wholes.{WholeResult, stored_of, truth_of, as_whole, as_truth, limited, whole_result, linked_whole, wholes_after, wholes_result, compares, compare_result, quotient_value}
use Rattle.guard_code.specs.Shapes.{is_arithmetic, is_comparison}
use Rattle.guard_code.proofs.WholeLemmas.{numbered, as_number, as_whole-is, as_whole_small, sum-one, difference-one, product-one, quotient-one, equal-one, less-one, WholeValued, whole_fault, whole_number, TruthValued, truth_fault, truth_value}

-- ---- values that are whole numbers

no_truth : (b : Bool) (n : ℤ) → Ok (v.Bool b) ≡ as_whole (Ok n) → ⊥
no_truth b n is = go (nat_lt (unsigned_abs n) limit) (is ∙ as_whole-is n)
  where
    go : (small : Bool) → Ok (v.Bool b) ≡ as_number (if small then Ok n else Err OutOfLimit) → ⊥
    go true e = cc
    go false e = cc

-- a value that is what its whole number gives is a whole number within the limits
pub whole_valued : (x : Valued) → x ≡ as_whole (stored_of x) → WholeValued x
whole_valued (Err f) is = whole_fault f
whole_valued (Ok (v.Bool b)) is = absurd (no_truth b (stored (v.Bool b)) is)
whole_valued (Ok (v.Num x)) is = go (nat_lt (unsigned_abs x.num) limit) refl (is ∙ as_whole-is x.num)
  where
    go : (small : Bool) → nat_lt (unsigned_abs x.num) limit ≡ small → Ok (v.Num x) ≡ as_number (if small then Ok x.num else Err OutOfLimit) → WholeValued (Ok (v.Num x))
    go true so e = subst WholeValued (sym e) (whole_number x.num so)
    go false so e = absurd (cc)

-- a value that is what its truth value gives is a truth value
pub truth_valued : (x : Valued) → x ≡ as_truth (truth_of x) → TruthValued x
truth_valued (Err f) is = truth_fault f
truth_valued (Ok (v.Bool b)) is = truth_value b
truth_valued (Ok (v.Num x)) is = absurd (cc)

-- each of several values
unfoldable pub AllWhole : List Valued → Type 0
AllWhole [] = Unit {0}
AllWhole (x ∷ xs) = WholeValued x × AllWhole xs

-- ---- arithmetic

-- an operator of arithmetic on a whole number and a further part
joined_whole : (op : Op) (a b : ℤ) → is_arithmetic op ≡ true → join op (numbered a) (Ok (numbered b)) ≡ as_number (whole_result op a b)
joined_whole o.Add a b is = sum-one a b
joined_whole o.Sub a b is = difference-one a b
joined_whole o.Mul a b is = product-one a b
joined_whole o.Imp a b is = absurd (cc)
joined_whole o.Iff a b is = absurd (cc)
joined_whole o.Or a b is = absurd (cc)
joined_whole o.And a b is = absurd (cc)
joined_whole o.Eq a b is = absurd (cc)
joined_whole o.Ne a b is = absurd (cc)
joined_whole o.Lt a b is = absurd (cc)
joined_whole o.Le a b is = absurd (cc)
joined_whole o.Gt a b is = absurd (cc)
joined_whole o.Ge a b is = absurd (cc)
joined_whole o.Div a b is = absurd (cc)

joined_fault : (op : Op) (a : ℤ) (f : TraceFault) → is_arithmetic op ≡ true → join op (numbered a) (Err f) ≡ Err f
joined_fault o.Add a f is = refl
joined_fault o.Sub a f is = refl
joined_fault o.Mul a f is = refl
joined_fault o.Imp a f is = absurd (cc)
joined_fault o.Iff a f is = absurd (cc)
joined_fault o.Or a f is = absurd (cc)
joined_fault o.And a f is = absurd (cc)
joined_fault o.Eq a f is = absurd (cc)
joined_fault o.Ne a f is = absurd (cc)
joined_fault o.Lt a f is = absurd (cc)
joined_fault o.Le a f is = absurd (cc)
joined_fault o.Gt a f is = absurd (cc)
joined_fault o.Ge a f is = absurd (cc)
joined_fault o.Div a f is = absurd (cc)

-- a result of arithmetic is outside the limits, or a number within them
data Limited : WholeResult → Type 0 where
  inside : (n : ℤ) → nat_lt (unsigned_abs n) limit ≡ true → Limited (Ok n)
  outside : (f : TraceFault) → Limited (Err f)

limited_is : (n : ℤ) → Limited (limited n)
limited_is n = go (nat_lt (unsigned_abs n) limit) refl
  where
    go : (b : Bool) → nat_lt (unsigned_abs n) limit ≡ b → Limited (if b then Ok n else Err OutOfLimit)
    go true is = inside n is
    go false is = outside OutOfLimit

result_is : (op : Op) (a b : ℤ) → Limited (whole_result op a b)
result_is o.Add a b = limited_is (a +ℤ b)
result_is o.Sub a b = limited_is (a -ℤ b)
result_is o.Mul a b = limited_is (a *ℤ b)
result_is o.Imp a b = limited_is (a +ℤ b)
result_is o.Iff a b = limited_is (a +ℤ b)
result_is o.Or a b = limited_is (a +ℤ b)
result_is o.And a b = limited_is (a +ℤ b)
result_is o.Eq a b = limited_is (a +ℤ b)
result_is o.Ne a b = limited_is (a +ℤ b)
result_is o.Lt a b = limited_is (a +ℤ b)
result_is o.Le a b = limited_is (a +ℤ b)
result_is o.Gt a b = limited_is (a +ℤ b)
result_is o.Ge a b = limited_is (a +ℤ b)
result_is o.Div a b = limited_is (a +ℤ b)

pub and_parts : (a b : Bool) → (a && b) ≡ true → (a ≡ true) × (b ≡ true)
and_parts true b is = (refl, is)
and_parts false b is = absurd (cc)

-- after a whole number the rest of a chain of arithmetic
abbrev Links : List Valued → List Op → Type 0
Links xs ops = (a : ℤ) → nat_lt (unsigned_abs a) limit ≡ true → links_value (numbered a) xs ops ≡ as_whole (wholes_after a (map stored_of xs) ops)

links_whole : (a : ℤ) (xs : List Valued) (ops : List Op) → nat_lt (unsigned_abs a) limit ≡ true → AllWhole xs → list_all is_arithmetic ops ≡ true
    → links_value (numbered a) xs ops ≡ as_whole (wholes_after a (map stored_of xs) ops)
unfolding AllWhole as_whole
links_whole a [] [] small all are = sym (as_whole_small a small)
links_whole a [] (op ∷ ops) small all are = sym (as_whole_small a small)
links_whole a (x ∷ xs) [] small all are = sym (as_whole_small a small)
links_whole a (x ∷ xs) (op ∷ ops) small all are = here x all.0 (λ b is. links_whole b xs ops is all.1 so.1)
  where
    so : (is_arithmetic op ≡ true) × (list_all is_arithmetic ops ≡ true)
    so = and_parts (is_arithmetic op) (list_all is_arithmetic ops) are

    after : (r : WholeResult) → Limited r → Links xs ops
        → (as_number r >>= λ y. links_value y xs ops) ≡ as_whole (r >>= λ b. wholes_after b (map stored_of xs) ops)
    after (Ok b) (inside c is) more = more b is
    after (Err f) (outside g) more = refl

    here : (x : Valued) → WholeValued x → Links xs ops
        → (join op (numbered a) x >>= λ y. links_value y xs ops) ≡ as_whole (linked_whole op a (stored_of x) >>= λ b. wholes_after b (map stored_of xs) ops)
    here (Err f) (whole_fault g) more = ap (λ (z : Valued). z >>= λ y. links_value y xs ops) (joined_fault op a f so.0)
    here (Ok (v.Bool b)) p more = elim p [ ]
    here (Ok (v.Num y)) (whole_number n is) more =
        ap (λ (z : Valued). z >>= λ y. links_value y xs ops) (joined_whole op a n so.0) ∙ after (whole_result op a n) (result_is op a n) more

-- a chain of arithmetic
pub arithmetic_law : (x : Valued) (xs : List Valued) (ops : List Op) → AllWhole (x ∷ xs) → list_all is_arithmetic ops ≡ true
    → level_value (x ∷ xs) ops ≡ as_whole (wholes_result (map stored_of (x ∷ xs)) ops)
unfolding AllWhole as_whole
arithmetic_law x xs ops all are = here x all.0
  where
    here : (x : Valued) → WholeValued x → level_value (x ∷ xs) ops ≡ as_whole (wholes_result (stored_of x ∷ map stored_of xs) ops)
    here (Err f) (whole_fault g) = refl
    here (Ok (v.Bool b)) p = elim p [ ]
    here (Ok (v.Num y)) (whole_number n is) = links_whole n xs ops is all.1 are

-- ---- comparisons

compared : (op : Op) (a b : ℤ) → is_comparison op ≡ true → join op (numbered a) (Ok (numbered b)) ≡ Ok (v.Bool (compares op a b))
compared o.Eq a b is = ap (λ (h : Bool). Ok (v.Bool h)) (equal-one a b)
compared o.Ne a b is = ap (λ (h : Bool). Ok (v.Bool (not h))) (equal-one a b)
compared o.Lt a b is = ap (λ (h : Bool). Ok (v.Bool h)) (less-one a b)
compared o.Le a b is = ap (λ (h : Bool). Ok (v.Bool (not h))) (less-one b a)
compared o.Gt a b is = ap (λ (h : Bool). Ok (v.Bool h)) (less-one b a)
compared o.Ge a b is = ap (λ (h : Bool). Ok (v.Bool (not h))) (less-one a b)
compared o.Imp a b is = absurd (cc)
compared o.Iff a b is = absurd (cc)
compared o.Or a b is = absurd (cc)
compared o.And a b is = absurd (cc)
compared o.Add a b is = absurd (cc)
compared o.Sub a b is = absurd (cc)
compared o.Mul a b is = absurd (cc)
compared o.Div a b is = absurd (cc)

compared_fault : (op : Op) (a : ℤ) (f : TraceFault) → is_comparison op ≡ true → join op (numbered a) (Err f) ≡ Err f
compared_fault o.Eq a f is = refl
compared_fault o.Ne a f is = refl
compared_fault o.Lt a f is = refl
compared_fault o.Le a f is = refl
compared_fault o.Gt a f is = refl
compared_fault o.Ge a f is = refl
compared_fault o.Imp a f is = absurd (cc)
compared_fault o.Iff a f is = absurd (cc)
compared_fault o.Or a f is = absurd (cc)
compared_fault o.And a f is = absurd (cc)
compared_fault o.Add a f is = absurd (cc)
compared_fault o.Sub a f is = absurd (cc)
compared_fault o.Mul a f is = absurd (cc)
compared_fault o.Div a f is = absurd (cc)

-- a comparison of two whole numbers
pub comparison_law : (op : Op) (x y : Valued) → WholeValued x → WholeValued y → is_comparison op ≡ true
    → level_value (x ∷ (y ∷ [])) (op ∷ []) ≡ as_truth (compare_result op (stored_of x ∷ (stored_of y ∷ [])))
comparison_law op (Err f) y (whole_fault g) q is = refl
comparison_law op (Ok (v.Bool b)) y p q is = elim p [ ]
comparison_law op (Ok (v.Num z)) (Ok (v.Bool b)) p q is = elim q [ ]
comparison_law op (Ok (v.Num z)) (Err f) (whole_number a small) (whole_fault g) is = ap (λ (r : Valued). r >>= λ y. links_value y [] []) (compared_fault op a f is)
comparison_law op (Ok (v.Num z)) (Ok (v.Num u)) (whole_number a small) (whole_number b small') is = ap (λ (r : Valued). r >>= λ y. links_value y [] []) (compared op a b is)

-- a quotient of two whole numbers
no_links : (x : Valued) → (x >>= λ a. links_value a [] []) ≡ x
no_links (Ok a) = refl
no_links (Err f) = refl

pub quotient_law : (x y : Valued) → WholeValued x → WholeValued y → level_value (x ∷ (y ∷ [])) (o.Div ∷ []) ≡ quotient_value (stored_of x ∷ (stored_of y ∷ []))
quotient_law (Err f) y (whole_fault g) q = refl
quotient_law (Ok (v.Bool b)) y p q = elim p [ ]
quotient_law (Ok (v.Num z)) (Ok (v.Bool b)) p q = elim q [ ]
quotient_law (Ok (v.Num z)) (Err f) (whole_number a small) (whole_fault g) = refl
quotient_law (Ok (v.Num z)) (Ok (v.Num u)) (whole_number a small) (whole_number b small') =
    no_links (join o.Div (numbered a) (Ok (numbered b))) ∙ ap as_value (quotient-one a b)
