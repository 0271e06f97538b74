-- Chains of the language whose parts are all truth values, joined by `&` or by `|`.
use Rattle.std.proofs.Common.{◌≡◌, List, [], ◌∷◌, map, length, Bool, true, false, refl, arith, Ok, Err}
use Rattle.std.specs.Prelude.{if◌then◌else◌}
use Rattle.std.specs.Bool.{beq}
use Rattle.std.specs.List.{list_all}
use Rattle.chain_model.specs.declared.values.Value.TheVariants as v
use Rattle.chain_model.specs.declared.expressions.Op.{Op}
use Rattle.chain_model.specs.declared.expressions.Op.TheVariants as o
use Rattle.chain_model.specs.Results.{◌>>=◌}
use Rattle.chain_model.specs.Values.{Valued, join, links_value, level_value}
use Rattle.guard_code.specs.Wholes.{truth_of, as_truth, junction_result}
use Rattle.guard_code.specs.Shapes.{is_junction}
use Rattle.guard_code.proofs.WholeLemmas.{TruthValued, truth_fault, truth_value}
use Rattle.guard_code.proofs.ChainLemmas.{and_parts}

-- each of several values is a truth value
unfoldable pub AllTruth : List Valued → Type 0
AllTruth [] = Unit {0}
AllTruth (x ∷ xs) = TruthValued x × AllTruth xs

-- after a truth value the rest of a chain of `&`, or of `|`
links_junction : (deciding a : Bool) (xs : List Valued) (ops : List Op) → AllTruth xs → length xs ≡ length ops → list_all (is_junction deciding) ops ≡ true
    → links_value (v.Bool a) xs ops ≡ as_truth (if beq a deciding then Ok deciding else junction_result deciding (map truth_of xs))
unfolding AllTruth
links_junction true true [] [] all long are = refl
links_junction true false [] [] all long are = refl
links_junction false true [] [] all long are = refl
links_junction false false [] [] all long are = refl
links_junction deciding a [] (op ∷ ops) all long are = absurd (omega (arith, long))
links_junction deciding a (x ∷ xs) [] all long are = absurd (omega (arith, long))
links_junction deciding a (x ∷ xs) (op ∷ ops) all long are =
    here deciding a op x all.0 so.0 (λ b. links_junction deciding b xs ops all.1 (omega (arith, long)) so.1)
  where
    so : (is_junction deciding op ≡ true) × (list_all (is_junction deciding) ops ≡ true)
    so = and_parts (is_junction deciding op) (list_all (is_junction deciding) ops) are

    here : (deciding a : Bool) (op : Op) (x : Valued) → TruthValued x → is_junction deciding op ≡ true
        → ((b : Bool) → links_value (v.Bool b) xs ops ≡ as_truth (if beq b deciding then Ok deciding else junction_result deciding (map truth_of xs)))
        → (join op (v.Bool a) x >>= λ y. links_value y xs ops) ≡ as_truth (if beq a deciding then Ok deciding else junction_result deciding (truth_of x ∷ map truth_of xs))
    here false true o.And (Err f) (truth_fault g) is more = refl
    here false true o.And (Ok (v.Bool b)) (truth_value h) is more = more b
    here false true o.And (Ok (v.Num x)) p is more = elim p [ ]
    here false false o.And x p is more = more false
    here true false o.Or (Err f) (truth_fault g) is more = refl
    here true false o.Or (Ok (v.Bool b)) (truth_value h) is more = more b
    here true false o.Or (Ok (v.Num x)) p is more = elim p [ ]
    here true true o.Or x p is more = more true
    here false a o.Or x p is more = absurd (cc)
    here true a o.And x p is more = absurd (cc)
    here true a o.Imp x p is more = absurd (cc)
    here true a o.Iff x p is more = absurd (cc)
    here true a o.Eq x p is more = absurd (cc)
    here true a o.Ne x p is more = absurd (cc)
    here true a o.Lt x p is more = absurd (cc)
    here true a o.Le x p is more = absurd (cc)
    here true a o.Gt x p is more = absurd (cc)
    here true a o.Ge x p is more = absurd (cc)
    here true a o.Add x p is more = absurd (cc)
    here true a o.Sub x p is more = absurd (cc)
    here true a o.Mul x p is more = absurd (cc)
    here true a o.Div x p is more = absurd (cc)
    here false a o.Imp x p is more = absurd (cc)
    here false a o.Iff x p is more = absurd (cc)
    here false a o.Eq x p is more = absurd (cc)
    here false a o.Ne x p is more = absurd (cc)
    here false a o.Lt x p is more = absurd (cc)
    here false a o.Le x p is more = absurd (cc)
    here false a o.Gt x p is more = absurd (cc)
    here false a o.Ge x p is more = absurd (cc)
    here false a o.Add x p is more = absurd (cc)
    here false a o.Sub x p is more = absurd (cc)
    here false a o.Mul x p is more = absurd (cc)
    here false a o.Div x p is more = absurd (cc)

-- a chain of `&`, or of `|`
pub junction_law : (deciding : Bool) (x : Valued) (xs : List Valued) (ops : List Op) → AllTruth (x ∷ xs) → length xs ≡ length ops
    → list_all (is_junction deciding) ops ≡ true → level_value (x ∷ xs) ops ≡ as_truth (junction_result deciding (map truth_of (x ∷ xs)))
unfolding AllTruth
junction_law deciding x xs ops all long are = here x all.0
  where
    here : (x : Valued) → TruthValued x → level_value (x ∷ xs) ops ≡ as_truth (junction_result deciding (truth_of x ∷ map truth_of xs))
    here (Err f) (truth_fault g) = refl
    here (Ok (v.Bool b)) (truth_value h) = links_junction deciding b xs ops all.1 long are
    here (Ok (v.Num y)) p = elim p [ ]
