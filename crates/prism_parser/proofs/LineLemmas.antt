-- What is known of each line of a model.
use Rattle.std.proofs.Common.{◌≡◌, ◌<◌, ℕ, ◌⊎◌, inl, inr, true, false, List, [], ◌∷◌, ◌++◌, length, Option, None, refl, arith}
use Rattle.std.specs.Prelude.{All, IfSome, IsSome}
use Rattle.std.proofs.lemmas.List.Elements.{All-nil, All-cons, All-head, All-tail}
use Rattle.prism_syntax.specs.declared.tokens.Kind.{Kind}
use Rattle.prism_syntax.specs.declared.tokens.Kind.TheVariants as k
use Rattle.prism_syntax.specs.declared.expressions.Expr.{Expr}
use Rattle.prism_syntax.specs.declared.commands.Branch.{Branch}
use Rattle.prism_syntax.specs.declared.models.SortWord.{SortWord}
use Rattle.prism_syntax.specs.Models as line
use Rattle.prism_syntax.specs.Models.{IsOptional, IsSort, IsConst, IsFormula, IsLabel, IsVariable, IsGlobal, IsAssign, IsUpdate, IsWeighted, AreBranches, IsAction, IsCommand, IsPair, IsModule}
use Rattle.prism_syntax.specs.WellFormed.{IsFormedName, IsPlain, IsFormedConst, IsFormedFormula, IsFormedLabel, IsFormedVariable, IsFormedBranch, IsFormedCommand, IsFormedModule}
use Rattle.prism_limits.specs.ChainWalk.{is_arrow}
use Rattle.prism_limits.proofs.OthersLemmas.{is_other}
use Rattle.prism_parser.specs.Models.{OneHas, in_first, in_later, HasLongOption, HasLongConst, HasLongNamed, HasLongVariable, HasLongAssign, HasLongBranch, HasLongCommand, HasLongModule}
use Rattle.prism_parser.proofs.KnownLemmas.{Known, known_none, known_raised, known_both, known_then, known_name, known_quoted, known_end, known_ended, known_until, left_only}
use Rattle.prism_parser.proofs.SequenceLemmas.{IsKnown, first_or_later, only_one, each_known, separated_known}

-- the sort of a constant, and the tokens after it
known_sort : {L G : Type 0} {a ks : List Kind} {s : SortWord} → IsSort a s → Known ks L G → Known (a ++ ks) L G
known_sort IsSort.int known = known_then k.Int refl refl known
known_sort IsSort.double known = known_then k.Double refl refl known
known_sort IsSort.bool known = known_then k.Bool refl refl known
known_sort IsSort.none known = known

-- an expression that may be left out, and the semicolon after it
known_optional : {a : List Kind} {v : Option Expr} (t : Kind) → is_arrow t ≡ false → is_other t ≡ true → IsOptional t a v → Known (a ++ (k.Semicolon ∷ [])) (HasLongOption v) (IfSome v IsPlain)
known_optional t arrow other line.absent = known_raised (λ long. absurd long) (λ long. long) (λ good. tt) (known_end k.Semicolon refl refl)
known_optional t arrow other (line.present text) = known_raised left_only inl (λ good. good.0) (known_then t arrow other (known_until k.Semicolon refl refl refl text known_none))

-- a constant
pub const_known : IsKnown IsConst HasLongConst IsFormedConst
const_known _ _ (line.const {n = n} sort value) =
    known_raised (λ long. long) (λ long. long) (λ good. record { name = good.0; value = good.1 })
    (known_then k.Const refl refl (known_sort sort (known_name n (known_optional k.Equal refl refl value))))

-- a formula
pub formula_known : IsKnown IsFormula HasLongNamed IsFormedFormula
formula_known _ _ (line.formula {n = n} text) =
    known_raised left_only inl (λ good. record { name = good.0; body = good.1.0 })
    (known_then k.Formula refl refl (known_name n (known_then k.Equal refl refl (known_until k.Semicolon refl refl refl text known_none))))

-- a label
pub label_known : IsKnown IsLabel HasLongNamed IsFormedLabel
label_known _ _ (line.label {n = n} text) =
    known_raised left_only inl (λ good. record { name = good.0; body = good.1.0 })
    (known_then k.Label refl refl (known_quoted n (known_then k.Equal refl refl (known_until k.Semicolon refl refl refl text known_none))))

-- one of three, grouped to the left
grouped : {L M N : Type 0} → L ⊎ (M ⊎ N) → (L ⊎ M) ⊎ N
grouped (inl one) = inl (inl one)
grouped (inr (inl two)) = inl (inr two)
grouped (inr (inr three)) = inr three

-- and to the right
ungrouped : {L M N : Type 0} → (L ⊎ M) ⊎ N → L ⊎ (M ⊎ N)
ungrouped (inl (inl one)) = inl one
ungrouped (inl (inr two)) = inr (inl two)
ungrouped (inr three) = inr (inr three)

-- the other one of two
right_only : {L : Type 0} → ⊥ ⊎ L → L
right_only (inl never) = absurd never
right_only (inr long) = long

-- a variable
pub variable_known : IsKnown IsVariable HasLongVariable IsFormedVariable
variable_known _ _ (line.ranged {n = n} low high init) =
    known_raised grouped ungrouped (λ good. record { name = good.0; range = (good.1.0, good.1.1.0); init = good.1.1.1 })
    (known_name n (known_then k.Colon refl refl (known_then k.OpenBracket refl refl
    (known_until k.Dots refl refl refl low (known_until k.CloseBracket refl refl refl high (known_optional k.Init refl refl init))))))
variable_known _ _ (line.truth {n = n} init) =
    known_raised inr right_only (λ good. record { name = good.0; range = tt; init = good.1 })
    (known_name n (known_then k.Colon refl refl (known_then k.Bool refl refl (known_optional k.Init refl refl init))))

-- a global variable
pub global_known : IsKnown IsGlobal HasLongVariable IsFormedVariable
global_known _ x (line.global {a = a} text) = known_then k.Global refl refl (variable_known a x text)

-- what is good of an assignment
abbrev IsGoodAssign : List ℕ × Expr → Type 0
IsGoodAssign s = IsFormedName s.0 × IsPlain s.1

-- an assignment
assign_known : IsKnown IsAssign HasLongAssign IsGoodAssign
assign_known _ _ (line.assign {n = n} text) =
    known_raised left_only inl (λ good. (good.0, good.1.0))
    (known_then k.Open refl refl (known_name n (known_then k.Prime refl refl (known_then k.Equal refl refl (known_until k.Close refl refl refl text known_none)))))

-- an update
update_known : IsKnown IsUpdate (OneHas HasLongAssign) (All IsGoodAssign)
update_known _ _ line.nothing = known_raised (λ long. absurd long) (λ one. first_or_later one) (λ good. All-nil IsGoodAssign) (known_end k.True refl refl)
update_known _ s (line.assigns {a = a} sets) = known_raised (λ long. long) (λ long. long) (λ good. good.1) (separated_known k.Ampersand refl refl assign_known a s sets)

-- what is good of a branch with its weight
abbrev IsGoodBranch : Branch → Type 0
IsGoodBranch b = IsFormedBranch b × IsSome b.weight

-- a branch with its weight
weighted_known : IsKnown IsWeighted HasLongBranch IsGoodBranch
weighted_known _ _ (line.weighted {b = b} {s = s} weight update) =
    known_raised (λ long. long) (λ long. long) (λ good. (record { weight = good.0; sets = good.1 }, refl))
    (known_until k.Colon refl refl refl weight (update_known b s update))

-- what is good of the branches of a command
record AreGoodBranches (bs : List Branch) : Type 0 where
  some : 0 < length bs
  branches : All IsFormedBranch bs
  weights : 1 < length bs → All (λ b. IsSome b.weight) bs

-- what all have of two is each of the two
all_first : {X : Type 0} (P Q : X → Type 0) (xs : List X) → All (λ x. P x × Q x) xs → All P xs
all_first P Q [] all = All-nil P
all_first P Q (x ∷ xs) all = All-cons P x xs (All-head (λ y. P y × Q y) x xs all).0 (all_first P Q xs (All-tail (λ y. P y × Q y) x xs all))

all_second : {X : Type 0} (P Q : X → Type 0) (xs : List X) → All (λ x. P x × Q x) xs → All Q xs
all_second P Q [] all = All-nil Q
all_second P Q (x ∷ xs) all = All-cons Q x xs (All-head (λ y. P y × Q y) x xs all).1 (all_second P Q xs (All-tail (λ y. P y × Q y) x xs all))

-- the branches of a command
branches_known : IsKnown AreBranches (OneHas HasLongBranch) AreGoodBranches
branches_known _ _ (line.alone {a = a} {s = s} update) =
    known_raised (λ long. in_first (inr long)) (λ one. right_only (only_one one))
    (λ good. record {
      some = omega arith;
      branches = All-cons IsFormedBranch (record { weight = None; sets = s }) [] (record { weight = tt; sets = good }) (All-nil IsFormedBranch);
      weights = λ more. absurd (omega (arith, more));
    })
    (update_known a s update)
branches_known _ bs (line.several {a = a} several) =
    known_raised (λ long. long) (λ long. long)
    (λ good. record { some = good.0; branches = all_first IsFormedBranch (λ b. IsSome b.weight) bs good.1; weights = λ more. all_second IsFormedBranch (λ b. IsSome b.weight) bs good.1 })
    (separated_known k.Plus refl refl weighted_known a bs several)

-- the action of a command, and the tokens after it
known_action : {L G : Type 0} {a ks : List Kind} {n : Option (List ℕ)} → IsAction a n → Known ks L G → Known (a ++ ks) L (IfSome n IsFormedName × G)
known_action line.unlabelled known = known_raised (λ long. long) (λ long. long) (λ good. (tt, good)) known
known_action (line.labelled {n = n}) known = known_name n known

-- a command
pub command_known : IsKnown IsCommand HasLongCommand IsFormedCommand
command_known _ _ (line.command {b = b} {bs = bs} action guard branches) =
    known_raised (λ long. long) (λ long. long)
    (λ good. record { action = good.0; guard = good.1.0; some = good.1.1.some; branches = good.1.1.branches; weights = good.1.1.weights })
    (known_then k.OpenBracket refl refl (known_action action (known_then k.CloseBracket refl refl
    (known_until k.Arrow refl refl refl guard (known_ended b k.Semicolon refl refl (branches_known b bs branches))))))

-- no pair is long
abbrev IsLongPair : List ℕ × List ℕ → Type 0
IsLongPair p = ⊥

abbrev IsGoodPair : List ℕ × List ℕ → Type 0
IsGoodPair p = IsFormedName p.0 × IsFormedName p.1

-- a name and what replaces it
pair_known : IsKnown IsPair IsLongPair IsGoodPair
pair_known _ _ (line.pair {m = m} {n = n}) =
    known_raised (λ long. long) (λ long. long) (λ good. (good.0, good.1.0)) (known_name m (known_then k.Equal refl refl (known_name n known_none)))

-- so none of some is
none_long : {ps : List (List ℕ × List ℕ)} → OneHas IsLongPair ps → ⊥
none_long (in_first never) = never
none_long (in_later one) = none_long one

-- a module
pub module_known : IsKnown IsModule HasLongModule IsFormedModule
module_known _ _ (line.written {a = a} {b = b} {n = n} {vs = vs} {cs = cs} vars commands) =
    known_raised (λ long. long) (λ long. long) (λ good. (good.0, good.1.0, good.1.1))
    (known_then k.Module refl refl (known_name n
    (known_both a (b ++ (k.EndModule ∷ [])) (each_known variable_known a vs vars) (known_ended b k.EndModule refl refl (each_known command_known b cs commands)))))
module_known _ _ (line.renamed {a = a} {n = n} {m = m} {ps = ps} pairs) =
    known_raised (λ long. none_long (left_only long)) (λ never. absurd never) (λ good. (good.0, good.1.0, good.1.1.0.1))
    (known_then k.Module refl refl (known_name n (known_then k.Equal refl refl (known_name m (known_then k.OpenBracket refl refl
    (known_both a (k.CloseBracket ∷ (k.EndModule ∷ [])) (separated_known k.Comma refl refl pair_known a ps pairs) (known_then k.CloseBracket refl refl (known_end k.EndModule refl refl))))))))
