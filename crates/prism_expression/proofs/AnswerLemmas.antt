-- What the calls tell of the tokens, put together from what their parts tell.
use Rattle.std.proofs.Common.{◌≡◌, ℕ, ◌+◌, min, false, true, List, [], ◌∷◌, ◌++◌, length, Some, None, refl, sym, ap, ◌∙◌, subst}
use Rattle.std.specs.Prelude.{Result, Ok, Err, IsSome}
use Rattle.std.specs.Result.{IsErrAnd}
use Rattle.prism_syntax.specs.declared.labels.Labels.{Labels}
use Rattle.prism_syntax.specs.declared.tokens.Kind.{Kind}
use Rattle.prism_syntax.specs.declared.tokens.Kind.TheVariants as k
use Rattle.prism_syntax.specs.declared.tokens.Token.{Token}
use Rattle.prism_syntax.specs.declared.expressions.Expr.{Expr}
use Rattle.prism_syntax.specs.declared.expressions.Expr.TheVariants as e
use Rattle.prism_syntax.specs.declared.expressions.Func.{Func}
use Rattle.prism_syntax.specs.declared.expressions.Op.{Op}
use Rattle.prism_syntax.specs.declared.precedence.Precedence.{Precedence}
use Rattle.prism_syntax.specs.declared.precedence.Precedence.TheVariants as rule
use Rattle.prism_syntax.specs.Tokens.{kinds}
use Rattle.prism_syntax.specs.Precedence.{inner, is_chain, operator, atom, function, takes}
use Rattle.prism_syntax.specs.Expressions.{Derives, level}
use Rattle.prism_reading.specs.declared.mismatch.Mismatch.{Mismatch}
use Rattle.prism_reading.specs.declared.mismatch.Mismatch.TheVariants.{NoText, OutOfMemory}
use Rattle.prism_reading.specs.Reading.{Answers, Anything, Parses, Fails}
use Rattle.prism_reading.specs.Sequences.{IsTerminal, Ended}
use Rattle.prism_reading.proofs.ReachLemmas.{count_kinds}
use Rattle.prism_reading.proofs.TerminalLemmas.{terminal_kinds}
use Rattle.prism_expression.specs.Follow.{goes_on}
use Rattle.prism_expression.specs.Longest.{IsLongest}
use Rattle.prism_expression.specs.Parts.{IsBranches, IsArguments, IsCalled, BeginsWith, BeginsWithout}
use Rattle.prism_expression.proofs.FoundLemmas.{Found, Missing, Cut, cut_on, longest_found, longest_cut, found_longest, fails_missing, missing_fails, closed_found, closed_parses, parses_cut, behind_found, behind_missing}
use Rattle.prism_expression.proofs.NextLemmas.{with_kinds, with_cut, without_kinds}
use Rattle.prism_expression.proofs.ChainLemmas.{ChainSoFar, chain_missing, chain_first, chain_next, chain_end, chain_stop}
use Rattle.prism_expression.proofs.UntilLemmas.{until_agrees, until_missing, until_open, until_parses}
use Rattle.prism_expression.proofs.ConditionalLemmas.{unasked, no_first_branch, both_branches, no_second_branch, conditional_found, condition_alone, no_condition}
use Rattle.prism_expression.proofs.CallLemmas.{ArgumentsSoFar, arguments_agree, called_agree, no_argument, arguments_first, arguments_next, no_next, unclosed, arguments_whole, called_behind, called_text, unopened}
use Rattle.prism_expression.proofs.PrimaryLemmas.{paren_behind, paren_text_at, call_behind, word_missing, name_found, leaf_found, leaf_missing, nothing_missing}

-- what a mismatch tells
abbrev pub Refuses : (ℕ → Type 0) → Mismatch → Type 0
Refuses Told (NoText left) = Told left
Refuses Told (OutOfMemory fault) = Unit {0}

-- a mismatch of a part that is handed on is one of the whole
pub raised : {T : Type 0} (Given : T → Type 0) {Less : ℕ → Type 0} (Told : ℕ → Type 0) (result : Result T Mismatch) (fault : Mismatch) → IsErrAnd result (λ e. e ≡ fault)
    → ((left : ℕ) → Told left → Less left) → Refuses Told fault → Answers Given Less result
raised Given Told (Ok value) fault is less told = absurd is
raised Given Told (Err (NoText left)) fault is less told = less left (subst (λ e. Refuses Told e) (sym is) told)
raised Given Told (Err (OutOfMemory fault)) other is less told = tt

-- what a mismatch with this number tells
pub told_left : (Told : ℕ → Type 0) (fault : Mismatch) (left : ℕ) → fault ≡ NoText left → Refuses Told fault → Told left
told_left Told fault left is told = subst (λ e. Refuses Told e) is told

-- an answer that says more
pub answers_more : {T : Type 0} {Given More : T → Type 0} {None Less : ℕ → Type 0} (result : Result T Mismatch) → ((value : T) → Given value → More value) → ((left : ℕ) → None left → Less left)
    → Answers Given None result → Answers More Less result
answers_more (Ok value) given none answers = given value answers
answers_more (Err (NoText left)) given none answers = none left answers
answers_more (Err (OutOfMemory fault)) given none answers = tt

-- ---- chains

pub chain_fails : {labels : Labels} {l m : Precedence} {tokens : List Token} → is_chain l ≡ true → m ≡ inner l → (left : ℕ) → Fails (Derives labels m) Anything tokens left → Fails (Derives labels l) Anything tokens left
chain_fails {labels = labels} {tokens = tokens} is_true level_is left fails =
    missing_fails (chain_missing is_true (fails_missing (subst (λ v. Fails (Derives labels v) Anything tokens left) level_is fails)))

pub chain_begins : {labels : Labels} {l m : Precedence} {tokens rest : List Token} {x : Expr} {n : ℕ} {ys : List Expr} {os : List Op} → is_chain l ≡ true → m ≡ inner l → ys ≡ [] → os ≡ []
    → IsLongest (Derives labels m) tokens x rest n → ChainSoFar labels l (kinds tokens) (kinds rest) n x ys os × Cut tokens rest
chain_begins {labels = labels} {l = l} {tokens = tokens} {rest = rest} {x = x} {n = n} {ys = ys} is_true level_is no_operands no_operators told =
    let first = chain_first is_true (longest_found (subst (λ v. IsLongest (Derives labels v) tokens x rest n) level_is told)) in
    (subst (λ v. ChainSoFar labels l (kinds tokens) (kinds rest) n x ys v) (sym no_operators) (subst (λ v. ChainSoFar labels l (kinds tokens) (kinds rest) n x v []) (sym no_operands) first), longest_cut told)

pub chain_goes_on : {labels : Labels} {l m : Precedence} {tokens rest after next : List Token} {x y : Expr} {n p q : ℕ} {ys zs : List Expr} {os ps : List Op} {o : Op} → is_chain l ≡ true → m ≡ inner l
    → zs ≡ ys ++ (y ∷ []) → ps ≡ os ++ (o ∷ []) → q ≡ min n p
    → ChainSoFar labels l (kinds tokens) (kinds rest) n x ys os × Cut tokens rest → BeginsWith (λ t. operator l t ≡ Some o) rest after → IsLongest (Derives labels m) after y next p
    → ChainSoFar labels l (kinds tokens) (kinds next) q x zs ps × Cut tokens next
chain_goes_on {labels = labels} {l = l} {tokens = tokens} {after = after} {next = next} {x = x} {y = y} {n = n} {p = p} {zs = zs} {os = os} {ps = ps} {o = o} is_true level_is operands operators least so_far passed told =
    let further = chain_next passed.first.kind o is_true so_far.0 (with_kinds passed) passed.is (longest_found (subst (λ v. IsLongest (Derives labels v) after y next p) level_is told)) in (
      subst (λ v. ChainSoFar labels l (kinds tokens) (kinds next) v x zs ps) (sym least)
          (subst (λ v. ChainSoFar labels l (kinds tokens) (kinds next) (min n p) x zs v) (sym operators)
          (subst (λ v. ChainSoFar labels l (kinds tokens) (kinds next) (min n p) x v (os ++ (o ∷ []))) (sym operands) further)),
      cut_on so_far.1 (cut_on (with_cut passed) (longest_cut told)),
    )

pub chain_ends : {labels : Labels} {l : Precedence} {tokens rest : List Token} {x tree : Expr} {n : ℕ} {ys : List Expr} {os : List Op} → is_chain l ≡ true → tree ≡ level x ys os
    → ChainSoFar labels l (kinds tokens) (kinds rest) n x ys os × Cut tokens rest → BeginsWithout (λ t. IsSome (operator l t)) rest → IsLongest (Derives labels l) tokens tree rest n
chain_ends {labels = labels} {l = l} {tokens = tokens} {rest = rest} {n = n} is_true tree_is so_far none =
    found_longest so_far.1 (subst (λ v. Found (Derives labels l) (kinds tokens) v (kinds rest) n) (sym tree_is) (chain_end is_true so_far.0 (without_kinds (λ t. IsSome (operator l t)) rest none)))

pub chain_stops : {labels : Labels} {l m : Precedence} {tokens rest after : List Token} {x tree : Expr} {n p q : ℕ} {ys : List Expr} {os : List Op} {o : Op} → is_chain l ≡ true → m ≡ inner l → tree ≡ level x ys os
    → q ≡ min n p → ChainSoFar labels l (kinds tokens) (kinds rest) n x ys os × Cut tokens rest → BeginsWith (λ t. operator l t ≡ Some o) rest after → Fails (Derives labels m) Anything after p
    → IsLongest (Derives labels l) tokens tree rest q
chain_stops {labels = labels} {l = l} {tokens = tokens} {rest = rest} {after = after} {tree = tree} {n = n} {p = p} {o = o} is_true level_is tree_is least so_far passed fails =
    found_longest so_far.1
    (subst (λ v. Found (Derives labels l) (kinds tokens) tree (kinds rest) v) (sym least)
    (subst (λ v. Found (Derives labels l) (kinds tokens) v (kinds rest) (min n p)) (sym tree_is)
    (chain_stop passed.first.kind o is_true so_far.0 (with_kinds passed) passed.is (fails_missing (subst (λ v. Fails (Derives labels v) Anything after p) level_is fails)))))

-- ---- single kinds

pub accepted : {t : Kind} {tokens rest : List Token} {left : ℕ} → Parses (IsTerminal t) Anything tokens tt rest left → kinds tokens ≡ t ∷ kinds rest
accepted told = terminal_kinds told

-- ---- a text up to a token

pub until_fails : {labels : Labels} {l : Precedence} {t : Kind} {tokens : List Token} (left : ℕ) → Fails (Derives labels l) Anything tokens left → Fails (Ended (Derives labels l) t) Anything tokens left
until_fails {t = t} left fails = missing_fails (until_missing t (fails_missing fails))

pub until_unended : {labels : Labels} {l : Precedence} {t : Kind} {tokens rest : List Token} {x : Expr} {n : ℕ} → goes_on l t ≡ false → IsLongest (Derives labels l) tokens x rest n
    → ((after : List Kind) → kinds rest ≡ t ∷ after → ⊥) → Fails (Ended (Derives labels l) t) Anything tokens n
until_unended {t = t} stops told none = missing_fails (until_open t stops (longest_found told) none)

pub until_ended : {labels : Labels} {l : Precedence} {t : Kind} {tokens rest after : List Token} {x : Expr} {n left : ℕ} → goes_on l t ≡ false → IsLongest (Derives labels l) tokens x rest n
    → Parses (IsTerminal t) Anything rest tt after left → Parses (Ended (Derives labels l) t) Anything tokens x after (length after)
until_ended {t = t} stops told end = until_parses t stops told (parses_cut end) (terminal_kinds end)

-- ---- conditionals

pub branches_unasked : {labels : Labels} (tokens : List Token) → ((after : List Kind) → kinds tokens ≡ k.Query ∷ after → ⊥) → Fails (IsBranches labels) Anything tokens (length tokens)
branches_unasked {labels = labels} tokens none = missing_fails (subst (λ n. Missing (IsBranches labels) (kinds tokens) n) (count_kinds tokens) (unasked none))

pub branches_no_first : {labels : Labels} {tokens inside : List Token} {p : ℕ} → Parses (IsTerminal k.Query) Anything tokens tt inside p → (left : ℕ) → Fails (Ended (Derives labels rule.Implication) k.Colon) Anything inside left
    → Fails (IsBranches labels) Anything tokens left
branches_no_first query left fails = missing_fails (no_first_branch (terminal_kinds query) (fails_missing fails))

until_found : {labels : Labels} {tokens rest : List Token} {y : Expr} → Parses (Ended (Derives labels rule.Implication) k.Colon) Anything tokens y rest (length rest)
    → Found (Ended (Derives labels rule.Implication) k.Colon) (kinds tokens) y (kinds rest) (length (kinds rest))
until_found {labels = labels} {tokens = tokens} {rest = rest} {y = y} told =
    subst (λ n. Found (Ended (Derives labels rule.Implication) k.Colon) (kinds tokens) y (kinds rest) n) (sym (count_kinds rest)) (closed_found (until_agrees rule.Implication k.Colon refl) told)

pub branches_no_second : {labels : Labels} {tokens inside outside : List Token} {p : ℕ} {y : Expr} → Parses (IsTerminal k.Query) Anything tokens tt inside p
    → Parses (Ended (Derives labels rule.Implication) k.Colon) Anything inside y outside (length outside) → (left : ℕ) → Fails (Derives labels rule.Conditional) Anything outside left → Fails (IsBranches labels) Anything tokens left
branches_no_second query first left fails = missing_fails (no_second_branch (terminal_kinds query) (until_found first) (fails_missing fails))

pub branches_whole : {labels : Labels} {tokens inside outside rest : List Token} {p n : ℕ} {y z : Expr} → Parses (IsTerminal k.Query) Anything tokens tt inside p
    → Parses (Ended (Derives labels rule.Implication) k.Colon) Anything inside y outside (length outside) → IsLongest (Derives labels rule.Conditional) outside z rest n → IsLongest (IsBranches labels) tokens (y, z) rest n
branches_whole query first second =
    found_longest (cut_on (parses_cut query) (cut_on (parses_cut first) (longest_cut second))) (both_branches (terminal_kinds query) (until_found first) (longest_found second))

pub conditional_fails : {labels : Labels} {tokens : List Token} (left : ℕ) → Fails (Derives labels rule.Implication) Anything tokens left → Fails (Derives labels rule.Conditional) Anything tokens left
conditional_fails left fails = missing_fails (no_condition (fails_missing fails))

pub conditional_whole : {labels : Labels} {tokens rest after : List Token} {x y z tree : Expr} {n m p : ℕ} → tree ≡ e.If x y z → p ≡ min n m → IsLongest (Derives labels rule.Implication) tokens x rest n
    → IsLongest (IsBranches labels) rest (y, z) after m → IsLongest (Derives labels rule.Conditional) tokens tree after p
conditional_whole {labels = labels} {tokens = tokens} {after = after} {tree = tree} {n = n} {m = m} tree_is least told parts =
    found_longest (cut_on (longest_cut told) (longest_cut parts))
    (subst (λ v. Found (Derives labels rule.Conditional) (kinds tokens) tree (kinds after) v) (sym least)
    (subst (λ v. Found (Derives labels rule.Conditional) (kinds tokens) v (kinds after) (min n m)) (sym tree_is) (conditional_found (longest_found told) (longest_found parts))))

pub conditional_alone : {labels : Labels} {tokens rest : List Token} {x : Expr} {n m p : ℕ} → p ≡ min n m → IsLongest (Derives labels rule.Implication) tokens x rest n → Fails (IsBranches labels) Anything rest m
    → IsLongest (Derives labels rule.Conditional) tokens x rest p
conditional_alone {labels = labels} {tokens = tokens} {rest = rest} {x = x} least told fails =
    found_longest (longest_cut told) (subst (λ v. Found (Derives labels rule.Conditional) (kinds tokens) x (kinds rest) v) (sym least) (condition_alone (longest_found told) (fails_missing fails)))

-- ---- calls

pub arguments_fail : {labels : Labels} {g : Func} {tokens : List Token} (left : ℕ) → Fails (Derives labels rule.Conditional) Anything tokens left → Fails (IsArguments labels g) Anything tokens left
arguments_fail left fails = missing_fails (no_argument (fails_missing fails))

pub arguments_begin : {labels : Labels} (g : Func) {tokens rest : List Token} {x : Expr} {n : ℕ} {ys : List Expr} → ys ≡ [] → IsLongest (Derives labels rule.Conditional) tokens x rest n
    → ArgumentsSoFar labels g (kinds tokens) (kinds rest) n x ys × Cut tokens rest
arguments_begin {labels = labels} g {tokens = tokens} {rest = rest} {x = x} {n = n} none told =
    (subst (λ v. ArgumentsSoFar labels g (kinds tokens) (kinds rest) n x v) (sym none) (arguments_first (longest_found told)), longest_cut told)

comma_kinds : (g : Func) {count : ℕ} (ys : List Expr) {rest after : List Token} → count ≡ length ys → BeginsWith (λ t. (t ≡ k.Comma) × (takes g (count + 1) ≡ true)) rest after
    → (kinds rest ≡ k.Comma ∷ kinds after) × (takes g (length ys + 1) ≡ true)
comma_kinds g ys {after = after} many passed = (with_kinds passed ∙ ap (λ v. v ∷ kinds after) passed.is.0, ap (λ n. takes g (n + 1)) (sym many) ∙ passed.is.1)

pub arguments_go_on : {labels : Labels} {g : Func} {tokens rest after next : List Token} {x y : Expr} {n p q count : ℕ} {ys zs : List Expr} → count ≡ length ys → zs ≡ ys ++ (y ∷ []) → q ≡ min n p
    → ArgumentsSoFar labels g (kinds tokens) (kinds rest) n x ys × Cut tokens rest → BeginsWith (λ t. (t ≡ k.Comma) × (takes g (count + 1) ≡ true)) rest after
    → IsLongest (Derives labels rule.Conditional) after y next p → ArgumentsSoFar labels g (kinds tokens) (kinds next) q x zs × Cut tokens next
arguments_go_on {labels = labels} {g = g} {tokens = tokens} {next = next} {x = x} {n = n} {p = p} {ys = ys} {zs = zs} many more least so_far passed told =
    let here = comma_kinds g ys many passed in (
      subst (λ v. ArgumentsSoFar labels g (kinds tokens) (kinds next) v x zs) (sym least)
          (subst (λ v. ArgumentsSoFar labels g (kinds tokens) (kinds next) (min n p) x v) (sym more) (arguments_next so_far.0 here.0 here.1 (longest_found told))),
      cut_on so_far.1 (cut_on (with_cut passed) (longest_cut told)),
    )

pub arguments_stop : {labels : Labels} {g : Func} {tokens rest after : List Token} {x : Expr} {n p q count : ℕ} {ys : List Expr} → count ≡ length ys → q ≡ min n p
    → ArgumentsSoFar labels g (kinds tokens) (kinds rest) n x ys × Cut tokens rest → BeginsWith (λ t. (t ≡ k.Comma) × (takes g (count + 1) ≡ true)) rest after
    → Fails (Derives labels rule.Conditional) Anything after p → Fails (IsArguments labels g) Anything tokens q
arguments_stop {labels = labels} {g = g} {tokens = tokens} {ys = ys} many least so_far passed fails =
    let here = comma_kinds g ys many passed in
    missing_fails (subst (λ v. Missing (IsArguments labels g) (kinds tokens) v) (sym least) (no_next so_far.0 here.0 here.1 (fails_missing fails)))

pub arguments_unclosed : {labels : Labels} (g : Func) {tokens : List Token} (rest : List Token) {x : Expr} {n count other : ℕ} {ys : List Expr} → count ≡ length ys → other ≡ length ys
    → ArgumentsSoFar labels g (kinds tokens) (kinds rest) n x ys × Cut tokens rest
    → BeginsWithout (λ t. (t ≡ k.Comma) × (takes g (count + 1) ≡ true)) rest → BeginsWithout (λ t. (t ≡ k.Close) × (takes g other ≡ true)) rest → Fails (IsArguments labels g) Anything tokens n
arguments_unclosed g rest {count = count} {other = other} many same so_far no_comma no_close =
    missing_fails (unclosed so_far.0
    (λ r is fits. without_kinds (λ t. (t ≡ k.Comma) × (takes g (count + 1) ≡ true)) rest no_comma k.Comma r is (refl, ap (λ n. takes g (n + 1)) many ∙ fits))
    (λ r is fits. without_kinds (λ t. (t ≡ k.Close) × (takes g other ≡ true)) rest no_close k.Close r is (refl, ap (takes g) same ∙ fits)))

pub arguments_close : {labels : Labels} (g : Func) {tokens rest after : List Token} {x : Expr} {n count : ℕ} {ys xs : List Expr} → count ≡ length ys → xs ≡ x ∷ ys
    → ArgumentsSoFar labels g (kinds tokens) (kinds rest) n x ys × Cut tokens rest → BeginsWith (λ t. (t ≡ k.Close) × (takes g count ≡ true)) rest after
    → Parses (IsArguments labels g) Anything tokens xs after (length after)
arguments_close {labels = labels} g {tokens = tokens} {after = after} many all so_far passed =
    let whole = arguments_whole so_far.0 (with_kinds passed ∙ ap (λ v. v ∷ kinds after) passed.is.0) (ap (takes g) (sym many) ∙ passed.is.1) in
    subst (λ v. Parses (IsArguments labels g) Anything tokens v after (length after)) (sym all)
    (closed_parses whole.0 (arguments_agree g) (cut_on so_far.1 (with_cut passed)) whole.1 whole.2)

pub called_unopened : {labels : Labels} {g : Func} (tokens : List Token) → ((after : List Kind) → kinds tokens ≡ k.Open ∷ after → ⊥) → Fails (IsCalled labels g) Anything tokens (length tokens)
called_unopened {labels = labels} {g = g} tokens none = missing_fails (subst (λ n. Missing (IsCalled labels g) (kinds tokens) n) (count_kinds tokens) (unopened none))

pub called_parses : {labels : Labels} {g : Func} {tokens opened rest : List Token} {p : ℕ} {xs : List Expr} → Parses (IsTerminal k.Open) Anything tokens tt opened p → Parses (IsArguments labels g) Anything opened xs rest (length rest)
    → Parses (IsCalled labels g) Anything tokens xs rest (length rest)
called_parses {g = g} shown told =
    let whole = behind_found (called_behind (terminal_kinds shown)) (closed_found (arguments_agree g) told) in
    closed_parses whole.front (called_agree g) (cut_on (parses_cut shown) (parses_cut told)) whole.cut whole.text

pub called_fails : {labels : Labels} {g : Func} {tokens opened : List Token} {p : ℕ} → Parses (IsTerminal k.Open) Anything tokens tt opened p → (left : ℕ) → Fails (IsArguments labels g) Anything opened left
    → Fails (IsCalled labels g) Anything tokens left
called_fails shown left fails = missing_fails (behind_missing (called_behind (terminal_kinds shown)) (λ f r y cut text. called_text (terminal_kinds shown) f r y cut text) (fails_missing fails))

-- ---- primaries

pub paren_fails : {labels : Labels} {tokens inside : List Token} {p : ℕ} → Parses (IsTerminal k.Open) Anything tokens tt inside p → (left : ℕ) → Fails (Ended (Derives labels rule.Conditional) k.Close) Anything inside left
    → Fails (Derives labels rule.Primary) Anything tokens left
paren_fails shown left fails = missing_fails (behind_missing (paren_behind (terminal_kinds shown)) (λ f r y cut text. paren_text_at (terminal_kinds shown) f r y cut text) (fails_missing fails))

pub paren_whole : {labels : Labels} {tokens inside rest : List Token} {p : ℕ} {x boxed : Expr} → boxed ≡ x → Parses (IsTerminal k.Open) Anything tokens tt inside p
    → Parses (Ended (Derives labels rule.Conditional) k.Close) Anything inside x rest (length rest) → IsLongest (Derives labels rule.Primary) tokens (e.Paren boxed) rest (length rest)
paren_whole {labels = labels} {tokens = tokens} {rest = rest} same shown told =
    found_longest (cut_on (parses_cut shown) (parses_cut told))
    (subst (λ v. Found (Derives labels rule.Primary) (kinds tokens) (e.Paren v) (kinds rest) (length rest)) (sym same)
    (behind_found (paren_behind (terminal_kinds shown)) (closed_found (until_agrees rule.Conditional k.Close refl) told)))

pub primary_nothing : {labels : Labels} (tokens : List Token) → length tokens ≡ 0 → Fails (Derives labels rule.Primary) Anything tokens (length tokens)
primary_nothing {labels = labels} tokens none =
    missing_fails (subst (λ n. Missing (Derives labels rule.Primary) (kinds tokens) n) (count_kinds tokens) (nothing_missing (kinds tokens) (count_kinds tokens ∙ none)))

pub leaf_whole : {labels : Labels} {tokens rest : List Token} {x : Expr} (first : Token) → tokens ≡ first ∷ rest → atom labels first.kind ≡ Some x → function first.kind ≡ None
    → IsLongest (Derives labels rule.Primary) tokens x rest (length rest)
leaf_whole {labels = labels} {tokens = tokens} {rest = rest} {x = x} first cut is_atom no_function =
    found_longest (first ∷ [], cut) (subst (λ n. Found (Derives labels rule.Primary) (kinds tokens) x (kinds rest) n) (count_kinds rest) (leaf_found first.kind (ap kinds cut) is_atom no_function))

pub leaf_fails : {labels : Labels} {tokens rest : List Token} (first : Token) → tokens ≡ first ∷ rest → ((after : List Kind) → kinds tokens ≡ k.Open ∷ after → ⊥) → atom labels first.kind ≡ None → function first.kind ≡ None
    → Fails (Derives labels rule.Primary) Anything tokens (length tokens)
leaf_fails {labels = labels} {tokens = tokens} {rest = rest} first cut shut no_atom no_function =
    missing_fails (subst (λ n. Missing (Derives labels rule.Primary) (kinds tokens) n) (count_kinds tokens)
    (leaf_missing first.kind (ap kinds cut) (λ is. shut (kinds rest) (ap kinds cut ∙ ap (λ v. v ∷ kinds rest) is)) no_atom no_function))

pub call_whole : {labels : Labels} {g : Func} {tokens opened rest : List Token} {xs : List Expr} (first : Token) → tokens ≡ first ∷ opened → function first.kind ≡ Some g → Parses (IsCalled labels g) Anything opened xs rest (length rest)
    → IsLongest (Derives labels rule.Primary) tokens (e.Call g xs) rest (length rest)
call_whole {g = g} first cut is_function told =
    found_longest (cut_on (first ∷ [], cut) (parses_cut told)) (behind_found (call_behind first.kind is_function (ap kinds cut)) (closed_found (called_agree g) told))

pub name_whole : {labels : Labels} {g : Func} {tokens rest : List Token} {x : Expr} {n : ℕ} (first : Token) → tokens ≡ first ∷ rest → function first.kind ≡ Some g → atom labels first.kind ≡ Some x → Fails (IsCalled labels g) Anything rest n
    → IsLongest (Derives labels rule.Primary) tokens x rest n
name_whole first cut is_function is_atom fails = found_longest (first ∷ [], cut) (name_found first.kind is_function (ap kinds cut) is_atom (fails_missing fails))

pub word_fails : {labels : Labels} {g : Func} {tokens rest : List Token} {n : ℕ} (first : Token) → tokens ≡ first ∷ rest → function first.kind ≡ Some g → atom labels first.kind ≡ None → Fails (IsCalled labels g) Anything rest n
    → Fails (Derives labels rule.Primary) Anything tokens n
word_fails first cut is_function no_atom fails = missing_fails (word_missing first.kind is_function (ap kinds cut) no_atom (fails_missing fails))
