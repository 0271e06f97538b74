-- A walk knows the arrow before a later arrow of its chain.
use Rattle.std.proofs.Common.{◌≡◌, ◌<◌, ◌+◌, ℕ, Bool, true, false, cond, List, [], ◌∷◌, ◌++◌, length, drop, Option, Some, None, ◌⊎◌, ⊎_elim, ◌↔◌, refl, sym, ap, subst, ◌∙◌, arith}
use Rattle.std.specs.Prelude.{All, IfSome, IfOk, IsTrue, Result, Ok, Err}
use Rattle.std.specs.declared.alloc.AllocError.{AllocError}
use Rattle.std.proofs.lemmas.Bool.{eqb-true, eq-eqb}
use lib.Dec.{eqb}
use Rattle.std.proofs.lemmas.List.{append_assoc, append-nil, length-append, drop-map}
use Rattle.std.proofs.lemmas.List.Elements.{All-nil, All-cons, All-head, All-tail, All-push}
use Rattle.std.proofs.Math.Seq.{drop-append_seam}
use Rattle.prism_syntax.specs.declared.labels.Labels.{Labels}
use Rattle.prism_syntax.specs.declared.tokens.Kind.{Kind}
use Rattle.prism_syntax.specs.declared.tokens.Kind.TheVariants as k
use Rattle.prism_syntax.specs.declared.tokens.Token.{Token}
use Rattle.prism_syntax.specs.declared.expressions.Expr.{Expr}
use Rattle.prism_syntax.specs.declared.precedence.Precedence.TheVariants as rule
use Rattle.prism_syntax.specs.Tokens.{kinds}
use Rattle.prism_syntax.specs.Expressions.{Derives}
use Rattle.prism_reading.specs.Reading.{Anything, Fails}
use Rattle.prism_reading.proofs.DefiniteLemmas.{kinds_cut}
use Rattle.prism_expression.specs.Follow.{GoesOn}
use Rattle.prism_expression.specs.Longest.{ParsesLongest}
use Rattle.prism_expression.proofs.CompareLemmas.{compared}
use Rattle.prism_limits.specs.Places.{IsFirst}
use Rattle.prism_limits.specs.Words.{EndsInRewards}
use Rattle.prism_limits.specs.Arrows.{IsLaterArrow}
use Rattle.prism_limits.specs.ChainWalk.{Place, step, walk, start, last_after, around_after, innermost, outermost, may_stand_in_operand, is_arrow, begins_arrow}
use Rattle.prism_limits.specs.ArrowWalk.{HasArrowAt, IsAt, TellsOperand, TellsLater}
use Rattle.prism_limits.proofs.PlaceLemmas.{same_cut, Walks, cuts_start, cuts_within, walk_next, walk_found, walk_none, length-kinds}
use Rattle.prism_limits.proofs.RewardsLemmas.{Knows, starts_outside, inside_next}
use Rattle.prism_limits.proofs.ChainWalkLemmas.{walk_append, step_outside, text_keeps}

-- a walk knows whether its place is inside a rewards block
walk_knows : (place : Place) (index : ℕ) (before ks : List Kind) → Knows place.inside before → Knows (walk place index ks).inside (before ++ ks)
walk_knows place index before [] known = subst (Knows place.inside) (sym (append-nil before)) known
walk_knows place index before (t ∷ ks) known =
    subst (Knows (walk place index (t ∷ ks)).inside) (append_assoc before (t ∷ []) ks) (walk_knows (step place index t) (index + 1) (before ++ (t ∷ [])) ks (inside_next place.inside t before known))

-- so it is at the place after some tokens
pub place_knows : {place : Place} {before : List Kind} → IsAt place before → Knows place.inside before
place_knows {before = before} at = subst (λ (p : Place). Knows p.inside before) (sym at.walked) (walk_knows start 0 [] before (λ is. absurd (cc), λ ends. absurd (starts_outside ends)))

-- outside a rewards block is outside
not_inside : (b : Bool) (ks : List Kind) → Knows b ks → (EndsInRewards ks → ⊥) → b ≡ false
not_inside true ks known outside = absurd (outside (known.0 refl))
not_inside false ks known outside = refl

-- where an operand stands after an arrow, the walk over both keeps this arrow
operand_last : {labels : Labels} {tree : Expr} (before operand : List Kind) → (EndsInRewards before → ⊥) → Derives labels rule.Equivalence operand tree
    → ((walk start 0 (before ++ (k.Implies ∷ operand))).last ≡ Some (length before)) × ((walk start 0 (before ++ (k.Implies ∷ operand))).inside ≡ false)
operand_last before operand outside text =
    let here = walk start 0 before in
    let out : here.inside ≡ false = not_inside here.inside before (walk_knows start 0 [] before (λ is. absurd (cc), λ ends. absurd (starts_outside ends))) outside in
    let arrow = step_outside here (0 + length before) k.Implies out in
    let keeps = text_keeps text (step here (0 + length before) k.Implies) (ap (λ (p : Place). p.inside) arrow) (0 + length before + 1) in
    let whole = walk_append start 0 before (k.Implies ∷ operand) in
    let count : 0 + length before ≡ length before = omega arith in (
      ap (λ (p : Place). p.last) whole ∙ keeps.last (omega arith) ∙ ap (λ (p : Place). p.last) arrow ∙ ap Some count,
      ap (λ (p : Place). p.inside) whole ∙ keeps.inside,
    )

-- a later arrow that stands after some tokens: these are an arrow and an operand after what stands before both
pub record Ends (labels : Labels) (tokens before rest : List Kind) : Type 0 where
  pub front : List Kind
  pub operand : List Kind
  pub after : List Kind
  pub tree : Expr
  pub cut : before ≡ front ++ (k.Implies ∷ operand)
  pub others : rest ≡ k.Implies ∷ after
  pub text : Derives labels rule.Equivalence operand tree
  pub outside : EndsInRewards front → ⊥

later_ends : {labels : Labels} {tokens : List Kind} (before rest : List Kind) → tokens ≡ before ++ rest → IsLaterArrow labels tokens (length before) → Ends labels tokens before rest
later_ends before rest cut later =
    let whole : before ++ rest ≡ (later.before ++ (k.Implies ∷ later.operand)) ++ (k.Implies ∷ later.after) =
    sym cut ∙ later.cut ∙ sym (append_assoc later.before (k.Implies ∷ later.operand) (k.Implies ∷ later.after)) in
    let parts = length-append later.before (k.Implies ∷ later.operand) in
    let count = later.count in
    let same = same_cut before (later.before ++ (k.Implies ∷ later.operand)) rest (k.Implies ∷ later.after) whole (omega arith) in
    record { front = later.before; operand = later.operand; after = later.after; tree = later.tree; cut = same.0; others = same.1; text = later.text; outside = later.outside }

-- there the walk keeps the arrow before it, and is outside rewards blocks
pub later_place : {labels : Labels} {tokens before rest : List Kind} {place : Place} → IsAt place before → (ends : Ends labels tokens before rest) → (place.last ≡ Some (length ends.front)) × (place.inside ≡ false)
later_place at ends =
    let walked = at.walked ∙ ap (walk start 0) ends.cut in
    let kept = operand_last ends.front ends.operand ends.outside ends.text in
    (ap (λ (p : Place). p.last) walked ∙ kept.0, ap (λ (p : Place). p.inside) walked ∙ kept.1)

-- inside a rewards block no token is a later arrow
pub none_inside : (labels : Labels) (tokens rest : List Kind) (place : Place) → place.inside ≡ true → TellsLater labels place tokens rest false
none_inside labels tokens rest place inside before at cut = (λ is. absurd (cc), λ later. let kept = (later_place at (later_ends before rest cut later)).1 in cc)

-- nor is a token that is no arrow
pub none_other : (labels : Labels) (tokens rest : List Kind) (place : Place) → begins_arrow rest ≡ false → TellsLater labels place tokens rest false
none_other labels tokens rest place other before at cut = (λ is. absurd (cc), λ later. let begins : begins_arrow rest ≡ true = ap begins_arrow (later_ends before rest cut later).others in cc)

-- nor is an arrow before which the chain has none
pub none_before : (labels : Labels) (tokens rest : List Kind) (place : Place) → place.last ≡ None → TellsLater labels place tokens rest false
none_before labels tokens rest place none before at cut = (λ is. absurd (cc), λ later. let kept = (later_place at (later_ends before rest cut later)).0 in cc)

-- an arrow is an arrow
pub arrow_and_others : (tokens : List Kind) → begins_arrow tokens ≡ true → (others : List Kind) × (tokens ≡ k.Implies ∷ others)
arrow_and_others [] begins = absurd (cc)
arrow_and_others (t ∷ ts) begins = (ts, ap (λ (u : Kind). u ∷ ts) (the_arrow t begins))
  where
    the_arrow : (token : Kind) → is_arrow token ≡ true → token ≡ k.Implies
    the_arrow k.Implies is = refl
    the_arrow _ is = absurd (cc)

-- what is left after an arrow
drop_arrow : (front after : List Kind) (index : ℕ) → length front ≡ index → drop (index + 1) (front ++ (k.Implies ∷ after)) ≡ after
drop_arrow front after index count =
    let whole : front ++ (k.Implies ∷ after) ≡ (front ++ (k.Implies ∷ [])) ++ after = sym (append_assoc front (k.Implies ∷ []) after) in
    let size : length (front ++ (k.Implies ∷ [])) ≡ index + 1 = let parts = length-append front (k.Implies ∷ []) in omega arith in
    ap (drop (index + 1)) whole ∙ ap (λ n. drop n ((front ++ (k.Implies ∷ [])) ++ after)) (sym size) ∙ drop-append_seam (front ++ (k.Implies ∷ [])) after

-- an arrow after the last one of the chain is a later one where one operand stands between them
pub later_told : {labels : Labels} {tokens rest : List Kind} {place : Place} {index : ℕ} (answer : Bool) → place.last ≡ Some index → begins_arrow rest ≡ true
    → TellsOperand labels (drop (index + 1) tokens) rest answer → TellsLater labels place tokens rest answer
later_told {labels = labels} {tokens = tokens} {rest = rest} {place = place} {index = index} answer last_is begins tells before at cut =
    let arrow : HasArrowAt before index = subst (λ o. IfSome o (HasArrowAt before)) last_is at.last in
    let count = arrow.count in
    let whole : tokens ≡ arrow.before ++ (k.Implies ∷ (arrow.after ++ rest)) = cut ∙ ap (λ ts. ts ++ rest) arrow.cut ∙ append_assoc arrow.before (k.Implies ∷ arrow.after) rest in
    let left : drop (index + 1) tokens ≡ arrow.after ++ rest = ap (drop (index + 1)) whole ∙ drop_arrow arrow.before (arrow.after ++ rest) index count in
    let told = tells arrow.after left begins in
    let others = arrow_and_others rest begins in
    let size : length before ≡ length (arrow.before ++ (k.Implies ∷ arrow.after)) = ap length arrow.cut in
    let parts = length-append arrow.before (k.Implies ∷ arrow.after) in (
      λ is. let text = told.0 is in record {
        before = arrow.before;
        operand = arrow.after;
        after = others.0;
        tree = text.0;
        cut = whole ∙ ap (λ ts. arrow.before ++ (k.Implies ∷ (arrow.after ++ ts))) others.1;
        count = omega arith;
        text = text.1;
        outside = arrow.outside;
      },
      λ later.
          let ends = later_ends before rest cut later in
          let kept : place.last ≡ Some (length ends.front) = (later_place at ends).0 in
          let place_same : index ≡ length ends.front = cc in
          let same = same_cut arrow.before ends.front (k.Implies ∷ arrow.after) (k.Implies ∷ ends.operand) (sym arrow.cut ∙ ends.cut) (count ∙ place_same) in
          let tails : k.Implies ∷ arrow.after ≡ k.Implies ∷ ends.operand = same.1 in
          let operands : arrow.after ≡ ends.operand = cc in
          told.1 (ends.tree, subst (λ ts. Derives labels rule.Equivalence ts ends.tree) (sym operands) ends.text),
    )

-- arrows that stand among some tokens stand there where one more follows
grown : {before : List Kind} (t : Kind) (index : ℕ) → HasArrowAt before index → HasArrowAt (before ++ (t ∷ [])) index
grown t index arrow = record {
  before = arrow.before;
  after = arrow.after ++ (t ∷ []);
  cut = ap (λ ts. ts ++ (t ∷ [])) arrow.cut ∙ append_assoc arrow.before (k.Implies ∷ arrow.after) (t ∷ []);
  count = arrow.count;
  outside = arrow.outside;
}

-- an index that is kept is one of an arrow
abbrev IsArrow : List Kind → Option ℕ → Type 0
IsArrow before one = IfSome one (HasArrowAt before)

grown_one : (before : List Kind) (t : Kind) (one : Option ℕ) → IsArrow before one → IsArrow (before ++ (t ∷ [])) one
grown_one before t None is = tt
grown_one before t (Some index) is = grown t index is

grown_all : (before : List Kind) (t : Kind) (ones : List (Option ℕ)) → All (IsArrow before) ones → All (IsArrow (before ++ (t ∷ []))) ones
grown_all before t [] all = All-nil (IsArrow (before ++ (t ∷ [])))
grown_all before t (one ∷ ones) all =
    All-cons (IsArrow (before ++ (t ∷ []))) one ones (grown_one before t one (All-head (IsArrow before) one ones all)) (grown_all before t ones (All-tail (IsArrow before) one ones all))

-- so are the last and the others of such
innermost_is : (before : List Kind) (ones : List (Option ℕ)) → All (IsArrow before) ones → IsArrow before (innermost ones)
innermost_is before [] all = tt
innermost_is before (x ∷ []) all = All-head (IsArrow before) x [] all
innermost_is before (x ∷ (y ∷ ys)) all = innermost_is before (y ∷ ys) (All-tail (IsArrow before) x (y ∷ ys) all)

outermost_are : (before : List Kind) (ones : List (Option ℕ)) → All (IsArrow before) ones → All (IsArrow before) (outermost ones)
outermost_are before [] all = All-nil (IsArrow before)
outermost_are before (x ∷ []) all = All-nil (IsArrow before)
outermost_are before (x ∷ (y ∷ ys)) all =
    All-cons (IsArrow before) x (outermost (y ∷ ys)) (All-head (IsArrow before) x (y ∷ ys) all) (outermost_are before (y ∷ ys) (All-tail (IsArrow before) x (y ∷ ys) all))

-- what is kept or not is one
kept_or_none : (before : List Kind) (b : Bool) (one : Option ℕ) → IsArrow before one → IsArrow before (cond b one None)
kept_or_none before true one is = is
kept_or_none before false one is = tt

-- the last arrow after one more token
last_is : (place : Place) (before : List Kind) (t : Kind) → place.inside ≡ false → IsAt place before → IsArrow (before ++ (t ∷ [])) (last_after place (length before) t)
last_is place before k.Implies out at = record { before = before; after = []; cut = refl; count = refl; outside = λ ends. let is = (place_knows at).1 ends in cc }
last_is place before k.Open out at = tt
last_is place before k.Close out at = grown_one before k.Close (innermost place.around) (innermost_is before place.around at.around)
last_is place before t out at = kept_or_none (before ++ (t ∷ [])) (may_stand_in_operand t) place.last (grown_one before t place.last at.last)

-- those around after one more token
around_are : (place : Place) (before : List Kind) (t : Kind) → IsAt place before → All (IsArrow (before ++ (t ∷ []))) (around_after place t)
around_are place before k.Open at = All-push (IsArrow (before ++ (k.Open ∷ []))) place.around place.last (grown_all before k.Open place.around at.around) (grown_one before k.Open place.last at.last)
around_are place before k.Close at = grown_all before k.Close (outermost place.around) (outermost_are before place.around at.around)
around_are place before t at = grown_all before t place.around at.around

-- the place after one more token
pub next_place : {place next : Place} {before : List Kind} (t : Kind) → IsAt place before → next ≡ step place (length before) t → IsAt next (before ++ (t ∷ []))
next_place {place = place} {next = next} {before = before} t at next_is =
    let count : 0 + length before ≡ length before = omega arith in
    record {
      walked = next_is ∙ ap (λ (p : Place). step p (length before) t) at.walked ∙ ap (λ n. step (walk start 0 before) n t) (sym count) ∙ sym (walk_append start 0 before (t ∷ []));
      last = subst (λ (p : Place). IsArrow (before ++ (t ∷ [])) p.last) (sym next_is) (last_of place.inside refl);
      around = subst (λ (p : Place). All (IsArrow (before ++ (t ∷ []))) p.around) (sym next_is) (around_of place.inside);
    }
  where
    last_of : (b : Bool) → place.inside ≡ b → IsArrow (before ++ (t ∷ [])) (cond b place.last (last_after place (length before) t))
    last_of true is = grown_one before t place.last at.last
    last_of false is = last_is place before t is at

    around_of : (b : Bool) → All (IsArrow (before ++ (t ∷ []))) (cond b place.around (around_after place t))
    around_of true = grown_all before t place.around at.around
    around_of false = around_are place before t at

-- the place before all tokens
pub start_place : IsAt start []
start_place = record { walked = refl; last = tt; around = All-nil (IsArrow []) }

-- what parsing an operand tells: the tokens before an arrow are one operand where as many are left
pub operand_told : {labels : Labels} {tokens longest : List Token} {tree : Expr} {left : ℕ} (rest : List Token) → ParsesLongest labels rule.Equivalence tokens tree longest left
    → TellsOperand labels (kinds tokens) (kinds rest) (eqb (length longest) (length rest))
operand_told {labels = labels} {tokens = tokens} {longest = longest} {tree = tree} rest told operand cut begins =
    let parsed = kinds_cut told.parses in
    let front = kinds told.parses.prefix in
    let rest_size = length-kinds rest in
    let longest_size = length-kinds longest in
    let parts : length (operand ++ kinds rest) ≡ length operand + length (kinds rest) = length-append operand (kinds rest) in
    let others : length (front ++ kinds longest) ≡ length front + length (kinds longest) = length-append front (kinds longest) in
    let whole : operand ++ kinds rest ≡ front ++ kinds longest = sym cut ∙ parsed in
    let sizes : length (operand ++ kinds rest) ≡ length (front ++ kinds longest) = ap length whole in (
      λ is.
          let size : length longest ≡ length rest = eqb-true (length longest) (length rest) is in
          let same = same_cut operand front (kinds rest) (kinds longest) whole (omega arith) in
          (tree, subst (λ ts. Derives labels rule.Equivalence ts tree) (sym same.0) told.parses.text),
      λ text.
          let least = told.longest operand (kinds rest) text.0 cut text.1 in
          let size : length longest ≡ length rest = ⊎_elim
          (λ equal. let equal_sizes : length (kinds rest) ≡ length (kinds longest) = ap length equal.1 in omega arith)
          (λ goes. absurd (arrow_stops (kinds rest) begins goes))
          (compared (kinds rest) (kinds longest) text.1 told.parses.text whole (omega arith)) in
          eq-eqb (length longest) (length rest) size,
    )
  where
    arrow_stops : (ts : List Kind) → begins_arrow ts ≡ true → GoesOn rule.Equivalence ts → ⊥
    arrow_stops [] begins goes = goes
    arrow_stops (k.Implies ∷ ts) begins goes = absurd (cc)
    arrow_stops (_ ∷ ts) begins goes = absurd (cc)

-- and where the tokens begin with no operand they are none
pub no_operand : {labels : Labels} {tokens : List Token} (rest : List Kind) {left : ℕ} → Fails (Derives labels rule.Equivalence) Anything tokens left → TellsOperand labels (kinds tokens) rest false
no_operand rest fails operand cut begins = (λ is. absurd (cc), λ text. absurd (fails.none operand rest text.0 cut text.1 tt))

-- what is told of the operand is told of the arrow
pub later_answer : (labels : Labels) (tokens asked rest : List Token) (place : Place) {index : ℕ} (answer : Result Bool AllocError) → place.last ≡ Some index → true ≡ begins_arrow (kinds rest)
    → asked ≡ drop (index + 1) tokens → IfOk answer (TellsOperand labels (kinds asked) (kinds rest)) → IfOk answer (TellsLater labels place (kinds tokens) (kinds rest))
later_answer labels tokens asked rest place {index = index} (Ok found) last_is begins back tells =
    let same = ap kinds back ∙ sym (drop-map (λ (t : Token). t.kind) (index + 1) tokens) in
    later_told found last_is (sym begins) (subst (λ ts. TellsOperand labels ts (kinds rest) found) same tells)
later_answer labels tokens asked rest place (Err fault) last_is begins back tells = tt

-- a walk that looks for later arrows
abbrev pub Looks : Labels → Place → List Kind → List Kind → ℕ → Type 0
Looks labels place tokens rest index = Walks (IsAt place) (IsLaterArrow labels tokens) tokens rest index

-- where it begins
pub look_start : (labels : Labels) (tokens : List Kind) → Looks labels start tokens tokens 0
look_start labels tokens = record { before = []; cuts = cuts_start tokens; known = start_place; none = λ other below _. absurd (omega arith) }

-- what is told of the token at its place
here : {labels : Labels} {place : Place} {tokens rest : List Kind} {index : ℕ} (answer : Bool) (walk : Looks labels place tokens rest index) → TellsLater labels place tokens rest answer
    → IsTrue answer ↔ IsLaterArrow labels tokens index
here {labels = labels} {tokens = tokens} answer walk tells = subst (λ n. IsTrue answer ↔ IsLaterArrow labels tokens n) walk.cuts.count (tells walk.before walk.known walk.cuts.cut)

-- the walk goes on past a token that is no later arrow
pub look_next : {labels : Labels} {place next : Place} {tokens rest : List Kind} {token : Kind} {index : ℕ} (answer : Bool) → Looks labels place tokens (token ∷ rest) index
    → TellsLater labels place tokens (token ∷ rest) answer → answer ≡ false → next ≡ step place index token → Looks labels next tokens rest (index + 1)
look_next {place = place} {token = token} answer walk tells none next_is =
    walk_next walk (λ later. let is = (here answer walk tells).1 later in cc) (next_place token walk.known (next_is ∙ ap (λ n. step place n token) (sym walk.cuts.count)))

-- it has come to one
pub look_found : {labels : Labels} {place : Place} {tokens rest : List Kind} {index : ℕ} (answer : Bool) → Looks labels place tokens rest index → TellsLater labels place tokens rest answer → answer ≡ true
    → IsFirst (IsLaterArrow labels tokens) index
look_found answer walk tells is = walk_found walk ((here answer walk tells).0 is)

-- a later arrow stands among the tokens
later_within : {labels : Labels} {tokens : List Kind} (index : ℕ) → IsLaterArrow labels tokens index → index < length tokens
later_within {tokens = tokens} index later =
    let all : length tokens ≡ length (later.before ++ (k.Implies ∷ (later.operand ++ (k.Implies ∷ later.after)))) = ap length later.cut in
    let parts = length-append later.before (k.Implies ∷ (later.operand ++ (k.Implies ∷ later.after))) in
    let others = length-append later.operand (k.Implies ∷ later.after) in
    let count = later.count in
    omega arith

-- it has come to the end
pub look_none : {labels : Labels} {place : Place} {tokens : List Kind} {index : ℕ} → Looks labels place tokens [] index → (other : ℕ) → IsLaterArrow labels tokens other → ⊥
look_none walk = walk_none walk later_within

-- the last arrow that the walk keeps stands among the tokens
pub last_within : {labels : Labels} {place : Place} {rest : List Kind} {index : ℕ} (tokens : List Token) → Looks labels place (kinds tokens) rest index → IfSome place.last (λ i. i < length tokens)
last_within {place = place} tokens walk = within place.last walk.known.last
  where
    within : (one : Option ℕ) → IsArrow walk.before one → IfSome one (λ i. i < length tokens)
    within None is = tt
    within (Some i) is =
        let all = cuts_within walk.cuts in
        let size = length-kinds tokens in
        let parts : length walk.before ≡ length (is.before ++ (k.Implies ∷ is.after)) = ap length is.cut in
        let others = length-append is.before (k.Implies ∷ is.after) in
        let count = is.count in
        omega arith
