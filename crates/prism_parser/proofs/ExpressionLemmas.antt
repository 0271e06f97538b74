-- The longest expression from a token on is one, and what parsing tells of it.
use Rattle.std.proofs.Common.{◌≡◌, ℕ, ◌+◌, ◌-◌, ◌++◌, List, length, take, drop, sym, ◌∙◌, ap, subst, arith}
use Rattle.std.specs.Prelude.{All, Result, Ok, Err, IfOk}
use Rattle.std.proofs.lemmas.List.{map-append, length-append, length-map}
use Rattle.std.proofs.lemmas.List.Elements.{All-drop, All-map}
use lib.Seq.{take_at}
use Rattle.prism_syntax.specs.declared.labels.Labels.TheVariants.{Allowed}
use Rattle.prism_syntax.specs.declared.tokens.Kind.{Kind}
use Rattle.prism_syntax.specs.declared.tokens.Token.{Token}
use Rattle.prism_syntax.specs.declared.expressions.Expr.{Expr}
use Rattle.prism_syntax.specs.declared.precedence.Precedence.TheVariants as rule
use Rattle.prism_syntax.specs.Tokens.{kinds}
use Rattle.prism_syntax.specs.Expressions.{IsExpr}
use Rattle.prism_syntax.specs.WellFormed.{IsFormedKind, IsFormed}
use Rattle.prism_reading.proofs.ReachLemmas.{reach_one}
use Rattle.prism_limits.specs.declared.kinds.TextKind.TheVariants.{Property}
use Rattle.prism_limits.specs.Arrows.{IsLaterArrow, HasLongChain}
use Rattle.prism_limits.proofs.LaterArrowLemmas.{later_long}
use Rattle.prism_limits.proofs.TwoArrowLemmas.{long_later}
use Rattle.prism_expression.specs.Longest.{ParsesLongest}
use Rattle.prism_expression.proofs.CompareLemmas.{one_tree}
use Rattle.prism_expression.proofs.FormedLemmas.{all_front}
use Rattle.prism_parser.specs.declared.fault.ParseFault.{ParseFault}
use Rattle.prism_parser.specs.Refusals.{IsAccepted}
use Rattle.prism_parser.specs.Outcome.{Tells}
use Rattle.prism_parser.specs.Expressions.{FindsExpression, HasLong, BeginsNoExpression}
use Rattle.prism_parser.proofs.OutcomeLemmas.{IsDecided}
use Rattle.prism_parser.proofs.TextLemmas.{text_formed}
use Rattle.prism_limits.proofs.PlaceLemmas.{same_cut}

-- the longest expression is one
one_expression : (tokens : List Token) (start : ℕ) (x y : Expr × ℕ) → FindsExpression tokens start x → FindsExpression tokens start y → x ≡ y
one_expression tokens start x y first second = λ i. (same_tree i, same_next i)
  where
    same : (first.prefix ≡ second.prefix) × (first.rest ≡ second.rest)
    same =
        let less = first.longest second.prefix second.rest y.0 second.cut second.text in
        let more = second.longest first.prefix first.rest x.0 first.cut first.text in
        let whole : first.prefix ++ first.rest ≡ second.prefix ++ second.rest = sym first.cut ∙ second.cut in
        let sizes : length (first.prefix ++ first.rest) ≡ length (second.prefix ++ second.rest) = ap length whole in
        let parts = length-append first.prefix first.rest in
        let others = length-append second.prefix second.rest in
        same_cut first.prefix second.prefix first.rest second.rest whole (omega arith)

    same_tree : x.0 ≡ y.0
    same_tree = one_tree first.text (subst (λ ts. IsExpr Allowed ts y.0) (sym same.0) second.text)

    same_next : x.1 ≡ y.1
    same_next = first.next ∙ ap (λ f. start + length f) same.0 ∙ sym second.next

-- there is one, or none and one first wrong token
pub expression_decided : (tokens : List Token) (start : ℕ) → IsDecided (FindsExpression tokens start) (BeginsNoExpression tokens start)
expression_decided tokens start = record {
  one = one_expression tokens start;
  apart = λ found left finds fails. fails.none finds.prefix finds.rest found.0 finds.cut finds.text tt;
  same = λ m n first second. reach_one first.reach second.reach;
}

-- what was parsed from the token `start` on is the expression found there, and its prefix
pub record Told (tokens prefix : List Token) (start : ℕ) (tree : Expr) : Type 0 where
  pub rest : List Kind
  pub cut : kinds (drop start tokens) ≡ kinds prefix ++ rest
  pub text : IsExpr Allowed (kinds prefix) tree
  pub found : FindsExpression tokens start (tree, start + length prefix)

pub told_expression : (tokens asked prefix rest : List Token) (start left : ℕ) (tree : Expr) → asked ≡ drop start tokens → ParsesLongest Allowed rule.Conditional asked tree rest left
    → prefix ≡ take (length asked - length rest) asked → Told tokens prefix start tree
told_expression tokens asked prefix rest start left tree same told cut = record {
  rest = kinds rest;
  cut = parted;
  text = text;
  found = record {
    prefix = kinds prefix;
    rest = kinds rest;
    cut = parted;
    text = text;
    longest = λ other after any equal another.
        let least = told.longest other after any (ap kinds same ∙ equal) another in
        let size = length-map rest (λ t. t.kind) in
        omega arith;
    next = ap (λ n. start + n) (sym (length-map prefix (λ t. t.kind)));
  };
}
  where
    is_prefix : prefix ≡ told.parses.prefix
    is_prefix = cut ∙ ap (λ ts. take (length ts - length rest) ts) told.parses.cut ∙ take_at told.parses.prefix rest (length (told.parses.prefix ++ rest) - length rest) (omega (arith, length-append told.parses.prefix rest))

    text : IsExpr Allowed (kinds prefix) tree
    text = subst (λ ts. IsExpr Allowed (kinds ts) tree) (sym is_prefix) told.parses.text

    parted : kinds (drop start tokens) ≡ kinds prefix ++ kinds rest
    parted = ap kinds (sym same) ∙ ap kinds told.parses.cut ∙ map-append (λ t. t.kind) told.parses.prefix rest ∙ ap (λ ts. kinds ts ++ kinds rest) (sym is_prefix)

-- each later arrow of its prefix stands in a long chain of its tree
pub told_long : {tokens prefix : List Token} {start : ℕ} {tree : Expr} → Told tokens prefix start tree → (index : ℕ) → IsLaterArrow Allowed (kinds prefix) index → HasLongChain tree
told_long told index later = later_long told.text later

-- and the other way round
pub told_short : {tokens prefix : List Token} {start : ℕ} {tree : Expr} → Told tokens prefix start tree → ((index : ℕ) → IsLaterArrow Allowed (kinds prefix) index → ⊥) → HasLongChain tree → ⊥
told_short told none long = let later = long_later told.text long in none later.0 later.1

-- what is accepted of well-formed tokens is well formed
accepted_formed : (tokens : List Token) (start : ℕ) (found : Expr × ℕ) → IsAccepted Property (FindsExpression tokens start) HasLong tokens start found → All (λ token. IsFormedKind token.kind) tokens → IsFormed Allowed found.0
accepted_formed tokens start found accepted formed =
    let finds = accepted.found in
    let all = All-map IsFormedKind (λ token. token.kind) (drop start tokens) (All-drop (λ token. IsFormedKind token.kind) start tokens formed) in
    text_formed finds.text (all_front IsFormedKind finds.prefix finds.rest (subst (All IsFormedKind) finds.cut all)) accepted.short

pub told_formed : (tokens : List Token) (start : ℕ) (answer : Result (Expr × ℕ) ParseFault)
    → Tells Property (FindsExpression tokens start) HasLong (BeginsNoExpression tokens start) tokens start answer → All (λ token. IsFormedKind token.kind) tokens → IfOk answer (λ found. IsFormed Allowed found.0)
told_formed tokens start (Ok found) accepted formed = accepted_formed tokens start found accepted formed
told_formed tokens start (Err fault) told formed = tt
