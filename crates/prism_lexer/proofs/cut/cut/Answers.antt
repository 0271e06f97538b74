use Rattle.std.proofs.Common.{◌≡◌, ◌≢◌, ◌-◌, ◌==◌, true, false, [], ◌∷◌, ◌++◌, length, sym, ◌∙◌, ap, subst, eq-eqb, arith, rules}
use Rattle.std.proofs.lemmas.Bool.{eqb-true}
use Rattle.std.proofs.lemmas.List.{nil_from_length}
use Rattle.prism_lexer.specs.Outcome.{token_limit}
use Rattle.prism_lexer.specs.Steps.{IsCutting}
use Rattle.prism_lexer.proofs.CutLemmas.{cutting_next, cutting_fault, cutting_end, next_shorter, not_full}
use Rattle.prism_lexer.proofs.cut.cut.Goals as goal

pub loop-rest-smaller : goal.loop-rest-smaller
loop-rest-smaller c = let next = c.in-Ok.ensures in let shorter = next_shorter c.loop-rest.rest.now _ _ _ next.0 in omega (arith, shorter, c.past_blanks-rest-in-Ok.ensures.passed.shorter)

pub loop-rest-preserved : goal.loop-rest-preserved
loop-rest-preserved c =
    let next = c.in-Ok.ensures in
    let same : c.push.new.self.items ≡ c.loop-rest.tokens.items ++ (c.in-Ok.token ∷ []) = search rules in
    let size : c.len-is_full.result ≡ length c.loop-rest.tokens.items = search rules in
    let full : (length c.loop-rest.tokens.items == token_limit) ≡ (c.len-is_full.result == token_limit) = ap (λ n. n == token_limit) (sym size) in
    subst (λ tokens. IsCutting c.args.text.now tokens c.past_blanks-rest-in-Ok.result.now) (sym same)
    (cutting_next c.args.text.now c.loop-rest.tokens.items c.loop-rest.rest.now (length c.args.text.now - length c.loop-rest.rest.now) c.in-Ok.token c.in-Ok.after.now c.past_blanks-rest-in-Ok.result.now
    c.loop-rest.invariant next.0 (omega arith) (not_full (length c.loop-rest.tokens.items) c.loop-rest.invariant.room (full ∙ next.1)) c.past_blanks-rest-in-Ok.ensures.passed c.past_blanks-rest-in-Ok.ensures.clear)

pub returns-in-Err : goal.returns-in-Err
returns-in-Err c =
    let size : c.len-is_full.result ≡ length c.loop-rest.tokens.items = search rules in
    let some : c.loop-rest.rest.now ≢ [] =
    λ empty. let clash : true ≡ false = sym (eq-eqb (length c.loop-rest.rest.now) 0 (ap length empty)) ∙ sym c.is_empty.ensures ∙ c.loop-rest-test.true in cc in
    cutting_fault c.args.text.now c.loop-rest.tokens.items c.loop-rest.rest.now (length c.args.text.now - length c.loop-rest.rest.now) (c.len-is_full.result == token_limit) c.in-Err.fault
    c.loop-rest.invariant some (omega arith) (ap (λ n. n == token_limit) size) c.in-Err.ensures

pub returns : goal.returns
returns c =
    let nothing : c.loop-rest.rest.now ≡ [] = nil_from_length c.loop-rest.rest.now (eqb-true (length c.loop-rest.rest.now) 0 (sym c.is_empty.ensures ∙ c.loop-rest-test.false)) in
    cutting_end c.args.text.now c.loop-rest.tokens.items (subst (IsCutting c.args.text.now c.loop-rest.tokens.items) nothing c.loop-rest.invariant)
