-- The two weights add up to 1 over one denominator.
use Rattle.std.proofs.Common.{ℕ, ◌≡◌, ◌+◌, ◌≤◌, ◌^◌, sym, subst, arith}
use Rattle.std.specs.Prelude.{unsigned_abs}
use Rattle.successors.specs.Weighing.{IsShare}
use Rattle.successors.proofs.ShareLemmas.{share_in}
use Rattle.successors.proofs.weighing.share_of.Goals as goal

pub returns : goal.returns
returns c =
    let a = c.first-item.result in
    let b = c.second-item.result in
    let same : b.den ≡ a.den = omega (arith, c.if-den-whole.false, c.den.ensures, c.den-whole.ensures) in
    let few : a.den ≤ 2 ^ 48 = omega (arith, c.if-whole.false, c.den-whole.ensures) in
    let adds : unsigned_abs a.num + unsigned_abs b.num ≡ a.den =
    omega (arith, c.if-part-whole.false, c.if-share-whole.false, c.part.ensures, c.part-share.ensures, c.den-whole.ensures) in
    subst (λ (share : ℕ). IsShare c.args.weights.now share c.den-whole.result) (sym c.part-share.ensures)
    (subst (IsShare c.args.weights.now (unsigned_abs a.num)) (sym c.den-whole.ensures)
    (share_in c.args.weights.now a b c.requires (omega (arith, c.in-len2.len_at_least)) (omega (arith, c.in-len2.len_below)) c.first-item.is c.second-item.is same few adds))
