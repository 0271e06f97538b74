use Rattle.std.proofs.Common.{◌≡◌, ◌<◌, ◌≤◌, ◌*◌, ◌^◌, pos, negsuc, int_lt, unsigned_abs, true, false, sym, ◌∙◌, ap, subst, to_z-of_z, SFits, arith}
use Rattle.std.specs.Int.{w128}
use native.Mathlib.Nat.{one-le-pow}
use Rattle.smc_num.specs.Fraction.{limit, signed, lowest}
use Rattle.smc_num.specs.Spelling.{readable}
use Rattle.smc_num.proofs.DigitsLemmas.{limited-far, limited-part, limited-large, limited-whole, not_low}
use Rattle.smc_num.proofs.fraction.spelling.values.limited.Goals as goal

pub returns-then-size-gt18 : goal.returns-then-size-gt18
returns-then-size-gt18 c =
    let fits : SFits w128 c.args.power = c.ranges.power in
    let size : c.unsigned_abs-size.result ≡ unsigned_abs c.args.power = simp to_z-of_z at c.unsigned_abs-size.ensures.value in
    sym (limited-far c.args.negative c.args.digits c.args.power c.requires.some (subst (λ n. 18 < n) size c.if-size-gt18.true))

pub reduced-requires : goal.reduced-requires
reduced-requires c = subst (λ n. 0 < n) (sym c.power_of_ten-scale.ensures.value) (one-le-pow c.unsigned_abs-size.result 10 (omega arith))

pub returns-then-power-lt0 : goal.returns-then-power-lt0
returns-then-power-lt0 c =
    let fits : SFits w128 c.args.power = c.ranges.power in
    let size : c.unsigned_abs-size.result ≡ unsigned_abs c.args.power = simp to_z-of_z at c.unsigned_abs-size.ensures.value in
    let near = c.if-size-gt18.false in
    let down : int_lt c.args.power (pos 0) ≡ true = simp to_z-of_z at c.if-power-lt0.true in
    let low : int_lt c.args.power (negsuc 17) ≡ false = not_low c.args.power (subst (λ n. n ≤ 18) size near) in
    c.readable.ensures ∙ ap readable (c.reduced.ensures ∙ ap (λ d. lowest (signed c.args.negative c.args.digits) d) (c.power_of_ten-scale.ensures.value ∙ ap (λ k. 10 ^ k) size))
    ∙ sym (limited-part c.args.negative c.args.digits c.args.power c.requires.small low down)

pub returns-then-whole-ge-LIMIT : goal.returns-then-whole-ge-LIMIT
returns-then-whole-ge-LIMIT c =
    let fits : SFits w128 c.args.power = c.ranges.power in
    let size : c.unsigned_abs-size.result ≡ unsigned_abs c.args.power = simp to_z-of_z at c.unsigned_abs-size.ensures.value in
    let up : int_lt c.args.power (pos 0) ≡ false = simp to_z-of_z at c.if-power-lt0.false in
    let whole : c.product_of_sizes-whole.result ≡ c.args.digits * 10 ^ unsigned_abs c.args.power =
    c.product_of_sizes-whole.ensures ∙ ap (λ d. c.args.digits * d) (c.power_of_ten-scale.ensures.value ∙ ap (λ k. 10 ^ k) size) in
    sym (limited-large c.args.negative c.args.digits c.args.power up (subst (λ n. limit ≤ n) whole c.if-whole-ge-LIMIT.true))

pub returns : goal.returns
returns c =
    let fits : SFits w128 c.args.power = c.ranges.power in
    let size : c.unsigned_abs-size.result ≡ unsigned_abs c.args.power = simp to_z-of_z at c.unsigned_abs-size.ensures.value in
    let up : int_lt c.args.power (pos 0) ≡ false = simp to_z-of_z at c.if-power-lt0.false in
    let whole : c.product_of_sizes-whole.result ≡ c.args.digits * 10 ^ unsigned_abs c.args.power =
    c.product_of_sizes-whole.ensures ∙ ap (λ d. c.args.digits * d) (c.power_of_ten-scale.ensures.value ∙ ap (λ k. 10 ^ k) size) in
    c.readable-2.ensures ∙ ap readable (c.reduced-2.ensures ∙ ap (λ n. lowest (signed c.args.negative n) 1) whole)
    ∙ sym (limited-whole c.args.negative c.args.digits c.args.power c.requires.small up (subst (λ n. n < limit) whole c.if-whole-ge-LIMIT.false))
