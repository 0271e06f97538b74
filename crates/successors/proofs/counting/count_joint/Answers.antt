-- One list further, and none left.
use Rattle.std.proofs.Common.{◌+◌, ◌^◌, ap, ◌∙◌, min, length, arith}
use Rattle.std.specs.Prelude.{filter}
use Rattle.successors.specs.Enabled.{is_enabled}
use Rattle.successors.specs.Partition.{joint_lists}
use Rattle.successors.proofs.CountLemmas.{joint_next, joint_all}
use Rattle.successors.proofs.counting.count_joint.Goals as goal

pub loop-list-preserved : goal.loop-list-preserved
loop-list-preserved c =
    let p = is_enabled c.args.lane c.args.enabled.now in
    record {
      same = joint_next p c.args.lists.now c.loop-list.list-index c.loop-list.product c.count_enabled-count.result c.capped_product-product.result c.list-item.result (min (length (joint_lists p c.args.lists.now)) (2 ^ 48 + 1))
          c.loop-list-test.true c.list-item.is (c.count_enabled-count.ensures.value ∙ ap (λ ls. length (filter p ls)) c.as_slice.ensures) c.capped_product-product.ensures c.loop-list.invariant.same;
      small = omega (arith, c.capped_product-product.ensures);
    }

pub returns : goal.returns
returns c =
    let p = is_enabled c.args.lane c.args.enabled.now in
    joint_all p c.args.lists.now c.loop-list.list-index c.loop-list.product (min (length (joint_lists p c.args.lists.now)) (2 ^ 48 + 1)) c.loop-list-test.false c.loop-list.invariant.small c.loop-list.invariant.same
