use Rattle.std.proofs.Common.{◌/◌, ◌%◌, ◌^◌}
use Rattle.std.specs.Prelude.{◌==◌}
use Rattle.path_monitor.proofs.BitLemmas.{taken_off, left_on, some_bit}
use Rattle.path_monitor.proofs.masks.MaskMonitor.take_off.Goals as goal

pub returns-clause-lane : goal.returns-clause-lane
returns-clause-lane c = taken_off c.args.lane c.args.self.now.left (c.args.self.now.left / 2 ^ c.args.lane % 2 == 1) c.requires (some_bit c.args.lane c.args.self.now.left)

pub returns-clause-others : goal.returns-clause-others
returns-clause-others c l low other t bit = left_on c.args.lane l c.args.self.now.left t c.requires low other bit
