-- What a step needs beside a state: the compiled chain, and room for what is taken.
use Rattle.std.specs.Prelude.{◌≡◌, ◌≤◌, All, IsTrue, length}
use Rattle.chain_model.specs.declared.chain.Chain.{Chain}
use Rattle.chain_model.specs.declared.job.Job.{Job}
use Rattle.successors.specs.declared.plan.Plan.{Plan}
use Rattle.successors.specs.declared.plan.Room.{Room}
use Rattle.successors.specs.declared.stepper.Stepper.{Stepper}
use Rattle.successors.specs.Partition.{IsPartition}
use Rattle.successors.specs.Plain.{HaveTruth}
use Rattle.successors.specs.Commands.{AreCommands, AreGuardNodes}

-- a plan is a chain's: its guards, which have a truth value in every state where it says so, its commands, and what they may be part of
pub record IsPlan (chain : Chain) (plan : Plan) : Type 0 where
  pub guards : AreGuardNodes chain.commands plan.guards
  pub plain : IsTrue plan.plain → HaveTruth plan.guards
  pub commands : AreCommands chain plan.commands
  pub partition : IsPartition chain plan.partition.singles plan.partition.actions

-- there is room for the commands of each choice and for their branches, for the weights of a command, and for a state
pub record IsRoom (chain : Chain) (plan : Plan) (room : Room) : Type 0 where
  pub some : 1 ≤ length room.chosen.items
  pub wide : All (λ lists. length lists ≤ length room.chosen.items) plan.partition.actions
  pub branches : length room.branches.items ≡ length room.chosen.items
  pub weights : 64 ≤ length room.weights.items
  pub next : length room.next.items ≡ length chain.vars

-- a stepper is one of a job's chain, with room for its steps and for a byte for each guard
pub record IsStepperOf (job : Job) (stepper : Stepper) : Type 0 where
  pub plan : IsPlan job.chain stepper.plan
  pub room : IsRoom job.chain stepper.plan stepper.room
  pub bytes : length stepper.bytes.items ≡ length job.chain.commands
