use Rattle.std.proofs.Common.{take, bytes_eq}
use Rattle.indexmap.specs.IndexMap.{get}
use Rattle.const_eval.proofs.PartLemmas.{IsPart, HasPlaces}
use Rattle.const_eval.proofs.results.evaluate.Given as goal

-- each result so far is that of its constant, and all constants so far are there
abbrev pub invariant-loop-place : goal.invariant-loop-place
invariant-loop-place l = record {
  part : IsPart l.consts (get bytes_eq l.given) (get bytes_eq l.values);
  places : HasPlaces l.consts (get bytes_eq l.values) (take l.place-index l.order);
}
