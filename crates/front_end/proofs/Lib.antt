mod StopLemmas
mod StageLemmas
mod PropertyLemmas
mod StageOrderLemmas
mod OneStageLemmas
mod OneModelLemmas
mod OnePropertyLemmas
