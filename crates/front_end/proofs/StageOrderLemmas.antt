-- Of stages in order the first that refuses decides. Where each tells one thing at most, so do all of them together.
use Rattle.std.proofs.Common.{◌≡◌, sym, ◌∙◌, ap, subst}
use Rattle.std.specs.Prelude.{Result, Ok, Err}
use Rattle.smc_report.specs.declared.reason.Reason.{Reason}
use Rattle.front_end.specs.Stops.{IsAccepted, IsReasonOf}

-- one thing at most is told
abbrev pub TellsOne : {X : Type 0} → (X → Type 0) → Type 0
TellsOne {X} Tells = (a b : X) → Tells a → Tells b → a ≡ b

-- what is told after a stage: the stage's reason, or what is told of what the stage gives
abbrev pub Follows : {A X : Type 0} → (A → Result X Reason → Type 0) → Result A Reason → Result X Reason → Type 0
Follows Next (Ok given) answer = Next given answer
Follows Next (Err why) answer = answer ≡ Err why

-- an answer is that of a stage and of what comes after it
pub record IsByStage {A X : Type 0} (Stage : Result A Reason → Type 0) (Next : A → Result X Reason → Type 0) (answer : Result X Reason) : Type 0 where
  pub first : Result A Reason
  pub told : Stage first
  pub follows : Follows Next first answer

follows_one : {A X : Type 0} {Next : A → Result X Reason → Type 0} → ((given : A) → TellsOne (Next given)) → (first : Result A Reason) → TellsOne (Follows Next first)
follows_one next (Ok given) a b x y = next given a b x y
follows_one next (Err why) a b x y = x ∙ sym y

pub by_stage_one : {A X : Type 0} {Stage : Result A Reason → Type 0} {Next : A → Result X Reason → Type 0} → TellsOne Stage → ((given : A) → TellsOne (Next given))
    → TellsOne (IsByStage Stage Next)
by_stage_one {Next = Next} stage next a b x y =
    follows_one next x.first a b x.follows (subst (λ first. Follows Next first b) (sym (stage x.first y.first x.told y.told)) y.follows)

-- a stage gives what is right where nothing is refused, or tells the reason for a fault
abbrev pub Decides : {A Fault : Type 0} → (A → Type 0) → (Fault → Reason) → (Fault → Type 0) → Result A Reason → Type 0
Decides Is make Refuses (Ok given) = Is given × IsAccepted Refuses
Decides Is make Refuses (Err why) = IsReasonOf make Refuses why

pub decides_one : {A Fault : Type 0} {Is : A → Type 0} (make : Fault → Reason) {Refuses : Fault → Type 0} → (IsAccepted Refuses → TellsOne Is) → TellsOne Refuses
    → TellsOne (Decides Is make Refuses)
decides_one make right refusal (Ok x) (Ok y) p q = ap Ok (right p.1 x y p.0 q.0)
decides_one make right refusal (Ok x) (Err why) p q = absurd (p.1 q.0 q.2)
decides_one make right refusal (Err why) (Ok y) p q = absurd (q.1 p.0 p.2)
decides_one make right refusal (Err why) (Err other) p q = ap Err (p.1 ∙ (ap make (refusal p.0 q.0 p.2 q.2) ∙ sym q.1))
