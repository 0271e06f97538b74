-- Seats: the observers of a run in the order in which they were handed in, and the lines of those that have left.
use Rattle.std.specs.Prelude.{ℕ, Bool, true, List, Option, Some, None, fold}
use Rattle.stop_rules.specs.declared.observer.Stay.{Stay}
use Rattle.stop_rules.specs.declared.observer.Stay.TheVariants.{Keep, Leave}
use Rattle.stop_rules.specs.Observers.{Observation, observe, is_ready, stay_of, line_of}

-- a seat: an observer with what it has seen, or the line of one that has left
pub data Seated : Type 0 where
  watching : Observation → Seated
  gone : List ℕ → Seated

-- the seat of an observer, or of the line that is left of one
abbrev pub seated : Option Observation → List ℕ → Seated
seated (Some seen) line = watching seen
seated None line = gone line

-- the seat of an observer that has seen this, and then stays or leaves
abbrev pub seat_when : Stay → Observation → Seated
seat_when Keep seen = watching seen
seat_when Leave seen = gone (line_of seen)

-- a seat after one more outcome, which nobody sees who has left
abbrev pub seat_after : Seated → Bool → Seated
seat_after (watching seen) bit = seat_when (stay_of (observe seen bit)) (observe seen bit)
seat_after (gone line) bit = gone line

-- a seat after these outcomes
abbrev pub seat_after_all : List Bool → Seated → Seated
seat_after_all bits seat = fold seat_after seat bits

-- whether the observer of a seat may be fed, if it is there
abbrev pub is_ready_seat : Seated → Bool
is_ready_seat (watching seen) = is_ready seen
is_ready_seat (gone line) = true

-- the line of a seat: the one that was left, or the observer's
abbrev pub line_at : Seated → List ℕ
line_at (watching seen) = line_of seen
line_at (gone line) = line
