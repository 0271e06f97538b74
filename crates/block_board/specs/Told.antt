-- The rule of the table below a board, and what each of its steps tells:
-- the new view, that it is sound, and what the old value says.
use Rattle.std.specs.Prelude.{◌≡◌, ℕ, ◌-◌, ◌^◌, ◌<◌, ◌≤◌, min, ◌++◌, Contains}
use Rattle.atomic_table.specs.Table.{State, Me, Step}
use Rattle.block_board.specs.declared.view.View.{View}
use Rattle.block_board.specs.declared.view.Size.{Size}
use Rattle.block_board.specs.Counts.{times, pairs_of, least_of}
use Rattle.block_board.specs.Steps.{all_tickets, after_claim, after_publish, after_look, after_lower, after_stop, after_next}
use Rattle.block_board.specs.Race.{Race}
use Rattle.block_board.specs.IsSound.{IsSound}

-- a step of a table without slots
abbrev pub TableStep : Type 0
TableStep = Step (Unit {0})

-- a seat of a table without slots: its view, and no slot
abbrev pub TableSeat : Type 0
TableSeat = Me (Unit {0}) View

-- the words and views of the table are those of a race
abbrev pub IsRaceOf : Size → State (Unit {0}) View → Type 0
IsRaceOf size s = Race size.blocks size.workers s.words s.views

-- the seat m has become m', with a view that is u and sound
abbrev pub Becomes : TableSeat → TableSeat → View → Type 0
Becomes m m' u = (m'.1 ≡ m.1) × (m'.0 ≡ u) × IsSound m'.0

-- a claim finds a number that the seat did not claim or publish before; a block is then claimed once;
-- a seat with all tickets has claimed each block below it
abbrev pub claim_tells : TableStep → TableSeat → ℕ → TableSeat → Type 0
claim_tells st m k m' =
    Becomes m m' (after_claim m.0 k)
    × (times k m.0.claims ≡ 0)
    × (k < m.0.blocks → times k m'.0.claims ≡ 1)
    × (pairs_of k m'.0.published ≡ 0)
    × (all_tickets m.0 ≡ m.0.workers → (x : ℕ) → x < min k m.0.blocks → times x m.0.claims ≡ 1)

-- a publish writes the code of a block
abbrev pub publish_tells : TableStep → TableSeat → ℕ → TableSeat → Type 0
publish_tells st m k m' = Becomes m m' (after_publish m.0 (st.word - 2) st.first)

-- a look finds the code that the seat published or saw before, if any, and otherwise 0 or a code with bit 63 set
abbrev pub look_tells : TableStep → TableSeat → ℕ → TableSeat → Type 0
look_tells st m k m' =
    Becomes m m' (after_look m.0 (st.word - 2) k)
    × ((code : ℕ) → Contains (m.0.seen ++ m.0.published) (st.word - 2, code) → (k ≡ code) × (0 < k))
    × (0 < k → 2 ^ 63 ≤ k)

-- a lower finds some stop
abbrev pub lower_tells : TableStep → TableSeat → ℕ → TableSeat → Type 0
lower_tells st m k m' = Becomes m m' (after_lower m.0 st.first k) × (k ≤ m.0.least) × (k ≤ least_of m.0.lowered)

-- a stop finds at most what the seat read before, and at most each number that it lowered
abbrev pub stop_tells : TableStep → TableSeat → ℕ → TableSeat → Type 0
stop_tells st m k m' = Becomes m m' (after_stop m.0 k) × (k ≤ m.0.least) × (k ≤ least_of m.0.lowered)

-- a read of the next number finds some number
abbrev pub next_tells : TableStep → TableSeat → ℕ → TableSeat → Type 0
next_tells st m k m' = Becomes m m' (after_next m.0 k)
