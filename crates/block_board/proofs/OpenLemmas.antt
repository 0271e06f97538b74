-- What is inside a seat and a board, from what contracts see of them.
use Rattle.std.proofs.Common.{◌≡◌, ℕ, ◌<◌, sym, ap, ◌∙◌, subst, arith}
use Rattle.std.proofs.lemmas.List.Elements.{All-contains}
use Rattle.atomic_table.specs.Seated.{TableId}
use Rattle.block_board.specs.declared.view.View.{View}
use Rattle.block_board.specs.Counts.{times}
use Rattle.block_board.specs.Identity.{BoardFacts, SeatFacts, IsSeatOf}
use Rattle.block_board.specs.IsSound.{IsSound}
use Rattle.block_board.proofs.CountLemmas.{some_time}

-- what is seen of a seat with this table and view
abbrev pub seat_of : TableId → View → SeatFacts
seat_of t v = record { board = t; view = v }

-- what is seen of a board with this table and size
abbrev pub board_of : TableId → ℕ → ℕ → BoardFacts
board_of t n w = record { id = t; blocks = n; workers = w }

-- a seat of the board steps on its table
pub same_table : (t t' : TableId) (v : View) (n w : ℕ) (seat : SeatFacts) (board : BoardFacts) → seat_of t v ≡ seat → board_of t' n w ≡ board → IsSeatOf board seat → t ≡ t'
same_table t t' v n w seat board s b here = ap (λ (z : SeatFacts). z.board) s ∙ (here.same ∙ sym (ap (λ (z : BoardFacts). z.id) b))

-- what holds of the view that is seen holds of the one inside
pub inside_view : (P : View → Type 0) (t : TableId) (v : View) (seat : SeatFacts) → seat_of t v ≡ seat → P seat.view → P v
inside_view P t v seat s h = subst P (sym (ap (λ (z : SeatFacts). z.view) s)) h

-- a claimed number is a block of the board
pub claimed_block : (t t' : TableId) (v : View) (n w b : ℕ) (seat : SeatFacts) (board : BoardFacts) → seat_of t v ≡ seat → board_of t' n w ≡ board → IsSeatOf board seat → IsSound v
    → 0 < times b seat.view.claims → b < n
claimed_block t t' v n w b seat board s e here sound some_time_claimed =
    let mine : 0 < times b v.claims = inside_view (λ (z : View). 0 < times b z.claims) t v seat s some_time_claimed in
    let below : b < v.blocks = All-contains (λ (k : ℕ). k < v.blocks) v.claims b sound.blocks (some_time b v.claims mine) in
    let size : v.blocks ≡ seat.view.blocks = ap (λ (z : SeatFacts). z.view.blocks) s in
    let same = here.blocks in
    let size' : n ≡ board.blocks = ap (λ (z : BoardFacts). z.blocks) e in omega arith
