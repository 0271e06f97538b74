-- The row of a number is that of its state.
use Rattle.std.proofs.Common.{ℕ, ◌<◌, length, subst, sym}
use Rattle.std.specs.Prelude.{Option, IfSome}
use Rattle.std.proofs.lemmas.Option.{slice_get_read}
use Rattle.one_trace.specs.Numbers.{IsAt}
use Rattle.one_trace.proofs.known.Known.row_at.Goals as goal

pub returns-in-Some : goal.returns-in-Some
returns-in-Some c = λ job written state known at.
    let states = c.args.self.now.table.states in
    let within : c.in-Some.number < length states = subst (λ (o : Option ℕ). IfSome o (λ n. n < length states)) c.in-Some.is c.requires in
    known.rows c.in-Some.number state c.index.result.now
    (subst (λ (o : Option ℕ). IsAt states o written state) c.in-Some.is at)
    (slice_get_read c.args.self.now.rows.items (length states) c.in-Some.number c.index.result.now (sym c.args.self.now.many) within c.index.ensures)
