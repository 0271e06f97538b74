-- What is known of a state that is met.
use Rattle.std.proofs.Common.{refl, sym, ap, ◌∙◌, subst}
use Rattle.std.specs.Prelude.{Some, List, slice_get}
use Rattle.std.proofs.lemmas.Option.{slice_get_within}
use Rattle.state_table.specs.Table.{Table}
use Rattle.chain_model.specs.States.{State}
use Rattle.one_trace.specs.declared.known.Known.{Known}
use Rattle.one_trace.specs.Rows.{IsRow}
use Rattle.one_trace.proofs.NumberLemmas.{goes_on_same, goes_on_equal, goes_on_further, keeps_number}
use Rattle.one_trace.proofs.WorkLemmas.{made_again}
use Rattle.one_trace.proofs.meeting.meet.Goals as goal

pub row_at-requires : goal.row_at-requires
row_at-requires c = slice_get_within c.args.work.now.known.table.states c.args.number c.args.work.now.state.items c.requires.state

pub keep-requires : goal.keep-requires
keep-requires c = slice_get_within c.args.work.now.known.table.states c.args.number c.args.work.now.state.items c.requires.state

pub keep-requires-in-Once : goal.keep-requires-in-Once
keep-requires-in-Once c =
    slice_get_within c.row_of-row.new.work.known.table.states c.args.number c.args.work.now.state.items
    (keeps_number c.args.work.now.known.table.states c.row_of-row.new.work.known.table.states c.args.number c.args.work.now.state.items
    c.row_of-row.ensures.states c.requires.state)

pub returns-in-New-clause-work : goal.returns-in-New-clause-work
returns-in-New-clause-work c =
    made_again c.args.job.now c.args.work.now _ refl refl c.requires.work.stepper
    (c.keep.ensures.known c.args.job.now c.args.work.now.state.items c.requires.work.known c.requires.state tt)
    (goes_on_equal c.args.work.now.known.table.states c.keep.new.self.table.states (ap (λ (t : Table). t.states) c.keep.ensures.table))
    refl refl refl refl refl c.requires.work

pub keep_choice-requires-clause-work : goal.keep_choice-requires-clause-work
keep_choice-requires-clause-work c =
    made_again c.args.job.now c.row_of-row.new.work _ refl refl c.row_of-row.ensures.work.stepper
    (c.keep-in-Once.ensures.known c.args.job.now c.args.work.now.state.items c.row_of-row.ensures.work.known
    (keeps_number c.args.work.now.known.table.states c.row_of-row.new.work.known.table.states c.args.number c.args.work.now.state.items
    c.row_of-row.ensures.states c.requires.state) c.row_of-row.ensures.row)
    (goes_on_equal c.row_of-row.new.work.known.table.states c.keep-in-Once.new.self.table.states (ap (λ (t : Table). t.states) c.keep-in-Once.ensures.table))
    refl refl refl refl refl c.row_of-row.ensures.work

pub keep_choice-requires-clause-state : goal.keep_choice-requires-clause-state
keep_choice-requires-clause-state c =
    ap (λ (t : Table). slice_get t.states c.args.number) c.keep-in-Once.ensures.table
    ∙ keeps_number c.args.work.now.known.table.states c.row_of-row.new.work.known.table.states c.args.number c.args.work.now.state.items
    c.row_of-row.ensures.states c.requires.state
    ∙ ap Some (sym c.row_of-row.ensures.written)

pub returns-in-Once-clause-row : goal.returns-in-Once-clause-row
returns-in-Once-clause-row c =
    subst (λ (ss : List State). IsRow c.args.job.now ss c.args.work.now.state.items c.row_of-row.result)
    (sym (ap (λ (k : Known). k.table.states) c.keep_choice.ensures.known ∙ ap (λ (t : Table). t.states) c.keep-in-Once.ensures.table))
    c.row_of-row.ensures.row

pub returns-in-New-clause-states : goal.returns-in-New-clause-states
returns-in-New-clause-states c =
    goes_on_equal c.args.work.now.known.table.states c.keep.new.self.table.states (ap (λ (t : Table). t.states) c.keep.ensures.table)

pub returns-in-Once-clause-states : goal.returns-in-Once-clause-states
returns-in-Once-clause-states c =
    goes_on_further c.args.work.now.known.table.states c.row_of-row.new.work.known.table.states c.keep_choice.new.work.known.table.states
    c.row_of-row.ensures.states
    (goes_on_equal c.row_of-row.new.work.known.table.states c.keep_choice.new.work.known.table.states
    (ap (λ (k : Known). k.table.states) c.keep_choice.ensures.known ∙ ap (λ (t : Table). t.states) c.keep-in-Once.ensures.table))

pub returns-in_default-clause-states : goal.returns-in_default-clause-states
returns-in_default-clause-states c = goes_on_same c.args.work.now.known.table.states

pub returns-in_default-clause-row : goal.returns-in_default-clause-row
returns-in_default-clause-row c = c.row_at.ensures c.args.job.now c.args.work.now.state.items c.args.work.now.state.items c.requires.work.known c.requires.state
