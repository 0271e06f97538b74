-- A new state is the last one, and there are no more states than there is room for.
use Rattle.std.proofs.Common.{◌≡◌, ℕ, ◌+◌, ◌≤◌, List, ◌∷◌, [], ◌++◌, length, sym, ap, ◌∙◌, subst, arith}
use Rattle.std.specs.Prelude.{ℤ, Some, slice_get}
use Rattle.std.proofs.Common.{inr}
use Rattle.state_table.specs.Table.{Table, states_of, room_of}
use Rattle.state_table.proofs.StatesLemmas.{states-append, slice_get-written, length-states}
use Rattle.state_table.proofs.table.StateTable.number_of.Goals as goal

-- the room holds the states that stand there
within : (table : Table) (width count room : ℕ) (words : List ℤ) → record { width = width; states = states_of width count words } ≡ table
    → room ≡ room_of width → count ≤ room → length table.states ≤ room_of table.width
within table width count room words view is fits =
    subst (λ (t : Table). length t.states ≤ room_of t.width) view
    (subst (λ (n : ℕ). n ≤ room_of width) (sym (length-states width count words)) (subst (λ (n : ℕ). count ≤ n) is fits))

pub returns-else-self-clause-states : goal.returns-else-self-clause-states
returns-else-self-clause-states c =
    let items : c.extend_from_slice.new.self.items ≡ c.self.inside.words.items ++ c.args.state.now = rw c.unwrap.ensures at c.extend_from_slice.ensures.items in
    let old : states_of c.self.inside.width c.self.inside.count c.self.inside.words.items ≡ c.args.self.now.states = ap (λ (t : Table). t.states) c.self.view_is in
    let long : length c.args.state.now ≡ c.self.inside.width = c.requires ∙ sym (ap (λ (t : Table). t.width) c.self.view_is) in
    inr (ap (states_of c.self.inside.width (c.self.inside.count + 1)) items
    ∙ states-append c.self.inside.width c.self.inside.count c.self.inside.words.items c.args.state.now c.self.invariant.2 long
    ∙ ap (λ (ss : List (List ℤ)). ss ++ (c.args.state.now ∷ [])) old)

pub returns-else-self-clause-number : goal.returns-else-self-clause-number
returns-else-self-clause-number c =
    let items : c.extend_from_slice.new.self.items ≡ c.self.inside.words.items ++ c.args.state.now = rw c.unwrap.ensures at c.extend_from_slice.ensures.items in
    let long : length c.args.state.now ≡ c.self.inside.width = c.requires ∙ sym (ap (λ (t : Table). t.width) c.self.view_is) in
    ap (λ (ws : List ℤ). slice_get (states_of c.self.inside.width (c.self.inside.count + 1) ws) c.self.inside.count) items
    ∙ slice_get-written c.self.inside.width c.self.inside.count c.self.inside.words.items c.args.state.now c.self.invariant.2 long

pub returns-else-self-clause-room : goal.returns-else-self-clause-room
returns-else-self-clause-room c =
    let many : length (states_of c.self.inside.width (c.self.inside.count + 1) c.extend_from_slice.new.self.items) ≡ c.self.inside.count + 1 =
    length-states c.self.inside.width (c.self.inside.count + 1) c.extend_from_slice.new.self.items in
    let more : c.self.inside.count + 1 ≤ c.self.inside.room = omega (arith, c.if-self.false, c.self.invariant.1) in
    subst (λ (n : ℕ). n ≤ room_of c.self.inside.width) (sym many) (subst (λ (n : ℕ). c.self.inside.count + 1 ≤ n) c.self.invariant.0 more)

pub returns-then-self-clause-room : goal.returns-then-self-clause-room
returns-then-self-clause-room c =
    within c.args.self.now c.self.inside.width c.self.inside.count c.self.inside.room c.self.inside.words.items c.self.view_is c.self.invariant.0 c.self.invariant.1

pub returns-in-Met-clause-room : goal.returns-in-Met-clause-room
returns-in-Met-clause-room c =
    within c.args.self.now c.self.inside.width c.self.inside.count c.self.inside.room c.self.inside.words.items c.self.view_is c.self.invariant.0 c.self.invariant.1

pub returns-in-Crowded-clause-room : goal.returns-in-Crowded-clause-room
returns-in-Crowded-clause-room c =
    within c.args.self.now c.self.inside.width c.self.inside.count c.self.inside.room c.self.inside.words.items c.self.view_is c.self.invariant.0 c.self.invariant.1
