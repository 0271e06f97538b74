-- What is known stays so, and a new state has a row that says nothing.
use Rattle.std.proofs.Common.{◌≡◌, length, refl, sym, ◌∙◌, arith}
use Rattle.one_trace.proofs.KnownLemmas.{known_same, known_longer, adds_none, adds_one}
use Rattle.one_trace.proofs.known.Known.number_of.Goals as goal

pub returns-then-len-clause-known : goal.returns-then-len-clause-known
returns-then-len-clause-known c = λ job known fits.
    let before : c.len.result ≡ length c.args.self.now.table.states = omega (arith, c.len.ensures, c.args.self.now.many) in
    let after : c.len.result ≡ length c.number_of-number.new.self.states = c.if-len.true ∙ c.len-2.ensures in
    known_same job c.args.self.now _ c.number_of-number.ensures.width
    (adds_none c.args.self.now.table.states c.number_of-number.new.self.states c.args.state.now c.len.result c.number_of-number.ensures.states before after)
    refl known

pub returns-clause-known : goal.returns-clause-known
returns-clause-known c = λ job known fits.
    let before : c.len.result ≡ length c.args.self.now.table.states = omega (arith, c.len.ensures, c.args.self.now.many) in
    known_longer job c.args.self.now _ c.args.state.now c.number_of-number.ensures.width c.args.self.now.many fits
    (adds_one c.args.self.now.table.states c.number_of-number.new.self.states c.args.state.now c.number_of-number.ensures.states
    (λ same. c.if-len.false (before ∙ same ∙ sym c.len-2.ensures)))
    c.push_reserved.ensures.items known
