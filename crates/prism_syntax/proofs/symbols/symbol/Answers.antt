use Rattle.std.proofs.Common.{◌≡◌, refl, sym, subst, arith}
use Rattle.prism_syntax.proofs.SpellingLemmas.{found_at, longest_symbol, some_symbol, last_symbol, Misses}
use Rattle.prism_syntax.proofs.symbols.symbol.Goals as goal

pub returns-in-Some-clause-found : goal.returns-in-Some-clause-found
returns-in-Some-clause-found c =
    longest_symbol c.args.text.now 3 c.in-Some.kind (omega arith) (omega arith) (found_at c.args.text.now c.prefix.result.now 3 c.three_byte_symbol.result _ c.prefix.ensures c.three_byte_symbol.ensures c.in-Some.is)
    (λ m more less. absurd (omega (arith, more, less)))

pub returns-in-Some-clause-none : goal.returns-in-Some-clause-none
returns-in-Some-clause-none c = some_symbol c.args.text.now c.in-Some.kind (returns-in-Some-clause-found c)

pub returns-in-Some-two_byte_symbol-clause-found : goal.returns-in-Some-two_byte_symbol-clause-found
returns-in-Some-two_byte_symbol-clause-found c =
    let no_three : Misses c.args.text.now 3 = sym (found_at c.args.text.now c.prefix.result.now 3 c.three_byte_symbol.result _ c.prefix.ensures c.three_byte_symbol.ensures c.in-None.is) in
    longest_symbol c.args.text.now 2 c.in-Some-two_byte_symbol.kind (omega arith) (omega arith)
    (found_at c.args.text.now c.prefix-in-None.result.now 2 c.two_byte_symbol.result _ c.prefix-in-None.ensures c.two_byte_symbol.ensures c.in-Some-two_byte_symbol.is)
    (λ m more less. let same : 3 ≡ m = omega (arith, more, less) in subst (Misses c.args.text.now) same no_three)

pub returns-in-Some-two_byte_symbol-clause-none : goal.returns-in-Some-two_byte_symbol-clause-none
returns-in-Some-two_byte_symbol-clause-none c = some_symbol c.args.text.now c.in-Some-two_byte_symbol.kind (returns-in-Some-two_byte_symbol-clause-found c)

pub returns-in-None-two_byte_symbol-clause-found : goal.returns-in-None-two_byte_symbol-clause-found
returns-in-None-two_byte_symbol-clause-found c =
    let no_three : Misses c.args.text.now 3 = sym (found_at c.args.text.now c.prefix.result.now 3 c.three_byte_symbol.result _ c.prefix.ensures c.three_byte_symbol.ensures c.in-None.is) in
    let no_two : Misses c.args.text.now 2 =
    sym (found_at c.args.text.now c.prefix-in-None.result.now 2 c.two_byte_symbol.result _ c.prefix-in-None.ensures c.two_byte_symbol.ensures c.in-None-two_byte_symbol.is) in
    (last_symbol c.args.text.now c.one_byte_symbol.result
    (found_at c.args.text.now c.prefix-in-None-two_byte_symbol.result.now 1 c.one_byte_symbol.result _ c.prefix-in-None-two_byte_symbol.ensures c.one_byte_symbol.ensures refl) no_two no_three).0

pub returns-in-None-two_byte_symbol-clause-none : goal.returns-in-None-two_byte_symbol-clause-none
returns-in-None-two_byte_symbol-clause-none c =
    let no_three : Misses c.args.text.now 3 = sym (found_at c.args.text.now c.prefix.result.now 3 c.three_byte_symbol.result _ c.prefix.ensures c.three_byte_symbol.ensures c.in-None.is) in
    let no_two : Misses c.args.text.now 2 =
    sym (found_at c.args.text.now c.prefix-in-None.result.now 2 c.two_byte_symbol.result _ c.prefix-in-None.ensures c.two_byte_symbol.ensures c.in-None-two_byte_symbol.is) in
    (last_symbol c.args.text.now c.one_byte_symbol.result
    (found_at c.args.text.now c.prefix-in-None-two_byte_symbol.result.now 1 c.one_byte_symbol.result _ c.prefix-in-None-two_byte_symbol.ensures c.one_byte_symbol.ensures refl) no_two no_three).1
