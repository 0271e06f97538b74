use Rattle.std.proofs.Common.{◌≤◌, length, take, sym, ◌∙◌, ap, subst}
use Rattle.std.specs.Char.{is_ascii_digit}
use Rattle.std.specs.Str.Parse.{AllDigits}
use Rattle.std.proofs.lemmas.List.Sums.{prefix_len-le-length}
use Rattle.smc_num.proofs.SpellingLemmas.{front_digits}
use Rattle.smc_num.proofs.fraction.spelling.split_digits.Goals as goal

pub split_at-requires : goal.split_at-requires
split_at-requires c = subst (λ n. n ≤ length c.args.text.now) (sym c.count_digits.ensures) (prefix_len-le-length is_ascii_digit c.args.text.now)

pub returns-clause-digits : goal.returns-clause-digits
returns-clause-digits c =
    subst (AllDigits 10) (sym (c.split_at.ensures.front ∙ ap (λ n. take n c.args.text.now) c.count_digits.ensures)) (front_digits c.args.text.now)
