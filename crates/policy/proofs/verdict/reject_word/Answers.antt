use Rattle.std.proofs.Common.{◌≡◌, ◌+◌, ◌-◌, ◌++◌, codes, decimal, sym, ap, ◌∙◌, arith}
use Rattle.std.proofs.lemmas.Fmt.{decimal_digit}
use Rattle.policy.proofs.Digits.{decimal_teen}
use Rattle.policy.proofs.verdict.reject_word.Goals as goal

pub returns-then-n-lt10 : goal.returns-then-n-lt10
returns-then-n-lt10 c =
    c.word_of.ensures
    ∙ ap (λ ds. codes "reject-" ++ ds) (sym (decimal_digit c.number-n.result c.if-n-lt10.true) ∙ ap decimal c.number-n.ensures)

pub returns-else-n-lt10 : goal.returns-else-n-lt10
returns-else-n-lt10 c =
    let n = c.number-n.result in
    let split : 10 + (n - 10) ≡ c.args.reason.now.n = omega arith in
    c.word_of-else-n-lt10.ensures
    ∙ ap (λ ds. codes "reject-" ++ ds) (sym (decimal_teen (n - 10) (omega (arith, c.args.reason.now.small))) ∙ ap decimal split)
