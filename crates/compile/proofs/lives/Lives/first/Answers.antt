use Rattle.std.proofs.Common.{◌≡◌, ℕ, ◌<◌, ◌&&◌, true, false, [], length, sym, refl, ap, arith}
use Rattle.std.proofs.lemmas.Bool.{and_from}
use Rattle.diagram.specs.Masks.{bit}
use Rattle.compile.specs.Lives.{takes}
use Rattle.compile.proofs.Living.{where_none, where_hit}
use Rattle.compile.proofs.lives.Lives.first.Goals as goal

pub returns-then-first-self-clause-value : goal.returns-then-first-self-clause-value
returns-then-first-self-clause-value c =
    let lives = c.args.self.now in
    let k = c.least-first.result in
    let least = c.least-first.ensures in
    let here : takes lives.rules.now c.args.live.bits 5 [] k ≡ true = and_from (bit c.args.live.bits k) true (least.is (omega (arith, lives.few))) refl in
    sym (where_hit (takes lives.rules.now c.args.live.bits 5 []) (length lives.rules.now) k (omega arith) here (λ j l. ap (λ b. b && true) (least.before j l)))

pub returns-else-first-self-clause-value : goal.returns-else-first-self-clause-value
returns-else-first-self-clause-value c =
    let lives = c.args.self.now in
    sym (where_none (takes lives.rules.now c.args.live.bits 5 []) (length lives.rules.now) (λ j l. ap (λ b. b && true) (c.least-first.ensures.before j (omega arith))))
