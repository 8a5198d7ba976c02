use Rattle.std.proofs.Common.{sym, ap, ◌∙◌}
use Rattle.policy.specs.Rules.{lies}
use Rattle.policy.proofs.Meeting.{lies_there, lies_past}
use Rattle.policy.proofs.rules.Rule.admits.Goals as goal

pub returns-in-Some : goal.returns-in-Some
returns-in-Some c =
    let found = c.in-Some.ensures.lookup.3 in
    c.holds.ensures
    ∙ ap (λ range. lies range c.args.value) (found.1 c.in-Some.range.now)
    ∙ sym (lies_there c.args.self.now.ranges c.args.field c.args.value c.in-Some.range.now found.0)

pub returns-in-None : goal.returns-in-None
returns-in-None c =
    sym (lies_past c.args.self.now.ranges c.args.field c.args.value c.in-None.ensures.lookup.3)
