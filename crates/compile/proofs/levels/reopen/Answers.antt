use Rattle.std.proofs.Common.{List, [], ◌∷◌, ◌++◌, sym, ap, ◌∙◌, rules}
use Rattle.diagram.specs.declared.edges.Edge.{Edge}
use Rattle.compile.proofs.Slots.{last_split, reopened, ended}
use Rattle.compile.specs.Vectors.{items}
use Rattle.compile.proofs.levels.reopen.Goals as goal

pub returns-then-last-to : goal.returns-then-last-to
returns-then-last-to c high = reopened (items c.args.draft.now) (items c.shorten.new.self) c.in-Some.last.now high c.args.to c.if-last-to.true
    (last_split (items c.args.draft.now) c.in-Some.last.now (search rules) ∙ ap (λ (z : List Edge). z ++ c.in-Some.last.now ∷ []) (sym c.shorten.ensures))

pub returns-else-last-to : goal.returns-else-last-to
returns-else-last-to c high = ended (items c.args.draft.now) c.in-Some.last.now high c.args.to c.if-last-to.false (search rules)
