use Rattle.std.proofs.Common.{rules}
use Rattle.compile.proofs.Slots.{grown}
use Rattle.compile.specs.Vectors.{items}
use Rattle.compile.proofs.levels.Level.append.Goals as goal

pub invariant_of-self-2 : goal.invariant_of-self-2
invariant_of-self-2 c =
    let L = c.args.self.now in
    let g = grown (items L.edges) (items c.try_extend_from_slice.new.self) (items L.slots) (items c.push.new.self) c.args.edges.now c.len-start.result
    L.within L.sum (search rules) c.len-start.ensures.value c.push.ensures in
    record { within = g.within; sum = g.sum }

pub returns : goal.returns
returns c =
    let L = c.args.self.now in
    let g = grown (items L.edges) (items c.try_extend_from_slice.new.self) (items L.slots) (items c.push.new.self) c.args.edges.now c.len-start.result
    L.within L.sum (search rules) c.len-start.ensures.value c.push.ensures in
    (g.nodes, c.len-node.ensures.count)
