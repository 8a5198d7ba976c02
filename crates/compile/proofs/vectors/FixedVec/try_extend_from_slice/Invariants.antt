use Rattle.std.proofs.Common.{◌≡◌, ◌++◌, take}
use Rattle.compile.specs.Vectors.{items}
use Rattle.compile.proofs.vectors.FixedVec.try_extend_from_slice.Given as goal

-- The items before this one are appended.
abbrev pub invariant-loop-item : goal.invariant-loop-item
invariant-loop-item g l = items l.self ≡ items l.initial.self ++ take l.item-index l.more
