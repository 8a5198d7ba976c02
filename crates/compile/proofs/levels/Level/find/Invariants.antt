use Rattle.std.proofs.Common.{◌≡◌, ℕ, ◌<◌, [], get_or}
use Rattle.compile.specs.Levels.{nodes_of}
use Rattle.compile.proofs.levels.Level.find.Given as goal

-- The nodes before this one have other edges.
abbrev pub invariant-loop-k : goal.invariant-loop-k
invariant-loop-k l = (j : ℕ) → j < l.k → get_or (nodes_of l.self) j [] ≡ l.edges → ⊥
