use Rattle.std.proofs.Common.{◌≡◌, ℕ, ◌<◌, [], length, get_or}
use Rattle.compile.specs.Levels.{diagram_of}
use Rattle.compile.proofs.places.clear_levels.Given as goal

-- The levels before this one are empty.
abbrev pub invariant-loop-level : goal.invariant-loop-level
invariant-loop-level l = (length l.levels ≡ 5) × ((g : ℕ) → g < l.level-index → length (get_or (diagram_of l.levels) g []) ≡ 0)
