-- Keys of rows.
use Rattle.std.specs.Prelude.{ℕ, ◌+◌, ◌*◌, ◌^◌}
use Rattle.diagram.specs.Blocks.{Block}

-- The side in bits 56 and 57, the level in 48 to 50, the node in 40 to 47, the block's length in 32 to 37 and its
-- least value in 0 to 31.
abbrev pub key : ℕ → ℕ → ℕ → Block → ℕ
key side level node b = side * 2 ^ 56 + (level * 2 ^ 48 + (node * 2 ^ 40 + (b.len * 2 ^ 32 + b.value)))
