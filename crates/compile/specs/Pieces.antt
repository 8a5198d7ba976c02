-- The first block of a cover.
use Rattle.std.specs.Prelude.{◌≡◌, ℕ, ◌+◌, ◌≤◌, ◌∷◌}
use Rattle.diagram.specs.Blocks.{cover}
use Rattle.compile.specs.declared.blocks.Block.{Block}

-- The cover begins with this block, and goes on with the cover of what is left.
pub record First (lo hi w : ℕ) (b : Block) : Type 0 where
  pub begins : cover w lo hi ≡ record { len = b.length; value = b.value } ∷ cover w (b.last + 1) hi
  pub from : b.value ≡ lo
  pub ahead : lo ≤ b.last
  pub within : b.last ≤ hi
  pub shorter : b.length ≤ w
