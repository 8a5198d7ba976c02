-- What vectors of a fixed capacity hold.
use Rattle.std.specs.Prelude.{ℕ, List, take}
use Rattle.compile.specs.declared.vectors.FixedVec.{FixedVec}

-- The items, in order.
abbrev pub items : {T : Type 0} {CAP : ℕ} → FixedVec T CAP → List T
items v = take v.len v.cells
