-- What rows say of a key.
use Rattle.std.specs.Prelude.{◌≡◌, ℕ, ◌-◌, ◌^◌, ◌<◌, ◌≤◌, ◌≢◌, List, [], ◌∷◌, length, Option, slice_index, slice_index_or}
use Rattle.diagram.specs.Diagrams.{Level, Diagram, Runs, Reduced}
use Rattle.diagram.specs.Blocks.{Block}
use Rattle.diagram.specs.Keys.{key}
use Rattle.diagram.specs.Chains.{chain}
use Rattle.store.specs.declared.row.Row.{Row}

-- no row has the key
abbrev pub Absent : List Row → ℕ → Type 0
Absent [] q = Unit {0}
Absent (x ∷ xs) q = (q ≢ x.key) × Absent xs q

-- no key stands twice
abbrev pub Distinct : List Row → Type 0
Distinct [] = Unit {0}
Distinct (x ∷ xs) = Absent xs x.key × Distinct xs

-- the numbers that a key has room for
pub record Limits (s l k : ℕ) (b : Block) : Type 0 where
  pub side : s < 4
  pub level : l < 8
  pub node : k < 256
  pub len : b.len ≤ 32
  pub value : b.value < 2 ^ 32

abbrev pub KeyInjective : Type 0
KeyInjective =
    (s t l m j k : ℕ) (b c : Block) → Limits s l j b → Limits t m k c → key s l j b ≡ key t m k c
    → (s ≡ t) × (l ≡ m) × (j ≡ k) × (b.len ≡ c.len) × (b.value ≡ c.value)

-- every node of a level has edges from 0 to the last value
abbrev pub Whole : ℕ → Level → Type 0
Whole w [] = Unit {0}
Whole w (n ∷ ns) = Runs (2 ^ w - 1) 0 n × Whole w ns

-- the levels of a diagram that a key has room for
abbrev pub Sized : List ℕ → Diagram → Type 0
Sized [] [] = Unit {0}
Sized [] (L ∷ D) = ⊥
Sized (w ∷ ws) [] = ⊥
Sized (w ∷ ws) (L ∷ D) = (w ≤ 32) × (length L ≤ 256) × Whole w L × Sized ws D

abbrev pub ChainDistinct : Type 0
ChainDistinct = (side : ℕ) (ws : List ℕ) (D : Diagram) → side < 4 → length ws < 8 → Sized ws D → Distinct (chain side ws D)

-- no level has more nodes than a key has room for
abbrev pub FewNodes : List ℕ → Diagram → Type 0
FewNodes ws D = (f : ℕ) → f < length ws → (slice_index ws f ≤ 32) × (length (slice_index_or D f []) ≤ 256)

abbrev pub ReducedSized : Type 0
ReducedSized = (ws : List ℕ) (d : List ℕ → Option ℕ) (D : Diagram) → Reduced ws d D → FewNodes ws D → Sized ws D

-- no key of one side is a key of another
abbrev pub SidesApart : Type 0
SidesApart = (side other : ℕ) (ws : List ℕ) (D : Diagram) (level node : ℕ) (b : Block)
    → side ≢ other → side < 4 → length ws < 8 → Sized ws D → Limits other level node b → Absent (chain side ws D) (key other level node b)
