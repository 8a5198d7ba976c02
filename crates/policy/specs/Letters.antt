-- Which bytes can be a word.
use Rattle.std.specs.Prelude.{ℕ, ◌<◌, ◌≤◌, List, length, ◌≢◌, slice_index}

-- No byte of the list is this one.
abbrev pub Lacks : ℕ → List ℕ → Type 0
Lacks byte bytes = (k : ℕ) → k < length bytes → slice_index bytes k ≢ byte

-- A word has 1 to 16 bytes, and none of them is a comma (44) or a line feed (10).
abbrev pub IsWord : List ℕ → Type 0
IsWord bytes = (1 ≤ length bytes) × (length bytes ≤ 16) × Lacks 44 bytes × Lacks 10 bytes
