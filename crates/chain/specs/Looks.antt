-- A look-up: where it stands after some searches, and what they lead to.
use Rattle.std.specs.Prelude.{◌≡◌, ℕ, zero, suc, ◌+◌, ◌<◌, ◌≤◌, Bool, true, cond, List, [], ◌∷◌, length, take, Some, None, Option, slice_index, slice_index_or}
use Rattle.diagram.specs.Diagrams.{Node, Diagram, next, walk, Header, Reduced}
use Rattle.diagram.specs.Blocks.{Block}
use Rattle.diagram.specs.Keys.{key}
use Rattle.diagram.specs.Chains.{chain, fields, drawn}
use Rattle.store.specs.Rows.{find}
use Rattle.chain.specs.Finds.{Limits, Sized}
use Rattle.chain.specs.Tables.{block_of, table, table_lengths, row_length, tries, occurs, place}

-- the longest length below a bound that occurs
abbrev pub longest : (ℕ → Bool) → ℕ → Option ℕ
longest occ zero = None
longest occ (suc n) = cond (occ n) (Some n) (longest occ n)

-- node j of level f (levels from 0 here)
abbrev pub node_at : Diagram → ℕ → ℕ → Node
node_at D f j = slice_index_or (slice_index_or D f []) j []

abbrev pub width : List ℕ → ℕ → ℕ
width ws f = slice_index ws f

-- the lengths that occur in the table of a node
abbrev pub occurs_at : List ℕ → Diagram → ℕ → ℕ → ℕ → Bool
occurs_at ws D f j = occurs (table (width ws f) (node_at D f j))

-- the searches that the tables on a header's way take, each up to its hit
abbrev pub spent : List ℕ → Diagram → ℕ → List ℕ → ℕ
spent ws D j [] = 0
spent [] D j (x ∷ h) = 0
spent (w ∷ ws) [] j (x ∷ h) = 0
spent (w ∷ ws) (L ∷ D) j (x ∷ h) = tries w (slice_index_or L j []) x + spent ws D (next (slice_index_or L j []) x) h

-- how many lengths occur in the tables on a header's way
abbrev pub occurring : List ℕ → Diagram → ℕ → List ℕ → ℕ
occurring ws D j [] = 0
occurring [] D j (x ∷ h) = 0
occurring (w ∷ ws) [] j (x ∷ h) = 0
occurring (w ∷ ws) (L ∷ D) j (x ∷ h) = length (table_lengths w (slice_index_or L j [])) + occurring ws D (next (slice_index_or L j []) x) h

-- fields of these widths have so many lengths
abbrev pub most : List ℕ → ℕ
most [] = 0
most (w ∷ ws) = suc w + most ws

-- A search answers as the chain of this diagram does, for each key of the side.
pub record Loaded (ask : ℕ → Option ℕ) (s : ℕ) (ws : List ℕ) (d : List ℕ → Option ℕ) (D : Diagram) : Type 0 where
  pub side : s < 4
  pub some : 0 < length ws
  pub few : length ws < 8
  pub sized : Sized ws D
  pub reduced : Reduced ws d D
  pub holds : (l k : ℕ) (b : Block) → Limits s l k b → ask (key s l k b) ≡ find (chain s ws D) (key s l k b)

-- After k searches the look-up of h is open, at node j of level f, and its next search is for the length n.
pub record Stands (ws : List ℕ) (D : Diagram) (h : List ℕ) (k f j n : ℕ) : Type 0 where
  pub level : f < length ws
  pub node : j ≡ walk D 0 (take f h)
  pub fits : n ≤ width ws f
  pub occurring : occurs_at ws D f j n ≡ true
  -- the row that is looked for is no longer than n
  pub ahead : row_length (width ws f) (node_at D f j) (slice_index h f) ≤ n
  pub searches : k ≡ spent ws D 0 (take f h) + place (table_lengths (width ws f) (node_at D f j)) n

-- the key of the search that is made where a look-up stands
abbrev pub sought : ℕ → List ℕ → List ℕ → ℕ → ℕ → ℕ → ℕ
sought side ws h f j n = key side (1 + f) j (block_of (width ws f) n (slice_index h f))

pub record Steps (ask : ℕ → Option ℕ) (side : ℕ) (ws : List ℕ) (d : List ℕ → Option ℕ) (D : Diagram) (h : List ℕ) : Type 0 where
  -- a look-up begins at the longest length of the first table
  pub begins : (n : ℕ) × (longest (occurs_at ws D 0 0) (suc (width ws 0)) ≡ Some n) × Stands ws D h 0 0 0 n
  -- a miss: there is a next shorter length
  pub miss : (k f j n : ℕ) → Stands ws D h k f j n → ask (sought side ws h f j n) ≡ None
      → (m : ℕ) × (longest (occurs_at ws D f j) n ≡ Some m) × Stands ws D h (suc k) f j m
  -- a hit leads to the longest length of the next table
  pub hit : (k f j n r : ℕ) → Stands ws D h k f j n → ask (sought side ws h f j n) ≡ Some r → suc f < length ws
      → (m : ℕ) × (longest (occurs_at ws D (suc f) r) (suc (width ws (suc f))) ≡ Some m) × Stands ws D h (suc k) (suc f) r m
  -- a hit in the last table is the decision, after as many searches as the tables take
  pub ends : (k f j n r : ℕ) → Stands ws D h k f j n → ask (sought side ws h f j n) ≡ Some r → suc f ≡ length ws
      → (d h ≡ Some r) × (suc k ≡ spent ws D 0 h)
  -- each table on the header's way is entered at its longest length, after the searches of those before it
  pub enters : (f : ℕ) → f < length ws
      → (m : ℕ) × (longest (occurs_at ws D f (walk D 0 (take f h))) (suc (width ws f)) ≡ Some m)
      × Stands ws D h (spent ws D 0 (take f h)) f (walk D 0 (take f h)) m
  pub leads : (k f j n r : ℕ) → Stands ws D h k f j n → ask (sought side ws h f j n) ≡ Some r
      → (r ≡ walk D 0 (take (suc f) h)) × (suc k ≡ spent ws D 0 (take (suc f) h))
  -- and is there
  pub inside : (f : ℕ) → f < length ws → walk D 0 (take f h) < length (slice_index_or D f [])
  -- an open look-up has made fewer
  pub open_fewer : (k f j n : ℕ) → Stands ws D h k f j n → k < spent ws D 0 h
  pub bounded : (spent ws D 0 h ≤ occurring ws D 0 h) × (occurring ws D 0 h ≤ most ws)

abbrev pub LookUp : Type 0
LookUp = (ask : ℕ → Option ℕ) (side : ℕ) (ws : List ℕ) (d : List ℕ → Option ℕ) (D : Diagram) (h : List ℕ)
    → Loaded ask side ws d D → Header ws h → Steps ask side ws d D h

abbrev pub Most : Type 0
Most = most fields ≡ 109

-- the worked example: codes 0, 29 and 1, after 5, 17 and 5 searches
pub record Worked : Type 0 where
  pub first : spent fields drawn 0 (0x0A010203 ∷ 0xC0A80001 ∷ 4000 ∷ 80 ∷ 6 ∷ []) ≡ 5
  pub second : spent fields drawn 0 (0xC8000001 ∷ 0x01010101 ∷ 53 ∷ 53 ∷ 17 ∷ []) ≡ 17
  pub third : spent fields drawn 0 (0x0A000001 ∷ 0 ∷ 0 ∷ 0 ∷ 6 ∷ []) ≡ 5
  pub codes : walk drawn 0 (0xC8000001 ∷ 0x01010101 ∷ 53 ∷ 53 ∷ 17 ∷ []) ≡ 29
