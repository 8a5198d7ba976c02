-- Rows that are written one after another.
use Rattle.std.proofs.Common.{◌≡◌, ℕ, ◌+◌, ◌-◌, ◌^◌, ◌<◌, ◌≤◌, Bool, true, false, ◌||◌, eqb, List, [], ◌∷◌, ◌++◌, length, get_or, drop, sym, refl, ap, ◌∙◌, subst, append_assoc, arith, length-append, pow_pos}
use Rattle.std.proofs.lemmas.List.{length-map, drop_more}
use Rattle.store.specs.declared.row.Row.{Row}
use Rattle.diagram.specs.Blocks.{Block, cover}
use Rattle.diagram.specs.Masks.{bit, With}
use Rattle.chain.specs.Tables.{Tile, occurs, tiles as tiles_from, table as table_tiles}
use Rattle.diagram.specs.declared.edges.Edge.{Edge}
use Rattle.diagram.specs.Diagrams.{Node, Runs}
use Rattle.diagram.specs.Chains.{rows_of_edge}
use Rattle.diagram.proofs.Unique.{runs_top}
use Rattle.compile.specs.declared.rows.Table.{Table}
use Rattle.compile.specs.declared.blocks.Block.{Block as Found}
use Rattle.compile.specs.Pieces.{First}
use Rattle.compile.specs.Writing.{key_in, rows_of, tiles_of, Extends}

-- Some rows and tiles were written and others are left; together they are all.
pub record Filled (before after : List Row) (from at : ℕ) (left : List Row) (tiles : List Tile) (all : List Row) (every : List Tile) : Type 0 where
  pub rows : after ++ left ≡ before ++ all
  pub lengths : (n : ℕ) → (bit at n || occurs tiles n) ≡ (bit from n || occurs every n)

or_swap : (a b c : Bool) → ((a || b) || c) ≡ (b || (a || c))
or_swap true true c = refl
or_swap true false c = refl
or_swap false true c = refl
or_swap false false c = refl

-- one row more
filled_more : (before after : List Row) (from at : ℕ) (row : Row) (tile : Tile) (left : List Row) (tiles : List Tile) (all : List Row) (every : List Tile) (more : ℕ)
    → With at tile.block.len more → Filled before after from at (row ∷ left) (tile ∷ tiles) all every
    → Filled before (after ++ row ∷ []) from more left tiles all every
filled_more before after from at row tile left tiles all every more w F = record {
  rows = append_assoc after (row ∷ []) left ∙ F.rows;
  lengths = λ n. ap (λ z. z || occurs tiles n) (w n) ∙ or_swap (eqb tile.block.len n) (bit at n) (occurs tiles n) ∙ F.lengths n;
}

or_none : (b : Bool) → (b || false) ≡ b
or_none true = refl
or_none false = refl

rows_length : (t : Table) (to : ℕ) (bs : List Block) → length (rows_of t to bs) ≡ length bs
rows_length t to bs = let f : Block → Row = λ (b : Block). record { key = key_in t b; result = to } in length-map bs f

-- there is no room for a part of what is left
no_room : (before after : List Row) (from at : ℕ) (part left : List Row) (tiles : List Tile) (all : List Row) (every : List Tile) (n : ℕ)
    → length part ≡ n → 1024 < length after + n → Filled before after from at (part ++ left) tiles all every → 1024 < length before + length all
no_room before after from at part left tiles all every n p a F =
    let q = ap length F.rows in
    let q1 = length-append after (part ++ left) in
    let q2 = length-append part left in
    let q3 = length-append before all in
    omega (arith, q, q1, q2, q3)

-- the block that is found next in an edge
module _ (before after : List Row) (from at : ℕ) (t : Table) (to w low next hi : ℕ) (b : Found) (F : First next hi w b)
    (filled : Filled before after from at (rows_of t to (cover w next hi)) (tiles_of to (cover w next hi)) (rows_of t to (cover w low hi)) (tiles_of to (cover w low hi))) where
  opened : Filled before after from at (record { key = key_in t (record { len = b.length; value = b.value }); result = to } ∷ rows_of t to (cover w (b.last + 1) hi))
      (record { block = record { len = b.length; value = b.value }; to = to } ∷ tiles_of to (cover w (b.last + 1) hi)) (rows_of t to (cover w low hi)) (tiles_of to (cover w low hi))
  opened =
      let P : List Block → Type 0 = λ bs. Filled before after from at (rows_of t to bs) (tiles_of to bs) (rows_of t to (cover w low hi)) (tiles_of to (cover w low hi)) in
      subst P F.begins filled

  pub edge_full : length after ≡ 1024 → 1024 < length before + length (cover w low hi)
  edge_full full =
      let q = rows_length t to (cover w low hi) in
      let r = no_room before after from at (record { key = key_in t (record { len = b.length; value = b.value }); result = to } ∷ []) _ _ (rows_of t to (cover w low hi)) _ 1 refl (omega arith) opened in
      omega (arith, q, r)

  pub edge_more : (row : Row) (more : ℕ) → row ≡ record { key = key_in t (record { len = b.length; value = b.value }); result = to } → With at b.length more
      → Filled before (after ++ row ∷ []) from more
      (rows_of t to (cover w (b.last + 1) hi)) (tiles_of to (cover w (b.last + 1) hi)) (rows_of t to (cover w low hi)) (tiles_of to (cover w low hi))
  edge_more row more k m =
      let P : Row → Type 0 = λ z. Filled before (after ++ z ∷ []) from more
      (rows_of t to (cover w (b.last + 1) hi)) (tiles_of to (cover w (b.last + 1) hi)) (rows_of t to (cover w low hi)) (tiles_of to (cover w low hi)) in
      subst P (sym k)
      (filled_more before after from at (record { key = key_in t (record { len = b.length; value = b.value }); result = to })
      (record { block = record { len = b.length; value = b.value }; to = to }) _ _ _ _ more m opened)

-- edges that begin at low and go to the end of the field
abbrev pub From : ℕ → ℕ → Node → Type 0
From w low [] = low ≡ 2 ^ w
From w low (e ∷ es) = Runs (2 ^ w - 1) low (e ∷ es)

abbrev pub no_edge : Edge
no_edge = record { high = 0; to = 0 }

from_edge : (w low : ℕ) (e : Edge) (es : Node) → From w low (e ∷ es) → (low ≤ e.high) × (e.high < 2 ^ w) × From w (e.high + 1) es
from_edge w low e [] r = (let p : 0 < 2 ^ w = pow_pos w in (r.0, omega (arith, r.1), omega (arith, r.1)))
from_edge w low e (f ∷ es) r = (let p : 0 < 2 ^ w = pow_pos w in (r.0, omega (arith, runs_top (2 ^ w - 1) (e.high + 1) (f ∷ es) r.2), r.2))

pub edge_at : (w low i : ℕ) (es : Node) → i < length es → From w low (drop i es)
    → (low ≤ (get_or es i no_edge).high) × ((get_or es i no_edge).high < 2 ^ w) × From w ((get_or es i no_edge).high + 1) (drop (i + 1) es)
edge_at w low i es l r = from_edge w low (get_or es i no_edge) (drop (i + 1) es) (subst (λ (z : Node). From w low z) (drop_more es i no_edge l) r)

occurs_append : (xs ys : List Tile) (n : ℕ) → occurs (xs ++ ys) n ≡ (occurs xs n || occurs ys n)
occurs_append [] ys n = refl
occurs_append (x ∷ xs) ys n = ap (λ b. eqb x.block.len n || b) (occurs_append xs ys n) ∙ or_assoc (eqb x.block.len n) (occurs xs n) (occurs ys n)
  where
    or_assoc : (a b c : Bool) → (a || (b || c)) ≡ ((a || b) || c)
    or_assoc true b c = refl
    or_assoc false b c = refl

-- a part of what was left is written
filled_part : (before after later : List Row) (from at to : ℕ) (part left : List Row) (tiles some : List Tile) (all : List Row) (every : List Tile)
    → Filled before after from at (part ++ left) (tiles ++ some) all every → Extends after later at to part tiles → Filled before later from to left some all every
filled_part before after later from at to part left tiles some all every F E = record {
  rows = ap (λ (z : List Row). z ++ left) E.added ∙ append_assoc after part left ∙ F.rows;
  lengths = λ n. ap (λ b. b || occurs some n) (E.lengths n) ∙ or_move (bit at n) (occurs tiles n) (occurs some n)
      ∙ ap (λ b. bit at n || b) (sym (occurs_append tiles some n)) ∙ F.lengths n;
}
  where
    or_move : (a b c : Bool) → ((a || b) || c) ≡ (a || (b || c))
    or_move true b c = refl
    or_move false b c = refl

-- one edge of a node
module _ (before after : List Row) (from at : ℕ) (t : Table) (w low i : ℕ) (es : Node) (l : i < length es)
    (F : Filled before after from at (rows_of_edge (key_in t) w low (drop i es)) (tiles_from w low (drop i es)) (rows_of_edge (key_in t) w 0 es) (table_tiles w es)) where
  edge_open : Filled before after from at
      (rows_of t (get_or es i no_edge).to (cover w low (get_or es i no_edge).high) ++ rows_of_edge (key_in t) w ((get_or es i no_edge).high + 1) (drop (i + 1) es))
      (tiles_of (get_or es i no_edge).to (cover w low (get_or es i no_edge).high) ++ tiles_from w ((get_or es i no_edge).high + 1) (drop (i + 1) es))
      (rows_of_edge (key_in t) w 0 es) (table_tiles w es)
  edge_open =
      let P : Node → Type 0 = λ z. Filled before after from at (rows_of_edge (key_in t) w low z) (tiles_from w low z) (rows_of_edge (key_in t) w 0 es) (table_tiles w es) in
      subst P (drop_more es i no_edge l) F

  pub node_more : (later : List Row) (to : ℕ) → Extends after later at to (rows_of t (get_or es i no_edge).to (cover w low (get_or es i no_edge).high)) (tiles_of (get_or es i no_edge).to (cover w low (get_or es i no_edge).high))
      → Filled before later from to (rows_of_edge (key_in t) w ((get_or es i no_edge).high + 1) (drop (i + 1) es)) (tiles_from w ((get_or es i no_edge).high + 1) (drop (i + 1) es)) (rows_of_edge (key_in t) w 0 es) (table_tiles w es)
  node_more later to E = filled_part before after later from at to _ _ _ _ _ _ edge_open E

  pub node_full : 1024 < length after + length (cover w low (get_or es i no_edge).high) → 1024 < length before + length (rows_of_edge (key_in t) w 0 es)
  node_full a =
      no_room before after from at (rows_of t (get_or es i no_edge).to (cover w low (get_or es i no_edge).high)) _ _ (rows_of_edge (key_in t) w 0 es) _ (length (cover w low (get_or es i no_edge).high))
      (rows_length t (get_or es i no_edge).to (cover w low (get_or es i no_edge).high)) a edge_open
