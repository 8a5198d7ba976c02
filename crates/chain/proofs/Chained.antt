-- The keys of a chain are all different, and a key of a table is found in that table alone.
use Rattle.std.proofs.Common.{◌≡◌, ℕ, zero, suc, ◌+◌, ◌-◌, ◌^◌, ◌<◌, ◌≤◌, cond, eqb, ◌≢◌, List, [], ◌∷◌, ◌++◌, length, get_or, Some, None, sym, ◌∙◌, subst, add-zero, arith, pow_pos, pow_mono}
use Rattle.diagram.specs.Diagrams.{Node, Level, Diagram, Runs, next}
use Rattle.diagram.specs.Blocks.{Block}
use Rattle.diagram.specs.Keys.{key}
use Rattle.diagram.specs.Chains.{chain, rows_of_edge, rows_of_level, rows_from}
use Rattle.store.specs.declared.row.Row.{Row}
use Rattle.store.specs.Rows.{find}
use Rattle.chain.specs.Finds.{Absent, Distinct, Limits, Whole, Sized, ChainDistinct, SidesApart, FewNodes, ReducedSized}
use Rattle.chain.specs.Tables.{block_of, Tile, tiles, Tiled, row_length}
use Rattle.chain.proofs.Keyed.{key_injective, Every, every_both, every_absent, distinct_both, find_left, find_right}
use Rattle.chain.proofs.Tiling.{rows_of, Faithful, tiled_end, later_absent, rows_of_tiles, node_tiled, one_row}

tiles_every : (P : ℕ → Type 0) (make : Block → ℕ) (w lo : ℕ) (ts : List Tile) → Tiled w lo ts
    → ((b : Block) → b.len ≤ w → b.value < 2 ^ w → P (make b)) → Every P (rows_of make ts)
tiles_every P make w lo [] h f = tt
tiles_every P make w lo (t ∷ ts) h f =
    let p : 0 < 2 ^ (w - t.block.len) = pow_pos (w - t.block.len) in
    let e : lo + 2 ^ (w - t.block.len) ≤ 2 ^ w = tiled_end w (lo + 2 ^ (w - t.block.len)) ts h.3 in
    (f t.block h.1 (omega (arith, h.0)), tiles_every P make w (lo + 2 ^ (w - t.block.len)) ts h.3 f)

tiles_distinct : (make : Block → ℕ) (w lo : ℕ) (ts : List Tile) → Faithful make w → Tiled w lo ts → Distinct (rows_of make ts)
tiles_distinct make w lo [] f h = tt
tiles_distinct make w lo (t ∷ ts) f h =
    let p : 0 < 2 ^ (w - t.block.len) = pow_pos (w - t.block.len) in
    let e : lo + 2 ^ (w - t.block.len) ≤ 2 ^ w = tiled_end w (lo + 2 ^ (w - t.block.len)) ts h.3 in (
      later_absent make w (lo + 2 ^ (w - t.block.len)) ts f h.3 t.block h.1 (omega (arith, h.0)) (omega (arith, h.0)),
      tiles_distinct make w (lo + 2 ^ (w - t.block.len)) ts f h.3,
    )

table_every : (P : ℕ → Type 0) (make : Block → ℕ) (w : ℕ) (node : Node) → Runs (2 ^ w - 1) 0 node
    → ((b : Block) → b.len ≤ w → b.value < 2 ^ w → P (make b)) → Every P (rows_of_edge make w 0 node)
table_every P make w node r f =
    subst (λ (z : List Row). Every P z) (sym (rows_of_tiles make w 0 node)) (tiles_every P make w 0 (tiles w 0 node) (node_tiled w 0 node r) f)

table_distinct : (make : Block → ℕ) (w : ℕ) (node : Node) → Faithful make w → Runs (2 ^ w - 1) 0 node → Distinct (rows_of_edge make w 0 node)
table_distinct make w node f r =
    subst (λ (z : List Row). Distinct z) (sym (rows_of_tiles make w 0 node)) (tiles_distinct make w 0 (tiles w 0 node) f (node_tiled w 0 node r))

-- numbers of a block of a field of at most 32 bits
pub limits : (s l k w : ℕ) (b : Block) → s < 4 → l < 8 → k < 256 → w ≤ 32 → b.len ≤ w → b.value < 2 ^ w → Limits s l k b
limits s l k w b a c e lw lb vb =
    let p : 2 ^ w ≤ 2 ^ 32 = pow_mono lw in
    record { side = a; level = c; node = e; len = omega arith; value = omega arith }

pub faithful : (s l k w : ℕ) → s < 4 → l < 8 → k < 256 → w ≤ 32 → Faithful (key s l k) w
faithful s l k w a c e lw b d lb ld vb vd q =
    let z = key_injective s s l l k k b d (limits s l k w b a c e lw lb vb) (limits s l k w d a c e lw ld vd) q in
    (z.3, z.4)

level_every : (P : ℕ → Type 0) (side w level k : ℕ) (L : Level) → Whole w L
    → ((j : ℕ) (b : Block) → k ≤ j → j < k + length L → b.len ≤ w → b.value < 2 ^ w → P (key side level j b))
    → Every P (rows_of_level side w level k L)
level_every P side w level k [] h f = tt
level_every P side w level k (n ∷ ns) h f =
    every_both P (rows_of_edge (key side level k) w 0 n) (rows_of_level side w level (k + 1) ns)
    (table_every P (key side level k) w n h.0 (λ b lb vb. f k b (omega arith) (omega arith) lb vb))
    (level_every P side w level (k + 1) ns h.1 (λ j b l m. f j b (omega arith) (omega arith)))

pub rows_every : (P : ℕ → Type 0) (side : ℕ) (ws : List ℕ) (level : ℕ) (D : Diagram) → Sized ws D
    → ((l j w : ℕ) (b : Block) → level ≤ l → l < level + length ws → j < 256 → w ≤ 32 → b.len ≤ w → b.value < 2 ^ w → P (key side l j b))
    → Every P (rows_from side ws level D)
rows_every P side [] level [] h f = tt
rows_every P side [] level (L ∷ D) h f = absurd h
rows_every P side (w ∷ ws) level [] h f = tt
rows_every P side (w ∷ ws) level (L ∷ D) h f =
    every_both P (rows_of_level side w level 0 L) (rows_from side ws (level + 1) D)
    (level_every P side w level 0 L h.2 (λ j b l m. f level j w b (omega arith) (omega arith) (omega (arith, h.1)) h.0))
    (rows_every P side ws (level + 1) D h.3 (λ l j v b m n. f l j v b (omega arith) (omega arith)))

level_distinct : (side w level k : ℕ) (L : Level) → side < 4 → level < 8 → w ≤ 32 → k + length L ≤ 256 → Whole w L
    → Distinct (rows_of_level side w level k L)
level_distinct side w level k [] a c lw e h = tt
level_distinct side w level k (n ∷ ns) a c lw e h =
    distinct_both (rows_of_edge (key side level k) w 0 n) (rows_of_level side w level (k + 1) ns)
    (table_distinct (key side level k) w n (faithful side level k w a c (omega arith) lw) h.0)
    (level_distinct side w level (k + 1) ns a c lw (omega arith) h.1)
    (table_every (λ q. Absent (rows_of_level side w level (k + 1) ns) q) (key side level k) w n h.0
    (λ b lb vb. every_absent (key side level k b) (rows_of_level side w level (k + 1) ns)
    (level_every (λ q. key side level k b ≢ q) side w level (k + 1) ns h.1
    (λ j d l m ld vd q.
    let z : k ≡ j = (key_injective side side level level k j b d (limits side level k w b a c (omega arith) lw lb vb) (limits side level j w d a c (omega arith) lw ld vd) q).2 in
    omega arith))))

rows_distinct : (side : ℕ) (ws : List ℕ) (level : ℕ) (D : Diagram) → side < 4 → level + length ws ≤ 8 → Sized ws D
    → Distinct (rows_from side ws level D)
rows_distinct side [] level [] a c h = tt
rows_distinct side [] level (L ∷ D) a c h = tt
rows_distinct side (w ∷ ws) level [] a c h = tt
rows_distinct side (w ∷ ws) level (L ∷ D) a c h =
    distinct_both (rows_of_level side w level 0 L) (rows_from side ws (level + 1) D)
    (level_distinct side w level 0 L a (omega arith) h.0 (omega (arith, h.1)) h.2)
    (rows_distinct side ws (level + 1) D a (omega arith) h.3)
    (level_every (λ q. Absent (rows_from side ws (level + 1) D) q) side w level 0 L h.2
    (λ k b lk mk lb vb. every_absent (key side level k b) (rows_from side ws (level + 1) D)
    (rows_every (λ q. key side level k b ≢ q) side ws (level + 1) D h.3
    (λ l j v d m n lj lv ld vd q.
    let z : level ≡ l = (key_injective side side level l k j b d (limits side level k w b a (omega arith) (omega (arith, h.1)) h.0 lb vb) (limits side l j v d a (omega arith) lj lv ld vd) q).1 in
    omega arith))))

pub chain_distinct : ChainDistinct
chain_distinct side ws D a l h = rows_distinct side ws 1 D a (omega arith) h

pub sides_apart : SidesApart
sides_apart side other ws D level node b ne a l h m =
    every_absent (key other level node b) (chain side ws D)
    (rows_every (λ q. key other level node b ≢ q) side ws 1 D h
    (λ k j v d lk mk lj lv ld vd q. ne (sym (key_injective other side level k node j b d m (limits side k j v d a (omega arith) lj lv ld vd) q).0)))

-- a key of a table is found in that table

level_find : (side w level k : ℕ) (L : Level) (j : ℕ) (b : Block) → side < 4 → level < 8 → w ≤ 32 → k + length L ≤ 256 → Whole w L
    → j < length L → b.len ≤ w → b.value < 2 ^ w
    → find (rows_of_level side w level k L) (key side level (k + j) b) ≡ find (rows_of_edge (key side level (k + j)) w 0 (get_or L j [])) (key side level (k + j) b)
level_find side w level k [] j b a c lw e h l lb vb = absurd (omega arith)
level_find side w level k (n ∷ ns) zero b a c lw e h l lb vb =
    rw add-zero
    (find_left (rows_of_edge (key side level k) w 0 n) (rows_of_level side w level (k + 1) ns) (key side level k b)
    (every_absent (key side level k b) (rows_of_level side w level (k + 1) ns)
    (level_every (λ q. key side level k b ≢ q) side w level (k + 1) ns h.1
    (λ i d m u ld vd q.
    let z : k ≡ i = (key_injective side side level level k i b d (limits side level k w b a c (omega arith) lw lb vb) (limits side level i w d a c (omega arith) lw ld vd) q).2 in
    omega arith))))
level_find side w level k (n ∷ ns) (suc j) b a c lw e h l lb vb =
    let s : k + suc j ≡ (k + 1) + j = omega arith in
    rw s
    (find_right (rows_of_edge (key side level k) w 0 n) (rows_of_level side w level (k + 1) ns) (key side level ((k + 1) + j) b)
    (every_absent (key side level ((k + 1) + j) b) (rows_of_edge (key side level k) w 0 n)
    (table_every (λ q. key side level ((k + 1) + j) b ≢ q) (key side level k) w n h.0
    (λ d ld vd q.
    let z : (k + 1) + j ≡ k = (key_injective side side level level ((k + 1) + j) k b d (limits side level ((k + 1) + j) w b a c (omega arith) lw lb vb) (limits side level k w d a c (omega arith) lw ld vd) q).2 in
    omega arith)))
    ∙ level_find side w level (k + 1) ns j b a c lw (omega arith) h.1 (omega arith) lb vb)

pub whole_at : (w : ℕ) (L : Level) → Whole w L → (j : ℕ) → j < length L → Runs (2 ^ w - 1) 0 (get_or L j [])
whole_at w [] h j l = absurd (omega arith)
whole_at w (n ∷ ns) h zero l = h.0
whole_at w (n ∷ ns) h (suc j) l = whole_at w ns h.1 j (omega arith)

pub sized_at : (ws : List ℕ) (D : Diagram) → Sized ws D → (f : ℕ) → f < length ws
    → (get_or ws f 0 ≤ 32) × (length (get_or D f []) ≤ 256) × Whole (get_or ws f 0) (get_or D f [])
sized_at [] D h f l = absurd (omega arith)
sized_at (w ∷ ws) [] h f l = absurd h
sized_at (w ∷ ws) (L ∷ D) h zero l = (h.0, h.1, h.2)
sized_at (w ∷ ws) (L ∷ D) h (suc f) l = sized_at ws D h.3 f (omega arith)

rows_find : (side : ℕ) (ws : List ℕ) (level : ℕ) (D : Diagram) (f j : ℕ) (b : Block) → side < 4 → level + length ws ≤ 8 → Sized ws D
    → f < length ws → j < length (get_or D f []) → b.len ≤ get_or ws f 0 → b.value < 2 ^ get_or ws f 0
    → find (rows_from side ws level D) (key side (level + f) j b)
    ≡ find (rows_of_edge (key side (level + f) j) (get_or ws f 0) 0 (get_or (get_or D f []) j [])) (key side (level + f) j b)
rows_find side [] level D f j b a c h l lj lb vb = absurd (omega arith)
rows_find side (w ∷ ws) level [] f j b a c h l lj lb vb = absurd h
rows_find side (w ∷ ws) level (L ∷ D) zero j b a c h l lj lb vb =
    rw add-zero
    (find_left (rows_of_level side w level 0 L) (rows_from side ws (level + 1) D) (key side level j b)
    (every_absent (key side level j b) (rows_from side ws (level + 1) D)
    (rows_every (λ q. key side level j b ≢ q) side ws (level + 1) D h.3
    (λ m i v d u n li lv ld vd q.
    let z : level ≡ m = (key_injective side side level m j i b d (limits side level j w b a (omega arith) (omega (arith, h.1)) h.0 lb vb) (limits side m i v d a (omega arith) li lv ld vd) q).1 in
    omega arith)))
    ∙ subst (λ i. find (rows_of_level side w level 0 L) (key side level i b) ≡ find (rows_of_edge (key side level i) w 0 (get_or L j [])) (key side level i b)) (omega arith)
    (level_find side w level 0 L j b a (omega arith) h.0 (omega (arith, h.1)) h.2 lj lb vb))
rows_find side (w ∷ ws) level (L ∷ D) (suc f) j b a c h l lj lb vb =
    let s : level + suc f ≡ (level + 1) + f = omega arith in
    let z = sized_at ws D h.3 f (omega arith) in
    let lim : Limits side ((level + 1) + f) j b = limits side ((level + 1) + f) j (get_or ws f 0) b a (omega arith) (omega (arith, z.1)) z.0 lb vb in
    subst (λ i. find (rows_of_level side w level 0 L ++ rows_from side ws (level + 1) D) (key side i j b) ≡ find (rows_of_edge (key side i j) (get_or ws f 0) 0 (get_or (get_or D f []) j [])) (key side i j b)) (sym s)
    (find_right (rows_of_level side w level 0 L) (rows_from side ws (level + 1) D) (key side ((level + 1) + f) j b)
    (every_absent (key side ((level + 1) + f) j b) (rows_of_level side w level 0 L)
    (level_every (λ q. key side ((level + 1) + f) j b ≢ q) side w level 0 L h.2
    (λ i d m u ld vd q.
    let y : (level + 1) + f ≡ level = (key_injective side side ((level + 1) + f) level j i b d lim (limits side level i w d a (omega arith) (omega (arith, h.1)) h.0 ld vd) q).1 in
    omega arith)))
    ∙ rows_find side ws (level + 1) D f j b a (omega arith) h.3 (omega arith) lj lb vb)

-- one search, for a value's block of length n, in the table that it stands at
pub chain_row : (side : ℕ) (ws : List ℕ) (D : Diagram) → side < 4 → length ws < 8 → Sized ws D
    → (f j x n : ℕ) → f < length ws → j < length (get_or D f []) → x < 2 ^ get_or ws f 0 → n ≤ get_or ws f 0
    → find (chain side ws D) (key side (1 + f) j (block_of (get_or ws f 0) n x))
    ≡ cond (eqb n (row_length (get_or ws f 0) (get_or (get_or D f []) j []) x)) (Some (next (get_or (get_or D f []) j []) x)) None
chain_row side ws D a c h f j x n l lj lx ln =
    let z = sized_at ws D h f l in
    let p : 0 < 2 ^ (get_or ws f 0 - n) = pow_pos (get_or ws f 0 - n) in
    rows_find side ws 1 D f j (block_of (get_or ws f 0) n x) a (omega arith) h l lj ln (omega arith)
    ∙ one_row (key side (1 + f) j) (get_or ws f 0) (get_or (get_or D f []) j [])
    (faithful side (1 + f) j (get_or ws f 0) a (omega arith) (omega (arith, z.1)) z.0)
    (whole_at (get_or ws f 0) (get_or D f []) z.2 j lj) x n lx ln

whole_from : (w : ℕ) (L : Level) → ((k : ℕ) → k < length L → Runs (2 ^ w - 1) 0 (get_or L k [])) → Whole w L
whole_from w [] h = tt
whole_from w (n ∷ ns) h = (h 0 (omega arith), whole_from w ns (λ k l. h (suc k) (omega arith)))

sized_from : (ws : List ℕ) (D : Diagram) → length D ≡ length ws → FewNodes ws D
    → ((f k : ℕ) → f < length ws → k < length (get_or D f []) → Runs (2 ^ get_or ws f 0 - 1) 0 (get_or (get_or D f []) k [])) → Sized ws D
sized_from [] [] e n r = tt
sized_from [] (L ∷ D) e n r = absurd (omega arith)
sized_from (w ∷ ws) [] e n r = absurd (omega arith)
sized_from (w ∷ ws) (L ∷ D) e n r = (
  (n 0 (omega arith)).0,
  (n 0 (omega arith)).1,
  whole_from w L (λ k l. r 0 k (omega arith) l),
  sized_from ws D (omega arith) (λ f l. n (suc f) (omega arith)) (λ f k l. r (suc f) k (omega arith)),
)

pub reduced_sized : ReducedSized
reduced_sized ws d D R n = sized_from ws D R.levels n R.edges
