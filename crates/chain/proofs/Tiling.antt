-- Blocks that tile a field.
use Rattle.std.proofs.Common.{◌≡◌, ℕ, ◌+◌, ◌-◌, ◌%◌, ◌^◌, ◌<◌, ◌≤◌, true, false, cond, eqb, ltb, leb, List, [], ◌∷◌, ◌++◌, map, Some, None, sym, refl, ap, ◌∙◌, subst, inl, inr, mod-lt, mod-eq_of_lt, arith, pow_pos}
use native.Mathlib.Nat.{add-mod}
use Rattle.std.proofs.lemmas.Bool.{eq-eqb, ne_eqb, lt-ltb, le-ltb, cases_eq, cases_lt, or_left, or_right, le-leb, lt-leb}
use Rattle.diagram.specs.Diagrams.{Node, Runs, next}
use Rattle.diagram.specs.Blocks.{Block, cover, Covers}
use Rattle.diagram.specs.Chains.{rows_of_edge}
use Rattle.store.specs.declared.row.Row.{Row}
use Rattle.diagram.proofs.Covers.{cover_covers}
use Rattle.diagram.proofs.Unique.{next_first, next_later}
use Rattle.store.specs.Rows.{find}
use Rattle.chain.specs.Finds.{Absent}
use Rattle.chain.specs.Tables.{block_of, Tile, tiles, Tiled, hit_length, hit_result, occurs, OneRow}
use Rattle.chain.proofs.Keyed.{find_absent}

-- the block of a value

pub block_of_inside : (w n x lo : ℕ) → lo % 2 ^ (w - n) ≡ 0 → lo ≤ x → x < lo + 2 ^ (w - n) → x - x % 2 ^ (w - n) ≡ lo
block_of_inside w n x lo a l m =
    let p : 0 < 2 ^ (w - n) = pow_pos (w - n) in
    let d : x - lo < 2 ^ (w - n) = omega arith in
    let s : lo + (x - lo) ≡ x = omega arith in
    let e : (lo + (x - lo)) % 2 ^ (w - n) ≡ (lo % 2 ^ (w - n) + (x - lo) % 2 ^ (w - n)) % 2 ^ (w - n) = add-mod lo (x - lo) (2 ^ (w - n)) in
    let f : (x - lo) % 2 ^ (w - n) ≡ x - lo = mod-eq_of_lt d in
    let g : lo % 2 ^ (w - n) + (x - lo) % 2 ^ (w - n) ≡ x - lo = omega arith in
    let h : x % 2 ^ (w - n) ≡ x - lo = ap (λ z. z % 2 ^ (w - n)) (sym s) ∙ e ∙ ap (λ z. z % 2 ^ (w - n)) g ∙ f in
    omega arith

-- a value lies in its block
pub block_holds : (w n x : ℕ) → (x - x % 2 ^ (w - n) ≤ x) × (x < (x - x % 2 ^ (w - n)) + 2 ^ (w - n))
block_holds w n x =
    let p : x % 2 ^ (w - n) < 2 ^ (w - n) = mod-lt x (pow_pos (w - n)) in
    (omega arith, omega arith)

-- rows of tiles

abbrev pub rows_of : (Block → ℕ) → List Tile → List Row
rows_of make [] = []
rows_of make (t ∷ ts) = record { key = make t.block; result = t.to } ∷ rows_of make ts

abbrev pub Faithful : (Block → ℕ) → ℕ → Type 0
Faithful make w = (b c : Block) → b.len ≤ w → c.len ≤ w → b.value < 2 ^ w → c.value < 2 ^ w → make b ≡ make c → (b.len ≡ c.len) × (b.value ≡ c.value)

pub tiled_end : (w lo : ℕ) (ts : List Tile) → Tiled w lo ts → lo ≤ 2 ^ w
tiled_end w lo [] t = omega (arith, t)
tiled_end w lo (t ∷ ts) h =
    let ih : lo + 2 ^ (w - t.block.len) ≤ 2 ^ w = tiled_end w (lo + 2 ^ (w - t.block.len)) ts h.3 in
    omega arith

-- blocks that begin later
pub later_absent : (make : Block → ℕ) (w lo : ℕ) (ts : List Tile) → Faithful make w → Tiled w lo ts
    → (b : Block) → b.len ≤ w → b.value < 2 ^ w → b.value < lo → Absent (rows_of make ts) (make b)
later_absent make w lo [] f h b lb vb l = tt
later_absent make w lo (t ∷ ts) f h b lb vb l =
    let p : 0 < 2 ^ (w - t.block.len) = pow_pos (w - t.block.len) in
    let v : t.block.value ≡ lo = h.0 in
    let e : lo + 2 ^ (w - t.block.len) ≤ 2 ^ w = tiled_end w (lo + 2 ^ (w - t.block.len)) ts h.3 in (
      (λ q. let z : b.value ≡ t.block.value = (f b t.block lb h.1 vb (omega arith) q).1 in omega arith),
      later_absent make w (lo + 2 ^ (w - t.block.len)) ts f h.3 b lb vb (omega arith),
    )

pub tiled_find : (make : Block → ℕ) (w lo : ℕ) (ts : List Tile) → Faithful make w → Tiled w lo ts → (x n : ℕ) → lo ≤ x → x < 2 ^ w → n ≤ w
    → find (rows_of make ts) (make (block_of w n x)) ≡ cond (eqb n (hit_length w ts x)) (Some (hit_result w ts x)) None
tiled_find make w lo [] f h x n l lx ln = absurd (omega (arith, h))
tiled_find make w lo (t ∷ ts) f h x n l lx ln =
    let v : t.block.value ≡ lo = h.0 in
    let e : lo + 2 ^ (w - t.block.len) ≤ 2 ^ w = tiled_end w (lo + 2 ^ (w - t.block.len)) ts h.3 in
    let p : 0 < 2 ^ (w - t.block.len) = pow_pos (w - t.block.len) in
    let i : (x - x % 2 ^ (w - n) ≤ x) × (x < (x - x % 2 ^ (w - n)) + 2 ^ (w - n)) = block_holds w n x in
    elim (cases_lt x (lo + 2 ^ (w - t.block.len))) [
      | inl m ↦
          let u : ltb x (t.block.value + 2 ^ (w - t.block.len)) ≡ true = lt-ltb _ _ (omega arith) in
          rw u
          (elim (cases_eq n t.block.len) [
            | inl s ↦
                let b : x - x % 2 ^ (w - t.block.len) ≡ t.block.value = block_of_inside w t.block.len x lo h.2 l m ∙ sym v in
                let k : make (block_of w n x) ≡ make t.block =
                ap (λ z. make (block_of w z x)) s ∙ ap (λ z. make (record { len = t.block.len; value = z })) b in
                rw (eq-eqb _ _ k, eq-eqb _ _ s) refl
            | inr s ↦
                let k : make (block_of w n x) ≡ make t.block → ⊥ = λ q. s (f (block_of w n x) t.block ln h.1 (omega arith) (omega arith) q).0 in
                rw (ne_eqb _ _ k, ne_eqb _ _ s) (find_absent (rows_of make ts) (make (block_of w n x)) (later_absent make w (lo + 2 ^ (w - t.block.len)) ts f h.3 (block_of w n x) ln (omega arith) (omega arith)))
          ])
      | inr m ↦
          let u : ltb x (t.block.value + 2 ^ (w - t.block.len)) ≡ false = le-ltb _ _ (omega arith) in
          let k : make (block_of w n x) ≡ make t.block → ⊥ = λ q.
          let z = f (block_of w n x) t.block ln h.1 (omega arith) (omega arith) q in
          let y : 2 ^ (w - n) ≡ 2 ^ (w - t.block.len) = ap (λ j. 2 ^ (w - j)) z.0 in
          omega (arith, z.1, y) in
          rw (u, ne_eqb _ _ k) (tiled_find make w (lo + 2 ^ (w - t.block.len)) ts f h.3 x n m lx ln)
    ]

-- the tiles of a node

pub rows_of_tiles : (make : Block → ℕ) (w lo : ℕ) (node : Node) → rows_of_edge make w lo node ≡ rows_of make (tiles w lo node)
rows_of_tiles make w lo [] = refl
rows_of_tiles make w lo (e ∷ es) =
    ap (λ (r : List Row). map (λ (b : Block). record { key = make b; result = e.to }) (cover w lo e.high) ++ r) (rows_of_tiles make w (e.high + 1) es)
    ∙ sym (go (cover w lo e.high))
  where
    go : (bs : List Block) → rows_of make (map (λ (b : Block). record { block = b; to = e.to }) bs ++ tiles w (e.high + 1) es)
        ≡ map (λ (b : Block). record { key = make b; result = e.to }) bs ++ rows_of make (tiles w (e.high + 1) es)
    go [] = refl
    go (b ∷ bs) = ap (λ (r : List Row). record { key = make b; result = e.to } ∷ r) (go bs)

abbrev led : ℕ → List Block → List Tile
led t bs = map (λ (b : Block). record { block = b; to = t }) bs

covers_tiled : (w lo hi t : ℕ) (bs : List Block) (ts : List Tile) → Covers w lo hi bs → lo ≤ hi + 1 → Tiled w (hi + 1) ts → Tiled w lo (led t bs ++ ts)
covers_tiled w lo hi t [] ts c l h = subst (λ z. Tiled w z ts) (omega arith) h
covers_tiled w lo hi t (b ∷ bs) ts c l h =
    (c.0, c.1.0, c.1.1, covers_tiled w (lo + 2 ^ (w - b.len)) hi t bs ts c.3 c.1.2 h)

pub node_tiled : (w lo : ℕ) (node : Node) → Runs (2 ^ w - 1) lo node → Tiled w lo (tiles w lo node)
node_tiled w lo [] r = absurd r
node_tiled w lo (e ∷ []) r =
    let p : 0 < 2 ^ w = pow_pos w in
    let z : e.high + 1 ≡ 2 ^ w = omega (arith, r.1) in
    covers_tiled w lo e.high e.to (cover w lo e.high) [] (cover_covers w lo e.high) (omega arith) z
node_tiled w lo (e ∷ (g ∷ es)) r =
    covers_tiled w lo e.high e.to (cover w lo e.high) (tiles w (e.high + 1) (g ∷ es)) (cover_covers w lo e.high) (omega arith)
    (node_tiled w (e.high + 1) (g ∷ es) r.2)

-- where a hit leads

covers_result : (w lo hi t x : ℕ) (bs : List Block) (ts : List Tile) → Covers w lo hi bs → lo ≤ x
    → hit_result w (led t bs ++ ts) x ≡ cond (leb x hi) t (hit_result w ts x)
covers_result w lo hi t x [] ts c l = let u : leb x hi ≡ false = lt-leb x hi (omega arith) in rw u refl
covers_result w lo hi t x (b ∷ bs) ts c l =
    let v : b.value ≡ lo = c.0 in
    elim (cases_lt x (lo + 2 ^ (w - b.len))) [
      | inl m ↦
          let u : ltb x (b.value + 2 ^ (w - b.len)) ≡ true = lt-ltb _ _ (omega arith) in
          let k : leb x hi ≡ true = le-leb x hi (omega (arith, c.1.2)) in
          rw (u, k) refl
      | inr m ↦
          let u : ltb x (b.value + 2 ^ (w - b.len)) ≡ false = le-ltb _ _ (omega arith) in
          rw u (covers_result w (lo + 2 ^ (w - b.len)) hi t x bs ts c.3 m)
    ]

pub hit_next : (w lo x : ℕ) (node : Node) → Runs (2 ^ w - 1) lo node → lo ≤ x → x < 2 ^ w → hit_result w (tiles w lo node) x ≡ next node x
hit_next w lo x [] r l m = absurd r
hit_next w lo x (e ∷ []) r l m =
    let k : leb x e.high ≡ true = le-leb x e.high (omega (arith, r.1)) in
    covers_result w lo e.high e.to x (cover w lo e.high) [] (cover_covers w lo e.high) l ∙ rw k (sym (next_first e [] x (omega (arith, r.1))))
hit_next w lo x (e ∷ (g ∷ es)) r l m =
    covers_result w lo e.high e.to x (cover w lo e.high) (tiles w (e.high + 1) (g ∷ es)) (cover_covers w lo e.high) l
    ∙ elim (cases_lt e.high x) [
      | inl n ↦ (let k : leb x e.high ≡ false = lt-leb x e.high n in rw k (hit_next w (e.high + 1) x (g ∷ es) r.2 (omega arith) m ∙ sym (next_later e (g ∷ es) x n)))
      | inr n ↦ (let k : leb x e.high ≡ true = le-leb x e.high n in rw k (sym (next_first e (g ∷ es) x n)))
    ]

pub one_row : OneRow
one_row make w node f r x n lx ln =
    ap (λ (z : List Row). find z (make (block_of w n x))) (rows_of_tiles make w 0 node)
    ∙ tiled_find make w 0 (tiles w 0 node) f (node_tiled w 0 node r) x n (omega arith) lx ln
    ∙ ap (λ z. cond (eqb n (hit_length w (tiles w 0 node) x)) (Some z) None) (hit_next w 0 x node r (omega arith) lx)

-- the length of the hit occurs in the table, and is at most the width
pub hit_occurs : (w lo : ℕ) (ts : List Tile) → Tiled w lo ts → (x : ℕ) → lo ≤ x → x < 2 ^ w
    → (occurs ts (hit_length w ts x) ≡ true) × (hit_length w ts x ≤ w)
hit_occurs w lo [] h x l m = absurd (omega (arith, h))
hit_occurs w lo (t ∷ ts) h x l m =
    let v : t.block.value ≡ lo = h.0 in
    elim (cases_lt x (lo + 2 ^ (w - t.block.len))) [
      | inl i ↦
          (let u : ltb x (t.block.value + 2 ^ (w - t.block.len)) ≡ true = lt-ltb _ _ (omega arith) in
          rw u (or_left (eqb t.block.len t.block.len) (occurs ts t.block.len) (eq-eqb _ _ refl), h.1))
      | inr i ↦
          (let u : ltb x (t.block.value + 2 ^ (w - t.block.len)) ≡ false = le-ltb _ _ (omega arith) in
          let ih = hit_occurs w (lo + 2 ^ (w - t.block.len)) ts h.3 x i m in
          rw u (or_right (eqb t.block.len (hit_length w ts x)) (occurs ts (hit_length w ts x)) ih.0, ih.1))
    ]
