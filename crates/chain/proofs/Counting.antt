-- How many rows a chain has.
use Rattle.std.proofs.Common.{◌≡◌, ℕ, suc, ◌+◌, ◌-◌, ◌^◌, ◌<◌, ◌≤◌, List, [], ◌∷◌, map, length, get_or, refl, ap, arith, length-append}
use Rattle.std.proofs.lemmas.List.{length-map}
use Rattle.diagram.specs.Diagrams.{Node, Level, Diagram, Runs}
use Rattle.diagram.specs.Blocks.{Block, cover}
use Rattle.diagram.specs.Keys.{key}
use Rattle.diagram.specs.Chains.{rows_of_edge, rows_of_level, rows_from}
use Rattle.store.specs.declared.row.Row.{Row}
use Rattle.diagram.specs.States.{total}
use Rattle.diagram.proofs.Covers.{cover_step}
use Rattle.chain.specs.Counts.{edges, node_blocks, level_blocks, blocks, Counts}

node_count : (make : Block → ℕ) (w lo : ℕ) (node : Node) → length (rows_of_edge make w lo node) ≡ node_blocks w lo node
node_count make w lo [] = refl
node_count make w lo (e ∷ es) =
    let f : Block → Row = λ (b : Block). record { key = make b; result = e.to } in
    let a = length-append (map f (cover w lo e.high)) (rows_of_edge make w (e.high + 1) es) in
    let b = length-map (cover w lo e.high) f in
    let c = node_count make w (e.high + 1) es in
    omega (arith, a, b, c)

level_count : (side w level k : ℕ) (L : Level) → length (rows_of_level side w level k L) ≡ level_blocks w L
level_count side w level k [] = refl
level_count side w level k (n ∷ ns) =
    let a = length-append (rows_of_edge (key side level k) w 0 n) (rows_of_level side w level (k + 1) ns) in
    let b = node_count (key side level k) w 0 n in
    let c = level_count side w level (k + 1) ns in
    omega (arith, a, b, c)

rows_count : (side : ℕ) (ws : List ℕ) (level : ℕ) (D : Diagram) → length (rows_from side ws level D) ≡ blocks ws D
rows_count side ws level [] = refl
rows_count side [] level (L ∷ D) = refl
rows_count side (w ∷ ws) level (L ∷ D) =
    let a = length-append (rows_of_level side w level 0 L) (rows_from side ws (level + 1) D) in
    let b = level_count side w level 0 L in
    let c = rows_count side ws (level + 1) D in
    omega (arith, a, b, c)

cover_some : (w lo hi : ℕ) → lo ≤ hi → 0 < length (cover w lo hi)
cover_some w lo hi l = let q = ap length (cover_step w lo hi l) in omega (arith, q)

node_enough : (top w lo : ℕ) (node : Node) → Runs top lo node → length node ≤ node_blocks w lo node
node_enough top w lo [] r = absurd r
node_enough top w lo (e ∷ []) r = omega (arith, cover_some w lo e.high r.0)
node_enough top w lo (e ∷ (f ∷ es)) r =
    omega (arith, cover_some w lo e.high r.0, node_enough top w (e.high + 1) (f ∷ es) r.2)

level_enough : (w : ℕ) (L : Level) → ((k : ℕ) → k < length L → Runs (2 ^ w - 1) 0 (get_or L k [])) → total L ≤ level_blocks w L
level_enough w [] h = omega arith
level_enough w (n ∷ ns) h =
    omega (arith, node_enough (2 ^ w - 1) w 0 n (h 0 (omega arith)), level_enough w ns (λ k l. h (suc k) (omega arith)))

rows_enough : (ws : List ℕ) (D : Diagram) → length D ≡ length ws
    → ((f k : ℕ) → f < length ws → k < length (get_or D f []) → Runs (2 ^ get_or ws f 0 - 1) 0 (get_or (get_or D f []) k [])) → edges D ≤ blocks ws D
rows_enough ws [] e h = omega arith
rows_enough [] (L ∷ D) e h = absurd (omega arith)
rows_enough (w ∷ ws) (L ∷ D) e h =
    omega (arith, level_enough w L (λ k l. h 0 k (omega arith) l), rows_enough ws D (omega arith) (λ f k l. h (suc f) k (omega arith)))

pub counts : Counts
counts = record { rows = λ side ws D. rows_count side ws 1 D; enough = λ ws d D R. rows_enough ws D R.levels R.edges }
