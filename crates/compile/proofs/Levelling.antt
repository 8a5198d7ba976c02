-- The rows of a level's tables, node by node, and of all levels.
use Rattle.std.proofs.Common.{◌≡◌, ℕ, ◌+◌, ◌<◌, ◌≤◌, ◌≢◌, List, [], ◌∷◌, ◌++◌, length, get_or, drop, set, replicate, sym, refl, ap, ◌∙◌, subst, ⊎_elim, append_assoc, arith, length-append}
use Rattle.std.proofs.lemmas.List.{length-map, length-replicate, length-take-le, map-set, get_or-map, drop_more, get_or-set_same, get_or-set_other}
use Rattle.std.proofs.lemmas.Bool.{cases_eq}
use Rattle.store.specs.declared.row.Row.{Row}
use Rattle.policy.specs.Fields.{widths}
use Rattle.diagram.specs.Diagrams.{Node, Diagram}
use Rattle.diagram.specs.Keys.{key}
use Rattle.diagram.specs.Masks.{bit}
use Rattle.chain.specs.Tables.{occurs, table}
use Rattle.diagram.specs.Chains.{rows_of_edge, rows_of_level, rows_from, chain}
use Rattle.compile.specs.declared.levels.Level.{Level}
use Rattle.compile.specs.declared.levels.Slot.{Slot}
use Rattle.compile.specs.Nodes.{node_of}
use Rattle.compile.specs.Levels.{nodes_of, diagram_of}
use Rattle.compile.specs.Writing.{Measured}
use Rattle.compile.proofs.Filling.{no_edge}
use Rattle.compile.proofs.Slots.{no_slot}
use Rattle.compile.specs.Vectors.{items}

-- rows that follow others, and no room for them
pub part_more : (before after later part left all : List Row) → after ++ (part ++ left) ≡ before ++ all → later ≡ after ++ part → later ++ left ≡ before ++ all
part_more before after later part left all F e = ap (λ (z : List Row). z ++ left) e ∙ append_assoc after part left ∙ F

pub part_full : (before after part left all : List Row) → after ++ (part ++ left) ≡ before ++ all → 1024 < length after + length part → 1024 < length before + length all
part_full before after part left all F a =
    let q = ap length F in
    let q1 = length-append after (part ++ left) in
    let q2 = length-append before all in
    let q3 = length-append part left in
    omega (arith, q, q1, q2, q3)

module _ (before after : List Row) (side w level k : ℕ) (nodes : List Node) (l : k < length nodes)
    (F : after ++ rows_of_level side w level k (drop k nodes) ≡ before ++ rows_of_level side w level 0 nodes) where
  pub level_open : after ++ (rows_of_edge (key side level k) w 0 (get_or nodes k []) ++ rows_of_level side w level (k + 1) (drop (k + 1) nodes)) ≡ before ++ rows_of_level side w level 0 nodes
  level_open = ap (λ (z : List Node). after ++ rows_of_level side w level k z) (sym (drop_more nodes k [] l)) ∙ F

-- the lengths of one node more
pub measured_more : (masks : List ℕ) (w k mask : ℕ) (nodes : List Node) → k < length masks → Measured masks w nodes k
    → ((n : ℕ) → bit mask n ≡ occurs (table w (get_or nodes k [])) n) → Measured (set masks k mask) w nodes (k + 1)
measured_more masks w k mask nodes l M h j lj n =
    ⊎_elim
    (λ (e : j ≡ k). let P : ℕ → Type 0 = λ i. bit (get_or (set masks k mask) i 0) n ≡ occurs (table w (get_or nodes i [])) n in
    subst P (sym e) (ap (λ m. bit m n) (get_or-set_same masks k mask 0 l) ∙ h n))
    (λ (e : j ≢ k). ap (λ m. bit m n) (get_or-set_other masks k j mask 0 e) ∙ M j (omega arith) n)
    (cases_eq j k)

-- a level without nodes
abbrev pub no_level : Level
no_level = record {
  edges = record { cells = replicate 1024 no_edge; len = 0; fits = omega arith; full = length-replicate 1024 no_edge };
  slots = record { cells = replicate 256 no_slot; len = 0; fits = omega arith; full = length-replicate 256 no_slot };
  within = λ (k : ℕ) (s : Slot) (l : k < 0). absurd (omega (arith, l));
  sum = refl;
}

-- one level of a chain
module _ (Ls : List Level) (len : length Ls ≡ 5) (field : ℕ) (lf : field < 5) where
  pub level_is : (L : Level) → nodes_of (get_or Ls field L) ≡ get_or (diagram_of Ls) field []
  level_is L = sym (get_or-map nodes_of Ls field L [] (omega arith))

  pub few_nodes : length (get_or (diagram_of Ls) field []) ≤ 256
  few_nodes =
      let L : Level = get_or Ls field no_level in
      let few = length-take-le L.slots.len L.slots.cells (omega (arith, L.slots.fits, L.slots.full)) in
      omega (arith, few, L.slots.fits, length-map (items L.slots) (node_of (items L.edges)), ap length (level_is no_level))

  pub chain_open : (out : List Row) (side : ℕ)
      → out ++ rows_from side (drop field widths) (1 + field) (drop field (diagram_of Ls)) ≡ chain side widths (diagram_of Ls)
      → out ++ (rows_of_level side (get_or widths field 0) (field + 1) 0 (get_or (diagram_of Ls) field []) ++ rows_from side (drop (field + 1) widths) (1 + (field + 1)) (drop (field + 1) (diagram_of Ls)))
      ≡ chain side widths (diagram_of Ls)
  chain_open out side F =
      let ld : field < length (diagram_of Ls) = omega (arith, length-map Ls nodes_of) in
      let a : 1 + field ≡ field + 1 = omega arith in
      let b : field + 1 + 1 ≡ 1 + (field + 1) = omega arith in
      sym (ap (λ (z : List Row). out ++ z)
      (ap (λ (ws : List ℕ). rows_from side ws (1 + field) (drop field (diagram_of Ls))) (drop_more widths field 0 lf)
      ∙ ap (λ (z : Diagram). rows_from side (get_or widths field 0 ∷ drop (field + 1) widths) (1 + field) z) (drop_more (diagram_of Ls) field [] ld)
      ∙ ap (λ n. rows_of_level side (get_or widths field 0) n 0 (get_or (diagram_of Ls) field []) ++ rows_from side (drop (field + 1) widths) (n + 1) (drop (field + 1) (diagram_of Ls))) a
      ∙ ap (λ n. rows_of_level side (get_or widths field 0) (field + 1) 0 (get_or (diagram_of Ls) field []) ++ rows_from side (drop (field + 1) widths) n (drop (field + 1) (diagram_of Ls))) b))
      ∙ F

-- For each of the first k levels it is told which lengths occur in its tables.
abbrev pub Told : List (List ℕ) → Diagram → ℕ → Type 0
Told masks D k = (f : ℕ) → f < k → Measured (get_or masks f []) (get_or widths f 0) (get_or D f []) (length (get_or D f []))

pub told_more : (masks : List (List ℕ)) (D : Diagram) (k : ℕ) (later : List ℕ) → k < length masks → Told masks D k
    → Measured later (get_or widths k 0) (get_or D k []) (length (get_or D k [])) → Told (set masks k later) D (k + 1)
told_more masks D k later l old new f lf =
    ⊎_elim
    (λ (e : f ≡ k).
    let P : ℕ → Type 0 = λ g. Measured (get_or (set masks k later) g []) (get_or widths g 0) (get_or D g []) (length (get_or D g [])) in
    subst P (sym e) (subst (λ (ms : List ℕ). Measured ms (get_or widths k 0) (get_or D k []) (length (get_or D k []))) (sym (get_or-set_same masks k later [] l)) new))
    (λ (e : f ≢ k).
    subst (λ (ms : List ℕ). Measured ms (get_or widths f 0) (get_or D f []) (length (get_or D f []))) (sym (get_or-set_other masks k f later [] e)) (old f (omega arith)))
    (cases_eq f k)

-- one more level is emptied
pub emptied : (Ls : List Level) (k : ℕ) (L : Level) → k < length Ls → nodes_of L ≡ [] → ((g : ℕ) → g < k → length (get_or (diagram_of Ls) g []) ≡ 0)
    → (g : ℕ) → g < k + 1 → length (get_or (diagram_of (set Ls k L)) g []) ≡ 0
emptied Ls k L l bare old g lg =
    let m = map-set nodes_of Ls k L in
    ap (λ (D : Diagram). length (get_or D g [])) m
    ∙ ⊎_elim
    (λ (e : g ≡ k). ap (λ n. length (get_or (set (diagram_of Ls) k (nodes_of L)) n [])) e
    ∙ ap length (get_or-set_same (diagram_of Ls) k (nodes_of L) [] (omega (arith, length-map Ls nodes_of)) ∙ bare))
    (λ (e : g ≢ k). ap length (get_or-set_other (diagram_of Ls) k g (nodes_of L) [] e) ∙ old g (omega arith))
    (cases_eq g k)
