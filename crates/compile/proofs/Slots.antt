-- One node more after those that stand one after another.
use Rattle.std.proofs.Common.{◌≡◌, ℕ, zero, suc, ◌+◌, ◌-◌, ◌<◌, ◌≤◌, ◌⊎◌, List, [], ◌∷◌, ◌++◌, map, length, get_or, take, drop, sym, refl, ap, ◌∙◌, subst, inl, inr, arith, length-append, length-drop}
use Rattle.std.specs.Prelude.{◌==◌, ◌&&◌, Some, Option, slice_get}
use Rattle.std.specs.Option.{unwrap_or}
use Rattle.std.proofs.lemmas.Option.{slice_get_within, slice_get-get_or}
use Rattle.std.specs.Bool.{Decides}
use Rattle.std.proofs.lemmas.Bool.Decides.{Decides-and, Decides-eqb}
use Rattle.std.proofs.lemmas.List.{map_push, take-append-le, take_all, take_more, drop_at, drop-append-le, length_push, get_or_append_left, get_or_at}
use Rattle.diagram.specs.declared.edges.Edge.{Edge}
use Rattle.diagram.specs.Diagrams.{Node}
use Rattle.diagram.specs.States.{total}
use Rattle.diagram.specs.Drafts.{added}
use Rattle.diagram.proofs.Added.{added_same, added_other}
use Rattle.diagram.proofs.Bounds.{total_push}
use Rattle.compile.specs.declared.levels.Slot.{Slot}
use Rattle.compile.specs.Nodes.{node_of, nodes_in, Within}
use Rattle.std.proofs.lemmas.Bool.{cases_lt}

abbrev pub no_slot : Slot
no_slot = record { start = 0; count = 0 }

map_same : (f g : Slot → Node) (xs : List Slot) → ((k : ℕ) → k < length xs → f (get_or xs k no_slot) ≡ g (get_or xs k no_slot)) → map f xs ≡ map g xs
map_same f g [] h = refl
map_same f g (x ∷ xs) h = λ i. h zero (omega arith) i ∷ map_same f g xs (λ k l. h (suc k) (omega arith)) i

-- What is written behind the edges of a node does not change it.
kept : (es more : List Edge) (s : Slot) → s.start + s.count ≤ length es → node_of (es ++ more) s ≡ node_of es s
kept es more s l =
    ap (take s.count) (drop-append-le s.start es more (omega arith))
    ∙ take-append-le s.count (drop s.start es) more (omega (arith, length-drop s.start es))

-- The nodes with one more, whose edges stand behind all others.
pub record Grown (es fs : List Edge) (slots further : List Slot) (more : Node) : Type 0 where
  pub within : Within fs further
  pub sum : length fs ≡ total (nodes_in fs further)
  pub nodes : nodes_in fs further ≡ nodes_in es slots ++ more ∷ []

pub grown : (es fs : List Edge) (slots further : List Slot) (more : Node) (start : ℕ)
    → Within es slots → length es ≡ total (nodes_in es slots)
    → fs ≡ es ++ more → start ≡ length es → further ≡ slots ++ record { start = start; count = length more } ∷ []
    → Grown es fs slots further more
grown es fs slots further more start w total_is fs_is start_is further_is =
    record { within = within; sum = length_is ∙ ap (λ n. n + length more) total_is ∙ sym (total_push (nodes_in es slots) more) ∙ ap total (sym nodes); nodes = nodes }
  where
    slot : Slot
    slot = record { start = start; count = length more }

    length_is : length fs ≡ length es + length more
    length_is = ap length fs_is ∙ length-append es more

    old : (k : ℕ) → k < length slots → node_of (es ++ more) (get_or slots k no_slot) ≡ node_of es (get_or slots k no_slot)
    old k l = kept es more (get_or slots k no_slot) (w k no_slot l)

    new : node_of (es ++ more) (record { start = start; count = length more }) ≡ more
    new = ap (λ n. take (length more) (drop n (es ++ more))) start_is
        ∙ ap (take (length more)) (drop_at es more (length es) refl) ∙ take_all (length more) more (omega arith)

    nodes : nodes_in fs further ≡ nodes_in es slots ++ more ∷ []
    nodes = ap (λ (z : List Edge). nodes_in z further) fs_is ∙ ap (nodes_in (es ++ more)) further_is
        ∙ map_push (node_of (es ++ more)) slots (record { start = start; count = length more })
        ∙ (λ i. map_same (node_of (es ++ more)) (node_of es) slots old i ++ new i ∷ [])

    at : (k : ℕ) (s : Slot) → (k < length slots) ⊎ (length slots ≤ k) → k < length slots + 1
        → (get_or (slots ++ record { start = start; count = length more } ∷ []) k s).start + (get_or (slots ++ record { start = start; count = length more } ∷ []) k s).count ≤ length fs
    at k s (inl l) m =
        let e = get_or_append_left slots (record { start = start; count = length more } ∷ []) s k l in
        subst (λ (z : Slot). z.start + z.count ≤ length fs) (sym e) (omega (arith, w k s l, length_is))
    at k s (inr l) m =
        let e = get_or_at slots (record { start = start; count = length more }) [] s k (omega arith) in
        subst (λ (z : Slot). z.start + z.count ≤ length fs) (sym e) (omega (arith, length_is, start_is))

    within : Within fs further
    within k s l =
        let m : k < length slots + 1 = omega (arith, l, ap length further_is, length_push slots (record { start = start; count = length more })) in
        subst (λ (z : List Slot). (get_or z k s).start + (get_or z k s).count ≤ length fs) (sym further_is) (at k s (cases_lt k (length slots)) m)

-- A run added where the last edge leads to the same place, and where it does not.
pub reopened : (xs ys : List Edge) (last : Edge) (hi t : ℕ) → last.to ≡ t → xs ≡ ys ++ last ∷ [] → ys ++ record { high = hi; to = t } ∷ [] ≡ added xs hi t
reopened xs ys last hi t e is =
    ap (λ u. ys ++ record { high = hi; to = u } ∷ []) (sym e) ∙ sym (added_same ys last hi t e) ∙ ap (λ (z : List Edge). added z hi t) (sym is)

pub last_split : (xs : List Edge) (last : Edge) → slice_get xs (length xs - 1) ≡ Some last → xs ≡ take (length xs - 1) xs ++ last ∷ []
last_split xs last e =
    let l = slice_get_within xs (length xs - 1) last e in
    let g : get_or xs (length xs - 1) last ≡ last
    = ap (λ (o : Option Edge). unwrap_or o last) (sym (slice_get-get_or xs (length xs - 1) last l) ∙ e) in
    sym (take_all (length xs - 1 + 1) xs (omega arith)) ∙ take_more xs (length xs - 1) last l
    ∙ ap (λ (x : Edge). take (length xs - 1) xs ++ x ∷ []) g

pub ended : (xs : List Edge) (last : Edge) (hi t : ℕ) → (last.to ≡ t → ⊥) → slice_get xs (length xs - 1) ≡ Some last → xs ++ record { high = hi; to = t } ∷ [] ≡ added xs hi t
ended xs last hi t e is =
    let split = last_split xs last is in
    ap (λ (z : List Edge). z ++ record { high = hi; to = t } ∷ []) split ∙ sym (added_other (take (length xs - 1) xs) last hi t e) ∙ ap (λ (z : List Edge). added z hi t) (sym split)

-- What `==` says of edges.
pub Decides-edge : (a b : Edge) → Decides ((a.high == b.high) && (a.to == b.to)) (a ≡ b)
Decides-edge a b =
    let both = Decides-and (a.high == b.high) (a.to == b.to) (Decides-eqb a.high b.high) (Decides-eqb a.to b.to) in
    ((λ t. let e = both.0 t in λ i. record { high = e.0 i; to = e.1 i }), (λ e. both.1 (ap (λ (x : Edge). x.high) e, ap (λ (x : Edge). x.to) e)))
