-- A look_up, search by search.
use Rattle.std.proofs.Common.{◌≡◌, ℕ, zero, suc, ◌+◌, ◌^◌, ◌<◌, ◌≤◌, Bool, true, false, cond, eqb, List, [], ◌∷◌, length, get_or, take, Some, None, Option, sym, refl, ap, ◌∙◌, subst, inl, inr, arith}
use Rattle.std.proofs.lemmas.Bool.{eq-eqb, ne_eqb, cases_eq, cases_Bool, both_ways}
use Rattle.std.proofs.lemmas.List.{take_all, length-take-le}
use Rattle.diagram.specs.Diagrams.{Diagram, next, walk, Begins, Header, Reduced}
use Rattle.chain.specs.Finds.{Sized}
use Rattle.chain.specs.Tables.{block_of, table, table_lengths, row_length, tries, occurs, place, lengths}
use Rattle.chain.specs.Looks.{longest, node_at, width, occurs_at, spent, occurring, most, Loaded, Stands, sought, LookUp}
use Rattle.chain.proofs.Tiling.{hit_occurs, node_tiled}
use Rattle.chain.proofs.Chained.{whole_at, sized_at, chain_row, limits}

-- lengths, longest first

pub lengths_le : (occ : ℕ → Bool) (b : ℕ) → length (lengths occ b) ≤ b
lengths_le occ zero = omega arith
lengths_le occ (suc b) =
    let ih : length (lengths occ b) ≤ b = lengths_le occ b in
    elim (occ b) as (λ t. length (cond t (b ∷ lengths occ b) (lengths occ b)) ≤ suc b) [ true ↦ omega arith | false ↦ omega arith ]

pub place_count : (occ : ℕ → Bool) (b n : ℕ) → n < b → occ n ≡ true → place (lengths occ b) n + suc (length (lengths occ n)) ≡ length (lengths occ b)
place_count occ zero n l o = absurd (omega arith)
place_count occ (suc b) n l o =
    elim (cases_eq n b) [
      | inl e ↦
          (let ob : occ b ≡ true = subst (λ i. occ i ≡ true) e o in
          let pb : eqb b n ≡ true = eq-eqb b n (sym e) in
          let q : length (lengths occ n) ≡ length (lengths occ b) = ap (λ i. length (lengths occ i)) e in
          rw ob (rw pb (omega arith)))
      | inr e ↦
          (let ih : place (lengths occ b) n + suc (length (lengths occ n)) ≡ length (lengths occ b) = place_count occ b n (omega arith) o in
          let pb : eqb b n ≡ false = ne_eqb b n (λ q. e (sym q)) in
          elim (cases_Bool (occ b)) [
            | inl ob ↦ rw ob (rw pb (omega arith))
            | inr ob ↦ rw ob ih
          ])
    ]

-- below a bound, where some length occurs
pub longest_some : (occ : ℕ → Bool) (n i : ℕ) → i < n → occ i ≡ true
    → (m : ℕ) × (longest occ n ≡ Some m) × (occ m ≡ true) × (i ≤ m) × (m < n) × (length (lengths occ n) ≡ suc (length (lengths occ m)))
longest_some occ zero i l o = absurd (omega arith)
longest_some occ (suc n) i l o =
    elim (cases_Bool (occ n)) [
      | inl on ↦ (n, (rw on refl), on, omega arith, omega arith, (rw on refl))
      | inr on ↦
          (let ne : i ≡ n → ⊥ = λ q. both_ways (occ n) on (subst (λ z. occ z ≡ true) q o) in
          let q : longest occ (suc n) ≡ longest occ n = rw on refl in
          let u : length (lengths occ (suc n)) ≡ length (lengths occ n) = rw on refl in
          let ih = longest_some occ n i (omega (arith, ne)) o in
          (ih.0, q ∙ ih.1, ih.2, ih.3, omega (arith, ih.4), u ∙ ih.5))
    ]

-- the way of a header

pub walk_at : (D : Diagram) (j : ℕ) (h : List ℕ) (f : ℕ) → f < length D → f < length h
    → walk D j (take (suc f) h) ≡ next (node_at D f (walk D j (take f h))) (get_or h f 0)
walk_at [] j h f l m = absurd (omega arith)
walk_at (L ∷ D) j [] f l m = absurd (omega arith)
walk_at (L ∷ D) j (x ∷ h) zero l m = refl
walk_at (L ∷ D) j (x ∷ h) (suc f) l m = walk_at D (next (get_or L j []) x) h f (omega arith) (omega arith)

pub spent_at : (ws : List ℕ) (D : Diagram) (j : ℕ) (h : List ℕ) (f : ℕ) → f < length ws → f < length D → f < length h
    → spent ws D j (take (suc f) h) ≡ spent ws D j (take f h) + tries (width ws f) (node_at D f (walk D j (take f h))) (get_or h f 0)
spent_at [] D j h f k l m = absurd (omega arith)
spent_at (w ∷ ws) [] j h f k l m = absurd (omega arith)
spent_at (w ∷ ws) (L ∷ D) j [] f k l m = absurd (omega arith)
spent_at (w ∷ ws) (L ∷ D) j (x ∷ h) zero k l m = omega arith
spent_at (w ∷ ws) (L ∷ D) j (x ∷ h) (suc f) k l m =
    let ih = spent_at ws D (next (get_or L j []) x) h f (omega arith) (omega arith) (omega arith) in
    omega (arith, ih)

pub spent_front : (ws : List ℕ) (D : Diagram) (j : ℕ) (h : List ℕ) (f : ℕ) → spent ws D j (take f h) ≤ spent ws D j h
spent_front ws D j h zero = omega arith
spent_front ws D j [] (suc f) = omega arith
spent_front [] D j (x ∷ h) (suc f) = omega arith
spent_front (w ∷ ws) [] j (x ∷ h) (suc f) = omega arith
spent_front (w ∷ ws) (L ∷ D) j (x ∷ h) (suc f) =
    let ih = spent_front ws D (next (get_or L j []) x) h f in
    omega (arith, ih)

pub begins_take : (ws h : List ℕ) (f : ℕ) → Begins ws h → Begins ws (take f h)
begins_take ws h zero b = tt
begins_take ws [] (suc f) b = tt
begins_take [] (x ∷ h) (suc f) b = absurd b
begins_take (w ∷ ws) (x ∷ h) (suc f) b = (b.0, begins_take ws h f b.1)

pub begins_at : (ws h : List ℕ) (f : ℕ) → Begins ws h → f < length h → get_or h f 0 < 2 ^ get_or ws f 0
begins_at ws [] f b l = absurd (omega arith)
begins_at [] (x ∷ h) f b l = absurd b
begins_at (w ∷ ws) (x ∷ h) zero b l = b.0
begins_at (w ∷ ws) (x ∷ h) (suc f) b l = begins_at ws h f b.1 (omega arith)

-- what is known of the table at level f on a header's way
pub record At (ws : List ℕ) (D : Diagram) (h : List ℕ) (f j : ℕ) : Type 0 where
  pub inside : j < length (get_or D f [])
  pub value : get_or h f 0 < 2 ^ width ws f
  pub hit : occurs_at ws D f j (row_length (width ws f) (node_at D f j) (get_or h f 0)) ≡ true
  pub short : row_length (width ws f) (node_at D f j) (get_or h f 0) ≤ width ws f

pub way : (ws : List ℕ) (d : List ℕ → Option ℕ) (D : Diagram) (h : List ℕ) → Sized ws D → Reduced ws d D → Header ws h
    → (f : ℕ) → f < length ws → At ws D h f (walk D 0 (take f h))
way ws d D h z R c f l =
    let e : length (take f h) ≡ f = length-take-le f h (omega (arith, c.1)) in
    let i : walk D 0 (take f h) < length (get_or D f [])
    = subst (λ g. walk D 0 (take f h) < length (get_or D g [])) e (R.within (take f h) (begins_take ws h f c.0) (omega arith)) in
    let v : get_or h f 0 < 2 ^ width ws f = begins_at ws h f c.0 (omega (arith, c.1)) in
    let s = sized_at ws D z f l in
    let o = hit_occurs (width ws f) 0 (table (width ws f) (node_at D f (walk D 0 (take f h))))
    (node_tiled (width ws f) 0 (node_at D f (walk D 0 (take f h))) (whole_at (width ws f) (get_or D f []) s.2 (walk D 0 (take f h)) i))
    (get_or h f 0) (omega arith) v in
    record { inside = i; value = v; hit = o.0; short = o.1 }

-- a table is entered at its longest length
pub enter : (ws : List ℕ) (D : Diagram) (h : List ℕ) (f j : ℕ) → f < length ws → j ≡ walk D 0 (take f h) → At ws D h f j
    → (m : ℕ) × (longest (occurs_at ws D f j) (suc (width ws f)) ≡ Some m) × Stands ws D h (spent ws D 0 (take f h)) f j m
enter ws D h f j l e a =
    let s = longest_some (occurs_at ws D f j) (suc (width ws f)) (row_length (width ws f) (node_at D f j) (get_or h f 0)) (omega (arith, a.short)) a.hit in
    let p = place_count (occurs_at ws D f j) (suc (width ws f)) s.0 s.4 s.2 in (
      s.0,
      s.1,
      record {
        level = l;
        node = e;
        fits = omega (arith, s.4);
        occurring = s.2;
        ahead = s.3;
        searches = omega (arith, p, s.5);
      },
    )

none_some : (r : ℕ) → ◌≡◌ {A = Option ℕ} None (Some r) → ⊥
none_some r q = let z : ◌≡◌ {A = ℕ} 0 1 = cc in omega arith

some_same : (x y : ℕ) → Some x ≡ Some y → x ≡ y
some_same x y q = cc

miss_ne : (n m r : ℕ) → cond (eqb n m) (Some r) None ≡ None → n ≡ m → ⊥
miss_ne n m r q e = let t = eq-eqb n m e in let z : ◌≡◌ {A = Option ℕ} (Some r) None = rw t at q in none_some r (sym z)

hit_eq : (n m r s : ℕ) → cond (eqb n m) (Some r) None ≡ Some s → (n ≡ m) × (r ≡ s)
hit_eq n m r s q =
    elim (cases_eq n m) [
      | inl e ↦ (let t = eq-eqb n m e in let z : ◌≡◌ {A = Option ℕ} (Some r) (Some s) = rw t at q in (e, some_same r s z))
      | inr e ↦ (let t = ne_eqb n m e in let z : ◌≡◌ {A = Option ℕ} None (Some s) = rw t at q in absurd (none_some s z))
    ]

-- what a search answers where a look_up stands
pub answer : (ask : ℕ → Option ℕ) (side : ℕ) (ws : List ℕ) (d : List ℕ → Option ℕ) (D : Diagram) (h : List ℕ) → Loaded ask side ws d D
    → (f j n : ℕ) → f < length ws → At ws D h f j → n ≤ width ws f
    → ask (sought side ws h f j n) ≡ cond (eqb n (row_length (width ws f) (node_at D f j) (get_or h f 0))) (Some (next (node_at D f j) (get_or h f 0))) None
answer ask side ws d D h L f j n l a ln =
    let z = sized_at ws D L.sized f l in
    L.holds (1 + f) j (block_of (width ws f) n (get_or h f 0))
    (limits side (1 + f) j (width ws f) (block_of (width ws f) n (get_or h f 0)) L.side (omega (arith, L.few)) (omega (arith, a.inside, z.1)) z.0 ln (omega (arith, a.value)))
    ∙ chain_row side ws D L.side L.few L.sized f j (get_or h f 0) n l a.inside a.value ln

-- the searches of the tables, and the lengths that occur

pub bounds : (ws : List ℕ) (D : Diagram) (j : ℕ) (h : List ℕ) → Sized ws D → Begins ws h
    → ((f : ℕ) → f < length h → walk D j (take f h) < length (get_or D f []))
    → (spent ws D j h ≤ occurring ws D j h) × (occurring ws D j h ≤ most ws)
bounds ws D j [] z b i = (omega arith, omega arith)
bounds [] D j (x ∷ h) z b i = absurd b
bounds (w ∷ ws) [] j (x ∷ h) z b i = absurd z
bounds (w ∷ ws) (L ∷ D) j (x ∷ h) z b i =
    let ih = bounds ws D (next (get_or L j []) x) h z.3 b.1 (λ f l. i (suc f) (omega arith)) in
    let o = hit_occurs w 0 (table w (get_or L j [])) (node_tiled w 0 (get_or L j []) (whole_at w L z.2 j (i 0 (omega arith)))) x (omega arith) b.0 in
    let p = place_count (occurs (table w (get_or L j []))) (suc w) (row_length w (get_or L j []) x) (omega (arith, o.1)) o.0 in
    let q = lengths_le (occurs (table w (get_or L j []))) (suc w) in
    (omega (arith, ih.0, p), omega (arith, ih.1, q))

pub look_up : LookUp
look_up ask side ws d D h L c =
    record {
      begins = enter ws D h 0 0 L.some refl (at 0 L.some);
      miss = λ k f j n s e.
          let a = here k f j n s in
          let ne = miss_ne n (hit_at f j) (next (node_at D f j) (get_or h f 0)) (sym (ans k f j n s) ∙ e) in
          let m = longest_some (occurs_at ws D f j) n (hit_at f j) (omega (arith, s.ahead, ne)) a.hit in
          let p = place_count (occurs_at ws D f j) (suc (width ws f)) n (omega (arith, s.fits)) s.occurring in
          let q = place_count (occurs_at ws D f j) (suc (width ws f)) m.0 (omega (arith, s.fits, m.4)) m.2 in (
            m.0,
            m.1,
            record {
              level = s.level;
              node = s.node;
              fits = omega (arith, s.fits, m.4);
              occurring = m.2;
              ahead = m.3;
              searches = omega (arith, s.searches, p, q, m.5);
            },
          );
      hit = λ k f j n r s e l.
          let t = after k f j n r s e in
          let u = enter ws D h (suc f) r l t.0 (subst (λ i. At ws D h (suc f) i) (sym t.0) (at (suc f) l)) in
          (u.0, u.1, subst (λ i. Stands ws D h i (suc f) r u.0) (sym t.1) u.2);
      ends = λ k f j n r s e l.
          let t = after k f j n r s e in
          let w : take (suc f) h ≡ h = take_all (suc f) h (omega (arith, c.1)) in (
            R.decides h c ∙ ap Some (sym (t.0 ∙ ap (λ (i : List ℕ). walk D 0 i) w)),
            t.1 ∙ ap (λ (i : List ℕ). spent ws D 0 i) w,
          );
      enters = λ f l. enter ws D h f (walk D 0 (take f h)) l refl (at f l);
      leads = after;
      inside = λ f l. (at f l).inside;
      open_fewer = λ k f j n s.
          let a = here k f j n s in
          let p = place_count (occurs_at ws D f j) (suc (width ws f)) n (omega (arith, s.fits)) s.occurring in
          let q = place_count (occurs_at ws D f j) (suc (width ws f)) (hit_at f j) (omega (arith, a.short)) a.hit in
          let m = shorter (occurs_at ws D f j) n (hit_at f j) s.ahead in
          let v = front f s.level in
          let x = ap (λ i. tries (width ws f) (node_at D f i) (get_or h f 0)) s.node in
          let y = spent_front ws D 0 h (suc f) in
          omega (arith, s.searches, p, q, m, v, x, y);
      bounded = bounds ws D 0 h L.sized c.0 (λ f l. (at f (omega (arith, c.1))).inside);
    }
  where
    R : Reduced ws d D
    R = L.reduced

    hit_at : ℕ → ℕ → ℕ
    hit_at f j = row_length (width ws f) (node_at D f j) (get_or h f 0)

    at : (f : ℕ) → f < length ws → At ws D h f (walk D 0 (take f h))
    at f l = way ws d D h L.sized R c f l

    here : (k f j n : ℕ) → Stands ws D h k f j n → At ws D h f j
    here k f j n s = subst (λ i. At ws D h f i) (sym s.node) (at f s.level)

    ans : (k f j n : ℕ) → Stands ws D h k f j n
        → ask (sought side ws h f j n) ≡ cond (eqb n (row_length (width ws f) (node_at D f j) (get_or h f 0))) (Some (next (node_at D f j) (get_or h f 0))) None
    ans k f j n s = answer ask side ws d D h L f j n s.level (here k f j n s) s.fits

    front : (f : ℕ) → f < length ws
        → spent ws D 0 (take (suc f) h) ≡ spent ws D 0 (take f h) + tries (width ws f) (node_at D f (walk D 0 (take f h))) (get_or h f 0)
    front f l = spent_at ws D 0 h f l (omega (arith, R.levels)) (omega (arith, c.1))

    shorter : (occ : ℕ → Bool) (n m : ℕ) → m ≤ n → length (lengths occ m) ≤ length (lengths occ n)
    shorter occ zero m l = (let z : m ≡ 0 = omega arith in omega (arith, ap (λ i. length (lengths occ i)) z))
    shorter occ (suc n) m l = elim (cases_eq m (suc n)) [
      | inl e ↦ omega (arith, ap (λ i. length (lengths occ i)) e)
      | inr e ↦
          (let ih : length (lengths occ m) ≤ length (lengths occ n) = shorter occ n m (omega arith) in
          elim (occ n) as (λ t. length (lengths occ m) ≤ length (cond t (n ∷ lengths occ n) (lengths occ n))) [ true ↦ omega arith | false ↦ ih ])
    ]

    after : (k f j n r : ℕ) → Stands ws D h k f j n → ask (sought side ws h f j n) ≡ Some r
        → (r ≡ walk D 0 (take (suc f) h)) × (suc k ≡ spent ws D 0 (take (suc f) h))
    after k f j n r s e =
        let t = hit_eq n (row_length (width ws f) (node_at D f j) (get_or h f 0)) (next (node_at D f j) (get_or h f 0)) r (sym (ans k f j n s) ∙ e) in
        let v = front f s.level in
        let x = ap (λ i. tries (width ws f) (node_at D f i) (get_or h f 0)) s.node in
        let y = ap (λ i. place (table_lengths (width ws f) (node_at D f j)) i) t.0 in (
          sym t.1 ∙ ap (λ i. next (node_at D f i) (get_or h f 0)) s.node
              ∙ sym (walk_at D 0 h f (omega (arith, s.level, R.levels)) (omega (arith, s.level, c.1))),
          omega (arith, s.searches, v, x, y),
        )
