-- Taking a row out: the rows that pass its cell move back, one after the other.
use Rattle.std.proofs.Common.{min, List, ◌≡◌, ℕ, ◌+◌, ◌-◌, ◌<◌, ◌≤◌, true, false, cond, eqb, ◌≢◌, ◌⊎◌, length, Some, None, sym, refl, ap, is_some, Option, ◌∙◌, subst, ⊎_elim, arith}
use Rattle.std.proofs.lemmas.Bool.{eq-eqb, ne_eqb, cases_eq, cases_lt, cases_order, both_ways}
use Rattle.std.proofs.Math.Logic.{∥∥₁_elim, ∥∥₁_prop}
use Rattle.std.proofs.lemmas.Grind.{merely}
use Rattle.std.proofs.Props.{props}
use Rattle.store.specs.Rows.{find}
use Rattle.store.specs.declared.row.Row.{Row}
use Rattle.store.specs.Meaning.{Removed as Gone}
use Rattle.hash_store.specs.declared.probe.Spot.TheVariants.{Found}
use Rattle.hash_store.specs.Cells.{cell_at, Says, rows_of, row_of, Sound, home_of, home_lt, at, Apart, Unpassed}
use Rattle.hash_store.specs.Helds.{find_nowhere}
use Rattle.hash_store.specs.Shifts.{Ready, Clear, Settled, Removed}
use Rattle.hash_store.proofs.Around.{at_zero, at_lt, at_inj, at_on, at_diff, at_back, dist}
use Rattle.hash_store.proofs.Probes.{find_somewhere, cell_cases, rows_alike, rows_more}

-- The cells f on the way from f0: the row in the cell i0 is out, the cells up to d on from it are
-- passed, and the cell hole, a on from it, is the one to fill. The cell z, which no row stands beyond,
-- is not before the hole.
pub record State (f0 f : ℕ → Option Row) (m i0 d hole : ℕ) : Type 0 where
  pub a : ℕ
  pub a_lt : a < d
  pub d_le : d ≤ m
  pub i_lt : i0 < m
  pub at_hole : at m i0 a ≡ hole
  pub flags : (x : ℕ) → is_some (f x) ≡ is_some (f0 x)
  pub used : is_some (f hole) ≡ true
  -- each row but the one in the hole is found
  pub reach : (w : ℕ) → w < m → is_some (f w) ≡ false → Clear f m hole w
  pub z : ℕ
  pub dz : ℕ
  pub dz_lt : dz < m
  pub at_cut : at m i0 dz ≡ z
  pub a_le : a ≤ dz
  pub cut : Clear f m hole z
  -- the rows passed since the hole do not stand beyond it
  pub near : (e : ℕ) → 0 < e → e < d - a → (k : ℕ) → k < m → at m (home_of (row_of (f (at m hole e))).key m) k ≡ at m hole e → k < e
  pub apart : (x y : ℕ) → x < m → y < m → x ≢ y → x ≢ hole → y ≢ hole → is_some (f x) ≡ true → is_some (f y) ≡ true → (row_of (f x)).key ≡ (row_of (f y)).key → ⊥
  pub down : (x : ℕ) → x < m → x ≢ hole → is_some (f x) ≡ true → (y : ℕ) × (y < m) × (y ≢ i0) × (is_some (f0 y) ≡ true) × (f x ≡ f0 y)
  pub up : (y : ℕ) → y < m → y ≢ i0 → is_some (f0 y) ≡ true → (x : ℕ) × (x < m) × (x ≢ hole) × (f x ≡ f0 y)

-- No key in two cells, whichever comes first.
apart_all : (f : ℕ → Option Row) (m : ℕ) → Apart f m → (x y : ℕ) → x < m → y < m → x ≢ y → is_some (f x) ≡ true → is_some (f y) ≡ true → (row_of (f x)).key ≡ (row_of (f y)).key → ⊥
apart_all f m a x y l k ne u v e =
    ⊎_elim
    (λ (s : x ≡ y). ne s)
    (λ (o : (x < y) ⊎ (y < x)). ⊎_elim (λ (s : x < y). a x y (s, k, u, v, e)) (λ (s : y < x). a y x (s, l, v, u, sym e)) o)
    (cases_order x y)

clear_from : (f : ℕ → Option Row) (m hole z : ℕ) → Unpassed f m z → Clear f m hole z
clear_from f m hole z r i d e l ne u dl p el q = r i d e (l, u, dl, p, el, q)

pub start : (f : ℕ → Option Row) (m i : ℕ) → Ready f m i → State f f m i 1 i
start f m i r =
    let h = r.here in
    let c = r.cut in
    let w = dist m i c.0 h c.1 in
    record {
      a = 0;
      a_lt = omega arith;
      d_le = omega arith;
      i_lt = h;
      at_hole = at_zero m i h;
      flags = λ x. refl;
      used = r.used;
      reach = λ z l free. clear_from f m i z (r.reach z l free);
      z = c.0;
      dz = w.0;
      dz_lt = w.1;
      at_cut = w.2;
      a_le = omega arith;
      cut = clear_from f m i c.0 c.2;
      near = λ e p l k kl x. absurd (omega arith);
      apart = λ x y l k ne _ _ u v e. apart_all f m r.apart x y l k ne u v e;
      down = λ x l ne u. (x, l, ne, u, refl);
      up = λ y l ne u. (y, l, ne, refl);
    }

module _ (f0 f : ℕ → Option Row) (m i0 d hole : ℕ) (s : State f0 f m i0 d hole) where
  pub hole_lt : hole < m
  hole_lt = let P : ℕ → Type 0 = λ x. x < m in subst P s.at_hole (at_lt m i0 s.a s.i_lt (omega (arith, s.a_lt, s.d_le)))

  -- The cell z is dz - a on from the hole.
  to_cut : at m hole (s.dz - s.a) ≡ s.z
  to_cut = at_diff m i0 s.a s.dz hole s.z s.i_lt s.a_le s.dz_lt s.at_hole s.at_cut

  settled : Clear f m hole hole → Settled f0 f m i0 hole
  settled c = record { within = hole_lt; flags = s.flags; used = s.used; reach = s.reach; clear = c; apart = s.apart; down = s.down; up = s.up }

  -- A row beyond the hole is not one of those passed since.
  beyond : (x k e : ℕ) → x < m → k < m → at m (home_of (row_of (f x)).key m) k ≡ x → e < k → at m (home_of (row_of (f x)).key m) e ≡ hole → (at m hole (k - e) ≡ x) × (d - s.a ≤ k - e)
  beyond x k e l kl way el ph =
      let on : at m hole (k - e) ≡ x = at_diff m (home_of (row_of (f x)).key m) e k hole x (home_lt (row_of (f x)).key m (omega arith)) (omega arith) kl ph way in
      let R : ℕ → Type 0 = λ y. at m (home_of (row_of (f y)).key m) k ≡ y in (
        on,
        ⊎_elim
            (λ (c : k - e < d - s.a). let low : k < k - e = s.near (k - e) (omega arith) c k kl (subst R (sym on) way) in absurd (omega arith))
            (λ (c : d - s.a ≤ k - e). c)
            (cases_lt (k - e) (d - s.a)),
      )

  -- Every cell was passed: a row beyond the hole would stand beyond z.
  pub end_round : d ≡ m → Settled f0 f m i0 hole
  end_round dm =
      settled
      (λ x k e l ne u kl way el ph.
      let b = beyond x k e l kl way el ph in
      let h = home_of (row_of (f x)).key m in
      let far : e + (s.dz - s.a) < k = omega (arith, b.1, s.dz_lt, s.a_le) in
      s.cut x k (e + (s.dz - s.a)) l ne u kl way far
      (at_on m h e (s.dz - s.a) hole (home_lt (row_of (f x)).key m (omega arith)) (omega arith) ph ∙ to_cut))

  module _ (dm : d < m) (j : ℕ) (ja : j ≡ at m i0 d) where
    jl : j < m
    jl = let P : ℕ → Type 0 = λ x. x < m in subst P (sym ja) (at_lt m i0 d s.i_lt dm)

    -- The cell j is d - a on from the hole.
    from_hole : at m hole (d - s.a) ≡ j
    from_hole = at_diff m i0 s.a d hole j s.i_lt (omega (arith, s.a_lt)) dm s.at_hole (sym ja)

    -- The cell j is free: no row stands beyond it, so none beyond the hole.
    pub end_free : is_some (f j) ≡ false → Settled f0 f m i0 hole
    end_free free =
        settled
        (λ x k e l ne u kl way el ph.
        let b = beyond x k e l kl way el ph in
        let h = home_of (row_of (f x)).key m in
        ⊎_elim
        (λ (same : k - e ≡ d - s.a).
        let R : ℕ → Type 0 = λ y. at m hole y ≡ x in
        let S : ℕ → Type 0 = λ y. is_some (f y) ≡ true in
        both_ways (is_some (f j)) free (subst S (sym (subst R same b.0) ∙ from_hole) u))
        (λ (more : k - e ≢ d - s.a).
        let far : e + (d - s.a) < k = omega (arith, b.1) in
        s.reach j jl free x k (e + (d - s.a)) l ne u kl way far
        (at_on m h e (d - s.a) hole (home_lt (row_of (f x)).key m (omega arith)) (omega arith) ph ∙ from_hole))
        (cases_eq (k - e) (d - s.a)))

    module _ (gap : ℕ) (gl : gap < m) (gon : at m hole gap ≡ j) where
      gap_is : gap ≡ d - s.a
      gap_is = at_inj m hole gap (d - s.a) hole_lt gl (omega (arith, s.a_lt)) (gon ∙ sym from_hole)

      apart_from : j ≢ hole
      apart_from e = let n : gap ≡ 0 = at_inj m hole gap 0 hole_lt gl (omega arith) (gon ∙ e ∙ sym (at_zero m hole hole_lt)) in omega (arith, gap_is, s.a_lt)

      module _ (full : is_some (f j) ≡ true) (far : ℕ) (fl : far < m) (fon : at m (home_of (row_of (f j)).key m) far ≡ j) where
        hl : home_of (row_of (f j)).key m < m
        hl = home_lt (row_of (f j)).key m (omega arith)

        -- The row in the cell j does not stand beyond the hole.
        pub skip : far < gap → State f0 f m i0 (d + 1) hole
        skip less =
            record {
              a = s.a;
              a_lt = omega (arith, s.a_lt);
              d_le = omega arith;
              i_lt = s.i_lt;
              at_hole = s.at_hole;
              flags = s.flags;
              used = s.used;
              reach = s.reach;
              z = s.z;
              dz = s.dz;
              dz_lt = s.dz_lt;
              at_cut = s.at_cut;
              a_le = s.a_le;
              cut = s.cut;
              near =
                  λ e p l k kl x.
                  ⊎_elim
                  (λ (y : e < d - s.a). s.near e p y k kl x)
                  (λ (y : d - s.a ≤ e).
                  let same : e ≡ gap = omega (arith, gap_is, s.a_lt) in
                  let P : ℕ → Type 0 = λ y. at m (home_of (row_of (f y)).key m) k ≡ y in
                  let Q : ℕ → Type 0 = λ y. at m (home_of (row_of (f (at m hole y))).key m) k ≡ at m hole y in
                  let kk : k ≡ far = at_inj m (home_of (row_of (f j)).key m) k far hl kl fl (subst P gon (subst Q same x) ∙ sym fon) in
                  omega arith)
                  (cases_lt e (d - s.a));
              apart = s.apart;
              down = s.down;
              up = s.up;
            }

        -- The row in the cell j goes to the hole.
        module _ (g : ℕ → Option Row) (at_h : g hole ≡ f j) (rest : (x : ℕ) → x ≢ hole → g x ≡ f x) (le : gap ≤ far) where
          moved : (x : ℕ) → x ≡ hole → g x ≡ f j
          moved x e = let R : ℕ → Type 0 = λ y. g y ≡ f j in subst R (sym e) at_h

          g_flags : (x : ℕ) → is_some (g x) ≡ is_some (f x)
          g_flags x =
              ⊎_elim
              (λ (e : x ≡ hole). let P : ℕ → Type 0 = λ y. is_some (f y) ≡ true in ap is_some (moved x e) ∙ full ∙ sym (subst P (sym e) s.used))
              (λ (ne : x ≢ hole). ap is_some (rest x ne))
              (cases_eq x hole)

          -- Its way passes the hole.
          back : at m (home_of (row_of (f j)).key m) (far - gap) ≡ hole
          back = at_back m (home_of (row_of (f j)).key m) hole j gap far hl hole_lt le fl gon fon

          -- And so not the cell z.
          d_before : d ≤ s.dz
          d_before =
              ⊎_elim
              (λ (l : s.dz < d).
              let short : far - gap + (s.dz - s.a) < far = omega (arith, gap_is, s.a_le) in
              absurd
              (s.cut j far (far - gap + (s.dz - s.a)) jl apart_from full fl fon short
              (at_on m (home_of (row_of (f j)).key m) (far - gap) (s.dz - s.a) hole hl (omega arith) back ∙ to_cut)))
              (λ (l : d ≤ s.dz). l)
              (cases_lt s.dz d)

          -- Where no row stood beyond the cell w, none does.
          carry : (w : ℕ) → Clear f m hole w → Clear g m j w
          carry w c x k e l ne u kl p el q =
              let P : ℕ → Type 0 = λ y. at m (home_of y m) k ≡ x in
              let Q : ℕ → Type 0 = λ y. at m (home_of y m) e ≡ w in
              ⊎_elim
              (λ (xh : x ≡ hole).
              let kk : (row_of (g x)).key ≡ (row_of (f j)).key = ap (λ c. (row_of c).key) (moved x xh) in
              let same : k ≡ far - gap = at_inj m (home_of (row_of (f j)).key m) k (far - gap) hl kl (omega arith) (subst P kk p ∙ xh ∙ sym back) in
              c j far e jl apart_from full fl fon (omega arith) (subst Q kk q))
              (λ (xh : x ≢ hole).
              let kk : (row_of (g x)).key ≡ (row_of (f x)).key = ap (λ c. (row_of c).key) (rest x xh) in
              c x k e l xh (sym (g_flags x) ∙ u) kl (subst P kk p) el (subst Q kk q))
              (cases_eq x hole)

          move_apart : (x y : ℕ) → x < m → y < m → x ≢ y → x ≢ j → y ≢ j → is_some (g x) ≡ true → is_some (g y) ≡ true → (row_of (g x)).key ≡ (row_of (g y)).key → ⊥
          move_apart x y xl yl ne xj yj u v e =
              let key : Option Row → ℕ = λ c. (row_of c).key in
              ⊎_elim
              (λ (xh : x ≡ hole).
              let yh : y ≢ hole = λ w. ne (xh ∙ sym w) in
              s.apart j y jl yl (λ w. yj (sym w)) apart_from yh full (sym (g_flags y) ∙ v) (sym (ap key (moved x xh)) ∙ e ∙ ap key (rest y yh)))
              (λ (xh : x ≢ hole).
              ⊎_elim
              (λ (yh : y ≡ hole). s.apart x j xl jl xj xh apart_from (sym (g_flags x) ∙ u) full (sym (ap key (rest x xh)) ∙ e ∙ ap key (moved y yh)))
              (λ (yh : y ≢ hole). s.apart x y xl yl ne xh yh (sym (g_flags x) ∙ u) (sym (g_flags y) ∙ v) (sym (ap key (rest x xh)) ∙ e ∙ ap key (rest y yh)))
              (cases_eq y hole))
              (cases_eq x hole)

          pub move : State f0 g m i0 (d + 1) j
          move =
              record {
                a = d;
                a_lt = omega arith;
                d_le = omega arith;
                i_lt = s.i_lt;
                at_hole = sym ja;
                flags = λ x. g_flags x ∙ s.flags x;
                used = g_flags j ∙ full;
                reach = λ w l free. carry w (s.reach w l (sym (g_flags w) ∙ free));
                z = s.z;
                dz = s.dz;
                dz_lt = s.dz_lt;
                at_cut = s.at_cut;
                a_le = d_before;
                cut = carry s.z s.cut;
                near = λ e p l k kl x. absurd (omega arith);
                apart = move_apart;
                down =
                    λ x l xj u.
                    ⊎_elim
                    (λ (xh : x ≡ hole). let w = s.down j jl apart_from full in (w.0, w.1, w.2, w.3, moved x xh ∙ w.4))
                    (λ (xh : x ≢ hole). let w = s.down x l xh (sym (g_flags x) ∙ u) in (w.0, w.1, w.2, w.3, rest x xh ∙ w.4))
                    (cases_eq x hole);
                up =
                    λ y l ne u.
                    let w = s.up y l ne u in
                    ⊎_elim
                    (λ (wj : w.0 ≡ j). let R : ℕ → Type 0 = λ x. f x ≡ f0 y in (hole, hole_lt, (λ x. apart_from (sym x)), at_h ∙ subst R wj w.3))
                    (λ (wj : w.0 ≢ j). (w.0, w.1, wj, rest w.0 w.2 ∙ w.3))
                    (cases_eq w.0 j);
              }

-- The hole is made free.
module _ (f0 f g : ℕ → Option Row) (m i hole : ℕ) (s : Settled f0 f m i hole) (off : is_some (g hole) ≡ false) (rest : (x : ℕ) → x ≢ hole → g x ≡ f x) where
  not_hole : (x : ℕ) → is_some (g x) ≡ true → x ≢ hole
  not_hole x u e = let P : ℕ → Type 0 = λ y. is_some (g y) ≡ false in both_ways (is_some (g x)) (subst P (sym e) off) u

  was_used : (x : ℕ) → is_some (g x) ≡ true → is_some (f x) ≡ true
  was_used x u = sym (ap is_some (rest x (not_hole x u))) ∙ u

  key_rest : (x : ℕ) → x ≢ hole → (row_of (g x)).key ≡ (row_of (f x)).key
  key_rest x ne = ap (λ c. (row_of c).key) (rest x ne)

  freed : (z : ℕ) → Clear f m hole z → Unpassed g m z
  freed z c x d e w =
      let ne = not_hole x w.1 in
      let kk = key_rest x ne in
      let P : ℕ → Type 0 = λ y. at m (home_of y m) d ≡ x in
      let Q : ℕ → Type 0 = λ y. at m (home_of y m) e ≡ z in
      c x d e w.0 ne (was_used x w.1) w.2 (subst P kk w.3) w.4 (subst Q kk w.5)

  freed_reach : (z : ℕ) → z < m → is_some (g z) ≡ false → Unpassed g m z
  freed_reach z l free =
      ⊎_elim
      (λ (zh : z ≡ hole). let P : ℕ → Type 0 = λ y. Unpassed g m y in subst P (sym zh) (freed hole s.clear))
      (λ (zh : z ≢ hole). freed z (s.reach z l (sym (ap is_some (rest z zh)) ∙ free)))
      (cases_eq z hole)

  fewer : length (rows_of g m) + 1 ≡ length (rows_of f0 m)
  fewer =
      let more = rows_more g f m hole s.within (λ x ne. sym (ap is_some (rest x ne))) off s.used in
      omega (arith, more, rows_alike f0 f m (λ x l. s.flags x))

  pub finish : Removed f0 g m i
  finish =
      record {
        apart =
            λ x y w.
            let xh = not_hole x w.2 in
            let yh = not_hole y w.3 in
            s.apart x y (omega (arith, w.0, w.1)) w.1 (λ e. omega (arith, w.0)) xh yh (was_used x w.2) (was_used y w.3)
            (sym (key_rest x xh) ∙ w.4 ∙ key_rest y yh);
        reach = freed_reach;
        cut = (hole, s.within, freed hole s.clear);
        fewer = fewer;
        down = λ x l u. let w = s.down x l (not_hole x u) (was_used x u) in (w.0, w.1, w.2, w.3, rest x (not_hole x u) ∙ w.4);
        up =
            λ y l ne u.
            let w = s.up y l ne u in
            let e : g w.0 ≡ f0 y = rest w.0 w.2 ∙ w.3 in
            (w.0, w.1, ap is_some e ∙ u, e);
      }

-- What is left when the row of the key q in the cell i is out.
module _ (f g : ℕ → Option Row) (m n i q : ℕ) (k : Sound f m n) (here : i < m) (u : is_some (f i) ≡ true) (e : (row_of (f i)).key ≡ q) (removed : Ready f m i → Removed f g m i) where
  out : {P : Type 0} → IsProp P → (Removed f g m i → P) → P
  out p then = ∥∥₁_elim (k.cut (omega arith)) p (λ c. then (removed (record { here = here; used = u; apart = k.apart; reach = k.reach; cut = c })))

  pub removed_sound : Sound g m (n - 1)
  removed_sound = record {
    counted = out (Prim.hlevel props) (λ r. omega (arith, r.fewer, k.counted));
    apart = λ x y w. out (Prim.hlevel props) (λ r. r.apart x y w);
    reach = λ z l free x d e w. out (Prim.hlevel props) (λ r. r.reach z l free x d e w);
    cut = λ pos. out ∥∥₁_prop (λ r. merely r.cut);
  }

  pub removed_fewer : length (rows_of g m) + 1 ≡ length (rows_of f m)
  removed_fewer = out (Prim.hlevel props) (λ r. r.fewer)

  pub removed_finds : (p : ℕ) → find (rows_of g m) p ≡ cond (eqb p q) None (find (rows_of f m) p)
  removed_finds p = out (Prim.hlevel props) (λ r.
      let key : Option Row → ℕ = λ c. (row_of c).key in
      ⊎_elim
      (λ (same : p ≡ q).
      rw (eq-eqb p q same)
      (find_nowhere g m p
      (λ x l v h. let w = r.down x l v in apart_all f m k.apart w.0 i w.1 here w.2 w.3 u (sym (ap key w.4) ∙ h ∙ same ∙ sym e))))
      (λ (other : p ≡ q → ⊥).
      rw (ne_eqb p q other)
      (⊎_elim
      (λ (h : (j : ℕ) × (j < m) × (is_some (f j) ≡ true) × ((row_of (f j)).key ≡ p)).
      let P : ℕ → Type 0 = λ y. (row_of (f y)).key ≡ p in
      let w = r.up h.0 h.1 (λ y. other (sym (subst P y h.3) ∙ e)) h.2 in
      find_somewhere g m p w.0 r.apart w.1 w.2 (ap key w.3 ∙ h.3)
      ∙ ap (λ (c : Option Row). Some (row_of c).result) w.3
      ∙ sym (find_somewhere f m p h.0 k.apart h.1 h.2 h.3))
      (λ (b : (j : ℕ) → j < m → is_some (f j) ≡ true → (row_of (f j)).key ≡ p → ⊥).
      find_nowhere g m p (λ x l v h. let w = r.down x l v in b w.0 w.1 w.3 (sym (ap key w.4) ∙ h))
      ∙ sym (find_nowhere f m p b))
      (cell_cases f p m)))
      (cases_eq p q))

-- Taking the row of the key q out of the cell i of a list of cells.
module _ (cs ds : List (Option Row)) (n i q : ℕ) (k : Sound (cell_at cs) (min (length cs) 4096) n) (s : Says (cell_at cs) (min (length cs) 4096) q (Found i)) (same : length ds ≡ length cs) (m : ℕ) (all : m ≡ min (length cs) 4096) (taken : Ready (cell_at cs) m i → Removed (cell_at cs) (cell_at ds) m i) where
  long : min (length ds) 4096 ≡ min (length cs) 4096
  long = ap (λ j. min j 4096) same

  removed : Ready (cell_at cs) (min (length cs) 4096) i → Removed (cell_at cs) (cell_at ds) (min (length cs) 4096) i
  removed = let P : ℕ → Type 0 = λ m. Ready (cell_at cs) m i → Removed (cell_at cs) (cell_at ds) m i in subst P all taken

  pub erased_some : 0 < n
  erased_some = omega (arith, removed_fewer (cell_at cs) (cell_at ds) (min (length cs) 4096) n i q k s.within s.used s.has removed, k.counted)

  pub erased_sound : Sound (cell_at ds) (min (length ds) 4096) (n - 1)
  erased_sound = let P : ℕ → Type 0 = λ m. Sound (cell_at ds) m (n - 1) in subst P (sym long) (removed_sound (cell_at cs) (cell_at ds) (min (length cs) 4096) n i q k s.within s.used s.has removed)

  pub erased_removed : (t : ℕ)
      → Gone (record { rows = rows_of (cell_at cs) (min (length cs) 4096); capacity = min (length cs) 4096; tally = t }) q
      (record { rows = rows_of (cell_at ds) (min (length ds) 4096); capacity = min (length ds) 4096; tally = t })
  erased_removed t =
      let F : ℕ → Type 0 = λ m. (p : ℕ) → find (rows_of (cell_at ds) m) p ≡ cond (eqb p q) None (find (rows_of (cell_at cs) (min (length cs) 4096)) p) in
      let H : ℕ → Type 0 = λ m. length (rows_of (cell_at ds) m) + 1 ≡ length (rows_of (cell_at cs) (min (length cs) 4096)) in
      record {
        finds = subst F (sym long) (removed_finds (cell_at cs) (cell_at ds) (min (length cs) 4096) n i q k s.within s.used s.has removed);
        held = subst H (sym long) (removed_fewer (cell_at cs) (cell_at ds) (min (length cs) 4096) n i q k s.within s.used s.has removed);
        capacity = long;
        tally = refl;
      }
