-- A card goes on following its history with each call.
use Rattle.std.proofs.Common.{◌≡◌, ℕ, zero, suc, Bool, [], ◌∷◌, length, get_or, replicate, Some, None, Option, sym, refl, ap, subst, arith}
use mathlib.Core.Path.{fun_ext}
use Rattle.store.specs.Meaning.{Contents, Lawful}
use Rattle.card.specs.declared.states.SideState.{SideState}
use Rattle.card.specs.declared.states.SideState.TheVariants.{SetAside}
use Rattle.card.specs.declared.cards.Side.{Side}
use Rattle.card.specs.declared.cards.Card.{Card}
use Rattle.card.specs.declared.events.Event.{Event}
use Rattle.card.specs.declared.events.Event.TheVariants.{SideRead, SeatRead, Cleared, Began, Refused}
use Rattle.questions.specs.Asking.{asked_yes}
use Rattle.card.specs.Sides.{fresh}
use Rattle.card.specs.Views.{Begun, View, Right, Given}
use Rattle.card.specs.Histories.{History, state_at, held_at, chain_at, current_at, seen}
use Rattle.card.specs.Laws.{no_rows}
use Rattle.card.specs.Calls.{begun, shown, OneCall}
use Rattle.card.specs.Following.{Holding, Built, Follows}

-- No list is loaded yet, so no side has a chain, and none is in force.
no_chain : (h : History) (s : ℕ) → chain_at h s ≡ []
no_chain [] s = refl
no_chain (e ∷ h) s = no_chain h s

none_current : (h : History) → current_at h ≡ None
none_current [] = refl
none_current (e ∷ h) = none_current h

nothing : {s : ℕ} → ◌≡◌ {A = Option ℕ} None (Some s) → ⊥
nothing e = cc

holds_none : (h : History) (s : ℕ) → Holding SetAside (held_at h s) (length (chain_at h s)) → ⊥
holds_none h s p = let e : length (chain_at h s) ≡ 0 = ap length (no_chain h s) in omega (arith, p.0, p.1)

module _ {S F : Type 0} (contents : S → Contents) (frame : S → F) (start : Contents) where
  none_aside : (h : History) (c : Card S) → Follows contents start h c → (s : ℕ) → state_at h s ≡ SetAside → ⊥
  none_aside h c f s e = let P : SideState → Type 0 = λ x. Holding x (held_at h s) (length (chain_at h s)) in holds_none h s (subst P e (f.sides.holding s))

  -- an answer that the card calls for is called for by its history
  told : (h : History) (c : Card S) (e : Event) → Follows contents start h c → Right (shown c) e → Right (seen (no_rows start.rows) h) e
  told h c e f r = let P : View → Type 0 = λ v. Right v e in subst P f.view r

  -- where nothing changed
  same : (h : History) (c d : Card S) → d ≡ c → Follows contents start h c → Follows contents start h d
  same h c d e f = let P : Card S → Type 0 = λ x. Follows contents start h x in subst P (sym e) f

  pub follow : (h : History) (c : Card S) (e : Event) (d : Card S) → OneCall contents frame c e d → Follows contents start h c → Follows contents start (e ∷ h) d
  follow h c (SideRead s x n) d o f =
      let g = same h c d o.changed f in
      record { view = g.view; sides = g.sides; law = record { right = (told h c (SideRead s x n) f o.right, g.law.right); stored = g.law.stored } }
  follow h c (SeatRead k n) d o f =
      let g = same h c d o.changed f in
      record { view = g.view; sides = g.sides; law = record { right = (told h c (SeatRead k n) f o.right, g.law.right); stored = g.law.stored } }
  follow h c (Cleared s) d o f =
      let usable = asked_yes (told h c (Cleared s) f o.right).asked in
      let near = asked_yes usable.1 in
      absurd (none_aside h c f s (asked_yes near.1).0)
  follow h c (Began k a i) d o f =
      let usable = asked_yes (told h c (Began k a i) f o.right).asked in
      let near = asked_yes usable.1 in
      let vacant = asked_yes near.1 in
      let P : Option ℕ → Type 0 = Given in
      absurd (subst P (none_current h) (asked_yes vacant.1).0)
  follow h c (Refused call r) d o f =
      let g = same h c d o.changed f in
      record { view = g.view; sides = g.sides; law = record { right = (told h c (Refused call r) f o.right, g.law.right); stored = g.law.stored } }

-- a list of the same value has it at each place
repeated : {A : Type 0} (n k : ℕ) (a : A) → get_or (replicate n a) k a ≡ a
repeated zero k a = refl
repeated (suc n) zero a = refl
repeated (suc n) (suc k) a = repeated n k a

-- the fields of a view, one by one
view_is : (u v : Bool) (p q : ℕ → SideState) (m n : ℕ → ℕ) (f g : ℕ → Option Begun) (x y : Option ℕ) → u ≡ v → p ≡ q → m ≡ n → f ≡ g → x ≡ y
    → ◌≡◌ {A = View} (record { usable = u; state = p; held = m; seat = f; current = x }) (record { usable = v; state = q; held = n; seat = g; current = y })
view_is u v p q m n f g x y a b c d e = cc

module _ {S : Type 0} (contents : S → Contents) (number : ℕ) (store : S) where
  -- a new card follows the history in which nothing was called
  pub begins : (c : Card S) → Built contents number store c → Lawful (contents store) → Follows contents (contents store) [] c
  begins c b l =
      let side : (s : ℕ) → get_or c.sides s fresh ≡ fresh = λ s. rw b.sides (repeated 3 s fresh) in
      let seat : (k : ℕ) → begun (get_or c.seats k None) ≡ None = λ k. rw b.seats (ap begun (repeated 8 k None)) in
      record {
        view = view_is _ _ _ _ _ _ _ _ _ _ b.usable (fun_ext (λ s. ap (λ (x : Side). x.state) (side s))) (fun_ext (λ s. ap (λ (x : Side). x.held) (side s))) (fun_ext seat) b.current;
        sides = record { holding = λ s. refl; forced = λ s e. absurd (nothing e) };
        law = record {
          right = tt;
          stored = rw b.on (record { exact = λ q. refl; count = omega arith; capacity = refl; counted = omega (arith, l.counts) });
        };
      }
