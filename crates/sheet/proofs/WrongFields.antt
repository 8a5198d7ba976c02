-- Where the reading of a field stops.
use Rattle.std.proofs.Common.{◌≡◌, ℕ, zero, suc, ◌+◌, ◌≤◌, Bool, true, false, cond, List, [], ◌∷◌, ◌++◌, length, drop, Some, None, Option, sym, refl, ap, ◌∙◌, subst, inl, inr, arith}
use Rattle.std.proofs.lemmas.Bool.{cases_Bool}
use Rattle.policy.specs.declared.rules.Range.{Range}
use Rattle.faults.specs.declared.Spot.{Spot}
use Rattle.sheet.specs.declared.tokens.Mark.TheVariants.{Comma}
use Rattle.faults.specs.declared.FieldFault.{FieldFault}
use Rattle.faults.specs.declared.FieldFault.TheVariants.{IllMade, Misfit, OutOfRange}
use Rattle.sheet.specs.Tokens.{Tok, token, size}
use Rattle.sheet.specs.Forms.{Want, position, fits, figures, after, ended, Read, got, fault, noted, went, turn, walk, address_form, port_form, protocol_form}
use Rattle.sheet.specs.Lines.{spot, and_then, ranges_at}
use Rattle.sheet.specs.Readings.{address_of, port_of, protocol_of, address_at, port_at, protocol_at, meant, ranged}
use Rattle.sheet.specs.Meaning.{Address, Port}
use Rattle.sheet.specs.Refusing.{here, next, IllMadeAt, MisfitAt, FieldStops, RightField, FieldWrong, in_source, in_destination, in_source_port, in_destination_port, in_protocol}
use Rattle.sheet.proofs.AddressesRead.{address_only}
use Rattle.sheet.proofs.Ports.{port_only}
use Rattle.sheet.proofs.Sound.{Only}

-- No way is longer than k.
abbrev Deep : ℕ → List (List Want) → Type 0
Deep k [] = Unit {0}
Deep k (w ∷ ways) = (length w ≤ k) × Deep k ways

after_deep : (k : ℕ) (t : Tok) (ways : List (List Want)) → Deep (suc k) ways → Deep k (after t ways)
after_deep k t [] h = tt
after_deep k t ([] ∷ ways) h = after_deep k t ways h.1
after_deep k t ((w ∷ ws) ∷ ways) h =
    elim (fits w t) as (λ b. Deep k (cond b (ws ∷ after t ways) (after t ways))) [ true ↦ (let n = h.0 in omega arith, after_deep k t ways h.1) | false ↦ after_deep k t ways h.1 ]

shallow : (w : List Want) (ways : List (List Want)) → Deep 0 (w ∷ ways) → ended (w ∷ ways) ≡ false → ⊥
shallow [] ways h e = let z : ◌≡◌ {A = ℕ} 0 1 = cc in omega arith
shallow (x ∷ w) ways h e = let n = h.0 in omega arith

never : {A : Type 0} (ns : List ℕ) (to : ℕ) (e : FieldFault) → got ns to ≡ fault e → A
never ns to e h = absurd (cc)

fault_same : {A : Type 0} (f e : FieldFault) → ◌≡◌ {A = Read A} (fault f) (fault e) → f ≡ e
fault_same f e h = cc

noted_fault : (ns : List ℕ) (x : Read (List ℕ)) (e : FieldFault) → noted ns x ≡ fault e → x ≡ fault e
noted_fault ns (got ms to) e h = never (ns ++ ms) to e h
noted_fault ns (fault f) e h = h

-- A fault of the tokens of a field.
abbrev TokenStops : List (List Want) → List ℕ → Spot → ℕ → FieldFault → Type 0
TokenStops ways s p at (IllMade f) = (f.position.spot ≡ p) × IllMadeAt s ways at f.position.at
TokenStops ways s p at (Misfit to) = (to.spot ≡ p) × MisfitAt s ways at to.at
TokenStops ways s p at (OutOfRange from) = ⊥

module _ (s : List ℕ) (p : Spot) (ways : List (List Want)) (at : ℕ) (t : Tok) (made : token (drop at s) ≡ Some t) where
  further : (w : List Want) (others : List (List Want)) (e : FieldFault) → after t ways ≡ w ∷ others → ended (w ∷ others) ≡ false → TokenStops (w ∷ others) s p (at + size t) e → TokenStops ways s p at e
  further w others (IllMade f) a n h = (h.0, record { left = h.1.left; reached = next t w others made a n h.1.reached; ill = h.1.ill })
  further w others (Misfit to) a n h = (h.0, record { left = h.1.left; t = h.1.t; reached = next t w others made a n h.1.reached; made = h.1.made; none = h.1.none })
  further w others (OutOfRange from) a n h = absurd h

  went_stops : (k : ℕ) (f : List (List Want) → ℕ → Read (List ℕ)) → ((w : List Want) (others : List (List Want)) (e : FieldFault) → Deep k (w ∷ others) → ended (w ∷ others) ≡ false → f (w ∷ others) (at + size t) ≡ fault e → TokenStops (w ∷ others) s p (at + size t) e) →
      (left : List (List Want)) → after t ways ≡ left → Deep k left → (e : FieldFault) → went p f t at left ≡ fault e → TokenStops ways s p at e
  went_stops k f rec [] a deep e h =
      subst (TokenStops ways s p at) (fault_same (Misfit (position at p)) e h) (refl, record { left = ways; t = t; reached = here; made = made; none = a })
  went_stops k f rec (w ∷ others) a deep e h =
      elim (cases_Bool (ended (w ∷ others))) [
        | inl y ↦ never (figures t) (at + size t) e (ap (λ (b : Bool). cond b (got (figures t) (at + size t)) (noted (figures t) (f (w ∷ others) (at + size t)))) (sym y) ∙ h)
        | inr n ↦
            further w others e a n
            (rec w others e deep n (noted_fault (figures t) (f (w ∷ others) (at + size t)) e (ap (λ (b : Bool). cond b (got (figures t) (at + size t)) (noted (figures t) (f (w ∷ others) (at + size t)))) (sym n) ∙ h)))
      ]

turn_stops : (s : List ℕ) (p : Spot) (ways : List (List Want)) (at k : ℕ) (f : List (List Want) → ℕ → Read (List ℕ)) →
    ((w : List Want) (others : List (List Want)) (m : ℕ) (e : FieldFault) → Deep k (w ∷ others) → ended (w ∷ others) ≡ false → f (w ∷ others) m ≡ fault e → TokenStops (w ∷ others) s p m e) →
    Deep (suc k) ways → (o : Option Tok) → token (drop at s) ≡ o → (e : FieldFault) → turn p f ways at o ≡ fault e → TokenStops ways s p at e
turn_stops s p ways at k f rec deep None made e h =
    subst (TokenStops ways s p at) (fault_same (IllMade (record { position = position at p })) e h) (refl, record { left = ways; reached = here; ill = made })
turn_stops s p ways at k f rec deep (Some t) made e h =
    went_stops s p ways at t made k f (λ w others g d n q. rec w others (at + size t) g d n q) (after t ways) refl (after_deep k t ways deep) e h

walk_stops : (k : ℕ) (ways : List (List Want)) (s : List ℕ) (p : Spot) (at : ℕ) (e : FieldFault) → Deep (suc k) ways → walk (suc k) ways s p at ≡ fault e → TokenStops ways s p at e
walk_stops zero ways s p at e deep h =
    turn_stops s p ways at 0 (λ ws to. walk 0 ws s p to) (λ w others m g d n q. absurd (shallow w others d n)) deep (token (drop at s)) refl e h
walk_stops (suc k) ways s p at e deep h =
    turn_stops s p ways at (suc k) (λ ws to. walk (suc k) ws s p to) (λ w others m g d n q. walk_stops k (w ∷ others) s p m g d q) deep (token (drop at s)) refl e h

-- What is wrong with a field.
as_field : (ways : List (List Want)) (range : List ℕ → Option Range) (s : List ℕ) (p : Spot) (at : ℕ) (e : FieldFault) → TokenStops ways s p at e → FieldStops ways range s p at e
as_field ways range s p at (IllMade f) h = h
as_field ways range s p at (Misfit to) h = h
as_field ways range s p at (OutOfRange from) h = absurd h

ranged_stops : (ways : List (List Want)) (range : List ℕ → Option Range) (s : List ℕ) (p : Spot) (at k to : ℕ) (ns : List ℕ) (o : Option Range) (e : FieldFault) → walk k ways s p at ≡ got ns to → range ns ≡ o → ranged p at to o ≡ fault e → FieldStops ways range s p at e
ranged_stops ways range s p at k to ns (Some x) e w r h = absurd (cc)
ranged_stops ways range s p at k to ns None e w r h =
    subst (FieldStops ways range s p at) (fault_same (OutOfRange (position at p)) e h) (refl, record { most = k; p = p; ns = ns; to = to; tokens = w; none = r })

field_stops : (k : ℕ) (ways : List (List Want)) (range : List ℕ → Option Range) (s : List ℕ) (p : Spot) (at : ℕ) (e : FieldFault) → Deep (suc k) ways → (x : Read (List ℕ)) → walk (suc k) ways s p at ≡ x → meant range p at x ≡ fault e → FieldStops ways range s p at e
field_stops k ways range s p at e deep (got ns to) w h = ranged_stops ways range s p at (suc k) to ns (range ns) e w refl h
field_stops k ways range s p at e deep (fault f) w h = as_field ways range s p at e (walk_stops k ways s p at e deep (w ∙ ap fault (fault_same f e h)))

address_stops : (s : List ℕ) (p : Spot) (at : ℕ) (e : FieldFault) → address_at s p at ≡ fault e → FieldStops address_form address_of s p at e
address_stops s p at e h = field_stops 9 address_form address_of s p at e (omega arith, (omega arith, tt)) (walk 10 address_form s p at) refl h

port_stops : (s : List ℕ) (p : Spot) (at : ℕ) (e : FieldFault) → port_at s p at ≡ fault e → FieldStops port_form port_of s p at e
port_stops s p at e h = field_stops 3 port_form port_of s p at e (omega arith, (omega arith, (omega arith, tt))) (walk 4 port_form s p at) refl h

protocol_stops : (s : List ℕ) (p : Spot) (at : ℕ) (e : FieldFault) → protocol_at s p at ≡ fault e → FieldStops protocol_form protocol_of s p at e
protocol_stops s p at e h =
    field_stops 1 protocol_form protocol_of s p at e (omega arith, (omega arith, (omega arith, (omega arith, (omega arith, tt))))) (walk 2 protocol_form s p at) refl h

right : (reads : List ℕ → Spot → ℕ → Read Range) (means : List ℕ → Range → Type 0) → Only Comma reads means → (s : List ℕ) (p : Spot) (at to : ℕ) (x : Range) → reads s p at ≡ got x to → RightField means s at to
right reads means only s p at to x h = let q = only s p at to x h in record { text = q.text; range = x; right = q.right; bytes = q.bytes }

-- One field after another.
module _ (s : List ℕ) (l from : ℕ) (e : FieldFault) where
  from_5 : (m n o q : ℕ) → RightField Address s from m → RightField Address s m n → RightField Port s n o → RightField Port s o q → (a b c d : Range) (x : Read Range) → protocol_at s (spot l 5) q ≡ x →
      and_then x (λ i j. got (a ∷ b ∷ c ∷ d ∷ i ∷ []) j) ≡ fault e → FieldWrong s l from e
  from_5 m n o q r1 r2 r3 r4 a b c d (got i j) h w = absurd (cc)
  from_5 m n o q r1 r2 r3 r4 a b c d (fault g) h w = in_protocol m n o q r1 r2 r3 r4 (protocol_stops s (spot l 5) q e (h ∙ ap fault (fault_same g e w)))

  from_4 : (m n o : ℕ) → RightField Address s from m → RightField Address s m n → RightField Port s n o → (a b c : Range) (x : Read Range) → port_at s (spot l 4) o ≡ x →
      and_then x (λ g h. and_then (protocol_at s (spot l 5) h) (λ i j. got (a ∷ b ∷ c ∷ g ∷ i ∷ []) j)) ≡ fault e → FieldWrong s l from e
  from_4 m n o r1 r2 r3 a b c (got d q) h w = from_5 m n o q r1 r2 r3 (right port_at Port port_only s (spot l 4) o q d h) a b c d (protocol_at s (spot l 5) q) refl w
  from_4 m n o r1 r2 r3 a b c (fault g) h w = in_destination_port m n o r1 r2 r3 (port_stops s (spot l 4) o e (h ∙ ap fault (fault_same g e w)))

  from_3 : (m n : ℕ) → RightField Address s from m → RightField Address s m n → (a b : Range) (x : Read Range) → port_at s (spot l 3) n ≡ x →
      and_then x (λ c f. and_then (port_at s (spot l 4) f) (λ g h. and_then (protocol_at s (spot l 5) h) (λ i j. got (a ∷ b ∷ c ∷ g ∷ i ∷ []) j))) ≡ fault e → FieldWrong s l from e
  from_3 m n r1 r2 a b (got c o) h w = from_4 m n o r1 r2 (right port_at Port port_only s (spot l 3) n o c h) a b c (port_at s (spot l 4) o) refl w
  from_3 m n r1 r2 a b (fault g) h w = in_source_port m n r1 r2 (port_stops s (spot l 3) n e (h ∙ ap fault (fault_same g e w)))

  from_2 : (m : ℕ) → RightField Address s from m → (a : Range) (x : Read Range) → address_at s (spot l 2) m ≡ x →
      and_then x (λ b d. and_then (port_at s (spot l 3) d) (λ c f. and_then (port_at s (spot l 4) f) (λ g h. and_then (protocol_at s (spot l 5) h) (λ i j. got (a ∷ b ∷ c ∷ g ∷ i ∷ []) j)))) ≡ fault e → FieldWrong s l from e
  from_2 m r1 a (got b n) h w = from_3 m n r1 (right address_at Address address_only s (spot l 2) m n b h) a b (port_at s (spot l 3) n) refl w
  from_2 m r1 a (fault g) h w = in_destination m r1 (address_stops s (spot l 2) m e (h ∙ ap fault (fault_same g e w)))

  from_1 : (x : Read Range) → address_at s (spot l 1) from ≡ x →
      and_then x (λ a k. and_then (address_at s (spot l 2) k) (λ b d. and_then (port_at s (spot l 3) d) (λ c f. and_then (port_at s (spot l 4) f) (λ g h. and_then (protocol_at s (spot l 5) h) (λ i j. got (a ∷ b ∷ c ∷ g ∷ i ∷ []) j))))) ≡ fault e → FieldWrong s l from e
  from_1 (got a m) h w = from_2 m (right address_at Address address_only s (spot l 1) from m a h) a (address_at s (spot l 2) m) refl w
  from_1 (fault g) h w = in_source (address_stops s (spot l 1) from e (h ∙ ap fault (fault_same g e w)))

  pub ranges_wrong : ranges_at s l from ≡ fault e → FieldWrong s l from e
  ranges_wrong h = from_1 (address_at s (spot l 1) from) refl h
