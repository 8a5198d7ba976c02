-- A field's tokens one after another.
use Rattle.std.proofs.Common.{◌≡◌, ℕ, suc, ◌+◌, true, false, cond, List, [], ◌∷◌, ◌++◌, length, drop, Some, None, Ok, Option, sym, refl, ap, ◌∙◌, append_assoc}
use Rattle.std.proofs.Math.Path.{fun_ext}
use Rattle.std.specs.Str.Parse.{digits_value}
use Rattle.faults.specs.declared.FieldFault.{FieldFault}
use Rattle.faults.specs.declared.Spot.{Spot}
use Rattle.sheet.specs.declared.reader.Reader.{Reader}
use Rattle.sheet.specs.declared.tokens.Token.{Token}
use Rattle.sheet.specs.Calls.{seen, Took, InField}
use Rattle.sheet.specs.Tokens.{Tok, number, token, size}
use Rattle.sheet.specs.Forms.{Want, digits, Read, got, fault, noted, fits, went, turn, walk, way_at, address_form, address_rest}
use Rattle.sheet.specs.Headers.{dotted_form, number_way}
use Rattle.sheet.specs.Readings.{address_at, address_of, dotted_rest, meant}
use Rattle.sheet.specs.declared.tokens.Mark.TheVariants.{Slash, Comma}

-- What a walk does at a token that is known.
pub walk_at : (k : ℕ) (ways : List (List Want)) (s : List ℕ) (p : Spot) (at : ℕ) (o : Option Tok) → token (drop at s) ≡ o →
    walk (suc k) ways s p at ≡ turn p (λ ws to. walk k ws s p to) ways at o
walk_at k ways s p at o e = ap (λ (x : Option Tok). turn p (λ ws to. walk k ws s p to) ways at x) e

-- What was read, and then what follows it.
abbrev chained : Read (List ℕ) → (ℕ → Read (List ℕ)) → Read (List ℕ)
chained (got ns to) f = noted ns (f to)
chained (fault e) f = fault e

chained_chained : (x : Read (List ℕ)) (f g : ℕ → Read (List ℕ)) → chained (chained x f) g ≡ chained x (λ to. chained (f to) g)
chained_chained (fault e) f g = refl
chained_chained (got ns to) f g = joined ns (f to) g
  where
    joined : (ns : List ℕ) (y : Read (List ℕ)) (g : ℕ → Read (List ℕ)) → chained (noted ns y) g ≡ noted ns (chained y g)
    joined ns (fault e) g = refl
    joined ns (got ms to) g = again ns ms (g to)
      where
        again : (ns ms : List ℕ) (z : Read (List ℕ)) → noted (ns ++ ms) z ≡ noted ns (noted ms z)
        again ns ms (fault e) = refl
        again ns ms (got ls to) = ap (λ (l : List ℕ). got l to) (append_assoc ns ms ls)

two_turns : (p : Spot) (f g : List (List Want) → ℕ → Read (List ℕ)) (w v : Want) (ws : List Want) (at : ℕ) (o : Option Tok) → turn p f ((w ∷ v ∷ ws) ∷ []) at o ≡ chained (turn p g ((w ∷ []) ∷ []) at o) (f ((v ∷ ws) ∷ []))
two_turns p f g w v ws at None = refl
two_turns p f g w v ws at (Some t) =
    elim (fits w t) as (λ b. went p f t at (cond b ((v ∷ ws) ∷ []) []) ≡ chained (went p g t at (cond b ([] ∷ []) [])) (f ((v ∷ ws) ∷ []))) [ true ↦ refl | false ↦ refl ]

module _ (s : List ℕ) (p : Spot) where
  way_seq : (w v : Want) (ws : List Want) (at : ℕ) → way_at (w ∷ v ∷ ws) s p at ≡ chained (way_at (w ∷ []) s p at) (way_at (v ∷ ws) s p)
  unfolding way_at
  way_seq w v ws at = two_turns p (λ us to. walk (suc (length ws)) us s p to) (λ us to. walk 0 us s p to) w v ws at (token (drop at s))

  way_join : (w v : Want) (ws vs : List Want) (at : ℕ) → way_at ((w ∷ ws) ++ (v ∷ vs)) s p at ≡ chained (way_at (w ∷ ws) s p at) (way_at (v ∷ vs) s p)
  way_join w v [] vs at = way_seq w v vs at
  way_join w v (u ∷ us) vs at =
      way_seq w u (us ++ (v ∷ vs)) at
      ∙ ap (chained (way_at (w ∷ []) s p at)) (fun_ext (λ to. way_join u v us vs to))
      ∙ sym (ap (λ (x : Read (List ℕ)). chained x (way_at (v ∷ vs) s p)) (way_seq w u us at) ∙ chained_chained (way_at (w ∷ []) s p at) (way_at (u ∷ us) s p) (way_at (v ∷ vs) s p))

-- One part of a way after another.
pub then_ : (w v : Want) (ws vs : List Want) {was mid is : Reader} {ns : List ℕ} {x : Read (List ℕ)} → InField (way_at (w ∷ ws)) was mid (got ns mid.at) → InField (way_at (v ∷ vs)) mid is x →
    InField (way_at ((w ∷ ws) ++ (v ∷ vs))) was is (noted ns x)
then_ w v ws vs {was} {mid} {is} {ns} {x} a b =
    record {
      sheet = b.sheet ∙ a.sheet;
      spot = b.spot ∙ a.spot;
      told =
          way_join was.sheet.now was.spot w v ws vs was.at
          ∙ ap (λ (y : Read (List ℕ)). chained y (way_at (v ∷ vs) was.sheet.now was.spot)) a.told
          ∙ ap (noted ns) (ap (λ (t : List ℕ). way_at (v ∷ vs) t was.spot mid.at) (sym a.sheet) ∙ ap (λ (q : Spot). way_at (v ∷ vs) mid.sheet.now q mid.at) (sym a.spot) ∙ b.told);
    }

pub stops : (w v : Want) (ws vs : List Want) {was is : Reader} {e : FieldFault} → InField (way_at (w ∷ ws)) was is (fault e) → InField (way_at ((w ∷ ws) ++ (v ∷ vs))) was is (fault e)
stops w v ws vs {was} {is} {e} a =
    record {
      sheet = a.sheet;
      spot = a.spot;
      told = way_join was.sheet.now was.spot w v ws vs was.at ∙ ap (λ (y : Read (List ℕ)). chained y (way_at (v ∷ vs) was.sheet.now was.spot)) a.told;
    }

-- Four numbers with dots.
pub dotted_read : {was is : Reader} {x : Read (List ℕ)} → InField (way_at (digits ∷ dotted_rest Comma)) was is x → InField (walk 8 dotted_form) was is x
unfolding way_at
dotted_read f = f

-- An address that begins with a number.
pub address_number : {was mid is : Reader} {t : Token} {ds : List ℕ} {n : ℕ} {x : Read (List ℕ)} → Took was mid (Ok t) → seen t ≡ number ds → n ≡ digits_value 10 ds → InField (way_at (dotted_rest Slash ++ number_way Comma)) mid is x →
    InField address_at was is (meant address_of was.spot was.at (noted (n ∷ []) x))
unfolding way_at
address_number {was} {mid} {is} {t} {ds} {n} {x} took e v rest =
    let first : token (drop was.at was.sheet.now) ≡ Some (number ds) = took.taken.0 ∙ ap Some e in
    let end : mid.at ≡ was.at + length ds = took.taken.1 ∙ ap (λ (k : Tok). was.at + size k) e in
    record {
      sheet = rest.sheet ∙ took.sheet;
      spot = rest.spot ∙ took.spot;
      told =
          ap (meant address_of was.spot was.at)
          (walk_at 9 address_form was.sheet.now was.spot was.at (Some (number ds)) first
          ∙ ap (λ (m : ℕ). noted (m ∷ []) (walk 9 address_rest was.sheet.now was.spot (was.at + length ds))) (sym v)
          ∙ ap (λ (m : ℕ). noted (n ∷ []) (walk 9 address_rest was.sheet.now was.spot m)) (sym end)
          ∙ ap (λ (s : List ℕ). noted (n ∷ []) (walk 9 address_rest s was.spot mid.at)) (sym took.sheet)
          ∙ ap (λ (p : Spot). noted (n ∷ []) (walk 9 address_rest mid.sheet.now p mid.at)) (sym took.spot)
          ∙ ap (noted (n ∷ [])) rest.told);
    }
