-- A log that grows at its end.
use Rattle.std.proofs.Common.{◌≡◌, ℕ, ◌+◌, ◌<◌, ◌≤◌, List, [], ◌∷◌, ◌++◌, map, length, get_or, take, Option, sym, refl, ap, ◌∙◌, subst}
use Rattle.std.proofs.lemmas.List.{take_more, take_all}
use Rattle.store.specs.Meaning.{Contents}
use Rattle.card.specs.declared.tickets.LookupTicket.{LookupTicket}
use Rattle.card.specs.declared.cards.Card.{Card}
use Rattle.card.specs.declared.events.Call.{Call}
use Rattle.card.specs.declared.events.Event.{Event}
use Rattle.card.specs.declared.events.Event.TheVariants.{SideRead, SeatRead, Cleared, Began, Refused}
use Rattle.card.specs.Views.{call_of}
use Rattle.card.specs.Histories.{History}
use Rattle.card.specs.Calls.{OneCall, Changed}
use Rattle.card.specs.Following.{Follows}
use Rattle.card.specs.Runs.{onto, filed, all_filed, Passes, Went}
use Rattle.card.proofs.Steps.{follow}

onto_push : (es : List Event) (e : Event) (h : History) → onto (es ++ e ∷ []) h ≡ e ∷ onto es h
onto_push [] e h = refl
onto_push (x ∷ es) e h = onto_push es e (x ∷ h)

filed_push : (n : ℕ) (box : List (Option LookupTicket)) (es : List Event) (e : Event) → all_filed n box (es ++ e ∷ []) ≡ filed n (all_filed n box es) e
filed_push n box [] e = refl
filed_push n box (x ∷ es) e = filed_push n (filed n box x) es e

pub filed_more : (n m : ℕ) (box start : List (Option LookupTicket)) (es later : List Event) (e : Event) → later ≡ es ++ e ∷ [] → n ≡ m → box ≡ all_filed m start es → filed n box e ≡ all_filed m start later
filed_more n m box start es later e eq same b = let f = filed_push m start es e in cc

calls_push : (es : List Event) (e : Event) → map call_of (es ++ e ∷ []) ≡ map call_of es ++ call_of e ∷ []
calls_push [] e = refl
calls_push (x ∷ es) e = ap (λ l. call_of x ∷ l) (calls_push es e)

-- no call changes the card's number
pub same_number : {S : Type 0} (contents : S → Contents) (c : Card S) (e : Event) (d : Card S) → Changed contents c e d → d.number ≡ c.number
same_number contents c (SideRead s x n) d o = ap (λ k. k.number) o
same_number contents c (SeatRead k n) d o = ap (λ k. k.number) o
same_number contents c (Cleared s) d o = o.number
same_number contents c (Began k a i) d o = o.number
same_number contents c (Refused call r) d o = ap (λ k. k.number) o

module _ {S F : Type 0} (contents : S → Contents) (frame : S → F) where
  passes_push : (start : Contents) (h : History) (es : List Event) (e : Event) (c m d : Card S)
      → Passes contents frame start h es c m → OneCall contents frame m e d → Follows contents start (onto es h) m → Passes contents frame start h (es ++ e ∷ []) c d
  passes_push start h [] e c m d p o f =
      let P : Card S → Type 0 = λ x. OneCall contents frame x e d in
      (d, subst P p o, (follow contents frame start h m e d o f).law, refl)
  passes_push start h (x ∷ es) e c m d p o f = (p.0, p.1, p.2, passes_push start (x ∷ h) es e p.0 m d p.3 o f)

  -- one call more
  pub went_more : (calls : List Call) (i : ℕ) (k : Call) (es later : List Event) (e : Event) (c m d : Card S)
      → i < length calls → later ≡ es ++ e ∷ [] → call_of e ≡ get_or calls i k → OneCall contents frame m e d
      → Went contents frame c (take i calls) es m → Went contents frame c (take (i + 1) calls) later d
  went_more calls i k es later e c m d lt eq call o w =
      let P : List Event → Type 0 = λ l. Went contents frame c (take (i + 1) calls) l d in
      subst P (sym eq) (record {
        repeats = calls_push es e ∙ ap (λ l. l ++ call_of e ∷ []) w.repeats ∙ ap (λ x. take i calls ++ x ∷ []) call ∙ sym (take_more calls i k lt);
        passes = λ start h f. passes_push start h es e c m d (w.passes start h f) o (w.follows start h f);
        follows = λ start h f. (let Q : History → Type 0 = λ j. Follows contents start j d in
            subst Q (sym (onto_push es e h)) (follow contents frame start (onto es h) m e d o (w.follows start h f)));
        framed = o.framed ∙ w.framed;
      })

  pub went_none : (calls : List Call) (c : Card S) → Went contents frame c (take 0 calls) [] c
  went_none calls c = record { repeats = refl; passes = λ start h f. refl; follows = λ start h f. f; framed = refl }

  pub went_all : (calls : List Call) (i : ℕ) (es : List Event) (c d : Card S) → length calls ≤ i → Went contents frame c (take i calls) es d → Went contents frame c calls es d
  went_all calls i es c d le w = rw (take_all i calls le) at w
