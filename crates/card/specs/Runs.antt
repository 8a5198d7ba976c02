-- Runs of calls.
use Rattle.std.specs.Prelude.{◌≡◌, ℕ, List, [], ◌∷◌, map, Some, Option, slice_set}
use Rattle.store.specs.Meaning.{Contents}
use Rattle.card.specs.declared.tickets.LookupTicket.{LookupTicket}
use Rattle.card.specs.declared.cards.Card.{Card}
use Rattle.card.specs.declared.events.Call.{Call}
use Rattle.card.specs.declared.events.Event.{Event}
use Rattle.card.specs.declared.events.Event.TheVariants.{SideRead, SeatRead, Cleared, Began, Refused}
use Rattle.card.specs.Views.{call_of}
use Rattle.card.specs.Histories.{History}
use Rattle.card.specs.Laws.{Law}
use Rattle.card.specs.Calls.{OneCall}
use Rattle.card.specs.Following.{Built, Follows}

-- The history that goes on by the events, the first of them the oldest.
abbrev pub onto : List Event → History → History
onto [] h = h
onto (e ∷ es) h = onto es (e ∷ h)

-- The ticket box after an event on the card of a number: a look-up that began leaves its ticket.
abbrev pub filed : ℕ → List (Option LookupTicket) → Event → List (Option LookupTicket)
filed number box (SideRead s x n) = box
filed number box (SeatRead k n) = box
filed number box (Cleared s) = box
filed number box (Began k a i) = slice_set box i (Some (record { card = number; seat = k }))
filed number box (Refused c r) = box

abbrev pub all_filed : ℕ → List (Option LookupTicket) → List Event → List (Option LookupTicket)
all_filed number box [] = box
all_filed number box (e ∷ es) = all_filed number (filed number box e) es

-- A card goes to another by calls with their answers, and the law holds after each of them.
abbrev pub Passes : {S F : Type 0} → (S → Contents) → (S → F) → Contents → History → List Event → Card S → Card S → Type 0
Passes contents frame start h [] c d = d ≡ c
Passes {S} contents frame start h (e ∷ es) c d =
    (m : Card S) × OneCall contents frame c e m × Law start (e ∷ h) (contents m.store) × Passes contents frame start (e ∷ h) es m d

-- A card goes from one to the other by the calls, with these answers. For every history that it
-- followed before, the law holds after each of them, and it follows the history that they make. What no
-- call of the store changes stays as it was.
pub record Went {S F : Type 0} (contents : S → Contents) (frame : S → F) (c : Card S) (calls : List Call) (events : List Event) (d : Card S) : Type 0 where
  pub repeats : map call_of events ≡ calls
  pub passes : (start : Contents) (h : History) → Follows contents start h c → Passes contents frame start h events c d
  pub follows : (start : Contents) (h : History) → Follows contents start h c → Follows contents start (onto events h) d
  pub framed : frame d.store ≡ frame c.store

-- The run of a new card: it was built on the store, the events are the calls with their answers, and the
-- law holds after each of them. What no call of the store changes is as it was.
pub record Ran {S F : Type 0} (contents : S → Contents) (frame : S → F) (number : ℕ) (store : S) (calls : List Call) (events : List Event) (card : Card S) : Type 0 where
  pub repeats : map call_of events ≡ calls
  pub new : Card S
  pub built : Built contents number store new
  pub passes : Passes contents frame (contents store) [] events new card
  pub law : Law (contents store) (onto events []) (contents card.store)
  pub framed : frame card.store ≡ frame store
