-- How a card follows the history of its calls.
use Rattle.std.specs.Prelude.{◌≡◌, ℕ, ◌<◌, ◌≤◌, List, length, replicate, Some, None, Option}
use Rattle.store.specs.declared.row.Row.{Row}
use Rattle.store.specs.Meaning.{Contents}
use Rattle.card.specs.declared.states.SideState.{SideState}
use Rattle.card.specs.declared.states.SideState.TheVariants.{Free, Loading, Ready, InForce, SetAside}
use Rattle.card.specs.declared.cards.Card.{Card}
use Rattle.card.specs.Sides.{fresh}
use Rattle.card.specs.Histories.{History, state_at, held_at, chain_at, current_at, seen}
use Rattle.card.specs.Laws.{Law, no_rows}
use Rattle.card.specs.Calls.{shown}

-- How many rows of its chain a side in a state may hold.
abbrev pub Holding : SideState → ℕ → ℕ → Type 0
Holding Free n all = n ≡ 0
Holding Loading n all = n < all
Holding Ready n all = (n ≡ all) × (0 < all)
Holding InForce n all = (n ≡ all) × (0 < all)
Holding SetAside n all = (0 < n) × (n ≤ all)

-- A card as it is built.
pub record Built {S : Type 0} (contents : S → Contents) (number : ℕ) (store : S) (c : Card S) : Type 0 where
  pub numbered : c.number ≡ number
  pub on : c.store ≡ store
  pub usable : c.usable ≡ no_rows (contents store).rows
  pub sides : c.sides ≡ replicate 3 fresh
  pub seats : c.seats ≡ replicate 8 None
  pub current : c.current ≡ None

-- What holds of the sides: how many rows each holds, and that the side in force is in that state.
pub record Sided (state : ℕ → SideState) (held : ℕ → ℕ) (chain : ℕ → List Row) (current : Option ℕ) : Type 0 where
  pub holding : (s : ℕ) → Holding (state s) (held s) (length (chain s))
  pub forced : (s : ℕ) → current ≡ Some s → state s ≡ InForce

-- A card that was built on a store with the contents `start`, after the calls and answers `h`.
pub record Follows {S : Type 0} (contents : S → Contents) (start : Contents) (h : History) (c : Card S) : Type 0 where
  -- the card shows what the calls and answers tell
  pub view : shown c ≡ seen (no_rows start.rows) h
  pub sides : Sided (state_at h) (held_at h) (chain_at h) (current_at h)
  pub law : Law start h (contents c.store)
