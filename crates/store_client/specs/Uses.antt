-- What calls in a row do to a store's contents, and when two stores are alike.
use Rattle.std.specs.Prelude.{◌≡◌, ℕ, ◌<◌, List, [], ◌∷◌, length, Some, None, Option, Result, MatchResult, ◌≢◌}
use Rattle.questions.specs.Asking.{ask, accept, refusal}
use Rattle.store.specs.declared.row.Row.{Row}
use Rattle.store.specs.declared.row.StoreRefusal.{StoreRefusal}
use Rattle.store.specs.Rows.{find}
use Rattle.store.specs.Meaning.{Contents, Searched, Written, Erased, number}
use Rattle.store_client.specs.declared.Call.{Call}
use Rattle.store_client.specs.declared.Call.TheVariants.{Search, Write, Erase}
use Rattle.store_client.specs.declared.Outcome.{Outcome}
use Rattle.store_client.specs.declared.Outcome.TheVariants.{Found, Changed}

-- A call, what it comes to, and the contents before and after.
abbrev pub Performed : Contents → Call → Outcome → Contents → Type 0
Performed before (Search key) (Found r) after = Searched before key r after
Performed before (Search key) (Changed r) after = ⊥
Performed before (Write row) (Found r) after = ⊥
Performed before (Write row) (Changed r) after = Written before row r after
Performed before (Erase key) (Found r) after = ⊥
Performed before (Erase key) (Changed r) after = Erased before key r after

-- Two stores come to the same with each of the calls, made in turn.
abbrev pub AnsweredAlike : Contents → Contents → List Call → Contents → Contents → Type 0
AnsweredAlike s t [] s' t' = (s' ≡ s) × (t' ≡ t)
AnsweredAlike s t (c ∷ cs) s' t' = (o : Outcome) × (s1 t1 : Contents) × Performed s c o s1 × Performed t c o t1 × AnsweredAlike s1 t1 cs s' t'

-- Two stores are alike: each key has the same result in both, and they hold as many rows, have as much
-- room, and have made as many searches.
pub record Alike (s t : Contents) : Type 0 where
  pub finds : (q : ℕ) → find s.rows q ≡ find t.rows q
  pub held : length s.rows ≡ length t.rows
  pub capacity : s.capacity ≡ t.capacity
  pub tally : s.tally ≡ t.tally

-- A write asks its questions, and a search then finds the row. A refused write changes nothing, and
-- for other keys nothing changes at all.
pub record WrittenThenSearched (before : Contents) (row : Row) (r : Result (Option ℕ) StoreRefusal) (after : Contents) : Type 0 where
  pub asked : ask 40 (find before.rows row.key ≡ None) (ask 41 (length before.rows < before.capacity) accept) (refusal number r)
  pub finds : MatchResult r (λ o. o ≡ Some row.result) (λ _. after ≡ before)
  pub others : (q : ℕ) → (q ≢ row.key) → find after.rows q ≡ find before.rows q

-- An erase asks its question, and a search then finds none. A refused erase changes nothing, and for
-- other keys nothing changes at all.
pub record ErasedThenSearched (before : Contents) (key : ℕ) (r : Result (Option ℕ) StoreRefusal) (after : Contents) : Type 0 where
  pub asked : ask 42 (find before.rows key ≢ None) accept (refusal number r)
  pub finds : MatchResult r (λ o. o ≡ None) (λ _. after ≡ before)
  pub others : (q : ℕ) → (q ≢ key) → find after.rows q ≡ find before.rows q
