-- A turn of the loop over lines.
use Rattle.std.proofs.Common.{◌≡◌, ℕ, zero, suc, ◌+◌, ◌-◌, ◌<◌, ◌≤◌, min, Bool, cond, leb, List, [], ◌∷◌, ◌++◌, length, take, drop, set, None, Ok, Err, Result, sym, refl, ap, ◌∙◌, subst, append_assoc, append-nil, arith, length-take}
use Rattle.std.proofs.lemmas.Bool.{le-leb, lt-leb}
use Rattle.std.proofs.lemmas.List.{take_more_set, drop-set-lt, drop-drop, take-append-drop}
use Rattle.faults.specs.declared.SheetFault.{SheetFault}
use Rattle.faults.specs.declared.SheetFault.TheVariants.{TooLong, NoPlace, NoLineFeed}
use Rattle.std.specs.List.{prefix_len}
use Rattle.sheet.specs.Sheets.{Answer, Answers, stopped, before, next_line, lines_at, sheet_says, not_feed, HasFeed, LacksFeed, good, bad, Lined}

abbrev pub prefixed : {A : Type 0} → List A → Answer A → Answer A
prefixed rs a = record { entries = rs ++ a.entries; stop = a.stop }

abbrev pub clean : {A : Type 0} → Answer A
clean = record { entries = []; stop = None }

kept : {A : Type 0} (w : Answer A) (was is : List A) (n : ℕ) → w.entries ≡ take n is → drop n is ≡ drop n was → n ≤ length is → is ≡ w.entries ++ drop (length w.entries) was
kept {A = A} w was is n q d h =
    let k : length (take n is) ≡ n = simp length-take (omega arith) in
    sym
    (ap (λ (t : List A). t ++ drop (length t) was) q
    ∙ ap (λ (m : ℕ). take n is ++ drop m was) k
    ∙ ap (λ (t : List A). take n is ++ t) (sym d)
    ∙ take-append-drop n is)

pub ends_fault : {A : Type 0} (w : Answer A) (was is : List A) (n : ℕ) (e : SheetFault) → w ≡ prefixed (take n is) (stopped e) → drop n is ≡ drop n was → n ≤ length is → Answers w was is (Err e)
ends_fault {A = A} w was is n e h d l =
    record { stops = ap (λ (a : Answer A). a.stop) h; places = kept w was is n (ap (λ (a : Answer A). a.entries) h ∙ append-nil (take n is)) d l }

pub ends_clean : {A : Type 0} (w : Answer A) (was is : List A) (n : ℕ) → w ≡ prefixed (take n is) clean → drop n is ≡ drop n was → n ≤ length is → Answers w was is (Ok n)
ends_clean {A = A} w was is n h d l =
    let q = ap (λ (a : Answer A). a.entries) h ∙ append-nil (take n is) in
    let k : length (take n is) ≡ n = simp length-take (omega arith) in
    record { stops = (ap (λ (a : Answer A). a.stop) h, sym (ap length q ∙ k)); places = kept w was is n q d l }

module _ {A : Type 0} (line : List ℕ → ℕ → ℕ → Lined A) (s : List ℕ) (l at : ℕ) where
  pub at_end : (m : ℕ) → length s ≤ at → lines_at line s m l at ≡ clean
  at_end zero h = rw (le-leb (length s) at h)
  at_end (suc m) h = rw (le-leb (length s) at h)

  pub no_place : (j : ℕ) → j ≡ 0 → at < length s → lines_at line s j l at ≡ stopped (NoPlace at l)
  no_place j z h = ap (λ (x : ℕ). lines_at line s x l at) z ∙ ap (λ (b : Bool). cond b clean (stopped (NoPlace at l))) (lt-leb (length s) at h)

  pub on_line : (j m : ℕ) → j ≡ suc m → at < length s → at + prefix_len not_feed (drop at s) < length s →
      lines_at line s j l at ≡ next_line (λ to. lines_at line s m (l + 1) to) (line s l at)
  on_line j m z h f =
      ap (λ (x : ℕ). lines_at line s x l at) z
      ∙ ap (λ (b : Bool). cond b clean (cond (leb (length s) (at + prefix_len not_feed (drop at s))) (stopped (NoLineFeed (length s) l)) (next_line (λ to. lines_at line s m (l + 1) to) (line s l at)))) (lt-leb (length s) at h)
      ∙ ap (λ (b : Bool). cond b (stopped (NoLineFeed (length s) l)) (next_line (λ to. lines_at line s m (l + 1) to) (line s l at))) (lt-leb (length s) (at + prefix_len not_feed (drop at s)) f)

  pub no_feed : (j m : ℕ) → j ≡ suc m → at < length s → length s ≤ at + prefix_len not_feed (drop at s) → lines_at line s j l at ≡ stopped (NoLineFeed (length s) l)
  no_feed j m z h f =
      ap (λ (x : ℕ). lines_at line s x l at) z
      ∙ ap (λ (b : Bool). cond b clean (cond (leb (length s) (at + prefix_len not_feed (drop at s))) (stopped (NoLineFeed (length s) l)) (next_line (λ to. lines_at line s m (l + 1) to) (line s l at)))) (lt-leb (length s) at h)
      ∙ ap (λ (b : Bool). cond b (stopped (NoLineFeed (length s) l)) (next_line (λ to. lines_at line s m (l + 1) to) (line s l at))) (le-leb (length s) (at + prefix_len not_feed (drop at s)) f)

pub one_more : {A : Type 0} (is : List A) (n : ℕ) (r : A) (a : Answer A) → n < length is → prefixed (take n is) (before r a) ≡ prefixed (take (n + 1) (set is n r)) a
one_more {A = A} is n r a h =
    ap (λ (t : List A). record { entries = t; stop = a.stop })
    (sym (append_assoc (take n is) (r ∷ []) a.entries) ∙ ap (λ (t : List A). t ++ a.entries) (sym (take_more_set is n r h)))

drop_more : {A : Type 0} (is was : List A) (n : ℕ) → drop n is ≡ drop n was → drop (n + 1) is ≡ drop (n + 1) was
drop_more is was n d = sym (drop-drop 1 n is) ∙ ap (drop 1) d ∙ drop-drop 1 n was

pub dropped : {A : Type 0} (is was : List A) (n : ℕ) (r : A) → drop n is ≡ drop n was → drop (n + 1) (set is n r) ≡ drop (n + 1) was
dropped is was n r d = drop-set-lt (n + 1) is n r (omega arith) ∙ drop_more is was n d

pub says : {A : Type 0} (line : List ℕ → ℕ → ℕ → Lined A) (s : List ℕ) (n : ℕ) → length s ≤ 8192 → sheet_says line s n ≡ lines_at line s (min n 64) 1 0
says line s n h = rw (le-leb (length s) 8192 h)

-- A sheet that is too long, and one that is not.
pub too_long : {A : Type 0} (line : List ℕ → ℕ → ℕ → Lined A) (s : List ℕ) (was : List A) → 8192 < length s → Answers (sheet_says line s (length was)) was was (Err TooLong)
too_long {A = A} line s was h =
    subst (λ (a : Answer A). Answers a was was (Err TooLong)) (sym (ap (λ (b : Bool). cond b (lines_at line s (min (length was) 64) 1 0) (stopped TooLong)) (lt-leb (length s) 8192 h)))
    (record { stops = refl; places = refl })

pub not_too_long : {A : Type 0} (line : List ℕ → ℕ → ℕ → Lined A) (s : List ℕ) (was is : List A) (r : Result ℕ SheetFault) → length s ≤ 8192 → Answers (lines_at line s (min (length was) 64) 1 0) was is r → Answers (sheet_says line s (length was)) was is r
not_too_long {A = A} line s was is r h a = subst (λ (x : Answer A). Answers x was is r) (sym (says line s (length was) h)) a

-- What the loop over lines knows before line n + 1, which begins at byte `at`: what the lines before it say stands in
-- the first n places.
pub record Turn {A : Type 0} (line : List ℕ → ℕ → ℕ → Lined A) (s : List ℕ) (was is : List A) (n at : ℕ) : Type 0 where
  pub kept : drop n is ≡ drop n was
  pub so_far : lines_at line s (min (length was) 64) 1 0 ≡ prefixed (take n is) (lines_at line s (min (length was) 64 - n) (n + 1) at)

-- How a turn ends.
module _ {A : Type 0} {line : List ℕ → ℕ → ℕ → Lined A} {s : List ℕ} {was is : List A} {n at : ℕ} (turn : Turn line s was is n at) (few : n ≤ min (length was) 64) (long : length is ≡ length was) where
  ends : (a : Answer A) → lines_at line s (min (length was) 64 - n) (n + 1) at ≡ a → lines_at line s (min (length was) 64) 1 0 ≡ prefixed (take n is) a
  ends a h = turn.so_far ∙ ap (prefixed (take n is)) h

  pub exit_clean : length s ≤ at → Answers (lines_at line s (min (length was) 64) 1 0) was is (Ok n)
  exit_clean h = ends_clean _ was is n (ends clean (at_end line s (n + 1) at _ h)) turn.kept (omega arith)

  pub exit_place : min (length was) 64 ≤ n → at < length s → Answers (lines_at line s (min (length was) 64) 1 0) was is (Err (NoPlace at (n + 1)))
  exit_place full h = ends_fault _ was is n (NoPlace at (n + 1)) (ends (stopped (NoPlace at (n + 1))) (no_place line s (n + 1) at _ (omega arith) h)) turn.kept (omega arith)

  -- The reader is in sheet `s'` at byte `at'` of line l, which are these.
  module _ (s' : List ℕ) (at' l : ℕ) (es : s' ≡ s) (ea : at' ≡ at) (el : l ≡ n + 1) (h : at < length s) (room : n < min (length was) 64) where
    one_place : min (length was) 64 - n ≡ suc (min (length was) 64 - (n + 1))
    one_place = omega arith

    pub exit_feed : LacksFeed s' at' → Answers (lines_at line s (min (length was) 64) 1 0) was is (Err (NoLineFeed (length s) (n + 1)))
    exit_feed f =
        let f' = subst (λ (t : List ℕ). LacksFeed t at) es (subst (LacksFeed s') ea f) in
        ends_fault _ was is n (NoLineFeed (length s) (n + 1)) (ends (stopped (NoLineFeed (length s) (n + 1))) (no_feed line s (n + 1) at _ (min (length was) 64 - (n + 1)) one_place h f')) turn.kept (omega arith)

    on : HasFeed s' at' → (x : Lined A) → line s' l at' ≡ x →
        lines_at line s (min (length was) 64 - n) (n + 1) at ≡ next_line (λ to. lines_at line s (min (length was) 64 - (n + 1)) (n + 1 + 1) to) x
    on f x e =
        let f' = subst (λ (t : List ℕ). HasFeed t at) es (subst (HasFeed s') ea f) in
        let here : line s (n + 1) at ≡ x = ap (λ (t : List ℕ). line t (n + 1) at) (sym es) ∙ ap (λ (m : ℕ). line s' m at) (sym el) ∙ ap (line s' l) (sym ea) ∙ e in
        on_line line s (n + 1) at _ (min (length was) 64 - (n + 1)) one_place h f' ∙ ap (next_line (λ to. lines_at line s (min (length was) 64 - (n + 1)) (n + 1 + 1) to)) here

    pub exit_line : (e : SheetFault) → HasFeed s' at' → line s' l at' ≡ bad e → Answers (lines_at line s (min (length was) 64) 1 0) was is (Err e)
    exit_line e f b = ends_fault _ was is n e (ends (stopped e) (on f (bad e) b)) turn.kept (omega arith)

    pub again : (r : A) (to : ℕ) → HasFeed s' at' → line s' l at' ≡ good r to → Turn line s was (set is n r) (n + 1) to
    again r to f b =
        record { kept = dropped is was n r turn.kept; so_far = turn.so_far ∙ ap (prefixed (take n is)) (on f (good r to) b) ∙ one_more is n r _ (omega arith) }
