-- Where the reading of a sheet stops.
use Rattle.std.proofs.Common.{◌≡◌, ℕ, zero, suc, ◌+◌, ◌<◌, ◌≤◌, min, Bool, cond, eqb, List, [], ◌∷◌, ◌++◌, length, take, drop, Some, None, Ok, Err, Option, Result, sym, refl, ap, ◌∙◌, subst, inl, inr, append_assoc, append-nil, arith, length-append, length-drop, length-take, one-add}
use Rattle.std.proofs.lemmas.List.{take_at, take-append-drop}
use Rattle.std.proofs.lemmas.Bool.{cases_lt, lt-leb, cases_Bool, not-true, eqb-false}
use Rattle.policy.specs.declared.rules.Range.{Range}
use Rattle.policy.specs.declared.rules.Rule.{Rule}
use Rattle.policy.specs.Letters.{Lacks}
use Rattle.faults.specs.declared.Spot.{Spot}
use Rattle.faults.specs.declared.SheetFault.{SheetFault}
use Rattle.faults.specs.declared.SheetFault.TheVariants.{TooLong, NoPlace, NoLineFeed, Field, NoWord}
use Rattle.std.specs.List.{prefix_len}
use Rattle.sheet.specs.Forms.{position, Read, got, fault}
use Rattle.sheet.specs.Lines.{spot, ranges_at}
use Rattle.sheet.specs.Sheets.{not_feed, up_to_feed, Lined, good, bad, decided, with_decision, line_at, Answer, Answers, stopped, next_line, lines_at, sheet_says}
use Rattle.sheet.specs.Meaning.{Line, Means, nothing, line}
use Rattle.sheet.specs.Refusing.{Wordless, Wrong, StopsAt, Stopped, RefusesRightly, RefusalsRight}
use Rattle.sheet.proofs.LinesRead.{LineRead, line_only, got_same}
use Rattle.sheet.proofs.MeansRead.{never}
use Rattle.std.proofs.lemmas.List.Folds.{length-prefix_len}
use Rattle.sheet.proofs.WrongFields.{ranges_wrong}
use Rattle.sheet.proofs.Turns.{clean, at_end, no_place, on_line, no_feed, says}

-- Where the line feed is missing there is none.
first_other : (b : ℕ) (bs : List ℕ) → length (b ∷ bs) ≤ prefix_len not_feed (b ∷ bs) → (b ≡ 10 → ⊥) × (length bs ≤ prefix_len not_feed bs)
first_other b bs h =
    elim (cases_Bool (not_feed b)) [
      | inl w ↦ let n : prefix_len not_feed (b ∷ bs) ≡ suc (prefix_len not_feed bs) = rw (w, one-add) in (eqb-false b 10 (not-true (eqb b 10) w), omega (arith, n))
      | inr w ↦ let n : prefix_len not_feed (b ∷ bs) ≡ 0 = rw w in absurd (omega (arith, n))
    ]

unfed_lacks : (bs : List ℕ) → length bs ≤ prefix_len not_feed bs → Lacks 10 bs
unfed_lacks [] h k l e = absurd (omega arith)
unfed_lacks (b ∷ bs) h zero l e = (first_other b bs h).0 e
unfed_lacks (b ∷ bs) h (suc k) l e = unfed_lacks bs (first_other b bs h).1 k (omega arith) e

-- The five fields of a line were read, and its word is not one of the kind.
decided_bad : (r : List Range) (p : Spot) (at end : ℕ) (o : Option ℕ) (e : SheetFault) → decided r p at end o ≡ bad e → (o ≡ None) × (e ≡ NoWord (position at p))
decided_bad r p at end None e h = let q : NoWord (position at p) ≡ e = cc in (refl, sym q)
decided_bad r p at end (Some c) e h = absurd (cc)

module _ (code : List ℕ → Option ℕ) (s : List ℕ) (places count from : ℕ) (room : count < places) (fed : from + prefix_len not_feed (drop from s) < length s) where
  wordless : (r : List Range) (at : ℕ) → ranges_at s (count + 1) from ≡ got r at → code (up_to_feed s at) ≡ None → Wordless code s from at
  wordless r at e none =
      let rule : Rule = record { ranges = r; code = 0 } in
      let to : ℕ = min (at + prefix_len not_feed (drop at s) + 1) (length s) in
      let q : LineRead (λ w. Some 0) s (count + 1) from to rule = line_only (λ w. Some 0) s (count + 1) from rule to (ap (with_decision (λ w. Some 0) s (count + 1)) e) fed in
      let is_at : q.from ≡ at = (got_same r r q.from at (sym q.read ∙ e)).1 in
      let word : q.means.parts.word ≡ up_to_feed s at = q.word_is ∙ ap (up_to_feed s) is_at in
      let size : length q.means.parts.word ≡ prefix_len not_feed (drop at s) = ap length word ∙ length-prefix_len not_feed (drop at s) in
      let after : to ≡ at + suc (prefix_len not_feed (drop at s)) = q.after ∙ ap (λ (m : ℕ). m + suc (prefix_len not_feed (drop m s))) is_at in
      record {
        rule = rule;
        text = q.text;
        rest = drop to s;
        bytes = q.bytes;
        right = q.means;
        ends = sym q.end ∙ after ∙ ap (λ (k : ℕ). at + suc k) (sym size) ∙ omega arith;
        unknown = ap code word ∙ none;
      }

  wrong_line : (x : Read (List Range)) → ranges_at s (count + 1) from ≡ x → (e : SheetFault) → with_decision code s (count + 1) x ≡ bad e → Wrong code s places count from e
  wrong_line (fault f) h e b = let q : Field f ≡ e = cc in subst (Wrong code s places count from) q (room, ranges_wrong s (count + 1) from f h)
  wrong_line (got r at) h e b =
      let q = decided_bad r (spot (count + 1) 6) at (min (at + prefix_len not_feed (drop at s) + 1) (length s)) (code (up_to_feed s at)) e b in
      subst (Wrong code s places count from) (sym q.1) (room, refl, wordless r at h q.0)

-- One more line.
means_more : (code : List ℕ → Option ℕ) (bytes text : List ℕ) (rules : List Rule) (rule : Rule) → Means (Line code) bytes rules → Line code text rule → Means (Line code) (bytes ++ text) (rules ++ (rule ∷ []))
means_more code bytes text rules rule nothing L = subst (λ (t : List ℕ). Means (Line code) t (rule ∷ [])) (append-nil text) (line L nothing)
means_more code bytes text rules rule (line {text = first} {rest} {x = r} {xs = others} K more) L =
    subst (λ (t : List ℕ). Means (Line code) t (r ∷ (others ++ (rule ∷ [])))) (sym (append_assoc first rest text)) (line K (means_more code rest text others rule more L))

take_further : (s text : List ℕ) (at to : ℕ) → at ≤ length s → drop at s ≡ text ++ drop to s → to ≡ at + length text → take to s ≡ take at s ++ text
take_further s text at to h d e =
    let size : length (take at s ++ text) ≡ to = length-append (take at s) text ∙ ap (λ (k : ℕ). k + length text) (simp length-take (omega arith)) ∙ sym e in
    let split : s ≡ (take at s ++ text) ++ drop to s = sym (take-append-drop at s) ∙ ap (λ (t : List ℕ). take at s ++ t) d ∙ sym (append_assoc (take at s) text (drop to s)) in
    ap (take to) split ∙ take_at (take at s ++ text) (drop to s) to size

fault_is : (e f : SheetFault) → Some f ≡ Some e → f ≡ e
fault_is e f h = cc

module _ (code : List ℕ → Option ℕ) (s : List ℕ) (places : ℕ) where
  abbrev Halts : List Rule → Answer Rule → Type 0
  Halts done a = (e : SheetFault) → a.stop ≡ Some e → StopsAt code s places (done ++ a.entries) e

  halts_here : (done : List Rule) (at : ℕ) (f : SheetFault) → Means (Line code) (take at s) done → at < length s → Wrong code s places (length done) at f → Halts done (stopped f)
  halts_here done at f means h wrong e q =
      subst (λ (rules : List Rule). StopsAt code s places rules e) (sym (append-nil done))
      (record { from = at; inside = h; before = means; wrong = subst (Wrong code s places (length done) at) (fault_is e f q) wrong })

  halts_clean : (done : List Rule) → Halts done clean
  halts_clean done e q = never e (sym q)

  line_halts : (m at : ℕ) (done : List Rule) (x : Lined Rule) → line_at code s (length done + 1) at ≡ x → at < length s → at + prefix_len not_feed (drop at s) < length s → Means (Line code) (take at s) done → length done < places →
      ((to : ℕ) (more : List Rule) → Means (Line code) (take to s) more → length more ≡ length done + 1 → Halts more (lines_at (line_at code) s m (length done + 1 + 1) to)) →
      Halts done (next_line (λ to. lines_at (line_at code) s m (length done + 1 + 1) to) x)
  line_halts m at done (bad f) e h fed means room rec = halts_here done at f means h (wrong_line code s places (length done) at room fed (ranges_at s (length done + 1) at) refl f e)
  line_halts m at done (good rule to) e h fed means room rec =
      λ g q.
      let r = line_only code s (length done + 1) at rule to e fed in
      let more = means_more code (take at s) r.text done rule means r.means in
      let whole = subst (λ (t : List ℕ). Means (Line code) t (done ++ (rule ∷ []))) (sym (take_further s r.text at to (omega arith) r.bytes r.end)) more in
      subst (λ (rules : List Rule). StopsAt code s places rules g) (append_assoc done (rule ∷ []) _)
      (rec to (done ++ (rule ∷ [])) whole (length-append done (rule ∷ [])) g q)

  pub lines_halt : (m at : ℕ) (done : List Rule) (l : ℕ) → l ≡ length done + 1 → Means (Line code) (take at s) done → places ≡ m + length done → Halts done (lines_at (line_at code) s m l at)
  lines_halt zero at done l is means room =
      elim (cases_lt at (length s)) [
        | inl h ↦ subst (Halts done) (sym (no_place (line_at code) s l at 0 refl h)) (halts_here done at (NoPlace at l) means h (refl, is, omega arith))
        | inr h ↦ subst (Halts done) (sym (at_end (line_at code) s l at 0 h)) (halts_clean done)
      ]
  lines_halt (suc m) at done l is means room =
      elim (cases_lt at (length s)) [
        | inl h ↦
            elim (cases_lt (at + prefix_len not_feed (drop at s)) (length s)) [
              | inl fed ↦
                  subst (Halts done) (sym (on_line (line_at code) s l at (suc m) m refl h fed ∙ ap (λ (k : ℕ). next_line (λ to. lines_at (line_at code) s m (k + 1) to) (line_at code s k at)) is))
                  (line_halts m at done (line_at code s (length done + 1) at) refl h fed means (omega arith)
                  (λ to more after size. lines_halt m to more (length done + 1 + 1) (omega (arith, size)) after (omega (arith, size, room))))
              | inr f ↦
                  let n = length-drop at s in
                  subst (Halts done) (sym (no_feed (line_at code) s l at (suc m) m refl h f))
                  (halts_here done at (NoLineFeed (length s) l) means h (refl, is, omega arith, unfed_lacks (drop at s) (omega (arith, n))))
            ]
        | inr h ↦ subst (Halts done) (sym (at_end (line_at code) s l at (suc m) h)) (halts_clean done)
      ]

-- What a refusal says of the sheet.
too_long : (code : List ℕ → Option ℕ) (s : List ℕ) (was is : List Rule) (e : SheetFault) → 8192 < length s → Answers (sheet_says (line_at code) s (length was)) was is (Err e) → RefusesRightly code s was is e
too_long code s was is e h a =
    let says : sheet_says (line_at code) s (length was) ≡ stopped TooLong = ap (λ (b : Bool). cond b (lines_at (line_at code) s (min (length was) 64) 1 0) (stopped TooLong)) (lt-leb (length s) 8192 h) in
    let q : TooLong ≡ e = fault_is e TooLong (ap (λ (x : Answer Rule). x.stop) (sym says) ∙ a.stops) in
    subst (RefusesRightly code s was is) q (h, a.places ∙ ap (λ (x : Answer Rule). x.entries ++ drop (length x.entries) was) says)

as_stopped : (code : List ℕ → Option ℕ) (s : List ℕ) (was is : List Rule) (e : SheetFault) → Stopped code s was is e → RefusesRightly code s was is e
as_stopped code s was is TooLong h = absurd h.stops.wrong
as_stopped code s was is (NoPlace at l) h = h
as_stopped code s was is (NoLineFeed at l) h = h
as_stopped code s was is (Field f) h = h
as_stopped code s was is (NoWord at) h = h

short : (code : List ℕ → Option ℕ) (s : List ℕ) (was is : List Rule) (e : SheetFault) → length s ≤ 8192 → Answers (sheet_says (line_at code) s (length was)) was is (Err e) → RefusesRightly code s was is e
short code s was is e h a =
    let same = says (line_at code) s (length was) h in
    let n : ℕ = min (length was) 64 in
    as_stopped code s was is e
    (record {
      short = h;
      rules = (lines_at (line_at code) s n 1 0).entries;
      stands = a.places ∙ ap (λ (x : Answer Rule). x.entries ++ drop (length x.entries) was) same;
      stops = lines_halt code s n n 0 [] 1 refl nothing (omega arith) e (ap (λ (x : Answer Rule). x.stop) (sym same) ∙ a.stops);
    })

pub refused_rightly : (code : List ℕ → Option ℕ) (s : List ℕ) (was is : List Rule) (r : Result ℕ SheetFault) → Answers (sheet_says (line_at code) s (length was)) was is r → RefusalsRight code s was is r
refused_rightly code s was is (Ok n) a = tt
refused_rightly code s was is (Err e) a = elim (cases_lt 8192 (length s)) [ inl h ↦ too_long code s was is e h a | inr h ↦ short code s was is e h a ]
