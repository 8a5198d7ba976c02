-- A sheet as bytes, and what is read.
use Rattle.std.proofs.Common.{◌≡◌, ℕ, zero, suc, ◌+◌, ◌<◌, ◌≤◌, min, Bool, cond, List, [], ◌∷◌, ◌++◌, length, take, drop, Some, None, Ok, Err, Option, Result, sym, refl, ap, ◌∙◌, subst, inl, inr, append_assoc, arith, length-append, length-drop}
use Rattle.std.proofs.lemmas.List.{take_at}
use Rattle.std.proofs.lemmas.Bool.{cases_lt, lt-leb}
use Rattle.policy.specs.declared.rules.Rule.{Rule}
use Rattle.policy.specs.Letters.{IsWord}
use Rattle.faults.specs.declared.SheetFault.{SheetFault}
use Rattle.faults.specs.declared.SheetFault.TheVariants.{TooLong, NoPlace, NoLineFeed}
use Rattle.std.specs.List.{prefix_len}
use Rattle.sheet.specs.Sheets.{not_feed, Lined, good, bad, line_at, Answer, Answers, stopped, before, next_line, lines_at, sheet_says, coded, number_of}
use Rattle.sheet.specs.Meaning.{joined, Line, Means, nothing, line, OneMeaning, Settles}
use Rattle.sheet.proofs.Numbers.{past}
use Rattle.sheet.proofs.LinesRead.{line_found, line_only}
use Rattle.sheet.proofs.Turns.{at_end, no_place, on_line, no_feed, says}
use Rattle.sheet.proofs.Unfed.{Unfed, unfed_lacks, run_before}

-- Every word of the kind is without a line feed.
abbrev pub Worded : (List ℕ → Option ℕ) → Type 0
Worded code = (w : List ℕ) (c : ℕ) → code w ≡ Some c → Unfed w

abbrev pub is_clean : {A : Type 0} → List A → Answer A
is_clean xs = record { entries = xs; stop = None }

-- A line has a line feed.
line_fed : (code : List ℕ → Option ℕ) (s text rest : List ℕ) (rule : Rule) (at : ℕ) → Line code text rule → drop at s ≡ text ++ rest → at + prefix_len not_feed (drop at s) < length s
line_fed code s text rest rule at L d =
    let p = L.parts in
    let body : List ℕ = p.source ++ (44 ∷ (p.destination ++ (44 ∷ (p.source_port ++ (44 ∷ (p.destination_port ++ (44 ∷ (p.protocol ++ (44 ∷ p.word))))))))) in
    let split : joined p ++ rest ≡ body ++ (10 ∷ rest) = simp append_assoc in
    let e : drop at s ≡ body ++ (10 ∷ rest) = d ∙ ap (λ (t : List ℕ). t ++ rest) L.text_is ∙ split in
    let r = subst (λ (t : List ℕ). prefix_len not_feed t ≤ length body) (sym e) (run_before body rest) in
    let n = ap length e ∙ length-append body (10 ∷ rest) in
    let f = length-drop at s in
    omega (arith, r, n, f)

-- A line that a relation says the meaning of is found, and has its line feed; whatever is read is a line.
pub record LineFound {A : Type 0} (Line : List ℕ → A → Type 0) (reads : List ℕ → ℕ → ℕ → Lined A) : Type 0 where
  pub fed : (s text rest : List ℕ) (x : A) (at : ℕ) → Line text x → drop at s ≡ text ++ rest → at + prefix_len not_feed (drop at s) < length s
  pub found : (s text rest : List ℕ) (x : A) (l at : ℕ) → Line text x → drop at s ≡ text ++ rest → at ≤ length s → reads s l at ≡ good x (at + length text)

pub record Taken {A : Type 0} (Line : List ℕ → A → Type 0) (s : List ℕ) (at to : ℕ) (x : A) : Type 0 where
  pub text : List ℕ
  pub means : Line text x
  pub bytes : drop at s ≡ text ++ drop to s

abbrev pub LineOnly : {A : Type 0} → (List ℕ → A → Type 0) → (List ℕ → ℕ → ℕ → Lined A) → Type 0
LineOnly {A} Line reads = (s : List ℕ) (l at to : ℕ) (x : A) → reads s l at ≡ good x to → at + prefix_len not_feed (drop at s) < length s → Taken Line s at to x

module _ {A : Type 0} (Line : List ℕ → A → Type 0) (reads : List ℕ → ℕ → ℕ → Lined A) (all : LineFound Line reads) (s : List ℕ) where
  pub lines_found : (bytes : List ℕ) (xs : List A) → Means Line bytes xs → (m l at : ℕ) → drop at s ≡ bytes → length xs ≤ m → lines_at reads s m l at ≡ is_clean xs
  lines_found bytes xs nothing m l at d few = at_end reads s l at m (let n = ap length d in let f = length-drop at s in omega (arith, n, f))
  lines_found bytes xs (line {text} {rest} {x} {xs = others} L more) zero l at d few = absurd (omega arith)
  lines_found bytes xs (line {text} {rest} {x} {xs = others} L more) (suc m) l at d few =
      let fed = all.fed s text rest x at L d in
      let inside : at < length s = omega arith in
      on_line reads s l at (suc m) m refl inside fed
      ∙ ap (next_line (λ to. lines_at reads s m (l + 1) to)) (all.found s text rest x l at L d (omega arith))
      ∙ ap (before x) (lines_found rest others more m (l + 1) (at + length text) (past s text rest at d) (omega arith))

  pub single_meaning : OneMeaning Line s
  single_meaning xs ys a b =
      let m : ℕ = length xs + length ys in
      let p = lines_found s xs a m 1 0 refl (omega arith) in
      let q = lines_found s ys b m 1 0 refl (omega arith) in
      ap (λ (x : Answer A). x.entries) (sym p ∙ q)

pub never : {A : Type 0} (f : SheetFault) → Some f ≡ None → A
never f e = absurd (cc)

-- A sheet that is read to its end means its entries.
module _ {A : Type 0} (Line : List ℕ → A → Type 0) (reads : List ℕ → ℕ → ℕ → Lined A) (only : LineOnly Line reads) (s : List ℕ) where
  abbrev Meant : ℕ → Answer A → Type 0
  Meant at a = a.stop ≡ None → Means Line (drop at s) a.entries

  past_end : (at : ℕ) → length s ≤ at → drop at s ≡ []
  past_end at h = none (drop at s) (omega (arith, length-drop at s))
    where
      none : (t : List ℕ) → length t ≤ 0 → t ≡ []
      none [] h = refl
      none (x ∷ xs) h = absurd (omega arith)

  end_meant : (m l at : ℕ) → length s ≤ at → Meant at (lines_at reads s m l at)
  end_meant m l at h = subst (Meant at) (sym (at_end reads s l at m h)) (λ e. subst (λ (t : List ℕ). Means Line t []) (sym (past_end at h)) nothing)

  line_meant : (m l at : ℕ) (x : Lined A) → reads s l at ≡ x → at + prefix_len not_feed (drop at s) < length s →
      ((to : ℕ) → Meant to (lines_at reads s m (l + 1) to)) → Meant at (next_line (λ to. lines_at reads s m (l + 1) to) x)
  line_meant m l at (bad f) e fed rec h = never f h
  line_meant m l at (good x to) e fed rec h =
      let q = only s l at to x e fed in
      subst (λ (t : List ℕ). Means Line t (x ∷ (lines_at reads s m (l + 1) to).entries)) (sym q.bytes) (line q.means (rec to h))

  pub lines_meant : (m l at : ℕ) → Meant at (lines_at reads s m l at)
  lines_meant zero l at =
      elim (cases_lt at (length s)) [
        | inl h ↦ subst (Meant at) (sym (no_place reads s l at 0 refl h)) (λ e. never (NoPlace at l) e)
        | inr h ↦ end_meant 0 l at h
      ]
  lines_meant (suc m) l at =
      elim (cases_lt at (length s)) [
        | inl h ↦
            elim (cases_lt (at + prefix_len not_feed (drop at s)) (length s)) [
              | inl fed ↦ subst (Meant at) (sym (on_line reads s l at (suc m) m refl h fed)) (line_meant m l at (reads s l at) refl fed (λ to. lines_meant m (l + 1) to))
              | inr f ↦ subst (Meant at) (sym (no_feed reads s l at (suc m) m refl h f)) (λ e. never (NoLineFeed (length s) l) e)
            ]
        | inr h ↦ end_meant (suc m) l at h
      ]

  pub sheet_meant : (n : ℕ) → Meant 0 (sheet_says reads s n)
  sheet_meant n =
      elim (cases_lt 8192 (length s)) [
        | inl h ↦ subst (Meant 0) (sym (ap (λ (b : Bool). cond b (lines_at reads s (min n 64) 1 0) (stopped TooLong)) (lt-leb (length s) 8192 h))) (λ e. never TooLong e)
        | inr h ↦ subst (Meant 0) (sym (says reads s n h)) (lines_meant (min n 64) 1 0)
      ]

-- What the answer of a reading settles.
pub settled : {A : Type 0} (Line : List ℕ → A → Type 0) (reads : List ℕ → ℕ → ℕ → Lined A) (s : List ℕ) (was is : List A) (r : Result ℕ SheetFault) → LineFound Line reads → LineOnly Line reads →
    Answers (sheet_says reads s (length was)) was is r → Settles Line s was is r
settled {A} Line reads s was is (Ok n) all only a =
    let xs : List A = (sheet_says reads s (length was)).entries in
    let q : take n is ≡ xs = ap (take n) a.places ∙ take_at xs (drop (length xs) was) n (sym a.stops.1) in
    subst (Means Line s) (sym q) (sheet_meant Line reads only s (length was) a.stops.0)
settled {A} Line reads s was is (Err e) all only a =
    λ xs means short few fits.
    let p = says reads s (length was) short ∙ lines_found Line reads all s s xs means (min (length was) 64) 1 0 refl (omega arith) in
    never e (sym a.stops ∙ ap (λ (x : Answer A). x.stop) p)

-- Lines of rules.
pub rules_found : (code : List ℕ → Option ℕ) → Worded code → LineFound (Line code) (line_at code)
rules_found code worded =
    record {
      fed = λ s text rest x at L d. line_fed code s text rest x at L d;
      found = λ s text rest x l at L d h. line_found code s rest l at text x L (worded L.parts.word x.code L.word_means) d h;
    }

pub rules_only : (code : List ℕ → Option ℕ) → LineOnly (Line code) (line_at code)
rules_only code s l at to x e fed = let q = line_only code s l at x to e fed in record { text = q.text; means = q.means; bytes = q.bytes }

-- The words of a kind that keeps its law are without a line feed.
pub kind_worded : {D : Type 0} (named : List ℕ → Option D) (numbered : D → ℕ) (word_of : D → List ℕ) →
    ((w : List ℕ) (d : D) → named w ≡ Some d → word_of d ≡ w) → ((d : D) → IsWord (word_of d)) → Worded (coded named numbered)
kind_worded {D} named numbered word_of alone proper w c e = go (named w) refl e
  where
    go : (o : Option D) → named w ≡ o → number_of numbered o ≡ Some c → Unfed w
    go None q f = absurd (cc)
    go (Some d) q f = subst Unfed (alone w d q) (unfed_lacks (word_of d) (proper d).3)
