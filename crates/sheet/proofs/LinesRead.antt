-- A line as bytes, and what is read.
use Rattle.std.proofs.Common.{◌≡◌, ℕ, suc, ◌+◌, ◌<◌, ◌≤◌, min, List, [], ◌∷◌, ◌++◌, length, take, drop, Some, None, Option, sym, refl, ap, ◌∙◌, subst, append_assoc, arith, length-append, length-drop}
use Rattle.std.proofs.lemmas.List.{take_at, drop-drop}
use Rattle.policy.specs.declared.rules.Range.{Range}
use Rattle.policy.specs.declared.rules.Rule.{Rule}
use Rattle.faults.specs.declared.Spot.{Spot}
use Rattle.std.specs.List.{prefix_len}
use Rattle.sheet.specs.Forms.{Read, got, fault}
use Rattle.sheet.specs.Readings.{address_at, port_at, protocol_at}
use Rattle.sheet.specs.Lines.{spot, and_then, ranges_at}
use Rattle.sheet.specs.Sheets.{not_feed, up_to_feed, good, decided, with_decision, line_at}
use Rattle.sheet.specs.Meaning.{Parts, joined, Line, Port, Address, Protocol}
use Rattle.sheet.proofs.Numbers.{past}
use Rattle.sheet.proofs.Ports.{port_found, port_only}
use Rattle.sheet.proofs.AddressesRead.{address_found, address_only}
use Rattle.sheet.proofs.Protocols.{protocol_found, protocol_only}
use Rattle.sheet.specs.declared.tokens.Mark.TheVariants.{Comma}
use Rattle.sheet.proofs.Sound.{FieldRead}
use Rattle.sheet.proofs.Unfed.{Unfed, unfed_port, unfed_address, unfed_protocol, run_free, split_feed}

-- What follows a field and its comma.
pub after_field : (s field rest : List ℕ) (at : ℕ) → drop at s ≡ field ++ (44 ∷ rest) → drop (at + (length field + 1)) s ≡ rest
after_field s field rest at e =
    let f = past s (44 ∷ []) rest (at + length field) (past s field (44 ∷ rest) at e) in
    let n : at + (length field + 1) ≡ at + length field + 1 = omega arith in
    ap (λ (k : ℕ). drop k s) n ∙ f

pub step : {A B : Type 0} (x : Read A) (a : A) (to : ℕ) (f : A → ℕ → Read B) (y : Read B) → x ≡ got a to → f a to ≡ y → and_then x f ≡ y
step x a to f y e h = ap (λ (r : Read _). and_then r f) e ∙ h

-- The bytes of a line from each field on, with what follows the line.
abbrev from_6 : Parts → List ℕ → List ℕ
from_6 p rest = p.word ++ (10 ∷ rest)

abbrev from_5 : Parts → List ℕ → List ℕ
from_5 p rest = p.protocol ++ (44 ∷ from_6 p rest)

abbrev from_4 : Parts → List ℕ → List ℕ
from_4 p rest = p.destination_port ++ (44 ∷ from_5 p rest)

abbrev from_3 : Parts → List ℕ → List ℕ
from_3 p rest = p.source_port ++ (44 ∷ from_4 p rest)

abbrev from_2 : Parts → List ℕ → List ℕ
from_2 p rest = p.destination ++ (44 ∷ from_3 p rest)

abbrev from_1 : Parts → List ℕ → List ℕ
from_1 p rest = p.source ++ (44 ∷ from_2 p rest)

pub apart : (p : Parts) (rest : List ℕ) → joined p ++ rest ≡ from_1 p rest
apart p rest = simp append_assoc

-- Where the fields begin.
abbrev start_2 : Parts → ℕ → ℕ
start_2 p at = at + (length p.source + 1)

abbrev start_3 : Parts → ℕ → ℕ
start_3 p at = start_2 p at + (length p.destination + 1)

abbrev start_4 : Parts → ℕ → ℕ
start_4 p at = start_3 p at + (length p.source_port + 1)

abbrev start_5 : Parts → ℕ → ℕ
start_5 p at = start_4 p at + (length p.destination_port + 1)

abbrev start_6 : Parts → ℕ → ℕ
start_6 p at = start_5 p at + (length p.protocol + 1)

long : (x : List ℕ) (y : List ℕ) (b : ℕ) → length (x ++ (b ∷ y)) ≡ length x + (1 + length y)
long x y b = length-append x (b ∷ y) ∙ ap (λ (n : ℕ). length x + n) (omega arith)

length_joined : (p : Parts) (at : ℕ) → at + length (joined p) ≡ start_6 p at + (length p.word + 1)
length_joined p at =
    let e6 = long p.word [] 10 in
    let e5 = long p.protocol (p.word ++ (10 ∷ [])) 44 in
    let e4 = long p.destination_port (from_5 p []) 44 in
    let e3 = long p.source_port (from_4 p []) 44 in
    let e2 = long p.destination (from_3 p []) 44 in
    let e1 = long p.source (from_2 p []) 44 in
    omega (arith, e1, e2, e3, e4, e5, e6)

module _ (code : List ℕ → Option ℕ) (s rest : List ℕ) (l at : ℕ) where
  ranges_found : (text : List ℕ) (rule : Rule) (L : Line code text rule) → drop at s ≡ from_1 L.parts rest → ranges_at s l at ≡ got rule.ranges (start_6 L.parts at)
  ranges_found text rule L d1 =
      let p = L.parts in
      let d2 = after_field s p.source (from_2 p rest) at d1 in
      let d3 = after_field s p.destination (from_3 p rest) (start_2 p at) d2 in
      let d4 = after_field s p.source_port (from_4 p rest) (start_3 p at) d3 in
      let d5 = after_field s p.destination_port (from_5 p rest) (start_4 p at) d4 in
      step (address_at s (spot l 1) at) p.sources (start_2 p at) _ _ (address_found s p.source (from_2 p rest) (spot l 1) at p.sources L.source_means d1)
      (step (address_at s (spot l 2) (start_2 p at)) p.destinations (start_3 p at) _ _ (address_found s p.destination (from_3 p rest) (spot l 2) (start_2 p at) p.destinations L.destination_means d2)
      (step (port_at s (spot l 3) (start_3 p at)) p.source_ports (start_4 p at) _ _ (port_found s p.source_port (from_4 p rest) (spot l 3) (start_3 p at) p.source_ports L.source_port_means d3)
      (step (port_at s (spot l 4) (start_4 p at)) p.destination_ports (start_5 p at) _ _ (port_found s p.destination_port (from_5 p rest) (spot l 4) (start_4 p at) p.destination_ports L.destination_port_means d4)
      (step (protocol_at s (spot l 5) (start_5 p at)) p.protocols (start_6 p at) _ _ (protocol_found s p.protocol (from_6 p rest) (spot l 5) (start_5 p at) p.protocols L.protocol_means d5)
      (ap (λ (r : List Range). got r (start_6 p at)) (sym L.ranges_are))))))

  pub line_found : (text : List ℕ) (rule : Rule) → (L : Line code text rule) → Unfed L.parts.word → drop at s ≡ text ++ rest → at ≤ length s → line_at code s l at ≡ good rule (at + length text)
  line_found text rule L free d inside =
      let p = L.parts in
      let d1 : drop at s ≡ from_1 p rest = d ∙ ap (λ (t : List ℕ). t ++ rest) L.text_is ∙ apart p rest in
      let d2 = after_field s p.source (from_2 p rest) at d1 in
      let d3 = after_field s p.destination (from_3 p rest) (start_2 p at) d2 in
      let d4 = after_field s p.source_port (from_4 p rest) (start_3 p at) d3 in
      let d5 = after_field s p.destination_port (from_5 p rest) (start_4 p at) d4 in
      let d6 = after_field s p.protocol (from_6 p rest) (start_5 p at) d5 in
      let a6 : ℕ = start_6 p at in
      let n : prefix_len not_feed (drop a6 s) ≡ length p.word = ap (prefix_len not_feed) d6 ∙ run_free p.word (10 ∷ rest) free ∙ omega arith in
      let w : up_to_feed s a6 ≡ p.word = ap (λ (k : ℕ). take k (drop a6 s)) n ∙ ap (take (length p.word)) d6 ∙ take_at p.word (10 ∷ rest) (length p.word) refl in
      let size : at + length text ≡ a6 + (length p.word + 1) = ap (λ (t : List ℕ). at + length t) L.text_is ∙ length_joined p at in
      let fits = length-drop at s in
      let total = ap length d ∙ length-append text rest in
      let end : min (a6 + prefix_len not_feed (drop a6 s) + 1) (length s) ≡ at + length text = omega (arith, n, size, fits, total) in
      ap (with_decision code s l) (ranges_found text rule L d1)
      ∙ ap (λ (k : ℕ). decided rule.ranges (spot l 6) a6 k (code (up_to_feed s a6))) end
      ∙ ap (decided rule.ranges (spot l 6) a6 (at + length text)) (ap code w ∙ L.word_means)

-- What was read before and after a step.
pub record Then {A B : Type 0} (x : Read A) (f : A → ℕ → Read B) (b : B) (to : ℕ) : Type 0 where
  pub value : A
  pub mid : ℕ
  pub first : x ≡ got value mid
  pub others : f value mid ≡ got b to

pub then_got : {A B : Type 0} (x : Read A) (f : A → ℕ → Read B) (b : B) (to : ℕ) → and_then x f ≡ got b to → Then x f b to
then_got (got a m) f b to e = record { value = a; mid = m; first = refl; others = e }
then_got (fault g) f b to e = absurd (cc)

pub record Decided (code : List ℕ → Option ℕ) (s : List ℕ) (x : Read (List Range)) (rule : Rule) (to : ℕ) : Type 0 where
  pub from : ℕ
  pub ranges : x ≡ got rule.ranges from
  pub word : code (up_to_feed s from) ≡ Some rule.code
  pub end : to ≡ min (from + prefix_len not_feed (drop from s) + 1) (length s)

decided_good : (r : List Range) (p : Spot) (at end : ℕ) (o : Option ℕ) (rule : Rule) (to : ℕ) → decided r p at end o ≡ good rule to → (o ≡ Some rule.code) × (r ≡ rule.ranges) × (to ≡ end)
decided_good r p at end None rule to e = absurd (cc)
decided_good r p at end (Some c) rule to e =
    let q : record { ranges = r; code = c } ≡ rule = cc in
    let k : end ≡ to = cc in
    (ap (λ (x : Rule). Some x.code) q, ap (λ (x : Rule). x.ranges) q, sym k)

with_good : (code : List ℕ → Option ℕ) (s : List ℕ) (l : ℕ) (x : Read (List Range)) (rule : Rule) (to : ℕ) → with_decision code s l x ≡ good rule to → Decided code s x rule to
with_good code s l (fault g) rule to e = absurd (cc)
with_good code s l (got r at) rule to e =
    let q = decided_good r (spot l 6) at (min (at + prefix_len not_feed (drop at s) + 1) (length s)) (code (up_to_feed s at)) rule to e in
    record { from = at; ranges = ap (λ (y : List Range). got y at) q.1; word = q.0; end = q.2 }

-- The line feed after a field is the line feed after the next one.
feed_after : (s field : List ℕ) (at m : ℕ) → drop at s ≡ field ++ (44 ∷ drop m s) → m ≡ at + (length field + 1) → Unfed field → at + prefix_len not_feed (drop at s) ≡ m + prefix_len not_feed (drop m s)
feed_after s field at m d e free = let q = ap (prefix_len not_feed) d ∙ run_free field (44 ∷ drop m s) free in omega (arith, q)

pub record LineRead (code : List ℕ → Option ℕ) (s : List ℕ) (l at to : ℕ) (rule : Rule) : Type 0 where
  pub text : List ℕ
  pub means : Line code text rule
  pub from : ℕ
  pub read : ranges_at s l at ≡ got rule.ranges from
  pub word_is : means.parts.word ≡ up_to_feed s from
  pub after : to ≡ from + suc (prefix_len not_feed (drop from s))
  pub bytes : drop at s ≡ text ++ drop to s
  pub end : to ≡ at + length text

pub got_same : {A : Type 0} (x y : A) (m n : ℕ) → got x m ≡ got y n → (x ≡ y) × (m ≡ n)
got_same x y m n e = ((cc), (cc))

-- The fields that were read one after another make the line.
module _
    (code : List ℕ → Option ℕ) (s : List ℕ) (l at m2 m3 m4 m5 m6 to : ℕ) (x1 x2 x3 x4 x5 : Range) (rule : Rule)
    (r1 : FieldRead Comma Address s at m2 x1) (r2 : FieldRead Comma Address s m2 m3 x2) (r3 : FieldRead Comma Port s m3 m4 x3) (r4 : FieldRead Comma Port s m4 m5 x4) (r5 : FieldRead Comma Protocol s m5 m6 x5)
    (all : rule.ranges ≡ x1 ∷ x2 ∷ x3 ∷ x4 ∷ x5 ∷ []) (coded : code (up_to_feed s m6) ≡ Some rule.code)
    (end : to ≡ min (m6 + prefix_len not_feed (drop m6 s) + 1) (length s)) (fed : at + prefix_len not_feed (drop at s) < length s)
    (read : ranges_at s l at ≡ got rule.ranges m6) where
  near : m6 + prefix_len not_feed (drop m6 s) < length s
  near =
      let f1 = feed_after s r1.text at m2 r1.bytes r1.end (unfed_address r1.text x1 r1.right) in
      let f2 = feed_after s r2.text m2 m3 r2.bytes r2.end (unfed_address r2.text x2 r2.right) in
      let f3 = feed_after s r3.text m3 m4 r3.bytes r3.end (unfed_port r3.text x3 r3.right) in
      let f4 = feed_after s r4.text m4 m5 r4.bytes r4.end (unfed_port r4.text x4 r4.right) in
      let f5 = feed_after s r5.text m5 m6 r5.bytes r5.end (unfed_protocol r5.text x5 r5.right) in
      subst (λ (n : ℕ). n < length s) (f1 ∙ f2 ∙ f3 ∙ f4 ∙ f5) fed

  to_is : to ≡ m6 + suc (prefix_len not_feed (drop m6 s))
  to_is = let n = near in omega (arith, end, n)

  d6 : drop m6 s ≡ up_to_feed s m6 ++ (10 ∷ drop to s)
  d6 =
      let k : ℕ = prefix_len not_feed (drop m6 s) in
      split_feed (drop m6 s) (let n = near in let f = length-drop m6 s in omega (arith, n, f))
      ∙ ap (λ (t : List ℕ). up_to_feed s m6 ++ (10 ∷ t)) (drop-drop (suc k) m6 s ∙ ap (λ (m : ℕ). drop m s) (sym to_is))

  abbrev whole : Parts
  whole =
      record {
        source = r1.text;
        destination = r2.text;
        source_port = r3.text;
        destination_port = r4.text;
        protocol = r5.text;
        word = up_to_feed s m6;
        sources = x1;
        destinations = x2;
        source_ports = x3;
        destination_ports = x4;
        protocols = x5;
      }

  bytes_are : drop at s ≡ joined whole ++ drop to s
  bytes_are =
      r1.bytes ∙ ap (λ (t : List ℕ). r1.text ++ (44 ∷ t)) (r2.bytes ∙ ap (λ (t : List ℕ). r2.text ++ (44 ∷ t)) (r3.bytes ∙ ap (λ (t : List ℕ). r3.text ++ (44 ∷ t)) (r4.bytes ∙ ap (λ (t : List ℕ). r4.text ++ (44 ∷ t)) (r5.bytes ∙ ap (λ (t : List ℕ). r5.text ++ (44 ∷ t)) d6))))
      ∙ sym (apart whole (drop to s))

  end_is : to ≡ at + length (joined whole)
  end_is =
      let sizes = ap length bytes_are ∙ length-append (joined whole) (drop to s) in
      let f = length-drop at s in
      let g = length-drop to s in
      let n = near in
      let t = to_is in
      omega (arith, sizes, f, g, n, t, r1.end, r2.end, r3.end, r4.end, r5.end)

  pub line_whole : LineRead code s l at to rule
  line_whole =
      record {
        text = joined whole;
        means =
            record {
              parts = whole;
              text_is = refl;
              source_means = r1.right;
              destination_means = r2.right;
              source_port_means = r3.right;
              destination_port_means = r4.right;
              protocol_means = r5.right;
              ranges_are = all;
              word_means = coded;
            };
        from = m6;
        read = read;
        word_is = refl;
        after = to_is;
        bytes = bytes_are;
        end = end_is;
      }

module _ (code : List ℕ → Option ℕ) (s : List ℕ) (l at : ℕ) where
  pub line_only : (rule : Rule) (to : ℕ) → line_at code s l at ≡ good rule to → at + prefix_len not_feed (drop at s) < length s → LineRead code s l at to rule
  line_only rule to e fed =
      let q = with_good code s l (ranges_at s l at) rule to e in
      let r1 = then_got (address_at s (spot l 1) at) _ rule.ranges q.from q.ranges in
      let r2 = then_got (address_at s (spot l 2) r1.mid) _ rule.ranges q.from r1.others in
      let r3 = then_got (port_at s (spot l 3) r2.mid) _ rule.ranges q.from r2.others in
      let r4 = then_got (port_at s (spot l 4) r3.mid) _ rule.ranges q.from r3.others in
      let r5 = then_got (protocol_at s (spot l 5) r4.mid) _ rule.ranges q.from r4.others in
      let same = got_same (r1.value ∷ r2.value ∷ r3.value ∷ r4.value ∷ r5.value ∷ []) rule.ranges r5.mid q.from r5.others in
      line_whole code s l at r1.mid r2.mid r3.mid r4.mid r5.mid to r1.value r2.value r3.value r4.value r5.value rule
      (address_only s (spot l 1) at r1.mid r1.value r1.first)
      (address_only s (spot l 2) r1.mid r2.mid r2.value r2.first)
      (port_only s (spot l 3) r2.mid r3.mid r3.value r3.first)
      (port_only s (spot l 4) r3.mid r4.mid r4.value r4.first)
      (protocol_only s (spot l 5) r4.mid r5.mid r5.value r5.first)
      (sym same.0)
      (ap (λ (m : ℕ). code (up_to_feed s m)) same.1 ∙ q.word)
      (q.end ∙ ap (λ (m : ℕ). min (m + prefix_len not_feed (drop m s) + 1) (length s)) (sym same.1)) fed
      (q.ranges ∙ ap (got rule.ranges) (sym same.1))
