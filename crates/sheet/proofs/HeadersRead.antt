-- A header line as bytes, and what is read.
use Rattle.std.proofs.Common.{◌≡◌, ℕ, ◌+◌, ◌<◌, ◌≤◌, Bool, true, cond, ◌&&◌, leb, List, [], ◌∷◌, ◌++◌, length, drop, Some, None, codes, decimal, sym, refl, ap, ◌∙◌, subst, append_assoc, arith, length-append, length-drop}
use Rattle.std.proofs.lemmas.Bool.{and_parts, and_from, leb-true, le-leb, eq-eqb}
use Rattle.policy.specs.declared.fields.Header.{Header}
use Rattle.sheet.specs.declared.tokens.Mark.{Mark}
use Rattle.sheet.specs.declared.tokens.Mark.TheVariants.{Comma, LineFeed}
use Rattle.std.specs.List.{prefix_len}
use Rattle.sheet.specs.Forms.{digits, byte, Read, got, fault}
use Rattle.sheet.specs.Headers.{dotted_form, number_way, number_form, up_to, dotted_at, number_at, numbers_at, header_of, header_at}
use Rattle.sheet.specs.Lines.{spot}
use Rattle.sheet.specs.Readings.{address_low, dotted_of, dotted_rest}
use Rattle.sheet.specs.Sheets.{not_feed, good}
use Rattle.sheet.specs.Meaning.{Dotted, UpTo, HeaderLine}
use Rattle.sheet.proofs.Finding.{Found, found_among}
use Rattle.sheet.proofs.Sound.{Only, Written, FieldRead, only_among}
use Rattle.sheet.proofs.Spellings.{here, there, closed}
use Rattle.sheet.proofs.LinesRead.{after_field, step, then_got, got_same}
use Rattle.sheet.proofs.MeansRead.{LineFound, LineOnly, Taken}
use Rattle.sheet.proofs.Unfed.{run_before}
use Rattle.sheet.proofs.Tests.{tested}

-- Four numbers with dots.
abbrev dotted_text : ℕ → ℕ → ℕ → ℕ → List ℕ
dotted_text a b c d = decimal a ++ (codes "." ++ (decimal b ++ (codes "." ++ (decimal c ++ (codes "." ++ decimal d)))))

apart : (a b c d : ℕ) → dotted_text a b c d ++ (44 ∷ []) ≡ decimal a ++ (46 ∷ (decimal b ++ (46 ∷ (decimal c ++ (46 ∷ (decimal d ++ (44 ∷ [])))))))
apart a b c d = simp append_assoc

in_range : (a b c d : ℕ) → a ≤ 255 → b ≤ 255 → c ≤ 255 → d ≤ 255 → (leb a 255 && (leb b 255 && (leb c 255 && leb d 255))) ≡ true
in_range a b c d ha hb hc hd =
    and_from (leb a 255) (leb b 255 && (leb c 255 && leb d 255)) (le-leb a 255 ha)
    (and_from (leb b 255) (leb c 255 && leb d 255) (le-leb b 255 hb) (and_from (leb c 255) (leb d 255) (le-leb c 255 hc) (le-leb d 255 hd)))

dotted_found : Found Comma dotted_at Dotted
dotted_found s text rest p at n D e =
    let small = D.small in
    found_among Comma dotted_of s text rest p at n e (digits ∷ dotted_rest Comma) (D.a ∷ D.b ∷ D.c ∷ D.d ∷ []) (omega (arith, small.0), (omega (arith, small.1), (omega (arith, small.2), (omega (arith, small.3), tt))))
    (sym (ap (λ (t : List ℕ). t ++ (44 ∷ [])) D.text_is ∙ apart D.a D.b D.c D.d))
    (ap (λ (v : Bool). cond v (Some (address_low D.a D.b D.c D.d)) None) (in_range D.a D.b D.c D.d small.0 small.1 small.2 small.3) ∙ ap Some (sym D.n_is)) 8 dotted_form refl here (omega arith)

number_found : (top : ℕ) (m : Mark) → top < 100000 → Found m (number_at top m) (UpTo top)
number_found top m h s text rest p at n U e =
    found_among m (up_to top) s text rest p at n e (number_way m) (n ∷ []) (omega (arith, U.0), tt) (ap (λ (t : List ℕ). t ++ (byte m ∷ [])) (sym U.1)) (ap (λ (v : Bool). cond v (Some n) None) (le-leb n top U.0)) 2 (number_form m) (and_from (closed m (number_way m)) true (eq-eqb (byte m) (byte m) refl) refl) here (omega arith)

four_got : (a b c d n : ℕ) → dotted_of (a ∷ b ∷ c ∷ d ∷ []) ≡ Some n → ((a ≤ 255) × (b ≤ 255) × (c ≤ 255) × (d ≤ 255)) × (n ≡ address_low a b c d)
four_got a b c d n e =
    let q = tested (leb a 255 && (leb b 255 && (leb c 255 && leb d 255))) (address_low a b c d) n e in
    let p1 = and_parts (leb a 255) (leb b 255 && (leb c 255 && leb d 255)) q.0 in
    let p2 = and_parts (leb b 255) (leb c 255 && leb d 255) p1.1 in
    let p3 = and_parts (leb c 255) (leb d 255) p2.1 in
    ((leb-true a 255 p1.0, leb-true b 255 p2.0, leb-true c 255 p3.0, leb-true d 255 p3.1), sym q.1)

dotted_written : Written Comma dotted_of Dotted dotted_form
dotted_written way [] n here suits e = absurd suits
dotted_written way (a ∷ []) n here suits e = absurd suits.1
dotted_written way (a ∷ b ∷ []) n here suits e = absurd suits.1.1
dotted_written way (a ∷ b ∷ c ∷ []) n here suits e = absurd suits.1.1.1
dotted_written way (a ∷ b ∷ c ∷ d ∷ []) n here suits e =
    let q = four_got a b c d n e in (dotted_text a b c d, (record { a = a; b = b; c = c; d = d; small = q.0; text_is = refl; n_is = q.1 }, sym (apart a b c d)))
dotted_written way (a ∷ b ∷ c ∷ d ∷ m ∷ ns) n here suits e = absurd suits.1.1.1.1
dotted_written way ns n (there i) suits e = elim i [ ]

dotted_only : Only Comma dotted_at Dotted
dotted_only s p at to n h = only_among Comma dotted_of Dotted dotted_form dotted_written s at to n 8 p h

one_got : (top a n : ℕ) → up_to top (a ∷ []) ≡ Some n → (n ≤ top) × (a ≡ n)
one_got top a n e = let q = tested (leb a top) a n e in (subst (λ (x : ℕ). x ≤ top) q.1 (leb-true a top q.0), q.1)

number_written : (top : ℕ) (m : Mark) → Written m (up_to top) (UpTo top) (number_form m)
number_written top m way [] n here suits e = absurd suits
number_written top m way (a ∷ []) n here suits e = let q = one_got top a n e in (decimal a, ((q.0, ap decimal q.1), refl))
number_written top m way (a ∷ b ∷ ns) n here suits e = absurd suits.1
number_written top m way ns n (there i) suits e = elim i [ ]

number_only : (top : ℕ) (m : Mark) → Only m (number_at top m) (UpTo top)
number_only top m s p at to n h = only_among m (up_to top) (UpTo top) (number_form m) (number_written top m) s at to n 2 p h

-- A header line is found.
long : (x y : List ℕ) (b : ℕ) → length (x ++ (b ∷ y)) ≡ length x + (1 + length y)
long x y b = length-append x (b ∷ y) ∙ ap (λ (n : ℕ). length x + n) (omega arith)

header_found : (s text rest : List ℕ) (h : Header) (l at : ℕ) → HeaderLine text h → drop at s ≡ text ++ rest → at ≤ length s → header_at s l at ≡ good h (at + length text)
header_found s text rest h l at L d inside =
    let t1 = L.source in
    let t2 = L.destination in
    let t3 = L.source_port in
    let t4 = L.destination_port in
    let t5 = L.protocol in
    let r5 : List ℕ = t5 ++ (10 ∷ rest) in
    let r4 : List ℕ = t4 ++ (44 ∷ r5) in
    let r3 : List ℕ = t3 ++ (44 ∷ r4) in
    let r2 : List ℕ = t2 ++ (44 ∷ r3) in
    let m2 : ℕ = at + (length t1 + 1) in
    let m3 : ℕ = m2 + (length t2 + 1) in
    let m4 : ℕ = m3 + (length t3 + 1) in
    let m5 : ℕ = m4 + (length t4 + 1) in
    let m6 : ℕ = m5 + (length t5 + 1) in
    let d1 : drop at s ≡ t1 ++ (44 ∷ r2) = d ∙ ap (λ (t : List ℕ). t ++ rest) L.text_is ∙ simp append_assoc in
    let d2 = after_field s t1 r2 at d1 in
    let d3 = after_field s t2 r3 m2 d2 in
    let d4 = after_field s t3 r4 m3 d3 in
    let d5 = after_field s t4 r5 m4 d4 in
    let read : numbers_at s l at ≡ got h.numbers m6 =
    step (dotted_at s (spot l 1) at) L.from m2 _ _ (dotted_found s t1 r2 (spot l 1) at L.from L.source_means d1)
    (step (dotted_at s (spot l 2) m2) L.to m3 _ _ (dotted_found s t2 r3 (spot l 2) m2 L.to L.destination_means d2)
    (step (number_at 65535 Comma s (spot l 3) m3) L.from_port m4 _ _ (number_found 65535 Comma (omega arith) s t3 r4 (spot l 3) m3 L.from_port L.source_port_means d3)
    (step (number_at 65535 Comma s (spot l 4) m4) L.to_port m5 _ _ (number_found 65535 Comma (omega arith) s t4 r5 (spot l 4) m4 L.to_port L.destination_port_means d4)
    (step (number_at 255 LineFeed s (spot l 5) m5) L.by m6 _ _ (number_found 255 LineFeed (omega arith) s t5 rest (spot l 5) m5 L.by L.protocol_means d5)
    (ap (λ (ns : List ℕ). got ns m6) (sym L.numbers_are)))))) in
    let e5 = long t5 [] 10 in
    let e4 = long t4 (t5 ++ (10 ∷ [])) 44 in
    let e3 = long t3 (t4 ++ (44 ∷ (t5 ++ (10 ∷ [])))) 44 in
    let e2 = long t2 (t3 ++ (44 ∷ (t4 ++ (44 ∷ (t5 ++ (10 ∷ [])))))) 44 in
    let e1 = long t1 (t2 ++ (44 ∷ (t3 ++ (44 ∷ (t4 ++ (44 ∷ (t5 ++ (10 ∷ [])))))))) 44 in
    let size : m6 ≡ at + length text = let q = ap length L.text_is in omega (arith, q, e1, e2, e3, e4, e5) in
    ap header_of read ∙ ap (good h) size

header_fed : (s text rest : List ℕ) (h : Header) (at : ℕ) → HeaderLine text h → drop at s ≡ text ++ rest → at + prefix_len not_feed (drop at s) < length s
header_fed s text rest h at L d =
    let body : List ℕ = L.source ++ (44 ∷ (L.destination ++ (44 ∷ (L.source_port ++ (44 ∷ (L.destination_port ++ (44 ∷ L.protocol))))))) in
    let e : drop at s ≡ body ++ (10 ∷ rest) = d ∙ ap (λ (t : List ℕ). t ++ rest) L.text_is ∙ simp append_assoc in
    let r = subst (λ (t : List ℕ). prefix_len not_feed t ≤ length body) (sym e) (run_before body rest) in
    let n = ap length e ∙ length-append body (10 ∷ rest) in
    let f = length-drop at s in
    omega (arith, r, n, f)

pub headers_found : LineFound HeaderLine header_at
headers_found = record { fed = header_fed; found = header_found }

-- What is read is a header line.
header_got : (x : Read (List ℕ)) (h : Header) (to : ℕ) → header_of x ≡ good h to → x ≡ got h.numbers to
header_got (fault e) h to q = absurd (cc)
header_got (got ns m) h to q =
    let k : record { numbers = ns } ≡ h = cc in
    let o : m ≡ to = cc in
    ap (λ (y : Header). got y.numbers m) k ∙ ap (got h.numbers) o

module _ (s : List ℕ) (at m2 m3 m4 m5 to x1 x2 x3 x4 x5 : ℕ) (h : Header) (r1 : FieldRead Comma Dotted s at m2 x1) (r2 : FieldRead Comma Dotted s m2 m3 x2) (r3 : FieldRead Comma (UpTo 65535) s m3 m4 x3) (r4 : FieldRead Comma (UpTo 65535) s m4 m5 x4)
    (r5 : FieldRead LineFeed (UpTo 255) s m5 to x5) (all : h.numbers ≡ x1 ∷ x2 ∷ x3 ∷ x4 ∷ x5 ∷ []) where
  header_whole : Taken HeaderLine s at to h
  header_whole =
      record {
        text = r1.text ++ (44 ∷ (r2.text ++ (44 ∷ (r3.text ++ (44 ∷ (r4.text ++ (44 ∷ (r5.text ++ (10 ∷ [])))))))));
        means =
            record {
              source = r1.text;
              destination = r2.text;
              source_port = r3.text;
              destination_port = r4.text;
              protocol = r5.text;
              from = x1;
              to = x2;
              from_port = x3;
              to_port = x4;
              by = x5;
              text_is = refl;
              source_means = r1.right;
              destination_means = r2.right;
              source_port_means = r3.right;
              destination_port_means = r4.right;
              protocol_means = r5.right;
              numbers_are = all;
            };
        bytes =
            r1.bytes
            ∙ ap (λ (t : List ℕ). r1.text ++ (44 ∷ t)) (r2.bytes ∙ ap (λ (t : List ℕ). r2.text ++ (44 ∷ t)) (r3.bytes ∙ ap (λ (t : List ℕ). r3.text ++ (44 ∷ t)) (r4.bytes ∙ ap (λ (t : List ℕ). r4.text ++ (44 ∷ t)) r5.bytes)))
            ∙ sym (simp append_assoc);
      }

pub headers_only : LineOnly HeaderLine header_at
headers_only s l at to h e fed =
    let q = header_got (numbers_at s l at) h to e in
    let r1 = then_got (dotted_at s (spot l 1) at) _ h.numbers to q in
    let r2 = then_got (dotted_at s (spot l 2) r1.mid) _ h.numbers to r1.others in
    let r3 = then_got (number_at 65535 Comma s (spot l 3) r2.mid) _ h.numbers to r2.others in
    let r4 = then_got (number_at 65535 Comma s (spot l 4) r3.mid) _ h.numbers to r3.others in
    let r5 = then_got (number_at 255 LineFeed s (spot l 5) r4.mid) _ h.numbers to r4.others in
    let same = got_same (r1.value ∷ r2.value ∷ r3.value ∷ r4.value ∷ r5.value ∷ []) h.numbers r5.mid to r5.others in
    header_whole s at r1.mid r2.mid r3.mid r4.mid to r1.value r2.value r3.value r4.value r5.value h
    (dotted_only s (spot l 1) at r1.mid r1.value r1.first)
    (dotted_only s (spot l 2) r1.mid r2.mid r2.value r2.first)
    (number_only 65535 Comma s (spot l 3) r2.mid r3.mid r3.value r3.first)
    (number_only 65535 Comma s (spot l 4) r3.mid r4.mid r4.value r4.first)
    (number_only 255 LineFeed s (spot l 5) r4.mid to r5.value (r5.first ∙ ap (got r5.value) same.1))
    (sym same.0)
