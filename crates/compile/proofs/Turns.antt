-- One turn of the builder, and its start and end.
use Rattle.std.proofs.Common.{◌≡◌, ℕ, suc, ◌+◌, ◌^◌, ◌<◌, ◌≤◌, ◌≢◌, ◌⊎◌, List, [], ◌∷◌, ◌++◌, length, get_or, take, drop, set, Some, None, Option, sym, ap, ◌∙◌, subst, inl, inr, append_assoc, add-one, arith, MatchOption}
use Rattle.std.proofs.lemmas.List.{append-nil, take_all, length-map, length-take-le, get_or-map, take_more_set, map-set, set-get_or, length-set, length-append}
use Rattle.policy.specs.declared.rules.Rule.{Rule}
use Rattle.policy.specs.Fields.{widths}
use Rattle.policy.specs.Rules.{decide, first}
use Rattle.diagram.specs.Diagrams.{Node, Diagram, Begins, Before, Header, Reduced, walk}
use Rattle.diagram.specs.States.{State, Built, Grows, nodes, append1, total, Failed}
use Rattle.diagram.specs.Drafts.{Partial, added}
use Rattle.diagram.proofs.Unique.{begins_more}
use Rattle.diagram.proofs.Steady.{grows_refl, grows_trans, append_grows, header_cons, header_end}
use Rattle.compile.proofs.Living.{decide_first, start_live}
use Rattle.diagram.proofs.Ranges.{range_step, reduced}
use Rattle.diagram.proofs.Bounds.{big_front, big_draft, total_push}
use Rattle.diagram.proofs.Steady.{nodes_here, level_here}
use Rattle.diagram.proofs.Added.{partial_step, partial_none, partial_made}
use Rattle.diagram.proofs.Building.{begin, leaf_built, share_built, append_built, empty_state}
use Rattle.compile.specs.declared.levels.Level.{Level}
use Rattle.compile.specs.Levels.{nodes_of, diagram_of, AllBare, Shared, Refused}
use Rattle.compile.specs.declared.lives.Piece.{Piece}
use Rattle.compile.specs.declared.lives.Rest.{Rest}
use Rattle.compile.specs.declared.caches.Known.{Known}
use Rattle.compile.specs.Lives.{Live, Cut, first_live_rule, code_at}
use Rattle.compile.specs.Builds.{Ready, Finished, Remembers, Holds, Leads}
use Rattle.std.specs.Option.{option_map}
use Rattle.diagram.proofs.Skips.{skip_built}
use Rattle.compile.proofs.Memory.{held_set, no_entry}

pub record Turn (rules : List Rule) (header : List ℕ) (field : ℕ) (Ls Ms : List Level) (ms : List (Option Known)) (low : ℕ) (node : Node) : Type 0 where
  pub state : State widths (decide rules) (diagram_of Ms) (λ q. Before q (take field header ++ low ∷ []))
  pub grows : Grows widths (diagram_of Ls) (diagram_of Ms)
  pub part : Partial widths (decide rules) (diagram_of Ms) (take field header) low node
  pub memory : Remembers rules (diagram_of Ms) ms

pub turn_five : {rules : List Rule} {header : List ℕ} {field : ℕ} {Ls Ms : List Level} {ms : List (Option Known)} {low : ℕ} {node : Node} → Turn rules header field Ls Ms ms low node → length Ms ≡ 5
turn_five {Ms = Ms} Tn = sym (length-map Ms nodes_of) ∙ Tn.state.levels

pub turn_start : (rules : List Rule) (header : List ℕ) (live field : ℕ) (Ls : List Level) (ms : List (Option Known)) → Ready rules header live field Ls ms → Turn rules header field Ls Ls ms 0 []
turn_start rules header live field Ls ms R =
    record {
      state = begin widths (decide rules) (diagram_of Ls) (take field header) R.state;
      grows = grows_refl widths (diagram_of Ls);
      part = partial_none widths (decide rules) (diagram_of Ls) (take field header);
      memory = R.memory;
    }

-- a string with one value more, from a run of values that leave the same rules live
module _ (rules : List Rule) (p : List ℕ) (live low top : ℕ) (piece : Piece) (lp : length p < 5) (et : top + 1 ≡ 2 ^ get_or widths (length p) 0)
    (A : Live rules p live) (C : Cut rules live (length p) low top piece) where
  met : (y : ℕ) → low ≤ y → y ≤ piece.end → (h : List ℕ) → Header (drop (suc (length p)) widths) h
      → first rules (p ++ y ∷ h) ≡ first_live_rule rules piece.live.bits (suc (length p)) h
  met y l m h c = A (y ∷ h) (header_cons widths (length p) y h lp (omega (arith, C.within)) c) ∙ C.alike y l m h c

  pub live_more : Live rules (p ++ low ∷ []) piece.live.bits
  live_more h c =
      let e : length (p ++ low ∷ []) ≡ suc (length p) = length-append p (low ∷ []) ∙ (omega arith) in
      let P : ℕ → Type 0 = λ n. Header (drop n widths) h in
      ap (first rules) (append_assoc p (low ∷ []) h)
      ∙ met low (omega arith) C.ahead h (subst P e c)
      ∙ ap (λ n. first_live_rule rules piece.live.bits n h) (sym e)

  pub run_alike : (y : ℕ) → low ≤ y → y ≤ piece.end → (h : List ℕ) → Header (drop (suc (length p)) widths) h → decide rules (p ++ y ∷ h) ≡ decide rules (p ++ low ∷ h)
  run_alike y l m h c =
      decide_first rules (p ++ y ∷ h)
      ∙ ap (option_map (code_at rules)) (met y l m h c ∙ sym (met low (omega arith) C.ahead h c))
      ∙ sym (decide_first rules (p ++ low ∷ h))

module _ (rules : List Rule) (header : List ℕ) (live field : ℕ) (Ks : List Level) (ks : List (Option Known)) (R : Ready rules header live field Ks ks)
    (Ls Ms : List Level) (ms : List (Option Known)) (low top : ℕ) (piece : Piece) (node : Node) (lf : field < 5)
    (Tn : Turn rules header field Ls Ms ms low node) (et : top + 1 ≡ 2 ^ get_or widths field 0) (C : Cut rules live field low top piece) where
  lp : length (take field header) ≡ field
  lp = length-take-le field header (omega (arith, R.size))

  longer : take (field + 1) (set header field low) ≡ take field header ++ low ∷ []
  longer = take_more_set header field low (omega (arith, R.size))

  lw : low < 2 ^ get_or widths (length (take field header)) 0
  lw = subst (λ n. low < 2 ^ get_or widths n 0) (sym lp) (omega (arith, C.ahead, C.within))

  cut : Cut rules live (length (take field header)) low top piece
  cut = subst (λ n. Cut rules live n low top piece) (sym lp) C

  top_is : top + 1 ≡ 2 ^ get_or widths (length (take field header)) 0
  top_is = et ∙ ap (λ n. 2 ^ get_or widths n 0) (sym lp)

  pub turn_ready : Ready rules (set header field low) piece.live.bits (field + 1) Ms ms
  turn_ready =
      record {
        most = omega arith;
        size = length-set header field low ∙ R.size;
        begins = subst (λ (q : List ℕ). Begins widths q) (sym longer) (begins_more widths (take field header) low R.begins (omega (arith, lp)) lw);
        alive = subst (λ (q : List ℕ). Live rules q piece.live.bits) (sym longer) (live_more rules (take field header) live low top piece (omega (arith, lp)) top_is R.alive cut);
        state = subst (λ (p : List ℕ). State widths (decide rules) (diagram_of Ms) (λ q. Before q p)) (sym longer) Tn.state;
        memory = Tn.memory;
      }

  pub turn_step : (Ns : List Level) (ns : List (Option Known)) (t : ℕ)
      → Finished rules (set header field low) (field + 1) Ms Ns ns t → Turn rules header field Ls Ns ns (piece.end + 1) (added node piece.end t)
  turn_step Ns ns t F =
      let high : ℕ = piece.end in
      let B : Built widths (decide rules) (diagram_of Ms) (diagram_of Ns) (take field header ++ low ∷ []) t
      = subst (λ (p : List ℕ). Built widths (decide rules) (diagram_of Ms) (diagram_of Ns) p t) longer F.built in
      let hw : piece.end < 2 ^ get_or widths (length (take field header)) 0 = subst (λ n. piece.end < 2 ^ get_or widths n 0) (sym lp) (omega (arith, C.within)) in
      let ll : length (take field header ++ low ∷ []) ≡ suc (length (take field header)) = length-append (take field header) (low ∷ []) ∙ (omega arith) in
      let alike = run_alike rules (take field header) live low top piece (omega (arith, lp)) top_is R.alive cut in
      record {
        state = subst (λ n. State widths (decide rules) (diagram_of Ns) (λ q. Before q (take field header ++ n ∷ []))) (sym (add-one piece.end))
            (range_step widths (decide rules) (diagram_of Ns) (take field header) low piece.end C.ahead hw (λ y l m h c. alike y l m h c) B.state);
        grows = grows_trans widths (diagram_of Ls) (diagram_of Ms) (diagram_of Ns) Tn.grows B.grows;
        part = subst (λ n. Partial widths (decide rules) (diagram_of Ns) (take field header) n (added node piece.end t)) (sym (add-one piece.end))
            (partial_step widths (decide rules) (diagram_of Ms) (diagram_of Ns) (take field header) low piece.end t node Tn.part B.grows (omega (arith, lp)) C.ahead
            (λ y l m h c. alike y l m h c) B.means
            (λ l. subst (λ n. t < nodes (diagram_of Ns) n) ll (B.there (omega (arith, ll)))));
        memory = F.memory;
      }

remembers_grows : (rules : List Rule) (D E : Diagram) (ms : List (Option Known)) → Grows widths D E → Remembers rules D ms → Remembers rules E ms
remembers_grows rules D E ms G R e h =
    let u = R e h in (
      omega (arith, u.0, G.more e.rest.field),
      λ q c. u.1 q c ∙ ap (λ n. Some n) (sym (G.same e.rest.field e.node u.0 q c.0)),
    )

pub turn_end : (rules : List Rule) (header : List ℕ) (field : ℕ) (Ls Ms : List Level) (ms : List (Option Known)) (low : ℕ) (node : Node) (L₀ M : Level) (k : ℕ)
    → length header ≡ 5 → field < 5 → length Ms ≡ 5 → Begins widths (take field header) → Turn rules header field Ls Ms ms low node → low ≡ 2 ^ get_or widths field 0
    → Shared (get_or Ms field L₀) M node k → Finished rules header field Ls (set Ms field M) ms k
turn_end rules header field Ls Ms ms low node L₀ M k lh lf lm b Tn lw Sh =
    record {
      built = (go Sh.either).0;
      memory = remembers_grows rules (diagram_of Ms) (diagram_of (set Ms field M)) ms (go Sh.either).1 Tn.memory;
    }
  where
    D : Diagram
    D = diagram_of Ms

    p : List ℕ
    p = take field header

    lp : length (take field header) ≡ field
    lp = length-take-le field header (omega arith)

    lw2 : low ≡ 2 ^ get_or widths (length (take field header)) 0
    lw2 = lw ∙ ap (λ n. 2 ^ get_or widths n 0) (sym lp)

    level : get_or (diagram_of Ms) (length (take field header)) [] ≡ nodes_of (get_or Ms field L₀)
    level = ap (λ n. get_or (diagram_of Ms) n []) lp ∙ get_or-map nodes_of Ms field L₀ [] (omega arith)

    state : State widths (decide rules) (diagram_of Ms) (λ q. Before q (take field header ++ 2 ^ get_or widths (length (take field header)) 0 ∷ []))
    state = subst (λ n. State widths (decide rules) (diagram_of Ms) (λ q. Before q (take field header ++ n ∷ []))) lw2 Tn.state

    made : Rattle.diagram.proofs.Steps.Made widths (decide rules) (diagram_of Ms) (take field header) node
    made = partial_made widths (decide rules) (diagram_of Ms) (take field header) low node Tn.part lw2

    go : ((nodes_of M ≡ nodes_of (get_or Ms field L₀)) × (k < length (nodes_of (get_or Ms field L₀))) × (get_or (nodes_of (get_or Ms field L₀)) k [] ≡ node))
        ⊎ ((nodes_of M ≡ nodes_of (get_or Ms field L₀) ++ node ∷ []) × (k ≡ length (nodes_of (get_or Ms field L₀))) × ((j : ℕ) → j < length (nodes_of (get_or Ms field L₀)) → get_or (nodes_of (get_or Ms field L₀)) j [] ≢ node))
        → Built widths (decide rules) (diagram_of Ls) (diagram_of (set Ms field M)) (take field header) k × Grows widths (diagram_of Ms) (diagram_of (set Ms field M))
    go (inl s) =
        let e : diagram_of (set Ms field M) ≡ diagram_of Ms
        = map-set nodes_of Ms field M ∙ ap (λ (z : List Node). set (diagram_of Ms) field z) (s.0 ∙ sym (get_or-map nodes_of Ms field L₀ [] (omega arith)))
        ∙ set-get_or (diagram_of Ms) field [] in (
          subst (λ (E : Diagram). Built widths (decide rules) (diagram_of Ls) E (take field header) k) (sym e)
              (share_built widths (decide rules) (diagram_of Ls) (diagram_of Ms) (take field header) k node b (omega (arith, lp)) state Tn.grows made
              (subst (λ (z : List Node). k < length z) (sym level) s.1)
              (ap (λ (z : List Node). get_or z k []) level ∙ s.2)),
          subst (λ (E : Diagram). Grows widths (diagram_of Ms) E) (sym e) (grows_refl widths (diagram_of Ms)),
        )
    go (inr s) =
        let e : diagram_of (set Ms field M) ≡ append1 (diagram_of Ms) (length (take field header)) node
        = map-set nodes_of Ms field M ∙ ap (λ (z : List Node). set (diagram_of Ms) field z) (s.0 ∙ ap (λ (z : List Node). z ++ node ∷ []) (sym level))
        ∙ ap (λ n. set (diagram_of Ms) n (get_or (diagram_of Ms) (length (take field header)) [] ++ node ∷ [])) (sym lp) in
        let n : k ≡ nodes (diagram_of Ms) (length (take field header)) = s.1 ∙ ap length (sym level) in (
          subst (λ (E : Diagram). Built widths (decide rules) (diagram_of Ls) E (take field header) k) (sym e)
              (subst (λ i. Built widths (decide rules) (diagram_of Ls) (append1 (diagram_of Ms) (length (take field header)) node) (take field header) i) (sym n)
              (append_built widths (decide rules) (diagram_of Ls) (diagram_of Ms) (take field header) node b (omega (arith, lp)) state Tn.grows made
              (λ j l q. s.2 j (subst (λ (z : List Node). j < length z) level l) (ap (λ (z : List Node). get_or z j []) (sym level) ∙ q)))),
          subst (λ (E : Diagram). Grows widths (diagram_of Ms) E) (sym e) (append_grows widths (diagram_of Ms) (length (take field header)) node (omega (arith, lp, length-map Ms nodes_of)) Tn.state.closed),
        )

-- a whole header: the code of the first rule met
pub leaf_end : (rules : List Rule) (header : List ℕ) (live field : ℕ) (Ls : List Level) (ms : List (Option Known)) → Ready rules header live field Ls ms → field ≡ 5
    → (o : Option ℕ) → o ≡ option_map (code_at rules) (first_live_rule rules live 5 []) → MatchOption o (Failed widths (decide rules)) (λ k. Finished rules header field Ls Ls ms k)
leaf_end rules header live field Ls ms R e o q = go o (q ∙ sym there)
  where
    h : take field header ≡ header
    h = take_all field header (omega (arith, R.size))

    lp : length (take field header) ≡ 5
    lp = length-take-le field header (omega (arith, R.size)) ∙ e

    there : decide rules header ≡ option_map (code_at rules) (first_live_rule rules live 5 [])
    there =
        decide_first rules header
        ∙ ap (option_map (code_at rules))
        (ap (first rules) (sym h ∙ sym (append-nil (take field header)))
        ∙ R.alive [] (header_end widths (length (take field header)) (omega (arith, lp)))
        ∙ ap (λ n. first_live_rule rules live n []) lp)

    go : (o : Option ℕ) → o ≡ decide rules header → MatchOption o (Failed widths (decide rules)) (λ k. Finished rules header field Ls Ls ms k)
    go None q = inl (header, (subst (λ (z : List ℕ). Begins widths z) h R.begins, R.size), sym q)
    go (Some k) q =
        record {
          built = leaf_built widths (decide rules) (diagram_of Ls) (take field header) k lp R.state (ap (decide rules) h ∙ sym q);
          memory = R.memory;
        }

-- too many edges in one node
pub wide_end : (rules : List Rule) (header : List ℕ) (field : ℕ) (Ls Ms : List Level) (ms : List (Option Known)) (high : ℕ) (node : Node) → length header ≡ 5 → field < 5
    → Begins widths (take field header) → Turn rules header field Ls Ms ms (high + 1) node → high < 2 ^ get_or widths field 0 → 1024 < length node
    → Failed widths (decide rules)
wide_end rules header field Ls Ms ms high node lh lf b Tn lw w =
    let lp : length (take field header) ≡ field = length-take-le field header (omega arith) in
    inr (big_draft widths (decide rules) (diagram_of Ms) (take field header) (take field header ++ (high + 1) ∷ []) high node Tn.state b (omega (arith, lp))
    (subst (λ n. high < 2 ^ get_or widths n 0) (sym lp) lw)
    (subst (λ n. Partial widths (decide rules) (diagram_of Ms) (take field header) n node) (add-one high) Tn.part) w)

-- no room for a further node
pub crowded_end : (rules : List Rule) (header : List ℕ) (field : ℕ) (Ls Ms : List Level) (ms : List (Option Known)) (low : ℕ) (node : Node) (L₀ : Level)
    → length header ≡ 5 → field < 5 → length Ms ≡ 5 → Begins widths (take field header) → Turn rules header field Ls Ms ms low node → low ≡ 2 ^ get_or widths field 0
    → Refused (get_or Ms field L₀) node → Failed widths (decide rules)
crowded_end rules header field Ls Ms ms low node L₀ lh lf lm b Tn lw Rf =
    inr (big_front widths (decide rules) (append1 (diagram_of Ms) (length (take field header)) node) (take field header) built.state
    (length (take field header), omega (arith, lp), big Rf.crowded))
  where
    lp : length (take field header) ≡ field
    lp = length-take-le field header (omega arith)

    l_d : length (take field header) < length (diagram_of Ms)
    l_d = omega (arith, lp, length-map Ms nodes_of)

    lw2 : low ≡ 2 ^ get_or widths (length (take field header)) 0
    lw2 = lw ∙ ap (λ n. 2 ^ get_or widths n 0) (sym lp)

    level : get_or (diagram_of Ms) (length (take field header)) [] ≡ nodes_of (get_or Ms field L₀)
    level = ap (λ n. get_or (diagram_of Ms) n []) lp ∙ get_or-map nodes_of Ms field L₀ [] (omega arith)

    built : Built widths (decide rules) (diagram_of Ls) (append1 (diagram_of Ms) (length (take field header)) node) (take field header) (nodes (diagram_of Ms) (length (take field header)))
    built =
        append_built widths (decide rules) (diagram_of Ls) (diagram_of Ms) (take field header) node b (omega (arith, lp))
        (subst (λ n. State widths (decide rules) (diagram_of Ms) (λ q. Before q (take field header ++ n ∷ []))) lw2 Tn.state) Tn.grows
        (partial_made widths (decide rules) (diagram_of Ms) (take field header) low node Tn.part lw2)
        (λ j l q. Rf.fresh j (subst (λ (z : List Node). j < length z) level l) (ap (λ (z : List Node). get_or z j []) (sym level) ∙ q))

    big : (256 ≤ length (nodes_of (get_or Ms field L₀))) ⊎ (1024 < total (nodes_of (get_or Ms field L₀)) + length node)
        → (256 < nodes (append1 (diagram_of Ms) (length (take field header)) node) (length (take field header)))
        ⊎ (1024 < total (get_or (append1 (diagram_of Ms) (length (take field header)) node) (length (take field header)) []))
    big (inl m) = inl (omega (arith, nodes_here (diagram_of Ms) (length (take field header)) node l_d, ap length level))
    big (inr m) =
        let t : total (get_or (append1 (diagram_of Ms) (length (take field header)) node) (length (take field header)) []) ≡ total (nodes_of (get_or Ms field L₀)) + length node
        = ap total (level_here (diagram_of Ms) (length (take field header)) node l_d) ∙ total_push (get_or (diagram_of Ms) (length (take field header)) []) node
        ∙ ap (λ (z : List Node). total z + length node) level in
        inr (omega arith)

-- the node is known
pub recall_end : (rules : List Rule) (header : List ℕ) (rest : Rest) (Ls : List Level) (ms : List (Option Known)) (k : ℕ)
    → Ready rules header rest.live.bits rest.field Ls ms → rest.field < 5 → Holds ms (record { rest = rest; node = k })
    → Finished rules header rest.field Ls Ls ms k
recall_end rules header rest Ls ms k R lf held =
    let u = R.memory (record { rest = rest; node = k }) held in
    record {
      built = skip_built widths (decide rules) (diagram_of Ls) (take rest.field header) k (omega (arith, lp)) R.state (subst (λ n. k < nodes (diagram_of Ls) n) (sym lp) u.0)
          (λ h c. decide_first rules (take rest.field header ++ h) ∙ ap (option_map (code_at rules)) (R.alive h c ∙ ap (λ n. first_live_rule rules rest.live.bits n h) lp)
          ∙ u.1 h (subst (λ n. Header (drop n widths) h) lp c) ∙ ap (λ n. Some (walk (drop n (diagram_of Ls)) k h)) (sym lp));
      memory = R.memory;
    }
  where
    lp : length (take rest.field header) ≡ rest.field
    lp = length-take-le rest.field header (omega (arith, R.size))

-- and is kept
pub remember_end : (rules : List Rule) (header : List ℕ) (rest : Rest) (Ks : List Level) (ks : List (Option Known)) → Ready rules header rest.live.bits rest.field Ks ks → rest.field < 5
    → (Ls Ms : List Level) (ms : List (Option Known)) (k i : ℕ) → Finished rules header rest.field Ls Ms ms k
    → Finished rules header rest.field Ls Ms (set ms i (Some (record { rest = rest; node = k }))) k
remember_end rules header rest Ks ks R lf Ls Ms ms k i F = record { built = F.built; memory = kept }
  where
    lp : length (take rest.field header) ≡ rest.field
    lp = length-take-le rest.field header (omega (arith, R.size))

    new : Leads rules (diagram_of Ms) rest.field rest.live.bits k
    new = (
      subst (λ n. k < nodes (diagram_of Ms) n) lp (F.built.there (omega (arith, lp))),
      λ h c.
          (let d : Header (drop (length (take rest.field header)) widths) h = subst (λ n. Header (drop n widths) h) (sym lp) c in
          ap (option_map (code_at rules)) (ap (λ n. first_live_rule rules rest.live.bits n h) (sym lp) ∙ sym (R.alive h d)) ∙ sym (decide_first rules (take rest.field header ++ h))
          ∙ F.built.means h d ∙ ap (λ n. Some (walk (drop n (diagram_of Ms)) k h)) lp),
    )

    kept : Remembers rules (diagram_of Ms) (set ms i (Some (record { rest = rest; node = k })))
    kept e held = elim (held_set ms i (record { rest = rest; node = k }) e held) [
      | inl q ↦ subst (λ (z : Known). Leads rules (diagram_of Ms) z.rest.field z.rest.live.bits z.node) (sym q) new
      | inr h ↦ F.memory e h
    ]

pub ready_start : (rules : List Rule) (header : List ℕ) (Ls : List Level) (ms : List (Option Known)) → length header ≡ 5 → length Ls ≡ 5 → length rules ≤ 64
    → AllBare Ls → ((i : ℕ) → get_or ms i None ≡ None) → Ready rules header 0xFFFF_FFFF_FFFF_FFFF 0 Ls ms
ready_start rules header Ls ms lh ll few z none =
    record {
      most = omega arith;
      size = lh;
      begins = tt;
      alive = start_live rules few;
      state = empty_state widths (decide rules) (diagram_of Ls) (length-map Ls nodes_of ∙ ll) z;
      memory = λ e h. absurd (no_entry ms none e h);
    }

pub all_done : (rules : List Rule) (header : List ℕ) (Ls Ms : List Level) (ms : List (Option Known)) (k : ℕ) → Finished rules header 0 Ls Ms ms k → Reduced widths (decide rules) (diagram_of Ms)
all_done rules header Ls Ms ms k q = reduced widths (decide rules) (diagram_of Ms) (omega arith) q.built.state
