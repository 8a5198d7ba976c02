use Rattle.std.proofs.Common.{◌≡◌, ℕ, ◌+◌, ◌-◌, ◌*◌, ◌%◌, ◌^◌, ◌<◌, ◌≤◌, ◌∷◌, sym, refl, ap, ◌∙◌, subst, arith}
use Rattle.std.proofs.lemmas.Nat.{one_shl, pow_pos}
use Rattle.diagram.specs.Blocks.{cover}
use Rattle.diagram.proofs.Covers.{cover_step}
use Rattle.compile.proofs.blocks.next_block.Goals as goal

pub returns : goal.returns
returns c =
    let e : ℕ = c.largest_exponent-e.result in
    let s : (1 * 2 ^ e) % 2 ^ 64 ≡ 2 ^ e = one_shl e 64 (omega arith) in
    let p : 0 < 2 ^ e = pow_pos e in
    let w : c.args.low + 2 ^ e ≤ c.args.high + 1 = c.largest_exponent-e.ensures.within (omega arith) in
    let n : c.args.low + 2 ^ e ≡ c.args.low + (1 * 2 ^ e) % 2 ^ 64 - 1 + 1 = omega arith in
    record {
      begins = subst (λ x. cover c.args.width c.args.low c.args.high ≡ record { len = c.args.width - x; value = c.args.low } ∷ cover c.args.width (c.args.low + 2 ^ x) c.args.high) (sym c.largest_exponent-e.ensures.value) (cover_step c.args.width c.args.low c.args.high (omega arith))
          ∙ ap (λ x. record { len = c.args.width - e; value = c.args.low } ∷ cover c.args.width x c.args.high) n;
      from = refl;
      ahead = omega arith;
      within = omega arith;
      shorter = omega arith;
    }
