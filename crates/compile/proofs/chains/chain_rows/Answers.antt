use Rattle.std.proofs.Common.{◌≡◌, ◌+◌, ◌<◌, List, [], ◌++◌, length, get_or, sym, ap, ◌∙◌, subst, arith, rules}
use Rattle.std.proofs.lemmas.List.{length-set}
use Rattle.policy.specs.Fields.{widths}
use Rattle.diagram.specs.Diagrams.{Node}
use Rattle.diagram.specs.Chains.{rows_of_level, chain}
use Rattle.compile.specs.Levels.{diagram_of, AllRuns}
use Rattle.compile.specs.Writing.{Measured}
use Rattle.compile.proofs.Levelling.{part_more, part_full, level_is, chain_open, told_more}
use Rattle.compile.specs.Vectors.{items}
use Rattle.compile.proofs.chains.chain_rows.Goals as goal

pub write_rows-requires : goal.write_rows-requires
write_rows-requires c =
    let lf : c.loop-field.field < 5 = c.loop-field-test.true in
    let five : length c.args.levels.now ≡ 5 = search rules in
    let e = level_is c.args.levels.now five c.loop-field.field lf c.index-levels-field.result in
    subst (λ (z : List Node). AllRuns (get_or widths c.loop-field.field 0) z) (sym e) (c.requires.runs c.loop-field.field lf)

pub returns-in_err-write_rows : goal.returns-in_err-write_rows
returns-in_err-write_rows c =
    let lf : c.loop-field.field < 5 = c.loop-field-test.true in
    let five : length c.args.levels.now ≡ 5 = search rules in
    let e = level_is c.args.levels.now five c.loop-field.field lf c.index-levels-field.result in
    let full = subst (λ (z : List Node). 1024 < length (items c.loop-field.rows) + length (rows_of_level c.args.side (get_or widths c.loop-field.field 0) (c.loop-field.field + 1) 0 z)) e c.in_err-write_rows.ensures in
    let long : 1024 < length (chain c.args.side widths (diagram_of c.args.levels.now))
    = omega (
      arith,
      part_full [] (items c.loop-field.rows) _ _ (chain c.args.side widths (diagram_of c.args.levels.now))
          (chain_open c.args.levels.now five c.loop-field.field lf (items c.loop-field.rows) c.args.side c.loop-field.invariant.1) full,
    ) in
    rw c.from_residual.ensures long

pub loop-field-preserved : goal.loop-field-preserved
loop-field-preserved c =
    let lf : c.loop-field.field < 5 = c.loop-field-test.true in
    let five : length c.args.levels.now ≡ 5 = search rules in
    let e = level_is c.args.levels.now five c.loop-field.field lf c.index-levels-field.result in
    let w = c.in_ok-write_rows.ensures in (
      length-set c.loop-field.lengths c.loop-field.field c.write_rows.new.lengths ∙ c.loop-field.invariant.0,
      part_more [] (items c.loop-field.rows) (items c.write_rows.new.rows) _ _ _
          (chain_open c.args.levels.now five c.loop-field.field lf (items c.loop-field.rows) c.args.side c.loop-field.invariant.1)
          (w.added ∙ ap (λ (z : List Node). (items c.loop-field.rows) ++ rows_of_level c.args.side (get_or widths c.loop-field.field 0) (c.loop-field.field + 1) 0 z) e),
      told_more c.loop-field.lengths (diagram_of c.args.levels.now) c.loop-field.field c.write_rows.new.lengths (omega (arith, c.loop-field.invariant.0)) c.loop-field.invariant.2
          (subst (λ (z : List Node). Measured c.write_rows.new.lengths (get_or widths c.loop-field.field 0) z (length z)) e w.told),
    )
