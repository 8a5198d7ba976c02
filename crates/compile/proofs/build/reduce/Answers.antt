use Rattle.std.proofs.Common.{[], ◌∷◌, refl}
use Rattle.compile.proofs.Turns.{ready_start, all_done}
use Rattle.compile.proofs.build.reduce.Goals as goal

pub build-requires : goal.build-requires
build-requires c =
    let lives = c.args.lives.now in
    ready_start lives.rules.now (0 ∷ 0 ∷ 0 ∷ 0 ∷ 0 ∷ []) c.clear_levels.new.levels c.forget.new.known refl c.clear_levels.ensures.five lives.few c.clear_levels.ensures.bare c.forget.ensures

pub returns : goal.returns
returns c =
    all_done c.args.lives.now.rules.now (0 ∷ 0 ∷ 0 ∷ 0 ∷ 0 ∷ []) c.clear_levels.new.levels c.build.new.levels c.build.new.known c.in_ok-build.field-0 c.in_ok-build.ensures
