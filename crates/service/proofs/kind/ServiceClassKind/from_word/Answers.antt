use Rattle.std.proofs.Common.{◌-◌, get_or, arith, ltb-false, ltb-true}
use Rattle.service.specs.Laws.{new_of_word, word_missing, places}
use Rattle.service.proofs.kind.ServiceClassKind.from_word.Goals as goal

pub returns-in-113 : goal.returns-in-113
returns-in-113 c =
    let w = c.args.bytes.now in
    new_of_word (get_or w 1 0 - 48) (get_or w 3 0 - 48) w c.new.result c.new.ensures (omega arith) (omega arith)
    (omega (arith, ltb-true, ltb-false)) (omega arith) (omega arith) (omega arith) (omega arith)

pub returns-in_default : goal.returns-in_default
returns-in_default c = word_missing c.args.bytes.now (λ x e. let s = places x c.args.bytes.now e in omega (arith, ltb-true, ltb-false))

pub returns-in_default-2 : goal.returns-in_default-2
returns-in_default-2 c = word_missing c.args.bytes.now (λ x e. let s = places x c.args.bytes.now e in omega (arith, ltb-true, ltb-false))

pub returns-in_default-3 : goal.returns-in_default-3
returns-in_default-3 c = word_missing c.args.bytes.now (λ x e. let s = places x c.args.bytes.now e in omega (arith, ltb-true, ltb-false))

pub returns-in_default-4 : goal.returns-in_default-4
returns-in_default-4 c = word_missing c.args.bytes.now (λ x e. let s = places x c.args.bytes.now e in omega (arith, ltb-true, ltb-false))

pub returns-in_default-5 : goal.returns-in_default-5
returns-in_default-5 c = word_missing c.args.bytes.now (λ x e. let s = places x c.args.bytes.now e in omega (arith, ltb-true, ltb-false))

pub returns-in_default-6 : goal.returns-in_default-6
returns-in_default-6 c = word_missing c.args.bytes.now (λ x e. let s = places x c.args.bytes.now e in omega (arith, ltb-true, ltb-false))

pub returns-in_default-7 : goal.returns-in_default-7
returns-in_default-7 c = word_missing c.args.bytes.now (λ x e. let s = places x c.args.bytes.now e in omega (arith, ltb-true, ltb-false))

pub returns-in_default-8 : goal.returns-in_default-8
returns-in_default-8 c = word_missing c.args.bytes.now (λ x e. let s = places x c.args.bytes.now e in omega (arith, ltb-true, ltb-false))
