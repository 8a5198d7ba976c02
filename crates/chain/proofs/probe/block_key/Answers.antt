use Rattle.std.proofs.Common.{◌≡◌, ◌*◌, ◌%◌, arith}
use lib.Bits.{bit_and, and_mask}
use Rattle.chain.proofs.Packed.{packed}
use Rattle.chain.proofs.probe.block_key.Goals as goal

pub returns : goal.returns
returns c =
    let s : bit_and c.args.side 3 ≡ c.args.side % 4 = and_mask c.args.side 2 in
    let l : bit_and c.args.level 7 ≡ c.args.level % 8 = and_mask c.args.level 3 in
    let n : bit_and c.args.length 63 ≡ c.args.length % 64 = and_mask c.args.length 6 in
    let a : c.args.side % 4 * 72057594037927936 % 18446744073709551616 ≡ c.args.side % 4 * 72057594037927936 = omega arith in
    let b : c.args.level % 8 * 281474976710656 % 18446744073709551616 ≡ c.args.level % 8 * 281474976710656 = omega arith in
    let d : c.args.node * 1099511627776 % 18446744073709551616 ≡ c.args.node * 1099511627776 = omega arith in
    let e : c.args.length % 64 * 4294967296 % 18446744073709551616 ≡ c.args.length % 64 * 4294967296 = omega arith in
    let p = packed (c.args.side % 4) (c.args.level % 8) c.args.node (c.args.length % 64) c.args.value (omega arith) (omega arith) (omega arith) (omega arith) (omega arith) in
    cc
