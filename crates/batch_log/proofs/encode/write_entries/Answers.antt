use Rattle.std.proofs.Common.{ℕ, refl, ap, arith}
use Rattle.byteorder.specs.Endian.{little_bytes}
use Rattle.batch_log.proofs.Writing.{one_more}
use Rattle.batch_log.proofs.encode.write_entries.Goals as goal

pub loop-i-preserved : goal.loop-i-preserved
loop-i-preserved c =
    one_more c.args.entries.now c.args.out.now c.loop-i.out c.write_u64.new.buf (little_bytes 8 c.word.result) c.loop-i.i _ _ c.loop-i-test.true (omega (arith, c.requires.room)) refl c.loop-i.invariant (ap (λ (n : ℕ). little_bytes 8 n) c.word.ensures) c.write_u64.ensures
