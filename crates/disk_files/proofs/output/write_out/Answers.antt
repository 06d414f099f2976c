use Rattle.std.proofs.Common.{drop, take, arith}
use Rattle.std.proofs.KnownBytes.{Appends-trans}
use Rattle.std.proofs.Math.Seq.{take-add}
use Rattle.std.proofs.lemmas.List.{take_rest}
use Rattle.disk_files.proofs.output.write_out.Goals as goal

pub loop-at-preserved : goal.loop-at-preserved
loop-at-preserved g c =
    let bytes = c.args.bytes.now in
    let at = c.loop-at.at in
    let n = c.in-Ok.n in
    let more = rw take_rest at c.in-Ok.ensures.bytes in
    (omega (arith, c.in-Ok.ensures.bound), rw (take-add at n bytes) (Appends-trans _ _ _ (take at bytes) (take n (drop at bytes)) c.loop-at.invariant.1 more))
