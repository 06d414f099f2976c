use Rattle.std.proofs.Common.{take, rules, arith}
use Rattle.std.proofs.KnownBytes.{Consumes-trans}
use Rattle.disk_files.proofs.InputLaws.{fewer-kept, filled}
use Rattle.disk_files.proofs.input.fill.Goals as goal

pub loop-at-preserved : goal.loop-at-preserved
loop-at-preserved g c =
    let at = c.loop-at in
    let n = c.in-Ok.n in
    let read = c.read_again.new.buffer in
    record {
      within = search rules;
      length_is = search rules;
      read = rw (filled at.at _ n at.buffer read at.invariant.within (omega (arith, c.in-Ok.ensures.bound)))
          (Consumes-trans _ _ _ (take at.at at.buffer) (take n read) at.invariant.read c.in-Ok.ensures.bytes.0);
    }

pub returns-in-Err-clause-err : goal.returns-in-Err-clause-err
returns-in-Err-clause-err g c =
    let at = c.loop-at in
    fewer-kept _ _ _ at.at _ at.buffer at.invariant.read at.invariant.within (search rules) c.in-Err.ensures.bytes
