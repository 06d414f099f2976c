use Rattle.std.proofs.Common.{◌≡◌, ◌+◌, ◌-◌, ◌/◌, ap, drop, ◌*◌, ◌<◌, ℕ, length, sym, ◌∙◌, arith}
use Rattle.std.proofs.lemmas.List.{length-drop, length-take}
use Rattle.std.proofs.Math.Nat.{add-mul}
use Rattle.drive_port.specs.Calls.{block_count}
use Rattle.zone_translator.proofs.DiskLaws.{alike-join}
use Rattle.zone_translator.proofs.KeepingLaws.{keeps_again}
use Rattle.zone_states.specs.declared.geometry.Geometry.{Geometry}
use Rattle.disk_copies.proofs.Pieces.{some-blocks, times-less}
use Rattle.disk_copies.proofs.Runs.{IsRun, run-count, run-fits, run-more, run-refused, slice-whole}
use Rattle.disk_copies.proofs.putting.put.Goals as goal

pub first_run-run-requires-clause-long : goal.first_run-run-requires-clause-long
first_run-run-requires-clause-long g c =
    let at = c.loop-done in
    let bytes = c.args.bytes.now in
    let fits = run-fits at.invariant.whole.0 (block_count c.args.disk.now.drive.geometry bytes) c.block_bytes-block.result at.done (length bytes) at.invariant.whole.1 (rw c.block_bytes-block.ensures.size c.requires.whole) c.loop-done-test.true in
    omega (arith, fits, length-take (length bytes - at.done) (drop at.done bytes), length-drop at.done bytes)

pub overflow_add-at : goal.overflow_add-at
overflow_add-at g c =
    let at = c.loop-done in
    let bytes = c.args.bytes.now in
    let b = c.block_bytes-block.result in
    let all = block_count c.args.disk.now.drive.geometry bytes in
    let long : length bytes ≡ all * b = rw c.block_bytes-block.ensures.size c.requires.whole in
    let n = run-count at.done at.invariant.whole.0 b c.block_bytes-block.ensures.some at.invariant.whole.1 in
    let some : 0 < all = some-blocks all b (omega (arith, long, c.loop-done-test.true)) in
    let few = times-less at.invariant.whole.0 all b c.block_bytes-block.ensures.some (omega (arith, long, at.invariant.whole.1, at.invariant.within)) in
    omega (arith, n, few, c.requires.room some, c.requires.few)

pub put_run-requires-clause-whole : goal.put_run-requires-clause-whole
put_run-requires-clause-whole g c =
    let at = c.loop-done in
    let bytes = c.args.bytes.now in
    let geometry = at.disk.drive.geometry in
    let size = c.block_bytes-block.ensures.size ∙ ap (λ (h : Geometry). h.block) (sym at.invariant.alike.shape.geometry) in
    let run : IsRun geometry bytes at.done c.first_run-run.result.bytes = record {
      n = at.invariant.whole.0;
      m = c.first_run-run.ensures.whole.0;
      some = rw size at c.block_bytes-block.ensures.some;
      more = c.first_run-run.ensures.whole.1;
      done_is = rw size at at.invariant.whole.1;
      run_is = rw size at c.first_run-run.ensures.whole.2;
      within = omega (arith, at.invariant.within, c.first_run-run.ensures.within, length-take (length bytes - at.done) (drop at.done bytes), length-drop at.done bytes);
    } in
    slice-whole geometry bytes at.done c.first_run-run.result.bytes run

pub returns-in_err-put_run-clause-flat : goal.returns-in_err-put_run-clause-flat
returns-in_err-put_run-clause-flat g c clean =
    let was = c.put_run.ensures.alike.shape.trusted clean in
    let at = c.loop-done in
    let old = c.args.disk.now in
    let bytes = c.args.bytes.now in
    let geometry = old.drive.geometry in
    let size = c.block_bytes-block.ensures.size in
    let run : IsRun geometry bytes at.done c.first_run-run.result.bytes = record {
      n = at.invariant.whole.0;
      m = c.first_run-run.ensures.whole.0;
      some = rw size at c.block_bytes-block.ensures.some;
      more = c.first_run-run.ensures.whole.1;
      done_is = rw size at at.invariant.whole.1;
      run_is = rw size at c.first_run-run.ensures.whole.2;
      within = omega (arith, at.invariant.within, c.first_run-run.ensures.within, length-take (length bytes - at.done) (drop at.done bytes), length-drop at.done bytes);
    } in
    let some : 0 < block_count geometry bytes = some-blocks (block_count geometry bytes) geometry.block (omega (arith, c.requires.whole, c.loop-done-test.true)) in
    run-refused old at.disk c.put_run.new.disk bytes c.args.first _ at.done c.first_run-run.result.bytes c.in_err-put_run.field-0.0 c.from_residual.result c.from_residual.ensures.1
    run at.invariant.alike.shape.geometry (ap (λ (b : ℕ). c.args.first + at.done / b) size) c.requires.whole (c.requires.room some) (at.invariant.flat was) (c.in_err-put_run.ensures.flat clean)

pub returns-in_err-put_run-clause-keeps : goal.returns-in_err-put_run-clause-keeps
returns-in_err-put_run-clause-keeps g c clean = keeps_again c.args.disk.now c.loop-done.disk c.put_run.new.disk (c.loop-done.invariant.keeps (c.put_run.ensures.alike.shape.trusted clean)) (c.put_run.ensures.keeps clean)

pub returns-in_err-put_run-clause-alike : goal.returns-in_err-put_run-clause-alike
returns-in_err-put_run-clause-alike g c = alike-join c.args.disk.now c.loop-done.disk c.put_run.new.disk c.loop-done.invariant.alike c.put_run.ensures.alike

pub loop-done-preserved : goal.loop-done-preserved
loop-done-preserved g c =
    let at = c.loop-done in
    let old = c.args.disk.now in
    let bytes = c.args.bytes.now in
    let geometry = old.drive.geometry in
    let size = c.block_bytes-block.ensures.size in
    let run : IsRun geometry bytes at.done c.first_run-run.result.bytes = record {
      n = at.invariant.whole.0;
      m = c.first_run-run.ensures.whole.0;
      some = rw size at c.block_bytes-block.ensures.some;
      more = c.first_run-run.ensures.whole.1;
      done_is = rw size at at.invariant.whole.1;
      run_is = rw size at c.first_run-run.ensures.whole.2;
      within = omega (arith, at.invariant.within, c.first_run-run.ensures.within, length-take (length bytes - at.done) (drop at.done bytes), length-drop at.done bytes);
    } in
    let n = at.invariant.whole.0 in
    let m = c.first_run-run.ensures.whole.0 in
    record {
      whole = (n + m, omega (arith, at.invariant.whole.1, c.first_run-run.ensures.whole.2, add-mul n m c.block_bytes-block.result));
      within = run.within;
      flat = λ clean. run-more old at.disk c.put_run.new.disk bytes c.args.first _ at.done c.first_run-run.result.bytes run at.invariant.alike.shape.geometry (ap (λ (b : ℕ). c.args.first + at.done / b) size)
          (at.invariant.flat (c.put_run.ensures.alike.shape.trusted clean)) (c.in_ok-put_run.ensures.flat clean);
      keeps = λ clean. keeps_again old at.disk c.put_run.new.disk (at.invariant.keeps (c.put_run.ensures.alike.shape.trusted clean)) (c.put_run.ensures.keeps clean);
      alike = alike-join old at.disk c.put_run.new.disk at.invariant.alike c.put_run.ensures.alike;
    }
