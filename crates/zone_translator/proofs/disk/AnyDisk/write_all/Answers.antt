use Rattle.std.proofs.Common.{◌≡◌, ◌∙◌, ◌-◌, ◌+◌, Ok, ℕ, drop, sym, refl, ap, rules, arith}
use Rattle.zone_states.specs.declared.geometry.Geometry.{Geometry}
use Rattle.zone_translator.specs.Batches.{blocks_of, is_trim}
use Rattle.zone_translator.specs.View.{disk_array, logs_of, most_batches, mounted_of}
use Rattle.zone_translator.proofs.CostLaws.{costs-none, spends-all, spends-more, spends-none}
use Rattle.zone_translator.proofs.CallLaws.{batches-less, batches-some, cause-of, done-known, goes-begun, names-all, names-more, write-done, write-front, write-known, write-refused, write-unknown, written-more}
use Rattle.std.specs.Prelude.{IsTrue}
use Rattle.zone_translator.proofs.CleaningLaws.{StaysClean, cleaning-stays, same-stays, stays-join}
use Rattle.zone_translator.proofs.ContentLaws.{length-blocks, rest-is, rest-whole}
use Rattle.zone_translator.proofs.CutLaws.{cut-old, cut-step}
use Rattle.zone_translator.proofs.DiskLaws.{alike-join, alike-same, done-clean, kept-refl, still-join, still-refl, refused-clean, same-clean, turns-on}
use Rattle.zone_translator.proofs.FlatLaws.{replaced-none}
use Rattle.zone_translator.proofs.disk.AnyDisk.write_all.Goals as goal

-- ---- what is known before anything is done

pub returns-in_err-is_done-clause-answers : goal.returns-in_err-is_done-clause-answers
returns-in_err-is_done-clause-answers g c = λ clean. record {
  flat = write-known c.args.self.now c.args.first c.args.blocks _ c.from_residual.result (length-blocks _ c.args.blocks c.args.content) (search rules);
  untouched = λ known. refl;
  kept = kept-refl c.args.self.now (c.is_done.ensures.sound.mountable clean);
  durable = refl;
  cause = search rules;
}

pub returns-in_err-is_done-clause-stores : goal.returns-in_err-is_done-clause-stores
returns-in_err-is_done-clause-stores g c = λ clean. record { names = search rules; says = search rules; early = search rules; cut = cut-old c.args.self.now.drive.geometry (c.args.first + c.args.blocks - 1) (logs_of c.args.self.now) }

pub returns-in_err-is_done-clause-costs : goal.returns-in_err-is_done-clause-costs
returns-in_err-is_done-clause-costs g c = λ clean. record { turns = search rules; clean = λ serves. same-clean c.args.self.now; completed = costs-none c.args.self.now _ }

pub returns-then-branch-clause-answers : goal.returns-then-branch-clause-answers
returns-then-branch-clause-answers g c = λ clean. record {
  flat = write-known c.args.self.now c.args.first c.args.blocks _ (Ok tt) (length-blocks _ c.args.blocks c.args.content) (done-known c.args.self.now c.args.first c.args.blocks c.in_ok-is_done.field-0 c.in_ok-is_done.ensures.known c.if-branch.true);
  untouched = λ known. refl;
  kept = kept-refl c.args.self.now (c.is_done.ensures.sound.mountable clean);
  durable = refl;
  cause = tt;
}

pub returns-then-branch-clause-stores : goal.returns-then-branch-clause-stores
returns-then-branch-clause-stores g c = λ clean.
    let none = c.in_ok-is_done.ensures.none c.if-branch.true in
    record {
      names = record { named = λ block low high. absurd (omega (arith, none)); others = λ block out. refl };
      says = λ some. absurd (omega (arith, none));
      early = λ some. absurd (omega (arith, none));
      cut = cut-old c.args.self.now.drive.geometry (c.args.first + c.args.blocks - 1) (logs_of c.args.self.now);
    }

pub returns-then-branch-clause-costs : goal.returns-then-branch-clause-costs
returns-then-branch-clause-costs g c = λ clean. record { turns = omega arith; clean = λ serves. same-clean c.args.self.now; completed = costs-none c.args.self.now _ }

-- ---- batch by batch

pub loop-done-init : goal.loop-done-init
loop-done-init g c =
    let whole : c.args.blocks - 0 ≡ c.args.blocks = omega arith in
    let disk = c.args.self.now in (
      λ clean. still-refl disk (c.is_done.ensures.sound.mountable clean),
      alike-same disk,
      c.in_ok-is_done.ensures.serving c.if-branch.false,
      omega arith,
      λ clean. sym (replaced-none (disk_array disk) c.args.first),
      λ clean. record { named = λ block low high. absurd (omega arith); others = λ block out. refl },
      λ clean some. absurd (omega arith),
      λ clean some. absurd (omega arith),
      rw whole (spends-none disk _ _ refl),
      λ clean. cut-old disk.drive.geometry (c.args.first + c.args.blocks - 1) (logs_of disk),
      λ clean. same-stays (mounted_of disk) disk.clean,
    )

pub write_some-requires-clause-can : goal.write_some-requires-clause-can
write_some-requires-clause-can g c =
    let so_far = c.loop-done.invariant in
    let range = c.in_ok-is_done.ensures.in_range c.if-branch.false in
    let block_is : c.geometry-block.result.block ≡ c.args.self.now.drive.geometry.block = rw (← c.self.view_is) (ap (λ (x : Geometry). x.block) c.geometry-block.ensures) in
    record {
      some = omega (arith, c.loop-done-test.true);
      in_range = omega (arith, so_far.1.size, range, so_far.3, c.loop-done-test.true);
      whole = rw so_far.1.shape.geometry (rest-whole c.args.self.now.drive.geometry.block c.args.blocks c.loop-done.done c.args.content c.after-unwritten.result so_far.3 c.requires.whole (rw block_is at c.after-unwritten.ensures));
    }

pub loop-done-preserved : goal.loop-done-preserved
loop-done-preserved g c =
    let so_far = c.loop-done.invariant in
    let disk = c.args.self.now in
    let now = c.loop-done.self in
    let new = c.write_some.new.self in
    let left = c.args.blocks - c.loop-done.done in
    let block_is : c.geometry-block.result.block ≡ disk.drive.geometry.block = rw (← c.self.view_is) (ap (λ (x : Geometry). x.block) c.geometry-block.ensures) in
    let rest = rest-is disk.drive.geometry.block c.args.blocks c.loop-done.done c.args.content c.after-unwritten.result so_far.3 (rw block_is at c.after-unwritten.ensures) in
    let left_is : blocks_of now.drive.geometry.block left c.after-unwritten.result ≡ drop c.loop-done.done (blocks_of disk.drive.geometry.block c.args.blocks c.args.content) = rw so_far.1.shape.geometry rest.blocks in
    let long = length-blocks disk.drive.geometry.block c.args.blocks c.args.content in
    let done = c.in-Ok.ensures in
    let was : IsTrue new.drive.clean → IsTrue now.drive.clean = c.write_some.ensures.alike.shape.trusted in
    let fewer : c.args.blocks - (c.loop-done.done + c.in-Ok.count) ≡ left - c.in-Ok.count = omega (arith, done.taken, so_far.3) in
    let less = batches-less (is_trim c.args.content) disk left c.in-Ok.count c.is_done.ensures.sound.range done.taken.0 done.taken.1 (rw (so_far.1.shape.geometry, rest.trim) at done.taken.2) in
    let stays : IsTrue new.drive.clean → StaysClean (mounted_of now) now.clean (mounted_of new) new.clean = λ clean. cleaning-stays {V = ℕ} (mounted_of now) (mounted_of new) now.clean new.clean c.in-Ok.count (omega (arith, (done.kept clean).kept.next, (done.kept clean).kept.appended)) (done.kept clean).kept.geometry (done.clean clean) in (
      λ clean. still-join disk now new (so_far.0 (was clean)) (done.kept clean),
      alike-join disk now new so_far.1 c.write_some.ensures.alike,
      done.serves,
      omega (arith, done.taken, so_far.3),
      λ clean. written-more (disk_array disk) (disk_array now) (disk_array new) c.args.first c.loop-done.done c.in-Ok.count _ _ (blocks_of disk.drive.geometry.block c.args.blocks c.args.content) _
          (so_far.4 (was clean)) refl refl (omega (arith, long, so_far.3)) left_is (done.wrote clean).array,
      λ clean. names-more (is_trim c.args.content) _ _ _ c.args.first c.loop-done.done _ c.in-Ok.count _ refl refl (so_far.5 (was clean)) (rw rest.trim at (done.wrote clean).names),
      λ clean some. (done.wrote clean).says,
      λ clean some. rw so_far.1.shape.geometry at (done.wrote clean).early,
      rw fewer (spends-more disk now new (most_batches (is_trim c.args.content) disk c.args.blocks) (most_batches (is_trim c.args.content) disk left) _ so_far.1.shape.geometry c.write_some.ensures.alike.shape.unfailing less so_far.8 done.completed),
      λ clean. cut-step disk.drive.geometry now.drive.geometry (logs_of disk) (c.args.first + c.args.blocks - 1) _ (logs_of now) (logs_of new) so_far.1.shape.geometry (omega (arith, so_far.3)) (done.cut clean (logs_of disk)) (so_far.9 (was clean)),
      λ clean. stays-join (mounted_of disk) (mounted_of now) (mounted_of new) disk.clean now.clean new.clean (so_far.10 (was clean)) (stays clean),
    )

-- ---- a batch was refused

pub returns-in-Err-clause-answers : goal.returns-in-Err-clause-answers
returns-in-Err-clause-answers g c = λ clean.
    let so_far = c.loop-done.invariant in
    let was = c.write_some.ensures.alike.shape.trusted clean in
    let disk = c.args.self.now in
    let now = c.loop-done.self in
    let new = c.write_some.new.self in
    let left = c.args.blocks - c.loop-done.done in
    let block_is : c.geometry-block.result.block ≡ disk.drive.geometry.block = rw (← c.self.view_is) (ap (λ (x : Geometry). x.block) c.geometry-block.ensures) in
    let rest = rest-is disk.drive.geometry.block c.args.blocks c.loop-done.done c.args.content c.after-unwritten.result so_far.3 (rw block_is at c.after-unwritten.ensures) in
    let left_is : blocks_of now.drive.geometry.block left c.after-unwritten.result ≡ drop c.loop-done.done (blocks_of disk.drive.geometry.block c.args.blocks c.args.content) = rw so_far.1.shape.geometry rest.blocks in
    let long = length-blocks disk.drive.geometry.block c.args.blocks c.args.content in
    let lost = c.in-Err.ensures in
    let none = goes-begun disk c.args.first c.args.blocks c.in_ok-is_done.field-0 c.in_ok-is_done.ensures.known c.if-branch.false in
    let front = write-front (disk_array disk) (disk_array now) (disk_array new) c.args.first c.loop-done.done _ (blocks_of disk.drive.geometry.block c.args.blocks c.args.content) _
    (so_far.4 was) refl (omega (arith, long, so_far.3)) left_is (lost.err clean).front in
    record {
      flat = write-refused disk new c.args.first c.args.blocks _ c.in-Err.fault long none front (c.write_some.ensures.alike.size ∙ so_far.1.size) (lost.err clean).status (c.write_some.ensures.alike.shape.geometry ∙ so_far.1.shape.geometry) (lost.err clean).cause;
      untouched = write-unknown disk new c.args.first c.args.blocks _ long none;
      kept = (still-join disk now new (so_far.0 was) (lost.kept clean)).kept;
      durable = (still-join disk now new (so_far.0 was) (lost.kept clean)).durable;
      cause = cause-of new c.in-Err.fault (lost.err clean).cause;
    }

pub returns-in-Err-clause-stores : goal.returns-in-Err-clause-stores
returns-in-Err-clause-stores g c = λ clean.
    let so_far = c.loop-done.invariant in
    let was = c.write_some.ensures.alike.shape.trusted clean in
    let disk = c.args.self.now in
    record {
      names = tt;
      says = tt;
      early = tt;
      cut = cut-step disk.drive.geometry c.loop-done.self.drive.geometry (logs_of disk) (c.args.first + c.args.blocks - 1) _ (logs_of c.loop-done.self) (logs_of c.write_some.new.self) so_far.1.shape.geometry (omega (arith, so_far.3)) (c.in-Err.ensures.cut clean (logs_of disk)) (so_far.9 was);
    }

pub returns-in-Err-clause-costs : goal.returns-in-Err-clause-costs
returns-in-Err-clause-costs g c = λ clean.
    let so_far = c.loop-done.invariant in
    let was = c.write_some.ensures.alike.shape.trusted clean in
    let disk = c.args.self.now in
    let now = c.loop-done.self in
    let new = c.write_some.new.self in
    let lost = c.in-Err.ensures in
    let one = batches-some (is_trim c.args.content) disk (c.args.blocks - c.loop-done.done) c.is_done.ensures.sound.range (omega (arith, c.loop-done-test.true)) in
    let last = spends-more disk now new (most_batches (is_trim c.args.content) disk c.args.blocks) (most_batches (is_trim c.args.content) disk (c.args.blocks - c.loop-done.done)) 0 so_far.1.shape.geometry c.write_some.ensures.alike.shape.unfailing (omega (arith, one)) so_far.8 lost.completed in
    record {
      turns = tt;
      clean = λ serves. refused-clean (mounted_of disk) (mounted_of now) (mounted_of new) disk.clean now.clean new.clean disk.status new.status c.in-Err.fault (c.write_some.ensures.alike.shape.geometry ∙ so_far.1.shape.geometry) (so_far.10 was) (lost.clean clean) (sym (lost.err clean).status ∙ serves);
      completed = spends-all disk new _ 0 last;
    }

-- ---- all is done

pub returns-clause-answers : goal.returns-clause-answers
returns-clause-answers g c = λ clean.
    let so_far = c.loop-done.invariant in
    let disk = c.args.self.now in
    let long = length-blocks disk.drive.geometry.block c.args.blocks c.args.content in
    let none = goes-begun disk c.args.first c.args.blocks c.in_ok-is_done.field-0 c.in_ok-is_done.ensures.known c.if-branch.false in
    record {
      flat = write-done disk c.loop-done.self c.args.first c.args.blocks c.loop-done.done _ long none (c.in_ok-is_done.ensures.serving c.if-branch.false) (omega (arith, c.loop-done-test.false)) (so_far.4 clean) so_far.1.size so_far.2 so_far.1.shape.geometry;
      untouched = write-unknown disk c.loop-done.self c.args.first c.args.blocks _ long none;
      kept = (so_far.0 clean).kept;
      durable = (so_far.0 clean).durable;
      cause = tt;
    }

pub returns-clause-stores : goal.returns-clause-stores
returns-clause-stores g c = λ clean.
    let so_far = c.loop-done.invariant in
    record {
      names = names-all (is_trim c.args.content) _ _ c.args.first c.loop-done.done c.args.blocks (omega (arith, so_far.3, c.loop-done-test.false)) (so_far.5 clean);
      says = λ some. (so_far.6 clean) (omega (arith, some, c.loop-done-test.false));
      early = λ some. (so_far.7 clean) (omega (arith, some, c.loop-done-test.false));
      cut = (so_far.9 clean);
    }

pub returns-clause-costs : goal.returns-clause-costs
returns-clause-costs g c = λ clean.
    let so_far = c.loop-done.invariant in
    let disk = c.args.self.now in
    let new = c.loop-done.self in
    record {
      turns = turns-on (mounted_of disk) (mounted_of new) disk.clean new.clean disk.status new.status so_far.1.shape.geometry (so_far.10 clean).turns;
      clean = λ serves. done-clean (mounted_of disk) (mounted_of new) disk.clean new.clean disk.status new.status (so_far.10 clean);
      completed = spends-all disk new _ _ so_far.8;
    }

-- ---- whatever the Reads returned

pub returns-in_err-is_done-clause-alike : goal.returns-in_err-is_done-clause-alike
returns-in_err-is_done-clause-alike g c = alike-same c.args.self.now

pub returns-then-branch-clause-alike : goal.returns-then-branch-clause-alike
returns-then-branch-clause-alike g c = alike-same c.args.self.now

pub returns-in-Err-clause-alike : goal.returns-in-Err-clause-alike
returns-in-Err-clause-alike g c = alike-join c.args.self.now c.loop-done.self c.write_some.new.self c.loop-done.invariant.1 c.write_some.ensures.alike

pub returns-clause-alike : goal.returns-clause-alike
returns-clause-alike g c = c.loop-done.invariant.1

pub returns-in-Err-clause-completed : goal.returns-in-Err-clause-completed
returns-in-Err-clause-completed g c =
    let so_far = c.loop-done.invariant in
    let disk = c.args.self.now in
    let now = c.loop-done.self in
    let new = c.write_some.new.self in
    let lost = c.in-Err.ensures in
    let one = batches-some (is_trim c.args.content) disk (c.args.blocks - c.loop-done.done) c.is_done.ensures.sound.range (omega (arith, c.loop-done-test.true)) in
    let last = spends-more disk now new (most_batches (is_trim c.args.content) disk c.args.blocks) (most_batches (is_trim c.args.content) disk (c.args.blocks - c.loop-done.done)) 0 so_far.1.shape.geometry c.write_some.ensures.alike.shape.unfailing (omega (arith, one)) so_far.8 lost.completed in
    spends-all disk new _ 0 last

pub returns-clause-completed : goal.returns-clause-completed
returns-clause-completed g c = spends-all c.args.self.now c.loop-done.self _ _ c.loop-done.invariant.8

pub returns-in_err-is_done-clause-completed : goal.returns-in_err-is_done-clause-completed
returns-in_err-is_done-clause-completed g c = costs-none c.args.self.now _

pub returns-then-branch-clause-completed : goal.returns-then-branch-clause-completed
returns-then-branch-clause-completed g c = costs-none c.args.self.now _
