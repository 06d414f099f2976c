use Rattle.std.proofs.Common.{◌≡◌, ◌∙◌, ◌-◌, ◌+◌, ◌≤◌, List, Ok, length, take, drop, sym, refl, ap, subst, rules, arith}
use Rattle.std.proofs.lemmas.List.{length-drop, take_all}
use Rattle.zone_states.specs.declared.geometry.Geometry.{Geometry}
use Rattle.batch_log.specs.declared.header.Entry.{Entry}
use Rattle.batch_log.specs.Log.{data_count}
use Rattle.zone_translator.specs.Flat.{Put, put_all}
use Rattle.zone_translator.specs.Listed.{NamesAll, last_block, left_puts, list_puts}
use Rattle.zone_translator.specs.View.{disk_array, disk_places, logs_of, mounted_of}
use Rattle.zone_translator.specs.declared.list.Taken.{Taken}
use Rattle.zone_translator.proofs.CostLaws.{costs-none, spends-all, spends-more, spends-none}
use Rattle.zone_translator.proofs.CallLaws.{cause-of}
use Rattle.std.specs.Prelude.{IsTrue}
use Rattle.zone_translator.proofs.CleaningLaws.{StaysClean, cleaning-stays, same-stays, stays-join}
use Rattle.zone_translator.proofs.DiskLaws.{alike-join, alike-same, done-clean, kept-refl, same-clean, still-join, still-refl, turns-on}
use Rattle.zone_translator.proofs.ListedDiskLaws.{answers-known, can-left, known-done, known-none, left-inside, left-is, length-list, list-begun, list-done, list-front, list-refused, more-data, names-again, names-none, put-again, refused-list-clean}
use Rattle.zone_translator.proofs.CutLaws.{cut-old, cut-step}
use Rattle.zone_translator.proofs.ListedLaws.{few-data, last-left}
use Rattle.batch_log.proofs.LentLaws.{data-few}
use Rattle.zone_translator.proofs.disk.AnyDisk.write_list.Goals as goal

-- ---- what is known before anything is done

pub returns-in_err-is_list_done-clause-answers : goal.returns-in_err-is_list_done-clause-answers
returns-in_err-is_list_done-clause-answers g c = λ clean. record {
  flat = answers-known c.args.self.now c.args.entries.now c.args.bytes.now c.from_residual.result (search rules);
  untouched = λ known. refl;
  kept = kept-refl c.args.self.now (c.is_list_done.ensures.sound.mountable clean);
  durable = refl;
  cause = search rules;
}

pub returns-in_err-is_list_done-clause-stores : goal.returns-in_err-is_list_done-clause-stores
returns-in_err-is_list_done-clause-stores g c = λ clean. record { names = search rules; says = search rules; early = search rules; cut = cut-old c.args.self.now.drive.geometry (last_block c.args.entries.now) (logs_of c.args.self.now) }

pub returns-in_err-is_list_done-clause-costs : goal.returns-in_err-is_list_done-clause-costs
returns-in_err-is_list_done-clause-costs g c = λ clean. record { turns = search rules; clean = λ serves. same-clean c.args.self.now; completed = costs-none c.args.self.now _ }

pub returns-then-branch-clause-answers : goal.returns-then-branch-clause-answers
returns-then-branch-clause-answers g c = λ clean. record {
  flat = answers-known c.args.self.now c.args.entries.now c.args.bytes.now (Ok tt) (known-done c.args.self.now c.args.entries.now c.in_ok-is_list_done.field-0 c.in_ok-is_list_done.ensures.known c.if-branch.true);
  untouched = λ known. refl;
  kept = kept-refl c.args.self.now (c.is_list_done.ensures.sound.mountable clean);
  durable = refl;
  cause = tt;
}

pub returns-then-branch-clause-stores : goal.returns-then-branch-clause-stores
returns-then-branch-clause-stores g c = λ clean.
    let none = c.in_ok-is_list_done.ensures.none c.if-branch.true in
    record {
      names = names-none c.args.entries.now (disk_places c.args.self.now) none;
      says = λ some. absurd (omega (arith, none));
      early = λ some. absurd (omega (arith, none));
      cut = cut-old c.args.self.now.drive.geometry (last_block c.args.entries.now) (logs_of c.args.self.now);
    }

pub returns-then-branch-clause-costs : goal.returns-then-branch-clause-costs
returns-then-branch-clause-costs g c = λ clean. record { turns = omega arith; clean = λ serves. same-clean c.args.self.now; completed = costs-none c.args.self.now _ }

-- ---- batch by batch

pub loop-named-init : goal.loop-named-init
loop-named-init g c =
    let disk = c.args.self.now in
    let whole : length c.args.entries.now - 0 ≡ length c.args.entries.now = omega arith in (
      λ clean. still-refl disk (c.is_list_done.ensures.sound.mountable clean),
      alike-same disk,
      c.in_ok-is_list_done.ensures.serving c.if-branch.false,
      omega arith,
      refl,
      λ clean. refl,
      λ clean. record { named = tt; others = λ block out. refl },
      λ clean some. absurd (omega arith),
      λ clean some. absurd (omega arith),
      rw whole (spends-none disk _ _ refl),
      λ clean. cut-old disk.drive.geometry (last_block c.args.entries.now) (logs_of disk),
      λ clean. same-stays (mounted_of disk) disk.clean,
    )

pub overflow_mul-copied : goal.overflow_mul-copied
overflow_mul-copied g c =
    let so_far = c.loop-named.invariant in
    let block_is : c.geometry-block.result.block ≡ c.args.self.now.drive.geometry.block = rw (← c.self.view_is) (ap (λ (x : Geometry). x.block) c.geometry-block.ensures) in
    let within = left-inside c.geometry-block.result.block c.loop-named.named c.loop-named.copied c.args.entries.now c.args.bytes.now so_far.4 (rw block_is c.requires.whole) in
    omega (arith, within)

pub after-left-requires-clause-copied : goal.after-left-requires-clause-copied
after-left-requires-clause-copied g c =
    let so_far = c.loop-named.invariant in
    let block_is : c.geometry-block.result.block ≡ c.args.self.now.drive.geometry.block = rw (← c.self.view_is) (ap (λ (x : Geometry). x.block) c.geometry-block.ensures) in
    let within = left-inside c.geometry-block.result.block c.loop-named.named c.loop-named.copied c.args.entries.now c.args.bytes.now so_far.4 (rw block_is c.requires.whole) in
    omega (arith, within)

pub overflow_add-copied : goal.overflow_add-copied
overflow_add-copied g c =
    let so_far = c.loop-named.invariant in
    let es = c.args.entries.now in
    let taken = c.in-Ok.taken in
    let front = rw c.after-left.ensures.entries at c.in-Ok.ensures.taken.data_is in
    let more = more-data c.loop-named.named taken.entries c.loop-named.copied taken.blocks es so_far.4 front in
    omega (arith, more, few-data (c.loop-named.named + taken.entries) es, data-few es)

pub write_listed-requires-clause-can : goal.write_listed-requires-clause-can
write_listed-requires-clause-can g c =
    let so_far = c.loop-named.invariant in
    let es = c.args.entries.now in
    let disk = c.args.self.now in
    let block_is : c.geometry-block.result.block ≡ c.args.self.now.drive.geometry.block = rw (← c.self.view_is) (ap (λ (x : Geometry). x.block) c.geometry-block.ensures) in
    can-left disk c.loop-named.self es c.args.bytes.now c.after-left.result c.loop-named.named c.loop-named.copied c.geometry-block.result.block c.after-left.ensures.entries c.after-left.ensures.bytes block_is so_far.1.shape.geometry so_far.1.size
    c.loop-named-test.true (c.in_ok-is_list_done.ensures.in_range c.if-branch.false) c.requires.distinct so_far.4 c.requires.whole

pub loop-named-preserved : goal.loop-named-preserved
loop-named-preserved g c =
    let so_far = c.loop-named.invariant in
    let disk = c.args.self.now in
    let now = c.loop-named.self in
    let new = c.write_listed.new.self in
    let es = c.args.entries.now in
    let bytes = c.args.bytes.now in
    let left = c.after-left.result in
    let entries_are = c.after-left.ensures.entries in
    let block_is : c.geometry-block.result.block ≡ c.args.self.now.drive.geometry.block = rw (← c.self.view_is) (ap (λ (x : Geometry). x.block) c.geometry-block.ensures) in
    let puts_are = left-is disk now es bytes left c.loop-named.named c.loop-named.copied c.geometry-block.result.block entries_are c.after-left.ensures.bytes block_is so_far.1.shape.geometry so_far.4 in
    let done = c.in-Ok.ensures in
    let was : IsTrue new.drive.clean → IsTrue now.drive.clean = c.write_listed.ensures.alike.shape.trusted in
    let taken = c.in-Ok.taken in
    let long = length-drop c.loop-named.named es in
    let same : length left.entries.now ≡ length (drop c.loop-named.named es) = ap length entries_are in
    let data_is : taken.blocks ≡ data_count (take taken.entries (drop c.loop-named.named es)) = rw (← entries_are) done.taken.data_is in
    let names : IsTrue new.drive.clean → NamesAll (take taken.entries (drop c.loop-named.named es)) (disk_places now) (disk_places new) = λ clean. rw (← entries_are) (done.wrote clean).names in
    let fewer : length es - (c.loop-named.named + taken.entries) ≡ length es - c.loop-named.named - taken.entries = omega (arith, done.taken.few, so_far.3) in
    let less : length es - c.loop-named.named - taken.entries + 1 ≤ length es - c.loop-named.named = omega (arith, done.taken.some, done.taken.few, same, long, so_far.3) in
    let last : last_block left.entries.now ≡ last_block es = ap last_block entries_are ∙ last-left c.loop-named.named es c.loop-named-test.true in
    let stays : IsTrue new.drive.clean → StaysClean (mounted_of now) now.clean (mounted_of new) new.clean = λ clean. cleaning-stays {V = Taken} (mounted_of now) (mounted_of new) now.clean new.clean taken (omega (arith, (done.kept clean).kept.next, (done.kept clean).kept.appended)) (done.kept clean).kept.geometry (done.clean clean) in (
      λ clean. still-join disk now new (so_far.0 (was clean)) (done.kept clean),
      alike-join disk now new so_far.1 c.write_listed.ensures.alike,
      done.serves,
      omega (arith, done.taken.few, same, long, so_far.3),
      more-data c.loop-named.named taken.entries c.loop-named.copied taken.blocks es so_far.4 data_is,
      λ clean. put-again (disk_array disk) (disk_array now) (disk_array new) c.loop-named.named taken.entries (c.loop-named.named + taken.entries) (list_puts disk es bytes) (left_puts now.drive.geometry left) (so_far.5 (was clean)) puts_are refl (done.wrote clean).array,
      λ clean. names-again es c.loop-named.named taken.entries (c.loop-named.named + taken.entries) (disk_places disk) (disk_places now) (disk_places new) refl c.requires.distinct (so_far.6 (was clean)) (names clean),
      λ clean some. (done.wrote clean).says,
      λ clean some. rw so_far.1.shape.geometry at (done.wrote clean).early,
      rw fewer (spends-more disk now new (length es) (length es - c.loop-named.named) _ so_far.1.shape.geometry c.write_listed.ensures.alike.shape.unfailing less so_far.9 done.completed),
      λ clean. cut-step disk.drive.geometry now.drive.geometry (logs_of disk) (last_block es) (last_block left.entries.now) (logs_of now) (logs_of new) so_far.1.shape.geometry last (done.cut clean (logs_of disk)) (so_far.10 (was clean)),
      λ clean. stays-join (mounted_of disk) (mounted_of now) (mounted_of new) disk.clean now.clean new.clean (so_far.11 (was clean)) (stays clean),
    )

-- ---- a batch was refused

pub returns-in-Err-clause-answers : goal.returns-in-Err-clause-answers
returns-in-Err-clause-answers g c = λ clean.
    let so_far = c.loop-named.invariant in
    let was = c.write_listed.ensures.alike.shape.trusted clean in
    let disk = c.args.self.now in
    let now = c.loop-named.self in
    let new = c.write_listed.new.self in
    let es = c.args.entries.now in
    let bytes = c.args.bytes.now in
    let left = c.after-left.result in
    let block_is : c.geometry-block.result.block ≡ c.args.self.now.drive.geometry.block = rw (← c.self.view_is) (ap (λ (x : Geometry). x.block) c.geometry-block.ensures) in
    let puts_are = left-is disk now es bytes left c.loop-named.named c.loop-named.copied c.geometry-block.result.block c.after-left.ensures.entries c.after-left.ensures.bytes block_is so_far.1.shape.geometry so_far.4 in
    let lost = c.in-Err.ensures in
    let none = known-none disk es c.in_ok-is_list_done.field-0 c.in_ok-is_list_done.ensures.known c.if-branch.false in
    let front = list-front (disk_array disk) (disk_array now) (disk_array new) c.loop-named.named (list_puts disk es bytes) (left_puts now.drive.geometry left) (so_far.5 was) puts_are (omega (arith, so_far.3, length-list disk es bytes)) (lost.err clean).front in
    record {
      flat = list-refused disk new es bytes c.in-Err.fault none front (c.write_listed.ensures.alike.size ∙ so_far.1.size) (lost.err clean).status (c.write_listed.ensures.alike.shape.geometry ∙ so_far.1.shape.geometry) (lost.err clean).cause;
      untouched = list-begun disk new es bytes none;
      kept = (still-join disk now new (so_far.0 was) (lost.kept clean)).kept;
      durable = (still-join disk now new (so_far.0 was) (lost.kept clean)).durable;
      cause = cause-of new c.in-Err.fault (lost.err clean).cause;
    }

pub returns-in-Err-clause-stores : goal.returns-in-Err-clause-stores
returns-in-Err-clause-stores g c = λ clean.
    let so_far = c.loop-named.invariant in
    let was = c.write_listed.ensures.alike.shape.trusted clean in
    let disk = c.args.self.now in
    let es = c.args.entries.now in
    let left = c.after-left.result in
    let last : last_block left.entries.now ≡ last_block es = ap last_block c.after-left.ensures.entries ∙ last-left c.loop-named.named es c.loop-named-test.true in
    record {
      names = tt;
      says = tt;
      early = tt;
      cut = cut-step disk.drive.geometry c.loop-named.self.drive.geometry (logs_of disk) (last_block es) (last_block left.entries.now) (logs_of c.loop-named.self) (logs_of c.write_listed.new.self) so_far.1.shape.geometry last (c.in-Err.ensures.cut clean (logs_of disk)) (so_far.10 was);
    }

pub returns-in-Err-clause-costs : goal.returns-in-Err-clause-costs
returns-in-Err-clause-costs g c = λ clean.
    let so_far = c.loop-named.invariant in
    let was = c.write_listed.ensures.alike.shape.trusted clean in
    let disk = c.args.self.now in
    let now = c.loop-named.self in
    let new = c.write_listed.new.self in
    let lost = c.in-Err.ensures in
    let es = c.args.entries.now in
    let last = spends-more disk now new (length es) (length es - c.loop-named.named) 0 so_far.1.shape.geometry c.write_listed.ensures.alike.shape.unfailing (omega (arith, c.loop-named-test.true)) so_far.9 lost.completed in
    record {
      turns = tt;
      clean = λ serves. refused-list-clean (mounted_of disk) (mounted_of now) (mounted_of new) disk.clean now.clean new.clean disk.status new.status c.in-Err.fault (c.write_listed.ensures.alike.shape.geometry ∙ so_far.1.shape.geometry) (so_far.11 was) (lost.clean clean) (sym (lost.err clean).status ∙ serves);
      completed = spends-all disk new _ 0 last;
    }

-- ---- all is done

pub returns-clause-answers : goal.returns-clause-answers
returns-clause-answers g c = λ clean.
    let so_far = c.loop-named.invariant in
    let disk = c.args.self.now in
    let es = c.args.entries.now in
    let bytes = c.args.bytes.now in
    let none = known-none disk es c.in_ok-is_list_done.field-0 c.in_ok-is_list_done.ensures.known c.if-branch.false in
    let all : length es ≤ c.loop-named.named = omega (arith, c.loop-named-test.false) in
    let array = (so_far.5 clean) ∙ ap (λ (ps : List Put). put_all (disk_array disk) ps) (take_all c.loop-named.named (list_puts disk es bytes) (omega (arith, all, length-list disk es bytes))) in
    record {
      flat = list-done disk c.loop-named.self es bytes none array so_far.1.size (so_far.2 ∙ sym (c.in_ok-is_list_done.ensures.serving c.if-branch.false)) so_far.1.shape.geometry;
      untouched = list-begun disk c.loop-named.self es bytes none;
      kept = (so_far.0 clean).kept;
      durable = (so_far.0 clean).durable;
      cause = tt;
    }

pub returns-clause-stores : goal.returns-clause-stores
returns-clause-stores g c = λ clean.
    let so_far = c.loop-named.invariant in
    let es = c.args.entries.now in
    let all : length es ≤ c.loop-named.named = omega (arith, c.loop-named-test.false) in
    record {
      names = subst (λ (xs : List Entry). NamesAll xs (disk_places c.args.self.now) (disk_places c.loop-named.self)) (take_all c.loop-named.named es all) (so_far.6 clean);
      says = λ some. (so_far.7 clean) (omega (arith, some, all));
      early = λ some. (so_far.8 clean) (omega (arith, some, all));
      cut = (so_far.10 clean);
    }

pub returns-clause-costs : goal.returns-clause-costs
returns-clause-costs g c = λ clean.
    let so_far = c.loop-named.invariant in
    let disk = c.args.self.now in
    let new = c.loop-named.self in
    record {
      turns = turns-on (mounted_of disk) (mounted_of new) disk.clean new.clean disk.status new.status so_far.1.shape.geometry (so_far.11 clean).turns;
      clean = λ serves. done-clean (mounted_of disk) (mounted_of new) disk.clean new.clean disk.status new.status (so_far.11 clean);
      completed = spends-all disk new _ _ so_far.9;
    }

-- ---- whatever the Reads returned

pub returns-in_err-is_list_done-clause-alike : goal.returns-in_err-is_list_done-clause-alike
returns-in_err-is_list_done-clause-alike g c = alike-same c.args.self.now

pub returns-then-branch-clause-alike : goal.returns-then-branch-clause-alike
returns-then-branch-clause-alike g c = alike-same c.args.self.now

pub returns-in-Err-clause-alike : goal.returns-in-Err-clause-alike
returns-in-Err-clause-alike g c = alike-join c.args.self.now c.loop-named.self c.write_listed.new.self c.loop-named.invariant.1 c.write_listed.ensures.alike

pub returns-clause-alike : goal.returns-clause-alike
returns-clause-alike g c = c.loop-named.invariant.1

pub returns-in-Err-clause-completed : goal.returns-in-Err-clause-completed
returns-in-Err-clause-completed g c =
    let so_far = c.loop-named.invariant in
    let disk = c.args.self.now in
    let now = c.loop-named.self in
    let new = c.write_listed.new.self in
    let lost = c.in-Err.ensures in
    let es = c.args.entries.now in
    let last = spends-more disk now new (length es) (length es - c.loop-named.named) 0 so_far.1.shape.geometry c.write_listed.ensures.alike.shape.unfailing (omega (arith, c.loop-named-test.true)) so_far.9 lost.completed in
    spends-all disk new _ 0 last

pub returns-clause-completed : goal.returns-clause-completed
returns-clause-completed g c = spends-all c.args.self.now c.loop-named.self _ _ c.loop-named.invariant.9

pub returns-in_err-is_list_done-clause-completed : goal.returns-in_err-is_list_done-clause-completed
returns-in_err-is_list_done-clause-completed g c = costs-none c.args.self.now _

pub returns-then-branch-clause-completed : goal.returns-then-branch-clause-completed
returns-then-branch-clause-completed g c = costs-none c.args.self.now _
