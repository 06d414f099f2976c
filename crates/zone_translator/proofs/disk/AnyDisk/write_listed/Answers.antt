use Rattle.zone_translator.proofs.DiskLaws.{alike-of, below-next, holds-agrees, holds-serving, keeps-disk, reserve-kept}
use Rattle.zone_translator.proofs.ListedDiskLaws.{put-some, refused-list}
use Rattle.zone_translator.proofs.disk.AnyDisk.write_listed.Goals as goal

pub invariant_of-self : goal.invariant_of-self
invariant_of-self g c = record {
  sane = c.next_listed.ensures.stays.range.sane;
  when = λ clean.
      let was = c.next_listed.ensures.stays.range.shape.trusted clean in
      let serves = rw (← c.self.view_is) at c.requires.serving in
      let leaves = (c.in-Ok.ensures.leaves clean) in
      rw serves (holds-serving c.next_listed.new.disk c.next_listed.new.cleaner (reserve-kept c.self.inside.mounted c.next_listed.new.disk leaves.keeps.geometry leaves.keeps.given (c.self.invariant.when was).reserve) leaves.serves);
}

pub next_listed-requires-clause-agrees : goal.next_listed-requires-clause-agrees
next_listed-requires-clause-agrees g c = λ was. holds-agrees c.self.inside.mounted c.self.inside.cleaner c.self.inside.status (rw (← c.self.view_is) at c.requires.serving) (c.self.invariant.when was)

pub invariant_of-self-in-Err : goal.invariant_of-self-in-Err
invariant_of-self-in-Err g c = record {
  sane = c.next_listed.ensures.stays.range.sane;
  when = λ clean.
      let was = c.next_listed.ensures.stays.range.shape.trusted clean in
      let serves = holds-agrees c.self.inside.mounted c.self.inside.cleaner c.self.inside.status (rw (← c.self.view_is) at c.requires.serving) (c.self.invariant.when was) in
      rw c.status_of-self-inside.ensures (refused-list c.self.inside.mounted c.next_listed.new.disk c.self.inside.cleaner c.next_listed.new.cleaner c.args.left c.in-Err.fault c.self.inside.status (c.self.invariant.when was).reserve serves (c.in-Err.ensures.leaves clean)).refused.holds;
}

pub returns-in-Ok-clause-wrote : goal.returns-in-Ok-clause-wrote
returns-in-Ok-clause-wrote g c = λ clean.
    let was = c.next_listed.ensures.stays.range.shape.trusted clean in
    let serving = rw (← c.self.view_is) at c.requires.serving in
    let serves = holds-agrees c.self.inside.mounted c.self.inside.cleaner c.self.inside.status serving (c.self.invariant.when was) in
    rw (← c.self.view_is) (put-some c.self.inside.mounted c.next_listed.new.disk c.self.inside.cleaner c.next_listed.new.cleaner c.self.inside.status c.self.inside.status c.args.left c.in-Ok.taken serving serves c.in-Ok.ensures.taken (c.in-Ok.ensures.leaves clean))

pub returns-in-Ok-clause-kept : goal.returns-in-Ok-clause-kept
returns-in-Ok-clause-kept g c = λ clean.
    rw (← c.self.view_is) (keeps-disk c.self.inside.mounted c.next_listed.new.disk c.self.inside.cleaner c.next_listed.new.cleaner c.self.inside.status c.self.inside.status (λ e. e) (below-next c.next_listed.new.disk c.next_listed.new.cleaner c.self.inside.status (c.in-Ok.ensures.leaves clean).serves) (c.in-Ok.ensures.leaves clean).keeps)

pub returns-in-Ok-clause-clean : goal.returns-in-Ok-clause-clean
returns-in-Ok-clause-clean g c = λ clean.
    rw (← c.self.view_is) (c.in-Ok.ensures.clean clean)

pub returns-in-Ok-clause-cut : goal.returns-in-Ok-clause-cut
returns-in-Ok-clause-cut g c = λ clean.
    rw (← c.self.view_is) (c.in-Ok.ensures.cut clean)

pub returns-in-Err-clause-cut : goal.returns-in-Err-clause-cut
returns-in-Err-clause-cut g c = λ clean.
    rw (← c.self.view_is) (c.in-Err.ensures.cut clean)

pub returns-in-Err-clause-err : goal.returns-in-Err-clause-err
returns-in-Err-clause-err g c = λ clean.
    let was = c.next_listed.ensures.stays.range.shape.trusted clean in
    let serves = holds-agrees c.self.inside.mounted c.self.inside.cleaner c.self.inside.status (rw (← c.self.view_is) at c.requires.serving) (c.self.invariant.when was) in
    let lost = refused-list c.self.inside.mounted c.next_listed.new.disk c.self.inside.cleaner c.next_listed.new.cleaner c.args.left c.in-Err.fault c.self.inside.status (c.self.invariant.when was).reserve serves (c.in-Err.ensures.leaves clean) in
    record { status = c.status_of-self-inside.ensures; front = rw (← c.self.view_is) lost.front; cause = (c.in-Err.ensures.cause clean) }

pub returns-in-Err-clause-kept : goal.returns-in-Err-clause-kept
returns-in-Err-clause-kept g c = λ clean.
    let was = c.next_listed.ensures.stays.range.shape.trusted clean in
    let serves = holds-agrees c.self.inside.mounted c.self.inside.cleaner c.self.inside.status (rw (← c.self.view_is) at c.requires.serving) (c.self.invariant.when was) in
    rw (← c.self.view_is, c.status_of-self-inside.ensures) (refused-list c.self.inside.mounted c.next_listed.new.disk c.self.inside.cleaner c.next_listed.new.cleaner c.args.left c.in-Err.fault c.self.inside.status (c.self.invariant.when was).reserve serves (c.in-Err.ensures.leaves clean)).refused.kept

pub returns-in-Err-clause-clean : goal.returns-in-Err-clause-clean
returns-in-Err-clause-clean g c = λ clean.
    rw (← c.self.view_is) (c.in-Err.ensures.clean clean)

-- ---- whatever the Reads returned

pub returns-in-Ok-clause-alike : goal.returns-in-Ok-clause-alike
returns-in-Ok-clause-alike g c = rw (← c.self.view_is) (alike-of c.self.inside.mounted c.next_listed.new.disk c.self.inside.cleaner c.next_listed.new.cleaner c.self.inside.status c.self.inside.status c.next_listed.ensures.stays)

pub returns-in-Err-clause-alike : goal.returns-in-Err-clause-alike
returns-in-Err-clause-alike g c = rw (← c.self.view_is) (alike-of c.self.inside.mounted c.next_listed.new.disk c.self.inside.cleaner c.next_listed.new.cleaner c.self.inside.status c.status_of-self-inside.result c.next_listed.ensures.stays)

pub next_listed-requires-clause-sane : goal.next_listed-requires-clause-sane
next_listed-requires-clause-sane g c = c.self.invariant.sane
