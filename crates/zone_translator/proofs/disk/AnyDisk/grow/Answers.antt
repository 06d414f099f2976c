use Rattle.std.proofs.Common.{Err, Ok, refl}
use Rattle.zone_translator.proofs.CallLaws.{cause-of, growth-done, growth-refused, growth-unknown}
use Rattle.zone_translator.proofs.DiskLaws.{batch-turns, below-next, goes-clean, holds-agrees, holds-serving, keeps-disk, refused-growth, reserve-kept, same-clean, turns-on, view_of}
use Rattle.zone_translator.proofs.disk.AnyDisk.grow.Goals as goal

pub invariant_of-self : goal.invariant_of-self
invariant_of-self g c = record {
  sane = c.grow_batch.ensures.stays.sane;
  when = λ clean.
      let was = c.grow_batch.ensures.stays.shape.trusted clean in
      let serves = rw (← c.self.view_is) at c.in_ok-check_growth.ensures.serving in
      let leaves = (c.in-Ok.ensures.leaves clean) in
      rw serves (holds-serving c.grow_batch.new.disk c.grow_batch.new.cleaner (reserve-kept c.self.inside.mounted c.grow_batch.new.disk leaves.keeps.geometry leaves.keeps.given (c.self.invariant.when was).reserve) leaves.serves);
}

pub invariant_of-self-in-Err : goal.invariant_of-self-in-Err
invariant_of-self-in-Err g c = record {
  sane = c.grow_batch.ensures.stays.sane;
  when = λ clean.
      let was = c.grow_batch.ensures.stays.shape.trusted clean in
      let serves = holds-agrees c.self.inside.mounted c.self.inside.cleaner c.self.inside.status (rw (← c.self.view_is) at c.in_ok-check_growth.ensures.serving) (c.self.invariant.when was) in
      rw c.status_of-self-inside.ensures (refused-growth c.self.inside.mounted c.grow_batch.new.disk c.self.inside.cleaner c.grow_batch.new.cleaner c.args.blocks c.in-Err.fault c.self.inside.status (c.self.invariant.when was).reserve serves (c.in-Err.ensures.leaves clean)).refused.holds;
}

pub returns-in-Ok-clause-answers : goal.returns-in-Ok-clause-answers
returns-in-Ok-clause-answers g c = λ clean.
    let known = c.in_ok-check_growth.ensures.known in
    let grown = (c.in-Ok.ensures.leaves clean) in
    let new = view_of c.grow_batch.new.disk c.grow_batch.new.cleaner c.self.inside.status in
    record {
      flat = growth-done c.args.self.now new c.args.blocks known (rw (← c.self.view_is) grown.array) grown.size_is (rw (← c.self.view_is) refl) (rw (← c.self.view_is) grown.keeps.geometry);
      untouched = growth-unknown c.args.self.now new c.args.blocks known;
      kept = rw (← c.self.view_is) (keeps-disk c.self.inside.mounted c.grow_batch.new.disk c.self.inside.cleaner c.grow_batch.new.cleaner c.self.inside.status c.self.inside.status (λ e. e) (below-next c.grow_batch.new.disk c.grow_batch.new.cleaner c.self.inside.status grown.serves) grown.keeps).kept;
      durable = rw (← c.self.view_is) grown.keeps.durable;
      cause = tt;
    }

pub returns-in-Ok-clause-says : goal.returns-in-Ok-clause-says
returns-in-Ok-clause-says g c = λ clean.
    let grown = (c.in-Ok.ensures.leaves clean) in
    record { says = grown.says; written = rw (← c.self.view_is) grown.appended; early = rw (← c.self.view_is) grown.early }

pub returns-in-Ok-clause-turns : goal.returns-in-Ok-clause-turns
returns-in-Ok-clause-turns g c = λ clean.
    rw (← c.self.view_is) (turns-on c.self.inside.mounted c.grow_batch.new.disk c.self.inside.cleaner c.grow_batch.new.cleaner c.self.inside.status c.self.inside.status (c.in-Ok.ensures.leaves clean).keeps.geometry (c.in-Ok.ensures.clean clean).turns)

pub returns-in-Ok-clause-fewer : goal.returns-in-Ok-clause-fewer
returns-in-Ok-clause-fewer g c = λ clean.
    rw (← c.self.view_is) (λ up runs. batch-turns c.self.inside.mounted c.grow_batch.new.disk c.self.inside.cleaner c.grow_batch.new.cleaner c.self.inside.status c.self.inside.status (Ok tt) (c.in-Ok.ensures.leaves clean).keeps.geometry (c.in-Ok.ensures.clean clean) up runs)

pub returns-in-Err-clause-answers : goal.returns-in-Err-clause-answers
returns-in-Err-clause-answers g c = λ clean.
    let was = c.grow_batch.ensures.stays.shape.trusted clean in
    let known = c.in_ok-check_growth.ensures.known in
    let serves = holds-agrees c.self.inside.mounted c.self.inside.cleaner c.self.inside.status (rw (← c.self.view_is) at c.in_ok-check_growth.ensures.serving) (c.self.invariant.when was) in
    let lost = refused-growth c.self.inside.mounted c.grow_batch.new.disk c.self.inside.cleaner c.grow_batch.new.cleaner c.args.blocks c.in-Err.fault c.self.inside.status (c.self.invariant.when was).reserve serves (c.in-Err.ensures.leaves clean) in
    let new = view_of c.grow_batch.new.disk c.grow_batch.new.cleaner c.status_of-self-inside.result in
    record {
      flat = growth-refused c.args.self.now new c.args.blocks c.in-Err.fault known (rw (← c.self.view_is) lost.front) (rw (← c.self.view_is) lost.refused.size) c.status_of-self-inside.ensures (rw (← c.self.view_is) lost.refused.kept.kept.geometry) (c.in-Err.ensures.cause clean);
      untouched = growth-unknown c.args.self.now new c.args.blocks known;
      kept = rw (← c.self.view_is, c.status_of-self-inside.ensures) lost.refused.kept.kept;
      durable = rw (← c.self.view_is) lost.refused.kept.durable;
      cause = cause-of new c.in-Err.fault (c.in-Err.ensures.cause clean);
    }

pub returns-in-Err-clause-fewer : goal.returns-in-Err-clause-fewer
returns-in-Err-clause-fewer g c = λ clean.
    let was = c.grow_batch.ensures.stays.shape.trusted clean in
    let serves = holds-agrees c.self.inside.mounted c.self.inside.cleaner c.self.inside.status (rw (← c.self.view_is) at c.in_ok-check_growth.ensures.serving) (c.self.invariant.when was) in
    let lost = refused-growth c.self.inside.mounted c.grow_batch.new.disk c.self.inside.cleaner c.grow_batch.new.cleaner c.args.blocks c.in-Err.fault c.self.inside.status (c.self.invariant.when was).reserve serves (c.in-Err.ensures.leaves clean) in
    rw (← c.self.view_is) (λ up runs. batch-turns c.self.inside.mounted c.grow_batch.new.disk c.self.inside.cleaner c.grow_batch.new.cleaner c.self.inside.status c.status_of-self-inside.result (Err c.in-Err.fault) lost.refused.kept.kept.geometry (c.in-Err.ensures.clean clean) up runs)

pub returns-in-Ok-clause-clean : goal.returns-in-Ok-clause-clean
returns-in-Ok-clause-clean g c = λ clean.
    rw (← c.self.view_is) (λ up. goes-clean c.self.inside.mounted c.grow_batch.new.disk c.self.inside.cleaner c.grow_batch.new.cleaner c.self.inside.status c.self.inside.status (c.in-Ok.ensures.leaves clean).keeps.geometry ((c.in-Ok.ensures.clean clean).clean up))

pub returns-in-Err-clause-clean : goal.returns-in-Err-clause-clean
returns-in-Err-clause-clean g c = λ clean.
    let was = c.grow_batch.ensures.stays.shape.trusted clean in
    let serves = holds-agrees c.self.inside.mounted c.self.inside.cleaner c.self.inside.status (rw (← c.self.view_is) at c.in_ok-check_growth.ensures.serving) (c.self.invariant.when was) in
    let lost = refused-growth c.self.inside.mounted c.grow_batch.new.disk c.self.inside.cleaner c.grow_batch.new.cleaner c.args.blocks c.in-Err.fault c.self.inside.status (c.self.invariant.when was).reserve serves (c.in-Err.ensures.leaves clean) in
    rw (← c.self.view_is) (λ up. goes-clean c.self.inside.mounted c.grow_batch.new.disk c.self.inside.cleaner c.grow_batch.new.cleaner c.self.inside.status c.status_of-self-inside.result lost.refused.kept.kept.geometry ((c.in-Err.ensures.clean clean).clean up))

pub returns-in_err-check_growth-clause-clean : goal.returns-in_err-check_growth-clause-clean
returns-in_err-check_growth-clause-clean g c = λ clean.
    same-clean c.args.self.now

-- ---- whatever the Reads returned

pub grow_batch-requires-clause-sane : goal.grow_batch-requires-clause-sane
grow_batch-requires-clause-sane g c = c.self.invariant.sane

pub grow_batch-requires-clause-agrees : goal.grow_batch-requires-clause-agrees
grow_batch-requires-clause-agrees g c = λ was. holds-agrees c.self.inside.mounted c.self.inside.cleaner c.self.inside.status (rw (← c.self.view_is) at c.in_ok-check_growth.ensures.serving) (c.self.invariant.when was)

pub returns-in-Err-clause-same : goal.returns-in-Err-clause-same
returns-in-Err-clause-same g c = rw (← c.self.view_is) c.in-Err.ensures.same

pub returns-in-Ok-clause-shape : goal.returns-in-Ok-clause-shape
returns-in-Ok-clause-shape g c = rw (← c.self.view_is) c.grow_batch.ensures.stays.shape

pub returns-in-Err-clause-shape : goal.returns-in-Err-clause-shape
returns-in-Err-clause-shape g c = rw (← c.self.view_is) c.grow_batch.ensures.stays.shape
