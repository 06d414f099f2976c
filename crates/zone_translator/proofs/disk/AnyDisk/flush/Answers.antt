use Rattle.std.proofs.Common.{refl, sym, ◌∙◌}
use Rattle.zone_translator.specs.Read.{hardened}
use Rattle.zone_translator.proofs.CallLaws.{read-cause}
use Rattle.zone_translator.proofs.DiskLaws.{alike-sent, sane-sent, holds-agrees, holds-kept, holds-read, kept-disk, refused-status, turns-same, view_of}
use Rattle.zone_translator.proofs.FlushLaws.{clean-hardened, flush-done, flush-refused, flush-unknown, keeps-hardened}
use Rattle.zone_translator.proofs.disk.AnyDisk.flush.Goals as goal

pub invariant_of-self : goal.invariant_of-self
invariant_of-self g c = record {
  sane = sane-sent c.self.inside.mounted c.flush_drive.new.disk c.flush_drive.ensures.shape c.flush_drive.ensures.tables c.self.invariant.sane;
  when = λ clean.
      let was = c.flush_drive.ensures.shape.trusted clean in
      let serving = rw (← c.self.view_is) at c.in_ok-check_serving.ensures.serving in
      let now = c.flush_drive.new.disk in
      let serves = holds-agrees c.self.inside.mounted c.self.inside.cleaner c.self.inside.status serving (c.self.invariant.when was) in
      rw serving (holds-kept (hardened c.self.inside.mounted now) now c.self.inside.cleaner (c.self.invariant.when was).reserve (clean-hardened c.self.inside.mounted now c.self.inside.cleaner serves) (c.flush_drive.ensures.kept clean));
}

pub invariant_of-self-in-Err : goal.invariant_of-self-in-Err
invariant_of-self-in-Err g c = record {
  sane = sane-sent c.self.inside.mounted c.flush_drive.new.disk c.flush_drive.ensures.shape c.flush_drive.ensures.tables c.self.invariant.sane;
  when = λ clean.
      let was = c.flush_drive.ensures.shape.trusted clean in
      let serving = rw (← c.self.view_is) at c.in_ok-check_serving.ensures.serving in
      let now = c.flush_drive.new.disk in
      let serves = holds-agrees c.self.inside.mounted c.self.inside.cleaner c.self.inside.status serving (c.self.invariant.when was) in
      rw c.status_of-self-inside.ensures (holds-read (hardened c.self.inside.mounted now) now c.self.inside.cleaner c.in-Err.fault (c.self.invariant.when was).reserve (clean-hardened c.self.inside.mounted now c.self.inside.cleaner serves) (c.flush_drive.ensures.kept clean) c.in-Err.ensures.err);
}

pub returns-in-Ok-clause-answers : goal.returns-in-Ok-clause-answers
returns-in-Ok-clause-answers g c = λ clean.
    let was = c.flush_drive.ensures.shape.trusted clean in
    let serving = c.in_ok-check_serving.ensures.serving in
    let old = c.self.inside.mounted in
    let now = c.flush_drive.new.disk in
    let serves = holds-agrees old c.self.inside.cleaner c.self.inside.status (rw (← c.self.view_is) at serving) (c.self.invariant.when was) in
    let kept = (c.flush_drive.ensures.kept clean) in
    let new = view_of now c.self.inside.cleaner c.self.inside.status in
    record {
      flat = flush-done c.args.self.now new serving (rw (← c.self.view_is) kept.array) (rw (← c.self.view_is, c.flush_drive.ensures.tables) refl) (rw (← c.self.view_is) refl) (rw (← c.self.view_is) kept.geometry);
      untouched = flush-unknown c.args.self.now new serving;
      kept = rw (← c.self.view_is)
          (keeps-hardened old now c.self.inside.cleaner c.self.inside.status c.self.inside.status
          (kept-disk (hardened old now) now c.self.inside.cleaner c.self.inside.status c.self.inside.status (λ e. e) (clean-hardened old now c.self.inside.cleaner serves) kept).kept);
      durable = c.in-Ok.ensures.durable;
      cause = tt;
    }

pub returns-in-Ok-clause-turns : goal.returns-in-Ok-clause-turns
returns-in-Ok-clause-turns g c = rw (← c.self.view_is) (turns-same c.self.inside.mounted c.flush_drive.new.disk c.self.inside.cleaner c.self.inside.status c.self.inside.status c.flush_drive.ensures.tables c.flush_drive.ensures.shape.geometry)

pub returns-in-Err-clause-answers : goal.returns-in-Err-clause-answers
returns-in-Err-clause-answers g c = λ clean.
    let was = c.flush_drive.ensures.shape.trusted clean in
    let serving = c.in_ok-check_serving.ensures.serving in
    let old = c.self.inside.mounted in
    let now = c.flush_drive.new.disk in
    let serves = holds-agrees old c.self.inside.cleaner c.self.inside.status (rw (← c.self.view_is) at serving) (c.self.invariant.when was) in
    let kept = (c.flush_drive.ensures.kept clean) in
    let new = view_of now c.self.inside.cleaner c.status_of-self-inside.result in
    record {
      flat = flush-refused c.args.self.now new c.in-Err.fault serving (rw (← c.self.view_is) kept.array) (rw (← c.self.view_is, c.flush_drive.ensures.tables) refl) c.status_of-self-inside.ensures (rw (← c.self.view_is) kept.geometry) c.in-Err.ensures.err;
      untouched = flush-unknown c.args.self.now new serving;
      kept = rw (← c.self.view_is)
          (keeps-hardened old now c.self.inside.cleaner c.self.inside.status c.status_of-self-inside.result
          (kept-disk (hardened old now) now c.self.inside.cleaner c.self.inside.status c.status_of-self-inside.result (λ e. refused-status c.in-Err.fault c.self.inside.status (sym c.status_of-self-inside.ensures ∙ e)) (clean-hardened old now c.self.inside.cleaner serves) kept).kept);
      durable = rw (← c.self.view_is) c.in-Err.ensures.may;
      cause = read-cause new c.in-Err.fault c.in-Err.ensures.err;
    }

pub returns-in-Err-clause-turns : goal.returns-in-Err-clause-turns
returns-in-Err-clause-turns g c = rw (← c.self.view_is) (turns-same c.self.inside.mounted c.flush_drive.new.disk c.self.inside.cleaner c.self.inside.status c.status_of-self-inside.result c.flush_drive.ensures.tables c.flush_drive.ensures.shape.geometry)

-- ---- whatever the Reads returned

pub returns-in-Ok-clause-alike : goal.returns-in-Ok-clause-alike
returns-in-Ok-clause-alike g c = rw (← c.self.view_is) (alike-sent c.self.inside.mounted c.flush_drive.new.disk c.self.inside.cleaner c.self.inside.status c.self.inside.status c.flush_drive.ensures.shape c.flush_drive.ensures.tables)

pub returns-in-Err-clause-alike : goal.returns-in-Err-clause-alike
returns-in-Err-clause-alike g c = rw (← c.self.view_is) (alike-sent c.self.inside.mounted c.flush_drive.new.disk c.self.inside.cleaner c.self.inside.status c.status_of-self-inside.result c.flush_drive.ensures.shape c.flush_drive.ensures.tables)

pub flush_drive-requires : goal.flush_drive-requires
flush_drive-requires g c = record { agrees = λ was. (holds-agrees c.self.inside.mounted c.self.inside.cleaner c.self.inside.status (rw (← c.self.view_is) at c.in_ok-check_serving.ensures.serving) (c.self.invariant.when was)).0 }
