use Rattle.std.proofs.Common.{refl, sym, ◌∙◌}
use Rattle.zone_translator.proofs.CallLaws.{read-cause, report-done, report-refused, report-unknown}
use Rattle.zone_translator.proofs.DiskLaws.{alike-sent, sane-sent, holds-agrees, holds-kept, holds-read, kept-disk, refused-status, turns-same, view_of}
use Rattle.zone_translator.proofs.disk.AnyDisk.report.Goals as goal

pub invariant_of-self : goal.invariant_of-self
invariant_of-self g c = record {
  sane = sane-sent c.self.inside.mounted c.report_all.new.disk c.report_all.ensures.shape c.report_all.ensures.tables c.self.invariant.sane;
  when = λ clean.
      let was = c.report_all.ensures.shape.trusted clean in
      let serving = rw (← c.self.view_is) at c.in_ok-check_serving.ensures.serving in
      rw serving (holds-kept c.self.inside.mounted c.report_all.new.disk c.self.inside.cleaner (c.self.invariant.when was).reserve (holds-agrees c.self.inside.mounted c.self.inside.cleaner c.self.inside.status serving (c.self.invariant.when was)) (c.report_all.ensures.kept clean));
}

pub invariant_of-self-in-Err : goal.invariant_of-self-in-Err
invariant_of-self-in-Err g c = record {
  sane = sane-sent c.self.inside.mounted c.report_all.new.disk c.report_all.ensures.shape c.report_all.ensures.tables c.self.invariant.sane;
  when = λ clean.
      let was = c.report_all.ensures.shape.trusted clean in
      let serving = rw (← c.self.view_is) at c.in_ok-check_serving.ensures.serving in
      rw c.status_of-self-inside.ensures (holds-read c.self.inside.mounted c.report_all.new.disk c.self.inside.cleaner c.in-Err.fault (c.self.invariant.when was).reserve (holds-agrees c.self.inside.mounted c.self.inside.cleaner c.self.inside.status serving (c.self.invariant.when was)) (c.report_all.ensures.kept clean) c.in-Err.ensures.err);
}

pub returns-in-Ok-clause-answers : goal.returns-in-Ok-clause-answers
returns-in-Ok-clause-answers g c = λ clean.
    let was = c.report_all.ensures.shape.trusted clean in
    let serving = c.in_ok-check_serving.ensures.serving in
    let serves = holds-agrees c.self.inside.mounted c.self.inside.cleaner c.self.inside.status (rw (← c.self.view_is) at serving) (c.self.invariant.when was) in
    let kept = (c.report_all.ensures.kept clean) in
    let new = view_of c.report_all.new.disk c.self.inside.cleaner c.self.inside.status in
    record {
      flat = report-done c.args.self.now new serving (rw (← c.self.view_is) kept.array) (rw (← c.self.view_is, c.report_all.ensures.tables) refl) (rw (← c.self.view_is) refl) (rw (← c.self.view_is) kept.geometry);
      untouched = report-unknown c.args.self.now new serving;
      kept = rw (← c.self.view_is) (kept-disk c.self.inside.mounted c.report_all.new.disk c.self.inside.cleaner c.self.inside.status c.self.inside.status (λ e. e) serves kept).kept;
      durable = rw (← c.self.view_is) kept.durable;
      cause = tt;
    }

pub returns-in-Ok-clause-turns : goal.returns-in-Ok-clause-turns
returns-in-Ok-clause-turns g c = rw (← c.self.view_is) (turns-same c.self.inside.mounted c.report_all.new.disk c.self.inside.cleaner c.self.inside.status c.self.inside.status c.report_all.ensures.tables c.report_all.ensures.shape.geometry)

pub returns-in-Err-clause-answers : goal.returns-in-Err-clause-answers
returns-in-Err-clause-answers g c = λ clean.
    let was = c.report_all.ensures.shape.trusted clean in
    let serving = c.in_ok-check_serving.ensures.serving in
    let serves = holds-agrees c.self.inside.mounted c.self.inside.cleaner c.self.inside.status (rw (← c.self.view_is) at serving) (c.self.invariant.when was) in
    let kept = (c.report_all.ensures.kept clean) in
    let new = view_of c.report_all.new.disk c.self.inside.cleaner c.status_of-self-inside.result in
    record {
      flat = report-refused c.args.self.now new c.in-Err.fault serving (rw (← c.self.view_is) kept.array) (rw (← c.self.view_is, c.report_all.ensures.tables) refl) c.status_of-self-inside.ensures (rw (← c.self.view_is) kept.geometry) c.in-Err.ensures.err;
      untouched = report-unknown c.args.self.now new serving;
      kept = rw (← c.self.view_is) (kept-disk c.self.inside.mounted c.report_all.new.disk c.self.inside.cleaner c.self.inside.status c.status_of-self-inside.result (λ e. refused-status c.in-Err.fault c.self.inside.status (sym c.status_of-self-inside.ensures ∙ e)) serves kept).kept;
      durable = rw (← c.self.view_is) kept.durable;
      cause = read-cause new c.in-Err.fault c.in-Err.ensures.err;
    }

pub returns-in-Err-clause-turns : goal.returns-in-Err-clause-turns
returns-in-Err-clause-turns g c = rw (← c.self.view_is) (turns-same c.self.inside.mounted c.report_all.new.disk c.self.inside.cleaner c.self.inside.status c.status_of-self-inside.result c.report_all.ensures.tables c.report_all.ensures.shape.geometry)

-- ---- whatever the Reads returned

pub returns-in-Ok-clause-alike : goal.returns-in-Ok-clause-alike
returns-in-Ok-clause-alike g c = rw (← c.self.view_is) (alike-sent c.self.inside.mounted c.report_all.new.disk c.self.inside.cleaner c.self.inside.status c.self.inside.status c.report_all.ensures.shape c.report_all.ensures.tables)

pub returns-in-Err-clause-alike : goal.returns-in-Err-clause-alike
returns-in-Err-clause-alike g c = rw (← c.self.view_is) (alike-sent c.self.inside.mounted c.report_all.new.disk c.self.inside.cleaner c.self.inside.status c.status_of-self-inside.result c.report_all.ensures.shape c.report_all.ensures.tables)

pub report_all-requires-clause-sane : goal.report_all-requires-clause-sane
report_all-requires-clause-sane g c = c.self.invariant.sane

pub report_all-requires-clause-agrees : goal.report_all-requires-clause-agrees
report_all-requires-clause-agrees g c = λ was. (holds-agrees c.self.inside.mounted c.self.inside.cleaner c.self.inside.status (rw (← c.self.view_is) at c.in_ok-check_serving.ensures.serving) (c.self.invariant.when was)).0
