use Rattle.std.proofs.Common.{◌≡◌, ap, sym, subst, ◌∙◌}
use Rattle.std.specs.Prelude.{IsTrue}
use Rattle.zone_cleaner.proofs.StartLaws.{none-of}
use Rattle.zone_cleaner.proofs.PassLaws.{ready-running, ready-started}
use Rattle.zone_cleaner.specs.Answering.{Readies}
use Rattle.zone_cleaner.proofs.cleaner.Cleaner.readies.Goals.{then-not-running, else-not-running}
use Rattle.zone_cleaner.proofs.cleaner.Cleaner.readies.Goals as goal

pub returns-clause-ready : goal.returns-clause-ready
returns-clause-ready g c = λ clean.
    let first = c.args.disk.now in
    let old = c.args.self.now in
    elim c.if-not-running.branch as (λ _. Readies first old c.if-not-running.disk c.if-not-running.self) [
      | then-not-running w ↦ rw (w.self-is, w.disk-is) (ready-started first w.start.new.disk old w.start.new.self (sym w.if-not-running.ensures) (c.requires.cleaned (rw (w.disk-is, w.start.ensures.turn.0) at clean)) (λ all. c.requires.lacks (rw (w.disk-is, w.start.ensures.turn.0) at clean) (none-of old (sym w.if-not-running.ensures)) all) w.start.ensures.turn)
      | else-not-running w ↦ rw (w.self-is, w.disk-is) (ready-running first old (sym w.if-not-running.ensures) (c.requires.cleaned (rw w.disk-is at clean)))
    ]
