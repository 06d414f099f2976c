use Rattle.std.proofs.Common.{refl}
use Rattle.zone_choice.specs.Agreement.{mounted}
use Rattle.drive_array.specs.Reserve.{batch_most}
use Rattle.zone_cleaner.proofs.EndLaws.{reset_done, reset_fails}
use Rattle.zone_cleaner.proofs.SaneLaws.{sane-ended, sane-same}
use Rattle.zone_cleaner.proofs.StepLaws.{reset-due}
use Rattle.zone_cleaner.proofs.clean.Clean.empty_victim.Goals as goal

pub returns-in-Err-clause-err : goal.returns-in-Err-clause-err
returns-in-Err-clause-err g c = λ clean.
    let old = g.D.Device.drive c.disk.inside.device in
    let at = (rw (← c.disk.view_is) at c.requires.at) (c.reset.ensures.obeys.trusted clean) in
    let due = reset-due (mounted old c.disk.inside.tables) (batch_most old.geometry) c.args.self.now at.due in
    let e = c.in-Err.ensures in
    let halts = reset_fails old _ c.disk.inside.tables c.args.self.now _ c.in-Err.fault at.agrees at.clean_is due (rw (c.start_of-start.ensures, c.geometry.ensures, ← c.disk.view_is, ← c.self.view_is) refl) e.gives e.kept e.leaves e.obeys e.taken in
    rw (c.command_fault.ensures.halt halts.halt, ← c.disk.view_is) halts.fails

pub returns-in-Err-clause-stays : goal.returns-in-Err-clause-stays
returns-in-Err-clause-stays g c = record {
  shape = rw (← c.disk.view_is) (record { geometry = c.reset.ensures.obeys.geometry; trusted = c.reset.ensures.obeys.trusted; unfailing = c.reset.ensures.obeys.unfailing });
  sane = sane-same (g.D.Device.drive c.disk.inside.device) _ c.disk.inside.tables (record { geometry = c.reset.ensures.obeys.geometry; trusted = c.reset.ensures.obeys.trusted; unfailing = c.reset.ensures.obeys.unfailing }) (rw (← c.disk.view_is) at c.requires.sane);
  size = rw (← c.disk.view_is) refl;
  given = rw (← c.disk.view_is) refl;
  host = rw (← c.disk.view_is) (λ none. none);
}

pub returns-clause-ok : goal.returns-clause-ok
returns-clause-ok g c = λ clean.
    let old = g.D.Device.drive c.disk.inside.device in
    let at = (rw (← c.disk.view_is) at c.requires.at) (c.reset.ensures.obeys.trusted clean) in
    let due = reset-due (mounted old c.disk.inside.tables) (batch_most old.geometry) c.args.self.now at.due in
    let e = c.in_default.ensures in
    rw (← c.disk.view_is) (reset_done old _ c.disk.inside.tables c.end_clean.new.self c.args.self.now _ at.agrees at.clean_is due (rw (c.start_of-start.ensures, c.geometry.ensures, ← c.disk.view_is, ← c.self.view_is) refl) e.reset e.leaves e.obeys.lawful e.obeys.unfailing e.obeys.durable (rw (← c.self.view_is) c.end_clean.ensures))

pub returns-clause-stays : goal.returns-clause-stays
returns-clause-stays g c = record {
  shape = rw (← c.disk.view_is) (record { geometry = c.reset.ensures.obeys.geometry; trusted = c.reset.ensures.obeys.trusted; unfailing = c.reset.ensures.obeys.unfailing });
  sane = rw c.end_clean.ensures (sane-ended (g.D.Device.drive c.disk.inside.device) _ c.disk.inside.tables _ (record { geometry = c.reset.ensures.obeys.geometry; trusted = c.reset.ensures.obeys.trusted; unfailing = c.reset.ensures.obeys.unfailing }) (rw (← c.disk.view_is) at c.requires.sane));
  size = rw (← c.disk.view_is, c.end_clean.ensures) refl;
  given = rw (← c.disk.view_is, c.end_clean.ensures) refl;
  host = rw (← c.disk.view_is, c.end_clean.ensures) (λ none. none);
}
