use Rattle.std.proofs.Common.{sym}
use Rattle.first_disk.proofs.fill_once.Goals as goal

pub returns : goal.returns
returns g c =
    let law = c.answered_is_found.ensures in
    let can = law.mounted _ _ _ c.in-Ok.ensures.disk in
    record {
      left = c.fill.new.self;
      drive_is = sym c.into_device.ensures;
      found = law.found _ (law.called _ _ can c.fill.ensures.answers.kept);
    }
