use Rattle.std.proofs.Common.{◌≡◌, refl}
use Rattle.zone_choice.proofs.tables.Tables.has_fewer.Goals as goal

pub returns-in-Some : goal.returns-in-Some
returns-in-Some c =
    let other = rw c.in-Some.is at c.requires.other in
    rw (c.in-Some.is, ← c.self.view_is, c.live.ensures (rw (← c.self.view_is) at c.requires.zone), c.live-in-Some.ensures (rw (← c.self.view_is) at other)) refl
