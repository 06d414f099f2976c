use Rattle.std.proofs.Common.{map}
use Rattle.zone_drive.specs.Held.{restarted_stored}
use Rattle.file_drive.specs.Finds.{Finds}
use Rattle.file_drive.specs.Storing.{HoldsDrive}
use Rattle.file_drive.specs.declared.boot.Boot.{Boot}
use Rattle.file_drive.proofs.StoringLaws.{holds-drive, on-ok}
use Rattle.file_drive.proofs.storing.store.Goals as goal

pub returns-clause-stored : goal.returns-clause-stored
returns-clause-stored g c =
    let drive = c.args.drive.now.state in
    let zones = c.zones.result.now in
    let new = g.F.FileBytes.seen c.store_zones.new.file in
    on-ok c.store_zones.result ((boot : Boot) → Finds drive.geometry boot new (map restarted_stored zones)) (HoldsDrive drive new)
    (λ finds. holds-drive drive zones new c.zones.ensures.zones finds) (rw c.geometry-geometry.ensures.value at c.store_zones.ensures.stored)

pub returns-clause-whole : goal.returns-clause-whole
returns-clause-whole g c unnamed bytes may named =
    let drive = c.args.drive.now.state in
    let zones = c.zones.result.now in
    holds-drive drive zones bytes c.zones.ensures.zones (λ boot. rw (← c.geometry-geometry.ensures.value) (c.store_zones.ensures.whole unnamed bytes may named boot))
