use Rattle.zone_drive.proofs.zone_drive.ZoneDrive.room_for.Goals as goal

pub returns-in-Some-zone_to_close : goal.returns-in-Some-zone_to_close
returns-in-Some-zone_to_close g c = (
  rw c.in-Some-TooManyOpenZones.field-0-is at c.in-Some-TooManyOpenZones.ensures,
  c.in-Some-zone_to_close.ensures.makes,
  c.in-Some-zone_to_close.ensures.lowest,
)

pub returns-in-None-zone_to_close : goal.returns-in-None-zone_to_close
returns-in-None-zone_to_close g c = (
  rw c.in-Some-TooManyOpenZones.field-0-is at c.in-Some-TooManyOpenZones.ensures,
  λ makes. c.in-None-zone_to_close.ensures.none makes,
)
