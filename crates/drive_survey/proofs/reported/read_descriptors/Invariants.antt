use Rattle.std.proofs.Common.{List, length}
use Rattle.zone_states.specs.Zone.{Zone}
use Rattle.zone_states.specs.declared.geometry.Geometry.{Geometry}
use Rattle.drive_survey.specs.Reported.{TellsZones}
use Rattle.drive_survey.proofs.ReportLaws.{Left}
use Rattle.drive_survey.proofs.reported.read_descriptors.Given as goal

abbrev pub invariant-loop-front : goal.invariant-loop-front
invariant-loop-front l = (geometry : Geometry) (zones : List Zone) → TellsZones geometry l.capacity zones l.bytes → Left geometry zones l.reported.items l.rest

abbrev pub decreases-loop-front : goal.decreases-loop-front
decreases-loop-front l = length l.rest
