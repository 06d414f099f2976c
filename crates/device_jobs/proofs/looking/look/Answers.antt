use Rattle.std.proofs.Common.{◌≡◌, subst}
use Rattle.zone_states.specs.declared.geometry.Geometry.{Geometry}
use Rattle.zone_states.specs.Geometry.{IsInRange}
use Rattle.drive_array.specs.Reserve.{most_size}
use Rattle.device_jobs.proofs.looking.look.Goals as goal

pub returns-in-Ok-clause-ok : goal.returns-in-Ok-clause-ok
returns-in-Ok-clause-ok g c clean = record {
  blocks = c.blocks_taken-given.result;
  most = subst (λ (geometry : Geometry). IsInRange geometry → c.blocks_taken-given.result ≡ most_size geometry) c.geometry.ensures.value c.blocks_taken-given.ensures;
  is_info = c.in-Ok.ensures.ok clean;
}
