use Rattle.std.proofs.Common.{◌≡◌, ap}
use Rattle.zone_states.specs.declared.geometry.Geometry.{Geometry}
use Rattle.zone_translator.proofs.disk.AnyDisk.write.Goals as goal

pub returns-clause-stores : goal.returns-clause-stores
returns-clause-stores g c =
    let block_is : c.geometry-block.result.block ≡ c.args.self.now.drive.geometry.block = rw (← c.self.view_is) (ap (λ (x : Geometry). x.block) c.geometry-block.ensures) in
    rw block_is at c.write_all.ensures.stores
