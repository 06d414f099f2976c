use Rattle.std.proofs.Common.{List, ◌∙◌, sym, subst}
use Rattle.std.specs.List.{Contains}
use Rattle.zone_states.specs.Stored.{StoredZone}
use Rattle.zone_drive.specs.Stored.{AreZones}
use Rattle.file_drive.specs.InFile.{FiledZones, promised_zones}
use Rattle.file_drive.proofs.ServedLaws.{of-one, promised-found, served-promises}
use Rattle.file_drive.proofs.serving.serve.Goals as goal

-- what is durable of a file that was opened is what a loss of power leaves of it
pub new-requires-2-clause-durable : goal.new-requires-2-clause-durable
new-requires-2-clause-durable g c = λ zones left.
    let found = c.args.found in
    let geometry = found.head.geometry in
    let file = g.F.FileBytes.seen c.args.file in
    let safe = found.tables.safe.items in
    let promised = promised_zones geometry file safe in
    let is = of-one promised zones (subst (λ (z : FiledZones _). Contains z.durable zones) c.new.ensures left) in
    let last = promised-found geometry found.tables.flushed safe promised file (served-promises geometry file found.entries.items found.tables.live found.tables.flushed _ c.requires.served) in
    subst (λ (zs : List StoredZone). AreZones geometry zs) (last ∙ sym is) (c.requires.left file (g.F.FileBytes.seen_may_stay c.args.file))
