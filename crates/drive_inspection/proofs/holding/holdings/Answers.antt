use Rattle.std.proofs.Common.{refl, sym, ap, subst, ◌∙◌, List, length, arith}
use Rattle.zone_states.specs.declared.geometry.Geometry.{Geometry}
use Rattle.drive_array.specs.Reserve.{most_size}
use Rattle.drive_array.specs.ZoneLogs.{drive_logs}
use Rattle.drive_survey.specs.declared.scan.ScannedZone.{ScannedZone}
use Rattle.drive_survey.specs.Heads.{greatest_sequence, sequences_in}
use Rattle.drive_survey.specs.Scan.{heads_in}
use Rattle.drive_survey.specs.Survey.{greatest_in}
use Rattle.remount.specs.Mount.{IsPlaced}
use Rattle.drive_inspection.specs.Found.{TellZones}
use Rattle.drive_inspection.proofs.HoldLaws.{holds-drive}
use Rattle.drive_inspection.proofs.holding.holdings.Goals as goal

pub zone_infos-requires-clause-zones : goal.zone_infos-requires-clause-zones
zone_infos-requires-clause-zones c =
    let scanned = ap (λ (zs : List ScannedZone). length zs) c.deref-3.ensures.value in
    omega (arith, c.in_ok-tables.ensures.zones, scanned, c.requires.long)

pub returns : goal.returns
returns c = λ drive same known.
    let survey = c.args.survey.now in
    let tables = c.in_ok-tables.tables in
    let placed = subst (λ (g : Geometry). IsPlaced g survey.given (drive_logs drive) tables) (sym same) (c.in_ok-tables.ensures.placed drive (drive_logs drive) same known) in
    holds-drive drive survey.given survey tables _ known placed
    (c.most_blocks.ensures.is ∙ ap most_size (sym same))
    (c.size_said.ensures ∙ ap (λ (zs : List ScannedZone). greatest_in (heads_in zs)) c.deref.ensures.value)
    refl
    (c.greatest_sequence.ensures ∙ ap (λ (zs : List ScannedZone). greatest_sequence (sequences_in (heads_in zs))) c.deref-2.ensures.value)
    c.all_live.ensures.written c.all_live.ensures.trimmed
    (subst (λ (zs : List ScannedZone). TellZones zs tables.map c.in_ok-zone_infos.field-0.items) c.deref-3.ensures.value c.in_ok-zone_infos.ensures.tell)
