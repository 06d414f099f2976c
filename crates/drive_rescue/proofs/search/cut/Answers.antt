use Rattle.drive_rescue.proofs.CutLaws.{not-closed, not-open, sought-cut, sought-whole}
use Rattle.drive_rescue.proofs.KeepLaws.{keeps-source_none}
use Rattle.drive_rescue.proofs.SearchLaws.{sought-kept}
use Rattle.drive_rescue.proofs.search.cut.Goals as goal

pub returns-then-not-zone-clause-ok : goal.returns-then-not-zone-clause-ok
returns-then-not-zone-clause-ok g c = sought-whole (g.S.Source.view c.args.source.now) c.args.zone c.requires.zone (not-open c.args.zone.open_ended c.if-not-zone.true)

pub returns-then-not-zone-clause-kept : goal.returns-then-not-zone-clause-kept
returns-then-not-zone-clause-kept g c = keeps-source_none _ c.requires.lawful

pub returns-clause-ok : goal.returns-clause-ok
returns-clause-ok g c =
    let last = g.S.Source.view c.written_end.new.source in
    sought-cut last c.args.zone c.in_ok-end.end (sought-kept (g.S.Source.view c.args.source.now) last c.args.zone c.written_end.ensures.kept c.requires.zone) (not-closed c.args.zone.open_ended c.if-not-zone.false) c.in_ok-end.ensures.ok
