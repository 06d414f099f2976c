use Rattle.std.proofs.Common.{◌+◌, ◌<◌, ◌∙◌, Err, ap, subst, arith, refl}
use Rattle.std.specs.Prelude.{IsTrue}
use Rattle.zone_choice.specs.Agreement.{MountedView, mounted}
use Rattle.zone_choice.specs.Tables.{size_of}
use Rattle.zone_cleaner.proofs.BuildLaws.{data-whole}
use Rattle.zone_cleaner.proofs.FailLaws.{lost_gives, next_record}
use Rattle.zone_cleaner.proofs.RecordLaws.{below-more}
use Rattle.zone_cleaner.proofs.SaneLaws.{noted-asks}
use Rattle.zone_cleaner.proofs.clean.Clean.gather.Goals as goal

pub gather-requires-clause-stored : goal.gather-requires-clause-stored
gather-requires-clause-stored g c = λ clean.
    let at = c.requires.at clean in
    let next = next_record c.args.disk.now c.args.self.now c.args.block c.args.place at.agrees at.clean_is at.due in
    record { agrees = at.agrees; in_range = next.in_range; place = next.place_is }

pub gather-requires-clause-whole : goal.gather-requires-clause-whole
gather-requires-clause-whole g c = λ clean.
    let at = c.requires.at clean in
    rw (ap (λ v. v.gathered) c.self.view_is) (data-whole c.args.disk.now c.args.self.now at.agrees at.clean_is)

pub returns-in-Err-clause-leaves : goal.returns-in-Err-clause-leaves
returns-in-Err-clause-leaves g c = λ clean.
    let e = c.in-Err.ensures in
    let up : IsTrue c.gather.new.disk.drive.clean = subst (λ (m : MountedView). IsTrue m.drive.clean) c.disk.view_is clean in
    let at = c.requires.at (e.asks.shape.trusted up) in
    let reads = e.reads up in
    let next = next_record c.args.disk.now c.args.self.now c.args.block c.args.place at.agrees at.clean_is at.due in
    let drive = ap (λ m. m.drive) c.disk.view_is in
    let tables = ap (λ m. m.tables) c.disk.view_is in
    let below : c.args.block < size_of c.disk.inside.tables = rw (tables, reads.tables) next.in_range in (
      lost_gives c.args.disk.now c.gather.new.disk (mounted (g.D.Device.drive c.disk.inside.device) c.note_lost.new.tables) c.args.self.now c.args.block c.args.place c.in-Err.fault c.note_lost.result
          at.agrees at.clean_is reads.kept reads.tables (e.err up) drive (λ is. rw (← tables) (c.note_lost.ensures.failed is)) (λ is. c.note_lost.ensures.other is ∙ tables) (c.note_lost.ensures.fault below),
      rw (e.failed, ← c.self.view_is) refl,
    )

pub returns-in-Err-clause-asks : goal.returns-in-Err-clause-asks
returns-in-Err-clause-asks g c =
    let e = c.in-Err.ensures in
    let n = c.note_lost.ensures in
    let drive = ap (λ m. m.drive) c.disk.view_is in
    let tables = ap (λ m. m.tables) c.disk.view_is in
    noted-asks c.args.disk.now c.gather.new.disk (mounted (g.D.Device.drive c.disk.inside.device) c.note_lost.new.tables) c.args.block c.args.place c.note_lost.result
    e.asks drive (λ is. e.fails (ap Err (n.cause is))) (λ is. rw tables at n.failed is) (λ is. n.other is ∙ tables)

pub invariant_of-self-2 : goal.invariant_of-self-2
invariant_of-self-2 g c =
    let adds = c.in_default.ensures.adds in
    rw adds.1 (below-more c.self.inside.cursor (c.args.block + 1) c.self.inside.gathered.records _ (omega (arith, c.requires.next, ap (λ v. v.cursor) c.self.view_is)) c.self.invariant (omega arith))
