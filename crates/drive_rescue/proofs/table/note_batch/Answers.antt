use Rattle.std.proofs.Common.{ℕ, ◌+◌, arith, ap, ◌++◌}
use Rattle.drive_array.specs.Records.{entry_records}
use Rattle.drive_rescue.proofs.NoteLaws.{count-more, no-records, noting-all, noting-more, noting-none, slot-made}
use Rattle.drive_rescue.proofs.table.note_batch.Goals as goal

pub loop-i-init : goal.loop-i-init
loop-i-init c = (λ rs body notes. noting-none rs (entry_records c.sequence-sequence.result body c.args.place.zone c.args.place.offset 0 c.args.header.now.entries) c.args.table.now.items notes, omega arith)

pub entry_place-requires : goal.entry_place-requires
entry_place-requires c = omega (arith, c.loop-i.invariant.1, c.requires)

pub loop-i-preserved : goal.loop-i-preserved
loop-i-preserved c =
    let e = c.entry-entry.result in
    let count = ap (λ (n : ℕ). c.loop-i.before + n) c.one_unless-before.ensures in (
      λ rs body notes. noting-more rs body c.args.header.now.entries c.sequence-sequence.result c.args.place.zone c.args.place.offset c.loop-i.before _ c.loop-i.i e _ c.loop-i.table.items c.note.new.table.items c.entry-entry.ensures count
          (λ r is of done there. c.in_ok-note.ensures (rs ++ done) r is of there)
          (λ b. slot-made c.sequence-sequence.result c.args.place.zone c.args.place.offset c.loop-i.before e _ b c.entry_place.ensures)
          (c.loop-i.invariant.0 rs body notes),
      count-more c.args.header.now.entries c.loop-i.i c.loop-i.before _ e c.entry-entry.ensures count c.loop-i.invariant.1,
    )

pub returns : goal.returns
returns c rs body notes =
    rw (← c.sequence-sequence.ensures)
    (noting-all rs _ _ c.loop-i.table.items (no-records c.sequence-sequence.result c.args.place.zone c.args.place.offset c.loop-i.before body c.args.header.now.entries c.loop-i.i (omega (arith, c.loop-i-test.false, c.count-i-end.ensures))) (c.loop-i.invariant.0 rs body notes))
