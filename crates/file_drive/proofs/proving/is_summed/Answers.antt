use Rattle.std.proofs.Common.{◌∙◌, sym, ap, nat_eq}
use Rattle.file_drive.proofs.SumLaws.{stretch-ends, stretch-sum}
use Rattle.file_drive.proofs.proving.is_summed.Goals as goal

pub read_sum-requires-clause-within : goal.read_sum-requires-clause-within
read_sum-requires-clause-within g c =
    rw (c.at_place-place.ensures, c.place.ensures, c.from.ensures, c.from-2.ensures, c.kept_blocks-kept.ensures, c.requires.room)
    (stretch-ends c.args.geometry.now (g.F.FileBytes.seen c.args.file.now) c.args.index c.args.flushed c.args.entry c.requires.kept c.requires.long c.requires.zone c.requires.within)

pub returns-clause-ok : goal.returns-clause-ok
returns-clause-ok g c =
    let sum = rw (c.at_place-place.ensures, c.place.ensures, c.from.ensures, c.from-2.ensures, c.kept_blocks-kept.ensures, c.requires.room) at c.in_ok-sum.ensures.ok in
    ap (λ s. nat_eq s c.args.entry.sum) sum
    ∙ sym (stretch-sum c.args.geometry.now (g.F.FileBytes.seen c.args.file.now) c.args.index c.args.flushed c.args.entry c.requires.kept)
