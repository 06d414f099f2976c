use Rattle.std.proofs.Common.{arith, refl}
use Rattle.drive_rescue.proofs.GiveLaws.{all-fit, gives-first, gives-next, gives-no_more, if-fault}
use Rattle.drive_rescue.proofs.KeepLaws.{keeps-source_both, keeps-source_none}
use Rattle.drive_rescue.proofs.giving.give_blocks.Goals as goal

pub loop-rescued-init : goal.loop-rescued-init
loop-rescued-init g c = (
  keeps-source_none _ c.requires.lawful,
  omega arith,
  λ finding kept. gives-first (g.S.Source.view c.args.source.now) finding _ (g.W.Write.contents c.args.writer.now) refl c.new.ensures.items c.new-2.ensures.items,
)

pub give_next-requires-clause-fits : goal.give_next-requires-clause-fits
give_next-requires-clause-fits g c = all-fit (g.S.Source.view c.args.source.now) (g.S.Source.view c.loop-rescued.source) c.args.search.now c.loop-rescued.invariant.0 c.requires.finds

pub loop-rescued-preserved : goal.loop-rescued-preserved
loop-rescued-preserved g c = (
  keeps-source_both _ _ _ c.loop-rescued.invariant.0 c.give_next.ensures.kept,
  omega (arith, c.in_ok-give_next.ensures.blocks, c.loop-rescued-test.true),
  λ finding kept. gives-next (g.S.Source.view c.args.source.now) (g.S.Source.view c.loop-rescued.source) (g.S.Source.view c.give_next.new.source) c.args.search.now finding c.loop-rescued.rescued c.give_next.new.rescued (g.W.Write.contents c.args.writer.now) (g.W.Write.contents c.loop-rescued.writer) (g.W.Write.contents c.give_next.new.writer) c.loop-rescued.invariant.0 c.give_next.ensures.kept
      c.in_ok-give_next.ensures.ok kept (c.loop-rescued.invariant.2 finding kept),
)

pub returns-in_err-give_next-clause-kept : goal.returns-in_err-give_next-clause-kept
returns-in_err-give_next-clause-kept g c = keeps-source_both _ _ _ c.loop-rescued.invariant.0 c.give_next.ensures.kept

pub returns-in_err-give_next-clause-err : goal.returns-in_err-give_next-clause-err
returns-in_err-give_next-clause-err g c =
    let more = gives-no_more (g.S.Source.view c.args.source.now) (g.S.Source.view c.loop-rescued.source) (g.S.Source.view c.give_next.new.source) c.args.search.now c.loop-rescued.rescued (g.W.Write.contents c.args.writer.now) (g.W.Write.contents c.loop-rescued.writer) (g.W.Write.contents c.give_next.new.writer) c.in_err-give_next.field-0.0 c.loop-rescued.invariant.0 c.give_next.ensures.kept c.requires.finds c.in_err-give_next.ensures.err (c.loop-rescued.invariant.2 c.requires.finds.finding c.requires.finds.kept) in
    if-fault c.from_residual.result c.in_err-give_next.field-0.0 _ c.from_residual.ensures.1 more
