use Rattle.std.proofs.Common.{◌-◌, arith}
use Rattle.drive_rescue.proofs.KeepLaws.{keeps-source_both, keeps-source_none, there-kept}
use Rattle.drive_rescue.proofs.SearchLaws.{ends-at_first, ends-here, zeros-more}
use Rattle.drive_rescue.proofs.search.written_end.Goals as goal

pub loop-end-init : goal.loop-end-init
loop-end-init g c = (keeps-source_none _ c.requires.lawful, omega arith, λ offset le lt. absurd (omega (arith, le, lt, c.requires.zone.blocks)))

pub reads_zeros-requires-clause-there : goal.reads_zeros-requires-clause-there
reads_zeros-requires-clause-there g c =
    there-kept (g.S.Source.view c.args.source.now) (g.S.Source.view c.loop-end.source) c.args.zone.number (c.loop-end.end - 1) c.loop-end.invariant.0 (omega (arith, c.loop-end.invariant.1, c.loop-end-test.true, c.requires.zone.blocks))

pub returns-in_err-reads_zeros-clause-kept : goal.returns-in_err-reads_zeros-clause-kept
returns-in_err-reads_zeros-clause-kept g c = keeps-source_both _ _ _ c.loop-end.invariant.0 c.reads_zeros.ensures.kept

pub returns-then-not-branch-clause-ok : goal.returns-then-not-branch-clause-ok
returns-then-not-branch-clause-ok g c =
    ends-here (g.S.Source.view c.args.source.now) (g.S.Source.view c.reads_zeros.new.source) c.args.zone.number (c.loop-end.end - 1) c.loop-end.end c.in_ok-reads_zeros.field-0 (keeps-source_both _ _ _ c.loop-end.invariant.0 c.reads_zeros.ensures.kept) (omega (arith, c.loop-end-test.true)) c.if-not-branch.true
    c.in_ok-reads_zeros.ensures.ok (omega (arith, c.loop-end.invariant.1, c.requires.zone.blocks)) c.loop-end.invariant.2

pub returns-then-not-branch-clause-kept : goal.returns-then-not-branch-clause-kept
returns-then-not-branch-clause-kept g c = keeps-source_both _ _ _ c.loop-end.invariant.0 c.reads_zeros.ensures.kept

pub loop-end-preserved : goal.loop-end-preserved
loop-end-preserved g c = (
  keeps-source_both _ _ _ c.loop-end.invariant.0 c.reads_zeros.ensures.kept,
  omega (arith, c.loop-end.invariant.1),
  zeros-more (g.S.Source.view c.args.source.now) (g.S.Source.view c.reads_zeros.new.source) c.args.zone.number (c.loop-end.end - 1) c.loop-end.end c.in_ok-reads_zeros.field-0 (keeps-source_both _ _ _ c.loop-end.invariant.0 c.reads_zeros.ensures.kept) (omega (arith, c.loop-end-test.true)) c.if-not-branch.false
      c.in_ok-reads_zeros.ensures.ok c.loop-end.invariant.2,
)

pub returns-clause-ok : goal.returns-clause-ok
returns-clause-ok g c =
    ends-at_first (g.S.Source.view c.args.source.now) (g.S.Source.view c.loop-end.source) c.args.zone.number c.loop-end.invariant.0
    (λ offset le lt. c.loop-end.invariant.2 offset (omega (arith, c.loop-end-test.false)) lt)
