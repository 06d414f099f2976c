use Rattle.std.proofs.Common.{◌≡◌, ◌∙◌, sym, arith}
use Rattle.std.proofs.lemmas.Bool.Decides.{Decides-eqb}
use Rattle.std.proofs.lemmas.Slice.Eq.{slice_eq-Decides}
use Rattle.drive_survey.proofs.ReadLaws.{keeps-both, kept-known}
use Rattle.drive_survey.specs.Scan.{block_of}
use Rattle.tail_repair.proofs.CauseLaws.{if-fault, look-halts}
use Rattle.tail_repair.proofs.TailLaws.{block-kept}
use Rattle.tail_repair.proofs.copy.agrees.Goals as goal

pub read_block-requires-2-clause-zone : goal.read_block-requires-2-clause-zone
read_block-requires-2-clause-zone g c = kept-known _ _ c.args.front.zone.number c.args.front.zone.reported c.read_block.ensures.kept c.requires.from

pub returns-in_err-read_block-2-clause-kept : goal.returns-in_err-read_block-2-clause-kept
returns-in_err-read_block-2-clause-kept g c = keeps-both _ _ _ c.read_block.ensures.kept c.read_block-2.ensures.kept

pub returns-clause-ok : goal.returns-clause-ok
returns-clause-ok g c clean agree =
    let old = g.D.Device.drive c.args.device.now in
    let one : c.read_block.new.block.items ≡ block_of old c.args.to.number c.args.offset = c.in_ok-read_block.ensures.ok (c.read_block-2.ensures.kept.trusted clean) in
    let other : c.read_block-2.new.block.items ≡ block_of old c.args.front.zone.number c.args.offset = c.in_ok-read_block-2.ensures.ok clean ∙ block-kept old _ c.args.front.zone.number c.args.offset c.read_block.ensures.kept in
    let same : c.read_block.new.block.items ≡ c.read_block-2.new.block.items = (slice_eq-Decides Decides-eqb _ _ _ c.eq.ensures).0 agree in
    record {
      same = λ lt. sym one ∙ same ∙ other;
      zeros = λ le. absurd (omega (arith, le, c.if-offset-front.false));
    }

pub returns-clause-kept : goal.returns-clause-kept
returns-clause-kept g c = keeps-both _ _ _ c.read_block.ensures.kept c.read_block-2.ensures.kept

pub returns-in_err-read_block-clause-err : goal.returns-in_err-read_block-clause-err
returns-in_err-read_block-clause-err g c = if-fault c.from_residual.result _ _ c.from_residual.ensures.1 (look-halts (g.D.Device.drive c.read_block.new.device) _ c.in_err-read_block.ensures.err)

pub returns-in_err-read_block-2-clause-err : goal.returns-in_err-read_block-2-clause-err
returns-in_err-read_block-2-clause-err g c = if-fault c.from_residual-in_err-read_block-2.result _ _ c.from_residual-in_err-read_block-2.ensures.1 (look-halts (g.D.Device.drive c.read_block-2.new.device) _ c.in_err-read_block-2.ensures.err)
