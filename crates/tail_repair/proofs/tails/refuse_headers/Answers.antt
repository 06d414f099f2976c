use Rattle.std.proofs.Common.{◌<◌, length, arith}
use Rattle.drive_survey.specs.Scan.{readable_at}
use Rattle.drive_survey.proofs.ReadLaws.{keeps-both, keeps-none, kept-known}
use Rattle.tail_repair.proofs.TailLaws.{no-header, none-behind}
use Rattle.tail_repair.proofs.CauseLaws.{header-behind, header-found}
use Rattle.batch_log.specs.Header.{Heading, IsHeaderBlock}
use Rattle.drive_survey.proofs.ReadLaws.{known-few}
use Rattle.tail_repair.proofs.tails.refuse_headers.Goals as goal

pub loop-offset-init : goal.loop-offset-init
loop-offset-init g c = (keeps-none _ c.requires.zone.lawful, λ clean offset lt below. absurd (omega (arith, lt, below, c.saturating_add-offset.ensures)))

pub read_block-requires-clause-zone : goal.read_block-requires-clause-zone
read_block-requires-clause-zone g c = kept-known _ _ c.args.zone.number c.args.zone.reported c.loop-offset.invariant.0 c.requires.zone

pub returns-in_err-read_block-clause-kept : goal.returns-in_err-read_block-clause-kept
returns-in_err-read_block-clause-kept g c = keeps-both _ _ _ c.loop-offset.invariant.0 c.read_block.ensures.kept

pub returns-then-is_ok-clause-kept : goal.returns-then-is_ok-clause-kept
returns-then-is_ok-clause-kept g c = keeps-both _ _ _ c.loop-offset.invariant.0 c.read_block.ensures.kept

pub loop-offset-preserved : goal.loop-offset-preserved
loop-offset-preserved g c = (
  keeps-both _ _ _ c.loop-offset.invariant.0 c.read_block.ensures.kept,
  λ clean. none-behind _ _ c.args.zone.number c.args.blocks c.loop-offset.offset c.read_block.new.block.items c.loop-offset.invariant.0 (c.in_ok-read_block.ensures.ok clean)
      (rw (← c.deref.ensures.value) (no-header c.read_header.result c.deref.result.now c.if-is_ok.ensures.value c.read_header.ensures.none)) (c.loop-offset.invariant.1 (c.read_block.ensures.kept.trusted clean)),
)

pub returns-then-is_ok-clause-err : goal.returns-then-is_ok-clause-err
returns-then-is_ok-clause-err g c clean =
    let old = g.D.Device.drive c.args.device.now in
    let now = g.D.Device.drive c.loop-offset.device in
    let block = c.read_block.new.block.items in
    let before = c.loop-offset.invariant.0.trusted (c.read_block.ensures.kept.trusted clean) in
    let few = known-few old c.args.zone.number c.args.zone.reported c.requires.zone in
    let behind : c.args.blocks < c.loop-offset.offset = omega (arith, c.saturating_add-offset.ensures, c.loop-offset.auto.offset, c.loop-offset-test.true, few, c.requires.zone.geometry.capacity, c.requires.zone.geometry.size) in
    let within : c.loop-offset.offset < length (readable_at old c.args.zone.number) = omega (arith, c.loop-offset-test.true, c.requires.zone.blocks) in
    let header = header-found (λ (view : Heading). IsHeaderBlock (length block) block view) c.read_header.result (c.if-is_ok.ensures.value) (rw c.deref.ensures.value at c.read_header.ensures.ok) in
    header-behind old now c.args.zone.number c.args.blocks c.loop-offset.offset block header.0 c.loop-offset.invariant.0 (c.requires.ends before) behind within
    (c.in_ok-read_block.ensures.ok (clean)) (c.in_ok-read_block.ensures.long) header.1
