use Rattle.std.proofs.Common.{ℕ, ◌+◌, ◌∙◌, [], ap, append-nil, refl, subst, sym, arith}
use Rattle.std.specs.Prelude.{IsTrue}
use Rattle.zone_states.specs.declared.geometry.Geometry.{Geometry}
use Rattle.zone_translator.proofs.KeepingLaws.{keeps_again, keeps_call, keeps_same}
use Rattle.zone_translator.specs.View.{disk_array, disk_size, flat_of}
use Rattle.disk_runs.proofs.CallLaws.{ShowsBlock, block_refused, block_shown, cause_of, line_more, one_whole, puts_more, reads_more, reads_within}
use Rattle.disk_runs.specs.AnyDevice.{PutsLines}
use Rattle.disk_runs.specs.KeepingLaws.{reads_none}
use Rattle.disk_runs.proofs.ShapeLaws.{alike_join, alike_same}
use Rattle.disk_runs.proofs.reads.show_blocks.Goals as goal

pub returns-in-Err-clause-err : goal.returns-in-Err-clause-err
returns-in-Err-clause-err g c = λ clean.
    let was = c.read.ensures.alike.shape.trusted clean in
    block_refused (flat_of c.args.disk.now) (flat_of c.loop-i.disk) (flat_of c.read.new.self) c.args.first c.loop-i.i c.args.blocks c.read.new.into.items c.in-Err.fault
    (omega (arith, c.loop-i-test.true)) c.requires.in_range (c.loop-i.invariant.0 was) (c.in-Err.ensures.answers clean).flat

pub returns-in-Err-clause-cause : goal.returns-in-Err-clause-cause
returns-in-Err-clause-cause g c = λ clean.
    let was = c.read.ensures.alike.shape.trusted clean in
    let refused = block_refused (flat_of c.args.disk.now) (flat_of c.loop-i.disk) (flat_of c.read.new.self) c.args.first c.loop-i.i c.args.blocks c.read.new.into.items c.in-Err.fault
    (omega (arith, c.loop-i-test.true)) c.requires.in_range (c.loop-i.invariant.0 was) (c.in-Err.ensures.answers clean).flat in
    cause_of c.read.new.self c.in-Err.fault refused.no_reply (c.in-Err.ensures.answers clean).cause

pub loop-i-preserved : goal.loop-i-preserved
loop-i-preserved g c =
    let was : IsTrue c.read.new.self.drive.clean → IsTrue c.loop-i.disk.drive.clean = c.read.ensures.alike.shape.trusted in
    let first : IsTrue c.loop-i.disk.drive.clean → IsTrue c.args.disk.now.drive.clean = c.loop-i.invariant.6.shape.trusted in
    let shows : IsTrue c.read.new.self.drive.clean → ShowsBlock (flat_of c.args.disk.now) (c.args.first + c.loop-i.i) c.read.new.into.items (flat_of c.read.new.self) = λ clean. block_shown (flat_of c.args.disk.now) (flat_of c.loop-i.disk) (flat_of c.read.new.self) c.args.first c.loop-i.i c.args.blocks c.read.new.into.items
    (omega (arith, c.loop-i-test.true)) c.requires.in_range (c.loop-i.invariant.0 (was clean)) (c.in_default.ensures.answers clean).flat in (
      λ clean. (shows clean).same,
      λ clean some. (shows clean).serves,
      λ clean. keeps_again c.args.disk.now c.loop-i.disk c.read.new.self (c.loop-i.invariant.2 (was clean)) (keeps_call c.loop-i.disk c.read.new.self (c.read.ensures.answers clean).kept),
      reads_more c.loop-i.i c.args.disk.now c.loop-i.disk c.read.new.self c.loop-i.invariant.3 c.read.ensures.turns c.read.ensures.completed,
      λ clean. line_more (disk_array c.args.disk.now) (disk_size c.args.disk.now) c.args.first c.loop-i.i c.args.blocks c.args.reply.now.items c.loop-i.reply.items c.block_line.new.out.items c.deref.result.now
          (sym (c.requires.array (first (was clean)) (shows clean).serves)) (omega (arith, c.loop-i-test.true)) c.requires.in_range (c.deref.ensures.value ∙ (shows clean).bytes_are) (c.loop-i.invariant.4 (was clean)) c.in_ok-block_line.ensures.ok,
      λ clean. (c.read.ensures.answers clean).durable ∙ c.loop-i.invariant.5 (was clean),
      alike_join c.args.disk.now c.loop-i.disk c.read.new.self c.loop-i.invariant.6 c.read.ensures.alike,
      puts_more c.args.disk.now.drive.geometry.block c.args.first c.loop-i.i c.args.reply.now.items c.loop-i.reply.items c.block_line.new.out.items c.deref.result.now c.loop-i.invariant.7
          (one_whole _ _ c.read.new.into.items c.deref.result.now c.in_default.ensures.whole (ap (λ (geometry : Geometry). geometry.block) c.loop-i.invariant.6.shape.geometry) c.deref.ensures.value) c.in_ok-block_line.ensures.ok,
    )

pub returns-in-Err-clause-costs : goal.returns-in-Err-clause-costs
returns-in-Err-clause-costs g c =
    reads_within (c.loop-i.i + 1) c.args.blocks c.args.disk.now c.read.new.self (omega (arith, c.loop-i-test.true))
    (reads_more c.loop-i.i c.args.disk.now c.loop-i.disk c.read.new.self c.loop-i.invariant.3 c.read.ensures.turns c.read.ensures.completed)

pub returns-in_err-block_line-clause-costs : goal.returns-in_err-block_line-clause-costs
returns-in_err-block_line-clause-costs g c =
    reads_within (c.loop-i.i + 1) c.args.blocks c.args.disk.now c.read.new.self (omega (arith, c.loop-i-test.true))
    (reads_more c.loop-i.i c.args.disk.now c.loop-i.disk c.read.new.self c.loop-i.invariant.3 c.read.ensures.turns c.read.ensures.completed)

pub returns-clause-costs : goal.returns-clause-costs
returns-clause-costs g c = reads_within c.loop-i.i c.args.blocks c.args.disk.now c.loop-i.disk (omega (arith, c.loop-i-test.false)) c.loop-i.invariant.3

pub returns-in-Err-clause-alike : goal.returns-in-Err-clause-alike
returns-in-Err-clause-alike g c = alike_join c.args.disk.now c.loop-i.disk c.read.new.self c.loop-i.invariant.6 c.read.ensures.alike

pub returns-in_err-block_line-clause-alike : goal.returns-in_err-block_line-clause-alike
returns-in_err-block_line-clause-alike g c = alike_join c.args.disk.now c.loop-i.disk c.read.new.self c.loop-i.invariant.6 c.read.ensures.alike

pub loop-i-init : goal.loop-i-init
loop-i-init g c = (
  λ clean. refl,
  λ clean some. absurd (omega (arith, some)),
  λ clean. keeps_same c.args.disk.now,
  reads_none 0 c.args.disk.now,
  λ clean. sym (append-nil c.args.reply.now.items),
  λ clean. refl,
  alike_same c.args.disk.now,
  record { shown = []; long = refl; whole = tt; after_is = sym (append-nil c.args.reply.now.items) },
)

pub returns-clause-form : goal.returns-clause-form
returns-clause-form g c =
    subst (λ (n : ℕ). PutsLines c.args.disk.now.drive.geometry.block c.args.first n c.args.reply.now.items c.loop-i.reply.items) (omega (arith, c.loop-i.auto.i-end, c.loop-i-test.false)) c.loop-i.invariant.7
