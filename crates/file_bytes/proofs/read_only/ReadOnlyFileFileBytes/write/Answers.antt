use Rattle.std.proofs.Common.{ap, ◌∙◌, ◌+◌, ◌≤◌, ℕ, List, length, take, drop, arith}
use Rattle.file_bytes.specs.Overlay.{overlaid}
use Rattle.file_bytes.proofs.OverlayLaws.{length-shown, more-written, part-each, part-long}
use Rattle.file_bytes.proofs.read_only.ReadOnlyFileFileBytes.write.Goals as goal

pub overflow_add-at : goal.overflow_add-at
overflow_add-at g c =
    let long = length-shown (g.F.FileBytes.seen c.args.self.now.inner) c.args.self.now.pages c.args.self.now.kept in
    let size = ap (λ v. length (g.F.FileBytes.seen v.inner)) c.self.view_is in
    omega (arith, c.requires.within, long, size, c.self.ranges, c.self.invariant.size_is, c.loop-done.invariant.0.few)

pub write_more-requires-clause-within : goal.write_more-requires-clause-within
write_more-requires-clause-within g c =
    let long = length-shown (g.F.FileBytes.seen c.args.self.now.inner) c.args.self.now.pages c.args.self.now.kept in
    omega (arith, c.requires.within, long, ap length c.loop-done.invariant.1)

pub loop-done-preserved : goal.loop-done-preserved
loop-done-preserved g c =
    let done = c.loop-done.done in
    let count = c.count_in_page-count.result in
    let bytes = c.args.bytes.now in
    let few : done + count ≤ length bytes = omega (arith, c.count_in_page-count.ensures.few, c.loop-done.invariant.0.few) in
    let part : List ℕ = take count (drop done bytes) in (
      more-written (overlaid g.F.FileBytes.seen c.args.self.now) (overlaid g.F.FileBytes.seen c.loop-done.self) (overlaid g.F.FileBytes.seen c.write_more.new.self)
          bytes part c.args.at done count c.loop-done.invariant.0 c.in_ok-write_more.ensures.ok.written c.in_ok-write_more.ensures.ok.beside
          (part-long bytes done count few) (part-each bytes done count) few,
      c.in_ok-write_more.ensures.inner ∙ c.loop-done.invariant.1,
    )
