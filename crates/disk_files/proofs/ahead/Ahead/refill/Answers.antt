use Rattle.std.proofs.Common.{◌≡◌, ◌+◌, ◌-◌, ◌≤◌, [], drop, length, refl, ap, ◌∙◌, arith}
use Rattle.std.specs.Prelude.{slice_range}
use Rattle.std.proofs.lemmas.List.{length-drop, length-take}
use Rattle.disk_files.specs.Ahead.{AheadView}
use Rattle.disk_files.proofs.AheadLaws.{none_ahead, same_front}
use Rattle.disk_files.proofs.ahead.Ahead.refill.Goals as goal

pub returns-in-Ok-clause-bytes : goal.returns-in-Ok-clause-bytes
returns-in-Ok-clause-bytes g c =
    let at = c.self.inside in
    let n = c.in-Ok.count in
    let items = c.read_after.new.bytes.items in
    let empty : slice_range at.bytes.items at.start at.end ≡ [] = ap (λ (a : AheadView). a.bytes) (c.self.view_is ∙ c.move_line.ensures) ∙ c.requires.empty in
    let none = none_ahead at.bytes.items at.start at.end empty c.self.invariant.2 c.self.invariant.3 in
    let read = c.in-Ok.ensures.ok in
    rw none (read.1, λ e. read.2 (omega (arith, read.0, ap length e, length-take (at.end + n - at.end) (drop at.end items), length-drop at.end items)))

pub returns-in-Ok-clause-line : goal.returns-in-Ok-clause-line
returns-in-Ok-clause-line g c =
    let at = c.self.inside in
    let inside : at.last ≤ at.end = omega (arith, c.self.invariant.1, c.self.invariant.2) in
    same_front at.bytes.items c.read_after.new.bytes.items at.first at.last at.end c.read_after.ensures.front c.self.invariant.0 inside
    ∙ ap (λ (a : AheadView). a.line) (c.self.view_is ∙ c.move_line.ensures)

pub returns-in-Err-clause-bytes : goal.returns-in-Err-clause-bytes
returns-in-Err-clause-bytes g c =
    let at = c.self.inside in
    let empty : slice_range at.bytes.items at.start at.end ≡ [] = ap (λ (a : AheadView). a.bytes) (c.self.view_is ∙ c.move_line.ensures) ∙ c.requires.empty in
    let none = none_ahead at.bytes.items at.start at.end empty c.self.invariant.2 c.self.invariant.3 in
    let zero : at.end - at.end ≡ 0 = omega arith in
    (c.in-Err.ensures.err.0, rw (none, zero) refl, c.in-Err.ensures.err.1)

pub returns-in-Err-clause-line : goal.returns-in-Err-clause-line
returns-in-Err-clause-line g c =
    let at = c.self.inside in
    let inside : at.last ≤ at.end = omega (arith, c.self.invariant.1, c.self.invariant.2) in
    same_front at.bytes.items c.read_after.new.bytes.items at.first at.last at.end c.read_after.ensures.front c.self.invariant.0 inside
    ∙ ap (λ (a : AheadView). a.line) (c.self.view_is ∙ c.move_line.ensures)
