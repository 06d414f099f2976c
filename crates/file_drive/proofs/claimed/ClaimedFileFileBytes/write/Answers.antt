use Rattle.std.proofs.Common.{rules, ◌∙◌, ◌⊎◌, ◌+◌, ◌≤◌, IsTrue, length, sym}
use Rattle.file_drive.proofs.MarkLaws.{marked-beside}
use Rattle.file_drive.proofs.claimed.ClaimedFileFileBytes.write.Goals as goal

pub invariant_of-self : goal.invariant_of-self
invariant_of-self g c =
    let count = length c.args.bytes.now in
    let apart : (88 ≤ c.args.at) ⊎ (c.args.at + count ≤ 80) = search rules in
    let was : IsTrue (g.F.FileBytes.is_usable c.self.inside.inner) = search rules in
    let usable : IsTrue (g.F.FileBytes.is_usable c.write.new.self) = c.write.ensures.usable ∙ was in (
      marked-beside g.F.FileBytes c.self.inside.number c.args.at count c.self.inside.inner c.write.new.self apart c.write.ensures.others c.write.ensures.leaves usable c.self.invariant.0,
      c.self.invariant.1 ∙ sym c.write.ensures.usable,
    )
