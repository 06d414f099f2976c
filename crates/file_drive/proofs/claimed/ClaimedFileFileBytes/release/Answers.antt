use Rattle.std.proofs.Common.{rules, ◌∙◌, ◌⊎◌, ◌+◌, ◌≤◌, IsTrue, sym}
use Rattle.file_drive.proofs.MarkLaws.{marked-beside}
use Rattle.file_drive.proofs.claimed.ClaimedFileFileBytes.release.Goals as goal

pub invariant_of-self : goal.invariant_of-self
invariant_of-self g c =
    let apart : (88 ≤ c.args.at) ⊎ (c.args.at + c.args.count ≤ 80) = search rules in
    let was : IsTrue (g.F.FileBytes.is_usable c.self.inside.inner) = search rules in
    let usable : IsTrue (g.F.FileBytes.is_usable c.release.new.self) = c.release.ensures.usable ∙ was in (
      marked-beside g.F.FileBytes c.self.inside.number c.args.at c.args.count c.self.inside.inner c.release.new.self apart c.release.ensures.others c.release.ensures.leaves usable c.self.invariant.0,
      c.self.invariant.1 ∙ sym c.release.ensures.usable,
    )
