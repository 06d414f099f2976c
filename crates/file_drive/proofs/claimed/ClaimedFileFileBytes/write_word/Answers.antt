use Rattle.std.proofs.Common.{rules, ◌∙◌, ◌⊎◌, ◌+◌, ◌≤◌, sym}
use Rattle.file_drive.proofs.MarkLaws.{marked-word}
use Rattle.file_drive.proofs.claimed.ClaimedFileFileBytes.write_word.Goals as goal

pub invariant_of-self-2 : goal.invariant_of-self-2
invariant_of-self-2 g c =
    let apart : (88 ≤ c.args.at) ⊎ (c.args.at + 8 ≤ 80) = search rules in (
      marked-word g.F.FileBytes c.self.inside.number c.args.at 8 c.self.inside.inner c.write_word.new.self apart c.write_word.ensures.others c.write_word.ensures.leaves c.write_word.ensures.shows c.self.invariant.0,
      c.self.invariant.1 ∙ sym c.write_word.ensures.usable,
    )
