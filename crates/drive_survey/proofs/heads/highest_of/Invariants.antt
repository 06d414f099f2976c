use Rattle.std.proofs.Common.{◌≡◌, drop}
use Rattle.drive_survey.specs.Heads.{highest_of}
use Rattle.drive_survey.proofs.heads.highest_of.Given as goal

abbrev pub invariant-loop-i : goal.invariant-loop-i
invariant-loop-i l = highest_of l.highest (drop l.i l.header.entries) ≡ highest_of l.fn.highest l.header.entries
