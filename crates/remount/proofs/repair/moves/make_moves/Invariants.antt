use Rattle.std.proofs.Common.{ℕ, ◌≤◌, IsTrue}
use Rattle.drive_survey.specs.Heads.{no_heads}
use Rattle.remount.specs.Kept.{Stays}
use Rattle.remount.specs.Moving.{IsAtMove, move_count}
use Rattle.remount.proofs.repair.moves.make_moves.Given as goal

abbrev pub invariant-loop-number : goal.invariant-loop-number
invariant-loop-number g l =
    (l.number ≤ move_count l.plan) × Stays (g.D.Device.drive l.fn.device) (g.D.Device.drive l.device)
    × ((n : ℕ) → IsTrue (g.D.Device.drive l.device).clean → IsAtMove n (g.D.Device.drive l.fn.device) (g.D.Device.drive l.fn.device) l.tables l.plan 0 no_heads
    → IsAtMove n (g.D.Device.drive l.fn.device) (g.D.Device.drive l.device) l.tables l.plan l.number l.moves.heads)
