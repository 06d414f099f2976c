use Rattle.std.proofs.Common.{◌≡◌, ◌++◌, Some, None, rules}
use Rattle.nvme_wire.specs.declared.status.Status.TheVariants.{ZoneInvalidWrite}
use Rattle.zone_states.specs.Checks.{first_failing}
use Rattle.zone_states.specs.Writing.{pointer_checks, room_checks, state_checks}
use Rattle.zone_states.proofs.CheckLaws.{first_failing-front, first_failing-back}
use Rattle.zone_states.proofs.refusal.write_refusal.Goals as goal

pub returns-in-Some : goal.returns-in-Some
returns-in-Some c zone state written =
    first_failing-front (state_checks zone ++ pointer_checks zone c.args.offset) (room_checks c.args.geometry.now zone c.args.blocks) _
    (first_failing-front (state_checks zone) (pointer_checks zone c.args.offset) _ (c.in-Some.ensures zone state))

pub returns-then-offset-written : goal.returns-then-offset-written
returns-then-offset-written c zone state written =
    let here : Some ZoneInvalidWrite ≡ first_failing (pointer_checks zone c.args.offset) = search rules in
    first_failing-front (state_checks zone ++ pointer_checks zone c.args.offset) (room_checks c.args.geometry.now zone c.args.blocks) _
    (first_failing-back (state_checks zone) (pointer_checks zone c.args.offset) _ (c.in_default.ensures zone state) here)

pub returns : goal.returns
returns c zone state written =
    let here : None ≡ first_failing (pointer_checks zone c.args.offset) = search rules in
    first_failing-back (state_checks zone) (pointer_checks zone c.args.offset ++ room_checks c.args.geometry.now zone c.args.blocks) _ (c.in_default.ensures zone state)
    (first_failing-back (pointer_checks zone c.args.offset) (room_checks c.args.geometry.now zone c.args.blocks) _ here (c.room_refusal.ensures zone written))
