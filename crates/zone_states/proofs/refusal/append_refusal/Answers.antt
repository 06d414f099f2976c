use Rattle.zone_states.specs.Writing.{room_checks, state_checks}
use Rattle.zone_states.proofs.CheckLaws.{first_failing-front, first_failing-back}
use Rattle.zone_states.proofs.refusal.append_refusal.Goals as goal

pub returns-in-Some : goal.returns-in-Some
returns-in-Some c zone state written =
    first_failing-front (state_checks zone) (room_checks c.args.geometry.now zone c.args.blocks) c.in-Some.status (c.in-Some.ensures zone state)

pub returns : goal.returns
returns c zone state written =
    first_failing-back (state_checks zone) (room_checks c.args.geometry.now zone c.args.blocks) _ (c.in_default.ensures zone state) (c.room_refusal.ensures zone written)
