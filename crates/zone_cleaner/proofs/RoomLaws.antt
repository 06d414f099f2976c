-- What turns that are done leave of the zones being filled: room for the host.
use Rattle.std.proofs.Common.{◌≡◌, ℕ, Bool, true, false, cond, ltb, Option, Some, None, Ok, refl, sym, ap, ◌∙◌}
use Rattle.std.specs.Option.{option_map}
use Rattle.std.specs.Prelude.{is_some}
use Rattle.zone_states.specs.declared.geometry.Geometry.{Geometry}
use Rattle.zone_choice.specs.declared.roles.Filling.{Filling}
use Rattle.zone_choice.specs.declared.roles.Second.{Second}
use Rattle.zone_choice.specs.declared.roles.Second.TheVariants.{Destination}
use Rattle.zone_choice.specs.Agreement.{MountedView}
use Rattle.zone_choice.specs.Changes.{roles_alone}
use Rattle.drive_array.specs.Reserve.{batch_most}
use Rattle.zone_choice.specs.Roles.{RolesView, closed_beside, closed_unless, ended, grown, next_of, wrote}
use Rattle.zone_cleaner.specs.declared.step.Step.{Step}
use Rattle.zone_cleaner.specs.declared.step.Step.TheVariants.{Gather, Move, Reset, Undo}
use Rattle.zone_cleaner.specs.Clean.{CleanView}
use Rattle.zone_cleaner.specs.Start.{AgreesWithClean, LeavesNextZone, TurnLeaves}
use Rattle.zone_cleaner.specs.Turns.{StepDone, next_step}

-- ---- one step

pub move-host : (geometry : Geometry) (roles : RolesView) (zone blocks : ℕ) → roles.host ≡ None → (wrote (roles_alone geometry roles zone) zone blocks).host ≡ None
move-host geometry roles zone blocks none = by (ltb 1 geometry.open)
  where
    by : (b : Bool) → (wrote (cond b roles (closed_beside roles zone)) zone blocks).host ≡ None
    by true = ap (option_map (grown zone blocks)) none
    by false = ap (λ (o : Option Filling). option_map (grown zone blocks) (option_map (closed_unless zone) o)) none

has-next : (second : Option Second) (filling : Filling) → second ≡ Some (Destination filling) → is_some (next_of (option_map ended second)) ≡ true
has-next second filling is = rw is refl

step-room : (before after : MountedView) (c : CleanView) (new : Option CleanView) (step : Step) → AgreesWithClean before (Some c) → StepDone step before c after new → LeavesNextZone before after (Some c) new
step-room before after c new (Gather block place) is done = record {
  host = λ none. rw done.1 none;
  next = λ all some ended. let bad : None ≡ Some _ = sym ended ∙ done.2 in absurd (cc);
}
step-room before after c new Move is done = record {
  host = λ none. rw done.0.places.roles (move-host before.drive.geometry before.tables.roles done.0.destination.zone _ none);
  next = λ all some ended. let bad : None ≡ Some _ = sym ended ∙ done.1 in absurd (cc);
}
step-room before after c new Undo is done = record {
  host = λ none. rw done.0.roles none;
  next = λ all some ended. absurd (done.0.lost all);
}
step-room before after c new Reset is done = record {
  host = λ none. rw done.0.roles none;
  next = λ all some ended. rw done.0.roles (has-next before.tables.roles.second is.1.destination is.1.second);
}

-- ---- turns

-- what a turn leaves of the zones being filled
pub turn-room : (before after : MountedView) (old new : Option CleanView) → AgreesWithClean before old → TurnLeaves before old (Ok tt) after new → LeavesNextZone before after old new
turn-room before after (Some c) new is leaves = step-room before after c new (next_step (batch_most before.drive.geometry) before.tables c) is leaves
turn-room before after None None is leaves = record { host = λ none. rw leaves.1.1 none; next = λ all some. let bad : false ≡ true = some in absurd (cc) }
turn-room before after None (Some c) is leaves = record { host = λ none. rw leaves.1.tables none; next = λ all some. let bad : false ≡ true = some in absurd (cc) }
