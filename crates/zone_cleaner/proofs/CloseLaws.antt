-- A step that is not done closes the zone beside one at most: the clean continues from where it was.
use Rattle.std.proofs.Common.{◌≡◌, ℕ, Bool, true, false, cond, eqb, Option, Some, None, Err, refl, ap, inl, inr}
use Rattle.std.specs.Option.{option_map}
use Rattle.drive_port.specs.declared.device.Halt.TheVariants as halt
use Rattle.batch_log.specs.Log.{Batch}
use Rattle.zone_choice.specs.declared.roles.Filling.{Filling}
use Rattle.zone_choice.specs.declared.roles.Second.{Second}
use Rattle.zone_choice.specs.declared.roles.Second.TheVariants.{Destination, Next}
use Rattle.zone_choice.specs.Agreement.{MountedView}
use Rattle.zone_choice.specs.Changes.{BatchLeaves, StopsInside}
use Rattle.zone_choice.specs.Roles.{closed, closed_unless, second_with}
use Rattle.zone_choice.specs.Tables.{TablesView}
use Rattle.zone_choice.proofs.AloneLaws.{SameBut}
use Rattle.zone_cleaner.specs.Clean.{CleanView, destination_written, turns_left}
use Rattle.zone_cleaner.specs.Turns.{MayClose}

-- a stop leaves the tables, except for what is closed
pub stops-close : (before after : MountedView) (zone : ℕ) (batch : Batch) → StopsInside before after zone batch → MayClose before after.tables
stops-close before after zone batch stops = elim stops.tables as (λ _. MayClose before after.tables) [ inl same ↦ inl same | inr closed ↦ inr (closed.0, (zone, closed.1)) ]

-- and so does a failed allocation
pub memory-closes : (before after : MountedView) (zone : ℕ) (batch : Batch) → BatchLeaves before after zone batch (Err halt.Memory) → MayClose before after.tables
memory-closes before after zone batch leaves = elim leaves as (λ _. MayClose before after.tables) [ inl same ↦ inl (ap (λ (m : MountedView). m.tables) same) | inr closes ↦ inr (closes.limit, (zone, closes.tables)) ]

-- and so does a failed command
pub failed-closes : (before after : MountedView) (zone : ℕ) (batch : Batch) → BatchLeaves before after zone batch (Err halt.Failed) → MayClose before after.tables
failed-closes before after zone batch leaves = elim leaves.1 as (λ _. MayClose before after.tables) [ inl same ↦ inl same.0 | inr closes ↦ inr (closes.limit, (zone, closes.tables)) ]

-- the map and the next sequence are the same
pub close-keeps : (before : MountedView) (after : TablesView) → MayClose before after → SameBut before.tables after
close-keeps before after may = elim may as (λ _. SameBut before.tables after) [
  | inl same ↦ rw same (record { map = refl; next = refl; given = refl })
  | inr closes ↦ rw closes.1.1 (record { map = refl; next = refl; given = refl })
]

-- ---- as many turns are left

closed-written : (zone : ℕ) (f : Filling) → (closed_unless zone f).written ≡ f.written
closed-written zone f = by (eqb f.zone zone)
  where
    by : (b : Bool) → (cond {A = Filling} b f (closed f)).written ≡ f.written
    by true = refl
    by false = refl

closed-moved : (zone : ℕ) (second : Option Second) → destination_written (option_map (second_with (closed_unless zone)) second) ≡ destination_written second
closed-moved zone None = refl
closed-moved zone (Some (Next f)) = refl
closed-moved zone (Some (Destination f)) = closed-written zone f

-- a close leaves as many turns
pub close-turns : (before : MountedView) (after : TablesView) (most : ℕ) (clean : Option CleanView) → MayClose before after → turns_left most after clean ≡ turns_left most before.tables clean
close-turns before after most None may = refl
close-turns before after most (Some c) may = elim may as (λ _. turns_left most after (Some c) ≡ turns_left most before.tables (Some c)) [
  | inl same ↦ rw same refl
  | inr closes ↦ rw (closes.1.1, closed-moved closes.1.0 before.tables.roles.second) refl
]
