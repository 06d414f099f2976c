-- How many commands the parts of a call take.
use Rattle.std.proofs.Common.{◌≡◌, ℕ, ◌+◌, ◌-◌, ◌*◌, ◌≤◌, ap, arith}
use Rattle.std.specs.Prelude.{IsTrue}
use Rattle.std.proofs.lemmas.Nat.{mul-le}
use Rattle.zone_states.specs.declared.geometry.Geometry.{Geometry}
use Rattle.zone_states.specs.Geometry.{IsInRange}
use Rattle.drive_port.specs.Drive.{DriveState}
use Rattle.zone_choice.proofs.AgreementLaws.{StaysFailed}
use Rattle.zone_cleaner.specs.Answering.{CostsClean, all_clean_commands, clean_commands}
use Rattle.zone_translator.specs.Changes.{CostsBatch, batch_commands, failing_commands}
use Rattle.zone_translator.specs.View.{CompletesAtMost, CostsBatches, CostsMost, DiskView}
use Rattle.zone_translator.proofs.CallLaws.{spend}

-- ---- room

-- there are zones, so cleaning all of them costs what one costs, or more
one-of-all : (g : Geometry) → IsInRange g → clean_commands g ≤ all_clean_commands g
one-of-all g range = omega (arith, mul-le 1 (clean_commands g) g.zones (clean_commands g) (omega (arith, range.zones.0)) (omega arith))

-- few commands were sent
pub costs-few : (spare : ℕ) (old new : DriveState) → IsInRange old.geometry → spare ≤ 2 → new.completed ≤ old.completed + 1 → CostsClean spare old new
costs-few spare old new range few one =
    let all = one-of-all old.geometry range in
    record { unfailing = λ up. omega (arith, few, one, range.capacity.0); failing = omega (arith, few, one, range.capacity.0, all) }

-- one spare command less
pub costs-less : (old new : DriveState) → CostsClean 2 old new → CostsClean 1 old new
costs-less old new costs = record { unfailing = λ up. omega (arith, costs.unfailing up); failing = omega (arith, costs.failing) }

-- and one command before it
pub costs-after : (old now new : DriveState) → now.geometry ≡ old.geometry → now.completed ≤ old.completed + 1 → CostsClean 2 now new → CostsClean 1 old new
costs-after old now new geometry one costs = record { unfailing = λ up. omega (arith, one, rw geometry at costs.unfailing up); failing = omega (arith, one, rw geometry at costs.failing) }

-- ---- a batch

-- it was not sent
pub costs-unsent : (old new : DriveState) → CostsClean 1 old new → CostsBatch old new
costs-unsent old new costs = record { unfailing = λ up. omega (arith, costs.unfailing up); failing = omega (arith, costs.failing) }

-- it was sent
pub costs-sent : (old now new : DriveState) → CostsClean 1 old now → StaysFailed now new → new.completed ≤ now.completed + 2 → CostsBatch old new
costs-sent old now new costs failed two = record { unfailing = λ up. omega (arith, costs.unfailing (failed up), two); failing = omega (arith, costs.failing, two) }

-- nothing was sent
pub costs-nothing : (drive : DriveState) → CostsBatch drive drive
costs-nothing drive = record { unfailing = λ up. omega arith; failing = omega arith }

-- ---- batches

pub costs-none : (disk : DiskView) (batches : ℕ) → CostsBatches disk batches disk
costs-none disk batches = record { unfailing = λ up. omega arith; failing = omega arith }

pub costs-one : (old new : DiskView) → CostsBatch old.drive new.drive → CostsBatches old 1 new
costs-one old new costs = record { unfailing = λ up. omega (arith, costs.unfailing up); failing = omega (arith, costs.failing) }

-- Of so many batches some are left, and those that were sent cost no more than theirs.
pub record Spends (old : DiskView) (all left : ℕ) (now : DiskView) : Type 0 where
  pub unfailing : IsTrue now.drive.unfailing → now.drive.completed + left * batch_commands old.drive.geometry ≤ old.drive.completed + all * batch_commands old.drive.geometry
  pub failing : now.drive.completed + left * failing_commands old.drive.geometry ≤ old.drive.completed + all * failing_commands old.drive.geometry

pub spends-none : (disk : DiskView) (all left : ℕ) → left ≡ all → Spends disk all left disk
spends-none disk all left same = rw same (record { unfailing = λ up. omega arith; failing = omega arith })

-- one batch more, after which fewer are left
pub spends-more : (old now new : DiskView) (all left less : ℕ) → now.drive.geometry ≡ old.drive.geometry → StaysFailed now.drive new.drive → less + 1 ≤ left → Spends old all left now → CostsBatches now 1 new → Spends old all less new
spends-more old now new all left less geometry failed fewer so_far one = record {
  unfailing = λ up. spend left less (batch_commands old.drive.geometry) now.drive.completed new.drive.completed _ fewer (omega (arith, rw geometry at one.unfailing up)) (so_far.unfailing (failed up));
  failing = spend left less (failing_commands old.drive.geometry) now.drive.completed new.drive.completed _ fewer (omega (arith, rw geometry at one.failing)) so_far.failing;
}

-- all of them cost no more than theirs
pub spends-all : (old new : DiskView) (all left : ℕ) → Spends old all left new → CostsBatches old all new
spends-all old new all left so_far = record { unfailing = λ up. omega (arith, so_far.unfailing up); failing = omega (arith, so_far.failing) }

-- ---- any costs

-- no batch is among the commands
pub costs-plain : (old new : DiskView) (count : ℕ) → CompletesAtMost old count new → CostsMost old (λ each. count) new
costs-plain old new count few = record { unfailing = λ up. few; failing = few }

-- one after the other
pub costs-join : (old now new : DiskView) (first rest : ℕ → ℕ) → now.drive.geometry ≡ old.drive.geometry → StaysFailed now.drive new.drive → CostsMost old first now → CostsMost now rest new → CostsMost old (λ each. first each + rest each) new
costs-join old now new first rest geometry failed one two = record {
  unfailing = λ up. omega (arith, one.unfailing (failed up), rw geometry at two.unfailing up);
  failing = omega (arith, one.failing, rw geometry at two.failing);
}

-- no more than that
pub costs-within : (old new : DiskView) (few most : ℕ → ℕ) → ((each : ℕ) → few each ≤ most each) → CostsMost old few new → CostsMost old most new
costs-within old new few most within costs = record {
  unfailing = λ up. omega (arith, costs.unfailing up, within (batch_commands old.drive.geometry));
  failing = omega (arith, costs.failing, within (failing_commands old.drive.geometry));
}
