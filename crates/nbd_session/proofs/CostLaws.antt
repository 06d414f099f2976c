-- A bound by what one batch takes: what follows from it.
use Rattle.std.proofs.Common.{ℕ, ◌≤◌, arith}
use Rattle.zone_translator.specs.Changes.{batch_commands, failing_commands}
use Rattle.zone_translator.specs.Keeping.{KeepsServed}
use Rattle.zone_translator.specs.View.{DiskView}
use Rattle.nbd_session.specs.Store.{BoundByBatch}

-- it holds by any number
pub bound_always : (P : ℕ → Type 0) (old new : DiskView) → ((each : ℕ) → P each) → BoundByBatch P old new
bound_always P old new holds = record { unfailing = λ up. holds (batch_commands old.drive.geometry); failing = holds (failing_commands old.drive.geometry) }

-- another follows from it
pub bound_so : (P Q : ℕ → Type 0) (old new : DiskView) → ((each : ℕ) → P each → Q each) → BoundByBatch P old new → BoundByBatch Q old new
bound_so P Q old new so b = record {
  unfailing = λ up. so (batch_commands old.drive.geometry) (b.unfailing up);
  failing = so (failing_commands old.drive.geometry) b.failing;
}

-- One call after the other. A batch takes one command at least.
pub bound_again : (P Q R : ℕ → Type 0) (a b c : DiskView) → KeepsServed a b → KeepsServed b c → ((each : ℕ) → 1 ≤ each → P each → Q each → R each)
    → BoundByBatch P a b → BoundByBatch Q b c → BoundByBatch R a c
bound_again P Q R a b c f s so x y =
    record {
      unfailing = λ up. so (batch_commands a.drive.geometry) (omega arith) (x.unfailing (s.unfailing up)) (rw f.geometry at (y.unfailing up));
      failing = so (failing_commands a.drive.geometry) (omega arith) x.failing (rw f.geometry at y.failing);
    }
