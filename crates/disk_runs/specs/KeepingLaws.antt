-- What the answers to lines keep of a disk.
use Rattle.std.proofs.Common.{ℕ, refl, arith}
use Rattle.zone_translator.specs.View.{DiskView, disk_size}
use Rattle.zone_translator.proofs.KeepingLaws.{keeps_same}
use Rattle.disk_runs.specs.AnyDevice.{StaysRead, any_lines}
use Rattle.disk_runs.specs.Trace.{ComesToNothing, ReadsFew}
use Rattle.disk_runs.specs.declared.taking.Taking.{Taking}

-- a read of no block costs nothing
pub reads_none : (n : ℕ) (disk : DiskView) → ReadsFew n disk disk
reads_none n disk = record { turns = refl; completed = omega arith }

-- a disk of which nothing came
pub nothing_same : (disk : DiskView) → ComesToNothing disk disk
nothing_same disk =
    record { flat = refl; keeps = keeps_same disk; reads = reads_none (disk_size disk) disk; durable = refl }

-- the same in any case
pub read_same : (disk : DiskView) → StaysRead disk disk
read_same disk = record {
  alike = record { shape = record { geometry = refl; trusted = λ clean. clean; unfailing = λ up. up }; size = refl };
  reads = reads_none (disk_size disk) disk;
}

-- and over any device
pub any_same : (taking : Taking) (disk : DiskView) → (any_lines taking).Same disk disk
any_same taking disk = record { before = λ is. is; always = read_same disk; does = λ is. nothing_same disk }
