-- The shape of a drive, and the size of a disk, through two calls.
use Rattle.std.proofs.Common.{◌∙◌, refl}
use Rattle.drive_port.specs.Drive.{DriveState}
use Rattle.zone_choice.specs.Sane.{KeepsShape}
use Rattle.zone_translator.specs.View.{DiskView, StaysAlike}

pub shape_same : (drive : DriveState) → KeepsShape drive drive
shape_same drive = record { geometry = refl; trusted = λ clean. clean; unfailing = λ up. up }

pub shape_join : (a b c : DriveState) → KeepsShape a b → KeepsShape b c → KeepsShape a c
shape_join a b c first second = record { geometry = second.geometry ∙ first.geometry; trusted = λ clean. first.trusted (second.trusted clean); unfailing = λ up. first.unfailing (second.unfailing up) }

pub alike_same : (disk : DiskView) → StaysAlike disk disk
alike_same disk = record { shape = shape_same disk.drive; size = refl }

pub alike_join : (a b c : DiskView) → StaysAlike a b → StaysAlike b c → StaysAlike a c
alike_join a b c first second = record { shape = shape_join a.drive b.drive c.drive first.shape second.shape; size = second.size ∙ first.size }
