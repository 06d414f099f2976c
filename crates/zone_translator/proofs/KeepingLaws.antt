-- What a disk keeps while it is used: after no call, after one, and after one and more.
use Rattle.std.proofs.Common.{refl, ◌∙◌}
use Rattle.zone_translator.specs.Keeping.{KeepsServed}
use Rattle.zone_translator.specs.View.{DiskView, KeepsDisk}
use Rattle.zone_translator.proofs.DiskLaws.{kept-join, kept-refl}

pub keeps_same : (disk : DiskView) → KeepsServed disk disk
keeps_same disk = record { geometry = refl; unfailing = λ up. up; mounted = kept-refl disk }

pub keeps_again : (a b c : DiskView) → KeepsServed a b → KeepsServed b c → KeepsServed a c
keeps_again a b c f s = record {
  geometry = s.geometry ∙ f.geometry;
  unfailing = λ up. f.unfailing (s.unfailing up);
  mounted = λ m. let kept = f.mounted m in kept-join a b c kept (s.mounted kept.mountable);
}

pub keeps_call : (old new : DiskView) → KeepsDisk old new → KeepsServed old new
keeps_call old new kept = record { geometry = kept.geometry; unfailing = kept.unfailing; mounted = λ m. kept }
