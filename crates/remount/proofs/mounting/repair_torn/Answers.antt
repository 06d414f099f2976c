use Rattle.std.proofs.Common.{inl, refl}
use Rattle.remount.proofs.EmptyLaws.{stays-none}
use Rattle.remount.proofs.KeepLaws.{keeps-mountable-none}
use Rattle.remount.proofs.StepLaws.{plans-none, untorn}
use Rattle.remount.proofs.mounting.repair_torn.Goals as goal

pub returns-in_default-clause-ok : goal.returns-in_default-clause-ok
returns-in_default-clause-ok g c = λ clean. untorn _ _ _ (c.requires.cleared clean) (plans-none _ _ _ _ c.args.repair.now c.in_default.is (c.requires.plan clean))

pub returns-in_default-clause-noted : goal.returns-in_default-clause-noted
returns-in_default-clause-noted g c = λ clean zone noted. inl noted

pub returns-in_default-clause-count : goal.returns-in_default-clause-count
returns-in_default-clause-count g c = (c.requires.fits.scanned, refl)

pub returns-in_default-clause-kept : goal.returns-in_default-clause-kept
returns-in_default-clause-kept g c = λ clean. keeps-mountable-none _ _ c.requires.fits.zones.lawful

pub returns-in_default-clause-stays : goal.returns-in_default-clause-stays
returns-in_default-clause-stays g c = stays-none _ c.requires.fits.zones.lawful
