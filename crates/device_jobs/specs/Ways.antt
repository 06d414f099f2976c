-- A program that has no way to a device.
use Rattle.std.specs.Prelude.{◌≡◌, Result, IsErrAnd}
use Rattle.device_jobs.specs.declared.fault.DeviceFault.{DeviceFault}
use Rattle.device_jobs.specs.declared.fault.DeviceFault.TheVariants.{NoWay}

-- it says just that
abbrev pub HasNoWay : {A : Type 0} → Result A DeviceFault → Type 0
HasNoWay opened = IsErrAnd opened (λ fault. fault ≡ NoWay)
