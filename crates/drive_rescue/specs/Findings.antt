-- What a search of a drive leaves for giving its blocks.
use Rattle.std.specs.Prelude.{◌≡◌, ℕ, ◌≤◌, ◌^◌}
use Rattle.drive_port.specs.Drive.{IsLawful}
use Rattle.zone_states.specs.Geometry.{IsInRange}
use Rattle.drive_array.specs.Sizes.{size_or}
use Rattle.drive_rescue.specs.declared.fault.RescueFault.{RescueFault}
use Rattle.drive_rescue.specs.declared.fault.RescueFault.TheVariants as faults
use Rattle.drive_rescue.specs.declared.rescuing.Findings.{Findings}
use Rattle.drive_rescue.specs.Giving.{FindsHeld}
use Rattle.drive_rescue.specs.Rescue.{SourceView}

-- All zones were searched. The size is what the headers found say, or the given one.
pub record IsFound (source : SourceView) (given : ℕ) (findings : Findings) : Type 0 where
  pub range : IsInRange source.drive.geometry
  pub lawful : IsLawful source.drive
  pub held : FindsHeld source findings.search
  pub size : findings.blocks ≡ size_or given findings.search.size
  pub few : findings.blocks ≤ 2 ^ 31

-- Why nothing is found. Only a number or a geometry that is out of range is refused as such.
abbrev pub FindFails : SourceView → ℕ → RescueFault → Type 0
FindFails source given faults.Limits = IsInRange source.drive.geometry → given ≤ 2 ^ 31 → ⊥
FindFails source given (faults.Halted halt) = Unit {0}
FindFails source given faults.Output = ⊥
