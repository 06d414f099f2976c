-- A source whose blocks are all unreadable now and then.
use Rattle.std.specs.Prelude.{ℕ, true}
use Rattle.drive_rescue.specs.Rescue.{SourceView}

abbrev pub flaky : SourceView → SourceView
flaky source = record { drive = source.drive; damaged = λ (number offset : ℕ). true }
