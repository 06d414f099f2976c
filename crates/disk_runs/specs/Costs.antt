-- At most how many commands lines take.
use Rattle.std.specs.Prelude.{◌≡◌, ℕ, ◌+◌, ◌*◌, Bool, true, false, List, [], ◌∷◌, Option, Some, None}
use Rattle.std.specs.Int.{div_ceil}
use Rattle.std.specs.List.{AllByRecursion}
use Rattle.zone_states.specs.declared.geometry.Geometry.{Geometry}
use Rattle.drive_port.specs.Calls.{block_count}
use Rattle.drive_array.specs.Reserve.{batch_most}
use Rattle.disk_files.specs.declared.trace_line.TraceLine.{TraceLine}
use Rattle.disk_files.specs.declared.trace_line.TraceLine.TheVariants.{Read, Fill, Write, Trim, Idle, Grow, Remount}
use Rattle.disk_runs.specs.Taken.{is_flushed}
use Rattle.disk_runs.specs.Trace.{said_by}
use Rattle.disk_runs.specs.declared.taking.Taking.{Taking}

-- At most how many commands a line takes, where a batch takes so many: one for each block that it reads, those of each
-- batch of a write and of a growth, and two a turn.
abbrev pub most_commands : ℕ → Geometry → Option (TraceLine × List ℕ) → ℕ
most_commands each geometry None = 0
most_commands each geometry (Some (Read first n, bytes)) = n
most_commands each geometry (Some (Fill first n byte, bytes)) = n * each
most_commands each geometry (Some (Write first, bytes)) = block_count geometry bytes * each
most_commands each geometry (Some (Trim first n, bytes)) = div_ceil n (batch_most geometry) * each
most_commands each geometry (Some (Idle n, bytes)) = 2 * n
most_commands each geometry (Some (Grow size, bytes)) = each
most_commands each geometry (Some (Remount, bytes)) = 0

-- whether it mounts the drive again, which takes as many commands as the drive needs
abbrev pub mounts : Option (TraceLine × List ℕ) → Bool
mounts (Some (Remount, bytes)) = true
mounts said = false

-- one more where a flush follows
abbrev pub with_flush : Bool → ℕ → ℕ
with_flush true n = n + 1
with_flush false n = n

-- the same of a line, with its flush
abbrev pub line_commands : Taking → ℕ → Geometry → List ℕ → ℕ
line_commands taking each geometry line = with_flush (is_flushed taking line) (most_commands each geometry (said_by line))

-- all of these lines
abbrev pub all_commands : Taking → ℕ → Geometry → List (List ℕ) → ℕ
all_commands taking each geometry [] = 0
all_commands taking each geometry (line ∷ lines) = line_commands taking each geometry line + all_commands taking each geometry lines

abbrev pub NoneMounts : List (List ℕ) → Type 0
NoneMounts lines = AllByRecursion (λ (line : List ℕ). mounts (said_by line) ≡ false) lines
