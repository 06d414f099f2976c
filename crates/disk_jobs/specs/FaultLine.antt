-- The line by which the program tells its fault.
use Rattle.std.specs.Prelude.{ℕ, List, codes}
use Rattle.std.specs.Io.KnownBytes.{Keeps}
use Rattle.drive_survey.specs.declared.fault.MountFault.TheVariants as mounts
use Rattle.disk_files.specs.Output.{AppendsFront}
use Rattle.drive_images.specs.FaultText.{image_fault_text as image_text}
use Rattle.drive_images.specs.declared.fault.ImageFault.TheVariants as images
use Rattle.drive_journal.specs.declared.fault.ReadFault.{ReadFault}
use Rattle.drive_journal.specs.declared.fault.ReadFault.TheVariants as files
use Rattle.disk_runs.specs.FaultText.{run_fault_text as run_text}
use Rattle.disk_runs.specs.Run.{Known}
use Rattle.disk_runs.specs.declared.fault.RunFault.TheVariants as runs
use Rattle.disk_jobs.specs.declared.fault.ProgramFault.{ProgramFault}
use Rattle.disk_jobs.specs.declared.fault.ProgramFault.TheVariants as program

-- the fault of a file that holds no drive: of its image by a line of its own, bytes after the image by that of a long one,
-- and its changes by the line of a file
abbrev pub read_fault_text : ReadFault → List ℕ
read_fault_text (files.Image fault) = image_text fault
read_fault_text (files.Long at) = image_text images.Long
read_fault_text (files.Earlier at) = codes "fault file\n"
read_fault_text (files.Damaged at) = codes "fault file\n"
read_fault_text files.Zones = codes "fault file\n"

-- a run by the line of its fault, a number of blocks that does not fit by the line of the mount, a file that holds no drive as above, and a file
-- by one line for all its faults
abbrev pub program_text : ProgramFault → List ℕ
program_text (program.Run fault) = run_text fault
program_text (program.Reserve most) = run_text (runs.Mount mounts.Reserve)
program_text (program.Image fault) = read_fault_text fault
program_text fault = codes "fault file\n"

-- why the line is not written: the writer failed within it, or there was no memory for it
abbrev pub IsUnwritten : List ℕ → ProgramFault → Known → Known → Type 0
IsUnwritten text (program.Run runs.Output) old new = AppendsFront old new text
IsUnwritten text (program.Run runs.Memory) old new = Keeps old new
IsUnwritten text fault old new = ⊥
