-- What a device has done, as counts.
use Rattle.std.specs.Prelude.{ℕ, ◌+◌, ◌-◌, ◌^◌, min, nat_lt, ◌==◌, if◌then◌else◌, List, length, Option, Some, None, Result, Ok}
use Rattle.nvme_wire.specs.Entry.{decode_of}
use Rattle.nvme_wire.specs.Completion.{code_in}
use Rattle.nvme_wire.specs.declared.command.Action.{Action}
use Rattle.nvme_wire.specs.declared.command.Action.TheVariants as actions
use Rattle.nvme_wire.specs.declared.command.Command.{Command}
use Rattle.nvme_wire.specs.declared.command.Command.TheVariants.{Read, Append, Send, Receive}
use Rattle.nvme_wire.specs.declared.command.DecodeFault.{DecodeFault}
use Rattle.batch_log.specs.declared.header.Kind.{Kind}
use Rattle.batch_log.specs.declared.header.Kind.TheVariants.{Host, Move}
use Rattle.batch_log.specs.Reading.{kind_in}
use Rattle.drive_port.specs.Drive.{DriveState}
use Rattle.drive_counter.specs.declared.counts.Counts.{Counts}

-- the drive within, and what was counted since it was put there
pub record Counting : Type 0 where
  pub inner : DriveState
  pub counts : Counts

abbrev pub no_counts : Counts
no_counts = record { appends = 0; reads = 0; closes = 0; finishes = 0; resets = 0; reports = 0; others = 0; blocks = 0; host_blocks = 0; moved_blocks = 0 }

-- a count that rises, up to the greatest number of 64 bits
abbrev pub more : ℕ → ℕ → ℕ
more count by = min (count + by) (2 ^ 64 - 1)

-- ---- commands

-- one Zone Management Send more of its kind
abbrev pub with_action : Counts → Action → Counts
with_action counts actions.Close = record counts { closes = more counts.closes 1 }
with_action counts actions.Finish = record counts { finishes = more counts.finishes 1 }
with_action counts actions.Reset = record counts { resets = more counts.resets 1 }
with_action counts action = record counts { others = more counts.others 1 }

-- one command more of its kind
abbrev pub with_command : Counts → Result Command DecodeFault → Counts
with_command counts (Ok (Append zslba blocks)) = record counts { appends = more counts.appends 1 }
with_command counts (Ok (Read slba blocks)) = record counts { reads = more counts.reads 1 }
with_command counts (Ok (Receive slba dwords options partial)) = record counts { reports = more counts.reports 1 }
with_command counts (Ok (Send slba action all)) = with_action counts action
with_command counts command = record counts { others = more counts.others 1 }

-- ---- blocks

-- The kind of batch that these bytes say they are, in the two bytes where a header has it. Of a batch it is its kind.
abbrev pub kind_said : List ℕ → Option Kind
kind_said bytes =
    if nat_lt (length bytes) 12 then None
    else if kind_in bytes == 1 then Some Host
    else if kind_in bytes == 2 then Some Move
    else None

-- the blocks of an Append, the first of which is the header of a batch of this kind
abbrev pub counting_batch : Counts → ℕ → Option Kind → Counts
counting_batch counts blocks None = record counts { blocks = more counts.blocks blocks }
counting_batch counts blocks (Some Host) = record counts { blocks = more counts.blocks blocks; host_blocks = more counts.host_blocks (blocks - 1) }
counting_batch counts blocks (Some Move) = record counts { blocks = more counts.blocks blocks; moved_blocks = more counts.moved_blocks (blocks - 1) }

-- the blocks that a command writes which is not refused
abbrev pub counting_data : Counts → Result Command DecodeFault → List ℕ → Counts
counting_data counts (Ok (Append zslba blocks)) bytes = counting_batch counts blocks (kind_said bytes)
counting_data counts command bytes = counts

-- ---- a completed command

-- the counts after a command with this completion
abbrev pub counts_after : Counts → List ℕ → List ℕ → List ℕ → Counts
counts_after counts entry bytes completion =
    let counted = with_command counts (decode_of entry) in
    if code_in completion == 0 then counting_data counted (decode_of entry) bytes else counted

-- ---- a tally

-- how many commands were counted
abbrev pub commands_of : Counts → ℕ
commands_of counts = counts.appends + counts.reads + counts.closes + counts.finishes + counts.resets + counts.reports + counts.others

-- the drive within, as if it had completed the commands that were counted, and no other
abbrev pub tallied : Counting → DriveState
tallied tally = record tally.inner { completed = commands_of tally.counts }
