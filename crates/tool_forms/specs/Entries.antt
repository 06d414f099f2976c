-- Entries that words ask for, and their lines.
use Rattle.std.specs.Prelude.{◌≡◌, ◌⊎◌, ◌<◌, ◌^◌, ◌&&◌, ◌||◌, ℕ, Bool, true, false, not, List, ◌++◌, Option, Some, None, Ok, codes}
use Rattle.std.specs.Prelude.{is_none, is_some, length, ◌==◌, unwrap_or}
use Rattle.nvme_wire.specs.Entry.{IsAdmitted, decode_of, id_of}
use Rattle.nvme_wire.specs.declared.command.Action.TheVariants as actions
use Rattle.nvme_wire.specs.declared.command.Command.{Command}
use Rattle.nvme_wire.specs.declared.command.Command.TheVariants as commands
use Rattle.nvme_wire.specs.declared.command.ReportingOptions.{ReportingOptions}
use Rattle.nvme_wire.specs.declared.command.ReportingOptions.TheVariants.{AnyState, InState}
use Rattle.nvme_wire.specs.declared.zone_state.ZoneState.{ZoneState}
use Rattle.disk_files.specs.Line.{first_line}
use Rattle.disk_files.specs.RawLine.{raw_line}
use Rattle.tool_forms.specs.declared.entry.Entry.{Entry}
use Rattle.tool_forms.specs.declared.entry_fault.EntryFault.{EntryFault}
use Rattle.tool_forms.specs.declared.entry_fault.EntryFault.TheVariants as faults
use Rattle.tool_forms.specs.declared.entry_words.EntryName.{EntryName}
use Rattle.tool_forms.specs.declared.entry_words.EntryName.TheVariants as names
use Rattle.tool_forms.specs.declared.entry_words.EntryWords.{EntryWords}

-- the name of a command
abbrev pub name_text : EntryName → List ℕ
name_text names.Flush = codes "flush"
name_text names.Read = codes "read"
name_text names.Write = codes "write"
name_text names.Append = codes "append"
name_text names.Close = codes "close"
name_text names.Finish = codes "finish"
name_text names.Open = codes "open"
name_text names.Reset = codes "reset"
name_text names.Offline = codes "offline"
name_text names.Report = codes "report"

-- ---- options

-- which options a command takes: an address, a number of blocks, all zones, those of a report, data
abbrev pub takes_start : EntryName → Bool
takes_start names.Flush = false
takes_start name = true

abbrev pub takes_blocks : EntryName → Bool
takes_blocks names.Read = true
takes_blocks names.Write = true
takes_blocks names.Append = true
takes_blocks name = false

abbrev pub takes_all : EntryName → Bool
takes_all names.Close = true
takes_all names.Finish = true
takes_all names.Reset = true
takes_all names.Offline = true
takes_all name = false

abbrev pub takes_report : EntryName → Bool
takes_report names.Report = true
takes_report name = false

abbrev pub takes_data : EntryName → Bool
takes_data names.Write = true
takes_data names.Append = true
takes_data name = false

-- an option that is only for reports was given
abbrev pub is_for_report : EntryWords → Bool
is_for_report words = is_some words.dwords || (words.partial || is_some words.state)

-- the command takes each option that was given
abbrev pub fits : EntryWords → Bool
fits words =
    (takes_start words.name || is_none words.start) && ((takes_blocks words.name || is_none words.blocks)
    && ((takes_all words.name || not words.all) && ((takes_report words.name || not (is_for_report words))
    && (takes_data words.name || (length words.beside.items == 0)))))

-- ---- commands

-- which zones a report names
abbrev pub options_for : Option ZoneState → ReportingOptions
options_for None = AnyState
options_for (Some state) = InState state

-- the command with this name, at this address, of so many blocks, or with a buffer of so many dwords
abbrev pub command_named_as : EntryName → EntryWords → ℕ → ℕ → ℕ → Command
command_named_as names.Flush words start blocks dwords = commands.Flush
command_named_as names.Read words start blocks dwords = commands.Read start blocks
command_named_as names.Write words start blocks dwords = commands.Write start blocks
command_named_as names.Append words start blocks dwords = commands.Append start blocks
command_named_as names.Close words start blocks dwords = commands.Send start actions.Close words.all
command_named_as names.Finish words start blocks dwords = commands.Send start actions.Finish words.all
command_named_as names.Open words start blocks dwords = commands.Send start actions.Open false
command_named_as names.Reset words start blocks dwords = commands.Send start actions.Reset words.all
command_named_as names.Offline words start blocks dwords = commands.Send start actions.Offline words.all
command_named_as names.Report words start blocks dwords = commands.Receive start dwords (options_for words.state) words.partial

abbrev pub command_with : EntryWords → ℕ → ℕ → ℕ → Command
command_with words = command_named_as words.name words

-- the command that words ask for: without its option the address is 0, one block is meant, and a buffer has 1,024 dwords
abbrev pub command_meant : EntryWords → Command
command_meant words = command_with words (unwrap_or words.start 0) (unwrap_or words.blocks 1) (unwrap_or words.dwords 1024)

-- the entry that words ask for
pub record IsEntryOf (words : EntryWords) (entry : Entry) : Type 0 where
  pub takes : fits words ≡ true
  pub command : entry.command ≡ command_meant words
  pub id : entry.id ≡ unwrap_or words.id 0
  pub admitted : IsAdmitted entry.command

-- a number is below the least or above the greatest
abbrev pub IsOutside : ℕ → ℕ → ℕ → Type 0
IsOutside least greatest n = (n < least) ⊎ (greatest < n)

-- why words ask for none
abbrev pub IsNoEntry : EntryWords → EntryFault → Type 0
IsNoEntry words faults.Options = fits words ≡ false
IsNoEntry words faults.Blocks = IsOutside 1 65536 (unwrap_or words.blocks 1)
IsNoEntry words faults.Dwords = IsOutside 16 (2 ^ 32) (unwrap_or words.dwords 1024)
IsNoEntry words faults.Id = IsOutside 0 65535 (unwrap_or words.id 0)

-- ---- lines

-- one line, which is read as a raw line of these bytes and this data
pub record IsRawLine (bytes beside line : List ℕ) : Type 0 where
  pub ends : line ≡ first_line line ++ codes "\n"
  pub read : raw_line (first_line line) ≡ Some (bytes, beside)

-- the line of an entry and its data: the bytes decode to the command and its identifier
pub record IsLineOf (entry : Entry) (beside line : List ℕ) : Type 0 where
  pub bytes : List ℕ
  pub is_line : IsRawLine bytes beside line
  pub command : decode_of bytes ≡ Ok entry.command
  pub id : id_of bytes ≡ entry.id
