-- Entries that a tool tells.
use Rattle.std.specs.Prelude.{ℕ, List}
use Rattle.tool_forms.specs.Entries.{IsLineOf, IsNoEntry}
use Rattle.tool_forms.specs.declared.entry.Entry.{Entry}
use Rattle.tool_forms.specs.declared.entry_words.EntryWords.{EntryWords}
use Rattle.tool_jobs.specs.declared.fault.ToolFault.{ToolFault}
use Rattle.tool_jobs.specs.declared.fault.ToolFault.TheVariants as tool

-- why words ask for no entry
abbrev pub HasNoEntry : EntryWords → ToolFault → Type 0
HasNoEntry words (tool.Entry fault) = IsNoEntry words fault
HasNoEntry words fault = ⊥

-- the lines of an entry with this data
abbrev pub lines_with : List ℕ → Entry → List ℕ → Type 0
lines_with beside entry line = IsLineOf entry beside line
