-- What words ask for in an entry.
use Rattle.std.specs.Prelude.{◌≡◌, ℕ, List, [], IsSomeAnd, MatchOption, Ok, codes}
use Rattle.hex.specs.Hex.{decode_of}
use Rattle.clap.specs.Words.{Row, first_of}
use Rattle.tool_forms.specs.Entries.{name_text}
use Rattle.tool_forms.specs.declared.entry_words.EntryName.{EntryName}
use Rattle.tool_forms.specs.declared.entry_words.EntryWords.{EntryWords}
use Rattle.asked_tasks.specs.ToolWords.{HasStateIf}
use Rattle.asked_tasks.specs.Values.{HasNumberIf, is_set}

-- the command that was named
abbrev pub HasEntryName : List Row → EntryName → Type 0
HasEntryName rows name = IsSomeAnd (first_of (codes "command") rows) (λ text. text ≡ name_text name)

-- the bytes of the digits that were given, none if there are none
abbrev pub HasDigits : List Row → List ℕ → Type 0
HasDigits rows bytes = MatchOption (first_of (codes "data") rows) (bytes ≡ []) (λ text. decode_of text ≡ Ok bytes)

pub record AsksForEntry (rows : List Row) (words : EntryWords) : Type 0 where
  pub name : HasEntryName rows words.name
  pub start : HasNumberIf rows (codes "start") words.start
  pub blocks : HasNumberIf rows (codes "blocks") words.blocks
  pub dwords : HasNumberIf rows (codes "dwords") words.dwords
  pub id : HasNumberIf rows (codes "id") words.id
  pub all : is_set rows (codes "all") ≡ words.all
  pub is_partial : is_set rows (codes "partial") ≡ words.partial
  pub state : HasStateIf rows words.state
  pub beside : HasDigits rows words.beside.items
