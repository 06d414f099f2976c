-- What an open reads of a file.
use Rattle.std.specs.Prelude.{◌≡◌, ℕ, ◌&&◌, not, Bool, List, length, map}
use Rattle.zone_states.specs.declared.geometry.Geometry.{Geometry}
use Rattle.zone_states.specs.Geometry.{IsInRange}
use Rattle.file_drive.specs.Head.{boot_in, is_of_boot, shape_words}
use Rattle.file_drive.specs.InFile.{AreApart, AreSummed, other_table, spare_table}
use Rattle.file_drive.specs.Layout.{at_table, file_length}
use Rattle.file_drive.specs.Opening.{AreFew, IsTable, opened_table, proves_live}
use Rattle.file_drive.specs.Tables.{entry_of, flushed_table, live_table, words_in}
use Rattle.file_drive.specs.declared.boot.Boot.{Boot}
use Rattle.file_drive.specs.declared.entry.Entry.{Entry}
use Rattle.file_drive.specs.declared.fault.OpenFault.{OpenFault}
use Rattle.file_drive.specs.declared.fault.OpenFault.TheVariants as faults
use Rattle.file_drive.specs.declared.found.Found.{Found}
use Rattle.file_drive.specs.declared.head.Head.{Head}
use Rattle.file_drive.specs.declared.tables.Tables.{Tables}

-- the head of a file that is a drive's
pub record IsHead (file : List ℕ) (head : Head) : Type 0 where
  pub in_range : IsInRange head.geometry
  pub long : length file ≡ file_length head.geometry
  pub words : words_in file 0 8 ≡ shape_words head.geometry
  pub boot_is : boot_in file ≡ head.boot

-- the tables of a file
pub record AreTables (geometry : Geometry) (file : List ℕ) (tables : Tables) : Type 0 where
  pub live_is : live_table file ≡ tables.live
  pub flushed_is : flushed_table file ≡ tables.flushed
  pub current : words_in file (at_table geometry tables.live) geometry.zones ≡ tables.current.items
  pub spare : words_in file (at_table geometry (spare_table tables.live)) geometry.zones ≡ tables.spare.items
  pub safe : words_in file (at_table geometry tables.flushed) geometry.zones ≡ tables.safe.items
  pub other : words_in file (at_table geometry (other_table tables.flushed)) geometry.zones ≡ tables.other.items

-- more are
abbrev pub IsLimitsFault : Geometry → List Entry → OpenFault → Type 0
IsLimitsFault geometry entries faults.Limits = ¬ AreFew geometry entries
IsLimitsFault geometry entries fault = ⊥

-- The file names this boot, but does not prove the live table. So its zones are those of the last flush.
abbrev pub is_set_back : Geometry → Boot → List ℕ → Bool
is_set_back geometry boot file = is_of_boot boot file && not (proves_live geometry file)

-- All that a system in this boot reads of a file. The entries are what the table that counts says.
pub record IsFound (boot : Boot) (file : List ℕ) (found : Found) : Type 0 where
  pub head : IsHead file found.head
  pub tables : AreTables found.head.geometry file found.tables
  pub entries : found.entries.items ≡ map entry_of (words_in file (at_table found.head.geometry (opened_table found.head.geometry boot file)) found.head.geometry.zones)
  pub words : IsTable found.head.geometry (words_in file (at_table found.head.geometry (opened_table found.head.geometry boot file)) found.head.geometry.zones)
  pub safe : IsTable found.head.geometry found.tables.safe.items
  pub apart : AreApart found.tables.safe.items found.entries.items
  pub summed : AreSummed found.head.geometry file found.tables.safe.items found.entries.items
  pub set_back : found.set_back ≡ is_set_back found.head.geometry boot file

-- the head and the tables are as the file has them
pub record IsRead (file : List ℕ) (found : Found) : Type 0 where
  pub head : IsHead file found.head
  pub tables : AreTables found.head.geometry file found.tables

-- the same, with this boot, and with these words of the live table
abbrev pub with_boot : Found → Boot → Found
with_boot found boot = record found { head = record found.head { boot = boot } }
