-- What one block is given as, by the slot of its newest record.
use Rattle.std.specs.Prelude.{◌≡◌, ℕ, suc, ◌<◌, ◌^◌, Bool, true, false, List, [], ◌∷◌, ◌++◌, length, replicate, Option, Some, None, IfSome}
use Rattle.std.specs.Io.KnownBytes.{Appends, Keeps}
use Rattle.disk_files.specs.Output.{AppendsFront}
use Rattle.drive_rescue.specs.declared.fault.RescueFault.{RescueFault}
use Rattle.drive_rescue.specs.declared.fault.RescueFault.TheVariants as faults
use Rattle.drive_rescue.specs.declared.giving.Rescued.{Rescued}
use Rattle.drive_rescue.specs.declared.search.Search.{Search}
use Rattle.drive_rescue.specs.declared.table.Slot.{Slot}
use Rattle.drive_rescue.specs.Holding.{HoldsFinding}
use Rattle.drive_rescue.specs.Notes.{slot_at}
use Rattle.drive_rescue.specs.Rescue.{Finds, Gives, GivesBlocks, GivesFront, SourceView, WritesFront}
use Rattle.drive_rescue.specs.Searching.{Finding, found_records}
use Rattle.drive_rescue.specs.Zones.{block_with, read_zones, zone_with}

-- the block where the data is can be asked for
abbrev pub FitsSlot : SourceView → Option Slot → Type 0
FitsSlot source slot =
    IfSome slot (λ (s : Slot). s.trim ≡ false → s.offset < length (zone_with (read_zones source.drive) s.zone).blocks)

abbrev pub AllFit : SourceView → List (Option Slot) → Type 0
AllFit source table = (block : ℕ) → block < 2 ^ 31 → FitsSlot source (slot_at table block)

abbrev pub zeros_of : SourceView → List ℕ
zeros_of source = replicate source.drive.geometry.block 0

-- of a record that is a trim or not
abbrev pub GivesData : SourceView → Slot → Bool → Bool → List ℕ → Type 0
GivesData source slot true is_lost bytes = (is_lost ≡ false) × (bytes ≡ zeros_of source)
GivesData source slot false false bytes = bytes ≡ block_with (read_zones source.drive) slot.zone slot.offset
GivesData source slot false true bytes = (source.damaged slot.zone slot.offset ≡ true) × (bytes ≡ zeros_of source)

-- the bytes that are given of a block, and whether it is lost
abbrev pub GivesBlock : SourceView → Option Slot → Bool → List ℕ → Type 0
GivesBlock source None is_lost bytes = (is_lost ≡ false) × (bytes ≡ zeros_of source)
GivesBlock source (Some slot) is_lost bytes = GivesData source slot slot.trim is_lost bytes

abbrev pub slot_newness : Option Slot → ℕ
slot_newness None = 0
slot_newness (Some slot) = slot.sequence

abbrev pub only_if : Bool → ℕ → List ℕ
only_if true block = block ∷ []
only_if false block = []

-- What a search found is kept.
pub record IsKept (source : SourceView) (search : Search) (finding : Finding) : Type 0 where
  pub finds : Finds source finding
  pub holds : HoldsFinding search finding

pub record FindsHeld (source : SourceView) (search : Search) : Type 0 where
  pub finding : Finding
  pub kept : IsKept source search finding

-- the blocks that are given already, by these bytes
abbrev pub Gave : SourceView → Finding → Rescued → List ℕ → Type 0
Gave source finding rescued bytes = GivesBlocks source.damaged source.drive.geometry.block finding rescued bytes

-- Some bytes more are written, and one block more is given.
pub record GivesMore (source : SourceView) (finding : Finding) (rescued : Rescued) (bytes : List ℕ) (written contents : Option (List ℕ)) : Type 0 where
  pub more : List ℕ
  pub gave : Gave source finding rescued (bytes ++ more)
  pub appends : Appends written contents more

-- A beginning of the next block is written.
pub record GivesPart (source : SourceView) (finding : Finding) (n : ℕ) (bytes : List ℕ) (written contents : Option (List ℕ)) : Type 0 where
  pub more : List ℕ
  pub lost : List ℕ
  pub gives : Gives source.damaged source.drive.geometry.block (found_records finding.found) (suc n) (bytes ++ more) lost
  pub appends : AppendsFront written contents more

-- Why the next block is not given.
abbrev pub StepFails : SourceView → Search → Rescued → Option (List ℕ) → Option (List ℕ) → RescueFault → Type 0
StepFails source search rescued written contents faults.Limits = ⊥
StepFails source search rescued written contents (faults.Halted halt) = Keeps written contents
StepFails source search rescued written contents faults.Output =
    (finding : Finding) (bytes : List ℕ) → IsKept source search finding → Gave source finding rescued bytes
    → GivesPart source finding rescued.blocks bytes written contents

-- All blocks are given.
pub record GivesAll (source : SourceView) (finding : Finding) (rescued : Rescued) (written contents : Option (List ℕ)) : Type 0 where
  pub bytes : List ℕ
  pub gave : Gave source finding rescued bytes
  pub appends : Appends written contents bytes

-- Only the first ones are given.
abbrev pub GiveFails : SourceView → Option (List ℕ) → Option (List ℕ) → RescueFault → Type 0
GiveFails source written contents faults.Limits = ⊥
GiveFails source written contents (faults.Halted halt) = WritesFront source written contents
GiveFails source written contents faults.Output =
    (n : ℕ) × (bytes : List ℕ) × GivesFront source n bytes × AppendsFront written contents bytes
