-- A report as text: a line with its number, then one for each descriptor that it shows.
use Rattle.std.specs.Prelude.{◌≡◌, ℕ, ◌<◌, ◌^◌, List, ◌++◌, take, drop, replicate, Option, Some, None, codes, decimal}
use Rattle.std.specs.List.{flat_map, AllByRecursion}
use Rattle.nvme_wire.specs.declared.zone_state.ZoneState.{ZoneState}
use Rattle.nvme_wire.specs.declared.zone_state.ZoneState.TheVariants.{Empty, ImplicitlyOpened, ExplicitlyOpened, Closed, ReadOnly, Full, Offline}
use Rattle.nvme_wire.specs.declared.descriptor.Descriptor.{Descriptor}
use Rattle.nvme_wire.specs.declared.report_head.ReportHead.{ReportHead}
use Rattle.nvme_wire.specs.Descriptor.{IsDescriptor, descriptor_bytes, report_head_bytes}

-- ---- which bytes are a report

-- descriptors one after the other, and zeros after them
pub record IsListing (bytes : List ℕ) (descriptors : List Descriptor) : Type 0 where
  pub each : AllByRecursion IsDescriptor descriptors
  pub rest : ℕ
  pub encoded : bytes ≡ flat_map descriptor_bytes descriptors ++ replicate rest 0

-- a head, and a listing after it
pub record IsReport (bytes : List ℕ) (head : ReportHead) (descriptors : List Descriptor) : Type 0 where
  pub fits : head.zones < 2 ^ 64
  pub begins : take 64 bytes ≡ report_head_bytes head
  pub lists : IsListing (drop 64 bytes) descriptors

-- ---- their text

abbrev pub state_text : ZoneState → List ℕ
state_text Empty = codes "Empty"
state_text ImplicitlyOpened = codes "ImplicitlyOpened"
state_text ExplicitlyOpened = codes "ExplicitlyOpened"
state_text Closed = codes "Closed"
state_text ReadOnly = codes "ReadOnly"
state_text Full = codes "Full"
state_text Offline = codes "Offline"

abbrev pub pointer_text : Option ℕ → List ℕ
pointer_text (Some pointer) = decimal pointer
pointer_text None = codes "-"

abbrev pub head_line : ReportHead → List ℕ
head_line head = codes "zones " ++ decimal head.zones ++ codes "\n"

abbrev pub descriptor_line : Descriptor → List ℕ
descriptor_line d =
    codes "start " ++ decimal d.start
    ++ codes " state " ++ state_text d.state
    ++ codes " pointer " ++ pointer_text d.pointer
    ++ codes " capacity " ++ decimal d.capacity
    ++ codes "\n"

-- a text, and after it the lines of the descriptors in a listing
pub record ListsText (bytes before after : List ℕ) : Type 0 where
  pub descriptors : List Descriptor
  pub lists : IsListing bytes descriptors
  pub lines : after ≡ before ++ flat_map descriptor_line descriptors

abbrev pub report_lines : ReportHead → List Descriptor → List ℕ
report_lines head descriptors = head_line head ++ flat_map descriptor_line descriptors

-- the text of bytes that are a report
pub record IsTextOf (bytes text : List ℕ) : Type 0 where
  pub head : ReportHead
  pub descriptors : List Descriptor
  pub is_report : IsReport bytes head descriptors
  pub lines : text ≡ report_lines head descriptors
