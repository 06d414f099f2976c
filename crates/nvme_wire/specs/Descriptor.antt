-- The parts of a zone report: its head and a zone descriptor, 64 bytes each (Zoned Namespace Command Set 1.1, section 3.4.2).
use Rattle.std.specs.Prelude.{◌≡◌, ℕ, ◌+◌, ◌-◌, ◌*◌, ◌<◌, ◌≤◌, ◌^◌, ◌==◌, if◌then◌else◌, List, ◌∷◌, ◌++◌, replicate, Option, Some, None}
use Rattle.byteorder.specs.Endian.{little_bytes}
use Rattle.nvme_wire.specs.declared.zone_state.ZoneState.{ZoneState}
use Rattle.nvme_wire.specs.declared.zone_state.ZoneState.TheVariants.{Empty, ImplicitlyOpened, ExplicitlyOpened, Closed, ReadOnly, Full, Offline}
use Rattle.nvme_wire.specs.declared.descriptor.Descriptor.{Descriptor}
use Rattle.nvme_wire.specs.declared.report_head.ReportHead.{ReportHead}

-- the Zone State field
abbrev pub state_code : ZoneState → ℕ
state_code Empty = 0x1
state_code ImplicitlyOpened = 0x2
state_code ExplicitlyOpened = 0x3
state_code Closed = 0x4
state_code ReadOnly = 0xd
state_code Full = 0xe
state_code Offline = 0xf

abbrev pub state_of : ℕ → Option ZoneState
state_of code =
    if code == 0x1 then Some Empty
    else if code == 0x2 then Some ImplicitlyOpened
    else if code == 0x3 then Some ExplicitlyOpened
    else if code == 0x4 then Some Closed
    else if code == 0xd then Some ReadOnly
    else if code == 0xe then Some Full
    else if code == 0xf then Some Offline
    else None

-- the write pointer: at the start of an Empty zone, within the capacity of an active one, and all ones (here none) elsewhere
abbrev pub IsPointer : ZoneState → ℕ → ℕ → Option ℕ → Type 0
IsPointer Empty start capacity pointer = pointer ≡ Some start
IsPointer ImplicitlyOpened start capacity (Some pointer) = (start ≤ pointer) × (pointer < start + capacity)
IsPointer ImplicitlyOpened start capacity None = ⊥
IsPointer ExplicitlyOpened start capacity (Some pointer) = (start ≤ pointer) × (pointer < start + capacity)
IsPointer ExplicitlyOpened start capacity None = ⊥
IsPointer Closed start capacity (Some pointer) = (start ≤ pointer) × (pointer < start + capacity)
IsPointer Closed start capacity None = ⊥
IsPointer state start capacity pointer = pointer ≡ None

abbrev pub pointer_word : Option ℕ → ℕ
pointer_word (Some pointer) = pointer
pointer_word None = 2 ^ 64 - 1

-- what a descriptor can say
pub record IsDescriptor (d : Descriptor) : Type 0 where
  pub capacity : d.capacity < 2 ^ 64
  pub start : d.start < 2 ^ 64
  pub short : pointer_word d.pointer < 2 ^ 64
  pub pointer : IsPointer d.state d.start d.capacity d.pointer

-- the encoding: type 2h (sequential write required), the state in bits 7:4 of byte 1, no attributes
abbrev pub descriptor_bytes : Descriptor → List ℕ
descriptor_bytes d =
    2 ∷ 16 * state_code d.state ∷ replicate 6 0
    ++ little_bytes 8 d.capacity ++ little_bytes 8 d.start ++ little_bytes 8 (pointer_word d.pointer) ++ replicate 32 0

-- the encoding of a report's head: the number of zones
abbrev pub report_head_bytes : ReportHead → List ℕ
report_head_bytes head = little_bytes 8 head.zones ++ replicate 56 0
