-- What the fields of a descriptor's bytes hold.
use Rattle.std.proofs.Common.{◌≡◌, ℕ, ◌/◌, ◌*◌, ◌∙◌, List, [], Option, Some, refl}
use Rattle.std.specs.Prelude.{slice_index}
use Rattle.byteorder.specs.Endian.{little_from}
use Rattle.byteorder.specs.Numbers.{little_number-reads_back}
use Rattle.nvme_wire.specs.declared.zone_state.ZoneState.{ZoneState}
use Rattle.nvme_wire.specs.declared.zone_state.ZoneState.TheVariants.{Empty, ImplicitlyOpened, ExplicitlyOpened, Closed, ReadOnly, Full, Offline}
use Rattle.nvme_wire.specs.declared.descriptor.Descriptor.{Descriptor}
use Rattle.nvme_wire.specs.Descriptor.{IsDescriptor, IsPointer, descriptor_bytes, pointer_word, state_code, state_of}

-- a state is read back from its code
state_of-code : (state : ZoneState) → state_of (16 * state_code state / 16) ≡ Some state
state_of-code Empty = refl
state_of-code ImplicitlyOpened = refl
state_of-code ExplicitlyOpened = refl
state_of-code Closed = refl
state_of-code ReadOnly = refl
state_of-code Full = refl
state_of-code Offline = refl

-- a state, a capacity, a start and a pointer's word are a descriptor's
pub record HasParts (d : Descriptor) (state : ZoneState) (capacity start word : ℕ) : Type 0 where
  pub state_is : state ≡ d.state
  pub capacity_is : capacity ≡ d.capacity
  pub start_is : start ≡ d.start
  pub word_is : word ≡ pointer_word d.pointer
  pub pointer : IsPointer state start capacity d.pointer

-- the fields of a descriptor's bytes are its own
pub descriptor_bytes-parts :
    (bytes : List ℕ) (d : Descriptor) (state : ZoneState) (capacity start word : ℕ) →
    IsDescriptor d → bytes ≡ descriptor_bytes d →
    Some state ≡ state_of (slice_index bytes 1 / 16) →
    capacity ≡ little_from 8 8 bytes → start ≡ little_from 16 8 bytes → word ≡ little_from 24 8 bytes →
    HasParts d state capacity start word
descriptor_bytes-parts bytes d state capacity start word fits encoded found at_8 at_16 at_24 =
    let code : state_of (slice_index bytes 1 / 16) ≡ Some d.state = rw encoded (state_of-code d.state) in
    let state_is : state ≡ d.state = cc in
    let capacity_is : capacity ≡ d.capacity = at_8 ∙ rw encoded (little_number-reads_back 8 d.capacity [] fits.capacity) in
    let start_is : start ≡ d.start = at_16 ∙ rw encoded (little_number-reads_back 8 d.start [] fits.start) in
    record {
      state_is = state_is;
      capacity_is = capacity_is;
      start_is = start_is;
      word_is = at_24 ∙ rw encoded (little_number-reads_back 8 (pointer_word d.pointer) [] fits.short);
      pointer = rw (state_is, capacity_is, start_is) fits.pointer;
    }

-- with the pointer too, it is the descriptor
pub HasParts-same :
    (d : Descriptor) (state : ZoneState) (capacity start word : ℕ) (pointer : Option ℕ) →
    HasParts d state capacity start word → pointer ≡ d.pointer →
    ◌≡◌ {A = Descriptor} (record { state = state; capacity = capacity; start = start; pointer = pointer }) d
HasParts-same d state capacity start word pointer parts pointer_is = rw (parts.state_is, parts.capacity_is, parts.start_is, pointer_is) refl
