-- What a disk does for a host.
use Rattle.std.specs.Prelude.{◌≡◌, ◌⊎◌, ℕ, ◌+◌, ◌*◌, ◌<◌, ◌≤◌, nat_lt, if◌then◌else◌, Bool, true, false, List, [], ◌∷◌, ◌++◌}
use Rattle.std.specs.Prelude.{length, slice_index_or, MatchOption, OnOk, Option, Some, None, Result, Ok, Err, ⊤}
use Rattle.logical_map.specs.declared.place.Place.{Place}
use Rattle.logical_map.specs.declared.place.Place.TheVariants as places
use Rattle.zone_translator.specs.Answers.{Answers, AnswersRead, SaysSize, Stores, TakesTurn, count_of_blocks, write_bytes}
use Rattle.zone_translator.specs.Flat.{fill, flush, grow, idle, known_range, trim}
use Rattle.zone_translator.specs.View.{DiskView, disk_places, flat_of}
use Rattle.zone_translator.specs.declared.fault.DiskFault.{DiskFault}
use Rattle.zone_translator.specs.declared.fault.DiskFault.TheVariants.{OutOfMemory}
use Rattle.disk_calls.specs.declared.call.Asked.{Asked}
use Rattle.disk_calls.specs.declared.call.Asked.TheVariants.{Read, Write, Trim, Zero, Extents, Flush, Idle, Grow, Look}
use Rattle.disk_calls.specs.declared.call.CallFault.{CallFault}
use Rattle.disk_calls.specs.declared.call.CallFault.TheVariants.{Disk, TooLong, ReadOnly}
use Rattle.disk_calls.specs.declared.call.Extent.{Extent}
use Rattle.disk_calls.specs.Talk.{Exchange, Passed, Talk, nothing, with_answer}

-- ---- calls that are refused before the disk is asked

-- these blocks have more bytes than one call reads or writes
abbrev pub is_long : DiskView → ℕ → Bool
is_long disk blocks = nat_lt 33554432 (blocks * disk.drive.geometry.block)

abbrev pub too_long : DiskView → ℕ → Option CallFault
too_long disk blocks = if is_long disk blocks then Some TooLong else None

-- what would change a disk that may only be read is refused, and so is a read or a write that is too long
abbrev pub refusal : Bool → DiskView → Asked → Option CallFault
refusal read_only disk (Read first blocks) = too_long disk blocks
refusal false disk (Write first blocks) = too_long disk blocks
refusal true disk (Write first blocks) = Some ReadOnly
refusal true disk (Trim first blocks) = Some ReadOnly
refusal true disk (Zero first blocks) = Some ReadOnly
refusal true disk (Grow blocks) = Some ReadOnly
refusal read_only disk asked = None

-- ---- extents

-- whether the newest record of a block says that it has data
abbrev pub is_data : Place → Bool
is_data (places.At address) = true
is_data place = false

abbrev pub has_data : List Place → ℕ → Bool
has_data all block = is_data (slice_index_or all block places.None)

-- all blocks of an extent are as it says, from a given one on
pub record IsExtent (all : List Place) (first : ℕ) (extent : Extent) : Type 0 where
  pub some : 1 ≤ extent.blocks
  pub alike : (block : ℕ) → first ≤ block → block < first + extent.blocks → has_data all block ≡ extent.has_data

-- so are those of all extents, one after the other
abbrev pub AreExtents : List Place → ℕ → List Extent → Type 0
AreExtents all first [] = ⊤
AreExtents all first (extent ∷ extents) = IsExtent all first extent × AreExtents all (first + extent.blocks) extents

-- how many blocks they have
abbrev pub blocks_told : List Extent → ℕ
blocks_told [] = 0
blocks_told (extent ∷ extents) = extent.blocks + blocks_told extents

-- n blocks from a given one on are told, or the first of them if the host wants no more
pub record TellsExtents (all : List Place) (first n : ℕ) (passed : Passed) : Type 0 where
  pub are : AreExtents all first passed.extents
  pub within : blocks_told passed.extents ≤ n
  pub whole : passed.enough ≡ false → blocks_told passed.extents ≡ n
  pub only : passed ≡ record nothing { extents = passed.extents; enough = passed.enough }

-- A call that names blocks: no block, blocks past the end, and a disk that does not serve are answered as a read of them.
abbrev pub AnswersExtents : DiskView → ℕ → ℕ → Passed → Result (Unit {0}) DiskFault → Type 0
AnswersExtents disk first n passed result = MatchOption (known_range (flat_of disk) first n)
    ((result ≡ Ok tt) × TellsExtents (disk_places disk) first n passed)
    (λ known. (result ≡ known) × (passed ≡ nothing))

-- ---- each call

-- The bytes that the host gave were written, as data. If there was no memory for them, nothing was done.
abbrev pub WritesGiven : DiskView → ℕ → ℕ → Passed → Result (Unit {0}) DiskFault → DiskView → Type 0
WritesGiven old first n passed result new =
    ((result ≡ Err OutOfMemory) × (passed ≡ nothing) × (new ≡ old))
    ⊎ ((length passed.given ≡ n * old.drive.geometry.block) × (passed ≡ record nothing { given = passed.given })
    × Answers old (write_bytes old first passed.given) result new
    × Stores false old first (count_of_blocks old passed.given) result new)

-- nothing was done, and that is no fault
abbrev pub Stays : DiskView → Passed → Result (Unit {0}) DiskFault → DiskView → Type 0
Stays old passed result new = (result ≡ Ok tt) × (passed ≡ nothing) × (new ≡ old)

-- What the disk does for a call that is not refused beforehand. One that may only be read has nothing to flush or to clean.
abbrev pub Does : Bool → DiskView → Asked → Passed → Result (Unit {0}) DiskFault → DiskView → Type 0
Does read_only old (Read first n) passed result new =
    AnswersRead old first n result passed.shown new × (passed ≡ record nothing { shown = passed.shown })
Does read_only old (Write first n) passed result new = WritesGiven old first n passed result new
Does read_only old (Trim first n) passed result new =
    Answers old (trim old.drive.geometry.block first n) result new × Stores true old first n result new × (passed ≡ nothing)
Does read_only old (Zero first n) passed result new =
    Answers old (fill old.drive.geometry.block first n 0) result new × Stores false old first n result new × (passed ≡ nothing)
Does read_only old (Extents first n) passed result new = AnswersExtents old first n passed result × (new ≡ old)
Does true old Flush passed result new = Stays old passed result new
Does false old Flush passed result new = Answers old flush result new × (passed ≡ nothing)
Does true old Idle passed result new = Stays old passed result new
Does false old Idle passed result new = Answers old idle result new × TakesTurn old result new × (passed ≡ nothing)
Does read_only old (Grow n) passed result new = Answers old (grow n) result new × OnOk result (SaysSize old n new) × (passed ≡ nothing)
Does read_only old Look passed result new = (result ≡ Ok tt) × (passed ≡ record nothing { seen = old ∷ [] }) × (new ≡ old)

-- what the host is told of an answer of the disk
abbrev pub told_by : Result (Unit {0}) DiskFault → Result (Unit {0}) CallFault
told_by (Ok done) = Ok tt
told_by (Err fault) = Err (Disk fault)

-- the disk did what the call asks
pub record IsDone (read_only : Bool) (old : DiskView) (exchange : Exchange) (new : DiskView) : Type 0 where
  pub result : Result (Unit {0}) DiskFault
  pub told : exchange.told ≡ told_by result
  pub does : Does read_only old exchange.asked exchange.passed result new

-- A call is refused beforehand, and nothing is done; or it is one call of the disk.
abbrev pub Obeys : Bool → DiskView → Exchange → DiskView → Type 0
Obeys read_only old exchange new = MatchOption (refusal read_only old exchange.asked)
    (IsDone read_only old exchange new)
    (λ fault. (exchange.told ≡ Err fault) × (exchange.passed ≡ nothing) × (new ≡ old))

-- ---- all calls

-- each call is answered by the disk that the one before it left
abbrev pub ObeysAll : Bool → DiskView → List Exchange → DiskView → Type 0
ObeysAll read_only old [] new = new ≡ old
ObeysAll read_only old (exchange ∷ exchanges) new =
    (middle : DiskView) × Obeys read_only old exchange middle × ObeysAll read_only middle exchanges new

-- at the end the disk is flushed, if it may change
abbrev pub Ends : Bool → DiskView → Result (Unit {0}) DiskFault → DiskView → Type 0
Ends true old result new = (result ≡ Ok tt) × (new ≡ old)
Ends false old result new = Answers old flush result new

-- The calls of a host were answered, one after the other, and then the disk was flushed. The host asks for no more, or
-- 2^64 - 1 calls were answered. After the last answer nothing has passed.
pub record Serves (read_only : Bool) (old : DiskView) (was is : Talk) (result : Result (Unit {0}) DiskFault) (new : DiskView) : Type 0 where
  pub calls : List Exchange
  pub past : is.past ≡ with_answer was.past was.asked was.passed (Ok tt) ++ calls
  pub middle : DiskView
  pub obeys : ObeysAll read_only old calls middle
  pub no_more : (is.asked ≡ None) ⊎ (length calls ≡ 18446744073709551615)
  pub silent : is.passed ≡ nothing
  pub ends : Ends read_only middle result new
