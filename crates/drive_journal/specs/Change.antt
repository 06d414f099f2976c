-- A change of a drive, as a file keeps it: a mark, the entry of the command that made it, a sum, the data of the entry,
-- and a sum again. The sums are one checksum that runs through all changes of the file, so each covers all that is
-- before it.
use Rattle.std.specs.Prelude.{◌≡◌, ℕ, suc, ◌-◌, ◌*◌, ◌<◌, ◌≤◌, ◌^◌, nat_lt, take, Bool, true, false, if◌then◌else◌}
use Rattle.std.specs.Prelude.{List, [], ◌∷◌, ◌++◌, length, Result, Ok}
use Rattle.byteorder.specs.Endian.{little_bytes}
use Rattle.sqlite_wal.specs.Format.{checksum}
use Rattle.nvme_wire.specs.Entry.{decode_of}
use Rattle.nvme_wire.specs.declared.command.Command.{Command}
use Rattle.nvme_wire.specs.declared.command.Command.TheVariants.{Write, Append, Send}
use Rattle.nvme_wire.specs.declared.command.DecodeFault.{DecodeFault}
use Rattle.zone_states.specs.declared.geometry.Geometry.{Geometry}

pub record Change : Type 0 where
  pub entry : List ℕ
  pub bytes : List ℕ

-- whether a command that succeeds may change what a drive holds
abbrev pub changes : Result Command DecodeFault → Bool
changes (Ok (Write slba blocks)) = true
changes (Ok (Append zslba blocks)) = true
changes (Ok (Send slba action all)) = true
changes command = false

-- how many blocks of data come with its entry
abbrev pub beside_blocks : Result Command DecodeFault → ℕ
beside_blocks (Ok (Write slba blocks)) = blocks
beside_blocks (Ok (Append zslba blocks)) = blocks
beside_blocks command = 0

-- the bytes that come with an entry, where its command writes them
abbrev pub beside_bytes : Result Command DecodeFault → List ℕ → List ℕ
beside_bytes (Ok (Write slba blocks)) bytes = bytes
beside_bytes (Ok (Append zslba blocks)) bytes = bytes
beside_bytes command bytes = []

abbrev pub change_of : List ℕ → List ℕ → Change
change_of entry bytes = record { entry = entry; bytes = beside_bytes (decode_of entry) bytes }

-- ---- the running sum

-- two words
abbrev pub Sum : Type 0
Sum = ℕ × ℕ

abbrev pub IsSum : Sum → Type 0
IsSum sum = (sum.0 < 2 ^ 32) × (sum.1 < 2 ^ 32)

-- the sum before the first change of a file
abbrev pub start : Sum
start = (0, 0)

-- the sum goes on over bytes
abbrev pub sum_over : Sum → List ℕ → Sum
sum_over sum bytes = checksum false sum bytes

-- the sum after a change, and after changes
abbrev pub next_sum : Sum → Change → Sum
next_sum sum change = sum_over (sum_over sum change.entry) change.bytes

abbrev pub last_sum : Sum → List Change → Sum
last_sum sum [] = sum
last_sum sum (change ∷ changes) = last_sum (next_sum sum change) changes

-- its 8 bytes
unfoldable pub sum_bytes : Sum → List ℕ
sum_bytes sum = little_bytes 4 sum.0 ++ little_bytes 4 sum.1

-- ---- a change of a drive of this shape

-- how many bytes of data come with its entry
abbrev pub data_length : Geometry → List ℕ → ℕ
data_length geometry entry = beside_blocks (decode_of entry) * geometry.block

-- an entry that a change may have
pub record IsEntry (geometry : Geometry) (entry : List ℕ) : Type 0 where
  pub long : length entry ≡ 64
  pub changes : changes (decode_of entry) ≡ true
  pub few : beside_blocks (decode_of entry) ≤ geometry.transfer

pub record IsChange (geometry : Geometry) (change : Change) : Type 0 where
  pub entry : IsEntry geometry change.entry
  pub bytes : length change.bytes ≡ data_length geometry change.entry

-- ---- its bytes

-- `ZNSCHG02`. An image begins with other letters, and the head of a zone has zeros where this has letters. So bytes
-- that come after an image by accident, as the rest of a longer one, begin with it only where somebody wrote it.
abbrev pub mark : List ℕ
mark = 0x5a ∷ 0x4e ∷ 0x53 ∷ 0x43 ∷ 0x48 ∷ 0x47 ∷ 0x30 ∷ 0x32 ∷ []

-- `ZNSCHG01`, with which a change began in the version before
abbrev pub earlier_mark : List ℕ
earlier_mark = 0x5a ∷ 0x4e ∷ 0x53 ∷ 0x43 ∷ 0x48 ∷ 0x47 ∷ 0x30 ∷ 0x31 ∷ []

-- The head of a change that goes on from a sum: the mark, the entry, and the sum after it. So the entry is known
-- without the data.
abbrev pub sealed_entry : Sum → List ℕ → List ℕ
sealed_entry sum entry = entry ++ sum_bytes (sum_over sum entry)

abbrev pub head_bytes : Sum → List ℕ → List ℕ
head_bytes sum entry = mark ++ sealed_entry sum entry

-- the head, the data, and the sum after them
abbrev pub change_bytes : Sum → Change → List ℕ
change_bytes sum change = head_bytes sum change.entry ++ (change.bytes ++ sum_bytes (next_sum sum change))

-- changes, each of which goes on from the sum of the one before
abbrev pub journal_bytes : Sum → List Change → List ℕ
journal_bytes sum [] = []
journal_bytes sum (change ∷ changes) = change_bytes sum change ++ journal_bytes (next_sum sum change) changes

-- what is written for a command that succeeds: its change, or nothing where it changes nothing
abbrev pub written_for : Sum → List ℕ → List ℕ → List ℕ
written_for sum entry bytes = if changes (decode_of entry) then change_bytes sum (change_of entry bytes) else []

-- and the sum after it
abbrev pub sum_for : Sum → List ℕ → List ℕ → Sum
sum_for sum entry bytes = if changes (decode_of entry) then next_sum sum (change_of entry bytes) else sum

-- ---- other bytes

-- no whole change that goes on from this sum is at the front
abbrev pub HasNoChange : Geometry → Sum → List ℕ → Type 0
HasNoChange geometry sum bytes =
    (change : Change) (rest : List ℕ) → IsChange geometry change → bytes ≡ change_bytes sum change ++ rest → ⊥

-- ---- changes that were cut off

-- how many of the changes are whole in the first n of their bytes
abbrev pub whole_in : Sum → ℕ → List Change → ℕ
whole_in sum n [] = 0
whole_in sum n (change ∷ changes) =
    let long = length (change_bytes sum change) in
    if nat_lt n long then 0 else suc (whole_in (next_sum sum change) (n - long) changes)

-- and what there is of the next one
abbrev pub cut_rest : Sum → ℕ → List Change → List ℕ
cut_rest sum n [] = []
cut_rest sum n (change ∷ changes) =
    let long = length (change_bytes sum change) in
    if nat_lt n long then take n (change_bytes sum change) else cut_rest (next_sum sum change) (n - long) changes
