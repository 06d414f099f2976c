-- The 64 bytes of a submission queue entry (Base Specification 2.0, section 3.3.3.1), for the six commands of this profile.
use Rattle.std.specs.Prelude.{◌≡◌, ℕ, ◌+◌, ◌-◌, ◌<◌, ◌≤◌, ◌^◌, ◌%◌, ◌==◌, nat_lt, if◌then◌else◌, Bool, true, false}
use Rattle.std.specs.Prelude.{List, [], ◌∷◌, ◌++◌, replicate, slice_index, Option, Some, None, Result, Ok, Err}
use Rattle.byteorder.specs.Endian.{little_from, little_bytes}
use Rattle.nvme_wire.specs.declared.zone_state.ZoneState.TheVariants as states
use Rattle.nvme_wire.specs.declared.command.Action.{Action}
use Rattle.nvme_wire.specs.declared.command.Action.TheVariants.{Close, Finish, Open, Reset, Offline}
use Rattle.nvme_wire.specs.declared.command.ReportingOptions.{ReportingOptions}
use Rattle.nvme_wire.specs.declared.command.ReportingOptions.TheVariants.{AnyState, InState}
use Rattle.nvme_wire.specs.declared.command.Command.{Command}
use Rattle.nvme_wire.specs.declared.command.Command.TheVariants.{Flush, Read, Write, Append, Send, Receive}
use Rattle.nvme_wire.specs.declared.command.DecodeFault.{DecodeFault}
use Rattle.nvme_wire.specs.declared.command.DecodeFault.TheVariants.{Namespace, Field}
use Rattle.nvme_wire.specs.declared.command.DecodeFault.TheVariants as faults
use Rattle.nvme_wire.specs.declared.command.Opcode.{Opcode}
use Rattle.nvme_wire.specs.declared.command.Opcode.TheVariants as opcodes

-- ---- codes

abbrev pub opcode_code : Opcode → ℕ
opcode_code opcodes.Flush = 0x00
opcode_code opcodes.Write = 0x01
opcode_code opcodes.Read = 0x02
opcode_code opcodes.Send = 0x79
opcode_code opcodes.Receive = 0x7a
opcode_code opcodes.Append = 0x7d

abbrev pub opcode_of : ℕ → Option Opcode
opcode_of code =
    if code == 0x00 then Some opcodes.Flush
    else if code == 0x01 then Some opcodes.Write
    else if code == 0x02 then Some opcodes.Read
    else if code == 0x79 then Some opcodes.Send
    else if code == 0x7a then Some opcodes.Receive
    else if code == 0x7d then Some opcodes.Append
    else None

-- the Zone Send Actions
abbrev pub action_code : Action → ℕ
action_code Close = 1
action_code Finish = 2
action_code Open = 3
action_code Reset = 4
action_code Offline = 5

abbrev pub action_of : ℕ → Option Action
action_of code =
    if code == 1 then Some Close
    else if code == 2 then Some Finish
    else if code == 3 then Some Open
    else if code == 4 then Some Reset
    else if code == 5 then Some Offline
    else None

-- the Reporting Options of a Zone Management Receive
abbrev pub options_code : ReportingOptions → ℕ
options_code AnyState = 0
options_code (InState states.Empty) = 1
options_code (InState states.ImplicitlyOpened) = 2
options_code (InState states.ExplicitlyOpened) = 3
options_code (InState states.Closed) = 4
options_code (InState states.Full) = 5
options_code (InState states.ReadOnly) = 6
options_code (InState states.Offline) = 7

abbrev pub options_of : ℕ → Option ReportingOptions
options_of code =
    if code == 0 then Some AnyState
    else if code == 1 then Some (InState states.Empty)
    else if code == 2 then Some (InState states.ImplicitlyOpened)
    else if code == 3 then Some (InState states.ExplicitlyOpened)
    else if code == 4 then Some (InState states.Closed)
    else if code == 5 then Some (InState states.Full)
    else if code == 6 then Some (InState states.ReadOnly)
    else if code == 7 then Some (InState states.Offline)
    else None

abbrev pub bit : Bool → ℕ
bit true = 1
bit false = 0

-- ---- encoding

-- An entry from its opcode, its identifier, its address, and dwords 12 and 13 as four bytes each. The namespace is 1;
-- byte 1 (fused operation, data pointer kind) and all bytes that no field of this profile fills are zero.
abbrev pub entry_with : Opcode → ℕ → ℕ → List ℕ → List ℕ → List ℕ
entry_with opcode id address dword12 dword13 =
    opcode_code opcode ∷ 0 ∷ little_bytes 2 id ++ little_bytes 4 1 ++ replicate 32 0 ++ little_bytes 8 address ++ dword12 ++ dword13 ++ replicate 8 0

abbrev pub none : List ℕ
none = replicate 4 0

-- the number of blocks of a Read, Write or Append, counted from zero, in bits 15:0 of dword 12
abbrev pub block_number : ℕ → List ℕ
block_number blocks = little_bytes 2 (blocks - 1) ++ replicate 2 0

-- the encoding of a command with an identifier
abbrev pub entry_bytes : Command → ℕ → List ℕ
entry_bytes Flush id = entry_with opcodes.Flush id 0 none none
entry_bytes (Read slba blocks) id = entry_with opcodes.Read id slba (block_number blocks) none
entry_bytes (Write slba blocks) id = entry_with opcodes.Write id slba (block_number blocks) none
entry_bytes (Append zslba blocks) id = entry_with opcodes.Append id zslba (block_number blocks) none
entry_bytes (Send slba action all) id = entry_with opcodes.Send id slba none (action_code action ∷ bit all ∷ replicate 2 0)
entry_bytes (Receive slba dwords options partial) id =
    entry_with opcodes.Receive id slba (little_bytes 4 (dwords - 1)) (0 ∷ options_code options ∷ bit partial ∷ 0 ∷ [])

-- the commands that fit in an entry and that the profile admits
abbrev pub IsAdmitted : Command → Type 0
IsAdmitted Flush = Unit {0}
IsAdmitted (Read slba blocks) = (slba < 2 ^ 64) × (1 ≤ blocks) × (blocks ≤ 65536)
IsAdmitted (Write slba blocks) = (slba < 2 ^ 64) × (1 ≤ blocks) × (blocks ≤ 65536)
IsAdmitted (Append zslba blocks) = (zslba < 2 ^ 64) × (1 ≤ blocks) × (blocks ≤ 65536)
IsAdmitted (Send slba Open all) = (slba < 2 ^ 64) × (all ≡ false)
IsAdmitted (Send slba action all) = slba < 2 ^ 64
IsAdmitted (Receive slba dwords options partial) = (slba < 2 ^ 64) × (16 ≤ dwords) × (dwords ≤ 2 ^ 32)

-- ---- the fields, by their bytes

abbrev pub id_of : List ℕ → ℕ
id_of entry = little_from 2 2 entry

abbrev pub namespace_of : List ℕ → ℕ
namespace_of entry = little_from 4 4 entry

abbrev pub address_of : List ℕ → ℕ
address_of entry = little_from 40 8 entry

abbrev pub blocks_field : List ℕ → ℕ
blocks_field entry = little_from 48 2 entry + 1

abbrev pub dwords_of : List ℕ → ℕ
dwords_of entry = little_from 48 4 entry + 1

-- bits 7:0, 15:8, 8 and 16 of dword 13
abbrev pub action_in : List ℕ → ℕ
action_in entry = slice_index entry 52

abbrev pub options_in : List ℕ → ℕ
options_in entry = slice_index entry 53

abbrev pub selects_all : List ℕ → Bool
selects_all entry = slice_index entry 53 % 2 == 1

abbrev pub is_partial : List ℕ → Bool
is_partial entry = slice_index entry 54 % 2 == 1

-- ---- decoding, in the order of the refusals

-- a Zone Management Send: an action that is listed, and no Open of all zones
abbrev pub send_of : Option Action → ℕ → Bool → Result Command DecodeFault
send_of None slba all = Err Field
send_of (Some Open) slba true = Err Field
send_of (Some action) slba all = Ok (Send slba action all)

-- a Zone Management Receive: Report Zones, options that are listed, and a buffer of at least 64 bytes
abbrev pub receive_of : Bool → Option ReportingOptions → Bool → ℕ → ℕ → Bool → Result Command DecodeFault
receive_of false options short slba dwords partial = Err Field
receive_of true None short slba dwords partial = Err Field
receive_of true (Some options) true slba dwords partial = Err Field
receive_of true (Some options) false slba dwords partial = Ok (Receive slba dwords options partial)

abbrev pub decoded : Option Opcode → Bool → List ℕ → Result Command DecodeFault
decoded None one entry = Err faults.Opcode
decoded (Some opcode) false entry = Err Namespace
decoded (Some opcodes.Flush) true entry = Ok Flush
decoded (Some opcodes.Read) true entry = Ok (Read (address_of entry) (blocks_field entry))
decoded (Some opcodes.Write) true entry = Ok (Write (address_of entry) (blocks_field entry))
decoded (Some opcodes.Append) true entry = Ok (Append (address_of entry) (blocks_field entry))
decoded (Some opcodes.Send) true entry = send_of (action_of (action_in entry)) (address_of entry) (selects_all entry)
decoded (Some opcodes.Receive) true entry =
    receive_of (action_in entry == 0) (options_of (options_in entry)) (nat_lt (dwords_of entry) 16) (address_of entry) (dwords_of entry) (is_partial entry)

-- the command of an entry: its opcode is looked at first, then its namespace, then its fields
abbrev pub decode_of : List ℕ → Result Command DecodeFault
decode_of entry = decoded (opcode_of (slice_index entry 0)) (namespace_of entry == 1) entry
