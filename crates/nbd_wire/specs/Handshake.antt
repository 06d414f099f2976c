-- The bytes of the fixed newstyle handshake ("Newstyle negotiation", "Fixed newstyle negotiation", "Option types", "Option reply types").
use Rattle.std.specs.Prelude.{ℕ, ◌+◌, ◌<◌, ◌^◌, ◌==◌, if◌then◌else◌, Bool, true, false, List, [], ◌++◌, codes, length, replicate, Option, Some, None}
use Rattle.byteorder.specs.Endian.{big_bytes}
use Rattle.nbd_wire.specs.declared.client_flags.ClientFlags.{ClientFlags}
use Rattle.nbd_wire.specs.declared.option_head.OptionHead.{OptionHead}
use Rattle.nbd_wire.specs.declared.option_kind.OptionKind.{OptionKind}
use Rattle.nbd_wire.specs.declared.option_kind.OptionKind.TheVariants.{ExportName, Abort, ListExports, Info, Go}
use Rattle.nbd_wire.specs.declared.reply_kind.ReplyKind.{ReplyKind}
use Rattle.nbd_wire.specs.declared.reply_kind.ReplyKind.TheVariants as replies
use Rattle.nbd_wire.specs.declared.export.Export.{Export}

-- ---- the greeting, and the client's flags

-- what a server says first: two magic numbers, and the handshake flags FIXED_NEWSTYLE and NO_ZEROES
abbrev pub greeting : List ℕ
greeting = codes "NBDMAGIC" ++ codes "IHAVEOPT" ++ big_bytes 2 3

abbrev pub bit_of : ℕ → Bool → ℕ
bit_of weight true = weight
bit_of weight false = 0

-- what a client says first: the flags C_FIXED_NEWSTYLE and C_NO_ZEROES, and no other
abbrev pub client_flags_bytes : ClientFlags → List ℕ
client_flags_bytes flags = big_bytes 4 (bit_of 1 flags.fixed + bit_of 2 flags.no_zeroes)

-- ---- options

abbrev pub option_of : ℕ → Option OptionKind
option_of code =
    if code == 1 then Some ExportName
    else if code == 2 then Some Abort
    else if code == 3 then Some ListExports
    else if code == 6 then Some Info
    else if code == 7 then Some Go
    else None

-- the fields have the widths that the protocol gives them
pub record FitsHead (head : OptionHead) : Type 0 where
  pub option : head.option < 2 ^ 32
  pub length : head.length < 2 ^ 32

-- what an option begins with: a magic number, the option, how many bytes of data follow
abbrev pub option_head_bytes : OptionHead → List ℕ
option_head_bytes head = codes "IHAVEOPT" ++ big_bytes 4 head.option ++ big_bytes 4 head.length

-- ---- replies to options

abbrev pub reply_code : ReplyKind → ℕ
reply_code replies.Acknowledge = 1
reply_code replies.Server = 2
reply_code replies.Info = 3
reply_code replies.Unsupported = 2 ^ 31 + 1
reply_code replies.Invalid = 2 ^ 31 + 3

-- what a reply to an option begins with: a magic number, the option, the kind of reply, how many bytes of data follow
abbrev pub reply_head_bytes : ℕ → ReplyKind → ℕ → List ℕ
reply_head_bytes option kind length = big_bytes 8 0x3e889045565a9 ++ big_bytes 4 option ++ big_bytes 4 (reply_code kind) ++ big_bytes 4 length

-- a reply with these data
abbrev pub option_reply : ℕ → ReplyKind → List ℕ → List ℕ
option_reply option kind bytes = reply_head_bytes option kind (length bytes) ++ bytes

-- the replies to a LIST: one export, whose name is empty, and that this is all
abbrev pub list_reply : ℕ → List ℕ
list_reply option = option_reply option replies.Server (big_bytes 4 0) ++ option_reply option replies.Acknowledge []

-- ---- what is told of an export

-- the transmission flags HAS_FLAGS, SEND_FLUSH, SEND_FUA, SEND_TRIM and SEND_WRITE_ZEROES, and READ_ONLY of an export that is read only
abbrev pub transmission_flags : Export → ℕ
transmission_flags export = 1 + 4 + 8 + 32 + 64 + bit_of 2 export.read_only

-- INFO_EXPORT: the size and the transmission flags
abbrev pub export_info : Export → List ℕ
export_info export = big_bytes 2 0 ++ big_bytes 8 export.size ++ big_bytes 2 (transmission_flags export)

-- INFO_BLOCK_SIZE: the minimum, the preferred and the maximum
abbrev pub block_info : Export → List ℕ
block_info export = big_bytes 2 3 ++ big_bytes 4 export.minimum ++ big_bytes 4 export.preferred ++ big_bytes 4 export.maximum

-- the replies to INFO and GO: both pieces of information, and that this is all
abbrev pub info_replies : ℕ → Export → List ℕ
info_replies option export =
    option_reply option replies.Info (export_info export) ++ option_reply option replies.Info (block_info export) ++ option_reply option replies.Acknowledge []

-- the reply to an EXPORT_NAME, which has no head, and 124 zeroes unless the client wants none
abbrev pub name_reply : Export → Bool → List ℕ
name_reply export true = big_bytes 8 export.size ++ big_bytes 2 (transmission_flags export)
name_reply export false = big_bytes 8 export.size ++ big_bytes 2 (transmission_flags export) ++ replicate 124 0
