-- The bytes of requests and simple replies ("Request message", "Simple reply message", "Request types", "Error values").
use Rattle.std.specs.Prelude.{ℕ, ◌<◌, ◌^◌, ◌==◌, if◌then◌else◌, List, ◌++◌, Option, Some, None}
use Rattle.byteorder.specs.Endian.{big_bytes}
use Rattle.nbd_wire.specs.declared.command.Command.{Command}
use Rattle.nbd_wire.specs.declared.command.Command.TheVariants as commands
use Rattle.nbd_wire.specs.declared.error_code.ErrorCode.{ErrorCode}
use Rattle.nbd_wire.specs.declared.error_code.ErrorCode.TheVariants as errors
use Rattle.nbd_wire.specs.declared.request.Request.{Request}

abbrev pub command_of : ℕ → Option Command
command_of code =
    if code == 0 then Some commands.Read
    else if code == 1 then Some commands.Write
    else if code == 2 then Some commands.Disconnect
    else if code == 3 then Some commands.Flush
    else if code == 4 then Some commands.Trim
    else if code == 6 then Some commands.WriteZeroes
    else None

-- the fields have the widths that the protocol gives them
pub record FitsRequest (request : Request) : Type 0 where
  pub flags : request.flags < 2 ^ 16
  pub code : request.code < 2 ^ 16
  pub cookie : request.cookie < 2 ^ 64
  pub offset : request.offset < 2 ^ 64
  pub length : request.length < 2 ^ 32

-- the head of a request, which the data of a WRITE follow: magic number, command flags, command, cookie, offset, length
abbrev pub request_bytes : Request → List ℕ
request_bytes r = big_bytes 4 0x25609513 ++ big_bytes 2 r.flags ++ big_bytes 2 r.code ++ big_bytes 8 r.cookie ++ big_bytes 8 r.offset ++ big_bytes 4 r.length

abbrev pub error_code : ErrorCode → ℕ
error_code errors.Success = 0
error_code errors.NotPermitted = 1
error_code errors.Io = 5
error_code errors.NoMemory = 12
error_code errors.Invalid = 22
error_code errors.NoSpace = 28
error_code errors.Overflow = 75
error_code errors.NotSupported = 95
error_code errors.Shutdown = 108

-- the head of a simple reply, which the data of a READ that is done follow: magic number, error, cookie
abbrev pub simple_reply_bytes : ErrorCode → ℕ → List ℕ
simple_reply_bytes error cookie = big_bytes 4 0x67446698 ++ big_bytes 4 (error_code error) ++ big_bytes 8 cookie
