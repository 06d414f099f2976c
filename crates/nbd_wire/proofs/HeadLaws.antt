-- The fields of an encoding are read back.
use Rattle.std.proofs.Common.{◌≡◌, ℕ, List, [], ◌++◌, refl, ◌∙◌}
use Rattle.std.specs.Prelude.{codes}
use Rattle.byteorder.specs.Endian.{big_bytes, big_from}
use Rattle.nbd_wire.specs.Handshake.{FitsHead, option_head_bytes}
use Rattle.nbd_wire.specs.Transmission.{FitsRequest, request_bytes}
use Rattle.nbd_wire.specs.declared.option_head.OptionHead.{OptionHead}
use Rattle.nbd_wire.specs.declared.request.Request.{Request}
use Rattle.nbd_wire.proofs.NumberLaws.{big_from-after}

-- the number of an option is read back from its encoded head
pub option-read : (h : OptionHead) → FitsHead h → big_from 8 4 (option_head_bytes h) ≡ h.option
option-read h fits = big_from-after (codes "IHAVEOPT") (big_bytes 4 h.length) 4 h.option fits.option

-- the length of an option is read back from its encoded head
pub length-read : (h : OptionHead) → FitsHead h → big_from 12 4 (option_head_bytes h) ≡ h.length
length-read h fits = big_from-after (codes "IHAVEOPT" ++ big_bytes 4 h.option) [] 4 h.length fits.length

-- each field of a request is read from its place in these bytes
pub record IsRead (r : Request) (bytes : List ℕ) : Type 0 where
  pub flags : big_from 4 2 bytes ≡ r.flags
  pub code : big_from 6 2 bytes ≡ r.code
  pub cookie : big_from 8 8 bytes ≡ r.cookie
  pub offset : big_from 16 8 bytes ≡ r.offset
  pub length : big_from 24 4 bytes ≡ r.length

-- every field of a request that fits is read back from its encoding
pub request-read : (r : Request) → FitsRequest r → IsRead r (request_bytes r)
request-read r fits =
    let magic = big_bytes 4 0x25609513 in
    let flags = big_bytes 2 r.flags in
    let code = big_bytes 2 r.code in
    let cookie = big_bytes 8 r.cookie in
    let offset = big_bytes 8 r.offset in
    let length = big_bytes 4 r.length in
    record {
      flags = big_from-after magic (code ++ cookie ++ offset ++ length) 2 r.flags fits.flags;
      code = big_from-after (magic ++ flags) (cookie ++ offset ++ length) 2 r.code fits.code;
      cookie = big_from-after (magic ++ flags ++ code) (offset ++ length) 8 r.cookie fits.cookie;
      offset = big_from-after (magic ++ flags ++ code ++ cookie) length 8 r.offset fits.offset;
      length = big_from-after (magic ++ flags ++ code ++ cookie ++ offset) [] 4 r.length fits.length;
    }

-- the fields that are read from the bytes of a request are the request's
pub is_read-same : (r : Request) (bytes : List ℕ) (flags code cookie offset length : ℕ) → IsRead r bytes
    → flags ≡ big_from 4 2 bytes → code ≡ big_from 6 2 bytes → cookie ≡ big_from 8 8 bytes → offset ≡ big_from 16 8 bytes → length ≡ big_from 24 4 bytes
    → ◌≡◌ {A = Request} (record { flags = flags; code = code; cookie = cookie; offset = offset; length = length }) r
is_read-same r bytes flags code cookie offset length is a b c d e =
    let flags_is : flags ≡ r.flags = a ∙ is.flags in
    let code_is : code ≡ r.code = b ∙ is.code in
    let cookie_is : cookie ≡ r.cookie = c ∙ is.cookie in
    let offset_is : offset ≡ r.offset = d ∙ is.offset in
    let length_is : length ≡ r.length = e ∙ is.length in
    rw (flags_is, code_is, cookie_is, offset_is, length_is) refl
