-- What a reply says is one error, and its data.
use Rattle.std.proofs.Common.{◌≡◌, ℕ, List, ◌++◌, drop, refl, ap, sym, ◌∙◌}
use Rattle.std.specs.Prelude.{slice_index}
use Rattle.nbd_wire.specs.Transmission.{error_code, simple_reply_bytes}
use Rattle.nbd_wire.specs.declared.error_code.ErrorCode.{ErrorCode}
use Rattle.nbd_wire.specs.declared.error_code.ErrorCode.TheVariants as errors

-- the error of a reply is the eighth of its bytes
code-byte : (error : ErrorCode) (cookie : ℕ) (xs : List ℕ) → slice_index (simple_reply_bytes error cookie ++ xs) 7 ≡ error_code error
code-byte errors.Success cookie xs = refl
code-byte errors.NotPermitted cookie xs = refl
code-byte errors.Io cookie xs = refl
code-byte errors.NoMemory cookie xs = refl
code-byte errors.Invalid cookie xs = refl
code-byte errors.NoSpace cookie xs = refl
code-byte errors.Overflow cookie xs = refl
code-byte errors.NotSupported cookie xs = refl
code-byte errors.Shutdown cookie xs = refl

-- equal replies say one error
pub same_code : (error other : ErrorCode) (cookie : ℕ) (xs ys : List ℕ) → simple_reply_bytes error cookie ++ xs ≡ simple_reply_bytes other cookie ++ ys → error_code error ≡ error_code other
same_code error other cookie xs ys same = sym (code-byte error cookie xs) ∙ ap (λ bytes. slice_index bytes 7) same ∙ code-byte other cookie ys

-- and have the same data
pub same_data : (error : ErrorCode) (cookie : ℕ) (xs ys : List ℕ) → simple_reply_bytes error cookie ++ xs ≡ simple_reply_bytes error cookie ++ ys → xs ≡ ys
same_data error cookie xs ys same = ap (λ (bytes : List ℕ). drop 16 bytes) same
