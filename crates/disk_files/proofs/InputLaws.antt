-- Bytes that are read part by part.
use Rattle.std.proofs.Common.{◌≡◌, ℕ, ◌+◌, ◌<◌, ◌≤◌, Ok, Err, List, [], ◌++◌, length, take, Option, Some, None, Result, ap, sym, subst, ◌∙◌, arith}
use Rattle.std.specs.Prelude.{IfErr, IfSome, IsErrAnd}
use Rattle.std.specs.Io.KnownBytes.{Consumes, IsAtEnd, Keeps}
use Rattle.std.proofs.KnownBytes.{Consumes-kept, Consumes-trans}
use Rattle.std.proofs.Math.Seq.{take-append-add}
use Rattle.std.proofs.lemmas.List.{append-nil, length-append, length-take, take-append-le, take_all}
use borrow.Rule.Slice.PartMut.{put_mid, post_of}
use Rattle.disk_files.specs.Input.{Drops, DropsFewer}

-- some bytes are dropped, and then more
pub drops-more : (old middle new : Option (List ℕ)) (m n k : ℕ) (bytes : List ℕ) → Drops old middle m → Consumes middle new bytes → length bytes ≡ n → k ≡ m + n → Drops old new k
drops-more old middle new m n k bytes first more count sum = record {
  bytes = first.bytes ++ bytes;
  count = omega (arith, length-append first.bytes bytes, first.count);
  consumes = Consumes-trans old middle new first.bytes bytes first.consumes more;
}

-- some bytes are dropped, and then fewer than were to come
pub fewer-after : (old middle new : Option (List ℕ)) (m n k : ℕ) → Drops old middle m → DropsFewer middle new n → m + n ≤ k → DropsFewer old new k
fewer-after old middle new m n k first more within = record {
  bytes = first.bytes ++ more.bytes;
  fewer = omega (arith, length-append first.bytes more.bytes, first.count, more.fewer);
  consumes = Consumes-trans old middle new first.bytes more.bytes first.consumes more.consumes;
}

-- a part of a buffer is filled, and no more comes
pub fewer-kept : (old middle new : Option (List ℕ)) (a n : ℕ) (buffer : List ℕ) → Consumes old middle (take a buffer) → a ≤ length buffer → a < n → Keeps middle new → DropsFewer old new n
fewer-kept old middle new a n buffer first within short kept = record {
  bytes = take a buffer;
  fewer = omega (arith, length-take a buffer);
  consumes = Consumes-kept old middle new (take a buffer) first kept;
}

-- a buffer that was filled was read
pub all-read : (old new : Option (List ℕ)) (n count : ℕ) (buffer : List ℕ) → Consumes old new (take n buffer) → length buffer ≡ count → count ≤ n → Consumes old new buffer
all-read old new n count buffer text long full = subst (Consumes old new) (take_all n buffer (omega (arith, long, full))) text

-- the reader ended before the buffer was full: that many bytes were left
pub few-left : (old new : Option (List ℕ)) (n count : ℕ) (buffer : List ℕ) → Consumes old new (take n buffer) → length buffer ≡ count → n < count → (n < length buffer → IsAtEnd new) → IfSome old (λ bytes. length bytes ≡ n)
few-left None new n count buffer text long short ended = tt
few-left (Some xs) None n count buffer text long short ended = absurd text
few-left (Some xs) (Some ys) n count buffer text long short ended =
    let none : ys ≡ [] = ended (omega (arith, long, short)) in
    omega (arith, ap (λ (l : List ℕ). length l) (text ∙ ap (λ (l : List ℕ). take n buffer ++ l) none ∙ append-nil (take n buffer)), length-take n buffer, long, short)

taken_after : (a n : ℕ) (front ys post : List ℕ) → length front ≡ a → n ≤ length ys → take (a + n) (front ++ (ys ++ post)) ≡ front ++ take n ys
taken_after a n front ys post long fits = rw (← long) (take-append-add front (ys ++ post) n ∙ ap (λ zs. front ++ zs) (take-append-le n ys post fits))

-- the first bytes of a buffer, and those that were read after them
pub filled : (a k n : ℕ) (xs ys : List ℕ) → a ≤ length xs → n ≤ length ys → take (a + n) (put_mid a k xs ys) ≡ take a xs ++ take n ys
filled a k n xs ys within fits = taken_after a n (take a xs) ys (post_of a k xs) (omega (arith, length-take a xs)) fits

-- a fault that is handed on
pub if-fault : {T E : Type 0} (r : Result T E) (fault : E) (P : E → Type 0) → IsErrAnd r (λ e. e ≡ fault) → P fault → IfErr r P
if-fault (Ok x) fault P is p = tt
if-fault (Err e) fault P is p = subst P (sym is) p
