-- The bytes of a number that bytes hold are these bytes.
use Rattle.std.proofs.Common.{◌≡◌, ℕ, zero, suc, ◌+◌, ◌*◌, ◌/◌, ◌%◌, ◌<◌, ◌≤◌, ◌^◌, List, [], ◌∷◌, ◌++◌, length, take, drop, get_or, refl, sym, ap, ◌∙◌, arith}
use Rattle.std.specs.Int.{byte_at, bytes_low_first}
use Rattle.std.specs.List.{AllByRecursion}
use Rattle.std.proofs.Math.Nat.{div-div-eq-div-mul, div-one, pow-succ'}
use Rattle.std.proofs.lemmas.List.{drop-drop, length-drop, take-append-drop}
use Rattle.byteorder.specs.Endian.{little_from}
use Rattle.byteorder.specs.Numbers.{little_from-cons}
use Rattle.batch_log.specs.Reading.{number_at}

-- each number is a byte
abbrev pub AreBytes : List ℕ → Type 0
AreBytes xs = AllByRecursion (λ (b : ℕ). b < 256) xs

-- they are bytes if each one is
pub bytes-all : (xs : List ℕ) → ((k : ℕ) → get_or xs k 0 < 256) → AreBytes xs
bytes-all [] h = tt
bytes-all (x ∷ xs) h = (h 0, bytes-all xs (λ k. h (suc k)))

-- what is left of bytes are bytes
pub drop-bytes : (n : ℕ) (xs : List ℕ) → AreBytes xs → AreBytes (drop n xs)
drop-bytes zero xs all = all
drop-bytes (suc n) [] all = tt
drop-bytes (suc n) (x ∷ xs) all = drop-bytes n xs all.1

byte_at-pow : (i x : ℕ) → byte_at i x ≡ x / 256 ^ i % 256
byte_at-pow zero x = ap (λ (y : ℕ). y % 256) (sym (div-one x))
byte_at-pow (suc i) x = refl

-- the bytes above the lowest are the bytes of the number without it
byte_above : (i b r : ℕ) → b < 256 → byte_at (suc i) (b + 256 * r) ≡ byte_at i r
byte_above i b r lt =
    let low : (b + 256 * r) / 256 ≡ r = omega arith in
    let split : (b + 256 * r) / 256 ^ suc i ≡ r / 256 ^ i =
    ap (λ (p : ℕ). (b + 256 * r) / p) (pow-succ' 256 i) ∙ sym (div-div-eq-div-mul (b + 256 * r) 256 (256 ^ i)) ∙ ap (λ (q : ℕ). q / 256 ^ i) low in
    ap (λ (q : ℕ). q % 256) split ∙ sym (byte_at-pow i r)

bytes_above : (n i b r : ℕ) → b < 256 → bytes_low_first (suc i) n (b + 256 * r) ≡ bytes_low_first i n r
bytes_above zero i b r lt = refl
bytes_above (suc n) i b r lt = rw (byte_above i b r lt, bytes_above n (suc i) b r lt) refl

-- the bytes of a number that was read are those that it was read from
number_again : (n : ℕ) (xs : List ℕ) → n ≤ length xs → AreBytes xs → bytes_low_first 0 n (little_from 0 n xs) ≡ take n xs
number_again zero xs le all = refl
number_again (suc n) [] le all = absurd (omega arith)
number_again (suc n) (x ∷ xs) le all =
    let rest = number_again n xs (omega arith) all.1 in
    let moved : little_from 1 n (x ∷ xs) ≡ little_from 0 n xs = little_from-cons 0 n x xs in
    let first : (x + 256 * little_from 0 n xs) % 256 ≡ x = omega (arith, all.0) in
    rw (moved, first, bytes_above n 0 x (little_from 0 n xs) all.0, rest) refl

-- a number of n bytes is below 256 to the power of n
pub number-below : (n : ℕ) (xs : List ℕ) → AreBytes xs → little_from 0 n xs < 256 ^ n
number-below zero xs all = omega arith
number-below (suc n) [] all =
    let rest = number-below n [] tt in
    let none : little_from 1 n [] ≡ little_from 0 n [] = moved 0 1 n in
    rw (pow-succ' 256 n, none) (omega (arith, rest))
  where
    moved : (i j m : ℕ) → little_from j m [] ≡ little_from i m []
    moved i j zero = refl
    moved i j (suc m) = ap (λ (r : ℕ). 0 + 256 * r) (moved (suc i) (suc j) m)
number-below (suc n) (x ∷ xs) all =
    let rest = number-below n xs all.1 in
    let first = all.0 in
    rw (pow-succ' 256 n, little_from-cons 0 n x xs) (omega (arith, rest, first))

-- bytes, cut off in front
pub number_in_front : (place n more : ℕ) (xs : List ℕ) → more ≡ place + n → more ≤ length xs → AreBytes xs → drop place xs ≡ bytes_low_first 0 n (number_at place n xs) ++ drop more xs
number_in_front place n more xs e le all =
    let again = number_again n (drop place xs) (omega (arith, length-drop place xs)) (drop-bytes place xs all) in
    rw again (sym (ap (λ (ys : List ℕ). take n (drop place xs) ++ ys) (sym (drop-drop n place xs ∙ ap (λ (k : ℕ). drop k xs) (sym e))) ∙ take-append-drop n (drop place xs)))
