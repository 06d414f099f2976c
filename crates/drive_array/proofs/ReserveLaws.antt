-- Quotients rounded up, and what moves take of a zone.
use Rattle.std.proofs.Common.{◌≡◌, ℕ, ◌+◌, ◌-◌, ◌*◌, ◌^◌, ◌<◌, ◌≤◌, min, inl, inr, arith}
use Rattle.std.specs.Int.{div_ceil}
use Rattle.std.proofs.lemmas.Grind.{div_ceil_times}
use Rattle.std.proofs.lemmas.Nat.{mul-le}
use Rattle.std.proofs.lemmas.Bool.{cases_lt}
use Rattle.std.proofs.Math.Nat.{add-mul, add-div_right, add-mod_right}
use Rattle.zone_states.specs.declared.geometry.Geometry.{Geometry}
use Rattle.zone_states.specs.Geometry.{IsInRange}
use Rattle.drive_array.specs.Reserve.{batch_most, move_blocks, FitsReserve, IsQuota}

-- no more than m batches of k are wanted for at most m * k records
pub div_ceil-le : (a k m : ℕ) → 0 < k → a ≤ m * k → div_ceil a k ≤ m
div_ceil-le a k m pos h = elim (cases_lt m (div_ceil a k)) as (λ _. div_ceil a k ≤ m) [ inl more ↦ absurd (omega (arith, div_ceil_times a k pos, mul-le (m + 1) k (div_ceil a k) k (omega arith) (omega arith), add-mul m 1 k)) | inr le ↦ le ]

-- a quotient rounded up is enough
pub div_ceil-enough : (a k : ℕ) → 0 < k → a ≤ div_ceil a k * k
div_ceil-enough a k pos = (div_ceil_times a k pos).0

-- it rises with the dividend
pub div_ceil-mono : (a b k : ℕ) → 0 < k → a ≤ b → div_ceil a k ≤ div_ceil b k
div_ceil-mono a b k pos h = div_ceil-le a k (div_ceil b k) pos (omega (arith, div_ceil-enough b k pos))

-- it is no 0 unless the dividend is
pub div_ceil-positive : (a k : ℕ) → 0 < k → 0 < a → 0 < div_ceil a k
div_ceil-positive a k pos some =
    elim (cases_lt 0 (div_ceil a k)) as (λ _. 0 < div_ceil a k) [ inl p ↦ p | inr none ↦ absurd (omega (arith, div_ceil-enough a k pos, mul-le (div_ceil a k) k 0 k none (omega arith))) ]

-- a whole batch more
pub div_ceil-add : (a k : ℕ) → 0 < k → div_ceil (a + k) k ≡ div_ceil a k + 1
div_ceil-add a k pos = omega (arith, add-div_right a pos, add-mod_right a k)

-- a last batch
pub div_ceil-last : (a k : ℕ) → 0 < a → a ≤ k → div_ceil a k ≡ 1
div_ceil-last a k some h = omega (arith, div_ceil-le a k 1 (omega arith) (omega arith), div_ceil-positive a k (omega arith) some)

-- of 0 it is 0
pub div_ceil-none : (k : ℕ) → 0 < k → div_ceil 0 k ≡ 0
div_ceil-none k pos = omega (arith, div_ceil-le 0 k 0 pos (omega arith))

-- more records take no fewer blocks
pub fill-mono : (a b k : ℕ) → 0 < k → a ≤ b → move_blocks k a ≤ move_blocks k b
fill-mono a b k pos h = omega (arith, div_ceil-mono a b k pos h)

-- records that fit a zone are no more than its quota
pub fill-quota : (k c q records : ℕ) → 0 < k → move_blocks k q + 2 ≤ c → c < move_blocks k (q + 1) + 2 → move_blocks k records + 2 ≤ c → records ≤ q
fill-quota k c q records pos fits more h =
    elim (cases_lt q records) as (λ _. records ≤ q) [ inl above ↦ absurd (omega (arith, fill-mono (q + 1) records k pos (omega arith))) | inr le ↦ le ]

-- ---- the quota

-- with t headers of k records each, what is left of the room holds that many records
quota-fits : (k room t q : ℕ) → 0 < k → 2 ≤ room → t ≡ div_ceil room (k + 1) → q + t ≡ room → move_blocks k q ≤ room
quota-fits k room t q pos some t-is total =
    let enough : room ≤ t * (k + 1) = rw t-is ((div_ceil_times room (k + 1) (omega arith)).0) in
    let headers : div_ceil q k ≤ t = div_ceil-le q k t pos (omega (arith, enough, mul_add-one t k)) in
    omega (arith, headers)
  where
    mul_add-one : (a b : ℕ) → a * (b + 1) ≡ a * b + a
    mul_add-one a b = omega arith

quota-greatest : (k room t q records : ℕ) → 0 < k → t ≡ div_ceil room (k + 1) → q + t ≡ room → move_blocks k records ≤ room → records ≤ q
quota-greatest k room t q records pos t-is total fits =
    let headers = div_ceil records k in
    let enough : records ≤ headers * k = div_ceil-enough records k pos in
    let few : t * (k + 1) < room + (k + 1) = rw t-is ((div_ceil_times room (k + 1) (omega arith)).1) in
    elim (cases_lt headers t) as (λ _. records ≤ q) [
      | inl less ↦ omega (arith, enough, few, mul-le (headers + 1) k t k (omega arith) (omega arith), add-mul headers 1 k)
      | inr more ↦ omega arith
    ]

-- the quota of a zone, by one division
pub quota-is : (k capacity t q : ℕ) → 0 < k → 4 ≤ capacity → t ≡ div_ceil (capacity - 2) (k + 1) → q + t ≡ capacity - 2 → IsQuota k capacity q
quota-is k capacity t q pos some t-is total = record {
  fits = omega (arith, quota-fits k (capacity - 2) t q pos (omega arith) t-is total);
  greatest = λ records h. quota-greatest k (capacity - 2) t q records pos t-is total (omega arith);
}

-- ---- the greatest number of logical blocks

-- a batch has one entry at least
pub positive-most : (geometry : Geometry) → IsInRange geometry → 1 ≤ batch_most geometry
positive-most geometry range = elim range.block as (λ _. 1 ≤ batch_most geometry) [ inl e ↦ rw e (omega (arith, range.transfer)) | inr e ↦ rw e (omega (arith, range.transfer)) ]

-- a quota is one at least
quota-some : (k capacity q : ℕ) → 0 < k → 4 ≤ capacity → IsQuota k capacity q → 1 ≤ q
quota-some k capacity q pos some is = is.greatest 1 (omega (arith, div_ceil-last 1 k (omega arith) pos))

-- so many logical blocks fit the reserve
pub most-fits : (geometry : Geometry) (q n : ℕ) → 1 ≤ batch_most geometry → 4 ≤ geometry.capacity → 3 ≤ geometry.zones → IsQuota (batch_most geometry) geometry.capacity q → n ≡ min (q * (geometry.zones - 1)) (2 ^ 31) → FitsReserve geometry n
most-fits geometry q n most room zones quota is =
    let some = quota-some (batch_most geometry) geometry.capacity q most room quota in
    let product : 1 * 1 ≤ q * (geometry.zones - 1) = mul-le 1 1 q (geometry.zones - 1) some (omega arith) in
    (omega (arith, is, product), omega (arith, is), (q, quota, omega (arith, is)))
