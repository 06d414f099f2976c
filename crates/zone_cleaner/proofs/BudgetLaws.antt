-- How much room a clean needs, and how many turns are left.
use Rattle.std.proofs.Common.{◌≡◌, ℕ, zero, suc, ◌+◌, ◌*◌, ◌<◌, ◌≤◌, max, refl, ap, ◌∙◌, inl, inr, arith}
use Rattle.std.specs.Int.{div_ceil}
use Rattle.std.proofs.lemmas.Bool.{cases_lt}
use Rattle.drive_array.specs.Reserve.{move_blocks}
use Rattle.std.proofs.Math.Nat.{add-mul, mul-le-mul_right}
use Rattle.drive_array.proofs.ReserveLaws.{div_ceil-add, div_ceil-last, div_ceil-mono, div_ceil-none, div_ceil-positive}
use Rattle.zone_cleaner.specs.Clean.{HasRoomFor, moves_due}

unwritten-some : (written : ℕ) → 0 < written → moves_due written ≡ 0
unwritten-some zero some = absurd (omega arith)
unwritten-some (suc written) some = refl

move-counts : (k g u d m used c : ℕ) → 0 < k → g ≤ k → d ≤ g → (0 < u → g ≡ k) → (m ≡ 0 → 0 < g) → used + max m (u + g + div_ceil (u + g) k) + 2 ≤ c
    → (div_ceil u k < max m (div_ceil (u + g) k)) × (used + (1 + d) + (u + div_ceil u k) + 2 ≤ c)
move-counts k g u d m used c pos few least whole some room = elim (cases_lt 0 u) as (λ _. (div_ceil u k < max m (div_ceil (u + g) k)) × (used + (1 + d) + (u + div_ceil u k) + 2 ≤ c)) [
  | inl more ↦ (let one : div_ceil (u + g) k ≡ div_ceil u k + 1 = ap (λ (x : ℕ). div_ceil (u + x) k) (whole more) ∙ div_ceil-add u k pos in (omega (arith, one), omega (arith, one)))
  | inr none ↦ (
      let nothing : u ≡ 0 = omega arith in
      let alone : u + g ≡ g = omega arith in
      let left : div_ceil u k ≡ 0 = ap (λ (x : ℕ). div_ceil x k) nothing ∙ div_ceil-none k pos in
      elim (cases_lt 0 g) as (λ _. (div_ceil u k < max m (div_ceil (u + g) k)) × (used + (1 + d) + (u + div_ceil u k) + 2 ≤ c)) [
        | inl one ↦ (let last : div_ceil (u + g) k ≡ 1 = ap (λ (x : ℕ). div_ceil x k) alone ∙ div_ceil-last g k one few in (omega (arith, left, last), omega (arith, left, last)))
        | inr empty ↦ (let first : 0 < m = elim (cases_lt 0 m) as (λ _. 0 < m) [ inl p ↦ p | inr p ↦ absurd (omega (arith, some (omega arith))) ] in (omega (arith, left, first), omega (arith, left, first)))
      ]
      )
]

-- What is left after a Move of g records, d of them data, where u were not taken yet: fewer Moves, and room for these.
pub record AfterMove (c k written moved u g : ℕ) : Type 0 where
  pub fewer : max (moves_due moved) (div_ceil u k) < max (moves_due written) (div_ceil (u + g) k)
  pub room : HasRoomFor c k moved u

-- there is room for the records that are left after a Move
pub after-move : (c k written moved u g d : ℕ) → 0 < k → g ≤ k → d ≤ g → (0 < u → g ≡ k) → (0 < written → 0 < g) → moved ≡ written + (1 + d) → HasRoomFor c k written (u + g) → AfterMove c k written moved u g
after-move c k written moved u g d pos few least whole some is room =
    let none : moves_due moved ≡ 0 = unwritten-some moved (omega (arith, is)) in
    let counts = move-counts k g u d (moves_due written) written c pos few least whole first room in
    record { fewer = omega (arith, none, counts.0); room = omega (arith, none, is, counts.1) }
  where
    first : moves_due written ≡ 0 → 0 < g
    first = by written refl
      where
        by : (w : ℕ) → written ≡ w → moves_due w ≡ 0 → 0 < g
        by zero e none = absurd (omega arith)
        by (suc w) e none = some (omega (arith, e))

-- fewer records take no more room
pub fewer-room : (c k written more fewer : ℕ) → 0 < k → fewer ≤ more → HasRoomFor c k written more → HasRoomFor c k written fewer
fewer-room c k written more fewer pos le room = omega (arith, le, room, div_ceil-mono fewer more k pos le)

-- a clean that begins
pub start-room : (c k r : ℕ) → move_blocks k r + 2 ≤ c → HasRoomFor c k 0 r
start-room c k r fits = omega (arith, fits)

-- of a clean that runs fewer turns are left than a zone has blocks
unwritten-few : (written : ℕ) → moves_due written ≤ 1
unwritten-few zero = omega arith
unwritten-few (suc written) = omega arith

-- the turns of a clean are fewer than the capacity
pub few-turns : (c k used u r : ℕ) → 0 < k → u ≤ r → HasRoomFor c k used r → u + max (moves_due used) (div_ceil r k) + 1 + 1 ≤ c
few-turns c k used u r pos le room = elim (cases_lt 0 r) as (λ _. u + max (moves_due used) (div_ceil r k) + 1 + 1 ≤ c) [
  | inl some ↦ omega (arith, le, room, unwritten-few used, div_ceil-positive r k pos some)
  | inr none ↦ omega (arith, le, none, room)
]

-- and so are those of one that starts
pub start-turns : (c k r : ℕ) → 0 < k → move_blocks k r + 2 ≤ c → r + max (moves_due 0) (div_ceil r k) + 1 + 1 ≤ c
start-turns c k r pos fits = elim (cases_lt 0 r) as (λ _. r + max (moves_due 0) (div_ceil r k) + 1 + 1 ≤ c) [
  | inl some ↦ omega (arith, fits, div_ceil-positive r k pos some)
  | inr none ↦ omega (arith, fits)
]

-- ---- rounds of turns

-- a round more
pub round-more : (n cost now old next : ℕ) → now + 2 * n ≤ old + n * cost → next + 2 ≤ now + cost → next + 2 * (n + 1) ≤ old + (n + 1) * cost
round-more n cost now old next so_far more = let suc-times : (n + 1) * cost ≡ n * cost + 1 * cost = add-mul n 1 cost in omega (arith, so_far, more, suc-times)

-- a round of as many as there are zones, at most
pub rounds-most : (n zones cost now old next : ℕ) → n < zones → now + 2 * n ≤ old + n * cost → next + 2 ≤ now + cost → next + 2 ≤ old + zones * cost
rounds-most n zones cost now old next few so_far more =
    let all : (n + 1) * cost ≤ zones * cost = mul-le-mul_right cost (omega (arith, few)) in
    omega (arith, all, round-more n cost now old next so_far more)

-- only the first round is taken
pub first-round : (n cost now old next : ℕ) → (1 ≤ n → ⊥) → now + 2 * n ≤ old + n * cost → next + 2 ≤ now + cost → next + 2 ≤ old + cost
first-round zero cost now old next none so_far more = omega (arith, so_far, more)
first-round (suc n) cost now old next none so_far more = absurd (none (omega arith))
