-- What a Read shows of stored bytes: those that are written, and zeros after them.
use Rattle.std.proofs.Common.{◌≡◌, ℕ, zero, suc, ◌+◌, ◌-◌, ◌*◌, ◌/◌, ◌≤◌, ◌<◌, Bool, true, false, not, eqb, ltb, List, [], ◌∷◌, ◌++◌, length, take, drop, replicate, refl, sym, ap, ◌∙◌, arith}
use Rattle.std.proofs.Math.Nat.{div-eq_of_lt-le, div-mul-le_self, lt-div-mul-add}
use Rattle.std.proofs.lemmas.Bool.{eq-eqb, eqb-true, ltb-false, ltb-true}
use Rattle.std.proofs.lemmas.List.{drop-drop, length-drop}
use Rattle.zone_states.specs.declared.geometry.Geometry.{Geometry}
use Rattle.zone_states.specs.Stored.{StoredZone}
use Rattle.zone_states.specs.Zone.{Zone, cut_blocks}
use Rattle.drive_port.specs.Step.{block_in, bytes_from, zone_at}
use Rattle.zone_drive.specs.Stored.{AreZones, with_zeros, zones_of}
use Rattle.zone_drive.specs.Table.{stored_at}
use Rattle.zone_drive.proofs.WriteLaws.{whole-at, zone_at-is}

-- the first bytes, zeros where there are no more
abbrev pub padded : ℕ → List ℕ → List ℕ
padded zero bytes = []
padded (suc n) [] = 0 ∷ padded n []
padded (suc n) (b ∷ bytes) = b ∷ padded n bytes

drop-nil : (n : ℕ) → drop {A = ℕ} n [] ≡ []
drop-nil zero = refl
drop-nil (suc n) = refl

padded-nil : (n : ℕ) → padded n [] ≡ replicate n 0
padded-nil zero = refl
padded-nil (suc n) = ap (λ (xs : List ℕ). 0 ∷ xs) (padded-nil n)

padded-short : (n k : ℕ) (bytes : List ℕ) → k ≡ n - length bytes → take n bytes ++ replicate k 0 ≡ padded n bytes
padded-short zero k [] e = let none : k ≡ 0 = omega arith in rw none refl
padded-short zero k (b ∷ bytes) e = let none : k ≡ 0 = omega arith in rw none refl
padded-short (suc n) k [] e = let all : k ≡ suc n = omega arith in rw (all, padded-nil n) refl
padded-short (suc n) k (b ∷ bytes) e = ap (λ (xs : List ℕ). b ∷ xs) (padded-short n k bytes (omega arith))

padded-long : (n : ℕ) (bytes : List ℕ) → n ≤ length bytes → take n bytes ≡ padded n bytes
padded-long zero bytes le = refl
padded-long (suc n) [] le = absurd (omega arith)
padded-long (suc n) (b ∷ bytes) le = ap (λ (xs : List ℕ). b ∷ xs) (padded-long n bytes (omega arith))

padded-add : (n m k : ℕ) (bytes : List ℕ) → k ≡ n + m → padded k bytes ≡ padded n bytes ++ padded m (drop n bytes)
padded-add zero m k bytes e = let same : k ≡ m = omega arith in rw same refl
padded-add (suc n) m zero bytes e = absurd (omega arith)
padded-add (suc n) m (suc k) [] e = ap (λ (xs : List ℕ). 0 ∷ xs) (padded-add n m k [] (omega arith) ∙ rw (drop-nil n) refl)
padded-add (suc n) m (suc k) (b ∷ bytes) e = ap (λ (xs : List ℕ). b ∷ xs) (padded-add n m k bytes (omega arith))

block_in-cut : (size n offset from : ℕ) (bytes : List ℕ) → length bytes ≡ n * size → from ≡ offset * size → block_in size (cut_blocks size n bytes) offset ≡ padded size (drop from bytes)
block_in-cut size zero offset from [] whole e = rw (drop-nil from) (sym (padded-nil size))
block_in-cut size zero offset from (b ∷ bytes) whole e = absurd (omega arith)
block_in-cut size (suc n) zero from bytes whole e = let none : from ≡ 0 = omega arith in rw none (padded-long size bytes (omega arith))
block_in-cut size (suc n) (suc offset) from bytes whole e =
    let rest : length (drop size bytes) ≡ n * size = omega (arith, length-drop size bytes) in
    let more : size + offset * size ≡ from = omega arith in
    block_in-cut size n offset (offset * size) (drop size bytes) rest refl ∙ ap (padded size) (drop-drop (offset * size) size bytes ∙ ap (λ (k : ℕ). drop k bytes) more)

-- bytes that are read from blocks are those from a place on, and zeros after them
bytes_from-cut : (size n offset count from long : ℕ) (bytes : List ℕ) → length bytes ≡ n * size → from ≡ offset * size → long ≡ count * size
    → bytes_from size (cut_blocks size n bytes) offset count ≡ padded long (drop from bytes)
bytes_from-cut size n offset zero from long bytes whole e f = let none : long ≡ 0 = omega arith in rw none refl
bytes_from-cut size n offset (suc count) from long bytes whole e f =
    let all : long ≡ size + count * size = omega arith in
    let next : from + size ≡ (offset + 1) * size = omega arith in
    rw (block_in-cut size n offset from bytes whole e, bytes_from-cut size n (offset + 1) count (from + size) (count * size) bytes whole next refl)
    (sym (padded-add size (count * size) long (drop from bytes) all ∙ ap (λ (xs : List ℕ). padded size (drop from bytes) ++ padded (count * size) xs) (drop-drop size from bytes)))

-- what a Read shows
pub read-shows : (size n offset count from long : ℕ) (bytes : List ℕ) → length bytes ≡ n * size → from ≡ offset * size → long ≡ count * size
    → with_zeros long (drop from bytes) ≡ bytes_from size (cut_blocks size n bytes) offset count
read-shows size n offset count from long bytes whole e f = padded-short long _ (drop from bytes) refl ∙ sym (bytes_from-cut size n offset count from long bytes whole e f)

-- and of a zone that is stored
pub zone-shows : (geometry : Geometry) (zones : List StoredZone) (index offset count : ℕ) → AreZones geometry zones → index < geometry.zones
    → with_zeros (count * geometry.block) (drop (offset * geometry.block) (stored_at zones index).bytes)
    ≡ bytes_from geometry.block (zone_at (zones_of geometry.block zones) index).blocks offset count
zone-shows geometry zones index offset count are below =
    let block = geometry.block in
    let bytes = (stored_at zones index).bytes in
    let lt : index < length zones = omega (arith, below, are.count) in
    let blocks_are = ap (λ (z : Zone). z.blocks) (zone_at-is block zones index lt) in
    rw blocks_are (read-shows block (length bytes / block) offset count (offset * block) (count * block) bytes (whole-at geometry zones index are lt) refl refl)

-- ---- the end of a zone

-- blocks are in more than one zone where they end past that of the first
pub passes-end : (size slba blocks : ℕ) → 1 ≤ size → 1 ≤ blocks → not (eqb (slba / size) ((slba + blocks - 1) / size)) ≡ ltb (slba / size * size + size) (slba + blocks)
passes-end size slba blocks wide some = by_end (ltb (zone * size + size) (slba + blocks)) refl
  where
    zone : ℕ
    zone = slba / size

    last : ℕ
    last = slba + blocks - 1

    apart : (same : Bool) → eqb zone (last / size) ≡ same → zone * size + size < slba + blocks → not same ≡ true
    apart true e past =
        let there = rw (← eqb-true zone (last / size) e) at (lt-div-mul-add {a = last} {b = size} wide) in
        absurd (omega (arith, there, past, some))
    apart false e past = refl

    by_end : (past : Bool) → ltb (zone * size + size) (slba + blocks) ≡ past → not (eqb zone (last / size)) ≡ past
    by_end true e = apart (eqb zone (last / size)) refl (ltb-true _ _ e)
    by_end false e =
        let low = div-mul-le_self slba size in
        let within = ltb-false _ _ e in
        let same : last / size ≡ zone = div-eq_of_lt-le {k = zone} size {m = last} (omega (arith, low, some)) (omega (arith, within, some)) in
        rw (eq-eqb zone (last / size) (sym same)) refl
