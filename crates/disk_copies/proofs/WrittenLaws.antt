-- A disk as a writer: its first blocks grow by those that are written.
use Rattle.std.proofs.Common.{◌≡◌, ℕ, zero, suc, ◌+◌, ◌*◌, ◌<◌, ◌≤◌, List, [], ◌∷◌, ◌++◌, length, take, Ok, Err, refl, ap, append-nil, ◌∙◌, arith}
use Rattle.std.specs.List.{concat}
use Rattle.std.proofs.lemmas.List.Folds.{concat-append}
use Rattle.std.proofs.lemmas.List.{length-take}
use Rattle.zone_states.specs.declared.geometry.Geometry.{Geometry}
use Rattle.zone_states.proofs.Cutting.{concat-cut, length-cut}
use Rattle.drive_port.specs.Calls.{block_count, data_blocks}
use Rattle.zone_translator.specs.Answers.{write_bytes}
use Rattle.zone_translator.specs.Flat.{FlatCall, FlatDisk, replaced, with_nothing}
use Rattle.zone_translator.proofs.FlatLaws.{replaced-none}
use Rattle.zone_translator.specs.View.{DiskView, disk_array, disk_size, flat_of}
use Rattle.zone_translator.specs.declared.fault.DiskFault.{DiskFault}
use Rattle.zone_translator.specs.declared.status.DiskStatus.TheVariants as statuses
use Rattle.disk_copies.proofs.FlatWrites.{Refused, midway, before, refused, wrote}
use Rattle.disk_copies.proofs.Pieces.{count-of}

-- the blocks before those that are replaced stay
take-before : {X : Type 0} (xs : List X) (first : ℕ) (ys : List X) → take first (replaced xs first ys) ≡ take first xs
take-before [] first ys = refl
take-before (x ∷ xs) zero ys = refl
take-before {X} (x ∷ xs) (suc first) ys = ap (λ (zs : List X). x ∷ zs) (take-before xs first ys)

take-new : {X : Type 0} (xs ys : List X) → length ys ≤ length xs → take (length ys) (replaced xs zero ys) ≡ ys
take-new xs [] fits = refl
take-new [] (y ∷ ys) fits = absurd (omega (arith, fits))
take-new {X} (x ∷ xs) (y ∷ ys) fits = ap (λ (zs : List X). y ∷ zs) (take-new xs ys (omega (arith, fits)))

take-written : {X : Type 0} (xs : List X) (first : ℕ) (ys : List X) → first + length ys ≤ length xs → take (first + length ys) (replaced xs first ys) ≡ take first xs ++ ys
take-written xs zero ys fits = let e : 0 + length ys ≡ length ys = omega arith in rw e (take-new xs ys (omega (arith, fits)))
take-written [] (suc first) ys fits = absurd (omega (arith, fits))
take-written {X} (x ∷ xs) (suc first) ys fits =
    let e : suc first + length ys ≡ suc (first + length ys) = omega arith in
    rw e (ap (λ (zs : List X). x ∷ zs) (take-written xs first ys (omega (arith, fits))))

take-more : {X : Type 0} (xs : List X) (first : ℕ) (ys : List X) → (0 < length ys → first + length ys ≤ length xs) → take (first + length ys) (replaced xs first ys) ≡ take first xs ++ ys
take-more xs first [] fits =
    let e : first + 0 ≡ first = omega arith in
    rw (replaced-none xs first, e, append-nil (take first xs)) refl
take-more xs first (y ∷ ys) fits = take-written xs first (y ∷ ys) (fits (omega arith))

-- a write that is done
pub written-more : (old new : DiskView) (next blocks : ℕ) (bytes : List ℕ) → 0 < old.drive.geometry.block → length bytes ≡ blocks * old.drive.geometry.block → (old.status ≡ statuses.Serving → length (disk_array old) ≡ disk_size old)
    → FlatCall (flat_of old) (write_bytes old next bytes) (with_nothing (Ok tt)) (flat_of new)
    → concat (take (next + blocks) (disk_array new)) ≡ concat (take next (disk_array old)) ++ bytes
written-more old new next blocks bytes some long array flat =
    let g = old.drive.geometry in
    let bs = data_blocks g bytes in
    let w = wrote (flat_of old) (flat_of new) next bs flat in
    let count : block_count g bytes ≡ blocks = count-of g bytes blocks some long in
    let n : length bs ≡ blocks = length-cut g.block (block_count g bytes) bytes ∙ count in
    let fits : 0 < length bs → next + length bs ≤ length (disk_array old) = λ more. omega (arith, w.within more, array (w.serves more)) in
    let arr : disk_array new ≡ replaced (disk_array old) next bs = ap (λ (d : FlatDisk). d.array) w.after in
    let whole : concat bs ≡ bytes = concat-cut g.block (block_count g bytes) bytes (omega (arith, long, count, ap (λ (k : ℕ). k * g.block) count)) in
    rw (arr, ← n, take-more (disk_array old) next bs fits, concat-append (take next (disk_array old)) bs, whole) refl

-- a write that is refused
pub written-still : (old new : DiskView) (next : ℕ) (bytes : List ℕ) (fault : DiskFault) → (0 < length (data_blocks old.drive.geometry bytes) → next + length (data_blocks old.drive.geometry bytes) ≤ disk_size old)
    → FlatCall (flat_of old) (write_bytes old next bytes) (with_nothing (Err fault)) (flat_of new)
    → concat (take next (disk_array new)) ≡ concat (take next (disk_array old))
written-still old new next bytes fault within flat = ap concat (at (refused (flat_of old) (flat_of new) next (data_blocks old.drive.geometry bytes) fault within flat))
  where
    at : Refused (flat_of old) next (data_blocks old.drive.geometry bytes) fault (flat_of new) → take next (disk_array new) ≡ take next (disk_array old)
    at (midway serves may front after) = ap (λ (a : List (List ℕ)). take next a) front.written ∙ take-before (disk_array old) next (take front.done (data_blocks old.drive.geometry bytes))
    at (before known same) = ap (λ (d : FlatDisk). take next d.array) same

-- ---- the blocks that are taken of some bytes

front-long : (g : Geometry) (bytes : List ℕ) (k b : ℕ) → b ≡ g.block → k * g.block ≤ length bytes → length (take (k * b) bytes) ≡ k * g.block
front-long g bytes k b e fits = rw e (omega (arith, length-take (k * g.block) bytes, fits))

-- they are whole
pub front-whole : (g : Geometry) (bytes : List ℕ) (k b : ℕ) → b ≡ g.block → 0 < b → k * g.block ≤ length bytes → length (take (k * b) bytes) ≡ block_count g (take (k * b) bytes) * g.block
front-whole g bytes k b e some fits =
    let long = front-long g bytes k b e fits in
    rw (count-of g (take (k * b) bytes) k (rw e at some) long) long

-- a write of them that is done
pub front-written : (old new : DiskView) (next k b : ℕ) (bytes : List ℕ) → b ≡ old.drive.geometry.block → 0 < b → k * old.drive.geometry.block ≤ length bytes → (old.status ≡ statuses.Serving → length (disk_array old) ≡ disk_size old)
    → FlatCall (flat_of old) (write_bytes old next (take (k * b) bytes)) (with_nothing (Ok tt)) (flat_of new)
    → concat (take (next + k) (disk_array new)) ≡ concat (take next (disk_array old)) ++ take (k * b) bytes
front-written old new next k b bytes e some fits array flat =
    written-more old new next k (take (k * b) bytes) (rw e at some) (front-long old.drive.geometry bytes k b e fits) array flat

-- and one that is refused
pub front-refused : (old new : DiskView) (next k b : ℕ) (bytes : List ℕ) (fault : DiskFault) → b ≡ old.drive.geometry.block → 0 < b → k * old.drive.geometry.block ≤ length bytes → (0 < k → next + k ≤ disk_size old)
    → FlatCall (flat_of old) (write_bytes old next (take (k * b) bytes)) (with_nothing (Err fault)) (flat_of new)
    → concat (take next (disk_array new)) ≡ concat (take next (disk_array old))
front-refused old new next k b bytes fault e some fits room flat =
    let g = old.drive.geometry in
    let front = take (k * b) bytes in
    let n : length (data_blocks g front) ≡ k = length-cut g.block (block_count g front) front ∙ count-of g front k (rw e at some) (front-long g bytes k b e fits) in
    written-still old new next front fault (rw n room) flat
