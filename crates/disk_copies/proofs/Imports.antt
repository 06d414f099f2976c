-- What one piece of an import does, and pieces one after the other.
use Rattle.std.proofs.Common.{◌≡◌, ℕ, zero, suc, ◌+◌, ◌-◌, ◌*◌, ◌/◌, ◌%◌, ◌<◌, ◌≤◌, List, [], ◌∷◌, ◌++◌, length, take, drop, Option, Ok, Err, Result, IsErrAnd, refl, sym, ap, subst, ◌∙◌, append_assoc, arith}
use Rattle.std.specs.Prelude.{min}
use Rattle.std.specs.List.{AllByRecursion, concat}
use Rattle.std.specs.Io.KnownBytes.{Consumes, IsAtEnd}
use Rattle.std.proofs.KnownBytes.{Consumes-nil, Consumes-trans}
use Rattle.std.proofs.lemmas.List.{append-nil, nil_from_length, length-append, length-drop, length-take, take-append-drop, take-take}
use Rattle.std.proofs.lemmas.List.Folds.{concat-append}
use Rattle.std.proofs.lemmas.Nat.{mod-mul-add}
use Rattle.std.proofs.Math.Seq.{drop-append-add, take-append-add}
use Rattle.std.proofs.Math.Nat.{add-mul, div-mul-le_self, mod-eq-sub-div-mul, mod-lt}
use Rattle.zone_states.specs.declared.geometry.Geometry.{Geometry}
use Rattle.zone_states.proofs.Cutting.{concat-cut, length-cut}
use Rattle.disk_files.specs.Input.{DropsFewer}
use Rattle.drive_port.specs.Calls.{block_count, data_blocks}
use Rattle.zone_translator.specs.Answers.{write_bytes}
use Rattle.zone_translator.specs.Flat.{FlatCall, FlatDisk, with_nothing, write}
use Rattle.zone_translator.specs.View.{DiskCause, DiskView, disk_size, flat_of}
use Rattle.zone_translator.specs.declared.fault.DiskFault.{DiskFault}
use Rattle.disk_copies.specs.Copies.{ComesWhole, CountsWritten, PieceComes, Imports, ImportsPiece, RefusesOthers, StopsImport, TakesBlocks, piece_blocks, write_result}
use Rattle.disk_copies.specs.declared.stream_fault.ImportFault.{ImportFault}
use Rattle.disk_copies.specs.declared.stream_fault.ImportFault.TheVariants.{Disk, Input, Memory, PastEnd, Rest}
use Rattle.disk_copies.proofs.FlatWrites.{refuse-after, write-more, wrote, wrote-none}
use Rattle.disk_copies.proofs.Pieces.{count-of, cut-whole, times-less}

-- a fault that is handed on
pub import-err : (old new : DiskView) (first : ℕ) (input rest : Option (List ℕ)) (result : Result ℕ ImportFault) (written : ℕ) (fault : ImportFault) → IsErrAnd result (λ e. e ≡ fault)
    → ImportsPiece old first input rest (Err fault) written new → ImportsPiece old first input rest result written new
import-err old new first input rest (Ok count) written fault is p = absurd is
import-err old new first input rest (Err e) written fault is p = rw is p

-- the reader failed in a piece
pub piece-unread : (old : DiskView) (first long : ℕ) (input rest : Option (List ℕ)) → long ≡ piece_blocks old.drive.geometry.block * old.drive.geometry.block → DropsFewer input rest long
    → ImportsPiece old first input rest (Err Input) 0 old
piece-unread old first long input rest e drops = record {
  takes = record { blocks = []; whole = tt; within = λ some. absurd (omega (arith, some)); left = drops.bytes; read = drops.consumes; flat = wrote-none (flat_of old) first };
  ends = omega (arith, e, drops.fewer);
  counts = refl;
}

-- the whole blocks at the front of a piece are taken
abbrev pub front-taken : {V : Type 0} (old new : DiskView) (first blocks count : ℕ) (piece : List ℕ) (input rest : Option (List ℕ)) (result : Result V ImportFault) → 0 < old.drive.geometry.block
    → blocks * old.drive.geometry.block ≤ count → count ≤ length piece → Consumes input rest (take count piece) → blocks ≤ disk_size old - first
    → FlatCall (flat_of old) (write_bytes old first (take (blocks * old.drive.geometry.block) piece)) (with_nothing (write_result result)) (flat_of new)
    → TakesBlocks old first input rest result new
front-taken old new first blocks count piece input rest result some within fits consumes room flat =
    let g = old.drive.geometry in
    let bytes = blocks * g.block in
    let front = take bytes piece in
    let long : length front ≡ bytes = omega (arith, length-take bytes piece, within, fits) in
    let n : block_count g front ≡ blocks = count-of g front blocks some long in
    let whole : length front ≡ block_count g front * g.block = long ∙ ap (λ (k : ℕ). k * g.block) (sym n) in
    let split : take count piece ≡ concat (data_blocks g front) ++ drop bytes (take count piece) =
    sym (take-append-drop bytes (take count piece))
    ∙ ap (λ (xs : List ℕ). xs ++ drop bytes (take count piece)) (take-take bytes count piece within ∙ sym (concat-cut g.block (block_count g front) front whole)) in
    record {
      blocks = data_blocks g front;
      whole = cut-whole g.block (block_count g front) front whole;
      within = λ more. let k = length-cut g.block (block_count g front) front ∙ n in omega (arith, k, more, room);
      left = drop bytes (take count piece);
      read = subst (Consumes input rest) split consumes;
      flat = flat;
    }

-- how many blocks that are, and bytes after them
front-blocks : (geometry : Geometry) (blocks : ℕ) (piece : List ℕ) → 0 < geometry.block → blocks * geometry.block ≤ length piece → length (data_blocks geometry (take (blocks * geometry.block) piece)) ≡ blocks
front-blocks geometry blocks piece some fits =
    length-cut geometry.block _ (take (blocks * geometry.block) piece)
    ∙ count-of geometry (take (blocks * geometry.block) piece) blocks some (omega (arith, length-take (blocks * geometry.block) piece, fits))

left-long : (bytes count : ℕ) (piece : List ℕ) → count ≤ length piece → length (drop bytes (take count piece)) ≡ count - bytes
left-long bytes count piece fits = omega (arith, length-drop bytes (take count piece), length-take count piece, fits)

-- ---- a piece

-- what is known of a piece that was read
pub record IsRead (old : DiskView) (first : ℕ) (piece : List ℕ) (count blocks room : ℕ) (input rest : Option (List ℕ)) : Type 0 where
  pub some : 0 < old.drive.geometry.block
  pub fits : count ≤ length piece
  pub consumes : Consumes input rest (take count piece)
  pub end : count < length piece → IsAtEnd rest
  pub long : length piece ≡ piece_blocks old.drive.geometry.block * old.drive.geometry.block
  pub room_is : room ≡ disk_size old - first
  pub blocks_is : blocks ≡ min (count / old.drive.geometry.block) room

-- it is known by what the calls before answer
pub piece-read : (old : DiskView) (first : ℕ) (piece : List ℕ) (count blocks room : ℕ) (input rest : Option (List ℕ)) → 0 < old.drive.geometry.block → count ≤ length piece → Consumes input rest (take count piece)
    → (count < length piece → IsAtEnd rest) → length piece ≡ piece_blocks old.drive.geometry.block * old.drive.geometry.block → room ≡ disk_size old - first → blocks ≡ min (count / old.drive.geometry.block) room
    → IsRead old first piece count blocks room input rest
piece-read old first piece count blocks room input rest some fits consumes end long room_is blocks_is =
    record { some = some; fits = fits; consumes = consumes; end = end; long = long; room_is = room_is; blocks_is = blocks_is }

times-more : (n m b : ℕ) → n ≤ m → n * b ≤ m * b
times-more n m b le = let e : n + (m - n) ≡ m = omega (arith, le) in omega (arith, add-mul n (m - n) b, ap (λ (k : ℕ). k * b) e)

-- the whole blocks of a piece have no more bytes than were read
read-within : (old : DiskView) (first : ℕ) (piece : List ℕ) (count blocks room : ℕ) (input rest : Option (List ℕ)) → IsRead old first piece count blocks room input rest → blocks * old.drive.geometry.block ≤ count
read-within old first piece count blocks room input rest r =
    let b = old.drive.geometry.block in
    omega (arith, times-more blocks (count / b) b (omega (arith, r.blocks_is)), div-mul-le_self count b)

abbrev taken : {V : Type 0} (old new : DiskView) (first : ℕ) (piece : List ℕ) (count blocks room : ℕ) (input rest : Option (List ℕ)) (result : Result V ImportFault) → IsRead old first piece count blocks room input rest
    → FlatCall (flat_of old) (write_bytes old first (take (blocks * old.drive.geometry.block) piece)) (with_nothing (write_result result)) (flat_of new) → TakesBlocks old first input rest result new
taken old new first piece count blocks room input rest result r flat =
    front-taken old new first blocks count piece input rest result r.some (read-within old first piece count blocks room input rest r) r.fits r.consumes (omega (arith, r.blocks_is, r.room_is)) flat

abbrev Writes : DiskView → ℕ → List ℕ → ℕ → Result (Unit {0}) DiskFault → DiskView → Type 0
Writes old first piece blocks result new = FlatCall (flat_of old) (write_bytes old first (take (blocks * old.drive.geometry.block) piece)) (with_nothing result) (flat_of new)

taken-blocks : (old : DiskView) (first : ℕ) (piece : List ℕ) (count blocks room : ℕ) (input rest : Option (List ℕ)) → IsRead old first piece count blocks room input rest
    → length (data_blocks old.drive.geometry (take (blocks * old.drive.geometry.block) piece)) ≡ blocks
taken-blocks old first piece count blocks room input rest r =
    front-blocks old.drive.geometry blocks piece r.some (omega (arith, read-within old first piece count blocks room input rest r, r.fits))

-- the disk refused the blocks
pub piece-refused : (old new : DiskView) (first : ℕ) (piece : List ℕ) (count blocks room : ℕ) (input rest : Option (List ℕ)) (fault : DiskFault) → IsRead old first piece count blocks room input rest
    → Writes old first piece blocks (Err fault) new → DiskCause new fault → ImportsPiece old first input rest (Err (Disk fault)) 0 new
piece-refused old new first piece count blocks room input rest fault r flat cause =
    let b = old.drive.geometry.block in
    let n = taken-blocks old first piece count blocks room input rest r in
    let most = times-less blocks (piece_blocks b) b r.some (omega (arith, read-within old first piece count blocks room input rest r, r.fits, r.long)) in
    let at : first + 0 ≡ first = omega arith in
    record {
      takes = taken old new first piece count blocks room input rest (Err (Disk fault)) r flat;
      ends = cause;
      counts = record { mid = old; front = wrote-none (flat_of old) first; others = rw at flat; few = omega (arith, n, most) };
    }

-- more blocks came than there is room for
pub piece-past : (old new : DiskView) (first : ℕ) (piece : List ℕ) (count blocks room : ℕ) (input rest : Option (List ℕ)) → IsRead old first piece count blocks room input rest
    → Writes old first piece blocks (Ok tt) new → room < count / old.drive.geometry.block → ImportsPiece old first input rest (Err PastEnd) blocks new
piece-past old new first piece count blocks room input rest r flat past =
    let b = old.drive.geometry.block in
    let n = taken-blocks old first piece count blocks room input rest r in
    let left = left-long (blocks * b) count piece r.fits in
    let same : blocks ≡ room = omega (arith, r.blocks_is, past) in
    let more = times-more (room + 1) (count / b) b (omega (arith, past)) in
    record {
      takes = taken old new first piece count blocks room input rest (Err PastEnd) r flat;
      ends = (omega (arith, left, more, add-mul room 1 b, ap (λ (k : ℕ). k * b) same, div-mul-le_self count b), omega (arith, n, same, r.room_is));
      counts = sym n;
    }

-- the reader ended within a block
pub piece-rest : (old new : DiskView) (first : ℕ) (piece : List ℕ) (count blocks room : ℕ) (input rest : Option (List ℕ)) → IsRead old first piece count blocks room input rest
    → Writes old first piece blocks (Ok tt) new → count / old.drive.geometry.block ≤ room → 0 < count % old.drive.geometry.block → ImportsPiece old first input rest (Err Rest) blocks new
piece-rest old new first piece count blocks room input rest r flat fits some =
    let b = old.drive.geometry.block in
    let left = left-long (blocks * b) count piece r.fits in
    let same : blocks ≡ count / b = omega (arith, r.blocks_is, fits) in
    let over : length (drop (blocks * b) (take count piece)) ≡ count % b = omega (arith, left, ap (λ (k : ℕ). k * b) same, mod-eq-sub-div-mul count b) in
    let short : count < length piece = not-whole count (length piece) (piece_blocks b) b r.some r.fits r.long some in
    record {
      takes = taken old new first piece count blocks room input rest (Err Rest) r flat;
      ends = (omega (arith, over, some), omega (arith, over, mod-lt count r.some), r.end short);
      counts = sym (taken-blocks old first piece count blocks room input rest r);
    }
  where
    not-whole : (count long n b : ℕ) → 0 < b → count ≤ long → long ≡ n * b → 0 < count % b → count < long
    not-whole count long n b some le e rest = grind (arith, no-rest n b some)
      where
        no-rest : (n b : ℕ) → 0 < b → (n * b) % b ≡ 0
        no-rest n b some = let z : n * b ≡ n * b + 0 = omega arith in rw z (mod-mul-add n b 0 some)

-- a piece is taken
pub piece-done : (old new : DiskView) (first : ℕ) (piece : List ℕ) (count blocks room : ℕ) (input rest : Option (List ℕ)) → IsRead old first piece count blocks room input rest
    → Writes old first piece blocks (Ok tt) new → count / old.drive.geometry.block ≤ room → count % old.drive.geometry.block ≡ 0 → ImportsPiece old first input rest (Ok blocks) blocks new
piece-done old new first piece count blocks room input rest r flat fits none =
    let b = old.drive.geometry.block in
    let n = taken-blocks old first piece count blocks room input rest r in
    let left = left-long (blocks * b) count piece r.fits in
    let same : blocks ≡ count / b = omega (arith, r.blocks_is, fits) in
    let whole : count ≡ blocks * b = omega (arith, ap (λ (k : ℕ). k * b) same, mod-eq-sub-div-mul count b, none, div-mul-le_self count b) in
    record {
      takes = taken old new first piece count blocks room input rest (Ok blocks) r flat;
      ends = (
        sym n,
        nil_from_length (drop (blocks * b) (take count piece)) (omega (arith, left, whole)),
        λ zero_blocks.
            let none_at : 0 * b ≡ 0 = omega arith in
            let empty : count ≡ 0 = whole ∙ ap (λ (k : ℕ). k * b) zero_blocks ∙ none_at in
            r.end (omega (arith, empty, r.long, r.some, times-more 1 (piece_blocks b) b (omega arith))),
      );
      counts = sym n;
    }

-- ---- pieces

-- so many blocks are taken, and nothing is left of them
pub record Imported (old : DiskView) (first count : ℕ) (input rest : Option (List ℕ)) (new : DiskView) : Type 0 where
  pub takes : TakesBlocks old first input rest (Ok count) new
  pub count_is : count ≡ length takes.blocks
  pub none : takes.left ≡ []
  pub geometry : new.drive.geometry ≡ old.drive.geometry

-- at the start no block is imported, and nothing is read
pub imported-none : (old : DiskView) (first : ℕ) (input : Option (List ℕ)) → Imported old first 0 input input old
imported-none old first input = record {
  takes = record { blocks = []; whole = tt; within = λ some. absurd (omega (arith, some)); left = []; read = Consumes-nil input; flat = wrote-none (flat_of old) first };
  count_is = refl;
  none = refl;
  geometry = refl;
}

same-size : (old mid : DiskView) (first : ℕ) (blocks : List (List ℕ)) → FlatCall (flat_of old) (write first blocks) (with_nothing (Ok tt)) (flat_of mid) → disk_size mid ≡ disk_size old
same-size old mid first blocks flat = ap (λ (d : FlatDisk). d.size) (wrote (flat_of old) (flat_of mid) first blocks flat).after

all-both : (P : List ℕ → Type 0) (xs ys : List (List ℕ)) → AllByRecursion P xs → AllByRecursion P ys → AllByRecursion P (xs ++ ys)
all-both P [] ys p q = q
all-both P (x ∷ xs) ys p q = (p.0, all-both P xs ys p.1 q)

read-both : (xs ys : List (List ℕ)) (none left : List ℕ) (input mid rest : Option (List ℕ)) → none ≡ [] → Consumes input mid (concat xs ++ none) → Consumes mid rest (concat ys ++ left) → Consumes input rest (concat (xs ++ ys) ++ left)
read-both xs ys none left input mid rest e p q =
    let bytes : concat (xs ++ ys) ++ left ≡ (concat xs ++ none) ++ (concat ys ++ left) =
    ap (λ (bs : List ℕ). bs ++ left) (concat-append xs ys) ∙ append_assoc (concat xs) (concat ys) left ∙ ap (λ (bs : List ℕ). bs ++ (concat ys ++ left)) (sym (ap (λ (bs : List ℕ). concat xs ++ bs) e ∙ append-nil (concat xs))) in
    rw bytes (Consumes-trans input mid rest (concat xs ++ none) (concat ys ++ left) p q)

-- the write of the blocks of two pieces
flat-both : {V : Type 0} (old mid new : DiskView) (first next : ℕ) (xs ys : List (List ℕ)) (result : Result V ImportFault) → next ≡ first + length xs → (0 < length ys → next + length ys ≤ disk_size mid)
    → FlatCall (flat_of old) (write first xs) (with_nothing (Ok tt)) (flat_of mid) → FlatCall (flat_of mid) (write next ys) (with_nothing (write_result result)) (flat_of new)
    → FlatCall (flat_of old) (write first (xs ++ ys)) (with_nothing (write_result result)) (flat_of new)
flat-both old mid new first next xs ys (Ok v) e within x y = write-more (flat_of old) (flat_of mid) (flat_of new) first next xs ys e x y
flat-both old mid new first next xs ys (Err Input) e within x y = write-more (flat_of old) (flat_of mid) (flat_of new) first next xs ys e x y
flat-both old mid new first next xs ys (Err Rest) e within x y = write-more (flat_of old) (flat_of mid) (flat_of new) first next xs ys e x y
flat-both old mid new first next xs ys (Err PastEnd) e within x y = write-more (flat_of old) (flat_of mid) (flat_of new) first next xs ys e x y
flat-both old mid new first next xs ys (Err Memory) e within x y = write-more (flat_of old) (flat_of mid) (flat_of new) first next xs ys e x y
flat-both old mid new first next xs ys (Err (Disk fault)) e within x y = refuse-after (flat_of old) (flat_of mid) (flat_of new) first next xs ys fault e within x y

both-within : {V : Type 0} (old mid new : DiskView) (first count next : ℕ) (input between rest : Option (List ℕ)) (result : Result V ImportFault) → next ≡ first + count → (x : Imported old first count input between mid)
    → (y : TakesBlocks mid next between rest result new) → (n : ℕ) → length y.blocks ≡ n → 0 < length (x.takes.blocks ++ y.blocks) → first + length (x.takes.blocks ++ y.blocks) ≤ disk_size old
both-within old mid new first count next input between rest result e x y zero f some =
    let long = length-append x.takes.blocks y.blocks in
    omega (arith, long, f, x.takes.within (omega (arith, long, f, some)))
both-within old mid new first count next input between rest result e x y (suc n) f some =
    let long = length-append x.takes.blocks y.blocks in
    omega (arith, long, f, e, x.count_is, same-size old mid first x.takes.blocks x.takes.flat, y.within (omega (arith, f)))

abbrev takes-both : {V : Type 0} (old mid new : DiskView) (first count next : ℕ) (input between rest : Option (List ℕ)) (result : Result V ImportFault) → next ≡ first + count → (x : Imported old first count input between mid)
    → (y : TakesBlocks mid next between rest result new) → TakesBlocks old first input rest result new
takes-both old mid new first count next input between rest result e x y = record {
  blocks = x.takes.blocks ++ y.blocks;
  whole = all-both (λ (block : List ℕ). length block ≡ old.drive.geometry.block) x.takes.blocks y.blocks x.takes.whole (rw (ap (λ (h : Geometry). h.block) x.geometry) at y.whole);
  within = both-within old mid new first count next input between rest result e x y (length y.blocks) refl;
  left = y.left;
  read = read-both x.takes.blocks y.blocks x.takes.left y.left input between rest x.none x.takes.read y.read;
  flat = flat-both old mid new first next x.takes.blocks y.blocks result (omega (arith, e, x.count_is)) y.within x.takes.flat y.flat;
}

-- a piece more is taken
pub imported-more : (old mid new : DiskView) (first count next more sum written : ℕ) (input between rest : Option (List ℕ)) → next ≡ first + count → sum ≡ count + more → new.drive.geometry ≡ mid.drive.geometry
    → Imported old first count input between mid → ImportsPiece mid next between rest (Ok more) written new → Imported old first sum input rest new
imported-more old mid new first count next more sum written input between rest e sum_is geometry x p =
    let both = takes-both old mid new first count next input between rest (Ok more) e x p.takes in
    record {
      takes = record { blocks = both.blocks; whole = both.whole; within = both.within; left = both.left; read = both.read; flat = both.flat };
      count_is = omega (arith, sum_is, x.count_is, p.ends.0, length-append x.takes.blocks p.takes.blocks);
      none = p.ends.1;
      geometry = geometry ∙ x.geometry;
    }

-- the reader is at its end
pub imported-end : (old mid new : DiskView) (first count next more sum : ℕ) (input between rest : Option (List ℕ)) → next ≡ first + count → sum ≡ count + more → Imported old first count input between mid
    → ImportsPiece mid next between rest (Ok 0) more new → Imports old first input rest (Ok count) sum new
imported-end old mid new first count next more sum input between rest e sum_is x p =
    let both = takes-both old mid new first count next input between rest (Ok 0) e x p.takes in
    record {
      takes = record { blocks = both.blocks; whole = both.whole; within = both.within; left = both.left; read = both.read; flat = both.flat };
      ends = (omega (arith, x.count_is, p.ends.0, length-append x.takes.blocks p.takes.blocks), p.ends.1, p.ends.2 refl);
      counts = omega (arith, sum_is, x.count_is, p.counts, length-append x.takes.blocks p.takes.blocks);
    }

-- the disk wrote these blocks, and then a front of those after them
refuses-later : (old mid new : DiskView) (first next more sum : ℕ) (xs ys : List (List ℕ)) (fault : DiskFault) → next ≡ first + length xs → sum ≡ length xs + more → mid.drive.geometry ≡ old.drive.geometry
    → FlatCall (flat_of old) (write first xs) (with_nothing (Ok tt)) (flat_of mid) → RefusesOthers mid next ys more fault new → RefusesOthers old first (xs ++ ys) sum fault new
refuses-later old mid new first next more sum xs ys fault e sum_is geometry flat r =
    let front : take sum (xs ++ ys) ≡ xs ++ take more ys = ap (λ (k : ℕ). take k (xs ++ ys)) sum_is ∙ take-append-add xs ys more in
    let others : drop sum (xs ++ ys) ≡ drop more ys = ap (λ (k : ℕ). drop k (xs ++ ys)) sum_is ∙ drop-append-add xs ys more in
    let at : first + sum ≡ next + more = omega (arith, e, sum_is) in
    let few = rw (ap (λ (h : Geometry). h.block) geometry) at r.few in
    record {
      mid = r.mid;
      front = rw front (write-more (flat_of old) (flat_of mid) (flat_of r.mid) first next xs (take more ys) e flat r.front);
      others = rw (others, at) r.others;
      few = omega (arith, few, sum_is, length-append xs ys);
    }

-- an import stops at a piece
pub imported-stop : (old mid new : DiskView) (first count next more sum : ℕ) (input between rest : Option (List ℕ)) (fault : ImportFault) (result : Result ℕ ImportFault) → IsErrAnd result (λ f. f ≡ fault)
    → next ≡ first + count → sum ≡ count + more → Imported old first count input between mid → ImportsPiece mid next between rest (Err fault) more new → Imports old first input rest result sum new
imported-stop old mid new first count next more sum input between rest fault (Ok v) is e sum_is x p = absurd is
imported-stop old mid new first count next more sum input between rest fault (Err f) is e sum_is x p =
    rw is (record { takes = takes-both old mid new first count next input between rest (Err fault) e x p.takes; ends = ended fault p x e; counts = counted fault p x e })
  where
    counted : (fault : ImportFault) (p : ImportsPiece mid next between rest (Err fault) more new) (x : Imported old first count input between mid) → next ≡ first + count
        → CountsWritten (Err fault) old first (x.takes.blocks ++ p.takes.blocks) sum new
    counted Input p x e = omega (arith, sum_is, x.count_is, p.counts, length-append x.takes.blocks p.takes.blocks)
    counted Rest p x e = omega (arith, sum_is, x.count_is, p.counts, length-append x.takes.blocks p.takes.blocks)
    counted PastEnd p x e = omega (arith, sum_is, x.count_is, p.counts, length-append x.takes.blocks p.takes.blocks)
    counted (Disk fault) p x e =
        refuses-later old mid new first next more sum x.takes.blocks p.takes.blocks fault (omega (arith, e, x.count_is)) (omega (arith, sum_is, x.count_is)) x.geometry x.takes.flat p.counts
    counted Memory p x e = absurd p.ends

    ended : (fault : ImportFault) (p : ImportsPiece mid next between rest (Err fault) more new) (x : Imported old first count input between mid) → next ≡ first + count
        → StopsImport fault old (first + length (x.takes.blocks ++ p.takes.blocks)) p.takes.left rest new
    ended Input p x e = rw (ap (λ (h : Geometry). h.block) x.geometry) at p.ends
    ended Rest p x e = rw (ap (λ (h : Geometry). h.block) x.geometry) at p.ends
    ended PastEnd p x e =
        (rw (ap (λ (h : Geometry). h.block) x.geometry) at p.ends.0, omega (arith, p.ends.1, e, x.count_is, same-size old mid first x.takes.blocks x.takes.flat, length-append x.takes.blocks p.takes.blocks))
    ended (Disk fault) p x e = p.ends
    ended Memory p x e = absurd p.ends

-- the bytes that are written of a piece are whole blocks
pub front-whole : (old : DiskView) (first : ℕ) (piece : List ℕ) (count blocks room : ℕ) (input rest : Option (List ℕ)) → IsRead old first piece count blocks room input rest
    → length (take (blocks * old.drive.geometry.block) piece) ≡ block_count old.drive.geometry (take (blocks * old.drive.geometry.block) piece) * old.drive.geometry.block
front-whole old first piece count blocks room input rest r =
    let g = old.drive.geometry in
    let bytes = blocks * g.block in
    let long : length (take bytes piece) ≡ bytes = omega (arith, length-take bytes piece, read-within old first piece count blocks room input rest r, r.fits) in
    rw (count-of g (take bytes piece) blocks r.some long) long

-- there is no memory for a piece
pub imports-none : (old : DiskView) (first : ℕ) (input : Option (List ℕ)) (result : Result ℕ ImportFault) → IsErrAnd result (λ e. e ≡ Memory) → Imports old first input input result 0 old
imports-none old first input (Ok v) is = absurd is
imports-none old first input (Err e) is = rw is (record {
  takes = record { blocks = []; whole = tt; within = λ some. absurd (omega (arith, some)); left = []; read = Consumes-nil input; flat = wrote-none (flat_of old) first };
  ends = (refl, refl);
  counts = refl;
})

-- ---- whatever the Reads of the drive returned

-- at the start nothing is given
pub gives-none : (block : ℕ) (input : Option (List ℕ)) → ComesWhole block input input 0
gives-none block input = record { bytes = []; read = Consumes-nil input; whole = omega arith }

-- a piece more is given
pub gives-more : (block other count more sum : ℕ) (input between rest : Option (List ℕ)) → other ≡ block → sum ≡ count + more → ComesWhole block input between count → ComesWhole other between rest more → ComesWhole block input rest sum
gives-more block other count more sum input between rest same sum_is first next = record {
  bytes = first.bytes ++ next.bytes;
  read = Consumes-trans input between rest first.bytes next.bytes first.read next.read;
  whole = omega (arith, length-append first.bytes next.bytes, first.whole, next.whole, ap (λ (k : ℕ). more * k) same, add-mul count more block, ap (λ (k : ℕ). k * block) sum_is);
}

-- a piece that is taken is given
pub piece-gives : (old : DiskView) (first : ℕ) (piece : List ℕ) (count blocks room : ℕ) (input rest : Option (List ℕ)) → IsRead old first piece count blocks room input rest → count / old.drive.geometry.block ≤ room
    → count % old.drive.geometry.block ≡ 0 → PieceComes old.drive.geometry.block input rest blocks
piece-gives old first piece count blocks room input rest r fits none =
    let b = old.drive.geometry.block in
    let same : blocks ≡ count / b = omega (arith, r.blocks_is, fits) in
    let whole : count ≡ blocks * b = omega (arith, ap (λ (k : ℕ). k * b) same, mod-eq-sub-div-mul count b, none, div-mul-le_self count b) in (
      record { bytes = take count piece; read = r.consumes; whole = omega (arith, length-take count piece, r.fits, whole) },
      λ zero_blocks.
          let none_at : 0 * b ≡ 0 = omega arith in
          let empty : count ≡ 0 = whole ∙ ap (λ (k : ℕ). k * b) zero_blocks ∙ none_at in
          r.end (omega (arith, empty, r.long, r.some, times-more 1 (piece_blocks b) b (omega arith))),
    )
