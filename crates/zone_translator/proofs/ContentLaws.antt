-- What is written to blocks: its bytes, cut into blocks, and what a batch of it tells.
use Rattle.std.proofs.Common.{◌≡◌, ℕ, zero, suc, ◌+◌, ◌-◌, ◌*◌, ◌≤◌, Bool, true, List, [], ◌∷◌, length, take, drop, replicate, refl, sym, ap, ◌∙◌, arith}
use Rattle.std.proofs.lemmas.List.{drop-drop, length-drop, length-replicate, length-take}
use Rattle.std.proofs.Math.Nat.{add-mul}
use Rattle.zone_states.specs.Zone.{cut_blocks}
use Rattle.zone_states.proofs.Cutting.{length-cut, cut-front}
use Rattle.batch_log.specs.Log.{data_count, zero_block}
use Rattle.logical_map.specs.declared.place.Place.{Place}
use Rattle.zone_choice.specs.Builder.{entries_from}
use Rattle.zone_choice.specs.Changes.{told_over}
use Rattle.zone_translator.specs.declared.write.Content.{Content}
use Rattle.zone_translator.specs.declared.write.Content.TheVariants.{Byte, Bytes, Trim}
use Rattle.zone_translator.specs.Batches.{IsAfter, HasBlocks, blocks_of, bytes_of, is_trim}
use Rattle.zone_translator.specs.Changes.{Names}
use Rattle.zone_translator.specs.Flat.{replaced}
use Rattle.zone_translator.proofs.BatchLaws.{data_count-entries, data_count-trims, host_batch, told-data, told-trims}

-- blocks that are all of one byte
take-replicate : (a b x : ℕ) → take a (replicate (a + b) x) ≡ replicate a x
take-replicate zero b x = refl
take-replicate (suc a) b x = let e : suc a + b ≡ suc (a + b) = omega arith in rw e (ap (λ (xs : List ℕ). x ∷ xs) (take-replicate a b x))

drop-replicate : (a b x : ℕ) → drop a (replicate (a + b) x) ≡ replicate b x
drop-replicate zero b x = let e : 0 + b ≡ b = omega arith in rw e refl
drop-replicate (suc a) b x = let e : suc a + b ≡ suc (a + b) = omega arith in rw e (drop-replicate a b x)

-- equal bytes are cut to equal blocks
pub cut-replicate : (size count x : ℕ) → cut_blocks size count (replicate (count * size) x) ≡ replicate count (replicate size x)
cut-replicate size zero x = refl
cut-replicate size (suc count) x =
    let e : suc count * size ≡ size + count * size = omega (arith, add-mul count 1 size) in
    rw (e, take-replicate size (count * size) x, drop-replicate size (count * size) x) (ap (λ (bs : List (List ℕ)). replicate size x ∷ bs) (cut-replicate size count x))

-- the first blocks are cut from the first bytes
take-take : {X : Type 0} → (n m : ℕ) (xs : List X) → n ≤ m → take n (take m xs) ≡ take n xs
take-take zero m xs le = refl
take-take (suc n) zero xs le = absurd (omega arith)
take-take (suc n) (suc m) [] le = refl
take-take {X} (suc n) (suc m) (x ∷ xs) le = ap (λ (ys : List X). x ∷ ys) (take-take n m xs (omega arith))

-- the first of equal elements are equal
take-less : {X : Type 0} (a n : ℕ) (x : X) → a ≤ n → take a (replicate n x) ≡ replicate a x
take-less zero n x le = refl
take-less (suc a) zero x le = absurd (omega arith)
take-less {X} (suc a) (suc n) x le = ap (λ (xs : List X). x ∷ xs) (take-less a n x (omega arith))

-- blocks that are all the same
drop-replicates : {X : Type 0} (a b n : ℕ) (x : X) → n ≡ a + b → drop a (replicate n x) ≡ replicate b x
drop-replicates zero b n x e = let same : n ≡ b = omega arith in rw same refl
drop-replicates (suc a) b zero x e = absurd (omega arith)
drop-replicates (suc a) b (suc n) x e = drop-replicates a b n x (omega arith)

-- blocks that are cut from bytes
pub cut-drop : (size n done left : ℕ) (bytes : List ℕ) → n ≡ done + left → cut_blocks size left (drop (done * size) bytes) ≡ drop done (cut_blocks size n bytes)
cut-drop size n zero left bytes e = let same : n ≡ left = omega arith in let none : 0 * size ≡ 0 = omega arith in rw (same, none) refl
cut-drop size zero (suc done) left bytes e = absurd (omega arith)
cut-drop size (suc n) (suc done) left bytes e =
    let k : suc done * size ≡ size + done * size = omega (arith, add-mul done 1 size) in
    let moved : drop (size + done * size) bytes ≡ drop (done * size) (drop size bytes) = sym (drop-drop (done * size) size bytes) in
    rw (k, moved) (cut-drop size n done left (drop size bytes) (omega arith))

-- the bytes of the first blocks
fewer-blocks : (block count left : ℕ) → count ≤ left → count * block ≤ left * block
fewer-blocks block zero left le = omega arith
fewer-blocks block (suc count) zero le = absurd (omega arith)
fewer-blocks block (suc count) (suc left) le = let rest = fewer-blocks block count left (omega arith) in omega (arith, rest, add-mul count 1 block, add-mul left 1 block)

-- ---- what is written

-- there are as many blocks as are left
pub length-blocks : (block n : ℕ) (content : Content) → length (blocks_of block n content) ≡ n
length-blocks block n (Byte byte) = length-replicate n (replicate block byte)
length-blocks block n (Bytes bytes) = length-cut block n bytes.now
length-blocks block n Trim = length-replicate n (zero_block block)

-- as many as the entries of the batch have data of
pub length-content : (block first count left : ℕ) (content : Content) → count ≤ left → HasBlocks block left content → length (bytes_of (count * block) content) ≡ data_count (entries_from (is_trim content) first count) * block
length-content block first count left (Byte byte) le whole = rw data_count-entries (length-replicate (count * block) byte)
length-content block first count left (Bytes bytes) le whole = rw data_count-entries (omega (arith, fewer-blocks block count left le, whole, length-take (count * block) bytes.now))
length-content block first count left Trim le whole = rw data_count-trims (omega arith)

-- and the batch tells the first of its blocks
pub tells-content : (block size sequence first count left : ℕ) (content : Content) (xs : List (List ℕ)) → count ≤ left → HasBlocks block left content → length xs ≡ size → first + count ≤ size
    → told_over block (host_batch size sequence (is_trim content) first count (cut_blocks block (data_count (entries_from (is_trim content) first count)) (bytes_of (count * block) content))) xs ≡ replaced xs first (take count (blocks_of block left content))
tells-content block size sequence first count left (Byte byte) xs le whole same within =
    rw (data_count-entries, cut-replicate, take-less count left (replicate block byte) le) (told-data block size sequence first count (replicate count (replicate block byte)) xs (length-replicate count (replicate block byte)) same within)
tells-content block size sequence first count left (Bytes bytes) xs le whole same within =
    rw (data_count-entries, ← cut-front block left count bytes.now le) (told-data block size sequence first count (cut_blocks block count (take (count * block) bytes.now)) xs (length-cut block count (take (count * block) bytes.now)) same within)
tells-content block size sequence first count left Trim xs le whole same within =
    rw (take-less count left (zero_block block) le) (told-trims block size sequence first count (cut_blocks block (data_count (entries_from true first count)) []) xs same within)

-- ---- what is left of it after some blocks

-- what is left of whole blocks is whole
pub rest-whole : (block n done : ℕ) (content rest : Content) → done ≤ n → HasBlocks block n content → IsAfter (done * block) content rest → HasBlocks block (n - done) rest
rest-whole block n done (Byte byte) (Byte same) le whole is = tt
rest-whole block n done (Bytes bytes) (Bytes rest) le whole is =
    let split : n ≡ done + (n - done) = omega (arith, le) in
    let sum : n * block ≡ done * block + (n - done) * block = ap (λ (k : ℕ). k * block) split ∙ add-mul done (n - done) block in
    omega (arith, ap length is, length-drop (done * block) bytes.now, whole, sum)
rest-whole block n done Trim Trim le whole is = tt
rest-whole block n done (Byte byte) (Bytes rest) le whole is = absurd is
rest-whole block n done (Byte byte) Trim le whole is = absurd is
rest-whole block n done (Bytes bytes) (Byte same) le whole is = absurd is
rest-whole block n done (Bytes bytes) Trim le whole is = absurd is
rest-whole block n done Trim (Byte same) le whole is = absurd is
rest-whole block n done Trim (Bytes rest) le whole is = absurd is

-- it is of the same kind, and its blocks are those that are left
pub record IsRest (block n done : ℕ) (content rest : Content) : Type 0 where
  pub trim : is_trim rest ≡ is_trim content
  pub blocks : blocks_of block (n - done) rest ≡ drop done (blocks_of block n content)

-- and it is the rest of the content
pub rest-is : (block n done : ℕ) (content rest : Content) → done ≤ n → IsAfter (done * block) content rest → IsRest block n done content rest
rest-is block n done (Byte byte) (Byte same) le is = rw is (record { trim = refl; blocks = sym (drop-replicates done (n - done) n (replicate block byte) (omega (arith, le))) })
rest-is block n done (Bytes bytes) (Bytes rest) le is = record { trim = refl; blocks = rw is (cut-drop block n done (n - done) bytes.now (omega (arith, le))) }
rest-is block n done Trim Trim le is = record { trim = refl; blocks = sym (drop-replicates done (n - done) n (zero_block block) (omega (arith, le))) }
rest-is block n done (Byte byte) (Bytes rest) le is = absurd is
rest-is block n done (Byte byte) Trim le is = absurd is
rest-is block n done (Bytes bytes) (Byte same) le is = absurd is
rest-is block n done (Bytes bytes) Trim le is = absurd is
rest-is block n done Trim (Byte same) le is = absurd is
rest-is block n done Trim (Bytes rest) le is = absurd is

-- the blocks that a batch took are as many as it counts
pub took-names : (trim : Bool) (old new : List Place) (first count left block : ℕ) (content : Content) → count ≤ left → Names trim old first (length (take count (blocks_of block left content))) new → Names trim old first count new
took-names trim old new first count left block content le names =
    let took : length (take count (blocks_of block left content)) ≡ count = omega (arith, length-take count (blocks_of block left content), length-blocks block left content, le) in
    rw took at names
