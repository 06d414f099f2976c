-- What is read from a zone's bytes is what its blocks hold.
use Rattle.std.proofs.Common.{◌≡◌, ◌≢◌, ℕ, zero, suc, ◌+◌, ◌*◌, ◌<◌, ◌≤◌, ◌^◌, Bool, true, false, ◌&&◌, leb, List, [], ◌∷◌, ◌++◌, length, take, drop, Option, Some, None, refl, sym, ap, ◌∙◌, append_assoc, arith}
use Rattle.std.specs.Prelude.{◌==◌}
use Rattle.std.specs.List.{flat_map, list_all}
use Rattle.std.proofs.lemmas.Bool.{lt-leb, leb-true, leb-false}
use Rattle.std.proofs.lemmas.List.{drop_at, length-append, length-take, take_at, take-append-drop}
use Rattle.std.proofs.lemmas.List.Concat.{flat_map-append}
use Rattle.std.proofs.lemmas.List.Folds.{list_all-append}
use Rattle.std.proofs.Math.Nat.{add-mul, mul-le-mul_right}
use Rattle.batch_log.specs.declared.fault.LogFault.{LogFault}
use Rattle.batch_log.specs.Header.{Heading, IsHeaderBlock, head_size, header_block}
use Rattle.batch_log.specs.Reading.{heading_in}
use Rattle.batch_log.specs.Causes.{header_fault, is_zero}
use Rattle.batch_log.specs.Log.{Batch, BeginsWithNoBatch, batch_blocks, data_count, log_size}
use Rattle.batch_log.specs.Ending.{AreBlocks, ReadsLog, ending_of, foreign_ending, short_ending}
use Rattle.batch_log.specs.Lent.{AreRead, LentBatch, Reading, begins, bytes_of_blocks, items_of, lent_from, need, or_else, read_from, torn_of}
use Rattle.batch_log.proofs.HeaderLaws.{header_again}
use Rattle.batch_log.proofs.CauseLaws.{accepted, refused}
use Rattle.batch_log.proofs.LentLaws.{at_end, foreign, lent, short}

-- ---- blocks and their bytes

take-blocks : (size n : ℕ) (blocks : List (List ℕ)) → AreBlocks size blocks → AreBlocks size (take n blocks)
take-blocks size zero blocks all = tt
take-blocks size (suc n) [] all = tt
take-blocks size (suc n) (b ∷ bs) all = (all.0, take-blocks size n bs all.1)

bytes_length : (size : ℕ) (blocks : List (List ℕ)) → AreBlocks size blocks → length (bytes_of_blocks blocks) ≡ length blocks * size
bytes_length size [] all = omega arith
bytes_length size (b ∷ bs) all = omega (arith, length-append b (bytes_of_blocks bs), all.0.0, bytes_length size bs all.1, add-mul 1 (length bs) size)

split_bytes : (n : ℕ) (blocks : List (List ℕ)) → bytes_of_blocks blocks ≡ bytes_of_blocks (take n blocks) ++ bytes_of_blocks (drop n blocks)
split_bytes n blocks = ap bytes_of_blocks (sym (take-append-drop n blocks)) ∙ flat_map-append (λ (x : List ℕ). x) (take n blocks) (drop n blocks)

taken_length : (size n : ℕ) (blocks : List (List ℕ)) → AreBlocks size blocks → n ≤ length blocks → length (bytes_of_blocks (take n blocks)) ≡ n * size
taken_length size n blocks all le =
    let count : length (take n blocks) ≡ n = omega (arith, length-take n blocks) in
    bytes_length size (take n blocks) (take-blocks size n blocks all) ∙ ap (λ (k : ℕ). k * size) count

take_bytes : (size n : ℕ) (blocks : List (List ℕ)) → AreBlocks size blocks → n ≤ length blocks → take (n * size) (bytes_of_blocks blocks) ≡ bytes_of_blocks (take n blocks)
take_bytes size n blocks all le = ap (take (n * size)) (split_bytes n blocks) ∙ take_at (bytes_of_blocks (take n blocks)) (bytes_of_blocks (drop n blocks)) (n * size) (taken_length size n blocks all le)

drop_bytes : (size n : ℕ) (blocks : List (List ℕ)) → AreBlocks size blocks → n ≤ length blocks → drop (n * size) (bytes_of_blocks blocks) ≡ bytes_of_blocks (drop n blocks)
drop_bytes size n blocks all le = ap (drop (n * size)) (split_bytes n blocks) ∙ drop_at (bytes_of_blocks (take n blocks)) (bytes_of_blocks (drop n blocks)) (n * size) (taken_length size n blocks all le)

zero_bytes : (blocks : List (List ℕ)) → is_zero (bytes_of_blocks blocks) ≡ list_all is_zero blocks
zero_bytes [] = refl
zero_bytes (b ∷ bs) = list_all-append (λ (byte : ℕ). byte == 0) b (bytes_of_blocks bs) ∙ ap (λ (rest : Bool). is_zero b && rest) (zero_bytes bs)

-- ---- what is read where a block stands

-- the reading of bytes is that of these blocks, the first of which is at an offset
pub record ReadsFrom (size : ℕ) (full : Bool) (offset : ℕ) (blocks : List (List ℕ)) (r : Reading) : Type 0 where
  pub log : List Batch
  pub reads : ReadsLog size full blocks log r.ending
  pub batches : r.batches ≡ lent_from offset log
  pub offset_is : r.offset ≡ offset + log_size log

none_read : (size : ℕ) (full : Bool) (offset : ℕ) (blocks : List (List ℕ)) (r : Reading) → BeginsWithNoBatch size blocks → r ≡ at_end offset (ending_of full blocks) → ReadsFrom size full offset blocks r
none_read size full offset blocks r none e = record {
  log = [];
  reads = record { tail = blocks; front = record { encoded = refl; batches = tt }; no_more = none; ending_is = ap (λ (x : Reading). x.ending) e };
  batches = ap (λ (x : Reading). x.batches) e;
  offset_is = ap (λ (x : Reading). x.offset) e ∙ omega arith;
}

some_bytes : (size : ℕ) (b : List ℕ) (bs : List (List ℕ)) → head_size ≤ size → length b ≡ size → bytes_of_blocks (b ∷ bs) ≢ []
some_bytes size b bs le long e = absurd (omega (arith, ap length e, length-append b (bytes_of_blocks bs), long, le))

foreign_read : (size : ℕ) (full : Bool) (offset : ℕ) (b : List ℕ) (bs : List (List ℕ)) (cause : LogFault) → head_size ≤ size → size < 2 ^ 32 → AreBlocks size (b ∷ bs) → header_fault b ≡ Some cause
    → ReadsFrom size full offset (b ∷ bs) (read_from size full offset 0 (bytes_of_blocks (b ∷ bs)))
foreign_read size full offset b bs cause le small all e =
    let long = all.0.0 in
    let front : take size (bytes_of_blocks (b ∷ bs)) ≡ b = take_at b (bytes_of_blocks bs) size long in
    let back : drop size (bytes_of_blocks (b ∷ bs)) ≡ bytes_of_blocks bs = drop_at b (bytes_of_blocks bs) size long in
    let read = foreign size full offset (bytes_of_blocks (b ∷ bs)) cause (some_bytes size b bs le long) (ap header_fault front ∙ e) in
    let same : foreign_ending full cause (is_zero (take size (bytes_of_blocks (b ∷ bs)))) (is_zero (drop size (bytes_of_blocks (b ∷ bs)))) ≡ foreign_ending full cause (is_zero b) (list_all is_zero bs) = rw (front, back, zero_bytes bs) refl in
    let ending : foreign_ending full cause (is_zero b) (list_all is_zero bs) ≡ ending_of full (b ∷ bs) = rw e refl in
    none_read size full offset (b ∷ bs) _ none (read ∙ ap (at_end offset) (same ∙ ending))
  where
    none : BeginsWithNoBatch size (b ∷ bs)
    none batch others is h =
        let first : b ≡ header_block size batch.heading = cc in
        let sized : length b ≡ size = all.0.0 in
        refused b cause (omega (arith, sized)) e batch.heading (rw sized (record { says = is.heading; encoded = first }))

short_read : (size : ℕ) (full : Bool) (offset : ℕ) (b : List ℕ) (bs : List (List ℕ)) → head_size ≤ size → size < 2 ^ 32 → AreBlocks size (b ∷ bs) → header_fault b ≡ None → length bs < data_count (heading_in b).entries
    → ReadsFrom size full offset (b ∷ bs) (read_from size full offset 0 (bytes_of_blocks (b ∷ bs)))
short_read size full offset b bs le small all e few =
    let long = all.0.0 in
    let front : take size (bytes_of_blocks (b ∷ bs)) ≡ b = take_at b (bytes_of_blocks bs) size long in
    let back : drop size (bytes_of_blocks (b ∷ bs)) ≡ bytes_of_blocks bs = drop_at b (bytes_of_blocks bs) size long in
    let header = ap header_fault front ∙ e in
    let needed : need size (bytes_of_blocks (b ∷ bs)) ≡ data_count (heading_in b).entries = ap (λ (xs : List ℕ). data_count (heading_in xs).entries) front in
    let more : (length bs + 1) * size ≤ data_count (heading_in b).entries * size = mul-le-mul_right size (omega (arith, few)) in
    let less : leb (need size (bytes_of_blocks (b ∷ bs)) * size) (length (drop size (bytes_of_blocks (b ∷ bs)))) ≡ false =
    lt-leb _ _ (rw (needed, back) (omega (arith, bytes_length size bs all.1, more, add-mul (length bs) 1 size, le))) in
    let none_begins : begins size (bytes_of_blocks (b ∷ bs)) ≡ false = rw (header, less) refl in
    let read = short size full offset (bytes_of_blocks (b ∷ bs)) (some_bytes size b bs le long) header none_begins in
    let ending : short_ending full ≡ ending_of full (b ∷ bs) = rw e refl in
    none_read size full offset (b ∷ bs) _ none (read ∙ ap (at_end offset) ending)
  where
    none : BeginsWithNoBatch size (b ∷ bs)
    none batch others is h =
        let first : b ≡ header_block size batch.heading = cc in
        let rest : bs ≡ batch.body ++ others = cc in
        let same : heading_in b ≡ batch.heading = ap heading_in first ∙ header_again size batch.heading small is.heading in
        let count : data_count (heading_in b).entries ≡ data_count batch.heading.entries = ap (λ (k : Heading). data_count k.entries) same in
        absurd (omega (arith, ap length rest, length-append batch.body others, is.body, count, few))

batch_read : (size : ℕ) (full : Bool) (offset count : ℕ) (b : List ℕ) (bs : List (List ℕ)) → head_size ≤ size → AreBlocks size (b ∷ bs) → header_fault b ≡ None → count ≡ data_count (heading_in b).entries → count ≤ length bs
    → ReadsFrom size full (offset + 1 + count) (drop count bs) (read_from size full (offset + 1 + count) 0 (bytes_of_blocks (drop count bs)))
    → ReadsFrom size full offset (b ∷ bs) (read_from size full offset 0 (bytes_of_blocks (b ∷ bs)))
batch_read size full offset count b bs le all e count-is enough rest =
    let long = all.0.0 in
    let front : take size (bytes_of_blocks (b ∷ bs)) ≡ b = take_at b (bytes_of_blocks bs) size long in
    let back : drop size (bytes_of_blocks (b ∷ bs)) ≡ bytes_of_blocks bs = drop_at b (bytes_of_blocks bs) size long in
    let fits : count * size ≤ length (bytes_of_blocks bs) = rw (bytes_length size bs all.1) (mul-le-mul_right size enough) in
    let read = lent size full offset (bytes_of_blocks (b ∷ bs)) b (bytes_of_blocks bs) (bytes_of_blocks (take count bs)) (bytes_of_blocks (drop count bs)) (heading_in b) count (offset + 1 + count) (omega (arith, le)) (some_bytes size b bs le long)
    (sym front) (sym back) e refl count-is fits (sym (take_bytes size count bs all.1 enough)) (sym (drop_bytes size count bs all.1 enough)) refl in
    let view : IsHeaderBlock (length b) b (heading_in b) = (accepted b (omega (arith, long, le)) all.0.1 e).is in
    let is : IsHeaderBlock size b (heading_in b) = rw long at view in
    let body : length (take count bs) ≡ data_count (heading_in b).entries = omega (arith, length-take count bs, enough, count-is) in
    let batch : Batch = record { heading = heading_in b; body = take count bs } in
    let joined : bs ≡ take count bs ++ (flat_map (batch_blocks size) rest.log ++ rest.reads.tail) = sym (take-append-drop count bs) ∙ ap (λ (ys : List (List ℕ)). take count bs ++ ys) rest.reads.front.encoded in
    let group : take count bs ++ (flat_map (batch_blocks size) rest.log ++ rest.reads.tail) ≡ (take count bs ++ flat_map (batch_blocks size) rest.log) ++ rest.reads.tail = sym (append_assoc (take count bs) (flat_map (batch_blocks size) rest.log) rest.reads.tail) in
    record {
      log = batch ∷ rest.log;
      reads = record {
        tail = rest.reads.tail;
        front = record {
          encoded = ap (λ (x : List ℕ). x ∷ bs) is.encoded ∙ ap (λ (ys : List (List ℕ)). header_block size (heading_in b) ∷ ys) (joined ∙ group);
          batches = (record { heading = is.says; body = body }, rest.reads.front.batches);
        };
        no_more = rest.reads.no_more;
        ending_is = ap (λ (x : Reading). x.ending) read ∙ rest.reads.ending_is;
      };
      batches = ap (λ (x : Reading). x.batches) read ∙ ap (λ (ys : List LentBatch). record { offset = offset; heading = heading_in b; body = bytes_of_blocks (take count bs) } ∷ ys) (rest.batches ∙ ap (λ (k : ℕ). lent_from k rest.log) (omega (arith, count-is)));
      offset_is = ap (λ (x : Reading). x.offset) read ∙ omega (arith, rest.offset_is, count-is);
    }

reading-nil : (size : ℕ) (full : Bool) (offset : ℕ) → ReadsFrom size full offset [] (read_from size full offset 0 [])
reading-nil size full offset = none_read size full offset [] _ (λ batch others is h. absurd (cc)) refl

-- what is read of these bytes is what the blocks say, from an offset on
pub reading : (size : ℕ) (full : Bool) (offset skip : ℕ) (blocks : List (List ℕ)) → head_size ≤ size → size < 2 ^ 32 → AreBlocks size blocks
    → ReadsFrom size full offset (drop skip blocks) (read_from size full offset 0 (bytes_of_blocks (drop skip blocks)))
reading size full offset zero [] le small all = reading-nil size full offset
reading size full offset (suc skip) [] le small all = reading-nil size full offset
reading size full offset (suc skip) (b ∷ bs) le small all = reading size full offset skip bs le small all.1
reading size full offset zero (b ∷ bs) le small all = at (header_fault b) refl (λ k n. reading size full k n bs le small all.1)
  where
    at : (f : Option LogFault) → header_fault b ≡ f → ((k n : ℕ) → ReadsFrom size full k (drop n bs) (read_from size full k 0 (bytes_of_blocks (drop n bs)))) → ReadsFrom size full offset (b ∷ bs) (read_from size full offset 0 (bytes_of_blocks (b ∷ bs)))
    at (Some cause) e rest = foreign_read size full offset b bs cause le small all e
    at None e rest = by (leb (data_count (heading_in b).entries) (length bs)) refl
      where
        by : (t : Bool) → leb (data_count (heading_in b).entries) (length bs) ≡ t → ReadsFrom size full offset (b ∷ bs) (read_from size full offset 0 (bytes_of_blocks (b ∷ bs)))
        by true h = batch_read size full offset (data_count (heading_in b).entries) b bs le all e refl (leb-true _ _ h) (rest (offset + 1 + data_count (heading_in b).entries) (data_count (heading_in b).entries))
        by false h = short_read size full offset b bs le small all e (leb-false _ _ h)

or-none : (x : Option ℕ) → or_else x None ≡ x
or-none None = refl
or-none (Some n) = refl

-- the reading of a zone's bytes, from its first block on
pub all_read : (size : ℕ) (full : Bool) (bytes : List ℕ) (blocks : List (List ℕ)) → head_size ≤ size → size < 2 ^ 32 → AreBlocks size blocks → bytes_of_blocks blocks ≡ bytes
    → AreRead size full blocks (items_of (read_from size full 0 0 bytes).batches (read_from size full 0 0 bytes).offset (read_from size full 0 0 bytes).ending)
    (or_else (torn_of (read_from size full 0 0 bytes).offset (read_from size full 0 0 bytes).ending) None)
all_read size full bytes blocks le small all e =
    let found : ReadsFrom size full 0 blocks (read_from size full 0 0 bytes) = rw e at (reading size full 0 0 blocks le small all) in
    let r = read_from size full 0 0 bytes in
    let offset : r.offset ≡ log_size found.log = found.offset_is ∙ omega arith in
    record {
      log = found.log;
      ending = r.ending;
      reads = found.reads;
      items_are = ap (λ (bs : List LentBatch). items_of bs r.offset r.ending) found.batches ∙ ap (λ (n : ℕ). items_of (lent_from 0 found.log) n r.ending) offset;
      torn_is = or-none (torn_of r.offset r.ending) ∙ ap (λ (n : ℕ). torn_of n r.ending) offset;
    }
