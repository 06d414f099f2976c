-- What is read from bytes where a batch stands, and where none does.
use Rattle.std.proofs.Common.{◌≡◌, ◌≢◌, ℕ, zero, suc, ◌+◌, ◌-◌, ◌*◌, ◌≤◌, ◌<◌, ◌^◌, Bool, true, false, leb, ltb, List, [], ◌∷◌, length, take, drop, Option, Some, None, Ok, Err, refl, sym, ap, ◌∙◌, arith}
use Rattle.std.proofs.lemmas.Bool.{le-leb, ltb-true, ltb-false}
use Rattle.std.proofs.lemmas.Nat.{mul-le}
use Rattle.std.proofs.Math.Nat.{add-mul, mul-le-mul_right}
use Rattle.std.proofs.lemmas.List.{drop-drop}
use Rattle.batch_log.specs.declared.fault.LogFault.{LogFault}
use Rattle.batch_log.specs.declared.fault.FaultAt.{FaultAt}
use Rattle.batch_log.specs.declared.header.Entry.{Entry}
use Rattle.batch_log.specs.Header.{Heading}
use Rattle.batch_log.specs.Reading.{heading_in}
use Rattle.batch_log.specs.Causes.{header_fault, is_zero}
use Rattle.batch_log.specs.Log.{data_count}
use Rattle.batch_log.specs.Ending.{Ending, ended, failed, foreign_ending, short_ending}
use Rattle.batch_log.specs.Lent.{Item, LentBatch, Reading, batch_at, begins, ending_at, items_of, need, or_else, read_from, torn_of, with_batch}
use Rattle.batch_log.proofs.EntryLaws.{few-data}

skipped : (size : ℕ) (full : Bool) (offset n : ℕ) (bs : List ℕ) → read_from size full offset n bs ≡ read_from size full offset 0 (drop n bs)
skipped size full offset zero [] = refl
skipped size full offset (suc n) [] = refl
skipped size full offset zero (b ∷ bs) = refl
skipped size full offset (suc n) (b ∷ bs) = skipped size full offset n bs

-- a reading with no batch
abbrev pub at_end : ℕ → Ending → Reading
at_end offset ending = record { batches = []; offset = offset; ending = ending }

-- if no batch begins, reading ends, or fails there
pub no_batch : (size : ℕ) (full : Bool) (offset : ℕ) (bytes : List ℕ) → bytes ≢ [] → begins size bytes ≡ false → read_from size full offset 0 bytes ≡ at_end offset (ending_at size full bytes)
no_batch size full offset [] some none = absurd (some refl)
no_batch size full offset (b ∷ bs) some none = rw none refl

begins-foreign : (size : ℕ) (bytes : List ℕ) (cause : LogFault) → header_fault (take size bytes) ≡ Some cause → begins size bytes ≡ false
begins-foreign size bytes cause e = rw e refl

-- no header block is in front
pub foreign : (size : ℕ) (full : Bool) (offset : ℕ) (bytes : List ℕ) (cause : LogFault) → bytes ≢ [] → header_fault (take size bytes) ≡ Some cause
    → read_from size full offset 0 bytes ≡ at_end offset (foreign_ending full cause (is_zero (take size bytes)) (is_zero (drop size bytes)))
foreign size full offset bytes cause some e = no_batch size full offset bytes some (begins-foreign size bytes cause e) ∙ rw e refl

-- a header block is in front, and too few blocks follow
pub short : (size : ℕ) (full : Bool) (offset : ℕ) (bytes : List ℕ) → bytes ≢ [] → header_fault (take size bytes) ≡ None → begins size bytes ≡ false
    → read_from size full offset 0 bytes ≡ at_end offset (short_ending full)
short size full offset bytes some e none = no_batch size full offset bytes some none ∙ rw e refl

one_more : (k : ℕ) (bs : List ℕ) (b : ℕ) → 1 ≤ k → drop k (b ∷ bs) ≡ drop (k - 1) bs
one_more zero bs b le = absurd (omega arith)
one_more (suc k) bs b le = ap (λ (n : ℕ). drop n bs) (omega arith)

-- a batch is in front
pub whole : (size : ℕ) (full : Bool) (offset : ℕ) (bytes : List ℕ) → 1 ≤ size → bytes ≢ [] → begins size bytes ≡ true
    → read_from size full offset 0 bytes ≡ with_batch (batch_at size offset bytes) (read_from size full (offset + 1 + need size bytes) 0 (drop (need size bytes * size) (drop size bytes)))
whole size full offset [] positive some is = absurd (some refl)
whole size full offset (b ∷ bs) positive some is =
    let k = size + need size (b ∷ bs) * size in
    let rest : drop (k - 1) bs ≡ drop (need size (b ∷ bs) * size) (drop size (b ∷ bs)) = sym (one_more k bs b (omega (arith, positive))) ∙ sym (drop-drop (need size (b ∷ bs) * size) size (b ∷ bs)) in
    rw is (ap (with_batch (batch_at size offset (b ∷ bs))) (skipped size full (offset + 1 + need size (b ∷ bs)) (k - 1) bs ∙ ap (read_from size full (offset + 1 + need size (b ∷ bs)) 0) rest))

-- what the iterator lends, and what it continues with
pub lent : (size : ℕ) (full : Bool) (offset : ℕ) (bytes block others body after : List ℕ) (heading : Heading) (count next : ℕ) → 1 ≤ size → bytes ≢ []
    → block ≡ take size bytes → others ≡ drop size bytes → header_fault block ≡ None → heading ≡ heading_in block → count ≡ data_count heading.entries
    → count * size ≤ length others → body ≡ take (count * size) others → after ≡ drop (count * size) others → next ≡ offset + 1 + count
    → read_from size full offset 0 bytes ≡ with_batch (record { offset = offset; heading = heading; body = body }) (read_from size full next 0 after)
lent size full offset bytes block others body after heading count next positive some block-is others-is no-fault heading-is count-is enough body-is after-is next-is =
    let header : header_fault (take size bytes) ≡ None = rw (← block-is) no-fault in
    let read : heading ≡ heading_in (take size bytes) = heading-is ∙ ap heading_in block-is in
    let needed : count ≡ need size bytes = count-is ∙ ap (λ (h : Heading). data_count h.entries) read in
    let fits : leb (need size bytes * size) (length (drop size bytes)) ≡ true = le-leb (need size bytes * size) (length (drop size bytes)) (rw (← needed, ← others-is) enough) in
    let is : begins size bytes ≡ true = rw (header, fits) refl in
    let batch : batch_at size offset bytes ≡ record { offset = offset; heading = heading; body = body } = rw (body-is, others-is, needed, read) refl in
    whole size full offset bytes positive some is ∙ rw (batch, next-is, after-is, others-is, needed) refl

-- ---- what is left at an end

-- what an iterator lends of a reading: its batches, and the fault that ended it
abbrev pub items : Reading → List Item
items r = items_of r.batches r.offset r.ending

-- where the torn tail begins that ended it
abbrev pub tail : Reading → Option ℕ
tail r = torn_of r.offset r.ending

-- a reading that fails lends its fault last
pub fails : (r : Reading) (offset : ℕ) (fault : LogFault) (told : Option ℕ) (result : FaultAt) → r ≡ at_end offset (failed fault) → result ≡ record { offset = offset; fault = fault }
    → (items r ≡ Err result ∷ []) × (told ≡ or_else (tail r) told)
fails r offset fault told result e is = rw (e, is) (refl, refl)

-- one that ends lends nothing more
pub ends : (r : Reading) (offset : ℕ) (told : Option ℕ) → r ≡ at_end offset ended → (items r ≡ []) × (told ≡ or_else (tail r) told)
ends r offset told e = rw e (refl, refl)

-- one that finds a batch lends it, and then what follows
pub goes_on : (r next : Reading) (batch : LentBatch) (told : Option ℕ) → r ≡ with_batch batch next → (items r ≡ Ok batch ∷ items next) × (or_else (tail next) told ≡ or_else (tail r) told)
goes_on r next batch told e = rw e (refl, refl)

-- ---- places

-- blocks that fit in what is left of a zone end within it
pub ends_within : (size bytes offset end count : ℕ) → 1 ≤ size → bytes + offset * size ≡ end * size → size + count * size ≤ bytes → offset + 1 + count ≤ end
ends_within size bytes offset end count positive total fits = by (ltb end (offset + 1 + count)) refl
  where
    by : (b : Bool) → ltb end (offset + 1 + count) ≡ b → offset + 1 + count ≤ end
    by true e =
        let less = ltb-true end (offset + 1 + count) e in
        let most : end ≤ offset + count = omega (arith, less) in
        let more : end * size ≤ (offset + count) * size = mul-le-mul_right size most in
        absurd (omega (arith, more, add-mul offset count size, total, fits, positive))
    by false e = ltb-false end (offset + 1 + count) e

-- how many bytes are left after a batch
pub left_after : (size bytes offset end count after : ℕ) → bytes + offset * size ≡ end * size → size + count * size ≤ bytes → after ≡ bytes - size - count * size → after + (offset + 1 + count) * size ≡ end * size
left_after size bytes offset end count after total fits is = omega (arith, is, total, fits, add-mul (offset + 1) count size, add-mul offset 1 size)

-- so many bytes fit 64 bits
pub few_bytes : (count size : ℕ) → count ≤ 2 ^ 29 → size < 2 ^ 32 → count * size < 2 ^ 64
few_bytes count size few small = let most : count * size ≤ 2 ^ 29 * 2 ^ 32 = mul-le count size (2 ^ 29) (2 ^ 32) few (omega arith) in omega (arith, most)

-- entries have no more blocks of data than there are entries
pub data-few : (es : List Entry) → data_count es ≤ length es
data-few [] = omega arith
data-few (e ∷ es) = omega (arith, data-few es, few-data e.trim)
