-- Blocks are read in one way, and how they end says whether they have a log.
use Rattle.std.proofs.Common.{◌≡◌, inl, inr, ℕ, zero, suc, ◌<◌, ◌≤◌, ◌^◌, Bool, true, false, leb, List, [], ◌∷◌, ◌++◌, length, take, drop, replicate, Option, Some, None, refl, sym, ap, ◌∙◌, append_assoc, arith}
use Rattle.std.specs.List.{flat_map, list_all, AllByRecursion}
use Rattle.std.proofs.lemmas.Bool.{leb-true, leb-false, and_parts}
use Rattle.std.proofs.lemmas.List.{drop_at, length-append, length-take, take_at, take-append-drop}
use Rattle.batch_log.specs.declared.fault.LogFault.{LogFault}
use Rattle.batch_log.specs.declared.fault.LogFault.TheVariants.{Magic}
use Rattle.batch_log.specs.Header.{Heading, IsHeaderBlock, head_size, header_block}
use Rattle.batch_log.specs.Reading.{heading_in}
use Rattle.batch_log.specs.Causes.{header_fault, is_zero}
use Rattle.batch_log.specs.Log.{Batch, BeginsWithNoBatch, IsBatch, IsLog, IsTail, IsTorn, IsUntornTail, batch_blocks, data_count, zero_block}
use Rattle.batch_log.specs.Ending.{AreBlocks, ended, ending_by, ending_of, failed, foreign_ending, torn}
use Rattle.batch_log.specs.LogLaws.{OneReading, ReadingSays}
use Rattle.batch_log.proofs.HeaderLaws.{header_length, one_header}
use Rattle.batch_log.proofs.CauseLaws.{accepted, all_zeros, no_fault, zeros_zero}
use Rattle.batch_log.proofs.LogLaws.{one_tail}

-- ---- one reading

-- the batches in front, and what is left if no batch begins
pub record SameFront (log log' : List Batch) (tail tail' : List (List ℕ)) : Type 0 where
  pub log_is : log' ≡ log
  pub tail_is : tail' ≡ tail

same_first : (b c : Batch) (bs cs : List Batch) → b.heading ≡ c.heading → b.body ≡ c.body → cs ≡ bs → c ∷ cs ≡ b ∷ bs
same_first b c bs cs e1 e2 e3 =
    let made : Heading → List (List ℕ) → Batch = λ h body. record { heading = h; body = body } in
    let head : c ≡ b = ap (λ (h : Heading). made h c.body) (sym e1) ∙ ap (made b.heading) (sym e2) in
    ap (λ (x : Batch). x ∷ cs) head ∙ ap (λ (xs : List Batch). b ∷ xs) e3

-- blocks begin with the batches of one log alone, before what begins with none
pub one_front : (size : ℕ) (log log' : List Batch) (tail tail' : List (List ℕ)) → size < 2 ^ 32 → AllByRecursion (IsBatch size) log → AllByRecursion (IsBatch size) log'
    → BeginsWithNoBatch size tail → BeginsWithNoBatch size tail' → flat_map (batch_blocks size) log ++ tail ≡ flat_map (batch_blocks size) log' ++ tail' → SameFront log log' tail tail'
one_front size [] [] tail tail' small all all' none none' e = record { log_is = refl; tail_is = sym e }
one_front size [] (c ∷ cs) tail tail' small all all' none none' e =
    absurd (none c (flat_map (batch_blocks size) cs ++ tail') all'.0 (e ∙ append_assoc (batch_blocks size c) (flat_map (batch_blocks size) cs) tail'))
one_front size (b ∷ bs) [] tail tail' small all all' none none' e =
    absurd (none' b (flat_map (batch_blocks size) bs ++ tail) all.0 (sym e ∙ append_assoc (batch_blocks size b) (flat_map (batch_blocks size) bs) tail))
one_front size (b ∷ bs) (c ∷ cs) tail tail' small all all' none none' e =
    let rest = flat_map (batch_blocks size) bs ++ tail in
    let rest' = flat_map (batch_blocks size) cs ++ tail' in
    let group : (b.body ++ flat_map (batch_blocks size) bs) ++ tail ≡ b.body ++ rest = append_assoc b.body (flat_map (batch_blocks size) bs) tail in
    let group' : (c.body ++ flat_map (batch_blocks size) cs) ++ tail' ≡ c.body ++ rest' = append_assoc c.body (flat_map (batch_blocks size) cs) tail' in
    let first : header_block size b.heading ≡ header_block size c.heading = cc in
    let others : (b.body ++ flat_map (batch_blocks size) bs) ++ tail ≡ (c.body ++ flat_map (batch_blocks size) cs) ++ tail' = cc in
    let heading = one_header size b.heading c.heading small all.0.heading all'.0.heading first in
    let count : length c.body ≡ length b.body = all'.0.body ∙ sym (all.0.body ∙ ap (λ (h : Heading). data_count h.entries) heading) in
    let both : b.body ++ rest ≡ c.body ++ rest' = sym group ∙ others ∙ group' in
    let body : b.body ≡ c.body = sym (take_at b.body rest (length b.body) refl) ∙ ap (take (length b.body)) both ∙ take_at c.body rest' (length b.body) count in
    let left : rest ≡ rest' = sym (drop_at b.body rest (length b.body) refl) ∙ ap (drop (length b.body)) both ∙ drop_at c.body rest' (length b.body) count in
    let more = one_front size bs cs tail tail' small all.1 all'.1 none none' left in
    record { log_is = same_first b c bs cs heading body more.log_is; tail_is = more.tail_is }

-- blocks are read in one way
pub one_reading : OneReading
one_reading size full blocks log other ending end small reads reads' =
    let same = one_front size log other reads.tail reads'.tail small reads.front.batches reads'.front.batches reads.no_more reads'.no_more (sym reads.front.encoded ∙ reads'.front.encoded) in
    record { log_is = same.log_is; ending_is = reads'.ending_is ∙ ap (ending_of full) same.tail_is ∙ sym reads.ending_is }

-- ---- a tail of a log begins with no batch, and ends it

not_zero : (size : ℕ) (h : Heading) → header_block size h ≡ zero_block size → ⊥
unfolding header_block
not_zero zero h e = absurd (cc)
not_zero (suc size) h e = absurd (cc)

torn_none : (size : ℕ) (tail : List (List ℕ)) → size < 2 ^ 32 → IsTorn size tail → BeginsWithNoBatch size tail
torn_none size tail small is batch others fits e =
    let same : header_block size is.heading ∷ is.body ≡ header_block size batch.heading ∷ (batch.body ++ others) = sym is.encoded ∙ e in
    let first : header_block size is.heading ≡ header_block size batch.heading = cc in
    let rest : is.body ≡ batch.body ++ others = cc in
    let count : data_count is.heading.entries ≡ data_count batch.heading.entries = ap (λ (k : Heading). data_count k.entries) (one_header size is.heading batch.heading small is.says fits.heading first) in
    absurd (omega (arith, ap length rest, length-append batch.body others, fits.body, count, is.few))

zeros_none : (size n : ℕ) (batch : Batch) (others : List (List ℕ)) → replicate n (zero_block size) ≡ batch_blocks size batch ++ others → ⊥
zeros_none size zero batch others e = absurd (cc)
zeros_none size (suc n) batch others e = let first : zero_block size ≡ header_block size batch.heading = cc in not_zero size batch.heading (sym first)

-- a tail begins with no batch
pub tail_none : (size : ℕ) (full : Bool) (tail : List (List ℕ)) → size < 2 ^ 32 → IsTail size full tail → BeginsWithNoBatch size tail
tail_none size false tail small (inl none) batch others fits e = let h : [] ≡ batch_blocks size batch ++ others = sym none ∙ e in absurd (cc)
tail_none size false tail small (inr is) batch others fits e = torn_none size tail small is batch others fits e
tail_none size true tail small end batch others fits e = zeros_none size (length tail) batch others (sym end ∙ e)

zero_fault : (size : ℕ) → header_fault (zero_block (suc size)) ≡ Some Magic
unfolding header_fault
zero_fault size = refl

zeros_all : (size n : ℕ) → list_all is_zero (replicate n (zero_block size)) ≡ true
zeros_all size zero = refl
zeros_all size (suc n) = rw (zeros_zero size) (zeros_all size n)

zeros_end : (size n : ℕ) → ending_of true (replicate n (zero_block (suc size))) ≡ ended
zeros_end size zero = refl
zeros_end size (suc n) = rw (zero_fault size, zeros_zero size, zeros_all (suc size) n) refl

-- and it is no fault
pub never_fails : (size : ℕ) (full : Bool) (tail : List (List ℕ)) (fault : LogFault) → head_size ≤ size → size < 2 ^ 32 → IsTail size full tail → ending_of full tail ≡ failed fault → ⊥
never_fails size false tail fault le small (inl none) e = let h : ended ≡ failed fault = rw none at e in absurd (cc)
never_fails size false tail fault le small (inr is) e =
    let long = header_length size is.heading le is.says in
    let view : IsHeaderBlock (length (header_block size is.heading)) (header_block size is.heading) is.heading = rw long (record { says = is.says; encoded = refl }) in
    let fine = no_fault (header_block size is.heading) is.heading (omega (arith, long)) view in
    let begun : ending_of false (header_block size is.heading ∷ is.body) ≡ torn = rw fine refl in
    let h : torn ≡ failed fault = sym begun ∙ ap (ending_of false) (sym is.encoded) ∙ e in
    absurd (cc)
never_fails zero true tail fault le small end e = absurd (omega arith)
never_fails (suc size) true tail fault le small end e = let h : ended ≡ failed fault = sym (zeros_end size (length tail)) ∙ ap (ending_of true) (sym end) ∙ e in absurd (cc)

-- ---- what an ending says

tail_blocks : (size : ℕ) (xs ys : List (List ℕ)) → AreBlocks size (xs ++ ys) → AreBlocks size ys
tail_blocks size [] ys all = all
tail_blocks size (x ∷ xs) ys all = tail_blocks size xs ys all.1

-- only zeros
blocks_of_zeros : (size : ℕ) (blocks : List (List ℕ)) → AreBlocks size blocks → list_all is_zero blocks ≡ true → blocks ≡ replicate (length blocks) (zero_block size)
blocks_of_zeros size [] all e = refl
blocks_of_zeros size (b ∷ bs) all e =
    let both = and_parts (is_zero b) (list_all is_zero bs) e in
    let first : b ≡ zero_block size = all_zeros b both.0 ∙ ap zero_block all.0.0 in
    ap (λ (x : List ℕ). x ∷ bs) first ∙ ap (λ (xs : List (List ℕ)). zero_block size ∷ xs) (blocks_of_zeros size bs all.1 both.1)

foreign_ends : (full : Bool) (cause : LogFault) (z zs : Bool) → foreign_ending full cause z zs ≡ ended → (full ≡ true) × (z ≡ true) × (zs ≡ true)
foreign_ends true cause true true e = (refl, refl, refl)
foreign_ends true cause true false e = absurd (cc)
foreign_ends true cause false zs e = absurd (cc)
foreign_ends false cause z zs e = absurd (cc)

foreign_never_torn : (full : Bool) (cause : LogFault) (z zs : Bool) → foreign_ending full cause z zs ≡ torn → ⊥
foreign_never_torn true cause true true e = absurd (cc)
foreign_never_torn true cause true false e = absurd (cc)
foreign_never_torn true cause false zs e = absurd (cc)
foreign_never_torn false cause z zs e = absurd (cc)

ended_tail : (size : ℕ) (full : Bool) (tail : List (List ℕ)) → AreBlocks size tail → ending_of full tail ≡ ended → IsUntornTail size full tail
ended_tail size false [] all e = refl
ended_tail size true [] all e = refl
ended_tail size full (b ∷ bs) all e = at (header_fault b) refl
  where
    at : (f : Option LogFault) → header_fault b ≡ f → IsUntornTail size full (b ∷ bs)
    at None h = short_never full (rw h at e)
      where
        short_never : (t : Bool) → ending_by None t (is_zero b) (list_all is_zero bs) ≡ ended → IsUntornTail size full (b ∷ bs)
        short_never true x = absurd (cc)
        short_never false x = absurd (cc)
    at (Some cause) h =
        let zeros = foreign_ends full cause (is_zero b) (list_all is_zero bs) (rw h at e) in
        let all_of : list_all is_zero (b ∷ bs) ≡ true = rw (zeros.1, zeros.2) refl in
        rw zeros.0 (blocks_of_zeros size (b ∷ bs) all all_of)

torn_tail : (size : ℕ) (full : Bool) (tail : List (List ℕ)) → head_size ≤ size → size < 2 ^ 32 → AreBlocks size tail → BeginsWithNoBatch size tail → ending_of full tail ≡ torn → (full ≡ false) × IsTorn size tail
torn_tail size full [] le small all none e = absurd (cc)
torn_tail size full (b ∷ bs) le small all none e = at (header_fault b) refl
  where
    at : (f : Option LogFault) → header_fault b ≡ f → (full ≡ false) × IsTorn size (b ∷ bs)
    at (Some cause) h = absurd (foreign_never_torn full cause (is_zero b) (list_all is_zero bs) (rw h at e))
    at None h =
        let view : IsHeaderBlock (length b) b (heading_in b) = (accepted b (omega (arith, all.0.0, le)) all.0.1 h).is in
        let is : IsHeaderBlock size b (heading_in b) = rw all.0.0 at view in
        (not_full full (rw h at e), by (leb (data_count (heading_in b).entries) (length bs)) refl is)
      where
        not_full : (t : Bool) → ending_by None t (is_zero b) (list_all is_zero bs) ≡ torn → t ≡ false
        not_full true x = absurd (cc)
        not_full false x = refl

        by : (t : Bool) → leb (data_count (heading_in b).entries) (length bs) ≡ t → IsHeaderBlock size b (heading_in b) → IsTorn size (b ∷ bs)
        by false x is = record { heading = heading_in b; body = bs; says = is.says; few = leb-false _ _ x; encoded = ap (λ (y : List ℕ). y ∷ bs) is.encoded }
        by true x is =
            let n = data_count (heading_in b).entries in
            let enough = leb-true n (length bs) x in
            let whole : b ∷ bs ≡ header_block size (heading_in b) ∷ (take n bs ++ drop n bs) = ap (λ (y : List ℕ). y ∷ bs) is.encoded ∙ ap (λ (ys : List (List ℕ)). header_block size (heading_in b) ∷ ys) (sym (take-append-drop n bs)) in
            absurd (none (record { heading = heading_in b; body = take n bs }) (drop n bs) (record { heading = is.says; body = omega (arith, length-take n bs, enough) }) whole)

-- what is read are the batches of the log, and whether its tail is torn
pub reading_says : ReadingSays
reading_says size full blocks log ended le small all reads =
    let tail = tail_blocks size (flat_map (batch_blocks size) log) reads.tail (rw reads.front.encoded at all) in
    record { tail = reads.tail; front = reads.front; end = ended_tail size full reads.tail tail (sym reads.ending_is) }
reading_says size full blocks log torn le small all reads =
    let tail = tail_blocks size (flat_map (batch_blocks size) log) reads.tail (rw reads.front.encoded at all) in
    let both = torn_tail size full reads.tail le small tail reads.no_more (sym reads.ending_is) in
    let is : IsLog size false blocks log = record { tail = reads.tail; front = reads.front; end = inr both.1 } in
    record { not_full = both.0; log_is = is; tail = rw (← one_tail size false blocks log small is) both.1 }
reading_says size full blocks log (failed fault) le small all reads = λ other is.
    let same = one_front size log other reads.tail is.tail small reads.front.batches is.front.batches reads.no_more (tail_none size full is.tail small is.end) (sym reads.front.encoded ∙ is.front.encoded) in
    never_fails size full is.tail fault le small is.end (ap (ending_of full) same.tail_is ∙ sym reads.ending_is)
