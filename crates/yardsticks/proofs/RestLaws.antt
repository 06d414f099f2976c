-- What was read of a zone's blocks, what is left of them, and the tail that this may be.
use Rattle.std.proofs.Common.{◌≡◌, ◌⊎◌, inl, inr, ℕ, zero, suc, ◌+◌, ◌<◌, ◌≤◌, ◌^◌, Bool, true, false, ◌&&◌, not, ltb, eqb, List, [], ◌∷◌, ◌++◌, length, take, drop, map, replicate, refl, sym, ap, ◌∙◌, append_assoc, Vec, vec_len, arith}
use Rattle.std.specs.declared.alloc.Global.{Global}
use Rattle.std.specs.List.{flat_map, AllByRecursion}
use Rattle.std.proofs.lemmas.Bool.{cases_lt, le-ltb, lt-ltb, ne_eqb}
use Rattle.std.proofs.lemmas.List.{append-nil, length-append, length-map, drop-map, map_push}
use Rattle.std.proofs.lemmas.List.Concat.{flat_map-append}
use Rattle.batch_log.specs.Header.{Heading}
use Rattle.batch_log.specs.Log.{Batch, BeginsWith, BeginsWithNoBatch, HaveNoLog, IsBatch, IsLog, IsTail, IsTorn, batch_blocks, data_count, has_tail, log_of, log_size, zero_block}
use Rattle.batch_log.proofs.EndingLaws.{one_front, tail_none}
use Rattle.batch_log.proofs.LogLaws.{count_tail, one_log}
use Rattle.drive_array.proofs.AllLaws.{all-append}
use Rattle.yardsticks.specs.declared.batches.Batch as yardstick
use Rattle.yardsticks.specs.declared.batches.ZoneLog.{ZoneLog}
use Rattle.yardsticks.specs.Batches.{held_blocks, batch_of, BeginsWithBatch, IsFound}
use Rattle.yardsticks.proofs.BatchReading.{BeginWithHeader, begin_with}

abbrev HaveSize : ℕ → List (Vec ℕ Global) → Type 0
HaveSize size blocks = AllByRecursion (λ (block : Vec ℕ Global). vec_len block ≡ size) blocks

abbrev AreZero : List (Vec ℕ Global) → Type 0
AreZero blocks = AllByRecursion (λ (block : Vec ℕ Global). block.items ≡ zero_block (vec_len block)) blocks

zeros : (size : ℕ) (blocks : List (Vec ℕ Global)) → HaveSize size blocks → AreZero blocks → held_blocks blocks ≡ replicate (length blocks) (zero_block size)
zeros size [] sizes zero_all = refl
zeros size (b ∷ bs) sizes zero_all =
    let first : b.items ≡ zero_block size = zero_all.0 ∙ ap zero_block sizes.0 in
    rw (first, zeros size bs sizes.1 zero_all.1) refl

-- zeros are the tail of a full zone
pub tail_of_zeros : (size : ℕ) (blocks : List (Vec ℕ Global)) → HaveSize size blocks → AreZero blocks → IsTail size true (held_blocks blocks)
tail_of_zeros size blocks sizes zero_all = zeros size blocks sizes zero_all ∙ ap (λ (n : ℕ). replicate n (zero_block size)) (sym (length-map blocks (λ (block : Vec ℕ Global). block.items)))

are_zeros : (size rest : ℕ) (blocks : List (Vec ℕ Global)) → HaveSize size blocks → held_blocks blocks ≡ replicate rest (zero_block size) → AreZero blocks
are_zeros size rest [] sizes e = tt
are_zeros size zero (b ∷ bs) sizes e = absurd (cc)
are_zeros size (suc rest) (b ∷ bs) sizes e =
    let first : b.items ≡ zero_block size = cc in
    let others : held_blocks bs ≡ replicate rest (zero_block size) = cc in
    (first ∙ ap zero_block (sym sizes.0), are_zeros size rest bs sizes.1 others)

-- and its tail is zeros
pub zeros_of_tail : (size : ℕ) (blocks : List (Vec ℕ Global)) → HaveSize size blocks → IsTail size true (held_blocks blocks) → AreZero blocks
zeros_of_tail size blocks sizes is = are_zeros size (length (held_blocks blocks)) blocks sizes is

-- ---- what was read, and what is left

one_more_batch : (size : ℕ) (blocks rest : List (List ℕ)) (log : List Batch) (b : Batch) → BeginsWith size blocks log rest → BeginsWithBatch size rest b
    → BeginsWith size blocks (log ++ b ∷ []) (drop (suc (length b.body)) rest)
one_more_batch size blocks rest log b so_far begin =
    let left = drop (suc (length b.body)) rest in
    let all : flat_map (batch_blocks size) (log ++ b ∷ []) ≡ flat_map (batch_blocks size) log ++ batch_blocks size b = flat_map-append (batch_blocks size) log (b ∷ []) ∙ ap (λ (bs : List (List ℕ)). flat_map (batch_blocks size) log ++ bs) (append-nil (batch_blocks size b)) in
    record {
      encoded = so_far.encoded ∙ ap (λ (bs : List (List ℕ)). flat_map (batch_blocks size) log ++ bs) begin.encoded ∙ sym (append_assoc (flat_map (batch_blocks size) log) (batch_blocks size b) left) ∙ ap (λ (bs : List (List ℕ)). bs ++ left) (sym all);
      batches = all-append (IsBatch size) log (b ∷ []) so_far.batches (begin.fits, tt);
    }

-- a log of all blocks is what was read, and its tail is what is left
pub none_left : (size : ℕ) (is_full : Bool) (blocks rest : List (List ℕ)) (log : List Batch) → (size ≡ 512) ⊎ (size ≡ 4096) → BeginsWith size blocks log rest → BeginsWithNoBatch size rest
    → (IsTail size is_full rest → ⊥) → HaveNoLog size is_full blocks
none_left size is_full blocks rest log whole so_far no_batch not_tail all is =
    let small : size < 2 ^ 32 = omega arith in
    let same = one_front size log all rest is.tail small so_far.batches is.front.batches no_batch (tail_none size is_full is.tail small is.end) (sym so_far.encoded ∙ is.front.encoded) in
    not_tail (rw same.tail_is at is.end)

not_zero-ltb : (a b n : ℕ) → b ≡ a + n → ltb a b ≡ not (eqb n 0)
not_zero-ltb a b zero e = le-ltb a b (omega arith)
not_zero-ltb a b (suc n) e = lt-ltb a b (omega arith) ∙ sym (ap not (ne_eqb (suc n) 0 (λ same. absurd (omega arith))))

-- so a torn tail is what is left, if that is not nothing
pub log_found : (size : ℕ) (is_full : Bool) (blocks : List (List ℕ)) (rest : List (Vec ℕ Global)) (log : ZoneLog) → (size ≡ 512) ⊎ (size ≡ 4096) → BeginsWith size blocks (map batch_of log.batches.items) (held_blocks rest)
    → IsTail size is_full (held_blocks rest) → log.is_torn ≡ (not is_full && not (eqb (length rest) 0)) → IsFound size is_full blocks log
log_found size is_full blocks rest log whole so_far end torn =
    let is : IsLog size is_full blocks (map batch_of log.batches.items) = record { tail = held_blocks rest; front = so_far; end = end } in
    let read = one_log size is_full blocks (map batch_of log.batches.items) (omega arith) is in
    let count = count_tail size blocks (held_blocks rest) (map batch_of log.batches.items) so_far read in
    let items = length-map rest (λ (block : Vec ℕ Global). block.items) in
    let tail : has_tail blocks ≡ not (eqb (length rest) 0) = not_zero-ltb (log_size (log_of blocks)) (length blocks) (length rest) (omega (arith, count, items)) in
    record { log_is = is; torn_is = rw tail torn }

-- ---- torn tails

-- a header with too little data is torn
pub torn_is : (size : ℕ) (blocks behind : List (List ℕ)) (h : Heading) → BeginWithHeader size blocks h behind → BeginsWithNoBatch size blocks → IsTorn size blocks
torn_is size blocks behind h begin none = by (cases_lt (length behind) (data_count h.entries))
  where
    by : (length behind < data_count h.entries) ⊎ (data_count h.entries ≤ length behind) → IsTorn size blocks
    by (inl few) = record { heading = h; body = behind; says = begin.says; few = few; encoded = begin.encoded }
    by (inr enough) =
        let batch : Batch = record { heading = h; body = take (data_count h.entries) behind } in
        let begins : BeginsWithBatch size blocks batch = begin_with size blocks behind (take (data_count h.entries) behind) h begin enough refl in
        absurd (none batch (drop (suc (length batch.body)) blocks) begins.fits begins.encoded)

-- the tail of another zone is torn, if any
pub tail_torn : (size : ℕ) (blocks : List (Vec ℕ Global)) (none : Bool) → none ≡ false → none ≡ eqb (length blocks) 0 → IsTail size false (held_blocks blocks) → IsTorn size (held_blocks blocks)
tail_torn size [] none some is tail = absurd (let bad : true ≡ false = sym is ∙ some in cc)
tail_torn size (b ∷ bs) none some is (inl nothing) = absurd (let bad : b.items ∷ held_blocks bs ≡ [] = nothing in cc)
tail_torn size (b ∷ bs) none some is (inr torn) = torn

-- ---- a batch that was read

batch_fits : (size : ℕ) (blocks : List (Vec ℕ Global)) (b : Batch) → BeginsWithBatch size (held_blocks blocks) b → suc (length b.body) ≤ length blocks
batch_fits size blocks b begin =
    let all : length (held_blocks blocks) ≡ length (batch_blocks size b ++ drop (suc (length b.body)) (held_blocks blocks)) = ap length begin.encoded in
    omega (arith, all, length-append (batch_blocks size b) (drop (suc (length b.body)) (held_blocks blocks)), length-map blocks (λ (block : Vec ℕ Global). block.items))

-- what is left of whole blocks is whole
pub sizes_behind : (size n : ℕ) (blocks : List (Vec ℕ Global)) → HaveSize size blocks → HaveSize size (drop n blocks)
sizes_behind size zero blocks sizes = sizes
sizes_behind size (suc n) [] sizes = tt
sizes_behind size (suc n) (b ∷ bs) sizes = sizes_behind size n bs sizes.1

-- how many blocks a batch takes
count_of : (batch : yardstick.Batch) (n : ℕ) → n ≡ vec_len batch.body → 1 + n ≡ suc (length (batch_of batch).body)
count_of batch n is = let items = length-map batch.body.items (λ (block : Vec ℕ Global). block.items) in omega (arith, is, batch.body.ok.0)

-- a batch ends within the blocks
pub batch_ends : (size : ℕ) (rest : List (Vec ℕ Global)) (batch : yardstick.Batch) (n : ℕ) → BeginsWithBatch size (held_blocks rest) (batch_of batch) → n ≡ vec_len batch.body → 1 + n ≤ length rest
batch_ends size rest batch n begin is = let fits = batch_fits size rest (batch_of batch) begin in let count = count_of batch n is in omega arith

-- one batch more was read
pub batch_read : (size : ℕ) (blocks : List (List ℕ)) (log now : List yardstick.Batch) (rest left : List (Vec ℕ Global)) (batch : yardstick.Batch) (n : ℕ)
    → BeginsWith size blocks (map batch_of log) (held_blocks rest) → BeginsWithBatch size (held_blocks rest) (batch_of batch)
    → now ≡ log ++ batch ∷ [] → n ≡ vec_len batch.body → left ≡ drop (1 + n) rest → BeginsWith size blocks (map batch_of now) (held_blocks left)
batch_read size blocks log now rest left batch n so_far begin more is behind =
    let logs : map batch_of now ≡ map batch_of log ++ batch_of batch ∷ [] = ap (map batch_of) more ∙ map_push batch_of log batch in
    let blocks-left : held_blocks left ≡ drop (suc (length (batch_of batch).body)) (held_blocks rest) =
    ap held_blocks behind ∙ sym (drop-map (λ (block : Vec ℕ Global). block.items) (1 + n) rest) ∙ ap (λ (k : ℕ). drop k (held_blocks rest)) (count_of batch n is) in
    rw (logs, blocks-left) (one_more_batch size blocks (held_blocks rest) (map batch_of log) (batch_of batch) so_far begin)
