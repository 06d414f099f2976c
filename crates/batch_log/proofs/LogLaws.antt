-- A log that is encoded is read again, so a list of blocks has one log at most, and one tail.
use Rattle.std.proofs.Common.{◌≡◌, ◌⊎◌, inl, inr, ℕ, zero, suc, ◌+◌, ◌<◌, ◌≤◌, ◌^◌, Bool, true, false, leb, List, [], ◌∷◌, ◌++◌, length, take, drop, replicate, refl, sym, ap, ◌∙◌, append_assoc, arith}
use Rattle.std.specs.List.{flat_map, AllByRecursion}
use Rattle.std.proofs.lemmas.Bool.{le-leb, lt-leb, lt-ltb, le-ltb, ltb-true, ltb-false}
use Rattle.std.proofs.lemmas.List.{append-nil, take_at, drop_at, length-append, length-replicate, nil_from_length}
use Rattle.std.proofs.lemmas.List.Concat.{flat_map-append}
use Rattle.batch_log.specs.Header.{Heading, header_block}
use Rattle.batch_log.specs.Log.{Batch, BeginsWith, IsBatch, IsLog, IsTail, IsTorn, IsUntornTail, IsWholeLog, data_count, batch_blocks, log_size, zero_block, batch_in, begins_batch, log_from, log_of, tail_of}
use Rattle.batch_log.specs.Reading.{heading_in}
use Rattle.batch_log.specs.LogLaws.{OneLog, OneTail, NoTail, UntornLog, WholeLog, AppendBatch, AppendFront, Finish}
use Rattle.batch_log.proofs.HeaderLaws.{header_again}

skip_body : (body rest : List (List ℕ)) → log_from (length body) (body ++ rest) ≡ log_from 0 rest
skip_body [] rest = refl
skip_body (b ∷ bs) rest = skip_body bs rest

made : Heading → List (List ℕ) → Batch
made heading body = record { heading = heading; body = body }

same_batch : (h h' : Heading) (body body' : List (List ℕ)) → h ≡ h' → body ≡ body' → made h body ≡ made h' body'
unfolding made
same_batch h h' body body' e1 e2 = rw (e1, e2) refl

-- a header block begins with the magic
begins_magic : (size : ℕ) (h : Heading) (blocks : List (List ℕ)) → begins_batch (header_block size h) blocks ≡ leb (data_count (heading_in (header_block size h)).entries) (length blocks)
unfolding header_block
begins_magic size h blocks = refl

begins_right : (size : ℕ) (h : Heading) (blocks : List (List ℕ)) → data_count (heading_in (header_block size h)).entries ≤ length blocks
    → log_from 0 (header_block size h ∷ blocks) ≡ batch_in (header_block size h) blocks ∷ log_from (data_count (heading_in (header_block size h)).entries) blocks
begins_right size h blocks le = rw (begins_magic size h blocks, le-leb (data_count (heading_in (header_block size h)).entries) (length blocks) le) refl

batch_again : (size : ℕ) (b : Batch) (rest : List (List ℕ)) → size < 2 ^ 32 → IsBatch size b → batch_in (header_block size b.heading) (b.body ++ rest) ≡ b
unfolding made
batch_again size b rest small is =
    let heading = header_again size b.heading small is.heading in
    let body : take (data_count (heading_in (header_block size b.heading)).entries) (b.body ++ rest) ≡ b.body = rw heading (take_at b.body rest (data_count b.heading.entries) is.body) in
    same_batch _ _ _ _ heading body

log_from-encoded : (size : ℕ) (log : List Batch) (tail : List (List ℕ)) → size < 2 ^ 32 → AllByRecursion (IsBatch size) log → log_from 0 (flat_map (batch_blocks size) log ++ tail) ≡ log ++ log_from 0 tail
log_from-encoded size [] tail small all = refl
log_from-encoded size (b ∷ bs) tail small all =
    let block = header_block size b.heading in
    let rest = flat_map (batch_blocks size) bs ++ tail in
    let body = batch_again size b rest small all.0 in
    let heading = header_again size b.heading small all.0.heading in
    let skip : log_from (data_count (heading_in block).entries) (b.body ++ rest) ≡ log_from 0 rest = rw (heading, ← all.0.body) (skip_body b.body rest) in
    let others = log_from-encoded size bs tail small all.1 in
    let group : (b.body ++ flat_map (batch_blocks size) bs) ++ tail ≡ b.body ++ rest = append_assoc b.body (flat_map (batch_blocks size) bs) tail in
    let enough : data_count (heading_in block).entries ≤ length (b.body ++ rest) = rw heading (omega (arith, all.0.body, length-append b.body rest)) in
    let first = begins_right size b.heading (b.body ++ rest) enough in
    ap (λ (blocks : List (List ℕ)). log_from 0 (block ∷ blocks)) group ∙ first ∙ rw (body, skip, others) refl

-- zero blocks end the reading
zeros_end : (size rest : ℕ) → log_from 0 (replicate rest (zero_block size)) ≡ []
zeros_end size zero = refl
zeros_end zero (suc rest) = refl
zeros_end (suc size) (suc rest) = refl

-- so does a torn tail
torn_ends : (size : ℕ) (tail : List (List ℕ)) → size < 2 ^ 32 → IsTorn size tail → log_from 0 tail ≡ []
torn_ends size tail small torn =
    let block = header_block size torn.heading in
    let heading = header_again size torn.heading small torn.says in
    let count : data_count (heading_in block).entries ≡ data_count torn.heading.entries = ap (λ (h : Heading). data_count h.entries) heading in
    let more : leb (data_count (heading_in block).entries) (length torn.body) ≡ false = lt-leb _ _ (omega (arith, count, torn.few)) in
    rw torn.encoded (rw (begins_magic size torn.heading torn.body, more) refl)

tail_ends : (size : ℕ) (is_full : Bool) (tail : List (List ℕ)) → size < 2 ^ 32 → IsTail size is_full tail → log_from 0 tail ≡ []
tail_ends size false tail small (inl none) = rw none refl
tail_ends size false tail small (inr torn) = torn_ends size tail small torn
tail_ends size true tail small end = ap (log_from 0) end ∙ zeros_end size (length tail)

-- blocks have at most one log
pub one_log : OneLog
one_log size is_full blocks log small is =
    ap log_of is.front.encoded ∙ log_from-encoded size log is.tail small is.front.batches ∙ ap (λ (more : List Batch). log ++ more) (tail_ends size is_full is.tail small is.end) ∙ append-nil log

-- ---- the tail

-- the blocks of a log are as many as its size says
pub encoded_length : (size : ℕ) (log : List Batch) → AllByRecursion (IsBatch size) log → length (flat_map (batch_blocks size) log) ≡ log_size log
encoded_length size [] all = refl
encoded_length size (b ∷ bs) all = omega (arith, length-append b.body (flat_map (batch_blocks size) bs), all.0.body, encoded_length size bs all.1)

-- and at most one tail
pub one_tail : OneTail
one_tail size is_full blocks log small is =
    let read : log_size (log_of blocks) ≡ log_size log = ap log_size (one_log size is_full blocks log small is) in
    let long = encoded_length size log is.front.batches in
    sym (ap (λ (k : ℕ). drop k blocks) read ∙ ap (drop (log_size log)) is.front.encoded ∙ drop_at (flat_map (batch_blocks size) log) is.tail (log_size log) long)

-- a log with no tail is all of the blocks
pub whole_log : WholeLog
whole_log size is_full blocks log is = record { tail = []; front = is; end = none is_full }
  where
    none : (full : Bool) → IsTail size full []
    none false = inl refl
    none true = refl

-- a log's blocks are its batches' and its tail's
pub count_tail : (size : ℕ) (blocks tail : List (List ℕ)) (log : List Batch) → BeginsWith size blocks log tail → log_of blocks ≡ log → length blocks ≡ log_size (log_of blocks) + length tail
count_tail size blocks tail log front read = omega (arith, ap length front.encoded, length-append (flat_map (batch_blocks size) log) tail, encoded_length size log front.batches, ap log_size read)

-- blocks that are only batches have no tail
pub no_tail : NoTail
no_tail size blocks log small is = record {
  whole = λ none.
      let le = ltb-false (log_size (log_of blocks)) (length blocks) none in
      let nil = nil_from_length is.tail (omega (arith, le, count_tail size blocks is.tail log is.front (one_log size false blocks log small is))) in
      record { encoded = is.front.encoded ∙ ap (λ (t : List (List ℕ)). flat_map (batch_blocks size) log ++ t) nil; batches = is.front.batches };
  back = λ whole. le-ltb _ _ (omega (arith, count_tail size blocks [] log whole (one_log size false blocks log small (whole_log size false blocks log whole))));
  torn = λ some. torn_part is.end (ltb-true (log_size (log_of blocks)) (length blocks) some);
}
  where
    torn_part : (is.tail ≡ []) ⊎ IsTorn size is.tail → log_size (log_of blocks) < length blocks → IsTorn size (tail_of blocks)
    torn_part (inl nil) lt = absurd (omega (arith, lt, ap length nil, count_tail size blocks is.tail log is.front (one_log size false blocks log small is)))
    torn_part (inr torn) lt = rw (← one_tail size false blocks log small is) torn

-- a full zone has no torn tail
pub untorn_log : UntornLog
untorn_log size is_full blocks log = record {
  log_of_it = λ is. record { tail = is.tail; front = is.front; end = end is_full is.tail is.end };
  whole = λ is. record { encoded = is.front.encoded ∙ ap (λ (t : List (List ℕ)). flat_map (batch_blocks size) log ++ t) is.end; batches = is.front.batches };
  of_whole = λ is. record { tail = []; front = is; end = none is_full };
  of_full = λ is. record { tail = is.tail; front = is.front; end = is.end };
}
  where
    end : (full : Bool) (tail : List (List ℕ)) → IsUntornTail size full tail → IsTail size full tail
    end false tail e = inl e
    end true tail e = e

    none : (full : Bool) → IsUntornTail size full []
    none false = refl
    none true = refl

-- ---- changes

all_more : (size : ℕ) (log : List Batch) (b : Batch) → AllByRecursion (IsBatch size) log → IsBatch size b → AllByRecursion (IsBatch size) (log ++ b ∷ [])
all_more size [] b all is = (is, tt)
all_more size (l ∷ ls) b all is = (all.0, all_more size ls b all.1 is)

-- the blocks are the batches
encoded_alone : (size : ℕ) (blocks : List (List ℕ)) (log : List Batch) → IsWholeLog size blocks log → blocks ≡ flat_map (batch_blocks size) log
encoded_alone size blocks log is = is.encoded ∙ append-nil (flat_map (batch_blocks size) log)

-- an Append of a batch leaves the log with that batch
pub append_batch : AppendBatch
append_batch size blocks log b is batch = record {
  encoded = rw (encoded_alone size blocks log is) (sym (append-nil _ ∙ flat_map-append (batch_blocks size) log (b ∷ []) ∙ simp append-nil));
  batches = all_more size log b is.batches batch;
}

with_front : (size : ℕ) (blocks tail : List (List ℕ)) (log : List Batch) → IsWholeLog size blocks log → BeginsWith size (blocks ++ tail) log tail
with_front size blocks tail log is = record { encoded = ap (λ (front : List (List ℕ)). front ++ tail) (encoded_alone size blocks log is); batches = is.batches }

-- blocks after batches alone are their tail
with_tail : (size : ℕ) (is_full : Bool) (blocks tail : List (List ℕ)) (log : List Batch) → IsWholeLog size blocks log → IsTail size is_full tail → IsLog size is_full (blocks ++ tail) log
with_tail size is_full blocks tail log is end = record {
  tail = tail;
  front = with_front size blocks tail log is;
  end = end;
}

front_tail : (size j : ℕ) (b : Batch) → IsBatch size b → j < length (batch_blocks size b) → IsTail size false (take j (batch_blocks size b))
front_tail size zero b is lt = inl refl
front_tail size (suc j) b is lt = inr (record {
  heading = b.heading;
  body = take j b.body;
  says = is.heading;
  few = omega (arith, is.body, length_take j b.body (omega arith));
  encoded = refl;
})
  where
    length_take : (k : ℕ) (xs : List (List ℕ)) → k ≤ length xs → length (take k xs) ≡ k
    length_take zero xs le = refl
    length_take (suc k) [] le = absurd (omega arith)
    length_take (suc k) (x ∷ xs) le = omega (arith, length_take k xs (omega arith))

-- an Append that was torn leaves the log, and a torn tail
pub append_front : AppendFront
append_front size j blocks log b small is batch lt =
    let tail = take j (batch_blocks size b) in
    let made = with_tail size false blocks tail log is (front_tail size j b batch lt) in
    let count = count_tail size (blocks ++ tail) tail log (with_front size blocks tail log is) (one_log size false (blocks ++ tail) log small made) in
    record { kept = made; torn = λ some. lt-ltb _ _ (omega (arith, count, positive j some)) }
  where
    positive : (k : ℕ) → 1 ≤ k → 1 ≤ length (take k (batch_blocks size b))
    positive zero le = absurd (omega arith)
    positive (suc k) le = omega arith

-- a Finish leaves the log
pub finish : Finish
finish size rest blocks log is = with_tail size true blocks (replicate rest (zero_block size)) log is (rw length-replicate refl)
