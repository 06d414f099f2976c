-- The headers of a zone are taken, one after the other.
use Rattle.std.proofs.Common.{◌≡◌, ℕ, zero, suc, ◌+◌, ◌<◌, ◌≤◌, ◌^◌, inl, inr, not, ◌&&◌, nat_lt, Bool, true, false, List, [], ◌∷◌, ◌++◌, length, take, drop, get_or, Option, Some, None, refl, sym, ap, ◌∙◌, arith, append_assoc, append-nil}
use Rattle.std.proofs.lemmas.List.{length-append, length-take}
use Rattle.std.specs.List.{flat_map}
use Rattle.std.proofs.lemmas.Bool.{le-ltb, lt-ltb}
use Rattle.std.specs.Ordering.{nat_cmp}
use Rattle.std.specs.BTreeSet.{insert_key}
use Rattle.zone_states.specs.declared.geometry.Geometry.{Geometry}
use Rattle.drive_port.specs.Contents.{Content, is_full}
use Rattle.batch_log.specs.Header.{Heading, IsHeaderBlock, header_block}
use Rattle.batch_log.specs.Ending.{Ending, ending_of}
use Rattle.batch_log.specs.Log.{Batch, BeginsWith, BeginsWithNoBatch, IsBatch, IsLog, IsTail, batch_blocks, data_count, log_of, log_size}
use Rattle.batch_log.proofs.HeaderLaws.{one_header}
use Rattle.batch_log.proofs.LogLaws.{count_tail, one_log, encoded_length}
use Rattle.drive_array.proofs.AllLaws.{all-append}
use Rattle.drive_array.specs.ZoneLogs.{has_torn_tail, readable, zone_log}
use Rattle.drive_array.proofs.ZoneLogLaws.{readable-not_full}
use Rattle.drive_survey.specs.declared.fault.MountFault.{MountFault}
use Rattle.drive_survey.specs.Heads.{HeadsView, heads_after, heads_of, no_heads, with_heading}
use Rattle.drive_survey.specs.Scan.{FailsIn, Scans, Takes, ending_fault, heading_fault, log_fault, fault_or, seen_with}

-- ---- one batch more

-- the headers of a log with a batch more are the log's headers and the batch's
pub heads-more : (view : HeadsView) (log : List Batch) (batch : Batch) → heads_after view (log ++ batch ∷ []) ≡ with_heading (heads_after view log) batch.heading
heads-more view [] batch = refl
heads-more view (b ∷ bs) batch = heads-more (with_heading view b.heading) bs batch

seen-more : (seen : List ℕ) (log : List Batch) (batch : Batch) → seen_with seen (log ++ batch ∷ []) ≡ insert_key nat_cmp (seen_with seen log) batch.heading.sequence
seen-more seen [] batch = refl
seen-more seen (b ∷ bs) batch = seen-more (insert_key nat_cmp seen b.heading.sequence) bs batch

-- the first of two faults is none only if both are none
pub or-none : (a b : Option MountFault) → fault_or a b ≡ None → (a ≡ None) × (b ≡ None)
or-none None b is = (refl, is)
or-none (Some a) b is = absurd (cc)

or-nothing : (a : Option MountFault) → fault_or a None ≡ a
or-nothing None = refl
or-nothing (Some a) = refl

fault-more : (seen : List ℕ) (log : List Batch) (batch : Batch) → log_fault seen log ≡ None → log_fault seen (log ++ batch ∷ []) ≡ heading_fault (seen_with seen log) batch.heading
fault-more seen [] batch none = or-nothing (heading_fault seen batch.heading)
fault-more seen (b ∷ bs) batch none =
    let both = or-none (heading_fault seen b.heading) (log_fault (insert_key nat_cmp seen b.heading.sequence) bs) none in
    rw both.0 (fault-more (insert_key nat_cmp seen b.heading.sequence) bs batch both.1)

blocks-after : (view : HeadsView) (log : List Batch) → (heads_after view log).blocks ≡ view.blocks + log_size log
blocks-after view [] = omega arith
blocks-after view (b ∷ bs) = blocks-after (with_heading view b.heading) bs ∙ omega arith

-- the headers of a log count the blocks that its batches take
pub blocks-are : (log : List Batch) → (heads_of log).blocks ≡ log_size log
blocks-are log = blocks-after no_heads log ∙ omega arith

drop-all-of : {X : Type 0} (xs ys : List X) → drop (length xs) (xs ++ ys) ≡ ys
drop-all-of [] ys = refl
drop-all-of (x ∷ xs) ys = drop-all-of xs ys

flat-more : (size : ℕ) (log : List Batch) (batch : Batch) (rest : List (List ℕ)) → flat_map (batch_blocks size) log ++ (batch_blocks size batch ++ rest) ≡ flat_map (batch_blocks size) (log ++ batch ∷ []) ++ rest
flat-more size [] batch rest = ap (λ (bs : List (List ℕ)). bs ++ rest) (sym (append-nil (batch_blocks size batch)))
flat-more size (b ∷ bs) batch rest =
    append_assoc (batch_blocks size b) (flat_map (batch_blocks size) bs) (batch_blocks size batch ++ rest)
    ∙ ap (λ (xs : List (List ℕ)). batch_blocks size b ++ xs) (flat-more size bs batch rest)
    ∙ sym (append_assoc (batch_blocks size b) (flat_map (batch_blocks size) (bs ++ batch ∷ [])) rest)

-- what is after the batches
pub rest-is : (size : ℕ) (blocks rest : List (List ℕ)) (log : List Batch) → BeginsWith size blocks log rest → rest ≡ drop (log_size log) blocks
rest-is size blocks rest log front =
    let long = encoded_length size log front.batches in
    sym (ap (λ (bs : List (List ℕ)). drop (log_size log) bs) front.encoded ∙ ap (λ (n : ℕ). drop n (flat_map (batch_blocks size) log ++ rest)) (sym long) ∙ drop-all-of (flat_map (batch_blocks size) log) rest)

-- ---- the front grows

abbrev batch_with : Heading → List (List ℕ) → Batch
batch_with heading others = record { heading = heading; body = take (data_count heading.entries) others }

split-at : {X : Type 0} (n : ℕ) (xs : List X) → xs ≡ take n xs ++ drop n xs
split-at {X = X} zero xs = refl
split-at {X = X} (suc n) [] = refl
split-at {X = X} (suc n) (x ∷ xs) = ap (λ (ys : List X). x ∷ ys) (split-at n xs)

front-more : (size : ℕ) (blocks others : List (List ℕ)) (block : List ℕ) (log : List Batch) (heading : Heading) → BeginsWith size blocks log (block ∷ others) → IsHeaderBlock size block heading → data_count heading.entries ≤ length others
    → BeginsWith size blocks (log ++ batch_with heading others ∷ []) (drop (data_count heading.entries) others)
front-more size blocks others block log heading front header enough =
    let batch = batch_with heading others in
    let after = drop (data_count heading.entries) others in
    let whole : block ∷ others ≡ batch_blocks size batch ++ after = ap (λ (b : List ℕ). b ∷ others) header.encoded ∙ ap (λ (bs : List (List ℕ)). header_block size heading ∷ bs) (split-at (data_count heading.entries) others) in
    record {
      encoded = front.encoded ∙ ap (λ (bs : List (List ℕ)). flat_map (batch_blocks size) log ++ bs) whole ∙ flat-more size log batch after;
      batches = all-append (IsBatch size) log (batch ∷ []) front.batches (record { heading = header.says; body = length-take (data_count heading.entries) others ∙ omega (arith, enough) }, tt);
    }

-- ---- the states of a scan

-- at the start of a zone no header was taken
pub takes-none : (geometry : Geometry) (content : Content) (before : List ℕ) → Takes geometry content before no_heads before
takes-none geometry content before = record { log = []; rest = readable geometry content; front = record { encoded = refl; batches = tt }; heads_are = refl; seen_are = refl; none = refl }

-- a header without a fault, with enough blocks after it, is taken as the next one
pub takes-more : (geometry : Geometry) (content : Content) (before seen : List ℕ) (heads : HeadsView) (block : List ℕ) (others : List (List ℕ)) (heading : Heading)
    → drop heads.blocks (readable geometry content) ≡ block ∷ others → IsHeaderBlock geometry.block block heading → data_count heading.entries ≤ length others → heading_fault seen heading ≡ None
    → Takes geometry content before heads seen → Takes geometry content before (with_heading heads heading) (insert_key nat_cmp seen heading.sequence)
takes-more geometry content before seen heads block others heading split header enough passes t =
    let at : heads.blocks ≡ log_size t.log = ap (λ (v : HeadsView). v.blocks) t.heads_are ∙ blocks-are t.log in
    let rest : t.rest ≡ block ∷ others = rest-is geometry.block (readable geometry content) t.rest t.log t.front ∙ ap (λ (n : ℕ). drop n (readable geometry content)) (sym at) ∙ split in
    let front : BeginsWith geometry.block (readable geometry content) t.log (block ∷ others) = rw rest at t.front in
    let batch = batch_with heading others in
    record {
      log = t.log ++ batch ∷ [];
      rest = drop (data_count heading.entries) others;
      front = front-more geometry.block (readable geometry content) others block t.log heading front header enough;
      heads_are = ap (λ (v : HeadsView). with_heading v heading) t.heads_are ∙ sym (heads-more no_heads t.log batch);
      seen_are = ap (λ (s : List ℕ). insert_key nat_cmp s heading.sequence) t.seen_are ∙ sym (seen-more before t.log batch);
      none = fault-more before t.log batch t.none ∙ ap (λ (s : List ℕ). heading_fault s heading) (sym t.seen_are) ∙ passes;
    }

-- a batch has the first fault
pub takes-fault : (geometry : Geometry) (content : Content) (zone : ℕ) (before seen : List ℕ) (heads : HeadsView) (block : List ℕ) (others : List (List ℕ)) (heading : Heading) (fault : MountFault)
    → drop heads.blocks (readable geometry content) ≡ block ∷ others → IsHeaderBlock geometry.block block heading → data_count heading.entries ≤ length others → heading_fault seen heading ≡ Some fault
    → Takes geometry content before heads seen → FailsIn geometry content zone before fault
takes-fault geometry content zone before seen heads block others heading fault split header enough fails t =
    let at : heads.blocks ≡ log_size t.log = ap (λ (v : HeadsView). v.blocks) t.heads_are ∙ blocks-are t.log in
    let rest : t.rest ≡ block ∷ others = rest-is geometry.block (readable geometry content) t.rest t.log t.front ∙ ap (λ (n : ℕ). drop n (readable geometry content)) (sym at) ∙ split in
    let front : BeginsWith geometry.block (readable geometry content) t.log (block ∷ others) = rw rest at t.front in
    let batch = batch_with heading others in
    record {
      log = t.log ++ batch ∷ [];
      rest = drop (data_count heading.entries) others;
      front = front-more geometry.block (readable geometry content) others block t.log heading front header enough;
      first = inl (fault-more before t.log batch t.none ∙ ap (λ (s : List ℕ). heading_fault s heading) (sym t.seen_are) ∙ fails);
    }

-- the batches end without a fault, or at one
record Ends (geometry : Geometry) (content : Content) (heads : HeadsView) (log : List Batch) (rest : List (List ℕ)) : Type 0 where
  at : heads.blocks ≡ log_size log
  rest_is : rest ≡ drop heads.blocks (readable geometry content)

ends : (geometry : Geometry) (content : Content) (before seen : List ℕ) (heads : HeadsView) (t : Takes geometry content before heads seen) → Ends geometry content heads t.log t.rest
ends geometry content before seen heads t =
    let at : heads.blocks ≡ log_size t.log = ap (λ (v : HeadsView). v.blocks) t.heads_are ∙ blocks-are t.log in
    record { at = at; rest_is = rest-is geometry.block (readable geometry content) t.rest t.log t.front ∙ ap (λ (n : ℕ). drop n (readable geometry content)) (sym at) }

-- whether a torn tail is there
torn-is : (geometry : Geometry) (content : Content) (log : List Batch) (rest : List (List ℕ)) (full told : Bool) → geometry.block < 2 ^ 32 → is_full content.usage ≡ full → BeginsWith geometry.block (readable geometry content) log rest
    → log_of (readable geometry content) ≡ log → told ≡ (not full && nat_lt 0 (length rest)) → told ≡ has_torn_tail content
unfolding has_torn_tail
torn-is geometry content log rest true told small full front one is = rw full is
torn-is geometry content log rest false told small full front one is =
    let blocks : readable geometry content ≡ content.blocks = readable-not_full geometry content full in
    let front' : BeginsWith geometry.block content.blocks log rest = rw blocks at front in
    let one' : log_of content.blocks ≡ log = rw blocks at one in
    let count = count_tail geometry.block content.blocks rest log front' one' in
    rw full (is ∙ at (length rest) (log_size (log_of content.blocks)) (length content.blocks) count)
  where
    at : (tail size all : ℕ) → all ≡ size + tail → nat_lt 0 tail ≡ nat_lt size all
    at zero size all e = sym (le-ltb size all (omega (arith, e)))
    at (suc n) size all e = lt-ltb 0 (suc n) (omega arith) ∙ sym (lt-ltb size all (omega (arith, e)))

-- a zone is scanned once only a tail is left after the headers that were taken
pub takes-all : (geometry : Geometry) (content : Content) (before seen : List ℕ) (heads : HeadsView) (told : Bool) → geometry.block < 2 ^ 32
    → IsTail geometry.block (is_full content.usage) (drop heads.blocks (readable geometry content)) → told ≡ (not (is_full content.usage) && nat_lt 0 (length (drop heads.blocks (readable geometry content))))
    → Takes geometry content before heads seen → Scans geometry content before heads told seen
unfolding zone_log
takes-all geometry content before seen heads told small tail is t =
    let e = ends geometry content before seen heads t in
    let log : IsLog geometry.block (is_full content.usage) (readable geometry content) t.log = record { tail = t.rest; front = t.front; end = rw e.rest_is tail } in
    let one : log_of (readable geometry content) ≡ t.log = one_log geometry.block (is_full content.usage) (readable geometry content) t.log small log in
    record {
      has = rw one log;
      none = rw one t.none;
      heads_are = rw one t.heads_are;
      torn_is = torn-is geometry content t.log t.rest (is_full content.usage) told small refl t.front one (rw e.rest_is is);
      seen_are = rw one t.seen_are;
    }

-- if the batches end at a fault, it is the first of the zone
pub takes-bad : (geometry : Geometry) (content : Content) (zone : ℕ) (before seen : List ℕ) (heads : HeadsView) (ending : Ending) (fault : MountFault)
    → BeginsWithNoBatch geometry.block (drop heads.blocks (readable geometry content)) → ending ≡ ending_of (is_full content.usage) (drop heads.blocks (readable geometry content))
    → ending_fault zone heads.blocks ending ≡ Some fault
    → Takes geometry content before heads seen → FailsIn geometry content zone before fault
takes-bad geometry content zone before seen heads ending fault no_more is fails t =
    let e = ends geometry content before seen heads t in
    record {
      log = t.log;
      rest = t.rest;
      front = t.front;
      first = inr (t.none, rw e.rest_is no_more, rw (e.rest_is, ← is, ← e.at) fails);
    }

-- ---- if no batch begins

-- a header block with too few blocks after it begins no batch
pub short-begins : (size : ℕ) (block : List ℕ) (others : List (List ℕ)) (heading : Heading) → size < 2 ^ 32 → IsHeaderBlock size block heading → length others < data_count heading.entries → BeginsWithNoBatch size (block ∷ others)
short-begins size block others heading small header few batch after is encoded =
    let same : block ≡ header_block size batch.heading = ap (λ (bs : List (List ℕ)). get_or bs 0 []) encoded in
    let one : heading ≡ batch.heading = one_header size heading batch.heading small header.says is.heading (sym header.encoded ∙ same) in
    let long : length others ≡ length (batch.body ++ after) = ap (λ (bs : List (List ℕ)). length (drop 1 bs)) encoded in
    let count : data_count heading.entries ≡ data_count batch.heading.entries = ap (λ (h : Heading). data_count h.entries) one in
    absurd (omega (arith, few, long, count, is.body, length-append batch.body after))
