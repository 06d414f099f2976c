-- What a rescue gives of a drive that can be mounted.
use Rattle.std.proofs.Common.{◌≡◌, ◌⊎◌, inl, inr, ℕ, zero, suc, ◌+◌, ◌-◌, ◌<◌, ◌≤◌, ◌^◌, nat_lt, nat_le, Bool, true, false, List, [], ◌∷◌, ◌++◌, map, length, take, drop, get_or, replicate, Some, None, refl, sym, ap, subst, ◌∙◌, arith, append_assoc, append-nil}
use Rattle.std.specs.Prelude.{filter}
use Rattle.std.specs.List.{AllByRecursion, concat, flat_map, range_with_len}
use Rattle.std.proofs.lemmas.Bool.{lt-ltb, le-leb}
use Rattle.std.proofs.lemmas.Bool.Decides.{nat_tests}
use Rattle.std.proofs.lemmas.List.{drop_at, get_or_at, get_or-append_right, get_or-replicate, length-append, length-map, length-take-le, map-append, take_all, take_at, take_more}
use Rattle.std.proofs.lemmas.List.Concat.{flat_map-append}
use Rattle.std.proofs.lemmas.List.Folds.{concat-append}
use Rattle.batch_log.specs.declared.fault.LogFault.TheVariants.{Magic}
use Rattle.batch_log.specs.Causes.{header_fault, is_zero}
use Rattle.batch_log.specs.Header.{Heading, IsHeading, head_size, header_block}
use Rattle.batch_log.specs.Log.{Batch, IsBatch, IsLog, IsTail, IsTorn, batch_blocks, batch_size, data_count, log_size, zero_block}
use Rattle.batch_log.specs.Reading.{heading_in}
use Rattle.batch_log.proofs.CauseLaws.{no_fault, zeros_zero}
use Rattle.batch_log.proofs.HeaderLaws.{header_again, header_length}
use Rattle.batch_log.proofs.LogLaws.{encoded_length}
use Rattle.drive_array.specs.Records.{Record, batch_records, log_records, newest, records, shown, told}
use Rattle.drive_array.specs.Sizes.{greatest, larger, log_greatest, encoded_size, size_or}
use Rattle.drive_array.specs.Mountable.{IsMountable}
use Rattle.drive_array.specs.ZoneLogs.{HasLog, drive_logs, encoded, encoded_array, log_at, log_sequences, readable, zone_log}
use Rattle.drive_array.proofs.AllLaws.{all-at}
use Rattle.drive_array.proofs.SequenceLaws.{zone-sequences}
use Rattle.drive_array.proofs.ZoneLogLaws.{log_at-zone}
use Rattle.drive_port.specs.Contents.{Content, content_of, contents, is_full, is_usable, nothing, usage_of}
use Rattle.drive_port.specs.Drive.{DriveState}
use Rattle.drive_port.specs.Step.{zone_at}
use Rattle.drive_port.proofs.ClosingLaws.{content_at-contents}
use Rattle.nvme_wire.specs.declared.zone_state.ZoneState.{ZoneState}
use Rattle.nvme_wire.specs.declared.zone_state.ZoneState.TheVariants as states
use Rattle.zone_states.specs.declared.geometry.Geometry.{Geometry}
use Rattle.zone_states.specs.Geometry.{IsInRange}
use Rattle.zone_states.specs.Zone.{Zone}
use Rattle.drive_array.proofs.SizeLaws.{larger-assoc}
use Rattle.drive_rescue.specs.declared.search.Trail.TheVariants.{Whole}
use Rattle.drive_rescue.specs.Searching.{Finding, Found, Place, Reaches, begins, looks, after_header, after_reading, batch_at, begun, found_records, found_size, is_lost, Searched, at_first, one_more, ended, with_batch, with_tail, with_zeros}
use Rattle.drive_rescue.specs.Laws.{MountableIsGiven}
use Rattle.drive_rescue.specs.Rescue.{Gives, no_block, shows, loses, may_be_older, newness, older_blocks}
use Rattle.drive_rescue.specs.Zones.{Damage, IsUndamaged, ReadZone, read_zone, read_zones, zone_with}
use Rattle.drive_rescue.proofs.CutLaws.{cut-same}
use Rattle.drive_rescue.proofs.RangeLaws.{range-more}

-- ---- the batches of a log, as they are found

abbrev pub found_in : ℕ → ℕ → List Batch → List Found
found_in zone offset [] = []
found_in zone offset (b ∷ log) = record { zone = zone; offset = offset; batch = b } ∷ found_in zone (offset + batch_size b) log

pub found-more : (zone offset next : ℕ) (log : List Batch) (b : Batch) → next ≡ offset + log_size log
    → found_in zone offset (log ++ b ∷ []) ≡ found_in zone offset log ++ record { zone = zone; offset = next; batch = b } ∷ []
found-more zone offset next [] b e = let same : next ≡ offset = omega arith in rw same refl
found-more zone offset next (x ∷ log) b e = ap (λ (fs : List Found). record { zone = zone; offset = offset; batch = x } ∷ fs) (found-more zone (offset + batch_size x) next log b (omega arith))

pub records-found : (zone offset : ℕ) (log : List Batch) → found_records (found_in zone offset log) ≡ log_records zone offset log
records-found zone offset [] = refl
records-found zone offset (b ∷ log) = ap (λ (rs : List Record). batch_records zone offset b ++ rs) (records-found zone (offset + batch_size b) log)

pub size-found : (zone offset : ℕ) (log : List Batch) → found_size (found_in zone offset log) ≡ log_greatest log
size-found zone offset [] = refl
size-found zone offset (b ∷ log) = ap (larger b.heading.size) (size-found zone (offset + batch_size b) log)

abbrev pub found_all : ℕ → List (List Batch) → List Found
found_all first [] = []
found_all first (log ∷ logs) = found_in first 0 log ++ found_all (suc first) logs

pub all-more : (first next : ℕ) (logs : List (List Batch)) (log : List Batch) → next ≡ first + length logs → found_all first (logs ++ log ∷ []) ≡ found_all first logs ++ found_in next 0 log
all-more first next [] log e = let same : next ≡ first = omega arith in rw same (append-nil (found_in first 0 log))
all-more first next (x ∷ logs) log e =
    ap (λ (fs : List Found). found_in first 0 x ++ fs) (all-more (suc first) next logs log (omega arith)) ∙ sym (append_assoc (found_in first 0 x) (found_all (suc first) logs) (found_in next 0 log))

records-append : (xs ys : List Found) → found_records (xs ++ ys) ≡ found_records xs ++ found_records ys
records-append xs ys = flat_map-append (λ (f : Found). batch_records f.zone f.offset f.batch) xs ys

pub records-all : (first : ℕ) (logs : List (List Batch)) → found_records (found_all first logs) ≡ records first logs
records-all first [] = refl
records-all first (log ∷ logs) = records-append (found_in first 0 log) (found_all (suc first) logs) ∙ rw (records-found first 0 log, records-all (suc first) logs) refl

size-append : (xs ys : List Found) → found_size (xs ++ ys) ≡ larger (found_size xs) (found_size ys)
size-append [] ys = refl
size-append (x ∷ xs) ys = ap (larger x.batch.heading.size) (size-append xs ys) ∙ larger-assoc x.batch.heading.size (found_size xs) (found_size ys)

pub size-all : (first : ℕ) (logs : List (List Batch)) → found_size (found_all first logs) ≡ greatest logs
size-all first [] = refl
size-all first (log ∷ logs) = size-append (found_in first 0 log) (found_all (suc first) logs) ∙ rw (size-found first 0 log, size-all (suc first) logs) refl

-- ---- a batch of a log

-- Where a batch of a log is: its header block, its data after it, and all of them in the zone.
record Placed (b : ℕ) (zone : ReadZone) (offset : ℕ) (batch : Batch) : Type 0 where
  header : get_or zone.blocks offset [] ≡ header_block b batch.heading
  body : take (data_count batch.heading.entries) (drop (offset + 1) zone.blocks) ≡ batch.body
  inside : offset + 1 + data_count batch.heading.entries ≤ length zone.blocks

parts : (P : Batch → Type 0) (xs : List Batch) (y : Batch) (ys : List Batch) → AllByRecursion P (xs ++ y ∷ ys) → AllByRecursion P xs × P y
parts P [] y ys all = (tt, all.0)
parts P (x ∷ xs) y ys all = let rest = parts P xs y ys all.1 in ((all.0, rest.0), rest.1)

placed : (b : ℕ) (zone : ReadZone) (log done others : List Batch) (batch : Batch) (tail : List (List ℕ)) (offset : ℕ) → zone.blocks ≡ flat_map (batch_blocks b) log ++ tail → AllByRecursion (IsBatch b) log
    → log ≡ done ++ batch ∷ others → offset ≡ log_size done → Placed b zone offset batch
placed b zone log done others batch tail offset blocks all split at =
    let F : List Batch → List (List ℕ) = flat_map (batch_blocks b) in
    let here = parts (IsBatch b) done batch others (rw split at all) in
    let long : length (F done) ≡ offset = encoded_length b done here.0 ∙ sym at in
    let rest = F others ++ tail in
    let head = header_block b batch.heading in
    let whole : zone.blocks ≡ F done ++ (head ∷ (batch.body ++ rest)) =
    blocks ∙ ap (λ (l : List Batch). F l ++ tail) split ∙ ap (λ (xs : List (List ℕ)). xs ++ tail) (flat_map-append (batch_blocks b) done (batch ∷ others))
    ∙ append_assoc (F done) ((head ∷ batch.body) ++ F others) tail ∙ ap (λ (xs : List (List ℕ)). F done ++ (head ∷ xs)) (append_assoc batch.body (F others) tail) in
    let front : zone.blocks ≡ (F done ++ head ∷ []) ++ (batch.body ++ rest) = whole ∙ sym (append_assoc (F done) (head ∷ []) (batch.body ++ rest)) in
    let longer : length (F done ++ head ∷ []) ≡ offset + 1 = omega (arith, length-append (F done) (head ∷ []), long) in
    let size : length batch.body ≡ data_count batch.heading.entries = here.1.body in
    record {
      header = ap (λ (xs : List (List ℕ)). get_or xs offset []) whole ∙ get_or_at (F done) head (batch.body ++ rest) [] offset long;
      body = ap (λ (xs : List (List ℕ)). take (data_count batch.heading.entries) (drop (offset + 1) xs)) front
          ∙ ap (take (data_count batch.heading.entries)) (drop_at (F done ++ head ∷ []) (batch.body ++ rest) (offset + 1) longer) ∙ take_at batch.body rest (data_count batch.heading.entries) size;
      inside = omega (arith, ap length front, length-append (F done ++ head ∷ []) (batch.body ++ rest), length-append batch.body rest, longer, size);
    }

-- a header block is met as such
record MeetsHeading (block : List ℕ) (heading : Heading) : Type 0 where
  fault : header_fault block ≡ None
  says : heading_in block ≡ heading

meets : (b : ℕ) (block : List ℕ) (heading : Heading) → head_size ≤ b → b < 2 ^ 32 → IsHeading b heading → block ≡ header_block b heading → MeetsHeading block heading
meets b block heading room small says is =
    let long : length block ≡ b = ap length is ∙ header_length b heading room says in
    record {
      fault = no_fault block heading (omega (arith, long, small)) (record { says = rw long says; encoded = rw long is });
      says = ap heading_in is ∙ header_again b heading small says;
    }

-- ---- a zone that holds a log, each block of which can be read

-- Such a zone.
pub record IsSound (b : ℕ) (zone : ReadZone) (log : List Batch) : Type 0 where
  pub room : head_size ≤ b
  pub small : b < 2 ^ 32
  pub online : zone.offline ≡ false
  pub closed : zone.open_ended ≡ false
  pub is : IsLog b zone.padded zone.blocks log
  pub numbers : AllByRecursion (λ sequence. sequence < 2 ^ 63) (log_sequences log)

-- what was found before the zone, and these batches of it
abbrev pub with_log : Finding → ℕ → List Batch → Finding
with_log finding number log = record { found = finding.found ++ found_in number 0 log; doubt = finding.doubt }

-- Some batches are found, and the next one is there.
record At (zone : ReadZone) (log : List Batch) (number : ℕ) (finding : Finding) (place : Place) : Type 0 where
  done : List Batch
  batch : Batch
  others : List Batch
  split : log ≡ done ++ batch ∷ others
  offset : place.offset ≡ log_size done
  trail : place.trail ≡ Whole
  found : place.finding ≡ with_log finding number done

-- All are found, and nothing is lost. In a zone that is not padded, no block was passed.
record After (zone : ReadZone) (log : List Batch) (number : ℕ) (finding : Finding) (place : Place) : Type 0 where
  far : log_size log ≤ place.offset
  whole : is_lost place.trail ≡ false
  there : zone.padded ≡ false → place.offset < length zone.blocks → (place.offset ≡ log_size log) × (place.trail ≡ Whole)
  found : place.finding ≡ with_log finding number log

abbrev Goes : ReadZone → List Batch → ℕ → Finding → Place → Type 0
Goes zone log number finding place = At zone log number finding place ⊎ After zone log number finding place

-- with so many batches found, a batch comes, or all are found
goes-from : (zone : ReadZone) (log done rest : List Batch) (number : ℕ) (finding : Finding) (place : Place) → log ≡ done ++ rest → place.offset ≡ log_size done → place.trail ≡ Whole → place.finding ≡ with_log finding number done
    → Goes zone log number finding place
goes-from zone log done [] number finding place split offset trail found =
    let same : done ≡ log = sym (split ∙ append-nil done) in
    inr (record {
      far = omega (arith, offset, ap log_size same);
      whole = rw trail refl;
      there = λ open_zone lt. (offset ∙ ap log_size same, trail);
      found = found ∙ ap (λ (l : List Batch). with_log finding number l) same;
    })
goes-from zone log done (batch ∷ others) number finding place split offset trail found =
    inl (record { done = done; batch = batch; others = others; split = split; offset = offset; trail = trail; found = found })

log_size-append : (xs ys : List Batch) → log_size (xs ++ ys) ≡ log_size xs + log_size ys
log_size-append [] ys = omega arith
log_size-append (x ∷ xs) ys = let rest = log_size-append xs ys in omega (arith, rest)

sequence-of : (P : ℕ → Type 0) (xs : List Batch) (y : Batch) (ys : List Batch) → AllByRecursion P (log_sequences (xs ++ y ∷ ys)) → P y.heading.sequence
sequence-of P [] y ys all = all.0
sequence-of P (x ∷ xs) y ys all = sequence-of P xs y ys all.1

-- a batch that is there is found
header-taken : (zone : ReadZone) (number : ℕ) (place : Place) (heading : Heading) → place.trail ≡ Whole → heading.sequence < 2 ^ 63 → place.offset + 1 + data_count heading.entries ≤ length zone.blocks
    → after_header zone number place heading ≡ with_batch zone number place heading
header-taken zone number place heading whole few inside =
    rw (whole, le-leb (place.offset + 1 + data_count heading.entries) (length zone.blocks) inside, lt-ltb heading.sequence (2 ^ 63) few) refl

block-taken : (zone : ReadZone) (number : ℕ) (place : Place) (block : List ℕ) (heading : Heading) → MeetsHeading block heading → after_reading zone number place (Some block) ≡ after_header zone number place heading
block-taken zone number place block heading m = rw (m.fault, m.says) refl

from-at : (b : ℕ) (zone : ReadZone) (log : List Batch) (number : ℕ) (finding : Finding) (place : Place) (block : List ℕ) → IsSound b zone log → At zone log number finding place → block ≡ get_or zone.blocks place.offset []
    → Goes zone log number finding (after_reading zone number place (Some block))
from-at b zone log number finding place block sound at is =
    let batch = at.batch in
    let heading = batch.heading in
    let all = (parts (IsBatch b) at.done batch at.others (rw at.split at sound.is.front.batches)).1 in
    let spot = placed b zone log at.done at.others batch sound.is.tail place.offset sound.is.front.encoded sound.is.front.batches at.split at.offset in
    let m = meets b block heading sound.room sound.small all.heading (is ∙ spot.header) in
    let few : heading.sequence < 2 ^ 63 = sequence-of (λ sequence. sequence < 2 ^ 63) at.done batch at.others (rw at.split at sound.numbers) in
    let next : after_reading zone number place (Some block) ≡ with_batch zone number place heading = block-taken zone number place block heading m ∙ header-taken zone number place heading at.trail few spot.inside in
    let made : Batch = batch_at zone place.offset heading in
    let same : made ≡ batch = ap (λ (body : List (List ℕ)). record { heading = heading; body = body }) spot.body in
    let f : Found = record { zone = number; offset = place.offset; batch = batch } in
    let found' : (with_batch zone number place heading).finding ≡ with_log finding number (at.done ++ batch ∷ []) =
    rw (at.trail, at.found, same) (rw (found-more number 0 place.offset at.done batch (omega (arith, at.offset))) (ap (λ (fs : List Found). record { found = fs; doubt = finding.doubt }) (append_assoc finding.found (found_in number 0 at.done) (f ∷ [])))) in
    let split' : log ≡ (at.done ++ batch ∷ []) ++ at.others = at.split ∙ sym (append_assoc at.done (batch ∷ []) at.others) in
    let size = log_size-append at.done (batch ∷ []) in
    rw next (goes-from zone log (at.done ++ batch ∷ []) at.others number finding (with_batch zone number place heading) split' (omega (arith, size, at.offset)) refl found')

-- ---- after the batches

zero-fault : (n : ℕ) → header_fault (replicate n 0) ≡ Some Magic
unfolding header_fault
zero-fault zero = refl
zero-fault (suc n) = refl

-- a zero block in a padded zone
zeros-passed : (b : ℕ) (zone : ReadZone) (number : ℕ) (place : Place) (block : List ℕ) → zone.padded ≡ true → block ≡ replicate b 0 → after_reading zone number place (Some block) ≡ with_zeros place
zeros-passed b zone number place block padded is =
    let fault : header_fault block ≡ Some Magic = ap header_fault is ∙ zero-fault b in
    let zero : is_zero block ≡ true = ap is_zero is ∙ zeros_zero b in
    rw (fault, padded, zero) refl

-- a torn tail in one that is not
header-short : (zone : ReadZone) (number : ℕ) (place : Place) (heading : Heading) → place.trail ≡ Whole → zone.padded ≡ false → length zone.blocks < place.offset + 1 + data_count heading.entries
    → after_header zone number place heading ≡ with_tail zone place heading
header-short zone number place heading whole open_zone short =
    let no_fit : nat_le (place.offset + 1 + data_count heading.entries) (length zone.blocks) ≡ false = at (place.offset + 1 + data_count heading.entries) (length zone.blocks) short in
    rw (whole, no_fit, open_zone) refl
  where
    at : (x y : ℕ) → y < x → nat_le x y ≡ false
    at x y lt = grind (arith, nat_tests)

from-after : (b : ℕ) (zone : ReadZone) (log : List Batch) (number : ℕ) (finding : Finding) (place : Place) (block : List ℕ) → IsSound b zone log → After zone log number finding place → place.offset < length zone.blocks
    → block ≡ get_or zone.blocks place.offset [] → After zone log number finding (after_reading zone number place (Some block))
from-after b zone log number finding place block sound after lt is = at zone.padded refl sound.is.end
  where
    long : length (flat_map (batch_blocks b) log) ≡ log_size log
    long = encoded_length b log sound.is.front.batches

    blocks : zone.blocks ≡ flat_map (batch_blocks b) log ++ sound.is.tail
    blocks = sound.is.front.encoded

    count : length zone.blocks ≡ log_size log + length sound.is.tail
    count = ap length blocks ∙ omega (arith, length-append (flat_map (batch_blocks b) log) sound.is.tail, long)

    torn : zone.padded ≡ false → IsTorn b sound.is.tail → After zone log number finding (after_reading zone number place (Some block))
    torn open_zone t =
        let here = after.there open_zone lt in
        let head = header_block b t.heading in
        let whole : zone.blocks ≡ flat_map (batch_blocks b) log ++ head ∷ t.body = blocks ∙ ap (λ (xs : List (List ℕ)). flat_map (batch_blocks b) log ++ xs) t.encoded in
        let read : block ≡ head = is ∙ ap (λ (xs : List (List ℕ)). get_or xs place.offset []) whole ∙ get_or_at (flat_map (batch_blocks b) log) head t.body [] place.offset (omega (arith, long, here.0)) in
        let m = meets b block t.heading sound.room sound.small t.says read in
        let short : length zone.blocks < place.offset + 1 + data_count t.heading.entries = omega (arith, count, ap length t.encoded, t.few, here.0) in
        let next : after_reading zone number place (Some block) ≡ with_tail zone place t.heading = block-taken zone number place block t.heading m ∙ header-short zone number place t.heading here.1 open_zone short in
        rw next (record { far = omega (arith, count); whole = rw here.1 refl; there = λ p past. absurd (omega (arith, past)); found = rw sound.closed after.found })

    at : (p : Bool) → zone.padded ≡ p → IsTail b p sound.is.tail → After zone log number finding (after_reading zone number place (Some block))
    at true padded zeros =
        let j = place.offset - log_size log in
        let there : place.offset ≡ log_size log + j = omega (arith, after.far) in
        let read : block ≡ replicate b 0 =
        is ∙ ap (λ (xs : List (List ℕ)). get_or xs place.offset []) blocks ∙ get_or-append_right (flat_map (batch_blocks b) log) sound.is.tail (log_size log) place.offset [] long after.far
        ∙ ap (λ (xs : List (List ℕ)). get_or xs j []) zeros ∙ get_or-replicate (length sound.is.tail) j (zero_block b) [] (omega (arith, there, lt, count)) in
        rw (zeros-passed b zone number place block padded read)
        (record { far = omega (arith, after.far); whole = rw after.whole refl; there = λ open_zone past. absurd (let bad : true ≡ false = sym padded ∙ open_zone in cc); found = after.found })
    at false open_zone (inl none) = absurd (omega (arith, lt, count, ap length none, after.far))
    at false open_zone (inr t) = torn open_zone t

-- ---- one zone

reaches-goes : (b : ℕ) (damaged : Damage) (zone : ReadZone) (log : List Batch) (number : ℕ) (finding : Finding) (place : Place) → IsUndamaged damaged → IsSound b zone log → Reaches damaged zone number finding place
    → Goes zone log number finding place
reaches-goes b damaged zone log number finding _ none sound begins =
    goes-from zone log [] log number finding (begun zone finding) refl refl (rw sound.online refl) (ap (λ (fs : List Found). record { found = fs; doubt = finding.doubt }) (sym (append-nil finding.found)))
reaches-goes b damaged zone log number finding _ none sound (looks {place} None before lt says) = absurd (let bad : true ≡ false = sym says ∙ none number place.offset in cc)
reaches-goes b damaged zone log number finding _ none sound (looks {place} (Some block) before lt says) = at (reaches-goes b damaged zone log number finding place none sound before)
  where
    at : Goes zone log number finding place → Goes zone log number finding (after_reading zone number place (Some block))
    at (inl here) = from-at b zone log number finding place block sound here says
    at (inr after) = inr (from-after b zone log number finding place block sound after lt says)

-- all batches of a zone are found, and nothing is missing
zone-found : (b : ℕ) (damaged : Damage) (zone : ReadZone) (log : List Batch) (number : ℕ) (finding : Finding) (place : Place) → IsUndamaged damaged → IsSound b zone log → Reaches damaged zone number finding place
    → length zone.blocks ≤ place.offset → ended place ≡ with_log finding number log
zone-found b damaged zone log number finding place none sound reaches far = at (reaches-goes b damaged zone log number finding place none sound reaches)
  where
    at : Goes zone log number finding place → ended place ≡ with_log finding number log
    at (inl here) =
        let spot = placed b zone log here.done here.others here.batch sound.is.tail place.offset sound.is.front.encoded sound.is.front.batches here.split here.offset in
        absurd (omega (arith, spot.inside, far))
    at (inr after) = rw (after.whole, after.found) refl

-- ---- all zones

usable-read : (g : Geometry) (zone : Zone) (state : ZoneState) → zone.state ≡ state → is_usable (usage_of state) ≡ true
    → ((read_zone g zone).offline ≡ false) × ((read_zone g zone).padded ≡ is_full (usage_of zone.state)) × ((read_zone g zone).blocks ≡ readable g (content_of zone)) × ((read_zone g zone).open_ended ≡ false)
usable-read g zone states.Empty is usable = rw is (refl, refl, refl, refl)
usable-read g zone states.ImplicitlyOpened is usable = rw is (refl, refl, refl, refl)
usable-read g zone states.ExplicitlyOpened is usable = rw is (refl, refl, refl, refl)
usable-read g zone states.Closed is usable = rw is (refl, refl, refl, refl)
usable-read g zone states.Full is usable = rw is (refl, refl, refl, refl)
usable-read g zone states.ReadOnly is usable = absurd (cc)
usable-read g zone states.Offline is usable = absurd (cc)

pub zone-read : (g : Geometry) (zones : List Zone) (n : ℕ) → zone_with (map (read_zone g) zones) n ≡ read_zone g (zone_at zones n)
zone-read g [] n = refl
zone-read g (z ∷ zs) zero = refl
zone-read g (z ∷ zs) (suc n) = zone-read g zs n

-- each zone of a drive that can be mounted is such a zone
zone-sound : (drive : DriveState) (n number : ℕ) → IsInRange drive.geometry → IsMountable drive n → number < length drive.zones
    → IsSound drive.geometry.block (zone_with (read_zones drive) number) (log_at (drive_logs drive) number)
zone-sound drive n number range mountable lt =
    let g = drive.geometry in
    let zones = contents drive.zones in
    let zone = zone_at drive.zones number in
    let content = content_at-contents drive.zones number in
    let below : number < length zones = omega (arith, lt, length-map drive.zones content_of) in
    let usable : is_usable (usage_of zone.state) ≡ true = rw content at (all-at (λ (c : Content). is_usable c.usage ≡ true) zones number nothing mountable.holds.disk.usable below) in
    let read = usable-read g zone zone.state refl usable in
    let log : log_at (drive_logs drive) number ≡ zone_log g (content_of zone) = log_at-zone g zones number ∙ ap (zone_log g) content in
    let has : HasLog g (content_of zone) = rw content at (all-at (HasLog g) zones number nothing mountable.holds.disk.logs below) in
    let is : IsLog g.block (read_zone g zone).padded (read_zone g zone).blocks (zone_log g (content_of zone)) =
    subst (λ (p : Bool). IsLog g.block p (read_zone g zone).blocks (zone_log g (content_of zone))) (sym read.1) (subst (λ (bs : List (List ℕ)). IsLog g.block (is_full (usage_of zone.state)) bs (zone_log g (content_of zone))) (sym read.2) has) in
    let numbers = zone-sequences (λ sequence. sequence < 2 ^ 63) (drive_logs drive) number mountable.holds.disk.sound.numbers in
    rw (zone-read g drive.zones number) (record {
      room = room range.block;
      small = mountable.lawful.geometry.block;
      online = read.0;
      closed = read.3;
      is = rw log is;
      numbers = numbers;
    })
  where
    room : (drive.geometry.block ≡ 512) ⊎ (drive.geometry.block ≡ 4096) → head_size ≤ drive.geometry.block
    room (inl e) = omega (arith, e)
    room (inr e) = omega (arith, e)

-- the first zones are searched: their batches are found, and nothing is missing
searched-found : (drive : DriveState) (damaged : Damage) (n m : ℕ) (finding : Finding) → IsInRange drive.geometry → IsMountable drive n → IsUndamaged damaged → m ≤ length drive.zones → Searched damaged (read_zones drive) m finding
    → finding ≡ record { found = found_all 0 (take m (drive_logs drive)); doubt = 0 }
searched-found drive damaged n _ _ range mountable none le at_first = refl
searched-found drive damaged n _ _ range mountable none le (one_more {n = m} {finding} {after} before searches) =
    let logs = drive_logs drive in
    let count : length logs ≡ length drive.zones = omega (arith, length-map (contents drive.zones) (zone_log drive.geometry), length-map drive.zones content_of) in
    let lt : m < length drive.zones = omega (arith, le) in
    let so_far = searched-found drive damaged n m finding range mountable none (omega (arith, le)) before in
    let zone = zone_with (read_zones drive) m in
    let sound = zone-sound drive n m range mountable lt in
    let whole = cut-same zone searches.end sound.closed in
    let reaches : Reaches damaged zone m finding searches.place = rw whole at searches.reaches in
    let far : length zone.blocks ≤ searches.place.offset = rw whole at searches.far in
    let here = searches.after_is ∙ zone-found drive.geometry.block damaged zone (log_at logs m) m finding searches.place none sound reaches far in
    let one : suc m ≡ m + 1 = omega arith in
    let next : take (suc m) logs ≡ take m logs ++ log_at logs m ∷ [] = ap (λ (k : ℕ). take k logs) one ∙ take_more logs m [] (omega (arith, count, lt)) in
    let long : length (take m logs) ≡ m = length-take-le m logs (omega (arith, count, lt)) in
    let number : m ≡ 0 + length (take m logs) = omega (arith, long) in
    here ∙ ap (λ (f : Finding). with_log f m (log_at logs m)) so_far
    ∙ ap (λ (fs : List Found). record { found = fs; doubt = 0 }) (sym (ap (found_all 0) next ∙ all-more 0 m (take m logs) (log_at logs m) number))

-- ---- the disk

-- if no block is damaged, each shows what its newest record says, and none is lost
gives-told : (damaged : Damage) (b : ℕ) (rs : List Record) (n : ℕ) (bytes lost : List ℕ) → IsUndamaged damaged → Gives damaged b rs n bytes lost → (bytes ≡ concat (told (shown b) n rs)) × (lost ≡ [])
gives-told damaged b rs _ _ _ none no_block = (refl, refl)
gives-told damaged b rs _ _ _ none (shows {n} {bytes} {lost} before) =
    let old = gives-told damaged b rs n bytes lost none before in
    let f : ℕ → List ℕ = λ block. shown b (newest block rs) in
    let next : suc n ≡ n + 1 = omega arith in
    let more : told (shown b) (suc n) rs ≡ told (shown b) n rs ++ f n ∷ [] =
    ap (λ (k : ℕ). told (shown b) k rs) next ∙ ap (map f) (range-more 0 n n (omega arith)) ∙ map-append f (range_with_len 0 n) (n ∷ []) in
    (rw old.0 (sym (ap concat more ∙ concat-append (told (shown b) n rs) (f n ∷ []) ∙ ap (λ (xs : List ℕ). concat (told (shown b) n rs) ++ xs) (append-nil (f n)))), old.1)
gives-told damaged b rs _ _ _ none (loses {n} {bytes} {lost} before is) =
    absurd (let bad : true ≡ false = sym is.damaged_there ∙ none is.newest_one.zone is.newest_one.offset in cc)

none-older : (rs : List Record) (xs : List ℕ) → filter (may_be_older 0 rs) xs ≡ []
none-older rs [] = refl
none-older rs (x ∷ xs) = let no_one : may_be_older 0 rs x ≡ false = at (newness (newest x rs)) in rw no_one (none-older rs xs)
  where
    at : (k : ℕ) → nat_lt k 0 ≡ false
    at k = grind (arith, nat_tests)

pub mountable_is_given : MountableIsGiven
unfolding encoded_array
mountable_is_given source n written after rescued none mountable rescues =
    let drive = source.drive in
    let logs = drive_logs drive in
    let b = drive.geometry.block in
    let count : length logs ≡ length drive.zones = omega (arith, length-map (contents drive.zones) (zone_log drive.geometry), length-map drive.zones content_of) in
    let found = searched-found drive source.damaged n (length drive.zones) rescues.finding rescues.range mountable none (omega arith) rescues.finds in
    let all : take (length drive.zones) logs ≡ logs = take_all (length drive.zones) logs (omega (arith, count)) in
    let is : rescues.finding ≡ record { found = found_all 0 logs; doubt = 0 } = found ∙ ap (λ (ls : List (List Batch)). record { found = found_all 0 ls; doubt = 0 }) all in
    let rs : found_records rescues.finding.found ≡ records 0 logs = ap (λ (f : Finding). found_records f.found) is ∙ records-all 0 logs in
    let size : rescued.blocks ≡ encoded_size n logs = rescues.size_is ∙ ap (λ (f : Finding). size_or n (found_size f.found)) is ∙ ap (size_or n) (size-all 0 logs) in
    let doubt : rescues.finding.doubt ≡ 0 = ap (λ (f : Finding). f.doubt) is in
    let told_is = gives-told source.damaged b (found_records rescues.finding.found) rescued.blocks rescues.bytes _ none rescues.gives.gives in
    let bytes : rescues.bytes ≡ concat (encoded drive n) = told_is.0 ∙ ap (λ (xs : List Record). concat (told (shown b) rescued.blocks xs)) rs ∙ ap (λ (k : ℕ). concat (told (shown b) k (records 0 logs))) size in
    record {
      blocks = size;
      appends = rw (← bytes) rescues.appends;
      lost = told_is.1;
      older = rescues.gives.older ∙ ap (λ (d : ℕ). older_blocks d (found_records rescues.finding.found) rescued.blocks) doubt ∙ none-older (found_records rescues.finding.found) (range_with_len 0 rescued.blocks);
    }
