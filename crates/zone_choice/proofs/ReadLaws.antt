-- What a block of the array says is where the map places it.
use Rattle.std.proofs.Common.{◌≡◌, ℕ, zero, suc, ◌+◌, ◌-◌, ◌*◌, ◌/◌, ◌%◌, ◌<◌, ◌≤◌, Bool, true, false, List, [], ◌∷◌, ◌++◌, length, get_or, replicate, Option, Some, None, refl, sym, ap, ◌∙◌, arith, append_assoc, append-nil}
use Rattle.std.specs.List.{flat_map, AllByRecursion}
use Rattle.std.proofs.lemmas.List.{get_or-append-add, length-append, length-replicate, length-map}
use Rattle.std.proofs.lemmas.List.FromFn.{get_or-map-range_with_len}
use Rattle.std.proofs.lemmas.Nat.{div-mul-add, mod-mul-add, mul-le}
use Rattle.std.proofs.Math.Nat.{add-mul}
use Rattle.nvme_wire.specs.declared.zone_state.ZoneState.{ZoneState}
use Rattle.nvme_wire.specs.declared.zone_state.ZoneState.TheVariants as states
use Rattle.zone_states.specs.declared.geometry.Geometry.{Geometry}
use Rattle.drive_port.specs.Drive.{DriveState}
use Rattle.drive_port.specs.Contents.{Content, block_at, content_at, content_of, contents, is_usable, nothing, usage_of, is_full}
use Rattle.drive_port.specs.Calls.{CanRead}
use Rattle.drive_port.specs.Step.{block_in, end_of, is_state, zone_at}
use Rattle.drive_port.proofs.ClosingLaws.{content_at-contents}
use Rattle.batch_log.specs.declared.header.Entry.{Entry}
use Rattle.batch_log.specs.Header.{header_block}
use Rattle.batch_log.specs.Log.{Batch, IsBatch, IsLog, batch_blocks, batch_size, data_count, one_unless, zero_block}
use Rattle.logical_map.specs.declared.place.Place.{Place}
use Rattle.logical_map.specs.declared.place.Place.TheVariants as places
use Rattle.drive_array.specs.Records.{IsNewest, Record, batch_records, entry_content, entry_offset, entry_records, log_records, newest, place, records, shown}
use Rattle.drive_array.specs.Sizes.{array_of, encoded_size}
use Rattle.drive_array.specs.ZoneLogs.{HasLog, drive_logs, padding, readable, encoded, encoded_array, zone_log, zone_logs}
use Rattle.zone_choice.specs.Agreement.{Agrees, mounted}
use Rattle.zone_choice.specs.Tables.{TablesView, size_of}
use Rattle.zone_choice.proofs.AgreementLaws.{size-encoded}
use Rattle.drive_array.proofs.AllLaws.{all-append, all-at, all-weaker}
use Rattle.zone_choice.proofs.CommandLaws.{zone-few}
use Rattle.zone_choice.proofs.ContentLaws.{all-usable}
use Rattle.drive_array.proofs.NewestLaws.{all-among, newest-is}

-- ---- in one zone

-- the data of a record of a zone is in these blocks
pub record StandsIn (blocks : List (List ℕ)) (zero_fill : List ℕ) (zone : ℕ) (r : Record) : Type 0 where
  pub zone_is : r.zone ≡ zone
  pub stands : (bytes : List ℕ) → r.content ≡ Some bytes → (r.offset < length blocks) × (get_or blocks r.offset zero_fill ≡ bytes)

abbrev BodyAt : List (List ℕ) → List ℕ → ℕ → List (List ℕ) → Type 0
BodyAt blocks z header body = (k : ℕ) → k < length body → (header + 1 + k < length blocks) × (get_or blocks (header + 1 + k) z ≡ get_or body k [])

entries_stand : (blocks : List (List ℕ)) (z : List ℕ) (sequence zone header k : ℕ) (body : List (List ℕ)) (es : List Entry) → BodyAt blocks z header body → k + data_count es ≤ length body
    → AllByRecursion (StandsIn blocks z zone) (entry_records sequence body zone header k es)
entries_stand blocks z sequence zone header k body [] at le = tt
entries_stand blocks z sequence zone header k body (e ∷ es) at le =
    (record { zone_is = refl; stands = one e.trim refl }, entries_stand blocks z sequence zone header (k + one_unless e.trim) body es at (omega (arith, le)))
  where
    one : (t : Bool) → e.trim ≡ t → (bytes : List ℕ) → entry_content e.trim body k ≡ Some bytes → (entry_offset e.trim header k < length blocks) × (get_or blocks (entry_offset e.trim header k) z ≡ bytes)
    one true is bytes c = let bad : None ≡ Some bytes = rw is at c in absurd (cc)
    one false is bytes c =
        let some : Some (get_or body k []) ≡ Some bytes = rw is at c in
        let same : get_or body k [] ≡ bytes = cc in
        let le' = rw is at le in
        let here = at k (omega (arith, le')) in
        rw is (here.0, here.1 ∙ same)

get_or-left : (z : List ℕ) (xs ys : List (List ℕ)) (k : ℕ) → k < length xs → get_or (xs ++ ys) k z ≡ get_or xs k []
get_or-left z [] ys k lt = absurd (omega arith)
get_or-left z (x ∷ xs) ys zero lt = refl
get_or-left z (x ∷ xs) ys (suc k) lt = get_or-left z xs ys k (omega arith)

log_stands : (size zone offset : ℕ) (front : List (List ℕ)) (log : List Batch) (tail blocks : List (List ℕ)) (z : List ℕ) → AllByRecursion (IsBatch size) log → offset ≡ length front
    → blocks ≡ front ++ (flat_map (batch_blocks size) log ++ tail) → AllByRecursion (StandsIn blocks z zone) (log_records zone offset log)
log_stands size zone offset front [] tail blocks z fits e is = tt
log_stands size zone offset front (b ∷ bs) tail blocks z fits e is =
    let header = header_block size b.heading in
    let rest = flat_map (batch_blocks size) bs ++ tail in
    let whole : blocks ≡ front ++ (header ∷ (b.body ++ rest)) = is ∙ ap (λ (xs : List (List ℕ)). front ++ (header ∷ xs)) (append_assoc b.body (flat_map (batch_blocks size) bs) tail) in
    let next : blocks ≡ (front ++ (header ∷ b.body)) ++ rest = whole ∙ sym (append_assoc front (header ∷ b.body) rest) in
    let long : offset + batch_size b ≡ length (front ++ (header ∷ b.body)) = omega (arith, e, fits.0.body, length-append front (header ∷ b.body)) in
    all-append (StandsIn blocks z zone) (batch_records zone offset b) (log_records zone (offset + batch_size b) bs)
    (entries_stand blocks z b.heading.sequence zone offset 0 b.body b.heading.entries (body_at header rest whole) (omega (arith, fits.0.body)))
    (log_stands size zone (offset + batch_size b) (front ++ (header ∷ b.body)) bs tail blocks z fits.1 long next)
  where
    body_at : (header : List ℕ) (rest : List (List ℕ)) → blocks ≡ front ++ (header ∷ (b.body ++ rest)) → BodyAt blocks z offset b.body
    body_at header rest whole k lt =
        let spot : offset + 1 + k ≡ length front + suc k = omega (arith, e) in
        let total : length blocks ≡ length front + suc (length b.body + length rest) = ap length whole ∙ omega (arith, length-append front (header ∷ (b.body ++ rest)), length-append b.body rest) in
        (omega (arith, total), rw (spot, whole) (get_or-append-add front (header ∷ (b.body ++ rest)) (suc k) z ∙ get_or-left z b.body rest k lt))

-- each record of a zone's log is in its blocks
pub zone_stands : (size zone : ℕ) (is_full : Bool) (blocks : List (List ℕ)) (log : List Batch) (z : List ℕ) → IsLog size is_full blocks log → AllByRecursion (StandsIn blocks z zone) (log_records zone 0 log)
zone_stands size zone is_full blocks log z is = log_stands size zone 0 [] log is.tail blocks z is.front.batches refl is.front.encoded

-- ---- on the drive

-- the data of a record is in its zone's readable blocks
pub record StandsOn (geometry : Geometry) (zones : List Content) (first : ℕ) (r : Record) : Type 0 where
  pub in_range : r.zone < first + length zones
  pub above : first ≤ r.zone
  pub stands : (bytes : List ℕ) → r.content ≡ Some bytes
      → (r.offset < length (readable geometry (content_at zones (r.zone - first)))) × (get_or (readable geometry (content_at zones (r.zone - first))) r.offset (zero_block geometry.block) ≡ bytes)

-- and each record of a drive on the drive
pub records_stand : (geometry : Geometry) (zones : List Content) (first : ℕ) → AllByRecursion (HasLog geometry) zones → AllByRecursion (StandsOn geometry zones first) (records first (zone_logs geometry zones))
records_stand geometry [] first all = tt
records_stand geometry (c ∷ cs) first all =
    all-append (StandsOn geometry (c ∷ cs) first) (log_records first 0 (zone_log geometry c)) (records (suc first) (zone_logs geometry cs))
    (all-weaker (StandsIn (readable geometry c) (zero_block geometry.block) first) (StandsOn geometry (c ∷ cs) first) (log_records first 0 (zone_log geometry c)) here
    (zone_stands geometry.block first (is_full c.usage) (readable geometry c) (zone_log geometry c) (zero_block geometry.block) all.0))
    (all-weaker (StandsOn geometry cs (suc first)) (StandsOn geometry (c ∷ cs) first) (records (suc first) (zone_logs geometry cs)) behind (records_stand geometry cs (suc first) all.1))
  where
    here : (r : Record) → StandsIn (readable geometry c) (zero_block geometry.block) first r → StandsOn geometry (c ∷ cs) first r
    here r s = let none : r.zone - first ≡ 0 = omega (arith, s.zone_is) in record { in_range = omega (arith, s.zone_is); above = omega (arith, s.zone_is); stands = rw none s.stands }

    behind : (r : Record) → StandsOn geometry cs (suc first) r → StandsOn geometry (c ∷ cs) first r
    behind r s = let more : r.zone - first ≡ suc (r.zone - suc first) = omega (arith, s.above) in record { in_range = omega (arith, s.in_range); above = omega (arith, s.above); stands = rw more s.stands }

-- unwritten blocks are read as zeros, and so are those after the blocks of a full zone
get_or-padded : (blocks : List (List ℕ)) (k i : ℕ) (z : List ℕ) → get_or (blocks ++ replicate k z) i z ≡ get_or blocks i z
get_or-padded [] zero i z = refl
get_or-padded [] (suc k) zero z = refl
get_or-padded [] (suc k) (suc i) z = get_or-padded [] k i z
get_or-padded (b ∷ bs) k zero z = refl
get_or-padded (b ∷ bs) k (suc i) z = get_or-padded bs k i z

-- a readable block is what a Read shows of it
pub readable-read : (geometry : Geometry) (content : Content) (i : ℕ) → get_or (readable geometry content) i (zero_block geometry.block) ≡ block_in geometry.block content.blocks i
readable-read geometry content i = at (is_full content.usage)
  where
    at : (b : Bool) → get_or (content.blocks ++ padding geometry b (length content.blocks)) i (zero_block geometry.block) ≡ get_or content.blocks i (replicate geometry.block 0)
    at true = get_or-padded content.blocks (geometry.capacity - length content.blocks) i (zero_block geometry.block)
    at false = ap (λ (bs : List (List ℕ)). get_or bs i (zero_block geometry.block)) (append-nil content.blocks)

-- no more blocks can be read than the zone has capacity
pub length-readable : (geometry : Geometry) (content : Content) → length content.blocks ≤ geometry.capacity → length (readable geometry content) ≤ geometry.capacity
length-readable geometry content le = at (is_full content.usage)
  where
    at : (b : Bool) → length (content.blocks ++ padding geometry b (length content.blocks)) ≤ geometry.capacity
    at true = omega (arith, le, length-append content.blocks (replicate (geometry.capacity - length content.blocks) (zero_block geometry.block)), length-replicate (geometry.capacity - length content.blocks) (zero_block geometry.block))
    at false = omega (arith, le, ap length (append-nil content.blocks))

-- a zone that is usable is not Offline
pub usable-online : (state : ZoneState) → is_usable (usage_of state) ≡ true → is_state states.Offline state ≡ false
usable-online states.Empty h = refl
usable-online states.ImplicitlyOpened h = refl
usable-online states.ExplicitlyOpened h = refl
usable-online states.Closed h = refl
usable-online states.ReadOnly h = refl
usable-online states.Full h = refl
usable-online states.Offline h = absurd (cc)

-- ---- a block of the array

-- What the drive holds of a block at its place: the block can be read there, or there is none, and the array has zeros.
pub record Holds (drive : DriveState) (array : List (List ℕ)) (block address : ℕ) : Type 0 where
  pub shown : block_at drive.geometry (contents drive.zones) address ≡ get_or array block []
  pub can : CanRead drive address 1
  pub fits : address + 1 ≤ end_of drive.geometry

-- the drive holds the content of a block at its place
abbrev pub HoldsPlace : DriveState → List (List ℕ) → ℕ → Place → Type 0
HoldsPlace drive array block (places.At address) = Holds drive array block address
HoldsPlace drive array block place = get_or array block [] ≡ zero_block drive.geometry.block

record_holds : (drive : DriveState) (tables : TablesView) (array : List (List ℕ)) (block : ℕ) (r : Record) (bytes : List ℕ) → Agrees (mounted drive tables) → r.content ≡ Some bytes → get_or array block [] ≡ bytes
    → StandsOn drive.geometry (contents drive.zones) 0 r → Holds drive array block (r.zone * drive.geometry.size + r.offset)
record_holds drive tables array block r bytes agrees some says on =
    let g = drive.geometry in
    let zones = contents drive.zones in
    let here : r.zone - 0 ≡ r.zone = omega arith in
    let stands = rw here at (on.stands bytes some) in
    let lt : r.zone < length drive.zones = omega (arith, on.in_range, length-map drive.zones content_of) in
    let content = content_at-contents drive.zones r.zone in
    let few : length (content_at zones r.zone).blocks ≤ g.capacity = zone-few drive r.zone agrees.lawful lt in
    let short : r.offset < g.size = omega (arith, stands.0, length-readable g (content_at zones r.zone) few, agrees.geometry.capacity) in
    let index : (r.zone * g.size + r.offset) / g.size ≡ r.zone = div-mul-add r.zone g.size r.offset short in
    let offset : (r.zone * g.size + r.offset) % g.size ≡ r.offset = mod-mul-add r.zone g.size r.offset short in
    let usable = all-at (λ (c : Content). is_usable c.usage ≡ true) zones r.zone nothing (all-usable g.capacity zones (drive_logs drive) tables.roles agrees.roles) (omega (arith, on.in_range)) in
    let same : r.zone * g.size + r.offset + 1 - 1 ≡ r.zone * g.size + r.offset = omega arith in
    let below : r.zone * g.size + r.offset + 1 ≤ end_of g = rw (← agrees.lawful.count) (omega (arith, short, mul-le (r.zone + 1) g.size (length drive.zones) g.size (omega arith) (omega arith), add-mul r.zone 1 g.size)) in
    record {
      shown = rw (index, offset) (sym (readable-read g (content_at zones r.zone) r.offset) ∙ stands.1 ∙ sym says);
      can = record {
        few = omega (arith, agrees.geometry.transfer);
        in_range = below;
        one_zone = rw same refl;
        readable = rw index (usable-online (zone_at drive.zones r.zone).state (rw content at usable));
      };
      fits = below;
    }

-- it does where tables and drive agree
pub holds_place : (drive : DriveState) (tables : TablesView) (block : ℕ) → Agrees (mounted drive tables) → block < size_of tables
    → HoldsPlace drive (encoded drive tables.given) block (get_or tables.map.places block places.None)
unfolding encoded_array
holds_place drive tables block agrees lt =
    let n = tables.given in
    let size = encoded_size n (drive_logs drive) in
    let below : block < size = omega (arith, lt, size-encoded (mounted drive tables) agrees) in
    let g = drive.geometry in
    let logs = zone_logs g (contents drive.zones) in
    let rs = records 0 logs in
    let mapped : get_or tables.map.places block places.None ≡ place g.size (newest block rs) = rw agrees.places (get_or-map-range_with_len (λ (l : ℕ). place g.size (newest l rs)) 0 size block block places.None below (omega arith)) in
    let says : get_or (array_of g.block n logs) block [] ≡ shown g.block (newest block rs) = get_or-map-range_with_len (λ (l : ℕ). shown g.block (newest l rs)) 0 size block block [] below (omega arith) in
    rw mapped (at (newest block rs) (newest-is block rs) says)
  where
    found : (r : Record) → IsNewest (records 0 (zone_logs drive.geometry (contents drive.zones))) block (Some r) → (content : Option (List ℕ)) → r.content ≡ content
        → get_or (encoded drive tables.given) block [] ≡ shown drive.geometry.block (Some r) → HoldsPlace drive (encoded drive tables.given) block (place drive.geometry.size (Some r))
    found r live None is says = rw is (rw is at says)
    found r live (Some bytes) is says =
        rw is (record_holds drive tables (encoded drive tables.given) block r bytes agrees is (rw is at says) (all-among (StandsOn drive.geometry (contents drive.zones) 0) (records 0 (zone_logs drive.geometry (contents drive.zones))) r (records_stand drive.geometry (contents drive.zones) 0 agrees.logs) live.1.among))

    at : (o : Option Record) → IsNewest (records 0 (zone_logs drive.geometry (contents drive.zones))) block o → get_or (encoded drive tables.given) block [] ≡ shown drive.geometry.block o → HoldsPlace drive (encoded drive tables.given) block (place drive.geometry.size o)
    at None none says = says
    at (Some r) live says = found r live r.content refl says
