-- The Move of the gathered records, as it is built.
use Rattle.std.proofs.Common.{◌≡◌, ◌≢◌, ℕ, suc, ◌+◌, ◌*◌, ◌<◌, ◌≤◌, ◌^◌, Bool, true, false, cond, List, [], ◌∷◌, ◌++◌, length, get_or, take, drop, Option, Some, None, refl, sym, ap, ◌∙◌, arith}
use Rattle.std.specs.List.{AllByRecursion, concat}
use Rattle.std.proofs.lemmas.List.{drop_at, get_or-take, length-append, length-map, length-take, take_at}
use Rattle.std.proofs.Math.Nat.{add-mul}
use Rattle.zone_states.specs.Geometry.{IsInRange}
use Rattle.zone_states.specs.Zone.{cut_blocks}
use Rattle.drive_port.specs.Contents.{contents}
use Rattle.batch_log.specs.declared.header.Entry.{Entry}
use Rattle.batch_log.specs.declared.header.Kind.TheVariants.{Host, Move}
use Rattle.batch_log.specs.Header.{Heading, IsHeading, header_block}
use Rattle.batch_log.specs.Log.{Batch, data_count}
use Rattle.batch_log.proofs.HeaderLaws.{header_length}
use Rattle.logical_map.specs.Live.{lies_in}
use Rattle.logical_map.specs.Places.{ArePlacedReady, IsReady}
use Rattle.logical_map.specs.declared.place.Place.{Place}
use Rattle.logical_map.specs.declared.place.Place.TheVariants as places
use Rattle.zone_choice.specs.declared.roles.Second.TheVariants.{Destination}
use Rattle.zone_choice.specs.Agreement.{Agrees, HoldsFilling, MountedView, mounted_array}
use Rattle.drive_array.specs.ZoneLogs.{drive_logs}
use Rattle.zone_choice.specs.Builder.{BuilderView, IsBuilt, built}
use Rattle.zone_choice.specs.Changes.{CanPlace, sequence_end}
use Rattle.drive_array.specs.Records.{shown_content}
use Rattle.drive_array.specs.Reserve.{batch_most}
use Rattle.zone_choice.specs.Tables.{size_of}
use Rattle.zone_choice.proofs.AgreementLaws.{agrees_mountable, size-encoded}
use Rattle.drive_array.proofs.WholeLaws.{length-encoded, whole-encoded}
use Rattle.drive_array.proofs.AllLaws.{all-at, all-weaker}
use Rattle.zone_choice.proofs.ChangeLaws.{large-block}
use Rattle.zone_cleaner.specs.Clean.{CleanView, IsClean}
use Rattle.zone_cleaner.specs.Gathered.{AreOfLength}
use Rattle.zone_cleaner.specs.LiveRecords.{LiveRecord, live_content, gathered_data, gathered_entries, gathered_entry, gathered_move, records_in}
use Rattle.zone_cleaner.proofs.CarryLaws.{data-entries, entries-below, fits-move, gathered-below, gathered-distinct, gathered-say}
use Rattle.zone_cleaner.proofs.CleanLaws.{clean_spare}
use Rattle.zone_cleaner.proofs.RecordLaws.{AreBetween, SayTheArray}
use Rattle.zone_cleaner.proofs.SealedLaws.{of-second, sealed-in_range, second-filling}
use Rattle.zone_cleaner.proofs.StepLaws.{MoveDue}

-- ---- its bytes

abbrev batch_with : Heading → List (List ℕ) → Batch
batch_with heading body = record { heading = heading; body = body }

cut-concat : (size : ℕ) (blocks : List (List ℕ)) → AreOfLength size blocks → cut_blocks size (length blocks) (concat blocks) ≡ blocks
cut-concat size [] whole = refl
cut-concat size (b ∷ bs) whole =
    let first : take size (b ++ concat bs) ≡ b = take_at b (concat bs) size whole.0 in
    let rest : drop size (b ++ concat bs) ≡ concat bs = drop_at b (concat bs) size whole.0 in
    rw (first, rest) (ap (λ (xs : List (List ℕ)). b ∷ xs) (cut-concat size bs whole.1))

length-concat : (size : ℕ) (blocks : List (List ℕ)) → AreOfLength size blocks → length (concat blocks) ≡ length blocks * size
length-concat size [] whole = omega arith
length-concat size (b ∷ bs) whole = omega (arith, length-append b (concat bs), whole.0, length-concat size bs whole.1, add-mul 1 (length bs) size)

length-data : (rs : List LiveRecord) → length (gathered_data rs) ≡ data_count (gathered_entries rs)
length-data [] = refl
length-data (r ∷ rs) = one (length-data rs) r.block r.content
  where
    one : length (gathered_data rs) ≡ data_count (gathered_entries rs) → (block : ℕ) (content : Option (List ℕ)) → length (gathered_data (record { block = block; content = content } ∷ rs)) ≡ data_count (gathered_entry block content ∷ gathered_entries rs)
    one rest block None = omega (arith, rest)
    one rest block (Some bytes) = omega (arith, rest)

-- ---- the data are whole blocks

gathered-whole : (array : List (List ℕ)) (size high : ℕ) (rs : List LiveRecord) → AreOfLength size array → high ≤ length array → AreBetween 0 high rs → SayTheArray array size rs → AreOfLength size (gathered_data rs)
gathered-whole array size high [] whole le all says = tt
gathered-whole array size high (r ∷ rs) whole le all says = one (gathered-whole array size high rs whole le all.1 says.1) r.block r.content all.0.1 says.0
  where
    one : AreOfLength size (gathered_data rs) → (block : ℕ) (content : Option (List ℕ)) → block < high → get_or array block [] ≡ shown_content size content → AreOfLength size (gathered_data (record { block = block; content = content } ∷ rs))
    one rest block None lt same = rest
    one rest block (Some bytes) lt same = (ap length (sym same) ∙ all-at (λ (b : List ℕ). length b ≡ size) array block [] whole (omega (arith, lt, le)), rest)

-- the data that was gathered is whole blocks
pub data-whole : (disk : MountedView) (c : CleanView) → Agrees disk → IsClean disk c → AreOfLength disk.drive.geometry.block (gathered_data c.gathered)
data-whole disk c agrees is =
    let whole = whole-encoded disk.drive disk.tables.given (agrees_mountable disk.drive disk.tables agrees (clean_spare disk c agrees is)) in
    gathered-whole (mounted_array disk) disk.drive.geometry.block c.cursor c.gathered whole (omega (arith, is.gathers.within, length-encoded disk.drive disk.tables.given, size-encoded disk agrees)) (gathered-below disk c is) (gathered-say disk c agrees is)

-- ---- the header

-- the Move of the records has a heading
pub move-heading : (disk : MountedView) (c : CleanView) → Agrees disk → IsClean disk c → IsHeading disk.drive.geometry.block (gathered_move (size_of disk.tables) disk.tables.next c.victim c.gathered).heading
move-heading disk c agrees is = record {
  room = omega (arith, is.gathers.few, length-map c.gathered (λ (r : LiveRecord). gathered_entry r.block r.content));
  sequence = omega (arith, agrees.next);
  source = omega (arith, sealed-in_range disk c.victim agrees is.victim, agrees.lawful.count, agrees.geometry.zones);
  host = λ e. absurd (let bad : Move ≡ Host = e in cc);
  size = (agrees.reserve.0, agrees.reserve.1);
  blocks = all-weaker (λ (e : Entry). e.block < c.cursor) (λ (e : Entry). e.block < 2 ^ 63) (gathered_entries c.gathered) (λ e lt. omega (arith, lt, is.gathers.within, agrees.reserve.1)) (entries-below c.gathered 0 c.cursor (gathered-below disk c is));
  distinct = gathered-distinct disk c is;
}

-- these are the header and the data of the Move
pub record MoveBuilt (disk : MountedView) (c : CleanView) (builder : BuilderView) : Type 0 where
  pub is : IsBuilt disk.drive.geometry.block builder
  pub batch : built disk.drive.geometry.block builder ≡ gathered_move (size_of disk.tables) disk.tables.next c.victim c.gathered

-- a header block and whole blocks of data are a batch
built-of : (block size next victim : ℕ) (rs : List LiveRecord) (builder : BuilderView) → 32 ≤ block → IsHeading block (gathered_move size next victim rs).heading → AreOfLength block (gathered_data rs)
    → builder.heading ≡ (gathered_move size next victim rs).heading → builder.bytes ≡ header_block block builder.heading ++ concat (gathered_data rs) → IsBuilt block builder × (built block builder ≡ gathered_move size next victim rs)
built-of block size next victim rs builder large heads whole heading bytes =
    let says : IsHeading block builder.heading = rw heading heads in
    let long : length (header_block block builder.heading) ≡ block = header_length block builder.heading large says in
    let rest : drop block builder.bytes ≡ concat (gathered_data rs) = ap (drop block) bytes ∙ drop_at (header_block block builder.heading) (concat (gathered_data rs)) block long in
    let count : data_count builder.heading.entries ≡ length (gathered_data rs) = ap (λ (h : Heading). data_count h.entries) heading ∙ sym (length-data rs) in
    let body : cut_blocks block (data_count builder.heading.entries) (drop block builder.bytes) ≡ gathered_data rs = ap (λ (n : ℕ). cut_blocks block n (drop block builder.bytes)) count ∙ ap (cut_blocks block (length (gathered_data rs))) rest ∙ cut-concat block (gathered_data rs) whole in (
      record { header = bytes ∙ ap (λ (xs : List ℕ). header_block block builder.heading ++ xs) (sym rest); data_length = ap length rest ∙ length-concat block (gathered_data rs) whole ∙ ap (λ (n : ℕ). n * block) (sym count) },
      ap (λ (h : Heading). batch_with h (cut_blocks block (data_count builder.heading.entries) (drop block builder.bytes))) heading ∙ ap (batch_with (gathered_move size next victim rs).heading) body,
    )

-- what was built is that Move
pub move_built : (disk : MountedView) (c : CleanView) (builder : BuilderView) → IsInRange disk.drive.geometry → IsHeading disk.drive.geometry.block (gathered_move (size_of disk.tables) disk.tables.next c.victim c.gathered).heading
    → AreOfLength disk.drive.geometry.block (gathered_data c.gathered) → builder.heading ≡ (gathered_move (size_of disk.tables) disk.tables.next c.victim c.gathered).heading
    → builder.bytes ≡ header_block disk.drive.geometry.block builder.heading ++ concat (gathered_data c.gathered) → MoveBuilt disk c builder
move_built disk c builder range heads whole heading bytes =
    let both = built-of disk.drive.geometry.block (size_of disk.tables) disk.tables.next c.victim c.gathered builder (omega (arith, large-block disk.drive.geometry range)) heads whole heading bytes in
    record { is = both.0; batch = both.1 }

-- ---- the drive takes it

pub records-all : (P : ℕ → Type 0) (array : List (List ℕ)) (size zone first : ℕ) (ps : List Place) → ((k : ℕ) → k < length ps → lies_in size zone (get_or ps k places.None) ≡ true → P (first + k)) → AllByRecursion (λ (r : LiveRecord). P r.block) (records_in array size zone first ps)
records-all P array size zone first [] each = tt
records-all P array size zone first (p ∷ ps) each = by (lies_in size zone p) refl (records-all P array size zone (first + 1) ps rest)
  where
    rest : (k : ℕ) → k < length ps → lies_in size zone (get_or ps k places.None) ≡ true → P (first + 1 + k)
    rest k lt lies = let next : first + suc k ≡ first + 1 + k = omega arith in rw next at (each (suc k) (omega (arith, lt)) lies)

    by : (b : Bool) → lies_in size zone p ≡ b → AllByRecursion (λ (r : LiveRecord). P r.block) (records_in array size zone (first + 1) ps)
        → AllByRecursion (λ (r : LiveRecord). P r.block) (cond b (record { block = first; content = live_content array first p } ∷ records_in array size zone (first + 1) ps) (records_in array size zone (first + 1) ps))
    by true is all = ((let same : first + 0 ≡ first = omega arith in rw same at (each 0 (omega arith) is)), all)
    by false is all = all

pub entries-all : (P : ℕ → Type 0) (rs : List LiveRecord) → AllByRecursion (λ (r : LiveRecord). P r.block) rs → AllByRecursion (λ (e : Entry). P e.block) (gathered_entries rs)
entries-all P [] all = tt
entries-all P (r ∷ rs) all = (one r.block r.content all.0, entries-all P rs all.1)
  where
    one : (block : ℕ) (content : Option (List ℕ)) → P block → P (gathered_entry block content).block
    one block None p = p
    one block (Some bytes) p = p

gathered-ready : (disk : MountedView) (c : CleanView) → IsClean disk c → ArePlacedReady disk.tables.map → AllByRecursion (λ (e : Entry). IsReady disk.tables.map e.block) (gathered_entries c.gathered)
gathered-ready disk c is ready =
    let m = disk.tables.map in
    entries-all (IsReady m) c.gathered (rw is.gathers.gathered (records-all (IsReady m) (mounted_array disk) m.zone_size c.victim 0 (take c.cursor m.places) each))
  where
    away : (size zone : ℕ) (p : Place) → lies_in size zone p ≡ true → p ≢ places.None
    away size zone places.None e = absurd (cc)
    away size zone (places.Trimmed address) e = λ same. cc
    away size zone (places.At address) e = λ same. cc

    each : (k : ℕ) → k < length (take c.cursor disk.tables.map.places) → lies_in disk.tables.map.zone_size c.victim (get_or (take c.cursor disk.tables.map.places) k places.None) ≡ true → IsReady disk.tables.map (0 + k)
    each k lt lies =
        let all = disk.tables.map.places in
        let same : get_or (take c.cursor all) k places.None ≡ get_or all k places.None = get_or-take c.cursor all k places.None (omega (arith, lt, length-take c.cursor all)) in
        let spot : 0 + k ≡ k = omega arith in
        rw spot (ready k (away disk.tables.map.zone_size c.victim (get_or all k places.None) (rw same at lies)))

-- it can be placed
pub move-can : (disk : MountedView) (c : CleanView) → Agrees disk → (is : IsClean disk c) → MoveDue disk (batch_most disk.drive.geometry) c → disk.tables.next < sequence_end disk.drive.geometry → ArePlacedReady disk.tables.map
    → CanPlace disk is.destination.zone (gathered_move (size_of disk.tables) disk.tables.next c.victim c.gathered)
move-can disk c agrees is due next ready =
    let g = disk.drive.geometry in
    let f = is.destination in
    let filled = of-second (HoldsFilling g.capacity (contents disk.drive.zones) (drive_logs disk.drive)) disk.tables.roles (Destination f) is.second agrees.roles.fillings_are in
    let fits = fits-move disk c agrees is due in
    let most = is.gathers.few in
    record {
      agrees = agrees;
      filling = second-filling disk.tables.roles (Destination f) is.second;
      heading = move-heading disk c agrees is;
      size = refl;
      grows = omega arith;
      reserve = agrees.reserve;
      few = omega (arith, most, data-entries c.gathered, agrees.geometry.transfer);
      few_entries = omega (arith, most, length-map c.gathered (λ (r : LiveRecord). gathered_entry r.block r.content));
      room = omega (arith, filled.written, fits.room);
      sequence = refl;
      next = next;
      in_range = all-weaker (λ (e : Entry). e.block < c.cursor) (λ (e : Entry). e.block < size_of disk.tables) (gathered_entries c.gathered) (λ e lt. omega (arith, lt, is.gathers.within)) (entries-below c.gathered 0 c.cursor (gathered-below disk c is));
      ready = gathered-ready disk c is ready;
    }

-- a block number is far below what 4 bytes hold
pub gathered-few : (disk : MountedView) (c : CleanView) → Agrees disk → IsClean disk c → AllByRecursion (λ (r : LiveRecord). r.block + 1 < 2 ^ 32) c.gathered
gathered-few disk c agrees is = all-weaker (λ (r : LiveRecord). (0 ≤ r.block) × (r.block < c.cursor)) (λ (r : LiveRecord). r.block + 1 < 2 ^ 32) c.gathered (λ r b. omega (arith, b.1, is.gathers.within, agrees.reserve.1)) (gathered-below disk c is)
