-- A Move as it is built: its entries, its data, and its header.
use Rattle.std.proofs.Common.{◌≡◌, ℕ, ◌+◌, ◌*◌, ◌<◌, ◌≤◌, ◌^◌, List, [], ◌∷◌, ◌++◌, length, take, drop, get_or, IsTrue, Option, refl, sym, ap, ◌∙◌, arith, append_assoc, append-nil}
use Rattle.std.specs.Prelude.{slice_index_or}
use Rattle.std.specs.List.{AllByRecursion, concat}
use Rattle.std.proofs.lemmas.List.{drop_all, drop_at, drop_more, length-append, take_at}
use Rattle.std.proofs.lemmas.List.Folds.{concat-append}
use Rattle.std.proofs.Math.Nat.{add-mul}
use Rattle.zone_states.specs.Zone.{cut_blocks}
use Rattle.drive_port.specs.Drive.{DriveState, IsLawful}
use Rattle.batch_log.specs.declared.header.Entry.{Entry}
use Rattle.batch_log.specs.Header.{Heading, IsHeaderBlock, IsHeading, header_block}
use Rattle.batch_log.specs.Log.{Batch, data_count}
use Rattle.batch_log.specs.Reading.{heading_in}
use Rattle.batch_log.proofs.LentLaws.{data-few}
use Rattle.batch_log.proofs.HeaderLaws.{header_again, header_length}
use Rattle.logical_map.specs.declared.place.Place.{Place}
use Rattle.logical_map.specs.declared.place.Place.TheVariants as places
use Rattle.zone_choice.specs.Builder.{BuilderView, IsBuilt}
use Rattle.zone_choice.specs.Tables.{TablesView}
use Rattle.drive_array.proofs.AllLaws.{all-append}
use Rattle.zone_choice.proofs.ChangeLaws.{large-block}
use Rattle.zone_states.specs.Geometry.{IsInRange}
use Rattle.batch_log.specs.declared.header.Kind.TheVariants.{Move}
use Rattle.drive_survey.specs.declared.reported.ReportedZone.{ReportedZone}
use Rattle.remount.specs.declared.repair.moves.MovePlan.{MovePlan}
use Rattle.remount.specs.Torn.{data_count_at}
use Rattle.zone_states.specs.declared.geometry.Geometry.{Geometry}
use Rattle.remount.specs.Kept.{Stays}
use Rattle.remount.specs.Moving.{Adds, Extends, IsBlockAt, IsBuiltAs, IsNamed, IsReadableAt, IsShaped, Source, blocks_listed, move_by, moved_data, moved_entries, named_by, placed_entry, said, said_at, size_by, source_of}
use Rattle.drive_survey.specs.Reported.{IsKnown, KeepsZones}
use Rattle.drive_survey.specs.Scan.{readable_at}
use Rattle.drive_survey.proofs.ReadLaws.{kept-blocks, kept-known, keeps-both, keeps-none}

-- all blocks have this size
abbrev pub AreWhole : ℕ → List (List ℕ) → Type 0
AreWhole size blocks = AllByRecursion (λ block. length block ≡ size) blocks

-- ---- the header of what was built

-- these bytes are the header block, with which the built bytes begin
pub record BeginsAs (block_bytes : ℕ) (builder : BuilderView) (front : List ℕ) : Type 0 where
  pub long : length front ≡ block_bytes
  pub is : front ≡ header_block block_bytes builder.heading
  pub enough : block_bytes ≤ length builder.bytes

-- the bytes of a built batch begin with its header block
pub begins-as : (block_bytes : ℕ) (builder : BuilderView) → 512 ≤ block_bytes → IsHeading block_bytes builder.heading → IsBuilt block_bytes builder → BeginsAs block_bytes builder (take block_bytes builder.bytes)
begins-as block_bytes builder large says is =
    let header = header_block block_bytes builder.heading in
    let one : length header ≡ block_bytes = header_length block_bytes builder.heading (omega (arith, large)) says in
    let front : take block_bytes builder.bytes ≡ header = ap (take block_bytes) is.header ∙ take_at header (drop block_bytes builder.bytes) block_bytes one in
    record {
      long = ap length front ∙ one;
      is = front;
      enough = omega (arith, ap length is.header, length-append header (drop block_bytes builder.bytes), one);
    }

-- the block with which a built batch begins is a header block of its heading
pub header-block : (block_bytes : ℕ) (builder : BuilderView) (front : List ℕ) → IsHeading block_bytes builder.heading → BeginsAs block_bytes builder front → IsHeaderBlock (length front) front builder.heading
header-block block_bytes builder front says b = rw b.long (record { says = says; encoded = b.is })

-- the heading that is read from a built batch is its own
pub read-again : (block_bytes : ℕ) (builder : BuilderView) (front : List ℕ) (heading : Heading) → block_bytes < 2 ^ 32 → IsHeading block_bytes builder.heading → BeginsAs block_bytes builder front → heading ≡ heading_in front → heading ≡ builder.heading
read-again block_bytes builder front heading small says b is = is ∙ ap heading_in b.is ∙ header_again block_bytes builder.heading small says

-- ---- its data

cut-concat : (size : ℕ) (blocks : List (List ℕ)) → AreWhole size blocks → cut_blocks size (length blocks) (concat blocks) ≡ blocks
cut-concat size [] whole = refl
cut-concat size (b ∷ bs) whole =
    let first : take size (b ++ concat bs) ≡ b = take_at b (concat bs) size whole.0 in
    let rest : drop size (b ++ concat bs) ≡ concat bs = drop_at b (concat bs) size whole.0 in
    rw (first, rest) (ap (λ (xs : List (List ℕ)). b ∷ xs) (cut-concat size bs whole.1))

length-concat : (size : ℕ) (blocks : List (List ℕ)) → AreWhole size blocks → length (concat blocks) ≡ length blocks * size
length-concat size [] whole = omega arith
length-concat size (b ∷ bs) whole = omega (arith, length-append b (concat bs), whole.0, length-concat size bs whole.1, add-mul 1 (length bs) size)

-- a Move has as many data blocks as its entries need
pub length-moved : (source : Source) (blocks : List ℕ) → length (moved_data source blocks) ≡ data_count (moved_entries source.places blocks)
length-moved source [] = refl
length-moved source (block ∷ blocks) = one (slice_index_or source.places block places.None) (length-moved source blocks)
  where
    one : (p : Place) → length (moved_data source blocks) ≡ data_count (moved_entries source.places blocks)
        → length (blocks_listed (said_at source.blocks source.start p) ++ moved_data source blocks) ≡ data_count (placed_entry block p ∷ moved_entries source.places blocks)
    one places.None rest = omega (arith, rest)
    one (places.Trimmed address) rest = omega (arith, rest)
    one (places.At address) rest = omega (arith, rest)

abbrev batch_with : Heading → List (List ℕ) → Batch
batch_with heading body = record { heading = heading; body = body }

-- the bytes of a header and of whole blocks are the batch's
built-as : (block : ℕ) (builder : BuilderView) (batch : Batch) → 512 ≤ block → IsHeading block batch.heading → builder.heading ≡ batch.heading → builder.bytes ≡ header_block block batch.heading ++ concat batch.body → AreWhole block batch.body
    → length batch.body ≡ data_count batch.heading.entries → IsBuiltAs block batch builder
built-as block builder batch large says heading bytes whole count =
    let header = header_block block batch.heading in
    let long : length header ≡ block = header_length block batch.heading (omega (arith, large)) says in
    let rest : drop block builder.bytes ≡ concat batch.body = ap (drop block) bytes ∙ drop_at header (concat batch.body) block long in
    let number : data_count builder.heading.entries ≡ length batch.body = ap (λ (h : Heading). data_count h.entries) heading ∙ sym count in
    let body : cut_blocks block (data_count builder.heading.entries) (drop block builder.bytes) ≡ batch.body = ap (λ (n : ℕ). cut_blocks block n (drop block builder.bytes)) number ∙ ap (cut_blocks block (length batch.body)) rest ∙ cut-concat block batch.body whole in
    record {
      whole = record {
        header = bytes ∙ ap (λ (h : Heading). header_block block h ++ concat batch.body) (sym heading) ∙ ap (λ (xs : List ℕ). header_block block builder.heading ++ xs) (sym rest);
        data_length = ap length rest ∙ length-concat block batch.body whole ∙ ap (λ (n : ℕ). n * block) (sym number);
      };
      is = ap (λ (h : Heading). batch_with h (cut_blocks block (data_count builder.heading.entries) (drop block builder.bytes))) heading ∙ ap (batch_with batch.heading) body;
    }

-- ---- the data is copied, record by record

-- What is left to copy, from here, gives what all gives from the start.
pub record Copying (start now : DriveState) (tables : TablesView) (zone : ℕ) (reported : ReportedZone) (old new : BuilderView) (blocks rest : List ℕ) : Type 0 where
  pub kept : KeepsZones start now
  pub heading : new.heading ≡ old.heading
  pub bytes : new.bytes ++ concat (moved_data (source_of start tables zone) rest) ≡ old.bytes ++ concat (moved_data (source_of start tables zone) blocks)
  pub whole : AreWhole start.geometry.block (moved_data (source_of start tables zone) rest) → AreWhole start.geometry.block (moved_data (source_of start tables zone) blocks)
  pub places : AllByRecursion (IsReadableAt tables (zone * start.geometry.size) reported.blocks) rest

-- before the first record is copied, all are left
pub copying-none : (start : DriveState) (tables : TablesView) (zone : ℕ) (reported : ReportedZone) (builder : BuilderView) (blocks : List ℕ) → IsKnown start zone reported → AllByRecursion (IsReadableAt tables (zone * start.geometry.size) reported.blocks) blocks
    → Copying start start tables zone reported builder builder blocks blocks
copying-none start tables zone reported builder blocks known places = record { kept = keeps-none start known.lawful; heading = refl; bytes = refl; whole = λ w. w; places = places }

-- once the data of a record is added, one record fewer is left to copy
pub copying-more : (start now next : DriveState) (tables : TablesView) (zone : ℕ) (reported : ReportedZone) (old middle new : BuilderView) (blocks rest : List ℕ) (i block : ℕ) → drop i blocks ≡ block ∷ rest → Copying start now tables zone reported old middle blocks (drop i blocks) → KeepsZones now next
    → new.heading ≡ middle.heading → new.bytes ≡ middle.bytes ++ concat (blocks_listed (said_at (readable_at now zone) (zone * now.geometry.size) (slice_index_or tables.map.places block places.None)))
    → AreWhole now.geometry.block (blocks_listed (said_at (readable_at now zone) (zone * now.geometry.size) (slice_index_or tables.map.places block places.None))) → Copying start next tables zone reported old new blocks rest
copying-more start now next tables zone reported old middle new blocks rest i block split was kept heading bytes whole =
    let source = source_of start tables zone in
    let one = blocks_listed (said source block) in
    let before = rw split at was.bytes in
    let whole_before : AreWhole start.geometry.block (moved_data source (block ∷ rest)) → AreWhole start.geometry.block (moved_data source blocks) = rw split at was.whole in
    let places = rw split at was.places in
    let bytes' : new.bytes ≡ middle.bytes ++ concat one = rw (kept-blocks start now zone was.kept, was.kept.geometry) at bytes in
    let whole' : AreWhole start.geometry.block one = rw (kept-blocks start now zone was.kept, was.kept.geometry) at whole in
    record {
      kept = keeps-both start now next was.kept kept;
      heading = heading ∙ was.heading;
      bytes = rw bytes' (append_assoc middle.bytes (concat one) (concat (moved_data source rest)) ∙ ap (λ (xs : List ℕ). middle.bytes ++ xs) (sym (concat-append one (moved_data source rest))) ∙ before);
      whole = λ w. whole_before (all-append (λ (b : List ℕ). length b ≡ start.geometry.block) one (moved_data source rest) whole' w);
      places = places.1;
    }

-- the next of some blocks
pub turn : {X : Type 0} (xs : List X) (i : ℕ) (x d : X) → i < length xs → x ≡ get_or xs i d → drop i xs ≡ x ∷ drop (i + 1) xs
turn xs i x d lt is = drop_more xs i d lt ∙ ap (λ y. y ∷ drop (i + 1) xs) (sym is)

-- a trim has no data
pub no-data : (blocks : List (List ℕ)) (start : ℕ) (p : Place) → ((address : ℕ) → p ≡ places.At address → ⊥) → blocks_listed (said_at blocks start p) ≡ []
no-data blocks start places.None other = refl
no-data blocks start (places.Trimmed address) other = refl
no-data blocks start (places.At address) other = absurd (other address refl)

-- ---- step by step

abbrev heading_by : ℕ → ℕ → Option ℕ → List Entry → Heading
heading_by sequence torn size entries = record { kind = Move; sequence = sequence; source = torn; size = size; entries = entries }

-- a Move that was begun, named, encoded and copied is built
pub build-done : (start : DriveState) (tables : TablesView) (plan : MovePlan) (k block sequence : ℕ) (size : Option ℕ) (blocks : List ℕ) (begun named encoded copied : BuilderView) → IsInRange start.geometry → IsHeading start.geometry.block (move_by (source_of start tables plan.torn) plan k).heading
    → block ≡ start.geometry.block → blocks ≡ named_by plan k → size ≡ size_by plan k → sequence ≡ plan.next + k
    → begun.heading ≡ record { kind = Move; sequence = sequence; source = plan.torn; size = size; entries = [] }
    → named.heading ≡ record begun.heading { entries = begun.heading.entries ++ moved_entries tables.map.places blocks }
    → encoded.heading ≡ named.heading → encoded.bytes ≡ header_block block named.heading → copied.heading ≡ encoded.heading
    → copied.bytes ≡ encoded.bytes ++ concat (moved_data (source_of start tables plan.torn) blocks) → AreWhole start.geometry.block (moved_data (source_of start tables plan.torn) blocks)
    → IsBuiltAs start.geometry.block (move_by (source_of start tables plan.torn) plan k) copied
build-done start tables plan k block sequence size blocks begun named encoded copied range says block-is blocks-is size-is sequence-is begun-is named-is encoded-heading encoded-bytes copied-heading copied-bytes whole =
    let source = source_of start tables plan.torn in
    let batch = move_by source plan k in
    let raw : named.heading ≡ heading_by sequence plan.torn size (moved_entries tables.map.places blocks) = named-is ∙ ap (λ (h : Heading). record h { entries = h.entries ++ moved_entries tables.map.places blocks }) begun-is in
    let same : heading_by sequence plan.torn size (moved_entries tables.map.places blocks) ≡ batch.heading = rw (sequence-is, size-is, blocks-is) refl in
    let heading : named.heading ≡ batch.heading = raw ∙ same in
    built-as start.geometry.block copied batch (large-block start.geometry range) says (copied-heading ∙ encoded-heading ∙ heading)
    (copied-bytes ∙ ap (λ (xs : List ℕ). xs ++ concat (moved_data source blocks)) (encoded-bytes ∙ ap (λ (s : ℕ). header_block s named.heading) block-is ∙ ap (header_block start.geometry.block) heading) ∙ ap (λ (bs : List ℕ). header_block start.geometry.block batch.heading ++ concat (moved_data source bs)) blocks-is)
    (rw blocks-is at whole) (length-moved source (named_by plan k))

-- ---- what is copied, whatever the Reads return

-- a place without data counts none
pub no-count : (p : Place) → ((address : ℕ) → p ≡ places.At address → ⊥) → data_count_at p ≡ 0
no-count places.None other = refl
no-count (places.Trimmed address) other = refl
no-count (places.At address) other = absurd (other address refl)

-- the data of the first of some blocks, and that of the others
data-first : (all : List Place) (block : ℕ) (rest : List ℕ) → data_count (moved_entries all (block ∷ rest)) ≡ data_count_at (slice_index_or all block places.None) + data_count (moved_entries all rest)
data-first all block rest = one (slice_index_or all block places.None)
  where
    one : (p : Place) → data_count (placed_entry block p ∷ moved_entries all rest) ≡ data_count_at p + data_count (moved_entries all rest)
    one places.None = omega arith
    one (places.Trimmed address) = omega arith
    one (places.At address) = omega arith

-- As many bytes were added as the blocks that are copied have. While the drive is clean they are those of the blocks, if these can be read.
pub record CopyingSome (start now : DriveState) (tables : TablesView) (zone : ℕ) (reported : ReportedZone) (old new : BuilderView) (blocks rest : List ℕ) : Type 0 where
  pub stays : Stays start now
  pub kept : IsKnown start zone reported → KeepsZones start now
  pub heading : new.heading ≡ old.heading
  pub got : List ℕ
  pub joined : new.bytes ≡ old.bytes ++ got
  pub count : length got + data_count (moved_entries tables.map.places rest) * start.geometry.block ≡ data_count (moved_entries tables.map.places blocks) * start.geometry.block
  pub named : AllByRecursion (IsNamed tables) rest
  pub readable : AllByRecursion (IsReadableAt tables (zone * start.geometry.size) reported.blocks) blocks → AllByRecursion (IsReadableAt tables (zone * start.geometry.size) reported.blocks) rest
  pub copied : IsTrue now.clean → IsKnown start zone reported → AllByRecursion (IsReadableAt tables (zone * start.geometry.size) reported.blocks) blocks → Copying start now tables zone reported old new blocks rest

pub copying-begin : (start : DriveState) (tables : TablesView) (zone : ℕ) (reported : ReportedZone) (builder : BuilderView) (blocks : List ℕ) → IsLawful start → AllByRecursion (IsNamed tables) blocks
    → CopyingSome start start tables zone reported builder builder blocks blocks
copying-begin start tables zone reported builder blocks lawful named = record {
  stays = record { geometry = refl; lawful = lawful; trusted = λ clean. clean; unfailing = λ up. up };
  kept = λ known. keeps-none start lawful;
  heading = refl;
  got = [];
  joined = sym (append-nil builder.bytes);
  count = omega arith;
  named = named;
  readable = λ all. all;
  copied = λ clean known all. copying-none start tables zone reported builder blocks known all;
}

pub copying-step : (start now next : DriveState) (tables : TablesView) (zone : ℕ) (reported : ReportedZone) (old middle new : BuilderView) (blocks rest : List ℕ) (i block : ℕ) → drop i blocks ≡ block ∷ rest → CopyingSome start now tables zone reported old middle blocks (drop i blocks)
    → Stays now next → (IsKnown now zone reported → KeepsZones now next)
    → new.heading ≡ middle.heading → Extends middle.bytes new.bytes (data_count_at (slice_index_or tables.map.places block places.None) * now.geometry.block)
    → (IsTrue next.clean → IsKnown now zone reported → IsBlockAt (zone * now.geometry.size) reported.blocks (slice_index_or tables.map.places block places.None)
    → Adds middle.bytes now.geometry.block (blocks_listed (said_at (readable_at now zone) (zone * now.geometry.size) (slice_index_or tables.map.places block places.None))) new.bytes)
    → CopyingSome start next tables zone reported old new blocks rest
copying-step start now next tables zone reported old middle new blocks rest i block split was stays kept heading grown bytes =
    let g = start.geometry in
    let same : now.geometry.block ≡ g.block = ap (λ (x : Geometry). x.block) was.stays.geometry in
    let size : now.geometry.size ≡ g.size = ap (λ (x : Geometry). x.size) was.stays.geometry in
    let p = slice_index_or tables.map.places block places.None in
    let before = rw (split, data-first tables.map.places block rest) at was.count in
    let named = rw split at was.named in
    let left : AllByRecursion (IsReadableAt tables (zone * g.size) reported.blocks) blocks → AllByRecursion (IsReadableAt tables (zone * g.size) reported.blocks) (block ∷ rest) = rw split at was.readable in
    let more : length grown.got ≡ data_count_at p * g.block = rw same at grown.long in
    record {
      stays = record { geometry = stays.geometry ∙ was.stays.geometry; lawful = stays.lawful; trusted = λ clean. was.stays.trusted (stays.trusted clean); unfailing = λ up. was.stays.unfailing (stays.unfailing up) };
      kept = λ known. keeps-both start now next (was.kept known) (kept (kept-known start now zone reported (was.kept known) known));
      heading = heading ∙ was.heading;
      got = was.got ++ grown.got;
      joined = grown.joined ∙ ap (λ (xs : List ℕ). xs ++ grown.got) was.joined ∙ append_assoc old.bytes was.got grown.got;
      count = omega (arith, before, more, length-append was.got grown.got, add-mul (data_count_at p) (data_count (moved_entries tables.map.places rest)) g.block);
      named = named.1;
      readable = λ all. (left all).1;
      copied = λ clean known all.
          let here : IsBlockAt (zone * now.geometry.size) reported.blocks p = rw size (left all).0.place in
          let then = kept-known start now zone reported (was.kept known) known in
          let added = bytes clean then here in
          copying-more start now next tables zone reported old middle new blocks rest i block split (was.copied (stays.trusted clean) known all) (kept then) heading added.bytes added.whole;
    }

-- at the end all are copied
pub copied-all : (start now : DriveState) (tables : TablesView) (zone : ℕ) (reported : ReportedZone) (old new : BuilderView) (blocks : List ℕ) (i : ℕ) → length blocks ≤ i → CopyingSome start now tables zone reported old new blocks (drop i blocks) → CopyingSome start now tables zone reported old new blocks []
copied-all start now tables zone reported old new blocks i end was = rw (drop_all i blocks end) at was

pub copies-added : (start now : DriveState) (tables : TablesView) (zone : ℕ) (reported : ReportedZone) (old new : BuilderView) (blocks : List ℕ) → Copying start now tables zone reported old new blocks []
    → Adds old.bytes start.geometry.block (moved_data (source_of start tables zone) blocks) new.bytes
copies-added start now tables zone reported old new blocks done = record { bytes = sym (append-nil new.bytes) ∙ done.bytes; whole = done.whole tt }

-- a batch that was begun, named, encoded and copied has its heading, whatever the data
pub shape-done : (start : DriveState) (tables : TablesView) (plan : MovePlan) (k block sequence : ℕ) (size : Option ℕ) (blocks : List ℕ) (begun named encoded copied : BuilderView) → IsInRange start.geometry → IsHeading start.geometry.block (move_by (source_of start tables plan.torn) plan k).heading
    → block ≡ start.geometry.block → blocks ≡ named_by plan k → size ≡ size_by plan k → sequence ≡ plan.next + k
    → begun.heading ≡ record { kind = Move; sequence = sequence; source = plan.torn; size = size; entries = [] }
    → named.heading ≡ record begun.heading { entries = begun.heading.entries ++ moved_entries tables.map.places blocks }
    → encoded.heading ≡ named.heading → encoded.bytes ≡ header_block block named.heading → copied.heading ≡ encoded.heading
    → Extends encoded.bytes copied.bytes (data_count (moved_entries tables.map.places blocks) * start.geometry.block)
    → IsShaped start.geometry.block (move_by (source_of start tables plan.torn) plan k).heading copied
shape-done start tables plan k block sequence size blocks begun named encoded copied range says block-is blocks-is size-is sequence-is begun-is named-is encoded-heading encoded-bytes copied-heading more =
    let source = source_of start tables plan.torn in
    let batch = move_by source plan k in
    let raw : named.heading ≡ heading_by sequence plan.torn size (moved_entries tables.map.places blocks) = named-is ∙ ap (λ (h : Heading). record h { entries = h.entries ++ moved_entries tables.map.places blocks }) begun-is in
    let same : heading_by sequence plan.torn size (moved_entries tables.map.places blocks) ≡ batch.heading = rw (sequence-is, size-is, blocks-is) refl in
    let heading : copied.heading ≡ batch.heading = copied-heading ∙ encoded-heading ∙ raw ∙ same in
    let header : encoded.bytes ≡ header_block start.geometry.block copied.heading = encoded-bytes ∙ ap (λ (s : ℕ). header_block s named.heading) block-is ∙ ap (header_block start.geometry.block) (raw ∙ same ∙ sym heading) in
    let one : length encoded.bytes ≡ start.geometry.block = ap length header ∙ header_length start.geometry.block copied.heading (omega (arith, large-block start.geometry range)) (rw heading says) in
    let rest : drop start.geometry.block copied.bytes ≡ more.got = ap (drop start.geometry.block) more.joined ∙ drop_at encoded.bytes more.got start.geometry.block one in
    let number : data_count copied.heading.entries ≡ data_count (moved_entries tables.map.places blocks) = ap (λ (h : Heading). data_count h.entries) heading ∙ ap (λ (bs : List ℕ). data_count (moved_entries tables.map.places bs)) (sym blocks-is) in
    record {
      whole = record {
        header = more.joined ∙ ap (λ (xs : List ℕ). xs ++ more.got) header ∙ ap (λ (xs : List ℕ). header_block start.geometry.block copied.heading ++ xs) (sym rest);
        data_length = rw number (ap length rest ∙ more.long);
      };
      heading_is = heading;
    }

-- a batch has no more data blocks than entries
pub few_data : (es : List Entry) → data_count es ≤ length es
few_data es = data-few es
