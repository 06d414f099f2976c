-- A drive in memory is stored in a file.
use Rattle.std.proofs.Common.{◌≡◌, ℕ, zero, suc, ◌+◌, ◌-◌, ◌*◌, ◌/◌, ◌%◌, ◌<◌, ◌≤◌, Bool, true, false, cond, ◌&&◌, List, [], ◌∷◌, length, map, get_or, replicate, slice_index, refl, sym, ap, ◌∙◌, subst, inl, inr, arith, below_more, Result, Ok, Err}
use Rattle.std.specs.List.{AllByRecursion}
use Rattle.std.specs.Prelude.{OnOk}
use Rattle.std.proofs.lemmas.Grind.{same_number_lists}
use Rattle.std.proofs.lemmas.List.{get_or-replicate, get_or_default, length-map, length-replicate}
use Rattle.sqlite_disk.specs.Disk.{Follows, Holds, Only}
use Rattle.nvme_wire.specs.declared.zone_state.ZoneState.TheVariants.{Offline}
use Rattle.zone_states.specs.declared.geometry.Geometry.{Geometry}
use Rattle.zone_states.specs.Geometry.{IsInRange}
use Rattle.zone_states.specs.Stored.{AreWholeBlocks, StoredZone}
use Rattle.zone_states.specs.Zone.{IsLawfulZone}
use Rattle.zone_states.proofs.Cutting.{length-cut}
use Rattle.zone_states.proofs.HoldLaws.{may_hold-most}
use Rattle.drive_port.specs.Drive.{DriveState}
use Rattle.drive_port.specs.Run.{restarted_zone}
use Rattle.zone_drive.specs.Held.{restarted_stored}
use Rattle.zone_drive.specs.Stored.{AreZones, zones_of}
use Rattle.zone_drive.specs.Table.{stored_at}
use Rattle.file_bytes.specs.Changes.{SameBeside}
use Rattle.file_drive.specs.Finds.{Finds}
use Rattle.file_drive.specs.Head.{is_of_boot, magic, shape_words}
use Rattle.file_drive.specs.InFile.{AreWithin}
use Rattle.file_drive.specs.Layout.{at_flushed, at_live, at_place, at_table, at_zones, file_length, part, word_in}
use Rattle.file_drive.specs.Opening.{IsTable, opened_table, proves_live}
use Rattle.file_drive.specs.Storing.{AreUnnamed, HasHead, HoldsDrive, stored_entries, stored_entry}
use Rattle.file_drive.specs.Tables.{entry_of, flushed_table, live_table, place_of, word_of, words_in, zone_in, zones_in}
use Rattle.file_drive.specs.declared.boot.Boot.{Boot}
use Rattle.file_drive.specs.declared.entry.Entry.{Entry}
use Rattle.file_drive.proofs.FindsLaws.{entries-table, finds}
use Rattle.file_drive.proofs.FormatLaws.{word-zero, words-zero, zeros}
use Rattle.file_drive.proofs.PartLaws.{beside-both, beside-wider, length-words, part-beside, part-held, word-beside, words-at, words-beside}
use Rattle.file_drive.proofs.PlaceLaws.{whole-apart, zone-ends, zones-after, zones-beside}
use Rattle.file_drive.proofs.ServedLaws.{small-capacity, words-say, zones-kept}

-- what follows from a fact of a call that succeeded
pub on-ok : {T E : Type 0} (result : Result T E) (P Q : Type 0) → (P → Q) → OnOk result P → OnOk result Q
on-ok (Ok value) P Q f p = f p
on-ok (Err error) P Q f p = tt

-- ---- what may be left

pub follows-wider : (at n from m : ℕ) (old new : List ℕ → Type 0) → Follows (SameBeside at n) old new → from ≤ at → at + n ≤ from + m → Follows (SameBeside from m) old new
follows-wider at n from m old new follows low high bytes may =
    let before = follows bytes may in
    (before.0, before.1, beside-wider at n from m before.0 bytes before.2 low high)

-- a change behind the first word names nothing
pub unnamed-beside : (at n : ℕ) (old new : List ℕ → Type 0) → Follows (SameBeside at n) old new → 8 ≤ at → AreUnnamed old → AreUnnamed new
unnamed-beside at n old new follows high unnamed bytes may =
    let before = follows bytes may in
    let same = word-beside at n 0 before.0 bytes before.2 (inl (omega (arith, high))) in
    λ named. unnamed before.0 before.1 (sym same ∙ named)

-- ---- the head

-- the words of a shape, and the magic before them
pub headed : (g : Geometry) (old put new : List ℕ) (words : List ℕ) → magic ∷ words ≡ shape_words g → SameBeside 8 56 old put → words_in put 8 7 ≡ words → SameBeside 0 8 put new → word_in new 0 ≡ magic → HasHead g old new
headed g old put new words shape first is second named = record {
  beside = beside-both 0 64 old put new (beside-wider 8 56 0 64 old put first (omega arith) (omega arith)) (beside-wider 0 8 0 64 put new second (omega arith) (omega arith));
  words = rw (named, words-beside 0 8 8 7 put new second (inr (omega arith)), is) shape;
}

-- what may be left of a synced file whose first word is written
pub headed-left : (g : Geometry) (old put : List ℕ) (words : List ℕ) (before after : List ℕ → Type 0) → magic ∷ words ≡ shape_words g → SameBeside 8 56 old put → words_in put 8 7 ≡ words
    → Only put before → Follows (SameBeside 0 8) before after → (bytes : List ℕ) → after bytes → word_in bytes 0 ≡ magic → HasHead g old bytes
headed-left g old put words before after shape first is only follows bytes may named =
    let was = follows bytes may in
    let same : was.0 ≡ put = only was.0 was.1 in
    headed g old put bytes words shape first is (subst (λ (xs : List ℕ). SameBeside 0 8 xs bytes) same was.2) named

-- ---- the zones of a drive

-- a zone that was read
pub zone-read : (zones : List StoredZone) (i : ℕ) (zone : StoredZone) → i < length zones → zone ≡ get_or zones i zone → zone ≡ stored_at zones i
zone-read zones i zone low is = is ∙ get_or_default zones i zone (record { state = Offline; bytes = [] }) low

module _ (g : Geometry) (zones : List StoredZone) (are : AreZones g zones) where
  whole-at : (i : ℕ) → i < length zones → AreWholeBlocks g.block (stored_at zones i).bytes
  whole-at i low = at zones i are.whole low
    where
      at : (zones : List StoredZone) (i : ℕ) → AllByRecursion (λ (zone : StoredZone). AreWholeBlocks g.block zone.bytes) zones → i < length zones → AreWholeBlocks g.block (stored_at zones i).bytes
      at [] i all low = absurd (omega (arith, low))
      at (zone ∷ zones) zero all low = all.0
      at (zone ∷ zones) (suc i) all low = at zones i all.1 (omega (arith, low))

  within : AreWithin g (stored_entries g zones)
  within = all zones are.lawful
    where
      all : (zones : List StoredZone) → AllByRecursion (IsLawfulZone g) (zones_of g.block zones) → AreWithin g (stored_entries g zones)
      all [] lawful = tt
      all (zone ∷ zones) lawful =
          let most = may_hold-most zone.state g.capacity _ lawful.0.written in
          (omega (arith, most, length-cut g.block (length zone.bytes / g.block) zone.bytes), all zones lawful.1)

  pub few-at : (i : ℕ) → i < length zones → length (stored_at zones i).bytes / g.block ≤ g.capacity
  few-at i low = at zones i within low
    where
      at : (zones : List StoredZone) (i : ℕ) → AreWithin g (stored_entries g zones) → i < length zones → length (stored_at zones i).bytes / g.block ≤ g.capacity
      at [] i all low = absurd (omega (arith, low))
      at (zone ∷ zones) zero all low = all.0
      at (zone ∷ zones) (suc i) all low = at zones i all.1 (omega (arith, low))

  -- the blocks of a zone, in its place
  abbrev pub stored_place : ℕ → ℕ
  stored_place i = at_place g (place_of i (stored_entry g (stored_at zones i)))

  abbrev pub IsPut : List ℕ → ℕ → Type 0
  IsPut file i = zone_in g file i (stored_entry g (stored_at zones i)) ≡ stored_at zones i

  pub blocks-end : (i : ℕ) → i < length zones → stored_place i + length (stored_at zones i).bytes ≤ file_length g
  blocks-end i low =
      let end = zone-ends g (2 * i + 0) (2 * g.zones) (length (stored_at zones i).bytes / g.block) (omega (arith, low, are.count)) (few-at i low) in
      omega (arith, end, whole-at i low)

  -- where the blocks of a zone go, and which they are
  pub block-at : (i : ℕ) (zone : StoredZone) (entry : Entry) (place at : ℕ) (bytes : List ℕ) → zone ≡ stored_at zones i → entry ≡ stored_entry g zone → place ≡ place_of i entry → at ≡ at_place g place → bytes ≡ zone.bytes
      → (at ≡ stored_place i) × (bytes ≡ (stored_at zones i).bytes)
  block-at i zone entry place at bytes zone-is entry-is place-is at-is bytes-are =
      let said : entry ≡ stored_entry g (stored_at zones i) = entry-is ∙ ap (stored_entry g) zone-is in
      (at-is ∙ ap (at_place g) (place-is ∙ ap (place_of i) said), bytes-are ∙ ap (λ (z : StoredZone). z.bytes) zone-is)

  pub blocks-high : (i : ℕ) → 8 ≤ stored_place i
  blocks-high i = omega (arith, zones-after g 0 (omega arith))

  pub blocks-beside : (old new : List ℕ) (i : ℕ) → SameBeside (stored_place i) (length (stored_at zones i).bytes) old new → i < length zones
      → SameBeside (at_zones g) (file_length g - at_zones g) old new
  blocks-beside old new i beside low =
      beside-wider (stored_place i) (length (stored_at zones i).bytes) (at_zones g) (file_length g - at_zones g) old new beside (omega arith) (omega (arith, blocks-end i low))

  -- a zone before them stays
  block-kept : (old new : List ℕ) (i k : ℕ) → SameBeside (stored_place i) (length (stored_at zones i).bytes) old new → k < i → i < length zones → IsPut old k → IsPut new k
  block-kept old new i k beside before low put =
      let zone = stored_at zones k in
      let end = zone-ends g (2 * k + 0) (2 * i + 0) (length zone.bytes / g.block) (omega (arith, before)) (few-at k (omega (arith, before, low))) in
      ap (λ (bytes : List ℕ). record { state = zone.state; bytes = bytes })
      (part-beside (stored_place i) (length (stored_at zones i).bytes) (stored_place k) (length zone.bytes / g.block * g.block) old new beside (inl end))
      ∙ put

  -- the zone itself is there
  block-put : (file : List ℕ) (i : ℕ) → Holds file (stored_place i) (stored_at zones i).bytes → i < length zones → IsPut file i
  block-put file i holds low =
      let zone = stored_at zones i in
      let same : part file (stored_place i) (length zone.bytes / g.block * g.block) ≡ zone.bytes =
      ap (part file (stored_place i)) (sym (whole-at i low)) ∙ part-held file (stored_place i) zone.bytes holds in
      ap (λ (bytes : List ℕ). record { state = zone.state; bytes = bytes }) same

  pub blocks-next : (old new : List ℕ) (i : ℕ) → SameBeside (stored_place i) (length (stored_at zones i).bytes) old new → Holds new (stored_place i) (stored_at zones i).bytes → i < length zones
      → ((k : ℕ) → k < i → IsPut old k) → (k : ℕ) → k < i + 1 → IsPut new k
  blocks-next old new i beside holds low before =
      below_more _ _ (λ k less. block-kept old new i k beside less low (before k less)) (block-put new i holds low)

zones-by : (g : Geometry) (file : List ℕ) (number : ℕ) (zones : List StoredZone) → ((k : ℕ) → k < length zones → zone_in g file (number + k) (stored_entry g (stored_at zones k)) ≡ stored_at zones k)
    → zones_in g file number (stored_entries g zones) ≡ zones
zones-by g file number [] each = refl
zones-by g file number (zone ∷ zones) each =
    let here : number + 0 ≡ number = omega arith in
    let first : zone_in g file number (stored_entry g zone) ≡ zone = rw here at (each 0 (omega arith)) in
    let rest = zones-by g file (number + 1) zones (λ k low.
    let there : number + suc k ≡ number + 1 + k = omega arith in
    rw there at (each (suc k) (omega (arith, low)))) in
    rw (first, rest) refl

-- all zones are there
pub zones-put : (g : Geometry) (file : List ℕ) (zones : List StoredZone) → ((k : ℕ) → k < length zones → zone_in g file k (stored_entry g (stored_at zones k)) ≡ stored_at zones k)
    → zones_in g file 0 (stored_entries g zones) ≡ zones
zones-put g file zones each = zones-by g file 0 zones (λ k low. let here : 0 + k ≡ k = omega arith in rw here (each k low))

-- ---- a table

-- the first words are put
abbrev pub FirstPut : List ℕ → ℕ → List ℕ → ℕ → Type 0
FirstPut file at wanted i = (k : ℕ) → k < i → word_in file (at + 8 * k) ≡ slice_index wanted k

-- and the others are zeros
abbrev pub OthersZero : List ℕ → ℕ → ℕ → ℕ → Type 0
OthersZero file at count i = (k : ℕ) → i ≤ k → k < count → word_in file (at + 8 * k) ≡ 0

pub first-next : (old new wanted : List ℕ) (at i : ℕ) → SameBeside (at + 8 * i) 8 old new → word_in new (at + 8 * i) ≡ slice_index wanted i → FirstPut old at wanted i → FirstPut new at wanted (i + 1)
first-next old new wanted at i beside is before =
    below_more _ _ (λ k less. word-beside (at + 8 * i) 8 (at + 8 * k) old new beside (inl (omega (arith, less))) ∙ before k less) is

pub others-next : (old new : List ℕ) (at count i : ℕ) → SameBeside (at + 8 * i) 8 old new → OthersZero old at count i → OthersZero new at count (i + 1)
others-next old new at count i beside others k high low =
    word-beside (at + 8 * i) 8 (at + 8 * k) old new beside (inr (omega (arith, high))) ∙ others k (omega (arith, high)) low

pub others-all : (file : List ℕ) (at count : ℕ) → words_in file at count ≡ replicate count 0 → OthersZero file at count 0
others-all file at count none k high low = sym (words-at file at count k low) ∙ ap (λ (words : List ℕ). slice_index words k) none ∙ get_or-replicate count k 0 0 low

pub table-put : (file wanted : List ℕ) (at count : ℕ) → length wanted ≡ count → FirstPut file at wanted count → words_in file at count ≡ wanted
table-put file wanted at count long put =
    same_number_lists (words_in file at count) wanted (length-words file at count ∙ sym long) (λ k low.
    let low' : k < count = omega (arith, low, length-words file at count) in
    words-at file at count k low' ∙ put k low')

-- the word of a zone
pub wanted-at : (g : Geometry) (zones : List StoredZone) (i : ℕ) → i < length zones → slice_index (map word_of (stored_entries g zones)) i ≡ word_of (stored_entry g (stored_at zones i))
wanted-at g [] i low = absurd (omega (arith, low))
wanted-at g (zone ∷ zones) zero low = refl
wanted-at g (zone ∷ zones) (suc i) low = wanted-at g zones i (omega (arith, low))

-- ---- all of the file

-- the tables of a file of zeros are empty once its blocks are written
pub table-empty : (g : Geometry) (old new : List ℕ) (table : ℕ) → old ≡ zeros (file_length g) → SameBeside (at_zones g) (file_length g - at_zones g) old new → table < 4
    → words_in new (at_table g table) g.zones ≡ zeros g.zones
table-empty g old new table is beside low =
    let end = zones-after g table low in
    words-beside (at_zones g) (file_length g - at_zones g) (at_table g table) g.zones old new beside (inl end)
    ∙ rw is (words-zero (file_length g) (at_table g table) g.zones (omega (arith, end)))

pub long-put : (g : Geometry) (old new : List ℕ) (at n : ℕ) → old ≡ zeros (file_length g) → SameBeside at n old new → length new ≡ file_length g
long-put g old new at n is beside = beside.long ∙ ap length is ∙ length-replicate (file_length g) 0

module _ (g : Geometry) (zones : List StoredZone) (in_range : IsInRange g) (are : AreZones g zones)
    (old put live both : List ℕ) (is : old ≡ zeros (file_length g))
    (blocks : SameBeside (at_zones g) (file_length g - at_zones g) old put) (there : zones_in g put 0 (stored_entries g zones) ≡ zones)
    (first : SameBeside (at_table g 0) (8 * g.zones) put live) (live_words : words_in live (at_table g 0) g.zones ≡ map word_of (stored_entries g zones))
    (second : SameBeside (at_table g 2) (8 * g.zones) live both) (flushed_words : words_in both (at_table g 2) g.zones ≡ map word_of (stored_entries g zones)) where
  abbrev entries : List Entry
  entries = stored_entries g zones

  count : length entries ≡ g.zones
  count = length-map zones (stored_entry g) ∙ are.count

  module _ (bytes : List ℕ) (head : HasHead g both bytes) where
    abbrev end : ℕ
    end = file_length g - at_zones g

    long : length bytes ≡ file_length g
    long = head.beside.long ∙ second.long ∙ first.long ∙ long-put g old put (at_zones g) end is blocks

    -- a word between the head and the tables is 0
    word-none : (at : ℕ) → 64 ≤ at → at + 8 ≤ 12288 → word_in bytes at ≡ 0
    word-none at high low =
        let after = zones-after g 0 (omega arith) in
        word-beside 0 64 at both bytes head.beside (inr high)
        ∙ word-beside (at_table g 2) (8 * g.zones) at live both second (inl (omega (arith, low)))
        ∙ word-beside (at_table g 0) (8 * g.zones) at put live first (inl (omega (arith, low)))
        ∙ word-beside (at_zones g) end at old put blocks (inl (omega (arith, low, after)))
        ∙ rw is (word-zero (file_length g) at (omega (arith, low, after)))

    live-is : live_table bytes ≡ 0
    live-is = ap (λ (w : ℕ). w % 2) (word-none at_live (omega arith) (omega arith))

    flushed-is : flushed_table bytes ≡ 2
    flushed-is = ap (λ (w : ℕ). 2 + w % 2) (word-none at_flushed (omega arith) (omega arith))

    table-live : words_in bytes (at_table g 0) g.zones ≡ map word_of entries
    table-live =
        words-beside 0 64 (at_table g 0) g.zones both bytes head.beside (inr (omega arith))
        ∙ words-beside (at_table g 2) (8 * g.zones) (at_table g 0) g.zones live both second (whole-apart g 2 0 (λ e. absurd (cc e)))
        ∙ live_words

    table-flushed : words_in bytes (at_table g 2) g.zones ≡ map word_of entries
    table-flushed = words-beside 0 64 (at_table g 2) g.zones both bytes head.beside (inr (omega arith)) ∙ flushed_words

    zones-there : zones_in g bytes 0 entries ≡ zones
    zones-there =
        let most = within g zones are in
        let kept = λ (at n : ℕ) (a b : List ℕ) (beside : SameBeside at n a b) (low : at + n ≤ at_zones g).
        zones-kept g a b 0 entries (zones-beside g at n a b beside low) (omega (arith, count)) most in
        kept 0 64 both bytes head.beside (omega (arith, zones-after g 0 (omega arith)))
        ∙ kept (at_table g 2) (8 * g.zones) live both second (zones-after g 2 (omega arith))
        ∙ kept (at_table g 0) (8 * g.zones) put live first (zones-after g 0 (omega arith))
        ∙ there

    table-is : IsTable g (map word_of entries)
    table-is = entries-table g bytes entries in_range long count (within g zones are) (rw zones-there are)

    -- whatever table counts, it has the words of the zones
    counts : (boot : Boot) → words_in bytes (at_table g (opened_table g boot bytes)) g.zones ≡ map word_of entries
    counts boot = by (is_of_boot boot bytes && proves_live g bytes)
      where
        by : (same : Bool) → words_in bytes (at_table g (cond same (live_table bytes) (flushed_table bytes))) g.zones ≡ map word_of entries
        by true = ap (λ (t : ℕ). words_in bytes (at_table g t) g.zones) live-is ∙ table-live
        by false = ap (λ (t : ℕ). words_in bytes (at_table g t) g.zones) flushed-is ∙ table-flushed

    -- each system finds the zones, as a restart leaves them
    pub stored-finds : (boot : Boot) → Finds g boot bytes (map restarted_stored zones)
    stored-finds boot =
        let last : words_in bytes (at_table g (flushed_table bytes)) g.zones ≡ map word_of entries = ap (λ (t : ℕ). words_in bytes (at_table g t) g.zones) flushed-is ∙ table-flushed in
        let now = counts boot in
        let found = finds g boot bytes in_range long head.words (subst (λ (ws : List ℕ). IsTable g ws) (sym last) table-is) in
        record {
          opens = found.opens;
          shape = found.shape;
          zones_are = ap (λ (ws : List ℕ). zones_in g bytes 0 (map entry_of ws)) now
              ∙ words-say g bytes 0 entries (small-capacity g in_range) (within g zones are)
              ∙ ap (map restarted_stored) zones-there;
        }

-- ---- a drive

stored-restarted : (block : ℕ) (zones : List StoredZone) → zones_of block (map restarted_stored zones) ≡ map restarted_zone (zones_of block zones)
stored-restarted block [] = refl
stored-restarted block (zone ∷ zones) = rw (stored-restarted block zones) refl

-- a file in which each system finds its zones
pub holds-drive : (drive : DriveState) (zones : List StoredZone) (file : List ℕ) → zones_of drive.geometry.block zones ≡ drive.zones → ((boot : Boot) → Finds drive.geometry boot file (map restarted_stored zones))
    → HoldsDrive drive file
holds-drive drive zones file is finds =
    record { zones = map restarted_stored zones; are = stored-restarted drive.geometry.block zones ∙ ap (map restarted_zone) is; finds = finds }
