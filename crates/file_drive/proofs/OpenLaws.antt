-- What an open finds.
use Rattle.std.proofs.Common.{◌≡◌, ℕ, ◌+◌, ◌/◌, ◌%◌, ◌≤◌, Bool, true, false, cond, eqb, ◌&&◌, List, [], ◌∷◌, Vec, Global, length, map, refl, sym, subst, ap, ◌∙◌, inr, arith}
use Rattle.std.proofs.lemmas.Bool.{and_parts}
use Rattle.std.specs.List.{AllByRecursion, count_by, list_all}
use Rattle.std.proofs.Math.Nat.{mul-div_cancel, mul-mod_left}
use Rattle.std.proofs.lemmas.List.{length-map}
use Rattle.zone_states.specs.declared.geometry.Geometry.{Geometry}
use Rattle.zone_states.specs.Geometry.{IsInRange}
use Rattle.zone_states.specs.Stored.{StoredZone}
use Rattle.zone_states.specs.Transition.{is_active, is_open}
use Rattle.zone_drive.specs.Stored.{AreZones, is_lawful}
use Rattle.zone_drive.proofs.CountLaws.{count-stored}
use Rattle.zone_drive.proofs.ZonesLaws.{are-zones, block-some}
use Rattle.file_drive.specs.Faults.{AreTableFaults, IsOpenFault, IsReadFault, IsTableFault}
use Rattle.file_drive.specs.Found.{AreTables, IsFound, IsHead, is_set_back}
use Rattle.file_drive.specs.Head.{is_known, is_of_boot}
use Rattle.file_drive.specs.InFile.{AreApart, AreSummed, AreWithin, AreWords}
use Rattle.file_drive.specs.Layout.{at_table, file_length}
use Rattle.file_drive.specs.Opening.{AreFew, Holds, IsTable, IsWord, are_few, are_proved, opened_table, proves_live}
use Rattle.file_drive.specs.Tables.{entry_of, flushed_table, live_table, word_of, words_in, zone_in, zones_in}
use Rattle.file_drive.specs.declared.boot.Boot.{Boot}
use Rattle.file_drive.specs.declared.entry.Entry.{Entry}
use Rattle.file_drive.specs.declared.fault.OpenFault.{OpenFault}
use Rattle.file_drive.specs.declared.fault.OpenFault.TheVariants as faults
use Rattle.file_drive.specs.declared.head.Head.{Head}
use Rattle.file_drive.specs.declared.tables.Tables.{Tables}
use Rattle.file_drive.proofs.ApartLaws.{apart-self}
use Rattle.file_drive.proofs.PartLaws.{length-words}
use Rattle.file_drive.proofs.ProveLaws.{proved-apart, proved-summed, proved-table, summed-self}
use Rattle.file_drive.proofs.StoreLaws.{length-written, length-zones, zones-count}

-- ---- words that a table may have

words-said : (g : Geometry) (words : List ℕ) → AllByRecursion (IsWord g) words → map word_of (map entry_of words) ≡ words
words-said g [] all = refl
words-said g (word ∷ words) all = rw (all.0.said, words-said g words all.1) refl

words-within : (g : Geometry) (words : List ℕ) → AllByRecursion (IsWord g) words → AreWithin g (map entry_of words)
words-within g [] all = tt
words-within g (word ∷ words) all = (all.0.within, words-within g words all.1)

pub all-words : (g : Geometry) (words : List ℕ) → AllByRecursion (IsWord g) words → AreWords g words
all-words g words all = record { said = words-said g words all; within = words-within g words all }

-- ---- the zones of such words

lawful-zones : (g : Geometry) (file : List ℕ) (number : ℕ) (entries : List Entry) → 1 ≤ g.block → length file ≡ file_length g → number + length entries ≤ g.zones
    → AreWithin g entries → AllByRecursion (Holds g) entries → list_all (is_lawful g) (zones_in g file number entries) ≡ true
lawful-zones g file number [] some long few within hold = refl
lawful-zones g file number (entry ∷ entries) some long few within hold =
    let zone = zone_in g file number entry in
    let written = length-written g file number entry long (omega (arith, few)) within.0 in
    let rest : length zone.bytes % g.block ≡ 0 = ap (λ (n : ℕ). n % g.block) written ∙ mul-mod_left entry.written g.block in
    let blocks : length zone.bytes / g.block ≡ entry.written = ap (λ (n : ℕ). n / g.block) written ∙ mul-div_cancel entry.written {n = g.block} (omega (arith, some)) in
    rw (rest, blocks, hold.0, lawful-zones g file (number + 1) entries some long (omega (arith, few)) within.1 hold.1) refl

-- a drive can have them, within its limits
pub entries-zones : (g : Geometry) (file : List ℕ) (entries : List Entry) → IsInRange g → length file ≡ file_length g → length entries ≡ g.zones
    → AreWithin g entries → AllByRecursion (Holds g) entries → AreFew g entries → AreZones g (zones_in g file 0 entries)
entries-zones g file entries in_range long count within hold few =
    let zones = zones_in g file 0 entries in
    are-zones g zones (count_by (λ (zone : StoredZone). is_active zone.state) zones) (count_by (λ (zone : StoredZone). is_open zone.state) zones) in_range
    (length-zones g file 0 entries ∙ count)
    (lawful-zones g file 0 entries (block-some g in_range) long (omega (arith, count)) within hold) refl refl
    (omega (arith, few.active, zones-count g file 0 entries is_active)) (omega (arith, few.open_zones, zones-count g file 0 entries is_open))

-- the zones of a table
pub table-zones : (g : Geometry) (file words : List ℕ) → IsInRange g → length file ≡ file_length g → length words ≡ g.zones → IsTable g words
    → AreZones g (zones_in g file 0 (map entry_of words))
table-zones g file words in_range long count table =
    entries-zones g file (map entry_of words) in_range long (length-map words entry_of ∙ count) (words-within g words table.each) table.hold table.few

-- and not past them
pub zones-few : (g : Geometry) (file : List ℕ) (entries : List Entry) → AreZones g (zones_in g file 0 entries) → AreFew g entries
zones-few g file entries are =
    let zones = zones_in g file 0 entries in
    record {
      active = omega (arith, are.active, count-stored is_active g.block zones, zones-count g file 0 entries is_active);
      open_zones = omega (arith, are.open_zones, count-stored is_open g.block zones, zones-count g file 0 entries is_open);
    }

-- ---- what is read

module _ (boot : Boot) (file : List ℕ) (head : Head) (tables : Tables) (is : IsHead file head) (are : AreTables head.geometry file tables) where
  abbrev g : Geometry
  g = head.geometry

  -- the words of the table of the last flush, and of the live one
  last : words_in file (at_table g (flushed_table file)) g.zones ≡ tables.safe.items
  last = rw are.flushed_is are.safe

  live : words_in file (at_table g (live_table file)) g.zones ≡ tables.current.items
  live = rw are.live_is are.current

  pub safe-count : length tables.safe.items ≡ g.zones
  safe-count = sym (ap length are.safe) ∙ length-words file (at_table g tables.flushed) g.zones

  pub current-count : length tables.current.items ≡ g.zones
  current-count = sym (ap length are.current) ∙ length-words file (at_table g tables.live) g.zones

  -- the test of the boot that was read is the test of the file
  pub head-test : (same : Bool) → same ≡ (is_known boot && (eqb head.boot.first boot.first && eqb head.boot.second boot.second)) → (b : Bool) → same ≡ b → is_of_boot boot file ≡ b
  head-test same told b e = ap (λ (served : Boot). is_known boot && (eqb served.first boot.first && eqb served.second boot.second)) is.boot_is ∙ sym told ∙ e

  -- words of the table of the last flush that are no table
  table-fault : (fault : OpenFault) → IsTableFault g tables.safe.items fault → AreTableFaults file fault
  table-fault fault past = (g, is.words, subst (λ (ws : List ℕ). IsTableFault g ws fault) (sym last) past)

  pub flushed-fault : (fault : OpenFault) → IsTableFault g tables.safe.items fault → IsOpenFault file fault
  flushed-fault faults.NotADrive none = absurd none
  flushed-fault faults.Version none = absurd none
  flushed-fault (faults.Geometry part) none = absurd none
  flushed-fault (faults.Short wanted) none = absurd none
  flushed-fault (faults.Long wanted) none = absurd none
  flushed-fault (faults.Table number) past = table-fault (faults.Table number) past
  flushed-fault faults.Limits past = table-fault faults.Limits past
  flushed-fault faults.Copied none = absurd none
  flushed-fault (faults.Input error) none = absurd none
  flushed-fault (faults.Unsynced error) none = absurd none
  flushed-fault faults.OutOfMemory past = inr (inr (inr tt))

  -- a read that failed
  pub read-fault : (fault : OpenFault) → IsReadFault fault → IsOpenFault file fault
  read-fault faults.NotADrive none = absurd none
  read-fault faults.Version none = absurd none
  read-fault (faults.Geometry part) none = absurd none
  read-fault (faults.Short wanted) none = absurd none
  read-fault (faults.Long wanted) none = absurd none
  read-fault (faults.Table number) none = absurd none
  read-fault faults.Limits none = absurd none
  read-fault faults.Copied none = absurd none
  read-fault (faults.Input error) past = inr (inr (inr past))
  read-fault (faults.Unsynced error) none = absurd none
  read-fault faults.OutOfMemory past = inr (inr (inr past))

  module _ (safe : IsTable g tables.safe.items) (entries : Vec Entry Global) where
    -- the flushed table counts
    pub found-flushed : entries.items ≡ map entry_of tables.safe.items → (is_of_boot boot file && proves_live g file) ≡ false → (back : Bool) → back ≡ is_set_back g boot file
        → IsFound boot file (record { head = head; tables = tables; entries = entries; set_back = back })
    found-flushed say not_live back told =
        let which : opened_table g boot file ≡ flushed_table file = ap (λ (b : Bool). cond b (live_table file) (flushed_table file)) not_live in
        let words : words_in file (at_table g (opened_table g boot file)) g.zones ≡ tables.safe.items = ap (λ (t : ℕ). words_in file (at_table g t) g.zones) which ∙ last in
        record {
          head = is;
          tables = are;
          entries = say ∙ ap (map entry_of) (sym words);
          words = subst (λ (ws : List ℕ). IsTable g ws) (sym words) safe;
          safe = safe;
          apart = subst (λ (es : List Entry). AreApart tables.safe.items es) (sym say) (apart-self tables.safe.items);
          summed = subst (λ (es : List Entry). AreSummed g file tables.safe.items es) (sym say) (summed-self g file tables.safe.items safe-count);
          set_back = told;
        }

    -- the live table counts
    pub found-live : entries.items ≡ map entry_of tables.current.items → is_of_boot boot file ≡ true → proves_live g file ≡ true
        → IsFound boot file (record { head = head; tables = tables; entries = entries; set_back = false })
    found-live say of_boot proves =
        let counts : (is_of_boot boot file && proves_live g file) ≡ true = rw (of_boot, proves) refl in
        let which : opened_table g boot file ≡ live_table file = ap (λ (b : Bool). cond b (live_table file) (flushed_table file)) counts in
        let words : words_in file (at_table g (opened_table g boot file)) g.zones ≡ tables.current.items = ap (λ (t : ℕ). words_in file (at_table g t) g.zones) which ∙ live in
        let parts = and_parts (are_proved g file 0 (words_in file (at_table g (flushed_table file)) g.zones) (words_in file (at_table g (live_table file)) g.zones))
        (are_few g (map entry_of (words_in file (at_table g (live_table file)) g.zones))) proves in
        let all : are_proved g file 0 tables.safe.items tables.current.items ≡ true = rw (last, live) at parts.0 in
        let few : are_few g (map entry_of tables.current.items) ≡ true = rw live at parts.1 in
        let same : length tables.safe.items ≡ length tables.current.items = safe-count ∙ sym current-count in
        record {
          head = is;
          tables = are;
          entries = say ∙ ap (map entry_of) (sym words);
          words = subst (λ (ws : List ℕ). IsTable g ws) (sym words) (proved-table g file tables.safe.items tables.current.items same all few);
          safe = safe;
          apart = subst (λ (es : List Entry). AreApart tables.safe.items es) (sym say) (proved-apart g file tables.safe.items tables.current.items same all);
          summed = subst (λ (es : List Entry). AreSummed g file tables.safe.items es) (sym say) (proved-summed g file tables.safe.items tables.current.items same all current-count);
          set_back = rw (of_boot, proves) refl;
        }
