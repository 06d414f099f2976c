-- A file of a drive is opened.
use Rattle.std.proofs.Common.{◌≡◌, ℕ, ◌+◌, ◌/◌, ◌%◌, ◌<◌, ◌≤◌, ◌^◌, Bool, true, false, cond, eqb, ◌&&◌, List, [], ◌∷◌, length, map, slice_index, drop, None, refl, sym, ap, ◌∙◌, subst, inl, inr, arith}
use Rattle.std.specs.Prelude.{not}
use Rattle.std.specs.List.{AllByRecursion, count_by}
use Rattle.std.proofs.Math.Nat.{mul-div_cancel}
use Rattle.std.proofs.lemmas.Bool.{and_left, and_right, cases_eq, eq-eqb, le-ltb, ne_eqb}
use Rattle.std.proofs.lemmas.List.{length-map}
use Rattle.nvme_wire.specs.declared.zone_state.ZoneState.{ZoneState}
use Rattle.zone_states.specs.declared.geometry.Geometry.{Geometry}
use Rattle.zone_states.specs.Checks.{first_failing}
use Rattle.zone_states.specs.Geometry.{IsInRange, geometry_checks, is_outside}
use Rattle.zone_states.specs.Transition.{is_active, is_open}
use Rattle.zone_states.specs.Zone.{IsLawfulZone}
use Rattle.zone_states.proofs.Cutting.{length-cut}
use Rattle.drive_port.specs.Run.{restarted_state}
use Rattle.zone_drive.specs.Stored.{AreZones, may_hold, zones_of}
use Rattle.zone_drive.specs.Held.{restarted_stored}
use Rattle.zone_drive.proofs.CountLaws.{count-cons}
use Rattle.drive_port.proofs.ClosingLaws.{active-restarted, may_hold-restarted, open-restarted}
use Rattle.zone_drive.proofs.ZonesLaws.{block-some, may_hold-is, may_hold-true}
use Rattle.file_drive.specs.Faults.{AreTableFaults, IsHeadFault, IsOpenFault, IsReadFault, IsTableFault, narrow, shape_in}
use Rattle.file_drive.specs.Finds.{Finds}
use Rattle.file_drive.specs.Head.{at_second, boot_in, is_known, is_of_boot, magic, shape_words}
use Rattle.file_drive.specs.InFile.{AreApart, AreWithin, AreWords, CanOpen, IsServed, Words}
use Rattle.file_drive.specs.Layout.{at_table, file_length, word_in}
use Rattle.file_drive.specs.Opening.{AreFew, Holds, IsTable, IsWord, opened_table, opened_zones, proves_live}
use Rattle.file_drive.specs.Tables.{entry_of, flushed_table, flushed_zones, live_table, word_of, words_in, zone_in, zones_by, zones_in}
use Rattle.file_drive.specs.declared.boot.Boot.{Boot}
use Rattle.file_drive.specs.declared.entry.Entry.{Entry}
use Rattle.file_drive.specs.declared.fault.OpenFault.{OpenFault}
use Rattle.file_drive.specs.declared.fault.OpenFault.TheVariants as faults
use Rattle.file_drive.proofs.OpenLaws.{zones-few}
use Rattle.file_drive.proofs.PartLaws.{length-words}
use Rattle.file_drive.proofs.ProveLaws.{all-at, served-proves}
use Rattle.file_drive.proofs.ServedLaws.{are-words, small-capacity, word-says, words-say}
use Rattle.file_drive.proofs.StoreLaws.{length-written, no_entry}

-- ---- shapes

inside : (low high n : ℕ) → low ≤ n → n ≤ high → is_outside low high n ≡ false
inside low high n a b = rw (le-ltb n low a, le-ltb high n b) refl

-- a shape in range passes all checks
passes : (g : Geometry) → IsInRange g → first_failing (geometry_checks g) ≡ None
passes g in_range =
    let zones = inside 3 65536 g.zones in_range.zones.0 in_range.zones.1 in
    let size = inside 1 (2 ^ 20) g.size in_range.size.0 in_range.size.1 in
    let capacity = inside 4 g.size g.capacity in_range.capacity.0 in_range.capacity.1 in
    let transfer = inside 2 256 g.transfer in_range.transfer.0 in_range.transfer.1 in
    let active = inside 2 65536 g.active in_range.active.0 in_range.active.1 in
    let open_zones = inside 1 g.active g.open in_range.open_zones.0 in_range.open_zones.1 in
    elim in_range.block [ inl small ↦ rw (small, zones, size, capacity, transfer, active, open_zones) refl | inr large ↦ rw (large, zones, size, capacity, transfer, active, open_zones) refl ]

narrow-is : (word n : ℕ) → word ≡ n → n < 2 ^ 32 → narrow word ≡ n
narrow-is word n is small = omega (arith, is, small)

-- the words of a shape say it
pub shape-is : (a b : Geometry) → shape_words a ≡ shape_words b → a ≡ b
shape-is a b e =
    let at : (i : ℕ) → slice_index (shape_words a) i ≡ slice_index (shape_words b) i = λ i. ap (λ (words : List ℕ). slice_index words i) e in
    λ i. record { block = at 1 i; zones = at 2 i; size = at 3 i; capacity = at 4 i; transfer = at 5 i; active = at 6 i; «open» = at 7 i }

-- so does a head of them
shape_in-is : (file : List ℕ) (g : Geometry) → IsInRange g → words_in file 0 8 ≡ shape_words g → shape_in file ≡ g
shape_in-is file g in_range e =
    let at : (i : ℕ) → slice_index (words_in file 0 8) i ≡ slice_index (shape_words g) i = λ i. ap (λ (words : List ℕ). slice_index words i) e in
    let block : g.block < 2 ^ 32 = elim in_range.block [ inl small ↦ omega (arith, small) | inr large ↦ omega (arith, large) ] in
    let a = narrow-is _ g.block (at 1) block in
    let b = narrow-is _ g.zones (at 2) (omega (arith, in_range.zones)) in
    let c = narrow-is _ g.size (at 3) (omega (arith, in_range.size)) in
    let d = narrow-is _ g.capacity (at 4) (omega (arith, in_range.size, in_range.capacity)) in
    let t = narrow-is _ g.transfer (at 5) (omega (arith, in_range.transfer)) in
    let f = narrow-is _ g.active (at 6) (omega (arith, in_range.active)) in
    let h = narrow-is _ g.open (at 7) (omega (arith, in_range.active, in_range.open_zones)) in
    λ i. record { block = a i; zones = b i; size = c i; capacity = d i; transfer = t i; active = f i; «open» = h i }

-- ---- words and zones

pub every-word : (g : Geometry) (words : List ℕ) → map word_of (map entry_of words) ≡ words → AreWithin g (map entry_of words) → AllByRecursion (IsWord g) words
every-word g [] said within = tt
every-word g (word ∷ words) said within =
    (record { said = ap (λ (ws : List ℕ). slice_index ws 0) said; within = within.0 }, every-word g words (ap (drop 1) said) within.1)

every-hold : (g : Geometry) (file : List ℕ) (number : ℕ) (entries : List Entry) → 1 ≤ g.block → length file ≡ file_length g → number + length entries ≤ g.zones
    → AreWithin g entries → AllByRecursion (IsLawfulZone g) (zones_of g.block (zones_in g file number entries)) → AllByRecursion (Holds g) entries
every-hold g file number [] some long few within lawful = tt
every-hold g file number (entry ∷ entries) some long few within lawful =
    let zone = zone_in g file number entry in
    let written = length-written g file number entry long (omega (arith, few)) within.0 in
    let blocks = length-cut g.block (length zone.bytes / g.block) zone.bytes ∙ ap (λ (n : ℕ). n / g.block) written ∙ mul-div_cancel entry.written {n = g.block} (omega (arith, some)) in (
      may_hold-is entry.state g.capacity entry.written (rw blocks at lawful.0.written),
      every-hold g file (number + 1) entries some long (omega (arith, few)) within.1 lawful.1,
    )

-- ---- after a restart

hold-restarted : (state : ZoneState) (capacity written : ℕ) → may_hold state capacity written ≡ true → may_hold (restarted_state state) capacity written ≡ true
hold-restarted state capacity written e =
    may_hold-is (restarted_state state) capacity written (may_hold-restarted state capacity written (may_hold-true state capacity written e))

module _ (g : Geometry) (small : g.capacity < 2 ^ 32) where
  -- what the words of zones say is what a restart leaves of them
  again-hold : (entries : List Entry) → AreWithin g entries → AllByRecursion (Holds g) entries → AllByRecursion (Holds g) (map entry_of (map word_of entries))
  again-hold [] within hold = tt
  again-hold (entry ∷ entries) within hold =
      let says = word-says entry (omega (arith, small, within.0)) in
      (rw (says.0, says.1) (hold-restarted entry.state g.capacity entry.written hold.0), again-hold entries within.1 hold.1)

  again-active : (entries : List Entry) → AreWithin g entries
      → count_by (λ (entry : Entry). is_active entry.state) (map entry_of (map word_of entries)) ≡ count_by (λ (entry : Entry). is_active entry.state) entries
  again-active [] within = refl
  again-active (entry ∷ entries) within =
      let says = word-says entry (omega (arith, small, within.0)) in
      count-cons (λ (e : Entry). is_active e.state) (entry_of (word_of entry)) (map entry_of (map word_of entries))
      ∙ rw (says.0, active-restarted entry.state, again-active entries within.1) refl
      ∙ sym (count-cons (λ (e : Entry). is_active e.state) entry entries)

  again-open : (entries : List Entry) → AreWithin g entries → count_by (λ (entry : Entry). is_open entry.state) (map entry_of (map word_of entries)) ≡ 0
  again-open [] within = refl
  again-open (entry ∷ entries) within =
      let says = word-says entry (omega (arith, small, within.0)) in
      count-cons (λ (e : Entry). is_open e.state) (entry_of (word_of entry)) (map entry_of (map word_of entries))
      ∙ rw (says.0, open-restarted entry.state, again-open entries within.1) refl

  again-few : (entries : List Entry) → AreWithin g entries → AreFew g entries → AreFew g (map entry_of (map word_of entries))
  again-few entries within few = record {
    active = omega (arith, again-active entries within, few.active);
    open_zones = omega (arith, again-open entries within);
  }

-- ---- no fault

module _ (g : Geometry) (boot : Boot) (file : List ℕ) (in_range : IsInRange g) (long : length file ≡ file_length g) (head : words_in file 0 8 ≡ shape_words g) where
  abbrev flushed : List ℕ
  flushed = words_in file (at_table g (flushed_table file)) g.zones

  word-is : word_in file 0 ≡ magic
  word-is = ap (λ (words : List ℕ). slice_index words 0) head

  shape : shape_in file ≡ g
  shape = shape_in-is file g in_range head

  no-head-fault : (fault : OpenFault) → IsHeadFault file fault → IsReadFault fault
  no-head-fault faults.NotADrive is = elim is [
    | inl short ↦ absurd (omega (arith, short.0, long))
    | inr rest ↦ elim rest [
      | inl name ↦ absurd (name (ap (λ (w : ℕ). w % 2 ^ 48) word-is))
      | inr rest ↦ elim rest [ inl past ↦ absurd past.2 | inr none ↦ none ]
    ]
  ]
  no-head-fault faults.Version is = elim is [
    | inl short ↦ absurd (cc short.1)
    | inr rest ↦ elim rest [
      | inl other ↦ absurd (other.1 word-is)
      | inr rest ↦ elim rest [ inl past ↦ absurd past.2 | inr none ↦ none ]
    ]
  ]
  no-head-fault (faults.Geometry part) is = absurd (cc (sym (passes g in_range) ∙ ap (λ (s : Geometry). first_failing (geometry_checks s)) (sym shape) ∙ is.1))
  no-head-fault (faults.Short wanted) is = elim is [
    | inl short ↦ absurd (cc short.1)
    | inr rest ↦ elim rest [
      | inl none ↦ absurd none
      | inr rest ↦ elim rest [ inl less ↦ absurd (omega (arith, subst (λ (s : Geometry). length file < file_length s) shape less.2.1, long)) | inr none ↦ none ]
    ]
  ]
  no-head-fault (faults.Long wanted) is = elim is [
    | inl short ↦ absurd (cc short.1)
    | inr rest ↦ elim rest [
      | inl none ↦ absurd none
      | inr rest ↦ elim rest [ inl more ↦ absurd (omega (arith, subst (λ (s : Geometry). file_length s < length file) shape more.2.1, long)) | inr none ↦ none ]
    ]
  ]
  no-head-fault (faults.Table number) is = elim is [
    | inl short ↦ absurd (cc short.1)
    | inr rest ↦ elim rest [ inl none ↦ absurd none | inr rest ↦ elim rest [ inl past ↦ absurd past.2 | inr none ↦ none ] ]
  ]
  no-head-fault faults.Limits is = elim is [
    | inl short ↦ absurd (cc short.1)
    | inr rest ↦ elim rest [ inl none ↦ absurd none | inr rest ↦ elim rest [ inl past ↦ absurd past.2 | inr none ↦ none ] ]
  ]
  no-head-fault faults.Copied is = elim is [
    | inl short ↦ absurd (cc short.1)
    | inr rest ↦ elim rest [ inl none ↦ absurd none | inr rest ↦ elim rest [ inl past ↦ absurd past.2 | inr none ↦ none ] ]
  ]
  no-head-fault (faults.Unsynced error) is = elim is [
    | inl short ↦ absurd (cc short.1)
    | inr rest ↦ elim rest [ inl none ↦ absurd none | inr rest ↦ elim rest [ inl past ↦ absurd past.2 | inr none ↦ none ] ]
  ]
  no-head-fault (faults.Input error) is = tt
  no-head-fault faults.OutOfMemory is = tt

  module _ (last : IsTable g flushed) where
    no-table : (words : List ℕ) → IsTable g words → (fault : OpenFault) → IsTableFault g words fault → IsReadFault fault
    no-table words table faults.NotADrive none = none
    no-table words table faults.Version none = none
    no-table words table (faults.Geometry part) none = none
    no-table words table (faults.Short wanted) none = none
    no-table words table (faults.Long wanted) none = none
    no-table words table (faults.Table number) past = elim past [
      | inl word ↦ absurd (word.1 (all-at (IsWord g) words number 0 table.each word.0))
      | inr entry ↦ absurd (entry.1 (all-at (Holds g) (map entry_of words) number no_entry table.hold entry.0))
    ]
    no-table words table faults.Limits past = absurd (past table.few)
    no-table words table faults.Copied none = none
    no-table words table (faults.Input error) none = tt
    no-table words table (faults.Unsynced error) none = none
    no-table words table faults.OutOfMemory none = tt

    no-tables : (fault : OpenFault) → AreTableFaults file fault → IsReadFault fault
    no-tables fault (other, is, past) =
        no-table flushed last fault (subst (λ (s : Geometry). IsTableFault s (words_in file (at_table s (flushed_table file)) s.zones) fault) (shape-is other g (sym is ∙ head)) past)

    opens : (fault : OpenFault) → IsOpenFault file fault → IsReadFault fault
    opens faults.NotADrive is = no-head-fault faults.NotADrive is
    opens faults.Version is = no-head-fault faults.Version is
    opens (faults.Geometry part) is = no-head-fault (faults.Geometry part) is
    opens (faults.Short wanted) is = no-head-fault (faults.Short wanted) is
    opens (faults.Long wanted) is = no-head-fault (faults.Long wanted) is
    opens (faults.Table number) is = no-tables (faults.Table number) is
    opens faults.Limits is = no-tables faults.Limits is
    opens faults.Copied is = no-head-fault faults.Copied is
    opens (faults.Input error) is = tt
    opens (faults.Unsynced error) is = no-head-fault (faults.Unsynced error) is
    opens faults.OutOfMemory is = tt

    pub finds : Finds g boot file (opened_zones g boot file)
    finds = record { opens = opens; shape = head; zones_are = refl }

-- words of zones that a drive can have are a table
zones-table : (g : Geometry) (file words : List ℕ) → IsInRange g → length file ≡ file_length g → length words ≡ g.zones → AreWords g words
    → AreZones g (zones_in g file 0 (map entry_of words)) → IsTable g words
zones-table g file words in_range long count are zones = record {
  each = every-word g words are.said are.within;
  hold = every-hold g file 0 (map entry_of words) (block-some g in_range) long (omega (arith, length-map words entry_of, count)) are.within zones.lawful;
  few = zones-few g file (map entry_of words) zones;
}

-- so are the words of such zones
pub entries-table : (g : Geometry) (file : List ℕ) (entries : List Entry) → IsInRange g → length file ≡ file_length g → length entries ≡ g.zones → AreWithin g entries
    → AreZones g (zones_in g file 0 entries) → IsTable g (map word_of entries)
entries-table g file entries in_range long count within zones =
    let small = small-capacity g in_range in
    let hold = every-hold g file 0 entries (block-some g in_range) long (omega (arith, count)) within zones.lawful in
    let are = are-words g entries small within in
    record {
      each = every-word g (map word_of entries) are.said are.within;
      hold = again-hold g small entries within hold;
      few = again-few g small entries within (zones-few g file entries zones);
    }

-- ---- after a kill, and after a loss of power

of-boot : (boot : Boot) (file : List ℕ) → boot_in file ≡ boot → is_known boot ≡ true → is_of_boot boot file ≡ true
of-boot boot file is known =
    let first : eqb (boot_in file).first boot.first ≡ true = eq-eqb _ _ (ap (λ (b : Boot). b.first) is) in
    let second : eqb (boot_in file).second boot.second ≡ true = eq-eqb _ _ (ap (λ (b : Boot). b.second) is) in
    rw (known, first, second) refl

-- no system is in the boot that a head names without its second word
pub out-of-boot : (boot : Boot) (file : List ℕ) → word_in file at_second ≡ 0 → is_of_boot boot file ≡ false
out-of-boot boot file out = elim (cases_eq boot.second 0) [
  | inl zero-is ↦ and_left (is_known boot) _ (ap not (eq-eqb boot.second 0 zero-is))
  | inr some ↦
      let second : eqb (boot_in file).second boot.second ≡ false = ne_eqb (boot_in file).second boot.second (λ e. some (sym e ∙ out)) in
      and_right (is_known boot) _ (and_right (eqb (boot_in file).first boot.first) _ second)
]

-- a file that is served, in the same boot
pub kill-finds : (g : Geometry) (boot : Boot) (file : List ℕ) (entries : List Entry) (live flushed : ℕ) (words : Words) → IsServed g boot file entries live flushed words
    → IsInRange g → length entries ≡ g.zones → AreWithin g entries → AreWords g words.safe → AreApart words.safe entries → is_known boot ≡ true → AreZones g (zones_in g file 0 entries) → AreZones g (flushed_zones g file)
    → Finds g boot file (map restarted_stored (zones_in g file 0 entries))
kill-finds g boot file entries live flushed words served in_range count within safe apart known zones promised =
    let small = small-capacity g in_range in
    let table = entries-table g file entries in_range served.long count within zones in
    let proves = served-proves g file entries live flushed words served small count within apart table in
    let both : (is_of_boot boot file && proves_live g file) ≡ true = rw (of-boot boot file served.boot_is known, proves) refl in
    let counts : opened_table g boot file ≡ live = ap (λ (b : Bool). cond b (live_table file) (flushed_table file)) both ∙ served.live_is in
    let now : words_in file (at_table g (opened_table g boot file)) g.zones ≡ map word_of entries = ap (λ (t : ℕ). words_in file (at_table g t) g.zones) counts ∙ served.live_words in
    let last : words_in file (at_table g (flushed_table file)) g.zones ≡ words.safe = rw served.flushed_is served.safe_words in
    let flush = zones-table g file (words_in file (at_table g (flushed_table file)) g.zones) in_range served.long (length-words file (at_table g (flushed_table file)) g.zones)
    (subst (λ (ws : List ℕ). AreWords g ws) (sym last) safe) promised in
    let found = finds g boot file in_range served.long served.head flush in
    record { opens = found.opens; shape = found.shape; zones_are = ap (λ (ws : List ℕ). zones_in g file 0 (map entry_of ws)) now ∙ words-say g file 0 entries small within }

-- what a loss of power left, in another boot
pub power-finds : (g : Geometry) (boot : Boot) (bytes : List ℕ) → IsInRange g → CanOpen g bytes → is_of_boot boot bytes ≡ false → AreZones g (flushed_zones g bytes)
    → Finds g boot bytes (flushed_zones g bytes)
power-finds g boot bytes in_range can another zones =
    let which : opened_table g boot bytes ≡ flushed_table bytes = ap (λ (b : Bool). cond (b && proves_live g bytes) (live_table bytes) (flushed_table bytes)) another in
    let words = words_in bytes (at_table g (flushed_table bytes)) g.zones in
    let table = zones-table g bytes words in_range can.long (length-words bytes (at_table g (flushed_table bytes)) g.zones) can.words zones in
    let found = finds g boot bytes in_range can.long can.head table in
    record { opens = found.opens; shape = found.shape; zones_are = ap (λ (t : ℕ). zones_by g bytes t) which }

-- what a loss of power left, in any boot
pub left-finds : (g : Geometry) (boot : Boot) (bytes : List ℕ) → IsInRange g → CanOpen g bytes → AreZones g (flushed_zones g bytes) → Finds g boot bytes (opened_zones g boot bytes)
left-finds g boot bytes in_range can zones =
    let words = words_in bytes (at_table g (flushed_table bytes)) g.zones in
    finds g boot bytes in_range can.long can.head
    (zones-table g bytes words in_range can.long (length-words bytes (at_table g (flushed_table bytes)) g.zones) can.words zones)

-- where the file does not prove its live table, those are the zones of the last flush
pub set-back-zones : (g : Geometry) (boot : Boot) (bytes : List ℕ) → proves_live g bytes ≡ false → opened_zones g boot bytes ≡ flushed_zones g bytes
set-back-zones g boot bytes unproved =
    ap (λ (b : Bool). zones_by g bytes (cond b (live_table bytes) (flushed_table bytes))) (and_right (is_of_boot boot bytes) (proves_live g bytes) unproved)
