-- A file that is made ready for a boot of the system.
use Rattle.std.proofs.Common.{◌≡◌, ◌⊎◌, ℕ, Bool, true, false, cond, eqb, ◌&&◌, List, length, map, IsTrue, subst, refl, sym, ap, ◌∙◌, inl, inr, arith}
use Rattle.std.specs.Prelude.{not}
use Rattle.std.proofs.lemmas.Bool.{eqb-true, and_parts, false≢true}
use Rattle.std.proofs.lemmas.List.{length-map}
use Rattle.sqlite_disk.specs.Disk.{Follows, Only}
use Rattle.zone_states.specs.declared.geometry.Geometry.{Geometry}
use Rattle.zone_states.specs.Stored.{StoredZone}
use Rattle.zone_drive.specs.Stored.{AreZones}
use Rattle.file_drive.specs.Found.{IsFound, IsRead}
use Rattle.file_drive.specs.Head.{is_known, is_of_boot}
use Rattle.file_drive.specs.InFile.{AreSummed, AreWithin, AreWords, IsPromised, IsServed, promised_zones}
use Rattle.file_drive.specs.Layout.{at_table}
use Rattle.file_drive.specs.Opening.{KeepsFlushed, Unnoticed, opened_table, opened_zones, proves_live}
use Rattle.file_drive.specs.Opened.{IsOpened}
use Rattle.file_drive.specs.Tables.{entry_of, flushed_table, flushed_zones, live_table, word_of, words_in, zones_by, zones_in}
use Rattle.file_drive.specs.declared.boot.Boot.{Boot}
use Rattle.file_drive.specs.declared.entry.Entry.{Entry}
use Rattle.file_drive.specs.declared.found.Found.{Found}
use Rattle.file_drive.proofs.OpenLaws.{all-words, table-zones}
use Rattle.file_drive.proofs.PartLaws.{length-words}
use Rattle.file_drive.proofs.ServedLaws.{zones-kept}
use Rattle.file_drive.proofs.SumLaws.{summed-places}

-- ---- the boot

-- a boot that passes the test is this one
pub same-boot : (boot served : Boot) → (is_known boot && (eqb served.first boot.first && eqb served.second boot.second)) ≡ true → served ≡ boot
same-boot boot served e =
    let parts = and_parts _ _ (and_parts _ _ e).1 in
    let first : served.first ≡ boot.first = eqb-true _ _ parts.0 in
    let second : served.second ≡ boot.second = eqb-true _ _ parts.1 in
    let both : record { first = served.first; second = served.second } ≡ record { first = boot.first; second = boot.second } = rw (first, second) refl in
    both

-- ---- whether the live table counts

not-true : (b : Bool) → not b ≡ true → b ≡ false
not-true false e = refl
not-true true e = absurd (false≢true e)

proved-there : (of_boot proves : Bool) → of_boot ≡ true → (of_boot && not proves) ≡ false → (of_boot && proves) ≡ true
proved-there true true e back = refl
proved-there true false e back = absurd (false≢true (sym back))
proved-there false proves e back = absurd (false≢true e)

unproved-there : (of_boot proves back : Bool) → back ≡ (of_boot && not proves) → (of_boot && not back) ≡ false → (of_boot && proves) ≡ false
unproved-there false proves back told tested = refl
unproved-there true false back told tested = refl
unproved-there true true false told tested = absurd (false≢true (sym tested))
unproved-there true true true told tested = absurd (false≢true (sym told))

-- ---- what is shown, served

pub served-of-read : (boot : Boot) (file : List ℕ) (found : Found) → IsRead file found → found.head.boot ≡ boot → found.tables.current.items ≡ map word_of found.entries.items
    → AreSummed found.head.geometry file found.tables.safe.items found.entries.items
    → IsServed found.head.geometry boot file found.entries.items found.tables.live found.tables.flushed
    (record { spare = found.tables.spare.items; safe = found.tables.safe.items; other = found.tables.other.items })
served-of-read boot file found read is live summed = record {
  long = read.head.long;
  head = read.head.words;
  boot_is = read.head.boot_is ∙ is;
  live_is = read.tables.live_is;
  live_words = read.tables.current ∙ live;
  spare_words = read.tables.spare;
  flushed_is = read.tables.flushed_is;
  safe_words = read.tables.safe;
  other_words = read.tables.other;
  summed = summed;
}

module _ (g : Geometry) (flushed : ℕ) (safe : List ℕ) (count : length safe ≡ g.zones) (words : AreWords g safe) where
  safe-zones : (old new : List ℕ) → KeepsFlushed g old new → promised_zones g new safe ≡ promised_zones g old safe
  safe-zones old new keeps = zones-kept g old new 0 (map entry_of safe) keeps.zones (omega (arith, length-map safe entry_of, count)) words.within

  -- the same last flush is promised
  pub keeps-promised : (old new bytes : List ℕ) → KeepsFlushed g old new → KeepsFlushed g old bytes → IsPromised g flushed safe (promised_zones g old safe) old
      → IsPromised g flushed safe (promised_zones g new safe) bytes
  keeps-promised old new bytes shown left was = record {
    long = left.long ∙ was.long;
    head = left.head ∙ was.head;
    flushed_is = left.picked ∙ was.flushed_is;
    safe_words = (rw was.flushed_is at left.words) ∙ was.safe_words;
    zones = safe-zones old bytes left ∙ sym (safe-zones old new shown);
  }

-- ---- what was found, made ready

module _ (boot : Boot) {F : Type 0} (seen : F → List ℕ) (may_leave : F → List ℕ → Type 0) (is_usable : F → Bool) (old : F) (found : Found)
    (is : IsFound boot (seen old) found) (synced : Only (seen old) (may_leave old)) where
  abbrev g : Geometry
  g = found.head.geometry

  abbrev words : List ℕ
  words = words_in (seen old) (at_table g (opened_table g boot (seen old))) g.zones

  pub found-count : length found.entries.items ≡ g.zones
  found-count = ap length is.entries ∙ length-map words entry_of ∙ length-words (seen old) (at_table g (opened_table g boot (seen old))) g.zones

  safe-count : length found.tables.safe.items ≡ g.zones
  safe-count = sym (ap length is.tables.safe) ∙ length-words (seen old) (at_table g found.tables.flushed) g.zones

  within : AreWithin g found.entries.items
  within = subst (λ (entries : List Entry). AreWithin g entries) (sym is.entries) (all-words g words is.words.each).within

  said : words ≡ map word_of found.entries.items
  said = sym (all-words g words is.words.each).said ∙ ap (map word_of) (sym is.entries)

  safe-words : AreWords g found.tables.safe.items
  safe-words = all-words g found.tables.safe.items is.safe.each

  found-zones : AreZones g (zones_in g (seen old) 0 found.entries.items)
  found-zones = subst (λ (entries : List Entry). AreZones g (zones_in g (seen old) 0 entries)) (sym is.entries)
      (table-zones g (seen old) words is.head.in_range is.head.long (length-words (seen old) (at_table g (opened_table g boot (seen old))) g.zones) is.words)

  -- a drive can have the zones of the last flush
  shown-zones : AreZones g (flushed_zones g (seen old))
  shown-zones =
      let flushed : words_in (seen old) (at_table g (flushed_table (seen old))) g.zones ≡ found.tables.safe.items = rw is.tables.flushed_is is.tables.safe in
      subst (λ (ws : List ℕ). AreZones g (zones_in g (seen old) 0 (map entry_of ws))) (sym flushed)
      (table-zones g (seen old) found.tables.safe.items is.head.in_range is.head.long safe-count is.safe)

  again : map entry_of (map word_of found.entries.items) ≡ found.entries.items
  again = sym (ap (map entry_of) said) ∙ sym is.entries

  shown : IsPromised g found.tables.flushed found.tables.safe.items (promised_zones g (seen old) found.tables.safe.items) (seen old)
  shown = record { long = is.head.long; head = is.head.words; flushed_is = is.tables.flushed_is; safe_words = is.tables.safe; zones = refl }

  pub found-is : zones_in g (seen old) 0 found.entries.items ≡ opened_zones g boot (seen old)
  found-is = ap (zones_in g (seen old) 0) is.entries

  kept : (new : List ℕ) → KeepsFlushed g (seen old) new → zones_in g new 0 found.entries.items ≡ zones_in g (seen old) 0 found.entries.items
  kept new keeps = zones-kept g (seen old) new 0 found.entries.items keeps.zones (omega (arith, found-count)) within

  pub found-kept : (new : List ℕ) → KeepsFlushed g (seen old) new → zones_in g new 0 found.entries.items ≡ opened_zones g boot (seen old)
  found-kept new keeps = kept new keeps ∙ found-is

  -- the test of the boot that was read is the test of the file
  pub boot-test : (b : Bool) → (is_known boot && (eqb found.head.boot.first boot.first && eqb found.head.boot.second boot.second)) ≡ b → is_of_boot boot (seen old) ≡ b
  boot-test b e = ap (λ (served : Boot). is_known boot && (eqb served.first boot.first && eqb served.second boot.second)) is.head.boot_is ∙ e

  -- ---- in the same boot

  pub opened-now : IsTrue (is_usable old) → ((is_known boot && (eqb found.head.boot.first boot.first && eqb found.head.boot.second boot.second)) && not found.set_back) ≡ true
      → IsOpened seen may_leave is_usable boot old found
  opened-now usable ready =
      let parts = and_parts _ _ ready in
      let e = parts.0 in
      let of_boot = boot-test true e in
      let back : found.set_back ≡ false = not-true found.set_back parts.1 in
      let counts : (is_of_boot boot (seen old) && proves_live g (seen old)) ≡ true = proved-there (is_of_boot boot (seen old)) (proves_live g (seen old)) of_boot (sym is.set_back ∙ back) in
      let live : opened_table g boot (seen old) ≡ found.tables.live = ap (λ (b : Bool). cond b (live_table (seen old)) (flushed_table (seen old))) counts ∙ is.tables.live_is in
      let current : found.tables.current.items ≡ map word_of found.entries.items = sym is.tables.current ∙ ap (λ (t : ℕ). words_in (seen old) (at_table g t) g.zones) (sym live) ∙ said in
      record {
        in_range = is.head.in_range;
        count = found-count;
        within = within;
        served = served-of-read boot (seen old) found (record { head = is.head; tables = is.tables }) (same-boot boot found.head.boot e) current is.summed;
        safe = safe-words;
        apart = is.apart;
        usable = usable;
        promise = λ bytes may. rw (synced bytes may) shown;
        zones = found-zones;
        left = λ bytes may. rw (synced bytes may) shown-zones;
      }

  -- ---- in another

  -- whatever a loss of power leaves has the same last flush
  left-keeps : (new : F) → Follows (KeepsFlushed g) (may_leave old) (may_leave new) → (bytes : List ℕ) → may_leave new bytes → KeepsFlushed g (seen old) bytes
  left-keeps new follows bytes may =
      let (earlier, might, keeps) = follows bytes may in
      rw (synced earlier might) at keeps

  -- so an open finds the same zones
  flushed-same : (new : List ℕ) → KeepsFlushed g (seen old) new → flushed_zones g new ≡ flushed_zones g (seen old)
  flushed-same new keeps =
      let flushed : words_in (seen old) (at_table g (flushed_table (seen old))) g.zones ≡ found.tables.safe.items = rw is.tables.flushed_is is.tables.safe in
      rw (keeps.picked, keeps.words, flushed) (safe-zones g found.tables.flushed found.tables.safe.items safe-count safe-words (seen old) new keeps)

  pub opened-taken : (new : F) (taken : Found) → taken ≡ record found { head = record found.head { boot = taken.head.boot }; tables = record found.tables { current = taken.tables.current } }
      → IsTrue (is_usable new) → IsRead (seen new) taken → taken.head.boot ≡ boot → taken.tables.current.items ≡ map word_of taken.entries.items
      → KeepsFlushed g (seen old) (seen new) → Follows (KeepsFlushed g) (may_leave old) (may_leave new)
      → IsOpened seen may_leave is_usable boot new taken
  opened-taken new taken same usable read is_boot live keeps follows =
      let geometry : taken.head.geometry ≡ g = ap (λ (f : Found). f.head.geometry) same in
      let entries : taken.entries.items ≡ found.entries.items = ap (λ (f : Found). f.entries.items) same in
      let flushed : taken.tables.flushed ≡ found.tables.flushed = ap (λ (f : Found). f.tables.flushed) same in
      let safe : taken.tables.safe.items ≡ found.tables.safe.items = ap (λ (f : Found). f.tables.safe.items) same in
      record {
        in_range = read.head.in_range;
        count = rw (geometry, entries) found-count;
        within = rw (geometry, entries) within;
        served = served-of-read boot (seen new) taken read is_boot live (rw (geometry, safe, entries) (summed-places g (seen old) (seen new) found.tables.safe.items found.entries.items keeps.zones is.summed));
        safe = rw (geometry, safe) safe-words;
        apart = rw (safe, entries) is.apart;
        usable = usable;
        promise = rw (geometry, flushed, safe) (λ bytes may. keeps-promised g found.tables.flushed found.tables.safe.items safe-count safe-words (seen old) (seen new) bytes keeps (left-keeps new follows bytes may) shown);
        zones = rw (geometry, entries, kept (seen new) keeps) found-zones;
        left = rw geometry (λ bytes may.
            subst (λ (zones : List StoredZone). AreZones g zones) (sym (flushed-same bytes (left-keeps new follows bytes may))) shown-zones);
      }

  -- ---- what an open finds meanwhile

  -- what a system in any boot finds then
  anyone : (new : F) (taken : Found) → taken.head.geometry ≡ g → taken.entries.items ≡ found.entries.items → IsRead (seen new) taken
      → (other : Boot) → (is_of_boot other (seen new) ≡ true → (taken.tables.current.items ≡ map word_of taken.entries.items) ⊎ (seen new ≡ seen old))
      → KeepsFlushed g (seen old) (seen new) → (b : Bool) → (is_of_boot other (seen new) && proves_live g (seen new)) ≡ b
      → (zones_by g (seen new) (cond b (live_table (seen new)) (flushed_table (seen new))) ≡ opened_zones g boot (seen old))
      ⊎ ((seen new ≡ seen old) ⊎ (zones_by g (seen new) (cond b (live_table (seen new)) (flushed_table (seen new))) ≡ flushed_zones g (seen old)))
  anyone new taken geometry entries read other counts keeps true e = elim (counts (and_parts (is_of_boot other (seen new)) (proves_live g (seen new)) e).0) [
    | inl now ↦
        let live : words_in (seen new) (at_table g (live_table (seen new))) g.zones ≡ map word_of found.entries.items =
        rw (read.tables.live_is, ← geometry) read.tables.current ∙ now ∙ ap (map word_of) entries in
        inl (rw (live, again) (found-kept (seen new) keeps))
    | inr same ↦ inr (inl same)
  ]
  anyone new taken geometry entries read other counts keeps false e = inr (inr (flushed-same (seen new) keeps))

  pub unnoticed : (new : F) (taken : Found) → taken ≡ record found { head = record found.head { boot = taken.head.boot }; tables = record found.tables { current = taken.tables.current } }
      → ((is_known boot && (eqb found.head.boot.first boot.first && eqb found.head.boot.second boot.second)) && not found.set_back) ≡ false → IsRead (seen new) taken
      → ((other : Boot) → is_of_boot other (seen new) ≡ true → (taken.tables.current.items ≡ map word_of taken.entries.items) ⊎ (seen new ≡ seen old))
      → KeepsFlushed g (seen old) (seen new) → Follows (KeepsFlushed g) (may_leave old) (may_leave new)
      → Unnoticed seen may_leave boot g old new
  unnoticed new taken same another read counts keeps follows =
      let geometry : taken.head.geometry ≡ g = ap (λ (f : Found). f.head.geometry) same in
      let entries : taken.entries.items ≡ found.entries.items = ap (λ (f : Found). f.entries.items) same in
      let tested : (is_of_boot boot (seen old) && not found.set_back) ≡ false =
      ap (λ (served : Boot). (is_known boot && (eqb served.first boot.first && eqb served.second boot.second)) && not found.set_back) is.head.boot_is ∙ another in
      let unproved : (is_of_boot boot (seen old) && proves_live g (seen old)) ≡ false =
      unproved-there (is_of_boot boot (seen old)) (proves_live g (seen old)) found.set_back is.set_back tested in
      let last : opened_zones g boot (seen old) ≡ flushed_zones g (seen old) = ap (λ (b : Bool). zones_by g (seen old) (cond b (live_table (seen old)) (flushed_table (seen old)))) unproved in
      let finds = λ (other : Boot). anyone new taken geometry entries read other (counts other) keeps (is_of_boot other (seen new) && proves_live g (seen new)) refl in
      record {
        long = keeps.long;
        head = keeps.head;
        kill = elim (finds boot) [
          | inl now ↦ now
          | inr rest ↦ elim rest [ inl shown ↦ ap (opened_zones g boot) shown | inr flush ↦ flush ∙ sym last ]
        ];
        others = λ other. elim (finds other) [
          | inl now ↦ inr (now ∙ last)
          | inr rest ↦ elim rest [ inl shown ↦ inl (ap (opened_zones g other) shown) | inr flush ↦ inr flush ]
        ];
        power = λ bytes may.
            let left = left-keeps new follows bytes may in
            inr (
              record {
                long = left.long ∙ is.head.long;
                head = left.head ∙ is.head.words;
                words = rw (left.picked, left.words, is.tables.flushed_is, is.tables.safe) safe-words;
              },
              flushed-same bytes left,
            );
      }

-- a sync before such a change
pub unnoticed-synced : {F : Type 0} (seen : F → List ℕ) (may_leave : F → List ℕ → Type 0) (boot : Boot) (shape : Geometry) (old synced new : F) → seen synced ≡ seen old
    → ((bytes : List ℕ) → may_leave synced bytes → may_leave old bytes) → Unnoticed seen may_leave boot shape synced new → Unnoticed seen may_leave boot shape old new
unnoticed-synced seen may_leave boot shape old synced new same fewer was = record {
  long = was.long ∙ ap length same;
  head = was.head ∙ ap (λ (file : List ℕ). words_in file 0 8) same;
  kill = was.kill ∙ ap (λ (file : List ℕ). opened_zones shape boot file) same;
  others = λ other. elim (was.others other) [
    | inl now ↦ inl (now ∙ ap (opened_zones shape other) same)
    | inr last ↦ inr (last ∙ ap (λ (file : List ℕ). flushed_zones shape file) same)
  ];
  power = λ bytes may. elim (was.power bytes may) [
    | inl before ↦ inl (fewer bytes before)
    | inr last ↦ inr (last.0, last.1 ∙ ap (λ (file : List ℕ). flushed_zones shape file) same)
  ];
}
