-- What is true of a file while a drive is served from it, after a change.
use Rattle.std.proofs.Common.{◌≡◌, ◌⊎◌, ℕ, zero, suc, ◌+◌, ◌-◌, ◌*◌, ◌/◌, ◌%◌, ◌<◌, ◌≤◌, ◌^◌, Bool, true, false, eqb, List, [], ◌∷◌, length, map, set, get_or, slice_index, refl, sym, subst, ap, ◌∙◌, inl, inr, arith}
use Rattle.std.specs.List.{Contains}
use Rattle.std.proofs.lemmas.Bool.{cases_eq}
use Rattle.std.proofs.lemmas.List.{get_or-map, length-map, map-set, set-get_or}
use Rattle.sqlite_disk.specs.Disk.{Follows, Only}
use Rattle.nvme_wire.specs.declared.command.Action.TheVariants.{Close}
use Rattle.nvme_wire.specs.declared.zone_state.ZoneState.{ZoneState}
use Rattle.nvme_wire.specs.declared.zone_state.ZoneState.TheVariants.{Empty, ImplicitlyOpened, ExplicitlyOpened, Closed, ReadOnly, Full, Offline}
use Rattle.zone_states.specs.declared.geometry.Geometry.{Geometry}
use Rattle.zone_states.specs.Geometry.{IsInRange}
use Rattle.zone_states.specs.Stored.{StoredZone}
use Rattle.drive_port.specs.Run.{restarted_state}
use Rattle.drive_port.specs.Step.{one_if}
use Rattle.drive_port.proofs.ClosingLaws.{restarted-twice}
use Rattle.zone_drive.specs.Held.{restarted_stored}
use Rattle.file_bytes.specs.Changes.{SameBeside}
use Rattle.file_drive.specs.Head.{at_boot, boot_in}
use Rattle.file_drive.specs.Layout.{SamePlaces, at_flushed, at_live, at_table, at_zones, word_in}
use Rattle.file_drive.specs.Tables.{acted, entry_of, flushed_table, flushed_zones, live_table, place_of, state_from, table_code, word_of, words_in, zones_in}
use Rattle.file_drive.specs.InFile.{AllDurable, AreSummed, AreWithin, AreWords, CanOpen, FiledZones, IsPromised, IsServed, KeepsPromise, Words, durable_zones, entry_at, filed, flushed_at, is_summed, other_table, promised_zones, spare_table}
use Rattle.file_drive.specs.declared.boot.Boot.{Boot}
use Rattle.file_drive.specs.declared.entry.Entry.{Entry}
use Rattle.file_drive.proofs.PartLaws.{Apart, length-words, word-beside, words-at, words-beside, words-put}
use Rattle.file_drive.proofs.PlaceLaws.{one-few, place-low, tables-apart, whole-apart, zones-after, zones-beside}
use Rattle.file_drive.proofs.SumLaws.{acted-summed, close-written, summed-few, summed-flushed, summed-places, summed-set}

-- ---- lists

-- one of two is among them
pub contains-two : {X : Type 0} (a b x : X) → (x ≡ a) ⊎ (x ≡ b) → Contains (a ∷ b ∷ []) x
contains-two a b x (inl is) = (0, omega arith, sym is)
contains-two a b x (inr is) = (1, omega arith, sym is)

pub contains-first : {X : Type 0} (a x : X) (xs : List X) → x ≡ a → Contains (a ∷ xs) x
contains-first a x xs is = (0, omega arith, sym is)

-- and what is among them is one of them
pub of-one : {X : Type 0} (a x : X) → Contains (a ∷ []) x → x ≡ a
of-one a x (zero, low, is) = sym is
of-one a x (suc k, low, is) = absurd (omega (arith, low))

pub of-two : {X : Type 0} (a b x : X) → Contains (a ∷ b ∷ []) x → (x ≡ a) ⊎ (x ≡ b)
of-two a b x (zero, low, is) = inl (sym is)
of-two a b x (suc zero, low, is) = inr (sym is)
of-two a b x (suc (suc k), low, is) = absurd (omega (arith, low))

-- ---- the head

-- the head is before all that changes while a drive is served
pub head-beside : (at n : ℕ) (old new : List ℕ) → SameBeside at n old new → at_live ≤ at → words_in new 0 8 ≡ words_in old 0 8
head-beside at n old new beside after = words-beside at n 0 8 old new beside (inl (omega (arith, after)))

pub boot-beside : (at n : ℕ) (old new : List ℕ) → SameBeside at n old new → at_live ≤ at → boot_in new ≡ boot_in old
boot-beside at n old new beside after =
    rw (word-beside at n at_boot old new beside (inl (omega (arith, after))), word-beside at n (at_boot + 8) old new beside (inl (omega (arith, after)))) refl

module _ (g : Geometry) where
  -- the zones of these entries
  pub zones-kept : (old new : List ℕ) (number : ℕ) (entries : List Entry) → SamePlaces g old new → number + length entries ≤ g.zones → AreWithin g entries
      → zones_in g new number entries ≡ zones_in g old number entries
  zones-kept old new number [] same few within = refl
  zones-kept old new number (entry ∷ entries) same few within =
      rw (same (place_of number entry) entry.written (place-low number g.zones entry (omega (arith, few))) within.0, zones-kept old new (number + 1) entries same (omega (arith, few)) within.1) refl

  -- a file after a change that meets none of the words that are known
  pub served-beside : {boot : Boot} (at n : ℕ) (old new : List ℕ) (entries : List Entry) (live flushed : ℕ) (words : Words) → SameBeside at n old new
      → at_live ≤ at → Apart at n at_live 8 → Apart at n at_flushed 8 → Apart at n (at_table g live) (8 * g.zones)
      → Apart at n (at_table g (spare_table live)) (8 * g.zones)
      → Apart at n (at_table g flushed) (8 * g.zones) → Apart at n (at_table g (other_table flushed)) (8 * g.zones)
      → AreSummed g new words.safe entries → IsServed g boot old entries live flushed words → IsServed g boot new entries live flushed words
  served-beside at n old new entries live flushed words beside h a b c s d e summed was = record {
    long = beside.long ∙ was.long;
    head = head-beside at n old new beside h ∙ was.head;
    boot_is = boot-beside at n old new beside h ∙ was.boot_is;
    live_is = ap (λ (w : ℕ). w % 2) (word-beside at n at_live old new beside a) ∙ was.live_is;
    live_words = words-beside at n (at_table g live) g.zones old new beside c ∙ was.live_words;
    spare_words = words-beside at n (at_table g (spare_table live)) g.zones old new beside s ∙ was.spare_words;
    flushed_is = ap (λ (w : ℕ). 2 + w % 2) (word-beside at n at_flushed old new beside b) ∙ was.flushed_is;
    safe_words = words-beside at n (at_table g flushed) g.zones old new beside d ∙ was.safe_words;
    other_words = words-beside at n (at_table g (other_table flushed)) g.zones old new beside e ∙ was.other_words;
    summed = summed;
  }

  -- what is promised, after a change that does not meet it
  pub promised-beside : (at n : ℕ) (old new : List ℕ) (flushed : ℕ) (safe : List ℕ) (promised : List StoredZone) → SameBeside at n old new
      → at_live ≤ at → Apart at n at_flushed 8 → Apart at n (at_table g flushed) (8 * g.zones)
      → zones_in g new 0 (map entry_of safe) ≡ zones_in g old 0 (map entry_of safe)
      → IsPromised g flushed safe promised old → IsPromised g flushed safe promised new
  promised-beside at n old new flushed safe promised beside h b d same was = record {
    long = beside.long ∙ was.long;
    head = head-beside at n old new beside h ∙ was.head;
    flushed_is = ap (λ (w : ℕ). 2 + w % 2) (word-beside at n at_flushed old new beside b) ∙ was.flushed_is;
    safe_words = words-beside at n (at_table g flushed) g.zones old new beside d ∙ was.safe_words;
    zones = same ∙ was.zones;
  }

  -- what is promised can be opened
  pub promised-opens : {F : Type 0} (seen : F → List ℕ) (may_leave : F → List ℕ → Type 0) (file : F) (flushed : ℕ) (safe : List ℕ) → AreWords g safe
      → KeepsPromise seen may_leave g file flushed safe → (bytes : List ℕ) → may_leave file bytes → CanOpen g bytes
  promised-opens seen may_leave file flushed safe words keeps bytes may =
      let promised = keeps bytes may in
      record { long = promised.long; head = promised.head; words = rw (promised.flushed_is, promised.safe_words) words }

  -- an open after a loss of power finds what is promised
  pub promised-found : (flushed : ℕ) (safe : List ℕ) (promised : List StoredZone) (file : List ℕ) → IsPromised g flushed safe promised file → flushed_zones g file ≡ promised
  promised-found flushed safe promised file p = rw (p.flushed_is, p.safe_words) p.zones

  -- a file that is served promises what it shows
  pub served-promises : {boot : Boot} (file : List ℕ) (entries : List Entry) (live flushed : ℕ) (words : Words) → IsServed g boot file entries live flushed words
      → IsPromised g flushed words.safe (promised_zones g file words.safe) file
  served-promises file entries live flushed words was = record { long = was.long; head = was.head; flushed_is = was.flushed_is; safe_words = was.safe_words; zones = refl }

  pub length-safe : {boot : Boot} (file : List ℕ) (entries : List Entry) (live flushed : ℕ) (words : Words) → IsServed g boot file entries live flushed words → length words.safe ≡ g.zones
  length-safe file entries live flushed words was = ap length (sym was.safe_words) ∙ length-words file (at_table g flushed) g.zones

  pub length-other : {boot : Boot} (file : List ℕ) (entries : List Entry) (live flushed : ℕ) (words : Words) → IsServed g boot file entries live flushed words → length words.other ≡ g.zones
  length-other file entries live flushed words was = ap length (sym was.other_words) ∙ length-words file (at_table g (other_table flushed)) g.zones

  pub length-spare : {boot : Boot} (file : List ℕ) (entries : List Entry) (live flushed : ℕ) (words : Words) → IsServed g boot file entries live flushed words → length words.spare ≡ g.zones
  length-spare file entries live flushed words was = ap length (sym was.spare_words) ∙ length-words file (at_table g (spare_table live)) g.zones

  -- ---- a word of the live table

  pub live-few : (file : List ℕ) (live : ℕ) → live_table file ≡ live → live < 2
  live-few file live e = omega (arith, e)

  pub flushed-few : (file : List ℕ) (flushed : ℕ) → flushed_table file ≡ flushed → (2 ≤ flushed) × (flushed < 4)
  flushed-few file flushed e = (omega (arith, e), omega (arith, e))

  -- the word of a zone is in the live table
  pub live-word : {boot : Boot} (file : List ℕ) (entries : List Entry) (live flushed : ℕ) (words : Words) (index : ℕ) (d : Entry) → IsServed g boot file entries live flushed words
      → length entries ≡ g.zones → index < length entries → word_in file (at_table g live + 8 * index) ≡ word_of (get_or entries index d)
  live-word file entries live flushed words index d was count low =
      sym (words-at file (at_table g live) g.zones index (omega (arith, low, count)))
      ∙ ap (λ (ws : List ℕ). slice_index ws index) was.live_words
      ∙ get_or-map word_of entries index d 0 low

  -- a zone's word was put there
  pub served-put : {boot : Boot} (old new : List ℕ) (entries : List Entry) (live flushed : ℕ) (words : Words) (index : ℕ) (entry : Entry) → IsServed g boot old entries live flushed words
      → length entries ≡ g.zones → index < length entries → SameBeside (at_table g live + 8 * index) 8 old new → word_in new (at_table g live + 8 * index) ≡ word_of entry
      → is_summed g old index (flushed_at words.safe index) entry ≡ true → IsServed g boot new (set entries index entry) live flushed words
  served-put old new entries live flushed words index entry was count low beside is summed =
      let at = at_table g live + 8 * index in
      let few = live-few old live was.live_is in
      let most = flushed-few old flushed was.flushed_is in
      let below : index < g.zones = omega (arith, low, count) in
      record {
        long = beside.long ∙ was.long;
        head = head-beside at 8 old new beside (omega arith) ∙ was.head;
        boot_is = boot-beside at 8 old new beside (omega arith) ∙ was.boot_is;
        live_is = ap (λ (w : ℕ). w % 2) (word-beside at 8 at_live old new beside (inl (omega arith))) ∙ was.live_is;
        live_words = words-put (at_table g live) g.zones index (word_of entry) old new below beside is ∙ rw was.live_words (sym (map-set word_of entries index entry));
        spare_words = words-beside at 8 (at_table g (spare_table live)) g.zones old new beside (tables-apart g live (spare_table live) index (λ e. absurd (omega (arith, e, few))) below) ∙ was.spare_words;
        flushed_is = ap (λ (w : ℕ). 2 + w % 2) (word-beside at 8 at_flushed old new beside (inl (omega arith))) ∙ was.flushed_is;
        safe_words = words-beside at 8 (at_table g flushed) g.zones old new beside (tables-apart g live flushed index (λ e. absurd (omega (arith, e, few, most.0))) below) ∙ was.safe_words;
        other_words = words-beside at 8 (at_table g (other_table flushed)) g.zones old new beside (tables-apart g live (other_table flushed) index (λ e. absurd (omega (arith, e, few, most.1))) below) ∙ was.other_words;
        summed = summed-places g old new words.safe (set entries index entry) (zones-beside g at 8 old new beside (omega (arith, zones-after g live (omega (arith, few)), below)))
            (summed-set g old words.safe entries index entry low was.summed (λ inside room. summed));
      }

  -- that keeps all blocks
  pub put-keeps : (old new : List ℕ) (live index : ℕ) → live < 4 → index < g.zones → SameBeside (at_table g live + 8 * index) 8 old new → SamePlaces g old new
  put-keeps old new live index few low beside =
      zones-beside g (at_table g live + 8 * index) 8 old new beside (omega (arith, zones-after g live few, low))

  -- ---- what a loss of power leaves

  pub promised-same : (old new safe : List ℕ) → SamePlaces g old new → length safe ≡ g.zones → AreWithin g (map entry_of safe) → promised_zones g new safe ≡ promised_zones g old safe
  promised-same old new safe same count within =
      zones-kept old new 0 (map entry_of safe) same (omega (arith, length-map safe entry_of, count)) within

  -- after a change of the tables that does not meet the flushed one that is picked
  pub keeps-promise : {F : Type 0} (seen : F → List ℕ) (may_leave : F → List ℕ → Type 0) (old new : F) (at n flushed : ℕ) (safe : List ℕ)
      → KeepsPromise seen may_leave g old flushed safe → Follows (SameBeside at n) (may_leave old) (may_leave new) → at_live ≤ at → at + n ≤ at_zones g
      → Apart at n at_flushed 8 → Apart at n (at_table g flushed) (8 * g.zones)
      → SamePlaces g (seen old) (seen new) → length safe ≡ g.zones → AreWithin g (map entry_of safe)
      → KeepsPromise seen may_leave g new flushed safe
  keeps-promise seen may_leave old new at n flushed safe was follows h before b d same count within bytes may =
      let (earlier, might, beside) = follows bytes may in
      let zones = promised-same earlier bytes safe (zones-beside g at n earlier bytes beside before) count within in
      rw (promised-same (seen old) (seen new) safe same count within)
      (promised-beside at n earlier bytes flushed safe (promised_zones g (seen old) safe) beside h b d zones (was earlier might))

  -- ---- a zone's word is put in the live table

  module _ {F : Type 0} {boot : Boot} (seen : F → List ℕ) (may_leave : F → List ℕ → Type 0) (old new : F) (entries : List Entry) (live flushed : ℕ) (words : Words) (index : ℕ)
      (was : IsServed g boot (seen old) entries live flushed words) (count : length entries ≡ g.zones) (low : index < length entries) (within : AreWithin g (map entry_of words.safe))
      (keeps : KeepsPromise seen may_leave g old flushed words.safe)
      (beside : SameBeside (at_table g live + 8 * index) 8 (seen old) (seen new))
      (follows : Follows (SameBeside (at_table g live + 8 * index) 8) (may_leave old) (may_leave new)) where
    few : live < 2
    few = live-few (seen old) live was.live_is

    below : index < g.zones
    below = omega (arith, low, count)

    pub put-same : SamePlaces g (seen old) (seen new)
    put-same = put-keeps (seen old) (seen new) live index (omega (arith, few)) below beside

    safe-count : length words.safe ≡ g.zones
    safe-count = length-safe (seen old) entries live flushed words was

    pub put-promise : KeepsPromise seen may_leave g new flushed words.safe
    put-promise =
        let most = flushed-few (seen old) flushed was.flushed_is in
        keeps-promise seen may_leave old new (at_table g live + 8 * index) 8 flushed words.safe keeps follows (omega arith)
        (omega (arith, zones-after g live (omega (arith, few)), below)) (inl (omega arith))
        (tables-apart g live flushed index (λ e. absurd (omega (arith, e, few, most.0))) below)
        put-same safe-count within

    pub put-promises : promised_zones g (seen new) words.safe ≡ promised_zones g (seen old) words.safe
    put-promises = promised-same (seen old) (seen new) words.safe put-same safe-count within

module _ (g : Geometry) where
  -- ---- the words of the flushed table that is not picked are written

  module _ {F : Type 0} {boot : Boot} (seen : F → List ℕ) (may_leave : F → List ℕ → Type 0) (old new : F) (entries : List Entry) (live flushed : ℕ) (words : Words)
      (was : IsServed g boot (seen old) entries live flushed words) (within : AreWithin g (map entry_of words.safe))
      (keeps : KeepsPromise seen may_leave g old flushed words.safe)
      (beside : SameBeside (at_table g (other_table flushed)) (8 * g.zones) (seen old) (seen new))
      (follows : Follows (SameBeside (at_table g (other_table flushed)) (8 * g.zones)) (may_leave old) (may_leave new)) where
    most : (2 ≤ flushed) × (flushed < 4)
    most = flushed-few g (seen old) flushed was.flushed_is

    pub other-same : SamePlaces g (seen old) (seen new)
    other-same = zones-beside g (at_table g (other_table flushed)) (8 * g.zones) (seen old) (seen new) beside (zones-after g (other_table flushed) (omega (arith, most.0)))

    pub other-promise : KeepsPromise seen may_leave g new flushed words.safe
    other-promise =
        keeps-promise g seen may_leave old new (at_table g (other_table flushed)) (8 * g.zones) flushed words.safe keeps follows (omega arith)
        (zones-after g (other_table flushed) (omega (arith, most.0))) (inl (omega arith))
        (whole-apart g (other_table flushed) flushed (λ e. absurd (omega (arith, e))))
        other-same (length-safe g (seen old) entries live flushed words was) within

    pub other-promises : promised_zones g (seen new) words.safe ≡ promised_zones g (seen old) words.safe
    other-promises = promised-same g (seen old) (seen new) words.safe other-same (length-safe g (seen old) entries live flushed words was) within

    pub served-other : (other : List ℕ) → words_in (seen new) (at_table g (other_table flushed)) g.zones ≡ other → IsServed g boot (seen new) entries live flushed (record words { other = other })
    served-other other is =
        let few = live-few g (seen old) live was.live_is in
        let at = at_table g (other_table flushed) in
        let n = 8 * g.zones in
        record {
          long = beside.long ∙ was.long;
          head = head-beside at n (seen old) (seen new) beside (omega arith) ∙ was.head;
          boot_is = boot-beside at n (seen old) (seen new) beside (omega arith) ∙ was.boot_is;
          live_is = ap (λ (w : ℕ). w % 2) (word-beside at n at_live (seen old) (seen new) beside (inl (omega arith))) ∙ was.live_is;
          live_words = words-beside at n (at_table g live) g.zones (seen old) (seen new) beside (whole-apart g (other_table flushed) live (λ e. absurd (omega (arith, e, few, most.1)))) ∙ was.live_words;
          spare_words = words-beside at n (at_table g (spare_table live)) g.zones (seen old) (seen new) beside (whole-apart g (other_table flushed) (spare_table live) (λ e. absurd (omega (arith, e, few, most.1)))) ∙ was.spare_words;
          flushed_is = ap (λ (w : ℕ). 2 + w % 2) (word-beside at n at_flushed (seen old) (seen new) beside (inl (omega arith))) ∙ was.flushed_is;
          safe_words = words-beside at n (at_table g flushed) g.zones (seen old) (seen new) beside (whole-apart g (other_table flushed) flushed (λ e. absurd (omega (arith, e)))) ∙ was.safe_words;
          other_words = is;
          summed = summed-places g (seen old) (seen new) words.safe entries other-same was.summed;
        }

  -- ---- the words of the live table that is not picked are written

  module _ {F : Type 0} {boot : Boot} (seen : F → List ℕ) (may_leave : F → List ℕ → Type 0) (old new : F) (entries : List Entry) (live flushed : ℕ) (words : Words)
      (was : IsServed g boot (seen old) entries live flushed words) (within : AreWithin g (map entry_of words.safe))
      (keeps : KeepsPromise seen may_leave g old flushed words.safe)
      (beside : SameBeside (at_table g (spare_table live)) (8 * g.zones) (seen old) (seen new))
      (follows : Follows (SameBeside (at_table g (spare_table live)) (8 * g.zones)) (may_leave old) (may_leave new)) where
    bounds : (2 ≤ flushed) × (flushed < 4)
    bounds = flushed-few g (seen old) flushed was.flushed_is

    little : live < 2
    little = live-few g (seen old) live was.live_is

    pub spare-same : SamePlaces g (seen old) (seen new)
    spare-same = zones-beside g (at_table g (spare_table live)) (8 * g.zones) (seen old) (seen new) beside (zones-after g (spare_table live) (omega arith))

    pub spare-promise : KeepsPromise seen may_leave g new flushed words.safe
    spare-promise =
        keeps-promise g seen may_leave old new (at_table g (spare_table live)) (8 * g.zones) flushed words.safe keeps follows (omega arith)
        (zones-after g (spare_table live) (omega arith)) (inl (omega arith))
        (whole-apart g (spare_table live) flushed (λ e. absurd (omega (arith, e, bounds.0))))
        spare-same (length-safe g (seen old) entries live flushed words was) within

    pub spare-promises : promised_zones g (seen new) words.safe ≡ promised_zones g (seen old) words.safe
    spare-promises = promised-same g (seen old) (seen new) words.safe spare-same (length-safe g (seen old) entries live flushed words was) within

    pub served-spare : (spare : List ℕ) → words_in (seen new) (at_table g (spare_table live)) g.zones ≡ spare → IsServed g boot (seen new) entries live flushed (record words { spare = spare })
    served-spare spare is =
        let at = at_table g (spare_table live) in
        let n = 8 * g.zones in
        record {
          long = beside.long ∙ was.long;
          head = head-beside at n (seen old) (seen new) beside (omega arith) ∙ was.head;
          boot_is = boot-beside at n (seen old) (seen new) beside (omega arith) ∙ was.boot_is;
          live_is = ap (λ (w : ℕ). w % 2) (word-beside at n at_live (seen old) (seen new) beside (inl (omega arith))) ∙ was.live_is;
          live_words = words-beside at n (at_table g live) g.zones (seen old) (seen new) beside (whole-apart g (spare_table live) live (λ e. absurd (omega (arith, e)))) ∙ was.live_words;
          spare_words = is;
          flushed_is = ap (λ (w : ℕ). 2 + w % 2) (word-beside at n at_flushed (seen old) (seen new) beside (inl (omega arith))) ∙ was.flushed_is;
          safe_words = words-beside at n (at_table g flushed) g.zones (seen old) (seen new) beside (whole-apart g (spare_table live) flushed (λ e. absurd (omega (arith, e, bounds.0)))) ∙ was.safe_words;
          other_words = words-beside at n (at_table g (other_table flushed)) g.zones (seen old) (seen new) beside (whole-apart g (spare_table live) (other_table flushed) (λ e. absurd (omega (arith, e, bounds.1)))) ∙ was.other_words;
          summed = summed-places g (seen old) (seen new) words.safe entries spare-same was.summed;
        }

  -- ---- that table is picked

  module _ {F : Type 0} {boot : Boot} (seen : F → List ℕ) (may_leave : F → List ℕ → Type 0) (old new : F) (entries : List Entry) (live flushed : ℕ) (words : Words)
      (was : IsServed g boot (seen old) entries live flushed words) (within : AreWithin g (map entry_of words.safe))
      (keeps : KeepsPromise seen may_leave g old flushed words.safe)
      (beside : SameBeside at_live 8 (seen old) (seen new))
      (follows : Follows (SameBeside at_live 8) (may_leave old) (may_leave new)) where
    pub switch-same : SamePlaces g (seen old) (seen new)
    switch-same = zones-beside g at_live 8 (seen old) (seen new) beside (omega arith)

    pub switch-promise : KeepsPromise seen may_leave g new flushed words.safe
    switch-promise =
        keeps-promise g seen may_leave old new at_live 8 flushed words.safe keeps follows (omega arith) (omega arith) (inr (omega arith)) (inr (omega arith))
        switch-same (length-safe g (seen old) entries live flushed words was) within

    pub switch-promises : promised_zones g (seen new) words.safe ≡ promised_zones g (seen old) words.safe
    switch-promises = promised-same g (seen old) (seen new) words.safe switch-same (length-safe g (seen old) entries live flushed words was) within

    pub served-switch : (next : List Entry) → words.spare ≡ map word_of next → AreSummed g (seen old) words.safe next → word_in (seen new) at_live ≡ spare_table live
        → IsServed g boot (seen new) next (spare_table live) flushed (record words { spare = map word_of entries })
    served-switch next spare summed is =
        let little = live-few g (seen old) live was.live_is in
        let back : spare_table (spare_table live) ≡ live = omega (arith, little) in
        let kept : (table : ℕ) → words_in (seen new) (at_table g table) g.zones ≡ words_in (seen old) (at_table g table) g.zones =
        λ table. words-beside at_live 8 (at_table g table) g.zones (seen old) (seen new) beside (inr (omega arith)) in
        record {
          long = beside.long ∙ was.long;
          head = head-beside at_live 8 (seen old) (seen new) beside (omega arith) ∙ was.head;
          boot_is = boot-beside at_live 8 (seen old) (seen new) beside (omega arith) ∙ was.boot_is;
          live_is = omega (arith, is, little);
          live_words = kept (spare_table live) ∙ was.spare_words ∙ spare;
          spare_words = rw back (kept live ∙ was.live_words);
          flushed_is = ap (λ (w : ℕ). 2 + w % 2) (word-beside at_live 8 at_flushed (seen old) (seen new) beside (inr (omega arith))) ∙ was.flushed_is;
          safe_words = kept flushed ∙ was.safe_words;
          other_words = kept (other_table flushed) ∙ was.other_words;
          summed = summed-places g (seen old) (seen new) words.safe next switch-same summed;
        }

-- entries of which one is another
pub within-set : (g : Geometry) (entries : List Entry) (index : ℕ) (entry : Entry) → AreWithin g entries → entry.written ≤ g.capacity → AreWithin g (set entries index entry)
within-set g [] index entry all small = tt
within-set g (e ∷ entries) zero entry all small = (small, all.1)
within-set g (e ∷ entries) (suc index) entry all small = (all.0, within-set g entries index entry all.1 small)

-- ---- words and what they say

code-state : (state : ZoneState) → state_from (table_code state) ≡ state
code-state Empty = refl
code-state ImplicitlyOpened = refl
code-state ExplicitlyOpened = refl
code-state Closed = refl
code-state ReadOnly = refl
code-state Full = refl
code-state Offline = refl

second-is : (b : Bool) → eqb (one_if b) 1 ≡ b
second-is true = refl
second-is false = refl

code-few : (state : ZoneState) → table_code state < 16
code-few Empty = omega arith
code-few ImplicitlyOpened = omega arith
code-few ExplicitlyOpened = omega arith
code-few Closed = omega arith
code-few ReadOnly = omega arith
code-few Full = omega arith
code-few Offline = omega arith

-- the word of a zone says what a restart leaves of it
pub word-says : (entry : Entry) → entry.written < 2 ^ 32
    → ((entry_of (word_of entry)).state ≡ restarted_state entry.state) × ((entry_of (word_of entry)).written ≡ entry.written) × ((entry_of (word_of entry)).second ≡ entry.second)
    × ((entry_of (word_of entry)).sum ≡ entry.sum % 2 ^ 27)
word-says entry small =
    let code = table_code (restarted_state entry.state) in
    let most = code-few (restarted_state entry.state) in
    let few = one-few entry.second in
    let high : word_of entry / 2 ^ 33 % 16 ≡ code = omega (arith, small, few, most) in
    let low : word_of entry % 2 ^ 32 ≡ entry.written = omega (arith, small, few) in
    let middle : word_of entry / 2 ^ 32 % 2 ≡ one_if entry.second = omega (arith, small, few) in
    let top : word_of entry / 2 ^ 37 % 2 ^ 27 ≡ entry.sum % 2 ^ 27 = omega (arith, small, few, most) in
    (ap state_from high ∙ code-state (restarted_state entry.state), low, ap (λ (n : ℕ). eqb n 1) middle ∙ second-is entry.second, top)

-- zones as the words say are those that a restart leaves
pub words-say : (g : Geometry) (file : List ℕ) (number : ℕ) (entries : List Entry) → g.capacity < 2 ^ 32 → AreWithin g entries
    → zones_in g file number (map entry_of (map word_of entries)) ≡ map restarted_stored (zones_in g file number entries)
words-say g file number [] small within = refl
words-say g file number (entry ∷ entries) small within =
    let says = word-says entry (omega (arith, small, within.0)) in
    rw (says.0, says.1, says.2, words-say g file (number + 1) entries small within.1) refl

pub words-within : (g : Geometry) (entries : List Entry) → g.capacity < 2 ^ 32 → AreWithin g entries → AreWithin g (map entry_of (map word_of entries))
words-within g [] small within = tt
words-within g (entry ∷ entries) small within =
    let says = word-says entry (omega (arith, small, within.0)) in
    (omega (arith, says.1, within.0), words-within g entries small within.1)

-- a word of a zone is the word of what it says
word-again : (entry : Entry) → entry.written < 2 ^ 32 → word_of (entry_of (word_of entry)) ≡ word_of entry
word-again entry small =
    let says = word-says entry small in
    let twice : entry.sum % 2 ^ 27 % 2 ^ 27 ≡ entry.sum % 2 ^ 27 = omega arith in
    rw (says.0, says.1, says.2, says.3, restarted-twice entry.state, twice) refl

words-again : (g : Geometry) (entries : List Entry) → g.capacity < 2 ^ 32 → AreWithin g entries → map word_of (map entry_of (map word_of entries)) ≡ map word_of entries
words-again g [] small within = refl
words-again g (entry ∷ entries) small within = rw (word-again entry (omega (arith, small, within.0)), words-again g entries small within.1) refl

-- so a table may have the words of zones
pub are-words : (g : Geometry) (entries : List Entry) → g.capacity < 2 ^ 32 → AreWithin g entries → AreWords g (map word_of entries)
are-words g entries small within = record { said = words-again g entries small within; within = words-within g entries small within }

-- the words of zones say their sums
pub sum-said : (g : Geometry) (file : List ℕ) (number word : ℕ) (entry : Entry) → entry.written < 2 ^ 32 → is_summed g file number (entry_of word) entry ≡ true → (entry_of (word_of entry)).sum ≡ entry.sum
sum-said g file number word entry small is =
    let few : (entry_of word).sum < 2 ^ 27 = omega arith in
    (word-says entry small).3 ∙ omega (arith, summed-few g file number (entry_of word) entry few is)

-- so a flush has the sums of the zones
pub summed-words : (g : Geometry) (old new words : List ℕ) (entries : List Entry) → g.capacity < 2 ^ 32 → length entries ≡ g.zones → AreSummed g old words entries → AreSummed g new (map word_of entries) entries
summed-words g old new words entries small count was number low room =
    let entry = entry_at entries number in
    let says = word-says entry (omega (arith, room, small)) in
    let sum = sum-said g old number (slice_index words number) entry (omega (arith, room, small)) (was number low room) in
    let is : flushed_at (map word_of entries) number ≡ entry_of (word_of entry) = ap entry_of (get_or-map word_of entries number _ 0 (omega (arith, low, count))) in
    subst (λ (last : Entry). is_summed g new number last entry ≡ true) (sym is) (summed-flushed g new number (entry_of (word_of entry)) entry (sym says.2) (sym says.1) (sym sum))

-- ---- the word that picks a flushed table

module _ (g : Geometry) {boot : Boot} (old new : List ℕ) (entries : List Entry) (live flushed : ℕ) (words : Words) (was : IsServed g boot old entries live flushed words)
    (beside : SameBeside at_flushed 8 old new) where
  flushed-either : (file : List ℕ) → (flushed_table file ≡ flushed) ⊎ (flushed_table file ≡ other_table flushed)
  flushed-either file =
      let most = flushed-few g old flushed was.flushed_is in
      elim (cases_eq (flushed_table file) flushed) [
        | inl same ↦ inl same
        | inr away ↦ inr (omega (arith, away, most.0, most.1))
      ]

  table-kept : (table : ℕ) → words_in new (at_table g table) g.zones ≡ words_in old (at_table g table) g.zones
  table-kept table = words-beside at_flushed 8 (at_table g table) g.zones old new beside (inr (omega arith))

  pub pick-same : SamePlaces g old new
  pick-same = zones-beside g at_flushed 8 old new beside (omega arith)

  -- An open finds what was promised, or the zones that are there.
  pub pick-finds : words.other ≡ map word_of entries → g.capacity < 2 ^ 32 → length entries ≡ g.zones → AreWithin g entries → AreWithin g (map entry_of words.safe)
      → (flushed_zones g new ≡ promised_zones g old words.safe) ⊎ (flushed_zones g new ≡ map restarted_stored (zones_in g old 0 entries))
  pick-finds now small count within safe = elim (flushed-either new) [
    | inl same ↦ inl (rw (same, table-kept flushed, was.safe_words)
        (promised-same g old new words.safe pick-same (length-safe g old entries live flushed words was) safe))
    | inr other ↦ inr (rw (other, table-kept (other_table flushed), was.other_words, now)
        (words-say g new 0 entries small within ∙ ap (map restarted_stored) (zones-kept g old new 0 entries pick-same (omega (arith, count)) within)))
  ]

  -- It finds words that a table may have.
  pub pick-words : words.other ≡ map word_of entries → g.capacity < 2 ^ 32 → AreWithin g entries → AreWords g words.safe
      → AreWords g (words_in new (at_table g (flushed_table new)) g.zones)
  pick-words now small within safe = elim (flushed-either new) [
    | inl same ↦ rw (same, table-kept flushed, was.safe_words) safe
    | inr other ↦ rw (other, table-kept (other_table flushed), was.other_words, now) (are-words g entries small within)
  ]

-- ---- the flushed table is picked

pub small-capacity : (g : Geometry) → IsInRange g → g.capacity < 2 ^ 32
small-capacity g in_range = omega (arith, in_range.capacity.1, in_range.size.1)

module _ (g : Geometry) {F : Type 0} {boot : Boot} (seen : F → List ℕ) (may_leave : F → List ℕ → Type 0) (old new : F) (entries : List Entry) (live flushed : ℕ) (words : Words)
    (was : IsServed g boot (seen old) entries live flushed words) (count : length entries ≡ g.zones) (within : AreWithin g entries) (safe : AreWithin g (map entry_of words.safe))
    (small : g.capacity < 2 ^ 32) (now : words.other ≡ map word_of entries)
    (beside : SameBeside at_flushed 8 (seen old) (seen new)) where
  -- the words of the other table say the zones that are there
  pub other-now : promised_zones g (seen old) words.other ≡ map restarted_stored (zones_in g (seen old) 0 entries)
  other-now = rw now (words-say g (seen old) 0 entries small within)

  -- an open finds what was promised, or the zones that are there
  pub pick-left : Only (seen old) (may_leave old) → Follows (SameBeside at_flushed 8) (may_leave old) (may_leave new) → (bytes : List ℕ) → may_leave new bytes
      → (flushed_zones g bytes ≡ promised_zones g (seen old) words.safe) ⊎ (flushed_zones g bytes ≡ promised_zones g (seen old) words.other)
  pick-left synced follows bytes may =
      let (earlier, might, torn) = follows bytes may in
      let torn' : SameBeside at_flushed 8 (seen old) bytes = rw (synced earlier might) at torn in
      elim (pick-finds g (seen old) bytes entries live flushed words was torn' now small count within safe) [
        | inl promised ↦ inl promised
        | inr there ↦ inr (there ∙ sym other-now)
      ]

  -- whatever a loss of power leaves can be opened
  pub pick-opens : Only (seen old) (may_leave old) → Follows (SameBeside at_flushed 8) (may_leave old) (may_leave new) → AreWords g words.safe
      → (bytes : List ℕ) → may_leave new bytes → CanOpen g bytes
  pick-opens synced follows safe-words bytes may =
      let (earlier, might, torn) = follows bytes may in
      let torn' : SameBeside at_flushed 8 (seen old) bytes = rw (synced earlier might) at torn in
      record {
        long = torn'.long ∙ was.long;
        head = head-beside at_flushed 8 (seen old) bytes torn' (omega arith) ∙ was.head;
        words = pick-words g (seen old) bytes entries live flushed words was torn' now small within safe-words;
      }

  -- the other table is picked
  pub picked-served : word_in (seen new) at_flushed ≡ other_table flushed - 2
      → IsServed g boot (seen new) entries live (other_table flushed) (record { spare = words.spare; safe = words.other; other = words.safe })
  picked-served is =
      let most = flushed-few g (seen old) flushed was.flushed_is in
      let back : other_table (other_table flushed) ≡ flushed = omega (arith, most.0, most.1) in
      record {
        long = beside.long ∙ was.long;
        head = head-beside at_flushed 8 (seen old) (seen new) beside (omega arith) ∙ was.head;
        boot_is = boot-beside at_flushed 8 (seen old) (seen new) beside (omega arith) ∙ was.boot_is;
        live_is = ap (λ (w : ℕ). w % 2) (word-beside at_flushed 8 at_live (seen old) (seen new) beside (inl (omega arith))) ∙ was.live_is;
        live_words = words-beside at_flushed 8 (at_table g live) g.zones (seen old) (seen new) beside (inr (omega arith)) ∙ was.live_words;
        spare_words = words-beside at_flushed 8 (at_table g (spare_table live)) g.zones (seen old) (seen new) beside (inr (omega arith)) ∙ was.spare_words;
        flushed_is = omega (arith, is, most.0, most.1);
        safe_words = words-beside at_flushed 8 (at_table g (other_table flushed)) g.zones (seen old) (seen new) beside (inr (omega arith)) ∙ was.other_words;
        other_words = rw back (words-beside at_flushed 8 (at_table g flushed) g.zones (seen old) (seen new) beside (inr (omega arith)) ∙ was.safe_words);
        summed = rw now (summed-words g (seen old) (seen new) words.safe entries small count was.summed);
      }

  -- the table that is picked says the same zones
  other-later : promised_zones g (seen new) words.other ≡ map restarted_stored (zones_in g (seen old) 0 entries)
  other-later =
      rw now (words-say g (seen new) 0 entries small within
      ∙ ap (map restarted_stored) (zones-kept g (seen old) (seen new) 0 entries (pick-same g (seen old) (seen new) entries live flushed words was beside) (omega (arith, count)) within))

  safe-later : promised_zones g (seen new) words.safe ≡ promised_zones g (seen old) words.safe
  safe-later =
      promised-same g (seen old) (seen new) words.safe (pick-same g (seen old) (seen new) entries live flushed words was beside) (length-safe g (seen old) entries live flushed words was) safe

  -- an open finds one of the two, whichever is picked
  pub pick-either : Only (seen old) (may_leave old) → Follows (SameBeside at_flushed 8) (may_leave old) (may_leave new) → (bytes : List ℕ) → may_leave new bytes
      → Contains (durable_zones g (seen old) words.safe words.other true) (flushed_zones g bytes)
  pick-either synced follows bytes may =
      contains-two (promised_zones g (seen old) words.safe) (promised_zones g (seen old) words.other) (flushed_zones g bytes) (pick-left synced follows bytes may)

  pub picked-either : Only (seen old) (may_leave old) → Follows (SameBeside at_flushed 8) (may_leave old) (may_leave new) → (bytes : List ℕ) → may_leave new bytes
      → Contains (durable_zones g (seen new) words.other words.safe true) (flushed_zones g bytes)
  picked-either synced follows bytes may =
      contains-two (promised_zones g (seen new) words.other) (promised_zones g (seen new) words.safe) (flushed_zones g bytes) (elim (pick-left synced follows bytes may) [
        | inl last ↦ inr (last ∙ sym safe-later)
        | inr there ↦ inl (there ∙ other-now ∙ sym other-later)
      ])

  -- what is durable then was durable before, or is the zones that are there
  pub pick-or-now : (unsure : Bool) (found : List StoredZone) → Contains (durable_zones g (seen old) words.safe words.other true) found
      → Contains (durable_zones g (seen old) words.safe words.other unsure) found ⊎ (found ≡ map restarted_stored (zones_in g (seen old) 0 entries))
  pick-or-now unsure found left = elim (of-two (promised_zones g (seen old) words.safe) (promised_zones g (seen old) words.other) found left) [
    | inl last ↦ inl (contains-first (promised_zones g (seen old) words.safe) found _ last)
    | inr there ↦ inr (there ∙ other-now)
  ]

  pub picked-or-now : (unsure : Bool) (found : List StoredZone) → Contains (durable_zones g (seen new) words.other words.safe true) found
      → Contains (durable_zones g (seen old) words.safe words.other unsure) found ⊎ (found ≡ map restarted_stored (zones_in g (seen old) 0 entries))
  picked-or-now unsure found left = elim (of-two (promised_zones g (seen new) words.other) (promised_zones g (seen new) words.safe) found left) [
    | inl there ↦ inr (there ∙ other-later)
    | inr last ↦ inl (contains-first (promised_zones g (seen old) words.safe) found _ (last ∙ safe-later))
  ]

  -- where the flush is done these zones alone are durable
  pub picked-just : (unsure : Bool) → unsure ≡ false → (found : List StoredZone) → Contains (durable_zones g (seen new) words.other words.safe unsure) found
      → found ≡ map restarted_stored (zones_in g (seen old) 0 entries)
  picked-just unsure certain found left = of-one (promised_zones g (seen new) words.other) found (subst (λ (b : Bool). Contains (durable_zones g (seen new) words.other words.safe b) found) certain left) ∙ other-later

-- the zones after a change that keeps all blocks
pub filed-same : {F : Type 0} (seen : F → List ℕ) (old new : FiledZones F) → new.shape ≡ old.shape → new.entries ≡ old.entries → SamePlaces old.shape (seen old.file) (seen new.file)
    → length old.entries ≡ old.shape.zones → AreWithin old.shape old.entries → filed seen new ≡ filed seen old
filed-same seen old new shape entries same count within =
    rw (shape, entries) (zones-kept old.shape (seen old.file) (seen new.file) 0 old.entries same (omega (arith, count)) within)

-- ---- a zone that is closed

-- a Close keeps the word of a zone
pub close-word : (last entry : Entry) → word_of (acted Close last entry) ≡ word_of entry
close-word last entry = by entry.state
  where
    by : (state : ZoneState) → word_of (acted Close last (record { state = state; written = entry.written; second = entry.second; sum = entry.sum }))
        ≡ word_of (record { state = state; written = entry.written; second = entry.second; sum = entry.sum })
    by Empty = refl
    by ImplicitlyOpened = refl
    by ExplicitlyOpened = refl
    by Closed = refl
    by ReadOnly = refl
    by Full = refl
    by Offline = refl

-- so the file is served as before
pub served-closed : (g : Geometry) {boot : Boot} (file : List ℕ) (entries : List Entry) (live flushed : ℕ) (words : Words) (index : ℕ) (last : Entry) → index < length entries → last ≡ flushed_at words.safe index
    → IsServed g boot file entries live flushed words → IsServed g boot file (set entries index (acted Close last (entry_at entries index))) live flushed words
served-closed g file entries live flushed words index last low is was =
    let entry = entry_at entries index in
    let same : map word_of (set entries index (acted Close last entry)) ≡ map word_of entries =
    map-set word_of entries index (acted Close last entry)
    ∙ ap (set (map word_of entries) index) (close-word last entry)
    ∙ sym (map-set word_of entries index entry)
    ∙ ap (map word_of) (set-get_or entries index _) in
    record {
      long = was.long;
      head = was.head;
      boot_is = was.boot_is;
      live_is = was.live_is;
      live_words = was.live_words ∙ sym same;
      spare_words = was.spare_words;
      flushed_is = was.flushed_is;
      safe_words = was.safe_words;
      other_words = was.other_words;
      summed = summed-set g file words.safe entries index (acted Close last entry) low was.summed (λ inside room.
          subst (λ (l : Entry). is_summed g file index (flushed_at words.safe index) (acted Close l entry) ≡ true) (sym is)
          (acted-summed g file index Close (flushed_at words.safe index) entry (was.summed index inside (rw (close-written last entry) at room))));
    }

-- ---- what is durable

-- what is durable stays so where no more may be left
pub durable-stays : {F : Type 0} (may_leave : F → List ℕ → Type 0) (g : Geometry) (old new : F) (before after : List (List StoredZone)) → before ≡ after
    → ((bytes : List ℕ) → may_leave new bytes → may_leave old bytes) → AllDurable may_leave g old before → AllDurable may_leave g new after
durable-stays may_leave g old new before after same fewer all =
    λ bytes may. subst (λ (zones : List (List StoredZone)). CanOpen g bytes × Contains zones (flushed_zones g bytes)) same (all bytes (fewer bytes may))

-- what the last flush promised is durable, if no flush failed while it picked its table
pub promised-durable : (g : Geometry) {F : Type 0} (seen : F → List ℕ) (may_leave : F → List ℕ → Type 0) (file : F) (flushed : ℕ) (safe other : List ℕ) (unsure : Bool) → AreWords g safe
    → KeepsPromise seen may_leave g file flushed safe → AllDurable may_leave g file (durable_zones g (seen file) safe other unsure)
promised-durable g seen may_leave file flushed safe other unsure words keeps bytes may = (
  promised-opens g seen may_leave file flushed safe words keeps bytes may,
  (0, omega arith, sym (promised-found g flushed safe (promised_zones g (seen file) safe) bytes (keeps bytes may))),
)

-- it is the same of the same words in the same file
pub durable-by : (g : Geometry) (file file' safe safe' other other' : List ℕ) (unsure : Bool) → file ≡ file' → safe ≡ safe' → other ≡ other'
    → durable_zones g file safe other unsure ≡ durable_zones g file' safe' other' unsure
durable-by g file file' safe safe' other other' unsure a b c i = durable_zones g (a i) (b i) (c i) unsure

-- it is the same where the last flush has the same blocks
pub durable-same : (g : Geometry) (old new safe other after : List ℕ) (unsure : Bool) → unsure ≡ false → promised_zones g new safe ≡ promised_zones g old safe
    → durable_zones g new safe after unsure ≡ durable_zones g old safe other unsure
durable-same g old new safe other after unsure certain same = rw (certain, same) refl
