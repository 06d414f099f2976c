-- The boot is taken out of the head of a file, after a sync that failed.
use Rattle.std.proofs.Common.{◌≡◌, ℕ, ◌%◌, Bool, true, false, List, length, map, IsTrue, refl, sym, subst, ap, ◌∙◌, inr, arith}
use Rattle.std.specs.List.{Contains}
use Rattle.std.proofs.lemmas.List.{length-map}
use Rattle.sqlite_disk.specs.Disk.{Follows}
use Rattle.zone_states.specs.declared.geometry.Geometry.{Geometry}
use Rattle.zone_states.specs.Stored.{StoredZone}
use Rattle.file_bytes.specs.Changes.{SameBeside}
use Rattle.file_drive.specs.Head.{TakesOut, at_second, boot_in}
use Rattle.file_drive.specs.InFile.{AllDurable, AreWithin, CanOpen, IsOwned, IsServed, Words, durable_zones, other_table, spare_table}
use Rattle.file_drive.specs.Layout.{SamePlaces, at_live, at_table}
use Rattle.file_drive.specs.Opening.{KeepsFlushed}
use Rattle.file_drive.specs.Tables.{entry_of, flushed_table, flushed_zones, words_in}
use Rattle.file_drive.specs.declared.boot.Boot.{Boot}
use Rattle.file_drive.specs.declared.entry.Entry.{Entry}
use Rattle.file_drive.proofs.PartLaws.{length-words, word-beside, words-beside}
use Rattle.file_drive.proofs.ServedLaws.{promised-same, zones-kept}
use Rattle.file_drive.proofs.SumLaws.{summed-places}
use Rattle.file_drive.proofs.TakeLaws.{keeps-boot}

module _ (g : Geometry) (old new : List ℕ) (beside : SameBeside at_second 8 old new) where
  -- the last flush stays
  keeps : KeepsFlushed g old new
  keeps = keeps-boot g at_second (omega arith) (omega arith) old new beside

  -- and all blocks do
  pub out-places : SamePlaces g old new
  out-places = keeps.zones

  table-kept : (table : ℕ) → words_in new (at_table g table) g.zones ≡ words_in old (at_table g table) g.zones
  table-kept table = words-beside at_second 8 (at_table g table) g.zones old new beside (inr (omega arith))

  -- the tables say the same, and the head names another boot
  pub out-served : {boot : Boot} (named : Boot) (entries : List Entry) (live flushed : ℕ) (words : Words) → boot_in new ≡ named
      → IsServed g boot old entries live flushed words → IsServed g named new entries live flushed words
  out-served named entries live flushed words is was = record {
    long = beside.long ∙ was.long;
    head = keeps.head ∙ was.head;
    boot_is = is;
    live_is = ap (λ (w : ℕ). w % 2) (word-beside at_second 8 at_live old new beside (inr (omega arith))) ∙ was.live_is;
    live_words = table-kept live ∙ was.live_words;
    spare_words = table-kept (spare_table live) ∙ was.spare_words;
    flushed_is = keeps.picked ∙ was.flushed_is;
    safe_words = table-kept flushed ∙ was.safe_words;
    other_words = table-kept (other_table flushed) ∙ was.other_words;
    summed = summed-places g old new words.safe entries out-places was.summed;
  }

  -- the same zones may be found after a loss of power
  pub out-sure : (safe other : List ℕ) (unsure : Bool) → unsure ≡ false → length safe ≡ g.zones → AreWithin g (map entry_of safe)
      → durable_zones g new safe other unsure ≡ durable_zones g old safe other unsure
  out-sure safe other unsure sure count within = rw (sure, promised-same g old new safe out-places count within) refl

  pub out-unsure : (safe other : List ℕ) → length safe ≡ g.zones → AreWithin g (map entry_of safe) → length other ≡ g.zones → AreWithin g (map entry_of other)
      → durable_zones g new safe other true ≡ durable_zones g old safe other true
  out-unsure safe other count within count' within' =
      rw (promised-same g old new safe out-places count within, promised-same g old new other out-places count' within') refl

  -- what could be opened can be opened, and has the same last flush
  pub out-opens : CanOpen g old → CanOpen g new
  out-opens can = record {
    long = beside.long ∙ can.long;
    head = keeps.head ∙ can.head;
    words = rw (keeps.picked, keeps.words) can.words;
  }

  pub out-flushed : CanOpen g old → flushed_zones g new ≡ flushed_zones g old
  out-flushed can =
      let words : List ℕ = words_in old (at_table g (flushed_table old)) g.zones in
      rw (keeps.picked, keeps.words)
      (zones-kept g old new 0 (map entry_of words) out-places (omega (arith, length-map words entry_of, length-words old (at_table g (flushed_table old)) g.zones)) can.words.within)

-- Whatever may be left or read then is durable as before.
pub out-durable : (g : Geometry) {A B : Type 0} (before : A → List ℕ → Type 0) (after : B → List ℕ → Type 0) (old : A) (new : B) (durable now : List (List StoredZone)) → now ≡ durable
    → Follows (SameBeside at_second 8) (before old) (after new) → AllDurable before g old durable → AllDurable after g new now
out-durable g before after old new durable now same follows all bytes may =
    let (earlier, might, beside) = follows bytes may in
    let was = all earlier might in
    (out-opens g earlier bytes beside was.0, rw (out-flushed g earlier bytes beside was.0) (subst (λ (zones : List (List StoredZone)). Contains zones (flushed_zones g earlier)) (sym same) was.1))

-- ---- the head names this boot until a sync fails

module _ {F : Type 0} (may_leave may_show : F → List ℕ → Type 0) (is_usable is_stuck : F → Bool) (g : Geometry) (boot named : Boot) (durable : List (List StoredZone)) where
  -- while no sync has failed
  pub still-owned : (file : F) → IsTrue (is_usable file) → named ≡ boot → IsOwned may_show is_usable is_stuck g boot named durable file
  still-owned file usable is = record {
    owned = λ u. is;
    durable_is = λ lost stuck. absurd (cc (lost, usable));
    is_out = λ lost stuck. absurd (cc (lost, usable));
  }

  -- when one has
  pub given-up : (old file : F) (now : List (List StoredZone)) → now ≡ durable → is_usable file ≡ false → (is_stuck file ≡ false → TakesOut (may_leave old) (may_show file)) → AllDurable may_leave g old durable
      → IsOwned may_show is_usable is_stuck g boot named now file
  given-up old file now same lost out all = record {
    owned = λ u. absurd (cc (lost, u));
    durable_is = λ e stuck. out-durable g may_leave may_show old file durable now same (out stuck).follows all;
    is_out = λ e stuck. (out stuck).is_out;
  }

  -- a file that is the same to whoever opens it
  pub same-owned : (old file : F) → is_usable file ≡ is_usable old → is_stuck file ≡ is_stuck old → ((bytes : List ℕ) → may_show file bytes → may_show old bytes)
      → IsOwned may_show is_usable is_stuck g boot named durable old → IsOwned may_show is_usable is_stuck g boot named durable file
  same-owned old file usable stuck fewer was = record {
    owned = λ u. was.owned (sym usable ∙ u);
    durable_is = λ lost free bytes may. was.durable_is (sym usable ∙ lost) (sym stuck ∙ free) bytes (fewer bytes may);
    is_out = λ lost free bytes may. was.is_out (sym usable ∙ lost) (sym stuck ∙ free) bytes (fewer bytes may);
  }
