-- The mark of a file: what changes it, and what it changes.
use Rattle.std.proofs.Common.{◌≡◌, ◌≢◌, ℕ, ◌+◌, ◌-◌, ◌*◌, ◌/◌, ◌%◌, ◌^◌, ◌<◌, ◌≤◌, ◌&&◌, Bool, false, eqb, Result, Ok, Err, IsTrue, List, [], ◌∷◌, length, map, sym, ap, ◌∙◌, refl, inl, inr, arith}
use Rattle.std.specs.Result.{OnErr, OnOk}
use Rattle.std.proofs.lemmas.Bool.{false≢true}
use Rattle.sqlite_disk.specs.Disk.{Follows}
use Rattle.zone_states.specs.declared.geometry.Geometry.{Geometry}
use Rattle.file_bytes.specs.Changes.{SameBeside}
use Rattle.file_bytes.specs.declared.file.FileBytes.{Ghosts as FileGhosts}
use Rattle.file_drive.specs.Head.{at_second, is_of_boot}
use Rattle.file_drive.specs.InFile.{is_summed}
use Rattle.file_drive.specs.Layout.{at_flushed, at_live, at_place, at_table}
use Rattle.file_drive.specs.Mark.{IsCopied, IsMark, IsMarked, at_mark, mark_in, mark_of}
use Rattle.file_drive.specs.Opening.{are_few, are_proved, opened_table, opened_zones, proves_live}
use Rattle.file_drive.specs.Sums.{zone_sum}
use Rattle.file_drive.specs.Tables.{entry_of, flushed_table, live_table, place_of, words_in, zones_in}
use Rattle.file_drive.specs.declared.boot.Boot.{Boot}
use Rattle.file_drive.specs.declared.entry.Entry.{Entry}
use Rattle.file_drive.proofs.PartLaws.{Apart, beside-wider, part-beside, word-beside, words-beside}

-- ---- results

-- a word that could not be written would say so
pub told-of : {X E : Type 0} (result : Result X E) (stuck : Bool) (P : Type 0) → OnErr result (IsTrue stuck) → stuck ≡ false → OnOk result P → P
told-of (Ok x) stuck P sticks free given = given
told-of (Err fault) stuck P sticks free given = absurd (false≢true (sym free ∙ sticks))

-- what holds on success, from what does
pub then-ok : {X E : Type 0} (result : Result X E) (P Q : Type 0) → (P → Q) → OnOk result P → OnOk result Q
then-ok (Ok x) P Q step given = step given
then-ok (Err fault) P Q step given = given

-- ---- numbers

-- the two halves of a mark
mark-halves : (number : ℕ) → number < 2 ^ 32 → (mark_of number / 2 ^ 32 ≡ 2 ^ 32 - 1 - number) × (mark_of number % 2 ^ 32 ≡ number)
mark-halves number low = (omega (arith, low), omega (arith, low))

-- the mark of a number is one
pub marks : (number : ℕ) → number < 2 ^ 32 → IsMark (mark_of number)
marks number low = let halves = mark-halves number low in omega (arith, low, halves.0, halves.1)

-- another number has another mark
pub others-copied : (number other : ℕ) (file : List ℕ) → number < 2 ^ 32 → other < 2 ^ 32 → other ≢ number → mark_in file ≡ mark_of number → IsCopied other file
others-copied number other file low few away is = record {
  marked = rw is (marks number low);
  other = λ same. away (sym (mark-halves other few).1 ∙ ap (λ (word : ℕ). word % 2 ^ 32) (sym same ∙ is) ∙ (mark-halves number low).1);
}

-- ---- what keeps the mark

pub mark-kept : (at n : ℕ) (old new : List ℕ) → SameBeside at n old new → Apart at n at_mark 8 → mark_in new ≡ mark_in old
mark-kept at n old new beside apart = word-beside at n at_mark old new beside apart

-- a change beside the mark keeps it, in all that may be left
pub left-kept : (word at n : ℕ) (old new : List ℕ → Type 0) → Apart at n at_mark 8 → Follows (SameBeside at n) old new
    → ((bytes : List ℕ) → old bytes → mark_in bytes ≡ word) → (bytes : List ℕ) → new bytes → mark_in bytes ≡ word
left-kept word at n old new apart follows was bytes may =
    let before = follows bytes may in
    mark-kept at n before.0 bytes before.2 apart ∙ was before.0 before.1

module _ {F : Type 0} (f : FileGhosts F) (number : ℕ) where
  -- a file of which no sync has failed is marked, if all that may be left of it is
  pub marked-usable : (file : F) → at_mark + 8 ≤ length (f.seen file) → IsTrue (f.is_usable file) → ((bytes : List ℕ) → f.may_leave file bytes → mark_in bytes ≡ mark_of number)
      → IsMarked f.seen f.may_leave f.may_show number file
  marked-usable file long usable left = record {
    long = long;
    left = left;
    shown = λ bytes may. ap mark_in (f.seen_is_shown file usable bytes may) ∙ left (f.seen file) (f.seen_may_stay file);
  }

  -- a change beside the mark, while no sync has failed
  pub marked-beside : (at n : ℕ) (old new : F) → Apart at n at_mark 8 → SameBeside at n (f.seen old) (f.seen new) → Follows (SameBeside at n) (f.may_leave old) (f.may_leave new)
      → IsTrue (f.is_usable new) → IsMarked f.seen f.may_leave f.may_show number old → IsMarked f.seen f.may_leave f.may_show number new
  marked-beside at n old new apart beside leaves usable was =
      marked-usable new (rw beside.long was.long) usable (left-kept (mark_of number) at n (f.may_leave old) (f.may_leave new) apart leaves was.left)

  -- a word beside the mark, also later
  pub marked-word : (at n : ℕ) (old new : F) → Apart at n at_mark 8 → SameBeside at n (f.seen old) (f.seen new) → Follows (SameBeside at n) (f.may_leave old) (f.may_leave new)
      → Follows (SameBeside at n) (f.may_show old) (f.may_show new) → IsMarked f.seen f.may_leave f.may_show number old → IsMarked f.seen f.may_leave f.may_show number new
  marked-word at n old new apart beside leaves shows was = record {
    long = rw beside.long was.long;
    left = left-kept (mark_of number) at n (f.may_leave old) (f.may_leave new) apart leaves was.left;
    shown = left-kept (mark_of number) at n (f.may_show old) (f.may_show new) apart shows was.shown;
  }

  -- all that is left is what a read returns
  pub marked-synced : (file : F) → at_mark + 8 ≤ length (f.seen file) → IsTrue (f.is_usable file) → mark_in (f.seen file) ≡ mark_of number
      → ((bytes : List ℕ) → f.may_leave file bytes → bytes ≡ f.seen file) → IsMarked f.seen f.may_leave f.may_show number file
  marked-synced file long usable is only = marked-usable file long usable (λ bytes may. ap mark_in (only bytes may) ∙ is)

-- ---- what the mark keeps

-- a change of the mark, and one of the word before it
pub mark-then : (old middle new : List ℕ) → SameBeside at_mark 8 old middle → SameBeside at_second 8 middle new → SameBeside at_second 16 old new
mark-then old middle new first second =
    let wide = beside-wider at_mark 8 at_second 16 old middle first (omega arith) (omega arith) in
    let more = beside-wider at_second 8 at_second 16 middle new second (omega arith) (omega arith) in
    record {
      long = more.long ∙ wide.long;
      below = λ i low. more.below i low ∙ wide.below i low;
      above = λ i high. more.above i high ∙ wide.above i high;
    }

module _ (g : Geometry) (old new : List ℕ) (beside : SameBeside at_mark 8 old new) where
  same-words : (table : ℕ) → words_in new (at_table g table) g.zones ≡ words_in old (at_table g table) g.zones
  same-words table = words-beside at_mark 8 (at_table g table) g.zones old new beside (inr (omega arith))

  same-live : live_table new ≡ live_table old
  same-live = ap (λ (w : ℕ). w % 2) (word-beside at_mark 8 at_live old new beside (inr (omega arith)))

  same-flushed : flushed_table new ≡ flushed_table old
  same-flushed = ap (λ (w : ℕ). 2 + w % 2) (word-beside at_mark 8 at_flushed old new beside (inr (omega arith)))

  same-summed : (number : ℕ) (flushed entry : Entry) → is_summed g new number flushed entry ≡ is_summed g old number flushed entry
  same-summed number flushed entry =
      ap (λ (bytes : List ℕ). eqb (zone_sum g.block flushed entry bytes) entry.sum)
      (part-beside at_mark 8 (at_place g (place_of number entry)) (entry.written * g.block) old new beside (inr (omega arith)))

  same-proved : (number : ℕ) (flushed words : List ℕ) → are_proved g new number flushed words ≡ are_proved g old number flushed words
  same-proved number [] words = refl
  same-proved number (last ∷ rest) [] = refl
  same-proved number (last ∷ rest) (word ∷ words) =
      rw (same-summed number (entry_of last) (entry_of word), same-proved (number + 1) rest words) refl

  same-zones : (number : ℕ) (entries : List Entry) → zones_in g new number entries ≡ zones_in g old number entries
  same-zones number [] = refl
  same-zones number (entry ∷ entries) =
      rw (part-beside at_mark 8 (at_place g (place_of number entry)) (entry.written * g.block) old new beside (inr (omega arith)), same-zones (number + 1) entries) refl

  same-proves : proves_live g new ≡ proves_live g old
  same-proves =
      rw (same-live, same-flushed, same-words (live_table old), same-words (flushed_table old))
      (ap (λ (b : Bool). b && are_few g (map entry_of (words_in old (at_table g (live_table old)) g.zones)))
      (same-proved 0 (words_in old (at_table g (flushed_table old)) g.zones) (words_in old (at_table g (live_table old)) g.zones)))

  same-boot : (boot : Boot) → is_of_boot boot new ≡ is_of_boot boot old
  same-boot boot =
      rw (word-beside at_mark 8 64 old new beside (inl (omega arith)), word-beside at_mark 8 72 old new beside (inl (omega arith))) refl

  same-table : (boot : Boot) → opened_table g boot new ≡ opened_table g boot old
  same-table boot = rw (same-boot boot, same-proves, same-live, same-flushed) refl

  -- each system finds the same zones
  pub mark-zones : (boot : Boot) → opened_zones g boot new ≡ opened_zones g boot old
  mark-zones boot =
      rw (same-table boot, same-words (opened_table g boot old))
      (same-zones 0 (map entry_of (words_in old (at_table g (opened_table g boot old)) g.zones)))
