-- A file that another boot of the system takes over.
use Rattle.std.proofs.Common.{◌≡◌, ◌≢◌, ℕ, ◌+◌, ◌*◌, ◌%◌, ◌<◌, ◌≤◌, List, Vec, Global, ap, ◌∙◌, inl, inr, arith}
use Rattle.sqlite_disk.specs.Disk.{Follows}
use Rattle.zone_states.specs.declared.geometry.Geometry.{Geometry}
use Rattle.file_bytes.specs.Changes.{SameBeside}
use Rattle.file_drive.specs.Found.{IsRead, with_boot}
use Rattle.file_drive.specs.Head.{boot_in}
use Rattle.file_drive.specs.InFile.{other_table, spare_table}
use Rattle.file_drive.specs.Layout.{at_flushed, at_live, at_table}
use Rattle.file_drive.specs.Opening.{KeepsFlushed}
use Rattle.file_drive.specs.Tables.{flushed_table, words_in}
use Rattle.file_drive.specs.declared.boot.Boot.{Boot}
use Rattle.file_drive.specs.declared.found.Found.{Found}
use Rattle.file_drive.proofs.PartLaws.{word-beside, words-beside}
use Rattle.file_drive.proofs.PlaceLaws.{whole-apart, zones-after, zones-beside}

-- ---- the same last flush

pub follows-by : (g : Geometry) (at n : ℕ) (old new : List ℕ → Type 0) → ((a b : List ℕ) → SameBeside at n a b → KeepsFlushed g a b) → Follows (SameBeside at n) old new
    → Follows (KeepsFlushed g) old new
follows-by g at n old new step follows bytes may =
    let before = follows bytes may in
    (before.0, before.1, step before.0 bytes before.2)

-- ---- a word of the boot

module _ (g : Geometry) (at : ℕ) (after : 64 ≤ at) (before : at + 8 ≤ at_live) where
  pub keeps-boot : (old new : List ℕ) → SameBeside at 8 old new → KeepsFlushed g old new
  keeps-boot old new beside = record {
    long = beside.long;
    head = words-beside at 8 0 8 old new beside (inl after);
    picked = ap (λ (w : ℕ). 2 + w % 2) (word-beside at 8 at_flushed old new beside (inr (omega (arith, before))));
    words = words-beside at 8 (at_table g (flushed_table old)) g.zones old new beside (inr (omega (arith, before)));
    zones = zones-beside g at 8 old new beside (omega (arith, before));
  }

pub read-boot : (old new : List ℕ) (found : Found) (at : ℕ) (boot : Boot) → 64 ≤ at → at + 8 ≤ at_live → SameBeside at 8 old new → boot_in new ≡ boot → IsRead old found
    → IsRead new (with_boot found boot)
read-boot old new found at boot after before beside is was =
    let g = found.head.geometry in
    let kept : (table : ℕ) → words_in new (at_table g table) g.zones ≡ words_in old (at_table g table) g.zones =
    λ table. words-beside at 8 (at_table g table) g.zones old new beside (inr (omega (arith, before))) in
    record {
      head = record {
        in_range = was.head.in_range;
        long = beside.long ∙ was.head.long;
        words = words-beside at 8 0 8 old new beside (inl after) ∙ was.head.words;
        boot_is = is;
      };
      tables = record {
        live_is = ap (λ (w : ℕ). w % 2) (word-beside at 8 at_live old new beside (inr before)) ∙ was.tables.live_is;
        flushed_is = ap (λ (w : ℕ). 2 + w % 2) (word-beside at 8 at_flushed old new beside (inr (omega (arith, before)))) ∙ was.tables.flushed_is;
        current = kept found.tables.live ∙ was.tables.current;
        spare = kept (spare_table found.tables.live) ∙ was.tables.spare;
        safe = kept found.tables.flushed ∙ was.tables.safe;
        other = kept (other_table found.tables.flushed) ∙ was.tables.other;
      };
    }

-- ---- the live table

pub keeps-live : (g : Geometry) (live : ℕ) (old new : List ℕ) → live < 2 → SameBeside (at_table g live) (8 * g.zones) old new → KeepsFlushed g old new
keeps-live g live old new low beside =
    let at = at_table g live in
    let n = 8 * g.zones in
    record {
      long = beside.long;
      head = words-beside at n 0 8 old new beside (inl (omega arith));
      picked = ap (λ (w : ℕ). 2 + w % 2) (word-beside at n at_flushed old new beside (inl (omega arith)));
      words = words-beside at n (at_table g (flushed_table old)) g.zones old new beside (whole-apart g live (flushed_table old) (λ e. absurd (omega (arith, e, low))));
      zones = zones-beside g at n old new beside (zones-after g live (omega (arith, low)));
    }

pub read-live : (old new : List ℕ) (found : Found) (current : Vec ℕ Global) → SameBeside (at_table found.head.geometry found.tables.live) (8 * found.head.geometry.zones) old new
    → words_in new (at_table found.head.geometry found.tables.live) found.head.geometry.zones ≡ current.items → IsRead old found
    → IsRead new (record found { tables = record found.tables { current = current } })
read-live old new found current beside is was =
    let g = found.head.geometry in
    let live = found.tables.live in
    let at = at_table g live in
    let n = 8 * g.zones in
    let few : live < 2 = omega (arith, was.tables.live_is) in
    let most : (2 ≤ found.tables.flushed) × (found.tables.flushed < 4) = (omega (arith, was.tables.flushed_is), omega (arith, was.tables.flushed_is)) in
    let kept : (table : ℕ) → live ≢ table → words_in new (at_table g table) g.zones ≡ words_in old (at_table g table) g.zones =
    λ table away. words-beside at n (at_table g table) g.zones old new beside (whole-apart g live table away) in
    record {
      head = record {
        in_range = was.head.in_range;
        long = beside.long ∙ was.head.long;
        words = words-beside at n 0 8 old new beside (inl (omega arith)) ∙ was.head.words;
        boot_is = rw (word-beside at n 64 old new beside (inl (omega arith)), word-beside at n 72 old new beside (inl (omega arith))) was.head.boot_is;
      };
      tables = record {
        live_is = ap (λ (w : ℕ). w % 2) (word-beside at n at_live old new beside (inl (omega arith))) ∙ was.tables.live_is;
        flushed_is = ap (λ (w : ℕ). 2 + w % 2) (word-beside at n at_flushed old new beside (inl (omega arith))) ∙ was.tables.flushed_is;
        current = is;
        spare = kept (spare_table live) (λ e. absurd (omega (arith, e, few))) ∙ was.tables.spare;
        safe = kept found.tables.flushed (λ e. absurd (omega (arith, e, few, most.0))) ∙ was.tables.safe;
        other = kept (other_table found.tables.flushed) (λ e. absurd (omega (arith, e, few, most.1))) ∙ was.tables.other;
      };
    }
