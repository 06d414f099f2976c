-- Blocks that are written after those of a zone.
use Rattle.std.proofs.Common.{◌≡◌, ◌≢◌, ◌⊎◌, ℕ, zero, suc, ◌+◌, ◌*◌, ◌<◌, ◌≤◌, List, [], ◌∷◌, length, map, get_or, refl, ◌∙◌, inl, inr, arith}
use Rattle.std.proofs.Math.Nat.{mul-le-mul_right}
use Rattle.std.proofs.lemmas.Bool.{cases_eq, cases_lt}
use Rattle.std.proofs.lemmas.List.{length-map}
use Rattle.sqlite_disk.specs.Disk.{Follows}
use Rattle.zone_states.specs.declared.geometry.Geometry.{Geometry}
use Rattle.file_bytes.specs.Changes.{SameBeside}
use Rattle.file_drive.specs.Layout.{at_table, at_place, file_length, part, place_room}
use Rattle.file_drive.specs.Tables.{entry_of, place_of, zones_in}
use Rattle.file_drive.specs.InFile.{AreWithin, IsServed, KeepsOthers, KeepsPromise, Words, entry_at, other_table, promised_zones, spare_table}
use Rattle.file_drive.specs.declared.boot.Boot.{Boot}
use Rattle.file_drive.specs.declared.entry.Entry.{Entry}
use Rattle.file_drive.proofs.PartLaws.{Apart, part-beside}
use Rattle.file_drive.proofs.PlaceLaws.{place-low, zone-ends, zones-after}
use Rattle.file_drive.proofs.ServedLaws.{flushed-few, length-safe, live-few, promised-beside, served-beside}
use Rattle.file_drive.proofs.SumLaws.{summed-parts}

-- zones whose parts are the same
pub zones-by-parts : (g : Geometry) (old new : List ℕ) (number : ℕ) (entries : List Entry)
    → ((i : ℕ) (d : Entry) → i < length entries → part new (at_place g (place_of (number + i) (get_or entries i d))) ((get_or entries i d).written * g.block)
    ≡ part old (at_place g (place_of (number + i) (get_or entries i d))) ((get_or entries i d).written * g.block))
    → zones_in g new number entries ≡ zones_in g old number entries
zones-by-parts g old new number [] same = refl
zones-by-parts g old new number (entry ∷ entries) same =
    let here : number + 0 ≡ number = omega arith in
    let rest = zones-by-parts g old new (number + 1) entries (λ i d low.
    let there : number + suc i ≡ number + 1 + i = omega arith in
    rw there at (same (suc i) d (omega (arith, low)))) in
    rw (rw here at (same 0 entry (omega arith)), rest) refl

pub within-at : (g : Geometry) (entries : List Entry) (i : ℕ) (d : Entry) → AreWithin g entries → i < length entries → (get_or entries i d).written ≤ g.capacity
within-at g [] i d all low = absurd (omega (arith, low))
within-at g (entry ∷ entries) zero d all low = all.0
within-at g (entry ∷ entries) (suc i) d all low = within-at g entries i d all.1 (omega (arith, low))

module _ (g : Geometry) (place first n : ℕ) (below : place < 2 * g.zones) (room : first * g.block + n ≤ g.capacity * g.block) where
  -- the blocks are within the file
  pub data-within : at_place g place + first * g.block + n ≤ file_length g
  data-within =
      let more : (place + 1) * place_room g ≤ 2 * g.zones * place_room g = mul-le-mul_right (place_room g) (omega (arith, below)) in
      omega (arith, more, room)

  -- what is written in the other places, and before, is apart
  data-apart : (number written : ℕ) → written ≤ g.capacity → (number ≢ place) ⊎ (written ≤ first) → Apart (at_place g place + first * g.block) n (at_place g number) (written * g.block)
  data-apart number written few other = elim (cases_lt number place) [
    | inl less ↦ inl (omega (arith, zone-ends g number place written less few))
    | inr from ↦ elim (cases_eq number place) [
      | inl same ↦ elim other [
        | inl away ↦ absurd (away same)
        | inr less ↦
            let most : written * g.block ≤ first * g.block = mul-le-mul_right g.block less in
            rw same (inl (omega (arith, most)))
      ]
      | inr away ↦
          let more : (place + 1) * place_room g ≤ number * place_room g = mul-le-mul_right (place_room g) (omega (arith, from, away)) in
          inr (omega (arith, more, room))
    ]
  ]

  -- no zone has a block in that place past the first ones
  abbrev pub IsClear : List Entry → Type 0
  IsClear entries = (i : ℕ) (d : Entry) → i < length entries → (place_of i (get_or entries i d) ≢ place) ⊎ ((get_or entries i d).written ≤ first)

  pub data-keeps : (old new : List ℕ) → SameBeside (at_place g place + first * g.block) n old new → KeepsOthers g place first old new
  data-keeps old new beside number written low few other = part-beside (at_place g place + first * g.block) n (at_place g number) (written * g.block) old new beside (data-apart number written few other)

  -- zones that count no block in that place past the first ones
  pub data-zones : (old new : List ℕ) (entries : List Entry) → SameBeside (at_place g place + first * g.block) n old new → length entries ≡ g.zones → AreWithin g entries
      → IsClear entries → zones_in g new 0 entries ≡ zones_in g old 0 entries
  data-zones old new entries beside count within clear = zones-by-parts g old new 0 entries (λ i d low.
      let here : 0 + i ≡ i = omega arith in
      rw here (data-keeps old new beside (place_of i (get_or entries i d)) (get_or entries i d).written (place-low i g.zones (get_or entries i d) (omega (arith, low, count)))
      (within-at g entries i d within low) (clear i d low)))

  tables-before : (table : ℕ) → table < 4 → Apart (at_place g place + first * g.block) n (at_table g table) (8 * g.zones)
  tables-before table few = inl (omega (arith, zones-after g table few))

  module _ {F : Type 0} {boot : Boot} (seen : F → List ℕ) (may_leave : F → List ℕ → Type 0) (old new : F) (entries : List Entry) (live flushed : ℕ) (words : Words)
      (was : IsServed g boot (seen old) entries live flushed words) (within : AreWithin g (map entry_of words.safe))
      (keeps : KeepsPromise seen may_leave g old flushed words.safe)
      (clear : IsClear (map entry_of words.safe))
      (beside : SameBeside (at_place g place + first * g.block) n (seen old) (seen new))
      (follows : Follows (SameBeside (at_place g place + first * g.block) n) (may_leave old) (may_leave new)) where
    pub data-served : length entries ≡ g.zones → IsClear entries → IsServed g boot (seen new) entries live flushed words
    data-served count free =
        let few = live-few g (seen old) live was.live_is in
        let most = flushed-few g (seen old) flushed was.flushed_is in
        served-beside g (at_place g place + first * g.block) n (seen old) (seen new) entries live flushed words beside (omega arith)
        (inl (omega arith)) (inl (omega arith)) (tables-before live (omega (arith, few))) (tables-before (spare_table live) (omega arith))
        (tables-before flushed most.1) (tables-before (other_table flushed) (omega (arith, most.0)))
        (summed-parts g (seen old) (seen new) words.safe entries (λ number low few.
        data-keeps (seen old) (seen new) beside (place_of number (entry_at entries number)) (entry_at entries number).written (place-low number g.zones (entry_at entries number) low) few
        (free number _ (omega (arith, low, count)))) was.summed)
        was

    safe-count : length (map entry_of words.safe) ≡ g.zones
    safe-count = length-map words.safe entry_of ∙ length-safe g (seen old) entries live flushed words was

    data-promised : (before after : List ℕ) → SameBeside (at_place g place + first * g.block) n before after → promised_zones g after words.safe ≡ promised_zones g before words.safe
    data-promised before after torn = data-zones before after (map entry_of words.safe) torn safe-count within clear

    pub data-promise : KeepsPromise seen may_leave g new flushed words.safe
    data-promise bytes may =
        let most = flushed-few g (seen old) flushed was.flushed_is in
        let (earlier, might, torn) = follows bytes may in
        rw (data-promised (seen old) (seen new) beside)
        (promised-beside g (at_place g place + first * g.block) n earlier bytes flushed words.safe (promised_zones g (seen old) words.safe) torn (omega arith)
        (inl (omega arith)) (tables-before flushed most.1) (data-promised earlier bytes torn) (keeps earlier might))

    pub data-promises : promised_zones g (seen new) words.safe ≡ promised_zones g (seen old) words.safe
    data-promises = data-promised (seen old) (seen new) beside
