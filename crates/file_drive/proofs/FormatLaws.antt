-- A file of zeros is made a drive.
use Rattle.std.proofs.Common.{◌≡◌, ℕ, zero, suc, ◌+◌, ◌-◌, ◌*◌, ◌%◌, ◌<◌, ◌≤◌, Bool, true, false, cond, ◌&&◌, List, [], ◌∷◌, ◌++◌, length, map, replicate, take, slice_index, refl, sym, ap, ◌∙◌, subst, inl, inr, arith}
use Rattle.std.specs.List.{AllByRecursion, count_by}
use Rattle.std.proofs.lemmas.Bool.{cases_lt}
use Rattle.std.proofs.lemmas.Grind.{same_number_lists}
use Rattle.sqlite_disk.specs.Disk.{Holds as HasBytes}
use Rattle.std.specs.Int.{w64, from_le_bytes}
use Rattle.std.proofs.lemmas.List.{drop-replicate, get_or-replicate, length-replicate, take-replicate, take_more}
use Rattle.nvme_wire.specs.declared.zone_state.ZoneState.TheVariants.{Empty}
use Rattle.zone_states.specs.declared.geometry.Geometry.{Geometry}
use Rattle.zone_states.specs.Geometry.{IsInRange}
use Rattle.zone_states.specs.Transition.{is_active, is_open}
use Rattle.zone_drive.proofs.CountLaws.{count-cons}
use Rattle.file_bytes.specs.Changes.{SameBeside}
use Rattle.file_drive.specs.Finds.{Finds, empty_zones}
use Rattle.file_drive.specs.Head.{is_of_boot, shape_words}
use Rattle.file_drive.specs.InFile.{AreWithin}
use Rattle.file_drive.specs.Layout.{at_flushed, at_live, at_table, file_length, part, word_in}
use Rattle.file_drive.specs.Opening.{AreFew, Holds, IsTable, opened_table, proves_live}
use Rattle.file_drive.specs.Tables.{entry_of, flushed_table, live_table, word_of, words_in, zones_in}
use Rattle.file_drive.specs.declared.boot.Boot.{Boot}
use Rattle.file_drive.specs.declared.entry.Entry.{Entry}
use Rattle.file_drive.proofs.FindsLaws.{every-word, finds}
use Rattle.file_drive.proofs.PartLaws.{word-beside, words-beside, words-next}
use Rattle.file_drive.proofs.PlaceLaws.{zones-after}

-- ---- words one after the other

pub next-word : (old new words : List ℕ) (at index : ℕ) → index < length words → SameBeside (at + 8 * index) 8 old new → word_in new (at + 8 * index) ≡ slice_index words index
    → words_in old at index ≡ take index words → words_in new at (index + 1) ≡ take (index + 1) words
next-word old new words at index low beside is before =
    let next : index + 1 ≡ suc index = omega arith in
    let there : words_in new at (index + 1) ≡ words_in new at index ++ (word_in new (at + 8 * index) ∷ []) = rw next (words-next new at index) in
    let put : words_in new at index ++ (word_in new (at + 8 * index) ∷ []) ≡ take index words ++ (slice_index words index ∷ []) =
    rw (words-beside (at + 8 * index) 8 at index old new beside (inl (omega arith)), before, is) refl in
    there ∙ put ∙ sym (take_more words index 0 low)

-- ---- zeros

abbrev pub zeros : ℕ → List ℕ
zeros n = replicate n 0

part-zeros : (n at : ℕ) → at + 8 ≤ n → part (zeros n) at 8 ≡ zeros 8
part-zeros n at low = ap (take 8) (drop-replicate at n 0) ∙ take-replicate 8 (n - at) 0 (omega (arith, low))

pub word-zero : (n at : ℕ) → at + 8 ≤ n → word_in (zeros n) at ≡ 0
unfolding word_in
word-zero n at low = ap (from_le_bytes w64) (part-zeros n at low)

pub words-zero : (n at count : ℕ) → at + 8 * count ≤ n → words_in (zeros n) at count ≡ zeros count
words-zero n at zero low = refl
words-zero n at (suc count) low = rw (word-zero n at (omega (arith, low)), words-zero n (at + 8) count (omega (arith, low))) refl

-- zeros that are written to zeros
pub zeros-again : (n at k : ℕ) (new : List ℕ) → at + k ≤ n → SameBeside at k (zeros n) new → HasBytes new at (zeros k) → new ≡ zeros n
zeros-again n at k new fits beside put =
    let long : length new ≡ length (zeros n) = beside.long in
    same_number_lists new (zeros n) long (λ i low. elim (cases_lt i at) [
      | inl before ↦ beside.below i before
      | inr from ↦ elim (cases_lt i (at + k)) [
        | inl inside ↦
            let j : ℕ = i - at in
            let is : at + j ≡ i = omega (arith, from) in
            let small : j < k = omega (arith, from, inside) in
            ap (slice_index new) (sym is)
            ∙ put.each j (omega (arith, small, length-replicate {A = ℕ} k 0))
            ∙ get_or-replicate k j 0 0 small
            ∙ sym (get_or-replicate n i 0 0 (omega (arith, inside, fits)))
        | inr after ↦ beside.above i after
      ]
    ])

-- ---- a table of zeros

module _ (g : Geometry) where
  zero-said : (n : ℕ) → map word_of (map entry_of (zeros n)) ≡ zeros n
  zero-said zero = refl
  zero-said (suc n) = ap (λ (words : List ℕ). 0 ∷ words) (zero-said n)

  zero-within : (n : ℕ) → AreWithin g (map entry_of (zeros n))
  zero-within zero = tt
  zero-within (suc n) = (omega arith, zero-within n)

  zero-hold : (n : ℕ) → AllByRecursion (Holds g) (map entry_of (zeros n))
  zero-hold zero = tt
  zero-hold (suc n) = (refl, zero-hold n)

  zero-active : (n : ℕ) → count_by (λ (entry : Entry). is_active entry.state) (map entry_of (zeros n)) ≡ 0
  zero-active zero = refl
  zero-active (suc n) = count-cons (λ (entry : Entry). is_active entry.state) (entry_of 0) (map entry_of (zeros n)) ∙ rw (zero-active n) refl

  zero-open : (n : ℕ) → count_by (λ (entry : Entry). is_open entry.state) (map entry_of (zeros n)) ≡ 0
  zero-open zero = refl
  zero-open (suc n) = count-cons (λ (entry : Entry). is_open entry.state) (entry_of 0) (map entry_of (zeros n)) ∙ rw (zero-open n) refl

  zero-few : (n : ℕ) → AreFew g (map entry_of (zeros n))
  zero-few n = record { active = omega (arith, zero-active n); open_zones = omega (arith, zero-open n) }

  pub zero-table : (n : ℕ) → IsTable g (zeros n)
  zero-table n = record { each = every-word g (zeros n) (zero-said n) (zero-within n); hold = zero-hold n; few = zero-few n }

  zero-zones : (file : List ℕ) (number n : ℕ) → zones_in g file number (map entry_of (zeros n)) ≡ replicate n (record { state = Empty; bytes = [] })
  zero-zones file number zero = refl
  zero-zones file number (suc n) =
      let none : 0 * g.block ≡ 0 = omega arith in
      rw (none, zero-zones file (number + 1) n) refl

-- a file of zeros with the head of a shape
pub fresh-finds : (g : Geometry) (boot : Boot) (file : List ℕ) → IsInRange g → SameBeside 0 64 (zeros (file_length g)) file → words_in file 0 8 ≡ shape_words g
    → Finds g boot file (empty_zones g)
fresh-finds g boot file in_range beside head =
    let n = file_length g in
    let long : length file ≡ n = beside.long ∙ length-replicate n 0 in
    let live : live_table file ≡ 0 = ap (λ (w : ℕ). w % 2) (word-beside 0 64 at_live (zeros n) file beside (inr (omega arith)) ∙ word-zero n at_live (omega (arith, zones-after g 0 (omega arith)))) in
    let flushed : flushed_table file ≡ 2 = ap (λ (w : ℕ). 2 + w % 2) (word-beside 0 64 at_flushed (zeros n) file beside (inr (omega arith)) ∙ word-zero n at_flushed (omega (arith, zones-after g 0 (omega arith)))) in
    let table : (t : ℕ) → t < 4 → words_in file (at_table g t) g.zones ≡ zeros g.zones =
    λ t few. words-beside 0 64 (at_table g t) g.zones (zeros n) file beside (inr (omega arith)) ∙ words-zero n (at_table g t) g.zones (omega (arith, zones-after g t few)) in
    let low : opened_table g boot file < 4 = by (is_of_boot boot file && proves_live g file) live flushed in
    let last : words_in file (at_table g (flushed_table file)) g.zones ≡ zeros g.zones = table (flushed_table file) (omega (arith, flushed)) in
    let now = table (opened_table g boot file) low in
    let found = finds g boot file in_range long head (subst (λ (ws : List ℕ). IsTable g ws) (sym last) (zero-table g g.zones)) in
    record { opens = found.opens; shape = found.shape; zones_are = ap (λ (ws : List ℕ). zones_in g file 0 (map entry_of ws)) now ∙ zero-zones g file 0 g.zones }
  where
    by : (same : Bool) → live_table file ≡ 0 → flushed_table file ≡ 2 → cond same (live_table file) (flushed_table file) < 4
    by true live flushed = omega (arith, live)
    by false live flushed = omega (arith, flushed)
