-- A live table that the file proves.
use Rattle.std.proofs.Common.{◌≡◌, ℕ, zero, suc, ◌+◌, ◌<◌, ◌^◌, Bool, true, ◌&&◌, List, [], ◌∷◌, length, map, get_or, slice_index, refl, sym, subst, ap, ◌∙◌, arith}
use Rattle.std.specs.List.{AllByRecursion}
use Rattle.std.proofs.lemmas.Bool.{and_parts, eq-eqb, eqb-true, le-leb, leb-true}
use Rattle.std.proofs.lemmas.List.{get_or-map, length-map}
use Rattle.zone_states.specs.declared.geometry.Geometry.{Geometry}
use Rattle.zone_drive.specs.Stored.{may_hold}
use Rattle.file_drive.specs.InFile.{AreApart, AreSummed, AreWithin, IsServed, Words, entry_at, flushed_at, is_apart, is_summed}
use Rattle.file_drive.specs.Opening.{Holds, IsTable, IsWord, are_few, are_proved, is_proved, is_word, proves_live}
use Rattle.file_drive.specs.Tables.{entry_of, word_of}
use Rattle.file_drive.specs.declared.boot.Boot.{Boot}
use Rattle.file_drive.specs.declared.entry.Entry.{Entry}
use Rattle.file_drive.proofs.ApartLaws.{apart-more}
use Rattle.file_drive.proofs.DataLaws.{within-at}
use Rattle.file_drive.proofs.ServedLaws.{length-safe, sum-said, word-says}
use Rattle.file_drive.proofs.StoreLaws.{no_entry}
use Rattle.file_drive.proofs.SumLaws.{summed-flushed, summed-same}

both : (a b : Bool) → a ≡ true → b ≡ true → (a && b) ≡ true
both a b p q = rw (p, q) refl

all-by : {X : Type 0} (P : X → Type 0) (xs : List X) (d : X) → ((i : ℕ) → i < length xs → P (get_or xs i d)) → AllByRecursion P xs
all-by P [] d each = tt
all-by P (x ∷ xs) d each = (each 0 (omega arith), all-by P xs d (λ i low. each (suc i) (omega (arith, low))))

-- what holds of all holds of each
pub all-at : {X : Type 0} (P : X → Type 0) (xs : List X) (i : ℕ) (d : X) → AllByRecursion P xs → i < length xs → P (get_or xs i d)
all-at P [] i d all low = absurd (omega (arith, low))
all-at P (x ∷ xs) zero d all low = all.0
all-at P (x ∷ xs) (suc i) d all low = all-at P xs i d all.1 (omega (arith, low))

-- ---- each word

proved-all : (g : Geometry) (file : List ℕ) (number : ℕ) (flushed words : List ℕ) → length flushed ≡ length words
    → ((i : ℕ) → i < length words → is_proved g file (number + i) (slice_index flushed i) (slice_index words i) ≡ true) → are_proved g file number flushed words ≡ true
proved-all g file number [] words same each = refl
proved-all g file number (last ∷ flushed) [] same each = refl
proved-all g file number (last ∷ flushed) (word ∷ words) same each =
    let here : number + 0 ≡ number = omega arith in
    let rest = proved-all g file (number + 1) flushed words (omega (arith, same)) (λ i low.
    let there : number + suc i ≡ number + 1 + i = omega arith in
    rw there at (each (suc i) (omega (arith, low)))) in
    both (is_proved g file number last word) (are_proved g file (number + 1) flushed words) (rw here at (each 0 (omega arith))) rest

proved-at : (g : Geometry) (file : List ℕ) (number : ℕ) (flushed words : List ℕ) (i : ℕ) → length flushed ≡ length words → are_proved g file number flushed words ≡ true → i < length words
    → is_proved g file (number + i) (slice_index flushed i) (slice_index words i) ≡ true
proved-at g file number [] words i same e low = absurd (omega (arith, same, low))
proved-at g file number (last ∷ flushed) [] i same e low = absurd (omega (arith, low))
proved-at g file number (last ∷ flushed) (word ∷ words) zero same e low =
    let here : number + 0 ≡ number = omega arith in
    rw here (and_parts (is_proved g file number last word) (are_proved g file (number + 1) flushed words) e).0
proved-at g file number (last ∷ flushed) (word ∷ words) (suc i) same e low =
    let there : number + suc i ≡ number + 1 + i = omega arith in
    rw there (proved-at g file (number + 1) flushed words i (omega (arith, same)) (and_parts (is_proved g file number last word) (are_proved g file (number + 1) flushed words) e).1 (omega (arith, low)))

-- ---- what is known of a live table that is proved

module _ (g : Geometry) (file flushed words : List ℕ) (same : length flushed ≡ length words) (e : are_proved g file 0 flushed words ≡ true) where
  here : (i : ℕ) → i < length words → is_proved g file i (slice_index flushed i) (slice_index words i) ≡ true
  here i low =
      let none : 0 + i ≡ i = omega arith in
      rw none at (proved-at g file 0 flushed words i same e low)

  -- the word of a zone, what its state allows, and that it is apart
  front : (i : ℕ) → i < length words → ((is_word g (slice_index words i) && may_hold (entry_of (slice_index words i)).state g.capacity (entry_of (slice_index words i)).written) && is_apart (flushed_at flushed i) (entry_of (slice_index words i))) ≡ true
  front i low = (and_parts _ _ (here i low)).0

  word-at : (i : ℕ) → i < length words → IsWord g (slice_index words i)
  word-at i low =
      let is = and_parts _ _ (and_parts _ _ (and_parts _ _ (front i low)).0).0 in
      record { said = eqb-true _ _ is.0; within = leb-true _ _ is.1 }

  entry-is : (i : ℕ) → i < length words → entry_at (map entry_of words) i ≡ entry_of (slice_index words i)
  entry-is i low = get_or-map entry_of words i 0 no_entry low

  hold-at : (i : ℕ) → i < length (map entry_of words) → Holds g (entry_at (map entry_of words) i)
  hold-at i low =
      let low' : i < length words = omega (arith, low, length-map words entry_of) in
      rw (entry-is i low') (and_parts _ _ (and_parts _ _ (front i low')).0).1

  pub proved-table : are_few g (map entry_of words) ≡ true → IsTable g words
  proved-table few = record {
    each = all-by (IsWord g) words 0 word-at;
    hold = all-by (Holds g) (map entry_of words) no_entry hold-at;
    few = record { active = leb-true _ _ (and_parts _ _ few).0; open_zones = leb-true _ _ (and_parts _ _ few).1 };
  }

  pub proved-apart : AreApart flushed (map entry_of words)
  proved-apart i low =
      let low' : i < length words = omega (arith, low, length-map words entry_of) in
      rw (entry-is i low') (and_parts _ _ (front i low')).1

  pub proved-summed : length words ≡ g.zones → AreSummed g file flushed (map entry_of words)
  proved-summed count i low few =
      let low' : i < length words = omega (arith, low, count) in
      subst (λ (entry : Entry). is_summed g file i (flushed_at flushed i) entry ≡ true) (sym (entry-is i low')) (and_parts _ _ (here i low')).1

-- a table has the sums of its own zones
pub summed-self : (g : Geometry) (file words : List ℕ) → length words ≡ g.zones → AreSummed g file words (map entry_of words)
summed-self g file words count number low few =
    let is : entry_at (map entry_of words) number ≡ flushed_at words number = get_or-map entry_of words number 0 no_entry (omega (arith, low, count)) in
    subst (λ (entry : Entry). is_summed g file number (flushed_at words number) entry ≡ true) (sym is) (summed-flushed g file number (flushed_at words number) (flushed_at words number) refl refl refl)

-- ---- a file that is served proves its live table

module _ (g : Geometry) {boot : Boot} (file : List ℕ) (entries : List Entry) (live flushed : ℕ) (words : Words) (was : IsServed g boot file entries live flushed words) (small : g.capacity < 2 ^ 32)
    (count : length entries ≡ g.zones) (within : AreWithin g entries) (apart : AreApart words.safe entries) (table : IsTable g (map word_of entries)) where
  zone-proved : (i : ℕ) → i < length (map word_of entries) → is_proved g file (0 + i) (slice_index words.safe i) (slice_index (map word_of entries) i) ≡ true
  zone-proved i low =
      let low' : i < length entries = omega (arith, low, length-map entries word_of) in
      let entry = entry_at entries i in
      let word = word_of entry in
      let none : 0 + i ≡ i = omega arith in
      let is : slice_index (map word_of entries) i ≡ word = get_or-map word_of entries i no_entry 0 low' in
      let few = within-at g entries i no_entry within low' in
      let says = word-says entry (omega (arith, few, small)) in
      let fits : IsWord g word = subst (λ (w : ℕ). IsWord g w) is (all-at (IsWord g) (map word_of entries) i 0 table.each low) in
      let again : entry_at (map entry_of (map word_of entries)) i ≡ entry_of word = get_or-map entry_of (map word_of entries) i 0 no_entry low ∙ ap entry_of is in
      let holds : Holds g (entry_of word) = subst (λ (x : Entry). Holds g x) again (all-at (Holds g) (map entry_of (map word_of entries)) i no_entry table.hold (omega (arith, low, length-map (map word_of entries) entry_of))) in
      let near : is_apart (flushed_at words.safe i) (entry_of word) ≡ true = apart-more (flushed_at words.safe i) entry (entry_of word) says.2 (omega (arith, says.1)) (apart i low') in
      let has = was.summed i (omega (arith, low', count)) few in
      let sum = sum-said g file i (slice_index words.safe i) entry (omega (arith, few, small)) has in
      let summed : is_summed g file i (flushed_at words.safe i) (entry_of word) ≡ true = summed-same g file i (flushed_at words.safe i) entry (entry_of word) says.2 says.1 sum has in
      rw (none, is) (both _ _ (both _ _ (both _ _ (both _ _ (eq-eqb _ _ fits.said) (le-leb _ _ fits.within)) holds) near) summed)

  pub served-proves : proves_live g file ≡ true
  served-proves =
      let safe : length words.safe ≡ g.zones = length-safe g file entries live flushed words was in
      let all = proved-all g file 0 words.safe (map word_of entries) (omega (arith, safe, count, length-map entries word_of)) zone-proved in
      let few : are_few g (map entry_of (map word_of entries)) ≡ true = both _ _ (le-leb _ _ table.few.active) (le-leb _ _ table.few.open_zones) in
      rw (was.live_is, was.flushed_is, was.live_words, was.safe_words) (both _ _ all few)
