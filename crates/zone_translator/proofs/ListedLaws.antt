-- A list of blocks that are written or trimmed together: what a batch of its first blocks tells, and what is left.
use Rattle.std.proofs.Common.{◌≡◌, ◌≢◌, ℕ, zero, suc, ◌+◌, ◌<◌, ◌≤◌, Bool, true, false, ◌||◌, eqb, List, [], ◌∷◌, ◌++◌, map, length, take, drop, set, get_or, Some, refl, sym, ap, ◌∙◌, arith}
use Rattle.std.specs.Prelude.{nat_eq}
use Rattle.std.specs.List.{AllByRecursion, IsDistinct}
use Rattle.std.proofs.lemmas.Bool.{eq-eqb}
use Rattle.std.proofs.lemmas.List.{drop-drop, get_or-drop, get_or-set_other, get_or-set_same, set_comm}
use Rattle.batch_log.specs.declared.header.Entry.{Entry}
use Rattle.batch_log.specs.Log.{data_count, one_unless}
use Rattle.logical_map.specs.declared.place.Place.{Place}
use Rattle.logical_map.specs.declared.place.Place.TheVariants as places
use Rattle.drive_array.specs.Records.{entry_content, entry_records, over, shown, shown_content}
use Rattle.zone_choice.specs.Builder.{entry_place, placed}
use Rattle.zone_cleaner.specs.Clean.{trims}
use Rattle.zone_cleaner.proofs.MoveLaws.{length-placed}
use Rattle.zone_translator.specs.Batches.{names}
use Rattle.zone_translator.specs.Flat.{Put, put_all}
use Rattle.zone_translator.specs.Listed.{NamesAll, blocks_named, entry_data, last_block, puts_of}

-- ---- blocks that are written one after the other

put-later : (array : List (List ℕ)) (b : ℕ) (x : List ℕ) (ps : List Put) → AllByRecursion (λ (p : Put). p.block ≢ b) ps → put_all (set array b x) ps ≡ set (put_all array ps) b x
put-later array b x [] apart = refl
put-later array b x (p ∷ ps) apart =
    ap (λ (a : List (List ℕ)). put_all a ps) (set_comm array b p.block x p.content (λ e. apart.0 (sym e)))
    ∙ put-later (set array p.block p.content) b x ps apart.1

-- those of some entries are apart from a block that none of them names
apart-puts : (block_bytes b : ℕ) (es : List Entry) (bodies : List (List ℕ)) → AllByRecursion (λ y. eqb b y ≡ false) (map (λ (e : Entry). e.block) es) → AllByRecursion (λ (p : Put). p.block ≢ b) (puts_of block_bytes es bodies)
apart-puts block_bytes b [] bodies all = tt
apart-puts block_bytes b (e ∷ es) bodies all = (ne, apart-puts block_bytes b es (drop (one_unless e.trim) bodies) all.1)
  where
    ne : e.block ≢ b
    ne same = let no : false ≡ true = sym all.0 ∙ eq-eqb b e.block (sym same) in absurd (cc)

shown-entry : (block_bytes k : ℕ) (body : List (List ℕ)) (trim : Bool) → shown_content block_bytes (entry_content trim body k) ≡ entry_data block_bytes trim (drop k body)
shown-entry block_bytes k body true = refl
shown-entry block_bytes k body false = let here : k + 0 ≡ k = omega arith in sym (get_or-drop k body 0 [] ∙ ap (λ (i : ℕ). get_or body i []) here)

-- what the records of a batch tell is what its blocks are
pub over-puts : (block_bytes sequence k : ℕ) (body : List (List ℕ)) (es : List Entry) (array : List (List ℕ)) → IsDistinct nat_eq (map (λ (e : Entry). e.block) es)
    → over (shown block_bytes) (entry_records sequence body 0 0 k es) array ≡ put_all array (puts_of block_bytes es (drop k body))
unfolding IsDistinct
over-puts block_bytes sequence k body [] array distinct = refl
over-puts block_bytes sequence k body (e ∷ es) array distinct =
    let rest = over-puts block_bytes sequence (k + one_unless e.trim) body es array distinct.1 in
    let more : drop (one_unless e.trim) (drop k body) ≡ drop (k + one_unless e.trim) body = drop-drop (one_unless e.trim) k body in
    let content = entry_data block_bytes e.trim (drop k body) in
    rw (shown-entry block_bytes k body e.trim, more)
    (ap (λ (a : List (List ℕ)). set a e.block content) rest
    ∙ sym (put-later array e.block content (puts_of block_bytes es (drop (k + one_unless e.trim) body)) (apart-puts block_bytes e.block es (drop (k + one_unless e.trim) body) distinct.0)))

-- ---- the first of them, and those that are left

-- what one entry takes of the first data
record TakesFirst (block_bytes : ℕ) (trim : Bool) (count : ℕ) (bodies : List (List ℕ)) : Type 0 where
  pub here : entry_data block_bytes trim (take (one_unless trim + count) bodies) ≡ entry_data block_bytes trim bodies
  pub rest : drop (one_unless trim) (take (one_unless trim + count) bodies) ≡ take count (drop (one_unless trim) bodies)

takes-first : (block_bytes : ℕ) (trim : Bool) (count : ℕ) (bodies : List (List ℕ)) → TakesFirst block_bytes trim count bodies
takes-first block_bytes true count bodies = let e : 0 + count ≡ count = omega arith in record { here = refl; rest = rw e refl }
takes-first block_bytes false zero [] = record { here = refl; rest = refl }
takes-first block_bytes false (suc count) [] = let e : 1 + suc count ≡ suc (suc count) = omega arith in record { here = rw e refl; rest = rw e refl }
takes-first block_bytes false count (x ∷ xs) = let e : 1 + count ≡ suc count = omega arith in record { here = rw e refl; rest = rw e refl }

pub puts-front : (block_bytes n : ℕ) (es : List Entry) (bodies : List (List ℕ)) → puts_of block_bytes (take n es) (take (data_count (take n es)) bodies) ≡ take n (puts_of block_bytes es bodies)
puts-front block_bytes zero es bodies = refl
puts-front block_bytes (suc n) [] bodies = refl
puts-front block_bytes (suc n) (e ∷ es) bodies =
    let first = takes-first block_bytes e.trim (data_count (take n es)) bodies in
    rw (first.here, first.rest) (ap (λ (ps : List Put). record { block = e.block; content = entry_data block_bytes e.trim bodies } ∷ ps) (puts-front block_bytes n es (drop (one_unless e.trim) bodies)))

pub puts-rest : (block_bytes n : ℕ) (es : List Entry) (bodies : List (List ℕ)) → puts_of block_bytes (drop n es) (drop (data_count (take n es)) bodies) ≡ drop n (puts_of block_bytes es bodies)
puts-rest block_bytes zero es bodies = refl
puts-rest block_bytes (suc n) [] bodies = refl
puts-rest block_bytes (suc n) (e ∷ es) bodies =
    rw (← drop-drop (data_count (take n es)) (one_unless e.trim) bodies) (puts-rest block_bytes n es (drop (one_unless e.trim) bodies))

pub length-puts : (block_bytes : ℕ) (es : List Entry) (bodies : List (List ℕ)) → length (puts_of block_bytes es bodies) ≡ length es
length-puts block_bytes [] bodies = refl
length-puts block_bytes (e ∷ es) bodies = ap suc (length-puts block_bytes es (drop (one_unless e.trim) bodies))

-- they are written to the blocks that are named
pub blocks-put : (block_bytes : ℕ) (es : List Entry) (bodies : List (List ℕ)) → map (λ (p : Put). p.block) (puts_of block_bytes es bodies) ≡ blocks_named es
blocks-put block_bytes [] bodies = refl
blocks-put block_bytes (e ∷ es) bodies = ap (λ (bs : List ℕ). e.block ∷ bs) (blocks-put block_bytes es (drop (one_unless e.trim) bodies))

-- one part after another
pub put-more : (array : List (List ℕ)) (ps qs : List Put) → put_all (put_all array ps) qs ≡ put_all array (ps ++ qs)
put-more array [] qs = refl
put-more array (p ∷ ps) qs = put-more (set array p.block p.content) ps qs

-- ---- what is named of the first entries

pub few-data : (n : ℕ) (es : List Entry) → data_count (take n es) ≤ data_count es
few-data zero es = omega arith
few-data (suc n) [] = omega arith
few-data (suc n) (e ∷ es) = omega (arith, few-data n es)

pub data_next : (n : ℕ) (es : List Entry) (d : Entry) → n < length es → data_count (take (suc n) es) ≡ data_count (take n es) + one_unless (get_or es n d).trim
data_next n [] d lt = absurd (omega (arith, lt))
data_next zero (e ∷ es) d lt = omega arith
data_next (suc n) (e ∷ es) d lt = omega (arith, data_next n es d (omega (arith, lt)))

-- one entry more, with data or without
pub take-trim : (n : ℕ) (es : List Entry) (none : Entry) → n < length es → (get_or es n none).trim ≡ true → data_count (take (n + 1) es) ≡ data_count (take n es)
take-trim n es none lt is = let next = data_next n es none lt in let off : one_unless (get_or es n none).trim ≡ 0 = ap one_unless is in let step : n + 1 ≡ suc n = omega arith in rw step (omega (arith, next, off))

pub take-full : (n : ℕ) (es : List Entry) (none : Entry) → n < length es → (get_or es n none).trim ≡ false → data_count (take (n + 1) es) ≡ data_count (take n es) + 1
take-full n es none lt is = let next = data_next n es none lt in let one : one_unless (get_or es n none).trim ≡ 1 = ap one_unless is in let step : n + 1 ≡ suc n = omega arith in rw step (omega (arith, next, one))

pub all-front : (P : Entry → Type 0) (n : ℕ) (es : List Entry) → AllByRecursion P es → AllByRecursion P (take n es)
all-front P zero es all = tt
all-front P (suc n) [] all = tt
all-front P (suc n) (e ∷ es) all = (all.0, all-front P n es all.1)

other-front : (b n : ℕ) (es : List Entry) → AllByRecursion (λ y. eqb b y ≡ false) (map (λ (e : Entry). e.block) es) → AllByRecursion (λ y. eqb b y ≡ false) (map (λ (e : Entry). e.block) (take n es))
other-front b zero es all = tt
other-front b (suc n) [] all = tt
other-front b (suc n) (e ∷ es) all = (all.0, other-front b n es all.1)

pub distinct-front : (n : ℕ) (es : List Entry) → IsDistinct nat_eq (map (λ (e : Entry). e.block) es) → IsDistinct nat_eq (map (λ (e : Entry). e.block) (take n es))
unfolding IsDistinct
distinct-front zero es all = tt
distinct-front (suc n) [] all = tt
distinct-front (suc n) (e ∷ es) all = (other-front e.block n es all.0, distinct-front n es all.1)

-- ---- the last of them

or-true : (b : Bool) → b || true ≡ true
or-true true = refl
or-true false = refl

pub names-last_block : (es : List Entry) → 1 ≤ length es → names (last_block es) es ≡ true
names-last_block [] some = absurd (omega (arith, some))
names-last_block (e ∷ []) some = ap (λ (b : Bool). b || false) (eq-eqb e.block e.block refl)
names-last_block (e ∷ f ∷ es) some = rw (names-last_block (f ∷ es) (omega arith)) (or-true _)

-- it is also the last of those that are left
pub last-left : (n : ℕ) (es : List Entry) → n < length es → last_block (drop n es) ≡ last_block es
last-left zero es lt = refl
last-left (suc n) [] lt = absurd (omega (arith, lt))
last-left (suc n) (e ∷ []) lt = absurd (omega (arith, lt))
last-left (suc n) (e ∷ f ∷ es) lt = last-left n (f ∷ es) (omega (arith, lt))

-- ---- the places of the blocks of a batch

entry-trims : (trim : Bool) (header address : ℕ) → trims (entry_place trim header address) ≡ Some trim
entry-trims true header address = refl
entry-trims false header address = refl

keeps-named : (b : ℕ) (x : Place) (rest : List Place) (es : List Entry) → AllByRecursion (λ y. eqb b y ≡ false) (map (λ (e : Entry). e.block) es)
    → AllByRecursion (λ (e : Entry). trims (get_or rest e.block places.None) ≡ Some e.trim) es → AllByRecursion (λ (e : Entry). trims (get_or (set rest b x) e.block places.None) ≡ Some e.trim) es
keeps-named b x rest [] apart all = tt
keeps-named b x rest (e ∷ es) apart all = (ap trims (get_or-set_other rest b e.block x places.None ne) ∙ all.0, keeps-named b x rest es apart.1 all.1)
  where
    ne : e.block ≢ b
    ne same = let no : false ≡ true = sym apart.0 ∙ eq-eqb b e.block (sym same) in absurd (cc)

pub names-all-placed : (header address : ℕ) (es : List Entry) (all : List Place) → IsDistinct nat_eq (map (λ (e : Entry). e.block) es) → AllByRecursion (λ (e : Entry). e.block < length all) es → NamesAll es all (placed header address es all)
unfolding IsDistinct
names-all-placed header address [] all distinct inside = record { named = tt; others = λ block apart. refl }
names-all-placed header address (e ∷ es) all distinct inside =
    let rest = placed header (address + one_unless e.trim) es all in
    let before = names-all-placed header (address + one_unless e.trim) es all distinct.1 inside.1 in
    let here = entry_place e.trim header address in
    let long : e.block < length rest = omega (arith, inside.0, length-placed header (address + one_unless e.trim) es all) in
    record {
      named = (ap trims (get_or-set_same rest e.block here places.None long) ∙ entry-trims e.trim header address, keeps-named e.block here rest es distinct.0 before.named);
      others = λ block apart. ap trims (get_or-set_other rest e.block block here places.None (λ same. apart.0 (sym same))) ∙ before.others block apart.1;
    }
