-- A Move of gathered records: it says what the array has, and no gathered block is in the victim after it.
use Rattle.std.proofs.Common.{◌≡◌, ◌≢◌, ℕ, ◌+◌, ◌-◌, ◌*◌, ◌/◌, ◌<◌, ◌≤◌, Bool, true, false, cond, eqb, List, [], ◌∷◌, ◌++◌, length, set, get_or, take, drop, replicate, Option, Some, None, refl, sym, ap, ◌∙◌, arith, append_assoc}
use Rattle.std.specs.Prelude.{nat_eq}
use Rattle.std.specs.List.{AllByRecursion, IsDistinct}
use Rattle.std.proofs.lemmas.Bool.{eq-eqb, ne_eqb}
use Rattle.std.proofs.lemmas.List.{drop-set-lt, length-append, length-set, set-get_or}
use Rattle.std.proofs.lemmas.Nat.{div-mul-add}
use Rattle.batch_log.specs.declared.header.Entry.{Entry}
use Rattle.batch_log.specs.Log.{data_count, one_unless}
use Rattle.logical_map.specs.Live.{lies_in}
use Rattle.logical_map.specs.declared.place.Place.{Place}
use Rattle.zone_choice.specs.Builder.{entry_place, placed}
use Rattle.drive_array.specs.Records.{entry_records, over, shown, shown_content}
use Rattle.zone_choice.proofs.BuilderLaws.{blocks_named, placed-first}
use Rattle.zone_cleaner.specs.LiveRecords.{LiveRecord, gathered_data, gathered_entries, gathered_entry, records_in, without_all, without_block}
use Rattle.zone_cleaner.proofs.RecordLaws.{SayTheArray, left-set, live_in, live_in-set, taken-set}

-- ---- it says what the array has

get_or-middle : (front rest : List (List ℕ)) (x : List ℕ) → get_or (front ++ x ∷ rest) (length front) [] ≡ x
get_or-middle [] rest x = refl
get_or-middle (y ∷ front) rest x = get_or-middle front rest x

-- records that say what an array has already
over-same : (array : List (List ℕ)) (bytes sequence zone header k : ℕ) (front body : List (List ℕ)) (rs : List LiveRecord) → SayTheArray array bytes rs → k ≡ length front → body ≡ front ++ gathered_data rs
    → over (shown bytes) (entry_records sequence body zone header k (gathered_entries rs)) array ≡ array
over-same array bytes sequence zone header k front body [] says at is = refl
over-same array bytes sequence zone header k front body (r ∷ rs) says at is =
    one (λ k' front' at' is'. over-same array bytes sequence zone header k' front' body rs says.1 at' is') r.block r.content says.0 is
  where
    Again : Type 0
    Again = (k' : ℕ) (front' : List (List ℕ)) → k' ≡ length front' → body ≡ front' ++ gathered_data rs → over (shown bytes) (entry_records sequence body zone header k' (gathered_entries rs)) array ≡ array

    one : Again → (block : ℕ) (c : Option (List ℕ)) → get_or array block [] ≡ shown_content bytes c → body ≡ front ++ gathered_data (record { block = block; content = c } ∷ rs)
        → over (shown bytes) (entry_records sequence body zone header k (gathered_entry block c ∷ gathered_entries rs)) array ≡ array
    one again block None same e =
        let next : k + 0 ≡ length front = omega (arith, at) in
        ap (λ (xs : List (List ℕ)). set xs block (replicate bytes 0)) (again (k + 0) front next e)
        ∙ ap (λ (c : List ℕ). set array block c) (sym same) ∙ set-get_or array block []
    one again block (Some content) same e =
        let rest = gathered_data rs in
        let here : get_or body k [] ≡ content = rw (at, e) (get_or-middle front rest content) in
        let more : body ≡ (front ++ content ∷ []) ++ rest = e ∙ sym (append_assoc front (content ∷ []) rest) in
        let next : k + 1 ≡ length (front ++ content ∷ []) = omega (arith, at, length-append front (content ∷ [])) in
        ap (λ (xs : List (List ℕ)). set xs block (get_or body k [])) (again (k + 1) (front ++ content ∷ []) next more)
        ∙ ap (λ (c : List ℕ). set array block c) (here ∙ sym same) ∙ set-get_or array block []

-- records that say what the array has leave it
pub move-same : (array : List (List ℕ)) (bytes sequence : ℕ) (rs : List LiveRecord) → SayTheArray array bytes rs → over (shown bytes) (entry_records sequence (gathered_data rs) 0 0 0 (gathered_entries rs)) array ≡ array
move-same array bytes sequence rs says = over-same array bytes sequence 0 0 0 [] (gathered_data rs) rs says refl refl

-- ---- no gathered block is in the victim after it

entry-block : (block : ℕ) (c : Option (List ℕ)) → (gathered_entry block c).block ≡ block
entry-block block None = refl
entry-block block (Some content) = refl

-- all of them
pub without-own : (rs : List LiveRecord) → without_all (gathered_entries rs) rs ≡ []
without-own [] = refl
without-own (r ∷ rs) =
    let here : eqb (gathered_entry r.block r.content).block r.block ≡ true = eq-eqb (gathered_entry r.block r.content).block r.block (entry-block r.block r.content) in
    ap (λ (b : Bool). without_all (gathered_entries rs) (cond b rs (r ∷ without_block (gathered_entry r.block r.content).block rs))) here ∙ without-own rs

-- the addresses of a batch are in another zone
abbrev pub Elsewhere : ℕ → ℕ → ℕ → ℕ → Type 0
Elsewhere size zone from end = (address : ℕ) → from ≤ address → address < end → eqb (address / size) zone ≡ false

-- the blocks of another zone are elsewhere
pub elsewhere : (size zone other written end : ℕ) → other ≢ zone → written + end ≤ size → Elsewhere size zone (other * size + written) (other * size + (written + end))
elsewhere size zone other written end ne le address from below =
    let k = address - other * size in
    let split : address ≡ other * size + k = omega (arith, from) in
    let at : (other * size + k) / size ≡ other = div-mul-add other size k (omega (arith, below, le, from)) in
    rw split (ne_eqb ((other * size + k) / size) zone (λ same. ne (sym at ∙ same)))

-- a place there is away from a zone
pub entry-away : (size zone header address end : ℕ) (t : Bool) → Elsewhere size zone header end → header < address → address + one_unless t ≤ end → header < end → lies_in size zone (entry_place t header address) ≡ false
entry-away size zone header address end true away lt le low = away header (omega arith) low
entry-away size zone header address end false away lt le low = away address (omega arith) (omega (arith, le))

-- What placing the blocks of a batch elsewhere does to the zone's records: those of its blocks are gone.
pub record PlacedAway (array : List (List ℕ)) (size zone cursor : ℕ) (es : List Entry) (old new : List Place) : Type 0 where
  pub taken : records_in array size zone 0 (take cursor new) ≡ without_all es (records_in array size zone 0 (take cursor old))
  pub fewer : live_in size zone new ≤ live_in size zone old
  pub left : live_in size zone (drop cursor new) ≤ live_in size zone (drop cursor old)

-- and so are all places of entries
pub placed-away : (array : List (List ℕ)) (size zone cursor header address end : ℕ) (es : List Entry) (all : List Place) → IsDistinct nat_eq (blocks_named es) → Elsewhere size zone header end → header < address → address + data_count es ≤ end → header < end
    → PlacedAway array size zone cursor es all (placed header address es all)
unfolding IsDistinct
placed-away array size zone cursor header address end [] all distinct away lt le low = record { taken = refl; fewer = omega arith; left = omega arith }
placed-away array size zone cursor header address end (e ∷ es) all distinct away lt le low =
    let p = entry_place e.trim header address in
    let one : lies_in size zone p ≡ false = entry-away size zone header address end e.trim away lt (omega (arith, le)) low in
    let now = set all e.block p in
    let rest = placed-away array size zone cursor header (address + one_unless e.trim) end es now distinct.1 away (omega (arith, lt)) (omega (arith, le)) low in
    rw (placed-first header address e es all distinct) (record {
      taken = rest.taken ∙ ap (without_all es) (taken-set array size zone cursor e.block all p one);
      fewer = omega (arith, rest.fewer, live_in-set size zone e.block all p one);
      left = omega (arith, rest.left, left-set size zone cursor e.block all p one);
    })

-- places from a cursor on stay, where all blocks of the batch are before it
pub placed-rest : (cursor header address : ℕ) (es : List Entry) (all : List Place) → AllByRecursion (λ (e : Entry). e.block < cursor) es → drop cursor (placed header address es all) ≡ drop cursor all
placed-rest cursor header address [] all below = refl
placed-rest cursor header address (e ∷ es) all below =
    drop-set-lt cursor (placed header (address + one_unless e.trim) es all) e.block (entry_place e.trim header address) below.0 ∙ placed-rest cursor header (address + one_unless e.trim) es all below.1

-- there are as many places
pub length-placed : (header address : ℕ) (es : List Entry) (all : List Place) → length (placed header address es all) ≡ length all
length-placed header address [] all = refl
length-placed header address (e ∷ es) all = length-set (placed header (address + one_unless e.trim) es all) e.block (entry_place e.trim header address) ∙ length-placed header (address + one_unless e.trim) es all
