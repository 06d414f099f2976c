-- A batch of blocks that follow one another, and what it changes.
use Rattle.std.proofs.Common.{◌≡◌, ◌≢◌, ◌⊎◌, ℕ, zero, suc, ◌+◌, ◌<◌, ◌≤◌, ◌^◌, Bool, true, false, eqb, List, [], ◌∷◌, map, length, take, drop, set, get_or, replicate, Option, Some, refl, sym, ap, ◌∙◌, inl, inr, arith}
use Rattle.std.specs.Prelude.{nat_eq}
use Rattle.std.specs.List.{AllByRecursion, IsDistinct}
use Rattle.std.proofs.lemmas.Bool.{cases_lt, ne_eqb}
use Rattle.std.proofs.lemmas.List.{drop_more, get_or-set_other, get_or-set_same, length-set, take_all}
use Rattle.batch_log.specs.declared.header.Entry.{Entry}
use Rattle.batch_log.specs.Header.{IsHeading, IsSize, entry_room}
use Rattle.batch_log.specs.Log.{Batch, data_count, one_unless, zero_block}
use Rattle.logical_map.specs.Places.{IsReady, MapView}
use Rattle.logical_map.specs.declared.place.Place.{Place}
use Rattle.logical_map.specs.declared.place.Place.TheVariants as places
use Rattle.drive_array.specs.Records.{Record, entry_records, over, record_of, shown}
use Rattle.zone_choice.specs.Builder.{entries_from, entry_place, placed}
use Rattle.zone_choice.specs.Changes.{told_over}
use Rattle.zone_choice.specs.Tables.{AreReserved}
use Rattle.zone_choice.proofs.AgreementLaws.{extended-same}
use Rattle.zone_translator.specs.Batches.{host_heading}
use Rattle.zone_cleaner.specs.Clean.{trims}
use Rattle.zone_translator.specs.Changes.{Names}
use Rattle.zone_translator.specs.Flat.{replaced}
use Rattle.zone_translator.proofs.FlatLaws.{replaced-none, set-replaced}

-- as many entries as blocks
pub length-entries : (trim : Bool) (first count : ℕ) → length (entries_from trim first count) ≡ count
length-entries trim first zero = refl
length-entries trim first (suc count) = ap suc (length-entries trim (first + 1) count)

-- each with data
pub data_count-entries : (first count : ℕ) → data_count (entries_from false first count) ≡ count
data_count-entries first zero = refl
data_count-entries first (suc count) = omega (arith, data_count-entries (first + 1) count)

-- or none
pub data_count-trims : (first count : ℕ) → data_count (entries_from true first count) ≡ 0
data_count-trims first zero = refl
data_count-trims first (suc count) = omega (arith, data_count-trims (first + 1) count)

-- the blocks that they name are below a bound
pub entries-below : (trim : Bool) (first count limit : ℕ) → first + count ≤ limit → AllByRecursion (λ (e : Entry). e.block < limit) (entries_from trim first count)
entries-below trim first zero limit le = tt
entries-below trim first (suc count) limit le = (omega arith, entries-below trim (first + 1) count limit (omega arith))

entries-other : (trim : Bool) (block first count : ℕ) → block < first → AllByRecursion (λ y. eqb block y ≡ false) (map (λ (e : Entry). e.block) (entries_from trim first count))
entries-other trim block first zero lt = tt
entries-other trim block first (suc count) lt = (ne_eqb block first (λ e. omega arith), entries-other trim block (first + 1) count (omega arith))

entries-distinct : (trim : Bool) (first count : ℕ) → IsDistinct nat_eq (map (λ (e : Entry). e.block) (entries_from trim first count))
unfolding IsDistinct
entries-distinct trim first zero = tt
entries-distinct trim first (suc count) = (entries-other trim first (first + 1) count (omega arith), entries-distinct trim (first + 1) count)

-- a heading of ours can be encoded
pub host-heading : (block_bytes size sequence : ℕ) (trim : Bool) (first count : ℕ) → IsSize size → count ≤ entry_room block_bytes → sequence < 2 ^ 64 → first + count ≤ 2 ^ 63 → IsHeading block_bytes (host_heading size sequence trim first count)
host-heading block_bytes size sequence trim first count is_size room short le = record {
  room = omega (arith, length-entries trim first count);
  sequence = short;
  source = omega arith;
  host = λ e. refl;
  size = is_size;
  blocks = entries-below trim first count (2 ^ 63) le;
  distinct = entries-distinct trim first count;
}

-- a batch of the host
abbrev pub host_batch : ℕ → ℕ → Bool → ℕ → ℕ → List (List ℕ) → Batch
host_batch size sequence trim first count body = record { heading = host_heading size sequence trim first count; body = body }

-- ---- what is told of the blocks of the batch

abbrev values : {X : Type 0} → (Option Record → X) → ℕ → List (List ℕ) → Bool → ℕ → ℕ → ℕ → List X
values f sequence body trim k first zero = []
values f sequence body trim k first (suc count) = f (Some (record_of sequence body 0 0 k (record { block = first; trim = trim }))) ∷ values f sequence body trim (k + one_unless trim) (first + 1) count

over-entries : {X : Type 0} (f : Option Record → X) (sequence : ℕ) (body : List (List ℕ)) (trim : Bool) (k first count : ℕ) (xs : List X) → first + count ≤ length xs
    → over f (entry_records sequence body 0 0 k (entries_from trim first count)) xs ≡ replaced xs first (values f sequence body trim k first count)
over-entries f sequence body trim k first zero xs le = sym (replaced-none xs first)
over-entries {X} f sequence body trim k first (suc count) xs le =
    let here = f (Some (record_of sequence body 0 0 k (record { block = first; trim = trim }))) in
    ap (λ (ys : List X). set ys first here) (over-entries f sequence body trim (k + one_unless trim) (first + 1) count xs (omega arith))
    ∙ set-replaced xs first (first + 1) here (values f sequence body trim (k + one_unless trim) (first + 1) count) (omega arith) (omega arith)

values-data : (size sequence : ℕ) (body : List (List ℕ)) (k first count : ℕ) → k + count ≤ length body → values (shown size) sequence body false k first count ≡ take count (drop k body)
values-data size sequence body k first zero le = refl
values-data size sequence body k first (suc count) le =
    rw (drop_more body k [] (omega arith)) (ap (λ (ys : List (List ℕ)). get_or body k [] ∷ ys) (values-data size sequence body (k + 1) (first + 1) count (omega arith)))

values-trims : (size sequence : ℕ) (body : List (List ℕ)) (k first count : ℕ) → values (shown size) sequence body true k first count ≡ replicate count (zero_block size)
values-trims size sequence body k first zero = refl
values-trims size sequence body k first (suc count) = ap (λ (ys : List (List ℕ)). zero_block size ∷ ys) (values-trims size sequence body (k + 0) (first + 1) count)

-- the array has the batch's data
pub told-data : (block_bytes size sequence first count : ℕ) (body : List (List ℕ)) (xs : List (List ℕ)) → length body ≡ count → length xs ≡ size → first + count ≤ size → told_over block_bytes (host_batch size sequence false first count body) xs ≡ replaced xs first body
told-data block_bytes size sequence first count body xs long same le =
    rw (extended-same (zero_block block_bytes) size xs same)
    (over-entries (shown block_bytes) sequence body false 0 first count xs (omega (arith, same, le))
    ∙ ap (λ (ys : List (List ℕ)). replaced xs first ys) (values-data block_bytes sequence body 0 first count (omega (arith, long)) ∙ take_all count body (omega (arith, long))))

-- or zeros
pub told-trims : (block_bytes size sequence first count : ℕ) (body : List (List ℕ)) (xs : List (List ℕ)) → length xs ≡ size → first + count ≤ size
    → told_over block_bytes (host_batch size sequence true first count body) xs ≡ replaced xs first (replicate count (zero_block block_bytes))
told-trims block_bytes size sequence first count body xs same le =
    rw (extended-same (zero_block block_bytes) size xs same)
    (over-entries (shown block_bytes) sequence body true 0 first count xs (omega (arith, same, le))
    ∙ ap (λ (ys : List (List ℕ)). replaced xs first ys) (values-trims block_bytes sequence body 0 first count))

-- ---- the places of the blocks of the batch

length-placed : (trim : Bool) (header address first count : ℕ) (all : List Place) → length (placed header address (entries_from trim first count) all) ≡ length all
length-placed trim header address first zero all = refl
length-placed trim header address first (suc count) all =
    length-set (placed header (address + one_unless trim) (entries_from trim (first + 1) count) all) first (entry_place trim header address) ∙ length-placed trim header (address + one_unless trim) (first + 1) count all

entry-trims : (trim : Bool) (header address : ℕ) → trims (entry_place trim header address) ≡ Some trim
entry-trims true header address = refl
entry-trims false header address = refl

-- one entry before others
names-more : (trim : Bool) (header address first count : ℕ) (rest all : List Place) → first < length rest → Names trim all (first + 1) count rest → Names trim all first (suc count) (set rest first (entry_place trim header address))
names-more trim header address first count rest all lt more = record { named = named; others = others }
  where
    here : Place
    here = entry_place trim header address

    apart : (block : ℕ) → block ≢ first → get_or (set rest first here) block places.None ≡ get_or rest block places.None
    apart block ne = get_or-set_other rest first block here places.None ne

    named : (block : ℕ) → first ≤ block → block < first + suc count → trims (get_or (set rest first here) block places.None) ≡ Some trim
    named block low high = elim (cases_lt first block) as (λ _. trims (get_or (set rest first here) block places.None) ≡ Some trim) [
      | inl above ↦ rw (apart block (λ e. omega (arith, above, e))) (more.named block (omega (arith, above)) (omega (arith, high)))
      | inr below ↦ (
          let same : block ≡ first = omega (arith, low, below) in
          rw (same, get_or-set_same rest first here places.None lt) (entry-trims trim header address)
          )
    ]

    others : (block : ℕ) → (block < first) ⊎ (first + suc count ≤ block) → trims (get_or (set rest first here) block places.None) ≡ trims (get_or all block places.None)
    others block (inl low) = ap trims (apart block (λ e. omega (arith, low, e))) ∙ more.others block (inl (omega (arith, low)))
    others block (inr high) = ap trims (apart block (λ e. omega (arith, high, e))) ∙ more.others block (inr (omega (arith, high)))

-- its blocks have their places
pub names-placed : (trim : Bool) (header address first count : ℕ) (all : List Place) → first + count ≤ length all → Names trim all first count (placed header address (entries_from trim first count) all)
names-placed trim header address first zero all le = record { named = λ block low high. absurd (omega arith); others = λ block out. refl }
names-placed trim header address first (suc count) all le =
    names-more trim header address first count (placed header (address + one_unless trim) (entries_from trim (first + 1) count) all) all
    (omega (arith, length-placed trim header (address + one_unless trim) (first + 1) count all, le)) (names-placed trim header (address + one_unless trim) (first + 1) count all (omega arith))

-- ---- each block that is named

named-all : (P : ℕ → Type 0) (trim : Bool) (first count : ℕ) → ((block : ℕ) → first ≤ block → block < first + count → P block) → AllByRecursion (λ (e : Entry). P e.block) (entries_from trim first count)
named-all P trim first zero each = tt
named-all P trim first (suc count) each = (each first (omega arith) (omega arith), named-all P trim (first + 1) count (λ block low high. each block (omega arith) (omega arith)))

-- they can be placed
pub entries-ready : (map : MapView) (trim : Bool) (first count : ℕ) → AreReserved map first count → AllByRecursion (λ (e : Entry). IsReady map e.block) (entries_from trim first count)
entries-ready map trim first count reserved = named-all (IsReady map) trim first count reserved
