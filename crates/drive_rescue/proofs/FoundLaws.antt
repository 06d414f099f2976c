-- The data of each batch that is found can be asked for.
use Rattle.std.proofs.Common.{◌≡◌, ℕ, ◌+◌, ◌<◌, ◌≤◌, ◌^◌, nat_lt, Bool, true, false, cond, leb, ◌&&◌, List, [], ◌∷◌, ◌++◌, length, take, drop, get_or, Option, Some, None, refl, sym, ◌∙◌, arith}
use Rattle.std.specs.List.{AllByRecursion}
use Rattle.std.proofs.lemmas.Bool.Decides.{nat_tests}
use Rattle.std.proofs.lemmas.List.{flat_map_more, get_or-drop, get_or-take, length-drop, length-take-le}
use Rattle.batch_log.specs.Causes.{header_fault, is_zero}
use Rattle.batch_log.specs.Header.{Heading}
use Rattle.batch_log.specs.Log.{data_count, one_unless}
use Rattle.batch_log.specs.Reading.{heading_in}
use Rattle.batch_log.specs.declared.fault.LogFault.{LogFault}
use Rattle.batch_log.specs.declared.header.Entry.{Entry}
use Rattle.drive_array.specs.Records.{Record, batch_records, entry_content, entry_offset, entry_records}
use Rattle.drive_array.proofs.AllLaws.{all-append}
use Rattle.drive_rescue.specs.Searching.{Finding, Found, Place, Reaches, begins, looks, Searched, at_first, one_more, after_block, after_header, after_reading, batch_at, fits, follows, found_records, with_batch, with_gap, with_tail, with_zeros}
use Rattle.drive_rescue.specs.Zones.{Damage, ReadZone, block_with, cut, zone_with}
use Rattle.drive_rescue.proofs.CutLaws.{Within, cut-within}

-- the data of a record is at its place
abbrev pub Stands : List ReadZone → Record → Type 0
Stands zones r = (bytes : List ℕ) → r.content ≡ Some bytes → (r.offset < length (zone_with zones r.zone).blocks) × (block_with zones r.zone r.offset ≡ bytes)

abbrev pub AllStand : List ReadZone → List Found → Type 0
AllStand zones found = AllByRecursion (Stands zones) (found_records found)

-- one batch more
pub records-more : (found : List Found) (f : Found) → found_records (found ++ f ∷ []) ≡ found_records found ++ batch_records f.zone f.offset f.batch
records-more found f = sym (flat_map_more (λ (x : Found). batch_records x.zone x.offset x.batch) [] found f)

-- ---- a batch

-- the data blocks of a batch are in its zone
abbrev BodyAt : List (List ℕ) → ℕ → List (List ℕ) → Type 0
BodyAt blocks header body = (k : ℕ) → k < length body → (header + 1 + k < length blocks) × (get_or blocks (header + 1 + k) [] ≡ get_or body k [])

entries-stand : (zones : List ReadZone) (sequence zone header k : ℕ) (body : List (List ℕ)) (es : List Entry) → BodyAt (zone_with zones zone).blocks header body → k + data_count es ≤ length body
    → AllByRecursion (Stands zones) (entry_records sequence body zone header k es)
entries-stand zones sequence zone header k body [] at le = tt
entries-stand zones sequence zone header k body (e ∷ es) at le = (one e.trim refl, entries-stand zones sequence zone header (k + one_unless e.trim) body es at (omega (arith, le)))
  where
    one : (t : Bool) → e.trim ≡ t → (bytes : List ℕ) → entry_content e.trim body k ≡ Some bytes → (entry_offset e.trim header k < length (zone_with zones zone).blocks) × (get_or (zone_with zones zone).blocks (entry_offset e.trim header k) [] ≡ bytes)
    one true is bytes c = let bad : None ≡ Some bytes = rw is at c in absurd (cc)
    one false is bytes c =
        let some : Some (get_or body k []) ≡ Some bytes = rw is at c in
        let same : get_or body k [] ≡ bytes = cc in
        let le' = rw is at le in
        let here = at k (omega (arith, le')) in
        rw is (here.0, here.1 ∙ same)

body-at : (blocks : List (List ℕ)) (offset d : ℕ) → offset + 1 + d ≤ length blocks → BodyAt blocks offset (take d (drop (offset + 1) blocks))
body-at blocks offset d le k lt =
    let long : length (take d (drop (offset + 1) blocks)) ≡ d = length-take-le d (drop (offset + 1) blocks) (omega (arith, length-drop (offset + 1) blocks, le)) in
    let below : k < d = omega (arith, long, lt) in
    (omega (arith, below, le), sym (get_or-take d (drop (offset + 1) blocks) k [] below ∙ get_or-drop (offset + 1) blocks k []))

body-within : (part zone : ReadZone) (header : ℕ) (body : List (List ℕ)) → Within part zone → BodyAt part.blocks header body → BodyAt zone.blocks header body
body-within part zone header body within at k lt =
    let here = at k lt in
    let there = within.each (header + 1 + k) here.0 in
    (there.0, sym there.1 ∙ here.1)

batch-stands : (zones : List ReadZone) (zone offset : ℕ) (part : ReadZone) (heading : Heading) → Within part (zone_with zones zone) → offset + 1 + data_count heading.entries ≤ length part.blocks
    → AllByRecursion (Stands zones) (batch_records zone offset (batch_at part offset heading))
batch-stands zones zone offset part heading within le =
    let blocks = part.blocks in
    let d = data_count heading.entries in
    let long : length (take d (drop (offset + 1) blocks)) ≡ d = length-take-le d (drop (offset + 1) blocks) (omega (arith, length-drop (offset + 1) blocks, le)) in
    entries-stand zones heading.sequence zone offset 0 (take d (drop (offset + 1) blocks)) heading.entries (body-within part (zone_with zones zone) offset (take d (drop (offset + 1) blocks)) within (body-at blocks offset d le)) (omega (arith, long))

-- ---- a search

fits-le : (zone : ReadZone) (offset : ℕ) (heading : Heading) → fits zone offset heading ≡ true → offset + 1 + data_count heading.entries ≤ length zone.blocks
fits-le zone offset heading is = at (offset + 1 + data_count heading.entries) (length zone.blocks) is
  where
    at : (a b : ℕ) → leb a b ≡ true → a ≤ b
    at a b e = grind (arith, nat_tests)

header-stands : (zones : List ReadZone) (number : ℕ) (part : ReadZone) (place : Place) (heading : Heading) → Within part (zone_with zones number) → AllStand zones place.finding.found
    → AllStand zones (after_header part number place heading).finding.found
header-stands zones number part place heading within all = at (follows place heading) (fits part place.offset heading) part.padded (nat_lt heading.sequence (2 ^ 63)) refl
  where
    at : (c f p n : Bool) → fits part place.offset heading ≡ f
        → AllStand zones (cond c (cond f (cond n (with_batch part number place heading) (with_gap place)) (cond p (with_gap place) (with_tail part place heading))) (with_gap place)).finding.found
    at false f p n is = all
    at true false false n is = all
    at true false true n is = all
    at true true p false is = all
    at true true p true is =
        let f : Found = record { zone = number; offset = place.offset; batch = batch_at part place.offset heading } in
        rw (records-more place.finding.found f)
        (all-append (Stands zones) (found_records place.finding.found) (batch_records number place.offset (batch_at part place.offset heading)) all
        (batch-stands zones number place.offset part heading within (fits-le part place.offset heading is)))

block-stands : (zones : List ReadZone) (number : ℕ) (part : ReadZone) (place : Place) (block : List ℕ) (fault : Option LogFault) → Within part (zone_with zones number) → AllStand zones place.finding.found
    → AllStand zones (after_block part number place fault block).finding.found
block-stands zones number part place block None within all = header-stands zones number part place (heading_in block) within all
block-stands zones number part place block (Some fault) within all = at part.padded (is_zero block)
  where
    at : (p z : Bool) → AllStand zones (cond (p && z) (with_zeros place) (with_gap place)).finding.found
    at false z = all
    at true false = all
    at true true = all

reading-stands : (zones : List ReadZone) (number : ℕ) (part : ReadZone) (place : Place) (reading : Option (List ℕ)) → Within part (zone_with zones number) → AllStand zones place.finding.found
    → AllStand zones (after_reading part number place reading).finding.found
reading-stands zones number part place None within all = all
reading-stands zones number part place (Some block) within all = block-stands zones number part place block (header_fault block) within all

reaches-stand : (damaged : Damage) (zones : List ReadZone) (number : ℕ) (part : ReadZone) (finding : Finding) (place : Place) → Within part (zone_with zones number) → Reaches damaged part number finding place → AllStand zones finding.found
    → AllStand zones place.finding.found
reaches-stand damaged zones number part finding _ within begins all = all
reaches-stand damaged zones number part finding _ within (looks {place} reading before lt says) all = reading-stands zones number part place reading within (reaches-stand damaged zones number part finding place within before all)

pub searched-stand : (damaged : Damage) (zones : List ReadZone) (n : ℕ) (finding : Finding) → Searched damaged zones n finding → AllStand zones finding.found
searched-stand damaged zones _ _ at_first = tt
searched-stand damaged zones _ _ (one_more {n = n} {finding} {after} before searches) =
    rw searches.after_is
    (reaches-stand damaged zones n (cut (zone_with zones n) searches.end) finding searches.place (cut-within (zone_with zones n) searches.end) searches.reaches (searched-stand damaged zones n finding before))
