-- A block that is trimmed stays so when its record is moved.
use Rattle.std.proofs.Common.{◌≡◌, ℕ, suc, ◌+◌, ◌<◌, Bool, true, false, cond, List, [], ◌∷◌, map, length, set, get_or, take, Option, Some, None, refl, sym, ap, ◌∙◌, arith}
use Rattle.std.specs.List.{AllByRecursion}
use Rattle.std.proofs.lemmas.List.{get_or-take, length-take, map-set, set-get_or}
use Rattle.std.proofs.Math.ListN.{get_or-map}
use Rattle.logical_map.specs.Live.{lies_in}
use Rattle.logical_map.specs.declared.place.Place.{Place}
use Rattle.logical_map.specs.declared.place.Place.TheVariants as places
use Rattle.zone_choice.specs.Agreement.{Agrees, MountedView, mounted_array}
use Rattle.zone_choice.specs.Builder.{placed}
use Rattle.zone_choice.specs.Changes.{next_address}
use Rattle.zone_choice.specs.Tables.{size_of}
use Rattle.zone_choice.proofs.AgreementLaws.{extended-same}
use Rattle.zone_cleaner.specs.Clean.{CleanView, IsClean, trims}
use Rattle.zone_cleaner.specs.LiveRecords.{LiveRecord, live_content, gathered_entries, gathered_entry, records_in}
use Rattle.zone_cleaner.specs.Turns.{MovesRecords}

is_trim : Option (List ℕ) → Bool
is_trim None = true
is_trim (Some bytes) = false

abbrev TellTrims : List Place → List LiveRecord → Type 0
TellTrims all rs = AllByRecursion (λ (r : LiveRecord). trims (get_or all r.block places.None) ≡ Some (is_trim r.content)) rs

placed-trims : (header address : ℕ) (rs : List LiveRecord) (all : List Place) → TellTrims all rs → map trims (placed header address (gathered_entries rs) all) ≡ map trims all
unfolding is_trim
placed-trims header address [] all tell = refl
placed-trims header address (r ∷ rs) all tell = one (λ next. placed-trims header next rs all tell.1) r.block r.content tell.0
  where
    one : ((next : ℕ) → map trims (placed header next (gathered_entries rs) all) ≡ map trims all) → (block : ℕ) (content : Option (List ℕ)) → trims (get_or all block places.None) ≡ Some (is_trim content)
        → map trims (placed header address (gathered_entry block content ∷ gathered_entries rs) all) ≡ map trims all
    one rest block None same =
        map-set trims (placed header (address + 0) (gathered_entries rs) all) block (places.Trimmed header) ∙ ap (λ (xs : List (Option Bool)). set xs block (Some true)) (rest (address + 0))
        ∙ ap (λ (t : Option Bool). set (map trims all) block t) (sym (get_or-map trims all block places.None ∙ same)) ∙ set-get_or (map trims all) block None
    one rest block (Some bytes) same =
        map-set trims (placed header (address + 1) (gathered_entries rs) all) block (places.At address) ∙ ap (λ (xs : List (Option Bool)). set xs block (Some false)) (rest (address + 1))
        ∙ ap (λ (t : Option Bool). set (map trims all) block t) (sym (get_or-map trims all block places.None ∙ same)) ∙ set-get_or (map trims all) block None

-- what the places of a zone's blocks tell
records-tell : (array : List (List ℕ)) (size zone first : ℕ) (ps all : List Place) → ((k : ℕ) → k < length ps → get_or all (first + k) places.None ≡ get_or ps k places.None) → TellTrims all (records_in array size zone first ps)
unfolding is_trim
records-tell array size zone first [] all same = tt
records-tell array size zone first (p ∷ ps) all same = by (lies_in size zone p) refl (records-tell array size zone (first + 1) ps all rest)
  where
    rest : (k : ℕ) → k < length ps → get_or all (first + 1 + k) places.None ≡ get_or ps k places.None
    rest k lt = let next : first + suc k ≡ first + 1 + k = omega arith in rw next at (same (suc k) (omega (arith, lt)))

    here : get_or all first places.None ≡ p
    here = let spot : first + 0 ≡ first = omega arith in rw spot at (same 0 (omega arith))

    kind : (q : Place) → lies_in size zone q ≡ true → trims q ≡ Some (is_trim (live_content array first q))
    kind places.None e = absurd (cc)
    kind (places.Trimmed address) e = refl
    kind (places.At address) e = refl

    by : (b : Bool) → lies_in size zone p ≡ b → TellTrims all (records_in array size zone (first + 1) ps) → TellTrims all (cond b (record { block = first; content = live_content array first p } ∷ records_in array size zone (first + 1) ps) (records_in array size zone (first + 1) ps))
    by true is tell = (ap trims here ∙ kind p is, tell)
    by false is tell = tell

-- a Move keeps which blocks are trimmed
pub move-trims : (before after : MountedView) (c : CleanView) → Agrees before → IsClean before c → MovesRecords before c after → map trims after.tables.map.places ≡ map trims before.tables.map.places
move-trims before after c agrees is moves =
    let m = before.tables.map in
    let header = next_address before.drive moves.destination.zone in
    let tell : TellTrims m.places c.gathered = rw is.gathers.gathered (records-tell (mounted_array before) m.zone_size c.victim 0 (take c.cursor m.places) m.places each) in
    ap (map trims) (moves.places.places ∙ ap (placed header (header + 1) (gathered_entries c.gathered)) (extended-same places.None (size_of before.tables) m.places refl)) ∙ placed-trims header (header + 1) c.gathered m.places tell
  where
    each : (k : ℕ) → k < length (take c.cursor before.tables.map.places) → get_or before.tables.map.places (0 + k) places.None ≡ get_or (take c.cursor before.tables.map.places) k places.None
    each k lt =
        let all = before.tables.map.places in
        let spot : 0 + k ≡ k = omega arith in
        rw spot (sym (get_or-take c.cursor all k places.None (omega (arith, lt, length-take c.cursor all))))
