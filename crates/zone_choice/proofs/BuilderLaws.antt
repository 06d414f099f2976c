-- The entries of a batch as they are named, and the places of its blocks.
use Rattle.std.proofs.Common.{◌≡◌, ◌≢◌, ℕ, zero, suc, ◌+◌, ◌*◌, ◌^◌, ◌<◌, Bool, true, false, eqb, List, [], ◌∷◌, ◌++◌, map, length, drop, set, get_or, Some, refl, sym, ap, ◌∙◌, arith, append_assoc}
use Rattle.std.specs.Prelude.{nat_eq}
use Rattle.std.specs.List.{AllByRecursion, IsDistinct}
use Rattle.std.proofs.lemmas.Bool.{eq-eqb}
use Rattle.std.proofs.lemmas.List.{drop_more, length-set, set_comm}
use Rattle.batch_log.specs.declared.header.Entry.{Entry}
use Rattle.batch_log.specs.Log.{data_count, one_unless}
use Rattle.logical_map.specs.declared.place.Place.{Place}
use Rattle.logical_map.specs.Places.{place_address}
use Rattle.zone_choice.specs.Builder.{entries_from, entry_place, placed}
use Rattle.drive_array.specs.Records.{entry_records, over, place, record_of}
use Rattle.zone_choice.specs.Tables.{TablesView, with_places}

-- ---- entries of blocks that follow one another

entries_more : (trim : Bool) (first count last more : ℕ) → last ≡ first + count → more ≡ count + 1 → entries_from trim first more ≡ entries_from trim first count ++ record { block = last; trim = trim } ∷ []
entries_more trim first count last zero e h = absurd (omega arith)
entries_more trim first zero last (suc more) e h = let same : last ≡ first = omega arith in let none : more ≡ zero = omega arith in rw (same, none) refl
entries_more trim first (suc count) last (suc more) e h = ap (λ (es : List Entry). record { block = first; trim = trim } ∷ es) (entries_more trim (first + 1) count last more (omega arith) (omega arith))

-- one entry more
pub entries-more : (trim : Bool) (es : List Entry) (first count last : ℕ) → last ≡ first + count → es ++ entries_from trim first (count + 1) ≡ (es ++ entries_from trim first count) ++ record { block = last; trim = trim } ∷ []
entries-more trim es first count last e =
    ap (λ (xs : List Entry). es ++ xs) (entries_more trim first count last (count + 1) e refl) ∙ sym (append_assoc es (entries_from trim first count) (record { block = last; trim = trim } ∷ []))

-- ---- places

-- the blocks that entries name
abbrev pub blocks_named : List Entry → List ℕ
blocks_named es = map (λ (e : Entry). e.block) es

placed-set : (header address block : ℕ) (p : Place) (es : List Entry) (all : List Place) → AllByRecursion (λ y. eqb block y ≡ false) (blocks_named es) → set (placed header address es all) block p ≡ placed header address es (set all block p)
placed-set header address block p [] all apart = refl
placed-set header address block p (e ∷ es) all apart =
    let other : e.block ≢ block = λ same. (let bad = eq-eqb block e.block (sym same) in let not = apart.0 in absurd (cc)) in
    let q = entry_place e.trim header address in
    set_comm (placed header (address + one_unless e.trim) es all) e.block block q p other
    ∙ ap (λ (xs : List Place). set xs e.block q) (placed-set header (address + one_unless e.trim) block p es all apart.1)

distinct-drop : (i : ℕ) (es : List Entry) → IsDistinct nat_eq (blocks_named es) → IsDistinct nat_eq (blocks_named (drop i es))
unfolding IsDistinct
distinct-drop zero es distinct = distinct
distinct-drop (suc i) [] distinct = tt
distinct-drop (suc i) (e ∷ es) distinct = distinct-drop i es distinct.1

-- the first of some entries is placed
pub placed-first : (header address : ℕ) (e : Entry) (es : List Entry) (all : List Place) → IsDistinct nat_eq (blocks_named (e ∷ es)) → placed header address (e ∷ es) all ≡ placed header (address + one_unless e.trim) es (set all e.block (entry_place e.trim header address))
unfolding IsDistinct
placed-first header address e es all distinct = placed-set header (address + one_unless e.trim) e.block (entry_place e.trim header address) es all distinct.0

-- How far the blocks of a batch are placed, where i of its entries are: what placing the rest gives from here is what placing all gives from the start.
pub record Placing (header : ℕ) (entries : List Entry) (old now : TablesView) (address i : ℕ) : Type 0 where
  pub left : placed header address (drop i entries) now.map.places ≡ placed header (header + 1) entries old.map.places
  pub data_left : address + data_count (drop i entries) ≡ header + 1 + data_count entries
  pub above : header < address
  pub long : length now.map.places ≡ length old.map.places
  pub rest : now ≡ record old { map = record old.map { places = now.map.places } }

-- one entry more has its place
pub placing-more : (header : ℕ) (entries : List Entry) (old now new : TablesView) (address i : ℕ) (e d : Entry) (p : Place) (more : ℕ) → Placing header entries old now address i → IsDistinct nat_eq (blocks_named entries) → i < length entries → e ≡ get_or entries i d
    → p ≡ entry_place e.trim header address → more ≡ one_unless e.trim → new ≡ with_places now (set now.map.places e.block p) → Placing header entries old new (address + more) (i + 1)
placing-more header entries old now new address i e d p more was distinct lt is place-is more-is new-is =
    let rest = drop (i + 1) entries in
    let split : drop i entries ≡ e ∷ rest = drop_more entries i d lt ∙ ap (λ (x : Entry). x ∷ rest) (sym is) in
    let apart : IsDistinct nat_eq (blocks_named (e ∷ rest)) = rw split at (distinct-drop i entries distinct) in
    let step = placed-first header address e rest now.map.places apart in
    let left = rw split at was.left in
    let data_now = rw split at was.data_left in
    let shape : new ≡ with_places old (set now.map.places e.block p) = new-is ∙ ap (λ (t : TablesView). with_places t (set now.map.places e.block p)) was.rest in
    rw (new-is, more-is, place-is) (record {
      left = sym step ∙ left;
      data_left = omega (arith, data_now);
      above = omega (arith, was.above);
      long = length-set now.map.places e.block (entry_place e.trim header address) ∙ was.long;
      rest = rw (new-is, place-is) at shape;
    })

-- a place among these is no higher than the next address
pub entry_place-fits : (trim : Bool) (header address : ℕ) → header < address → address + 1 < 2 ^ 63 → place_address (entry_place trim header address) + 1 < 2 ^ 63
entry_place-fits true header address above fits = omega arith
entry_place-fits false header address above fits = fits

-- these are the places of the batch's records
pub placed-over : (size sequence zone offset k header address : ℕ) (body : List (List ℕ)) (es : List Entry) (all : List Place) → header ≡ zone * size + offset → address ≡ zone * size + (offset + 1 + k)
    → placed header address es all ≡ over (place size) (entry_records sequence body zone offset k es) all
placed-over size sequence zone offset k header address body [] all h e = refl
placed-over size sequence zone offset k header address body (x ∷ xs) all h e =
    ap (λ (ps : List Place). set ps x.block (entry_place x.trim header address)) (placed-over size sequence zone offset (k + one_unless x.trim) header (address + one_unless x.trim) body xs all h (omega (arith, e)))
    ∙ ap (λ (p : Place). set (over (place size) (entry_records sequence body zone offset (k + one_unless x.trim) xs) all) x.block p) (one x.trim refl)
  where
    one : (t : Bool) → x.trim ≡ t → entry_place x.trim header address ≡ place size (Some (record_of sequence body zone offset k x))
    one true is = rw (is, h) refl
    one false is = rw (is, e) refl
