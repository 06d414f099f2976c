-- What was moved stays known, so that a clean can be given up.
use Rattle.std.proofs.Common.{◌≡◌, ◌≢◌, ◌⊎◌, ℕ, zero, suc, ◌+◌, ◌*◌, ◌/◌, ◌<◌, ◌≤◌, Bool, true, false, ◌||◌, cond, eqb, List, [], ◌∷◌, ◌++◌, length, map, set, get_or, Option, Some, None, refl, sym, ap, subst, ◌∙◌, inl, inr, arith}
use Rattle.std.specs.List.{AllByRecursion, list_any}
use Rattle.std.proofs.lemmas.Bool.{cases_eq, cases_lt, eq-eqb, ne_eqb, eqb-true}
use Rattle.std.proofs.lemmas.List.{get_or_past, get_or-set_other, get_or-set_same, length-set}
use Rattle.std.proofs.Math.ListN.{get_or-map}
use Rattle.zone_states.specs.declared.geometry.Geometry.{Geometry}
use Rattle.drive_port.specs.Contents.{content_at, contents}
use Rattle.batch_log.specs.declared.header.Entry.{Entry}
use Rattle.batch_log.specs.Log.{Batch, batch_size, data_count, one_unless}
use Rattle.logical_map.specs.Live.{lies_in}
use Rattle.logical_map.specs.declared.place.Place.{Place}
use Rattle.logical_map.specs.declared.place.Place.TheVariants as places
use Rattle.drive_array.specs.Laws.{IsNext}
use Rattle.drive_array.specs.Records.{without}
use Rattle.drive_array.specs.Sizes.{extended, map_of}
use Rattle.drive_array.specs.Spare.{IsSpare}
use Rattle.drive_array.specs.ZoneLogs.{drive_logs}
use Rattle.drive_array.proofs.AllLaws.{all-append, all-weaker}
use Rattle.zone_choice.specs.declared.roles.Filling.{Filling}
use Rattle.zone_choice.specs.Agreement.{Agrees, MountedView, mounted_array}
use Rattle.zone_choice.specs.Builder.{entry_place, placed}
use Rattle.zone_choice.specs.Changes.{CanPlace, KeepsArray, Places, next_address, size_with}
use Rattle.zone_choice.specs.Tables.{TablesView, size_of}
use Rattle.zone_choice.proofs.AgreementLaws.{length-extended}
use Rattle.zone_cleaner.specs.declared.moved.Moved.{Moved}
use Rattle.zone_cleaner.specs.Clean.{CanUndo, CleanView, is_in, place_among, places_without, trims}
use Rattle.zone_cleaner.specs.LiveRecords.{LiveRecord, gathered_entries, gathered_entry, live_content, records_in}
use Rattle.zone_cleaner.specs.Turns.{moved_from}
use Rattle.zone_cleaner.specs.Undoing.{entry_moved}
use Rattle.zone_cleaner.proofs.MoveLaws.{Elsewhere, entry-away, length-placed}
use Rattle.zone_cleaner.proofs.OldLaws.{get_or-extended, unnamed-without}

-- ---- a command that keeps the array

pub undo-kept : (before after : MountedView) (c : CleanView) (zone : ℕ) → after.tables.map.zone_size ≡ before.tables.map.zone_size → KeepsArray before after → CanUndo before c zone → CanUndo after c zone
undo-kept before after c zone zones kept undo = record {
  all = λ k there. undo.all k (at zone k there);
  each = all-weaker _ _ c.moved (λ m was there. (let gives = was (at zone m.block there) in (without_same m.block ∙ gives.0, gives.1 ∙ ap trims (sym (place_same m.block))))) undo.each;
  away = all-weaker _ _ c.moved (λ m out. is-same c.victim m.block ∙ out) undo.away;
}
  where
    place_same : (k : ℕ) → place_among after.tables.map.places k ≡ place_among before.tables.map.places k
    place_same k = ap (λ (all : List Place). place_among all k) kept.places

    is-same : (other k : ℕ) → is_in after.tables other k ≡ is_in before.tables other k
    is-same other k = ap (λ (size : ℕ). lies_in size other (place_among after.tables.map.places k)) zones ∙ ap (lies_in before.tables.map.zone_size other) (place_same k)

    at : (other k : ℕ) → is_in after.tables other k ≡ true → is_in before.tables other k ≡ true
    at other k there = sym (is-same other k) ∙ there

    without_same : (k : ℕ) → place_among (places_without after zone) k ≡ place_among (places_without before zone) k
    without_same k =
        ap (λ (g : Geometry). place_among (map_of g.size after.tables.given (without (drive_logs after.drive) zone)) k) kept.geometry
        ∙ ap (λ (n : ℕ). place_among (map_of before.drive.geometry.size n (without (drive_logs after.drive) zone)) k) kept.given
        ∙ ap (λ (logs : List (List Batch)). place_among (map_of before.drive.geometry.size before.tables.given (without logs zone)) k) kept.logs

-- ---- blocks that a batch does not name

unnamed-placed : (header address k : ℕ) (es : List Entry) (all : List Place) → AllByRecursion (λ (e : Entry). e.block ≢ k) es → get_or (placed header address es all) k places.None ≡ get_or all k places.None
unnamed-placed header address k [] all out = refl
unnamed-placed header address k (e ∷ es) all out =
    get_or-set_other (placed header (address + one_unless e.trim) es all) e.block k _ places.None (λ same. out.0 (sym same)) ∙ unnamed-placed header (address + one_unless e.trim) k es all out.1

-- a block that is in another zone after the batch was not named
pub not-named : (size zone header address end k : ℕ) (es : List Entry) (all : List Place) → AllByRecursion (λ (e : Entry). e.block < length all) es → Elsewhere size zone header end → header < address → address + data_count es ≤ end → header < end
    → lies_in size zone (get_or (placed header address es all) k places.None) ≡ true → AllByRecursion (λ (e : Entry). e.block ≢ k) es
not-named size zone header address end k [] all inside away lt le low lies = tt
not-named size zone header address end k (e ∷ es) all inside away lt le low lies =
    let rest = placed header (address + one_unless e.trim) es all in
    let p = entry_place e.trim header address in
    let long : e.block < length rest = omega (arith, inside.0, length-placed header (address + one_unless e.trim) es all) in
    let out : lies_in size zone p ≡ false = entry-away size zone header address end e.trim away lt (omega (arith, le)) low in
    let ne : e.block ≢ k = λ same. (let here : get_or (set rest e.block p) k places.None ≡ p = rw (← same) (get_or-set_same rest e.block p places.None long) in let yes = rw here at lies in absurd (cc)) in
    let other : get_or (set rest e.block p) k places.None ≡ get_or rest k places.None = get_or-set_other rest e.block k p places.None (λ same. ne (sym same)) in
    (ne, not-named size zone header (address + one_unless e.trim) end k es all inside.1 away (omega (arith, lt)) (omega (arith, le)) low (rw other at lies))

-- what is known of a block that is in another zone after a batch
record Unnamed (before after : MountedView) (k : ℕ) (es : List Entry) : Type 0 where
  out : AllByRecursion (λ (e : Entry). e.block ≢ k) es
  same : place_among after.tables.map.places k ≡ place_among before.tables.map.places k

-- a place is in one zone
pub lies-one : (size zone other : ℕ) (p : Place) → lies_in size zone p ≡ true → zone ≢ other → lies_in size other p ≡ false
lies-one size zone other places.None here apart = refl
lies-one size zone other (places.Trimmed address) here apart = ne_eqb (address / size) other (λ same. apart (sym (eqb-true (address / size) zone here) ∙ same))
lies-one size zone other (places.At address) here apart = ne_eqb (address / size) other (λ same. apart (sym (eqb-true (address / size) zone here) ∙ same))

-- and only a block that is there
pub lies-below : (size zone k : ℕ) (all : List Place) → lies_in size zone (get_or all k places.None) ≡ true → k < length all
lies-below size zone k all there = elim (cases_lt k (length all)) as (λ _. k < length all) [
  | inl lt ↦ lt
  | inr past ↦ absurd (let out = get_or_past all k places.None past in let no = rw out at there in cc)
]

pub entries-below : (size zone : ℕ) (all : List Place) (rs : List LiveRecord) → AllByRecursion (λ (r : LiveRecord). lies_in size zone (get_or all r.block places.None) ≡ true) rs → AllByRecursion (λ (e : Entry). e.block < length all) (gathered_entries rs)
entries-below size zone all [] lie = tt
entries-below size zone all (r ∷ rs) lie = (omega (arith, lies-below size zone r.block all lie.0, entry-at r.block r.content), entries-below size zone all rs lie.1)
  where
    entry-at : (block : ℕ) (content : Option (List ℕ)) → (gathered_entry block content).block ≡ block
    entry-at block None = refl
    entry-at block (Some bytes) = refl

-- ---- a batch of the host

-- what a batch in another zone needs
pub record IsBeside (before after : MountedView) (zone other : ℕ) (b : Batch) : Type 0 where
  pub away : Elsewhere before.tables.map.zone_size other (next_address before.drive zone) (next_address before.drive zone + batch_size b)
  pub inside : AllByRecursion (λ (e : Entry). e.block < size_of before.tables) b.heading.entries
  pub grows : size_of before.tables ≤ size_with before.tables b
  pub places : after.tables.map.places ≡ placed (next_address before.drive zone) (next_address before.drive zone + 1) b.heading.entries (extended places.None (size_with before.tables b) before.tables.map.places)

unnamed : (before after : MountedView) (zone other k : ℕ) (b : Batch) → IsBeside before after zone other b → lies_in before.tables.map.zone_size other (place_among after.tables.map.places k) ≡ true → Unnamed before after k b.heading.entries
unnamed before after zone other k b is lies =
    let header = next_address before.drive zone in
    let size = size_with before.tables b in
    let big = extended places.None size before.tables.map.places in
    let inside = all-weaker (λ (e : Entry). e.block < size_of before.tables) (λ (e : Entry). e.block < length big) b.heading.entries (λ e lt. omega (arith, lt, is.grows, length-extended places.None size before.tables.map.places is.grows)) is.inside in
    let out = not-named before.tables.map.zone_size other header (header + 1) (header + batch_size b) k b.heading.entries big inside is.away (omega arith) (omega arith) (omega arith) (rw is.places at lies) in
    record { out = out; same = ap (λ (all : List Place). get_or all k places.None) is.places ∙ unnamed-placed header (header + 1) k b.heading.entries big out ∙ get_or-extended size k before.tables.map.places }

pub record HostBeside (before after : MountedView) (c : CleanView) (zone destination limit : ℕ) (b : Batch) : Type 0 where
  pub victim : IsBeside before after zone c.victim b
  pub destination_is : IsBeside before after zone destination b
  pub zones : after.tables.map.zone_size ≡ before.tables.map.zone_size
  pub spare : IsSpare before.drive.geometry.block before.tables.given (drive_logs before.drive) destination
  pub unnamed_is : (k : ℕ) → AllByRecursion (λ (e : Entry). e.block ≢ k) b.heading.entries → place_among (places_without after destination) k ≡ place_among (places_without before destination) k

both : (P Q R : Moved → Type 0) (ms : List Moved) → ((m : Moved) → P m → Q m → R m) → AllByRecursion P ms → AllByRecursion Q ms → AllByRecursion R ms
both P Q R [] f p q = tt
both P Q R (m ∷ ms) f p q = (f m p.0 q.0, both P Q R ms f p.1 q.1)

not-true : (b : Bool) → (b ≡ true → ⊥) → b ≡ false
not-true true never = absurd (never refl)
not-true false never = refl

pub undo-host : (before after : MountedView) (c new : CleanView) (zone destination limit : ℕ) (b : Batch) → HostBeside before after c zone destination limit b → new.moved ≡ c.moved → new.victim ≡ c.victim → CanUndo before c destination → CanUndo after new destination
undo-host before after c new zone destination limit b is same victim undo = rw (same, victim) (record {
  all = λ k there. undo.all k (at destination k is.destination_is (rw is.zones at there)).0;
  each = all-weaker _ _ c.moved (λ m was there.
      let here = at destination m.block is.destination_is (rw is.zones at there) in
      let old = was here.0 in
      (is.unnamed_is m.block here.1.out ∙ old.0, old.1 ∙ ap trims (sym here.1.same))) undo.each;
  away = all-weaker _ _ c.moved (λ m out. not-true (is_in after.tables c.victim m.block) (λ there. (let here = at c.victim m.block is.victim (rw is.zones at there) in let yes = here.0 in absurd (cc)))) undo.away;
})
  where
    at : (other k : ℕ) → IsBeside before after zone other b → lies_in before.tables.map.zone_size other (place_among after.tables.map.places k) ≡ true → (is_in before.tables other k ≡ true) × Unnamed before after k b.heading.entries
    at other k beside lies = let un = unnamed before after zone other k b beside lies in (rw un.same at lies, un)

-- ---- a Move

any-front : (k : ℕ) (ms ns : List Moved) → list_any (λ (m : Moved). eqb m.block k) ms ≡ true → list_any (λ (m : Moved). eqb m.block k) (ms ++ ns) ≡ true
any-front k [] ns some = absurd (cc)
any-front k (m ∷ ms) ns some = by (eqb m.block k) (any-front k ms ns) some
  where
    by : (b : Bool) → (list_any (λ (m : Moved). eqb m.block k) ms ≡ true → list_any (λ (m : Moved). eqb m.block k) (ms ++ ns) ≡ true) → (b || list_any (λ (m : Moved). eqb m.block k) ms) ≡ true → (b || list_any (λ (m : Moved). eqb m.block k) (ms ++ ns)) ≡ true
    by true rest some = refl
    by false rest some = rest some

any-back : (k : ℕ) (ms ns : List Moved) → list_any (λ (m : Moved). eqb m.block k) ns ≡ true → list_any (λ (m : Moved). eqb m.block k) (ms ++ ns) ≡ true
any-back k [] ns some = some
any-back k (m ∷ ms) ns some = rw (any-back k ms ns some) (by (eqb m.block k))
  where
    by : (b : Bool) → (b || true) ≡ true
    by true = refl
    by false = refl

-- whether a block is gathered
abbrev is_gathered : List LiveRecord → ℕ → Bool
is_gathered rs k = list_any (λ (r : LiveRecord). eqb r.block k) rs

gathered-moved : (all : List Place) (rs : List LiveRecord) (k : ℕ) → list_any (λ (m : Moved). eqb m.block k) (moved_from all rs) ≡ is_gathered rs k
gathered-moved all [] k = refl
gathered-moved all (r ∷ rs) k = ap (λ (b : Bool). eqb r.block k || b) (gathered-moved all rs k)

entry-block : (block : ℕ) (content : Option (List ℕ)) → (gathered_entry block content).block ≡ block
entry-block block None = refl
entry-block block (Some bytes) = refl

not-gathered : (rs : List LiveRecord) (k : ℕ) → is_gathered rs k ≡ false → AllByRecursion (λ (e : Entry). e.block ≢ k) (gathered_entries rs)
not-gathered [] k none = tt
not-gathered (r ∷ rs) k none = by (eqb r.block k) refl (not-gathered rs k) none
  where
    by : (b : Bool) → eqb r.block k ≡ b → (is_gathered rs k ≡ false → AllByRecursion (λ (e : Entry). e.block ≢ k) (gathered_entries rs)) → (b || is_gathered rs k) ≡ false → AllByRecursion (λ (e : Entry). e.block ≢ k) (gathered_entries (r ∷ rs))
    by true e rest none = absurd (cc)
    by false e rest none = ((λ same. let bad = eq-eqb r.block k (sym (entry-block r.block r.content) ∙ same) in absurd (cc)), rest none)

is-gathered : (rs : List LiveRecord) (k : ℕ) → AllByRecursion (λ (e : Entry). e.block ≢ k) (gathered_entries rs) → is_gathered rs k ≡ false
is-gathered [] k out = refl
is-gathered (r ∷ rs) k out = rw (ne_eqb r.block k (λ same. out.0 (entry-block r.block r.content ∙ same))) (is-gathered rs k out.1)

-- each of these is
own-gathered : (rs : List LiveRecord) → AllByRecursion (λ (r : LiveRecord). is_gathered rs r.block ≡ true) rs
own-gathered [] = tt
own-gathered (r ∷ rs) = (rw (eq-eqb r.block r.block refl) refl, all-weaker (λ (x : LiveRecord). is_gathered rs x.block ≡ true) (λ (x : LiveRecord). is_gathered (r ∷ rs) x.block ≡ true) rs (λ x is. rw is (by (eqb r.block x.block))) (own-gathered rs))
  where
    by : (b : Bool) → (b || true) ≡ true
    by true = refl
    by false = refl

-- what holds of all gathered records holds of one of a block
of-gathered : (P : ℕ → Type 0) (rs : List LiveRecord) (k : ℕ) → AllByRecursion (λ (r : LiveRecord). P r.block) rs → is_gathered rs k ≡ true → P k
of-gathered P [] k all some = absurd (cc)
of-gathered P (r ∷ rs) k all some = by (eqb r.block k) refl (of-gathered P rs k all.1) some
  where
    by : (b : Bool) → eqb r.block k ≡ b → (is_gathered rs k ≡ true → P k) → (b || is_gathered rs k) ≡ true → P k
    by true e rest some = subst P (eqb-true r.block k e) all.0
    by false e rest some = rest some

-- what is noted of the entries of a Move
pub noted : (all : List Place) (rs : List LiveRecord) → map (entry_moved all) (gathered_entries rs) ≡ moved_from all rs
noted all [] = refl
noted all (r ∷ rs) = rw (entry-block r.block r.content) (ap (λ (ms : List Moved). record { block = r.block; place = place_among all r.block } ∷ ms) (noted all rs))

-- they lie in their zone
pub records-lie : (array : List (List ℕ)) (size zone first : ℕ) (ps all : List Place) → ((k : ℕ) → k < length ps → get_or all (first + k) places.None ≡ get_or ps k places.None)
    → AllByRecursion (λ (r : LiveRecord). lies_in size zone (get_or all r.block places.None) ≡ true) (records_in array size zone first ps)
records-lie array size zone first [] all same = tt
records-lie array size zone first (p ∷ ps) all same = by (lies_in size zone p) refl (records-lie array size zone (first + 1) ps all rest)
  where
    Lie : List LiveRecord → Type 0
    Lie rs = AllByRecursion (λ (r : LiveRecord). lies_in size zone (get_or all r.block places.None) ≡ true) rs

    rest : (k : ℕ) → k < length ps → get_or all (first + 1 + k) places.None ≡ get_or ps k places.None
    rest k lt = let next : first + suc k ≡ first + 1 + k = omega arith in rw next at (same (suc k) (omega (arith, lt)))

    here : get_or all first places.None ≡ p
    here = let spot : first + 0 ≡ first = omega arith in rw spot at (same 0 (omega arith))

    by : (b : Bool) → lies_in size zone p ≡ b → Lie (records_in array size zone (first + 1) ps) → Lie (cond b (record { block = first; content = live_content array first p } ∷ records_in array size zone (first + 1) ps) (records_in array size zone (first + 1) ps))
    by true is lie = (rw here is, lie)
    by false is lie = lie

pub record MoveBeside (before after : MountedView) (c : CleanView) (destination header : ℕ) : Type 0 where
  pub zones : after.tables.map.zone_size ≡ before.tables.map.zone_size
  pub places : after.tables.map.places ≡ placed header (header + 1) (gathered_entries c.gathered) before.tables.map.places
  pub inside : AllByRecursion (λ (e : Entry). e.block < length before.tables.map.places) (gathered_entries c.gathered)
  pub away : Elsewhere before.tables.map.zone_size c.victim header (header + (1 + data_count (gathered_entries c.gathered)))
  pub lie : AllByRecursion (λ (r : LiveRecord). is_in before.tables c.victim r.block ≡ true) c.gathered
  pub same : places_without after destination ≡ places_without before destination
  pub other : (k : ℕ) → is_in before.tables c.victim k ≡ true → place_among (places_without before destination) k ≡ place_among before.tables.map.places k
  pub trimmed : map trims after.tables.map.places ≡ map trims before.tables.map.places

pub undo-move : (before after : MountedView) (c new : CleanView) (destination header : ℕ) → MoveBeside before after c destination header → new.victim ≡ c.victim → new.moved ≡ c.moved ++ moved_from before.tables.map.places c.gathered
    → CanUndo before c destination → CanUndo after new destination
undo-move before after c new destination header is victim moved undo = rw (moved, victim) (record {
  all = λ k there. all-is k there (is_gathered c.gathered k) refl;
  each = all-append Known c.moved (moved_from before.tables.map.places c.gathered) (both _ _ Known c.moved old undo.each undo.away) (news c.gathered is.lie);
  away = all-append Away c.moved (moved_from before.tables.map.places c.gathered) (all-weaker _ Away c.moved (λ m out. not-true (is_in after.tables c.victim m.block) (λ there. (let same = free m.block (out-of m.block there) in let yes = rw (is.zones, same) at there in absurd (cc)))) undo.away)
      (leaves c.gathered (own-gathered c.gathered));
})
  where
    Known : Moved → Type 0
    Known m = is_in after.tables destination m.block ≡ true → (place_among (places_without after destination) m.block ≡ m.place) × (trims m.place ≡ trims (place_among after.tables.map.places m.block))

    Away : Moved → Type 0
    Away m = is_in after.tables c.victim m.block ≡ false

    -- a block that was not gathered is where it was
    free : (k : ℕ) → AllByRecursion (λ (e : Entry). e.block ≢ k) (gathered_entries c.gathered) → place_among after.tables.map.places k ≡ place_among before.tables.map.places k
    free k out = ap (λ (all : List Place). get_or all k places.None) is.places ∙ unnamed-placed header (header + 1) k (gathered_entries c.gathered) before.tables.map.places out

    -- one that is in the victim was not gathered
    out-of : (k : ℕ) → is_in after.tables c.victim k ≡ true → AllByRecursion (λ (e : Entry). e.block ≢ k) (gathered_entries c.gathered)
    out-of k there =
        not-named before.tables.map.zone_size c.victim header (header + 1) (header + (1 + data_count (gathered_entries c.gathered))) k (gathered_entries c.gathered) before.tables.map.places is.inside is.away (omega arith) (omega arith) (omega arith) (rw (is.zones, is.places) at there)

    all-is : (k : ℕ) → is_in after.tables destination k ≡ true → (b : Bool) → is_gathered c.gathered k ≡ b → list_any (λ (m : Moved). eqb m.block k) (c.moved ++ moved_from before.tables.map.places c.gathered) ≡ true
    all-is k there true e = any-back k c.moved (moved_from before.tables.map.places c.gathered) (gathered-moved before.tables.map.places c.gathered k ∙ e)
    all-is k there false e =
        let same = free k (not-gathered c.gathered k e) in
        any-front k c.moved (moved_from before.tables.map.places c.gathered) (undo.all k (rw (is.zones, same) at there))

    old : (m : Moved) → (is_in before.tables destination m.block ≡ true → (place_among (places_without before destination) m.block ≡ m.place) × (trims m.place ≡ trims (place_among before.tables.map.places m.block))) → is_in before.tables c.victim m.block ≡ false → Known m
    old m was out there = by (is_gathered c.gathered m.block) refl
      where
        by : (b : Bool) → is_gathered c.gathered m.block ≡ b → (place_among (places_without after destination) m.block ≡ m.place) × (trims m.place ≡ trims (place_among after.tables.map.places m.block))
        by true e = absurd (let yes = of-gathered (λ k. is_in before.tables c.victim k ≡ true) c.gathered m.block is.lie e in cc)
        by false e =
            let same = free m.block (not-gathered c.gathered m.block e) in
            let gives = was (rw (is.zones, same) at there) in
            (ap (λ (all : List Place). place_among all m.block) is.same ∙ gives.0, gives.1 ∙ ap trims (sym same))

    trim-same : (k : ℕ) → trims (place_among before.tables.map.places k) ≡ trims (place_among after.tables.map.places k)
    trim-same k = sym (get_or-map trims before.tables.map.places k places.None) ∙ ap (λ (ts : List (Option Bool)). get_or ts k None) (sym is.trimmed) ∙ get_or-map trims after.tables.map.places k places.None

    news : (rs : List LiveRecord) → AllByRecursion (λ (r : LiveRecord). is_in before.tables c.victim r.block ≡ true) rs → AllByRecursion Known (moved_from before.tables.map.places rs)
    news [] lie = tt
    news (r ∷ rs) lie = ((λ there. (ap (λ (all : List Place). place_among all r.block) is.same ∙ is.other r.block lie.0, trim-same r.block)), news rs lie.1)

    leaves : (rs : List LiveRecord) → AllByRecursion (λ (r : LiveRecord). is_gathered c.gathered r.block ≡ true) rs → AllByRecursion Away (moved_from before.tables.map.places rs)
    leaves [] own = tt
    leaves (r ∷ rs) own = (not-true (is_in after.tables c.victim r.block) (λ there. (let none = is-gathered c.gathered r.block (out-of r.block there) in let some = own.0 in absurd (cc))), leaves rs own.1)
