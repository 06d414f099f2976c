-- The zones that are stored in a file, zone by zone.
use Rattle.std.proofs.Common.{◌≡◌, ◌≢◌, ◌⊎◌, ℕ, zero, suc, ◌+◌, ◌*◌, ◌/◌, ◌<◌, ◌≤◌, ◌++◌, Bool, true, false, cond, eqb, not, List, [], ◌∷◌, length, map, set, get_or, take, drop, count_by, None, Some, Result, Ok, Err, refl, sym, ap, ◌∙◌, inl, inr, arith}
use Rattle.std.specs.List.{position, position_or_len}
use Rattle.std.proofs.Math.Seq.{take-add}
use Rattle.std.proofs.Math.Nat.{mul-div_cancel}
use Rattle.std.specs.Prelude.{OnErr}
use Rattle.std.proofs.lemmas.Bool.{cases_eq, eq-eqb, eqb-true, ltb-false}
use Rattle.std.proofs.lemmas.List.{drop-drop, get_or_default, length-append, length-drop, length-take-le}
use Rattle.nvme_wire.specs.declared.command.Action.{Action}
use Rattle.nvme_wire.specs.declared.command.Action.TheVariants as actions
use Rattle.nvme_wire.specs.declared.status.Status.{Status}
use Rattle.nvme_wire.specs.declared.zone_state.ZoneState.{ZoneState}
use Rattle.nvme_wire.specs.declared.zone_state.ZoneState.TheVariants.{Offline}
use Rattle.zone_states.specs.declared.geometry.Geometry.{Geometry}
use Rattle.zone_states.specs.Checks.{first_failing}
use Rattle.zone_states.specs.Stored.{StoredZone, stored_after, stored_write, zone_stored}
use Rattle.zone_states.specs.Transition.{state_after}
use Rattle.zone_states.specs.Writing.{append_bytes_checks}
use Rattle.zone_states.proofs.Cutting.{length-cut}
use Rattle.zone_drive.specs.Table.{sent_in, sent_stored, stored_at}
use Rattle.drive_port.specs.Step.{is_selected}
use Rattle.zone_drive.proofs.CountLaws.{count-cons}
use Rattle.zone_drive.proofs.WriteLaws.{all-passed, whole-checked}
use Rattle.file_drive.specs.Layout.{SamePlaces, at_place, file_length, part}
use Rattle.file_drive.specs.Tables.{acted, appended, entry_after, entry_of, next_entries, place_of, zone_in, zones_in}
use Rattle.file_drive.specs.InFile.{AreWithin, FiledZones, KeepsOthers, entry_at, filed, is_summed}
use Rattle.file_drive.specs.Sums.{kept_blocks, sum_of, zone_sum}
use Rattle.file_drive.specs.declared.entry.Entry.{Entry}
use Rattle.file_drive.proofs.PlaceLaws.{place-low, places-apart, zone-ends}
use Rattle.file_drive.proofs.DataLaws.{within-at, zones-by-parts}
use Rattle.file_drive.proofs.ServedLaws.{zones-kept}
use Rattle.file_drive.proofs.SumLaws.{zone-sum-more}

-- ---- lists

abbrev pub no_entry : Entry
no_entry = record { state = Offline; written = 0; second = false; sum = 0 }

pub length-zones : (g : Geometry) (file : List ℕ) (number : ℕ) (entries : List Entry) → length (zones_in g file number entries) ≡ length entries
length-zones g file number [] = refl
length-zones g file number (entry ∷ entries) = let rest = length-zones g file (number + 1) entries in omega (arith, rest)

pub zones-at : (g : Geometry) (file : List ℕ) (number : ℕ) (entries : List Entry) (i : ℕ) (d : StoredZone) (e : Entry) → i < length entries
    → get_or (zones_in g file number entries) i d ≡ zone_in g file (number + i) (get_or entries i e)
zones-at g file number [] i d e low = absurd (omega (arith, low))
zones-at g file number (entry ∷ entries) zero d e low = ap (λ (n : ℕ). zone_in g file n entry) (omega arith)
zones-at g file number (entry ∷ entries) (suc i) d e low =
    zones-at g file (number + 1) entries i d e (omega (arith, low)) ∙ ap (λ (n : ℕ). zone_in g file n (get_or entries i e)) (omega arith)

pub zones-set : (g : Geometry) (file : List ℕ) (number : ℕ) (entries : List Entry) (i : ℕ) (entry : Entry)
    → zones_in g file number (set entries i entry) ≡ set (zones_in g file number entries) i (zone_in g file (number + i) entry)
zones-set g file number [] i entry = refl
zones-set g file number (e ∷ entries) zero entry =
    ap (λ (n : ℕ). zone_in g file n entry ∷ zones_in g file (number + 1) entries) (omega arith)
zones-set g file number (e ∷ entries) (suc i) entry =
    let there : number + suc i ≡ number + 1 + i = omega arith in
    rw there (ap (λ (zones : List StoredZone). zone_in g file number e ∷ zones) (zones-set g file (number + 1) entries i entry))

-- what is counted by states
pub zones-count : (g : Geometry) (file : List ℕ) (number : ℕ) (entries : List Entry) (counts : ZoneState → Bool)
    → count_by (λ (zone : StoredZone). counts zone.state) (zones_in g file number entries) ≡ count_by (λ (entry : Entry). counts entry.state) entries
zones-count g file number [] counts = refl
zones-count g file number (entry ∷ entries) counts =
    count-cons (λ (zone : StoredZone). counts zone.state) (zone_in g file number entry) (zones_in g file (number + 1) entries)
    ∙ rw (zones-count g file (number + 1) entries counts) refl
    ∙ sym (count-cons (λ (e : Entry). counts e.state) entry entries)

-- ---- parts

pub length-written : (g : Geometry) (file : List ℕ) (number : ℕ) (entry : Entry) → length file ≡ file_length g → number < g.zones → entry.written ≤ g.capacity
    → length (part file (at_place g (place_of number entry)) (entry.written * g.block)) ≡ entry.written * g.block
length-written g file number entry long low few =
    let place = place_of number entry in
    let end = zone-ends g place (2 * g.zones) entry.written (place-low number g.zones entry low) few in
    length-take-le (entry.written * g.block) (drop (at_place g place) file) (omega (arith, length-drop (at_place g place) file, end, long))

-- two parts, one after the other
pub part-join : (file : List ℕ) (at a b : ℕ) → part file at (a + b) ≡ part file at a ++ part file (at + a) b
part-join file at a b =
    take-add a b (drop at file) ∙ ap (λ (xs : List ℕ). part file at a ++ take b xs) (drop-drop a at file ∙ ap (λ (n : ℕ). drop n file) (omega arith))

-- zones after a change of one of them past its blocks
pub others-kept : (g : Geometry) (old new : List ℕ) (entries : List Entry) (index : ℕ) → KeepsOthers g (place_of index (entry_at entries index)) (entry_at entries index).written old new
    → length entries ≡ g.zones → AreWithin g entries → index < length entries → zones_in g new 0 entries ≡ zones_in g old 0 entries
others-kept g old new entries index keeps count within low = zones-by-parts g old new 0 entries (λ i d less.
    let here : 0 + i ≡ i = omega arith in
    let other : (place_of i (get_or entries i d) ≢ place_of index (entry_at entries index)) ⊎ ((get_or entries i d).written ≤ (entry_at entries index).written) = elim (cases_eq i index) [
      | inl is ↦ inr (rw is (omega (arith, ap (λ (e : Entry). e.written) (get_or_default entries index d no_entry low))))
      | inr away ↦ inl (places-apart i index (get_or entries i d) (entry_at entries index) away)
    ] in
    rw here (keeps (place_of i (get_or entries i d)) (get_or entries i d).written (place-low i g.zones (get_or entries i d) (omega (arith, less, count))) (within-at g entries i d within less) other))

-- ---- an append

module _ (g : Geometry) (old middle new : List ℕ) (entries : List Entry) (index : ℕ) (bytes : List ℕ) (blocks : ℕ)
    (count : length entries ≡ g.zones) (within : AreWithin g entries) (low : index < length entries) (long : length old ≡ file_length g) (some : 1 ≤ g.block)
    (whole : length bytes ≡ blocks * g.block) (room : (entry_at entries index).written + blocks ≤ g.capacity)
    (keeps : KeepsOthers g (place_of index (entry_at entries index)) (entry_at entries index).written old middle)
    (put : part middle (at_place g (place_of index (entry_at entries index)) + (entry_at entries index).written * g.block) (length bytes) ≡ bytes)
    (same : SamePlaces g middle new) where
  abbrev place : ℕ
  place = place_of index (entry_at entries index)

  abbrev first : ℕ
  first = (entry_at entries index).written

  below : index < g.zones
  below = omega (arith, low, count)

  here : place < 2 * g.zones
  here = place-low index g.zones (entry_at entries index) below

  append-others : zones_in g new 0 entries ≡ zones_in g old 0 entries
  append-others = zones-kept g middle new 0 entries same (omega (arith, count)) within ∙ others-kept g old middle entries index keeps count within low

  append-bytes : part new (at_place g place) ((first + blocks) * g.block) ≡ part old (at_place g place) (first * g.block) ++ bytes
  append-bytes =
      let spread : (first + blocks) * g.block ≡ first * g.block + length bytes = omega (arith, whole) in
      same place (first + blocks) here room
      ∙ ap (part middle (at_place g place)) spread
      ∙ part-join middle (at_place g place) (first * g.block) (length bytes)
      ∙ rw (keeps place first here (omega (arith, room)) (inr (omega arith)), put) refl

  append-count : length (part old (at_place g place) (first * g.block) ++ bytes) / g.block ≡ first + blocks
  append-count =
      let a = length-written g old index (entry_at entries index) long below (omega (arith, room)) in
      let all : length (part old (at_place g place) (first * g.block) ++ bytes) ≡ (first + blocks) * g.block =
      omega (arith, length-append (part old (at_place g place) (first * g.block)) bytes, a, whole) in
      ap (λ (n : ℕ). n / g.block) all ∙ mul-div_cancel (first + blocks) {n = g.block} (omega (arith, some))

  pub append-stored : (sum : ℕ) → zones_in g new 0 (set entries index (appended g (entry_at entries index) blocks sum))
      ≡ set (zones_in g old 0 entries) index (stored_write g (stored_at (zones_in g old 0 entries) index) bytes)
  append-stored sum =
      let zeroth : 0 + index ≡ index = omega arith in
      zones-set g new 0 entries index (appended g (entry_at entries index) blocks sum)
      ∙ rw (append-others, zones-at g old 0 entries index (record { state = Offline; bytes = [] }) no_entry low, zeroth, append-bytes, append-count) refl

  -- the zone has the sum of all its blocks
  pub append-summed : (last : Entry) → kept_blocks last (entry_at entries index) ≤ first → is_summed g old index last (entry_at entries index) ≡ true
      → is_summed g new index last (appended g (entry_at entries index) blocks (sum_of g.block blocks (entry_at entries index).sum bytes)) ≡ true
  append-summed last few was =
      let entry = entry_at entries index in
      let sum = sum_of g.block blocks entry.sum bytes in
      let next = appended g entry blocks sum in
      let before = part old (at_place g place) (first * g.block) in
      let more = zone-sum-more g.block last entry next before bytes blocks refl refl few (length-written g old index entry long below (omega (arith, room))) in
      ap (λ (xs : List ℕ). eqb (zone_sum g.block last next xs) sum) append-bytes
      ∙ eq-eqb _ _ (more ∙ ap (λ (s : ℕ). sum_of g.block blocks s bytes) (eqb-true _ _ was))

-- ---- an action

-- what an action leaves of a zone in a file
pub acted-stored : (g : Geometry) (file : List ℕ) (number : ℕ) (action : Action) (last entry : Entry)
    → zone_in g file number (acted action last entry) ≡ stored_after action (zone_in g file number entry) (state_after entry.state action)
acted-stored g file number action last entry = after (state_after entry.state action) action
  where
    after : (next : Result ZoneState Status) (action : Action) → zone_in g file number (entry_after action last entry next) ≡ stored_after action (zone_in g file number entry) next
    after (Err status) action = refl
    after (Ok state) actions.Reset =
        let none : 0 * g.block ≡ 0 = omega arith in
        ap (λ (n : ℕ). record { state = state; bytes = part file (at_place g (place_of number (entry_after actions.Reset last entry (Ok state)))) n }) none
    after (Ok state) actions.Open = refl
    after (Ok state) actions.Close = refl
    after (Ok state) actions.Finish = refl
    after (Ok state) actions.Offline = refl

pub acted-few : (g : Geometry) (action : Action) (last entry : Entry) → entry.written ≤ g.capacity → (acted action last entry).written ≤ g.capacity
acted-few g action last entry few = after (state_after entry.state action) action
  where
    after : (next : Result ZoneState Status) (action : Action) → (entry_after action last entry next).written ≤ g.capacity
    after (Err status) action = few
    after (Ok state) actions.Reset = omega arith
    after (Ok state) actions.Open = few
    after (Ok state) actions.Close = few
    after (Ok state) actions.Finish = few
    after (Ok state) actions.Offline = few

-- one zone
pub sent-stored-in : (g : Geometry) (old new : List ℕ) (entries : List Entry) (index : ℕ) (action : Action) (last : Entry) → SamePlaces g old new → length entries ≡ g.zones → AreWithin g entries → index < length entries
    → zones_in g new 0 (set entries index (acted action last (entry_at entries index))) ≡ sent_in (zones_in g old 0 entries) index action
sent-stored-in g old new entries index action last same count within low =
    let here : 0 + index ≡ index = omega arith in
    let entry = entry_at entries index in
    let next = acted action last entry in
    let at = zones-at g old 0 entries index (record { state = Offline; bytes = [] }) no_entry low in
    let few : next.written ≤ g.capacity = acted-few g action last entry (within-at g entries index no_entry within low) in
    let moved : zone_in g new index next ≡ zone_in g old index next =
    ap (λ (bytes : List ℕ). record { state = next.state; bytes = bytes }) (same (place_of index next) next.written (place-low index g.zones next (omega (arith, low, count))) few) in
    zones-set g new 0 entries index next
    ∙ rw (zones-kept g old new 0 entries same (omega (arith, count)) within, at, here, moved, acted-stored g old index action last entry) refl

-- the first one in a state
zones-prefix : (g : Geometry) (file : List ℕ) (number : ℕ) (entries : List Entry) (is : ZoneState → Bool)
    → position_or_len (λ (zone : StoredZone). is zone.state) (zones_in g file number entries) ≡ position_or_len (λ (entry : Entry). is entry.state) entries
zones-prefix g file number [] is = refl
zones-prefix g file number (entry ∷ entries) is = ap (λ (n : ℕ). cond (not (is entry.state)) (1 + n) 0) (zones-prefix g file (number + 1) entries is)

pub zones-position : (g : Geometry) (file : List ℕ) (number : ℕ) (entries : List Entry) (is : ZoneState → Bool)
    → position (λ (zone : StoredZone). is zone.state) (zones_in g file number entries) ≡ position (λ (entry : Entry). is entry.state) entries
zones-position g file number entries is = rw (zones-prefix g file number entries is, length-zones g file number entries) refl

-- all zones
pub all-sent : (g : Geometry) (file : List ℕ) (number : ℕ) (action : Action) (words : List ℕ) (entries : List Entry) → length words ≡ length entries
    → zones_in g file number (next_entries (Some action) words entries) ≡ map (sent_stored action) (zones_in g file number entries)
all-sent g file number action [] [] same = refl
all-sent g file number action [] (entry ∷ entries) same = absurd (omega (arith, same))
all-sent g file number action (word ∷ words) [] same = refl
all-sent g file number action (word ∷ words) (entry ∷ entries) same =
    rw (one (is_selected action entry.state), all-sent g file (number + 1) action words entries (omega (arith, same))) refl
  where
    one : (selected : Bool) → zone_in g file number (cond selected (acted action (entry_of word) entry) entry)
        ≡ cond selected (stored_after action (zone_in g file number entry) (state_after entry.state action)) (zone_in g file number entry)
    one true = acted-stored g file number action (entry_of word) entry
    one false = refl

-- ---- what a call asks

-- an index of the zones is one of the entries
pub filed-low : {F : Type 0} (seen : F → List ℕ) (zones : FiledZones F) (index : ℕ) → index < length (filed seen zones) → index < length zones.entries
filed-low seen zones index low = omega (arith, low, length-zones zones.shape (seen zones.file) 0 zones.entries)

-- an entry that was read
pub entry-read : (entries : List Entry) (index : ℕ) (entry : Entry) → index < length entries → entry ≡ get_or entries index entry → entry ≡ entry_at entries index
entry-read entries index entry low is = is ∙ get_or_default entries index entry no_entry low

-- bytes that pass the checks of an Append are whole blocks, for which the zone has room
pub append-fits : (g : Geometry) (file : List ℕ) (entries : List Entry) (index : ℕ) (bytes : List ℕ) → length file ≡ file_length g → length entries ≡ g.zones → AreWithin g entries → index < length entries → 1 ≤ g.block
    → None ≡ first_failing (append_bytes_checks g (zone_stored g.block (stored_at (zones_in g file 0 entries) index)) bytes)
    → (length bytes ≡ length bytes / g.block * g.block) × ((entry_at entries index).written + length bytes / g.block ≤ g.capacity)
append-fits g file entries index bytes long count within low some checks =
    let zone = stored_at (zones_in g file 0 entries) index in
    let here : 0 + index ≡ index = omega arith in
    let is : zone ≡ zone_in g file index (entry_at entries index) = zones-at g file 0 entries index (record { state = Offline; bytes = [] }) no_entry low ∙ ap (λ (n : ℕ). zone_in g file n (entry_at entries index)) here in
    let few = within-at g entries index no_entry within low in
    let written = length-written g file index (entry_at entries index) long (omega (arith, low, count)) few in
    let blocks : length (zone_stored g.block zone).blocks ≡ (entry_at entries index).written =
    length-cut g.block (length zone.bytes / g.block) zone.bytes
    ∙ ap (λ (z : StoredZone). length z.bytes / g.block) is
    ∙ ap (λ (n : ℕ). n / g.block) written
    ∙ mul-div_cancel (entry_at entries index).written {n = g.block} (omega (arith, some)) in
    let passed = all-passed (append_bytes_checks g (zone_stored g.block zone) bytes) checks in
    let room = ltb-false _ _ passed.1.1.1.1.1.0 in
    (whole-checked g (zone_stored g.block zone) bytes checks, omega (arith, blocks, room))

-- what always holds holds after an error
pub on-err : {T E : Type 0} (result : Result T E) (P : Type 0) → P → OnErr result P
on-err (Ok value) P p = tt
on-err (Err error) P p = p

-- the zone with a number
pub stored-is : (g : Geometry) (file : List ℕ) (entries : List Entry) (index : ℕ) → index < length entries → stored_at (zones_in g file 0 entries) index ≡ zone_in g file index (entry_at entries index)
stored-is g file entries index low =
    let here : 0 + index ≡ index = omega arith in
    zones-at g file 0 entries index (record { state = Offline; bytes = [] }) no_entry low ∙ ap (λ (n : ℕ). zone_in g file n (entry_at entries index)) here

-- how many bytes of it are written
pub stored-length : (g : Geometry) (file : List ℕ) (entries : List Entry) (index : ℕ) → length file ≡ file_length g → length entries ≡ g.zones → AreWithin g entries → index < length entries
    → length (stored_at (zones_in g file 0 entries) index).bytes ≡ (entry_at entries index).written * g.block
stored-length g file entries index long count within low =
    ap (λ (zone : StoredZone). length zone.bytes) (stored-is g file entries index low)
    ∙ length-written g file index (entry_at entries index) long (omega (arith, low, count)) (within-at g entries index no_entry within low)
