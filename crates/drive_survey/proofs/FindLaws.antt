-- What is found of the zones.
use Rattle.std.proofs.Common.{◌≡◌, ◌≢◌, ◌⊎◌, inl, inr, ℕ, zero, suc, ◌^◌, ◌<◌, ◌≤◌, map, List, [], ◌∷◌, length, get_or, set, Option, Some, None, Bool, true, false, Result, Ok, Err, refl, sym, ap, subst, ◌∙◌, arith}
use Rattle.std.specs.Prelude.{IfOk, IsTrue, slice_get}
use Rattle.std.specs.BTreeSet.{BTreeSet, IsLowerBound, Updates, btree_set_len, contains}
use Rattle.std.specs.Ordering.{is_gt, nat_cmp}
use Rattle.std.proofs.lemmas.Bool.{cases_eq, cases_lt, ne_eqb}
use Rattle.std.proofs.lemmas.Bool.Decides.{nat_tests}
use Rattle.std.proofs.lemmas.List.{get_or_past, map-set, nil_from_length}
use Rattle.std.proofs.Math.Seq.{map-set_same}
use Rattle.drive_port.specs.Drive.{DriveState}
use Rattle.batch_log.specs.Log.{Batch}
use Rattle.std.specs.List.{AllByRecursion}
use Rattle.drive_array.specs.Mountable.{IsInside}
use Rattle.drive_array.specs.Records.{Record, log_records, without}
use Rattle.drive_array.specs.Sizes.{encoded_size}
use Rattle.drive_array.specs.Spare.{IsHalfClean}
use Rattle.drive_array.specs.ZoneLogs.{log_at}
use Rattle.drive_array.proofs.ClearingLaws.{has_batch}
use Rattle.drive_array.proofs.SizeLaws.{same-size}
use Rattle.drive_survey.specs.declared.clearing.block_records.BlockRecords.{BlockRecords}
use Rattle.drive_survey.specs.declared.clearing.Candidates.{Candidates}
use Rattle.drive_survey.specs.declared.clearing.sizes.SizeCounts.{SizeCounts}
use Rattle.drive_survey.specs.declared.scan.ScannedZone.{ScannedZone}
use Rattle.drive_survey.specs.declared.survey.Survey.{Survey}
use Rattle.drive_survey.specs.declared.clearing.Finding.{Finding}
use Rattle.drive_survey.specs.declared.clearing.Finding.TheVariants.{HalfClean, NotMoves, NeedsBlock, NeedsSize}
use Rattle.drive_survey.specs.Clearing.{AreOf, CoversHeads, CoversZone, FindsLowest, FindsNeeded, IsNeededAt, LooksFor, ShowsSame, without_heads}
use Rattle.drive_survey.specs.Heads.{HeadsView, heads_of, no_heads}
use Rattle.drive_survey.specs.KeptRecords.{kept_of_zone, kept_record}
use Rattle.drive_survey.specs.declared.records.KeptRecord.{KeptRecord}
use Rattle.drive_survey.specs.NewestRecords.{AreNewest, IsNamedAfter}
use Rattle.drive_array.specs.Repairing.{IsMoved}
use Rattle.drive_survey.specs.Known.{Finds, IsFirstNeeded, Knows}
use Rattle.drive_survey.specs.Reported.{KeepsZones}
use Rattle.drive_survey.specs.BlockRecords.{HoldsRecords, own_of}
use Rattle.drive_survey.specs.Scan.{heads_in, tails_in}
use Rattle.drive_survey.specs.SizeCounts.{size_counts}
use Rattle.drive_survey.specs.Waiting.{AllWait, AreCandidates, IsNeeded, OthersWait, TellsFinding, TellsSize}
use Rattle.drive_survey.proofs.HeadRecordLaws.{kept-is}
use Rattle.drive_survey.proofs.MovedLaws.{found-heads, not-found, there}
use Rattle.drive_survey.proofs.OwnLaws.{log-inside}
use Rattle.drive_survey.proofs.SpareLaws.{all-same, knows-kept, knows-small, knows-stand, needed-inside, spare-all, spare-at}
use Rattle.drive_survey.proofs.RecordTableLaws.{at-is}

-- ---- headers are forgotten

-- putting a zone with no headers in a place forgets the headers there
pub forgets-heads : (scanned : List ScannedZone) (zone : ℕ) (one : ScannedZone) → one.heads ≡ no_heads → heads_in (set scanned zone one) ≡ without_heads (heads_in scanned) zone
forgets-heads scanned zone one none = map-set (λ (z : ScannedZone). z.heads) scanned zone one ∙ ap (λ (h : HeadsView). set (heads_in scanned) zone h) none

-- replacing a zone by one with the same tail changes no tail
pub forgets-tails : (scanned : List ScannedZone) (zone : ℕ) (one old : ScannedZone) → one.is_torn ≡ old.is_torn → old ≡ get_or scanned zone old → tails_in (set scanned zone one) ≡ tails_in scanned
forgets-tails scanned zone one old same is = map-set_same (λ (z : ScannedZone). z.is_torn) scanned zone one old (same ∙ ap (λ (z : ScannedZone). z.is_torn) is)

-- ---- what is found of a zone

-- a half clean zone holds only Moves from an older zone
pub half-moved : (block_bytes n : ℕ) (logs : List (List Batch)) (zone : ℕ) → IsHalfClean block_bytes n logs zone → IsMoved logs zone
half-moved block_bytes n logs zone half = record { victim = half.victim; apart = half.apart; moves = half.moves; older = half.older }

-- a record at a place of a mapped list
map-get : {X Y : Type 0} (f : X → Y) (xs : List X) (i : ℕ) (y : Y) → slice_get (map f xs) i ≡ Some y → (x : X) × (slice_get xs i ≡ Some x) × (f x ≡ y)
map-get f [] i y is = absurd (cc)
map-get f (x ∷ xs) zero y is = (x, refl, (cc))
map-get f (x ∷ xs) (suc i) y is = map-get f xs i y is

get-map : {X Y : Type 0} (f : X → Y) (xs : List X) (i : ℕ) (x : X) → slice_get xs i ≡ Some x → slice_get (map f xs) i ≡ Some (f x)
get-map f [] i x is = absurd (cc)
get-map {Y = Y} f (y ∷ ys) zero x is = (let same : y ≡ x = cc in ap (λ (z : Y). Some z) (ap f same))
get-map f (y ∷ ys) (suc i) x is = get-map f ys i x is

-- what is first of the newest records is first of the log
first-needed : (block_bytes : ℕ) (logs : List (List Batch)) (zone block : ℕ) (own : List KeptRecord) → AllByRecursion (AllByRecursion (IsInside (2 ^ 31))) logs → AreNewest (kept_of_zone zone (heads_of (log_at logs zone))) own
    → IsNeededAt block_bytes logs zone own block → IsFirstNeeded block_bytes logs zone block
first-needed block_bytes logs zone block own inside newest needed = record {
  place = named.place;
  found = at.0;
  there = at.1;
  block_is = ap (λ (x : KeptRecord). x.block) at.2 ∙ named.block_is ∙ needed.block_is;
  before = λ i r lt is. (
      let there : slice_get kept i ≡ Some (kept_record r) = subst (λ (ks : List KeptRecord). slice_get ks i ≡ Some (kept_record r)) (sym kept_are) (get-map kept_record entries i r is) in
      let first = named.before i (kept_record r) lt there in
      subst (ShowsSame block_bytes logs zone) first.4 (needed.before first.0 first.1 first.2 first.3)
      );
}
  where
    entries : List Record
    entries = log_records zone 0 (log_at logs zone)

    kept : List KeptRecord
    kept = kept_of_zone zone (heads_of (log_at logs zone))

    kept_are : kept ≡ map kept_record entries
    kept_are = kept-is zone (log_at logs zone) (log-inside (IsInside (2 ^ 31)) logs zone inside)

    named : IsNamedAfter kept own needed.place needed.found.block
    named = newest.in_order needed.place needed.found needed.there

    at : (r : Record) × (slice_get entries named.place ≡ Some r) × (kept_record r ≡ named.found)
    at = map-get kept_record entries named.place named.found (subst (λ (ks : List KeptRecord). slice_get ks named.place ≡ Some named.found) kept_are named.there)

-- of a zone of Moves, the first block that shows something else without it is found
finds-needed : (drive : DriveState) (n : ℕ) (logs : List (List Batch)) (survey : Survey) (zone block : ℕ) (own : List KeptRecord) → Knows drive n logs survey → IsMoved logs zone → AreNewest (kept_of_zone zone (heads_of (log_at logs zone))) own
    → IsNeededAt drive.geometry.block logs zone own block → Finds drive.geometry.block n logs zone (NeedsBlock block)
finds-needed drive n logs survey zone block own known moved newest needed = (
  moved,
  record { in_range = needed-inside drive.geometry.block (encoded_size n logs) logs zone block known.sound.inside needed.differs; differs = needed.differs },
  first-needed drive.geometry.block logs zone block own (knows-small drive n logs survey known) newest needed,
)

-- a zone of Moves is half clean if the blocks and the size are the same without it
finds-half : (drive : DriveState) (n : ℕ) (logs : List (List Batch)) (survey : Survey) (zone : ℕ) (table : BlockRecords) → Knows drive n logs survey → IsMoved logs zone → AreNewest (kept_of_zone zone (heads_of (log_at logs zone))) (own_of table zone)
    → FindsNeeded drive.geometry.block logs zone (own_of table zone) None → encoded_size n (without logs zone) ≡ encoded_size n logs → Finds drive.geometry.block n logs zone HalfClean
finds-half drive n logs survey zone table known moved newest same sizes =
    let each = all-same drive.geometry.block logs zone (own_of table zone) (knows-small drive n logs survey known) newest same in
    record { victim = moved.victim; apart = moved.apart; moves = moved.moves; older = moved.older; spare = spare-all drive.geometry.block n logs zone sizes each }

-- a zone that is needed is not half clean
needed-not : (block_bytes n : ℕ) (logs : List (List Batch)) (zone : ℕ) → IsNeeded block_bytes n logs zone → IsHalfClean block_bytes n logs zone → ⊥
needed-not block_bytes n logs zone (inl never) half = never (half-moved block_bytes n logs zone half)
needed-not block_bytes n logs zone (inr (inl needs)) half =
    let same = same-size block_bytes n (without logs zone) logs half.spare in
    needs.1.differs (spare-at block_bytes n logs zone needs.0 same half.spare needs.1.in_range)
needed-not block_bytes n logs zone (inr (inr differs)) half = differs (same-size block_bytes n (without logs zone) logs half.spare)

finds-other : (block_bytes n : ℕ) (logs : List (List Batch)) (zone : ℕ) (finding : Finding) → (finding ≡ HalfClean → ⊥) → Finds block_bytes n logs zone finding → IsNeeded block_bytes n logs zone
finds-other block_bytes n logs zone HalfClean other finds = absurd (other refl)
finds-other block_bytes n logs zone NotMoves other finds = inl finds
finds-other block_bytes n logs zone (NeedsBlock block) other finds = inr (inl (block, finds.1))
finds-other block_bytes n logs zone NeedsSize other finds = inr (inr finds.1)

-- ---- what a look at a zone tells

finding-first : (first now : DriveState) (n : ℕ) (survey : Survey) (table : BlockRecords) (zone : ℕ) (finding : Finding) → KeepsZones first now → TellsFinding now n survey table zone finding → TellsFinding first n survey table zone finding
finding-first first now n survey table zone finding kept tells logs known holds covers = rw (← kept.geometry) (tells logs (knows-kept first now n logs survey kept known) holds covers)

-- ---- sets of zones

-- a number that does not compare as greater is at most the other
pub not-above : (k q : ℕ) → is_gt (nat_cmp k q) ≡ false → k ≤ q
not-above k q = grind (arith, nat_tests)

taken-other : (old new : BTreeSet ℕ) (zone q : ℕ) → Updates nat_cmp old new zone false → q ≢ zone → IsTrue (contains nat_cmp old q) → IsTrue (contains nat_cmp new q)
taken-other old new zone q updates apart waits = updates.2 q (at-is zone q ∙ ne_eqb zone q (λ e. apart (sym e))) ∙ waits

-- a number that is not above 0 is 0
pub no-length : (n : ℕ) → (0 < n → ⊥) → n ≡ 0
no-length zero none = refl
no-length (suc n) none = absurd (none (omega arith))

none-waits : (waiting : BTreeSet ℕ) (q : ℕ) → btree_set_len waiting ≡ 0 → IsTrue (contains nat_cmp waiting q) → ⊥
none-waits waiting q none waits =
    let empty : waiting.keys ≡ [] = nil_from_length waiting.keys none in
    let bad = rw empty at waits in
    absurd (cc)

-- ---- those that wait are looked at, the lowest first

-- each half clean zone still waits
abbrev pub Sifts : DriveState → ℕ → Survey → Candidates → Candidates → Type 0
Sifts drive n survey first now = (logs : List (List Batch)) → AreCandidates drive n logs survey first → AllWait drive n logs first → AllWait drive n logs now

-- each half clean zone still waits after a zone that is not half clean is taken out
pub sifts-more : (first now : DriveState) (n : ℕ) (survey : Survey) (begin old new : Candidates) (zone : ℕ) (finding : Finding) → KeepsZones first now → old.records ≡ begin.records → Updates nat_cmp old.waiting new.waiting zone false
    → (finding ≡ HalfClean → ⊥) → TellsFinding now n survey old.records zone finding → Sifts first n survey begin old → Sifts first n survey begin new
sifts-more first now n survey begin old new zone finding kept same updates other tells so_far logs are wait q lt = elim (cases_eq q zone) as (λ _. IsTrue (contains nat_cmp new.waiting q) ⊎ IsNeeded first.geometry.block n logs q) [
  | inl here ↦ (
      let told = finding-first first now n survey begin.records zone finding kept (rw same at tells) in
      inr (rw here (finds-other first.geometry.block n logs zone finding other (told logs are.known are.records (are.covers zone))))
      )
  | inr apart ↦ (elim (so_far logs are wait q lt) as (λ _. IsTrue (contains nat_cmp new.waiting q) ⊎ IsNeeded first.geometry.block n logs q) [
    | inl waits ↦ inl (taken-other old.waiting new.waiting zone q updates apart waits)
    | inr needed ↦ inr needed
  ])
]

half-there : (block_bytes n : ℕ) (logs : List (List Batch)) (zone : ℕ) → IsHalfClean block_bytes n logs zone → zone < length logs
half-there block_bytes n logs zone half = elim (cases_lt zone (length logs)) as (λ _. zone < length logs) [
  | inl lt ↦ lt
  | inr ge ↦ absurd (has_batch block_bytes n logs zone half (get_or_past logs zone [] ge))
]

-- the lowest zone that waits, if it is found half clean, is the lowest half clean zone
pub lowest-here : (first now : DriveState) (n : ℕ) (survey : Survey) (begin old : Candidates) (zone : ℕ) (finding : Finding) → KeepsZones first now → old.records ≡ begin.records → IsLowerBound nat_cmp old.waiting zone
    → finding ≡ HalfClean → TellsFinding now n survey old.records zone finding → Sifts first n survey begin old
    → (logs : List (List Batch)) → AreCandidates first n logs survey begin → AllWait first n logs begin → FindsLowest first.geometry.block n logs (Some zone)
lowest-here first now n survey begin old zone finding kept same least is tells so_far logs are wait =
    let told = finding-first first now n survey begin.records zone HalfClean kept (rw (same, is) at tells) in
    let half : IsHalfClean first.geometry.block n logs zone = told logs are.known are.records (are.covers zone) in
    let range = half-there first.geometry.block n logs zone half in
    record {
      in_range = range;
      half_clean = half;
      lowest = λ other lt half'. elim (so_far logs are wait other (omega (arith, lt, range))) as (λ _. ⊥) [
        | inl waits ↦ absurd (omega (arith, lt, not-above zone other (least other waits)))
        | inr needed ↦ needed-not first.geometry.block n logs other needed half'
      ];
    }

-- after one zone is taken out, each other half clean zone still waits
pub others-wait : (drive : DriveState) (n : ℕ) (survey : Survey) (begin old new : Candidates) (zone : ℕ) → Updates nat_cmp old.waiting new.waiting zone false → Sifts drive n survey begin old
    → (logs : List (List Batch)) → AreCandidates drive n logs survey begin → AllWait drive n logs begin → OthersWait drive n logs new zone
others-wait drive n survey begin old new zone updates so_far logs are wait q lt apart = elim (so_far logs are wait q lt) as (λ _. IsTrue (contains nat_cmp new.waiting q) ⊎ IsNeeded drive.geometry.block n logs q) [
  | inl waits ↦ inl (taken-other old.waiting new.waiting zone q updates apart waits)
  | inr needed ↦ inr needed
]

-- when no zone waits, no zone is half clean
pub lowest-none : (drive : DriveState) (n : ℕ) (survey : Survey) (begin now : Candidates) → btree_set_len now.waiting ≡ 0 → Sifts drive n survey begin now
    → (logs : List (List Batch)) → AreCandidates drive n logs survey begin → AllWait drive n logs begin → FindsLowest drive.geometry.block n logs None
lowest-none drive n survey begin now none so_far logs are wait zone lt half = elim (so_far logs are wait zone lt) as (λ _. ⊥) [
  | inl waits ↦ none-waits now.waiting zone none waits
  | inr needed ↦ needed-not drive.geometry.block n logs zone needed half
]

-- ---- a zone is examined

-- the zone holds only Moves from an older zone, in all logs with these headers
abbrev pub AllMoved : Survey → ℕ → Type 0
AllMoved survey zone = (logs : List (List Batch)) → AreOf survey.scanned.items logs → IsMoved logs zone

-- the records of a zone of Moves are kept
own-covered : (survey : Survey) (logs : List (List Batch)) (table : BlockRecords) (zone : ℕ) → AreOf survey.scanned.items logs → IsMoved logs zone → CoversZone survey.scanned.items table zone → CoversHeads table zone (heads_of (log_at logs zone))
own-covered survey logs table zone are moved covers = by (slice_get survey.scanned.items zone) refl
  where
    by : (x : Option ScannedZone) → slice_get survey.scanned.items zone ≡ x → CoversHeads table zone (heads_of (log_at logs zone))
    by None e = absurd (not-found survey.scanned.items logs zone are e moved)
    by (Some found) e = subst (CoversHeads table zone) (found-heads survey.scanned.items logs zone found are e) (covers found e)

looked : (drive : DriveState) (n : ℕ) (survey : Survey) (table : BlockRecords) (zone : ℕ) (block : Option ℕ) → AllMoved survey zone → LooksFor drive table zone block
    → (logs : List (List Batch)) → Knows drive n logs survey → HoldsRecords logs table → (IsMoved logs zone → CoversZone survey.scanned.items table zone) → FindsNeeded drive.geometry.block logs zone (own_of table zone) block
looked drive n survey table zone block moved looks logs known holds covers =
    let is = moved logs known.heads in
    looks logs holds (knows-stand drive n logs survey known) (own-covered survey logs table zone known.heads is (covers is)).1

-- a zone of Moves is found to need the block that shows something else without it
pub examine-needs : (drive : DriveState) (n : ℕ) (survey : Survey) (table : BlockRecords) (zone block : ℕ) → AllMoved survey zone → LooksFor drive table zone (Some block) → TellsFinding drive n survey table zone (NeedsBlock block)
examine-needs drive n survey table zone block moved looks logs known holds covers =
    let there = moved logs known.heads in
    finds-needed drive n logs survey zone block (own_of table zone) known there (own-covered survey logs table zone known.heads there (covers there)).0
    (looked drive n survey table zone (Some block) moved looks logs known holds covers)

-- a zone of Moves without which the size changes is found to be needed for it
pub examine-size : (drive : DriveState) (n : ℕ) (survey : Survey) (table : BlockRecords) (sizes : SizeCounts) (zone : ℕ) (told : Bool) → AllMoved survey zone → sizes ≡ size_counts survey.size (heads_in survey.scanned.items) → told ≡ false → TellsSize n survey sizes zone told
    → TellsFinding drive n survey table zone NeedsSize
examine-size drive n survey table sizes zone told moved counts is tells logs known holds covers =
    let tells' = rw is at tells in
    (moved logs known.heads, tells' drive logs known counts)

-- a zone of Moves that neither a block nor the size needs is found half clean
pub examine-half : (drive : DriveState) (n : ℕ) (survey : Survey) (table : BlockRecords) (sizes : SizeCounts) (zone : ℕ) (told : Bool) → AllMoved survey zone → LooksFor drive table zone None
    → sizes ≡ size_counts survey.size (heads_in survey.scanned.items) → told ≡ true → TellsSize n survey sizes zone told → TellsFinding drive n survey table zone HalfClean
examine-half drive n survey table sizes zone told moved looks counts is tells logs known holds covers =
    let tells' = rw is at tells in
    let there = moved logs known.heads in
    finds-half drive n logs survey zone table known there (own-covered survey logs table zone known.heads there (covers there)).0 (looked drive n survey table zone None moved looks logs known holds covers) (tells' drive logs known counts)

-- a scanned zone that was read at its number is the one that the survey holds
pub found-in : (items : List ScannedZone) (survey : Survey) (zone : ℕ) (found : ScannedZone) → items ≡ survey.scanned.items → zone < length items → found ≡ get_or items zone found → slice_get survey.scanned.items zone ≡ Some found
found-in items survey zone found same lt is = subst (λ (xs : List ScannedZone). slice_get xs zone ≡ Some found) same (there items zone found lt is)

-- a table of one zone's blocks
pub examine-one : (drive : DriveState) (n : ℕ) (survey : Survey) (table : BlockRecords) (zone : ℕ) (finding : Finding) → CoversZone survey.scanned.items table zone
    → ((some : DriveState) (k : ℕ) (logs : List (List Batch)) → Knows some k logs survey → HoldsRecords logs table) → TellsFinding drive n survey table zone finding
    → (logs : List (List Batch)) → Knows drive n logs survey → Finds drive.geometry.block n logs zone finding
examine-one drive n survey table zone finding covers holds tells logs known = tells logs known (holds drive n logs known) (λ moved. covers)

-- a fact of an Ok finding gives any fact that it implies
pub finding-ok : {E : Type 0} (P Q : Finding → Type 0) (result : Result Finding E) → ((finding : Finding) → P finding → Q finding) → IfOk result P → IfOk result Q
finding-ok P Q (Ok finding) f p = f finding p
finding-ok P Q (Err e) f p = tt
