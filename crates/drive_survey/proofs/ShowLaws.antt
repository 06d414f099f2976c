-- What blocks show, as it is read.
use Rattle.std.proofs.Common.{◌≡◌, ◌≢◌, inl, inr, ℕ, zero, suc, ◌<◌, ◌≤◌, Bool, true, false, cond, List, [], ◌∷◌, length, get_or, Option, Some, None, refl, sym, ap, subst, ◌∙◌, arith}
use Rattle.std.specs.Prelude.{slice_get}
use Rattle.std.proofs.lemmas.Bool.{cases_lt}
use Rattle.std.specs.List.{AllByRecursion}
use Rattle.std.specs.Option.{IsSome, option_map}
use Rattle.drive_port.specs.Drive.{DriveState}
use Rattle.drive_port.proofs.ClosingLaws.{length-closing}
use Rattle.batch_log.specs.Log.{Batch}
use Rattle.drive_array.specs.Records.{IsNewest, Record, newest, records, shown, without}
use Rattle.drive_array.proofs.AllLaws.{all-at, all-weaker}
use Rattle.drive_array.proofs.NewestLaws.{all-among, newest-is}
use Rattle.drive_survey.specs.declared.records.KeptRecord.{KeptRecord}
use Rattle.drive_survey.specs.declared.reported.ReportedZone.{ReportedZone}
use Rattle.drive_survey.specs.declared.clearing.block_records.BlockRecords.{BlockRecords}
use Rattle.drive_survey.specs.declared.clearing.shown.Rivals.{Rivals}
use Rattle.drive_survey.specs.Clearing.{AllStand, AreRivals, IfStands, IsNeededAt, LooksFor, ShowSameBefore, ShowsSame, StandsAt, Tells, TellsRivals}
use Rattle.drive_survey.specs.KeptRecords.{kept_record}
use Rattle.drive_survey.specs.Reported.{IsKnown, KeepsZones}
use Rattle.drive_survey.specs.BlockRecords.{HoldsEach, HoldsRecords, held_of, own_of}
use Rattle.drive_survey.specs.Scan.{block_of, readable_at}
use Rattle.drive_survey.proofs.NewestRecordLaws.{contains-get, get-below}
use Rattle.drive_survey.proofs.OutsideLaws.{is_outside, outside, outside-is}
use Rattle.drive_survey.proofs.ReadLaws.{kept-blocks}
use Rattle.drive_survey.proofs.RecordMapLaws.{all-self}
use Rattle.drive_survey.proofs.SpareLaws.{same-none, same-other}

-- ---- the drive stays as it is

stands-kept : (old new : DriveState) (r : Record) → KeepsZones old new → StandsAt old r → StandsAt new r
stands-kept old new r kept stands bytes some =
    let at = stands bytes some in
    (omega (arith, at.0, length-closing old.zones new.zones kept.closing), rw (kept-blocks old new r.zone kept) at.1, rw (kept-blocks old new r.zone kept) at.2)

-- the data of a record, if any, is still at its place after a look at the drive
if-kept : (old new : DriveState) (r : Option Record) → KeepsZones old new → IfStands old r → IfStands new r
if-kept old new None kept stands = tt
if-kept old new (Some r) kept stands = stands-kept old new r kept stands

-- the data of all records is still at its place after a look at the drive
all-kept : (old new : DriveState) (logs : List (List Batch)) → KeepsZones old new → AllStand old logs → AllStand new logs
all-kept old new logs kept all = all-weaker (StandsAt old) (StandsAt new) (records 0 logs) (λ r stands. stands-kept old new r kept stands) all

-- ---- whether a block shows the same

newest-stands : (drive : DriveState) (logs : List (List Batch)) (block : ℕ) (rs : List Record) → AllByRecursion (StandsAt drive) rs → IfStands drive (newest block rs)
newest-stands drive logs block rs all = by (newest block rs) (newest-is block rs)
  where
    by : (x : Option Record) → IsNewest rs block x → IfStands drive x
    by None is = tt
    by (Some r) is = all-among (StandsAt drive) rs r all is.1.among

-- what all records have, those outside a zone have
pub outside-stands : (P : Record → Type 0) (zone : ℕ) (rs : List Record) → AllByRecursion P rs → AllByRecursion P (outside zone rs)
outside-stands P zone [] all = tt
outside-stands P zone (r ∷ rs) all = by (is_outside zone r) (outside-stands P zone rs all.1)
  where
    by : (t : Bool) → AllByRecursion P (outside zone rs) → AllByRecursion P (cond t (r ∷ outside zone rs) (outside zone rs))
    by true rest = (all.0, rest)
    by false rest = rest

-- what a table answers of a block that it holds
abbrev pub TellsNewest : BlockRecords → ℕ → Option KeptRecord → Type 0
TellsNewest table block newest_kept = (logs : List (List Batch)) → HoldsRecords logs table → IsSome (held_of table block) → newest_kept ≡ option_map kept_record (newest block (records 0 logs))

-- what a table answers of the newest record outside a zone
abbrev pub TellsOutside : BlockRecords → ℕ → ℕ → Option KeptRecord → Type 0
TellsOutside table block zone other = (logs : List (List Batch)) → HoldsRecords logs table → IsSome (held_of table block) → other ≡ option_map kept_record (newest block (records 0 (without logs zone)))

-- whether two kept records show the same of their block
abbrev pub TellsRecords : DriveState → Option KeptRecord → Option KeptRecord → Bool → Type 0
TellsRecords drive newest_kept other same = (new old : Option Record) → newest_kept ≡ option_map kept_record new → other ≡ option_map kept_record old → IfStands drive new → IfStands drive old → Tells same (shown drive.geometry.block old ≡ shown drive.geometry.block new)

-- comparing the newest record with the newest outside a zone tells whether the block shows the same
same-told : (drive : DriveState) (logs : List (List Batch)) (table : BlockRecords) (zone block : ℕ) (newest_kept other : Option KeptRecord) (same : Bool) → TellsNewest table block newest_kept → TellsOutside table block zone other
    → TellsRecords drive newest_kept other same → HoldsRecords logs table → AllStand drive logs → IsSome (held_of table block) → Tells same (ShowsSame drive.geometry.block logs zone block)
same-told drive logs table zone block newest_kept other same first second tells holds stand some =
    tells (newest block (records 0 logs)) (newest block (records 0 (without logs zone))) (first logs holds some) (second logs holds some) (newest-stands drive logs block (records 0 logs) stand)
    (newest-stands drive logs block (records 0 (without logs zone)) (subst (λ (rs : List Record). AllByRecursion (StandsAt drive) rs) (outside-is 0 zone zone logs (omega arith)) (outside-stands (StandsAt drive) zone (records 0 logs) stand)))

-- a block with no newest record shows the same without the zone
pub same-absent : (block_bytes : ℕ) (logs : List (List Batch)) (table : BlockRecords) (zone block : ℕ) → TellsNewest table block None → HoldsRecords logs table → IsSome (held_of table block) → ShowsSame block_bytes logs zone block
same-absent block_bytes logs table zone block tells holds some = by (newest block (records 0 logs)) refl (tells logs holds some)
  where
    by : (x : Option Record) → newest block (records 0 logs) ≡ x → None ≡ option_map kept_record (newest block (records 0 logs)) → ShowsSame block_bytes logs zone block
    by None e told = same-none block_bytes logs zone block e
    by (Some r) e told = absurd (let bad = told ∙ ap (option_map kept_record) e in cc)

-- a block whose newest record is in another zone shows the same without the zone
pub same-apart : (block_bytes : ℕ) (logs : List (List Batch)) (table : BlockRecords) (zone block : ℕ) (kept : KeptRecord) → TellsNewest table block (Some kept) → kept.zone ≢ zone → HoldsRecords logs table → IsSome (held_of table block) → ShowsSame block_bytes logs zone block
same-apart block_bytes logs table zone block kept tells apart holds some = by (newest block (records 0 logs)) refl (tells logs holds some)
  where
    by : (x : Option Record) → newest block (records 0 logs) ≡ x → Some kept ≡ option_map kept_record (newest block (records 0 logs)) → ShowsSame block_bytes logs zone block
    by None e told = absurd (let bad = told ∙ ap (option_map kept_record) e in cc)
    by (Some r) e told =
        let one : Some kept ≡ Some (kept_record r) = told ∙ ap (option_map kept_record) e in
        let eq : kept ≡ kept_record r = cc in
        same-other block_bytes logs zone block r e (λ z. apart (ap (λ (k : KeptRecord). k.zone) eq ∙ z))

-- ---- block after block

abbrev AreSame : ℕ → List (List Batch) → ℕ → List KeptRecord → Type 0
AreSame block_bytes logs zone own = AllByRecursion (λ (r : KeptRecord). ShowsSame block_bytes logs zone r.block) own

-- the blocks of the first records show the same
abbrev pub SameSoFar : DriveState → BlockRecords → ℕ → List KeptRecord → ℕ → Type 0
SameSoFar drive table zone own i = (logs : List (List Batch)) → HoldsRecords logs table → AllStand drive logs → HoldsEach table own → ShowSameBefore drive.geometry.block logs zone own i

get-is : {X : Type 0} (xs : List X) (i : ℕ) (d x : X) → slice_get xs i ≡ Some x → get_or xs i d ≡ x
get-is [] i d x is = absurd (cc)
get-is (y ∷ ys) zero d x is = cc
get-is (y ∷ ys) (suc i) d x is = get-is ys i d x is

at-get : {X : Type 0} (xs : List X) (i : ℕ) (d : X) → i < length xs → slice_get xs i ≡ Some (get_or xs i d)
at-get [] i d lt = absurd (omega (arith, lt))
at-get (y ∷ ys) zero d lt = refl
at-get (y ∷ ys) (suc i) d lt = at-get ys i d (omega (arith, lt))

-- before the first record no block shows anything else
pub same-first : (drive : DriveState) (table : BlockRecords) (zone : ℕ) (own : List KeptRecord) → SameSoFar drive table zone own 0
same-first drive table zone own logs holds stand held k r lt is = absurd (omega (arith, lt))

-- whether a block shows the same without a zone
abbrev pub TellsBlock : DriveState → BlockRecords → ℕ → ℕ → Bool → Type 0
TellsBlock drive table zone block same = (logs : List (List Batch)) → HoldsRecords logs table → AllStand drive logs → IsSome (held_of table block) → Tells same (ShowsSame drive.geometry.block logs zone block)

-- what is found of its records tells it
pub rivals-told : (drive : DriveState) (table : BlockRecords) (zone block : ℕ) (rivals : Rivals) (same : Bool) → ((logs : List (List Batch)) → HoldsRecords logs table → IsSome (held_of table block) → AreRivals logs zone block rivals)
    → TellsRivals drive rivals same → TellsBlock drive table zone block same
rivals-told drive table zone block rivals same are tells logs holds stand some =
    same-told drive logs table zone block (Some rivals.newest) rivals.other same (λ ls h s. (are ls h s).newest_is) (λ ls h s. (are ls h s).other_is) tells holds stand some

-- a block that shows the same without the zone is told so
pub no-rivals-told : (drive : DriveState) (table : BlockRecords) (zone block : ℕ) → ((block_bytes : ℕ) (logs : List (List Batch)) → HoldsRecords logs table → IsSome (held_of table block) → ShowsSame block_bytes logs zone block) → TellsBlock drive table zone block true
no-rivals-told drive table zone block same logs holds stand some = same drive.geometry.block logs holds some

tells-first : (first now : DriveState) (table : BlockRecords) (zone block : ℕ) (same : Bool) → KeepsZones first now → TellsBlock now table zone block same → TellsBlock first table zone block same
tells-first first now table zone block same kept tells logs holds stand some =
    rw (← kept.geometry) (tells logs holds (all-kept first now logs kept stand) some)

block-held : (table : BlockRecords) (own : List KeptRecord) (i : ℕ) (d : KeptRecord) → HoldsEach table own → i < length own → IsSome (held_of table (get_or own i d).block)
block-held table own i d holds lt = all-at (λ (r : KeptRecord). IsSome (held_of table r.block)) own i d holds lt

-- if the next record's block shows the same, all blocks up to it do
pub same-more : (first now : DriveState) (table : BlockRecords) (zone : ℕ) (own : List KeptRecord) (i i' : ℕ) (d : KeptRecord) (same : Bool) → KeepsZones first now → i < length own → i' ≡ suc i → same ≡ true → TellsBlock now table zone (get_or own i d).block same
    → SameSoFar first table zone own i → SameSoFar first table zone own i'
same-more first now table zone own i i' d same kept lt more yes_same tells so_far logs holds stand held k r below is = elim (cases_lt k i) as (λ _. ShowsSame first.geometry.block logs zone r.block) [
  | inl earlier ↦ so_far logs holds stand held k r earlier is
  | inr ge ↦ (
      let told = rw yes_same at (tells-first first now table zone (get_or own i d).block same kept tells) in
      let at : k ≡ i = omega (arith, below, more, ge) in
      let one : get_or own i d ≡ r = get-is own i d r (rw at at is) in
      subst (λ (x : KeptRecord). ShowsSame first.geometry.block logs zone x.block) one (told logs holds stand (block-held table own i d held lt))
      )
]

-- the first block that shows something else without the zone is the one looked for
pub needed-here : (first now : DriveState) (table : BlockRecords) (zone : ℕ) (own : List KeptRecord) (i : ℕ) (d : KeptRecord) (same : Bool) → KeepsZones first now → own ≡ own_of table zone → i < length own → same ≡ false → TellsBlock now table zone (get_or own i d).block same
    → SameSoFar first table zone own i → LooksFor first table zone (Some (get_or own i d).block)
needed-here first now table zone own i d same kept is lt not_same tells so_far logs holds stand held =
    let here = rw not_same at (tells-first first now table zone (get_or own i d).block same kept tells) in
    let each : HoldsEach table own = rw is held in
    subst (λ (ks : List KeptRecord). IsNeededAt first.geometry.block logs zone ks (get_or own i d).block) is (record {
      place = i;
      found = get_or own i d;
      there = at-get own i d lt;
      block_is = refl;
      before = so_far logs holds stand each;
      differs = here logs holds stand (block-held table own i d each lt);
    })

-- if the blocks of all records kept of the zone show the same, none is found
pub none-needed : (drive : DriveState) (table : BlockRecords) (zone : ℕ) (own : List KeptRecord) (i : ℕ) → own ≡ own_of table zone → length own ≤ i → SameSoFar drive table zone own i → LooksFor drive table zone None
none-needed drive table zone own i is le so_far logs holds stand held =
    let before = so_far logs holds stand (rw is held) in
    subst (AreSame drive.geometry.block logs zone) is (all-self (λ (r : KeptRecord). ShowsSame drive.geometry.block logs zone r.block) own
    (λ r c. let at = contains-get own r c in before at.0 r (omega (arith, le, get-below own at.0 r at.1)) at.1))

-- ---- two records are compared

-- these bytes are what a kept record shows of its block
abbrev pub ReadsShown : DriveState → Option KeptRecord → List ℕ → Type 0
ReadsShown drive kept bytes = (found : Option Record) → kept ≡ option_map kept_record found → IfStands drive found → bytes ≡ shown drive.geometry.block found

-- two records whose bytes are equal show the same
pub both-same : (first now : DriveState) (newest_kept other : Option KeptRecord) (a b : List ℕ) → KeepsZones first now → ReadsShown first newest_kept a → ReadsShown now other b → a ≡ b
    → (new old : Option Record) → newest_kept ≡ option_map kept_record new → other ≡ option_map kept_record old → IfStands first new → IfStands first old → shown first.geometry.block old ≡ shown first.geometry.block new
both-same first now newest_kept other a b kept reads reads' same new old e f stands stands' =
    let second = rw kept.geometry at (reads' old f (if-kept first now old kept stands')) in
    sym second ∙ sym same ∙ reads new e stands

-- two records whose bytes differ do not show the same
pub both-differ : (first now : DriveState) (newest_kept other : Option KeptRecord) (a b : List ℕ) → KeepsZones first now → ReadsShown first newest_kept a → ReadsShown now other b → a ≢ b
    → (new old : Option Record) → newest_kept ≡ option_map kept_record new → other ≡ option_map kept_record old → IfStands first new → IfStands first old → shown first.geometry.block old ≡ shown first.geometry.block new → ⊥
both-differ first now newest_kept other a b kept reads reads' differ new old e f stands stands' same =
    let second = rw kept.geometry at (reads' old f (if-kept first now old kept stands')) in
    differ (reads new e stands ∙ sym same ∙ sym second)

-- ---- outside the readable blocks

-- there is no such block
pub not-readable : (drive : DriveState) (reported : ReportedZone) (zone offset : ℕ) (bytes : List ℕ) → IsKnown drive zone reported → reported.blocks ≤ offset → offset < length (readable_at drive zone) → bytes ≡ block_of drive zone offset
not-readable drive reported zone offset bytes known le lt = absurd (omega (arith, known.blocks, le, lt))
