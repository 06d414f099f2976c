-- Which zones have to be looked at again once a half clean zone is forgotten.
use Rattle.std.proofs.Common.{◌≡◌, ◌≢◌, ◌⊎◌, inl, inr, ℕ, suc, ◌<◌, ◌≤◌, Bool, true, false, List, [], length, map, drop, get_or, Option, Some, None, Result, Ok, Err, refl, sym, ap, subst, ◌∙◌, arith}
use Rattle.std.specs.Prelude.{IsSome, IsTrue, OnOk, slice_get}
use Rattle.std.specs.BTreeSet.{BTreeSet, IsSubset, contains}
use Rattle.std.specs.List.{AllByRecursion, count_by}
use Rattle.std.specs.Ordering.{nat_cmp}
use Rattle.std.proofs.lemmas.Bool.{cases_eq}
use Rattle.std.proofs.lemmas.List.{drop_all, get_or-set_other, length-set, set_comm}
use Rattle.std.proofs.Math.Seq.{drop-cons}
use Rattle.drive_port.specs.Drive.{DriveState}
use Rattle.batch_log.specs.Log.{Batch}
use Rattle.drive_array.specs.Records.{IsNewest, Record, newest, records, shown, without}
use Rattle.drive_array.specs.Repairing.{IsMoved, NeedsItsBlock}
use Rattle.drive_array.specs.Sizes.{encoded_size, size_or}
use Rattle.drive_array.specs.Spare.{IsHalfClean, first_sequence}
use Rattle.drive_array.specs.ZoneLogs.{log_at}
use Rattle.drive_array.proofs.AllLaws.{all-at, all-weaker}
use Rattle.drive_array.proofs.NewestLaws.{all-among, newest-is}
use Rattle.drive_array.proofs.SizeLaws.{same-size}
use Rattle.drive_array.proofs.ClearingLaws.{without-same}
use Rattle.drive_survey.specs.declared.clearing.block_records.BlockRecords.{BlockRecords}
use Rattle.drive_survey.specs.declared.clearing.Candidates.{Candidates}
use Rattle.drive_survey.specs.declared.records.KeptRecord.{KeptRecord}
use Rattle.drive_survey.specs.declared.scan.ScannedZone.{ScannedZone}
use Rattle.drive_survey.specs.declared.clearing.sizes.SizeCounts.{SizeCounts}
use Rattle.drive_survey.specs.declared.survey.Survey.{Survey}
use Rattle.drive_survey.specs.BlockRecords.{HoldsEach, HoldsMore, HoldsRecords, held_of, own_of}
use Rattle.drive_survey.specs.Clearing.{AreOf, CoversHeads, CoversMoved, Tells, without_heads}
use Rattle.drive_survey.specs.Heads.{HeadsView, heads_of}
use Rattle.drive_survey.specs.KeptRecords.{kept_of_zone}
use Rattle.drive_survey.specs.NewestRecords.{AreNewest}
use Rattle.drive_survey.specs.Scan.{heads_in}
use Rattle.drive_survey.specs.SizeCounts.{says_some, size_counts}
use Rattle.drive_survey.specs.Survey.{greatest_in}
use Rattle.drive_survey.specs.Waiting.{AllWait, AreCandidates, HolderWaits, HoldersWait, IsNeeded, LastWaits, LosesZone, OthersWait}
use Rattle.drive_survey.proofs.ClearLaws.{Forgets, knows-less}
use Rattle.drive_survey.proofs.FindLaws.{half-moved}
use Rattle.drive_survey.proofs.MovedLaws.{forgotten-are, found-heads, moved-batch, not-found, size-forgotten, none-before}
use Rattle.drive_survey.proofs.OutsideLaws.{none-outside, outside, outside-is, stays-outside}
use Rattle.drive_survey.proofs.SizeCountLaws.{size-needs}
use Rattle.drive_survey.proofs.SurveyLaws.{greatest-heads}
use Rattle.drive_survey.proofs.OwnLaws.{own-named}
use Rattle.drive_survey.proofs.SpareLaws.{knows-small, same-none, same-other}
use Rattle.drive_survey.proofs.ShowLaws.{outside-stands}
use Rattle.drive_survey.proofs.RecordHoldLaws.{each-more, heads-more}

-- ---- sets of zones

holders-more : (logs : List (List Batch)) (old new : BTreeSet ℕ) (own : List KeptRecord) → IsSubset nat_cmp old new → HoldersWait logs old own → HoldersWait logs new own
holders-more logs old new own more all = all-weaker (λ (k : KeptRecord). HolderWaits logs old k.block) (λ (k : KeptRecord). HolderWaits logs new k.block) own (λ k waits r is. more r.zone (waits r is)) all

-- ---- a zone of Moves

-- a zone of Moves was one before
moved-less : (logs : List (List Batch)) (gone zone : ℕ) → zone ≢ gone → IsMoved (without logs gone) zone → IsMoved logs zone
moved-less logs gone zone apart is =
    let own : log_at (without logs gone) zone ≡ log_at logs zone = get_or-set_other logs gone zone [] [] apart in
    elim (cases_eq is.victim gone) as (λ _. IsMoved logs zone) [
      | inl same ↦ absurd (none-before (first_sequence (log_at (without logs gone) zone)) (rw (same, without-same logs gone) at is.older))
      | inr other ↦ record { victim = is.victim; apart = is.apart; moves = rw own at is.moves; older = rw (own, get_or-set_other logs gone is.victim [] [] other) at is.older }
    ]

-- ---- a block that a zone shows

abbrev AllWoken : List (List Batch) → ℕ → BTreeSet ℕ → Type 0
AllWoken logs gone waiting = AllByRecursion (λ (r : Record). r.zone ≡ gone → HolderWaits (without logs gone) waiting r.block) (records 0 logs)

without-is : (zone : ℕ) (logs : List (List Batch)) → outside zone (records 0 logs) ≡ records 0 (without logs zone)
without-is zone logs = outside-is 0 zone zone logs (omega arith)

-- A block that shows something else without a zone does so still, unless the zone that is gone names the block too: then the first one waits.
block-needs : (block_bytes n : ℕ) (logs : List (List Batch)) (gone zone block : ℕ) (waiting : BTreeSet ℕ) → zone ≢ gone → encoded_size n (without logs gone) ≡ encoded_size n logs → AllWoken logs gone waiting
    → NeedsItsBlock block_bytes n logs zone block → IsTrue (contains nat_cmp waiting zone) ⊎ NeedsItsBlock block_bytes n (without logs gone) zone block
block-needs block_bytes n logs gone zone block waiting apart size woken needs = by (newest block (records 0 logs)) refl
  where
    Goal : Type 0
    Goal = IsTrue (contains nat_cmp waiting zone) ⊎ NeedsItsBlock block_bytes n (without logs gone) zone block

    turned : without (without logs gone) zone ≡ without (without logs zone) gone
    turned = set_comm logs gone zone [] [] (λ e. apart (sym e))

    shows : (r : Record) → newest block (records 0 logs) ≡ Some r → r.zone ≢ gone → newest block (records 0 (without logs gone)) ≡ Some r
    shows r is other = ap (newest block) (sym (without-is gone logs)) ∙ stays-outside block gone (records 0 logs) r is other

    -- without the zone the block shows the same as before
    still : (r : Record) → newest block (records 0 logs) ≡ Some r → r.zone ≢ gone → newest block (records 0 (without (without logs zone) gone)) ≡ newest block (records 0 (without logs zone)) → Goal
    still r is other same = inr (record {
      in_range = rw size needs.in_range;
      differs = λ shown_same. needs.differs (
          ap (shown block_bytes) (sym same ∙ ap (λ (ls : List (List Batch)). newest block (records 0 ls)) (sym turned)) ∙ shown_same ∙ ap (shown block_bytes) (shows r is other ∙ sym is)
          );
    })

    next : (r : Record) → newest block (records 0 logs) ≡ Some r → r.zone ≡ zone → r.zone ≢ gone → (x : Option Record) → newest block (records 0 (without logs zone)) ≡ x → IsNewest (records 0 (without logs zone)) block x → Goal
    next r is here other None none found = still r is other (ap (newest block) (sym (without-is gone (without logs zone))) ∙ none-outside block gone (records 0 (without logs zone)) none ∙ sym none)
    next r is here other (Some q) some found = elim (cases_eq q.zone gone) as (λ _. Goal) [
      | inl same ↦ (
          let P : Record → Type 0 = λ x. x.zone ≡ gone → HolderWaits (without logs gone) waiting x.block in
          let all : AllByRecursion P (records 0 (without logs zone)) = subst (AllByRecursion P) (without-is zone logs) (outside-stands P zone (records 0 logs) woken) in
          let waits = all-among P (records 0 (without logs zone)) q all found.1.among same in
          let waits' = subst (HolderWaits (without logs gone) waiting) found.0 waits in
          inl (subst (λ (z : ℕ). IsTrue (contains nat_cmp waiting z)) here (waits' r (shows r is other)))
          )
      | inr q_other ↦ still r is other (ap (newest block) (sym (without-is gone (without logs zone))) ∙ stays-outside block gone (records 0 (without logs zone)) q some q_other ∙ sym some)
    ]

    by : (x : Option Record) → newest block (records 0 logs) ≡ x → Goal
    by None e = absurd (needs.differs (same-none block_bytes logs zone block e))
    by (Some r) e = elim (cases_eq r.zone zone) as (λ _. Goal) [
      | inl here ↦ next r e here (λ there. apart (sym here ∙ there)) (newest block (records 0 (without logs zone))) refl (newest-is block (records 0 (without logs zone)))
      | inr other ↦ absurd (needs.differs (same-other block_bytes logs zone block r e other))
    ]

-- ---- a zone that is not half clean

abbrev IsLastWoken : List HeadsView → ℕ → BTreeSet ℕ → Type 0
IsLastWoken views gone waiting = count_by says_some (without_heads views gone) ≡ 1 → count_by says_some views ≢ 1 → LastWaits (without_heads views gone) waiting

-- it is not half clean still, unless it waits
needed-still : (block_bytes n : ℕ) (logs : List (List Batch)) (views : List HeadsView) (gone zone : ℕ) (waiting : BTreeSet ℕ) → views ≡ map heads_of logs → zone ≢ gone → encoded_size n (without logs gone) ≡ encoded_size n logs
    → AllWoken logs gone waiting → IsLastWoken views gone waiting → IsNeeded block_bytes n logs zone → IsTrue (contains nat_cmp waiting zone) ⊎ IsNeeded block_bytes n (without logs gone) zone
needed-still block_bytes n logs views gone zone waiting are apart size woken last (inl never) = inr (inl (λ moved. never (moved-less logs gone zone apart moved)))
needed-still block_bytes n logs views gone zone waiting are apart size woken last (inr (inl needs)) = elim (block-needs block_bytes n logs gone zone needs.0 waiting apart size woken needs.1) as (λ _. IsTrue (contains nat_cmp waiting zone) ⊎ IsNeeded block_bytes n (without logs gone) zone) [
  | inl waits ↦ inl waits
  | inr needs' ↦ inr (inr (inl (needs.0, needs')))
]
needed-still block_bytes n logs views gone zone waiting are apart size woken last (inr (inr differs)) =
    let all = encoded_size n logs in
    let left = size-forgotten n logs views gone are in
    let own = size-forgotten n logs views zone are in
    let both = size-forgotten n (without logs gone) (without_heads views gone) zone (forgotten-are logs views gone are) in
    elim (size-needs n all gone zone views waiting apart (sym (left ∙ size)) (sym (ap (size_or n) (ap greatest_in are ∙ greatest-heads logs))) (λ same. differs (sym own ∙ same)) last) as (λ _. IsTrue (contains nat_cmp waiting zone) ⊎ IsNeeded block_bytes n (without logs gone) zone) [
      | inl waits ↦ inl waits
      | inr differs' ↦ inr (inr (inr (λ same. differs' (both ∙ same ∙ size))))
    ]

-- ---- a half clean zone is given up

-- what is done of the candidates
pub record Wakes (before after : Survey) (old new : Candidates) (woken : BTreeSet ℕ) (zone : ℕ) : Type 0 where
  pub forgets : Forgets before after zone
  pub loses : LosesZone old.records new.records zone
  pub sizes : old.sizes ≡ size_counts before.size (heads_in before.scanned.items) → new.sizes ≡ size_counts before.size (without_heads (heads_in before.scanned.items) zone)
  pub first : IsSubset nat_cmp old.waiting woken
  pub holders : (logs : List (List Batch)) → HoldsRecords logs new.records → HoldsEach new.records (own_of old.records zone) → HoldersWait logs woken (own_of old.records zone)
  pub then : IsSubset nat_cmp woken new.waiting
  pub last : new.sizes.any ≡ 1 → old.sizes.any ≢ 1 → LastWaits (heads_in after.scanned.items) new.waiting

-- the records of the other zones of Moves are kept still
covers-less : (logs : List (List Batch)) (before after : Survey) (old new : BlockRecords) (gone : ℕ) → heads_in before.scanned.items ≡ map heads_of logs → heads_in after.scanned.items ≡ without_heads (heads_in before.scanned.items) gone → HoldsMore old new
    → ((q : ℕ) → q ≢ gone → own_of new q ≡ own_of old q) → CoversMoved logs before.scanned.items old → CoversMoved (without logs gone) after.scanned.items new
covers-less logs before after old new gone are forgets more others covers zone moved found there_is = by (slice_get before.scanned.items zone) refl
  where
    apart : zone ≢ gone
    apart same = moved-batch (without logs gone) zone moved (rw same (without-same logs gone))

    was : IsMoved logs zone
    was = moved-less logs gone zone apart moved

    by : (x : Option ScannedZone) → slice_get before.scanned.items zone ≡ x → CoversHeads new zone found.heads
    by None is = absurd (not-found before.scanned.items logs zone are is was)
    by (Some old_found) is =
        let own : log_at (without logs gone) zone ≡ log_at logs zone = get_or-set_other logs gone zone [] [] apart in
        let now = found-heads after.scanned.items (without logs gone) zone found (forgets ∙ forgotten-are logs (heads_in before.scanned.items) gone are) there_is in
        let then = found-heads before.scanned.items logs zone old_found are is in
        let same : old_found.heads ≡ found.heads = then ∙ ap heads_of (sym own) ∙ sym now in
        subst (CoversHeads new zone) same (heads-more old new zone old_found.heads more (others zone apart) (covers zone was old_found is))

holds-less : (before after : Survey) (old new : Candidates) (woken : BTreeSet ℕ) (gone : ℕ) → Wakes before after old new woken gone → (drive : DriveState) (n : ℕ) (logs : List (List Batch)) → AreCandidates drive n logs before old → IsMoved logs gone
    → HoldsRecords (without logs gone) new.records
holds-less before after old new woken gone wakes drive n logs are moved = by (slice_get before.scanned.items gone) refl
  where
    by : (x : Option ScannedZone) → slice_get before.scanned.items gone ≡ x → HoldsRecords (without logs gone) new.records
    by None is = absurd (not-found before.scanned.items logs gone are.known.heads is moved)
    by (Some found) is = wakes.loses.holds drive n logs before found are.known is (are.covers gone moved found is) are.records

-- the candidates are still known after a half clean zone is given up
pub given-are : (before after : Survey) (old new : Candidates) (woken : BTreeSet ℕ) (gone : ℕ) → Wakes before after old new woken gone
    → (drive : DriveState) (n : ℕ) (logs : List (List Batch)) → AreCandidates drive n logs before old → IsHalfClean drive.geometry.block n logs gone → AreCandidates drive n (without logs gone) after new
given-are before after old new woken gone wakes drive n logs are half = record {
  known = knows-less drive n logs before after gone are.known half wakes.forgets;
  records = holds-less before after old new woken gone wakes drive n logs are (half-moved drive.geometry.block n logs gone half);
  covers = covers-less logs before after old.records new.records gone are.known.heads wakes.forgets.heads wakes.loses.more wakes.loses.others are.covers;
  sizes = wakes.sizes are.sizes ∙ ap (λ (size : ℕ). size_counts size (without_heads (heads_in before.scanned.items) gone)) (sym wakes.forgets.size) ∙ ap (λ (hs : List HeadsView). size_counts after.size hs) (sym wakes.forgets.heads);
}

-- the zones that show a block of the zone wait
all-woken : (drive : DriveState) (n : ℕ) (logs : List (List Batch)) (before after : Survey) (old new : Candidates) (woken : BTreeSet ℕ) (gone : ℕ) → Wakes before after old new woken gone → AreCandidates drive n logs before old → IsMoved logs gone
    → AllWoken logs gone new.waiting
all-woken drive n logs before after old new woken gone wakes are moved = by (slice_get before.scanned.items gone) refl
  where
    P : ℕ → Type 0
    P block = HolderWaits (without logs gone) new.waiting block

    by : (x : Option ScannedZone) → slice_get before.scanned.items gone ≡ x → AllWoken logs gone new.waiting
    by None is = absurd (not-found before.scanned.items logs gone are.known.heads is moved)
    by (Some found) is =
        let own = own_of old.records gone in
        let covers = are.covers gone moved found is in
        let held = each-more old.records new.records own wakes.loses.more covers.1 in
        let wait = wakes.holders (without logs gone) (holds-less before after old new woken gone wakes drive n logs are moved) held in
        let newest_own : AreNewest (kept_of_zone gone (heads_of (log_at logs gone))) own = subst (λ (h : HeadsView). AreNewest (kept_of_zone gone h) own) (found-heads before.scanned.items logs gone found are.known.heads is) covers.0 in
        own-named P gone logs own (knows-small drive n logs before are.known) newest_own (holders-more (without logs gone) woken new.waiting own wakes.then wait)

-- if all others waited, each half clean zone waits after one is given up
pub given-wait : (before after : Survey) (old new : Candidates) (woken : BTreeSet ℕ) (gone : ℕ) → Wakes before after old new woken gone
    → (drive : DriveState) (n : ℕ) (logs : List (List Batch)) → AreCandidates drive n logs before old → IsHalfClean drive.geometry.block n logs gone → OthersWait drive n logs old gone → AllWait drive n (without logs gone) new
given-wait before after old new woken gone wakes drive n logs are half others zone lt = elim (cases_eq zone gone) as (λ _. IsTrue (contains nat_cmp new.waiting zone) ⊎ IsNeeded b n (without logs gone) zone) [
  | inl here ↦ inr (inl (λ moved. moved-batch (without logs gone) zone moved (rw here (without-same logs gone))))
  | inr apart ↦ (elim (others zone (omega (arith, lt, length-set logs gone [])) apart) as (λ _. IsTrue (contains nat_cmp new.waiting zone) ⊎ IsNeeded b n (without logs gone) zone) [
    | inl waits ↦ inl (wakes.then zone (wakes.first zone waits))
    | inr needed ↦ needed-still b n logs (heads_in before.scanned.items) gone zone new.waiting are.known.heads apart (same-size b n (without logs gone) logs half.spare)
        (all-woken drive n logs before after old new woken gone wakes are (half-moved b n logs gone half)) last needed
  ])
]
  where
    b : ℕ
    b = drive.geometry.block

    last : IsLastWoken (heads_in before.scanned.items) gone new.waiting
    last one more = subst (λ (hs : List HeadsView). LastWaits hs new.waiting) wakes.forgets.heads
        (wakes.last (ap (λ (c : SizeCounts). c.any) (wakes.sizes are.sizes) ∙ one) (λ same. more (sym (ap (λ (c : SizeCounts). c.any) are.sizes) ∙ same)))

-- two facts of an Ok answer give each fact that they imply together
pub ok-both : {T E P Q R : Type 0} (result : Result T E) → (P → Q → R) → OnOk result P → OnOk result Q → OnOk result R
ok-both (Ok x) f p q = f p q
ok-both (Err e) f p q = tt

-- a fact that always holds is a fact of an Ok answer
pub ok-given : {T E P : Type 0} (result : Result T E) → P → OnOk result P
ok-given (Ok x) p = p
ok-given (Err e) p = tt

-- ---- record after record

-- the holders of the first records' blocks wait
abbrev pub WokenSoFar : BlockRecords → BTreeSet ℕ → List KeptRecord → ℕ → Type 0
WokenSoFar table now own i = (logs : List (List Batch)) → HoldsRecords logs table → HoldsEach table own → (more : BTreeSet ℕ) → IsSubset nat_cmp now more → HoldersWait logs more (drop i own) → HoldersWait logs more own

-- if the zone that shows the next record's block waits, one record less is left
pub woken-more : (table : BlockRecords) (old new : BTreeSet ℕ) (own : List KeptRecord) (i i' : ℕ) (d : KeptRecord) → i < length own → i' ≡ suc i → IsSubset nat_cmp old new
    → ((logs : List (List Batch)) → HoldsRecords logs table → IsSome (held_of table (get_or own i d).block) → HolderWaits logs new (get_or own i d).block) → WokenSoFar table old own i → WokenSoFar table new own i'
woken-more table old new own i i' d lt next grown tells so_far logs holds held more larger rest =
    let here : HolderWaits logs more (get_or own i d).block = λ r shows. larger r.zone (tells logs holds (all-at (λ (k : KeptRecord). IsSome (held_of table k.block)) own i d held lt) r shows) in
    so_far logs holds held more (λ q waits. larger q (grown q waits)) (rw (drop-cons own i d lt) (here, rw next at rest))

-- with no record left, the zones that show the records' blocks all wait
pub woken-all : (table : BlockRecords) (now : BTreeSet ℕ) (own : List KeptRecord) (i : ℕ) → length own ≤ i → WokenSoFar table now own i → (logs : List (List Batch)) → HoldsRecords logs table → HoldsEach table own → HoldersWait logs now own
woken-all table now own i le so_far logs holds held = so_far logs holds held now (λ q waits. waits) (rw (drop_all i own le) tt)

-- no record of the zone is kept
pub woken-none : (waiting : BTreeSet ℕ) (own : List KeptRecord) (logs : List (List Batch)) → own ≡ [] → HoldersWait logs waiting own
woken-none waiting own logs none = rw none tt

-- ---- all zones of Moves

-- those below a limit, and no other
abbrev pub MovedSoFar : List ScannedZone → BTreeSet ℕ → ℕ → Type 0
MovedSoFar scanned zones limit =
    ((logs : List (List Batch)) → AreOf scanned logs → (zone : ℕ) → zone < limit → Tells (contains nat_cmp zones zone) (IsMoved logs zone)) × ((zone : ℕ) → limit ≤ zone → contains nat_cmp zones zone ≡ false)

-- a set of them has each half clean zone
pub all-wait : (zones : BTreeSet ℕ) (block_bytes n : ℕ) (logs : List (List Batch)) (zone : ℕ) → Tells (contains nat_cmp zones zone) (IsMoved logs zone) → IsTrue (contains nat_cmp zones zone) ⊎ IsNeeded block_bytes n logs zone
all-wait zones block_bytes n logs zone tells = by (contains nat_cmp zones zone) refl tells
  where
    by : (b : Bool) → contains nat_cmp zones zone ≡ b → Tells b (IsMoved logs zone) → IsTrue (contains nat_cmp zones zone) ⊎ IsNeeded block_bytes n logs zone
    by true is told = inl is
    by false is never = inr (inl never)
