-- Zones are cleared one after the other.
use Rattle.std.proofs.Common.{◌≡◌, inl, inr, ℕ, ◌^◌, ◌<◌, List, [], ◌∷◌, ◌++◌, length, Option, Some, None, refl, sym, ap, subst, ◌∙◌, arith, append_assoc, append-nil}
use Rattle.std.proofs.lemmas.List.{length-set}
use Rattle.zone_states.specs.declared.geometry.Geometry.{Geometry}
use Rattle.drive_port.specs.Drive.{DriveState}
use Rattle.batch_log.specs.Log.{Batch}
use Rattle.drive_array.specs.ZoneLogs.{drive_logs}
use Rattle.drive_array.specs.Records.{without}
use Rattle.drive_array.specs.Spare.{HasSpare, IsClearing, IsHalfClean, IsLowest, cleared}
use Rattle.drive_array.proofs.ClearingLaws.{clearing-part, fewer, has_batch, part-trans, with_batch}
use Rattle.drive_array.proofs.SizeLaws.{empty_spare}
use Rattle.drive_survey.specs.declared.clearing.Candidates.{Candidates}
use Rattle.drive_survey.specs.declared.survey.Survey.{Survey}
use Rattle.drive_survey.specs.Clearing.{AreOf, FindsLowest, without_heads}
use Rattle.drive_survey.specs.Known.{HasVacant, Knows}
use Rattle.drive_survey.specs.Reported.{KeepsZones}
use Rattle.drive_survey.specs.Scan.{heads_in, tails_in}
use Rattle.drive_survey.specs.Waiting.{AllWait, AreCandidates, FindsLowestWaiting, LeavesWaiting, OthersWait}
use Rattle.drive_survey.proofs.MovedLaws.{forgotten-are}
use Rattle.drive_survey.proofs.ReadLaws.{keeps-both, keeps-none}
use Rattle.drive_survey.proofs.SpareLaws.{knows-kept}

-- what is known without a half clean zone
pub record Forgets (old new : Survey) (zone : ℕ) : Type 0 where
  pub heads : heads_in new.scanned.items ≡ without_heads (heads_in old.scanned.items) zone
  pub tails : tails_in new.scanned.items ≡ tails_in old.scanned.items
  pub zones : new.zones ≡ old.zones
  pub size : new.size ≡ old.size
  pub given : new.given ≡ old.given

-- once a half clean zone is forgotten, the survey knows the logs without it
pub knows-less : (drive : DriveState) (n : ℕ) (logs : List (List Batch)) (old new : Survey) (zone : ℕ) → Knows drive n logs old → IsHalfClean drive.geometry.block n logs zone → Forgets old new zone → Knows drive n (without logs zone) new
knows-less drive n logs old new zone known half forgets =
    let emptied = empty_spare drive.geometry.block (2 ^ 63) n zone logs known.sound half.spare in
    record {
      all_logs = known.all_logs;
      count = length-set logs zone [] ∙ known.count;
      part = part-trans (drive_logs drive) logs (without logs zone) known.part (clearing-part logs (zone ∷ []));
      sound = emptied.sound;
      reserve = rw emptied.size_is known.reserve;
      size_is = forgets.size ∙ known.size_is ∙ sym emptied.size_is;
      given_is = forgets.given ∙ known.given_is;
      zones = rw forgets.zones known.zones;
      heads = forgets.heads ∙ forgotten-are logs (heads_in old.scanned.items) zone known.heads;
      tails = forgets.tails ∙ known.tails;
    }

-- ---- one zone more

cleared-more : (logs : List (List Batch)) (zones : List ℕ) (zone : ℕ) → cleared logs (zones ++ zone ∷ []) ≡ without (cleared logs zones) zone
cleared-more logs [] zone = refl
cleared-more logs (z ∷ zs) zone = cleared-more (without logs z) zs zone

-- these zones were cleared of a drive
pub record ClearsSoFar (first now : DriveState) (n : ℕ) (survey : Survey) (resets : List ℕ) : Type 0 where
  pub kept : KeepsZones first now
  pub known : Knows now n (cleared (drive_logs first) resets) survey
  pub lead : (rest : List ℕ) → IsClearing first.geometry.block n (cleared (drive_logs first) resets) rest → IsClearing first.geometry.block n (drive_logs first) (resets ++ rest)

-- at the start a survey that knows the drive's logs has cleared no zone
clears-none : (drive : DriveState) (n : ℕ) (survey : Survey) → Knows drive n (drive_logs drive) survey → ClearsSoFar drive drive n survey []
clears-none drive n survey known = record { kept = keeps-none drive known.zones.lawful; known = known; lead = λ rest is. is }

-- clearing the lowest half clean zone adds it to the zones that were cleared
clears-more : (first old new : DriveState) (n : ℕ) (before after : Survey) (resets more : List ℕ) (zone : ℕ) → ClearsSoFar first old n before resets → KeepsZones old new → IsLowest first.geometry.block n (cleared (drive_logs first) resets) zone → Forgets before after zone → more ≡ resets ++ zone ∷ []
    → ClearsSoFar first new n after more
clears-more first old new n before after resets more zone so_far kept lowest forgets pushed =
    let all = keeps-both first old new so_far.kept kept in
    let logs = cleared (drive_logs first) resets in
    let known = knows-kept old new n logs before kept so_far.known in
    let half : IsHalfClean new.geometry.block n logs zone = rw all.geometry lowest.half_clean in
    let less = knows-less new n logs before after zone known half forgets in
    let now : cleared (drive_logs first) more ≡ without logs zone = ap (cleared (drive_logs first)) pushed ∙ cleared-more (drive_logs first) resets zone in
    record {
      kept = all;
      known = subst (λ (ls : List (List Batch)). Knows new n ls after) (sym now) less;
      lead = lead now;
    }
  where
    lead : cleared (drive_logs first) more ≡ without (cleared (drive_logs first) resets) zone → (rest : List ℕ) → IsClearing first.geometry.block n (cleared (drive_logs first) more) rest → IsClearing first.geometry.block n (drive_logs first) (more ++ rest)
    lead now rest is =
        let joined : more ++ rest ≡ resets ++ (zone ∷ rest) = ap (λ (zs : List ℕ). zs ++ rest) pushed ∙ append_assoc resets (zone ∷ []) rest in
        rw joined (so_far.lead (zone ∷ rest) (lowest, subst (λ (ls : List (List Batch)). IsClearing first.geometry.block n ls rest) now is))

-- fewer zones have a batch then
pub clears-fewer : (block_bytes n : ℕ) (logs : List (List Batch)) (resets more : List ℕ) (zone : ℕ) → IsLowest block_bytes n (cleared logs resets) zone → more ≡ resets ++ zone ∷ [] → with_batch (cleared logs more) < with_batch (cleared logs resets)
clears-fewer block_bytes n logs resets more zone lowest pushed =
    let now : cleared logs more ≡ without (cleared logs resets) zone = ap (cleared logs) pushed ∙ cleared-more logs resets zone in
    rw now (omega (arith, fewer (cleared logs resets) zone (has_batch block_bytes n (cleared logs resets) zone lowest.half_clean)))

-- ---- none is left

-- when no half clean zone is left, the zones that were cleared are a whole clearing
pub clears-all : (first now : DriveState) (n : ℕ) (survey : Survey) (resets : List ℕ) → ClearsSoFar first now n survey resets → FindsLowest first.geometry.block n (cleared (drive_logs first) resets) None → IsClearing first.geometry.block n (drive_logs first) resets
clears-all first now n survey resets so_far none = subst (IsClearing first.geometry.block n (drive_logs first)) (append-nil resets) (so_far.lead [] none)

-- ---- with the zones that wait

-- The candidates are known after these zones were cleared, and each half clean zone waits.
pub record SearchesOn (first now : DriveState) (n : ℕ) (survey : Survey) (candidates : Candidates) (resets : List ℕ) : Type 0 where
  pub clears : ClearsSoFar first now n survey resets
  pub are : AreCandidates now n (cleared (drive_logs first) resets) survey candidates
  pub wait : AllWait now n (cleared (drive_logs first) resets) candidates

-- a search begins with each half clean zone waiting, and none cleared
pub searches-none : (drive : DriveState) (n : ℕ) (survey : Survey) (candidates : Candidates) → Knows drive n (drive_logs drive) survey
    → ((d : DriveState) (k : ℕ) (logs : List (List Batch)) → Knows d k logs survey → AreCandidates d k logs survey candidates)
    → ((d : DriveState) (k : ℕ) (logs : List (List Batch)) → Knows d k logs survey → AllWait d k logs candidates) → SearchesOn drive drive n survey candidates []
searches-none drive n survey candidates known are wait = record { clears = clears-none drive n survey known; are = are drive n (drive_logs drive) known; wait = wait drive n (drive_logs drive) known }

-- after the next was looked for
pub next-known : (first old : DriveState) (n : ℕ) (survey : Survey) (candidates : Candidates) (resets : List ℕ) (found : Option ℕ) → SearchesOn first old n survey candidates resets → FindsLowestWaiting old n survey candidates found
    → FindsLowest first.geometry.block n (cleared (drive_logs first) resets) found
next-known first old n survey candidates resets found on finds = subst (λ (g : Geometry). FindsLowest g.block n (cleared (drive_logs first) resets) found) on.clears.kept.geometry (finds (cleared (drive_logs first) resets) on.are on.wait)

-- the number that a survey holds is the one that was given
pub finds-given : (drive : DriveState) (n k : ℕ) (survey : Survey) (candidates : Candidates) (found : Option ℕ) → k ≡ n → FindsLowestWaiting drive k survey candidates found → FindsLowestWaiting drive n survey candidates found
finds-given drive n k survey candidates found same finds = subst (λ (j : ℕ). FindsLowestWaiting drive j survey candidates found) same finds

-- the other half clean zones still wait, also by the number that was given
pub leaves-given : (drive : DriveState) (n k : ℕ) (survey : Survey) (old new : Candidates) (zone : ℕ) → k ≡ n → LeavesWaiting drive k survey old new zone → LeavesWaiting drive n survey old new zone
leaves-given drive n k survey old new zone same leaves = subst (λ (j : ℕ). LeavesWaiting drive j survey old new zone) same leaves

-- What is known of the candidates does not rest on which of them wait, and a look at the drive keeps it.
taken-are : (old new : DriveState) (n : ℕ) (logs : List (List Batch)) (survey : Survey) (a b : Candidates) → KeepsZones old new → b.records ≡ a.records → b.sizes ≡ a.sizes → AreCandidates old n logs survey a → AreCandidates new n logs survey b
taken-are old new n logs survey a b kept records sizes are = record {
  known = knows-kept old new n logs survey kept are.known;
  records = rw records are.records;
  covers = rw records are.covers;
  sizes = sizes ∙ are.sizes;
}

-- what giving up a zone tells
pub record GivesUp (before after : Survey) (old new : Candidates) (zone : ℕ) : Type 0 where
  pub are : (drive : DriveState) (n : ℕ) (logs : List (List Batch)) → AreCandidates drive n logs before old → IsHalfClean drive.geometry.block n logs zone → AreCandidates drive n (without logs zone) after new
  pub wait : (drive : DriveState) (n : ℕ) (logs : List (List Batch)) → AreCandidates drive n logs before old → IsHalfClean drive.geometry.block n logs zone → OthersWait drive n logs old zone → AllWait drive n (without logs zone) new

-- a search that forgets the lowest half clean zone still has each other one waiting
pub searches-more : (first old new : DriveState) (n : ℕ) (before after : Survey) (begin taken left : Candidates) (resets more : List ℕ) (zone : ℕ) → SearchesOn first old n before begin resets → KeepsZones old new
    → taken.records ≡ begin.records → taken.sizes ≡ begin.sizes → FindsLowestWaiting old n before begin (Some zone)
    → ((logs : List (List Batch)) → AreCandidates old n logs before begin → AllWait old n logs begin → OthersWait old n logs taken zone)
    → Forgets before after zone → GivesUp before after taken left zone → more ≡ resets ++ zone ∷ [] → SearchesOn first new n after left more
searches-more first old new n before after begin taken left resets more zone on kept records sizes finds others forgets gives pushed =
    let logs = cleared (drive_logs first) resets in
    let lowest = next-known first old n before begin resets (Some zone) on finds in
    let here : IsLowest old.geometry.block n logs zone = finds logs on.are on.wait in
    let half : IsHalfClean new.geometry.block n logs zone = subst (λ (g : Geometry). IsHalfClean g.block n logs zone) (sym kept.geometry) here.half_clean in
    let are = taken-are old new n logs before begin taken kept records sizes on.are in
    let wait : OthersWait new n logs taken zone = rw (kept.geometry) (others logs on.are on.wait) in
    let now : cleared (drive_logs first) more ≡ without logs zone = ap (cleared (drive_logs first)) pushed ∙ cleared-more (drive_logs first) resets zone in
    record {
      clears = clears-more first old new n before after resets more zone on.clears kept lowest forgets pushed;
      are = subst (λ (ls : List (List Batch)). AreCandidates new n ls after left) (sym now) (gives.are new n logs are half);
      wait = subst (λ (ls : List (List Batch)). AllWait new n ls left) (sym now) (gives.wait new n logs are half wait);
    }

-- ---- a zone to spare

-- clearing these zones, one after the other, leaves no half clean zone
abbrev pub IsCleared : DriveState → ℕ → List ℕ → Type 0
IsCleared drive n resets = IsClearing drive.geometry.block n (drive_logs drive) resets

-- a drive where a clearing empties a zone has a zone to spare
pub cleared-spare : (drive : DriveState) (n : ℕ) (resets : List ℕ) → (length resets ≡ 0 → ⊥) → IsCleared drive n resets → HasSpare drive.geometry.block n (drive_logs drive)
cleared-spare drive n [] some is = absurd (some refl)
cleared-spare drive n (z ∷ zs) some is = record { zone = z; in_range = is.0.in_range; spare = inr is.0.half_clean }

-- no zone was cleared, and none is vacant
pub no-spare : (drive now : DriveState) (n : ℕ) (resets : List ℕ) (survey : Survey) → length resets ≡ 0 → IsCleared drive n resets → Knows now n (cleared (drive_logs drive) resets) survey → ((logs : List (List Batch)) → AreOf survey.scanned.items logs → HasVacant logs → ⊥)
    → HasSpare drive.geometry.block n (drive_logs drive) → ⊥
no-spare drive now n [] survey none is known vacant has =
    elim has.spare as (λ _. ⊥) [ inl empty ↦ vacant (drive_logs drive) known.heads (record { zone = has.zone; in_range = has.in_range; vacant = empty }) | inr half ↦ is has.zone has.in_range half ]
no-spare drive now n (z ∷ zs) survey none is known vacant has = absurd (omega (arith, none))
