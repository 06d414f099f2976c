-- Of the records of a zone the newest one of each block.
use Rattle.std.specs.Prelude.{◌≡◌, ◌<◌, ◌≤◌, ◌++◌, ℕ, suc, List, [], ◌∷◌, Some, Contains, length, slice_get}
use Rattle.std.specs.BTreeMap.{get}
use Rattle.std.specs.Ordering.{nat_cmp}
use Rattle.drive_survey.specs.declared.records.KeptRecord.{KeptRecord}
use Rattle.drive_survey.specs.declared.clearing.newest.Newest.{Newest}
use Rattle.drive_survey.specs.Heads.{HeadsView}
use Rattle.drive_survey.specs.KeptRecords.{kept_of_zone}

-- A block is named first at some place of these records: before it they name only blocks that the first k of the others have.
pub record IsNamedAfter (all own : List KeptRecord) (k block : ℕ) : Type 0 where
  pub place : ℕ
  pub found : KeptRecord
  pub there : slice_get all place ≡ Some found
  pub block_is : found.block ≡ block
  pub before : (i : ℕ) (s : KeptRecord) → i < place → slice_get all i ≡ Some s
      → (j : ℕ) × (r : KeptRecord) × (j < k) × (slice_get own j ≡ Some r) × (r.block ≡ s.block)

-- Some of these records: none of them has a newer one of its block, and each block that is named has one. They have the
-- order in which the blocks are named first.
pub record AreNewest (all own : List KeptRecord) : Type 0 where
  pub among : (r : KeptRecord) → Contains own r → Contains all r
  pub latest : (r s : KeptRecord) → Contains own r → Contains all s → s.block ≡ r.block → s.sequence ≤ r.sequence
  pub covers : (s : KeptRecord) → Contains all s → (r : KeptRecord) × Contains own r × (r.block ≡ s.block)
  pub in_order : (k : ℕ) (r : KeptRecord) → slice_get own k ≡ Some r → IsNamedAfter all own k r.block

-- these, and where each block's record is among them
pub record KeepsNewest (all : List KeptRecord) (newest : Newest) : Type 0 where
  pub are : AreNewest all newest.records.items
  pub few : length newest.records.items ≤ length all
  pub found : (block place : ℕ) → get nat_cmp newest.places block ≡ Some place
      → (r : KeptRecord) × (slice_get newest.records.items place ≡ Some r) × (r.block ≡ block)
  pub placed : (place : ℕ) (r : KeptRecord) → slice_get newest.records.items place ≡ Some r → get nat_cmp newest.places r.block ≡ Some place

-- those of each zone, one zone after the other: `zone` is the number of the first
abbrev pub AreNewestOfAll : ℕ → List HeadsView → List KeptRecord → Type 0
AreNewestOfAll zone [] all = all ≡ []
AreNewestOfAll zone (view ∷ views) all =
    (own : List KeptRecord) × (others : List KeptRecord) × (all ≡ own ++ others)
    × AreNewest (kept_of_zone zone view) own × AreNewestOfAll (suc zone) views others
