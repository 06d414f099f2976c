-- The newest records of all zones are those of the logs that no other one in their zone is newer than.
use Rattle.std.proofs.Common.{◌≡◌, ◌⊎◌, inl, inr, ℕ, zero, suc, ◌<◌, ◌≤◌, ◌^◌, List, [], ◌∷◌, ◌++◌, length, map, drop, get_or, refl, sym, ap, subst, ◌∙◌, arith, append_assoc, append-nil}
use Rattle.std.specs.List.{AllByRecursion, Contains}
use Rattle.std.proofs.lemmas.List.{drop_all}
use Rattle.std.proofs.lemmas.List.Elements.{Contains-append_cases, Contains-append_left, Contains-append_right}
use Rattle.std.proofs.Math.Seq.{drop-cons}
use Rattle.batch_log.specs.Log.{Batch}
use Rattle.drive_array.specs.Mountable.{IsInside}
use Rattle.drive_array.specs.Records.{Record, log_records, records}
use Rattle.drive_array.proofs.DeadLaws.{log-zone}
use Rattle.drive_array.proofs.NewestLaws.{all-among}
use Rattle.drive_survey.specs.declared.clearing.block_records.BlockRecords.{BlockRecords}
use Rattle.drive_survey.specs.declared.records.KeptRecord.{KeptRecord}
use Rattle.drive_survey.specs.declared.scan.ScannedZone.{ScannedZone}
use Rattle.drive_survey.specs.BlockRecords.{IsNewestInZone, NotesNewest, notes, slot_after, slot_of}
use Rattle.drive_survey.specs.Heads.{heads_of}
use Rattle.drive_survey.specs.KeptRecords.{kept_of_zone, kept_record}
use Rattle.drive_survey.specs.NewestRecords.{AreNewest, AreNewestOfAll}
use Rattle.drive_survey.specs.Scan.{heads_in}
use Rattle.drive_survey.proofs.HeadRecordLaws.{kept-is}
use Rattle.drive_survey.proofs.OutsideLaws.{records-from}
use Rattle.drive_survey.proofs.RecordKeyLaws.{AreApart, same-record}
use Rattle.drive_survey.proofs.RecordTableLaws.{Changes, slot-append}

-- ---- the records of the logs

-- These are the newest records of all zones.
pub record IsNewestList (logs : List (List Batch)) (all : List KeptRecord) : Type 0 where
  pub from : (k : KeptRecord) → Contains all k → (r : Record) × Contains (records 0 logs) r × (kept_record r ≡ k) × IsNewestInZone logs r
  pub has : (r : Record) → Contains (records 0 logs) r → IsNewestInZone logs r → Contains all (kept_record r)

-- each record as it is kept comes from one of the records
pub map-among : (rs : List Record) (k : KeptRecord) → Contains (map kept_record rs) k → (r : Record) × Contains rs r × (kept_record r ≡ k)
map-among [] k c = absurd (omega (arith, c.1))
map-among (r ∷ rs) k (zero, lt, is) = (r, (0, omega arith, refl), is)
map-among (r ∷ rs) k (suc n, lt, is) = let rest = map-among rs k (n, omega (arith, lt), is) in (rest.0, (suc rest.1.0, omega (arith, rest.1.1), rest.1.2), rest.2)

-- each record is among the records as they are kept
pub among-map : (rs : List Record) (r : Record) → Contains rs r → Contains (map kept_record rs) (kept_record r)
among-map [] r c = absurd (omega (arith, c.1))
among-map (x ∷ rs) r (zero, lt, is) = (0, omega arith, ap kept_record is)
among-map (x ∷ rs) r (suc n, lt, is) = let rest = among-map rs r (n, omega (arith, lt), is) in (suc rest.0, omega (arith, rest.1), rest.2)

apart-tail : (xs ys : List Record) → AreApart (xs ++ ys) → AreApart ys
apart-tail [] ys apart = apart
apart-tail (x ∷ xs) ys apart = apart-tail xs ys apart.1

-- of the logs from one on
abbrev IsLast : ℕ → List (List Batch) → Record → Type 0
IsLast first logs r = (s : Record) → Contains (records first logs) s → s.block ≡ r.block → s.zone ≡ r.zone → s.sequence ≤ r.sequence

from-all : (first : ℕ) (logs : List (List Batch)) (all : List KeptRecord) → AllByRecursion (AllByRecursion (IsInside (2 ^ 31))) logs → AreNewestOfAll first (map heads_of logs) all
    → (k : KeptRecord) → Contains all k → (r : Record) × Contains (records first logs) r × (kept_record r ≡ k) × IsLast first logs r
from-all first [] all inside are k c = absurd (let none : Contains [] k = subst (λ (ks : List KeptRecord). Contains ks k) are c in omega (arith, none.1))
from-all first (log ∷ logs) all inside are k c = by (Contains-append_cases are.0 are.1 k (subst (λ (ks : List KeptRecord). Contains ks k) are.2 c)) (λ others. from-all (suc first) logs are.1 inside.1 are.4 k others)
  where
    Found : Type 0
    Found = (r : Record) × Contains (records first (log ∷ logs)) r × (kept_record r ≡ k) × IsLast first (log ∷ logs) r

    own : List Record
    own = log_records first 0 log

    rest : List Record
    rest = records (suc first) logs

    in-own : (s : Record) → Contains own s → s.zone ≡ first
    in-own s d = all-among (λ (x : Record). x.zone ≡ first) own s (log-zone first 0 log) d

    in-rest : (s : Record) → Contains rest s → suc first ≤ s.zone
    in-rest s d = all-among (λ (x : Record). suc first ≤ x.zone) rest s (records-from (suc first) (suc first) logs (omega arith)) d

    last-own : Contains are.0 k → (r : Record) → Contains own r → kept_record r ≡ k → IsLast first (log ∷ logs) r
    last-own c r d is s e block zone = elim (Contains-append_cases own rest s e) as (λ _. s.sequence ≤ r.sequence) [
      | inl f ↦ (
          let there = subst (λ (ks : List KeptRecord). Contains ks (kept_record s)) (sym (kept-is first log inside.0)) (among-map own s f) in
          let le = are.3.latest k (kept_record s) c there (block ∙ ap (λ (x : KeptRecord). x.block) is) in
          let same : r.sequence ≡ k.sequence = ap (λ (x : KeptRecord). x.sequence) is in
          omega (arith, le, same)
          )
      | inr f ↦ absurd (omega (arith, in-own r d, in-rest s f, zone))
    ]

    last-rest : (r : Record) → Contains rest r → IsLast (suc first) logs r → IsLast first (log ∷ logs) r
    last-rest r d last s e block zone = elim (Contains-append_cases own rest s e) as (λ _. s.sequence ≤ r.sequence) [
      | inl f ↦ absurd (omega (arith, in-own s f, in-rest r d, zone))
      | inr f ↦ last s f block zone
    ]

    by : Contains are.0 k ⊎ Contains are.1 k → (Contains are.1 k → (r : Record) × Contains (records (suc first) logs) r × (kept_record r ≡ k) × IsLast (suc first) logs r) → Found
    by (inl c) more =
        let r = map-among (log_records first 0 log) k (subst (λ (ks : List KeptRecord). Contains ks k) (kept-is first log inside.0) (are.3.among k c)) in
        (r.0, Contains-append_left (log_records first 0 log) (records (suc first) logs) r.0 r.1, r.2, last-own c r.0 r.1 r.2)
    by (inr others) more =
        let r = more others in
        (r.0, Contains-append_right (log_records first 0 log) (records (suc first) logs) r.0 r.1, r.2, last-rest r.0 r.1 r.3)

has-all : (first : ℕ) (logs : List (List Batch)) (all : List KeptRecord) → AllByRecursion (AllByRecursion (IsInside (2 ^ 31))) logs → AreApart (records first logs) → AreNewestOfAll first (map heads_of logs) all
    → (r : Record) → Contains (records first logs) r → IsLast first logs r → Contains all (kept_record r)
has-all first [] all inside apart are r c last = absurd (omega (arith, c.1))
has-all first (log ∷ logs) all inside apart are r c last = subst (λ (ks : List KeptRecord). Contains ks (kept_record r)) (sym are.2) (by (Contains-append_cases own rest r c) (λ d later. has-all (suc first) logs are.1 inside.1 (apart-tail own rest apart) are.4 r d later))
  where
    own : List Record
    own = log_records first 0 log

    rest : List Record
    rest = records (suc first) logs

    in-own : (s : Record) → Contains own s → s.zone ≡ first
    in-own s d = all-among (λ (x : Record). x.zone ≡ first) own s (log-zone first 0 log) d

    kept : kept_of_zone first (heads_of log) ≡ map kept_record own
    kept = kept-is first log inside.0

    by : Contains own r ⊎ Contains rest r → (Contains rest r → IsLast (suc first) logs r → Contains are.1 (kept_record r)) → Contains (are.0 ++ are.1) (kept_record r)
    by (inl d) more =
        let there : Contains (kept_of_zone first (heads_of log)) (kept_record r) = subst (λ (ks : List KeptRecord). Contains ks (kept_record r)) (sym kept) (among-map own r d) in
        let k = are.3.covers (kept_record r) there in
        let s = map-among own k.0 (subst (λ (ks : List KeptRecord). Contains ks k.0) kept (are.3.among k.0 k.1)) in
        let block : s.0.block ≡ r.block = ap (λ (x : KeptRecord). x.block) s.2 ∙ k.2 in
        let le = are.3.latest k.0 (kept_record r) k.1 there (sym k.2) in
        let ge = last s.0 (Contains-append_left own rest s.0 s.1) block (in-own s.0 s.1 ∙ sym (in-own r d)) in
        let number : s.0.sequence ≡ k.0.sequence = ap (λ (x : KeptRecord). x.sequence) s.2 in
        let one : s.0 ≡ r = same-record (own ++ rest) s.0 r apart (Contains-append_left own rest s.0 s.1) (Contains-append_left own rest r d) block (omega (arith, le, ge, number)) in
        Contains-append_left are.0 are.1 (kept_record r) (subst (λ (x : KeptRecord). Contains are.0 x) (sym s.2 ∙ ap kept_record one) k.1)
    by (inr d) more =
        Contains-append_right are.0 are.1 (kept_record r) (more d (λ s e same here. last s (Contains-append_right own rest s e) same here))

-- the newest records zone by zone are the newest records of all zones
pub newest-list : (logs : List (List Batch)) (all : List KeptRecord) → AllByRecursion (AllByRecursion (IsInside (2 ^ 31))) logs → AreApart (records 0 logs) → AreNewestOfAll 0 (map heads_of logs) all → IsNewestList logs all
newest-list logs all inside apart are = record { from = from-all 0 logs all inside are; has = has-all 0 logs all inside apart are }

-- ---- zone after zone

-- those of the first zones were noted
pub record NotedSoFar (first now : BlockRecords) (scanned : List ScannedZone) (zone : ℕ) : Type 0 where
  pub done : List KeptRecord
  pub changes : Changes notes first now done
  pub rest : (others : List KeptRecord) → AreNewestOfAll zone (heads_in (drop zone scanned)) others → AreNewestOfAll 0 (heads_in scanned) (done ++ others)

-- before the first zone no record was noted
pub noted-none : (table : BlockRecords) (scanned : List ScannedZone) → NotedSoFar table table scanned 0
noted-none table scanned = record { done = []; changes = λ block sequence. refl; rest = λ others are. are }

-- noting the newest records of the next zone adds them to what was noted
pub noted-more : (first old new : BlockRecords) (scanned : List ScannedZone) (zone zone' number : ℕ) (found : ScannedZone) (own : List KeptRecord) → zone < length scanned → found ≡ get_or scanned zone found → zone' ≡ suc zone → number ≡ zone
    → AreNewest (kept_of_zone number found.heads) own → Changes notes old new own → NotedSoFar first old scanned zone → NotedSoFar first new scanned zone'
noted-more first old new scanned zone zone' number found own lt is next same newest changes so_far = record {
  done = so_far.done ++ own;
  changes = λ block sequence.
      changes block sequence
      ∙ ap (λ slot. slot_after notes block sequence slot own) (so_far.changes block sequence)
      ∙ sym (slot-append notes block sequence (slot_of first block sequence) so_far.done own);
  rest = λ others are.
      let split : drop zone scanned ≡ found ∷ drop (suc zone) scanned = drop-cons scanned zone found lt ∙ ap (λ (s : ScannedZone). s ∷ drop (suc zone) scanned) (sym is) in
      let are' = rw next at are in
      let both : AreNewestOfAll zone (heads_in (found ∷ drop (suc zone) scanned)) (own ++ others) = (own, others, refl, rw same at newest, are') in
      let whole = so_far.rest (own ++ others) (rw split both) in
      subst (AreNewestOfAll 0 (heads_in scanned)) (sym (append_assoc so_far.done own others)) whole;
}

-- with no zone left, the newest records of all zones were noted
pub noted-all : (first now : BlockRecords) (scanned : List ScannedZone) (zone : ℕ) → length scanned ≤ zone → NotedSoFar first now scanned zone → NotesNewest (heads_in scanned) first now
noted-all first now scanned zone le so_far =
    let none : AreNewestOfAll zone (heads_in (drop zone scanned)) [] = rw (drop_all zone scanned le) refl in
    (so_far.done, subst (AreNewestOfAll 0 (heads_in scanned)) (append-nil so_far.done) (so_far.rest [] none), so_far.changes)
