-- Two records with one block and one sequence are the same.
use Rattle.std.proofs.Common.{◌≡◌, ◌⊎◌, inl, inr, ℕ, zero, suc, ◌+◌, ◌≤◌, true, false, eqb, nat_eq, List, [], ◌∷◌, ◌++◌, length, map, refl, sym, ap, subst, ◌∙◌, arith, append_assoc}
use Rattle.std.specs.List.{AllByRecursion, Contains, IsDistinct}
use Rattle.std.proofs.lemmas.Bool.{eq-eqb}
use Rattle.std.proofs.lemmas.List.{length-map}
use Rattle.drive_port.specs.Contents.{Content, content_at, content_of, contents, nothing}
use Rattle.drive_port.specs.Drive.{DriveState}
use Rattle.batch_log.specs.declared.header.Entry.{Entry}
use Rattle.batch_log.specs.Log.{Batch, IsBatch, batch_size, one_unless}
use Rattle.drive_array.specs.ZoneLogs.{HasLog, drive_logs, log_at, log_sequences, sequences, zone_log}
use Rattle.drive_array.specs.Records.{Record, batch_records, entry_records, log_records, records}
use Rattle.drive_array.proofs.AllLaws.{all-append, all-at, all-parts, all-weaker}
use Rattle.drive_array.proofs.NewestLaws.{all-among}
use Rattle.drive_array.proofs.ZoneLogLaws.{log_at-zone}
use Rattle.drive_array.proofs.SizeLaws.{drop-distinct}
use Rattle.drive_survey.specs.declared.survey.Survey.{Survey}
use Rattle.drive_survey.specs.Known.{Knows}

-- ---- records that differ

abbrev Apart : Record → Record → Type 0
Apart a b = a.block ≡ b.block → a.sequence ≡ b.sequence → ⊥

-- no two of these have one block and one sequence
abbrev pub AreApart : List Record → Type 0
AreApart [] = Unit {0}
AreApart (r ∷ rs) = AllByRecursion (Apart r) rs × AreApart rs

apart-append : (xs ys : List Record) → AreApart xs → AreApart ys → AllByRecursion (λ x. AllByRecursion (Apart x) ys) xs → AreApart (xs ++ ys)
apart-append [] ys own others cross = others
apart-append (x ∷ xs) ys own others cross = (all-append (Apart x) xs ys own.0 cross.0, apart-append xs ys own.1 others cross.1)

head-cases : (x r : Record) (rs : List Record) → Contains (x ∷ rs) r → (x ≡ r) ⊎ Contains rs r
head-cases x r rs (zero, lt, is) = inl is
head-cases x r rs (suc k, lt, is) = inr (k, omega (arith, lt), is)

-- of records that are apart, two with one block and one sequence are the same
pub same-record : (rs : List Record) (a b : Record) → AreApart rs → Contains rs a → Contains rs b → a.block ≡ b.block → a.sequence ≡ b.sequence → a ≡ b
same-record [] a b apart (k, lt, is) d e f = absurd (omega (arith, lt))
same-record (r ∷ rs) a b apart c d e f = by (head-cases r a rs c) (head-cases r b rs d) (λ x y. same-record rs a b apart.1 x y e f)
  where
    by : (r ≡ a) ⊎ Contains rs a → (r ≡ b) ⊎ Contains rs b → (Contains rs a → Contains rs b → a ≡ b) → a ≡ b
    by (inl x) (inl y) rest = sym x ∙ y
    by (inl x) (inr y) rest = absurd (all-among (Apart r) rs b apart.0 y (ap (λ (z : Record). z.block) x ∙ e) (ap (λ (z : Record). z.sequence) x ∙ f))
    by (inr x) (inl y) rest = absurd (all-among (Apart r) rs a apart.0 x (ap (λ (z : Record). z.block) y ∙ sym e) (ap (λ (z : Record). z.sequence) y ∙ sym f))
    by (inr x) (inr y) rest = rest x y

-- ---- those of a batch

entry-blocks : (P : ℕ → Type 0) (sequence zone header k : ℕ) (body : List (List ℕ)) (es : List Entry) → AllByRecursion P (map (λ (e : Entry). e.block) es) → AllByRecursion (λ (r : Record). P r.block) (entry_records sequence body zone header k es)
entry-blocks P sequence zone header k body [] all = tt
entry-blocks P sequence zone header k body (e ∷ es) all = (all.0, entry-blocks P sequence zone header (k + one_unless e.trim) body es all.1)

entries-apart : (sequence zone header k : ℕ) (body : List (List ℕ)) (es : List Entry) → IsDistinct nat_eq (map (λ (e : Entry). e.block) es) → AreApart (entry_records sequence body zone header k es)
unfolding IsDistinct
entries-apart sequence zone header k body [] distinct = tt
entries-apart sequence zone header k body (e ∷ es) distinct = (
  all-weaker (λ (r : Record). eqb e.block r.block ≡ false) (λ (r : Record). e.block ≡ r.block → sequence ≡ r.sequence → ⊥) (entry_records sequence body zone header (k + one_unless e.trim) es)
      (λ r differs same sequences_same. let yes_same : eqb e.block r.block ≡ true = eq-eqb e.block r.block same in absurd (cc))
      (entry-blocks (λ (b : ℕ). eqb e.block b ≡ false) sequence zone header (k + one_unless e.trim) body es distinct.0),
  entries-apart sequence zone header (k + one_unless e.trim) body es distinct.1,
)

entries-number : (sequence zone header k : ℕ) (body : List (List ℕ)) (es : List Entry) → AllByRecursion (λ (r : Record). r.sequence ≡ sequence) (entry_records sequence body zone header k es)
entries-number sequence zone header k body [] = tt
entries-number sequence zone header k body (e ∷ es) = (refl, entries-number sequence zone header (k + one_unless e.trim) body es)

-- ---- those of all batches

abbrev NamesOnce : Batch → Type 0
NamesOnce batch = IsDistinct nat_eq (map (λ (e : Entry). e.block) batch.heading.entries)

log-numbers : (P : ℕ → Type 0) (zone offset : ℕ) (log : List Batch) → AllByRecursion P (log_sequences log) → AllByRecursion (λ (r : Record). P r.sequence) (log_records zone offset log)
log-numbers P zone offset [] all = tt
log-numbers P zone offset (b ∷ bs) all =
    all-append (λ (r : Record). P r.sequence) (batch_records zone offset b) (log_records zone (offset + batch_size b) bs)
    (all-weaker (λ (r : Record). r.sequence ≡ b.heading.sequence) (λ (r : Record). P r.sequence) (batch_records zone offset b) (λ r e. subst P (sym e) all.0) (entries-number b.heading.sequence zone offset 0 b.body b.heading.entries))
    (log-numbers P zone (offset + batch_size b) bs all.1)

records-numbers : (P : ℕ → Type 0) (first : ℕ) (logs : List (List Batch)) → AllByRecursion P (sequences logs) → AllByRecursion (λ (r : Record). P r.sequence) (records first logs)
records-numbers P first [] all = tt
records-numbers P first (log ∷ logs) all =
    let parts = all-parts P (log_sequences log) (sequences logs) all in
    all-append (λ (r : Record). P r.sequence) (log_records first 0 log) (records (suc first) logs) (log-numbers P first 0 log parts.0) (records-numbers P (suc first) logs parts.1)

-- of a zone, before those of the zones after it
log-apart : (zone offset first : ℕ) (log : List Batch) (logs : List (List Batch)) → AllByRecursion NamesOnce log → IsDistinct nat_eq (log_sequences log ++ sequences logs) → AreApart (records first logs) → AreApart (log_records zone offset log ++ records first logs)
unfolding IsDistinct
log-apart zone offset first [] logs once distinct others = others
log-apart zone offset first (b ∷ bs) logs once distinct others =
    let own = batch_records zone offset b in
    let rest = log_records zone (offset + batch_size b) bs in
    let behind = records first logs in
    let s = b.heading.sequence in
    let parts = all-parts (λ (y : ℕ). eqb s y ≡ false) (log_sequences bs) (sequences logs) distinct.0 in
    let differ = all-append (λ (r : Record). eqb s r.sequence ≡ false) rest behind (log-numbers (λ (y : ℕ). eqb s y ≡ false) zone (offset + batch_size b) bs parts.0) (records-numbers (λ (y : ℕ). eqb s y ≡ false) first logs parts.1) in
    let cross = all-weaker (λ (x : Record). x.sequence ≡ s) (λ (x : Record). AllByRecursion (Apart x) (rest ++ behind)) own
    (λ x is. all-weaker (λ (r : Record). eqb s r.sequence ≡ false) (Apart x) (rest ++ behind) (λ r differs blocks same. let yes_same : eqb s r.sequence ≡ true = eq-eqb s r.sequence (sym is ∙ same) in absurd (cc)) differ)
    (entries-number s zone offset 0 b.body b.heading.entries) in
    subst AreApart (sym (append_assoc own rest behind))
    (apart-append own (rest ++ behind) (entries-apart s zone offset 0 b.body b.heading.entries once.0) (log-apart zone (offset + batch_size b) first bs logs once.1 distinct.1 others) cross)

records-apart : (first : ℕ) (logs : List (List Batch)) → AllByRecursion (AllByRecursion NamesOnce) logs → IsDistinct nat_eq (sequences logs) → AreApart (records first logs)
records-apart first [] once distinct = tt
records-apart first (log ∷ logs) once distinct =
    log-apart first 0 (suc first) log logs once.0 distinct (records-apart (suc first) logs once.1 (drop-distinct (log_sequences log) (sequences logs) distinct))

-- ---- those of a drive

logs-once : (drive : DriveState) (first : ℕ) (logs : List (List Batch)) → AllByRecursion (HasLog drive.geometry) (contents drive.zones) → first + length logs ≤ length drive.zones
    → ((k : ℕ) → (log_at logs k ≡ log_at (drive_logs drive) (first + k)) ⊎ (log_at logs k ≡ [])) → AllByRecursion (AllByRecursion NamesOnce) logs
logs-once drive first [] has le part = tt
logs-once drive first (log ∷ logs) has le part = (
  here (part 0),
  logs-once drive (suc first) logs has (omega (arith, le)) (λ k. let same : first + suc k ≡ suc first + k = omega arith in subst (λ (i : ℕ). (log_at logs k ≡ log_at (drive_logs drive) i) ⊎ (log_at logs k ≡ [])) same (part (suc k))),
)
  where
    content : Content
    content = content_at (contents drive.zones) first

    here : (log ≡ log_at (drive_logs drive) (first + 0)) ⊎ (log ≡ []) → AllByRecursion NamesOnce log
    here (inr none) = rw none tt
    here (inl same) =
        let zero_more : first + 0 ≡ first = omega arith in
        let log_is : log ≡ zone_log drive.geometry content = same ∙ ap (λ (i : ℕ). log_at (drive_logs drive) i) zero_more ∙ log_at-zone drive.geometry (contents drive.zones) first in
        let is_log = all-at (HasLog drive.geometry) (contents drive.zones) first nothing has (omega (arith, le, length-map drive.zones content_of)) in
        rw log_is (all-weaker (IsBatch drive.geometry.block) NamesOnce (zone_log drive.geometry content) (λ batch is. is.heading.distinct) is_log.front.batches)

-- the logs that a survey knows have no two records with one block and one sequence
pub knows-apart : (drive : DriveState) (n : ℕ) (logs : List (List Batch)) (survey : Survey) → Knows drive n logs survey → AreApart (records 0 logs)
knows-apart drive n logs survey known =
    records-apart 0 logs (logs-once drive 0 logs known.all_logs (omega (arith, known.count)) (λ k. let same : 0 + k ≡ k = omega arith in rw same (known.part k))) known.sound.distinct
