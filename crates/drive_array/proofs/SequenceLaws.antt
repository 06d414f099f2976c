-- The sequences of all batches, and one more that is greater than all.
use Rattle.std.proofs.Common.{◌≡◌, ℕ, zero, suc, ◌+◌, ◌<◌, ◌≤◌, false, eqb, List, [], ◌∷◌, ◌++◌, length, Some, refl, sym, ap, ◌∙◌, arith, append_assoc}
use Rattle.std.specs.Prelude.{nat_eq}
use Rattle.std.specs.List.{AllByRecursion, IsDistinct}
use Rattle.std.proofs.lemmas.Bool.{ne_eqb}
use Rattle.std.proofs.lemmas.List.{map-append}
use Rattle.batch_log.specs.declared.header.Entry.{Entry}
use Rattle.batch_log.specs.Log.{Batch, batch_size, one_unless}
use Rattle.drive_array.specs.Records.{AllBelow, append_log, batch_records, entry_records, log_records, records}
use Rattle.drive_array.specs.Spare.{IsBefore, first_sequence}
use Rattle.drive_array.specs.ZoneLogs.{log_at, log_sequences, sequences}
use Rattle.drive_array.proofs.AllLaws.{all-append, all-parts, all-weaker}

-- a list that is another one with one number put in
record PutsIn (old new : List ℕ) (s : ℕ) : Type 0 where
  front : List ℕ
  behind : List ℕ
  old_is : old ≡ front ++ behind
  new_is : new ≡ front ++ s ∷ behind

append_log-puts : (logs : List (List Batch)) (index : ℕ) (b : Batch) → index < length logs → PutsIn (sequences logs) (sequences (append_log logs index b)) b.heading.sequence
append_log-puts [] index b lt = absurd (omega arith)
append_log-puts (z ∷ zs) zero b lt = record {
  front = log_sequences z;
  behind = sequences zs;
  old_is = refl;
  new_is = ap (λ (ss : List ℕ). ss ++ sequences zs) (map-append (λ (x : Batch). x.heading.sequence) z (b ∷ [])) ∙ append_assoc (log_sequences z) (b.heading.sequence ∷ []) (sequences zs);
}
append_log-puts (z ∷ zs) (suc index) b lt =
    let rest = append_log-puts zs index b (omega arith) in
    record {
      front = log_sequences z ++ rest.front;
      behind = rest.behind;
      old_is = ap (λ (ss : List ℕ). log_sequences z ++ ss) rest.old_is ∙ sym (append_assoc (log_sequences z) rest.front rest.behind);
      new_is = ap (λ (ss : List ℕ). log_sequences z ++ ss) rest.new_is ∙ sym (append_assoc (log_sequences z) rest.front (b.heading.sequence ∷ rest.behind));
    }

all-different : (s : ℕ) (xs : List ℕ) → AllByRecursion (λ x. x < s) xs → AllByRecursion (λ x. eqb s x ≡ false) xs
all-different s xs all = all-weaker (λ (x : ℕ). x < s) (λ (x : ℕ). eqb s x ≡ false) xs (λ x lt. ne_eqb s x (λ e. omega arith)) all

distinct-put : (front behind : List ℕ) (s : ℕ) → AllByRecursion (λ x. x < s) (front ++ behind) → IsDistinct nat_eq (front ++ behind) → IsDistinct nat_eq (front ++ s ∷ behind)
unfolding IsDistinct
distinct-put [] behind s below distinct = (all-different s behind below, distinct)
distinct-put (x ∷ xs) behind s below distinct =
    let parts = all-parts (λ (y : ℕ). eqb x y ≡ false) xs behind distinct.0 in
    (all-append (λ (y : ℕ). eqb x y ≡ false) xs (s ∷ behind) parts.0 (ne_eqb x s (λ e. let lt = below.0 in omega arith), parts.1), distinct-put xs behind s below.1 distinct.1)

-- a batch with a sequence above all others leaves all sequences distinct
pub distinct-append_log : (logs : List (List Batch)) (index : ℕ) (b : Batch) → index < length logs → AllByRecursion (λ s. s < b.heading.sequence) (sequences logs)
    → IsDistinct nat_eq (sequences logs) → IsDistinct nat_eq (sequences (append_log logs index b))
distinct-append_log logs index b lt below distinct =
    let puts = append_log-puts logs index b lt in
    rw puts.new_is (distinct-put puts.front puts.behind b.heading.sequence (rw puts.old_is at below) (rw puts.old_is at distinct))

-- ---- a record has the sequence of its batch

entries-below : (s : ℕ) (limit : ℕ) (body : List (List ℕ)) (zone header k : ℕ) (es : List Entry) → s < limit → AllBelow limit (entry_records s body zone header k es)
entries-below s limit body zone header k [] lt = tt
entries-below s limit body zone header k (e ∷ es) lt = (lt, entries-below s limit body zone header (k + one_unless e.trim) es lt)

log-below : (limit zone offset : ℕ) (log : List Batch) → AllByRecursion (λ s. s < limit) (log_sequences log) → AllBelow limit (log_records zone offset log)
log-below limit zone offset [] all = tt
log-below limit zone offset (b ∷ bs) all =
    all-append (λ r. r.sequence < limit) (batch_records zone offset b) (log_records zone (offset + batch_size b) bs)
    (entries-below b.heading.sequence limit b.body zone offset 0 b.heading.entries all.0) (log-below limit zone (offset + batch_size b) bs all.1)

-- records have sequences below a bound of all sequences
pub records-below : (limit first : ℕ) (logs : List (List Batch)) → AllByRecursion (λ s. s < limit) (sequences logs) → AllBelow limit (records first logs)
records-below limit first [] all = tt
records-below limit first (z ∷ zs) all =
    let parts = all-parts (λ (s : ℕ). s < limit) (log_sequences z) (sequences zs) all in
    all-append (λ r. r.sequence < limit) (log_records first 0 z) (records (suc first) zs) (log-below limit first 0 z parts.0) (records-below limit (suc first) zs parts.1)

-- ---- the sequences of one zone

-- what holds of all sequences holds of a zone's
pub zone-sequences : (P : ℕ → Type 0) (logs : List (List Batch)) (zone : ℕ) → AllByRecursion P (sequences logs) → AllByRecursion P (log_sequences (log_at logs zone))
zone-sequences P [] zone all = tt
zone-sequences P (log ∷ logs) zero all = (all-parts P (log_sequences log) (sequences logs) all).0
zone-sequences P (log ∷ logs) (suc zone) all = zone-sequences P logs zone (all-parts P (log_sequences log) (sequences logs) all).1

-- where all are below a limit, so is the first
pub first-below : (limit : ℕ) (log : List Batch) → AllByRecursion (λ s. s < limit) (log_sequences log) → 1 ≤ length log → IsBefore (first_sequence log) (Some limit)
first-below limit [] all some = absurd (omega arith)
first-below limit (b ∷ log) all some = all.0
