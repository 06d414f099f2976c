-- The live records of a zone are no more than its records.
use Rattle.std.proofs.Common.{◌≡◌, ◌≢◌, inl, inr, ℕ, zero, suc, ◌+◌, ◌*◌, ◌<◌, ◌≤◌, Bool, true, false, cond, eqb, ◌&&◌, ◌||◌, List, [], ◌∷◌, ◌++◌, length, get_or, Option, Some, None, is_some, refl, sym, ap, subst, ◌∙◌, arith}
use Rattle.std.specs.List.{AllByRecursion, count_by, range_with_len}
use Rattle.std.proofs.lemmas.Bool.{cases_eq, ne_eqb, eq-eqb, eqb-true, and_parts}
use Rattle.std.proofs.lemmas.List.Sums.{sum_by-append}
use Rattle.batch_log.specs.declared.header.Entry.{Entry}
use Rattle.batch_log.specs.Log.{Batch, batch_size, data_count, log_size, one_unless}
use Rattle.drive_array.specs.Records.{IsNewest, Record, batch_records, entry_content, entry_records, log_records, newest, record_of, records}
use Rattle.std.proofs.Math.Nat.{add-mul}
use Rattle.drive_array.proofs.AllLaws.{all-append, all-weaker}
use Rattle.drive_array.proofs.NewestLaws.{newest-is, all-among}
use Rattle.drive_array.specs.ZoneLogs.{log_at}
use Rattle.drive_array.specs.Repair.{HasAtMost, is_any, is_data, kept_in, live_records, live_by}
use Rattle.drive_array.specs.Laws.{FewFit}
use Rattle.drive_array.proofs.ReserveLaws.{div_ceil-le}
use Rattle.zone_states.proofs.ListLaws.{count-cons}

-- ---- counting

-- what implies another is counted no more often
count-le : {X : Type 0} (p q : X → Bool) (xs : List X) → ((x : X) → p x ≡ true → q x ≡ true) → count_by p xs ≤ count_by q xs
count-le p q [] h = omega arith
count-le p q (x ∷ xs) h = omega (arith, count-cons p x xs, count-cons q x xs, count-le p q xs h, one (p x) (q x) (h x))
  where
    one : (a b : Bool) → (a ≡ true → b ≡ true) → cond a 1 0 ≤ cond b 1 0
    one false b f = omega arith
    one true true f = omega arith
    one true false f = absurd (let bad = f refl in cc)

count-or : {X : Type 0} (p q : X → Bool) (xs : List X) → count_by (λ x. p x || q x) xs ≤ count_by p xs + count_by q xs
count-or p q [] = omega arith
count-or p q (x ∷ xs) = omega (arith, count-cons (λ y. p y || q y) x xs, count-cons p x xs, count-cons q x xs, count-or p q xs, one (p x) (q x))
  where
    one : (a b : Bool) → cond (a || b) 1 0 ≤ cond a 1 0 + cond b 1 0
    one true b = omega arith
    one false b = omega arith

abbrev tally : Bool → ℕ
tally b = cond b 1 0

-- one number is met once at most
once : (k a n : ℕ) → (count_by (eqb k) (range_with_len a n) ≤ 1) × (k < a → count_by (eqb k) (range_with_len a n) ≡ 0)
once k a zero = (omega arith, λ _. refl)
once k a (suc n) =
    let rest = once k (a + 1) n in
    let step = count-cons (eqb k) a (range_with_len (a + 1) n) in
    elim (cases_eq k a) as (λ _. (count_by (eqb k) (a ∷ range_with_len (a + 1) n) ≤ 1) × (k < a → count_by (eqb k) (a ∷ range_with_len (a + 1) n) ≡ 0)) [
      | inl e ↦ (let last = rest.1 (omega arith) in let one : tally (eqb k a) ≡ 1 = ap tally (eq-eqb k a e) in (omega (arith, step, last, one), λ h. absurd (omega arith)))
      | inr other ↦ (let none : tally (eqb k a) ≡ 0 = ap tally (ne_eqb k a other) in (omega (arith, step, rest.0, none), λ h. omega (arith, step, rest.1 (omega arith), none)))
    ]

-- ---- blocks that are named by some records

abbrev names : (Record → Bool) → List Record → ℕ → Bool
names keep [] block = false
names keep (r ∷ rs) block = (keep r && eqb r.block block) || names keep rs block

none-false : (xs : List ℕ) → count_by (λ (x : ℕ). false) xs ≡ 0
none-false [] = refl
none-false (x ∷ xs) = omega (arith, count-cons (λ (y : ℕ). false) x xs, none-false xs)

names-le : (keep : Record → Bool) (rs : List Record) (n : ℕ) → count_by (names keep rs) (range_with_len 0 n) ≤ count_by keep rs
names-le keep [] n = omega (arith, none-false (range_with_len 0 n))
names-le keep (r ∷ rs) n =
    omega (arith, count-or (λ block. keep r && eqb r.block block) (names keep rs) (range_with_len 0 n), count-cons keep r rs, names-le keep rs n, one (keep r))
  where
    one : (b : Bool) → count_by (λ block. b && eqb r.block block) (range_with_len 0 n) ≤ cond b 1 0
    one true = (once r.block 0 n).0
    one false = omega (arith, none-false (range_with_len 0 n))

-- ---- a live record of a zone is one of its log

abbrev IsNamed : (Record → Bool) → ℕ → List Record → Record → Type 0
IsNamed keep zone rs r = r.zone ≡ zone → keep r ≡ true → names keep rs r.block ≡ true

named-first : (keep : Record → Bool) (r : Record) (rs : List Record) → keep r ≡ true → names keep (r ∷ rs) r.block ≡ true
named-first keep r rs yes-kept = rw (yes-kept, eq-eqb r.block r.block refl) refl

named-more : (keep : Record → Bool) (x : Record) (rs : List Record) (block : ℕ) → names keep rs block ≡ true → names keep (x ∷ rs) block ≡ true
named-more keep x rs block e = either (keep x && eqb x.block block)
  where
    either : (b : Bool) → (b || names keep rs block) ≡ true
    either true = refl
    either false = e

named-all : (keep : Record → Bool) (zone : ℕ) (rs : List Record) → AllByRecursion (IsNamed keep zone rs) rs
named-all keep zone [] = tt
named-all keep zone (r ∷ rs) =
    ((λ same kept. named-first keep r rs kept), all-weaker (IsNamed keep zone rs) (IsNamed keep zone (r ∷ rs)) rs (λ x h same kept. named-more keep r rs x.block (h same kept)) (named-all keep zone rs))

-- all records of a log are in its zone
entries-zone : (sequence zone header k : ℕ) (body : List (List ℕ)) (es : List Entry) → AllByRecursion (λ r. r.zone ≡ zone) (entry_records sequence body zone header k es)
entries-zone sequence zone header k body [] = tt
entries-zone sequence zone header k body (e ∷ es) = (refl, entries-zone sequence zone header (k + one_unless e.trim) body es)

log-zone : (zone offset : ℕ) (log : List Batch) → AllByRecursion (λ r. r.zone ≡ zone) (log_records zone offset log)
log-zone zone offset [] = tt
log-zone zone offset (b ∷ bs) =
    all-append (λ r. r.zone ≡ zone) (batch_records zone offset b) (log_records zone (offset + batch_size b) bs) (entries-zone b.heading.sequence zone offset 0 b.body b.heading.entries) (log-zone zone (offset + batch_size b) bs)

elsewhere : (keep : Record → Bool) (first zone : ℕ) (rs log : List Record) → first ≢ zone → AllByRecursion (λ r. r.zone ≡ first) log → AllByRecursion (IsNamed keep zone rs) log
elsewhere keep first zone rs log apart all = all-weaker (λ r. r.zone ≡ first) (IsNamed keep zone rs) log (λ r here same kept. absurd (apart (sym here ∙ same))) all

later : (keep : Record → Bool) (first zone : ℕ) (rs : List Record) (logs : List (List Batch)) → zone < first → AllByRecursion (IsNamed keep zone rs) (records first logs)
later keep first zone rs [] lt = tt
later keep first zone rs (log ∷ logs) lt =
    all-append (IsNamed keep zone rs) (log_records first 0 log) (records (suc first) logs) (elsewhere keep first zone rs (log_records first 0 log) (λ e. omega arith) (log-zone first 0 log)) (later keep (suc first) zone rs logs (omega arith))

in-zone : (keep : Record → Bool) (first index zone : ℕ) (logs : List (List Batch)) → zone ≡ first + index → AllByRecursion (IsNamed keep zone (log_records zone 0 (get_or logs index []))) (records first logs)
in-zone keep first index zone [] e = tt
in-zone keep first zero zone (log ∷ logs) e =
    let rs = log_records first 0 log in
    let same : first ≡ zone = omega arith in
    let P : ℕ → Type 0 = λ z. AllByRecursion (IsNamed keep z (log_records z 0 log)) (rs ++ records (suc first) logs) in
    subst P same (all-append (IsNamed keep first rs) rs (records (suc first) logs) (named-all keep first rs) (later keep (suc first) first rs logs (omega arith)))
in-zone keep first (suc index) zone (log ∷ logs) e =
    let rs = log_records zone 0 (get_or logs index []) in
    all-append (IsNamed keep zone rs) (log_records first 0 log) (records (suc first) logs) (elsewhere keep first zone rs (log_records first 0 log) (λ same. omega arith) (log-zone first 0 log)) (in-zone keep (suc first) index zone logs (omega arith))

-- a zone has no more live records than records
live-le : (keep : Record → Bool) (size zone : ℕ) (logs : List (List Batch)) → live_by keep size logs zone ≤ count_by keep (log_records zone 0 (log_at logs zone))
live-le keep size zone logs =
    omega (arith, count-le (λ block. kept_in keep zone (newest block rs)) (names keep log) (range_with_len 0 size) (λ block h. found block (newest block rs) (newest-is block rs) h), names-le keep log size)
  where
    rs : List Record
    rs = records 0 logs

    log : List Record
    log = log_records zone 0 (log_at logs zone)

    found : (block : ℕ) (o : Option Record) → IsNewest rs block o → kept_in keep zone o ≡ true → names keep log block ≡ true
    found block None is h = absurd (cc)
    found block (Some r) is h =
        let parts = and_parts (eqb r.zone zone) (keep r) h in
        let named = all-among (IsNamed keep zone log) rs r (in-zone keep 0 zone zone logs (omega arith)) is.1.among in
        subst (λ (b : ℕ). names keep log b ≡ true) is.0 (named (eqb-true r.zone zone parts.0) parts.1)

-- ---- the records of a log

count-append : (keep : Record → Bool) (xs ys : List Record) → count_by keep (xs ++ ys) ≡ count_by keep xs + count_by keep ys
count-append keep xs ys = sum_by-append (λ r. cond (keep r) 1 0) xs ys

entries-any : (sequence zone header k : ℕ) (body : List (List ℕ)) (es : List Entry) → count_by is_any (entry_records sequence body zone header k es) ≡ length es
entries-any sequence zone header k body [] = refl
entries-any sequence zone header k body (e ∷ es) =
    let rest = entry_records sequence body zone header (k + one_unless e.trim) es in
    omega (arith, count-cons is_any (record_of sequence body zone header k e) rest, entries-any sequence zone header (k + one_unless e.trim) body es)

entries-data : (sequence zone header k : ℕ) (body : List (List ℕ)) (es : List Entry) → count_by is_data (entry_records sequence body zone header k es) ≡ data_count es
entries-data sequence zone header k body [] = refl
entries-data sequence zone header k body (e ∷ es) =
    let rest = entry_records sequence body zone header (k + one_unless e.trim) es in
    omega (arith, count-cons is_data (record_of sequence body zone header k e) rest, entries-data sequence zone header (k + one_unless e.trim) body es, one e.trim)
  where
    one : (t : Bool) → cond (is_some (entry_content t body k)) 1 0 ≡ one_unless t
    one true = refl
    one false = refl

log-any : (most zone offset : ℕ) (log : List Batch) → AllByRecursion (HasAtMost most) log → count_by is_any (log_records zone offset log) ≤ length log * most
log-any most zone offset [] all = omega arith
log-any most zone offset (b ∷ bs) all =
    let rest = log_records zone (offset + batch_size b) bs in
    omega (
      arith,
      count-append is_any (batch_records zone offset b) rest,
      entries-any b.heading.sequence zone offset 0 b.body b.heading.entries,
      all.0,
      log-any most zone (offset + batch_size b) bs all.1,
      add-mul 1 (length bs) most,
    )

log-data : (zone offset : ℕ) (log : List Batch) → length log + count_by is_data (log_records zone offset log) ≡ log_size log
log-data zone offset [] = refl
log-data zone offset (b ∷ bs) =
    let rest = log_records zone (offset + batch_size b) bs in
    omega (arith, count-append is_data (batch_records zone offset b) rest, entries-data b.heading.sequence zone offset 0 b.body b.heading.entries, log-data zone (offset + batch_size b) bs)

-- a log that is not empty has a batch
pub some-length : (log : List Batch) → log ≢ [] → 1 ≤ length log
some-length [] some = absurd (some refl)
some-length (b ∷ bs) some = omega arith

-- records no more than a quota fit a zone
pub few_fit : FewFit
few_fit most size zone logs pos some few =
    let log = log_at logs zone in
    let records-few : live_records size logs zone ≤ length log * most = omega (arith, live-le is_any size zone logs, log-any most zone 0 log few) in
    let batches = div_ceil-le (live_records size logs zone) most (length log) (omega arith) records-few in
    omega (arith, batches, some-length log some, live-le is_data size zone logs, log-data zone 0 log)
