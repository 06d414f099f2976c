-- The newest records of logs in which a vacant zone got a log.
use Rattle.std.proofs.Common.{◌≡◌, ◌≢◌, ℕ, zero, suc, ◌+◌, ◌<◌, ◌≤◌, List, [], ◌∷◌, ◌++◌, length, set, Option, Some, None, refl, sym, ap, ◌∙◌, arith}
use Rattle.std.specs.List.{AllByRecursion}
use Rattle.std.proofs.lemmas.Bool.{le-ltb, lt-ltb}
use Rattle.std.proofs.lemmas.List.{set-get_or}
use Rattle.batch_log.specs.declared.header.Entry.{Entry}
use Rattle.batch_log.specs.Log.{Batch, batch_size, one_unless}
use Rattle.drive_array.specs.Records.{AllBelow, Record, batch_records, entry_records, log_records, newer, newest, records}
use Rattle.drive_array.specs.Spare.{IsVacant}
use Rattle.drive_array.specs.ZoneLogs.{sequences}
use Rattle.drive_array.proofs.AllLaws.{all-append}
use Rattle.drive_array.proofs.DeadLaws.{OnRecord, on-newer, on-newest}
use Rattle.drive_array.proofs.NewestLaws.{AllBelow-parts, newer-assoc, newest-append}
use Rattle.drive_array.proofs.SequenceLaws.{records-below}

-- a record, if any, is older than a sequence
abbrev pub OlderThan : ℕ → Option Record → Type 0
OlderThan s x = OnRecord (λ (r : Record). r.sequence < s) x

-- of a block, the newest records before a zone's and behind them, whatever the zone's log
record Around (block first index zone : ℕ) (logs : List (List Batch)) : Type 0 where
  before : Option Record
  behind : Option Record
  both : (log : List Batch) → newest block (records first (set logs index log)) ≡ newer before (newer (newest block (log_records zone 0 log)) behind)
  older : (s : ℕ) → AllBelow s (records first logs) → OlderThan s before × OlderThan s behind

newest-front : (block : ℕ) (xs ys : List Record) (a b : Option Record) → newest block ys ≡ newer a b → newest block (xs ++ ys) ≡ newer (newer (newest block xs) a) b
newest-front block xs ys a b e = newest-append block xs ys ∙ ap (newer (newest block xs)) e ∙ newer-assoc (newest block xs) a b

around : (block first index zone : ℕ) (logs : List (List Batch)) → zone ≡ first + index → index < length logs → Around block first index zone logs
around block first index zone [] e lt = absurd (omega arith)
around block first zero zone (x ∷ logs) e lt =
    let same : first ≡ zone = omega (arith, e) in
    let rest = records (suc first) logs in
    record {
      before = None;
      behind = newest block rest;
      both = rw same (λ log. newest-append block (log_records zone 0 log) (records (suc zone) logs));
      older = λ s all. (tt, on-newest (λ (r : Record). r.sequence < s) block rest (AllBelow-parts s (log_records first 0 x) rest all).1);
    }
around block first (suc index) zone (x ∷ logs) e lt =
    let rest = around block (suc first) index zone logs (omega (arith, e)) (omega arith) in
    let mine = newest block (log_records first 0 x) in
    record {
      before = newer mine rest.before;
      behind = rest.behind;
      both = λ log. newest-front block (log_records first 0 x) (records (suc first) (set logs index log)) rest.before (newer (newest block (log_records zone 0 log)) rest.behind) (rest.both log);
      older = λ s all. (
          let parts = AllBelow-parts s (log_records first 0 x) (records (suc first) logs) all in
          let others = rest.older s parts.1 in
          (on-newer (λ (r : Record). r.sequence < s) mine rest.before (on-newest (λ (r : Record). r.sequence < s) block (log_records first 0 x) parts.0) others.0, others.1)
          );
    }

-- a vacant zone without a log
pub put-none : (logs : List (List Batch)) (zone : ℕ) → IsVacant logs zone → set logs zone [] ≡ logs
put-none logs zone vacant = rw vacant at (set-get_or logs zone [])

-- a log that says nothing of a block changes nothing there
pub newest-unsaid : (block zone : ℕ) (logs : List (List Batch)) (log : List Batch) → zone < length logs → IsVacant logs zone → newest block (log_records zone 0 log) ≡ None
    → newest block (records 0 (set logs zone log)) ≡ newest block (records 0 logs)
newest-unsaid block zone logs log lt vacant none =
    let at = around block 0 zone zone logs (omega arith) lt in
    at.both log ∙ ap (λ (r : Option Record). newer at.before (newer r at.behind)) none ∙ sym (at.both []) ∙ ap (λ (ls : List (List Batch)). newest block (records 0 ls)) (put-none logs zone vacant)

-- a record is the newest that the others are older than
pub newer-older : (s : ℕ) (before behind : Option Record) (r : Record) → s ≤ r.sequence → OlderThan s before → OlderThan s behind → newer before (newer (Some r) behind) ≡ Some r
newer-older s before behind r le old old' = ap (newer before) (front behind old') ∙ back before old
  where
    front : (x : Option Record) → OlderThan s x → newer (Some r) x ≡ Some r
    front None h = refl
    front (Some x) h = rw (le-ltb r.sequence x.sequence (omega (arith, le, h))) refl

    back : (x : Option Record) → OlderThan s x → newer x (Some r) ≡ Some r
    back None h = refl
    back (Some x) h = rw (lt-ltb x.sequence r.sequence (omega (arith, le, h))) refl

-- ---- a log that is later than all others

-- a batch has a sequence above these
abbrev pub IsAbove : List ℕ → Batch → Type 0
IsAbove numbers batch = AllByRecursion (λ sequence. sequence < batch.heading.sequence) numbers

-- the records of a batch are above all sequences that are below its own
pub entries-above : (numbers : List ℕ) (s zone header k : ℕ) (body : List (List ℕ)) (es : List Entry) → AllByRecursion (λ n. n < s) numbers
    → AllByRecursion (λ (r : Record). AllByRecursion (λ n. n < r.sequence) numbers) (entry_records s body zone header k es)
entries-above numbers s zone header k body [] above = tt
entries-above numbers s zone header k body (e ∷ es) above = (above, entries-above numbers s zone header (k + one_unless e.trim) body es above)

log-above : (numbers : List ℕ) (zone offset : ℕ) (log : List Batch) → AllByRecursion (IsAbove numbers) log → AllByRecursion (λ (r : Record). AllByRecursion (λ n. n < r.sequence) numbers) (log_records zone offset log)
log-above numbers zone offset [] all = tt
log-above numbers zone offset (b ∷ bs) all =
    all-append (λ (r : Record). AllByRecursion (λ n. n < r.sequence) numbers) (batch_records zone offset b) (log_records zone (offset + batch_size b) bs)
    (entries-above numbers b.heading.sequence zone offset 0 b.body b.heading.entries all.0) (log-above numbers zone (offset + batch_size b) bs all.1)

-- of a block that it names, its record is the newest
pub newest-said : (block zone : ℕ) (logs : List (List Batch)) (log : List Batch) → zone < length logs → AllByRecursion (IsAbove (sequences logs)) log → newest block (log_records zone 0 log) ≢ None
    → newest block (records 0 (set logs zone log)) ≡ newest block (log_records zone 0 log)
newest-said block zone logs log lt later some =
    by (newest block (log_records zone 0 log)) refl (on-newest (λ (r : Record). AllByRecursion (λ n. n < r.sequence) (sequences logs)) block (log_records zone 0 log) (log-above (sequences logs) zone 0 log later))
  where
    by : (x : Option Record) → newest block (log_records zone 0 log) ≡ x → OnRecord (λ (r : Record). AllByRecursion (λ n. n < r.sequence) (sequences logs)) x → newest block (records 0 (set logs zone log)) ≡ x
    by None e above = absurd (some e)
    by (Some r) e above =
        let at = around block 0 zone zone logs (omega arith) lt in
        let old = at.older r.sequence (records-below r.sequence 0 logs above) in
        at.both log ∙ ap (λ (x : Option Record). newer at.before (newer x at.behind)) e ∙ newer-older r.sequence at.before at.behind r (omega arith) old.0 old.1
