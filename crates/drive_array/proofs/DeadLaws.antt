-- A zone in which no block has its newest record can be emptied.
use Rattle.std.proofs.Common.{◌≡◌, ◌≢◌, ℕ, zero, suc, ◌+◌, ◌<◌, ◌≤◌, Bool, true, false, cond, eqb, ltb, List, [], ◌∷◌, map, length, Option, Some, None, refl, sym, ap, ◌∙◌, arith}
use Rattle.std.specs.List.{AllByRecursion, range_with_len}
use Rattle.std.proofs.lemmas.Bool.{le-ltb, ltb-false}
use Rattle.std.proofs.lemmas.List.{get_or-set_other, length-set}
use Rattle.batch_log.specs.declared.header.Entry.{Entry}
use Rattle.batch_log.specs.Log.{Batch, batch_size, one_unless}
use Rattle.drive_array.specs.Records.{Record, batch_records, entry_records, log_records, newer, newest, records, told, without}
use Rattle.drive_array.specs.Sizes.{encoded_size, greatest, larger, log_greatest, size_or, told_of}
use Rattle.drive_array.specs.ZoneLogs.{log_at}
use Rattle.drive_array.proofs.AllLaws.{all-append}
use Rattle.drive_array.proofs.NewestLaws.{newer-assoc, newest-append}
use Rattle.drive_array.proofs.SizeLaws.{larger-assoc, larger-comm}

-- ---- what holds of all records holds of the newest

-- a fact of a record, if any
abbrev pub OnRecord : (Record → Type 0) → Option Record → Type 0
OnRecord P None = Unit {0}
OnRecord P (Some r) = P r

-- it holds of the newer of two of which it holds
pub on-newer : (P : Record → Type 0) (x y : Option Record) → OnRecord P x → OnRecord P y → OnRecord P (newer x y)
on-newer P None y h k = k
on-newer P (Some x) None h k = h
on-newer P (Some x) (Some y) h k = elim (ltb x.sequence y.sequence) as (λ b. OnRecord P (cond b (Some y) (Some x))) [ true ↦ k | false ↦ h ]

on-one : (P : Record → Type 0) (b : Bool) (r : Record) → P r → OnRecord P (cond b (Some r) None)
on-one P true r h = h
on-one P false r h = tt

-- and of the newest of a list
pub on-newest : (P : Record → Type 0) (block : ℕ) (rs : List Record) → AllByRecursion P rs → OnRecord P (newest block rs)
on-newest P block [] all = tt
on-newest P block (r ∷ rs) all = on-newer P (cond (eqb r.block block) (Some r) None) (newest block rs) (on-one P (eqb r.block block) r all.0) (on-newest P block rs all.1)

-- ---- the records of a zone

entries-zone : (sequence : ℕ) (body : List (List ℕ)) (zone header k : ℕ) (es : List Entry) → AllByRecursion (λ (r : Record). r.zone ≡ zone) (entry_records sequence body zone header k es)
entries-zone sequence body zone header k [] = tt
entries-zone sequence body zone header k (e ∷ es) = (refl, entries-zone sequence body zone header (k + one_unless e.trim) es)

-- the records of a log are in its zone
pub log-zone : (zone offset : ℕ) (log : List Batch) → AllByRecursion (λ (r : Record). r.zone ≡ zone) (log_records zone offset log)
log-zone zone offset [] = tt
log-zone zone offset (b ∷ bs) =
    all-append (λ (r : Record). r.zone ≡ zone) (batch_records zone offset b) (log_records zone (offset + batch_size b) bs)
    (entries-zone b.heading.sequence b.body zone offset 0 b.heading.entries) (log-zone zone (offset + batch_size b) bs)

-- ---- records that are not the newest can go

-- a record, if any, is not in a zone
abbrev pub NotIn : ℕ → Option Record → Type 0
NotIn zone r = OnRecord (λ (one : Record). one.zone ≢ zone) r

skip : (zone : ℕ) (x v y : Option Record) → OnRecord (λ (r : Record). r.zone ≡ zone) v → NotIn zone (newer x (newer v y)) → newer x (newer v y) ≡ newer x y
skip zone x None y from out = refl
skip zone None (Some v) None from out = absurd (out from)
skip zone (Some x) (Some v) None from out = by (ltb x.sequence v.sequence) out
  where
    by : (b : Bool) → NotIn zone (cond b (Some v) (Some x)) → cond b (Some v) (Some x) ≡ Some x
    by true out = absurd (out from)
    by false out = refl
skip zone None (Some v) (Some y) from out = by (ltb v.sequence y.sequence) out
  where
    by : (b : Bool) → NotIn zone (cond b (Some y) (Some v)) → cond b (Some y) (Some v) ≡ Some y
    by true out = refl
    by false out = absurd (out from)
skip zone (Some x) (Some v) (Some y) from out = by (ltb v.sequence y.sequence) refl out
  where
    last : (b : Bool) → ltb v.sequence y.sequence ≡ false → ltb x.sequence v.sequence ≡ b → NotIn zone (cond b (Some v) (Some x)) → cond b (Some v) (Some x) ≡ cond (ltb x.sequence y.sequence) (Some y) (Some x)
    last true older e out = absurd (out from)
    last false older e out =
        let high : v.sequence ≤ x.sequence = ltb-false x.sequence v.sequence e in
        let low : y.sequence ≤ v.sequence = ltb-false v.sequence y.sequence older in
        rw (le-ltb x.sequence y.sequence (omega (arith, high, low))) refl

    by : (b : Bool) → ltb v.sequence y.sequence ≡ b → NotIn zone (newer (Some x) (cond b (Some y) (Some v))) → newer (Some x) (cond b (Some y) (Some v)) ≡ newer (Some x) (Some y)
    by true e out = refl
    by false e out = last (ltb x.sequence v.sequence) e refl out

-- the newest of these and of the records of all zones but one
newest-rest : (block first index zone : ℕ) (x : Option Record) (logs : List (List Batch)) → zone ≡ first + index → index < length logs → NotIn zone (newer x (newest block (records first logs)))
    → newer x (newest block (records first (without logs index))) ≡ newer x (newest block (records first logs))
newest-rest block first index zone x [] e lt out = absurd (omega arith)
newest-rest block first zero zone x (log ∷ logs) e lt out =
    let mine = log_records first 0 log in
    let rest = newest block (records (suc first) logs) in
    let same : first ≡ zone = omega (arith, e) in
    let split : newest block (records first (log ∷ logs)) ≡ newer (newest block mine) rest = newest-append block mine (records (suc first) logs) in
    let from : OnRecord (λ (r : Record). r.zone ≡ zone) (newest block mine) = rw same (on-newest (λ (r : Record). r.zone ≡ zone) block (log_records zone 0 log) (log-zone zone 0 log)) in
    sym (skip zone x (newest block mine) rest from (rw split at out)) ∙ ap (newer x) (sym split)
newest-rest block first (suc index) zone x (log ∷ logs) e lt out =
    let mine = newest block (log_records first 0 log) in
    let rest = records (suc first) logs in
    let less = records (suc first) (without logs index) in
    let split : newer x (newest block (records first (log ∷ logs))) ≡ newer (newer x mine) (newest block rest) = ap (newer x) (newest-append block (log_records first 0 log) rest) ∙ newer-assoc x mine (newest block rest) in
    let split' : newer x (newest block (records first (log ∷ without logs index))) ≡ newer (newer x mine) (newest block less) = ap (newer x) (newest-append block (log_records first 0 log) less) ∙ newer-assoc x mine (newest block less) in
    split' ∙ newest-rest block (suc first) index zone (newer x mine) logs (omega (arith, e)) (omega arith) (rw split at out) ∙ sym split

-- a block whose newest record is elsewhere is the same without the zone
pub newest-without : (block zone : ℕ) (logs : List (List Batch)) → zone < length logs → NotIn zone (newest block (records 0 logs)) → newest block (records 0 (without logs zone)) ≡ newest block (records 0 logs)
newest-without block zone logs lt out = newest-rest block 0 zone zone None logs (omega arith) lt out

-- ---- sizes

larger-same : (x : Option ℕ) → larger x x ≡ x
larger-same None = refl
larger-same (Some a) = ap (λ (n : ℕ). Some n) (omega arith)

-- the greatest size is one zone's or the others'
pub greatest-split : (logs : List (List Batch)) (zone : ℕ) → zone < length logs → greatest logs ≡ larger (log_greatest (log_at logs zone)) (greatest (without logs zone))
greatest-split [] zone lt = absurd (omega arith)
greatest-split (log ∷ logs) zero lt = refl
greatest-split (log ∷ logs) (suc zone) lt =
    let a = log_greatest log in
    let b = log_greatest (log_at logs zone) in
    let rest = greatest (without logs zone) in
    ap (larger a) (greatest-split logs zone (omega arith)) ∙ larger-assoc a b rest ∙ ap (λ (s : Option ℕ). larger s rest) (larger-comm a b) ∙ sym (larger-assoc b a rest)

-- a zone's sizes are among all sizes
pub greatest-absorbs : (logs : List (List Batch)) (zone : ℕ) → zone < length logs → larger (log_greatest (log_at logs zone)) (greatest logs) ≡ greatest logs
greatest-absorbs logs zone lt =
    let d = log_greatest (log_at logs zone) in
    let rest = greatest (without logs zone) in
    let split = greatest-split logs zone lt in
    ap (larger d) split ∙ larger-assoc d d rest ∙ ap (λ (s : Option ℕ). larger s rest) (larger-same d) ∙ sym split

-- A zone's log can go with its sizes where another zone says none smaller.
pub greatest-without : (logs : List (List Batch)) (zone other : ℕ) → zone < length logs → other < length logs → zone ≢ other
    → larger (log_greatest (log_at logs zone)) (log_greatest (log_at logs other)) ≡ log_greatest (log_at logs other) → greatest (without logs zone) ≡ greatest logs
greatest-without logs zone other lt lt' apart covers =
    let less = without logs zone in
    let v = log_greatest (log_at logs zone) in
    let d = log_greatest (log_at logs other) in
    let g = greatest less in
    let same : log_at less other ≡ log_at logs other = get_or-set_other logs zone other [] [] (λ e. apart (sym e)) in
    let absorbs : larger d g ≡ g = ap (λ (log : List Batch). larger (log_greatest log) g) (sym same) ∙ greatest-absorbs less other (omega (arith, lt', length-set logs zone [])) in
    sym (greatest-split logs zone lt ∙ ap (larger v) (sym absorbs) ∙ larger-assoc v d g ∙ ap (λ (s : Option ℕ). larger s g) covers ∙ absorbs)

-- ---- what is told of all blocks

-- two functions that agree on a range give the same list
pub map-range_same : {X : Type 0} (f g : ℕ → X) (a n : ℕ) → ((k : ℕ) → a ≤ k → k < a + n → f k ≡ g k) → map f (range_with_len a n) ≡ map g (range_with_len a n)
map-range_same f g a zero same = refl
map-range_same {X} f g a (suc n) same =
    rw (same a (omega arith) (omega arith)) (ap (λ (xs : List X). g a ∷ xs) (map-range_same f g (a + 1) n (λ k le lt. same k (omega arith) (omega arith))))

-- without a zone in which no block has its newest record, the same is told of all blocks
pub told-without : {X : Type 0} (f : Option Record → X) (n zone : ℕ) (logs : List (List Batch)) → zone < length logs → greatest (without logs zone) ≡ greatest logs
    → ((block : ℕ) → block < encoded_size n logs → NotIn zone (newest block (records 0 logs))) → told_of f n (without logs zone) ≡ told_of f n logs
told-without f n zone logs lt size dead =
    ap (λ (s : Option ℕ). told f (size_or n s) (records 0 (without logs zone))) size
    ∙ map-range_same (λ block. f (newest block (records 0 (without logs zone)))) (λ block. f (newest block (records 0 logs))) 0 (encoded_size n logs) (λ block le below. ap f (newest-without block zone logs lt (dead block (omega arith))))
