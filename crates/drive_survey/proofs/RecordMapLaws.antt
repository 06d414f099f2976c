-- A table holds the records of the logs that its headers are of.
use Rattle.std.proofs.Common.{◌≡◌, ◌≢◌, ◌⊎◌, inl, inr, ℕ, zero, suc, ◌+◌, ◌≤◌, not, Bool, true, false, cond, eqb, ◌&&◌, List, [], ◌∷◌, map, Option, Some, None, refl, sym, ap, subst, ◌∙◌, arith}
use Rattle.std.specs.BTreeMap.{BTreeMap, IsEmpty, get}
use Rattle.std.specs.List.{AllByRecursion, Contains}
use Rattle.std.specs.Option.{option_map}
use Rattle.std.specs.Ordering.{nat_cmp}
use Rattle.std.proofs.lemmas.Bool.{eq-eqb, eqb-true, ne_eqb}
use Rattle.std.proofs.lemmas.List.{map-id}
use Rattle.std.proofs.lemmas.List.Elements.{All-contains, All-from_recursion, Contains-append_left, Contains-append_right}
use Rattle.batch_log.specs.Log.{Batch}
use Rattle.drive_array.specs.Records.{Record, log_records, records, without}
use Rattle.drive_array.specs.ZoneLogs.{log_at}
use Rattle.drive_array.proofs.AllLaws.{all-append, all-weaker}
use Rattle.drive_array.proofs.NewestLaws.{all-among}
use Rattle.drive_array.proofs.DeadLaws.{log-zone}
use Rattle.drive_survey.specs.declared.records.KeptRecord.{KeptRecord}
use Rattle.drive_survey.specs.declared.clearing.block_records.BlockRecords.{BlockRecords}
use Rattle.drive_survey.specs.BlockRecords.{AreRecords, HasNoRecord, HoldsRecords, IsNewestInZone, forgets, held_of, notes, slot_after, slot_of}
use Rattle.drive_survey.specs.KeptRecords.{kept_record}
use Rattle.drive_survey.proofs.OutsideLaws.{is_outside, outside, outside-is, records-from}
use Rattle.drive_survey.specs.NewestRecords.{AreNewest}
use Rattle.drive_survey.proofs.NewestListLaws.{IsNewestList, among-map, map-among}
use Rattle.drive_survey.proofs.RecordKeyLaws.{AreApart, same-record}
use Rattle.drive_survey.proofs.RecordTableLaws.{Changes}

-- ---- one place

-- none of these has this block and this sequence
abbrev NoneAt : {X : Type 0} → (X → KeptRecord) → ℕ → ℕ → List X → Type 0
NoneAt of block sequence xs = AllByRecursion (λ x. (of x).block ≡ block → (of x).sequence ≡ sequence → ⊥) xs

-- what is at a place comes from one of these, or was there before
abbrev Comes : {X : Type 0} → (X → KeptRecord) → (KeptRecord → Option KeptRecord) → ℕ → ℕ → Option KeptRecord → List X → Option (Option KeptRecord) → Type 0
Comes {X} of put block sequence found xs now =
    ((x : X) × Contains xs x × ((of x).block ≡ block) × ((of x).sequence ≡ sequence) × (now ≡ Some (put (of x)))) ⊎ (NoneAt of block sequence xs × (now ≡ Some found))

in-rest : {X : Type 0} (r x : X) (rs : List X) → Contains rs x → Contains (r ∷ rs) x
in-rest r x rs (k, lt, is) = (suc k, omega (arith, lt), is)

comes : {X : Type 0} (of : X → KeptRecord) (put : KeptRecord → Option KeptRecord) (block sequence : ℕ) (found : Option KeptRecord) (rs : List X) → Comes of put block sequence found rs (slot_after put block sequence (Some found) (map of rs))
comes of put block sequence found [] = inr (tt, refl)
comes {X} of put block sequence found (r ∷ rs) = by (eqb (of r).block block) (eqb (of r).sequence sequence) refl refl (comes of put block sequence found rs) (comes of put block sequence (put (of r)) rs)
  where
    after : Option KeptRecord → Option (Option KeptRecord)
    after x = slot_after put block sequence (Some x) (map of rs)

    passed : ((of r).block ≡ block → (of r).sequence ≡ sequence → ⊥) → Comes of put block sequence found rs (after found) → Comes of put block sequence found (r ∷ rs) (after found)
    passed other (inl here) = inl (here.0, in-rest r here.0 rs here.1, here.2, here.3, here.4)
    passed other (inr none) = inr ((other, none.0), none.1)

    taken : (of r).block ≡ block → (of r).sequence ≡ sequence → Comes of put block sequence (put (of r)) rs (after (put (of r))) → Comes of put block sequence found (r ∷ rs) (after (put (of r)))
    taken e f (inl here) = inl (here.0, in-rest r here.0 rs here.1, here.2, here.3, here.4)
    taken e f (inr none) = inl (r, (0, omega arith, refl), e, f, none.1)

    by : (s t : Bool) → eqb (of r).block block ≡ s → eqb (of r).sequence sequence ≡ t → Comes of put block sequence found rs (after found) → Comes of put block sequence (put (of r)) rs (after (put (of r)))
        → Comes of put block sequence found (r ∷ rs) (after (cond (s && t) (put (of r)) found))
    by true true e f first second = taken (eqb-true (of r).block block e) (eqb-true (of r).sequence sequence f) second
    by true false e f first second = passed (λ same_block same. let bad : eqb (of r).sequence sequence ≡ true = eq-eqb (of r).sequence sequence same in absurd (cc)) first
    by false t e f first second = passed (λ same same_sequence. let bad : eqb (of r).block block ≡ true = eq-eqb (of r).block block same in absurd (cc)) first

-- ---- all records are put in

slot-there : (table : BlockRecords) (block sequence : ℕ) (held : BTreeMap ℕ KeptRecord) → held_of table block ≡ Some held → slot_of table block sequence ≡ Some (get nat_cmp held sequence)
slot-there table block sequence held there = ap (option_map (λ (h : BTreeMap ℕ KeptRecord). get nat_cmp h sequence)) there

slot-absent : (put : KeptRecord → Option KeptRecord) (block sequence : ℕ) (rs : List KeptRecord) → slot_after put block sequence None rs ≡ None
slot-absent put block sequence [] = refl
slot-absent put block sequence (r ∷ rs) = slot-absent put block sequence rs

empty-none : (held : BTreeMap ℕ KeptRecord) (sequence : ℕ) → IsEmpty held → get nat_cmp held sequence ≡ None
empty-none held sequence empty = rw empty refl

-- a block that a changed table holds was held before
was-held : (put : KeptRecord → Option KeptRecord) (old new : BlockRecords) (rs : List KeptRecord) (block : ℕ) (held : BTreeMap ℕ KeptRecord) → Changes put old new rs → held_of new block ≡ Some held → (first : BTreeMap ℕ KeptRecord) × (held_of old block ≡ Some first)
was-held put old new rs block held changes there = by (held_of old block) refl
  where
    by : (x : Option (BTreeMap ℕ KeptRecord)) → held_of old block ≡ x → (first : BTreeMap ℕ KeptRecord) × (held_of old block ≡ Some first)
    by None e =
        let none : slot_of old block 0 ≡ None = ap (option_map (λ (h : BTreeMap ℕ KeptRecord). get nat_cmp h 0)) e in
        let bad = sym (slot-there new block 0 held there) ∙ changes block 0 ∙ ap (λ (x : Option (Option KeptRecord)). slot_after put block 0 x rs) none ∙ slot-absent put block 0 rs in
        absurd (cc)
    by (Some first) e = (first, e)

-- what a changed table has of a block
now-at : {X : Type 0} (of : X → KeptRecord) (put : KeptRecord → Option KeptRecord) (old new : BlockRecords) (rs : List X) (block sequence : ℕ) (first held : BTreeMap ℕ KeptRecord) → Changes put old new (map of rs) → held_of old block ≡ Some first → held_of new block ≡ Some held
    → Comes of put block sequence (get nat_cmp first sequence) rs (Some (get nat_cmp held sequence))
now-at of put old new rs block sequence first held changes was there =
    let now : slot_after put block sequence (Some (get nat_cmp first sequence)) (map of rs) ≡ Some (get nat_cmp held sequence) =
    ap (λ (x : Option (Option KeptRecord)). slot_after put block sequence x (map of rs)) (sym (slot-there old block sequence first was)) ∙ sym (changes block sequence) ∙ slot-there new block sequence held there in
    subst (Comes of put block sequence (get nat_cmp first sequence) rs) now (comes of put block sequence (get nat_cmp first sequence) rs)

abbrev itself : KeptRecord → KeptRecord
itself k = k

-- what holds of all these records holds of one among them
pub kept-among : (P : KeptRecord → Type 0) (ks : List KeptRecord) (k : KeptRecord) → AllByRecursion P ks → Contains ks k → P k
kept-among P ks k all c = All-contains P ks k (All-from_recursion P ks all) c

noted-records : (logs : List (List Batch)) (all : List KeptRecord) (block : ℕ) (held : BTreeMap ℕ KeptRecord) → AreApart (records 0 logs) → IsNewestList logs all → ((sequence : ℕ) → Comes itself notes block sequence None all (Some (get nat_cmp held sequence))) → AreRecords logs block held
noted-records logs all block held apart newest at = record {
  all_held = held-all;
  no_other = λ sequence found e. other sequence found e (at sequence);
}
  where
    held-all : (r : Record) → Contains (records 0 logs) r → r.block ≡ block → IsNewestInZone logs r → get nat_cmp held r.sequence ≡ Some (kept_record r)
    held-all r c same last = by (at r.sequence)
      where
        by : Comes itself notes block r.sequence None all (Some (get nat_cmp held r.sequence)) → get nat_cmp held r.sequence ≡ Some (kept_record r)
        by (inl x) =
            let from = newest.from x.0 x.1 in
            let one : from.0 ≡ r = same-record (records 0 logs) from.0 r apart from.1 c (ap (λ (k : KeptRecord). k.block) from.2 ∙ x.2 ∙ sym same) (ap (λ (k : KeptRecord). k.sequence) from.2 ∙ x.3) in
            let now : get nat_cmp held r.sequence ≡ Some x.0 = (let e = x.4 in cc) in
            now ∙ ap (λ (k : KeptRecord). Some k) (sym from.2) ∙ ap (λ (y : Record). Some (kept_record y)) one
        by (inr none) = absurd (kept-among (λ (k : KeptRecord). k.block ≡ block → k.sequence ≡ r.sequence → ⊥) all (kept_record r) none.0 (newest.has r c last) same refl)

    other : (sequence : ℕ) (found : KeptRecord) → get nat_cmp held sequence ≡ Some found → Comes itself notes block sequence None all (Some (get nat_cmp held sequence))
        → (r : Record) × Contains (records 0 logs) r × (r.block ≡ block) × (r.sequence ≡ sequence) × (kept_record r ≡ found) × IsNewestInZone logs r
    other sequence found e (inl x) =
        let from = newest.from x.0 x.1 in
        let one : x.0 ≡ found = (let now = x.4 in cc) in
        (from.0, from.1, ap (λ (k : KeptRecord). k.block) from.2 ∙ x.2, ap (λ (k : KeptRecord). k.sequence) from.2 ∙ x.3, from.2 ∙ one, from.3)
    other sequence found e (inr none) = absurd (let now = none.1 in cc)

-- a table with no record holds the logs' records once all newest records are put in
pub holds-noted : (logs : List (List Batch)) (old new : BlockRecords) (all : List KeptRecord) → AreApart (records 0 logs) → IsNewestList logs all → HasNoRecord old → Changes notes old new all → HoldsRecords logs new
holds-noted logs old new all apart newest none changes block held there =
    let was = was-held notes old new all block held changes there in
    let changes' : Changes notes old new (map itself all) = subst (Changes notes old new) (sym (map-id all)) changes in
    noted-records logs all block held apart newest
    (λ sequence. subst (λ (x : Option KeptRecord). Comes itself notes block sequence x all (Some (get nat_cmp held sequence))) (empty-none was.0 sequence (none block was.0 was.1))
    (now-at itself notes old new all block sequence was.0 held changes' was.1 there))

-- ---- those of a zone are taken out

-- a record outside a zone is one of the records, and in another zone
pub among-outside : (zone : ℕ) (rs : List Record) (r : Record) → Contains (outside zone rs) r → Contains rs r × (r.zone ≢ zone)
among-outside zone [] r c = absurd (omega (arith, c.1))
among-outside zone (x ∷ rs) r c = by (eqb x.zone zone) refl (λ d. among-outside zone rs r d) c
  where
    Rest : Type 0
    Rest = Contains (outside zone rs) r → Contains rs r × (r.zone ≢ zone)

    more : Contains rs r × (r.zone ≢ zone) → Contains (x ∷ rs) r × (r.zone ≢ zone)
    more both = (in-rest x r rs both.0, both.1)

    first : eqb x.zone zone ≡ false → Rest → Contains (x ∷ outside zone rs) r → Contains (x ∷ rs) r × (r.zone ≢ zone)
    first e rest (zero, lt, is) = ((0, omega arith, is), λ same. let bad : eqb x.zone zone ≡ true = eq-eqb x.zone zone (ap (λ (y : Record). y.zone) is ∙ same) in absurd (cc))
    first e rest (suc k, lt, is) = more (rest (k, omega (arith, lt), is))

    by : (b : Bool) → eqb x.zone zone ≡ b → Rest → Contains (cond (not b) (x ∷ outside zone rs) (outside zone rs)) r → Contains (x ∷ rs) r × (r.zone ≢ zone)
    by true e rest d = more (rest d)
    by false e rest d = first e rest d

-- a record that is in another zone is among the records outside the zone
pub outside-among : (zone : ℕ) (rs : List Record) (r : Record) → Contains rs r → r.zone ≢ zone → Contains (outside zone rs) r
outside-among zone [] r c apart = absurd (omega (arith, c.1))
outside-among zone (x ∷ rs) r (zero, lt, is) apart = rw (ne_eqb x.zone zone (λ same. apart (ap (λ (y : Record). y.zone) (sym is) ∙ same))) (0, omega arith, is)
outside-among zone (x ∷ rs) r (suc k, lt, is) apart = by (is_outside zone x) (outside-among zone rs r (k, omega (arith, lt), is) apart)
  where
    by : (b : Bool) → Contains (outside zone rs) r → Contains (cond b (x ∷ outside zone rs) (outside zone rs)) r
    by true d = in-rest x r (outside zone rs) d
    by false d = d

-- a zone's records are among all records, and are in it
own-among : (first index zone : ℕ) (logs : List (List Batch)) (r : Record) → zone ≡ first + index → Contains (log_records zone 0 (log_at logs index)) r → Contains (records first logs) r
own-among first index zone [] r e c = absurd (omega (arith, c.1))
own-among first zero zone (log ∷ logs) r e c =
    let same : zone ≡ first = omega (arith, e) in
    Contains-append_left (log_records first 0 log) (records (suc first) logs) r (rw same at c)
own-among first (suc index) zone (log ∷ logs) r e c =
    Contains-append_right (log_records first 0 log) (records (suc first) logs) r (own-among (suc first) index zone logs r (omega (arith, e)) c)

-- what holds of a zone's records holds of all that are in it
pub zone-own : (P : Record → Type 0) (first index zone : ℕ) (logs : List (List Batch)) → zone ≡ first + index → AllByRecursion P (log_records zone 0 (log_at logs index)) → AllByRecursion (λ (r : Record). r.zone ≡ zone → P r) (records first logs)
zone-own P first index zone [] e all = tt
zone-own P first zero zone (log ∷ logs) e all =
    let same : zone ≡ first = omega (arith, e) in
    let own = rw same at all in
    all-append (λ (r : Record). r.zone ≡ zone → P r) (log_records first 0 log) (records (suc first) logs)
    (all-weaker P (λ (r : Record). r.zone ≡ zone → P r) (log_records first 0 log) (λ r p here. p) own)
    (all-weaker (λ (r : Record). suc first ≤ r.zone) (λ (r : Record). r.zone ≡ zone → P r) (records (suc first) logs) (λ r le here. absurd (omega (arith, same, le, here))) (records-from (suc first) (suc first) logs (omega arith)))
zone-own P first (suc index) zone (log ∷ logs) e all =
    all-append (λ (r : Record). r.zone ≡ zone → P r) (log_records first 0 log) (records (suc first) logs)
    (all-weaker (λ (r : Record). r.zone ≡ first) (λ (r : Record). r.zone ≡ zone → P r) (log_records first 0 log) (λ r is here. absurd (omega (arith, e, is, here))) (log-zone first 0 log))
    (zone-own P (suc first) index zone logs (omega (arith, e)) all)

-- what holds of each member of a list holds of all of it
pub all-self : {X : Type 0} (P : X → Type 0) (xs : List X) → ((x : X) → Contains xs x → P x) → AllByRecursion P xs
all-self P [] each = tt
all-self P (x ∷ xs) each = (each x (0, omega arith, refl), all-self P xs (λ y c. each y (in-rest x y xs c)))

forgotten-records : (logs : List (List Batch)) (zone block : ℕ) (own : List KeptRecord) (first held : BTreeMap ℕ KeptRecord) → AreApart (records 0 logs) → AreNewest (map kept_record (log_records zone 0 (log_at logs zone))) own → AreRecords logs block first
    → ((sequence : ℕ) → Comes itself forgets block sequence (get nat_cmp first sequence) own (Some (get nat_cmp held sequence))) → AreRecords (without logs zone) block held
forgotten-records logs zone block own first held apart newest are at = record {
  all_held = λ r c same last. all r (among-outside zone all_records r (subst (λ (rs : List Record). Contains rs r) (sym others) c)) same last (at r.sequence);
  no_other = λ sequence found e. other sequence found e (at sequence);
}
  where
    all_records : List Record
    all_records = records 0 logs

    zone_records : List Record
    zone_records = log_records zone 0 (log_at logs zone)

    others : outside zone all_records ≡ records 0 (without logs zone)
    others = outside-is 0 zone zone logs (omega arith)

    among : (r : Record) → Contains zone_records r → Contains all_records r × (r.zone ≡ zone)
    among r c = (own-among 0 zone zone logs r (omega arith) c, all-among (λ (y : Record). y.zone ≡ zone) zone_records r (log-zone zone 0 (log_at logs zone)) c)

    among-zone : (r : Record) → Contains all_records r → r.zone ≡ zone → Contains zone_records r
    among-zone r c here = all-among (λ (y : Record). y.zone ≡ zone → Contains zone_records y) all_records r (zone-own (λ (y : Record). Contains zone_records y) 0 zone zone logs (omega arith) (all-self (λ (y : Record). Contains zone_records y) zone_records (λ y d. d))) c here

    still : (r : Record) → r.zone ≢ zone → IsNewestInZone (without logs zone) r → IsNewestInZone logs r
    still r apart_zone last s c same here = last s (subst (λ (rs : List Record). Contains rs s) others (outside-among zone all_records s c (λ gone. apart_zone (sym here ∙ gone)))) same here

    less : (r : Record) → IsNewestInZone logs r → IsNewestInZone (without logs zone) r
    less r last s c same here = last s (among-outside zone all_records s (subst (λ (rs : List Record). Contains rs s) (sym others) c)).0 same here

    all : (r : Record) → Contains all_records r × (r.zone ≢ zone) → r.block ≡ block → IsNewestInZone (without logs zone) r → Comes itself forgets block r.sequence (get nat_cmp first r.sequence) own (Some (get nat_cmp held r.sequence)) → get nat_cmp held r.sequence ≡ Some (kept_record r)
    all r both same last (inl x) =
        let s = map-among zone_records x.0 (newest.among x.0 x.1) in
        let from = among s.0 s.1 in
        let one : s.0 ≡ r = same-record all_records s.0 r apart from.0 both.0 (ap (λ (k : KeptRecord). k.block) s.2 ∙ x.2 ∙ sym same) (ap (λ (k : KeptRecord). k.sequence) s.2 ∙ x.3) in
        absurd (both.1 (ap (λ (y : Record). y.zone) (sym one) ∙ from.1))
    all r both same last (inr none) =
        let now : get nat_cmp held r.sequence ≡ get nat_cmp first r.sequence = (let e = none.1 in cc) in
        now ∙ are.all_held r both.0 same (still r both.1 last)

    -- the newest record of the zone is one of those that were taken out
    taken : (sequence : ℕ) (r : Record) → Contains all_records r → r.block ≡ block → r.sequence ≡ sequence → IsNewestInZone logs r → AllByRecursion (λ (k : KeptRecord). k.block ≡ block → k.sequence ≡ sequence → ⊥) own → r.zone ≡ zone → ⊥
    taken sequence r c same number last none here =
        let there = among-map zone_records r (among-zone r c here) in
        let k = newest.covers (kept_record r) there in
        let s = map-among zone_records k.0 (newest.among k.0 k.1) in
        let from = among s.0 s.1 in
        let le = newest.latest k.0 (kept_record r) k.1 there (sym k.2) in
        let ge = last s.0 from.0 (ap (λ (x : KeptRecord). x.block) s.2 ∙ k.2) (from.1 ∙ sym here) in
        let is : s.0.sequence ≡ k.0.sequence = ap (λ (x : KeptRecord). x.sequence) s.2 in
        kept-among (λ (x : KeptRecord). x.block ≡ block → x.sequence ≡ sequence → ⊥) own k.0 none k.1 (k.2 ∙ same) (omega (arith, le, ge, is, number))

    other : (sequence : ℕ) (found : KeptRecord) → get nat_cmp held sequence ≡ Some found → Comes itself forgets block sequence (get nat_cmp first sequence) own (Some (get nat_cmp held sequence))
        → (r : Record) × Contains (records 0 (without logs zone)) r × (r.block ≡ block) × (r.sequence ≡ sequence) × (kept_record r ≡ found) × IsNewestInZone (without logs zone) r
    other sequence found e (inl x) = absurd (let now = x.4 in cc)
    other sequence found e (inr none) =
        let was : get nat_cmp first sequence ≡ Some found = (let now = none.1 in cc) in
        let r = are.no_other sequence found was in
        let apart_zone : r.0.zone ≢ zone = (λ here. taken sequence r.0 r.1 r.2 r.3 r.5 none.0 here) in
        (r.0, subst (λ (rs : List Record). Contains rs r.0) others (outside-among zone all_records r.0 r.1 apart_zone), r.2, r.3, r.4, less r.0 r.5)

-- with a zone's newest records taken out, a table holds the records of the other logs
pub holds-forgotten : (logs : List (List Batch)) (zone : ℕ) (own : List KeptRecord) (old new : BlockRecords) → AreApart (records 0 logs) → AreNewest (map kept_record (log_records zone 0 (log_at logs zone))) own → HoldsRecords logs old → Changes forgets old new own
    → HoldsRecords (without logs zone) new
holds-forgotten logs zone own old new apart newest holds changes block held there =
    let was = was-held forgets old new own block held changes there in
    let changes' : Changes forgets old new (map itself own) = subst (Changes forgets old new) (sym (map-id own)) changes in
    forgotten-records logs zone block own was.0 held apart newest (holds block was.0 was.1) (λ sequence. now-at itself forgets old new own block sequence was.0 held changes' was.1 there)
