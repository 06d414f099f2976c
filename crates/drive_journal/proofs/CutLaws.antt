-- Changes are read in one way, and changes that were cut off up to the last whole one.
use Rattle.std.proofs.Common.{◌≡◌, ℕ, zero, suc, ◌+◌, ◌-◌, ◌<◌, ltb, Bool, true, false, List, [], ◌∷◌, ◌++◌, length, take, drop, inl, inr, refl, sym, ap, ◌∙◌, append_assoc, arith}
use Rattle.std.specs.Prelude.{if◌then◌else◌}
use Rattle.std.specs.List.{AllByRecursion}
use Rattle.std.proofs.Math.Seq.{take-append-add}
use Rattle.std.proofs.lemmas.Bool.{ltb-false, ltb-true}
use Rattle.std.proofs.lemmas.List.{append-nil, append_cancel_left, length-append, length-take, take-append-drop, take-append-le}
use Rattle.zone_states.specs.declared.geometry.Geometry.{Geometry}
use Rattle.drive_journal.specs.Change.{Change, HasNoChange, IsChange, IsSum, Sum, change_bytes, cut_rest, data_length, head_bytes, journal_bytes, last_sum, mark, next_sum, sealed_entry, sum_bytes, sum_over, whole_in}
use Rattle.drive_journal.specs.Tail.{IsCutOff, begins_as_mark}
use Rattle.drive_journal.proofs.SumLaws.{bytes-one, last-sum, length-sum, over-one, over-sum, same-front}

-- ---- a head

-- a mark, an entry and 8 bytes are a head of this entry just where these are the sum
pub one-head : (sum : Sum) (entry sealed other rest after : List ℕ) → length entry ≡ 64 → length sealed ≡ 8 → length other ≡ 64 → (mark ++ (entry ++ sealed)) ++ rest ≡ head_bytes sum other ++ after
    → (entry ≡ other) × (sealed ≡ sum_bytes (sum_over sum other)) × (rest ≡ after)
one-head sum entry sealed other rest after long wide other_long same =
    let bodies : (entry ++ sealed) ++ rest ≡ sealed_entry sum other ++ after = append_cancel_left mark ((entry ++ sealed) ++ rest) (sealed_entry sum other ++ after) same in
    let heads = same-front entry other (sealed ++ rest) (sum_bytes (sum_over sum other) ++ after) (long ∙ sym other_long)
    (sym (append_assoc entry sealed rest) ∙ bodies ∙ append_assoc other (sum_bytes (sum_over sum other)) after) in
    let ends = same-front sealed (sum_bytes (sum_over sum other)) rest after (wide ∙ sym (length-sum (sum_over sum other))) heads.1 in
    (heads.0, ends.0, ends.1)

-- a head has 80 bytes
pub length-head : (sum : Sum) (entry : List ℕ) → length entry ≡ 64 → length (head_bytes sum entry) ≡ 80
length-head sum entry long = omega (arith, length-append mark (sealed_entry sum entry), length-append entry (sum_bytes (sum_over sum entry)), length-sum (sum_over sum entry), long)

-- what follows the head of a change
abbrev pub rest_of : Sum → Change → List ℕ
rest_of sum change = change.bytes ++ sum_bytes (next_sum sum change)

-- how many bytes a change has
pub length-change : (geometry : Geometry) (sum : Sum) (change : Change) → IsChange geometry change → length (change_bytes sum change) ≡ 88 + data_length geometry change.entry
length-change geometry sum change is =
    omega (arith, length-append (head_bytes sum change.entry) (rest_of sum change), length-head sum change.entry is.entry.long, length-append change.bytes (sum_bytes (next_sum sum change)), length-sum (next_sum sum change), is.bytes)

change-text : (sum : Sum) (change : Change) (rest : List ℕ) → change_bytes sum change ++ rest ≡ head_bytes sum change.entry ++ (change.bytes ++ (sum_bytes (next_sum sum change) ++ rest))
change-text sum change rest =
    append_assoc (head_bytes sum change.entry) (rest_of sum change) rest
    ∙ ap (λ (l : List ℕ). head_bytes sum change.entry ++ l) (append_assoc change.bytes (sum_bytes (next_sum sum change)) rest)

-- ---- one change

-- The bytes of a change at the front have one entry, one list of data, and one sum.
record SameChange (a_sum b_sum : Sum) (a b : Change) (x y : List ℕ) : Type 0 where
  pub entries : a.entry ≡ b.entry
  pub sums : sum_bytes (sum_over a_sum a.entry) ≡ sum_bytes (sum_over b_sum b.entry)
  pub datas : a.bytes ≡ b.bytes
  pub rests : x ≡ y

same-change : (geometry : Geometry) (a_sum b_sum : Sum) (a b : Change) (x y : List ℕ) → IsChange geometry a → IsChange geometry b → change_bytes a_sum a ++ x ≡ change_bytes b_sum b ++ y → SameChange a_sum b_sum a b x y
same-change geometry a_sum b_sum a b x y is_a is_b same =
    let heads = one-head b_sum a.entry (sum_bytes (sum_over a_sum a.entry)) b.entry _ _ is_a.entry.long (length-sum (sum_over a_sum a.entry)) is_b.entry.long (sym (change-text a_sum a x) ∙ same ∙ change-text b_sum b y) in
    let long : length a.bytes ≡ length b.bytes = is_a.bytes ∙ ap (λ (e : List ℕ). data_length geometry e) heads.0 ∙ sym is_b.bytes in
    let datas = same-front a.bytes b.bytes _ _ long heads.2 in
    let ends = same-front (sum_bytes (next_sum a_sum a)) (sum_bytes (next_sum b_sum b)) x y (length-sum (next_sum a_sum a) ∙ sym (length-sum (next_sum b_sum b))) datas.1 in
    record { entries = heads.0; sums = heads.1; datas = datas.0; rests = ends.1 }

-- bytes begin with one change at most
one-change : (geometry : Geometry) (sum : Sum) (a b : Change) (x y : List ℕ) → IsChange geometry a → IsChange geometry b → change_bytes sum a ++ x ≡ change_bytes sum b ++ y → (a ≡ b) × (x ≡ y)
one-change geometry sum a b x y is_a is_b same =
    let one = same-change geometry sum sum a b x y is_a is_b same in
    (ap (λ (e : List ℕ). record { entry = e; bytes = a.bytes }) one.entries ∙ ap (λ (l : List ℕ). record { entry = b.entry; bytes = l }) one.datas, one.rests)

-- a change that went on from another sum is none
pub chained : (geometry : Geometry) (sum other : Sum) (change : Change) (rest : List ℕ) → IsSum sum → IsSum other → (sum ≡ other → ⊥) → IsChange geometry change → HasNoChange geometry sum (change_bytes other change ++ rest)
chained geometry sum other change rest small other_small differs is found after is_found same =
    let one = same-change geometry other sum change found rest after is is_found same in
    let sums : sum_over other found.entry ≡ sum_over sum found.entry =
    bytes-one (sum_over other found.entry) (sum_over sum found.entry) (over-sum other found.entry other_small) (over-sum sum found.entry small) (ap (λ (e : List ℕ). sum_bytes (sum_over other e)) (sym one.entries) ∙ one.sums) in
    differs (sym (over-one other sum found.entry other_small small sums))

-- ---- bytes without a whole change

-- fewer bytes than a head has are no change
pub none-few : (geometry : Geometry) (sum : Sum) (bytes : List ℕ) → length bytes < 80 → HasNoChange geometry sum bytes
none-few geometry sum bytes few change rest is same =
    absurd (omega (arith, few, ap (λ (l : List ℕ). length l) same, length-append (change_bytes sum change) rest, length-change geometry sum change is))

none-short : (geometry : Geometry) (sum : Sum) (change : Change) (n : ℕ) → IsChange geometry change → n < length (change_bytes sum change) → HasNoChange geometry sum (take n (change_bytes sum change))
none-short geometry sum change n is short other rest is_other same =
    let all = change_bytes sum change in
    let front : all ++ [] ≡ change_bytes sum other ++ (rest ++ drop n all) =
    append-nil all ∙ sym (take-append-drop n all) ∙ ap (λ (l : List ℕ). l ++ drop n all) same ∙ append_assoc (change_bytes sum other) rest (drop n all) in
    let one = one-change geometry sum change other [] (rest ++ drop n all) is is_other front in
    let long : length (take n all) ≡ length (change_bytes sum other) + length rest = ap (λ (l : List ℕ). length l) same ∙ length-append (change_bytes sum other) rest in
    absurd (omega (arith, long, ap (λ (c : Change). length (change_bytes sum c)) one.0, length-take n all, short))

-- the first bytes of a mark and what follows begin as the mark does
pub front-begins : (n : ℕ) (body : List ℕ) → begins_as_mark (take n (mark ++ body)) ≡ true
front-begins zero body = refl
front-begins (suc zero) body = refl
front-begins (suc (suc zero)) body = refl
front-begins (suc (suc (suc zero))) body = refl
front-begins (suc (suc (suc (suc zero)))) body = refl
front-begins (suc (suc (suc (suc (suc zero))))) body = refl
front-begins (suc (suc (suc (suc (suc (suc zero)))))) body = refl
front-begins (suc (suc (suc (suc (suc (suc (suc zero))))))) body = refl
front-begins (suc (suc (suc (suc (suc (suc (suc (suc n)))))))) body = refl

-- ---- changes that were cut off

-- nothing at all counts as cut off
pub cut-nothing : (geometry : Geometry) (sum : Sum) → IsCutOff geometry sum []
cut-nothing geometry sum = record { none = none-few geometry sum [] (omega arith); begins = refl; short = inl (omega arith) }

-- a beginning of a change, and not all of it
pub cut-front : (geometry : Geometry) (sum : Sum) (change : Change) (n : ℕ) → IsChange geometry change → n < length (change_bytes sum change) → IsCutOff geometry sum (take n (change_bytes sum change))
cut-front geometry sum change n is short = by (ltb n 80) refl
  where
    head : List ℕ
    head = head_bytes sum change.entry

    none : HasNoChange geometry sum (take n (change_bytes sum change))
    none = none-short geometry sum change n is short

    begins : begins_as_mark (take n (change_bytes sum change)) ≡ true
    begins = front-begins n (sealed_entry sum change.entry ++ rest_of sum change)

    by : (b : Bool) → ltb n 80 ≡ b → IsCutOff geometry sum (take n (change_bytes sum change))
    by true e =
        let few = ltb-true _ _ e in
        record { none = none; begins = begins; short = inl (omega (arith, few, length-take n (change_bytes sum change))) }
    by false e =
        let some = ltb-false _ _ e in
        let long = length-head sum change.entry is.entry.long in
        let splits : n ≡ length head + (n - 80) = omega (arith, some, long) in
        record {
          none = none;
          begins = begins;
          short = inr (
            record {
              entry = change.entry;
              rest = take (n - 80) (rest_of sum change);
              is = is.entry;
              text = ap (λ (k : ℕ). take k (change_bytes sum change)) splits ∙ take-append-add head (rest_of sum change) (n - 80);
            },
            omega (arith, length-take (n - 80) (rest_of sum change), some, short, length-change geometry sum change is),
          );
        }

-- ---- one reading

-- bytes are one list of changes at most, and one rest
pub one-reading : (geometry : Geometry) (sum : Sum) (a_changes b_changes : List Change) (x y : List ℕ) → AllByRecursion (IsChange geometry) a_changes → AllByRecursion (IsChange geometry) b_changes
    → HasNoChange geometry (last_sum sum a_changes) x → HasNoChange geometry (last_sum sum b_changes) y
    → journal_bytes sum a_changes ++ x ≡ journal_bytes sum b_changes ++ y → (a_changes ≡ b_changes) × (x ≡ y)
one-reading geometry sum [] [] x y all_a all_b end_x end_y same = (refl, same)
one-reading geometry sum [] (b ∷ b_changes) x y all_a all_b end_x end_y same =
    absurd (end_x b (journal_bytes (next_sum sum b) b_changes ++ y) all_b.0 (same ∙ append_assoc (change_bytes sum b) (journal_bytes (next_sum sum b) b_changes) y))
one-reading geometry sum (a ∷ a_changes) [] x y all_a all_b end_x end_y same =
    absurd (end_y a (journal_bytes (next_sum sum a) a_changes ++ x) all_a.0 (sym same ∙ append_assoc (change_bytes sum a) (journal_bytes (next_sum sum a) a_changes) x))
one-reading geometry sum (a ∷ a_changes) (b ∷ b_changes) x y all_a all_b end_x end_y same =
    let heads = one-change geometry sum a b _ _ all_a.0 all_b.0 (sym (append_assoc (change_bytes sum a) (journal_bytes (next_sum sum a) a_changes) x) ∙ same ∙ append_assoc (change_bytes sum b) (journal_bytes (next_sum sum b) b_changes) y) in
    let next : next_sum sum b ≡ next_sum sum a = ap (λ (c : Change). next_sum sum c) (sym heads.0) in
    let rest = one-reading geometry (next_sum sum a) a_changes b_changes x y all_a.1 all_b.1 end_x (rw next at end_y) (rw next at heads.1) in
    (ap (λ (c : Change). c ∷ a_changes) heads.0 ∙ ap (λ (cs : List Change). b ∷ cs) rest.0, rest.1)

-- after changes of one run, those of another are not read
pub not-back : (geometry : Geometry) (sum other : Sum) (changes later found : List Change) (rest : List ℕ) → IsSum sum → IsSum other → (last_sum sum changes ≡ other → ⊥)
    → AllByRecursion (IsChange geometry) changes → AllByRecursion (IsChange geometry) later → AllByRecursion (IsChange geometry) found → HasNoChange geometry (last_sum sum found) rest
    → journal_bytes sum found ++ rest ≡ journal_bytes sum changes ++ journal_bytes other later → (found ≡ changes) × (rest ≡ journal_bytes other later)
not-back geometry sum other changes later found rest small other_small differs all all_later all_found none same =
    one-reading geometry sum found changes rest (journal_bytes other later) all_found all none (by later all_later) same
  where
    by : (later : List Change) → AllByRecursion (IsChange geometry) later → HasNoChange geometry (last_sum sum changes) (journal_bytes other later)
    by [] each = none-few geometry (last_sum sum changes) [] (omega arith)
    by (change ∷ more) each = chained geometry (last_sum sum changes) other change (journal_bytes (next_sum other change) more) (last-sum sum changes small) other_small differs each.0

-- ---- cuts

-- the first n bytes of changes are the whole ones in them, and what there is of the next
pub cut-text : (sum : Sum) (changes : List Change) (n : ℕ) → take n (journal_bytes sum changes) ≡ journal_bytes sum (take (whole_in sum n changes) changes) ++ cut_rest sum n changes
cut-text sum [] zero = refl
cut-text sum [] (suc n) = refl
cut-text sum (change ∷ changes) n = by (cut-text (next_sum sum change) changes (n - length (change_bytes sum change))) (ltb n (length (change_bytes sum change))) refl
  where
    next : Sum
    next = next_sum sum change

    len : ℕ
    len = length (change_bytes sum change)

    rest : ℕ
    rest = n - len

    by : take rest (journal_bytes next changes) ≡ journal_bytes next (take (whole_in next rest changes) changes) ++ cut_rest next rest changes → (b : Bool) → ltb n len ≡ b
        → take n (change_bytes sum change ++ journal_bytes next changes)
        ≡ journal_bytes sum (take (if b then 0 else suc (whole_in next (n - len) changes)) (change ∷ changes)) ++ (if b then take n (change_bytes sum change) else cut_rest next (n - len) changes)
    by later true e = take-append-le n (change_bytes sum change) (journal_bytes next changes) (let lt = ltb-true _ _ e in omega (arith, lt))
    by later false e =
        let le = ltb-false _ _ e in
        let splits : n ≡ len + (n - len) = omega (arith, le) in
        ap (λ (k : ℕ). take k (change_bytes sum change ++ journal_bytes next changes)) splits
        ∙ take-append-add (change_bytes sum change) (journal_bytes next changes) (n - len)
        ∙ ap (λ (l : List ℕ). change_bytes sum change ++ l) later
        ∙ sym (append_assoc (change_bytes sum change) (journal_bytes next (take (whole_in next (n - len) changes) changes)) (cut_rest next (n - len) changes))

-- what there is of the next one was cut off
pub cut-rest : (geometry : Geometry) (sum : Sum) (changes : List Change) (n : ℕ) → AllByRecursion (IsChange geometry) changes → IsCutOff geometry (last_sum sum (take (whole_in sum n changes) changes)) (cut_rest sum n changes)
cut-rest geometry sum [] zero all = cut-nothing geometry sum
cut-rest geometry sum [] (suc n) all = cut-nothing geometry sum
cut-rest geometry sum (change ∷ changes) n all = by (cut-rest geometry (next_sum sum change) changes (n - length (change_bytes sum change)) all.1) (ltb n (length (change_bytes sum change))) refl
  where
    next : Sum
    next = next_sum sum change

    len : ℕ
    len = length (change_bytes sum change)

    by : IsCutOff geometry (last_sum next (take (whole_in next (n - len) changes) changes)) (cut_rest next (n - len) changes) → (b : Bool) → ltb n len ≡ b
        → IsCutOff geometry (last_sum sum (take (if b then 0 else suc (whole_in next (n - len) changes)) (change ∷ changes))) (if b then take n (change_bytes sum change) else cut_rest next (n - len) changes)
    by later true e = cut-front geometry sum change n all.0 (ltb-true _ _ e)
    by later false e = later

-- ---- one change more

-- the bytes of one change more
pub journal-more : (sum : Sum) (changes : List Change) (change : Change) → journal_bytes sum (changes ++ change ∷ []) ≡ journal_bytes sum changes ++ change_bytes (last_sum sum changes) change
journal-more sum [] change = append-nil (change_bytes sum change)
journal-more sum (first ∷ changes) change =
    ap (λ (l : List ℕ). change_bytes sum first ++ l) (journal-more (next_sum sum first) changes change)
    ∙ sym (append_assoc (change_bytes sum first) (journal_bytes (next_sum sum first) changes) (change_bytes (last_sum (next_sum sum first) changes) change))

-- and the sum after it
pub sum-more : (sum : Sum) (changes : List Change) (change : Change) → last_sum sum (changes ++ change ∷ []) ≡ next_sum (last_sum sum changes) change
sum-more sum [] change = refl
sum-more sum (first ∷ changes) change = sum-more (next_sum sum first) changes change

-- one change more is a change of the drive, as the others
pub each-more : (geometry : Geometry) (changes : List Change) (change : Change) → AllByRecursion (IsChange geometry) changes → IsChange geometry change → AllByRecursion (IsChange geometry) (changes ++ change ∷ [])
each-more geometry [] change all one = (one, tt)
each-more geometry (first ∷ changes) change all one = (all.0, each-more geometry changes change all.1 one)
