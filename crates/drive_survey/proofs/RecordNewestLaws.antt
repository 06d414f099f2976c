-- The newest record of a block, read from all its records by their sequences.
use Rattle.std.proofs.Common.{◌≡◌, ◌≢◌, ◌⊎◌, inl, inr, ℕ, ◌<◌, ◌≤◌, List, [], ◌∷◌, ◌++◌, length, Option, Some, None, refl, sym, ap, subst, ◌∙◌, arith, append_assoc}
use Rattle.std.specs.BTreeMap.{BTreeMap, IsEmpty, IsOrdered, get}
use Rattle.std.specs.List.{AllByRecursion, Contains}
use Rattle.std.specs.List.Sorted.{IsStrictlySortedBy}
use Rattle.std.specs.Map.{keys_of}
use Rattle.std.specs.Option.{IsSome, option_map}
use Rattle.std.specs.Cmp.{nat_cmp_total}
use Rattle.std.specs.Ordering.{nat_cmp}
use Rattle.std.specs.Prelude.{◌↔◌}
use Rattle.std.specs.declared.cmp.Ordering.TheVariants.{Less}
use Rattle.std.proofs.lemmas.Bool.Decides.{nat_tests}
use Rattle.std.proofs.lemmas.List.Elements.{All-contains, All-from_recursion, Contains-append_cases, Contains-append_left, Contains-push, Contains-push_cases}
use Rattle.std.proofs.lemmas.Map.Lookups.{exact_unsigned}
use Rattle.std.proofs.lemmas.Map.Views.{btree_map_get_iff}
use Rattle.batch_log.specs.Log.{Batch}
use Rattle.drive_array.specs.Records.{IsNewest, Record, newest, records, without}
use Rattle.drive_array.proofs.NewestLaws.{all-among, newest-is}
use Rattle.drive_survey.specs.declared.records.KeptRecord.{KeptRecord}
use Rattle.drive_survey.specs.declared.clearing.block_records.BlockRecords.{BlockRecords}
use Rattle.drive_survey.specs.BlockRecords.{AreRecords, HoldsRecords, IsLastOutside, IsNewestInZone, OthersIn, held_of}
use Rattle.drive_survey.specs.KeptRecords.{kept_record}
use Rattle.drive_survey.proofs.OutsideLaws.{outside, outside-is}
use Rattle.drive_survey.proofs.RecordMapLaws.{among-outside, outside-among}

-- ---- of some records of a block

-- of these records none of the block is later than this one
abbrev IsLatest : List Record → Record → Type 0
IsLatest rs b = (s : Record) → Contains rs s → s.block ≡ b.block → s.sequence ≤ b.sequence

-- a kept record that every latest record of its block agrees with is the newest
newest-found : (block : ℕ) (rs : List Record) (r : Record) (kept : KeptRecord) → Contains rs r → r.block ≡ block → kept_record r ≡ kept
    → ((b : Record) → Contains rs b → b.block ≡ block → IsLatest rs b → r.sequence ≤ b.sequence → kept_record b ≡ kept) → Some kept ≡ option_map kept_record (newest block rs)
newest-found block rs r kept c same is latest = by (newest block rs) (newest-is block rs)
  where
    by : (x : Option Record) → IsNewest rs block x → Some kept ≡ option_map kept_record x
    by None none = absurd (all-among (λ (other : Record). other.block ≡ block → ⊥) rs r none c same)
    by (Some b) live =
        let top : IsLatest rs b = λ s d e. all-among (λ (other : Record). other.block ≡ b.block → other.sequence ≤ b.sequence) rs s live.1.greatest d e in
        ap (λ (k : KeptRecord). Some k) (sym (latest b live.1.among live.0 top (top r c (same ∙ sym live.0))))

-- a block with no latest record has no newest one
pub newest-none : (block : ℕ) (rs : List Record) → ((b : Record) → Contains rs b → b.block ≡ block → IsLatest rs b → ⊥) → None ≡ option_map kept_record (newest block rs)
newest-none block rs none = by (newest block rs) (newest-is block rs)
  where
    by : (x : Option Record) → IsNewest rs block x → None ≡ option_map kept_record x
    by None is = refl
    by (Some b) live = absurd (none b live.1.among live.0 (λ s d e. all-among (λ (other : Record). other.block ≡ b.block → other.sequence ≤ b.sequence) rs s live.1.greatest d e))

-- ---- the last of all

-- the record held with the greatest sequence is the newest of its block
pub last-newest : (logs : List (List Batch)) (table : BlockRecords) (block sequence : ℕ) (held : BTreeMap ℕ KeptRecord) (found : KeptRecord) → held_of table block ≡ Some held → get nat_cmp held sequence ≡ Some found
    → ((q : ℕ) → IsSome (get nat_cmp held q) → q ≤ sequence) → HoldsRecords logs table → Some found ≡ option_map kept_record (newest block (records 0 logs))
last-newest logs table block sequence held found there at last holds =
    let are = holds block held there in
    let r = are.no_other sequence found at in
    newest-found block (records 0 logs) r.0 found r.1 r.2 r.4 (λ b c same top le. here b (are.all_held b c same (λ s d e z. top s d e)) r.0 r.3 le)
  where
    here : (b : Record) → get nat_cmp held b.sequence ≡ Some (kept_record b) → (r : Record) → r.sequence ≡ sequence → r.sequence ≤ b.sequence → kept_record b ≡ found
    here b is r same le =
        let less = last b.sequence (rw is refl) in
        let one : b.sequence ≡ sequence = omega (arith, less, same, le) in
        let both = sym is ∙ ap (get nat_cmp held) one ∙ at in
        cc

-- a block that is held with no record has no newest one
pub empty-newest : (logs : List (List Batch)) (table : BlockRecords) (block : ℕ) (held : BTreeMap ℕ KeptRecord) → held_of table block ≡ Some held → IsEmpty held → HoldsRecords logs table → None ≡ option_map kept_record (newest block (records 0 logs))
empty-newest logs table block held there empty holds =
    newest-none block (records 0 logs) (λ b c same top. let is = rw empty at ((holds block held there).all_held b c same (λ s d e z. top s d e)) in cc)

-- a map with no entry is empty
pub none-empty : (held : BTreeMap ℕ KeptRecord) → (0 < length held.entries → ⊥) → IsEmpty held
none-empty held none = by held.entries none
  where
    by : (es : List (ℕ × KeptRecord)) → (0 < length es → ⊥) → es ≡ []
    by [] none = refl
    by (e ∷ es) none = absurd (none (omega arith))

-- ---- the last outside a zone

abbrev Entries : Type 0
Entries = List (ℕ × KeptRecord)

less-is : (a b : ℕ) → nat_cmp a b ≡ Less → a < b
less-is a b e = grind (arith, nat_tests)

at-key : (P : ℕ → Type 0) (xs rest : Entries) (e : ℕ × KeptRecord) → AllByRecursion P (keys_of (xs ++ e ∷ rest)) → P e.0
at-key P [] rest e all = all.0
at-key P (x ∷ xs) rest e all = at-key P xs rest e all.1

sorted-before : (front rest : Entries) (e : ℕ × KeptRecord) → IsStrictlySortedBy nat_cmp (keys_of (front ++ e ∷ rest)) → AllByRecursion (λ (x : ℕ × KeptRecord). x.0 < e.0) front
unfolding IsStrictlySortedBy
sorted-before [] rest e sorted = tt
sorted-before (x ∷ xs) rest e sorted = (less-is x.0 e.0 (at-key (λ (y : ℕ). nat_cmp x.0 y ≡ Less) xs rest e sorted.0), sorted-before xs rest e sorted.1)

entry-among : (P : ℕ × KeptRecord → Type 0) (es : Entries) (e : ℕ × KeptRecord) → AllByRecursion P es → Contains es e → P e
entry-among P es e all c = All-contains P es e (All-from_recursion P es all) c

-- the record of an entry that is in the zone
in-zone : (zone : ℕ) (es : Entries) (b : Record) → AllByRecursion (λ (e : ℕ × KeptRecord). e.1.zone ≡ zone) es → Contains es (b.sequence, kept_record b) → b.zone ≢ zone → ⊥
in-zone zone es b all c apart = apart (entry-among (λ (e : ℕ × KeptRecord). e.1.zone ≡ zone) es (b.sequence, kept_record b) all c)

-- the latest outside a zone is the newest of its own zone
outside-latest : (logs : List (List Batch)) (zone : ℕ) (b : Record) → b.zone ≢ zone → IsLatest (outside zone (records 0 logs)) b → IsNewestInZone logs b
outside-latest logs zone b apart top s c same here = top s (outside-among zone (records 0 logs) s c (λ gone. apart (sym here ∙ gone))) same

all-inside : (logs : List (List Batch)) (zone block : ℕ) (held : BTreeMap ℕ KeptRecord) → IsOrdered nat_cmp held → AreRecords logs block held → OthersIn held zone [] → None ≡ option_map kept_record (newest block (outside zone (records 0 logs)))
all-inside logs zone block held ordered are others =
    newest-none block (outside zone (records 0 logs))
    (λ b c same top. let both = among-outside zone (records 0 logs) b c in
    let there = (btree_map_get_iff nat_cmp_total exact_unsigned held ordered b.sequence (kept_record b)).0 (are.all_held b both.0 same (outside-latest logs zone b both.1 top)) in
    in-zone zone others.after b others.inside (subst (λ (es : Entries). Contains es (b.sequence, kept_record b)) others.split there) both.1)

last-is : (logs : List (List Batch)) (zone block : ℕ) (held : BTreeMap ℕ KeptRecord) (front : Entries) (sequence : ℕ) (found : KeptRecord) → IsOrdered nat_cmp held → AreRecords logs block held → found.zone ≢ zone → OthersIn held zone (front ++ (sequence, found) ∷ [])
    → Some found ≡ option_map kept_record (newest block (outside zone (records 0 logs)))
last-is logs zone block held front sequence found ordered are apart others =
    newest-found block (outside zone (records 0 logs)) r.0 found (outside-among zone (records 0 logs) r.0 r.1 (λ here. apart (sym (ap (λ (k : KeptRecord). k.zone) r.4) ∙ here))) r.2 r.4
    (λ b c same top le. let both = among-outside zone (records 0 logs) b c in here b both.1 le ((get-is b.sequence (kept_record b)).0 (are.all_held b both.0 same (outside-latest logs zone b both.1 top))))
  where
    e : ℕ × KeptRecord
    e = (sequence, found)

    get-is : (s : ℕ) (k : KeptRecord) → (get nat_cmp held s ≡ Some k) ↔ Contains held.entries (s, k)
    get-is s k = btree_map_get_iff nat_cmp_total exact_unsigned held ordered s k

    there : Contains held.entries e
    there = subst (λ (es : Entries). Contains es e) (sym others.split) (Contains-append_left (front ++ e ∷ []) others.after e (Contains-push front e))

    r : (r : Record) × Contains (records 0 logs) r × (r.block ≡ block) × (r.sequence ≡ sequence) × (kept_record r ≡ found) × IsNewestInZone logs r
    r = are.no_other sequence found ((get-is sequence found).1 there)

    before : AllByRecursion (λ (x : ℕ × KeptRecord). x.0 < sequence) front
    before = sorted-before front others.after e (subst (λ (es : Entries). IsStrictlySortedBy nat_cmp (keys_of es)) (others.split ∙ append_assoc front (e ∷ []) others.after) ordered)

    here : (b : Record) → b.zone ≢ zone → r.0.sequence ≤ b.sequence → Contains held.entries (b.sequence, kept_record b) → kept_record b ≡ found
    here b outer le c = by (Contains-append_cases (front ++ e ∷ []) others.after (b.sequence, kept_record b) (subst (λ (es : Entries). Contains es (b.sequence, kept_record b)) others.split c))
      where
        first : Contains front (b.sequence, kept_record b) ⊎ (e ≡ (b.sequence, kept_record b)) → kept_record b ≡ found
        first (inl d) = let lt = entry-among (λ (x : ℕ × KeptRecord). x.0 < sequence) front (b.sequence, kept_record b) before d in absurd (omega (arith, lt, le, r.3))
        first (inr same) = sym (ap (λ (x : ℕ × KeptRecord). x.1) same)

        by : Contains (front ++ e ∷ []) (b.sequence, kept_record b) ⊎ Contains others.after (b.sequence, kept_record b) → kept_record b ≡ found
        by (inl d) = first (Contains-push_cases front e (b.sequence, kept_record b) d)
        by (inr d) = absurd (in-zone zone others.after b others.inside d outer)

-- the last record held outside a zone, if any, is the block's newest without the zone
pub outside-newest : (logs : List (List Batch)) (table : BlockRecords) (block zone : ℕ) (held : BTreeMap ℕ KeptRecord) (found : Option KeptRecord) → held_of table block ≡ Some held → IsOrdered nat_cmp held → IsLastOutside held zone found → HoldsRecords logs table
    → found ≡ option_map kept_record (newest block (records 0 (without logs zone)))
outside-newest logs table block zone held None there ordered last holds =
    all-inside logs zone block held ordered (holds block held there) last ∙ ap (λ (rs : List Record). option_map kept_record (newest block rs)) (outside-is 0 zone zone logs (omega arith))
outside-newest logs table block zone held (Some found) there ordered last holds =
    last-is logs zone block held last.0 last.1 found ordered (holds block held there) last.2 last.3 ∙ ap (λ (rs : List Record). option_map kept_record (newest block rs)) (outside-is 0 zone zone logs (omega arith))
