-- The batches of all zones are listed, and so all records.
use Rattle.std.proofs.Common.{◌≡◌, ◌⊎◌, inl, inr, ℕ, zero, suc, ◌+◌, ◌-◌, ◌≤◌, ◌<◌, List, [], ◌∷◌, ◌++◌, length, get_or, take, drop, Some, refl, sym, ap, ◌∙◌, arith, append_assoc, append-nil}
use Rattle.std.specs.Prelude.{IsPermutation, slice_get}
use Rattle.std.specs.List.{Contains}
use Rattle.std.proofs.lemmas.List.{drop-drop, drop_all, length-map}
use Rattle.std.proofs.lemmas.List.Elements.{Contains-append_cases, Contains-append_left, Contains-append_right}
use Rattle.std.proofs.lemmas.List.Sorted.{Contains-permutation}
use Rattle.std.proofs.lemmas.Grind.{flat_map-append}
use Rattle.std.proofs.Math.Seq.{drop-cons}
use Rattle.drive_survey.specs.declared.heads.Head.{Head}
use Rattle.drive_survey.specs.declared.records.KeptRecord.{KeptRecord}
use Rattle.drive_survey.specs.declared.scan.ScannedZone.{ScannedZone}
use Rattle.drive_survey.specs.Heads.{HeadsView}
use Rattle.batch_log.specs.Log.{one_unless}
use Rattle.drive_survey.specs.KeptRecords.{is_kept_trim, kept_batches, kept_entries, kept_of_zone, kept_records}
use Rattle.drive_survey.specs.Scan.{heads_in}
use Rattle.drive_survey.proofs.MovedLaws.{there}
use Rattle.remount.specs.declared.tables.batches.ListedBatch.{ListedBatch}
use Rattle.remount.specs.Placing.{AreEndsInOrder, AreInOrder, ListsAll, entries_listed, heads_at, all_listed, records_listed}

-- ---- the batches of a zone

drop-from : (from end : ℕ) (es : List ℕ) → from ≤ end → drop (end - from) (drop from es) ≡ drop end es
drop-from from end es le = let whole : from + (end - from) ≡ end = omega (arith, le) in drop-drop (end - from) from es ∙ ap (λ (n : ℕ). drop n es) whole

-- the first batches of a zone are listed, and the rest are left
abbrev pub ListsSoFar : ℕ → HeadsView → List ListedBatch → List ListedBatch → ℕ → ℕ → Type 0
ListsSoFar zone view old now before i =
    (views : List HeadsView) → heads_at views zone ≡ view → AreEndsInOrder 0 view.heads
    → AreEndsInOrder before (drop i view.heads)
    × (all_listed views now ++ kept_batches zone before (drop i view.heads) (drop before view.entries) ≡ all_listed views old ++ kept_of_zone zone view)

-- at the start no batch of a zone is listed, and all are left
pub lists-none : (zone : ℕ) (view : HeadsView) (old : List ListedBatch) → ListsSoFar zone view old old 0 0
lists-none zone view old views is order = (order, refl)

-- once the next batch of a zone is listed, one batch fewer is left
pub lists-more : (zone : ℕ) (view : HeadsView) (items : List Head) (first old new : List ListedBatch) (before before' i i' : ℕ) (head d : Head) (batch : ListedBatch) → items ≡ view.heads → i < length items → head ≡ get_or items i d
    → i' ≡ suc i → before' ≡ head.end → batch ≡ record { head = head; zone = zone; before = before } → new ≡ old ++ batch ∷ [] → ListsSoFar zone view first old before i → ListsSoFar zone view first new before' i'
lists-more zone view items first old new before before' i i' head d batch same lt is more end batch_is pushed so_far views at order = rw (more, end) (split.1, whole)
  where
    next : drop i view.heads ≡ head ∷ drop (suc i) view.heads
    next = rw (← same) (drop-cons items i d lt ∙ ap (λ (h : Head). h ∷ drop (suc i) items) (sym is))

    was : AreEndsInOrder before (drop i view.heads) × (all_listed views old ++ kept_batches zone before (drop i view.heads) (drop before view.entries) ≡ all_listed views first ++ kept_of_zone zone view)
    was = so_far views at order

    split : (before ≤ head.end) × AreEndsInOrder head.end (drop (suc i) view.heads)
    split = rw next at was.0

    own : List KeptRecord
    own = kept_entries head.sequence zone head.offset 0 (take (head.end - before) (drop before view.entries))

    rest : List KeptRecord
    rest = kept_batches zone head.end (drop (suc i) view.heads) (drop head.end view.entries)

    its : records_listed views batch ≡ own
    its = rw (batch_is, at) refl

    onward : all_listed views old ++ (own ++ rest) ≡ all_listed views first ++ kept_of_zone zone view
    onward = rw (next, drop-from before head.end view.entries split.0) at was.1

    all : all_listed views new ≡ all_listed views old ++ own
    all = rw pushed (flat_map-append (records_listed views) old (batch ∷ []) ∙ ap (λ (rs : List KeptRecord). all_listed views old ++ rs) (append-nil (records_listed views batch) ∙ its))

    whole : all_listed views new ++ rest ≡ all_listed views first ++ kept_of_zone zone view
    whole = ap (λ (rs : List KeptRecord). rs ++ rest) all ∙ append_assoc (all_listed views old) own rest ∙ onward

-- once all batches of a zone are listed, its records follow the records listed before
pub lists-zone : (zone : ℕ) (view : HeadsView) (first now : List ListedBatch) (before i : ℕ) → length view.heads ≤ i → ListsSoFar zone view first now before i
    → (views : List HeadsView) → heads_at views zone ≡ view → AreEndsInOrder 0 view.heads → all_listed views now ≡ all_listed views first ++ kept_of_zone zone view
lists-zone zone view first now before i end so_far views at order =
    let done = rw (drop_all i view.heads end) at (so_far views at order).1 in
    sym (append-nil (all_listed views now)) ∙ done

-- ---- those of all zones

drop-found : (scanned : List ScannedZone) (zone : ℕ) (found : ScannedZone) → slice_get scanned zone ≡ Some found → drop zone (heads_in scanned) ≡ found.heads ∷ drop (suc zone) (heads_in scanned)
drop-found [] zone found is = absurd (cc)
drop-found (z ∷ zs) zero found is = let same : z ≡ found = cc in ap (λ (x : ScannedZone). x.heads ∷ heads_in zs) same
drop-found (z ∷ zs) (suc zone) found is = drop-found zs zone found is

heads-found : (scanned : List ScannedZone) (zone : ℕ) (found : ScannedZone) → slice_get scanned zone ≡ Some found → heads_at (heads_in scanned) zone ≡ found.heads
heads-found [] zone found is = absurd (cc)
heads-found (z ∷ zs) zero found is = let same : z ≡ found = cc in ap (λ (x : ScannedZone). x.heads) same
heads-found (z ∷ zs) (suc zone) found is = heads-found zs zone found is

order-found : (scanned : List ScannedZone) (zone : ℕ) (found : ScannedZone) → slice_get scanned zone ≡ Some found → AreInOrder (heads_in scanned) → AreEndsInOrder 0 found.heads.heads
order-found [] zone found is order = absurd (cc)
order-found (z ∷ zs) zero found is order = let same : z ≡ found = cc in rw (← same) order.0
order-found (z ∷ zs) (suc zone) found is order = order-found zs zone found is order.1

-- the batches of the zones before one are listed
abbrev pub ListsZones : List HeadsView → List ListedBatch → ℕ → Type 0
ListsZones views batches zone = AreInOrder views → all_listed views batches ++ kept_records zone (drop zone views) ≡ kept_records 0 views

-- an empty list has the batches of the zones before the first one
pub zones-none : (views : List HeadsView) (batches : List ListedBatch) → batches ≡ [] → ListsZones views batches 0
zones-none views batches none order = rw none refl

-- once the batches of a zone are added, the zones before the next one are listed
pub zones-more : (scanned : List ScannedZone) (zone zone' : ℕ) (found : ScannedZone) (old new : List ListedBatch) → zone < length scanned → found ≡ get_or scanned zone found → zone' ≡ suc zone
    → ((views : List HeadsView) → heads_at views zone ≡ found.heads → AreEndsInOrder 0 found.heads.heads → all_listed views new ≡ all_listed views old ++ kept_of_zone zone found.heads)
    → ListsZones (heads_in scanned) old zone → ListsZones (heads_in scanned) new zone'
zones-more scanned zone zone' found old new lt here more listed so_far order =
    let views = heads_in scanned in
    let is : slice_get scanned zone ≡ Some found = there scanned zone found lt here in
    let all = listed views (heads-found scanned zone found is) (order-found scanned zone found is order) in
    let was = rw (drop-found scanned zone found is) at (so_far order) in
    rw more (ap (λ (rs : List KeptRecord). rs ++ kept_records (suc zone) (drop (suc zone) views)) all ∙ append_assoc (all_listed views old) (kept_of_zone zone found.heads) (kept_records (suc zone) (drop (suc zone) views)) ∙ was)

-- past the last zone the records of all zones are listed
pub zones-all : (scanned : List ScannedZone) (batches : List ListedBatch) (zone : ℕ) → length scanned ≤ zone → ListsZones (heads_in scanned) batches zone → ListsAll (heads_in scanned) batches
zones-all scanned batches zone end so_far order =
    let views = heads_in scanned in
    let past : length views ≤ zone = omega (arith, end, length-map scanned (λ (z : ScannedZone). z.heads)) in
    sym (append-nil (all_listed views batches)) ∙ (rw (drop_all zone views past) at (so_far order))

-- ---- which records these are

-- a record of some batches is one of a batch of them
pub of-one : (views : List HeadsView) (batches : List ListedBatch) (r : KeptRecord) → Contains (all_listed views batches) r → (b : ListedBatch) × Contains batches b × Contains (records_listed views b) r
of-one views [] r c = absurd (omega (arith, c.1))
of-one views (b ∷ bs) r c = by (Contains-append_cases (records_listed views b) (all_listed views bs) r c) (λ d. of-one views bs r d)
  where
    by : Contains (records_listed views b) r ⊎ Contains (all_listed views bs) r → (Contains (all_listed views bs) r → (x : ListedBatch) × Contains bs x × Contains (records_listed views x) r) → (x : ListedBatch) × Contains (b ∷ bs) x × Contains (records_listed views x) r
    by (inl d) more = (b, (0, omega arith, refl), d)
    by (inr d) more = let found = more d in (found.0, (suc found.1.0, omega (arith, found.1.1), found.1.2), found.2)

of-all : (views : List HeadsView) (batches : List ListedBatch) (b : ListedBatch) (r : KeptRecord) → Contains batches b → Contains (records_listed views b) r → Contains (all_listed views batches) r
of-all views [] b r c d = absurd (omega (arith, c.1))
of-all views (x ∷ xs) b r (zero, lt, is) d = Contains-append_left (records_listed views x) (all_listed views xs) r (rw is d)
of-all views (x ∷ xs) b r (suc k, lt, is) d = Contains-append_right (records_listed views x) (all_listed views xs) r (of-all views xs b r (k, omega (arith, lt), is) d)

-- batches in another order have the same records
pub in-any-order : (views : List HeadsView) (xs ys : List ListedBatch) (r : KeptRecord) → IsPermutation xs ys → Contains (all_listed views xs) r → Contains (all_listed views ys) r
in-any-order views xs ys r shuffled c =
    let found = of-one views xs r c in
    of-all views ys found.0 r (Contains-permutation xs ys found.0 shuffled found.1) found.2

entry-number : (sequence zone header k : ℕ) (es : List ℕ) (r : KeptRecord) → Contains (kept_entries sequence zone header k es) r → r.sequence ≡ sequence
entry-number sequence zone header k [] r c = absurd (omega (arith, c.1))
entry-number sequence zone header k (e ∷ es) r (zero, lt, is) = sym (ap (λ (x : KeptRecord). x.sequence) is)
entry-number sequence zone header k (e ∷ es) r (suc n, lt, is) = entry-number sequence zone header (k + one_unless (is_kept_trim e)) es r (n, omega (arith, lt), is)

-- the records of a batch have its sequence
pub of-batch-number : (views : List HeadsView) (b : ListedBatch) (r : KeptRecord) → Contains (records_listed views b) r → r.sequence ≡ b.head.sequence
of-batch-number views b r c = entry-number b.head.sequence b.zone b.head.offset 0 (entries_listed views b) r c
