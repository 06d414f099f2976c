-- Blocks are put into a table that has no record yet.
use Rattle.std.proofs.Common.{◌≡◌, ◌≢◌, inl, inr, ℕ, zero, suc, ◌+◌, ◌<◌, ◌≤◌, Bool, true, false, cond, List, [], ◌∷◌, length, drop, get_or, Option, Some, None, refl, sym, ap, subst, ◌∙◌, arith}
use Rattle.std.specs.Prelude.{Vec, slice_get, slice_set}
use Rattle.std.specs.declared.alloc.Global.{Global}
use Rattle.std.specs.BTreeMap.{BTreeMap, IsEmpty, get, is_at}
use Rattle.std.specs.Option.{IsSome, option_map}
use Rattle.std.specs.Ordering.{nat_cmp}
use Rattle.std.proofs.lemmas.Bool.{cases_eq, cases_lt, eq-eqb, ne_eqb}
use Rattle.std.proofs.lemmas.List.{drop_all}
use Rattle.std.proofs.lemmas.Option.{slice_get-map}
use Rattle.std.proofs.Math.Seq.{drop-cons}
use Rattle.batch_log.specs.Log.{Batch}
use Rattle.drive_array.specs.Repairing.{IsMoved}
use Rattle.drive_survey.specs.declared.records.KeptRecord.{KeptRecord}
use Rattle.drive_survey.specs.declared.scan.ScannedZone.{ScannedZone}
use Rattle.drive_survey.specs.declared.clearing.block_records.BlockRecords.{BlockRecords}
use Rattle.drive_survey.specs.BlockRecords.{HasNoRecord, HoldsEach, HoldsMore, held_of, own_list, own_of}
use Rattle.drive_survey.specs.Clearing.{AreFew, AreOf, AreOwn, CoversHeads, CoversMoved, CoversZone, IsOwn, entries_at, kept_entries_of, without_heads}
use Rattle.drive_survey.specs.Heads.{HeadsView, no_heads}
use Rattle.drive_survey.specs.KeptRecords.{kept_of_zone}
use Rattle.drive_survey.specs.NewestRecords.{AreNewest}
use Rattle.drive_survey.specs.Scan.{heads_in}
use Rattle.drive_survey.proofs.MovedLaws.{not-found, not-there, there}
use Rattle.drive_survey.proofs.RecordTableLaws.{at-is}

-- ---- one block

abbrev Holds : Type 0
Holds = BTreeMap ℕ KeptRecord

abbrev Puts : ℕ → Holds → BlockRecords → BlockRecords → Type 0
Puts block none old new = (q : ℕ) → held_of new q ≡ cond (is_at (nat_cmp block) q) (Some none) (held_of old q)

put-none : (block : ℕ) (empty : Holds) (old new : BlockRecords) → IsEmpty empty → Puts block empty old new → HasNoRecord old → HasNoRecord new
put-none block empty old new is puts none q held there = by (is_at (nat_cmp block) q) (sym (puts q) ∙ there)
  where
    by : (b : Bool) → cond b (Some empty) (held_of old q) ≡ Some held → IsEmpty held
    by true e = let same : empty ≡ held = cc in subst (λ (h : Holds). IsEmpty h) same is
    by false e = none q held e

put-more : (block : ℕ) (empty : Holds) (old new : BlockRecords) → Puts block empty old new → HoldsMore old new
put-more block empty old new puts q some = rw (puts q) (by (is_at (nat_cmp block) q))
  where
    by : (b : Bool) → IsSome (cond b (Some empty) (held_of old q))
    by true = refl
    by false = some

put-holds : (block : ℕ) (empty : Holds) (old new : BlockRecords) → Puts block empty old new → IsSome (held_of new block)
put-holds block empty old new puts = rw (puts block, at-is block block, eq-eqb block block refl) refl

-- the blocks of these records are held by each table that holds more
pub each-more : (old new : BlockRecords) (own : List KeptRecord) → HoldsMore old new → HoldsEach old own → HoldsEach new own
each-more old new [] more holds = tt
each-more old new (r ∷ rs) more holds = (more r.block holds.0, each-more old new rs more holds.1)

-- one block more is put in
abbrev pub HoldsSoFar : BlockRecords → BlockRecords → List KeptRecord → List KeptRecord → Type 0
HoldsSoFar first now own rest = HasNoRecord now × HoldsMore first now × ((more : BlockRecords) → HoldsMore now more → HoldsEach more rest → HoldsEach more own)

-- putting in the next record's block leaves only the blocks of the later records
pub holds-step : (first old new : BlockRecords) (empty : Holds) (own : List KeptRecord) (d : KeptRecord) (i i' : ℕ) → IsEmpty empty → i < length own → i' ≡ suc i → Puts (get_or own i d).block empty old new
    → HoldsSoFar first old own (drop i own) → HoldsSoFar first new own (drop i' own)
holds-step first old new empty own d i i' is lt next puts so_far =
    let r = get_or own i d in
    let more = put-more r.block empty old new puts in
    let rest = rw (drop-cons own i d lt) at so_far.2 in (
      put-none r.block empty old new is puts so_far.0,
      λ q some. more q (so_far.1 q some),
      rw next (λ table larger holds. rest table (λ q some. larger q (more q some)) (larger r.block (put-holds r.block empty old new puts), holds)),
    )

-- when no record is left, the table holds the blocks of all
pub holds-all : (first now : BlockRecords) (own : List KeptRecord) (i : ℕ) → length own ≤ i → HoldsSoFar first now own (drop i own) → HoldsEach now own
holds-all first now own i le so_far =
    let rest = rw (drop_all i own le) at so_far.2 in
    rest now (λ q some. some) tt

-- ---- the records of a zone are kept

abbrev Own : Type 0
Own = Vec KeptRecord Global

abbrev PutsOwn : ℕ → Option Own → BlockRecords → BlockRecords → Type 0
PutsOwn zone own old new = (q : ℕ) → get nat_cmp new.own q ≡ cond (is_at (nat_cmp zone) q) own (get nat_cmp old.own q)

-- what was put in for a zone is what is kept of it
pub put-own : (zone : ℕ) (own : Option Own) (old new : BlockRecords) → PutsOwn zone own old new → own_of new zone ≡ own_list own
put-own zone own old new puts = ap own_list (puts zone ∙ ap (λ (b : Bool). cond b own (get nat_cmp old.own zone)) (at-is zone zone ∙ eq-eqb zone zone refl))

-- what is kept of the other zones is unchanged
pub put-others : (zone : ℕ) (own : Option Own) (old new : BlockRecords) → PutsOwn zone own old new → (q : ℕ) → q ≢ zone → get nat_cmp new.own q ≡ get nat_cmp old.own q
put-others zone own old new puts q apart = puts q ∙ ap (λ (b : Bool). cond b own (get nat_cmp old.own q)) (at-is zone q ∙ ne_eqb zone q (λ e. apart (sym e)))

-- an empty map keeps no records of any zone
pub no-own : (own : BTreeMap ℕ Own) (zone : ℕ) → IsEmpty own → get nat_cmp own zone ≡ None
no-own own zone empty = rw empty refl

-- two tables that keep the same of all zones keep the same of each
pub same-own : (old new : BlockRecords) (zone : ℕ) → new.own ≡ old.own → own_of new zone ≡ own_of old zone
same-own old new zone same = ap (λ (own : BTreeMap ℕ Own). own_list (get nat_cmp own zone)) same

-- a table that holds more, and keeps the same of a zone, still covers its headers
pub heads-more : (old new : BlockRecords) (zone : ℕ) (heads : HeadsView) → HoldsMore old new → own_of new zone ≡ own_of old zone → CoversHeads old zone heads → CoversHeads new zone heads
heads-more old new zone heads more same covers = rw same (covers.0, each-more old new (own_of old zone) more covers.1)

-- ---- zone after zone

-- the table covers the zones of Moves below a limit
abbrev pub CoversBelow : List ScannedZone → BlockRecords → ℕ → Type 0
CoversBelow scanned table limit = (logs : List (List Batch)) → AreOf scanned logs → (zone : ℕ) → zone < limit → IsMoved logs zone → CoversZone scanned table zone

same-found : {X : Type 0} (xs : List X) (i : ℕ) (x y : X) → i < length xs → x ≡ get_or xs i x → slice_get xs i ≡ Some y → x ≡ y
same-found xs i x y lt is found = let here = there xs i x lt is in cc

-- the records of one zone more are kept
pub covers-more : (scanned : List ScannedZone) (limit number : ℕ) (one : ScannedZone) (old new : BlockRecords) → limit < length scanned → one ≡ get_or scanned limit one → number ≡ limit → HoldsMore old new → CoversHeads new number one.heads
    → ((q : ℕ) → q ≢ number → own_of new q ≡ own_of old q) → CoversBelow scanned old limit → CoversBelow scanned new (limit + 1)
covers-more scanned limit number one old new lt is same more here others covers logs are zone less moved found there_is = elim (cases_eq zone limit) as (λ _. CoversHeads new zone found.heads) [
  | inl at ↦ (
      let one_is : one ≡ found = same-found scanned limit one found lt is (rw at at there_is) in
      let here' : CoversHeads new zone one.heads = rw (at, ← same) here in
      subst (λ (z : ScannedZone). CoversHeads new zone z.heads) one_is here'
      )
  | inr other ↦ heads-more old new zone found.heads more (others zone (λ e. other (e ∙ same))) (covers logs are zone (omega (arith, less, other)) moved found there_is)
]

-- a zone that is no zone of Moves is left out
pub covers-skip : (scanned : List ScannedZone) (limit number : ℕ) (table : BlockRecords) → number ≡ limit → ((logs : List (List Batch)) → AreOf scanned logs → IsMoved logs number → ⊥) → CoversBelow scanned table limit → CoversBelow scanned table (limit + 1)
covers-skip scanned limit number table same never covers logs are zone less moved = elim (cases_eq zone limit) as (λ _. CoversZone scanned table zone) [
  | inl at ↦ absurd (never logs are (rw (same, ← at) moved))
  | inr other ↦ covers logs are zone (omega (arith, less, other)) moved
]

-- with no zone left, the table covers all zones of Moves
pub covers-all : (scanned : List ScannedZone) (limit : ℕ) (table : BlockRecords) → length scanned ≤ limit → CoversBelow scanned table limit → (logs : List (List Batch)) → AreOf scanned logs → CoversMoved logs scanned table
covers-all scanned limit table le covers logs are zone moved = elim (cases_lt zone limit) as (λ _. CoversZone scanned table zone) [
  | inl lt ↦ covers logs are zone lt moved
  | inr ge ↦ absurd (not-found scanned logs zone are (not-there scanned zone (omega (arith, le, ge))) moved)
]

-- ---- at most one for each entry

-- a table that keeps nothing has at most one record for each entry
pub few-none : (scanned : List ScannedZone) (table : BlockRecords) → ((zone : ℕ) → get nat_cmp table.own zone ≡ None) → AreFew scanned table
few-none scanned table none zone = rw (ap own_list (none zone)) (omega arith)

-- ---- what is kept of a zone

-- a table that keeps nothing of any zone keeps only newest records
pub own-none : (scanned : List ScannedZone) (table : BlockRecords) → ((zone : ℕ) → get nat_cmp table.own zone ≡ None) → AreOwn scanned table
own-none scanned table none zone found there_is some = absurd (let bad = rw (none zone) at some in cc)

-- what is kept of a zone is still its newest records if the table keeps the same
pub own-kept : (old new : BlockRecords) (zone : ℕ) (heads : HeadsView) → new.own ≡ old.own → IsOwn old zone heads → IsOwn new zone heads
own-kept old new zone heads same kept = subst (λ (own : BTreeMap ℕ Own). IsSome (get nat_cmp own zone) → AreNewest (kept_of_zone zone heads) (own_list (get nat_cmp own zone))) (sym same) kept

-- the records that a table has for a zone are the zone's newest ones
pub some-own : (table : BlockRecords) (zone : ℕ) (heads : HeadsView) (own : Own) → Some own ≡ get nat_cmp table.own zone → IsOwn table zone heads → AreNewest (kept_of_zone zone heads) own.items
some-own table zone heads own is kept =
    let newest = kept (rw (← is) refl) in
    subst (AreNewest (kept_of_zone zone heads)) (ap own_list (sym is)) newest

-- with one zone's newest records put in, the table still keeps only newest records
pub own-more : (scanned : List ScannedZone) (zone : ℕ) (one : ScannedZone) (old new : BlockRecords) → slice_get scanned zone ≡ Some one → CoversHeads new zone one.heads → ((q : ℕ) → q ≢ zone → get nat_cmp new.own q ≡ get nat_cmp old.own q) → AreOwn scanned old → AreOwn scanned new
own-more scanned zone one old new there_is here others kept q found found_is = elim (cases_eq q zone) as (λ _. IsOwn new q found.heads) [
  | inl at ↦ (
      let found_is' = rw at at found_is in
      let one_is : one ≡ found = (let e = sym there_is ∙ found_is' in cc) in
      λ some. rw at (subst (λ (z : ScannedZone). AreNewest (kept_of_zone zone z.heads) (own_of new zone)) one_is here.0)
      )
  | inr apart ↦ (
      let same = others q apart in
      λ some. subst (AreNewest (kept_of_zone q found.heads)) (ap own_list (sym same)) (kept q found found_is (rw same at some))
      )
]

-- if the lists of the other zones are unchanged, so are the records kept of them
pub others-own : (old new : BlockRecords) (zone : ℕ) → ((q : ℕ) → q ≢ zone → get nat_cmp new.own q ≡ get nat_cmp old.own q) → (q : ℕ) → q ≢ zone → own_of new q ≡ own_of old q
others-own old new zone others q apart = ap own_list (others q apart)

-- at most one record is kept for each entry, if the table keeps the same as before
pub few-same : (scanned : List ScannedZone) (old new : BlockRecords) → new.own ≡ old.own → AreFew scanned old → AreFew scanned new
few-same scanned old new same few zone = rw (same-own old new zone same) (few zone)

-- putting in no more records than a zone has entries keeps at most one for each
pub few-more : (scanned : List ScannedZone) (zone : ℕ) (one : ScannedZone) (old new : BlockRecords) → slice_get scanned zone ≡ Some one → length (own_of new zone) ≤ length one.heads.entries
    → ((q : ℕ) → q ≢ zone → own_of new q ≡ own_of old q) → AreFew scanned old → AreFew scanned new
few-more scanned zone one old new there_is here others few q = elim (cases_eq q zone) as (λ _. length (own_of new q) ≤ length (entries_at scanned q)) [
  | inl at ↦ rw (at, ap kept_entries_of there_is) here
  | inr apart ↦ rw (others q apart) (few q)
]

-- a zone is forgotten
abbrev heads_entries : Option HeadsView → List ℕ
heads_entries None = []
heads_entries (Some heads) = heads.entries

entries-view : (scanned : List ScannedZone) (zone : ℕ) → entries_at scanned zone ≡ heads_entries (slice_get (heads_in scanned) zone)
entries-view scanned zone = by (slice_get scanned zone) ∙ ap heads_entries (sym (slice_get-map (λ (z : ScannedZone). z.heads) scanned zone))
  where
    by : (x : Option ScannedZone) → kept_entries_of x ≡ heads_entries (option_map (λ (z : ScannedZone). z.heads) x)
    by None = refl
    by (Some found) = refl

get-other : {X : Type 0} (xs : List X) (i j : ℕ) (x : X) → j ≢ i → slice_get (slice_set xs i x) j ≡ slice_get xs j
get-other [] i j x apart = refl
get-other (y ∷ ys) zero zero x apart = absurd (apart refl)
get-other (y ∷ ys) zero (suc j) x apart = refl
get-other (y ∷ ys) (suc i) zero x apart = refl
get-other (y ∷ ys) (suc i) (suc j) x apart = get-other ys i j x (λ e. apart (ap suc e))

-- forgetting a zone's headers and its records keeps at most one for each entry
pub few-less : (before after : List ScannedZone) (old new : BlockRecords) (gone : ℕ) → heads_in after ≡ without_heads (heads_in before) gone → own_of new gone ≡ [] → ((q : ℕ) → q ≢ gone → own_of new q ≡ own_of old q) → AreFew before old → AreFew after new
few-less before after old new gone heads none others few q = elim (cases_eq q gone) as (λ _. length (own_of new q) ≤ length (entries_at after q)) [
  | inl at ↦ rw (at, none) (omega arith)
  | inr apart ↦ (
      let same : entries_at after q ≡ entries_at before q =
      entries-view after q ∙ ap (λ (views : List HeadsView). heads_entries (slice_get views q)) heads ∙ ap heads_entries (get-other (heads_in before) gone q no_heads apart) ∙ sym (entries-view before q) in
      rw (others q apart, same) (few q)
      )
]
