-- How many blocks are read.
use Rattle.std.proofs.Common.{◌≡◌, ◌≢◌, ◌⊎◌, inl, inr, ℕ, zero, suc, ◌+◌, ◌*◌, ◌<◌, ◌≤◌, Bool, false, List, [], ◌∷◌, ◌++◌, length, take, get_or, Option, Some, None, Result, Ok, Err, refl, sym, ap, ◌∙◌, arith}
use Rattle.std.specs.Prelude.{IsTrue, slice_get}
use Rattle.std.proofs.lemmas.List.{length-map, length-set}
use Rattle.drive_array.proofs.AllLaws.{all-append}
use Rattle.std.specs.BTreeSet.{BTreeSet, IsLowerBound, Updates, contains}
use Rattle.std.specs.Ordering.{nat_cmp}
use Rattle.std.specs.List.{AllByRecursion, sum_by}
use Rattle.std.proofs.lemmas.Bool.{cases_eq, ne_eqb}
use Rattle.std.proofs.lemmas.List.{length-append, length-map}
use Rattle.std.proofs.lemmas.List.Sums.{sum_by-cons, sum_by-take-le, sum_by_more, sum_by_push}
use Rattle.std.proofs.Math.Nat.{add-mul}
use Rattle.zone_states.specs.declared.geometry.Geometry.{Geometry}
use Rattle.batch_log.specs.Header.{Heading}
use Rattle.drive_port.specs.Contents.{Content, content_at, content_of, contents}
use Rattle.drive_port.specs.Drive.{DriveState}
use Rattle.drive_array.specs.ZoneLogs.{readable}
use Rattle.drive_survey.specs.declared.fault.MountFault.{MountFault}
use Rattle.drive_survey.specs.declared.reported.ReportedZone.{ReportedZone}
use Rattle.drive_survey.specs.declared.scan.ScannedZone.{ScannedZone}
use Rattle.drive_survey.specs.Clearing.{HasHeads, entries_at, without_heads}
use Rattle.drive_survey.specs.Heads.{HeadsView, no_heads, with_heading}
use Rattle.drive_survey.specs.Reads.{batches_kept, ReadsNext, ReadsOfZones, blocks_reported, entries_kept, readable_count}
use Rattle.drive_survey.specs.Reported.{KeepsZones}
use Rattle.drive_survey.specs.Scan.{AreKnown, MeetsHeader, heads_in}
use Rattle.drive_survey.proofs.FindLaws.{not-above}
use Rattle.drive_survey.proofs.ReadLaws.{kept-contents}
use Rattle.drive_survey.proofs.RecordTableLaws.{at-is}

-- ---- one batch

-- one Read of a header takes its batch, or stays within the blocks that are left
pub met-reads : (zone : ℕ) (reported : ReportedZone) (old new : HeadsView) (seen seen' : List ℕ) (heading : Heading) (result : Result (Option Bool) MountFault) (before after : DriveState) → old.blocks < reported.blocks
    → after.completed ≤ before.completed + 1 → MeetsHeader zone reported old seen heading result new seen' → ReadsNext reported old result new before after
met-reads zone reported old new seen seen' heading (Ok None) before after lt one met =
    let long : length (with_heading old heading).heads ≡ length old.heads + 1 = length-append old.heads (record { sequence = heading.sequence; offset = old.blocks; end = length old.entries + length heading.entries } ∷ []) in
    rw met.2 (one, long, omega arith, omega (arith, met.0))
met-reads zone reported old new seen seen' heading (Ok (Some t)) before after lt one met = (omega (arith, lt, one), met.3)
met-reads zone reported old new seen seen' heading (Err fault) before after lt one met = omega (arith, lt, one)

-- what is known of a zone whose first batches were taken
pub record ReadsSoFar (reported : ReportedZone) (heads : HeadsView) (first now : DriveState) : Type 0 where
  pub completed : now.completed ≤ first.completed + length heads.heads
  pub few : length heads.heads ≤ heads.blocks
  pub inside : heads.blocks ≤ reported.blocks

-- after one more batch, the Reads of a zone are still no more than its batches
pub reads-next : (reported : ReportedZone) (old new : HeadsView) (next : Option Bool) (first before after : DriveState) → ReadsSoFar reported old first before → ReadsNext reported old (Ok next) new before after → ((t : Bool) → next ≡ Some t → ⊥)
    → ReadsSoFar reported new first after
reads-next reported old new None first before after far reads never = record {
  completed = omega (arith, far.completed, reads.0, reads.1);
  few = omega (arith, far.few, reads.1, reads.2);
  inside = reads.3;
}
reads-next reported old new (Some t) first before after far reads never = absurd (never t refl)

-- a look that takes a batch comes further, but not past the zone
pub next-more : (reported : ReportedZone) (old new : HeadsView) (next : Option Bool) (before after : DriveState) → ReadsNext reported old (Ok next) new before after → ((t : Bool) → next ≡ Some t → ⊥)
    → (old.blocks < new.blocks) × (new.blocks ≤ reported.blocks)
next-more reported old new None before after reads never = (reads.2, reads.3)
next-more reported old new (Some t) before after reads never = absurd (never t refl)

-- ---- all zones

-- the bound on the Reads of the first zones holds with the next zone added
pub reads-more : (first now last : DriveState) (zones : List ReportedZone) (zone : ℕ) (d : ReportedZone) (scanned more : List ScannedZone) (one : ScannedZone) → zone < length zones → more ≡ scanned ++ one ∷ []
    → ReadsOfZones (take zone zones) scanned first now → last.completed + one.heads.blocks ≤ now.completed + length one.heads.heads + (get_or zones zone d).blocks
    → ReadsOfZones (take (zone + 1) zones) more first last
reads-more first now last zones zone d scanned more one lt pushed reads here =
    let blocks = sum_by_more (λ (z : ReportedZone). z.blocks) zones zone d lt in
    let taken = sum_by_push (λ (z : ScannedZone). z.heads.blocks) scanned one in
    let kept = sum_by_push (λ (z : ScannedZone). length z.heads.heads) scanned one in
    rw pushed (omega (arith, blocks, taken, kept, reads, here))

-- reading no more than a zone's reported blocks keeps the bound on all Reads so far
pub blocks-more : (first now last : DriveState) (zones : List ReportedZone) (zone : ℕ) (d : ReportedZone) → zone < length zones → now.completed ≤ first.completed + blocks_reported (take zone zones)
    → last.completed ≤ now.completed + (get_or zones zone d).blocks → last.completed ≤ first.completed + blocks_reported (take (zone + 1) zones)
blocks-more first now last zones zone d lt far here =
    let blocks = sum_by_more (λ (z : ReportedZone). z.blocks) zones zone d lt in
    omega (arith, blocks, far, here)

-- the first zones of a report have no more blocks than all of them
pub blocks-within : (zones : List ReportedZone) (zone : ℕ) → blocks_reported (take zone zones) ≤ blocks_reported zones
blocks-within zones zone = sum_by-take-le (λ (z : ReportedZone). z.blocks) zones zone

-- ---- what was reported are the blocks of the drive

counts : (geometry : Geometry) (reported : List ReportedZone) (zones : List Content) → length reported ≡ length zones
    → ((i : ℕ) (r : ReportedZone) → slice_get reported i ≡ Some r → r.blocks ≡ length (readable geometry (content_at zones i)))
    → blocks_reported reported ≡ sum_by (λ (zone : Content). length (readable geometry zone)) zones
counts geometry [] [] same each = refl
counts geometry [] (z ∷ zs) same each = absurd (omega (arith, same))
counts geometry (r ∷ rs) [] same each = absurd (omega (arith, same))
counts geometry (r ∷ rs) (z ∷ zs) same each =
    let first = each 0 r refl in
    let rest = counts geometry rs zs (omega (arith, same)) (λ i x there. each (suc i) x there) in
    let left = sum_by-cons (λ (x : ReportedZone). x.blocks) r rs in
    let right = sum_by-cons (λ (zone : Content). length (readable geometry zone)) z zs in
    omega (arith, first, rest, left, right)

-- a report whose zones are known counts the readable blocks of the drive
pub known-count : (drive : DriveState) (reported : List ReportedZone) → AreKnown drive reported → blocks_reported reported ≡ readable_count drive
known-count drive reported known =
    counts drive.geometry reported (contents drive.zones) (known.count ∙ sym (length-map drive.zones content_of)) (λ i r there. (known.each i r there).blocks)

-- a look at the drive does not change how many blocks are readable
pub kept-count : (old new : DriveState) → KeepsZones old new → readable_count new ≡ readable_count old
kept-count old new kept = rw (kept.geometry, kept-contents old new kept) refl

-- ---- a search for half clean zones

own-entries : (scanned : List ScannedZone) (b zone : ℕ) → b ≤ zone → entries_kept (take b scanned) + length (entries_at scanned zone) ≤ entries_kept (take (suc zone) scanned)
own-entries [] b zone le = omega (arith, sum_by-take-le (λ (z : ScannedZone). length z.heads.entries) [] b)
own-entries (s ∷ ss) zero zero le = omega (arith, sum_by-cons (λ (z : ScannedZone). length z.heads.entries) s [])
own-entries (s ∷ ss) zero (suc zone) le =
    let rest = own-entries ss 0 zone (omega arith) in
    let one = sum_by-cons (λ (z : ScannedZone). length z.heads.entries) s (take (suc zone) ss) in
    omega (arith, rest, one)
own-entries (s ∷ ss) (suc b) zero le = absurd (omega (arith, le))
own-entries (s ∷ ss) (suc b) (suc zone) le =
    let rest = own-entries ss b zone (omega (arith, le)) in
    omega (arith, rest, sum_by-cons (λ (z : ScannedZone). length z.heads.entries) s (take b ss), sum_by-cons (λ (z : ScannedZone). length z.heads.entries) s (take (suc zone) ss))

-- All zones that wait are past those that were looked at, and for each entry of those two blocks at most were read.
pub record LooksOnce (scanned : List ScannedZone) (waiting : BTreeSet ℕ) (first now : DriveState) : Type 0 where
  pub past : ℕ
  pub left : (zone : ℕ) → IsTrue (contains nat_cmp waiting zone) → past ≤ zone
  pub completed : now.completed ≤ first.completed + 2 * entries_kept (take past scanned)

-- before any zone is looked at, no block was read
pub looks-none : (scanned : List ScannedZone) (waiting : BTreeSet ℕ) (drive : DriveState) → LooksOnce scanned waiting drive drive
looks-none scanned waiting drive = record { past = 0; left = λ zone waits. omega arith; completed = omega arith }

-- the lowest that waits is taken and looked at
pub looks-more : (scanned : List ScannedZone) (old new : BTreeSet ℕ) (zone : ℕ) (first now last : DriveState) → LooksOnce scanned old first now → IsTrue (contains nat_cmp old zone) → IsLowerBound nat_cmp old zone → Updates nat_cmp old new zone false
    → last.completed ≤ now.completed + 2 * length (entries_at scanned zone) → LooksOnce scanned new first last
looks-more scanned old new zone first now last looks there least updates here =
    let more = own-entries scanned looks.past zone (looks.left zone there) in
    record { past = suc zone; left = left; completed = omega (arith, looks.completed, more, here) }
  where
    left : (q : ℕ) → IsTrue (contains nat_cmp new q) → suc zone ≤ q
    left q waits = by (cases_eq q zone)
      where
        by : (q ≡ zone) ⊎ (q ≢ zone) → suc zone ≤ q
        by (inl same) = let gone : contains nat_cmp new q ≡ false = rw same updates.1 in absurd (cc)
        by (inr apart) =
            let before : IsTrue (contains nat_cmp old q) = sym (updates.2 q (at-is zone q ∙ ne_eqb zone q (λ e. apart (sym e)))) ∙ waits in
            let le = not-above zone q (least q before) in
            omega (arith, le, apart)

-- the first zones have no more entries than all zones
pub looks-within : (scanned : List ScannedZone) (past : ℕ) → entries_kept (take past scanned) ≤ entries_kept scanned
looks-within scanned past = sum_by-take-le (λ (z : ScannedZone). length z.heads.entries) scanned past

-- a zone is forgotten
same-entries : (a b : List ScannedZone) → heads_in a ≡ heads_in b → entries_kept a ≡ entries_kept b
same-entries [] [] same = refl
same-entries [] (y ∷ ys) same = absurd (cc)
same-entries (x ∷ xs) [] same = absurd (cc)
same-entries (x ∷ xs) (y ∷ ys) same =
    let one : x.heads ≡ y.heads = cc in
    let others : heads_in xs ≡ heads_in ys = cc in
    let rest = same-entries xs ys others in
    omega (arith, rest, ap (λ (h : HeadsView). length h.entries) one, sum_by-cons (λ (z : ScannedZone). length z.heads.entries) x xs, sum_by-cons (λ (z : ScannedZone). length z.heads.entries) y ys)

-- after a zone's headers are forgotten, no more entries are kept than before
fewer-entries : (a b : List ScannedZone) (zone : ℕ) → heads_in a ≡ without_heads (heads_in b) zone → entries_kept a ≤ entries_kept b
fewer-entries a [] zone same = let e = same-entries a [] same in omega (arith, e)
fewer-entries [] (y ∷ ys) zone same = omega arith
fewer-entries (x ∷ xs) (y ∷ ys) zero same =
    let one : x.heads ≡ no_heads = cc in
    let others : heads_in xs ≡ heads_in ys = cc in
    let rest = same-entries xs ys others in
    let none : length x.heads.entries ≡ 0 = ap (λ (h : HeadsView). length h.entries) one in
    omega (arith, rest, none, sum_by-cons (λ (z : ScannedZone). length z.heads.entries) x xs, sum_by-cons (λ (z : ScannedZone). length z.heads.entries) y ys)
fewer-entries (x ∷ xs) (y ∷ ys) (suc zone) same =
    let one : x.heads ≡ y.heads = cc in
    let others : heads_in xs ≡ without_heads (heads_in ys) zone = cc in
    let rest = fewer-entries xs ys zone others in
    omega (arith, rest, ap (λ (h : HeadsView). length h.entries) one, sum_by-cons (λ (z : ScannedZone). length z.heads.entries) x xs, sum_by-cons (λ (z : ScannedZone). length z.heads.entries) y ys)

same-batches : (a b : List ScannedZone) → heads_in a ≡ heads_in b → batches_kept a ≡ batches_kept b
same-batches [] [] same = refl
same-batches [] (y ∷ ys) same = absurd (cc)
same-batches (x ∷ xs) [] same = absurd (cc)
same-batches (x ∷ xs) (y ∷ ys) same =
    let one : x.heads ≡ y.heads = cc in
    let others : heads_in xs ≡ heads_in ys = cc in
    let rest = same-batches xs ys others in
    omega (arith, rest, ap (λ (h : HeadsView). length h.heads) one, sum_by-cons (λ (z : ScannedZone). length z.heads.heads) x xs, sum_by-cons (λ (z : ScannedZone). length z.heads.heads) y ys)

-- after the headers of a zone that has one are forgotten, fewer are kept than before
pub fewer-batches : (a b : List ScannedZone) (zone : ℕ) → heads_in a ≡ without_heads (heads_in b) zone → HasHeads b zone → batches_kept a < batches_kept b
fewer-batches a [] zone same (found, there, some) = absurd (cc)
fewer-batches [] (y ∷ ys) zero same has = absurd (cc)
fewer-batches [] (y ∷ ys) (suc zone) same has = absurd (cc)
fewer-batches (x ∷ xs) (y ∷ ys) zero same (found, there, some) =
    let one : x.heads ≡ no_heads = cc in
    let others : heads_in xs ≡ heads_in ys = cc in
    let rest = same-batches xs ys others in
    let none : length x.heads.heads ≡ 0 = ap (λ (h : HeadsView). length h.heads) one in
    let is : y ≡ found = cc in
    omega (arith, rest, none, some, ap (λ (z : ScannedZone). length z.heads.heads) is, sum_by-cons (λ (z : ScannedZone). length z.heads.heads) x xs, sum_by-cons (λ (z : ScannedZone). length z.heads.heads) y ys)
fewer-batches (x ∷ xs) (y ∷ ys) (suc zone) same (found, there, some) =
    let one : x.heads ≡ y.heads = cc in
    let others : heads_in xs ≡ without_heads (heads_in ys) zone = cc in
    let rest = fewer-batches xs ys zone others (found, there, some) in
    omega (arith, rest, ap (λ (h : HeadsView). length h.heads) one, sum_by-cons (λ (z : ScannedZone). length z.heads.heads) x xs, sum_by-cons (λ (z : ScannedZone). length z.heads.heads) y ys)

-- and of as many zones
pub heads-count : (a b : List ScannedZone) (zone : ℕ) → heads_in a ≡ without_heads (heads_in b) zone → length a ≡ length b
heads-count a b zone same = sym (length-map a (λ (z : ScannedZone). z.heads)) ∙ ap length same ∙ length-set (heads_in b) zone no_heads ∙ length-map b (λ (z : ScannedZone). z.heads)

-- a zone that has a header is one of the zones
has-inside : (scanned : List ScannedZone) (zone : ℕ) → HasHeads scanned zone → zone < length scanned
has-inside [] zone (found, there, some) = absurd (cc)
has-inside (x ∷ xs) zero has = omega arith
has-inside (x ∷ xs) (suc zone) (found, there, some) = let lt = has-inside xs zone (found, there, some) in omega (arith, lt)

pub inside-more : (count : ℕ) (scanned : List ScannedZone) (resets more : List ℕ) (zone : ℕ) → length scanned ≡ count → HasHeads scanned zone → more ≡ resets ++ zone ∷ [] → AllByRecursion (λ z. z < count) resets → AllByRecursion (λ z. z < count) more
inside-more count scanned resets more zone same has pushed all =
    let lt : zone < count = rw (← same) (has-inside scanned zone has) in
    rw pushed (all-append (λ z. z < count) resets (zone ∷ []) all (lt, tt))

-- so many searches were done over at most that many entries
pub record SearchesSoFar (all : ℕ) (rounds : ℕ) (scanned : List ScannedZone) (first now : DriveState) : Type 0 where
  pub few : entries_kept scanned ≤ all
  pub completed : now.completed ≤ first.completed + 2 * (rounds * all)

-- after one more search, two blocks at most were read for each entry in each search
pub searches-once : (all rounds : ℕ) (scanned : List ScannedZone) (first now last : DriveState) → SearchesSoFar all rounds scanned first now → last.completed ≤ now.completed + 2 * entries_kept scanned
    → last.completed ≤ first.completed + 2 * ((rounds + 1) * all)
searches-once all rounds scanned first now last far here = omega (arith, far.few, far.completed, here, add-mul rounds 1 all)

-- a search that forgets a zone keeps the bounds on entries and Reads
pub searches-next : (all rounds more : ℕ) (scanned left : List ScannedZone) (zone : ℕ) (first now last : DriveState) → more ≡ rounds + 1 → heads_in left ≡ without_heads (heads_in scanned) zone
    → SearchesSoFar all rounds scanned first now → last.completed ≤ now.completed + 2 * entries_kept scanned → SearchesSoFar all more left first last
searches-next all rounds more scanned left zone first now last is forgets far here = record {
  few = omega (arith, fewer-entries left scanned zone forgets, far.few);
  completed = rw is (searches-once all rounds scanned first now last far here);
}
