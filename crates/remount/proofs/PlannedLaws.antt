-- The Moves that are planned repair the torn zone.
use Rattle.std.proofs.Common.{◌≡◌, ◌≢◌, ◌⊎◌, inl, inr, ℕ, zero, suc, ◌+◌, ◌*◌, ◌<◌, ◌≤◌, ◌^◌, Bool, true, cond, List, [], ◌∷◌, ◌++◌, length, take, get_or, Option, Some, None, refl, sym, ap, subst, ◌∙◌, arith}
use Rattle.std.specs.Prelude.{Contains, nat_eq, slice_index_or}
use Rattle.std.specs.Int.{div_ceil}
use Rattle.std.specs.List.{AllByRecursion, IsDistinct}
use Rattle.std.proofs.lemmas.Bool.{cases_lt, ne_eqb}
use Rattle.std.proofs.lemmas.List.{get_or_past, length-append, take_all}
use Rattle.std.proofs.lemmas.Nat.{mul-le}
use Rattle.std.proofs.Math.Nat.{add-mul}
use Rattle.std.proofs.Math.Seq.{take-add}
use Rattle.std.specs.Prelude.{IfSome}
use Rattle.batch_log.specs.Header.{IsSize}
use Rattle.drive_array.specs.ZoneLogs.{HasLog}
use Rattle.drive_array.proofs.AllLaws.{all-at}
use Rattle.drive_array.proofs.ZoneLogLaws.{log_at-zone}
use Rattle.drive_port.specs.Contents.{content_of, nothing}
use Rattle.std.proofs.lemmas.List.{length-map}
use Rattle.zone_states.specs.Geometry.{IsInRange}
use Rattle.remount.proofs.MovePlanLaws.{largest-size}
use Rattle.remount.specs.Mount.{IsListed}
use Rattle.remount.specs.Moving.{IsNamed, IsSafe, is_last_in}
use Rattle.zone_states.specs.declared.geometry.Geometry.{Geometry}
use Rattle.drive_port.specs.Contents.{contents}
use Rattle.drive_port.specs.Drive.{DriveState}
use Rattle.batch_log.specs.Log.{Batch, data_count, log_size, one_unless}
use Rattle.logical_map.specs.Live.{blocks_in, lies_in}
use Rattle.logical_map.specs.declared.place.Place.{Place}
use Rattle.logical_map.specs.declared.place.Place.TheVariants as places
use Rattle.drive_array.specs.ZoneLogs.{drive_logs, log_at, sequences, zone_tails}
use Rattle.drive_array.specs.Records.{IsNewest, Record, batch_records, entry_records, log_records, newest, place, records, shown}
use Rattle.drive_array.specs.Repair.{live_records, live_data, moves}
use Rattle.drive_array.specs.Repairing.{IsStillNeeded, LiesIn, NeedsItsBlock}
use Rattle.drive_array.specs.Reserve.{batch_most}
use Rattle.drive_array.specs.Sizes.{encoded_size, larger, log_greatest, map_of}
use Rattle.drive_array.specs.Spare.{NoneBelow}
use Rattle.drive_array.proofs.AllLaws.{all-append, all-parts, all-weaker}
use Rattle.drive_array.proofs.AppendLaws.{log_size-append}
use Rattle.drive_array.proofs.DeadLaws.{NotIn, newest-without}
use Rattle.drive_array.proofs.NewestLaws.{all-among, log_records-append, newest-is}
use Rattle.drive_array.proofs.ReserveLaws.{div_ceil-enough, positive-most}
use Rattle.drive_array.proofs.SizeLaws.{inside-records, log_greatest-more}
use Rattle.drive_array.proofs.RepairingEnds.{lies-or}
use Rattle.drive_survey.specs.declared.clearing.Finding.{Finding}
use Rattle.drive_survey.specs.declared.clearing.Finding.TheVariants.{HalfClean, NotMoves, NeedsBlock, NeedsSize}
use Rattle.remount.specs.declared.repair.moves.MovePlan.{MovePlan}
use Rattle.remount.specs.declared.repair.Repair.{Repair}
use Rattle.drive_survey.specs.declared.survey.Survey.{Survey}
use Rattle.drive_survey.specs.Heads.{greatest_sequence}
use Rattle.drive_survey.specs.Known.{Finds, Knows}
use Rattle.remount.specs.TornRepair.{HoldsSize}
use Rattle.remount.specs.Mount.{IsRepairPlan}
use Rattle.remount.specs.Moving.{IsBlockAt, IsMovable, IsMovePlan, IsReadableAt, Source, early_size, move_by, move_count, moved_entries, moves_before, named_by, ordered, others, placed_entry, said_at, size_by, source_of}
use Rattle.drive_survey.specs.Reported.{IsKnown}
use Rattle.drive_survey.specs.Scan.{readable_at}
use Rattle.remount.proofs.LiveLaws.{counts-live, data_blocks, lies-there, map-length, newest-said, place-at, there-lies}
use Rattle.remount.proofs.TornPlanLaws.{all-greatest, greatest-all}
use Rattle.remount.proofs.OrderedLaws.{In, IsLastIn, last-told, IsOrder, LiesAt, blocks-distinct, blocks-lie, front-few, front-not, in-contains, is-order, length-total, lying-in, order-all, order-length, total, total-append}

-- ---- what the Moves name

entry-is : (b : ℕ) (p : Place) → (placed_entry b p).block ≡ b
entry-is b places.None = refl
entry-is b (places.Trimmed address) = refl
entry-is b (places.At address) = refl

records-named : (P : ℕ → Type 0) (sequence zone header k : ℕ) (body : List (List ℕ)) (all : List Place) (blocks : List ℕ) → AllByRecursion P blocks → AllByRecursion (λ (r : Record). P r.block) (entry_records sequence body zone header k (moved_entries all blocks))
records-named P sequence zone header k body all [] each = tt
records-named P sequence zone header k body all (b ∷ bs) each =
    let e = placed_entry b (slice_index_or all b places.None) in
    (subst P (sym (entry-is b (slice_index_or all b places.None))) each.0, records-named P sequence zone header (k + one_unless e.trim) body all bs each.1)

next-front : (plan : MovePlan) (k : ℕ) → take (suc k * plan.most) plan.blocks.items ≡ take (k * plan.most) plan.blocks.items ++ named_by plan k
next-front plan k =
    let more : suc k * plan.most ≡ k * plan.most + plan.most = omega (arith, add-mul k 1 plan.most) in
    ap (λ (n : ℕ). take n plan.blocks.items) more ∙ take-add (k * plan.most) plan.most plan.blocks.items

front-named : (P : ℕ → Type 0) (source : Source) (plan : MovePlan) (into k : ℕ) → AllByRecursion P (take (k * plan.most) plan.blocks.items) → AllByRecursion (λ (r : Record). P r.block) (log_records into 0 (moves_before source plan k))
front-named P source plan into zero all = tt
front-named P source plan into (suc k) all =
    let moves = moves_before source plan k in
    let b = move_by source plan k in
    let parts = all-parts P (take (k * plan.most) plan.blocks.items) (named_by plan k) (subst (AllByRecursion P) (next-front plan k) all) in
    subst (λ (rs : List Record). AllByRecursion (λ (r : Record). P r.block) rs) (sym (log_records-append into 0 (0 + log_size moves) moves b refl))
    (all-append (λ (r : Record). P r.block) (log_records into 0 moves) (batch_records into (0 + log_size moves) b) (front-named P source plan into k parts.0)
    (records-named P b.heading.sequence into (0 + log_size moves) 0 b.body source.places (named_by plan k) parts.1))

newest-none : (block : ℕ) (rs : List Record) → AllByRecursion (λ (r : Record). r.block ≢ block) rs → newest block rs ≡ None
newest-none block [] all = refl
newest-none block (r ∷ rs) all = rw (ne_eqb r.block block all.0, newest-none block rs all.1) refl

-- ---- how many blocks they take

abbrev data_at : Source → ℕ → ℕ
data_at source b = data_blocks (slice_index_or source.places b places.None)

moved-data : (source : Source) (blocks : List ℕ) → data_count (moved_entries source.places blocks) ≡ total (data_at source) blocks
moved-data source [] = refl
moved-data source (b ∷ bs) = omega (arith, moved-data source bs, one (slice_index_or source.places b places.None))
  where
    one : (p : Place) → one_unless (placed_entry b p).trim ≡ data_blocks p
    one places.None = refl
    one (places.Trimmed address) = refl
    one (places.At address) = refl

moves-size : (source : Source) (plan : MovePlan) (k : ℕ) → log_size (moves_before source plan k) ≡ k + total (data_at source) (take (k * plan.most) plan.blocks.items)
moves-size source plan zero = let none : 0 * plan.most ≡ 0 = omega arith in rw none refl
moves-size source plan (suc k) =
    let f = data_at source in
    let split : total f (take (suc k * plan.most) plan.blocks.items) ≡ total f (take (k * plan.most) plan.blocks.items) + total f (named_by plan k) = ap (total f) (next-front plan k) ∙ total-append f (take (k * plan.most) plan.blocks.items) (named_by plan k) in
    omega (arith, moves-size source plan k, log_size-append (moves_before source plan k) (move_by source plan k), moved-data source (named_by plan k), split)

all-there : (plan : MovePlan) → 1 ≤ plan.most → take (move_count plan * plan.most) plan.blocks.items ≡ plan.blocks.items
all-there plan some =
    let count = length plan.blocks.items in
    let wanted = div_ceil count plan.most in
    take_all (move_count plan * plan.most) plan.blocks.items (omega (arith, div_ceil-enough count plan.most (omega (arith, some)), mul-le wanted plan.most (move_count plan) plan.most (omega arith) (omega arith)))

-- ---- the size that they say

none-early : (source : Source) (plan : MovePlan) (k : ℕ) → plan.early ≡ None → k < move_count plan → log_greatest (moves_before source plan k) ≡ None
none-early source plan zero none lt = refl
none-early source plan (suc k) none lt =
    let here : size_by plan k ≡ None = ap (λ (b : Bool). cond b plan.size plan.early) (ne_eqb (k + 1) (move_count plan) (λ e. omega (arith, e, lt))) ∙ none in
    log_greatest-more (moves_before source plan k) (move_by source plan k) ∙ ap (λ (s : Option ℕ). larger s (size_by plan k)) (none-early source plan k none (omega (arith, lt))) ∙ here

early-either : (size early : Option ℕ) (why : Finding) → early ≡ early_size size why → (early ≡ size) ⊎ (early ≡ None)
early-either size early HalfClean is = inl is
early-either size early NotMoves is = inl is
early-either size early (NeedsBlock last) is = inl is
early-either size early NeedsSize is = inr is

-- all Moves say the size, unless the torn zone is needed for it
early-said : (block_bytes n : ℕ) (logs : List (List Batch)) (zone : ℕ) (size early : Option ℕ) (why : Finding) → early ≡ early_size size why → Finds block_bytes n logs zone why → (HoldsSize n logs zone → ⊥) → early ≡ size
early-said block_bytes n logs zone size early HalfClean is finds other = is
early-said block_bytes n logs zone size early NotMoves is finds other = is
early-said block_bytes n logs zone size early (NeedsBlock last) is finds other = is
early-said block_bytes n logs zone size early NeedsSize is finds other = absurd (other finds)

-- ---- the plan

-- the Moves that were planned, after the reason was found that the torn zone is needed for
pub record IsPlanned (drive : DriveState) (n : ℕ) (survey : Survey) (repair : Repair) (into : ℕ) (why : Finding) (plan : MovePlan) : Type 0 where
  pub survey_known : Knows drive n (drive_logs drive) survey
  pub cleared : NoneBelow drive.geometry.block n (drive_logs drive) (length drive.zones)
  pub is : IsRepairPlan drive.geometry n (drive_logs drive) (zone_tails (contents drive.zones)) repair
  pub finds : Finds drive.geometry.block n (drive_logs drive) repair.zone why
  pub torn : plan.torn ≡ repair.zone
  pub into_is : plan.into ≡ into
  pub known : IsKnown drive repair.zone plan.reported
  pub blocks : plan.blocks.items ≡ ordered repair.blocks.items why
  pub most : plan.most ≡ batch_most drive.geometry
  pub next : plan.next ≡ greatest_sequence (sequences (drive_logs drive)) + 1
  pub size : plan.size ≡ log_greatest (log_at (drive_logs drive) repair.zone)
  pub early : plan.early ≡ early_size plan.size why

-- the torn zone of a repair is one of the zones
pub torn-in : (drive : DriveState) (n : ℕ) (survey : Survey) (repair : Repair) → Knows drive n (drive_logs drive) survey → IsRepairPlan drive.geometry n (drive_logs drive) (zone_tails (contents drive.zones)) repair → repair.zone < length drive.zones
torn-in drive n survey repair known is = at (cases_lt repair.zone (length (drive_logs drive)))
  where
    at : (repair.zone < length (drive_logs drive)) ⊎ (length (drive_logs drive) ≤ repair.zone) → repair.zone < length drive.zones
    at (inl lt) = omega (arith, lt, known.count)
    at (inr past) = absurd (is.torn.torn.batch (get_or_past (drive_logs drive) repair.zone [] past))

-- one more than the greatest sequence of a known drive fits in 64 bits
pub greatest-fits : (drive : DriveState) (n : ℕ) (survey : Survey) (greatest : ℕ) → Knows drive n (drive_logs drive) survey → greatest ≡ greatest_sequence (sequences (drive_logs drive)) → greatest + 1 < 2 ^ 64
greatest-fits drive n survey greatest known is =
    let below = greatest-all (2 ^ 63) 0 (sequences (drive_logs drive)) (omega arith) (all-weaker (λ s. s < 2 ^ 63) (λ s. s + 0 < 2 ^ 63) (sequences (drive_logs drive)) (λ s lt. omega (arith, lt)) known.sound.numbers) in
    omega (arith, below, is)

-- a block whose newest record is in the torn zone
abbrev IsLiveIn : DriveState → ℕ → ℕ → ℕ → Type 0
IsLiveIn drive n zone b = (b < encoded_size n (drive_logs drive)) × LiesIn zone (newest b (records 0 (drive_logs drive)))

blocks-live : (drive : DriveState) (n : ℕ) (survey : Survey) (repair : Repair) → Knows drive n (drive_logs drive) survey → IsRepairPlan drive.geometry n (drive_logs drive) (zone_tails (contents drive.zones)) repair → AllByRecursion (IsLiveIn drive n repair.zone) repair.blocks.items
blocks-live drive n survey repair known is =
    let logs = drive_logs drive in
    let size = drive.geometry.size in
    let map_is = map_of size n logs in
    subst (AllByRecursion (IsLiveIn drive n repair.zone)) (sym is.blocks) (all-weaker (LiesAt size repair.zone 0 map_is) (IsLiveIn drive n repair.zone) (blocks_in size repair.zone 0 map_is) (λ b at.
    let lt : b < encoded_size n logs = omega (arith, at.is, at.in_range, map-length size n logs) in
    let same : at.k ≡ b = omega (arith, at.is) in
    (lt, there-lies drive n logs survey repair.zone b known (sym (ap (λ (p : Place). lies_in size repair.zone p) (ap (λ (k : ℕ). get_or map_is k places.None) same ∙ place-at size n b logs lt)) ∙ at.lies))) (blocks-lie size repair.zone 0 map_is))

live-block : (drive : DriveState) (n : ℕ) (survey : Survey) (repair : Repair) (b : ℕ) → Knows drive n (drive_logs drive) survey → IsRepairPlan drive.geometry n (drive_logs drive) (zone_tails (contents drive.zones)) repair → IsLiveIn drive n repair.zone b → In b repair.blocks.items
live-block drive n survey repair b known is live_records =
    let logs = drive_logs drive in
    let size = drive.geometry.size in
    let map_is = map_of size n logs in
    subst (In b) (sym is.blocks) (lying-in size repair.zone 0 b b map_is (omega arith) (omega (arith, live_records.0, map-length size n logs))
    (ap (λ (p : Place). lies_in size repair.zone p) (place-at size n b logs live_records.0) ∙ lies-there drive n logs survey repair.zone b known live_records.1))

-- a record of a block below the size
lies-below : (drive : DriveState) (n : ℕ) (survey : Survey) (zone b : ℕ) → Knows drive n (drive_logs drive) survey → LiesIn zone (newest b (records 0 (drive_logs drive))) → b < encoded_size n (drive_logs drive)
lies-below drive n survey zone b known lies = at (newest b (records 0 (drive_logs drive))) (newest-is b (records 0 (drive_logs drive))) lies
  where
    at : (o : Option Record) → IsNewest (records 0 (drive_logs drive)) b o → LiesIn zone o → b < encoded_size n (drive_logs drive)
    at None is lies = absurd lies
    at (Some r) is lies =
        let size = encoded_size n (drive_logs drive) in
        let below = all-among (λ (x : Record). x.block < size) (records 0 (drive_logs drive)) r (inside-records size 0 (drive_logs drive) known.sound.inside) is.1.among in
        omega (arith, below, is.0)

-- ---- it can be made

needed-lies : (drive : DriveState) (n : ℕ) (zone b : ℕ) → zone < length (drive_logs drive) → NeedsItsBlock drive.geometry.block n (drive_logs drive) zone b → IsLiveIn drive n zone b
needed-lies drive n zone b lt needs = (needs.in_range, by (lies-or zone (newest b (records 0 (drive_logs drive)))))
  where
    by : LiesIn zone (newest b (records 0 (drive_logs drive))) ⊎ NotIn zone (newest b (records 0 (drive_logs drive))) → LiesIn zone (newest b (records 0 (drive_logs drive)))
    by (inl lies) = lies
    by (inr out) = absurd (needs.differs (ap (shown drive.geometry.block) (newest-without b zone (drive_logs drive) lt out)))

pub last-in : (drive : DriveState) (n : ℕ) (survey : Survey) (repair : Repair) (why : Finding) → Knows drive n (drive_logs drive) survey → IsRepairPlan drive.geometry n (drive_logs drive) (zone_tails (contents drive.zones)) repair → Finds drive.geometry.block n (drive_logs drive) repair.zone why → IsLastIn repair.blocks.items why
last-in drive n survey repair HalfClean known is finds = tt
last-in drive n survey repair NotMoves known is finds = tt
last-in drive n survey repair NeedsSize known is finds = tt
last-in drive n survey repair (NeedsBlock last) known is finds =
    let lt = torn-in drive n survey repair known is in
    live-block drive n survey repair last known is (needed-lies drive n repair.zone last (omega (arith, lt, known.count)) finds.1)

live-movable : (drive : DriveState) (n : ℕ) (survey : Survey) (repair : Repair) (b : ℕ) → Knows drive n (drive_logs drive) survey → IsRepairPlan drive.geometry n (drive_logs drive) (zone_tails (contents drive.zones)) repair → IsLiveIn drive n repair.zone b
    → IsMovable n (drive_logs drive) (source_of drive repair.tables repair.zone) repair.zone b
live-movable drive n survey repair b known is live_records = at (newest b (records 0 (drive_logs drive))) refl live_records.1
  where
    at : (o : Option Record) → newest b (records 0 (drive_logs drive)) ≡ o → LiesIn repair.zone o → IsMovable n (drive_logs drive) (source_of drive repair.tables repair.zone) repair.zone b
    at None e lies = absurd lies
    at (Some r) e lies =
        let size = drive.geometry.size in
        let there : slice_index_or repair.tables.map.places b places.None ≡ place size (Some r) = ap (λ (ps : List Place). get_or ps b places.None) is.placed.places ∙ place-at size n b (drive_logs drive) live_records.0 ∙ ap (place size) e in
        record {
          in_range = live_records.0;
          newest_is = r;
          is = e;
          zone = lies;
          content = (newest-said drive n survey repair.zone b r known e lies).content ∙ ap (said_at (readable_at drive repair.zone) (repair.zone * size)) (sym there);
        }

live-readable : (drive : DriveState) (n : ℕ) (survey : Survey) (repair : Repair) (count b : ℕ) → Knows drive n (drive_logs drive) survey → IsRepairPlan drive.geometry n (drive_logs drive) (zone_tails (contents drive.zones)) repair → count ≡ length (readable_at drive repair.zone)
    → IsLiveIn drive n repair.zone b → IsReadableAt repair.tables (repair.zone * drive.geometry.size) count b
live-readable drive n survey repair count b known is count-is live_records = at (newest b (records 0 (drive_logs drive))) refl live_records.1
  where
    at : (o : Option Record) → newest b (records 0 (drive_logs drive)) ≡ o → LiesIn repair.zone o → IsReadableAt repair.tables (repair.zone * drive.geometry.size) count b
    at None e lies = absurd lies
    at (Some r) e lies =
        let size = drive.geometry.size in
        let there : slice_index_or repair.tables.map.places b places.None ≡ place size (Some r) = ap (λ (ps : List Place). get_or ps b places.None) is.placed.places ∙ place-at size n b (drive_logs drive) live_records.0 ∙ ap (place size) e in
        record {
          in_range = omega (arith, live_records.0, map-length size n (drive_logs drive), ap length is.placed.places);
          few = omega (arith, live_records.0, known.reserve.1);
          place = subst (IsBlockAt (repair.zone * size) count) (sym there) (subst (λ (c : ℕ). IsBlockAt (repair.zone * size) c (place size (Some r))) (sym count-is) (newest-said drive n survey repair.zone b r known e lies).block);
        }

record Counts (geometry : Geometry) (size zone : ℕ) (logs : List (List Batch)) (source : Source) (plan : MovePlan) : Type 0 where
  count : length plan.blocks.items ≡ live_records size logs zone
  with_data : total (data_at source) plan.blocks.items ≡ live_data size logs zone

planned-counts : (drive : DriveState) (n : ℕ) (survey : Survey) (repair : Repair) (into : ℕ) (why : Finding) (plan : MovePlan) → IsPlanned drive n survey repair into why plan → IsOrder repair.blocks.items plan.blocks.items
    → Counts drive.geometry (encoded_size n (drive_logs drive)) repair.zone (drive_logs drive) (source_of drive repair.tables repair.zone) plan
planned-counts drive n survey repair into why plan p order =
    let logs = drive_logs drive in
    let lives = counts-live drive n logs survey repair.zone p.survey_known in
    let source = source_of drive repair.tables repair.zone in
    record {
      count = order-length repair.blocks.items plan.blocks.items order ∙ length-total repair.blocks.items ∙ ap (total (λ b. 1)) p.is.blocks ∙ lives.count;
      with_data = order.totals (data_at source) ∙ ap (total (data_at source)) p.is.blocks
          ∙ ap (λ (ps : List Place). total (λ b. data_blocks (get_or ps b places.None)) (blocks_in drive.geometry.size repair.zone 0 (map_of drive.geometry.size n logs))) p.is.placed.places ∙ lives.with_data;
    }

still-needed : (drive : DriveState) (n : ℕ) (survey : Survey) (repair : Repair) (into : ℕ) (why : Finding) (plan : MovePlan) (k : ℕ) (source : Source) → IsPlanned drive n survey repair into why plan → IsOrder repair.blocks.items plan.blocks.items → 1 ≤ plan.most → k < move_count plan
    → IsStillNeeded drive.geometry.block n (drive_logs drive) repair.zone plan.into (moves_before source plan k)
still-needed drive n survey repair into HalfClean plan k source p order some lt = absurd (p.cleared repair.zone (torn-in drive n survey repair p.survey_known p.is) p.finds)
still-needed drive n survey repair into NotMoves plan k source p order some lt = inl p.finds
still-needed drive n survey repair into NeedsSize plan k source p order some lt = inr (inr (p.finds.1, none-early source plan k p.early lt))
still-needed drive n survey repair into (NeedsBlock last) plan k source p order some lt =
    let rest = others last repair.blocks.items in
    let long : length plan.blocks.items ≡ length rest + 1 = ap length p.blocks ∙ length-append rest (last ∷ []) in
    let few = front-few plan.most k (length plan.blocks.items) some (omega (arith, long)) lt in
    let front = subst (λ (xs : List ℕ). AllByRecursion (λ x. x ≢ last) (take (k * plan.most) xs)) (sym p.blocks) (front-not repair.blocks.items last (k * plan.most) (omega (arith, few, long))) in
    inr (inl (last, p.finds.1, newest-none last (log_records plan.into 0 (moves_before source plan k)) (front-named (λ x. x ≢ last) source plan plan.into k front)))

-- the Moves that were planned can repair the torn zone
pub plan-made : (drive : DriveState) (n : ℕ) (survey : Survey) (repair : Repair) (into : ℕ) (why : Finding) (plan : MovePlan) → IsPlanned drive n survey repair into why plan → IsMovePlan drive n survey repair into plan
plan-made drive n survey repair into why plan p =
    let g = drive.geometry in
    let logs = drive_logs drive in
    let rs = records 0 logs in
    let zone = repair.zone in
    let known = p.survey_known in
    let source = source_of drive repair.tables zone in
    let last = last-in drive n survey repair why known p.is p.finds in
    let distinct = subst (IsDistinct nat_eq) (sym p.is.blocks) (blocks-distinct g.size zone 0 (map_of g.size n logs)) in
    let order : IsOrder repair.blocks.items plan.blocks.items = subst (IsOrder repair.blocks.items) (sym p.blocks) (is-order repair.blocks.items why distinct last) in
    let live_all : AllByRecursion (IsLiveIn drive n zone) plan.blocks.items = subst (AllByRecursion (IsLiveIn drive n zone)) (sym p.blocks) (order-all (IsLiveIn drive n zone) repair.blocks.items why last (blocks-live drive n survey repair known p.is)) in
    let some : 1 ≤ plan.most = omega (arith, p.most, positive-most g known.zones.geometry) in
    let counts = planned-counts drive n survey repair into why plan p order in
    let count : move_count plan ≡ moves (batch_most g) (live_records (encoded_size n logs) logs zone) = ap (λ (m : ℕ). moves m (length plan.blocks.items)) p.most ∙ ap (moves (batch_most g)) counts.count in
    let room = p.is.fits.room in
    let greatest = greatest-all (2 ^ 63) (moves (batch_most g) (live_records (encoded_size n logs) logs zone)) (sequences logs) (omega (arith, room, known.zones.geometry.capacity, known.zones.geometry.size)) p.is.fits.numbers in
    let size : log_size (moves_before source plan (move_count plan)) ≡ move_count plan + total (data_at source) plan.blocks.items = moves-size source plan (move_count plan) ∙ ap (λ (xs : List ℕ). move_count plan + total (data_at source) xs) (all-there plan some) in
    record {
      torn = p.torn;
      into_is = p.into_is;
      known = rw p.torn p.known;
      can = record {
        most = p.most;
        movable = subst (λ (z : ℕ). AllByRecursion (IsMovable n logs (source_of drive repair.tables z) z) plan.blocks.items) (sym p.torn)
            (all-weaker (IsLiveIn drive n zone) (IsMovable n logs source zone) plan.blocks.items (λ b live_records. live-movable drive n survey repair b known p.is live_records) live_all);
        all = subst (λ (z : ℕ). (block : ℕ) → LiesIn z (newest block rs) → Contains plan.blocks.items block) (sym p.torn)
            (λ block lies. in-contains block plan.blocks.items (order.has block (live-block drive n survey repair block known p.is (lies-below drive n survey zone block known lies, lies))));
        distinct = order.distinct;
        count = rw p.torn count;
        next = omega (arith, p.next);
        later = all-weaker (λ s. s + 0 < plan.next) (λ s. s < plan.next) (sequences logs) (λ s lt. omega (arith, lt)) (all-greatest plan.next 0 (sequences logs) (omega (arith, p.next)));
        last = omega (arith, greatest, count, p.next);
        room = subst (λ (z : ℕ). log_size (moves_before (source_of drive repair.tables z) plan (move_count plan)) ≤ g.capacity) (sym p.torn) (omega (arith, room, count, size, counts.with_data));
        size = subst (λ (z : ℕ). plan.size ≡ log_greatest (log_at logs z)) (sym p.torn) p.size;
        early = early-either plan.size plan.early why p.early;
        said = subst (λ (z : ℕ). (HoldsSize n logs z → ⊥) → plan.early ≡ plan.size) (sym p.torn) (early-said g.block n logs zone plan.size plan.early why p.early p.finds);
        needed = λ k lt. subst (λ (z : ℕ). IsStillNeeded g.block n logs z plan.into (moves_before (source_of drive repair.tables z) plan k)) (sym p.torn) (still-needed drive n survey repair into why plan k source p order some lt);
      };
      readable_blocks = rw p.torn (all-weaker (IsLiveIn drive n zone) (IsReadableAt repair.tables (zone * g.size) plan.reported.blocks) plan.blocks.items (λ b live_records. live-readable drive n survey repair plan.reported.blocks b known p.is p.known.blocks live_records) live_all);
    }

-- ---- what of it holds whatever the Reads returned

-- the size that the torn zone says is one that a header can say
pub size-valid : (drive : DriveState) (n : ℕ) (survey : Survey) (zone : ℕ) → Knows drive n (drive_logs drive) survey → zone < length drive.zones → IfSome (log_greatest (log_at (drive_logs drive) zone)) IsSize
size-valid drive n survey zone known lt =
    let there : zone < length (contents drive.zones) = omega (arith, lt, length-map drive.zones content_of) in
    largest-size drive.geometry.block (log_at (drive_logs drive) zone)
    (rw (log_at-zone drive.geometry (contents drive.zones) zone) (all-at (HasLog drive.geometry) (contents drive.zones) zone nothing known.all_logs there).front.batches)

early-valid : (size : Option ℕ) (why : Finding) → IfSome size IsSize → IfSome (early_size size why) IsSize
early-valid size NeedsSize valid = tt
early-valid size HalfClean valid = valid
early-valid size NotMoves valid = valid
early-valid size (NeedsBlock last) valid = valid

-- a plan of the blocks that are listed is safe
pub safe-plan : (geometry : Geometry) (count : ℕ) (repair : Repair) (why : Finding) (plan : MovePlan) → IsInRange geometry → IsListed count repair → count ≤ geometry.zones → is_last_in repair.blocks.items why ≡ true → plan.torn ≡ repair.zone
    → plan.blocks.items ≡ ordered repair.blocks.items why → plan.most ≡ batch_most geometry → plan.next + move_count plan ≤ 2 ^ 63 → IfSome plan.size IsSize → plan.early ≡ early_size plan.size why → IsSafe geometry repair.tables plan
safe-plan geometry count repair why plan range listed few told torn blocks most last size early =
    let m = repair.tables.map in
    let is = last-told repair.blocks.items why told in
    let named : AllByRecursion (IsNamed repair.tables) repair.blocks.items = rw listed.blocks
    (all-weaker (LiesAt m.zone_size repair.zone 0 m.places) (IsNamed repair.tables) (blocks_in m.zone_size repair.zone 0 m.places) (λ b at. (omega (arith, at.is, at.in_range), omega (arith, at.is, at.in_range, listed.few))) (blocks-lie m.zone_size repair.zone 0 m.places)) in
    let apart : IsDistinct nat_eq repair.blocks.items = rw listed.blocks (blocks-distinct m.zone_size repair.zone 0 m.places) in
    record {
      range = range;
      most = most;
      last = last;
      torn = omega (arith, torn, listed.zone, few);
      size = size;
      early = rw early (early-valid plan.size why size);
      named = rw blocks (order-all (IsNamed repair.tables) repair.blocks.items why is named);
      distinct = rw blocks (is-order repair.blocks.items why apart is).distinct;
    }
