-- One Move of a repair is made.
use Rattle.std.proofs.Common.{◌≡◌, ℕ, zero, suc, ◌+◌, ◌*◌, ◌<◌, ◌≤◌, ◌^◌, length, map, refl, sym, ap, subst, ◌∙◌, arith}
use Rattle.std.specs.List.{AllByRecursion}
use Rattle.std.proofs.lemmas.List.{length-append, length-map}
use Rattle.std.proofs.lemmas.Nat.{mul-le}
use Rattle.std.proofs.Math.Nat.{add-mul}
use Rattle.std.specs.Prelude.{slice_index_or}
use Rattle.zone_states.specs.declared.geometry.Geometry.{Geometry}
use Rattle.batch_log.proofs.LentLaws.{data-few}
use Rattle.drive_array.proofs.AllLaws.{all-weaker}
use Rattle.drive_port.specs.Calls.{CanAppend}
use Rattle.drive_port.specs.Drive.{DriveState}
use Rattle.batch_log.specs.Header.{Heading, IsHeading}
use Rattle.batch_log.specs.Log.{Batch, batch_size, data_count, log_size}
use Rattle.logical_map.specs.declared.place.Place.TheVariants as places
use Rattle.drive_array.specs.ZoneLogs.{drive_logs}
use Rattle.zone_choice.specs.Builder.{BuilderView, IsBuilt, built}
use Rattle.zone_choice.specs.Tables.{TablesView}
use Rattle.zone_choice.proofs.ChangeLaws.{large-block}
use Rattle.drive_array.proofs.AppendLaws.{log_size-append}
use Rattle.drive_array.proofs.ReserveLaws.{positive-most}
use Rattle.remount.specs.declared.repair.moves.MovePlan.{MovePlan}
use Rattle.drive_survey.specs.Heads.{HeadsView, heads_of, kept_entry}
use Rattle.remount.specs.Moving.{CanTake, IsAtMove, IsBuiltAs, IsNamed, IsReadableAt, IsSafe, IsShaped, IsTakeable, Source, move_by, move_count, moves_before, named_by, placed_entry, source_of}
use Rattle.drive_survey.specs.Reported.{IsKnown, KeepsZones}
use Rattle.remount.proofs.CallLaws.{zones-shut}
use Rattle.remount.proofs.MovingLaws.{at-can, at-heading, at-kept, moving-known, moving-source}
use Rattle.remount.proofs.MovePlanLaws.{all-named, few-named, heads-more, move-room, shape-heading}

-- ---- what building it needs

-- what building the Move with a number needs of a safe plan
pub record SafeBuild (geometry : Geometry) (tables : TablesView) (source : Source) (plan : MovePlan) (k : ℕ) : Type 0 where
  pub most : 1 ≤ plan.most
  pub last : plan.next + k < 2 ^ 63
  pub named : AllByRecursion (IsNamed tables) (named_by plan k)
  pub heading : IsHeading geometry.block (move_by source plan k).heading

pub safe-build : (geometry : Geometry) (tables : TablesView) (source : Source) (plan : MovePlan) (k : ℕ) → IsSafe geometry tables plan → k < move_count plan → SafeBuild geometry tables source plan k
safe-build geometry tables source plan k safe lt = record {
  most = omega (arith, safe.most, positive-most geometry safe.range);
  last = omega (arith, safe.last, lt);
  named = all-named (IsNamed tables) plan k safe.named;
  heading = shape-heading geometry k source plan safe.range safe.most (omega (arith, safe.last, lt)) safe.torn safe.size safe.early (all-weaker (IsNamed tables) (λ b. b < 2 ^ 63) plan.blocks.items (λ b named. omega (arith, named.1)) safe.named) safe.distinct;
}

-- a Move of a safe plan fits in one transfer
pub safe-takeable : (geometry : Geometry) (tables : TablesView) (source : Source) (plan : MovePlan) (k : ℕ) (builder : BuilderView) → IsSafe geometry tables plan → k < move_count plan → IsShaped geometry.block (move_by source plan k).heading builder → IsTakeable geometry builder
safe-takeable geometry tables source plan k builder safe lt shaped =
    let says = (safe-build geometry tables source plan k safe lt).heading in
    let most : plan.most + 1 ≤ geometry.transfer = omega (arith, safe.most, positive-most geometry safe.range) in
    let entries : length (move_by source plan k).heading.entries ≡ length (named_by plan k) = length-map (named_by plan k) (λ x. placed_entry x (slice_index_or source.places x places.None)) in
    let few : data_count builder.heading.entries ≤ length builder.heading.entries = data-few builder.heading.entries in
    let same : length builder.heading.entries ≡ length (move_by source plan k).heading.entries = ap (λ (h : Heading). length h.entries) shaped.heading_is in
    record {
      range = safe.range;
      heading = rw shaped.heading_is says;
      whole = shaped.whole;
      few = omega (arith, few, same, entries, few-named plan k, most);
    }

-- what building the Move with a number needs
pub record CanBuild (n : ℕ) (start now : DriveState) (tables : TablesView) (plan : MovePlan) (k : ℕ) : Type 0 where
  pub known : IsKnown now plan.torn plan.reported
  pub most : 1 ≤ plan.most
  pub last : plan.next + k < 2 ^ 63
  pub places : AllByRecursion (IsReadableAt tables (plan.torn * now.geometry.size) plan.reported.blocks) (named_by plan k)
  pub heading : IsHeading now.geometry.block (move_by (source_of now tables plan.torn) plan k).heading

-- a Move that is still to be made can be built
pub can-build : (n : ℕ) (start now : DriveState) (tables : TablesView) (plan : MovePlan) (k : ℕ) (heads : HeadsView) → IsAtMove n start now tables plan k heads → k < move_count plan → CanBuild n start now tables plan k
can-build n start now tables plan k heads a lt =
    let m = a.moving in
    let made = moves_before (source_of start tables plan.torn) plan k in
    record {
      known = moving-known n start now plan.torn plan.into made plan.reported m a.known;
      most = omega (arith, a.can.most, positive-most start.geometry m.range);
      last = omega (arith, a.can.last, lt);
      places = rw m.geometry (all-named (IsReadableAt tables (plan.torn * start.geometry.size) plan.reported.blocks) plan k a.readable_blocks);
      heading = rw m.geometry (at-heading n start now tables plan k heads a lt);
    }

-- ---- it is built

-- a Move is built, and the drive can take it
pub record MoveReady (n : ℕ) (start now : DriveState) (tables : TablesView) (plan : MovePlan) (k : ℕ) (heads : HeadsView) (builder : BuilderView) : Type 0 where
  pub at : IsAtMove n start now tables plan k heads
  pub is : built now.geometry.block builder ≡ move_by (source_of start tables plan.torn) plan k
  pub heading : builder.heading ≡ (move_by (source_of start tables plan.torn) plan k).heading
  pub large : 512 ≤ now.geometry.block
  pub can : CanTake now plan.into builder

-- once a Move is built, the drive can take it
pub move-ready : (n : ℕ) (start old now : DriveState) (tables : TablesView) (plan : MovePlan) (k : ℕ) (heads : HeadsView) (builder : BuilderView) → IsAtMove n start old tables plan k heads → k < move_count plan → KeepsZones old now
    → IsBuiltAs old.geometry.block (move_by (source_of old tables plan.torn) plan k) builder → MoveReady n start now tables plan k heads builder
move-ready n start old now tables plan k heads builder a lt kept b =
    let source = source_of start tables plan.torn in
    let made = moves_before source plan k in
    let next = at-kept n start old now tables plan k heads (zones-shut old now kept) a in
    let same : source_of old tables plan.torn ≡ source = moving-source n start old plan.torn plan.into made tables a.moving in
    let is : built now.geometry.block builder ≡ move_by source plan k = rw kept.geometry (subst (λ (s : Source). built old.geometry.block builder ≡ move_by s plan k) same b.is) in
    let heading : builder.heading ≡ (move_by source plan k).heading = ap (λ (x : Batch). x.heading) is in
    let says : IsHeading now.geometry.block builder.heading = rw (heading, next.moving.geometry) (at-heading n start now tables plan k heads next lt) in
    record {
      at = next;
      is = is;
      heading = heading;
      large = rw next.moving.geometry (large-block start.geometry a.moving.range);
      can = record {
        range = rw next.moving.geometry a.moving.range;
        heading = says;
        whole = rw kept.geometry b.whole;
        can = subst (λ (size : ℕ). CanAppend now (plan.into * now.geometry.size) size) (sym (ap batch_size is)) (at-can n start now tables plan k heads next lt);
      };
    }

-- ---- its header is kept

entries-before : (source : Source) (plan : MovePlan) (k : ℕ) → length (heads_of (moves_before source plan k)).entries ≤ k * plan.most
entries-before source plan zero = omega arith
entries-before source plan (suc k) =
    let b = move_by source plan k in
    let rest = entries-before source plan k in
    let more : length (heads_of (moves_before source plan (suc k))).entries ≡ length (heads_of (moves_before source plan k)).entries + length b.heading.entries =
    ap (λ (h : HeadsView). length h.entries) (heads-more (moves_before source plan k) b) ∙ length-append (heads_of (moves_before source plan k)).entries (map kept_entry b.heading.entries) ∙ ap (λ (x : ℕ). length (heads_of (moves_before source plan k)).entries + x) (length-map b.heading.entries kept_entry) in
    omega (arith, rest, more, few-named plan k, length-map (named_by plan k) (λ x. placed_entry x (slice_index_or source.places x places.None)), add-mul k 1 plan.most)

blocks-before : (source : Source) (plan : MovePlan) (k : ℕ) → (heads_of (moves_before source plan k)).blocks ≡ log_size (moves_before source plan k)
blocks-before source plan zero = refl
blocks-before source plan (suc k) =
    let b = move_by source plan k in
    omega (arith, blocks-before source plan k, ap (λ (h : HeadsView). h.blocks) (heads-more (moves_before source plan k) b), log_size-append (moves_before source plan k) b)

-- k Moves take at least k blocks
pub count-before : (source : Source) (plan : MovePlan) (k : ℕ) → k ≤ log_size (moves_before source plan k)
count-before source plan zero = omega arith
count-before source plan (suc k) = omega (arith, count-before source plan k, log_size-append (moves_before source plan k) (move_by source plan k))

-- with this batch the counts of entries and blocks stay below 2 ^ 31
pub record CanPush (heads : HeadsView) (builder : BuilderView) : Type 0 where
  pub few : length heads.entries + length builder.heading.entries < 2 ^ 31
  pub short : heads.blocks + 1 + data_count builder.heading.entries < 2 ^ 31

-- the header of a Move that is ready can be added to the headers before it
pub can-push : (n : ℕ) (start now : DriveState) (tables : TablesView) (plan : MovePlan) (k : ℕ) (heads : HeadsView) (builder : BuilderView) → MoveReady n start now tables plan k heads builder → k < move_count plan → CanPush heads builder
can-push n start now tables plan k heads builder r lt =
    let source = source_of start tables plan.torn in
    let a = r.at in
    let g = start.geometry in
    let range = a.moving.range in
    let room = move-room g n k (drive_logs start) source plan a.can lt in
    let few : length (move_by source plan k).heading.entries ≤ plan.most = omega (arith, few-named plan k, length-map (named_by plan k) (λ x. placed_entry x (slice_index_or source.places x places.None))) in
    let most : plan.most ≤ 255 = omega (arith, a.can.most, range.transfer) in
    let product : k * plan.most ≤ 1048576 * 255 = mul-le k plan.most 1048576 255 (omega (arith, count-before source plan k, room, range.capacity, range.size)) most in
    rw (a.heads_are, r.heading) (record {
      few = omega (arith, entries-before source plan k, product, few, most);
      short = omega (arith, blocks-before source plan k, room, range.capacity, range.size);
    })

-- a batch is built whole, with a heading that its header block can hold
pub record PushReady (block : ℕ) (builder : BuilderView) : Type 0 where
  pub large : 512 ≤ block
  pub heading : IsHeading block builder.heading
  pub whole : IsBuilt block builder

-- a batch that the drive can take is built as adding its header needs
pub push-ready : (now : DriveState) (zone : ℕ) (builder : BuilderView) (block : ℕ) → block ≡ now.geometry.block → 512 ≤ now.geometry.block → CanTake now zone builder → PushReady block builder
push-ready now zone builder block is large can = rw is (record { large = large; heading = can.heading; whole = can.whole })

-- a Move has room for at least one record
pub at-most : (n : ℕ) (start now : DriveState) (tables : TablesView) (plan : MovePlan) (k : ℕ) (heads : HeadsView) → IsAtMove n start now tables plan k heads → 1 ≤ plan.most
at-most n start now tables plan k heads a = omega (arith, a.can.most, positive-most start.geometry a.moving.range)
