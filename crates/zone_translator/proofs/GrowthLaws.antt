-- A growth: an empty batch that says the new size.
use Rattle.std.proofs.Common.{◌≡◌, ◌⊎◌, ℕ, ◌*◌, ◌≤◌, true, [], Option, Some, Result, Ok, Err, sym, ap, subst, ◌∙◌, inl, inr, arith, append-nil}
use Rattle.zone_states.specs.declared.geometry.Geometry.{Geometry}
use Rattle.drive_port.specs.Drive.{DriveState}
use Rattle.drive_port.specs.declared.device.Halt.{Halt}
use Rattle.drive_port.specs.declared.device.Halt.TheVariants as halt
use Rattle.batch_log.specs.Header.{Heading, header_block}
use Rattle.batch_log.specs.Log.{Batch, data_count, zero_block}
use Rattle.zone_choice.specs.declared.roles.Filling.{Filling}
use Rattle.zone_choice.specs.Agreement.{Agrees, MountedView, mounted, mounted_array}
use Rattle.drive_array.specs.ZoneLogs.{encoded}
use Rattle.zone_choice.specs.Builder.{BuilderView, IsBuilt, built, entries_from}
use Rattle.zone_choice.specs.Changes.{CanPlace, told_over}
use Rattle.drive_array.specs.Reserve.{FitsReserve}
use Rattle.drive_array.specs.Sizes.{extended, size_or}
use Rattle.zone_choice.specs.Tables.{TablesView, size_of}
use Rattle.zone_choice.proofs.AloneLaws.{stops-tables}
use Rattle.zone_choice.proofs.ChangeLaws.{large-block}
use Rattle.zone_cleaner.specs.Clean.{CleanView}
use Rattle.zone_cleaner.specs.Host.{HostLeaves}
use Rattle.zone_cleaner.specs.Start.{AgreesWithClean, KeepsByCleaning}
use Rattle.zone_translator.specs.Batches.{IsRoom, host_heading}
use Rattle.zone_translator.specs.declared.fault.DiskFault.{DiskFault}
use Rattle.zone_translator.specs.declared.fault.DiskFault.TheVariants.{OutOfRange, OutOfMemory, Stopped, Spent, Unmounted, Smaller, Reserve, Damaged, Failed}
use Rattle.zone_translator.specs.Changes.{GrowLeaves, Grows, IsCause, RoomLeaves, disk_fault}
use Rattle.zone_translator.proofs.RoomLaws.{room-stops}
use Rattle.zone_translator.proofs.WriteLaws.{append_stops, appended-size, built-batch, can_place, failed-left, keeps-placed, memory-left}

-- its batch, without an entry, is built and can be appended
pub record IsGrowthBatch (disk : MountedView) (host : Filling) (size : ℕ) (builder : BuilderView) : Type 0 where
  pub built_is : IsBuilt disk.drive.geometry.block builder
  pub can : CanPlace disk host.zone (built disk.drive.geometry.block builder)
  pub size_is : builder.heading.size ≡ Some size
  pub grows : size_of disk.tables ≤ size
  pub tells : told_over disk.drive.geometry.block (built disk.drive.geometry.block builder) (mounted_array disk) ≡ extended (zero_block disk.drive.geometry.block) size (mounted_array disk)

-- the batch of a growth can be placed
growth-batch : (old : DriveState) (tables : TablesView) (host : Filling) (size : ℕ) (builder : BuilderView) → Agrees (mounted old tables) → IsRoom (mounted old tables) host → size_of tables ≤ size → FitsReserve old.geometry size
    → builder.heading ≡ host_heading size tables.next true 0 0 → builder.bytes ≡ header_block old.geometry.block (host_heading size tables.next true 0 0) → IsGrowthBatch (mounted old tables) host size builder
growth-batch old tables host size builder agrees room grows reserve heading bytes =
    let g = old.geometry in
    let large = large-block g agrees.geometry in
    let header = header_block g.block (host_heading size tables.next true 0 0) in
    let none : 0 ≡ data_count (entries_from true 0 0) * g.block = omega arith in
    let made = built-batch g.block size tables.next true 0 0 [] builder (omega (arith, large)) (reserve.0, reserve.1) (omega arith) (omega (arith, room.next)) (omega arith) none heading (bytes ∙ sym (append-nil header)) in
    record {
      built_is = made.built_is;
      can = rw made.batch_is (can_place old tables host true 0 0 _ agrees room (omega arith) (omega arith) (omega (arith, room.free)) size grows reserve (λ block low high. absurd (omega arith)) (rw heading at made.says));
      size_is = ap (λ (h : Heading). h.size) heading;
      grows = grows;
      tells = ap (λ (b : Batch). told_over g.block b (mounted_array (mounted old tables))) made.batch_is;
    }

-- after a zone was found for it
pub grow-next : (a b : MountedView) (host : Filling) (size : ℕ) (builder : BuilderView) (g : Geometry) → g ≡ b.drive.geometry → KeepsByCleaning a b → Agrees b → IsRoom b host → size_of a.tables ≤ size → FitsReserve a.drive.geometry size
    → builder.heading ≡ host_heading size b.tables.next true 0 0 → builder.bytes ≡ header_block g.block (host_heading size b.tables.next true 0 0) → IsGrowthBatch b host size builder
grow-next a b host size builder g g-is kept agrees room grows reserve heading bytes =
    growth-batch b.drive b.tables host size builder agrees room (omega (arith, kept.size, grows)) (subst (λ (x : Geometry). FitsReserve x size) (sym kept.geometry) reserve) heading (rw g-is at bytes)

grown-array : (a b : MountedView) (size : ℕ) → KeepsByCleaning a b → extended (zero_block b.drive.geometry.block) size (mounted_array b) ≡ extended (zero_block a.drive.geometry.block) size (mounted_array a)
grown-array a b size kept = ap (λ (g : Geometry). extended (zero_block g.block) size (mounted_array b)) kept.geometry ∙ ap (extended (zero_block a.drive.geometry.block) size) kept.array

-- it was appended, and the disk has grown
pub growth-writes : (a b c : MountedView) (old new : Option CleanView) (host : Filling) (size : ℕ) (builder : BuilderView) → KeepsByCleaning a b → AgreesWithClean b old → IsGrowthBatch b host size builder
    → HostLeaves b old host.zone (built b.drive.geometry.block builder) (Ok tt) c new → Grows a c new size
growth-writes a b c old new host size builder kept is next leaves =
    let placed = leaves.0 in
    let batch = built b.drive.geometry.block builder in
    let keeps = keeps-placed a b c new host.zone batch kept placed leaves.2.cleaned in
    record {
      serves = leaves.2.cleaned;
      keeps = keeps;
      size_is = placed.size ∙ ap (size_or (size_of b.tables)) next.size_is;
      array = placed.array ∙ next.tells ∙ grown-array a b size kept;
      says = appended-size b.drive c.drive b.tables c.tables host.zone size batch is.0 next.can next.size_is next.grows placed;
      appended = omega (arith, kept.appended, placed.appended);
      early = rw (← kept.geometry) (omega (arith, placed.next, next.can.next));
    }

-- or it was not
pub growth-halts : (a b c : MountedView) (old new : Option CleanView) (host : Filling) (size : ℕ) (builder : BuilderView) (fault : Halt) → KeepsByCleaning a b → AgreesWithClean b old → IsGrowthBatch b host size builder
    → HostLeaves b old host.zone (built b.drive.geometry.block builder) (Err fault) c new → GrowLeaves a c new size (Err (disk_fault fault)) × IsCause c.drive c.tables.next (disk_fault fault)
growth-halts a b c old new host size builder halt.Memory kept is next leaves = (memory-left a b c old new host.zone (built b.drive.geometry.block builder) kept is leaves, tt)
growth-halts a b c old new host size builder halt.Failed kept is next leaves = (failed-left a b c old new host.zone (built b.drive.geometry.block builder) kept is leaves, leaves.4)
growth-halts a b c old new host size builder halt.Stopped kept is next leaves =
    let stops = leaves.0 in
    let batch = built b.drive.geometry.block builder in
    let left : (encoded c.drive b.tables.given ≡ mounted_array a) ⊎ (encoded c.drive b.tables.given ≡ extended (zero_block a.drive.geometry.block) size (mounted_array a)) = elim stops.left [
      | inl same ↦ inl (same.array_is ∙ kept.array)
      | inr more ↦ inr (more.array_is ∙ next.tells ∙ grown-array a b size kept)
    ] in
    ((append_stops a b c host.zone batch kept stops leaves.2, rw (stops-tables b c host.zone batch stops).given left), stops.stopped)

growth-without : (a b : MountedView) (clean : Option CleanView) (size : ℕ) (fault : DiskFault) → RoomLeaves {V = Filling} a b clean (Err fault) → IsCause b.drive b.tables.next fault → GrowLeaves a b clean size (Err fault)
growth-without a b clean size OutOfRange leaves cause = leaves
growth-without a b clean size OutOfMemory leaves cause = leaves
growth-without a b clean size Failed leaves cause = leaves
growth-without a b clean size Stopped leaves cause = (room-stops a b leaves cause, inl leaves.array)
growth-without a b clean size Spent leaves cause = leaves
growth-without a b clean size Smaller leaves cause = leaves
growth-without a b clean size Reserve leaves cause = leaves
growth-without a b clean size Unmounted leaves cause = leaves
growth-without a b clean size Damaged leaves cause = absurd leaves

-- there was no room for it
pub growth-no_room : (a b : MountedView) (clean : Option CleanView) (size : ℕ) (fault : DiskFault) (result : Result (Unit {0}) DiskFault) → result ≡ Err fault → RoomLeaves {V = Filling} a b clean (Err fault) → IsCause b.drive b.tables.next fault → GrowLeaves a b clean size result
growth-no_room a b clean size fault result is leaves cause = rw is (growth-without a b clean size fault leaves cause)

-- or no memory
pub growth-no_memory : (a b : MountedView) (clean : Option CleanView) (size : ℕ) (result : Result (Unit {0}) DiskFault) → result ≡ Err OutOfMemory → KeepsByCleaning a b × AgreesWithClean b clean → GrowLeaves a b clean size result
growth-no_memory a b clean size result is kept = rw is kept
