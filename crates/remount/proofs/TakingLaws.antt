-- A zone takes a batch, or a front of it.
use Rattle.std.proofs.Common.{◌≡◌, ◌⊎◌, inl, inr, ℕ, suc, ◌*◌, ◌/◌, ◌≤◌, List, length, take, drop, Ok, Err, refl, sym, ap, ◌∙◌, arith}
use Rattle.std.proofs.lemmas.List.{take_all}
use Rattle.zone_states.proofs.Cutting.{length-cut}
use Rattle.zone_states.specs.declared.geometry.Geometry.{Geometry}
use Rattle.drive_port.specs.Calls.{Appended, AppendedFront, AppendKeeps, AppendLeaves, CanAppend, IsNotRefused, IsWholeBlocks, Obeys, block_count}
use Rattle.drive_port.specs.Contents.{SameContents}
use Rattle.drive_port.specs.Drive.{DriveState, IsLawful}
use Rattle.drive_port.specs.declared.calls.PortFault.{PortFault}
use Rattle.drive_port.specs.declared.calls.PortFault.TheVariants as port
use Rattle.batch_log.specs.Log.{batch_blocks, batch_size, data_count}
use Rattle.zone_choice.specs.Builder.{BuilderView, built}
use Rattle.zone_choice.proofs.ChangeLaws.{sized}
use Rattle.zone_choice.proofs.CommandLaws.{zone-start}
use Rattle.zone_choice.proofs.OpenLaws.{append-opens}
use Rattle.remount.specs.Moving.{CanTake, IsTakeable, TakesFirst, TakesSome}
use Rattle.remount.proofs.CallLaws.{mountable-same}

-- a built batch has as many blocks as its size says
size-blocks : (block : ℕ) (builder : BuilderView) → length (batch_blocks block (built block builder)) ≡ batch_size (built block builder)
size-blocks block builder = ap suc (length-cut block (data_count builder.heading.entries) (drop block builder.bytes))

-- the bytes of a batch that the drive can take are whole blocks
pub take-whole : (drive : DriveState) (zone : ℕ) (builder : BuilderView) (bytes : List ℕ) → bytes ≡ builder.bytes → CanTake drive zone builder → IsWholeBlocks drive.geometry.block bytes
take-whole drive zone builder bytes bytes-are can =
    let g = drive.geometry in
    let s = sized g builder can.range can.heading can.whole in
    let same : length builder.bytes / g.block ≡ batch_size (built g.block builder) = s.count_is in
    rw bytes-are (record {
      whole = s.long ∙ ap (λ (n : ℕ). n * g.block) (sym same);
      some = omega (arith, same);
      few = omega (arith, same, can.can.few, can.range.transfer);
    })

-- the bytes of a batch that fits in one transfer are whole blocks
pub takeable-whole : (geometry : Geometry) (builder : BuilderView) (bytes : List ℕ) → bytes ≡ builder.bytes → IsTakeable geometry builder → IsWholeBlocks geometry.block bytes
takeable-whole g builder bytes bytes-are t =
    let s = sized g builder t.range t.heading t.whole in
    let same : length builder.bytes / g.block ≡ batch_size (built g.block builder) = s.count_is in
    rw bytes-are (record {
      whole = s.long ∙ ap (λ (n : ℕ). n * g.block) (sym same);
      some = omega (arith, same);
      few = omega (arith, same, t.few, t.range.transfer);
    })

-- the drive takes it
pub take-can : (drive : DriveState) (zone start : ℕ) (builder : BuilderView) (bytes : List ℕ) → bytes ≡ builder.bytes → start ≡ zone * drive.geometry.size → CanTake drive zone builder → CanAppend drive start (block_count drive.geometry bytes)
take-can drive zone start builder bytes bytes-are is can =
    let s = sized drive.geometry builder can.range can.heading can.whole in
    rw (bytes-are, is, s.count_is) can.can

starts : (drive : DriveState) (zone start : ℕ) (builder : BuilderView) → start ≡ zone * drive.geometry.size → CanTake drive zone builder → start / drive.geometry.size ≡ zone
starts drive zone start builder is can = rw is (zone-start zone drive.geometry.size can.range.size.0).0

-- it took all of it
pub takes-all : (old new : DriveState) (zone start address : ℕ) (builder : BuilderView) (bytes : List ℕ) → bytes ≡ builder.bytes → start ≡ zone * old.geometry.size → CanTake old zone builder → Appended old new start bytes address → AppendLeaves old start bytes (Ok address) new → IsLawful new → new.durable ≡ old.durable
    → TakesFirst old new zone (built old.geometry.block builder) (batch_size (built old.geometry.block builder))
takes-all old new zone start address builder bytes bytes-are is can done leaves lawful durable =
    let g = old.geometry in
    let b = built g.block builder in
    let s = sized g builder can.range can.heading can.whole in
    let index = starts old zone start builder is can in
    let all : take (batch_size b) (batch_blocks g.block b) ≡ batch_blocks g.block b = take_all (batch_size b) (batch_blocks g.block b) (omega (arith, size-blocks g.block builder)) in
    record {
      geometry = done.geometry;
      lawful = lawful;
      refused = done.counts.refused;
      durable = durable;
      few = omega arith;
      appends = rw all (rw (bytes-are, index, s.cut) at done.contents);
      opens = rw index at (append-opens old new start bytes (Ok address) leaves);
    }

-- and where it did not succeed, some of it
pub takes-some : (old new : DriveState) (zone start : ℕ) (builder : BuilderView) (bytes : List ℕ) (fault : PortFault) → bytes ≡ builder.bytes → start ≡ zone * old.geometry.size → CanTake old zone builder
    → AppendKeeps old start bytes (Err fault) new → AppendLeaves old start bytes (Err fault) new → Obeys {V = ℕ} old (Err fault) new → IsNotRefused {V = ℕ} (Err fault) → TakesSome old new zone (built old.geometry.block builder)
takes-some old new zone start builder bytes (port.Refused status) bytes-are is can kept leaves obeys passed = absurd passed
takes-some old new zone start builder bytes port.Memory bytes-are is can kept leaves obeys passed = inl (λ n. mountable-same n old new kept obeys.lawful (ap (λ (d : DriveState). d.refused) leaves) (ap (λ (d : DriveState). d.durable) leaves))
takes-some old new zone start builder bytes port.Failed bytes-are is can kept leaves obeys passed = inl (λ n. mountable-same n old new kept obeys.lawful (obeys.fails refl).1.refused obeys.durable)
takes-some old new zone start builder bytes port.Stopped bytes-are is can kept leaves obeys passed = by kept
  where
    by : SameContents old new ⊎ AppendedFront old new start bytes → TakesSome old new zone (built old.geometry.block builder)
    by (inl same) = inl (λ n. mountable-same n old new same obeys.lawful (obeys.counts refl).refused obeys.durable)
    by (inr some) =
        let g = old.geometry in
        let b = built g.block builder in
        let s = sized g builder can.range can.heading can.whole in
        let index = starts old zone start builder is can in
        let few : some.j ≤ length (batch_blocks g.block b) = rw (bytes-are, s.cut) at some.few in
        inr (
          some.j,
          record {
            geometry = some.geometry;
            lawful = obeys.lawful;
            refused = (obeys.counts refl).refused;
            durable = obeys.durable;
            few = omega (arith, few, size-blocks g.block builder);
            appends = rw (bytes-are, index, s.cut) at some.contents;
            opens = rw index at (append-opens old new start bytes (Err port.Stopped) leaves);
          },
        )
