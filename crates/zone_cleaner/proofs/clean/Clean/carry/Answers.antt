use Rattle.std.proofs.Common.{◌≡◌, List, map, length, ◌<◌, ◌≤◌, ◌+◌, ◌++◌, ◌^◌, refl, ap, sym, subst, inl, ◌∙◌, rules, Some, Err, true, false, arith}
use Rattle.std.specs.List.{concat}
use Rattle.drive_array.proofs.AllLaws.{all-weaker}
use Rattle.zone_choice.specs.Agreement.{MountedView, mounted}
use Rattle.zone_choice.specs.Builder.{IsBuilt}
use Rattle.zone_choice.specs.Changes.{BatchLeaves, CanPlace, Places, built_for, closes_before, fault_halt, sequence_end}
use Rattle.zone_choice.specs.Tables.{TablesView, size_of}
use Rattle.zone_choice.specs.Sane.{KeepsShape, MayPlace, TablesAfter}
use Rattle.batch_log.specs.Header.{header_block}
use Rattle.zone_cleaner.specs.LiveRecords.{LiveRecord, gathered_data, gathered_move}
use Rattle.batch_log.specs.declared.header.Entry.{Entry}
use Rattle.zone_cleaner.specs.Clean.{CleanView}
use Rattle.zone_cleaner.specs.Turns.{IsAtStep, moved_from}
use Rattle.zone_cleaner.specs.Undoing.{entry_moved}
use Rattle.zone_cleaner.specs.declared.step.Step.TheVariants.{Move}
use Rattle.zone_cleaner.proofs.BesideLaws.{few-closes}
use Rattle.zone_cleaner.proofs.BuildLaws.{data-whole}
use Rattle.zone_cleaner.proofs.EndLaws.{Carries, carry_done, carry_failed, carry_ready}
use Rattle.zone_cleaner.proofs.MayLaws.{CanCarry, carry-may, gathered-placed, has-room, move-says}
use Rattle.std.proofs.lemmas.List.{take_at}
use Rattle.zone_choice.proofs.ChangeLaws.{keeps-refl}
use Rattle.zone_choice.specs.Changes.{KeepsArray}
use Rattle.zone_cleaner.specs.declared.moved.Moved.{Moved}
use Rattle.zone_cleaner.specs.Turns.{MayClose}
use Rattle.zone_cleaner.proofs.UndoLaws.{noted}
use Rattle.zone_cleaner.proofs.SaneLaws.{stays-appended}
use Rattle.zone_cleaner.proofs.clean.Clean.carry.Goals as goal

-- ---- what is tested holds while the drive is clean

pub returns-in_default-clause-leaves : goal.returns-in_default-clause-leaves
returns-in_default-clause-leaves g c = λ clean.
    let at = c.requires.at clean in
    absurd (c.in_default.ensures.none at.clean_is.destination (rw (c.geometry-geometry.ensures, ap (λ m. m.tables) c.disk.view_is) (has-room c.args.disk.now c.args.self.now at.agrees at.clean_is)))

pub returns-in-Err-note_move-clause-leaves : goal.returns-in-Err-note_move-clause-leaves
returns-in-Err-note_move-clause-leaves g c = λ clean.
    let tables = ap (λ m. m.tables) c.disk.view_is in
    let at = c.requires.at (rw (← c.disk.view_is) clean) in
    let same : mounted (g.D.Device.drive c.disk.inside.device) c.reserve_moves.new.self ≡ c.args.disk.now = ap (mounted (g.D.Device.drive c.disk.inside.device)) c.in_ok-reserve_moves.ensures.kept ∙ c.disk.view_is in
    let named = ap (λ b. b.heading.entries) c.batch-batch.ensures ∙ ap (λ h. h.entries) c.in_default-build.ensures.built.heading in
    let why = c.in-Err-note_move.ensures.fault (rw (c.in_ok-reserve_moves.ensures.kept, tables, c.entries.ensures, named, ap (λ v. v.gathered) c.self.view_is) (gathered-placed c.args.disk.now c.args.self.now at.clean_is)) in (
      rw why (subst (λ (m : MountedView). KeepsArray c.args.disk.now m × MayClose c.args.disk.now m.tables) (sym same) (keeps-refl c.args.disk.now.drive c.args.disk.now.tables at.agrees, inl refl)),
      rw (c.in_default-build.ensures.records, c.in-Err-note_move.ensures.err, ← c.self.view_is) refl,
    )

-- ---- the Move is built

pub build-requires-clause-heading : goal.build-requires-clause-heading
build-requires-clause-heading g c =
    let tables = ap (λ m. m.tables) c.disk.view_is in
    let room = c.in-Some.ensures.some in
    move-says c.geometry-geometry.result.block c.blocks-2.result c.next-sequence.result c.self.inside.victim c.self.inside.gathered.records (omega (arith, room.few, ap (λ v. length v.gathered) c.self.view_is))
    (omega (arith, c.if-sequence-geometry.false)) (omega (arith, c.self.ranges.0.1)) (omega (arith, c.blocks-2.ensures, room.some), omega (arith, c.blocks-2.ensures, ap (λ t. size_of t) tables, c.requires.sane.short))
    (all-weaker (λ (r : LiveRecord). r.block < c.self.inside.cursor) (λ (r : LiveRecord). r.block + 1 < 2 ^ 32) c.self.inside.gathered.records (λ r lt. omega (arith, lt, c.self.ranges.1.0.1)) c.self.invariant)
    (rw (ap (λ v. v.gathered) c.self.view_is) c.destination.ensures.distinct)

pub build-requires-clause-few : goal.build-requires-clause-few
build-requires-clause-few g c = all-weaker (λ (r : LiveRecord). r.block < c.self.inside.cursor) (λ (r : LiveRecord). r.block + 1 < 2 ^ 32) c.self.inside.gathered.records (λ r lt. omega (arith, lt, c.self.ranges.1.0.1)) c.self.invariant

pub returns-in-Err-clause-leaves : goal.returns-in-Err-clause-leaves
returns-in-Err-clause-leaves g c = λ clean.
    let at = c.requires.at clean in
    let why = c.in-Err.ensures.err (rw (c.geometry-geometry.ensures, ap (λ v. v.gathered) c.self.view_is) (data-whole c.args.disk.now c.args.self.now at.agrees at.clean_is)) in
    (rw why (search rules), rw (c.in-Err.ensures.records, ← c.self.view_is) refl)

pub invariant_of-self-in-Err-note_move : goal.invariant_of-self-in-Err-note_move
invariant_of-self-in-Err-note_move g c = rw c.in_default-build.ensures.records c.self.invariant

pub invariant_of-self-in-Err-append_batch : goal.invariant_of-self-in-Err-append_batch
invariant_of-self-in-Err-append_batch g c = rw c.in_default-build.ensures.records c.self.invariant

-- ---- it is sent

pub append_batch-requires-clause-built : goal.append_batch-requires-clause-built
append_batch-requires-clause-built g c =
    let tables = ap (λ m. m.tables) c.disk.view_is in
    let gathered = ap (λ v. v.gathered) c.self.view_is in
    let f = c.in-Some.destination in
    let batch = c.batch-batch.result.now in
    let heading : batch.heading ≡ (gathered_move (size_of c.args.disk.now.tables) c.args.disk.now.tables.next c.args.self.now.victim c.args.self.now.gathered).heading = ap (λ b. b.heading) c.batch-batch.ensures ∙ (rw (c.blocks-2.ensures, c.next-sequence.ensures, tables, gathered, ap (λ v. v.victim) c.self.view_is) at c.in_default-build.ensures.built.heading) in
    let bytes : batch.bytes ≡ header_block c.args.disk.now.drive.geometry.block batch.heading ++ concat (gathered_data c.args.self.now.gathered) = rw c.batch-batch.ensures (rw (c.geometry-geometry.ensures, gathered) at c.in_default-build.ensures.built.bytes) in
    let same : mounted (g.D.Device.drive c.disk.inside.device) c.reserve_moves.new.self ≡ c.args.disk.now = ap (mounted (g.D.Device.drive c.disk.inside.device)) c.in_ok-reserve_moves.ensures.kept ∙ c.disk.view_is in
    let next : c.args.disk.now.tables.next < sequence_end c.args.disk.now.drive.geometry = omega (arith, rw c.geometry-geometry.ensures at c.if-sequence-geometry.false, rw tables at c.next-sequence.ensures) in
    let can : CanCarry c.args.disk.now c.args.self.now f = record {
      sane = c.requires.sane;
      apart = rw tables at c.destination.ensures.apart;
      room = rw (c.geometry-geometry.ensures, tables) at c.in-Some.ensures.some;
      victim = omega (arith, c.self.ranges.0.1, ap (λ v. v.victim) c.self.view_is);
      next = omega (arith, next);
      below = rw gathered at (all-weaker (λ (r : LiveRecord). r.block < c.self.inside.cursor) (λ (r : LiveRecord). r.block + 1 < 2 ^ 32) c.self.inside.gathered.records (λ r lt. omega (arith, lt, c.self.ranges.1.0.1)) c.self.invariant);
      distinct = rw (c.in_default-build.ensures.records, gathered) at c.len.ensures.distinct;
      ready = rw tables at c.in_ok-reserve_moves.ensures.ready;
      placed = rw (c.in_ok-reserve_moves.ensures.kept, tables, c.entries.ensures, ap (λ h. h.entries) heading) at c.in_default-note_move.ensures.placed;
    } in
    let ready = carry-may c.args.disk.now c.args.self.now f batch can (rw (c.geometry-geometry.ensures, gathered) at c.in_default-build.ensures.whole) heading bytes in
    subst (λ (m : MountedView). IsBuilt m.drive.geometry.block batch) (sym same) ready.built_is

pub append_batch-requires-clause-may : goal.append_batch-requires-clause-may
append_batch-requires-clause-may g c =
    let tables = ap (λ m. m.tables) c.disk.view_is in
    let gathered = ap (λ v. v.gathered) c.self.view_is in
    let f = c.in-Some.destination in
    let batch = c.batch-batch.result.now in
    let heading : batch.heading ≡ (gathered_move (size_of c.args.disk.now.tables) c.args.disk.now.tables.next c.args.self.now.victim c.args.self.now.gathered).heading = ap (λ b. b.heading) c.batch-batch.ensures ∙ (rw (c.blocks-2.ensures, c.next-sequence.ensures, tables, gathered, ap (λ v. v.victim) c.self.view_is) at c.in_default-build.ensures.built.heading) in
    let bytes : batch.bytes ≡ header_block c.args.disk.now.drive.geometry.block batch.heading ++ concat (gathered_data c.args.self.now.gathered) = rw c.batch-batch.ensures (rw (c.geometry-geometry.ensures, gathered) at c.in_default-build.ensures.built.bytes) in
    let same : mounted (g.D.Device.drive c.disk.inside.device) c.reserve_moves.new.self ≡ c.args.disk.now = ap (mounted (g.D.Device.drive c.disk.inside.device)) c.in_ok-reserve_moves.ensures.kept ∙ c.disk.view_is in
    let next : c.args.disk.now.tables.next < sequence_end c.args.disk.now.drive.geometry = omega (arith, rw c.geometry-geometry.ensures at c.if-sequence-geometry.false, rw tables at c.next-sequence.ensures) in
    let can : CanCarry c.args.disk.now c.args.self.now f = record {
      sane = c.requires.sane;
      apart = rw tables at c.destination.ensures.apart;
      room = rw (c.geometry-geometry.ensures, tables) at c.in-Some.ensures.some;
      victim = omega (arith, c.self.ranges.0.1, ap (λ v. v.victim) c.self.view_is);
      next = omega (arith, next);
      below = rw gathered at (all-weaker (λ (r : LiveRecord). r.block < c.self.inside.cursor) (λ (r : LiveRecord). r.block + 1 < 2 ^ 32) c.self.inside.gathered.records (λ r lt. omega (arith, lt, c.self.ranges.1.0.1)) c.self.invariant);
      distinct = rw (c.in_default-build.ensures.records, gathered) at c.len.ensures.distinct;
      ready = rw tables at c.in_ok-reserve_moves.ensures.ready;
      placed = rw (c.in_ok-reserve_moves.ensures.kept, tables, c.entries.ensures, ap (λ h. h.entries) heading) at c.in_default-note_move.ensures.placed;
    } in
    let ready = carry-may c.args.disk.now c.args.self.now f batch can (rw (c.geometry-geometry.ensures, gathered) at c.in_default-build.ensures.whole) heading bytes in
    subst (λ (m : MountedView). MayPlace m f.zone (built_for m batch)) (sym same) ready.may

pub append_batch-requires-clause-can : goal.append_batch-requires-clause-can
append_batch-requires-clause-can g c = λ clean.
    let tables = ap (λ m. m.tables) c.disk.view_is in
    let gathered = ap (λ v. v.gathered) c.self.view_is in
    let f = c.in-Some.destination in
    let batch = c.batch-batch.result.now in
    let heading : batch.heading ≡ (gathered_move (size_of c.args.disk.now.tables) c.args.disk.now.tables.next c.args.self.now.victim c.args.self.now.gathered).heading = ap (λ b. b.heading) c.batch-batch.ensures ∙ (rw (c.blocks-2.ensures, c.next-sequence.ensures, tables, gathered, ap (λ v. v.victim) c.self.view_is) at c.in_default-build.ensures.built.heading) in
    let bytes : batch.bytes ≡ header_block c.args.disk.now.drive.geometry.block batch.heading ++ concat (gathered_data c.args.self.now.gathered) = rw c.batch-batch.ensures (rw (c.geometry-geometry.ensures, gathered) at c.in_default-build.ensures.built.bytes) in
    let same : mounted (g.D.Device.drive c.disk.inside.device) c.reserve_moves.new.self ≡ c.args.disk.now = ap (mounted (g.D.Device.drive c.disk.inside.device)) c.in_ok-reserve_moves.ensures.kept ∙ c.disk.view_is in
    let next : c.args.disk.now.tables.next < sequence_end c.args.disk.now.drive.geometry = omega (arith, rw c.geometry-geometry.ensures at c.if-sequence-geometry.false, rw tables at c.next-sequence.ensures) in
    let k : IsAtStep Move c.args.disk.now c.args.self.now → Carries c.args.disk.now c.args.self.now f batch = λ at. record { at = at; second = rw tables at c.in-Some.ensures.some.second; heading = heading; bytes = bytes } in
    let ready = carry_ready c.args.disk.now c.args.self.now f batch (k (c.requires.at (rw (← c.disk.view_is) clean))) next (rw tables at c.in_ok-reserve_moves.ensures.ready) in
    subst (λ (m : MountedView). CanPlace m f.zone (built_for m batch)) (sym same) ready.can

pub returns-in-Ok-clause-leaves : goal.returns-in-Ok-clause-leaves
returns-in-Ok-clause-leaves g c = λ clean.
    let tables = ap (λ m. m.tables) c.disk.view_is in
    let gathered = ap (λ v. v.gathered) c.self.view_is in
    let f = c.in-Some.destination in
    let batch = c.batch-batch.result.now in
    let heading : batch.heading ≡ (gathered_move (size_of c.args.disk.now.tables) c.args.disk.now.tables.next c.args.self.now.victim c.args.self.now.gathered).heading = ap (λ b. b.heading) c.batch-batch.ensures ∙ (rw (c.blocks-2.ensures, c.next-sequence.ensures, tables, gathered, ap (λ v. v.victim) c.self.view_is) at c.in_default-build.ensures.built.heading) in
    let bytes : batch.bytes ≡ header_block c.args.disk.now.drive.geometry.block batch.heading ++ concat (gathered_data c.args.self.now.gathered) = rw c.batch-batch.ensures (rw (c.geometry-geometry.ensures, gathered) at c.in_default-build.ensures.built.bytes) in
    let same : mounted (g.D.Device.drive c.disk.inside.device) c.reserve_moves.new.self ≡ c.args.disk.now = ap (mounted (g.D.Device.drive c.disk.inside.device)) c.in_ok-reserve_moves.ensures.kept ∙ c.disk.view_is in
    let next : c.args.disk.now.tables.next < sequence_end c.args.disk.now.drive.geometry = omega (arith, rw c.geometry-geometry.ensures at c.if-sequence-geometry.false, rw tables at c.next-sequence.ensures) in
    let k : IsAtStep Move c.args.disk.now c.args.self.now → Carries c.args.disk.now c.args.self.now f batch = λ at. record { at = at; second = rw tables at c.in-Some.ensures.some.second; heading = heading; bytes = bytes } in
    let at = c.requires.at (rw (← c.disk.view_is) (c.append_batch.ensures.stays.trusted clean)) in
    let note : c.note_move.new.moved.items ≡ c.args.self.now.moved ++ moved_from c.args.disk.now.tables.map.places c.args.self.now.gathered =
    c.in_default-note_move.ensures.ok
    ∙ ap (λ (es : List Entry). c.self.inside.moved.items ++ map (entry_moved c.reserve_moves.new.self.map.places) es) (c.entries.ensures ∙ ap (λ h. h.entries) heading)
    ∙ ap (λ (ms : List Moved). c.self.inside.moved.items ++ ms) (noted c.reserve_moves.new.self.map.places c.args.self.now.gathered)
    ∙ ap (λ (s : TablesView). c.self.inside.moved.items ++ moved_from s.map.places c.args.self.now.gathered) (c.in_ok-reserve_moves.ensures.kept ∙ tables)
    ∙ ap (λ (v : CleanView). v.moved ++ moved_from c.args.disk.now.tables.map.places c.args.self.now.gathered) c.self.view_is in
    let placed = subst (λ (m : MountedView). Places m c.append_batch.new.disk f.zone (built_for m batch)) same (c.in-Ok.ensures.leaves clean) in
    (carry_done c.args.disk.now c.append_batch.new.disk c.args.self.now f batch (k at) placed, rw (c.clear.ensures, note, ← c.self.view_is) refl)

pub returns-in-Err-append_batch-clause-leaves : goal.returns-in-Err-append_batch-clause-leaves
returns-in-Err-append_batch-clause-leaves g c = λ clean.
    let tables = ap (λ m. m.tables) c.disk.view_is in
    let gathered = ap (λ v. v.gathered) c.self.view_is in
    let f = c.in-Some.destination in
    let batch = c.batch-batch.result.now in
    let heading : batch.heading ≡ (gathered_move (size_of c.args.disk.now.tables) c.args.disk.now.tables.next c.args.self.now.victim c.args.self.now.gathered).heading = ap (λ b. b.heading) c.batch-batch.ensures ∙ (rw (c.blocks-2.ensures, c.next-sequence.ensures, tables, gathered, ap (λ v. v.victim) c.self.view_is) at c.in_default-build.ensures.built.heading) in
    let bytes : batch.bytes ≡ header_block c.args.disk.now.drive.geometry.block batch.heading ++ concat (gathered_data c.args.self.now.gathered) = rw c.batch-batch.ensures (rw (c.geometry-geometry.ensures, gathered) at c.in_default-build.ensures.built.bytes) in
    let same : mounted (g.D.Device.drive c.disk.inside.device) c.reserve_moves.new.self ≡ c.args.disk.now = ap (mounted (g.D.Device.drive c.disk.inside.device)) c.in_ok-reserve_moves.ensures.kept ∙ c.disk.view_is in
    let next : c.args.disk.now.tables.next < sequence_end c.args.disk.now.drive.geometry = omega (arith, rw c.geometry-geometry.ensures at c.if-sequence-geometry.false, rw tables at c.next-sequence.ensures) in
    let k : IsAtStep Move c.args.disk.now c.args.self.now → Carries c.args.disk.now c.args.self.now f batch = λ at. record { at = at; second = rw tables at c.in-Some.ensures.some.second; heading = heading; bytes = bytes } in
    let at = c.requires.at (rw (← c.disk.view_is) (c.append_batch.ensures.stays.trusted clean)) in
    let leaves = c.in-Err-append_batch.ensures.leaves clean in
    let left = subst (λ (m : MountedView). BatchLeaves m c.append_batch.new.disk f.zone (built_for m batch) (Err (fault_halt c.in-Err-append_batch.fault))) same leaves.1 in
    (rw (c.command_fault.ensures.halt leaves.0) (carry_failed c.args.disk.now c.append_batch.new.disk c.args.self.now f batch (fault_halt c.in-Err-append_batch.fault) (k at) left), rw (c.in_default-build.ensures.records, ← c.self.view_is, c.truncate.ensures.items, c.in_default-note_move.ensures.ok, take_at c.self.inside.moved.items (map (entry_moved c.reserve_moves.new.self.map.places) c.entries.result.now) c.len-before.result (omega (arith, c.len-before.ensures, c.self.inside.moved.ok))) refl)

pub returns-in-Ok-clause-stays : goal.returns-in-Ok-clause-stays
returns-in-Ok-clause-stays g c =
    let f = c.in-Some.destination in
    let batch = c.batch-batch.result.now in
    let same : mounted (g.D.Device.drive c.disk.inside.device) c.reserve_moves.new.self ≡ c.args.disk.now = ap (mounted (g.D.Device.drive c.disk.inside.device)) c.in_ok-reserve_moves.ensures.kept ∙ c.disk.view_is in
    let after = subst (λ (m : MountedView). TablesAfter m.drive.geometry m.tables f.zone (built_for m batch) c.append_batch.result c.append_batch.new.disk.tables) same c.append_batch.ensures.tables in
    let shape = subst (λ (m : MountedView). KeepsShape m.drive c.append_batch.new.disk.drive) same c.append_batch.ensures.stays in
    let built = ap (λ b. b.heading.size) c.batch-batch.ensures ∙ ap (λ h. h.size) c.in_default-build.ensures.built.heading in
    let says : batch.heading.size ≡ Some (size_of c.args.disk.now.tables) = built ∙ ap (λ n. Some n) (c.blocks-2.ensures ∙ ap (λ m. size_of m.tables) c.disk.view_is) in
    stays-appended c.args.disk.now c.append_batch.new.disk f.zone (built_for c.args.disk.now batch) c.append_batch.result says shape c.append_batch.ensures.sane after

pub returns-in-Err-append_batch-clause-stays : goal.returns-in-Err-append_batch-clause-stays
returns-in-Err-append_batch-clause-stays g c =
    let f = c.in-Some.destination in
    let batch = c.batch-batch.result.now in
    let same : mounted (g.D.Device.drive c.disk.inside.device) c.reserve_moves.new.self ≡ c.args.disk.now = ap (mounted (g.D.Device.drive c.disk.inside.device)) c.in_ok-reserve_moves.ensures.kept ∙ c.disk.view_is in
    let after = subst (λ (m : MountedView). TablesAfter m.drive.geometry m.tables f.zone (built_for m batch) c.append_batch.result c.append_batch.new.disk.tables) same c.append_batch.ensures.tables in
    let shape = subst (λ (m : MountedView). KeepsShape m.drive c.append_batch.new.disk.drive) same c.append_batch.ensures.stays in
    let built = ap (λ b. b.heading.size) c.batch-batch.ensures ∙ ap (λ h. h.size) c.in_default-build.ensures.built.heading in
    let says : batch.heading.size ≡ Some (size_of c.args.disk.now.tables) = built ∙ ap (λ n. Some n) (c.blocks-2.ensures ∙ ap (λ m. size_of m.tables) c.disk.view_is) in
    stays-appended c.args.disk.now c.append_batch.new.disk f.zone (built_for c.args.disk.now batch) c.append_batch.result says shape c.append_batch.ensures.sane after

pub returns-in-Ok-clause-completed : goal.returns-in-Ok-clause-completed
returns-in-Ok-clause-completed g c =
    let same : mounted (g.D.Device.drive c.disk.inside.device) c.reserve_moves.new.self ≡ c.args.disk.now = ap (mounted (g.D.Device.drive c.disk.inside.device)) c.in_ok-reserve_moves.ensures.kept ∙ c.disk.view_is in
    let done = subst (λ (m : MountedView). c.append_batch.new.disk.drive.completed ≤ m.drive.completed + closes_before m c.in-Some.destination.zone + 1) same c.append_batch.ensures.completed in
    omega (arith, done, few-closes c.args.disk.now c.in-Some.destination.zone)
