-- After each step, by its answer.
use Rattle.std.proofs.Common.{◌≡◌, ◌⊎◌, ℕ, ◌*◌, ◌/◌, ◌<◌, List, [], ◌∷◌, ◌++◌, length, Some, Ok, Err, refl, sym, ap, subst, ◌∙◌, inl, inr, arith}
use Rattle.std.specs.List.{concat}
use Rattle.std.proofs.lemmas.List.{length-set}
use Rattle.zone_states.specs.declared.geometry.Geometry.{Geometry}
use Rattle.drive_port.specs.Calls.{CanReset, IsNotRefused, Obeys, ResetContents, ResetGives, ResetKeeps, ResetLeaves, ResetZone}
use Rattle.drive_port.specs.Contents.{Content, SameContents, is_usable}
use Rattle.drive_port.specs.Drive.{DriveState, IsLawful}
use Rattle.drive_port.specs.declared.calls.PortFault.{PortFault}
use Rattle.drive_port.specs.declared.calls.PortFault.TheVariants as port
use Rattle.drive_port.specs.declared.device.Halt.{Halt}
use Rattle.drive_port.specs.declared.device.Halt.TheVariants as halt
use Rattle.drive_port.proofs.ClosingLaws.{content_at-contents}
use Rattle.batch_log.specs.Log.{Batch}
use Rattle.zone_choice.specs.declared.roles.Filling.{Filling}
use Rattle.zone_choice.specs.declared.roles.Second.TheVariants.{Destination}
use Rattle.zone_choice.specs.Agreement.{Agrees, MountedView, mounted, mounted_array}
use Rattle.drive_array.specs.ZoneLogs.{drive_logs, log_at, encoded, encoded_array}
use Rattle.zone_choice.specs.Builder.{BuilderView, IsBuilt}
use Rattle.zone_choice.specs.Changes.{BatchLeaves, CanPlace, IsHalt, Places, StopsInside, built_for, fault_halt, sequence_end}
use Rattle.drive_array.specs.Records.{append_log}
use Rattle.drive_array.specs.Reserve.{batch_most}
use Rattle.zone_choice.specs.Roles.{clean_ended}
use Rattle.drive_array.specs.Sizes.{array_of}
use Rattle.drive_array.specs.Spare.{HasSpare}
use Rattle.zone_choice.specs.Tables.{TablesView, size_of}
use Rattle.zone_choice.proofs.AgreementLaws.{StaysFailed, size-encoded}
use Rattle.zone_choice.proofs.AloneLaws.{failed-keeps, memory-keeps, stops-tables}
use Rattle.zone_choice.proofs.ChangeLaws.{keeps-halt, keeps-same}
use Rattle.zone_choice.proofs.CommandLaws.{filling-in_range, start-below, zone-start}
use Rattle.zone_choice.proofs.OpenLaws.{OpensNone, reset-opens}
use Rattle.drive_array.proofs.ReserveLaws.{positive-most}
use Rattle.zone_cleaner.specs.declared.step.Step.TheVariants.{Move, Reset}
use Rattle.zone_cleaner.specs.Clean.{CleanView, IsClean}
use Rattle.zone_cleaner.specs.LiveRecords.{gathered_data, gathered_move}
use Rattle.zone_cleaner.specs.Turns.{EmptiesVictim, IsAtStep, MovesRecords, OnlyMoves, StepFails, StopsClean, clean_fault}
use Rattle.zone_cleaner.proofs.OnlyLaws.{only-more, only-same, only-without}
use Rattle.zone_cleaner.proofs.CarryLaws.{told_same}
use Rattle.zone_cleaner.proofs.CleanLaws.{clean_spare}
use Rattle.zone_cleaner.proofs.HistoryLaws.{moves-more, moves_have_spare}
use Rattle.zone_cleaner.proofs.ResetLaws.{reset_gives}
use Rattle.zone_cleaner.proofs.SealedLaws.{sealed-apart, sealed-holds, sealed-in_range, second-filling, zone-logs}
use Rattle.zone_cleaner.proofs.StepLaws.{MoveDue, ResetDue, move-due}
use Rattle.zone_cleaner.proofs.BuildLaws.{MoveBuilt, data-whole, move-can, move-heading, move_built}
use Rattle.zone_cleaner.proofs.CloseLaws.{failed-closes, memory-closes, stops-close}
use Rattle.zone_cleaner.proofs.FailLaws.{stops_kept}
use Rattle.zone_cleaner.proofs.MovedLaws.{move_gives, mounted-encoded}
use Rattle.batch_log.specs.Header.{header_block}
use Rattle.logical_map.specs.Places.{ArePlacedReady}

-- ---- a Move stops

logs-array : (drive : DriveState) (n : ℕ) (g : Geometry) (logs : List (List Batch)) → drive_logs drive ≡ logs → drive.geometry ≡ g → array_of g.block n logs ≡ encoded drive n
unfolding encoded_array
logs-array drive n g logs e same = rw (← e, ← same) refl

carry_stops : (before after : MountedView) (c : CleanView) → Agrees before → (is : IsClean before c) → StopsInside before after is.destination.zone (gathered_move (size_of before.tables) before.tables.next c.victim c.gathered) → StopsClean before after
carry_stops before after c agrees is stops =
    let kept = stops-tables before after is.destination.zone (gathered_move (size_of before.tables) before.tables.next c.victim c.gathered) stops in
    record {
      stopped = stops.stopped;
      moves = only;
      mountable = rw kept.given (stops.mountable spare);
      array = ap (encoded after.drive) kept.given ∙ array;
      tables = stops-close before after is.destination.zone (gathered_move (size_of before.tables) before.tables.next c.victim c.gathered) stops;
      geometry = stops.geometry;
      refused = stops.refused;
      durable = stops.durable;
      appended = stops.appended;
      unfailing = stops.unfailing;
    }
  where
    b : Batch
    b = gathered_move (size_of before.tables) before.tables.next c.victim c.gathered

    zone : ℕ
    zone = is.destination.zone

    in_range : zone < length (drive_logs before.drive)
    in_range = omega (arith, filling-in_range before.drive before.tables zone agrees (second-filling before.tables.roles (Destination is.destination) is.second), zone-logs before.drive)

    only : OnlyMoves (drive_logs before.drive) (drive_logs after.drive)
    only = elim stops.left as (λ _. OnlyMoves (drive_logs before.drive) (drive_logs after.drive)) [
      | inl same ↦ only-same (drive_logs before.drive) (drive_logs after.drive) same.logs_are
      | inr more ↦ only-more (drive_logs before.drive) (drive_logs after.drive) zone b in_range refl more.logs_are
    ]

    array : encoded after.drive before.tables.given ≡ mounted_array before
    array = elim stops.left as (λ _. encoded after.drive before.tables.given ≡ mounted_array before) [
      | inl same ↦ same.array_is
      | inr more ↦ more.array_is ∙ told_same before c agrees is
    ]

    spare : HasSpare before.drive.geometry.block before.tables.given (drive_logs after.drive)
    spare = elim stops.left as (λ _. HasSpare before.drive.geometry.block before.tables.given (drive_logs after.drive)) [
      | inl same ↦ rw same.logs_are (clean_spare before c agrees is)
      | inr more ↦ rw more.logs_are (more-spare more.logs_are)
    ]
      where
        more-spare : drive_logs after.drive ≡ append_log (drive_logs before.drive) is.destination.zone b → HasSpare before.drive.geometry.block before.tables.given (append_log (drive_logs before.drive) is.destination.zone b)
        more-spare logs_are =
            let f = is.destination in
            let logs = drive_logs before.drive in
            let g = before.drive.geometry in
            let filling = second-filling before.tables.roles (Destination f) is.second in
            let apart = sealed-apart before.tables.roles c.victim f.zone is.victim filling in
            let below : f.zone < length logs = omega (arith, filling-in_range before.drive before.tables f.zone agrees filling, zone-logs before.drive) in
            let below' : c.victim < length logs = omega (arith, sealed-in_range before c.victim agrees is.victim, zone-logs before.drive) in
            let there = logs-array after.drive before.tables.given g (append_log logs f.zone b) logs_are stops.geometry in
            let moved = moves-more g.block before.tables.given c.victim f.zone (size_of before.tables) logs b below' below apart (record {
              move = (refl, refl);
              has = refl;
              grows = omega (arith, size-encoded before agrees);
              greatest = agrees.sound.numbers;
              some = (sealed-holds before c.victim agrees is.victim).has_batch;
              same = there ∙ array ∙ sym (mounted-encoded before);
            }) is.moves in
            moves_have_spare g.block before.tables.given c.victim f.zone (append_log logs f.zone b) apart (omega (arith, below, length-set logs f.zone (log_at logs f.zone ++ b ∷ []))) moved

-- a Move that was not appended
carry_fails : (before after : MountedView) (c : CleanView) (fault : Halt) → Agrees before → (is : IsClean before c) → BatchLeaves before after is.destination.zone (gathered_move (size_of before.tables) before.tables.next c.victim c.gathered) (Err fault) → StepFails Move (clean_fault fault) before after
carry_fails before after c halt.Memory agrees is leaves =
    let b = gathered_move (size_of before.tables) before.tables.next c.victim c.gathered in
    (memory-keeps before after is.destination.zone b agrees leaves, memory-closes before after is.destination.zone b leaves)
carry_fails before after c halt.Failed agrees is leaves =
    let b = gathered_move (size_of before.tables) before.tables.next c.victim c.gathered in
    (failed-keeps before after is.destination.zone b leaves, failed-closes before after is.destination.zone b leaves, leaves.0)
carry_fails before after c halt.Stopped agrees is leaves = carry_stops before after c agrees is leaves

-- ---- the Reset

can_reset : (drive : DriveState) (tables : TablesView) (c : CleanView) (start : ℕ) → Agrees (mounted drive tables) → IsClean (mounted drive tables) c → start ≡ c.victim * drive.geometry.size → CanReset drive start
can_reset drive tables c start agrees is start-is =
    let size = drive.geometry.size in
    let at = zone-start c.victim size agrees.geometry.size.0 in
    let index : start / size ≡ c.victim = rw start-is at.0 in
    let content = content_at-contents drive.zones c.victim in
    let lt = sealed-in_range (mounted drive tables) c.victim agrees is.victim in
    let usage = (sealed-holds (mounted drive tables) c.victim agrees is.victim).usage in
    record {
      aligned = rw start-is at.1;
      in_range = rw (start-is, ← agrees.lawful.count) (start-below c.victim (length drive.zones) size agrees.geometry.size.0 lt);
      usable = rw index (ap (λ (c : Content). is_usable c.usage) (sym content) ∙ ap is_usable usage);
    }

-- a Reset that was not done
pub record ResetFails (old new : DriveState) (tables : TablesView) (fault : PortFault) : Type 0 where
  pub halt : IsHalt fault
  pub fails : StepFails Reset (clean_fault (fault_halt fault)) (mounted old tables) (mounted new tables)

-- a Reset of the victim that was not done, and what it leaves
pub reset_fails : (old new : DriveState) (tables : TablesView) (c : CleanView) (start : ℕ) (fault : PortFault) → Agrees (mounted old tables) → IsClean (mounted old tables) c → ResetDue (mounted old tables) c → start ≡ c.victim * old.geometry.size
    → ResetGives {V = Unit {0}} old start (Err fault) new → ResetKeeps {V = Unit {0}} old start (Err fault) new → ResetLeaves {V = Unit {0}} old start (Err fault) new → Obeys {V = Unit {0}} old (Err fault) new → (CanReset old start → IsNotRefused {V = Unit {0}} (Err fault)) → ResetFails old new tables fault
reset_fails old new tables c start (port.Refused status) agrees is due start-is gives kept leaves obeys passed = absurd (passed (can_reset old tables c start agrees is start-is))
reset_fails old new tables c start port.Memory agrees is due start-is gives kept leaves obeys passed = record { halt = tt; fails = (keeps-halt old new tables gives.1.1.1 agrees, inl refl) }
reset_fails old new tables c start port.Failed agrees is due start-is gives kept leaves obeys passed =
    let failed = obeys.fails refl in
    let opens : OpensNone old.zones new.zones = reset-opens {V = Unit {0}} old new start (Err port.Failed) leaves in
    record { halt = tt; fails = (keeps-same old new tables agrees kept opens obeys.lawful obeys.unfailing failed.1.refused obeys.durable failed.1.appended, inl refl, failed.0) }
reset_fails old new tables c start port.Stopped agrees is due start-is gives kept leaves obeys passed = record { halt = tt; fails = by kept }
  where
    opens : OpensNone old.zones new.zones
    opens = reset-opens {V = Unit {0}} old new start (Err port.Stopped) leaves

    by : SameContents old new ⊎ ResetContents old new start → StopsClean (mounted old tables) (mounted new tables)
    by (inl same) = stops_kept (mounted old tables) (mounted new tables) c agrees is (keeps-same old new tables agrees same opens obeys.lawful obeys.unfailing (obeys.counts refl).refused obeys.durable (obeys.counts refl).appended) refl (obeys.stops refl)
    by (inr done) =
        let index = (zone-start c.victim old.geometry.size agrees.geometry.size.0).0 in
        let after = reset_gives old new tables c agrees is due obeys.geometry obeys.lawful obeys.unfailing (rw (start-is, index) at done.contents) opens in
        record {
          stopped = obeys.stops refl;
          moves = only-without (drive_logs old) (drive_logs new) c.victim (omega (arith, sealed-in_range (mounted old tables) c.victim agrees is.victim, zone-logs old)) after.logs;
          mountable = after.mountable;
          array = after.array;
          tables = inl refl;
          geometry = obeys.geometry;
          refused = (obeys.counts refl).refused;
          durable = obeys.durable;
          appended = (obeys.counts refl).appended;
          unfailing = obeys.unfailing;
        }

-- and one that was
pub reset_done : (old new : DriveState) (tables after : TablesView) (c : CleanView) (start : ℕ) → Agrees (mounted old tables) → IsClean (mounted old tables) c → ResetDue (mounted old tables) c → start ≡ c.victim * old.geometry.size
    → ResetZone old new start → ResetLeaves {V = Unit {0}} old start (Ok tt) new → IsLawful new → StaysFailed old new → new.durable ≡ old.durable → after ≡ record tables { roles = clean_ended tables.roles c.victim } → EmptiesVictim (mounted old tables) (mounted new after) c.victim
reset_done old new tables after c start agrees is due start-is done leaves lawful failed durable after-is =
    let index = (zone-start c.victim old.geometry.size agrees.geometry.size.0).0 in
    let opens : OpensNone old.zones new.zones = reset-opens {V = Unit {0}} old new start (Ok tt) leaves in
    let gives = reset_gives old new tables c agrees is due done.geometry lawful failed (rw (start-is, index) at done.contents) opens in
    rw after-is (record {
      agrees = gives.agrees;
      logs = gives.logs;
      array = gives.array;
      places = refl;
      next = refl;
      unreadable = refl;
      given = refl;
      roles = refl;
      geometry = done.geometry;
      refused = done.counts.refused;
      durable = durable;
      appended = omega (arith, done.counts.appended);
      unfailing = failed;
    })

-- ---- the Move

-- a destination is one zone
pub destination-is : (a b : Filling) → Some (Destination a) ≡ Some (Destination b) → a ≡ b
destination-is a b e = cc

-- the Move is built, and the drive takes it
pub record CarryReady (disk : MountedView) (zone : ℕ) (builder : BuilderView) : Type 0 where
  pub built_is : IsBuilt disk.drive.geometry.block builder
  pub can : CanPlace disk zone (built_for disk builder)

-- what is known before it is sent
pub record Carries (disk : MountedView) (c : CleanView) (f : Filling) (builder : BuilderView) : Type 0 where
  pub at : IsAtStep Move disk c
  pub second : disk.tables.roles.second ≡ Some (Destination f)
  pub heading : builder.heading ≡ (gathered_move (size_of disk.tables) disk.tables.next c.victim c.gathered).heading
  pub bytes : builder.bytes ≡ header_block disk.drive.geometry.block builder.heading ++ concat (gathered_data c.gathered)

carries-due : (disk : MountedView) (c : CleanView) (f : Filling) (builder : BuilderView) → Carries disk c f builder → MoveDue disk (batch_most disk.drive.geometry) c
carries-due disk c f builder k = move-due disk (batch_most disk.drive.geometry) c k.at.due (positive-most disk.drive.geometry k.at.agrees.geometry) k.at.clean_is.gathers.few

carries-built : (disk : MountedView) (c : CleanView) (f : Filling) (builder : BuilderView) → Carries disk c f builder → MoveBuilt disk c builder
carries-built disk c f builder k = move_built disk c builder k.at.agrees.geometry (move-heading disk c k.at.agrees k.at.clean_is) (data-whole disk c k.at.agrees k.at.clean_is) k.heading k.bytes

carries-to : (disk : MountedView) (c : CleanView) (f : Filling) (builder : BuilderView) → (k : Carries disk c f builder) → k.at.clean_is.destination ≡ f
carries-to disk c f builder k = destination-is k.at.clean_is.destination f (sym k.at.clean_is.second ∙ k.second)

-- the Move can be appended
pub carry_ready : (disk : MountedView) (c : CleanView) (f : Filling) (builder : BuilderView) → Carries disk c f builder → disk.tables.next < sequence_end disk.drive.geometry → ArePlacedReady disk.tables.map → CarryReady disk f.zone builder
carry_ready disk c f builder k next ready =
    let made = carries-built disk c f builder k in
    let can = move-can disk c k.at.agrees k.at.clean_is (carries-due disk c f builder k) next ready in
    record { built_is = made.is; can = rw (made.batch, ← carries-to disk c f builder k) can }

-- it was, and the records are moved
pub carry_done : (before after : MountedView) (c : CleanView) (f : Filling) (builder : BuilderView) → Carries before c f builder → Places before after f.zone (built_for before builder) → MovesRecords before c after
carry_done before after c f builder k placed =
    let made = carries-built before c f builder k in
    (move_gives before after c k.at.agrees k.at.clean_is (carries-due before c f builder k) (rw (carries-to before c f builder k, ← made.batch) placed)).done

-- or it was not
pub carry_failed : (before after : MountedView) (c : CleanView) (f : Filling) (builder : BuilderView) (fault : Halt) → Carries before c f builder → BatchLeaves before after f.zone (built_for before builder) (Err fault) → StepFails Move (clean_fault fault) before after
carry_failed before after c f builder fault k leaves =
    let made = carries-built before c f builder k in
    let b = gathered_move (size_of before.tables) before.tables.next c.victim c.gathered in
    let P : Filling → Batch → Type 0 = λ x batch. BatchLeaves before after x.zone batch (Err fault) in
    carry_fails before after c fault k.at.agrees k.at.clean_is (subst (λ x. P x b) (sym (carries-to before c f builder k)) (subst (P f) made.batch leaves))
