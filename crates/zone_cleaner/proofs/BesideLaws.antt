-- A batch of the host keeps what holds between two turns, whether a clean runs or not; and the drive can be mounted after a stop inside it.
use Rattle.std.proofs.Common.{◌≡◌, ◌≢◌, ℕ, ◌+◌, ◌<◌, ◌≤◌, Bool, true, false, cond, eqb, ltb, [], ◌∷◌, ◌++◌, length, Option, Some, None, Ok, Err, refl, sym, inl, inr, arith}
use Rattle.drive_port.specs.declared.device.Halt.{Halt}
use Rattle.drive_port.specs.declared.device.Halt.TheVariants as halt
use Rattle.std.specs.Option.{option_map}
use Rattle.std.proofs.lemmas.Bool.{ne_eqb}
use Rattle.std.proofs.lemmas.List.{length-set}
use Rattle.zone_states.specs.declared.geometry.Geometry.{Geometry}
use Rattle.batch_log.specs.Log.{Batch, batch_size}
use Rattle.zone_choice.specs.declared.roles.Filling.{Filling}
use Rattle.zone_choice.specs.declared.roles.Second.{Second}
use Rattle.zone_choice.specs.declared.roles.Second.TheVariants.{Destination, Next}
use Rattle.zone_choice.specs.Agreement.{MountedView}
use Rattle.drive_array.specs.ZoneLogs.{drive_logs, log_at}
use Rattle.zone_choice.specs.Changes.{BatchLeaves, CanPlace, KeepsArray, Places, StopsInside, close_count, closes_before, closes_beside, roles_alone}
use Rattle.drive_array.specs.Records.{append_log}
use Rattle.drive_array.specs.Mountable.{IsMountable}
use Rattle.drive_array.specs.Reserve.{batch_most}
use Rattle.zone_choice.specs.Roles.{RolesView, Differ, closed_beside, closed_unless, grown, second_with, wrote, open_beside}
use Rattle.drive_array.specs.Spare.{HasSpare}
use Rattle.zone_choice.proofs.AgreementLaws.{empty-spare_after, sound-weaker}
use Rattle.zone_choice.proofs.AloneLaws.{alone-empty, failed-keeps, memory-keeps, stops-tables}
use Rattle.zone_choice.proofs.CommandLaws.{filling-in_range}
use Rattle.zone_cleaner.specs.Clean.{CleanView, HasNoDestination, forgotten, turns_left}
use Rattle.zone_cleaner.specs.Host.{HostLeaves}
use Rattle.zone_cleaner.specs.Start.{AgreesWithClean}
use Rattle.zone_cleaner.proofs.CloseLaws.{failed-closes, memory-closes}
use Rattle.zone_cleaner.proofs.CleanLaws.{turns_kept}
use Rattle.zone_cleaner.proofs.HistoryLaws.{moves-beside, moves_have_spare}
use Rattle.zone_cleaner.proofs.HostLaws.{host_gives, next-batch}
use Rattle.zone_cleaner.proofs.SealedLaws.{sealed-apart, second-filling, zone-logs}
use Rattle.zone_cleaner.proofs.NextLaws.{cleaned_kept}
use Rattle.zone_cleaner.proofs.TurnLaws.{cleans-spare}

-- ---- the second zone

-- the zone beside another, as a batch of the other one leaves it
same-beside : (geometry : Geometry) (roles : RolesView) (zone blocks : ℕ) (f : Filling) → f.zone ≢ zone → (b : Bool) → (grown zone blocks (cond b f (closed_unless zone f))).written ≡ f.written
same-beside geometry roles zone blocks f ne b = by b
  where
    other : eqb f.zone zone ≡ false
    other = ne_eqb f.zone zone ne

    by : (b : Bool) → (grown zone blocks (cond b f (closed_unless zone f))).written ≡ f.written
    by true = rw other refl
    by false = rw (other, other) refl

alone-beside : (geometry : Geometry) (roles : RolesView) (host : Filling) (blocks : ℕ) → Differ (Some host) roles.second → HasNoDestination geometry.capacity roles.second → HasNoDestination geometry.capacity (wrote (roles_alone geometry roles host.zone) host.zone blocks).second
alone-beside geometry roles host blocks differ alone = whole (ltb 1 geometry.open)
  where
    zone : ℕ
    zone = host.zone

    by : (b : Bool) (second : Option Second) → Differ (Some host) second → HasNoDestination geometry.capacity second → HasNoDestination geometry.capacity (option_map (second_with (grown zone blocks)) (cond b second (option_map (second_with (closed_unless zone)) second)))
    by true None differ alone = tt
    by false None differ alone = tt
    by b (Some (Destination f)) differ alone = absurd alone
    by true (Some (Next f)) differ alone = omega (arith, alone, same-beside geometry roles zone blocks f (λ same. differ (sym same)) true)
    by false (Some (Next f)) differ alone = omega (arith, alone, same-beside geometry roles zone blocks f (λ same. differ (sym same)) false)

    whole : (b : Bool) → HasNoDestination geometry.capacity (wrote (cond b roles (closed_beside roles zone)) zone blocks).second
    whole true = by true roles.second differ alone
    whole false = by false roles.second differ alone

host-apart : (host : Option Filling) (second : Option Second) (h f : Filling) → Differ host second → host ≡ Some h → second ≡ Some (Destination f) → h.zone ≢ f.zone
host-apart host second h f differ host-is second-is = let here = rw (host-is, second-is) at differ in here

-- ---- a batch of the host

host_cleaned : (before after : MountedView) (clean : Option CleanView) (host : Filling) (b : Batch) → AgreesWithClean before clean → before.tables.roles.host ≡ Some host → CanPlace before host.zone b → Places before after host.zone b → AgreesWithClean after (option_map (forgotten b.heading.entries) clean)
host_cleaned before after None host b is host-is can done =
    (done.agrees, (rw (done.roles, alone-empty before.drive.geometry before.tables.roles host.zone) is.1.0, rw (done.roles, done.geometry) (alone-beside before.drive.geometry before.tables.roles host (batch_size b) (rw host-is at is.0.roles.apart.differ) is.1.1)))
host_cleaned before after (Some c) host b is host-is can done =
    let apart = host-apart before.tables.roles.host before.tables.roles.second host is.1.destination is.0.roles.apart.differ host-is is.1.second in
    (done.agrees, (host_gives before after c host.zone b is.1 can apart done).clean)

-- as many turns are left as before, or fewer
host_turns : (before after : MountedView) (clean : Option CleanView) (host : Filling) (b : Batch) → AgreesWithClean before clean → before.tables.roles.host ≡ Some host → CanPlace before host.zone b → Places before after host.zone b
    → turns_left (batch_most before.drive.geometry) after.tables (option_map (forgotten b.heading.entries) clean) ≤ turns_left (batch_most before.drive.geometry) before.tables clean
host_turns before after None host b is host-is can done = omega arith
host_turns before after (Some c) host b is host-is can done =
    let apart = host-apart before.tables.roles.host before.tables.roles.second host is.1.destination is.0.roles.apart.differ host-is is.1.second in
    (host_gives before after c host.zone b is.1 can apart done).turns

-- ---- a stop inside its Append

spare-beside : (before : MountedView) (clean : Option CleanView) (host : Filling) (b : Batch) → AgreesWithClean before clean → before.tables.roles.host ≡ Some host → CanPlace before host.zone b → HasSpare before.drive.geometry.block before.tables.given (append_log (drive_logs before.drive) host.zone b)
spare-beside before None host b is host-is can = empty-spare_after before.drive before.tables host.zone b is.0 is.1.0 can.filling
spare-beside before (Some c) host b is host-is can =
    let f = is.1.destination in
    let logs = drive_logs before.drive in
    let filling = second-filling before.tables.roles (Destination f) is.1.second in
    let ne = host-apart before.tables.roles.host before.tables.roles.second host f is.0.roles.apart.differ host-is is.1.second in
    let lt : host.zone < length logs = omega (arith, filling-in_range before.drive before.tables host.zone can.agrees can.filling, zone-logs before.drive) in
    let below : f.zone < length logs = omega (arith, filling-in_range before.drive before.tables f.zone is.0 filling, zone-logs before.drive) in
    let away : host.zone ≢ c.victim = λ same. sealed-apart before.tables.roles c.victim host.zone is.1.victim can.filling (sym same) in
    let moves = moves-beside before.drive.geometry.block (before.tables.next + 1) before.tables.given host.zone c.victim f.zone _ logs b lt away ne
    (sound-weaker before.tables.next (before.tables.next + 1) before.tables.given logs (omega arith) can.agrees.sound) (next-batch before host.zone b can) is.1.moves in
    moves_have_spare before.drive.geometry.block before.tables.given c.victim f.zone (append_log logs host.zone b) (sealed-apart before.tables.roles c.victim f.zone is.1.victim filling)
    (omega (arith, below, length-set logs host.zone (log_at logs host.zone ++ b ∷ []))) moves

host_stops : (before after : MountedView) (clean : Option CleanView) (host : Filling) (b : Batch) → AgreesWithClean before clean → before.tables.roles.host ≡ Some host → CanPlace before host.zone b → StopsInside before after host.zone b → IsMountable after.drive after.tables.given
host_stops before after clean host b is host-is can stops =
    let spare : HasSpare before.drive.geometry.block before.tables.given (drive_logs after.drive) = elim stops.left [
      | inl same ↦ rw same.logs_are (cleans-spare before clean is)
      | inr more ↦ rw more.logs_are (spare-beside before clean host b is host-is can)
    ] in
    rw (stops-tables before after host.zone b stops).given (stops.mountable spare)

-- ---- what it leaves, by its answer

-- a drive that keeps its array leaves as many turns, or fewer
pub kept_turns : (before after : MountedView) (clean : Option CleanView) (most : ℕ) → AgreesWithClean before clean → KeepsArray before after → turns_left most after.tables clean ≤ turns_left most before.tables clean
kept_turns before after None most is kept = omega arith
kept_turns before after (Some c) most is kept = omega (arith, turns_kept before after c most is.0 kept is.1)

-- the blocks that the batch names are its entries'
pub host-leaves : (before after : MountedView) (clean : Option CleanView) (host : Filling) (b : Batch) → AgreesWithClean before clean → before.tables.roles.host ≡ Some host → CanPlace before host.zone b → Places before after host.zone b
    → HostLeaves before clean host.zone b (Ok tt) after (option_map (forgotten b.heading.entries) clean)
host-leaves before after clean host b is host-is can done = (done, refl, record { cleaned = host_cleaned before after clean host b is host-is can done; turns = host_turns before after clean host b is host-is can done })

-- a batch of the host that was not appended
pub host-halts : (before after : MountedView) (clean : Option CleanView) (host : Filling) (b : Batch) (fault : Halt) → AgreesWithClean before clean → before.tables.roles.host ≡ Some host → CanPlace before host.zone b → BatchLeaves before after host.zone b (Err fault) → HostLeaves before clean host.zone b (Err fault) after clean
host-halts before after clean host b halt.Memory is host-is can leaves =
    let kept = memory-keeps before after host.zone b is.0 leaves in
    (kept, refl, record { cleaned = cleaned_kept before after clean is kept; turns = kept_turns before after clean (batch_most before.drive.geometry) is kept }, memory-closes before after host.zone b leaves)
host-halts before after clean host b halt.Failed is host-is can leaves =
    let kept = failed-keeps before after host.zone b leaves in
    (kept, refl, record { cleaned = cleaned_kept before after clean is kept; turns = kept_turns before after clean (batch_most before.drive.geometry) is kept }, failed-closes before after host.zone b leaves, leaves.0)
host-halts before after clean host b halt.Stopped is host-is can leaves = (leaves, refl, host_stops before after clean host b is host-is can leaves)

-- one Close at most comes before it
pub few-closes : (disk : MountedView) (zone : ℕ) → closes_before disk zone ≤ 1
few-closes disk zone = by (ltb 1 disk.drive.geometry.open)
  where
    one : (b : Bool) → cond {A = ℕ} b 0 1 ≤ 1
    one true = omega arith
    one false = omega arith

    count : (other : Option Filling) → close_count disk.drive.geometry.capacity other ≤ 1
    count None = omega arith
    count (Some filling) = one (eqb filling.written disk.drive.geometry.capacity)

    by : (b : Bool) → cond {A = ℕ} b 0 (closes_beside disk zone) ≤ 1
    by true = omega arith
    by false = count (open_beside disk.tables.roles zone)
