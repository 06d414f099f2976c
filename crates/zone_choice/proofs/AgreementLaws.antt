-- How the agreement of tables and drive lasts, command by command.
use Rattle.std.proofs.Common.{◌≡◌, ◌≢◌, ℕ, zero, suc, ◌+◌, ◌-◌, ◌<◌, ◌≤◌, ◌^◌, Bool, true, false, not, ◌&&◌, cond, List, [], ◌∷◌, ◌++◌, length, set, get_or, replicate, Option, Some, None, refl, sym, ap, ◌∙◌, inl, inr, arith, append-nil}
use Rattle.std.specs.Prelude.{IsTrue}
use Rattle.std.specs.List.{AllByRecursion, count_by}
use Rattle.std.proofs.lemmas.Bool.{cases_lt, le-ltb}
use Rattle.std.proofs.lemmas.List.{get_or-set_other, length-append, length-map, length-replicate, length-set}
use Rattle.std.proofs.lemmas.List.Sums.{sum_by-cons, sum_by-set}
use Rattle.zone_states.specs.declared.geometry.Geometry.{Geometry}
use Rattle.drive_port.specs.Drive.{DriveState, IsLawful}
use Rattle.drive_port.specs.Contents.{Content, SameContents, full, Appends, Finishes, content_at, contents, emptied, is_writable, nothing, is_full}
use Rattle.batch_log.specs.declared.header.Entry.{Entry}
use Rattle.batch_log.specs.Log.{Batch, IsBatch, batch_blocks, batch_size, has_tail, log_of, log_size, zero_block}
use Rattle.logical_map.specs.Places.{MapView}
use Rattle.logical_map.specs.declared.place.Place.{Place}
use Rattle.logical_map.specs.declared.place.Place.TheVariants as places
use Rattle.zone_choice.specs.declared.roles.Filling.{Filling}
use Rattle.zone_choice.specs.declared.roles.Second.{Second}
use Rattle.drive_array.specs.Records.{Record, append_log, batch_records, new_records, over, place, shown}
use Rattle.zone_choice.specs.Changes.{size_with, tables_closed}
use Rattle.drive_array.specs.Repair.{HasAtMost}
use Rattle.drive_array.specs.Reserve.{FitsReserve, batch_most}
use Rattle.drive_array.specs.Sizes.{encoded_size, extended, map_of}
use Rattle.drive_array.specs.Spare.{HasSpare}
use Rattle.drive_array.specs.ZoneLogs.{HasLog, drive_logs, has_torn_tail, log_at, sequences, encoded, encoded_array, zone_log, zone_logs, zone_tails}
use Rattle.drive_array.specs.Mountable.{AreSound, IsMountable, is_partly_written}
use Rattle.zone_choice.specs.Roles.{RolesView, closed_unless, empty_count, fillings, is_empty_at, is_filling_at, taken, wrote}
use Rattle.zone_choice.specs.declared.unreadable.Unreadable.{Unreadable}
use Rattle.zone_choice.specs.Tables.{SameButReady, TablesView, size_of}
use Rattle.zone_choice.specs.Agreement.{Agrees, HoldsFilling, MountedView, RolesAgree, TellsOpen, mounted}
use Rattle.drive_array.specs.Laws.{IsNext, WritesRecords}
use Rattle.drive_array.proofs.AllLaws.{all-at, all-weaker}
use Rattle.zone_choice.proofs.ContentLaws.{all-usable, count-fillings, few-write, filling-log, roles-close, roles-finish, roles-seal, roles-settled, roles-take, roles-write, settled-whole}
use Rattle.drive_array.proofs.MountLaws.{NoTails, untorn_mounts}
use Rattle.zone_choice.proofs.OpenLaws.{OpensNone, OpensOnly, ShutBeside, all-tells_closed, all-tells_grown, emptied-shut, tells-kept}
use Rattle.zone_choice.proofs.RolesLaws.{all-filling, all-with, closed-zone, few-fillings, filling-occupied, roles_with, second_list}
use Rattle.drive_array.proofs.SizeLaws.{append_writes, next_is_last, told-length}
use Rattle.drive_array.proofs.ZoneLogLaws.{append_logs, finish_logs, full-untorn, log_at-zone, readable-not_full, tail-at, zone_log-read}
use Rattle.drive_array.proofs.RepairingMounts.{emptied-nothing}

-- tables by their parts
abbrev pub tables_with : MapView → RolesView → ℕ → ℕ → List Unreadable → TablesView
tables_with places roles next given lost = record { map = places; roles = roles; next = next; given = given; unreadable = lost }

-- a drive that failed at a command counts as such from then on
abbrev pub StaysFailed : DriveState → DriveState → Type 0
StaysFailed old new = IsTrue new.unfailing → IsTrue old.unfailing

-- a greater limit
pub sound-weaker : (limit more n : ℕ) (logs : List (List Batch)) → limit ≤ more → AreSound limit n logs → AreSound more n logs
sound-weaker limit more n logs le sound = record {
  numbers = all-weaker (λ s. s < limit) (λ s. s < more) (sequences logs) (λ s lt. omega arith) sound.numbers;
  inside = sound.inside;
  distinct = sound.distinct;
}

-- the tables have a place for each block of the array
pub size-encoded : (disk : MountedView) → Agrees disk → size_of disk.tables ≡ encoded_size disk.tables.given (drive_logs disk.drive)
size-encoded disk agrees = ap length agrees.places ∙ told-length (place disk.drive.geometry.size) disk.tables.given (drive_logs disk.drive)

-- ---- commands that change no content

-- tables agree with a drive that has the same contents, and opened no zone
pub agrees_same : (old new : DriveState) (tables : TablesView) → SameContents old new → OpensNone old.zones new.zones → IsLawful new → StaysFailed old new → Agrees (mounted old tables) → Agrees (mounted new tables)
agrees_same old new tables same opens lawful failed agrees = record {
  geometry = rw same.geometry agrees.geometry;
  reserve = rw same.geometry agrees.reserve;
  lawful = lawful;
  logs = rw (same.geometry, same.contents) agrees.logs;
  sound = rw (same.geometry, same.contents) agrees.sound;
  next = agrees.next;
  zones = rw same.geometry agrees.zones;
  zone_size = rw same.geometry agrees.zone_size;
  places = rw (same.geometry, same.contents) agrees.places;
  roles = rw (same.geometry, same.contents) agrees.roles;
  few = rw (same.geometry, same.contents) agrees.few;
  open_zones = tells-kept old.zones new.zones (fillings tables.roles) opens agrees.open_zones;
  readable = λ none. agrees.readable (failed none);
}

-- and the tables say that the zones beside one are closed, as they are
pub agrees_close : (old new : DriveState) (tables : TablesView) (zone : ℕ) → SameContents old new → OpensNone old.zones new.zones → IsLawful new → StaysFailed old new → AllByRecursion (ShutBeside new.zones zone) (fillings tables.roles) → Agrees (mounted old tables) → Agrees (mounted new (tables_closed tables zone))
agrees_close old new tables zone same opens lawful failed shut agrees =
    let now = agrees_same old new tables same opens lawful failed agrees in
    let logs = drive_logs new in
    record {
      geometry = now.geometry;
      reserve = now.reserve;
      lawful = now.lawful;
      logs = now.logs;
      sound = now.sound;
      next = now.next;
      zones = now.zones;
      zone_size = now.zone_size;
      places = now.places;
      roles = roles-close new.geometry.capacity (contents new.zones) logs tables.roles zone now.roles;
      few = all-with (λ z. AllByRecursion (HasAtMost (batch_most new.geometry)) (log_at logs z)) (closed_unless zone) (closed-zone zone) tables.roles now.few;
      open_zones = all-tells_closed new.zones zone tables.roles now.open_zones shut;
      readable = now.readable;
    }

-- such a drive spells the same array
pub encoded_same : (old new : DriveState) (n : ℕ) → SameContents old new → encoded new n ≡ encoded old n
encoded_same old new n same = rw (same.geometry, same.contents) refl

-- ---- no Append was torn

-- a zone whose blocks are as many as its batches take
untorn-counted : (geometry : Geometry) (content : Content) → log_size (zone_log geometry content) ≡ length content.blocks → has_torn_tail content ≡ false
unfolding has_torn_tail
untorn-counted geometry content size = by (is_full content.usage) refl
  where
    by : (b : Bool) → is_full content.usage ≡ b → (not (is_full content.usage) && has_tail content.blocks) ≡ false
    by true e = rw e refl
    by false e =
        let read : zone_log geometry content ≡ log_of content.blocks = zone_log-read geometry content content.blocks (readable-not_full geometry content e) in
        rw e (le-ltb _ _ (omega (arith, size, ap log_size read)))

tail-past : (zones : List Content) (zone : ℕ) → length zones ≤ zone → get_or (zone_tails zones) zone false ≡ false
tail-past [] zone past = refl
tail-past (z ∷ zs) zero past = absurd (omega arith)
tail-past (z ∷ zs) (suc zone) past = tail-past zs zone (omega arith)

emptied-untorn : has_torn_tail emptied ≡ false
unfolding has_torn_tail
emptied-untorn = refl

-- no zone has a torn tail where the roles agree
pub zone-untorn : (geometry : Geometry) (zones : List Content) (roles : RolesView) (zone : ℕ) → RolesAgree geometry.capacity zones (zone_logs geometry zones) roles → zone < length zones → has_torn_tail (content_at zones zone) ≡ false
zone-untorn geometry zones roles zone agree lt = by (is_filling_at roles zone) refl (is_empty_at roles zone) refl
  where
    filled : (f : Filling) → HoldsFilling geometry.capacity zones (zone_logs geometry zones) f → has_torn_tail (content_at zones f.zone) ≡ false
    filled f is = untorn-counted geometry (content_at zones f.zone) (ap log_size (sym (log_at-zone geometry zones f.zone)) ∙ is.batches ∙ sym is.written)

    by : (b : Bool) → is_filling_at roles zone ≡ b → (c : Bool) → is_empty_at roles zone ≡ c → has_torn_tail (content_at zones zone) ≡ false
    by true e c e' =
        all-filling (λ z. has_torn_tail (content_at zones z) ≡ false) (fillings roles) zone
        (all-weaker (HoldsFilling geometry.capacity zones (zone_logs geometry zones)) (λ f. has_torn_tail (content_at zones f.zone) ≡ false) (fillings roles) filled agree.fillings_are) e
    by false e true e' = rw (agree.empty zone e') emptied-untorn
    by false e false e' = full-untorn (content_at zones zone) (rw (agree.sealed_are zone lt e' e).usage refl)

-- so there are none
pub no_tails : (geometry : Geometry) (zones : List Content) (roles : RolesView) → RolesAgree geometry.capacity zones (zone_logs geometry zones) roles → NoTails zones
no_tails geometry zones roles agree zone = elim (cases_lt zone (length zones)) as (λ _. get_or (zone_tails zones) zone false ≡ false) [
  | inl lt ↦ tail-at zones zone lt ∙ zone-untorn geometry zones roles zone agree lt
  | inr past ↦ tail-past zones zone past
]

-- ---- a batch is appended to a zone

-- what an Append of the next batch has to be
pub record AppendsBatch (old new : DriveState) (tables : TablesView) (zone : ℕ) (b : Batch) : Type 0 where
  pub batch : IsBatch old.geometry.block b
  pub size : b.heading.size ≡ Some (size_with tables b)
  pub grows : size_of tables ≤ size_with tables b
  pub reserve : FitsReserve old.geometry (size_with tables b)
  pub sequence : b.heading.sequence ≡ tables.next
  pub room : tables.next < 2 ^ 63
  pub blocks : AllByRecursion (λ (e : Entry). e.block < size_with tables b) b.heading.entries
  pub few : HasAtMost (batch_most old.geometry) b
  pub geometry : new.geometry ≡ old.geometry
  pub lawful : IsLawful new
  pub appends : Appends (contents old.zones) (contents new.zones) old.geometry.capacity zone (batch_blocks old.geometry.block b)
  pub opens : OpensOnly zone old.zones new.zones
  pub failed : StaysFailed old new

-- how many blocks of a zone are written
abbrev pub written_in : DriveState → ℕ → ℕ
written_in drive zone = length (content_at (contents drive.zones) zone).blocks

-- the batch is the next one
is_next : (old new : DriveState) (tables : TablesView) (zone : ℕ) (b : Batch) → Agrees (mounted old tables) → AppendsBatch old new tables zone b → IsNext (tables.next + 1) tables.given (drive_logs old) (size_with tables b) b
is_next old new tables zone b agrees a = record {
  has = a.size;
  grows = omega (arith, size-encoded (mounted old tables) agrees, a.grows);
  inside = a.blocks;
  number = omega (arith, a.sequence);
  greatest = rw a.sequence agrees.sound.numbers;
}

-- the logs, and what they encode and where
record AfterAppend (old new : DriveState) (tables : TablesView) (zone : ℕ) (b : Batch) : Type 0 where
  logs : drive_logs new ≡ append_log (drive_logs old) zone b
  all_logs : AllByRecursion (HasLog new.geometry) (contents new.zones)
  in_range : zone < length (drive_logs old)
  brings : new_records (drive_logs old) zone b ≡ batch_records zone (written_in old zone) b
  writes : WritesRecords old.geometry.block old.geometry.size (tables.next + 1) tables.given (drive_logs old) zone (size_with tables b) b

after_append : (old new : DriveState) (tables : TablesView) (zone : ℕ) (b : Batch) → Agrees (mounted old tables) → is_filling_at tables.roles zone ≡ true → AppendsBatch old new tables zone b → AfterAppend old new tables zone b
after_append old new tables zone b agrees filling a =
    let g = old.geometry in
    let zones = contents old.zones in
    let was = content_at zones zone in
    let small = agrees.lawful.geometry.block in
    let has : HasLog g was = all-at (HasLog g) zones zone nothing agrees.logs a.appends.in_range in
    let untorn = zone-untorn g zones tables.roles zone agrees.roles a.appends.in_range in
    let grown = append_logs g zones (contents new.zones) zone b small a.batch has untorn a.appends in
    let size = filling-log g.capacity zones (drive_logs old) tables.roles zone agrees.roles filling in
    let range : zone < length (drive_logs old) = omega (arith, a.appends.in_range, length-map zones (zone_log g)) in
    let sound = sound-weaker tables.next (tables.next + 1) tables.given (drive_logs old) (omega arith) agrees.sound in
    record {
      logs = rw a.geometry grown.logs;
      all_logs = rw a.geometry (grown.all_logs agrees.logs);
      in_range = range;
      brings = ap (λ (offset : ℕ). batch_records zone offset b) size;
      writes = append_writes g.block g.size (tables.next + 1) tables.given zone (size_with tables b) (drive_logs old) b range sound (next_is_last (tables.next + 1) tables.given zone (size_with tables b) (drive_logs old) b range (is_next old new tables zone b agrees a));
    }

-- a list that has the length already
pub extended-same : {X : Type 0} (x : X) (size : ℕ) (xs : List X) → length xs ≡ size → extended x size xs ≡ xs
extended-same {X} x size xs e = let none : size - length xs ≡ 0 = omega (arith, e) in rw none (append-nil xs)

-- a list that is filled up to a length has it
pub length-extended : {X : Type 0} (x : X) (size : ℕ) (xs : List X) → length xs ≤ size → length (extended x size xs) ≡ size
length-extended {X} x size xs le = omega (arith, le, length-append xs (replicate (size - length xs) x), length-replicate (size - length xs) x)

length-over : {X : Type 0} (f : Option Record → X) (rs : List Record) (xs : List X) → length (over f rs xs) ≡ length xs
length-over f [] xs = refl
length-over f (r ∷ rs) xs = length-set (over f rs xs) r.block (f (Some r)) ∙ length-over f rs xs

-- the tables after it
abbrev pub tables_after : TablesView → MapView → ℕ → Batch → TablesView
tables_after tables map zone b = record { map = map; roles = wrote tables.roles zone (batch_size b); next = tables.next + 1; given = tables.given; unreadable = tables.unreadable }

-- the map has the batch's size and its places
pub record IsPlaced (old : DriveState) (tables : TablesView) (map : MapView) (zone : ℕ) (b : Batch) : Type 0 where
  pub places : map.places ≡ over (place old.geometry.size) (batch_records zone (written_in old zone) b) (extended places.None (size_with tables b) tables.map.places)
  pub zones : map.zones ≡ tables.map.zones
  pub zone_size : map.zone_size ≡ tables.map.zone_size

-- there are as many places as the disk has blocks
pub size-placed : (old : DriveState) (tables : TablesView) (map : MapView) (zone : ℕ) (b : Batch) → size_of tables ≤ size_with tables b → IsPlaced old tables map zone b → length map.places ≡ size_with tables b
size-placed old tables map zone b grows placed =
    let all = extended places.None (size_with tables b) tables.map.places in
    ap length placed.places ∙ length-over (place old.geometry.size) (batch_records zone (written_in old zone) b) all ∙ length-extended places.None (size_with tables b) tables.map.places grows

-- tables and drive agree after the Append of a batch
pub agrees_append : (old new : DriveState) (tables : TablesView) (map : MapView) (zone : ℕ) (b : Batch) → Agrees (mounted old tables) → is_filling_at tables.roles zone ≡ true
    → AppendsBatch old new tables zone b → IsPlaced old tables map zone b → Agrees (mounted new (tables_after tables map zone b))
agrees_append old new tables map zone b agrees filling a placed =
    let g = old.geometry in
    let logs = drive_logs old in
    let after = after_append old new tables zone b agrees filling a in
    let long = size-placed old tables map zone b a.grows placed in
    let taken : length (batch_blocks g.block b) ≡ batch_size b = omega (arith, a.batch.body) in
    let mapped : map.places ≡ map_of g.size tables.given (append_log logs zone b) =
    placed.places ∙ ap (λ (all : List Place). over (place g.size) (batch_records zone (written_in old zone) b) (extended places.None (size_with tables b) all)) agrees.places ∙ rw (← after.brings) (sym after.writes.map_is) in
    record {
      geometry = rw a.geometry agrees.geometry;
      reserve = rw (a.geometry, long) a.reserve;
      lawful = a.lawful;
      logs = after.all_logs;
      sound = rw after.logs after.writes.sound;
      next = omega (arith, a.room);
      zones = rw a.geometry (placed.zones ∙ agrees.zones);
      zone_size = rw a.geometry (placed.zone_size ∙ agrees.zone_size);
      places = rw (after.logs, a.geometry) mapped;
      roles = rw (after.logs, a.geometry) (roles-write g.capacity (contents old.zones) (contents new.zones) logs tables.roles zone (batch_blocks g.block b) b agrees.roles filling a.appends taken after.in_range);
      few = rw (after.logs, a.geometry) (few-write (batch_most g) logs tables.roles zone b after.in_range a.few agrees.few);
      open_zones = all-tells_grown old.zones new.zones zone (batch_size b) tables.roles a.opens agrees.open_zones;
      readable = λ none. agrees.readable (a.failed none);
    }

-- and the drive has that batch more
pub encoded_append : (old new : DriveState) (tables : TablesView) (zone : ℕ) (b : Batch) → Agrees (mounted old tables) → is_filling_at tables.roles zone ≡ true → AppendsBatch old new tables zone b
    → (drive_logs new ≡ append_log (drive_logs old) zone b)
    × (encoded new tables.given ≡ over (shown old.geometry.block) (batch_records zone (written_in old zone) b) (extended (zero_block old.geometry.block) (size_with tables b) (encoded old tables.given)))
unfolding encoded_array
encoded_append old new tables zone b agrees filling a =
    let after = after_append old new tables zone b agrees filling a in
    (after.logs, rw (after.logs, a.geometry, ← after.brings) after.writes.array_is)

-- ---- the host zone is finished or sealed, and an empty zone is taken

-- after a Finish of the host zone
pub agrees_finish : (old new : DriveState) (map : MapView) (empties : List Bool) (host : Filling) (second : Option Second) (next given : ℕ) (lost : List Unreadable)
    → Agrees (mounted old (tables_with map (roles_with empties (Some host) second) next given lost)) → 1 ≤ host.written → host.written < old.geometry.capacity
    → new.geometry ≡ old.geometry → IsLawful new → StaysFailed old new → Finishes (contents old.zones) (contents new.zones) host.zone → OpensNone old.zones new.zones
    → Agrees (mounted new (tables_with map (roles_with empties None second) next given lost)) × (drive_logs new ≡ drive_logs old) × (encoded new given ≡ encoded old given)
unfolding encoded_array
agrees_finish old new map empties host second next given lost agrees some room geometry lawful failed finishes opens =
    let g = old.geometry in
    let zones = contents old.zones in
    let has : HasLog g (content_at zones host.zone) = all-at (HasLog g) zones host.zone nothing agrees.logs finishes.in_range in
    let writable = host-writable old map empties host second next given lost agrees room in
    let untorn = zone-untorn g zones (roles_with empties (Some host) second) host.zone agrees.roles finishes.in_range in
    let kept = finish_logs g zones (contents new.zones) host.zone agrees.lawful.geometry.block has writable untorn finishes in
    let logs : drive_logs new ≡ drive_logs old = rw geometry kept.logs in (
      record {
        geometry = rw geometry agrees.geometry;
        reserve = rw geometry agrees.reserve;
        lawful = lawful;
        logs = rw geometry (kept.all_logs agrees.logs);
        sound = rw logs agrees.sound;
        next = agrees.next;
        zones = rw geometry agrees.zones;
        zone_size = rw geometry agrees.zone_size;
        places = rw (logs, geometry) agrees.places;
        roles = rw (logs, geometry) (roles-finish g.capacity zones (contents new.zones) (drive_logs old) empties host second agrees.roles finishes some);
        few = rw (logs, geometry) agrees.few.1;
        open_zones = tells-kept old.zones new.zones (second_list second) opens agrees.open_zones.1;
        readable = λ none. agrees.readable (failed none);
      },
      logs,
      rw (logs, geometry) refl,
    )
  where
    host-writable : (old : DriveState) (map : MapView) (empties : List Bool) (host : Filling) (second : Option Second) (next given : ℕ) (lost : List Unreadable) → Agrees (mounted old (tables_with map (roles_with empties (Some host) second) next given lost)) → host.written < old.geometry.capacity
        → is_writable (content_at (contents old.zones) host.zone).usage ≡ true
    host-writable old map empties host second next given lost agrees room =
        elim agrees.roles.fillings_are.0.usage as (λ _. is_writable (content_at (contents old.zones) host.zone).usage ≡ true) [ inl w ↦ w | inr h ↦ absurd (omega (arith, h.1, room)) ]

-- other roles, of which the same can be said
pub agrees-roles : (drive : DriveState) (tables : TablesView) (roles : RolesView) → Agrees (mounted drive tables)
    → RolesAgree drive.geometry.capacity (contents drive.zones) (drive_logs drive) roles
    → AllByRecursion (λ (filling : Filling). AllByRecursion (HasAtMost (batch_most drive.geometry)) (log_at (drive_logs drive) filling.zone)) (fillings roles)
    → AllByRecursion (TellsOpen drive.zones) (fillings roles) → Agrees (mounted drive (record tables { roles = roles }))
agrees-roles drive tables roles agrees there few open_zones = record {
  geometry = agrees.geometry;
  reserve = agrees.reserve;
  lawful = agrees.lawful;
  logs = agrees.logs;
  sound = agrees.sound;
  next = agrees.next;
  zones = agrees.zones;
  zone_size = agrees.zone_size;
  places = agrees.places;
  roles = there;
  few = few;
  open_zones = open_zones;
  readable = agrees.readable;
}

-- after the host zone is full
pub agrees_seal : (drive : DriveState) (map : MapView) (empties : List Bool) (host : Filling) (second : Option Second) (next given : ℕ) (lost : List Unreadable)
    → Agrees (mounted drive (tables_with map (roles_with empties (Some host) second) next given lost)) → 1 ≤ host.written → (content_at (contents drive.zones) host.zone).usage ≡ full
    → Agrees (mounted drive (tables_with map (roles_with empties None second) next given lost))
agrees_seal drive map empties host second next given lost agrees some is_full =
    agrees-roles drive (tables_with map (roles_with empties (Some host) second) next given lost) (roles_with empties None second) agrees
    (roles-seal drive.geometry.capacity (contents drive.zones) (drive_logs drive) empties host second agrees.roles is_full some) agrees.few.1 agrees.open_zones.1

-- an emptied zone has no batch
pub vacant-emptied : (geometry : Geometry) (zones : List Content) (zone : ℕ) → content_at zones zone ≡ emptied → log_at (zone_logs geometry zones) zone ≡ []
vacant-emptied geometry zones zone e = log_at-zone geometry zones zone ∙ ap (zone_log geometry) e ∙ emptied-nothing geometry

-- after an empty zone is taken
pub agrees_take : (drive : DriveState) (map : MapView) (empties : List Bool) (second : Option Second) (zone next given : ℕ) (lost : List Unreadable)
    → Agrees (mounted drive (tables_with map (roles_with empties None second) next given lost)) → zone < length empties → get_or empties zone false ≡ true
    → Agrees (mounted drive (tables_with map (taken (roles_with empties None second) zone) next given lost))
agrees_take drive map empties second zone next given lost agrees lt here =
    let there = agrees.roles.empty zone here in
    let none = vacant-emptied drive.geometry (contents drive.zones) zone there in
    agrees-roles drive (tables_with map (roles_with empties None second) next given lost) (taken (roles_with empties None second) zone) agrees
    (roles-take drive.geometry.capacity (contents drive.zones) (drive_logs drive) empties second zone agrees.roles lt here none) (rw none tt, agrees.few) ((λ no. emptied-shut drive.zones zone there), agrees.open_zones)

-- of two empty zones one is left
pub spare-taken : (roles : RolesView) (zone : ℕ) → zone < length roles.empty → get_or roles.empty zone false ≡ true → 2 ≤ empty_count roles → 1 ≤ empty_count (taken roles zone)
spare-taken roles zone lt here two =
    let fewer : count_by (λ (b : Bool). b) (set roles.empty zone false) + 1 ≡ count_by (λ (b : Bool). b) roles.empty + 0 = rw here at (sum_by-set (λ (b : Bool). cond {A = ℕ} b 1 0) roles.empty zone false false lt) in
    omega (arith, fewer, two)

-- the same tables, with more room
pub agrees_room : (drive : DriveState) (old new : TablesView) → SameButReady old new → Agrees (mounted drive old) → Agrees (mounted drive new)
agrees_room drive old new room agrees = record {
  geometry = agrees.geometry;
  reserve = rw room.places agrees.reserve;
  lawful = agrees.lawful;
  logs = agrees.logs;
  sound = rw (room.next, room.given) agrees.sound;
  next = rw room.next agrees.next;
  zones = room.zones ∙ agrees.zones;
  zone_size = room.zone_size ∙ agrees.zone_size;
  places = rw (room.places, room.given) agrees.places;
  roles = rw room.roles agrees.roles;
  few = rw room.roles agrees.few;
  open_zones = rw room.roles agrees.open_zones;
  readable = rw room.unreadable agrees.readable;
}

-- ---- a disk's drive can be mounted again at any moment

few_partial : (capacity : ℕ) (zones : List Content) (logs : List (List Batch)) (roles : RolesView) → RolesAgree capacity zones logs roles → count_by is_partly_written zones ≤ 2
few_partial capacity zones logs roles agree =
    omega (arith, few-fillings roles, count-fillings is_partly_written zones (fillings roles) nothing refl (λ k lt out. settled-whole (content_at zones k) (roles-settled capacity zones logs roles k agree lt out)))

-- some element of a list that is counted
record Counted (xs : List Bool) : Type 0 where
  place : ℕ
  below : place < length xs
  here : get_or xs place false ≡ true

counted-some : (xs : List Bool) → 1 ≤ count_by (λ b. b) xs → Counted xs
counted-some [] some = absurd (omega arith)
counted-some (true ∷ xs) some = record { place = 0; below = omega arith; here = refl }
counted-some (false ∷ xs) some =
    let rest = counted-some xs (omega (arith, sum_by-cons (λ (b : Bool). cond {A = ℕ} b 1 0) false xs)) in
    record { place = suc rest.place; below = omega (arith, rest.below); here = rest.here }

-- a zone is vacant
pub empty-spare : (drive : DriveState) (tables : TablesView) → Agrees (mounted drive tables) → 1 ≤ empty_count tables.roles → HasSpare drive.geometry.block tables.given (drive_logs drive)
empty-spare drive tables agrees some =
    let zones = contents drive.zones in
    let spare = counted-some tables.roles.empty some in
    record {
      zone = spare.place;
      in_range = omega (arith, spare.below, agrees.roles.count, length-map zones (zone_log drive.geometry));
      spare = inl (vacant-emptied drive.geometry zones spare.place (agrees.roles.empty spare.place spare.here));
    }

-- after an Append to a zone that is being filled too
pub empty-spare_after : (drive : DriveState) (tables : TablesView) (zone : ℕ) (b : Batch) → Agrees (mounted drive tables) → 1 ≤ empty_count tables.roles → is_filling_at tables.roles zone ≡ true
    → HasSpare drive.geometry.block tables.given (append_log (drive_logs drive) zone b)
empty-spare_after drive tables zone b agrees some here =
    let zones = contents drive.zones in
    let logs = drive_logs drive in
    let spare = counted-some tables.roles.empty some in
    let occupied = filling-occupied tables.roles zone agrees.roles.apart here in
    let other : spare.place ≢ zone = λ same. (let no = occupied.1 in let yes = rw same at spare.here in absurd (cc)) in
    let vacant = vacant-emptied drive.geometry zones spare.place (agrees.roles.empty spare.place spare.here) in
    record {
      zone = spare.place;
      in_range = omega (arith, spare.below, agrees.roles.count, length-map zones (zone_log drive.geometry), length-set logs zone (log_at logs zone ++ b ∷ []));
      spare = inl (get_or-set_other logs zone spare.place (log_at logs zone ++ b ∷ []) [] other ∙ vacant);
    }

-- a drive that agrees, and has a spare zone, can be mounted
pub agrees_mountable : (drive : DriveState) (tables : TablesView) → Agrees (mounted drive tables) → HasSpare drive.geometry.block tables.given (drive_logs drive) → IsMountable drive tables.given
agrees_mountable drive tables agrees spare =
    let g = drive.geometry in
    let zones = contents drive.zones in
    record {
      lawful = agrees.lawful;
      holds = untorn_mounts g zones tables.given (no_tails g zones tables.roles agrees.roles) (record {
        usable = all-usable g.capacity zones (drive_logs drive) tables.roles agrees.roles;
        few_partial = few_partial g.capacity zones (drive_logs drive) tables.roles agrees.roles;
        logs = agrees.logs;
        sound = sound-weaker tables.next (2 ^ 63) tables.given (drive_logs drive) agrees.next agrees.sound;
        reserve = rw (← size-encoded (mounted drive tables) agrees) agrees.reserve;
        spare = spare;
      });
    }
