-- A batch of a write is built and appended, and what a stop inside its Append leaves.
use Rattle.std.proofs.Common.{◌≡◌, ◌⊎◌, ℕ, ◌+◌, ◌-◌, ◌*◌, ◌<◌, ◌≤◌, ◌^◌, Bool, true, false, List, ◌++◌, map, get_or, length, take, drop, Option, Some, None, Result, Ok, Err, refl, sym, ap, subst, ◌∙◌, inl, inr, arith}
use Rattle.std.proofs.Math.ListN.{get_or-map}
use Rattle.std.proofs.lemmas.List.{drop_at, length-map, length-take}
use Rattle.zone_states.specs.declared.geometry.Geometry.{Geometry}
use Rattle.zone_states.specs.Geometry.{IsInRange}
use Rattle.zone_states.specs.Zone.{cut_blocks}
use Rattle.drive_port.specs.Contents.{content_of, contents}
use Rattle.drive_port.specs.Drive.{DriveState}
use Rattle.drive_port.specs.declared.device.Halt.{Halt}
use Rattle.drive_port.specs.declared.device.Halt.TheVariants as halt
use Rattle.batch_log.specs.Header.{Heading, IsHeading, IsSize, entry_room, header_block}
use Rattle.batch_log.specs.Log.{Batch, data_count, log_size}
use Rattle.batch_log.proofs.HeaderLaws.{header_length}
use Rattle.batch_log.proofs.LentLaws.{data-few}
use Rattle.logical_map.specs.Places.{MapView}
use Rattle.logical_map.specs.declared.place.Place.{Place}
use Rattle.logical_map.specs.declared.place.Place.TheVariants as places
use Rattle.zone_choice.specs.declared.roles.Filling.{Filling}
use Rattle.zone_choice.specs.Agreement.{Agrees, MountedView, mounted, mounted_array}
use Rattle.drive_array.specs.ZoneLogs.{drive_logs, log_at, encoded, zone_log}
use Rattle.zone_choice.specs.Builder.{BuilderView, IsBuilt, built, entries_from}
use Rattle.zone_choice.specs.Changes.{CanPlace, KeepsArray, Places, StopsInside, next_address, size_with, told_over}
use Rattle.drive_array.specs.Reserve.{FitsReserve, batch_most}
use Rattle.zone_choice.specs.Roles.{RolesView}
use Rattle.drive_array.specs.Records.{append_log}
use Rattle.drive_array.specs.Sizes.{encoded_size, extended, greatest, larger, size_or}
use Rattle.drive_array.specs.Mountable.{IsMountable}
use Rattle.zone_choice.specs.Tables.{AreReserved, SameButReady, TablesView, size_of}
use Rattle.zone_choice.proofs.AgreementLaws.{extended-same, size-encoded}
use Rattle.drive_array.proofs.WholeLaws.{length-encoded}
use Rattle.zone_choice.proofs.AloneLaws.{stops-tables}
use Rattle.zone_choice.proofs.ChangeLaws.{keeps-room, large-block}
use Rattle.drive_array.proofs.ReserveLaws.{positive-most}
use Rattle.zone_choice.proofs.CommandLaws.{filling-in_range}
use Rattle.drive_array.proofs.SizeLaws.{greatest-append_log}
use Rattle.zone_cleaner.specs.Clean.{CleanView}
use Rattle.zone_cleaner.specs.Host.{HostLeaves}
use Rattle.zone_cleaner.specs.Start.{AgreesWithClean, KeepsByCleaning}
use Rattle.zone_cleaner.specs.Clean.{trims}
use Rattle.zone_cleaner.proofs.NextLaws.{cleaning_kept}
use Rattle.zone_cleaner.proofs.TurnLaws.{cleans_mountable, keeps-more}
use Rattle.zone_translator.specs.declared.write.Rest.{Rest}
use Rattle.zone_translator.specs.Batches.{CanWrite, IsBatchCount, IsCut, IsNextBatch, IsRoom, KeepsCut, KeepsCutTo, LogsAreCut, WritesRest, batch_count, bytes_of, next_heading, host_heading, is_trim, rest_blocks}
use Rattle.zone_translator.specs.declared.fault.DiskFault.{DiskFault}
use Rattle.zone_translator.specs.declared.fault.DiskFault.TheVariants.{OutOfRange, OutOfMemory, Stopped, Spent, Unmounted, Smaller, Reserve, Damaged, Failed}
use Rattle.zone_translator.specs.Changes.{IsCause, Keeps, Names, RoomLeaves, StopKeeps, WriteLeaves, WritesBlocks, disk_fault}
use Rattle.zone_translator.specs.Flat.{IsFront, replaced}
use Rattle.zone_translator.specs.Cleaning.{KeepsCleaning}
use Rattle.zone_translator.proofs.CleaningLaws.{StaysClean, array-stays, cleaning-stays, stays-join}
use Rattle.zone_translator.proofs.BatchLaws.{data_count-entries, data_count-trims, entries-below, entries-ready, host-heading, host_batch, length-entries, names-placed}
use Rattle.zone_translator.proofs.CutLaws.{cut-more, cut-next, cut-only}
use Rattle.zone_translator.proofs.ContentLaws.{length-blocks, length-content, tells-content}
use Rattle.zone_translator.proofs.FlatLaws.{replaced-none}
use Rattle.zone_translator.proofs.RoomLaws.{filling-host, host-filled, keeps-serving, room-stops}

-- ---- what is built can be appended

-- the batch that was built
pub record IsBuiltBatch (block size sequence : ℕ) (trim : Bool) (first count : ℕ) (body : List ℕ) (builder : BuilderView) : Type 0 where
  pub built_is : IsBuilt block builder
  pub says : IsHeading block builder.heading
  pub batch_is : built block builder ≡ host_batch size sequence trim first count (cut_blocks block (data_count (entries_from trim first count)) body)

-- the batch that was built has these entries and this body
pub built-batch : (block size sequence : ℕ) (trim : Bool) (first count : ℕ) (body : List ℕ) (builder : BuilderView) → 32 ≤ block → IsSize size → count ≤ entry_room block → sequence < 2 ^ 64 → first + count ≤ 2 ^ 63 → length body ≡ data_count (entries_from trim first count) * block
    → builder.heading ≡ host_heading size sequence trim first count → builder.bytes ≡ header_block block (host_heading size sequence trim first count) ++ body → IsBuiltBatch block size sequence trim first count body builder
built-batch block size sequence trim first count body builder large is_size room short le long heading-is bytes-are =
    let says = host-heading block size sequence trim first count is_size room short le in
    let heading = host_heading size sequence trim first count in
    let rest : drop block builder.bytes ≡ body = ap (drop block) bytes-are ∙ drop_at (header_block block heading) body block (header_length block heading large says) in
    record {
      built_is = record {
        header = rw (heading-is, rest) bytes-are;
        data_length = rw (heading-is, rest) long;
      };
      says = rw heading-is says;
      batch_is = rw (heading-is, rest) refl;
    }

pub few-entries : (g : Geometry) (count : ℕ) → count ≤ batch_most g → (count ≤ entry_room g.block) × (count ≤ g.transfer - 1)
few-entries g count le = (omega arith, omega arith)

-- how many blocks a batch takes
pub record TakesCount (g : Geometry) (host : Filling) (left : ℕ) (trim : Bool) (count : ℕ) : Type 0 where
  pub some : 1 ≤ count
  pub few : count ≤ left
  pub most : count ≤ batch_most g
  pub room : host.written + 1 + data_count (entries_from trim 0 count) ≤ g.capacity

-- a batch takes one block at least, and no more than are left
pub count-takes : (g : Geometry) (host : Filling) (left : ℕ) (trim : Bool) → IsInRange g → host.written + 2 ≤ g.capacity → 1 ≤ left → TakesCount g host left trim (batch_count g host left trim)
count-takes g host left true range free some =
    let most = positive-most g range in
    record { some = omega (arith, most, some); few = omega arith; most = omega arith; room = omega (arith, free, data_count-trims 0 (batch_count g host left true)) }
count-takes g host left false range free some =
    let most = positive-most g range in
    record { some = omega (arith, most, some, free); few = omega arith; most = omega arith; room = omega (arith, free, data_count-entries 0 (batch_count g host left false)) }

-- and how many it says that it took
pub batch-counted : (g h : Geometry) (host : Filling) (left : ℕ) (trim : Bool) (count : ℕ) → h ≡ g → IsInRange h → host.written + 2 ≤ h.capacity → 1 ≤ left → count ≡ batch_count h host left trim → (1 ≤ count) × (count ≤ left) × IsBatchCount g trim left count
batch-counted g h host left true count same range free some is =
    let takes : TakesCount h host left true count = rw is (count-takes h host left true range free some) in
    (takes.some, takes.few, rw (← same) is)
batch-counted g h host left false count same range free some is =
    let takes : TakesCount h host left false count = rw is (count-takes h host left false range free some) in
    (takes.some, takes.few, tt)

pub data_count-anywhere : (trim : Bool) (first other count : ℕ) → data_count (entries_from trim first count) ≡ data_count (entries_from trim other count)
data_count-anywhere true first other count = data_count-trims first count ∙ sym (data_count-trims other count)
data_count-anywhere false first other count = data_count-entries first count ∙ sym (data_count-entries other count)

-- a batch that was built can be appended to the host zone
pub can_place : (old : DriveState) (tables : TablesView) (host : Filling) (trim : Bool) (first count : ℕ) (body : List (List ℕ)) → Agrees (mounted old tables) → IsRoom (mounted old tables) host → first + count ≤ size_of tables → count ≤ batch_most old.geometry
    → host.written + 1 + data_count (entries_from trim first count) ≤ old.geometry.capacity → (size : ℕ) → size_of tables ≤ size → FitsReserve old.geometry size → AreReserved tables.map first count
    → IsHeading old.geometry.block (host_heading size tables.next trim first count) → CanPlace (mounted old tables) host.zone (host_batch size tables.next trim first count body)
can_place old tables host trim first count body agrees room in_range most free size grows reserve reserved says =
    let here = host-filled old tables host room.host_is agrees in
    let few_data = data-few (entries_from trim first count) in
    let long = length-entries trim first count in
    record {
      agrees = agrees;
      filling = filling-host tables.roles host room.host_is;
      heading = says;
      size = refl;
      grows = grows;
      reserve = reserve;
      few = omega (arith, few_data, long, (few-entries old.geometry count most).1, agrees.geometry.transfer);
      few_entries = omega (arith, long, most);
      room = omega (arith, here.written, free);
      sequence = refl;
      next = room.next;
      in_range = entries-below trim first count (size_of tables) in_range;
      ready = entries-ready tables.map trim first count reserved;
    }

-- the next batch of a write
pub next-batch : (disk : MountedView) (host : Filling) (rest : Rest) (count : ℕ) (builder : BuilderView) → Agrees disk → IsRoom disk host → CanWrite disk rest
    → count ≡ batch_count disk.drive.geometry host rest.left (is_trim rest.content) → AreReserved disk.tables.map rest.first count → builder.heading ≡ next_heading disk (is_trim rest.content) rest.first count
    → builder.bytes ≡ header_block disk.drive.geometry.block (next_heading disk (is_trim rest.content) rest.first count) ++ bytes_of (count * disk.drive.geometry.block) rest.content
    → IsNextBatch disk host rest builder count
next-batch disk host rest count builder agrees room write count-is reserved heading bytes =
    let g = disk.drive.geometry in
    let size = size_of disk.tables in
    let first = rest.first in
    let left = rest.left in
    let content = rest.content in
    let trim = is_trim content in
    let large = large-block g agrees.geometry in
    let takes : TakesCount g host left trim count = rw count-is (count-takes g host left trim agrees.geometry room.free write.some) in
    let within : first + count ≤ size = omega (arith, takes.few, write.in_range) in
    let is_size : IsSize size = (agrees.reserve.0, agrees.reserve.1) in
    let body = bytes_of (count * g.block) content in
    let long = length-content g.block first count left content takes.few write.whole in
    let made = built-batch g.block size disk.tables.next trim first count body builder (omega (arith, large)) is_size (few-entries g count takes.most).0 (omega (arith, room.next)) (omega (arith, agrees.reserve.1, within)) long heading bytes in
    let array = mounted_array disk in
    record {
      built_is = made.built_is;
      can = rw made.batch_is (can_place disk.drive disk.tables host trim first count _ agrees room within takes.most (omega (arith, takes.room, data_count-anywhere trim first 0 count)) size (omega arith) agrees.reserve reserved (rw heading at made.says));
      some = takes.some;
      few = omega (arith, takes.few, length-blocks g.block left content);
      size = ap (λ (h : Heading). h.size) heading;
      entries = ap (λ (h : Heading). h.entries) heading;
      tells = ap (λ (b : Batch). told_over g.block b array) made.batch_is
          ∙ tells-content g.block size disk.tables.next first count left content array takes.few write.whole (length-encoded disk.drive disk.tables.given ∙ sym (size-encoded disk agrees)) within;
    }

-- ---- after a zone and memory were found for it

-- the tables have more room, and the drive is the same
pub room-array : (b w : MountedView) → w.drive ≡ b.drive → SameButReady b.tables w.tables → Agrees b → KeepsArray b w
room-array b w drive room agrees =
    let kept : KeepsArray b (mounted b.drive w.tables) = keeps-room b.drive b.tables w.tables room agrees in
    subst (λ (d : DriveState). KeepsArray b (mounted d w.tables)) (sym drive) kept

-- so what was kept before is kept
pub kept-room : (a b w : MountedView) (clean : Option CleanView) → KeepsByCleaning a b → AgreesWithClean b clean → w.drive ≡ b.drive → SameButReady b.tables w.tables → KeepsByCleaning a w × AgreesWithClean w clean
kept-room a b w clean kept is drive room =
    let more = keeps-serving b w clean is (room-array b w drive room is.0) in
    (keeps-more a b w kept more.0, more.1)

-- and the zone that was found is the same
pub same-room : (b w : MountedView) (host : Filling) → w.drive ≡ b.drive → SameButReady b.tables w.tables → IsRoom b host → IsRoom w host
same-room b w host drive more is = record {
  host_is = ap (λ (r : RolesView). r.host) more.roles ∙ is.host_is;
  free = rw drive is.free;
  next = rw (more.next, drive) is.next;
}

-- no clean began since
pub found-stays : (a b w : MountedView) (x y : Option CleanView) (host : Filling) → KeepsByCleaning a b × AgreesWithClean b y → KeepsCleaning {V = Filling} a x (Ok host) b y → w.drive ≡ b.drive → SameButReady b.tables w.tables → StaysClean a x w y
found-stays a b w x y host found clean drive room =
    stays-join a b w x y y (cleaning-stays {V = Filling} a b x y host (omega (arith, found.0.next, found.0.appended)) found.0.geometry clean) (array-stays b w y found.1 (room-array b w drive room found.1.0))

-- what is left can be written as before
pub rest-kept : (b w : MountedView) (rest : Rest) → w.drive.geometry ≡ b.drive.geometry → size_of w.tables ≡ size_of b.tables → CanWrite b rest → CanWrite w rest
rest-kept b w rest same size write = record { some = write.some; in_range = rw size write.in_range; whole = rw same write.whole }

-- so the batch that is built then is the next one
pub build-next : (old new : MountedView) (host : Filling) (rest : Rest) (count : ℕ) (started builder : BuilderView) (g : Geometry) (trim : Bool) → new.drive ≡ old.drive → g ≡ old.drive.geometry → trim ≡ is_trim rest.content → Agrees old → IsRoom old host → CanWrite old rest
    → count ≡ batch_count g host rest.left trim → SameButReady old.tables new.tables → AreReserved new.tables.map rest.first count → started.heading ≡ next_heading old trim rest.first count
    → started.bytes ≡ header_block old.drive.geometry.block (next_heading old trim rest.first count) → builder.heading ≡ started.heading → builder.bytes ≡ started.bytes ++ bytes_of (count * g.block) rest.content
    → IsNextBatch new host rest builder count
build-next old new host rest count started builder g trim drive g-is trim-is agrees room write count-is more reserved heading bytes kept added =
    let now = (room-array old new drive more agrees).agrees in
    let same : size_of new.tables ≡ size_of old.tables = ap length more.places in
    let heading_is : builder.heading ≡ next_heading new (is_trim rest.content) rest.first count = rw (same, more.next, ← trim-is) (kept ∙ heading) in
    let bytes_are : builder.bytes ≡ header_block new.drive.geometry.block (next_heading new (is_trim rest.content) rest.first count) ++ bytes_of (count * new.drive.geometry.block) rest.content =
    rw (same, more.next, drive, ← trim-is, ← g-is) (added ∙ ap (λ (xs : List ℕ). xs ++ bytes_of (count * g.block) rest.content) (rw (← g-is) at bytes)) in
    let counted : count ≡ batch_count new.drive.geometry host rest.left (is_trim rest.content) = rw (drive, ← g-is, ← trim-is) count-is in
    next-batch new host rest count builder now (same-room old new host drive more room) (rest-kept old new rest (ap (λ (d : DriveState). d.geometry) drive) same write) counted reserved heading_is bytes_are

-- once a batch says a size that is not below the one that the logs have, it is the greatest
pub says-size : (n zone size : ℕ) (logs : List (List Batch)) (b : Batch) → zone < length logs → b.heading.size ≡ Some size → encoded_size n logs ≤ size → greatest (append_log logs zone b) ≡ Some size
says-size n zone size logs b lt has le = greatest-append_log logs zone b lt ∙ ap (larger (greatest logs)) has ∙ grows (greatest logs) le
  where
    grows : (g : Option ℕ) → size_or n g ≤ size → larger g (Some size) ≡ Some size
    grows None le = refl
    grows (Some a) le = ap (λ (k : ℕ). Some k) (omega arith)

-- the size on the drive after the Append
pub appended-size : (b c : DriveState) (u v : TablesView) (zone size : ℕ) (batch : Batch) → Agrees (mounted b u) → CanPlace (mounted b u) zone batch → batch.heading.size ≡ Some size → size_of u ≤ size → Places (mounted b u) (mounted c v) zone batch → greatest (drive_logs c) ≡ Some size
appended-size b c u v zone size batch agrees can has le placed =
    let range : zone < length (drive_logs b) = omega (arith, filling-in_range b u zone agrees can.filling, length-map b.zones content_of, length-map (contents b.zones) (zone_log b.geometry)) in
    rw placed.logs (says-size u.given zone size (drive_logs b) batch range has (omega (arith, le, size-encoded (mounted b u) agrees)))

-- ---- what the batch writes

-- the newest record of each block is a trim, or has data, as before a clean
trims-at : (old new : List Place) (block : ℕ) → map trims new ≡ map trims old → trims (get_or new block places.None) ≡ trims (get_or old block places.None)
trims-at old new block same = sym (get_or-map trims new block places.None) ∙ ap (λ (all : List (Option Bool)). get_or all block None) same ∙ get_or-map trims old block places.None

names-kept : (trim : Bool) (old mid new : List Place) (first count : ℕ) → map trims mid ≡ map trims old → Names trim mid first count new → Names trim old first count new
names-kept trim old mid new first count same names = record { named = names.named; others = λ block out. names.others block out ∙ trims-at old mid block same }

-- what a batch of the host keeps
pub keeps-placed : (a b c : MountedView) (clean : Option CleanView) (zone : ℕ) (batch : Batch) → KeepsByCleaning a b → Places b c zone batch → AgreesWithClean c clean → Keeps a c
keeps-placed a b c clean zone batch kept placed is = record {
  mountable = cleans_mountable c clean is;
  given = placed.given ∙ kept.given;
  geometry = placed.geometry ∙ kept.geometry;
  refused = placed.refused ∙ kept.refused;
  durable = placed.durable ∙ kept.durable;
  next = omega (arith, kept.next, placed.next, placed.appended);
  appended = omega (arith, kept.appended, placed.appended);
  unfailing = λ up. kept.unfailing (placed.unfailing up);
}

-- the batch was appended, and writes its part
pub writes : (a b c : MountedView) (old new : Option CleanView) (host : Filling) (rest : Rest) (count : ℕ) (builder : BuilderView) → KeepsByCleaning a b → AgreesWithClean b old → CanWrite a rest
    → IsNextBatch b host rest builder count → HostLeaves b old host.zone (built b.drive.geometry.block builder) (Ok tt) c new → WritesRest a rest (Ok count) c new
writes a b c old new host rest count builder kept is write next leaves =
    let placed = leaves.0 in
    let u = b.tables in
    let trim = is_trim rest.content in
    let first = rest.first in
    let blocks = rest_blocks b.drive.geometry rest in
    let batch = built b.drive.geometry.block builder in
    let same : size_with u batch ≡ size_of u = ap (size_or (size_of u)) next.size in
    let all : extended places.None (size_with u batch) u.map.places ≡ u.map.places = rw same (extended-same places.None (size_of u) u.map.places refl) in
    let took : length (take count blocks) ≡ count = omega (arith, length-take count blocks, next.few) in
    let few : count ≤ rest.left = omega (arith, next.few, length-blocks b.drive.geometry.block rest.left rest.content) in
    let names = names-placed trim (next_address b.drive host.zone) (next_address b.drive host.zone + 1) first count u.map.places (omega (arith, few, write.in_range, kept.size)) in
    let done : WritesBlocks trim a c new first (take count blocks) = record {
      serves = leaves.2.cleaned;
      keeps = keeps-placed a b c new host.zone batch kept placed leaves.2.cleaned;
      size = placed.size ∙ same ∙ kept.size;
      array = placed.array ∙ next.tells ∙ ap (λ (xs : List (List ℕ)). replaced xs first (take count blocks)) kept.array;
      names = names-kept trim a.tables.map.places u.map.places c.tables.map.places first (length (take count blocks)) kept.trimmed (rw (took, placed.places, all, next.entries) names);
      says = appended-size b.drive c.drive u c.tables host.zone (size_of u) batch is.0 next.can next.size (omega arith) placed ∙ ap (λ (k : ℕ). Some k) (sym (placed.size ∙ same));
      early = rw (← kept.geometry) (omega (arith, placed.next, next.can.next));
    } in
    subst (λ (g : Geometry). WritesBlocks trim a c new first (take count (rest_blocks g rest))) kept.geometry done

-- ---- a stop inside its Append

-- the drive can be mounted
pub append_stops : (a b c : MountedView) (zone : ℕ) (batch : Batch) → KeepsByCleaning a b → StopsInside b c zone batch → IsMountable c.drive c.tables.given → StopKeeps a c
append_stops a b c zone batch kept stops mountable =
    let same = stops-tables b c zone batch stops in
    record {
      stopped = stops.stopped;
      keeps = record {
        mountable = mountable;
        given = same.given ∙ kept.given;
        geometry = stops.geometry ∙ kept.geometry;
        refused = stops.refused ∙ kept.refused;
        durable = stops.durable ∙ kept.durable;
        next = omega (arith, kept.next, same.next, stops.appended);
        appended = omega (arith, kept.appended, stops.appended);
        unfailing = λ up. kept.unfailing (stops.unfailing up);
      };
      size = ap (λ (m : MapView). length m.places) same.map ∙ kept.size;
    }

-- a front of none of the blocks
pub front-none : (old new : List (List ℕ)) (first : ℕ) (blocks : List (List ℕ)) → new ≡ old → IsFront old first blocks new
front-none old new first blocks same = record { done = 0; within = omega arith; written = same ∙ sym (replaced-none old first) }

write_stops : (a b c : MountedView) (host : Filling) (rest : Rest) (count : ℕ) (builder : BuilderView) → KeepsByCleaning a b → IsNextBatch b host rest builder count
    → StopsInside b c host.zone (built b.drive.geometry.block builder) → IsMountable c.drive c.tables.given → StopKeeps a c × IsFront (mounted_array a) rest.first (rest_blocks b.drive.geometry rest) (mounted_array c)
write_stops a b c host rest count builder kept next stops mountable =
    let array = mounted_array a in
    let blocks = rest_blocks b.drive.geometry rest in
    let batch = built b.drive.geometry.block builder in
    let front : IsFront array rest.first blocks (encoded c.drive b.tables.given) = elim stops.left [
      | inl same ↦ front-none array (encoded c.drive b.tables.given) rest.first blocks (same.array_is ∙ kept.array)
      | inr more ↦ record {
        done = count;
        within = next.few;
        written = more.array_is ∙ next.tells ∙ ap (λ (xs : List (List ℕ)). replaced xs rest.first (take count blocks)) kept.array;
      }
    ] in
    (append_stops a b c host.zone batch kept stops mountable, rw (stops-tables b c host.zone batch stops).given front)

-- ---- refusals

-- an Append for which memory lacked
pub memory-left : (a b c : MountedView) (old new : Option CleanView) (zone : ℕ) (batch : Batch) → KeepsByCleaning a b → AgreesWithClean b old → HostLeaves b old zone batch (Err halt.Memory) c new → KeepsByCleaning a c × AgreesWithClean c new
memory-left a b c old new zone batch kept is leaves = (keeps-more a b c kept (cleaning_kept b c old is leaves.0), leaves.2.cleaned)

-- or that failed
pub failed-left : (a b c : MountedView) (old new : Option CleanView) (zone : ℕ) (batch : Batch) → KeepsByCleaning a b → AgreesWithClean b old → HostLeaves b old zone batch (Err halt.Failed) c new → KeepsByCleaning a c × AgreesWithClean c new
failed-left a b c old new zone batch kept is leaves = (keeps-more a b c kept (cleaning_kept b c old is leaves.0), leaves.2.cleaned)

-- what an Append that did not succeed leaves of a write
pub write_halts : (a b c : MountedView) (old new : Option CleanView) (host : Filling) (rest : Rest) (count : ℕ) (builder : BuilderView) (fault : Halt) → KeepsByCleaning a b → AgreesWithClean b old
    → IsNextBatch b host rest builder count → HostLeaves b old host.zone (built b.drive.geometry.block builder) (Err fault) c new
    → WritesRest a rest (Err (disk_fault fault)) c new × IsCause c.drive c.tables.next (disk_fault fault)
write_halts a b c old new host rest count builder halt.Memory kept is next leaves = (memory-left a b c old new host.zone (built b.drive.geometry.block builder) kept is leaves, tt)
write_halts a b c old new host rest count builder halt.Failed kept is next leaves = (failed-left a b c old new host.zone (built b.drive.geometry.block builder) kept is leaves, leaves.4)
write_halts a b c old new host rest count builder halt.Stopped kept is next leaves =
    let stops = write_stops a b c host rest count builder kept next leaves.0 leaves.2 in
    ((stops.0, subst (λ (g : Geometry). IsFront (mounted_array a) rest.first (rest_blocks g rest) (mounted_array c)) kept.geometry stops.1), leaves.0.stopped)

-- what a refusal on the way to room leaves of it
write_without : (trim : Bool) (a b : MountedView) (clean : Option CleanView) (first : ℕ) (blocks : List (List ℕ)) (fault : DiskFault) → RoomLeaves {V = Filling} a b clean (Err fault) → IsCause b.drive b.tables.next fault → WriteLeaves trim a b clean first blocks (Err fault)
write_without trim a b clean first blocks OutOfRange leaves cause = leaves
write_without trim a b clean first blocks OutOfMemory leaves cause = leaves
write_without trim a b clean first blocks Failed leaves cause = leaves
write_without trim a b clean first blocks Stopped leaves cause = (room-stops a b leaves cause, front-none (mounted_array a) (mounted_array b) first blocks leaves.array)
write_without trim a b clean first blocks Spent leaves cause = leaves
write_without trim a b clean first blocks Smaller leaves cause = leaves
write_without trim a b clean first blocks Reserve leaves cause = leaves
write_without trim a b clean first blocks Unmounted leaves cause = leaves
write_without trim a b clean first blocks Damaged leaves cause = absurd leaves

-- there was no room for it
pub write_no_room : (a b : MountedView) (clean : Option CleanView) (rest : Rest) (fault : DiskFault) (result : Result ℕ DiskFault) → result ≡ Err fault → RoomLeaves {V = Filling} a b clean (Err fault) → IsCause b.drive b.tables.next fault → WritesRest a rest result b clean
write_no_room a b clean rest fault result is leaves cause = rw is (write_without (is_trim rest.content) a b clean rest.first (rest_blocks a.drive.geometry rest) fault leaves cause)

-- or no memory
pub write_no_memory : (a b : MountedView) (clean : Option CleanView) (rest : Rest) (result : Result ℕ DiskFault) → result ≡ Err OutOfMemory → KeepsByCleaning a b × AgreesWithClean b clean → WritesRest a rest result b clean
write_no_memory a b clean rest result is kept = rw is kept

-- ---- how it is cut

-- logs to which a batch may have been appended that is cut as it should be
pub cut-batch : (a b : MountedView) (c : DriveState) (host : Filling) (last : ℕ) (batch : Batch) → KeepsByCleaning a b → Agrees b → IsRoom b host
    → ((start : List (List Batch)) (offset : ℕ) → offset ≡ host.written → IsCut b.drive.geometry start last offset batch)
    → (drive_logs c ≡ drive_logs b.drive) ⊎ (drive_logs c ≡ append_log (drive_logs b.drive) host.zone batch) → KeepsCutTo last a.drive c
cut-batch a b c host last batch kept agrees room one logs start cut =
    let g = a.drive.geometry in
    let found = cut-only g start last (drive_logs a.drive) (drive_logs b.drive) kept.moves cut in
    let here = host-filled b.drive b.tables host room.host_is agrees in
    let lt : host.zone < length (drive_logs b.drive) = omega (arith, filling-in_range b.drive b.tables host.zone agrees (filling-host b.tables.roles host room.host_is), length-map b.drive.zones content_of, length-map (contents b.drive.zones) (zone_log b.drive.geometry)) in
    let offset = log_size (log_at (drive_logs b.drive) host.zone) in
    elim logs as (λ _. LogsAreCut g start last (drive_logs c)) [
      | inl none ↦ subst (LogsAreCut g start last) (sym none) found
      | inr more ↦ cut-more g start last (drive_logs b.drive) (drive_logs c) host.zone batch lt more (subst (λ (x : Geometry). IsCut x start last offset batch) kept.geometry (one start offset here.batches)) found
    ]

-- a batch of a write is cut as it should be
pub cut-appended : (a b : MountedView) (c : DriveState) (host : Filling) (rest : Rest) (count : ℕ) (builder : BuilderView) → KeepsByCleaning a b → Agrees b → IsRoom b host → 1 ≤ rest.left
    → count ≡ batch_count b.drive.geometry host rest.left (is_trim rest.content) → builder.heading.entries ≡ entries_from (is_trim rest.content) rest.first count
    → (drive_logs c ≡ drive_logs b.drive) ⊎ (drive_logs c ≡ append_log (drive_logs b.drive) host.zone (built b.drive.geometry.block builder)) → KeepsCut a.drive rest c
cut-appended a b c host rest count builder kept agrees room some count-is entries logs =
    cut-batch a b c host (rest.first + rest.left - 1) (built b.drive.geometry.block builder) kept agrees room
    (λ start offset offset-is. cut-next b.drive.geometry start rest.first rest.left count offset host (is_trim rest.content) (built b.drive.geometry.block builder) room.free some count-is entries offset-is) logs

-- and so are the logs where only a zone was found
pub cut-found : (a b : MountedView) (c : DriveState) (last : ℕ) → KeepsByCleaning a b → drive_logs c ≡ drive_logs b.drive → KeepsCutTo last a.drive c
cut-found a b c last kept same start cut =
    subst (LogsAreCut a.drive.geometry start last) (sym same) (cut-only a.drive.geometry start last (drive_logs a.drive) (drive_logs b.drive) kept.moves cut)

-- which logs an Append that did not succeed leaves
pub halted-logs : (b c : MountedView) (old new : Option CleanView) (zone : ℕ) (batch : Batch) (fault : Halt) → HostLeaves b old zone batch (Err fault) c new → (drive_logs c.drive ≡ drive_logs b.drive) ⊎ (drive_logs c.drive ≡ append_log (drive_logs b.drive) zone batch)
halted-logs b c old new zone batch halt.Memory leaves = inl leaves.0.logs
halted-logs b c old new zone batch halt.Failed leaves = inl leaves.0.logs
halted-logs b c old new zone batch halt.Stopped leaves = elim leaves.0.left as (λ _. (drive_logs c.drive ≡ drive_logs b.drive) ⊎ (drive_logs c.drive ≡ append_log (drive_logs b.drive) zone batch)) [ inl same ↦ inl same.logs_are | inr more ↦ inr more.logs_are ]
