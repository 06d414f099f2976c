-- What commands change of a mounted disk: a halt nothing, an Append of a batch what the batch says.
use Rattle.std.proofs.Common.{◌≡◌, ◌⊎◌, ℕ, suc, ◌+◌, ◌*◌, ◌/◌, ◌<◌, ◌≤◌, List, [], ◌∷◌, length, take, drop, set, Some, Ok, Err, refl, ap, ◌∙◌, inl, inr, arith}
use Rattle.std.specs.Option.{option_map}
use Rattle.std.proofs.lemmas.Bool.{cases_lt}
use Rattle.std.proofs.lemmas.List.{length-append, take_all, take_at}
use Rattle.std.proofs.lemmas.Nat.{div-mul-add}
use Rattle.std.proofs.Math.Nat.{add-mul}
use Rattle.zone_states.specs.declared.geometry.Geometry.{Geometry}
use Rattle.zone_states.specs.Geometry.{IsInRange}
use Rattle.zone_states.specs.Zone.{cut_blocks}
use Rattle.zone_states.proofs.Cutting.{length-cut}
use Rattle.drive_port.specs.Calls.{Appended, AppendedFront, AppendGives, AppendKeeps, CanAppend, IsNotRefused, Obeys, block_count}
use Rattle.drive_port.specs.Calls.{AppendLeaves as PortLeaves}
use Rattle.drive_port.specs.Contents.{Appends, Counts, SameContents, content_at, contents}
use Rattle.drive_port.specs.Drive.{DriveState, IsLawful}
use Rattle.drive_port.specs.declared.calls.PortFault.{PortFault}
use Rattle.drive_port.specs.declared.calls.PortFault.TheVariants as port
use Rattle.batch_log.specs.declared.header.Entry.{Entry}
use Rattle.batch_log.specs.Header.{IsHeading, header_block}
use Rattle.batch_log.specs.Log.{Batch, IsBatch, batch_blocks, batch_size, data_count, one_unless, zero_block}
use Rattle.batch_log.proofs.HeaderLaws.{header_length}
use Rattle.logical_map.specs.Places.{MapView}
use Rattle.logical_map.specs.declared.place.Place.{Place}
use Rattle.zone_choice.specs.Agreement.{Agrees, mounted, mounted_array}
use Rattle.drive_array.specs.ZoneLogs.{drive_logs, encoded}
use Rattle.zone_choice.specs.Builder.{BuilderView, IsBuilt, built, placed}
use Rattle.zone_choice.specs.Changes.{BatchLeaves, CanPlace, IsHalt, KeepsArray, KeepsContents, Places, StopsInside, fault_halt, roles_alone, size_with, told_over}
use Rattle.drive_array.specs.Records.{append_log, batch_records, entry_records, over, place, record_of, shown}
use Rattle.zone_choice.specs.Roles.{RolesView, closed, second_with, wrote}
use Rattle.drive_array.specs.Sizes.{extended, size_or}
use Rattle.zone_choice.specs.Tables.{GrowsTo, SameButReady, TablesView, size_of, with_places}
use Rattle.zone_choice.proofs.AgreementLaws.{AppendsBatch, IsPlaced, StaysFailed, agrees_append, agrees_room, agrees_same, size-placed, encoded_append, encoded_same, tables_after, written_in}
use Rattle.drive_array.proofs.AllLaws.{all-weaker}
use Rattle.zone_choice.proofs.BuilderLaws.{placed-over}
use Rattle.zone_choice.proofs.CommandLaws.{can_append, zone-start}
use Rattle.zone_choice.proofs.OpenLaws.{OpensNone, OpensOnly, append-opens, closing-opens}
use Rattle.zone_choice.proofs.StopLaws.{Left, left-same, left-torn, left-whole}

-- ---- nothing changes

-- what changes nothing keeps the array
pub keeps-refl : (drive : DriveState) (tables : TablesView) → Agrees (mounted drive tables) → KeepsArray (mounted drive tables) (mounted drive tables)
keeps-refl drive tables agrees = record { agrees = agrees; logs = refl; array = refl; places = refl; next = refl; given = refl; spare = λ some. some; sealed = λ zone is. is; second = refl; geometry = refl; refused = refl; durable = refl; appended = refl; unfailing = λ up. up }

-- and so does a halt that left the drive
pub keeps-halt : (old new : DriveState) (tables : TablesView) → new ≡ old → Agrees (mounted old tables) → KeepsArray (mounted old tables) (mounted new tables)
keeps-halt old new tables same agrees = rw same (keeps-refl old tables agrees)

-- a command that changes no content and opens no zone
pub keeps-same : (old new : DriveState) (tables : TablesView) → Agrees (mounted old tables) → SameContents old new → OpensNone old.zones new.zones → IsLawful new → StaysFailed old new → new.refused ≡ old.refused → new.durable ≡ old.durable → new.appended ≡ old.appended → KeepsArray (mounted old tables) (mounted new tables)
keeps-same old new tables agrees same opens lawful failed refused durable appended = record {
  agrees = agrees_same old new tables same opens lawful failed agrees;
  logs = rw (same.geometry, same.contents) refl;
  array = encoded_same old new tables.given same;
  places = refl;
  next = refl;
  given = refl;
  spare = λ some. some;
  sealed = λ zone is. is;
  second = refl;
  geometry = same.geometry;
  refused = refused;
  durable = durable;
  appended = appended;
  unfailing = failed;
}

-- and was counted
pub keeps-contents : (old new : DriveState) (tables : TablesView) → Agrees (mounted old tables) → SameContents old new → OpensNone old.zones new.zones → IsLawful new → StaysFailed old new → new.durable ≡ old.durable → Counts old new 0 → KeepsArray (mounted old tables) (mounted new tables)
keeps-contents old new tables agrees same opens lawful failed durable counts = keeps-same old new tables agrees same opens lawful failed counts.refused durable (omega (arith, counts.appended))

-- the tables have more room
pub keeps-room : (drive : DriveState) (old new : TablesView) → SameButReady old new → Agrees (mounted drive old) → KeepsArray (mounted drive old) (mounted drive new)
keeps-room drive old new room agrees = record {
  agrees = agrees_room drive old new room agrees;
  logs = refl;
  array = ap (λ (n : ℕ). encoded drive n) room.given;
  places = room.places;
  next = room.next;
  given = room.given;
  spare = λ some. rw room.roles some;
  sealed = λ zone is. rw room.roles is;
  second = ap (λ (r : RolesView). option_map (second_with closed) r.second) room.roles;
  geometry = refl;
  refused = refl;
  durable = refl;
  appended = refl;
  unfailing = λ up. up;
}

-- ---- the bytes of a batch

-- a block has 512 bytes at least
pub large-block : (g : Geometry) → IsInRange g → 512 ≤ g.block
large-block g range = elim range.block as (λ _. 512 ≤ g.block) [ inl e ↦ omega arith | inr e ↦ omega arith ]

-- how long a batch is that was built
pub record IsSized (g : Geometry) (builder : BuilderView) : Type 0 where
  pub long : length builder.bytes ≡ batch_size (built g.block builder) * g.block
  pub count_is : block_count g builder.bytes ≡ batch_size (built g.block builder)
  pub cut : cut_blocks g.block (block_count g builder.bytes) builder.bytes ≡ batch_blocks g.block (built g.block builder)

-- it is so long
pub sized : (g : Geometry) (builder : BuilderView) → IsInRange g → IsHeading g.block builder.heading → IsBuilt g.block builder → IsSized g builder
sized g builder range says is =
    let block = g.block in
    let count = data_count builder.heading.entries in
    let large = large-block g range in
    let header = header_block block builder.heading in
    let bytes = builder.bytes in
    let one : length header ≡ block = header_length block builder.heading (omega arith) says in
    let total : length bytes ≡ (count + 1) * block + 0 = ap length is.header ∙ omega (arith, length-append header (drop block bytes), one, is.data_length, add-mul count 1 block) in
    let many : block_count g bytes ≡ count + 1 = ap (λ (n : ℕ). n / block) total ∙ div-mul-add (count + 1) block 0 (omega arith) in
    let number : block_count g bytes ≡ suc count = omega (arith, many) in
    let front : take block bytes ≡ header = ap (take block) is.header ∙ take_at header (drop block bytes) block one in
    let suc_is : suc count ≡ count + 1 = omega arith in
    record {
      long = rw suc_is (omega (arith, total));
      count_is = number;
      cut = rw number (ap (λ (h : List ℕ). h ∷ cut_blocks block count (drop block bytes)) front);
    }

-- the drive takes it
place_can : (old : DriveState) (tables : TablesView) (zone start : ℕ) (builder : BuilderView) → IsBuilt old.geometry.block builder → CanPlace (mounted old tables) zone (built old.geometry.block builder) → roles_alone old.geometry tables.roles zone ≡ tables.roles → start ≡ zone * old.geometry.size
    → CanAppend old start (block_count old.geometry builder.bytes)
place_can old tables zone start builder is can alone start-is =
    let s = sized old.geometry builder can.agrees.geometry can.heading is in
    can_append old tables zone start (block_count old.geometry builder.bytes) can.agrees can.filling alone start-is (omega (arith, s.count_is)) (omega (arith, s.count_is, can.few)) (omega (arith, s.count_is, can.room))

-- the tables with the places of a batch
abbrev pub tables_placed : TablesView → ℕ → BuilderView → ℕ → ℕ → TablesView
tables_placed tables zone builder address blocks = record {
  map = record tables.map { places = placed address (address + 1) builder.heading.entries tables.map.places };
  roles = wrote tables.roles zone blocks;
  next = tables.next + 1;
  given = tables.given;
  unreadable = tables.unreadable;
}

abbrev advanced : TablesView → ℕ → ℕ → TablesView
advanced tables zone blocks = record tables { roles = wrote tables.roles zone blocks; next = tables.next + 1 }

-- how many blocks the batch takes
pub size-built : (block_bytes blocks : ℕ) (builder : BuilderView) (entries : List Entry) → entries ≡ builder.heading.entries → blocks ≡ 1 + data_count entries → blocks ≡ batch_size (built block_bytes builder)
size-built block_bytes blocks builder entries entries-are blocks-is = let here = rw entries-are at blocks-is in omega arith

-- the tables after it
pub placed-tables : (tables mid after : TablesView) (zone address blocks : ℕ) (builder : BuilderView) (entries : List Entry) → entries ≡ builder.heading.entries → mid ≡ with_places tables (placed address (address + 1) entries tables.map.places)
    → after ≡ record mid { roles = wrote mid.roles zone blocks; next = mid.next + 1 } → after ≡ tables_placed tables zone builder address blocks
placed-tables tables mid after zone address blocks builder entries entries-are mid-is after-is =
    after-is ∙ ap (λ (t : TablesView). advanced t zone blocks) (mid-is ∙ ap (λ (es : List Entry). with_places tables (placed address (address + 1) es tables.map.places)) entries-are)

-- ---- the batch is appended

built-batch : (old : DriveState) (tables : TablesView) (zone : ℕ) (builder : BuilderView) → CanPlace (mounted old tables) zone (built old.geometry.block builder) → IsBatch old.geometry.block (built old.geometry.block builder)
built-batch old tables zone builder can = record { heading = can.heading; body = length-cut old.geometry.block (data_count builder.heading.entries) (drop old.geometry.block builder.bytes) }

appends_batch : (old new : DriveState) (tables : TablesView) (zone : ℕ) (builder : BuilderView) → CanPlace (mounted old tables) zone (built old.geometry.block builder) → new.geometry ≡ old.geometry → IsLawful new → StaysFailed old new
    → Appends (contents old.zones) (contents new.zones) old.geometry.capacity zone (batch_blocks old.geometry.block (built old.geometry.block builder)) → OpensOnly zone old.zones new.zones → AppendsBatch old new tables zone (built old.geometry.block builder)
appends_batch old new tables zone builder can geometry lawful failed appends opens = record {
  batch = built-batch old tables zone builder can;
  size = can.size;
  grows = can.grows;
  reserve = can.reserve;
  sequence = can.sequence;
  room = omega (arith, can.next);
  blocks = all-weaker (λ (e : Entry). e.block < size_of tables) (λ (e : Entry). e.block < size_with tables (built old.geometry.block builder)) builder.heading.entries (λ e lt. omega (arith, lt, can.grows)) can.in_range;
  few = can.few_entries;
  geometry = geometry;
  lawful = lawful;
  appends = appends;
  opens = opens;
  failed = failed;
}

-- what a batch says of the array does not depend on where it is
told_anywhere : (size sequence zone header k : ℕ) (body : List (List ℕ)) (es : List Entry) (array : List (List ℕ)) → over (shown size) (entry_records sequence body zone header k es) array ≡ over (shown size) (entry_records sequence body 0 0 k es) array
told_anywhere size sequence zone header k body [] array = refl
told_anywhere size sequence zone header k body (e ∷ es) array =
    ap (λ (xs : List (List ℕ)). set xs e.block (shown size (Some (record_of sequence body zone header k e)))) (told_anywhere size sequence zone header (k + one_unless e.trim) body es array)

-- what the drive encodes with the batch
told-with : (old : DriveState) (tables : TablesView) (zone : ℕ) (b : Batch) → b.heading.size ≡ Some (size_with tables b)
    → over (shown old.geometry.block) (batch_records zone (written_in old zone) b) (extended (zero_block old.geometry.block) (size_with tables b) (encoded old tables.given)) ≡ told_over old.geometry.block b (mounted_array (mounted old tables))
told-with old tables zone b size =
    let same : size_or (length (encoded old tables.given)) b.heading.size ≡ size_with tables b = ap (size_or (length (encoded old tables.given))) size in
    rw same (told_anywhere old.geometry.block b.heading.sequence zone (written_in old zone) 0 b.body b.heading.entries (extended (zero_block old.geometry.block) (size_with tables b) (encoded old tables.given)))

-- its Append was done, and tables and drive agree again
pub place_writes : (old new : DriveState) (tables grown after : TablesView) (zone start address blocks : ℕ) (builder : BuilderView) (bytes : List ℕ) → bytes ≡ builder.bytes → IsBuilt old.geometry.block builder → CanPlace (mounted old tables) zone (built old.geometry.block builder) → roles_alone old.geometry tables.roles zone ≡ tables.roles → start ≡ zone * old.geometry.size
    → Appended old new start bytes address → PortLeaves old start bytes (Ok address) new → IsLawful new → StaysFailed old new → new.durable ≡ old.durable → blocks ≡ batch_size (built old.geometry.block builder) → GrowsTo tables (size_with tables (built old.geometry.block builder)) grown → after ≡ tables_placed grown zone builder address blocks
    → Places (mounted old tables) (mounted new after) zone (built old.geometry.block builder)
place_writes old new tables grown after zone start address blocks builder bytes bytes-are is can alone start-is appended leaves lawful failed durable blocks-is grows after-is =
    let g = old.geometry in
    let b = built g.block builder in
    let s = sized g builder can.agrees.geometry can.heading is in
    let index = (zone-start zone g.size can.agrees.geometry.size.0).0 in
    let opens = append-opens old new start bytes (Ok address) leaves in
    let a = appends_batch old new tables zone builder can appended.geometry lawful failed (rw (bytes-are, start-is, index, s.cut) at appended.contents) (rw (start-is, index) at opens) in
    let here : length (content_at (contents old.zones) (start / g.size)).blocks ≡ written_in old zone = rw (start-is, index) refl in
    let header : address ≡ zone * g.size + written_in old zone = omega (arith, appended.address_is, here, start-is) in
    let map : MapView = record grown.map { places = placed address (address + 1) builder.heading.entries grown.map.places } in
    let is_placed : IsPlaced old tables map zone b =
    record {
      places = placed-over g.size b.heading.sequence zone (written_in old zone) 0 address (address + 1) b.body b.heading.entries grown.map.places header (omega (arith, header)) ∙ ap (λ (all : List Place). over (place g.size) (batch_records zone (written_in old zone) b) all) grows.places;
      zones = grows.zones;
      zone_size = grows.zone_size;
    } in
    let same : after ≡ tables_after tables map zone b = after-is ∙ rw (blocks-is, grows.roles, grows.next, grows.given, grows.unreadable) refl in
    rw same (record {
      agrees = agrees_append old new tables map zone b can.agrees can.filling a is_placed;
      logs = (encoded_append old new tables zone b can.agrees can.filling a).0;
      size = size-placed old tables map zone b can.grows is_placed;
      places = rw (header, grows.places) refl;
      array = (encoded_append old new tables zone b can.agrees can.filling a).1 ∙ told-with old tables zone b can.size;
      next = refl;
      given = refl;
      unreadable = refl;
      roles = rw alone refl;
      geometry = appended.geometry;
      refused = appended.counts.refused;
      durable = durable;
      appended = appended.counts.appended;
      unfailing = failed;
    })

-- ---- the device halts

-- a halt that left the contents, or a front of the batch
stops_inside : (old new : DriveState) (tables : TablesView) (zone start : ℕ) (builder : BuilderView) → IsBuilt old.geometry.block builder → CanPlace (mounted old tables) zone (built old.geometry.block builder) → start ≡ zone * old.geometry.size
    → SameContents old new ⊎ AppendedFront old new start builder.bytes → PortLeaves old start builder.bytes (Err port.Stopped) new → Obeys {V = ℕ} old (Err port.Stopped) new → StopsInside (mounted old tables) (mounted new tables) zone (built old.geometry.block builder)
stops_inside old new tables zone start builder is can start-is kept leaves obeys = by kept
  where
    opens : OpensOnly (start / old.geometry.size) old.zones new.zones
    opens = append-opens old new start builder.bytes (Err port.Stopped) leaves

    index : start / old.geometry.size ≡ zone
    index = rw start-is (zone-start zone old.geometry.size can.agrees.geometry.size.0).0

    b : Batch
    b = built old.geometry.block builder

    made : (logs : List (List Batch)) (array : List (List ℕ)) → Left new tables.given logs array → (logs ≡ drive_logs old) × (array ≡ encoded old tables.given) ⊎ (logs ≡ append_log (drive_logs old) zone b) × (array ≡ told_over old.geometry.block b (encoded old tables.given))
        → StopsInside (mounted old tables) (mounted new tables) zone b
    made logs array left which = record {
      stopped = obeys.stops refl;
      tables = inl refl;
      left = elim which [
        | inl same ↦ inl (rw (← same.0, ← same.1) left.encodes)
        | inr more ↦ inr (rw (← more.0, ← more.1) left.encodes)
      ];
      mountable = rw (← obeys.geometry) left.mountable;
      geometry = obeys.geometry;
      refused = (obeys.counts refl).refused;
      durable = obeys.durable;
      appended = (obeys.counts refl).appended;
      unfailing = obeys.unfailing;
    }

    whole : Appends (contents old.zones) (contents new.zones) old.geometry.capacity zone (batch_blocks old.geometry.block b) → StopsInside (mounted old tables) (mounted new tables) zone b
    whole appends = made _ _ (left-whole old new tables zone b can.agrees can.filling (appends_batch old new tables zone builder can obeys.geometry obeys.lawful obeys.unfailing appends (rw index at opens))) (inr (refl, told-with old tables zone b can.size))

    front : (j : ℕ) → j ≤ length (batch_blocks old.geometry.block b) → Appends (contents old.zones) (contents new.zones) old.geometry.capacity zone (take j (batch_blocks old.geometry.block b)) → StopsInside (mounted old tables) (mounted new tables) zone b
    front j few appends =
        elim (cases_lt j (length (batch_blocks old.geometry.block b))) as (λ _. StopsInside (mounted old tables) (mounted new tables) zone b) [
          | inl lt ↦ made _ _ (left-torn old new tables zone j b can.agrees (record {
            batch = built-batch old tables zone builder can;
            filling = can.filling;
            next = can.next;
            few = lt;
            room = can.room;
            geometry = obeys.geometry;
            lawful = obeys.lawful;
            appends = appends;
          })) (inl (refl, refl))
          | inr all ↦ whole (rw (take_all j (batch_blocks old.geometry.block b) (omega arith)) at appends)
        ]

    by : SameContents old new ⊎ AppendedFront old new start builder.bytes → StopsInside (mounted old tables) (mounted new tables) zone b
    by (inl same) =
        made (drive_logs old) (encoded old tables.given) (left-same old new tables same obeys.lawful can.agrees) (inl (refl, refl))
    by (inr some) =
        let g = old.geometry in
        let s = sized g builder can.agrees.geometry can.heading is in
        let index = (zone-start zone g.size can.agrees.geometry.size.0).0 in
        front some.j (rw s.cut at some.few) (rw (start-is, index, s.cut) at some.contents)

-- an Append that did not succeed
pub record Halted (old new : DriveState) (tables : TablesView) (zone : ℕ) (b : Batch) (fault : PortFault) : Type 0 where
  pub halt : IsHalt fault
  pub leaves : BatchLeaves (mounted old tables) (mounted new tables) zone b (Err (fault_halt fault))

-- or it was not, and the drive can be mounted
pub place_halts : (old new : DriveState) (tables : TablesView) (zone start : ℕ) (builder : BuilderView) (bytes : List ℕ) (fault : PortFault) → bytes ≡ builder.bytes → IsBuilt old.geometry.block builder → CanPlace (mounted old tables) zone (built old.geometry.block builder) → roles_alone old.geometry tables.roles zone ≡ tables.roles → start ≡ zone * old.geometry.size
    → AppendGives old start bytes (Err fault) new → AppendKeeps old start bytes (Err fault) new → PortLeaves old start bytes (Err fault) new → Obeys {V = ℕ} old (Err fault) new → (CanAppend old start (block_count old.geometry bytes) → IsNotRefused {V = ℕ} (Err fault))
    → Halted old new tables zone (built old.geometry.block builder) fault
place_halts old new tables zone start builder bytes (port.Refused status) bytes-are is can alone start-is gives kept leaves obeys passed =
    absurd (passed (rw bytes-are (place_can old tables zone start builder is can alone start-is)))
place_halts old new tables zone start builder bytes port.Memory bytes-are is can alone start-is gives kept leaves obeys passed = record { halt = tt; leaves = inl (ap (λ (d : DriveState). mounted d tables) gives.1.1.1) }
place_halts old new tables zone start builder bytes port.Failed bytes-are is can alone start-is gives kept leaves obeys passed =
    let failed = obeys.fails refl in
    let same : KeepsContents (mounted old tables) (mounted new tables) = record {
      agrees = agrees_same old new tables kept (λ k h. closing-opens old.zones new.zones leaves k h) obeys.lawful obeys.unfailing can.agrees;
      same = kept;
      refused = failed.1.refused;
      durable = obeys.durable;
      appended = failed.1.appended;
      unfailing = obeys.unfailing;
    } in record { halt = tt; leaves = (failed.0, inl (refl, same)) }
place_halts old new tables zone start builder bytes port.Stopped bytes-are is can alone start-is gives kept leaves obeys passed = record { halt = tt; leaves = stops_inside old new tables zone start builder is can start-is (rw bytes-are at kept) (rw bytes-are at leaves) obeys }
