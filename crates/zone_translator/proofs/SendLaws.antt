-- When a batch of the host may be sent, by the numbers of the tables alone.
use Rattle.std.proofs.Common.{◌≡◌, ℕ, ◌+◌, ◌*◌, ◌<◌, ◌≤◌, ◌^◌, Bool, true, [], ◌∷◌, ◌++◌, length, take, Option, Some, None, Result, Ok, Err, refl, sym, ap, subst, ◌∙◌, inl, inr, arith, append-nil, List}
use Rattle.std.specs.List.{AllByRecursion}
use Rattle.std.specs.Option.{option_map}
use Rattle.std.proofs.lemmas.List.{length-take}
use Rattle.std.proofs.lemmas.Nat.{mul-le}
use Rattle.zone_states.specs.declared.geometry.Geometry.{Geometry}
use Rattle.drive_port.specs.Drive.{DriveState}
use Rattle.drive_port.specs.declared.calls.PortFault.{PortFault}
use Rattle.batch_log.specs.declared.header.Entry.{Entry}
use Rattle.batch_log.specs.Header.{IsHeading, IsSize, header_block}
use Rattle.batch_log.specs.Log.{Batch, data_count}
use Rattle.batch_log.proofs.LentLaws.{data-few}
use Rattle.logical_map.specs.Places.{IsReady}
use Rattle.drive_array.specs.Reserve.{batch_most}
use Rattle.zone_choice.specs.declared.roles.Filling.{Filling}
use Rattle.zone_choice.specs.declared.roles.Second.{Second}
use Rattle.zone_choice.specs.Agreement.{MountedView}
use Rattle.zone_choice.specs.Builder.{BuilderView, entries_from}
use Rattle.zone_choice.specs.Roles.{AreApart, Differ, RolesView, filling_list, filling_of, fillings}
use Rattle.zone_choice.specs.Sane.{IsSane, KeepsShape, MayPlace, TablesAfter}
use Rattle.drive_array.specs.Sizes.{size_or}
use Rattle.zone_choice.specs.Tables.{AreReserved, SameButReady, TablesView, size_of}
use Rattle.zone_choice.proofs.ChangeLaws.{large-block}
use Rattle.zone_cleaner.proofs.SaneLaws.{stays-appended}
use Rattle.zone_translator.specs.Answering.{MaySend, StaysInRange, StaysOfSize}
use Rattle.zone_translator.specs.Batches.{CanWrite, IsRoom, batch_count, bytes_of, header_of, host_heading, is_trim, next_heading}
use Rattle.zone_translator.specs.Listed.{CanPutAll, TakesMost, listed_heading}
use Rattle.zone_translator.specs.declared.list.ListRest.{ListRest}
use Rattle.zone_translator.specs.declared.list.Taken.{Taken}
use Rattle.zone_translator.specs.declared.write.Rest.{Rest}
use Rattle.zone_translator.proofs.BatchLaws.{entries-below, entries-ready, host_batch, length-entries}
use Rattle.zone_translator.proofs.ContentLaws.{length-content}
use Rattle.zone_translator.proofs.ListedLaws.{all-front, distinct-front, few-data}
use Rattle.zone_translator.proofs.ListedWriteLaws.{built-listed, listed-heading}
use Rattle.zone_translator.proofs.RangeLaws.{range-cleaned}
use Rattle.zone_translator.proofs.RoomLaws.{filling-host}
use Rattle.zone_translator.proofs.WriteLaws.{TakesCount, built-batch, count-takes, data_count-anywhere, few-entries, same-room}

-- ---- the host zone

-- the other zone that is being filled is another one
host-room : (capacity : ℕ) (roles : RolesView) (f : Filling) (n : ℕ) → roles.host ≡ Some f → Differ roles.host roles.second → f.written + n ≤ capacity → AllByRecursion (λ (g : Filling). g.zone ≡ f.zone → g.written + n ≤ capacity) (fillings roles)
host-room capacity roles f n host apart fits =
    subst (λ (h : Option Filling). Differ h roles.second → AllByRecursion (λ (g : Filling). g.zone ≡ f.zone → g.written + n ≤ capacity) (filling_list h ++ filling_list (option_map filling_of roles.second))) (sym host) (at roles.second) apart
  where
    at : (second : Option Second) → Differ (Some f) second → AllByRecursion (λ (g : Filling). g.zone ≡ f.zone → g.written + n ≤ capacity) (f ∷ filling_list (option_map filling_of second))
    at None apart = (λ same. fits, tt)
    at (Some s) apart = (λ same. fits, (λ same. absurd (apart (sym same)), tt))

-- ---- a batch of blocks that follow one another

-- it may be sent
pub may_place : (disk : MountedView) (host : Filling) (trim : Bool) (first count : ℕ) (body : List (List ℕ)) → IsSane disk → AreApart disk.tables.roles → IsRoom disk host → first + count ≤ size_of disk.tables → count ≤ batch_most disk.drive.geometry
    → host.written + 1 + data_count (entries_from trim first count) ≤ disk.drive.geometry.capacity → (size : ℕ) → size_of disk.tables ≤ size → size ≤ 2 ^ 31 → AreReserved disk.tables.map first count
    → IsHeading disk.drive.geometry.block (host_heading size disk.tables.next trim first count) → MayPlace disk host.zone (host_batch size disk.tables.next trim first count body)
may_place disk host trim first count body sane apart room in_range most free size grows short reserved says =
    let few_data = data-few (entries_from trim first count) in
    let long = length-entries trim first count in
    record {
      sane = sane;
      filling = filling-host disk.tables.roles host room.host_is;
      heading = says;
      grows = grows;
      short = short;
      few = omega (arith, few_data, long, (few-entries disk.drive.geometry count most).1, sane.geometry.transfer);
      room = host-room disk.drive.geometry.capacity disk.tables.roles host _ room.host_is apart.differ (omega (arith, free));
      next = omega (arith, room.next);
      in_range = entries-below trim first count (size_of disk.tables) in_range;
      ready = entries-ready disk.tables.map trim first count reserved;
    }

-- the next batch of a write, once it is built
pub may-write : (old new : MountedView) (host : Filling) (rest : Rest) (count : ℕ) (started builder : BuilderView) (g : Geometry) (trim : Bool) → new.drive ≡ old.drive → g ≡ old.drive.geometry → trim ≡ is_trim rest.content → IsSane new → AreApart new.tables.roles → IsRoom old host → CanWrite old rest
    → count ≡ batch_count g host rest.left trim → SameButReady old.tables new.tables → AreReserved new.tables.map rest.first count → started.heading ≡ next_heading old trim rest.first count
    → started.bytes ≡ header_of old trim rest.first count → builder.heading ≡ started.heading → builder.bytes ≡ started.bytes ++ bytes_of (count * g.block) rest.content
    → MaySend new host.zone builder
may-write old new host rest count started builder g trim drive g-is trim-is sane apart room write count-is more reserved heading bytes kept added =
    let h = new.drive.geometry in
    let same : size_of new.tables ≡ size_of old.tables = ap length more.places in
    let size = size_of new.tables in
    let here = same-room old new host drive more room in
    let first = rest.first in
    let content = rest.content in
    let block : g.block ≡ h.block = rw (drive, g-is) refl in
    let whole = rw (← g-is) at write.whole in
    let large = large-block h sane.geometry in
    let counted : count ≡ batch_count h host rest.left (is_trim content) = rw (drive, ← g-is, ← trim-is) count-is in
    let takes : TakesCount h host rest.left (is_trim content) count = rw counted (count-takes h host rest.left (is_trim content) sane.geometry here.free write.some) in
    let within : first + count ≤ size = omega (arith, takes.few, write.in_range, same) in
    let is_size : IsSize size = (omega (arith, within, takes.some), sane.short) in
    let heading_is : builder.heading ≡ next_heading new (is_trim content) first count = rw (same, more.next, ← trim-is) (kept ∙ heading) in
    let bytes_are : builder.bytes ≡ header_block h.block (next_heading new (is_trim content) first count) ++ bytes_of (count * h.block) content =
    rw (same, more.next, drive, ← trim-is, ← g-is) (added ∙ ap (λ (xs : List ℕ). xs ++ bytes_of (count * g.block) content) (rw (← g-is) at bytes)) in
    let long = length-content h.block first count rest.left content takes.few (rw block at whole) in
    let made = built-batch h.block size new.tables.next (is_trim content) first count _ builder (omega (arith, large)) is_size (few-entries h count takes.most).0 (omega (arith, here.next)) (omega (arith, sane.short, within)) long heading_is bytes_are in
    record {
      built_is = made.built_is;
      may = rw made.batch_is (may_place new host (is_trim content) first count _ sane apart here within takes.most (omega (arith, takes.room, data_count-anywhere (is_trim content) first 0 count)) size (omega arith) sane.short reserved (rw heading_is at made.says));
    }

-- the batch of a growth
pub may-grow : (disk : MountedView) (host : Filling) (size : ℕ) (builder : BuilderView) (g : Geometry) → g ≡ disk.drive.geometry → IsSane disk → AreApart disk.tables.roles → IsRoom disk host → size_of disk.tables ≤ size → IsSize size
    → builder.heading ≡ host_heading size disk.tables.next true 0 0 → builder.bytes ≡ header_block g.block (host_heading size disk.tables.next true 0 0) → MaySend disk host.zone builder
may-grow disk host size builder g g-is sane apart room grows is_size heading bytes =
    let h = disk.drive.geometry in
    let large = large-block h sane.geometry in
    let header = header_block h.block (host_heading size disk.tables.next true 0 0) in
    let none : 0 ≡ data_count (entries_from true 0 0) * h.block = omega arith in
    let made = built-batch h.block size disk.tables.next true 0 0 [] builder (omega (arith, large)) is_size (omega arith) (omega (arith, room.next)) (omega arith) none heading ((rw g-is at bytes) ∙ sym (append-nil header)) in
    record {
      built_is = made.built_is;
      may = rw made.batch_is (may_place disk host true 0 0 _ sane apart room (omega arith) (omega arith) (omega (arith, room.free)) size grows is_size.1 (λ block low high. absurd (omega arith)) (rw heading at made.says));
    }

-- ---- a batch of a list

-- the next one, once it is built
pub may-list : (old new : MountedView) (host : Filling) (left : ListRest) (taken : Taken) (started builder : BuilderView) (g : Geometry) → new.drive ≡ old.drive → g ≡ old.drive.geometry → IsSane new → AreApart new.tables.roles → IsRoom old host → CanPutAll old left → TakesMost g host left.entries.now taken
    → SameButReady old.tables new.tables → AllByRecursion (λ (e : Entry). IsReady new.tables.map e.block) (take taken.entries left.entries.now)
    → started.heading ≡ listed_heading old (take taken.entries left.entries.now) → started.bytes ≡ header_block old.drive.geometry.block (listed_heading old (take taken.entries left.entries.now))
    → builder.heading ≡ started.heading → builder.bytes ≡ started.bytes ++ take (taken.blocks * g.block) left.bytes.now → MaySend new host.zone builder
may-list old new host left taken started builder g drive g-is sane apart room can took more ready heading bytes kept added =
    let h = new.drive.geometry in
    let same : size_of new.tables ≡ size_of old.tables = ap length more.places in
    let size = size_of new.tables in
    let here = same-room old new host drive more room in
    let all = left.entries.now in
    let es = take taken.entries all in
    let body = take (taken.blocks * h.block) left.bytes.now in
    let takes : TakesMost h host all taken = rw (drive, ← g-is) took in
    let large = large-block h sane.geometry in
    let long_es : length es ≡ taken.entries = omega (arith, length-take taken.entries all, takes.front.few) in
    let below = all-front (λ (e : Entry). e.block < size) taken.entries all (rw (← same) at can.in_range) in
    let distinct = distinct-front taken.entries all can.distinct in
    let some : 1 ≤ size = below-some es (omega (arith, long_es, takes.front.some)) size below in
    let is_size : IsSize size = (some, sane.short) in
    let says = listed-heading h.block size new.tables.next es is_size (omega (arith, long_es, takes.most)) (omega (arith, here.next)) (omega (arith, sane.short)) below distinct in
    let whole = rw (← drive) at can.whole in
    let enough : taken.blocks * h.block ≤ data_count all * h.block = mul-le taken.blocks h.block (data_count all) h.block (omega (arith, takes.front.data_is, few-data taken.entries all)) (omega arith) in
    let long_body : length body ≡ taken.blocks * h.block = omega (arith, length-take (taken.blocks * h.block) left.bytes.now, whole, enough) in
    let long : length body ≡ data_count es * h.block = long_body ∙ ap (λ (k : ℕ). k * h.block) takes.front.data_is in
    let heading_is : builder.heading ≡ listed_heading new es = rw (same, more.next) (kept ∙ heading) in
    let bytes_are : builder.bytes ≡ header_block h.block (listed_heading new es) ++ body = rw (same, more.next, drive, ← g-is) (added ∙ ap (λ (xs : List ℕ). xs ++ take (taken.blocks * g.block) left.bytes.now) (rw (← g-is) at bytes)) in
    let made = built-listed h.block (listed_heading new es) body builder (omega (arith, large)) says long heading_is bytes_are in
    let few_data = data-few es in
    record {
      built_is = made.built_is;
      may = rw made.batch_is (record {
        sane = sane;
        filling = filling-host new.tables.roles host here.host_is;
        heading = says;
        grows = omega arith;
        short = sane.short;
        few = omega (arith, few_data, long_es, takes.most, sane.geometry.transfer);
        room = host-room h.capacity new.tables.roles host _ here.host_is apart.differ (omega (arith, takes.room, takes.front.data_is));
        next = omega (arith, here.next);
        in_range = below;
        ready = ready;
      });
    }
  where
    below-some : (es : List Entry) → 1 ≤ length es → (size : ℕ) → AllByRecursion (λ (e : Entry). e.block < size) es → 1 ≤ size
    below-some [] some size below = absurd (omega (arith, some))
    below-some (e ∷ es) some size below = omega (arith, below.0)

-- ---- after it was sent

-- the tables have more room, and the drive is the same
pub range-ready : (a b : MountedView) → b.drive ≡ a.drive → SameButReady a.tables b.tables → IsSane a → StaysOfSize a b
range-ready a b drive more sane = record {
  range = record {
    shape = record { geometry = ap (λ (d : DriveState). d.geometry) drive; trusted = λ t. rw drive at t; unfailing = λ up. rw drive at up };
    sane = record {
      geometry = rw drive sane.geometry;
      one_drive = rw (more.zones, more.roles) sane.one_drive;
      zones = rw (more.zones, drive) sane.zones;
      short = rw more.places sane.short;
      next = rw more.next sane.next;
      fillings_are = rw (drive, more.roles) sane.fillings_are;
      readable = λ up. more.unreadable ∙ sane.readable (rw drive at up);
    };
    given = more.given;
  };
  size = ap length more.places;
}

-- a batch that says the size was sent
pub range-appended : (a b : MountedView) (zone : ℕ) (batch : Batch) (result : Result (Unit {0}) PortFault) → batch.heading.size ≡ Some (size_of a.tables) → KeepsShape a.drive b.drive → IsSane b → TablesAfter a.drive.geometry a.tables zone batch result b.tables → StaysOfSize a b
range-appended a b zone batch result says shape sane after = range-cleaned a b (stays-appended a b zone batch result says shape sane after)

-- any batch was sent
after-given : (a b : MountedView) (zone : ℕ) (batch : Batch) (result : Result (Unit {0}) PortFault) → TablesAfter a.drive.geometry a.tables zone batch result b.tables → b.tables.given ≡ a.tables.given
after-given a b zone batch (Ok done) counts = counts.given
after-given a b zone batch (Err fault) left = elim left as (λ _. b.tables.given ≡ a.tables.given) [ inl kept ↦ ap (λ (t : TablesView). t.given) kept | inr closed ↦ ap (λ (t : TablesView). t.given) closed ]

pub range-grown : (a b c : MountedView) (zone : ℕ) (batch : Batch) (result : Result (Unit {0}) PortFault) → StaysOfSize a b → KeepsShape b.drive c.drive → IsSane c → TablesAfter b.drive.geometry b.tables zone batch result c.tables → StaysInRange a c
range-grown a b c zone batch result found shape sane after = record {
  shape = record { geometry = shape.geometry ∙ found.range.shape.geometry; trusted = λ t. found.range.shape.trusted (shape.trusted t); unfailing = λ up. found.range.shape.unfailing (shape.unfailing up) };
  sane = sane;
  given = after-given b c zone batch result after ∙ found.range.given;
}

-- done, the tables have the size that it says
pub grown-size : (a b : MountedView) (zone size : ℕ) (batch : Batch) → batch.heading.size ≡ Some size → TablesAfter a.drive.geometry a.tables zone batch (Ok tt) b.tables → size_of b.tables ≡ size
grown-size a b zone size batch says counts = counts.size ∙ ap (size_or (size_of a.tables)) says

-- refused, the size is the same
pub refused-size : (a b : MountedView) (zone : ℕ) (batch : Batch) (fault : PortFault) → TablesAfter a.drive.geometry a.tables zone batch (Err fault) b.tables → size_of b.tables ≡ size_of a.tables
refused-size a b zone batch fault left = elim left as (λ _. size_of b.tables ≡ size_of a.tables) [ inl kept ↦ ap size_of kept | inr closed ↦ ap size_of closed ]
