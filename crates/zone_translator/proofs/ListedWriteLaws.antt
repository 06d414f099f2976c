-- A batch of a list is built and appended, and what a stop inside its Append leaves.
use Rattle.std.proofs.Common.{◌≡◌, ◌⊎◌, ℕ, ◌+◌, ◌*◌, ◌<◌, ◌≤◌, ◌^◌, Bool, List, [], ◌∷◌, ◌++◌, map, get_or, length, take, drop, Option, Some, None, Result, Ok, Err, refl, sym, ap, subst, ◌∙◌, inl, inr, arith}
use Rattle.std.specs.Prelude.{nat_eq}
use Rattle.std.specs.List.{AllByRecursion, IsDistinct}
use Rattle.std.proofs.Math.ListN.{get_or-map}
use Rattle.std.proofs.lemmas.List.{drop_at, length-take, take_all}
use Rattle.std.proofs.lemmas.Nat.{mul-le}
use Rattle.zone_states.specs.declared.geometry.Geometry.{Geometry}
use Rattle.zone_states.specs.Zone.{cut_blocks}
use Rattle.zone_states.proofs.Cutting.{cut-front}
use Rattle.drive_port.specs.Drive.{DriveState}
use Rattle.drive_port.specs.declared.device.Halt.{Halt}
use Rattle.drive_port.specs.declared.device.Halt.TheVariants as halt
use Rattle.batch_log.specs.declared.header.Entry.{Entry}
use Rattle.batch_log.specs.declared.header.Kind.TheVariants.{Host}
use Rattle.batch_log.specs.Header.{Heading, IsHeading, IsSize, entry_room, header_block}
use Rattle.batch_log.specs.Log.{Batch, data_count, zero_block}
use Rattle.batch_log.proofs.HeaderLaws.{header_length}
use Rattle.batch_log.proofs.LentLaws.{data-few}
use Rattle.logical_map.specs.Places.{IsReady}
use Rattle.logical_map.specs.declared.place.Place.{Place}
use Rattle.logical_map.specs.declared.place.Place.TheVariants as places
use Rattle.zone_choice.specs.declared.roles.Filling.{Filling}
use Rattle.zone_choice.specs.Agreement.{Agrees, MountedView, mounted_array}
use Rattle.drive_array.specs.ZoneLogs.{drive_logs, encoded}
use Rattle.zone_choice.specs.Builder.{BuilderView, IsBuilt, built}
use Rattle.zone_choice.specs.Changes.{CanPlace, StopsInside, next_address, size_with, told_over}
use Rattle.drive_array.specs.Sizes.{extended, size_or}
use Rattle.drive_array.specs.Mountable.{IsMountable}
use Rattle.zone_choice.specs.Tables.{SameButReady, size_of}
use Rattle.zone_choice.proofs.AgreementLaws.{extended-same, size-encoded}
use Rattle.drive_array.proofs.WholeLaws.{length-encoded}
use Rattle.zone_choice.proofs.AloneLaws.{stops-tables}
use Rattle.zone_choice.proofs.ChangeLaws.{large-block}
use Rattle.zone_cleaner.specs.Clean.{CleanView}
use Rattle.zone_cleaner.specs.Host.{HostLeaves}
use Rattle.zone_cleaner.specs.Start.{AgreesWithClean, KeepsByCleaning}
use Rattle.zone_cleaner.specs.Clean.{trims}
use Rattle.zone_translator.specs.declared.list.ListRest.{ListRest}
use Rattle.zone_translator.specs.declared.list.Taken.{Taken}
use Rattle.drive_array.specs.Records.{append_log}
use Rattle.zone_translator.specs.Batches.{IsCut, IsRoom, KeepsCutTo, names}
use Rattle.zone_translator.specs.Flat.{IsListFront, Put, put_all}
use Rattle.zone_translator.specs.Listed.{CanPutAll, IsNextListed, ListedLeaves, NamesAll, PutsAll, TakesMost, last_block, left_puts, listed_heading, puts_of}
use Rattle.zone_translator.specs.declared.fault.DiskFault.{DiskFault}
use Rattle.zone_translator.specs.declared.fault.DiskFault.TheVariants.{OutOfRange, OutOfMemory, Stopped, Spent, Unmounted, Smaller, Reserve, Damaged, Failed}
use Rattle.zone_translator.specs.Changes.{IsCause, RoomLeaves, StopKeeps, disk_fault}
use Rattle.zone_translator.proofs.ListedLaws.{all-front, distinct-front, few-data, length-puts, names-all-placed, names-last_block, over-puts, puts-front}
use Rattle.zone_translator.proofs.RoomLaws.{filling-host, host-filled, room-stops}
use Rattle.zone_translator.proofs.WriteLaws.{append_stops, appended-size, cut-batch, failed-left, keeps-placed, memory-left, room-array, same-room}

-- ---- what is built can be appended

below-more : (size limit : ℕ) (es : List Entry) → size ≤ limit → AllByRecursion (λ (e : Entry). e.block < size) es → AllByRecursion (λ (e : Entry). e.block < limit) es
below-more size limit [] le all = tt
below-more size limit (e ∷ es) le all = (omega (arith, all.0, le), below-more size limit es le all.1)

abbrev pub heading_with : ℕ → ℕ → List Entry → Heading
heading_with size sequence es = record { kind = Host; sequence = sequence; source = 0; size = Some size; entries = es }

-- a heading of ours can be encoded
pub listed-heading : (block_bytes size sequence : ℕ) (es : List Entry) → IsSize size → length es ≤ entry_room block_bytes → sequence < 2 ^ 64 → size ≤ 2 ^ 63 → AllByRecursion (λ (e : Entry). e.block < size) es
    → IsDistinct nat_eq (map (λ (e : Entry). e.block) es) → IsHeading block_bytes (heading_with size sequence es)
listed-heading block_bytes size sequence es is_size room short le below distinct = record {
  room = room;
  sequence = short;
  source = omega arith;
  host = λ e. refl;
  size = is_size;
  blocks = below-more size (2 ^ 63) es le below;
  distinct = distinct;
}

-- the batch that was built
pub record IsBuiltListed (block : ℕ) (heading : Heading) (body : List ℕ) (builder : BuilderView) : Type 0 where
  pub built_is : IsBuilt block builder
  pub says : IsHeading block builder.heading
  pub batch_is : built block builder ≡ record { heading = heading; body = cut_blocks block (data_count heading.entries) body }

pub built-listed : (block : ℕ) (heading : Heading) (body : List ℕ) (builder : BuilderView) → 32 ≤ block → IsHeading block heading → length body ≡ data_count heading.entries * block
    → builder.heading ≡ heading → builder.bytes ≡ header_block block heading ++ body → IsBuiltListed block heading body builder
built-listed block heading body builder large says long heading-is bytes-are =
    let rest : drop block builder.bytes ≡ body = ap (drop block) bytes-are ∙ drop_at (header_block block heading) body block (header_length block heading large says) in
    record {
      built_is = record {
        header = rw (heading-is, rest) bytes-are;
        data_length = rw (heading-is, rest) long;
      };
      says = rw heading-is says;
      batch_is = rw (heading-is, rest) refl;
    }

-- the next batch of a list
pub next-listed : (disk : MountedView) (host : Filling) (left : ListRest) (taken : Taken) (builder : BuilderView) → Agrees disk → IsRoom disk host → CanPutAll disk left → TakesMost disk.drive.geometry host left.entries.now taken
    → AllByRecursion (λ (e : Entry). IsReady disk.tables.map e.block) (take taken.entries left.entries.now) → builder.heading ≡ listed_heading disk (take taken.entries left.entries.now)
    → builder.bytes ≡ header_block disk.drive.geometry.block (listed_heading disk (take taken.entries left.entries.now)) ++ take (taken.blocks * disk.drive.geometry.block) left.bytes.now
    → IsNextListed disk host left builder taken.entries
next-listed disk host left taken builder agrees room can takes ready heading bytes =
    let g = disk.drive.geometry in
    let size = size_of disk.tables in
    let all = left.entries.now in
    let es = take taken.entries all in
    let body = take (taken.blocks * g.block) left.bytes.now in
    let large = large-block g agrees.geometry in
    let is_size : IsSize size = (agrees.reserve.0, agrees.reserve.1) in
    let long_es : length es ≡ taken.entries = omega (arith, length-take taken.entries all, takes.front.few) in
    let below = all-front (λ (e : Entry). e.block < size) taken.entries all can.in_range in
    let distinct = distinct-front taken.entries all can.distinct in
    let says = listed-heading g.block size disk.tables.next es is_size (omega (arith, long_es, takes.most)) (omega (arith, room.next)) (omega (arith, agrees.reserve.1)) below distinct in
    let enough : taken.blocks * g.block ≤ data_count all * g.block = mul-le taken.blocks g.block (data_count all) g.block (omega (arith, takes.front.data_is, few-data taken.entries all)) (omega arith) in
    let long_body : length body ≡ taken.blocks * g.block = omega (arith, length-take (taken.blocks * g.block) left.bytes.now, can.whole, enough) in
    let long : length body ≡ data_count es * g.block = long_body ∙ ap (λ (k : ℕ). k * g.block) takes.front.data_is in
    let made = built-listed g.block (listed_heading disk es) body builder (omega (arith, large)) says long heading bytes in
    let here = host-filled disk.drive disk.tables host room.host_is agrees in
    let few_data = data-few es in
    let array = mounted_array disk in
    let blocks = cut_blocks g.block (data_count all) left.bytes.now in
    let fewer : data_count es ≤ data_count all = few-data taken.entries all in
    let cut : cut_blocks g.block (data_count es) body ≡ take (data_count es) blocks =
    ap (λ (k : ℕ). cut_blocks g.block (data_count es) (take (k * g.block) left.bytes.now)) takes.front.data_is ∙ cut-front g.block (data_count all) (data_count es) left.bytes.now fewer in
    let same : length array ≡ size = length-encoded disk.drive disk.tables.given ∙ sym (size-encoded disk agrees) in
    let batch : Batch = record { heading = listed_heading disk es; body = cut_blocks g.block (data_count es) body } in
    let tells : told_over g.block batch array ≡ put_all array (take taken.entries (left_puts g left)) =
    rw (extended-same (zero_block g.block) size array same)
    (over-puts g.block disk.tables.next 0 (cut_blocks g.block (data_count es) body) es array distinct
    ∙ ap (λ (bs : List (List ℕ)). put_all array (puts_of g.block es bs)) cut
    ∙ ap (λ (ps : List Put). put_all array ps) (puts-front g.block taken.entries all blocks)) in
    let placing : CanPlace disk host.zone batch = record {
      agrees = agrees;
      filling = filling-host disk.tables.roles host room.host_is;
      heading = says;
      size = refl;
      grows = omega arith;
      reserve = agrees.reserve;
      few = omega (arith, few_data, long_es, takes.most, agrees.geometry.transfer);
      few_entries = omega (arith, long_es, takes.most);
      room = omega (arith, here.written, takes.room, takes.front.data_is);
      sequence = refl;
      next = room.next;
      in_range = below;
      ready = ready;
    } in
    record {
      built_is = made.built_is;
      can = rw made.batch_is placing;
      some = takes.front.some;
      few = omega (arith, takes.front.few, length-puts g.block all blocks);
      size = ap (λ (h : Heading). h.size) heading;
      entries = ap (λ (h : Heading). h.entries) heading;
      tells = ap (λ (b : Batch). told_over g.block b array) made.batch_is ∙ tells;
    }

-- the data that the batch takes are there
pub enough-bytes : (block n : ℕ) (left : ListRest) (taken : Taken) → taken.blocks ≡ data_count (take n left.entries.now) → length left.bytes.now ≡ data_count left.entries.now * block → taken.blocks * block ≤ length left.bytes.now
enough-bytes block n left taken is whole =
    let fewer : taken.blocks ≤ data_count left.entries.now = omega (arith, is, few-data n left.entries.now) in
    omega (arith, whole, mul-le taken.blocks block (data_count left.entries.now) block fewer (omega arith))

-- what is left can be written as before
pub list-kept : (b w : MountedView) (left : ListRest) → w.drive.geometry ≡ b.drive.geometry → size_of w.tables ≡ size_of b.tables → CanPutAll b left → CanPutAll w left
list-kept b w left same size can = record { some = can.some; in_range = rw size can.in_range; distinct = can.distinct; whole = rw same can.whole }

-- so the batch that is built then is the next one
pub build-listed : (old new : MountedView) (host : Filling) (left : ListRest) (taken : Taken) (started builder : BuilderView) (g : Geometry) → new.drive ≡ old.drive → g ≡ old.drive.geometry → Agrees old → IsRoom old host → CanPutAll old left
    → TakesMost g host left.entries.now taken → SameButReady old.tables new.tables → AllByRecursion (λ (e : Entry). IsReady new.tables.map e.block) (take taken.entries left.entries.now)
    → started.heading ≡ listed_heading old (take taken.entries left.entries.now) → started.bytes ≡ header_block old.drive.geometry.block (listed_heading old (take taken.entries left.entries.now))
    → builder.heading ≡ started.heading → builder.bytes ≡ started.bytes ++ take (taken.blocks * g.block) left.bytes.now → IsNextListed new host left builder taken.entries
build-listed old new host left taken started builder g drive g-is agrees room can takes more ready heading bytes kept added =
    let es = take taken.entries left.entries.now in
    let now = (room-array old new drive more agrees).agrees in
    let same : size_of new.tables ≡ size_of old.tables = ap length more.places in
    let heading_is : builder.heading ≡ listed_heading new es = rw (same, more.next) (kept ∙ heading) in
    let bytes_are : builder.bytes ≡ header_block new.drive.geometry.block (listed_heading new es) ++ take (taken.blocks * new.drive.geometry.block) left.bytes.now =
    rw (same, more.next, drive, ← g-is) (added ∙ ap (λ (xs : List ℕ). xs ++ take (taken.blocks * g.block) left.bytes.now) (rw (← g-is) at bytes)) in
    let counted : TakesMost new.drive.geometry host left.entries.now taken = rw (drive, ← g-is) takes in
    next-listed new host left taken builder now (same-room old new host drive more room) (list-kept old new left (ap (λ (d : DriveState). d.geometry) drive) same can) counted ready heading_is bytes_are

-- ---- what the batch writes

trims-at : (old new : List Place) (block : ℕ) → map trims new ≡ map trims old → trims (get_or new block places.None) ≡ trims (get_or old block places.None)
trims-at old new block same = sym (get_or-map trims new block places.None) ∙ ap (λ (all : List (Option Bool)). get_or all block None) same ∙ get_or-map trims old block places.None

names-all-kept : (es : List Entry) (old mid new : List Place) → map trims mid ≡ map trims old → NamesAll es mid new → NamesAll es old new
names-all-kept es old mid new same names = record { named = names.named; others = λ block out. names.others block out ∙ trims-at old mid block same }

-- the batch was appended, and writes its part
pub puts-written : (a b c : MountedView) (old new : Option CleanView) (host : Filling) (left : ListRest) (taken : Taken) (builder : BuilderView) → KeepsByCleaning a b → AgreesWithClean b old → CanPutAll a left
    → IsNextListed b host left builder taken.entries → HostLeaves b old host.zone (built b.drive.geometry.block builder) (Ok tt) c new → ListedLeaves a left (Ok taken) c new
puts-written a b c old new host left taken builder kept is can next leaves =
    let placed = leaves.0 in
    let u = b.tables in
    let es = take taken.entries left.entries.now in
    let puts = take taken.entries (left_puts b.drive.geometry left) in
    let batch = built b.drive.geometry.block builder in
    let same : size_with u batch ≡ size_of u = ap (size_or (size_of u)) next.size in
    let all : extended places.None (size_with u batch) u.map.places ≡ u.map.places = rw same (extended-same places.None (size_of u) u.map.places refl) in
    let inside : AllByRecursion (λ (e : Entry). e.block < length u.map.places) es = rw kept.size (all-front (λ (e : Entry). e.block < size_of a.tables) taken.entries left.entries.now can.in_range) in
    let names = names-all-placed (next_address b.drive host.zone) (next_address b.drive host.zone + 1) es u.map.places (distinct-front taken.entries left.entries.now can.distinct) inside in
    let done : PutsAll es puts a c new = record {
      serves = leaves.2.cleaned;
      keeps = keeps-placed a b c new host.zone batch kept placed leaves.2.cleaned;
      size = placed.size ∙ same ∙ kept.size;
      array = placed.array ∙ next.tells ∙ ap (λ (xs : List (List ℕ)). put_all xs puts) kept.array;
      names = names-all-kept es a.tables.map.places u.map.places c.tables.map.places kept.trimmed (rw (placed.places, all, next.entries) names);
      says = appended-size b.drive c.drive u c.tables host.zone (size_of u) batch is.0 next.can next.size (omega arith) placed ∙ ap (λ (k : ℕ). Some k) (sym (placed.size ∙ same));
      early = rw (← kept.geometry) (omega (arith, placed.next, next.can.next));
    } in
    subst (λ (g : Geometry). PutsAll es (take taken.entries (left_puts g left)) a c new) kept.geometry done

-- ---- a stop inside its Append

-- a front of none of the blocks
list-none : (old new : List (List ℕ)) (puts : List Put) → new ≡ old → IsListFront old puts new
list-none old new puts same = record { done = 0; within = omega arith; written = same }

listed_stops : (a b c : MountedView) (host : Filling) (left : ListRest) (count : ℕ) (builder : BuilderView) → KeepsByCleaning a b → IsNextListed b host left builder count
    → StopsInside b c host.zone (built b.drive.geometry.block builder) → IsMountable c.drive c.tables.given → StopKeeps a c × IsListFront (mounted_array a) (left_puts b.drive.geometry left) (mounted_array c)
listed_stops a b c host left count builder kept next stops mountable =
    let array = mounted_array a in
    let puts = left_puts b.drive.geometry left in
    let batch = built b.drive.geometry.block builder in
    let front : IsListFront array puts (encoded c.drive b.tables.given) = elim stops.left [
      | inl same ↦ list-none array (encoded c.drive b.tables.given) puts (same.array_is ∙ kept.array)
      | inr more ↦ record {
        done = count;
        within = next.few;
        written = more.array_is ∙ next.tells ∙ ap (λ (xs : List (List ℕ)). put_all xs (take count puts)) kept.array;
      }
    ] in
    (append_stops a b c host.zone batch kept stops mountable, rw (stops-tables b c host.zone batch stops).given front)

-- ---- refusals

-- what an Append that did not succeed leaves of a list
pub listed_halts : (a b c : MountedView) (old new : Option CleanView) (host : Filling) (left : ListRest) (count : ℕ) (builder : BuilderView) (fault : Halt) → KeepsByCleaning a b → AgreesWithClean b old
    → IsNextListed b host left builder count → HostLeaves b old host.zone (built b.drive.geometry.block builder) (Err fault) c new
    → ListedLeaves a left (Err (disk_fault fault)) c new × IsCause c.drive c.tables.next (disk_fault fault)
listed_halts a b c old new host left count builder halt.Memory kept is next leaves = (memory-left a b c old new host.zone (built b.drive.geometry.block builder) kept is leaves, tt)
listed_halts a b c old new host left count builder halt.Failed kept is next leaves = (failed-left a b c old new host.zone (built b.drive.geometry.block builder) kept is leaves, leaves.4)
listed_halts a b c old new host left count builder halt.Stopped kept is next leaves =
    let stops = listed_stops a b c host left count builder kept next leaves.0 leaves.2 in
    ((stops.0, subst (λ (g : Geometry). IsListFront (mounted_array a) (left_puts g left) (mounted_array c)) kept.geometry stops.1), leaves.0.stopped)

listed_without : (a b : MountedView) (clean : Option CleanView) (left : ListRest) (fault : DiskFault) → RoomLeaves {V = Filling} a b clean (Err fault) → IsCause b.drive b.tables.next fault → ListedLeaves a left (Err fault) b clean
listed_without a b clean left OutOfRange leaves cause = leaves
listed_without a b clean left OutOfMemory leaves cause = leaves
listed_without a b clean left Failed leaves cause = leaves
listed_without a b clean left Stopped leaves cause = (room-stops a b leaves cause, list-none (mounted_array a) (mounted_array b) (left_puts a.drive.geometry left) leaves.array)
listed_without a b clean left Spent leaves cause = leaves
listed_without a b clean left Smaller leaves cause = leaves
listed_without a b clean left Reserve leaves cause = leaves
listed_without a b clean left Unmounted leaves cause = leaves
listed_without a b clean left Damaged leaves cause = absurd leaves

-- there was no room for it
pub listed_no_room : (a b : MountedView) (clean : Option CleanView) (left : ListRest) (fault : DiskFault) (result : Result Taken DiskFault) → result ≡ Err fault → RoomLeaves {V = Filling} a b clean (Err fault) → IsCause b.drive b.tables.next fault → ListedLeaves a left result b clean
listed_no_room a b clean left fault result is leaves cause = rw is (listed_without a b clean left fault leaves cause)

-- or no memory
pub listed_no_memory : (a b : MountedView) (clean : Option CleanView) (left : ListRest) (result : Result Taken DiskFault) → result ≡ Err OutOfMemory → KeepsByCleaning a b × AgreesWithClean b clean → ListedLeaves a left result b clean
listed_no_memory a b clean left result is kept = rw is kept

-- ---- how it is cut

-- a batch of as many entries as it can take
cut-listed : (g : Geometry) (start : List (List Batch)) (host : Filling) (all : List Entry) (taken : Taken) (offset : ℕ) (b : Batch) → TakesMost g host all taken → b.heading.entries ≡ take taken.entries all → offset ≡ host.written → IsCut g start (last_block all) offset b
cut-listed g start host all taken offset b takes entries-are offset-is = elim takes.longest as (λ _. IsCut g start (last_block all) offset b) [
  | inl whole ↦ (
      let same : take taken.entries all ≡ all = take_all taken.entries all (omega (arith, whole)) in
      inr (inr (inr (inl (ap (names (last_block all)) (entries-are ∙ same) ∙ names-last_block all (omega (arith, takes.front.some, whole))))))
      )
  | inr (inl most) ↦ inr (inr (inl (ap length entries-are ∙ omega (arith, length-take taken.entries all, takes.front.few, most))))
  | inr (inr full) ↦ (
      let long : data_count b.heading.entries ≡ taken.blocks = ap data_count entries-are ∙ sym takes.front.data_is in
      inr (inr (inr (inr (omega (arith, long, full, offset-is)))))
      )
]

-- a batch that may have been appended is cut as it should be
pub cut-listed_appended : (a b : MountedView) (c : DriveState) (host : Filling) (left : ListRest) (taken : Taken) (builder : BuilderView) → KeepsByCleaning a b → Agrees b → IsRoom b host → TakesMost b.drive.geometry host left.entries.now taken
    → builder.heading.entries ≡ take taken.entries left.entries.now
    → (drive_logs c ≡ drive_logs b.drive) ⊎ (drive_logs c ≡ append_log (drive_logs b.drive) host.zone (built b.drive.geometry.block builder)) → KeepsCutTo (last_block left.entries.now) a.drive c
cut-listed_appended a b c host left taken builder kept agrees room takes entries logs =
    cut-batch a b c host (last_block left.entries.now) (built b.drive.geometry.block builder) kept agrees room
    (λ start offset offset-is. cut-listed b.drive.geometry start host left.entries.now taken offset (built b.drive.geometry.block builder) takes entries offset-is) logs
