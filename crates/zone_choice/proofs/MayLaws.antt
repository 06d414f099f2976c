-- What a batch needs to be sent and placed, whatever the Reads returned: its numbers are in range.
use Rattle.std.proofs.Common.{◌≡◌, ℕ, ◌+◌, ◌*◌, ◌/◌, ◌<◌, ◌≤◌, ◌^◌, List, [], ◌∷◌, length, Option, Some, None, refl, sym, ap, ◌∙◌, inl, inr, arith}
use Rattle.std.specs.List.{AllByRecursion}
use Rattle.std.specs.Prelude.{IfSome}
use Rattle.std.proofs.lemmas.List.{length-set}
use Rattle.std.proofs.lemmas.Nat.{mul-le}
use Rattle.drive_port.specs.Calls.{Appended, IsWholeBlocks}
use Rattle.drive_port.specs.Contents.{content_at, contents}
use Rattle.drive_port.specs.Drive.{DriveState, IsLawful}
use Rattle.batch_log.specs.declared.header.Entry.{Entry}
use Rattle.batch_log.specs.Log.{Batch, batch_size, one_unless}
use Rattle.logical_map.specs.Places.{IsReady}
use Rattle.logical_map.specs.declared.place.Place.{Place}
use Rattle.logical_map.specs.declared.place.Place.TheVariants as places
use Rattle.zone_choice.specs.declared.roles.Filling.{Filling}
use Rattle.zone_choice.specs.Agreement.{mounted}
use Rattle.zone_choice.specs.Builder.{BuilderView, IsBuilt, built, entry_place, placed}
use Rattle.zone_choice.specs.Changes.{roles_alone, size_with}
use Rattle.zone_choice.specs.Roles.{fillings}
use Rattle.zone_choice.specs.Sane.{CountsBatch, MayPlace}
use Rattle.zone_choice.specs.Tables.{GrowsTo, TablesView, size_of}
use Rattle.drive_array.specs.Sizes.{size_or}
use Rattle.drive_array.proofs.AllLaws.{all-weaker}
use Rattle.zone_choice.proofs.AgreementLaws.{length-extended, written_in}
use Rattle.zone_choice.proofs.ChangeLaws.{sized, tables_placed}
use Rattle.zone_choice.proofs.CommandLaws.{zone-few, zone-start}
use Rattle.zone_choice.proofs.SaneLaws.{filling-within}

-- the Append is of whole blocks
pub whole_blocks : (old : DriveState) (tables : TablesView) (zone : ℕ) (builder : BuilderView) (bytes : List ℕ) → bytes ≡ builder.bytes → IsBuilt old.geometry.block builder → MayPlace (mounted old tables) zone (built old.geometry.block builder) → IsWholeBlocks old.geometry.block bytes
whole_blocks old tables zone builder bytes bytes-are is may =
    let g = old.geometry in
    let s = sized g builder may.sane.geometry may.heading is in
    let same : length builder.bytes / g.block ≡ batch_size (built g.block builder) = s.count_is in
    rw bytes-are (record {
      whole = s.long ∙ ap (λ (n : ℕ). n * g.block) (sym same);
      some = omega (arith, same);
      few = omega (arith, same, may.few, may.sane.geometry.transfer);
    })

-- where a batch is
pub address-fits : (old new : DriveState) (tables : TablesView) (zone start address : ℕ) (builder : BuilderView) (bytes : List ℕ) → MayPlace (mounted old tables) zone (built old.geometry.block builder) → start ≡ zone * old.geometry.size → IsLawful old
    → Appended old new start bytes address → address < 2 ^ 62
address-fits old new tables zone start address builder bytes may start-is lawful appended =
    let g = old.geometry in
    let range = may.sane.geometry in
    let lt : zone < g.zones = filling-within (mounted old tables) zone may.sane may.filling in
    let index = (zone-start zone g.size range.size.0).0 in
    let here : length (content_at (contents old.zones) (start / g.size)).blocks ≡ written_in old zone = rw (start-is, index) refl in
    let full = zone-few old zone lawful (omega (arith, lt, lawful.count)) in
    let below : zone * g.size ≤ 65536 * 1048576 = mul-le zone g.size 65536 1048576 (omega (arith, lt, range.zones)) (omega (arith, range.size)) in
    omega (arith, appended.address_is, here, start-is, below, full, range.capacity, range.size)

-- no zone that is being filled has more written than its number holds
pub written-fits : (old : DriveState) (tables grown : TablesView) (zone blocks : ℕ) (builder : BuilderView) → MayPlace (mounted old tables) zone (built old.geometry.block builder) → blocks ≡ batch_size (built old.geometry.block builder) → grown.roles ≡ tables.roles
    → AllByRecursion (λ f. f.written + blocks < 2 ^ 32) (fillings grown.roles)
written-fits old tables grown zone blocks builder may blocks-is roles =
    let few = may.few in
    let transfer = may.sane.geometry.transfer in
    let capacity = may.sane.geometry.capacity in
    let size = may.sane.geometry.size in
    rw roles (all-weaker (λ (f : Filling). (f.zone < old.geometry.zones) × (f.written ≤ old.geometry.capacity)) (λ (f : Filling). f.written + blocks < 2 ^ 32) (fillings tables.roles) (λ f within. omega (arith, within.1)) may.sane.fillings_are)

-- its blocks are the disk's and are ready, once the disk has its size
pub record GrownReady (grown : TablesView) (entries : List Entry) : Type 0 where
  pub in_range : AllByRecursion (λ (e : Entry). e.block < size_of grown) entries
  pub ready : AllByRecursion (λ (e : Entry). IsReady grown.map e.block) entries
  pub short : size_of grown ≤ 2 ^ 31
  pub next : grown.next < 2 ^ 63

-- the size that the batch says, if any, is none below the disk's
pub says-size : (tables : TablesView) (b : Batch) → size_of tables ≤ size_with tables b → IfSome b.heading.size (λ size. size_of tables ≤ size)
says-size tables b grows = at b.heading.size grows
  where
    at : (o : Option ℕ) → size_of tables ≤ size_or (size_of tables) o → IfSome o (λ size. size_of tables ≤ size)
    at None h = tt
    at (Some size) h = h

-- once the map has grown, the blocks of the batch can be placed
pub grown-ready : (old : DriveState) (tables grown : TablesView) (zone : ℕ) (builder : BuilderView) → MayPlace (mounted old tables) zone (built old.geometry.block builder) → GrowsTo tables (size_with tables (built old.geometry.block builder)) grown → GrownReady grown builder.heading.entries
grown-ready old tables grown zone builder may grows =
    let size = size_with tables (built old.geometry.block builder) in
    let long : size_of grown ≡ size = ap length grows.places ∙ length-extended places.None size tables.map.places may.grows in
    record {
      in_range = all-weaker (λ (e : Entry). e.block < size_of tables) (λ (e : Entry). e.block < size_of grown) builder.heading.entries (λ e lt. omega (arith, lt, may.grows, long)) may.in_range;
      ready = all-weaker (λ (e : Entry). IsReady tables.map e.block) (λ (e : Entry). IsReady grown.map e.block) builder.heading.entries (λ e is. grows.ready e.block is) may.ready;
      short = omega (arith, long, may.short);
      next = omega (arith, grows.next, may.next);
    }

-- a batch that can be placed has few entries
pub few-entries : (old : DriveState) (tables : TablesView) (zone : ℕ) (builder : BuilderView) → MayPlace (mounted old tables) zone (built old.geometry.block builder) → length builder.heading.entries < 2 ^ 31
few-entries old tables zone builder may =
    let room = may.heading.room in
    elim may.sane.geometry.block as (λ _. length builder.heading.entries < 2 ^ 31) [ inl e ↦ (let few = rw e at room in omega arith) | inr e ↦ (let few = rw e at room in omega arith) ]

-- the tables count it
pub tables-appended : (old : DriveState) (tables grown after : TablesView) (zone address blocks : ℕ) (builder : BuilderView) → MayPlace (mounted old tables) zone (built old.geometry.block builder) → roles_alone old.geometry tables.roles zone ≡ tables.roles → blocks ≡ batch_size (built old.geometry.block builder)
    → GrowsTo tables (size_with tables (built old.geometry.block builder)) grown → after ≡ tables_placed grown zone builder address blocks → CountsBatch old.geometry tables zone (built old.geometry.block builder) after
tables-appended old tables grown after zone address blocks builder may alone blocks-is grows after-is =
    let size = size_with tables (built old.geometry.block builder) in
    let long : size_of grown ≡ size = ap length grows.places ∙ length-extended places.None size tables.map.places may.grows in
    rw after-is (record {
      size = length-placed address (address + 1) builder.heading.entries grown.map.places ∙ long;
      zones = grows.zones;
      next = ap (λ (n : ℕ). n + 1) grows.next;
      given = grows.given;
      unreadable = grows.unreadable;
      roles = rw (grows.roles, blocks-is, alone) refl;
    })
  where
    length-placed : (header address : ℕ) (es : List Entry) (all : List Place) → length (placed header address es all) ≡ length all
    length-placed header address [] all = refl
    length-placed header address (e ∷ es) all = length-set (placed header (address + one_unless e.trim) es all) e.block (entry_place e.trim header address) ∙ length-placed header (address + one_unless e.trim) es all
