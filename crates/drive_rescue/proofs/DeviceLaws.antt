-- What a device tells of its zones, and what a Read of one block gives.
use Rattle.std.proofs.Common.{◌≡◌, ◌⊎◌, inl, inr, ℕ, zero, suc, ◌+◌, ◌-◌, ◌*◌, ◌/◌, ◌%◌, ◌<◌, ◌≤◌, Bool, true, false, List, [], ◌∷◌, ◌++◌, map, length, get_or, replicate, Some, Result, Ok, Err, refl, sym, ap, ◌∙◌, arith, append-nil}
use Rattle.std.specs.Prelude.{IfOk, IsFalse, slice_get}
use Rattle.std.specs.List.{AllByRecursion}
use Rattle.std.proofs.lemmas.List.{get_or_append_left, get_or-append_right, get_or_default, get_or_past, get_or-replicate, length-append, length-replicate}
use Rattle.std.proofs.lemmas.Nat.{div-mul-add, mod-mul-add, mul-le}
use Rattle.std.proofs.Math.Nat.{add-mul}
use Rattle.nvme_wire.specs.declared.zone_state.ZoneState.{ZoneState}
use Rattle.nvme_wire.specs.declared.zone_state.ZoneState.TheVariants as states
use Rattle.zone_states.specs.declared.geometry.Geometry.{Geometry}
use Rattle.zone_states.specs.Geometry.{IsInRange}
use Rattle.zone_states.specs.Zone.{IsLawfulZone, MayHold, Zone}
use Rattle.drive_port.specs.Calls.{CanRead, IsNotRefused, Obeys, ReadGives, ReadShows}
use Rattle.drive_port.specs.Contents.{Content, block_at, bytes_at, contents}
use Rattle.drive_port.specs.Drive.{DriveState, IsClosing, IsLawful}
use Rattle.drive_port.specs.Halting.{Adds}
use Rattle.drive_port.specs.Step.{Effect, end_of, is_state, zone_at}
use Rattle.nvme_wire.specs.declared.command.Command.TheVariants.{Read}
use Rattle.nvme_wire.specs.declared.status.Status.TheVariants.{Success}
use Rattle.drive_port.proofs.StepLaws.{succeeded}
use Rattle.drive_port.specs.declared.device.Halt.{Halt}
use Rattle.drive_port.specs.declared.calls.PortFault.{PortFault}
use Rattle.drive_port.specs.declared.calls.PortFault.TheVariants as port
use Rattle.drive_port.proofs.ClosingLaws.{content_at-closing, content_at-contents}
use Rattle.batch_log.specs.Log.{zero_block}
use Rattle.drive_array.specs.ZoneLogs.{padding}
use Rattle.drive_array.proofs.AllLaws.{all-at}
use Rattle.zone_choice.specs.Changes.{IsHalt}
use Rattle.drive_survey.specs.declared.reported.ReportedZone.{ReportedZone}
use Rattle.drive_survey.specs.Reported.{AreReported, IsReported, KeepsZones, ReportsZones}
use Rattle.drive_survey.proofs.ReadLaws.{keeps-none}
use Rattle.drive_survey.proofs.ReportLaws.{lawful-closing}
use Rattle.drive_rescue.specs.Zones.{ReadZone, TellsAll, TellsZone, block_with, blocks_told, is_offline, is_open_ended, is_padded, read_blocks, read_zone, read_zones, zone_with}
use Rattle.drive_rescue.specs.declared.source.Reading.{Reading}
use Rattle.drive_rescue.specs.declared.source.Reading.TheVariants.{Held, Unreadable}
use Rattle.drive_rescue.specs.Rescue.{KeepsSource, ReadSays}
use Rattle.drive_rescue.specs.Sources.{damaged_once_failed}
use Rattle.drive_rescue.proofs.DamageLaws.{not-lasts}
use Rattle.drive_rescue.proofs.KeepLaws.{closing-read}

-- ---- a report

padded-length : (g : Geometry) (blocks : List (List ℕ)) → length blocks ≤ g.capacity → length (blocks ++ padding g true (length blocks)) ≡ g.capacity
padded-length g blocks le = omega (arith, length-append blocks (replicate (g.capacity - length blocks) (zero_block g.block)), length-replicate (g.capacity - length blocks) (zero_block g.block), le)

tells-one : (g : Geometry) (zone : Zone) (r : ReportedZone) (state : ZoneState) → zone.state ≡ state → MayHold state g.capacity (length zone.blocks) → IsReported g zone r → TellsZone g.capacity (read_zone g zone) r
tells-one g zone r state is held told = record {
  offline = ap is_offline (sym told.state);
  padded = ap is_padded (sym told.state);
  open_ended = ap is_open_ended (sym told.state);
  blocks = at state is held;
}
  where
    at : (s : ZoneState) → zone.state ≡ s → MayHold s g.capacity (length zone.blocks) → length (read_blocks g zone.state zone.blocks) ≡ blocks_told g.capacity r
    at states.Offline e h = rw (told.state, e) refl
    at states.ReadOnly e h = rw (told.state, e) (padded-length g zone.blocks h)
    at states.Full e h = rw (told.state, e) (padded-length g zone.blocks h)
    at states.Empty e h = let all = rw e at told.blocks in rw (told.state, e) (sym (all refl))
    at states.ImplicitlyOpened e h = let all = rw e at told.blocks in rw (told.state, e) (sym (all refl))
    at states.ExplicitlyOpened e h = let all = rw e at told.blocks in rw (told.state, e) (sym (all refl))
    at states.Closed e h = let all = rw e at told.blocks in rw (told.state, e) (sym (all refl))

count-told : (g : Geometry) (zones : List Zone) (reported : List ReportedZone) → AreReported g zones reported → length reported ≡ length (map (read_zone g) zones)
count-told g [] [] are = refl
count-told g [] (r ∷ rs) are = absurd are
count-told g (z ∷ zs) [] are = absurd are
count-told g (z ∷ zs) (r ∷ rs) are = ap suc (count-told g zs rs are.1)

each-told : (g : Geometry) (zones : List Zone) (reported : List ReportedZone) → AllByRecursion (IsLawfulZone g) zones → AreReported g zones reported → (n : ℕ) (r : ReportedZone) → slice_get reported n ≡ Some r
    → TellsZone g.capacity (zone_with (map (read_zone g) zones) n) r
each-told g [] [] all are n r is = absurd (cc)
each-told g [] (x ∷ xs) all are n r is = absurd are
each-told g (z ∷ zs) [] all are n r is = absurd are
each-told g (z ∷ zs) (x ∷ xs) all are zero r is = let some : Some x ≡ Some r = is in let same : x ≡ r = cc in rw (← same) (tells-one g z x z.state refl all.0.written are.0)
each-told g (z ∷ zs) (x ∷ xs) all are (suc n) r is = each-told g zs xs all.1 are.1 n r is

-- the zones are reported as they can be read
pub tells-all : (old new : DriveState) (reported : List ReportedZone) → IsLawful old → ReportsZones old reported new → TellsAll old.geometry.capacity (read_zones old) reported
tells-all old new reported lawful reports =
    let same = closing-read old.geometry old.zones reports.zones reports.before in
    let all = lawful-closing old.geometry old.zones reports.zones reports.before lawful.zones in
    rw (← same) (record { count = count-told old.geometry reports.zones reported reports.are; each = each-told old.geometry reports.zones reported all reports.are })

-- ---- a Read

zone-read : (g : Geometry) (zones : List Zone) (n : ℕ) → zone_with (map (read_zone g) zones) n ≡ read_zone g (zone_at zones n)
zone-read g [] n = refl
zone-read g (z ∷ zs) zero = refl
zone-read g (z ∷ zs) (suc n) = zone-read g zs n

few-there : (g : Geometry) (zones : List Zone) (n offset : ℕ) → offset < length (zone_with (map (read_zone g) zones) n).blocks → n < length zones
few-there g [] n offset lt = absurd (omega (arith, lt))
few-there g (z ∷ zs) zero offset lt = omega arith
few-there g (z ∷ zs) (suc n) offset lt = let rest = few-there g zs n offset lt in omega (arith, rest)

-- a zone that has blocks to be read: it is not Offline, and these are within its capacity
record Readable (g : Geometry) (zone : Zone) (offset : ℕ) : Type 0 where
  online : is_state states.Offline zone.state ≡ false
  within : offset < g.capacity
  shows : get_or zone.blocks offset (replicate g.block 0) ≡ get_or (read_zone g zone).blocks offset []

padded-at : (g : Geometry) (blocks : List (List ℕ)) (p : Bool) (offset : ℕ) → offset < length (blocks ++ padding g p (length blocks)) → get_or blocks offset (replicate g.block 0) ≡ get_or (blocks ++ padding g p (length blocks)) offset []
padded-at g blocks false offset lt =
    let all = append-nil blocks in
    rw all (get_or_default blocks offset (replicate g.block 0) [] (omega (arith, lt, ap length all)))
padded-at g blocks true offset lt = at (offset_in offset (length blocks))
  where
    zeros : List (List ℕ)
    zeros = replicate (g.capacity - length blocks) (zero_block g.block)

    offset_in : (a b : ℕ) → (a < b) ⊎ (b ≤ a)
    offset_in a zero = inr (omega arith)
    offset_in zero (suc b) = inl (omega arith)
    offset_in (suc a) (suc b) = elim (offset_in a b) [ inl below ↦ inl (omega (arith, below)) | inr above ↦ inr (omega (arith, above)) ]

    at : (offset < length blocks) ⊎ (length blocks ≤ offset) → get_or blocks offset (replicate g.block 0) ≡ get_or (blocks ++ replicate (g.capacity - length blocks) (zero_block g.block)) offset []
    at (inl below) = get_or_default blocks offset (replicate g.block 0) [] below ∙ sym (get_or_append_left blocks (replicate (g.capacity - length blocks) (zero_block g.block)) [] offset below)
    at (inr above) =
        let j = offset - length blocks in
        let few : j < g.capacity - length blocks = omega (arith, lt, above, length-append blocks (replicate (g.capacity - length blocks) (zero_block g.block)), length-replicate (g.capacity - length blocks) (zero_block g.block)) in
        get_or_past blocks offset (replicate g.block 0) above
        ∙ sym (get_or-append_right blocks (replicate (g.capacity - length blocks) (zero_block g.block)) (length blocks) offset [] refl above ∙ get_or-replicate (g.capacity - length blocks) j (zero_block g.block) [] few)

can-hold : (g : Geometry) (state : ZoneState) (n : ℕ) → MayHold state g.capacity n → n ≤ g.capacity
can-hold g states.Empty n h = omega (arith, h)
can-hold g states.ImplicitlyOpened n h = omega (arith, h)
can-hold g states.ExplicitlyOpened n h = omega (arith, h)
can-hold g states.Closed n h = omega (arith, h)
can-hold g states.ReadOnly n h = h
can-hold g states.Full n h = h
can-hold g states.Offline n h = h

within-capacity : (g : Geometry) (blocks : List (List ℕ)) (p : Bool) (offset : ℕ) → length blocks ≤ g.capacity → offset < length (blocks ++ padding g p (length blocks)) → offset < g.capacity
within-capacity g blocks true offset le lt = omega (arith, lt, padded-length g blocks le)
within-capacity g blocks false offset le lt = omega (arith, lt, ap length (append-nil blocks), le)

readable-at : (g : Geometry) (zone : Zone) (state : ZoneState) (offset : ℕ) → zone.state ≡ state → length zone.blocks ≤ g.capacity → offset < length (read_zone g zone).blocks → Readable g zone offset
readable-at g zone states.Offline offset is le lt = absurd (let none = rw is at lt in omega (arith, none))
readable-at g zone states.Empty offset is le lt = let lt' = rw is at lt in record { online = rw is refl; within = within-capacity g zone.blocks false offset le lt'; shows = rw is (padded-at g zone.blocks false offset lt') }
readable-at g zone states.ImplicitlyOpened offset is le lt = let lt' = rw is at lt in record { online = rw is refl; within = within-capacity g zone.blocks false offset le lt'; shows = rw is (padded-at g zone.blocks false offset lt') }
readable-at g zone states.ExplicitlyOpened offset is le lt = let lt' = rw is at lt in record { online = rw is refl; within = within-capacity g zone.blocks false offset le lt'; shows = rw is (padded-at g zone.blocks false offset lt') }
readable-at g zone states.Closed offset is le lt = let lt' = rw is at lt in record { online = rw is refl; within = within-capacity g zone.blocks false offset le lt'; shows = rw is (padded-at g zone.blocks false offset lt') }
readable-at g zone states.ReadOnly offset is le lt = let lt' = rw is at lt in record { online = rw is refl; within = within-capacity g zone.blocks true offset le lt'; shows = rw is (padded-at g zone.blocks true offset lt') }
readable-at g zone states.Full offset is le lt = let lt' = rw is at lt in record { online = rw is refl; within = within-capacity g zone.blocks true offset le lt'; shows = rw is (padded-at g zone.blocks true offset lt') }

-- A Read of a block at this address is allowed, and shows the block.
pub record ReadsBlock (drive : DriveState) (number offset address : ℕ) : Type 0 where
  pub can : CanRead drive address 1
  pub shows : block_at drive.geometry (contents drive.zones) address ≡ block_with (read_zones drive) number offset
  pub long : length (block_at drive.geometry (contents drive.zones) address) ≡ drive.geometry.block

long-block : (g : Geometry) (blocks : List (List ℕ)) (offset : ℕ) → AllByRecursion (λ (block : List ℕ). length block ≡ g.block) blocks → length (get_or blocks offset (replicate g.block 0)) ≡ g.block
long-block g [] offset all = length-replicate g.block 0
long-block g (b ∷ bs) zero all = all.0
long-block g (b ∷ bs) (suc k) all = long-block g bs k all.1

pub reads-block : (drive : DriveState) (number offset address : ℕ) → IsInRange drive.geometry → IsLawful drive → offset < length (zone_with (read_zones drive) number).blocks → address ≡ number * drive.geometry.size + offset → ReadsBlock drive number offset address
reads-block drive number offset address range lawful lt is =
    let g = drive.geometry in
    let there : number < length drive.zones = few-there g drive.zones number offset lt in
    let zone = zone_at drive.zones number in
    let ok = all-at (IsLawfulZone g) drive.zones number (record { state = states.Offline; blocks = [] }) lawful.zones there in
    let same = zone-read g drive.zones number in
    let lt' : offset < length (read_zone g zone).blocks = rw same at lt in
    let r = readable-at g zone zone.state offset refl (can-hold g zone.state (length zone.blocks) ok.written) lt' in
    let short : offset < g.size = omega (arith, r.within, range.capacity) in
    let index : address / g.size ≡ number = rw is (div-mul-add number g.size offset short) in
    let place : address % g.size ≡ offset = rw is (mod-mul-add number g.size offset short) in
    let content = content_at-contents drive.zones number in
    let below : address + 1 ≤ end_of g = omega (arith, is, short, lawful.count, there, mul-le (number + 1) g.size g.zones g.size (omega (arith, lawful.count, there)) (omega arith), add-mul number 1 g.size) in
    let one : address + 1 - 1 ≡ address = omega arith in
    let at : block_at g (contents drive.zones) address ≡ get_or zone.blocks offset (replicate g.block 0) = rw (index, place) (ap (λ (c : Content). get_or c.blocks offset (replicate g.block 0)) content) in
    record {
      can = record { few = omega (arith, range.transfer); in_range = below; one_zone = rw one refl; readable = rw index r.online };
      shows = at ∙ r.shows ∙ ap (λ (z : ReadZone). get_or z.blocks offset []) (sym same);
      long = ap length at ∙ long-block g zone.blocks offset ok.whole;
    }

-- what a Read of it gives
pub read-gives : (drive : DriveState) (number offset address : ℕ) (bytes : List ℕ) → ReadsBlock drive number offset address → bytes ≡ bytes_at drive.geometry (contents drive.zones) address 1
    → (bytes ≡ block_with (read_zones drive) number offset) × (length bytes ≡ drive.geometry.block)
read-gives drive number offset address bytes reads is =
    let one : bytes ≡ block_at drive.geometry (contents drive.zones) address = is ∙ append-nil (block_at drive.geometry (contents drive.zones) address) in
    (one ∙ reads.shows, ap length one ∙ reads.long)

-- and what the effect of one gives
pub effect-gives : (drive : DriveState) (new : List Zone) (number offset address : ℕ) (items : List ℕ) → ReadsBlock drive number offset address
    → Adds [] (λ (returned : List ℕ). Effect drive.geometry drive.zones (Ok (Read address 1)) [] Success 0 returned new) items
    → (items ≡ block_with (read_zones drive) number offset) × (length items ≡ drive.geometry.block)
effect-gives drive new number offset address items reads adds =
    let s = succeeded drive.geometry drive.zones new (Ok (Read address 1)) [] adds.returned 0 adds.given in
    let shown : adds.returned ≡ bytes_at drive.geometry (contents drive.zones) address 1 = s.returned_is ∙ rw (content_at-closing drive.zones adds.given.middle (address / drive.geometry.size) adds.given.before) refl in
    read-gives drive number offset address items reads (adds.joined ∙ shown)

-- a source that was only read is kept
pub kept-so : (old new : DriveState) → new ≡ record old { zones = new.zones } → IsLawful new → IsClosing old.zones new.zones → KeepsZones old new
kept-so old new same lawful closing = record {
  geometry = ap (λ (d : DriveState). d.geometry) same;
  lawful = lawful;
  closing = closing;
  trusted = λ clean. rw (← ap (λ (d : DriveState). d.clean) same) clean;
  unfailing = λ is. rw (← ap (λ (d : DriveState). d.unfailing) same) is;
  refused = ap (λ (d : DriveState). d.refused) same;
  durable = ap (λ (d : DriveState). d.durable) same;
  appended = ap (λ (d : DriveState). d.appended) same;
}

-- one that halted keeps the zones
pub record HaltsRead (old new : DriveState) (fault : PortFault) : Type 0 where
  pub halt : IsHalt fault
  pub kept : KeepsZones old new

pub read-halts : (old new : DriveState) (address : ℕ) (returned : List ℕ) (fault : PortFault) → CanRead old address 1 → ReadGives {V = Unit {0}} old address 1 (Err fault) returned new → IsClosing old.zones new.zones
    → Obeys {V = Unit {0}} old (Err fault) new → (CanRead old address 1 → IsNotRefused {V = Unit {0}} (Err fault)) → HaltsRead old new fault
read-halts old new address returned (port.Refused status) can gives closing obeys passed = absurd (passed can)
read-halts old new address returned port.Memory can gives closing obeys passed = record { halt = tt; kept = rw gives.1.1 (keeps-none old obeys.was_lawful) }
read-halts old new address returned port.Failed can gives closing obeys passed =
    let failed = obeys.fails refl in
    record {
      halt = tt;
      kept = record { geometry = obeys.geometry; lawful = obeys.lawful; closing = closing; refused = failed.1.refused; durable = obeys.durable; appended = failed.1.appended; trusted = obeys.trusted; unfailing = obeys.unfailing };
    }
read-halts old new address returned port.Stopped can gives closing obeys passed = record {
  halt = tt;
  kept = record { geometry = obeys.geometry; lawful = obeys.lawful; closing = closing; refused = (obeys.counts refl).refused; durable = obeys.durable; appended = (obeys.counts refl).appended; trusted = obeys.trusted; unfailing = obeys.unfailing };
}

-- one that succeeded keeps them, too
pub read-keeps : (old new : DriveState) (address : ℕ) (items : List ℕ) → IsClosing old.zones new.zones → Obeys {V = Unit {0}} old (Ok tt) new → ReadShows old new address 1 [] items → KeepsZones old new
read-keeps old new address items closing obeys shown = record {
  geometry = obeys.geometry;
  lawful = obeys.lawful;
  closing = closing;
  refused = shown.counts.refused;
  durable = obeys.durable;
  appended = shown.counts.appended ∙ omega arith;
  trusted = obeys.trusted;
  unfailing = obeys.unfailing;
}

-- ---- a device as a source

-- as it is read, its blocks stay damaged once a command failed
pub device-keeps : {V : Type 0} (old new : DriveState) (result : Result V PortFault) → KeepsZones old new → Obeys old result new → KeepsSource (damaged_once_failed old) (damaged_once_failed new)
device-keeps old new result kept obeys = record { zones = kept; damaged = λ number offset is. not-lasts old.unfailing new.unfailing obeys.unfailing is }

-- a Read that is told as unreadable failed
pub failed-says : (drive : DriveState) (number offset : ℕ) (fault : PortFault) (result : Result Reading Halt) (bytes : List ℕ) → (fault ≡ port.Failed → IsFalse drive.unfailing)
    → IfOk result (λ reading. (reading ≡ Unreadable) × (fault ≡ port.Failed)) → ReadSays (damaged_once_failed drive) number offset result bytes
failed-says drive number offset fault (Err halt) bytes fails told = tt
failed-says drive number offset fault (Ok Held) bytes fails told = let no = told.0 in absurd (cc)
failed-says drive number offset fault (Ok Unreadable) bytes fails told = rw (fails told.1) refl
