-- Changes of zones as they are stored, and of the zones that are stored.
use Rattle.std.proofs.Common.{◌≡◌, ◌⊎◌, ℕ, zero, suc, ◌*◌, ◌/◌, ◌≤◌, leb, Bool, true, false, List, [], ◌∷◌, ◌++◌, length, map, Result, Ok, Err, inl, inr, refl, sym, ap, ◌∙◌, arith}
use Rattle.std.specs.Prelude.{if◌then◌else◌, slice_index_or, slice_set}
use Rattle.std.specs.List.{AllByRecursion}
use Rattle.std.proofs.lemmas.Bool.{leb-false, leb-true}
use Rattle.std.proofs.lemmas.List.{length-map, map-set}
use Rattle.nvme_wire.specs.Entry.{decode_of}
use Rattle.nvme_wire.specs.declared.command.Action.{Action}
use Rattle.nvme_wire.specs.declared.zone_state.ZoneState.TheVariants.{Offline}
use Rattle.nvme_wire.specs.declared.command.Command.{Command}
use Rattle.nvme_wire.specs.declared.command.Command.TheVariants.{Flush, Read, Write, Append, Send, Receive}
use Rattle.nvme_wire.specs.declared.command.DecodeFault.{DecodeFault}
use Rattle.zone_states.specs.Geometry.{IsInRange}
use Rattle.zone_states.specs.Stored.{AreWholeBlocks, StoredZone, stored_after, stored_write, zone_stored}
use Rattle.zone_states.specs.Sending.{zone_after}
use Rattle.zone_states.specs.Transition.{state_after}
use Rattle.zone_states.specs.Zone.{Zone, cut_blocks, written_zone}
use Rattle.zone_states.specs.declared.geometry.Geometry.{Geometry}
use Rattle.drive_port.specs.Step.{is_selected, write_effect, zone_at}
use Rattle.zone_drive.specs.Stored.{zones_of}
use Rattle.zone_drive.specs.Table.{sent_in, sent_stored, stored_at}
use Rattle.zone_drive.proofs.SendLaws.{whole-after, zones_of-sent, zones_of-sent_in}
use Rattle.zone_drive.proofs.WriteLaws.{zone_at-is}
use Rattle.zone_states.proofs.Cutting.{stored_write-after}
use Rattle.drive_journal.specs.Change.{Change, IsChange, beside_blocks}
use Rattle.drive_journal.specs.Replay.{changed, replayed, stored_changed, stored_replayed, written_in}

-- to set an element past the end changes nothing
set-out : {X : Type 0} (xs : List X) (i : ℕ) (y : X) → length xs ≤ i → slice_set xs i y ≡ xs
set-out [] i y le = refl
set-out (x ∷ xs) zero y le = absurd (omega (arith, le))
set-out (x ∷ xs) (suc i) y le = ap (λ (l : List _). x ∷ l) (set-out xs i y (omega (arith, le)))

all-set : {X : Type 0} (P : X → Type 0) (xs : List X) (i : ℕ) (y : X) → AllByRecursion P xs → P y → AllByRecursion P (slice_set xs i y)
all-set P [] i y all one = tt
all-set P (x ∷ xs) zero y all one = (one, all.1)
all-set P (x ∷ xs) (suc i) y all one = (all.0, all-set P xs i y all.1 one)

all-at : {X : Type 0} (P : X → Type 0) (xs : List X) (i : ℕ) (d : X) → AllByRecursion P xs → P d → P (slice_index_or xs i d)
all-at P [] i d all one = one
all-at P (x ∷ xs) zero d all one = all.0
all-at P (x ∷ xs) (suc i) d all one = all-at P xs i d all.1 one

-- whole blocks
abbrev pub AreWhole : ℕ → List StoredZone → Type 0
AreWhole block zones = AllByRecursion (λ (zone : StoredZone). AreWholeBlocks block zone.bytes) zones

data-blocks : (block len n : ℕ) → (block ≡ 512) ⊎ (block ≡ 4096) → len ≡ n * block → len / block ≡ n
data-blocks block len n which e = elim which [
  | inl small ↦ let f = rw small at e in rw small (omega (arith, f))
  | inr large ↦ let f = rw large at e in rw large (omega (arith, f))
]

whole-data : (block len n : ℕ) → (block ≡ 512) ⊎ (block ≡ 4096) → len ≡ n * block → len ≡ len / block * block
whole-data block len n which e = e ∙ ap (λ (k : ℕ). k * block) (sym (data-blocks block len n which e))

whole-nothing : (block : ℕ) → (block ≡ 512) ⊎ (block ≡ 4096) → 0 ≡ 0 / block * block
whole-nothing block which = whole-data block 0 0 which (omega arith)

-- ---- one zone

zones-length : (block : ℕ) (zones : List StoredZone) → length (zones_of block zones) ≡ length zones
zones-length block zones = length-map zones (zone_stored block)

written-zones : (geometry : Geometry) (zones : List StoredZone) (index n : ℕ) (bytes : List ℕ) → IsInRange geometry → AreWhole geometry.block zones → length bytes ≡ n * geometry.block
    → zones_of geometry.block (written_in geometry zones index bytes) ≡ write_effect geometry (zones_of geometry.block zones) index n bytes
written-zones geometry zones index n bytes in_range whole long = by (leb (length zones) index) refl
  where
    by : (b : Bool) → leb (length zones) index ≡ b → zones_of geometry.block (written_in geometry zones index bytes) ≡ write_effect geometry (zones_of geometry.block zones) index n bytes
    by true e =
        let le = leb-true _ _ e in
        ap (λ (zs : List StoredZone). zones_of geometry.block zs) (set-out zones index _ le)
        ∙ sym (set-out (zones_of geometry.block zones) index _ (omega (arith, le, zones-length geometry.block zones)))
    by false e =
        let lt = leb-false _ _ e in
        let zone = stored_at zones index in
        let here = all-at (λ (z : StoredZone). AreWholeBlocks geometry.block z.bytes) zones index (record { state = Offline; bytes = [] }) whole (whole-nothing geometry.block in_range.block) in
        let wrote = stored_write-after geometry zone bytes here (whole-data geometry.block (length bytes) n in_range.block long) in
        map-set (zone_stored geometry.block) zones index (stored_write geometry zone bytes)
        ∙ ap (λ (z : Zone). slice_set (zones_of geometry.block zones) index z)
        (wrote.zone ∙ ap (λ (k : ℕ). written_zone geometry.capacity (zone_stored geometry.block zone) (cut_blocks geometry.block k bytes)) (data-blocks geometry.block (length bytes) n in_range.block long)
        ∙ ap (λ (z : Zone). written_zone geometry.capacity z (cut_blocks geometry.block n bytes)) (sym (zone_at-is geometry.block zones index (omega (arith, lt)))))

written-whole : (geometry : Geometry) (zones : List StoredZone) (index n : ℕ) (bytes : List ℕ) → IsInRange geometry → AreWhole geometry.block zones → length bytes ≡ n * geometry.block
    → AreWhole geometry.block (written_in geometry zones index bytes)
written-whole geometry zones index n bytes in_range whole long =
    let here = all-at (λ (z : StoredZone). AreWholeBlocks geometry.block z.bytes) zones index (record { state = Offline; bytes = [] }) whole (whole-nothing geometry.block in_range.block) in
    all-set (λ (z : StoredZone). AreWholeBlocks geometry.block z.bytes) zones index _ whole
    (stored_write-after geometry (stored_at zones index) bytes here (whole-data geometry.block (length bytes) n in_range.block long)).whole

sent-zones : (geometry : Geometry) (zones : List StoredZone) (index : ℕ) (action : Action)
    → zones_of geometry.block (sent_in zones index action) ≡ (let zone = zone_at (zones_of geometry.block zones) index in slice_set (zones_of geometry.block zones) index (zone_after action zone (state_after zone.state action)))
sent-zones geometry zones index action = by (leb (length zones) index) refl
  where
    by : (b : Bool) → leb (length zones) index ≡ b
        → zones_of geometry.block (sent_in zones index action) ≡ (let zone = zone_at (zones_of geometry.block zones) index in slice_set (zones_of geometry.block zones) index (zone_after action zone (state_after zone.state action)))
    by true e =
        let le = leb-true _ _ e in
        ap (λ (zs : List StoredZone). zones_of geometry.block zs) (set-out zones index _ le)
        ∙ sym (set-out (zones_of geometry.block zones) index _ (omega (arith, le, zones-length geometry.block zones)))
    by false e = let lt = leb-false _ _ e in zones_of-sent_in geometry.block zones index action (omega (arith, lt))

-- an action on all zones keeps whole blocks
pub whole-sent : (block : ℕ) (action : Action) (zones : List StoredZone) → AreWhole block zones → AreWhole block (map (sent_stored action) zones)
whole-sent block action [] whole = tt
whole-sent block action (zone ∷ zones) whole = (one (is_selected action zone.state), whole-sent block action zones whole.1)
  where
    one : (selected : Bool) → AreWholeBlocks block (if selected then stored_after action zone (state_after zone.state action) else zone).bytes
    one true = whole-after block action zone (state_after zone.state action) whole.0
    one false = whole.0

-- ---- a change

-- a change of the stored zones is one of the zones
stored-zones : (geometry : Geometry) (zones : List StoredZone) (command : Result Command DecodeFault) (bytes : List ℕ) → IsInRange geometry → AreWhole geometry.block zones → length bytes ≡ beside_blocks command * geometry.block
    → zones_of geometry.block (stored_changed geometry zones command bytes) ≡ changed geometry (zones_of geometry.block zones) command bytes
stored-zones geometry zones (Err fault) bytes in_range whole long = refl
stored-zones geometry zones (Ok Flush) bytes in_range whole long = refl
stored-zones geometry zones (Ok (Read slba blocks)) bytes in_range whole long = refl
stored-zones geometry zones (Ok (Receive slba dwords options partial)) bytes in_range whole long = refl
stored-zones geometry zones (Ok (Write slba blocks)) bytes in_range whole long = written-zones geometry zones (slba / geometry.size) blocks bytes in_range whole long
stored-zones geometry zones (Ok (Append zslba blocks)) bytes in_range whole long = written-zones geometry zones (zslba / geometry.size) blocks bytes in_range whole long
stored-zones geometry zones (Ok (Send slba action true)) bytes in_range whole long = zones_of-sent geometry.block action zones
stored-zones geometry zones (Ok (Send slba action false)) bytes in_range whole long = sent-zones geometry zones (slba / geometry.size) action

-- and keeps whole blocks
stored-whole : (geometry : Geometry) (zones : List StoredZone) (command : Result Command DecodeFault) (bytes : List ℕ) → IsInRange geometry → AreWhole geometry.block zones → length bytes ≡ beside_blocks command * geometry.block
    → AreWhole geometry.block (stored_changed geometry zones command bytes)
stored-whole geometry zones (Err fault) bytes in_range whole long = whole
stored-whole geometry zones (Ok Flush) bytes in_range whole long = whole
stored-whole geometry zones (Ok (Read slba blocks)) bytes in_range whole long = whole
stored-whole geometry zones (Ok (Receive slba dwords options partial)) bytes in_range whole long = whole
stored-whole geometry zones (Ok (Write slba blocks)) bytes in_range whole long = written-whole geometry zones (slba / geometry.size) blocks bytes in_range whole long
stored-whole geometry zones (Ok (Append zslba blocks)) bytes in_range whole long = written-whole geometry zones (zslba / geometry.size) blocks bytes in_range whole long
stored-whole geometry zones (Ok (Send slba action true)) bytes in_range whole long = whole-sent geometry.block action zones whole
stored-whole geometry zones (Ok (Send slba action false)) bytes in_range whole long =
    all-set (λ (z : StoredZone). AreWholeBlocks geometry.block z.bytes) zones (slba / geometry.size) _ whole
    (whole-after geometry.block action (stored_at zones (slba / geometry.size)) (state_after (stored_at zones (slba / geometry.size)).state action)
    (all-at (λ (z : StoredZone). AreWholeBlocks geometry.block z.bytes) zones (slba / geometry.size) (record { state = Offline; bytes = [] }) whole (whole-nothing geometry.block in_range.block)))

-- ---- a journal

-- so are all changes
pub replayed-zones : (geometry : Geometry) (zones : List StoredZone) (changes : List Change) → IsInRange geometry → AreWhole geometry.block zones → AllByRecursion (IsChange geometry) changes
    → (zones_of geometry.block (stored_replayed geometry zones changes) ≡ replayed geometry (zones_of geometry.block zones) changes) × AreWhole geometry.block (stored_replayed geometry zones changes)
replayed-zones geometry zones [] in_range whole each = (refl, whole)
replayed-zones geometry zones (change ∷ changes) in_range whole each =
    let command = decode_of change.entry in
    let rest = replayed-zones geometry (stored_changed geometry zones command change.bytes) changes in_range (stored-whole geometry zones command change.bytes in_range whole each.0.bytes) each.1 in
    (rest.0 ∙ ap (λ (zs : List Zone). replayed geometry zs changes) (stored-zones geometry zones command change.bytes in_range whole each.0.bytes), rest.1)

-- one change more of the stored zones
pub stored-more : (geometry : Geometry) (zones : List StoredZone) (changes : List Change) (change : Change)
    → stored_replayed geometry zones (changes ++ change ∷ []) ≡ stored_changed geometry (stored_replayed geometry zones changes) (decode_of change.entry) change.bytes
stored-more geometry zones [] change = refl
stored-more geometry zones (first ∷ changes) change = stored-more geometry (stored_changed geometry zones (decode_of first.entry) first.bytes) changes change
