-- What a way that reads ahead keeps, and which commands do not change it.
use Rattle.std.specs.Prelude.{◌≡◌, ◌≢◌, ℕ, ◌+◌, ◌*◌, ◌/◌, ◌%◌, ◌≤◌, Bool, true, false, List, length, take, Option, None}
use Rattle.nvme_wire.specs.declared.zone_state.ZoneState.TheVariants.{Offline}
use Rattle.nvme_wire.specs.declared.command.Command.{Command}
use Rattle.nvme_wire.specs.declared.command.Command.TheVariants.{Write, Append, Send}
use Rattle.zone_states.specs.declared.geometry.Geometry.{Geometry}
use Rattle.zone_states.specs.Zone.{Zone}
use Rattle.drive_port.specs.Step.{bytes_from, is_state, zone_at}
use Rattle.passthrough.specs.declared.kept.Kept.{Kept}

-- the shape and the zones behind a way
pub record WayState : Type 0 where
  pub shape : Geometry
  pub zones : List Zone
  pub flushed : Bool
  pub before : Option (List Zone)

-- ---- what is kept

-- that many blocks of one zone, from an address on, can be read, and have these bytes
pub record IsHeld (geometry : Geometry) (zones : List Zone) (start blocks : ℕ) (bytes : List ℕ) : Type 0 where
  pub one_zone : start % geometry.size + blocks ≤ geometry.size
  pub readable : is_state Offline (zone_at zones (start / geometry.size)).state ≡ false
  pub bytes_are :
      bytes ≡ bytes_from geometry.block (zone_at zones (start / geometry.size)).blocks (start % geometry.size) blocks

-- what is kept, if anything, is what the zones hold
pub record AreKept (geometry : Geometry) (zones : List Zone) (kept : Kept) : Type 0 where
  pub shape : kept.geometry ≡ geometry
  pub fits : kept.blocks * geometry.block ≤ length kept.bytes.items
  pub held : 1 ≤ kept.blocks
      → IsHeld geometry zones kept.start kept.blocks (take (kept.blocks * geometry.block) kept.bytes.items)

-- all blocks of a Read are kept
pub record IsWithin (kept : Kept) (address blocks : ℕ) : Type 0 where
  pub from : kept.start ≤ address
  pub to : address + blocks ≤ kept.start + kept.blocks

-- nothing is kept any more
abbrev pub forgotten : Kept → Kept
forgotten kept = record kept { blocks = 0; run = None }

-- the same blocks are kept
pub record SameBlocks (old new : Kept) : Type 0 where
  pub shape : new.geometry ≡ old.geometry
  pub start : new.start ≡ old.start
  pub blocks : new.blocks ≡ old.blocks
  pub bytes : new.bytes ≡ old.bytes

-- ---- commands

-- a command does not go to a zone
abbrev pub Spares : Geometry → Command → ℕ → Type 0
Spares geometry (Write slba blocks) zone = slba / geometry.size ≢ zone
Spares geometry (Append zslba blocks) zone = zslba / geometry.size ≢ zone
Spares geometry (Send slba action true) zone = ⊥
Spares geometry (Send slba action false) zone = slba / geometry.size ≢ zone
Spares geometry command zone = Unit {0}

-- a Read of that many blocks from an address on goes no further than it may, and there is room for what it returns
pub record CanFill (kept : Kept) (address blocks end : ℕ) : Type 0 where
  pub few : blocks ≤ kept.geometry.transfer
  pub reaches : address + blocks ≤ end
  pub room : blocks * kept.geometry.block ≤ length kept.bytes.items
