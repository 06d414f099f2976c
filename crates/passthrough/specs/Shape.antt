-- The geometry of a zoned namespace, by the pages of Identify, the capacity of a zone, and how many bytes the caller's
-- way to the drive moves by one command.
use Rattle.std.specs.Prelude.{◌≡◌, ◌≢◌, ◌↔◌, ℕ, ◌+◌, ◌-◌, ◌*◌, ◌^◌, ◌≤◌, ◌==◌, if◌then◌else◌, true, false, min}
use Rattle.zone_states.specs.declared.geometry.Geometry.{Geometry}
use Rattle.passthrough.specs.declared.pages.Pages.{Pages}
use Rattle.passthrough.specs.Fields.{metadata_size, protection_type, block_exponent, unwritten_reads, namespace_size}
use Rattle.passthrough.specs.Fields.{zone_size, extension_units, has_variable_capacity, has_active_excursions}
use Rattle.passthrough.specs.Fields.{active_field, open_field, transfer_field, append_field}

-- blocks of a zoned namespace that hold data and nothing else, and read as zeros until they are written
pub record HasPlainBlocks (pages : Pages) : Type 0 where
  pub zoned : pages.is_zoned ≡ true
  pub no_metadata : metadata_size pages ≡ 0
  pub no_protection : protection_type pages ≡ 0
  pub zeros : unwritten_reads pages ≡ 1

-- zones of one capacity that only the host makes Full, and whose descriptors have no extension
pub record HasPlainZones (pages : Pages) : Type 0 where
  pub alike : has_variable_capacity pages ≡ false
  pub steady : has_active_excursions pages ≡ false
  pub no_extension : extension_units pages ≡ 0

-- the bytes of a power of two of memory pages, which have 4 KiB each
abbrev pub memory_bytes : ℕ → ℕ
memory_bytes exponent = 4096 * 2 ^ exponent

-- whether one command may move so many blocks: 256 at most, within the caller's limit in bytes, and within MDTS and
-- ZASL, each where it is a limit
pub record MayMove (pages : Pages) (limit block blocks : ℕ) : Type 0 where
  pub most : blocks ≤ 256
  pub within_limit : blocks * block ≤ limit
  pub within_transfer : transfer_field pages ≢ 0 → blocks * block ≤ memory_bytes (transfer_field pages)
  pub within_append : append_field pages ≢ 0 → blocks * block ≤ memory_bytes (append_field pages)

-- the most blocks that one command may move
pub record IsTransfer (pages : Pages) (limit block transfer : ℕ) : Type 0 where
  pub allowed : MayMove pages limit block transfer
  pub greatest : (blocks : ℕ) → MayMove pages limit block blocks → blocks ≤ transfer

-- the zones that MAR or MOR allows; a disk uses 65,536 at most
abbrev pub zone_limit : ℕ → ℕ
zone_limit field = if field == 2 ^ 32 - 1 then 65536 else min 65536 (field + 1)

pub record IsShapeOf (pages : Pages) (capacity limit : ℕ) (g : Geometry) : Type 0 where
  pub plain_blocks : HasPlainBlocks pages
  pub plain_zones : HasPlainZones pages
  pub block : g.block ≡ 2 ^ block_exponent pages
  pub zones : g.zones * g.size ≡ namespace_size pages
  pub size : g.size ≡ zone_size pages
  pub written : g.capacity ≡ capacity
  pub transfer : IsTransfer pages limit g.block g.transfer
  pub active : g.active ≡ zone_limit (active_field pages)
  pub open_zones : g.open ≡ min (zone_limit (open_field pages)) g.active

-- a number of bytes that limits commands of up to 2^20 bytes, 256 blocks of 4,096, as MDTS or ZASL does
abbrev pub IsMemoryLimit : ℕ → ℕ → Type 0
IsMemoryLimit exponent limit =
    (bytes : ℕ) → bytes ≤ 2 ^ 20 → (bytes ≤ limit ↔ (exponent ≢ 0 → bytes ≤ memory_bytes exponent))
