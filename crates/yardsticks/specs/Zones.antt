-- What the values of the yardsticks stand for, and what they find on the way.
use Rattle.std.specs.Prelude.{◌≡◌, ◌<◌, ◌≤◌, ◌^◌, ℕ, ◌==◌, ◌&&◌, nat_lt, if◌then◌else◌, is_some, Bool, false}
use Rattle.std.specs.Prelude.{List, [], ◌∷◌, map, length, replicate, Option, Some, None, Vec, vec_len}
use Rattle.std.specs.List.{AllByRecursion}
use Rattle.std.specs.Option.{option_map}
use Rattle.std.specs.declared.alloc.Global.{Global}
use Rattle.zone_states.specs.declared.geometry.Geometry.{Geometry}
use Rattle.zone_states.specs.Zone.{Zone}
use Rattle.drive_port.specs.Contents.{Content, content_of, contents}
use Rattle.yardsticks.specs.declared.batches.Batch as yardstick
use Rattle.batch_log.specs.Log.{Batch}
use Rattle.yardsticks.specs.Batches.{batch_of, held_blocks}
use Rattle.yardsticks.specs.declared.logs.ZoneImage.{ZoneImage}
use Rattle.yardsticks.specs.declared.array.Said.{Said}
use Rattle.drive_array.specs.Records.{Record, shown_content, without}
use Rattle.drive_array.specs.Mountable.{AreSound}
use Rattle.drive_array.specs.Repair.{IsTornAt}
use Rattle.drive_array.specs.Reserve.{FitsReserve}
use Rattle.drive_array.specs.Sizes.{encoded_size}
use Rattle.drive_array.specs.Spare.{HasSpare, IsClearing, cleared}
use Rattle.drive_array.specs.ZoneLogs.{HasLog, has_torn_tail, zone_log, zone_logs, zone_tails}

-- ---- zones and logs

abbrev pub held_zone : ZoneImage → Zone
held_zone image = record { state = image.state; blocks = held_blocks image.blocks.items }

abbrev pub image_content : ZoneImage → Content
image_content image = content_of (held_zone image)

abbrev pub image_contents : List ZoneImage → List Content
image_contents images = contents (map held_zone images)

abbrev pub held_log : List yardstick.Batch → List Batch
held_log log = map batch_of log

abbrev pub held_logs : List (Vec yardstick.Batch Global) → List (List Batch)
held_logs logs = map (λ log. held_log log.items) logs

-- the zone has a log, and it is this one; and whether a torn tail is after it
pub record IsZoneLog (geometry : Geometry) (content : Content) (log : List Batch) (is_torn : Bool) : Type 0 where
  pub has : HasLog geometry content
  pub log_is : log ≡ zone_log geometry content
  pub torn_is : is_torn ≡ has_torn_tail content

-- all zones have logs, and they are these; and after which of them torn tails stand
pub record AreZoneLogs (geometry : Geometry) (zones : List Content) (logs : List (List Batch)) (tails : List Bool) : Type 0 where
  pub have : AllByRecursion (HasLog geometry) zones
  pub logs_are : logs ≡ zone_logs geometry zones
  pub tails_are : tails ≡ zone_tails zones

-- the logs, where that of one zone may be left out
abbrev pub logs_but : Option ℕ → List (List Batch) → List (List Batch)
logs_but None logs = logs
logs_but (Some zone) logs = without logs zone

-- a clearing of the logs leaves these
pub record HasClearing (block_bytes n : ℕ) (logs left : List (List Batch)) : Type 0 where
  pub zones : List ℕ
  pub clears : IsClearing block_bytes n logs zones
  pub left_is : left ≡ cleared logs zones

-- of the zones from one on and below another none is torn
abbrev pub NoneTorn : List (List Batch) → List Bool → ℕ → ℕ → Type 0
NoneTorn logs tails first end = (zone : ℕ) → first ≤ zone → zone < end → IsTornAt logs tails zone → ⊥

-- the first torn zone from one on
pub record IsFirstTorn (logs : List (List Batch)) (tails : List Bool) (first zone : ℕ) : Type 0 where
  pub from : first ≤ zone
  pub in_range : zone < length logs
  pub torn : IsTornAt logs tails zone
  pub none_before : NoneTorn logs tails first zone

-- the logs are sound, the reserve allows their size, and a zone is vacant or half clean
pub record AreOfDisk (geometry : Geometry) (n : ℕ) (logs : List (List Batch)) : Type 0 where
  pub sound : AreSound (2 ^ 63) n logs
  pub reserve : FitsReserve geometry (encoded_size n logs)
  pub spare : HasSpare geometry.block n logs

-- ---- what is said of a block

-- what a record says of its block, its sequence and its zone
pub record Saying : Type 0 where
  pub sequence : ℕ
  pub zone : ℕ
  pub content : Option (List ℕ)

abbrev pub saying : Record → Saying
saying r = record { sequence = r.sequence; zone = r.zone; content = r.content }

abbrev pub saying_of : Said → Saying
saying_of said = record { sequence = said.sequence; zone = said.zone; content = option_map (λ bytes. bytes.now) said.content }

-- the later of two; of two with one sequence the first
abbrev pub later : Option Saying → Saying → Option Saying
later None y = Some y
later (Some x) y = if nat_lt x.sequence y.sequence then Some y else Some x

-- the latest that these records say of a block, where something was said before
abbrev pub heard : ℕ → Option Saying → List Record → Option Saying
heard block found [] = found
heard block found (r ∷ rs) = heard block (if r.block == block then later found (saying r) else found) rs

abbrev pub said_block : ℕ → Option Saying → List ℕ
said_block block_bytes (Some said) = shown_content block_bytes said.content
said_block block_bytes None = replicate block_bytes 0

-- what is said of a block is said in this zone; and it is data
abbrev pub is_said_in : ℕ → Option Saying → Bool
is_said_in zone None = false
is_said_in zone (Some said) = said.zone == zone

abbrev pub is_data_in : ℕ → Option Saying → Bool
is_data_in zone None = false
is_data_in zone (Some said) = (said.zone == zone) && is_some said.content

-- each block of the zone has that many bytes
abbrev pub HasWholeBlocks : ℕ → ZoneImage → Type 0
HasWholeBlocks block_bytes image = AllByRecursion (λ block. vec_len block ≡ block_bytes) image.blocks.items
