-- How many blocks a clean may take, and how many logical blocks a drive can serve.
use Rattle.std.specs.Prelude.{ℕ, ◌+◌, ◌-◌, ◌*◌, ◌≤◌, ◌^◌, min, max}
use Rattle.std.specs.Int.{div_ceil}
use Rattle.zone_states.specs.declared.geometry.Geometry.{Geometry}
use Rattle.batch_log.specs.Header.{entry_room}

-- how many entries a batch of ours has at most: its header and their data are one Append, and the header block has room for them
abbrev pub batch_most : Geometry → ℕ
batch_most geometry = min (geometry.transfer - 1) (entry_room geometry.block)

-- how many blocks it may take to move that many records: one for each, and a header for each batch, one at least
abbrev pub move_blocks : ℕ → ℕ → ℕ
move_blocks most records = max 1 (records + div_ceil records most)

-- the greatest number of records whose move leaves two blocks of a zone free
pub record IsQuota (most capacity quota : ℕ) : Type 0 where
  pub fits : move_blocks most quota + 2 ≤ capacity
  pub greatest : (records : ℕ) → move_blocks most records + 2 ≤ capacity → records ≤ quota

-- A drive can serve n logical blocks: with all zones but one in use, one of them holds at most a quota of live records, so it can be cleaned into the last.
abbrev pub FitsReserve : Geometry → ℕ → Type 0
FitsReserve geometry n =
    (1 ≤ n) × (n ≤ 2 ^ 31) × ((quota : ℕ) × IsQuota (batch_most geometry) geometry.capacity quota × (n ≤ quota * (geometry.zones - 1)))

-- the quota of a drive: of the blocks that may be written, a header goes off for each batch of greatest length
abbrev pub quota_of : Geometry → ℕ
quota_of geometry = geometry.capacity - 2 - div_ceil (geometry.capacity - 2) (batch_most geometry + 1)

-- the greatest number of logical blocks that a drive can serve
abbrev pub most_size : Geometry → ℕ
most_size geometry = min (quota_of geometry * (geometry.zones - 1)) (2 ^ 31)
