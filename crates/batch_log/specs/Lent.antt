-- The batches that an iterator over a zone's bytes lends.
use Rattle.std.specs.Prelude.{◌≡◌, ℕ, zero, suc, ◌+◌, ◌-◌, ◌*◌, ◌&&◌, nat_le, if◌then◌else◌, Bool, List, [], ◌∷◌}
use Rattle.std.specs.Prelude.{◌++◌, map, length, take, drop, Option, Some, None, IfNone, Result, Ok, Err}
use Rattle.std.specs.List.{flat_map}
use Rattle.std.specs.Iterator.{YieldsFirstBy}
use Rattle.batch_log.specs.declared.fault.FaultAt.{FaultAt}
use Rattle.batch_log.specs.declared.batches.Batch as lent
use Rattle.batch_log.specs.declared.batches.Batches.{Batches}
use Rattle.batch_log.specs.Header.{Heading}
use Rattle.batch_log.specs.Reading.{heading_in}
use Rattle.batch_log.specs.Causes.{header_fault, is_header, is_zero}
use Rattle.batch_log.specs.Log.{Batch, batch_size, data_count, log_size}
use Rattle.batch_log.specs.Ending.{Ending, ReadsLog, ended, torn, failed, ending_by}

-- a batch as it is lent: the block where it begins, what its header says, and its data
pub record LentBatch : Type 0 where
  pub offset : ℕ
  pub heading : Heading
  pub body : List ℕ

abbrev pub Item : Type 0
Item = Result LentBatch FaultAt

-- the bytes of some blocks
abbrev pub bytes_of_blocks : List (List ℕ) → List ℕ
bytes_of_blocks blocks = flat_map (λ block. block) blocks

-- the batches of a log that begins at a block
abbrev pub lent_from : ℕ → List Batch → List LentBatch
lent_from offset [] = []
lent_from offset (batch ∷ log) =
    record { offset = offset; heading = batch.heading; body = bytes_of_blocks batch.body }
    ∷ lent_from (offset + batch_size batch) log

-- a fault is the last item
abbrev pub fault_items : ℕ → Ending → List Item
fault_items offset ended = []
fault_items offset torn = []
fault_items offset (failed fault) = Err (record { offset = offset; fault = fault }) ∷ []

abbrev pub items_of : List LentBatch → ℕ → Ending → List Item
items_of batches offset ending = map (λ batch. Ok batch) batches ++ fault_items offset ending

-- a torn tail is told of by its offset
abbrev pub torn_of : ℕ → Ending → Option ℕ
torn_of offset ended = None
torn_of offset torn = Some offset
torn_of offset (failed fault) = None

-- The items, and the torn tail that is told of at the end, are those of these blocks: the batches from the first on, up to if none begins.
pub record AreRead (block_bytes : ℕ) (is_full : Bool) (blocks : List (List ℕ)) (items : List Item) (torn_at : Option ℕ) : Type 0 where
  pub log : List Batch
  pub ending : Ending
  pub reads : ReadsLog block_bytes is_full blocks log ending
  pub items_are : items ≡ items_of (lent_from 0 log) (log_size log) ending
  pub torn_is : torn_at ≡ torn_of (log_size log) ending

-- ---- what an iterator has left

-- batches, and how they end, at a block
pub record Reading : Type 0 where
  pub batches : List LentBatch
  pub offset : ℕ
  pub ending : Ending

abbrev pub with_batch : LentBatch → Reading → Reading
with_batch batch reading = record { batches = batch ∷ reading.batches; offset = reading.offset; ending = reading.ending }

-- how many data blocks the header in front needs
abbrev pub need : ℕ → List ℕ → ℕ
need size bytes = data_count (heading_in (take size bytes)).entries

-- a header block, and its data, are in front
abbrev pub begins : ℕ → List ℕ → Bool
begins size bytes = is_header (take size bytes) && nat_le (need size bytes * size) (length (drop size bytes))

abbrev pub batch_at : ℕ → ℕ → List ℕ → LentBatch
batch_at size offset bytes = record { offset = offset; heading = heading_in (take size bytes); body = take (need size bytes * size) (drop size bytes) }

abbrev pub ending_at : ℕ → Bool → List ℕ → Ending
ending_at size is_full bytes = ending_by (header_fault (take size bytes)) is_full (is_zero (take size bytes)) (is_zero (drop size bytes))

-- the reading of these bytes, in blocks of `size` bytes, from the first byte on that isn't skipped: it is the first of the block at an offset
abbrev pub read_from : ℕ → Bool → ℕ → ℕ → List ℕ → Reading
read_from size is_full offset skip [] = record { batches = []; offset = offset; ending = ended }
read_from size is_full offset (suc skip) (b ∷ bs) = read_from size is_full offset skip bs
read_from size is_full offset zero (b ∷ bs) =
    if begins size (b ∷ bs)
    then with_batch (batch_at size offset (b ∷ bs)) (read_from size is_full (offset + 1 + need size (b ∷ bs)) (size + need size (b ∷ bs) * size - 1) bs)
    else record { batches = []; offset = offset; ending = ending_at size is_full (b ∷ bs) }

abbrev pub reading : Batches → Reading
reading batches = read_from batches.block_bytes batches.is_full batches.offset 0 batches.rest.now

-- the items that are left
abbrev pub left : Batches → List Item
left batches = items_of (reading batches).batches (reading batches).offset (reading batches).ending

abbrev pub or_else : Option ℕ → Option ℕ → Option ℕ
or_else None other = other
or_else (Some n) other = Some n

-- the torn tail that is told of at the end
abbrev pub torn_left : Batches → Option ℕ
torn_left batches = or_else (torn_of (reading batches).offset (reading batches).ending) batches.torn

-- no bytes are left: so it is once `next` has answered `None`
abbrev pub IsDone : Batches → Type 0
IsDone batches = batches.rest.now ≡ []

abbrev pub lent_item : Result lent.Batch FaultAt → Item
lent_item (Ok batch) = Ok (record { offset = batch.offset; heading = batch.header; body = batch.body.now })
lent_item (Err fault) = Err fault

-- the first item comes off, and the torn tail that is told of at the end stays; where there is no item the iterator is done
abbrev pub Steps : Batches → Option (Result lent.Batch FaultAt) → Batches → Type 0
Steps old item new = YieldsFirstBy lent_item left old item new × (torn_left new ≡ torn_left old) × IfNone item (IsDone new)
