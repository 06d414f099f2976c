-- A disk that is served, what of it a loss of power leaves, and how often it was synced.
use Rattle.std.specs.Prelude.{◌≡◌, ◌⊎◌, ℕ, ◌+◌, ◌*◌, ◌<◌, ◌≤◌, ◌&&◌, ◌||◌, if◌then◌else◌, Bool, true, false, not, List}
use Rattle.std.specs.Prelude.{[], ◌∷◌, length, map, slice_index_or, Contains, Some, None, Result, Ok, Err, IfErr, IsTrue}
use Rattle.std.specs.Prelude.{OnOk}
use Rattle.std.specs.List.{concat}
use Rattle.batch_log.specs.declared.header.Entry.{Entry}
use Rattle.drive_port.specs.Durable.{MayBeDurable}
use Rattle.drive_array.specs.Reserve.{batch_most}
use Rattle.zone_translator.specs.Answers.{CostsAtMost, Stores, StoresList, TakesTurn, count_of_blocks, write_bytes}
use Rattle.zone_translator.specs.Answers.{write_entries}
use Rattle.zone_translator.specs.Changes.{batch_commands, failing_commands}
use Rattle.zone_translator.specs.Flat.{Answer, Call, FlatCall, FlatDisk, IsFront, IsListFront, Put, answer_while, flush}
use Rattle.zone_translator.specs.Flat.{idle, known_range, may_refuse, put_all, read, replaced, status_after, trim}
use Rattle.zone_translator.specs.Flat.{with_nothing, write, write_list}
use Rattle.zone_translator.specs.Keeping.{KeepsServed}
use Rattle.zone_translator.specs.View.{CompletesAtMost, DiskCause, DiskView, KeepsDisk, StaysAlike, disk_array}
use Rattle.zone_translator.specs.View.{disk_turns, flat_of, most_batches}
use Rattle.zone_translator.specs.declared.fault.DiskFault.{DiskFault}
use Rattle.nbd_session.specs.Pending.{AreApart, HoldsSome, Pending, overlay, pieces}
use Rattle.nbd_session.specs.declared.fault.StoreFault.{StoreFault}
use Rattle.nbd_session.specs.declared.fault.StoreFault.TheVariants.{Disk, Medium}

-- A disk, and the blocks that are written above it and are not yet on it, oldest first. A loss of power leaves one of
-- the arrays of `since`. `syncs` is how many syncs were completed. If the store is read only, what would change the
-- disk is refused. If it cleans, a turn of cleaning is taken after each request. If it flushes, a sync is a Flush of
-- the drive; if not, only pending blocks are sent to it. If it defers, blocks may be pending after a call; if not,
-- none is. If it fails, its medium may fail in any call that names blocks; if not, only in a sync.
pub record StoreView : Type 0 where
  pub disk : DiskView
  pub pending : List Pending
  pub since : List (List (List ℕ))
  pub syncs : ℕ
  pub read_only : Bool
  pub cleans : Bool
  pub flushes : Bool
  pub defers : Bool
  pub fails : Bool

-- the array that a store serves: that of the disk, with the pending blocks
abbrev pub store_array : StoreView → List (List ℕ)
store_array store = overlay store.pending (disk_array store.disk)

-- the flat disk that a store serves
abbrev pub store_flat : StoreView → FlatDisk
store_flat store = record (flat_of store.disk) { array = store_array store }

-- Nothing is pending before a call and after it: it goes through to the disk. So does each call of a store that does
-- not defer.
abbrev pub GoesThrough : StoreView → StoreView → Type 0
GoesThrough old new = (old.pending ≡ []) × (new.pending ≡ [])

-- whether a store is read only, cleans, flushes, defers and fails does not change
pub record KeepsMode (old new : StoreView) : Type 0 where
  pub read_only : new.read_only ≡ old.read_only
  pub cleans : new.cleans ≡ old.cleans
  pub flushes : new.flushes ≡ old.flushes
  pub defers : new.defers ≡ old.defers
  pub fails : new.fails ≡ old.fails

-- ---- what a call makes of the arrays that a loss of power leaves

-- the array at a moment of a call: after some first blocks of a write or of a list, none or all of them; of any other
-- call as it was
abbrev pub IsMoment : FlatDisk → Call → List (List ℕ) → Type 0
IsMoment disk (write first blocks) array = IsFront disk.array first blocks array
IsMoment disk (write_list puts) array = IsListFront disk.array puts array
IsMoment disk call array = array ≡ disk.array

-- some blocks of a write are written: each block is as before it, or as after all of it
pub record IsTorn (old : List (List ℕ)) (first : ℕ) (blocks new : List (List ℕ)) : Type 0 where
  pub length_is : length new ≡ length old
  pub either : (place : ℕ) → (slice_index_or new place [] ≡ slice_index_or old place [])
      ⊎ (slice_index_or new place [] ≡ slice_index_or (replaced old first blocks) place [])

-- the same of a list
pub record IsListTorn (old : List (List ℕ)) (puts : List Put) (new : List (List ℕ)) : Type 0 where
  pub length_is : length new ≡ length old
  pub either : (place : ℕ) → (slice_index_or new place [] ≡ slice_index_or old place [])
      ⊎ (slice_index_or new place [] ≡ slice_index_or (put_all old puts) place [])

-- a part of a call is done: some blocks of a write or of a list; any other call changes nothing
abbrev pub IsPart : Call → List (List ℕ) → List (List ℕ) → Type 0
IsPart (write first blocks) old new = IsTorn old first blocks new
IsPart (write_list puts) old new = IsListTorn old puts new
IsPart call old new = new ≡ old

-- a block of a list, by itself
abbrev pub pending_of : Put → Pending
pending_of p = record { place = p.block; block = p.content }

-- a block that a call writes
abbrev pub IsOfCall : Call → Pending → Type 0
IsOfCall (write first blocks) w = Contains (pieces first blocks) w
IsOfCall (write_list puts) w = Contains (map pending_of puts) w
IsOfCall call w = ⊥

-- one of these arrays, with a part of a call
pub record ComesFrom (since : List (List (List ℕ))) (call : Call) (array : List (List ℕ)) : Type 0 where
  pub before : List (List ℕ)
  pub was : Contains since before
  pub part : IsPart call before array

-- ---- calls

-- What a call gives besides that goes through to the disk. The drive can be mounted again. A loss of power leaves an
-- array that it could have left before, or one of the call's moments.
pub record CallsDisk (old : StoreView) (call : Call) (new : StoreView) : Type 0 where
  pub kept : KeepsDisk old.disk new.disk
  pub since : (array : List (List ℕ)) → Contains new.since array
      → Contains old.since array ⊎ IsMoment (flat_of old.disk) call array

-- What a call gives. The store answers as a flat array, and refuses nothing without a cause. If its drive could be
-- mounted, it can be mounted again. A loss of power leaves an array that it could have left before, with a part of the
-- call: so older writes may be lost, and the call not. What is pending was so before, or is of the call. Nothing is, if
-- the store does not defer. Nothing is synced, and what is durable of the drive is the same.
pub record Calls (old : StoreView) (call : Call) (answer : Answer) (new : StoreView) : Type 0 where
  pub flat : FlatCall (store_flat old) call answer (store_flat new)
  pub kept : KeepsServed old.disk new.disk
  pub durable : new.disk.drive.durable ≡ old.disk.drive.durable
  pub cause : IfErr answer.result (DiskCause new.disk)
  pub since : (array : List (List ℕ)) → Contains new.since array → ComesFrom old.since call array
  pub pending : (w : Pending) → Contains new.pending w → Contains old.pending w ⊎ IsOfCall call w
  pub none : old.defers ≡ false → new.pending ≡ []
  pub syncs : new.syncs ≡ old.syncs
  pub mode : KeepsMode old new
  pub through : GoesThrough old new → CallsDisk old call new

-- A bound by what one batch takes: while no command failed, as many commands as a batch takes then; and in any case as
-- many as it takes where one fails.
pub record BoundByBatch (Bound : ℕ → Type 0) (old new : DiskView) : Type 0 where
  pub unfailing : IsTrue new.drive.unfailing → Bound (batch_commands old.drive.geometry)
  pub failing : Bound (failing_commands old.drive.geometry)

-- the commands that the drive has completed, and those that the pending blocks may take, each by a batch of so many
abbrev pub commands_due : ℕ → StoreView → ℕ
commands_due each store = store.disk.drive.completed + length store.pending * each

-- n blocks, and each that is pending no more, pay for the commands of one batch each
abbrev pub PaysFor : StoreView → ℕ → StoreView → Type 0
PaysFor old n new =
    BoundByBatch (λ (each : ℕ). commands_due each new ≤ commands_due each old + n * each) old.disk new.disk

-- one command is completed at most, besides those that were due
abbrev pub PaysForOne : StoreView → StoreView → Type 0
PaysForOne old new =
    BoundByBatch (λ (each : ℕ). new.disk.drive.completed ≤ commands_due each old + 1) old.disk new.disk

-- What a write gives besides that goes through to the disk. Done, the newest records of its n blocks have data or, of a
-- trim, have none. It takes at most so many batches.
pub record WritesDisk (is_trim : Bool) (old : DiskView) (first n : ℕ) (result : Result (Unit {0}) DiskFault)
    (new : DiskView) : Type 0 where
  pub stores : Stores is_trim old first n result new
  pub costs : CostsAtMost old (most_batches is_trim old n) result new

-- A call that writes n blocks from a given one on. Done, it adds no turns of a clean. Each of its blocks, and each that
-- is pending no more, pays for the commands of one batch.
pub record Writes (is_trim : Bool) (old : StoreView) (call : Call) (first n : ℕ) (answer : Answer)
    (new : StoreView) : Type 0 where
  pub calls : Calls old call answer new
  pub turns : OnOk answer.result (disk_turns new.disk ≤ disk_turns old.disk)
  pub due : PaysFor old n new
  pub through : GoesThrough old new → WritesDisk is_trim old.disk first n answer.result new.disk

-- these bytes are written
abbrev pub WritesBytes : StoreView → ℕ → List ℕ → Answer → StoreView → Type 0
WritesBytes old first bytes answer new =
    Writes false old (write_bytes old.disk first bytes) first (count_of_blocks old.disk bytes) answer new

-- zeros are written, by records that have data
abbrev pub WritesZeros : StoreView → ℕ → ℕ → Answer → StoreView → Type 0
WritesZeros old first n answer new = Writes false old (trim old.disk.drive.geometry.block first n) first n answer new

-- blocks are made zeros by records that have no data
abbrev pub Trims : StoreView → ℕ → ℕ → Answer → StoreView → Type 0
Trims old first n answer new = Writes true old (trim old.disk.drive.geometry.block first n) first n answer new

-- how many blocks a list may name: as many as one batch; none where writes may be pending, or the medium may fail in
-- any call
abbrev pub most_listed : StoreView → ℕ
most_listed store = if store.defers || store.fails then 0 else batch_most store.disk.drive.geometry

-- what a list gives besides that goes through to the disk: done, the newest record of each of its blocks is its entry's
pub record ListsDisk (old : DiskView) (entries : List Entry) (result : Result (Unit {0}) DiskFault)
    (new : DiskView) : Type 0 where
  pub stores : StoresList old entries result new
  pub costs : CostsAtMost old (length entries) result new

-- The blocks of a list are written and trimmed. Done, that adds no turns of a clean. Each block pays for the commands
-- of one batch.
pub record WritesList (old : StoreView) (entries : List Entry) (bytes : List ℕ) (answer : Answer)
    (new : StoreView) : Type 0 where
  pub calls : Calls old (write_entries old.disk entries bytes) answer new
  pub turns : OnOk answer.result (disk_turns new.disk ≤ disk_turns old.disk)
  pub due : PaysFor old (length entries) new
  pub through : GoesThrough old new → ListsDisk old.disk entries answer.result new.disk

-- A read of n blocks: it completes one command a block at most. As many turns of a clean are left as before, and the
-- same blocks are pending.
pub record ReadsBlocks (old : StoreView) (first n : ℕ) (answer : Answer) (new : StoreView) : Type 0 where
  pub calls : Calls old (read first n) answer new
  pub turns : disk_turns new.disk ≡ disk_turns old.disk
  pub completed : CompletesAtMost old.disk n new.disk
  pub pending : new.pending ≡ old.pending

-- the same, and its bytes are shown
pub record Shows (old : StoreView) (first n : ℕ) (result : Result (Unit {0}) DiskFault) (bytes : List ℕ)
    (new : StoreView) : Type 0 where
  pub shown : List (List ℕ)
  pub reads : ReadsBlocks old first n (record { result = result; shown = shown }) new
  pub bytes_are : bytes ≡ concat shown

-- ---- a medium that fails

-- The medium of a store that may fail failed in a call of n blocks from a given one on, whose answer was not known
-- before. Nothing is done: the store serves the same array, and a loss of power leaves nothing that it could not have
-- left before. What is pending was so before; if nothing was, nothing is written to the drive. At most the commands of
-- a write of these blocks are completed, besides those that were due.
pub record Spares (old : StoreView) (first n : ℕ) (new : StoreView) : Type 0 where
  pub may : old.fails ≡ true
  pub begun : known_range (store_flat old) first n ≡ None
  pub flat : store_flat new ≡ store_flat old
  pub kept : KeepsServed old.disk new.disk
  pub durable : new.disk.drive.durable ≡ old.disk.drive.durable
  pub written : old.pending ≡ [] → new.disk.drive.zones ≡ old.disk.drive.zones
  pub turns : disk_turns new.disk ≤ disk_turns old.disk
  pub due : PaysFor old n new
  pub since : (array : List (List ℕ)) → Contains new.since array → Contains old.since array
  pub pending : (w : Pending) → Contains new.pending w → Contains old.pending w
  pub syncs : new.syncs ≡ old.syncs
  pub mode : KeepsMode old new

-- the disk has answered a call in this way, or the medium failed in it
abbrev pub OrFails : (Result (Unit {0}) DiskFault → Type 0) → Type 0 → Result (Unit {0}) StoreFault → Type 0
OrFails Answers Fails (Ok done) = Answers (Ok tt)
OrFails Answers Fails (Err (Disk fault)) = Answers (Err fault)
OrFails Answers Fails (Err Medium) = Fails

-- ---- syncs

-- nothing is sent to the drive, and a loss of power leaves nothing that it could not have left before
pub record SendsNothing (old new : StoreView) : Type 0 where
  pub disk : new.disk ≡ old.disk
  pub since : (array : List (List ℕ)) → Contains new.since array → Contains old.since array

-- What a sync keeps of a disk that serves, done or not: the array that is served and, if nothing was pending, the
-- turns of a clean that are left. What is pending was so before. A loss of power leaves what it could have left
-- before, or the array of the disk with some of what is pending. At most one command is completed besides those that
-- were due.
pub record KeepsBySync (old new : StoreView) : Type 0 where
  pub array : store_array new ≡ store_array old
  pub kept : KeepsServed old.disk new.disk
  pub durable : MayBeDurable old.disk.drive new.disk.drive
  pub turns : old.pending ≡ [] → disk_turns new.disk ≡ disk_turns old.disk
  pub completed : PaysForOne old new
  pub pending : (w : Pending) → Contains new.pending w → Contains old.pending w
  pub since : (array : List (List ℕ)) → Contains new.since array
      → Contains old.since array ⊎ HoldsSome new.pending (disk_array new.disk) array
  pub syncs : old.syncs ≤ new.syncs
  pub mode : KeepsMode old new
  pub silent : old.flushes ≡ false → old.pending ≡ [] → SendsNothing old new

-- Done, one sync more is completed, the store serves as before, and no turns of a clean are added. Nothing is pending
-- that was to be durable. A loss of power leaves the array of the disk, with some of what is pending.
pub record Hardens (IsDone : List Pending → Type 0) (old new : StoreView) : Type 0 where
  pub keeps : KeepsBySync old new
  pub flat : store_flat new ≡ store_flat old
  pub turns : disk_turns new.disk ≤ disk_turns old.disk
  pub more : old.syncs < new.syncs
  pub done : IsDone new.pending
  pub since : (array : List (List ℕ)) → Contains new.since array → HoldsSome new.pending (disk_array new.disk) array

-- whether a sync may fail by this fault: as a Flush of the drive or, of a pending block, as a write
abbrev pub may_fail : List Pending → DiskFault → Bool
may_fail [] fault = may_refuse flush fault
may_fail (w ∷ ws) fault = may_refuse (write w.place (w.block ∷ [])) fault

-- The Flush of the drive was not done, or a write of a pending block. Only a stop changes what the store is.
pub record FailsSync (old : StoreView) (fault : DiskFault) (new : StoreView) : Type 0 where
  pub keeps : KeepsBySync old new
  pub flushes : old.pending ≡ [] → old.flushes ≡ true
  pub may : may_fail old.pending fault ≡ true
  pub flat : store_flat new ≡ record (store_flat old) { status = status_after (Err fault) }
  pub cause : DiskCause new.disk fault

-- What a sync gives, after which what is pending is such. A disk that does not serve refuses it, as every other call.
abbrev pub SyncsBy : (List Pending → Type 0) → StoreView → Result (Unit {0}) StoreFault → StoreView → Type 0
SyncsBy IsDone old (Ok done) new = (answer_while old.disk.status ≡ None) × Hardens IsDone old new
SyncsBy IsDone old (Err (Disk fault)) new =
    ((answer_while old.disk.status ≡ Some (Err fault)) × (new ≡ old))
    ⊎ ((answer_while old.disk.status ≡ None) × FailsSync old fault new)
SyncsBy IsDone old (Err Medium) new =
    (answer_while old.disk.status ≡ None) × KeepsBySync old new × (store_flat new ≡ store_flat old)

-- the whole array is made durable
abbrev pub Syncs : StoreView → Result (Unit {0}) StoreFault → StoreView → Type 0
Syncs old result new = SyncsBy (λ (pending : List Pending). pending ≡ []) old result new

-- n blocks from a given one on are made durable, and others may be pending still
abbrev pub ForcesBlocks : ℕ → ℕ → StoreView → Result (Unit {0}) StoreFault → StoreView → Type 0
ForcesBlocks first n old result new = SyncsBy (AreApart first n) old result new

-- ---- between requests

-- one turn of cleaning is taken, of two commands at most
pub record TakesOneTurn (old new : StoreView) : Type 0 where
  pub result : Result (Unit {0}) DiskFault
  pub calls : Calls old idle (with_nothing result) new
  pub turn : TakesTurn old.disk result new.disk
  pub completed : CompletesAtMost old.disk 2 new.disk
  pub pending : new.pending ≡ old.pending

-- a turn is taken or, if not, nothing is done
abbrev pub RestsBy : Bool → StoreView → StoreView → Type 0
RestsBy true old new = TakesOneTurn old new
RestsBy false old new = new ≡ old

-- What is done between two requests: a store that cleans, and is not read only, takes one turn.
abbrev pub Rests : StoreView → StoreView → Type 0
Rests old new = RestsBy (old.cleans && not old.read_only) old new

-- ---- whatever the Reads of the drive returned

-- The disk has the same shape and size, and its drive is clean only where it was. The store is read only, cleans,
-- flushes, defers and fails as before. No sync is forgotten, and nothing is pending that is not deferred.
pub record Stays (old new : StoreView) : Type 0 where
  pub disk : StaysAlike old.disk new.disk
  pub mode : KeepsMode old new
  pub syncs : old.syncs ≤ new.syncs
  pub none : old.defers ≡ false → old.pending ≡ [] → new.pending ≡ []

-- a call stays so that is no sync: none is counted
pub record StaysByCall (old new : StoreView) : Type 0 where
  pub stays : Stays old new
  pub syncs : new.syncs ≡ old.syncs

-- and a sync: done, one more is counted
pub record StaysBySync (old : StoreView) (result : Result (Unit {0}) StoreFault) (new : StoreView) : Type 0 where
  pub stays : Stays old new
  pub more : OnOk result (old.syncs < new.syncs)

-- What is done between two requests. A store that takes no turn does nothing.
pub record RestsAnyway (old new : StoreView) : Type 0 where
  pub rests : IsTrue new.disk.drive.clean → Rests old new
  pub stays : StaysByCall old new
  pub still : (old.cleans && not old.read_only) ≡ false → new ≡ old
