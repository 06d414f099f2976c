-- What a client may rely on.
use Rattle.std.specs.Prelude.{◌≡◌, ◌⊎◌, ℕ, ◌+◌, ◌/◌, ◌<◌, ◌≤◌, true, false, List, [], ◌++◌, map, slice_index_or, Bool}
use Rattle.std.specs.Prelude.{Contains, Ok, Err, Result, IsFalse, IsTrue}
use Rattle.nbd_wire.specs.Transmission.{simple_reply_bytes}
use Rattle.nbd_wire.specs.declared.error_code.ErrorCode.TheVariants.{Io, Success}
use Rattle.nbd_wire.specs.declared.request.Request.{Request}
use Rattle.zone_states.specs.Zone.{Zone}
use Rattle.drive_port.specs.Run.{restarted}
use Rattle.remount.specs.Mount.{IsToMount}
use Rattle.zone_translator.specs.Answers.{Answers}
use Rattle.zone_translator.specs.Flat.{FlatDisk, flush}
use Rattle.zone_translator.specs.Laws.{AllSteps, CanMountAgain, FlatStep, written_alone}
use Rattle.zone_translator.specs.Listed.{list_puts}
use Rattle.zone_translator.specs.Mount.{MountsDisk}
use Rattle.zone_translator.specs.View.{DiskView, disk_array, given_size}
use Rattle.zone_translator.specs.declared.fault.DiskFault.TheVariants.{Failed}
use Rattle.nbd_session.specs.declared.asked.Asked.{Asked}
use Rattle.nbd_session.specs.declared.asked.Asked.TheVariants.{Read, Write, Trim, WriteZeroes, Flush}
use Rattle.nbd_session.specs.declared.fault.SessionFault.{SessionFault}
use Rattle.nbd_session.specs.declared.fault.StoreFault.{StoreFault}
use Rattle.nbd_session.specs.declared.fault.StoreFault.TheVariants.{Disk}
use Rattle.nbd_session.specs.Manners.{always, while_clean}
use Rattle.nbd_session.specs.Requests.{Does, DoesAndReplies, DoesOrFails, data_length, is_forced}
use Rattle.nbd_session.specs.Served.{since_of}
use Rattle.nbd_session.specs.Groups.{data_of, entries_of}
use Rattle.nbd_session.specs.Session.{ServesGroup, Session}
use Rattle.nbd_session.specs.Store.{KeepsMode, OrFails, StoreView, store_array, store_flat}
use Rattle.nbd_session.specs.Streams.{Streams}
use Rattle.nbd_session.specs.Turns.{Serves, ServesAs}

-- n blocks from a given one on are in one array as in another
abbrev pub AgreeOn : ℕ → ℕ → List (List ℕ) → List (List ℕ) → Type 0
AgreeOn first n left array =
    (place : ℕ) → first ≤ place → place < first + n → slice_index_or left place [] ≡ slice_index_or array place []

-- An array has what was asked to be durable of a store: after a FLUSH the whole array, and after another request the
-- blocks that it named. That many bytes of data came with it.
abbrev pub HasAsked : Asked → ℕ → StoreView → List (List ℕ) → Type 0
HasAsked Flush count store left = left ≡ store_array store
HasAsked (Write first) count store left =
    AgreeOn first (count / store.disk.drive.geometry.block) left (store_array store)
HasAsked (Read first n) count store left = AgreeOn first n left (store_array store)
HasAsked (Trim first n) count store left = AgreeOn first n left (store_array store)
HasAsked (WriteZeroes first n hole) count store left = AgreeOn first n left (store_array store)

-- What a loss of power leaves then: what was asked to be durable and, if nothing is pending, the whole array. Above a
-- served disk nothing is.
pub record IsLeft (wanted : Asked) (count : ℕ) (store : StoreView) (left : List (List ℕ)) : Type 0 where
  pub asked : HasAsked wanted count store left
  pub whole : store.pending ≡ [] → left ≡ store_array store

-- A FLUSH, or a write with FUA, has a reply that says success. Then a sync was completed after what was asked was done,
-- and a loss of power leaves what was asked as it is.
abbrev pub ForcedIsDurable : Type 0
ForcedIsDurable =
    (old new : StoreView) (request : Request) (wanted : Asked) (bytes reply shown : List ℕ)
    → (answered : DoesAndReplies old request wanted bytes reply new)
    → is_forced wanted request ≡ true → reply ≡ simple_reply_bytes Success request.cookie ++ shown
    → (answered.middle.syncs < new.syncs)
    × ((left : List (List ℕ)) → Contains new.since left → IsLeft wanted (data_length request) new left)

-- Requests that came together, and are done, leave the array that their blocks leave where each is written by a call of
-- its own, in their order.
abbrev pub GroupIsItsWrites : Type 0
GroupIsItsWrites =
    (passes : Bool) (old : StoreView) (message reply : List ℕ) (new : Session) (last : FlatDisk)
    → (served : ServesGroup always passes old message reply new) → served.done ≡ Ok tt
    → AllSteps FlatStep (store_flat old)
    (map written_alone (list_puts old.disk (entries_of served.askings) (data_of served.askings))) last
    → store_flat served.answered ≡ last

-- A request that had not to be durable has a reply that says EIO. Then nothing is shown. The medium may fail in it, and
-- nothing is done; or the disk refused it, since its drive failed at a command.
abbrev pub FailedIsUndone : Type 0
FailedIsUndone =
    (old new : StoreView) (request : Request) (wanted : Asked) (bytes reply shown : List ℕ)
    → (answered : DoesAndReplies old request wanted bytes reply new)
    → is_forced wanted request ≡ false → reply ≡ simple_reply_bytes Io request.cookie ++ shown
    → (shown ≡ [])
    × (((old.fails ≡ true) × (store_flat new ≡ store_flat old))
    ⊎ ((answered.result ≡ Err (Disk Failed)) × IsFalse new.disk.drive.unfailing))

-- What is asked of a store that does not fail is answered by its disk: it is done, or refused by a fault of the disk.
abbrev pub AnsweredByDisk : Type 0
AnsweredByDisk =
    (old new : StoreView) (wanted : Asked) (bytes : List ℕ) (done : Result (Unit {0}) StoreFault)
    (shown : List (List ℕ))
    → DoesOrFails old wanted bytes done shown new → old.fails ≡ false
    → OrFails (λ answer. Does old wanted bytes (record { result = answer; shown = shown }) new) ⊥ done

-- Whatever a client sends to a store that is read only, and whatever ends the session: the array is as it was, and the
-- store still read only.
abbrev pub ReadOnlyKeepsArray : Type 0
ReadOnlyKeepsArray =
    (bytes : Streams) (old : Session) (ended : Result (Unit {0}) SessionFault) (new : StoreView)
    → Serves bytes old ended new
    → old.store.read_only ≡ true → (store_array new ≡ store_array old.store) × (new.read_only ≡ true)

-- Whatever a client sends, and whatever ends the session: no sync is forgotten, and the store is read only, cleans
-- and fails as before. Nothing is pending above a store that does not defer.
abbrev pub SessionKeepsMode : Type 0
SessionKeepsMode =
    (bytes : Streams) (old : Session) (ended : Result (Unit {0}) SessionFault) (new : StoreView)
    → Serves bytes old ended new
    → (old.store.syncs ≤ new.syncs) × KeepsMode old.store new
    × (old.store.defers ≡ false → old.store.pending ≡ [] → new.pending ≡ [])

-- Over a device whose Reads may lie, a session after which the drive is clean is one that is right from its first
-- message to its last.
abbrev pub ServedWhileClean : Type 0
ServedWhileClean =
    (bytes : Streams) (old : Session) (ended : Result (Unit {0}) SessionFault) (new : StoreView)
    → ServesAs while_clean bytes old ended new → IsTrue new.disk.drive.clean → Serves bytes old ended new

-- ---- a loss of power

-- whatever a loss of power leaves of the drive of a disk can be mounted
abbrev pub IsSafe : DiskView → Type 0
IsSafe disk =
    (zones : List Zone) → Contains disk.drive.durable zones
    → IsToMount (restarted (record disk.drive { zones = zones })) (given_size disk)

-- Whatever a client sends, and whatever ends the session: it stays so. A flush that was done makes it so.
abbrev pub SessionKeepsSafe : Type 0
SessionKeepsSafe =
    (bytes : Streams) (old : Session) (ended : Result (Unit {0}) SessionFault) (new : StoreView)
    → Serves bytes old ended new
    → CanMountAgain old.store.disk → IsSafe old.store.disk → IsSafe new.disk

abbrev pub FlushIsSafe : Type 0
FlushIsSafe = (old new : DiskView) → CanMountAgain old → Answers old flush (Ok tt) new → IsSafe new

-- A mount of what a loss of power leaves finds one of the arrays that a flushed disk may be left with.
abbrev pub LeftIsFound : Type 0
LeftIsFound =
    (disk again : DiskView) (zones : List Zone) → Contains disk.drive.durable zones
    → MountsDisk (restarted (record disk.drive { zones = zones })) (given_size disk) again
    → Contains (since_of true disk) (disk_array again)
