-- Requests that have come together, and are done by one call of the store.
use Rattle.std.specs.Prelude.{◌≡◌, ◌⊎◌, ℕ, zero, suc, ◌+◌, ◌-◌, ◌/◌, ◌<◌, ◌≤◌, Bool, true, false, List, [], ◌∷◌, ◌++◌}
use Rattle.std.specs.Prelude.{length, map, take, nat_eq, Option, Some, None, IfOk, Result, Ok, Err}
use Rattle.std.specs.List.{AllByRecursion, IsDistinct, flat_map}
use Rattle.std.specs.Io.KnownBytes.{Appends, Consumes}
use Rattle.batch_log.specs.declared.header.Entry.{Entry}
use Rattle.disk_files.specs.Output.{AppendsFront}
use Rattle.nbd_wire.specs.Transmission.{FitsRequest, request_bytes, simple_reply_bytes}
use Rattle.nbd_wire.specs.declared.request.Request.{Request}
use Rattle.zone_translator.specs.Flat.{known_range}
use Rattle.zone_translator.specs.Listed.{blocks_named}
use Rattle.zone_translator.specs.declared.fault.DiskFault.{DiskFault}
use Rattle.nbd_session.specs.declared.asked.Asked.{Asked}
use Rattle.nbd_session.specs.declared.asked.Asked.TheVariants.{Write, Trim, WriteZeroes}
use Rattle.nbd_session.specs.declared.fault.SessionFault.{SessionFault}
use Rattle.nbd_session.specs.declared.fault.SessionFault.TheVariants.{Output, Unsent}
use Rattle.nbd_session.specs.declared.fault.StoreFault.{StoreFault}
use Rattle.nbd_session.specs.declared.fault.StoreFault.TheVariants.{Disk}
use Rattle.nbd_session.specs.declared.group.Group.{Group}
use Rattle.nbd_session.specs.declared.group.Member.{Member}
use Rattle.nbd_session.specs.declared.group.Span.{Span}
use Rattle.nbd_session.specs.declared.group.TheConstants.{MOST_DATA, MOST_REQUESTS}
use Rattle.nbd_session.specs.Manners.{Manner, RestsTimes, while_clean}
use Rattle.nbd_session.specs.Requests.{Carries, asked_of_store, code_of, data_length, is_forced}
use Rattle.nbd_session.specs.Store.{StoreView, most_listed, store_flat}

-- ---- a request of a group

-- bytes begin with a whole request, its head and its data
pub record IsAhead (bytes : List ℕ) (request : Request) : Type 0 where
  pub fits : FitsRequest request
  pub head : take 28 bytes ≡ request_bytes request
  pub whole : 28 + data_length request ≤ length bytes

-- The blocks that a request names which may join a group, with so many bytes of data: a WRITE, a TRIM, or a
-- WRITE_ZEROES that may leave a hole.
abbrev pub span_of : ℕ → Asked → ℕ → Option Span
span_of block (Write first) count = Some (record { first = first; blocks = count / block; trim = false })
span_of block (Trim first n) count = Some (record { first = first; blocks = n; trim = true })
span_of block (WriteZeroes first n true) count = Some (record { first = first; blocks = n; trim = true })
span_of block wanted count = None

-- n blocks from a given one on, each for itself
abbrev pub named : ℕ → ℕ → Bool → List Entry
named first zero trim = []
named first (suc n) trim = record { block = first; trim = trim } ∷ named (suc first) n trim

abbrev pub span_entries : Span → List Entry
span_entries span = named span.first span.blocks span.trim

-- A request may join a group: it is permitted, and has not to be durable. It names a block at least, all are within the
-- disk, and the disk serves. Its data are whole blocks.
pub record Joins (store : StoreView) (request : Request) (wanted : Asked) (span : Span) : Type 0 where
  pub asks : asked_of_store store request ≡ Ok wanted
  pub unforced : is_forced wanted request ≡ false
  pub names : span_of store.disk.drive.geometry.block wanted (data_length request) ≡ Some span
  pub begun : known_range (store_flat store) span.first span.blocks ≡ None
  pub whole : Carries store.disk.drive.geometry.block wanted (data_length request)

-- a block lies outside a span
abbrev pub LiesApart : Span → Entry → Type 0
LiesApart span e = (e.block < span.first) ⊎ (span.first + span.blocks ≤ e.block)

-- ---- a group

-- a request and the data that came with it, what it asks, and the blocks that it names
pub record Asking : Type 0 where
  pub request : Request
  pub bytes : List ℕ
  pub wanted : Asked
  pub span : Span

-- it came whole, and may join a group
pub record IsMember (store : StoreView) (a : Asking) : Type 0 where
  pub fits : FitsRequest a.request
  pub length_is : length a.bytes ≡ data_length a.request
  pub joins : Joins store a.request a.wanted a.span

abbrev pub asking_bytes : Asking → List ℕ
asking_bytes a = request_bytes a.request ++ a.bytes

-- the blocks that requests name, and the data that came with them, in their order
abbrev pub entries_of : List Asking → List Entry
entries_of askings = flat_map (λ (a : Asking). span_entries a.span) askings

abbrev pub data_of : List Asking → List ℕ
data_of askings = flat_map (λ (a : Asking). a.bytes) askings

-- Requests may be done together: no two of them name one block, and they are not too many for one list.
pub record IsGroup (store : StoreView) (askings : List Asking) : Type 0 where
  pub each : AllByRecursion (IsMember store) askings
  pub apart : IsDistinct nat_eq (blocks_named (entries_of askings))
  pub few : length askings ≤ MOST_REQUESTS
  pub small : length (data_of askings) ≤ MOST_DATA
  pub listed : length (entries_of askings) ≤ most_listed store

-- ---- how it is gathered

abbrev pub member_of : Asking → Member
member_of a = record { request = a.request; wanted = a.wanted }

-- these bytes are requests that may be done together, and a group holds them
pub record IsGathered (store : StoreView) (bytes : List ℕ) (group : Group) : Type 0 where
  pub askings : List Asking
  pub is : IsGroup store askings
  pub bytes_are : bytes ≡ flat_map asking_bytes askings
  pub members : group.members.items ≡ map member_of askings
  pub entries : group.entries.items ≡ entries_of askings
  pub data_is : group.bytes.items ≡ data_of askings

-- a group takes one request more, that many bytes, or none
abbrev pub TakesNext : {E : Type 0} → StoreView → List ℕ → Group → Result ℕ E → Group → Type 0
TakesNext store bytes old result new =
    (front : List ℕ) → IsGathered store front old
    → IfOk result (λ n. (n ≤ length bytes) × IsGathered store (front ++ take n bytes) new)

-- it holds the requests that that many bytes are
abbrev pub Gathers : {E : Type 0} → StoreView → List ℕ → Result ℕ E → Group → Type 0
Gathers store bytes result new = IfOk result (λ n. (n ≤ length bytes) × IsGathered store (take n bytes) new)

-- a request fits besides those of a group, and no block of it is theirs
pub record Admits (group : Group) (most : ℕ) (span : Span) (count : ℕ) : Type 0 where
  pub few : length group.members.items < MOST_REQUESTS
  pub small : count ≤ MOST_DATA - length group.bytes.items
  pub listed : span.blocks ≤ most - length group.entries.items
  pub apart : AllByRecursion (LiesApart span) group.entries.items

-- two requests at least have come together, a group holds them, and they are read
pub record TakesGroup (input rest : Option (List ℕ)) (store : StoreView) (group : Group) : Type 0 where
  pub bytes : List ℕ
  pub gathered : IsGathered store bytes group
  pub several : 2 ≤ length group.members.items
  pub read : Consumes input rest bytes

-- ---- the replies

-- a refusal of the disk, as one of the store
abbrev pub told : Result (Unit {0}) DiskFault → Result (Unit {0}) StoreFault
told (Ok done) = Ok tt
told (Err fault) = Err (Disk fault)

-- each request of a group is answered by the result of all
abbrev pub reply_to : Result (Unit {0}) DiskFault → Member → List ℕ
reply_to done m = simple_reply_bytes (code_of m.wanted (told done)) m.request.cookie

abbrev pub replies_to : Result (Unit {0}) DiskFault → List Member → List ℕ
replies_to done members = flat_map (reply_to done) members

-- what follows the replies to so many requests: the store rests once for each or, if they are not passed on, nothing is
-- done
abbrev pub FollowsAll : Manner → Bool → ℕ → StoreView → StoreView → Type 0
FollowsAll manner true n old new = RestsTimes manner n old new
FollowsAll manner false n old new = new ≡ old

-- The requests of a group are done and answered over any device, and what follows is done.
pub record AnswersGroup (passes : Bool) (written contents : Option (List ℕ)) (old : StoreView) (group : Group)
    (new : StoreView) : Type 0 where
  pub done : Result (Unit {0}) DiskFault
  pub answered : StoreView
  pub writes : while_clean.Lists old group.entries.items group.bytes.items done answered
  pub sent : Appends written contents (replies_to done group.members.items)
  pub follows : FollowsAll while_clean passes (length group.members.items) answered new

-- they are done, and of the replies a beginning is written
pub record AnswersGroupInPart (written contents : Option (List ℕ)) (old : StoreView) (group : Group)
    (new : StoreView) : Type 0 where
  pub done : Result (Unit {0}) DiskFault
  pub writes : while_clean.Lists old group.entries.items group.bytes.items done new
  pub sent : AppendsFront written contents (replies_to done group.members.items)

-- what comes of a group
abbrev pub GroupGives : Option (List ℕ) → Option (List ℕ) → StoreView → Group → Result (Unit {0}) SessionFault
    → StoreView → Type 0
GroupGives written contents old group (Ok done) new = AnswersGroup true written contents old group new
GroupGives written contents old group (Err Output) new = AnswersGroupInPart written contents old group new
GroupGives written contents old group (Err Unsent) new = AnswersGroup false written contents old group new
GroupGives written contents old group (Err fault) new = ⊥
