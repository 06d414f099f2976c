-- Copies of a disk's blocks as flat bytes: out of the disk to a writer, and into it from a reader.
use Rattle.std.specs.Prelude.{◌≡◌, ◌≢◌, ℕ, ◌+◌, ◌*◌, ◌/◌, ◌<◌, ◌≤◌, max, List, [], ◌++◌, drop, length, take, Result, Ok, Err}
use Rattle.std.specs.Io.KnownBytes.{Appends, Consumes, IsAtEnd}
use Rattle.std.specs.List.{AllByRecursion, concat}
use Rattle.disk_files.specs.Input.{Known}
use Rattle.disk_files.specs.Output.{AppendsFront}
use Rattle.zone_translator.specs.Flat.{FlatCall, blocks_from, read, with_nothing, write}
use Rattle.zone_translator.specs.View.{DiskCause, DiskView, disk_array, disk_size, flat_of}
use Rattle.zone_translator.specs.declared.fault.DiskFault.{DiskFault}
use Rattle.zone_translator.specs.declared.fault.DiskFault.TheVariants.{Failed}
use Rattle.disk_copies.specs.declared.stream_fault.ExportFault.{ExportFault}
use Rattle.disk_copies.specs.declared.stream_fault.ExportFault.TheVariants as exports
use Rattle.disk_copies.specs.declared.stream_fault.ImportFault.{ImportFault}
use Rattle.disk_copies.specs.declared.stream_fault.ImportFault.TheVariants as imports

-- how many blocks are copied at a time: as many as 1 MiB has, one at least
abbrev pub piece_blocks : ℕ → ℕ
piece_blocks block = max 1 (1048576 / block)

-- ---- out of the disk

-- all n blocks of a range are shown by one read of a flat disk
abbrev pub ShowsRange : DiskView → ℕ → ℕ → List (List ℕ) → DiskView → Type 0
ShowsRange old first n shown new =
    FlatCall (flat_of old) (read first n) (record { result = Ok tt; shown = shown }) (flat_of new)

-- the disk refuses such a read; its first blocks, so many, were written before, and no other byte
pub record RefusesRest (old : DiskView) (first n done : ℕ) (fault : DiskFault) (written contents : Known)
    (new : DiskView) : Type 0 where
  pub bytes : Appends written contents (concat (blocks_from (disk_array old) first done))
  pub flat : FlatCall (flat_of old) (read first n) (with_nothing (Err fault)) (flat_of new)
  pub cause : DiskCause new fault

-- the drive failed at the command that reads this block of the range: all blocks before it were written
pub record LeavesUnread (old : DiskView) (first n block : ℕ) (written contents : Known) (new : DiskView) : Type 0 where
  pub done : ℕ
  pub within : done < n
  pub block_is : block ≡ first + done
  pub refuses : RefusesRest old first n done Failed written contents new

-- the disk refused for another reason: the first blocks may have been written
pub record RefusesRange (old : DiskView) (first n : ℕ) (fault : DiskFault) (written contents : Known)
    (new : DiskView) : Type 0 where
  pub done : ℕ
  pub within : done ≤ n
  pub other : fault ≢ Failed
  pub refuses : RefusesRest old first n done fault written contents new

-- n blocks from a given one on go past the end of a disk of this size
pub record EndsBefore (disk : DiskView) (first n size : ℕ) : Type 0 where
  pub some : 0 < n
  pub past : disk_size disk < first + n
  pub size_is : size ≡ disk_size disk

-- An export of n blocks from a given one on. Done, the writer holds the bytes of these blocks more, and no other. Where
-- the writer fails it holds a beginning of them; where the drive fails at a block, all blocks before it; where the disk
-- refuses, the first blocks; and where one is past its end, nothing.
abbrev pub Exports : DiskView → ℕ → ℕ → Known → Known → Result (Unit {0}) ExportFault → DiskView → Type 0
Exports old first n written contents (Ok done) new =
    (shown : List (List ℕ)) × ShowsRange old first n shown new × Appends written contents (concat shown)
Exports old first n written contents (Err exports.Output) new =
    (shown : List (List ℕ)) × ShowsRange old first n shown new × AppendsFront written contents (concat shown)
Exports old first n written contents (Err (exports.Disk fault)) new =
    RefusesRange old first n fault written contents new
Exports old first n written contents (Err (exports.Unread block)) new =
    LeavesUnread old first n block written contents new
Exports old first n written contents (Err (exports.PastEnd size)) new =
    EndsBefore old first n size × (contents ≡ written) × (new ≡ old)

-- ---- into the disk

-- what the disk answered to the write of the blocks that an import took
abbrev pub write_result : {V : Type 0} → Result V ImportFault → Result (Unit {0}) DiskFault
write_result (Ok count) = Ok tt
write_result (Err (imports.Disk fault)) = Err fault
write_result (Err fault) = Ok tt

-- Blocks were taken from a reader, and then bytes of which nothing came. The disk answered as a flat one answers one
-- write of these blocks, from a given one on: it has them all or, where it refused, a front of them.
pub record TakesBlocks {V : Type 0} (old : DiskView) (first : ℕ) (input rest : Known) (result : Result V ImportFault)
    (new : DiskView) : Type 0 where
  pub blocks : List (List ℕ)
  pub whole : AllByRecursion (λ (block : List ℕ). length block ≡ old.drive.geometry.block) blocks
  pub within : 0 < length blocks → first + length blocks ≤ disk_size old
  pub left : List ℕ
  pub read : Consumes input rest (concat blocks ++ left)
  pub flat : FlatCall (flat_of old) (write first blocks) (with_nothing (write_result result)) (flat_of new)

-- Why an import stopped that ended at this block, by the bytes of which nothing came. Where the reader fails they are
-- less than a piece.
abbrev pub StopsImport : ImportFault → DiskView → ℕ → List ℕ → Known → DiskView → Type 0
StopsImport imports.Input old end left rest new =
    length left < piece_blocks old.drive.geometry.block * old.drive.geometry.block
StopsImport imports.Rest old end left rest new =
    (0 < length left) × (length left < old.drive.geometry.block) × IsAtEnd rest
StopsImport imports.PastEnd old end left rest new = (old.drive.geometry.block ≤ length left) × (disk_size old ≤ end)
StopsImport (imports.Disk fault) old end left rest new = DiskCause new fault
StopsImport imports.Memory old end left rest new = (left ≡ []) × (new ≡ old)

-- how an import ends that took so many blocks: the reader is at its end, and nothing is left; or it stopped
abbrev pub EndsImport : Result ℕ ImportFault → DiskView → ℕ → ℕ → List ℕ → Known → DiskView → Type 0
EndsImport (Ok count) old first taken left rest new = (count ≡ taken) × (left ≡ []) × IsAtEnd rest
EndsImport (Err fault) old first taken left rest new = StopsImport fault old (first + taken) left rest new

-- The disk wrote the first of these blocks, so many, and then refused the others, which are a piece at most.
pub record RefusesOthers (old : DiskView) (first : ℕ) (blocks : List (List ℕ)) (written : ℕ) (fault : DiskFault)
    (new : DiskView) : Type 0 where
  pub mid : DiskView
  pub front : FlatCall (flat_of old) (write first (take written blocks)) (with_nothing (Ok tt)) (flat_of mid)
  pub others : FlatCall (flat_of mid) (write (first + written) (drop written blocks)) (with_nothing (Err fault))
      (flat_of new)
  pub few : length blocks ≤ written + piece_blocks old.drive.geometry.block

-- How many of the blocks that were taken are told as written: all, or those before the ones that the disk refused.
abbrev pub CountsWritten : Result ℕ ImportFault → DiskView → ℕ → List (List ℕ) → ℕ → DiskView → Type 0
CountsWritten (Ok count) old first blocks written new = written ≡ length blocks
CountsWritten (Err (imports.Disk fault)) old first blocks written new =
    RefusesOthers old first blocks written fault new
CountsWritten (Err fault) old first blocks written new = written ≡ length blocks

-- An import, from a given block on, and how many blocks it tells as written.
pub record Imports (old : DiskView) (first : ℕ) (input rest : Known) (result : Result ℕ ImportFault) (written : ℕ)
    (new : DiskView) : Type 0 where
  pub takes : TakesBlocks old first input rest result new
  pub ends : EndsImport result old first (length takes.blocks) takes.left rest new
  pub counts : CountsWritten result old first takes.blocks written new

-- ---- a piece of an import

-- the same of one piece: the reader is at its end if the piece has no block
abbrev pub EndsPiece : Result ℕ ImportFault → DiskView → ℕ → ℕ → List ℕ → Known → DiskView → Type 0
EndsPiece (Ok count) old first taken left rest new = (count ≡ taken) × (left ≡ []) × (count ≡ 0 → IsAtEnd rest)
EndsPiece (Err imports.Memory) old first taken left rest new = ⊥
EndsPiece (Err fault) old first taken left rest new = StopsImport fault old (first + taken) left rest new

pub record ImportsPiece (old : DiskView) (first : ℕ) (input rest : Known) (result : Result ℕ ImportFault) (written : ℕ)
    (new : DiskView) : Type 0 where
  pub takes : TakesBlocks old first input rest result new
  pub ends : EndsPiece result old first (length takes.blocks) takes.left rest new
  pub counts : CountsWritten result old first takes.blocks written new

-- ---- whatever the Reads of the drive returned

-- the reader gave so many whole blocks, and no other byte
pub record ComesWhole (block : ℕ) (input rest : Known) (count : ℕ) : Type 0 where
  pub bytes : List ℕ
  pub read : Consumes input rest bytes
  pub whole : length bytes ≡ count * block

-- of a piece: if it gave none, it is at its end
abbrev pub PieceComes : ℕ → Known → Known → ℕ → Type 0
PieceComes block input rest count = ComesWhole block input rest count × (count ≡ 0 → IsAtEnd rest)

-- of an import that is done: it is at its end
abbrev pub AllComes : ℕ → Known → Known → ℕ → Type 0
AllComes block input rest count = ComesWhole block input rest count × IsAtEnd rest

-- the writer was given so many whole blocks, and no other byte
pub record GoesWhole (block : ℕ) (written contents : Known) (count : ℕ) : Type 0 where
  pub bytes : List ℕ
  pub sent : Appends written contents bytes
  pub whole : length bytes ≡ count * block

-- a range past the end of the disk is refused, and nothing is written
abbrev pub RefusesPast : DiskView → Known → Known → Result (Unit {0}) ExportFault → DiskView → Type 0
RefusesPast old written contents result new =
    (result ≡ Err (exports.PastEnd (disk_size old))) × (contents ≡ written) × (new ≡ old)
