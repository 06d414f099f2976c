use Rattle.std.proofs.Common.{List, ℕ, arith}
use Rattle.std.specs.Int.{w64, to_le_bytes}
use Rattle.sqlite_disk.specs.Disk.{Holds}
use Rattle.file_drive.proofs.MarkLaws.{told-of}
use Rattle.file_drive.proofs.PartLaws.{word-held}
use Rattle.file_drive.proofs.syncing.sync_or_forget.Goals as goal

pub returns-clause-out : goal.returns-clause-out
returns-clause-out g c = λ free.
    let told = told-of c.write_word.result (g.F.FileBytes.is_stuck c.write_word.new.self)
    ((bytes : List ℕ) → g.F.FileBytes.may_show c.write_word.new.self bytes → Holds bytes 72 (to_le_bytes w64 0))
    c.write_word.ensures.sticks free c.write_word.ensures.shown in
    record {
      follows = λ bytes may.
          let earlier = c.write_word.ensures.shows bytes may in
          (earlier.0, c.in-Err.ensures.shows earlier.0 earlier.1, earlier.2);
      is_out = λ bytes may. word-held bytes 72 0 (omega arith) (told bytes may);
    }
