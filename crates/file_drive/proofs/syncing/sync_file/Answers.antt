use Rattle.std.proofs.Common.{rules, ◌≡◌, List, ℕ, ap, refl, inl, arith}
use Rattle.std.specs.Int.{w64, to_le_bytes}
use Rattle.sqlite_disk.specs.Disk.{Holds}
use Rattle.file_drive.specs.Head.{boot_in}
use Rattle.file_drive.specs.Layout.{word_in}
use Rattle.file_drive.specs.declared.boot.Boot.{Boot}
use Rattle.file_drive.proofs.PartLaws.{word-beside, word-held}
use Rattle.file_drive.proofs.syncing.sync_file.Goals as goal

pub returns-then-is_ok-clause-named : goal.returns-then-is_ok-clause-named
returns-then-is_ok-clause-named g c =
    let old = g.F.FileBytes.seen c.sync.new.self in
    let new = g.F.FileBytes.seen c.write_word.new.self in
    let put : Holds new 72 (to_le_bytes w64 0) = search rules in
    let is : word_in new 72 ≡ 0 = word-held new 72 0 (omega arith) put in
    let was : boot_in old ≡ c.args.named.now = rw c.sync.ensures.seen c.requires.named in
    rw (is, word-beside 72 8 64 old new c.write_word.ensures.others (inl (omega arith)), ap (λ (b : Boot). b.first) was) refl

pub returns-then-is_ok-clause-out : goal.returns-then-is_ok-clause-out
returns-then-is_ok-clause-out g c = λ free.
    let shows : (bytes : List ℕ) → g.F.FileBytes.may_show c.sync.new.self bytes → g.F.FileBytes.may_leave c.args.file.now bytes = search rules in
    let told : (bytes : List ℕ) → g.F.FileBytes.may_show c.write_word.new.self bytes → Holds bytes 72 (to_le_bytes w64 0) = search rules in
    record {
      follows = λ bytes may.
          let earlier = c.write_word.ensures.shows bytes may in
          (earlier.0, shows earlier.0 earlier.1, earlier.2);
      is_out = λ bytes may. word-held bytes 72 0 (omega arith) (told bytes may);
    }
