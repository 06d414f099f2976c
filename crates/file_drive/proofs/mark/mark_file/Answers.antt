use Rattle.std.proofs.Common.{rules, ◌≡◌, ◌≤◌, ◌∙◌, List, ℕ, length, ap, subst, sym, arith}
use Rattle.std.specs.Int.{w64, to_le_bytes}
use Rattle.sqlite_disk.specs.Disk.{Holds}
use Rattle.file_bytes.specs.Changes.{SameBeside}
use Rattle.file_drive.specs.Mark.{mark_in, mark_of}
use Rattle.file_drive.proofs.MarkLaws.{mark-then, mark-zones, marked-synced, others-copied}
use Rattle.file_drive.proofs.PartLaws.{word-held}
use Rattle.file_drive.proofs.mark.mark_file.Goals as goal

pub returns-in-Ok-clause-marked : goal.returns-in-Ok-clause-marked
returns-in-Ok-clause-marked g c =
    let middle = g.F.FileBytes.seen c.write_word.new.self in
    let last = g.F.FileBytes.seen c.sync_or_forget.new.file in
    let word = mark_of c.args.number in
    let low = c.ranges.number.fits in
    let put : Holds middle 80 (to_le_bytes w64 word) = search rules in
    let is : mark_in middle ≡ word = word-held middle 80 word (omega (arith, low)) put in
    let long : 88 ≤ length last = rw c.in-Ok.ensures.seen (search rules) in
    marked-synced g.F.FileBytes c.args.number c.sync_or_forget.new.file long (search rules) (ap mark_in c.in-Ok.ensures.seen ∙ is)
    (λ bytes may. c.in-Ok.ensures.durable bytes may ∙ sym c.in-Ok.ensures.seen)

pub returns-in-Ok-clause-others : goal.returns-in-Ok-clause-others
returns-in-Ok-clause-others g c = λ other few away.
    let middle = g.F.FileBytes.seen c.write_word.new.self in
    let last = g.F.FileBytes.seen c.sync_or_forget.new.file in
    let word = mark_of c.args.number in
    let low = c.ranges.number.fits in
    let put : Holds middle 80 (to_le_bytes w64 word) = search rules in
    let is : mark_in middle ≡ word = word-held middle 80 word (omega (arith, low)) put in
    others-copied c.args.number other last low few away (ap mark_in c.in-Ok.ensures.seen ∙ is)

pub returns-in-Ok-clause-zones : goal.returns-in-Ok-clause-zones
returns-in-Ok-clause-zones g c = λ geometry boot.
    let old = g.F.FileBytes.seen c.args.file.now in
    let last = g.F.FileBytes.seen c.sync_or_forget.new.file in
    let first = subst (λ (file : List ℕ). SameBeside 80 8 file (g.F.FileBytes.seen c.write_word.new.self)) c.check_mark.ensures.seen c.write_word.ensures.others in
    let beside : SameBeside 80 8 old last = rw c.in-Ok.ensures.seen first in
    mark-zones geometry old last beside boot

pub returns-in-Ok-clause-leaves : goal.returns-in-Ok-clause-leaves
returns-in-Ok-clause-leaves g c = λ bytes may.
    let middle = c.sync_or_forget.ensures.leaves bytes may in
    let first = c.write_word.ensures.leaves middle.0 middle.1 in
    (first.0, c.check_mark.ensures.leaves first.0 first.1, mark-then first.0 middle.0 bytes first.2 middle.2)

pub returns-in-Err-clause-leaves : goal.returns-in-Err-clause-leaves
returns-in-Err-clause-leaves g c = λ bytes may.
    let middle = c.sync_or_forget.ensures.leaves bytes may in
    let first = c.write_word.ensures.leaves middle.0 middle.1 in
    (first.0, c.check_mark.ensures.leaves first.0 first.1, mark-then first.0 middle.0 bytes first.2 middle.2)
