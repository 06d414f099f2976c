use Rattle.std.proofs.Common.{rules, ◌≡◌, ◌∙◌, map, sym, ap}
use Rattle.file_drive.specs.Tables.{word_of, zones_in}
use Rattle.file_drive.specs.declared.found.Found.{Found}
use Rattle.file_drive.proofs.OpenedLaws.{found-count, found-kept, opened-now, opened-taken, unnoticed}
use Rattle.file_drive.proofs.opening.make_ready.Goals as goal

pub returns-then-is_ready-clause-ok : goal.returns-then-is_ready-clause-ok
returns-then-is_ready-clause-ok g c =
    opened-now c.args.boot g.F.FileBytes.seen g.F.FileBytes.may_leave g.F.FileBytes.is_usable c.args.file.now c.args.found.now c.requires.found c.requires.synced c.requires.usable
    (sym c.is_ready.ensures ∙ c.if-is_ready.true)

pub take_over-requires-clause-count : goal.take_over-requires-clause-count
take_over-requires-clause-count g c =
    found-count c.args.boot g.F.FileBytes.seen g.F.FileBytes.may_leave g.F.FileBytes.is_usable c.args.file.now c.args.found.now c.requires.found c.requires.synced

pub returns-in_err-take_over-clause-zones : goal.returns-in_err-take_over-clause-zones
returns-in_err-take_over-clause-zones g c =
    ap (λ (found : Found). zones_in c.args.found.now.head.geometry (g.F.FileBytes.seen c.take_over.new.file) 0 found.entries.items) c.take_over.ensures.same
    ∙ found-kept c.args.boot g.F.FileBytes.seen g.F.FileBytes.may_leave g.F.FileBytes.is_usable c.args.file.now c.args.found.now c.requires.found c.requires.synced
    (g.F.FileBytes.seen c.take_over.new.file) c.take_over.ensures.keeps

pub returns-in_err-take_over-clause-unnoticed : goal.returns-in_err-take_over-clause-unnoticed
returns-in_err-take_over-clause-unnoticed g c =
    let another = sym c.is_ready.ensures ∙ c.if-is_ready.false in
    unnoticed c.args.boot g.F.FileBytes.seen g.F.FileBytes.may_leave g.F.FileBytes.is_usable c.args.file.now c.args.found.now c.requires.found c.requires.synced
    c.take_over.new.file c.take_over.new.found c.take_over.ensures.same another c.take_over.ensures.read c.take_over.ensures.counts c.take_over.ensures.keeps c.take_over.ensures.leaves

pub returns-clause-ok : goal.returns-clause-ok
returns-clause-ok g c =
    let is_boot : c.take_over.new.found.head.boot ≡ c.args.boot = search rules in
    let live : c.take_over.new.found.tables.current.items ≡ map word_of c.take_over.new.found.entries.items = search rules in
    opened-taken c.args.boot g.F.FileBytes.seen g.F.FileBytes.may_leave g.F.FileBytes.is_usable c.args.file.now c.args.found.now c.requires.found c.requires.synced
    c.take_over.new.file c.take_over.new.found c.take_over.ensures.same (rw c.take_over.ensures.usable c.requires.usable) c.take_over.ensures.read is_boot live c.take_over.ensures.keeps c.take_over.ensures.leaves

pub returns-clause-zones : goal.returns-clause-zones
returns-clause-zones g c =
    ap (λ (found : Found). zones_in c.args.found.now.head.geometry (g.F.FileBytes.seen c.take_over.new.file) 0 found.entries.items) c.take_over.ensures.same
    ∙ found-kept c.args.boot g.F.FileBytes.seen g.F.FileBytes.may_leave g.F.FileBytes.is_usable c.args.file.now c.args.found.now c.requires.found c.requires.synced
    (g.F.FileBytes.seen c.take_over.new.file) c.take_over.ensures.keeps

pub returns-clause-unnoticed : goal.returns-clause-unnoticed
returns-clause-unnoticed g c =
    let another = sym c.is_ready.ensures ∙ c.if-is_ready.false in
    unnoticed c.args.boot g.F.FileBytes.seen g.F.FileBytes.may_leave g.F.FileBytes.is_usable c.args.file.now c.args.found.now c.requires.found c.requires.synced
    c.take_over.new.file c.take_over.new.found c.take_over.ensures.same another c.take_over.ensures.read c.take_over.ensures.counts c.take_over.ensures.keeps c.take_over.ensures.leaves
