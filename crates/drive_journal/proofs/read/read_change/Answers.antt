use Rattle.std.proofs.Common.{rules, arith, ℕ, List, length, sym, ◌≡◌, ◌∙◌, ap, true, subst}
use Rattle.std.specs.Prelude.{nat_eq}
use Rattle.std.specs.List.{starts_with}
use Rattle.std.specs.Io.KnownBytes.{Consumes}
use Rattle.std.proofs.lemmas.List.{take_all}
use Rattle.drive_journal.specs.Change.{mark}
use Rattle.drive_journal.specs.Reading.{FindsBody}
use Rattle.disk_files.proofs.InputLaws.{all-read}
use Rattle.drive_journal.proofs.ReadLaws.{finds-marked, if-ok, whole-mark}
use Rattle.drive_journal.proofs.read.read_change.Goals as goal

pub returns-clause-ok : goal.returns-clause-ok
returns-clause-ok g c =
    let mid = g.R.Read.remaining c.fill.new.reader in
    let new = g.R.Read.remaining c.read_body.new.reader in
    let buffer = c.fill.new.buffer in
    let count = c.in_ok-count.count in
    let long : length buffer ≡ 8 = search rules in
    let first = all-read _ mid count 8 buffer c.in_ok-count.ensures.ok.1 long c.if-count-lt8.false in
    let all = take_all count buffer (omega (arith, long, c.if-count-lt8.false)) in
    let begins : starts_with nat_eq mark buffer ≡ true = ap (λ (l : List ℕ). starts_with nat_eq mark l) (sym all) ∙ sym c.is_front_of_mark.ensures ∙ c.if-not-is_front_of_mark.false in
    let same = whole-mark buffer long begins in
    if-ok c.read_body.result (FindsBody c.args.geometry.now c.args.sum mid new (record { entry = c.read_body.new.entry; bytes = c.read_body.new.bytes.items })) _
    (λ what body. finds-marked c.args.geometry.now c.args.sum _ mid new _ what (subst (Consumes _ mid) same first) body) c.read_body.ensures.ok
