use Rattle.std.proofs.Common.{rules}
use Rattle.std.proofs.KnownBytes.{Consumes-trans}
use Rattle.drive_journal.specs.Reading.{FindsEnd}
use Rattle.disk_files.proofs.InputLaws.{all-read, few-left}
use Rattle.drive_journal.proofs.ReadLaws.{ends-in-data, ends-in-entry, ends-in-seal, ends-in-sum, finds-change, finds-no-head, finds-wrong, if-ok}
use Rattle.drive_journal.proofs.read.read_body.Goals as goal

pub returns-then-branch-lt64-clause-ok : goal.returns-then-branch-lt64-clause-ok
returns-then-branch-lt64-clause-ok g c =
    let n = c.in_ok-fill.field-0 in
    let short = c.if-branch-lt64.true in
    ends-in-entry c.args.geometry.now c.args.sum _ n short
    (few-left _ (g.R.Read.remaining c.fill.new.reader) n 64 c.fill.new.buffer c.in_ok-fill.ensures.ok.1 (search rules) short c.in_ok-fill.ensures.ok.2)

pub returns-then-branch-lt8-clause-ok : goal.returns-then-branch-lt8-clause-ok
returns-then-branch-lt8-clause-ok g c =
    let mid = g.R.Read.remaining c.fill.new.reader in
    let n = c.in_ok-fill-2.field-0 in
    let short = c.if-branch-lt8.true in
    let first = all-read _ mid c.in_ok-fill.field-0 64 c.fill.new.buffer c.in_ok-fill.ensures.ok.1 (search rules) c.if-branch-lt64.false in
    ends-in-sum c.args.geometry.now c.args.sum _ mid c.fill.new.buffer n (search rules) first short
    (few-left mid (g.R.Read.remaining c.fill-2.new.reader) n 8 c.fill-2.new.buffer c.in_ok-fill-2.ensures.ok.1 (search rules) short c.in_ok-fill-2.ensures.ok.2)

pub returns-in_default-clause-ok : goal.returns-in_default-clause-ok
returns-in_default-clause-ok g c =
    let mid = g.R.Read.remaining c.fill.new.reader in
    let after = g.R.Read.remaining c.fill-2.new.reader in
    let first = all-read _ mid c.in_ok-fill.field-0 64 c.fill.new.buffer c.in_ok-fill.ensures.ok.1 (search rules) c.if-branch-lt64.false in
    let second = all-read mid after c.in_ok-fill-2.field-0 8 c.fill-2.new.buffer c.in_ok-fill-2.ensures.ok.1 (search rules) c.if-branch-lt8.false in
    finds-no-head c.args.geometry.now c.args.sum c.fill.new.buffer c.fill-2.new.buffer (search rules) (search rules) _ after
    (Consumes-trans _ mid after c.fill.new.buffer c.fill-2.new.buffer first second) c.in_default.ensures.none

pub returns-then-branch-count-clause-ok : goal.returns-then-branch-count-clause-ok
returns-then-branch-count-clause-ok g c =
    let mid = g.R.Read.remaining c.fill.new.reader in
    let after = g.R.Read.remaining c.fill-2.new.reader in
    let first = all-read _ mid c.in_ok-fill.field-0 64 c.fill.new.buffer c.in_ok-fill.ensures.ok.1 (search rules) c.if-branch-lt64.false in
    let second = all-read mid after c.in_ok-fill-2.field-0 8 c.fill-2.new.buffer c.in_ok-fill-2.ensures.ok.1 (search rules) c.if-branch-lt8.false in
    let n = c.in_ok-fill_bytes.field-0 in
    ends-in-data c.args.geometry.now c.args.sum c.fill.new.buffer c.fill-2.new.buffer (search rules) (search rules) _ after
    (Consumes-trans _ mid after c.fill.new.buffer c.fill-2.new.buffer first second) c.in-Some.ensures.some c.in-Some.count c.in-Some.ensures.count n c.if-branch-count.true
    (few-left after (g.R.Read.remaining c.fill_bytes.new.reader) n c.in-Some.count c.fill_bytes.new.bytes.items c.in_ok-fill_bytes.ensures.read c.in_ok-fill_bytes.ensures.length c.if-branch-count.true (λ lt. c.in_ok-fill_bytes.ensures.ended c.if-branch-count.true))

pub returns-then-branch-lt8-2-clause-ok : goal.returns-then-branch-lt8-2-clause-ok
returns-then-branch-lt8-2-clause-ok g c =
    let mid = g.R.Read.remaining c.fill.new.reader in
    let after = g.R.Read.remaining c.fill-2.new.reader in
    let last = g.R.Read.remaining c.fill_bytes.new.reader in
    let first = all-read _ mid c.in_ok-fill.field-0 64 c.fill.new.buffer c.in_ok-fill.ensures.ok.1 (search rules) c.if-branch-lt64.false in
    let second = all-read mid after c.in_ok-fill-2.field-0 8 c.fill-2.new.buffer c.in_ok-fill-2.ensures.ok.1 (search rules) c.if-branch-lt8.false in
    let third = all-read after last c.in_ok-fill_bytes.field-0 c.in-Some.count c.fill_bytes.new.bytes.items c.in_ok-fill_bytes.ensures.read c.in_ok-fill_bytes.ensures.length c.if-branch-count.false in
    let n = c.in_ok-fill-3.field-0 in
    ends-in-seal c.args.geometry.now c.args.sum c.fill.new.buffer c.fill-2.new.buffer (search rules) (search rules) _ after
    (Consumes-trans _ mid after c.fill.new.buffer c.fill-2.new.buffer first second) c.in-Some.ensures.some c.in-Some.count c.in-Some.ensures.count last c.fill_bytes.new.bytes.items third c.in_ok-fill_bytes.ensures.length n c.if-branch-lt8-2.true
    (few-left last (g.R.Read.remaining c.fill-3.new.reader) n 8 c.fill-3.new.buffer c.in_ok-fill-3.ensures.ok.1 (search rules) c.if-branch-lt8-2.true c.in_ok-fill-3.ensures.ok.2)

pub returns-then-not-is_sum-clause-ok : goal.returns-then-not-is_sum-clause-ok
returns-then-not-is_sum-clause-ok g c =
    let mid = g.R.Read.remaining c.fill.new.reader in
    let after = g.R.Read.remaining c.fill-2.new.reader in
    let last = g.R.Read.remaining c.fill_bytes.new.reader in
    let end = g.R.Read.remaining c.fill-3.new.reader in
    let first = all-read _ mid c.in_ok-fill.field-0 64 c.fill.new.buffer c.in_ok-fill.ensures.ok.1 (search rules) c.if-branch-lt64.false in
    let second = all-read mid after c.in_ok-fill-2.field-0 8 c.fill-2.new.buffer c.in_ok-fill-2.ensures.ok.1 (search rules) c.if-branch-lt8.false in
    let third = all-read after last c.in_ok-fill_bytes.field-0 c.in-Some.count c.fill_bytes.new.bytes.items c.in_ok-fill_bytes.ensures.read c.in_ok-fill_bytes.ensures.length c.if-branch-count.false in
    let fourth = all-read last end c.in_ok-fill-3.field-0 8 c.fill-3.new.buffer c.in_ok-fill-3.ensures.ok.1 (search rules) c.if-branch-lt8-2.false in
    let right = rw (c.sum_over-next.ensures, c.sum_over.ensures, c.deref.ensures.value) at c.is_sum.ensures.1 in
    if-ok c.find_end.result (FindsEnd end) _
    (λ what ends. finds-wrong c.args.geometry.now c.args.sum c.fill.new.buffer c.fill-2.new.buffer (search rules) (search rules) _ after
    (Consumes-trans _ mid after c.fill.new.buffer c.fill-2.new.buffer first second) c.in-Some.ensures.some c.in-Some.count c.in-Some.ensures.count last c.fill_bytes.new.bytes.items third c.in_ok-fill_bytes.ensures.length
    end c.fill-3.new.buffer fourth (search rules) _ _ what (λ same. absurd (cc (c.if-not-is_sum.true, right same))) ends) c.find_end.ensures.ok

pub returns-clause-ok : goal.returns-clause-ok
returns-clause-ok g c =
    let mid = g.R.Read.remaining c.fill.new.reader in
    let after = g.R.Read.remaining c.fill-2.new.reader in
    let last = g.R.Read.remaining c.fill_bytes.new.reader in
    let end = g.R.Read.remaining c.fill-3.new.reader in
    let first = all-read _ mid c.in_ok-fill.field-0 64 c.fill.new.buffer c.in_ok-fill.ensures.ok.1 (search rules) c.if-branch-lt64.false in
    let second = all-read mid after c.in_ok-fill-2.field-0 8 c.fill-2.new.buffer c.in_ok-fill-2.ensures.ok.1 (search rules) c.if-branch-lt8.false in
    let third = all-read after last c.in_ok-fill_bytes.field-0 c.in-Some.count c.fill_bytes.new.bytes.items c.in_ok-fill_bytes.ensures.read c.in_ok-fill_bytes.ensures.length c.if-branch-count.false in
    let fourth = all-read last end c.in_ok-fill-3.field-0 8 c.fill-3.new.buffer c.in_ok-fill-3.ensures.ok.1 (search rules) c.if-branch-lt8-2.false in
    finds-change c.args.geometry.now c.args.sum c.fill.new.buffer c.fill-2.new.buffer (search rules) (search rules) _ after
    (Consumes-trans _ mid after c.fill.new.buffer c.fill-2.new.buffer first second) c.in-Some.ensures.some c.in-Some.count c.in-Some.ensures.count last c.fill_bytes.new.bytes.items third c.in_ok-fill_bytes.ensures.length
    end c.fill-3.new.buffer fourth (search rules) c.sum_over-next.result (rw (c.sum_over.ensures, c.deref.ensures.value) at c.sum_over-next.ensures) (c.is_sum.ensures.0 c.if-not-is_sum.false)
