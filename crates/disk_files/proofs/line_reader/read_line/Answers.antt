use Rattle.std.proofs.Common.{◌≢◌, [], arith}
use Rattle.std.specs.Io.KnownBytes.{prepend_known}
use Rattle.std.proofs.lemmas.Bool.Decides.{nat_tests}
use Rattle.disk_files.proofs.ReadingLaws.{line_done, line_ends, too_long}
use Rattle.disk_files.proofs.line_reader.read_line.Goals as goal

pub returns-in-Line-clause-line : goal.returns-in-Line-clause-line
returns-in-Line-clause-line g c =
    let left = g.R.Read.remaining in
    let at = c.loop-ahead in
    let part = rw c.in-Line.is at c.in_ok-take_part.ensures.takes in
    line_done (prepend_known c.args.ahead.now.bytes (left c.args.reader.now)) (prepend_known at.ahead.bytes (left at.reader)) (prepend_known c.take_part.new.ahead.bytes (left c.take_part.new.reader))
    at.ahead.line c.take_part.new.ahead.line part.0 at.invariant.no_feed at.invariant.consumed part.1 part.2

pub returns-in-End-clause-line : goal.returns-in-End-clause-line
returns-in-End-clause-line g c =
    let left = g.R.Read.remaining in
    let at = c.loop-ahead in
    let part = rw c.in-End.is at c.in_ok-take_part.ensures.takes in
    let some : at.ahead.line ≢ [] = λ e. absurd (grind (arith, nat_tests)) in
    rw part.2
    (line_ends (prepend_known c.args.ahead.now.bytes (left c.args.reader.now)) (prepend_known at.ahead.bytes (left at.reader)) (prepend_known c.take_part.new.ahead.bytes (left c.take_part.new.reader))
    at.ahead.line at.invariant.no_feed at.invariant.consumed part.0 part.1 some)

pub returns-clause-line : goal.returns-clause-line
returns-clause-line g c =
    let left = g.R.Read.remaining in
    let at = c.loop-ahead in
    too_long (prepend_known c.args.ahead.now.bytes (left c.args.reader.now)) (prepend_known at.ahead.bytes (left at.reader)) at.ahead.line at.invariant.no_feed at.invariant.consumed (grind (arith, nat_tests))
