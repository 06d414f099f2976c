use Rattle.std.proofs.Common.{◌≡◌, ◌+◌, ◌-◌, ◌≤◌, true, length}
use Rattle.std.specs.Io.KnownBytes.{Consumes, prepend_known}
use Rattle.disk_files.specs.Line.{NoFeed}
use Rattle.disk_files.specs.declared.line_reader.TheConstants.{LONGEST_LINE, MOST_READS}
use Rattle.disk_files.proofs.line_reader.read_line.Given as goal

abbrev pub invariant-loop-ahead : goal.invariant-loop-ahead
invariant-loop-ahead g l =
    let left = g.R.Read.remaining in
    record {
      reads : l.reads ≤ MOST_READS;
      consumed : Consumes (prepend_known l.fn.ahead.bytes (left l.fn.reader)) (prepend_known l.ahead.bytes (left l.reader)) l.ahead.line;
      no_feed : NoFeed l.ahead.line;
      room : length l.ahead.line ≤ LONGEST_LINE + 1;
      goes_on : l.ahead.is_open ≡ true;
    }

abbrev pub decreases-loop-ahead : goal.decreases-loop-ahead
decreases-loop-ahead g l = LONGEST_LINE + 1 - length l.ahead.line
