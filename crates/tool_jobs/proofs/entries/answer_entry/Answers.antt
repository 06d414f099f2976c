use Rattle.tool_forms.specs.Entries.{IsEntryOf}
use Rattle.tool_jobs.specs.Entries.{HasNoEntry, lines_with}
use Rattle.tool_jobs.proofs.TellingLaws.{told-ok, untold-err}
use Rattle.tool_jobs.proofs.entries.answer_entry.Goals as goal

pub returns-clause-ok : goal.returns-clause-ok
returns-clause-ok g c =
    let words = c.args.words.now in
    told-ok (IsEntryOf words) (lines_with words.beside.items) (g.W.Write.contents c.args.output.now) (g.W.Write.contents c.tell_entry.new.output)
    c.in_ok-entry.entry c.in_ok-entry.ensures.ok c.tell_entry.result (rw c.deref.ensures.value at c.tell_entry.ensures.ok)

pub returns-clause-err : goal.returns-clause-err
returns-clause-err g c =
    let words = c.args.words.now in
    untold-err (IsEntryOf words) (lines_with words.beside.items) (g.W.Write.contents c.args.output.now) (g.W.Write.contents c.tell_entry.new.output)
    c.in_ok-entry.entry c.in_ok-entry.ensures.ok (HasNoEntry words) c.tell_entry.result (rw c.deref.ensures.value at c.tell_entry.ensures.err)
