-- A run of which something is promised as long as something holds.
use Rattle.std.proofs.Common.{ℕ, Bool, List, [], ◌∷◌, Result, Ok, Err, subst}
use Rattle.std.specs.Prelude.{IsTrue}
use Rattle.disk_files.specs.Input.{Known}
use Rattle.disk_runs.specs.Run.{AnswersAll, Exchange, IsLine, Language, Runs, StopsAt, while}
use Rattle.disk_runs.specs.declared.fault.RunFault.{RunFault}
use Rattle.disk_runs.specs.declared.fault.RunFault.TheVariants.{Disk, Geometry, Input, Line, Long, Memory, Mount, Output}

line-while : {S : Type 0} (holds : S → Bool) (always language : Language S) (state : S) (line : List ℕ) → IsLine (while holds always language) state line → IsLine language state line
line-while holds always language state line is = record { short = is.short; legal = is.legal }

-- where it holds at last, it held all along, and so it is promised
answers-while : {S : Type 0} (holds : S → Bool) (always language : Language S) (old : S) (lines : List (List ℕ)) (text : List ℕ) (new : S) → AnswersAll (while holds always language) old lines text new → IsTrue (holds new) → IsTrue (holds old) × AnswersAll language old lines text new
answers-while {S} holds always language old [] text new all is = (subst (λ (s : S). IsTrue (holds s)) all.1 is, all)
answers-while holds always language old (line ∷ lines) text new all is =
    let rest = answers-while holds always language all.middle lines all.after new all.rest is in (
      all.answers.before rest.0,
      record {
        reply = all.reply;
        after = all.after;
        middle = all.middle;
        is_line = line-while holds always language old line all.is_line;
        answers = all.answers.does rest.0;
        rest = rest.1;
        text_is = all.text_is;
      },
    )

-- the same of the line at which a run stops
stops-while : {S : Type 0} (holds : S → Bool) (always language : Language S) (fault : RunFault) (left : Known) (number : ℕ) (old : S) (shown : List ℕ) (new : S) → StopsAt (while holds always language) fault left number old shown new → IsTrue (holds new)
    → IsTrue (holds old) × StopsAt language fault left number old shown new
stops-while {S} holds always language (Line m) left number old shown new (is-m, wrong, none, same) is = (
  subst (λ (s : S). IsTrue (holds s)) same is,
  (is-m, record { line = wrong.line; next = wrong.next; short = wrong.short; wrong = wrong.wrong }, none, same),
)
stops-while {S} holds always language (Long m) left number old shown new (is-m, long, none, same) is = (subst (λ (s : S). IsTrue (holds s)) same is, (is-m, long, none, same))
stops-while {S} holds always language Input left number old shown new (none, same) is = (subst (λ (s : S). IsTrue (holds s)) same is, (none, same))
stops-while holds always language Output left number old shown new at is = (
  at.does.answers.before is,
  record {
    line = at.line;
    next = at.next;
    is_line = line-while holds always language old at.line at.is_line;
    does = record { reply = at.does.reply; count = at.does.count; answers = at.does.answers.does is; short = at.does.short; shown_is = at.does.shown_is };
  },
)
stops-while holds always language Memory left number old shown new (none, same) is = (same.before is, (none, same.does is))
stops-while holds always language (Disk fault) left number old shown new (none, at) is = (at.does.before is, (none, record { line = at.line; next = at.next; is_line = line-while holds always language old at.line at.is_line; does = at.does.does is }))
stops-while holds always language (Mount fault) left number old shown new (none, at) is = (at.does.before is, (none, record { line = at.line; next = at.next; is_line = line-while holds always language old at.line at.is_line; does = at.does.does is }))
stops-while holds always language (Geometry fault) left number old shown new (none, at) is = (at.does.before is, (none, record { line = at.line; next = at.next; is_line = line-while holds always language old at.line at.is_line; does = at.does.does is }))

-- and so of a whole run
pub runs-while : {S : Type 0} (holds : S → Bool) (always language : Language S) (bytes : Exchange) (old : S) (ended : Result (Unit {0}) RunFault) (new : S) → Runs (while holds always language) bytes old ended new → IsTrue (holds new) → Runs language bytes old ended new
runs-while holds always language bytes old (Ok done) new ran is =
    record { lines = ran.lines; text = ran.text; read = ran.read; answered = (answers-while holds always language old ran.lines ran.text new ran.answered is).1; written = ran.written }
runs-while holds always language bytes old (Err fault) new early is =
    let stops = stops-while holds always language fault early.left _ early.middle early.shown new early.stops is in
    record {
      lines = early.lines;
      left = early.left;
      text = early.text;
      shown = early.shown;
      middle = early.middle;
      read = early.read;
      answered = (answers-while holds always language old early.lines early.text early.middle early.answered stops.0).1;
      written = early.written;
      stops = stops.1;
    }
