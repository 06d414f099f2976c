-- What holds of lines and of runs over any device.
use Rattle.std.proofs.Common.{◌≡◌, ◌⊎◌, ℕ, ◌+◌, true, false, List, [], ◌∷◌, ◌++◌, length, Option, Some, None, Ok, Err, inl, inr, refl, sym, ap, subst, ◌∙◌, arith}
use Rattle.std.specs.Prelude.{Bool, IsTrue, OnErr, OnOk, Result}
use Rattle.zone_states.specs.declared.geometry.Geometry.{Geometry}
use Rattle.disk_files.specs.Input.{Known}
use Rattle.disk_files.specs.Reply.{block_lines, ok_text, out_of_range_text}
use Rattle.disk_files.specs.declared.trace_line.TraceLine.{TraceLine}
use Rattle.disk_files.specs.declared.trace_line.TraceLine.TheVariants.{Read, Fill, Write, Trim, Idle, Grow, Remount}
use Rattle.zone_choice.specs.Sane.{KeepsShape}
use Rattle.zone_translator.specs.View.{CompletesAtMost, CostsMost, DiskView, StaysAlike, disk_size}
use Rattle.zone_translator.specs.declared.fault.DiskFault.{DiskFault}
use Rattle.zone_translator.specs.declared.fault.DiskFault.TheVariants.{OutOfRange}
use Rattle.disk_runs.specs.AnyDevice.{FormOf, HasForm, MayHaveSize, PutsLines, StaysBy, StaysRead, any_lines, count_shown, first_shown, resizes}
use Rattle.disk_runs.specs.Costs.{NoneMounts, all_commands, line_commands, most_commands, with_flush}
use Rattle.disk_runs.specs.FlatLines.{IsOfDisk, reply_of}
use Rattle.disk_runs.specs.Laws.{CommandsAreFew, LastIsFew, LinesKeepSize, RunKeepsShape}
use Rattle.disk_runs.specs.Run.{AnswersAll, IsAnswered, LineStops, StopsAt}
use Rattle.disk_runs.specs.Taken.{disk_lines, flushes, is_flushed, takes_call}
use Rattle.disk_runs.specs.Trace.{said_by}
use Rattle.disk_runs.specs.declared.fault.RunFault.{RunFault}
use Rattle.disk_runs.specs.declared.fault.RunFault.TheVariants as runs
use Rattle.disk_runs.specs.declared.fault.RunFault.TheVariants.{Disk, Mount, Output, Memory}
use Rattle.disk_runs.specs.declared.taking.Taking.{Taking}
use Rattle.zone_translator.proofs.CostLaws.{costs-join, costs-plain, costs-within}
use Rattle.disk_runs.proofs.RequestLaws.{nothing-shown}
use Rattle.disk_runs.proofs.ShapeLaws.{alike_same, shape_join, shape_same}
use Rattle.disk_runs.proofs.TakenLaws.{Says, flushed_by_call, taken_legal}

-- ---- what a line keeps

-- a growth was done, or refused
pub grown : {P Q : Type 0} (done : Result (Unit {0}) DiskFault) → OnOk done P → OnErr done Q → P ⊎ Q
grown (Ok u) ok err = inl ok
grown (Err fault) ok err = inr err

-- one that leaves shape and size, and takes no more commands than it may
pub stays_alike : (said : Option (TraceLine × List ℕ)) (old new : DiskView) → StaysAlike old new
    → (disk_size new ≡ disk_size old → MayHaveSize said (disk_size old) (disk_size new))
    → CostsMost old (λ each. most_commands each old.drive.geometry said) new → StaysBy false said old new
stays_alike said old new alike sized costs =
    record { shape = alike.shape; size = sized alike.size; completed = λ none. costs }

flush_more : (flushed : Bool) (n : ℕ) → with_flush flushed n ≡ n + with_flush flushed 0
flush_more true n = omega arith
flush_more false n = omega arith

-- a line, and the flush that follows it
pub stays_flushed : (flushed : Bool) (said : Option (TraceLine × List ℕ)) (old middle new : DiskView) → StaysBy false said old middle → StaysAlike middle new → CompletesAtMost middle (with_flush flushed 0) new → StaysBy flushed said old new
stays_flushed flushed said old middle new first then costs = record {
  shape = shape_join old.drive middle.drive new.drive first.shape then.shape;
  size = subst (λ (n : ℕ). MayHaveSize said (disk_size old) n) (sym then.size) first.size;
  completed = λ none.
      let both = costs-join old middle new (λ each. most_commands each old.drive.geometry said) (λ each. with_flush flushed 0) first.shape.geometry then.shape.unfailing (first.completed none) (costs-plain middle new (with_flush flushed 0) costs) in
      costs-within old new (λ each. most_commands each old.drive.geometry said + with_flush flushed 0) (λ each. with_flush flushed (most_commands each old.drive.geometry said)) (λ each. omega (arith, flush_more flushed (most_commands each old.drive.geometry said))) both;
}

-- or none, where it was refused
pub stays_unflushed : (flushed : Bool) (said : Option (TraceLine × List ℕ)) (old new : DiskView) → StaysBy false said old new → StaysBy flushed said old new
stays_unflushed flushed said old new first = stays_flushed flushed said old new new first (alike_same new) (omega arith)

said_is : (line : List ℕ) (call : TraceLine) (bytes : List ℕ) → Says line call bytes → said_by line ≡ Some (call, bytes)
said_is line call bytes s = rw (s.some, s.said) refl

-- the same of the line's text
stays_said : (taking : Taking) (line : List ℕ) (call : TraceLine) (bytes : List ℕ) (old new : DiskView) → Says line call bytes → StaysBy (flushes taking call) (Some (call, bytes)) old new → StaysBy (is_flushed taking line) (said_by line) old new
stays_said taking line call bytes old new says stays =
    subst (λ (flushed : Bool). StaysBy flushed (said_by line) old new) (sym (flushed_by_call taking line call bytes says))
    (subst (λ (said : Option (TraceLine × List ℕ)). StaysBy (flushes taking call) said old new) (sym (said_is line call bytes says)) stays)

-- ---- the form of a reply

-- the reply to a read past the end
pub past_form : (block first n : ℕ) (was reply : List ℕ) → was ≡ [] → reply ≡ was ++ out_of_range_text → HasForm block (Read first n) reply
past_form block first n was reply none is = record {
  shown = [];
  result = Err OutOfRange;
  long = tt;
  whole = tt;
  reply_is = ap (λ (xs : List ℕ). Some xs) (sym (is ∙ ap (λ (xs : List ℕ). xs ++ out_of_range_text) none));
}

-- and to one that showed its blocks
pub read_form : (block first n : ℕ) (was text reply : List ℕ) → was ≡ [] → PutsLines block first n was text → reply ≡ text ++ ok_text → HasForm block (Read first n) reply
read_form block first n was text reply none puts is = record {
  shown = puts.shown;
  result = Ok tt;
  long = puts.long;
  whole = puts.whole;
  reply_is = ap (λ (xs : List ℕ). Some xs) (sym (is ∙ ap (λ (xs : List ℕ). xs ++ ok_text) (puts.after_is ∙ ap (λ (xs : List ℕ). xs ++ block_lines first puts.shown) none)));
}

none_shown : (n : ℕ) (done : Result (Unit {0}) DiskFault) → n ≡ 0 → OnOk done (0 ≡ n)
none_shown n (Ok u) none = sym none
none_shown n (Err fault) none = tt

-- the reply to a line that shows nothing
pub told_form : (block : ℕ) (line : TraceLine) (done : Result (Unit {0}) DiskFault) (result : Result (Unit {0}) RunFault) (reply : List ℕ) → count_shown line ≡ 0 → OnOk result (reply_of 0 [] done ≡ Some reply) → OnOk result (HasForm block line reply)
told_form block line done (Ok u) reply none told = record { shown = []; result = done; long = none_shown (count_shown line) done none; whole = tt; reply_is = nothing-shown (first_shown line) done ∙ told }
told_form block line done (Err fault) reply none told = tt

-- and to a remount
pub remount_form : (block : ℕ) (result : Result (Unit {0}) RunFault) (reply : List ℕ) → OnOk result (reply ≡ ok_text) → OnOk result (HasForm block Remount reply)
remount_form block (Ok u) reply is = record { shown = []; result = Ok tt; long = refl; whole = tt; reply_is = ap (λ (xs : List ℕ). Some xs) (sym is) }
remount_form block (Err fault) reply is = tt

-- ---- a line is answered as long as the drive is clean

pub any_answered : (taking : Taking) (old new : DiskView) (line reply bytes : List ℕ) (call : TraceLine) → Says line call bytes → takes_call taking old.drive.geometry.block call bytes ≡ true → StaysBy (flushes taking call) (Some (call, bytes)) old new → HasForm old.drive.geometry.block call reply
    → (IsTrue new.drive.clean → IsAnswered (disk_lines taking) old line reply new) → IsAnswered (any_lines taking) old line reply new
any_answered taking old new line reply bytes call says taken stays form does = record {
  legal = taken_legal taking old.drive.geometry.block line bytes call says taken;
  answers = record {
    before = stays.shape.trusted;
    always = record {
      stays = stays_said taking line call bytes old new says stays;
      form = subst (λ (said : Option (TraceLine × List ℕ)). FormOf old.drive.geometry.block said reply) (sym (said_is line call bytes says)) form;
    };
    does = λ clean. (does clean).answers;
  };
}

-- or has no reply
pub any_stopped : (taking : Taking) (number : ℕ) (old new : DiskView) (line bytes : List ℕ) (call : TraceLine) (fault : RunFault) → Says line call bytes → takes_call taking old.drive.geometry.block call bytes ≡ true → IsOfDisk fault
    → StaysBy (flushes taking call) (Some (call, bytes)) old new → (fault ≡ Memory → StaysRead old new) → (IsTrue new.drive.clean → LineStops (disk_lines taking) number old line fault new) → LineStops (any_lines taking) number old line fault new
any_stopped taking number old new line bytes call (Disk f) says taken kind stays reads stops = (
  taken_legal taking old.drive.geometry.block line bytes call says taken,
  record { before = stays.shape.trusted; always = record { kind = tt; stays = stays_said taking line call bytes old new says stays }; does = λ clean. (stops clean).1 },
)
any_stopped taking number old new line bytes call (Mount f) says taken kind stays reads stops = (
  taken_legal taking old.drive.geometry.block line bytes call says taken,
  record { before = stays.shape.trusted; always = record { kind = tt; stays = stays_said taking line call bytes old new says stays }; does = λ clean. (stops clean).1 },
)
any_stopped taking number old new line bytes call Memory says taken kind stays reads stops = record { before = stays.shape.trusted; always = reads refl; does = stops }
any_stopped taking number old new line bytes call (runs.Line m) says taken kind stays reads stops = absurd kind
any_stopped taking number old new line bytes call (runs.Long m) says taken kind stays reads stops = absurd kind
any_stopped taking number old new line bytes call (runs.Geometry f) says taken kind stays reads stops = absurd kind
any_stopped taking number old new line bytes call runs.Input says taken kind stays reads stops = absurd kind
any_stopped taking number old new line bytes call runs.Output says taken kind stays reads stops = absurd kind

-- ---- a run

shape_all : (taking : Taking) (lines : List (List ℕ)) (text : List ℕ) (old new : DiskView) → AnswersAll (any_lines taking) old lines text new → KeepsShape old.drive new.drive
shape_all taking [] text old new all = rw all.1 (shape_same old.drive)
shape_all taking (line ∷ lines) text old new all = shape_join old.drive all.middle.drive new.drive all.answers.always.stays.shape (shape_all taking lines all.after all.middle new all.rest)

shape_stop : (taking : Taking) (fault : RunFault) (left : Known) (number : ℕ) (old : DiskView) (shown : List ℕ) (new : DiskView) → StopsAt (any_lines taking) fault left number old shown new → KeepsShape old.drive new.drive
shape_stop taking (runs.Line m) left number old shown new s = rw s.3 (shape_same old.drive)
shape_stop taking (runs.Long m) left number old shown new s = rw s.3 (shape_same old.drive)
shape_stop taking runs.Input left number old shown new s = rw s.1 (shape_same old.drive)
shape_stop taking Output left number old shown new s = s.does.answers.always.stays.shape
shape_stop taking Memory left number old shown new s = s.1.always.alike.shape
shape_stop taking (Disk f) left number old shown new s = s.1.does.always.stays.shape
shape_stop taking (Mount f) left number old shown new s = s.1.does.always.stays.shape
shape_stop taking (runs.Geometry f) left number old shown new s = s.1.does.always.stays.shape

pub run_keeps_shape : RunKeepsShape
run_keeps_shape taking bytes old new (Ok done) r = shape_all taking r.lines r.text old new r.answered
run_keeps_shape taking bytes old new (Err fault) r =
    shape_join old.drive r.middle.drive new.drive (shape_all taking r.lines r.text old r.middle r.answered) (shape_stop taking fault r.left (length r.lines + 1) r.middle r.shown new r.stops)

size_kept : (said : Option (TraceLine × List ℕ)) (old new : ℕ) → resizes said ≡ false → MayHaveSize said old new → new ≡ old
size_kept None old new none size = size
size_kept (Some (Read first n, bytes)) old new none size = size
size_kept (Some (Fill first n byte, bytes)) old new none size = size
size_kept (Some (Write first, bytes)) old new none size = size
size_kept (Some (Trim first n, bytes)) old new none size = size
size_kept (Some (Idle n, bytes)) old new none size = size
size_kept (Some (Grow blocks, bytes)) old new none size = absurd (cc)
size_kept (Some (Remount, bytes)) old new none size = absurd (cc)

pub lines_keep_size : LinesKeepSize
lines_keep_size taking old new [] text all none = rw all.1 refl
lines_keep_size taking old new (line ∷ lines) text all none =
    lines_keep_size taking all.middle new lines all.after all.rest none.1 ∙ size_kept (said_by line) (disk_size old) (disk_size all.middle) none.0 all.answers.always.stays.size

-- a drive that failed has failed from then on
lines_fail : (taking : Taking) (old new : DiskView) (lines : List (List ℕ)) (text : List ℕ) → AnswersAll (any_lines taking) old lines text new → NoneMounts lines → IsTrue new.drive.unfailing → IsTrue old.drive.unfailing
lines_fail taking old new [] text all none = rw all.1 (λ up. up)
lines_fail taking old new (line ∷ lines) text all none = λ up. all.answers.always.stays.shape.unfailing (lines_fail taking all.middle new lines all.after all.rest none.1 up)

pub any_commands_are_few : CommandsAreFew any_lines
any_commands_are_few taking old new [] text all none = rw all.1 (costs-plain old old 0 (omega arith))
any_commands_are_few taking old new (line ∷ lines) text all none =
    let first = all.answers.always.stays.completed none.0 in
    let same = all.answers.always.stays.shape.geometry in
    let rest = any_commands_are_few taking all.middle new lines all.after all.rest none.1 in
    let after = subst (λ (g : Geometry). CostsMost all.middle (λ each. all_commands taking each g lines) new) same rest in
    costs-join old all.middle new (λ each. line_commands taking each old.drive.geometry line) (λ each. all_commands taking each old.drive.geometry lines) same (lines_fail taking all.middle new lines all.after all.rest none.1) first after

pub any_last_is_few : LastIsFew any_lines
any_last_is_few taking Output left number old shown new s = λ none. s.does.answers.always.stays.completed none
any_last_is_few taking (Disk fault) left number old shown new s = λ none. s.1.does.always.stays.completed none
any_last_is_few taking (Mount fault) left number old shown new s = tt
any_last_is_few taking Memory left number old shown new s = s.1.always.reads.completed
any_last_is_few taking (runs.Line m) left number old shown new s = rw s.3 (omega arith)
any_last_is_few taking (runs.Long m) left number old shown new s = rw s.3 (omega arith)
any_last_is_few taking runs.Input left number old shown new s = rw s.1 (omega arith)
any_last_is_few taking (runs.Geometry fault) left number old shown new s = absurd s.1.does.always.kind
