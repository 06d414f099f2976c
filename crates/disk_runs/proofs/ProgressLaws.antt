-- Whatever lines are answered, a run makes progress.
use Rattle.std.proofs.Common.{◌≡◌, ◌⊎◌, ℕ, zero, suc, ◌+◌, ◌*◌, ◌<◌, ◌≤◌, Bool, true, false, List, [], ◌∷◌, Option, Some, None, is_some, Ok, Err, inl, inr, refl, ap, ◌∙◌, arith, subst}
use Rattle.std.specs.Prelude.{Result}
use Rattle.zone_states.specs.declared.geometry.Geometry.{Geometry}
use Rattle.disk_files.specs.declared.trace_line.TraceLine.{TraceLine}
use Rattle.disk_files.specs.declared.trace_line.TraceLine.TheVariants.{Read, Fill, Write, Trim, Idle, Grow, Remount}
use Rattle.zone_cleaner.specs.Clean.{CleanView}
use Rattle.zone_translator.specs.View.{CompletesAtMost, CostsMost, DiskView, disk_turns}
use Rattle.zone_translator.specs.declared.fault.DiskFault.{DiskFault}
use Rattle.zone_choice.proofs.AgreementLaws.{StaysFailed}
use Rattle.zone_translator.proofs.CostLaws.{costs-join, costs-plain, costs-within}
use Rattle.disk_runs.specs.Costs.{NoneMounts, all_commands, line_commands, most_commands, mounts, with_flush}
use Rattle.disk_runs.specs.Laws.{CleansEnd, CommandsAreFew, LastIsFew, Pauses, PausesAmong, PausesAt, PausesWith, TurnsAreFew, all_turns, turns_asked}
use Rattle.disk_runs.specs.Run.{AnswersAll}
use Rattle.disk_runs.specs.Taken.{AnswersWith, RefusesWith, disk_lines, is_flushed}
use Rattle.disk_runs.specs.Trace.{Does, DoesSaid, StopsSaid, TakesFewer, TakesOne, TakesTurns, TurnsBy, said_by}
use Rattle.disk_runs.specs.declared.fault.RunFault.TheVariants as runs
use Rattle.disk_runs.specs.declared.fault.RunFault.TheVariants.{Disk, Mount, Output, Memory}
use Rattle.disk_runs.specs.declared.taking.Taking.{Taking}
use Rattle.disk_runs.proofs.TraceLaws.{no_geometry}

-- ---- commands

turns_cost : (n : ℕ) (old new : DiskView) → TakesTurns n old new → CompletesAtMost old (2 * n) new
turns_cost zero old new same = rw same (omega arith)
turns_cost (suc n) old new taken = omega (arith, taken.1.completed, turns_cost n taken.0 new taken.2)

turns_fail : (n : ℕ) (old new : DiskView) → TakesTurns n old new → StaysFailed old.drive new.drive
turns_fail zero old new same = rw same (λ up. up)
turns_fail (suc n) old new taken = λ up. taken.1.served.unfailing (turns_fail n taken.0 new taken.2 up)

turns_keep : (n : ℕ) (old new : DiskView) → TakesTurns n old new → new.drive.geometry ≡ old.drive.geometry
turns_keep zero old new same = ap (λ (d : DiskView). d.drive.geometry) same
turns_keep (suc n) old new taken = turns_keep n taken.0 new taken.2 ∙ taken.1.served.geometry

-- of which one is refused
fewer_cost : (n : ℕ) (fault : DiskFault) (old new : DiskView) → TakesFewer n fault old new → CompletesAtMost old (2 * n) new
fewer_cost n fault old new taken = omega (arith, taken.few, taken.completed, turns_cost taken.done old taken.middle taken.before)

by_cost : (result : Result (Unit {0}) DiskFault) (n : ℕ) (old new : DiskView) → TurnsBy result n old new → CompletesAtMost old (2 * n) new
by_cost (Ok done) n old new taken = turns_cost n old new taken
by_cost (Err fault) n old new taken = fewer_cost n fault old new taken

-- what a line does, done or refused, that does not mount the drive again
does_few : (line : TraceLine) (bytes : List ℕ) (result : Result (Unit {0}) DiskFault) (old new : DiskView) → mounts (Some (line, bytes)) ≡ false → Does line bytes result old new
    → CostsMost old (λ each. most_commands each old.drive.geometry (Some (line, bytes))) new
does_few (Read first n) bytes result old new none does = costs-plain old new n does.1.completed
does_few (Fill first n byte) bytes result old new none does = does.costs.completed
does_few (Write first) bytes result old new none does = does.costs.completed
does_few (Trim first n) bytes result old new none does = does.costs.completed
does_few (Idle n) bytes result old new none does = costs-plain old new (2 * n) (by_cost result n old new does.1)
does_few (Grow size) bytes result old new none does = costs-within old new (λ each. 1 * each) (λ each. each) (λ each. omega arith) does.completed
does_few Remount bytes result old new none does = absurd (cc)

-- a drive that failed has failed from then on
does_fail : (line : TraceLine) (bytes : List ℕ) (old new : DiskView) → mounts (Some (line, bytes)) ≡ false → Does line bytes (Ok tt) old new → StaysFailed old.drive new.drive
does_fail (Read first n) bytes old new none does = does.0.unfailing
does_fail (Fill first n byte) bytes old new none does = does.served.unfailing
does_fail (Write first) bytes old new none does = does.served.unfailing
does_fail (Trim first n) bytes old new none does = does.served.unfailing
does_fail (Idle n) bytes old new none does = turns_fail n old new does.1
does_fail (Grow size) bytes old new none does = does.served.unfailing
does_fail Remount bytes old new none does = absurd (cc)

does_keep : (line : TraceLine) (bytes : List ℕ) (old new : DiskView) → Does line bytes (Ok tt) old new → new.drive.geometry ≡ old.drive.geometry
does_keep (Read first n) bytes old new does = does.0.geometry
does_keep (Fill first n byte) bytes old new does = does.served.geometry
does_keep (Write first) bytes old new does = does.served.geometry
does_keep (Trim first n) bytes old new does = does.served.geometry
does_keep (Idle n) bytes old new does = does.0.geometry
does_keep (Grow size) bytes old new does = does.served.geometry
does_keep Remount bytes old new does = does.kept.geometry

said_few : (said : Option (TraceLine × List ℕ)) (old new : DiskView) → mounts said ≡ false → DoesSaid said old new → CostsMost old (λ each. most_commands each old.drive.geometry said) new
said_few None old new none does = rw does (costs-plain old old 0 (omega arith))
said_few (Some (line, bytes)) old new none does = does_few line bytes (Ok tt) old new none does

said_fail : (said : Option (TraceLine × List ℕ)) (old new : DiskView) → mounts said ≡ false → DoesSaid said old new → StaysFailed old.drive new.drive
said_fail None old new none does = rw does (λ up. up)
said_fail (Some (line, bytes)) old new none does = does_fail line bytes old new none does

said_keep : (said : Option (TraceLine × List ℕ)) (old new : DiskView) → DoesSaid said old new → new.drive.geometry ≡ old.drive.geometry
said_keep None old new does = ap (λ (d : DiskView). d.drive.geometry) does
said_keep (Some (line, bytes)) old new does = does_keep line bytes old new does

-- a line that is answered, and its flush
answer_few : (flushed : Bool) (old new : DiskView) (line reply : List ℕ) → mounts (said_by line) ≡ false → AnswersWith flushed old line reply new
    → CostsMost old (λ each. with_flush flushed (most_commands each old.drive.geometry (said_by line))) new
answer_few false old new line reply none a = said_few (said_by line) old new none a.does
answer_few true old new line reply none a =
    let geometry = said_keep (said_by line) old a.middle a.answers.does in
    costs-join old a.middle new (λ each. most_commands each old.drive.geometry (said_by line)) (λ each. 1) geometry a.flushed.answers.kept.unfailing (said_few (said_by line) old a.middle none a.answers.does) (costs-plain a.middle new 1 a.flushed.completed)

answer_fail : (flushed : Bool) (old new : DiskView) (line reply : List ℕ) → mounts (said_by line) ≡ false → AnswersWith flushed old line reply new → StaysFailed old.drive new.drive
answer_fail false old new line reply none a = said_fail (said_by line) old new none a.does
answer_fail true old new line reply none a = λ up. said_fail (said_by line) old a.middle none a.answers.does (a.flushed.answers.kept.unfailing up)

answer_keep : (flushed : Bool) (old new : DiskView) (line reply : List ℕ) → AnswersWith flushed old line reply new → new.drive.geometry ≡ old.drive.geometry
answer_keep false old new line reply a = said_keep (said_by line) old new a.does
answer_keep true old new line reply a = a.flushed.answers.kept.geometry ∙ said_keep (said_by line) old a.middle a.answers.does

all_fail : (taking : Taking) (old new : DiskView) (lines : List (List ℕ)) (text : List ℕ) → AnswersAll (disk_lines taking) old lines text new → NoneMounts lines → StaysFailed old.drive new.drive
all_fail taking old new [] text all none = rw all.1 (λ up. up)
all_fail taking old new (line ∷ lines) text all none =
    λ up. answer_fail (is_flushed taking line) old all.middle line all.reply none.0 all.answers (all_fail taking all.middle new lines all.after all.rest none.1 up)

pub commands_are_few : CommandsAreFew disk_lines
commands_are_few taking old new [] text all none = rw all.1 (costs-plain old old 0 (omega arith))
commands_are_few taking old new (line ∷ lines) text all none =
    let first = answer_few (is_flushed taking line) old all.middle line all.reply none.0 all.answers in
    let same : all.middle.drive.geometry ≡ old.drive.geometry = answer_keep (is_flushed taking line) old all.middle line all.reply all.answers in
    let rest = commands_are_few taking all.middle new lines all.after all.rest none.1 in
    let after = subst (λ (g : Geometry). CostsMost all.middle (λ each. all_commands taking each g lines) new) same rest in
    costs-join old all.middle new (λ each. line_commands taking each old.drive.geometry line) (λ each. all_commands taking each old.drive.geometry lines) same (all_fail taking all.middle new lines all.after all.rest none.1) first after

-- ---- the line that ends a run

refused_few : (said : Option (TraceLine × List ℕ)) (fault : DiskFault) (old new : DiskView) → mounts said ≡ false → StopsSaid said (Disk fault) old new → CostsMost old (λ each. most_commands each old.drive.geometry said) new
refused_few None fault old new none stops = absurd stops
refused_few (Some (line, bytes)) fault old new none stops = does_few line bytes (Err fault) old new none stops

-- or whose flush is
refusal_few : (flushed : Bool) (fault : DiskFault) (old new : DiskView) (line : List ℕ) → mounts (said_by line) ≡ false → RefusesWith flushed old line (Disk fault) new
    → CostsMost old (λ each. with_flush flushed (most_commands each old.drive.geometry (said_by line))) new
refusal_few false fault old new line none r = refused_few (said_by line) fault old new none r.does
refusal_few true fault old new line none (inl r) =
    let most = λ (each : ℕ). most_commands each old.drive.geometry (said_by line) in
    costs-within old new most (λ each. most each + 1) (λ each. omega arith) (refused_few (said_by line) fault old new none r.does)
refusal_few true fault old new line none (inr u) =
    let geometry = said_keep (said_by line) old u.1.middle u.1.answers.does in
    costs-join old u.1.middle new (λ each. most_commands each old.drive.geometry (said_by line)) (λ each. 1) geometry u.1.flushed.answers.kept.unfailing (said_few (said_by line) old u.1.middle none u.1.answers.does) (costs-plain u.1.middle new 1 u.1.flushed.completed)

pub last_is_few : LastIsFew disk_lines
last_is_few taking Output left number old shown new s = λ none. answer_few (is_flushed taking s.line) old new s.line s.does.reply none s.does.answers
last_is_few taking (Disk fault) left number old shown new s = λ none. refusal_few (is_flushed taking s.1.line) fault old new s.1.line none s.1.does
last_is_few taking (Mount fault) left number old shown new s = tt
last_is_few taking Memory left number old shown new s = s.1.reads.completed
last_is_few taking (runs.Line m) left number old shown new s = rw s.3 (omega arith)
last_is_few taking (runs.Long m) left number old shown new s = rw s.3 (omega arith)
last_is_few taking runs.Input left number old shown new s = rw s.1 (omega arith)
last_is_few taking (runs.Geometry fault) left number old shown new s = absurd (no_geometry (is_flushed taking s.1.line) fault old new s.1.line s.1.does)

-- ---- turns

-- as many are left as none, if no clean runs
no_turns : (disk : DiskView) → disk.clean ≡ None → disk_turns disk ≡ 0
no_turns disk none = rw none refl

-- a turn leaves fewer, or fewer than a zone has blocks
one_few : (old new : DiskView) → TakesOne old new → disk_turns old < old.drive.geometry.capacity → disk_turns new < new.drive.geometry.capacity
one_few old new one few = by (is_some old.clean) refl
  where
    by : (runs : Bool) → is_some old.clean ≡ runs → disk_turns new < new.drive.geometry.capacity
    by true e = let fewer = one.turns.fewer e in rw one.served.geometry (omega (arith, fewer, few))
    by false e = let bound = one.turns.bound e in rw one.served.geometry (omega (arith, bound))

turns_few : (n : ℕ) (old new : DiskView) → TakesTurns n old new → disk_turns old < old.drive.geometry.capacity → disk_turns new < new.drive.geometry.capacity
turns_few zero old new same few = rw same few
turns_few (suc n) old new taken few = turns_few n taken.0 new taken.2 (one_few old taken.0 taken.1 few)

-- no more turns are left after a line that takes none
host_few : (old new : DiskView) → new.drive.geometry ≡ old.drive.geometry → disk_turns new ≤ disk_turns old → disk_turns old < old.drive.geometry.capacity → disk_turns new < new.drive.geometry.capacity
host_few old new same fewer few =
    let capacity : new.drive.geometry.capacity ≡ old.drive.geometry.capacity = ap (λ (g : Geometry). g.capacity) same in
    omega (arith, fewer, few, capacity)

does_turns : (line : TraceLine) (bytes : List ℕ) (old new : DiskView) → Does line bytes (Ok tt) old new → disk_turns old < old.drive.geometry.capacity → disk_turns new < new.drive.geometry.capacity
does_turns (Read first n) bytes old new does few = host_few old new does.0.geometry (omega (arith, does.1.turns)) few
does_turns (Fill first n byte) bytes old new does few = host_few old new does.served.geometry does.costs.turns few
does_turns (Write first) bytes old new does few = host_few old new does.served.geometry does.costs.turns few
does_turns (Trim first n) bytes old new does few = host_few old new does.served.geometry does.costs.turns few
does_turns (Idle n) bytes old new does few = turns_few n old new does.1 few
does_turns (Grow size) bytes old new does few = host_few old new does.served.geometry does.turns few
does_turns Remount bytes old new does few = host_few old new does.kept.geometry (omega (arith, no_turns new does.disk.clean)) few

said_turns : (said : Option (TraceLine × List ℕ)) (old new : DiskView) → DoesSaid said old new → disk_turns old < old.drive.geometry.capacity → disk_turns new < new.drive.geometry.capacity
said_turns None old new does few = rw does few
said_turns (Some (line, bytes)) old new does few = does_turns line bytes old new does few

answer_turns : (flushed : Bool) (old new : DiskView) (line reply : List ℕ) → AnswersWith flushed old line reply new → disk_turns old < old.drive.geometry.capacity → disk_turns new < new.drive.geometry.capacity
answer_turns false old new line reply a few = said_turns (said_by line) old new a.does few
answer_turns true old new line reply a few =
    host_few a.middle new a.flushed.answers.kept.geometry (omega (arith, a.flushed.turns)) (said_turns (said_by line) old a.middle a.answers.does few)

all_few : (taking : Taking) (old new : DiskView) (lines : List (List ℕ)) (text : List ℕ) → AnswersAll (disk_lines taking) old lines text new → disk_turns old < old.drive.geometry.capacity → disk_turns new < new.drive.geometry.capacity
all_few taking old new [] text all few = rw all.1 few
all_few taking old new (line ∷ lines) text all few = all_few taking all.middle new lines all.after all.rest (answer_turns (is_flushed taking line) old all.middle line all.reply all.answers few)

pub turns_are_few : TurnsAreFew
turns_are_few taking drive n first new lines text mounted kept all =
    let none = no_turns first mounted.clean in
    let capacity : first.drive.geometry.capacity ≡ drive.geometry.capacity = ap (λ (g : Geometry). g.capacity) kept.geometry in
    all_few taking first new lines text all (omega (arith, none, capacity, mounted.can.geometry.capacity.0))

-- ---- how a clean ends

no_clean : (clean : Option CleanView) → is_some clean ≡ false → clean ≡ None
no_clean None none = refl
no_clean (Some clean) none = absurd (cc none)

-- before a turn no clean runs, or each turn leaves fewer
pauses : (n : ℕ) (old new : DiskView) (taken : TakesTurns n old new) → PausesAmong n old new taken ⊎ (disk_turns new + n ≤ disk_turns old)
pauses zero old new same = inr (rw same (omega arith))
pauses (suc n) old new taken = by (is_some old.clean) refl (pauses n taken.0 new taken.2)
  where
    later : PausesAmong n taken.0 new taken.2 ⊎ (disk_turns new + n ≤ disk_turns taken.0) → disk_turns taken.0 < disk_turns old → PausesAmong (suc n) old new taken ⊎ (disk_turns new + suc n ≤ disk_turns old)
    later (inl p) fewer = inl (inr p)
    later (inr le) fewer = inr (omega (arith, le, fewer))

    by : (runs : Bool) → is_some old.clean ≡ runs → PausesAmong n taken.0 new taken.2 ⊎ (disk_turns new + n ≤ disk_turns taken.0) → PausesAmong (suc n) old new taken ⊎ (disk_turns new + suc n ≤ disk_turns old)
    by false e rest = inl (inl (no_clean old.clean e))
    by true e rest = later rest (rw taken.1.served.geometry (taken.1.turns.fewer e))

-- the same of what a line does
said_pause : (said : Option (TraceLine × List ℕ)) (old new : DiskView) (does : DoesSaid said old new) → PausesAt said old new does ⊎ (disk_turns new + turns_asked said ≤ disk_turns old)
said_pause None old new does = inr (rw does (omega arith))
said_pause (Some (Read first n, bytes)) old new does = inr (omega (arith, does.1.turns))
said_pause (Some (Fill first n byte, bytes)) old new does = inr (omega (arith, does.costs.turns))
said_pause (Some (Write first, bytes)) old new does = inr (omega (arith, does.costs.turns))
said_pause (Some (Trim first n, bytes)) old new does = inr (omega (arith, does.costs.turns))
said_pause (Some (Idle n, bytes)) old new does = pauses n old new does.1
said_pause (Some (Grow size, bytes)) old new does = inr (omega (arith, does.turns))
said_pause (Some (Remount, bytes)) old new does = inr (omega (arith, no_turns new does.disk.clean))

-- and of a line that is answered
answer_pause : (flushed : Bool) (old : DiskView) (line reply : List ℕ) (new : DiskView) (a : AnswersWith flushed old line reply new)
    → PausesWith flushed old line reply new a ⊎ (disk_turns new + turns_asked (said_by line) ≤ disk_turns old)
answer_pause false old line reply new a = said_pause (said_by line) old new a.does
answer_pause true old line reply new a = by (said_pause (said_by line) old a.middle a.answers.does)
  where
    by : PausesAt (said_by line) old a.middle a.answers.does ⊎ (disk_turns a.middle + turns_asked (said_by line) ≤ disk_turns old)
        → PausesAt (said_by line) old a.middle a.answers.does ⊎ (disk_turns new + turns_asked (said_by line) ≤ disk_turns old)
    by (inl p) = inl p
    by (inr le) = inr (omega (arith, le, a.flushed.turns))

-- of a disk that has none left no clean runs
none_runs : (disk : DiskView) → disk_turns disk ≤ 0 → disk.clean ≡ None
none_runs disk few = by disk.clean refl
  where
    by : (clean : Option CleanView) → disk.clean ≡ clean → disk.clean ≡ None
    by None e = e
    by (Some clean) e = let bad = rw e at few in absurd (omega (arith, bad))

pub cleans_end : CleansEnd
cleans_end taking old new [] text all few = none_runs old few
cleans_end taking old new (line ∷ lines) text all few =
    by (answer_pause (is_flushed taking line) old line all.reply all.middle all.answers) (cleans_end taking all.middle new lines all.after all.rest)
  where
    by : PausesWith (is_flushed taking line) old line all.reply all.middle all.answers ⊎ (disk_turns all.middle + turns_asked (said_by line) ≤ disk_turns old)
        → (disk_turns all.middle ≤ all_turns lines → Pauses taking all.middle lines all.after new all.rest) → Pauses taking old (line ∷ lines) text new all
    by (inl p) rest = inl p
    by (inr le) rest = inr (rest (omega (arith, le, few)))
