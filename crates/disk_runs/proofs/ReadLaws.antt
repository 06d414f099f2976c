-- Lines that read leave the array.
use Rattle.std.proofs.Common.{◌≡◌, ℕ, ◌+◌, ◌∙◌, ◌||◌, Bool, true, false, List, [], ◌∷◌, length, Option, Some, None, Ok, Err, ap}
use Rattle.std.specs.Prelude.{MatchOption, Result, if◌then◌else◌, option_and_then}
use Rattle.disk_files.specs.TraceLine.{is_skipped, trace_line}
use Rattle.disk_files.specs.declared.trace_line.TraceLine.{TraceLine}
use Rattle.disk_files.specs.declared.trace_line.TraceLine.TheVariants.{Read, Fill, Write, Trim, Idle, Grow, Remount}
use Rattle.zone_translator.specs.Flat.{Answer, Begun, FlatCall, FlatDisk, known_answer, read, with_nothing}
use Rattle.zone_translator.specs.View.{DiskView, disk_array, flat_of}
use Rattle.zone_translator.specs.declared.fault.DiskFault.{DiskFault}
use Rattle.drive_survey.specs.declared.fault.MountFault.{MountFault}
use Rattle.disk_runs.specs.FlatLines.{AnswersRequest, RefusesRequest, Request, asked, request_of, single}
use Rattle.disk_runs.specs.Run.{AnswersAll, Exchange, Known, Runs, StopsAt}
use Rattle.disk_runs.specs.Taken.{is_read, reads, says_read, takes}
use Rattle.disk_runs.specs.declared.fault.RunFault.{RunFault}
use Rattle.disk_runs.specs.declared.fault.RunFault.TheVariants as runs
use Rattle.disk_runs.specs.declared.fault.RunFault.TheVariants.{Line, Long, Disk, Mount, Input, Output, Memory}
use Rattle.disk_runs.specs.declared.taking.Taking.TheVariants.{Reads}

-- ---- a read

-- a read that was begun leaves the array, done or refused
begun_same : (old new : FlatDisk) (first n : ℕ) (result : Result (Unit {0}) DiskFault) (shown : List (List ℕ)) → Begun old (read first n) result shown new → new.array ≡ old.array
begun_same old new first n (Ok done) shown p = ap (λ (d : FlatDisk). d.array) p.1
begun_same old new first n (Err fault) shown p = p.2

-- and so does one that was answered before
read_same : (old new : FlatDisk) (first n : ℕ) (answer : Answer) → FlatCall old (read first n) answer new → new.array ≡ old.array
read_same old new first n answer called = by (known_answer old (read first n)) called
  where
    by : (known : Option (Result (Unit {0}) DiskFault))
        → MatchOption known (Begun old (read first n) answer.result answer.shown new) (λ result. (answer ≡ with_nothing result) × (new ≡ old)) → new.array ≡ old.array
    by None p = begun_same old new first n answer.result answer.shown p
    by (Some result) p = ap (λ (d : FlatDisk). d.array) p.1

-- ---- a line

-- what holds of a line that asks for nothing, and of each that asks for a read, holds of each line that is taken
of_taken : (P : Option Request → Type 0) (size : ℕ) (line : List ℕ) → takes Reads size line ≡ true → P None → ((first n : ℕ) → P (Some (single (read first n)))) → P (request_of size line)
of_taken P size line taken none some = by (is_skipped line) (trace_line line) taken
  where
    asks : (call : TraceLine) (bytes : List ℕ) → is_read call ≡ true → P (asked size call bytes)
    asks (Read first n) bytes e = some first n
    asks (Fill first n byte) bytes e = absurd (cc e)
    asks (Write first) bytes e = absurd (cc e)
    asks (Trim first n) bytes e = absurd (cc e)
    asks (Idle n) bytes e = absurd (cc e)
    asks (Grow n) bytes e = absurd (cc e)
    asks Remount bytes e = absurd (cc e)

    by : (skipped : Bool) (said : Option (TraceLine × List ℕ)) → (skipped || says_read said) ≡ true
        → P (if skipped then None else option_and_then (λ (s : TraceLine × List ℕ). asked size s.0 s.1) said)
    by true said e = none
    by false None e = absurd (cc e)
    by false (Some said) e = asks said.0 said.1 e

-- a line that was answered
pub answered_same : (old new : FlatDisk) (line reply : List ℕ) → takes Reads old.block line ≡ true → AnswersRequest old (request_of old.block line) reply new → new.array ≡ old.array
answered_same old new line reply taken =
    of_taken (λ wanted. AnswersRequest old wanted reply new → new.array ≡ old.array) old.block line taken
    (λ p. ap (λ (d : FlatDisk). d.array) p.1) (λ first n p. read_same old new first n p.answer p.flat)

-- and one that was refused
refused_same : (old new : FlatDisk) (line : List ℕ) (fault : DiskFault) → takes Reads old.block line ≡ true → RefusesRequest old (request_of old.block line) (Disk fault) new → new.array ≡ old.array
refused_same old new line fault taken =
    of_taken (λ wanted. RefusesRequest old wanted (Disk fault) new → new.array ≡ old.array) old.block line taken
    (λ p. absurd p) (λ first n p. read_same old new first n (with_nothing (Err fault)) p.flat)

-- no line that reads is refused by a mount
mount_same : (old new : FlatDisk) (line : List ℕ) (fault : MountFault) → takes Reads old.block line ≡ true → RefusesRequest old (request_of old.block line) (Mount fault) new → new.array ≡ old.array
mount_same old new line fault taken =
    of_taken (λ wanted. RefusesRequest old wanted (Mount fault) new → new.array ≡ old.array) old.block line taken
    (λ p. absurd p) (λ first n p. absurd p)

-- ---- a run

all_same : (lines : List (List ℕ)) (text : List ℕ) (old new : DiskView) → AnswersAll reads old lines text new → disk_array new ≡ disk_array old
all_same [] text old new p = ap disk_array p.1
all_same (line ∷ lines) text old new p =
    all_same lines p.after p.middle new p.rest ∙ answered_same (flat_of old) (flat_of p.middle) line p.reply p.is_line.legal p.answers.flat

stop_same : (fault : RunFault) (left : Known) (number : ℕ) (old : DiskView) (shown : List ℕ) (new : DiskView) → StopsAt reads fault left number old shown new → disk_array new ≡ disk_array old
stop_same (Line m) left number old shown new p = ap disk_array p.3
stop_same (Long m) left number old shown new p = ap disk_array p.3
stop_same Input left number old shown new p = ap disk_array p.1
stop_same Output left number old shown new p = answered_same (flat_of old) (flat_of new) p.line p.does.reply p.is_line.legal p.does.answers.flat
stop_same Memory left number old shown new p = ap (λ (d : FlatDisk). d.array) p.1.flat
stop_same (Disk f) left number old shown new p = refused_same (flat_of old) (flat_of new) p.1.line f p.1.is_line.legal p.1.does.flat
stop_same (Mount f) left number old shown new p = mount_same (flat_of old) (flat_of new) p.1.line f p.1.is_line.legal p.1.does.flat
stop_same (runs.Geometry f) left number old shown new p = absurd p.1.does.cause

-- however it ends
pub keeps_array : (bytes : Exchange) (old new : DiskView) (ended : Result (Unit {0}) RunFault) → Runs reads bytes old ended new → disk_array new ≡ disk_array old
keeps_array bytes old new (Ok done) r = all_same r.lines r.text old new r.answered
keeps_array bytes old new (Err fault) r =
    stop_same fault r.left (length r.lines + 1) r.middle r.shown new r.stops ∙ all_same r.lines r.text old r.middle r.answered
