-- What lines ask for, and how it is answered.
use Rattle.std.proofs.Common.{◌≡◌, ◌≢◌, ℕ, zero, suc, ◌+◌, ◌-◌, ◌<◌, ◌≤◌, Bool, true, false, List, [], Option, Some, None, is_some, Ok, Err, inl, refl, ap, subst, ◌∙◌, arith}
use Rattle.std.specs.Prelude.{IfErr, OnOk, Result}
use Rattle.disk_files.specs.declared.trace_line.TraceLine.{TraceLine}
use Rattle.disk_files.specs.declared.trace_line.TraceLine.TheVariants.{Read, Remount}
use Rattle.zone_choice.specs.Agreement.{MountedView}
use Rattle.zone_cleaner.specs.Clean.{CleanView}
use Rattle.zone_cleaner.specs.Start.{TurnLeaves, TurnsFewer}
use Rattle.zone_translator.proofs.KeepingLaws.{keeps_call, keeps_same}
use Rattle.zone_translator.specs.Answers.{Answers, CostsAtMost, KeepsClean, SaysSize, Stores}
use Rattle.zone_translator.specs.Calls.{IsTurn, is_known}
use Rattle.zone_translator.proofs.CostLaws.{costs-none}
use Rattle.zone_translator.specs.Keeping.{KeepsServed}
use Rattle.zone_translator.specs.View.{CompletesAtMost, CostsBatches, DiskView, KeepsDisk, disk_size, disk_turns, flat_of, most_batches, mounted_of}
use Rattle.zone_translator.specs.Flat.{Answer, Call, FlatCall, FlatDisk, answer_while, grow, idle, known_answer, may_refuse, with_nothing}
use Rattle.zone_translator.specs.declared.fault.DiskFault.{DiskFault}
use Rattle.zone_translator.specs.declared.fault.DiskFault.TheVariants as faults
use Rattle.zone_translator.specs.declared.status.DiskStatus.{DiskStatus}
use Rattle.zone_translator.specs.declared.status.DiskStatus.TheVariants.{Serving, Stopped, Unmounted}
use Rattle.disk_runs.specs.FlatLines.{FlatAnswer, IsOfDisk, IsUntold, RepliesTo, Request, Turns, TurnsDone, first_of, refusal_reply, reply_of}
use Rattle.disk_runs.specs.Trace.{Does, GrowsOnce, ReadsFew, StopsBy, TakesFewer, TakesOne, TakesTurns, TurnsBy, WritesOnce}
use Rattle.disk_runs.specs.declared.fault.RunFault.{RunFault}
use Rattle.disk_runs.specs.declared.fault.RunFault.TheVariants as runs
use Rattle.disk_runs.specs.declared.fault.RunFault.TheVariants.{Disk, Memory}

-- ---- turns of cleaning

idle_done : (disk : FlatDisk) → disk.status ≡ Serving → FlatCall disk idle (with_nothing (Ok tt)) disk
idle_done disk e = rw e (refl, refl)

-- a disk that serves does any number of them, and stays unchanged
pub turns_done : (n : ℕ) (disk : FlatDisk) → (0 < n → disk.status ≡ Serving) → TurnsDone n disk disk
turns_done zero disk serves = refl
turns_done (suc n) disk serves = (disk, idle_done disk (serves (omega arith)), turns_done n disk (λ some. serves (omega arith)))

-- one that is done leaves it unchanged
pub idle_unchanged : (old new : FlatDisk) → FlatCall old idle (with_nothing (Ok tt)) new → (new ≡ old) × (old.status ≡ Serving)
idle_unchanged old new answered = by old.status refl
  where
    by : (status : DiskStatus) → old.status ≡ status → (new ≡ old) × (old.status ≡ Serving)
    by Serving e =
        let none : known_answer old idle ≡ None = ap answer_while e in
        let begun = rw none at answered in
        (begun.1, e)
    by Stopped e =
        let known : known_answer old idle ≡ Some (Err faults.Stopped) = ap answer_while e in
        let so = rw known at answered in
        let bad : Ok tt ≡ Err faults.Stopped = ap (λ (a : Answer). a.result) so.0 in
        absurd (cc)
    by Unmounted e =
        let known : known_answer old idle ≡ Some (Err faults.Unmounted) = ap answer_while e in
        let so = rw known at answered in
        let bad : Ok tt ≡ Err faults.Unmounted = ap (λ (a : Answer). a.result) so.0 in
        absurd (cc)

-- or some of them, and is refused the next
pub turns_stop : (n done : ℕ) (old middle new : FlatDisk) (fault : DiskFault) (result : Result (Unit {0}) DiskFault) → result ≡ Err fault → done < n → middle ≡ old → (0 < done → old.status ≡ Serving) → FlatCall middle idle (with_nothing (Err fault)) new → Turns n old result new
turns_stop n done old middle new fault result is lt same serves refused = rw is (record { done = done; few = lt; middle = old; before = turns_done done old serves; refused = rw same at refused })

-- a turn of a disk that serves is done
pub takes_one : (old new : DiskView) → KeepsDisk old new → IsTurn old (Ok tt) new → TurnsFewer (mounted_of old) (mounted_of new) old.clean new.clean → CompletesAtMost old 2 new → TakesOne old new
takes_one old new kept turn turns completed = record { served = keeps_call old new kept; turn = turn; turns = turns; completed = completed }

-- a turn that is done follows others
pub takes_more : (n : ℕ) (old middle new : DiskView) → TakesTurns n old middle → TakesOne middle new → TakesTurns (suc n) old new
takes_more zero old middle new p turn = (new, rw p at turn, refl)
takes_more (suc n) old middle new p turn = (p.0, p.1, takes_more n p.0 middle new p.2 turn)

-- and so do turns that follow it
takes_both : (m n all : ℕ) (old middle new : DiskView) → all ≡ m + n → TakesTurns m old middle → TakesTurns n middle new → TakesTurns all old new
takes_both zero n all old middle new is p rest =
    let same : n ≡ all = omega (arith, is) in
    subst (λ (k : ℕ). TakesTurns k old new) same (rw p at rest)
takes_both (suc m) n zero old middle new is p rest = absurd (omega (arith, is))
takes_both (suc m) n (suc all) old middle new is p rest = (p.0, p.1, takes_both m n all p.0 middle new (omega (arith, is)) p.2 rest)

no_clean : (clean : Option CleanView) → is_some clean ≡ false → clean ≡ None
no_clean None none = refl
no_clean (Some clean) none = absurd (cc none)

-- where no clean runs before a turn and none after it, none is due: the next turn does nothing
none_due : (before after : MountedView) → TurnLeaves before None (Ok tt) after None → TurnLeaves after None (Ok tt) after None
none_due before after turn = (refl, (rw turn.0 (rw turn.1.1 turn.1.0), refl))

-- and there are as few turns left
none_fewer : (before after : MountedView) → after.drive.geometry ≡ before.drive.geometry → TurnsFewer before after None None → TurnsFewer after after None None
none_fewer before after same turns = record { fewer = λ some. absurd (cc some); bound = λ none. rw same (turns.bound refl) }

nothing_due : (old new : DiskView) → old.clean ≡ None → new.clean ≡ None → TakesOne old new → TakesOne new new
nothing_due old new none still one =
    let turned : TurnLeaves (mounted_of old) None (Ok tt) (mounted_of new) None = rw still at (rw none at one.turn) in
    let fewer : TurnsFewer (mounted_of old) (mounted_of new) None None = rw still at (rw none at one.turns) in
    record {
      served = keeps_same new;
      turn = rw still (none_due (mounted_of old) (mounted_of new) turned);
      turns = rw still (none_fewer (mounted_of old) (mounted_of new) one.served.geometry fewer);
      completed = omega arith;
    }

-- so do any number of them
rests : (n : ℕ) (disk : DiskView) → TakesOne disk disk → TakesTurns n disk disk
rests zero disk turn = refl
rests (suc n) disk turn = (disk, turn, rests n disk turn)

-- turns that end where none is due are as many as were asked for
pub takes_rest : (n done : ℕ) (old middle new : DiskView) → done < n → TakesTurns done old middle → TakesOne middle new
    → is_some middle.clean ≡ false → is_some new.clean ≡ false → TakesTurns n old new
takes_rest n done old middle new few so_far turn ran runs =
    let after = suc done in
    let rest = n - after in
    let all : n ≡ after + rest = omega (arith, few) in
    takes_both after rest n old new new all (takes_more done old middle new so_far turn)
    (rests rest new (nothing_due middle new (no_clean middle.clean ran) (no_clean new.clean runs) turn))

-- a turn is refused without a reply
idle_untold : (old new : FlatDisk) (fault : DiskFault) → FlatCall old idle (with_nothing (Err fault)) new → refusal_reply fault ≡ None
idle_untold old new fault answered = by old.status refl
  where
    may : (fault : DiskFault) → may_refuse idle fault ≡ true → refusal_reply fault ≡ None
    may faults.OutOfRange m = absurd (cc)
    may faults.OutOfMemory m = refl
    may faults.Failed m = refl
    may faults.Stopped m = refl
    may faults.Spent m = refl
    may faults.Unmounted m = refl
    may faults.Smaller m = absurd (cc)
    may faults.Reserve m = absurd (cc)
    may faults.Damaged m = absurd (cc)

    by : (status : DiskStatus) → old.status ≡ status → refusal_reply fault ≡ None
    by Serving e =
        let none : known_answer old idle ≡ None = ap answer_while e in
        let begun = rw none at answered in
        may fault begun.0
    by Stopped e =
        let known : known_answer old idle ≡ Some (Err faults.Stopped) = ap answer_while e in
        let so = rw known at answered in
        let same : Err fault ≡ Err faults.Stopped = ap (λ (a : Answer). a.result) so.0 in
        let is : fault ≡ faults.Stopped = cc in
        ap refusal_reply is
    by Unmounted e =
        let known : known_answer old idle ≡ Some (Err faults.Unmounted) = ap answer_while e in
        let so = rw known at answered in
        let same : Err fault ≡ Err faults.Unmounted = ap (λ (a : Answer). a.result) so.0 in
        let is : fault ≡ faults.Unmounted = cc in
        ap refusal_reply is

pub turns_fewer : (n : ℕ) (old new : DiskView) (fault : DiskFault) (result : Result (Unit {0}) DiskFault) → result ≡ Err fault → TakesFewer n fault old new → TurnsBy result n old new
turns_fewer n old new fault result is fewer = rw is fewer

-- those that have a reply were all done
pub turns_told : (n : ℕ) (old new : DiskView) (done : Result (Unit {0}) DiskFault) (result : Result (Unit {0}) RunFault) (reply : List ℕ) → Turns n (flat_of old) done (flat_of new) → OnOk result (reply_of 0 [] done ≡ Some reply)
    → TurnsBy done n old new → OnOk result (TakesTurns n old new)
turns_told n old new done (Err f) reply turns told taken = tt
turns_told n old new (Ok u) (Ok v) reply turns told taken = taken
turns_told n old new (Err fault) (Ok v) reply turns told taken = let none = idle_untold turns.middle (flat_of new) fault turns.refused in absurd (cc)

-- ---- what is told

-- what follows after success
pub on-ok : {T : Type 0} {P Q : Type 0} (r : Result T RunFault) → (P → Q) → OnOk r P → OnOk r Q
on-ok (Ok x) f h = f h
on-ok (Err fault) f h = tt

pub nothing-shown : (first : ℕ) (done : Result (Unit {0}) DiskFault) → reply_of first [] done ≡ reply_of 0 [] done
nothing-shown first (Ok done) = refl
nothing-shown first (Err fault) = refl

-- the reply to a request that shows nothing
pub told : (old new : FlatDisk) (request : Request) (done : Result (Unit {0}) DiskFault) (reply : List ℕ) → FlatAnswer old request (with_nothing done) new → reply_of 0 [] done ≡ Some reply → RepliesTo old request reply new
told old new request done reply answered is = record { answer = with_nothing done; flat = answered; reply_is = nothing-shown (first_of request) done ∙ is }

-- a refusal without a reply is a fault of the disk
pub of_disk : (done : Result (Unit {0}) DiskFault) (result : Result (Unit {0}) RunFault) → IfErr result (IsUntold done) → IfErr result IsOfDisk
of_disk done (Ok told) untold = tt
of_disk (Ok done) (Err fault) untold = absurd untold
of_disk (Err refused) (Err (Disk fault)) untold = tt
of_disk (Err refused) (Err (runs.Mount fault)) untold = absurd untold
of_disk (Err refused) (Err (runs.Geometry fault)) untold = absurd untold
of_disk (Err refused) (Err (runs.Line n)) untold = absurd untold
of_disk (Err refused) (Err (runs.Long n)) untold = absurd untold
of_disk (Err refused) (Err runs.Input) untold = absurd untold
of_disk (Err refused) (Err runs.Output) untold = absurd untold
of_disk (Err refused) (Err Memory) untold = absurd untold

-- a fault that is another is not that of a reply
pub never_memory : (result : Result (Unit {0}) RunFault) (P : Type 0) → IfErr result (λ fault. fault ≢ Memory) → IfErr result (λ fault. fault ≡ Memory → P)
never_memory (Ok done) P other = tt
never_memory (Err fault) P other = λ e. absurd (other e)

-- what is so in any case is so for each fault
pub whenever : (result : Result (Unit {0}) RunFault) (P : Type 0) → P → IfErr result (λ fault. fault ≡ Memory → P)
whenever (Ok done) P p = tt
whenever (Err fault) P p = λ e. p

-- a refusal of the disk is no lack of memory
pub not_memory : (done : Result (Unit {0}) DiskFault) (result : Result (Unit {0}) RunFault) (P : Type 0) → IfErr result (IsUntold done) → IfErr result (λ fault. fault ≡ Memory → P)
not_memory done (Ok told) P untold = tt
not_memory (Ok done) (Err fault) P untold = absurd untold
not_memory (Err refused) (Err (Disk fault)) P untold = λ e. absurd (cc)
not_memory (Err refused) (Err (runs.Mount fault)) P untold = absurd untold
not_memory (Err refused) (Err (runs.Geometry fault)) P untold = absurd untold
not_memory (Err refused) (Err (runs.Line n)) P untold = absurd untold
not_memory (Err refused) (Err (runs.Long n)) P untold = absurd untold
not_memory (Err refused) (Err runs.Input) P untold = absurd untold
not_memory (Err refused) (Err runs.Output) P untold = absurd untold
not_memory (Err refused) (Err Memory) P untold = absurd untold

-- ---- what a line does that is answered

-- no call is refused midway by a fault that has a reply
untold : (call : Call) (fault : DiskFault) → may_refuse call fault ≡ true → refusal_reply fault ≡ None
untold call faults.OutOfMemory may = refl
untold call faults.Failed may = refl
untold call faults.Stopped may = refl
untold call faults.Spent may = refl
untold call faults.Unmounted may = refl
untold call faults.OutOfRange may = absurd (cc)
untold call faults.Smaller may = absurd (cc)
untold call faults.Damaged may = absurd (cc)
untold call faults.Reserve may = absurd (cc)

-- so a refusal that has one was known beforehand
known_refusal : (old new : FlatDisk) (call : Call) (fault : DiskFault) (reply : List ℕ) → FlatCall old call (with_nothing (Err fault)) new → refusal_reply fault ≡ Some reply → is_known old call ≡ true
known_refusal old new call fault reply answered told = by (known_answer old call) refl
  where
    by : (known : Option (Result (Unit {0}) DiskFault)) → known_answer old call ≡ known → is_known old call ≡ true
    by (Some result) e = rw e refl
    by None e =
        let begun = rw e at answered in
        let none = untold call fault begun.0 in
        absurd (cc)

-- what a disk keeps of which nothing changed
clean_same : (disk : DiskView) → KeepsClean disk disk
clean_same disk = by disk.clean refl
  where
    by : (clean : Option CleanView) → disk.clean ≡ clean → KeepsClean disk disk
    by None e = rw e (λ up. tt)
    by (Some clean) e = rw e (λ up. inl (record { same = clean; runs = refl; victim = refl; turns = omega arith }))

costs_nothing : (count : ℕ) (disk : DiskView) → CostsAtMost disk count (Ok tt) disk
costs_nothing count disk = record { turns = omega arith; clean = λ serves. clean_same disk; completed = costs-none disk count }

-- a write, done or refused
pub write_done : (call : Call) (trim : Bool) (first n : ℕ) (old new : DiskView) (done : Result (Unit {0}) DiskFault)
    → Answers old call done new → Stores trim old first n done new → CostsAtMost old (most_batches trim old n) done new → WritesOnce call trim first n done old new
write_done call trim first n old new done answers stores costs =
    record { served = keeps_call old new answers.kept; untouched = answers.untouched; stores = λ unknown. stores; costs = costs }

-- one that has a reply was done, or changed nothing
pub writes_once : (call : Call) (trim : Bool) (first n : ℕ) (old new : DiskView) (done : Result (Unit {0}) DiskFault) (result : Result (Unit {0}) RunFault) (reply : List ℕ)
    → Answers old call done new → Stores trim old first n done new → CostsAtMost old (most_batches trim old n) done new
    → OnOk result (reply_of 0 [] done ≡ Some reply) → OnOk result (WritesOnce call trim first n (Ok tt) old new)
writes_once call trim first n old new done (Err fault) reply answers stores costs told = tt
writes_once call trim first n old new (Ok u) (Ok v) reply answers stores costs told = write_done call trim first n old new (Ok u) answers stores costs
writes_once call trim first n old new (Err fault) (Ok v) reply answers stores costs told =
    let known = known_refusal (flat_of old) (flat_of new) call fault reply answers.flat told in
    let same = answers.untouched known in
    record {
      served = keeps_call old new answers.kept;
      untouched = answers.untouched;
      stores = λ unknown. absurd (cc);
      costs = rw same (costs_nothing (most_batches trim old n) old);
    }

-- a growth, done or refused
pub growth_done : (size : ℕ) (old new : DiskView) (done : Result (Unit {0}) DiskFault)
    → Answers old (grow size) done new → OnOk done (SaysSize old size new) → OnOk done (disk_turns new ≤ disk_turns old) → KeepsClean old new → CostsBatches old 1 new
    → GrowsOnce size done old new
growth_done size old new done answers says turns clean completed =
    record { served = keeps_call old new answers.kept; untouched = answers.untouched; says = λ unknown. says; turns = turns; clean = clean; completed = completed }

-- one that has a reply was done, or changed nothing
pub grows_once : (size : ℕ) (old new : DiskView) (done : Result (Unit {0}) DiskFault) (result : Result (Unit {0}) RunFault) (reply : List ℕ)
    → GrowsOnce size done old new → FlatCall (flat_of old) (grow size) (with_nothing done) (flat_of new)
    → OnOk result (reply_of 0 [] done ≡ Some reply) → OnOk result (GrowsOnce size (Ok tt) old new)
grows_once size old new done (Err fault) reply grown flat told = tt
grows_once size old new (Ok u) (Ok v) reply grown flat told = grown
grows_once size old new (Err fault) (Ok v) reply grown flat told =
    let known = known_refusal (flat_of old) (flat_of new) (grow size) fault reply flat told in
    let same = grown.untouched known in
    record {
      served = grown.served;
      untouched = grown.untouched;
      says = λ unknown. absurd (cc);
      turns = rw same (omega arith);
      clean = grown.clean;
      completed = grown.completed;
    }

-- ---- what a line does that is refused

-- a call by its refusal
pub stops_by : (line : TraceLine) (bytes : List ℕ) (old new : DiskView) (done : Result (Unit {0}) DiskFault) (result : Result (Unit {0}) RunFault)
    → IfErr result (IsUntold done) → Does line bytes done old new → IfErr result (λ fault. StopsBy fault line bytes old new)
stops_by line bytes old new done (Ok v) told does = tt
stops_by line bytes old new (Ok u) (Err fault) told does = absurd told
stops_by line bytes old new (Err refused) (Err (Disk fault)) told does = rw told.0 does
stops_by line bytes old new (Err refused) (Err (runs.Line m)) told does = absurd told
stops_by line bytes old new (Err refused) (Err (runs.Long m)) told does = absurd told
stops_by line bytes old new (Err refused) (Err (runs.Mount f)) told does = absurd told
stops_by line bytes old new (Err refused) (Err (runs.Geometry f)) told does = absurd told
stops_by line bytes old new (Err refused) (Err runs.Input) told does = absurd told
stops_by line bytes old new (Err refused) (Err runs.Output) told does = absurd told
stops_by line bytes old new (Err refused) (Err Memory) told does = absurd told

-- a read, where memory ran out for its reply, too
pub read_stops : (first n : ℕ) (bytes : List ℕ) (old new : DiskView) (result : Result (Unit {0}) RunFault) → KeepsServed old new → ReadsFew n old new → ReadsFew (disk_size old) old new → IfErr result (λ fault. StopsBy fault (Read first n) bytes old new)
read_stops first n bytes old new (Ok done) served few all = tt
read_stops first n bytes old new (Err (Disk fault)) served few all = (served, few)
read_stops first n bytes old new (Err (runs.Line m)) served few all = tt
read_stops first n bytes old new (Err (runs.Long m)) served few all = tt
read_stops first n bytes old new (Err (runs.Mount f)) served few all = tt
read_stops first n bytes old new (Err (runs.Geometry f)) served few all = tt
read_stops first n bytes old new (Err runs.Input) served few all = tt
read_stops first n bytes old new (Err runs.Output) served few all = tt
read_stops first n bytes old new (Err Memory) served few all = all

-- of a remount nothing is said
pub remount_stops : (bytes : List ℕ) (old new : DiskView) (result : Result (Unit {0}) RunFault) → IfErr result (λ fault. fault ≢ Memory) → IfErr result (λ fault. StopsBy fault Remount bytes old new)
remount_stops bytes old new (Ok done) other = tt
remount_stops bytes old new (Err (Disk fault)) other = tt
remount_stops bytes old new (Err (runs.Line m)) other = tt
remount_stops bytes old new (Err (runs.Long m)) other = tt
remount_stops bytes old new (Err (runs.Mount f)) other = tt
remount_stops bytes old new (Err (runs.Geometry f)) other = tt
remount_stops bytes old new (Err runs.Input) other = tt
remount_stops bytes old new (Err runs.Output) other = tt
remount_stops bytes old new (Err Memory) other = absurd (other refl)
