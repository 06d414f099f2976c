-- Why a repair fails.
use Rattle.std.proofs.Common.{◌≡◌, ◌⊎◌, inl, inr, ℕ, ◌<◌, ◌≤◌, ◌^◌, Bool, IsTrue, IsFalse, true, false, List, [], ◌∷◌, ◌++◌, length, get_or, Option, Some, None, Result, Ok, Err, refl, ap, subst, ◌∙◌, arith}
use Rattle.std.specs.Prelude.{nat_le, IfErr, IfOk, IsErrAnd}
use Rattle.std.specs.List.{list_any}
use Rattle.std.specs.Ordering.{nat_cmp}
use Rattle.std.specs.Result.{is_ok}
use Rattle.std.specs.BTreeSet.{insert_key}
use Rattle.std.specs.BTreeMap.{is_at}
use Rattle.std.proofs.lemmas.Bool.{cases_eq}
use Rattle.std.proofs.lemmas.List.{length-append}
use Rattle.nvme_wire.specs.declared.zone_state.ZoneState.{ZoneState}
use Rattle.nvme_wire.specs.declared.zone_state.ZoneState.TheVariants as states
use Rattle.batch_log.specs.Ending.{Ending, ended, torn, failed, ending_of}
use Rattle.batch_log.specs.Header.{Heading, IsHeaderBlock}
use Rattle.batch_log.specs.Log.{Batch, BeginsWith, BeginsWithNoBatch, log_size}
use Rattle.batch_log.specs.declared.fault.LogFault.{LogFault}
use Rattle.drive_port.specs.Contents.{content_at, content_of, contents, is_full, usage_of}
use Rattle.drive_port.specs.Drive.{DriveState, IsLawful}
use Rattle.drive_port.specs.Step.{nowhere, zone_at}
use Rattle.drive_port.specs.declared.calls.PortFault.{PortFault}
use Rattle.drive_port.specs.declared.calls.PortFault.TheVariants as port
use Rattle.drive_port.proofs.ClosingLaws.{content_at-contents, length-closing}
use Rattle.drive_survey.specs.declared.fault.MountFault.{MountFault}
use Rattle.drive_survey.specs.declared.fault.MountFault.TheVariants as mounts
use Rattle.drive_survey.specs.Reported.{IsKnown, KeepsZones}
use Rattle.drive_survey.specs.Scan.{AreKnown, FailsBy, FailsIn, IsInterruption, block_of, ending_fault, heading_fault, log_fault, readable_at}
use Rattle.drive_survey.specs.declared.reported.ReportedZone.{ReportedZone}
use Rattle.drive_survey.proofs.AllScanLaws.{there-is}
use Rattle.drive_array.specs.ZoneLogs.{readable}
use Rattle.drive_array.proofs.AllLaws.{all-at}
use Rattle.zone_states.specs.Geometry.{IsInRange}
use Rattle.zone_states.specs.Zone.{IsLawfulZone}
use Rattle.zone_states.specs.declared.geometry.Geometry.{Geometry}
use Rattle.drive_survey.proofs.ReadLaws.{kept-blocks, kept-contents}
use Rattle.tail_repair.specs.Repair.{FindFails, HasHeaderBehind, IsTold, IsUnsound, LookFails, NoOtherEmpty, NoneIsEmpty, RepairFails, call_fault, foreign_end, is_empty, look_fault, may_change, EndsAt, LogEnds}
use Rattle.tail_repair.specs.declared.fault.RepairFault.{RepairFault}
use Rattle.tail_repair.specs.declared.fault.RepairFault.TheVariants.{Limits, Unusable, Unsound, Behind, NoEmptyZone, Halted, Unfinished}
use Rattle.tail_repair.specs.declared.tails.BatchEnd.{BatchEnd}
use Rattle.tail_repair.proofs.TailLaws.{block-kept, log-before, scan-ends}

-- what is known of a fault that a `?` handed on
pub if-fault : {V : Type 0} (r : Result V RepairFault) (fault : RepairFault) (P : RepairFault → Type 0) → IsErrAnd r (λ f. f ≡ fault) → P fault → IfErr r P
if-fault (Ok value) fault P handed p = tt
if-fault (Err f) fault P handed p = rw handed p

-- ---- halts

-- a command that was not done tells of a stop, or that it failed, only if there was one, or if it did
pub call-told : (drive : DriveState) (fault : PortFault) → (fault ≡ port.Stopped → drive.stopped ≡ true) → (fault ≡ port.Failed → IsFalse drive.unfailing) → IsTold drive (call_fault fault)
call-told drive port.Stopped stops fails = stops refl
call-told drive port.Failed stops fails = fails refl
call-told drive port.Memory stops fails = tt
call-told drive (port.Refused status) stops fails = tt

-- and a look
pub look-halts : (drive : DriveState) (fault : MountFault) → IsInterruption drive fault → LookFails drive (look_fault fault)
look-halts drive fault (inl memory) = rw memory tt
look-halts drive fault (inr (inl (inl halted))) = rw halted.0 halted.1
look-halts drive fault (inr (inl (inr failing))) = rw failing.0 failing.1
look-halts drive fault (inr (inr none)) = absurd none

-- ---- from cause to cause

pub look-told : (drive : DriveState) (fault : RepairFault) → LookFails drive fault → IsTold drive fault
look-told drive (Halted halt) fails = fails
look-told drive Limits fails = tt
look-told drive (Unusable zone) fails = tt
look-told drive (Unsound zone) fails = tt
look-told drive (Behind zone block) fails = tt
look-told drive NoEmptyZone fails = tt
look-told drive Unfinished fails = tt

pub look-find : (old new : DriveState) (fault : RepairFault) → LookFails new fault → FindFails old new fault
look-find old new (Halted halt) fails = fails
look-find old new Limits fails = absurd fails
look-find old new (Unusable zone) fails = absurd fails
look-find old new (Unsound zone) fails = absurd fails
look-find old new (Behind zone block) fails = absurd fails
look-find old new NoEmptyZone fails = absurd fails
look-find old new Unfinished fails = absurd fails

pub find-told : (old new : DriveState) (fault : RepairFault) → FindFails old new fault → IsTold new fault
find-told old new (Halted halt) fails = fails
find-told old new Limits fails = tt
find-told old new (Unusable zone) fails = tt
find-told old new (Unsound zone) fails = tt
find-told old new (Behind zone block) fails = tt
find-told old new NoEmptyZone fails = tt
find-told old new Unfinished fails = tt

pub find-repair : (old new : DriveState) (fault : RepairFault) → FindFails old new fault → RepairFails old new fault
find-repair old new (Halted halt) fails = fails
find-repair old new Limits fails = fails
find-repair old new (Unusable zone) fails = fails
find-repair old new (Unsound zone) fails = fails
find-repair old new (Behind zone block) fails = fails
find-repair old new NoEmptyZone fails = absurd fails
find-repair old new Unfinished fails = tt

pub repair-told : (old new : DriveState) (fault : RepairFault) → RepairFails old new fault → IsTold new fault
repair-told old new (Halted halt) fails = fails
repair-told old new Limits fails = tt
repair-told old new (Unusable zone) fails = tt
repair-told old new (Unsound zone) fails = tt
repair-told old new (Behind zone block) fails = tt
repair-told old new NoEmptyZone fails = tt
repair-told old new Unfinished fails = tt

pub look-repair : (old new : DriveState) (fault : RepairFault) → LookFails new fault → RepairFails old new fault
look-repair old new fault fails = find-repair old new fault (look-find old new fault fails)

-- a fault that comes after the first change
pub late-repair : (old new : DriveState) (fault : RepairFault) → IsTrue (may_change fault) → IsTold new fault → RepairFails old new fault
late-repair old new (Halted halt) late told = told
late-repair old new Unfinished late told = tt
late-repair old new Limits late told = absurd (cc late)
late-repair old new (Unusable zone) late told = absurd (cc late)
late-repair old new (Unsound zone) late told = absurd (cc late)
late-repair old new (Behind zone block) late told = absurd (cc late)
late-repair old new NoEmptyZone late told = absurd (cc late)

-- ---- before looks at the drive

begins-before : (old new : DriveState) (zone : ℕ) → KeepsZones old new → IsUnsound new zone → IsUnsound old zone
begins-before old new zone kept unsound = record {
  log = unsound.log;
  begins = rw (kept.geometry, kept-contents old new kept) at unsound.begins;
  fault = unsound.fault;
  first = unsound.first;
}

behind-before : (old new : DriveState) (zone block : ℕ) → KeepsZones old new → HasHeaderBehind new zone block → HasHeaderBehind old zone block
behind-before old new zone block kept behind =
    let same = kept-blocks old new zone kept in
    let there : block_of new zone block ≡ block_of old zone block = ap (λ (blocks : List (List ℕ)). get_or blocks block []) same in
    record {
      blocks = behind.blocks;
      ends = log-before old new zone (Some behind.blocks) kept behind.ends;
      behind = behind.behind;
      in_range = omega (arith, behind.in_range, ap length same);
      heading = behind.heading;
      is = rw (there, kept.geometry) at behind.is;
    }

pub find-before : (old now new : DriveState) (fault : RepairFault) → KeepsZones old now → FindFails now new fault → FindFails old new fault
find-before old now new (Halted halt) kept fails = fails
find-before old now new Limits kept fails = rw kept.geometry at fails
find-before old now new (Unusable zone) kept fails = rw (kept-contents old now kept) at fails
find-before old now new (Unsound zone) kept fails = begins-before old now zone kept fails
find-before old now new (Behind zone block) kept fails = behind-before old now zone block kept fails
find-before old now new NoEmptyZone kept fails = fails
find-before old now new Unfinished kept fails = fails

pub repair-before : (old now new : DriveState) (fault : RepairFault) → KeepsZones old now → RepairFails now new fault → RepairFails old new fault
repair-before old now new (Halted halt) kept fails = fails
repair-before old now new Limits kept fails = rw kept.geometry at fails
repair-before old now new (Unusable zone) kept fails = rw (kept-contents old now kept) at fails
repair-before old now new (Unsound zone) kept fails = begins-before old now zone kept fails
repair-before old now new (Behind zone block) kept fails = behind-before old now zone block kept fails
repair-before old now new NoEmptyZone kept fails = λ zone lt. rw (kept-contents old now kept) at (fails zone (omega (arith, lt, length-closing old.zones now.zones kept.closing)))
repair-before old now new Unfinished kept fails = tt

-- the same of an answer
pub find-fails : {V : Type 0} (old now new : DriveState) (result : Result V RepairFault) → KeepsZones old now → IfErr result (FindFails now new) → IfErr result (FindFails old new)
find-fails old now new (Ok value) kept fails = tt
find-fails old now new (Err fault) kept fails = find-before old now new fault kept fails

-- ---- Empty zones

state-empty : (state : ZoneState) → is_empty (usage_of state) ≡ true → state ≡ states.Empty
state-empty states.Empty is = refl
state-empty states.ImplicitlyOpened is = absurd (cc)
state-empty states.ExplicitlyOpened is = absurd (cc)
state-empty states.Closed is = absurd (cc)
state-empty states.ReadOnly is = absurd (cc)
state-empty states.Full is = absurd (cc)
state-empty states.Offline is = absurd (cc)

-- an Empty zone of a lawful drive has no block
empty-blocks : (drive : DriveState) (zone : ℕ) → IsLawful drive → zone < length drive.zones → is_empty (content_at (contents drive.zones) zone).usage ≡ true → length (readable_at drive zone) ≡ 0
empty-blocks drive zone lawful lt is =
    let here = zone_at drive.zones zone in
    let content = content_at-contents drive.zones zone in
    let one = all-at (IsLawfulZone drive.geometry) drive.zones zone nowhere lawful.zones lt in
    let state : here.state ≡ states.Empty = state-empty here.state (rw content at is) in
    let none : length here.blocks ≡ 0 = rw state at one.written in
    let same : readable drive.geometry (content_of here) ≡ here.blocks ++ [] = rw state refl in
    rw content (omega (arith, ap length same, length-append here.blocks [], none))

-- no zone is Empty where none but one is reported so, and that one has a block
pub none-empty : (drive : DriveState) (zones : List ReportedZone) (beside blocks : ℕ) (reported : ReportedZone) → AreKnown drive zones → IsKnown drive beside reported → 0 < blocks → blocks ≤ reported.blocks
    → NoOtherEmpty zones beside → NoneIsEmpty drive
none-empty drive zones beside blocks reported known is some few none zone lt = at (cases_eq zone beside)
  where
    own : (b : Bool) → is_empty (content_at (contents drive.zones) beside).usage ≡ b → b ≡ false
    own false e = refl
    own true e = absurd (omega (arith, empty-blocks drive beside is.lawful is.in_range e, is.blocks, some, few))

    at : (zone ≡ beside) ⊎ (zone ≡ beside → ⊥) → is_empty (content_at (contents drive.zones) zone).usage ≡ false
    at (inl same) = rw same (own (is_empty (content_at (contents drive.zones) beside).usage) refl)
    at (inr not) =
        let no_zone : ReportedZone = record { state = states.Offline; blocks = 0 } in
        let there = there-is zones zone no_zone (omega (arith, lt, known.count)) in
        let one = known.each zone (get_or zones zone no_zone) there in
        rw one.usage (none zone (get_or zones zone no_zone) not there)

-- ---- scans

begun-so : (drive : DriveState) (zone : ℕ) (log : List Batch) (rest : List (List ℕ)) (fault : MountFault) → BeginsWith drive.geometry.block (readable_at drive zone) log rest → log_fault [] log ≡ Some fault → IsUnsound drive zone
begun-so drive zone log rest fault front first = record { log = log; begins = (rest, front); fault = fault; first = first }

-- a fault in the batches, or at their end
fails-so : (old : DriveState) (zone : ℕ) (fault : MountFault) → FailsIn old.geometry (content_at (contents old.zones) zone) zone [] fault → ((o : ℕ) (cause : LogFault) → fault ≡ mounts.Log zone o cause → ⊥) → IsUnsound old zone
fails-so old zone fault fails not = at fails.first
  where
    ending : (size : ℕ) (e : Ending) → ending_fault zone size e ≡ Some fault → IsUnsound old zone
    ending size ended is = absurd (cc)
    ending size torn is = absurd (cc)
    ending size (failed cause) is = let same : fault ≡ mounts.Log zone size cause = cc in absurd (not size cause same)

    at : ((log_fault [] fails.log ≡ Some fault) ⊎ ((log_fault [] fails.log ≡ None) × BeginsWithNoBatch old.geometry.block fails.rest × (ending_fault zone (log_size fails.log) (ending_of (is_full (content_at (contents old.zones) zone).usage) fails.rest) ≡ Some fault))) → IsUnsound old zone
    at (inl first) = begun-so old zone fails.log fails.rest fault fails.front first
    at (inr after) = ending (log_size fails.log) (ending_of (is_full (content_at (contents old.zones) zone).usage) fails.rest) after.2

-- only these faults are in batches, or at their end
heading-kind : (seen : List ℕ) (heading : Heading) (fault : MountFault) → heading_fault seen heading ≡ Some fault → (fault ≡ mounts.SequenceRepeated) ⊎ (fault ≡ mounts.Spent)
heading-kind seen heading fault is = at (nat_le (2 ^ 63) heading.sequence) refl (list_any (is_at (nat_cmp heading.sequence)) seen) refl
  where
    at : (a : Bool) → nat_le (2 ^ 63) heading.sequence ≡ a → (b : Bool) → list_any (is_at (nat_cmp heading.sequence)) seen ≡ b → (fault ≡ mounts.SequenceRepeated) ⊎ (fault ≡ mounts.Spent)
    at true e b f = let same : Some mounts.Spent ≡ Some fault = rw e at is in inr (cc)
    at false e true f = let same : Some mounts.SequenceRepeated ≡ Some fault = rw (e, f) at is in inl (cc)
    at false e false f = let bad : None ≡ Some fault = rw (e, f) at is in absurd (cc)

log-kind : (seen : List ℕ) (log : List Batch) (fault : MountFault) → log_fault seen log ≡ Some fault → (fault ≡ mounts.SequenceRepeated) ⊎ (fault ≡ mounts.Spent)
log-kind seen [] fault is = absurd (cc)
log-kind seen (b ∷ bs) fault is = at (λ rest. log-kind (insert_key nat_cmp seen b.heading.sequence) bs fault rest) (heading_fault seen b.heading) refl
  where
    at : (log_fault (insert_key nat_cmp seen b.heading.sequence) bs ≡ Some fault → (fault ≡ mounts.SequenceRepeated) ⊎ (fault ≡ mounts.Spent)) → (h : Option MountFault) → heading_fault seen b.heading ≡ h → (fault ≡ mounts.SequenceRepeated) ⊎ (fault ≡ mounts.Spent)
    at others None e = let rest : log_fault (insert_key nat_cmp seen b.heading.sequence) bs ≡ Some fault = rw e at is in others rest
    at others (Some other) e = let same : Some other ≡ Some fault = rw e at is in heading-kind seen b.heading fault (e ∙ same)

other-kind : (old : DriveState) (zone : ℕ) (fault : MountFault) → FailsIn old.geometry (content_at (contents old.zones) zone) zone [] fault → ((o : ℕ) (cause : LogFault) → fault ≡ mounts.Log zone o cause → ⊥) → (fault ≡ mounts.SequenceRepeated → ⊥) → (fault ≡ mounts.Spent → ⊥) → ⊥
other-kind old zone fault fails not_log not_twice not_spent =
    by (log-kind-of fails.first)
  where
    Kind : Type 0
    Kind = (fault ≡ mounts.SequenceRepeated) ⊎ (fault ≡ mounts.Spent)

    ending : (size : ℕ) (e : Ending) → ending_fault zone size e ≡ Some fault → Kind
    ending size ended is = absurd (cc)
    ending size torn is = absurd (cc)
    ending size (failed cause) is = let same : fault ≡ mounts.Log zone size cause = cc in absurd (not_log size cause same)

    log-kind-of : ((log_fault [] fails.log ≡ Some fault) ⊎ ((log_fault [] fails.log ≡ None) × BeginsWithNoBatch old.geometry.block fails.rest × (ending_fault zone (log_size fails.log) (ending_of (is_full (content_at (contents old.zones) zone).usage) fails.rest) ≡ Some fault))) → Kind
    log-kind-of (inl first) = log-kind [] fails.log fault first
    log-kind-of (inr after) = ending (log_size fails.log) (ending_of (is_full (content_at (contents old.zones) zone).usage) fails.rest) after.2

    by : Kind → ⊥
    by (inl twice) = not_twice twice
    by (inr spent) = not_spent spent

-- a fault that no scan has
never : (old new : DriveState) (zone : ℕ) (fault : MountFault) → FailsBy (FailsIn old.geometry (content_at (contents old.zones) zone) zone []) new fault → (fault ≡ mounts.OutOfMemory → ⊥) → (fault ≡ mounts.Halted → ⊥) → (fault ≡ mounts.Failed → ⊥)
    → ((o : ℕ) (cause : LogFault) → fault ≡ mounts.Log zone o cause → ⊥) → (fault ≡ mounts.SequenceRepeated → ⊥) → (fault ≡ mounts.Spent → ⊥) → ⊥
never old new zone fault (inl memory) not_memory not_halted not_failed not_log not_twice not_spent = not_memory memory
never old new zone fault (inr (inl (inl halted))) not_memory not_halted not_failed not_log not_twice not_spent = not_halted halted.0
never old new zone fault (inr (inl (inr failing))) not_memory not_halted not_failed not_log not_twice not_spent = not_failed failing.0
never old new zone fault (inr (inr fails)) not_memory not_halted not_failed not_log not_twice not_spent = other-kind old zone fault fails not_log not_twice not_spent

in-batches : (old new : DriveState) (zone : ℕ) (fault : MountFault) → FailsBy (FailsIn old.geometry (content_at (contents old.zones) zone) zone []) new fault → (fault ≡ mounts.OutOfMemory → ⊥) → (fault ≡ mounts.Halted → ⊥) → (fault ≡ mounts.Failed → ⊥)
    → ((o : ℕ) (cause : LogFault) → fault ≡ mounts.Log zone o cause → ⊥) → IsUnsound old zone
in-batches old new zone fault (inl memory) not_memory not_halted not_failed not_log = absurd (not_memory memory)
in-batches old new zone fault (inr (inl (inl halted))) not_memory not_halted not_failed not_log = absurd (not_halted halted.0)
in-batches old new zone fault (inr (inl (inr failing))) not_memory not_halted not_failed not_log = absurd (not_failed failing.0)
in-batches old new zone fault (inr (inr fails)) not_memory not_halted not_failed not_log = fails-so old zone fault fails not_log

abbrev ScanSays : DriveState → DriveState → ℕ → Result BatchEnd RepairFault → Type 0
ScanSays old new zone result = IfOk result (λ end. EndsAt old zone end.blocks end.is_foreign) × IfErr result (FindFails old new)

-- what a scan that failed says of a zone
pub scan-says : (old new : DriveState) (zone : ℕ) (fault : MountFault) → IsInRange old.geometry → FailsBy (FailsIn old.geometry (content_at (contents old.zones) zone) zone []) new fault → ScanSays old new zone (foreign_end zone fault)
scan-says old new zone (mounts.Log z o cause) range fails = (scan-ends old new zone z o [] cause range fails, tt)
scan-says old new zone mounts.OutOfMemory range fails = (tt, tt)
scan-says old new zone mounts.Halted range (inl memory) = absurd (cc)
scan-says old new zone mounts.Halted range (inr (inl (inl halted))) = (tt, halted.1)
scan-says old new zone mounts.Halted range (inr (inl (inr failing))) = let no = failing.0 in absurd (cc)
scan-says old new zone mounts.Halted range (inr (inr fails)) = absurd (other-kind old zone mounts.Halted fails (λ o cause is. absurd (cc)) (λ is. absurd (cc)) (λ is. absurd (cc)))
scan-says old new zone mounts.Failed range (inl memory) = absurd (cc)
scan-says old new zone mounts.Failed range (inr (inl (inl halted))) = let no = halted.0 in absurd (cc)
scan-says old new zone mounts.Failed range (inr (inl (inr failing))) = (tt, failing.1)
scan-says old new zone mounts.Failed range (inr (inr fails)) = absurd (other-kind old zone mounts.Failed fails (λ o cause is. absurd (cc)) (λ is. absurd (cc)) (λ is. absurd (cc)))
scan-says old new zone mounts.SequenceRepeated range fails = (tt, in-batches old new zone mounts.SequenceRepeated fails (λ is. absurd (cc)) (λ is. absurd (cc)) (λ is. absurd (cc)) (λ o cause is. absurd (cc)))
scan-says old new zone mounts.Spent range fails = (tt, in-batches old new zone mounts.Spent fails (λ is. absurd (cc)) (λ is. absurd (cc)) (λ is. absurd (cc)) (λ o cause is. absurd (cc)))
scan-says old new zone mounts.Reserve range fails = absurd (never old new zone mounts.Reserve fails (λ is. absurd (cc)) (λ is. absurd (cc)) (λ is. absurd (cc)) (λ o cause is. absurd (cc)) (λ is. absurd (cc)) (λ is. absurd (cc)))
scan-says old new zone mounts.Limits range fails = absurd (never old new zone mounts.Limits fails (λ is. absurd (cc)) (λ is. absurd (cc)) (λ is. absurd (cc)) (λ o cause is. absurd (cc)) (λ is. absurd (cc)) (λ is. absurd (cc)))
scan-says old new zone (mounts.ZoneUnusable z) range fails = absurd (never old new zone (mounts.ZoneUnusable z) fails (λ is. absurd (cc)) (λ is. absurd (cc)) (λ is. absurd (cc)) (λ o cause is. absurd (cc)) (λ is. absurd (cc)) (λ is. absurd (cc)))
scan-says old new zone mounts.BlockOutOfRange range fails = absurd (never old new zone mounts.BlockOutOfRange fails (λ is. absurd (cc)) (λ is. absurd (cc)) (λ is. absurd (cc)) (λ o cause is. absurd (cc)) (λ is. absurd (cc)) (λ is. absurd (cc)))
scan-says old new zone mounts.TooManyPartial range fails = absurd (never old new zone mounts.TooManyPartial fails (λ is. absurd (cc)) (λ is. absurd (cc)) (λ is. absurd (cc)) (λ o cause is. absurd (cc)) (λ is. absurd (cc)) (λ is. absurd (cc)))
scan-says old new zone mounts.NoSpare range fails = absurd (never old new zone mounts.NoSpare fails (λ is. absurd (cc)) (λ is. absurd (cc)) (λ is. absurd (cc)) (λ o cause is. absurd (cc)) (λ is. absurd (cc)) (λ is. absurd (cc)))
scan-says old new zone mounts.Damaged range fails = absurd (never old new zone mounts.Damaged fails (λ is. absurd (cc)) (λ is. absurd (cc)) (λ is. absurd (cc)) (λ o cause is. absurd (cc)) (λ is. absurd (cc)) (λ is. absurd (cc)))
scan-says old new zone (mounts.TornZone z) range fails = absurd (never old new zone (mounts.TornZone z) fails (λ is. absurd (cc)) (λ is. absurd (cc)) (λ is. absurd (cc)) (λ o cause is. absurd (cc)) (λ is. absurd (cc)) (λ is. absurd (cc)))

-- ---- headers

-- what was read as a header is one
pub header-found : {A : Type 0} (P : A → Type 0) (result : Result A LogFault) → true ≡ is_ok result → IfOk result P → (view : A) × P view
header-found P (Ok view) is found = (view, found)
header-found P (Err fault) is found = absurd (cc)

pub header-behind : (old now : DriveState) (zone blocks offset : ℕ) (block : List ℕ) (heading : Heading) → KeepsZones old now → LogEnds old zone (Some blocks) → blocks < offset → offset < length (readable_at old zone)
    → block ≡ block_of now zone offset → length block ≡ now.geometry.block → IsHeaderBlock (length block) block heading → HasHeaderBehind old zone offset
header-behind old now zone blocks offset block heading kept ends behind lt is long header =
    let sized : IsHeaderBlock old.geometry.block block heading = subst (λ (n : ℕ). IsHeaderBlock n block heading) (long ∙ ap (λ (g : Geometry). g.block) kept.geometry) header in
    record {
      blocks = blocks;
      ends = ends;
      behind = behind;
      in_range = lt;
      heading = heading;
      is = subst (λ (b : List ℕ). IsHeaderBlock old.geometry.block b heading) (is ∙ block-kept old now zone offset kept) sized;
    }
