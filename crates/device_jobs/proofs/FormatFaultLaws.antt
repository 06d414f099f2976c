-- Why a drive is not formatted.
use Rattle.std.proofs.Common.{◌≡◌, inl, inr, ℕ, ◌<◌, Bool, true, List, length, get_or, refl, sym, ap, subst, ◌∙◌, arith}
use Rattle.std.specs.Prelude.{count_by, not, IfErr, IsErrAnd, Result, Ok, Err}
use Rattle.std.proofs.lemmas.Option.{slice_get-get_or, slice_get_within}
use Rattle.nvme_wire.specs.declared.zone_state.ZoneState.TheVariants as states
use Rattle.drive_port.specs.Contents.{Content, Usage, active, content_at, empty, full, is_usable, unusable, usage_of}
use Rattle.drive_port.specs.Drive.{DriveState}
use Rattle.drive_port.proofs.ClosingLaws.{length-closing}
use Rattle.drive_survey.proofs.ReadLaws.{keeps-both, kept-contents}
use Rattle.drive_survey.specs.declared.fault.MountFault.{MountFault}
use Rattle.drive_survey.specs.declared.reported.ReportedZone.{ReportedZone}
use Rattle.drive_survey.specs.Reported.{KeepsZones}
use Rattle.drive_survey.specs.Scan.{IsInterruption}
use Rattle.tool_jobs.specs.Checks.{EndsLook}
use Rattle.tool_jobs.specs.declared.fault.ToolFault.{ToolFault}
use Rattle.tool_jobs.specs.declared.fault.ToolFault.TheVariants as tools
use Rattle.drive_inspection.specs.Written.{AreAllEmpty, AreEmptyBelow, CountsWritten, IsWritten, is_used}
use Rattle.device_jobs.specs.Formats.{AreUsages, HasFormatCause, IsOfLook, IsResetOf, IsUnformatted, IsUnlisted, IsUnlooked, IsUnreset, IsUnsaid, IsUnusable, IsUnusableAt, NoneIsUnusable, unlooked, unreported}
use Rattle.device_jobs.specs.Looks.{IsUnasked}
use Rattle.device_jobs.specs.declared.format_fault.FormatFault.{FormatFault}
use Rattle.device_jobs.specs.declared.format_fault.FormatFault.TheVariants as faults
use Rattle.drive_inspection.specs.declared.written.Written.{Written}

-- ---- looks

pub not-looked : (last : DriveState) (fault : ToolFault) → IsUnasked last fault → IsUnlooked last (unlooked fault)
not-looked last tools.Memory so = tt
not-looked last tools.Stopped so = so
not-looked last tools.Failed so = so
not-looked last tools.Damaged so = absurd so
not-looked last (tools.Plan cause) so = absurd so
not-looked last tools.Bytes so = absurd so
not-looked last (tools.Entry cause) so = absurd so
not-looked last tools.Output so = absurd so
not-looked last (tools.File cause) so = absurd so

-- whatever ended a look
pub of-look : (fault : ToolFault) → EndsLook fault → IsOfLook (unlooked fault)
of-look tools.Memory so = tt
of-look tools.Stopped so = tt
of-look tools.Failed so = tt
of-look tools.Damaged so = tt
of-look (tools.Plan cause) so = absurd so
of-look tools.Bytes so = absurd so
of-look (tools.Entry cause) so = absurd so
of-look tools.Output so = absurd so
of-look (tools.File cause) so = absurd so

-- ---- zones that cannot be used

-- a zone that was reported so is Read Only or Offline
pub unusable-found : (drive : DriveState) (reported : List ReportedZone) (zone : ℕ) → AreUsages drive reported → IsUnusable reported zone → IsUnusableAt drive zone
unusable-found drive reported zone are found =
    let lt : zone < length reported = within in
    (omega (arith, lt, are.count, are.lawful.count), are.used zone found.0 found.1 ∙ at (usage_of (found.0).state) found.2)
  where
    within : zone < length reported
    within = slice_get_within reported zone found.0 found.1

    at : (usage : Usage) → not (is_usable usage) ≡ true → usage ≡ unusable
    at empty is = absurd (cc is)
    at active is = absurd (cc is)
    at full is = absurd (cc is)
    at unusable is = refl

-- where none was, none is
pub none-unusable : (drive : DriveState) (reported : List ReportedZone) (zone : ℕ) → AreUsages drive reported → NoneIsUnusable reported → IsUnusableAt drive zone → ⊥
none-unusable drive reported zone are none is =
    let within : zone < length reported = omega (arith, is.0, are.count, are.lawful.count) in
    let one : ReportedZone = record { state = states.Empty; blocks = 0 } in
    let there = slice_get-get_or reported zone one within in
    let usage = sym (are.used zone (get_or reported zone one) there) ∙ is.1 in
    absurd (cc (none zone (get_or reported zone one) there, usage))

-- a look keeps such a zone
pub unusable-kept : (old new : DriveState) (zone : ℕ) → KeepsZones old new → IsUnusableAt old zone → IsUnusableAt new zone
unusable-kept old new zone kept is =
    (omega (arith, is.0, length-closing old.zones new.zones kept.closing), ap (λ (c : List Content). (content_at c zone).usage) (kept-contents old new kept) ∙ is.1)

pub unusable-before : (old new : DriveState) (zone : ℕ) → KeepsZones old new → IsUnusableAt new zone → IsUnusableAt old zone
unusable-before old new zone kept is =
    (omega (arith, is.0, length-closing old.zones new.zones kept.closing), ap (λ (c : List Content). (content_at c zone).usage) (sym (kept-contents old new kept)) ∙ is.1)

-- ---- faults

abbrev used-count : List Content → ℕ
used-count all = count_by (λ (c : Content). is_used c.usage) all

written-before : (old middle new : DriveState) (written : Written) → KeepsZones old middle → IsWritten middle new written → IsWritten old new written
written-before old middle new written kept so = record {
  count = so.count ∙ ap used-count (kept-contents old middle kept);
  some = so.some;
  seen = so.seen;
  keeps = keeps-both old middle so.seen kept so.keeps;
  holding = so.holding;
}

counts-before : (old middle : DriveState) (written : Written) → KeepsZones old middle → CountsWritten middle written → CountsWritten old written
counts-before old middle written kept so = record { count = so.count ∙ ap used-count (kept-contents old middle kept); some = so.some }

-- why a drive is not formatted that was looked at before
pub unformatted-before : (force : Bool) (old middle new : DriveState) (fault : FormatFault) → KeepsZones old middle → IsUnformatted force middle new fault → IsUnformatted force old new fault
unformatted-before force old middle new (faults.Written written) kept so = (so.0, counts-before old middle written kept so.1, keeps-both old middle new kept so.2)
unformatted-before force old middle new (faults.Unusable zone) kept so = (unusable-before old middle zone kept so.0, keeps-both old middle new kept so.1)
unformatted-before force old middle new faults.Untold kept so = (so.0, keeps-both old middle new kept so.1)
unformatted-before force old middle new (faults.Reset zone cause) kept so = so
unformatted-before force old middle new faults.Output kept so = so
unformatted-before force old middle new faults.Limits kept so = ((λ range. so.0 (rw kept.geometry range)), keeps-both old middle new kept so.1)
unformatted-before force old middle new faults.Stopped kept so = keeps-both old middle new kept so
unformatted-before force old middle new faults.Failed kept so = keeps-both old middle new kept so
unformatted-before force old middle new faults.Damaged kept so = keeps-both old middle new kept so
unformatted-before force old middle new faults.Memory kept (inl keeps) = inl (keeps-both old middle new kept keeps)
unformatted-before force old middle new faults.Memory kept (inr done) = inr done

-- and its cause
pub cause-before : (old middle new : DriveState) (fault : FormatFault) → KeepsZones old middle → HasFormatCause middle new fault → HasFormatCause old new fault
cause-before old middle new (faults.Written written) kept so = written-before old middle new written kept so
cause-before old middle new (faults.Unusable zone) kept so = tt
cause-before old middle new faults.Untold kept so = tt
cause-before old middle new (faults.Reset zone cause) kept so = tt
cause-before old middle new faults.Output kept so = tt
cause-before old middle new faults.Limits kept so = tt
cause-before old middle new faults.Stopped kept so = so
cause-before old middle new faults.Failed kept so = so
cause-before old middle new faults.Damaged kept so = so
cause-before old middle new faults.Memory kept so = tt

-- ---- what a part answers, of the whole

-- a fault that is handed on
pub exit : {T E : Type 0} (P : E → Type 0) (result : Result T E) (fault : E) → IsErrAnd result (λ e. e ≡ fault) → P fault → IfErr result P
exit P (Ok done) fault is holds = tt
exit P (Err e) fault is holds = subst P (sym is) holds

-- the zone that was not reset is this one
pub reset-of : (new : DriveState) (number : ℕ) (fault : FormatFault) → IsResetOf number fault → AreEmptyBelow number new → IsUnreset new fault
reset-of new number (faults.Reset zone cause) is below = rw is below
reset-of new number (faults.Written written) is below = absurd is
reset-of new number (faults.Unusable zone) is below = absurd is
reset-of new number faults.Untold is below = absurd is
reset-of new number faults.Output is below = absurd is
reset-of new number faults.Limits is below = absurd is
reset-of new number faults.Stopped is below = absurd is
reset-of new number faults.Failed is below = absurd is
reset-of new number faults.Damaged is below = absurd is
reset-of new number faults.Memory is below = absurd is

pub unlisted : (old last : DriveState) (fault : MountFault) → IsInterruption last fault → IsUnlisted old last (unreported fault)
unlisted old last fault (inl memory) = rw memory tt
unlisted old last fault (inr (inl (inl stopped))) = rw stopped.0 stopped.1
unlisted old last fault (inr (inl (inr failed))) = rw failed.0 failed.1
unlisted old last fault (inr (inr none)) = absurd none

module _ (force : Bool) (old new : DriveState) where
  pub unlooked-so : KeepsZones old new → (fault : FormatFault) → IsOfLook fault → IsUnformatted force old new fault
  unlooked-so kept (faults.Written written) so = absurd so
  unlooked-so kept (faults.Unusable zone) so = absurd so
  unlooked-so kept faults.Untold so = absurd so
  unlooked-so kept (faults.Reset zone cause) so = absurd so
  unlooked-so kept faults.Output so = absurd so
  unlooked-so kept faults.Limits so = absurd so
  unlooked-so kept faults.Stopped so = kept
  unlooked-so kept faults.Failed so = kept
  unlooked-so kept faults.Damaged so = kept
  unlooked-so kept faults.Memory so = inl kept

  pub unlisted-so : KeepsZones old new → (fault : FormatFault) → IsUnlisted old new fault → IsUnformatted force old new fault
  unlisted-so kept (faults.Written written) so = absurd so
  unlisted-so kept (faults.Unusable zone) so = absurd so
  unlisted-so kept faults.Untold so = absurd so
  unlisted-so kept (faults.Reset zone cause) so = absurd so
  unlisted-so kept faults.Output so = absurd so
  unlisted-so kept faults.Limits so = (so, kept)
  unlisted-so kept faults.Stopped so = kept
  unlisted-so kept faults.Failed so = kept
  unlisted-so kept faults.Damaged so = absurd so
  unlisted-so kept faults.Memory so = inl kept

  pub unreset-so : force ≡ true → (fault : FormatFault) → IsUnreset new fault → IsUnformatted force old new fault
  unreset-so forced (faults.Written written) so = absurd so
  unreset-so forced (faults.Unusable zone) so = absurd so
  unreset-so forced faults.Untold so = absurd so
  unreset-so forced (faults.Reset zone cause) so = (forced, so)
  unreset-so forced faults.Output so = absurd so
  unreset-so forced faults.Limits so = absurd so
  unreset-so forced faults.Stopped so = absurd so
  unreset-so forced faults.Failed so = absurd so
  unreset-so forced faults.Damaged so = absurd so
  unreset-so forced faults.Memory so = absurd so

  -- all is done, and it is not told
  pub unsaid-so : AreAllEmpty new → (fault : FormatFault) → IsUnsaid fault → IsUnformatted force old new fault
  unsaid-so done (faults.Written written) so = absurd so
  unsaid-so done (faults.Unusable zone) so = absurd so
  unsaid-so done faults.Untold so = absurd so
  unsaid-so done (faults.Reset zone cause) so = absurd so
  unsaid-so done faults.Output so = done
  unsaid-so done faults.Limits so = absurd so
  unsaid-so done faults.Stopped so = absurd so
  unsaid-so done faults.Failed so = absurd so
  unsaid-so done faults.Damaged so = absurd so
  unsaid-so done faults.Memory so = inr done

-- ---- its cause

module _ (old new : DriveState) where
  pub unlooked-cause : (fault : FormatFault) → IsUnlooked new fault → HasFormatCause old new fault
  unlooked-cause (faults.Written written) so = absurd so
  unlooked-cause (faults.Unusable zone) so = absurd so
  unlooked-cause faults.Untold so = absurd so
  unlooked-cause (faults.Reset zone cause) so = absurd so
  unlooked-cause faults.Output so = absurd so
  unlooked-cause faults.Limits so = absurd so
  unlooked-cause faults.Stopped so = so
  unlooked-cause faults.Failed so = so
  unlooked-cause faults.Damaged so = absurd so
  unlooked-cause faults.Memory so = tt

  pub unlisted-cause : (fault : FormatFault) → IsUnlisted old new fault → HasFormatCause old new fault
  unlisted-cause (faults.Written written) so = absurd so
  unlisted-cause (faults.Unusable zone) so = absurd so
  unlisted-cause faults.Untold so = absurd so
  unlisted-cause (faults.Reset zone cause) so = absurd so
  unlisted-cause faults.Output so = absurd so
  unlisted-cause faults.Limits so = tt
  unlisted-cause faults.Stopped so = so
  unlisted-cause faults.Failed so = so
  unlisted-cause faults.Damaged so = absurd so
  unlisted-cause faults.Memory so = tt

  pub unreset-cause : (fault : FormatFault) → IsUnreset new fault → HasFormatCause old new fault
  unreset-cause (faults.Written written) so = absurd so
  unreset-cause (faults.Unusable zone) so = absurd so
  unreset-cause faults.Untold so = absurd so
  unreset-cause (faults.Reset zone cause) so = tt
  unreset-cause faults.Output so = absurd so
  unreset-cause faults.Limits so = absurd so
  unreset-cause faults.Stopped so = absurd so
  unreset-cause faults.Failed so = absurd so
  unreset-cause faults.Damaged so = absurd so
  unreset-cause faults.Memory so = absurd so

  pub unsaid-cause : (fault : FormatFault) → IsUnsaid fault → HasFormatCause old new fault
  unsaid-cause (faults.Written written) so = absurd so
  unsaid-cause (faults.Unusable zone) so = absurd so
  unsaid-cause faults.Untold so = absurd so
  unsaid-cause (faults.Reset zone cause) so = absurd so
  unsaid-cause faults.Output so = tt
  unsaid-cause faults.Limits so = absurd so
  unsaid-cause faults.Stopped so = absurd so
  unsaid-cause faults.Failed so = absurd so
  unsaid-cause faults.Damaged so = absurd so
  unsaid-cause faults.Memory so = tt
