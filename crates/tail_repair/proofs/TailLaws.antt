-- Where the batches of zones end.
use Rattle.std.proofs.Common.{◌≡◌, ◌⊎◌, inl, inr, ℕ, zero, suc, ◌+◌, ◌<◌, ◌≤◌, ◌^◌, Bool, true, false, List, [], ◌∷◌, ◌++◌, length, get_or, Option, Some, None, Result, Ok, Err, refl, sym, ap, subst, ◌∙◌, arith}
use Rattle.std.specs.Prelude.{nat_le, not, slice_get, IfErr, IfOk}
use Rattle.std.proofs.lemmas.Bool.{cases_eq, cases_lt}
use Rattle.std.specs.List.{list_any}
use Rattle.std.specs.Ordering.{nat_cmp}
use Rattle.std.specs.Result.{is_ok}
use Rattle.std.specs.BTreeSet.{insert_key}
use Rattle.std.specs.BTreeMap.{is_at}
use Rattle.batch_log.specs.Causes.{is_zero}
use Rattle.batch_log.specs.Header.{Heading, IsNoHeader, head_size}
use Rattle.batch_log.specs.Ending.{Ending, ended, torn, failed, ending_of}
use Rattle.batch_log.specs.Log.{Batch, BeginsWithNoBatch, log_size}
use Rattle.batch_log.proofs.EndingLaws.{never_fails, one_front, tail_none}
use Rattle.batch_log.specs.declared.fault.LogFault.{LogFault}
use Rattle.drive_array.specs.ZoneLogs.{HasLog, zone_log}
use Rattle.drive_port.specs.Contents.{SameContents, content_at, contents, is_full}
use Rattle.drive_port.specs.Drive.{DriveState, IsLawful}
use Rattle.zone_states.specs.Geometry.{IsInRange}
use Rattle.zone_states.specs.Zone.{Zone}
use Rattle.zone_states.specs.declared.geometry.Geometry.{Geometry}
use Rattle.drive_survey.specs.declared.fault.MountFault.{MountFault}
use Rattle.drive_survey.specs.declared.fault.MountFault.TheVariants as faults
use Rattle.drive_survey.specs.declared.reported.ReportedZone.{ReportedZone}
use Rattle.drive_survey.specs.declared.scan.ReadableZone.{ReadableZone}
use Rattle.drive_survey.specs.Reported.{AreReported, IsKnown, KeepsZones, ReportsZones}
use Rattle.drive_survey.specs.Heads.{HeadsView}
use Rattle.drive_survey.specs.Scan.{AreKnown, FailsBy, FailsIn, Scans, block_of, ending_fault, heading_fault, log_fault, readable_at}
use Rattle.drive_survey.proofs.ReadLaws.{kept-contents, kept-known}
use Rattle.drive_survey.proofs.TakeLaws.{blocks-are}
use Rattle.drive_port.proofs.ClosingLaws.{length-closing}
use Rattle.tail_repair.specs.Repair.{Agrees, AreIn, AreNoted, AreTails, BatchesEnd, EndsAt, Extends, HasCopy, HaveLogs, HeadersEnd, HoldsNoLog, IsCopy, KeepsBeside, KeepsDrive, LogEnds, NotesTail, TailIs, at_first, may_change, noted, one_more, tail_at}
use Rattle.tail_repair.specs.declared.fault.RepairFault.{RepairFault}
use Rattle.tail_repair.specs.declared.tails.ForeignTail.{ForeignTail}
use Rattle.tail_repair.proofs.KeepLaws.{keeps-same}

-- ---- one zone

-- a header's fault is not where the batches end
heading-other : (seen : List ℕ) (heading : Heading) (z o : ℕ) (cause : LogFault) → heading_fault seen heading ≡ Some (faults.Log z o cause) → ⊥
heading-other seen heading z o cause is = at (nat_le (2 ^ 63) heading.sequence) refl (list_any (is_at (nat_cmp heading.sequence)) seen) refl
  where
    at : (a : Bool) → nat_le (2 ^ 63) heading.sequence ≡ a → (b : Bool) → list_any (is_at (nat_cmp heading.sequence)) seen ≡ b → ⊥
    at true e b f = let bad : Some faults.Spent ≡ Some (faults.Log z o cause) = rw e at is in absurd (cc)
    at false e true f = let bad : Some faults.SequenceRepeated ≡ Some (faults.Log z o cause) = rw (e, f) at is in absurd (cc)
    at false e false f = let bad : None ≡ Some (faults.Log z o cause) = rw (e, f) at is in absurd (cc)

log-other : (seen : List ℕ) (log : List Batch) (z o : ℕ) (cause : LogFault) → log_fault seen log ≡ Some (faults.Log z o cause) → ⊥
log-other seen [] z o cause is = absurd (cc)
log-other seen (b ∷ bs) z o cause is = at (λ rest. log-other (insert_key nat_cmp seen b.heading.sequence) bs z o cause rest) (heading_fault seen b.heading) refl
  where
    at : (log_fault (insert_key nat_cmp seen b.heading.sequence) bs ≡ Some (faults.Log z o cause) → ⊥) → (h : Option MountFault) → heading_fault seen b.heading ≡ h → ⊥
    at others None e = let rest : log_fault (insert_key nat_cmp seen b.heading.sequence) bs ≡ Some (faults.Log z o cause) = rw e at is in others rest
    at others (Some fault) e = let same : Some fault ≡ Some (faults.Log z o cause) = rw e at is in heading-other seen b.heading z o cause (e ∙ same)

ends-there : (zone size z o : ℕ) (cause : LogFault) (ending : Ending) → ending_fault zone size ending ≡ Some (faults.Log z o cause) → size ≡ o
ends-there zone size z o cause ended is = absurd (cc)
ends-there zone size z o cause torn is = absurd (cc)
ends-there zone size z o cause (failed other) is = cc

ends-failed : (zone size z o : ℕ) (cause : LogFault) (ending : Ending) → ending_fault zone size ending ≡ Some (faults.Log z o cause) → ending ≡ failed cause
ends-failed zone size z o cause ended is = absurd (cc)
ends-failed zone size z o cause torn is = absurd (cc)
ends-failed zone size z o cause (failed other) is = cc

-- a geometry in range has blocks of 512 or 4096 bytes
pub block-long : (geometry : Geometry) → IsInRange geometry → head_size ≤ geometry.block
block-long geometry range = at range.block
  where
    at : (geometry.block ≡ 512) ⊎ (geometry.block ≡ 4096) → head_size ≤ geometry.block
    at (inl is) = omega (arith, is)
    at (inr is) = omega (arith, is)

pub block-small : (geometry : Geometry) → IsInRange geometry → geometry.block < 2 ^ 32
block-small geometry range = at range.block
  where
    at : (geometry.block ≡ 512) ⊎ (geometry.block ≡ 4096) → geometry.block < 2 ^ 32
    at (inl is) = omega (arith, is)
    at (inr is) = omega (arith, is)

-- a scan that fails at a block has found where the batches end, and that something foreign follows
pub scan-ends : (old new : DriveState) (zone z o : ℕ) (seen : List ℕ) (cause : LogFault) → IsInRange old.geometry → FailsBy (FailsIn old.geometry (content_at (contents old.zones) zone) zone seen) new (faults.Log z o cause) → EndsAt old zone o true
scan-ends old new zone z o seen cause range (inl memory) = absurd (cc)
scan-ends old new zone z o seen cause range (inr (inl (inl halted))) = let no = halted.0 in absurd (cc)
scan-ends old new zone z o seen cause range (inr (inl (inr failing))) = let no = failing.0 in absurd (cc)
scan-ends old new zone z o seen cause range (inr (inr fails)) = at fails.first
  where
    full : Bool
    full = is_full (content_at (contents old.zones) zone).usage

    small : old.geometry.block < 2 ^ 32
    small = block-small old.geometry range

    no-log : BeginsWithNoBatch old.geometry.block fails.rest → ending_of full fails.rest ≡ failed cause → HoldsNoLog old zone
    no-log none is log has =
        let same = one_front old.geometry.block fails.log log fails.rest has.tail small fails.front.batches has.front.batches none (tail_none old.geometry.block full has.tail small has.end) (sym fails.front.encoded ∙ has.front.encoded) in
        never_fails old.geometry.block full has.tail cause (block-long old.geometry range) small has.end (ap (ending_of full) same.tail_is ∙ is)

    at : ((log_fault seen fails.log ≡ Some (faults.Log z o cause)) ⊎ ((log_fault seen fails.log ≡ None) × BeginsWithNoBatch old.geometry.block fails.rest × (ending_fault zone (log_size fails.log) (ending_of full fails.rest) ≡ Some (faults.Log z o cause)))) → EndsAt old zone o true
    at (inl first) = absurd (log-other seen fails.log z o cause first)
    at (inr after) =
        let ends : BatchesEnd old zone o = record {
          log = fails.log;
          rest = fails.rest;
          front = fails.front;
          no_more = after.1;
          size = ends-there zone (log_size fails.log) z o cause (ending_of full fails.rest) after.2;
        } in
        record { ends = ends; log = (no-log after.1 (ends-failed zone (log_size fails.log) z o cause (ending_of full fails.rest) after.2), ends) }

-- a scan that is done has found a log
pub scan-log : (old : DriveState) (zone : ℕ) (seen after : List ℕ) (heads : HeadsView) (is_torn : Bool) → IsInRange old.geometry → Scans old.geometry (content_at (contents old.zones) zone) seen heads is_torn after → EndsAt old zone heads.blocks false
scan-log old zone seen after heads is_torn range scans = record {
  ends = record {
    log = zone_log old.geometry (content_at (contents old.zones) zone);
    rest = scans.has.tail;
    front = scans.has.front;
    no_more = tail_none old.geometry.block (is_full (content_at (contents old.zones) zone).usage) scans.has.tail (block-small old.geometry range) scans.has.end;
    size = sym (ap (λ (v : HeadsView). v.blocks) scans.heads_are ∙ blocks-are (zone_log old.geometry (content_at (contents old.zones) zone)));
  };
  log = scans.has;
}

-- ---- looks

pub look-keeps : (old new : DriveState) → KeepsZones old new → KeepsDrive old new
look-keeps old new kept = record {
  geometry = kept.geometry;
  lawful = kept.lawful;
  trusted = kept.trusted;
  batches = λ clean. keeps-same old new kept.geometry (kept-contents old new kept) (length-closing old.zones new.zones kept.closing);
}

-- a look leaves the batches of each zone where they are
pub look-in : (old new : DriveState) (zone : ℕ) → KeepsZones old new → AreIn old zone new zone
look-in old new zone kept log begins = (begins.0, rw (kept.geometry, kept-contents old new kept) begins.1)

pub look-beside : (old new : DriveState) (zone : ℕ) → KeepsZones old new → KeepsBeside old new zone
look-beside old new zone kept other not = look-in old new other kept

same-blocks : (old new : DriveState) (zone : ℕ) → KeepsZones old new → readable_at new zone ≡ readable_at old zone
same-blocks old new zone kept = rw (kept.geometry, kept-contents old new kept) refl

-- where the batches of a zone end, before looks at the drive and after them
pub ends-kept : (old new : DriveState) (zone blocks : ℕ) → KeepsZones old new → BatchesEnd old zone blocks → BatchesEnd new zone blocks
ends-kept old new zone blocks kept ends = record {
  log = ends.log;
  rest = ends.rest;
  front = rw (kept.geometry, kept-contents old new kept) ends.front;
  no_more = rw kept.geometry ends.no_more;
  size = ends.size;
}

ends-before : (old new : DriveState) (zone blocks : ℕ) → KeepsZones old new → BatchesEnd new zone blocks → BatchesEnd old zone blocks
ends-before old new zone blocks kept ends = record {
  log = ends.log;
  rest = ends.rest;
  front = rw (kept.geometry, kept-contents old new kept) at ends.front;
  no_more = rw kept.geometry at ends.no_more;
  size = ends.size;
}

pub headers-before : (old new : DriveState) (zone blocks : ℕ) → KeepsZones old new → HeadersEnd new zone blocks → HeadersEnd old zone blocks
headers-before old new zone blocks kept headers offset lt within =
    let same = same-blocks old new zone kept in
    let there = headers offset lt (omega (arith, within, ap length same)) in
    subst IsNoHeader (ap (λ (blocks : List (List ℕ)). get_or blocks offset []) same) there

no-log-before : (old new : DriveState) (zone : ℕ) → KeepsZones old new → HoldsNoLog new zone → HoldsNoLog old zone
no-log-before old new zone kept none = rw (kept.geometry, kept-contents old new kept) at none

-- what is found of a zone
pub log-before : (old new : DriveState) (zone : ℕ) (found : Option ℕ) → KeepsZones old new → LogEnds new zone found → LogEnds old zone found
log-before old new zone None kept is = rw (kept.geometry, kept-contents old new kept) at is
log-before old new zone (Some blocks) kept is = (no-log-before old new zone kept is.0, ends-before old new zone blocks kept is.1)

pub tail-kept : (old new : DriveState) (zone : ℕ) (found : Option ℕ) → KeepsZones old new → TailIs new zone found → TailIs old zone found
tail-kept old new zone None kept is = log-before old new zone None kept is
tail-kept old new zone (Some blocks) kept is = (log-before old new zone (Some blocks) kept is.0, headers-before old new zone blocks kept is.1)

-- after looks too
pub log-after : (old new : DriveState) (zone blocks : ℕ) → KeepsZones old new → LogEnds old zone (Some blocks) → LogEnds new zone (Some blocks)
log-after old new zone blocks kept is = (rw (kept.geometry, kept-contents old new kept) is.0, ends-kept old new zone blocks kept is.1)

-- ---- all zones

pub notes-kept : (old new : DriveState) (zone : ℕ) (before after : List ForeignTail) → KeepsZones old new → NotesTail new zone before after → NotesTail old zone before after
notes-kept old new zone before after kept notes = record { found = notes.found; is = tail-kept old new zone notes.found kept notes.is; noted_is = notes.noted_is }

more-than-none : (tails : List ForeignTail) (tail : ForeignTail) → tails ++ tail ∷ [] ≡ [] → ⊥
more-than-none [] tail is = absurd (cc)
more-than-none (t ∷ ts) tail is = absurd (cc)

-- where nothing is noted, each zone that was looked at holds a log
none-noted : (drive : DriveState) (n : ℕ) (tails : List ForeignTail) → AreNoted drive n tails → tails ≡ [] → (zone : ℕ) → zone < n → HasLog drive.geometry (content_at (contents drive.zones) zone)
none-noted drive zero tails at_first none zone lt = absurd (omega (arith, lt))
none-noted drive (suc n) tails (one_more {tails = before} are notes) none zone lt = at (λ all lower. none-noted drive n before are all zone lower) notes.found refl (cases-last zone n lt)
  where
    cases-last : (zone n : ℕ) → zone < suc n → (zone ≡ n) ⊎ (zone < n)
    cases-last zero zero lt = inl refl
    cases-last zero (suc n) lt = inr (omega arith)
    cases-last (suc zone) zero lt = absurd (omega (arith, lt))
    cases-last (suc zone) (suc n) lt = up (cases-last zone n (omega (arith, lt)))
      where
        up : (zone ≡ n) ⊎ (zone < n) → (suc zone ≡ suc n) ⊎ (suc zone < suc n)
        up (inl is) = inl (ap suc is)
        up (inr lt) = inr (omega (arith, lt))

    at : (before ≡ [] → zone < n → HasLog drive.geometry (content_at (contents drive.zones) zone)) → (found : Option ℕ) → notes.found ≡ found → (zone ≡ n) ⊎ (zone < n) → HasLog drive.geometry (content_at (contents drive.zones) zone)
    at others (Some blocks) is there = let all : before ++ tail_at n blocks ∷ [] ≡ [] = sym (notes.noted_is ∙ ap (noted n before) is) ∙ none in absurd (more-than-none before (tail_at n blocks) all)
    at others None is (inl same) = let here : TailIs drive n None = rw is at notes.is in rw same here
    at others None is (inr lower) = let all : before ≡ [] = sym (notes.noted_is ∙ ap (noted n before) is) ∙ none in others all lower

pub no-tails : (drive : DriveState) (tails : List ForeignTail) → AreTails drive tails → tails ≡ [] → HaveLogs drive
no-tails drive tails are none zone lt = none-noted drive (length drive.zones) tails are none zone lt

-- after looks at the drive each zone holds a log still
pub logs-kept : (old new : DriveState) → KeepsZones old new → HaveLogs old → HaveLogs new
logs-kept old new kept have zone lt =
    let count = length-closing old.zones new.zones kept.closing in
    let there = have zone (omega (arith, lt, count)) in
    rw (kept.geometry, kept-contents old new kept) there

-- ---- blocks and copies

pub block-kept : (old new : DriveState) (zone offset : ℕ) → KeepsZones old new → block_of new zone offset ≡ block_of old zone offset
block-kept old new zone offset kept = ap (λ (blocks : List (List ℕ)). get_or blocks offset []) (same-blocks old new zone kept)

apart-below : (o offset : ℕ) → o < offset + 1 → (o ≡ offset → ⊥) → o < offset
apart-below o offset below not = at (cases_lt o offset)
  where
    at : (o < offset) ⊎ (offset ≤ o) → o < offset
    at (inl lt) = lt
    at (inr le) = absurd (not (omega (arith, le, below)))

-- no block up to this one is a header
pub none-behind : (old now : DriveState) (zone blocks offset : ℕ) (block : List ℕ) → KeepsZones old now → block ≡ block_of now zone offset → IsNoHeader block → ((o : ℕ) → blocks < o → o < offset → IsNoHeader (block_of old zone o))
    → (o : ℕ) → blocks < o → o < offset + 1 → IsNoHeader (block_of old zone o)
none-behind old now zone blocks offset block kept is none before o lt below = at (cases_eq o offset)
  where
    at : (o ≡ offset) ⊎ (o ≡ offset → ⊥) → IsNoHeader (block_of old zone o)
    at (inl same) = rw same (subst IsNoHeader (is ∙ block-kept old now zone offset kept) none)
    at (inr not) = before o lt (apart-below o offset below not)

-- what was not read as a header is none
pub no-header : {A : Type 0} (result : Result A LogFault) (block : List ℕ) → false ≡ is_ok result → IfErr result (λ _. IsNoHeader block) → IsNoHeader block
no-header (Ok view) block is none = absurd (cc)
no-header (Err fault) block is none = none

-- one block more agrees
pub agrees-more : (old now : DriveState) (zone blocks to offset : ℕ) → KeepsZones old now → ((o : ℕ) → o < offset → Agrees old zone blocks to o) → Agrees now zone blocks to offset → (o : ℕ) → o < offset + 1 → Agrees old zone blocks to o
agrees-more old now zone blocks to offset kept before here o below = at (cases_lt o offset)
  where
    from_now : block_of now zone offset ≡ block_of old zone offset
    from_now = block-kept old now zone offset kept

    to_now : block_of now to offset ≡ block_of old to offset
    to_now = block-kept old now to offset kept

    at : (o < offset) ⊎ (offset ≤ o) → Agrees old zone blocks to o
    at (inl lt) = before o lt
    at (inr le) =
        let same : o ≡ offset = omega (arith, le, below) in
        let there : Agrees old zone blocks to offset = record { same = λ lt. sym to_now ∙ here.same lt ∙ from_now; zeros = λ ge. ap is_zero (sym to_now) ∙ here.zeros ge } in
        rw same there

-- a zone of a report is known
pub known-in : (new : DriveState) (zones : List ReportedZone) (number found : ℕ) (reported : ReportedZone) → AreKnown new zones → found ≡ number → slice_get zones number ≡ Some reported → IsKnown new found reported
known-in new zones number found reported known is there = rw is (known.each number reported there)

pub copy-found : (old new : DriveState) (zone blocks to : ℕ) (from copy : ReadableZone) (zones : List ReportedZone) → KeepsZones old new → AreKnown new zones
    → from.number ≡ zone → slice_get zones zone ≡ Some from.reported → copy.number ≡ to → slice_get zones to ≡ Some copy.reported
    → blocks ≤ from.reported.blocks → blocks ≤ copy.reported.blocks → IsCopy new from.number blocks copy.number → HasCopy old zone blocks to
copy-found old new zone blocks to from copy zones kept known from_is from_at copy_is copy_at enough long is =
    let first = known.each zone from.reported from_at in
    let second = known.each to copy.reported copy_at in
    let here : IsCopy new zone blocks to = rw (from_is, copy_is) at is in
    record {
      there = omega (arith, second.in_range, length-closing old.zones new.zones kept.closing);
      enough = omega (arith, enough, first.blocks, ap length (same-blocks old new zone kept));
      long = omega (arith, long, second.blocks, ap length (same-blocks old new to kept));
      is = λ offset lt.
          let one = here offset (omega (arith, lt, ap length (same-blocks old new to kept))) in
          record {
            same = λ below. sym (block-kept old new to offset kept) ∙ one.same below ∙ block-kept old new zone offset kept;
            zeros = λ past. ap is_zero (sym (block-kept old new to offset kept)) ∙ one.zeros past;
          };
    }

-- a report has no more zones than a drive may have
pub few-reported : (old new : DriveState) (reported : List ReportedZone) → IsInRange old.geometry → IsLawful old → ReportsZones old reported new → length reported ≤ 65536
few-reported old new reported range lawful reports =
    let same = same-count old.geometry reports.zones reported reports.are in
    omega (arith, same, length-closing old.zones reports.zones reports.before, lawful.count, range.zones)
  where
    same-count : (geometry : Geometry) (zones : List Zone) (reported : List ReportedZone) → AreReported geometry zones reported → length reported ≡ length zones
    same-count geometry [] [] are = refl
    same-count geometry [] (r ∷ rs) are = absurd are
    same-count geometry (z ∷ zs) [] are = absurd are
    same-count geometry (z ∷ zs) (r ∷ rs) are = ap suc (same-count geometry zs rs are.1)

-- the tails of all zones, before looks at the drive
noted-before : (old new : DriveState) (n : ℕ) (tails : List ForeignTail) → KeepsZones old new → AreNoted new n tails → AreNoted old n tails
noted-before old new zero tails kept at_first = at_first
noted-before old new (suc n) tails kept (one_more {tails = before} are notes) = one_more (noted-before old new n before kept are) (notes-kept old new n before tails kept notes)

pub tails-before : (old new : DriveState) (tails : List ForeignTail) → KeepsZones old new → AreTails new tails → AreTails old tails
tails-before old new tails kept are =
    subst (λ (n : ℕ). AreNoted old n tails) (length-closing old.zones new.zones kept.closing) (noted-before old new (length new.zones) tails kept are)

pub note-more : (drive : DriveState) (n : ℕ) (tails after : List ForeignTail) → AreNoted drive n tails → NotesTail drive n tails after → AreNoted drive (n + 1) after
note-more drive n tails after are notes = let next : suc n ≡ n + 1 = omega arith in subst (λ (m : ℕ). AreNoted drive m after) next (one_more are notes)

pub all-noted : (drive : DriveState) (n : ℕ) (tails : List ForeignTail) → length drive.zones ≡ n → AreNoted drive n tails → AreTails drive tails
all-noted drive n tails is are = subst (λ (m : ℕ). AreNoted drive m tails) (sym is) are

-- ---- what a repair keeps

pub known-still : (old new : DriveState) (zones : List ReportedZone) → KeepsZones old new → AreKnown old zones → AreKnown new zones
known-still old new zones kept known = record {
  geometry = rw kept.geometry known.geometry;
  lawful = kept.lawful;
  count = known.count ∙ sym (length-closing old.zones new.zones kept.closing);
  each = λ zone r there. kept-known old new zone r kept (known.each zone r there);
}

-- the batches of a zone end where they did, while another one goes on
pub ends-beside : (old new : DriveState) (zone blocks to : ℕ) → Extends old new to → (to ≡ zone → ⊥) → BatchesEnd old zone blocks → BatchesEnd new zone blocks
ends-beside old new zone blocks to extends apart ends =
    let same : readable_at new zone ≡ readable_at old zone = rw (extends.geometry, extends.others zone (λ is. apart (sym is))) refl in
    record {
      log = ends.log;
      rest = ends.rest;
      front = rw (extends.geometry, extends.others zone (λ is. apart (sym is))) ends.front;
      no_more = rw extends.geometry ends.no_more;
      size = ends.size;
    }

pub moved-kept : (old new : DriveState) (zone blocks to : ℕ) → KeepsZones old new → HasCopy old zone blocks to → HasCopy new zone blocks to
moved-kept old new zone blocks to kept copy = record {
  there = omega (arith, copy.there, length-closing old.zones new.zones kept.closing);
  enough = omega (arith, copy.enough, ap length (same-blocks old new zone kept));
  long = omega (arith, copy.long, ap length (same-blocks old new to kept));
  is = λ offset lt.
      let one = copy.is offset (omega (arith, lt, ap length (same-blocks old new to kept))) in
      record {
        same = λ below. block-kept old new to offset kept ∙ one.same below ∙ sym (block-kept old new zone offset kept);
        zeros = λ past. ap is_zero (block-kept old new to offset kept) ∙ one.zeros past;
      };
}

pub same-contents : (old new : DriveState) → KeepsZones old new → SameContents old new
same-contents old new kept = record { geometry = kept.geometry; contents = kept-contents old new kept }

pub refused-same : {A : Type 0} (old new : DriveState) (result : Result A RepairFault) → KeepsZones old new → IfErr result (λ fault. may_change fault ≡ false → SameContents old new)
refused-same old new (Ok value) kept = tt
refused-same old new (Err fault) kept = λ refused. same-contents old new kept

pub no-items : {A : Type 0} (items : List A) → length items ≡ 0 → items ≡ []
no-items [] none = refl
no-items (x ∷ xs) none = absurd (omega (arith, none))

pub found-before : {A : Type 0} (old new : DriveState) (items : A → List ForeignTail) (result : Result A RepairFault) → KeepsZones old new → IfOk result (λ found. AreTails new (items found)) → IfOk result (λ found. AreTails old (items found))
found-before old new items (Ok found) kept are = tails-before old new (items found) kept are
found-before old new items (Err fault) kept are = are

-- ---- what a scan ends by

-- something foreign follows
pub foreign-ends : (drive : DriveState) (zone blocks : ℕ) (is_foreign : Bool) → not is_foreign ≡ false → EndsAt drive zone blocks is_foreign → LogEnds drive zone (Some blocks)
foreign-ends drive zone blocks true is ends = ends.log
foreign-ends drive zone blocks false is ends = absurd (cc)

pub ends-same : (drive : DriveState) (zone n blocks : ℕ) (is_foreign : Bool) → n ≡ blocks → EndsAt drive zone n is_foreign → BatchesEnd drive zone blocks
ends-same drive zone n blocks is_foreign same ends = subst (BatchesEnd drive zone) same ends.ends
