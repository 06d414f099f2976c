-- A drive that can be mounted is refused for nothing that it holds.
use Rattle.std.proofs.Common.{◌≡◌, ℕ, zero, suc, ◌<◌, ◌≤◌, ◌^◌, true, List, [], ◌∷◌, ◌++◌, length, take, drop, Option, Some, None, refl, sym, ap, ◌∙◌, append_assoc, inl, inr, arith}
use Rattle.std.specs.List.{AllByRecursion, flat_map}
use Rattle.std.specs.Ordering.{nat_cmp}
use Rattle.std.specs.BTreeSet.{insert_key}
use Rattle.std.proofs.lemmas.List.{drop_at, take_at}
use Rattle.zone_states.specs.declared.geometry.Geometry.{Geometry}
use Rattle.drive_port.specs.Contents.{Content, content_at, contents, is_full, is_usable, nothing}
use Rattle.drive_port.specs.Drive.{DriveState}
use Rattle.batch_log.specs.Ending.{Ending, ended, ending_of, failed, torn}
use Rattle.batch_log.specs.Header.{Heading, head_size, header_block}
use Rattle.batch_log.specs.Log.{Batch, BeginsWith, BeginsWithNoBatch, IsBatch, batch_blocks, data_count}
use Rattle.batch_log.proofs.EndingLaws.{never_fails, one_front, tail_none}
use Rattle.batch_log.proofs.HeaderLaws.{one_header}
use Rattle.drive_array.specs.Repair.{CanRepair}
use Rattle.drive_array.specs.ZoneLogs.{HasLog, drive_logs, readable, zone_log, zone_logs, zone_tails}
use Rattle.drive_array.specs.Spare.{cleared}
use Rattle.drive_array.proofs.AllLaws.{all-at}
use Rattle.drive_survey.specs.declared.fault.MountFault.{MountFault}
use Rattle.drive_survey.specs.declared.fault.MountFault.TheVariants.{Reserve, Limits, ZoneUnusable, Log, SequenceRepeated, BlockOutOfRange, TooManyPartial, NoSpare, Spent, Halted, OutOfMemory, TornZone, Damaged, Failed}
use Rattle.remount.specs.Mount.{CannotClear, CannotRepair, IsToMount, MountFails}
use Rattle.drive_survey.specs.Scan.{FailsBy, FailsFirst, HaveNoFault, ending_fault, heading_fault, log_fault, fault_or, seen_after, seen_with}
use Rattle.drive_survey.specs.Survey.{drive_size}
use Rattle.drive_survey.proofs.NextLaws.{fails-more}
use Rattle.drive_survey.proofs.SoundLaws.{sequences-sound}
use Rattle.drive_survey.proofs.TakeLaws.{or-none}

-- ---- batches that blocks begin with are the first of their log

same-batch : (b c : Batch) → c.heading ≡ b.heading → c.body ≡ b.body → c ≡ b
same-batch b c heading body =
    let made : Heading → List (List ℕ) → Batch = λ h bs. record { heading = h; body = bs } in
    ap (λ (h : Heading). made h c.body) heading ∙ ap (made b.heading) body

front-of : (size : ℕ) (log all : List Batch) (rest tail : List (List ℕ)) → size < 2 ^ 32 → AllByRecursion (IsBatch size) log → AllByRecursion (IsBatch size) all → BeginsWithNoBatch size tail
    → flat_map (batch_blocks size) log ++ rest ≡ flat_map (batch_blocks size) all ++ tail → (more : List Batch) × (all ≡ log ++ more)
front-of size [] all rest tail small are are' none e = (all, refl)
front-of size (b ∷ bs) [] rest tail small are are' none e =
    absurd (none b (flat_map (batch_blocks size) bs ++ rest) are.0 (sym e ∙ append_assoc (batch_blocks size b) (flat_map (batch_blocks size) bs) rest))
front-of size (b ∷ bs) (c ∷ cs) rest tail small are are' none e =
    let blocks = flat_map (batch_blocks size) bs in
    let blocks' = flat_map (batch_blocks size) cs in
    let after = blocks ++ rest in
    let after' = blocks' ++ tail in
    let group : (b.body ++ blocks) ++ rest ≡ b.body ++ after = append_assoc b.body blocks rest in
    let group' : (c.body ++ blocks') ++ tail ≡ c.body ++ after' = append_assoc c.body blocks' tail in
    let first : header_block size b.heading ≡ header_block size c.heading = cc in
    let others : (b.body ++ blocks) ++ rest ≡ (c.body ++ blocks') ++ tail = cc in
    let heading = one_header size b.heading c.heading small are.0.heading are'.0.heading first in
    let count : length c.body ≡ length b.body = are'.0.body ∙ sym (are.0.body ∙ ap (λ (h : Heading). data_count h.entries) heading) in
    let both : b.body ++ after ≡ c.body ++ after' = sym group ∙ others ∙ group' in
    let body : b.body ≡ c.body = sym (take_at b.body after (length b.body) refl) ∙ ap (take (length b.body)) both ∙ take_at c.body after' (length b.body) count in
    let left : after ≡ after' = sym (drop_at b.body after (length b.body) refl) ∙ ap (drop (length b.body)) both ∙ drop_at c.body after' (length b.body) count in
    let found = front-of size bs cs rest tail small are.1 are'.1 none left in
    (found.0, ap (λ (x : Batch). x ∷ cs) (same-batch b c (sym heading) (sym body)) ∙ ap (λ (xs : List Batch). b ∷ xs) found.1)

-- ---- no batch has a fault

fault-front : (seen : List ℕ) (log more : List Batch) → log_fault seen (log ++ more) ≡ None → log_fault seen log ≡ None
fault-front seen [] more e = refl
fault-front seen (b ∷ bs) more e =
    let parts = or-none (heading_fault seen b.heading) (log_fault (insert_key nat_cmp seen b.heading.sequence) (bs ++ more)) e in
    ap (λ (f : Option MountFault). fault_or f (log_fault (insert_key nat_cmp seen b.heading.sequence) bs)) parts.0 ∙ fault-front (insert_key nat_cmp seen b.heading.sequence) bs more parts.1

none-at : (geometry : Geometry) (seen : List ℕ) (zones : List Content) (zone : ℕ) → zone < length zones → HaveNoFault seen (zone_logs geometry zones)
    → log_fault (seen_after seen (zone_logs geometry (take zone zones))) (zone_log geometry (content_at zones zone)) ≡ None
none-at geometry seen [] zone lt none = absurd (omega arith)
none-at geometry seen (z ∷ zs) zero lt none = none.0
none-at geometry seen (z ∷ zs) (suc zone) lt none = none-at geometry (seen_with seen (zone_log geometry z)) zs zone (omega arith) none.1

-- a zone that holds a log ends at no fault
ends-fine : (geometry : Geometry) (content : Content) (zone offset : ℕ) (log : List Batch) (rest : List (List ℕ)) (fault : MountFault) → head_size ≤ geometry.block → geometry.block < 2 ^ 32 → HasLog geometry content → BeginsWith geometry.block (readable geometry content) log rest
    → BeginsWithNoBatch geometry.block rest → ending_fault zone offset (ending_of (is_full content.usage) rest) ≡ Some fault → ⊥
ends-fine geometry content zone offset log rest fault long small is front none fails = by (ending_of (is_full content.usage) rest) refl fails
  where
    by : (e : Ending) → ending_of (is_full content.usage) rest ≡ e → ending_fault zone offset e ≡ Some fault → ⊥
    by ended x f = absurd (cc)
    by torn x f = absurd (cc)
    by (failed cause) x f =
        let same = one_front geometry.block log (zone_log geometry content) rest is.tail small front.batches is.front.batches none (tail_none geometry.block (is_full content.usage) is.tail small is.end) (sym front.encoded ∙ is.front.encoded) in
        never_fails geometry.block (is_full content.usage) is.tail cause long small is.end (ap (ending_of (is_full content.usage)) same.tail_is ∙ x)

none-first : (drive : DriveState) (n : ℕ) (fault : MountFault) → IsToMount drive n → FailsFirst drive.geometry (contents drive.zones) fault → ⊥
none-first drive n fault can fails =
    let geometry = drive.geometry in
    let zones = contents drive.zones in
    let content = content_at zones fails.zone in
    let small = can.mountable.lawful.geometry.block in
    let disk = can.mountable.holds.disk in
    let long : head_size ≤ geometry.block = elim can.geometry.block as (λ _. head_size ≤ geometry.block) [ inl e ↦ omega (arith, e) | inr e ↦ omega (arith, e) ] in
    let is = all-at (HasLog geometry) zones fails.zone nothing disk.logs fails.in_range in
    let none = none-at geometry [] zones fails.zone fails.in_range (sequences-sound (zone_logs geometry zones) (record { numbers = disk.sound.numbers; distinct = disk.sound.distinct })) in
    let f = fails.fails in
    elim f.first as (λ _. ⊥) [
      | inl bad ↦ (
          let found = front-of geometry.block f.log (zone_log geometry content) f.rest is.tail small f.front.batches is.front.batches (tail_none geometry.block (is_full content.usage) is.tail small is.end) (sym f.front.encoded ∙ is.front.encoded) in
          let fine = fault-front (seen_after [] (zone_logs geometry (take fails.zone zones))) f.log found.0 (rw found.1 at none) in
          absurd (cc)
          )
      | inr ends ↦ ends-fine geometry content fails.zone _ f.log f.rest fault long small is f.front ends.1 ends.2
    ]

-- ---- the drive

repairs-fine : (drive : DriveState) (n : ℕ) (resets : List ℕ) (fault : MountFault) → CanRepair drive.geometry (2 ^ 63) (drive_size drive n) (cleared (drive_logs drive) resets) (zone_tails (contents drive.zones))
    → CannotRepair drive.geometry (drive_size drive n) (cleared (drive_logs drive) resets) (zone_tails (contents drive.zones)) fault → ⊥
repairs-fine drive n resets (TornZone zone) can cannot = elim cannot.why as (λ _. ⊥) [
  | inl two ↦ absurd (omega (arith, can.one zone two.0 cannot.torn two.2, two.1))
  | inr long ↦ absurd (omega (arith, (can.fits zone cannot.torn).room, long))
]
repairs-fine drive n resets Spent can cannot = cannot.lacks (can.fits cannot.zone cannot.torn.torn).numbers
repairs-fine drive n resets Reserve can cannot = cannot
repairs-fine drive n resets Limits can cannot = cannot
repairs-fine drive n resets (ZoneUnusable zone) can cannot = cannot
repairs-fine drive n resets (Log zone offset cause) can cannot = cannot
repairs-fine drive n resets SequenceRepeated can cannot = cannot
repairs-fine drive n resets BlockOutOfRange can cannot = cannot
repairs-fine drive n resets TooManyPartial can cannot = cannot
repairs-fine drive n resets NoSpare can cannot = cannot
repairs-fine drive n resets Halted can cannot = cannot
repairs-fine drive n resets OutOfMemory can cannot = cannot
repairs-fine drive n resets Damaged can cannot = cannot
repairs-fine drive n resets Failed can cannot = cannot

clears-fine : (drive : DriveState) (n : ℕ) (fault : MountFault) → IsToMount drive n → CannotClear drive n fault → ⊥
clears-fine drive n fault can cannot = repairs-fine drive n cannot.0 fault (can.mountable.holds.repair cannot.0 cannot.1) cannot.2

-- a drive that is to be mounted has no fault for which a mount refuses it
not-refused : (drive : DriveState) (n : ℕ) (fault : MountFault) → IsToMount drive n → MountFails drive n fault → ⊥
not-refused drive n Limits can fails = fails can.geometry
not-refused drive n Reserve can fails = elim fails.1 as (λ _. ⊥) [
  | inl given ↦ given can.reserve
  | inr size ↦ size.2 can.mountable.holds.disk.reserve
]
not-refused drive n (ZoneUnusable zone) can fails =
    let usable = all-at (λ (c : Content). is_usable c.usage ≡ true) (contents drive.zones) zone nothing can.mountable.holds.disk.usable fails.2.in_range in
    let unusable = fails.2.unusable in absurd (cc)
not-refused drive n (Log zone offset cause) can fails = none-first drive n (Log zone offset cause) can fails.1
not-refused drive n SequenceRepeated can fails = none-first drive n SequenceRepeated can fails.1
not-refused drive n BlockOutOfRange can fails = fails.3 can.mountable.holds.disk.sound.inside
not-refused drive n TooManyPartial can fails = absurd (omega (arith, fails.3, can.mountable.holds.disk.few_partial))
not-refused drive n NoSpare can fails = fails.4 can.mountable.holds.disk.spare
not-refused drive n Spent can (inl met) = none-first drive n Spent can met.1
not-refused drive n Spent can (inr cannot) = clears-fine drive n Spent can cannot.2
not-refused drive n Halted can fails = fails
not-refused drive n OutOfMemory can fails = fails
not-refused drive n Damaged can fails = fails
not-refused drive n Failed can fails = fails
not-refused drive n (TornZone zone) can fails = clears-fine drive n (TornZone zone) can fails.2

-- a mount of it ends early only by a stop or a failed allocation
pub only-halts : (drive new : DriveState) (n : ℕ) (fault : MountFault) → IsToMount drive n → FailsBy (MountFails drive n) new fault → FailsBy (λ _. ⊥) new fault
only-halts drive new n fault can fails = fails-more (MountFails drive n) (λ _. ⊥) new fault (λ f bad. not-refused drive n f can bad) fails
