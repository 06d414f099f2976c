-- What is at the block where the next batch of a zone may begin.
use Rattle.std.proofs.Common.{◌≡◌, ℕ, ◌+◌, ◌*◌, ◌<◌, ◌≤◌, ◌^◌, ◌⊎◌, inl, inr, not, ◌&&◌, nat_lt, Bool, true, false, List, [], ◌∷◌, length, drop, map, Option, Some, None, Result, Ok, Err, refl, sym, ap, subst, ◌∙◌, arith}
use Rattle.std.specs.Prelude.{IfErr, IfOk, OnOk}
use Rattle.std.specs.Result.{IsErrAnd}
use Rattle.std.proofs.lemmas.Bool.{lt-ltb}
use Rattle.std.proofs.lemmas.List.{drop_more, drop_all, length-append, length-drop, length-map}
use Rattle.zone_states.specs.declared.geometry.Geometry.{Geometry}
use Rattle.drive_port.specs.Contents.{Content, content_at, contents, is_full, usage_of}
use Rattle.drive_port.specs.Drive.{DriveState}
use Rattle.batch_log.specs.declared.fault.LogFault.TheVariants.{Torn}
use Rattle.batch_log.specs.Causes.{header_fault}
use Rattle.batch_log.specs.Header.{Heading, IsHeaderBlock}
use Rattle.batch_log.specs.Ending.{Ending, failed, ending_of}
use Rattle.batch_log.specs.Log.{BeginsWithNoBatch, IsTail, data_count}
use Rattle.drive_survey.specs.declared.fault.MountFault.{MountFault}
use Rattle.drive_survey.specs.declared.reported.ReportedZone.{ReportedZone}
use Rattle.drive_survey.specs.Heads.{HeadsView, kept_entry, with_heading}
use Rattle.drive_survey.specs.Reported.{IsKnown, KeepsZones}
use Rattle.drive_survey.specs.Scan.{EndsZone, FailsBy, FailsIn, MeetsHeader, Scans, Takes, TakesNext, block_of, readable_at, ending_fault}
use Rattle.drive_survey.proofs.ReadLaws.{kept-blocks, kept-contents, known-few}
use Rattle.drive_survey.proofs.TakeLaws.{short-begins, takes-all, takes-bad, takes-fault, takes-more}

-- ---- faults

-- a failure by one kind of fault is a failure by each kind that includes it
pub fails-more : (P Q : MountFault → Type 0) (drive : DriveState) (fault : MountFault) → ((f : MountFault) → P f → Q f) → FailsBy P drive fault → FailsBy Q drive fault
fails-more P Q drive fault more (inl memory) = inl memory
fails-more P Q drive fault more (inr (inl halted)) = inr (inl halted)
fails-more P Q drive fault more (inr (inr first)) = inr (inr (more fault first))

-- ---- the block

-- the readable blocks from a place on are the block there and the blocks after it
zone-split : (drive : DriveState) (zone offset : ℕ) (reported : ReportedZone) (block : List ℕ) → IsKnown drive zone reported → offset < reported.blocks → block ≡ block_of drive zone offset
    → drop offset (readable_at drive zone) ≡ block ∷ drop (offset + 1) (readable_at drive zone)
zone-split drive zone offset reported block known lt is = rw is (drop_more (readable_at drive zone) offset [] (omega (arith, lt, known.blocks)))

zone-full : (drive : DriveState) (zone : ℕ) (reported : ReportedZone) → IsKnown drive zone reported → is_full (content_at (contents drive.zones) zone).usage ≡ is_full (usage_of reported.state)
zone-full drive zone reported known = rw known.usage refl

-- ---- a header block is there

heading-few : (drive : DriveState) (zone : ℕ) (reported : ReportedZone) (block : List ℕ) (heading : Heading) → IsKnown drive zone reported → length block ≡ drive.geometry.block → IsHeaderBlock (length block) block heading → length heading.entries ≤ 508
heading-few drive zone reported block heading known long header = at known.geometry.block
  where
    at : (drive.geometry.block ≡ 512) ⊎ (drive.geometry.block ≡ 4096) → length heading.entries ≤ 508
    at (inl b) = let room = rw (long, b) at header.says.room in omega (arith, room)
    at (inr b) = let room = rw (long, b) at header.says.room in omega (arith, room)

-- with one more header, the number of a zone's entries still fits 32 bits
pub meet-few : (drive : DriveState) (zone entries blocks : ℕ) (reported : ReportedZone) (block : List ℕ) (heading : Heading) → IsKnown drive zone reported → length block ≡ drive.geometry.block → IsHeaderBlock (length block) block heading
    → blocks < reported.blocks → entries ≤ 508 * blocks → entries + length heading.entries < 2 ^ 32
meet-few drive zone entries blocks reported block heading known long header lt few =
    omega (arith, heading-few drive zone reported block heading known long header, known-few drive zone reported known, known.geometry.capacity, known.geometry.size, lt, few)

-- after one more header, a zone has at most 508 entries for each block taken
pub met-few : (drive : DriveState) (zone : ℕ) (reported : ReportedZone) (block : List ℕ) (heading : Heading) (old new : HeadsView) (seen seen' : List ℕ) (result : Result (Option Bool) MountFault) → IsKnown drive zone reported
    → length block ≡ drive.geometry.block → IsHeaderBlock (length block) block heading → length old.entries ≤ 508 * old.blocks → MeetsHeader zone reported old seen heading result new seen' → OnOk result (length new.entries ≤ 508 * new.blocks)
met-few drive zone reported block heading old new seen seen' (Ok None) known long header few met =
    let long' : length (with_heading old heading).entries ≡ length old.entries + length heading.entries = length-append old.entries (map kept_entry heading.entries) ∙ omega (arith, length-map heading.entries kept_entry) in
    rw met.2 (omega (arith, long', few, heading-few drive zone reported block heading known long header))
met-few drive zone reported block heading old new seen seen' (Ok (Some t)) known long header few met = rw met.3 few
met-few drive zone reported block heading old new seen seen' (Err fault) known long header few met = tt

-- what is known where a header block is at the next place
pub record Meets (drive : DriveState) (zone : ℕ) (reported : ReportedZone) (heads : HeadsView) (block : List ℕ) (heading : Heading) : Type 0 where
  pub known : IsKnown drive zone reported
  pub in_range : heads.blocks < reported.blocks
  pub block_is : block ≡ block_of drive zone heads.blocks
  pub long : length block ≡ drive.geometry.block
  pub header : IsHeaderBlock (length block) block heading
  pub sound : header_fault block ≡ None

left-over : (drive : DriveState) (zone offset : ℕ) (reported : ReportedZone) → IsKnown drive zone reported → offset < reported.blocks → length (drop (offset + 1) (readable_at drive zone)) + offset + 1 ≡ reported.blocks
left-over drive zone offset reported known lt = omega (arith, length-drop (offset + 1) (readable_at drive zone), known.blocks, lt)

small : (drive : DriveState) (zone : ℕ) (reported : ReportedZone) → IsKnown drive zone reported → drive.geometry.block < 2 ^ 32
small drive zone reported known = at known.geometry.block
  where
    at : (drive.geometry.block ≡ 512) ⊎ (drive.geometry.block ≡ 4096) → drive.geometry.block < 2 ^ 32
    at (inl b) = omega (arith, b)
    at (inr b) = omega (arith, b)

-- a torn tail: a header block, and fewer blocks than its entries need
torn-tail : (drive : DriveState) (zone : ℕ) (reported : ReportedZone) (block : List ℕ) (others : List (List ℕ)) (heading : Heading) → is_full (content_at (contents drive.zones) zone).usage ≡ false → IsHeaderBlock drive.geometry.block block heading → length others < data_count heading.entries
    → IsTail drive.geometry.block (is_full (content_at (contents drive.zones) zone).usage) (block ∷ others)
torn-tail drive zone reported block others heading full header few = rw full (inr (record { heading = heading; body = others; says = header.says; few = few; encoded = ap (λ (b : List ℕ). b ∷ others) header.encoded }))

-- a header that is met leads to one more batch, or to the end of the zone
met-next : (drive : DriveState) (zone : ℕ) (reported : ReportedZone) (block : List ℕ) (heading : Heading) (old new : HeadsView) (before seen seen' : List ℕ) (next : Option Bool) → Meets drive zone reported old block heading
    → MeetsHeader zone reported old seen heading (Ok next) new seen' → Takes drive.geometry (content_at (contents drive.zones) zone) before old seen
    → TakesNext drive.geometry (content_at (contents drive.zones) zone) before old next new seen'
met-next drive zone reported block heading old new before seen seen' None m met takes =
    let split = zone-split drive zone old.blocks reported block m.known m.in_range m.block_is in
    let left = left-over drive zone old.blocks reported m.known m.in_range in
    let header : IsHeaderBlock drive.geometry.block block heading = rw m.long at m.header in
    let enough : data_count heading.entries ≤ length (drop (old.blocks + 1) (readable_at drive zone)) = omega (arith, left, met.0) in
    let more = takes-more drive.geometry (content_at (contents drive.zones) zone) before seen old block (drop (old.blocks + 1) (readable_at drive zone)) heading split header enough met.1 takes in
    rw (met.2, met.3) (more, omega arith)
met-next drive zone reported block heading old new before seen seen' (Some t) m met takes =
    let split = zone-split drive zone old.blocks reported block m.known m.in_range m.block_is in
    let left = left-over drive zone old.blocks reported m.known m.in_range in
    let header : IsHeaderBlock drive.geometry.block block heading = rw m.long at m.header in
    let few : length (drop (old.blocks + 1) (readable_at drive zone)) < data_count heading.entries = omega (arith, left, met.0) in
    let full : is_full (content_at (contents drive.zones) zone).usage ≡ false = zone-full drive zone reported m.known ∙ met.1 in
    let tail = torn-tail drive zone reported block (drop (old.blocks + 1) (readable_at drive zone)) heading full header few in
    let told : true ≡ (not (is_full (content_at (contents drive.zones) zone).usage) && nat_lt 0 (length (drop old.blocks (readable_at drive zone)))) =
    sym (ap (λ (f : Bool). not f && nat_lt 0 (length (drop old.blocks (readable_at drive zone)))) full ∙ ap (λ (xs : List (List ℕ)). nat_lt 0 (length xs)) split ∙ lt-ltb 0 (length (block ∷ drop (old.blocks + 1) (readable_at drive zone))) (omega arith)) in
    rw (met.2, met.3, met.4) (takes-all drive.geometry (content_at (contents drive.zones) zone) before seen old true (small drive zone reported m.known) (rw split tail) told takes)

-- a fault at a header is the zone's first, unless memory ran out
met-fails : (drive new-drive : DriveState) (zone : ℕ) (reported : ReportedZone) (block : List ℕ) (heading : Heading) (old new : HeadsView) (seen seen' : List ℕ) (fault : MountFault) → Meets drive zone reported old block heading
    → MeetsHeader zone reported old seen heading (Err fault) new seen'
    → FailsBy (λ f. (before : List ℕ) → Takes drive.geometry (content_at (contents drive.zones) zone) before old seen → FailsIn drive.geometry (content_at (contents drive.zones) zone) zone before f) new-drive fault
met-fails drive new-drive zone reported block heading old new seen seen' fault m (inl memory) = inl memory
met-fails drive new-drive zone reported block heading old new seen seen' fault m (inr (inl batch)) =
    let split = zone-split drive zone old.blocks reported block m.known m.in_range m.block_is in
    let left = left-over drive zone old.blocks reported m.known m.in_range in
    let header : IsHeaderBlock drive.geometry.block block heading = rw m.long at m.header in
    let enough : data_count heading.entries ≤ length (drop (old.blocks + 1) (readable_at drive zone)) = omega (arith, left, batch.0) in
    inr (inr (λ before takes. takes-fault drive.geometry (content_at (contents drive.zones) zone) zone before seen old block (drop (old.blocks + 1) (readable_at drive zone)) heading fault split header enough batch.1 takes))
met-fails drive new-drive zone reported block heading old new seen seen' fault m (inr (inr short)) =
    let split = zone-split drive zone old.blocks reported block m.known m.in_range m.block_is in
    let left = left-over drive zone old.blocks reported m.known m.in_range in
    let header : IsHeaderBlock drive.geometry.block block heading = rw m.long at m.header in
    let few : length (drop (old.blocks + 1) (readable_at drive zone)) < data_count heading.entries = omega (arith, left, short.0) in
    let none : BeginsWithNoBatch drive.geometry.block (drop old.blocks (readable_at drive zone)) = rw split (short-begins drive.geometry.block block (drop (old.blocks + 1) (readable_at drive zone)) heading (small drive zone reported m.known) header few) in
    let is : failed Torn ≡ ending_of (is_full (content_at (contents drive.zones) zone).usage) (drop old.blocks (readable_at drive zone)) = rw (split, zone-full drive zone reported m.known, m.sound, short.1) refl in
    inr (inr (λ before takes. takes-bad drive.geometry (content_at (contents drive.zones) zone) zone before seen old (failed Torn) fault none is (rw short.2 refl) takes))

-- ---- the ends

untorn-told : (full : Bool) (tail : List (List ℕ)) → (full ≡ true) ⊎ (tail ≡ []) → false ≡ (not full && nat_lt 0 (length tail))
untorn-told full tail (inl is) = rw is refl
untorn-told true tail (inr none) = refl
untorn-told false tail (inr none) = rw none refl

-- the batches end in a Full zone
ended-next : (drive : DriveState) (zone : ℕ) (reported : ReportedZone) (heads : HeadsView) (before seen : List ℕ) → IsKnown drive zone reported → is_full (content_at (contents drive.zones) zone).usage ≡ true
    → IsTail drive.geometry.block (is_full (content_at (contents drive.zones) zone).usage) (drop heads.blocks (readable_at drive zone))
    → Takes drive.geometry (content_at (contents drive.zones) zone) before heads seen → Scans drive.geometry (content_at (contents drive.zones) zone) before heads false seen
ended-next drive zone reported heads before seen known full tail takes =
    takes-all drive.geometry (content_at (contents drive.zones) zone) before seen heads false (small drive zone reported known) tail (untorn-told (is_full (content_at (contents drive.zones) zone).usage) (drop heads.blocks (readable_at drive zone)) (inl full)) takes

-- a fault at which the batches end is the first of the zone
bad-next : (drive : DriveState) (zone : ℕ) (heads : HeadsView) (seen : List ℕ) (fault : MountFault) → ((ending : Ending) × EndsZone drive zone heads.blocks ending × (ending_fault zone heads.blocks ending ≡ Some fault))
    → (before : List ℕ) → Takes drive.geometry (content_at (contents drive.zones) zone) before heads seen → FailsIn drive.geometry (content_at (contents drive.zones) zone) zone before fault
bad-next drive zone heads seen fault ends before takes = takes-bad drive.geometry (content_at (contents drive.zones) zone) zone before seen heads ends.0 fault ends.1.no_more ends.1.ending_is ends.2 takes

-- all readable blocks are batches
no-tail : (size : ℕ) (full : Bool) → IsTail size full []
no-tail size true = refl
no-tail size false = inl refl

-- a zone whose readable blocks are all in batches is scanned, with no torn tail
pub all-next : (drive : DriveState) (zone : ℕ) (reported : ReportedZone) (heads : HeadsView) (before seen : List ℕ) → IsKnown drive zone reported → reported.blocks ≤ heads.blocks → Takes drive.geometry (content_at (contents drive.zones) zone) before heads seen
    → Scans drive.geometry (content_at (contents drive.zones) zone) before heads false seen
all-next drive zone reported heads before seen known le takes =
    let none : drop heads.blocks (readable_at drive zone) ≡ [] = drop_all heads.blocks (readable_at drive zone) (omega (arith, le, known.blocks)) in
    takes-all drive.geometry (content_at (contents drive.zones) zone) before seen heads false (small drive zone reported known) (rw none (no-tail drive.geometry.block (is_full (content_at (contents drive.zones) zone).usage)))
    (untorn-told (is_full (content_at (contents drive.zones) zone).usage) (drop heads.blocks (readable_at drive zone)) (inr none)) takes

-- ---- as the code has them

-- a header block without a fault, read at the next place, is met there
pub meets : (drive : DriveState) (zone offset : ℕ) (reported : ReportedZone) (heads : HeadsView) (items block : List ℕ) (heading : Heading) → IsKnown drive zone reported → heads.blocks < reported.blocks → offset ≡ heads.blocks
    → items ≡ block_of drive zone offset → length items ≡ drive.geometry.block → block ≡ items → IsHeaderBlock (length block) block heading → header_fault block ≡ None → Meets drive zone reported heads block heading
meets drive zone offset reported heads items block heading known lt at read long same header sound =
    record { known = known; in_range = lt; block_is = same ∙ read ∙ ap (λ (n : ℕ). block_of drive zone n) at; long = ap length same ∙ long; header = header; sound = sound }

-- an Ok answer at a header tells of one more batch, or of the zone's end
pub met-ok : (drive : DriveState) (zone : ℕ) (reported : ReportedZone) (block : List ℕ) (heading : Heading) (old new : HeadsView) (seen seen' : List ℕ) (result : Result (Option Bool) MountFault) → Meets drive zone reported old block heading
    → MeetsHeader zone reported old seen heading result new seen'
    → IfOk result (λ next. (before : List ℕ) → Takes drive.geometry (content_at (contents drive.zones) zone) before old seen → TakesNext drive.geometry (content_at (contents drive.zones) zone) before old next new seen')
met-ok drive zone reported block heading old new seen seen' (Ok next) m met = λ before takes. met-next drive zone reported block heading old new before seen seen' next m met takes
met-ok drive zone reported block heading old new seen seen' (Err fault) m met = tt

-- an Err answer at a header is the zone's first fault, unless memory ran out
pub met-err : (drive new-drive : DriveState) (zone : ℕ) (reported : ReportedZone) (block : List ℕ) (heading : Heading) (old new : HeadsView) (seen seen' : List ℕ) (result : Result (Option Bool) MountFault) → Meets drive zone reported old block heading
    → MeetsHeader zone reported old seen heading result new seen'
    → IfErr result (FailsBy (λ f. (before : List ℕ) → Takes drive.geometry (content_at (contents drive.zones) zone) before old seen → FailsIn drive.geometry (content_at (contents drive.zones) zone) zone before f) new-drive)
met-err drive new-drive zone reported block heading old new seen seen' (Ok next) m met = tt
met-err drive new-drive zone reported block heading old new seen seen' (Err fault) m met = met-fails drive new-drive zone reported block heading old new seen seen' fault m met

-- batches that end after a look at the drive ended there before it, too
ends-kept : (old new : DriveState) (zone offset other : ℕ) (ending : Ending) → KeepsZones old new → offset ≡ other → EndsZone new zone offset ending → EndsZone old zone other ending
ends-kept old new zone offset other ending kept at ends =
    let same = kept-contents old new kept in
    let h : EndsZone new zone other ending = rw at at ends in
    record { no_more = rw (kept.geometry, same) at h.no_more; ending_is = rw (kept.geometry, same) at h.ending_is }

-- a fault where the batches end, found after a look, is the zone's first, or an interruption
pub bad-kept : (old new last : DriveState) (zone offset : ℕ) (heads : HeadsView) (seen : List ℕ) (fault : MountFault) → KeepsZones old new → offset ≡ heads.blocks
    → FailsBy (λ f. (ending : Ending) × EndsZone new zone offset ending × (ending_fault zone offset ending ≡ Some f)) last fault
    → FailsBy (λ f. (before : List ℕ) → Takes old.geometry (content_at (contents old.zones) zone) before heads seen → FailsIn old.geometry (content_at (contents old.zones) zone) zone before f) last fault
bad-kept old new last zone offset heads seen fault kept at fails = fails-more _ _ last fault more fails
  where
    more : (f : MountFault) → ((ending : Ending) × EndsZone new zone offset ending × (ending_fault zone offset ending ≡ Some f))
        → (before : List ℕ) → Takes old.geometry (content_at (contents old.zones) zone) before heads seen → FailsIn old.geometry (content_at (contents old.zones) zone) zone before f
    more f ends before takes =
        let there = ends-kept old new zone offset heads.blocks ends.0 kept at ends.1 in
        bad-next old zone heads seen f (ends.0, there, rw at at ends.2) before takes

-- a fault that is handed on
pub if-fault : {V : Type 0} (r : Result V MountFault) (fault : MountFault) (P : MountFault → Type 0) → IsErrAnd r (λ f. f ≡ fault) → P fault → IfErr r P
if-fault (Ok value) fault P handed p = tt
if-fault (Err f) fault P handed p = rw handed p

-- the scan of a Full zone is complete, without a torn tail, once only zeros are left
pub end-ok : (old new : DriveState) (zone offset : ℕ) (reported : ReportedZone) (heads : HeadsView) (before seen : List ℕ) → KeepsZones old new → IsKnown old zone reported → offset ≡ heads.blocks → is_full (usage_of reported.state) ≡ true
    → IsTail new.geometry.block (is_full (content_at (contents new.zones) zone).usage) (drop offset (readable_at new zone))
    → Takes old.geometry (content_at (contents old.zones) zone) before heads seen → Scans old.geometry (content_at (contents old.zones) zone) before heads false seen
end-ok old new zone offset reported heads before seen kept known at full tail takes =
    let same = kept-contents old new kept in
    let blocks = kept-blocks old new zone kept in
    let there : IsTail old.geometry.block (is_full (content_at (contents old.zones) zone).usage) (drop heads.blocks (readable_at old zone)) =
    subst (λ (n : ℕ). IsTail old.geometry.block (is_full (content_at (contents old.zones) zone).usage) (drop n (readable_at old zone))) at
    (subst (λ (bs : List (List ℕ)). IsTail old.geometry.block (is_full (content_at (contents old.zones) zone).usage) (drop offset bs)) blocks
    (subst (λ (x : List Content). IsTail old.geometry.block (is_full (content_at x zone).usage) (drop offset (readable_at new zone))) same
    (subst (λ (x : Geometry). IsTail x.block (is_full (content_at (contents new.zones) zone).usage) (drop offset (readable_at new zone))) kept.geometry tail))) in
    ended-next old zone reported heads before seen known (zone-full old zone reported known ∙ full) there takes
