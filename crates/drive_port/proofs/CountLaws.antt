-- How many zones a report names, and when that tells that all are Empty.
use Rattle.std.proofs.Common.{◌≡◌, ℕ, ◌+◌, ◌<◌, ◌≤◌, ◌^◌, ◌↔◌, Bool, true, false, cond, if◌then◌else◌, List, [], ◌∷◌, length, refl, sym, ap, ◌∙◌, inl, inr, arith}
use Rattle.std.specs.List.{AllByRecursion}
use Rattle.std.proofs.Math.Nat.{zero-div}
use Rattle.std.proofs.lemmas.List.{nil_from_length}
use Rattle.std.proofs.lemmas.List.Sums.{count_by-le-length, sum_by-cons}
use Rattle.nvme_wire.specs.Descriptor.{report_head_bytes}
use Rattle.nvme_wire.specs.declared.command.ReportingOptions.{ReportingOptions}
use Rattle.nvme_wire.specs.declared.command.ReportingOptions.TheVariants.{InState}
use Rattle.nvme_wire.specs.declared.descriptor.Descriptor.{Descriptor}
use Rattle.nvme_wire.specs.declared.zone_state.ZoneState.{ZoneState}
use Rattle.nvme_wire.specs.declared.zone_state.ZoneState.TheVariants.{Empty, ImplicitlyOpened, ExplicitlyOpened, Closed, ReadOnly, Full, Offline}
use Rattle.zone_states.specs.declared.geometry.Geometry.{Geometry}
use Rattle.zone_states.specs.Zone.{Zone, MayHold, IsLawfulZone}
use Rattle.zone_report.specs.Report.{descriptor_of, is_chosen, matching, report, zone_status}
use Rattle.drive_port.specs.Drive.{DriveState, ClosesOne, IsClosing, IsLawful}
use Rattle.drive_port.specs.Contents.{AreEmpty, Content, content_of, contents, empty, emptied, usage_of}
use Rattle.drive_port.specs.Calls.{Counted, Reported, chosen_count}
use Rattle.drive_port.proofs.ClosingLaws.{length-closing}

-- ---- the number in the head

one_more : (chosen : Bool) (d : Descriptor) (ds : List Descriptor) (n : ℕ) → length ds ≡ n → length (if chosen then d ∷ ds else ds) ≡ cond chosen 1 0 + n
one_more true d ds n e = omega (arith, e)
one_more false d ds n e = omega (arith, e)

length-matching : (geometry : Geometry) (options : ReportingOptions) (number : ℕ) (zones : List Zone) → length (matching geometry options number zones) ≡ chosen_count options zones
length-matching geometry options number [] = refl
length-matching geometry options number (z ∷ zs) =
    one_more (is_chosen options z.state) (descriptor_of geometry number (zone_status z)) (matching geometry options (number + 1) zs) (chosen_count options zs)
    (length-matching geometry options (number + 1) zs)
    ∙ sym (sum_by-cons (λ (zone : Zone). cond (is_chosen options zone.state) 1 0) z zs)

-- a report that has room only for its head
report-head : (geometry : Geometry) (options : ReportingOptions) (zones : List Zone) → report geometry zones 0 options false 16 ≡ report_head_bytes (record { zones = chosen_count options zones })
report-head geometry options zones = rw (zero-div geometry.size, length-matching geometry options 0 zones) refl

-- a report with room only for its head is the head, which has the number of the chosen zones
pub reported-head : (old new : DriveState) (options : ReportingOptions) (bytes : List ℕ) → (r : Reported old new 0 options false 16 bytes)
    → bytes ≡ report_head_bytes (record { zones = chosen_count options r.zones })
reported-head old new options bytes r = r.bytes_are ∙ report-head old.geometry options r.zones

-- this number fits 64 bits
pub chosen-fits : (old : DriveState) (options : ReportingOptions) (zones : List Zone) → IsLawful old → IsClosing old.zones zones → chosen_count options zones < 2 ^ 64
chosen-fits old options zones lawful closing =
    omega (arith, count_by-le-length (λ (zone : Zone). is_chosen options zone.state) zones, length-closing old.zones zones closing, lawful.count, lawful.geometry.zones)

-- so the number that was read counts them
pub reported-counts : (old new : DriveState) (options : ReportingOptions) (bytes : List ℕ) (number : ℕ) → (r : Reported old new 0 options false 16 bytes)
    → number ≡ chosen_count options r.zones → Counted old new options number
reported-counts old new options bytes number r is = record { geometry = r.geometry; counts = r.counts; zones = r.zones; before = r.before; number_is = is; after = r.after }

-- ---- zones that are Empty

is_empty : (state : ZoneState) → is_chosen (InState Empty) state ≡ true → state ≡ Empty
is_empty Empty e = refl
is_empty ImplicitlyOpened e = absurd (cc e)
is_empty ExplicitlyOpened e = absurd (cc e)
is_empty Closed e = absurd (cc e)
is_empty ReadOnly e = absurd (cc e)
is_empty Full e = absurd (cc e)
is_empty Offline e = absurd (cc e)

unused : (state : ZoneState) → usage_of state ≡ empty → state ≡ Empty
unused Empty e = refl
unused ImplicitlyOpened e = absurd (cc e)
unused ExplicitlyOpened e = absurd (cc e)
unused Closed e = absurd (cc e)
unused ReadOnly e = absurd (cc e)
unused Full e = absurd (cc e)
unused Offline e = absurd (cc e)

-- a closing makes no zone Empty, and changes none that is
was_empty : (z y : Zone) → ClosesOne z y → y.state ≡ Empty → z.state ≡ Empty
was_empty z y one e =
    elim one.state [
      | inl same ↦ sym same ∙ e
      | inr closed ↦ absurd (cc (sym closed.1 ∙ e))
    ]

stays_empty : (z y : Zone) → ClosesOne z y → z.state ≡ Empty → y.state ≡ Empty
stays_empty z y one e =
    elim one.state [
      | inl same ↦ same ∙ e
      | inr closed ↦ absurd (cc (sym closed.0 ∙ e))
    ]

content-empty : (geometry : Geometry) (z : Zone) → IsLawfulZone geometry z → z.state ≡ Empty → content_of z ≡ emptied
content-empty geometry z lawful e =
    let none : MayHold Empty geometry.capacity (length z.blocks) = rw e at lawful.written in
    rw (e, nil_from_length z.blocks none) refl

-- ---- all zones

-- where all are counted, the first is, and so are the others
full_count : (first : Bool) (n m : ℕ) → cond first 1 0 + n ≡ 1 + m → n ≤ m → (first ≡ true) × (n ≡ m)
full_count true n m e le = (refl, omega (arith, e))
full_count false n m e le = absurd (omega (arith, e, le))

all_empty : (geometry : Geometry) (old zones : List Zone) → AllByRecursion (IsLawfulZone geometry) old → IsClosing old zones
    → chosen_count (InState Empty) zones ≡ length zones → AreEmpty (contents old)
all_empty geometry [] [] lawful closing e = tt
all_empty geometry (z ∷ zs) (y ∷ ys) lawful closing e =
    let chosen = λ (zone : Zone). is_chosen (InState Empty) zone.state in
    let sum = sum_by-cons (λ (zone : Zone). cond (is_chosen (InState Empty) zone.state) 1 0) y ys in
    let parts = full_count (chosen y) (chosen_count (InState Empty) ys) (length ys) (omega (arith, sum, e)) (count_by-le-length chosen ys) in
    (content-empty geometry z lawful.0 (was_empty z y closing.0 (is_empty y.state parts.0)), all_empty geometry zs ys lawful.1 closing.1 parts.1)
all_empty geometry [] (y ∷ ys) lawful closing e = absurd closing
all_empty geometry (z ∷ zs) [] lawful closing e = absurd closing

empty_all : (old zones : List Zone) → IsClosing old zones → AreEmpty (contents old) → chosen_count (InState Empty) zones ≡ length zones
empty_all [] [] closing all = refl
empty_all (z ∷ zs) (y ∷ ys) closing all =
    let state = stays_empty z y closing.0 (unused z.state (ap (λ (c : Content). c.usage) all.0)) in
    let one : cond {A = ℕ} (is_chosen (InState Empty) y.state) 1 0 ≡ 1 = rw state refl in
    let sum = sum_by-cons (λ (zone : Zone). cond (is_chosen (InState Empty) zone.state) 1 0) y ys in
    omega (arith, sum, one, empty_all zs ys closing.1 all.1)
empty_all [] (y ∷ ys) closing all = absurd closing
empty_all (z ∷ zs) [] closing all = absurd closing

counted-all_empty : (old new : DriveState) (options : ReportingOptions) (number : ℕ) → IsLawful old → Counted old new options number
    → options ≡ InState Empty → number ≡ old.geometry.zones → AreEmpty (contents old.zones)
counted-all_empty old new options number lawful counted only e =
    let number_is = rw only at counted.number_is in
    all_empty old.geometry old.zones counted.zones lawful.zones counted.before
    (omega (arith, number_is, e, lawful.count, length-closing old.zones counted.zones counted.before))

counted-empty_all : (old new : DriveState) (options : ReportingOptions) (number : ℕ) → IsLawful old → Counted old new options number
    → options ≡ InState Empty → AreEmpty (contents old.zones) → number ≡ old.geometry.zones
counted-empty_all old new options number lawful counted only all =
    let number_is = rw only at counted.number_is in
    omega (arith, number_is, empty_all old.zones counted.zones counted.before all, lawful.count, length-closing old.zones counted.zones counted.before)

-- as many zones are Empty as there are exactly where all are
pub counted-empty : (old new : DriveState) (options : ReportingOptions) (number : ℕ) → IsLawful old → Counted old new options number
    → options ≡ InState Empty → (number ≡ old.geometry.zones) ↔ AreEmpty (contents old.zones)
counted-empty old new options number lawful counted only =
    (counted-all_empty old new options number lawful counted only, counted-empty_all old new options number lawful counted only)
