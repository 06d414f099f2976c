-- A rescue, of what is searched and what is given.
use Rattle.std.proofs.Common.{◌≡◌, inl, ℕ, List, length, Option, Result, Ok, Err, sym, ap, ◌∙◌}
use Rattle.std.specs.Prelude.{◌≤◌, ◌^◌, IfErr, IfOk}
use Rattle.drive_port.specs.Drive.{DriveState, IsLawful}
use Rattle.drive_rescue.specs.declared.rescuing.Findings.{Findings}
use Rattle.drive_rescue.specs.Findings.{FindFails, IsFound}
use Rattle.std.proofs.KnownBytes.{Keeps-refl}
use Rattle.std.proofs.lemmas.List.{length-map}
use Rattle.zone_states.specs.Geometry.{IsInRange}
use Rattle.drive_array.specs.Sizes.{size_or}
use Rattle.drive_survey.specs.Reported.{KeepsZones}
use Rattle.drive_survey.specs.declared.reported.ReportedZone.{ReportedZone}
use Rattle.drive_rescue.specs.declared.fault.RescueFault.{RescueFault}
use Rattle.drive_rescue.specs.declared.fault.RescueFault.TheVariants as faults
use Rattle.drive_rescue.specs.declared.giving.Rescued.{Rescued}
use Rattle.drive_rescue.specs.declared.search.Search.{Search}
use Rattle.drive_rescue.specs.Giving.{FindsHeld, GiveFails, GivesAll, IsKept}
use Rattle.drive_rescue.specs.Holding.{HoldsFinding}
use Rattle.drive_rescue.specs.Rescue.{Finds, KeepsSource, RescueFails, Rescues, SourceView}
use Rattle.drive_rescue.specs.Searching.{Finding, Searched, found_size}
use Rattle.drive_rescue.specs.Zones.{TellsAll, read_zone, read_zones}
use Rattle.drive_rescue.proofs.GiveLaws.{kept-kept}
use Rattle.drive_rescue.proofs.KeepLaws.{count-kept, drive-read}

-- the zones are still as they were reported
pub told-all : (a b : DriveState) (reported bytes : List ReportedZone) → KeepsZones a b → bytes ≡ reported → TellsAll a.geometry.capacity (read_zones a) reported → TellsAll b.geometry.capacity (read_zones b) bytes
told-all a b reported bytes k same tells = rw (same, drive-read a b k, k.geometry) tells

-- all zones were searched that were reported
pub finds-held : (a b : SourceView) (kept_search : Search) (reported : List ReportedZone) → KeepsSource a b → TellsAll a.drive.geometry.capacity (read_zones a.drive) reported
    → (finding : Finding) × Searched b.damaged (read_zones b.drive) (length reported) finding × HoldsFinding kept_search finding → FindsHeld b kept_search
finds-held a b kept_search reported k tells found =
    let count : length reported ≡ length b.drive.zones = tells.count ∙ length-map a.drive.zones (read_zone a.drive.geometry) ∙ sym (count-kept a b k) in
    let finds : Finds b found.0 = rw (← count) found.1 in
    record { finding = found.0; kept = record { finds = finds; holds = found.2 } }

-- ---- what is found

-- a search whose findings are kept
pub is-found : (source : SourceView) (given : ℕ) (findings : Findings) (kept_search : Search) → IsInRange source.drive.geometry → IsLawful source.drive → FindsHeld source kept_search → findings.search ≡ kept_search → findings.blocks ≡ size_or given kept_search.size
    → findings.blocks ≤ 2 ^ 31 → IsFound source given findings
is-found source given findings kept_search range lawful held same size few =
    record { range = range; lawful = lawful; held = rw same held; size = rw same size; few = few }

-- findings of no block: no header that is found says a size, and the given one is 0
pub no-blocks : (source : SourceView) (given : ℕ) (findings : Findings) → IsFound source given findings → findings.blocks ≡ 0
    → (finding : Finding) × Finds source finding × (size_or given (found_size finding.found) ≡ 0)
no-blocks source given findings found none =
    let held = found.held in
    (held.finding, held.kept.finds, sym (found.size ∙ ap (size_or given) held.kept.holds.size) ∙ none)

-- ---- what is given

-- what is given of the findings is a rescue
pub found-given : (a b : SourceView) (given : ℕ) (findings : Findings) (written contents : Option (List ℕ)) (rescued : Rescued) → KeepsSource a b → IsFound a given findings → rescued.blocks ≡ findings.blocks
    → ((finding : Finding) → IsKept a findings.search finding → GivesAll b finding rescued written contents) → Rescues b given written contents rescued
found-given a b given findings written contents rescued k found blocks gives =
    let held = found.held in
    let all = gives held.finding held.kept in
    let kept = kept-kept a b findings.search held.finding k held.kept in
    record {
      range = rw k.zones.geometry found.range;
      finding = held.finding;
      finds = kept.finds;
      size_is = blocks ∙ found.size ∙ ap (size_or given) held.kept.holds.size;
      bytes = all.bytes;
      gives = all.gave;
      appends = all.appends;
    }

pub give-ok : (a b : SourceView) (findings : Findings) (written contents : Option (List ℕ)) (result : Result Rescued RescueFault) → KeepsSource a b → IfOk result (λ (rescued : Rescued). rescued.blocks ≡ findings.blocks)
    → IfOk result (λ (rescued : Rescued). (finding : Finding) → IsKept a findings.search finding → GivesAll b finding rescued written contents)
    → IfOk result (λ (rescued : Rescued). (given : ℕ) → IsFound a given findings → Rescues b given written contents rescued)
give-ok a b findings written contents (Err fault) k blocks gives = tt
give-ok a b findings written contents (Ok rescued) k blocks gives = λ given found. found-given a b given findings written contents rescued k found blocks gives

-- what is given of what was found is a rescue
pub rescue-ok : (a b : SourceView) (given : ℕ) (findings : Findings) (written contents : Option (List ℕ)) (result : Result Rescued RescueFault) → IsFound a given findings
    → IfOk result (λ (rescued : Rescued). (n : ℕ) → IsFound a n findings → Rescues b n written contents rescued) → IfOk result (Rescues b given written contents)
rescue-ok a b given findings written contents (Err fault) found ok = tt
rescue-ok a b given findings written contents (Ok rescued) found ok = ok given found

pub fails : (source : SourceView) (given : ℕ) (written contents : Option (List ℕ)) (fault : RescueFault) → GiveFails source written contents fault → RescueFails source given written contents fault
fails source given written contents faults.Limits bad = absurd bad
fails source given written contents (faults.Halted halt) front = front
fails source given written contents faults.Output front = front

pub rescue-err : (source : SourceView) (given : ℕ) (written contents : Option (List ℕ)) (result : Result Rescued RescueFault) → IfErr result (GiveFails source written contents) → IfErr result (RescueFails source given written contents)
rescue-err source given written contents (Ok rescued) err = tt
rescue-err source given written contents (Err fault) err = fails source given written contents fault err

-- where nothing is found, nothing is written
pub unfound : (source : SourceView) (given : ℕ) (contents : Option (List ℕ)) (fault : RescueFault) → FindFails source given fault → RescueFails source given contents contents fault
unfound source given contents faults.Limits refused = (Keeps-refl contents, refused)
unfound source given contents (faults.Halted halt) k = inl (Keeps-refl contents)
unfound source given contents faults.Output bad = absurd bad
