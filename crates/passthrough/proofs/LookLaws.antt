-- What is seen after a report that is believed.
use Rattle.std.proofs.Common.{◌≡◌, ℕ, ◌+◌, ◌*◌, ◌≤◌, true, List, length, ◌∙◌, arith}
use Rattle.nvme_wire.specs.declared.command.Command.TheVariants.{Receive}
use Rattle.nvme_wire.specs.declared.command.ReportingOptions.TheVariants.{AnyState}
use Rattle.zone_states.specs.Zone.{Zone}
use Rattle.zone_states.specs.declared.geometry.Geometry.{Geometry}
use Rattle.passthrough.specs.Asking.{IsReady}
use Rattle.passthrough.specs.Premise.{Answers, AreLawful, Reports}
use Rattle.passthrough.specs.Showing.{AreShown, SeesStates, WereSeen}
use Rattle.passthrough.specs.declared.seen_zone.SeenZone.{SeenZone}
use Rattle.passthrough.proofs.ShowingLaws.{may-show, were-seen}

-- a report that agrees with what was seen is believed
pub believed-report : (geometry shape : Geometry) (old new : List Zone) (seen : List SeenZone) (first count dwords start : ℕ) (bytes room : List ℕ) (value status : ℕ)
    → IsReady geometry shape old seen → start ≡ first * geometry.size → first + count ≤ geometry.zones → length room ≡ 64 + 64 * count → AreShown geometry first seen room count
    → Answers shape old (Receive start dwords AnyState true) bytes status value room new → status ≡ 0 → Reports geometry old (first * geometry.size) room new
believed-report geometry shape old new seen first count dwords start bytes room value status ready at there long shown answers done =
    rw at at ((rw ready.leads.shape_is at answers.believed) done
    (rw at (may-show geometry old seen first count room ready.leads.in_range.size.0 ready.are (omega (arith, there, ready.leads.lawful.count)) long shown)))

-- and what is seen then is true
pub look-seen : (geometry shape next_shape : Geometry) (old new : List Zone) (seen after : List SeenZone) (first count dwords start : ℕ) (bytes room : List ℕ) (value status : ℕ)
    → IsReady geometry shape old seen → start ≡ first * geometry.size → first + count ≤ geometry.zones → length room ≡ 64 + 64 * count → AreShown geometry first seen room count
    → Answers shape old (Receive start dwords AnyState true) bytes status value room new → status ≡ 0 → next_shape ≡ shape → AreLawful next_shape new
    → SeesStates first count room seen after → WereSeen first count geometry old seen after new × IsReady geometry next_shape new after
look-seen geometry shape next_shape old new seen after first count dwords start bytes room value status ready at there long shown answers done same lawful sees =
    let reports = believed-report geometry shape old new seen first count dwords start bytes room value status ready at there long shown answers done in
    let were = were-seen geometry old new seen after first count room ready.leads.in_range.size.0 ready.are (omega (arith, there, ready.leads.lawful.count)) long shown reports sees in
    let is = same ∙ ready.leads.shape_is in (
      were.0,
      record {
        leads = record { shape_is = is; in_range = ready.leads.in_range; lawful = rw is at lawful };
        are = were.1;
      },
    )
