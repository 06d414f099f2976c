-- What a device answers that may fail at a command, by what the device within answers.
use Rattle.std.proofs.Common.{◌≡◌, ℕ, Bool, true, false, not, ◌&&◌, List, Result, Ok, Err, refl, ap, ◌∙◌}
use Rattle.nvme_wire.specs.Entry.{decode_of}
use Rattle.drive_port.specs.declared.device.Halt.{Halt}
use Rattle.drive_port.specs.declared.device.Halt.TheVariants.{Memory, Failed, Stopped}
use Rattle.drive_port.specs.Drive.{DriveState, IsLawful}
use Rattle.drive_port.specs.Halting.{Fails, SubmitGives}
use Rattle.drive_port.proofs.ClosingLaws.{IsClosing-refl}
use Rattle.drive_port.proofs.StopLaws.{hardens-by, may_harden-by}
use Rattle.yardsticks.specs.Failing.{failed_by}

-- the flag says nothing of the zones
pub lawful-failed : (drive : DriveState) (failed : Bool) → IsLawful drive → IsLawful (failed_by drive failed)
lawful-failed drive failed lawful = record {
  geometry = lawful.geometry;
  count = lawful.count;
  zones = lawful.zones;
  active = lawful.active;
  open_zones = lawful.open_zones;
  completed = lawful.completed;
  stopped = lawful.stopped;
}

-- a command that is not passed on fails
pub fails-here : (inner : DriveState) (was : Bool) → inner.stopped ≡ false → Fails (failed_by inner was) (failed_by inner true)
fails-here inner was running = record { running = running; closing = IsClosing-refl inner.zones; others = refl }

-- once it has failed it is not unfailing
never-both : (failed : Bool) → (not failed && false) ≡ false
never-both true = refl
never-both false = refl

-- a command that is passed on does what it does within
pub passed-on : (old new : DriveState) (failed : Bool) (entry bytes : List ℕ) (result : Result (List ℕ) Halt) (returned : List ℕ) → SubmitGives old entry bytes result returned new
    → SubmitGives (failed_by old failed) entry bytes result returned (failed_by new failed)
passed-on old new failed entry bytes (Ok completion) returned gives =
    let p = gives.1.performs in (
      gives.0,
      record {
        status = gives.1.status;
        value = gives.1.value;
        fits = gives.1.fits;
        encoded = gives.1.encoded;
        performs = record {
          held = p.held;
          effect = p.effect;
          told = p.told;
          length_is = p.length_is;
          trusted = p.trusted;
          fair = p.fair;
          unfailing = ap (λ (b : Bool). not failed && b) p.unfailing;
          geometry = p.geometry;
          completed = p.completed;
          refused = p.refused;
          appended = p.appended;
          hardens = hardens-by (decode_of entry) old new (failed_by old failed) (failed_by new failed) refl refl refl p.hardens;
        };
      },
    )
passed-on old new failed entry bytes (Err Memory) returned gives = (gives.0, (gives.1.0, ap (λ (d : DriveState). failed_by d failed) gives.1.1))
passed-on old new failed entry bytes (Err Failed) returned gives = (
  gives.0,
  record {
    running = gives.1.running;
    closing = gives.1.closing;
    others = ap (λ (d : DriveState). failed_by d failed) gives.1.others ∙ ap (λ (b : Bool). record old { zones = new.zones; unfailing = b }) (never-both failed);
  },
)
passed-on old new failed entry bytes (Err Stopped) returned gives =
    let s = gives.1 in (
      gives.0,
      record {
        already = λ e. ap (λ (d : DriveState). failed_by d failed) (s.already e);
        stopped = s.stopped;
        geometry = s.geometry;
        trusted = s.trusted;
        fair = s.fair;
        unfailing = ap (λ (b : Bool). not failed && b) s.unfailing;
        counts = record { completed = s.counts.completed; refused = s.counts.refused; appended = s.counts.appended };
        left = s.left;
        hardens = may_harden-by (decode_of entry) old new (failed_by old failed) (failed_by new failed) refl refl refl s.hardens;
      },
    )
