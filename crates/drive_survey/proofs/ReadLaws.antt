-- One of the readable blocks of a zone is read.
use Rattle.std.proofs.Common.{◌≡◌, ℕ, zero, suc, ◌+◌, ◌-◌, ◌*◌, ◌/◌, ◌%◌, ◌<◌, ◌≤◌, inl, inr, List, [], ◌∷◌, length, get_or, Err, refl, sym, ap, ◌∙◌, arith, append-nil}
use Rattle.std.proofs.lemmas.Nat.{div-mul-add, mod-mul-add, mul-le}
use Rattle.std.proofs.Math.Nat.{add-mul}
use Rattle.drive_port.specs.Calls.{CanRead, IsNotRefused, Obeys, ReadGives}
use Rattle.drive_port.specs.Contents.{Content, block_at, bytes_at, content_at, contents, usage_of}
use Rattle.drive_port.specs.Drive.{DriveState, IsClosing, IsLawful}
use Rattle.drive_port.specs.Step.{end_of, zone_at}
use Rattle.drive_port.specs.declared.calls.PortFault.{PortFault}
use Rattle.drive_port.specs.declared.calls.PortFault.TheVariants as port
use Rattle.drive_port.proofs.ClosingLaws.{IsClosing-refl, IsClosing-trans, contents-closing, length-closing, content_at-contents}
use Rattle.batch_log.specs.Log.{zero_block}
use Rattle.zone_choice.specs.Changes.{IsHalt}
use Rattle.zone_choice.proofs.CommandLaws.{zone-few}
use Rattle.zone_choice.proofs.OpenLaws.{closing-opens}
use Rattle.zone_choice.proofs.ReadLaws.{length-readable, readable-read, usable-online}
use Rattle.drive_survey.specs.declared.reported.ReportedZone.{ReportedZone}
use Rattle.drive_survey.specs.Reported.{IsKnown, KeepsZones}
use Rattle.drive_survey.specs.Scan.{FailsBy, block_of, readable_at, mount_fault}

-- ---- looks

-- without a command the zones of a lawful drive are kept
pub keeps-none : (drive : DriveState) → IsLawful drive → KeepsZones drive drive
keeps-none drive lawful = record { geometry = refl; lawful = lawful; closing = IsClosing-refl drive.zones; trusted = λ clean. clean; unfailing = λ is. is; refused = refl; durable = refl; appended = refl }

-- if each of two looks keeps the zones, both together do
pub keeps-both : (a b c : DriveState) → KeepsZones a b → KeepsZones b c → KeepsZones a c
keeps-both a b c k l = record {
  geometry = l.geometry ∙ k.geometry;
  lawful = l.lawful;
  closing = IsClosing-trans a.zones b.zones c.zones k.closing l.closing;
  trusted = λ clean. k.trusted (l.trusted clean);
  unfailing = λ is. k.unfailing (l.unfailing is);
  refused = l.refused ∙ k.refused;
  durable = l.durable ∙ k.durable;
  appended = l.appended ∙ k.appended;
}

-- a look at the drive does not change what its zones hold
pub kept-contents : (old new : DriveState) → KeepsZones old new → contents new.zones ≡ contents old.zones
kept-contents old new k = contents-closing old.zones new.zones k.closing

-- a look at the drive does not change the readable blocks of a zone
pub kept-blocks : (old new : DriveState) (zone : ℕ) → KeepsZones old new → readable_at new zone ≡ readable_at old zone
kept-blocks old new zone k = rw (k.geometry, kept-contents old new k) refl

-- a zone that is known is still known after a look at the drive
pub kept-known : (old new : DriveState) (zone : ℕ) (reported : ReportedZone) → KeepsZones old new → IsKnown old zone reported → IsKnown new zone reported
kept-known old new zone reported k known =
    let same = kept-contents old new k in
    record {
      geometry = rw k.geometry known.geometry;
      lawful = k.lawful;
      in_range = omega (arith, length-closing old.zones new.zones k.closing, known.in_range);
      usage = rw same known.usage;
      usable = known.usable;
      blocks = known.blocks ∙ sym (ap length (kept-blocks old new zone k));
      shut = λ told. closing-opens old.zones new.zones k.closing zone (known.shut told);
    }

-- ---- a block

get_or-any : (xs : List (List ℕ)) (i : ℕ) (d e : List ℕ) → i < length xs → get_or xs i d ≡ get_or xs i e
get_or-any [] i d e lt = absurd (omega arith)
get_or-any (x ∷ xs) zero d e lt = refl
get_or-any (x ∷ xs) (suc i) d e lt = get_or-any xs i d e (omega arith)

-- a known zone has no more readable blocks than its capacity
pub known-few : (drive : DriveState) (zone : ℕ) (reported : ReportedZone) → IsKnown drive zone reported → reported.blocks ≤ drive.geometry.capacity
known-few drive zone reported known =
    let few = length-readable drive.geometry (content_at (contents drive.zones) zone) (zone-few drive zone known.lawful known.in_range) in
    omega (arith, few, known.blocks)

-- a Read of one block at this address is allowed, and shows this block of the zone
pub record ReadsBlock (drive : DriveState) (zone offset address : ℕ) : Type 0 where
  pub can : CanRead drive address 1
  pub shows : block_at drive.geometry (contents drive.zones) address ≡ block_of drive zone offset

-- each readable block of a known zone can be read at its address
known-read : (drive : DriveState) (zone offset address : ℕ) (reported : ReportedZone) → IsKnown drive zone reported → offset < reported.blocks → address ≡ zone * drive.geometry.size + offset → ReadsBlock drive zone offset address
known-read drive zone offset address reported known lt is =
    let g = drive.geometry in
    let zones = contents drive.zones in
    let few = known-few drive zone reported known in
    let short : offset < g.size = omega (arith, lt, few, known.geometry.capacity) in
    let index : address / g.size ≡ zone = rw is (div-mul-add zone g.size offset short) in
    let place : address % g.size ≡ offset = rw is (mod-mul-add zone g.size offset short) in
    let content = content_at-contents drive.zones zone in
    let below : address + 1 ≤ end_of g = omega (arith, is, short, known.lawful.count, known.in_range, mul-le (zone + 1) g.size g.zones g.size (omega (arith, known.lawful.count, known.in_range)) (omega arith), add-mul zone 1 g.size) in
    let same : address + 1 - 1 ≡ address = omega arith in
    let usage : usage_of reported.state ≡ usage_of (zone_at drive.zones zone).state = sym known.usage ∙ ap (λ (c : Content). c.usage) content in
    record {
      can = record {
        few = omega (arith, known.geometry.transfer);
        in_range = below;
        one_zone = rw same refl;
        readable = rw index (usable-online (zone_at drive.zones zone).state (rw usage at known.usable));
      };
      shows = rw (index, place) (sym (readable-read g (content_at zones zone) offset) ∙ get_or-any (readable_at drive zone) offset (zero_block g.block) [] (omega (arith, lt, known.blocks)));
    }

-- what a Read of it gives
pub read-shown : (drive : DriveState) (zone offset address : ℕ) (reported : ReportedZone) (bytes : List ℕ) → IsKnown drive zone reported → offset < reported.blocks → address ≡ zone * drive.geometry.size + offset
    → bytes ≡ bytes_at drive.geometry (contents drive.zones) address 1 → bytes ≡ block_of drive zone offset
read-shown drive zone offset address reported bytes known lt is shown =
    shown ∙ append-nil (block_at drive.geometry (contents drive.zones) address) ∙ (known-read drive zone offset address reported known lt is).shows

-- a Read that halted
pub record Halts (old new : DriveState) (fault : PortFault) : Type 0 where
  pub halt : IsHalt fault
  pub kept : KeepsZones old new
  pub cause : FailsBy (λ _. ⊥) new (mount_fault fault)

-- a Read of a known zone's block fails only by a halt, and keeps the zones
pub read-halts : (old new : DriveState) (zone offset address : ℕ) (reported : ReportedZone) (returned : List ℕ) (fault : PortFault) → IsKnown old zone reported → offset < reported.blocks → address ≡ zone * old.geometry.size + offset
    → ReadGives {V = Unit {0}} old address 1 (Err fault) returned new → IsClosing old.zones new.zones → Obeys {V = Unit {0}} old (Err fault) new → (CanRead old address 1 → IsNotRefused {V = Unit {0}} (Err fault)) → Halts old new fault
read-halts old new zone offset address reported returned (port.Refused status) known lt is gives closing obeys passed = absurd (passed (known-read old zone offset address reported known lt is).can)
read-halts old new zone offset address reported returned port.Memory known lt is gives closing obeys passed = record { halt = tt; kept = rw gives.1.1 (keeps-none old known.lawful); cause = inl refl }
read-halts old new zone offset address reported returned port.Failed known lt is gives closing obeys passed =
    let failed = obeys.fails refl in
    record {
      halt = tt;
      kept = record { geometry = obeys.geometry; lawful = obeys.lawful; closing = closing; trusted = obeys.trusted; unfailing = obeys.unfailing; refused = failed.1.refused; durable = obeys.durable; appended = failed.1.appended };
      cause = inr (inl (inr (refl, failed.0)));
    }
read-halts old new zone offset address reported returned port.Stopped known lt is gives closing obeys passed = record {
  halt = tt;
  kept = record { geometry = obeys.geometry; lawful = obeys.lawful; closing = closing; trusted = obeys.trusted; unfailing = obeys.unfailing; refused = (obeys.counts refl).refused; durable = obeys.durable; appended = (obeys.counts refl).appended };
  cause = inr (inl (inl (refl, obeys.stops refl)));
}
