use Rattle.std.proofs.Common.{◌≡◌, ◌∙◌, List, true, subst, sym}
use Rattle.std.specs.List.{Contains}
use Rattle.std.proofs.lemmas.Bool.{and_parts}
use Rattle.zone_states.specs.Stored.{StoredZone}
use Rattle.file_drive.specs.Head.{boot_in, is_known}
use Rattle.file_drive.specs.InFile.{durable_zones}
use Rattle.file_drive.specs.Tables.{flushed_zones}
use Rattle.file_drive.proofs.FindsLaws.{kill-finds, left-finds, out-of-boot, power-finds, set-back-zones}
use Rattle.file_drive.proofs.OpenedLaws.{same-boot}
use Rattle.file_drive.proofs.zones.FileZones.into_file.Goals as goal

pub returns-clause-kill : goal.returns-clause-kill
returns-clause-kill g c = λ known usable zones left bytes may.
    let inside = c.self.inside in
    let held = c.self.invariant in
    let file = g.F.FileBytes.seen inside.file in
    let shown = held.7 file (g.F.FileBytes.seen_may_stay inside.file) in
    let usable' = rw (← c.self.view_is) at usable in
    let is = g.F.FileBytes.seen_is_shown inside.file usable' bytes (rw (← c.self.view_is) at may) in
    rw (← c.self.view_is, is)
    (kill-finds inside.geometry g.S.System.boot file inside.entries.items inside.live inside.flushed _ (rw (held.10.owned usable') at held.4) held.0 held.1 held.2 held.5 held.8 known (rw (← c.self.view_is) at zones)
    ((rw (← c.self.view_is) at left) _ shown.1))

pub returns-clause-cut : goal.returns-clause-cut
returns-clause-cut g c = λ of_boot zones left.
    let inside = c.self.inside in
    let held = c.self.invariant in
    let file = g.F.FileBytes.seen inside.file in
    let shown = held.7 file (g.F.FileBytes.seen_may_stay inside.file) in
    let same : boot_in file ≡ g.S.System.boot = same-boot g.S.System.boot (boot_in file) (rw (← c.self.view_is) at of_boot) in
    let known : is_known g.S.System.boot ≡ true = (and_parts _ _ (rw (← c.self.view_is) at of_boot)).0 in
    rw (← c.self.view_is)
    (kill-finds inside.geometry g.S.System.boot file inside.entries.items inside.live inside.flushed _ (rw (sym held.4.boot_is ∙ same) at held.4) held.0 held.1 held.2 held.5 held.8 known (rw (← c.self.view_is) at zones)
    ((rw (← c.self.view_is) at left) _ shown.1))

pub returns-clause-lost : goal.returns-clause-lost
returns-clause-lost g c = λ lost free left bytes boot may.
    let inside = c.self.inside in
    let held = c.self.invariant in
    let lost' = rw (← c.self.view_is) at lost in
    let free' = rw (← c.self.view_is) at free in
    let may' = rw (← c.self.view_is) at may in
    let found = held.10.durable_is lost' free' bytes may' in
    let another = out-of-boot boot bytes (held.10.is_out lost' free' bytes may') in
    rw (← c.self.view_is)
    (flushed_zones inside.geometry bytes, found.1, power-finds inside.geometry boot bytes held.0 found.0 another ((rw (← c.self.view_is) at left) _ found.1))

pub returns-clause-power : goal.returns-clause-power
returns-clause-power g c = λ left bytes boot may another.
    let inside = c.self.inside in
    let held = c.self.invariant in
    let found = held.7 bytes (rw (← c.self.view_is) at may) in
    rw (← c.self.view_is)
    (flushed_zones inside.geometry bytes, found.1, power-finds inside.geometry boot bytes held.0 found.0 another ((rw (← c.self.view_is) at left) _ found.1))

pub returns-clause-here : goal.returns-clause-here
returns-clause-here g c = λ left bytes boot may.
    let inside = c.self.inside in
    let held = c.self.invariant in
    let found = held.7 bytes (rw (← c.self.view_is) at may) in
    let durable = durable_zones inside.geometry (g.F.FileBytes.seen inside.file) inside.safe.items inside.other.items inside.unsure in
    rw (← c.self.view_is) (
      left-finds inside.geometry boot bytes held.0 found.0 ((rw (← c.self.view_is) at left) _ found.1),
      λ unproved. subst (λ (zones : List StoredZone). Contains durable zones) (sym (set-back-zones inside.geometry boot bytes unproved)) found.1,
    )
