use Rattle.file_drive.proofs.zones.FileZones.fail.Goals as goal

pub invariant_of-self : goal.invariant_of-self
invariant_of-self g c =
    let held = c.self.invariant in
    (held.0, held.1, held.2, held.3, held.4, held.5, λ e. absurd (cc e), held.7, held.8, λ e. absurd (cc e), held.10)
