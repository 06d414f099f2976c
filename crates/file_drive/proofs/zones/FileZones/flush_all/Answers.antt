use Rattle.std.proofs.Common.{◌≡◌, ◌∙◌, length}
use Rattle.file_drive.specs.InFile.{AreWithin}
use Rattle.file_drive.proofs.ServedLaws.{filed-same}
use Rattle.file_drive.proofs.zones.FileZones.flush_all.Goals as goal

pub returns-clause-just : goal.returns-clause-just
returns-clause-just g c =
    let same = filed-same g.F.FileBytes.seen c.args.self.now c.write_both.new.self c.write_both.ensures.shape c.write_both.ensures.entries c.write_both.ensures.zones (rw (← c.self.view_is) c.self.invariant.1) (rw (← c.self.view_is) c.self.invariant.2) in
    rw same at c.in_ok-pick_other.ensures.just

pub returns-clause-durable : goal.returns-clause-durable
returns-clause-durable g c =
    let same = filed-same g.F.FileBytes.seen c.args.self.now c.write_both.new.self c.write_both.ensures.shape c.write_both.ensures.entries c.write_both.ensures.zones (rw (← c.self.view_is) c.self.invariant.1) (rw (← c.self.view_is) c.self.invariant.2) in
    rw (same, c.write_both.ensures.durable) at c.pick_other.ensures.durable

pub returns-in_err-pick_other-clause-durable : goal.returns-in_err-pick_other-clause-durable
returns-in_err-pick_other-clause-durable g c =
    let same = filed-same g.F.FileBytes.seen c.args.self.now c.write_both.new.self c.write_both.ensures.shape c.write_both.ensures.entries c.write_both.ensures.zones (rw (← c.self.view_is) c.self.invariant.1) (rw (← c.self.view_is) c.self.invariant.2) in
    rw (same, c.write_both.ensures.durable) at c.pick_other.ensures.durable

pub returns-in_err-write_both-clause-same : goal.returns-in_err-write_both-clause-same
returns-in_err-write_both-clause-same g c = filed-same g.F.FileBytes.seen c.args.self.now c.write_both.new.self c.write_both.ensures.shape c.write_both.ensures.entries c.write_both.ensures.zones (rw (← c.self.view_is) c.self.invariant.1) (rw (← c.self.view_is) c.self.invariant.2)

pub returns-in_err-pick_other-clause-same : goal.returns-in_err-pick_other-clause-same
returns-in_err-pick_other-clause-same g c =
    let count : length c.args.self.now.entries ≡ c.args.self.now.shape.zones = rw (← c.self.view_is) c.self.invariant.1 in
    let within : AreWithin c.args.self.now.shape c.args.self.now.entries = rw (← c.self.view_is) c.self.invariant.2 in
    filed-same g.F.FileBytes.seen c.write_both.new.self c.pick_other.new.self c.pick_other.ensures.shape c.pick_other.ensures.entries c.pick_other.ensures.zones
    (rw (c.write_both.ensures.shape, c.write_both.ensures.entries) count) (rw (c.write_both.ensures.shape, c.write_both.ensures.entries) within)
    ∙ filed-same g.F.FileBytes.seen c.args.self.now c.write_both.new.self c.write_both.ensures.shape c.write_both.ensures.entries c.write_both.ensures.zones (rw (← c.self.view_is) c.self.invariant.1) (rw (← c.self.view_is) c.self.invariant.2)

pub returns-clause-same : goal.returns-clause-same
returns-clause-same g c =
    let count : length c.args.self.now.entries ≡ c.args.self.now.shape.zones = rw (← c.self.view_is) c.self.invariant.1 in
    let within : AreWithin c.args.self.now.shape c.args.self.now.entries = rw (← c.self.view_is) c.self.invariant.2 in
    filed-same g.F.FileBytes.seen c.write_both.new.self c.pick_other.new.self c.pick_other.ensures.shape c.pick_other.ensures.entries c.pick_other.ensures.zones
    (rw (c.write_both.ensures.shape, c.write_both.ensures.entries) count) (rw (c.write_both.ensures.shape, c.write_both.ensures.entries) within)
    ∙ filed-same g.F.FileBytes.seen c.args.self.now c.write_both.new.self c.write_both.ensures.shape c.write_both.ensures.entries c.write_both.ensures.zones (rw (← c.self.view_is) c.self.invariant.1) (rw (← c.self.view_is) c.self.invariant.2)
