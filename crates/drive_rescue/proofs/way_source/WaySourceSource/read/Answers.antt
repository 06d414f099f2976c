use Rattle.std.proofs.Common.{◌+◌, ◌*◌, ℕ, Ok, ap, ◌∙◌}
use Rattle.zone_states.specs.declared.geometry.Geometry.{Geometry}
use Rattle.drive_rescue.specs.Sources.{damaged_anywhere}
use Rattle.drive_rescue.specs.declared.source.Reading.TheVariants.{Held}
use Rattle.drive_rescue.proofs.DeviceLaws.{effect-gives, kept-so, reads-block}
use Rattle.drive_rescue.proofs.KeepLaws.{says-kept}
use Rattle.drive_rescue.proofs.way_source.WaySourceSource.read.Goals as goal

pub returns-then-branch-clause-says : goal.returns-then-branch-clause-says
returns-then-branch-clause-says g c =
    let drive = c.args.self.now.drive in
    let last = c.try_read.new.self in
    let reads = reads-block drive c.args.number c.args.offset _ c.requires.range c.geometry.ensures.lawful c.requires.there (ap (λ (k : ℕ). k + c.args.offset) c.start_of.ensures ∙ ap (λ (x : Geometry). c.args.number * x.size + c.args.offset) c.geometry.ensures.value) in
    says-kept (damaged_anywhere drive) (damaged_anywhere last) c.args.number c.args.offset (Ok Held) c.try_read.new.into.items
    (record { zones = kept-so drive last c.try_read.ensures.others c.try_read.ensures.lawful c.try_read.ensures.closes; damaged = λ number offset is. is })
    (effect-gives drive _ c.args.number c.args.offset _ _ reads (rw c.clear.ensures.items at (c.in_ok-try_read.ensures.read c.if-branch.true)))
