use Rattle.std.proofs.Common.{◌+◌, ◌*◌, ℕ, Err, Ok, ap, ◌∙◌}
use Rattle.drive_port.specs.declared.calls.PortFault.{PortFault}
use Rattle.zone_states.specs.declared.geometry.Geometry.{Geometry}
use Rattle.drive_rescue.specs.Sources.{damaged_once_failed}
use Rattle.drive_rescue.specs.declared.source.Reading.TheVariants.{Held}
use Rattle.drive_rescue.proofs.DeviceLaws.{device-keeps, failed-says, read-gives, read-halts, read-keeps, reads-block}
use Rattle.drive_rescue.proofs.KeepLaws.{says-kept}
use Rattle.drive_rescue.proofs.device_source.DeviceSourceSource.read.Goals as goal

pub reading_of-requires : goal.reading_of-requires
reading_of-requires g c =
    let drive = g.D.Device.drive c.args.self.now.device in
    let reads = reads-block drive c.args.number c.args.offset _ c.requires.range c.geometry.ensures.lawful c.requires.there (ap (λ (k : ℕ). k + c.args.offset) c.start_of.ensures ∙ ap (λ (x : Geometry). c.args.number * x.size + c.args.offset) c.geometry.ensures.value) in
    (read-halts drive _ _ _ c.in-Err.fault reads.can c.in-Err.ensures.gives c.read.ensures.kept.closing c.in-Err.ensures.obeys c.in-Err.ensures.taken).halt

pub returns-in-Ok-clause-says : goal.returns-in-Ok-clause-says
returns-in-Ok-clause-says g c =
    let drive = g.D.Device.drive c.args.self.now.device in
    let last = g.D.Device.drive c.read.new.device in
    let reads = reads-block drive c.args.number c.args.offset _ c.requires.range c.geometry.ensures.lawful c.requires.there (ap (λ (k : ℕ). k + c.args.offset) c.start_of.ensures ∙ ap (λ (x : Geometry). c.args.number * x.size + c.args.offset) c.geometry.ensures.value) in
    let kept = device-keeps drive last _ (read-keeps drive last _ _ c.read.ensures.kept.closing c.in-Ok.ensures.obeys c.in-Ok.ensures.shown) c.in-Ok.ensures.obeys in
    says-kept (damaged_once_failed drive) (damaged_once_failed last) c.args.number c.args.offset (Ok Held) c.read.new.into.items kept (read-gives drive c.args.number c.args.offset _ _ reads (c.in-Ok.ensures.shown.bytes c.vouch.ensures))

pub returns-in-Ok-clause-kept : goal.returns-in-Ok-clause-kept
returns-in-Ok-clause-kept g c =
    let drive = g.D.Device.drive c.args.self.now.device in
    let last = g.D.Device.drive c.read.new.device in
    device-keeps drive last _ (read-keeps drive last _ _ c.read.ensures.kept.closing c.in-Ok.ensures.obeys c.in-Ok.ensures.shown) c.in-Ok.ensures.obeys

pub returns-in-Err-clause-says : goal.returns-in-Err-clause-says
returns-in-Err-clause-says g c =
    failed-says (g.D.Device.drive c.read.new.device) c.args.number c.args.offset c.in-Err.fault c.reading_of.result c.read.new.into.items (λ is. (c.in-Err.ensures.obeys.fails (ap (λ (f : PortFault). Err f) is)).0) c.reading_of.ensures

pub returns-in-Err-clause-kept : goal.returns-in-Err-clause-kept
returns-in-Err-clause-kept g c =
    let drive = g.D.Device.drive c.args.self.now.device in
    let reads = reads-block drive c.args.number c.args.offset _ c.requires.range c.geometry.ensures.lawful c.requires.there (ap (λ (k : ℕ). k + c.args.offset) c.start_of.ensures ∙ ap (λ (x : Geometry). c.args.number * x.size + c.args.offset) c.geometry.ensures.value) in
    let halts = read-halts drive _ _ _ c.in-Err.fault reads.can c.in-Err.ensures.gives c.read.ensures.kept.closing c.in-Err.ensures.obeys c.in-Err.ensures.taken in
    device-keeps drive (g.D.Device.drive c.read.new.device) _ halts.kept c.in-Err.ensures.obeys
