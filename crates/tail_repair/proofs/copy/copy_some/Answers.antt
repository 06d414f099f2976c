use Rattle.std.proofs.Common.{◌≡◌, ◌*◌, Err, sym, ap, ◌∙◌}
use Rattle.drive_port.specs.declared.calls.PortFault.{PortFault}
use Rattle.zone_states.specs.declared.geometry.Geometry.{Geometry}
use Rattle.zone_states.specs.Geometry.{IsInRange}
use Rattle.tail_repair.proofs.CauseLaws.{call-told, if-fault}
use Rattle.tail_repair.proofs.CommandLaws.{append-leaves, read-extends}
use Rattle.tail_repair.proofs.KeepLaws.{extends-then}
use Rattle.tail_repair.proofs.copy.copy_some.Goals as goal

pub returns-in_err-append-clause-kept : goal.returns-in_err-append-clause-kept
returns-in_err-append-clause-kept g c =
    let range : IsInRange (g.D.Device.drive c.read.new.device).geometry = rw c.read.ensures.obeys.geometry c.requires.range in
    let start : c.start_of-2.result ≡ c.args.to * (g.D.Device.drive c.read.new.device).geometry.size = c.start_of-2.ensures ∙ ap (λ (x : Geometry). c.args.to * x.size) (c.geometry-geometry.ensures.value ∙ sym c.read.ensures.obeys.geometry) in
    extends-then _ _ _ c.args.to (read-extends _ _ c.args.to _ _ _ _ c.read.ensures) (append-leaves _ _ c.args.to _ _ _ range start c.append.ensures)

pub returns-clause-kept : goal.returns-clause-kept
returns-clause-kept g c =
    let range : IsInRange (g.D.Device.drive c.read.new.device).geometry = rw c.read.ensures.obeys.geometry c.requires.range in
    let start : c.start_of-2.result ≡ c.args.to * (g.D.Device.drive c.read.new.device).geometry.size = c.start_of-2.ensures ∙ ap (λ (x : Geometry). c.args.to * x.size) (c.geometry-geometry.ensures.value ∙ sym c.read.ensures.obeys.geometry) in
    extends-then _ _ _ c.args.to (read-extends _ _ c.args.to _ _ _ _ c.read.ensures) (append-leaves _ _ c.args.to _ _ _ range start c.append.ensures)

pub returns-in_err-read-clause-told : goal.returns-in_err-read-clause-told
returns-in_err-read-clause-told g c =
    if-fault c.from_residual.result _ _ c.from_residual.ensures.1 (call-told (g.D.Device.drive c.read.new.device) c.in_err-read.field-0.0 (λ is. c.in_err-read.ensures.obeys.stops (ap (λ (f : PortFault). Err f) is)) (λ is. (c.in_err-read.ensures.obeys.fails (ap (λ (f : PortFault). Err f) is)).0))

pub returns-in_err-append-clause-told : goal.returns-in_err-append-clause-told
returns-in_err-append-clause-told g c =
    if-fault c.from_residual-in_err-append.result _ _ c.from_residual-in_err-append.ensures.1 (call-told (g.D.Device.drive c.append.new.device) c.in_err-append.field-0.0 (λ is. c.in_err-append.ensures.obeys.stops (ap (λ (f : PortFault). Err f) is)) (λ is. (c.in_err-append.ensures.obeys.fails (ap (λ (f : PortFault). Err f) is)).0))
