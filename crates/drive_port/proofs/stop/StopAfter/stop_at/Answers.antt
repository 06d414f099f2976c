use Rattle.std.proofs.Common.{refl, sym, inl}
use Rattle.nvme_wire.specs.Entry.{decode_of}
use Rattle.drive_port.specs.declared.progress.Progress.TheVariants.{Over}
use Rattle.drive_port.proofs.ClosingLaws.{IsClosing-refl}
use Rattle.drive_port.proofs.StopLaws.{stopping, stops-appended, stops-here, stops-refused, stops-stopped, torn-admitted, torn_at-some}
use Rattle.drive_port.proofs.stop.StopAfter.stop_at.Goals as goal

pub call-requires-clause-admitted : goal.call-requires-clause-admitted
call-requires-clause-admitted g c =
    torn-admitted c.decode.result c.in-Some.start c.self.inside.tear (torn_at-some _ c.self.inside.tear c.decode.result _ c.in-Some.start (sym c.in-Some.ensures)) c.decode.ensures.admitted

pub returns-in_default-clause-halts : goal.returns-in_default-clause-halts
returns-in_default-clause-halts g c =
    let inner = g.D.Device.drive c.self.inside.device in
    let s = stopping inner c.self.inside.limit c.self.inside.tear c.self.inside.uncounted c.self.inside.progress in
    rw (← c.self.view_is) (stops-here s (record s { progress = Over }) (decode_of c.args.entry.now) c.args.bytes.now (rw (← c.self.view_is) at c.requires.going) refl refl refl refl refl (inl (IsClosing-refl inner.zones)) refl (λ clean. clean) (λ clean. clean) refl)

pub returns-in-Ok-clause-halts : goal.returns-in-Ok-clause-halts
returns-in-Ok-clause-halts g c =
    let s = stopping (g.D.Device.drive c.self.inside.device) c.self.inside.limit c.self.inside.tear c.self.inside.uncounted c.self.inside.progress in
    let torn = rw c.decode.ensures.value at (torn_at-some _ c.self.inside.tear c.decode.result _ c.in-Some.start (sym c.in-Some.ensures)) in
    rw (← c.self.view_is) (stops-appended s (g.D.Device.drive c.call.new.device) c.self.inside.uncounted (decode_of c.args.entry.now) c.in-Some.start c.geometry-block.result.block c.args.bytes.now c.call.new.into.items c.in-Ok.field-0 refl (rw (← c.self.view_is) at c.requires.going) torn (rw c.geometry-block.ensures.value refl) c.in-Ok.ensures.gives)

pub returns-in-Err-Refused-clause-halts : goal.returns-in-Err-Refused-clause-halts
returns-in-Err-Refused-clause-halts g c =
    let s = stopping (g.D.Device.drive c.self.inside.device) c.self.inside.limit c.self.inside.tear c.self.inside.uncounted c.self.inside.progress in
    rw (← c.self.view_is) (stops-refused s (g.D.Device.drive c.call.new.device) c.self.inside.uncounted (decode_of c.args.entry.now) c.in-Some.start c.geometry-block.result.block c.args.bytes.now c.call.new.into.items c.in-Err-Refused.field-0-0 refl (rw (← c.self.view_is) at c.requires.going) (rw c.in-Err-Refused.field-0-is at c.in-Err-Refused.ensures.gives))

pub returns-in-Err-Stopped-clause-halts : goal.returns-in-Err-Stopped-clause-halts
returns-in-Err-Stopped-clause-halts g c =
    let s = stopping (g.D.Device.drive c.self.inside.device) c.self.inside.limit c.self.inside.tear c.self.inside.uncounted c.self.inside.progress in
    let torn = rw c.decode.ensures.value at (torn_at-some _ c.self.inside.tear c.decode.result _ c.in-Some.start (sym c.in-Some.ensures)) in
    rw (← c.self.view_is) (stops-stopped s (g.D.Device.drive c.call.new.device) c.self.inside.uncounted (decode_of c.args.entry.now) c.in-Some.start c.geometry-block.result.block c.args.bytes.now c.call.new.into.items refl (rw (← c.self.view_is) at c.requires.going) torn (rw c.geometry-block.ensures.value refl) (rw c.in-Err-Stopped.field-0-is at c.in-Err-Stopped.ensures.gives))
