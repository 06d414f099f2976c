use Rattle.std.proofs.Common.{◌≡◌, ◌+◌, ◌*◌, length, ap, arith}
use Rattle.zone_states.specs.declared.geometry.Geometry.{Geometry}
use Rattle.passthrough.proofs.KeptLaws.{filled-kept, front-written, sent-closing}
use Rattle.passthrough.proofs.read_ahead.fill.Goals as goal

pub returns-then-status-ne0-clause-closing : goal.returns-then-status-ne0-clause-closing
returns-then-status-ne0-clause-closing g c = sent-closing _ _ _ _ _ _ _ _ _ c.submit-status.ensures.answers

pub returns-clause-closing : goal.returns-clause-closing
returns-clause-closing g c = sent-closing _ _ _ _ _ _ _ _ _ c.submit-status.ensures.answers

pub returns-clause-kept : goal.returns-clause-kept
returns-clause-kept g c =
    let kept = c.args.kept.now in
    let size = c.args.blocks * (g.P.Passthrough.shape c.args.way.now).block in
    let size_is : c.args.blocks * kept.geometry.block ≡ size = ap (λ (s : Geometry). c.args.blocks * s.block) c.requires.shape in
    let room : length c.submit-status.new.room ≡ size = omega (arith, c.submit-status.auto.room, c.split_at_mut-room.ensures.front_len, size_is) in
    let all : length c.submit-status.new.room + length c.split_at_mut-room.result.1.now ≡ length kept.bytes.items =
    omega (arith, c.submit-status.auto.room, c.split_at_mut-room.ensures.front_len, c.split_at_mut-room.ensures.back_len, c.deref_mut.ensures.len, kept.bytes.ok.0) in
    filled-kept _ _ _ kept _ _ _ _ _ c.requires.shape c.requires.can c.if-status-ne0.false c.requires.sent.in_range c.submit-status.ensures.answers c.requires.shape
    (front-written _ size kept.bytes.items _ _ kept.bytes.ok.0 room all)
