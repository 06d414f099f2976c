use Rattle.std.proofs.Common.{arith}
use Rattle.drive_journal.proofs.ReplayLaws.{so-far-all, so-far-cut, so-far-damaged, so-far-earlier, so-far-more, so-far-none, so-far-other, so-far-whole}
use Rattle.drive_journal.proofs.replaying.replay.Goals as goal

pub loop-init : goal.loop-init
loop-init g c = so-far-none c.args.geometry.now _ c.args.zones.now c.args.from

pub returns-in-End-clause-ok : goal.returns-in-End-clause-ok
returns-in-End-clause-ok g c =
    rw c.ends.ensures (so-far-all c.args.geometry.now _ (g.R.Read.remaining c.loop.reader) c.args.zones.now c.loop.zones c.args.from c.loop.at c.loop.sum c.loop.invariant c.requires.in_range c.requires.whole (rw c.in-End.is at c.in_ok-next.ensures.ok))

pub returns-in-End-clause-whole : goal.returns-in-End-clause-whole
returns-in-End-clause-whole g c =
    so-far-whole c.args.geometry.now (g.R.Read.remaining c.args.reader.now) (g.R.Read.remaining c.loop.reader) c.args.zones.now c.loop.zones c.args.from c.loop.at c.loop.sum c.loop.invariant c.requires.in_range c.requires.whole

pub returns-in-CutOff-clause-ok : goal.returns-in-CutOff-clause-ok
returns-in-CutOff-clause-ok g c =
    rw c.ends-in-CutOff.ensures (so-far-cut c.args.geometry.now _ (g.R.Read.remaining c.loop.reader) c.args.zones.now c.loop.zones c.args.from c.loop.at c.loop.sum c.loop.invariant c.requires.in_range c.requires.whole (rw c.in-CutOff.is at c.in_ok-next.ensures.ok))

pub returns-in-CutOff-clause-whole : goal.returns-in-CutOff-clause-whole
returns-in-CutOff-clause-whole g c =
    so-far-whole c.args.geometry.now (g.R.Read.remaining c.args.reader.now) (g.R.Read.remaining c.loop.reader) c.args.zones.now c.loop.zones c.args.from c.loop.at c.loop.sum c.loop.invariant c.requires.in_range c.requires.whole

pub returns-in-Damaged-clause-err : goal.returns-in-Damaged-clause-err
returns-in-Damaged-clause-err g c =
    so-far-damaged c.args.geometry.now _ (g.R.Read.remaining c.loop.reader) c.args.zones.now c.loop.zones c.args.from c.loop.at c.loop.sum c.loop.invariant (rw c.in-Damaged.is at c.in_ok-next.ensures.ok)

pub returns-in-Earlier-clause-err : goal.returns-in-Earlier-clause-err
returns-in-Earlier-clause-err g c =
    rw c.other_fault.ensures (so-far-earlier c.args.geometry.now _ (g.R.Read.remaining c.loop.reader) c.args.zones.now c.loop.zones c.args.from c.loop.at c.loop.sum c.loop.invariant (rw c.in-Earlier.is at c.in_ok-next.ensures.ok))

pub returns-in-Other-clause-err : goal.returns-in-Other-clause-err
returns-in-Other-clause-err g c =
    rw c.other_fault-in-Other.ensures (so-far-other c.args.geometry.now _ (g.R.Read.remaining c.loop.reader) c.args.zones.now c.loop.zones c.args.from c.loop.at c.loop.sum c.loop.invariant (rw c.in-Other.is at c.in_ok-next.ensures.ok))

pub loop-preserved : goal.loop-preserved
loop-preserved g c =
    so-far-more c.args.geometry.now _ (g.R.Read.remaining c.loop.reader) _ _ c.loop.zones _ c.args.from c.loop.at _ c.loop.sum _ (record { entry = c.read_change.new.entry; bytes = c.read_change.new.bytes.items }) c.loop.invariant
    (rw c.in-Change.is at c.in_ok-next.ensures.ok) (rw (c.decode.ensures.value, c.deref.ensures.value) at c.in_ok-apply_change.ensures)
    (omega (arith, c.in-Some.ensures.1, c.len.ensures, c.read_change.new.bytes.ok.0))
