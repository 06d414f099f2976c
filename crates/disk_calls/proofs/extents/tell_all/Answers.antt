use Rattle.std.proofs.Common.{arith}
use Rattle.disk_calls.proofs.ExtentLaws.{enough-talk, told-enough, told-next, told-none, told-talk}
use Rattle.disk_calls.proofs.extents.tell_all.Goals as goal

pub loop-at-init : goal.loop-at-init
loop-at-init g c = told-none c.args.disk.now c.args.first c.args.end (g.H.Host.talk c.args.host.now) (omega (arith, c.requires.some)) c.requires.fresh

pub returns-then-not-tell-clause-tells : goal.returns-then-not-tell-clause-tells
returns-then-not-tell-clause-tells g c = λ clean known serving. told-enough c.args.disk.now c.args.first c.args.end c.loop-at.at (g.H.Host.talk c.args.host.now) (g.H.Host.talk c.loop-at.host) (g.H.Host.talk c.tell.new.self) c.extent_from-extent.result c.loop-at.invariant c.extent_from-extent.ensures.is c.extent_from-extent.ensures.within (rw c.if-not-tell.true at c.tell.ensures) clean known serving

pub loop-at-preserved : goal.loop-at-preserved
loop-at-preserved g c = told-next c.args.disk.now c.args.first c.args.end c.loop-at.at (g.H.Host.talk c.args.host.now) (g.H.Host.talk c.loop-at.host) (g.H.Host.talk c.tell.new.self) c.extent_from-extent.result c.loop-at.invariant c.extent_from-extent.ensures.is c.extent_from-extent.ensures.within (rw c.if-not-tell.false at c.tell.ensures)

pub returns-then-not-tell-clause-talk : goal.returns-then-not-tell-clause-talk
returns-then-not-tell-clause-talk g c = enough-talk c.args.disk.now c.args.first c.args.end c.loop-at.at (g.H.Host.talk c.args.host.now) (g.H.Host.talk c.loop-at.host) (g.H.Host.talk c.tell.new.self) c.extent_from-extent.result c.loop-at.invariant (rw c.if-not-tell.true at c.tell.ensures)

pub returns-clause-talk : goal.returns-clause-talk
returns-clause-talk g c = told-talk c.args.disk.now c.args.first c.args.end c.loop-at.at (g.H.Host.talk c.args.host.now) (g.H.Host.talk c.loop-at.host) c.loop-at.invariant
