use Rattle.std.proofs.Common.{refl}
use Rattle.drive_rescue.proofs.CutLaws.{sought-there}
use Rattle.drive_rescue.proofs.SearchLaws.{gets-block, gets-gap}
use Rattle.drive_rescue.proofs.search.look.Goals as goal

pub read_again-requires-clause-there : goal.read_again-requires-clause-there
read_again-requires-clause-there g c = sought-there (g.S.Source.view c.args.source.now) c.args.zone c.args.search.now.offset c.requires.zone c.requires.in_range

pub returns-in_ok-look_at-in-Held-clause-ok : goal.returns-in_ok-look_at-in-Held-clause-ok
returns-in_ok-look_at-in-Held-clause-ok g c =
    λ finding end is gets. gets-block (g.S.Source.view c.read_again.new.source) c.args.zone finding end c.args.search.now.offset c.args.search.now c.look_at.new.self c.read_again.new.into.items c.deref.result.now refl is c.requires.in_range c.deref.ensures.value
    (rw c.in-Held.is at c.in_ok-read_again.ensures.says) c.in_ok-look_at-in-Held.ensures.holds gets

pub returns-in-Unreadable-clause-ok : goal.returns-in-Unreadable-clause-ok
returns-in-Unreadable-clause-ok g c =
    λ finding end is gets. gets-gap (g.S.Source.view c.read_again.new.source) c.args.zone finding end c.args.search.now.offset c.args.search.now _ c.read_again.new.into.items refl is c.requires.in_range (rw c.in-Unreadable.is at c.in_ok-read_again.ensures.says) c.pass.ensures.holds gets
