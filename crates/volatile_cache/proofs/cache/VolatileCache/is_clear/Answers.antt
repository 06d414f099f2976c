use Rattle.std.proofs.Common.{◌≤◌, ◌-◌, leb-true}
use Rattle.volatile_cache.proofs.KeptLaws.{apart-all, apart-before, some-kept}
use Rattle.volatile_cache.proofs.cache.VolatileCache.is_clear.Goals as goal

pub returns-in-Some : goal.returns-in-Some
returns-in-Some g c = record {
  apart = λ clear.
      (let past : c.args.blocks ≤ c.in-Some.place - c.args.first = leb-true c.args.blocks (c.in-Some.place - c.args.first) clear in
      rw (← c.self.view_is) (apart-before c.args.first c.args.blocks c.in-Some.place c.self.inside.queue c.in-Some.ensures past));
  some = λ unclear. rw (← c.self.view_is) (some-kept c.in-Some.place c.self.inside.queue c.in-Some.ensures.1);
}

pub returns-in-None : goal.returns-in-None
returns-in-None g c = record {
  apart = λ clear. rw (← c.self.view_is) (apart-all c.args.first c.args.blocks c.self.inside.queue c.in-None.ensures);
  some = λ unclear. absurd (cc unclear);
}
