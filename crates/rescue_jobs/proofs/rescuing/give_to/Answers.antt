use Rattle.drive_rescue.proofs.KeepLaws.{keeps-source_none}
use Rattle.rescue_jobs.proofs.IntoLaws.{all-written}
use Rattle.rescue_jobs.proofs.rescuing.give_to.Goals as goal

pub returns-in_default-clause-kept : goal.returns-in_default-clause-kept
returns-in_default-clause-kept g c = keeps-source_none (g.S.Source.view c.args.source.now) c.requires.found.1.lawful

pub returns-in_ok-flushed-in-Ok-into_inner-clause-ok : goal.returns-in_ok-flushed-in-Ok-into_inner-clause-ok
returns-in_ok-flushed-in-Ok-into_inner-clause-ok g c = λ given found. record {
  written = c.in-Ok-into_inner.writer;
  gives = all-written (g.S.Source.view c.give.new.source) given c.in-Ok-give.rescued c.args.disk c.in-Ok.writer.inner c.give.new.writer.inner c.in-Ok-into_inner.writer _ _ (rw c.in-Ok.ensures.inner c.new-writer.ensures) c.in-Ok.ensures.empty
      c.in-Ok-into_inner.ensures.ok (c.in-Ok-give.ensures.ok given found);
  flushed = rw c.into_disk.ensures at c.in_ok-flushed-in-Ok-into_inner.ensures;
}
