use Rattle.disk_jobs.proofs.StoreLaws.{begins-stored}
use Rattle.disk_jobs.proofs.program.run_job.Goals as goal

pub answer-answered-requires : goal.answer-answered-requires
answer-answered-requires g c =
    begins-stored c.args.job.now (g.S.ChangeStore.held c.args.file.store) (g.I.Read.remaining c.args.file.bytes) c.in-Ok-Some.begun c.requires (rw c.in-Ok-Some.field-0-is at c.in-Ok-Some.ensures.ok).0

pub returns-in-Ok-clause-left : goal.returns-in-Ok-clause-left
returns-in-Ok-clause-left g c = record {
  first = c.in-Ok-Some.begun;
  begins = (rw c.in-Ok-Some.field-0-is at c.in-Ok-Some.ensures.ok).0;
  was_image = c.answer-answered.ensures.was_image;
  leaves = rw (c.in-Ok.is, (rw c.in-Ok-Some.field-0-is at c.in-Ok-Some.ensures.ok).1) at c.answer-answered.ensures.leaves;
}
