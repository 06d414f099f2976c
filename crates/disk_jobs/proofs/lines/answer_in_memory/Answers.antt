use Rattle.std.proofs.Common.{refl}
use Rattle.disk_jobs.proofs.MountLaws.{shown_told}
use Rattle.disk_jobs.proofs.StoreLaws.{stores-nothing}
use Rattle.disk_jobs.proofs.lines.answer_in_memory.Goals as goal

pub returns-clause-leaves : goal.returns-clause-leaves
returns-clause-leaves g c =
    let left = c.run_lines-drive.result.0.state in
    record {
      drive = left;
      answers = record {
        ran = c.run_lines-drive.result.2;
        middle = g.W.Write.contents c.run_lines-drive.new.output;
        runs = c.run_lines-drive.ensures.runs;
        shows = c.show_after-shown.ensures;
      };
      failed_is = c.has_failed.ensures;
      back = λ kept. (refl, refl);
      stored = stores-nothing c.args.job.now (g.S.ChangeStore.held c.args.start.store) left c.requires;
      mounting = shown_told c.args.job.now _ _ _ _ _ _ _ _ c.show_after-shown.ensures c.run_lines-drive.ensures.mounting;
    }
