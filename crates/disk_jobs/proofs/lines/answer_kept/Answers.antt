use Rattle.disk_jobs.proofs.MountLaws.{shown_told}
use Rattle.disk_jobs.proofs.StoreLaws.{stores-drive}
use Rattle.disk_jobs.proofs.lines.answer_kept.Goals as goal

pub returns-clause-leaves : goal.returns-clause-leaves
returns-clause-leaves g c =
    let drive = c.run_lines-device.result.0.drive in
    let left = c.leave-left.ensures.left in
    record {
      drive = drive;
      answers = record {
        ran = c.run_lines-device.result.2;
        middle = g.W.Write.contents c.run_lines-device.new.output;
        runs = c.run_lines-device.ensures.runs;
        shows = c.show_after-shown.ensures;
      };
      failed_is = left.failed_is;
      back = left.back;
      stored = stores-drive c.args.job.now c.args.stored.device.contents (g.S.ChangeStore.held c.leave-left.result.1) drive c.requires left.stored;
      mounting = shown_told c.args.job.now _ _ _ _ _ _ _ _ c.show_after-shown.ensures c.run_lines-device.ensures.mounting;
    }
