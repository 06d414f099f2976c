use Rattle.job_drives.proofs.KeptLaws.{restarted-stored}
use Rattle.job_drives.proofs.left.keep_restarted.Goals as goal

pub keep-requires : goal.keep-requires
keep-requires g c =
    restarted-stored (g.S.ChangeStore.held c.args.file.store) (g.I.Read.remaining c.args.file.bytes) c.args.habit c.in-Ok.begun c.requires c.in-Ok.ensures.ok
