use Rattle.std.proofs.Common.{refl}
use Rattle.disk_files.proofs.WordLaws.{words_of-IsCons}
use Rattle.disk_files.proofs.trace_line.named_line.Goals as goal

pub returns-in-Remount : goal.returns-in-Remount
returns-in-Remount c = rw (c.in-Remount.is, (words_of-IsCons c.args.words.now).is) refl
