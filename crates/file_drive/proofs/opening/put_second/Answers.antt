use Rattle.std.proofs.Common.{rules, ◌≡◌, ap, refl, inl, arith}
use Rattle.file_drive.specs.Head.{boot_in}
use Rattle.file_drive.specs.Layout.{word_in}
use Rattle.file_drive.specs.declared.boot.Boot.{Boot}
use Rattle.file_drive.proofs.PartLaws.{word-beside}
use Rattle.file_drive.proofs.TakeLaws.{follows-by, keeps-boot, read-boot}
use Rattle.file_drive.proofs.opening.put_second.Goals as goal

pub returns-in_err-put_word-clause-leaves : goal.returns-in_err-put_word-clause-leaves
returns-in_err-put_word-clause-leaves g c =
    follows-by c.args.found.now.head.geometry 72 8 _ _ (keeps-boot c.args.found.now.head.geometry 72 (omega arith) (omega arith)) c.put_word.ensures.leaves

pub returns-clause-read : goal.returns-clause-read
returns-clause-read g c =
    let old = g.F.FileBytes.seen c.args.file.now in
    let new = g.F.FileBytes.seen c.put_word.new.file in
    let is : word_in new 72 ≡ c.args.word = search rules in
    let boot : boot_in new ≡ record c.args.found.now.head.boot { second = c.args.word } = rw (is, word-beside 72 8 64 old new c.put_word.ensures.beside (inl (omega arith)), ap (λ (b : Boot). b.first) c.requires.head.boot_is) refl in
    read-boot old new c.args.found.now 72 _ (omega arith) (omega arith) c.put_word.ensures.beside boot c.requires

pub returns-clause-keeps : goal.returns-clause-keeps
returns-clause-keeps g c = keeps-boot c.args.found.now.head.geometry 72 (omega arith) (omega arith) _ _ c.put_word.ensures.beside

pub returns-clause-leaves : goal.returns-clause-leaves
returns-clause-leaves g c =
    follows-by c.args.found.now.head.geometry 72 8 _ _ (keeps-boot c.args.found.now.head.geometry 72 (omega arith) (omega arith)) c.put_word.ensures.leaves
