use Rattle.file_drive.specs.Finds.{Finds, empty_zones}
use Rattle.file_drive.specs.Storing.{HasHead}
use Rattle.file_drive.specs.declared.boot.Boot.{Boot}
use Rattle.file_drive.proofs.FormatLaws.{fresh-finds}
use Rattle.file_drive.proofs.StoringLaws.{on-ok}
use Rattle.file_drive.proofs.fresh.format.Goals as goal

pub returns-clause-fresh : goal.returns-clause-fresh
returns-clause-fresh g c =
    let geometry = c.args.geometry.now in
    let new = g.F.FileBytes.seen c.put_head.new.file in
    on-ok c.put_head.result (HasHead geometry (g.F.FileBytes.seen c.put_zeros.new.file) new) ((boot : Boot) → Finds geometry boot new (empty_zones geometry))
    (λ head boot. fresh-finds geometry boot new c.requires.in_range (rw c.in_ok-put_zeros.ensures.zeros at head.beside) head.words) c.put_head.ensures.head

pub returns-clause-whole : goal.returns-clause-whole
returns-clause-whole g c unnamed bytes may named boot =
    let head = c.put_head.ensures.left (c.put_zeros.ensures.unnamed unnamed) bytes may named in
    fresh-finds c.args.geometry.now boot bytes c.requires.in_range (rw c.in_ok-put_zeros.ensures.zeros at head.beside) head.words

pub returns-in_err-put_zeros-clause-whole : goal.returns-in_err-put_zeros-clause-whole
returns-in_err-put_zeros-clause-whole g c unnamed bytes may named boot = absurd (c.put_zeros.ensures.unnamed unnamed bytes may named)
