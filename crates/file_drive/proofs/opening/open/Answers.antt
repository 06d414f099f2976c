use Rattle.std.proofs.Common.{◌∙◌, List, ℕ, ap, subst, sym}
use Rattle.zone_states.specs.declared.geometry.Geometry.{Geometry}
use Rattle.file_drive.specs.Opening.{Unnoticed}
use Rattle.file_drive.specs.Tables.{words_in}
use Rattle.file_drive.proofs.FindsLaws.{shape-is}
use Rattle.file_drive.proofs.OpenedLaws.{unnoticed-synced}
use Rattle.file_drive.proofs.opening.open.Goals as goal

pub returns-in_err-make_ready-clause-unnoticed : goal.returns-in_err-make_ready-clause-unnoticed
returns-in_err-make_ready-clause-unnoticed g c = λ usable geometry is.
    let same = shape-is c.in_ok-found.found.head.geometry geometry (sym c.in_ok-found.ensures.ok.head.words ∙ ap (λ (file : List ℕ). words_in file 0 8) (c.in_default.ensures.seen ∙ c.read_head.ensures.seen) ∙ is) in
    subst (λ (s : Geometry). Unnoticed g.F.FileBytes.seen g.F.FileBytes.may_leave g.S.System.boot s c.args.file.now c.make_ready.new.file) same
    (unnoticed-synced g.F.FileBytes.seen g.F.FileBytes.may_leave g.S.System.boot c.in_ok-found.found.head.geometry c.args.file.now c.read_all.new.file c.make_ready.new.file
    (c.read_all.ensures.seen ∙ c.in_default.ensures.seen ∙ c.read_head.ensures.seen) (λ bytes may. c.read_head.ensures.leaves bytes (c.in_default.ensures.left bytes (c.read_all.ensures.leaves bytes may))) (rw c.boot-boot.ensures at c.make_ready.ensures.unnoticed))

pub returns-clause-unnoticed : goal.returns-clause-unnoticed
returns-clause-unnoticed g c = λ usable geometry is.
    let same = shape-is c.in_ok-found.found.head.geometry geometry (sym c.in_ok-found.ensures.ok.head.words ∙ ap (λ (file : List ℕ). words_in file 0 8) (c.in_default.ensures.seen ∙ c.read_head.ensures.seen) ∙ is) in
    subst (λ (s : Geometry). Unnoticed g.F.FileBytes.seen g.F.FileBytes.may_leave g.S.System.boot s c.args.file.now c.make_ready.new.file) same
    (unnoticed-synced g.F.FileBytes.seen g.F.FileBytes.may_leave g.S.System.boot c.in_ok-found.found.head.geometry c.args.file.now c.read_all.new.file c.make_ready.new.file
    (c.read_all.ensures.seen ∙ c.in_default.ensures.seen ∙ c.read_head.ensures.seen) (λ bytes may. c.read_head.ensures.leaves bytes (c.in_default.ensures.left bytes (c.read_all.ensures.leaves bytes may))) (rw c.boot-boot.ensures at c.make_ready.ensures.unnoticed))
