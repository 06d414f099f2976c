use Rattle.std.proofs.Common.{sym, ◌∙◌}
use Rattle.std.proofs.lemmas.Map.Keys.{ge_from_not_lt}
use Rattle.drive_survey.proofs.RecordNewestLaws.{empty-newest, last-newest, none-empty}
use Rattle.drive_survey.proofs.clearing.block_records.BlockRecords.newest.Goals as goal

pub returns-in_err-found : goal.returns-in_err-found
returns-in_err-found c = λ logs holds some.
    c.from_residual-in_err-found.ensures ∙ empty-newest logs c.args.self.now c.args.block c.in_ok-held.held.now (sym c.in_ok-held.ensures.value) (none-empty c.in_ok-held.held.now (λ lt. let bad = c.in_err-found.ensures.variant.1 lt in absurd (cc))) holds

pub returns : goal.returns
returns c = λ logs holds some.
    last-newest logs c.args.self.now c.args.block c.in_ok-found.field-0-0.now c.in_ok-held.held.now c.in_ok-found.found.now (sym c.in_ok-held.ensures.value) c.in_ok-found.ensures.value
    (λ q there. ge_from_not_lt c.in_ok-found.field-0-0.now q (c.in_ok-found.ensures.greatest q there)) holds
