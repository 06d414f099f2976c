use Rattle.std.proofs.Common.{inl, inr, sym, ◌∙◌}
use Rattle.drive_survey.proofs.MovedLaws.{first-missing, first-some, not-there, not-told, tells-older, there, victim-missing}
use Rattle.drive_survey.proofs.clearing.moved.is_moved.Goals as goal

pub returns-then-not-are_moves-clause-right : goal.returns-then-not-are_moves-clause-right
returns-then-not-are_moves-clause-right c = λ logs are. not-told c.args.scanned.now logs c.args.zone c.in-Some.found.now are (there c.args.scanned.now c.args.zone c.in-Some.found.now c.in-Some.ensures.lookup.3.0 c.in-Some.ensures.lookup.1) (λ told. absurd (let e = told.moves in let f = c.if-not-are_moves.ensures in cc))

pub returns-then-source-zone-clause-right : goal.returns-then-source-zone-clause-right
returns-then-source-zone-clause-right c = λ logs are. not-told c.args.scanned.now logs c.args.zone c.in-Some.found.now are (there c.args.scanned.now c.args.zone c.in-Some.found.now c.in-Some.ensures.lookup.3.0 c.in-Some.ensures.lookup.1) (λ told. told.apart (sym c.source-source.ensures ∙ c.if-source-zone.true))

pub returns-in_default-get-clause-right : goal.returns-in_default-get-clause-right
returns-in_default-get-clause-right c = λ logs are. not-told c.args.scanned.now logs c.args.zone c.in-Some.found.now are (there c.args.scanned.now c.args.zone c.in-Some.found.now c.in-Some.ensures.lookup.3.0 c.in-Some.ensures.lookup.1)
    (victim-missing c.args.scanned.now logs c.args.zone c.source-source.result c.in-Some.found.now.heads (sym c.source-source.ensures) are (not-there c.args.scanned.now c.source-source.result c.in_default-get.ensures.lookup.3))

pub returns-in_default-first_sequence-clause-right : goal.returns-in_default-first_sequence-clause-right
returns-in_default-first_sequence-clause-right c = λ logs are. not-told c.args.scanned.now logs c.args.zone c.in-Some.found.now are (there c.args.scanned.now c.args.zone c.in-Some.found.now c.in-Some.ensures.lookup.3.0 c.in-Some.ensures.lookup.1)
    (first-missing c.args.scanned.now logs c.args.zone c.source-source.result c.in-Some.found.now c.in-Some-get.victim.now (sym c.source-source.ensures) are (there c.args.scanned.now c.args.zone c.in-Some.found.now c.in-Some.ensures.lookup.3.0 c.in-Some.ensures.lookup.1)
    (there c.args.scanned.now c.source-source.result c.in-Some-get.victim.now c.in-Some-get.ensures.lookup.3.0 c.in-Some-get.ensures.lookup.1) (inl (sym c.in_default-first_sequence.ensures)))

pub returns-in_default-first_sequence-2-clause-right : goal.returns-in_default-first_sequence-2-clause-right
returns-in_default-first_sequence-2-clause-right c = λ logs are. not-told c.args.scanned.now logs c.args.zone c.in-Some.found.now are (there c.args.scanned.now c.args.zone c.in-Some.found.now c.in-Some.ensures.lookup.3.0 c.in-Some.ensures.lookup.1)
    (first-missing c.args.scanned.now logs c.args.zone c.source-source.result c.in-Some.found.now c.in-Some-get.victim.now (sym c.source-source.ensures) are (there c.args.scanned.now c.args.zone c.in-Some.found.now c.in-Some.ensures.lookup.3.0 c.in-Some.ensures.lookup.1)
    (there c.args.scanned.now c.source-source.result c.in-Some-get.victim.now c.in-Some-get.ensures.lookup.3.0 c.in-Some-get.ensures.lookup.1) (inr (sym c.in_default-first_sequence-2.ensures)))

pub returns-clause-right : goal.returns-clause-right
returns-clause-right c = λ logs are. tells-older c.args.scanned.now logs c.args.zone c.source-source.result _ _ c.in-Some.found.now c.in-Some-get.victim.now (sym c.source-source.ensures) are
    (there c.args.scanned.now c.args.zone c.in-Some.found.now c.in-Some.ensures.lookup.3.0 c.in-Some.ensures.lookup.1)
    (there c.args.scanned.now c.source-source.result c.in-Some-get.victim.now c.in-Some-get.ensures.lookup.3.0 c.in-Some-get.ensures.lookup.1)
    (sym c.if-not-are_moves.ensures) c.if-source-zone.false c.in-Some-first_sequence.ensures c.in-Some-first_sequence-2.ensures

pub returns-clause-some : goal.returns-clause-some
returns-clause-some c = λ told. (c.in-Some.found.now, there c.args.scanned.now c.args.zone c.in-Some.found.now c.in-Some.ensures.lookup.3.0 c.in-Some.ensures.lookup.1, first-some c.in-Some.found.now.heads.heads _ c.in-Some-first_sequence-2.ensures)
