use Rattle.std.proofs.Common.{ℕ, ◌≡◌, ◌+◌, ◌≤◌, false, inr, List, refl, sym, ap, subst, ◌∙◌, arith}
use Rattle.drive_survey.specs.declared.scan.ScannedZone.{ScannedZone}
use Rattle.drive_survey.specs.Heads.{greatest_sequence, sequences_in}
use Rattle.drive_survey.specs.Scan.{heads_in}
use Rattle.remount.specs.Torn.{IsNextTorn, is_torn_in}
use Rattle.remount.proofs.TornPlanLaws.{answer-past, answer-plan, answer-spent, answer-two, is-ready, none-torn, some-of}
use Rattle.remount.proofs.repair.torn.plan_repair.Goals as goal

pub returns-in_default-clause-ok : goal.returns-in_default-clause-ok
returns-in_default-clause-ok c = λ drive logs same known.
    let none : (zone : ℕ) → 0 ≤ zone → is_torn_in c.args.survey.now.scanned.items zone ≡ false = subst (λ (zs : List ScannedZone). (zone : ℕ) → 0 ≤ zone → is_torn_in zs zone ≡ false) c.deref.ensures.value c.in_default.ensures.none in
    none-torn drive c.args.survey.now.given logs c.args.survey.now known none

pub returns-then-is_some-clause-err : goal.returns-then-is_some-clause-err
returns-then-is_some-clause-err c =
    let survey = c.args.survey.now in
    let zone = c.in-Some.zone in
    let next : IsNextTorn survey.scanned.items 0 zone = subst (λ (zs : List ScannedZone). IsNextTorn zs 0 zone) c.deref.ensures.value c.in-Some.ensures.some in
    let second = some-of (IsNextTorn c.deref-2.result.now (zone + 1)) c.find_torn-2.result (sym c.if-is_some.ensures) c.find_torn-2.ensures.some in
    inr (answer-two c.args.geometry.now c.args.survey.now.given survey zone second.0 next (subst (λ (zs : List ScannedZone). IsNextTorn zs (zone + 1) second.0) c.deref-2.ensures.value second.1))

pub live_blocks-requires-clause-few : goal.live_blocks-requires-clause-few
live_blocks-requires-clause-few c = c.in_ok-tables.ensures.few

pub live_blocks-requires-clause-zone : goal.live_blocks-requires-clause-zone
live_blocks-requires-clause-zone c =
    let survey = c.args.survey.now in
    let zone = c.in-Some.zone in
    let next : IsNextTorn survey.scanned.items 0 zone = subst (λ (zs : List ScannedZone). IsNextTorn zs 0 zone) c.deref.ensures.value c.in-Some.ensures.some in
    omega (arith, next.in_range, c.in_ok-tables.ensures.zones, c.requires.long)

pub returns-then-geometry-moves-clause-err : goal.returns-then-geometry-moves-clause-err
returns-then-geometry-moves-clause-err c =
    let next = subst (λ (zs : List ScannedZone). IsNextTorn zs 0 c.in-Some.zone) c.deref.ensures.value c.in-Some.ensures.some in
    let ready = is-ready _ _ c.args.survey.now c.in_ok-tables.tables _ _ _ c.len.result _ _ _ _ next c.deref-2.ensures.value c.if-is_some.ensures c.find_torn-2.ensures.none c.in_ok-tables.ensures.placed c.in_ok-live.ensures.blocks c.in_ok-live.ensures.data c.count_moves-moves.ensures.moves c.batch_most.ensures.most (omega (arith, c.len.ensures)) in
    inr (answer-past _ _ _ _ _ _ _ _ ready c.if-geometry-moves.true)

pub returns-then-greatest_sequence-moves-clause-err : goal.returns-then-greatest_sequence-moves-clause-err
returns-then-greatest_sequence-moves-clause-err c =
    let next = subst (λ (zs : List ScannedZone). IsNextTorn zs 0 c.in-Some.zone) c.deref.ensures.value c.in-Some.ensures.some in
    let ready = is-ready _ _ c.args.survey.now c.in_ok-tables.tables _ _ _ c.len.result _ _ _ _ next c.deref-2.ensures.value c.if-is_some.ensures c.find_torn-2.ensures.none c.in_ok-tables.ensures.placed c.in_ok-live.ensures.blocks c.in_ok-live.ensures.data c.count_moves-moves.ensures.moves c.batch_most.ensures.most (omega (arith, c.len.ensures)) in
    let greatest = c.greatest_sequence.ensures ∙ ap (λ (zs : List ScannedZone). greatest_sequence (sequences_in (heads_in zs))) c.deref-3.ensures.value in
    inr (answer-spent _ _ _ _ _ _ _ _ _ ready c.if-geometry-moves.false greatest (omega (arith, c.if-greatest_sequence-moves.true)))

pub returns-clause-ok : goal.returns-clause-ok
returns-clause-ok c =
    let next = subst (λ (zs : List ScannedZone). IsNextTorn zs 0 c.in-Some.zone) c.deref.ensures.value c.in-Some.ensures.some in
    let ready = is-ready _ _ c.args.survey.now c.in_ok-tables.tables _ _ _ c.len.result _ _ _ _ next c.deref-2.ensures.value c.if-is_some.ensures c.find_torn-2.ensures.none c.in_ok-tables.ensures.placed c.in_ok-live.ensures.blocks c.in_ok-live.ensures.data c.count_moves-moves.ensures.moves c.batch_most.ensures.most (omega (arith, c.len.ensures)) in
    let greatest = c.greatest_sequence.ensures ∙ ap (λ (zs : List ScannedZone). greatest_sequence (sequences_in (heads_in zs))) c.deref-3.ensures.value in
    answer-plan _ _ _ _ _ _ _ _ _ _ refl refl c.in_ok-live.ensures.kept ready c.if-geometry-moves.false greatest
    (omega (arith, c.if-greatest_sequence-moves.false, c.if-geometry-moves.false, c.requires.range.capacity, c.requires.range.size))

pub returns-clause-listed : goal.returns-clause-listed
returns-clause-listed c =
    let next : IsNextTorn c.args.survey.now.scanned.items 0 c.in-Some.zone = subst (λ (zs : List ScannedZone). IsNextTorn zs 0 c.in-Some.zone) c.deref.ensures.value c.in-Some.ensures.some in
    record { zone = next.in_range; few = rw c.in_ok-live.ensures.kept c.in_ok-tables.ensures.few; blocks = rw c.in_ok-live.ensures.kept c.in_ok-live.ensures.blocks }
