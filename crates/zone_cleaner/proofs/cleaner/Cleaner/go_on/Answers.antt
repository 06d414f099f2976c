use Rattle.std.proofs.Common.{◌≡◌, [], Result, Err, ap, sym, subst, ◌∙◌}
use Rattle.std.specs.Prelude.{IsTrue}
use Rattle.zone_choice.specs.Agreement.{MountedView, mounted}
use Rattle.zone_choice.specs.Tables.{TablesView}
use Rattle.zone_cleaner.specs.Answering.{PassAnswers, TurnAnswers}
use Rattle.zone_cleaner.specs.Start.{is_given_up, unfinished}
use Rattle.zone_cleaner.specs.declared.fault.CleanFault.{CleanFault}
use Rattle.zone_cleaner.proofs.PassLaws.{failed-pass, none-pass, turn-pass}
use Rattle.zone_cleaner.proofs.cleaner.Cleaner.go_on.Goals as goal

pub returns-then-not-readies-clause-answers : goal.returns-then-not-readies-clause-answers
returns-then-not-readies-clause-answers g c = λ clean.
    let up : IsTrue c.readies.new.disk.drive.clean = subst (λ (m : MountedView). IsTrue m.drive.clean) c.disk.view_is clean in
    let tables = ap (λ m. m.tables) c.disk.view_is in
    none-pass c.args.disk.now c.readies.new.disk (mounted (g.D.Device.drive c.disk.inside.device) c.none_to_clean.new.tables) c.args.self.now c.readies.new.self c.none_to_clean.result (c.readies.ensures.ready up)
    (sym c.readies.ensures.runs ∙ c.if-not-readies.true) (c.none_to_clean.ensures.fault ∙ ap unfinished tables) (ap (λ m. m.drive) c.disk.view_is) (c.none_to_clean.ensures.lost ∙ ap (λ (t : TablesView). record t { unreadable = [] }) tables)

pub turn-result-requires-clause-cleaned : goal.turn-result-requires-clause-cleaned
turn-result-requires-clause-cleaned g c = λ clean. (c.readies.ensures.ready clean).agrees

pub returns-then-is_given_up-clause-answers : goal.returns-then-is_given_up-clause-answers
returns-then-is_given_up-clause-answers g c = λ clean.
    let ready = c.readies.ensures.ready (c.turn-result.ensures.stays.shape.trusted clean) in
    let failed = c.has_failed.ensures c.if-has_failed.true in
    let turn = subst (λ (r : Result (Unit {0}) CleanFault). TurnAnswers c.readies.new.disk c.readies.new.self r c.turn-result.new.disk c.turn-result.new.self) failed (c.turn-result.ensures.answers clean) in
    failed-pass c.args.disk.now c.readies.new.disk c.turn-result.new.disk c.args.self.now c.readies.new.self c.turn-result.new.self (sym c.readies.ensures.runs ∙ c.if-not-readies.false) ready turn
    (sym (ap (λ (m : MountedView). is_given_up m.tables c.turn-result.new.self) c.disk-2.view_is) ∙ sym c.is_given_up.ensures ∙ c.if-is_given_up.true)

pub returns-clause-answers : goal.returns-clause-answers
returns-clause-answers g c = λ clean.
    let ready = c.readies.ensures.ready (c.turn-result.ensures.stays.shape.trusted clean) in
    let runs = sym c.readies.ensures.runs ∙ c.if-not-readies.false in
    turn-pass c.args.disk.now c.readies.new.disk c.turn-result.new.disk c.args.self.now c.readies.new.self c.turn-result.new.self c.turn-result.result runs ready (c.turn-result.ensures.answers clean)
