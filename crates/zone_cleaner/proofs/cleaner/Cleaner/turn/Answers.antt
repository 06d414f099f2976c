use Rattle.zone_cleaner.proofs.TurnLaws.{on-done, refused-turns, turn_gives}
use Rattle.zone_cleaner.proofs.cleaner.Cleaner.turn.Goals as goal

pub returns-clause-answers : goal.returns-clause-answers
returns-clause-answers g c = λ clean.
    let is = c.requires.cleaned (c.step.ensures.stays.shape.trusted clean) in
    let leaves = c.step.ensures.leaves clean in
    record {
      leaves = leaves;
      cleaning = turn_gives _ _ c.args.self.now c.step.new.self c.step.result is leaves;
      done = on-done _ _ c.args.self.now c.step.new.self c.step.result is leaves;
      refused = refused-turns _ _ c.args.self.now c.step.new.self _ c.step.result leaves;
      completed = c.step.ensures.completed;
    }
