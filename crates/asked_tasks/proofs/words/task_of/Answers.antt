use Rattle.std.proofs.Common.{◌≡◌, Err, Ok, map, string_bytes, rules}
use Rattle.clap.specs.Walk.{texts}
use Rattle.command_line.specs.Program.{habit_names}
use Rattle.asked_tasks.proofs.WordLaws.{asks_too, fails, refusal_is, refused_by_clap, refused_by_matches, same_kind}
use Rattle.asked_tasks.proofs.words.task_of.Goals as goal

pub returns-in-Ok-asked : goal.returns-in-Ok-asked
returns-in-Ok-asked c =
    let names = c.as_slice.result in
    let command = c.in_ok-program.program in
    let words = map string_bytes c.args.words.now in
    let matches = c.in-Ok.matches in
    let are_habits : texts names.now ≡ habit_names = search rules in
    record {
      names = names;
      are_habits = are_habits;
      task = record {
        taken = fails names command words (Ok matches) c.in_ok-program.ensures c.in-Ok.ensures.kinds;
        asks = asks_too names command words matches c.in-Ok-asked.task c.in_ok-program.ensures c.in-Ok.ensures.ok.2 c.in-Ok-asked.ensures.value;
      };
      refusal = tt;
    }

-- an error that is told in other words has the same kind
pub returns-in-Err : goal.returns-in-Err
returns-in-Err c =
    let names = c.as_slice.result in
    let words = map string_bytes c.args.words.now in
    let error = c.in-Err.error in
    let own = c.in_ok-in_own_words-in-Err.field-0 in
    let are_habits : texts names.now ≡ habit_names = search rules in
    let has_kind = fails names c.in_ok-program.program words (Err error) c.in_ok-program.ensures c.in-Err.ensures.kinds in
    refusal_is names words own are_habits (same_kind names words error own c.in_ok-in_own_words-in-Err.ensures (refused_by_clap names words error has_kind))

pub returns : goal.returns
returns c =
    let names = c.as_slice.result in
    let command = c.in_ok-program.program in
    let words = map string_bytes c.args.words.now in
    let error = c.in_ok-refusal-in-Err-asked.field-0 in
    let are_habits : texts names.now ≡ habit_names = search rules in
    let refuses = refused_by_matches names command words c.in-Ok.matches c.in-Err-asked.fault error c.in_ok-program.ensures c.in-Ok.ensures.ok.2 c.in_ok-refusal-in-Err-asked.ensures c.in-Err-asked.ensures.fault in
    refusal_is names words error are_habits refuses
