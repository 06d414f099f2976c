use Rattle.std.proofs.lemmas.Str.Pattern.{strip_suffix_char}
use Rattle.asked_tasks.proofs.tool_words.before_letter.Goals as goal

pub returns : goal.returns
returns c = strip_suffix_char c.args.letter c.args.text.now c.strip_suffix.result c.strip_suffix.ensures.cases c.requires
