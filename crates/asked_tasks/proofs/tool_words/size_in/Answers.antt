use Rattle.std.proofs.Common.{refl}
use Rattle.asked_tasks.proofs.ToolLaws.{lettered, none-mapped, of-bytes, some-mapped, unlettered}
use Rattle.asked_tasks.proofs.tool_words.size_in.Goals as goal

pub returns-in-Some-clause-none : goal.returns-in-Some-clause-none
returns-in-Some-clause-none c = none-mapped c.in_bytes.result (lettered c.args.text.now c.in-Some.digits.now 75 1024 c.in-Some.ensures refl refl) c.in_bytes.ensures.none

pub returns-in-Some-before_letter-clause-none : goal.returns-in-Some-before_letter-clause-none
returns-in-Some-before_letter-clause-none c =
    none-mapped c.in_bytes-in-Some-before_letter.result (lettered c.args.text.now c.in-Some-before_letter.digits.now 77 1048576 c.in-Some-before_letter.ensures refl refl) c.in_bytes-in-Some-before_letter.ensures.none

pub returns-in-Some-before_letter-2-clause-none : goal.returns-in-Some-before_letter-2-clause-none
returns-in-Some-before_letter-2-clause-none c =
    none-mapped c.in_bytes-in-Some-before_letter-2.result (lettered c.args.text.now c.in-Some-before_letter-2.digits.now 71 1073741824 c.in-Some-before_letter-2.ensures refl refl) c.in_bytes-in-Some-before_letter-2.ensures.none

pub returns-in-Some-before_letter-3-clause-none : goal.returns-in-Some-before_letter-3-clause-none
returns-in-Some-before_letter-3-clause-none c =
    none-mapped c.in_bytes-in-Some-before_letter-3.result (lettered c.args.text.now c.in-Some-before_letter-3.digits.now 84 1099511627776 c.in-Some-before_letter-3.ensures refl refl) c.in_bytes-in-Some-before_letter-3.ensures.none

pub returns-clause-some : goal.returns-clause-some
returns-clause-some c = some-mapped c.in_bytes-2.result (of-bytes c.args.text.now) c.in_bytes-2.ensures.some

pub returns-clause-none : goal.returns-clause-none
returns-clause-none c =
    none-mapped c.in_bytes-2.result (unlettered c.args.text.now c.in_default.ensures c.in_default-before_letter.ensures c.in_default-before_letter-2.ensures c.in_default-before_letter-3.ensures) c.in_bytes-2.ensures.none
