-- A limit of eight doublings or more is none for the largest command.
use Rattle.std.proofs.Common.{⊎_elim, arith}
use Rattle.passthrough.proofs.LimitLaws.{memory_bytes-large}
use Rattle.passthrough.proofs.limits.memory_limit.Goals as goal

pub returns-then-exponent-ge8 : goal.returns-then-exponent-ge8
returns-then-exponent-ge8 c bytes le =
    let cases = c.if-exponent-ge8.either in (
      λ _ some. ⊎_elim (λ none. absurd (some none)) (λ large. omega (arith, memory_bytes-large _ large.1)) cases,
      λ _. le,
    )
