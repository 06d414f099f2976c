use Rattle.std.proofs.Common.{refl, ap, ◌∙◌}
use Rattle.std.proofs.lemmas.Bool.{false≢true}
use Rattle.std.proofs.lemmas.Result.{IfOk-weaker}
use Rattle.yardsticks.specs.Zones.{held_log, held_logs}
use Rattle.yardsticks.proofs.SpareLaws.{half_clean-is, log-read, not_half_clean-mixed, victim-is}
use Rattle.yardsticks.proofs.spare.is_half_clean.Goals as goal

pub returns-in_default : goal.returns-in_default
returns-in_default c =
    let read = ap held_log c.deref.ensures.value ∙ log-read c.args.logs.now c.args.zone c.index-logs-zone.result c.requires c.index-logs-zone.is in
    let none = rw c.in_default.is at c.moved_from.ensures.none in
    (λ e. absurd (false≢true e), λ half. absurd (not_half_clean-mixed c.args.block_bytes c.args.n (held_logs c.args.logs.now) c.args.zone c.deref.result.now read none half))

pub returns-then-source-zone : goal.returns-then-source-zone
returns-then-source-zone c =
    let read = ap held_log c.deref.ensures.value ∙ log-read c.args.logs.now c.args.zone c.index-logs-zone.result c.requires c.index-logs-zone.is in
    let some = rw c.in-Some.is at c.moved_from.ensures.some in
    (λ e. absurd (false≢true e), λ half. absurd (half.apart (victim-is c.args.block_bytes c.args.n (held_logs c.args.logs.now) c.args.zone c.in-Some.source c.deref.result.now read some.1 half ∙ c.if-source-zone.true)))

pub returns-then-not-is_older : goal.returns-then-not-is_older
returns-then-not-is_older c =
    let read = ap held_log c.deref.ensures.value ∙ log-read c.args.logs.now c.args.zone c.index-logs-zone.result c.requires c.index-logs-zone.is in
    let some = rw c.in-Some.is at c.moved_from.ensures.some in (
      λ e. absurd (false≢true e),
      λ half.
          let victim = victim-is c.args.block_bytes c.args.n (held_logs c.args.logs.now) c.args.zone c.in-Some.source c.deref.result.now read some.1 half in
          absurd (false≢true (c.if-not-is_older.ensures.1 (rw victim at half.older))),
    )

pub returns : goal.returns
returns c =
    let read = ap held_log c.deref.ensures.value ∙ log-read c.args.logs.now c.args.zone c.index-logs-zone.result c.requires c.index-logs-zone.is in
    let some = rw c.in-Some.is at c.moved_from.ensures.some in
    IfOk-weaker c.is_spare.result _ _ (λ b spare. (
      λ e. half_clean-is c.args.block_bytes c.args.n (held_logs c.args.logs.now) c.args.zone c.in-Some.source c.deref.result.now read some.1 c.if-source-zone.false (c.if-not-is_older.ensures.0 refl) (spare.0 e),
      λ half. spare.1 half.spare,
    )) c.is_spare.ensures
