use Rattle.std.proofs.Common.{◌≡◌, ◌∙◌, refl}
use Rattle.drive_array.specs.ZoneLogs.{sequences}
use Rattle.yardsticks.specs.Zones.{held_logs}
use Rattle.yardsticks.proofs.MountableLaws.{inside-logs, logs-inside}
use Rattle.yardsticks.proofs.mountable.are_sound.Goals as goal

pub returns : goal.returns
returns c =
    let logs = c.args.logs.now in
    let below : c.deref.result.now ≡ sequences (held_logs logs) = c.deref.ensures.value ∙ c.in_ok-numbers.ensures in
    let apart : c.deref-2.result.now ≡ sequences (held_logs logs) = c.deref-2.ensures.value ∙ c.in_ok-numbers.ensures in
    let inside = rw c.encoded_size.ensures at c.are_inside.ensures in (
      λ e. record { numbers = rw below at (c.if-not-are_below.ensures.0 refl); inside = logs-inside _ logs (inside.0 e); distinct = rw apart at (c.if-not-are_distinct.ensures.0 refl) },
      λ sound. inside.1 (inside-logs _ logs sound.inside),
    )
