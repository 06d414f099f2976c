use Rattle.std.proofs.Common.{◌∙◌, ◌++◌, ◌∷◌, [], Bool, List, sym, ap, arith}
use Rattle.std.specs.Prelude.{slice_get}
use Rattle.std.proofs.lemmas.List.FromFn.{map-range_with_len_more}
use Rattle.remount.specs.Mounting.{empties, is_empty_reported}
use Rattle.remount.proofs.tables.roles.empty_marks.Goals as goal

pub loop-zone-preserved : goal.loop-zone-preserved
loop-zone-preserved c =
    let more = map-range_with_len_more (λ zone. is_empty_reported (slice_get c.args.reported.now zone)) 0 c.loop-zone.zone c.loop-zone.zone (omega arith) in
    c.in_ok-push.ensures.items
    ∙ ap (λ (marks : List Bool). marks ++ c.is_empty_at.result ∷ []) c.loop-zone.invariant
    ∙ ap (λ (b : Bool). empties c.args.reported.now c.loop-zone.zone ++ b ∷ []) c.is_empty_at.ensures
    ∙ sym more
