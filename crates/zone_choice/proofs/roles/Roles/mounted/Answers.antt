use Rattle.std.proofs.Common.{◌≡◌, ◌∙◌, ◌++◌, List, Bool, not, map, sym, ap, arith, append-nil}
use Rattle.std.proofs.lemmas.List.{drop_all}
use Rattle.zone_choice.proofs.MarkLaws.{marked-mounted}
use Rattle.zone_choice.proofs.roles.Roles.mounted.Goals as goal

pub invariant_of-result : goal.invariant_of-result
invariant_of-result c =
    let items = c.deref-mark-items.result.now in
    let end = drop_all c.loop-mark.mark-index items (omega (arith, c.loop-mark-test.false)) in
    let done : c.loop-mark.sealed.items ≡ map not c.args.empty.items =
    sym (append-nil c.loop-mark.sealed.items) ∙ ap (λ (bs : List Bool). c.loop-mark.sealed.items ++ map not bs) (sym end) ∙ c.loop-mark.invariant ∙ ap (λ (bs : List Bool). map not bs) c.deref-mark-items.ensures.value in
    rw (c.marked.ensures, c.next_zone.ensures, c.unmark-2.ensures, c.unmark.ensures, done) (c.requires.apart, marked-mounted c.args.empty.items c.args.host c.args.next)
