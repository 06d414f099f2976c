use Rattle.std.proofs.Common.{ap, sym, subst, ◌∙◌, ◌≡◌, ◌+◌, ◌/◌, ◌%◌, ◌≤◌, ℕ, List, Some, length, take, drop, arith}
use Rattle.std.specs.List.{splice}
use Rattle.file_bytes.specs.Overlay.{WritesMore, overlaid, place_of, shown}
use Rattle.file_bytes.proofs.OverlayLaws.{beside-written, holds-written, part-long}
use Rattle.file_bytes.proofs.read_only.ReadOnlyFile.write_more.Goals as goal

pub returns-clause-ok : goal.returns-clause-ok
returns-clause-ok g c =
    let seen = g.F.FileBytes.seen in
    let file = seen c.self.inside.inner in
    let pages = c.self.inside.pages.keys in
    let kept = c.self.inside.kept.items in
    let first = c.args.at + c.args.done in
    let place = c.in_ok-place.place in
    let from = place + first % 4096 in
    let part : List ℕ = take c.args.count (drop c.args.done c.args.bytes.now) in
    let same : file ≡ seen c.args.self.now.inner = ap (λ v. seen v.inner) c.self.view_is ∙ c.in_ok-place.ensures.inner in
    let is : place_of pages (first / 4096) ≡ Some place = ap (λ v. place_of v.pages (first / 4096)) c.self.view_is ∙ c.in_ok-place.ensures.place in
    let many : length part ≡ c.args.count = part-long c.args.bytes.now c.args.done c.args.count c.requires.few in
    let one : first % 4096 + length part ≤ 4096 = omega (arith, many, c.requires.one) in
    let within : first + length part ≤ length file = omega (arith, many, c.requires.few, c.requires.within, ap length same) in
    let new_is : c.put_in.new.bytes.items ≡ splice kept from (from + length part) part =
    c.put_in.ensures
    ∙ ap (λ (n : ℕ). splice kept from (from + n) part) (sym many) in
    let before : shown file pages kept ≡ overlaid seen c.args.self.now = ap (λ v. overlaid seen v) c.self.view_is ∙ c.in_ok-place.ensures.shown in
    let writes : WritesMore (shown file pages kept) (shown file pages (splice kept from (from + length part) part)) first part = record {
      written = holds-written file pages kept part first place c.self.invariant.whole one within is;
      beside = beside-written file pages kept part first place c.self.invariant.whole one within is;
    } in
    subst (λ (old : List ℕ). WritesMore old (shown file pages c.put_in.new.bytes.items) first part) before
    (subst (λ (new : List ℕ). WritesMore (shown file pages kept) (shown file pages new) first part) (sym new_is) writes)
