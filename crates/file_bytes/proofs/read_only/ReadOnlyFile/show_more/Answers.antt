use Rattle.std.proofs.Common.{ap, sym, ◌∙◌, ◌≡◌, ◌+◌, ◌/◌, ◌%◌, ◌≤◌, ℕ, List, Some, length, take, drop, arith}
use Rattle.std.specs.List.{splice}
use Rattle.file_bytes.specs.Overlay.{place_of}
use Rattle.file_bytes.proofs.OverlayLaws.{more-of-file, more-of-page, part-each, part-long, place-within}
use Rattle.file_bytes.proofs.read_only.ReadOnlyFile.show_more.Goals as goal

pub overflow_add-first : goal.overflow_add-first
overflow_add-first g c = omega (arith, c.requires.small, c.requires.shown.within, c.requires.within)

pub returns-in-Some-clause-shown : goal.returns-in-Some-clause-shown
returns-in-Some-clause-shown g c =
    let pages = c.self.inside.pages.keys in
    let kept = c.self.inside.kept.items in
    let first = c.args.at + c.args.done in
    let is : place_of pages (first / 4096) ≡ Some c.in-Some.place = ap (λ v. place_of v.pages (first / 4096)) c.self.view_is ∙ sym c.place_of.ensures ∙ c.in-Some.is in
    let from = c.in-Some.place + first % 4096 in
    let room = place-within pages (first / 4096) c.in-Some.place is in
    let fits : from + c.args.count ≤ length kept = omega (arith, room, c.requires.one, c.self.invariant.whole) in
    rw (← c.self.view_is)
    (more-of-page (g.F.FileBytes.seen c.self.inside.inner) pages kept c.args.room.now c.args.at c.args.done c.args.count
    (rw (← c.self.view_is) at c.requires.shown) c.requires.one c.requires.within
    c.in-Some.place (take c.args.count (drop from kept)) c.put.new.bytes c.self.invariant.whole is
    (part-long kept from c.args.count fits) (part-each kept from c.args.count)
    (c.put.ensures ∙ ap (λ (xs : List ℕ). splice c.args.room.now c.args.done (c.args.done + c.args.count) (take c.args.count (drop from xs))) c.deref.ensures.value
    ∙ ap (λ (n : ℕ). splice c.args.room.now c.args.done (c.args.done + n) (take c.args.count (drop from kept))) (sym (part-long kept from c.args.count fits))))

pub returns-in_default-clause-shown : goal.returns-in_default-clause-shown
returns-in_default-clause-shown g c =
    rw (← c.self.view_is)
    (more-of-file (g.F.FileBytes.seen c.self.inside.inner) c.self.inside.pages.keys c.self.inside.kept.items c.args.room.now
    c.args.at c.args.done c.args.count (rw (← c.self.view_is) at c.requires.shown) c.requires.one c.requires.within
    (ap (λ v. place_of v.pages ((c.args.at + c.args.done) / 4096)) c.self.view_is ∙ sym c.place_of.ensures ∙ c.in_default.is))
