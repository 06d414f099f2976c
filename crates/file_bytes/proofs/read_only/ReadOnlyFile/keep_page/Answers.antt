use Rattle.std.proofs.Common.{arith, ap, sym, ◌∙◌, Some, length, ℕ, List, ◌++◌}
use Rattle.file_bytes.specs.Overlay.{overlaid, place_of, shown}
use Rattle.file_bytes.proofs.OverlayLaws.{long-after, place-after, shown-after}
use Rattle.file_bytes.proofs.read_only.ReadOnlyFile.keep_page.Goals as goal

pub invariant_of-self-in_default-insert : goal.invariant_of-self-in_default-insert
invariant_of-self-in_default-insert g c =
    record {
      size_is = c.self.invariant.size_is ∙ sym (ap length c.in_ok-page.ensures.seen);
      whole = long-after (g.F.FileBytes.seen c.self.inside.inner) c.self.inside.pages.keys c.self.inside.kept.items
          c.insert.new.self.keys c.extend_from_slice.new.self.items c.in_ok-page.page.items c.args.number c.self.invariant.whole
          (ap (λ v. place_of v.pages c.args.number) c.self.view_is ∙ sym c.place_of.ensures ∙ c.in_default.is)
          c.in_ok-page.ensures.page c.in_default-insert.ensures.keys (c.in_default-extend_from_slice.ensures.items ∙ ap (λ (xs : List ℕ). c.self.inside.kept.items ++ xs) c.deref.ensures.value);
    }

-- src/read_only.rt:95:5
pub returns-clause-place : goal.returns-clause-place
returns-clause-place g c =
    place-after (g.F.FileBytes.seen c.self.inside.inner) c.self.inside.pages.keys c.self.inside.kept.items
    c.insert.new.self.keys c.extend_from_slice.new.self.items c.in_ok-page.page.items c.args.number c.self.invariant.whole
    (ap (λ v. place_of v.pages c.args.number) c.self.view_is ∙ sym c.place_of.ensures ∙ c.in_default.is)
    c.in_ok-page.ensures.page c.in_default-insert.ensures.keys (c.in_default-extend_from_slice.ensures.items ∙ ap (λ (xs : List ℕ). c.self.inside.kept.items ++ xs) c.deref.ensures.value)
    ∙ ap Some (omega (arith, c.len-place.ensures, c.self.inside.kept.ok.0))

-- src/read_only.rt:95:5
pub returns-clause-shown : goal.returns-clause-shown
returns-clause-shown g c =
    ap (λ (file : List ℕ). shown file c.insert.new.self.keys c.extend_from_slice.new.self.items) c.in_ok-page.ensures.seen
    ∙ shown-after (g.F.FileBytes.seen c.self.inside.inner) c.self.inside.pages.keys c.self.inside.kept.items
    c.insert.new.self.keys c.extend_from_slice.new.self.items c.in_ok-page.page.items c.args.number c.self.invariant.whole
    (ap (λ v. place_of v.pages c.args.number) c.self.view_is ∙ sym c.place_of.ensures ∙ c.in_default.is)
    c.in_ok-page.ensures.page c.in_default-insert.ensures.keys (c.in_default-extend_from_slice.ensures.items ∙ ap (λ (xs : List ℕ). c.self.inside.kept.items ++ xs) c.deref.ensures.value)
    ∙ ap (λ v. overlaid g.F.FileBytes.seen v) c.self.view_is
