use Rattle.std.proofs.Common.{rules, ◌≡◌, ◌+◌, ◌*◌, ◌-◌, ◌++◌, ◌∙◌, List, ℕ, min, ap, refl, arith}
use Rattle.zone_drive.specs.Stored.{with_zeros}
use Rattle.file_drive.specs.InFile.{entry_at}
use Rattle.file_drive.specs.Layout.{at_place, part}
use Rattle.file_drive.specs.Tables.{place_of}
use Rattle.file_drive.proofs.KeptLaws.{read-begins, read-ends, read-written, shown-kept}
use Rattle.file_drive.proofs.PlaceLaws.{place-low, short}
use Rattle.file_drive.proofs.ReadLaws.{part-read}
use Rattle.file_drive.proofs.StoreLaws.{filed-low, stored-is}
use Rattle.file_drive.proofs.zones.FileZones.read_zone.Goals as goal

pub index-requires : goal.index-requires
index-requires g c =
    let low = rw (← c.self.view_is) at (filed-low g.F.FileBytes.seen c.args.self.now c.args.index c.requires) in
    omega (arith, low)

pub place-place-requires : goal.place-place-requires
place-place-requires g c =
    let low = rw (← c.self.view_is) at (filed-low g.F.FileBytes.seen c.args.self.now c.args.index c.requires) in
    omega (arith, low, c.self.invariant.1, c.self.invariant.0)

pub overflow_cast-index : goal.overflow_cast-index
overflow_cast-index g c =
    let low = rw (← c.self.view_is) at (filed-low g.F.FileBytes.seen c.args.self.now c.args.index c.requires) in
    omega (arith, low, c.self.invariant.1, c.self.invariant.0)

pub at_place-requires-clause-few : goal.at_place-requires-clause-few
at_place-requires-clause-few g c =
    let low = rw (← c.self.view_is) at (filed-low g.F.FileBytes.seen c.args.self.now c.args.index c.requires) in
    omega (arith, low, c.self.invariant.1, c.place-place.ensures, place-low c.args.index c.self.inside.geometry.zones c.index.result.now (omega (arith, low, c.self.invariant.1)))

pub overflow_add-at : goal.overflow_add-at
overflow_add-at g c =
    let low = rw (← c.self.view_is) at (filed-low g.F.FileBytes.seen c.args.self.now c.args.index c.requires) in
    omega (arith, read-ends g.F.FileBytes g.S.System c.self.inside c.self.invariant c.args.index c.at_place.result c.length_of-written.result c.index.result.now low c.index.ensures (rw (c.at_place.ensures, c.place-place.ensures) refl) (rw (← c.self.view_is) at c.length_of-written.ensures), short c.self.inside.geometry c.self.invariant.0)

pub read_with_zeros-requires-clause-within : goal.read_with_zeros-requires-clause-within
read_with_zeros-requires-clause-within g c =
    let low = rw (← c.self.view_is) at (filed-low g.F.FileBytes.seen c.args.self.now c.args.index c.requires) in
    omega (arith, read-ends g.F.FileBytes g.S.System c.self.inside c.self.invariant c.args.index c.at_place.result c.length_of-written.result c.index.result.now low c.index.ensures (rw (c.at_place.ensures, c.place-place.ensures) refl) (rw (← c.self.view_is) at c.length_of-written.ensures), c.self.invariant.4.long)

pub returns-clause-ok : goal.returns-clause-ok
returns-clause-ok g c =
    let inside = c.self.inside in
    let file = g.F.FileBytes.seen inside.file in
    let entry = entry_at inside.entries.items c.args.index in
    let low = rw (← c.self.view_is) at (filed-low g.F.FileBytes.seen c.args.self.now c.args.index c.requires) in
    let written = read-written g.F.FileBytes g.S.System c.self.inside c.self.invariant c.args.index c.at_place.result c.length_of-written.result c.index.result.now low c.index.ensures (rw (c.at_place.ensures, c.place-place.ensures) refl) (rw (← c.self.view_is) at c.length_of-written.ensures) in
    let begins = read-begins g.F.FileBytes g.S.System c.self.inside c.self.invariant c.args.index c.at_place.result c.length_of-written.result c.index.result.now low c.index.ensures (rw (c.at_place.ensures, c.place-place.ensures) refl) (rw (← c.self.view_is) at c.length_of-written.ensures) in
    let read = part-read file (at_place inside.geometry (place_of c.args.index entry)) (entry.written * inside.geometry.block) c.args.from c.args.len in
    let from : c.min-from.result ≡ min c.args.from (entry.written * inside.geometry.block) = c.min-from.ensures ∙ ap (min c.args.from) written in
    let count : c.min-count.result ≡ min c.args.len (entry.written * inside.geometry.block - min c.args.from (entry.written * inside.geometry.block)) =
    c.min-count.ensures ∙ ap (min c.args.len) (omega (arith, written, from)) in
    let put : c.read_with_zeros.new.into.items ≡ c.args.into.now.items ++ with_zeros c.args.len (part file (c.at_place.result + c.min-from.result) c.min-count.result) = search rules in
    rw (← c.self.view_is, stored-is inside.geometry file inside.entries.items c.args.index low)
    (put ∙ ap (λ (bytes : List ℕ). c.args.into.now.items ++ bytes) (rw (begins, from, count) read))

pub invariant_of-self : goal.invariant_of-self
invariant_of-self g c = shown-kept g.F.FileBytes g.S.System c.self.inside c.self.invariant c.read_with_zeros.new.file c.read_with_zeros.ensures.seen c.read_with_zeros.ensures.usable c.read_with_zeros.ensures.leaves c.read_with_zeros.ensures.stuck c.read_with_zeros.ensures.shows

pub invariant_of-self-2 : goal.invariant_of-self-2
invariant_of-self-2 g c = shown-kept g.F.FileBytes g.S.System c.self.inside c.self.invariant c.read_with_zeros.new.file c.read_with_zeros.ensures.seen c.read_with_zeros.ensures.usable c.read_with_zeros.ensures.leaves c.read_with_zeros.ensures.stuck c.read_with_zeros.ensures.shows
