use Rattle.std.proofs.Common.{rules, ◌≡◌, ◌*◌, ◌<◌, true, length, refl, arith}
use Rattle.nvme_wire.specs.declared.zone_state.ZoneState.TheVariants.{Empty}
use Rattle.file_drive.specs.InFile.{is_apart}
use Rattle.file_drive.proofs.KeptLaws.{free-kept, free-served, free-within, free-zones, usable-owned}
use Rattle.file_drive.proofs.ServedLaws.{length-safe}
use Rattle.file_drive.proofs.zones.FileZones.release_place.Goals as goal

pub index-requires : goal.index-requires
index-requires g c =
    let inside = c.self.inside in
    let held = c.self.invariant in
    omega (arith, c.if-index-len.false, c.len.ensures, length-safe inside.geometry (g.F.FileBytes.seen inside.file) inside.entries.items inside.live inside.flushed _ held.4, held.1)

pub release-requires : goal.release-requires
release-requires g c =
    let low : c.args.index < length c.self.inside.entries.items = omega (arith, c.if-index-len.false, c.len.ensures) in
    free-within g.F.FileBytes g.S.System c.self.inside c.self.invariant c.args.index (c.from.result * c.from-2.result) c.at_place-at.result c.args.second low (rw (c.from.ensures, c.from-2.ensures) refl) (rw (c.at_place-at.ensures, c.place.ensures) refl)

pub invariant_of-self : goal.invariant_of-self
invariant_of-self g c =
    let held = c.self.invariant in
    let low : c.args.index < length c.self.inside.entries.items = omega (arith, c.if-index-len.false, c.len.ensures) in
    let apart : is_apart c.of_word-flushed.result (record { state = Empty; written = 0; second = c.args.second; sum = 0 }) ≡ true = search rules in
    let kept = free-kept g.F.FileBytes g.S.System c.self.inside c.self.invariant c.args.index (c.from.result * c.from-2.result) c.at_place-at.result c.args.second low (rw (c.from.ensures, c.from-2.ensures) refl) (rw (c.at_place-at.ensures, c.place.ensures) refl) c.release.new.self c.release.ensures.others c.if-self.false c.release.ensures.leaves c.index.result.now c.of_word-flushed.result c.index.ensures c.of_word-flushed.ensures apart in
    let apart' : is_apart c.index-entry.result.now (record { state = Empty; written = 0; second = c.args.second; sum = 0 }) ≡ true = search rules in
    let served = free-served g.F.FileBytes g.S.System c.self.inside c.self.invariant c.args.index (c.from.result * c.from-2.result) c.at_place-at.result c.args.second low (rw (c.from.ensures, c.from-2.ensures) refl) (rw (c.at_place-at.ensures, c.place.ensures) refl) c.release.new.self c.release.ensures.others c.if-self.false c.release.ensures.leaves c.index.result.now c.of_word-flushed.result c.index.ensures c.of_word-flushed.ensures apart
    c.index-entry.result.now c.index-entry.ensures apart' in
    (held.0, held.1, held.2, held.3, served, held.5, λ e. (rw c.release.ensures.usable (held.6 c.if-self.false).0, kept.promise), kept.all, held.8, held.9, usable-owned g.F.FileBytes g.S.System c.self.inside c.self.invariant _ c.if-self.false c.release.new.self c.release.ensures.usable)

pub returns-clause-zones : goal.returns-clause-zones
returns-clause-zones g c =
    let low : c.args.index < length c.self.inside.entries.items = omega (arith, c.if-index-len.false, c.len.ensures) in
    let apart : is_apart c.index-entry.result.now (record { state = Empty; written = 0; second = c.args.second; sum = 0 }) ≡ true = search rules in
    rw (← c.self.view_is) (free-zones g.F.FileBytes g.S.System c.self.inside c.self.invariant c.args.index (c.from.result * c.from-2.result) c.at_place-at.result c.args.second low (rw (c.from.ensures, c.from-2.ensures) refl) (rw (c.at_place-at.ensures, c.place.ensures) refl) c.release.new.self c.release.ensures.others c.index-entry.result.now c.index-entry.ensures apart)

pub returns-clause-durable : goal.returns-clause-durable
returns-clause-durable g c =
    let low : c.args.index < length c.self.inside.entries.items = omega (arith, c.if-index-len.false, c.len.ensures) in
    let apart : is_apart c.of_word-flushed.result (record { state = Empty; written = 0; second = c.args.second; sum = 0 }) ≡ true = search rules in
    rw (← c.self.view_is) (free-kept g.F.FileBytes g.S.System c.self.inside c.self.invariant c.args.index (c.from.result * c.from-2.result) c.at_place-at.result c.args.second low (rw (c.from.ensures, c.from-2.ensures) refl) (rw (c.at_place-at.ensures, c.place.ensures) refl) c.release.new.self c.release.ensures.others c.if-self.false c.release.ensures.leaves c.index.result.now c.of_word-flushed.result c.index.ensures c.of_word-flushed.ensures apart).same
