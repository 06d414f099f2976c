use Rattle.std.proofs.Common.{rules, ◌+◌, ◌*◌, length, refl}
use Rattle.sqlite_disk.specs.Disk.{Holds}
use Rattle.file_drive.specs.InFile.{entry_at}
use Rattle.file_drive.specs.Layout.{at_place}
use Rattle.file_drive.specs.Tables.{place_of}
use Rattle.file_drive.proofs.KeptLaws.{behind, behind-kept, behind-others, behind-served, behind-within, usable-owned}
use Rattle.file_drive.proofs.PartLaws.{part-held}
use Rattle.file_drive.proofs.zones.FileZones.write_data.Goals as goal

pub write-requires : goal.write-requires
write-requires g c = record { within = behind-within g.F.FileBytes g.S.System c.self.inside c.self.invariant c.args.index (length c.args.bytes.now) c.index-entry.result.now (c.at_place.result + c.from-written.result * c.from.result) (rw (← c.self.view_is) at c.requires.in_range) c.index-entry.ensures (rw (← c.self.view_is) at c.requires.room) (rw (c.at_place.ensures, c.place-place.ensures, c.from-written.ensures, c.from.ensures) refl) }

pub invariant_of-self : goal.invariant_of-self
invariant_of-self g c =
    let held = c.self.invariant in
    let kept = behind-kept g.F.FileBytes g.S.System c.self.inside c.self.invariant c.args.index (length c.args.bytes.now) c.index-entry.result.now (c.at_place.result + c.from-written.result * c.from.result) (rw (← c.self.view_is) at c.requires.in_range) c.index-entry.ensures (rw (← c.self.view_is) at c.requires.room) (rw (c.at_place.ensures, c.place-place.ensures, c.from-written.ensures, c.from.ensures) refl) c.write.new.self c.write.ensures.others c.if-self.false c.write.ensures.leaves in
    let served = behind-served g.F.FileBytes g.S.System c.self.inside c.self.invariant c.args.index (length c.args.bytes.now) c.index-entry.result.now (c.at_place.result + c.from-written.result * c.from.result) (rw (← c.self.view_is) at c.requires.in_range) c.index-entry.ensures (rw (← c.self.view_is) at c.requires.room) (rw (c.at_place.ensures, c.place-place.ensures, c.from-written.ensures, c.from.ensures) refl) c.write.new.self c.write.ensures.others c.if-self.false c.write.ensures.leaves in
    (held.0, held.1, held.2, held.3, served, held.5, λ e. absurd (cc e), kept.all, held.8, λ e. absurd (cc e), usable-owned g.F.FileBytes g.S.System c.self.inside c.self.invariant _ c.if-self.false c.write.new.self c.write.ensures.usable)

pub returns-then-is_err-clause-others : goal.returns-then-is_err-clause-others
returns-then-is_err-clause-others g c = rw (← c.self.view_is) (behind-others g.F.FileBytes g.S.System c.self.inside c.self.invariant c.args.index (length c.args.bytes.now) c.index-entry.result.now (c.at_place.result + c.from-written.result * c.from.result) (rw (← c.self.view_is) at c.requires.in_range) c.index-entry.ensures (rw (← c.self.view_is) at c.requires.room) (rw (c.at_place.ensures, c.place-place.ensures, c.from-written.ensures, c.from.ensures) refl) c.write.new.self c.write.ensures.others)

pub returns-then-is_err-clause-durable : goal.returns-then-is_err-clause-durable
returns-then-is_err-clause-durable g c = rw (← c.self.view_is) (behind-kept g.F.FileBytes g.S.System c.self.inside c.self.invariant c.args.index (length c.args.bytes.now) c.index-entry.result.now (c.at_place.result + c.from-written.result * c.from.result) (rw (← c.self.view_is) at c.requires.in_range) c.index-entry.ensures (rw (← c.self.view_is) at c.requires.room) (rw (c.at_place.ensures, c.place-place.ensures, c.from-written.ensures, c.from.ensures) refl) c.write.new.self c.write.ensures.others c.if-self.false c.write.ensures.leaves).same

pub invariant_of-self-else-is_err : goal.invariant_of-self-else-is_err
invariant_of-self-else-is_err g c =
    let held = c.self.invariant in
    let kept = behind-kept g.F.FileBytes g.S.System c.self.inside c.self.invariant c.args.index (length c.args.bytes.now) c.index-entry.result.now (c.at_place.result + c.from-written.result * c.from.result) (rw (← c.self.view_is) at c.requires.in_range) c.index-entry.ensures (rw (← c.self.view_is) at c.requires.room) (rw (c.at_place.ensures, c.place-place.ensures, c.from-written.ensures, c.from.ensures) refl) c.write.new.self c.write.ensures.others c.if-self.false c.write.ensures.leaves in
    let served = behind-served g.F.FileBytes g.S.System c.self.inside c.self.invariant c.args.index (length c.args.bytes.now) c.index-entry.result.now (c.at_place.result + c.from-written.result * c.from.result) (rw (← c.self.view_is) at c.requires.in_range) c.index-entry.ensures (rw (← c.self.view_is) at c.requires.room) (rw (c.at_place.ensures, c.place-place.ensures, c.from-written.ensures, c.from.ensures) refl) c.write.new.self c.write.ensures.others c.if-self.false c.write.ensures.leaves in
    (held.0, held.1, held.2, held.3, served, held.5, λ e. (rw c.write.ensures.usable (held.6 c.if-self.false).0, kept.promise), kept.all, held.8, held.9, usable-owned g.F.FileBytes g.S.System c.self.inside c.self.invariant _ c.if-self.false c.write.new.self c.write.ensures.usable)

pub returns-clause-data : goal.returns-clause-data
returns-clause-data g c =
    let inside = c.self.inside in
    let entry = entry_at inside.entries.items c.args.index in
    let put : Holds (g.F.FileBytes.seen c.write.new.self) (c.at_place.result + c.from-written.result * c.from.result) c.args.bytes.now = search rules in
    let from = behind g.F.FileBytes g.S.System c.self.inside c.self.invariant c.args.index (length c.args.bytes.now) c.index-entry.result.now (c.at_place.result + c.from-written.result * c.from.result) (rw (← c.self.view_is) at c.requires.in_range) c.index-entry.ensures (rw (← c.self.view_is) at c.requires.room) (rw (c.at_place.ensures, c.place-place.ensures, c.from-written.ensures, c.from.ensures) refl) in
    rw (← c.self.view_is) (part-held (g.F.FileBytes.seen c.write.new.self) (at_place inside.geometry (place_of c.args.index entry) + entry.written * inside.geometry.block) c.args.bytes.now (rw from at put))

pub returns-clause-others : goal.returns-clause-others
returns-clause-others g c = rw (← c.self.view_is) (behind-others g.F.FileBytes g.S.System c.self.inside c.self.invariant c.args.index (length c.args.bytes.now) c.index-entry.result.now (c.at_place.result + c.from-written.result * c.from.result) (rw (← c.self.view_is) at c.requires.in_range) c.index-entry.ensures (rw (← c.self.view_is) at c.requires.room) (rw (c.at_place.ensures, c.place-place.ensures, c.from-written.ensures, c.from.ensures) refl) c.write.new.self c.write.ensures.others)

pub returns-clause-durable : goal.returns-clause-durable
returns-clause-durable g c = rw (← c.self.view_is) (behind-kept g.F.FileBytes g.S.System c.self.inside c.self.invariant c.args.index (length c.args.bytes.now) c.index-entry.result.now (c.at_place.result + c.from-written.result * c.from.result) (rw (← c.self.view_is) at c.requires.in_range) c.index-entry.ensures (rw (← c.self.view_is) at c.requires.room) (rw (c.at_place.ensures, c.place-place.ensures, c.from-written.ensures, c.from.ensures) refl) c.write.new.self c.write.ensures.others c.if-self.false c.write.ensures.leaves).same
