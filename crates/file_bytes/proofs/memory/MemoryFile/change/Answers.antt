use Rattle.std.proofs.Common.{length, refl, ap, arith}
use Rattle.file_bytes.specs.Pending.{FileState}
use Rattle.file_bytes.specs.declared.memory.Range.{Range}
use Rattle.file_bytes.proofs.PendingLaws.{leaves-written, left-written, shown-written, shows-written}
use Rattle.file_bytes.proofs.memory.MemoryFile.change.Goals as goal

pub invariant_of-self-2 : goal.invariant_of-self-2
invariant_of-self-2 c =
    let range : Range = record { start = c.args.at; length = length c.args.part.now; told = c.args.told } in
    let long = ap (λ (s : FileState). length s.bytes) c.self.view_is in
    let same = c.self.invariant.length_is in
    rw (c.overwrite.ensures, c.in_ok-push.ensures.items)
    (left-written c.self.inside.changed.items range c.self.inside.synced.items (omega (arith, long, same, c.requires.within)) c.self.inside.bytes.items c.args.part.now refl c.self.invariant)

pub returns-clause-leaves : goal.returns-clause-leaves
returns-clause-leaves c left may =
    let range : Range = record { start = c.args.at; length = length c.args.part.now; told = c.args.told } in
    let long = ap (λ (s : FileState). length s.bytes) c.self.view_is in
    let same = c.self.invariant.length_is in
    let old : FileState = record { bytes = c.self.inside.bytes.items; synced = c.self.inside.synced.items; changed = c.self.inside.changed.items; usable = c.self.inside.usable; stuck = c.self.inside.stuck } in
    let new : FileState = record { bytes = c.overwrite.new.bytes.items; synced = c.self.inside.synced.items; changed = c.push.new.self.items; usable = c.self.inside.usable; stuck = c.self.inside.stuck } in
    rw (← c.self.view_is)
    (leaves-written old new range c.args.part.now (omega (arith, long, c.requires.within)) refl same c.overwrite.ensures c.in_ok-push.ensures.items refl left may)

pub returns-clause-shows : goal.returns-clause-shows
returns-clause-shows c left may =
    let range : Range = record { start = c.args.at; length = length c.args.part.now; told = c.args.told } in
    let long = ap (λ (s : FileState). length s.bytes) c.self.view_is in
    let old : FileState = record { bytes = c.self.inside.bytes.items; synced = c.self.inside.synced.items; changed = c.self.inside.changed.items; usable = c.self.inside.usable; stuck = c.self.inside.stuck } in
    let new : FileState = record { bytes = c.overwrite.new.bytes.items; synced = c.self.inside.synced.items; changed = c.push.new.self.items; usable = c.self.inside.usable; stuck = c.self.inside.stuck } in
    rw (← c.self.view_is)
    (shows-written old new range c.args.part.now (omega (arith, long, c.requires.within)) refl c.self.invariant c.overwrite.ensures c.in_ok-push.ensures.items refl refl left may)

pub returns-clause-shown : goal.returns-clause-shown
returns-clause-shown c = λ told left may.
    let range : Range = record { start = c.args.at; length = length c.args.part.now; told = c.args.told } in
    let long = ap (λ (s : FileState). length s.bytes) c.self.view_is in
    let old : FileState = record { bytes = c.self.inside.bytes.items; synced = c.self.inside.synced.items; changed = c.self.inside.changed.items; usable = c.self.inside.usable; stuck = c.self.inside.stuck } in
    let new : FileState = record { bytes = c.overwrite.new.bytes.items; synced = c.self.inside.synced.items; changed = c.push.new.self.items; usable = c.self.inside.usable; stuck = c.self.inside.stuck } in
    shown-written old new range c.args.part.now (omega (arith, long, c.requires.within)) refl c.self.invariant c.overwrite.ensures c.in_ok-push.ensures.items refl refl (rw (← c.self.view_is) at told) left may
