use Rattle.std.proofs.Common.{◌≡◌, ◌+◌, false, List, ℕ, length, replicate, refl, ap, arith}
use Rattle.std.proofs.lemmas.List.{length-replicate}
use Rattle.std.specs.List.{splice}
use Rattle.file_bytes.specs.Pending.{FileState}
use Rattle.file_bytes.specs.declared.memory.Range.{Range}
use Rattle.file_bytes.proofs.PendingLaws.{leaves-written, left-written}
use Rattle.file_bytes.proofs.memory.MemoryFileFileBytes.release.Goals as goal

pub invariant_of-self-2 : goal.invariant_of-self-2
invariant_of-self-2 c =
    let range : Range = record { start = c.args.at; length = c.args.count; told = false } in
    let zeros : List ℕ = replicate c.args.count 0 in
    let many : length zeros ≡ c.args.count = length-replicate {A = ℕ} c.args.count 0 in
    let put : c.clear.new.bytes.items ≡ splice c.self.inside.bytes.items c.args.at (c.args.at + length zeros) zeros = rw many c.clear.ensures in
    let long = ap (λ (s : FileState). length s.bytes) c.self.view_is in
    let same = c.self.invariant.length_is in
    rw (put, c.in-Ok.ensures.items)
    (left-written c.self.inside.changed.items range c.self.inside.synced.items (omega (arith, long, same, c.requires)) c.self.inside.bytes.items zeros many c.self.invariant)

pub returns-clause-leaves : goal.returns-clause-leaves
returns-clause-leaves c left may =
    let range : Range = record { start = c.args.at; length = c.args.count; told = false } in
    let zeros : List ℕ = replicate c.args.count 0 in
    let many : length zeros ≡ c.args.count = length-replicate {A = ℕ} c.args.count 0 in
    let put : c.clear.new.bytes.items ≡ splice c.self.inside.bytes.items c.args.at (c.args.at + length zeros) zeros = rw many c.clear.ensures in
    let long = ap (λ (s : FileState). length s.bytes) c.self.view_is in
    let same = c.self.invariant.length_is in
    let old : FileState = record { bytes = c.self.inside.bytes.items; synced = c.self.inside.synced.items; changed = c.self.inside.changed.items; usable = c.self.inside.usable; stuck = c.self.inside.stuck } in
    let new : FileState = record { bytes = c.clear.new.bytes.items; synced = c.self.inside.synced.items; changed = c.push.new.self.items; usable = c.self.inside.usable; stuck = c.self.inside.stuck } in
    rw (← c.self.view_is)
    (leaves-written old new range zeros (omega (arith, long, c.requires)) many same put c.in-Ok.ensures.items refl left may)
