use Rattle.std.proofs.Common.{List, ℕ, sym, subst}
use Rattle.zone_translator.specs.Flat.{FlatCall, with_nothing, write}
use Rattle.zone_translator.specs.View.{flat_of}
use Rattle.disk_copies.proofs.Pieces.{zero-blocks}
use Rattle.disk_copies.proofs.putting.put_run.Goals as goal

pub returns-clause-flat : goal.returns-clause-flat
returns-clause-flat g c clean =
    let old = c.args.disk.now in
    let geometry = old.drive.geometry in
    let zeros = zero-blocks geometry c.args.bytes.now c.requires.whole (c.requires.zeros c.if-not-zeros.false) in
    subst (λ (blocks : List (List ℕ)). FlatCall (flat_of old) (write c.args.first blocks) (with_nothing c.trim.result) (flat_of c.trim.new.self)) (sym zeros)
    (rw c.block_bytes.ensures.size at (c.trim.ensures.answers clean).flat)
