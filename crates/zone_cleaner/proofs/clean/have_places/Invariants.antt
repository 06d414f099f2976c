use Rattle.std.proofs.Common.{◌≡◌, take, true}
use Rattle.std.specs.List.{list_all}
use Rattle.batch_log.specs.declared.header.Entry.{Entry}
use Rattle.zone_cleaner.specs.Clean.{has_place}
use Rattle.zone_cleaner.proofs.clean.have_places.Given as goal

abbrev pub invariant-loop-entry : goal.invariant-loop-entry
invariant-loop-entry l = list_all (λ (e : Entry). has_place l.fn.tables e.block) (take l.entry-index l.fn.entries) ≡ true
