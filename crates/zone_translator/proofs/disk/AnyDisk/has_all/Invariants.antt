use Rattle.std.proofs.Common.{◌≡◌, nat_lt, take, true}
use Rattle.std.specs.List.{list_all}
use Rattle.batch_log.specs.declared.header.Entry.{Entry}
use Rattle.zone_translator.proofs.disk.AnyDisk.has_all.Given as goal

abbrev pub invariant-loop-entry : goal.invariant-loop-entry
invariant-loop-entry g l = list_all (λ (e : Entry). nat_lt e.block l.size) (take l.entry-index l.fn.entries) ≡ true
