use Rattle.std.proofs.Common.{◌≡◌, length}
use Rattle.call_tests.proofs.places.places_as_a_plain_list.Given as goal

abbrev pub invariant-loop-call : goal.invariant-loop-call
invariant-loop-call g l = (length l.map.places ≡ 300) × (l.map.zones ≡ 64)
