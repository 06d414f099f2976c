use Rattle.fault_tests.proofs.DistinctLaws.{three-distinct}
use Rattle.fault_tests.proofs.random_calls.Call.write_list.Goals as goal

pub write_list-requires-clause-distinct : goal.write_list-requires-clause-distinct
write_list-requires-clause-distinct g c = three-distinct _
