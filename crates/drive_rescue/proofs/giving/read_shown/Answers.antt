use Rattle.drive_rescue.proofs.KeepLaws.{keeps-source_none}
use Rattle.drive_rescue.proofs.giving.read_shown.Goals as goal

pub returns-in_err-write_zeros-clause-kept : goal.returns-in_err-write_zeros-clause-kept
returns-in_err-write_zeros-clause-kept g c = keeps-source_none _ c.geometry-block.ensures.lawful

pub returns-in_default-clause-kept : goal.returns-in_default-clause-kept
returns-in_default-clause-kept g c = keeps-source_none _ c.geometry-block.ensures.lawful

pub returns-in_err-write_zeros-2-clause-kept : goal.returns-in_err-write_zeros-2-clause-kept
returns-in_err-write_zeros-2-clause-kept g c = keeps-source_none _ c.geometry-block.ensures.lawful

pub returns-then-slot-clause-kept : goal.returns-then-slot-clause-kept
returns-then-slot-clause-kept g c = keeps-source_none _ c.geometry-block.ensures.lawful
