-- What `{}` prints of a fault.
use Rattle.std.specs.Prelude.{ℕ, List, ◌++◌, codes, decimal}
use Rattle.batch_log.specs.declared.fault.FaultAt.{FaultAt}
use Rattle.batch_log.specs.declared.fault.LogFault.{LogFault}
use Rattle.batch_log.specs.declared.fault.LogFault.TheVariants.{Magic, Version, Kind, Count, RestNotZero, BlockRepeated, Torn, ForeignTail, Size}

abbrev pub log_fault_text : LogFault → List ℕ
log_fault_text Magic = codes "the header does not begin with ZLOGBAT1"
log_fault_text Version = codes "the version is neither 1 nor 2"
log_fault_text Kind = codes "the kind is neither 1 nor 2"
log_fault_text Count = codes "the header has more entries than there is room for"
log_fault_text RestNotZero = codes "bytes of the header that must be zero are not"
log_fault_text BlockRepeated = codes "two entries name one block"
log_fault_text Torn = codes "the zone is full, and data blocks of its last batch are missing"
log_fault_text ForeignTail = codes "the zone is full, and after zero blocks something follows"
log_fault_text Size = codes "the size is not between 1 and 2^31"

-- the block, and the fault
abbrev pub fault_at_text : FaultAt → List ℕ
fault_at_text at = codes "block " ++ decimal at.offset ++ codes ": " ++ log_fault_text at.fault
