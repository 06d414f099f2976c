-- The line by which a program tells why a drive is not repaired.
use Rattle.std.specs.Prelude.{ℕ, List, ◌++◌, codes, decimal}
use Rattle.drive_port.specs.declared.device.Halt.TheVariants.{Memory, Failed, Stopped}
use Rattle.tail_repair.specs.declared.fault.RepairFault.{RepairFault}
use Rattle.tail_repair.specs.declared.fault.RepairFault.TheVariants as repair

abbrev pub fault_number : RepairFault → ℕ
fault_number repair.Limits = 1
fault_number (repair.Unusable zone) = 2
fault_number (repair.Unsound zone) = 3
fault_number (repair.Behind zone block) = 4
fault_number repair.NoEmptyZone = 5
fault_number (repair.Halted Stopped) = 6
fault_number (repair.Halted Memory) = 7
fault_number repair.Unfinished = 8
fault_number (repair.Halted Failed) = 9

abbrev pub fault_name : RepairFault → List ℕ
fault_name repair.Limits = codes "Limits"
fault_name (repair.Unusable zone) = codes "Unusable"
fault_name (repair.Unsound zone) = codes "Unsound"
fault_name (repair.Behind zone block) = codes "Behind"
fault_name repair.NoEmptyZone = codes "NoEmptyZone"
fault_name (repair.Halted Stopped) = codes "Halted"
fault_name (repair.Halted Memory) = codes "OutOfMemory"
fault_name repair.Unfinished = codes "Unfinished"
fault_name (repair.Halted Failed) = codes "Failed"

-- the zone that a fault names, and the block of it
abbrev pub fault_zone : RepairFault → List ℕ
fault_zone (repair.Unusable zone) = codes " " ++ decimal zone ++ codes "\n"
fault_zone (repair.Unsound zone) = codes " " ++ decimal zone ++ codes "\n"
fault_zone (repair.Behind zone block) = codes " " ++ decimal zone ++ codes " " ++ decimal block ++ codes "\n"
fault_zone fault = codes "\n"

abbrev pub repair_fault_text : RepairFault → List ℕ
repair_fault_text fault = codes "fault repair " ++ decimal (fault_number fault) ++ codes " " ++ fault_name fault ++ fault_zone fault
