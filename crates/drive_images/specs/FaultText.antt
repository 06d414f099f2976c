-- The line by which a program tells the fault of an image.
use Rattle.std.specs.Prelude.{ℕ, List, ◌++◌, codes, decimal}
use Rattle.drive_images.specs.declared.fault.ImageFault.{ImageFault}
use Rattle.drive_images.specs.declared.fault.ImageFault.TheVariants as faults

abbrev pub fault_number : ImageFault → ℕ
fault_number faults.Magic = 1
fault_number faults.Geometry = 2
fault_number faults.State = 3
fault_number faults.Written = 4
fault_number faults.RestNotZero = 5
fault_number faults.Limits = 6
fault_number faults.Short = 7
fault_number faults.Long = 8
fault_number faults.Input = 9
fault_number faults.OutOfMemory = 10

abbrev pub fault_name : ImageFault → List ℕ
fault_name faults.Magic = codes "Magic"
fault_name faults.Geometry = codes "Geometry"
fault_name faults.State = codes "State"
fault_name faults.Written = codes "Written"
fault_name faults.RestNotZero = codes "RestNotZero"
fault_name faults.Limits = codes "Limits"
fault_name faults.Short = codes "Short"
fault_name faults.Long = codes "Long"
fault_name faults.Input = codes "Input"
fault_name faults.OutOfMemory = codes "OutOfMemory"

abbrev pub image_fault_text : ImageFault → List ℕ
image_fault_text fault = codes "fault image " ++ decimal (fault_number fault) ++ codes " " ++ fault_name fault ++ codes "\n"
