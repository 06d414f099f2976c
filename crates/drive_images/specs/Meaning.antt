-- Which faults are faults of the bytes.
use Rattle.std.specs.Prelude.{Bool, true, false}
use Rattle.drive_images.specs.declared.fault.ImageFault.{ImageFault}
use Rattle.drive_images.specs.declared.fault.ImageFault.TheVariants.{Input, OutOfMemory}

-- the reader may fail, and memory run out, whatever the bytes are
abbrev pub is_of_bytes : ImageFault → Bool
is_of_bytes Input = false
is_of_bytes OutOfMemory = false
is_of_bytes fault = true
