-- Which commands a drive in memory allocates for.
use Rattle.std.specs.Prelude.{Bool, true, false, Result, Ok}
use Rattle.nvme_wire.specs.declared.command.Command.{Command}
use Rattle.nvme_wire.specs.declared.command.Command.TheVariants.{Append, Read, Receive, Write}
use Rattle.nvme_wire.specs.declared.command.DecodeFault.{DecodeFault}

-- Those that write blocks or return bytes. A Flush, a Send and an entry that does not decode need no memory.
abbrev pub may_allocate : Result Command DecodeFault → Bool
may_allocate (Ok (Read slba blocks)) = true
may_allocate (Ok (Write slba blocks)) = true
may_allocate (Ok (Append zslba blocks)) = true
may_allocate (Ok (Receive slba dwords options partial)) = true
may_allocate command = false
