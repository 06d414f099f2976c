-- The text so far, and what is shown of the bytes that are left.
use Rattle.std.proofs.Common.{◌≡◌, ◌++◌, map, drop}
use Rattle.std.specs.String.{string_bytes}
use Rattle.passthrough.specs.Identity.{shown_byte}
use Rattle.passthrough.proofs.identity.text_of.Given as goal

abbrev pub invariant-loop-byte : goal.invariant-loop-byte
invariant-loop-byte l =
    string_bytes l.text ++ map shown_byte (drop l.byte-index l.byte-items) ≡ map shown_byte l.byte-items
