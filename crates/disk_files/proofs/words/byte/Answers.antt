use Rattle.std.proofs.Common.{refl, ◌∙◌}
use Rattle.disk_files.proofs.WordLaws.{byte_of-decoded}
use Rattle.disk_files.proofs.words.byte.Goals as goal

pub returns-in_err-byte : goal.returns-in_err-byte
returns-in_err-byte c = c.from_residual.ensures ∙ rw (byte_of-decoded, ← c.from_hex.ensures, ← c.ok.ensures.value, c.in_err-byte.was) refl

pub returns : goal.returns
returns c = rw (byte_of-decoded, ← c.from_hex.ensures, ← c.ok.ensures.value, c.in_ok-byte.was) refl
