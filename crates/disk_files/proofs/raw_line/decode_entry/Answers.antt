use Rattle.std.proofs.Common.{refl}
use Rattle.disk_files.proofs.RawLaws.{exact_bytes_of-decoded}
use Rattle.disk_files.proofs.raw_line.decode_entry.Goals as goal

pub returns : goal.returns
returns c = rw (exact_bytes_of-decoded, ← c.from_hex.ensures, ← c.ok.ensures.value) refl
