use Rattle.std.proofs.Common.{length, ap}
use Rattle.file_bytes.proofs.memory.MemoryFileFileBytes.write_word.Goals as goal

pub returns-then-is_err-clause-leaves : goal.returns-then-is_err-clause-leaves
returns-then-is_err-clause-leaves c = rw (ap length c.to_le_bytes.ensures, ← c.self-2.view_is) at c.change.ensures.leaves

pub returns-then-is_err-clause-shows : goal.returns-then-is_err-clause-shows
returns-then-is_err-clause-shows c = λ bytes may.
    (rw (ap length c.to_le_bytes.ensures, ← c.self-2.view_is) at c.change.ensures.shows) bytes (record { seen = may.seen; left = may.left; told = may.told })
