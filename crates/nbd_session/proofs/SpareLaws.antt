-- Where the medium failed nothing is done, whatever was asked.
use Rattle.std.proofs.Common.{ℕ, List}
use Rattle.zone_translator.specs.Answers.{count_of_blocks}
use Rattle.nbd_session.specs.declared.asked.Asked.{Asked}
use Rattle.nbd_session.specs.declared.asked.Asked.TheVariants.{Read, Write, Trim, WriteZeroes, Flush}
use Rattle.nbd_session.specs.Requests.{SparesAsked}
use Rattle.nbd_session.specs.Store.{Spares, StoreView}

-- the medium failed in a call of some blocks
abbrev pub SparesSome : StoreView → StoreView → Type 0
SparesSome old new = (first : ℕ) × (n : ℕ) × Spares old first n new

pub some_spared : (old : StoreView) (wanted : Asked) (bytes : List ℕ) (new : StoreView) → SparesAsked old wanted bytes new → SparesSome old new
some_spared old (Write first) bytes new s = (first, count_of_blocks old.disk bytes, s)
some_spared old (Read first n) bytes new s = (first, n, s)
some_spared old (Trim first n) bytes new s = (first, n, s)
some_spared old (WriteZeroes first n hole) bytes new s = (first, n, s)
some_spared old Flush bytes new s = absurd s
