-- A medium that fails by chance, for tests of clients.
use Rattle.std.specs.Prelude.{ℕ, Bool, Option, Some, None, nat_lt}
use Rattle.nbd_session.specs.Failing.{failing}
use Rattle.nbd_session.specs.Store.{StoreView}
use Rattle.nbd_jobs.specs.declared.job.Fail.{Fail}

-- in how many of 100 requests the medium fails: in none, if that is not asked for
abbrev pub odds_of : Option Fail → ℕ
odds_of None = 0
odds_of (Some fail) = fail.odds

-- Whether it may fail in a request. Then the request is answered by EIO, nothing is done, and nothing is shown: `Spares` in
-- `nbd_session`.
abbrev pub fails_in_requests : Option Fail → Bool
fails_in_requests fail = nat_lt 0 (odds_of fail)

-- What is done to a store whose medium may fail, if that is asked for. Of what is left nothing else is said of failing.
abbrev pub DoneFailing : Option Fail → (StoreView → StoreView → Type 0) → StoreView → StoreView → Type 0
DoneFailing fail IsDone old new = (may : Bool) × IsDone (failing (fails_in_requests fail) old) (failing may new)
