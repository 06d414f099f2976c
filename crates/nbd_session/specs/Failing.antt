-- A store whose medium fails by chance.
use Rattle.std.specs.Prelude.{ℕ, ◌||◌, Bool, nat_lt}
use Rattle.nbd_session.specs.Store.{StoreView}

-- a store, and in how many of 100 calls its medium fails
pub record Failing (S : Type 0) : Type 0 where
  pub store : S
  pub odds : ℕ

-- a store whose medium may fail besides
abbrev pub failing : Bool → StoreView → StoreView
failing may store = record store { fails = may || store.fails }

-- the store below as it is, whose medium may fail if the odds are above 0
abbrev pub failing_of : {S : Type 0} → (S → StoreView) → Failing S → StoreView
failing_of view s = failing (nat_lt 0 s.odds) (view s.store)
