-- What of a store is promised: what it does in any case, or while its drive is clean.
use Rattle.std.specs.Prelude.{◌≡◌, ℕ, zero, suc, Bool, List, IsTrue, Result}
use Rattle.batch_log.specs.declared.header.Entry.{Entry}
use Rattle.nbd_wire.specs.declared.error_code.ErrorCode.{ErrorCode}
use Rattle.nbd_wire.specs.declared.request.Request.{Request}
use Rattle.zone_translator.specs.Flat.{with_nothing}
use Rattle.zone_translator.specs.declared.fault.DiskFault.{DiskFault}
use Rattle.nbd_session.specs.declared.asked.Asked.{Asked}
use Rattle.nbd_session.specs.Requests.{AnswersAnyway, AnswersAsked}
use Rattle.nbd_session.specs.Store.{Rests, RestsAnyway, StaysByCall, StoreView, WritesList}

-- What is promised of three things: of what a request asks and its reply, of a list of blocks, and of a rest. `Holds`
-- is said of any other fact about a drive that is clean or not.
pub record Manner : Type 1 where
  pub Asks : StoreView → Request → Result Asked ErrorCode → List ℕ → List ℕ → StoreView → Type 0
  pub Lists : StoreView → List Entry → List ℕ → Result (Unit {0}) DiskFault → StoreView → Type 0
  pub Rests : StoreView → StoreView → Type 0
  pub Holds : Bool → Type 0 → Type 0

-- each is done as it is to be
abbrev pub always : Manner
always = record {
  Asks = λ old request wanted bytes reply new. AnswersAsked old request wanted bytes reply new;
  Lists = λ old entries bytes done new. WritesList old entries bytes (with_nothing done) new;
  Rests = λ old new. Rests old new;
  Holds = λ clean fact. fact;
}

-- a list of blocks over any device
pub record ListsAnyway (old : StoreView) (entries : List Entry) (bytes : List ℕ) (done : Result (Unit {0}) DiskFault)
    (new : StoreView) : Type 0 where
  pub writes : IsTrue new.disk.drive.clean → WritesList old entries bytes (with_nothing done) new
  pub stays : StaysByCall old new

-- Over a device whose Reads may lie each is done so while the drive is clean: as long as each Read returned what it
-- holds.
abbrev pub while_clean : Manner
while_clean = record {
  Asks = λ old request wanted bytes reply new. AnswersAnyway old request wanted bytes reply new;
  Lists = λ old entries bytes done new. ListsAnyway old entries bytes done new;
  Rests = λ old new. RestsAnyway old new;
  Holds = λ clean fact. IsTrue clean → fact;
}

-- so many rests, one after the other
abbrev pub RestsTimes : Manner → ℕ → StoreView → StoreView → Type 0
RestsTimes manner zero old new = new ≡ old
RestsTimes manner (suc n) old new = (middle : StoreView) × RestsTimes manner n old middle × manner.Rests middle new
