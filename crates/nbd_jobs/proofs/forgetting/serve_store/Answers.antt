use Rattle.std.proofs.Common.{refl}
use Rattle.std.specs.Prelude.{nat_lt}
use Rattle.nbd_jobs.proofs.forgetting.serve_store.Goals as goal

pub returns-in_default : goal.returns-in_default
returns-in_default g c =
    let made = c.failing_store-served.ensures in
    let served = c.serve_any-result.ensures in
    rw (c.in_default.is, c.into_store.ensures) (
      nat_lt 0 c.serve_any-result.new.store.odds,
      (
        record {
          serves = rw (made.store, made.odds) at served.serves;
          kept = rw made.store at served.keeps;
          stays = rw (made.store, made.odds) at served.stays;
        },
        refl,
      ),
    )

pub returns : goal.returns
returns g c =
    let forgets = c.serve_forgetting-store.ensures in
    rw c.in-Some.is (forgets.0, (forgets.1, c.ends_well.ensures))
