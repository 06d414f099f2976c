use Rattle.std.proofs.Common.{[], false, rules, refl, ap, ◌∙◌}
use Rattle.nbd_session.specs.Failing.{failing}
use Rattle.nbd_session.specs.Served.{since_of}
use Rattle.nbd_session.specs.Store.{StoreView}
use Rattle.nbd_session.specs.Streams.{streams}
use Rattle.zone_translator.specs.View.{DiskView}
use Rattle.nbd_jobs.specs.Serving.{SyncsDone}
use Rattle.nbd_jobs.proofs.SessionLaws.{Ends, IsFirst, first-clean, none-served, none-told, none_told-anyway, session-served, session-told, session_told-anyway, store-served}
use Rattle.nbd_jobs.proofs.serving.serve_counted.Goals as goal

pub returns-clause-serves : goal.returns-clause-serves
returns-clause-serves g c =
    let bytes = streams (g.R.Read.remaining c.args.reader.now) (g.R.Read.remaining c.serve_store-after.new.reader) (g.W.Write.contents c.args.writer.now) (g.W.Write.contents c.serve_store-after.new.writer) in
    let after = c.serve_store-after.result in
    let store = after.store in
    let old = g.D.Device.drive c.args.kept.device in
    let new = g.D.Device.drive c.into_inner-2.result in
    let syncs : SyncsDone = record { before = g.M.Medium.syncs c.args.kept.medium; after = g.M.Medium.syncs c.into_any_parts-disk.result.1; flushes = g.M.Medium.flushes c.args.kept.medium } in
    let last : StoreView = record {
      disk = store.disk;
      pending = [];
      since = since_of (g.M.Medium.flushes store.medium) store.disk;
      syncs = g.M.Medium.syncs store.medium;
      read_only = store.read_only;
      cleans = store.cleans;
      flushes = g.M.Medium.flushes store.medium;
      defers = false;
      fails = false;
    } in
    let served = rw (c.over-store.ensures.disk, c.over-store.ensures.medium, c.over-store.ensures.read_only, c.over-store.ensures.cleans) at c.serve_store-after.ensures in
    let first : IsFirst c.args.job.now syncs old c.in-Ok.disk = (rw (c.new.ensures, c.flushes-flushes.ensures) at c.in-Ok.ensures.disk, rw c.new.ensures at c.in-Ok.ensures.shape) in
    let left = failing served.0 last in
    let ends : Ends syncs left new = record {
      pending = refl;
      synced = ap (λ (m : _). g.M.Medium.syncs m) c.into_any_parts-disk.ensures.medium;
      since = refl;
      drive = c.into_inner-2.ensures ∙ c.into_device.ensures ∙ ap (λ (d : DiskView). d.drive) c.into_any_parts-disk.ensures.disk;
    } in
    let session = store-served c.args.job.now.forget c.args.kept.read_only c.args.job.now bytes syncs old c.in-Ok.disk after.result after.forgotten left new first served.1 ends in
    rw c.session_end.ensures (session-served c.args.kept.read_only c.args.job.now bytes syncs old after.result after.forgotten new session)

-- the disk is told that was served
pub returns-clause-tells : goal.returns-clause-tells
returns-clause-tells g c = λ clean.
    let drive = c.into_inner-2.ensures ∙ c.into_device.ensures ∙ ap (λ (d : DiskView). d.drive) c.into_any_parts-disk.ensures.disk in
    let was = first-clean c.args.job.now.forget _ _ c.serve_store-after.result.result c.serve_store-after.result.forgotten _ c.serve_store-after.ensures.1 (rw drive at clean) in
    rw c.session_end.ensures
    (session-told c.args.job.now (g.D.Device.drive c.args.kept.device) c.in-Ok.disk c.serve_store-after.result.result _ c.of-size.result (g.M.Medium.flushes c.args.kept.medium) (rw (c.new.ensures, c.flushes-flushes.ensures) at (c.in-Ok.ensures.disk (rw c.over-store.ensures.disk at was))) c.of-size.ensures c.shown_statistics-statistics.ensures)

pub returns-clause-told : goal.returns-clause-told
returns-clause-told g c =
    rw c.session_end.ensures
    (session_told-anyway c.args.job.now (g.D.Device.drive c.args.kept.device) c.in-Ok.disk c.serve_store-after.result.result _ c.of-size.result (rw c.new.ensures at c.in-Ok.ensures.shape) c.of-size.ensures c.shown_statistics-statistics.ensures)

-- no disk was
pub returns-in-Err-clause-tells : goal.returns-in-Err-clause-tells
returns-in-Err-clause-tells g c = λ clean.
    rw (c.unserved.ensures.fault, c.unserved.ensures.statistics, c.unserved.ensures.disk) (none-told c.args.job.now (g.D.Device.drive c.args.kept.device) c.in-Err.fault c.in-Err.ensures.kind)

pub returns-in-Err-clause-told : goal.returns-in-Err-clause-told
returns-in-Err-clause-told g c =
    rw (c.unserved.ensures.fault, c.unserved.ensures.statistics, c.unserved.ensures.disk) (none_told-anyway c.args.job.now (g.D.Device.drive c.args.kept.device).geometry c.in-Err.fault c.in-Err.ensures.kind)

pub returns-in-Err-clause-serves : goal.returns-in-Err-clause-serves
returns-in-Err-clause-serves g c =
    rw (c.into_inner.ensures, c.unserved.ensures.fault, c.unserved.ensures.forgotten)
    (none-served c.args.kept.read_only c.args.job.now _ (record { before = g.M.Medium.syncs c.args.kept.medium; after = g.M.Medium.syncs c.args.kept.medium; flushes = g.M.Medium.flushes c.args.kept.medium }) (g.D.Device.drive c.args.kept.device) _ c.in-Err.fault
    (record {
      why = rw (c.new.ensures, c.flushes-flushes.ensures) at c.in-Err.ensures.err;
      kind = c.in-Err.ensures.kind;
      shape = rw c.new.ensures at c.in-Err.ensures.back;
      nothing = search rules;
      untold = refl;
    }))
