-- What a loss of power leaves of the drive of a served disk can be mounted.
use Rattle.std.proofs.Common.{◌≡◌, ℕ, List, map, Ok, Err, true, false, refl, inl, inr, ◌∙◌}
use Rattle.std.specs.Prelude.{◌&&◌, Bool, Result, not}
use Rattle.nbd_wire.specs.declared.error_code.ErrorCode.{ErrorCode}
use Rattle.nbd_wire.specs.declared.request.Request.{Request}
use Rattle.zone_states.specs.Zone.{Zone}
use Rattle.drive_port.specs.Durable.{MayBeDurable}
use Rattle.drive_port.specs.Run.{restarted, restarted_zone}
use Rattle.drive_port.proofs.ClosingLaws.{contents-restarted}
use Rattle.drive_array.proofs.MountLaws.{restart_mounts}
use Rattle.remount.specs.Mount.{IsToMount}
use Rattle.zone_translator.specs.Flat.{Answer, Call}
use Rattle.zone_translator.specs.Laws.{CanMountAgain}
use Rattle.zone_translator.specs.View.{DiskView, KeepsDisk, disk_array, given_size}
use Rattle.zone_translator.proofs.AgainLaws.{called-can}
use Rattle.nbd_session.specs.declared.asked.Asked.{Asked}
use Rattle.nbd_session.specs.declared.asked.Asked.TheVariants.{Read, Write, Trim, WriteZeroes, Flush}
use Rattle.nbd_session.specs.declared.fault.StoreFault.{StoreFault}
use Rattle.nbd_session.specs.declared.fault.StoreFault.TheVariants.{Disk, Medium}
use Rattle.nbd_session.specs.Laws.{FlushIsSafe, IsSafe, LeftIsFound, SessionKeepsSafe}
use Rattle.nbd_session.specs.Manners.{always}
use Rattle.nbd_session.specs.Requests.{AnswersAsked, Does, DoesOrFails, Forces, asked_of_store}
use Rattle.nbd_session.specs.Served.{array_with}
use Rattle.nbd_session.specs.Store.{Calls, KeepsBySync, RestsBy, Spares, StoreView}
use Rattle.nbd_session.proofs.KeptLaws.{IsKept, session_kept}
use Rattle.nbd_session.proofs.ServedLaws.{map_contains}
use Rattle.nbd_session.proofs.SpareLaws.{some_spared}
use Rattle.nbd_session.proofs.SyncLaws.{SyncsSome, any_sync}

-- ---- a disk

-- its drive can be mounted as it is, and as a loss of power may leave it
abbrev IsSound : DiskView → Type 0
IsSound disk = CanMountAgain disk × IsSafe disk

abbrev StaysSound : StoreView → StoreView → Type 0
StaysSound old new = IsSound old.disk → IsSound new.disk

-- the zones as they are can be mounted
safe-now : (disk : DiskView) (zones : List Zone) → CanMountAgain disk → zones ≡ map restarted_zone disk.drive.zones → IsToMount (restarted (record disk.drive { zones = zones })) (given_size disk)
safe-now disk zones can is = rw is (record {
  geometry = can.geometry;
  reserve = can.reserve;
  mountable = restart_mounts (restarted disk.drive) (given_size disk) (restart_mounts disk.drive (given_size disk) can.mountable);
})

-- what could be left before can be mounted still
safe-before : (old new : DiskView) (zones : List Zone) → KeepsDisk old new → IsToMount (restarted (record old.drive { zones = zones })) (given_size old) → IsToMount (restarted (record new.drive { zones = zones })) (given_size new)
safe-before old new zones kept is = record {
  geometry = rw kept.geometry is.geometry;
  reserve = rw (kept.geometry, kept.given) is.reserve;
  mountable = record {
    lawful = record {
      geometry = rw kept.geometry is.mountable.lawful.geometry;
      count = rw kept.geometry is.mountable.lawful.count;
      zones = rw kept.geometry is.mountable.lawful.zones;
      active = rw kept.geometry is.mountable.lawful.active;
      open_zones = rw kept.geometry is.mountable.lawful.open_zones;
      completed = is.mountable.lawful.completed;
      stopped = is.mountable.lawful.stopped;
    };
    holds = rw (kept.geometry, kept.given) is.mountable.holds;
  };
}

may-safe : (old new : DiskView) → KeepsDisk old new → MayBeDurable old.drive new.drive → IsSound old → IsSound new
may-safe old new kept may sound =
    let can = called-can old new sound.0 kept in (
      can,
      λ zones left. elim (may zones left) [
        | inl before ↦ safe-before old new zones kept (sound.1 zones before)
        | inr now ↦ safe-now new zones can now
      ],
    )

same-safe : (old new : DiskView) → KeepsDisk old new → new.drive.durable ≡ old.drive.durable → IsSound old → IsSound new
same-safe old new kept same = may-safe old new kept (λ zones left. inl (rw same at left))

pub flush-safe : FlushIsSafe
flush-safe old new can a = λ zones left. safe-now new zones (called-can old new can a.kept) (a.durable zones left)

-- a mount finds one of the arrays
pub left-found : LeftIsFound
left-found disk again zones left mounts =
    let is : disk_array again ≡ array_with disk zones = mounts.array ∙ rw (contents-restarted zones) refl in
    rw is (map_contains (array_with disk) disk.drive.durable zones left)

-- ---- a session

same-sound : (old new : StoreView) → new ≡ old → StaysSound old new
same-sound old new same sound = rw same sound

call-sound : (old : StoreView) (call : Call) (answer : Answer) (new : StoreView) → Calls old call answer new → StaysSound old new
call-sound old call answer new c = λ sound. same-safe old.disk new.disk (c.kept.mounted sound.0.mountable) c.durable sound

does-sound : (old : StoreView) (wanted : Asked) (bytes : List ℕ) (answer : Answer) (new : StoreView) → Does old wanted bytes answer new → StaysSound old new
does-sound old (Write first) bytes answer new (inl w) = call-sound old _ answer new w.calls
does-sound old (Write first) bytes answer new (inr c) = same-sound old new c.1
does-sound old (Read first n) bytes answer new r = call-sound old _ answer new r.calls
does-sound old (Trim first n) bytes answer new w = call-sound old _ answer new w.calls
does-sound old (WriteZeroes first n true) bytes answer new w = call-sound old _ answer new w.calls
does-sound old (WriteZeroes first n false) bytes answer new w = call-sound old _ answer new w.calls
does-sound old Flush bytes answer new c = same-sound old new c.1

spare-sound : (old : StoreView) (first n : ℕ) (new : StoreView) → Spares old first n new → StaysSound old new
spare-sound old first n new s = λ sound. same-safe old.disk new.disk (s.kept.mounted sound.0.mountable) s.durable sound

done-sound : (old : StoreView) (wanted : Asked) (bytes : List ℕ) (done : Result (Unit {0}) StoreFault) (shown : List (List ℕ)) (new : StoreView) → DoesOrFails old wanted bytes done shown new → StaysSound old new
done-sound old wanted bytes (Ok done) shown new d = does-sound old wanted bytes (record { result = Ok tt; shown = shown }) new d
done-sound old wanted bytes (Err (Disk fault)) shown new d = does-sound old wanted bytes (record { result = Err fault; shown = shown }) new d
done-sound old wanted bytes (Err Medium) shown new d = let s = some_spared old wanted bytes new d.1 in spare-sound old s.0 s.1 new s.2

keeps-sound : (old new : StoreView) → KeepsBySync old new → StaysSound old new
keeps-sound old new k = λ sound. may-safe old.disk new.disk (k.kept.mounted sound.0.mountable) k.durable sound

sync-sound : (old : StoreView) (result : Result (Unit {0}) StoreFault) (new : StoreView) → SyncsSome old result new → StaysSound old new
sync-sound old (Ok done) new s = keeps-sound old new s.1.keeps
sync-sound old (Err (Disk fault)) new (inl s) = same-sound old new s.1
sync-sound old (Err (Disk fault)) new (inr s) = keeps-sound old new s.1.keeps
sync-sound old (Err Medium) new s = keeps-sound old new s.1

force-sound : (forced : Bool) (wanted : Asked) (count : ℕ) (old : StoreView) (first : Result (Unit {0}) StoreFault) (result : Result (Unit {0}) StoreFault) (new : StoreView) → Forces forced wanted count old first result new → StaysSound old new
force-sound forced wanted count old (Err fault) result new f = same-sound old new f.1
force-sound true wanted count old (Ok done) result new f = sync-sound old result new (any_sync wanted count old result new f)
force-sound false wanted count old (Ok done) result new f = same-sound old new f.1

asked-sound : (old : StoreView) (request : Request) (wanted : Result Asked ErrorCode) (bytes reply : List ℕ) (new : StoreView) → AnswersAsked old request wanted bytes reply new → StaysSound old new
asked-sound old request (Err error) bytes reply new a = same-sound old new a.1
asked-sound old request (Ok wanted) bytes reply new a =
    λ sound. force-sound _ wanted _ a.middle a.done a.result new a.forces (done-sound old wanted bytes a.done a.shown a.middle a.does sound)

rests-sound : (turn : Bool) (old new : StoreView) → RestsBy turn old new → StaysSound old new
rests-sound true old new t = call-sound old _ _ new t.calls
rests-sound false old new same = same-sound old new same

sound-kept : IsKept always StaysSound
sound-kept = record {
  same = λ store sound. sound;
  again = λ a b c x y sound. y (x sound);
  asked = λ old request bytes reply new. asked-sound old request (asked_of_store old request) bytes reply new;
  grouped = λ old askings done new several group w. call-sound old _ _ new w.calls;
  rests = λ old new. rests-sound (old.cleans && not old.read_only) old new;
}

-- a session keeps it that whatever a loss of power leaves can be mounted
pub session-safe : SessionKeepsSafe
session-safe bytes old ended new served can safe = (session_kept StaysSound sound-kept bytes old ended new served (can, safe)).1
