-- What is answered by EIO is not done, if it had not to be durable.
use Rattle.std.proofs.Common.{◌≡◌, ◌⊎◌, inl, inr, ℕ, List, [], ◌++◌, Option, Some, None, Ok, Err, true, false, refl, sym, ap, ◌∙◌, arith}
use Rattle.std.specs.Prelude.{IsFalse, MatchOption, Result}
use Rattle.std.specs.List.{concat}
use Rattle.nbd_wire.specs.Transmission.{error_code, simple_reply_bytes}
use Rattle.nbd_wire.specs.declared.error_code.ErrorCode.TheVariants as errors
use Rattle.zone_translator.specs.Flat.{Answer, Begun, Call, FlatDisk, known_answer, with_nothing}
use Rattle.zone_translator.specs.View.{DiskCause}
use Rattle.zone_translator.specs.declared.fault.DiskFault.{DiskFault}
use Rattle.zone_translator.specs.declared.fault.DiskFault.TheVariants as disk
use Rattle.nbd_session.specs.declared.asked.Asked.{Asked}
use Rattle.nbd_session.specs.declared.asked.Asked.TheVariants.{Read, Write, Trim, WriteZeroes, Flush}
use Rattle.nbd_session.specs.declared.fault.StoreFault.{StoreFault}
use Rattle.nbd_session.specs.declared.fault.StoreFault.TheVariants.{Disk, Medium}
use Rattle.nbd_session.specs.Laws.{AnsweredByDisk, FailedIsUndone}
use Rattle.nbd_session.specs.Requests.{Does, DoesOrFails, Forces, code_of, data_length, error_of, error_past_end}
use Rattle.nbd_session.specs.Store.{Calls, StoreView, store_flat}
use Rattle.nbd_session.proofs.ReplyLaws.{same_code, same_data}
use Rattle.nbd_session.proofs.SpareLaws.{some_spared}

-- a store that does not fail answers as its disk
pub answered-by_disk : AnsweredByDisk
answered-by_disk old new wanted bytes (Ok done) shown d plain = d
answered-by_disk old new wanted bytes (Err (Disk fault)) shown d plain = d
answered-by_disk old new wanted bytes (Err Medium) shown d plain = absurd (cc (sym (some_spared old wanted bytes new d.1).2.may ∙ plain))

past_end-told : (wanted : Asked) → error_code (error_past_end wanted) ≡ 5 → ⊥
past_end-told (Read first n) io = omega (arith, io)
past_end-told (Write first) io = omega (arith, io)
past_end-told (Trim first n) io = omega (arith, io)
past_end-told (WriteZeroes first n hole) io = omega (arith, io)
past_end-told Flush io = omega (arith, io)

-- of the refusals of a disk only that of a failed command is told as EIO
told : (wanted : Asked) (fault : DiskFault) → error_code (error_of wanted fault) ≡ 5 → fault ≡ disk.Failed
told wanted disk.OutOfRange io = absurd (past_end-told wanted io)
told wanted disk.OutOfMemory io = absurd (omega (arith, io))
told wanted disk.Failed io = refl
told wanted disk.Stopped io = absurd (omega (arith, io))
told wanted disk.Spent io = absurd (omega (arith, io))
told wanted disk.Unmounted io = absurd (omega (arith, io))
told wanted disk.Smaller io = absurd (omega (arith, io))
told wanted disk.Reserve io = absurd (omega (arith, io))
told wanted disk.Damaged io = absurd (omega (arith, io))

-- a refusal of a call that is known shows nothing, and neither does one of a call that was begun
nothing-shown : (known : Option (Result (Unit {0}) DiskFault)) (old : FlatDisk) (call : Call) (fault : DiskFault) (shown : List (List ℕ)) (new : FlatDisk)
    → MatchOption known (Begun old call (Err fault) shown new) (λ result. ((record { result = Err fault; shown = shown }) ≡ with_nothing result) × (new ≡ old)) → shown ≡ []
nothing-shown None old call fault shown new b = b.1
nothing-shown (Some result) old call fault shown new b = ap (λ (a : Answer). a.shown) b.0

-- a call is refused: it shows nothing, and has its cause
call-refused : (old : StoreView) (call : Call) (fault : DiskFault) (shown : List (List ℕ)) (new : StoreView) → Calls old call (record { result = Err fault; shown = shown }) new
    → (shown ≡ []) × DiskCause new.disk fault
call-refused old call fault shown new c =
    (nothing-shown (known_answer (store_flat old) call) (store_flat old) call fault shown (store_flat new) c.flat, c.cause)

-- what is asked is refused since the drive failed at a command
asked-refused : (old : StoreView) (wanted : Asked) (bytes : List ℕ) (shown : List (List ℕ)) (new : StoreView) → Does old wanted bytes (record { result = Err disk.Failed; shown = shown }) new
    → (shown ≡ []) × IsFalse new.disk.drive.unfailing
asked-refused old (Read first n) bytes shown new d = call-refused old _ disk.Failed shown new d.calls
asked-refused old (Write first) bytes shown new (inl d) = call-refused old _ disk.Failed shown new d.calls
asked-refused old (Write first) bytes shown new (inr d) = absurd (cc (ap (λ (a : Answer). a.result) d.0))
asked-refused old (Trim first n) bytes shown new d = call-refused old _ disk.Failed shown new d.calls
asked-refused old (WriteZeroes first n true) bytes shown new d = call-refused old _ disk.Failed shown new d.calls
asked-refused old (WriteZeroes first n false) bytes shown new d = call-refused old _ disk.Failed shown new d.calls
asked-refused old Flush bytes shown new d = absurd (cc (ap (λ (a : Answer). a.result) d.0))

undone : (old middle : StoreView) (wanted : Asked) (bytes : List ℕ) (done : Result (Unit {0}) StoreFault) (blocks : List (List ℕ)) (count cookie : ℕ) (result : Result (Unit {0}) StoreFault) (new : StoreView) (shown : List ℕ)
    → DoesOrFails old wanted bytes done blocks middle → Forces false wanted count middle done result new
    → simple_reply_bytes (code_of wanted result) cookie ++ concat blocks ≡ simple_reply_bytes errors.Io cookie ++ shown
    → (shown ≡ []) × (((old.fails ≡ true) × (store_flat new ≡ store_flat old)) ⊎ ((result ≡ Err (Disk disk.Failed)) × IsFalse new.disk.drive.unfailing))
undone old middle wanted bytes (Ok d) blocks count cookie result new shown does f said =
    absurd (omega (arith, same_code (code_of wanted (Ok tt)) errors.Io cookie (concat blocks) shown (rw f.0 at said)))
undone old middle wanted bytes (Err (Disk fault)) blocks count cookie result new shown does f said =
    let failed = told wanted fault (same_code (code_of wanted (Err (Disk fault))) errors.Io cookie (concat blocks) shown (rw f.0 at said)) in
    let r = asked-refused old wanted bytes blocks middle (rw failed at does) in
    (sym (same_data errors.Io cookie (concat blocks) shown (rw (f.0, failed) at said)) ∙ ap concat r.0, inr (f.0 ∙ ap (λ (d : DiskFault). Err (Disk d)) failed, rw f.1 r.1))
undone old middle wanted bytes (Err Medium) blocks count cookie result new shown does f said =
    let s = some_spared old wanted bytes middle does.1 in
    let same = same_data errors.Io cookie (concat blocks) shown (rw f.0 at said) in
    (sym same ∙ ap concat does.0, inl (s.2.may, ap store_flat f.1 ∙ s.2.flat))

-- a request that had not to be durable, and is answered by EIO, is not done
pub failed-undone : FailedIsUndone
failed-undone old new request wanted bytes reply shown a forced said =
    undone old a.middle wanted bytes a.done a.shown (data_length request) request.cookie a.result new shown a.does (rw forced at a.forces) (sym a.reply_is ∙ said)
