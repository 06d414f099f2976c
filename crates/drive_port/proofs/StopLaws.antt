-- What a device that stops leaves, by what the device within did.
use Rattle.std.proofs.Common.{◌≡◌, ◌≢◌, ℕ, ◌+◌, ◌-◌, ◌*◌, ◌≤◌, Bool, true, false, IsTrue, not, ◌||◌, ◌&&◌, ltb, leb, cond, List, take, Some, None, Result, Ok, Err, refl, sym, ap, ◌∙◌, inl, inr, arith}
use Rattle.std.specs.Prelude.{IfOk, nat_eq, nat_le}
use Rattle.std.proofs.lemmas.Bool.{leb-true}
use Rattle.std.proofs.lemmas.List.{take-take}
use Rattle.std.proofs.Math.Nat.{mul-le-mul_right}
use Rattle.nvme_wire.specs.Entry.{IsAdmitted, decode_of}
use Rattle.nvme_wire.specs.declared.command.Command.{Command}
use Rattle.nvme_wire.specs.declared.command.Command.TheVariants.{Flush, Read, Write, Append, Send, Receive}
use Rattle.nvme_wire.specs.declared.command.DecodeFault.{DecodeFault}
use Rattle.nvme_wire.specs.declared.status.Status.{Status}
use Rattle.nvme_wire.specs.declared.status.Status.TheVariants.{Success}
use Rattle.zone_states.specs.declared.geometry.Geometry.{Geometry}
use Rattle.zone_states.specs.Zone.{Zone}
use Rattle.drive_port.specs.declared.calls.PortFault.TheVariants.{Refused, Stopped}
use Rattle.drive_port.specs.declared.device.Halt.{Halt}
use Rattle.drive_port.specs.declared.device.Halt.TheVariants as halts
use Rattle.drive_port.specs.declared.progress.Progress.{Progress}
use Rattle.drive_port.specs.declared.progress.Progress.TheVariants.{Going, Over, OverAppended, OverRefused}
use Rattle.drive_port.specs.Drive.{DriveState}
use Rattle.drive_port.specs.Durable.{Hardens, MayHarden}
use Rattle.drive_port.specs.Step.{is_success, one_if}
use Rattle.drive_port.specs.Halting.{LeftBy, Stops, SubmitGives}
use Rattle.drive_port.specs.Calls.{CallGives}
use Rattle.drive_port.specs.Stop.{Stopping, appended_here, drive_of, is_over, refused_here, torn_at}
use Rattle.drive_port.proofs.ClosingLaws.{IsClosing-refl}
use Rattle.drive_port.proofs.StepLaws.{effect-refused, refused-closing}
use Rattle.drive_port.proofs.HaltLaws.{success_or}

-- ---- what is durable

-- where the same is durable, no command changed it, nor a Flush inside which the device stopped
pub may_harden-same : (old new : DriveState) (command : Result Command DecodeFault) → new.durable ≡ old.durable → MayHarden command old new
may_harden-same old new (Err fault) same = same
may_harden-same old new (Ok Flush) same = λ zones is. inl (rw same at is)
may_harden-same old new (Ok (Read slba blocks)) same = same
may_harden-same old new (Ok (Write slba blocks)) same = same
may_harden-same old new (Ok (Append zslba blocks)) same = same
may_harden-same old new (Ok (Send slba action all)) same = same
may_harden-same old new (Ok (Receive slba dwords options partial)) same = same

-- a drive with the same zones, of which the same is durable, was hardened as the other
pub hardens-by : (command : Result Command DecodeFault) (old new old_in new_in : DriveState) → old_in.durable ≡ old.durable → new_in.durable ≡ new.durable → new_in.zones ≡ new.zones
    → Hardens command old new → Hardens command old_in new_in
hardens-by (Err fault) old new old_in new_in was is zones hardens = is ∙ hardens ∙ sym was
hardens-by (Ok Flush) old new old_in new_in was is zones hardens = λ found left. rw zones (hardens found (rw is at left))
hardens-by (Ok (Read slba blocks)) old new old_in new_in was is zones hardens = is ∙ hardens ∙ sym was
hardens-by (Ok (Write slba blocks)) old new old_in new_in was is zones hardens = is ∙ hardens ∙ sym was
hardens-by (Ok (Append zslba blocks)) old new old_in new_in was is zones hardens = is ∙ hardens ∙ sym was
hardens-by (Ok (Send slba action all)) old new old_in new_in was is zones hardens = is ∙ hardens ∙ sym was
hardens-by (Ok (Receive slba dwords options partial)) old new old_in new_in was is zones hardens = is ∙ hardens ∙ sym was

pub may_harden-by : (command : Result Command DecodeFault) (old new old_in new_in : DriveState) → old_in.durable ≡ old.durable → new_in.durable ≡ new.durable → new_in.zones ≡ new.zones
    → MayHarden command old new → MayHarden command old_in new_in
may_harden-by (Err fault) old new old_in new_in was is zones hardens = is ∙ hardens ∙ sym was
may_harden-by (Ok Flush) old new old_in new_in was is zones hardens = λ found left. rw (was, zones) (hardens found (rw is at left))
may_harden-by (Ok (Read slba blocks)) old new old_in new_in was is zones hardens = is ∙ hardens ∙ sym was
may_harden-by (Ok (Write slba blocks)) old new old_in new_in was is zones hardens = is ∙ hardens ∙ sym was
may_harden-by (Ok (Append zslba blocks)) old new old_in new_in was is zones hardens = is ∙ hardens ∙ sym was
may_harden-by (Ok (Send slba action all)) old new old_in new_in was is zones hardens = is ∙ hardens ∙ sym was
may_harden-by (Ok (Receive slba dwords options partial)) old new old_in new_in was is zones hardens = is ∙ hardens ∙ sym was

-- a device that had stopped
pub stops-already : (old : DriveState) (command : Result Command DecodeFault) (bytes : List ℕ) → old.stopped ≡ true → Stops old command bytes old
stops-already old command bytes stopped = record {
  already = λ e. refl;
  stopped = stopped;
  geometry = refl;
  trusted = λ clean. clean;
  fair = λ clean. clean;
  unfailing = refl;
  counts = record { completed = refl; refused = refl; appended = refl };
  left = inl (IsClosing-refl old.zones);
  hardens = may_harden-same old old command refl;
}

going-if : (b : Bool) (p : Progress) (c : Bool) → (b || (is_over p || c)) ≡ false → p ≡ Going
going-if false Going c e = refl
going-if false Over c e = absurd (cc e)
going-if false OverAppended c e = absurd (cc e)
going-if false OverRefused c e = absurd (cc e)
going-if true p c e = absurd (cc e)

or_true : (b c : Bool) → (b || (true || c)) ≡ true
or_true true c = refl
or_true false c = refl

-- the device stops here, with what the device within has left
pub stops-here : (old new : Stopping) (command : Result Command DecodeFault) (bytes : List ℕ)
    → (drive_of old).stopped ≡ false → is_over new.progress ≡ true → new.inner.geometry ≡ old.inner.geometry → new.completed ≡ old.completed
    → refused_here new.progress new.inner.refused ≡ old.inner.refused → appended_here new.progress new.inner.appended ≡ old.inner.appended
    → LeftBy old.inner.geometry old.inner.zones command bytes new.inner.zones → new.inner.durable ≡ old.inner.durable → (IsTrue new.inner.clean → IsTrue old.inner.clean) → (IsTrue old.inner.clean → IsTrue new.inner.clean) → new.inner.unfailing ≡ old.inner.unfailing
    → Stops (drive_of old) command bytes (drive_of new)
stops-here old new command bytes running over geometry completed refused appended left durable trusted fair unfailing =
    let is = going-if old.inner.stopped old.progress (nat_eq old.tear 0 && nat_le old.limit old.completed) running in
    record {
      already = λ e. absurd (cc (e, running));
      stopped = rw over (or_true new.inner.stopped (nat_eq new.tear 0 && nat_le new.limit new.completed));
      geometry = geometry;
      trusted = trusted;
      fair = fair;
      unfailing = unfailing;
      counts = record { completed = completed; refused = rw is refused; appended = rw is appended };
      left = left;
      hardens = may_harden-same (drive_of old) (drive_of new) command durable;
    }

-- ---- a command that is passed on

-- the device, and what the device within has completed and is not counted
abbrev pub stopping : DriveState → ℕ → ℕ → ℕ → Progress → Stopping
stopping inner limit tear uncounted progress = record { inner = inner; limit = limit; tear = tear; completed = inner.completed - uncounted; progress = progress }

-- a submit that is passed on
pub passed-on : (old new : DriveState) (limit tear uncounted : ℕ) (progress : Progress) (entry bytes : List ℕ) (result : Result (List ℕ) Halt) (returned : List ℕ)
    → uncounted ≤ old.completed → (drive_of (stopping old limit tear uncounted progress)).stopped ≡ false → SubmitGives old entry bytes result returned new
    → SubmitGives (drive_of (stopping old limit tear uncounted progress)) entry bytes result returned (drive_of (stopping new limit tear uncounted progress))
passed-on old new limit tear uncounted progress entry bytes (Ok completion) returned low running gives =
    let p = gives.1.performs in
    let is = going-if old.stopped progress (nat_eq tear 0 && nat_le limit (old.completed - uncounted)) running in (
      running,
      record {
        status = gives.1.status;
        value = gives.1.value;
        fits = gives.1.fits;
        encoded = gives.1.encoded;
        performs = record {
          held = p.held;
          effect = p.effect;
          told = p.told;
          length_is = p.length_is;
          trusted = p.trusted;
          fair = p.fair;
          unfailing = p.unfailing;
          geometry = p.geometry;
          completed = omega (arith, p.completed, low);
          refused = rw is p.refused;
          appended = rw is p.appended;
          hardens = hardens-by (decode_of entry) old new (drive_of (stopping old limit tear uncounted progress)) (drive_of (stopping new limit tear uncounted progress)) refl refl refl p.hardens;
        };
      },
    )
passed-on old new limit tear uncounted progress entry bytes (Err halts.Memory) returned low running gives = (gives.0, (running, rw gives.1.1 refl))
passed-on old new limit tear uncounted progress entry bytes (Err halts.Failed) returned low running gives = (
  gives.0,
  record { running = running; closing = gives.1.closing; others = ap (λ (d : DriveState). drive_of (stopping d limit tear uncounted progress)) gives.1.others },
)
passed-on old new limit tear uncounted progress entry bytes (Err halts.Stopped) returned low running gives =
    let s = gives.1 in
    let is = going-if old.stopped progress (nat_eq tear 0 && nat_le limit (old.completed - uncounted)) running in (
      gives.0,
      record {
        already = λ e. absurd (cc (e, running));
        stopped = rw s.stopped refl;
        geometry = s.geometry;
        trusted = s.trusted;
        fair = s.fair;
        unfailing = s.unfailing;
        counts = record { completed = omega (arith, s.counts.completed); refused = rw is s.counts.refused; appended = rw is s.counts.appended };
        left = s.left;
        hardens = may_harden-by (decode_of entry) old new (drive_of (stopping old limit tear uncounted progress)) (drive_of (stopping new limit tear uncounted progress)) refl refl refl s.hardens;
      },
    )

-- ---- the torn Append

-- the command is an Append of enough blocks
pub record IsTorn (command : Result Command DecodeFault) (start j : ℕ) : Type 0 where
  pub blocks : ℕ
  pub command_is : command ≡ Ok (Append start blocks)
  pub some : 1 ≤ j
  pub few : j ≤ blocks

torn-if : (a b c : Bool) (start found : ℕ) → cond (a && (b && c)) (Some start) None ≡ Some found → (a ≡ true) × (b ≡ true) × (start ≡ found)
torn-if true true true start found e = (refl, refl, cc e)
torn-if true true false start found e = absurd (cc e)
torn-if true false c start found e = absurd (cc e)
torn-if false b c start found e = absurd (cc e)

-- an Append that is to be torn
pub torn_at-some : (block j : ℕ) (command : Result Command DecodeFault) (len found : ℕ) → torn_at block j command len ≡ Some found → IsTorn command found j
torn_at-some block j (Err fault) len found e = absurd (cc e)
torn_at-some block j (Ok Flush) len found e = absurd (cc e)
torn_at-some block j (Ok (Read slba blocks)) len found e = absurd (cc e)
torn_at-some block j (Ok (Write slba blocks)) len found e = absurd (cc e)
torn_at-some block j (Ok (Append start blocks)) len found e =
    let is = torn-if (ltb 0 j) (leb j blocks) (leb (j * block) len) start found e in
    record { blocks = blocks; command_is = rw is.2 refl; some = leb-true _ _ is.0; few = leb-true _ _ is.1 }
torn_at-some block j (Ok (Send start action all)) len found e = absurd (cc e)
torn_at-some block j (Ok (Receive slba dwords options partial)) len found e = absurd (cc e)

-- the shorter Append is admitted where the longer one is
pub torn-admitted : (command : Result Command DecodeFault) (start j : ℕ) → IsTorn command start j → IfOk command IsAdmitted → IsAdmitted (Append start j)
torn-admitted command start j torn admitted =
    let whole : IsAdmitted (Append start torn.blocks) = rw torn.command_is at admitted in
    (whole.0, torn.some, omega (arith, torn.few, whole.2))

-- what an Append of the first j blocks leaves, whole or torn, is what a torn Append of all leaves
pub left-torn : (geometry : Geometry) (old new : List Zone) (start j blocks : ℕ) (bytes : List ℕ) → 1 ≤ j → j ≤ blocks
    → LeftBy geometry old (Ok (Append start j)) (take (j * geometry.block) bytes) new → LeftBy geometry old (Ok (Append start blocks)) bytes new
left-torn geometry old new start j blocks bytes some few left =
    elim left [
      | inl closing ↦ inl closing
      | inr (inl whole) ↦ elim (success_or whole.status) [
        | inl done ↦ inr (inr (record { j = j; some = some; few = few; value = whole.value; returned = whole.returned; effect = rw done at whole.effect }))
        | inr bad ↦ inl (effect-refused geometry old new (Ok (Append start j)) (take (j * geometry.block) bytes) whole.returned whole.status whole.value bad.0 whole.effect).0
      ]
      | inr (inr torn) ↦
          let less : torn.j * geometry.block ≤ j * geometry.block = mul-le-mul_right geometry.block torn.few in
          let same : take (torn.j * geometry.block) (take (j * geometry.block) bytes) ≡ take (torn.j * geometry.block) bytes = take-take (torn.j * geometry.block) (j * geometry.block) bytes less in
          inr (inr (record { j = torn.j; some = torn.some; few = omega (arith, torn.few, few); value = torn.value; returned = torn.returned; effect = rw same at torn.effect }))
    ]

bad_is : (status : Status) → status ≢ Success → is_success status ≡ false
bad_is status bad = elim (success_or status) [
  | inl done ↦ absurd (bad done)
  | inr is ↦ is.1
]

-- its front was appended
pub stops-appended : (old : Stopping) (inner : DriveState) (uncounted : ℕ) (command : Result Command DecodeFault) (start block : ℕ) (bytes returned : List ℕ) (value : ℕ)
    → old.completed ≡ old.inner.completed - uncounted → (drive_of old).stopped ≡ false → IsTorn command start old.tear → block ≡ old.inner.geometry.block
    → CallGives old.inner (Append start old.tear) (take (old.tear * block) bytes) (Ok value) returned inner
    → Stops (drive_of old) command bytes (drive_of (record old { inner = inner; completed = inner.completed - (uncounted + 1); progress = OverAppended }))
stops-appended old inner uncounted command start block bytes returned value counted running torn block_is gives =
    let p = gives.1 in
    stops-here old (record old { inner = inner; completed = inner.completed - (uncounted + 1); progress = OverAppended }) command bytes running refl p.geometry
    (omega (arith, p.completed, counted)) (omega (arith, p.refused)) (omega (arith, p.appended))
    (rw torn.command_is (inr (inr (record { j = old.tear; some = torn.some; few = torn.few; value = value; returned = p.held; effect = rw block_is at p.effect })))) p.hardens p.trusted (λ clean. p.fair clean (p.told refl)) p.unfailing

-- or its front was refused
pub stops-refused : (old : Stopping) (inner : DriveState) (uncounted : ℕ) (command : Result Command DecodeFault) (start block : ℕ) (bytes returned : List ℕ) (status : Status)
    → old.completed ≡ old.inner.completed - uncounted → (drive_of old).stopped ≡ false
    → CallGives old.inner (Append start old.tear) (take (old.tear * block) bytes) (Err (Refused status)) returned inner
    → Stops (drive_of old) command bytes (drive_of (record old { inner = inner; completed = inner.completed - (uncounted + 1); progress = OverRefused }))
stops-refused old inner uncounted command start block bytes returned status counted running gives =
    let p = gives.3 in
    let refused = p.refused ∙ ap (λ (b : Bool). old.inner.refused + one_if (not b)) (bad_is status gives.1) in
    let appended = p.appended ∙ ap (λ (b : Bool). old.inner.appended + one_if b) (bad_is status gives.1) in
    let closing = refused-closing old.inner inner (Append start old.tear) (take (old.tear * block) bytes) returned status gives in
    stops-here old (record old { inner = inner; completed = inner.completed - (uncounted + 1); progress = OverRefused }) command bytes running refl p.geometry
    (omega (arith, p.completed, counted)) (omega (arith, refused)) (omega (arith, appended)) (inl closing) p.hardens p.trusted (λ clean. p.fair clean (p.told refl)) p.unfailing

-- or the drive within stopped by itself
pub stops-stopped : (old : Stopping) (inner : DriveState) (uncounted : ℕ) (command : Result Command DecodeFault) (start block : ℕ) (bytes returned : List ℕ)
    → old.completed ≡ old.inner.completed - uncounted → (drive_of old).stopped ≡ false → IsTorn command start old.tear → block ≡ old.inner.geometry.block
    → CallGives old.inner (Append start old.tear) (take (old.tear * block) bytes) (Err Stopped) returned inner
    → Stops (drive_of old) command bytes (drive_of (record old { inner = inner; completed = inner.completed - uncounted; progress = Over }))
stops-stopped old inner uncounted command start block bytes returned counted running torn block_is gives =
    let s = gives.1 in
    stops-here old (record old { inner = inner; completed = inner.completed - uncounted; progress = Over }) command bytes running refl s.geometry
    (omega (arith, s.counts.completed, counted)) s.counts.refused s.counts.appended
    (rw torn.command_is (left-torn old.inner.geometry old.inner.zones inner.zones start old.tear torn.blocks bytes torn.some torn.few (rw block_is at s.left))) s.hardens s.trusted s.fair s.unfailing
