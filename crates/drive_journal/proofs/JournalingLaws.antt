-- What a device that writes its changes shows, and what its store holds then.
use Rattle.std.proofs.Common.{◌≡◌, ℕ, ◌==◌, Bool, true, false, ◌&&◌, ◌⊎◌, List, [], ◌++◌, length, take, drop, Option, Some, None, Result, Ok, Err, inl, inr, refl, sym, ap, ◌∙◌, subst, arith}
use Rattle.std.specs.Prelude.{IfOk, IfSome, IsTrue, OnErr, if◌then◌else◌, is_some}
use Rattle.std.specs.Io.KnownBytes.{Appends}
use Rattle.std.proofs.Math.Seq.{drop-append_seam}
use Rattle.std.proofs.lemmas.List.{append-nil, take_at}
use Rattle.nvme_wire.specs.Completion.{code_in}
use Rattle.nvme_wire.specs.Entry.{decode_of}
use Rattle.nvme_wire.specs.declared.status.Status.{Status}
use Rattle.nvme_wire.specs.declared.status.Status.TheVariants.{Success}
use Rattle.zone_states.specs.Zone.{Zone}
use Rattle.disk_files.specs.Output.{AppendsFront}
use Rattle.drive_port.specs.Drive.{DriveState, IsLawful}
use Rattle.drive_port.specs.Halting.{SubmitAdds, SubmitGives}
use Rattle.drive_port.specs.Step.{Effect, Outcome, is_success}
use Rattle.drive_port.specs.declared.device.Halt.{Halt}
use Rattle.drive_port.specs.declared.device.Halt.TheVariants.{Memory, Failed, Stopped}
use Rattle.drive_port.proofs.CallLaws.{adds-also, adds-nothing}
use Rattle.drive_port.proofs.ClosingLaws.{IsClosing-refl}
use Rattle.drive_port.proofs.HaltLaws.{success_or}
use Rattle.drive_port.proofs.StopLaws.{may_harden-same, stops-already}
use Rattle.zone_drive.specs.Foreseen.{CanGive}
use Rattle.drive_journal.specs.Change.{Sum, beside_bytes, change_bytes, change_of, changes, next_sum, start, sum_for, written_for}
use Rattle.drive_journal.specs.File.{IsStored, IsStoredWhole}
use Rattle.drive_journal.specs.Journaling.{AnswersInStep, AreCutOff, IsInStep, Journaled, MayRenew, Writes, changed_data_in, changed_entry_in, is_lost, shown_drive, sum_by, written_by}
use Rattle.drive_journal.specs.declared.loss.Loss.{Loss}
use Rattle.drive_journal.specs.declared.loss.Loss.TheVariants as losses
use Rattle.drive_journal.proofs.CutLaws.{cut-front}
use Rattle.drive_journal.proofs.KeepingLaws.{stored-completed, stored-cut, stored-effect, sum-no, sum-yes, written-no, written-yes}
use Rattle.drive_journal.proofs.StepLaws.{is-change}

-- ---- the drive that is shown

-- a device that lost nothing
abbrev pub going_on : DriveState → Option (List ℕ) → Sum → Journaled
going_on inner contents sum = record { drive = inner; lost = false; contents = contents; sum = sum }

-- one that lost something, and shows these zones
abbrev pub given_up : DriveState → List Zone → Option (List ℕ) → Sum → Journaled
given_up inner zones contents sum = record { drive = record inner { zones = zones; stopped = true }; lost = true; contents = contents; sum = sum }

-- the device as its parts are
abbrev pub journaled : Loss → DriveState → List Zone → Option (List ℕ) → Sum → Journaled
journaled loss inner next contents sum = record { drive = shown_drive loss inner next; lost = is_lost loss; contents = contents; sum = sum }

-- a device that runs has lost nothing, and the one within runs
runs-on : (loss : Loss) (inner : DriveState) (next : List Zone) → (shown_drive loss inner next).stopped ≡ false → (loss ≡ losses.Nothing) × (inner.stopped ≡ false)
runs-on losses.Nothing inner next e = (refl, e)
runs-on losses.Change inner next e = absurd (cc e)
runs-on losses.Completion inner next e = absurd (cc e)

lawful-stopped : (drive : DriveState) → IsLawful drive → IsLawful (record drive { stopped = true })
lawful-stopped drive lawful = record {
  geometry = lawful.geometry;
  count = lawful.count;
  zones = lawful.zones;
  active = lawful.active;
  open_zones = lawful.open_zones;
  completed = lawful.completed;
  stopped = λ e. refl;
}

-- a truth value is not both
pub true-false : true ≡ false → ⊥
true-false e = absurd (cc e)

-- ---- the bytes of a store

-- known bytes to which others were appended
if-more : (old new : Option (List ℕ)) (more : List ℕ) (P Q : List ℕ → Type 0) → Appends old new more → is_some new ≡ is_some old → ((bytes : List ℕ) → P bytes → Q (bytes ++ more)) → IfSome old P → IfSome new Q
if-more None None more P Q appends known f p = tt
if-more None (Some now) more P Q appends known f p = absurd (cc known)
if-more (Some held) None more P Q appends known f p = absurd appends
if-more (Some held) (Some now) more P Q appends known f p = rw appends (f held p)

-- if P of any bytes gives Q, then P of known bytes gives Q
if-so : (known : Option (List ℕ)) (P Q : List ℕ → Type 0) → ((bytes : List ℕ) → P bytes → Q bytes) → IfSome known P → IfSome known Q
if-so None P Q f p = tt
if-so (Some held) P Q f p = f held p

appends-nothing : (contents : Option (List ℕ)) → Appends contents contents []
appends-nothing None = tt
appends-nothing (Some held) = sym (append-nil held)

-- while nothing is lost, the bytes that store the drive are all that is to be kept
going-kept : (inner : DriveState) (contents : Option (List ℕ)) (sum : Sum) → IfSome contents (λ held. IsStoredWhole held inner sum) → IsInStep (going_on inner contents sum)
going-kept inner contents sum whole = record {
  stored = if-so contents (λ held. IsStoredWhole held inner sum) (λ held. IsStored held inner) (λ held whole. whole.stored) whole;
  whole = λ e. whole;
  stops = λ e. absurd (cc e);
  lawful = λ e. absurd (cc e);
}

given-kept : (inner : DriveState) (zones : List Zone) (contents : Option (List ℕ)) (sum : Sum) → IsLawful (record inner { zones = zones }) → IfSome contents (λ held. IsStored held (record inner { zones = zones })) → IsInStep (given_up inner zones contents sum)
given-kept inner zones contents sum lawful stored = record {
  stored = if-so contents (λ held. IsStored held (record inner { zones = zones })) (λ held. IsStored held (record inner { zones = zones; stopped = true })) (λ held s. record { parts = s.parts; has = s.has; geometry = s.geometry; zones = s.zones }) stored;
  whole = λ e. absurd (cc e);
  stops = λ e. refl;
  lawful = λ e. lawful-stopped (record inner { zones = zones }) lawful;
}

-- ---- answers

-- the device had stopped
pub answers-stopped : (old : Journaled) (entry bytes held : List ℕ) → old.drive.stopped ≡ true → IsLawful old.drive → IsInStep old → AnswersInStep old entry bytes held (Err Stopped) held old
answers-stopped old entry bytes held stopped lawful kept = record {
  gives = adds-nothing held (λ returned. SubmitGives old.drive entry bytes (Err Stopped) returned old.drive) (refl, stops-already old.drive (decode_of entry) bytes stopped);
  was_lawful = lawful;
  lawful = lawful;
  writes = record { held = old.contents; sum = old.sum; renewed = inl (refl, refl); written = inl refl };
  was_kept = kept;
  kept = kept;
}

-- nothing is written for a completion, and the sum stays
record WritesNothing (sum : Sum) (entry bytes completion : List ℕ) : Type 0 where
  pub none : written_by sum completion entry bytes ≡ []
  pub sum_stays : sum_by sum completion entry bytes ≡ sum

-- a command that changes nothing, or is refused, has nothing written
written-not : (sum : Sum) (entry bytes completion : List ℕ) (good : Bool) → (changes (decode_of entry) && good) ≡ false → (code_in completion == 0) ≡ good → WritesNothing sum entry bytes completion
written-not sum entry bytes completion good none code = record {
  none = rw code (by (changes (decode_of entry)) refl good none);
  sum_stays = rw code (stays (changes (decode_of entry)) refl good none);
}
  where
    by : (b : Bool) → changes (decode_of entry) ≡ b → (good : Bool) → (b && good) ≡ false → (if good then written_for sum entry bytes else []) ≡ []
    by true e true none = absurd (cc none)
    by true e false none = refl
    by false e true none = written-no sum entry bytes e
    by false e false none = refl

    stays : (b : Bool) → changes (decode_of entry) ≡ b → (good : Bool) → (b && good) ≡ false → (if good then sum_for sum entry bytes else sum) ≡ sum
    stays true e true none = absurd (cc none)
    stays true e false none = refl
    stays false e true none = sum-no sum entry bytes e
    stays false e false none = refl

-- the device within did not complete the command, and the store is as it was
answers-unwritten : (inner new : DriveState) (contents : Option (List ℕ)) (sum : Sum) (entry bytes held items : List ℕ) (halt : Halt)
    → IsLawful inner → IsLawful new → SubmitAdds inner entry bytes held (Err halt) items new
    → Writes (going_on inner contents sum) contents sum entry bytes (Err halt) (going_on new contents sum)
    → new ≡ inner → IsInStep (going_on inner contents sum)
    → AnswersInStep (going_on inner contents sum) entry bytes held (Err halt) items (going_on new contents sum)
answers-unwritten inner new contents sum entry bytes held items halt was lawful gives written same kept = record {
  gives = gives;
  was_lawful = was;
  lawful = lawful;
  writes = record { held = contents; sum = sum; renewed = inl (refl, refl); written = written };
  was_kept = kept;
  kept = rw same kept;
}

-- the device within answered, and nothing was to be written
answers-plain : (inner new : DriveState) (contents : Option (List ℕ)) (sum : Sum) (entry bytes held items : List ℕ) (result : Result (List ℕ) Halt) → length entry ≡ 64 → inner.stopped ≡ false → IsLawful inner → IsLawful new
    → SubmitAdds inner entry bytes held result items new → IfOk result (WritesNothing sum entry bytes) → OnErr result (new ≡ inner) → IsInStep (going_on inner contents sum)
    → AnswersInStep (going_on inner contents sum) entry bytes held result items (going_on new contents sum)
answers-plain inner new contents sum entry bytes held items (Ok completion) long runs was lawful gives none same kept = record {
  gives = gives;
  was_lawful = was;
  lawful = lawful;
  writes = record { held = contents; sum = sum; renewed = inl (refl, refl); written = (refl, sym none.sum_stays, rw none.none (appends-nothing contents, λ n short. absurd (omega (arith, short)))) };
  was_kept = kept;
  kept = going-kept new contents sum (if-so contents (λ b. IsStoredWhole b inner sum) (λ b. IsStoredWhole b new sum)
      (λ b stored. rw (append-nil b) at (rw (none.none, none.sum_stays) at (stored-completed inner new sum entry bytes completion gives.returned b long gives.given.1 stored))) (kept.whole refl));
}
answers-plain inner new contents sum entry bytes held items (Err Memory) long runs was lawful gives none same kept =
    answers-unwritten inner new contents sum entry bytes held items Memory was lawful gives (refl, refl, refl) same kept
answers-plain inner new contents sum entry bytes held items (Err Failed) long runs was lawful gives none same kept =
    answers-unwritten inner new contents sum entry bytes held items Failed was lawful gives (refl, refl, refl) same kept
answers-plain inner new contents sum entry bytes held items (Err Stopped) long runs was lawful gives none same kept =
    absurd (true-false (sym gives.given.1.stopped ∙ ap (λ (d : DriveState). d.stopped) same ∙ runs))

-- ---- a change is written

-- what the store holds before a change is written, and the sum from which it goes on: the same as there was, or others of this drive
abbrev pub Before : DriveState → Option (List ℕ) → Sum → Option (List ℕ) → Sum → Type 0
Before inner contents sum before from = ((before ≡ contents) × (from ≡ sum)) ⊎ ((from ≡ start) × IfSome before (λ b. IsStoredWhole b inner start))

-- The device runs, and the command of an entry will change what it holds. The store holds bytes of this drive, perhaps written anew.
module _ (inner : DriveState) (contents before : Option (List ℕ)) (sum from : Sum) (entry bytes held : List ℕ) (given : Outcome) (long : length entry ≡ 64) (runs : inner.stopped ≡ false) (was : IsLawful inner) (kept : IsInStep (going_on inner contents sum))
    (is_changing : changes (decode_of entry) ≡ true) (good : given.status ≡ Success) (can : CanGive inner (decode_of entry) bytes given) (held_is : Before inner contents sum before from) where
  effect : Effect inner.geometry inner.zones (decode_of entry) bytes Success given.value given.returned given.zones
  effect = rw good at can.effect

  stored : IfSome before (λ b. IsStoredWhole b inner from)
  stored = elim held_is [
    | inl same ↦ rw (same.0, same.1) (kept.whole refl)
    | inr anew ↦ rw anew.0 anew.1
  ]

  renewed : MayRenew (going_on inner contents sum) entry before from
  renewed = elim held_is [
    | inl same ↦ inl same
    | inr anew ↦ inr (is_changing, anew.0, anew.1)
  ]

  cuts : AreCutOff inner.geometry from (written_for from entry bytes)
  cuts n short =
      rw (written-yes from entry bytes is_changing)
      (cut-front inner.geometry from (change_of entry bytes) n (is-change inner.geometry inner.zones given.zones entry bytes given.returned given.value long is_changing effect) (rw (written-yes from entry bytes is_changing) at short))

  -- there was no memory for it
  answers-memory : AnswersInStep (going_on inner contents sum) entry bytes held (Err Memory) held (going_on inner before from)
  answers-memory = record {
    gives = adds-nothing held (λ returned. SubmitGives inner entry bytes (Err Memory) returned inner) (refl, (runs, refl));
    was_lawful = was;
    lawful = was;
    writes = record { held = before; sum = from; renewed = renewed; written = (refl, refl, refl) };
    was_kept = kept;
    kept = going-kept inner before from stored;
  }

  -- the store failed
  answers-cut : (now : Option (List ℕ)) → AppendsFront before now (written_for from entry bytes) → is_some now ≡ is_some before
      → AnswersInStep (going_on inner contents sum) entry bytes held (Err Stopped) held (given_up inner inner.zones now from)
  answers-cut now front known = record {
    gives = adds-nothing held (λ returned. SubmitGives inner entry bytes (Err Stopped) returned (given_up inner inner.zones now from).drive) (
      refl,
      record {
        already = λ e. absurd (true-false (sym e ∙ runs));
        stopped = refl;
        geometry = refl;
        trusted = λ clean. clean;
        fair = λ clean. clean;
        unfailing = refl;
        counts = record { completed = refl; refused = refl; appended = refl };
        left = inl (IsClosing-refl inner.zones);
        hardens = may_harden-same inner (given_up inner inner.zones now from).drive (decode_of entry) refl;
      },
    );
    was_lawful = was;
    lawful = lawful-stopped inner was;
    writes = record { held = before; sum = from; renewed = renewed; written = inr (refl, inl (front, cuts)) };
    was_kept = kept;
    kept = given-kept inner inner.zones now from was (if-more before now (take front.count (written_for from entry bytes)) (λ b. IsStoredWhole b inner from) (λ b. IsStored b inner) front.appends known
        (λ b whole. stored-cut b inner from whole (take front.count (written_for from entry bytes)) (cuts front.count front.short)) stored);
  }

  -- the change was written
  module _ (now : Option (List ℕ)) (appends : Appends before now (written_for from entry bytes)) (known : is_some now ≡ is_some before) where
    -- and the command was done
    answers-done : (new : DriveState) (completion items : List ℕ) → IsLawful new → SubmitAdds inner entry bytes held (Ok completion) items new → (code_in completion == 0) ≡ is_success given.status
        → AnswersInStep (going_on inner contents sum) entry bytes held (Ok completion) items (going_on new now (sum_for from entry bytes))
    answers-done new completion items lawful gives code =
        let success : is_success given.status ≡ true = ap (λ (s : Status). is_success s) good in
        let all : written_by from completion entry bytes ≡ written_for from entry bytes = rw (code, success) refl in
        let after : sum_by from completion entry bytes ≡ sum_for from entry bytes = rw (code, success) refl in
        record {
          gives = gives;
          was_lawful = was;
          lawful = lawful;
          writes = record { held = before; sum = from; renewed = renewed; written = (refl, sym after, rw all (appends, cuts)) };
          was_kept = kept;
          kept = going-kept new now (sum_for from entry bytes) (if-more before now (written_for from entry bytes) (λ b. IsStoredWhole b inner from) (λ b. IsStoredWhole b new (sum_for from entry bytes)) appends known
              (λ b whole. rw (all, after) at (stored-completed inner new from entry bytes completion gives.returned b long gives.given.1 whole)) stored);
        }

    -- and there was no memory to do the command
    answers-behind : (halt : Halt) (next : Sum) (items : List ℕ) → SubmitAdds inner entry bytes held (Err halt) items inner
        → AnswersInStep (going_on inner contents sum) entry bytes held (Err Stopped) items (given_up inner given.zones now next)
    answers-behind halt next items gives = record {
      gives = adds-also held items (λ returned. SubmitGives inner entry bytes (Err halt) returned inner) (λ returned. SubmitGives inner entry bytes (Err Stopped) returned (given_up inner given.zones now next).drive) (λ returned none. (
        none.0,
        record {
          already = λ e. absurd (true-false (sym e ∙ runs));
          stopped = refl;
          geometry = refl;
          trusted = λ clean. clean;
          fair = λ clean. clean;
          unfailing = refl;
          counts = record { completed = refl; refused = refl; appended = refl };
          left = inr (inl (record { status = given.status; value = given.value; returned = given.returned; effect = can.effect }));
          hardens = may_harden-same inner (given_up inner given.zones now next).drive (decode_of entry) refl;
        },
      )) gives;
      was_lawful = was;
      lawful = lawful-stopped (record inner { zones = given.zones }) can.lawful;
      writes = record { held = before; sum = from; renewed = renewed; written = inr (refl, inr (appends, cuts)) };
      was_kept = kept;
      kept = given-kept inner given.zones now next can.lawful (if-more before now (written_for from entry bytes) (λ b. IsStoredWhole b inner from) (λ b. IsStored b (record inner { zones = given.zones })) appends known
          (λ b whole. (stored-effect inner (record inner { zones = given.zones }) from entry bytes given.returned b given.value long is_changing refl effect whole).stored) stored);
    }

-- ---- an entry and its data, kept together

-- the first 64 bytes of what is kept are the entry
kept-entry : (entry written : List ℕ) → length entry ≡ 64 → changed_entry_in (entry ++ written) ≡ entry
kept-entry entry written long = take_at entry written 64 long

-- the bytes after the entry are the data
kept-data : (entry written : List ℕ) → length entry ≡ 64 → changed_data_in (entry ++ written) ≡ written
kept-data entry written long = ap (λ (n : ℕ). drop n (entry ++ written)) (sym long) ∙ drop-append_seam entry written

-- ---- the same of a device by its parts

both : (a b : Bool) → true ≡ (a && b) → (a ≡ true) × (b ≡ true)
both true b e = (refl, sym e)
both false b e = absurd (cc e)

success-is : (status : Status) → is_success status ≡ true → status ≡ Success
success-is status e = elim (success_or status) [ inl good ↦ good | inr bad ↦ absurd (cc (e, bad.1)) ]

module _ (loss : Loss) (inner : DriveState) (next : List Zone) (contents : Option (List ℕ)) (sum : Sum) (entry bytes held : List ℕ) (long : length entry ≡ 64) (going : false ≡ (shown_drive loss inner next).stopped)
    (was : IsLawful (shown_drive loss inner next)) (kept : IsInStep (journaled loss inner next contents sum)) where
  ran : (loss ≡ losses.Nothing) × (inner.stopped ≡ false)
  ran = runs-on loss inner next (sym going)

  was-within : IsLawful inner
  was-within = subst (λ (l : Loss). IsLawful (shown_drive l inner next)) ran.0 was

  kept-within : IsInStep (going_on inner contents sum)
  kept-within = subst (λ (l : Loss). IsInStep (journaled l inner next contents sum)) ran.0 kept

  -- the store holds the drive within, before anything is written anew
  pub shown-whole : IfSome contents (λ b. IsStoredWhole b inner sum)
  shown-whole = kept-within.whole refl

  -- a command that changes nothing, or is refused, is answered in step
  pub shown-plain : (new : DriveState) (after : List Zone) (items : List ℕ) (result : Result (List ℕ) Halt) (given : Outcome) → false ≡ (changes (decode_of entry) && is_success given.status) → IsLawful new
      → SubmitAdds inner entry bytes held result items new → IfOk result (λ completion. (code_in completion == 0) ≡ is_success given.status) → OnErr result (new ≡ inner)
      → AnswersInStep (journaled loss inner next contents sum) entry bytes held result items (journaled loss new after contents sum)
  shown-plain new after items result given none lawful gives code same =
      subst (λ (l : Loss). AnswersInStep (journaled l inner next contents sum) entry bytes held result items (journaled l new after contents sum)) (sym ran.0)
      (answers-plain inner new contents sum entry bytes held items result long ran.1 was-within lawful gives (ok-so result code) same kept-within)
    where
      ok-so : (result : Result (List ℕ) Halt) → IfOk result (λ completion. (code_in completion == 0) ≡ is_success given.status) → IfOk result (WritesNothing sum entry bytes)
      ok-so (Ok completion) code = written-not sum entry bytes completion (is_success given.status) (sym none) code
      ok-so (Err halt) code = tt

  module _ (before : Option (List ℕ)) (from : Sum) (given : Outcome) (willing : true ≡ (changes (decode_of entry) && is_success given.status)) (can : CanGive inner (decode_of entry) bytes given) (held_is : Before inner contents sum before from) where
    changing : changes (decode_of entry) ≡ true
    changing = (both (changes (decode_of entry)) (is_success given.status) willing).0

    good : given.status ≡ Success
    good = success-is given.status (both (changes (decode_of entry)) (is_success given.status) willing).1

    -- if memory runs out, the answer is in step, and no change is written
    pub shown-memory : (after : List Zone) → AnswersInStep (journaled loss inner next contents sum) entry bytes held (Err Memory) held (journaled loss inner after before from)
    shown-memory after =
        subst (λ (l : Loss). AnswersInStep (journaled l inner next contents sum) entry bytes held (Err Memory) held (journaled l inner after before from)) (sym ran.0)
        (answers-memory inner contents before sum from entry bytes held given long ran.1 was-within kept-within changing good can held_is)

    -- what is written for it
    change-is : (written : List ℕ) → written ≡ beside_bytes (decode_of entry) bytes → change_bytes from (record { entry = entry; bytes = written }) ≡ written_for from entry bytes
    change-is written is = rw (is, written-yes from entry bytes changing) refl

    -- and the sum after it
    sum-is : (written : List ℕ) → written ≡ beside_bytes (decode_of entry) bytes → next_sum from (record { entry = entry; bytes = written }) ≡ sum_for from entry bytes
    sum-is written is = rw (is, sum-yes from entry bytes changing) refl

    -- if only a beginning of the change is written, the device stops, and the answer is in step
    pub shown-cut : (after : List Zone) (now : Option (List ℕ)) (written : List ℕ) → written ≡ beside_bytes (decode_of entry) bytes → AppendsFront before now (change_bytes from (record { entry = entry; bytes = written }))
        → is_some now ≡ is_some before
        → AnswersInStep (journaled loss inner next contents sum) entry bytes held (Err Stopped) held (journaled losses.Change inner after now from)
    shown-cut after now written is front known =
        subst (λ (l : Loss). AnswersInStep (journaled l inner next contents sum) entry bytes held (Err Stopped) held (journaled losses.Change inner after now from)) (sym ran.0)
        (answers-cut inner contents before sum from entry bytes held given long ran.1 was-within kept-within changing good can held_is now (subst (AppendsFront before now) (change-is written is) front) known)

    -- if the change is written and the command completed, the answer is in step
    pub shown-done : (new : DriveState) (after : List Zone) (now : Option (List ℕ)) (written completion items : List ℕ) (last : Sum) → written ≡ beside_bytes (decode_of entry) bytes
        → Appends before now (change_bytes from (record { entry = entry; bytes = written })) → last ≡ next_sum from (record { entry = entry; bytes = written }) → is_some now ≡ is_some before → IsLawful new
        → SubmitAdds inner entry bytes held (Ok completion) items new → (code_in completion == 0) ≡ is_success given.status
        → AnswersInStep (journaled loss inner next contents sum) entry bytes held (Ok completion) items (journaled loss new after now last)
    shown-done new after now written completion items last is appends last_is known lawful gives code =
        subst (λ (l : Loss). AnswersInStep (journaled l inner next contents sum) entry bytes held (Ok completion) items (journaled l new after now last)) (sym ran.0)
        (subst (λ (s : Sum). AnswersInStep (going_on inner contents sum) entry bytes held (Ok completion) items (going_on new now s)) (sym (last_is ∙ sum-is written is))
        (answers-done inner contents before sum from entry bytes held given long ran.1 was-within kept-within changing good can held_is now (subst (Appends before now) (change-is written is) appends) known new completion items lawful gives code))

    -- what is shown then is what was foreseen of the command
    pub shown-behind : (after : Outcome) (now : Option (List ℕ)) (written kept_bytes : List ℕ) (halt : Halt) (items : List ℕ) (last : Sum) → written ≡ beside_bytes (decode_of entry) bytes
        → Appends before now (change_bytes from (record { entry = entry; bytes = written }))
        → is_some now ≡ is_some before → kept_bytes ≡ entry ++ written → SubmitAdds inner entry bytes held (Err halt) items inner
        → (changed_entry_in kept_bytes ≡ entry → changed_data_in kept_bytes ≡ beside_bytes (decode_of entry) bytes → after ≡ given)
        → AnswersInStep (journaled loss inner next contents sum) entry bytes held (Err Stopped) items (journaled losses.Completion inner after.zones now last)
    shown-behind after now written kept_bytes halt items last is appends known kept_is gives same =
        let is_given = same (rw kept_is (kept-entry entry written long)) (rw kept_is (kept-data entry written long ∙ is)) in
        subst (λ (l : Loss). AnswersInStep (journaled l inner next contents sum) entry bytes held (Err Stopped) items (journaled losses.Completion inner after.zones now last)) (sym ran.0)
        (subst (λ (o : Outcome). AnswersInStep (going_on inner contents sum) entry bytes held (Err Stopped) items (journaled losses.Completion inner o.zones now last)) (sym is_given)
        (answers-behind inner contents before sum from entry bytes held given long ran.1 was-within kept-within changing good can held_is now (subst (Appends before now) (change-is written is) appends) known halt last items gives))

-- what a store holds after it may have written its bytes anew, and the sum before the next change
pub renewed-before : (inner : DriveState) (contents before : Option (List ℕ)) (sum from : Sum) (anew : Bool) → (IsTrue anew → IfSome before (λ b. IsStoredWhole b inner start)) → (anew ≡ false → before ≡ contents)
    → from ≡ (if anew then start else sum) → Before inner contents sum before from
renewed-before inner contents before sum from true anew same is = inr (is, anew refl)
renewed-before inner contents before sum from false anew same is = inl (same refl, is)
