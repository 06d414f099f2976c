-- However a run is cut, its file holds the drive of a moment of it.
use Rattle.std.proofs.Common.{◌≡◌, ℕ, ◌+◌, ◌-◌, ◌<◌, ◌≤◌, leb, ltb, Bool, true, false, List, ◌++◌, length, take, Option, Some, None, Result, Ok, Err, inl, inr, refl, sym, ap, ◌∙◌, subst, arith}
use Rattle.std.specs.Prelude.{IfSome}
use Rattle.std.specs.Io.KnownBytes.{Appends}
use Rattle.std.proofs.Math.Seq.{take-append-add}
use Rattle.std.proofs.lemmas.Bool.{leb-false, leb-true, ltb-false, ltb-true}
use Rattle.std.proofs.lemmas.List.{length-append, length-take, take-append-le, take-take, take_all}
use Rattle.drive_port.specs.declared.device.Halt.{Halt}
use Rattle.drive_port.specs.declared.device.Halt.TheVariants.{Memory, Failed, Stopped}
use Rattle.drive_journal.specs.File.{IsStored, IsStoredWhole}
use Rattle.drive_journal.specs.Journaling.{AreCutOff, IsInStep, Journaled, Writes, written_by}
use Rattle.drive_journal.specs.Change.{Sum, written_for}
use Rattle.zone_states.specs.declared.geometry.Geometry.{Geometry}
use Rattle.drive_journal.specs.Moments.{IsOfAMoment, RunsSince, RunsTo, Submits, anew, begins, goes_on, here, later}
use Rattle.drive_journal.proofs.JournalingLaws.{true-false}
use Rattle.drive_journal.proofs.KeepingLaws.{stored-cut}

some-same : (a b : List ℕ) → Some a ≡ Some b → a ≡ b
some-same a b e = cc e

-- what holds of known bytes
at-known : (known : Option (List ℕ)) (bytes : List ℕ) (P : List ℕ → Type 0) → known ≡ Some bytes → IfSome known P → P bytes
at-known None bytes P e p = absurd (cc e)
at-known (Some held) bytes P e p = let same : held ≡ bytes = cc e in rw (← same) p

-- where the bytes of a store were known, and grew by some, they are known
grew : (new : Option (List ℕ)) (bytes more : List ℕ) → Appends (Some bytes) new more → new ≡ Some (bytes ++ more)
grew None bytes more appends = absurd appends
grew (Some now) bytes more appends = rw appends refl

-- what is known of the store at a moment
record Holds (first : Journaled) (since : ℕ) (last : Journaled) : Type 0 where
  pub runs : RunsTo first last
  pub bytes : List ℕ
  pub contents : last.contents ≡ Some bytes
  pub found : (n : ℕ) → since ≤ n → IsOfAMoment first last (take n bytes)

-- a device that runs has lost nothing
lost-nothing : (j : Journaled) → IsInStep j → j.drive.stopped ≡ false → j.lost ≡ false
lost-nothing j kept runs = by j.lost refl
  where
    by : (b : Bool) → j.lost ≡ b → j.lost ≡ false
    by false e = e
    by true e = absurd (true-false (sym (kept.stops e) ∙ runs))

-- a beginning of bytes of which each beginning is a change that was cut off
front-cut : (geometry : Geometry) (sum : Sum) (bytes : List ℕ) (count : ℕ) → count < length bytes → AreCutOff geometry sum bytes → AreCutOff geometry sum (take count bytes)
front-cut geometry sum bytes count short cuts n less =
    let few : n ≤ count = omega (arith, less, length-take count bytes) in
    rw (take-take n count bytes few) (cuts n (omega (arith, few, short)))

-- ---- one submit, over a store that holds these bytes when the change is written

module _ (first mid last : Journaled) (held : List ℕ) (runs : RunsTo first mid) (submits : Submits mid (Some held) last) where
  longer : (bytes : List ℕ) → IsOfAMoment first mid bytes → IsOfAMoment first last bytes
  longer bytes found = record { moment = found.moment; before = found.before; after = later mid last (Some held) found.after submits; stored = found.stored }

  at-mid : (bytes : List ℕ) → IsStored bytes mid.drive → IsOfAMoment first last bytes
  at-mid bytes stored = record { moment = mid; before = runs; after = later mid last (Some held) here submits; stored = stored }

  at-last : (bytes : List ℕ) → last.contents ≡ Some bytes → IsOfAMoment first last bytes
  at-last bytes known = record { moment = last; before = later mid last (Some held) runs submits; after = here; stored = at-known last.contents bytes (λ b. IsStored b last.drive) known submits.kept.stored }

  -- these bytes store the drive, and no change in them is cut off
  held-whole : IsStoredWhole held mid.drive submits.sum
  held-whole = elim submits.renewed [
    | inl same ↦ rw same.1 (at-known mid.contents held (λ b. IsStoredWhole b mid.drive mid.sum) (sym same.0) (submits.was_kept.whole (lost-nothing mid submits.was_kept submits.runs)))
    | inr others ↦ rw others.1 others.2
  ]

  -- some more bytes were written: whole they are of a moment, and each beginning of them is a change that was cut off
  grown : (more : List ℕ) (n : ℕ) → AreCutOff mid.drive.geometry submits.sum more → IsOfAMoment first last (held ++ more) → IsOfAMoment first mid (take n held) → IsOfAMoment first last (take n (held ++ more))
  grown more n cuts all found = by (leb n (length held)) refl
    where
      inside : length held < n → (b : Bool) → ltb (n - length held) (length more) ≡ b → IsOfAMoment first last (take n (held ++ more))
      inside past true e =
          let splits : n ≡ length held + (n - length held) = omega (arith, past) in
          let text : take n (held ++ more) ≡ held ++ take (n - length held) more = ap (λ (m : ℕ). take m (held ++ more)) splits ∙ take-append-add held more (n - length held) in
          rw text (at-mid (held ++ take (n - length held) more) (stored-cut held mid.drive submits.sum held-whole (take (n - length held) more) (cuts (n - length held) (ltb-true _ _ e))))
      inside past false e =
          let full = ltb-false _ _ e in
          rw (take_all n (held ++ more) (omega (arith, length-append held more, past, full))) all

      by : (b : Bool) → leb n (length held) ≡ b → IsOfAMoment first last (take n (held ++ more))
      by true e = rw (take-append-le n held more (leb-true _ _ e)) (longer (take n held) found)
      by false e = inside (let more_than = leb-false _ _ e in omega (arith, more_than)) (ltb (n - length held) (length more)) refl

  module _ (since : ℕ) (found : (n : ℕ) → since ≤ n → IsOfAMoment first mid (take n held)) where
    -- nothing was written
    same : last.contents ≡ Some held → Holds first since last
    same e = record { runs = later mid last (Some held) runs submits; bytes = held; contents = e; found = λ n most. longer (take n held) (found n most) }

    -- some more bytes were
    added : (more : List ℕ) → Appends (Some held) last.contents more → AreCutOff mid.drive.geometry submits.sum more → Holds first since last
    added more appends cuts =
        let known = grew last.contents held more appends in
        record { runs = later mid last (Some held) runs submits; bytes = held ++ more; contents = known; found = λ n most. grown more n cuts (at-last (held ++ more) known) (found n most) }

    step : Holds first since last
    step = by submits.result submits.writes
      where
        by : (result : Result (List ℕ) Halt) → Writes mid (Some held) submits.sum submits.entry submits.bytes result last → Holds first since last
        by (Ok completion) writes = added (written_by submits.sum completion submits.entry submits.bytes) writes.2.0 writes.2.1
        by (Err Memory) writes = same writes.2
        by (Err Failed) writes = same writes.2
        by (Err Stopped) (inl writes) = same writes
        by (Err Stopped) (inr (lost, inl front)) =
            let all = written_for submits.sum submits.entry submits.bytes in
            added (take front.0.count all) front.0.appends (front-cut mid.drive.geometry submits.sum all front.0.count front.0.short front.1)
        by (Err Stopped) (inr (lost, inr all)) = added (written_for submits.sum submits.entry submits.bytes) all.0 all.1

-- ---- a run

run : (first last : Journaled) (since : ℕ) → IsInStep first → RunsSince first since last → Holds first since last
run first last since kept (begins bytes known) = record {
  runs = here;
  bytes = bytes;
  contents = known;
  found = λ n most. rw (take_all n bytes most) (record { moment = first; before = here; after = here; stored = at-known first.contents bytes (λ b. IsStored b first.drive) known kept.stored });
}
run first last since kept (goes_on from moment same runs submits) =
    let holds = run first moment from kept runs in
    let over = subst (λ (o : Option (List ℕ)). Submits moment o last) holds.contents submits in
    step first moment last holds.bytes holds.runs over since holds.found
run first last since kept (anew from moment same held runs submits) =
    let holds = run first moment from kept runs in
    step first moment last held holds.runs submits (length held)
    (λ n most. rw (take_all n held most) (record { moment = moment; before = holds.runs; after = here; stored = (held-whole first moment last held holds.runs submits).stored }))

-- the first bytes of a run are a moment's
pub cut-at-a-moment : (first last : Journaled) (bytes : List ℕ) (since n : ℕ) → IsInStep first → RunsSince first since last → last.contents ≡ Some bytes → since ≤ n → IsOfAMoment first last (take n bytes)
cut-at-a-moment first last bytes since n kept runs ends most =
    let holds = run first last since kept runs in
    let same : holds.bytes ≡ bytes = some-same holds.bytes bytes (sym holds.contents ∙ ends) in
    rw (← same) (holds.found n most)
