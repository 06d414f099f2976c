-- Bytes that store a drive continue to store it while commands are completed and their changes written.
use Rattle.std.proofs.Common.{◌≡◌, ℕ, ◌==◌, Bool, true, false, List, [], ◌∷◌, ◌++◌, length, inl, inr, refl, sym, ap, ◌∙◌, append_assoc, subst}
use Rattle.std.specs.Prelude.{if◌then◌else◌}
use Rattle.std.proofs.lemmas.List.{append-nil}
use Rattle.nvme_wire.specs.Completion.{code_in}
use Rattle.nvme_wire.specs.Entry.{decode_of, id_of}
use Rattle.nvme_wire.specs.declared.status.Status.TheVariants.{Success}
use Rattle.zone_states.specs.Zone.{Zone}
use Rattle.drive_port.specs.Drive.{DriveState}
use Rattle.drive_port.specs.Step.{Completes, Effect, is_success}
use Rattle.drive_port.proofs.HaltLaws.{success_or}
use Rattle.drive_journal.specs.Change.{Change, IsChange, Sum, change_bytes, change_of, changes, journal_bytes, last_sum, next_sum, start, sum_for, written_for}
use Rattle.drive_journal.specs.File.{IsStored, IsStoredWhole, Parts, remade}
use Rattle.drive_journal.specs.Journaling.{sum_by, written_by}
use Rattle.drive_journal.specs.Replay.{at_rest, changed}
use Rattle.drive_journal.specs.Tail.{IsCutOff}
use Rattle.drive_journal.proofs.CutLaws.{cut-nothing, each-more, journal-more, sum-more}
use Rattle.drive_journal.proofs.RestLaws.{same-changed}
use Rattle.drive_journal.proofs.StepLaws.{changed-data, changed-not, done-code, is-change, replayed-more, rest-refused, rest-succeeded}

module _ (bytes : List ℕ) (old : DriveState) (sum : Sum) (whole : IsStoredWhole bytes old sum) where
  abbrev parts : Parts
  parts = whole.stored.parts

  text : bytes ≡ parts.image ++ journal_bytes start parts.changes
  text = whole.stored.has.text ∙ ap (λ (l : List ℕ). parts.image ++ (journal_bytes start parts.changes ++ l)) whole.none ∙ ap (λ (l : List ℕ). parts.image ++ l) (append-nil (journal_bytes start parts.changes))

  -- no more happened to the zones than that some were closed
  pub stored-same : (new : DriveState) → new.geometry ≡ old.geometry → at_rest new.zones ≡ at_rest old.zones → IsStoredWhole bytes new sum
  stored-same new geometry same = record {
    stored = record { parts = parts; has = whole.stored.has; geometry = geometry ∙ whole.stored.geometry; zones = same ∙ whole.stored.zones };
    none = whole.none;
    sum_is = whole.sum_is;
  }

  -- a change was written, and was done
  pub stored-more : (change : Change) (new : DriveState) → IsChange old.geometry change → new.geometry ≡ old.geometry → at_rest new.zones ≡ at_rest (changed old.geometry old.zones (decode_of change.entry) change.bytes)
      → IsStoredWhole (bytes ++ change_bytes sum change) new (next_sum sum change)
  stored-more change new is geometry done = record {
    stored = record {
      parts = record { image = parts.image; saved = parts.saved; changes = parts.changes ++ change ∷ []; cut = [] };
      has = record {
        text =
            ap (λ (s : Sum). bytes ++ change_bytes s change) whole.sum_is
            ∙ ap (λ (l : List ℕ). l ++ change_bytes (last_sum start parts.changes) change) text
            ∙ append_assoc parts.image (journal_bytes start parts.changes) (change_bytes (last_sum start parts.changes) change)
            ∙ ap (λ (l : List ℕ). parts.image ++ l) (sym (journal-more start parts.changes change) ∙ sym (append-nil (journal_bytes start (parts.changes ++ change ∷ []))));
        is_image = whole.stored.has.is_image;
        each = each-more parts.saved.geometry parts.changes change whole.stored.has.each (rw whole.stored.geometry at is);
        cut_off = cut-nothing parts.saved.geometry (last_sum start (parts.changes ++ change ∷ []));
      };
      geometry = geometry ∙ whole.stored.geometry;
      zones =
          rw whole.stored.geometry at done
          ∙ same-changed parts.saved.geometry old.zones (remade parts) (decode_of change.entry) change.bytes whole.stored.zones
          ∙ ap (λ (zs : List Zone). at_rest zs) (sym (replayed-more parts.saved.geometry parts.saved.zones parts.changes change));
    };
    none = refl;
    sum_is = ap (λ (s : Sum). next_sum s change) whole.sum_is ∙ sym (sum-more start parts.changes change);
  }

  -- a change that was cut off is after them
  pub stored-cut : (cut : List ℕ) → IsCutOff old.geometry sum cut → IsStored (bytes ++ cut) old
  stored-cut cut cut_off = record {
    parts = record { image = parts.image; saved = parts.saved; changes = parts.changes; cut = cut };
    has = record {
      text = ap (λ (l : List ℕ). l ++ cut) text ∙ append_assoc parts.image (journal_bytes start parts.changes) cut;
      is_image = whole.stored.has.is_image;
      each = whole.stored.has.each;
      cut_off = subst (λ (s : Sum). IsCutOff parts.saved.geometry s cut) whole.sum_is (rw whole.stored.geometry at cut_off);
    };
    geometry = whole.stored.geometry;
    zones = whole.stored.zones;
  }

-- ---- a submit

-- the change of a command that changes a drive is written
pub written-yes : (sum : Sum) (entry bytes : List ℕ) → changes (decode_of entry) ≡ true → written_for sum entry bytes ≡ change_bytes sum (change_of entry bytes)
written-yes sum entry bytes e = rw e refl

-- and the sum goes on over it
pub sum-yes : (sum : Sum) (entry bytes : List ℕ) → changes (decode_of entry) ≡ true → sum_for sum entry bytes ≡ next_sum sum (change_of entry bytes)
sum-yes sum entry bytes e = rw e refl

-- for other commands nothing is written
pub written-no : (sum : Sum) (entry bytes : List ℕ) → changes (decode_of entry) ≡ false → written_for sum entry bytes ≡ []
written-no sum entry bytes e = rw e refl

-- and the sum stays
pub sum-no : (sum : Sum) (entry bytes : List ℕ) → changes (decode_of entry) ≡ false → sum_for sum entry bytes ≡ sum
sum-no sum entry bytes e = rw e refl

-- a completion has the code 0 just where its status is Success
code-of : (old new : DriveState) (entry bytes completion returned : List ℕ) (done : Completes old entry bytes completion returned new) → (code_in completion == 0) ≡ is_success done.status
code-of old new entry bytes completion returned done =
    ap (λ (l : List ℕ). code_in l == 0) done.encoded ∙ done-code done.value (id_of entry) done.status

-- a command that changes the drive had its effect, and its change was written
pub stored-effect : (old new : DriveState) (sum : Sum) (entry bytes returned held : List ℕ) (value : ℕ) → length entry ≡ 64 → changes (decode_of entry) ≡ true → new.geometry ≡ old.geometry
    → Effect old.geometry old.zones (decode_of entry) bytes Success value returned new.zones → IsStoredWhole held old sum → IsStoredWhole (held ++ written_for sum entry bytes) new (sum_for sum entry bytes)
stored-effect old new sum entry bytes returned held value long e geometry effect stored =
    rw (written-yes sum entry bytes e, sum-yes sum entry bytes e) (stored-more held old sum stored (change_of entry bytes) new (is-change old.geometry old.zones new.zones entry bytes returned value long e effect) geometry
    (rest-succeeded old.geometry old.zones new.zones (decode_of entry) bytes returned value effect ∙ ap (λ (zs : List Zone). at_rest zs) (sym (changed-data old.geometry old.zones (decode_of entry) bytes))))

-- a command was completed, and what is to be written for it was written
pub stored-completed : (old new : DriveState) (sum : Sum) (entry bytes completion returned held : List ℕ) → length entry ≡ 64 → Completes old entry bytes completion returned new → IsStoredWhole held old sum
    → IsStoredWhole (held ++ written_by sum completion entry bytes) new (sum_by sum completion entry bytes)
stored-completed old new sum entry bytes completion returned held long done stored =
    rw (code-of old new entry bytes completion returned done) (elim (success_or done.status) [
      | inl good ↦ by_change (rw good at done.performs.effect) (rw good refl) (changes (decode_of entry)) refl
      | inr bad ↦ rw (bad.1, append-nil held) (stored-same held old sum stored new done.performs.geometry (rest-refused old.geometry old.zones new.zones (decode_of entry) bytes done.performs.held done.status done.value bad.0 done.performs.effect))
    ])
  where
    by_change : Effect old.geometry old.zones (decode_of entry) bytes Success done.value done.performs.held new.zones → is_success done.status ≡ true → (b : Bool) → changes (decode_of entry) ≡ b
        → IsStoredWhole (held ++ (if is_success done.status then written_for sum entry bytes else [])) new (if is_success done.status then sum_for sum entry bytes else sum)
    by_change effect good true e = rw good (stored-effect old new sum entry bytes done.performs.held held done.value long e done.performs.geometry effect stored)
    by_change effect good false e =
        rw (good, written-no sum entry bytes e, sum-no sum entry bytes e, append-nil held) (stored-same held old sum stored new done.performs.geometry
        (rest-succeeded old.geometry old.zones new.zones (decode_of entry) bytes done.performs.held done.value effect ∙ ap (λ (zs : List Zone). at_rest zs) (changed-not old.geometry old.zones (decode_of entry) bytes e)))
