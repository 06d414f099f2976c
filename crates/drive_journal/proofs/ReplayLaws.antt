-- The changes of a file, read one after the other and done again.
use Rattle.std.proofs.Common.{◌≡◌, ℕ, ◌+◌, ◌==◌, Bool, true, false, List, [], ◌∷◌, ◌++◌, length, take, Option, Some, None, refl, sym, ap, ◌∙◌, subst, arith}
use Rattle.std.specs.Prelude.{IfSome, IsTrue, ◌↔◌, if◌then◌else◌}
use Rattle.std.specs.Io.KnownBytes.{Consumes}
use Rattle.std.proofs.KnownBytes.{Consumes-nil, Consumes-trans}
use Rattle.std.proofs.lemmas.Bool.{eq-eqb, eqb-true}
use Rattle.std.proofs.lemmas.List.{length-append}
use Rattle.nvme_wire.specs.Entry.{decode_of}
use Rattle.zone_states.specs.Geometry.{IsInRange}
use Rattle.zone_states.specs.Stored.{StoredZone}
use Rattle.zone_states.specs.declared.geometry.Geometry.{Geometry}
use Rattle.zone_drive.specs.Stored.{zones_of}
use Rattle.drive_journal.specs.Change.{Change, HasNoChange, Sum, change_bytes, earlier_mark, journal_bytes, last_sum, next_sum, start}
use Rattle.drive_journal.specs.FileFaults.{FailsBehindChanges, IsJournalFault}
use Rattle.drive_journal.specs.Reading.{IsDamaged, ReadsChange, Replays, SoFar}
use Rattle.drive_journal.specs.Replay.{stored_changed}
use Rattle.drive_journal.specs.Tail.{IsCutOff, IsTailFault, begins_as_mark}
use Rattle.drive_journal.specs.declared.fault.ReadFault.{ReadFault}
use Rattle.drive_journal.specs.declared.fault.ReadFault.TheVariants.{Damaged, Earlier, Long}
use Rattle.drive_journal.proofs.CutLaws.{cut-nothing, each-more, journal-more, length-change, sum-more}
use Rattle.drive_journal.proofs.ReadLaws.{earlier-other, known-so, other-none}
use Rattle.drive_journal.proofs.StoredLaws.{AreWhole, replayed-zones, stored-more}

-- ---- changes that were read

-- no change was read
pub so-far-none : (geometry : Geometry) (old : Option (List ℕ)) (zones : List StoredZone) (from : ℕ) → SoFar geometry old old zones zones from from start
so-far-none geometry old zones from = record { changes = []; each = tt; text = Consumes-nil old; zones = refl; at_is = omega arith; sum_is = refl }

-- one more was read and done
pub so-far-more : (geometry : Geometry) (old mid new : Option (List ℕ)) (before middle after : List StoredZone) (from at end : ℕ) (sum next : Sum) (change : Change) → SoFar geometry old mid before middle from at sum
    → ReadsChange geometry sum mid new change next → after ≡ stored_changed geometry middle (decode_of change.entry) change.bytes → end ≡ at + (88 + length change.bytes) → SoFar geometry old new before after from end next
so-far-more geometry old mid new before middle after from at end sum next change so reads done counts =
    let same = so.sum_is in
    let text : Consumes mid new (change_bytes (last_sum start so.changes) change) = rw same at reads.text in
    let after_it : next ≡ next_sum (last_sum start so.changes) change = rw same at reads.next_is in
    record {
      changes = so.changes ++ change ∷ [];
      each = each-more geometry so.changes change so.each reads.is;
      text = rw (journal-more start so.changes change) (Consumes-trans old mid new (journal_bytes start so.changes) (change_bytes (last_sum start so.changes) change) so.text text);
      zones = done ∙ ap (λ (zs : List StoredZone). stored_changed geometry zs (decode_of change.entry) change.bytes) so.zones ∙ sym (stored-more geometry before so.changes change);
      at_is = rw (journal-more start so.changes change) (omega (arith, counts, so.at_is, length-append (journal_bytes start so.changes) (change_bytes (last_sum start so.changes) change), length-change geometry (last_sum start so.changes) change reads.is, reads.is.bytes));
      sum_is = after_it ∙ sym (sum-more start so.changes change);
    }

module _ (geometry : Geometry) (old new : Option (List ℕ)) (before after : List StoredZone) (from at : ℕ) (sum : Sum) (so : SoFar geometry old new before after from at sum) where
  -- the last one was read: this is left
  ended : (is_all : Bool) → IsInRange geometry → AreWhole geometry.block before → IfSome new (IsCutOff geometry sum) → IfSome new (λ rest. IsTrue is_all ↔ (rest ≡ []))
      → Replays geometry old from (zones_of geometry.block before) (record { whole = at; sum = sum; is_all = is_all }) (zones_of geometry.block after)
  ended is_all in_range whole cut all = record {
    changes = so.changes;
    left = new;
    each = so.each;
    text = so.text;
    cut_off = subst (λ (s : Sum). IfSome new (IsCutOff geometry s)) so.sum_is cut;
    is_all = all;
    zones = ap (λ (zs : List StoredZone). zones_of geometry.block zs) so.zones ∙ (replayed-zones geometry before so.changes in_range whole so.each).0;
    end_is = so.at_is;
    sum_is = so.sum_is;
  }

  -- and nothing is left
  pub so-far-all : IsInRange geometry → AreWhole geometry.block before → IfSome new (λ bytes. bytes ≡ [])
      → Replays geometry old from (zones_of geometry.block before) (record { whole = at; sum = sum; is_all = true }) (zones_of geometry.block after)
  so-far-all in_range whole none =
      ended true in_range whole (known-so new (λ bytes. bytes ≡ []) (IsCutOff geometry sum) (λ bytes e. subst (IsCutOff geometry sum) (sym e) (cut-nothing geometry sum)) none)
      (known-so new (λ bytes. bytes ≡ []) (λ rest. IsTrue true ↔ (rest ≡ [])) (λ bytes e. (λ t. e, λ t. refl)) none)

  -- and a change that was cut off is left
  pub so-far-cut : IsInRange geometry → AreWhole geometry.block before → IfSome new (λ bytes. IsCutOff geometry sum bytes × (bytes ≡ [] → ⊥))
      → Replays geometry old from (zones_of geometry.block before) (record { whole = at; sum = sum; is_all = false }) (zones_of geometry.block after)
  so-far-cut in_range whole cut =
      ended false in_range whole (known-so new (λ bytes. IsCutOff geometry sum bytes × (bytes ≡ [] → ⊥)) (IsCutOff geometry sum) (λ bytes c. c.0) cut)
      (known-so new (λ bytes. IsCutOff geometry sum bytes × (bytes ≡ [] → ⊥)) (λ rest. IsTrue false ↔ (rest ≡ [])) (λ bytes c. (λ t. absurd (cc t), λ e. absurd (c.1 e))) cut)

  -- the zones have whole blocks
  pub so-far-whole : IsInRange geometry → AreWhole geometry.block before → AreWhole geometry.block after
  so-far-whole in_range whole = rw so.zones (replayed-zones geometry before so.changes in_range whole so.each).1

  -- what is left has a fault
  fails : (fault : ReadFault) → IfSome new (λ rest. HasNoChange geometry sum rest × IsTailFault geometry sum from at rest fault) → IfSome old (λ bytes. FailsBehindChanges geometry from bytes fault)
  fails fault left = by old new so.text left
    where
      by : (old new : Option (List ℕ)) → Consumes old new (journal_bytes start so.changes) → IfSome new (λ rest. HasNoChange geometry sum rest × IsTailFault geometry sum from at rest fault) → IfSome old (λ bytes. FailsBehindChanges geometry from bytes fault)
      by None new text left = tt
      by (Some xs) None text left = absurd text
      by (Some xs) (Some ys) text left = record {
        changes = so.changes;
        rest = ys;
        text = text;
        each = so.each;
        none = subst (λ (s : Sum). HasNoChange geometry s ys) so.sum_is left.0;
        told = subst (λ (n : ℕ). IsTailFault geometry (last_sum start so.changes) from n ys fault) so.at_is (subst (λ (s : Sum). IsTailFault geometry s from at ys fault) so.sum_is left.1);
      }

  -- what is left is damaged
  pub so-far-damaged : IfSome new (IsDamaged geometry sum) → IfSome old (λ bytes. IsJournalFault geometry from bytes (Damaged at))
  so-far-damaged left =
      fails (Damaged at) (known-so new (IsDamaged geometry sum) (λ rest. HasNoChange geometry sum rest × IsTailFault geometry sum from at rest (Damaged at)) (λ rest d. (d.none, (refl, d.not_cut, λ e. d.begins))) left)

  -- bytes that do not begin as a change does are no change, and no change that was cut off
  not-cut : (rest : List ℕ) → begins_as_mark rest ≡ false → IsCutOff geometry sum rest → ⊥
  not-cut rest other cut = absurd (cc (other, cut.begins))

  -- what is left does not begin as a change does
  pub so-far-other : IfSome new (λ bytes. (begins_as_mark bytes ≡ false) × (take 8 bytes ≡ earlier_mark → ⊥)) → IfSome old (λ bytes. IsJournalFault geometry from bytes (if at == from then Long at else Damaged at))
  so-far-other left = by (at == from) refl
    where
      by : (b : Bool) → (at == from) ≡ b → IfSome old (λ bytes. IsJournalFault geometry from bytes (if b then Long at else Damaged at))
      by true e =
          fails (Long at) (known-so new (λ bytes. (begins_as_mark bytes ≡ false) × (take 8 bytes ≡ earlier_mark → ⊥)) (λ rest. HasNoChange geometry sum rest × IsTailFault geometry sum from at rest (Long at))
          (λ rest o. (other-none geometry sum rest o.0, (refl, eqb-true at from e, o.0, o.1))) left)
      by false e =
          fails (Damaged at) (known-so new (λ bytes. (begins_as_mark bytes ≡ false) × (take 8 bytes ≡ earlier_mark → ⊥)) (λ rest. HasNoChange geometry sum rest × IsTailFault geometry sum from at rest (Damaged at))
          (λ rest o. (other-none geometry sum rest o.0, (refl, not-cut rest o.0, λ same. absurd (cc (e, eq-eqb at from same))))) left)

  -- what is left are changes of the version before
  pub so-far-earlier : IfSome new (λ bytes. take 8 bytes ≡ earlier_mark) → IfSome old (λ bytes. IsJournalFault geometry from bytes (if at == from then Earlier at else Damaged at))
  so-far-earlier left = by (at == from) refl
    where
      by : (b : Bool) → (at == from) ≡ b → IfSome old (λ bytes. IsJournalFault geometry from bytes (if b then Earlier at else Damaged at))
      by true e =
          fails (Earlier at) (known-so new (λ bytes. take 8 bytes ≡ earlier_mark) (λ rest. HasNoChange geometry sum rest × IsTailFault geometry sum from at rest (Earlier at))
          (λ rest o. (other-none geometry sum rest (earlier-other rest o), (refl, eqb-true at from e, o))) left)
      by false e =
          fails (Damaged at) (known-so new (λ bytes. take 8 bytes ≡ earlier_mark) (λ rest. HasNoChange geometry sum rest × IsTailFault geometry sum from at rest (Damaged at))
          (λ rest o. (other-none geometry sum rest (earlier-other rest o), (refl, not-cut rest (earlier-other rest o), λ same. absurd (cc (e, eq-eqb at from same))))) left)
