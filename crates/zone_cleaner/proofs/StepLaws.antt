-- What is known where a step is due.
use Rattle.std.proofs.Common.{◌≡◌, ℕ, zero, suc, ◌<◌, ◌≤◌, Bool, true, false, cond, ltb, List, [], ◌∷◌, length, Option, Some, None, refl, ap, ◌∙◌, arith}
use Rattle.std.proofs.lemmas.Bool.{ltb-false, ltb-true}
use Rattle.logical_map.specs.Live.{first_record}
use Rattle.logical_map.specs.declared.place.Place.{Place}
use Rattle.logical_map.specs.declared.place.Place.TheVariants as places
use Rattle.zone_choice.specs.Agreement.{MountedView}
use Rattle.zone_choice.specs.Tables.{TablesView, is_left_out}
use Rattle.zone_cleaner.specs.declared.step.Step.{Step}
use Rattle.zone_cleaner.specs.declared.step.Step.TheVariants.{Gather, Move, Reset, Undo}
use Rattle.zone_cleaner.specs.Clean.{CleanView, destination_written, untaken}
use Rattle.zone_cleaner.specs.LiveRecords.{LiveRecord}
use Rattle.zone_cleaner.specs.Turns.{forward_step, last_step, next_step, step_of}
use Rattle.zone_cleaner.proofs.CleanLaws.{untaken_none}

number : Step → ℕ
number (Gather block place) = block
number step = 0

spot : Step → Place
spot (Gather block place) = place
spot step = places.None

-- ---- a clean that goes on

-- what it means that a step is next which does not give the clean up
pub record ForwardDue (most : ℕ) (tables : TablesView) (c : CleanView) (step : Step) : Type 0 where
  pub readable : is_left_out tables c.victim ≡ false
  pub due : forward_step most tables c ≡ step

pub forward-due : (most : ℕ) (tables : TablesView) (c : CleanView) (step : Step) → (Undo ≡ step → ⊥) → next_step most tables c ≡ step → ForwardDue most tables c step
forward-due most tables c step other e = by (is_left_out tables c.victim) refl e
  where
    by : (b : Bool) → is_left_out tables c.victim ≡ b → cond b Undo (forward_step most tables c) ≡ step → ForwardDue most tables c step
    by true out e = absurd (other e)
    by false out e = record { readable = out; due = e }

-- and one that does
pub undo-due : (most : ℕ) (tables : TablesView) (c : CleanView) → next_step most tables c ≡ Undo → is_left_out tables c.victim ≡ true
undo-due most tables c e = by (is_left_out tables c.victim) refl e
  where
    last : (written : ℕ) (rs : List LiveRecord) → last_step written rs ≡ Undo → ⊥
    last zero rs e = let bad : Move ≡ Undo = e in absurd (cc)
    last (suc written) [] e = let bad : Reset ≡ Undo = e in absurd (cc)
    last (suc written) (r ∷ rs) e = let bad : Move ≡ Undo = e in absurd (cc)

    of : (o : Option (ℕ × Place)) → step_of o (last_step (destination_written tables.roles.second) c.gathered) ≡ Undo → ⊥
    of None e = last (destination_written tables.roles.second) c.gathered e
    of (Some found) e = let bad : Gather found.0 found.1 ≡ Undo = e in absurd (cc)

    forward : (b : Bool) → cond b (step_of (first_record tables.map c.victim c.cursor) (last_step (destination_written tables.roles.second) c.gathered)) Move ≡ Undo → ⊥
    forward true e = of (first_record tables.map c.victim c.cursor) e
    forward false e = let bad : Move ≡ Undo = e in absurd (cc)

    by : (b : Bool) → is_left_out tables c.victim ≡ b → cond b Undo (forward_step most tables c) ≡ Undo → is_left_out tables c.victim ≡ true
    by true out e = out
    by false out e = absurd (forward (ltb (length c.gathered) most) e)

-- ---- a record is gathered

-- a record is to be gathered
pub record GatherDue (disk : MountedView) (most : ℕ) (c : CleanView) (block : ℕ) (place : Place) : Type 0 where
  pub few : length c.gathered < most
  pub found : first_record disk.tables.map c.victim c.cursor ≡ Some (block, place)

last-not_gather : (written : ℕ) (rs : List LiveRecord) (block : ℕ) (place : Place) → last_step written rs ≡ Gather block place → ⊥
last-not_gather zero rs block place e = let bad : Move ≡ Gather block place = e in absurd (cc)
last-not_gather (suc written) [] block place e = let bad : Reset ≡ Gather block place = e in absurd (cc)
last-not_gather (suc written) (r ∷ rs) block place e = let bad : Move ≡ Gather block place = e in absurd (cc)

-- what it means that this is the next step
pub gather-due : (disk : MountedView) (most : ℕ) (c : CleanView) (block : ℕ) (place : Place) → next_step most disk.tables c ≡ Gather block place → GatherDue disk most c block place
unfolding number spot
gather-due disk most c block place e = by (ltb (length c.gathered) most) refl (first_record disk.tables.map c.victim c.cursor) refl (forward-due most disk.tables c (Gather block place) (λ bad. absurd (cc)) e).due
  where
    last : Step
    last = last_step (destination_written disk.tables.roles.second) c.gathered

    by : (b : Bool) → ltb (length c.gathered) most ≡ b → (o : Option (ℕ × Place)) → first_record disk.tables.map c.victim c.cursor ≡ o → cond b (step_of o last) Move ≡ Gather block place → GatherDue disk most c block place
    by false is o o-is e = let bad : Move ≡ Gather block place = e in absurd (cc)
    by true is None o-is e = absurd (last-not_gather (destination_written disk.tables.roles.second) c.gathered block place e)
    by true is (Some found) o-is e =
        let pair : ℕ × Place = (block, place) in
        let one : found.0 ≡ block = ap number e in
        let two : found.1 ≡ place = ap spot e in
        let same : found ≡ pair = rw (← one, ← two) refl in
        record { few = ltb-true (length c.gathered) most is; found = o-is ∙ ap (λ (p : ℕ × Place). Some p) same }

-- ---- a Move, or the Reset

-- a Move is due if no more records fit, or none is left; and one in any case
pub record MoveDue (disk : MountedView) (most : ℕ) (c : CleanView) : Type 0 where
  pub whole : 0 < untaken disk.tables c → length c.gathered ≡ most
  pub some : 0 < destination_written disk.tables.roles.second → 0 < length c.gathered

last-some : (written : ℕ) (rs : List LiveRecord) → last_step written rs ≡ Move → 0 < written → 0 < length rs
last-some zero rs e some = absurd (omega arith)
last-some (suc written) [] e some = let bad : Reset ≡ Move = e in absurd (cc)
last-some (suc written) (r ∷ rs) e some = omega arith

-- and that a Move is
pub move-due : (disk : MountedView) (most : ℕ) (c : CleanView) → next_step most disk.tables c ≡ Move → 1 ≤ most → length c.gathered ≤ most → MoveDue disk most c
move-due disk most c e one few = by (ltb (length c.gathered) most) refl (first_record disk.tables.map c.victim c.cursor) refl (forward-due most disk.tables c Move (λ bad. absurd (cc)) e).due
  where
    last : Step
    last = last_step (destination_written disk.tables.roles.second) c.gathered

    by : (b : Bool) → ltb (length c.gathered) most ≡ b → (o : Option (ℕ × Place)) → first_record disk.tables.map c.victim c.cursor ≡ o → cond b (step_of o last) Move ≡ Move → MoveDue disk most c
    by false is o o-is e =
        let full : most ≤ length c.gathered = ltb-false (length c.gathered) most is in
        record { whole = λ left. omega (arith, full, few); some = λ moved. omega (arith, full, one) }
    by true is None o-is e =
        let none = untaken_none disk c o-is in
        record { whole = λ left. absurd (omega (arith, left, none)); some = last-some (destination_written disk.tables.roles.second) c.gathered e }
    by true is (Some found) o-is e = let bad : Gather found.0 found.1 ≡ Move = e in absurd (cc)

-- the Reset is due where all records are moved, and a Move was written
pub record ResetDue (disk : MountedView) (c : CleanView) : Type 0 where
  pub taken : untaken disk.tables c ≡ 0
  pub none : length c.gathered ≡ 0
  pub moved : 0 < destination_written disk.tables.roles.second

last-reset : (written : ℕ) (rs : List LiveRecord) → last_step written rs ≡ Reset → (length rs ≡ 0) × (0 < written)
last-reset zero rs e = let bad : Move ≡ Reset = e in absurd (cc)
last-reset (suc written) [] e = (refl, omega arith)
last-reset (suc written) (r ∷ rs) e = let bad : Move ≡ Reset = e in absurd (cc)

-- and that the Reset is
pub reset-due : (disk : MountedView) (most : ℕ) (c : CleanView) → next_step most disk.tables c ≡ Reset → ResetDue disk c
reset-due disk most c e = by (ltb (length c.gathered) most) refl (first_record disk.tables.map c.victim c.cursor) refl (forward-due most disk.tables c Reset (λ bad. absurd (cc)) e).due
  where
    last : Step
    last = last_step (destination_written disk.tables.roles.second) c.gathered

    by : (b : Bool) → ltb (length c.gathered) most ≡ b → (o : Option (ℕ × Place)) → first_record disk.tables.map c.victim c.cursor ≡ o → cond b (step_of o last) Move ≡ Reset → ResetDue disk c
    by false is o o-is e = let bad : Move ≡ Reset = e in absurd (cc)
    by true is None o-is e = let parts = last-reset (destination_written disk.tables.roles.second) c.gathered e in record { taken = untaken_none disk c o-is; none = parts.0; moved = parts.1 }
    by true is (Some found) o-is e = let bad : Gather found.0 found.1 ≡ Reset = e in absurd (cc)
