-- Where there is neither a host nor a next zone, and one zone is empty, a clean runs or is due.
use Rattle.std.proofs.Common.{◌≡◌, ◌⊎◌, ℕ, zero, suc, ◌+◌, ◌<◌, ◌≤◌, Bool, true, false, not, ◌&&◌, [], length, Option, Some, None, Result, Ok, Err, is_some, refl, ap, subst, inl, inr, arith}
use Rattle.std.specs.Prelude.{OnOk}
use Rattle.std.proofs.lemmas.Bool.{and_parts, cases_eq, cases_lt}
use Rattle.logical_map.specs.Live.{live}
use Rattle.zone_choice.specs.declared.roles.Second.{Second}
use Rattle.zone_choice.specs.declared.roles.Second.TheVariants.{Destination, Next}
use Rattle.zone_choice.specs.Agreement.{MountedView}
use Rattle.drive_array.specs.Reserve.{batch_most}
use Rattle.zone_choice.specs.Roles.{empty_count, is_sealed_at, next_of}
use Rattle.zone_choice.specs.Tables.{IsLeastSealed, TablesView, can_be_cleaned, is_left_out}
use Rattle.zone_choice.specs.Victim.{IsInUse}
use Rattle.zone_choice.proofs.MarkLaws.{sealed-parts}
use Rattle.drive_array.proofs.ReserveLaws.{positive-most}
use Rattle.zone_choice.proofs.VictimLaws.{has_sealed, least_can_move}
use Rattle.zone_cleaner.specs.Clean.{CleanView, HasNoDestination, destination_written, turns_left, moves_due, untaken}
use Rattle.zone_cleaner.specs.declared.fault.CleanFault.{CleanFault}
use Rattle.zone_cleaner.specs.Start.{AgreesWithClean, IsDue, KeepsByCleaning, LacksZones, StartLeaves, TurnLeaves}
use Rattle.zone_cleaner.proofs.BudgetLaws.{few-turns}
use Rattle.zone_cleaner.proofs.CleanLaws.{live-parts}
use Rattle.zone_cleaner.proofs.RoomLaws.{turn-room}
use Rattle.zone_cleaner.proofs.TurnLaws.{turn_gives, turns_fewer}

-- ---- the lowest of those with the fewest

record Least (p : ℕ → Bool) (f : ℕ → ℕ) (n : ℕ) : Type 0 where
  place : ℕ
  below : place < n
  here : p place ≡ true
  least : (k : ℕ) → k < n → p k ≡ true → f place ≤ f k
  lowest : (k : ℕ) → k < place → p k ≡ true → f place < f k

-- one more is looked at
least-more : (p : ℕ → Bool) (f : ℕ → ℕ) (n : ℕ) → Least p f n → Least p f (suc n)
least-more p f n is = by (p n) refl
  where
    kept : ((k : ℕ) → k ≡ n → p k ≡ true → f is.place ≤ f k) → Least p f (suc n)
    kept last = record {
      place = is.place;
      below = omega (arith, is.below);
      here = is.here;
      least = λ k lt there. elim (cases_eq k n) as (λ _. f is.place ≤ f k) [ inl same ↦ last k same there | inr other ↦ is.least k (omega (arith, lt, other)) there ];
      lowest = is.lowest;
    }

    by : (b : Bool) → p n ≡ b → Least p f (suc n)
    by false none = kept (λ k same some. absurd (let at : p n ≡ true = subst (λ (m : ℕ). p m ≡ true) same some in cc))
    by true some = elim (cases_lt (f n) (f is.place)) as (λ _. Least p f (suc n)) [
      | inl fewer ↦ record {
        place = n;
        below = omega arith;
        here = some;
        least = λ k lt there. elim (cases_eq k n) as (λ _. f n ≤ f k) [ inl same ↦ rw same (omega arith) | inr other ↦ omega (arith, fewer, is.least k (omega (arith, lt, other)) there) ];
        lowest = λ k lt there. omega (arith, fewer, is.least k lt there);
      }
      | inr more ↦ kept (λ k same there. rw same more)
    ]

find-least : (p : ℕ → Bool) (f : ℕ → ℕ) (n k : ℕ) → k < n → p k ≡ true → Least p f n
find-least p f n k lt there = elim (search n) as (λ _. Least p f n) [ inl is ↦ is | inr none ↦ absurd (let away : p k ≡ false = none k lt in cc) ]
  where
    first : (n : ℕ) → ((k : ℕ) → k < n → p k ≡ false) → (b : Bool) → p n ≡ b → Least p f (suc n) ⊎ ((k : ℕ) → k < suc n → p k ≡ false)
    first n none false away = inr (λ k lt. elim (cases_eq k n) as (λ _. p k ≡ false) [ inl same ↦ rw same away | inr other ↦ none k (omega (arith, lt, other)) ])
    first n none true some = inl (record {
      place = n;
      below = omega arith;
      here = some;
      least = λ k lt there. elim (cases_eq k n) as (λ _. f n ≤ f k) [ inl same ↦ rw same (omega arith) | inr other ↦ absurd (let away : p k ≡ false = none k (omega (arith, lt, other)) in cc) ];
      lowest = λ k lt there. absurd (let away : p k ≡ false = none k lt in cc);
    })

    search : (n : ℕ) → Least p f n ⊎ ((k : ℕ) → k < n → p k ≡ false)
    search zero = inr (λ k lt. absurd (omega arith))
    search (suc n) = elim (search n) as (λ _. Least p f (suc n) ⊎ ((k : ℕ) → k < suc n → p k ≡ false)) [ inl is ↦ inl (least-more p f n is) | inr none ↦ first n none (p n) refl ]

least-sealed : (tables : TablesView) (zone : ℕ) → can_be_cleaned tables zone ≡ true → (victim : ℕ) × IsLeastSealed tables victim
least-sealed tables zone is =
    let range : (k : ℕ) → can_be_cleaned tables k ≡ true → k < length tables.roles.empty = λ k there. (sealed-parts tables.roles k (and_parts (is_sealed_at tables.roles k) (not (is_left_out tables k)) there).0).in_range in
    let found = find-least (can_be_cleaned tables) (live tables.map) (length tables.roles.empty) zone (range zone is) is in
    (found.place, record { can = found.here; least = λ k there. found.least k (range k there) there; lowest = found.lowest })

-- ---- a clean is due

no-second : (capacity : ℕ) (second : Option Second) → HasNoDestination capacity second → next_of second ≡ None → second ≡ None
no-second capacity None alone none = refl
no-second capacity (Some (Next filling)) alone none = absurd (cc)
no-second capacity (Some (Destination filling)) alone none = absurd alone

is-in_use : (disk : MountedView) → AgreesWithClean disk None → disk.tables.unreadable ≡ [] → disk.tables.roles.host ≡ None → next_of disk.tables.roles.second ≡ None → empty_count disk.tables.roles < 2 → IsInUse disk
is-in_use disk is all host next few = record { agrees = is.0; readable = all; host = host; second = no-second disk.drive.geometry.capacity disk.tables.roles.second is.1.1 next; empty = omega (arith, few, is.1.0) }

is-due : (disk : MountedView) → IsInUse disk → (victim : ℕ) × IsDue disk.drive.geometry disk.tables victim
is-due disk in_use =
    let sealed = has_sealed disk in_use in
    let victim = least-sealed disk.tables sealed.0 sealed.1 in
    (victim.0, record { alone = in_use.second; some = omega (arith, in_use.empty); few = omega (arith, in_use.empty); least = victim.1; fits = least_can_move disk victim.0 in_use victim.1 })

-- so it starts
must-start : (disk : MountedView) (new : TablesView) (clean : Option CleanView) → IsInUse disk → StartLeaves disk.drive.geometry disk.tables new clean → is_some clean ≡ true
must-start disk new (Some c) in_use leaves = refl
must-start disk new None in_use leaves = let due = is-due disk in_use in absurd (leaves.0 due.0 due.1)

-- ---- how many turns are left of it

-- fewer than a zone has blocks
turns-few : (disk : MountedView) (c : CleanView) → AgreesWithClean disk (Some c) → turns_left (batch_most disk.drive.geometry) disk.tables (Some c) + 1 ≤ disk.drive.geometry.capacity
turns-few disk c is =
    let most = batch_most disk.drive.geometry in
    let moved : moves_due (destination_written disk.tables.roles.second) ≡ moves_due is.1.destination.written = ap moves_due (ap destination_written is.1.second) in
    omega (arith, moved, few-turns disk.drive.geometry.capacity most is.1.destination.written (untaken disk.tables c) (live disk.tables.map c.victim) (positive-most disk.drive.geometry is.0.geometry) (omega (arith, live-parts disk c is.1)) is.1.room)

-- and no more if none runs
pub left-few : (disk : MountedView) (clean : Option CleanView) → AgreesWithClean disk clean → turns_left (batch_most disk.drive.geometry) disk.tables clean + 1 ≤ disk.drive.geometry.capacity
left-few disk None is = omega (arith, is.0.geometry.capacity)
left-few disk (Some c) is = turns-few disk c is

-- ---- a clean that has to begin

-- what the start of a clean at once leaves
pub record Begins (before after : MountedView) (new : Option CleanView) : Type 0 where
  pub cleaned : AgreesWithClean after new
  pub runs : is_some new ≡ true
  pub host : after.tables.roles.host ≡ None
  pub turns : turns_left (batch_most before.drive.geometry) after.tables new + 1 ≤ before.drive.geometry.capacity
  pub keeps : KeepsByCleaning before after

-- one is due where zones lack, and begins
pub begins : (before after : MountedView) (clean new : Option CleanView) → is_some clean ≡ false → AgreesWithClean before clean → before.tables.unreadable ≡ [] → LacksZones before.tables.roles → TurnLeaves before None (Ok tt) after new → Begins before after new
begins before after (Some c) new idle is all lacks turn = absurd (cc)
begins before after None new idle is all lacks turn =
    let gives = turn_gives before after None new (Ok tt) is turn in
    record {
      cleaned = gives.goes_on;
      runs = must-start before after.tables new (is-in_use before is all lacks.host lacks.next lacks.few) turn.1;
      host = (turn-room before after None new is turn).host lacks.host;
      turns = (turns_fewer before after None new is turn).bound refl;
      keeps = gives.keeps;
    }
