-- What holds whatever the Reads returned, after the steps of a clean.
use Rattle.std.proofs.Common.{◌≡◌, ◌≢◌, ℕ, ◌++◌, ◌<◌, ◌≤◌, ltb, Bool, true, false, cond, List, [], ◌∷◌, length, Option, Some, None, Result, Ok, Err, refl, sym, ap, subst, ◌∙◌, inl, inr, arith}
use Rattle.std.specs.Prelude.{IsFalse, IsTrue}
use Rattle.std.specs.List.{AllByRecursion}
use Rattle.std.specs.Option.{option_map}
use Rattle.std.proofs.lemmas.List.{length-set}
use Rattle.drive_port.specs.Drive.{DriveState}
use Rattle.zone_choice.specs.declared.roles.Filling.{Filling}
use Rattle.zone_choice.specs.declared.roles.Second.{Second}
use Rattle.zone_choice.specs.declared.roles.Second.TheVariants.{Destination, Next}
use Rattle.zone_choice.specs.Agreement.{MountedView, mounted}
use Rattle.logical_map.specs.declared.place.Place.{Place}
use Rattle.zone_choice.specs.Roles.{RolesView, clean_ended, clean_undone, with_empty, without_destination, closed_beside, ended, filling_list, filling_of, fillings}
use Rattle.zone_choice.specs.Changes.{roles_alone}
use Rattle.zone_choice.specs.Sane.{IsSane, KeepsShape, TablesAfter}
use Rattle.drive_array.specs.Sizes.{size_or}
use Rattle.zone_choice.specs.Tables.{TablesView, size_of}
use Rattle.drive_port.specs.declared.calls.PortFault.{PortFault}
use Rattle.zone_states.specs.declared.geometry.Geometry.{Geometry}
use Rattle.batch_log.specs.Log.{Batch}
use Rattle.zone_cleaner.specs.Answering.{StaysSane}
use Rattle.zone_cleaner.specs.Clean.{CleanView}
use Rattle.zone_cleaner.specs.Reading.{AsksAndNotes, OnlyAsks}
use Rattle.zone_cleaner.specs.declared.fault.CleanFault.{CleanFault}
use Rattle.zone_cleaner.specs.declared.fault.CleanFault.TheVariants as faults
use Rattle.zone_cleaner.specs.Start.{StartLeaves, TurnLeaves}
use Rattle.zone_cleaner.specs.Turns.{NotesLost}
use Rattle.zone_cleaner.proofs.RoomLaws.{move-host}

-- the tables are the same
pub sane-same : (old new : DriveState) (tables : TablesView) → KeepsShape old new → IsSane (mounted old tables) → IsSane (mounted new tables)
sane-same old new tables shape sane = record {
  geometry = rw shape.geometry sane.geometry;
  one_drive = sane.one_drive;
  zones = rw shape.geometry sane.zones;
  short = sane.short;
  next = sane.next;
  fillings_are = rw shape.geometry sane.fillings_are;
  readable = λ up. sane.readable (shape.unfailing up);
}

-- the same zones are being filled
fillings-ended : (roles : RolesView) (victim : ℕ) → fillings (clean_ended roles victim) ≡ fillings roles
fillings-ended roles victim = at roles.host roles.second
  where
    at : (host : Option Filling) (second : Option Second) → filling_list host ++ filling_list (option_map filling_of (option_map ended second)) ≡ filling_list host ++ filling_list (option_map filling_of second)
    at host None = refl
    at host (Some (Next f)) = refl
    at host (Some (Destination f)) = refl

-- the victim is empty
pub sane-ended : (old new : DriveState) (tables : TablesView) (victim : ℕ) → KeepsShape old new → IsSane (mounted old tables) → IsSane (mounted new (record tables { roles = clean_ended tables.roles victim }))
sane-ended old new tables victim shape sane = record {
  geometry = rw shape.geometry sane.geometry;
  one_drive = length-set tables.roles.empty victim true ∙ sane.one_drive;
  zones = rw shape.geometry sane.zones;
  short = sane.short;
  next = sane.next;
  fillings_are = rw (shape.geometry, fillings-ended tables.roles victim) sane.fillings_are;
  readable = λ up. sane.readable (shape.unfailing up);
}

-- a clean is given up
pub sane-undone : (old new : DriveState) (tables : TablesView) (all : List Place) → KeepsShape old new → length all ≡ size_of tables → IsSane (mounted old tables) → IsSane (mounted new (record tables { map = record tables.map { places = all }; roles = clean_undone tables.roles }))
sane-undone old new tables all shape long sane = record {
  geometry = rw shape.geometry sane.geometry;
  one_drive = with-long tables.roles.second ∙ sane.one_drive;
  zones = rw shape.geometry sane.zones;
  short = omega (arith, long, sane.short);
  next = sane.next;
  fillings_are = rw shape.geometry (fewer tables.roles.host tables.roles.second sane.fillings_are);
  readable = λ up. sane.readable (shape.unfailing up);
}
  where
    with-long : (second : Option Second) → length (with_empty tables.roles.empty second) ≡ length tables.roles.empty
    with-long None = refl
    with-long (Some (Next f)) = refl
    with-long (Some (Destination f)) = length-set tables.roles.empty f.zone true

    Few : Filling → Type 0
    Few f = (f.zone < old.geometry.zones) × (f.written ≤ old.geometry.capacity)

    fewer : (host : Option Filling) (second : Option Second) → AllByRecursion Few (filling_list host ++ filling_list (option_map filling_of second)) → AllByRecursion Few (filling_list host ++ filling_list (option_map filling_of (without_destination second)))
    fewer host None few = few
    fewer host (Some (Next f)) few = few
    fewer None (Some (Destination f)) few = tt
    fewer (Some h) (Some (Destination f)) few = (few.0, tt)

-- ---- a clean begins

with-one : (P : Filling → Type 0) (host : Option Filling) (second : Option Second) (f : Filling) → second ≡ None → AllByRecursion P (filling_list host ++ filling_list (option_map filling_of second)) → P f → AllByRecursion P (filling_list host ++ f ∷ [])
with-one P host second f none all one = at host (subst (λ (s : Option Second). AllByRecursion P (filling_list host ++ filling_list (option_map filling_of s))) none all)
  where
    at : (host : Option Filling) → AllByRecursion P (filling_list host ++ []) → AllByRecursion P (filling_list host ++ f ∷ [])
    at None all = (one, tt)
    at (Some h) all = (all.0, (one, tt))

sane-started : (a b : MountedView) (clean : Option CleanView) → TurnLeaves a None (Ok tt) b clean → IsSane a → IsSane b
sane-started a b None leaves sane = rw (leaves.1.1, leaves.0) sane
sane-started a b (Some c) leaves sane =
    let start = leaves.1 in
    let g = a.drive.geometry in
    rw (start.tables, leaves.0) (record {
      geometry = sane.geometry;
      one_drive = length-set a.tables.roles.empty start.destination false ∙ sane.one_drive;
      zones = sane.zones;
      short = sane.short;
      next = sane.next;
      fillings_are = with-one (λ (f : Filling). (f.zone < g.zones) × (f.written ≤ g.capacity)) a.tables.roles.host a.tables.roles.second _ start.due.alone sane.fillings_are (omega (arith, start.lowest.in_range, sane.one_drive, sane.zones), omega arith);
      readable = sane.readable;
    })

-- the start of one sends nothing
pub stays-started : (a b : MountedView) (clean : Option CleanView) → TurnLeaves a None (Ok tt) b clean → IsSane a → StaysSane a b
stays-started a b clean leaves sane = record {
  shape = record {
    geometry = ap (λ (d : DriveState). d.geometry) leaves.0;
    trusted = λ t. subst (λ (d : DriveState). IsTrue d.clean) leaves.0 t;
    unfailing = λ up. subst (λ (d : DriveState). IsTrue d.unfailing) leaves.0 up;
  };
  sane = sane-started a b clean leaves sane;
  size = same clean leaves.1;
  given = given clean leaves.1;
  host = by clean leaves.1;
}
  where
    same : (clean : Option CleanView) → StartLeaves a.drive.geometry a.tables b.tables clean → size_of b.tables ≡ size_of a.tables
    same None start = ap size_of start.1
    same (Some c) start = ap size_of start.tables

    given : (clean : Option CleanView) → StartLeaves a.drive.geometry a.tables b.tables clean → b.tables.given ≡ a.tables.given
    given None start = ap (λ (t : TablesView). t.given) start.1
    given (Some c) start = ap (λ (t : TablesView). t.given) start.tables

    by : (clean : Option CleanView) → StartLeaves a.drive.geometry a.tables b.tables clean → a.tables.roles.host ≡ None → b.tables.roles.host ≡ None
    by None start none = rw start.1 none
    by (Some c) start none = rw start.tables none

-- ---- a step

-- after a Read that failed, what could not be read may be noted
pub noted-asks : (before middle after : MountedView) (block : ℕ) (place : Place) (result : CleanFault) → OnlyAsks before middle → after.drive ≡ middle.drive → (result ≡ faults.Failed → IsFalse middle.drive.unfailing)
    → (result ≡ faults.Failed → NotesLost block place middle.tables after.tables) → (result ≢ faults.Failed → after.tables ≡ middle.tables) → AsksAndNotes before after
noted-asks before middle after block place result asks drive fails noted other = by result refl
  where
    same : after.tables ≡ middle.tables → AsksAndNotes before after
    same tables = record {
      shape = rw drive asks.shape;
      tables = rw (tables, asks.tables) refl;
      readable = λ up. rw (tables, asks.tables) refl;
      completed = rw drive asks.completed;
    }

    by : (fault : CleanFault) → result ≡ fault → AsksAndNotes before after
    by faults.Failed is = record {
      shape = rw drive asks.shape;
      tables = rw (noted is, asks.tables) refl;
      readable = λ up. absurd (let down = fails is in let bad = rw drive at up in cc);
      completed = rw drive asks.completed;
    }
    by faults.OutOfMemory is = same (other (λ e. (let bad = sym is ∙ e in absurd (cc))))
    by faults.Stopped is = same (other (λ e. (let bad = sym is ∙ e in absurd (cc))))
    by faults.Spent is = same (other (λ e. (let bad = sym is ∙ e in absurd (cc))))
    by faults.Damaged is = same (other (λ e. (let bad = sym is ∙ e in absurd (cc))))

-- only a Read was sent, and what could not be read may be noted
pub stays-asked : (a b : MountedView) → AsksAndNotes a b → IsSane a → StaysSane a b
stays-asked a b asks sane = record {
  shape = asks.shape;
  sane = rw (asks.tables, asks.shape.geometry) (record { geometry = sane.geometry; one_drive = sane.one_drive; zones = sane.zones; short = sane.short; next = sane.next; fillings_are = sane.fillings_are; readable = λ up. asks.readable up ∙ sane.readable (asks.shape.unfailing up) });
  size = ap size_of asks.tables;
  given = ap (λ (t : TablesView). t.given) asks.tables;
  host = λ none. rw asks.tables none;
}

-- a batch may have been appended that says the size
pub stays-appended : (a b : MountedView) (zone : ℕ) (batch : Batch) (result : Result (Unit {0}) PortFault) → batch.heading.size ≡ Some (size_of a.tables) → KeepsShape a.drive b.drive → IsSane b → TablesAfter a.drive.geometry a.tables zone batch result b.tables
    → StaysSane a b
stays-appended a b zone batch result says shape sane after = record { shape = shape; sane = sane; size = same result after; given = given result after; host = by result after }
  where
    same : (result : Result (Unit {0}) PortFault) → TablesAfter a.drive.geometry a.tables zone batch result b.tables → size_of b.tables ≡ size_of a.tables
    same (Ok done) counts = counts.size ∙ ap (size_or (size_of a.tables)) says
    same (Err fault) left = elim left as (λ _. size_of b.tables ≡ size_of a.tables) [ inl kept ↦ ap size_of kept | inr closed ↦ ap size_of closed ]

    given : (result : Result (Unit {0}) PortFault) → TablesAfter a.drive.geometry a.tables zone batch result b.tables → b.tables.given ≡ a.tables.given
    given (Ok done) counts = counts.given
    given (Err fault) left = elim left as (λ _. b.tables.given ≡ a.tables.given) [ inl kept ↦ ap (λ (t : TablesView). t.given) kept | inr closed ↦ ap (λ (t : TablesView). t.given) closed ]

    alone : (g : Geometry) (roles : RolesView) → roles.host ≡ None → (roles_alone g roles zone).host ≡ None
    alone g roles none = at (ltb 1 g.open)
      where
        at : (b : Bool) → (cond b roles (closed_beside roles zone)).host ≡ None
        at true = none
        at false = rw none refl

    by : (result : Result (Unit {0}) PortFault) → TablesAfter a.drive.geometry a.tables zone batch result b.tables → a.tables.roles.host ≡ None → b.tables.roles.host ≡ None
    by (Ok done) counts none = rw counts.roles (move-host a.drive.geometry a.tables.roles zone _ none)
    by (Err fault) left none = elim left as (λ _. b.tables.roles.host ≡ None) [ inl same ↦ rw same none | inr closed ↦ rw closed (alone a.drive.geometry a.tables.roles none) ]

-- ---- several

pub stays-same : (a : MountedView) → IsSane a → StaysSane a a
stays-same a sane = record { shape = record { geometry = refl; trusted = λ t. t; unfailing = λ up. up }; sane = sane; size = refl; given = refl; host = λ none. none }

pub stays-more : (a b c : MountedView) → StaysSane a b → StaysSane b c → StaysSane a c
stays-more a b c one two = record {
  shape = record { geometry = two.shape.geometry ∙ one.shape.geometry; trusted = λ t. one.shape.trusted (two.shape.trusted t); unfailing = λ up. one.shape.unfailing (two.shape.unfailing up) };
  sane = two.sane;
  size = two.size ∙ one.size;
  given = two.given ∙ one.given;
  host = λ none. two.host (one.host none);
}
