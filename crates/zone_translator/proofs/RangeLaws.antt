-- What holds of a disk's numbers whatever the Reads of its drive returned.
use Rattle.std.proofs.Common.{◌≡◌, ◌++◌, ◌<◌, ◌≤◌, false, List, Option, Some, None, refl, ap, subst, sym, ◌∙◌, inl, inr, arith}
use Rattle.std.specs.Prelude.{IsTrue}
use Rattle.std.specs.List.{AllByRecursion}
use Rattle.std.specs.Option.{option_map}
use Rattle.std.proofs.lemmas.List.{length-set}
use Rattle.zone_states.specs.declared.geometry.Geometry.{Geometry}
use Rattle.drive_port.specs.Drive.{DriveState}
use Rattle.zone_choice.specs.declared.roles.Filling.{Filling}
use Rattle.zone_choice.specs.declared.roles.Second.{Second}
use Rattle.zone_choice.specs.declared.roles.Second.TheVariants.{Destination, Next}
use Rattle.zone_choice.specs.Agreement.{MountedView, mounted}
use Rattle.zone_choice.specs.Roles.{RolesView, filling_list, filling_of, next_of, promoted, sealed, with_next}
use Rattle.zone_choice.specs.Sane.{IsSane, KeepsShape}
use Rattle.zone_choice.specs.Tables.{TablesView, size_of}
use Rattle.zone_cleaner.specs.Answering.{StaysSane}
use Rattle.zone_cleaner.proofs.SaneLaws.{sane-same}
use Rattle.zone_translator.specs.Answering.{StaysOfSize}
use Rattle.zone_translator.specs.Changes.{TakesHost}

-- ---- one after the other

pub range-same : (a : MountedView) → IsSane a → StaysOfSize a a
range-same a sane = record { range = record { shape = record { geometry = refl; trusted = λ t. t; unfailing = λ up. up }; sane = sane; given = refl }; size = refl }

pub range-more : (a b c : MountedView) → StaysOfSize a b → StaysOfSize b c → StaysOfSize a c
range-more a b c one two = record {
  range = record {
    shape = record { geometry = two.range.shape.geometry ∙ one.range.shape.geometry; trusted = λ t. one.range.shape.trusted (two.range.shape.trusted t); unfailing = λ up. one.range.shape.unfailing (two.range.shape.unfailing up) };
    sane = two.range.sane;
    given = two.range.given ∙ one.range.given;
  };
  size = two.size ∙ one.size;
}

pub range-cleaned : (a b : MountedView) → StaysSane a b → StaysOfSize a b
range-cleaned a b stays = record { range = record { shape = stays.shape; sane = stays.sane; given = stays.given }; size = stays.size }

-- a command went that changed no tables
pub range-sent : (old new : DriveState) (tables : TablesView) → KeepsShape old new → IsSane (mounted old tables) → StaysOfSize (mounted old tables) (mounted new tables)
range-sent old new tables shape sane = record { range = record { shape = shape; sane = sane-same old new tables shape sane; given = refl }; size = refl }

-- ---- the host zone

-- it is one of the drive's, and no fuller than a zone can be
abbrev pub IsWithin : Geometry → Filling → Type 0
IsWithin g f = (f.zone < g.zones) × (f.written ≤ g.capacity)

pub host-within : (disk : MountedView) (host : Filling) → IsSane disk → disk.tables.roles.host ≡ Some host → IsWithin disk.drive.geometry host
host-within disk host sane is =
    let P = IsWithin disk.drive.geometry in
    (subst (λ (h : Option Filling). AllByRecursion P (filling_list h ++ filling_list (option_map filling_of disk.tables.roles.second))) is sane.fillings_are).0

without-host : (P : Filling → Type 0) (host : Option Filling) (second : List Filling) → AllByRecursion P (filling_list host ++ second) → AllByRecursion P second
without-host P None second all = all
without-host P (Some h) second all = all.1

-- it is sealed
pub range-seal : (old new : DriveState) (tables after : TablesView) → KeepsShape old new → after ≡ record tables { roles = sealed tables.roles } → IsSane (mounted old tables) → StaysOfSize (mounted old tables) (mounted new after)
range-seal old new tables after shape after-is sane =
    rw after-is (record {
      range = record {
        shape = shape;
        sane = record {
          geometry = rw shape.geometry sane.geometry;
          one_drive = sane.one_drive;
          zones = rw shape.geometry sane.zones;
          short = sane.short;
          next = sane.next;
          fillings_are = rw shape.geometry (without-host (IsWithin old.geometry) tables.roles.host (filling_list (option_map filling_of tables.roles.second)) sane.fillings_are);
          readable = λ up. sane.readable (shape.unfailing up);
        };
        given = refl;
      };
      size = refl;
    })

-- ---- a zone is taken

next-fillings : (g : Geometry) (second : Option Second) (host : Filling) → next_of second ≡ Some host → AllByRecursion (IsWithin g) (filling_list (option_map filling_of second)) → IsWithin g host
next-fillings g None host is all = absurd (cc)
next-fillings g (Some (Next f)) host is all = let same : f ≡ host = cc in subst (IsWithin g) same all.0
next-fillings g (Some (Destination f)) host is all = absurd (cc)

next-roles : (roles : RolesView) (host : Filling) → next_of roles.second ≡ Some host → promoted roles ≡ record { empty = roles.empty; host = Some host; second = None }
next-roles roles host is = ap (with_next roles) is

take-sane : (drive : DriveState) (old new : TablesView) (host : Filling) → old.roles.host ≡ None → TakesHost old host new → IsSane (mounted drive old) → IsSane (mounted drive new)
take-sane drive old new host none (inl next) sane =
    let all = without-host (IsWithin drive.geometry) old.roles.host (filling_list (option_map filling_of old.roles.second)) sane.fillings_are in
    rw (next.1, next-roles old.roles host next.0) (record {
      geometry = sane.geometry;
      one_drive = sane.one_drive;
      zones = sane.zones;
      short = sane.short;
      next = sane.next;
      fillings_are = (next-fillings drive.geometry old.roles.second host next.0 all, tt);
      readable = sane.readable;
    })
take-sane drive old new host none (inr (no_next, two, lowest, host-is, new-is)) sane =
    let all = without-host (IsWithin drive.geometry) old.roles.host (filling_list (option_map filling_of old.roles.second)) sane.fillings_are in
    rw new-is (record {
      geometry = sane.geometry;
      one_drive = length-set old.roles.empty host.zone false ∙ sane.one_drive;
      zones = sane.zones;
      short = sane.short;
      next = sane.next;
      fillings_are = ((omega (arith, lowest.in_range, sane.one_drive, sane.zones), omega arith), all);
      readable = sane.readable;
    })

taken-size : (old new : TablesView) (host : Filling) → TakesHost old host new → size_of new ≡ size_of old
taken-size old new host (inl next) = ap size_of next.1
taken-size old new host (inr (no_next, two, lowest, host-is, new-is)) = ap size_of new-is

taken-given : (old new : TablesView) (host : Filling) → TakesHost old host new → new.given ≡ old.given
taken-given old new host (inl next) = ap (λ (t : TablesView). t.given) next.1
taken-given old new host (inr (no_next, two, lowest, host-is, new-is)) = ap (λ (t : TablesView). t.given) new-is

-- the numbers stay in range
pub range-take : (a b : MountedView) (host : Filling) → a.tables.roles.host ≡ None → b.drive ≡ a.drive → TakesHost a.tables host b.tables → IsSane a → StaysOfSize a b
range-take a b host none drive takes sane =
    let here : StaysOfSize a (mounted a.drive b.tables) = record {
      range = record {
        shape = record { geometry = refl; trusted = λ t. t; unfailing = λ up. up };
        sane = take-sane a.drive a.tables b.tables host none takes sane;
        given = taken-given a.tables b.tables host takes;
      };
      size = taken-size a.tables b.tables host takes;
    } in
    subst (λ (d : DriveState). StaysOfSize a (mounted d b.tables)) (sym drive) here
