-- What holds between two turns is kept where tables and array are, and where the next zone becomes the host zone.
use Rattle.std.proofs.Common.{◌≡◌, ℕ, ◌+◌, ◌≤◌, Bool, List, Option, Some, None, refl, ap, subst, ◌∙◌, arith}
use Rattle.std.specs.Option.{option_map}
use Rattle.drive_port.specs.Drive.{DriveState}
use Rattle.logical_map.specs.Places.{MapView}
use Rattle.zone_choice.specs.declared.roles.Filling.{Filling}
use Rattle.zone_choice.specs.declared.roles.Second.{Second}
use Rattle.zone_choice.specs.declared.roles.Second.TheVariants.{Destination, Next}
use Rattle.zone_choice.specs.Agreement.{Agrees, MountedView, mounted}
use Rattle.drive_array.specs.ZoneLogs.{drive_logs}
use Rattle.zone_choice.specs.Changes.{KeepsArray}
use Rattle.zone_choice.specs.Roles.{closed, next_of, promoted, second_with, with_next}
use Rattle.zone_choice.specs.declared.unreadable.Unreadable.{Unreadable}
use Rattle.zone_choice.specs.Tables.{TablesView}
use Rattle.zone_choice.proofs.AgreementLaws.{agrees-roles, tables_with}
use Rattle.zone_choice.proofs.RolesLaws.{roles_with}
use Rattle.zone_cleaner.specs.Clean.{CleanView, HasNoDestination}
use Rattle.zone_cleaner.specs.Start.{AgreesWithClean, KeepsByCleaning}
use Rattle.zone_cleaner.proofs.CleanLaws.{clean_kept}
use Rattle.zone_cleaner.proofs.OnlyLaws.{only-same}
use Rattle.zone_cleaner.proofs.TurnLaws.{array_keeps, cleans_mountable}

-- ---- the array is kept

-- how much of the next zone is written
held : Option Second → ℕ
held (Some (Next filling)) = filling.written
held second = 0

closed-alone : (capacity : ℕ) (after before : Option Second) → option_map (second_with closed) after ≡ option_map (second_with closed) before → HasNoDestination capacity before → HasNoDestination capacity after
unfolding held
closed-alone capacity None before same alone = tt
closed-alone capacity (Some (Next g)) None same alone = absurd (cc)
closed-alone capacity (Some (Next g)) (Some (Next f)) same alone = let e : g.written ≡ f.written = ap held same in omega (arith, e, alone)
closed-alone capacity (Some (Next g)) (Some (Destination f)) same alone = absurd alone
closed-alone capacity (Some (Destination g)) None same alone = absurd (cc)
closed-alone capacity (Some (Destination g)) (Some (Next f)) same alone = absurd (cc)
closed-alone capacity (Some (Destination g)) (Some (Destination f)) same alone = absurd alone

-- tables, drive and clean agree where the array is kept
pub cleaned_kept : (before after : MountedView) (clean : Option CleanView) → AgreesWithClean before clean → KeepsArray before after → AgreesWithClean after clean
cleaned_kept before after None is kept = (kept.agrees, (kept.spare is.1.0, rw kept.geometry (closed-alone before.drive.geometry.capacity after.tables.roles.second before.tables.roles.second kept.second is.1.1)))
cleaned_kept before after (Some c) is kept = (kept.agrees, clean_kept before after c is.0 kept is.1)

-- what keeps the array is kept by cleaning
pub cleaning_kept : (before after : MountedView) (clean : Option CleanView) → AgreesWithClean before clean → KeepsArray before after → KeepsByCleaning before after
cleaning_kept before after clean is kept = array_keeps before after clean (cleaned_kept before after clean is kept) kept

-- ---- the next zone becomes the host zone

agrees-promoted : (drive : DriveState) (map : MapView) (empties : List Bool) (f : Filling) (next given : ℕ) (lost : List Unreadable) → Agrees (mounted drive (tables_with map (roles_with empties None (Some (Next f))) next given lost)) → Agrees (mounted drive (tables_with map (roles_with empties (Some f) None) next given lost))
agrees-promoted drive map empties f next given lost agrees =
    agrees-roles drive (tables_with map (roles_with empties None (Some (Next f))) next given lost) (roles_with empties (Some f) None) agrees
    (record {
      count = agrees.roles.count;
      apart = record { occupied = agrees.roles.apart.occupied; differ = tt };
      fillings_are = agrees.roles.fillings_are;
      empty = agrees.roles.empty;
      sealed_are = agrees.roles.sealed_are;
    })
    agrees.few agrees.open_zones

next-parts : (second : Option Second) (f : Filling) → next_of second ≡ Some f → second ≡ Some (Next f)
next-parts None f e = absurd (cc)
next-parts (Some (Next g)) f e = ap (option_map Next) e
next-parts (Some (Destination g)) f e = absurd (cc)

-- it has two free blocks, and the array is the same
pub record PromoteGives (drive : DriveState) (old new : TablesView) (f : Filling) : Type 0 where
  pub cleaned : AgreesWithClean (mounted drive new) None
  pub keeps : KeepsByCleaning (mounted drive old) (mounted drive new)
  pub host : new.roles.host ≡ Some f
  pub room : f.written + 2 ≤ drive.geometry.capacity

-- the next zone becomes the host zone
pub promote_gives : (drive : DriveState) (old new : TablesView) (f : Filling) → AgreesWithClean (mounted drive old) None → old.roles.host ≡ None → next_of old.roles.second ≡ Some f → new ≡ record old { roles = promoted old.roles } → PromoteGives drive old new f
promote_gives drive old new f is none next new-is =
    let second = next-parts old.roles.second f next in
    let plain : Agrees (mounted drive (tables_with old.map (roles_with old.roles.empty None (Some (Next f))) old.next old.given old.unreadable)) =
    subst (λ (s : Option Second). Agrees (mounted drive (tables_with old.map (roles_with old.roles.empty None s) old.next old.given old.unreadable))) second (subst (λ (h : Option Filling). Agrees (mounted drive (tables_with old.map (roles_with old.roles.empty h old.roles.second) old.next old.given old.unreadable))) none is.0) in
    let same : new ≡ tables_with old.map (roles_with old.roles.empty (Some f) None) old.next old.given old.unreadable = new-is ∙ ap (λ (o : Option Filling). tables_with old.map (with_next old.roles o) old.next old.given old.unreadable) next in
    let cleaned : AgreesWithClean (mounted drive (tables_with old.map (roles_with old.roles.empty (Some f) None) old.next old.given old.unreadable)) None = (agrees-promoted drive old.map old.roles.empty f old.next old.given old.unreadable plain, (is.1.0, tt)) in
    rw same (record {
      cleaned = cleaned;
      keeps = record { mountable = cleans_mountable (mounted drive (tables_with old.map (roles_with old.roles.empty (Some f) None) old.next old.given old.unreadable)) None cleaned; array = refl; moves = only-same (drive_logs drive) (drive_logs drive) refl; size = refl; trimmed = refl; given = refl; geometry = refl; refused = refl; durable = refl; next = refl; appended = omega arith; unfailing = λ up. up };
      host = refl;
      room = (let alone = rw second at is.1.1 in alone);
    })
