-- The victim is sealed, the destination is being filled.
use Rattle.std.proofs.Common.{◌≡◌, ◌≢◌, ℕ, ◌<◌, Bool, true, false, ◌&&◌, ◌||◌, not, cond, ltb, eqb, ◌++◌, length, Option, Some, None, refl, ap, subst, ◌∙◌, arith}
use Rattle.std.specs.List.{AllByRecursion, list_any}
use Rattle.std.proofs.lemmas.Bool.{eq-eqb, lt-ltb, ltb-true}
use Rattle.std.proofs.lemmas.List.{length-map}
use Rattle.drive_port.specs.Drive.{DriveState}
use Rattle.drive_port.specs.Contents.{content_of, contents}
use Rattle.zone_choice.specs.declared.roles.Filling.{Filling}
use Rattle.zone_choice.specs.declared.roles.Second.{Second}
use Rattle.zone_choice.specs.declared.roles.Second.TheVariants.{Destination}
use Rattle.zone_choice.specs.Agreement.{Agrees, IsSealed, MountedView}
use Rattle.drive_array.specs.ZoneLogs.{drive_logs, zone_log}
use Rattle.zone_choice.specs.Roles.{RolesView, filling_of, closed, closed_beside, closed_unless, fillings, grown, is_at, is_empty_at, is_filling_at, filling_list, second_with, wrote}
use Rattle.zone_choice.proofs.MarkLaws.{sealed-with}
use Rattle.zone_choice.proofs.RolesLaws.{closed-zone, filling_at-with, grown-zone, second_list}
use Rattle.zone_choice.specs.Changes.{roles_alone}
use Rattle.zone_states.specs.declared.geometry.Geometry.{Geometry}
use Rattle.std.specs.Option.{option_map}
use Rattle.zone_choice.specs.Roles.{is_sealed_at}

-- what it means that a zone is sealed
pub record SealedZone (roles : RolesView) (zone : ℕ) : Type 0 where
  pub in_range : zone < length roles.empty
  pub not_empty : is_empty_at roles zone ≡ false
  pub not_filling : is_filling_at roles zone ≡ false

-- it means this
pub sealed-zone : (roles : RolesView) (zone : ℕ) → is_sealed_at roles zone ≡ true → SealedZone roles zone
sealed-zone roles zone is = parts (ltb zone (length roles.empty)) refl (is_empty_at roles zone) refl (is_filling_at roles zone) refl is
  where
    parts : (a : Bool) → ltb zone (length roles.empty) ≡ a → (b : Bool) → is_empty_at roles zone ≡ b → (c : Bool) → is_filling_at roles zone ≡ c → (a && (not b && not c)) ≡ true → SealedZone roles zone
    parts true e false f false g h = record { in_range = ltb-true zone (length roles.empty) e; not_empty = f; not_filling = g }
    parts true e false f true g h = absurd (cc)
    parts true e true f c g h = absurd (cc)
    parts false e b f c g h = absurd (cc)

zone-sealed : (roles : RolesView) (zone : ℕ) → SealedZone roles zone → is_sealed_at roles zone ≡ true
zone-sealed roles zone is = rw (lt-ltb zone (length roles.empty) is.in_range, is.not_empty, is.not_filling) refl

-- blocks are written to a zone that is being filled
sealed-wrote : (roles : RolesView) (zone blocks victim : ℕ) → is_sealed_at roles victim ≡ true → is_sealed_at (wrote roles zone blocks) victim ≡ true
sealed-wrote roles zone blocks victim is =
    let was = sealed-zone roles victim is in
    zone-sealed (wrote roles zone blocks) victim (record { in_range = was.in_range; not_empty = was.not_empty; not_filling = filling_at-with (grown zone blocks) (grown-zone zone blocks) roles victim ∙ was.not_filling })

-- the same, where the zone beside was closed first
pub sealed-alone : (geometry : Geometry) (roles : RolesView) (zone blocks victim : ℕ) → is_sealed_at roles victim ≡ true → is_sealed_at (wrote (roles_alone geometry roles zone) zone blocks) victim ≡ true
sealed-alone geometry roles zone blocks victim is = sealed-wrote (roles_alone geometry roles zone) zone blocks victim (at (ltb 1 geometry.open))
  where
    at : (b : Bool) → is_sealed_at (cond b roles (closed_beside roles zone)) victim ≡ true
    at true = is
    at false = sealed-with (closed_unless zone) (closed-zone zone) roles victim is

own-closed : (zone : ℕ) (f : Filling) → f.zone ≡ zone → closed_unless zone f ≡ f
own-closed zone f e = ap (λ (b : Bool). cond b f (closed f)) (eq-eqb f.zone zone e)

-- the destination is not the zone beside itself
pub alone-own : (geometry : Geometry) (roles : RolesView) (f : Filling) → roles.second ≡ Some (Destination f) → (roles_alone geometry roles f.zone).second ≡ Some (Destination f)
alone-own geometry roles f e = at (ltb 1 geometry.open)
  where
    at : (b : Bool) → (cond b roles (closed_beside roles f.zone)).second ≡ Some (Destination f)
    at true = e
    at false = ap (option_map (second_with (closed_unless f.zone))) e ∙ ap (λ (g : Filling). Some (Destination g)) (own-closed f.zone f refl)

-- each zone has one log
pub zone-logs : (drive : DriveState) → length (drive_logs drive) ≡ length drive.zones
zone-logs drive = length-map (contents drive.zones) (zone_log drive.geometry) ∙ length-map drive.zones content_of

-- ---- the victim

-- a sealed zone is one of the drive
pub sealed-in_range : (disk : MountedView) (zone : ℕ) → Agrees disk → is_sealed_at disk.tables.roles zone ≡ true → zone < length disk.drive.zones
sealed-in_range disk zone agrees is = omega (arith, (sealed-zone disk.tables.roles zone is).in_range, agrees.roles.count, length-map disk.drive.zones content_of)

-- it is full, and has a batch
pub sealed-holds : (disk : MountedView) (zone : ℕ) → Agrees disk → is_sealed_at disk.tables.roles zone ≡ true → IsSealed (contents disk.drive.zones) (drive_logs disk.drive) zone
sealed-holds disk zone agrees is =
    let was = sealed-zone disk.tables.roles zone is in
    agrees.roles.sealed_are zone (omega (arith, was.in_range, agrees.roles.count)) was.not_empty was.not_filling

-- ---- the second zone

-- what holds of each zone being filled holds of the second one
pub of-second : (P : Filling → Type 0) (roles : RolesView) (second : Second) → roles.second ≡ Some second → AllByRecursion P (fillings roles) → P (filling_of second)
of-second P roles second e all = by roles.host (let Q : Option Second → Type 0 = λ o. AllByRecursion P (filling_list roles.host ++ second_list o) in subst Q e all)
  where
    by : (host : Option Filling) → AllByRecursion P (filling_list host ++ second_list (Some second)) → P (filling_of second)
    by None all = all.0
    by (Some host) all = all.1.0

-- which is being filled
pub second-filling : (roles : RolesView) (second : Second) → roles.second ≡ Some second → is_filling_at roles (filling_of second).zone ≡ true
second-filling roles second e = ap (λ (o : Option Second). list_any (is_at zone) (filling_list roles.host ++ second_list o)) e ∙ by roles.host
  where
    zone : ℕ
    zone = (filling_of second).zone

    any : (b : Bool) → (b || (eqb zone zone || false)) ≡ true
    any true = refl
    any false = ap (λ (c : Bool). c || false) (eq-eqb zone zone refl)

    by : (host : Option Filling) → list_any (is_at zone) (filling_list host ++ second_list (Some second)) ≡ true
    by None = ap (λ (c : Bool). c || false) (eq-eqb zone zone refl)
    by (Some host) = any (eqb host.zone zone)

-- a sealed zone is not one that is being filled
pub sealed-apart : (roles : RolesView) (zone filling : ℕ) → is_sealed_at roles zone ≡ true → is_filling_at roles filling ≡ true → zone ≢ filling
sealed-apart roles zone filling is here = λ same. (let out = (sealed-zone roles zone is).not_filling in let yes = rw (← same) at here in absurd (cc))
