-- What words ask of a tool.
use Rattle.std.specs.Prelude.{◌≡◌, ◌<◌, ◌^◌, ◌*◌, ◌==◌, if◌then◌else◌, ℕ, Bool, true, false, List, [], ◌∷◌, ◌++◌, Option, Some, None, IsSomeAnd}
use Rattle.std.specs.Prelude.{MatchOption, codes, min, string_bytes}
use Rattle.clap.specs.Words.{Row, Text, first_of}
use Rattle.nvme_wire.specs.declared.zone_state.ZoneState.{ZoneState}
use Rattle.tool_forms.specs.Named.{is_name_of}
use Rattle.write_plan.specs.declared.aims.Aim.{Aim}
use Rattle.write_plan.specs.declared.aims.Aim.TheVariants as aims
use Rattle.tool_jobs.specs.declared.checking.CheckForm.{CheckForm}
use Rattle.tool_jobs.specs.declared.checking.CheckForm.TheVariants as checks
use Rattle.tool_jobs.specs.declared.informing.InfoForm.{InfoForm}
use Rattle.tool_jobs.specs.declared.informing.InfoForm.TheVariants as infos
use Rattle.tool_jobs.specs.declared.job.CheckJob.{CheckJob}
use Rattle.tool_jobs.specs.declared.job.InfoJob.{InfoJob}
use Rattle.tool_jobs.specs.declared.job.PlanJob.{PlanJob}
use Rattle.tool_jobs.specs.declared.job.PlannedDrive.{PlannedDrive}
use Rattle.tool_jobs.specs.declared.job.PlannedDrive.TheVariants as drives
use Rattle.tool_jobs.specs.declared.planning.PlanForm.{PlanForm}
use Rattle.tool_jobs.specs.declared.planning.PlanForm.TheVariants as plans
use Rattle.tool_jobs.specs.declared.showing.ZonesForm.{ZonesForm}
use Rattle.tool_jobs.specs.declared.showing.ZonesForm.TheVariants as zones
use Rattle.asked_tasks.specs.declared.place.Place.{Place}
use Rattle.asked_tasks.specs.Values.{HasDrive, HasGeometry, HasImage, HasNumberIf, HasNumberOr, IsNumber, is_set, lacks_all}

-- ---- check

abbrev pub check_form : Bool → CheckForm
check_form true = checks.Json
check_form false = checks.Lines

pub record AsksForCheck (place : Place) (rows : List Row) (job : CheckJob) : Type 0 where
  pub path : HasDrive place rows (string_bytes job.image)
  pub blocks : HasNumberOr 1 rows (codes "blocks") job.blocks
  pub form : job.form ≡ check_form (is_set rows (codes "json"))

-- ---- info

abbrev pub info_form : Bool → InfoForm
info_form true = infos.Json
info_form false = infos.Lines

pub record AsksForInfo (place : Place) (rows : List Row) (job : InfoJob) : Type 0 where
  pub path : HasDrive place rows (string_bytes job.image)
  pub form : job.form ≡ info_form (is_set rows (codes "json"))

-- ---- report, in other forms than all of its lines

-- the state with the name that was given, in any case of its letters, if one was
abbrev pub HasStateIf : List Row → Option ZoneState → Type 0
HasStateIf rows state = MatchOption (first_of (codes "state") rows) (state ≡ None) (λ word. IsSomeAnd state (λ s. is_name_of word s ≡ true))

-- which options a form is asked for by
abbrev pub state_asked : Option ZonesForm → Option ZoneState
state_asked (Some (zones.Lines state)) = Some state
state_asked (Some (zones.Json state)) = state
state_asked form = None

abbrev pub is_brief : Option ZonesForm → Bool
is_brief (Some zones.Brief) = true
is_brief form = false

abbrev pub is_json : Option ZonesForm → Bool
is_json (Some (zones.Json state)) = true
is_json form = false

abbrev pub is_svg : Option ZonesForm → Bool
is_svg (Some zones.Svg) = true
is_svg form = false

-- exactly these were given; none of them for all lines
pub record HasZonesForm (rows : List Row) (form : Option ZonesForm) : Type 0 where
  pub state : HasStateIf rows (state_asked form)
  pub brief : is_set rows (codes "brief") ≡ is_brief form
  pub json : is_set rows (codes "json") ≡ is_json form
  pub svg : is_set rows (codes "svg") ≡ is_svg form

-- ---- plan

abbrev pub part_names : List Text
part_names = codes "block" ∷ codes "zones" ∷ codes "size" ∷ codes "capacity" ∷ codes "transfer" ∷ codes "active" ∷ codes "open" ∷ []

-- a geometry, or an image and no part of a geometry
abbrev pub HasPlannedDrive : List Row → PlannedDrive → Type 0
HasPlannedDrive rows (drives.Shape geometry) = (first_of (codes "image") rows ≡ None) × HasGeometry rows geometry
HasPlannedDrive rows (drives.Image path) = HasImage rows (string_bytes path) × (lacks_all rows part_names ≡ true)

-- what needs more than 32 bits is taken as the greatest
abbrev pub greatest_part : ℕ
greatest_part = 4294967295

-- What a plan is about, by the numbers that its three options were given. One of them may be given.
abbrev pub IsAim : Option ℕ → Option ℕ → Option ℕ → Aim → Type 0
IsAim None None None aim = aim ≡ aims.Shares
IsAim (Some blocks) None None aim = aim ≡ aims.Blocks blocks
IsAim None (Some percent) None aim = aim ≡ aims.Share (min percent greatest_part)
IsAim None None (Some times) aim = aim ≡ aims.Amplification (min (times * 100) greatest_part)
IsAim blocks share amplification aim = ⊥

pub record HasAim (rows : List Row) (aim : Aim) : Type 0 where
  pub blocks : Option ℕ
  pub share : Option ℕ
  pub amplification : Option ℕ
  pub has_blocks : HasNumberIf rows (codes "blocks") blocks
  pub has_share : HasNumberIf rows (codes "share") share
  pub has_amplification : HasNumberIf rows (codes "amplification") amplification
  pub is_aim : IsAim blocks share amplification aim

abbrev pub is_json_plan : PlanForm → Bool
is_json_plan plans.Json = true
is_json_plan form = false

abbrev pub is_svg_plan : PlanForm → Bool
is_svg_plan plans.Svg = true
is_svg_plan form = false

pub record HasPlanForm (rows : List Row) (form : PlanForm) : Type 0 where
  pub json : is_set rows (codes "json") ≡ is_json_plan form
  pub svg : is_set rows (codes "svg") ≡ is_svg_plan form

pub record AsksForPlan (rows : List Row) (job : PlanJob) : Type 0 where
  pub alone : first_of (codes "bytes") rows ≡ None
  pub drive : HasPlannedDrive rows job.drive
  pub aim : HasAim rows job.aim
  pub form : HasPlanForm rows job.form

-- ---- the words that make a drive for a number of bytes

-- what a letter after a number of bytes multiplies it by: K, M, G and T, and none
abbrev pub letter_unit : ℕ → Option ℕ
letter_unit letter =
    if letter == 75 then Some (2 ^ 10) else if letter == 77 then Some (2 ^ 20)
    else if letter == 71 then Some (2 ^ 30) else if letter == 84 then Some (2 ^ 40) else None

abbrev pub unit_of : Text → Option ℕ
unit_of [] = Some 1
unit_of (letter ∷ []) = letter_unit letter
unit_of (letter ∷ next ∷ rest) = None

-- a number in digits, as bytes of this unit
pub record SaysBytesIn (unit : ℕ) (digits : Text) (bytes : ℕ) : Type 0 where
  pub number : ℕ
  pub is_number : IsNumber 64 digits number
  pub bytes_are : bytes ≡ number * unit
  pub fits : bytes < 2 ^ 64

-- a number in digits, and a letter or none after it
pub record SaysBytes (text : Text) (bytes : ℕ) : Type 0 where
  pub digits : Text
  pub letter : Text
  pub unit : ℕ
  pub spelled : text ≡ digits ++ letter
  pub is_unit : unit_of letter ≡ Some unit
  pub is_size : SaysBytesIn unit digits bytes

-- the other options of a plan that have values
abbrev pub plan_names : List Text
plan_names = codes "image" ∷ codes "blocks" ∷ codes "share" ∷ codes "amplification" ∷ part_names

pub record AsksForFormat (rows : List Row) (bytes : ℕ) : Type 0 where
  pub size : IsSomeAnd (first_of (codes "bytes") rows) (λ text. SaysBytes text bytes)
  pub alone : lacks_all rows plan_names ≡ true
  pub form : HasPlanForm rows plans.Table
