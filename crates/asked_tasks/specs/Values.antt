-- The values that options were given.
use Rattle.std.specs.Prelude.{◌≡◌, ◌⊎◌, ◌<◌, ◌^◌, ℕ, Bool, true, false, if◌then◌else◌, List, Option, Some, None, IfErr, IfOk, IsSomeAnd, MatchOption}
use Rattle.std.specs.Prelude.{◌&&◌, Result, codes, is_none, length, min, not}
use Rattle.std.specs.List.{list_all}
use Rattle.std.specs.Char.{is_ascii_digit}
use Rattle.std.specs.Str.{bytes_eq, str_eq_ignore_ascii_case}
use Rattle.std.specs.Str.Parse.{digits_value}
use Rattle.clap.specs.Words.{Row, Text, first_of, one_of}
use Rattle.zone_states.specs.declared.geometry.Geometry.{Geometry}
use Rattle.zone_drive.specs.declared.habit.Habit.{Habit}
use Rattle.zone_drive.specs.declared.habit.Habit.TheVariants as habits
use Rattle.job_drives.specs.declared.stop.Stop.{Stop}
use Rattle.asked_tasks.specs.declared.place.Place.{Place}
use Rattle.asked_tasks.specs.declared.place.Place.TheVariants as places
use Rattle.asked_tasks.specs.declared.words.WordFault.{WordFault}
use Rattle.asked_tasks.specs.declared.words.WordFault.TheVariants.{Memory}

-- these are only digits, one at least, and this is their number, of at most this many bits
pub record IsNumber (bits : ℕ) (text : Text) (n : ℕ) : Type 0 where
  pub some : 0 < length text
  pub digits : list_all is_ascii_digit text ≡ true
  pub number : n ≡ digits_value 10 text
  pub fits : n < 2 ^ bits

-- the number that an option was given
abbrev pub HasNumber : ℕ → List Row → Text → ℕ → Type 0
HasNumber bits rows name n = IsSomeAnd (first_of name rows) (λ text. IsNumber bits text n)

-- the same, or this where it was given none
abbrev pub HasNumberOr : ℕ → List Row → Text → ℕ → Type 0
HasNumberOr missing rows name n = MatchOption (first_of name rows) (n ≡ missing) (λ text. IsNumber 64 text n)

-- the number that an option was given, if it was given one
abbrev pub HasNumberIf : List Row → Text → Option ℕ → Type 0
HasNumberIf rows name value = MatchOption (first_of name rows) (value ≡ None) (λ text. IsSomeAnd value (IsNumber 64 text))

-- the text that an option was given, if it was given one
abbrev pub HasTextIf : List Row → Text → Option Text → Type 0
HasTextIf rows name value = first_of name rows ≡ value

-- whether a flag was given
pub record HasFlag (rows : List Row) (name : Text) (flag : Bool) : Type 0 where
  pub given : one_of name rows ≡ Some (codes "true") → flag ≡ true
  pub denied : one_of name rows ≡ Some (codes "false") → flag ≡ false
  pub missing : one_of name rows ≡ None → flag ≡ false

-- whether an option without a value was given
abbrev pub is_true : Option Text → Bool
is_true None = false
is_true (Some text) = bytes_eq text (codes "true")

abbrev pub is_set : List Row → Text → Bool
is_set rows name = is_true (first_of name rows)

-- an option was not given, and none of these was
abbrev pub is_missing : List Row → Text → Bool
is_missing rows name = is_none (first_of name rows)

abbrev pub lacks_all : List Row → List Text → Bool
lacks_all rows names = list_all (is_missing rows) names

-- the habit that a word names, in any case of its letters
abbrev pub named_habit : Text → Habit
named_habit word =
    if str_eq_ignore_ascii_case word (codes "closing") then habits.Closing
    else if str_eq_ignore_ascii_case word (codes "strict") then habits.Strict else habits.Lazy

abbrev pub HasHabit : List Row → Habit → Type 0
HasHabit rows habit = MatchOption (first_of (codes "habit") rows) (habit ≡ habits.Lazy) (λ word. habit ≡ named_habit word)

pub record HasGeometry (rows : List Row) (geometry : Geometry) : Type 0 where
  pub block : HasNumber 32 rows (codes "block") geometry.block
  pub zones : HasNumber 32 rows (codes "zones") geometry.zones
  pub size : HasNumber 32 rows (codes "size") geometry.size
  pub capacity : HasNumber 32 rows (codes "capacity") geometry.capacity
  pub transfer : HasNumber 32 rows (codes "transfer") geometry.transfer
  pub active : HasNumber 32 rows (codes "active") geometry.active
  pub open_zones : HasNumber 32 rows (codes "open") geometry.open

-- when the drive stops: never, if nothing is given. A tear of 2^32 blocks or more is as good as one of 2^32 - 1.
pub record HasStop (rows : List Row) (stop : Stop) : Type 0 where
  pub commands : HasNumberOr 18446744073709551615 rows (codes "stop-after") stop.commands
  pub tear : (n : ℕ) × HasNumberOr 0 rows (codes "tear") n × (stop.tear ≡ min n 4294967295)
  -- a drive that does not stop tears no Append
  pub torn : (is_missing rows (codes "stop-after") && not (is_missing rows (codes "tear"))) ≡ false

abbrev pub HasImage : List Row → Text → Type 0
HasImage rows path = first_of (codes "image") rows ≡ Some path

-- A device is named, and no file. Nothing is asked for that only a drive in a file can have: a habit, a sync, and that it stays as it is.
pub record HasDevice (rows : List Row) (path : Text) : Type 0 where
  pub path_is : first_of (codes "device") rows ≡ Some path
  pub no_file : first_of (codes "image") rows ≡ None
  pub no_habit : first_of (codes "habit") rows ≡ None
  pub no_sync : is_set rows (codes "sync") ≡ false
  pub no_reading : is_set rows (codes "read-only") ≡ false

-- the path of the drive in this place
abbrev pub HasDrive : Place → List Row → Text → Type 0
HasDrive places.File rows path = HasImage rows path
HasDrive places.Device rows path = HasDevice rows path

-- ---- steps of the reading

-- a value that is this; or a fault, since there is no such value, or memory ran out
pub record Finds {A : Type 0} (Is : A → Type 0) (answer : Result A WordFault) : Type 0 where
  pub value : IfOk answer Is
  pub fault : IfErr answer (λ fault. (fault ≡ Memory) ⊎ ((value : A) → Is value → ⊥))
