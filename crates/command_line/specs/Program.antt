-- The words that the program takes, as clap has them.
use Rattle.std.specs.Prelude.{◌≡◌, pos, Bool, true, false, List, [], ◌∷◌, fold, Some, codes, ◌++◌}
use Rattle.std.specs.Borrow.{Bor}
use Rattle.clap.specs.Words.{App, Rule, Shape, Text, app_of, new_rule, with_rule, with_subcommand}
use Rattle.clap.specs.Simple.{new_shape}
use Rattle.clap.specs.declared.builder.action.ArgAction.TheVariants.{Set, SetTrue}
use Rattle.clap.specs.declared.builder.command.Command.{Command}
use Rattle.clap.specs.declared.builder.command.Command.TheViews.{out-Command as fields_of}
use Rattle.clap.specs.declared.builder.value_parser.ValueParser.{ValueParser}
use Rattle.clap.specs.declared.builder.value_parser.ValueParser.TheVariants as parsers

-- ---- the options, as clap has them

-- an option with one value, which has to be given
abbrev pub valued : Text → Rule
valued name = record (new_rule name) { long = Some name; action = Some Set; value_names = 1; required = true }

abbrev pub with_parser : ValueParser → Rule → Rule
with_parser parser rule = record rule { parser = Some parser }

-- one that may be left out
abbrev pub optional : Rule → Rule
optional rule = record rule { required = false }

-- an option without a value
abbrev pub flag : Text → Rule
flag name = record (new_rule name) { long = Some name; action = Some SetTrue }

abbrev pub number : Text → ValueParser → Rule
number name parser = with_parser parser (valued name)

-- a word that is no option, and has to be given
abbrev pub given_first : Text → Rule
given_first name = record (new_rule name) { action = Some Set; value_names = 1; required = true }

-- a number below 2^32, and one below 2^63
abbrev pub part : Bool → Text → Rule
part needed name = record (number name (parsers.Signed (pos 0) (pos 4294967295))) { required = needed }

abbrev pub below_2_63 : ValueParser
below_2_63 = parsers.Unsigned 0 9223372036854775807

-- a path, which is not empty
abbrev pub named_path : Text → Rule
named_path name = with_parser parsers.NonEmptyString (valued name)

-- where the drive is: in a file, or behind a device
abbrev pub image : Rule
image = optional (named_path (codes "image"))

abbrev pub device : Rule
device = optional (named_path (codes "device"))

abbrev pub blocks : Rule
blocks = number (codes "blocks") below_2_63

-- the parts of a geometry, needed or not: the shape of the drive, and its limits
abbrev pub shape : Bool → List Rule
shape needed = part needed (codes "block") ∷ part needed (codes "zones") ∷ part needed (codes "size") ∷ part needed (codes "capacity") ∷ []

abbrev pub limits : Bool → List Rule
limits needed = part needed (codes "transfer") ∷ part needed (codes "active") ∷ part needed (codes "open") ∷ []

abbrev pub parts : Bool → List Rule
parts needed = shape needed ++ limits needed

abbrev pub stops : List Rule
stops = optional (number (codes "stop-after") below_2_63) ∷ optional (number (codes "tear") below_2_63) ∷ []

-- a percentage
abbrev pub percent : ValueParser
percent = parsers.Unsigned 0 100

-- how a disk forgets
abbrev pub forgets : List Rule
forgets =
    optional (number (codes "forget") below_2_63) ∷ optional (number (codes "odds") percent) ∷ optional (number (codes "cut-after") below_2_63) ∷ []

-- by which chance the medium of a disk fails
abbrev pub fails : List Rule
fails = optional (number (codes "fail") below_2_63) ∷ optional (number (codes "fail-odds") percent) ∷ []

-- what a plan is for
abbrev pub aims : List Rule
aims = optional blocks ∷ optional (number (codes "share") below_2_63) ∷ optional (number (codes "amplification") below_2_63) ∷ []

-- the option of a habit, by the names that it takes, in any case of their letters
abbrev pub habit : Bor (List (Bor Text)) → Rule
habit names = record (optional (with_parser (parsers.Names names) (valued (codes "habit")))) { ignore_case = true }

abbrev pub habit_names : List Text
habit_names = codes "lazy" ∷ codes "closing" ∷ codes "strict" ∷ []

-- ---- the program

-- a subcommand with these options
abbrev pub with_options : Text → List Rule → Shape
with_options name rules = record (new_shape name) { rules = rules }

abbrev pub format : Shape
format = with_options (codes "format") (image ∷ device ∷ flag (codes "force") ∷ flag (codes "in-place") ∷ parts false)

abbrev pub run : Bor (List (Bor Text)) → Shape
run names = with_options (codes "run")
    (image ∷ device ∷ blocks ∷ flag (codes "zones") ∷ flag (codes "statistics") ∷ flag (codes "sync") ∷ flag (codes "read-only")
    ∷ flag (codes "progress") ∷ habit names ∷ stops)

abbrev pub report_words : Shape
report_words = with_options (codes "report")
    (image ∷ device ∷ optional (valued (codes "state")) ∷ flag (codes "brief") ∷ flag (codes "json") ∷ flag (codes "svg") ∷ [])

abbrev pub check_words : Shape
check_words = with_options (codes "check") (image ∷ device ∷ optional blocks ∷ flag (codes "json") ∷ [])

abbrev pub info_words : Shape
info_words = with_options (codes "info") (image ∷ device ∷ flag (codes "json") ∷ [])

abbrev pub plan_words : Shape
plan_words = with_options (codes "plan")
    (image ∷ parts false ++ aims ++ optional (valued (codes "bytes")) ∷ flag (codes "json") ∷ flag (codes "svg") ∷ [])

-- the numbers of an entry, and all of its words
abbrev pub entry_numbers : List Rule
entry_numbers =
    optional (number (codes "start") below_2_63) ∷ optional blocks ∷ optional (number (codes "dwords") below_2_63)
    ∷ optional (number (codes "id") below_2_63) ∷ []

abbrev pub entry : Shape
entry = with_options (codes "entry")
    (given_first (codes "command") ∷ entry_numbers ++ flag (codes "all") ∷ flag (codes "partial") ∷ optional (valued (codes "state"))
    ∷ optional (valued (codes "data")) ∷ [])

abbrev pub nvme : Bor (List (Bor Text)) → Shape
nvme names = with_options (codes "nvme") (image ∷ device ∷ flag (codes "explain") ∷ flag (codes "sync") ∷ habit names ∷ [])

abbrev pub nbd : Bor (List (Bor Text)) → Shape
nbd names = with_options (codes "nbd")
    (image ∷ device ∷ optional blocks ∷ flag (codes "statistics") ∷ flag (codes "idle") ∷ flag (codes "read-only") ∷ habit names ∷ stops ++ forgets ++ fails)

abbrev pub export_words : Shape
export_words = with_options (codes "export")
    (image ∷ device ∷ optional (number (codes "first") below_2_63) ∷ optional (number (codes "count") below_2_63) ∷ flag (codes "progress") ∷ [])

abbrev pub import_words : Shape
import_words = with_options (codes "import")
    (image ∷ device ∷ optional blocks ∷ optional (number (codes "first") below_2_63) ∷ flag (codes "sparse") ∷ flag (codes "progress") ∷ [])

abbrev pub convert_words : Shape
convert_words = with_options (codes "convert") (named_path (codes "image") ∷ named_path (codes "to") ∷ [])

abbrev pub rescue_words : Shape
rescue_words = with_options (codes "rescue")
    (image ∷ device ∷ optional blocks ∷ optional (named_path (codes "to")) ∷ optional (named_path (codes "json")) ∷ flag (codes "progress") ∷ [])

abbrev pub repair_words : Shape
repair_words = with_options (codes "repair") (image ∷ device ∷ flag (codes "force") ∷ [])

abbrev pub fresh_words : Bor (List (Bor Text)) → Shape
fresh_words names = with_options (codes "fresh") (parts true ++ blocks ∷ flag (codes "report") ∷ flag (codes "statistics") ∷ habit names ∷ stops)

abbrev pub fresh_raw : Bor (List (Bor Text)) → Shape
fresh_raw names = with_options (codes "fresh-raw") (parts true ++ habit names ∷ [])

-- the program, by the names of the habits
abbrev pub program : Bor (List (Bor Text)) → App
program names = record {
  top = record (new_shape (codes "zonedisk")) { is_leaf = false; has_version = true; subcommand_required = true };
  subs = format ∷ run names ∷ nbd names ∷ export_words ∷ import_words ∷ convert_words ∷ rescue_words ∷ repair_words ∷ report_words ∷ check_words
      ∷ info_words ∷ plan_words ∷ nvme names ∷ entry ∷ fresh_words names ∷ fresh_raw names ∷ [];
}

-- these options are added to a command, none of which its subcommands inherit
pub record AddsOptions (rules : List Rule) (old new : Command) : Type 0 where
  pub app : app_of new ≡ fold with_rule (app_of old) rules
  pub globals : (fields_of new).has_globals ≡ (fields_of old).has_globals

-- this subcommand is added to a command, with no option that other subcommands inherit
pub record AddsSubcommand (shape : Shape) (old new : Command) : Type 0 where
  pub app : app_of new ≡ with_subcommand (app_of old) shape
  pub globals : (fields_of new).has_globals ≡ (fields_of old).has_globals

-- a command that is this one
pub record IsCommand (shape : Shape) (new : Command) : Type 0 where
  pub app_is : app_of new ≡ record { top = shape; subs = [] }
  pub globals : (fields_of new).has_globals ≡ false
