-- What each step of building a command makes of it.
use Rattle.std.proofs.Common.{◌≡◌, ◌∙◌, ◌||◌, Bool, true, false, [], List, ap, ap₂, refl, fold, Option, Some, ℕ}
use Rattle.std.specs.Borrow.{Bor}
use Rattle.clap.specs.Words as clap
use Rattle.clap.specs.Words.{AddsArg, App, Rule, Shape, app_of, rule_of, with_rule, with_subcommand}
use Rattle.clap.specs.Simple.{app_of_fields}
use Rattle.clap.specs.declared.builder.arg.Arg.{Arg}
use Rattle.clap.specs.declared.builder.command.Command.{Command}
use Rattle.clap.specs.declared.builder.command.Command.TheViews.{out-Command as fields_of}
use Rattle.command_line.specs.Program.{AddsOptions, AddsSubcommand, IsCommand}

-- a command that has become this one, with no option more that subcommands inherit
abbrev pub Becomes : Command → App → Command → Type 0
Becomes old app new = (app_of new ≡ app) × ((fields_of new).has_globals ≡ (fields_of old).has_globals)

or_false : (a b : Bool) → b ≡ false → (a || b) ≡ a
or_false true b e = refl
or_false false b e = e

-- an argument that subcommands do not inherit adds its rule to the app
pub one_more : (old middle new : Command) (app : App) (arg : Arg) (rule : Rule) → Becomes old app middle → AddsArg middle arg new → rule_of arg ≡ rule → arg.global ≡ false → Becomes old (with_rule app rule) new
one_more old middle new app arg rule before adds is local =
    (adds.shape local ∙ ap₂ with_rule before.0 is, adds.globals ∙ or_false _ _ local ∙ before.1)

-- options that are added to a command add their rules to the app
pub options_more : (old middle new : Command) (app : App) (rules : List Rule) → Becomes old app middle → AddsOptions rules middle new → Becomes old (fold with_rule app rules) new
options_more old middle new app rules before adds =
    (adds.app ∙ ap (λ a. fold with_rule a rules) before.0, adds.globals ∙ before.1)

-- adding a command of some shape adds a subcommand of that shape
pub is_added : (old sub new : Command) (shape : Shape) → clap.AddsSubcommand old sub new → IsCommand shape sub → AddsSubcommand shape old new
is_added old sub new shape adds is = record {
  app = adds.shape is.globals ∙ ap (λ (a : App). with_subcommand (app_of old) a.top) is.app_is;
  globals = adds.globals ∙ or_false _ _ is.globals;
}

-- a subcommand that is added to a command adds its shape to the app
pub subcommand_more : (old middle new : Command) (app : App) (shape : Shape) → Becomes old app middle → AddsSubcommand shape middle new → Becomes old (with_subcommand app shape) new
subcommand_more old middle new app shape before adds =
    (adds.app ∙ ap (λ a. with_subcommand a shape) before.0, adds.globals ∙ before.1)

-- texts for help change nothing of a command that was just made
pub dressed : (made about help : Command) (app : App) {s t : Option (Bor (List ℕ))} → app_of made ≡ app → fields_of about ≡ record (fields_of made) { about = s } → fields_of help ≡ record (fields_of about) { after_help = t } → Becomes made app help
dressed made about help app is e f = (ap app_of_fields f ∙ ap app_of_fields e ∙ is, ap (λ x. x.has_globals) f ∙ ap (λ x. x.has_globals) e)

-- a command that none was added to which subcommands inherit
pub is_command : (made new : Command) (shape : Shape) → (fields_of made).has_globals ≡ false → Becomes made (record { top = shape; subs = [] }) new → IsCommand shape new
is_command made new shape local last = record { app_is = last.0; globals = last.1 ∙ local }

-- the app with a version, of which a subcommand has to be named
abbrev pub asking : App → App
asking app = record app { top = record app.top { has_version = true; subcommand_required = true } }

-- a new command that gets an about text, a version and a required subcommand becomes the asking app
pub named : (made about version last : Command) (app : App) {s : Option (Bor (List ℕ))} {t : Bor (List ℕ)} → app_of made ≡ app → fields_of about ≡ record (fields_of made) { about = s } → fields_of version ≡ record (fields_of about) { version = Some t } → fields_of last ≡ record (fields_of version) { subcommand_required = true } → Becomes made (asking app) last
named made about version last app {s} {t} is e f g = (
  ap app_of_fields g ∙ ap (λ x. app_of_fields (record x { subcommand_required = true })) f ∙ ap (λ x. app_of_fields (record x { version = Some t; subcommand_required = true })) e ∙ ap asking is,
  ap (λ x. x.has_globals) g ∙ ap (λ x. x.has_globals) f ∙ ap (λ x. x.has_globals) e,
)
