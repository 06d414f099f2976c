-- What clap makes of the words of the program, and what refutes each job.
use Rattle.std.proofs.Common.{◌≡◌, ◌∙◌, ◌⊎◌, ◌≢◌, inl, inr, ℕ, ◌<◌, ◌≤◌, ◌^◌, Bool, true, false, ◌&&◌, List, [], ◌∷◌, ap, refl, sym, subst, Option, Some, None, Result, Ok, Err, IsErrAnd, IsSomeAnd, arith, ne_eqb, leb-true, is_some, option_map}
use Rattle.std.specs.Prelude.{MatchOption}
use Rattle.std.specs.Borrow.{Bor}
use Rattle.std.specs.Char.{digit_value, is_ascii_digit}
use Rattle.std.specs.List.{list_all}
use Rattle.std.specs.Str.Parse.{AllDigits, IsNumeral, digits_value, without_leading_plus}
use Rattle.clap.specs.Walk.{texts}
use Rattle.clap.specs.Words.{App, FailsBy, HasKind, HasMatchesOf, Row, Text, app_of, fault_of, first_of, is_simple, is_simple_and_free, kind_of, subcommand_of, subcommand_rows_of}
use Rattle.clap.specs.declared.builder.command.Command.{Command}
use Rattle.clap.specs.declared.error.Error.{Error}
use Rattle.clap.specs.declared.error.kind.ErrorKind.TheVariants.{OutOfMemory}
use Rattle.clap.specs.declared.parser.matches.ArgMatches.{ArgMatches}
use Rattle.clap.proofs.OnLiterals.{clap_on_literals}
use Rattle.asked_tasks.specs.declared.task.Task.{Task}
use Rattle.asked_tasks.specs.declared.words.WordFault.{WordFault}
use Rattle.asked_tasks.specs.declared.words.WordFault.TheVariants.{Memory}
use Rattle.command_line.specs.Program.{habit_names, program}
use Rattle.asked_tasks.specs.Values.{Finds, HasNumber, HasNumberIf, IsNumber}
use Rattle.asked_tasks.specs.Words.{WordsAskFor, AsksFor, IsAnswerTo}

-- ---- the program

simple : (names : Bor (List (Bor Text))) → is_simple (program names) ≡ true
unfolding clap_on_literals
simple names = refl

free : (names : Bor (List (Bor Text))) → is_simple_and_free (program names) ≡ true
unfolding clap_on_literals
free names = refl

-- the subcommand that the matches have is the one that the words name
met : (names : Bor (List (Bor Text))) (command : Command) (words : List Text) (matches : ArgMatches) → app_of command ≡ program names → HasMatchesOf (app_of command) words matches → subcommand_rows_of matches ≡ subcommand_of (program names) words
met names command words matches is has =
    (has (ap is_simple is ∙ simple names)).1 ∙ ap (λ (a : App). subcommand_of a words) is

-- this is the task of the subcommand
abbrev pub Asks : Task → Option (Text × List Row) → Type 0
Asks task rows = IsSomeAnd rows (λ found. AsksFor found.0 found.1 task)

-- so the words ask for the task of the matches' subcommand
pub asks_too : (names : Bor (List (Bor Text))) (command : Command) (words : List Text) (matches : ArgMatches) (task : Task) → app_of command ≡ program names → HasMatchesOf (app_of command) words matches → Asks task (subcommand_rows_of matches) → Asks task (subcommand_of (program names) words)
asks_too names command words matches task is has asks = subst (Asks task) (met names command words matches is has) asks

-- the faults of the words are the command's
pub fails : (names : Bor (List (Bor Text))) (command : Command) (words : List Text) (r : Result ArgMatches Error) → app_of command ≡ program names → (is_simple_and_free (app_of command) ≡ true → FailsBy (fault_of (app_of command) words) r) → FailsBy (fault_of (program names) words) r
fails names command words r is kinds = subst (λ (a : App). FailsBy (fault_of a words) r) is (kinds (ap is_simple_and_free is ∙ free names))

-- ---- refusals

-- memory ran out, or there is no value that is this
abbrev pub Faults : {A : Type 0} → (A → Type 0) → WordFault → Type 0
Faults {A} Is fault = (fault ≡ Memory) ⊎ ((value : A) → Is value → ⊥)

-- memory ran out, or these words ask for no task
abbrev pub Refuses : Bor (List (Bor Text)) → List Text → Error → Type 0
Refuses names words error = (kind_of error ≡ OutOfMemory) ⊎ ((task : Task) → WordsAskFor names words task → ⊥)

-- clap takes the words of each task
pub refused_by_clap : (names : Bor (List (Bor Text))) (words : List Text) (error : Error) → HasKind (fault_of (program names) words) error → Refuses names words error
refused_by_clap names words error (inl memory) = inl memory
refused_by_clap names words error (inr among) = inr (λ task ask. rw ask.taken at among)

-- the matches have what each task of the words asks
pub refused_by_matches : (names : Bor (List (Bor Text))) (command : Command) (words : List Text) (matches : ArgMatches) (fault : WordFault) (error : Error) → app_of command ≡ program names → HasMatchesOf (app_of command) words matches → fault ≢ Memory → Faults (λ (task : Task). Asks task (subcommand_rows_of matches)) fault → Refuses names words error
refused_by_matches names command words matches fault error is has other (inl memory) = absurd (other memory)
refused_by_matches names command words matches fault error is has other (inr none) =
    inr (λ task ask. none task (subst (Asks task) (sym (met names command words matches is has)) ask.asks))

module _ (names : Bor (List (Bor Text))) (words : List Text) (error : Error) (are_habits : texts names.now ≡ habit_names) (refuses : Refuses names words error) where
  -- an error that refuses the words is an answer to them
  pub refusal_is : IsAnswerTo words (Err error)
  refusal_is = record { names = names; are_habits = are_habits; task = tt; refusal = refuses }

-- an error of the same kind refuses the same words
pub same_kind : (names : Bor (List (Bor Text))) (words : List Text) (error own : Error) → kind_of own ≡ kind_of error → Refuses names words error → Refuses names words own
same_kind names words error own is (inl memory) = inl (is ∙ memory)
same_kind names words error own is (inr none) = inr none

-- ---- a number

-- if a conjunction is true, so are both of its parts
pub both : (a b : Bool) → (a && b) ≡ true → (a ≡ true) × (b ≡ true)
both true b h = (refl, h)
both false b h = absurd cc

digit : (c : ℕ) → is_ascii_digit c ≡ true → (48 ≤ c) × (c ≤ 57)
digit c h = let parts = both _ _ h in (leb-true 48 c parts.0, leb-true c 57 parts.1)

below_ten : (c : ℕ) → 48 ≤ c → c ≤ 57 → digit_value c < 10
below_ten c least most = grind arith

all_digits : (text : Text) → list_all is_ascii_digit text ≡ true → AllDigits 10 text
all_digits [] h = tt
all_digits (c ∷ cs) h =
    let parts = both (is_ascii_digit c) (list_all is_ascii_digit cs) h in
    let d = digit c parts.0 in
    (below_ten c d.0 d.1, all_digits cs parts.1)

no_plus : (text : Text) → list_all is_ascii_digit text ≡ true → without_leading_plus text ≡ text
no_plus [] h = refl
no_plus (c ∷ cs) h =
    let d = digit c (both (is_ascii_digit c) (list_all is_ascii_digit cs) h).0 in
    rw (ne_eqb c 43 (λ e. omega (arith, d.0, e))) refl

-- what `parse` refuses is no number
pub unparsed : (text : Text) → ¬ (IsNumeral 10 (without_leading_plus text) × (digits_value 10 (without_leading_plus text) < 2 ^ 64)) → (n : ℕ) → IsNumber 64 text n → ⊥
unparsed text refuses n is =
    let fits : digits_value 10 text < 2 ^ 64 = rw (← is.number) is.fits in
    refuses (rw (no_plus text is.digits) ((is.some, all_digits text is.digits), fits))

-- what fits 32 bits fits 64
pub fits_64_bits : (rows : List Row) (name : Text) (n : ℕ) → HasNumber 32 rows name n → HasNumber 64 rows name n
fits_64_bits rows name n has = by (first_of name rows) has where
  by : (given : Option Text) → IsSomeAnd given (λ text. IsNumber 32 text n) → IsSomeAnd given (λ text. IsNumber 64 text n)
  by (Some text) is = record { some = is.some; digits = is.digits; number = is.number; fits = omega (arith, is.fits) }
  by None is = is

-- ---- faults

-- a fault, as each value of the whole has a part that is this
lacks : {A B : Type 0} (IsPart : A → Type 0) (Is : B → Type 0) (fault : WordFault) → ((whole : B) → Is whole → (part : A) × IsPart part) → Faults IsPart fault → Faults Is fault
lacks IsPart Is fault part (inl memory) = inl memory
lacks IsPart Is fault part (inr none) = inr (λ whole is. let p = part whole is in none p.0 p.1)

-- the exit of a `?`
pub exits : {A B : Type 0} (IsPart : A → Type 0) (Is : B → Type 0) (answer : Result B WordFault) (fault : WordFault) → IsErrAnd answer (λ f. f ≡ fault) → ((whole : B) → Is whole → (part : A) × IsPart part) → Faults IsPart fault → Finds Is answer
exits IsPart Is (Ok b) fault is part why = absurd is
exits IsPart Is (Err f) fault is part why = record {
  value = tt;
  fault = subst (Faults Is) (sym is) (lacks IsPart Is fault part why);
}

-- what is made of a value that is there is there
pub is_some-map : {A B : Type 0} (f : A → B) (o : Option A) → is_some (option_map f o) ≡ is_some o
is_some-map f None = refl
is_some-map f (Some x) = refl

-- an option that was given has a number, if it has one or none
pub number_part : (rows : List Row) (name : Text) → is_some (first_of name rows) ≡ true → (whole : Option ℕ) → HasNumberIf rows name whole → (n : ℕ) × HasNumber 64 rows name n
number_part rows name some whole has = by (first_of name rows) some whole has where
  by : (given : Option Text) → is_some given ≡ true → (whole : Option ℕ) → MatchOption given (whole ≡ None) (λ text. IsSomeAnd whole (IsNumber 64 text)) → (n : ℕ) × IsSomeAnd given (λ text. IsNumber 64 text n)
  by None some whole has = absurd (cc some)
  by (Some text) some (Some n) has = (n, has)
  by (Some text) some None has = absurd has
