-- Runs of lines: each line of a reader is answered, in order, and the replies are what a writer gets.
use Rattle.std.specs.Prelude.{◌≡◌, ◌≢◌, ℕ, ◌+◌, ◌<◌, ◌≤◌, Bool, true, false, List, [], ◌∷◌, ◌++◌, length, take, Some}
use Rattle.std.specs.Prelude.{None, Result, Ok, Err, IsTrue, ⊤}
use Rattle.std.specs.Io.KnownBytes.{Appends}
pub use Rattle.disk_files.specs.Input.{Known}
use Rattle.disk_files.specs.Line.{after_line, first_line}
use Rattle.disk_files.specs.declared.line_reader.TheConstants.{LONGEST_LINE}
use Rattle.disk_files.specs.declared.line_reader.LineFault.{LineFault}
use Rattle.disk_files.specs.declared.line_reader.LineFault.TheVariants as lines
use Rattle.disk_runs.specs.declared.fault.RunFault.{RunFault}
use Rattle.disk_runs.specs.declared.fault.RunFault.TheVariants.{Line, Long, Input, Output, Memory}

-- what a run goes by: the bytes that its reader had left, and those that its writer held before it and after it
pub record Exchange : Type 0 where
  pub input : Known
  pub written : Known
  pub contents : Known

abbrev pub exchange : Known → Known → Known → Exchange
exchange input written contents = record { input = input; written = written; contents = contents }

-- ---- what lines mean

-- What lines mean to something that has a state: which are in the grammar; what each replies, and to which state it
-- leads; by what it may be refused, and where that leads; and which states a line leads to of which nothing came.
pub record Language (S : Type 0) : Type 1 where
  pub is_legal : S → List ℕ → Bool
  pub Answers : S → List ℕ → List ℕ → S → Type 0
  pub Refuses : S → List ℕ → RunFault → S → Type 0
  pub Same : S → S → Type 0

-- Something is done. It is this in any case. As long as something holds of the state, which once lost does not come
-- back, it is that, too.
pub record AsLongAs {S : Type 0} (holds : S → Bool) (old : S) (Always Does : Type 0) (new : S) : Type 0 where
  pub before : IsTrue (holds new) → IsTrue (holds old)
  pub always : Always
  pub does : IsTrue (holds new) → Does

-- The lines of a language, of which it is promised what they do as long as something holds. What another language says
-- of them is promised in any case.
abbrev pub while : {S : Type 0} → (S → Bool) → Language S → Language S → Language S
while holds always language = record {
  is_legal = language.is_legal;
  Answers =
      λ old line reply new. AsLongAs holds old (always.Answers old line reply new)
      (language.Answers old line reply new) new;
  Refuses =
      λ old line fault new. AsLongAs holds old (always.Refuses old line fault new)
      (language.Refuses old line fault new) new;
  Same = λ old new. AsLongAs holds old (always.Same old new) (language.Same old new) new;
}

-- a line that may be answered
pub record IsLine {S : Type 0} (language : Language S) (state : S) (line : List ℕ) : Type 0 where
  pub short : length line ≤ LONGEST_LINE
  pub legal : language.is_legal state line ≡ true

-- one line is answered, and what follows it is done from where it led
pub record AnswersFirst {S : Type 0} (language : Language S) (old : S) (line text : List ℕ)
    (Rest : S → List ℕ → Type 0) : Type 0 where
  pub reply : List ℕ
  pub after : List ℕ
  pub middle : S
  pub is_line : IsLine language old line
  pub answers : language.Answers old line reply middle
  pub rest : Rest middle after
  pub text_is : text ≡ reply ++ after

-- the lines are answered one after the other, by this text in all
abbrev pub AnswersAll : {S : Type 0} → Language S → S → List (List ℕ) → List ℕ → S → Type 0
AnswersAll language old [] text new = (text ≡ []) × (new ≡ old)
AnswersAll language old (line ∷ lines) text new =
    AnswersFirst language old line text (λ middle after. AnswersAll language middle lines after new)

-- a line that was read is answered
pub record IsAnswered {S : Type 0} (language : Language S) (old : S) (line reply : List ℕ) (new : S) : Type 0 where
  pub legal : language.is_legal old line ≡ true
  pub answers : language.Answers old line reply new

-- why a line of this number, which was read, has no reply
abbrev pub LineStops : {S : Type 0} → Language S → ℕ → S → List ℕ → RunFault → S → Type 0
LineStops language number old line (Line m) new = (m ≡ number) × (language.is_legal old line ≡ false) × (new ≡ old)
LineStops language number old line (Long m) new = ⊥
LineStops language number old line Input new = ⊥
LineStops language number old line Output new = ⊥
LineStops language number old line Memory new = language.Same old new
LineStops language number old line fault new = (language.is_legal old line ≡ true) × language.Refuses old line fault new

-- what the fault of a line that was not read is to a run
abbrev pub line_fault : ℕ → LineFault → RunFault
line_fault number lines.Long = Long number
line_fault number lines.Input = Input
line_fault number lines.Memory = Memory

-- ---- what is read

-- these are the first lines of the bytes, and the rest is what follows them
abbrev pub TakesLines : List ℕ → List (List ℕ) → List ℕ → Type 0
TakesLines bytes [] rest = bytes ≡ rest
TakesLines bytes (line ∷ lines) rest =
    (bytes ≢ []) × (line ≡ first_line bytes) × TakesLines (after_line bytes) lines rest

-- these are the first lines of what a reader had left, and this is what it has left after them, where that is known
abbrev pub HasRead : Known → List (List ℕ) → Known → Type 0
HasRead None lines left = ⊤
HasRead (Some input) lines left = (rest : List ℕ) × TakesLines input lines rest × (left ≡ Some rest)

-- these are all the lines
abbrev pub ReadsAll : Known → List (List ℕ) → Type 0
ReadsAll None lines = ⊤
ReadsAll (Some input) lines = TakesLines input lines []

-- this is the first line of what is left
abbrev pub IsNextLine : Known → List ℕ → Type 0
IsNextLine None line = ⊤
IsNextLine (Some rest) line = (rest ≢ []) × (line ≡ first_line rest)

-- the first line of what is left is too long
abbrev pub IsNextLong : Known → Type 0
IsNextLong None = ⊤
IsNextLong (Some rest) = LONGEST_LINE < length (first_line rest)

-- ---- a run

-- every line is answered
pub record Ran {S : Type 0} (language : Language S) (bytes : Exchange) (old new : S) : Type 0 where
  pub lines : List (List ℕ)
  pub text : List ℕ
  pub read : ReadsAll bytes.input lines
  pub answered : AnswersAll language old lines text new
  pub written : Appends bytes.written bytes.contents text

-- a line that may be answered is the next one, and this is done with it
pub record AtLine {S : Type 0} (language : Language S) (left : Known) (old : S) (Does : List ℕ → Type 0) : Type 0 where
  pub line : List ℕ
  pub next : IsNextLine left line
  pub is_line : IsLine language old line
  pub does : Does line

-- a line that is not in the grammar is the next one
pub record AtWrongLine {S : Type 0} (language : Language S) (left : Known) (old : S) : Type 0 where
  pub line : List ℕ
  pub next : IsNextLine left line
  pub short : length line ≤ LONGEST_LINE
  pub wrong : language.is_legal old line ≡ false

-- a beginning of a line's reply, and not all of it
pub record IsBeginning {S : Type 0} (language : Language S) (old : S) (line shown : List ℕ) (new : S) : Type 0 where
  pub reply : List ℕ
  pub count : ℕ
  pub answers : language.Answers old line reply new
  pub short : count < length reply
  pub shown_is : shown ≡ take count reply

-- Why a run stops at the line of this number, which is the first of what is left. What is shown of its reply is
-- written, and the old state has become the new one. Where memory ran out, nothing came of the line.
abbrev pub StopsAt : {S : Type 0} → Language S → RunFault → Known → ℕ → S → List ℕ → S → Type 0
StopsAt language (Line m) left number old shown new =
    (m ≡ number) × AtWrongLine language left old × (shown ≡ []) × (new ≡ old)
StopsAt language (Long m) left number old shown new = (m ≡ number) × IsNextLong left × (shown ≡ []) × (new ≡ old)
StopsAt language Input left number old shown new = (shown ≡ []) × (new ≡ old)
StopsAt language Output left number old shown new =
    AtLine language left old (λ line. IsBeginning language old line shown new)
StopsAt language Memory left number old shown new = (shown ≡ []) × language.Same old new
StopsAt language fault left number old shown new =
    (shown ≡ []) × AtLine language left old (λ line. language.Refuses old line fault new)

-- some lines are answered, and of the next at most a beginning of its reply is written
pub record StopsEarly {S : Type 0} (language : Language S) (bytes : Exchange) (old : S) (fault : RunFault)
    (new : S) : Type 0 where
  pub lines : List (List ℕ)
  pub left : Known
  pub text : List ℕ
  pub shown : List ℕ
  pub middle : S
  pub read : HasRead bytes.input lines left
  pub answered : AnswersAll language old lines text middle
  pub written : Appends bytes.written bytes.contents (text ++ shown)
  pub stops : StopsAt language fault left (length lines + 1) middle shown new

-- how a run ends
abbrev pub Runs : {S : Type 0} → Language S → Exchange → S → Result (Unit {0}) RunFault → S → Type 0
Runs language bytes old (Ok done) new = Ran language bytes old new
Runs language bytes old (Err fault) new = StopsEarly language bytes old fault new
