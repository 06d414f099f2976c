-- A run continues by one line, ends, and stops.
use Rattle.std.proofs.Common.{◌≡◌, ◌≢◌, ℕ, ◌+◌, ◌<◌, ◌≤◌, true, false, List, [], ◌∷◌, ◌++◌, length, take, Some, None, Ok, Err, inl, inr, refl, sym, ap, subst, ◌∙◌, arith, append_assoc}
use Rattle.std.specs.Prelude.{Bool, IsErrAnd, IsErrOf, Result, ◌↔◌}
use Rattle.std.proofs.lemmas.Bool.{cases_lt}
use Rattle.std.specs.Io.KnownBytes.{Appends}
use Rattle.std.proofs.lemmas.List.{append-nil, length-append}
use Rattle.disk_files.specs.Line.{ReadsLine, TakesLine, after_line, first_line}
use Rattle.disk_files.specs.Output.{AppendsFront}
use Rattle.disk_files.specs.declared.line_reader.TheConstants.{LONGEST_LINE}
use Rattle.disk_files.specs.declared.line_reader.LineFault.{LineFault}
use Rattle.disk_files.specs.declared.line_reader.LineFault.TheVariants as lines
use Rattle.disk_runs.specs.Run.{AnswersAll, AtLine, Exchange, HasRead, IsAnswered, IsLine, IsNextLine, IsNextLong, Known, Language, LineStops, Ran, ReadsAll, Runs, StopsEarly, StopsAt, TakesLines, exchange, line_fault}
use Rattle.disk_runs.specs.declared.fault.RunFault.{RunFault}
use Rattle.disk_runs.specs.declared.fault.RunFault.TheVariants as runs
use Rattle.disk_runs.specs.declared.fault.RunFault.TheVariants.{Line, Long, Disk, Mount, Input, Output, Memory}

-- ---- what was read

TakesLines-more : (lines : List (List ℕ)) (bytes rest line : List ℕ) → TakesLines bytes lines rest → rest ≢ [] → line ≡ first_line rest → TakesLines bytes (lines ++ line ∷ []) (after_line rest)
TakesLines-more [] bytes rest line p some e = (λ none. some (sym p ∙ none), e ∙ ap first_line (sym p), ap after_line p)
TakesLines-more (l ∷ ls) bytes rest line p some e = (p.0, p.1, TakesLines-more ls (after_line bytes) rest line p.2 some e)

-- a line was taken from the rest
pub record Taken (rest line : List ℕ) (new : Known) : Type 0 where
  pub some : rest ≢ []
  pub line_is : line ≡ first_line rest
  pub left_is : new ≡ Some (after_line rest)

taken_line : (rest line : List ℕ) (old new : Known) → old ≡ Some rest → ReadsLine old new line (Ok true) → Taken rest line new
taken_line rest line None new e r = absurd cc
taken_line rest line (Some xs) None e r = absurd r
taken_line rest line (Some xs) (Some ys) e r =
    let same : xs ≡ rest = cc in
    let takes : TakesLine rest ys line = rw (← same) r in
    record { some = takes.some; line_is = takes.line_is; left_is = ap (λ (zs : List ℕ). Some zs) takes.rest_is }

ended : (rest line : List ℕ) (old new : Known) → old ≡ Some rest → ReadsLine old new line (Ok false) → rest ≡ []
ended rest line None new e r = absurd cc
ended rest line (Some xs) None e r = absurd r
ended rest line (Some xs) (Some ys) e r = let same : xs ≡ rest = cc in sym same ∙ r.0

read_none : (input : Known) → HasRead input [] input
read_none None = tt
read_none (Some input) = (input, refl, refl)

read_more : (input left left' : Known) (lines : List (List ℕ)) (line : List ℕ) → HasRead input lines left → ReadsLine left left' line (Ok true) → HasRead input (lines ++ line ∷ []) left'
read_more None left left' lines line h r = tt
read_more (Some input) left left' lines line h r =
    let t = taken_line h.0 line left left' h.2 r in
    (after_line h.0, TakesLines-more lines input h.0 line h.1 t.some t.line_is, t.left_is)

read_all : (input left left' : Known) (lines : List (List ℕ)) (line : List ℕ) → HasRead input lines left → ReadsLine left left' line (Ok false) → ReadsAll input lines
read_all None left left' lines line h r = tt
read_all (Some input) left left' lines line h r = let none = ended h.0 line left left' h.2 r in rw none at h.1

is_next : (left left' : Known) (line : List ℕ) → ReadsLine left left' line (Ok true) → IsNextLine left line
is_next None left' line r = tt
is_next (Some rest) None line r = absurd r
is_next (Some rest) (Some after) line r = (r.some, r.line_is)

is_long : (left left' : Known) (line : List ℕ) → ReadsLine left left' line (Err lines.Long) → IsNextLong left
is_long None left' line r = tt
is_long (Some rest) None line r = absurd r
is_long (Some rest) (Some after) line r = r.1

-- a line that was read is not too long
pub short_line : (line : List ℕ) (read : Bool) (result : Result Bool LineFault) → result ≡ Ok read → (IsErrOf result lines.Long ↔ (LONGEST_LINE < length line)) → length line ≤ LONGEST_LINE
short_line line read result is long = elim (cases_lt LONGEST_LINE (length line)) [
  | inl more ↦
      let bad : Ok read ≡ Err lines.Long = rw is at long.1 more in
      absurd (cc)
  | inr le ↦ le
]

-- ---- what was answered

AnswersAll-more : {S : Type 0} (language : Language S) (lines : List (List ℕ)) (line reply text : List ℕ) (old middle new : S)
    → AnswersAll language old lines text middle → IsLine language middle line → language.Answers middle line reply new → AnswersAll language old (lines ++ line ∷ []) (text ++ reply) new
AnswersAll-more language [] line reply text old middle new p is_line a = record {
  reply = reply;
  after = [];
  middle = new;
  is_line = rw p.1 at is_line;
  answers = rw p.1 at a;
  rest = (refl, refl);
  text_is = ap (λ (xs : List ℕ). xs ++ reply) p.0 ∙ sym (append-nil reply);
}
AnswersAll-more language (l ∷ ls) line reply text old middle new p is_line a = record {
  reply = p.reply;
  after = p.after ++ reply;
  middle = p.middle;
  is_line = p.is_line;
  answers = p.answers;
  rest = AnswersAll-more language ls line reply p.after p.middle middle new p.rest is_line a;
  text_is = ap (λ (xs : List ℕ). xs ++ reply) p.text_is ∙ append_assoc p.reply p.after reply;
}

-- ---- what was written

-- nothing
appends_none : (a : Known) → Appends a a []
appends_none None = tt
appends_none (Some a) = sym (append-nil a)

appends_more : (a b c : Known) (x y : List ℕ) → Appends a b x → Appends b c y → Appends a c (x ++ y)
appends_more None b c x y p q = tt
appends_more (Some a) None c x y p q = absurd p
appends_more (Some a) (Some b) None x y p q = absurd q
appends_more (Some a) (Some b) (Some c) x y p q = q ∙ ap (λ (xs : List ℕ). xs ++ y) p ∙ append_assoc a x y

-- ---- a run

-- some lines were read and answered, the rest is still to be read, and its first line has this number
pub record SoFar {S : Type 0} (language : Language S) (bytes : Exchange) (old : S) (number : ℕ) (left : Known) (new : S) : Type 0 where
  pub lines : List (List ℕ)
  pub text : List ℕ
  pub read : HasRead bytes.input lines left
  pub answered : AnswersAll language old lines text new
  pub number_is : number ≡ length lines + 1
  pub written : Appends bytes.written bytes.contents text

-- no line was read yet
pub begins : {S : Type 0} (language : Language S) (input written : Known) (state : S) → SoFar language (exchange input written written) state 1 input state
begins language input written state = record {
  lines = [];
  text = [];
  read = read_none input;
  answered = (refl, refl);
  number_is = refl;
  written = appends_none written;
}

-- one line more was answered
pub goes_on : {S : Type 0} (language : Language S) (input written : Known) (old : S) (number : ℕ) (left left' contents contents' : Known) (line reply : List ℕ) (middle new : S)
    → ReadsLine left left' line (Ok true) → IsLine language middle line → language.Answers middle line reply new → Appends contents contents' reply
    → SoFar language (exchange input written contents) old number left middle → SoFar language (exchange input written contents') old (number + 1) left' new
goes_on language input written old number left left' contents contents' line reply middle new r is_line answers w s = record {
  lines = s.lines ++ line ∷ [];
  text = s.text ++ reply;
  read = read_more input left left' s.lines line s.read r;
  answered = AnswersAll-more language s.lines line reply s.text old middle new s.answered is_line answers;
  number_is = omega (arith, s.number_is, length-append s.lines (line ∷ []));
  written = appends_more written contents contents' s.text reply s.written w;
}

-- no line is left
pub ends : {S : Type 0} (language : Language S) (bytes : Exchange) (old : S) (number : ℕ) (left left' : Known) (line : List ℕ) (new : S)
    → ReadsLine left left' line (Ok false) → SoFar language bytes old number left new → Ran language bytes old new
ends language bytes old number left left' line new r s =
    record { lines = s.lines; text = s.text; read = read_all bytes.input left left' s.lines line s.read r; answered = s.answered; written = s.written }

-- the run stops before anything of the reply is written
pub stops : {S : Type 0} (language : Language S) (bytes : Exchange) (old : S) (number : ℕ) (left : Known) (middle new : S) (fault : RunFault)
    → StopsAt language fault left number middle [] new → SoFar language bytes old number left middle → StopsEarly language bytes old fault new
stops language bytes old number left middle new fault why s = record {
  lines = s.lines;
  left = left;
  text = s.text;
  shown = [];
  middle = middle;
  read = s.read;
  answered = s.answered;
  written = subst (λ (t : List ℕ). Appends bytes.written bytes.contents t) (sym (append-nil s.text)) s.written;
  stops = subst (λ (n : ℕ). StopsAt language fault left n middle [] new) s.number_is why;
}

-- the writer fails within the reply
pub stops_writing : {S : Type 0} (language : Language S) (input written : Known) (old : S) (number : ℕ) (left left' contents contents' : Known) (line reply : List ℕ) (middle new : S)
    → ReadsLine left left' line (Ok true) → IsLine language middle line → language.Answers middle line reply new → AppendsFront contents contents' reply
    → SoFar language (exchange input written contents) old number left middle → StopsEarly language (exchange input written contents') old Output new
stops_writing language input written old number left left' contents contents' line reply middle new r is_line answers a s = record {
  lines = s.lines;
  left = left;
  text = s.text;
  shown = take a.count reply;
  middle = middle;
  read = s.read;
  answered = s.answered;
  written = appends_more written contents contents' s.text (take a.count reply) s.written a.appends;
  stops = record {
    line = line;
    next = is_next left left' line r;
    is_line = is_line;
    does = record { reply = reply; count = a.count; answers = answers; short = a.short; shown_is = refl };
  };
}

-- ---- why a run stops

-- if no line was read
pub not_read : {S : Type 0} (language : Language S) (same : (x : S) → language.Same x x) (state : S) (left left' : Known) (line : List ℕ) (number : ℕ) (fault : LineFault) (ends : RunFault)
    → ReadsLine left left' line (Err fault) → ends ≡ line_fault number fault → StopsAt language ends left number state [] state
not_read language same state left left' line number lines.Long ends r is = rw is (refl, is_long left left' line r, refl, refl)
not_read language same state left left' line number lines.Input ends r is = rw is (refl, refl)
not_read language same state left left' line number lines.Memory ends r is = rw is (refl, same state)

refused_at : {S : Type 0} (language : Language S) (old : S) (left left' : Known) (line : List ℕ) (Refused : List ℕ → Type 0) → ReadsLine left left' line (Ok true) → length line ≤ LONGEST_LINE → (language.is_legal old line ≡ true) × Refused line
    → (◌≡◌ {A = List ℕ} [] []) × AtLine language left old Refused
refused_at language old left left' line Refused r short why = (refl, record { line = line; next = is_next left left' line r; is_line = record { short = short; legal = why.0 }; does = why.1 })

-- where the line was read, and has no reply
pub not_answered : {S : Type 0} (language : Language S) (old new : S) (left left' : Known) (line : List ℕ) (number : ℕ) (ends : RunFault)
    → ReadsLine left left' line (Ok true) → length line ≤ LONGEST_LINE → LineStops language number old line ends new → StopsAt language ends left number old [] new
not_answered language old new left left' line number (Line m) r short why = (why.0, record { line = line; next = is_next left left' line r; short = short; wrong = why.1 }, refl, why.2)
not_answered language old new left left' line number Memory r short why = (refl, why)
not_answered language old new left left' line number (Disk fault) r short why = refused_at language old left left' line (λ l. language.Refuses old l (Disk fault) new) r short why
not_answered language old new left left' line number (Mount fault) r short why = refused_at language old left left' line (λ l. language.Refuses old l (Mount fault) new) r short why
not_answered language old new left left' line number (runs.Geometry fault) r short why = refused_at language old left left' line (λ l. language.Refuses old l (runs.Geometry fault) new) r short why
not_answered language old new left left' line number (Long m) r short why = absurd why
not_answered language old new left left' line number Input r short why = absurd why
not_answered language old new left left' line number Output r short why = absurd why

-- a line that was answered is one of the language
pub line_of : {S : Type 0} (language : Language S) (old new : S) (line reply : List ℕ) → length line ≤ LONGEST_LINE → IsAnswered language old line reply new → IsLine language old line
line_of language old new line reply short answered = record { short = short; legal = answered.legal }

-- a fault that is handed on ends the run
pub run_fault : {S : Type 0} (language : Language S) (bytes : Exchange) (old : S) (result : Result (Unit {0}) RunFault) (fault : RunFault) (new : S)
    → IsErrAnd result (λ e. e ≡ fault) → StopsEarly language bytes old fault new → Runs language bytes old result new
run_fault language bytes old (Ok done) fault new is s = absurd is
run_fault language bytes old (Err e) fault new is s = subst (λ (f : RunFault). StopsEarly language bytes old f new) (sym is) s
