-- What words ask of a tool, and what refutes it.
use Rattle.std.proofs.Common.{◌≡◌, ◌≢◌, ◌∙◌, ◌++◌, ◌==◌, ℕ, List, [], ◌∷◌, Bool, true, false, ap, sym, refl, Option, Some, None, codes}
use Rattle.std.specs.Char.{is_ascii_digit}
use Rattle.std.specs.Str.{bytes_eq}
use Rattle.std.specs.Prelude.{IfNone, IfSome}
use Rattle.std.proofs.lemmas.Bool.{eqb-true}
use Rattle.std.proofs.lemmas.List.{append-nil}
use Rattle.std.specs.List.{list_all}
use Rattle.clap.specs.Words.{Row, Text}
use Rattle.tool_jobs.specs.declared.showing.ZonesForm.{ZonesForm}
use Rattle.tool_jobs.specs.declared.job.ToolJob.TheVariants as tools
use Rattle.disk_jobs.specs.declared.job.Job.TheVariants as jobs
use Rattle.asked_tasks.specs.declared.task.Task.{Task}
use Rattle.asked_tasks.specs.declared.task.Task.TheVariants.{Lines, Nbd, Copy, Tool}
use Rattle.asked_tasks.specs.declared.task.Task.TheVariants as tasks
use Rattle.disk_copies.specs.declared.job.CopyJob.TheVariants as copies
use Rattle.asked_tasks.specs.ToolWords.{HasZonesForm, SaysBytes, SaysBytesIn, letter_unit, unit_of}
use Rattle.asked_tasks.specs.Words.{AsksForFile}
use Rattle.asked_tasks.proofs.WordLaws.{both}

-- texts that differ
unlike : (s t : Text) → bytes_eq s t ≡ false → bytes_eq t t ≡ true → s ≡ t → ⊥
unlike s t other same is = absurd (cc (sym other ∙ ap (λ u. bytes_eq u t) is ∙ same))

-- a report of each form has that form
pub report-form : (rows : List Row) (task : Task) → AsksForFile (codes "report") rows task → (form : Option ZonesForm) × HasZonesForm rows form
report-form rows (Lines (jobs.Report path)) asks = (None, asks.2)
report-form rows (Lines (jobs.Format path geometry force)) asks = absurd (unlike (codes "report") (codes "format") refl refl asks.0)
report-form rows (Lines (jobs.Run path blocks zones statistics stop habit sync read_only progress)) asks = absurd (unlike (codes "report") (codes "run") refl refl asks.0)
report-form rows (Lines (jobs.Nvme path explain habit sync)) asks = absurd (unlike (codes "report") (codes "nvme") refl refl asks.0)
report-form rows (Lines (jobs.Fresh geometry blocks report statistics stop habit)) asks = absurd (unlike (codes "report") (codes "fresh") refl refl asks.0)
report-form rows (Lines (jobs.FreshRaw geometry habit)) asks = absurd (unlike (codes "report") (codes "fresh-raw") refl refl asks.0)
report-form rows (tasks.Convert job) asks = absurd (unlike (codes "report") (codes "convert") refl refl asks.0)
report-form rows (tasks.Rescue job) asks = absurd (unlike (codes "report") (codes "rescue") refl refl asks.0)
report-form rows (tasks.Repair job) asks = absurd (unlike (codes "report") (codes "repair") refl refl asks.0)
report-form rows (tasks.Device job) asks = absurd (unlike (codes "report") (codes "format") refl refl asks.0)
report-form rows (Nbd job) asks = absurd (unlike (codes "report") (codes "nbd") refl refl asks.0)
report-form rows (Copy (copies.Export job)) asks = absurd (unlike (codes "report") (codes "export") refl refl asks.0)
report-form rows (Copy (copies.Import job)) asks = absurd (unlike (codes "report") (codes "import") refl refl asks.0)
report-form rows (Tool (tools.Check job)) asks = absurd (unlike (codes "report") (codes "check") refl refl asks.0)
report-form rows (Tool (tools.Info job)) asks = absurd (unlike (codes "report") (codes "info") refl refl asks.0)
report-form rows (Tool (tools.Plan job)) asks = absurd (unlike (codes "report") (codes "plan") refl refl asks.0)
report-form rows (Tool (tools.Format bytes)) asks = absurd (unlike (codes "report") (codes "plan") refl refl asks.0)
report-form rows (Tool (tools.Zones job)) asks = (Some job.form, asks.2)
report-form rows (Tool (tools.Entry words)) asks = absurd (unlike (codes "report") (codes "entry") refl refl asks.0)

-- ---- a number of bytes

-- the last of digits is one
last-digit : (front : Text) (x : ℕ) → list_all is_ascii_digit (front ++ x ∷ []) ≡ true → is_ascii_digit x ≡ true
last-digit [] x all = (both (is_ascii_digit x) true all).0
last-digit (y ∷ front) x all = last-digit front x (both (is_ascii_digit y) (list_all is_ascii_digit (front ++ x ∷ [])) all).1

-- texts that are the same end alike
same-end : (front other : Text) (x y : ℕ) → front ++ x ∷ [] ≡ other ++ y ∷ [] → (front ≡ other) × (x ≡ y)
same-end [] [] x y is = (refl, cc is)
same-end [] (b ∷ []) x y is = absurd (cc is)
same-end [] (b ∷ c ∷ other) x y is = absurd (cc is)
same-end (a ∷ []) [] x y is = absurd (cc is)
same-end (a ∷ c ∷ front) [] x y is = absurd (cc is)
same-end (a ∷ front) (b ∷ other) x y is =
    let rest : front ++ x ∷ [] ≡ other ++ y ∷ [] = cc is in
    let first : a ≡ b = cc is in
    let same = same-end front other x y rest in
    (rw (first, same.0) refl, same.1)

-- a size that ends with a letter of a unit is a number in that unit
pub lettered : (text front : Text) (x unit : ℕ) → text ≡ front ++ x ∷ [] → letter_unit x ≡ Some unit → is_ascii_digit x ≡ false
    → ((bytes : ℕ) → SaysBytesIn unit front bytes → ⊥) → (bytes : ℕ) → SaysBytes text bytes → ⊥
lettered text front x unit ends unit_is other none bytes size = by size.letter size.spelled size.is_unit where
  by : (letter : Text) → text ≡ size.digits ++ letter → unit_of letter ≡ Some size.unit → ⊥
  by [] spelled is =
      let same : size.digits ≡ front ++ x ∷ [] = sym (append-nil size.digits) ∙ sym spelled ∙ ends in
      let digit = last-digit front x (rw same at size.is_size.is_number.digits) in
      absurd (cc (sym digit ∙ other))
  by (y ∷ []) spelled is =
      let same = same-end front size.digits x y (sym ends ∙ spelled) in
      let units : unit ≡ size.unit = cc (sym unit_is ∙ ap letter_unit same.1 ∙ is) in
      none bytes (rw (units, same.0) size.is_size)
  by (y ∷ z ∷ rest) spelled is = absurd (cc is)

-- a size that ends with no letter of a unit is a number of bytes
pub unlettered : (text : Text) → ((front : Text) → text ≢ front ++ 75 ∷ []) → ((front : Text) → text ≢ front ++ 77 ∷ [])
    → ((front : Text) → text ≢ front ++ 71 ∷ []) → ((front : Text) → text ≢ front ++ 84 ∷ [])
    → ((bytes : ℕ) → SaysBytesIn 1 text bytes → ⊥) → (bytes : ℕ) → SaysBytes text bytes → ⊥
unlettered text no_k no_m no_g no_t none bytes size = by size.letter size.spelled size.is_unit where
  by-letter : (y : ℕ) (k m g t : Bool) → (y == 75) ≡ k → (y == 77) ≡ m → (y == 71) ≡ g → (y == 84) ≡ t → text ≡ size.digits ++ y ∷ [] → letter_unit y ≡ Some size.unit → ⊥
  by-letter y true m g t ik im ig it spelled is = no_k size.digits (rw (eqb-true y 75 ik) at spelled)
  by-letter y false true g t ik im ig it spelled is = no_m size.digits (rw (eqb-true y 77 im) at spelled)
  by-letter y false false true t ik im ig it spelled is = no_g size.digits (rw (eqb-true y 71 ig) at spelled)
  by-letter y false false false true ik im ig it spelled is = no_t size.digits (rw (eqb-true y 84 it) at spelled)
  by-letter y false false false false ik im ig it spelled is = absurd (cc (rw (ik, im, ig, it) at is))

  by : (letter : Text) → text ≡ size.digits ++ letter → unit_of letter ≡ Some size.unit → ⊥
  by [] spelled is =
      let same : size.digits ≡ text = sym (append-nil size.digits) ∙ sym spelled in
      let unit : size.unit ≡ 1 = cc is in
      none bytes (rw (unit, same) at size.is_size)
  by (y ∷ []) spelled is = by-letter y (y == 75) (y == 77) (y == 71) (y == 84) refl refl refl refl spelled is
  by (y ∷ z ∷ rest) spelled is = absurd (cc is)

-- if P gives Q, and P holds of a result that is None, so does Q
pub none-mapped : {A P Q : Type 0} (result : Option A) → (P → Q) → IfNone result P → IfNone result Q
none-mapped (Some x) f h = tt
none-mapped None f h = f h

-- if P gives Q, and P holds of the value of a result, so does Q
pub some-mapped : {A : Type 0} {P Q : A → Type 0} (result : Option A) → ((x : A) → P x → Q x) → IfSome result P → IfSome result Q
some-mapped (Some x) f h = f x h
some-mapped None f h = tt

-- a number of bytes has no letter
pub of-bytes : (text : Text) (bytes : ℕ) → SaysBytesIn 1 text bytes → SaysBytes text bytes
of-bytes text bytes is = record { digits = text; letter = []; unit = 1; spelled = sym (append-nil text); is_unit = refl; is_size = is }
