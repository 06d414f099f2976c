-- What appending to a file whose first bytes are whole keeps of them.
use Rattle.std.proofs.Common.{inl, inr, ◌≡◌, ◌∙◌, ◌≤◌, ◌-◌, ◌+◌, ℕ, List, [], ◌++◌, Some, None, Result, Ok, Err, ap, arith, length, length-append, min, refl, sym, take}
use Rattle.std.specs.Prelude.{IfSome, OnErr}
use Rattle.std.specs.Io.KnownBytes.{append_known}
use Rattle.std.proofs.lemmas.List.{append-nil, length-take-le, take-append-le, take-take}
use Rattle.std.proofs.Math.Seq.{take-append-add}
use Rattle.std.proofs.lemmas.Bool.{cases_lt}
use Rattle.drive_journal.specs.Cut.{front_of}
use Rattle.disk_files.specs.Input.{Known}
use Rattle.job_drives.specs.Backing.{FileState}

-- the first bytes stay, where more are appended
pub appended-front : (whole : ℕ) (bytes : Known) (more : List ℕ) → IfSome bytes (λ b. whole ≤ length b) → front_of whole (append_known bytes more) ≡ front_of whole bytes
appended-front whole None more within = refl
appended-front whole (Some bytes) more within = ap Some (take-append-le whole bytes more within)

pub front-kept : (whole : ℕ) (old new : FileState) (more : List ℕ) → IfSome old.bytes (λ b. whole ≤ length b) → new ≡ record old { bytes = append_known old.bytes more }
    → front_of whole new.bytes ≡ front_of whole old.bytes
front-kept whole old new more within same = rw same (appended-front whole old.bytes more within)

-- and are there
pub appended-within : (whole : ℕ) (bytes : Known) (more : List ℕ) → IfSome bytes (λ b. whole ≤ length b) → IfSome (append_known bytes more) (λ b. whole ≤ length b)
appended-within whole None more within = tt
appended-within whole (Some bytes) more within = omega (arith, within, length-append bytes more)

-- the first ones of some bytes and others after them
cut-bytes : (whole old : ℕ) (bytes gathered : List ℕ) → old ≤ length bytes → take (min old whole) bytes ++ take (whole - old) gathered ≡ take whole (take old bytes ++ gathered)
cut-bytes whole old bytes gathered within = elim (cases_lt whole old) as (λ _. take (min old whole) bytes ++ take (whole - old) gathered ≡ take whole (take old bytes ++ gathered)) [
  | inl less ↦
      let none : whole - old ≡ 0 = omega (arith, less) in
      let least : min old whole ≡ whole = omega (arith, less) in
      rw (none, least, append-nil (take whole bytes), take-append-le whole (take old bytes) gathered (omega (arith, less, within, length-take-le old bytes within)), take-take whole old bytes (omega (arith, less))) refl
  | inr more ↦
      let least : min old whole ≡ old = omega (arith, more) in
      let long : whole ≡ length (take old bytes) + (whole - old) = omega (arith, more, within, length-take-le old bytes within) in
      rw least (sym (ap (λ n. take n (take old bytes ++ gathered)) long ∙ take-append-add (take old bytes) gathered (whole - old)))
]

pub cut-held : (whole old : ℕ) (bytes : Known) (gathered : List ℕ) → IfSome bytes (λ b. old ≤ length b)
    → append_known (front_of (min old whole) bytes) (take (whole - old) gathered) ≡ front_of whole (append_known (front_of old bytes) gathered)
cut-held whole old None gathered within = refl
cut-held whole old (Some bytes) gathered within = ap Some (cut-bytes whole old bytes gathered within)

-- what is so is so after a fault
pub if-err : {A E : Type 0} (result : Result A E) (P : Type 0) → P → OnErr result P
if-err (Ok done) P p = tt
if-err (Err fault) P p = p
