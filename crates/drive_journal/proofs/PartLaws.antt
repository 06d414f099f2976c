-- What a store holds of a change that is written in parts, where it fails.
use Rattle.std.proofs.Common.{◌≡◌, ℕ, List, ◌++◌, Option, Result, Ok, Err, append_assoc, subst, sym}
use Rattle.std.specs.Prelude.{OnErr}
use Rattle.std.specs.Io.KnownBytes.{Appends}
use Rattle.disk_files.specs.Output.{AppendsFront}
use Rattle.disk_files.proofs.OutputLaws.{front_first, front_second}
use Rattle.drive_journal.specs.Change.{Change, Sum, change_bytes, mark, next_sum, sum_bytes, sum_over}

-- what is so anyway is so after a fault
pub on-err : {T E : Type 0} (result : Result T E) (P : Type 0) → P → OnErr result P
on-err (Ok done) P p = tt
on-err (Err fault) P p = p

-- if P gives Q, and P holds after a fault, so does Q
pub err-so : {T E : Type 0} (result : Result T E) (P Q : Type 0) → (P → Q) → OnErr result P → OnErr result Q
err-so (Ok done) P Q f p = tt
err-so (Err fault) P Q f p = f p

module _ (old : Option (List ℕ)) (sum : Sum) (change : Change) where
  -- the parts of a change, from the last to the first
  abbrev seal : List ℕ
  seal = sum_bytes (next_sum sum change)

  abbrev tail : List ℕ
  tail = change.bytes ++ seal

  abbrev sealed : List ℕ
  sealed = sum_bytes (sum_over sum change.entry)

  abbrev body : List ℕ
  body = change.entry ++ (sealed ++ tail)

  in-parts : mark ++ body ≡ change_bytes sum change
  in-parts = sym (append_assoc (mark ++ change.entry) sealed tail)

  whole : (new : Option (List ℕ)) → AppendsFront old new (mark ++ body) → AppendsFront old new (change_bytes sum change)
  whole new front = subst (AppendsFront old new) in-parts front

  -- it failed at the mark
  pub cut-mark : (new : Option (List ℕ)) → AppendsFront old new mark → AppendsFront old new (change_bytes sum change)
  cut-mark new front = whole new (front_first old new mark body front)

  -- after the mark
  module _ (first : Option (List ℕ)) (marks : Appends old first mark) where
    after-mark : (new : Option (List ℕ)) → AppendsFront first new body → AppendsFront old new (change_bytes sum change)
    after-mark new front = whole new (front_second old first new mark body marks front)

    -- if the writer fails in the entry, a beginning of the change is written
    pub cut-entry : (new : Option (List ℕ)) → AppendsFront first new change.entry → AppendsFront old new (change_bytes sum change)
    cut-entry new front = after-mark new (front_first first new change.entry (sealed ++ tail) front)

    -- after the entry
    module _ (second : Option (List ℕ)) (enters : Appends first second change.entry) where
      after-entry : (new : Option (List ℕ)) → AppendsFront second new (sealed ++ tail) → AppendsFront old new (change_bytes sum change)
      after-entry new front = after-mark new (front_second first second new change.entry (sealed ++ tail) enters front)

      -- in the sum after it
      pub cut-sum : (new : Option (List ℕ)) → AppendsFront second new sealed → AppendsFront old new (change_bytes sum change)
      cut-sum new front = after-entry new (front_first second new sealed tail front)

      -- after this sum
      module _ (third : Option (List ℕ)) (seals : Appends second third sealed) where
        after-sum : (new : Option (List ℕ)) → AppendsFront third new tail → AppendsFront old new (change_bytes sum change)
        after-sum new front = after-entry new (front_second second third new sealed tail seals front)

        -- in the data
        pub cut-data : (new : Option (List ℕ)) → AppendsFront third new change.bytes → AppendsFront old new (change_bytes sum change)
        cut-data new front = after-sum new (front_first third new change.bytes seal front)

        -- in the sum after the data
        pub cut-seal : (fourth new : Option (List ℕ)) → Appends third fourth change.bytes → AppendsFront fourth new seal → AppendsFront old new (change_bytes sum change)
        cut-seal fourth new writes front = after-sum new (front_second third fourth new change.bytes seal writes front)
