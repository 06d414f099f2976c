-- What a host and a disk say to each other.
use Rattle.std.specs.Prelude.{◌≡◌, Bool, false, IsTrue, List, [], ◌∷◌, ◌++◌, ℕ, Option, Some, None, Result}
use Rattle.zone_translator.specs.View.{DiskView}
use Rattle.disk_calls.specs.declared.call.Asked.{Asked}
use Rattle.disk_calls.specs.declared.call.CallFault.{CallFault}
use Rattle.disk_calls.specs.declared.call.Extent.{Extent}

-- what passes in one call: the bytes that the host gives, the bytes and the extents that it is shown, whether it wants no
-- more extents, and the disks that it looks at
pub record Passed : Type 0 where
  pub given : List ℕ
  pub shown : List ℕ
  pub extents : List Extent
  pub enough : Bool
  pub seen : List DiskView

abbrev pub nothing : Passed
nothing = record { given = []; shown = []; extents = []; enough = false; seen = [] }

-- a call that was answered
pub record Exchange : Type 0 where
  pub asked : Asked
  pub passed : Passed
  pub told : Result (Unit {0}) CallFault

-- What was said so far: the calls that were answered, oldest first; then the one that is asked now, or none, and what has
-- passed in it. That counts only while it is known. A host that keeps it in memory may lose count.
pub record Talk : Type 0 where
  pub past : List Exchange
  pub asked : Option Asked
  pub passed : Passed
  pub known : Bool

-- what was said becomes this, if it still is known
abbrev pub Becomes : Talk → Talk → Talk → Type 0
Becomes old next new = IsTrue new.known → IsTrue old.known × (new ≡ next)

-- the calls that were answered once this one is
abbrev pub with_answer : List Exchange → Option Asked → Passed → Result (Unit {0}) CallFault → List Exchange
with_answer past None passed told = past
with_answer past (Some asked) passed told = past ++ (record { asked = asked; passed = passed; told = told }) ∷ []

-- the call that was asked is answered, and the next one is asked
abbrev pub turned : Talk → Result (Unit {0}) CallFault → Option Asked → Talk
turned talk told next =
    record talk { past = with_answer talk.past talk.asked talk.passed told; asked = next; passed = nothing }

-- more bytes are shown, and more are given
abbrev pub shown_more : Talk → List ℕ → Talk
shown_more talk bytes = record talk { passed = record talk.passed { shown = talk.passed.shown ++ bytes } }

abbrev pub given_more : Talk → List ℕ → Talk
given_more talk bytes = record talk { passed = record talk.passed { given = talk.passed.given ++ bytes } }

-- the host looks at a disk
abbrev pub looked_at : Talk → DiskView → Talk
looked_at talk disk = record talk { passed = record talk.passed { seen = talk.passed.seen ++ disk ∷ [] } }

-- so far the host wants more extents
abbrev pub WantsMore : Talk → Type 0
WantsMore talk = IsTrue talk.known → talk.passed.enough ≡ false

-- one extent more is told
abbrev pub told_extent : Talk → Extent → Bool → Talk
told_extent talk extent enough = record talk {
  passed =
      record talk.passed { extents = talk.passed.extents ++ extent ∷ []; enough = enough };
}

-- only what passes in the call that is asked changes
abbrev pub OnlyPasses : Talk → Talk → Type 0
OnlyPasses old new = Becomes old (record old { passed = new.passed }) new

-- nothing has passed yet in the call that is asked
abbrev pub IsFresh : Talk → Type 0
IsFresh talk = IsTrue talk.known → talk.passed ≡ nothing
