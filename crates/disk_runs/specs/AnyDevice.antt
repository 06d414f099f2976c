-- What lines do over any device, whose Reads may return other bytes than the drive holds.
use Rattle.std.specs.Prelude.{◌≡◌, ◌⊎◌, ℕ, Bool, true, false, List, [], ◌++◌, length, Option, Some, None, Result, OnOk}
use Rattle.std.specs.Prelude.{⊤}
use Rattle.std.specs.List.{AllByRecursion}
use Rattle.zone_choice.specs.Sane.{KeepsShape}
use Rattle.zone_cleaner.specs.Gathered.{AreOfLength}
use Rattle.disk_files.specs.declared.trace_line.TraceLine.{TraceLine}
use Rattle.disk_files.specs.declared.trace_line.TraceLine.TheVariants.{Read, Grow, Remount}
use Rattle.disk_files.specs.Reply.{block_lines}
use Rattle.zone_translator.specs.View.{CostsMost, DiskView, StaysAlike, disk_size}
use Rattle.disk_runs.specs.Costs.{most_commands, mounts, with_flush}
use Rattle.zone_translator.specs.declared.fault.DiskFault.{DiskFault}
use Rattle.disk_runs.specs.FlatLines.{IsOfDisk, reply_of}
use Rattle.disk_runs.specs.Run.{Language, while}
use Rattle.disk_runs.specs.Taken.{disk_lines, is_flushed, takes}
use Rattle.disk_runs.specs.Trace.{ReadsFew, said_by}
use Rattle.disk_runs.specs.declared.fault.RunFault.{RunFault}
use Rattle.disk_runs.specs.declared.taking.Taking.{Taking}

-- whether each Read so far returned what the drive holds
abbrev pub is_clean : DiskView → Bool
is_clean disk = disk.drive.clean

-- whether a line may change the size of a disk: a growth or a remount may
abbrev pub resizes : Option (TraceLine × List ℕ) → Bool
resizes (Some (Grow size, bytes)) = true
resizes (Some (Remount, bytes)) = true
resizes said = false

abbrev pub NoneResizes : List (List ℕ) → Type 0
NoneResizes lines = AllByRecursion (λ (line : List ℕ). resizes (said_by line) ≡ false) lines

-- The size after a line. A growth leaves the size that it asks for, or the one that was; of a remount nothing is said;
-- any other line leaves the same.
abbrev pub MayHaveSize : Option (TraceLine × List ℕ) → ℕ → ℕ → Type 0
MayHaveSize (Some (Grow size, bytes)) old new = (new ≡ size) ⊎ (new ≡ old)
MayHaveSize (Some (Remount, bytes)) old new = ⊤
MayHaveSize said old new = new ≡ old

-- ---- the form of a reply

-- from which block on a line shows blocks, and how many: only a read shows any
abbrev pub first_shown : TraceLine → ℕ
first_shown (Read first n) = first
first_shown line = 0

abbrev pub count_shown : TraceLine → ℕ
count_shown (Read first n) = n
count_shown line = 0

-- the lines of n blocks, of so many bytes each and numbered from a given one on, were put after these bytes
pub record PutsLines (block first n : ℕ) (before after : List ℕ) : Type 0 where
  pub shown : List (List ℕ)
  pub long : length shown ≡ n
  pub whole : AreOfLength block shown
  pub after_is : after ≡ before ++ block_lines first shown

-- The reply to a line has its form in any case: the lines of as many blocks as it shows, with their numbers, and `ok`;
-- or a refusal that has a reply. Each block is a whole one, of so many bytes.
pub record HasForm (block : ℕ) (line : TraceLine) (reply : List ℕ) : Type 0 where
  pub shown : List (List ℕ)
  pub result : Result (Unit {0}) DiskFault
  pub long : OnOk result (length shown ≡ count_shown line)
  pub whole : AreOfLength block shown
  pub reply_is : reply_of (first_shown line) shown result ≡ Some reply

-- a line that is skipped has no reply
abbrev pub FormOf : ℕ → Option (TraceLine × List ℕ) → List ℕ → Type 0
FormOf block None reply = reply ≡ []
FormOf block (Some said) reply = HasForm block said.0 reply

-- ---- what a line keeps

-- What a line keeps in any case, answered or refused: the shape of the drive, and the size. It takes no more commands
-- than it may, and its flush one more; those of a remount are not counted.
pub record StaysBy (flushed : Bool) (said : Option (TraceLine × List ℕ)) (old new : DiskView) : Type 0 where
  pub shape : KeepsShape old.drive new.drive
  pub size : MayHaveSize said (disk_size old) (disk_size new)
  pub completed : mounts said ≡ false
      → CostsMost old (λ each. with_flush flushed (most_commands each old.drive.geometry said)) new

-- a line that has a reply keeps this much, and its reply has its form
pub record StaysAnswered (flushed : Bool) (said : Option (TraceLine × List ℕ)) (old : DiskView) (reply : List ℕ)
    (new : DiskView) : Type 0 where
  pub stays : StaysBy flushed said old new
  pub form : FormOf old.drive.geometry.block said reply

-- one that has none is refused by the disk or by a mount, and keeps this much, too
pub record StaysRefused (flushed : Bool) (said : Option (TraceLine × List ℕ)) (old : DiskView) (fault : RunFault)
    (new : DiskView) : Type 0 where
  pub kind : IsOfDisk fault
  pub stays : StaysBy flushed said old new

-- where memory ran out for a line, blocks were read at most
pub record StaysRead (old new : DiskView) : Type 0 where
  pub alike : StaysAlike old new
  pub reads : ReadsFew (disk_size old) old new

-- the lines of a trace that are taken, by what they keep in any case
abbrev pub kept_lines : Taking → Language DiskView
kept_lines taking = record {
  is_legal = λ disk line. takes taking disk.drive.geometry.block line;
  Answers = λ old line reply new. StaysAnswered (is_flushed taking line) (said_by line) old reply new;
  Refuses = λ old line fault new. StaysRefused (is_flushed taking line) (said_by line) old fault new;
  Same = StaysRead;
}

-- The same lines over any device. They are answered as a disk above a drive answers them as long as each Read returned
-- what the drive holds.
abbrev pub any_lines : Taking → Language DiskView
any_lines taking = while is_clean (kept_lines taking) (disk_lines taking)
