-- What a loss of power leaves after a list of steps.
use Rattle.std.proofs.Common.{◌≡◌, List, [], ◌∷◌, Ok, Err, ap, inl, inr}
use Rattle.std.specs.Prelude.{Contains, Result}
use Rattle.zone_states.specs.Zone.{Zone}
use Rattle.zone_translator.specs.Answers.{HardensBy}
use Rattle.zone_translator.specs.Flat.{flush, grow, idle, read, report, write, write_list}
use Rattle.zone_translator.specs.Laws.{AllSteps, CanMountAgain, LeftAfter, LossIsFound, LossLeaves, Step, Steps, call, remount}
use Rattle.zone_translator.specs.View.{DiskView}
use Rattle.zone_translator.specs.declared.fault.DiskFault.{DiskFault}
use Rattle.zone_translator.proofs.AgainLaws.{left-is-found, mounted-can, step-can}

-- all that is durable of a disk is left by what may be left
abbrev Covers : (List Zone → Type 0) → DiskView → Type 0
Covers Left disk = (zones : List Zone) → Contains disk.drive.durable zones → Left zones

-- where the same is durable
covers-same : (Left : List Zone → Type 0) (old new : DiskView) → new.drive.durable ≡ old.drive.durable → Covers Left old → Covers Left new
covers-same Left old new same covers = λ zones is. covers zones (rw same at is)

-- after a flush
covers-flush : (Left : List Zone → Type 0) (old new : DiskView) (result : Result (Unit {0}) DiskFault) → CanMountAgain new → HardensBy old flush result new → Covers Left old → Covers (LeftAfter Left result new) new
covers-flush Left old new (Ok done) can hardens covers = λ zones is. record { zones_are = hardens zones is; found = left-is-found new can }
covers-flush Left old new (Err fault) can hardens covers = λ zones is.
    elim (hardens zones is) [
      | inl before ↦ inl (covers zones before)
      | inr same ↦ inr (record { zones_are = same; found = left-is-found new can })
    ]

loss : (Left : List Zone → Type 0) (first last : DiskView) (steps : List Step) → CanMountAgain first → (all : AllSteps Steps first steps last) → Covers Left first → Covers (LossLeaves Left first steps last all) last
loss Left first last [] can all covers = covers-same Left first last (ap (λ (disk : DiskView). disk.drive.durable) all) covers
loss Left first last (call flush answer ∷ steps) can all covers =
    let next = step-can first all.0 (call flush answer) can all.1 in
    loss (LeftAfter Left answer.result all.0) all.0 last steps next all.2 (covers-flush Left first all.0 answer.result next all.1.keeps.1 covers)
loss Left first last (call (read from n) answer ∷ steps) can all covers =
    loss Left all.0 last steps (step-can first all.0 (call (read from n) answer) can all.1) all.2 (covers-same Left first all.0 all.1.keeps.1 covers)
loss Left first last (call (write from blocks) answer ∷ steps) can all covers =
    loss Left all.0 last steps (step-can first all.0 (call (write from blocks) answer) can all.1) all.2 (covers-same Left first all.0 all.1.keeps.1 covers)
loss Left first last (call (write_list puts) answer ∷ steps) can all covers =
    loss Left all.0 last steps (step-can first all.0 (call (write_list puts) answer) can all.1) all.2 (covers-same Left first all.0 all.1.keeps.1 covers)
loss Left first last (call (grow size) answer ∷ steps) can all covers =
    loss Left all.0 last steps (step-can first all.0 (call (grow size) answer) can all.1) all.2 (covers-same Left first all.0 all.1.keeps.1 covers)
loss Left first last (call idle answer ∷ steps) can all covers =
    loss Left all.0 last steps (step-can first all.0 (call idle answer) can all.1) all.2 (covers-same Left first all.0 all.1.keeps.1 covers)
loss Left first last (call report answer ∷ steps) can all covers =
    loss Left all.0 last steps (step-can first all.0 (call report answer) can all.1) all.2 (covers-same Left first all.0 all.1.keeps.1 covers)
loss Left first last (remount result ∷ steps) can all covers =
    loss Left all.0 last steps (step-can first all.0 (remount result) can all.1) all.2 (covers-same Left first all.0 all.1.keeps.kept.durable covers)

pub loss-is-found : LossIsFound
loss-is-found old n first last steps mounted all = loss (Contains old.durable) first last steps (mounted-can old n first mounted) all (λ zones is. rw (← mounted.kept.durable) is)
