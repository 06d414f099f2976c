-- What the headers of a cleared drive tell of the Moves to be made.
use Rattle.std.proofs.Common.{◌≡◌, ℕ, ◌<◌, true, false, List, [], ◌∷◌, length, map, get_or, refl, sym, ap, ◌∙◌, arith}
use Rattle.std.specs.List.{AllByRecursion}
use Rattle.std.proofs.lemmas.Bool.{eq-eqb}
use Rattle.std.proofs.lemmas.List.{get_or_default, length-map}
use Rattle.std.proofs.Math.ListN.{get_or-map}
use Rattle.batch_log.specs.Log.{Batch}
use Rattle.drive_port.specs.Drive.{DriveState}
use Rattle.drive_array.specs.Repairing.{IsMoved}
use Rattle.drive_array.specs.Spare.{IsMoveFrom}
use Rattle.drive_array.specs.ZoneLogs.{log_at}
use Rattle.drive_survey.specs.declared.scan.ScannedZone.{ScannedZone}
use Rattle.drive_survey.specs.Heads.{HeadsView, heads_after, heads_of, no_heads, source_with, with_heading}
use Rattle.drive_survey.specs.declared.survey.Survey.{Survey}
use Rattle.drive_survey.specs.Known.{Knows}
use Rattle.drive_survey.specs.Scan.{heads_in}
use Rattle.drive_survey.proofs.MovedLaws.{source-stays}

-- ---- the headers of one zone

-- each zone of a known drive was scanned
pub scanned-in : (drive : DriveState) (n : ℕ) (logs : List (List Batch)) (survey : Survey) (zone : ℕ) → Knows drive n logs survey → zone < length drive.zones → zone < length survey.scanned.items
scanned-in drive n logs survey zone known lt = omega (arith, lt, known.count, ap length known.heads, length-map survey.scanned.items (λ (z : ScannedZone). z.heads), length-map logs heads_of)

-- the headers that are found of a zone are the headers of its log
pub found-heads : (scanned : List ScannedZone) (logs : List (List Batch)) (zone : ℕ) (found : ScannedZone) → heads_in scanned ≡ map heads_of logs → zone < length scanned → found ≡ get_or scanned zone found → found.heads ≡ heads_of (log_at logs zone)
found-heads scanned logs zone found are lt is =
    let view : get_or (heads_in scanned) zone found.heads ≡ found.heads = get_or-map (λ (z : ScannedZone). z.heads) scanned zone found ∙ ap (λ (z : ScannedZone). z.heads) (sym is) in
    let long : zone < length (map heads_of logs) = omega (arith, lt, ap length are, length-map scanned (λ (z : ScannedZone). z.heads)) in
    sym view ∙ ap (λ (hs : List HeadsView). get_or hs zone found.heads) are ∙ get_or_default (map heads_of logs) zone found.heads no_heads long ∙ get_or-map heads_of logs zone []

after-moves : (view : HeadsView) (log : List Batch) (victim : ℕ) → view.are_moves ≡ true → ((other : ℕ) → other ≡ victim → source_with view.heads view.source other ≡ victim) → AllByRecursion (IsMoveFrom victim) log → (heads_after view log).are_moves ≡ true
after-moves view [] victim moves source all = moves
after-moves view (b ∷ bs) victim moves source all =
    let from : source_with view.heads view.source b.heading.source ≡ victim = source b.heading.source all.0.1 in
    after-moves (with_heading view b.heading) bs victim
    (rw (moves, all.0.0) (eq-eqb b.heading.source (source_with view.heads view.source b.heading.source) (all.0.1 ∙ sym from)))
    (λ other same. source-stays view.heads _ (source_with view.heads view.source b.heading.source) other ∙ from)
    all.1

-- a zone with a batch that is no Move from one zone alone
pub not-moved : (scanned : List ScannedZone) (logs : List (List Batch)) (zone : ℕ) (found : ScannedZone) → heads_in scanned ≡ map heads_of logs → zone < length scanned → found ≡ get_or scanned zone found → found.heads.are_moves ≡ false → IsMoved logs zone → ⊥
not-moved scanned logs zone found are lt is no_moves moved =
    let all : (heads_of (log_at logs zone)).are_moves ≡ true = after-moves no_heads (log_at logs zone) moved.victim refl (λ other same. same) moved.moves in
    let bad : false ≡ true = sym no_moves ∙ ap (λ (h : HeadsView). h.are_moves) (found-heads scanned logs zone found are lt is) ∙ all in
    absurd (cc)
