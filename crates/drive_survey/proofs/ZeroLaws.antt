-- The zeros that end the log of a Full zone.
use Rattle.std.proofs.Common.{◌≡◌, ℕ, zero, suc, ◌+◌, ◌-◌, ◌<◌, ◌≤◌, ◌&&◌, Bool, true, false, List, [], ◌∷◌, length, drop, get_or, replicate, refl, sym, ap, subst, ◌∙◌, arith}
use Rattle.std.proofs.lemmas.List.{drop_more, drop_all}
use Rattle.std.specs.List.{AllByRecursion, list_all}
use Rattle.std.proofs.lemmas.List.{length-replicate}
use Rattle.std.proofs.lemmas.Bool.{and_parts}
use Rattle.zone_states.specs.declared.geometry.Geometry.{Geometry}
use Rattle.zone_states.specs.Zone.{IsLawfulZone}
use Rattle.batch_log.specs.Causes.{is_zero}
use Rattle.batch_log.specs.Log.{IsTail, zero_block}
use Rattle.batch_log.proofs.CauseLaws.{all_zeros}
use Rattle.drive_port.specs.Contents.{Content, content_at, contents, is_full, usage_of}
use Rattle.drive_port.specs.Step.{nowhere}
use Rattle.drive_array.specs.ZoneLogs.{padding, readable}
use Rattle.drive_array.proofs.AllLaws.{all-append, all-at, all-drop}
use Rattle.drive_port.specs.Drive.{DriveState}
use Rattle.drive_port.proofs.ClosingLaws.{content_at-contents}
use Rattle.drive_survey.specs.declared.reported.ReportedZone.{ReportedZone}
use Rattle.drive_survey.specs.Reported.{IsKnown, KeepsZones}
use Rattle.drive_survey.specs.Scan.{block_of, readable_at}
use Rattle.drive_survey.proofs.ReadLaws.{kept-blocks}

-- blocks from an index on are zeros exactly if the first is and the rest are
zeros-next : (blocks : List (List ℕ)) (i : ℕ) (block : List ℕ) → i < length blocks → block ≡ get_or blocks i [] → list_all is_zero (drop i blocks) ≡ (is_zero block && list_all is_zero (drop (i + 1) blocks))
zeros-next blocks i block lt is = rw (drop_more blocks i [] lt, is) refl

-- the blocks past the end, of which there are none, are all zeros
zeros-all : (blocks : List (List ℕ)) (i : ℕ) → length blocks ≤ i → true ≡ list_all is_zero (drop i blocks)
zeros-all blocks i le = rw (drop_all i blocks le) refl

-- one block more is looked at
pub zero-step : (first now : DriveState) (zone from offset : ℕ) (reported : ReportedZone) (bytes block : List ℕ) (is : Bool) → IsKnown first zone reported → KeepsZones first now → offset < reported.blocks
    → block ≡ block_of now zone offset → bytes ≡ block → is ≡ is_zero bytes → list_all is_zero (drop offset (readable_at first zone)) ≡ list_all is_zero (drop from (readable_at first zone))
    → (is && list_all is_zero (drop (offset + 1) (readable_at first zone))) ≡ list_all is_zero (drop from (readable_at first zone))
zero-step first now zone from offset reported bytes block is known kept lt read same nought so_far =
    let there : bytes ≡ get_or (readable_at first zone) offset [] = same ∙ read ∙ ap (λ (bs : List (List ℕ)). get_or bs offset []) (kept-blocks first now zone kept) in
    rw nought (sym (zeros-next (readable_at first zone) offset bytes (omega (arith, lt, known.blocks)) there) ∙ so_far)

-- when no block is left, all blocks that were looked at were zeros
pub zero-end : (first : DriveState) (zone from offset : ℕ) (reported : ReportedZone) → IsKnown first zone reported → reported.blocks ≤ offset → list_all is_zero (drop offset (readable_at first zone)) ≡ list_all is_zero (drop from (readable_at first zone))
    → true ≡ list_all is_zero (drop from (readable_at first zone))
zero-end first zone from offset reported known le so_far = zeros-all (readable_at first zone) offset (omega (arith, le, known.blocks)) ∙ so_far

-- ---- zero blocks end the log of a Full zone

all-long : (geometry : Geometry) (content : Content) → AllByRecursion (λ (b : List ℕ). length b ≡ geometry.block) content.blocks → AllByRecursion (λ (b : List ℕ). length b ≡ geometry.block) (readable geometry content)
all-long geometry content long = all-append (λ (b : List ℕ). length b ≡ geometry.block) content.blocks (padding geometry (is_full content.usage) (length content.blocks)) long (at (is_full content.usage))
  where
    zeros : (n : ℕ) → AllByRecursion (λ (b : List ℕ). length b ≡ geometry.block) (replicate n (zero_block geometry.block))
    zeros zero = tt
    zeros (suc n) = (length-replicate geometry.block 0, zeros n)

    at : (full : Bool) → AllByRecursion (λ (b : List ℕ). length b ≡ geometry.block) (padding geometry full (length content.blocks))
    at true = zeros (geometry.capacity - length content.blocks)
    at false = tt

zeros-are : (size : ℕ) (blocks : List (List ℕ)) → AllByRecursion (λ (b : List ℕ). length b ≡ size) blocks → list_all is_zero blocks ≡ true → blocks ≡ replicate (length blocks) (zero_block size)
zeros-are size [] long is = refl
zeros-are size (b ∷ bs) long is =
    let both = and_parts (is_zero b) (list_all is_zero bs) is in
    let here : b ≡ zero_block size = all_zeros b both.0 ∙ ap (λ (n : ℕ). replicate n 0) long.0 in
    ap (λ (x : List ℕ). x ∷ bs) here ∙ ap (λ (xs : List (List ℕ)). zero_block size ∷ xs) (zeros-are size bs long.1 both.1)

-- so they do from a block on
pub zero-tail : (drive : DriveState) (zone offset : ℕ) (reported : ReportedZone) (block : List ℕ) → IsKnown drive zone reported → offset < reported.blocks → block ≡ block_of drive zone offset → is_full (usage_of reported.state) ≡ true
    → is_zero block ≡ true → list_all is_zero (drop (offset + 1) (readable_at drive zone)) ≡ true
    → IsTail drive.geometry.block (is_full (content_at (contents drive.zones) zone).usage) (drop offset (readable_at drive zone))
zero-tail drive zone offset reported block known lt is full nought zeros =
    let usage : is_full (content_at (contents drive.zones) zone).usage ≡ true = ap is_full known.usage ∙ full in
    let all : list_all is_zero (drop offset (readable_at drive zone)) ≡ true = zeros-next (readable_at drive zone) offset block (omega (arith, lt, known.blocks)) is ∙ rw (nought, zeros) refl in
    let content = content_at-contents drive.zones zone in
    let lawful = all-at (IsLawfulZone drive.geometry) drive.zones zone nowhere known.lawful.zones known.in_range in
    let long : AllByRecursion (λ (b : List ℕ). length b ≡ drive.geometry.block) (content_at (contents drive.zones) zone).blocks = rw content lawful.whole in
    let tails = zeros-are drive.geometry.block (drop offset (readable_at drive zone)) (all-drop (λ (b : List ℕ). length b ≡ drive.geometry.block) offset (readable_at drive zone) (all-long drive.geometry (content_at (contents drive.zones) zone) long)) all in
    subst (λ (f : Bool). IsTail drive.geometry.block f (drop offset (readable_at drive zone))) (sym usage) tails
