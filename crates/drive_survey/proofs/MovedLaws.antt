-- What the headers tell of the zones that only Moves are in.
use Rattle.std.proofs.Common.{◌≡◌, ◌≢◌, ◌⊎◌, inl, inr, ℕ, zero, suc, ◌+◌, ◌<◌, ◌≤◌, ◌&&◌, Bool, true, false, eqb, ltb, List, [], ◌∷◌, ◌++◌, length, map, get_or, Option, Some, None, refl, sym, ap, subst, ◌∙◌, arith}
use Rattle.std.specs.Prelude.{slice_get}
use Rattle.std.specs.List.{AllByRecursion}
use Rattle.std.proofs.lemmas.Bool.{cases_eq, cases_lt, eq-eqb, eqb-true, ltb-false, ltb-true}
use Rattle.std.proofs.lemmas.List.{length-map, map-set, nil_from_length}
use Rattle.std.proofs.lemmas.Option.{slice_get_past, slice_get_read}
use Rattle.batch_log.specs.declared.header.Kind.{Kind}
use Rattle.batch_log.specs.declared.header.Kind.TheVariants.{Host, Move}
use Rattle.batch_log.specs.Log.{Batch}
use Rattle.drive_array.specs.Records.{without}
use Rattle.drive_array.specs.Sizes.{encoded_size, size_or}
use Rattle.drive_array.specs.Spare.{IsBefore, IsMoveFrom, first_sequence}
use Rattle.drive_array.specs.ZoneLogs.{log_at}
use Rattle.drive_survey.specs.declared.heads.Head.{Head}
use Rattle.drive_survey.specs.declared.scan.ScannedZone.{ScannedZone}
use Rattle.drive_survey.specs.Known.{HasVacant}
use Rattle.drive_survey.specs.Clearing.{AreOf, Tells, first_head_sequence, without_heads}
use Rattle.drive_survey.specs.Heads.{HeadsView, heads_after, heads_of, is_move, no_heads, source_with, with_heading}
use Rattle.drive_array.specs.Repairing.{IsMoved}
use Rattle.drive_array.proofs.ClearingLaws.{no_first}
use Rattle.drive_survey.specs.Survey.{greatest_in}
use Rattle.drive_survey.proofs.HeadRecordLaws.{heads-are}
use Rattle.drive_survey.proofs.SurveyLaws.{greatest-heads}

-- ---- Moves from one zone

-- all batches are Moves from a zone
abbrev all_moves : ℕ → List Batch → Bool
all_moves source [] = true
all_moves source (batch ∷ log) = is_move batch.heading.kind && eqb batch.heading.source source && all_moves source log

-- a source that was found stays, whatever heads follow
pub source-stays : (heads : List Head) (head : Head) (source other : ℕ) → source_with (heads ++ head ∷ []) source other ≡ source
source-stays [] head source other = refl
source-stays (h ∷ hs) head source other = refl

and-assoc : (a b c d : Bool) → ((a && b && c) && d) ≡ (a && (b && c && d))
and-assoc true b c d = and3 b c d
  where
    and3 : (b c d : Bool) → ((b && c) && d) ≡ (b && c && d)
    and3 true c d = refl
    and3 false c d = refl
and-assoc false b c d = refl

source-after : (view : HeadsView) (heads : List Head) (head : Head) (log : List Batch) → view.heads ≡ heads ++ head ∷ [] → (heads_after view log).source ≡ view.source
source-after view heads head [] e = refl
source-after view heads head (b ∷ bs) e =
    source-after (with_heading view b.heading) view.heads _ bs refl ∙ ap (λ (hs : List Head). source_with hs view.source b.heading.source) e ∙ source-stays heads head view.source b.heading.source

moves-after : (view : HeadsView) (heads : List Head) (head : Head) (log : List Batch) → view.heads ≡ heads ++ head ∷ [] → (heads_after view log).are_moves ≡ (view.are_moves && all_moves view.source log)
moves-after view heads head [] e = and-true view.are_moves
  where
    and-true : (b : Bool) → b ≡ (b && true)
    and-true true = refl
    and-true false = refl
moves-after view heads head (b ∷ bs) e =
    let source : source_with view.heads view.source b.heading.source ≡ view.source = ap (λ (hs : List Head). source_with hs view.source b.heading.source) e ∙ source-stays heads head view.source b.heading.source in
    moves-after (with_heading view b.heading) view.heads _ bs refl
    ∙ ap (λ (s : ℕ). (view.are_moves && is_move b.heading.kind && (eqb b.heading.source s)) && all_moves s bs) source
    ∙ and-assoc view.are_moves (is_move b.heading.kind) (eqb b.heading.source view.source) (all_moves view.source bs)

moves-all : (source : ℕ) (log : List Batch) → all_moves source log ≡ true → AllByRecursion (IsMoveFrom source) log
moves-all source [] e = tt
moves-all source (b ∷ bs) e = by b.heading.kind refl (eqb b.heading.source source) refl (λ rest. moves-all source bs rest) e
  where
    by : (k : Kind) → b.heading.kind ≡ k → (t : Bool) → eqb b.heading.source source ≡ t → (all_moves source bs ≡ true → AllByRecursion (IsMoveFrom source) bs) → (is_move k && t && all_moves source bs) ≡ true → AllByRecursion (IsMoveFrom source) (b ∷ bs)
    by Move is true same rest e = ((is, eqb-true b.heading.source source same), rest e)
    by Move is false other rest e = absurd (cc)
    by Host is t same rest e = absurd (cc)

all-moves : (source : ℕ) (log : List Batch) → AllByRecursion (IsMoveFrom source) log → all_moves source log ≡ true
all-moves source [] all = refl
all-moves source (b ∷ bs) all = rw (all.0.0, eq-eqb b.heading.source source all.0.1) (all-moves source bs all.1)

-- a log with a batch: its source, and whether all are Moves from it
pub source-is : (b : Batch) (bs : List Batch) → (heads_of (b ∷ bs)).source ≡ b.heading.source
source-is b bs = source-after (with_heading no_heads b.heading) [] _ bs refl

-- its headers tell whether all batches are Moves from the first one's source
moves-are : (b : Batch) (bs : List Batch) → (heads_of (b ∷ bs)).are_moves ≡ all_moves b.heading.source (b ∷ bs)
moves-are b bs = moves-after (with_heading no_heads b.heading) [] _ bs refl ∙ same (is_move b.heading.kind) (eqb b.heading.source b.heading.source) (all_moves b.heading.source bs)
  where
    same : (x y z : Bool) → ((x && y) && z) ≡ (x && y && z)
    same true y z = refl
    same false y z = refl

-- ---- the first batch

-- the first header of a log has the sequence of its first batch
pub first-is : (log : List Batch) → first_head_sequence (heads_of log).heads ≡ first_sequence log
first-is [] = refl
first-is (b ∷ bs) = ap first_head_sequence (heads-are (b ∷ bs))

-- ---- the headers of a zone

-- an element that was read below the length is in the list at that index
pub there : {X : Type 0} (xs : List X) (i : ℕ) (x : X) → i < length xs → x ≡ get_or xs i x → slice_get xs i ≡ Some x
there xs i x lt is = slice_get_read xs (length xs) i x refl lt is

-- past its end a list has no element
pub not-there : {X : Type 0} (xs : List X) (i : ℕ) → length xs ≤ i → slice_get xs i ≡ None
not-there xs i le = slice_get_past xs i le

-- a scanned zone that is found keeps the headers of its log
pub found-heads : (scanned : List ScannedZone) (logs : List (List Batch)) (zone : ℕ) (found : ScannedZone) → AreOf scanned logs → slice_get scanned zone ≡ Some found → found.heads ≡ heads_of (log_at logs zone)
found-heads [] [] zone found are is = absurd (cc)
found-heads [] (l ∷ ls) zone found are is = absurd (cc)
found-heads (s ∷ ss) [] zone found are is = absurd (cc)
found-heads (s ∷ ss) (l ∷ ls) zero found are is =
    let one : s ≡ found = cc in
    let same : s.heads ≡ heads_of l = cc in
    ap (λ (x : ScannedZone). x.heads) (sym one) ∙ same
found-heads (s ∷ ss) (l ∷ ls) (suc zone) found are is = let rest : AreOf ss ls = cc in found-heads ss ls zone found rest is

-- a zone that is missing among the scanned ones has no batch
missing-log : (scanned : List ScannedZone) (logs : List (List Batch)) (zone : ℕ) → AreOf scanned logs → slice_get scanned zone ≡ None → log_at logs zone ≡ []
missing-log [] [] zone are there = refl
missing-log [] (l ∷ ls) zone are is = absurd (cc)
missing-log (s ∷ ss) [] zone are there = refl
missing-log (s ∷ ss) (l ∷ ls) zero are is = absurd (cc)
missing-log (s ∷ ss) (l ∷ ls) (suc zone) are there = let rest : AreOf ss ls = cc in missing-log ss ls zone rest there

-- ---- a zone of Moves

-- a zone of Moves has a batch
pub moved-batch : (logs : List (List Batch)) (zone : ℕ) → IsMoved logs zone → log_at logs zone ≢ []
moved-batch logs zone is none = no_first (first_sequence (log_at logs is.victim)) (rw none at is.older)

-- what its headers tell
pub record TellsMoved (logs : List (List Batch)) (zone : ℕ) (heads : HeadsView) : Type 0 where
  pub moves : heads.are_moves ≡ true
  pub apart : heads.source ≢ zone
  pub older : IsBefore (first_sequence (log_at logs heads.source)) (first_sequence (log_at logs zone))

-- the headers of a zone of Moves tell of Moves from an older zone
moved-told : (logs : List (List Batch)) (zone : ℕ) (heads : HeadsView) → heads ≡ heads_of (log_at logs zone) → IsMoved logs zone → TellsMoved logs zone heads
moved-told logs zone heads e is = by (log_at logs zone) refl
  where
    by : (log : List Batch) → log_at logs zone ≡ log → TellsMoved logs zone heads
    by [] none = absurd (moved-batch logs zone is none)
    by (b ∷ bs) there =
        let moves : AllByRecursion (IsMoveFrom is.victim) (b ∷ bs) = rw there at is.moves in
        let victim : b.heading.source ≡ is.victim = moves.0.1 in
        let source : heads.source ≡ is.victim = ap (λ (h : HeadsView). h.source) (e ∙ ap heads_of there) ∙ source-is b bs ∙ victim in
        record {
          moves = ap (λ (h : HeadsView). h.are_moves) (e ∙ ap heads_of there) ∙ moves-are b bs ∙ all-moves b.heading.source (b ∷ bs) (subst (λ (v : ℕ). AllByRecursion (IsMoveFrom v) (b ∷ bs)) (sym victim) moves);
          apart = λ same. is.apart (sym source ∙ same);
          older = rw source is.older;
        }

-- a zone whose headers tell of Moves from an older zone is a zone of Moves
told-moved : (logs : List (List Batch)) (zone : ℕ) (heads : HeadsView) → heads ≡ heads_of (log_at logs zone) → TellsMoved logs zone heads → IsMoved logs zone
told-moved logs zone heads e told = by (log_at logs zone) refl
  where
    by : (log : List Batch) → log_at logs zone ≡ log → IsMoved logs zone
    by [] none = absurd (no_first (first_sequence (log_at logs heads.source)) (rw none at told.older))
    by (b ∷ bs) there =
        let source : heads.source ≡ b.heading.source = ap (λ (h : HeadsView). h.source) (e ∙ ap heads_of there) ∙ source-is b bs in
        let moves : all_moves b.heading.source (b ∷ bs) ≡ true = sym (moves-are b bs) ∙ ap (λ (h : HeadsView). h.are_moves) (sym (e ∙ ap heads_of there)) ∙ told.moves in
        record {
          victim = heads.source;
          apart = told.apart;
          moves = rw (source, there) (moves-all b.heading.source (b ∷ bs) moves);
          older = told.older;
        }

-- ---- the headers of a zone are forgotten

-- headers without a zone's are the headers of the logs without that zone
pub forgotten-are : (logs : List (List Batch)) (views : List HeadsView) (zone : ℕ) → views ≡ map heads_of logs → without_heads views zone ≡ map heads_of (without logs zone)
forgotten-are logs views zone e = ap (λ (vs : List HeadsView). without_heads vs zone) e ∙ sym (map-set heads_of logs zone [])

-- without a zone's headers, the greatest size is the one that the other logs encode
pub size-forgotten : (n : ℕ) (logs : List (List Batch)) (views : List HeadsView) (zone : ℕ) → views ≡ map heads_of logs → size_or n (greatest_in (without_heads views zone)) ≡ encoded_size n (without logs zone)
size-forgotten n logs views zone e = ap (λ (vs : List HeadsView). size_or n (greatest_in vs)) (forgotten-are logs views zone e) ∙ ap (size_or n) (greatest-heads (without logs zone))

-- ---- a zone without a batch

-- a log with no header has no batch
no-heads : (log : List Batch) → (heads_of log).heads ≡ [] → log ≡ []
no-heads [] e = refl
no-heads (b ∷ bs) e = let bad = sym (heads-are (b ∷ bs)) ∙ e in absurd (cc)

-- ---- what a test of a zone tells

-- a zone whose headers tell of no Moves from an older zone
pub not-told : (scanned : List ScannedZone) (logs : List (List Batch)) (zone : ℕ) (found : ScannedZone) → AreOf scanned logs → slice_get scanned zone ≡ Some found → (TellsMoved logs zone found.heads → ⊥) → IsMoved logs zone → ⊥
not-told scanned logs zone found are there never is = never (moved-told logs zone found.heads (found-heads scanned logs zone found are there) is)

-- a zone that is missing among the scanned ones is no zone of Moves
pub not-found : (scanned : List ScannedZone) (logs : List (List Batch)) (zone : ℕ) → AreOf scanned logs → slice_get scanned zone ≡ None → IsMoved logs zone → ⊥
not-found scanned logs zone are there is = moved-batch logs zone is (missing-log scanned logs zone are there)

-- the first sequence of a zone, as its headers tell it
first-found : (scanned : List ScannedZone) (logs : List (List Batch)) (zone : ℕ) (found : ScannedZone) → AreOf scanned logs → slice_get scanned zone ≡ Some found → first_sequence (log_at logs zone) ≡ first_head_sequence found.heads.heads
first-found scanned logs zone found are there = sym (ap (λ (h : HeadsView). first_head_sequence h.heads) (found-heads scanned logs zone found are there) ∙ first-is (log_at logs zone))

-- headers whose source zone is missing tell of no Moves from an older zone
pub victim-missing : (scanned : List ScannedZone) (logs : List (List Batch)) (zone source : ℕ) (heads : HeadsView) → heads.source ≡ source → AreOf scanned logs → slice_get scanned source ≡ None → TellsMoved logs zone heads → ⊥
victim-missing scanned logs zone source heads e are there told =
    let none : log_at logs heads.source ≡ [] = ap (log_at logs) e ∙ missing-log scanned logs source are there in
    rw none at told.older

-- nor is no sequence before any
pub none-before : (y : Option ℕ) → IsBefore None y → ⊥
none-before y h = h

-- if headers tell of Moves, the first header of their source zone is older than theirs
older-told : (scanned : List ScannedZone) (logs : List (List Batch)) (zone source : ℕ) (found victim : ScannedZone) → found.heads.source ≡ source → AreOf scanned logs → slice_get scanned zone ≡ Some found → slice_get scanned source ≡ Some victim
    → TellsMoved logs zone found.heads → IsBefore (first_head_sequence victim.heads.heads) (first_head_sequence found.heads.heads)
older-told scanned logs zone source found victim e are there from told =
    rw (← first-found scanned logs zone found are there, ← first-found scanned logs source victim are from, ← e) told.older

-- whether Moves from another zone come from an older one is told by the first sequences
pub tells-older : (scanned : List ScannedZone) (logs : List (List Batch)) (zone source old new : ℕ) (found victim : ScannedZone) → found.heads.source ≡ source → AreOf scanned logs → slice_get scanned zone ≡ Some found → slice_get scanned source ≡ Some victim
    → found.heads.are_moves ≡ true → source ≢ zone → Some old ≡ first_head_sequence victim.heads.heads → Some new ≡ first_head_sequence found.heads.heads → Tells (ltb old new) (IsMoved logs zone)
tells-older scanned logs zone source old new found victim e are there from moves apart first_old first_new = by (ltb old new) refl
  where
    by : (t : Bool) → ltb old new ≡ t → Tells t (IsMoved logs zone)
    by true lt = told-moved logs zone found.heads (found-heads scanned logs zone found are there) (record {
      moves = moves;
      apart = λ same. apart (sym e ∙ same);
      older = rw (e, first-found scanned logs zone found are there, first-found scanned logs source victim are from, ← first_old, ← first_new) (ltb-true old new lt);
    })
    by false ge = not-told scanned logs zone found are there (λ told. (
        let before = rw (← first_old, ← first_new) at (older-told scanned logs zone source found victim e are there from told) in
        let le = ltb-false old new ge in
        absurd (omega (arith, before, le))
        ))

-- a zone is not moved where it has no headers, or where the first is not older
pub first-missing : (scanned : List ScannedZone) (logs : List (List Batch)) (zone source : ℕ) (found victim : ScannedZone) → found.heads.source ≡ source → AreOf scanned logs → slice_get scanned zone ≡ Some found → slice_get scanned source ≡ Some victim
    → (first_head_sequence victim.heads.heads ≡ None) ⊎ (first_head_sequence found.heads.heads ≡ None) → TellsMoved logs zone found.heads → ⊥
first-missing scanned logs zone source found victim e are is from missing told = by missing (older-told scanned logs zone source found victim e are is from told)
  where
    by : (first_head_sequence victim.heads.heads ≡ None) ⊎ (first_head_sequence found.heads.heads ≡ None) → IsBefore (first_head_sequence victim.heads.heads) (first_head_sequence found.heads.heads) → ⊥
    by (inl none) before = none-before (first_head_sequence found.heads.heads) (rw none at before)
    by (inr none) before = no_first (first_head_sequence victim.heads.heads) (rw none at before)

-- none of these zones
pub none-moved : (scanned : List ScannedZone) (logs : List (List Batch)) (limit : ℕ) → AreOf scanned logs → length scanned ≤ limit → ((zone : ℕ) → zone < limit → IsMoved logs zone → ⊥) → ((zone : ℕ) × IsMoved logs zone) → ⊥
none-moved scanned logs limit are le none some = elim (cases_lt some.0 limit) as (λ _. ⊥) [
  | inl lt ↦ none some.0 lt some.1
  | inr ge ↦ not-found scanned logs some.0 are (not-there scanned some.0 (omega (arith, le, ge))) some.1
]

-- vacant zones
count-same : (scanned : List ScannedZone) (logs : List (List Batch)) → AreOf scanned logs → length scanned ≡ length logs
count-same scanned logs are = sym (length-map scanned (λ (z : ScannedZone). z.heads)) ∙ ap length are ∙ length-map logs heads_of

-- if a scanned zone has no header, some zone is vacant
pub vacant-here : (scanned : List ScannedZone) (logs : List (List Batch)) (zone : ℕ) (found : ScannedZone) (heads : List Head) → AreOf scanned logs → zone < length scanned → found ≡ get_or scanned zone found → heads ≡ found.heads.heads → length heads ≡ 0 → HasVacant logs
vacant-here scanned logs zone found heads are lt is same none =
    let log_heads : (heads_of (log_at logs zone)).heads ≡ [] = ap (λ (h : HeadsView). h.heads) (sym (found-heads scanned logs zone found are (there scanned zone found lt is))) ∙ sym same ∙ nil_from_length heads none in
    record { zone = zone; in_range = omega (arith, lt, count-same scanned logs are); vacant = no-heads (log_at logs zone) log_heads }

-- none of the zones so far is vacant, nor is the next one, which has a header
pub not-vacant : (scanned : List ScannedZone) (logs : List (List Batch)) (zone limit : ℕ) (found : ScannedZone) (heads : List Head) → AreOf scanned logs → limit < length scanned → found ≡ get_or scanned limit found → heads ≡ found.heads.heads → (length heads ≡ 0 → ⊥)
    → ((k : ℕ) → k < limit → log_at logs k ≡ [] → ⊥) → zone < limit + 1 → log_at logs zone ≡ [] → ⊥
not-vacant scanned logs zone limit found heads are lt is same some none less empty = elim (cases_eq zone limit) as (λ _. ⊥) [
  | inl here ↦ some (ap length (same ∙ ap (λ (h : HeadsView). h.heads) (found-heads scanned logs limit found are (there scanned limit found lt is)) ∙ ap (λ (log : List Batch). (heads_of log).heads) (rw here at empty)))
  | inr other ↦ none zone (omega (arith, less, other)) empty
]

-- if each scanned zone has a batch, no zone is vacant
pub none-vacant : (scanned : List ScannedZone) (logs : List (List Batch)) (limit : ℕ) → AreOf scanned logs → length scanned ≤ limit → ((k : ℕ) → k < limit → log_at logs k ≡ [] → ⊥) → HasVacant logs → ⊥
none-vacant scanned logs limit are le none some = none some.zone (omega (arith, some.in_range, le, count-same scanned logs are)) some.vacant

-- a zone that has a first sequence has a header
pub first-some : (heads : List Head) (n : ℕ) → Some n ≡ first_head_sequence heads → 0 < length heads
first-some [] n is = absurd (cc)
first-some (h ∷ hs) n is = omega arith
