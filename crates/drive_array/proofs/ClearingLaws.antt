-- There is one clearing at most, and it keeps the array.
use Rattle.std.proofs.Common.{◌≡◌, ◌≢◌, ◌⊎◌, inl, inr, ℕ, zero, suc, List, [], ◌∷◌, Option, Some, None, refl, ap, ◌∙◌, arith}
use Rattle.std.proofs.lemmas.Bool.{cases_eq, cases_lt}
use Rattle.std.proofs.lemmas.List.{get_or-set_other}
use Rattle.batch_log.specs.Log.{Batch}
use Rattle.drive_array.specs.Records.{without}
use Rattle.drive_array.proofs.SizeLaws.{empty_spare}
use Rattle.drive_array.specs.Spare.{IsBefore, IsClearing, IsHalfClean, IsLowest, IsPart, cleared, first_sequence}
use Rattle.drive_array.specs.ZoneLogs.{log_at}
use Rattle.drive_array.specs.Laws.{ClearingKeeps}

one_lowest : (block_bytes n : ℕ) (logs : List (List Batch)) (a b : ℕ) → IsLowest block_bytes n logs a → IsLowest block_bytes n logs b → a ≡ b
one_lowest block_bytes n logs a b is is' =
    elim (cases_lt a b) as (λ _. a ≡ b) [
      | inl lt ↦ absurd (is'.lowest a lt is.half_clean)
      | inr ge ↦ (elim (cases_lt b a) as (λ _. a ≡ b) [ inl lt ↦ absurd (is.lowest b lt is'.half_clean) | inr le ↦ omega arith ])
    ]

-- a drive has at most one list of zones to clear
pub one_clearing : (block_bytes n : ℕ) (logs : List (List Batch)) (zones others : List ℕ) → IsClearing block_bytes n logs zones → IsClearing block_bytes n logs others → zones ≡ others
one_clearing block_bytes n logs [] [] is is' = refl
one_clearing block_bytes n logs [] (z ∷ zs) is is' = absurd (is z is'.0.in_range is'.0.half_clean)
one_clearing block_bytes n logs (z ∷ zs) [] is is' = absurd (is' z is.0.in_range is.0.half_clean)
one_clearing block_bytes n logs (z ∷ zs) (y ∷ ys) is is' =
    let same = one_lowest block_bytes n logs z y is.0 is'.0 in
    let rest = one_clearing block_bytes n (without logs z) zs ys is.1 (rw same is'.1) in
    rw (same, rest) refl

-- ---- parts

-- a zone that is emptied has no batch
pub without-same : (logs : List (List Batch)) (zone : ℕ) → log_at (without logs zone) zone ≡ []
without-same [] zone = refl
without-same (l ∷ ls) zero = refl
without-same (l ∷ ls) (suc zone) = without-same ls zone

-- logs without a zone are a part of the logs
without-part : (logs : List (List Batch)) (zone : ℕ) → IsPart logs (without logs zone)
without-part logs zone other = elim (cases_eq other zone) as (λ _. (log_at (without logs zone) other ≡ log_at logs other) ⊎ (log_at (without logs zone) other ≡ [])) [
  | inl e ↦ inr (rw e (without-same logs zone))
  | inr apart ↦ inl (get_or-set_other logs zone other [] [] apart)
]

-- a part of a part is one
pub part-trans : (a b c : List (List Batch)) → IsPart a b → IsPart b c → IsPart a c
part-trans a b c ab bc zone = joined (ab zone) (bc zone)
  where
    joined : (log_at b zone ≡ log_at a zone) ⊎ (log_at b zone ≡ []) → (log_at c zone ≡ log_at b zone) ⊎ (log_at c zone ≡ []) → (log_at c zone ≡ log_at a zone) ⊎ (log_at c zone ≡ [])
    joined (inl e) (inl f) = inl (f ∙ e)
    joined (inr e) (inl f) = inr (f ∙ e)
    joined (inl e) (inr f) = inr f
    joined (inr e) (inr f) = inr f

-- cleared logs are a part
pub clearing-part : (logs : List (List Batch)) (zones : List ℕ) → IsPart logs (cleared logs zones)
clearing-part logs [] = λ zone. inl refl
clearing-part logs (z ∷ zs) = part-trans logs (without logs z) (cleared (without logs z) zs) (without-part logs z) (clearing-part (without logs z) zs)

-- ---- the end

-- nothing comes before where there is no first sequence
pub no_first : (first : Option ℕ) → IsBefore first None → ⊥
no_first None before = before
no_first (Some a) before = before

-- a half clean zone has a batch
pub has_batch : (block_bytes n : ℕ) (logs : List (List Batch)) (zone : ℕ) → IsHalfClean block_bytes n logs zone → log_at logs zone ≢ []
has_batch block_bytes n logs zone half none = no_first (first_sequence (log_at logs half.victim)) (rw none at half.older)

-- how many zones have a batch
abbrev pub with_batch : List (List Batch) → ℕ
with_batch [] = 0
with_batch ([] ∷ logs) = with_batch logs
with_batch ((b ∷ bs) ∷ logs) = suc (with_batch logs)

-- without a zone that has a batch, one zone less has one
pub fewer : (logs : List (List Batch)) (zone : ℕ) → log_at logs zone ≢ [] → suc (with_batch (without logs zone)) ≡ with_batch logs
fewer [] zone some = absurd (some refl)
fewer ([] ∷ ls) zero some = absurd (some refl)
fewer ((b ∷ bs) ∷ ls) zero some = refl
fewer ([] ∷ ls) (suc zone) some = fewer ls zone some
fewer ((b ∷ bs) ∷ ls) (suc zone) some = ap suc (fewer ls zone some)

-- clearing keeps the array
pub clearing_keeps : ClearingKeeps
clearing_keeps block_bytes limit n logs [] sound is = record { array_is = refl; size_is = refl; sound = sound; part = λ zone. inl refl }
clearing_keeps block_bytes limit n logs (z ∷ zs) sound is =
    let one = empty_spare block_bytes limit n z logs sound is.0.half_clean.spare in
    let rest = clearing_keeps block_bytes limit n (without logs z) zs one.sound is.1 in
    record {
      array_is = rest.array_is ∙ one.array_is;
      size_is = rest.size_is ∙ one.size_is;
      sound = rest.sound;
      part = clearing-part logs (z ∷ zs);
    }
