-- What a clean leaves in the logs, as batches are appended.
use Rattle.std.proofs.Common.{◌≡◌, ◌≢◌, ℕ, ◌<◌, ◌≤◌, max, List, [], ◌∷◌, ◌++◌, length, Option, Some, None, refl, sym, ap, ◌∙◌, inl, inr, arith}
use Rattle.std.specs.List.{AllByRecursion}
use Rattle.std.proofs.lemmas.List.{set-set}
use Rattle.batch_log.specs.Log.{Batch}
use Rattle.drive_array.specs.Laws.{IsNext}
use Rattle.drive_array.specs.Mountable.{AreSound}
use Rattle.drive_array.specs.Records.{append_log}
use Rattle.drive_array.specs.Sizes.{IsUpTo, array_of, encoded_size, greatest, larger, log_greatest, size_or}
use Rattle.drive_array.specs.Spare.{HasSpare, IsBefore, IsHalfClean, IsMoveFrom, first_sequence}
use Rattle.drive_array.specs.ZoneLogs.{log_at, sequences}
use Rattle.drive_array.proofs.AllLaws.{all-append}
use Rattle.drive_array.proofs.AppendLaws.{log_at-other, log_at-same}
use Rattle.drive_array.proofs.DeadLaws.{greatest-absorbs}
use Rattle.drive_array.proofs.SizeLaws.{append_keeps_spare, larger-assoc, log_greatest-more}
use Rattle.drive_array.proofs.SequenceLaws.{first-below, zone-sequences}
use Rattle.zone_cleaner.specs.Clean.{AreMoves, Follows}

-- ---- sizes of one zone

up-to : (n size : ℕ) (d g : Option ℕ) → larger d g ≡ g → size_or n g ≤ size → IsUpTo size d
up-to n size None g e le = tt
up-to n size (Some a) None e le = absurd (cc)
up-to n size (Some a) (Some s) e le = let same : max a s ≡ s = some-inj (max a s) s e in omega (arith, same, le)
  where
    some-inj : (a b : ℕ) → Some a ≡ Some b → a ≡ b
    some-inj a b e = cc

-- no zone says a greater size than the logs encode
size-few : (n size zone : ℕ) (logs : List (List Batch)) → zone < length logs → encoded_size n logs ≤ size → IsUpTo size (log_greatest (log_at logs zone))
size-few n size zone logs lt le = up-to n size (log_greatest (log_at logs zone)) (greatest logs) (greatest-absorbs logs zone lt) le

larger-some : (d : Option ℕ) (size : ℕ) → IsUpTo size d → larger d (Some size) ≡ Some size
larger-some None size le = refl
larger-some (Some a) size le = ap (λ (k : ℕ). Some k) (omega arith)

-- ---- a Move more

follows-more : (old log : List Batch) (b : Batch) (size : ℕ) → IsBefore (first_sequence old) (Some b.heading.sequence) → IsUpTo size (log_greatest old) → b.heading.size ≡ Some size → Follows old log → Follows old (log ++ b ∷ [])
follows-more old [] b size first le has is = (first, ap (λ (s : Option ℕ). larger (log_greatest old) (larger s None)) has ∙ larger-some (log_greatest old) size le ∙ sym (ap (λ (s : Option ℕ). larger s None) has))
follows-more old (x ∷ log) b size first le has is =
    let v = log_greatest old in
    let d = log_greatest (x ∷ log) in
    let more : log_greatest ((x ∷ log) ++ b ∷ []) ≡ larger d b.heading.size = log_greatest-more (x ∷ log) b in
    (is.0, ap (larger v) more ∙ larger-assoc v d b.heading.size ∙ ap (λ (s : Option ℕ). larger s b.heading.size) is.1 ∙ sym more)

-- The next batch is a Move of what the array has: it keeps the array.
pub record KeepsByMove (block_bytes n : ℕ) (logs : List (List Batch)) (victim destination size : ℕ) (b : Batch) : Type 0 where
  pub move : IsMoveFrom victim b
  pub has : b.heading.size ≡ Some size
  pub grows : encoded_size n logs ≤ size
  pub greatest : AllByRecursion (λ sequence. sequence < b.heading.sequence) (sequences logs)
  pub some : 1 ≤ length (log_at logs victim)
  pub same : array_of block_bytes n (append_log logs destination b) ≡ array_of block_bytes n logs

-- one Move more from the victim to the destination
pub moves-more : (block_bytes n victim destination size : ℕ) (logs : List (List Batch)) (b : Batch) → victim < length logs → destination < length logs → victim ≢ destination → KeepsByMove block_bytes n logs victim destination size b
    → AreMoves block_bytes n logs victim destination → AreMoves block_bytes n (append_log logs destination b) victim destination
moves-more block_bytes n victim destination size logs b in_range lt apart keeps is =
    let there : log_at (append_log logs destination b) destination ≡ log_at logs destination ++ b ∷ [] = log_at-same logs destination b lt in
    let other : log_at (append_log logs destination b) victim ≡ log_at logs victim = log_at-other logs destination victim b apart in
    let first = first-below b.heading.sequence (log_at logs victim) (zone-sequences (λ s. s < b.heading.sequence) logs victim keeps.greatest) keeps.some in
    record {
      moves = rw there (all-append (IsMoveFrom victim) (log_at logs destination) (b ∷ []) is.moves (keeps.move, tt));
      follows = rw (there, other) (follows-more (log_at logs victim) (log_at logs destination) b size first (size-few n size victim logs in_range keeps.grows) keeps.has is.follows);
      spare = ap (array_of block_bytes n) (set-set logs destination (log_at logs destination ++ b ∷ []) []) ∙ is.spare ∙ sym keeps.same;
    }

-- ---- a batch of the host

-- a batch elsewhere leaves the Moves
pub moves-beside : (block_bytes limit n zone victim destination size : ℕ) (logs : List (List Batch)) (b : Batch) → zone < length logs → zone ≢ victim → zone ≢ destination → AreSound limit n logs → IsNext limit n logs size b
    → AreMoves block_bytes n logs victim destination → AreMoves block_bytes n (append_log logs zone b) victim destination
moves-beside block_bytes limit n zone victim destination size logs b lt away apart sound next is =
    let there : log_at (append_log logs zone b) destination ≡ log_at logs destination = log_at-other logs zone destination b (λ e. apart (sym e)) in
    let other : log_at (append_log logs zone b) victim ≡ log_at logs victim = log_at-other logs zone victim b (λ e. away (sym e)) in
    record {
      moves = rw there is.moves;
      follows = rw (there, other) is.follows;
      spare = (append_keeps_spare block_bytes limit n zone destination size logs b lt apart sound next).spare_is is.spare;
    }

-- ---- a stop at any moment

-- the destination is vacant, or half clean
moves-spare : (block_bytes n victim destination : ℕ) (logs : List (List Batch)) → victim ≢ destination → AreMoves block_bytes n logs victim destination → (x : Batch) (log : List Batch) → log_at logs destination ≡ x ∷ log → IsHalfClean block_bytes n logs destination
moves-spare block_bytes n victim destination logs apart is x log e = record {
  victim = victim;
  apart = apart;
  moves = is.moves;
  older = (let follows = rw e at is.follows in rw e follows.0);
  spare = is.spare;
}

-- so a zone is spare at any moment of a clean
pub moves_have_spare : (block_bytes n victim destination : ℕ) (logs : List (List Batch)) → victim ≢ destination → destination < length logs → AreMoves block_bytes n logs victim destination → HasSpare block_bytes n logs
moves_have_spare block_bytes n victim destination logs apart lt is = by (log_at logs destination) refl
  where
    by : (log : List Batch) → log_at logs destination ≡ log → HasSpare block_bytes n logs
    by [] e = record { zone = destination; in_range = lt; spare = inl e }
    by (x ∷ log) e = record { zone = destination; in_range = lt; spare = inr (moves-spare block_bytes n victim destination logs apart is x log e) }
