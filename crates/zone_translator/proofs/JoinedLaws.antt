-- A read by pieces.
use Rattle.std.proofs.Common.{◌≡◌, ℕ, ◌+◌, ◌-◌, ◌≤◌, List, [], ◌∷◌, ◌++◌, length, take, drop, refl, sym, ap, ◌∙◌, arith, append_assoc, append-nil}
use Rattle.std.specs.List.{concat}
use Rattle.std.proofs.Math.Seq.{take-add}
use Rattle.std.proofs.lemmas.List.{drop-drop, length-append}
use Rattle.std.proofs.lemmas.List.Folds.{concat-append}
use Rattle.zone_translator.specs.Flat.{blocks_from}
use Rattle.zone_translator.specs.Parts.{ReadsPieces}
use Rattle.zone_translator.specs.Read.{ArePieces, IsPiece}
use Rattle.zone_translator.specs.View.{DiskView, disk_places}

-- the blocks of one piece more are shown
pub piece-shown : (array : List (List ℕ)) (first done count block : ℕ) (shown more : List ℕ) → block ≡ first + done → shown ≡ concat (blocks_from array first done) → more ≡ shown ++ concat (blocks_from array block count)
    → more ≡ concat (blocks_from array first (done + count))
piece-shown array first done count block shown more block-is is more-is =
    let rest : drop done (drop first array) ≡ drop block array = drop-drop done first array ∙ ap (λ (n : ℕ). drop n array) (sym block-is) in
    more-is ∙ rw is (sym (ap concat (take-add done count (drop first array) ∙ ap (λ (xs : List (List ℕ)). take done (drop first array) ++ take count xs) rest) ∙ concat-append (blocks_from array first done) (blocks_from array block count)))

-- Of n blocks the first ones were read by these pieces, whatever pieces the others are.
pub record JoinsSoFar (old : DiskView) (first n done : ℕ) (now : DiskView) : Type 0 where
  pub counts : List ℕ
  pub joins : (later : List ℕ) → ArePieces old.drive.geometry (disk_places old) (first + done) (n - done) later → ArePieces old.drive.geometry (disk_places old) first n (counts ++ later)
  pub completed : now.drive.completed ≤ old.drive.completed + length counts
  pub short : length counts ≤ done

pub joins-none : (disk : DiskView) (first n : ℕ) → JoinsSoFar disk first n 0 disk
joins-none disk first n =
    let start : first + 0 ≡ first = omega arith in
    let all : n - 0 ≡ n = omega arith in
    record { counts = []; joins = λ later are. rw (start, all) at are; completed = omega arith; short = omega arith }

pub joins-more : (old now next : DiskView) (first n done block left count : ℕ) → JoinsSoFar old first n done now → block ≡ first + done → left ≡ n - done → IsPiece old.drive.geometry (disk_places old) block left count
    → next.drive.completed ≤ now.drive.completed + 1 → JoinsSoFar old first n (done + count) next
joins-more old now next first n done block left count so_far block-is left-is piece one =
    let end : first + (done + count) ≡ first + done + count = omega arith in
    let rest : n - (done + count) ≡ n - done - count = omega arith in
    let is = rw (block-is, left-is) at piece in
    record {
      counts = so_far.counts ++ (count ∷ []);
      joins = λ later are. rw (append_assoc so_far.counts (count ∷ []) later) (so_far.joins (count ∷ later) (is, rw (end, rest) at are));
      completed = omega (arith, so_far.completed, one, length-append so_far.counts (count ∷ []));
      short = omega (arith, so_far.short, piece.some, length-append so_far.counts (count ∷ []));
    }

pub joins-all : (old new : DiskView) (first n : ℕ) → JoinsSoFar old first n n new → ReadsPieces old first n new
joins-all old new first n so_far =
    let none : n - n ≡ 0 = omega arith in
    record {
      counts = so_far.counts;
      are = rw append-nil at (so_far.joins [] (rw none refl));
      completed = so_far.completed;
    }
