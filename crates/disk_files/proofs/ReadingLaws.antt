-- A line is read part by part.
use Rattle.std.proofs.Common.{◌≡◌, ◌≢◌, ℕ, ◌+◌, ◌<◌, ◌≤◌, true, false, not, List, [], ◌∷◌, ◌++◌, length, Option, Some, None, Ok, Err, refl, sym, ap, ◌∙◌, arith, append_assoc}
use Rattle.std.specs.Prelude.{IfSome, get_or, is_some, position}
use Rattle.std.specs.List.{position_or_len}
use Rattle.std.specs.Io.KnownBytes.{Consumes, IsAtEnd, Keeps, prepend_known}
use Rattle.std.proofs.lemmas.List.{append-nil, drop-drop, drop_all, drop_at, get_or_append_left, get_or_at, length-append, length-take, take_all, take_at}
use Rattle.std.proofs.lemmas.List.Elements.{All-append}
use Rattle.std.proofs.lemmas.List.Folds.{prefix_len-append}
use Rattle.std.proofs.lemmas.List.Quantifiers.{position-Some}
use Rattle.std.proofs.lemmas.List.Sums.{position_or_len_is}
use Rattle.std.proofs.lemmas.Bool.Decides.{nat_tests}
use Rattle.disk_files.specs.Ahead.{PutsAfter}
use Rattle.disk_files.specs.Line.{NoFeed, ReadsLine, after_line, feed, first_line, is_feed}
use Rattle.disk_files.specs.declared.line_reader.LineFault.TheVariants.{Long}
use Rattle.disk_files.specs.declared.line_reader.TheConstants.{LONGEST_LINE}

-- ---- the first line of bytes

module _ (line : List ℕ) (none : NoFeed line) where
  place_none : position_or_len is_feed line ≡ length line
  place_none = position_or_len_is is_feed line (length line) 0 (omega arith) (λ k lt. none k 0 lt) (λ lt. absurd (omega arith))

  place_feed : (rest : List ℕ) → position_or_len is_feed (line ++ feed ∷ rest) ≡ length line
  place_feed rest =
      let bytes = line ++ feed ∷ rest in
      let long : length line ≤ length bytes = omega (arith, length-append line (feed ∷ rest)) in
      position_or_len_is is_feed bytes (length line) 0 long (λ k lt. rw get_or_append_left (none k 0 lt)) (λ lt. rw (get_or_at line feed rest 0 (length line) refl) refl)

  place_more : (rest : List ℕ) → length line ≤ position_or_len is_feed (line ++ rest)
  place_more rest = grind (arith, nat_tests, prefix_len-append (λ b. not (is_feed b)) line rest, place_none)

  -- the first line of a line, a line feed and more bytes is that line
  pub first_line-feed : (rest : List ℕ) → first_line (line ++ feed ∷ rest) ≡ line
  first_line-feed rest = rw (place_feed rest) (take_at line (feed ∷ rest) (length line) refl)

  -- what comes after that first line is what follows its line feed
  pub after_line-feed : (rest : List ℕ) → after_line (line ++ feed ∷ rest) ≡ rest
  after_line-feed rest = rw (place_feed rest, ← drop-drop 1 (length line) (line ++ feed ∷ rest), drop_at line (feed ∷ rest) (length line) refl) refl

  first_line-none : first_line line ≡ line
  first_line-none = take_all (position_or_len is_feed line) line (omega (arith, place_none))

  after_line-none : after_line line ≡ []
  after_line-none = drop_all (position_or_len is_feed line + 1) line (omega (arith, place_none))

  length-first_line : (rest : List ℕ) → length line ≤ length (first_line (line ++ rest))
  length-first_line rest = omega (arith, place_more rest, length-take (position_or_len is_feed (line ++ rest)) (line ++ rest), length-append line rest)

-- ---- where the bytes are known

-- the line feed is read
pub line_done : (old mid new : Option (List ℕ)) (before line bytes : List ℕ) → NoFeed before → Consumes old mid before
    → PutsAfter before line bytes → Consumes mid new (bytes ++ feed ∷ []) → ReadsLine old new line (Ok true)
line_done None mid new before line bytes none p puts q = tt
line_done (Some xs) None new before line bytes none p puts q = absurd p
line_done (Some xs) (Some ys) None before line bytes none p puts q = absurd q
line_done (Some xs) (Some ys) (Some zs) before line bytes none p puts q =
    let clean : NoFeed (before ++ bytes) = All-append (λ b. is_feed b ≡ false) before bytes none puts.no_feed in
    let text : xs ≡ (before ++ bytes) ++ feed ∷ zs = p ∙ rw (q, append_assoc bytes (feed ∷ []) zs, append_assoc before bytes (feed ∷ zs)) refl in
    record {
      some = λ e. absurd (omega (arith, ap length (sym text ∙ e), length-append (before ++ bytes) (feed ∷ zs)));
      line_is = puts.text ∙ rw (text, first_line-feed (before ++ bytes) clean zs) refl;
      rest_is = rw (text, after_line-feed (before ++ bytes) clean zs) refl;
    }

-- the reader ends after a line
pub line_ends : (old mid new : Option (List ℕ)) (line : List ℕ) → NoFeed line → Consumes old mid line → Keeps mid new → IsAtEnd new → line ≢ [] → ReadsLine old new line (Ok true)
line_ends None mid new line none p q end some = tt
line_ends (Some xs) None new line none p q end some = absurd p
line_ends (Some xs) (Some ys) None line none p q end some = absurd q
line_ends (Some xs) (Some ys) (Some zs) line none p q end some =
    let text : xs ≡ line = p ∙ rw (← q, end) (append-nil line) in
    record {
      some = λ e. some (sym text ∙ e);
      line_is = rw (text, first_line-none line none) refl;
      rest_is = end ∙ rw (text, after_line-none line none) refl;
    }

-- no line feed is found in time
pub too_long : (old new : Option (List ℕ)) (line : List ℕ) → NoFeed line → Consumes old new line → LONGEST_LINE < length line → ReadsLine old new line (Err Long)
too_long None new line none p long = tt
too_long (Some xs) None line none p long = absurd p
too_long (Some xs) (Some ys) line none p long = (record { no_feed = none; text = p }, rw p (omega (arith, length-first_line line none ys)))

-- ---- a line feed ahead

feed_left : (ahead rest : List ℕ) (found : Option ℕ) → position is_feed ahead ≡ found → is_some found ≡ true → NoFeed (ahead ++ rest) → ⊥
feed_left ahead rest None e some none = let bad : false ≡ true = some in cc
feed_left ahead rest (Some place) e some none =
    let first = position-Some is_feed ahead place 0 e in
    let inside : place < length (ahead ++ rest) = omega (arith, first.0, length-append ahead rest) in
    let no : is_feed (get_or ahead place 0) ≡ false = rw (get_or_append_left, first.0) at (none place 0 inside) in
    let bad : false ≡ true = sym no ∙ first.1 in cc

-- it is one of the bytes that are left
pub feed_ahead : (ahead : List ℕ) (rest : Option (List ℕ)) → is_some (position is_feed ahead) ≡ true → IfSome (prepend_known ahead rest) (λ bytes. NoFeed bytes → ⊥)
feed_ahead ahead None some = tt
feed_ahead ahead (Some rest) some = feed_left ahead rest (position is_feed ahead) refl some
