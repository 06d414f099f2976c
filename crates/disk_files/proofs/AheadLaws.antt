-- Bytes of a line are taken from those that were read ahead.
use Rattle.std.proofs.Common.{◌≡◌, ◌≢◌, ◌==◌, ℕ, ◌+◌, ◌-◌, ◌<◌, ◌≤◌, true, List, [], ◌∷◌, ◌++◌, length, take, drop, get_or, Some, None, Ok, refl, sym, ap, ◌∙◌, arith, append_assoc}
use Rattle.std.specs.Prelude.{position, slice_range}
use Rattle.std.proofs.lemmas.Bool.{eqb-true}
use Rattle.std.proofs.lemmas.List.{drop-drop, drop-take, drop_more, get_or-take, length-drop, length-take, take-append-drop, take-take, take_min, drop_min}
use Rattle.std.proofs.Math.Seq.{take-add}
use Rattle.std.proofs.lemmas.List.Quantifiers.{position-Some}
use Rattle.disk_files.specs.Ahead.{ReadsPart}
use Rattle.disk_files.specs.Line.{NoFeed, feed, is_feed}
use Rattle.disk_files.specs.declared.ahead.Part.TheVariants.{Front, Line}
use Rattle.disk_files.proofs.PlaceLaws.{All-None}

slice_range-drop : (bytes : List ℕ) (start end k : ℕ) → start + k ≤ end → slice_range bytes (start + k) end ≡ drop k (slice_range bytes start end)
slice_range-drop bytes start end k fits =
    let n : end - start ≡ k + (end - (start + k)) = omega arith in
    rw (n, drop-take, drop-drop) refl

-- a line feed is at a place among the first m bytes, and none before it
record EndsAt (ahead : List ℕ) (m place : ℕ) : Type 0 where
  within : place < length (take m ahead)
  below : place < m
  no_feed : NoFeed (take place (take m ahead))
  text : ahead ≡ (take place (take m ahead) ++ feed ∷ []) ++ drop (place + 1) ahead

ends_at : (ahead : List ℕ) (m place : ℕ) → position is_feed (take m ahead) ≡ Some place → EndsAt ahead m place
ends_at ahead m place e =
    let front = take m ahead in
    let first = position-Some is_feed front place 0 e in
    let below : place < m = omega (arith, first.0, length-take m ahead) in
    let inside : place < length ahead = omega (arith, first.0, length-take m ahead) in
    let short : place ≤ m = omega arith in
    let fed : get_or ahead place 0 ≡ feed = eqb-true (get_or ahead place 0) feed (rw get_or-take at first.1) in
    record {
      within = first.0;
      below = below;
      no_feed = λ k d lt.
          let before : k < place = omega (arith, lt, length-take place front) in
          rw get_or-take ((position-Some is_feed front place d e).2 k before);
      text = sym (take-append-drop place ahead) ∙ rw (take-take place m ahead short, append_assoc, ← fed, ← drop_more ahead place 0 inside) refl;
    }

module _ (bytes : List ℕ) (first last start end : ℕ) (begins : first ≤ last) (joins : (last == start) ≡ true) (order : start ≤ end) where
  joined : last ≡ start
  joined = eqb-true last start joins

  -- a line that continues by the next k bytes
  line_longer : (k : ℕ) → k ≤ end - start → slice_range bytes first (start + k) ≡ slice_range bytes first last ++ take k (slice_range bytes start end)
  line_longer k fits =
      let n : start + k - first ≡ (start - first) + k = omega (arith, begins, joined) in
      let sum : first + (start - first) ≡ start = omega (arith, begins, joined) in
      rw (n, take-add (start - first) k (drop first bytes), drop-drop, sum, joined, take-take k (end - start) (drop start bytes) fits) refl

  -- if a line feed is among the next m bytes, the line is taken up to it
  pub line_taken : (m room place : ℕ) → m ≤ room → position is_feed (take m (slice_range bytes start end)) ≡ Some place
      → ReadsPart (Some (slice_range bytes start end)) (Some (slice_range bytes (start + (place + 1)) end)) room (slice_range bytes first last) (slice_range bytes first (start + place)) (Ok Line)
  line_taken m room place fits e =
      let ahead = slice_range bytes start end in
      let ends = ends_at ahead m place e in
      let short : place ≤ m = omega (arith, ends.below) in
      let inside : start + (place + 1) ≤ end = omega (arith, order, ends.within, length-take m ahead, length-take (end - start) (drop start bytes)) in (
        take place (take m ahead),
        record { text = rw (take-take place m ahead short) (line_longer place (omega (arith, inside))); no_feed = ends.no_feed },
        ends.text ∙ rw (slice_range-drop bytes start end (place + 1) inside) refl,
        omega (arith, ends.below, length-take place (take m ahead)),
      )

  -- if some bytes are ahead, and the next m have no line feed, all of these are taken
  pub front_taken : (m room : ℕ) → m ≤ room → position is_feed (take m (slice_range bytes start end)) ≡ None → length (take m (slice_range bytes start end)) ≢ 0
      → ReadsPart (Some (slice_range bytes start end)) (Some (slice_range bytes (start + length (take m (slice_range bytes start end))) end)) room (slice_range bytes first last) (slice_range bytes first (start + length (take m (slice_range bytes start end)))) (Ok Front)
  front_taken m room fits e some =
      let ahead = slice_range bytes start end in
      let n = length (take m ahead) in
      let inside : start + n ≤ end = omega (arith, order, length-take m ahead, length-take (end - start) (drop start bytes)) in
      let same : take n ahead ≡ take m ahead = rw (length-take m ahead) (take_min m ahead) in (
        take m ahead,
        record { text = line_longer n (omega (arith, inside)) ∙ rw same refl; no_feed = All-None is_feed (take m ahead) e },
        sym (take-append-drop m ahead) ∙ rw (slice_range-drop bytes start end n inside, length-take m ahead, drop_min m ahead) refl,
        λ none. some (ap length none),
        omega (arith, length-take m ahead),
      )

-- ---- a read after a line

-- what is before the end stays
pub same_front : (old new : List ℕ) (first last end : ℕ) → take end new ≡ take end old → first ≤ last → last ≤ end → slice_range new first last ≡ slice_range old first last
same_front old new first last end same order inside =
    let sum : first + (last - first) ≡ last = omega (arith, order) in
    let e : take last new ≡ take last old = sym (take-take last end new inside) ∙ ap (take last) same ∙ take-take last end old inside in
    sym (drop-take first (last - first) new) ∙ rw sum (ap (drop first) e) ∙ drop-take first (last - first) old

-- nothing is ahead where the place is the end
pub none_ahead : (bytes : List ℕ) (start end : ℕ) → slice_range bytes start end ≡ [] → start ≤ end → end ≤ length bytes → start ≡ end
none_ahead bytes start end none order inside = omega (arith, order, inside, ap length none, length-take (end - start) (drop start bytes), length-drop start bytes)
