-- The lines of a trace: what each says by its words, and the data that a `write` has.
use Rattle.std.specs.Prelude.{ℕ, ◌==◌, ◌^◌, if◌then◌else◌, Bool, true, List, [], ◌∷◌, codes, bytes_eq, Option, Some, None, option_map}
use Rattle.disk_files.specs.Words.{below, byte_of, data_of, number_of, words_of, ◌>>=◌}
use Rattle.disk_files.specs.declared.trace_line.TraceLine.{TraceLine}
use Rattle.disk_files.specs.declared.trace_line.TraceLine.TheVariants.{Read, Fill, Write, Trim, Idle, Grow, Remount}
use Rattle.disk_files.specs.declared.trace_line.Name.{Name}
use Rattle.disk_files.specs.declared.trace_line.Name.TheVariants as names

-- an empty line is skipped, and one that begins with `#`
abbrev pub is_skipped : List ℕ → Bool
is_skipped [] = true
is_skipped (b ∷ bs) = b == 35

-- the names of the lines without data
abbrev pub name_of : List ℕ → Option Name
name_of word =
    if bytes_eq word (codes "remount") then Some names.Remount
    else if bytes_eq word (codes "read") then Some names.Read
    else if bytes_eq word (codes "fill") then Some names.Fill
    else if bytes_eq word (codes "trim") then Some names.Trim
    else if bytes_eq word (codes "idle") then Some names.Idle
    else if bytes_eq word (codes "grow") then Some names.Grow
    else None

-- `L N`, of `read` and `trim`
abbrev pub range_of : List (List ℕ) → Option (ℕ × ℕ)
range_of (first ∷ blocks ∷ []) = do
  l ← number_of first
  n ← number_of blocks
  Some (l, n)
range_of words = None

-- `L N BB`, of `fill`
abbrev pub fill_of : List (List ℕ) → Option TraceLine
fill_of (first ∷ blocks ∷ byte ∷ []) = do
  l ← number_of first
  n ← number_of blocks
  b ← byte_of byte
  Some (Fill l n b)
fill_of words = None

-- `K` of `idle`, `N2` of `grow`
abbrev pub only_number : List (List ℕ) → Option ℕ
only_number (word ∷ []) = number_of word
only_number words = None

-- `L HEX`, of `write`
abbrev pub write_of : List (List ℕ) → Option (TraceLine × List ℕ)
write_of (first ∷ digits ∷ []) = do
  l ← number_of first
  bytes ← data_of digits
  Some (Write l, bytes)
write_of words = None

-- what a line of each name says, by the words after its name; after `remount` there is none
abbrev pub line_of : Name → List (List ℕ) → Option TraceLine
line_of names.Read words = do
  range ← range_of words
  Some (Read range.0 range.1)
line_of names.Fill words = fill_of words
line_of names.Trim words = do
  range ← range_of words
  Some (Trim range.0 range.1)
line_of names.Idle words = do
  number ← only_number words
  turns ← below (2 ^ 32) number
  Some (Idle turns)
line_of names.Grow words = do
  blocks ← only_number words
  Some (Grow blocks)
line_of names.Remount [] = Some Remount
line_of names.Remount words = None

-- what a line without data says, by its name and the words after it
abbrev pub plain_of : List ℕ → List (List ℕ) → Option TraceLine
plain_of word words = do
  name ← name_of word
  line_of name words

-- what a line says, and its data: only a `write` has any
abbrev pub line_of_words : List (List ℕ) → Option (TraceLine × List ℕ)
line_of_words [] = None
line_of_words (word ∷ words) =
    if bytes_eq word (codes "write") then write_of words
    else option_map (λ call. (call, [])) (plain_of word words)

abbrev pub trace_line : List ℕ → Option (TraceLine × List ℕ)
trace_line line = line_of_words (words_of line)
