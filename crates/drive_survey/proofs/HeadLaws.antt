-- What the headers of a zone tell of its log.
use Rattle.std.proofs.Common.{◌≡◌, ℕ, ◌<◌, ◌≤◌, max, List, [], ◌∷◌, sym, ◌∙◌, arith}
use Rattle.std.specs.List.{AllByRecursion}
use Rattle.batch_log.specs.declared.header.Entry.{Entry}
use Rattle.batch_log.specs.Log.{Batch}
use Rattle.drive_array.specs.Mountable.{IsInside}
use Rattle.drive_array.specs.Sizes.{larger, log_greatest}
use Rattle.drive_array.proofs.SizeLaws.{larger-assoc, larger-none}
use Rattle.drive_survey.specs.Heads.{HeadsView, heads_after, heads_of, highest_of, no_heads, with_heading}

-- ---- sizes

size-after : (view : HeadsView) (log : List Batch) → (heads_after view log).size ≡ larger view.size (log_greatest log)
size-after view [] = sym (larger-none view.size)
size-after view (b ∷ bs) = size-after (with_heading view b.heading) bs ∙ sym (larger-assoc view.size b.heading.size (log_greatest bs))

-- the size that the headers of a log say is the greatest in its batches
pub size-is : (log : List Batch) → (heads_of log).size ≡ log_greatest log
size-is log = size-after no_heads log

-- ---- the greatest block that is named

highest-least : (n : ℕ) (es : List Entry) → n ≤ highest_of n es
highest-least n [] = omega arith
highest-least n (e ∷ es) = omega (arith, highest-least (max n e.block) es)

highest-named : (n size : ℕ) (es : List Entry) → highest_of n es < size → AllByRecursion (λ (e : Entry). e.block < size) es
highest-named n size [] lt = tt
highest-named n size (e ∷ es) lt = (omega (arith, lt, highest-least (max n e.block) es), highest-named (max n e.block) size es lt)

highest-below : (n size : ℕ) (es : List Entry) → n < size → AllByRecursion (λ (e : Entry). e.block < size) es → highest_of n es < size
highest-below n size [] lt all = lt
highest-below n size (e ∷ es) lt all = highest-below (max n e.block) size es (omega (arith, lt, all.0)) all.1

after-least : (view : HeadsView) (log : List Batch) → view.highest ≤ (heads_after view log).highest
after-least view [] = omega arith
after-least view (b ∷ bs) = omega (arith, highest-least view.highest b.heading.entries, after-least (with_heading view b.heading) bs)

after-named : (view : HeadsView) (size : ℕ) (log : List Batch) → (heads_after view log).highest < size → AllByRecursion (IsInside size) log
after-named view size [] lt = tt
after-named view size (b ∷ bs) lt =
    (highest-named view.highest size b.heading.entries (omega (arith, lt, after-least (with_heading view b.heading) bs)), after-named (with_heading view b.heading) size bs lt)

after-below : (view : HeadsView) (size : ℕ) (log : List Batch) → view.highest < size → AllByRecursion (IsInside size) log → (heads_after view log).highest < size
after-below view size [] lt all = lt
after-below view size (b ∷ bs) lt all = after-below (with_heading view b.heading) size bs (highest-below view.highest size b.heading.entries lt all.0) all.1

-- if the greatest block of the headers is below a size, all batches are inside it
pub highest-inside : (size : ℕ) (log : List Batch) → (heads_of log).highest < size → AllByRecursion (IsInside size) log
highest-inside size log lt = after-named no_heads size log lt

-- batches that name only blocks below a size, at least 1, have a greatest block below it
pub inside-highest : (size : ℕ) (log : List Batch) → 1 ≤ size → AllByRecursion (IsInside size) log → (heads_of log).highest < size
inside-highest size log some all = after-below no_heads size log (omega (arith, some)) all
