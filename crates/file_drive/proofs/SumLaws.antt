-- The sums of zones.
use Rattle.std.proofs.Common.{◌≡◌, ℕ, zero, suc, ◌+◌, ◌-◌, ◌*◌, ◌^◌, ◌<◌, ◌≤◌, ◌++◌, Bool, true, false, cond, eqb, leb, not, ◌||◌, List, [], ◌∷◌, length, take, drop, set, Result, Ok, Err, refl, sym, subst, ap, ◌∙◌, inl, inr, arith}
use Rattle.std.proofs.lemmas.Bool.{cases_eq, eq-eqb, eqb-true, leb-true}
use Rattle.std.proofs.lemmas.List.{drop-append-le, drop-drop, drop-take, get_or-set_other, get_or-set_same, length-drop, take-append-le, take-take}
use Rattle.nvme_wire.specs.declared.command.Action.{Action}
use Rattle.nvme_wire.specs.declared.command.Action.TheVariants as actions
use Rattle.nvme_wire.specs.declared.status.Status.{Status}
use Rattle.nvme_wire.specs.declared.zone_state.ZoneState.{ZoneState}
use Rattle.zone_states.specs.declared.geometry.Geometry.{Geometry}
use Rattle.zone_states.specs.Transition.{state_after}
use Rattle.file_drive.specs.InFile.{AreSummed, entry_at, flushed_at, is_apart, is_summed}
use Rattle.file_drive.specs.Layout.{SamePlaces, at_place, file_length, part}
use Rattle.file_drive.specs.Sums.{has_moved, kept_blocks, sum_after, sum_of, zone_sum}
use Rattle.file_drive.specs.Tables.{acted, entry_after, place_of, zone_in}
use Rattle.file_drive.specs.declared.entry.Entry.{Entry}
use Rattle.file_drive.proofs.PlaceLaws.{place-low, zone-ends}

-- ---- sums

-- a sum has 27 bits
pub sum-after-few : (sum : ℕ) (block : List ℕ) → sum_after sum block < 2 ^ 27
unfolding sum_after
sum-after-few sum block = omega arith

pub sum-few : (block count sum : ℕ) (bytes : List ℕ) → sum < 2 ^ 27 → sum_of block count sum bytes < 2 ^ 27
sum-few block zero sum bytes few = few
sum-few block (suc count) sum bytes few = sum-few block count (sum_after sum (take block bytes)) (drop block bytes) (sum-after-few sum (take block bytes))

-- the sum of some blocks, and then of others
pub sum-join : (block count more sum : ℕ) (xs ys : List ℕ) → length xs ≡ count * block → sum_of block (count + more) sum (xs ++ ys) ≡ sum_of block more (sum_of block count sum xs) ys
sum-join block zero more sum [] ys long =
    let all : zero + more ≡ more = omega arith in
    rw all refl
sum-join block zero more sum (x ∷ xs) ys long = absurd (omega (arith, long))
sum-join block (suc count) more sum xs ys long =
    let all : suc count + more ≡ suc (count + more) = omega arith in
    let few : block ≤ length xs = omega (arith, long) in
    let rest : length (drop block xs) ≡ count * block = omega (arith, length-drop block xs, long) in
    rw all (ap (λ (b : List ℕ). sum_of block (count + more) (sum_after sum b) (drop block (xs ++ ys))) (take-append-le block xs ys few)
    ∙ ap (λ (r : List ℕ). sum_of block (count + more) (sum_after sum (take block xs)) r) (drop-append-le block xs ys few)
    ∙ sum-join block count more (sum_after sum (take block xs)) (drop block xs) ys rest)

-- the sum of the first blocks, and of the next
pub sum-next : (block count sum : ℕ) (bytes : List ℕ) → (count + 1) * block ≤ length bytes
    → sum_of block (count + 1) sum bytes ≡ sum_after (sum_of block count sum bytes) (take block (drop (count * block) bytes))
sum-next block zero sum bytes long =
    let none : zero * block ≡ 0 = omega arith in
    ap (λ (n : ℕ). sum_after sum (take block (drop n bytes))) (sym none)
sum-next block (suc count) sum bytes long =
    let more : suc count + 1 ≡ suc (count + 1) = omega arith in
    let long' : (count + 1) * block ≤ length (drop block bytes) = omega (arith, length-drop block bytes, long) in
    let there : drop (suc count * block) bytes ≡ drop (count * block) (drop block bytes) = ap (λ (n : ℕ). drop n bytes) (omega arith) ∙ sym (drop-drop (count * block) block bytes) in
    ap (λ (n : ℕ). sum_of block n sum bytes) more
    ∙ sum-next block count (sum_after sum (take block bytes)) (drop block bytes) long'
    ∙ ap (λ (xs : List ℕ). sum_after (sum_of block count (sum_after sum (take block bytes)) (drop block bytes)) (take block xs)) (sym there)

-- a piece of a part is one of the file
pub part-piece : (file : List ℕ) (at n from count : ℕ) → from + count ≤ n → take count (drop from (part file at n)) ≡ part file (at + from) count
part-piece file at n from count low =
    let rest = n - from in
    let all : n ≡ from + rest = omega (arith, low) in
    let inner : drop from (part file at n) ≡ take rest (drop (at + from) file) =
    ap (λ (k : ℕ). drop from (take k (drop at file))) all ∙ drop-take from rest (drop at file) ∙ ap (take rest) (drop-drop from at file ∙ ap (λ (k : ℕ). drop k file) (omega arith)) in
    ap (take count) inner ∙ take-take count rest (drop (at + from) file) (omega (arith, low))

-- and so is its end
pub part-end : (file : List ℕ) (at n from : ℕ) → from ≤ n → drop from (part file at n) ≡ part file (at + from) (n - from)
part-end file at n from low =
    let rest = n - from in
    let all : n ≡ from + rest = omega (arith, low) in
    ap (λ (k : ℕ). drop from (take k (drop at file))) all ∙ drop-take from rest (drop at file) ∙ ap (take rest) (drop-drop from at file ∙ ap (λ (k : ℕ). drop k file) (omega arith))

-- ---- one zone

-- the flush has no more blocks in the place of a zone than are written
pub kept-few : (last entry : Entry) → is_apart last entry ≡ true → kept_blocks last entry ≤ entry.written
kept-few last entry = by (has_moved last entry)
  where
    by : (moved : Bool) → (moved || leb last.written entry.written) ≡ true → cond moved 0 last.written ≤ entry.written
    by true e = omega arith
    by false e = leb-true last.written entry.written e

two-parts : (a b n : ℕ) → (a + b) * n ≡ a * n + b * n
two-parts a b n = omega arith

-- the sum of more blocks
pub zone-sum-more : (block : ℕ) (last entry next : Entry) (old bytes : List ℕ) (blocks : ℕ) → next.second ≡ entry.second → next.written ≡ entry.written + blocks → kept_blocks last entry ≤ entry.written
    → length old ≡ entry.written * block → zone_sum block last next (old ++ bytes) ≡ sum_of block blocks (zone_sum block last entry old) bytes
zone-sum-more block last entry next old bytes blocks second written few long =
    let kept = kept_blocks last entry in
    let more = entry.written - kept in
    let is : kept_blocks last next ≡ kept = rw second refl in
    let all : next.written - kept ≡ more + blocks = omega (arith, written, few) in
    let whole : entry.written ≡ kept + more = omega (arith, few) in
    let spread : entry.written * block ≡ kept * block + more * block = ap (λ (n : ℕ). n * block) whole ∙ two-parts kept more block in
    let low : kept * block ≤ length old = omega (arith, long, spread) in
    let rest : length (drop (kept * block) old) ≡ more * block = omega (arith, length-drop (kept * block) old, long, spread) in
    rw (is, all, drop-append-le (kept * block) old bytes low) (sum-join block more blocks last.sum (drop (kept * block) old) bytes rest)

-- ---- the blocks that were written since the last flush

module _ (g : Geometry) (file : List ℕ) (index : ℕ) (last entry : Entry) (kept : kept_blocks last entry ≤ entry.written) where
  abbrev from : ℕ
  from = kept_blocks last entry * g.block

  abbrev count : ℕ
  count = entry.written - kept_blocks last entry

  all-blocks : entry.written * g.block ≡ from + count * g.block
  all-blocks = ap (λ (n : ℕ). n * g.block) (whole (kept_blocks last entry) entry.written kept) ∙ two-parts (kept_blocks last entry) count g.block
    where
      whole : (k n : ℕ) → k ≤ n → n ≡ k + (n - k)
      whole k n low = omega (arith, low)

  -- they end in the file
  pub stretch-ends : length file ≡ file_length g → index < g.zones → entry.written ≤ g.capacity → at_place g (place_of index entry) + from + count * g.block ≤ length file
  stretch-ends long low few =
      let end = zone-ends g (place_of index entry) (2 * g.zones) entry.written (place-low index g.zones entry low) few in
      omega (arith, end, all-blocks, long)

  -- the sum of a zone is theirs, after that of the flush
  pub stretch-sum : is_summed g file index last entry ≡ eqb (sum_of g.block count last.sum (part file (at_place g (place_of index entry) + from) (count * g.block))) entry.sum
  stretch-sum =
      let place = at_place g (place_of index entry) in
      let low : from ≤ entry.written * g.block = omega (arith, all-blocks) in
      let rest : entry.written * g.block - from ≡ count * g.block = omega (arith, all-blocks) in
      ap (λ (xs : List ℕ). eqb (sum_of g.block count last.sum xs) entry.sum) (part-end file place (entry.written * g.block) from low ∙ ap (part file (place + from)) rest)

-- a zone that the last flush has as it is
unmoved : (a b : Bool) → b ≡ a → cond a (not b) b ≡ false
unmoved true b same = rw same refl
unmoved false b same = same

pub summed-flushed : (g : Geometry) (file : List ℕ) (number : ℕ) (last entry : Entry) → entry.second ≡ last.second → entry.written ≡ last.written → entry.sum ≡ last.sum → is_summed g file number last entry ≡ true
summed-flushed g file number last entry second written sum =
    let still : has_moved last entry ≡ false = unmoved last.second entry.second second in
    let none : entry.written - last.written ≡ 0 = omega (arith, written) in
    rw (still, none) (eq-eqb last.sum entry.sum (sym sum))

-- a zone that has the same sum, and as many blocks in the same place
pub summed-same : (g : Geometry) (file : List ℕ) (number : ℕ) (last entry next : Entry) → next.second ≡ entry.second → next.written ≡ entry.written → next.sum ≡ entry.sum
    → is_summed g file number last entry ≡ true → is_summed g file number last next ≡ true
summed-same g file number last entry next second written sum was = rw (second, written, sum) was

-- a zone after an action
pub acted-summed : (g : Geometry) (file : List ℕ) (number : ℕ) (action : Action) (last entry : Entry) → is_summed g file number last entry ≡ true → is_summed g file number last (acted action last entry) ≡ true
acted-summed g file number action last entry was = after (state_after entry.state action) action
  where
    after : (next : Result ZoneState Status) (action : Action) → is_summed g file number last (entry_after action last entry next) ≡ true
    after (Err status) action = was
    after (Ok state) actions.Reset =
        let none : 0 - kept_blocks last (entry_after actions.Reset last entry (Ok state)) ≡ 0 = omega arith in
        rw none (eq-eqb last.sum last.sum refl)
    after (Ok state) actions.Open = was
    after (Ok state) actions.Close = was
    after (Ok state) actions.Finish = was
    after (Ok state) actions.Offline = was

-- a Close keeps the blocks of a zone
pub close-written : (last entry : Entry) → (acted actions.Close last entry).written ≡ entry.written
close-written last entry = after (state_after entry.state actions.Close)
  where
    after : (next : Result ZoneState Status) → (entry_after actions.Close last entry next).written ≡ entry.written
    after (Err status) = refl
    after (Ok state) = refl

-- the sum of such a zone has 27 bits
pub summed-few : (g : Geometry) (file : List ℕ) (number : ℕ) (last entry : Entry) → last.sum < 2 ^ 27 → is_summed g file number last entry ≡ true → entry.sum < 2 ^ 27
summed-few g file number last entry few is =
    let kept = kept_blocks last entry in
    let bytes = drop (kept * g.block) (zone_in g file number entry).bytes in
    subst (λ (n : ℕ). n < 2 ^ 27) (eqb-true _ _ is) (sum-few g.block (entry.written - kept) last.sum bytes few)

-- ---- all zones

-- after a change that keeps their blocks
pub summed-parts : (g : Geometry) (old new words : List ℕ) (entries : List Entry) → ((number : ℕ) → number < g.zones → (entry_at entries number).written ≤ g.capacity
    → part new (at_place g (place_of number (entry_at entries number))) ((entry_at entries number).written * g.block) ≡ part old (at_place g (place_of number (entry_at entries number))) ((entry_at entries number).written * g.block))
    → AreSummed g old words entries → AreSummed g new words entries
summed-parts g old new words entries same was number low few = rw (same number low few) (was number low few)

pub summed-places : (g : Geometry) (old new words : List ℕ) (entries : List Entry) → SamePlaces g old new → AreSummed g old words entries → AreSummed g new words entries
summed-places g old new words entries same was =
    summed-parts g old new words entries (λ number low few.
    same (place_of number (entry_at entries number)) (entry_at entries number).written (place-low number g.zones (entry_at entries number) low) few) was

-- of one zone something else is known
pub summed-set : (g : Geometry) (file words : List ℕ) (entries : List Entry) (index : ℕ) (entry : Entry) → index < length entries → AreSummed g file words entries
    → (index < g.zones → entry.written ≤ g.capacity → is_summed g file index (flushed_at words index) entry ≡ true) → AreSummed g file words (set entries index entry)
summed-set g file words entries index entry inside was one number low few = elim (cases_eq number index) [
  | inl is ↦
      let here : entry_at (set entries index entry) number ≡ entry = ap (entry_at (set entries index entry)) is ∙ get_or-set_same entries index entry _ inside in
      let there : is_summed g file number (flushed_at words number) entry ≡ true = rw is (one (rw is at low) (rw here at few)) in
      rw here there
  | inr away ↦
      let other : entry_at (set entries index entry) number ≡ entry_at entries number = get_or-set_other entries index number entry _ away in
      rw other (was number low (rw other at few))
]
