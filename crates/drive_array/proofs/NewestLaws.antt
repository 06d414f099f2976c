-- The newest record of a block, over lists of records that are put together.
use Rattle.std.specs.Prelude.{Contains}
use Rattle.std.proofs.Common.{◌≡◌, ℕ, zero, suc, ◌+◌, ◌<◌, ◌≤◌, Bool, true, false, cond, ltb, eqb, List, [], ◌∷◌, ◌++◌, map, length, set, get_or, Option, Some, None, refl, sym, ap, subst, ◌∙◌, arith, append_assoc, append-nil}
use Rattle.std.specs.List.{range_with_len, AllByRecursion}
use Rattle.std.proofs.lemmas.Bool.{lt-ltb, le-ltb, ltb-true, ltb-false, ne_eqb, eq-eqb, eqb-true}
use Rattle.std.proofs.lemmas.Bool.Decides.{nat_tests}
use Rattle.batch_log.specs.declared.header.Entry.{Entry}
use Rattle.batch_log.specs.Log.{Batch, batch_size, log_size, one_unless}
use Rattle.drive_array.specs.Records.{Record, record_of, entry_records, batch_records, log_records, records, newer, newest, IsLive, IsNewest, told, append_log, new_records, AllBelow, over}
use Rattle.drive_array.proofs.AllLaws.{all-at}

-- ---- `newer` is associative, and an older record and a newer one can change places

newer-assoc_some : (x y z : Record) → newer (Some x) (newer (Some y) (Some z)) ≡ newer (newer (Some x) (Some y)) (Some z)
newer-assoc_some x y z = grind (arith, nat_tests)

-- no record changes nothing
pub newer-none : (x : Option Record) → newer x None ≡ x
newer-none None = refl
newer-none (Some x) = refl

-- of three records the newest, however they are grouped
pub newer-assoc : (x y z : Option Record) → newer x (newer y z) ≡ newer (newer x y) z
newer-assoc None y z = refl
newer-assoc (Some x) None z = refl
newer-assoc (Some x) (Some y) None = sym (newer-none (newer (Some x) (Some y)))
newer-assoc (Some x) (Some y) (Some z) = newer-assoc_some x y z

-- the newest of two lists
pub newest-append : (block : ℕ) (xs ys : List Record) → newest block (xs ++ ys) ≡ newer (newest block xs) (newest block ys)
newest-append block [] ys = refl
newest-append block (x ∷ xs) ys =
    let one : Option Record = cond (eqb x.block block) (Some x) None in
    ap (λ (r : Option Record). newer one r) (newest-append block xs ys) ∙ newer-assoc one (newest block xs) (newest block ys)

abbrev IsBelow : ℕ → Option Record → Type 0
IsBelow s None = Unit {0}
IsBelow s (Some r) = r.sequence < s

abbrev IsFrom : ℕ → Option Record → Type 0
IsFrom s None = Unit {0}
IsFrom s (Some r) = s ≤ r.sequence

newer-commute : (s : ℕ) (x y : Option Record) → IsBelow s x → IsFrom s y → newer x y ≡ newer y x
newer-commute s None y h k = sym (newer-none y)
newer-commute s (Some x) None h k = refl
newer-commute s (Some x) (Some y) h k = rw (lt-ltb x.sequence y.sequence (omega arith), le-ltb y.sequence x.sequence (omega arith)) refl

below-newer : (s : ℕ) (x y : Option Record) → IsBelow s x → IsBelow s y → IsBelow s (newer x y)
below-newer s None y h k = k
below-newer s (Some x) None h k = h
below-newer s (Some x) (Some y) h k = elim (ltb x.sequence y.sequence) as (λ b. IsBelow s (cond b (Some y) (Some x))) [ true ↦ k | false ↦ h ]

below-cond : (s : ℕ) (b : Bool) (r : Record) → r.sequence < s → IsBelow s (cond b (Some r) None)
below-cond s true r h = h
below-cond s false r h = tt

newest-below : (s block : ℕ) (rs : List Record) → AllBelow s rs → IsBelow s (newest block rs)
newest-below s block [] all = tt
newest-below s block (r ∷ rs) all =
    below-newer s (cond (eqb r.block block) (Some r) None) (newest block rs) (below-cond s (eqb r.block block) r all.0) (newest-below s block rs all.1)

from-newer : (s : ℕ) (x y : Option Record) → IsFrom s x → IsFrom s y → IsFrom s (newer x y)
from-newer s None y h k = k
from-newer s (Some x) None h k = h
from-newer s (Some x) (Some y) h k = elim (ltb x.sequence y.sequence) as (λ b. IsFrom s (cond b (Some y) (Some x))) [ true ↦ k | false ↦ h ]

from-cond : (s : ℕ) (b : Bool) (r : Record) → s ≤ r.sequence → IsFrom s (cond b (Some r) None)
from-cond s true r h = h
from-cond s false r h = tt

newest-from : (s block : ℕ) (body : List (List ℕ)) (zone header k : ℕ) (es : List Entry) → IsFrom s (newest block (entry_records s body zone header k es))
newest-from s block body zone header k [] = tt
newest-from s block body zone header k (e ∷ es) =
    let one = record_of s body zone header k e in
    let rest = entry_records s body zone header (k + one_unless e.trim) es in
    from-newer s (cond (eqb e.block block) (Some one) None) (newest block rest) (from-cond s (eqb e.block block) one (omega arith)) (newest-from s block body zone header (k + one_unless e.trim) es)

-- ---- a batch with the greatest sequence counts as if it came first

-- its records move to the front of older ones
to_front : (s block : ℕ) (older new rest : List Record) → AllBelow s older → IsFrom s (newest block new)
    → newest block (older ++ (new ++ rest)) ≡ newest block (new ++ (older ++ rest))
to_front s block older new rest all from =
    let x = newest block older in
    let y = newest block new in
    let z = newest block rest in
    let left : newest block (older ++ (new ++ rest)) ≡ newer x (newer y z) = newest-append block older (new ++ rest) ∙ ap (λ (r : Option Record). newer x r) (newest-append block new rest) in
    let right : newest block (new ++ (older ++ rest)) ≡ newer y (newer x z) = newest-append block new (older ++ rest) ∙ ap (λ (r : Option Record). newer y r) (newest-append block older rest) in
    let swap : newer x y ≡ newer y x = newer-commute s x y (newest-below s block older all) from in
    left ∙ newer-assoc x y z ∙ ap (λ (r : Option Record). newer r z) swap ∙ sym (newer-assoc y x z) ∙ sym right

-- what is below a bound in a list is so in its parts
pub AllBelow-parts : (s : ℕ) (xs ys : List Record) → AllBelow s (xs ++ ys) → AllBelow s xs × AllBelow s ys
AllBelow-parts s [] ys all = (tt, all)
AllBelow-parts s (x ∷ xs) ys all = let rest = AllBelow-parts s xs ys all.1 in ((all.0, rest.0), rest.1)

-- the records of a batch at the end of a log follow the log's
pub log_records-append : (zone offset next : ℕ) (log : List Batch) (b : Batch) → next ≡ offset + log_size log → log_records zone offset (log ++ b ∷ []) ≡ log_records zone offset log ++ batch_records zone next b
log_records-append zone offset next [] b e = let same : next ≡ offset = omega arith in rw same (append-nil (batch_records zone offset b))
log_records-append zone offset next (x ∷ log) b e =
    rw (log_records-append zone (offset + batch_size x) next log b (omega arith)) (sym (append_assoc (batch_records zone offset x) (log_records zone (offset + batch_size x) log) (batch_records zone next b)))

-- the newest record of each block, with its place, is the batch's, or else the old one
pub newest-append_log : (block first : ℕ) (logs : List (List Batch)) (index zone : ℕ) (b : Batch) → zone ≡ first + index → index < length logs → AllBelow b.heading.sequence (records first logs)
    → newest block (records first (append_log logs index b)) ≡ newest block (batch_records zone (log_size (get_or logs index [])) b ++ records first logs)
newest-append_log block first [] index zone b e lt all = absurd (omega arith)
newest-append_log block first (z ∷ zs) zero zone b e lt all =
    let same : zone ≡ first = omega arith in
    let new = batch_records first (log_size z) b in
    let parts = AllBelow-parts b.heading.sequence (log_records first 0 z) (records (suc first) zs) all in
    let regroup : log_records first 0 (z ++ b ∷ []) ++ records (suc first) zs ≡ log_records first 0 z ++ (new ++ records (suc first) zs) =
    ap (λ (rs : List Record). rs ++ records (suc first) zs) (log_records-append first 0 (log_size z) z b (omega arith)) ∙ append_assoc (log_records first 0 z) new (records (suc first) zs) in
    rw same (ap (newest block) regroup ∙ to_front b.heading.sequence block (log_records first 0 z) new (records (suc first) zs) parts.0 (newest-from b.heading.sequence block b.body first (log_size z) 0 b.heading.entries))
newest-append_log block first (z ∷ zs) (suc index) zone b e lt all =
    let parts = AllBelow-parts b.heading.sequence (log_records first 0 z) (records (suc first) zs) all in
    let at = log_size (get_or zs index []) in
    let new = batch_records zone at b in
    let rest = newest-append_log block (suc first) zs index zone b (omega arith) (omega arith) parts.1 in
    newest-append block (log_records first 0 z) (records (suc first) (append_log zs index b))
    ∙ ap (λ (r : Option Record). newer (newest block (log_records first 0 z)) r) rest
    ∙ sym (newest-append block (log_records first 0 z) (new ++ records (suc first) zs))
    ∙ to_front b.heading.sequence block (log_records first 0 z) new (records (suc first) zs) parts.0 (newest-from b.heading.sequence block b.body zone at 0 b.heading.entries)

-- ---- the array

-- two functions that agree give the same list
pub map_same : {X Y : Type 0} (f g : X → Y) → ((x : X) → f x ≡ g x) → (xs : List X) → map f xs ≡ map g xs
map_same f g h [] = refl
map_same f g h (x ∷ xs) = rw (h x, map_same f g h xs) refl

map-range_above : {Y : Type 0} (f : ℕ → Y) (k : ℕ) (v : Y) (a n : ℕ) → k < a → map (λ b. cond (eqb k b) v (f b)) (range_with_len a n) ≡ map f (range_with_len a n)
map-range_above f k v a zero lt = refl
map-range_above f k v a (suc n) lt =
    let no : eqb k a ≡ false = ne_eqb k a (λ same. omega arith) in
    rw (no, map-range_above f k v (a + 1) n (omega arith)) refl

-- one number of a range is given another value
map-range_set : {Y : Type 0} (f : ℕ → Y) (k : ℕ) (v : Y) (a n j : ℕ) → k ≡ a + j → map (λ b. cond (eqb k b) v (f b)) (range_with_len a n) ≡ set (map f (range_with_len a n)) j v
map-range_set f k v a zero j e = refl
map-range_set f k v a (suc n) zero e =
    let yes : eqb k a ≡ true = eq-eqb k a (omega arith) in
    rw (yes, map-range_above f k v (a + 1) n (omega arith)) refl
map-range_set f k v a (suc n) (suc j) e =
    let no : eqb k a ≡ false = ne_eqb k a (λ same. omega arith) in
    rw (no, map-range_set f k v (a + 1) n j (omega arith)) refl

-- a record in front of none that is newer is what is told of its block
told-first_at : {X : Type 0} (f : Option Record → X) (block : ℕ) (r : Record) (rs : List Record) → AllBelow (suc r.sequence) rs
    → f (newest block (r ∷ rs)) ≡ cond (eqb r.block block) (f (Some r)) (f (newest block rs))
told-first_at {X} f block r rs all =
    first (eqb r.block block) (newest block rs) (newest-below (suc r.sequence) block rs all)
  where
    first : (b : Bool) (x : Option Record) → IsBelow (suc r.sequence) x → f (newer (cond b (Some r) None) x) ≡ cond b (f (Some r)) (f x)
    first false x h = refl
    first true None h = refl
    first true (Some x) h = rw (le-ltb r.sequence x.sequence (omega arith)) refl

told-first : {X : Type 0} (f : Option Record → X) (n : ℕ) (r : Record) (rs : List Record) → AllBelow (suc r.sequence) rs → told f n (r ∷ rs) ≡ set (told f n rs) r.block (f (Some r))
told-first f n r rs all =
    map_same (λ block. f (newest block (r ∷ rs))) (λ block. cond (eqb r.block block) (f (Some r)) (f (newest block rs))) (λ block. told-first_at f block r rs all) (range_with_len 0 n)
    ∙ map-range_set (λ block. f (newest block rs)) r.block (f (Some r)) 0 n r.block (omega arith)

AllBelow-more : (s t : ℕ) (rs : List Record) → s ≤ t → AllBelow s rs → AllBelow t rs
AllBelow-more s t [] le all = tt
AllBelow-more s t (r ∷ rs) le all = (omega (arith, all.0), AllBelow-more s t rs le all.1)

entries-below : (s : ℕ) (body : List (List ℕ)) (zone header k : ℕ) (es : List Entry) (rs : List Record) → AllBelow s rs → AllBelow (suc s) (entry_records s body zone header k es ++ rs)
entries-below s body zone header k [] rs all = AllBelow-more s (suc s) rs (omega arith) all
entries-below s body zone header k (e ∷ es) rs all = (omega arith, entries-below s body zone header (k + one_unless e.trim) es rs all)

told-entries : {X : Type 0} (f : Option Record → X) (n s : ℕ) (body : List (List ℕ)) (zone header k : ℕ) (es : List Entry) (rs : List Record) → AllBelow s rs
    → told f n (entry_records s body zone header k es ++ rs) ≡ over f (entry_records s body zone header k es) (told f n rs)
told-entries f n s body zone header k [] rs all = refl
told-entries {X} f n s body zone header k (e ∷ es) rs all =
    let r = record_of s body zone header k e in
    let next = k + one_unless e.trim in
    told-first f n r (entry_records s body zone header next es ++ rs) (entries-below s body zone header next es rs all)
    ∙ ap (λ (xs : List X). set xs r.block (f (Some r))) (told-entries f n s body zone header next es rs all)

-- a batch with the greatest sequence changes what is told of the blocks only by its records
pub told-append_log : {X : Type 0} (f : Option Record → X) (n index : ℕ) (logs : List (List Batch)) (b : Batch) → index < length logs → AllBelow b.heading.sequence (records 0 logs)
    → told f n (records 0 (append_log logs index b)) ≡ over f (new_records logs index b) (told f n (records 0 logs))
told-append_log f n index logs b lt all =
    map_same (λ block. f (newest block (records 0 (append_log logs index b)))) (λ block. f (newest block (new_records logs index b ++ records 0 logs))) (λ block. ap f (newest-append_log block 0 logs index index b (omega arith) lt all)) (range_with_len 0 n)
    ∙ told-entries f n b.heading.sequence b.body index (log_size (get_or logs index [])) 0 b.heading.entries (records 0 logs) all

-- ---- what `newest` finds is live

all-later : (block s t : ℕ) (rs : List Record) → s ≤ t → AllByRecursion (λ other. other.block ≡ block → other.sequence ≤ s) rs → AllByRecursion (λ other. other.block ≡ block → other.sequence ≤ t) rs
all-later block s t [] le all = tt
all-later block s t (r ∷ rs) le all = ((λ same. let h = all.0 same in omega arith), all-later block s t rs le all.1)

all-absent : (block s : ℕ) (rs : List Record) → AllByRecursion (λ other. other.block ≡ block → ⊥) rs → AllByRecursion (λ other. other.block ≡ block → other.sequence ≤ s) rs
all-absent block s [] all = tt
all-absent block s (r ∷ rs) all = ((λ same. absurd (all.0 same)), all-absent block s rs all.1)

all-renamed : (a b s : ℕ) (rs : List Record) → a ≡ b → AllByRecursion (λ other. other.block ≡ a → other.sequence ≤ s) rs → AllByRecursion (λ other. other.block ≡ b → other.sequence ≤ s) rs
all-renamed a b s rs e all = let P : ℕ → Type 0 = λ n. AllByRecursion (λ (other : Record). other.block ≡ n → other.sequence ≤ s) rs in subst P e all

-- a live record stays so after a record that is no later one of its block
live-behind : (first r : Record) (rs : List Record) → (first.block ≡ r.block → first.sequence ≤ r.sequence) → IsLive rs r → IsLive (first ∷ rs) r
live-behind first r rs no_later live = record {
  among = (suc live.among.0, omega (arith, live.among.1), live.among.2);
  greatest = (no_later, live.greatest);
}

-- the first record is live if none after it is later
live-first : (r : Record) (rs : List Record) → AllByRecursion (λ other. other.block ≡ r.block → other.sequence ≤ r.sequence) rs → IsLive (r ∷ rs) r
live-first r rs all = record { among = (0, omega arith, refl); greatest = ((λ same. omega arith), all) }

-- the newest record of a block is one that is as new as each
pub newest-is : (block : ℕ) (rs : List Record) → IsNewest rs block (newest block rs)
newest-is block [] = tt
newest-is block (r ∷ rs) = step (eqb r.block block) refl (newest block rs) (newest-is block rs)
  where
    later : (y : Record) → r.block ≡ block → (y.block ≡ block) × IsLive rs y → (b : Bool) → ltb r.sequence y.sequence ≡ b → IsNewest (r ∷ rs) block (cond b (Some y) (Some r))
    later y same live true lt = (live.0, live-behind r y rs (λ e. let h = ltb-true r.sequence y.sequence lt in omega arith) live.1)
    later y same live false lt =
        let le : y.sequence ≤ r.sequence = ltb-false r.sequence y.sequence lt in
        let one : y.block ≡ r.block = live.0 ∙ sym same in
        (same, live-first r rs (all-later r.block y.sequence r.sequence rs le (all-renamed y.block r.block y.sequence rs one live.1.greatest)))

    step : (b : Bool) → eqb r.block block ≡ b → (x : Option Record) → IsNewest rs block x → IsNewest (r ∷ rs) block (newer (cond b (Some r) None) x)
    step false other None absent = ((λ same. let bad : eqb r.block block ≡ true = eq-eqb r.block block same in absurd (cc)), absent)
    step false other (Some y) live = (live.0, live-behind r y rs (λ e. let bad : eqb r.block block ≡ true = eq-eqb r.block block (e ∙ live.0) in absurd (cc)) live.1)
    step true is None absent =
        let same : r.block ≡ block = eqb-true r.block block is in
        let P : ℕ → Type 0 = λ n. AllByRecursion (λ (other : Record). other.block ≡ n → other.sequence ≤ r.sequence) rs in
        (same, live-first r rs (subst P (sym same) (all-absent block r.sequence rs absent)))
    step true is (Some y) live = later y (eqb-true r.block block is) live (ltb r.sequence y.sequence) refl

-- what all records have, one among them has
pub all-among : (P : Record → Type 0) (rs : List Record) (r : Record) → AllByRecursion P rs → Contains rs r → P r
all-among P rs r all c = subst P c.2 (all-at P rs c.0 r all c.1)
