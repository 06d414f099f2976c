-- What holds of each Move of a plan.
use Rattle.std.proofs.Common.{◌≡◌, ◌≢◌, ◌⊎◌, inl, inr, ℕ, zero, suc, ◌+◌, ◌-◌, ◌*◌, ◌<◌, ◌≤◌, ◌^◌, Bool, true, false, cond, eqb, List, [], ◌∷◌, ◌++◌, length, map, take, drop, get_or, set, Option, Some, None, refl, sym, ap, subst, ◌∙◌, arith, append_assoc}
use Rattle.std.specs.Prelude.{nat_eq, IfSome, slice_index_or}
use Rattle.std.specs.List.{AllByRecursion, IsDistinct}
use Rattle.std.proofs.lemmas.Bool.{eq-eqb, eqb-true}
use Rattle.std.proofs.lemmas.List.{get_or-append-add, length-append, length-map, length-take, map-append}
use Rattle.zone_states.specs.declared.geometry.Geometry.{Geometry}
use Rattle.zone_states.specs.Geometry.{IsInRange}
use Rattle.batch_log.specs.declared.header.Entry.{Entry}
use Rattle.batch_log.specs.declared.header.Kind.TheVariants.{Host, Move}
use Rattle.batch_log.specs.Header.{IsHeading, IsSize}
use Rattle.batch_log.specs.Log.{Batch, IsBatch, batch_size, log_size}
use Rattle.batch_log.proofs.LentLaws.{data-few}
use Rattle.logical_map.specs.declared.place.Place.{Place}
use Rattle.logical_map.specs.declared.place.Place.TheVariants as places
use Rattle.drive_array.specs.Records.{Record, entry_records, newest, records}
use Rattle.drive_array.specs.Reserve.{batch_most}
use Rattle.drive_array.specs.Repairing.{IsCopyFrom, IsRepairMove, IsWithin}
use Rattle.drive_array.specs.Sizes.{encoded_size, larger, log_greatest}
use Rattle.drive_array.specs.ZoneLogs.{log_at, log_sequences, sequences}
use Rattle.drive_array.proofs.AllLaws.{all-append, all-parts, all-weaker}
use Rattle.drive_array.proofs.AppendLaws.{log_size-append}
use Rattle.remount.specs.declared.repair.moves.MovePlan.{MovePlan}
use Rattle.drive_survey.specs.Heads.{HeadsView, heads_after, heads_of, no_heads, with_heading}
use Rattle.remount.specs.Moving.{CanRepairBy, IsMovable, Source, move_by, move_count, moved_data, moved_entries, moves_before, named_by, placed_entry, said, said_at, size_by}
use Rattle.remount.proofs.MoveBuildLaws.{length-moved}

-- ---- lists

-- what holds of all elements of a list holds of its first ones
pub all-take : {X : Type 0} (P : X → Type 0) (n : ℕ) (xs : List X) → AllByRecursion P xs → AllByRecursion P (take n xs)
all-take P zero xs all = tt
all-take P (suc n) [] all = tt
all-take P (suc n) (x ∷ xs) all = (all.0, all-take P n xs all.1)

-- what holds of all elements of a list holds of its last ones
pub all-drop : {X : Type 0} (P : X → Type 0) (n : ℕ) (xs : List X) → AllByRecursion P xs → AllByRecursion P (drop n xs)
all-drop P zero xs all = all
all-drop P (suc n) [] all = tt
all-drop P (suc n) (x ∷ xs) all = all-drop P n xs all.1

distinct-take : (n : ℕ) (xs : List ℕ) → IsDistinct nat_eq xs → IsDistinct nat_eq (take n xs)
unfolding IsDistinct
distinct-take zero xs d = tt
distinct-take (suc n) [] d = tt
distinct-take (suc n) (x ∷ xs) d = (all-take (λ y. eqb x y ≡ false) n xs d.0, distinct-take n xs d.1)

distinct-drop : (n : ℕ) (xs : List ℕ) → IsDistinct nat_eq xs → IsDistinct nat_eq (drop n xs)
unfolding IsDistinct
distinct-drop zero xs d = d
distinct-drop (suc n) [] d = tt
distinct-drop (suc n) (x ∷ xs) d = distinct-drop n xs d.1

all-put : (P : ℕ → Type 0) (logs : List (List Batch)) (i : ℕ) (log : List Batch) → AllByRecursion P (sequences logs) → AllByRecursion P (log_sequences log) → AllByRecursion P (sequences (set logs i log))
all-put P [] i log all own = tt
all-put P (l ∷ ls) zero log all own = all-append P (log_sequences log) (sequences ls) own (all-parts P (log_sequences l) (sequences ls) all).1
all-put P (l ∷ ls) (suc i) log all own =
    let both = all-parts P (log_sequences l) (sequences ls) all in
    all-append P (log_sequences l) (sequences (set ls i log)) both.0 (all-put P ls i log both.1 own)

-- ---- what a Move names

named-all : (P : ℕ → Type 0) (plan : MovePlan) (k : ℕ) → AllByRecursion P plan.blocks.items → AllByRecursion P (named_by plan k)
named-all P plan k all = all-take P plan.most (drop (k * plan.most) plan.blocks.items) (all-drop P (k * plan.most) plan.blocks.items all)

-- what holds of all blocks of a plan holds of the blocks that a Move names
pub all-named : (P : ℕ → Type 0) (plan : MovePlan) (k : ℕ) → AllByRecursion P plan.blocks.items → AllByRecursion P (named_by plan k)
all-named P plan k all = named-all P plan k all

-- a Move names at most as many blocks as its plan allows
pub few-named : (plan : MovePlan) (k : ℕ) → length (named_by plan k) ≤ plan.most
few-named plan k = omega (arith, length-take plan.most (drop (k * plan.most) plan.blocks.items))

entry-block : (b : ℕ) (p : Place) → (placed_entry b p).block ≡ b
entry-block b places.None = refl
entry-block b (places.Trimmed address) = refl
entry-block b (places.At address) = refl

-- the entries of a Move name its blocks, in their order
pub blocks-moved : (all : List Place) (blocks : List ℕ) → map (λ (e : Entry). e.block) (moved_entries all blocks) ≡ blocks
blocks-moved all [] = refl
blocks-moved all (b ∷ bs) = rw (entry-block b (slice_index_or all b places.None), blocks-moved all bs) refl

all-entries : (P : ℕ → Type 0) (all : List Place) (blocks : List ℕ) → AllByRecursion P blocks → AllByRecursion (λ (e : Entry). P e.block) (moved_entries all blocks)
all-entries P all [] each = tt
all-entries P all (b ∷ bs) each = (subst P (sym (entry-block b (slice_index_or all b places.None))) each.0, all-entries P all bs each.1)

-- ---- what it says

larger-same : (x : Option ℕ) → larger x x ≡ x
larger-same None = refl
larger-same (Some a) = ap Some (omega arith)

-- a size that equals another one, or is none, is not above it
pub within-by : (x most : Option ℕ) → (x ≡ most) ⊎ (x ≡ None) → IsWithin x most
within-by x most (inl same) = rw same (larger-same most)
within-by x most (inr none) = rw none refl

-- a planned Move says the greatest size of the torn zone, or none
pub size-either : (geometry : Geometry) (n : ℕ) (logs : List (List Batch)) (source : Source) (plan : MovePlan) (k : ℕ) → CanRepairBy geometry n logs source plan → (size_by plan k ≡ log_greatest (log_at logs plan.torn)) ⊎ (size_by plan k ≡ None)
size-either geometry n logs source plan k can = at (eqb (k + 1) (move_count plan))
  where
    at : (b : Bool) → (cond b plan.size plan.early ≡ log_greatest (log_at logs plan.torn)) ⊎ (cond b plan.size plan.early ≡ None)
    at true = inl can.size
    at false = elim can.early as (λ _. (plan.early ≡ log_greatest (log_at logs plan.torn)) ⊎ (plan.early ≡ None)) [ inl same ↦ inl (same ∙ can.size) | inr none ↦ inr none ]

get-after : (done rest : List (List ℕ)) (x : List ℕ) (k : ℕ) → k ≡ length done → get_or (done ++ x ∷ rest) k [] ≡ x
get-after done rest x k is = let spot : k ≡ length done + 0 = omega (arith, is) in rw spot (get_or-append-add done (x ∷ rest) 0 [])

copies : (n : ℕ) (logs : List (List Batch)) (source : Source) (torn sequence zone header k : ℕ) (done body : List (List ℕ)) (blocks : List ℕ) → k ≡ length done → body ≡ done ++ moved_data source blocks → AllByRecursion (IsMovable n logs source torn) blocks
    → AllByRecursion (λ (r : Record). IsCopyFrom torn (newest r.block (records 0 logs)) r) (entry_records sequence body zone header k (moved_entries source.places blocks))
copies n logs source torn sequence zone header k done body [] at is all = tt
copies n logs source torn sequence zone header k done body (b ∷ bs) at is all =
    one (slice_index_or source.places b places.None) refl (λ k' done' e i. copies n logs source torn sequence zone header k' done' body bs e i all.1)
  where
    none : (p : Place) → slice_index_or source.places b places.None ≡ p → said_at source.blocks source.start p ≡ None → said source b ≡ None
    none p here e = ap (said_at source.blocks source.start) here ∙ e

    left : said source b ≡ None → body ≡ done ++ moved_data source bs
    left e = rw e at is

    one : (p : Place) → slice_index_or source.places b places.None ≡ p
        → ((k' : ℕ) (done' : List (List ℕ)) → k' ≡ length done' → body ≡ done' ++ moved_data source bs → AllByRecursion (λ (r : Record). IsCopyFrom torn (newest r.block (records 0 logs)) r) (entry_records sequence body zone header k' (moved_entries source.places bs)))
        → AllByRecursion (λ (r : Record). IsCopyFrom torn (newest r.block (records 0 logs)) r) (entry_records sequence body zone header k (placed_entry b p ∷ moved_entries source.places bs))
    one places.None here again =
        let e = none places.None here refl in
        (rw all.0.is (all.0.zone, sym (all.0.content ∙ e)), again (k + 0) done (omega (arith, at)) (left e))
    one (places.Trimmed address) here again =
        let e = none (places.Trimmed address) here refl in
        (rw all.0.is (all.0.zone, sym (all.0.content ∙ e)), again (k + 0) done (omega (arith, at)) (left e))
    one (places.At address) here again =
        let bytes = slice_index_or source.blocks (address - source.start) [] in
        let e : said source b ≡ Some bytes = ap (said_at source.blocks source.start) here in
        let whole : body ≡ done ++ (bytes ∷ moved_data source bs) = rw e at is in
        let there : get_or body k [] ≡ bytes = rw whole (get-after done (moved_data source bs) bytes k at) in (
          rw all.0.is (all.0.zone, ap Some there ∙ sym (all.0.content ∙ e)),
          again (k + 1) (done ++ bytes ∷ []) (omega (arith, at, length-append done (bytes ∷ []))) (whole ∙ sym (append_assoc done (bytes ∷ []) (moved_data source bs))),
        )

-- ---- the header

pub largest-size : (block : ℕ) (log : List Batch) → AllByRecursion (IsBatch block) log → IfSome (log_greatest log) IsSize
largest-size block [] all = tt
largest-size block (b ∷ bs) all = both b.heading.size (log_greatest bs) all.0.heading.size (largest-size block bs all.1)
  where
    both : (x y : Option ℕ) → IfSome x IsSize → IfSome y IsSize → IfSome (larger x y) IsSize
    both None y h i = i
    both (Some a) None h i = h
    both (Some a) (Some c) h i = (omega (arith, h.0, i.0), omega (arith, h.1, i.1))

-- the heading of each planned Move fits in a header block
pub move-heading : (geometry : Geometry) (n k : ℕ) (logs : List (List Batch)) (source : Source) (plan : MovePlan) → IsInRange geometry → CanRepairBy geometry n logs source plan → k < move_count plan → plan.torn < geometry.zones → encoded_size n logs ≤ 2 ^ 31
    → AllByRecursion (IsBatch geometry.block) (log_at logs plan.torn) → IsHeading geometry.block (move_by source plan k).heading
move-heading geometry n k logs source plan range can lt torn few batches = record {
  room = omega (arith, few-named plan k, can.most, length-map (named_by plan k) (λ b. placed_entry b (slice_index_or source.places b places.None)));
  sequence = omega (arith, can.last, lt);
  source = omega (arith, torn, range.zones);
  host = λ e. absurd (let bad : Move ≡ Host = e in cc);
  size = sized (size_by plan k) (size-either geometry n logs source plan k can);
  blocks = all-entries (λ b. b < 2 ^ 63) source.places (named_by plan k) (named-all (λ b. b < 2 ^ 63) plan k (all-weaker (IsMovable n logs source plan.torn) (λ b. b < 2 ^ 63) plan.blocks.items (λ b m. omega (arith, m.in_range, few)) can.movable));
  distinct = rw (blocks-moved source.places (named_by plan k)) (distinct-take plan.most (drop (k * plan.most) plan.blocks.items) (distinct-drop (k * plan.most) plan.blocks.items can.distinct));
}
  where
    sized : (x : Option ℕ) → (x ≡ log_greatest (log_at logs plan.torn)) ⊎ (x ≡ None) → IfSome x IsSize
    sized x (inl same) = rw same (largest-size geometry.block (log_at logs plan.torn) batches)
    sized x (inr none) = rw none tt

-- the heading of a Move fits in a header block by the shape of the plan alone, whatever the Reads returned
pub shape-heading : (geometry : Geometry) (k : ℕ) (source : Source) (plan : MovePlan) → IsInRange geometry → plan.most ≡ batch_most geometry → plan.next + k < 2 ^ 64 → plan.torn < geometry.zones → IfSome plan.size IsSize → IfSome plan.early IsSize
    → AllByRecursion (λ b. b < 2 ^ 63) plan.blocks.items → IsDistinct nat_eq plan.blocks.items → IsHeading geometry.block (move_by source plan k).heading
shape-heading geometry k source plan range most last torn size early few distinct = record {
  room = omega (arith, few-named plan k, most, length-map (named_by plan k) (λ b. placed_entry b (slice_index_or source.places b places.None)));
  sequence = omega (arith, last);
  source = omega (arith, torn, range.zones);
  host = λ e. absurd (let bad : Move ≡ Host = e in cc);
  size = sized (eqb (k + 1) (move_count plan));
  blocks = all-entries (λ b. b < 2 ^ 63) source.places (named_by plan k) (named-all (λ b. b < 2 ^ 63) plan k few);
  distinct = rw (blocks-moved source.places (named_by plan k)) (distinct-take plan.most (drop (k * plan.most) plan.blocks.items) (distinct-drop (k * plan.most) plan.blocks.items distinct));
}
  where
    sized : (b : Bool) → IfSome (cond b plan.size plan.early) IsSize
    sized true = size
    sized false = early

-- a Move whose heading fits in a header block is a batch
pub move-batch : (block k : ℕ) (source : Source) (plan : MovePlan) → IsHeading block (move_by source plan k).heading → IsBatch block (move_by source plan k)
move-batch block k source plan says = record { heading = says; body = length-moved source (named_by plan k) }

-- ---- the Moves before it

sequences-before : (source : Source) (plan : MovePlan) (k limit : ℕ) → plan.next + k ≤ limit → AllByRecursion (λ s. s < limit) (log_sequences (moves_before source plan k))
sequences-before source plan zero limit le = tt
sequences-before source plan (suc k) limit le =
    rw (map-append (λ (b : Batch). b.heading.sequence) (moves_before source plan k) (move_by source plan k ∷ []))
    (all-append (λ s. s < limit) (log_sequences (moves_before source plan k)) ((plan.next + k) ∷ []) (sequences-before source plan k limit (omega (arith, le))) (omega (arith, le), tt))

-- each planned Move is a Move of the repair, after the Moves before it
pub repair-move : (geometry : Geometry) (n k : ℕ) (logs : List (List Batch)) (source : Source) (plan : MovePlan) → CanRepairBy geometry n logs source plan → k < move_count plan
    → IsRepairMove n logs plan.torn plan.into (moves_before source plan k) (move_by source plan k)
repair-move geometry n k logs source plan can lt = record {
  move = (refl, refl);
  number = omega (arith, can.last, lt);
  greatest = all-put (λ s. s < plan.next + k) logs plan.into (moves_before source plan k) (all-weaker (λ s. s < plan.next) (λ s. s < plan.next + k) (sequences logs) (λ s below. omega (arith, below)) can.later) (sequences-before source plan k (plan.next + k) (omega arith));
  within = within-by (size_by plan k) (log_greatest (log_at logs plan.torn)) (size-either geometry n logs source plan k can);
  copies = copies n logs source plan.torn (plan.next + k) 0 0 0 [] (moved_data source (named_by plan k)) (named_by plan k) refl refl (named-all (IsMovable n logs source plan.torn) plan k can.movable);
}

-- ---- room

size-more : (source : Source) (plan : MovePlan) (i j : ℕ) → i ≤ j → log_size (moves_before source plan i) ≤ log_size (moves_before source plan j)
size-more source plan i zero le = let none : i ≡ 0 = omega arith in rw none (omega arith)
size-more source plan i (suc j) le = at (eqb i (suc j)) refl (size-more source plan i j)
  where
    at : (b : Bool) → eqb i (suc j) ≡ b → (i ≤ j → log_size (moves_before source plan i) ≤ log_size (moves_before source plan j)) → log_size (moves_before source plan i) ≤ log_size (moves_before source plan (suc j))
    at true e rest = let same : i ≡ suc j = eqb-true i (suc j) e in rw same (omega arith)
    at false e rest = omega (arith, rest (omega (arith, le, other e)), log_size-append (moves_before source plan j) (move_by source plan j))
      where
        other : eqb i (suc j) ≡ false → i ≢ suc j
        other e same = let bad : eqb i (suc j) ≡ true = eq-eqb i (suc j) same in absurd (cc)

-- a zone has room for each planned Move after the Moves before it
pub move-room : (geometry : Geometry) (n k : ℕ) (logs : List (List Batch)) (source : Source) (plan : MovePlan) → CanRepairBy geometry n logs source plan → k < move_count plan
    → log_size (moves_before source plan k) + batch_size (move_by source plan k) ≤ geometry.capacity
move-room geometry n k logs source plan can lt = omega (arith, can.room, size-more source plan (suc k) (move_count plan) lt, log_size-append (moves_before source plan k) (move_by source plan k))

-- a planned Move takes no more blocks than one transfer
pub move-few : (geometry : Geometry) (n k : ℕ) (logs : List (List Batch)) (source : Source) (plan : MovePlan) → IsInRange geometry → CanRepairBy geometry n logs source plan → batch_size (move_by source plan k) ≤ geometry.transfer
move-few geometry n k logs source plan range can =
    omega (arith, data-few (moved_entries source.places (named_by plan k)), length-map (named_by plan k) (λ b. placed_entry b (slice_index_or source.places b places.None)), few-named plan k, can.most, range.transfer)

-- ---- headers

after-more : (view : HeadsView) (log : List Batch) (b : Batch) → heads_after view (log ++ b ∷ []) ≡ with_heading (heads_after view log) b.heading
after-more view [] b = refl
after-more view (x ∷ xs) b = after-more (with_heading view x.heading) xs b

-- the headers of a log with one batch more have one heading more
pub heads-more : (log : List Batch) (b : Batch) → heads_of (log ++ b ∷ []) ≡ with_heading (heads_of log) b.heading
heads-more log b = after-more no_heads log b

-- what holds of the blocks in the entries of a Move holds of all its blocks
pub named-blocks : (P : ℕ → Type 0) (all : List Place) (blocks : List ℕ) → AllByRecursion (λ (e : Entry). P e.block) (moved_entries all blocks) → AllByRecursion P blocks
named-blocks P all [] each = tt
named-blocks P all (b ∷ bs) each = (subst P (entry-block b (slice_index_or all b places.None)) each.0, named-blocks P all bs each.1)
