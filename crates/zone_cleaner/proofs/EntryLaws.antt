-- What an edit of the map's entries, and of their data, does to the records.
use Rattle.zone_cleaner.specs.Moving.{HoldsMove, headed_bytes}
use Rattle.zone_choice.specs.Builder.{BuilderView}
use Rattle.batch_log.specs.Log.{Batch}
use Rattle.std.proofs.Common.{◌≡◌, ◌⊎◌, inl, inr, ℕ, ◌+◌, ◌-◌, ◌<◌, ◌≤◌, Result, Ok, Err, Bool, true, false, ◌||◌, cond, eqb, List, [], ◌∷◌, ◌++◌, map, length, take, drop, Option, None, Some, refl, sym, ap, ◌∙◌, arith}
use Rattle.std.specs.Prelude.{IfSome, IsOk, OnOk, is_some}
use Rattle.std.specs.List.{AllByRecursion, concat, flat_map, list_any}
use Rattle.std.specs.Map.{remove_entry}
use Rattle.std.specs.Option.{option_map}
use Rattle.std.proofs.lemmas.Bool.{ne_eqb}
use Rattle.std.proofs.lemmas.List.{append-nil, append_assoc, drop-append-le, drop-drop, drop_all, drop_at, length-append, length-drop, length-take, take-append-le, take_all}
use Rattle.batch_log.specs.Header.{Heading, IsHeading, header_block}
use Rattle.batch_log.proofs.HeaderLaws.{header_length}
use Rattle.indexmap.specs.IndexMap.{insert_entry}
use Rattle.zone_cleaner.specs.Gathered.{AreOfLength, AreWithin, block_from, bytes_in, entries_for, entry_for, gathered_records}
use Rattle.zone_cleaner.specs.LiveRecords.{LiveRecord, gathered_data, gathered_entries, with_data, without_block}

-- blocks, and where the data of each is
abbrev pub Blocks : Type 0
Blocks = List (ℕ × Option ℕ)

abbrev one_shown : ℕ → List ℕ → ℕ × Option ℕ → LiveRecord
one_shown n bytes b = record { block = b.0; content = option_map (block_from n bytes) b.1 }

-- ---- a record fewer

-- one block is taken out of the records
pub shown-remove : (n block : ℕ) (bytes : List ℕ) (bs : Blocks) → gathered_records n bytes (remove_entry (eqb block) bs) ≡ without_block block (gathered_records n bytes bs)
shown-remove n block bytes [] = refl
shown-remove n block bytes (b ∷ bs) = by (eqb block b.0) (shown-remove n block bytes bs)
  where
    by : (h : Bool) → gathered_records n bytes (remove_entry (eqb block) bs) ≡ without_block block (gathered_records n bytes bs)
        → gathered_records n bytes (cond h bs (b ∷ remove_entry (eqb block) bs)) ≡ cond h (gathered_records n bytes bs) (one_shown n bytes b ∷ without_block block (gathered_records n bytes bs))
    by true rest = refl
    by false rest = rw rest refl

-- the data of the others is where it was
pub within-remove : (n end block : ℕ) (bs : Blocks) → AreWithin n end bs → AreWithin n end (remove_entry (eqb block) bs)
within-remove n end block [] all = tt
within-remove n end block (b ∷ bs) all = by (eqb block b.0) (within-remove n end block bs all.1)
  where
    by : (h : Bool) → AreWithin n end (remove_entry (eqb block) bs) → AreWithin n end (cond h bs (b ∷ remove_entry (eqb block) bs))
    by true rest = all.1
    by false rest = (all.0, rest)

-- ---- a record more

inserted : (n block : ℕ) (position : Option ℕ) (bytes : List ℕ) (bs : Blocks) → AllByRecursion (λ (r : LiveRecord). r.block < block) (gathered_records n bytes bs) → insert_entry eqb bs block position ≡ bs ++ (block, position) ∷ []
inserted n block position bytes [] all = refl
inserted n block position bytes (b ∷ bs) all =
    let other : eqb block b.0 ≡ false = ne_eqb block b.0 (λ same. omega (arith, same, all.0)) in
    ap (λ (h : Bool). cond {A = Blocks} h ((b.0, position) ∷ bs) (b ∷ insert_entry eqb bs block position)) other ∙ ap (λ (rest : Blocks). b ∷ rest) (inserted n block position bytes bs all.1)

shown-append : (n : ℕ) (bytes : List ℕ) (bs more : Blocks) → gathered_records n bytes (bs ++ more) ≡ gathered_records n bytes bs ++ gathered_records n bytes more
shown-append n bytes [] more = refl
shown-append n bytes (b ∷ bs) more = ap (λ (rs : List LiveRecord). one_shown n bytes b ∷ rs) (shown-append n bytes bs more)

within-append : (n end : ℕ) (bs : Blocks) (b : ℕ × Option ℕ) → AreWithin n end bs → IfSome b.1 (λ position. (n ≤ position) × (position + n ≤ end)) → AreWithin n end (bs ++ b ∷ [])
within-append n end [] b all one = (one, tt)
within-append n end (first ∷ bs) b all one = (all.0, within-append n end bs b all.1 one)

within-more : (n end later : ℕ) (bs : Blocks) → end ≤ later → AreWithin n end bs → AreWithin n later bs
within-more n end later [] le all = tt
within-more n end later (b ∷ bs) le all = (one b.1 all.0, within-more n end later bs le all.1)
  where
    one : (position : Option ℕ) → IfSome position (λ p. (n ≤ p) × (p + n ≤ end)) → IfSome position (λ p. (n ≤ p) × (p + n ≤ later))
    one None within = tt
    one (Some p) within = (within.0, omega (arith, within.1, le))

data-append : (rs : List LiveRecord) (r : LiveRecord) → concat (gathered_data (rs ++ r ∷ [])) ≡ concat (gathered_data rs) ++ bytes_in r.content
data-append [] r = last r.content
  where
    last : (content : Option (List ℕ)) → concat (with_data content []) ≡ bytes_in content
    last None = refl
    last (Some bytes) = append-nil bytes
data-append (first ∷ rs) r = by first.content (data-append rs r)
  where
    by : (content : Option (List ℕ)) → concat (gathered_data (rs ++ r ∷ [])) ≡ concat (gathered_data rs) ++ bytes_in r.content → concat (with_data content (gathered_data (rs ++ r ∷ []))) ≡ concat (with_data content (gathered_data rs)) ++ bytes_in r.content
    by None rest = rest
    by (Some bytes) rest = ap (λ (xs : List ℕ). bytes ++ xs) rest ∙ sym (append_assoc bytes (concat (gathered_data rs)) (bytes_in r.content))

-- What adding a record does, whose data is the last block of the bytes then.
pub record AddsRecord (n block : ℕ) (content : Option (List ℕ)) (old new : Blocks) (bytes all : List ℕ) : Type 0 where
  pub within : AreWithin n (length all) new
  pub shows : gathered_records n all new ≡ gathered_records n bytes old ++ record { block = block; content = content } ∷ []
  pub order : concat (gathered_data (gathered_records n bytes old)) ≡ drop n bytes → concat (gathered_data (gathered_records n all new)) ≡ drop n all

-- a trim is added
pub adds-trim : (n block : ℕ) (old new : Blocks) (bytes : List ℕ) → AreWithin n (length bytes) old → AllByRecursion (λ (r : LiveRecord). r.block < block) (gathered_records n bytes old) → new ≡ insert_entry eqb old block None
    → AddsRecord n block None old new bytes bytes
adds-trim n block old new bytes within above new-is =
    let last : new ≡ old ++ (block, None) ∷ [] = new-is ∙ inserted n block None bytes old above in
    let shows : gathered_records n bytes new ≡ gathered_records n bytes old ++ record { block = block; content = None } ∷ [] = ap (gathered_records n bytes) last ∙ shown-append n bytes old ((block, None) ∷ []) in
    record {
      within = rw last (within-append n (length bytes) old (block, None) within tt);
      shows = shows;
      order = λ before. ap (λ (rs : List LiveRecord). concat (gathered_data rs)) shows ∙ data-append (gathered_records n bytes old) (record { block = block; content = None }) ∙ append-nil (concat (gathered_data (gathered_records n bytes old))) ∙ before;
    }

-- blocks of data stay where they are when more is read
same-before : (n : ℕ) (bytes more : List ℕ) (bs : Blocks) → AreWithin n (length bytes) bs → gathered_records n (bytes ++ more) bs ≡ gathered_records n bytes bs
same-before n bytes more [] all = refl
same-before n bytes more (b ∷ bs) all = ap (λ (content : Option (List ℕ)). record { block = b.0; content = content } ∷ gathered_records n (bytes ++ more) bs) (one b.1 all.0) ∙ ap (λ (rs : List LiveRecord). one_shown n bytes b ∷ rs) (same-before n bytes more bs all.1)
  where
    one : (position : Option ℕ) → IfSome position (λ p. (n ≤ p) × (p + n ≤ length bytes)) → option_map (block_from n (bytes ++ more)) position ≡ option_map (block_from n bytes) position
    one None within = refl
    one (Some p) within = ap (λ (xs : List ℕ). Some (take n xs)) (drop-append-le p bytes more (omega (arith, within.1))) ∙ ap (λ (xs : List ℕ). Some xs) (take-append-le n (drop p bytes) more (omega (arith, within.1, length-drop p bytes)))

-- What a header does to the records, which is written before their data.
pub record KeepsData (n : ℕ) (bs : Blocks) (bytes new : List ℕ) : Type 0 where
  pub room : n ≤ length new
  pub within : AreWithin n (length new) bs
  pub shows : gathered_records n new bs ≡ gathered_records n bytes bs
  pub order : concat (gathered_data (gathered_records n bytes bs)) ≡ drop n bytes → concat (gathered_data (gathered_records n new bs)) ≡ drop n new

same-behind : (n end : ℕ) (bytes new : List ℕ) (bs : Blocks) → AreWithin n end bs → drop n new ≡ drop n bytes → gathered_records n new bs ≡ gathered_records n bytes bs
same-behind n end bytes new [] all same = refl
same-behind n end bytes new (b ∷ bs) all same = ap (λ (content : Option (List ℕ)). record { block = b.0; content = content } ∷ gathered_records n new bs) (one b.1 all.0) ∙ ap (λ (rs : List LiveRecord). one_shown n bytes b ∷ rs) (same-behind n end bytes new bs all.1 same)
  where
    behind : (p : ℕ) (xs : List ℕ) → n ≤ p → drop p xs ≡ drop (p - n) (drop n xs)
    behind p xs le = sym (drop-drop (p - n) n xs ∙ ap (λ (k : ℕ). drop k xs) (omega (arith, le)))

    one : (position : Option ℕ) → IfSome position (λ p. (n ≤ p) × (p + n ≤ end)) → option_map (block_from n new) position ≡ option_map (block_from n bytes) position
    one None within = refl
    one (Some p) within = ap (λ (xs : List ℕ). Some (take n xs)) (behind p new within.0 ∙ ap (drop (p - n)) same ∙ sym (behind p bytes within.0))

-- the data is the same under another header
pub keeps-data : (n : ℕ) (bs : Blocks) (bytes new : List ℕ) → n ≤ length bytes → AreWithin n (length bytes) bs → length new ≡ length bytes → drop n new ≡ drop n bytes → KeepsData n bs bytes new
keeps-data n bs bytes new room within long same =
    let shows = same-behind n (length bytes) bytes new bs within same in
    record {
      room = omega (arith, room, long);
      within = rw long within;
      shows = shows;
      order = λ before. ap (λ (rs : List LiveRecord). concat (gathered_data rs)) shows ∙ before ∙ sym same;
    }

-- data is added
pub adds-data : (n block position : ℕ) (old new : Blocks) (bytes more all : List ℕ) → n ≤ length bytes → AreWithin n (length bytes) old → AllByRecursion (λ (r : LiveRecord). r.block < block) (gathered_records n bytes old) → position ≡ length bytes
    → new ≡ insert_entry eqb old block (Some position) → all ≡ bytes ++ more → length all ≡ length bytes + n → AddsRecord n block (Some more) old new bytes all
adds-data n block position old new bytes more all room within above at new-is all-is longer =
    let last : new ≡ old ++ (block, Some position) ∷ [] = new-is ∙ inserted n block (Some position) bytes old above in
    let one : length more ≡ n = omega (arith, longer, ap length all-is, length-append bytes more) in
    let data_is : block_from n all position ≡ more = rw (all-is, at) (ap (take n) (drop_at bytes more (length bytes) refl) ∙ take_all n more (omega (arith, one))) in
    let shows : gathered_records n all new ≡ gathered_records n bytes old ++ record { block = block; content = Some more } ∷ [] =
    ap (gathered_records n all) last ∙ shown-append n all old ((block, Some position) ∷ []) ∙ ap (λ (xs : List ℕ). gathered_records n all old ++ record { block = block; content = Some xs } ∷ []) data_is
    ∙ ap (λ (rs : List LiveRecord). rs ++ record { block = block; content = Some more } ∷ []) (ap (λ (xs : List ℕ). gathered_records n xs old) all-is ∙ same-before n bytes more old within) in
    record {
      within = rw last (within-append n (length all) old (block, Some position) (within-more n (length bytes) (length all) old (omega (arith, longer)) within) (omega (arith, at, room), omega (arith, at, longer)));
      shows = shows;
      order = λ before. ap (λ (rs : List LiveRecord). concat (gathered_data rs)) shows ∙ data-append (gathered_records n bytes old) (record { block = block; content = Some more }) ∙ ap (λ (xs : List ℕ). xs ++ more) before
          ∙ sym (ap (drop n) all-is ∙ drop-append-le n bytes more room);
    }

-- ---- no data yet

-- What making room for a header of another length does, if no record has data.
pub record MakesRoom (m n : ℕ) (bs : Blocks) (bytes room : List ℕ) : Type 0 where
  pub within : AreWithin m (length room) bs
  pub shows : gathered_records m room bs ≡ gathered_records n bytes bs
  pub order : concat (gathered_data (gathered_records m room bs)) ≡ drop m room

abbrev pub NoneHasData : Blocks → Type 0
NoneHasData bs = AllByRecursion (λ (b : ℕ × Option ℕ). b.1 ≡ None) bs

-- it was looked for, and not found
pub none-found : (bs : Blocks) → list_any (λ (b : ℕ × Option ℕ). is_some b.1) bs ≡ false → NoneHasData bs
none-found [] none = tt
none-found (b ∷ bs) none = by b.1 (none-found bs) none
  where
    by : (position : Option ℕ) → (list_any (λ (b : ℕ × Option ℕ). is_some b.1) bs ≡ false → NoneHasData bs) → (is_some position || list_any (λ (b : ℕ × Option ℕ). is_some b.1) bs) ≡ false → (position ≡ None) × NoneHasData bs
    by None rest none = (refl, rest none)
    by (Some p) rest none = absurd (cc)

-- data of another length is found
pub some-found : (m n : ℕ) (bytes : List ℕ) (bs : Blocks) → AreWithin n (length bytes) bs → AreOfLength m (gathered_data (gathered_records n bytes bs)) → list_any (λ (b : ℕ × Option ℕ). is_some b.1) bs ≡ true → n ≡ m
some-found m n bytes [] within whole some = absurd (cc)
some-found m n bytes (b ∷ bs) within whole some = by b.1 within.0 (some-found m n bytes bs within.1) whole some
  where
    by : (position : Option ℕ) → IfSome position (λ p. (n ≤ p) × (p + n ≤ length bytes)) → (AreOfLength m (gathered_data (gathered_records n bytes bs)) → list_any (λ (b : ℕ × Option ℕ). is_some b.1) bs ≡ true → n ≡ m)
        → AreOfLength m (with_data (option_map (block_from n bytes) position) (gathered_data (gathered_records n bytes bs))) → (is_some position || list_any (λ (b : ℕ × Option ℕ). is_some b.1) bs) ≡ true → n ≡ m
    by None at rest whole some = rest whole some
    by (Some p) at rest whole some = omega (arith, whole.0, length-take n (drop p bytes), length-drop p bytes, at.1)

-- it is among the values
pub some-values : (bs : Blocks) → list_any (λ (b : ℕ × Option ℕ). is_some b.1) bs ≡ list_any is_some (map (λ (b : ℕ × Option ℕ). b.1) bs)
some-values [] = refl
some-values (b ∷ bs) = ap (λ (rest : Bool). is_some b.1 || rest) (some-values bs)

-- each block of data has the length
pub whole-shown : (n : ℕ) (bytes : List ℕ) (bs : Blocks) → AreWithin n (length bytes) bs → AreOfLength n (gathered_data (gathered_records n bytes bs))
whole-shown n bytes [] within = tt
whole-shown n bytes (b ∷ bs) within = by b.1 within.0 (whole-shown n bytes bs within.1)
  where
    by : (position : Option ℕ) → IfSome position (λ p. (n ≤ p) × (p + n ≤ length bytes)) → AreOfLength n (gathered_data (gathered_records n bytes bs)) → AreOfLength n (with_data (option_map (block_from n bytes) position) (gathered_data (gathered_records n bytes bs)))
    by None at rest = rest
    by (Some p) at rest = (omega (arith, length-take n (drop p bytes), length-drop p bytes, at.1), rest)

-- the blocks of the records are the keys
pub blocks-shown : (n : ℕ) (bytes : List ℕ) (bs : Blocks) → map (λ (r : LiveRecord). r.block) (gathered_records n bytes bs) ≡ map (λ (b : ℕ × Option ℕ). b.0) bs
blocks-shown n bytes [] = refl
blocks-shown n bytes (b ∷ bs) = ap (λ (keys : List ℕ). b.0 ∷ keys) (blocks-shown n bytes bs)

-- room is made for a header
pub makes-room : (m n : ℕ) (bs : Blocks) (bytes room : List ℕ) → NoneHasData bs → length room ≡ m → MakesRoom m n bs bytes room
makes-room m n bs bytes room none long = record { within = go bs none; shows = same bs none; order = empty bs none ∙ sym (drop_all m room (omega (arith, long))) }
  where
    go : (bs : Blocks) → NoneHasData bs → AreWithin m (length room) bs
    go [] none = tt
    go (b ∷ bs) none = (rw none.0 tt, go bs none.1)

    same : (bs : Blocks) → NoneHasData bs → gathered_records m room bs ≡ gathered_records n bytes bs
    same [] none = refl
    same (b ∷ bs) none = rw none.0 (ap (λ (rs : List LiveRecord). record { block = b.0; content = None } ∷ rs) (same bs none.1))

    empty : (bs : Blocks) → NoneHasData bs → concat (gathered_data (gathered_records m room bs)) ≡ []
    empty [] none = refl
    empty (b ∷ bs) none = rw none.0 (empty bs none.1)

-- ---- the Move

-- the entries of the records are the blocks'
pub entries-shown : (n : ℕ) (bytes : List ℕ) (bs : Blocks) → gathered_entries (gathered_records n bytes bs) ≡ entries_for bs
entries-shown n bytes [] = refl
entries-shown n bytes (b ∷ bs) = by b.1 (entries-shown n bytes bs)
  where
    by : (position : Option ℕ) → gathered_entries (gathered_records n bytes bs) ≡ entries_for bs → gathered_entries (record { block = b.0; content = option_map (block_from n bytes) position } ∷ gathered_records n bytes bs) ≡ entry_for b.0 position ∷ entries_for bs
    by None rest = ap (λ es. entry_for b.0 None ∷ es) rest
    by (Some p) rest = ap (λ es. entry_for b.0 (Some p) ∷ es) rest

-- each block of the records is one of these
pub each-shown : (n bound : ℕ) (bytes : List ℕ) (bs : Blocks) → AllByRecursion (λ (r : LiveRecord). r.block + 1 < bound) (gathered_records n bytes bs) → AllByRecursion (λ (b : ℕ × Option ℕ). b.0 + 1 < bound) bs
each-shown n bound bytes [] all = tt
each-shown n bound bytes (b ∷ bs) all = (all.0, each-shown n bound bytes bs all.1)

-- the body of all records, one after the other
pub bytes-shown : (n : ℕ) (bytes : List ℕ) (bs : Blocks) → flat_map (λ (position : Option ℕ). bytes_in (option_map (block_from n bytes) position)) (map (λ (b : ℕ × Option ℕ). b.1) bs) ≡ concat (gathered_data (gathered_records n bytes bs))
bytes-shown n bytes [] = refl
bytes-shown n bytes (b ∷ bs) = one b.1 (bytes-shown n bytes bs)
  where
    one : (position : Option ℕ) → flat_map (λ (position : Option ℕ). bytes_in (option_map (block_from n bytes) position)) (map (λ (b : ℕ × Option ℕ). b.1) bs) ≡ concat (gathered_data (gathered_records n bytes bs))
        → bytes_in (option_map (block_from n bytes) position) ++ flat_map (λ (position : Option ℕ). bytes_in (option_map (block_from n bytes) position)) (map (λ (b : ℕ × Option ℕ). b.1) bs)
        ≡ concat (with_data (option_map (block_from n bytes) position) (gathered_data (gathered_records n bytes bs)))
    one None rest = rest
    one (Some p) rest = ap (λ (xs : List ℕ). block_from n bytes p ++ xs) rest

-- and the data of each is within the bytes
pub within-values : (n end : ℕ) (bs : Blocks) → AreWithin n end bs → AllByRecursion (λ (position : Option ℕ). IfSome position (λ p. p + n ≤ end)) (map (λ (b : ℕ × Option ℕ). b.1) bs)
within-values n end [] all = tt
within-values n end (b ∷ bs) all = (one b.1 all.0, within-values n end bs all.1)
  where
    one : (position : Option ℕ) → IfSome position (λ p. (n ≤ p) × (p + n ≤ end)) → IfSome position (λ p. p + n ≤ end)
    one None within = tt
    one (Some p) within = within.1

-- a block has room for a header
block-room : (n : ℕ) → (n ≡ 512) ⊎ (n ≡ 4096) → 32 ≤ n
block-room n (inl e) = omega (arith, e)
block-room n (inr e) = omega (arith, e)

-- a header block in its room
pub header-long : (n : ℕ) (heading : Heading) (bytes built : List ℕ) → (n ≡ 512) ⊎ (n ≡ 4096) → IsHeading n heading → n ≤ length bytes → built ≡ header_block n heading ++ drop n bytes → (length built ≡ length bytes) × (drop n built ≡ drop n bytes)
header-long n heading bytes built either says room built-is =
    let long : length (header_block n heading) ≡ n = header_length n heading (block-room n either) says in
    (omega (arith, ap length built-is, length-append (header_block n heading) (drop n bytes), long, length-drop n bytes, room), ap (drop n) built-is ∙ drop_at (header_block n heading) (drop n bytes) n long)

-- where an insert succeeds, what it says of its success holds
pub on-ok : {V E : Type 0} {P : Type 0} (result : Result V E) → IsOk result → OnOk result P → P
on-ok (Ok value) ok p = p
on-ok (Err error) ok p = absurd (cc)

-- ---- the Move

-- its header was written before its data
pub holds-move : (builder : BuilderView) (block_bytes : ℕ) (move : Batch) (old : List ℕ) → builder.heading ≡ move.heading → builder.bytes ≡ headed_bytes block_bytes builder.heading old → drop block_bytes old ≡ concat move.body
    → HoldsMove builder block_bytes move
holds-move builder block_bytes move old heading bytes body = record { heading = heading; bytes = bytes ∙ ap (λ (d : List ℕ). header_block block_bytes builder.heading ++ d) body }
