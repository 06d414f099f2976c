-- A Move of a repair, whole or torn, leaves a drive on repair.
use Rattle.std.proofs.Common.{◌≡◌, ◌⊎◌, inl, inr, ℕ, ◌+◌, ◌<◌, ◌^◌, Bool, true, false, List, [], ◌∷◌, ◌++◌, length, take, set, get_or, Option, Some, None, refl, sym, ap, subst, ◌∙◌, arith}
use Rattle.std.specs.List.{AllByRecursion}
use Rattle.std.proofs.lemmas.List.{get_or-set_same, length-map, length-set, set-set}
use Rattle.zone_states.specs.declared.geometry.Geometry.{Geometry}
use Rattle.drive_port.specs.Contents.{Content, content_at, filled, is_usable, nothing}
use Rattle.batch_log.specs.declared.header.Entry.{Entry}
use Rattle.batch_log.specs.Log.{Batch, batch_blocks, log_size, one_unless}
use Rattle.drive_array.specs.Laws.{IsLast}
use Rattle.drive_array.specs.Mountable.{AreSound}
use Rattle.drive_array.specs.Records.{IsNewest, Record, append_log, batch_records, entry_records, log_records, new_records, newer, newest, record_of, records, shown, shown_content}
use Rattle.drive_array.specs.Repairing.{IsCopyFrom, IsOnRepair, IsRepairMove, IsRepairing, IsWithin, LiesIn, MoveRepairs, TornMoveRepairs}
use Rattle.drive_array.specs.Sizes.{encoded_size, larger, log_greatest, size_or}
use Rattle.drive_array.specs.Spare.{IsMoveFrom}
use Rattle.drive_array.specs.ZoneLogs.{HasLog, log_at, sequences, zone_log, zone_logs}
use Rattle.drive_array.proofs.AllLaws.{all-append, all-at, all-set}
use Rattle.drive_array.proofs.AppendLaws.{log_at-same}
use Rattle.drive_array.proofs.DeadLaws.{OnRecord, on-newest}
use Rattle.drive_array.proofs.NewestLaws.{log_records-append, newer-none, newest-append, newest-append_log, newest-is}
use Rattle.drive_array.proofs.RepairingArrays.{array-same, block-same, greatest-within}
use Rattle.drive_array.proofs.RepairingClearing.{put-back, torn-below}
use Rattle.drive_array.proofs.RepairingMounts.{into-below, made-there}
use Rattle.drive_array.proofs.RepairingRecords.{IsAbove, OlderThan, entries-above, newer-older}
use Rattle.drive_array.proofs.SequenceLaws.{records-below}
use Rattle.drive_array.proofs.SizeLaws.{append_writes, inside-records, larger-assoc, log_greatest-more, without-numbers}
use Rattle.drive_array.proofs.UsageLaws.{filled-usable}
use Rattle.drive_array.proofs.ZoneLogLaws.{append_logs, log_at-zone, tail-at, torn_logs}

-- ---- copies of newest records

-- a record of a block that another zone's newest record is a copy of
abbrev IsCopy : ℕ → List Record → Record → Type 0
IsCopy torn rs r = IsCopyFrom torn (newest r.block rs) r

same-content : (torn : ℕ) (x : Option Record) (a b : Record) → b.content ≡ a.content → IsCopyFrom torn x a → IsCopyFrom torn x b
same-content torn None a b e copy = absurd copy
same-content torn (Some r) a b e copy = (copy.0, e ∙ copy.1)

copy-lies : (torn : ℕ) (x : Option Record) (r : Record) → IsCopyFrom torn x r → LiesIn torn x
copy-lies torn None r copy = copy
copy-lies torn (Some y) r copy = copy.0

copy-shown : (block_bytes torn : ℕ) (x : Option Record) (r : Record) → IsCopyFrom torn x r → shown block_bytes (Some r) ≡ shown block_bytes x
copy-shown block_bytes torn None r copy = absurd copy
copy-shown block_bytes torn (Some y) r copy = ap (shown_content block_bytes) copy.1

-- wherever the batch is
copies-there : (torn : ℕ) (rs : List Record) (s zone header zone' header' k : ℕ) (body : List (List ℕ)) (es : List Entry)
    → AllByRecursion (IsCopy torn rs) (entry_records s body zone header k es) → AllByRecursion (IsCopy torn rs) (entry_records s body zone' header' k es)
copies-there torn rs s zone header zone' header' k body [] all = tt
copies-there torn rs s zone header zone' header' k body (e ∷ es) all =
    (same-content torn (newest e.block rs) (record_of s body zone header k e) (record_of s body zone' header' k e) refl all.0, copies-there torn rs s zone header zone' header' (k + one_unless e.trim) body es all.1)

-- they are of blocks that the logs have
copy-inside : (size torn block : ℕ) (rs : List Record) (r : Record) → AllByRecursion (λ (x : Record). x.block < size) rs → IsCopyFrom torn (newest block rs) r → block < size
copy-inside size torn block rs r all copy = by (newest block rs) (newest-is block rs) (on-newest (λ (x : Record). x.block < size) block rs all) copy
  where
    by : (x : Option Record) → IsNewest rs block x → OnRecord (λ (x : Record). x.block < size) x → IsCopyFrom torn x r → block < size
    by None is on copy = absurd copy
    by (Some x) is on copy = omega (arith, is.0, on)

copies-inside : (size torn s zone header k : ℕ) (rs : List Record) (body : List (List ℕ)) (es : List Entry) → AllByRecursion (λ (x : Record). x.block < size) rs
    → AllByRecursion (IsCopy torn rs) (entry_records s body zone header k es) → AllByRecursion (λ (e : Entry). e.block < size) es
copies-inside size torn s zone header k rs body [] inside all = tt
copies-inside size torn s zone header k rs body (e ∷ es) inside all =
    (copy-inside size torn e.block rs (record_of s body zone header k e) inside all.0, copies-inside size torn s zone header (k + one_unless e.trim) rs body es inside all.1)

-- ---- what a Move says of a block

-- nothing; or what the newest record says, which is in the torn zone, with a sequence above all others
abbrev Says : (block torn : ℕ) (rs : List Record) (numbers : List ℕ) → Option Record → Type 0
Says block torn rs numbers None = Unit {0}
Says block torn rs numbers (Some r) = IsCopyFrom torn (newest block rs) r × AllByRecursion (λ n. n < r.sequence) numbers

move-says : (block torn zone offset : ℕ) (rs : List Record) (numbers : List ℕ) (b : Batch) → AllByRecursion (IsCopy torn rs) (batch_records 0 0 b) → IsAbove numbers b
    → Says block torn rs numbers (newest block (batch_records zone offset b))
move-says block torn zone offset rs numbers b copies above =
    let s = b.heading.sequence in
    let es = b.heading.entries in
    let mine = batch_records zone offset b in
    by (newest block mine) (newest-is block mine) (on-newest (IsCopy torn rs) block mine (copies-there torn rs s 0 0 zone offset 0 b.body es copies))
    (on-newest (λ (r : Record). AllByRecursion (λ n. n < r.sequence) numbers) block mine (entries-above numbers s zone offset 0 b.body es above))
  where
    by : (x : Option Record) → IsNewest (batch_records zone offset b) block x → OnRecord (IsCopy torn rs) x → OnRecord (λ (r : Record). AllByRecursion (λ n. n < r.sequence) numbers) x → Says block torn rs numbers x
    by None is copy above = tt
    by (Some r) is copy above = (subst (λ k. IsCopyFrom torn (newest k rs) r) is.0 copy, above)

-- ---- one Move more

-- Of each block the logs show the same with it.
move-shown : (block_bytes n torn into block : ℕ) (logs : List (List Batch)) (moves : List Batch) (b : Batch) → IsRepairing block_bytes n logs torn into moves → IsRepairMove n logs torn into moves b → block < encoded_size n logs
    → shown block_bytes (newest block (records 0 (append_log (set logs into moves) into b))) ≡ shown block_bytes (newest block (records 0 logs))
move-shown block_bytes n torn into block logs moves b is move lt =
    ap (shown block_bytes) (newest-append_log block 0 old into into b (omega arith) range (records-below b.heading.sequence 0 old move.greatest) ∙ newest-append block new (records 0 old))
    ∙ by (newest block new) (move-says block torn into (log_size (get_or old into [])) (records 0 logs) (sequences old) b move.copies move.greatest)
  where
    old : List (List Batch)
    old = set logs into moves

    new : List Record
    new = new_records old into b

    range : into < length old
    range = omega (arith, is.in_range, length-set logs into moves)

    by : (x : Option Record) → Says block torn (records 0 logs) (sequences old) x → shown block_bytes (newer x (newest block (records 0 old))) ≡ shown block_bytes (newest block (records 0 logs))
    by None says = block-same block_bytes n block old logs is.array_is lt
    by (Some r) says =
        let older : OlderThan r.sequence (newest block (records 0 old)) = on-newest (λ (x : Record). x.sequence < r.sequence) block (records 0 old) (records-below r.sequence 0 old says.1) in
        ap (shown block_bytes) (newer-older r.sequence None (newest block (records 0 old)) r (omega arith) tt older) ∙ copy-shown block_bytes torn (newest block (records 0 logs)) r says.0

within-more : (m s t : Option ℕ) → IsWithin m t → IsWithin s t → IsWithin (larger m s) t
within-more m s t h k = sym (larger-assoc m s t) ∙ ap (larger m) k ∙ h

move-more : (block_bytes n torn into : ℕ) (logs : List (List Batch)) (moves : List Batch) (b : Batch) → AreSound (2 ^ 63) n logs → IsRepairing block_bytes n logs torn into moves → IsRepairMove n logs torn into moves b
    → IsRepairing block_bytes n logs torn into (moves ++ b ∷ [])
move-more block_bytes n torn into logs moves b base_sound is move = record {
  none_left = is.none_left;
  in_range = is.in_range;
  vacant = is.vacant;
  apart = is.apart;
  has_batch = is.has_batch;
  are_moves = all-append (IsMoveFrom torn) moves (b ∷ []) is.are_moves (move.move, tt);
  later = all-append (IsAbove (sequences logs)) moves (b ∷ []) is.later (above, tt);
  within = within;
  moved = moved;
  array_is = array-same block_bytes n (set logs into all) logs size (λ block lt. ap (λ (ls : List (List Batch)). shown block_bytes (newest block (records 0 ls))) (sym appended) ∙ move-shown block_bytes n torn into block logs moves b is move lt);
  sound = rw appended at (append_writes block_bytes 0 (2 ^ 63) n into (encoded_size n logs) old b range is.sound last).sound;
}
  where
    old : List (List Batch)
    old = set logs into moves

    all : List Batch
    all = moves ++ b ∷ []

    range : into < length old
    range = omega (arith, is.in_range, length-set logs into moves)

    appended : append_log old into b ≡ set logs into all
    appended = ap (λ (log : List Batch). set old into (log ++ b ∷ [])) (get_or-set_same logs into moves [] is.in_range) ∙ set-set logs into moves all

    above : IsAbove (sequences logs) b
    above = rw (put-back logs into moves is.vacant) at (without-numbers (λ s. s < b.heading.sequence) old into move.greatest)

    within : IsWithin (log_greatest all) (log_greatest (log_at logs torn))
    within =
        let t = log_greatest (log_at logs torn) in
        ap (λ (s : Option ℕ). larger s t) (log_greatest-more moves b) ∙ within-more (log_greatest moves) b.heading.size t is.within move.within

    size : encoded_size n (set logs into all) ≡ encoded_size n logs
    size = ap (size_or n) (greatest-within logs into torn all is.in_range (torn-below block_bytes n torn into logs moves is) is.vacant within)

    old_size : encoded_size n old ≡ encoded_size n logs
    old_size = ap (size_or n) (greatest-within logs into torn moves is.in_range (torn-below block_bytes n torn into logs moves is) is.vacant is.within)

    last : IsLast (2 ^ 63) n old into (encoded_size n logs) b
    last = record {
      size_is = ap (λ (ls : List (List Batch)). encoded_size n ls) appended ∙ size;
      grows = omega (arith, old_size);
      inside = copies-inside (encoded_size n logs) torn b.heading.sequence 0 0 0 (records 0 logs) b.body b.heading.entries (inside-records (encoded_size n logs) 0 logs base_sound.inside) move.copies;
      number = move.number;
      greatest = move.greatest;
    }

    moved : (block : ℕ) → (newest block (log_records into 0 all) ≡ None) ⊎ LiesIn torn (newest block (records 0 logs))
    moved block = by (newest block mine) (move-says block torn into (log_size moves) (records 0 logs) (sequences logs) b move.copies above) refl (is.moved block)
      where
        mine : List Record
        mine = batch_records into (log_size moves) b

        joined : newest block (log_records into 0 all) ≡ newer (newest block (log_records into 0 moves)) (newest block mine)
        joined = ap (newest block) (log_records-append into 0 (log_size moves) moves b (omega arith)) ∙ newest-append block (log_records into 0 moves) mine

        by : (x : Option Record) → Says block torn (records 0 logs) (sequences logs) x → newest block mine ≡ x → (newest block (log_records into 0 moves) ≡ None) ⊎ LiesIn torn (newest block (records 0 logs))
            → (newest block (log_records into 0 all) ≡ None) ⊎ LiesIn torn (newest block (records 0 logs))
        by (Some r) says e before = inr (copy-lies torn (newest block (records 0 logs)) r says.0)
        by None says e (inr there) = inr there
        by None says e (inl none) = inl (joined ∙ ap (newer (newest block (log_records into 0 moves))) e ∙ newer-none (newest block (log_records into 0 moves)) ∙ none)

-- ---- the drive

there : (old new : List Content) (zone : ℕ) (made : Content) → new ≡ set old zone made → zone < length old → content_at new zone ≡ made
there old new zone made zones lt = rw zones (get_or-set_same old zone made nothing lt)

-- the drive on repair after the zone of the Moves was written again
on-repair : (geometry : Geometry) (n torn into : ℕ) (base old new : List Content) (made : Content) → IsOnRepair geometry n base old torn into → new ≡ set old into made → is_usable made.usage ≡ true → HasLog geometry made
    → IsRepairing geometry.block n (zone_logs geometry base) torn into (zone_log geometry made) → IsOnRepair geometry n base new torn into
on-repair geometry n torn into base old new made is zones usable has repairing = record {
  mountable = is.mountable;
  alone = is.alone;
  only = is.only;
  made = made;
  zones = zones ∙ ap (λ (cs : List Content). set cs into made) is.zones ∙ set-set base into is.made made;
  usable = usable;
  has = has;
  repairing = repairing;
}

old-below : (geometry : Geometry) (n torn into : ℕ) (base old : List Content) → IsOnRepair geometry n base old torn into → into < length old
old-below geometry n torn into base old is = rw is.zones (omega (arith, into-below geometry n torn into base old is, length-set base into is.made))

old-logs : (geometry : Geometry) (n torn into : ℕ) (base old : List Content) → IsOnRepair geometry n base old torn into → AllByRecursion (HasLog geometry) old
old-logs geometry n torn into base old is = rw is.zones (all-set (HasLog geometry) base into is.made is.mountable.disk.logs is.has)

-- a Move of a repair keeps the array, and continues with it
pub move_repairs : MoveRepairs
move_repairs geometry n torn into base old new batch small is is_batch move untorn appends =
    let was = content_at old into in
    let made = filled geometry.capacity (was.blocks ++ batch_blocks geometry.block batch) in
    let lt = old-below geometry n torn into base old is in
    let logs = zone_logs geometry base in
    let there_before = made-there geometry n torn into base old is in
    let has_logs = old-logs geometry n torn into base old is in
    let kept = append_logs geometry old new into batch small is_batch (all-at (HasLog geometry) old into nothing has_logs lt) untorn appends in
    let there_now : content_at new into ≡ made = there old new into made appends.zones lt in
    let lt_now : into < length new = rw appends.zones (omega (arith, lt, length-set old into made)) in
    let log : zone_log geometry (content_at new into) ≡ zone_log geometry was ++ batch ∷ [] =
    sym (log_at-zone geometry new into) ∙ ap (λ (ls : List (List Batch)). log_at ls into) kept.logs ∙ log_at-same (zone_logs geometry old) into batch (omega (arith, lt, length-map old (zone_log geometry))) ∙ ap (λ (l : List Batch). l ++ batch ∷ []) (log_at-zone geometry old into) in
    let repairing : IsRepairing geometry.block n logs torn into (zone_log geometry was ++ batch ∷ []) =
    move-more geometry.block n torn into logs (zone_log geometry was) batch is.mountable.disk.sound (rw there_before is.repairing) move in
    record {
      repair = on-repair geometry n torn into base old new made is appends.zones (filled-usable geometry.capacity (was.blocks ++ batch_blocks geometry.block batch))
          (rw there_now at (all-at (HasLog geometry) new into nothing (kept.all_logs has_logs) lt_now)) (rw (← there_now, log) repairing);
      log = log;
      whole = sym (tail-at new into lt_now) ∙ ap (λ (ts : List Bool). get_or ts into false) kept.tails ∙ tail-at old into lt ∙ untorn;
    }

-- and so does one that was torn
pub torn_move_repairs : TornMoveRepairs
torn_move_repairs geometry n torn into j base old new batch small is is_batch untorn few room appends =
    let was = content_at old into in
    let blocks = was.blocks ++ take j (batch_blocks geometry.block batch) in
    let made = filled geometry.capacity blocks in
    let lt = old-below geometry n torn into base old is in
    let there_before = made-there geometry n torn into base old is in
    let has_logs = old-logs geometry n torn into base old is in
    let kept = torn_logs geometry old new into j batch small is_batch (all-at (HasLog geometry) old into nothing has_logs lt) untorn few room appends in
    let there_now : content_at new into ≡ made = there old new into made appends.zones lt in
    let lt_now : into < length new = rw appends.zones (omega (arith, lt, length-set old into made)) in
    let log : zone_log geometry (content_at new into) ≡ zone_log geometry was = sym (log_at-zone geometry new into) ∙ ap (λ (ls : List (List Batch)). log_at ls into) kept.logs ∙ log_at-zone geometry old into in
    record {
      repair = on-repair geometry n torn into base old new made is appends.zones (filled-usable geometry.capacity blocks)
          (rw there_now at (all-at (HasLog geometry) new into nothing (kept.all_logs has_logs) lt_now)) (rw (← there_now, log, there_before) is.repairing);
      log = log;
    }
