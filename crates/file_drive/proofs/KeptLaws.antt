-- What a change of the file keeps, while a drive is served from it.
use Rattle.std.proofs.Common.{◌≡◌, ℕ, ◌+◌, ◌*◌, ◌<◌, ◌≤◌, Bool, false, true, List, length, map, get_or, sym, subst, ap, ◌∙◌, inl, inr, arith}
use Rattle.std.proofs.lemmas.Grind.{get_or_default_zero}
use Rattle.std.proofs.lemmas.Bool.{cases_eq}
use Rattle.std.proofs.lemmas.List.{get_or-map, get_or_default, length-map}
use Rattle.sqlite_disk.specs.Disk.{Follows}
use Rattle.nvme_wire.specs.declared.zone_state.ZoneState.TheVariants.{Empty}
use Rattle.zone_states.specs.Stored.{StoredZone}
use Rattle.zone_drive.specs.Table.{stored_at}
use Rattle.file_bytes.specs.Changes.{SameBeside}
use Rattle.file_bytes.specs.declared.file.FileBytes.{Ghosts as FileGhosts}
use Rattle.file_drive.specs.InFile.{AllDurable, IsOwned, IsServed, KeepsOthers, KeepsPromise, Words, durable_zones, entry_at, flushed_at, is_apart, other_table, promised_zones, spare_table}
use Rattle.file_drive.specs.Layout.{SamePlaces, at_live, at_place, at_table, file_length}
use Rattle.file_drive.specs.Tables.{entry_of, place_of, words_in, zones_in}
use Rattle.file_drive.specs.declared.boot.System.{Ghosts as SystemGhosts}
use Rattle.file_drive.specs.declared.entry.Entry.{Entry}
use Rattle.file_drive.specs.declared.zones.FileZones.TheInside.{Inside}
use Rattle.file_drive.specs.declared.zones.FileZones.TheView.{invariant}
use Rattle.file_drive.proofs.ApartLaws.{apart-clear, free-clear}
use Rattle.file_drive.proofs.DataLaws.{IsClear, data-keeps, data-promise, data-promises, data-served, data-within, data-zones, within-at}
use Rattle.file_drive.proofs.OutLaws.{same-owned, still-owned}
use Rattle.file_drive.proofs.PlaceLaws.{place-low, places-apart, zone-ends}
use Rattle.file_drive.proofs.ServedLaws.{durable-same, durable-stays, length-safe, other-promise, other-promises, other-same, promised-durable, put-promise, put-promises, put-same, served-other, served-spare, spare-promise, spare-promises, spare-same, switch-promise, switch-promises}
use Rattle.file_drive.proofs.StoreLaws.{entry-read, no_entry, stored-length}

-- The last flush after a change of the file: it is promised as before, and the same zones may be found after a loss of
-- power. The other flushed table has these words.
pub record Kept {F S : Type 0} (f : FileGhosts F) (z : Inside F S) (new : F) (other : List ℕ) : Type 0 where
  pub promise : KeepsPromise f.seen f.may_leave z.geometry new z.flushed z.safe.items
  pub all : AllDurable f.may_leave z.geometry new (durable_zones z.geometry (f.seen new) z.safe.items other z.unsure)
  pub same : durable_zones z.geometry (f.seen new) z.safe.items other z.unsure ≡ durable_zones z.geometry (f.seen z.file) z.safe.items z.other.items z.unsure

-- a later file that shows the same, and of which a loss of power leaves no more
pub kept-later : {F S : Type 0} (f : FileGhosts F) (z : Inside F S) (new later : F) (other : List ℕ) → f.seen later ≡ f.seen new
    → ((bytes : List ℕ) → f.may_leave later bytes → f.may_leave new bytes) → Kept f z new other → Kept f z later other
kept-later f z new later other shown fewer was = record {
  promise = λ bytes may. rw shown (was.promise bytes (fewer bytes may));
  all = durable-stays f.may_leave z.geometry new later _ _ (ap (λ (file : List ℕ). durable_zones z.geometry file z.safe.items other z.unsure) (sym shown)) fewer was.all;
  same = rw shown was.same;
}

module _ {F S : Type 0} (f : FileGhosts F) (s : SystemGhosts S) (z : Inside F S) (held : invariant F S f s z) where
  -- the words of the tables that are not live
  abbrev words : Words
  words = record { spare = z.spare.items; safe = z.safe.items; other = z.other.items }

  -- ---- a zone is read

  -- all is as before in a file that shows the same, and of which a loss of power leaves no more
  pub shown-kept : (new : F) → f.seen new ≡ f.seen z.file → f.is_usable new ≡ f.is_usable z.file → ((bytes : List ℕ) → f.may_leave new bytes → f.may_leave z.file bytes)
      → f.is_stuck new ≡ f.is_stuck z.file → ((bytes : List ℕ) → f.may_show new bytes → f.may_show z.file bytes) → invariant F S f s (record z { file = new })
  shown-kept new shown usable fewer stuck shows = (
    held.0,
    held.1,
    held.2,
    held.3,
    rw shown held.4,
    held.5,
    λ going. (rw usable (held.6 going).0, λ bytes may. rw shown ((held.6 going).1 bytes (fewer bytes may))),
    durable-stays f.may_leave z.geometry z.file new _ _ (ap (λ (file : List ℕ). durable_zones z.geometry file z.safe.items z.other.items z.unsure) (sym shown)) fewer held.7,
    held.8,
    held.9,
    rw shown (same-owned f.may_leave f.may_show f.is_usable f.is_stuck z.geometry s.boot z.named _ z.file new usable stuck shows held.10),
  )

  -- the head names this boot as before where the file is as usable as before
  pub usable-owned : (durable : List (List StoredZone)) → z.failed ≡ false → (new : F) → f.is_usable new ≡ f.is_usable z.file
      → IsOwned f.may_show f.is_usable f.is_stuck z.geometry s.boot z.named durable new
  usable-owned durable going new usable =
      let was = (held.6 going).0 in
      still-owned f.may_leave f.may_show f.is_usable f.is_stuck z.geometry s.boot z.named durable new (usable ∙ was) (held.10.owned was)

  module _ (index at written : ℕ) (read : Entry) (low : index < length z.entries.items) (is_read : read ≡ get_or z.entries.items index read)
      (is_at : at ≡ at_place z.geometry (place_of index read)) (all : written ≡ length (stored_at (zones_in z.geometry (f.seen z.file) 0 z.entries.items) index).bytes) where
    -- the blocks of the zone begin where its entry says
    pub read-begins : at ≡ at_place z.geometry (place_of index (entry_at z.entries.items index))
    read-begins = is_at ∙ ap (λ (e : Entry). at_place z.geometry (place_of index e)) (entry-read z.entries.items index read low is_read)

    -- how many bytes they have
    pub read-written : written ≡ (entry_at z.entries.items index).written * z.geometry.block
    read-written = all ∙ stored-length z.geometry (f.seen z.file) z.entries.items index held.4.long held.1 held.2 low

    -- they end in the file
    pub read-ends : at + written ≤ file_length z.geometry
    read-ends =
        let entry = entry_at z.entries.items index in
        let below = place-low index z.geometry.zones entry (omega (arith, low, held.1)) in
        omega (arith, read-begins, read-written, zone-ends z.geometry (place_of index entry) (2 * z.geometry.zones) entry.written below (within-at z.geometry z.entries.items index no_entry held.2 low))

  module _ (going : z.failed ≡ false) (new : F) where
    -- the last flush is as before where its promise and its blocks are kept
    kept : (other : List ℕ) → KeepsPromise f.seen f.may_leave z.geometry new z.flushed z.safe.items
        → promised_zones z.geometry (f.seen new) z.safe.items ≡ promised_zones z.geometry (f.seen z.file) z.safe.items → Kept f z new other
    kept other promise promises = record {
      promise = promise;
      all = promised-durable z.geometry f.seen f.may_leave new z.flushed z.safe.items other z.unsure held.5 promise;
      same = durable-same z.geometry (f.seen z.file) (f.seen new) z.safe.items z.other.items other z.unsure (held.9 going) promises;
    }

    -- ---- bytes of a place change where the last flush has no block

    module _ (place first n at : ℕ) (below : place < 2 * z.geometry.zones) (room : first * z.geometry.block + n ≤ z.geometry.capacity * z.geometry.block)
        (is : at ≡ at_place z.geometry place + first * z.geometry.block) (clear : IsClear z.geometry place first n below room (map entry_of z.safe.items))
        (beside : SameBeside at n (f.seen z.file) (f.seen new)) (follows : Follows (SameBeside at n) (f.may_leave z.file) (f.may_leave new)) where
      -- the tables say the same as before
      pub place-served : IsClear z.geometry place first n below room z.entries.items → IsServed z.geometry z.named (f.seen new) z.entries.items z.live z.flushed words
      place-served free = data-served z.geometry place first n below room f.seen f.may_leave z.file new z.entries.items z.live z.flushed words held.4 held.5.within (held.6 going).1 clear (rw is at beside) (rw is at follows) held.1 free

      -- and so does the last flush
      pub place-kept : Kept f z new z.other.items
      place-kept =
          kept z.other.items
          (data-promise z.geometry place first n below room f.seen f.may_leave z.file new z.entries.items z.live z.flushed words held.4 held.5.within (held.6 going).1 clear (rw is at beside) (rw is at follows))
          (data-promises z.geometry place first n below room f.seen f.may_leave z.file new z.entries.items z.live z.flushed words held.4 held.5.within (held.6 going).1 clear (rw is at beside) (rw is at follows))

    -- ---- a word of the live table changes

    module _ (index table : ℕ) (low : index < length z.entries.items) (is : table ≡ at_table z.geometry z.live)
        (beside : SameBeside (table + 8 * index) 8 (f.seen z.file) (f.seen new))
        (follows : Follows (SameBeside (table + 8 * index) 8) (f.may_leave z.file) (f.may_leave new)) where
      -- no block changes
      pub word-places : SamePlaces z.geometry (f.seen z.file) (f.seen new)
      word-places = put-same z.geometry f.seen f.may_leave z.file new z.entries.items z.live z.flushed words index held.4 held.1 low held.5.within (held.6 going).1 (rw is at beside) (rw is at follows)

      -- nor does the last flush
      pub word-kept : Kept f z new z.other.items
      word-kept =
          kept z.other.items
          (put-promise z.geometry f.seen f.may_leave z.file new z.entries.items z.live z.flushed words index held.4 held.1 low held.5.within (held.6 going).1 (rw is at beside) (rw is at follows))
          (put-promises z.geometry f.seen f.may_leave z.file new z.entries.items z.live z.flushed words index held.4 held.1 low held.5.within (held.6 going).1 (rw is at beside) (rw is at follows))

    -- ---- the other flushed table, or the other live one, has new words

    module _ (table : ℕ) (entries : List Entry) (are : entries ≡ z.entries.items) (beside : SameBeside table (8 * length entries) (f.seen z.file) (f.seen new))
        (follows : Follows (SameBeside table (8 * length entries)) (f.may_leave z.file) (f.may_leave new)) where
      -- the table has a word for each zone
      count : length entries ≡ z.geometry.zones
      count = ap length are ∙ held.1

      module _ (is : table ≡ at_table z.geometry (other_table z.flushed)) where
        -- no block changes
        pub other-places : SamePlaces z.geometry (f.seen z.file) (f.seen new)
        other-places = other-same z.geometry f.seen f.may_leave z.file new z.entries.items z.live z.flushed words held.4 held.5.within (held.6 going).1 (rw (is, count) at beside) (rw (is, count) at follows)

        -- nor does the last flush
        pub other-kept : (other : List ℕ) → Kept f z new other
        other-kept other =
            kept other
            (other-promise z.geometry f.seen f.may_leave z.file new z.entries.items z.live z.flushed words held.4 held.5.within (held.6 going).1 (rw (is, count) at beside) (rw (is, count) at follows))
            (other-promises z.geometry f.seen f.may_leave z.file new z.entries.items z.live z.flushed words held.4 held.5.within (held.6 going).1 (rw (is, count) at beside) (rw (is, count) at follows))

        -- the other flushed table has the new words
        pub other-served : (other : List ℕ) → words_in (f.seen new) table (length entries) ≡ other → IsServed z.geometry z.named (f.seen new) z.entries.items z.live z.flushed (record words { other = other })
        other-served other known =
            served-other z.geometry f.seen f.may_leave z.file new z.entries.items z.live z.flushed words held.4 held.5.within (held.6 going).1 (rw (is, count) at beside) (rw (is, count) at follows) other (rw (is, count) at known)

      module _ (is : table ≡ at_table z.geometry (spare_table z.live)) where
        -- no block changes
        pub spare-places : SamePlaces z.geometry (f.seen z.file) (f.seen new)
        spare-places = spare-same z.geometry f.seen f.may_leave z.file new z.entries.items z.live z.flushed words held.4 held.5.within (held.6 going).1 (rw (is, count) at beside) (rw (is, count) at follows)

        -- nor does the last flush
        pub spare-kept : Kept f z new z.other.items
        spare-kept =
            kept z.other.items
            (spare-promise z.geometry f.seen f.may_leave z.file new z.entries.items z.live z.flushed words held.4 held.5.within (held.6 going).1 (rw (is, count) at beside) (rw (is, count) at follows))
            (spare-promises z.geometry f.seen f.may_leave z.file new z.entries.items z.live z.flushed words held.4 held.5.within (held.6 going).1 (rw (is, count) at beside) (rw (is, count) at follows))

        -- the other live table has the new words
        pub spare-served : (spare : List ℕ) → words_in (f.seen new) table (length entries) ≡ spare → IsServed z.geometry z.named (f.seen new) z.entries.items z.live z.flushed (record words { spare = spare })
        spare-served spare known =
            served-spare z.geometry f.seen f.may_leave z.file new z.entries.items z.live z.flushed words held.4 held.5.within (held.6 going).1 (rw (is, count) at beside) (rw (is, count) at follows) spare (rw (is, count) at known)

    -- ---- the word changes that picks a live table

    -- the last flush is as before
    pub pick-kept : SameBeside at_live 8 (f.seen z.file) (f.seen new) → Follows (SameBeside at_live 8) (f.may_leave z.file) (f.may_leave new) → Kept f z new z.other.items
    pick-kept beside follows =
        kept z.other.items
        (switch-promise z.geometry f.seen f.may_leave z.file new z.entries.items z.live z.flushed words held.4 held.5.within (held.6 going).1 beside follows)
        (switch-promises z.geometry f.seen f.may_leave z.file new z.entries.items z.live z.flushed words held.4 held.5.within (held.6 going).1 beside follows)

  -- ---- blocks are written behind those of a zone

  module _ (index n : ℕ) (read : Entry) (at : ℕ) (low : index < length z.entries.items) (is_read : read ≡ get_or z.entries.items index read)
      (room : (entry_at z.entries.items index).written * z.geometry.block + n ≤ z.geometry.capacity * z.geometry.block)
      (is_at : at ≡ at_place z.geometry (place_of index read) + read.written * z.geometry.block) where
    -- the place of the zone
    abbrev place : ℕ
    place = place_of index (entry_at z.entries.items index)

    -- how many blocks it has
    abbrev first : ℕ
    first = (entry_at z.entries.items index).written

    -- they come after the blocks of the zone in its place
    pub behind : at ≡ at_place z.geometry place + first * z.geometry.block
    behind = is_at ∙ ap (λ (e : Entry). at_place z.geometry (place_of index e) + e.written * z.geometry.block) (entry-read z.entries.items index read low is_read)

    -- the place is one of the file's
    below : place < 2 * z.geometry.zones
    below = place-low index z.geometry.zones (entry_at z.entries.items index) (omega (arith, low, held.1))

    -- they end in the file
    pub behind-within : at + n ≤ length (f.seen z.file)
    behind-within = rw (behind, held.4.long) (data-within z.geometry place first n below room)

    -- no zone has a block there
    behind-clear : IsClear z.geometry place first n below room z.entries.items
    behind-clear i d inside = elim (cases_eq i index) [
      | inl same ↦ inr (rw same (omega (arith, ap (λ (e : Entry). e.written) (get_or_default z.entries.items index d no_entry low))))
      | inr away ↦ inl (places-apart i index (get_or z.entries.items i d) (entry_at z.entries.items index) away)
    ]

    module _ (new : F) (beside : SameBeside at n (f.seen z.file) (f.seen new)) where
      -- all other blocks are the same
      pub behind-others : KeepsOthers z.geometry place first (f.seen z.file) (f.seen new)
      behind-others = data-keeps z.geometry place first n below room (f.seen z.file) (f.seen new) (rw behind at beside)

      module _ (going : z.failed ≡ false) (follows : Follows (SameBeside at n) (f.may_leave z.file) (f.may_leave new)) where
        -- the tables say the same as before
        pub behind-served : IsServed z.geometry z.named (f.seen new) z.entries.items z.live z.flushed words
        behind-served = place-served going new place first n at below room behind (apart-clear z.safe.items z.entries.items index held.8 low) beside follows behind-clear

        -- and so does the last flush
        pub behind-kept : Kept f z new z.other.items
        behind-kept = place-kept going new place first n at below room behind (apart-clear z.safe.items z.entries.items index held.8 low) beside follows

  -- ---- the room of a place is given back, where no zone has a block

  module _ (index n at : ℕ) (second : Bool) (low : index < length z.entries.items) (all : n ≡ z.geometry.capacity * z.geometry.block)
      (is_at : at ≡ at_place z.geometry (place_of index (record { state = Empty; written = 0; second = second; sum = 0 }))) where
    -- the zone in that place, with no block
    abbrev free : Entry
    free = record { state = Empty; written = 0; second = second; sum = 0 }

    -- the place begins there
    begins : at ≡ at_place z.geometry (place_of index free) + 0 * z.geometry.block
    begins = omega (arith, is_at)

    -- it is one of the file's
    below-free : place_of index free < 2 * z.geometry.zones
    below-free = place-low index z.geometry.zones free (omega (arith, low, held.1))

    -- all of it is given back
    room-free : 0 * z.geometry.block + n ≤ z.geometry.capacity * z.geometry.block
    room-free = omega (arith, all)

    -- it ends in the file
    pub free-within : at + n ≤ length (f.seen z.file)
    free-within = rw (begins, held.4.long) (data-within z.geometry (place_of index free) 0 n below-free room-free)

    -- no zone has a block there
    entries-clear : (read : Entry) → read ≡ get_or z.entries.items index read → is_apart read free ≡ true → IsClear z.geometry (place_of index free) 0 n below-free room-free z.entries.items
    entries-clear read is apart = free-clear z.entries.items index free low (rw (← (entry-read z.entries.items index read low is)) apart)

    module _ (new : F) (beside : SameBeside at n (f.seen z.file) (f.seen new)) where
      -- the zones have the same blocks
      pub free-zones : (read : Entry) → read ≡ get_or z.entries.items index read → is_apart read free ≡ true → zones_in z.geometry (f.seen new) 0 z.entries.items ≡ zones_in z.geometry (f.seen z.file) 0 z.entries.items
      free-zones read is apart =
          data-zones z.geometry (place_of index free) 0 n below-free room-free (f.seen z.file) (f.seen new) z.entries.items (rw begins at beside) held.1 held.2 (entries-clear read is apart)

      module _ (going : z.failed ≡ false) (follows : Follows (SameBeside at n) (f.may_leave z.file) (f.may_leave new))
          (word : ℕ) (last : Entry) (is_word : word ≡ get_or z.safe.items index word) (is_last : last ≡ entry_of word) (apart : is_apart last free ≡ true) where
        -- the last flush has a word for each zone
        many : length z.safe.items ≡ z.geometry.zones
        many = length-safe z.geometry (f.seen z.file) z.entries.items z.live z.flushed words held.4

        -- the last flush has no block in that place
        clear-free : IsClear z.geometry (place_of index free) 0 n below-free room-free (map entry_of z.safe.items)
        clear-free =
            let low_safe : index < length z.safe.items = omega (arith, low, many, held.1) in
            let is : last ≡ flushed_at z.safe.items index = is_last ∙ ap entry_of (is_word ∙ get_or_default_zero z.safe.items index word low_safe) in
            let said : entry_at (map entry_of z.safe.items) index ≡ flushed_at z.safe.items index = get_or-map entry_of z.safe.items index 0 no_entry low_safe in
            free-clear (map entry_of z.safe.items) index free (omega (arith, low_safe, length-map z.safe.items entry_of)) (rw said (subst (λ (e : Entry). is_apart e free ≡ true) is apart))

        -- the tables say the same as before
        pub free-served : (read : Entry) → read ≡ get_or z.entries.items index read → is_apart read free ≡ true → IsServed z.geometry z.named (f.seen new) z.entries.items z.live z.flushed words
        free-served read is_read apart' = place-served going new (place_of index free) 0 n at below-free room-free begins clear-free beside follows (entries-clear read is_read apart')

        -- and so does the last flush
        pub free-kept : Kept f z new z.other.items
        free-kept = place-kept going new (place_of index free) 0 n at below-free room-free begins clear-free beside follows
