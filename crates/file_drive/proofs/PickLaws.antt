-- The other flushed table is picked: what may be found then after a loss of power.
use Rattle.std.proofs.Common.{◌≡◌, ◌<◌, ◌^◌, ℕ, ◌-◌, Bool, true, false, List, map, refl, sym, subst, ◌∙◌}
use Rattle.std.specs.List.{Contains}
use Rattle.sqlite_disk.specs.Disk.{Follows}
use Rattle.zone_states.specs.Stored.{StoredZone}
use Rattle.zone_drive.specs.Held.{DurableJust, DurableOrNow}
use Rattle.file_bytes.specs.Changes.{SameBeside}
use Rattle.file_bytes.specs.declared.file.FileBytes.{Ghosts as FileGhosts}
use Rattle.file_drive.specs.InFile.{AllDurable, AreApart, AreWords, IsReady, IsServed, Words, durable_zones, other_table}
use Rattle.file_drive.specs.Layout.{SamePlaces, at_flushed, word_in}
use Rattle.file_drive.specs.Tables.{word_of, zones_in}
use Rattle.file_drive.specs.declared.boot.System.{Ghosts as SystemGhosts}
use Rattle.file_drive.specs.declared.zones.FileZones.TheInside.{Inside}
use Rattle.file_drive.specs.declared.zones.FileZones.TheView.{invariant, view}
use Rattle.file_drive.proofs.ApartLaws.{apart-flushed}
use Rattle.file_drive.proofs.ServedLaws.{are-words, durable-by, pick-either, pick-opens, pick-or-now, pick-same, picked-either, picked-just, picked-or-now, picked-served, small-capacity}

module _ {F S : Type 0} (f : FileGhosts F) (s : SystemGhosts S) (z : Inside F S) (held : invariant F S f s z) (ready : IsReady f.seen f.may_leave (view F S f s z)) (new : F)
    (beside : SameBeside at_flushed 8 (f.seen z.file) (f.seen new)) where
  -- the words of the tables that are not live
  abbrev words : Words
  words = record { spare = z.spare.items; safe = z.safe.items; other = z.other.items }

  -- the other table has the words of the zones
  other-ready : z.other.items ≡ map word_of z.entries.items
  other-ready = sym held.4.other_words ∙ rw held.4.flushed_is at ready.words

  -- so many blocks can be counted
  small : z.geometry.capacity < 2 ^ 32
  small = small-capacity z.geometry held.0

  -- a table may have them
  pub picked-words : AreWords z.geometry z.other.items
  picked-words = rw other-ready (are-words z.geometry z.entries.items small held.2)

  -- and no zone is where they count more of its blocks
  pub picked-apart : AreApart z.other.items z.entries.items
  picked-apart = rw other-ready (apart-flushed z.geometry z.entries.items small held.2)

  -- no block changes
  pub pick-places : SamePlaces z.geometry (f.seen z.file) (f.seen new)
  pick-places = pick-same z.geometry (f.seen z.file) (f.seen new) z.entries.items z.live z.flushed words held.4 beside

  -- the tables say the same zones, and the two flushed ones have changed places
  pub picked : word_in (f.seen new) at_flushed ≡ other_table z.flushed - 2
      → IsServed z.geometry z.named (f.seen new) z.entries.items z.live (other_table z.flushed) (record { spare = z.spare.items; safe = z.other.items; other = z.safe.items })
  picked = picked-served z.geometry f.seen f.may_leave z.file new z.entries.items z.live z.flushed words held.4 held.1 held.2 held.5.within small other-ready beside

  -- ---- the word could not be written

  module _ (shown : f.seen new ≡ f.seen z.file) where
    -- the same zones may be found as before
    same-durable : durable_zones z.geometry (f.seen new) z.safe.items z.other.items true ≡ durable_zones z.geometry (f.seen z.file) z.safe.items z.other.items true
    same-durable = durable-by z.geometry _ _ _ _ _ _ true shown refl refl

    -- whatever a loss of power leaves can be opened, with the zones of one of the two tables
    pub failed-all : Follows (SameBeside at_flushed 8) (f.may_leave z.file) (f.may_leave new) → AllDurable f.may_leave z.geometry new (durable_zones z.geometry (f.seen new) z.safe.items z.other.items true)
    failed-all follows = subst (λ (d : List (List StoredZone)). AllDurable f.may_leave z.geometry new d) (sym same-durable) (λ bytes may. (
      pick-opens z.geometry f.seen f.may_leave z.file new z.entries.items z.live z.flushed words held.4 held.1 held.2 held.5.within small other-ready beside ready.synced follows held.5 bytes may,
      pick-either z.geometry f.seen f.may_leave z.file new z.entries.items z.live z.flushed words held.4 held.1 held.2 held.5.within small other-ready beside ready.synced follows bytes may,
    ))

    -- zones that may be found were so before, or are those that are there
    pub failed-or-now : DurableOrNow (zones_in z.geometry (f.seen z.file) 0 z.entries.items) (durable_zones z.geometry (f.seen z.file) z.safe.items z.other.items z.unsure)
        (durable_zones z.geometry (f.seen new) z.safe.items z.other.items true)
    failed-or-now found left =
        pick-or-now z.geometry f.seen f.may_leave z.file new z.entries.items z.live z.flushed words held.4 held.1 held.2 held.5.within small other-ready beside z.unsure found (subst (λ (d : List (List StoredZone)). Contains d found) same-durable left)

  -- ---- it was written: these are the words of the two tables in a later file that shows the same

  module _ (later : F) (safe other : List ℕ) (shown : f.seen later ≡ f.seen new) (is_safe : safe ≡ z.other.items) (is_other : other ≡ z.safe.items) where
    -- the same zones may be found as in the file before
    picked-durable : (unsure : Bool) → durable_zones z.geometry (f.seen later) safe other unsure ≡ durable_zones z.geometry (f.seen new) z.other.items z.safe.items unsure
    picked-durable unsure = durable-by z.geometry _ _ _ _ _ _ unsure shown is_safe is_other

    -- whatever a loss of power leaves can be opened, with the zones of one of the two tables
    pub picked-all : Follows (SameBeside at_flushed 8) (f.may_leave z.file) (f.may_leave new) → ((bytes : List ℕ) → f.may_leave later bytes → f.may_leave new bytes)
        → AllDurable f.may_leave z.geometry later (durable_zones z.geometry (f.seen later) safe other true)
    picked-all follows fewer = subst (λ (d : List (List StoredZone)). AllDurable f.may_leave z.geometry later d) (sym (picked-durable true)) (λ bytes may. (
      pick-opens z.geometry f.seen f.may_leave z.file new z.entries.items z.live z.flushed words held.4 held.1 held.2 held.5.within small other-ready beside ready.synced follows held.5 bytes (fewer bytes may),
      picked-either z.geometry f.seen f.may_leave z.file new z.entries.items z.live z.flushed words held.4 held.1 held.2 held.5.within small other-ready beside ready.synced follows bytes (fewer bytes may),
    ))

    -- zones that may be found were so before, or are those that are there
    pub picked-now : DurableOrNow (zones_in z.geometry (f.seen z.file) 0 z.entries.items) (durable_zones z.geometry (f.seen z.file) z.safe.items z.other.items z.unsure)
        (durable_zones z.geometry (f.seen later) safe other true)
    picked-now found left =
        picked-or-now z.geometry f.seen f.may_leave z.file new z.entries.items z.live z.flushed words held.4 held.1 held.2 held.5.within small other-ready beside z.unsure found (subst (λ (d : List (List StoredZone)). Contains d found) (picked-durable true) left)

    -- where no call has failed, only the zones that are there may be found
    pub picked-only : z.failed ≡ false → DurableJust (zones_in z.geometry (f.seen z.file) 0 z.entries.items) (durable_zones z.geometry (f.seen later) safe other z.unsure)
    picked-only going found left =
        picked-just z.geometry f.seen f.may_leave z.file new z.entries.items z.live z.flushed words held.4 held.1 held.2 held.5.within small other-ready beside z.unsure (held.9 going) found (subst (λ (d : List (List StoredZone)). Contains d found) (picked-durable z.unsure) left)
