-- What holds of some damaged blocks holds of more.
use Rattle.std.proofs.Common.{◌≡◌, inl, inr, ℕ, Bool, true, false, not, ◌||◌, List, Option, Some, None, refl}
use Rattle.drive_array.specs.Records.{Record}
use Rattle.drive_rescue.specs.declared.giving.Rescued.{Rescued}
use Rattle.drive_rescue.specs.Rescue.{Gives, GivesBlocks, no_block, shows, loses}
use Rattle.drive_rescue.specs.Searching.{EndsAt, Ends, Finding, Place, Reaches, begins, looks, Reads, Searched, SearchesZone, at_first, one_more}
use Rattle.drive_rescue.specs.Zones.{Damage, Lasts, ReadZone, cut, zone_with}

-- ---- which blocks are damaged

pub lasts-same : (d : Damage) → Lasts d d
lasts-same d number offset is = is

pub lasts-both : (d e f : Damage) → Lasts d e → Lasts e f → Lasts d f
lasts-both d e f one other number offset is = other number offset (one number offset is)

-- a flag that does not rise
pub not-lasts : (old new : Bool) → (new ≡ true → old ≡ true) → not old ≡ true → not new ≡ true
not-lasts old true falls is = let up : old ≡ true = falls refl in let bad : not true ≡ true = rw up at is in absurd (cc)
not-lasts old false falls is = refl

-- some blocks that are damaged anyway
pub damage-lasts : (own old new : Bool) → (old ≡ true → new ≡ true) → (own || old) ≡ true → (own || new) ≡ true
damage-lasts true old new more is = refl
damage-lasts false old new more is = more is

-- ---- a search

reads-lasts : (b c : Bool) (blocks : List (List ℕ)) (offset : ℕ) (reading : Option (List ℕ)) → (b ≡ true → c ≡ true) → Reads b blocks offset reading → Reads c blocks offset reading
reads-lasts b c blocks offset None more may = more may
reads-lasts b c blocks offset (Some block) more is = is

pub reaches-lasts : (d e : Damage) (zone : ReadZone) (number : ℕ) (finding : Finding) (place : Place) → Lasts d e → Reaches d zone number finding place → Reaches e zone number finding place
reaches-lasts d e zone number finding _ more begins = begins
reaches-lasts d e zone number finding _ more (looks {place} reading before lt says) =
    looks reading (reaches-lasts d e zone number finding place more before) lt (reads-lasts (d number place.offset) (e number place.offset) zone.blocks place.offset reading (more number place.offset) says)

pub ends-lasts : (d e : Damage) (zone : ReadZone) (number end : ℕ) → Lasts d e → Ends d zone number end → Ends e zone number end
ends-lasts d e zone number end more ends open_one =
    let here : EndsAt d zone number end = ends open_one in
    record {
      within = here.within;
      zeros = here.zeros;
      last = λ offset is. elim (here.last offset is) [ inl damaged ↦ inl (more number offset damaged) | inr other ↦ inr other ];
    }

searches-lasts : (d e : Damage) (zone : ReadZone) (number : ℕ) (before after : Finding) → Lasts d e → SearchesZone d zone number before after → SearchesZone e zone number before after
searches-lasts d e zone number before after more searches = record {
  end = searches.end;
  ends = ends-lasts d e zone number searches.end more searches.ends;
  place = searches.place;
  reaches = reaches-lasts d e (cut zone searches.end) number before searches.place more searches.reaches;
  far = searches.far;
  after_is = searches.after_is;
}

pub searched-lasts : (d e : Damage) (zones : List ReadZone) (n : ℕ) (finding : Finding) → Lasts d e → Searched d zones n finding → Searched e zones n finding
searched-lasts d e zones _ _ more at_first = at_first
searched-lasts d e zones _ _ more (one_more {n = n} {finding} {after} before searches) =
    one_more (searched-lasts d e zones n finding more before) (searches-lasts d e (zone_with zones n) n finding after more searches)

-- ---- what is given

pub gives-lasts : (d e : Damage) (b : ℕ) (rs : List Record) (n : ℕ) (bytes lost : List ℕ) → Lasts d e → Gives d b rs n bytes lost → Gives e b rs n bytes lost
gives-lasts d e b rs _ _ _ more no_block = no_block
gives-lasts d e b rs _ _ _ more (shows {n} {bytes} {lost} before) = shows (gives-lasts d e b rs n bytes lost more before)
gives-lasts d e b rs _ _ _ more (loses {n} {bytes} {lost} before is) =
    loses (gives-lasts d e b rs n bytes lost more before)
    (record { newest_one = is.newest_one; is = is.is; content = is.content; damaged_there = more is.newest_one.zone is.newest_one.offset is.damaged_there })

pub gave-lasts : (d e : Damage) (b : ℕ) (finding : Finding) (rescued : Rescued) (bytes : List ℕ) → Lasts d e → GivesBlocks d b finding rescued bytes → GivesBlocks e b finding rescued bytes
gave-lasts d e b finding rescued bytes more gave = record { gives = gives-lasts d e b _ rescued.blocks bytes _ more gave.gives; older = gave.older }
