-- The search of a zone, block by block.
use Rattle.std.proofs.Common.{◌≡◌, ◌⊎◌, inl, inr, ℕ, zero, suc, ◌+◌, ◌<◌, ◌≤◌, ◌^◌, max, Bool, true, false, List, [], ◌∷◌, ◌++◌, length, Option, Some, None, Ok, refl, sym, ap, ◌∙◌, arith}
use Rattle.std.specs.Prelude.{slice_get}
use Rattle.zone_states.specs.Geometry.{IsInRange}
use Rattle.batch_log.specs.Causes.{is_zero}
use Rattle.batch_log.specs.Header.{Heading}
use Rattle.batch_log.specs.Log.{data_count}
use Rattle.drive_array.specs.Records.{Record, entry_records}
use Rattle.drive_array.specs.Sizes.{larger}
use Rattle.drive_array.proofs.SizeLaws.{larger-assoc, larger-none}
use Rattle.drive_survey.specs.declared.reported.ReportedZone.{ReportedZone}
use Rattle.drive_rescue.specs.declared.search.Search.{Search}
use Rattle.drive_rescue.specs.declared.search.SoughtZone.{SoughtZone}
use Rattle.drive_rescue.specs.declared.search.Trail.TheVariants.{Whole}
use Rattle.drive_rescue.specs.declared.source.Reading.TheVariants.{Held, Unreadable}
use Rattle.drive_rescue.specs.Holding.{Gets, GetsIn, Holds, HoldsFinding, HoldsZone, IsSmall, IsSought, IsSoughtIn, SaysZero}
use Rattle.drive_rescue.specs.Rescue.{KeepsSource, ReadSays, SourceView}
use Rattle.drive_rescue.specs.Searching.{Ends, EndsAt, Finding, Found, Place, begins, looks, Searched, SearchesZone, at_first, one_more, after_reading, begun, batch_at, doubt_before, ended, found_records, found_size, nothing_found, with_batch, with_gap}
use Rattle.drive_rescue.specs.Zones.{ReadZone, TellsAll, TellsZone, block_with, cut, read_zones, zone_with}
use Rattle.drive_rescue.specs.Notes.{Notes}
use Rattle.drive_rescue.proofs.CutLaws.{cut-within}
use Rattle.drive_rescue.proofs.DamageLaws.{ends-lasts, reaches-lasts, searched-lasts}
use Rattle.drive_rescue.proofs.FoundLaws.{records-more}
use Rattle.drive_rescue.proofs.KeepLaws.{keeps-source_both, zones-kept}

-- the number of bytes that a block has
pub block-room : (source : SourceView) (number offset n : ℕ) (bytes : List ℕ) → IsInRange source.drive.geometry → ReadSays source number offset (Ok Held) bytes → n ≡ length bytes → (32 ≤ n) × (n < 2 ^ 32)
block-room source number offset n bytes range says is = at range.block
  where
    at : (source.drive.geometry.block ≡ 512) ⊎ (source.drive.geometry.block ≡ 4096) → (32 ≤ n) × (n < 2 ^ 32)
    at (inl e) = (omega (arith, e, says.1, is), omega (arith, e, says.1, is))
    at (inr e) = (omega (arith, e, says.1, is), omega (arith, e, says.1, is))

-- the next block of a zone was read
pub gets-block : (source : SourceView) (sought : SoughtZone) (finding : Finding) (end offset : ℕ) (old new : Search) (bytes block : List ℕ) → offset ≡ old.offset → IsSought sought (cut (zone_with (read_zones source.drive) sought.number) end) → offset < sought.blocks
    → block ≡ bytes → ReadSays source sought.number offset (Ok Held) bytes
    → ((read : ReadZone) (place : Place) → IsSought sought read → Holds old place → Holds new (after_reading read sought.number place (Some block))) → GetsIn source sought.number end finding old → GetsIn source sought.number end finding new
gets-block source sought finding end offset old new bytes block at is lt same says step gets =
    let zone = cut (zone_with (read_zones source.drive) sought.number) end in
    let there : offset ≡ gets.place.offset = at ∙ gets.holds.offset in
    let lt' : gets.place.offset < length zone.blocks = omega (arith, there, lt, is.blocks) in
    let full = ((cut-within (zone_with (read_zones source.drive) sought.number) end).each gets.place.offset lt').1 in
    let read : block ≡ block_with (read_zones source.drive) sought.number gets.place.offset = rw (← there) (same ∙ says.0) in
    record { place = after_reading zone sought.number gets.place (Some block); reaches = looks (Some block) gets.reaches lt' (read ∙ sym full); holds = step zone gets.place is gets.holds }

-- the next block of a zone could not be read
pub gets-gap : (source : SourceView) (sought : SoughtZone) (finding : Finding) (end offset : ℕ) (old new : Search) (bytes : List ℕ) → offset ≡ old.offset → IsSought sought (cut (zone_with (read_zones source.drive) sought.number) end) → offset < sought.blocks
    → ReadSays source sought.number offset (Ok Unreadable) bytes → ((place : Place) → Holds old place → Holds new (with_gap place)) → GetsIn source sought.number end finding old → GetsIn source sought.number end finding new
gets-gap source sought finding end offset old new bytes at is lt says step gets =
    let zone = cut (zone_with (read_zones source.drive) sought.number) end in
    let there : offset ≡ gets.place.offset = at ∙ gets.holds.offset in
    let lt' : gets.place.offset < length zone.blocks = omega (arith, there, lt, is.blocks) in
    let damaged : source.damaged sought.number gets.place.offset ≡ true = rw (← there) says in
    record { place = with_gap gets.place; reaches = looks None gets.reaches lt' damaged; holds = step gets.place gets.holds }

-- ---- one zone

gets-kept : (a b : SourceView) (number end : ℕ) (finding : Finding) (search : Search) → KeepsSource a b → GetsIn a number end finding search → GetsIn b number end finding search
gets-kept a b number end finding search k gets =
    let zone = cut (zone_with (read_zones a.drive) number) end in
    let more : Gets b.damaged zone number finding search = record { place = gets.place; reaches = reaches-lasts a.damaged b.damaged zone number finding gets.place k.damaged gets.reaches; holds = gets.holds } in
    rw (zones-kept a b k) more

cut-kept : (a b : SourceView) (sought : SoughtZone) (end : ℕ) → KeepsSource a b → IsSought sought (cut (zone_with (read_zones a.drive) sought.number) end) → IsSought sought (cut (zone_with (read_zones b.drive) sought.number) end)
cut-kept a b sought end k is = rw (zones-kept a b k) is

pub sought-kept : (a b : SourceView) (sought : SoughtZone) → KeepsSource a b → IsSought sought (zone_with (read_zones a.drive) sought.number) → IsSought sought (zone_with (read_zones b.drive) sought.number)
sought-kept a b sought k is = rw (zones-kept a b k) is

pub sought-at : (zones : List ReadZone) (sought : SoughtZone) (n m : ℕ) → m ≡ n → IsSought sought (zone_with zones n) → IsSought sought (zone_with zones m)
sought-at zones sought n m same is = rw same is

-- a zone begins to be searched
pub gets-first : (source : SourceView) (number end : ℕ) (finding : Finding) (search : Search) → Holds search (begun (cut (zone_with (read_zones source.drive) number) end) finding) → GetsIn source number end finding search
gets-first source number end finding search holds = record { place = begun (cut (zone_with (read_zones source.drive) number) end) finding; reaches = begins; holds = holds }

-- the search of a zone goes on
pub gets-next : (a b c : SourceView) (sought : SoughtZone) (end : ℕ) (finding : Finding) (old new : Search) → KeepsSource a b → KeepsSource b c → IsSought sought (cut (zone_with (read_zones a.drive) sought.number) end)
    → ((finding : Finding) (end : ℕ) → IsSought sought (cut (zone_with (read_zones c.drive) sought.number) end) → GetsIn c sought.number end finding old → GetsIn c sought.number end finding new)
    → GetsIn b sought.number end finding old → GetsIn c sought.number end finding new
gets-next a b c sought end finding old new k l is step gets = step finding end (cut-kept a c sought end (keeps-source_both a b c k l) is) (gets-kept b c sought.number end finding old l gets)

-- a zone is searched
pub gets-all : (a b : SourceView) (sought : SoughtZone) (finding : Finding) (old new : Search) → KeepsSource a b → (is : IsSoughtIn a sought) → sought.blocks ≤ old.offset
    → ((place : Place) → Holds old place → HoldsFinding new (ended place)) → GetsIn b sought.number is.end finding old → HoldsZone b sought.number finding new
gets-all a b sought finding old new k is far step gets =
    let there : IsSought sought (cut (zone_with (read_zones b.drive) sought.number) is.end) = cut-kept a b sought is.end k is.is in
    let ends : Ends b.damaged (zone_with (read_zones a.drive) sought.number) sought.number is.end = ends-lasts a.damaged b.damaged (zone_with (read_zones a.drive) sought.number) sought.number is.end k.damaged is.ends in
    record {
      after = ended gets.place;
      searches = record { end = is.end; ends = rw (zones-kept a b k) ends; place = gets.place; reaches = gets.reaches; far = omega (arith, far, there.blocks, gets.holds.offset); after_is = refl };
      holds = step gets.place gets.holds;
    }

-- ---- all zones

-- The first zones are searched, as many as n, and what was found is kept.
pub record SearchedTo (source : SourceView) (n : ℕ) (search : Search) : Type 0 where
  pub finding : Finding
  pub searched : Searched source.damaged (read_zones source.drive) n finding
  pub holds : HoldsFinding search finding

pub searched-none : (source : SourceView) (search : Search) → HoldsFinding search nothing_found → SearchedTo source 0 search
searched-none source search holds = record { finding = nothing_found; searched = at_first; holds = holds }

-- one zone more
pub searched-more : (a b : SourceView) (n n' number : ℕ) (old new : Search) → KeepsSource a b → n' ≡ suc n → number ≡ n → ((finding : Finding) → HoldsFinding old finding → HoldsZone b number finding new) → SearchedTo a n old → SearchedTo b n' new
searched-more a b n n' number old new k next is step done =
    let more = step done.finding done.holds in
    let before : Searched b.damaged (read_zones b.drive) n done.finding = rw (zones-kept a b k) (searched-lasts a.damaged b.damaged (read_zones a.drive) n done.finding k.damaged done.searched) in
    let here : SearchesZone b.damaged (zone_with (read_zones b.drive) n) n done.finding more.after = rw (← is) more.searches in
    rw next (record { finding = more.after; searched = one_more before here; holds = more.holds })

pub told-kept : (a b : SourceView) (reported : List ReportedZone) (number : ℕ) (r : ReportedZone) → KeepsSource a b → TellsAll a.drive.geometry.capacity (read_zones a.drive) reported → slice_get reported number ≡ Some r
    → (n : ℕ) → n ≡ a.drive.geometry.capacity → TellsZone n (zone_with (read_zones b.drive) number) r
told-kept a b reported number r k tells there n cap = rw (cap, zones-kept a b k) (tells.each number r there)

-- ---- a batch that is taken

pub larger-small : (x y : Option ℕ) → IsSmall x → IsSmall y → IsSmall (larger x y)
larger-small None y p q = q
larger-small (Some a) None p q = p
larger-small (Some a) (Some b) p q = omega (arith, p, q)

size-more : (found : List Found) (f : Found) → found_size (found ++ f ∷ []) ≡ larger (found_size found) f.batch.heading.size
size-more [] f = larger-none f.batch.heading.size
size-more (x ∷ found) f = ap (larger x.batch.heading.size) (size-more found f) ∙ larger-assoc x.batch.heading.size (found_size found) f.batch.heading.size

-- a batch is taken
pub takes-batch : (old new : Search) (zone : ReadZone) (number : ℕ) (place : Place) (heading : Heading) → new.offset ≡ old.offset + 1 + data_count heading.entries → new.trail ≡ Whole → new.floor ≡ max old.floor (heading.sequence + 1)
    → new.doubt ≡ doubt_before old.trail old.doubt heading.sequence → new.size ≡ larger old.size heading.size → IsSmall heading.size
    → ((rs : List Record) (body : List (List ℕ)) → Notes rs old.table.items → Notes (rs ++ entry_records heading.sequence body number old.offset 0 heading.entries) new.table.items)
    → Holds old place → Holds new (with_batch zone number place heading)
takes-batch old new zone number place heading offset trail floor doubt size small notes holds =
    let batch = batch_at zone place.offset heading in
    let f : Found = record { zone = number; offset = place.offset; batch = batch } in
    let found = place.finding.found in
    let noted = rw holds.offset at (notes (found_records found) batch.body holds.finding.notes) in
    record {
      offset = offset ∙ ap (λ (n : ℕ). n + 1 + data_count heading.entries) holds.offset;
      trail = trail;
      floor = floor ∙ ap (λ (n : ℕ). max n (heading.sequence + 1)) holds.floor;
      finding = record {
        doubt = doubt ∙ rw (holds.trail, holds.finding.doubt) refl;
        size = size ∙ ap (λ (s : Option ℕ). larger s heading.size) holds.finding.size ∙ sym (size-more found f);
        small = rw size (larger-small old.size heading.size holds.finding.small small);
        notes = rw (records-more found f) noted;
      };
    }

-- ---- where a zone ends

-- from this block on there are only zeros
abbrev pub ZerosFrom : SourceView → ℕ → ℕ → Type 0
ZerosFrom source number end = (offset : ℕ) → end ≤ offset → offset < length (zone_with (read_zones source.drive) number).blocks → is_zero (block_with (read_zones source.drive) number offset) ≡ true

says-back : (a b : SourceView) (number offset : ℕ) → KeepsSource a b → SaysZero b number offset true → SaysZero a number offset true
says-back a b number offset k says = rw (← zones-kept a b k) says

-- one zero block more
pub zeros-more : (a b : SourceView) (number before end : ℕ) (told : Bool) → KeepsSource a b → end ≡ suc before → told ≡ true → SaysZero b number before told → ZerosFrom a number end → ZerosFrom a number before
zeros-more a b number before end told k next is says zeros offset le lt = at (same-or-above before offset le)
  where
    here : is_zero (block_with (read_zones a.drive) number before) ≡ true
    here = says-back a b number before k (rw is at says)

    same-or-above : (x y : ℕ) → x ≤ y → (y ≡ x) ⊎ (suc x ≤ y)
    same-or-above zero zero le' = inl refl
    same-or-above zero (suc y) le' = inr (omega arith)
    same-or-above (suc x) zero le' = absurd (omega (arith, le'))
    same-or-above (suc x) (suc y) le' = elim (same-or-above x y (omega (arith, le'))) [ inl e ↦ inl (omega (arith, e)) | inr above ↦ inr (omega (arith, above)) ]

    at : (offset ≡ before) ⊎ (suc before ≤ offset) → is_zero (block_with (read_zones a.drive) number offset) ≡ true
    at (inl same) = rw same here
    at (inr above) = zeros offset (omega (arith, above, next)) lt

-- the zone ends here
pub ends-here : (a b : SourceView) (number before end : ℕ) (told : Bool) → KeepsSource a b → end ≡ suc before → told ≡ false → SaysZero b number before told → end ≤ length (zone_with (read_zones a.drive) number).blocks
    → ZerosFrom a number end → EndsAt b.damaged (zone_with (read_zones b.drive) number) number end
ends-here a b number before end told k next is says within zeros = rw (zones-kept a b k) ends
  where
    last : (offset : ℕ) → end ≡ suc offset → (b.damaged number offset ≡ true) ⊎ (is_zero (block_with (read_zones b.drive) number offset) ≡ false)
    last offset e = let same : offset ≡ before = omega (arith, e, next) in rw same (rw is at says)

    ends : EndsAt b.damaged (zone_with (read_zones a.drive) number) number end
    ends = record { within = within; zeros = zeros; last = rw (zones-kept a b k) at last }

-- or it has only zeros
pub ends-at_first : (a b : SourceView) (number : ℕ) → KeepsSource a b → ZerosFrom a number 0 → EndsAt b.damaged (zone_with (read_zones b.drive) number) number 0
ends-at_first a b number k zeros = rw (zones-kept a b k) ends
  where
    ends : EndsAt b.damaged (zone_with (read_zones a.drive) number) number 0
    ends = record { within = omega arith; zeros = zeros; last = λ offset e. absurd (omega (arith, e)) }
