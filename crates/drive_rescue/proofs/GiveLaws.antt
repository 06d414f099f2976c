-- The blocks of the disk are given one after the other.
use Rattle.std.proofs.Common.{◌≡◌, ℕ, suc, ◌+◌, ◌<◌, ◌^◌, nat_lt, Bool, true, false, is_none, List, [], ◌∷◌, ◌++◌, length, Option, Some, None, Result, Ok, Err, refl, sym, ap, ◌∙◌, inr, arith, append-nil}
use Rattle.std.specs.Prelude.{filter, IfErr}
use Rattle.std.specs.Result.{IsErrAnd}
use Rattle.std.specs.Io.KnownBytes.{Appends, Keeps}
use Rattle.std.specs.List.{AllByRecursion, range_with_len}
use Rattle.std.specs.Option.{option_map}
use Rattle.std.proofs.KnownBytes.{Appends-nil, Appends-trans}
use Rattle.std.proofs.lemmas.List.Elements.{filter-append}
use Rattle.disk_files.specs.Output.{AppendsFront}
use Rattle.disk_files.proofs.OutputLaws.{front_second}
use Rattle.drive_array.specs.Records.{IsNewest, Record, newest, shown}
use Rattle.drive_array.proofs.NewestLaws.{all-among, newest-is}
use Rattle.drive_rescue.specs.declared.fault.RescueFault.{RescueFault}
use Rattle.drive_rescue.specs.declared.fault.RescueFault.TheVariants as faults
use Rattle.drive_rescue.specs.declared.giving.Rescued.{Rescued}
use Rattle.drive_rescue.specs.declared.search.Search.{Search}
use Rattle.drive_rescue.specs.declared.table.Slot.{Slot}
use Rattle.drive_rescue.specs.Giving.{AllFit, FindsHeld, FitsSlot, Gave, GiveFails, GivesAll, GivesBlock, GivesData, GivesMore, GivesPart, IsKept, StepFails, only_if, slot_newness}
use Rattle.drive_rescue.specs.Notes.{slot_at, slot_of}
use Rattle.drive_rescue.specs.Ranges.{blocks_in}
use Rattle.drive_rescue.specs.Rescue.{Gives, no_block, shows, loses, IsLost, KeepsSource, SourceView, may_be_older, newness, older_blocks}
use Rattle.drive_rescue.specs.Searching.{Finding, Searched, found_records}
use Rattle.drive_rescue.specs.Zones.{read_zones, zone_with}
use Rattle.drive_rescue.proofs.FoundLaws.{Stands, searched-stand}
use Rattle.drive_rescue.proofs.DamageLaws.{gave-lasts, searched-lasts}
use Rattle.drive_rescue.proofs.KeepLaws.{count-kept, keeps-source_both, zones-kept}
use Rattle.drive_rescue.proofs.RangeLaws.{range-more}

-- ---- one block

abbrev WillGive : SourceView → List Record → ℕ → List ℕ → List ℕ → Type 0
WillGive source rs n bytes lost = Gives source.damaged source.drive.geometry.block rs n bytes lost

-- the block is given by its slot
pub block-given : (source : SourceView) (rs : List Record) (n : ℕ) (bytes lost block : List ℕ) (is_lost : Bool) (o : Option Record) → newest n rs ≡ o → AllByRecursion (Stands (read_zones source.drive)) rs
    → IsNewest rs n o → GivesBlock source (option_map slot_of o) is_lost block → WillGive source rs n bytes lost → WillGive source rs (suc n) (bytes ++ block) (lost ++ only_if is_lost n)
block-given source rs n bytes lost block is_lost None is stand new gives before =
    let one : WillGive source rs (suc n) (bytes ++ shown source.drive.geometry.block (newest n rs)) lost = shows before in
    let same : shown source.drive.geometry.block (newest n rs) ≡ block = ap (shown source.drive.geometry.block) is ∙ sym gives.1 in
    rw (gives.0, append-nil lost) (rw same at one)
block-given source rs n bytes lost block is_lost (Some r) is stand new gives before = at r.content refl is_lost gives
  where
    at : (content : Option (List ℕ)) → r.content ≡ content → (b : Bool) → GivesData source (slot_of r) (is_none content) b block → WillGive source rs (suc n) (bytes ++ block) (lost ++ only_if b n)
    at None e b g =
        let one : WillGive source rs (suc n) (bytes ++ shown source.drive.geometry.block (newest n rs)) lost = shows before in
        let same : shown source.drive.geometry.block (newest n rs) ≡ block = ap (shown source.drive.geometry.block) is ∙ rw e (sym g.1) in
        rw (g.0, append-nil lost) (rw same at one)
    at (Some held) e false g =
        let one : WillGive source rs (suc n) (bytes ++ shown source.drive.geometry.block (newest n rs)) lost = shows before in
        let there = (all-among (Stands (read_zones source.drive)) rs r stand new.1.among) held e in
        let same : shown source.drive.geometry.block (newest n rs) ≡ block = ap (shown source.drive.geometry.block) is ∙ rw e (sym (g ∙ there.1)) in
        rw (append-nil lost) (rw same at one)
    at (Some held) e true g =
        let there : IsLost source.damaged rs n = record { newest_one = r; is = is; content = rw e refl; damaged_there = g.0 } in
        rw g.1 (loses before there)

-- the list of those that may be older
older-more : (doubt : ℕ) (rs : List Record) (n : ℕ) → older_blocks doubt rs (n + 1) ≡ older_blocks doubt rs n ++ only_if (may_be_older doubt rs n) n
older-more doubt rs n =
    ap (filter (may_be_older doubt rs)) (range-more 0 n n (omega arith)) ∙ filter-append (may_be_older doubt rs) (range_with_len 0 n) (n ∷ []) ∙ ap (λ (xs : List ℕ). older_blocks doubt rs n ++ xs) (at (may_be_older doubt rs n) refl)
  where
    at : (b : Bool) → may_be_older doubt rs n ≡ b → filter (may_be_older doubt rs) (n ∷ []) ≡ only_if b n
    at true e = rw e refl
    at false e = rw e refl

newness-is : (o : Option Record) → slot_newness (option_map slot_of o) ≡ newness o
newness-is None = refl
newness-is (Some r) = refl

-- one block more is given
pub gave-more : (source : SourceView) (kept_search : Search) (finding : Finding) (old new : Rescued) (bytes block : List ℕ) (slot : Option Slot) (is_lost is_older : Bool) (written contents : Option (List ℕ))
    → slot ≡ slot_at kept_search.table.items old.blocks → old.blocks < 2 ^ 31 → GivesBlock source slot is_lost block → is_older ≡ nat_lt (slot_newness slot) kept_search.doubt
    → new.blocks ≡ old.blocks + 1 → blocks_in new.lost.items ≡ blocks_in old.lost.items ++ only_if is_lost old.blocks → blocks_in new.older.items ≡ blocks_in old.older.items ++ only_if is_older old.blocks
    → Appends written contents block → IsKept source kept_search finding → Gave source finding old bytes → GivesMore source finding new bytes written contents
gave-more source kept_search finding old new bytes block slot is_lost is_older written contents at lt gives older next lost_is older_is appends kept gave =
    let rs = found_records finding.found in
    let n = old.blocks in
    let spot : slot ≡ option_map slot_of (newest n rs) = at ∙ kept.holds.notes n lt in
    let stand = searched-stand source.damaged (read_zones source.drive) _ finding kept.finds in
    let next' : new.blocks ≡ suc n = omega (arith, next) in
    let given = block-given source rs n bytes (blocks_in old.lost.items) block is_lost (newest n rs) refl stand (newest-is n rs) (rw spot at gives) gave.gives in
    let doubt : is_older ≡ may_be_older finding.doubt rs n = older ∙ rw (spot, newness-is (newest n rs), kept.holds.doubt) refl in
    record {
      more = block;
      gave = record {
        gives = rw (next', lost_is) given;
        older = older_is ∙ rw (gave.older, doubt, next) (sym (older-more finding.doubt rs n));
      };
      appends = appends;
    }

-- only a beginning of it is given
pub gave-part : (source : SourceView) (kept_search : Search) (finding : Finding) (old : Rescued) (bytes block : List ℕ) (slot : Option Slot) (is_lost : Bool) (written contents : Option (List ℕ))
    → slot ≡ slot_at kept_search.table.items old.blocks → old.blocks < 2 ^ 31 → GivesBlock source slot is_lost block → AppendsFront written contents block
    → IsKept source kept_search finding → Gave source finding old bytes → GivesPart source finding old.blocks bytes written contents
gave-part source kept_search finding old bytes block slot is_lost written contents at lt gives appends kept gave =
    let rs = found_records finding.found in
    let n = old.blocks in
    let spot : slot ≡ option_map slot_of (newest n rs) = at ∙ kept.holds.notes n lt in
    let stand = searched-stand source.damaged (read_zones source.drive) _ finding kept.finds in
    record {
      more = block;
      lost = blocks_in old.lost.items ++ only_if is_lost n;
      gives = block-given source rs n bytes (blocks_in old.lost.items) block is_lost (newest n rs) refl stand (newest-is n rs) (rw spot at gives) gave.gives;
      appends = appends;
    }

-- ---- sources that are read on

pub kept-kept : (a b : SourceView) (kept_search : Search) (finding : Finding) → KeepsSource a b → IsKept a kept_search finding → IsKept b kept_search finding
kept-kept a b kept_search finding k kept =
    let more : Searched b.damaged (read_zones a.drive) (length a.drive.zones) finding = searched-lasts a.damaged b.damaged (read_zones a.drive) (length a.drive.zones) finding k.damaged kept.finds in
    record { finds = rw (zones-kept a b k, count-kept a b k) more; holds = kept.holds }

pub gave-kept : (a b : SourceView) (finding : Finding) (rescued : Rescued) (bytes : List ℕ) → KeepsSource a b → Gave a finding rescued bytes → Gave b finding rescued bytes
gave-kept a b finding rescued bytes k gave = rw k.zones.geometry (gave-lasts a.damaged b.damaged a.drive.geometry.block finding rescued bytes k.damaged gave)

fit-slot : (source : SourceView) (rs : List Record) (block : ℕ) (o : Option Record) → AllByRecursion (Stands (read_zones source.drive)) rs → IsNewest rs block o → FitsSlot source (option_map slot_of o)
fit-slot source rs block None stand new = tt
fit-slot source rs block (Some r) stand new = λ held. at r.content refl held
  where
    at : (content : Option (List ℕ)) → r.content ≡ content → is_none content ≡ false → r.offset < length (zone_with (read_zones source.drive) r.zone).blocks
    at None e held = absurd (cc)
    at (Some bytes) e held = ((all-among (Stands (read_zones source.drive)) rs r stand new.1.among) bytes e).0

-- each slot that is kept can be asked for
pub all-fit : (a b : SourceView) (kept_search : Search) → KeepsSource a b → FindsHeld a kept_search → AllFit b kept_search.table.items
all-fit a b kept_search k held block lt =
    let rs = found_records held.finding.found in
    let stand = searched-stand a.damaged (read_zones a.drive) _ held.finding held.kept.finds in
    let fits : FitsSlot a (option_map slot_of (newest block rs)) = fit-slot a rs block (newest block rs) stand (newest-is block rs) in
    rw (zones-kept a b k) (rw (held.kept.holds.notes block lt) fits)

-- ---- all blocks

-- nothing is given yet
pub gives-first : (source : SourceView) (finding : Finding) (rescued : Rescued) (contents : Option (List ℕ)) → rescued.blocks ≡ 0 → rescued.lost.items ≡ [] → rescued.older.items ≡ [] → GivesAll source finding rescued contents contents
gives-first source finding rescued contents none no_lost no_older = record {
  bytes = [];
  gave = record { gives = rw (none, no_lost) no_block; older = rw (none, no_older) refl };
  appends = Appends-nil contents;
}

-- one block more
pub gives-next : (a b c : SourceView) (kept_search : Search) (finding : Finding) (old new : Rescued) (first written contents : Option (List ℕ)) → KeepsSource a b → KeepsSource b c
    → ((finding : Finding) (bytes : List ℕ) → IsKept c kept_search finding → Gave c finding old bytes → GivesMore c finding new bytes written contents)
    → IsKept a kept_search finding → GivesAll b finding old first written → GivesAll c finding new first contents
gives-next a b c kept_search finding old new first written contents k l step kept all =
    let more = step finding all.bytes (kept-kept a c kept_search finding (keeps-source_both a b c k l) kept) (gave-kept b c finding old all.bytes l all.gave) in
    record {
      bytes = all.bytes ++ more.more;
      gave = more.gave;
      appends = Appends-trans first written contents all.bytes more.more all.appends more.appends;
    }

Appends-kept : (a b c : Option (List ℕ)) (bs : List ℕ) → Appends a b bs → Keeps b c → Appends a c bs
Appends-kept None b c bs p q = tt
Appends-kept (Some x) None c bs p q = absurd p
Appends-kept (Some x) (Some y) None bs p q = absurd q
Appends-kept (Some x) (Some y) (Some z) bs p q = q ∙ p

-- why only the first blocks are given
pub gives-no_more : (a b c : SourceView) (kept_search : Search) (rescued : Rescued) (first written contents : Option (List ℕ)) (fault : RescueFault) → KeepsSource a b → KeepsSource b c → (held : FindsHeld a kept_search)
    → StepFails c kept_search rescued written contents fault → GivesAll b held.finding rescued first written → GiveFails c first contents fault
gives-no_more a b c kept_search rescued first written contents faults.Limits k l held fails all = absurd fails
gives-no_more a b c kept_search rescued first written contents (faults.Halted halt) k l held fails all =
    let kept = kept-kept a c kept_search held.finding (keeps-source_both a b c k l) held.kept in
    let gave = gave-kept b c held.finding rescued all.bytes l all.gave in
    inr (
      rescued.blocks,
      all.bytes,
      record { finding = held.finding; finds = kept.finds; lost = blocks_in rescued.lost.items; gives = gave.gives },
      Appends-kept first written contents all.bytes all.appends fails,
    )
gives-no_more a b c kept_search rescued first written contents faults.Output k l held fails all =
    let kept = kept-kept a c kept_search held.finding (keeps-source_both a b c k l) held.kept in
    let part = fails held.finding all.bytes kept (gave-kept b c held.finding rescued all.bytes l all.gave) in (
      suc rescued.blocks,
      all.bytes ++ part.more,
      record { finding = held.finding; finds = kept.finds; lost = part.lost; gives = part.gives },
      front_second first written contents all.bytes part.more all.appends part.appends,
    )

-- a fault that is passed on is told as it is
pub if-fault : {V : Type 0} (r : Result V RescueFault) (fault : RescueFault) (P : RescueFault → Type 0) → IsErrAnd r (λ f. f ≡ fault) → P fault → IfErr r P
if-fault (Ok value) fault P handed p = tt
if-fault (Err f) fault P handed p = rw handed p
