-- What keeps the batches of a drive.
use Rattle.std.proofs.Common.{◌≡◌, ◌≢◌, ◌⊎◌, inl, inr, ℕ, zero, suc, ◌-◌, ◌<◌, ◌≤◌, ◌^◌, Bool, true, false, cond, eqb, IsTrue, Option, Some, None, List, [], ◌∷◌, ◌++◌, length, take, drop, replicate, get_or, set, Result, Ok, Err, refl, sym, ap, subst, ◌∙◌, arith, append_assoc, append-nil}
use Rattle.std.specs.List.{flat_map, AllByRecursion}
use Rattle.std.specs.Prelude.{OnOk, unwrap_or}
use Rattle.std.proofs.lemmas.Bool.{cases_eq, eqb-true}
use Rattle.std.proofs.lemmas.List.{drop_at, get_or-set_other, get_or-set_same, length-append, take_at, take-append-drop}
use Rattle.zone_states.specs.declared.geometry.Geometry.{Geometry}
use Rattle.batch_log.specs.Header.{Heading, header_block}
use Rattle.batch_log.specs.Log.{Batch, BeginsWith, BeginsWithNoBatch, IsBatch, batch_blocks, data_count, log_size, zero_block}
use Rattle.batch_log.proofs.HeaderLaws.{one_header}
use Rattle.drive_array.specs.ZoneLogs.{padding, readable}
use Rattle.drive_array.proofs.ZoneLogLaws.{readable-not_full}
use Rattle.drive_port.specs.Contents.{Appends, Content, Finishes, Resets, Usage, active, content_at, contents, empty, emptied, filled, finished, full, is_full, is_writable, unusable}
use Rattle.drive_port.specs.Drive.{DriveState, IsLawful}
use Rattle.drive_survey.specs.Scan.{readable_at}
use Rattle.tail_repair.specs.Repair.{AreIn, BatchesEnd, Begins, Extends, HasCopy, IsMoved, IsMovedTo, KeepsBatches, KeepsBeside, KeepsDrive}

-- ---- logs

same_first : (b c : Batch) (bs cs : List Batch) → b.heading ≡ c.heading → b.body ≡ c.body → cs ≡ bs → c ∷ cs ≡ b ∷ bs
same_first b c bs cs e1 e2 e3 =
    let made : Heading → List (List ℕ) → Batch = λ h body. record { heading = h; body = body } in
    let head : c ≡ b = ap (λ (h : Heading). made h c.body) (sym e1) ∙ ap (made b.heading) (sym e2) in
    ap (λ (x : Batch). x ∷ cs) head ∙ ap (λ (xs : List Batch). b ∷ xs) e3

-- Batches with which blocks begin are a front of all those before what begins with none.
front-of : (size : ℕ) (log all : List Batch) (tail rest : List (List ℕ)) → size < 2 ^ 32 → AllByRecursion (IsBatch size) log → AllByRecursion (IsBatch size) all
    → BeginsWithNoBatch size rest → flat_map (batch_blocks size) log ++ tail ≡ flat_map (batch_blocks size) all ++ rest → (more : List Batch) × (all ≡ log ++ more)
front-of size [] all tail rest small are are' none e = (all, refl)
front-of size (b ∷ bs) [] tail rest small are are' none e =
    absurd (none b (flat_map (batch_blocks size) bs ++ tail) are.0 (sym e ∙ append_assoc (batch_blocks size b) (flat_map (batch_blocks size) bs) tail))
front-of size (b ∷ bs) (c ∷ cs) tail rest small are are' none e =
    let left = flat_map (batch_blocks size) bs ++ tail in
    let left' = flat_map (batch_blocks size) cs ++ rest in
    let group : (b.body ++ flat_map (batch_blocks size) bs) ++ tail ≡ b.body ++ left = append_assoc b.body (flat_map (batch_blocks size) bs) tail in
    let group' : (c.body ++ flat_map (batch_blocks size) cs) ++ rest ≡ c.body ++ left' = append_assoc c.body (flat_map (batch_blocks size) cs) rest in
    let first : header_block size b.heading ≡ header_block size c.heading = cc in
    let others : (b.body ++ flat_map (batch_blocks size) bs) ++ tail ≡ (c.body ++ flat_map (batch_blocks size) cs) ++ rest = cc in
    let heading = one_header size b.heading c.heading small are.0.heading are'.0.heading first in
    let count : length c.body ≡ length b.body = are'.0.body ∙ sym (are.0.body ∙ ap (λ (h : Heading). data_count h.entries) heading) in
    let both : b.body ++ left ≡ c.body ++ left' = sym group ∙ others ∙ group' in
    let body : b.body ≡ c.body = sym (take_at b.body left (length b.body) refl) ∙ ap (take (length b.body)) both ∙ take_at c.body left' (length b.body) count in
    let after : left ≡ left' = sym (drop_at b.body left (length b.body) refl) ∙ ap (drop (length b.body)) both ∙ drop_at c.body left' (length b.body) count in
    let more = front-of size bs cs tail rest small are.1 are'.1 none after in
    (more.0, same_first b c (bs ++ more.0) cs heading body more.1)

blocks-append : (size : ℕ) (log more : List Batch) → flat_map (batch_blocks size) (log ++ more) ≡ flat_map (batch_blocks size) log ++ flat_map (batch_blocks size) more
blocks-append size [] more = refl
blocks-append size (b ∷ bs) more = ap (λ (xs : List (List ℕ)). batch_blocks size b ++ xs) (blocks-append size bs more) ∙ sym (append_assoc (batch_blocks size b) (flat_map (batch_blocks size) bs) (flat_map (batch_blocks size) more))

-- what a log takes, in blocks
blocks-size : (size : ℕ) (log : List Batch) → AllByRecursion (IsBatch size) log → length (flat_map (batch_blocks size) log) ≡ log_size log
blocks-size size [] are = refl
blocks-size size (b ∷ bs) are = let rest = blocks-size size bs are.1 in omega (arith, rest, are.0.body, length-append b.body (flat_map (batch_blocks size) bs))

-- blocks that go on begin as before
longer : (size : ℕ) (blocks more tail : List (List ℕ)) (log : List Batch) → BeginsWith size blocks log tail → BeginsWith size (blocks ++ more) log (tail ++ more)
longer size blocks more tail log begins = record {
  encoded = ap (λ (xs : List (List ℕ)). xs ++ more) begins.encoded ∙ append_assoc (flat_map (batch_blocks size) log) tail more;
  batches = begins.batches;
}

-- Blocks that agree with others up to the end of these batches begin with each log with which those begin.
begins-copy : (size : ℕ) (blocks copy tail rest : List (List ℕ)) (log all : List Batch) → size < 2 ^ 32 → BeginsWith size blocks all rest → BeginsWithNoBatch size rest → BeginsWith size blocks log tail
    → take (log_size all) copy ≡ take (log_size all) blocks → (other : List (List ℕ)) × BeginsWith size copy log other
begins-copy size blocks copy tail rest log all small ends none begins same =
    let front = front-of size log all tail rest small begins.batches ends.batches none (sym begins.encoded ∙ ends.encoded) in
    let more = flat_map (batch_blocks size) front.0 in
    let n = log_size all in
    let taken : take n blocks ≡ flat_map (batch_blocks size) all = ap (take n) ends.encoded ∙ take_at (flat_map (batch_blocks size) all) rest n (blocks-size size all ends.batches) in
    let whole : copy ≡ flat_map (batch_blocks size) all ++ drop n copy = sym (take-append-drop n copy) ∙ ap (λ (xs : List (List ℕ)). xs ++ drop n copy) (same ∙ taken) in
    let split : flat_map (batch_blocks size) all ≡ flat_map (batch_blocks size) log ++ more = ap (flat_map (batch_blocks size)) front.1 ∙ blocks-append size log front.0 in (
      more ++ drop n copy,
      record { encoded = whole ∙ ap (λ (xs : List (List ℕ)). xs ++ drop n copy) split ∙ append_assoc (flat_map (batch_blocks size) log) more (drop n copy); batches = begins.batches },
    )

-- ---- equal fronts, block by block

pub fronts-same : (xs ys : List (List ℕ)) (n : ℕ) → n ≤ length xs → n ≤ length ys → ((i : ℕ) → i < n → get_or ys i [] ≡ get_or xs i []) → take n ys ≡ take n xs
fronts-same xs ys zero le le' same = refl
fronts-same [] ys (suc n) le le' same = absurd (omega (arith, le))
fronts-same (x ∷ xs) [] (suc n) le le' same = absurd (omega (arith, le'))
fronts-same (x ∷ xs) (y ∷ ys) (suc n) le le' same =
    let first : y ≡ x = same 0 (omega arith) in
    ap (λ (z : List ℕ). z ∷ take n ys) first ∙ ap (λ (zs : List (List ℕ)). x ∷ zs) (fronts-same xs ys n (omega (arith, le)) (omega (arith, le')) (λ i lt. same (suc i) (omega (arith, lt))))

-- ---- drives

same-readable : (old new : DriveState) (zone : ℕ) → new.geometry ≡ old.geometry → content_at (contents new.zones) zone ≡ content_at (contents old.zones) zone → readable_at new zone ≡ readable_at old zone
same-readable old new zone g c = rw (g, c) refl

-- the same zone, and what it holds begins with these batches still
begins-still : (old new : DriveState) (zone : ℕ) (log : List Batch) → new.geometry ≡ old.geometry → content_at (contents new.zones) zone ≡ content_at (contents old.zones) zone → Begins old zone log → Begins new zone log
begins-still old new zone log g c begins =
    let same = same-readable old new zone g c in
    let there : BeginsWith old.geometry.block (readable_at new zone) log begins.0 = subst (λ (blocks : List (List ℕ)). BeginsWith old.geometry.block blocks log begins.0) (sym same) begins.1 in
    (begins.0, subst (λ (x : Geometry). BeginsWith x.block (readable_at new zone) log begins.0) (sym g) there)

pub keeps-same : (old new : DriveState) → new.geometry ≡ old.geometry → contents new.zones ≡ contents old.zones → length new.zones ≡ length old.zones → KeepsBatches old new
keeps-same old new g c count zone log lt begins = (zone, omega (arith, lt, count), begins-still old new zone log g (rw c refl) begins)

-- where nothing was done
pub drive-none : (drive : DriveState) → IsLawful drive → KeepsDrive drive drive
drive-none drive lawful = record { geometry = refl; lawful = lawful; trusted = λ clean. clean; batches = λ clean. keeps-same drive drive refl refl refl }

pub keeps-then : (a b c : DriveState) → KeepsBatches a b → KeepsBatches b c → KeepsBatches a c
keeps-then a b c first next zone log lt begins =
    let there = first zone log lt begins in
    next there.0 log there.1 there.2

pub drive-then : (a b c : DriveState) → KeepsDrive a b → KeepsDrive b c → KeepsDrive a c
drive-then a b c first next = record {
  geometry = next.geometry ∙ first.geometry;
  lawful = next.lawful;
  trusted = λ clean. first.trusted (next.trusted clean);
  batches = λ clean. keeps-then a b c (first.batches (next.trusted clean)) (next.batches clean);
}

-- ---- a zone that goes on

-- each zone begins with the batches with which it began
pub extends-in : (old new : DriveState) (to zone : ℕ) → Extends old new to → AreIn old zone new zone
extends-in old new to zone extends log begins = at (cases_eq zone to)
  where
    at : (zone ≡ to) ⊎ (zone ≢ to) → Begins new zone log
    at (inl is) =
        let here : Begins old to log = rw is at begins in
        let more = longer old.geometry.block (readable_at old to) extends.more here.0 log here.1 in
        let there : BeginsWith old.geometry.block (readable_at new to) log (here.0 ++ extends.more) = subst (λ (blocks : List (List ℕ)). BeginsWith old.geometry.block blocks log (here.0 ++ extends.more)) (sym extends.own) more in
        let now : Begins new to log = (here.0 ++ extends.more, subst (λ (x : Geometry). BeginsWith x.block (readable_at new to) log (here.0 ++ extends.more)) (sym extends.geometry) there) in
        rw is now
    at (inr not) = begins-still old new zone log extends.geometry (extends.others zone not) begins

pub extends-keeps : (old new : DriveState) (to : ℕ) → Extends old new to → KeepsBatches old new
extends-keeps old new to extends zone log lt begins = (zone, omega (arith, lt, extends.count), extends-in old new to zone extends log begins)

pub extends-beside : (old new : DriveState) (to zone : ℕ) → Extends old new to → KeepsBeside old new zone
extends-beside old new to zone extends other not = extends-in old new to other extends

pub extends-drive : (old new : DriveState) (to : ℕ) → Extends old new to → KeepsDrive old new
extends-drive old new to extends = record { geometry = extends.geometry; lawful = extends.lawful; trusted = extends.trusted; batches = λ clean. extends-keeps old new to extends }

pub extends-then : (a b c : DriveState) (to : ℕ) → Extends a b to → Extends b c to → Extends a c to
extends-then a b c to first next = record {
  geometry = next.geometry ∙ first.geometry;
  lawful = next.lawful;
  count = next.count ∙ first.count;
  trusted = λ clean. first.trusted (next.trusted clean);
  others = λ zone not. next.others zone not ∙ first.others zone not;
  more = first.more ++ next.more;
  own = next.own ∙ ap (λ (xs : List (List ℕ)). xs ++ next.more) first.own ∙ append_assoc (readable_at a to) first.more next.more;
}

-- nothing changed
pub extends-same : (old new : DriveState) (to : ℕ) → new.geometry ≡ old.geometry → IsLawful new → length new.zones ≡ length old.zones → (IsTrue new.clean → IsTrue old.clean) → contents new.zones ≡ contents old.zones → Extends old new to
extends-same old new to g lawful count trusted c = record {
  geometry = g;
  lawful = lawful;
  count = count;
  trusted = trusted;
  others = λ zone not. rw c refl;
  more = [];
  own = same-readable old new to g (rw c refl) ∙ sym (append-nil (readable_at old to));
}

-- one zone has other content
record ChangesOne (old new : DriveState) (to : ℕ) (content : Content) : Type 0 where
  others : (zone : ℕ) → zone ≢ to → content_at (contents new.zones) zone ≡ content_at (contents old.zones) zone
  own : content_at (contents new.zones) to ≡ content

changes-one : (old new : DriveState) (to : ℕ) (content : Content) → to < length (contents old.zones) → contents new.zones ≡ set (contents old.zones) to content → ChangesOne old new to content
changes-one old new to content lt is = record {
  others = λ zone not. rw is (get_or-set_other (contents old.zones) to zone content _ not);
  own = rw is (get_or-set_same (contents old.zones) to content _ lt);
}

-- ---- an Append and a Finish

writable-not_full : (usage : Usage) → is_writable usage ≡ true → is_full usage ≡ false
writable-not_full empty w = refl
writable-not_full active w = refl
writable-not_full full w = absurd (cc)
writable-not_full unusable w = absurd (cc)

readable-filled : (geometry : Geometry) (blocks : List (List ℕ)) → readable geometry (filled geometry.capacity blocks) ≡ blocks
readable-filled geometry blocks = at (eqb (length blocks) geometry.capacity) refl
  where
    at : (b : Bool) → eqb (length blocks) geometry.capacity ≡ b → blocks ++ padding geometry (is_full (cond b full active)) (length blocks) ≡ blocks
    at true e =
        let none : geometry.capacity - length blocks ≡ 0 = omega (arith, eqb-true (length blocks) geometry.capacity e) in
        rw none (append-nil blocks)
    at false e = append-nil blocks

-- what of a zone goes on by an Append
pub append-extends : (old new : DriveState) (to : ℕ) (blocks : List (List ℕ)) → new.geometry ≡ old.geometry → IsLawful new → length new.zones ≡ length old.zones → (IsTrue new.clean → IsTrue old.clean)
    → Appends (contents old.zones) (contents new.zones) old.geometry.capacity to blocks → Extends old new to
append-extends old new to blocks g lawful count trusted appends =
    let was = content_at (contents old.zones) to in
    let now = filled old.geometry.capacity (was.blocks ++ blocks) in
    let one = changes-one old new to now appends.in_range appends.zones in
    let before : readable old.geometry was ≡ was.blocks = readable-not_full old.geometry was (writable-not_full was.usage appends.writable) in
    let after : readable_at new to ≡ was.blocks ++ blocks = rw (g, one.own) (readable-filled old.geometry (was.blocks ++ blocks)) in
    record {
      geometry = g;
      lawful = lawful;
      count = count;
      trusted = trusted;
      others = one.others;
      more = blocks;
      own = after ∙ ap (λ (xs : List (List ℕ)). xs ++ blocks) (sym before);
    }

-- a Finish puts zeros after the blocks of a zone that was not full
record GoesOn (g : Geometry) (was : Content) : Type 0 where
  more : List (List ℕ)
  is : readable g (finished was) ≡ readable g was ++ more

goes-on : (g : Geometry) (was : Content) → GoesOn g was
goes-on g was = at was.usage refl
  where
    zeros : List (List ℕ)
    zeros = replicate (g.capacity - length was.blocks) (zero_block g.block)

    at : (usage : Usage) → was.usage ≡ usage → GoesOn g was
    at empty is = let same = readable-not_full g was (rw is refl) in record { more = zeros; is = ap (λ (xs : List (List ℕ)). xs ++ zeros) (sym same) }
    at active is = let same = readable-not_full g was (rw is refl) in record { more = zeros; is = ap (λ (xs : List (List ℕ)). xs ++ zeros) (sym same) }
    at unusable is = let same = readable-not_full g was (rw is refl) in record { more = zeros; is = ap (λ (xs : List (List ℕ)). xs ++ zeros) (sym same) }
    at full is = let whole : readable g was ≡ was.blocks ++ zeros = rw is refl in record { more = []; is = sym whole ∙ sym (append-nil (readable g was)) }

pub finish-extends : (old new : DriveState) (to : ℕ) → new.geometry ≡ old.geometry → IsLawful new → length new.zones ≡ length old.zones → (IsTrue new.clean → IsTrue old.clean)
    → Finishes (contents old.zones) (contents new.zones) to → Extends old new to
finish-extends old new to g lawful count trusted finishes =
    let was = content_at (contents old.zones) to in
    let one = changes-one old new to (finished was) finishes.in_range finishes.zones in
    let on = goes-on old.geometry was in
    record {
      geometry = g;
      lawful = lawful;
      count = count;
      trusted = trusted;
      others = one.others;
      more = on.more;
      own = rw (g, one.own) on.is;
    }

-- ---- a Reset

copy-front : (drive : DriveState) (zone blocks to : ℕ) → HasCopy drive zone blocks to → take blocks (readable_at drive to) ≡ take blocks (readable_at drive zone)
copy-front drive zone blocks to copy =
    fronts-same (readable_at drive zone) (readable_at drive to) blocks copy.enough copy.long (λ i lt. (copy.is i (omega (arith, lt, copy.long))).same lt)

-- batches that take no block are none
none-taken : (first more : List Batch) → log_size (first ++ more) ≡ 0 → first ≡ []
none-taken [] more e = refl
none-taken (b ∷ bs) more e = absurd (omega (arith, e))

-- What a Reset of a zone leaves, whose batches are in another one, or that had none.
pub record ResetLeaves (old new : DriveState) (zone : ℕ) (to : Option ℕ) : Type 0 where
  pub there : AreIn old zone new (unwrap_or to zone)
  pub beside : KeepsBeside old new zone

pub reset-leaves-in : (old new : DriveState) (zone blocks : ℕ) (to : Option ℕ) → old.geometry.block < 2 ^ 32 → new.geometry ≡ old.geometry
    → BatchesEnd old zone blocks → IsMoved old zone blocks to → Resets (contents old.zones) (contents new.zones) zone → ResetLeaves old new zone to
reset-leaves-in old new zone blocks to small g ends moved resets = record {
  there = λ log begins. at log begins to refl;
  beside = λ other not log begins. begins-still old new other log g (one.others other not) begins;
}
  where
    one : ChangesOne old new zone emptied
    one = changes-one old new zone emptied resets.in_range resets.zones

    at : (log : List Batch) → Begins old zone log → (t : Option ℕ) → to ≡ t → Begins new (unwrap_or t zone) log
    at log here None is =
        let none : blocks ≡ 0 = rw is at moved in
        let front = front-of old.geometry.block log ends.log here.0 ends.rest small here.1.batches ends.front.batches ends.no_more (sym here.1.encoded ∙ ends.front.encoded) in
        let empty_log : log ≡ [] = none-taken log front.0 (ap log_size (sym front.1) ∙ ends.size ∙ none) in
        let nothing : Begins new zone [] = (readable_at new zone, record { encoded = refl; batches = tt }) in
        rw empty_log nothing
    at log here (Some t) is =
        let there : IsMovedTo old zone blocks t = rw is at moved in
        let fronts : take (log_size ends.log) (readable_at old t) ≡ take (log_size ends.log) (readable_at old zone) = rw ends.size (copy-front old zone blocks t there.copy) in
        let found = begins-copy old.geometry.block (readable_at old zone) (readable_at old t) here.0 ends.rest log ends.log small ends.front ends.no_more here.1 fronts in
        begins-still old new t log g (one.others t there.apart) found

-- and where nothing changed
pub same-leaves-in : (old new : DriveState) (zone blocks : ℕ) (to : Option ℕ) → old.geometry.block < 2 ^ 32 → new.geometry ≡ old.geometry
    → BatchesEnd old zone blocks → IsMoved old zone blocks to → contents new.zones ≡ contents old.zones → ResetLeaves old new zone to
same-leaves-in old new zone blocks to small g ends moved same = record {
  there = λ log begins. at log begins to refl;
  beside = λ other not log begins. begins-still old new other log g (rw same refl) begins;
}
  where
    at : (log : List Batch) → Begins old zone log → (t : Option ℕ) → to ≡ t → Begins new (unwrap_or t zone) log
    at log here None is = begins-still old new zone log g (rw same refl) here
    at log here (Some t) is =
        let there : IsMovedTo old zone blocks t = rw is at moved in
        let fronts : take (log_size ends.log) (readable_at old t) ≡ take (log_size ends.log) (readable_at old zone) = rw ends.size (copy-front old zone blocks t there.copy) in
        let found = begins-copy old.geometry.block (readable_at old zone) (readable_at old t) here.0 ends.rest log ends.log small ends.front ends.no_more here.1 fronts in
        begins-still old new t log g (rw same refl) found

-- no batch is lost then
pub reset-keeps : (old new : DriveState) (zone blocks : ℕ) (to : Option ℕ) → IsMoved old zone blocks to → length new.zones ≡ length old.zones → ResetLeaves old new zone to → KeepsBatches old new
reset-keeps old new zone blocks to moved count leaves other log lt begins = at (cases_eq other zone) to refl
  where
    at : (other ≡ zone) ⊎ (other ≢ zone) → (t : Option ℕ) → to ≡ t → (place : ℕ) × (place < length new.zones) × Begins new place log
    at (inr not) t is = (other, omega (arith, lt, count), leaves.beside other not log begins)
    at (inl same) None is =
        let here : Begins old zone log = rw same at begins in
        let there : Begins new zone log = rw is at (leaves.there log here) in
        (zone, omega (arith, lt, same, count), there)
    at (inl same) (Some t) is =
        let to_is : IsMovedTo old zone blocks t = rw is at moved in
        let here : Begins old zone log = rw same at begins in
        let there : Begins new t log = rw is at (leaves.there log here) in
        (t, omega (arith, to_is.copy.there, count), there)

-- ---- where batches are

pub in-then : (a b c : DriveState) (x y z : ℕ) → AreIn a x b y → AreIn b y c z → AreIn a x c z
in-then a b c x y z first next log begins = next log (first log begins)

pub beside-then : (a b c : DriveState) (zone : ℕ) → KeepsBeside a b zone → KeepsBeside b c zone → KeepsBeside a c zone
beside-then a b c zone first next other not log begins = next other not log (first other not log begins)

-- what holds of each answer, holds of one that is done
pub on-ok : {V E : Type 0} (result : Result V E) {P : Type 0} → P → OnOk result P
on-ok (Ok value) p = p
on-ok (Err fault) p = tt
