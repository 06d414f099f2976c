-- The logs of zones as they stand on a drive.
use Rattle.std.proofs.Common.{◌≡◌, ℕ, zero, suc, ◌+◌, ◌-◌, ◌<◌, ◌≤◌, ◌^◌, Bool, true, false, not, ◌&&◌, List, [], ◌∷◌, ◌++◌, length, get_or, replicate, Option, Some, None, Result, Ok, Err, Vec, vec_len, refl, sym, ap, ◌∙◌, arith, append_assoc}
use Rattle.std.specs.declared.alloc.Global.{Global}
use Rattle.std.specs.Prelude.{IfOk, IfSome, IfNone}
use Rattle.std.specs.List.{AllByRecursion}
use Rattle.std.proofs.lemmas.List.{length-replicate, map_push, replicate-append-replicate}
use Rattle.zone_states.specs.declared.geometry.Geometry.{Geometry}
use Rattle.drive_port.specs.Contents.{Content, is_full}
use Rattle.batch_log.specs.Log.{Batch, HaveNoLog, IsLog, has_tail, zero_block}
use Rattle.yardsticks.specs.Batches.{IsFound, held_blocks}
use Rattle.batch_log.proofs.LogLaws.{one_log}
use Rattle.yardsticks.specs.declared.batches.ZoneLog.{ZoneLog}
use Rattle.yardsticks.specs.declared.logs.ZoneImage.{ZoneImage}
use Rattle.drive_array.specs.ZoneLogs.{HasLog, has_torn_tail, padding, readable, zone_log}
use Rattle.yardsticks.specs.Zones.{HasWholeBlocks, IsZoneLog, image_content, image_contents, held_log}
use Rattle.drive_array.proofs.AllLaws.{all-append}
use Rattle.drive_array.proofs.ZoneLogLaws.{readable-not_full, zone_log-read}

-- ---- each readable block has its number of bytes

HasLength : ℕ → List ℕ → Type 0
HasLength size block = length block ≡ size

items-sized : (size : ℕ) (blocks : List (Vec ℕ Global)) → AllByRecursion (λ (block : Vec ℕ Global). vec_len block ≡ size) blocks → AllByRecursion (HasLength size) (held_blocks blocks)
unfolding HasLength
items-sized size [] all = tt
items-sized size (b ∷ bs) all = (sym b.ok.0 ∙ all.0, items-sized size bs all.1)

zeros-sized : (size count : ℕ) → AllByRecursion (HasLength size) (replicate count (zero_block size))
unfolding HasLength
zeros-sized size zero = tt
zeros-sized size (suc count) = (length-replicate size 0, zeros-sized size count)

readable-sized : (geometry : Geometry) (image : ZoneImage) → HasWholeBlocks geometry.block image → AllByRecursion (HasLength geometry.block) (readable geometry (image_content image))
readable-sized geometry image whole =
    all-append (HasLength geometry.block) (held_blocks image.blocks.items) (padding geometry (is_full (image_content image).usage) (length (held_blocks image.blocks.items)))
    (items-sized geometry.block image.blocks.items whole) (behind (is_full (image_content image).usage))
  where
    behind : (full : Bool) → AllByRecursion (HasLength geometry.block) (padding geometry full (length (held_blocks image.blocks.items)))
    behind true = zeros-sized geometry.block (geometry.capacity - length (held_blocks image.blocks.items))
    behind false = tt

vecs-sized : (size : ℕ) (blocks : List (Vec ℕ Global)) → AllByRecursion (HasLength size) (held_blocks blocks) → AllByRecursion (λ (block : Vec ℕ Global). vec_len block ≡ size) blocks
unfolding HasLength
vecs-sized size [] all = tt
vecs-sized size (b ∷ bs) all = (b.ok.0 ∙ all.0, vecs-sized size bs all.1)

-- the blocks that were read are whole
pub read-sized : (geometry : Geometry) (image : ZoneImage) (blocks : List (Vec ℕ Global)) → HasWholeBlocks geometry.block image → held_blocks blocks ≡ readable geometry (image_content image)
    → AllByRecursion (λ (block : Vec ℕ Global). vec_len block ≡ geometry.block) blocks
read-sized geometry image blocks whole read = vecs-sized geometry.block blocks (rw read (readable-sized geometry image whole))

-- one zero block more
pub padded-step : (size i first : ℕ) (was blocks now : List (Vec ℕ Global)) (zeros : Vec ℕ Global) → first ≤ i → held_blocks blocks ≡ held_blocks was ++ replicate (i - first) (zero_block size)
    → now ≡ blocks ++ zeros ∷ [] → zeros.items ≡ zero_block size → held_blocks now ≡ held_blocks was ++ replicate (i + 1 - first) (zero_block size)
padded-step size i first was blocks now zeros le so_far more is =
    let count : i - first + 1 ≡ i + 1 - first = omega arith in
    ap held_blocks more ∙ map_push (λ (b : Vec ℕ Global). b.items) blocks zeros
    ∙ rw (so_far, is) (append_assoc (held_blocks was) (replicate (i - first) (zero_block size)) (zero_block size ∷ [])
    ∙ ap (λ (bs : List (List ℕ)). held_blocks was ++ bs) (replicate-append-replicate (i - first) 1 (zero_block size) ∙ ap (λ (n : ℕ). replicate n (zero_block size)) count))

-- ---- the log of a zone

-- what follows from a fact of a value holds of it
pub if_some-weaker : {T E : Type 0} (r : Result (Option T) E) (P Q : T → Type 0) → ((x : T) → P x → Q x) → IfOk r (λ o. IfSome o P) → IfOk r (λ o. IfSome o Q)
if_some-weaker (Ok (Some x)) P Q f h = f x h
if_some-weaker (Ok None) P Q f h = tt
if_some-weaker (Err e) P Q f h = tt

-- and of no value
pub if_none-weaker : {T E P Q : Type 0} (r : Result (Option T) E) → (P → Q) → IfOk r (λ o. IfNone o P) → IfOk r (λ o. IfNone o Q)
if_none-weaker (Ok (Some x)) f h = tt
if_none-weaker (Ok None) f h = f h
if_none-weaker (Err e) f h = tt

same_log : (size : ℕ) (full full' : Bool) (blocks blocks' : List (List ℕ)) (log log' : List Batch) → full' ≡ full → blocks' ≡ blocks → log' ≡ log → IsLog size full blocks log → IsLog size full' blocks' log'
same_log size full full' blocks blocks' log log' e1 e2 e3 is = rw (e1, e2, e3) is

tail_read : (geometry : Geometry) (content : Content) (full : Bool) (blocks : List (List ℕ)) → full ≡ is_full content.usage → blocks ≡ readable geometry content → (not full && has_tail blocks) ≡ has_torn_tail content
unfolding has_torn_tail
tail_read geometry content true blocks full-is read = rw (← full-is) refl
tail_read geometry content false blocks full-is read = let same : blocks ≡ content.blocks = read ∙ readable-not_full geometry content (sym full-is) in rw (← full-is, same) refl

-- the log that was found is the zone's
pub zone_log-found : (geometry : Geometry) (content : Content) (full : Bool) (blocks : List (List ℕ)) (log : ZoneLog) → geometry.block < 2 ^ 32
    → full ≡ is_full content.usage → blocks ≡ readable geometry content → IsFound geometry.block full blocks log → IsZoneLog geometry content (held_log log.batches.items) log.is_torn
zone_log-found geometry content full blocks log small full-is read is =
    let same : zone_log geometry content ≡ held_log log.batches.items = zone_log-read geometry content blocks (sym read) ∙ one_log geometry.block full blocks (held_log log.batches.items) small is.log_is in
    record {
      has = same_log geometry.block full (is_full content.usage) blocks (readable geometry content) (held_log log.batches.items) (zone_log geometry content) (sym full-is) (sym read) same is.log_is;
      log_is = sym same;
      torn_is = is.torn_is ∙ tail_read geometry content full blocks full-is read;
    }

-- if none was found, the zone has none
pub zone_log-none : (geometry : Geometry) (content : Content) (full : Bool) (blocks : List (List ℕ))
    → full ≡ is_full content.usage → blocks ≡ readable geometry content → HaveNoLog geometry.block full blocks → HasLog geometry content → ⊥
zone_log-none geometry content full blocks full-is read none has = none (zone_log geometry content) (same_log geometry.block (is_full content.usage) full (readable geometry content) blocks (zone_log geometry content) (zone_log geometry content) full-is read refl has)

-- so not all zones have one
pub lacks-log : (geometry : Geometry) (images : List ZoneImage) (i : ℕ) (image : ZoneImage) → i < length images → image ≡ get_or images i image
    → (HasLog geometry (image_content image) → ⊥) → AllByRecursion (HasLog geometry) (image_contents images) → ⊥
lacks-log geometry [] i image lt is none all = absurd (omega arith)
lacks-log geometry (z ∷ zs) zero image lt is none all = none (rw is all.0)
lacks-log geometry (z ∷ zs) (suc i) image lt is none all = lacks-log geometry zs i image (omega arith) is none all.1
