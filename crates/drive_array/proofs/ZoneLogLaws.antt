-- How the logs of a drive's zones change with an Append of a batch, whole or torn, and with a Finish.
use Rattle.std.proofs.Common.{◌≡◌, ℕ, zero, suc, ◌≤◌, not, ◌&&◌, nat_lt, inl, inr, sym, ◌+◌, ◌-◌, ◌<◌, ◌^◌, Bool, true, false, cond, eqb, List, [], ◌∷◌, ◌++◌, length, take, set, get_or, replicate, refl, ap, ◌∙◌, arith, append-nil, length-take}
use Rattle.std.proofs.lemmas.Bool.{cases_lt, eqb-true, le-ltb, lt-ltb, ne_eqb}
use Rattle.std.proofs.lemmas.List.{length-append, map-set, set-get_or}
use Rattle.std.proofs.Math.ListN.{get_or-map}
use Rattle.zone_states.specs.declared.geometry.Geometry.{Geometry}
use Rattle.drive_port.specs.Contents.{Content, Usage, empty, active, full, unusable, content_at, filled, finished, is_writable, nothing, is_full}
use Rattle.batch_log.specs.Log.{Batch, IsBatch, IsLog, IsWholeLog, batch_blocks, has_tail, log_of, zero_block}
use Rattle.batch_log.proofs.LogLaws.{append_batch, append_front, finish, no_tail, one_log, whole_log}
use Rattle.drive_array.specs.ZoneLogs.{HasLog, has_torn_tail, padding, readable, zone_log, zone_logs, zone_tails}
use Rattle.drive_array.specs.Laws.{AppendLogs, FinishLogs, SameLogs, TornLogs}
use Rattle.drive_array.proofs.AllLaws.{all-set}

-- nothing follows the blocks of a zone that isn't full
writable-not_full : (usage : Usage) → is_writable usage ≡ true → is_full usage ≡ false
writable-not_full empty w = refl
writable-not_full active w = refl
writable-not_full full w = absurd (cc)
writable-not_full unusable w = absurd (cc)

-- of a zone that is not full its blocks can be read
pub readable-not_full : (geometry : Geometry) (content : Content) → is_full content.usage ≡ false → readable geometry content ≡ content.blocks
readable-not_full geometry content e = rw e (append-nil content.blocks)

-- nor those of a zone that is written up to its capacity
readable-filled : (geometry : Geometry) (blocks : List (List ℕ)) → readable geometry (filled geometry.capacity blocks) ≡ blocks
readable-filled geometry blocks = at (eqb (length blocks) geometry.capacity) refl
  where
    at : (b : Bool) → eqb (length blocks) geometry.capacity ≡ b → blocks ++ padding geometry (is_full (cond b full active)) (length blocks) ≡ blocks
    at true e =
        let none : geometry.capacity - length blocks ≡ 0 = omega (arith, eqb-true (length blocks) geometry.capacity e) in
        rw none (append-nil blocks)
    at false e = append-nil blocks

-- so the log of a zone that isn't full is one of its blocks
has_log-blocks : (geometry : Geometry) (content : Content) → is_full content.usage ≡ false → HasLog geometry content → IsLog geometry.block false content.blocks (zone_log geometry content)
has_log-blocks geometry content e has = rw (e, append-nil content.blocks) at has

-- and if no torn tail is there, it is only its batches
pub whole-blocks : (geometry : Geometry) (content : Content) → geometry.block < 2 ^ 32 → is_full content.usage ≡ false → HasLog geometry content → has_torn_tail content ≡ false → IsWholeLog geometry.block content.blocks (zone_log geometry content)
unfolding has_torn_tail
whole-blocks geometry content small e has untorn = (no_tail geometry.block content.blocks (zone_log geometry content) small (has_log-blocks geometry content e has)).whole (rw e at untorn)

-- what is whole has no torn tail
whole-untorn : (geometry : Geometry) (content : Content) → geometry.block < 2 ^ 32 → is_full content.usage ≡ false → IsWholeLog geometry.block content.blocks (zone_log geometry content) → has_torn_tail content ≡ false
unfolding has_torn_tail
whole-untorn geometry content small e whole =
    let log = zone_log geometry content in
    rw (e, (no_tail geometry.block content.blocks log small (whole_log geometry.block false content.blocks log whole)).back whole) refl

-- a full zone has no torn tail
pub full-untorn : (content : Content) → is_full content.usage ≡ true → has_torn_tail content ≡ false
unfolding has_torn_tail
full-untorn content e = rw e refl

-- a zone with these readable blocks has the log that they are read as
pub zone_log-read : (geometry : Geometry) (content : Content) (blocks : List (List ℕ)) → readable geometry content ≡ blocks → zone_log geometry content ≡ log_of blocks
unfolding zone_log
zone_log-read geometry content blocks e = ap log_of e

untorn-if : (geometry : Geometry) (content : Content) → geometry.block < 2 ^ 32 → IsWholeLog geometry.block content.blocks (zone_log geometry content) → has_torn_tail content ≡ false
untorn-if geometry content small whole = by (is_full content.usage) refl
  where
    by : (b : Bool) → is_full content.usage ≡ b → has_torn_tail content ≡ false
    by true e = full-untorn content e
    by false e = whole-untorn geometry content small e whole

-- ---- tails

-- the tails of all zones have each zone's own
pub tail-at : (zones : List Content) (zone : ℕ) → zone < length zones → get_or (zone_tails zones) zone false ≡ has_torn_tail (content_at zones zone)
tail-at [] zone lt = absurd (omega arith)
tail-at (z ∷ zs) zero lt = refl
tail-at (z ∷ zs) (suc zone) lt = tail-at zs zone (omega arith)

-- a zone that had no torn tail has none
tails-kept : (zones : List Content) (zone : ℕ) → zone < length zones → has_torn_tail (content_at zones zone) ≡ false → set (zone_tails zones) zone false ≡ zone_tails zones
tails-kept zones zone lt untorn = let here : get_or (zone_tails zones) zone false ≡ false = tail-at zones zone lt ∙ untorn in rw here at (set-get_or (zone_tails zones) zone false)

-- one zone changes, and so does its tail
pub tails-set : (old new : List Content) (zone : ℕ) (made : Content) → new ≡ set old zone made → zone_tails new ≡ set (zone_tails old) zone (has_torn_tail made)
tails-set old new zone made zones = ap zone_tails zones ∙ map-set has_torn_tail old zone made

-- ---- an Append

-- what a zone holds after it
record Held (geometry : Geometry) (new : Content) (log : List Batch) (torn : Bool) : Type 0 where
  log_is : zone_log geometry new ≡ log
  has : HasLog geometry new
  tail : has_torn_tail new ≡ torn

zone_log-append : (geometry : Geometry) (was : Content) (batch : Batch) → geometry.block < 2 ^ 32 → IsBatch geometry.block batch → IsWholeLog geometry.block was.blocks (zone_log geometry was)
    → Held geometry (filled geometry.capacity (was.blocks ++ batch_blocks geometry.block batch)) (zone_log geometry was ++ batch ∷ []) false
zone_log-append geometry was batch small is old =
    let size = geometry.block in
    let log = zone_log geometry was in
    let all = was.blocks ++ batch_blocks size batch in
    let new = filled geometry.capacity all in
    let grown : IsLog size (is_full new.usage) all (log ++ batch ∷ []) = whole_log size (is_full new.usage) all (log ++ batch ∷ []) (append_batch size was.blocks log batch old is) in
    let same = readable-filled geometry all in
    let read : zone_log geometry new ≡ log ++ batch ∷ [] = zone_log-read geometry new all same ∙ one_log size (is_full new.usage) all (log ++ batch ∷ []) small grown in
    record { log_is = read; has = rw (same, read) grown; tail = untorn-if geometry new small (rw read (append_batch size was.blocks log batch old is)) }

-- a torn tail exactly where some block was written
torn-tail : (new : Content) (j : ℕ) → is_full new.usage ≡ false → (1 ≤ j → has_tail new.blocks ≡ true) → (j ≤ 0 → has_torn_tail new ≡ false) → has_torn_tail new ≡ nat_lt 0 j
unfolding has_torn_tail
torn-tail new j not_full torn none = elim (cases_lt 0 j) as (λ _. (not (is_full new.usage) && has_tail new.blocks) ≡ nat_lt 0 j) [
  | inl pos ↦ rw (not_full, torn (omega arith), lt-ltb 0 j pos) refl
  | inr le ↦ none (omega arith) ∙ sym (le-ltb 0 j (omega arith))
]

-- a batch whose first j blocks were written, but not all
zone_log-torn : (geometry : Geometry) (was : Content) (j : ℕ) (batch : Batch) → geometry.block < 2 ^ 32 → IsBatch geometry.block batch → IsWholeLog geometry.block was.blocks (zone_log geometry was)
    → j < length (batch_blocks geometry.block batch) → length was.blocks + j < geometry.capacity
    → Held geometry (filled geometry.capacity (was.blocks ++ take j (batch_blocks geometry.block batch))) (zone_log geometry was) (nat_lt 0 j)
zone_log-torn geometry was j batch small is old few room =
    let size = geometry.block in
    let log = zone_log geometry was in
    let all = was.blocks ++ take j (batch_blocks size batch) in
    let new = filled geometry.capacity all in
    let long : length all ≡ length was.blocks + j = omega (arith, length-append was.blocks (take j (batch_blocks size batch)), length-take j (batch_blocks size batch), few) in
    let open_zone : is_full new.usage ≡ false = rw (ne_eqb (length all) geometry.capacity (λ e. omega arith)) refl in
    let left = append_front size j was.blocks log batch small old is few in
    let front : IsLog size (is_full new.usage) all log = rw open_zone left.kept in
    let same = readable-filled geometry all in
    let read : zone_log geometry new ≡ log = zone_log-read geometry new all same ∙ one_log size (is_full new.usage) all log small front in
    let nothing_left : j ≤ 0 → has_torn_tail new ≡ false = λ le. (let none : j ≡ 0 = omega (arith, le) in untorn-if geometry new small (rw (read, none, append-nil was.blocks) old)) in
    record { log_is = read; has = rw (same, read) front; tail = torn-tail new j open_zone left.torn nothing_left }

-- the logs of all zones have each zone's own
pub log_at-zone : (geometry : Geometry) (zones : List Content) (zone : ℕ) → get_or (zone_logs geometry zones) zone [] ≡ zone_log geometry (content_at zones zone)
unfolding zone_log
log_at-zone geometry zones zone = get_or-map (zone_log geometry) zones zone nothing

-- an Append of a batch adds it to the log of its zone
pub append_logs : AppendLogs
append_logs geometry old new zone batch small is has untorn appends =
    let was = content_at old zone in
    let made = filled geometry.capacity (was.blocks ++ batch_blocks geometry.block batch) in
    let whole = whole-blocks geometry was small (writable-not_full was.usage appends.writable) has untorn in
    let grown = zone_log-append geometry was batch small is whole in
    record {
      logs = ap (zone_logs geometry) appends.zones ∙ map-set (zone_log geometry) old zone made ∙ rw (grown.log_is, log_at-zone geometry old zone) refl;
      all_logs = λ all. rw appends.zones (all-set (HasLog geometry) old zone made all grown.has);
      tails = tails-set old new zone made appends.zones ∙ ap (set (zone_tails old) zone) grown.tail ∙ tails-kept old zone appends.in_range untorn;
    }

-- a zone that keeps its log
same-logs : (geometry : Geometry) (old new : List Content) (zone : ℕ) (made : Content) (torn : Bool) → new ≡ set old zone made → Held geometry made (zone_log geometry (content_at old zone)) torn → SameLogs geometry old new (set (zone_tails old) zone torn)
same-logs geometry old new zone made torn zones kept = record {
  logs = ap (zone_logs geometry) zones ∙ map-set (zone_log geometry) old zone made ∙ rw (kept.log_is, ← log_at-zone geometry old zone) (set-get_or (zone_logs geometry old) zone []);
  all_logs = λ all. rw zones (all-set (HasLog geometry) old zone made all kept.has);
  tails_are = tails-set old new zone made zones ∙ ap (set (zone_tails old) zone) kept.tail;
}

-- one that was torn leaves all logs, and a torn tail
pub torn_logs : TornLogs
torn_logs geometry old new zone j batch small is has untorn few room appends =
    let was = content_at old zone in
    let whole = whole-blocks geometry was small (writable-not_full was.usage appends.writable) has untorn in
    same-logs geometry old new zone (filled geometry.capacity (was.blocks ++ take j (batch_blocks geometry.block batch))) (nat_lt 0 j) appends.zones (zone_log-torn geometry was j batch small is whole few room)

-- a zone that is sent Finish keeps its log
zone_log-finish : (geometry : Geometry) (was : Content) → geometry.block < 2 ^ 32 → IsWholeLog geometry.block was.blocks (zone_log geometry was) → Held geometry (finished was) (zone_log geometry was) false
zone_log-finish geometry was small old =
    let size = geometry.block in
    let log = zone_log geometry was in
    let rest = geometry.capacity - length was.blocks in
    let all = was.blocks ++ replicate rest (zero_block size) in
    let made : IsLog size true all log = finish size rest was.blocks log old in
    let read : zone_log geometry (finished was) ≡ log = zone_log-read geometry (finished was) all refl ∙ one_log size true all log small made in
    record { log_is = read; has = rw read made; tail = full-untorn (finished was) refl }

-- a Finish leaves all logs
pub finish_logs : FinishLogs
finish_logs geometry old new zone small has writable untorn finishes =
    let was = content_at old zone in
    let whole = whole-blocks geometry was small (writable-not_full was.usage writable) has untorn in
    let kept = same-logs geometry old new zone (finished was) false finishes.zones (zone_log-finish geometry was small whole) in
    record { logs = kept.logs; all_logs = kept.all_logs; tails_are = kept.tails_are ∙ tails-kept old zone finishes.in_range untorn }
