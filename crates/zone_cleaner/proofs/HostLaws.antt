-- The host writes while a clean runs: its blocks are taken out of what is gathered, and no more turns are left.
use Rattle.std.proofs.Common.{◌≡◌, ◌≢◌, ℕ, zero, suc, ◌+◌, ◌-◌, ◌*◌, ◌<◌, ◌≤◌, max, Bool, true, false, cond, eqb, ltb, List, [], ◌∷◌, ◌++◌, length, set, get_or, take, drop, replicate, Option, Some, refl, sym, ap, subst, ◌∙◌, arith}
use Rattle.std.specs.Int.{div_ceil}
use Rattle.std.specs.List.{AllByRecursion}
use Rattle.std.specs.Option.{option_map}
use Rattle.std.proofs.lemmas.Bool.{ne_eqb}
use Rattle.std.proofs.lemmas.List.{get_or-set_other, get_or-set_same, get_or-take, length-take}
use Rattle.zone_states.specs.declared.geometry.Geometry.{Geometry}
use Rattle.drive_port.specs.Contents.{content_at, contents}
use Rattle.batch_log.specs.declared.header.Entry.{Entry}
use Rattle.batch_log.specs.Log.{Batch, batch_size, data_count, one_unless, zero_block}
use Rattle.logical_map.specs.Live.{lies_in, live}
use Rattle.logical_map.specs.declared.place.Place.{Place}
use Rattle.logical_map.specs.declared.place.Place.TheVariants as places
use Rattle.zone_choice.specs.declared.roles.Filling.{Filling}
use Rattle.zone_choice.specs.declared.roles.Second.{Second}
use Rattle.zone_choice.specs.declared.roles.Second.TheVariants.{Destination}
use Rattle.zone_choice.specs.Agreement.{MountedView, mounted_array}
use Rattle.drive_array.specs.ZoneLogs.{drive_logs}
use Rattle.zone_choice.specs.Builder.{entry_place, placed}
use Rattle.zone_choice.specs.Changes.{CanPlace, Places, next_address, roles_alone, size_with}
use Rattle.drive_array.specs.Laws.{IsNext}
use Rattle.drive_array.specs.Records.{entry_records, over, shown, without}
use Rattle.drive_array.specs.Reserve.{batch_most}
use Rattle.zone_choice.specs.Roles.{RolesView, closed, closed_beside, closed_unless, grown, second_with, wrote}
use Rattle.drive_array.specs.Sizes.{extended, map_of, size_or}
use Rattle.zone_choice.specs.Tables.{size_of}
use Rattle.zone_choice.proofs.AgreementLaws.{length-extended, size-encoded, sound-weaker}
use Rattle.drive_array.proofs.WholeLaws.{length-encoded}
use Rattle.drive_array.proofs.AllLaws.{all-weaker}
use Rattle.zone_choice.proofs.CommandLaws.{filling-in_range}
use Rattle.drive_array.proofs.ReserveLaws.{div_ceil-mono, positive-most}
use Rattle.zone_cleaner.specs.Clean.{CleanView, IsClean, forgotten, place_among, destination_written, turns_left, moves_due, untaken}
use Rattle.zone_cleaner.specs.LiveRecords.{LiveRecord, records_in, without_all, without_block}
use Rattle.zone_cleaner.proofs.BudgetLaws.{fewer-room}
use Rattle.zone_cleaner.proofs.CleanLaws.{KeptDestination}
use Rattle.zone_cleaner.proofs.HistoryLaws.{moves-beside}
use Rattle.zone_cleaner.proofs.OldLaws.{unnamed-without}
use Rattle.zone_cleaner.proofs.UndoLaws.{IsBeside, not-named, undo-host}
use Rattle.zone_cleaner.proofs.MoveLaws.{Elsewhere, PlacedAway, elsewhere, entry-away, length-placed, placed-away}
use Rattle.zone_cleaner.proofs.RecordLaws.{live_in, live_in-cons, records_in-array}
use Rattle.zone_cleaner.proofs.SealedLaws.{sealed-alone, sealed-apart, zone-logs}

-- ---- blocks that a batch does not name

other-over : (bytes sequence zone header k j : ℕ) (body : List (List ℕ)) (es : List Entry) (xs : List (List ℕ)) → AllByRecursion (λ (e : Entry). e.block ≢ j) es → get_or (over (shown bytes) (entry_records sequence body zone header k es) xs) j [] ≡ get_or xs j []
other-over bytes sequence zone header k j body [] xs out = refl
other-over bytes sequence zone header k j body (e ∷ es) xs out =
    get_or-set_other (over (shown bytes) (entry_records sequence body zone header (k + one_unless e.trim) es) xs) e.block j _ [] (λ same. out.0 (sym same)) ∙ other-over bytes sequence zone header (k + one_unless e.trim) j body es xs out.1

left-extended : {X : Type 0} (x d : X) (size k : ℕ) (xs : List X) → k < length xs → get_or (extended x size xs) k d ≡ get_or xs k d
left-extended {X} x d size k xs lt = at xs k lt
  where
    at : (ys : List X) (i : ℕ) → i < length ys → get_or (ys ++ replicate (size - length xs) x) i d ≡ get_or ys i d
    at [] i lt = absurd (omega arith)
    at (y ∷ ys) zero lt = refl
    at (y ∷ ys) (suc i) lt = at ys i (omega arith)

-- ---- blocks that are new are nowhere

take-front : {X : Type 0} (n : ℕ) (xs ys : List X) → n ≤ length xs → take n (xs ++ ys) ≡ take n xs
take-front zero [] ys le = refl
take-front zero (x ∷ xs) ys le = refl
take-front (suc n) [] ys le = absurd (omega arith)
take-front {X} (suc n) (x ∷ xs) ys le = ap (λ (zs : List X). x ∷ zs) (take-front n xs ys (omega arith))

live_in-new : (size zone n : ℕ) (xs : List Place) → live_in size zone (xs ++ replicate n places.None) ≡ live_in size zone xs
live_in-new size zone zero [] = refl
live_in-new size zone (suc n) [] = omega (arith, live_in-cons size zone places.None (replicate n places.None), live_in-new size zone n [])
live_in-new size zone n (p ∷ xs) = omega (arith, live_in-cons size zone p (xs ++ replicate n places.None), live_in-cons size zone p xs, live_in-new size zone n xs)

drop-front : {X : Type 0} (n : ℕ) (xs ys : List X) → n ≤ length xs → drop n (xs ++ ys) ≡ drop n xs ++ ys
drop-front zero [] ys le = refl
drop-front zero (x ∷ xs) ys le = refl
drop-front (suc n) [] ys le = absurd (omega arith)
drop-front (suc n) (x ∷ xs) ys le = drop-front n xs ys (omega arith)

-- ---- the destination stays

beside-destination : (g : Geometry) (roles : RolesView) (zone n : ℕ) (f : Filling) → roles.second ≡ Some (Destination f) → f.zone ≢ zone → KeptDestination (wrote (roles_alone g roles zone) zone n).second f
beside-destination g roles zone n f e ne = at (ltb 1 g.open)
  where
    other : eqb f.zone zone ≡ false
    other = ne_eqb f.zone zone ne

    plain : grown zone n f ≡ f
    plain = ap (λ (b : Bool). cond b (record { zone = f.zone; written = f.written + n; may_open = true }) f) other

    shut : grown zone n (closed_unless zone f) ≡ closed f
    shut = ap (grown zone n) (ap (λ (b : Bool). cond b f (closed f)) other) ∙ ap (λ (b : Bool). cond b (record { zone = f.zone; written = f.written + n; may_open = true }) (closed f)) other

    at : (b : Bool) → KeptDestination (wrote (cond b roles (closed_beside roles zone)) zone n).second f
    at true = record { filling = f; is = ap (option_map (second_with (grown zone n))) e ∙ ap (λ (x : Filling). Some (Destination x)) plain; zone = refl; written = refl }
    at false = record {
      filling = closed f;
      is = ap (λ (s : Option Second). option_map (second_with (grown zone n)) (option_map (second_with (closed_unless zone)) s)) e ∙ ap (λ (x : Filling). Some (Destination x)) shut;
      zone = refl;
      written = refl;
    }

length-without_all : (es : List Entry) (rs : List LiveRecord) → length (without_all es rs) ≤ length rs
length-without_all [] rs = omega arith
length-without_all (e ∷ es) rs = omega (arith, length-without_all es (without_block e.block rs), one e.block rs)
  where
    one : (block : ℕ) (rs : List LiveRecord) → length (without_block block rs) ≤ length rs
    one block [] = omega arith
    one block (r ∷ rs) = by (eqb block r.block) (one block rs)
      where
        by : (b : Bool) → length (without_block block rs) ≤ length rs → length (cond b rs (r ∷ without_block block rs)) ≤ length (r ∷ rs)
        by true h = omega arith
        by false h = omega (arith, h)

-- ---- a batch of the host

-- what a batch of the host leaves of a clean
pub record HostGives (before after : MountedView) (c new : CleanView) : Type 0 where
  pub clean : IsClean after new
  pub turns : turns_left (batch_most before.drive.geometry) after.tables (Some new) ≤ turns_left (batch_most before.drive.geometry) before.tables (Some c)

turns-le : (k u u' a a' l l' : ℕ) → 0 < k → u' ≤ u → l' ≤ l → a' ≡ a → u' + max (moves_due a') (div_ceil l' k) + 1 ≤ u + max (moves_due a) (div_ceil l k) + 1
turns-le k u u' a a' l l' pos left fewer same = rw same (omega (arith, left, div_ceil-mono l' l k pos fewer))

-- what the batch does to the places, as far as the clean looks
record HostPlaces (before after : MountedView) (c : CleanView) (es : List Entry) : Type 0 where
  taken : without_all es c.gathered ≡ records_in (mounted_array after) before.tables.map.zone_size c.victim 0 (take c.cursor after.tables.map.places)
  fewer : live_in before.tables.map.zone_size c.victim after.tables.map.places ≤ live_in before.tables.map.zone_size c.victim before.tables.map.places
  left : live_in before.tables.map.zone_size c.victim (drop c.cursor after.tables.map.places) ≤ live_in before.tables.map.zone_size c.victim (drop c.cursor before.tables.map.places)

host-places : (before after : MountedView) (c : CleanView) (zone : ℕ) (b : Batch) → IsClean before c → CanPlace before zone b → Places before after zone b → HostPlaces before after c b.heading.entries
host-places before after c zone b is can done =
    let m = before.tables.map in
    let moved = away-is in
    let front : take c.cursor big ≡ take c.cursor m.places = take-front c.cursor m.places (replicate (size_with before.tables b - length m.places) places.None) is.gathers.within in
    let rest : drop c.cursor big ≡ drop c.cursor m.places ++ replicate (size_with before.tables b - length m.places) places.None = drop-front c.cursor m.places (replicate (size_with before.tables b - length m.places) places.None) is.gathers.within in
    let n = size_with before.tables b - length m.places in
    record {
      taken = sym (records_in-array (mounted_array before) (mounted_array after) m.zone_size c.victim 0 (take c.cursor after.tables.map.places) same
          ∙ ap (λ (ps : List Place). records_in (mounted_array before) m.zone_size c.victim 0 (take c.cursor ps)) done.places ∙ moved.taken
          ∙ ap (λ (ps : List Place). without_all es (records_in (mounted_array before) m.zone_size c.victim 0 ps)) front ∙ ap (without_all es) (sym is.gathers.gathered));
      fewer = omega (arith, ap (live_in m.zone_size c.victim) done.places, moved.fewer, live_in-new m.zone_size c.victim n m.places);
      left = omega (arith, ap (λ (ps : List Place). live_in m.zone_size c.victim (drop c.cursor ps)) done.places, moved.left, ap (live_in m.zone_size c.victim) rest, live_in-new m.zone_size c.victim n (drop c.cursor m.places));
    }
  where
    es : List Entry
    es = b.heading.entries

    big : List Place
    big = extended places.None (size_with before.tables b) before.tables.map.places

    header : ℕ
    header = next_address before.drive zone

    written : ℕ
    written = length (content_at (contents before.drive.zones) zone).blocks

    victim-apart : zone ≢ c.victim
    victim-apart = λ same. sealed-apart before.tables.roles c.victim zone is.victim can.filling (sym same)

    zone_size : before.tables.map.zone_size ≡ before.drive.geometry.size
    zone_size = can.agrees.zone_size

    away : Elsewhere before.tables.map.zone_size c.victim header (header + batch_size b)
    away =
        let at : header ≡ zone * before.tables.map.zone_size + written = ap (λ (s : ℕ). zone * s + written) (sym zone_size) in
        let end : zone * before.tables.map.zone_size + (written + batch_size b) ≡ header + batch_size b = omega (arith, at) in
        subst (λ (e : ℕ). Elsewhere before.tables.map.zone_size c.victim header e) end (subst (λ (s : ℕ). Elsewhere before.tables.map.zone_size c.victim s (zone * before.tables.map.zone_size + (written + batch_size b))) (sym at) (elsewhere before.tables.map.zone_size c.victim zone written (batch_size b) victim-apart (omega (arith, can.room, can.agrees.geometry.capacity, zone_size))))

    away-is : PlacedAway (mounted_array before) before.tables.map.zone_size c.victim c.cursor es big (placed header (header + 1) es big)
    away-is = placed-away (mounted_array before) before.tables.map.zone_size c.victim c.cursor header (header + 1) (header + batch_size b) es big can.heading.distinct away (omega arith) (omega arith) (omega arith)

    same : (k : ℕ) → k < length (take c.cursor after.tables.map.places) → lies_in before.tables.map.zone_size c.victim (get_or (take c.cursor after.tables.map.places) k places.None) ≡ true → get_or (mounted_array after) (0 + k) [] ≡ get_or (mounted_array before) (0 + k) []
    same k lt lies =
        let all = after.tables.map.places in
        let below : k < c.cursor = omega (arith, lt, length-take c.cursor all) in
        let there : get_or (take c.cursor all) k places.None ≡ get_or all k places.None = get_or-take c.cursor all k places.None below in
        let spot : 0 + k ≡ k = omega arith in
        let inside = all-weaker (λ (e : Entry). e.block < size_of before.tables) (λ (e : Entry). e.block < length big) es (λ e le. omega (arith, le, can.grows, length-extended places.None (size_with before.tables b) before.tables.map.places can.grows)) can.in_range in
        let out = not-named before.tables.map.zone_size c.victim header (header + 1) (header + batch_size b) k es big inside away (omega arith) (omega arith) (omega arith) (rw done.places at (rw there at lies)) in
        let array = mounted_array before in
        let short : k < length array = omega (arith, below, is.gathers.within, length-encoded before.drive before.tables.given, size-encoded before can.agrees) in
        rw spot (ap (λ (xs : List (List ℕ)). get_or xs k []) done.array
        ∙ other-over before.drive.geometry.block b.heading.sequence 0 0 0 k b.body es (extended (zero_block before.drive.geometry.block) (size_or (length array) b.heading.size) array) out
        ∙ left-extended (zero_block before.drive.geometry.block) [] (size_or (length array) b.heading.size) k array short)

-- the batch is the next one
pub next-batch : (before : MountedView) (zone : ℕ) (b : Batch) → CanPlace before zone b → IsNext (before.tables.next + 1) before.tables.given (drive_logs before.drive) (size_with before.tables b) b
next-batch before zone b can = record {
  has = can.size;
  grows = omega (arith, can.grows, size-encoded before can.agrees);
  inside = all-weaker (λ (e : Entry). e.block < size_of before.tables) (λ (e : Entry). e.block < size_with before.tables b) b.heading.entries (λ e lt. omega (arith, lt, can.grows)) can.in_range;
  number = omega (arith, can.sequence);
  greatest = rw can.sequence can.agrees.sound.numbers;
}

-- where its blocks are is another zone
beside : (before after : MountedView) (zone other : ℕ) (b : Batch) → CanPlace before zone b → Places before after zone b → zone ≢ other → IsBeside before after zone other b
beside before after zone other b can done apart =
    let size = before.tables.map.zone_size in
    let written = length (content_at (contents before.drive.zones) zone).blocks in
    let zone_size : size ≡ before.drive.geometry.size = can.agrees.zone_size in
    let at : next_address before.drive zone ≡ zone * size + written = ap (λ (s : ℕ). zone * s + written) (sym zone_size) in
    let end : zone * size + (written + batch_size b) ≡ next_address before.drive zone + batch_size b = omega (arith, at) in
    record {
      away = subst (λ (e : ℕ). Elsewhere size other (next_address before.drive zone) e) end
          (subst (λ (s : ℕ). Elsewhere size other s (zone * size + (written + batch_size b))) (sym at) (elsewhere size other zone written (batch_size b) apart (omega (arith, can.room, can.agrees.geometry.capacity, zone_size))));
      inside = can.in_range;
      grows = can.grows;
      places = done.places;
    }

-- the clean continues, and has forgotten its blocks
pub host_gives : (before after : MountedView) (c : CleanView) (zone : ℕ) (b : Batch) → (is : IsClean before c) → CanPlace before zone b → zone ≢ is.destination.zone → Places before after zone b → HostGives before after c (forgotten b.heading.entries c)
host_gives before after c zone b is can ne done =
    let g = before.drive.geometry in
    let k = batch_most g in
    let f = is.destination in
    let logs = drive_logs before.drive in
    let zones : after.tables.map.zone_size ≡ before.tables.map.zone_size = done.agrees.zone_size ∙ ap (λ (x : Geometry). x.size) done.geometry ∙ sym can.agrees.zone_size in
    let new = host-places before after c zone b is can done in
    let kept = beside-destination g before.tables.roles zone (batch_size b) f is.second (λ same. ne (sym same)) in
    let second : after.tables.roles.second ≡ Some (Destination kept.filling) = ap (λ (r : RolesView). r.second) done.roles ∙ kept.is in
    let lt : zone < length logs = omega (arith, filling-in_range before.drive before.tables zone can.agrees can.filling, zone-logs before.drive) in
    let apart : zone ≢ c.victim = λ same. sealed-apart before.tables.roles c.victim zone is.victim can.filling (sym same) in
    let pos = positive-most g can.agrees.geometry in
    let live_now : live after.tables.map c.victim ≤ live before.tables.map c.victim = omega (arith, ap (λ (z : ℕ). live_in z c.victim after.tables.map.places) zones, new.fewer) in
    let left_now : untaken after.tables (forgotten b.heading.entries c) ≤ untaken before.tables c = omega (arith, ap (λ (z : ℕ). live_in z c.victim (drop c.cursor after.tables.map.places)) zones, new.left) in
    record {
      clean = record {
        destination = kept.filling;
        second = second;
        victim = rw done.roles (sealed-alone g before.tables.roles zone (batch_size b) c.victim is.victim);
        gathers = record {
          within = omega (arith, is.gathers.within, done.size, can.grows);
          few = rw done.geometry (omega (arith, is.gathers.few, length-without_all b.heading.entries c.gathered));
          gathered = rw zones new.taken;
        };
        room = rw (done.geometry, kept.written) (fewer-room g.capacity k f.written (live before.tables.map c.victim) (live after.tables.map c.victim) pos live_now is.room);
        moves = rw (done.logs, done.geometry, done.given, kept.zone) (moves-beside g.block (before.tables.next + 1) before.tables.given zone c.victim f.zone (size_with before.tables b) logs b lt apart ne
            (sound-weaker before.tables.next (before.tables.next + 1) before.tables.given logs (omega arith) can.agrees.sound) (next-batch before zone b can) is.moves);
        undo = rw kept.zone (undo-host before after c (forgotten b.heading.entries c) zone f.zone (before.tables.next + 1) b (record {
          victim = beside before after zone c.victim b can done apart;
          destination_is = beside before after zone f.zone b can done ne;
          zones = zones;
          spare = is.moves.spare;
          unnamed_is = λ k out.
              ap (λ (x : Geometry). place_among (map_of x.size after.tables.given (without (drive_logs after.drive) f.zone)) k) done.geometry
              ∙ ap (λ (n : ℕ). place_among (map_of g.size n (without (drive_logs after.drive) f.zone)) k) done.given
              ∙ ap (λ (ls : List (List Batch)). place_among (map_of g.size before.tables.given (without ls f.zone)) k) done.logs
              ∙ unnamed-without g.block g.size (before.tables.next + 1) before.tables.given zone f.zone (size_with before.tables b) k logs b lt ne
              (sound-weaker before.tables.next (before.tables.next + 1) before.tables.given logs (omega arith) can.agrees.sound) (next-batch before zone b can) is.moves.spare out;
        }) refl refl is.undo);
      };
      turns = turns-le k (untaken before.tables c) (untaken after.tables (forgotten b.heading.entries c)) (destination_written before.tables.roles.second) (destination_written after.tables.roles.second) (live before.tables.map c.victim) (live after.tables.map c.victim) pos left_now live_now (ap destination_written second ∙ kept.written ∙ sym (ap destination_written is.second));
    }
