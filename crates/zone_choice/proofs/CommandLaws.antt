-- A drive takes the commands of a disk whose tables agree with it.
use Rattle.std.proofs.Common.{◌≡◌, ◌≢◌, ◌⊎◌, ℕ, zero, suc, nat_lt, ◌+◌, ◌*◌, ◌/◌, ◌%◌, ◌<◌, ◌≤◌, Bool, true, false, ◌||◌, cond, eqb, List, [], ◌∷◌, length, set, get_or, refl, sym, ap, ◌∙◌, inl, inr, arith}
use Rattle.std.specs.List.{AllByRecursion, count_by, list_any, remove}
use Rattle.std.proofs.lemmas.Bool.{cases_eq, eqb-true, ltb-true, ne_eqb}
use Rattle.std.proofs.lemmas.List.{get_or-set_other, get_or-set_same, length-map, length-set}
use Rattle.std.proofs.lemmas.List.Sums.{sum_by-cons}
use Rattle.std.proofs.lemmas.Nat.{div-mul-add, mod-mul-add, mul-le}
use Rattle.std.proofs.Math.Nat.{add-mul}
use Rattle.nvme_wire.specs.declared.zone_state.ZoneState.{ZoneState}
use Rattle.nvme_wire.specs.declared.zone_state.ZoneState.TheVariants as states
use Rattle.zone_states.specs.Transition.{is_active, is_open}
use Rattle.zone_states.specs.Zone.{IsLawfulZone, MayHold, Zone}
use Rattle.zone_states.proofs.HoldLaws.{may_hold-most}
use Rattle.drive_port.specs.Calls.{CanAppend, CanClose, CanFinish}
use Rattle.drive_port.specs.Drive.{DriveState, IsLawful, active_count, open_count}
use Rattle.drive_port.specs.Contents.{Content, full, content_at, content_of, contents, is_usable, is_writable, nothing, usage_of}
use Rattle.drive_port.specs.Step.{nowhere, zone_at}
use Rattle.drive_port.proofs.ClosingLaws.{content_at-contents}
use Rattle.batch_log.specs.Log.{Batch}
use Rattle.zone_choice.specs.declared.roles.Filling.{Filling}
use Rattle.zone_choice.specs.Agreement.{Agrees, HoldsFilling, RolesAgree, mounted}
use Rattle.drive_array.specs.ZoneLogs.{drive_logs}
use Rattle.zone_choice.specs.Roles.{IsOccupied, RolesView, closed_beside, fillings, is_at, is_filling_at}
use Rattle.zone_choice.specs.Changes.{roles_alone}
use Rattle.zone_choice.specs.Tables.{TablesView}
use Rattle.drive_array.proofs.AllLaws.{all-at}
use Rattle.zone_choice.proofs.ContentLaws.{IsSettled, all-usable, count-fillings, filling-writable, roles-settled}
use Rattle.drive_array.proofs.CountLaws.{count-zero}
use Rattle.zone_choice.proofs.OpenLaws.{all-shut, noted-shut}
use Rattle.zone_choice.proofs.RolesLaws.{few-fillings, filling-occupied}

-- a zone that is empty or full is not active
settled-closed : (state : ZoneState) → IsSettled (usage_of state) → is_active state ≡ false
settled-closed states.Empty h = refl
settled-closed states.ImplicitlyOpened h = elim h as (λ _. true ≡ false) [ inl e ↦ cc | inr e ↦ cc ]
settled-closed states.ExplicitlyOpened h = elim h as (λ _. true ≡ false) [ inl e ↦ cc | inr e ↦ cc ]
settled-closed states.Closed h = elim h as (λ _. true ≡ false) [ inl e ↦ cc | inr e ↦ cc ]
settled-closed states.ReadOnly h = refl
settled-closed states.Full h = refl
settled-closed states.Offline h = refl

-- one that is not active is not open
pub inactive-shut : (state : ZoneState) → is_active state ≡ false → is_open state ≡ false
inactive-shut states.Empty h = refl
inactive-shut states.ImplicitlyOpened h = h
inactive-shut states.ExplicitlyOpened h = h
inactive-shut states.Closed h = refl
inactive-shut states.ReadOnly h = refl
inactive-shut states.Full h = refl
inactive-shut states.Offline h = refl

-- a count of all elements but one
pub count-remove : {X : Type 0} (p : X → Bool) (xs : List X) (i : ℕ) (d : X) → p d ≡ false → i < length xs → count_by p (remove xs i) ≡ count_by p (set xs i d)
count-remove p [] i d off lt = absurd (omega arith)
count-remove {X} p (x ∷ xs) zero d off lt = let none : cond {A = ℕ} (p d) 1 0 ≡ 0 = rw off refl in omega (arith, sum_by-cons (λ (y : X). cond {A = ℕ} (p y) 1 0) d xs, none)
count-remove {X} p (x ∷ xs) (suc i) d off lt =
    omega (arith, sum_by-cons (λ (y : X). cond {A = ℕ} (p y) 1 0) x (remove xs i), sum_by-cons (λ (y : X). cond {A = ℕ} (p y) 1 0) x (set xs i d), count-remove p xs i d off (omega arith))

-- where one of the zones that are being filled is left out, fewer are counted
pub count-others : {X : Type 0} (p : X → Bool) (xs : List X) (fs : List Filling) (i : ℕ) (d : X) → p d ≡ false → i < length xs → list_any (is_at i) fs ≡ true → length fs ≤ 2
    → ((k : ℕ) → k < length xs → list_any (is_at k) fs ≡ false → p (get_or xs k d) ≡ false) → count_by p (remove xs i) + 1 ≤ length fs
count-others p xs [] i d off lt here few none = absurd (cc)
count-others p xs (f ∷ []) i d off lt here few none =
    omega (arith, count-remove p xs i d off lt, count-fillings p (set xs i d) [] d off (λ k below out. cleared k (omega (arith, below, length-set xs i d)) (λ ne. none k (omega (arith, below, length-set xs i d)) (rw (ne_eqb f.zone k (λ e. ne (sym (sym (only (eqb f.zone i) refl here) ∙ e)))) refl))))
  where
    only : (b : Bool) → eqb f.zone i ≡ b → (b || false) ≡ true → f.zone ≡ i
    only true e h = eqb-true f.zone i e
    only false e h = absurd (cc)

    cleared : (k : ℕ) → k < length xs → (k ≢ i → p (get_or xs k d) ≡ false) → p (get_or (set xs i d) k d) ≡ false
    cleared k below rest = elim (cases_eq k i) as (λ _. p (get_or (set xs i d) k d) ≡ false) [
      | inl e ↦ ap p (rw e (get_or-set_same xs i d d lt)) ∙ off
      | inr ne ↦ ap p (get_or-set_other xs i k d d ne) ∙ rest ne
    ]
count-others p xs (f ∷ g ∷ []) i d off lt here few none = split (eqb f.zone i) refl here
  where
    cleared : (k : ℕ) → k < length xs → (k ≢ i → p (get_or xs k d) ≡ false) → p (get_or (set xs i d) k d) ≡ false
    cleared k below rest = elim (cases_eq k i) as (λ _. p (get_or (set xs i d) k d) ≡ false) [
      | inl e ↦ ap p (rw e (get_or-set_same xs i d d lt)) ∙ off
      | inr ne ↦ ap p (get_or-set_other xs i k d d ne) ∙ rest ne
    ]

    last : (b : Bool) → eqb g.zone i ≡ b → (b || false) ≡ true → g.zone ≡ i
    last true e h = eqb-true g.zone i e
    last false e h = absurd (cc)

    split : (b : Bool) → eqb f.zone i ≡ b → (b || (eqb g.zone i || false)) ≡ true → count_by p (remove xs i) + 1 ≤ 2
    split true e h =
        omega (arith, count-remove p xs i d off lt, count-fillings p (set xs i d) (g ∷ []) d off (λ k below out. cleared k (omega (arith, below, length-set xs i d)) (λ ne. none k (omega (arith, below, length-set xs i d)) (rw (ne_eqb f.zone k (λ same. ne (sym (sym (eqb-true f.zone i e) ∙ same)))) out))))
    split false e h =
        omega (arith, count-remove p xs i d off lt, count-fillings p (set xs i d) (f ∷ []) d off (λ k below out. cleared k (omega (arith, below, length-set xs i d)) (λ ne. none k (omega (arith, below, length-set xs i d)) (both k ne out))))
      where
        both : (k : ℕ) → k ≢ i → (eqb f.zone k || false) ≡ false → (eqb f.zone k || (eqb g.zone k || false)) ≡ false
        both k ne out = rw (ne_eqb g.zone k (λ same. ne (sym (sym (last (eqb g.zone i) refl h) ∙ same)))) out
count-others p xs (f ∷ g ∷ h ∷ fs) i d off lt here few none = absurd (omega arith)

-- a zone that isn't being filled isn't active
others-inactive : (capacity : ℕ) (zones : List Zone) (logs : List (List Batch)) (roles : RolesView) (k : ℕ) → RolesAgree capacity (contents zones) logs roles → k < length zones → is_filling_at roles k ≡ false → is_active (zone_at zones k).state ≡ false
others-inactive capacity zones logs roles k agree lt out =
    settled-closed (zone_at zones k).state (rw content_at-contents at (roles-settled capacity (contents zones) logs roles k agree (omega (arith, length-map zones content_of)) out))

-- where a zone starts
pub zone-start : (zone size : ℕ) → 1 ≤ size → (zone * size / size ≡ zone) × (zone * size % size ≡ 0)
zone-start zone size some =
    let whole : zone * size ≡ zone * size + 0 = omega arith in
    (rw whole (div-mul-add zone size 0 (omega arith)), rw whole (mod-mul-add zone size 0 (omega arith)))

-- a zone of the drive starts within it
pub start-below : (zone zones size : ℕ) → 1 ≤ size → zone < zones → zone * size < zones * size
start-below zone zones size some lt = omega (arith, mul-le (zone + 1) size zones size (omega arith) (omega arith), add-mul zone 1 size)

-- a zone that is being filled is one of the drive
pub filling-in_range : (drive : DriveState) (tables : TablesView) (zone : ℕ) → Agrees (mounted drive tables) → is_filling_at tables.roles zone ≡ true → zone < length drive.zones
filling-in_range drive tables zone agrees here = omega (arith, (filling-occupied tables.roles zone agrees.roles.apart here).0, agrees.roles.count, length-map drive.zones content_of)

-- ---- the drive takes them

-- among the other zones at most one is active
others_active : (drive : DriveState) (tables : TablesView) (zone : ℕ) → Agrees (mounted drive tables) → is_filling_at tables.roles zone ≡ true
    → active_count (remove drive.zones zone) + 1 ≤ length (fillings tables.roles)
others_active drive tables zone agrees here =
    count-others (λ (z : Zone). is_active z.state) drive.zones (fillings tables.roles) zone nowhere refl (filling-in_range drive tables zone agrees here) here (few-fillings tables.roles)
    (λ k below out. others-inactive drive.geometry.capacity drive.zones (drive_logs drive) tables.roles k agrees.roles below out)

others_open : (drive : DriveState) (tables : TablesView) (zone : ℕ) → Agrees (mounted drive tables) → is_filling_at tables.roles zone ≡ true → open_count (remove drive.zones zone) + 1 ≤ length (fillings tables.roles)
others_open drive tables zone agrees here =
    count-others (λ (z : Zone). is_open z.state) drive.zones (fillings tables.roles) zone nowhere refl (filling-in_range drive tables zone agrees here) here (few-fillings tables.roles)
    (λ k below out. inactive-shut (zone_at drive.zones k).state (others-inactive drive.geometry.capacity drive.zones (drive_logs drive) tables.roles k agrees.roles below out))

-- none is open where the tables say so
none_open : (drive : DriveState) (tables : TablesView) (zone : ℕ) → Agrees (mounted drive tables) → is_filling_at tables.roles zone ≡ true → closed_beside tables.roles zone ≡ tables.roles → open_count (remove drive.zones zone) ≡ 0
none_open drive tables zone agrees here noted =
    let lt = filling-in_range drive tables zone agrees here in
    count-remove (λ (z : Zone). is_open z.state) drive.zones zone nowhere refl lt ∙ count-zero (λ (z : Zone). is_open z.state) (set drive.zones zone nowhere) nowhere (λ k below. at k (cases_eq k zone) lt (omega (arith, below, length-set drive.zones zone nowhere)))
  where
    filled : (k : ℕ) → k ≢ zone → k < length drive.zones → (b : Bool) → is_filling_at tables.roles k ≡ b → is_open (zone_at drive.zones k).state ≡ false
    filled k other below true e = all-shut drive.zones zone (fillings tables.roles) (noted-shut drive.zones tables.roles zone noted agrees.open_zones) k other e
    filled k other below false e = inactive-shut (zone_at drive.zones k).state (others-inactive drive.geometry.capacity drive.zones (drive_logs drive) tables.roles k agrees.roles below e)

    at : (k : ℕ) → (k ≡ zone) ⊎ (k ≢ zone) → zone < length drive.zones → k < length drive.zones → is_open (get_or (set drive.zones zone nowhere) k nowhere).state ≡ false
    at k (inl same) lt below = rw (same, get_or-set_same drive.zones zone nowhere nowhere lt) refl
    at k (inr other) lt below = rw (get_or-set_other drive.zones zone k nowhere nowhere other) (filled k other below (is_filling_at tables.roles k) refl)

-- an Append to a zone that is being filled, which has room for it; where the drive holds one zone open at most, no other is being filled that may be open
pub can_append : (drive : DriveState) (tables : TablesView) (zone start count : ℕ)
    → Agrees (mounted drive tables) → is_filling_at tables.roles zone ≡ true → roles_alone drive.geometry tables.roles zone ≡ tables.roles
    → start ≡ zone * drive.geometry.size → 1 ≤ count → count ≤ drive.geometry.transfer → length (content_at (contents drive.zones) zone).blocks + count ≤ drive.geometry.capacity
    → CanAppend drive start count
can_append drive tables zone start count agrees here alone start-is some few room =
    let size = drive.geometry.size in
    let at = zone-start zone size agrees.geometry.size.0 in
    let index : start / size ≡ zone = rw start-is at.0 in
    let lt = filling-in_range drive tables zone agrees here in
    let content = content_at-contents drive.zones zone in
    let two = few-fillings tables.roles in
    record {
      aligned = rw start-is at.1;
      in_range = rw (start-is, ← agrees.lawful.count) (start-below zone (length drive.zones) size agrees.geometry.size.0 lt);
      few = few;
      writable = rw (index, ← ap (λ (c : Content). c.usage) content) (filling-writable drive.geometry.capacity (contents drive.zones) (drive_logs drive) tables.roles zone agrees.roles here (omega arith));
      room = rw (index, ← ap (λ (c : Content). c.blocks) content) room;
      active = rw index (omega (arith, others_active drive tables zone agrees here, two, agrees.geometry.active));
      open_zones = rw index (by (nat_lt 1 drive.geometry.open) refl alone);
    }
  where
    by : (b : Bool) → nat_lt 1 drive.geometry.open ≡ b → cond b tables.roles (closed_beside tables.roles zone) ≡ tables.roles → open_count (remove drive.zones zone) < drive.geometry.open
    by true e alone = omega (arith, others_open drive tables zone agrees here, few-fillings tables.roles, ltb-true 1 drive.geometry.open e)
    by false e alone = omega (arith, none_open drive tables zone agrees here alone, agrees.geometry.open_zones)

-- a Finish of a zone that is being filled
pub can_finish : (drive : DriveState) (tables : TablesView) (zone start : ℕ) → Agrees (mounted drive tables) → is_filling_at tables.roles zone ≡ true → start ≡ zone * drive.geometry.size → CanFinish drive start
can_finish drive tables zone start agrees here start-is =
    let size = drive.geometry.size in
    let at = zone-start zone size agrees.geometry.size.0 in
    let index : start / size ≡ zone = rw start-is at.0 in
    let content = content_at-contents drive.zones zone in
    let lt = filling-in_range drive tables zone agrees here in
    let usable = all-usable drive.geometry.capacity (contents drive.zones) (drive_logs drive) tables.roles agrees.roles in
    record {
      aligned = rw start-is at.1;
      in_range = rw (start-is, ← agrees.lawful.count) (start-below zone (length drive.zones) size agrees.geometry.size.0 lt);
      usable = rw (index, ← ap (λ (c : Content). c.usage) content) (all-at (λ (c : Content). is_usable c.usage ≡ true) (contents drive.zones) zone nothing usable (omega (arith, lt, length-map drive.zones content_of)));
    }

active-written : (state : ZoneState) (capacity written : ℕ) → MayHold state capacity written → is_writable (usage_of state) ≡ true → 1 ≤ written → is_active state ≡ true
active-written states.Empty capacity written h w some = absurd (omega arith)
active-written states.ImplicitlyOpened capacity written h w some = refl
active-written states.ExplicitlyOpened capacity written h w some = refl
active-written states.Closed capacity written h w some = refl
active-written states.ReadOnly capacity written h w some = absurd (cc)
active-written states.Full capacity written h w some = absurd (cc)
active-written states.Offline capacity written h w some = absurd (cc)

-- a Close of a zone that is being filled, may be open and isn't full
pub can_close : (drive : DriveState) (tables : TablesView) (f : Filling) (start : ℕ) → Agrees (mounted drive tables) → f.zone < length drive.zones → HoldsFilling drive.geometry.capacity (contents drive.zones) (drive_logs drive) f → f.may_open ≡ true → f.written ≢ drive.geometry.capacity
    → start ≡ f.zone * drive.geometry.size → CanClose drive start
can_close drive tables f start agrees lt is may other start-is =
    let size = drive.geometry.size in
    let at = zone-start f.zone size agrees.geometry.size.0 in
    let index : start / size ≡ f.zone = rw start-is at.0 in
    let here = content_at-contents drive.zones f.zone in
    let one = all-at (IsLawfulZone drive.geometry) drive.zones f.zone nowhere agrees.lawful.zones lt in
    let writable : is_writable (content_at (contents drive.zones) f.zone).usage ≡ true = elim is.usage as (λ _. is_writable (content_at (contents drive.zones) f.zone).usage ≡ true) [ inl w ↦ w | inr h ↦ absurd (other h.1) ] in
    let long : length (zone_at drive.zones f.zone).blocks ≡ f.written = rw here at is.written in
    record {
      aligned = rw start-is at.1;
      in_range = rw (start-is, ← agrees.lawful.count) (start-below f.zone (length drive.zones) size agrees.geometry.size.0 lt);
      active = rw index (active-written (zone_at drive.zones f.zone).state drive.geometry.capacity (length (zone_at drive.zones f.zone).blocks) one.written (rw here at writable) (omega (arith, long, is.opened may)));
    }

-- ---- how far a zone is written

short-of : (state : ZoneState) (capacity written : ℕ) → MayHold state capacity written → is_writable (usage_of state) ≡ true → 0 < capacity → written < capacity
short-of states.Empty capacity written h w some = omega arith
short-of states.ImplicitlyOpened capacity written h w some = h
short-of states.ExplicitlyOpened capacity written h w some = h
short-of states.Closed capacity written h w some = h
short-of states.ReadOnly capacity written h w some = absurd (cc)
short-of states.Full capacity written h w some = absurd (cc)
short-of states.Offline capacity written h w some = absurd (cc)

-- a zone of a lawful drive has at most its capacity written
pub zone-few : (drive : DriveState) (zone : ℕ) → IsLawful drive → zone < length drive.zones → length (content_at (contents drive.zones) zone).blocks ≤ drive.geometry.capacity
zone-few drive zone lawful lt =
    let one = all-at (IsLawfulZone drive.geometry) drive.zones zone nowhere lawful.zones lt in
    rw (content_at-contents drive.zones zone) (may_hold-most (zone_at drive.zones zone).state drive.geometry.capacity (length (zone_at drive.zones zone).blocks) one.written)

-- and holds no more blocks than its capacity
pub filling-few : (drive : DriveState) (tables : TablesView) (f : Filling) → Agrees (mounted drive tables) → f.zone < length drive.zones → HoldsFilling drive.geometry.capacity (contents drive.zones) (drive_logs drive) f → f.written ≤ drive.geometry.capacity
filling-few drive tables f agrees lt is = omega (arith, zone-few drive f.zone agrees.lawful lt, is.written)

-- a zone that is written up to its capacity is full
pub filling-full : (drive : DriveState) (tables : TablesView) (f : Filling) → Agrees (mounted drive tables) → f.zone < length drive.zones → HoldsFilling drive.geometry.capacity (contents drive.zones) (drive_logs drive) f → f.written ≡ drive.geometry.capacity
    → (content_at (contents drive.zones) f.zone).usage ≡ full
filling-full drive tables f agrees lt is e =
    let one = all-at (IsLawfulZone drive.geometry) drive.zones f.zone nowhere agrees.lawful.zones lt in
    let here = content_at-contents drive.zones f.zone in
    let long : length (zone_at drive.zones f.zone).blocks ≡ f.written = rw here at is.written in
    elim is.usage as (λ _. (content_at (contents drive.zones) f.zone).usage ≡ full) [
      | inl w ↦ (let bad = short-of (zone_at drive.zones f.zone).state drive.geometry.capacity (length (zone_at drive.zones f.zone).blocks) one.written (rw here at w) (omega (arith, agrees.geometry.capacity)) in absurd (omega arith))
      | inr h ↦ h.0
    ]

-- all zones that are being filled have at most their capacity written
pub fillings-few : (drive : DriveState) (tables : TablesView) → Agrees (mounted drive tables) → AllByRecursion (λ f. f.written ≤ drive.geometry.capacity) (fillings tables.roles)
fillings-few drive tables agrees = go (fillings tables.roles) agrees.roles.apart.occupied agrees.roles.fillings_are
  where
    go : (fs : List Filling) → AllByRecursion (IsOccupied tables.roles.empty) fs → AllByRecursion (HoldsFilling drive.geometry.capacity (contents drive.zones) (drive_logs drive)) fs → AllByRecursion (λ f. f.written ≤ drive.geometry.capacity) fs
    go [] occupied are = tt
    go (f ∷ fs) occupied are =
        (filling-few drive tables f agrees (omega (arith, occupied.0.in_range, agrees.roles.count, length-map drive.zones content_of)) are.0, go fs occupied.1 are.1)
