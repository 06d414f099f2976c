-- Roles and contents, when a zone is taken, written, finished or sealed.
use Rattle.std.proofs.Common.{◌≡◌, ◌≢◌, ◌⊎◌, ℕ, suc, ◌+◌, ◌<◌, ◌≤◌, Bool, true, false, ◌||◌, cond, eqb, List, [], ◌∷◌, ◌++◌, length, set, get_or, Option, Some, None, refl, sym, ap, subst, ◌∙◌, inl, inr, arith}
use Rattle.std.specs.List.{AllByRecursion, count_by, list_any}
use Rattle.std.proofs.lemmas.Bool.{cases_eq, cases_lt, eqb-true, eq-eqb, ne_eqb}
use Rattle.std.proofs.lemmas.List.{get_or-set_same, get_or-set_other, length-set, length-append}
use Rattle.drive_port.specs.Contents.{Content, Usage, empty, active, full, unusable, Appends, Finishes, content_at, emptied, filled, finished, is_usable, is_writable, nothing}
use Rattle.batch_log.specs.Log.{Batch, batch_size, log_size}
use Rattle.zone_choice.specs.declared.roles.Filling.{Filling}
use Rattle.zone_choice.specs.declared.roles.Second.{Second}
use Rattle.zone_choice.specs.Agreement.{HoldsFilling, IsSealed, RolesAgree}
use Rattle.drive_array.specs.Mountable.{is_partly_written}
use Rattle.drive_array.specs.Records.{append_log}
use Rattle.zone_choice.specs.Roles.{Differ, RolesView, closed, closed_beside, closed_unless, filling_of, fillings, grown, is_at, is_empty_at, is_filling_at, taken, wrote}
use Rattle.drive_array.specs.ZoneLogs.{log_at}
use Rattle.drive_array.specs.Repair.{HasAtMost}
use Rattle.drive_array.proofs.AllLaws.{all-append, all-from, all-weaker}
use Rattle.zone_choice.proofs.RolesLaws.{all-filling, all-with, apart-seal, apart-take, apart-with, closed-zone, filling-occupied, filling_at-with, fillings-with, grown-zone, roles_with, second_list}
use Rattle.drive_array.proofs.AppendLaws.{log_size-some, log_size-append, log_at-other, log_at-same}
use Rattle.drive_array.proofs.CountLaws.{count-set, count-zero}
use Rattle.zone_states.proofs.ListLaws.{all-map}

-- ---- blocks are written to a zone that is being filled

filled-usage : (capacity written : ℕ) (blocks : List (List ℕ)) → length blocks ≡ written → (is_writable (filled capacity blocks).usage ≡ true) ⊎ (((filled capacity blocks).usage ≡ full) × (written ≡ capacity))
filled-usage capacity written blocks long = at (eqb (length blocks) capacity) refl
  where
    at : (b : Bool) → eqb (length blocks) capacity ≡ b → (is_writable (cond b full active) ≡ true) ⊎ ((cond b full active ≡ full) × (written ≡ capacity))
    at true e = inr (refl, sym long ∙ eqb-true (length blocks) capacity e)
    at false e = inl refl

-- a zone whose content and log are the same
pub same-filled : (capacity : ℕ) (old new : List Content) (logs logs' : List (List Batch)) (f : Filling) → content_at new f.zone ≡ content_at old f.zone → log_at logs' f.zone ≡ log_at logs f.zone → HoldsFilling capacity old logs f → HoldsFilling capacity new logs' f
same-filled capacity old new logs logs' f content log is = record { written = rw content is.written; usage = rw content is.usage; batches = rw log is.batches; opened = is.opened }

grown-filled : (capacity : ℕ) (old new : List Content) (logs : List (List Batch)) (zone : ℕ) (blocks : List (List ℕ)) (batch : Batch) → Appends old new capacity zone blocks → length blocks ≡ batch_size batch → zone < length logs
    → (f : Filling) → HoldsFilling capacity old logs f → HoldsFilling capacity new (append_log logs zone batch) (grown zone (batch_size batch) f)
grown-filled capacity old new logs zone blocks batch appends size lt f is = at (eqb f.zone zone) refl
  where
    at : (b : Bool) → eqb f.zone zone ≡ b → HoldsFilling capacity new (append_log logs zone batch) (cond b (record { zone = f.zone; written = f.written + batch_size batch; may_open = true }) f)
    at true e =
        let made = filled capacity ((content_at old zone).blocks ++ blocks) in
        let same : f.zone ≡ zone = eqb-true f.zone zone e in
        let there : content_at new f.zone ≡ made = rw (same, appends.zones) (get_or-set_same old zone made nothing appends.in_range) in
        let was : length (content_at old zone).blocks ≡ f.written = rw (← same) is.written in
        let long : length ((content_at old zone).blocks ++ blocks) ≡ f.written + batch_size batch = omega (arith, length-append (content_at old zone).blocks blocks, was, size) in
        let log : log_at (append_log logs zone batch) f.zone ≡ log_at logs f.zone ++ batch ∷ [] = rw same (log_at-same logs zone batch lt) in
        record {
          written = rw there long;
          usage = rw there (filled-usage capacity (f.written + batch_size batch) ((content_at old zone).blocks ++ blocks) long);
          batches = rw log (omega (arith, log_size-append (log_at logs f.zone) batch, is.batches));
          opened = λ may. omega arith;
        }
    at false e =
        let made = filled capacity ((content_at old zone).blocks ++ blocks) in
        let other : f.zone ≢ zone = λ same. (let bad = eq-eqb f.zone zone same in absurd (cc)) in
        same-filled capacity old new logs (append_log logs zone batch) f (rw appends.zones (get_or-set_other old zone f.zone made nothing other)) (log_at-other logs zone f.zone batch other) is

-- blocks are appended to a zone that is being filled
pub roles-write : (capacity : ℕ) (old new : List Content) (logs : List (List Batch)) (roles : RolesView) (zone : ℕ) (blocks : List (List ℕ)) (batch : Batch) → RolesAgree capacity old logs roles → is_filling_at roles zone ≡ true
    → Appends old new capacity zone blocks → length blocks ≡ batch_size batch → zone < length logs → RolesAgree capacity new (append_log logs zone batch) (wrote roles zone (batch_size batch))
roles-write capacity old new logs roles zone blocks batch agree here appends size lt =
    let made = filled capacity ((content_at old zone).blocks ++ blocks) in
    let there = filling-occupied roles zone agree.apart here in
    let other = λ (k : ℕ) (ne : k ≢ zone). (let e : content_at new k ≡ content_at old k = rw appends.zones (get_or-set_other old zone k made nothing ne) in e) in
    record {
      count = rw appends.zones (agree.count ∙ sym (length-set old zone made));
      apart = apart-with (grown zone (batch_size batch)) (grown-zone zone (batch_size batch)) roles agree.apart;
      fillings_are = subst (AllByRecursion (HoldsFilling capacity new (append_log logs zone batch))) (sym (fillings-with (grown zone (batch_size batch)) roles))
          (all-map (HoldsFilling capacity new (append_log logs zone batch)) (grown zone (batch_size batch)) (fillings roles)
          (all-weaker (HoldsFilling capacity old logs) (λ f. HoldsFilling capacity new (append_log logs zone batch) (grown zone (batch_size batch) f)) (fillings roles) (grown-filled capacity old new logs zone blocks batch appends size lt) agree.fillings_are));
      empty = λ k is_empty. other k (λ same. let no = there.1 in let yes = rw same at is_empty in absurd (cc)) ∙ agree.empty k is_empty;
      sealed_are = λ k below not_empty not_filling.
          let was : is_filling_at roles k ≡ false = sym (filling_at-with (grown zone (batch_size batch)) (grown-zone zone (batch_size batch)) roles k) ∙ not_filling in
          let ne : k ≢ zone = λ same. (let yes = rw (← same) at here in absurd (cc)) in
          let old_sealed = agree.sealed_are k (rw (appends.zones, length-set) at below) not_empty was in
          record { usage = rw (other k ne) old_sealed.usage; has_batch = rw (log_at-other logs zone k batch ne) old_sealed.has_batch };
    }

-- ---- the host zone is sealed

host_at : (host : Filling) (second : Option Second) (k : ℕ) → host.zone ≢ k → list_any (is_at k) (second_list second) ≡ false → list_any (is_at k) (host ∷ second_list second) ≡ false
host_at host second k other none = rw (ne_eqb host.zone k other) none

-- the host zone is full, and sealed
pub roles-seal : (capacity : ℕ) (zones : List Content) (logs : List (List Batch)) (empties : List Bool) (host : Filling) (second : Option Second) → RolesAgree capacity zones logs (roles_with empties (Some host) second)
    → (content_at zones host.zone).usage ≡ full → 1 ≤ host.written → RolesAgree capacity zones logs (roles_with empties None second)
roles-seal capacity zones logs empties host second agree is_full some = record {
  count = agree.count;
  apart = apart-seal (roles_with empties (Some host) second) agree.apart;
  fillings_are = agree.fillings_are.1;
  empty = agree.empty;
  sealed_are = λ k lt not_empty not_filling. elim (cases_eq host.zone k) as (λ _. IsSealed zones logs k) [
    | inl same ↦ rw (sym same) (record { usage = is_full; has_batch = log_size-some (log_at logs host.zone) (omega (arith, agree.fillings_are.0.batches, some)) })
    | inr other ↦ agree.sealed_are k lt not_empty (host_at host second k other not_filling)
  ];
}

-- the host zone is finished, and sealed
other-filled : (capacity : ℕ) (old new : List Content) (logs : List (List Batch)) (host : Filling) (second : Option Second) → Differ (Some host) second → ((k : ℕ) → k ≢ host.zone → content_at new k ≡ content_at old k)
    → AllByRecursion (HoldsFilling capacity old logs) (second_list second) → AllByRecursion (HoldsFilling capacity new logs) (second_list second)
other-filled capacity old new logs host None differ same all = tt
other-filled capacity old new logs host (Some s) differ same all = (same-filled capacity old new logs logs (filling_of s) (same (filling_of s).zone (λ e. differ (sym e))) refl all.0, tt)

-- it is finished, and sealed
pub roles-finish : (capacity : ℕ) (old new : List Content) (logs : List (List Batch)) (empties : List Bool) (host : Filling) (second : Option Second) → RolesAgree capacity old logs (roles_with empties (Some host) second)
    → Finishes old new host.zone → 1 ≤ host.written → RolesAgree capacity new logs (roles_with empties None second)
roles-finish capacity old new logs empties host second agree finishes some =
    let made = finished (content_at old host.zone) in
    let there : content_at new host.zone ≡ made = rw finishes.zones (get_or-set_same old host.zone made nothing finishes.in_range) in
    let other = λ (k : ℕ) (ne : k ≢ host.zone). (let e : content_at new k ≡ content_at old k = rw finishes.zones (get_or-set_other old host.zone k made nothing ne) in e) in
    record {
      count = rw finishes.zones (agree.count ∙ sym (length-set old host.zone made));
      apart = apart-seal (roles_with empties (Some host) second) agree.apart;
      fillings_are = other-filled capacity old new logs host second agree.apart.differ other agree.fillings_are.1;
      empty = λ k is_empty. other k (λ same. let no = agree.apart.occupied.0.not_empty in let yes = rw same at is_empty in absurd (cc)) ∙ agree.empty k is_empty;
      sealed_are = λ k lt not_empty not_filling. elim (cases_eq k host.zone) as (λ _. IsSealed new logs k) [
        | inl same ↦ rw same (record { usage = rw there refl; has_batch = log_size-some (log_at logs host.zone) (omega (arith, agree.fillings_are.0.batches, some)) })
        | inr ne ↦ (
            let was = agree.sealed_are k (rw (finishes.zones, length-set) at lt) not_empty (host_at host second k (λ same. ne (sym same)) not_filling) in
            record { usage = rw (other k ne) was.usage; has_batch = was.has_batch }
            )
      ];
    }

-- ---- an empty zone becomes the host zone

-- an empty zone becomes the host zone
pub roles-take : (capacity : ℕ) (zones : List Content) (logs : List (List Batch)) (empties : List Bool) (second : Option Second) (zone : ℕ) → RolesAgree capacity zones logs (roles_with empties None second)
    → zone < length empties → get_or empties zone false ≡ true → log_at logs zone ≡ [] → RolesAgree capacity zones logs (taken (roles_with empties None second) zone)
roles-take capacity zones logs empties second zone agree lt here no_log =
    let there = agree.empty zone here in
    let gone : get_or (set empties zone false) zone false ≡ false = get_or-set_same empties zone false false lt in
    record {
      count = length-set empties zone false ∙ agree.count;
      apart = apart-take (roles_with empties None second) zone agree.apart lt here;
      fillings_are = (record { written = rw there refl; usage = rw there (inl refl); batches = rw no_log refl; opened = λ may. absurd (cc) }, agree.fillings_are);
      empty = λ k is_empty. elim (cases_eq k zone) as (λ _. content_at zones k ≡ emptied) [
        | inl same ↦ rw same there
        | inr other ↦ agree.empty k (rw (get_or-set_other empties zone k false false other) at is_empty)
      ];
      sealed_are = λ k below not_empty not_filling.
          let other : k ≢ zone = λ same. (let bad : eqb zone k ≡ true = eq-eqb zone k (sym same) in let no : (true || list_any (is_at k) (second_list second)) ≡ false = rw bad at not_filling in absurd (cc)) in
          let apart : zone ≢ k = λ same. other (sym same) in
          agree.sealed_are k below (rw (get_or-set_other empties zone k false false other) at not_empty) (rw (ne_eqb zone k apart) at not_filling);
    }

-- ---- zones are closed

closed-filled : (capacity : ℕ) (zones : List Content) (logs : List (List Batch)) (zone : ℕ) (f : Filling) → HoldsFilling capacity zones logs f → HoldsFilling capacity zones logs (closed_unless zone f)
closed-filled capacity zones logs zone f is = at (eqb f.zone zone)
  where
    at : (b : Bool) → HoldsFilling capacity zones logs (cond b f (closed f))
    at true = is
    at false = record { written = is.written; usage = is.usage; batches = is.batches; opened = λ may. absurd (cc) }

-- the other zone that is being filled is closed
pub roles-close : (capacity : ℕ) (zones : List Content) (logs : List (List Batch)) (roles : RolesView) (zone : ℕ) → RolesAgree capacity zones logs roles → RolesAgree capacity zones logs (closed_beside roles zone)
roles-close capacity zones logs roles zone agree = record {
  count = agree.count;
  apart = apart-with (closed_unless zone) (closed-zone zone) roles agree.apart;
  fillings_are = subst (AllByRecursion (HoldsFilling capacity zones logs)) (sym (fillings-with (closed_unless zone) roles))
      (all-map (HoldsFilling capacity zones logs) (closed_unless zone) (fillings roles) (all-weaker (HoldsFilling capacity zones logs) (λ f. HoldsFilling capacity zones logs (closed_unless zone f)) (fillings roles) (closed-filled capacity zones logs zone) agree.fillings_are));
  empty = agree.empty;
  sealed_are = λ k below not_empty not_filling. agree.sealed_are k below not_empty (sym (filling_at-with (closed_unless zone) (closed-zone zone) roles k) ∙ not_filling);
}

-- ---- batches with few entries

abbrev AtMost : ℕ → List (List Batch) → Filling → Type 0
AtMost most logs f = AllByRecursion (HasAtMost most) (log_at logs f.zone)

-- each batch of the zones being filled has so many entries at most, also the new one
pub few-write : (most : ℕ) (logs : List (List Batch)) (roles : RolesView) (zone : ℕ) (b : Batch) → zone < length logs → HasAtMost most b
    → AllByRecursion (λ (f : Filling). AllByRecursion (HasAtMost most) (log_at logs f.zone)) (fillings roles)
    → AllByRecursion (λ (f : Filling). AllByRecursion (HasAtMost most) (log_at (append_log logs zone b) f.zone)) (fillings (wrote roles zone (batch_size b)))
few-write most logs roles zone b lt few all =
    all-with (λ z. AllByRecursion (HasAtMost most) (log_at (append_log logs zone b) z)) (grown zone (batch_size b)) (grown-zone zone (batch_size b)) roles
    (all-weaker (AtMost most logs) (AtMost most (append_log logs zone b)) (fillings roles) (λ f is. at f.zone (cases_eq f.zone zone) is) all)
  where
    at : (k : ℕ) → (k ≡ zone) ⊎ (k ≢ zone) → AllByRecursion (HasAtMost most) (log_at logs k) → AllByRecursion (HasAtMost most) (log_at (append_log logs zone b) k)
    at k (inl same) is = rw (same, log_at-same logs zone b lt) (all-append (HasAtMost most) (log_at logs zone) (b ∷ []) (rw same at is) (few, tt))
    at k (inr other) is = rw (log_at-other logs zone k b other) is

-- the log of a zone that is being filled takes all its blocks
pub filling-log : (capacity : ℕ) (zones : List Content) (logs : List (List Batch)) (roles : RolesView) (zone : ℕ) → RolesAgree capacity zones logs roles → is_filling_at roles zone ≡ true
    → log_size (log_at logs zone) ≡ length (content_at zones zone).blocks
filling-log capacity zones logs roles zone agree here =
    all-filling (λ z. log_size (log_at logs z) ≡ length (content_at zones z).blocks) (fillings roles) zone
    (all-weaker (HoldsFilling capacity zones logs) (λ f. log_size (log_at logs f.zone) ≡ length (content_at zones f.zone).blocks) (fillings roles) (λ f is. is.batches ∙ sym is.written) agree.fillings_are) here

-- ---- what follows for all zones

-- a zone that is empty or full
abbrev pub IsSettled : Usage → Type 0
IsSettled usage = (usage ≡ empty) ⊎ (usage ≡ full)

-- a zone that isn't being filled is empty or full
pub roles-settled : (capacity : ℕ) (zones : List Content) (logs : List (List Batch)) (roles : RolesView) (zone : ℕ) → RolesAgree capacity zones logs roles → zone < length zones → is_filling_at roles zone ≡ false → IsSettled (content_at zones zone).usage
roles-settled capacity zones logs roles zone agree lt not_filling = at (is_empty_at roles zone) refl
  where
    at : (b : Bool) → is_empty_at roles zone ≡ b → IsSettled (content_at zones zone).usage
    at true e = rw (agree.empty zone e) (inl refl)
    at false e = inr (agree.sealed_are zone lt e not_filling).usage

settled-usable : (usage : Usage) → IsSettled usage → is_usable usage ≡ true
settled-usable empty h = refl
settled-usable active h = refl
settled-usable full h = refl
settled-usable unusable h = elim h as (λ _. false ≡ true) [ inl e ↦ cc | inr e ↦ cc ]

writable-usable : (usage : Usage) → is_writable usage ≡ true → is_usable usage ≡ true
writable-usable empty h = refl
writable-usable active h = refl
writable-usable full h = refl
writable-usable unusable h = absurd (cc)

-- a zone that is being filled is usable
pub filled-usable : (capacity : ℕ) (zones : List Content) (logs : List (List Batch)) (f : Filling) → HoldsFilling capacity zones logs f → is_usable (content_at zones f.zone).usage ≡ true
filled-usable capacity zones logs f is = elim is.usage as (λ _. is_usable (content_at zones f.zone).usage ≡ true) [ inl w ↦ writable-usable (content_at zones f.zone).usage w | inr h ↦ rw h.0 refl ]

zone-usable : (capacity : ℕ) (zones : List Content) (logs : List (List Batch)) (roles : RolesView) (zone : ℕ) → RolesAgree capacity zones logs roles → zone < length zones → (b : Bool) → is_filling_at roles zone ≡ b → is_usable (content_at zones zone).usage ≡ true
zone-usable capacity zones logs roles zone agree lt false e = settled-usable (content_at zones zone).usage (roles-settled capacity zones logs roles zone agree lt e)
zone-usable capacity zones logs roles zone agree lt true e =
    all-filling (λ z. is_usable (content_at zones z).usage ≡ true) (fillings roles) zone
    (all-weaker (HoldsFilling capacity zones logs) (λ f. is_usable (content_at zones f.zone).usage ≡ true) (fillings roles) (filled-usable capacity zones logs) agree.fillings_are) e

-- and so are all zones
pub all-usable : (capacity : ℕ) (zones : List Content) (logs : List (List Batch)) (roles : RolesView) → RolesAgree capacity zones logs roles → AllByRecursion (λ (zone : Content). is_usable zone.usage ≡ true) zones
all-usable capacity zones logs roles agree =
    all-from (λ (zone : Content). is_usable zone.usage ≡ true) zones nothing (λ zone lt. zone-usable capacity zones logs roles zone agree lt (is_filling_at roles zone) refl)

-- a zone that is being filled and has a block left can be written
pub filling-writable : (capacity : ℕ) (zones : List Content) (logs : List (List Batch)) (roles : RolesView) (zone : ℕ) → RolesAgree capacity zones logs roles → is_filling_at roles zone ≡ true → length (content_at zones zone).blocks < capacity
    → is_writable (content_at zones zone).usage ≡ true
filling-writable capacity zones logs roles zone agree here room =
    all-filling (λ z. length (content_at zones z).blocks < capacity → is_writable (content_at zones z).usage ≡ true) (fillings roles) zone
    (all-weaker (HoldsFilling capacity zones logs) (λ f. length (content_at zones f.zone).blocks < capacity → is_writable (content_at zones f.zone).usage ≡ true) (fillings roles) one agree.fillings_are) here room
  where
    one : (f : Filling) → HoldsFilling capacity zones logs f → length (content_at zones f.zone).blocks < capacity → is_writable (content_at zones f.zone).usage ≡ true
    one f is lt = elim is.usage as (λ _. is_writable (content_at zones f.zone).usage ≡ true) [ inl w ↦ w | inr h ↦ absurd (omega (arith, is.written, h.1, lt)) ]

-- a zone that is empty or full is not partly written
pub settled-whole : (content : Content) → IsSettled content.usage → is_partly_written content ≡ false
settled-whole content h = elim h as (λ _. is_partly_written content ≡ false) [ inl e ↦ rw e refl | inr e ↦ rw e refl ]

-- ---- counts of zones that are not settled

-- where what isn't among these zones isn't counted, no more than these are
pub count-fillings : {X : Type 0} (p : X → Bool) (xs : List X) (fs : List Filling) (d : X) → p d ≡ false → ((k : ℕ) → k < length xs → list_any (is_at k) fs ≡ false → p (get_or xs k d) ≡ false) → count_by p xs ≤ length fs
count-fillings p xs [] d off none = omega (arith, count-zero p xs d (λ k lt. none k lt refl))
count-fillings {X} p xs (f ∷ fs) d off none = elim (cases_lt f.zone (length xs)) as (λ _. count_by p xs ≤ suc (length fs)) [
  | inl lt ↦ omega (arith, count-set p xs f.zone d off lt, count-fillings p (set xs f.zone d) fs d off (λ k below out. cleared k (omega (arith, below, length-set xs f.zone d)) lt out (λ ne. none k (omega (arith, below, length-set xs f.zone d)) (rw (ne_eqb f.zone k ne) out))))
  | inr past ↦ omega (arith, count-fillings p xs fs d off (λ k below out. none k below (rw (ne_eqb f.zone k (λ e. omega arith)) out)))
]
  where
    cleared : (k : ℕ) → k < length xs → f.zone < length xs → list_any (is_at k) fs ≡ false → (f.zone ≢ k → p (get_or xs k d) ≡ false) → p (get_or (set xs f.zone d) k d) ≡ false
    cleared k below lt out rest = elim (cases_eq k f.zone) as (λ _. p (get_or (set xs f.zone d) k d) ≡ false) [
      | inl e ↦ ap p (rw e (get_or-set_same xs f.zone d d lt)) ∙ off
      | inr ne ↦ ap p (get_or-set_other xs f.zone k d d ne) ∙ rest (λ e. ne (sym e))
    ]
