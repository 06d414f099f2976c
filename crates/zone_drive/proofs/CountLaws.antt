-- How many zones are active and open.
use Rattle.std.proofs.Common.{◌≡◌, ℕ, ◌+◌, ◌<◌, ◌≤◌, Bool, true, false, cond, List, [], ◌∷◌, length, map, set, get_or, refl, ◌∙◌, arith}
use Rattle.std.specs.List.{count_by}
use Rattle.std.proofs.lemmas.List.Sums.{sum_by-cons, sum_by-set}
use Rattle.nvme_wire.specs.declared.zone_state.ZoneState.{ZoneState}
use Rattle.zone_states.specs.Stored.{StoredZone, zone_stored}
use Rattle.zone_states.specs.Transition.{is_active, is_open}
use Rattle.zone_states.specs.Zone.{Zone}
use Rattle.drive_port.specs.Drive.{active_count, open_count}
use Rattle.drive_port.specs.Step.{nowhere, one_if, zone_at}
use Rattle.zone_drive.specs.Stored.{zones_of}

-- one, or none
one_if-is : (b : Bool) → one_if b ≡ cond b 1 0
one_if-is true = refl
one_if-is false = refl

-- how many of a list pass a test, by its first
pub count-cons : {X : Type 0} (p : X → Bool) (x : X) (xs : List X) → count_by p (x ∷ xs) ≡ one_if (p x) + count_by p xs
count-cons {X = X} p x xs = rw (one_if-is (p x)) (sum_by-cons (λ (y : X). cond (p y) 1 0) x xs)

-- one of them is set
pub count-set : {X : Type 0} (p : X → Bool) (xs : List X) (index : ℕ) (x d : X) → index < length xs → count_by p (set xs index x) + one_if (p (get_or xs index d)) ≡ count_by p xs + one_if (p x)
count-set {X = X} p xs index x d lt = rw (one_if-is (p x), one_if-is (p (get_or xs index d))) (sum_by-set (λ (y : X). cond (p y) 1 0) xs index x d lt)

-- ---- zones by their states

-- how many zones are in a state that passes a test
abbrev pub state_count : (ZoneState → Bool) → List Zone → ℕ
state_count p zones = count_by (λ (zone : Zone). p zone.state) zones

-- zones are counted as they are stored
pub count-stored : (p : ZoneState → Bool) (block : ℕ) (zones : List StoredZone) → count_by (λ (zone : StoredZone). p zone.state) zones ≡ state_count p (zones_of block zones)
count-stored p block [] = refl
count-stored p block (zone ∷ zones) =
    count-cons (λ (z : StoredZone). p z.state) zone zones
    ∙ omega (arith, count-stored p block zones, count-cons (λ (z : Zone). p z.state) (zone_stored block zone) (zones_of block zones))

-- no more zones are counted if none is counted that was not
pub count-map : (p : ZoneState → Bool) (f : Zone → Zone) → ((zone : Zone) → one_if (p (f zone).state) ≤ one_if (p zone.state)) → (zones : List Zone) → state_count p (map f zones) ≤ state_count p zones
count-map p f fewer [] = omega arith
count-map p f fewer (zone ∷ zones) =
    omega (arith, count-map p f fewer zones, fewer zone, count-cons (λ (z : Zone). p z.state) zone zones, count-cons (λ (z : Zone). p z.state) (f zone) (map f zones))

-- how many zones are active, where one is set
pub active-set : (zones : List Zone) (index : ℕ) (zone : Zone) → index < length zones
    → active_count (set zones index zone) + one_if (is_active (zone_at zones index).state) ≡ active_count zones + one_if (is_active zone.state)
active-set zones index zone lt = count-set (λ (z : Zone). is_active z.state) zones index zone nowhere lt

-- and how many are open
pub open-set : (zones : List Zone) (index : ℕ) (zone : Zone) → index < length zones
    → open_count (set zones index zone) + one_if (is_open (zone_at zones index).state) ≡ open_count zones + one_if (is_open zone.state)
open-set zones index zone lt = count-set (λ (z : Zone). is_open z.state) zones index zone nowhere lt
