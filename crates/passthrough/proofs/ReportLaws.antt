-- Reports in pieces, and the report of what was seen.
use Rattle.std.proofs.Common.{◌≡◌, ◌⊎◌, ℕ, zero, suc, ◌+◌, ◌/◌, ◌<◌, ◌≤◌, Bool, List, [], ◌∷◌, length, map, drop, Ok, refl, sym, ap, ◌∙◌, inl, inr, arith}
use Rattle.std.specs.Prelude.{if◌then◌else◌}
use Rattle.std.proofs.lemmas.Bool.Decides.{leb_tells}
use Rattle.std.proofs.lemmas.List.{length-replicate}
use Rattle.nvme_wire.specs.declared.command.ReportingOptions.{ReportingOptions}
use Rattle.nvme_wire.specs.declared.descriptor.Descriptor.{Descriptor}
use Rattle.nvme_wire.specs.declared.zone_state.ZoneState.TheVariants.{Closed, ImplicitlyOpened}
use Rattle.zone_states.specs.Zone.{Zone}
use Rattle.zone_states.specs.declared.geometry.Geometry.{Geometry}
use Rattle.zone_report.specs.Report.{descriptor_of, is_chosen, matching, report, zone_status}
use Rattle.drive_port.specs.Drive.{ClosesOne, IsClosing}
use Rattle.nvme_wire.specs.declared.command.Command.TheVariants.{Receive}
use Rattle.nvme_wire.specs.declared.status.Status.TheVariants.{Success}
use Rattle.drive_port.specs.Step.{Effect, end_of, zone_at}
use Rattle.drive_port.proofs.StepLaws.{outcome-passes}
use Rattle.std.proofs.lemmas.Bool.{lt-leb}
use Rattle.drive_port.proofs.ClosingLaws.{zone_at-closing}
use Rattle.passthrough.specs.Seen.{seen_at}
use Rattle.passthrough.specs.Showing.{LookedLike, LooksLike, WereSeen, status_of, zone_like}
use Rattle.passthrough.specs.declared.seen_zone.SeenZone.{SeenZone}

-- ---- pieces

-- a zone that is closed twice is closed
pub closes-then : (a b c : Zone) → ClosesOne a b → ClosesOne b c → ClosesOne a c
closes-then a b c p q = record { blocks = q.blocks ∙ p.blocks; state = states p.state q.state }
  where
    states : (b.state ≡ a.state) ⊎ ((a.state ≡ ImplicitlyOpened) × (b.state ≡ Closed)) → (c.state ≡ b.state) ⊎ ((b.state ≡ ImplicitlyOpened) × (c.state ≡ Closed))
        → (c.state ≡ a.state) ⊎ ((a.state ≡ ImplicitlyOpened) × (c.state ≡ Closed))
    states (inl same) (inl still) = inl (still ∙ same)
    states (inl same) (inr closed) = inr (sym same ∙ closed.0, closed.1)
    states (inr closed) (inl still) = inr (closed.0, still ∙ closed.1)
    states (inr closed) (inr again) = inr (closed.0, again.1)

-- no zone was looked at yet
pub seen-none : (geometry : Geometry) (zones : List Zone) (seen : List SeenZone) → WereSeen 0 0 geometry zones seen seen zones
seen-none geometry zones seen = record {
  length_is = refl;
  others = λ number outside. refl;
  looked = λ number low high. absurd (omega (arith, high));
}

-- zones that were seen, and then those after them
pub seen-then : (geometry : Geometry) (old middle new : List Zone) (before between after : List SeenZone) (first count : ℕ) → WereSeen 0 first geometry old before between middle
    → IsClosing old middle → WereSeen first count geometry middle between after new → IsClosing middle new → WereSeen 0 (first + count) geometry old before after new
seen-then geometry old middle new before between after first count done closed next closing = record {
  length_is = next.length_is ∙ done.length_is;
  others = λ number outside. next.others number (inr (past number outside)) ∙ done.others number (inr (far number outside));
  looked = λ number low high. elim (leb_tells first number) [
    | inl here ↦ now (next.looked number here.1 (omega (arith, high))) (zone_at-closing old middle number closed)
    | inr before ↦ rw (next.others number (inl before.1)) (earlier (done.looked number low (omega (arith, before.1))) (zone_at-closing middle new number closing))
  ];
}
  where
    past : (number : ℕ) → (number < 0) ⊎ (0 + (first + count) ≤ number) → first + count ≤ number
    past number (inl low) = absurd (omega (arith, low))
    past number (inr high) = omega (arith, high)

    far : (number : ℕ) → (number < 0) ⊎ (0 + (first + count) ≤ number) → 0 + first ≤ number
    far number (inl low) = absurd (omega (arith, low))
    far number (inr high) = omega (arith, high)

    now : {number : ℕ} {a b c : Zone} {row : SeenZone} → LookedLike geometry number b row c → ClosesOne a b → LookedLike geometry number a row c
    now looked one = record { zone = looked.zone; before = closes-then _ _ _ one looked.before; like = looked.like; after = looked.after }

    earlier : {number : ℕ} {a b c : Zone} {row : SeenZone} → LookedLike geometry number a row b → ClosesOne b c → LookedLike geometry number a row c
    earlier looked one = record { zone = looked.zone; before = looked.before; like = looked.like; after = closes-then _ _ _ looked.after one }

-- ---- the zones of one moment

-- zones and what was seen of them, from a number on: a report says the same of them
abbrev AreLike : Geometry → ℕ → List Zone → List SeenZone → Type 0
AreLike geometry number [] [] = Unit {0}
AreLike geometry number (zone ∷ zones) (row ∷ rows) = LooksLike geometry number zone row × AreLike geometry (number + 1) zones rows
AreLike geometry number [] (row ∷ rows) = ⊥
AreLike geometry number (zone ∷ zones) [] = ⊥

-- zones between two moments that were as was seen
record Between (geometry : Geometry) (number : ℕ) (old : List Zone) (rows : List SeenZone) (new : List Zone) : Type 0 where
  middle : List Zone
  before : IsClosing old middle
  like : AreLike geometry number middle rows
  after : IsClosing middle new

between : (geometry : Geometry) (number : ℕ) (old new : List Zone) (rows : List SeenZone) → length rows ≡ length old → length new ≡ length old
    → ((i : ℕ) → i < length old → LookedLike geometry (number + i) (zone_at old i) (seen_at rows i) (zone_at new i)) → Between geometry number old rows new
between geometry number [] [] [] e f looked = record { middle = []; before = tt; like = tt; after = tt }
between geometry number (old ∷ olds) (new ∷ news) (row ∷ rows) e f looked =
    let here = looked 0 (omega arith) in
    let rest = between geometry (number + 1) olds news rows (omega (arith, e)) (omega (arith, f)) (λ i low. rw (next i) (looked (suc i) (omega (arith, low)))) in
    record {
      middle = here.zone ∷ rest.middle;
      before = (here.before, rest.before);
      like = (rw (same number) at here.like, rest.like);
      after = (here.after, rest.after);
    }
  where
    next : (i : ℕ) → number + 1 + i ≡ number + suc i
    next i = omega arith

    same : (n : ℕ) → n + 0 ≡ n
    same n = omega arith
between geometry number [] (new ∷ news) rows e f looked = absurd (omega (arith, f))
between geometry number [] [] (row ∷ rows) e f looked = absurd (omega (arith, e))
between geometry number (old ∷ olds) [] rows e f looked = absurd (omega (arith, f))
between geometry number (old ∷ olds) (new ∷ news) [] e f looked = absurd (omega (arith, e))

-- ---- the report

like-drop : (geometry : Geometry) (number k : ℕ) (zones : List Zone) (rows : List SeenZone) → AreLike geometry number zones rows → AreLike geometry (number + k) (drop k zones) (drop k rows)
like-drop geometry number zero zones rows like = rw (same number) like
  where
    same : (n : ℕ) → n + 0 ≡ n
    same n = omega arith
like-drop geometry number (suc k) [] [] like = tt
like-drop geometry number (suc k) (z ∷ zs) (r ∷ rs) like = rw (next number k) (like-drop geometry (number + 1) k zs rs like.1)
  where
    next : (n k : ℕ) → n + suc k ≡ n + 1 + k
    next n k = omega arith
like-drop geometry number (suc k) [] (r ∷ rs) like = absurd like
like-drop geometry number (suc k) (z ∷ zs) [] like = absurd like

drop-map : (k : ℕ) (rows : List SeenZone) → drop k (map zone_like rows) ≡ map zone_like (drop k rows)
drop-map zero rows = refl
drop-map (suc k) [] = refl
drop-map (suc k) (r ∷ rs) = drop-map k rs

status-like : (row : SeenZone) → zone_status (zone_like row) ≡ status_of row
status-like row = ap (λ (n : ℕ). record { state = row.state; written = n }) (length-replicate _ _)

chosen : (a b : Bool) (d e : Descriptor) (xs ys : List Descriptor) → a ≡ b → d ≡ e → xs ≡ ys → (if a then d ∷ xs else xs) ≡ (if b then e ∷ ys else ys)
chosen a b d e xs ys p q r = rw (p, q, r) refl

matching-like : (geometry : Geometry) (options : ReportingOptions) (number : ℕ) (zones : List Zone) (rows : List SeenZone) → AreLike geometry number zones rows
    → matching geometry options number zones ≡ matching geometry options number (map zone_like rows)
matching-like geometry options number [] [] like = refl
matching-like geometry options number (z ∷ zs) (r ∷ rs) like =
    let rest = matching-like geometry options (number + 1) zs rs like.1 in
    let state : z.state ≡ r.state = ap (λ (d : Descriptor). d.state) like.0 in
    chosen _ _ _ _ _ _ (ap (is_chosen options) state) (like.0 ∙ sym (ap (descriptor_of geometry number) (status-like r))) rest
matching-like geometry options number [] (r ∷ rs) like = absurd like
matching-like geometry options number (z ∷ zs) [] like = absurd like

from-none : (n : ℕ) → 0 + n ≡ n
from-none n = omega arith

-- a report says the same of zones as of what was seen of them
report-like : (geometry : Geometry) (zones : List Zone) (rows : List SeenZone) (address : ℕ) (options : ReportingOptions) (partial : Bool) (dwords : ℕ) → AreLike geometry 0 zones rows
    → report geometry zones address options partial dwords ≡ report geometry (map zone_like rows) address options partial dwords
report-like geometry zones rows address options partial dwords like =
    let first = address / geometry.size in
    let dropped : AreLike geometry first (drop first zones) (drop first rows) = rw (from-none first) at (like-drop geometry 0 first zones rows like) in
    let same = matching-like geometry options first (drop first zones) (drop first rows) dropped in
    rw (drop-map first rows, same) refl

-- a report of what was seen of all zones is one of the drive at some moment
pub reports-seen : (geometry : Geometry) (old new : List Zone) (before after : List SeenZone) (address dwords : ℕ) (options : ReportingOptions) (partial : Bool) (returned : List ℕ)
    → address < end_of geometry → length old ≡ geometry.zones → length new ≡ length old → length before ≡ length old → WereSeen 0 geometry.zones geometry old before after new
    → returned ≡ report geometry (map zone_like after) address options partial dwords
    → Effect geometry old (Ok (Receive address dwords options partial)) [] Success 0 returned new
reports-seen geometry old new before after address dwords options partial returned low count same long were is =
    let b = between geometry 0 old new after (were.length_is ∙ long) same (λ i below. rw (from-none i) (were.looked i (omega arith) (omega (arith, below, count)))) in
    let gives = outcome-passes geometry b.middle (Ok (Receive address dwords options partial)) [] (lt-leb _ _ low, tt) in
    record {
      middle = b.middle;
      before = b.before;
      status_is = rw gives refl;
      value_is = rw gives refl;
      returned_is = rw gives (is ∙ sym (report-like geometry b.middle after address options partial dwords b.like));
      after = rw gives b.after;
    }
