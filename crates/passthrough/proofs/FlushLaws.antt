-- Looks at the zones that are due, and Flushes.
use Rattle.std.proofs.Common.{◌≡◌, ◌⊎◌, ℕ, ◌+◌, ◌<◌, ◌≤◌, true, false, List, Result, Ok, Err, refl, sym, ap, ◌∙◌, inl, inr, arith}
use Rattle.std.specs.Prelude.{◌==◌, if◌then◌else◌, slice_set, length, OnOk}
use Rattle.std.proofs.lemmas.List.{get_or-set_other, get_or-set_same, get_or_past, length-set}
use Rattle.std.proofs.lemmas.Bool.Decides.{eqb_tells, leb_tells}
use Rattle.std.proofs.Math.Nat.{eq-or-lt_of_le}
use Rattle.zone_states.specs.Zone.{Zone}
use Rattle.zone_states.specs.declared.geometry.Geometry.{Geometry}
use Rattle.drive_port.specs.declared.device.Halt.{Halt}
use Rattle.drive_port.specs.Drive.{ClosesOne, IsClosing}
use Rattle.drive_port.proofs.ClosingLaws.{zone_at-closing}
use Rattle.passthrough.specs.Asking.{IsReady}
use Rattle.passthrough.specs.Seen.{AreSettled, is_due, no_zone, seen_at, settled}
use Rattle.passthrough.specs.Showing.{CoversDue, DueWereSeen, FlushLooked, LookedLike, WereSeen}
use Rattle.passthrough.specs.declared.seen_zone.SeenZone.{SeenZone}
use Rattle.passthrough.proofs.ReportLaws.{closes-then}

-- ---- the stretch of zones that are due

pub covers-none : (seen : List SeenZone) (first : ℕ) → CoversDue seen first 0 first 0
covers-none seen first = record {
  low = omega arith;
  high = omega arith;
  due = λ number low high is. absurd (omega (arith, low, high));
}

-- one zone more, which is not due
pub covers-other : (seen : List SeenZone) (first count from some : ℕ) → CoversDue seen first count from some → is_due (seen_at seen (first + count)) ≡ false
    → CoversDue seen first (count + 1) from some
covers-other seen first count from some covers other = record {
  low = covers.low;
  high = omega (arith, covers.high);
  due = λ number low high is.
      let few : number ≤ first + count = omega (arith, high) in
      elim (eq-or-lt_of_le few) [
        | inl same ↦ absurd (differ (sym (rw same at is) ∙ other))
        | inr before ↦ covers.due number low before is
      ];
}
  where
    differ : true ≡ false → ⊥
    differ e = cc e

-- one zone more, to which the stretch is widened
pub covers-more : (seen : List SeenZone) (first count from some next more : ℕ) → CoversDue seen first count from some
    → next ≡ (if some == 0 then first + count else from) → next + more ≡ first + count + 1 → CoversDue seen first (count + 1) next more
covers-more seen first count from some next more covers begins ends = elim (eqb_tells some 0) [
  | inl none ↦
      let here : next ≡ first + count = begins ∙ rw none.0 refl in
      record {
        low = omega (arith, here);
        high = omega (arith, ends);
        due = λ number low high is.
            let few : number ≤ first + count = omega (arith, high) in
            elim (eq-or-lt_of_le few) [
              | inl same ↦ (omega (arith, same, here), omega (arith, same, ends))
              | inr before ↦
                  let within = covers.due number low before is in
                  absurd (omega (arith, within.0, within.1, none.1))
            ];
      }
  | inr some_there ↦
      let here : next ≡ from = begins ∙ rw some_there.0 refl in
      record {
        low = omega (arith, here, covers.low);
        high = omega (arith, ends);
        due = λ number low high is.
            let few : number ≤ first + count = omega (arith, high) in
            elim (eq-or-lt_of_le few) [
              | inl same ↦ (omega (arith, same, here, covers.high), omega (arith, same, ends))
              | inr before ↦
                  let within = covers.due number low before is in
                  (omega (arith, within.0, here), omega (arith, before, ends))
            ];
      }
]

-- ---- looks

-- a look at a stretch that has all zones that are due
pub due-covered : (geometry : Geometry) (old new : List Zone) (before after : List SeenZone) (first count from some : ℕ) → CoversDue before first count from some
    → WereSeen from some geometry old before after new → DueWereSeen first count geometry old before after new
due-covered geometry old new before after first count from some covers were = record {
  length_is = were.length_is;
  others = λ number outside. were.others number (outer number outside);
  looked = λ number low high due. let within = covers.due number low high due in were.looked number within.0 within.1;
}
  where
    outer : (number : ℕ) → (number < first) ⊎ (first + count ≤ number) → (number < from) ⊎ (from + some ≤ number)
    outer number (inl low) = inl (omega (arith, low, covers.low))
    outer number (inr high) = inr (omega (arith, high, covers.high))

pub covered-ok : (geometry : Geometry) (old new : List Zone) (before after : List SeenZone) (first count from some : ℕ) (result : Result (Unit {0}) Halt)
    → CoversDue before first count from some → OnOk result (WereSeen from some geometry old before after new) → OnOk result (DueWereSeen first count geometry old before after new)
covered-ok geometry old new before after first count from some (Ok done) covers were = due-covered geometry old new before after first count from some covers were
covered-ok geometry old new before after first count from some (Err halt) covers were = tt

-- no zone is due
pub due-none : (geometry : Geometry) (zones : List Zone) (seen : List SeenZone) (first count from some : ℕ) → CoversDue seen first count from some → some ≡ 0
    → DueWereSeen first count geometry zones seen seen zones
due-none geometry zones seen first count from some covers none = record {
  length_is = refl;
  others = λ number outside. refl;
  looked = λ number low high due. let within = covers.due number low high due in absurd (omega (arith, within.0, within.1, none));
}

-- nothing was looked at yet
pub due-begin : (geometry : Geometry) (zones : List Zone) (seen : List SeenZone) → DueWereSeen 0 0 geometry zones seen seen zones
due-begin geometry zones seen = record {
  length_is = refl;
  others = λ number outside. refl;
  looked = λ number low high due. absurd (omega (arith, high));
}

looked-later : (geometry : Geometry) (number : ℕ) (a b c : Zone) (row : SeenZone) → LookedLike geometry number b row c → ClosesOne a b → LookedLike geometry number a row c
looked-later geometry number a b c row looked one = record { zone = looked.zone; before = closes-then _ _ _ one looked.before; like = looked.like; after = looked.after }

looked-earlier : (geometry : Geometry) (number : ℕ) (a b c : Zone) (row : SeenZone) → LookedLike geometry number a row b → ClosesOne b c → LookedLike geometry number a row c
looked-earlier geometry number a b c row looked one = record { zone = looked.zone; before = looked.before; like = looked.like; after = closes-then _ _ _ looked.after one }

-- zones that were looked at, and then those after them
pub due-then : (geometry : Geometry) (old middle new : List Zone) (before between after : List SeenZone) (first count : ℕ) → DueWereSeen 0 first geometry old before between middle
    → IsClosing old middle → DueWereSeen first count geometry middle between after new → IsClosing middle new → DueWereSeen 0 (first + count) geometry old before after new
due-then geometry old middle new before between after first count done closed next closing = record {
  length_is = next.length_is ∙ done.length_is;
  others = λ number outside. next.others number (inr (past number outside)) ∙ done.others number (inr (far number outside));
  looked = λ number low high due. elim (leb_tells first number) [
    | inl here ↦
        let still : is_due (seen_at between number) ≡ true = ap is_due (done.others number (inr (omega (arith, here.1)))) ∙ due in
        looked-later geometry number _ _ _ _ (next.looked number here.1 (omega (arith, high)) still) (zone_at-closing old middle number closed)
    | inr earlier ↦ rw (next.others number (inl earlier.1))
        (looked-earlier geometry number _ _ _ _ (done.looked number low (omega (arith, earlier.1)) due) (zone_at-closing middle new number closing))
  ];
}
  where
    past : (number : ℕ) → (number < 0) ⊎ (0 + (first + count) ≤ number) → first + count ≤ number
    past number (inl low) = absurd (omega (arith, low))
    past number (inr high) = omega (arith, high)

    far : (number : ℕ) → (number < 0) ⊎ (0 + (first + count) ≤ number) → 0 + first ≤ number
    far number (inl low) = absurd (omega (arith, low))
    far number (inr high) = omega (arith, high)

-- ---- a Flush

-- no zone counts as changed, and what was seen is true as before
pub ready-settled : (geometry shape : Geometry) (zones : List Zone) (before after : List SeenZone) → IsReady geometry shape zones before → AreSettled before after
    → IsReady geometry shape zones after
ready-settled geometry shape zones before after ready are = record {
  leads = ready.leads;
  are = record {
    count = are.length_is ∙ ready.are.count;
    each = λ number low.
        let is = ready.are.each number low in
        rw (are.each number) (record { state = is.state; written = is.written; known = is.known });
  };
}

-- what is looked at after a Flush
pub flush-looked : (geometry : Geometry) (old middle new : List Zone) (before between after : List SeenZone) → IsClosing old middle
    → DueWereSeen 0 geometry.zones geometry middle before between new → AreSettled between after → FlushLooked geometry old before after new
flush-looked geometry old middle new before between after closing were are = record {
  looked = λ number low due.
      let looked = were.looked number (omega arith) (omega (arith, low)) due in
      rw (are.each number) (record {
        zone = looked.zone;
        before = closes-then _ _ _ (zone_at-closing old middle number closing) looked.before;
        like = looked.like;
        after = looked.after;
      });
  unchanged = λ number. ap (λ (row : SeenZone). row.changed) (are.each number);
}

-- ---- settling

-- the first zones do not count as changed any more
pub record SettledTo (count : ℕ) (old new : List SeenZone) : Type 0 where
  pub length_is : length new ≡ length old
  pub done : (number : ℕ) → number < count → seen_at new number ≡ settled (seen_at old number)
  pub left : (number : ℕ) → count ≤ number → seen_at new number ≡ seen_at old number

pub settled-begin : (seen : List SeenZone) → SettledTo 0 seen seen
settled-begin seen = record { length_is = refl; done = λ number low. absurd (omega (arith, low)); left = λ number low. refl }

pub settled-more : (count : ℕ) (old middle : List SeenZone) → SettledTo count old middle → count < length middle
    → SettledTo (count + 1) old (slice_set middle count (settled (seen_at middle count)))
settled-more count old middle to low = record {
  length_is = length-set middle count _ ∙ to.length_is;
  done = λ number below.
      let few : number ≤ count = omega (arith, below) in
      elim (eq-or-lt_of_le few) [
        | inl same ↦ rw same (get_or-set_same middle count _ no_zone low ∙ ap settled (to.left count (omega arith)))
        | inr before ↦ get_or-set_other middle count number _ no_zone (λ e. absurd (omega (arith, e, before))) ∙ to.done number before
      ];
  left = λ number high. get_or-set_other middle count number _ no_zone (λ e. absurd (omega (arith, e, high))) ∙ to.left number (omega (arith, high));
}

-- a number past the end is of no zone, which is not changed
seen-past : (seen : List SeenZone) (number : ℕ) → length seen ≤ number → seen_at seen number ≡ no_zone
seen-past seen number past = get_or_past seen number no_zone past

pub settled-all : (count : ℕ) (old new : List SeenZone) → SettledTo count old new → length old ≤ count → AreSettled old new
settled-all count old new to all = record {
  length_is = to.length_is;
  each = λ number. elim (leb_tells count number) [
    | inl past ↦ to.left number past.1 ∙ nothing number past.1
    | inr low ↦ to.done number (omega (arith, low.1))
  ];
}
  where
    nothing : (number : ℕ) → count ≤ number → seen_at old number ≡ settled (seen_at old number)
    nothing number past = let e = seen-past old number (omega (arith, all, past)) in rw e refl
