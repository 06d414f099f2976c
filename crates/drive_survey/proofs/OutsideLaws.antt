-- The records outside a zone, and the newest of them.
use Rattle.std.proofs.Common.{◌≡◌, ◌≢◌, ◌⊎◌, inl, inr, ℕ, zero, suc, ◌+◌, ◌<◌, ◌≤◌, not, Bool, true, false, cond, eqb, ltb, List, [], ◌∷◌, ◌++◌, Option, Some, None, refl, sym, ap, subst, ◌∙◌, arith}
use Rattle.std.specs.List.{AllByRecursion, filter}
use Rattle.std.proofs.lemmas.Bool.{eq-eqb, le-ltb, ltb-false, ltb-true, ne_eqb}
use Rattle.batch_log.specs.Log.{Batch}
use Rattle.drive_array.specs.Records.{Record, log_records, newer, newest, records, without}
use Rattle.drive_array.proofs.AllLaws.{all-append, all-weaker}
use Rattle.drive_array.proofs.DeadLaws.{log-zone}

-- ---- records outside a zone

-- whether a record is in another zone
abbrev pub is_outside : ℕ → Record → Bool
is_outside zone r = not (eqb r.zone zone)

-- the records that are in other zones
abbrev pub outside : ℕ → List Record → List Record
outside zone rs = filter (is_outside zone) rs

outside-append : (zone : ℕ) (xs ys : List Record) → outside zone (xs ++ ys) ≡ outside zone xs ++ outside zone ys
outside-append zone [] ys = refl
outside-append zone (x ∷ xs) ys = rw (outside-append zone xs ys) (at (is_outside zone x))
  where
    at : (b : Bool) → cond b (x ∷ (outside zone xs ++ outside zone ys)) (outside zone xs ++ outside zone ys) ≡ cond b (x ∷ outside zone xs) (outside zone xs) ++ outside zone ys
    at true = refl
    at false = refl

outside-none : (zone : ℕ) (rs : List Record) → AllByRecursion (λ (r : Record). r.zone ≡ zone) rs → outside zone rs ≡ []
outside-none zone [] all = refl
outside-none zone (r ∷ rs) all = rw (eq-eqb r.zone zone all.0) (outside-none zone rs all.1)

outside-all : (zone : ℕ) (rs : List Record) → AllByRecursion (λ (r : Record). zone < r.zone) rs → outside zone rs ≡ rs
outside-all zone [] all = refl
outside-all zone (r ∷ rs) all = rw (ne_eqb r.zone zone (λ e. omega (arith, all.0, e))) (ap (λ (xs : List Record). r ∷ xs) (outside-all zone rs all.1))

-- the records of the logs from a zone on are in no zone below it
pub records-from : (least first : ℕ) (logs : List (List Batch)) → least ≤ first → AllByRecursion (λ (r : Record). least ≤ r.zone) (records first logs)
records-from least first [] le = tt
records-from least first (log ∷ logs) le =
    all-append (λ (r : Record). least ≤ r.zone) (log_records first 0 log) (records (suc first) logs)
    (all-weaker (λ (r : Record). r.zone ≡ first) (λ (r : Record). least ≤ r.zone) (log_records first 0 log) (λ r e. omega (arith, e, le)) (log-zone first 0 log))
    (records-from least (suc first) logs (omega (arith, le)))

-- those of all logs but a zone's
pub outside-is : (first index zone : ℕ) (logs : List (List Batch)) → zone ≡ first + index → outside zone (records first logs) ≡ records first (without logs index)
outside-is first index zone [] e = refl
outside-is first zero zone (log ∷ logs) e =
    let same : zone ≡ first = omega (arith, e) in
    outside-append zone (log_records first 0 log) (records (suc first) logs)
    ∙ ap (λ (xs : List Record). xs ++ outside zone (records (suc first) logs)) (outside-none zone (log_records first 0 log) (rw same (log-zone first 0 log)))
    ∙ outside-all zone (records (suc first) logs) (all-weaker (λ (r : Record). suc first ≤ r.zone) (λ (r : Record). zone < r.zone) (records (suc first) logs) (λ r le. omega (arith, le, same)) (records-from (suc first) (suc first) logs (omega arith)))
outside-is first (suc index) zone (log ∷ logs) e =
    outside-append zone (log_records first 0 log) (records (suc first) logs)
    ∙ ap (λ (xs : List Record). xs ++ outside zone (records (suc first) logs)) (kept (log_records first 0 log) (log-zone first 0 log))
    ∙ ap (λ (xs : List Record). log_records first 0 log ++ xs) (outside-is (suc first) index zone logs (omega (arith, e)))
  where
    kept : (rs : List Record) → AllByRecursion (λ (r : Record). r.zone ≡ first) rs → outside zone rs ≡ rs
    kept [] all = refl
    kept (r ∷ rs) all = rw (ne_eqb r.zone zone (λ same. omega (arith, all.0, e, same))) (ap (λ (xs : List Record). r ∷ xs) (kept rs all.1))

-- ---- the newest of fewer records is no later

abbrev NoLater : Option Record → Option Record → Type 0
NoLater None y = Unit {0}
NoLater (Some x) None = ⊥
NoLater (Some x) (Some y) = x.sequence ≤ y.sequence

later-both : (x a b : Option Record) → NoLater a b → NoLater (newer x a) (newer x b)
later-both None a b h = h
later-both (Some x) None None h = omega arith
later-both (Some x) None (Some b) h = by (ltb x.sequence b.sequence) refl
  where
    by : (t : Bool) → ltb x.sequence b.sequence ≡ t → NoLater (Some x) (cond t (Some b) (Some x))
    by true e = let lt = ltb-true x.sequence b.sequence e in omega (arith, lt)
    by false e = omega arith
later-both (Some x) (Some a) None h = absurd h
later-both (Some x) (Some a) (Some b) h = by (ltb x.sequence a.sequence) (ltb x.sequence b.sequence) refl refl
  where
    by : (s t : Bool) → ltb x.sequence a.sequence ≡ s → ltb x.sequence b.sequence ≡ t → NoLater (cond s (Some a) (Some x)) (cond t (Some b) (Some x))
    by true true e f = h
    by true false e f = let lt = ltb-true x.sequence a.sequence e in let ge = ltb-false x.sequence b.sequence f in omega (arith, lt, ge, h)
    by false true e f = let lt = ltb-true x.sequence b.sequence f in omega (arith, lt)
    by false false e f = omega arith

later-one : (x a b : Option Record) → NoLater a b → NoLater a (newer x b)
later-one None a b h = h
later-one (Some x) None b h = tt
later-one (Some x) (Some a) None h = absurd h
later-one (Some x) (Some a) (Some b) h = by (ltb x.sequence b.sequence) refl
  where
    by : (t : Bool) → ltb x.sequence b.sequence ≡ t → NoLater (Some a) (cond t (Some b) (Some x))
    by true e = h
    by false e = let ge = ltb-false x.sequence b.sequence e in omega (arith, ge, h)

later-cond : (t : Bool) (block : ℕ) (r : Record) (rs : List Record) (fewer : List Record) → NoLater (newest block fewer) (newest block rs) → NoLater (newest block (cond t (r ∷ fewer) fewer)) (newest block (r ∷ rs))
later-cond true block r rs fewer h = later-both (cond (eqb r.block block) (Some r) None) (newest block fewer) (newest block rs) h
later-cond false block r rs fewer h = later-one (cond (eqb r.block block) (Some r) None) (newest block fewer) (newest block rs) h

fewer-later : (block zone : ℕ) (rs : List Record) → NoLater (newest block (outside zone rs)) (newest block rs)
fewer-later block zone [] = tt
fewer-later block zone (r ∷ rs) = later-cond (is_outside zone r) block r rs (outside zone rs) (fewer-later block zone rs)

-- a block with no record has none outside a zone either
pub none-outside : (block zone : ℕ) (rs : List Record) → newest block rs ≡ None → newest block (outside zone rs) ≡ None
none-outside block zone rs e = by (newest block (outside zone rs)) (rw e at (fewer-later block zone rs))
  where
    by : (x : Option Record) → NoLater x None → x ≡ None
    by None h = refl
    by (Some x) h = absurd h

outside-true : (zone : ℕ) (r : Record) → r.zone ≢ zone → is_outside zone r ≡ true
outside-true zone r apart = rw (ne_eqb r.zone zone apart) refl

-- the first of some records stays the newest
stays-first : (r : Record) (y z : Option Record) → NoLater z y → newer (Some r) y ≡ Some r → newer (Some r) z ≡ Some r
stays-first r None None h e = refl
stays-first r None (Some z) h e = absurd h
stays-first r (Some y) None h e = refl
stays-first r (Some y) (Some z) h e = by (ltb r.sequence y.sequence) refl e
  where
    by : (t : Bool) → ltb r.sequence y.sequence ≡ t → cond t (Some y) (Some r) ≡ Some r → newer (Some r) (Some z) ≡ Some r
    by true lt same =
        let one : y ≡ r = cc in
        let bad = ltb-true r.sequence y.sequence lt in
        let equal : y.sequence ≡ r.sequence = ap (λ (x : Record). x.sequence) one in
        absurd (omega (arith, bad, equal))
    by false ge same = let le = ltb-false r.sequence y.sequence ge in rw (le-ltb r.sequence z.sequence (omega (arith, le, h))) refl

-- a later one stays the newest, with the first record or without it
stays-later : (r : Record) (y z : Option Record) (b : Record) → newer (Some r) y ≡ Some b → (b ≡ r) ⊎ ((y ≡ Some b) × (newer (Some r) (Some b) ≡ Some b))
stays-later r None z b e = let same : r ≡ b = cc in inl (sym same)
stays-later r (Some y) z b e = by (ltb r.sequence y.sequence) refl e
  where
    by : (t : Bool) → ltb r.sequence y.sequence ≡ t → cond t (Some y) (Some r) ≡ Some b → (b ≡ r) ⊎ ((Some y ≡ Some b) × (newer (Some r) (Some b) ≡ Some b))
    by true lt same = let one : y ≡ b = cc in inr (same, subst (λ (x : Record). newer (Some r) (Some x) ≡ Some x) one (rw lt refl))
    by false ge same = let one : r ≡ b = cc in inl (sym one)

stays-step : (zone block : ℕ) (r b : Record) (rs fewer : List Record) (m : Bool) → eqb r.block block ≡ m → NoLater (newest block fewer) (newest block rs) → (newest block rs ≡ Some b → newest block fewer ≡ Some b)
    → newer (cond m (Some r) None) (newest block rs) ≡ Some b → b.zone ≢ zone → newest block (cond (is_outside zone r) (r ∷ fewer) fewer) ≡ Some b
stays-step zone block r b rs fewer false other no_later rest e apart = by (is_outside zone r)
  where
    by : (t : Bool) → newest block (cond t (r ∷ fewer) fewer) ≡ Some b
    by true = rw other (rest e)
    by false = rest e
stays-step zone block r b rs fewer true same no_later rest e apart = by (stays-later r (newest block rs) (newest block fewer) b e)
  where
    kept : (t : Bool) → newest block rs ≡ Some b → newer (Some r) (Some b) ≡ Some b → newest block (cond t (r ∷ fewer) fewer) ≡ Some b
    kept true there stays = rw (same, rest there) stays
    kept false there stays = rest there

    by : (b ≡ r) ⊎ ((newest block rs ≡ Some b) × (newer (Some r) (Some b) ≡ Some b)) → newest block (cond (is_outside zone r) (r ∷ fewer) fewer) ≡ Some b
    by (inl one) =
        let first : newer (Some r) (newest block rs) ≡ Some r = e ∙ ap (λ (x : Record). Some x) one in
        rw (outside-true zone r (λ bad. apart (ap (λ (x : Record). x.zone) one ∙ bad)), same) (stays-first r (newest block rs) (newest block fewer) no_later first ∙ ap (λ (x : Record). Some x) (sym one))
    by (inr both) = kept (is_outside zone r) both.0 both.1

-- a newest record stays so without another zone
pub stays-outside : (block zone : ℕ) (rs : List Record) (b : Record) → newest block rs ≡ Some b → b.zone ≢ zone → newest block (outside zone rs) ≡ Some b
stays-outside block zone [] b is apart = absurd (cc)
stays-outside block zone (r ∷ rs) b is apart =
    stays-step zone block r b rs (outside zone rs) (eqb r.block block) refl (fewer-later block zone rs) (λ there. stays-outside block zone rs b there apart) is apart
