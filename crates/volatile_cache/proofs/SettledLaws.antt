-- A block that was made durable stays so while nothing writes it: of every store.
use Rattle.std.proofs.Common.{◌≡◌, ℕ, zero, suc, ◌+◌, ◌<◌, ◌≤◌, List, [], ◌∷◌, length, get_or, take, Option, Some, None, Ok, Err, refl, sym, ap, inl, inr, ◌∙◌, arith}
use Rattle.std.specs.Prelude.{◌⊎◌, Contains, MatchOption, Result}
use Rattle.std.proofs.lemmas.List.{length-take-le}
use Rattle.zone_translator.specs.Flat.{Answer, Begun, Call, FlatDisk, IsFront, flush, grow, idle, known_answer, read, replaced, report, with_nothing, write, write_list}
use Rattle.zone_translator.specs.View.{disk_array}
use Rattle.zone_translator.specs.declared.fault.DiskFault.{DiskFault}
use Rattle.nbd_session.specs.Pending.{AreApart, Pending, pieces}
use Rattle.nbd_session.specs.Store.{Calls, Hardens, IsOfCall, IsPart, KeepsBySync, StoreView, store_array, store_flat}
use Rattle.nbd_session.proofs.PendingLaws.{all-apart, some-apart}
use Rattle.volatile_cache.specs.Laws.{IsSettled}

-- a call does not write a block; none of these is a list or a growth
abbrev pub IsElsewhere : ℕ → Call → Type 0
IsElsewhere place (write first blocks) = (place < first) ⊎ (first + length blocks ≤ place)
IsElsewhere place (write_list puts) = ⊥
IsElsewhere place (grow size) = ⊥
IsElsewhere place call = Unit {0}

-- ---- pending blocks

in-apart : (ws : List Pending) (w : Pending) (first n : ℕ) → AreApart first n ws → Contains ws w → (w.place < first) ⊎ (first + n ≤ w.place)
in-apart [] w first n apart (k, few, same) = absurd (omega (arith, few))
in-apart (x ∷ xs) w first n apart (zero, few, same) = rw (← same) apart.0
in-apart (x ∷ xs) w first n apart (suc k, few, same) = in-apart xs w first n apart.1 (k, omega (arith, few), same)

apart-all : (ws : List Pending) (first n : ℕ) → ((w : Pending) → Contains ws w → (w.place < first) ⊎ (first + n ≤ w.place)) → AreApart first n ws
apart-all [] first n each = tt
apart-all (x ∷ xs) first n each = (each x (zero, omega arith, refl), apart-all xs first n (λ w found. each w (suc found.0, omega (arith, found.1), found.2)))

pub apart-less : (old new : List Pending) (place : ℕ) → ((w : Pending) → Contains new w → Contains old w) → AreApart place 1 old → AreApart place 1 new
apart-less old new place less apart = apart-all new place 1 (λ w found. in-apart old w place 1 apart (less w found))

piece-place : (first : ℕ) (blocks : List (List ℕ)) (w : Pending) → Contains (pieces first blocks) w → (first ≤ w.place) × (w.place < first + length blocks)
piece-place first [] w (k, few, same) = absurd (omega (arith, few))
piece-place first (b ∷ bs) w (zero, few, same) = let at : first ≡ w.place = ap (λ (w : Pending). w.place) same in (omega (arith, at), omega (arith, at))
piece-place first (b ∷ bs) w (suc k, few, same) = let rest = piece-place (suc first) bs w (k, omega (arith, few), same) in (omega (arith, rest.0), omega (arith, rest.1))

piece-apart : (place first : ℕ) (blocks : List (List ℕ)) (w : Pending) → (place < first) ⊎ (first + length blocks ≤ place) → Contains (pieces first blocks) w → (w.place < place) ⊎ (place + 1 ≤ w.place)
piece-apart place first blocks w (inl less) found = inr (omega (arith, less, (piece-place first blocks w found).0))
piece-apart place first blocks w (inr more) found = inl (omega (arith, more, (piece-place first blocks w found).1))

-- ---- arrays

replaced-elsewhere : (old : List (List ℕ)) (first : ℕ) (blocks : List (List ℕ)) (place : ℕ) → (place < first) ⊎ (first + length blocks ≤ place) → get_or (replaced old first blocks) place [] ≡ get_or old place []
replaced-elsewhere [] first blocks place far = refl
replaced-elsewhere (x ∷ xs) (suc first) blocks zero far = refl
replaced-elsewhere (x ∷ xs) (suc first) blocks (suc place) (inl less) = replaced-elsewhere xs first blocks place (inl (omega (arith, less)))
replaced-elsewhere (x ∷ xs) (suc first) blocks (suc place) (inr more) = replaced-elsewhere xs first blocks place (inr (omega (arith, more)))
replaced-elsewhere (x ∷ xs) zero [] place far = refl
replaced-elsewhere (x ∷ xs) zero (y ∷ ys) place (inl less) = absurd (omega (arith, less))
replaced-elsewhere (x ∷ xs) zero (y ∷ ys) zero (inr more) = absurd (omega (arith, more))
replaced-elsewhere (x ∷ xs) zero (y ∷ ys) (suc place) (inr more) = replaced-elsewhere xs zero ys place (inr (omega (arith, more)))

front-elsewhere : (old : List (List ℕ)) (first : ℕ) (blocks new : List (List ℕ)) (place : ℕ) → (place < first) ⊎ (first + length blocks ≤ place) → IsFront old first blocks new → get_or new place [] ≡ get_or old place []
front-elsewhere old first blocks new place far front =
    rw front.written (replaced-elsewhere old first (take front.done blocks) place (shorter far))
  where
    shorter : (place < first) ⊎ (first + length blocks ≤ place) → (place < first) ⊎ (first + length (take front.done blocks) ≤ place)
    shorter (inl less) = inl less
    shorter (inr more) = inr (omega (arith, more, length-take-le front.done blocks))

part-elsewhere : (call : Call) (old new : List (List ℕ)) (place : ℕ) → IsElsewhere place call → IsPart call old new → get_or new place [] ≡ get_or old place []
part-elsewhere (write first blocks) old new place far torn =
    elim (torn.either place) [
      | inl same ↦ same
      | inr done ↦ done ∙ replaced-elsewhere old first blocks place far
    ]
part-elsewhere (read first n) old new place far part = ap (λ (a : List (List ℕ)). get_or a place []) part
part-elsewhere (write_list puts) old new place far part = absurd far
part-elsewhere (grow size) old new place far part = absurd far
part-elsewhere flush old new place far part = ap (λ (a : List (List ℕ)). get_or a place []) part
part-elsewhere idle old new place far part = ap (λ (a : List (List ℕ)). get_or a place []) part
part-elsewhere report old new place far part = ap (λ (a : List (List ℕ)). get_or a place []) part

-- the array after a call has the block still
at-place : (old new : FlatDisk) (place : ℕ) → new ≡ old → get_or new.array place [] ≡ get_or old.array place []
at-place old new place same = ap (λ (d : FlatDisk). get_or d.array place []) same

begun-elsewhere : (call : Call) (old : FlatDisk) (result : Result (Unit {0}) DiskFault) (shown : List (List ℕ)) (new : FlatDisk) (place : ℕ) → IsElsewhere place call → Begun old call result shown new → get_or new.array place [] ≡ get_or old.array place []
begun-elsewhere (write first blocks) old (Ok done) shown new place far b = ap (λ (d : FlatDisk). get_or d.array place []) b.1 ∙ replaced-elsewhere old.array first blocks place far
begun-elsewhere (write first blocks) old (Err fault) shown new place far b = front-elsewhere old.array first blocks new.array place far b.2
begun-elsewhere (read first n) old (Ok done) shown new place far b = at-place old new place b.1
begun-elsewhere (read first n) old (Err fault) shown new place far b = ap (λ (a : List (List ℕ)). get_or a place []) b.2
begun-elsewhere (write_list puts) old result shown new place far b = absurd far
begun-elsewhere (grow size) old result shown new place far b = absurd far
begun-elsewhere flush old (Ok done) shown new place far b = at-place old new place b.1
begun-elsewhere flush old (Err fault) shown new place far b = ap (λ (a : List (List ℕ)). get_or a place []) b.2
begun-elsewhere idle old (Ok done) shown new place far b = at-place old new place b.1
begun-elsewhere idle old (Err fault) shown new place far b = ap (λ (a : List (List ℕ)). get_or a place []) b.2
begun-elsewhere report old (Ok done) shown new place far b = at-place old new place b.1
begun-elsewhere report old (Err fault) shown new place far b = ap (λ (a : List (List ℕ)). get_or a place []) b.2

flat-elsewhere : (known : Option (Result (Unit {0}) DiskFault)) (call : Call) (old : FlatDisk) (answer : Answer) (new : FlatDisk) (place : ℕ) → IsElsewhere place call
    → MatchOption known (Begun old call answer.result answer.shown new) (λ r. (answer ≡ with_nothing r) × (new ≡ old)) → get_or new.array place [] ≡ get_or old.array place []
flat-elsewhere None call old answer new place far b = begun-elsewhere call old answer.result answer.shown new place far b
flat-elsewhere (Some r) call old answer new place far b = at-place old new place b.1

-- ---- calls and syncs

only-before : (w : Pending) (place : ℕ) (old : StoreView) → AreApart place 1 old.pending → Contains old.pending w ⊎ ⊥ → (w.place < place) ⊎ (place + 1 ≤ w.place)
only-before w place old apart (inl before) = in-apart old.pending w place 1 apart before
only-before w place old apart (inr never) = absurd never

of-call-apart : (call : Call) (w : Pending) (place : ℕ) (old new : StoreView) → IsElsewhere place call → (Contains new.pending w → Contains old.pending w ⊎ IsOfCall call w) → AreApart place 1 old.pending → Contains new.pending w
    → (w.place < place) ⊎ (place + 1 ≤ w.place)
of-call-apart (write first blocks) w place old new far from apart found =
    elim (from found) [
      | inl before ↦ in-apart old.pending w place 1 apart before
      | inr mine ↦ piece-apart place first blocks w far mine
    ]
of-call-apart (read first n) w place old new far from apart found = only-before w place old apart (from found)
of-call-apart (write_list puts) w place old new far from apart found = absurd far
of-call-apart (grow size) w place old new far from apart found = absurd far
of-call-apart flush w place old new far from apart found = only-before w place old apart (from found)
of-call-apart idle w place old new far from apart found = only-before w place old apart (from found)
of-call-apart report w place old new far from apart found = only-before w place old apart (from found)

-- a call that does not write the block leaves it as it was
pub call-settled : (old new : StoreView) (call : Call) (answer : Answer) (place : ℕ) (block : List ℕ) → Calls old call answer new → IsElsewhere place call → IsSettled place block old → IsSettled place block new
call-settled old new call answer place block c far settled = record {
  apart = apart-all new.pending place 1 (λ w found. of-call-apart call w place old new far (c.pending w) settled.apart found);
  serves = flat-elsewhere (known_answer (store_flat old) call) call (store_flat old) answer (store_flat new) place far c.flat ∙ settled.serves;
  left = λ left found.
      (let from = c.since left found in
      part-elsewhere call from.before left place far from.part ∙ settled.left from.before from.was);
}

-- and so does a sync, done or not
pub kept-settled : (old new : StoreView) (place : ℕ) (block : List ℕ) → KeepsBySync old new → IsSettled place block old → IsSettled place block new
kept-settled old new place block k settled = record {
  apart = apart;
  serves = serves;
  left = λ left found. elim (k.since left found) [
    | inl before ↦ settled.left left before
    | inr some ↦ some-apart new.pending (disk_array new.disk) left place 1 some apart place (omega arith) (omega arith)
        ∙ sym (all-apart new.pending (disk_array new.disk) place 1 apart place (omega arith) (omega arith)) ∙ serves
  ];
} where
  apart : AreApart place 1 new.pending
  apart = apart-all new.pending place 1 (λ w found. in-apart old.pending w place 1 settled.apart (k.pending w found))

  serves : get_or (store_array new) place [] ≡ block
  serves = ap (λ (a : List (List ℕ)). get_or a place []) k.array ∙ settled.serves

-- what was forced is settled
pub forced-settled : (old new : StoreView) (first n place : ℕ) → Hardens (AreApart first n) old new → first ≤ place → place < first + n → IsSettled place (get_or (store_array new) place []) new
forced-settled old new first n place h from below = record {
  apart = apart-all new.pending place 1 (λ w found. elim (in-apart new.pending w first n h.done found) [ inl less ↦ inl (omega (arith, less, from)) | inr more ↦ inr (omega (arith, more, below)) ]);
  serves = refl;
  left = λ left found.
      some-apart new.pending (disk_array new.disk) left first n (h.since left found) h.done place from below
      ∙ sym (all-apart new.pending (disk_array new.disk) first n h.done place from below);
}
