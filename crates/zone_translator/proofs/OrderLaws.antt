-- A list of blocks, and its blocks written one by one in any order.
use Rattle.std.proofs.Common.{◌≡◌, ◌≢◌, ◌⊎◌, ◌∙◌, ℕ, zero, suc, ◌+◌, ◌<◌, Bool, true, false, eqb, nat_lt, if◌then◌else◌, List, [], ◌∷◌, map, length, set, get_or, Option, Some, None, Ok, Err, refl, sym, ap, subst, inl, inr, arith}
use Rattle.std.specs.Prelude.{Contains, IsPermutation, MatchOption, Result, nat_eq}
use Rattle.std.specs.List.{AllByRecursion, IsDistinct, list_all}
use Rattle.std.proofs.lemmas.Bool.{eq-eqb, eqb-true}
use Rattle.std.proofs.lemmas.Bool.Decides.{nat_tests}
use Rattle.std.proofs.lemmas.List.{ext_get_or, get_or-set_other, get_or-set_same, length-set}
use Rattle.std.proofs.lemmas.List.Sorted.{Contains-permutation, IsPermutation-map, IsPermutation-sym}
use Rattle.std.proofs.lemmas.Map.Keys.{IsDistinct-IsPermutation}
use Rattle.zone_translator.specs.declared.fault.DiskFault.{DiskFault}
use Rattle.zone_translator.specs.declared.fault.DiskFault.TheVariants.{OutOfRange}
use Rattle.zone_translator.specs.declared.status.DiskStatus.{DiskStatus}
use Rattle.zone_translator.specs.declared.status.DiskStatus.TheVariants.{Serving, Stopped, Unmounted}
use Rattle.zone_translator.specs.Flat.{Answer, Begun, Call, FlatCall, FlatDisk, Put, answer_while, disk_after, put_all, replaced, with_nothing, write, write_list}
use Rattle.zone_translator.specs.Laws.{AllSteps, FlatStep, ListIsItsWrites, written_alone}
use Rattle.zone_translator.proofs.FlatLaws.{replaced-none}

-- ---- what a list leaves in each place

-- none of the blocks of a list is this one
abbrev IsApart : ℕ → List Put → Type 0
IsApart k ps = AllByRecursion (λ y. eqb k y ≡ false) (map (λ (p : Put). p.block) ps)

length-put : (ps : List Put) (array : List (List ℕ)) → length (put_all array ps) ≡ length array
length-put [] array = refl
length-put (p ∷ ps) array = length-put ps (set array p.block p.content) ∙ length-set array p.block p.content

put-elsewhere : (ps : List Put) (array : List (List ℕ)) (k : ℕ) → IsApart k ps → get_or (put_all array ps) k [] ≡ get_or array k []
put-elsewhere [] array k far = refl
put-elsewhere (p ∷ ps) array k far = put-elsewhere ps (set array p.block p.content) k far.1 ∙ get_or-set_other array p.block k p.content [] ne
  where
    ne : k ≢ p.block
    ne same = let no : false ≡ true = sym far.0 ∙ eq-eqb k p.block same in absurd (cc)

put-there : (ps : List Put) (array : List (List ℕ)) (p : Put) → IsDistinct nat_eq (map (λ (q : Put). q.block) ps) → Contains ps p → p.block < length array → get_or (put_all array ps) p.block [] ≡ p.content
unfolding IsDistinct
put-there [] array p distinct (k, few, same) lt = absurd (omega (arith, few))
put-there (q ∷ ps) array p distinct (zero, few, same) lt =
    let inside : q.block < length array = rw same lt in
    subst (λ (x : Put). get_or (put_all (set array q.block q.content) ps) x.block [] ≡ x.content) same
    (put-elsewhere ps (set array q.block q.content) q.block distinct.0 ∙ get_or-set_same array q.block q.content [] inside)
put-there (q ∷ ps) array p distinct (suc k, few, same) lt = put-there ps (set array q.block q.content) p distinct.1 (k, omega (arith, few), same) (omega (arith, lt, length-set array q.block q.content))

-- a block is named by a list, or it is not
named-or-not : (k : ℕ) (ps : List Put) → ((p : Put) × Contains ps p × (p.block ≡ k)) ⊎ IsApart k ps
named-or-not k [] = inr tt
named-or-not k (p ∷ ps) = by (eqb k p.block) refl (named-or-not k ps)
  where
    by : (same : Bool) → eqb k p.block ≡ same → ((q : Put) × Contains ps q × (q.block ≡ k)) ⊎ IsApart k ps → ((q : Put) × Contains (p ∷ ps) q × (q.block ≡ k)) ⊎ IsApart k (p ∷ ps)
    by true is rest = inl (p, (zero, omega arith, refl), sym (eqb-true k p.block is))
    by false is (inl (q, (i, few, at), same)) = inl (q, (suc i, omega (arith, few), at), same)
    by false is (inr none) = inr (is, none)

apart-of : (k : ℕ) (ps : List Put) (p : Put) → IsApart k ps → Contains ps p → p.block ≢ k
apart-of k [] p far (i, few, same) at = absurd (omega (arith, few))
apart-of k (q ∷ ps) p far (zero, few, same) at = let no : false ≡ true = sym far.0 ∙ eq-eqb k q.block (sym (ap (λ (x : Put). x.block) same ∙ at)) in absurd (cc)
apart-of k (q ∷ ps) p far (suc i, few, same) at = apart-of k ps p far.1 (i, omega (arith, few), same) at

-- in another order it leaves the same
any-order : (array : List (List ℕ)) (ps qs : List Put) → IsDistinct nat_eq (map (λ (p : Put). p.block) ps) → IsPermutation ps qs → put_all array ps ≡ put_all array qs
any-order array ps qs distinct shuffled = ext_get_or [] (put_all array ps) (put_all array qs) (length-put ps array ∙ sym (length-put qs array)) each
  where
    flips : (x y : ℕ) → nat_eq x y ≡ nat_eq y x
    flips x y = grind (arith, nat_tests)

    also : IsDistinct nat_eq (map (λ (p : Put). p.block) qs)
    also = IsDistinct-IsPermutation nat_eq flips (map (λ (p : Put). p.block) ps) (map (λ (p : Put). p.block) qs) (IsPermutation-map (λ (p : Put). p.block) ps qs shuffled) distinct

    none-there : (i : ℕ) → IsApart i ps → ((q : Put) × Contains qs q × (q.block ≡ i)) ⊎ IsApart i qs → IsApart i qs
    none-there i none (inl found) = absurd (apart-of i ps found.0 none (Contains-permutation qs ps found.0 (IsPermutation-sym ps qs shuffled) found.1) found.2)
    none-there i none (inr all) = all

    by : (i : ℕ) → i < length array → ((p : Put) × Contains ps p × (p.block ≡ i)) ⊎ IsApart i ps → get_or (put_all array ps) i [] ≡ get_or (put_all array qs) i []
    by i lt (inl (p, found, at)) =
        let inside : p.block < length array = omega (arith, lt, at) in
        subst (λ (k : ℕ). get_or (put_all array ps) k [] ≡ get_or (put_all array qs) k []) at
        (put-there ps array p distinct found inside ∙ sym (put-there qs array p also (Contains-permutation ps qs p shuffled found) inside))
    by i lt (inr none) = put-elsewhere ps array i none ∙ sym (put-elsewhere qs array i (none-there i none (named-or-not i qs)))

    each : (i : ℕ) → i < length (put_all array ps) → get_or (put_all array ps) i [] ≡ get_or (put_all array qs) i []
    each i lt = by i (omega (arith, lt, length-put ps array)) (named-or-not i ps)

-- ---- calls that are done

-- a call of some blocks that is done was not known beforehand
answer-not-done : (status : DiskStatus) → answer_while status ≢ Some (Ok tt)
answer-not-done Serving is = absurd (cc)
answer-not-done Stopped is = absurd (cc)
answer-not-done Unmounted is = absurd (cc)

range-not-done : (past : Bool) (status : DiskStatus) → (if past then Some (Err OutOfRange) else answer_while status) ≢ Some (Ok tt)
range-not-done true status is = absurd (cc)
range-not-done false status is = answer-not-done status is

blocks-not-done : (inside : Bool) (status : DiskStatus) → (if inside then answer_while status else Some (Err OutOfRange)) ≢ Some (Ok tt)
blocks-not-done true status is = answer-not-done status is
blocks-not-done false status is = absurd (cc)

-- so the disk is that after it
begun-done : (known : Option (Result (Unit {0}) DiskFault)) (old new : FlatDisk) (call : Call) → known ≢ Some (Ok tt)
    → MatchOption known (Begun old call (Ok tt) [] new) (λ result. (with_nothing (Ok tt) ≡ with_nothing result) × (new ≡ old)) → new ≡ disk_after old call
begun-done None old new call not begun = begun.1
begun-done (Some (Ok tt)) old new call not known = absurd (not refl)
begun-done (Some (Err fault)) old new call not known = let answers = ap (λ (a : Answer). a.result) known.0 in absurd (cc)

-- one block
set-one : (xs : List (List ℕ)) (b : ℕ) (x : List ℕ) → replaced xs b (x ∷ []) ≡ set xs b x
set-one [] b x = refl
set-one (y ∷ ys) zero x = ap (λ (zs : List (List ℕ)). x ∷ zs) (replaced-none ys zero)
set-one (y ∷ ys) (suc b) x = ap (λ (zs : List (List ℕ)). y ∷ zs) (set-one ys b x)

written-one : (old new : FlatDisk) (p : Put) → FlatCall old (write p.block (p.content ∷ [])) (with_nothing (Ok tt)) new → new ≡ record old { array = set old.array p.block p.content }
written-one old new p call =
    begun-done _ old new (write p.block (p.content ∷ [])) (range-not-done (nat_lt old.size (p.block + 1)) old.status) call
    ∙ ap (λ (a : List (List ℕ)). record old { array = a }) (set-one old.array p.block p.content)

-- all of them, one by one
all-written : (order : List Put) (old last : FlatDisk) → AllSteps FlatStep old (map written_alone order) last → last ≡ record old { array = put_all old.array order }
all-written [] old last same = same
all-written (p ∷ ps) old last all = all-written ps all.0 last all.2 ∙ ap (λ (d : FlatDisk). record d { array = put_all d.array ps }) (written-one old all.0 p all.1)

-- and by one list
list-written : (puts : List Put) (old new : FlatDisk) → FlatCall old (write_list puts) (with_nothing (Ok tt)) new → new ≡ record old { array = put_all old.array puts }
list-written [] old new known = known.1
list-written (p ∷ ps) old new call = begun-done _ old new (write_list (p ∷ ps)) (blocks-not-done (list_all (λ block. nat_lt block old.size) (map (λ (q : Put). q.block) (p ∷ ps))) old.status) call

pub list-is-its-writes : ListIsItsWrites
list-is-its-writes old new last puts order distinct shuffled call all =
    list-written puts old new call
    ∙ ap (λ (a : List (List ℕ)). record old { array = a }) (any-order old.array puts order distinct shuffled)
    ∙ sym (all-written order old last all)
