-- What is found in bytes that begin with a mark, or with what follows one.
use Rattle.std.proofs.Common.{◌≡◌, ℕ, ◌+◌, ◌<◌, ◌≤◌, ltb, Bool, true, false, List, [], ◌∷◌, ◌++◌, length, take, Option, Some, None, Result, Ok, Err, inl, inr, refl, sym, ap, ◌∙◌, subst, append_assoc, arith}
use Rattle.std.specs.Prelude.{IfOk, IfSome, nat_eq}
use Rattle.std.specs.Cmp.Lexicographic.{same_text}
use Rattle.std.specs.Io.KnownBytes.{Consumes, IsAtEnd}
use Rattle.std.specs.List.{starts_with}
use Rattle.std.proofs.KnownBytes.{Consumes-trans}
use Rattle.std.proofs.lemmas.Bool.{ltb-false, ltb-true}
use Rattle.std.proofs.lemmas.List.{append-nil, length-append, length-take, take_all, take_at}
use Rattle.zone_states.specs.declared.geometry.Geometry.{Geometry}
use Rattle.disk_files.proofs.InputLaws.{few-left}
use Rattle.drive_journal.specs.Change.{Change, HasNoChange, IsChange, IsEntry, Sum, change_bytes, data_length, earlier_mark, head_bytes, mark, next_sum, sealed_entry, sum_bytes, sum_over}
use Rattle.drive_journal.specs.Reading.{FindsBody, FindsChange, FindsEnd, IsDamaged, IsOther, IsSealedEntry, ReadsBody}
use Rattle.drive_journal.specs.Tail.{HasHead, IsCutOff, begins_as_mark}
use Rattle.drive_journal.specs.declared.found.Found.{Found}
use Rattle.drive_journal.specs.declared.found.Found.TheVariants as found
use Rattle.drive_journal.proofs.CutLaws.{none-few, one-head}
use Rattle.drive_journal.proofs.SumLaws.{length-sum, same-front}

-- what follows from the fact of a result
pub if-ok : {T E : Type 0} (r : Result T E) (P Q : T → Type 0) → ((x : T) → P x → Q x) → IfOk r P → IfOk r Q
if-ok (Ok x) P Q f p = f x p
if-ok (Err e) P Q f p = tt

-- ---- known bytes

-- what holds of the bytes that were read and those that are left, where these are known
pub read-so : (old new : Option (List ℕ)) (front : List ℕ) (P : List ℕ → Type 0) → Consumes old new front → IfSome new (λ rest. P (front ++ rest)) → IfSome old P
read-so None new front P text p = tt
read-so (Some xs) None front P text p = absurd text
read-so (Some xs) (Some ys) front P text p = subst P (sym text) p

-- what follows of known bytes
pub known-so : (known : Option (List ℕ)) (P Q : List ℕ → Type 0) → ((bytes : List ℕ) → P bytes → Q bytes) → IfSome known P → IfSome known Q
known-so None P Q f p = tt
known-so (Some xs) P Q f p = f xs p

-- ---- bytes that follow a mark

no-bytes : (bytes : List ℕ) → length bytes ≡ 0 → bytes ≡ []
no-bytes [] e = refl
no-bytes (x ∷ xs) e = absurd (omega (arith, e))

-- fewer than a head has are cut off
cut-few : (geometry : Geometry) (sum : Sum) (bytes : List ℕ) → length bytes < 72 → IsCutOff geometry sum (mark ++ bytes)
cut-few geometry sum bytes few =
    let short : length (mark ++ bytes) < 80 = omega (arith, few, length-append mark bytes) in
    record { none = none-few geometry sum (mark ++ bytes) short; begins = refl; short = inl short }

-- the reader ended in the entry
pub ends-in-entry : (geometry : Geometry) (sum : Sum) (old : Option (List ℕ)) (n : ℕ) → n < 64 → IfSome old (λ bytes. length bytes ≡ n) → IfSome old (λ bytes. IsCutOff geometry sum (mark ++ bytes))
ends-in-entry geometry sum old n short left = known-so old (λ bytes. length bytes ≡ n) (λ bytes. IsCutOff geometry sum (mark ++ bytes)) (λ bytes long. cut-few geometry sum bytes (omega (arith, short, long))) left

-- the reader ended in the sum after the entry
pub ends-in-sum : (geometry : Geometry) (sum : Sum) (old mid : Option (List ℕ)) (entry : List ℕ) (n : ℕ) → length entry ≡ 64 → Consumes old mid entry → n < 8 → IfSome mid (λ bytes. length bytes ≡ n)
    → IfSome old (λ bytes. IsCutOff geometry sum (mark ++ bytes))
ends-in-sum geometry sum old mid entry n long text short left =
    read-so old mid entry (λ bytes. IsCutOff geometry sum (mark ++ bytes)) text
    (known-so mid (λ bytes. length bytes ≡ n) (λ rest. IsCutOff geometry sum (mark ++ (entry ++ rest))) (λ rest rest_long. cut-few geometry sum (entry ++ rest) (omega (arith, length-append entry rest, long, short, rest_long))) left)

-- ---- a head

-- Some bytes follow a mark: 64 that may be an entry, 8 that may be its sum, and others.
module _ (geometry : Geometry) (sum : Sum) (entry sealed : List ℕ) (long : length entry ≡ 64) (wide : length sealed ≡ 8) where
  abbrev after-mark : List ℕ → List ℕ
  after-mark rest = mark ++ ((entry ++ sealed) ++ rest)

  -- a head at their front is of this entry
  head-is : (rest : List ℕ) → (head : HasHead geometry sum (after-mark rest)) → (entry ≡ head.entry) × (sealed ≡ sum_bytes (sum_over sum head.entry)) × (rest ≡ head.rest)
  head-is rest head = one-head sum entry sealed head.entry rest head.rest long wide head.is.long head.text

  -- a change at their front has it
  abbrev change-head : (rest after : List ℕ) (change : Change) → IsChange geometry change → after-mark rest ≡ change_bytes sum change ++ after → HasHead geometry sum (after-mark rest)
  change-head rest after change is same = record {
    entry = change.entry;
    rest = (change.bytes ++ sum_bytes (next_sum sum change)) ++ after;
    is = is.entry;
    text = same ∙ append_assoc (head_bytes sum change.entry) (change.bytes ++ sum_bytes (next_sum sum change)) after;
  }

  -- without a head there is no change, nor one that was cut off
  no-head : (rest : List ℕ) → (IsSealedEntry geometry sum entry sealed → ⊥) → IsDamaged geometry sum (after-mark rest)
  no-head rest none = record {
    begins = refl;
    none = λ change after is same. not (change-head rest after change is same);
    not_cut = λ cut. elim cut.short [
      | inl few ↦ absurd (omega (arith, few, length-append mark ((entry ++ sealed) ++ rest), length-append (entry ++ sealed) rest, length-append entry sealed, long, wide))
      | inr within ↦ not within.0
    ];
  }
    where
      not : HasHead geometry sum (after-mark rest) → ⊥
      not head =
          let parts = head-is rest head in
          none (record { is = subst (IsEntry geometry) (sym parts.0) head.is; sum_is = parts.1 ∙ ap (λ (e : List ℕ). sum_bytes (sum_over sum e)) (sym parts.0) })

  -- they have a head
  module _ (is : IsSealedEntry geometry sum entry sealed) where
    abbrev the-head : (rest : List ℕ) → HasHead geometry sum (after-mark rest)
    the-head rest = record { entry = entry; rest = rest; is = is.is; text = ap (λ (l : List ℕ). (mark ++ (entry ++ l)) ++ rest) is.sum_is }

    -- a change at their front has this entry, and its data and sum in what follows
    record Follows (rest after : List ℕ) (change : Change) : Type 0 where
      pub entry_is : entry ≡ change.entry
      pub data_long : length change.bytes ≡ data_length geometry entry
      pub rest_is : rest ≡ change.bytes ++ (sum_bytes (next_sum sum change) ++ after)

    follows : (rest after : List ℕ) (change : Change) → IsChange geometry change → after-mark rest ≡ change_bytes sum change ++ after → Follows rest after change
    follows rest after change of same =
        let parts = head-is rest (change-head rest after change of same) in
        record {
          entry_is = parts.0;
          data_long = of.bytes ∙ ap (λ (e : List ℕ). data_length geometry e) (sym parts.0);
          rest_is = parts.2 ∙ append_assoc change.bytes (sum_bytes (next_sum sum change)) after;
        }

    -- fewer bytes than the data and a sum
    cut-within : (rest : List ℕ) → length rest < data_length geometry entry + 8 → IsCutOff geometry sum (after-mark rest)
    cut-within rest few = record {
      none = λ change after of same.
          let f = follows rest after change of same in
          absurd (omega (arith, few, ap (λ (l : List ℕ). length l) f.rest_is, f.data_long, length-append change.bytes (sum_bytes (next_sum sum change) ++ after), length-append (sum_bytes (next_sum sum change)) after, length-sum (next_sum sum change)));
      begins = refl;
      short = inr (the-head rest, omega (arith, few));
    }

    -- the data, and another sum
    module _ (beside last more : List ℕ) (data_long : length beside ≡ data_length geometry entry) (last_wide : length last ≡ 8) (wrong : last ≡ sum_bytes (sum_over (sum_over sum entry) beside) → ⊥) where
      none-wrong : HasNoChange geometry sum (after-mark (beside ++ (last ++ more)))
      none-wrong change after of same =
          let f = follows (beside ++ (last ++ more)) after change of same in
          let datas = same-front beside change.bytes (last ++ more) (sum_bytes (next_sum sum change) ++ after) (data_long ∙ sym f.data_long) f.rest_is in
          let sums = same-front last (sum_bytes (next_sum sum change)) more after (last_wide ∙ sym (length-sum (next_sum sum change))) datas.1 in
          wrong (sums.0 ∙ ap (λ (e : List ℕ). sum_bytes (sum_over (sum_over sum e) change.bytes)) (sym f.entry_is) ∙ ap (λ (l : List ℕ). sum_bytes (sum_over (sum_over sum entry) l)) (sym datas.0))

      rest-long : length (beside ++ (last ++ more)) ≡ data_length geometry entry + 8 + length more
      rest-long = omega (arith, length-append beside (last ++ more), length-append last more, data_long, last_wide)

      -- nothing follows it
      cut-at-end : more ≡ [] → IsCutOff geometry sum (after-mark (beside ++ (last ++ more)))
      cut-at-end none = record {
        none = none-wrong;
        begins = refl;
        short = inr (the-head (beside ++ (last ++ more)), omega (arith, rest-long, ap (λ (l : List ℕ). length l) none));
      }

      -- some bytes do
      pub damaged-before : (more ≡ [] → ⊥) → IsDamaged geometry sum (after-mark (beside ++ (last ++ more)))
      damaged-before some = record {
        begins = refl;
        none = none-wrong;
        not_cut = λ cut. elim cut.short [
          | inl few ↦ absurd (omega (arith, few, length-append mark ((entry ++ sealed) ++ (beside ++ (last ++ more))), length-append (entry ++ sealed) (beside ++ (last ++ more)), length-append entry sealed, long, wide))
          | inr within ↦ (
              let parts = head-is (beside ++ (last ++ more)) within.0 in
              some (no-bytes more (omega (arith, within.1, rest-long, ap (λ (l : List ℕ). length l) parts.2, ap (λ (e : List ℕ). data_length geometry e) parts.0)))
              )
        ];
      }

  -- ---- what is found after them

  module _ (old mid : Option (List ℕ)) (text : Consumes old mid (entry ++ sealed)) where
    abbrev Damage : List ℕ → Type 0
    Damage bytes = IsDamaged geometry sum (mark ++ bytes)

    abbrev Cut : List ℕ → Type 0
    Cut bytes = IsCutOff geometry sum (mark ++ bytes)

    every : (known : Option (List ℕ)) (P : List ℕ → Type 0) → ((rest : List ℕ) → P rest) → IfSome known P
    every None P f = tt
    every (Some xs) P f = f xs

    -- they are no head
    pub finds-no-head : (IsSealedEntry geometry sum entry sealed → ⊥) → IfSome old Damage
    finds-no-head none = read-so old mid (entry ++ sealed) Damage text (every mid (λ rest. Damage ((entry ++ sealed) ++ rest)) (λ rest. no-head rest none))

    module _ (is : IsSealedEntry geometry sum entry sealed) (count : ℕ) (count_is : count ≡ data_length geometry entry) where
      -- the reader ended in the data
      pub ends-in-data : (n : ℕ) → n < count → IfSome mid (λ bytes. length bytes ≡ n) → IfSome old Cut
      ends-in-data n short left =
          read-so old mid (entry ++ sealed) Cut text (known-so mid (λ bytes. length bytes ≡ n) (λ rest. Cut ((entry ++ sealed) ++ rest)) (λ rest rest_long. cut-within is rest (omega (arith, short, rest_long, count_is))) left)

      module _ (last : Option (List ℕ)) (beside : List ℕ) (data_text : Consumes mid last beside) (data_long : length beside ≡ count) where
        -- the reader ended in the sum after the data
        pub ends-in-seal : (n : ℕ) → n < 8 → IfSome last (λ bytes. length bytes ≡ n) → IfSome old Cut
        ends-in-seal n short left =
            read-so old mid (entry ++ sealed) Cut text
            (read-so mid last beside (λ rest. Cut ((entry ++ sealed) ++ rest)) data_text
            (known-so last (λ bytes. length bytes ≡ n) (λ rest. Cut ((entry ++ sealed) ++ (beside ++ rest))) (λ rest rest_long. cut-within is (beside ++ rest) (omega (arith, short, rest_long, count_is, data_long, length-append beside rest))) left))

        module _ (new : Option (List ℕ)) (seal : List ℕ) (seal_text : Consumes last new seal) (seal_wide : length seal ≡ 8) where
          -- the sum is another
          pub finds-wrong : (change : Change) (after : Option (List ℕ)) (what : Found) → (seal ≡ sum_bytes (sum_over (sum_over sum entry) beside) → ⊥) → FindsEnd new what → FindsBody geometry sum old after change what
          finds-wrong change after what wrong ends = by what ends
            where
              ahead : (P : List ℕ → Type 0) → IfSome new (λ more. P ((entry ++ sealed) ++ (beside ++ (seal ++ more)))) → IfSome old P
              ahead P p =
                  read-so old mid (entry ++ sealed) P text (read-so mid last beside (λ rest. P ((entry ++ sealed) ++ rest)) data_text (read-so last new seal (λ rest. P ((entry ++ sealed) ++ (beside ++ rest))) seal_text p))

              by : (what : Found) → FindsEnd new what → FindsBody geometry sum old after change what
              by found.CutOff ends =
                  ahead Cut (known-so new (λ bytes. bytes ≡ []) (λ more. Cut ((entry ++ sealed) ++ (beside ++ (seal ++ more)))) (λ more none. cut-at-end is beside seal more (data_long ∙ count_is) seal_wide wrong none) ends)
              by found.Damaged ends =
                  ahead Damage (known-so new (λ bytes. bytes ≡ [] → ⊥) (λ more. Damage ((entry ++ sealed) ++ (beside ++ (seal ++ more)))) (λ more some. damaged-before is beside seal more (data_long ∙ count_is) seal_wide wrong some) ends)
              by (found.Change next) ends = absurd ends
              by found.End ends = absurd ends
              by found.Earlier ends = absurd ends
              by found.Other ends = absurd ends

          -- a whole change
          pub finds-change : (next : Sum) → next ≡ sum_over (sum_over sum entry) beside → seal ≡ sum_bytes next → ReadsBody geometry sum old new (record { entry = entry; bytes = beside }) next
          finds-change next next_is right = record {
            is = record { entry = is.is; bytes = data_long ∙ count_is };
            text =
                Consumes-trans old mid new (sealed_entry sum entry) (beside ++ sum_bytes (sum_over (sum_over sum entry) beside)) (subst (λ (l : List ℕ). Consumes old mid (entry ++ l)) is.sum_is text)
                (Consumes-trans mid last new beside (sum_bytes (sum_over (sum_over sum entry) beside)) data_text (subst (Consumes last new) (right ∙ ap (λ (s : Sum). sum_bytes s) next_is) seal_text));
            next_is = next_is;
          }

-- ---- a mark

-- the first 8 bytes that are left, where that many were read or the reader ended
first-eight : (n : ℕ) (buffer rest : List ℕ) → length buffer ≡ 8 → n ≤ length buffer → (n < length buffer → rest ≡ []) → take 8 (take n buffer ++ rest) ≡ take n buffer
first-eight n buffer rest long most ended = by (ltb n 8) refl
  where
    by : (b : Bool) → ltb n 8 ≡ b → take 8 (take n buffer ++ rest) ≡ take n buffer
    by true e =
        let short = ltb-true _ _ e in
        rw (ended (omega (arith, long, short)), append-nil (take n buffer)) (take_all 8 (take n buffer) (omega (arith, length-take n buffer, short)))
    by false e =
        let full = ltb-false _ _ e in
        take_at (take n buffer) rest 8 (omega (arith, length-take n buffer, long, most, full))

-- what does not begin as a change does is none
pub other-none : (geometry : Geometry) (sum : Sum) (bytes : List ℕ) → begins_as_mark bytes ≡ false → HasNoChange geometry sum bytes
other-none geometry sum bytes other change rest is same =
    let begins : begins_as_mark (change_bytes sum change ++ rest) ≡ true = refl in
    absurd (cc (other, ap (λ (l : List ℕ). begins_as_mark l) same, begins))

-- a mark of the version before is another
pub earlier-other : (bytes : List ℕ) → take 8 bytes ≡ earlier_mark → begins_as_mark bytes ≡ false
earlier-other bytes same = ap (λ (l : List ℕ). starts_with nat_eq mark l) same

module _ (geometry : Geometry) (sum : Sum) (old new : Option (List ℕ)) (n : ℕ) (buffer : List ℕ) (text : Consumes old new (take n buffer)) (long : length buffer ≡ 8) (most : n ≤ length buffer) (ended : n < length buffer → IsAtEnd new) where
  -- what holds of the first 8 bytes
  of-first : (P : List ℕ → Type 0) → P (take n buffer) → IfSome old (λ bytes. P (take 8 bytes))
  of-first P p = by old new text ended
    where
      by : (old new : Option (List ℕ)) → Consumes old new (take n buffer) → (n < length buffer → IsAtEnd new) → IfSome old (λ bytes. P (take 8 bytes))
      by None new text ended = tt
      by (Some xs) None text ended = absurd text
      by (Some xs) (Some ys) text ended = subst P (sym (ap (λ (l : List ℕ). take 8 l) text ∙ first-eight n buffer ys long most ended)) p

  -- bytes that do not begin as the mark does
  pub finds-other : (what : Found) (change : Change) (after : Option (List ℕ)) → starts_with nat_eq mark (take n buffer) ≡ false → IsOther (take n buffer) what → FindsChange geometry sum old after change what
  finds-other found.Earlier change after other is = of-first (λ front. front ≡ earlier_mark) is
  finds-other found.Other change after other is = of-first (λ front. (starts_with nat_eq mark front ≡ false) × (front ≡ earlier_mark → ⊥)) (other, is)
  finds-other (found.Change next) change after other is = absurd is
  finds-other found.End change after other is = absurd is
  finds-other found.CutOff change after other is = absurd is
  finds-other found.Damaged change after other is = absurd is

  -- no byte was left
  pub finds-end : n ≡ 0 → IfSome old (λ bytes. bytes ≡ [])
  finds-end none = known-so old (λ bytes. length bytes ≡ n) (λ bytes. bytes ≡ []) (λ bytes e. no-bytes bytes (e ∙ none)) (few-left old new n 8 buffer text long (omega (arith, none)) ended)

  -- the reader ended in the mark
  pub ends-in-mark : (n ≡ 0 → ⊥) → starts_with nat_eq mark (take n buffer) ≡ true → n < 8 → IfSome old (λ bytes. IsCutOff geometry sum bytes × (bytes ≡ [] → ⊥))
  ends-in-mark some begins short = by old (few-left old new n 8 buffer text long short ended) (of-first (λ front. starts_with nat_eq mark front ≡ true) begins)
    where
      by : (old : Option (List ℕ)) → IfSome old (λ bytes. length bytes ≡ n) → IfSome old (λ bytes. begins_as_mark bytes ≡ true) → IfSome old (λ bytes. IsCutOff geometry sum bytes × (bytes ≡ [] → ⊥))
      by None count front = tt
      by (Some xs) count front =
          let few : length xs < 80 = omega (arith, count, short) in (
            record { none = none-few geometry sum xs few; begins = front; short = inl few },
            λ none. some (sym count ∙ ap (λ (l : List ℕ). length l) none),
          )

-- what was found after a mark was found where a change may be
pub finds-marked : (geometry : Geometry) (sum : Sum) (old mid new : Option (List ℕ)) (change : Change) (what : Found) → Consumes old mid mark → FindsBody geometry sum mid new change what → FindsChange geometry sum old new change what
finds-marked geometry sum old mid new change (found.Change next) text body = record {
  is = body.is;
  text =
      subst (Consumes old new) (sym (append_assoc mark (sealed_entry sum change.entry) (change.bytes ++ sum_bytes (next_sum sum change))))
      (Consumes-trans old mid new mark (sealed_entry sum change.entry ++ (change.bytes ++ sum_bytes (next_sum sum change))) text body.text);
  next_is = body.next_is;
}
finds-marked geometry sum old mid new change found.CutOff text body =
    read-so old mid mark (λ bytes. IsCutOff geometry sum bytes × (bytes ≡ [] → ⊥)) text (known-so mid (λ bytes. IsCutOff geometry sum (mark ++ bytes)) (λ bytes. IsCutOff geometry sum (mark ++ bytes) × (mark ++ bytes ≡ [] → ⊥)) (λ bytes cut. (cut, λ e. absurd (cc e))) body)
finds-marked geometry sum old mid new change found.Damaged text body = read-so old mid mark (IsDamaged geometry sum) text body
finds-marked geometry sum old mid new change found.End text body = absurd body
finds-marked geometry sum old mid new change found.Earlier text body = absurd body
finds-marked geometry sum old mid new change found.Other text body = absurd body

-- 8 bytes that are a front of the mark are the mark
pub whole-mark : (bytes : List ℕ) → length bytes ≡ 8 → starts_with nat_eq mark bytes ≡ true → bytes ≡ mark
whole-mark bytes long begins = same_text bytes (take (length bytes) mark) (sym begins) ∙ ap (λ (n : ℕ). take n mark) long
