-- A write into a slice after what was written.
use Rattle.std.proofs.Common.{◌≡◌, ℕ, ◌+◌, ◌-◌, ◌*◌, ◌<◌, ◌≤◌, List, [], ◌∷◌, ◌++◌, length, take, drop, get_or, refl, ap, ◌∙◌, append_assoc, arith}
use Rattle.std.specs.List.{flat_map}
use Rattle.std.proofs.lemmas.List.{append-nil, take_at, drop_at, take_all, drop_all, length-append, length-drop, length-take, flat_map_more, take_more, drop-drop}
use borrow.Rule.Slice.PartMut.{put_mid}
use Rattle.batch_log.specs.declared.header.Entry.{Entry}
use Rattle.batch_log.specs.Header.{entry_word_bytes}

-- the write goes after `done`, over the first of what is left
written_behind : (a k n : ℕ) (done more word ys : List ℕ) → length done ≡ a → length more ≡ k → n ≤ k → ys ≡ word ++ drop n (take k (drop a (done ++ more))) → put_mid a k (done ++ more) ys ≡ (done ++ word) ++ drop n more
written_behind a k n done more word ys len all le e =
    let rest : take k (drop a (done ++ more)) ≡ more = rw (drop_at done more a len) (take_all k more (omega arith)) in
    let new : ys ≡ word ++ drop n more = e ∙ rw rest refl in
    let behind : drop k (drop a (done ++ more)) ≡ [] = rw (drop_at done more a len) (drop_all k more (omega arith)) in
    rw (take_at done more a len, new) (ap (λ (t : List ℕ). done ++ ((word ++ drop n more) ++ t)) behind ∙ simp (append_assoc, append-nil))

-- an entry has eight bytes
pub length-entries : (entries : List Entry) → length (flat_map entry_word_bytes entries) ≡ 8 * length entries
length-entries [] = refl
length-entries (e ∷ es) = let rest = length-entries es in omega (arith, rest)

-- one entry more is written, over the first of what was there
pub one_more : (entries : List Entry) (before out ys word : List ℕ) (i k : ℕ) (d : Entry) → i < length entries → 8 * length entries ≤ length before → k ≡ length out - 8 * i
    → out ≡ flat_map entry_word_bytes (take i entries) ++ drop (8 * i) before
    → word ≡ entry_word_bytes (get_or entries i d)
    → ys ≡ word ++ drop 8 (take k (drop (8 * i) out))
    → put_mid (8 * i) k out ys ≡ flat_map entry_word_bytes (take (i + 1) entries) ++ drop (8 * (i + 1)) before
one_more entries before out ys word i k d lt fits k-is so_far is new =
    let done = flat_map entry_word_bytes (take i entries) in
    let more = drop (8 * i) before in
    let len : length done ≡ 8 * i = omega (arith, length-entries (take i entries), length-take i entries) in
    let total : length out ≡ length done + length more = ap length so_far ∙ length-append done more in
    let rest : length more ≡ k = omega arith in
    let le : 8 ≤ k = omega (arith, length-drop (8 * i) before) in
    let step : put_mid (8 * i) k (done ++ more) ys ≡ (done ++ word) ++ drop 8 more = written_behind (8 * i) k 8 done more word ys len rest le (rw so_far at new) in
    let taken : done ++ word ≡ flat_map entry_word_bytes (take (i + 1) entries) = rw (is, take_more entries i d lt) (flat_map_more entry_word_bytes [] (take i entries) (get_or entries i d)) in
    let left : drop 8 more ≡ drop (8 * (i + 1)) before = drop-drop 8 (8 * i) before ∙ ap (λ (n : ℕ). drop n before) (omega arith) in
    ap (λ (o : List ℕ). put_mid (8 * i) k o ys) so_far ∙ step ∙ rw (taken, left) refl
