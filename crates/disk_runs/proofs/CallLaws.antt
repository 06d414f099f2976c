-- Calls of a flat disk, and their replies.
use Rattle.std.proofs.Common.{◌≡◌, ℕ, zero, suc, ◌+◌, ◌*◌, ◌<◌, ◌≤◌, ◌==◌, true, false, List, [], ◌∷◌, ◌++◌, length, take, drop, Some, None, Ok, Err, refl, sym, ap, subst, ◌∙◌, append_assoc, arith}
use Rattle.std.specs.Prelude.{nat_lt, ◌&&◌}
use Rattle.std.specs.List.{concat}
use Rattle.std.proofs.lemmas.Bool.Decides.{nat_tests}
use Rattle.std.proofs.lemmas.List.{append-nil, drop-drop, length-append, length-drop}
use Rattle.zone_states.proofs.ListLaws.{all-append}
use Rattle.disk_files.specs.Reply.{block_line, block_lines, ok_text, out_of_range_text}
use Rattle.zone_translator.specs.Calls.{Reads}
use Rattle.zone_translator.specs.Flat.{Answer, FlatCall, FlatDisk, answer_while, blocks_from, known_answer, may_refuse, read, with_nothing}
use Rattle.zone_translator.specs.declared.fault.DiskFault.{DiskFault}
use Rattle.zone_translator.specs.declared.fault.DiskFault.TheVariants.{OutOfRange, OutOfMemory, Failed, Stopped, Spent, Unmounted, Smaller, Reserve, Damaged}
use Rattle.zone_translator.specs.declared.status.DiskStatus.{DiskStatus}
use Rattle.zone_translator.specs.declared.status.DiskStatus.TheVariants as statuses
use Rattle.zone_translator.specs.View.{CompletesAtMost, DiskCause, DiskView, disk_turns}
use Rattle.disk_runs.specs.AnyDevice.{PutsLines}
use Rattle.disk_runs.specs.FlatLines.{IsRefused, RepliesTo, refusal_reply, single}
use Rattle.disk_runs.specs.Trace.{EndCause, ReadsFew}
use Rattle.disk_runs.specs.declared.fault.RunFault.TheVariants.{Disk}

-- ---- what is known of a call before it begins

known-in : (disk : FlatDisk) (first n : ℕ) → 0 < n → first + n ≤ disk.size → known_answer disk (read first n) ≡ answer_while disk.status
known-in disk first n some fits =
    let e : (n == 0) ≡ false = grind (arith, nat_tests) in
    let f : nat_lt disk.size (first + n) ≡ false = grind (arith, nat_tests) in
    rw (e, f) refl

-- a read past the end
read_past : (disk : FlatDisk) (first n : ℕ) → 0 < n → disk.size < first + n → FlatCall disk (read first n) (with_nothing (Err OutOfRange)) disk
read_past disk first n some past =
    let e : (n == 0) ≡ false = grind (arith, nat_tests) in
    let f : nat_lt disk.size (first + n) ≡ true = grind (arith, nat_tests) in
    rw (e, f) (refl, refl)

-- ---- a read, block by block

-- a block that was shown
pub record ShowsBlock (old : FlatDisk) (at : ℕ) (bytes : List ℕ) (new : FlatDisk) : Type 0 where
  pub serves : old.status ≡ statuses.Serving
  pub same : new ≡ old
  pub bytes_are : bytes ≡ concat (blocks_from old.array at 1)

shows_block : (old new : FlatDisk) (at : ℕ) (bytes : List ℕ) → at + 1 ≤ old.size → Reads old at 1 (Ok tt) bytes new → ShowsBlock old at bytes new
shows_block old new at bytes fits reads = of old.status refl
  where
    of : (status : DiskStatus) → old.status ≡ status → ShowsBlock old at bytes new
    of statuses.Serving e =
        let begun = rw (known-in old at 1 (omega arith) fits, e) at reads.flat in
        record {
          serves = e;
          same = begun.1 ∙ ap (λ (s : DiskStatus). record { array = old.array; size = old.size; status = s; block = old.block; most = old.most }) (sym e);
          bytes_are = reads.bytes_are ∙ ap concat begun.0;
        }
    of statuses.Stopped e =
        let known = rw (known-in old at 1 (omega arith) fits, e) at reads.flat in
        let bad : Ok tt ≡ Err Stopped = ap (λ (a : Answer). a.result) known.0 in
        absurd (cc)
    of statuses.Unmounted e =
        let known = rw (known-in old at 1 (omega arith) fits, e) at reads.flat in
        let bad : Ok tt ≡ Err Unmounted = ap (λ (a : Answer). a.result) known.0 in
        absurd (cc)

same_refusal : (a b c d : ℕ) (fault : DiskFault) → may_refuse (read a b) fault ≡ may_refuse (read c d) fault
same_refusal a b c d OutOfRange = refl
same_refusal a b c d OutOfMemory = refl
same_refusal a b c d Failed = refl
same_refusal a b c d Stopped = refl
same_refusal a b c d Spent = refl
same_refusal a b c d Smaller = refl
same_refusal a b c d Reserve = refl
same_refusal a b c d Damaged = refl
same_refusal a b c d Unmounted = refl

-- no refusal of a read on its way has a reply
no_reply : (first n : ℕ) (fault : DiskFault) → may_refuse (read first n) fault ≡ true → refusal_reply fault ≡ None
no_reply first n OutOfRange may = absurd (cc)
no_reply first n OutOfMemory may = refl
no_reply first n Failed may = refl
no_reply first n Stopped may = refl
no_reply first n Spent may = refl
no_reply first n Smaller may = absurd (cc)
no_reply first n Reserve may = absurd (cc)
no_reply first n Damaged may = absurd (cc)
no_reply first n Unmounted may = refl

-- one block more is asked for once
pub reads_more : (n : ℕ) (old middle new : DiskView) → ReadsFew n old middle → disk_turns new ≡ disk_turns middle → CompletesAtMost middle 1 new → ReadsFew (n + 1) old new
reads_more n old middle new so_far turns completed = record { turns = turns ∙ so_far.turns; completed = omega (arith, so_far.completed, completed) }

-- and some of the blocks no more often than all of them
pub reads_within : (n most : ℕ) (old new : DiskView) → n ≤ most → ReadsFew n old new → ReadsFew most old new
reads_within n most old new few once = record { turns = once.turns; completed = omega (arith, few, once.completed) }

-- a read of blocks is refused as a read of one of them is
refused_block : (old new : FlatDisk) (at first n : ℕ) (bytes : List ℕ) (fault : DiskFault) → at + 1 ≤ old.size → 0 < n → first + n ≤ old.size → Reads old at 1 (Err fault) bytes new → IsRefused old (single (read first n)) fault new
refused_block old new at first n bytes fault fits some all reads = of old.status refl
  where
    of : (status : DiskStatus) → old.status ≡ status → IsRefused old (single (read first n)) fault new
    of statuses.Serving e =
        let begun = rw (known-in old at 1 (omega arith) fits, e) at reads.flat in
        let may : may_refuse (read first n) fault ≡ true = same_refusal first n at 1 fault ∙ begun.0 in
        record {
          flat = rw (known-in old first n some all, e) (may, refl, begun.2, begun.3);
          no_reply = no_reply first n fault may;
        }
    of statuses.Stopped e =
        let known = rw (known-in old at 1 (omega arith) fits, e) at reads.flat in
        let same : Err fault ≡ Err Stopped = ap (λ (a : Answer). a.result) known.0 in
        let is : fault ≡ Stopped = cc in
        record {
          flat = rw (known-in old first n some all, e) (ap with_nothing same, known.1);
          no_reply = ap refusal_reply is;
        }
    of statuses.Unmounted e =
        let known = rw (known-in old at 1 (omega arith) fits, e) at reads.flat in
        let same : Err fault ≡ Err Unmounted = ap (λ (a : Answer). a.result) known.0 in
        let is : fault ≡ Unmounted = cc in
        record {
          flat = rw (known-in old first n some all, e) (ap with_nothing same, known.1);
          no_reply = ap refusal_reply is;
        }

-- the same of the block at i in a read of n blocks, on a disk that is still as it was
pub block_shown : (old middle new : FlatDisk) (first i n : ℕ) (bytes : List ℕ) → i < n → (0 < n → first + n ≤ old.size) → middle ≡ old → Reads middle (first + i) 1 (Ok tt) bytes new → ShowsBlock old (first + i) bytes new
block_shown old middle new first i n bytes lt fits same reads =
    let within = fits (omega (arith, lt)) in
    shows_block old new (first + i) bytes (omega (arith, within, lt)) (subst (λ (d : FlatDisk). Reads d (first + i) 1 (Ok tt) bytes new) same reads)

-- a block of a read was refused
pub block_refused : (old middle new : FlatDisk) (first i n : ℕ) (bytes : List ℕ) (fault : DiskFault) → i < n → (0 < n → first + n ≤ old.size) → middle ≡ old → Reads middle (first + i) 1 (Err fault) bytes new → IsRefused old (single (read first n)) fault new
block_refused old middle new first i n bytes fault lt fits same reads =
    let within = fits (omega (arith, lt)) in
    refused_block old new (first + i) first n bytes fault (omega (arith, within, lt)) (omega (arith, lt)) within (subst (λ (d : FlatDisk). Reads d (first + i) 1 (Err fault) bytes new) same reads)

-- a read that shows all its blocks
shows_all : (disk : FlatDisk) (first n : ℕ) → (0 < n → first + n ≤ disk.size) → (0 < n → disk.status ≡ statuses.Serving)
    → FlatCall disk (read first n) (record { result = Ok tt; shown = blocks_from disk.array first n }) disk
shows_all disk first zero fits serves = (refl, refl)
shows_all disk first (suc n) fits serves =
    rw (known-in disk first (suc n) (omega arith) (fits (omega arith)), serves (omega arith)) (refl, refl)

-- why a disk refused what has no reply
pub cause_of : (disk : DiskView) (fault : DiskFault) → refusal_reply fault ≡ None → DiskCause disk fault → EndCause disk (Disk fault)
cause_of disk OutOfRange none cause = absurd (cc)
cause_of disk OutOfMemory none cause = cause
cause_of disk Failed none cause = cause
cause_of disk Stopped none cause = cause
cause_of disk Spent none cause = cause
cause_of disk Smaller none cause = absurd (cc)
cause_of disk Reserve none cause = absurd (cc)
cause_of disk Damaged none cause = cause
cause_of disk Unmounted none cause = cause

-- ---- replies

outside : (size first n : ℕ) → true ≡ (nat_lt 0 n && nat_lt size (first + n)) → (0 < n) × (size < first + n)
outside size first n e = (grind (arith, nat_tests), grind (arith, nat_tests))

inside : (size first n : ℕ) → false ≡ (nat_lt 0 n && nat_lt size (first + n)) → 0 < n → first + n ≤ size
inside size first n e some = grind (arith, nat_tests)

-- a range that is not past the end
pub in-range : (size first n long : ℕ) → size ≡ long → false ≡ (nat_lt 0 n && nat_lt size (first + n)) → 0 < n → first + n ≤ long
in-range size first n long same fits some = let within = inside size first n fits some in omega (arith, within, same)

-- a read past the end has this reply
pub replies_past : (disk : FlatDisk) (size first n : ℕ) (was reply : List ℕ) → size ≡ disk.size → true ≡ (nat_lt 0 n && nat_lt size (first + n)) → was ≡ [] → reply ≡ was ++ out_of_range_text
    → RepliesTo disk (single (read first n)) reply disk
replies_past disk size first n was reply long past none is =
    let out = outside size first n past in
    record {
      answer = with_nothing (Err OutOfRange);
      flat = read_past disk first n out.0 (omega (arith, out.1, long));
      reply_is = ap (λ (xs : List ℕ). Some xs) (sym (is ∙ ap (λ (xs : List ℕ). xs ++ out_of_range_text) none));
    }

-- and one within it these lines
pub replies_shown : (old new : FlatDisk) (size first n : ℕ) (was text reply : List ℕ) → size ≡ old.size → false ≡ (nat_lt 0 n && nat_lt size (first + n)) → new ≡ old → (0 < n → old.status ≡ statuses.Serving)
    → was ≡ [] → text ≡ was ++ block_lines first (blocks_from old.array first n) → reply ≡ text ++ ok_text → RepliesTo old (single (read first n)) reply new
replies_shown old new size first n was text reply long fits same serves none shown is =
    let lines = block_lines first (blocks_from old.array first n) in
    let done : FlatCall old (read first n) (record { result = Ok tt; shown = blocks_from old.array first n }) old =
    shows_all old first n (in-range size first n old.size long fits) serves in
    record {
      answer = record { result = Ok tt; shown = blocks_from old.array first n };
      flat = subst (λ (d : FlatDisk). FlatCall old (read first n) (record { result = Ok tt; shown = blocks_from old.array first n }) d) (sym same) done;
      reply_is = ap (λ (xs : List ℕ). Some xs) (sym (is ∙ ap (λ (xs : List ℕ). xs ++ ok_text) (shown ∙ ap (λ (xs : List ℕ). xs ++ lines) none)));
    }

-- ---- the lines of blocks

lines-more : (i first number : ℕ) (xs : List (List ℕ)) → number ≡ first + i → i < length xs → block_lines first (take (suc i) xs) ≡ block_lines first (take i xs) ++ block_line number (concat (take 1 (drop i xs)))
lines-more i first number [] e lt = absurd (omega (arith, lt))
lines-more zero first number (x ∷ xs) e lt =
    let same : number ≡ first = omega arith in
    rw (same, append-nil x) (append-nil (block_line first x))
lines-more (suc i) first number (x ∷ xs) e lt =
    let more = lines-more i (first + 1) number xs (omega arith) (omega (arith, lt)) in
    ap (λ (ys : List ℕ). block_line first x ++ ys) more ∙ sym (append_assoc (block_line first x) (block_lines (first + 1) (take i xs)) (block_line number (concat (take 1 (drop i xs)))))

-- a line more
pub line_more : (array : List (List ℕ)) (size first i n : ℕ) (before reply new bytes : List ℕ) → size ≡ length array → i < n → (0 < n → first + n ≤ size) → bytes ≡ concat (blocks_from array (first + i) 1)
    → reply ≡ before ++ block_lines first (blocks_from array first i) → new ≡ reply ++ block_line (first + i) bytes → new ≡ before ++ block_lines first (blocks_from array first (i + 1))
line_more array size first i n before reply new bytes long lt fits shown so e =
    let within = fits (omega (arith, lt)) in
    let inside : i < length (drop first array) = omega (arith, within, long, lt, length-drop first array) in
    let here = drop first array in
    let joined : drop i here ≡ drop (first + i) array = drop-drop i first array in
    let more = lines-more i first (first + i) here refl inside in
    let last = block_line (first + i) (concat (blocks_from array (first + i) 1)) in
    let next : i + 1 ≡ suc i = omega arith in
    let grown : block_lines first (take (i + 1) here) ≡ block_lines first (take i here) ++ last =
    ap (λ (k : ℕ). block_lines first (take k here)) next
    ∙ more ∙ ap (λ (xs : List (List ℕ)). block_lines first (take i here) ++ block_line (first + i) (concat (take 1 xs))) joined in
    e ∙ rw (so, shown) (append_assoc before (block_lines first (take i here)) last) ∙ ap (λ (xs : List ℕ). before ++ xs) (sym grown)

-- the lines of blocks and of one more
lines-append : (first : ℕ) (xs : List (List ℕ)) (x : List ℕ) (at : ℕ) → at ≡ first + length xs → block_lines first (xs ++ x ∷ []) ≡ block_lines first xs ++ block_line at x
lines-append first [] x at e =
    let same : at ≡ first = omega (arith, e) in
    rw same (append-nil (block_line first x))
lines-append first (y ∷ ys) x at e =
    let more = lines-append (first + 1) ys x at (omega (arith, e)) in
    ap (λ (zs : List ℕ). block_line first y ++ zs) more ∙ sym (append_assoc (block_line first y) (block_lines (first + 1) ys) (block_line at x))

-- one block was read, which has as many bytes as before
pub one_whole : (block block' : ℕ) (items bytes : List ℕ) → length items ≡ 1 * block' → block' ≡ block → bytes ≡ items → length bytes ≡ block
one_whole block block' items bytes whole same is = rw is (omega (arith, whole, same))

-- whatever the bytes of the block are, if they are a whole one
pub puts_more : (block first i : ℕ) (before reply new bytes : List ℕ) → PutsLines block first i before reply → length bytes ≡ block → new ≡ reply ++ block_line (first + i) bytes → PutsLines block first (i + 1) before new
puts_more block first i before reply new bytes so_far is_whole e =
    let last = block_line (first + i) bytes in
    let here : first + i ≡ first + length so_far.shown = omega (arith, so_far.long) in
    record {
      shown = so_far.shown ++ bytes ∷ [];
      long = omega (arith, length-append so_far.shown (bytes ∷ []), so_far.long);
      whole = all-append (λ (b : List ℕ). length b ≡ block) so_far.shown (bytes ∷ []) so_far.whole (is_whole, tt);
      after_is = e ∙ ap (λ (xs : List ℕ). xs ++ last) so_far.after_is ∙ append_assoc before (block_lines first so_far.shown) last
          ∙ ap (λ (xs : List ℕ). before ++ xs) (sym (lines-append first so_far.shown bytes (first + i) here));
    }
