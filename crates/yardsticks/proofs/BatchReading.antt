-- The batch that blocks begin with.
use Rattle.std.proofs.Common.{◌≡◌, ◌⊎◌, ℕ, ◌<◌, ◌≤◌, List, ◌∷◌, ◌++◌, length, take, drop, sym, ap, ◌∙◌, Vec, vec_len, arith}
use Rattle.std.specs.declared.alloc.Global.{Global}
use Rattle.std.specs.List.{AllByRecursion}
use Rattle.std.proofs.lemmas.List.{length-append, length-take, take-append-drop}
use Rattle.batch_log.specs.Header.{Heading, IsHeading, IsHeaderBlock, header_block}
use Rattle.batch_log.specs.Log.{BeginsWithNoBatch, data_count}
use Rattle.yardsticks.specs.Batches.{held_blocks, BeginsWithBatch}
use Rattle.batch_log.proofs.HeaderLaws.{one_header}

-- the blocks are a header block and the blocks behind it
pub record BeginWithHeader (size : ℕ) (blocks : List (List ℕ)) (heading : Heading) (behind : List (List ℕ)) : Type 0 where
  pub says : IsHeading size heading
  pub encoded : blocks ≡ header_block size heading ∷ behind

-- blocks whose first is a header begin with it
pub begin_with_header : (size : ℕ) (blocks : List (Vec ℕ Global)) (block : Vec ℕ Global) (behind : List (Vec ℕ Global)) (bytes : List ℕ) (h : Heading)
    → AllByRecursion (λ (b : Vec ℕ Global). vec_len b ≡ size) blocks → blocks ≡ block ∷ behind → bytes ≡ block.items → IsHeaderBlock (length bytes) bytes h
    → BeginWithHeader size (held_blocks blocks) h (held_blocks behind)
begin_with_header size blocks block behind bytes h all split read is =
    let all' = rw split at all in
    let long : length bytes ≡ size = ap length read ∙ sym block.ok.0 ∙ all'.0 in
    let is' = rw long at is in
    record { says = is'.says; encoded = ap held_blocks split ∙ ap (λ (b : List ℕ). b ∷ held_blocks behind) (sym read ∙ is'.encoded) }

-- with data enough after it they begin with a batch
pub begin_with : (size : ℕ) (blocks behind body : List (List ℕ)) (h : Heading) → BeginWithHeader size blocks h behind → data_count h.entries ≤ length behind
    → body ≡ take (data_count h.entries) behind → BeginsWithBatch size blocks (record { heading = h; body = body })
begin_with size blocks behind body h begin enough is =
    let count : length body ≡ data_count h.entries = ap length is ∙ length-take (data_count h.entries) behind ∙ omega arith in
    let whole : behind ≡ body ++ drop (length body) behind = rw (count, is) (sym (take-append-drop (data_count h.entries) behind)) in
    record {
      fits = record { heading = begin.says; body = count };
      encoded = rw begin.encoded (ap (λ (bs : List (List ℕ)). header_block size h ∷ bs) whole);
    }

-- and with too little they begin with none
pub too_few : (size : ℕ) (blocks behind : List (List ℕ)) (h : Heading) → (size ≡ 512) ⊎ (size ≡ 4096) → BeginWithHeader size blocks h behind → length behind < data_count h.entries
    → BeginsWithNoBatch size blocks
too_few size blocks behind h whole begin few batch rest fits e =
    let same : header_block size h ∷ behind ≡ header_block size batch.heading ∷ (batch.body ++ rest) = sym begin.encoded ∙ e in
    let block : header_block size h ≡ header_block size batch.heading = cc in
    let others : behind ≡ batch.body ++ rest = cc in
    let heading = one_header size h batch.heading (omega arith) begin.says fits.heading block in
    let count : data_count h.entries ≡ data_count batch.heading.entries = ap (λ (k : Heading). data_count k.entries) heading in
    omega (arith, ap length others, length-append batch.body rest, fits.body)
