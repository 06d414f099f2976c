-- Whole blocks that are written run by run.
use Rattle.std.proofs.Common.{◌≡◌, ℕ, zero, suc, ◌+◌, ◌-◌, ◌*◌, ◌/◌, ◌<◌, ◌≤◌, List, ◌++◌, length, take, drop, Ok, Err, Result, IsErrAnd, sym, ap, subst, ◌∙◌, arith}
use Rattle.std.proofs.lemmas.List.{length-append, length-drop, length-take, take-append-drop}
use Rattle.std.proofs.lemmas.Nat.{div-mul-add}
use Rattle.std.proofs.Math.Nat.{add-mul}
use Rattle.std.proofs.Math.Seq.{take-add}
use Rattle.zone_states.specs.declared.geometry.Geometry.{Geometry}
use Rattle.zone_states.proofs.Cutting.{length-cut}
use Rattle.drive_port.specs.Calls.{block_count, data_blocks}
use Rattle.zone_translator.specs.Answers.{AreBlocksOf, write_bytes}
use Rattle.zone_translator.specs.Flat.{FlatCall, FlatDisk, with_nothing, write}
use Rattle.zone_translator.specs.View.{DiskView, disk_size, flat_of}
use Rattle.zone_translator.specs.declared.fault.DiskFault.{DiskFault}
use Rattle.disk_copies.proofs.FlatWrites.{refuse-after, refuse-longer, write-more, wrote}
use Rattle.disk_copies.proofs.Pieces.{blocks-both, count-of, times-less}

-- after whole blocks that are not all, there is one more
next-fits : (n m b : ℕ) → n * b < m * b → n * b + b ≤ m * b
next-fits zero zero b lt = absurd (omega (arith, lt))
next-fits zero (suc m) b lt = omega (arith, add-mul m 1 b)
next-fits (suc n) zero b lt = absurd (omega (arith, lt))
next-fits (suc n) (suc m) b lt = let rest = next-fits n m b (omega (arith, lt)) in omega (arith, rest)

-- after whole blocks of bytes that are not all, the next block ends within the bytes
pub run-fits : (n m b done long : ℕ) → done ≡ n * b → long ≡ m * b → done < long → done + b ≤ long
run-fits n m b done long e f lt = let fits = next-fits n m b (omega (arith, e, f, lt)) in omega (arith, e, f, fits)

-- bytes of whole blocks, divided by the size of a block, give the number of blocks
pub run-count : (done n b : ℕ) → 0 < b → done ≡ n * b → done / b ≡ n
run-count done n b some e = let f : done ≡ n * b + 0 = omega (arith, e) in rw f (div-mul-add n b 0 some)

-- a run of m blocks, after n blocks
pub record IsRun (geometry : Geometry) (bytes : List ℕ) (done run : ℕ) : Type 0 where
  pub n : ℕ
  pub m : ℕ
  pub some : 0 < geometry.block
  pub more : 0 < m
  pub done_is : done ≡ n * geometry.block
  pub run_is : run ≡ m * geometry.block
  pub within : done + run ≤ length bytes

-- the bytes of a run, after the bytes that are done
abbrev pub slice : ℕ → ℕ → List ℕ → List ℕ
slice done run bytes = take (done + run - done) (drop done bytes)

-- the slice of a run within the bytes is as long as the run
slice-long : (done run : ℕ) (bytes : List ℕ) → done + run ≤ length bytes → length (slice done run bytes) ≡ run
slice-long done run bytes fits = omega (arith, fits, length-take (done + run - done) (drop done bytes), length-drop done bytes)

-- the slice of a run has whole blocks
pub slice-whole : (geometry : Geometry) (bytes : List ℕ) (done run : ℕ) → IsRun geometry bytes done run → length (slice done run bytes) ≡ block_count geometry (slice done run bytes) * geometry.block
slice-whole geometry bytes done run r =
    let long = slice-long done run bytes r.within ∙ r.run_is in
    rw (count-of geometry (slice done run bytes) r.m r.some long) long

front-long : (k : ℕ) (bytes : List ℕ) → k ≤ length bytes → length (take k bytes) ≡ k
front-long k bytes le = omega (arith, le, length-take k bytes)

blocks-long : (geometry : Geometry) (bytes : List ℕ) (n : ℕ) → 0 < geometry.block → length bytes ≡ n * geometry.block → length (data_blocks geometry bytes) ≡ n
blocks-long geometry bytes n some long = length-cut geometry.block (block_count geometry bytes) bytes ∙ count-of geometry bytes n some long

run-joined : (geometry : Geometry) (bytes : List ℕ) (done run : ℕ) → IsRun geometry bytes done run
    → data_blocks geometry (take (done + run) bytes) ≡ data_blocks geometry (take done bytes) ++ data_blocks geometry (slice done run bytes)
run-joined geometry bytes done run r =
    let same : slice done run bytes ≡ take run (drop done bytes) = ap (λ (k : ℕ). take k (drop done bytes)) (omega arith) in
    ap (data_blocks geometry) (take-add done run bytes ∙ ap (λ (ys : List ℕ). take done bytes ++ ys) (sym same))
    ∙ blocks-both geometry (take done bytes) (slice done run bytes) r.n r.m r.some (front-long done bytes (omega (arith, r.within)) ∙ r.done_is) (slice-long done run bytes r.within ∙ r.run_is)

-- a run more is written
pub run-more : (old mid new : DiskView) (bytes : List ℕ) (first at done run : ℕ) → IsRun old.drive.geometry bytes done run → mid.drive.geometry ≡ old.drive.geometry → at ≡ first + done / old.drive.geometry.block
    → FlatCall (flat_of old) (write first (data_blocks old.drive.geometry (take done bytes))) (with_nothing (Ok tt)) (flat_of mid)
    → FlatCall (flat_of mid) (write_bytes mid at (slice done run bytes)) (with_nothing (Ok tt)) (flat_of new)
    → FlatCall (flat_of old) (write first (data_blocks old.drive.geometry (take (done + run) bytes))) (with_nothing (Ok tt)) (flat_of new)
run-more old mid new bytes first at done run r geometry at_is x y =
    let g = old.drive.geometry in
    let n : length (data_blocks g (take done bytes)) ≡ r.n = blocks-long g (take done bytes) r.n r.some (front-long done bytes (omega (arith, r.within)) ∙ r.done_is) in
    let second = subst (λ (h : Geometry). FlatCall (flat_of mid) (write at (data_blocks h (slice done run bytes))) (with_nothing (Ok tt)) (flat_of new)) geometry y in
    rw (run-joined g bytes done run r)
    (write-more (flat_of old) (flat_of mid) (flat_of new) first at (data_blocks g (take done bytes)) (data_blocks g (slice done run bytes)) (omega (arith, at_is, n, run-count done r.n g.block r.some r.done_is)) x second)

-- a run is refused
pub run-refused : (old mid new : DiskView) (bytes : List ℕ) (first at done run : ℕ) (fault : DiskFault) (result : Result (Unit {0}) DiskFault) → IsErrAnd result (λ e. e ≡ fault)
    → IsRun old.drive.geometry bytes done run → mid.drive.geometry ≡ old.drive.geometry → at ≡ first + done / old.drive.geometry.block
    → AreBlocksOf old bytes → first + block_count old.drive.geometry bytes ≤ disk_size old
    → FlatCall (flat_of old) (write first (data_blocks old.drive.geometry (take done bytes))) (with_nothing (Ok tt)) (flat_of mid)
    → FlatCall (flat_of mid) (write_bytes mid at (slice done run bytes)) (with_nothing (Err fault)) (flat_of new)
    → FlatCall (flat_of old) (write_bytes old first bytes) (with_nothing result) (flat_of new)
run-refused old mid new bytes first at done run fault (Ok v) is r geometry at_is whole room x y = absurd is
run-refused old mid new bytes first at done run fault (Err f) is r geometry at_is whole room x y =
    let g = old.drive.geometry in
    let all = block_count g bytes in
    let k = done + run in
    let xs = data_blocks g (take done bytes) in
    let ys = data_blocks g (slice done run bytes) in
    let zs = data_blocks g (drop k bytes) in
    let n : length xs ≡ r.n = blocks-long g (take done bytes) r.n r.some (front-long done bytes (omega (arith, r.within)) ∙ r.done_is) in
    let m : length ys ≡ r.m = blocks-long g (slice done run bytes) r.m r.some (slice-long done run bytes r.within ∙ r.run_is) in
    let k_is : k ≡ (r.n + r.m) * g.block = omega (arith, r.done_is, r.run_is, add-mul r.n r.m g.block) in
    let few : r.n + r.m ≤ all = times-less (r.n + r.m) all g.block r.some (omega (arith, k_is, whole, r.within)) in
    let left : length (drop k bytes) ≡ (all - (r.n + r.m)) * g.block =
    omega (arith, length-drop k bytes, whole, k_is, add-mul (r.n + r.m) (all - (r.n + r.m)) g.block, ap (λ (i : ℕ). i * g.block) (the_sum (r.n + r.m) all few)) in
    let split : data_blocks g bytes ≡ data_blocks g (take k bytes) ++ zs =
    ap (data_blocks g) (sym (take-append-drop k bytes))
    ∙ blocks-both g (take k bytes) (drop k bytes) (r.n + r.m) (all - (r.n + r.m)) r.some (front-long k bytes r.within ∙ k_is) left in
    let joined : data_blocks g bytes ≡ (xs ++ ys) ++ zs = split ∙ ap (λ (bs : List (List ℕ)). bs ++ zs) (run-joined g bytes done run r) in
    let long : length ((xs ++ ys) ++ zs) ≡ all = sym (ap length joined) ∙ length-cut g.block all bytes in
    let second = subst (λ (h : Geometry). FlatCall (flat_of mid) (write at (data_blocks h (slice done run bytes))) (with_nothing (Err fault)) (flat_of new)) geometry y in
    let size : disk_size mid ≡ disk_size old = ap (λ (d : FlatDisk). d.size) (wrote (flat_of old) (flat_of mid) first xs x).after in
    let next : at ≡ first + length xs = omega (arith, at_is, n, run-count done r.n g.block r.some r.done_is) in
    rw (is, joined) (refuse-longer (flat_of old) (flat_of new) first (xs ++ ys) zs fault (omega (arith, length-append xs ys, m, r.more)) (omega (arith, long, room))
    (refuse-after (flat_of old) (flat_of mid) (flat_of new) first at xs ys fault next (λ _. omega (arith, next, n, m, size, few, room)) x second))
  where
    the_sum : (a b : ℕ) → a ≤ b → a + (b - a) ≡ b
    the_sum a b le = omega (arith, le)
