use Rattle.std.proofs.Common.{take, arith, sym}
use Rattle.remount.proofs.MoveBuildLaws.{BeginsAs, begins-as, header-block, read-again}
use Rattle.remount.proofs.repair.moves.push_built.Goals as goal

pub slice_bounds-read_header-end : goal.slice_bounds-read_header-end
slice_bounds-read_header-end c = rw c.bytes.ensures (sym (begins-as c.args.block_bytes c.args.batch.now c.requires.block c.requires.heading c.requires.built).long)

pub read_header-requires-clause-room : goal.read_header-requires-clause-room
read_header-requires-clause-room c = rw c.bytes.ensures (let long = (begins-as c.args.block_bytes c.args.batch.now c.requires.block c.requires.heading c.requires.built).long in omega (arith, long, c.requires.block))

pub push-requires-clause-few : goal.push-requires-clause-few
push-requires-clause-few c =
    let b : BeginsAs c.args.block_bytes c.args.batch.now (take c.args.block_bytes c.bytes.result.now) = rw c.bytes.ensures (begins-as c.args.block_bytes c.args.batch.now c.requires.block c.requires.heading c.requires.built) in
    let same = read-again c.args.block_bytes c.args.batch.now _ c.in-Ok.header c.ranges.block_bytes.fits c.requires.heading b c.in-Ok.ensures.read.1 in
    rw same c.requires.few

pub push-requires-clause-short : goal.push-requires-clause-short
push-requires-clause-short c =
    let b : BeginsAs c.args.block_bytes c.args.batch.now (take c.args.block_bytes c.bytes.result.now) = rw c.bytes.ensures (begins-as c.args.block_bytes c.args.batch.now c.requires.block c.requires.heading c.requires.built) in
    let same = read-again c.args.block_bytes c.args.batch.now _ c.in-Ok.header c.ranges.block_bytes.fits c.requires.heading b c.in-Ok.ensures.read.1 in
    rw same c.requires.short

pub unreachable-requires : goal.unreachable-requires
unreachable-requires c =
    let b : BeginsAs c.args.block_bytes c.args.batch.now (take c.args.block_bytes c.bytes.result.now) = rw c.bytes.ensures (begins-as c.args.block_bytes c.args.batch.now c.requires.block c.requires.heading c.requires.built) in
    c.in-Err.ensures.none c.args.batch.now.heading (header-block c.args.block_bytes c.args.batch.now _ c.requires.heading b)

pub returns : goal.returns
returns c =
    let b : BeginsAs c.args.block_bytes c.args.batch.now (take c.args.block_bytes c.bytes.result.now) = rw c.bytes.ensures (begins-as c.args.block_bytes c.args.batch.now c.requires.block c.requires.heading c.requires.built) in
    let same = read-again c.args.block_bytes c.args.batch.now _ c.in-Ok.header c.ranges.block_bytes.fits c.requires.heading b c.in-Ok.ensures.read.1 in
    rw (← same) c.push.ensures
