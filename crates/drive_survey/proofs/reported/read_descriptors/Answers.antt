use Rattle.std.proofs.Common.{◌≡◌, arith, sym, ◌∙◌, Ok}
use Rattle.drive_survey.proofs.ReportLaws.{in-front, left-all, none-left}
use Rattle.drive_survey.proofs.reported.read_descriptors.Goals as goal

pub loop-front-init : goal.loop-front-init
loop-front-init c geometry zones tells = rw c.new-reported.ensures.items (left-all geometry c.args.capacity zones c.args.bytes.now tells)

pub returns-in_default-decode : goal.returns-in_default-decode
returns-in_default-decode c geometry zones tells =
    let cases = c.in-Some.ensures.cases in
    let f = in-front geometry c.args.capacity zones c.loop-front.reported.items c.args.bytes.now c.loop-front.rest.now c.in-Some.front.now c.in-Some.after.now tells (omega (arith, cases.2)) cases.0 cases.1 (c.loop-front.invariant geometry zones tells) in
    absurd (c.in_default-decode.not-Ok f.0 (c.decode.ensures.encoded f.0 f.1.fits f.1.is))

pub loop-front-smaller : goal.loop-front-smaller
loop-front-smaller c = let cases = c.in-Some.ensures.cases in omega (arith, cases.2)

pub loop-front-preserved : goal.loop-front-preserved
loop-front-preserved c geometry zones tells =
    let cases = c.in-Some.ensures.cases in
    let f = in-front geometry c.args.capacity zones c.loop-front.reported.items c.args.bytes.now c.loop-front.rest.now c.in-Some.front.now c.in-Some.after.now tells (omega (arith, cases.2)) cases.0 cases.1 (c.loop-front.invariant geometry zones tells) in
    let found : Ok c.in-Ok.descriptor ≡ Ok f.0 = sym c.in-Ok.is ∙ c.decode.ensures.encoded f.0 f.1.fits f.1.is in
    let same : c.in-Ok.descriptor ≡ f.0 = cc in
    let told = c.readable_blocks.ensures geometry f.1.zone (rw same f.1.describes) in
    rw c.in_ok-push.ensures.items (f.1.more (record { state = c.in-Ok.descriptor.state; blocks = c.readable_blocks.result }) told)

pub returns : goal.returns
returns c geometry zones tells = none-left geometry zones c.loop-front.reported.items c.loop-front.rest.now c.in_default.ensures.cases (c.loop-front.invariant geometry zones tells)
