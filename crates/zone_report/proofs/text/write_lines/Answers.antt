use Rattle.std.proofs.Common.{rules, true, ◌≡◌, ◌∙◌, sym, take, drop}
use Rattle.std.specs.Prelude.{string_bytes}
use Rattle.zone_report.proofs.TextLaws.{BeginsOtherwise, short-otherwise, Reads-more, Reads-whole, Reads-lines}
use Rattle.zone_report.proofs.text.write_lines.Goals as goal
use Rattle.zone_report.proofs.text.write_lines.Goals.{in-Some+in_default-decode, in_default}

pub loop-front-preserved : goal.loop-front-preserved
loop-front-preserved c =
    let front : c.in-Some.front.now ≡ take 64 c.loop-front.rest.now = search rules in
    let after : c.in-Some.after.now ≡ drop 64 c.loop-front.rest.now = search rules in
    let more = Reads-more c.args.bytes.now (string_bytes c.args.text.now) c.loop-front.rest.now (string_bytes c.loop-front.text) c.in-Ok.descriptor c.in-Ok.ensures.ok.1 (sym front ∙ c.in-Ok.ensures.ok.0) (λ e fits is. let same = c.in-Ok.ensures.encoded e fits (front ∙ is) in cc) c.loop-front.invariant in
    rw (after, c.in_ok-write_line.ensures.ok) more

pub returns-then-is_zeros-clause-ok : goal.returns-then-is_zeros-clause-ok
returns-then-is_zeros-clause-ok c = Reads-whole _ _ _ _ c.loop-front.invariant (c.is_zeros.ensures.0 c.if-is_zeros.true)

pub returns-then-is_zeros-clause-reads : goal.returns-then-is_zeros-clause-reads
returns-then-is_zeros-clause-reads c ds lists =
    let other : BeginsOtherwise c.loop-front.rest.now = elim c.match-split_first_chunk.branch [
      | in-Some+in_default-decode w ↦ λ d fits is. w.in_default-decode.not-Ok d (w.decode.ensures.encoded d fits (w.in-Some.ensures.cases.0 ∙ is))
      | in_default w ↦ short-otherwise c.loop-front.rest.now w.in_default.ensures.cases
    ] in
    (Reads-lines _ _ _ _ c.loop-front.invariant other ds lists).1

pub returns-else-is_zeros-clause-reads : goal.returns-else-is_zeros-clause-reads
returns-else-is_zeros-clause-reads c ds lists =
    let other : BeginsOtherwise c.loop-front.rest.now = elim c.match-split_first_chunk.branch [
      | in-Some+in_default-decode w ↦ λ d fits is. w.in_default-decode.not-Ok d (w.decode.ensures.encoded d fits (w.in-Some.ensures.cases.0 ∙ is))
      | in_default w ↦ short-otherwise c.loop-front.rest.now w.in_default.ensures.cases
    ] in
    let zeros : c.is_zeros.result ≡ true = c.is_zeros.ensures.1 (Reads-lines _ _ _ _ c.loop-front.invariant other ds lists).0 in
    cc
