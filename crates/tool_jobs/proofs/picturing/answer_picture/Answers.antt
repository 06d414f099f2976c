use Rattle.tool_jobs.specs.Pictures.{DrawsNone, FindsPicture}
use Rattle.tool_jobs.proofs.TellingLaws.{told-ok, untold-err}
use Rattle.tool_jobs.proofs.picturing.answer_picture.Goals as goal

pub returns-clause-ok : goal.returns-clause-ok
returns-clause-ok g c =
    told-ok (FindsPicture (g.I.Read.remaining c.args.bytes.now)) (g.F.Form.shows c.args.form.now)
    (g.W.Write.contents c.args.output.now) (g.W.Write.contents c.tell.new.output) c.in_ok-pictured.pictured c.in_ok-pictured.ensures.ok c.tell.result c.tell.ensures.ok

pub returns-clause-err : goal.returns-clause-err
returns-clause-err g c =
    untold-err (FindsPicture (g.I.Read.remaining c.args.bytes.now)) (g.F.Form.shows c.args.form.now)
    (g.W.Write.contents c.args.output.now) (g.W.Write.contents c.tell.new.output) c.in_ok-pictured.pictured c.in_ok-pictured.ensures.ok
    (DrawsNone (g.I.Read.remaining c.args.bytes.now)) c.tell.result c.tell.ensures.err
