use Rattle.std.proofs.Common.{◌≡◌, refl, arith, rules}
use Rattle.hex.specs.Hex.{IsBytes}
use Rattle.disk_files.specs.RawLine.{raw_reply_text}
use Rattle.disk_files.proofs.RawTextLaws.{first_line-raw_reply, raw_of-raw_text}
use Rattle.tool_forms.proofs.line.raw_line.Goals as goal

pub returns : goal.returns
returns c =
    let bytes = c.args.bytes.now in
    let beside = c.args.beside.now in
    let fits : IsBytes bytes = λ i. let f = c.type_inv.bytes i in omega arith in
    let clean : IsBytes beside = λ i. let f = c.type_inv.beside i in omega arith in
    let is : c.push.new.self.items ≡ raw_reply_text bytes beside = search rules in
    let first = first_line-raw_reply bytes beside fits clean in
    record { ends = rw (is, first) refl; read = rw (is, first, ← c.requires) (raw_of-raw_text bytes beside fits clean) }
