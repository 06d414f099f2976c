use Rattle.std.proofs.Common.{◌≡◌, ◌∙◌, ◌++◌, ◌-◌, ℕ, take, drop, replicate, refl, ap}
use Rattle.nvme_wire.specs.Descriptor.{report_head_bytes}
use Rattle.zone_report.proofs.ReportLaws.{written_over}
use Rattle.zone_report.proofs.report.finish.Goals as goal

pub returns-clause-ok : goal.returns-clause-ok
returns-clause-ok c =
    let old = c.args.bytes.now in
    let head = report_head_bytes (record { zones = c.args.zones }) in
    let resized = c.in_ok-resize.ensures.items ∙ ap (λ (n : ℕ). take c.args.size old.items ++ replicate (c.args.size - n) 0) old.ok.0 in
    let written : c.write_head.new.bytes ≡ head ++ drop 64 c.resize.new.self.items = c.write_head.ensures ∙ ap (λ bytes. head ++ drop 64 bytes) c.deref_mut.ensures.value in
    written_over old.items c.args.size c.resize.new.self.items head c.write_head.new.bytes _ c.requires.0 c.requires.1 refl resized written c.resize.new.self.ok.0
