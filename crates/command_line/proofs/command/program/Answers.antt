use Rattle.std.proofs.lemmas.Result.{IfOk-weaker}
use Rattle.command_line.proofs.CommandLaws.{named, subcommand_more}
use Rattle.command_line.proofs.command.program.Goals as goal

pub returns : goal.returns
returns c =
    let made = c.new.result in
    let bare = c.subcommand_required-command.result in
    let m0 = named made c.about.result c.version.result bare _ c.new.ensures.app c.about.ensures c.version.ensures c.subcommand_required-command.ensures in
    let m1 = subcommand_more made bare c.in_ok-command.command _ _ m0 (c.in_ok-command.ensures _ c.format_command.ensures) in
    let m2 = subcommand_more made c.in_ok-command.command c.in_ok-command-2.command _ _ m1 (c.in_ok-command-2.ensures _ c.run_command.ensures) in
    let m3 = subcommand_more made c.in_ok-command-2.command c.in_ok-command-3.command _ _ m2 (c.in_ok-command-3.ensures _ c.nbd_command.ensures) in
    let m4 = subcommand_more made c.in_ok-command-3.command c.in_ok-command-4.command _ _ m3 (c.in_ok-command-4.ensures _ c.export_command.ensures) in
    let m5 = subcommand_more made c.in_ok-command-4.command c.in_ok-command-5.command _ _ m4 (c.in_ok-command-5.ensures _ c.import_command.ensures) in
    let m6 = subcommand_more made c.in_ok-command-5.command c.in_ok-command-6.command _ _ m5 (c.in_ok-command-6.ensures _ c.convert_command.ensures) in
    let m7 = subcommand_more made c.in_ok-command-6.command c.in_ok-command-7.command _ _ m6 (c.in_ok-command-7.ensures _ c.rescue_command.ensures) in
    let m8 = subcommand_more made c.in_ok-command-7.command c.in_ok-command-8.command _ _ m7 (c.in_ok-command-8.ensures _ c.repair_command.ensures) in
    let m9 = subcommand_more made c.in_ok-command-8.command c.in_ok-command-9.command _ _ m8 (c.in_ok-command-9.ensures _ c.report_command.ensures) in
    let m10 = subcommand_more made c.in_ok-command-9.command c.in_ok-command-10.command _ _ m9 (c.in_ok-command-10.ensures _ c.check_command.ensures) in
    let m11 = subcommand_more made c.in_ok-command-10.command c.in_ok-command-11.command _ _ m10 (c.in_ok-command-11.ensures _ c.info_command.ensures) in
    let m12 = subcommand_more made c.in_ok-command-11.command c.in_ok-command-12.command _ _ m11 (c.in_ok-command-12.ensures _ c.plan_command.ensures) in
    let m13 = subcommand_more made c.in_ok-command-12.command c.in_ok-command-13.command _ _ m12 (c.in_ok-command-13.ensures _ c.nvme_command.ensures) in
    let m14 = subcommand_more made c.in_ok-command-13.command c.in_ok-command-14.command _ _ m13 (c.in_ok-command-14.ensures _ c.entry_command.ensures) in
    let m15 = subcommand_more made c.in_ok-command-14.command c.in_ok-command-15.command _ _ m14 (c.in_ok-command-15.ensures _ c.fresh_command.ensures) in
    IfOk-weaker c.with_subcommand-16.result _ _ (λ new adds. (subcommand_more made c.in_ok-command-15.command new _ _ m15 adds).0) (c.with_subcommand-16.ensures _ c.fresh_raw_command.ensures)
