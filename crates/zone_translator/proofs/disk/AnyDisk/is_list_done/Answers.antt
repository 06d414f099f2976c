use Rattle.std.proofs.Common.{◌≡◌, ◌≤◌, nat_lt, true, false, length, Err, rules, arith}
use Rattle.std.specs.List.{list_all}
use Rattle.std.proofs.lemmas.Bool.Decides.{nat_tests}
use Rattle.batch_log.specs.declared.header.Entry.{Entry}
use Rattle.zone_translator.specs.View.{disk_size}
use Rattle.zone_translator.proofs.ListedDiskLaws.{all_inside, list_known, list_past, list_unknown}
use Rattle.zone_translator.proofs.disk.AnyDisk.is_list_done.Goals as goal

pub returns-then-not-has_all-clause-known : goal.returns-then-not-has_all-clause-known
returns-then-not-has_all-clause-known g c =
    let past : list_all (λ (e : Entry). nat_lt e.block (disk_size c.args.self.now)) c.args.entries.now ≡ false = grind (arith, nat_tests) in
    list_past c.args.self.now c.args.entries.now past

pub returns-in_err-check_serving-clause-known : goal.returns-in_err-check_serving-clause-known
returns-in_err-check_serving-clause-known g c =
    let fault = c.in_err-check_serving.field-0.0 in
    let is : c.from_residual.result ≡ Err fault = search rules in
    let some : 1 ≤ length c.args.entries.now = grind (arith, nat_tests) in
    let all : list_all (λ (e : Entry). nat_lt e.block (disk_size c.args.self.now)) c.args.entries.now ≡ true = grind (arith, nat_tests) in
    rw is (list_known c.args.self.now c.args.entries.now (Err fault) some all c.in_err-check_serving.ensures.known)

pub returns-clause-known : goal.returns-clause-known
returns-clause-known g c =
    let some : 1 ≤ length c.args.entries.now = grind (arith, nat_tests) in
    let all : list_all (λ (e : Entry). nat_lt e.block (disk_size c.args.self.now)) c.args.entries.now ≡ true = grind (arith, nat_tests) in
    list_unknown c.args.self.now c.args.entries.now some all c.in_ok-check_serving.ensures.serving

pub returns-clause-in_range : goal.returns-clause-in_range
returns-clause-in_range g c =
    let all : list_all (λ (e : Entry). nat_lt e.block (disk_size c.args.self.now)) c.args.entries.now ≡ true = grind (arith, nat_tests) in
    λ begun. all_inside (disk_size c.args.self.now) c.args.entries.now all
