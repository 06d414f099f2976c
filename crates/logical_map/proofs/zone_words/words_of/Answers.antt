use Rattle.std.proofs.Common.{rules, ◌≡◌, ◌<◌, ◌*◌, ◌+◌}
use Rattle.logical_map.proofs.Words.{word-in}
use Rattle.logical_map.proofs.zone_words.words_of.Goals as goal

pub returns-in-Some : goal.returns-in-Some
returns-in-Some c =
    let some : 0 < c.args.zone_size = search rules in
    let first : c.saturating_add.result ≡ c.args.zone * (2 * c.args.zone_size) + 1 = search rules in
    λ word few. rw first (word-in word c.args.zone_size c.args.zone some)
