-- Counts as text, a line for each.
use Rattle.std.specs.Prelude.{ℕ, ◌*◌, ◌/◌, ◌%◌, ◌==◌, if◌then◌else◌, List, [], ◌++◌, codes, decimal}
use Rattle.drive_counter.specs.declared.counts.Counts.{Counts}
use Rattle.drive_counter.specs.declared.spread.Spread.{Spread}

unfoldable pub line : List ℕ → ℕ → List ℕ
line name number = name ++ codes " " ++ decimal number ++ codes "\n"

-- each clean resets one zone
unfoldable pub block_lines : Counts → List ℕ
block_lines counts =
    line (codes "host blocks") counts.host_blocks
    ++ line (codes "all blocks") counts.blocks
    ++ line (codes "moved blocks") counts.moved_blocks
    ++ line (codes "cleans") counts.resets

-- blocks for each block of the host, in hundredths, rounded down
abbrev pub hundredths : ℕ → ℕ → ℕ
hundredths blocks host = (blocks % host) * 100 / host

unfoldable pub amplification_line : ℕ → ℕ → List ℕ
amplification_line blocks host =
    if host == 0 then codes "write amplification -\n"
    else codes "write amplification " ++ decimal (blocks / host) ++ codes "."
    ++ decimal (hundredths blocks host / 10) ++ decimal (hundredths blocks host % 10) ++ codes "\n"

unfoldable pub command_lines : Counts → List ℕ
command_lines counts =
    line (codes "appends") counts.appends
    ++ line (codes "reads") counts.reads
    ++ line (codes "closes") counts.closes
    ++ line (codes "finishes") counts.finishes
    ++ line (codes "resets") counts.resets
    ++ line (codes "reports") counts.reports
    ++ line (codes "other commands") counts.others

unfoldable pub live_lines : Spread → List ℕ
live_lines live =
    line (codes "least live") live.least
    ++ line (codes "median live") live.median
    ++ line (codes "most live") live.most

-- how many zones no clean takes, only if there are any
unfoldable pub left_out_lines : ℕ → List ℕ
left_out_lines zones = if zones == 0 then [] else line (codes "zones left out") zones

abbrev pub statistics_lines : Counts → Spread → ℕ → List ℕ
statistics_lines counts live left_out =
    block_lines counts ++ amplification_line counts.blocks counts.host_blocks ++ command_lines counts ++ live_lines live
    ++ left_out_lines left_out
