use Rattle.std.proofs.Common.{◌≡◌, map, take}
use Rattle.write_plan.specs.Rows.{AreRows, numbers_of, share_of}
use Rattle.write_plan.proofs.aims.share_rows.Given as goal

abbrev pub invariant-loop-share : goal.invariant-loop-share
invariant-loop-share l = record {
  rows : AreRows l.geometry l.rows.items;
  numbers : numbers_of l.rows.items ≡ map (share_of l.geometry) (take l.share-index l.share-items);
}
