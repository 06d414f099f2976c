-- Blocks that are ready to be placed.
use Rattle.std.proofs.Common.{ℕ, zero, suc, ◌<◌, List, [], ◌∷◌, length, take, get_or, arith}
use Rattle.std.specs.List.{AllByRecursion}
use Rattle.batch_log.specs.declared.header.Entry.{Entry}
use Rattle.logical_map.specs.Places.{IsReady, MapView, Reserves}

-- one entry more is ready
pub ready-more : (old new : MapView) (es : List Entry) (i : ℕ) (none : Entry) → i < length es → Reserves old (get_or es i none).block new
    → AllByRecursion (λ (e : Entry). IsReady old e.block) (take i es) → AllByRecursion (λ (e : Entry). IsReady new e.block) (take (suc i) es)
ready-more old new [] i none lt reserves all = absurd (omega (arith, lt))
ready-more old new (e ∷ es) zero none lt reserves all = (reserves.here, tt)
ready-more old new (e ∷ es) (suc i) none lt reserves all = (reserves.kept e.block all.0, ready-more old new es i none (omega (arith, lt)) reserves all.1)
