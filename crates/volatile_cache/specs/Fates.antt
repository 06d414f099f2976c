-- Which pending blocks a cut loses, as the coins of its seed fall.
use Rattle.std.specs.Prelude.{ℕ, ◌+◌, Bool, List, [], ◌∷◌, if◌then◌else◌, min, set}
use Rattle.rand.specs.Bernoulli.{flip, threshold_of_ratio}
use Rattle.rand_core.specs.Steps.{stream_of}
use Rattle.rand_core.specs.Stream.{Stream}
use Rattle.rand_xoshiro.specs.SplitMix64.{splitmix_steps}
use Rattle.nbd_session.specs.Pending.{Pending}

-- a coin that falls so often in 100 times
abbrev pub coin_of : ℕ → Stream → Bool × Stream
coin_of odds = flip (threshold_of_ratio (min odds 100) 100)

-- what a seed makes the coins fall by
abbrev pub chance_of : ℕ → Stream
chance_of seed = stream_of splitmix_steps seed

-- The array that is left: of each block a coin is thrown, the oldest first. It is lost if the coin falls, and else written.
abbrev pub left_by : (Stream → Bool × Stream) → Stream → List Pending → List (List ℕ) → List (List ℕ)
left_by coin chance [] array = array
left_by coin chance (w ∷ ws) array = left_by coin (coin chance).1 ws (if (coin chance).0 then array else set array w.place w.block)

-- how many blocks are lost
abbrev pub lost_by : (Stream → Bool × Stream) → Stream → List Pending → ℕ
lost_by coin chance [] = 0
lost_by coin chance (w ∷ ws) = if (coin chance).0 then 1 + lost_by coin (coin chance).1 ws else lost_by coin (coin chance).1 ws
