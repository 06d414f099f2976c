mod DistinctLaws
