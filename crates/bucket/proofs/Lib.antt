-- Laws by subject: the ends of edges and their counts, and what the buckets hold of edges from two sources. Nothing here needs to be
-- believed: it is all proved.
pub mod Charging
pub mod Ends
pub mod Filing
pub mod LowerCounts
pub mod LowerEnds
pub mod Reading
pub mod Regrouped
pub mod Sources
pub mod Sweeping
pub mod Upper
pub mod Weighed
