-- What the check goes by where a call returns at the first of its tests that applies.
-- Assumes nothing.
use Rattle.refusal.proofs.First.{pass, stop, first-last}

pub ruleset early_returns = (pass, stop, first-last)
