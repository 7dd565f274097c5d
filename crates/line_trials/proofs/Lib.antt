mod HeldLemmas
mod Refusals
