mod DeriveLemmas
mod FrontLemmas
mod FindLemmas
mod OrderLemmas
mod ReplaceLemmas
mod CutLemmas
mod NameLemmas
mod PathLemmas
