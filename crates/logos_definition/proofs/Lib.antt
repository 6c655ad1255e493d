mod ErrorLemmas
mod ArgumentLemmas
mod AttributeLemmas
