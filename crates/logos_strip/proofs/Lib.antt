mod WritingLemmas
mod once
mod again
mod CompleteLemmas
