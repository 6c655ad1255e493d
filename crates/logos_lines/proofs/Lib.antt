mod LocationLemmas
mod LineLemmas
