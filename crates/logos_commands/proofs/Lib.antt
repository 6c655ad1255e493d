mod LexingLemmas
mod LineLemmas
mod RefusalLemmas
mod RunLemmas
