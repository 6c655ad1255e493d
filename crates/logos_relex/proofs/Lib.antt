pub mod ItemLemmas
pub mod ChunkLemmas
pub mod RunLemmas
pub mod MakingLemmas
pub mod AnewLemmas
pub mod PutLemmas
pub mod TextLemmas
