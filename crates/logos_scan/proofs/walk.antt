pub mod BlocksLemmas
pub mod WalkLemmas
pub mod MaskLemmas
pub mod CursorLemmas
