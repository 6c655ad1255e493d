pub mod RunLaws
pub mod CharacterLaws
pub mod OpeningLaws
pub mod EndLaws
pub mod BodyLaws
pub mod PieceLaws
pub mod LexemeLaws
pub mod again
