pub mod ValueLaws
pub mod HeldLaws
