pub mod BracketStack
pub mod BracketView
pub mod Groups
pub mod GroupsView
pub mod GroupNames
pub mod Reading
