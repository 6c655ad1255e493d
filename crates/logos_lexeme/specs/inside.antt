pub mod CommentReads
pub mod LiteralReads
