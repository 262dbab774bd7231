pub mod Answer
pub mod Matters
pub mod Answers
