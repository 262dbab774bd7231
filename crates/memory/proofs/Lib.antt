pub mod Spans
pub mod Clear
pub mod LogLaws
pub mod ByteLaws
pub mod AccessLaws
