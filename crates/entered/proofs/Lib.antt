pub mod Entered
pub mod PaperIs
pub mod Machines
pub mod Two
pub mod Rule3
pub mod Does
pub mod One
