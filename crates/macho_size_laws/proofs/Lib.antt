pub mod Rising
pub mod Trees
pub mod Texts
pub mod One
