pub mod Numbers
pub mod Texts
pub mod Layouts
pub mod Spellings
pub mod Images
pub mod Uleb
