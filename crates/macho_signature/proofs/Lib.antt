pub mod Pages
pub mod Anew
pub mod Texts
pub mod Files
