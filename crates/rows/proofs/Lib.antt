-- Lists with zeros laid below; where stretches stand; crossed edges by words; the busy samples of a stretch.
pub mod Window
pub mod Stretches
pub mod Cut
pub mod Busy
