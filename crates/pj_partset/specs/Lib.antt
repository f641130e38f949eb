pub mod Sets
pub mod Layout
pub mod PinLayout
