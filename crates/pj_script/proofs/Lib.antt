pub mod LineBlanks
pub mod LineLoop
pub mod LineNumbers
pub mod LinePieces
pub mod LineScripts
pub mod LineSpelling
