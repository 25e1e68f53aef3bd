pub mod Lower
pub mod Band
