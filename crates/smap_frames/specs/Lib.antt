pub mod FormView
pub mod Forms
pub mod Frame
pub mod FrameView
pub mod Laws
pub mod Places
pub mod Reading
