pub mod Picks
pub mod Linked
pub mod Places
pub mod PlaceView
pub mod Named
pub mod ScriptMap
