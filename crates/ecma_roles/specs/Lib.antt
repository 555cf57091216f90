pub mod Fast
pub use Rattle.ecma_role_tracks.specs.Rank
pub use Rattle.ecma_role_tracks.specs.Slashes
pub use Rattle.ecma_role_tracks.specs.Track
