-- Over the lists of neighbours a round is a round by definition (Linked, Ready); one outcome.
pub mod Linked
pub mod Ready
pub mod OneSmoothed
