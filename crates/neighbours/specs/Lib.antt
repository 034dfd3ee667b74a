-- What the work room holds once every point's different neighbours are listed, and what it holds on the way there.
pub mod Lists
pub mod Steps
