pub mod Reruns
pub mod Lists
pub mod Replays
pub mod Texts
