pub mod Readies
pub mod Kept
pub mod ChangedKinds
pub mod Made
pub mod Drafts
