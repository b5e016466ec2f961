pub mod Tools
pub mod Forms
pub mod Phrases
pub mod PrintedBytes
pub mod RingWords
pub mod Grammar
pub mod Parts
pub mod Whole
pub mod Texts
pub mod Refusals
pub mod Prefixes
pub mod CertifiedBlocks
pub mod Certificates
mod Examples
