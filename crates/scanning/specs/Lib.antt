pub mod Scanning
pub mod Agreeing
pub mod Seeking
