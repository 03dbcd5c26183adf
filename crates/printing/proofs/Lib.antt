pub mod Pushes
pub mod Digits
pub mod LineText
pub mod AnswerText
