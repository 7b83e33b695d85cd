pub mod Composing
pub mod Counting
pub mod Answering
pub mod Beginning
pub mod Completing
pub mod Repeating
pub mod Earlier
pub mod AfterLog
