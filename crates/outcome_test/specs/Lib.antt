pub mod Memos
pub mod MemoView
pub mod Resumed
pub mod Rounds
pub mod SerialView
pub mod WideView
