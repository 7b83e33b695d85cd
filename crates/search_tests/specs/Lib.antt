pub mod MadeUp
