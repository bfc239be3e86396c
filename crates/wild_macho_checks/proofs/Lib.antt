pub mod RowsAnswered
pub mod AnsweredRow
