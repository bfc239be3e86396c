pub mod ValueRows
pub mod RecordRows
