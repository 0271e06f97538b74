pub mod FilesLemmas
pub mod BytesLemmas
