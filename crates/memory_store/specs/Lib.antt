-- What the reader's answers say, and laws for the loops that read and write pages.
pub mod Reading
pub mod RankLaws
pub mod Steps
pub mod Rises
pub mod Fours
pub mod FetchLaws
pub mod Readable
pub mod Opened
pub mod Pages
pub mod Ways
pub mod WriterLaws
