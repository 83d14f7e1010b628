-- What the C interface returns and leaves, as the rules reply.
pub mod Words
pub mod Cursor
pub mod Listing
pub mod Append
pub mod Record
