mod Integers
pub mod Shorter
pub mod ItemRows
mod PartBits
pub mod Deciding
mod PartRows
pub mod WellRows
mod Tails
pub mod Consuming
pub mod FunForm
pub mod FormSound
pub mod FormComplete
mod OneTerm
pub mod NumbersRead
pub mod NamesRead
pub mod TermsRead
pub mod BitsRead
