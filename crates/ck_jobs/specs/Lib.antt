pub mod Ends
pub mod Results
pub mod Room
pub mod OnHt
pub mod OnArray
pub mod Lists
