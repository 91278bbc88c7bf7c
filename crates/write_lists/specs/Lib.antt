-- Command lists: the call. Definitions only.
pub mod Lists
pub mod Ready
