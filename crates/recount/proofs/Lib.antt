-- Laws of a recount. Assumes nothing.
--     CallLaws     the call, by what its checks find and what its lines come to
pub mod CallLaws
