-- Laws of counting. Assumes nothing.
--     Batches   batches, and the public call
--     Traces    the rules' traces, computed
pub mod Batches
pub mod Traces
