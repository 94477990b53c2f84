-- What reading a log answers, and what the inner functions of `log_reader` ask and give; what a log is and how it is read is defined in
-- `season_log`. Assumes nothing.
pub mod Answers
pub mod Inner
