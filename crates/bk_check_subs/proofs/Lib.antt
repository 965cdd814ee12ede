pub mod FaultJudged
