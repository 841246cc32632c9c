-- The lemmas of this crate.
mod Keeping
mod PartsTold
mod SessionKeeps
mod JobKeeps
mod SessionAgain
mod JobAgain
mod OneLook
mod SameIs
mod RulesHold
mod RowsHold
mod Judged
mod Audited
mod AuditedRuns
mod Runs
mod CarriedJudge
mod ToldSteps
