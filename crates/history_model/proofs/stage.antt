-- Lemmas on the state of the stage. They go with specs/stage/StageState.antt, specs/stage/StageHistory.antt and
-- specs/pictures/StageScene.antt.
pub mod Changes
pub mod Refusals
pub mod Histories
pub mod Shown
