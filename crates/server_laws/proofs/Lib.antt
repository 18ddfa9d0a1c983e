mod Filmed
mod HasServedClients
mod HistoryOutput
mod IsAnsweredAgain
mod IsOpenedAgain
mod IsReplayable
mod IsShownAgain
mod LoggedAgain
