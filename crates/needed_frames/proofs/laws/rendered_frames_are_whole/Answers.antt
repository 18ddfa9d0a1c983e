use Rattle.std.proofs.Common.{◌≤◌, arith}
use Rattle.play_types.specs.History.{ticks}
use Rattle.needed_frames.proofs.Rendering.{from-whole, whole-last, whole_frame}
use Rattle.needed_frames.proofs.laws.rendered_frames_are_whole.Goals as goal

pub returns-clause-frame : goal.returns-clause-frame
returns-clause-frame c setup from history entries prev next channel early is made h =
    let late : from ≤ ticks history = omega (arith, early) in
    whole_frame setup from history entries prev next late is made channel h early

pub returns-clause-all : goal.returns-clause-all
returns-clause-all c setup from history entries frames early is = from-whole setup from history entries frames early is

pub returns-clause-last : goal.returns-clause-last
returns-clause-last c setup from history entries frames early is = whole-last setup from history entries frames is early
