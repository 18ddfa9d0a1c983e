use Rattle.frame_display.proofs.frame_display.FrameDisplayDisplay.finish.Goals as goal

pub finish-requires-sync-R : goal.finish-requires-sync-R
finish-requires-sync-R g c κs within = c.requires.last.0
