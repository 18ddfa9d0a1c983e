use Rattle.osc_status.proofs.status_message.add_message.Goals as goal

pub returns-in-Frame : goal.returns-in-Frame
returns-in-Frame g c = rw c.in-Frame.is c.add_frame.ensures
