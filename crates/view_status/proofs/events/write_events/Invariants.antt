use Rattle.view_status.specs.Events.{event_tokens}
use Rattle.view_status.proofs.Listed.{IsListedTo}
use Rattle.view_status.proofs.events.write_events.Given as goal

-- the events before the runs that are left were written, if they are listed
abbrev pub invariant-loop-run : goal.invariant-loop-run
invariant-loop-run l =
    IsListedTo (event_tokens l.listing.names.now l.listing.rate) l.listing.after l.journal.events l.initial.document l.document l.room l.place l.run-iterator
