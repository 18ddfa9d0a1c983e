use Rattle.std.proofs.Common.{◌∙◌, All, ap, subst, sym}
use Rattle.play_types.specs.Media.{IsMediaName}
use Rattle.play_journal.specs.Journal.{IsJournal}
use Rattle.history_replay.specs.Replay.{IsTextName}
use Rattle.stage_lock.specs.Views.{Sizes}
use Rattle.server_run.specs.inner.Threads.{sessions_in}
use Rattle.server_run.proofs.IsBeginning.{sizes_begun}
use Rattle.server_run.proofs.run_memory.RunMemory.take.Goals as goal

pub returns : goal.returns
returns g c =
    let same = c.in_ok-room.ensures.names in
    let stage = c.args.beginning.stage in
    let begins = c.requires.stage in
    let sizes = sizes_begun c.args.config.now c.args.media.now stage _ begins c.in_ok-shared.ensures.sizes in
    record {
      on = record {
        config = c.in_ok-room.ensures.config;
        names = subst (All IsMediaName) same c.in_ok-room.ensures.ranges;
        texts = subst (All IsTextName) same c.in_ok-room.ensures.texts;
        written = begins.written;
        running = begins.running;
        few = (subst IsJournal c.journal.ensures c.ticks-ticks.ensures.range).ticks;
      };
      names = same;
      frames = c.requires.frames;
      last = c.requires.last;
      pipe = c.in_ok-room.ensures.pipe;
      sizes_are = sizes;
      threads = record {
        many = ap (λ (s : Sizes). s.passes) sizes;
        passes = c.in_ok-shared.ensures.passes;
        sessions = c.in_ok-shared.ensures.sessions
            ∙ ap (λ (s : Sizes). sessions_in s.given c.args.config.now.connections) (sym sizes);
        connection_workers = c.in_ok-room.ensures.empty;
        room = c.in_ok-room.ensures.many;
      };
    }
