-- The side that renders and writes.
use Rattle.std.specs.Prelude.{◌≡◌, ℕ, ◌<◌, false, Option, Some, None, List, [], ◌∷◌, ◌++◌, length}
use Rattle.std.specs.List.{list_any}
use mathlib.Core.List.{IsPrefix}
use Rattle.play_types.specs.Scene.{IsConfigured}
use Rattle.play_types.specs.declared.drawn.Drawn.{Drawn}
use Rattle.play_types.specs.declared.event.Event.{Event}
use Rattle.play_outside.specs.SinkState.{SinkState, after_taking}
use Rattle.play_outside.specs.Sink.{Fails}
use Rattle.clip_format.specs.Table.{Entry}
use Rattle.stage_lock.specs.Views.{SharedView}
use Rattle.play_scene.specs.Frames.{FrameView, frame_at}
use Rattle.band_render.specs.Rendered.{AreRendered}
use Rattle.scene_pipe.specs.declared.item.Taken.{Taken}
use Rattle.scene_pipe.specs.declared.item.Taken.TheVariants.{Staged, Done}
use Rattle.scene_pipe.specs.declared.item.Returned.{Returned}
use Rattle.scene_pipe.specs.declared.item.Returned.TheVariants.{Free, Broken}
use Rattle.scene_pipe.specs.Calls.{GetsTaken}
use Rattle.scene_pipe.specs.Counts.{free_before_news}
use Rattle.scene_pipe.specs.Items.{IsClosed}
use Rattle.scene_pipe.specs.Views.{WriteView}
use Rattle.play_ticker.specs.Frames.{AreLast}
use Rattle.play_ticker.specs.Outputs.{AllTakeFrames, Beginning, EachOutput, IsCutAt, shown_from}
use Rattle.play_ticker.specs.inner.Items.{AllFit, is_broken, staged_item, staged_of}
use Rattle.play_ticker.specs.declared.writing.ItemOutcome.{ItemOutcome}
use Rattle.play_ticker.specs.declared.writing.ItemOutcome.TheVariants as outcome

-- the bytes of the frame of a channel, and of its sound
abbrev pub bytes_in : List FrameView → ℕ → List ℕ
bytes_in frames channel = (frame_at channel frames).bytes ++ (frame_at channel frames).sound

-- the outputs of the channels below `failed` took their bytes, the output of `failed` failed on its bytes, and those above took nothing
pub record FailsAt (failed : ℕ) (bytes : ℕ → List ℕ) (channel : ℕ) (old new : SinkState) : Type 0 where
  pub below : channel < failed → new ≡ after_taking old (bytes channel)
  pub failing : channel ≡ failed → Fails (bytes channel) old new
  pub above : failed < channel → new ≡ old

-- the side that writes may begin: each channel of its end of the pipe has a frame, and each frame an output; the frames are those of the last
-- tick among the events that the stage was given, and blank if there is none; and the end has taken nothing, and given nothing back
pub record MayWrite (stage : SharedView) (entries : List Entry) (pipe : WriteView) (frames : List FrameView) (outputs : ℕ) : Type 0 where
  pub channels : pipe.channels ≡ length frames
  pub last : AreLast stage.sizes.given entries frames
  pub outs : outputs ≡ length frames
  pub taken : pipe.taken ≡ []
  pub given : pipe.given ≡ []

-- what the side that writes has: its end of the pipe, the frames that were rendered last, and the outputs
pub record Writing (O : Type 0) : Type 0 where
  pub pipe : WriteView
  pub frames : List FrameView
  pub outs : List O

-- the end of the pipe has kept its pipe and its channels
pub record IsSameEnd (old new : WriteView) : Type 0 where
  pub pipe : new.pipe ≡ old.pipe
  pub channels : new.channels ≡ old.channels

-- the end mark was taken after other items, and sets were given back as free
pub record GivesBack (old new : WriteView) : Type 0 where
  pub closed : IsClosed new.taken
  pub taken : IsPrefix old.taken new.taken
  pub back : List Returned
  pub given : new.given ≡ old.given ++ back
  pub free : list_any is_broken back ≡ false
  pub same : IsSameEnd old new

-- the report that the output of a channel failed was given back once
pub record TellsOnce (failed : ℕ) (given : List Returned) : Type 0 where
  pub before : List Returned
  pub scenes : List (List Drawn)
  pub after : List Returned
  pub whole : given ≡ before ++ Broken failed scenes ∷ after
  pub first : list_any is_broken before ≡ false
  pub once : list_any is_broken after ≡ false

module _ {O : Type 0} where
  -- a set was taken and rendered, `Holds` is true of each output, and the set was given back with `back`
  pub record WritesSet (entries : List Entry) (Holds : List FrameView → ℕ → O → O → Type 0) (back : List (List Drawn) → Returned) (old new : Writing O) : Type 0 where
    pub tick : ℕ
    pub scenes : List (List Drawn)
    pub got : WriteView
    pub gets : GetsTaken (Staged tick scenes) old.pipe got
    pub rendered : AreRendered old.frames entries scenes new.frames
    pub outs : EachOutput (Holds new.frames) 1 old.outs new.outs
    pub gives : new.pipe ≡ record got { given = got.given ++ back scenes ∷ [] }

  -- what is done with the next item, by its outcome
  abbrev pub MakesWrite : (O → SinkState) → List Entry → ItemOutcome → Writing O → Writing O → Type 0
  MakesWrite state entries outcome.Written old new =
      WritesSet entries (λ frames channel before after. state after ≡ after_taking (state before) (bytes_in frames channel)) (λ scenes. Free scenes) old new
  MakesWrite state entries outcome.Done old new = GetsTaken Done old.pipe new.pipe × (new.frames ≡ old.frames) × (new.outs ≡ old.outs)
  MakesWrite state entries (outcome.Failed failed) old new =
      IsConfigured (length old.frames) failed × WritesSet entries (λ frames channel before after. FailsAt failed (bytes_in frames) channel (state before) (state after)) (λ scenes. Broken failed scenes) old new

  -- the output of a channel failed at one of the sets that were taken
  pub record IsCutTaken (state : O → SinkState) (beginning : Beginning) (failed : ℕ) (old new : Writing O) : Type 0 where
    pub before : List Taken
    pub tick : ℕ
    pub scenes : List (List Drawn)
    pub after : List Taken
    pub whole : before ++ Staged tick scenes ∷ after ≡ new.pipe.taken
    pub told : TellsOnce failed new.pipe.given
    pub free : free_before_news new.pipe.given ≡ length before
    pub outs : (history : List Event) → staged_of new.pipe.channels beginning.given history ≡ before → staged_item new.pipe.channels (beginning.given ++ history) ≡ Staged tick scenes
        → EachOutput (λ channel b a. IsCutAt failed (shown_from beginning history) channel (state b) (state a)) 1 old.outs new.outs

  -- no output failed: each took the frames of every history that has the sets that were taken
  pub record IsWhole (state : O → SinkState) (beginning : Beginning) (old new : Writing O) : Type 0 where
    pub free : list_any is_broken new.pipe.given ≡ false
    pub outs : (history : List Event) → staged_of new.pipe.channels beginning.given history ++ Done ∷ [] ≡ new.pipe.taken → AllTakeFrames state (shown_from beginning history) old.outs new.outs

  -- what was written, by whether an output failed
  abbrev pub IsWrittenBy : (O → SinkState) → Beginning → Option ℕ → Writing O → Writing O → Type 0
  IsWrittenBy state beginning None old new = IsWhole state beginning old new
  IsWrittenBy state beginning (Some failed) old new = IsConfigured (length old.frames) failed × IsCutTaken state beginning failed old new

  -- all sets up to the end mark were taken, and written up to the first failure
  pub record HasWritten (state : O → SinkState) (beginning : Beginning) (failed : Option ℕ) (old new : Writing O) : Type 0 where
    pub closed : IsClosed new.pipe.taken
    pub same : IsSameEnd old.pipe new.pipe
    pub written : AllFit new.pipe.channels new.pipe.taken → IsWrittenBy state beginning failed old new
