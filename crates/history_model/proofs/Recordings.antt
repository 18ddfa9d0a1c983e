-- Marks of recordings give no acts.
use Rattle.std.proofs.Common.{◌≡◌, ℕ, [], refl}
use Rattle.std.specs.Prelude.{Some}
use Rattle.std.proofs.lemmas.Option.{none-some}
use Rattle.play_types.specs.Commands.{mark_of}
use Rattle.play_types.specs.declared.command.Cmd.{Cmd}
use Rattle.play_types.specs.declared.command.Cmd.TheVariants.{Load, LoadBg, Play, PlayTake, Pause, Resume, StopLayer, ClearLayer, ClearChannel, SwapLayers, SwapChannels, Set, CommitMixer, ResetLayer, ResetChannel, AddFile, RemoveFile, Value, Info}
use Rattle.play_types.specs.declared.shape.Recording.{Recording}
use Rattle.history_model.specs.stage.Act.{acts_of}

-- the acts of a mark
pub acts_of-mark : (t : ℕ) (cmd : Cmd) (mark : Recording) → mark_of cmd ≡ Some mark → acts_of t cmd ≡ []
acts_of-mark t (Load at take) mark is = absurd (none-some mark is)
acts_of-mark t (LoadBg at take) mark is = absurd (none-some mark is)
acts_of-mark t (Play at) mark is = absurd (none-some mark is)
acts_of-mark t (PlayTake at take) mark is = absurd (none-some mark is)
acts_of-mark t (Pause at) mark is = absurd (none-some mark is)
acts_of-mark t (Resume at) mark is = absurd (none-some mark is)
acts_of-mark t (StopLayer at) mark is = absurd (none-some mark is)
acts_of-mark t (ClearLayer at) mark is = absurd (none-some mark is)
acts_of-mark t (ClearChannel channel) mark is = absurd (none-some mark is)
acts_of-mark t (SwapLayers a b transforms) mark is = absurd (none-some mark is)
acts_of-mark t (SwapChannels a b transforms) mark is = absurd (none-some mark is)
acts_of-mark t (Set setting) mark is = absurd (none-some mark is)
acts_of-mark t (CommitMixer channel) mark is = absurd (none-some mark is)
acts_of-mark t (ResetLayer at) mark is = absurd (none-some mark is)
acts_of-mark t (ResetChannel channel) mark is = absurd (none-some mark is)
acts_of-mark t (AddFile channel name) mark is = refl
acts_of-mark t (RemoveFile channel) mark is = refl
acts_of-mark t (Value at prop) mark is = absurd (none-some mark is)
acts_of-mark t Info mark is = absurd (none-some mark is)
