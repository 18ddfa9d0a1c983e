-- What is known of a command that a client asks for, by the definitions of the words of its line.
use Rattle.std.proofs.Common.{◌≡◌, ℕ, ◌+◌, ◌<◌, ◌≤◌, ◌^◌, true, false, List, [], ◌∷◌, length, ℤ, pos}
use Rattle.std.specs.Prelude.{Some, None, slice_get}
use Rattle.amcp_text.specs.Micros.{printed_micro}
use Rattle.play_types.specs.Config.{ConfigView}
use Rattle.play_types.specs.Media.{MediaNameView}
use Rattle.play_types.specs.Place.{PlaceView}
use Rattle.play_types.specs.RecNames.{rec_name_of}
use Rattle.play_types.specs.Take.{TakeView}
use Rattle.play_types.specs.Transition.{TransView, cut, trans_of}
use Rattle.play_types.specs.Setting.{SettingView, duration_of, kept_curve}
use Rattle.play_types.specs.declared.place.TheConstants.{MAX_LAYER}
use Rattle.play_types.specs.declared.clip.TheConstants.{MAX_FRAMES}
use Rattle.play_types.specs.declared.transition.TheConstants.{MAX_DURATION}
use Rattle.play_types.specs.declared.take.Spec.{Spec}
use Rattle.play_types.specs.declared.take.Spec.TheVariants.{Clip, Colour, RouteChannel, RouteLayer}
use Rattle.play_types.specs.declared.setting.Prop.{Prop}
use Rattle.play_types.specs.declared.setting.Prop.TheVariants as prop
use Rattle.play_types.specs.declared.command.Cmd.{Cmd}
use Rattle.play_types.specs.declared.command.Cmd.TheVariants as cmd
use Rattle.history_model.specs.commands.Producer.{clip_named, is_colour_word, is_route_word, named_colour}
use Rattle.history_model.specs.commands.Mixer.{number_of}
use Rattle.history_model.specs.commands.Recording.{names_clip}

pub record IsChannelOf (config : ConfigView) (channel : ℕ) : Type 0 where
  pub low : 1 ≤ channel
  pub high : channel ≤ length config.channels

pub record IsPlaceOf (config : ConfigView) (place : PlaceView) : Type 0 where
  pub channel : IsChannelOf config place.channel
  pub layer : place.layer ≤ MAX_LAYER

-- the duration is in range, and a cut is kept as one
pub record IsKnownTrans (trans : TransView) : Type 0 where
  pub short : trans.duration ≤ MAX_DURATION
  pub kept : trans_of trans.kind trans.duration trans.curve trans.leftward ≡ trans

-- a clip of the media table that can be read, and that its name names
pub record IsNamedClip (media : List MediaNameView) (id : ℕ) (clip : MediaNameView) : Type 0 where
  pub at : slice_get media id ≡ Some clip
  pub found : clip_named media clip.name ≡ Some (id, clip)
  pub readable : clip.readable ≡ true
  pub colour : is_colour_word clip.name ≡ false
  pub route : is_route_word clip.name ≡ false
  pub named : named_colour clip.name ≡ None

-- such a clip, and the part of it that is played has frames
pub record IsKnownClip (media : List MediaNameView) (id : ℕ) (take : TakeView) : Type 0 where
  pub clip : MediaNameView
  pub is : IsNamedClip media id clip
  pub some : 1 ≤ take.length
  pub part : take.seek + take.length ≤ clip.frames
  pub few : clip.frames ≤ MAX_FRAMES

-- what is no clip has no frames
pub record HasNoPart (take : TakeView) : Type 0 where
  pub looped : take.looped ≡ false
  pub seek : take.seek ≡ 0
  pub length : take.length ≡ 0

abbrev pub IsKnownSpec : ConfigView → List MediaNameView → TakeView → Spec → Type 0
IsKnownSpec config media take (Clip id) = IsKnownClip media id take
IsKnownSpec config media take (Colour value) = (value < 2 ^ 32) × HasNoPart take
IsKnownSpec config media take (RouteChannel channel) = IsChannelOf config channel × HasNoPart take
IsKnownSpec config media take (RouteLayer place) = IsPlaceOf config place × HasNoPart take

pub record IsKnownTake (config : ConfigView) (media : List MediaNameView) (take : TakeView) : Type 0 where
  pub spec : IsKnownSpec config media take take.spec
  pub trans : IsKnownTrans take.trans

-- one number, or four, which are read again as they are printed
pub record IsOneNumber (property : Prop) (values : List ℤ) : Type 0 where
  pub a : ℤ
  pub is : values ≡ a ∷ pos 0 ∷ pos 0 ∷ pos 0 ∷ []
  pub again : number_of property (printed_micro a) ≡ Some a

pub record AreFourNumbers (property : Prop) (values : List ℤ) : Type 0 where
  pub a : ℤ
  pub b : ℤ
  pub c : ℤ
  pub d : ℤ
  pub is : values ≡ a ∷ b ∷ c ∷ d ∷ []
  pub again_a : number_of property (printed_micro a) ≡ Some a
  pub again_b : number_of property (printed_micro b) ≡ Some b
  pub again_c : number_of property (printed_micro c) ≡ Some c
  pub again_d : number_of property (printed_micro d) ≡ Some d

abbrev pub AreKnownNumbers : Prop → List ℤ → Type 0
AreKnownNumbers prop.Opacity values = IsOneNumber prop.Opacity values
AreKnownNumbers prop.Fill values = AreFourNumbers prop.Fill values
AreKnownNumbers prop.Clip values = AreFourNumbers prop.Clip values
AreKnownNumbers prop.Volume values = IsOneNumber prop.Volume values
AreKnownNumbers prop.Keyer values = IsOneNumber prop.Keyer values

pub record IsKnownSetting (config : ConfigView) (setting : SettingView) : Type 0 where
  pub place : IsPlaceOf config setting.place
  pub numbers : AreKnownNumbers setting.prop setting.values
  pub short : setting.duration ≤ MAX_DURATION
  pub duration : duration_of setting.prop setting.duration ≡ setting.duration
  pub curve : kept_curve setting.prop setting.curve ≡ setting.curve

-- the name of a recording, which no clip has
pub record IsKnownRecording (media : List MediaNameView) (name : List ℕ) : Type 0 where
  pub again : rec_name_of name ≡ Some name
  pub free : names_clip media name ≡ false

-- what is known of a command that a client asks for
abbrev pub IsKnown : ConfigView → List MediaNameView → Cmd → Type 0
IsKnown config media (cmd.Load place take) =
    IsPlaceOf config place × IsKnownTake config media take × (take.trans ≡ cut) × (take.auto ≡ false)
IsKnown config media (cmd.LoadBg place take) = IsPlaceOf config place × IsKnownTake config media take
IsKnown config media (cmd.Play place) = IsPlaceOf config place
IsKnown config media (cmd.PlayTake place take) = IsPlaceOf config place × IsKnownTake config media take × (take.auto ≡ false)
IsKnown config media (cmd.Pause place) = IsPlaceOf config place
IsKnown config media (cmd.Resume place) = IsPlaceOf config place
IsKnown config media (cmd.StopLayer place) = IsPlaceOf config place
IsKnown config media (cmd.ClearLayer place) = IsPlaceOf config place
IsKnown config media (cmd.ClearChannel channel) = IsChannelOf config channel
IsKnown config media (cmd.SwapLayers one other transforms) = IsPlaceOf config one × IsPlaceOf config other
IsKnown config media (cmd.SwapChannels one other transforms) = IsChannelOf config one × IsChannelOf config other
IsKnown config media (cmd.Set setting) = IsKnownSetting config setting
IsKnown config media (cmd.CommitMixer channel) = IsChannelOf config channel
IsKnown config media (cmd.ResetLayer place) = IsPlaceOf config place
IsKnown config media (cmd.ResetChannel channel) = IsChannelOf config channel
IsKnown config media (cmd.AddFile channel name) = IsChannelOf config channel × IsKnownRecording media name
IsKnown config media (cmd.RemoveFile channel) = IsChannelOf config channel
IsKnown config media (cmd.Value place property) = IsPlaceOf config place
IsKnown config media cmd.Info = Unit {0}
