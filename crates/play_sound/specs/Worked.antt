-- Words for the worked examples: a clip, layers that give sounds, and the bytes of what they make together.
use Rattle.std.specs.Prelude.{ℕ, ℤ, pos, false, List, [], ◌∷◌, Some}
use Rattle.play_types.specs.Transition.{TransView}
use Rattle.play_types.specs.declared.transition.Curve.TheVariants.{Linear}
use Rattle.play_types.specs.declared.transition.Kind.TheVariants.{Wipe}
use Rattle.play_types.specs.declared.drawn.Still.{Still}
use Rattle.play_types.specs.declared.drawn.Still.TheVariants.{Frame}
use Rattle.play_types.specs.declared.drawn.Drawn.{Drawn}
use Rattle.play_scene.specs.Frames.{FrameView}
use Rattle.play_scene.specs.Worked.{layer_of}
use Rattle.play_sound.specs.Sounds.{Sounds, bytes_of_samples, mixed_sample, sample_in}

-- the frame of channel 1 at the tick before: one pixel, and the pairs 1 and -1, 256 and -256, 32767 and -32768
abbrev pub frame_before : FrameView
frame_before = record {
  size = record { width = 1; height = 1; pairs = 3 };
  bytes = 0 ∷ 0 ∷ 0 ∷ 0 ∷ [];
  sound = 0x01 ∷ 0x00 ∷ 0xFF ∷ 0xFF ∷ 0x00 ∷ 0x01 ∷ 0x00 ∷ 0xFF ∷ 0xFF ∷ 0x7F ∷ 0x00 ∷ 0x80 ∷ [];
}

-- clip 0, which has one frame of one pixel and the pairs 1000 and -1000, 32767 and -32768; and channel 1
abbrev pub sounds : Sounds
sounds = record {
  setup = record {
    channels = frame_before.size ∷ [];
    clips = Some (record {
      version = 1;
      geometry = record { width = 1; height = 1; pairs = 2 };
      frames = 1;
      bytes = 0 ∷ 0 ∷ 0 ∷ 0xFF ∷ 0xE8 ∷ 0x03 ∷ 0x18 ∷ 0xFC ∷ 0xFF ∷ 0x7F ∷ 0x00 ∷ 0x80 ∷ [];
    }) ∷ [];
  };
  samples = λ channel pair side. sample_in frame_before pair side;
}

-- a layer that shows a still, at a volume in millionths
abbrev pub layer : Still → ℤ → Drawn
layer still volume = record (layer_of still) { volume = volume }

-- the clip, at a volume in millionths
abbrev pub tone : ℕ → Drawn
tone volume = layer (Frame 0 0) (pos volume)

-- a wipe of four ticks
abbrev pub wipe : TransView
wipe = record { kind = Wipe; duration = 4; curve = Linear; leftward = false }

-- the bytes of the sound of layers on a channel with this many pairs
abbrev pub bytes_of : ℕ → List Drawn → List ℕ
bytes_of pairs layers = bytes_of_samples pairs (mixed_sample sounds layers)
