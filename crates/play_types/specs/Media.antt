-- What contracts see of the names of the media table.
use Rattle.std.specs.Prelude.{◌≡◌, ℕ, ◌≤◌, Bool, true, false, List}
use Rattle.play_types.specs.Geometry.{IsSize}
use Rattle.play_types.specs.declared.clip.TheConstants.{MAX_FRAMES}
use Rattle.play_types.specs.declared.geometry.Geometry.{Geometry}

-- the name of a clip, and its size and frames if the clip is readable
pub record MediaNameView : Type 0 where
  pub name : List ℕ
  pub readable : Bool
  pub width : ℕ
  pub height : ℕ
  pub frames : ℕ
  pub pairs : ℕ

-- the name of a readable clip of this size, with `frames` frames
abbrev pub clip_name : List ℕ → Geometry → ℕ → MediaNameView
clip_name name size frames = record {
  name = name;
  readable = true;
  width = size.width;
  height = size.height;
  frames = frames;
  pairs = size.pairs;
}

-- the name of a clip that cannot be read has no numbers
abbrev pub unreadable_name : List ℕ → MediaNameView
unreadable_name name = record { name = name; readable = false; width = 0; height = 0; frames = 0; pairs = 0 }

-- the numbers of a readable clip: its size in range, and 1 to 1,000,000 frames
pub record AreClipNumbers (size : Geometry) (frames : ℕ) : Type 0 where
  pub in_range : IsSize size.width size.height size.pairs
  pub some_frames : 1 ≤ frames
  pub few_frames : frames ≤ MAX_FRAMES

-- the size that a name gives
abbrev pub named_size : MediaNameView → Geometry
named_size media = record { width = media.width; height = media.height; pairs = media.pairs }

-- a clip that cannot be read has no numbers
pub record HasNoNumbers (media : MediaNameView) : Type 0 where
  pub width : media.width ≡ 0
  pub height : media.height ≡ 0
  pub frames : media.frames ≡ 0
  pub pairs : media.pairs ≡ 0

-- the numbers of a name, by whether its clip is readable
abbrev pub AreKept : Bool → MediaNameView → Type 0
AreKept true media = AreClipNumbers (named_size media) media.frames
AreKept false media = HasNoNumbers media

-- a name that the table may hold
abbrev pub IsMediaName : MediaNameView → Type 0
IsMediaName media = AreKept media.readable media
