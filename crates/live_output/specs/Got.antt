-- What a reader got.
use Rattle.std.specs.Prelude.{◌≡◌, ◌≤◌, ◌+◌, ◌-◌, ℕ, Option, List, ◌++◌, All, length, take, drop, option_to_list}
use Rattle.std.specs.List.{concat}
use Rattle.std.specs.Io.KnownBytes.{Appends}
use Rattle.live_output.specs.declared.reader.Reader.{Reader}
use Rattle.live_output.specs.Picked.{IsPickedFrom}

-- the frames with the numbers `from` to `to - 1`, counted from 0
abbrev pub frames_between : ℕ → ℕ → List (List ℕ) → List (List ℕ)
frames_between from to frames = take (to - from) (drop from frames)

module _ {W : Type 0} where
  -- the frame that a reader has begun, if it is in one
  abbrev pub begun : Reader W → List (List ℕ)
  begun reader = option_to_list reader.under_way

  -- the bytes that a reader got of the frame that it has begun
  abbrev pub part : Reader W → List ℕ
  part reader = take reader.at (concat (begun reader))

-- the reader got whole frames of `frames`, which came to its output, and a prefix of one more, and nothing else; `contents` gives what was
-- written to its stream, if that is known
pub record HasGot {W : Type 0} (contents : W → Option (List ℕ)) (frames : List (List ℕ)) (reader : Reader W) : Type 0 where
  -- the frames that it got whole
  pub whole : List (List ℕ)
  pub bytes : Appends (contents reader.came.value) (contents reader.to) (concat whole ++ part reader)
  -- the frames that it got came after itself, and it got them in their order
  pub order : IsPickedFrom (whole ++ begun reader) (frames_between reader.first reader.next frames)
  -- each frame that it did not get was counted
  pub counted : length whole + length (begun reader) + reader.skipped ≡ reader.next - reader.first
  pub since : reader.first ≤ reader.next
  pub until : reader.next ≤ length frames

-- the reader got whole frames of `size` bytes from the bytes `written`, in their order, and a prefix of one more
pub record GotWritten {W : Type 0} (contents : W → Option (List ℕ)) (size : ℕ) (written : List ℕ) (reader : Reader W) : Type 0 where
  pub frames : List (List ℕ)
  pub rest : List ℕ
  pub all : written ≡ concat frames ++ rest
  pub sizes : All (λ frame. length frame ≡ size) frames
  pub whole : List (List ℕ)
  pub bytes : Appends (contents reader.came.value) (contents reader.to) (concat whole ++ part reader)
  pub order : IsPickedFrom (whole ++ begun reader) frames
