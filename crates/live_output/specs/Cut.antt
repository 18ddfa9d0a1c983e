-- How bytes that are written become frames.
use Rattle.std.specs.Prelude.{◌≡◌, ◌<◌, ◌-◌, ◌^◌, ℕ, min, List, ◌++◌, length, All, IfSome}
use Rattle.std.specs.List.{concat}
use Rattle.rtrb.specs.Ring.{sent}
use Rattle.live_output.specs.declared.cutter.FrameCutter.{FrameCutter}
use Rattle.live_output.specs.Picked.{IsPickedFrom}

-- the cutter has been written exactly the bytes `written`
pub record IsCut (written : List ℕ) (cutter : FrameCutter) : Type 0 where
  -- the bytes are whole frames of its size, and a rest shorter than one
  pub frames : List (List ℕ)
  pub rest : List ℕ
  pub whole : written ≡ concat frames ++ rest
  pub sizes : All (λ frame. length frame ≡ cutter.size) frames
  pub short : length rest < cutter.size
  -- the frames that it handed on are some of these, in their order
  pub handed : IsPickedFrom (sent cutter.out) frames
  -- each of the others was counted
  pub counted : cutter.dropped ≡ min (length frames - length (sent cutter.out)) (2 ^ 64 - 1)
  -- it holds the length of the rest, and the bytes of the rest if the frame is to be handed on
  pub at : cutter.at ≡ length rest
  pub kept : IfSome cutter.filling (λ bytes. bytes.items ≡ rest)
