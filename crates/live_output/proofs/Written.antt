-- What readers got of the bytes that were written.
use Rattle.std.proofs.Common.{◌≡◌, ℕ, List, [], ◌++◌, append-nil, subst}
use Rattle.std.specs.Prelude.{Option}
use Rattle.rtrb.specs.Ring.{sent}
use Rattle.live_output.specs.declared.cutter.FrameCutter.{FrameCutter}
use Rattle.live_output.specs.declared.reader.Reader.{Reader}
use Rattle.live_output.specs.Picked.{IsPickedFrom}
use Rattle.live_output.specs.Cut.{IsCut}
use Rattle.live_output.specs.Got.{GotWritten, HasGot, begun}
use Rattle.live_output.proofs.Picking.{picked_again, picked_both, picked_end, picked_front}

-- a reader got frames of those that came to its output, which are a prefix of those that the cutter handed on
pub got_written : {W : Type 0} (contents : W → Option (List ℕ)) (written : List ℕ) (cutter : FrameCutter) (came known : List (List ℕ)) (reader : Reader W)
    → IsCut written cutter → came ++ known ≡ sent cutter.out → HasGot contents came reader → GotWritten contents cutter.size written reader
got_written contents written cutter came known reader cut all got =
    let xs : List (List ℕ) = got.whole ++ begun reader in
    let of_came : IsPickedFrom xs came = picked_end reader.first xs came (picked_front _ xs _ got.order) in
    let of_sent : IsPickedFrom xs (sent cutter.out) =
    subst (IsPickedFrom xs) all (subst (λ (l : List (List ℕ)). IsPickedFrom l (came ++ known)) (append-nil xs) (picked_both xs came [] known of_came tt)) in record {
      frames = cut.frames;
      rest = cut.rest;
      all = cut.whole;
      sizes = cut.sizes;
      whole = got.whole;
      bytes = got.bytes;
      order = picked_again xs (sent cutter.out) cut.frames of_sent cut.handed;
    }
