use Rattle.play_types.proofs.ClipFiles.{clip_bytes_same}
use Rattle.play_types.proofs.laws.clip_of_a_file.Goals as goal

pub returns : goal.returns
returns c =
    clip_bytes_same _ _ c.requires.first_in_range c.requires.second_in_range c.requires.same_file
