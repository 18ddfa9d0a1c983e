use Rattle.clip_format.proofs.Files.{clip_of-clip_bytes}
use Rattle.clip_format.proofs.laws.file_of_a_clip.Goals as goal

pub returns : goal.returns
returns c = clip_of-clip_bytes
