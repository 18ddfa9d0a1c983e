use Rattle.std.proofs.Common.{sym}
use Rattle.return_codes.proofs.Lines.{clip_text-readable, clip_text-unreadable}
use Rattle.return_codes.proofs.media.add_clip.Goals as goal

pub returns-then-is_readable : goal.returns-then-is_readable
returns-then-is_readable g c = rw (clip_text-readable c.args.clip.now (sym c.if-is_readable.ensures)) c.add_numbers.ensures

pub returns-else-is_readable : goal.returns-else-is_readable
returns-else-is_readable g c = rw (clip_text-unreadable c.args.clip.now (sym c.if-is_readable.ensures)) c.add.ensures.adds
