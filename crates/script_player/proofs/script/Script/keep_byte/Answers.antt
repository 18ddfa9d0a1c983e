use Rattle.std.proofs.Common.{◌≡◌, ◌+◌, ◌∷◌, [], ap, ◌∙◌, length, length-append, refl, arith}
use Rattle.script_player.proofs.Growth.{byte_kept, too_long}
use Rattle.script_player.proofs.script.Script.keep_byte.Goals as goal

pub returns-then-len-lt-TOO_MANY-clause-takes : goal.returns-then-len-lt-TOO_MANY-clause-takes
returns-then-len-lt-TOO_MANY-clause-takes c = λ run bytes state taken.
    byte_kept run c.args.self.now _ bytes c.args.byte state c.requires.other taken refl refl c.in_ok-push.ensures.items
    (omega (arith, c.push.new.self.ok.0, c.len.ensures, c.if-len-lt-TOO_MANY.true))

pub returns-else-len-lt-TOO_MANY-clause-takes : goal.returns-else-len-lt-TOO_MANY-clause-takes
returns-else-len-lt-TOO_MANY-clause-takes c = λ run bytes state taken.
    let old = c.args.self.now in
    too_long run old (record { waiting = c.push.new.self; lines = old.lines; player = old.player }) bytes c.args.byte state c.requires.other taken refl c.in_ok-push.ensures.items
    (omega (arith, c.push.new.self.ok.0, c.len.ensures, c.if-len-lt-TOO_MANY.false))

pub returns-then-len-lt-TOO_MANY-clause-ticks : goal.returns-then-len-lt-TOO_MANY-clause-ticks
returns-then-len-lt-TOO_MANY-clause-ticks c =
    let more : length c.push.new.self.items ≡ length c.args.self.now.waiting.items + 1 =
    ap length c.in_ok-push.ensures.items ∙ length-append c.args.self.now.waiting.items (c.args.byte ∷ []) in
    omega (arith, more)
