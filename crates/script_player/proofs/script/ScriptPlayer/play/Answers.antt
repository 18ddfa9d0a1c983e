use Rattle.std.proofs.Common.{◌≡◌, take, length, length-append, refl, sym, ◌∙◌, arith, rules}
use Rattle.std.proofs.lemmas.List.{length-take-le}
use Rattle.script_player.specs.Player.{playout_in}
use Rattle.script_player.proofs.Progress.{HasRead, none_read, piece_read, piece_ends, input_ended, read_failed}
use Rattle.script_player.proofs.script.ScriptPlayer.play.Goals as goal

pub pieces-init : goal.pieces-init
pieces-init g c = record {
  buffer = refl;
  told = refl;
  shown = c.requires.shown;
  progress = none_read _ _ _ _ c.requires.new c.requires.ready c.requires.small.0 c.requires.small.1;
}

pub returns-in-Err : goal.returns-in-Err
returns-in-Err g c =
    let before = c.pieces.invariant.progress in
    piece_ends _ _ _ _ _ _ before c.take_piece.new.self.script _ _ _ _ c.in-Got.ensures.2
    (c.in-Err.ensures.reads _ before.read (sym c.pieces.invariant.told) before.taken before.allowed)

pub pieces-preserved : goal.pieces-preserved
pieces-preserved g c =
    let before = c.pieces.invariant.progress in
    let piece = take c.in-Got.count c.read.new.buf in
    let reads = c.in-Ok.ensures.reads _ before.read (sym c.pieces.invariant.told) before.taken before.allowed in
    let progress : HasRead (g.D.Display.shown c.args.self.now.display) (playout_in c.args.self.now.script.player) c.take_piece.new.self.script c.in-Ok.rest
    (record { input = g.I.Source.state c.args.input.now; out = g.K.Sink.state c.args.out.now })
    (record { input = g.I.Source.state c.read.new.self; out = g.K.Sink.state c.take_piece.new.out }) =
    piece_read _ _ _ _ _ _ before c.take_piece.new.self.script c.in-Ok.rest piece _ _ c.in-Got.ensures.2 c.in-Ok.ensures.ready c.in-Ok.ensures.ticks c.in-Ok.ensures.lines reads in
    record { buffer = search rules; told = c.take_piece.ensures.told ∙ c.pieces.invariant.told; shown = c.in-Ok.ensures.shown; progress = progress }

pub pieces-smaller : goal.pieces-smaller
pieces-smaller g c =
    let before = c.pieces.invariant.progress in
    let piece = take c.in-Got.count c.read.new.buf in
    let size : length piece ≡ c.in-Got.count = length-take-le c.in-Got.count c.read.new.buf c.in-Got.ensures.1 in
    let now = (c.in-Ok.ensures.reads _ before.read (sym c.pieces.invariant.told) before.taken before.allowed).0 in
    let then = before.allowed in
    let more = length-append before.read piece in
    let some = c.in-Got.ensures.0 in
    omega (arith, more, now, then, size, some)

pub returns-in-End : goal.returns-in-End
returns-in-End g c =
    let before = c.pieces.invariant.progress in
    let allowed = before.allowed in
    input_ended _ _ _ _ _ _ before _ _ _ _ c.in-End.ensures.0 c.in-End.ensures.1
    (c.finish.ensures _ before.read (sym c.pieces.invariant.told) before.taken (omega (arith, allowed)))

pub returns-in-Failed : goal.returns-in-Failed
returns-in-Failed g c = read_failed _ _ _ _ _ _ c.pieces.invariant.progress _ c.in-Failed.ensures.0 c.in-Failed.ensures.1
