use Rattle.std.proofs.Common.{◌<◌, ◌+◌, ◌++◌, take, drop, length, sym, ap, ◌∙◌, subst, arith, append_assoc}
use Rattle.std.specs.Prelude.{Err}
use Rattle.std.proofs.lemmas.List.{take_all, take-append-drop}
use Rattle.script_player.specs.Taken.{HasTaken, TakesBytes}
use Rattle.script_player.proofs.Growth.{bytes_more, stopped_before}
use Rattle.script_player.proofs.script.ScriptPlayer.take.Goals as goal

pub returns-in-Err-clause-takes : goal.returns-in-Err-clause-takes
returns-in-Err-clause-takes g c = λ run bytes told taken.
    let reason = c.in-Err.halt in
    let piece = c.args.piece.now in
    let i = c.loop-byte.byte-index in
    let inside : i < length piece = omega arith in
    let stops = c.in-Err.ensures.takes run (bytes ++ take i piece) (told ∙ sym c.loop-byte.invariant.told) (c.loop-byte.invariant.taken run bytes told taken) in (
      reason,
      c.ending.ensures,
      subst (λ all. TakesBytes run (Err reason) c.take_byte.new.self.script all (g.K.Sink.state c.take_byte.new.out))
          (append_assoc bytes (take (i + 1) piece) (drop (i + 1) piece) ∙ ap (λ l. bytes ++ l) (take-append-drop (i + 1) piece))
          (stopped_before run reason c.take_byte.new.self.script (bytes ++ take (i + 1) piece) (drop (i + 1) piece) _
          (subst (λ text. TakesBytes run (Err reason) c.take_byte.new.self.script text (g.K.Sink.state c.take_byte.new.out)) (bytes_more bytes piece i inside) stops)),
    )

pub loop-byte-preserved : goal.loop-byte-preserved
loop-byte-preserved g c = record {
  ready = c.in-Ok.ensures.ready;
  told = c.take_byte.ensures.told ∙ c.loop-byte.invariant.told;
  shown = c.in-Ok.ensures.shown;
  setup = c.take_byte.ensures.setup ∙ c.loop-byte.invariant.setup;
  ticks = (let before = c.loop-byte.invariant.ticks in let step = c.in-Ok.ensures.ticks in omega (arith, before, step));
  lines = (let before = c.loop-byte.invariant.lines in let step = c.take_byte.ensures.lines in omega (arith, before, step));
  taken = λ run bytes told taken.
      let piece = c.args.piece.now in
      let i = c.loop-byte.byte-index in
      let inside : i < length piece = omega arith in
      subst (λ text. HasTaken run c.take_byte.new.self.script text (g.K.Sink.state c.take_byte.new.out)) (bytes_more bytes piece i inside)
      (c.in-Ok.ensures.takes run (bytes ++ take i piece) (told ∙ sym c.loop-byte.invariant.told) (c.loop-byte.invariant.taken run bytes told taken));
}

pub returns-clause-takes : goal.returns-clause-takes
returns-clause-takes g c = λ run bytes told taken.
    let past = c.loop-byte-test.false in
    subst (λ t. HasTaken run c.loop-byte.self.script (bytes ++ t) (g.K.Sink.state c.loop-byte.out)) (take_all c.loop-byte.byte-index c.args.piece.now (omega (arith, past)))
    (c.loop-byte.invariant.taken run bytes told taken)

pub returns-in-Err-clause-told : goal.returns-in-Err-clause-told
returns-in-Err-clause-told g c = c.take_byte.ensures.told ∙ c.loop-byte.invariant.told

pub returns-in-Err-clause-setup : goal.returns-in-Err-clause-setup
returns-in-Err-clause-setup g c = c.take_byte.ensures.setup ∙ c.loop-byte.invariant.setup
