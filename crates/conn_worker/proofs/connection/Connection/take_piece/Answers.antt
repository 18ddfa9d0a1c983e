use Rattle.std.proofs.Common.{◌≡◌, ◌+◌, ◌-◌, ◌<◌, List, take, drop, length, refl, ap, sym, subst, ◌∙◌, ◌++◌}
use Rattle.std.specs.Prelude.{option_map}
use Rattle.std.proofs.lemmas.Bool.{false≢true}
use Rattle.std.proofs.lemmas.Result.{err_from_is_err_and}
use Rattle.play_types.specs.declared.command.Cmd.{Cmd}
use Rattle.history_model.specs.commands.Channels.{AreAimed}
use Rattle.play_session.specs.Step.{viewed}
use Rattle.play_session.specs.declared.step.Step.TheVariants.{NeedMore}
use Rattle.conn_worker.specs.Rounds.{bytes_in}
use Rattle.conn_worker.specs.Explained.{Standing, IsExplained}
use Rattle.conn_worker.specs.declared.link_end.LinkEnd.{LinkEnd}
use Rattle.conn_worker.specs.inner.UnderWay.{Now, TakesPiece}
use Rattle.conn_worker.specs.inner.Steps.{service_in}
use Rattle.conn_worker.proofs.Pieces.{fed_progress, given_progress, goes_going, goes_number, goes_running, piece_done, piece_ends, piece_fed, piece_goes, piece_within, rest_of}
use Rattle.conn_worker.proofs.Stepping.{batch_filled}
use Rattle.conn_worker.proofs.connection.Connection.take_piece.Goals as goal
use Rattle.conn_worker.proofs.connection.Connection.take_piece.Goals.{in-NeedMore, in_default}

pub returns-then-matches-clause-takes : goal.returns-then-matches-clause-takes
returns-then-matches-clause-takes g c = λ past same way.
    let piece = c.args.piece.now in
    let service = service_in c.args.self.now c.args.pass.now.number in
    let standing : Standing = record { pass = c.loop.pass; link = g.L.Sink.state c.loop.link } in
    let rest = take (length piece - c.loop.at) (drop c.loop.at piece) in
    let found = c.loop.invariant.takes past same way in
    let fed = piece_fed service past piece found.0 c.loop.at c.feed-at.result rest standing c.loop.session c.feed-at.new.self same
    (rest_of piece c.loop.at c.loop.invariant.within) c.feed-at.ensures.represents c.feed-at.ensures.same found.1 in
    let more : c.next-step.result ≡ NeedMore =
    elim c.match-matches.branch [ in-NeedMore w ↦ w.in-NeedMore.is | in_default w ↦ absurd (false≢true (sym w.matches-is ∙ c.if-matches.true)) ] in (
      found.0,
      piece_done service past piece found.0 (c.loop.at + c.feed-at.result) standing c.feed-at.new.self c.next-step.new.self c.next-step.result same
          c.if-at-piece.true more (c.next-step.ensures.unchanged more) fed (c.next-step.ensures.gives),
    )

pub follow-requires-clause-filled : goal.follow-requires-clause-filled
follow-requires-clause-filled g c = λ κs within is.
    let config = c.args.self.now.server.config.now in
    let names = c.args.self.now.server.media.now in
    let rest = take (length c.args.piece.now - c.loop.at) (drop c.loop.at c.args.piece.now) in
    let has = fed_progress config names c.loop.session c.feed-at.new.self (take c.feed-at.result rest) (c.feed-at.ensures.represents config names) c.loop.invariant.known in
    subst (λ (b : List Cmd). 0 < length b) (sym c.batch.ensures)
    (batch_filled config names c.next-step.result c.next-step.new.self has.progress (c.next-step.ensures.gives has.progress has.represents) is)

pub loop-preserved : goal.loop-preserved
loop-preserved g c =
    let self = c.args.self.now in
    let piece = c.args.piece.now in
    let config = self.server.config.now in
    let names = self.server.media.now in
    let service = service_in self c.args.pass.now.number in
    let mine = service_in self c.loop.pass.number in
    let before : Standing = record { pass = c.loop.pass; link = g.L.Sink.state c.loop.link } in
    let after : Standing = record { pass = c.follow.new.pass; link = g.L.Sink.state c.follow.new.link } in
    let rest = take (length piece - c.loop.at) (drop c.loop.at piece) in
    let follows = c.in_ok-follow.ensures.follows in
    let token = option_map (λ t. t.now) c.token.result in
    let told = follows token (λ kept. refl) in
    let done = c.in_ok-follow.field-0 in
    let step = viewed c.next-step.result c.batch.result.now in
    record {
      within = piece_within piece c.loop.at c.feed-at.result c.loop.session.reader.held c.loop.invariant.within c.feed-at.ensures.count;
      of = c.in_ok-follow.ensures.of;
      number = goes_number mine token step done before after told ∙ c.loop.invariant.number;
      known = given_progress config names c.feed-at.new.self c.next-step.new.self c.next-step.result c.next-step.ensures.gives
          (fed_progress config names c.loop.session c.feed-at.new.self (take c.feed-at.result rest) (c.feed-at.ensures.represents config names) c.loop.invariant.known);
      going = c.next-step.ensures.ended ∙ goes_going mine token c.next-step.result c.batch.result.now done before after told;
      aimed = c.next-step.ensures.aimed (subst (AreAimed config) (sym c.feed-at.ensures.same.1) c.loop.invariant.aimed);
      running = goes_running mine token step done before after told c.loop.invariant.running;
      takes = λ past same way.
          let found = c.loop.invariant.takes past same way in
          let fed = piece_fed service past piece found.0 c.loop.at c.feed-at.result rest before c.loop.session c.feed-at.new.self same
          (rest_of piece c.loop.at c.loop.invariant.within) c.feed-at.ensures.represents c.feed-at.ensures.same found.1 in
          piece_goes service mine past piece found.0 (bytes_in past.rounds ++ take (c.loop.at + c.feed-at.result) piece) before after c.feed-at.new.self c.next-step.new.self c.next-step.result c.batch.result.now done same
          (ap (service_in self) c.loop.invariant.number) c.batch.ensures fed c.next-step.ensures.gives c.next-step.ensures.ended c.next-step.ensures.aimed
          c.next-step.ensures.unchanged c.next-step.ensures.token token c.token.ensures follows;
    }

pub returns-in_err-follow-clause-takes : goal.returns-in_err-follow-clause-takes
returns-in_err-follow-clause-takes g c = λ past same way.
    let self = c.args.self.now in
    let piece = c.args.piece.now in
    let service = service_in self c.args.pass.now.number in
    let before : Standing = record { pass = c.loop.pass; link = g.L.Sink.state c.loop.link } in
    let after : Standing = record { pass = c.follow.new.pass; link = g.L.Sink.state c.follow.new.link } in
    let now : Now = record { standing = after; session = c.next-step.new.self } in
    let rest = take (length piece - c.loop.at) (drop c.loop.at piece) in
    let found = c.loop.invariant.takes past same way in
    let fed = piece_fed service past piece found.0 c.loop.at c.feed-at.result rest before c.loop.session c.feed-at.new.self same
    (rest_of piece c.loop.at c.loop.invariant.within) c.feed-at.ensures.represents c.feed-at.ensures.same found.1 in
    let explained : IsExplained past.service c.in_err-follow.field-0.0 past.before after =
    piece_ends service (service_in self c.loop.pass.number) past piece found.0 (c.loop.at + c.feed-at.result) before after c.feed-at.new.self c.next-step.new.self
    c.next-step.result c.batch.result.now c.in_err-follow.field-0.0 same
    (ap (service_in self) c.loop.invariant.number) c.batch.ensures fed c.next-step.ensures.gives c.next-step.ensures.token
    (option_map (λ t. t.now) c.token.result) c.token.ensures c.in_err-follow.ensures.follows in
    let p = err_from_is_err_and c.from_residual.result c.from_residual.ensures.1 in
    subst (λ r. TakesPiece past piece r now) (sym p.1) (subst (λ (e : LinkEnd). IsExplained past.service e past.before after) (sym p.2) explained)
