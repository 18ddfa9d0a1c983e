-- A step is executed, and its reply is sent.
use Rattle.std.proofs.Common.{◌≡◌, ℕ, ◌&&◌, ◌==◌, Bool, true, false, cond, List, [], ◌∷◌, ◌++◌, refl, sym, ap, ◌∙◌, subst, eq-eqb}
use Rattle.std.specs.Prelude.{Option, Some, None, flat_map, Result, Ok, Err}
use Rattle.play_types.specs.History.{stop_at}
use Rattle.play_types.specs.declared.event.Tag.{Tag}
use Rattle.play_types.specs.declared.event.Event.TheVariants as event
use Rattle.play_types.specs.declared.reply.Reply.{Reply}
use Rattle.play_types.specs.declared.reply.Reply.TheVariants as reply
use Rattle.play_types.specs.declared.reply.Name.TheVariants as name
use Rattle.history_model.specs.sessions.Session as model
use Rattle.history_model.specs.sessions.Session.{is_end}
use Rattle.history_model.specs.text.Replies.{ended, reply_bytes, reply_lines, with_token}
use Rattle.play_outside.specs.SinkState.{SinkState, after_taking}
use Rattle.play_outside.specs.Sink.{Sends}
use Rattle.play_outside.specs.declared.sink.Sent.{Sent}
use Rattle.play_outside.specs.declared.sink.Sent.TheVariants as sent
use Rattle.play_outside.proofs.Taking.{after_taking-nil}
use Rattle.play_session.specs.Step.{is_out_of_memory}
use Rattle.play_session.proofs.NextToken.{reply_token-kept}
use Rattle.stage_core.specs.declared.fault.Ended.{Ended as Refusal}
use Rattle.stage_lock.specs.Own.{is_own}
use Rattle.stage_lock.specs.Views.{PassView, Sizes}
use Rattle.stage_lock.specs.Calls.{Adds, IsStopped, Looks, stop_tag, tag_of}
use Rattle.conn_worker.specs.Followed.{Service, Followed, answer_bytes, reply_of, times_asked}
use Rattle.conn_worker.specs.Explained.{Standing}
use Rattle.conn_worker.specs.inner.Steps.{AsksFor, MakesStep, SendsBytes}
use Rattle.conn_worker.specs.inner.UnderWay.{EndsAtStep, FollowsStep, Goes}
use Rattle.conn_worker.specs.declared.link_end.LinkEnd.{LinkEnd}
use Rattle.conn_worker.specs.declared.link_end.LinkEnd.TheVariants.{Over, Killed, LinkFault, Ended}
use Rattle.conn_worker.proofs.Passes.{makes_added, makes_nothing}
use Rattle.conn_worker.proofs.Asking.{IsService, and_false, positive}

-- a pass and a link
abbrev at : PassView → SinkState → Standing
at pass link = record { pass = pass; link = link }

-- the token of a line changes nothing of what a pass makes
makes_told : (service : Service) (one : Followed) (told : Option (List ℕ)) (before after : PassView) → MakesStep service one before after
    → MakesStep service (record one { token = told }) before after
makes_told service one told before after makes = record {
  stage = makes.stage;
  number = makes.number;
  ends = makes.ends;
  found = makes.found;
  seen = makes.seen;
  own = makes.own;
  made = makes.made;
  turns = makes.turns;
  known = makes.known;
}

-- the token of a line that was given up is in no reply
same_bytes : (service : Service) (token told : Option (List ℕ)) (answer : Reply) → (is_out_of_memory answer ≡ false → token ≡ told)
    → reply_bytes service.config service.names token answer ≡ reply_bytes service.config service.names told answer
unfolding reply_bytes
same_bytes service token told answer same =
    ap (λ (t : Option (List ℕ)). flat_map ended (with_token t (reply_lines service.config service.names answer))) (reply_token-kept token told answer same)

-- a step was executed, and its reply was sent
sends_step : (service : Service) (told : Option (List ℕ)) (step : model.Step) (one : Followed) (before after : PassView) (link written : SinkState) (bytes : List ℕ) (result : Result (Unit {0}) LinkEnd)
    → is_end step ≡ false → one.step ≡ step → MakesStep service one before after → stop_at after.seen ≡ None → answer_bytes service told (reply_of service one) ≡ bytes
    → SendsBytes bytes result link written → FollowsStep service told (Some step) result (at before link) (at after written)
sends_step service told step one before after link written bytes (Ok done) going is makes running same sends = record {
  goes = record {
    follows = record {
      one = record one { token = told };
      step_is = is;
      token_is = refl;
      makes = makes_told service one told before after makes;
      sends = sends ∙ ap (after_taking link) (sym same);
    };
    running = running;
  };
  going = going;
}
sends_step service told step one before after link written bytes (Err Over) going is makes running same sends = absurd sends
sends_step service told step one before after link written bytes (Err Killed) going is makes running same sends = absurd sends
sends_step service told step one before after link written bytes (Err LinkFault) going is makes running same sends = record {
  going = going;
  follows = record {
    one = record one { token = told };
    step_is = is;
    token_is = refl;
    makes = makes_told service one told before after makes;
    sends = subst (λ (bs : List ℕ). Sends sent.Failed bs link written) (sym same) sends;
  };
  running = running;
}
sends_step service told step one before after link written bytes (Err (Ended position)) going is makes running same sends = absurd sends

-- a reply without the stage
pub sends_local : (service : Service) (token told : Option (List ℕ)) (answer : Reply) (pass : PassView) (link written : SinkState) (result : Result (Unit {0}) LinkEnd)
    → (is_out_of_memory answer ≡ false → token ≡ told) → stop_at pass.seen ≡ None
    → SendsBytes (reply_bytes service.config service.names token answer) result link written
    → FollowsStep service told (Some (model.Local answer)) result (at pass link) (at pass written)
sends_local service token told answer pass link written result kept running sends =
    sends_step service told (model.Local answer) (record { step = model.Local answer; found = pass.seen; no_memory = false; token = None }) pass pass link written
    (reply_bytes service.config service.names token answer) result refl refl (makes_nothing service (model.Local answer) pass refl refl) running
    (sym (same_bytes service token told answer kept)) sends

-- the reply of the stage
pub sends_answer : (service : Service) (told : Option (List ℕ)) (step : model.Step) (answer : Reply) (before after : PassView) (link written : SinkState) (result : Result (Unit {0}) LinkEnd)
    → is_end step ≡ false → AsksFor service step (Ok answer) before after → SendsBytes (reply_bytes service.config service.names told answer) result link written
    → FollowsStep service told (Some step) result (at before link) (at after written)
sends_answer service told step answer before after link written result going asks sends =
    sends_step service told step asks.0.one before after link written (reply_bytes service.config service.names told answer) result going asks.0.step_is asks.0.makes asks.1
    (ap (answer_bytes service told) asks.0.reply_is) sends

-- the stage was stopped before
pub stops_before : (service : Service) (told : Option (List ℕ)) (step : model.Step) (end : LinkEnd) (before after : PassView) (link : SinkState) → times_asked step ≡ 1
    → AsksFor service step (Err end) before after → FollowsStep service told (Some step) (Err end) (at before link) (at after link)
stops_before service told step Over before after link asked finds = absurd finds
stops_before service told step Killed before after link asked finds = absurd finds
stops_before service told step LinkFault before after link asked finds = absurd finds
stops_before service told step (Ended position) before after link asked finds = record { asked = asked; finds = finds; link = refl }

-- nothing is sent
goes_silently : (service : Service) (told : Option (List ℕ)) (step : model.Step) (pass : PassView) (link : SinkState)
    → (let one : Followed = record { step = step; found = pass.seen; no_memory = false; token = None } in MakesStep service one pass pass × (answer_bytes service told (reply_of service one) ≡ []))
    → stop_at pass.seen ≡ None → Goes service told step (at pass link) (at pass link)
goes_silently service told step pass link made running = record {
  follows = record {
    one = record { step = step; found = pass.seen; no_memory = false; token = told };
    step_is = refl;
    token_is = refl;
    makes = makes_told service (record { step = step; found = pass.seen; no_memory = false; token = None }) told pass pass made.0;
    sends = sym (after_taking-nil link) ∙ ap (after_taking link) (sym made.1);
  };
  running = running;
}

pub skips : (service : Service) (told : Option (List ℕ)) (pass : PassView) (link : SinkState) → stop_at pass.seen ≡ None → FollowsStep service told (Some model.Skip) (Ok tt) (at pass link) (at pass link)
skips service told pass link running = record {
  goes = goes_silently service told model.Skip pass link (makes_nothing service model.Skip pass refl refl, refl) running;
  going = refl;
}

pub leaves : (service : Service) (told : Option (List ℕ)) (pass : PassView) (link : SinkState) → stop_at pass.seen ≡ None
    → FollowsStep service told (Some model.EndConnection) (Err Over) (at pass link) (at pass link)
leaves service told pass link running = record {
  bye = refl;
  goes = goes_silently service told model.EndConnection pass link (makes_nothing service model.EndConnection pass refl refl, refl) running;
}

-- what was sent, by the result
sent_of : (bytes : List ℕ) (result : Result (Unit {0}) LinkEnd) (link written : SinkState) → SendsBytes bytes result link written → (s : Sent) × Sends s bytes link written
sent_of bytes (Ok done) link written sends = (sent.All, sends)
sent_of bytes (Err Over) link written sends = absurd sends
sent_of bytes (Err Killed) link written sends = absurd sends
sent_of bytes (Err LinkFault) link written sends = (sent.Failed, sends)
sent_of bytes (Err (Ended position)) link written sends = absurd sends

-- the kill made the stop
pub kills_stage : (service : Service) (told : Option (List ℕ)) (sizes : Sizes) (worker session position : ℕ) (before after : PassView) (link written : SinkState) (result : Result (Unit {0}) LinkEnd)
    → IsService service sizes worker session → before.number ≡ worker
    → Adds before (event.Stop (stop_tag before.number session)) (IsStopped sizes.given position) after
    → SendsBytes (reply_bytes service.config service.names told (reply.Done name.Kill)) result link written
    → EndsAtStep service told model.KillServer Killed (at before link) (at after written)
kills_stage service told sizes worker session position before after link written result is mine adds sends =
    let later : (session == 0) ≡ false = positive session is.number in
    let named : stop_tag before.number session ≡ tag_of before.number session = ap (λ (b : Bool). cond b (tag_of 0 0) (tag_of before.number session)) later in
    let tag : stop_tag before.number session ≡ service.tag = named ∙ ap (λ (n : ℕ). tag_of n session) mine ∙ sym is.tag in
    let final : ((before.number == 0) && (session == 0)) ≡ false = and_false (before.number == 0) (session == 0) later in
    let own : is_own before.number (event.Stop (tag_of before.number session)) ≡ true =
    ap (λ (b : Bool). cond b false (before.number == before.number)) final ∙ eq-eqb before.number before.number refl in
    let one : Followed = record { step = model.KillServer; found = adds.history; no_memory = false; token = None } in
    let sender = sent_of (reply_bytes service.config service.names told (reply.Done name.Kill)) result link written sends in
    record {
      kill = refl;
      sent = sender.0;
      follows = record {
        one = record one { token = told };
        step_is = refl;
        token_is = refl;
        makes = makes_told service one told before after
            (makes_added service model.KillServer false before after (event.Stop (stop_tag before.number session)) (IsStopped sizes.given position) adds
            (ap (λ (t : Tag). event.Stop t ∷ []) (sym tag))
            (subst (λ (t : Tag). is_own before.number (event.Stop t) ≡ true) (sym named) own)
            (ap (λ (t : Tag). (t.worker == 0) && (t.session == 0)) named ∙ final)
            refl);
        sends = sender.1;
      };
    }

-- another call had made a stop
pub kills_late : (service : Service) (told : Option (List ℕ)) (refusal : Refusal) (before after : PassView) (link : SinkState)
    → Looks before (λ history. stop_at (service.given ++ history) ≡ Some refusal.at) after
    → EndsAtStep service told model.KillServer (Ended refusal.at) (at before link) (at after link)
kills_late service told refusal before after link looks = record {
  asked = refl;
  finds = record { history = looks.history; found = looks.found; stop = looks.told; after_is = looks.after };
  link = refl;
}
