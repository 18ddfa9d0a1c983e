-- The connections of a script after one line more.
use Rattle.std.proofs.Common.{◌≡◌, ℕ, ◌+◌, ◌<◌, ◌≤◌, ◌&&◌, ◌==◌, Bool, true, false, cond, not, eqb, List, [], ◌∷◌, ◌++◌, length, length-append, get_or, set, refl, sym, ap, ap₂, ◌∙◌, subst, subst₂, arith, inl}
use Rattle.std.specs.Prelude.{Option, Some, None, Result, Ok, Err, IfOk, find}
use Rattle.std.specs.List.{position, position_or_len}
use Rattle.std.specs.Option.{option_or}
use Rattle.std.specs.Prelude.{nat_lt, slice_get}
use Rattle.std.proofs.lemmas.Grind.{common_steps}
use Rattle.std.proofs.lemmas.Bool.{lt-ltb}
use Rattle.std.proofs.lemmas.List.Elements.{All-append, All-cons, All-head, All-nil, All-set, All-tail}
use Rattle.std.proofs.lemmas.List.Sums.{prefix_len-le-length}
use Rattle.std.proofs.lemmas.Bool.Decides.{nat_tests}
use Rattle.std.proofs.lemmas.Option.{none-some, same_Some, slice_get_past, slice_get-get_or}
use Rattle.std.proofs.lemmas.List.Folds.{find_at, find-set, find_past, position_or_len_push}
use Rattle.std.proofs.lemmas.List.Quantifiers.{position-Some}
use Rattle.amcp_text.specs.Lines.{lines_of, IsEnded}
use Rattle.play_types.specs.declared.event.Tag.{Tag}
use Rattle.play_types.specs.Config.{ConfigView}
use Rattle.play_types.specs.Media.{MediaNameView}
use Rattle.history_model.specs.commands.Channels.{AreAimed, IsAimed}
use Rattle.history_model.specs.scripts.History.{Playout, PlayedLine, same_tag, text_by, texts_of}
use Rattle.history_model.proofs.Streams.{texts_of-other, stream_of-other, given_up_of-other, stream_of-none, given_up_of-none}
use Rattle.play_session.specs.SessionState.{SessionState}
use Rattle.play_session.specs.Session.{IsBetweenLines, Represents, at_start}
use Rattle.play_session.specs.declared.step.Step.{Step}
use Rattle.script_player.specs.declared.clients.Client.{Client}
use Rattle.script_player.specs.Clients.{IsServed, ServesConnection, IsClient, batch_in, batch_of, client_of, AreClients, AddsClient, HaveAimedBatches, IsPlaceOf, NextText, kept_session, session_batch, played_text, step_view, ClientsTakeLine, ClientTakesLine}
use Rattle.script_player.proofs.Places.{is_of, place_kept}
use Rattle.script_player.proofs.Speaking.{same_number, same_tag-refl}

and_parts : (a b : Bool) → (a && b) ≡ true → (a ≡ true) × (b ≡ true)
and_parts true b is = (refl, is)
and_parts false b is = (is, absurd (let no : false ≡ true = is in cc))

number_is : (a b : ℕ) → (a == b) ≡ true → a ≡ b
number_is a b is = grind (arith, nat_tests)

same_tag-is : (one other : Tag) → same_tag one other ≡ true → one ≡ other
same_tag-is one other is =
    let parts = and_parts (one.worker == other.worker) (one.session == other.session) is in
    ap₂ (λ (w s : ℕ). record { worker = w; session = s }) (number_is one.worker other.worker parts.0) (number_is one.session other.session parts.1)

-- a line of another connection changes nothing for this one
serves_other : (playout : Playout) (client : Client) (played : List PlayedLine) (line : PlayedLine) → text_by client.tag line.line ≡ None → ServesConnection playout client played
    → ServesConnection playout client (played ++ line ∷ [])
serves_other playout client played line other serves =
    let texts = texts_of-other client.tag played line other in
    let stream = stream_of-other client.tag played line other in
    let lost = given_up_of-other client.tag played line other in
    record {
      whole = subst IsEnded (sym stream) serves.whole;
      count = ap (λ (s : List ℕ). length (lines_of s)) stream ∙ serves.count ∙ ap length (sym texts);
      served = by_session client.session serves.served;
    }
  where
    by_session : (now : Option SessionState) → IsServed playout client.tag now played → IsServed playout client.tag now (played ++ line ∷ [])
    by_session (Some now) served =
        (rw (texts_of-other client.tag played line other, stream_of-other client.tag played line other, given_up_of-other client.tag played line other) served.0, served.1)
    by_session None served = rw (stream_of-other client.tag played line other, given_up_of-other client.tag played line other) served

client_other : (playout : Playout) (tag : Tag) (found : Option Client) (played : List PlayedLine) (line : PlayedLine) → text_by tag line.line ≡ None
    → ((client : Client) → found ≡ Some client → client.tag ≡ tag) → IsClient playout tag found played → IsClient playout tag found (played ++ line ∷ [])
client_other playout tag None played line other tags is = texts_of-other tag played line other ∙ is
client_other playout tag (Some client) played line other tags is =
    serves_other playout client played line (ap (λ t. text_by t line.line) (tags client refl) ∙ other) is

-- what is found passes the test
find_passes : (p : Client → Bool) (clients : List Client) (client : Client) → find p clients ≡ Some client → p client ≡ true
find_passes p [] client is = absurd (none-some client is)
find_passes p (c ∷ clients) client is = by_test (p c) refl is (find_passes p clients client)
  where
    by_test : (b : Bool) → p c ≡ b → cond b (Some c) (find p clients) ≡ Some client → (find p clients ≡ Some client → p client ≡ true) → p client ≡ true
    by_test true passes is later = ap p (sym (same_Some c client is)) ∙ passes
    by_test false passes is later = later is

-- what is found after one connection was added at the end
find_snoc : (p : Client → Bool) (clients : List Client) (last : Client) → find p (clients ++ last ∷ []) ≡ option_or (find p clients) (find p (last ∷ []))
find_snoc p [] last = refl
find_snoc p (c ∷ clients) last = by_test (p c) (find_snoc p clients last)
  where
    by_test : (b : Bool) → find p (clients ++ last ∷ []) ≡ option_or (find p clients) (find p (last ∷ []))
        → cond b (Some c) (find p (clients ++ last ∷ [])) ≡ option_or (cond b (Some c) (find p clients)) (find p (last ∷ []))
    by_test true later = refl
    by_test false later = later

-- the connection at the index of a tag has that tag
pub tag_at : (tag : Tag) (at : ℕ) (clients : List Client) (client : Client) → IsPlaceOf tag at clients → get_or clients at client ≡ client → tag ≡ client.tag
tag_at tag at clients client place is =
    let found = position-Some (λ (one : Client). same_tag tag one.tag) clients at client place in
    same_tag-is tag client.tag (ap (λ (one : Client). same_tag tag one.tag) (sym is) ∙ found.1)

-- the connection of a tag is the one at its index
client_there : (tag : Tag) (at : ℕ) (clients : List Client) (client : Client) → IsPlaceOf tag at clients → get_or clients at client ≡ client → client_of tag clients ≡ Some client
client_there tag at clients client place there =
    let p = λ (one : Client). same_tag tag one.tag in
    let first = position-Some p clients at client place in
    let at_is : position_or_len p clients ≡ at = grind (arith, common_steps) in
    find_at p clients ∙ ap (slice_get clients) at_is ∙ slice_get-get_or clients at client first.0 ∙ ap Some there

-- the connection at its index is served
pub served_at : (playout : Playout) (tag : Tag) (at : ℕ) (clients : List Client) (client : Client) (played : List PlayedLine) → IsPlaceOf tag at clients → get_or clients at client ≡ client
    → AreClients playout clients played → ServesConnection playout client played
served_at playout tag at clients client played place there are =
    subst (λ o. IsClient playout tag o played) (client_there tag at clients client place there) (are tag)

-- its batch is that of its session
pub batch_there : (tag : Tag) (at : ℕ) (clients : List Client) (client : Client) → IsPlaceOf tag at clients → get_or clients at client ≡ client
    → batch_of tag clients ≡ session_batch client.session
batch_there tag at clients client place there = ap batch_in (client_there tag at clients client place there)

-- if the connection at its index is replaced by one of its tag, the tag has the new one
client_replaced : (tag : Tag) (at : ℕ) (clients : List Client) (old new : Client) → IsPlaceOf tag at clients → get_or clients at old ≡ old → new.tag ≡ old.tag
    → client_of tag (set clients at new) ≡ Some new
client_replaced tag at clients old new place there kept_tag =
    let p = λ (one : Client). same_tag tag one.tag in
    let first = position-Some p clients at old place in
    let at_is : at ≡ position_or_len p clients = grind (arith, common_steps) in
    find-set p clients at new at_is first.0 (ap (same_tag tag) (kept_tag ∙ sym (tag_at tag at clients old place there)) ∙ same_tag-refl tag)

pub batch_replaced : (tag : Tag) (at : ℕ) (clients : List Client) (old new : Client) → IsPlaceOf tag at clients → get_or clients at old ≡ old → new.tag ≡ old.tag
    → batch_of tag (set clients at new) ≡ session_batch new.session
batch_replaced tag at clients old new place there kept_tag = ap batch_in (client_replaced tag at clients old new place there kept_tag)

-- the batch of the connection at an index names only configured channels if all batches do
pub aimed_there : (config : ConfigView) (at : ℕ) (clients : List Client) (client : Client) → at < length clients → get_or clients at client ≡ client
    → HaveAimedBatches config clients → AreAimed config (session_batch client.session)
aimed_there config at clients client inside there aimed =
    subst (λ (one : Client). AreAimed config (session_batch one.session)) there (aimed at client inside)

-- and all batches do after a change of it that keeps this
pub aimed_replaced : (config : ConfigView) (at : ℕ) (clients : List Client) (old new : Client) → at < length clients → get_or clients at old ≡ old
    → (AreAimed config (session_batch old.session) → AreAimed config (session_batch new.session)) → HaveAimedBatches config clients → HaveAimedBatches config (set clients at new)
aimed_replaced config at clients old new inside there kept aimed =
    All-set (λ (one : Client). AreAimed config (session_batch one.session)) clients at new (kept (aimed_there config at clients old inside there aimed)) aimed

-- the batch that is kept after a step names only configured channels
pub kept_aimed : (config : ConfigView) (over : Bool) (now : SessionState) → AreAimed config now.batch → AreAimed config (session_batch (kept_session over now))
kept_aimed config true now aimed = All-nil (IsAimed config)
kept_aimed config false now aimed = aimed

-- all batches still do if a connection with an empty batch is added
pub aimed_added : (config : ConfigView) (clients : List Client) (new : Client) → session_batch new.session ≡ [] → HaveAimedBatches config clients
    → HaveAimedBatches config (clients ++ new ∷ [])
aimed_added config clients new none aimed =
    All-append (λ (one : Client). AreAimed config (session_batch one.session)) clients (new ∷ []) aimed
    (All-cons (λ (one : Client). AreAimed config (session_batch one.session)) new [] (subst (AreAimed config) (sym none) (All-nil (IsAimed config)))
    (All-nil (λ (one : Client). AreAimed config (session_batch one.session))))

-- the batch of a connection names only configured channels if all batches do
pub aimed_of : (config : ConfigView) (tag : Tag) (clients : List Client) → HaveAimedBatches config clients → AreAimed config (batch_of tag clients)
aimed_of config tag [] aimed = All-nil (IsAimed config)
aimed_of config tag (client ∷ clients) aimed =
    by_test (same_tag tag client.tag)
    (All-head (λ (one : Client). AreAimed config (session_batch one.session)) client clients aimed)
    (aimed_of config tag clients (All-tail (λ (one : Client). AreAimed config (session_batch one.session)) client clients aimed))
  where
    by_test : (b : Bool) → AreAimed config (session_batch client.session) → AreAimed config (batch_of tag clients)
        → AreAimed config (batch_in (cond b (Some client) (client_of tag clients)))
    by_test true first more = first
    by_test false first more = more

module _ (next : NextText) (found : Option Step) (clients : List Client) (at : ℕ) (old new : Client)
    (place : IsPlaceOf next.tag at clients) (there : get_or clients at old ≡ old) (are : AreClients next.playout clients next.played)
    (kept_tag : new.tag ≡ old.tag) (takes : ClientTakesLine next found new) where
  own : next.tag ≡ old.tag
  own = tag_at next.tag at clients old place there

  -- its session is the one that took the line
  own_client : client_of next.tag (set clients at new) ≡ Some new
  own_client = client_replaced next.tag at clients old new place there kept_tag

  heard_tag : (other : Tag) (b : Bool) → same_tag other next.tag ≡ b → IsClient next.playout other (client_of other (set clients at new)) (next.played ++ played_text next found ∷ [])
  heard_tag other true is =
      let same = same_tag-is other next.tag is in
      subst (λ t. IsClient next.playout t (client_of t (set clients at new)) (next.played ++ played_text next found ∷ [])) (sym same)
      (subst (λ o. IsClient next.playout next.tag o (next.played ++ played_text next found ∷ [])) (sym own_client) takes.serves)
  heard_tag other false is =
      let before : same_tag other (get_or clients at old).tag ≡ false = ap (λ (one : Client). same_tag other one.tag) there ∙ ap (same_tag other) (sym own) ∙ is in
      let after : same_tag other new.tag ≡ false = ap (same_tag other) (kept_tag ∙ sym own) ∙ is in
      let same = find_past (λ (one : Client). same_tag other one.tag) clients at new old before after in
      subst (λ o. IsClient next.playout other o (next.played ++ played_text next found ∷ [])) (sym same)
      (client_other next.playout other (client_of other clients) next.played (played_text next found)
      (ap (λ (b : Bool). cond b (Some next.text) None) is)
      (λ client got. sym (same_tag-is other client.tag (find_passes (λ (one : Client). same_tag other one.tag) clients client got)))
      (are other))

  -- a line of one connection was taken, and the others are as before
  pub heard : ClientsTakeLine next found (set clients at new)
  heard = record {
    given = takes.given ∙ ap (λ (one : Option Client). step_view found (batch_in one)) (sym own_client);
    serves = λ other. heard_tag other (same_tag other next.tag) refl;
  }

-- if no connection of this tag is found, its index is past the end
past_all : (tag : Tag) (clients : List Client) → position (λ (one : Client). same_tag tag one.tag) clients ≡ None
    → length clients ≤ position_or_len (λ (one : Client). same_tag tag one.tag) clients
past_all tag clients none = by_place (nat_lt (position_or_len (λ (one : Client). same_tag tag one.tag) clients) (length clients)) refl none
  where
    by_place : (b : Bool) → nat_lt (position_or_len (λ (one : Client). same_tag tag one.tag) clients) (length clients) ≡ b
        → cond b (Some (position_or_len (λ (one : Client). same_tag tag one.tag) clients)) None ≡ None
        → length clients ≤ position_or_len (λ (one : Client). same_tag tag one.tag) clients
    by_place true is e = absurd (none-some (position_or_len (λ (one : Client). same_tag tag one.tag) clients) (sym e))
    by_place false is e = grind (arith, nat_tests)

pub none_found : (tag : Tag) (clients : List Client) → position (λ (one : Client). same_tag tag one.tag) clients ≡ None → client_of tag clients ≡ None
none_found tag clients none =
    let p = λ (one : Client). same_tag tag one.tag in
    find_at p clients ∙ slice_get_past clients (position_or_len p clients) (past_all tag clients none)

-- a new connection is served if its tag has no texts
serves_new : (playout : Playout) (client : Client) (now : SessionState) (played : List PlayedLine) → client.session ≡ Some now → texts_of client.tag played ≡ []
    → ((config : ConfigView) (media : List MediaNameView) → Represents config media now at_start) → IsBetweenLines now
    → ServesConnection playout client played
serves_new playout client now played has none stands between = record {
  whole = inl (stream_of-none client.tag played none);
  count = ap (λ (s : List ℕ). length (lines_of s)) (stream_of-none client.tag played none) ∙ sym (ap length none);
  served = subst (λ s. IsServed playout client.tag s played) (sym has)
      (rw (stream_of-none client.tag played none, given_up_of-none client.tag played none, none) (stands playout.config playout.names), between);
}

module _ (playout : Playout) (clients : List Client) (new : Client) (now : SessionState) (played : List PlayedLine)
    (none : position (λ (one : Client). same_tag new.tag one.tag) clients ≡ None) (are : AreClients playout clients played) (has : new.session ≡ Some now)
    (stands : (config : ConfigView) (media : List MediaNameView) → Represents config media now at_start) (between : IsBetweenLines now) where
  added_tag : (other : Tag) (b : Bool) → same_tag other new.tag ≡ b → IsClient playout other (client_of other (clients ++ new ∷ [])) played
  added_tag other true is =
      let same = same_tag-is other new.tag is in
      let nothing = none_found new.tag clients none in
      let said : texts_of new.tag played ≡ [] = subst (λ o. IsClient playout new.tag o played) nothing (are new.tag) in
      let here : client_of new.tag (clients ++ new ∷ []) ≡ Some new =
      find_snoc (λ (one : Client). same_tag new.tag one.tag) clients new
      ∙ ap (λ (o : Option Client). option_or o (find (λ (one : Client). same_tag new.tag one.tag) (new ∷ []))) nothing
      ∙ ap (λ (b : Bool). cond b (Some new) None) (same_tag-refl new.tag) in
      subst (λ t. IsClient playout t (client_of t (clients ++ new ∷ [])) played) (sym same)
      (subst (λ o. IsClient playout new.tag o played) (sym here) (serves_new playout new now played has said stands between))
  added_tag other false is =
      let here : client_of other (clients ++ new ∷ []) ≡ client_of other clients =
      find_snoc (λ (one : Client). same_tag other one.tag) clients new
      ∙ ap (λ (b : Bool). option_or (client_of other clients) (cond b (Some new) None)) is
      ∙ or_none (client_of other clients) in
      subst (λ o. IsClient playout other o played) (sym here) (are other)
    where
      or_none : (o : Option Client) → option_or o None ≡ o
      or_none None = refl
      or_none (Some c) = refl

  -- all connections are served after one was added
  pub added : AreClients playout (clients ++ new ∷ []) played
  added = λ other. added_tag other (same_tag other new.tag) refl

-- and its index is the last
pub added_place : (tag : Tag) (clients : List Client) (new : Client) → new.tag ≡ tag → position (λ (one : Client). same_tag tag one.tag) clients ≡ None
    → IsPlaceOf tag (length clients) (clients ++ new ∷ [])
added_place tag clients new is none =
    let p = λ (one : Client). same_tag tag one.tag in
    let passes : p new ≡ true = ap (same_tag tag) is ∙ same_tag-refl tag in
    let all : position_or_len p clients ≡ length clients = omega (arith, past_all tag clients none, prefix_len-le-length (λ (one : Client). not (p one)) clients) in
    let last : position_or_len p (clients ++ new ∷ []) ≡ length clients =
    position_or_len_push p clients new
    ∙ ap₂ (λ (n : ℕ) (b : Bool). cond (eqb n (length clients)) (length clients + cond b 0 1) n) all passes
    ∙ ap (λ (b : Bool). cond b (length clients + 0) (length clients)) (same_number (length clients)) ∙ omega arith in
    ap (λ (n : ℕ). cond (nat_lt n (length (clients ++ new ∷ []))) (Some n) None) last
    ∙ ap (λ (b : Bool). cond b (Some (length clients)) None) (lt-ltb (length clients) (length (clients ++ new ∷ [])) (omega (arith, length-append clients (new ∷ []))))

-- the index of each tag if a connection of this tag is added
pub placed_added : (tag other : Tag) (at : ℕ) (before now : Option ℕ) (clients all : List Client) (new : Client) → all ≡ clients ++ new ∷ [] → new.tag ≡ tag
    → at ≡ length clients → position (is_of tag) clients ≡ None → before ≡ position (is_of other) clients → now ≡ cond (same_tag tag other) (Some at) before
    → now ≡ position (is_of other) all
placed_added tag other at before now clients all new is own last none placed changed = by_tag (same_tag tag other) refl changed ∙ ap (position (is_of other)) (sym is)
  where
    apart : same_tag tag other ≡ false → (b : Bool) → same_tag other tag ≡ b → same_tag other tag ≡ false
    apart differ true same = absurd (let no : true ≡ false = sym (same_tag-refl tag) ∙ ap (same_tag tag) (sym (same_tag-is other tag same)) ∙ differ in cc)
    apart differ false same = same

    by_tag : (b : Bool) → same_tag tag other ≡ b → now ≡ cond b (Some at) before → now ≡ position (is_of other) (clients ++ new ∷ [])
    by_tag true same change =
        change ∙ ap Some last ∙ sym (added_place tag clients new own none)
        ∙ ap (λ t. position (is_of t) (clients ++ new ∷ [])) (same_tag-is tag other same)
    by_tag false differ change =
        change ∙ placed
        ∙ sym (place_kept (is_of other) clients new (ap (same_tag other) own ∙ apart differ (same_tag other tag) refl))

-- a connection was added at the end
pub adds : (tag : Tag) (now : SessionState) (old new : List Client) (client : Client) → new ≡ old ++ client ∷ [] → client.tag ≡ tag → client.session ≡ Some now → AddsClient tag now old new
adds tag now old new client items own session = record { client = client; items = items; own = own; session = session }

-- the index that is returned after a connection was added
pub place_added : {E : Type 0} (tag : Tag) (now : SessionState) (old new : List Client) (result : Result ℕ E) → IfOk result (λ at. (at ≡ length old) × AddsClient tag now old new)
    → position (is_of tag) old ≡ None → now.batch ≡ [] → ((config : ConfigView) (media : List MediaNameView) → Represents config media now at_start) → IsBetweenLines now
    → IfOk result (λ at. (at < length new) × IsPlaceOf tag at new × ((config : ConfigView) → HaveAimedBatches config old → HaveAimedBatches config new)
    × ((playout : Playout) (played : List PlayedLine) → AreClients playout old played → AreClients playout new played))
place_added tag now old new (Ok at) (last, added_one) none empty stands between =
    let client = added_one.client in
    let items = added_one.items in
    let size = ap length items ∙ length-append old (client ∷ []) in
    let none_of : position (is_of client.tag) old ≡ None = ap (λ t. position (is_of t) old) added_one.own ∙ none in (
      omega (arith, last, size),
      subst₂ (λ n l. IsPlaceOf tag n l) (sym last) (sym items) (added_place tag old client added_one.own none),
      λ config aimed. subst (HaveAimedBatches config) (sym items) (aimed_added config old client (ap session_batch added_one.session ∙ empty) aimed),
      λ playout played are. subst (λ l. AreClients playout l played) (sym items) (added playout old client now played none_of are added_one.session stands between),
    )
place_added tag now old new (Err e) added_one none empty stands between = tt

-- before any line there is no connection
pub no_clients : (playout : Playout) → AreClients playout [] []
unfolding texts_of
no_clients playout = λ tag. refl

-- a line that is of no connection changes nothing for any connection
pub clients_other : (playout : Playout) (clients : List Client) (played : List PlayedLine) (line : PlayedLine) → ((tag : Tag) → text_by tag line.line ≡ None)
    → AreClients playout clients played → AreClients playout clients (played ++ line ∷ [])
clients_other playout clients played line none are = λ tag.
    client_other playout tag (client_of tag clients) played line (none tag)
    (λ client got. sym (same_tag-is tag client.tag (find_passes (λ (one : Client). same_tag tag one.tag) clients client got)))
    (are tag)
