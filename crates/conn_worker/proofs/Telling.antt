-- What a link has recorded after the rounds of a connection.
use Rattle.std.proofs.Common.{◌≡◌, ℕ, ◌+◌, ◌-◌, ◌^◌, ◌<◌, ◌≤◌, true, List, [], ◌∷◌, ◌++◌, length, refl, sym, ap, ap₂, ◌∙◌, arith, append-nil, append_assoc, length-append}
use Rattle.std.specs.Prelude.{Option, Some, None, min, max, option_map}
use Rattle.std.proofs.lemmas.Grind.{flat_map-append}
use Rattle.std.proofs.lemmas.List.Sums.{sum_by-cons}
use Rattle.play_outside.specs.Reading.{Reading}
use Rattle.play_outside.specs.declared.link.Look as told
use Rattle.play_outside.specs.Faults.{one_more}
use Rattle.play_outside.specs.Link.{one_look}
use Rattle.play_outside.specs.SinkState.{SinkState, more_taken}
use Rattle.play_outside.proofs.Taking.{more_taken-more_taken, more_taken-nil}
use Rattle.conn_worker.specs.Followed.{Service, Followed, replies, sent_bytes}
use Rattle.conn_worker.specs.Rounds.{Look, Got, End, Nothing, Round, after_look, after_round, after_rounds, bytes_in, followed_in, idle_looks, look_bytes, looks_from, number_idle}

look_taken : (look : Look) (link : SinkState) → (after_look look link).taken ≡ link.taken
look_taken (Got bytes) link = refl
look_taken End link = refl
look_taken (Nothing history) link = refl

look_faults : (look : Look) (link : SinkState) → (after_look look link).faults ≡ link.faults
look_faults (Got bytes) link = refl
look_faults End link = refl
look_faults (Nothing history) link = refl

-- the replies were taken
pub rounds_taken : (service : Service) (rounds : List Round) (link : SinkState)
    → (after_rounds service rounds link).taken ≡ more_taken link.taken (replies service (followed_in rounds))
rounds_taken service [] link = sym (more_taken-nil link.taken)
rounds_taken service (round ∷ rounds) link =
    rounds_taken service rounds (after_round service round link)
    ∙ ap (λ (t : Option (List ℕ)). more_taken (more_taken t (replies service round.followed)) (replies service (followed_in rounds))) (look_taken round.look link)
    ∙ more_taken-more_taken link.taken (replies service round.followed) (replies service (followed_in rounds))
    ∙ ap (more_taken link.taken) (sym (flat_map-append (sent_bytes service) round.followed (followed_in rounds)))

-- no call failed
pub rounds_faults : (service : Service) (rounds : List Round) (link : SinkState) → (after_rounds service rounds link).faults ≡ link.faults
rounds_faults service [] link = refl
rounds_faults service (round ∷ rounds) link = rounds_faults service rounds (after_round service round link) ∙ look_faults round.look link

-- the bytes were given
read_more : (look : Look) (reading : Option Reading) (taken : Option (List ℕ)) (faults mark idle : ℕ) (at_fault : Option (List ℕ)) (rest : List ℕ)
    → option_map (λ (r : Reading). r.bytes ++ rest)
    (after_look look (record { taken = taken; faults = faults; mark = mark; at_fault = at_fault; reading = reading; idle = idle })).reading
    ≡ option_map (λ (r : Reading). r.bytes ++ (look_bytes look ++ rest)) reading
read_more (Got bytes) None taken faults mark idle at_fault rest = refl
read_more (Got bytes) (Some reading) taken faults mark idle at_fault rest = ap Some (append_assoc reading.bytes bytes rest)
read_more End None taken faults mark idle at_fault rest = refl
read_more End (Some reading) taken faults mark idle at_fault rest = ap Some (append_assoc reading.bytes [] rest)
read_more (Nothing history) None taken faults mark idle at_fault rest = refl
read_more (Nothing history) (Some reading) taken faults mark idle at_fault rest = ap Some (append_assoc reading.bytes [] rest)

read_none : (reading : Option Reading) → option_map (λ (r : Reading). r.bytes) reading ≡ option_map (λ (r : Reading). r.bytes ++ []) reading
read_none None = refl
read_none (Some reading) = ap Some (sym (append-nil reading.bytes))

pub rounds_read : (service : Service) (rounds : List Round) (link : SinkState)
    → option_map (λ (r : Reading). r.bytes) (after_rounds service rounds link).reading ≡ option_map (λ (r : Reading). r.bytes ++ bytes_in rounds) link.reading
rounds_read service [] link = read_none link.reading
rounds_read service (round ∷ rounds) link =
    rounds_read service rounds (after_round service round link)
    ∙ read_more round.look link.reading link.taken link.faults link.mark link.idle link.at_fault (bytes_in rounds)

-- the count of idle reads never falls, and below its greatest value it rises by one for each
idle_grows : (look : Look) (link : SinkState) → link.idle ≤ (after_look look link).idle
idle_grows (Got bytes) link = omega arith
idle_grows End link = omega arith
idle_grows (Nothing history) link = larger link.idle (2 ^ 64 - 1)
  where
    larger : (n most : ℕ) → n ≤ max n (min (n + 1) most)
    larger n most = omega arith

rounds_idle_grows : (service : Service) (rounds : List Round) (link : SinkState) → link.idle ≤ (after_rounds service rounds link).idle
rounds_idle_grows service [] link = omega arith
rounds_idle_grows service (round ∷ rounds) link =
    let one = idle_grows round.look link in
    let more = rounds_idle_grows service rounds (after_round service round link) in
    omega (arith, one, more)

idle_one : (look : Look) (link : SinkState) → (after_look look link).idle < 2 ^ 64 - 1 → (after_look look link).idle ≡ link.idle + idle_looks look
idle_one (Got bytes) link below = omega arith
idle_one End link below = omega arith
idle_one (Nothing history) link below = one link.idle (2 ^ 64 - 1) below
  where
    one : (n most : ℕ) → max n (min (n + 1) most) < most → max n (min (n + 1) most) ≡ n + 1
    one n most below = omega arith

pub rounds_idle : (service : Service) (rounds : List Round) (link : SinkState) → (after_rounds service rounds link).idle < 2 ^ 64 - 1
    → (after_rounds service rounds link).idle ≡ link.idle + number_idle rounds
rounds_idle service [] link below = omega arith
rounds_idle service (round ∷ rounds) link below =
    let next = after_round service round link in
    let grows = rounds_idle_grows service rounds next in
    let one = idle_one round.look link (below_first next.idle (after_rounds service rounds next).idle (2 ^ 64 - 1) grows below) in
    counted link.idle (idle_looks round.look) (number_idle rounds) next.idle (after_rounds service rounds next).idle (number_idle (round ∷ rounds)) one
    (rounds_idle service rounds next below) (sum_by-cons (λ (r : Round). idle_looks r.look) round rounds)
  where
    below_first : (a b most : ℕ) → a ≤ b → b < most → a < most
    below_first a b most grows below = omega arith

    counted : (start one more next last all : ℕ) → next ≡ start + one → last ≡ next + more → all ≡ one + more → last ≡ start + all
    counted start one more next last all first rest whole = omega arith

-- the reads were recorded
look_step : (service : Service) (taken added : List ℕ) (reading : Reading) (bytes : List ℕ) (rounds : List Round)
    → (reading.looks ++ record { taken = length taken; read = length reading.bytes } ∷ []) ++ looks_from service (length (taken ++ added)) (length (reading.bytes ++ bytes)) rounds
    ≡ reading.looks ++ record { taken = length taken; read = length reading.bytes } ∷ looks_from service (length taken + length added) (length reading.bytes + length bytes) rounds
look_step service taken added reading bytes rounds =
    let one : told.Look = record { taken = length taken; read = length reading.bytes } in
    append_assoc reading.looks (one ∷ []) (looks_from service (length (taken ++ added)) (length (reading.bytes ++ bytes)) rounds)
    ∙ ap₂ (λ (a b : ℕ). reading.looks ++ one ∷ looks_from service a b rounds) (length-append taken added) (length-append reading.bytes bytes)

-- what a link has recorded of its reads, if it records them
abbrev told_looks : SinkState → Option (List told.Look)
told_looks link = option_map (λ (r : Reading). r.looks) link.reading

looks_by : (service : Service) (look : Look) (followed : List Followed) (rounds : List Round) (taken : List ℕ) (reading : Reading) (link : SinkState)
    → ((more : List ℕ) (given : Reading) (after : SinkState)
    → told_looks (after_rounds service rounds (record after { taken = Some more; reading = Some given })) ≡ Some (given.looks ++ looks_from service (length more) (length given.bytes) rounds))
    → told_looks (after_rounds service rounds (after_round service (record { look = look; followed = followed }) (record link { taken = Some taken; reading = Some reading })))
    ≡ Some (reading.looks ++ looks_from service (length taken) (length reading.bytes) (record { look = look; followed = followed } ∷ rounds))
looks_by service (Got bytes) followed rounds taken reading link rest =
    rest (taken ++ replies service followed) (one_look (length taken) bytes reading) link
    ∙ ap Some (look_step service taken (replies service followed) reading bytes rounds)
looks_by service End followed rounds taken reading link rest =
    rest (taken ++ replies service followed) (record (one_look (length taken) [] reading) { ended = true }) link
    ∙ ap Some (look_step service taken (replies service followed) reading [] rounds)
looks_by service (Nothing history) followed rounds taken reading link rest =
    rest (taken ++ replies service followed) (one_look (length taken) [] reading) (record link { idle = one_more link.idle })
    ∙ ap Some (look_step service taken (replies service followed) reading [] rounds)

looks_told : (service : Service) (rounds : List Round) (taken : List ℕ) (reading : Reading) (link : SinkState)
    → told_looks (after_rounds service rounds (record link { taken = Some taken; reading = Some reading }))
    ≡ Some (reading.looks ++ looks_from service (length taken) (length reading.bytes) rounds)
looks_told service [] taken reading link = ap Some (sym (append-nil reading.looks))
looks_told service (round ∷ rounds) taken reading link =
    looks_by service round.look round.followed rounds taken reading link (λ more given after. looks_told service rounds more given after)

pub rounds_looks : (service : Service) (rounds : List Round) (link : SinkState) (taken : List ℕ) (reading : Reading)
    → link.taken ≡ Some taken → link.reading ≡ Some reading
    → told_looks (after_rounds service rounds link) ≡ Some (reading.looks ++ looks_from service (length taken) (length reading.bytes) rounds)
rounds_looks service rounds link taken reading takes reads =
    let same : link ≡ record link { taken = Some taken; reading = Some reading } = λ i. record link { taken = takes i; reading = reads i } in
    ap (λ (l : SinkState). told_looks (after_rounds service rounds l)) same ∙ looks_told service rounds taken reading link
