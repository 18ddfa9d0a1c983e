-- The parts of the program's run, put together.
use Rattle.std.proofs.Common.{◌≡◌, ℕ, true, false, List, refl, sym, ap, ◌∙◌, subst, inl, inr}
use Rattle.std.specs.Prelude.{Option, Some, None, Result, Ok, Err, option_map, string_bytes}
use Rattle.std.specs.Result.{IsErrAnd}
use Rattle.std.proofs.lemmas.Option.{none-some}
use Rattle.play_outside.specs.FolderState.{FolderState}
use Rattle.play_outside.specs.SinkState.{SinkState}
use Rattle.play_outside.specs.declared.devices.Devices.{Devices}
use Rattle.play_outside.specs.declared.folder.FileFault.{FileFault}
use Rattle.play_outside.specs.declared.folder.FileFault.TheVariants as file
use Rattle.server_setup.specs.Fault.{fault_of_file}
use Rattle.server_setup.specs.declared.fault.RunFault.{RunFault}
use Rattle.server_setup.specs.declared.fault.RunFault.TheVariants.{Usage, ConfigText, ConfigKey, BadLine, InputTooLong, Plan, PlanEnd, Record, Resume, Clip, MediaTwice, MediaTotal, Device, OutOfMemory}
use Rattle.server_setup.specs.Setup.{SetsUp}
use Rattle.server_setup.specs.declared.setup.ServerSetup.{ServerSetup}
use Rattle.play_server.specs.Program.{Asked, AtSite, IsToldAs, ResumesSetUp, Resumption, RunsLine, RunsOn, RunsRead, RunsServer, RunsSetUp, RunsWords, ServesOn, TakesMemory, asked_in, asked_of, asked_read, resumption_in}
use Rattle.server_run.specs.Run.{Program, Serves}
use Rattle.play_server.specs.ServerWords.{Accepts}
use Rattle.server_run.specs.Devices.{DeviceStates}
use Rattle.play_server.specs.Site.{AreReady, Finishes, IsNotReady, ready_call}
use Rattle.play_server.specs.SiteState.{SiteState, after_call}
use Rattle.server_run.specs.declared.served.ServeEnd.{ServeEnd}
use Rattle.server_run.specs.declared.served.ServeEnd.TheVariants as serve
use Rattle.play_server.specs.declared.site.FinishStep.{FinishStep}
use Rattle.play_server.specs.declared.site.FinishStep.TheVariants as finish
use Rattle.play_server.specs.declared.words.ServerWords.{ServerWords}
use Rattle.play_server.specs.declared.words.ServerWordsFault.{ServerWordsFault}
use Rattle.play_server.specs.declared.words.ServerWordsFault.TheVariants as words
use Rattle.play_server.specs.inner.Ending.{EndsWithFault}
use Rattle.play_server.specs.inner.Resuming.{Resumes, result_of}

-- devices were given, served and finished
abbrev pub served_on : {C D O L : Type 0} (device : DeviceStates C D O L) (tells : L → SinkState) (program : Program) (end told_end : ServeEnd) (step : FinishStep)
    (path told_path : Option (List ℕ)) (given finished : Devices C D O) (before between after : SiteState C D O) →
    AreReady device program.config given → Serves device tells program told_end (given, finished) → told_end ≡ end →
    between ≡ after_call (ready_call program.config told_path true) before → told_path ≡ path → Finishes step finished between after →
    ServesOn device tells (record { program = program; path = path }) end (before, after)
served_on {C} {D} {O} device tells program end told_end step path told_path given finished before between after ready serves ends called same_path done = record {
  given = given;
  finished = finished;
  ready = ready;
  serves = subst (λ (e : ServeEnd). Serves device tells program e (given, finished)) ends serves;
  step = step;
  finishes =
      subst (λ (s : SiteState C D O). Finishes step finished s after)
      (called ∙ ap (λ (p : Option (List ℕ)). after_call (ready_call program.config p true) before) same_path) done;
}

-- a run on devices that were given and taken back has its result
pub ran_on : {C D O L : Type 0} (device : DeviceStates C D O L) (tells : L → SinkState) (asked : Asked) (end : ServeEnd) (moments : SiteState C D O × SiteState C D O)
    (served : ServesOn device tells asked end moments) (result : Result (Unit {0}) RunFault) → result ≡ result_of end served.step → RunsOn device tells asked result moments
ran_on {C} {D} {O} {L} device tells asked end moments served result is = subst (λ (r : Result (Unit {0}) RunFault). RunsOn device tells asked r moments) (sym is) (by_end end served)
  where
    by_step : (run : ServesOn device tells asked serve.Ended moments) (step : FinishStep) → run.step ≡ step → RunsOn device tells asked (result_of serve.Ended step) moments
    by_step run finish.Done step_is = (run, step_is)
    by_step run finish.Failed step_is = inr (inl (run, step_is))

    by_end : (how : ServeEnd) (run : ServesOn device tells asked how moments) → RunsOn device tells asked (result_of how run.step) moments
    by_end serve.Ended run = by_step run run.step refl
    by_end serve.DeviceFault run = inl run
    by_end serve.OutOfMemory run = inl run

-- the site gave no devices for a run
pub not_ready : {C D O L : Type 0} (device : DeviceStates C D O L) (tells : L → SinkState) (asked : Asked) (fault : FileFault) (path : Option (List ℕ))
    (result : Result (Unit {0}) RunFault) (moments : SiteState C D O × SiteState C D O) → IsErrAnd result (λ other. other ≡ fault_of_file fault)
    → IsNotReady fault (ready_call asked.program.config path false) moments.0 moments.1 → path ≡ asked.path → RunsOn device tells asked result moments
not_ready device tells asked fault path (Ok done) moments is unready same = absurd is
not_ready device tells asked file.Failed path (Err other) moments is unready same =
    subst (λ (f : RunFault). RunsOn device tells asked (Err f) moments) (sym is)
    (inr (inr (subst (λ (p : Option (List ℕ)). IsNotReady file.Failed (ready_call asked.program.config p false) moments.0 moments.1) same unready)))
not_ready device tells asked file.OutOfMemory path (Err other) moments is unready same =
    subst (λ (f : RunFault). RunsOn device tells asked (Err f) moments) (sym is)
    (inr (subst (λ (p : Option (List ℕ)). IsNotReady file.OutOfMemory (ready_call asked.program.config p false) moments.0 moments.1) same unready))

-- the arguments were accepted and name no history, a server was set up, and it ran
pub ran_line : {C D O L : Type 0} (device : DeviceStates C D O L) (tells : L → SinkState) (line : List (List ℕ)) (named : ServerWords) (setup : ServerSetup)
    (path : List ℕ) (result : Result (Unit {0}) RunFault) (before lent left after : FolderState) (site between last : SiteState C D O) →
    Accepts line named → option_map string_bytes named.resume ≡ None → path ≡ string_bytes named.config → lent ≡ before → SetsUp path (Ok setup) lent left → after ≡ left → between ≡ site →
    RunsOn device tells (asked_of setup (option_map string_bytes named.journal)) result (between, last) →
    RunsLine device tells line result (record { folder = before; site = site }, record { folder = after; site = last })
ran_line device tells line named setup path result before lent left after site between last accepts fresh path_is lent_is sets_up left_is same runs = record {
  read = Ok named;
  reads = accepts;
  runs = record {
    setup = Ok setup;
    sets_up =
        subst (λ (p : List ℕ). SetsUp p (Ok setup) before after) path_is
        (subst (λ (f : FolderState). SetsUp path (Ok setup) f after) lent_is
        (subst (λ (f : FolderState). SetsUp path (Ok setup) lent f) (sym left_is) sets_up));
    runs = λ none. subst (λ (s : SiteState _ _ _). RunsOn device tells (asked_of setup (option_map string_bytes named.journal)) result (s, last)) same runs;
    resumes = λ from is. absurd (none-some from (sym fresh ∙ is));
  };
}

-- the arguments were accepted and name a history, a server was set up, and the history was opened, or was not
pub resumed_line : {C D O L : Type 0} (device : DeviceStates C D O L) (tells : L → SinkState) (line : List (List ℕ)) (named : ServerWords) (setup : ServerSetup)
    (from path : List ℕ) (result : Result (Unit {0}) RunFault) (before lent left after : FolderState) (site between last : SiteState C D O) →
    Accepts line named → option_map string_bytes named.resume ≡ Some from → path ≡ string_bytes named.config → lent ≡ before → SetsUp path (Ok setup) lent left → after ≡ left → between ≡ site →
    Resumes device tells (record { setup = setup; from = from; path = option_map string_bytes named.journal }) result (between, last) →
    RunsLine device tells line result (record { folder = before; site = site }, record { folder = after; site = last })
resumed_line {C} {D} {O} device tells line named setup from path result before lent left after site between last accepts resumes path_is lent_is sets_up left_is same runs = record {
  read = Ok named;
  reads = accepts;
  runs = record {
    setup = Ok setup;
    sets_up =
        subst (λ (p : List ℕ). SetsUp p (Ok setup) before after) path_is
        (subst (λ (f : FolderState). SetsUp path (Ok setup) f after) lent_is
        (subst (λ (f : FolderState). SetsUp path (Ok setup) lent f) (sym left_is) sets_up));
    runs = λ none. absurd (none-some from (sym none ∙ resumes));
    resumes = λ other other_is.
        let both : Some from ≡ Some other = sym resumes ∙ other_is in
        let same_path : from ≡ other = cc in
        subst (λ (p : List ℕ). Resumes device tells (record { setup = setup; from = p; path = option_map string_bytes named.journal }) result (site, last)) same_path
        (subst (λ (s : SiteState C D O). Resumes device tells (record { setup = setup; from = from; path = option_map string_bytes named.journal }) result (s, last)) same runs);
  };
}

-- the arguments were accepted, and the setup met a fault
pub refused_line : {C D O L : Type 0} (device : DeviceStates C D O L) (tells : L → SinkState) (line : List (List ℕ)) (named : ServerWords) (fault : RunFault)
    (path : List ℕ) (result : Result (Unit {0}) RunFault) (before lent left after : FolderState) (site last : SiteState C D O) →
    Accepts line named → path ≡ string_bytes named.config → lent ≡ before → SetsUp path (Err fault) lent left → after ≡ left → last ≡ site → result ≡ Err fault →
    RunsLine device tells line result (record { folder = before; site = site }, record { folder = after; site = last })
refused_line device tells line named fault path result before lent left after site last accepts path_is lent_is sets_up left_is same result_is = record {
  read = Ok named;
  reads = accepts;
  runs = record {
    setup = Err fault;
    sets_up =
        subst (λ (p : List ℕ). SetsUp p (Err fault) before after) path_is
        (subst (λ (f : FolderState). SetsUp path (Err fault) f after) lent_is
        (subst (λ (f : FolderState). SetsUp path (Err fault) lent f) (sym left_is) sets_up));
    runs = λ none. (fault, inl refl, result_is, same);
    resumes = λ from is. (fault, inl refl, result_is, same);
  };
}

-- if the line of the reported fault needs memory, so does the line of the fault that was met
takes_line : (met told : RunFault) → IsToldAs met told → TakesMemory told → TakesMemory met
takes_line met told told_is takes =
    elim told_is [
      | inl same ↦ subst TakesMemory same takes
      | inr late ↦ late.0
    ]

module _ {C D O L : Type 0} (device : DeviceStates C D O L) (tells : L → SinkState) where
  -- a run on devices meets no fault whose line needs memory
  no_line_of_run : (asked : Asked) (met : RunFault) (moments : SiteState C D O × SiteState C D O) → TakesMemory met → RunsOn device tells asked (Err met) moments → ⊥
  no_line_of_run asked Usage moments takes runs = takes
  no_line_of_run asked ConfigText moments takes runs = takes
  no_line_of_run asked (ConfigKey key) moments takes runs = runs
  no_line_of_run asked (BadLine number) moments takes runs = runs
  no_line_of_run asked InputTooLong moments takes runs = takes
  no_line_of_run asked (Plan number) moments takes runs = runs
  no_line_of_run asked PlanEnd moments takes runs = takes
  no_line_of_run asked (Record name) moments takes runs = runs
  no_line_of_run asked (Resume number) moments takes runs = runs
  no_line_of_run asked (Clip fault) moments takes runs = runs
  no_line_of_run asked (MediaTwice name) moments takes runs = runs
  no_line_of_run asked (MediaTotal total) moments takes runs = takes
  no_line_of_run asked Device moments takes runs = takes
  no_line_of_run asked OutOfMemory moments takes runs = takes

  -- memory ran out for the line of what setting up met
  lost_in_setup : (setup : Result ServerSetup RunFault) (path : Option (List ℕ)) (met : RunFault) (moments : SiteState C D O × SiteState C D O) → TakesMemory met
      → RunsSetUp device tells (asked_in setup path) (Err met) moments → RunsSetUp device tells (asked_in setup path) (Err OutOfMemory) moments
  lost_in_setup (Ok setup) path met moments takes runs = absurd (no_line_of_run (asked_of setup path) met moments takes runs)
  lost_in_setup (Err fault) path met moments takes runs =
      let same : met ≡ runs.0 = let both = runs.2 in cc in
      (OutOfMemory, inr (takes_line fault runs.0 runs.1 (subst TakesMemory same takes), refl), refl, runs.3)

  -- memory ran out for the line of what the reading of a history met
  lost_in_read : (asked : Result Asked RunFault) (met : RunFault) (moments : SiteState C D O × SiteState C D O) → TakesMemory met
      → RunsRead device tells asked (Err met) moments → RunsRead device tells asked (Err OutOfMemory) moments
  lost_in_read (Ok asked) met moments takes runs =
      elim runs [
        | inl memory ↦
            let same : met ≡ OutOfMemory = let both = memory.0 in cc in
            absurd (subst TakesMemory same takes)
        | inr run ↦ absurd (no_line_of_run asked met moments takes run)
      ]
  lost_in_read (Err fault) met moments takes runs =
      let same : met ≡ runs.0 = let both = runs.2 in cc in
      (OutOfMemory, inr (takes_line fault runs.0 runs.1 (subst TakesMemory same takes), refl), refl, runs.3)

  -- a history that was not opened has a fault whose line needs no memory
  no_line_of_file : (fault : FileFault) (met : RunFault) → TakesMemory met → Path (Result (Unit {0}) RunFault) (Err met) (Err (fault_of_file fault)) → ⊥
  no_line_of_file file.Failed met takes is =
      let same : met ≡ Device = cc in
      subst TakesMemory same takes
  no_line_of_file file.OutOfMemory met takes is =
      let same : met ≡ OutOfMemory = cc in
      subst TakesMemory same takes

  lost_in_resuming : (asked : Result Resumption RunFault) (met : RunFault) (moments : SiteState C D O × SiteState C D O) → TakesMemory met
      → ResumesSetUp device tells asked (Err met) moments → ResumesSetUp device tells asked (Err OutOfMemory) moments
  lost_in_resuming (Ok asked) met moments takes runs =
      elim runs [
        | inl opened ↦
            inl (record {
              read = opened.read;
              opened = opened.opened;
              reads = opened.reads;
              runs = lost_in_read (asked_read opened.read asked.path) met (opened.opened, moments.1) takes opened.runs;
            })
        | inr nothing ↦ absurd (no_line_of_file nothing.fault met takes nothing.met)
      ]
  lost_in_resuming (Err fault) met moments takes runs =
      let same : met ≡ runs.0 = let both = runs.2 in cc in
      (OutOfMemory, inr (takes_line fault runs.0 runs.1 (subst TakesMemory same takes), refl), refl, runs.3)

  lost_in_words : (read : Result ServerWords ServerWordsFault) (met : RunFault) (moments : AtSite C D O × AtSite C D O) → TakesMemory met
      → RunsWords device tells read (Err met) moments → RunsWords device tells read (Err OutOfMemory) moments
  lost_in_words (Ok named) met moments takes runs = record {
    setup = runs.setup;
    sets_up = runs.sets_up;
    runs = λ none. lost_in_setup runs.setup (option_map string_bytes named.journal) met (moments.0.site, moments.1.site) takes (runs.runs none);
    resumes = λ from is.
        lost_in_resuming (resumption_in runs.setup from (option_map string_bytes named.journal)) met (moments.0.site, moments.1.site) takes (runs.resumes from is);
  }
  lost_in_words (Err words.Usage) met moments takes runs =
      let same : met ≡ Usage = let both = runs.0 in cc in
      absurd (subst TakesMemory same takes)
  lost_in_words (Err words.OutOfMemory) met moments takes runs =
      let same : met ≡ OutOfMemory = let both = runs.0 in cc in
      absurd (subst TakesMemory same takes)

  -- the fault that was met may be reported as it is, and as OutOfMemory if its line needs memory
  told_line : (line : List (List ℕ)) (met told : RunFault) (moments : AtSite C D O × AtSite C D O) → IsToldAs met told
      → RunsLine device tells line (Err met) moments → RunsLine device tells line (Err told) moments
  told_line line met told moments told_is ran =
      elim told_is [
        | inl same ↦ subst (λ (f : RunFault). RunsLine device tells line (Err f) moments) (sym same) ran
        | inr late ↦
            subst (λ (f : RunFault). RunsLine device tells line (Err f) moments) (sym late.1)
            (record { read = ran.read; reads = ran.reads; runs = lost_in_words ran.read met moments late.0 ran.runs })
      ]

  -- a fault was met and reported
  pub ended_with : (line : List (List ℕ)) (met : RunFault) (status : ℕ) (first between last : AtSite C D O)
      → RunsLine device tells line (Err met) (first, between) → EndsWithFault met status between.site last.site → last.folder ≡ between.folder
      → RunsServer device tells line status (first, last)
  ended_with line met status first between last ran ends folder = record {
    result = Err ends.told;
    between = between;
    runs = told_line line met ends.told (first, between) ends.told_is ran;
    says = ends.says;
    folder = folder;
    status_is = ends.status_is;
  }

  -- the run ended without a fault, and nothing was printed
  pub ended_without_fault : (line : List (List ℕ)) (first last : AtSite C D O) → RunsLine device tells line (Ok tt) (first, last) → RunsServer device tells line 0 (first, last)
  ended_without_fault line first last ran = record {
    result = Ok tt;
    between = last;
    runs = ran;
    says = refl;
    folder = refl;
    status_is = refl;
  }
