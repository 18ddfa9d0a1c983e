-- The exit status of a call of the program has its cause.
use Rattle.std.proofs.Common.{◌≡◌, ◌⊎◌, ℕ, ◌≤◌, List, refl, sym, ap, ◌∙◌, subst, subst₂, arith, inl, inr}
use Rattle.std.specs.Prelude.{None, Some, Result, Ok, Err, string_bytes}
use Rattle.play_outside.specs.Faults.{Rose, one_more}
use Rattle.play_outside.specs.FolderState.{FolderState}
use Rattle.play_outside.specs.declared.folder.FileFault.{FileFault}
use Rattle.play_outside.specs.declared.folder.FileFault.TheVariants as file
use Rattle.play_outside.specs.declared.sink.WriteStep.{WriteStep}
use Rattle.play_outside.specs.declared.sink.WriteStep.TheVariants as write
use Rattle.live_view.specs.Faults.{RefusesLog}
use Rattle.server_setup.specs.Fault.{HasDetail, fault_of_file, status_of}
use Rattle.server_setup.specs.Setup.{SetsUp}
use Rattle.server_setup.specs.declared.fault.RunFault.{RunFault}
use Rattle.server_setup.specs.declared.fault.RunFault.TheVariants.{Usage, ConfigText, ConfigKey, BadLine, InputTooLong, Plan, PlanEnd, Record, Resume, Clip, MediaTwice, MediaTotal, Device, OutOfMemory}
use Rattle.server_setup.specs.declared.setup.ServerSetup.{ServerSetup}
use Rattle.play_viewer.specs.Desk.{IsNotOpened, Says}
use Rattle.play_viewer.specs.Moves.{DeskState, Opened, after_move, opening_of}
use Rattle.play_viewer.specs.Program.{AtDesk, EndsProgram, EndsWithFault, IsToldAs, RunsLine, RunsSetUp, RunsViewer, RunsWords, SaysLine, viewed_of}
use Rattle.play_viewer.specs.Statuses.{HasFirstFault, HasItsCause, HasLost, HasViewed, IsRefused, RefusesClips, RefusesConfig, RefusesViewed}
use Rattle.play_viewer.specs.ViewerWords.{Accepts, IsRefusedLine, ReadsWords}
use Rattle.play_viewer.specs.Viewing.{Views, bytes_in}
use Rattle.play_viewer.specs.declared.words.ViewerWords.{ViewerWords}
use Rattle.play_viewer.specs.declared.words.ViewerWordsFault.{ViewerWordsFault}
use Rattle.play_viewer.specs.declared.words.ViewerWordsFault.TheVariants as words
use Rattle.play_viewer.proofs.FirstFault.{FirstFaultDecides, IsSetUp, clips_decided, clips_faultless, config_decided, config_faultless, never_set_up, unrefused}

-- a count after one more fault rose
rises : (before after : ℕ) → after ≡ one_more before → Rose before after
rises before after is = omega (arith, is)

-- a printed line takes no fault back
says_more : (step : WriteStep) (line : List ℕ) (before after : DeskState) → Says step line before after → before.faults ≤ after.faults
says_more (write.Took count) line before after said = let same = ap (λ (s : DeskState). s.faults) said.1 in omega (arith, same)
says_more write.Failed line before after said = let more = ap (λ (s : DeskState). s.faults) said in omega (arith, more)

module _ (line : List (List ℕ)) (folders : FolderState × FolderState) (before after : DeskState) where
  -- the setup met this fault, and the desk was not called
  abbrev Refused : RunFault → Type 0
  Refused fault = IsRefused line fault folders × (after ≡ before)

  -- what came of a call, by its result, before a line was printed
  abbrev Came : Result (Unit {0}) RunFault → Type 0
  Came (Ok done) = HasViewed line (Ok tt) folders before after
  Came (Err Usage) = IsRefusedLine line
  Came (Err ConfigText) = Refused ConfigText
  Came (Err (ConfigKey key)) = Refused (ConfigKey key)
  Came (Err (BadLine number)) = HasViewed line (Err (BadLine number)) folders before after
  Came (Err InputTooLong) = HasViewed line (Err InputTooLong) folders before after
  Came (Err (Plan number)) = ⊥
  Came (Err PlanEnd) = ⊥
  Came (Err (Record name)) = ⊥
  Came (Err (Resume number)) = ⊥
  Came (Err (Clip fault)) = ⊥
  Came (Err (MediaTwice name)) = Refused (MediaTwice name)
  Came (Err (MediaTotal total)) = Refused (MediaTotal total)
  Came (Err Device) = Rose folders.0.faults folders.1.faults ⊎ (IsSetUp line folders × Rose before.faults after.faults)
  Came (Err OutOfMemory) = (after ≡ before) ⊎ HasViewed line (Err OutOfMemory) folders before after

  module _ (named : ViewerWords) (accepted : Accepts line named) where
    -- of a setup that met a fault
    came_of_fault : (fault : RunFault) → SetsUp (string_bytes named.config) (Err fault) folders.0 folders.1 → after ≡ before → Came (Err fault)
    came_of_fault Usage sets same = absurd sets
    came_of_fault ConfigText sets same = (record { named = named; accepted = accepted; refused = sets }, same)
    came_of_fault (ConfigKey key) sets same = (record { named = named; accepted = accepted; refused = sets }, same)
    came_of_fault (BadLine number) sets same = absurd sets
    came_of_fault InputTooLong sets same = absurd sets
    came_of_fault (Plan number) sets same = absurd sets
    came_of_fault PlanEnd sets same = absurd sets
    came_of_fault (Record name) sets same = absurd sets
    came_of_fault (Resume number) sets same = absurd sets
    came_of_fault (Clip fault) sets same = absurd sets
    came_of_fault (MediaTwice name) sets same = (record { named = named; accepted = accepted; refused = sets }, same)
    came_of_fault (MediaTotal total) sets same = (record { named = named; accepted = accepted; refused = sets }, same)
    came_of_fault Device sets same = inl sets.1
    came_of_fault OutOfMemory sets same = inl same

    module _ (setup : ServerSetup) (sets : SetsUp (string_bytes named.config) (Ok setup) folders.0 folders.1) where
      abbrev opened : DeskState
      opened = after_move (Opened (opening_of named)) before

      is_set_up : IsSetUp line folders
      is_set_up = record { named = named; accepted = accepted; setup = setup; set_up = sets }

      -- of a desk that was not opened
      came_unopened : (fault : FileFault) → IsNotOpened fault before after → Came (Err (fault_of_file fault))
      came_unopened file.Failed unopened = inr (is_set_up, rises before.faults after.faults (ap (λ (s : DeskState). s.faults) unopened))
      came_unopened file.OutOfMemory unopened = inl unopened

      has_viewed : (result : Result (Unit {0}) RunFault) → Views (viewed_of named setup) result opened after → HasViewed line result folders before after
      has_viewed result views = record { named = named; accepted = accepted; setup = setup; set_up = sets; views = views }

      -- of a viewing whose log was refused
      came_refused : (fault : RunFault) (bytes : List ℕ) → RefusesLog (viewed_of named setup).playout bytes fault → Views (viewed_of named setup) (Err fault) opened after → Came (Err fault)
      came_refused Usage bytes refuses views = absurd refuses
      came_refused ConfigText bytes refuses views = absurd refuses
      came_refused (ConfigKey key) bytes refuses views = absurd refuses
      came_refused (BadLine number) bytes refuses views = has_viewed (Err (BadLine number)) views
      came_refused InputTooLong bytes refuses views = has_viewed (Err InputTooLong) views
      came_refused (Plan number) bytes refuses views = absurd refuses
      came_refused PlanEnd bytes refuses views = absurd refuses
      came_refused (Record name) bytes refuses views = absurd refuses
      came_refused (Resume number) bytes refuses views = absurd refuses
      came_refused (Clip fault) bytes refuses views = absurd refuses
      came_refused (MediaTwice name) bytes refuses views = absurd refuses
      came_refused (MediaTotal total) bytes refuses views = absurd refuses
      came_refused Device bytes refuses views = absurd refuses
      came_refused OutOfMemory bytes refuses views = inr (has_viewed (Err OutOfMemory) views)

      came_of_view : (result : Result (Unit {0}) RunFault) → Views (viewed_of named setup) result opened after → Came result
      came_of_view (Ok done) views = has_viewed (Ok tt) views
      came_of_view (Err fault) views =
          elim views.ends [
            | inl failed ↦
                subst (λ (f : RunFault). Came (Err f)) (sym failed.0)
                (inr (is_set_up, rises before.faults after.faults (ap (λ (s : DeskState). s.faults) failed.2)))
            | inr refused ↦ came_refused fault (bytes_in views.moves) refused.0 views
          ]

    came_of_setup : (setup : Result ServerSetup RunFault) (result : Result (Unit {0}) RunFault) → SetsUp (string_bytes named.config) setup folders.0 folders.1
        → RunsSetUp named setup result before after → Came result
    came_of_setup (Ok setup) result sets runs =
        elim runs [
          | inl views ↦ came_of_view setup sets result views
          | inr nothing ↦ subst Came (sym nothing.met) (came_unopened setup sets nothing.fault nothing.unopened)
        ]
    came_of_setup (Err fault) result sets runs = subst Came (sym runs.0) (came_of_fault fault sets runs.1)

-- a viewer was set up before a viewing
set_up_of : (line : List (List ℕ)) (result : Result (Unit {0}) RunFault) (folders : FolderState × FolderState) (before after : DeskState)
    → HasViewed line result folders before after → IsSetUp line folders
set_up_of line result folders before after viewed =
    record { named = viewed.named; accepted = viewed.accepted; setup = viewed.setup; set_up = viewed.set_up }

module _ (decides : FirstFaultDecides) (line : List (List ℕ)) (folders : FolderState × FolderState) (before last : DeskState) where
  abbrev Fails : Type 0
  Fails = Rose folders.0.faults folders.1.faults ⊎ Rose before.faults last.faults

  abbrev Lost : Type 0
  Lost = SaysLine OutOfMemory before last ⊎ HasLost line folders before last

  -- the status of a fault has its cause, once its line was printed
  record Causes (status : ℕ) : Type 0 where
    some : 1 ≤ status
    most : status ≤ 5
    usage : status ≡ 1 → IsRefusedLine line
    config : status ≡ 2 → RefusesConfig line folders ⊎ RefusesViewed line folders before last
    clips : status ≡ 3 → RefusesClips line folders
    device : status ≡ 4 → Fails
    memory : status ≡ 5 → Lost
    valid : HasFirstFault line None folders.0 → (status ≡ 5) ⊎ (((status ≡ 4) × Fails) ⊎ ((status ≡ 2) × RefusesViewed line folders before last))
    invalid : (found : RunFault) → HasFirstFault line (Some found) folders.0
        → (status ≡ status_of found) ⊎ ((status ≡ 5) ⊎ ((status ≡ 4) × Rose folders.0.faults folders.1.faults))

  cause_1 : IsRefusedLine line → Causes 1
  cause_1 refused = record {
    some = omega arith;
    most = omega arith;
    usage = λ is. refused;
    config = λ is. absurd (omega (arith, is));
    clips = λ is. absurd (omega (arith, is));
    device = λ is. absurd (omega (arith, is));
    memory = λ is. absurd (omega (arith, is));
    valid = λ has. absurd (unrefused line has.accepted has.few refused);
    invalid = λ found has. absurd (unrefused line has.accepted has.few refused);
  }

  viewed_set_up : RefusesViewed line folders before last → IsSetUp line folders
  viewed_set_up refuses =
      elim refuses [
        | inl bad ↦ set_up_of line _ folders before _ bad.1.viewed
        | inr long ↦ set_up_of line _ folders before _ long.viewed
      ]

  cause_2 : RefusesConfig line folders ⊎ RefusesViewed line folders before last → Causes 2
  cause_2 refuses = record {
    some = omega arith;
    most = omega arith;
    usage = λ is. absurd (omega (arith, is));
    config = λ is. refuses;
    clips = λ is. absurd (omega (arith, is));
    device = λ is. absurd (omega (arith, is));
    memory = λ is. absurd (omega (arith, is));
    valid = λ has. elim refuses [
      | inl config ↦ absurd (config_faultless decides line folders has config)
      | inr viewed ↦ inr (inr (refl, viewed))
    ];
    invalid = λ found has. elim refuses [
      | inl config ↦ inl (config_decided decides line folders found has config)
      | inr viewed ↦ absurd (never_set_up decides line folders found has (viewed_set_up viewed))
    ];
  }

  cause_3 : RefusesClips line folders → Causes 3
  cause_3 refuses = record {
    some = omega arith;
    most = omega arith;
    usage = λ is. absurd (omega (arith, is));
    config = λ is. absurd (omega (arith, is));
    clips = λ is. refuses;
    device = λ is. absurd (omega (arith, is));
    memory = λ is. absurd (omega (arith, is));
    valid = λ has. absurd (clips_faultless decides line folders has refuses);
    invalid = λ found has. inl (clips_decided decides line folders found has refuses);
  }

  either_rose : Rose folders.0.faults folders.1.faults ⊎ (IsSetUp line folders × Rose before.faults last.faults) → Fails
  either_rose fails =
      elim fails [
        | inl folder ↦ inl folder
        | inr desk ↦ inr desk.1
      ]

  cause_4 : Rose folders.0.faults folders.1.faults ⊎ (IsSetUp line folders × Rose before.faults last.faults) → Causes 4
  cause_4 fails = record {
    some = omega arith;
    most = omega arith;
    usage = λ is. absurd (omega (arith, is));
    config = λ is. absurd (omega (arith, is));
    clips = λ is. absurd (omega (arith, is));
    device = λ is. either_rose fails;
    memory = λ is. absurd (omega (arith, is));
    valid = λ has. inr (inl (refl, either_rose fails));
    invalid = λ found has. elim fails [
      | inl folder ↦ inr (inr (refl, folder))
      | inr desk ↦ absurd (never_set_up decides line folders found has desk.0)
    ];
  }

  cause_5 : Lost → Causes 5
  cause_5 lost = record {
    some = omega arith;
    most = omega arith;
    usage = λ is. absurd (omega (arith, is));
    config = λ is. absurd (omega (arith, is));
    clips = λ is. absurd (omega (arith, is));
    device = λ is. absurd (omega (arith, is));
    memory = λ is. lost;
    valid = λ has. inl refl;
    invalid = λ found has. inr (inl refl);
  }

  module _ (after : DeskState) where
    -- memory ran out before the desk was open
    unmoved : after ≡ before → SaysLine OutOfMemory after last → Lost
    unmoved same says = inl (subst (λ (s : DeskState). SaysLine OutOfMemory s last) same says)

    -- memory ran out in a viewing, or for the line of its fault
    in_viewing : (met : RunFault) → IsToldAs met OutOfMemory → HasViewed line (Err met) folders before after → SaysLine OutOfMemory after last → Lost
    in_viewing met told viewed says = inr (record { met = met; told_is = told; between = after; viewed = viewed; says = says })

    -- memory ran out for the line of a fault
    lost_line : (met : RunFault) → HasDetail met → Came line folders before after (Err met) → SaysLine OutOfMemory after last → Lost
    lost_line Usage detail came says = absurd detail
    lost_line ConfigText detail came says = absurd detail
    lost_line (ConfigKey key) detail came says = unmoved came.1 says
    lost_line (BadLine number) detail came says = in_viewing (BadLine number) (inr (detail, refl)) came says
    lost_line InputTooLong detail came says = absurd detail
    lost_line (Plan number) detail came says = absurd came
    lost_line PlanEnd detail came says = absurd came
    lost_line (Record name) detail came says = absurd came
    lost_line (Resume number) detail came says = absurd came
    lost_line (Clip fault) detail came says = absurd came
    lost_line (MediaTwice name) detail came says = unmoved came.1 says
    lost_line (MediaTotal total) detail came says = unmoved came.1 says
    lost_line Device detail came says = absurd detail
    lost_line OutOfMemory detail came says = absurd detail

    causes_of : (fault : RunFault) → Came line folders before after (Err fault) → SaysLine fault after last → Causes (status_of fault)
    causes_of Usage came says = cause_1 came
    causes_of ConfigText came says = cause_2 (inl (inl came.0))
    causes_of (ConfigKey key) came says = cause_2 (inl (inr (key, came.0)))
    causes_of (BadLine number) came says = cause_2 (inr (inl (number, record { between = after; viewed = came; says = says })))
    causes_of InputTooLong came says = cause_2 (inr (inr (record { between = after; viewed = came; says = says })))
    causes_of (Plan number) came says = absurd came
    causes_of PlanEnd came says = absurd came
    causes_of (Record name) came says = absurd came
    causes_of (Resume number) came says = absurd came
    causes_of (Clip fault) came says = absurd came
    causes_of (MediaTwice name) came says = cause_3 (inl (name, came.0))
    causes_of (MediaTotal total) came says = cause_3 (inr (total, came.0))
    causes_of Device came says =
        let more = says_more says.step says.line after last says.said in
        elim came [
          | inl rose ↦ cause_4 (inl rose)
          | inr desk ↦
              let rose = desk.1 in
              cause_4 (inr (desk.0, omega (arith, rose, more)))
        ]
    causes_of OutOfMemory came says =
        elim came [
          | inl same ↦ cause_5 (unmoved same says)
          | inr viewed ↦ cause_5 (in_viewing OutOfMemory (inl refl) viewed says)
        ]

module _ (line : List (List ℕ)) (first between : AtDesk) where
  came_of_words : (read : Result ViewerWords ViewerWordsFault) (result : Result (Unit {0}) RunFault) → ReadsWords line read → RunsWords read result (first, between)
      → Came line (first.folder, between.folder) first.desk between.desk result
  came_of_words (Ok named) result accepted runs =
      came_of_setup line (first.folder, between.folder) first.desk between.desk named accepted runs.setup result runs.sets_up runs.runs
  came_of_words (Err words.Usage) result refuses runs = subst (Came line (first.folder, between.folder) first.desk between.desk) (sym runs.0) refuses
  came_of_words (Err words.OutOfMemory) result refuses runs =
      subst (Came line (first.folder, between.folder) first.desk between.desk) (sym runs.0) (inl (ap (λ (s : AtDesk). s.desk) runs.1))

  -- the fault of refused arguments is Usage or OutOfMemory
  refused_so : (read : Result ViewerWords ViewerWordsFault) (met : RunFault) → ReadsWords line read → RunsWords read (Err met) (first, between) → IsRefusedLine line
      → (met ≡ Usage) ⊎ (met ≡ OutOfMemory)
  refused_so (Ok named) met accepted runs refused = absurd (unrefused line accepted.accepted accepted.few refused)
  refused_so (Err words.Usage) met reads runs refused = inl (let both = runs.0 in cc)
  refused_so (Err words.OutOfMemory) met reads runs refused = inr (let both = runs.0 in cc)

  -- and then the run is no viewing
  never_viewed : (read : Result ViewerWords ViewerWordsFault) → ReadsWords line read → RunsWords read (Ok tt) (first, between) → IsRefusedLine line → ⊥
  never_viewed (Ok named) accepted runs refused = unrefused line accepted.accepted accepted.few refused
  never_viewed (Err fault) reads runs refused = let both = runs.0 in cc

  module _ (decides : FirstFaultDecides) (last : AtDesk) (folder : last.folder ≡ between.folder) where
    module _ (met : RunFault) (status : ℕ) (ends : EndsWithFault met status between.desk last.desk) where
      -- the status is that of the fault that was reported
      by_fault : Came line (first.folder, between.folder) first.desk between.desk (Err met)
          → Causes decides line (first.folder, last.folder) first.desk last.desk status
      by_fault came =
          subst (λ (f : FolderState). Causes decides line (first.folder, f) first.desk last.desk status) (sym folder)
          (elim ends.told_is [
            | inl same ↦
                subst (Causes decides line (first.folder, between.folder) first.desk last.desk) (sym (ends.status_is ∙ ap status_of same))
                (causes_of decides line (first.folder, between.folder) first.desk last.desk between.desk met came
                (subst (λ (f : RunFault). SaysLine f between.desk last.desk) same ends.says))
            | inr late ↦
                subst (Causes decides line (first.folder, between.folder) first.desk last.desk) (sym (ends.status_is ∙ ap status_of late.1))
                (cause_5 decides line (first.folder, between.folder) first.desk last.desk
                (lost_line decides line (first.folder, between.folder) first.desk last.desk between.desk met late.0 came
                (subst (λ (f : RunFault). SaysLine f between.desk last.desk) late.1 ends.says)))
          ])

      status_refused : (met ≡ Usage) ⊎ (met ≡ OutOfMemory) → (status ≡ 1) ⊎ (status ≡ 5)
      status_refused either =
          elim either [
            | inl usage ↦ elim ends.told_is [
              | inl same ↦ inl (ends.status_is ∙ ap status_of (same ∙ usage))
              | inr late ↦ absurd (subst HasDetail usage late.0)
            ]
            | inr memory ↦ elim ends.told_is [
              | inl same ↦ inr (ends.status_is ∙ ap status_of (same ∙ memory))
              | inr late ↦ inr (ends.status_is ∙ ap status_of late.1)
            ]
          ]

    by_result : (result : Result (Unit {0}) RunFault) (status : ℕ) → RunsLine line result (first, between) → EndsProgram result status between.desk last.desk
        → HasItsCause line status (first, last)
    by_result (Ok done) status runs ends =
        let none = ends.0 in
        let viewed = came_of_words runs.read (Ok tt) runs.reads runs.runs in
        record {
          most = omega (arith, none);
          usage = λ is. absurd (omega (arith, is, none));
          refused = λ refused. absurd (never_viewed runs.read runs.reads runs.runs refused);
          config = λ is. absurd (omega (arith, is, none));
          clips = λ is. absurd (omega (arith, is, none));
          device = λ is. absurd (omega (arith, is, none));
          memory = λ is. absurd (omega (arith, is, none));
          success = λ is. subst₂ (λ (f : FolderState) (d : DeskState). HasViewed line (Ok tt) (first.folder, f) first.desk d) (sym folder) (sym ends.1) viewed;
          valid = λ has. inl none;
          invalid = λ found has. absurd (never_set_up decides line (first.folder, between.folder) found has (set_up_of line _ _ _ _ viewed));
        }
    by_result (Err met) status runs ends =
        let causes = by_fault met status ends (came_of_words runs.read (Err met) runs.reads runs.runs) in
        let some = causes.some in
        record {
          most = causes.most;
          usage = causes.usage;
          refused = λ refused. status_refused met status ends (refused_so runs.read met runs.reads runs.runs refused);
          config = causes.config;
          clips = causes.clips;
          device = causes.device;
          memory = causes.memory;
          success = λ is. absurd (omega (arith, is, some));
          valid = λ has. inr (causes.valid has);
          invalid = causes.invalid;
        }

-- the exit status of a call of the program has its cause
pub has_its_cause : FirstFaultDecides → (line : List (List ℕ)) (status : ℕ) (first last : AtDesk) → RunsViewer line status (first, last)
    → HasItsCause line status (first, last)
has_its_cause decides line status first last viewer =
    by_result line first viewer.between decides last viewer.folder viewer.result status viewer.runs viewer.ends
