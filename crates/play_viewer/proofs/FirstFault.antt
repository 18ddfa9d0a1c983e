-- What the first fault of known files says about a call of the program.
use Rattle.std.proofs.Common.{◌≡◌, ℕ, true≢false, List, sym, ap, ◌∙◌, subst, inl, inr}
use Rattle.std.specs.Prelude.{false, Option, Some, None, [], Result, Ok, Err, string_bytes}
use Rattle.std.proofs.lemmas.Option.{none-some}
use Rattle.clap.specs.Words.{fault_of, matches_of}
use Rattle.play_outside.specs.FolderState.{Files, FolderState}
use Rattle.server_setup.specs.Fault.{status_of}
use Rattle.server_setup.specs.Setup.{SetsUp, TellsFirst, fault_of_files}
use Rattle.server_setup.specs.declared.fault.RunFault.{RunFault}
use Rattle.server_setup.specs.declared.fault.RunFault.TheVariants.{ConfigText, ConfigKey, MediaTwice, MediaTotal}
use Rattle.server_setup.specs.declared.setup.ServerSetup.{ServerSetup}
use Rattle.play_viewer.specs.Statuses.{HasFirstFault, IsRefused, RefusesClips, RefusesConfig}
use Rattle.play_viewer.specs.ViewerWords.{Accepts, IsRefusedLine, has_too_many, playview_app}
use Rattle.play_viewer.specs.declared.words.ViewerWords.{ViewerWords}

-- the law on what setting up gives, by the first fault of the files
abbrev pub FirstFaultDecides : Type 0
FirstFaultDecides = (path : List ℕ) (result : Result ServerSetup RunFault) (before after : FolderState) (files : Files) →
    before.files ≡ Some files → SetsUp path result before after → TellsFirst result (fault_of_files path files)

-- a viewer was set up as the arguments ask
pub record IsSetUp (line : List (List ℕ)) (folders : FolderState × FolderState) : Type 0 where
  pub named : ViewerWords
  pub accepted : Accepts line named
  pub setup : ServerSetup
  pub set_up : SetsUp (string_bytes named.config) (Ok setup) folders.0 folders.1

-- accepted arguments are not refused
pub unrefused : (line : List (List ℕ)) → fault_of playview_app line ≡ [] → has_too_many (matches_of playview_app line) ≡ false → IsRefusedLine line → ⊥
unrefused line accepted few refused =
    elim refused [
      | inl by_clap ↦ by_clap accepted
      | inr many ↦ true≢false (sym many ∙ few)
    ]

module _ (decides : FirstFaultDecides) (line : List (List ℕ)) (folders : FolderState × FolderState) where
  module _ (first : Option RunFault) (has : HasFirstFault line first folders.0) where
    -- the result of the setup has the first fault
    first_of_setting_up : (named : ViewerWords) (setup : Result ServerSetup RunFault) → Accepts line named
        → SetsUp (string_bytes named.config) setup folders.0 folders.1 → TellsFirst setup first
    first_of_setting_up named setup accepted sets =
        let both : Some (string_bytes named.config) ≡ Some has.path = sym accepted.names.config ∙ has.config in
        let path : string_bytes named.config ≡ has.path = cc in
        subst (TellsFirst setup) has.first_is
        (subst (λ (p : List ℕ). TellsFirst setup (fault_of_files p has.files)) path
        (decides (string_bytes named.config) setup folders.0 folders.1 has.files has.told sets))

    first_of_refused : (fault : RunFault) → IsRefused line fault folders → TellsFirst (Err fault) first
    first_of_refused fault refused = first_of_setting_up refused.named (Err fault) refused.accepted refused.refused

  -- files without a fault are not refused
  module _ (has : HasFirstFault line None folders.0) where
    pub config_faultless : RefusesConfig line folders → ⊥
    config_faultless refuses =
        elim refuses [
          | inl text ↦ none-some _ (first_of_refused None has ConfigText text)
          | inr key ↦ none-some _ (first_of_refused None has (ConfigKey key.0) key.1)
        ]

    pub clips_faultless : RefusesClips line folders → ⊥
    clips_faultless refuses =
        elim refuses [
          | inl twice ↦ none-some _ (first_of_refused None has (MediaTwice twice.0) twice.1)
          | inr large ↦ none-some _ (first_of_refused None has (MediaTotal large.0) large.1)
        ]

  -- files with a fault are refused with its status, and no viewer is set up
  module _ (found : RunFault) (has : HasFirstFault line (Some found) folders.0) where
    same_status : (told : RunFault) → Some found ≡ Some told → status_of told ≡ status_of found
    same_status told both =
        let same : told ≡ found = cc in
        ap status_of same

    pub config_decided : RefusesConfig line folders → 2 ≡ status_of found
    config_decided refuses =
        elim refuses [
          | inl text ↦ same_status ConfigText (first_of_refused (Some found) has ConfigText text)
          | inr key ↦ same_status (ConfigKey key.0) (first_of_refused (Some found) has (ConfigKey key.0) key.1)
        ]

    pub clips_decided : RefusesClips line folders → 3 ≡ status_of found
    clips_decided refuses =
        elim refuses [
          | inl twice ↦ same_status (MediaTwice twice.0) (first_of_refused (Some found) has (MediaTwice twice.0) twice.1)
          | inr large ↦ same_status (MediaTotal large.0) (first_of_refused (Some found) has (MediaTotal large.0) large.1)
        ]

    pub never_set_up : IsSetUp line folders → ⊥
    never_set_up set_up = none-some _ (sym (first_of_setting_up (Some found) has set_up.named (Ok set_up.setup) set_up.accepted set_up.set_up))
