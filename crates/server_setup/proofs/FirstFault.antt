-- The first fault of the files, and the result of a set-up.
use Rattle.std.proofs.Common.{◌≡◌, ℕ, List, sym, ap, ◌∙◌, subst}
use Rattle.std.specs.Prelude.{Option, Some, None, Result, Ok, Err}
use Rattle.std.specs.Str.{encode_utf8_all}
use Rattle.play_types.specs.Config.{ConfigView}
use Rattle.play_outside.specs.FolderState.{FolderState, Files}
use Rattle.play_outside.specs.Folder.{IsHeld, config_at}
use Rattle.config_file.specs.Reading.{config_in}
use Rattle.clip_format.specs.Table.{Entry}
use Rattle.clip_store.specs.declared.fault.ScanFault.{ScanFault}
use Rattle.clip_store.specs.declared.fault.ScanFault.TheVariants as scan
use Rattle.clip_store.specs.Scan.{Tells, scanned}
use Rattle.server_setup.specs.declared.setup.ServerSetup.{ServerSetup}
use Rattle.server_setup.specs.declared.fault.RunFault.{RunFault}
use Rattle.server_setup.specs.declared.fault.RunFault.TheVariants.{Usage, ConfigText, ConfigKey, BadLine, InputTooLong, Plan, PlanEnd, Record, Resume, Clip, MediaTwice, MediaTotal, Device, OutOfMemory}
use Rattle.server_setup.specs.Setup.{HoldsSome, SetsUp, TellsFirst, fault_of_clips, fault_of_files, fault_of_held, fault_of_text}

-- the bytes at the path, if bytes that satisfy `IsSuch` are held there
held_such : (IsSuch : List ℕ → Type 0) (path : List ℕ) (before : FolderState) (files : Files) → before.files ≡ Some files
    → HoldsSome IsSuch path before → (bytes : List ℕ) × (config_at path files ≡ Some bytes) × IsSuch bytes
held_such IsSuch path before files known holds =
    (holds.0, subst (λ (f : Option Files). IsHeld (config_at path) holds.0 f) known holds.1, holds.2)

-- the first fault of files with a configuration that is accepted is that of its clips
fault_by_clips : (path : List ℕ) (before : FolderState) (files : Files) (config : ConfigView) (answer : Result (List Entry) ScanFault)
    → before.files ≡ Some files → HoldsSome (λ bytes. config_in bytes ≡ Some (Ok config)) path before
    → Tells (scanned (encode_utf8_all config.media)) answer before.files → fault_of_files path files ≡ fault_of_clips answer
unfolding fault_of_files
fault_by_clips path before files config answer known holds tells =
    let held = held_such (λ bytes. config_in bytes ≡ Some (Ok config)) path before files known holds in
    let is : answer ≡ scanned (encode_utf8_all config.media) files =
    subst (λ (f : Option Files). Tells (scanned (encode_utf8_all config.media)) answer f) known tells in
    ap (fault_of_held files) held.1
    ∙ ap (fault_of_text files) held.2
    ∙ ap fault_of_clips (sym is)

-- the result of a set-up agrees with the first fault
pub told_first : (path : List ℕ) (result : Result ServerSetup RunFault) (before after : FolderState) (files : Files) → before.files ≡ Some files
    → SetsUp path result before after → TellsFirst result (fault_of_files path files)
unfolding fault_of_files
told_first path (Ok setup) before after files known sets = fault_by_clips path before files setup.config (Ok setup.media) known sets.0 sets.1.0
told_first path (Err ConfigText) before after files known sets =
    let held = held_such (λ bytes. config_in bytes ≡ None) path before files known sets.0 in
    ap (fault_of_held files) held.1 ∙ ap (fault_of_text files) held.2
told_first path (Err (ConfigKey key)) before after files known sets =
    let held = held_such (λ bytes. config_in bytes ≡ Some (Err key)) path before files known sets.0 in
    ap (fault_of_held files) held.1 ∙ ap (fault_of_text files) held.2
told_first path (Err (MediaTwice name)) before after files known sets =
    fault_by_clips path before files sets.0 (Err (scan.TwoNames name)) known sets.1 sets.2.0
told_first path (Err (MediaTotal total)) before after files known sets =
    fault_by_clips path before files sets.0 (Err (scan.TooLarge total)) known sets.1 sets.2.0
told_first path (Err Device) before after files known sets = tt
told_first path (Err OutOfMemory) before after files known sets = tt
told_first path (Err Usage) before after files known sets = absurd sets
told_first path (Err (BadLine number)) before after files known sets = absurd sets
told_first path (Err InputTooLong) before after files known sets = absurd sets
told_first path (Err (Plan number)) before after files known sets = absurd sets
told_first path (Err PlanEnd) before after files known sets = absurd sets
told_first path (Err (Record name)) before after files known sets = absurd sets
told_first path (Err (Resume number)) before after files known sets = absurd sets
told_first path (Err (Clip fault)) before after files known sets = absurd sets
