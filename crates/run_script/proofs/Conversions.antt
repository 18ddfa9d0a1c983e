-- What a conversion does, by what is outside before and after.
use Rattle.std.proofs.Common.{◌≡◌, ◌≢◌, inl, inr, ℕ, ◌≤◌, List, [], ◌++◌, length, refl, sym, ap, ◌∙◌, subst, arith, append-nil, length-append}
use Rattle.std.specs.Prelude.{◌⊎◌, Option, Some, None, Ok, Err, IfSome}
use Rattle.std.proofs.lemmas.Option.{none-some}
use Rattle.play_types.specs.ClipFile.{ClipView, clip_bytes}
use Rattle.play_types.specs.declared.clip_fault.ClipFault.{ClipFault}
use Rattle.play_types.specs.declared.clip_fault.ClipFault.TheVariants as clip
use Rattle.play_outside.specs.Faults.{Rose}
use Rattle.play_outside.specs.Source.{Gives, IsAtEnd}
use Rattle.play_outside.specs.SourceState.{SourceState}
use Rattle.play_outside.specs.SinkState.{SinkState, after_taking}
use Rattle.play_outside.proofs.Counting.{Rose-then}
use Rattle.clip_format.specs.Decoding.{clip_of}
use Rattle.clip_format.specs.Preparing.{straight_clip}
use Rattle.server_setup.specs.declared.fault.RunFault.{RunFault}
use Rattle.server_setup.specs.declared.fault.RunFault.TheVariants.{Usage, ConfigText, ConfigKey, BadLine, InputTooLong, Plan, PlanEnd, Record, Resume, Clip, MediaTwice, MediaTotal, Device, OutOfMemory}
use Rattle.server_setup.specs.Fault.{clip_status}
use Rattle.run_script.specs.declared.converting.TheConstants.{MAX_CLIP_BYTES}
use Rattle.script_player.specs.Ending.{exit_status, last_line}
use Rattle.script_player.specs.Run.{Streams}
use Rattle.run_script.specs.Converting.{ConvertEnds}
use Rattle.run_script.specs.Program.{EndsConverted, IsClipInput, IsConverted, Outside, WritesFaultLine, WritesStraight, streams_of}
use Rattle.script_player.proofs.FailedWrites.{fails_rose}
use Rattle.run_script.proofs.Complete.{line_count, nothing_written}

-- the status of a refused clip
pub clip_known : (fault : ClipFault) → (clip_status fault ≡ 2) ⊎ (clip_status fault ≡ 5)
clip_known clip.BadMagic = inl refl
clip_known clip.BadVersion = inl refl
clip_known (clip.BadField at) = inl refl
clip_known (clip.Short needed had) = inl refl
clip_known (clip.Long extra) = inl refl
clip_known clip.OutOfMemory = inr refl

-- a status of a conversion
abbrev pub IsStatus : ℕ → Type 0
IsStatus status = (status ≤ 5) × (status ≢ 1) × (status ≢ 3)

refused_status : (fault : ClipFault) → IsStatus (clip_status fault)
refused_status fault = elim (clip_known fault) [
  | inl n ↦ (omega (arith, n), λ e. omega (arith, n, e), λ e. omega (arith, n, e))
  | inr n ↦ (omega (arith, n), λ e. omega (arith, n, e), λ e. omega (arith, n, e))
]

status_by : (fault : Option RunFault) (bytes : List ℕ) (before after : Streams) → ConvertEnds fault bytes before after → IsStatus (exit_status fault)
status_by None bytes before after ends = (omega arith, λ e. omega (arith, e), λ e. omega (arith, e))
status_by (Some InputTooLong) bytes before after ends = (omega arith, λ e. omega (arith, e), λ e. omega (arith, e))
status_by (Some (Clip fault)) bytes before after ends = refused_status fault
status_by (Some Device) bytes before after ends = (omega arith, λ e. omega (arith, e), λ e. omega (arith, e))
status_by (Some OutOfMemory) bytes before after ends = (omega arith, λ e. omega (arith, e), λ e. omega (arith, e))
status_by (Some Usage) bytes before after ends = absurd ends
status_by (Some ConfigText) bytes before after ends = absurd ends
status_by (Some (ConfigKey key)) bytes before after ends = absurd ends
status_by (Some (BadLine number)) bytes before after ends = absurd ends
status_by (Some (Plan number)) bytes before after ends = absurd ends
status_by (Some PlanEnd) bytes before after ends = absurd ends
status_by (Some (Record name)) bytes before after ends = absurd ends
status_by (Some (Resume number)) bytes before after ends = absurd ends
status_by (Some (MediaTwice name)) bytes before after ends = absurd ends
status_by (Some (MediaTotal sum)) bytes before after ends = absurd ends

-- with status 0 there is no fault
well_by : (fault : Option RunFault) (bytes : List ℕ) (before after : Streams) → ConvertEnds fault bytes before after → exit_status fault ≡ 0
    → (last_line fault ≡ []) × ConvertEnds None bytes before after
well_by None bytes before after ends good = (refl, ends)
well_by (Some InputTooLong) bytes before after ends good = absurd (omega (arith, good))
well_by (Some (Clip fault)) bytes before after ends good = absurd (elim (clip_known fault) [ inl n ↦ omega (arith, n, good) | inr n ↦ omega (arith, n, good) ])
well_by (Some Device) bytes before after ends good = absurd (omega (arith, good))
well_by (Some OutOfMemory) bytes before after ends good = absurd (omega (arith, good))
well_by (Some Usage) bytes before after ends good = absurd ends
well_by (Some ConfigText) bytes before after ends good = absurd ends
well_by (Some (ConfigKey key)) bytes before after ends good = absurd ends
well_by (Some (BadLine number)) bytes before after ends good = absurd ends
well_by (Some (Plan number)) bytes before after ends good = absurd ends
well_by (Some PlanEnd) bytes before after ends good = absurd ends
well_by (Some (Record name)) bytes before after ends good = absurd ends
well_by (Some (Resume number)) bytes before after ends good = absurd ends
well_by (Some (MediaTwice name)) bytes before after ends good = absurd ends
well_by (Some (MediaTotal sum)) bytes before after ends good = absurd ends

-- with status 4 a read or a write failed
device_by : (fault : Option RunFault) (bytes : List ℕ) (before after : Streams) → ConvertEnds fault bytes before after → exit_status fault ≡ 4
    → Rose before.input.faults after.input.faults ⊎ Rose before.out.faults after.out.faults
device_by None bytes before after ends bad = absurd (omega (arith, bad))
device_by (Some InputTooLong) bytes before after ends bad = absurd (omega (arith, bad))
device_by (Some (Clip fault)) bytes before after ends bad = absurd (elim (clip_known fault) [ inl n ↦ omega (arith, n, bad) | inr n ↦ omega (arith, n, bad) ])
device_by (Some Device) bytes before after ends bad =
    elim ends.1 [
      | inl failed ↦ inl failed.0
      | inr failed ↦ inr (fails_rose (clip_bytes (straight_clip failed.0)) before.out after.out failed.2)
    ]
device_by (Some OutOfMemory) bytes before after ends bad = absurd (omega (arith, bad))
device_by (Some Usage) bytes before after ends bad = absurd ends
device_by (Some ConfigText) bytes before after ends bad = absurd ends
device_by (Some (ConfigKey key)) bytes before after ends bad = absurd ends
device_by (Some (BadLine number)) bytes before after ends bad = absurd ends
device_by (Some (Plan number)) bytes before after ends bad = absurd ends
device_by (Some PlanEnd) bytes before after ends bad = absurd ends
device_by (Some (Record name)) bytes before after ends bad = absurd ends
device_by (Some (Resume number)) bytes before after ends bad = absurd ends
device_by (Some (MediaTwice name)) bytes before after ends bad = absurd ends
device_by (Some (MediaTotal sum)) bytes before after ends bad = absurd ends

-- what was read of an input whose bytes are known
pub record IsRead (input bytes : List ℕ) (after : Option (List ℕ)) : Type 0 where
  pub rest : List ℕ
  pub left : after ≡ Some rest
  pub parts : input ≡ bytes ++ rest

pub read_by : (input bytes : List ℕ) (before after : Option (List ℕ)) → before ≡ Some input → Gives bytes before after → IsRead input bytes after
read_by input bytes before None known gives = absurd (none-some input (sym gives ∙ known))
read_by input bytes before (Some rest) known gives = record { rest = rest; left = refl; parts = same (sym known ∙ gives) }
  where
    same : Some input ≡ Some (bytes ++ rest) → input ≡ bytes ++ rest
    same e = cc

-- all of the input was read at its end
pub all_read : (input bytes : List ℕ) (after : SourceState) → IsRead input bytes after.left → IsAtEnd after → (input ≡ bytes) × (after.left ≡ Some [])
all_read input bytes after read at_end =
    let none : read.rest ≡ [] = subst (λ l. IfSome l (λ (r : List ℕ). r ≡ [])) read.left at_end in
    (read.parts ∙ ap (λ r. bytes ++ r) none ∙ append-nil bytes, read.left ∙ ap Some none)

not_both : (input : List ℕ) (found : ClipView) (fault : ClipFault) → clip_of input ≡ Ok found → clip_of input ≡ Err fault → ⊥
not_both input found fault one other = cc

complete_by : (fault : Option RunFault) (input bytes : List ℕ) (found : ClipView) (before after : Streams) → IsRead input bytes after.input.left
    → length input ≤ MAX_CLIP_BYTES → clip_of input ≡ Ok found → ConvertEnds fault bytes before after
    → (Rose before.input.faults after.input.faults → ⊥) → (Rose before.out.faults after.out.faults → ⊥) → (exit_status fault ≡ 0) ⊎ (exit_status fault ≡ 5)
complete_by None input bytes found before after read few clip ends read_well wrote_well = inl refl
complete_by (Some InputTooLong) input bytes found before after read few clip ends read_well wrote_well =
    let long = ends.0 in
    absurd (omega (arith, long, few, ap length read.parts, length-append bytes read.rest))
complete_by (Some (Clip fault)) input bytes found before after read few clip ends read_well wrote_well =
    absurd (not_both input found fault clip (ap clip_of (all_read input bytes after.input read ends.0.at_end).0 ∙ ends.1))
complete_by (Some Device) input bytes found before after read few clip ends read_well wrote_well =
    elim ends.1 [
      | inl failed ↦ absurd (read_well failed.0)
      | inr failed ↦ absurd (wrote_well (fails_rose (clip_bytes (straight_clip failed.0)) before.out after.out failed.2))
    ]
complete_by (Some OutOfMemory) input bytes found before after read few clip ends read_well wrote_well = inr refl
complete_by (Some Usage) input bytes found before after read few clip ends read_well wrote_well = absurd ends
complete_by (Some ConfigText) input bytes found before after read few clip ends read_well wrote_well = absurd ends
complete_by (Some (ConfigKey key)) input bytes found before after read few clip ends read_well wrote_well = absurd ends
complete_by (Some (BadLine number)) input bytes found before after read few clip ends read_well wrote_well = absurd ends
complete_by (Some (Plan number)) input bytes found before after read few clip ends read_well wrote_well = absurd ends
complete_by (Some PlanEnd) input bytes found before after read few clip ends read_well wrote_well = absurd ends
complete_by (Some (Record name)) input bytes found before after read few clip ends read_well wrote_well = absurd ends
complete_by (Some (Resume number)) input bytes found before after read few clip ends read_well wrote_well = absurd ends
complete_by (Some (MediaTwice name)) input bytes found before after read few clip ends read_well wrote_well = absurd ends
complete_by (Some (MediaTotal sum)) input bytes found before after read few clip ends read_well wrote_well = absurd ends

module _ (status : ℕ) (before after : Outside) (ends : EndsConverted status before after) where
  abbrev middle : Streams
  middle = record { input = after.input; out = ends.between }

  pub converted_status : IsStatus status
  converted_status = subst IsStatus (sym ends.outcome) (status_by ends.fault ends.made.bytes (streams_of before) middle ends.made.ends)

  -- the count of faults of the output does not fall with the line of the fault
  wrote : ends.between.faults ≤ after.out.faults
  wrote = line_count ends.between after.out (last_line ends.fault) ends.said

  pub converted_device : status ≡ 4 → Rose before.input.faults after.input.faults ⊎ Rose before.out.faults after.out.faults
  converted_device bad =
      elim (device_by ends.fault ends.made.bytes (streams_of before) middle ends.made.ends (sym ends.outcome ∙ bad)) [
        | inl read ↦ inl read
        | inr write ↦ inr (Rose-then before.out.faults ends.between.faults after.out.faults write wrote)
      ]

  pub converted_complete : IsClipInput before.input → (Rose before.input.faults after.input.faults → ⊥) → (Rose before.out.faults after.out.faults → ⊥)
      → (status ≡ 0) ⊎ (status ≡ 5)
  converted_complete valid read_well wrote_well =
      subst (λ s. (s ≡ 0) ⊎ (s ≡ 5)) (sym ends.outcome)
      (complete_by ends.fault valid.0 ends.made.bytes valid.3 (streams_of before) middle
      (read_by valid.0 ends.made.bytes before.input.left after.input.left valid.1 ends.made.gives) valid.2 valid.4 ends.made.ends read_well
      (λ rose. wrote_well (Rose-then before.out.faults ends.between.faults after.out.faults rose wrote)))

  pub converted_finished : status ≡ 0 → IsConverted before after
  converted_finished good = (by_left before.input.left refl, ends.media, well.1.1.whole.quiet, ap (λ (s : SinkState). s.faults) out_is)
    where
      well : (last_line ends.fault ≡ []) × ConvertEnds None ends.made.bytes (streams_of before) middle
      well = well_by ends.fault ends.made.bytes (streams_of before) middle ends.made.ends (sym ends.outcome ∙ good)

      out_is : after.out ≡ after_taking before.out (clip_bytes (straight_clip well.1.0))
      out_is = nothing_written ends.between after.out (subst (λ l. WritesFaultLine l ends.between after.out) well.0 ends.said) ∙ well.1.2

      by_left : (found : Option (List ℕ)) → before.input.left ≡ found → IfSome found (λ input. WritesStraight input before after)
      by_left None is = tt
      by_left (Some input) is =
          let read = read_by input ends.made.bytes before.input.left after.input.left is ends.made.gives in
          let all = all_read input ends.made.bytes after.input read well.1.1.whole.at_end in
          record {
            clip = well.1.0;
            reads = ap clip_of all.0 ∙ well.1.1.reads;
            at_end = all.1;
            written = out_is;
          }
