-- What came of a call of the program.
use Rattle.std.proofs.Common.{◌≡◌, ℕ, [], List, refl, sym, ap, ◌∙◌, subst, inl, inr}
use Rattle.std.specs.Prelude.{Result, Ok, Err, IsErrAnd, string_bytes}
use Rattle.play_outside.specs.FolderState.{FolderState}
use Rattle.play_outside.specs.declared.folder.FileFault.{FileFault}
use Rattle.server_setup.specs.Fault.{HasDetail, fault_of_file, status_of}
use Rattle.server_setup.specs.Setup.{SetsUp}
use Rattle.server_setup.specs.declared.fault.RunFault.{RunFault}
use Rattle.server_setup.specs.declared.fault.RunFault.TheVariants.{OutOfMemory}
use Rattle.server_setup.specs.declared.setup.ServerSetup.{ServerSetup}
use Rattle.play_viewer.specs.Desk.{IsNotOpened}
use Rattle.play_viewer.specs.Moves.{DeskState}
use Rattle.play_viewer.specs.Program.{AtDesk, EndsWithFault, OpensAndViews, OpensNothing, RunsLine, RunsViewer, SaysLine}
use Rattle.play_viewer.specs.ViewerWords.{Accepts}
use Rattle.play_viewer.specs.Viewing.{Viewed, Views}
use Rattle.play_viewer.specs.declared.words.ViewerWords.{ViewerWords}
use Rattle.play_viewer.proofs.Moves.{none_more}

-- the desk was not opened
pub not_opened : (fault : FileFault) (result : Result (Unit {0}) RunFault) (before after : DeskState) → IsErrAnd result (λ other. other ≡ fault_of_file fault)
    → IsNotOpened fault before after → OpensNothing result before after
not_opened fault (Ok done) before after is unopened = absurd is
not_opened fault (Err other) before after is unopened = record { fault = fault; met = ap Err is; unopened = unopened }

-- memory ran out before anything was taken
pub lost_view : (viewed : Viewed) (result : Result (Unit {0}) RunFault) (before after : DeskState) → IsErrAnd result (λ other. other ≡ OutOfMemory) → after ≡ before
    → Views viewed result before after
lost_view viewed (Ok done) before after is same = absurd is
lost_view viewed (Err other) before after is same =
    subst (λ (f : RunFault). Views viewed (Err f) before after) (sym is) (record { moves = []; are = tt; ends = inr (tt, same ∙ none_more before) })

-- the arguments were accepted, a viewer was set up, and the desk was opened, or was not
pub viewed_line : (line : List (List ℕ)) (named : ViewerWords) (setup : ServerSetup) (path : List ℕ) (result : Result (Unit {0}) RunFault)
    (before lent left after : FolderState) (desk between last : DeskState) → Accepts line named → path ≡ string_bytes named.config → lent ≡ before
    → SetsUp path (Ok setup) lent left → after ≡ left → between ≡ desk → OpensAndViews named setup result between last
    → RunsLine line result (record { folder = before; desk = desk }, record { folder = after; desk = last })
viewed_line line named setup path result before lent left after desk between last accepts path_is lent_is sets_up left_is same views = record {
  read = Ok named;
  reads = accepts;
  runs = record {
    setup = Ok setup;
    sets_up =
        subst (λ (p : List ℕ). SetsUp p (Ok setup) before after) path_is
        (subst (λ (f : FolderState). SetsUp path (Ok setup) f after) lent_is
        (subst (λ (f : FolderState). SetsUp path (Ok setup) lent f) (sym left_is) sets_up));
    runs = subst (λ (s : DeskState). OpensAndViews named setup result s last) same views;
  };
}

-- the arguments were accepted, and the setup met a fault
pub refused_line : (line : List (List ℕ)) (named : ViewerWords) (fault : RunFault) (path : List ℕ) (result : Result (Unit {0}) RunFault)
    (before lent left after : FolderState) (desk last : DeskState) → Accepts line named → path ≡ string_bytes named.config → lent ≡ before
    → SetsUp path (Err fault) lent left → after ≡ left → last ≡ desk → result ≡ Err fault
    → RunsLine line result (record { folder = before; desk = desk }, record { folder = after; desk = last })
refused_line line named fault path result before lent left after desk last accepts path_is lent_is sets_up left_is same result_is = record {
  read = Ok named;
  reads = accepts;
  runs = record {
    setup = Err fault;
    sets_up =
        subst (λ (p : List ℕ). SetsUp p (Err fault) before after) path_is
        (subst (λ (f : FolderState). SetsUp path (Err fault) f after) lent_is
        (subst (λ (f : FolderState). SetsUp path (Err fault) lent f) (sym left_is) sets_up));
    runs = (result_is, same);
  };
}

module _ (met : RunFault) (status : ℕ) (before after : DeskState) where
  -- the line of the fault was printed
  pub told_as_met : SaysLine met before after → status ≡ status_of met → EndsWithFault met status before after
  told_as_met says status_is = record { told = met; told_is = inl refl; says = says; status_is = status_is }

  -- memory ran out for its line, and the line of OutOfMemory was printed
  pub told_without_memory : HasDetail met → SaysLine OutOfMemory before after → status ≡ 5 → EndsWithFault met status before after
  told_without_memory detail says status_is = record { told = OutOfMemory; told_is = inr (detail, refl); says = says; status_is = status_is }

-- a fault was met and reported
pub ended_with : (line : List (List ℕ)) (met : RunFault) (status : ℕ) (first between last : AtDesk) → RunsLine line (Err met) (first, between)
    → EndsWithFault met status between.desk last.desk → last.folder ≡ between.folder → RunsViewer line status (first, last)
ended_with line met status first between last ran ends folder = record { result = Err met; between = between; runs = ran; ends = ends; folder = folder }

-- the run ended without a fault, and nothing was printed
pub ended_without_fault : (line : List (List ℕ)) (first last : AtDesk) → RunsLine line (Ok tt) (first, last) → RunsViewer line 0 (first, last)
ended_without_fault line first last ran = record { result = Ok tt; between = last; runs = ran; ends = (refl, refl); folder = refl }
