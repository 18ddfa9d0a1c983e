-- What came of a call is unchanged by the line that is printed after it.
use Rattle.std.proofs.Common.{◌≡◌, ℕ, ◌≤◌, List, sym, subst, arith, inl, inr}
use Rattle.std.specs.Prelude.{Ok, Err, string_bytes}
use Rattle.play_outside.specs.Faults.{Rose}
use Rattle.play_outside.specs.FolderState.{FolderState}
use Rattle.play_outside.specs.SinkState.{SinkState}
use Rattle.server_setup.specs.Setup.{SetsUp}
use Rattle.server_setup.specs.declared.fault.RunFault.{RunFault}
use Rattle.server_setup.specs.declared.fault.RunFault.TheVariants.{ConfigText, ConfigKey, MediaTwice, MediaTotal}
use Rattle.history_reader.specs.declared.fault.ReadHistoryFault.{ReadHistoryFault}
use Rattle.history_reader.specs.declared.fault.ReadHistoryFault.TheVariants as read
use Rattle.play_server.specs.Program.{AtSite}
use Rattle.server_run.specs.Devices.{DeviceStates}
use Rattle.play_server.specs.Statuses.{HasGoneOn, HasServedClients, IsRefused, IsUnread, RefusesClips, RefusesConfig, RefusesHistory, SomethingFails}
use Rattle.server_run.specs.declared.served.ServeEnd.{ServeEnd}
use Rattle.server_run.specs.declared.served.ServeEnd.TheVariants as serve

module _ {C D O : Type 0} (line : List (List ℕ)) (first between last : AtSite C D O) (folder : last.folder ≡ between.folder) where
  moved_refused : (fault : RunFault) → IsRefused line fault (first, between) → IsRefused line fault (first, last)
  moved_refused fault refused = record {
    named = refused.named;
    accepted = refused.accepted;
    refused = subst (λ (f : FolderState). SetsUp (string_bytes refused.named.config) (Err fault) first.folder f) (sym folder) refused.refused;
  }

  pub moved_config : RefusesConfig line (first, between) → RefusesConfig line (first, last)
  moved_config refuses =
      elim refuses [
        | inl text ↦ inl (moved_refused ConfigText text)
        | inr key ↦ inr (key.0, moved_refused (ConfigKey key.0) key.1)
      ]

  pub moved_unread : (fault : ReadHistoryFault) → IsUnread line fault (first, between) → IsUnread line fault (first, last)
  moved_unread fault unread = record {
    from = unread.from;
    asks = unread.asks;
    setup = unread.setup;
    set_up = subst (λ (f : FolderState). SetsUp (string_bytes unread.asks.named.config) (Ok unread.setup) first.folder f) (sym folder) unread.set_up;
    opened = unread.opened;
    reads = unread.reads;
  }

  pub moved_history : RefusesHistory line (first, between) → RefusesHistory line (first, last)
  moved_history refuses =
      elim refuses [
        | inl number ↦ inl (number.0, moved_unread (read.Line number.0) number.1)
        | inr long ↦ inr (moved_unread read.TooLong long)
      ]

  pub moved_clips : RefusesClips line (first, between) → RefusesClips line (first, last)
  moved_clips refuses =
      elim refuses [
        | inl name ↦ inl (name.0, moved_refused (MediaTwice name.0) name.1)
        | inr total ↦ inr (total.0, moved_refused (MediaTotal total.0) total.1)
      ]

module _ {C D O L : Type 0} (device : DeviceStates C D O L) (tells : L → SinkState) (line : List (List ℕ)) (first between last : AtSite C D O)
    (folder : last.folder ≡ between.folder) where
  abbrev pub moved_run : (end : ServeEnd) → HasServedClients device tells line end (first, between) → HasServedClients device tells line end (first, last)
  moved_run end run = record {
    named = run.named;
    accepted = run.accepted;
    fresh = run.fresh;
    setup = run.setup;
    set_up = subst (λ (f : FolderState). SetsUp (string_bytes run.named.config) (Ok run.setup) first.folder f) (sym folder) run.set_up;
    site = run.site;
    served = run.served;
  }

  abbrev pub moved_gone : (end : ServeEnd) → HasGoneOn device tells line end (first, between) → HasGoneOn device tells line end (first, last)
  moved_gone end run = record {
    from = run.from;
    asks = run.asks;
    setup = run.setup;
    set_up = subst (λ (f : FolderState). SetsUp (string_bytes run.asks.named.config) (Ok run.setup) first.folder f) (sym folder) run.set_up;
    history = run.history;
    opened = run.opened;
    site = run.site;
    reads = run.reads;
    served = run.served;
  }

  pub moved_failure : between.site.faults ≤ last.site.faults → SomethingFails device tells line (first, between) → SomethingFails device tells line (first, last)
  moved_failure more fails =
      elim fails [
        | inl rose ↦ inl (subst (λ (f : FolderState). Rose first.folder.faults f.faults) (sym folder) rose)
        | inr other ↦ elim other [
          | inl rose ↦ inr (inl (omega (arith, rose)))
          | inr device_ ↦ elim device_ [
            | inl run ↦ inr (inr (inl (moved_run serve.DeviceFault run.0, run.1)))
            | inr after ↦ elim after [
              | inl run ↦ inr (inr (inr (inl (moved_gone serve.DeviceFault run.0, run.1))))
              | inr unread ↦ inr (inr (inr (inr (moved_unread line first between last folder read.Device unread))))
            ]
          ]
        ]
      ]
