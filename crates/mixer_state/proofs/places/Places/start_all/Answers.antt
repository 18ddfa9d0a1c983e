use Rattle.std.proofs.Common.{◌≡◌, ℕ, ◌<◌, List, get_or, length, sym, ap, ◌∙◌, subst, arith}
use Rattle.std.specs.Prelude.{OnOk, Result}
use Rattle.std.specs.declared.alloc.AllocError.{AllocError}
use Rattle.std.proofs.lemmas.List.Sums.{fold_more}
use Rattle.play_types.specs.Setting.{SettingView}
use Rattle.mixer_state.specs.Entries.{Table, table_of}
use Rattle.mixer_state.specs.inner.Changes.{with_setting}
use Rattle.mixer_state.proofs.places.Places.start_all.Goals as goal

-- one setting more is started
pub loop-setting-preserved : goal.loop-setting-preserved
loop-setting-preserved c =
    let settings : List SettingView = c.args.settings.now in
    let at : ℕ = c.loop-setting.setting-index in
    let within : at < length settings = omega arith in
    let before : Table = table_of c.loop-setting.self.entries in
    let started : table_of c.start.new.self.entries ≡ with_setting c.args.ticks before c.setting-item.result =
    subst (λ (r : Result (Unit {0}) AllocError). OnOk r (table_of c.start.new.self.entries ≡ with_setting c.args.ticks before c.setting-item.result))
    c.unwrap.ensures c.start.ensures.ok in
    record {
      table = started
          ∙ ap (with_setting c.args.ticks before) c.setting-item.is
          ∙ ap (λ (table : Table). with_setting c.args.ticks table (get_or settings at c.setting-item.result)) c.loop-setting.invariant.table
          ∙ sym (fold_more (with_setting c.args.ticks) (table_of c.reserve.new.self.entries) settings at c.setting-item.result within);
      running = c.start.ensures.running;
      channels = c.start.ensures.channels ∙ c.loop-setting.invariant.channels;
      room = omega (arith, c.loop-setting.invariant.room, c.start.ensures.spare);
      spare = omega (arith, c.loop-setting.invariant.spare, c.start.ensures.spare);
    }
