use Rattle.std.proofs.Common.{◌≡◌, [], refl, ap}
use Rattle.toml.specs.View.{table_view}
use Rattle.config_file.specs.Configuration.{channel_faults, faults_of, values_of}
use Rattle.config_file.specs.Key.{top_keys}
use Rattle.config_file.specs.Section.{faults_in}
use Rattle.config_file.specs.inner.Told.{IsFirst}
use Rattle.config_file.specs.declared.section.Section.TheVariants.{Top}
use Rattle.config_file.proofs.Told.{first_before, first_after, none_in_both, told_fault}
use Rattle.config_file.proofs.config.config_of.Goals as goal

pub returns-in_err-connections : goal.returns-in_err-connections
returns-in_err-connections c =
    let first : IsFirst (faults_in Top top_keys (table_view c.args.table.now)) c.in_err-connections.field-0.0 =
    first_after _ _ _ c.in_ok-listen.ensures.told.0 (first_after _ _ _ c.in_ok-media.ensures.told.0 (first_after _ _ _ c.in_ok-rate.ensures.told.0
    (first_before _ _ _ c.in_err-connections.ensures.told))) in
    let r = c.from_residual-in_err-connections.ensures in
    told_fault (faults_of (table_view c.args.table.now)) (values_of (table_view c.args.table.now)) _ _ r.0 r.1 (first_before _ _ _ (first_before _ _ _ (first_before _ _ _ first)))

pub returns-in_err-channels : goal.returns-in_err-channels
returns-in_err-channels c =
    let none : faults_in Top top_keys (table_view c.args.table.now) ≡ [] =
    none_in_both _ _ c.in_ok-listen.ensures.told.0 (none_in_both _ _ c.in_ok-media.ensures.told.0 (none_in_both _ _ c.in_ok-rate.ensures.told.0
    (none_in_both _ _ c.in_ok-connections.ensures.told.0 (none_in_both _ _ c.in_ok-limit.ensures.told.0 refl)))) in
    let elements = ap channel_faults c.in-Some.ensures.elements in
    let r = c.from_residual-in_err-channels.ensures in
    told_fault (faults_of (table_view c.args.table.now)) (values_of (table_view c.args.table.now)) _ _ r.0 r.1
    (first_before _ _ _ (first_before _ _ _ (first_after _ _ _ none (rw (← elements) c.in_err-channels.ensures.told))))
