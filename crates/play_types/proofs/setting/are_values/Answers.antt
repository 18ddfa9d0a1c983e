use Rattle.std.proofs.Common.{◌≡◌, length, rules}
use Rattle.play_types.proofs.Numbers.{All-four}
use Rattle.play_types.proofs.setting.are_values.Goals as goal

pub returns-in-Fill : goal.returns-in-Fill
returns-in-Fill c =
    let four : length c.args.values ≡ 4 = search rules in
    let wide = All-four c.args.values four in search (rules, wide)
