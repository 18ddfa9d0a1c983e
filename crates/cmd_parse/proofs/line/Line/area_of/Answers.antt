use Rattle.std.proofs.Common.{refl, rules}
use Rattle.cmd_parse.proofs.Areas.{IsWhole, HasParts, split_word, area_whole, area_parts}
use Rattle.cmd_parse.proofs.line.Line.area_of.Goals as goal

pub returns-in_err-channel : goal.returns-in_err-channel
returns-in_err-channel c =
    let whole : IsWhole c.args.word.now = rw c.in_default.is at (split_word c.args.word.now c.split_once.result c.utf8.word c.split_once.ensures.cases) in
    rw (area_whole c.args.self.now c.args.at c.args.word.now whole, ← c.in_err-channel.ensures.value) (search rules)

pub returns-in_default : goal.returns-in_default
returns-in_default c =
    let whole : IsWhole c.args.word.now = rw c.in_default.is at (split_word c.args.word.now c.split_once.result c.utf8.word c.split_once.ensures.cases) in
    rw (area_whole c.args.self.now c.args.at c.args.word.now whole, ← c.in_ok-channel.ensures.value) refl

pub returns-in_err-channel-2 : goal.returns-in_err-channel-2
returns-in_err-channel-2 c =
    let parts : HasParts c.args.word.now c.in-Some.channel.now c.in-Some.layer.now = rw c.in-Some.is at (split_word c.args.word.now c.split_once.result c.utf8.word c.split_once.ensures.cases) in
    rw (area_parts c.args.self.now c.args.at c.args.word.now c.in-Some.channel.now c.in-Some.layer.now parts, ← c.in_err-channel-2.ensures.value) (search rules)

pub returns-in_err-layer : goal.returns-in_err-layer
returns-in_err-layer c =
    let parts : HasParts c.args.word.now c.in-Some.channel.now c.in-Some.layer.now = rw c.in-Some.is at (split_word c.args.word.now c.split_once.result c.utf8.word c.split_once.ensures.cases) in
    rw (area_parts c.args.self.now c.args.at c.args.word.now c.in-Some.channel.now c.in-Some.layer.now parts, ← c.in_ok-channel-2.ensures.value, ← c.in_err-layer.ensures.value) (search rules)

pub returns : goal.returns
returns c =
    let parts : HasParts c.args.word.now c.in-Some.channel.now c.in-Some.layer.now = rw c.in-Some.is at (split_word c.args.word.now c.split_once.result c.utf8.word c.split_once.ensures.cases) in
    rw (area_parts c.args.self.now c.args.at c.args.word.now c.in-Some.channel.now c.in-Some.layer.now parts, ← c.in_ok-channel-2.ensures.value, ← c.in_ok-layer.ensures.value) refl
