use Rattle.std.proofs.Common.{◌≤◌, map, take, length, sym, ap, ◌∙◌, arith}
use Rattle.std.specs.Char.{to_ascii_lowercase}
use Rattle.std.specs.Str.{chars}
use Rattle.std.proofs.lemmas.Str.{IsCharBoundary-from_take, IsUtf8-from_ascii}
use Rattle.cmd_parse.proofs.Prefixes.{route_from_bytes, route_prefix, no_route}
use Rattle.cmd_parse.proofs.producer.after_route.Goals as goal
use Rattle.cmd_parse.proofs.producer.after_route.Goals.{then-bytes-lt8-via-then-bytes-lt8, then-bytes-lt8-via-else-bytes-lt8+then-not-eq_ignore_ascii_case}

pub returns-then-bytes-lt8 : goal.returns-then-bytes-lt8
returns-then-bytes-lt8 c =
    no_route c.args.word.now c.utf8.word
    (λ long is.
    elim c.then-bytes-lt8.branch [
      | then-bytes-lt8-via-then-bytes-lt8 w ↦ omega (arith, ap length c.as_bytes-bytes.ensures.value)
      | then-bytes-lt8-via-else-bytes-lt8+then-not-eq_ignore_ascii_case w ↦
          let same = w.eq_ignore_ascii_case.ensures.test.1 (ap (λ bytes. map to_ascii_lowercase (take 8 bytes)) c.as_bytes-bytes.ensures.value ∙ is) in
          let differs = w.if-not-eq_ignore_ascii_case.true in
          cc
    ])

pub range_from-requires : goal.range_from-requires
range_from-requires c = λ _.
    let word = c.args.word.now in
    let long : 8 ≤ length word = omega (arith, ap length c.as_bytes-bytes.ensures.value) in
    let route = route_from_bytes (take 8 word)
    (ap (λ bytes. map to_ascii_lowercase (take 8 bytes)) (sym c.as_bytes-bytes.ensures.value) ∙ c.eq_ignore_ascii_case.ensures.test.0 c.if-not-eq_ignore_ascii_case.false) in
    IsCharBoundary-from_take word 8 c.utf8.word long (IsUtf8-from_ascii (take 8 word) route.ascii)

pub returns : goal.returns
returns c =
    let word = c.args.word.now in
    let route = route_from_bytes (take 8 word)
    (ap (λ bytes. map to_ascii_lowercase (take 8 bytes)) (sym c.as_bytes-bytes.ensures.value) ∙ c.eq_ignore_ascii_case.ensures.test.0 c.if-not-eq_ignore_ascii_case.false) in
    let prefix = route_prefix word c.utf8.word route in
    (prefix.0, prefix.1 ∙ ap chars (sym c.range_from.ensures.value))
