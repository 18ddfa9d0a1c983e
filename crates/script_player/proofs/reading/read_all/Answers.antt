use Rattle.std.proofs.Common.{◌≡◌, ◌+◌, ◌≤◌, take, length, length-take, arith}
use Rattle.script_player.proofs.Readings.{read_no_memory, read_too_long}
use Rattle.script_player.proofs.reading.read_all.Goals as goal

pub returns-then-len-count : goal.returns-then-len-count
returns-then-len-count g c =
    let buffer = c.read.new.buf in
    let got = c.in-Got.ensures in
    let size = length-take c.in-Got.count buffer in
    let asked = length-take c.min-size.result c.pieces.buffer in
    let many : length c.pieces.bytes.items + length (take c.in-Got.count buffer) ≡ c.args.most + 1 = omega (arith, size, asked, got.1) in
    read_too_long c.args.most c.pieces.bytes.items (take c.in-Got.count buffer) _ _ _ c.pieces.invariant.consumed got.2 many

pub returns-in_err-extend_from_slice-in-Got : goal.returns-in_err-extend_from_slice-in-Got
returns-in_err-extend_from_slice-in-Got g c =
    let buffer = c.read.new.buf in
    let got = c.in-Got.ensures in
    let size = length-take c.in-Got.count buffer in
    let few : length c.pieces.bytes.items + length (take c.in-Got.count buffer) ≤ c.args.most = omega (arith, size, got.1) in
    read_no_memory c.args.most c.from_residual.result c.pieces.bytes.items (take c.in-Got.count buffer) _ _ _ c.pieces.invariant.consumed got.2 few c.from_residual.ensures.1
