use Rattle.std.proofs.Common.{◌≡◌, ◌*◌, refl, arith}
use Rattle.play_types.specs.Geometry.{frame_bytes}
use Rattle.clip_format.specs.Decoding.{header_frames, header_size}
use Rattle.clip_format.proofs.Files.{IsHeader-no_fault, announced-small}
use Rattle.clip_format.proofs.header.announced_len.Goals as goal

pub overflow_mul-result : goal.overflow_mul-result
overflow_mul-result c =
    let bytes = c.args.bytes.now in
    let small = announced-small bytes (IsHeader-no_fault bytes c.requires.no_fault) in
    let product : c.from.result * c.frame_bytes.result ≡ header_frames bytes * frame_bytes (header_size bytes) = rw (c.from.ensures, c.frame_bytes.ensures, c.numbers_in-header.ensures) refl in
    rw product (omega (arith, small))

pub overflow_add-result : goal.overflow_add-result
overflow_add-result c =
    let bytes = c.args.bytes.now in
    let small = announced-small bytes (IsHeader-no_fault bytes c.requires.no_fault) in
    let product : c.from.result * c.frame_bytes.result ≡ header_frames bytes * frame_bytes (header_size bytes) = rw (c.from.ensures, c.frame_bytes.ensures, c.numbers_in-header.ensures) refl in
    rw product (omega (arith, small))

pub returns : goal.returns
returns c = rw (c.from.ensures, c.frame_bytes.ensures, c.numbers_in-header.ensures) refl
