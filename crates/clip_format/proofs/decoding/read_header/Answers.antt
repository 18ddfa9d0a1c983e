use Rattle.std.proofs.Common.{◌≡◌, length, sym, subst, Ok, arith}
use Rattle.play_types.specs.ClipFile.{IsClipFile}
use Rattle.clip_format.specs.Decoding.{announced, clip_of}
use Rattle.clip_format.proofs.Files.{IsHeader-no_fault, IsClipFile-whole, clip_of-cut, clip_of-fault, clip_of-short, clip_of-long, clip_of-whole}
use Rattle.clip_format.specs.inner.FileClip.{file_clip}
use Rattle.clip_format.specs.declared.header.Header.{Header}
use Rattle.clip_format.proofs.decoding.read_header.Goals as goal

pub returns-then-had-clause-fault : goal.returns-then-had-clause-fault
returns-then-had-clause-fault c = clip_of-cut c.args.bytes.now c.if-had.true

pub returns-in-Some-clause-fault : goal.returns-in-Some-clause-fault
returns-in-Some-clause-fault c = clip_of-fault c.args.bytes.now c.in-Some.fault c.if-had.false (sym c.in-Some.ensures.value)

pub returns-then-had-needed-clause-fault : goal.returns-then-had-needed-clause-fault
returns-then-had-needed-clause-fault c =
    let needed = c.announced_len-needed.ensures in
    rw needed (clip_of-short c.args.bytes.now c.if-had.false (sym c.in_default.ensures.value) (rw needed at c.if-had-needed.true))

pub returns-then-needed-had-clause-fault : goal.returns-then-needed-had-clause-fault
returns-then-needed-had-clause-fault c =
    let needed = c.announced_len-needed.ensures in
    rw needed (clip_of-long c.args.bytes.now c.if-had.false (sym c.in_default.ensures.value) (rw needed at c.if-needed-had.true))

pub returns-clause-clip : goal.returns-clause-clip
returns-clause-clip c =
    let bytes = c.args.bytes.now in
    let whole : length bytes ≡ announced bytes = omega (arith, c.announced_len-needed.ensures, c.if-had-needed.false, c.if-needed-had.false) in
    subst (λ (h : Header). clip_of bytes ≡ Ok (file_clip h bytes)) (sym c.numbers_in.ensures) (clip_of-whole bytes (sym c.in_default.ensures.value) whole)

pub returns-clause-is_file : goal.returns-clause-is_file
returns-clause-is_file c =
    let bytes = c.args.bytes.now in
    let whole : length bytes ≡ announced bytes = omega (arith, c.announced_len-needed.ensures, c.if-had-needed.false, c.if-needed-had.false) in
    let header = IsHeader-no_fault bytes (sym c.in_default.ensures.value) in
    subst (λ (h : Header). IsClipFile bytes (file_clip h bytes)) (sym c.numbers_in.ensures)
    (IsClipFile-whole bytes (λ i. omega (arith, c.type_inv.bytes i)) header whole)

pub returns-clause-of_bytes : goal.returns-clause-of_bytes
returns-clause-of_bytes c = λ k. omega (arith, c.type_inv.bytes k)
