use Rattle.std.proofs.Common.{◌≡◌, List, ℕ, [], ◌++◌, append-nil, ap₂, subst, ◌∙◌}
use Rattle.play_outside.specs.Sink.{Sends}
use Rattle.play_types.specs.ClipFile.{clip_bytes}
use Rattle.clip_format.proofs.Files.{clip_of-clip_bytes}
use Rattle.clip_format.proofs.encoding.encode.Goals as goal

pub returns-clause-written : goal.returns-clause-written
returns-clause-written g c =
    let text : c.header_of-header.result ++ (c.bytes.result.now ++ []) ≡ clip_bytes c.args.clip.now =
    ap₂ (λ (a b : List ℕ). a ++ b) c.header_of-header.ensures (append-nil c.bytes.result.now ∙ c.bytes.ensures.value) in
    subst (λ (whole : List ℕ). Sends c.send_parts.result whole (g.K.Sink.state c.args.to.now) (g.K.Sink.state c.send_parts.new.to)) text c.send_parts.ensures

pub returns-clause-reads_back : goal.returns-clause-reads_back
returns-clause-reads_back g c = clip_of-clip_bytes c.args.clip.now c.bytes.ensures.range
