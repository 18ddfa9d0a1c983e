use Rattle.std.proofs.Common.{◌≡◌, Bool, true, false, cond, ◌∙◌, ap, sym, take, length}
use Rattle.std.specs.Prelude.{Some, None}
use Rattle.std.proofs.Math.Seq.{take-append_seam}
use Rattle.amcp_text.specs.ReqTokens.{is_token}
use Rattle.amcp_text.proofs.ReqTokens.{token_of-chars}
use Rattle.amcp_text.proofs.req_token.ReqToken.read.Goals as goal

pub returns-then-not-is_token : goal.returns-then-not-is_token
returns-then-not-is_token c =
    let word = c.args.word.now in
    let no : is_token word ≡ false = ap is_token (sym c.as_bytes-word.ensures.value) ∙ sym c.is_token.ensures ∙ c.if-not-is_token.true in
    sym (token_of-chars word c.utf8.word ∙ ap (λ (b : Bool). cond b (Some word) None) no)

pub returns : goal.returns
returns c =
    let word = c.args.word.now in
    let is = c.as_bytes-word.ensures.value in
    let yes : is_token word ≡ true = ap is_token (sym is) ∙ sym c.is_token.ensures ∙ c.if-not-is_token.false in
    ap Some (ap (take (length c.as_bytes-word.result.now)) c.padded.ensures ∙ take-append_seam _ _ ∙ is)
    ∙ sym (token_of-chars word c.utf8.word ∙ ap (λ (b : Bool). cond b (Some word) None) yes)
