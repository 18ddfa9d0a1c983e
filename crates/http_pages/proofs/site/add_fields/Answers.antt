use Rattle.std.proofs.Common.{◌≡◌, ℕ, List, [], ◌∷◌, ◌++◌, codes, ap, ◌∙◌}
use Rattle.http_server.specs.Response.{fields_of}
use Rattle.http_pages.proofs.Fields.{four_added}
use Rattle.http_pages.proofs.site.add_fields.Goals as goal

pub returns-clause-fields : goal.returns-clause-fields
returns-clause-fields c =
    let start = fields_of c.args.response.now in
    four_added start _ _ _ _ _ _ _ _
    (c.in_ok-add.ensures.fields ∙ ap (λ (value : List ℕ). start ++ (codes "content-type", value) ∷ []) c.as_str.ensures.text)
    c.in_ok-add-2.ensures.fields c.in_ok-add-3.ensures.fields c.in_ok-add-4.ensures.fields
