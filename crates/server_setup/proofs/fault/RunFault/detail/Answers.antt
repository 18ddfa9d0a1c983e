use Rattle.std.proofs.Common.{inl, inr}
use Rattle.amcp_text.proofs.TextLaws.{bytes_of_chars}
use Rattle.server_setup.proofs.fault.RunFault.detail.Goals as goal

pub returns-in-ConfigKey : goal.returns-in-ConfigKey
returns-in-ConfigKey c =
    let bytes = bytes_of_chars _ _ c.as_str.utf8 c.as_str.ensures in
    elim c.in-ConfigKey.is [
      | inl key ↦ rw key bytes
      | inr other ↦ elim other [
        | inl recorded ↦ rw recorded bytes
        | inr name ↦ rw name bytes
      ]
    ]
