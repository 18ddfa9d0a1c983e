-- Bytes in the form in which they are written.
use Rattle.std.specs.Prelude.{ℕ, List}
use Rattle.hex.specs.Hex.{encode_lower}
use Rattle.osc_status.specs.declared.form.Form.{Form}
use Rattle.osc_status.specs.declared.form.Form.TheVariants.{Raw, Hex}

-- bytes as they are, or in hexadecimal
abbrev pub formed : Form → List ℕ → List ℕ
formed Raw bytes = bytes
formed Hex bytes = encode_lower bytes
