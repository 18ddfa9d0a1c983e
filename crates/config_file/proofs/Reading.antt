-- From the result for the top table to the result for the bytes.
use Rattle.std.proofs.Common.{◌≡◌, ℕ, Bool, true, false, List, [], ◌∷◌, Some, None, option_map, Result, Ok, Err, IsUtf8, slice_get, refl, sym, ap, ◌∙◌}
use Rattle.std.specs.Str.{chars, is_utf8}
use Rattle.std.proofs.lemmas.Str.{IsUtf8-from_is_utf8, is_utf8-from_IsUtf8}
use Rattle.toml.specs.Data.{Members}
use Rattle.toml.specs.Parse.{parse_document}
use Rattle.play_types.specs.Config.{ConfigView}
use Rattle.config_file.specs.Configuration.{config_of, faults_of, first_or, values_of}
use Rattle.config_file.specs.Reading.{IsReadOf, config_in, document_of}
use Rattle.config_file.specs.inner.Told.{IsTold}
use Rattle.config_file.specs.declared.fault.ConfigFault.{ConfigFault}
use Rattle.config_file.specs.declared.fault.ConfigFault.TheVariants.{NotToml, Key, OutOfMemory}

first_named : {A : Type 0} (faults : List (List ℕ)) (values : A) (name : List ℕ) → option_map chars (slice_get faults 0) ≡ Some name → first_or faults values ≡ Err name
first_named [] values name first = cc
first_named (f ∷ faults) values name first = cc

document : (bytes : List ℕ) (top : Members) → IsUtf8 bytes → parse_document bytes ≡ Some top → config_in bytes ≡ Some (config_of top)
document bytes top utf8 read = rw (is_utf8-from_IsUtf8 bytes utf8, read)

pub told_read : (bytes : List ℕ) (top : Members) (result : Result ConfigView ConfigFault) → IsUtf8 bytes → parse_document bytes ≡ Some top
    → IsTold (faults_of top) (values_of top) result → IsReadOf bytes result
told_read bytes top (Ok config) utf8 read told =
    document bytes top utf8 read ∙ ap (λ faults. Some (first_or faults (values_of top))) told.0 ∙ ap (λ (values : ConfigView). Some (Ok values)) (sym told.1)
told_read bytes top (Err (Key name)) utf8 read told =
    document bytes top utf8 read ∙ ap (λ (config : Result ConfigView (List ℕ)). Some config) (first_named (faults_of top) (values_of top) name told)
told_read bytes top (Err NotToml) utf8 read told = absurd told
told_read bytes top (Err OutOfMemory) utf8 read told = tt

refused_by : (bytes : List ℕ) (b : Bool) → is_utf8 bytes ≡ b → (IsUtf8 bytes → parse_document bytes ≡ None) → document_of bytes ≡ None
refused_by bytes true e refused = rw (e, refused (IsUtf8-from_is_utf8 bytes e))
refused_by bytes false e refused = rw e

-- bytes that are no text in TOML have no configuration
pub not_toml : (bytes : List ℕ) → (IsUtf8 bytes → parse_document bytes ≡ None) → config_in bytes ≡ None
not_toml bytes refused = ap (option_map config_of) (refused_by bytes (is_utf8 bytes) refl refused)
