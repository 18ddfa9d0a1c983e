-- What contracts see of a folder of configuration and media.
use Rattle.std.specs.Prelude.{ℕ, Option, List}

-- a file: its folder, its name and its bytes
pub record MediaFile : Type 0 where
  pub folder : List ℕ
  pub name : List ℕ
  pub bytes : List ℕ

-- a configuration: its path and its bytes
pub record ConfigFile : Type 0 where
  pub path : List ℕ
  pub bytes : List ℕ

-- all that is held
pub record Files : Type 0 where
  pub configs : List ConfigFile
  pub media : List MediaFile

-- what is held, if the folder exposes it, and how often reading has failed
pub record FolderState : Type 0 where
  pub files : Option Files
  pub faults : ℕ
