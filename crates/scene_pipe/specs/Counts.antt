-- How many sets of scenes went through a pipe.
use Rattle.std.specs.Prelude.{◌≡◌, ◌⊎◌, ℕ, suc, Bool, true, false, if◌then◌else◌, List, [], ◌∷◌, ◌++◌}
use Rattle.std.specs.List.{list_any}
use Rattle.scene_pipe.specs.declared.item.Returned.{Returned}
use Rattle.scene_pipe.specs.declared.item.Returned.TheVariants.{Free, Broken}
use Rattle.scene_pipe.specs.Items.{fits_returned}

-- whether an item has scenes for this number of channels, and reports no failed output
abbrev pub is_room : ℕ → Returned → Bool
is_room channels (Free scenes) = fits_returned channels (Free scenes)
is_room channels (Broken channel scenes) = false

-- whether an item has scenes for this number of channels, and reports a failed output
abbrev pub is_news : ℕ → Returned → Bool
is_news channels (Free scenes) = false
is_news channels (Broken channel scenes) = fits_returned channels (Broken channel scenes)

-- the number of sets that came back free
abbrev pub free_count : ℕ → List Returned → ℕ
free_count channels [] = 0
free_count channels (item ∷ items) = if is_room channels item then suc (free_count channels items) else free_count channels items

-- the number of sets that were given back before the first report of a failed output
abbrev pub free_before_news : List Returned → ℕ
free_before_news [] = 0
free_before_news (Free scenes ∷ items) = suc (free_before_news items)
free_before_news (Broken channel scenes ∷ items) = 0

-- the last item reports a failed output, and no item before it does
pub record EndsWithNews (channels : ℕ) (returned : List Returned) : Type 0 where
  pub front : List Returned
  pub last : Returned
  pub whole : returned ≡ front ++ last ∷ []
  pub news : is_news channels last ≡ true
  pub none_before : list_any (is_news channels) front ≡ false

-- no item reports a failed output, or only the last one
abbrev pub StopsAtNews : ℕ → List Returned → Type 0
StopsAtNews channels returned = (list_any (is_news channels) returned ≡ false) ⊎ EndsWithNews channels returned
