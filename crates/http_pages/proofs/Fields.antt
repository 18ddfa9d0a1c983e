-- Fields that were added one after the other.
use Rattle.std.proofs.Common.{◌≡◌, List, [], ◌∷◌, ◌++◌, refl, ap, ◌∙◌, append_assoc}

-- four elements were added
pub four_added : {X : Type 0} (start s1 s2 s3 s4 : List X) (a b c d : X) → s1 ≡ start ++ a ∷ [] → s2 ≡ s1 ++ b ∷ [] → s3 ≡ s2 ++ c ∷ []
    → s4 ≡ s3 ++ d ∷ [] → s4 ≡ start ++ a ∷ b ∷ c ∷ d ∷ []
four_added {X} start s1 s2 s3 s4 a b c d e1 e2 e3 e4 =
    let two : s2 ≡ start ++ a ∷ b ∷ [] = e2 ∙ ap (λ (s : List X). s ++ b ∷ []) e1 ∙ append_assoc start (a ∷ []) (b ∷ []) in
    let three : s3 ≡ start ++ a ∷ b ∷ c ∷ [] = e3 ∙ ap (λ (s : List X). s ++ c ∷ []) two ∙ append_assoc start (a ∷ b ∷ []) (c ∷ []) in
    e4 ∙ ap (λ (s : List X). s ++ d ∷ []) three ∙ append_assoc start (a ∷ b ∷ c ∷ []) (d ∷ [])
