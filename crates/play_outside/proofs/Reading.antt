-- Sources that are read in several calls.
use Rattle.std.proofs.Common.{◌≡◌, ◌∙◌, refl, ℕ, List, [], ◌++◌, append_assoc, append-nil}
use Rattle.std.specs.Prelude.{Option, Some, None, IfSome}
use Rattle.play_outside.specs.SourceState.{SourceState}
use Rattle.play_outside.specs.Source.{Gives, Consumes, IsAtEnd}

Gives-then : (a b : List ℕ) (first middle last : Option (List ℕ)) → Gives a first middle → Gives b middle last → Gives (a ++ b) first last
Gives-then a b first None None gives rest = gives
Gives-then a b first (Some left) None gives rest = cc
Gives-then a b first None (Some left) gives rest = cc
Gives-then a b first (Some middle) (Some left) gives rest =
    let more : middle ≡ b ++ left = cc in rw (gives, more, append_assoc) refl

-- bytes that were read, and then more of them
pub Consumes-then : (a b : List ℕ) (first middle last : SourceState) → Consumes a first middle → Consumes b middle last → Consumes (a ++ b) first last
Consumes-then a b first middle last reads more = record {
  gives = Gives-then a b first.left middle.left last.left reads.gives more.gives;
  faults = more.faults ∙ reads.faults;
}

Gives-nil : (left : Option (List ℕ)) → Gives [] left left
Gives-nil None = refl
Gives-nil (Some rest) = refl

-- reading nothing leaves the source as it is
pub Consumes-nil : (state : SourceState) → Consumes [] state state
Consumes-nil state = record { gives = Gives-nil state.left; faults = refl }

Gives-end : (bytes : List ℕ) (before after : Option (List ℕ)) → Gives bytes before after → IfSome after (λ rest. rest ≡ []) → IfSome before (λ all. all ≡ bytes)
Gives-end bytes None after gives at_end = tt
Gives-end bytes (Some all) None gives at_end = cc
Gives-end bytes (Some all) (Some rest) gives at_end =
    let whole : all ≡ bytes ++ rest = cc in rw (whole, at_end, append-nil) refl

-- at the end all that was left has been read, if the source exposes this
pub Consumes-end : (bytes : List ℕ) (before after : SourceState) → Consumes bytes before after → IsAtEnd after → IfSome before.left (λ all. all ≡ bytes)
Consumes-end bytes before after reads at_end = Gives-end bytes before.left after.left reads.gives at_end
