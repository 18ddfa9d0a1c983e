-- Words that are added one after another, each after a space.
use Rattle.std.proofs.Common.{◌≡◌, ℕ, List, [], ◌∷◌, ◌++◌, map, ℤ, to_z, of_z, w64, sym, ap, ◌∙◌, append_assoc, append-nil, subst, arith}
use Rattle.std.specs.List.{flat_map}
use Rattle.std.proofs.lemmas.Int.{ints}
use Rattle.std.proofs.lemmas.List.Folds.{flat_map-map}
use Rattle.amcp_text.specs.Micros.{printed_micro}
use Rattle.play_types.specs.Setting.{IsWide}
use Rattle.std.specs.Prelude.{decimal, codes}
use Rattle.std.proofs.lemmas.Grind.{flat_map-append}
use Rattle.play_types.specs.Place.{PlaceView}
use Rattle.play_outside.specs.SinkState.{SinkState}
use Rattle.play_outside.specs.Gathered.{Gathered, Adds}
use Rattle.play_outside.specs.declared.sink.Sent.{Sent}
use Rattle.play_outside.specs.declared.sink.Sent.TheVariants as sent
use Rattle.play_outside.proofs.Gathering.{Gathered-none}
use Rattle.play_outside.proofs.Following.{added-then, added-left}
use Rattle.history_model.specs.text.Commands.{Word, Plain, micro_word, place_text, place_word}
use Rattle.cmd_print.specs.inner.Bytes.{word_bytes, spaced}

pub spaced-append : (xs ys : List Word) → spaced (xs ++ ys) ≡ spaced xs ++ spaced ys
unfolding spaced
spaced-append xs ys = flat_map-append (λ word. 32 ∷ word_bytes word) xs ys

-- one word, in the parts in which it is sent
pub spaced_one : (word : Word) → spaced (word ∷ []) ≡ 32 ∷ word_bytes word
unfolding spaced
spaced_one word = append-nil (32 ∷ word_bytes word)

-- a channel, a dash and a layer
pub place-parts : (place : PlaceView)
    → 32 ∷ (decimal place.channel ++ (45 ∷ (decimal place.layer ++ []))) ≡ spaced (place_word place ∷ [])
unfolding spaced
place-parts place = simp (append_assoc, append-nil)

-- a route to a channel, and to a layer of it
pub channel-route : (channel : ℕ) → codes " route://" ++ (decimal channel ++ []) ≡ spaced (Plain (codes "route://" ++ decimal channel) ∷ [])
unfolding spaced
channel-route channel = simp (append_assoc, append-nil)

pub place-route : (place : PlaceView)
    → codes " route://" ++ (decimal place.channel ++ (45 ∷ (decimal place.layer ++ []))) ≡ spaced (Plain (codes "route://" ++ place_text place) ∷ [])
unfolding spaced
place-route place = simp (append_assoc, append-nil)

-- nothing is added for no words
pub nothing_added : (text : List ℕ) (state : SinkState) → Adds sent.All (text ++ spaced []) text state state
unfolding spaced
nothing_added text state = rw append-nil (Gathered-none text state)

-- the first words were added, and then the others
pub words-then : (xs ys : List Word) (result : Sent) (start waiting more : List ℕ) (first state after : SinkState)
    → Gathered (start ++ spaced xs) waiting first state → Adds result (waiting ++ spaced ys) more state after
    → Adds result (start ++ spaced (xs ++ ys)) more first after
words-then xs ys result start waiting more first state after so_far step =
    rw (spaced-append xs ys) (added-then result start (spaced xs) (spaced ys) waiting more first state after so_far step)

-- a write failed as the first words were added, and so the words were left
pub words-left : (xs ys : List Word) (one left : Sent) (start more : List ℕ) (first after : SinkState)
    → Adds one (start ++ spaced xs) more first after → one ≡ sent.Failed → left ≡ sent.Failed
    → Adds left (start ++ spaced (xs ++ ys)) more first after
words-left xs ys one left start more first after step failed leaves =
    rw (spaced-append xs ys) (added-left one left start (spaced xs) (spaced ys) more first after step failed leaves)

-- numbers in range are kept as they are
pub wide_kept : (value : ℤ) → IsWide value → to_z w64 (of_z w64 value) ≡ value
wide_kept value wide = omega (arith, ints)

-- numbers that were added, each after a space
pub numbers_added : (values added : List ℤ) (result : Sent) (start more : List ℕ) (first after : SinkState) → values ≡ added
    → Adds result (start ++ flat_map (λ value. 32 ∷ printed_micro value) added) more first after → Adds result (start ++ spaced (map micro_word values)) more first after
unfolding spaced
numbers_added values added result start more first after same adds =
    subst (λ text. Adds result (start ++ text) more first after)
    (sym (flat_map-map (λ word. 32 ∷ word_bytes word) micro_word values ∙ ap (flat_map (λ value. 32 ∷ printed_micro value)) same)) adds
