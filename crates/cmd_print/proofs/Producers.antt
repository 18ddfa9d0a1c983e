-- What is known of a producer that a word names.
use Rattle.std.proofs.Common.{◌≡◌, ℕ, ◌+◌, ◌<◌, ◌^◌, suc, Bool, true, false, cond, ◌&&◌, ◌==◌, List, [], ◌∷◌, map, drop, take, length, Result, Ok, Err, refl, sym, ap, ◌∙◌, subst, arith, lit<}
use Rattle.std.specs.Prelude.{Option, Some, None, slice_get, codes}
use Rattle.std.specs.Result.{result_ok}
use Rattle.std.specs.List.{find, enumerate_from, list_all}
use Rattle.std.specs.Char.{is_ascii_hexdigit, to_ascii_uppercase}
use Rattle.std.specs.Str.{bytes_eq}
use Rattle.std.specs.Str.Parse.{digits_value}
use Rattle.std.proofs.lemmas.Bool.{and_parts, eqb-true}
use Rattle.std.proofs.lemmas.Bool.Decides.{nat_tests}
use Rattle.std.proofs.lemmas.List.{take-map}
use Rattle.std.proofs.lemmas.Slice.Eq.{bytes_eq-Decides}
use Rattle.play_types.specs.Config.{ConfigView}
use Rattle.play_types.specs.Media.{MediaNameView}
use Rattle.play_types.specs.Words.{is_word, is_same_name}
use Rattle.play_types.specs.declared.take.Spec.{Spec}
use Rattle.play_types.specs.declared.take.Spec.TheVariants.{Clip, Colour, RouteChannel, RouteLayer}
use Rattle.play_types.specs.declared.parsed.Refusal.{Refusal}
use Rattle.play_types.specs.declared.parsed.Refusal.TheVariants.{Illegal, Unreadable}
use Rattle.history_model.specs.commands.Line.{Line, ◌>>=◌, legal}
use Rattle.history_model.specs.commands.Places.{Area, area_of}
use Rattle.history_model.specs.commands.Producer.{Producer, clip_named, clip_producer, colour_of_digits, is_colour_word, is_route_word, named_colour, named_producer, plain, producer_of, route_to}
use Rattle.cmd_print.proofs.Numbers.{hexadecimal_below}
use Rattle.cmd_print.proofs.Known.{IsChannelOf, IsPlaceOf, IsNamedClip}
use Rattle.cmd_print.proofs.Asked.{bound, given_of, ok_injective, some_injective, IsLayer, area_known}

same_hash : (c d : ℕ) → to_ascii_uppercase c ≡ to_ascii_uppercase d → (c == 35) ≡ (d == 35)
same_hash c d e = grind (arith, nat_tests, e)

-- the capitals of a word decide what kind of producer it names
colour_by_capitals : (a b : List ℕ) → map to_ascii_uppercase a ≡ map to_ascii_uppercase b → is_colour_word a ≡ is_colour_word b
colour_by_capitals [] [] e = refl
colour_by_capitals [] (d ∷ ds) e = cc
colour_by_capitals (c ∷ cs) [] e = cc
colour_by_capitals (c ∷ cs) (d ∷ ds) e =
    let first : to_ascii_uppercase c ≡ to_ascii_uppercase d = cc in
    same_hash c d first

route_by_capitals : (a b : List ℕ) → map to_ascii_uppercase a ≡ map to_ascii_uppercase b → is_route_word a ≡ is_route_word b
unfolding is_word
route_by_capitals a b e =
    ap (λ u. bytes_eq u (codes "ROUTE://")) (sym (take-map to_ascii_uppercase 8 a) ∙ ap (take 8) e ∙ take-map to_ascii_uppercase 8 b)

named_by_capitals : (a b : List ℕ) → map to_ascii_uppercase a ≡ map to_ascii_uppercase b → named_colour a ≡ named_colour b
unfolding is_word
named_by_capitals a b e = rw e refl

clip_by_capitals : (media : List MediaNameView) (a b : List ℕ) → map to_ascii_uppercase a ≡ map to_ascii_uppercase b → clip_named media a ≡ clip_named media b
unfolding is_same_name
clip_by_capitals media a b e = ap (λ u. find (λ (entry : ℕ × MediaNameView). bytes_eq (map to_ascii_uppercase entry.1.name) u) (enumerate_from 0 media)) e

same_capitals : (a b : List ℕ) → is_same_name a b ≡ true → map to_ascii_uppercase a ≡ map to_ascii_uppercase b
unfolding is_same_name
same_capitals a b h = (bytes_eq-Decides (map to_ascii_uppercase a) (map to_ascii_uppercase b)).0 h

-- an entry that was found, and its place
record FoundAt (media : List MediaNameView) (start : ℕ) (p : ℕ × MediaNameView → Bool) (entry : ℕ × MediaNameView) : Type 0 where
  place : ℕ
  sum : entry.0 ≡ start + place
  at : slice_get media place ≡ Some entry.1
  passes : p entry ≡ true

found_by : (media : List MediaNameView) (start : ℕ) (p : ℕ × MediaNameView → Bool) (clip : MediaNameView) (entry : ℕ × MediaNameView)
    → ((e : ℕ × MediaNameView) → find p (enumerate_from (start + 1) media) ≡ Some e → FoundAt media (start + 1) p e)
    → (here : Bool) → p (start, clip) ≡ here → cond here (Some (start, clip)) (find p (enumerate_from (start + 1) media)) ≡ Some entry → FoundAt (clip ∷ media) start p entry
found_by media start p clip entry later true here h =
    subst (FoundAt (clip ∷ media) start p) (some_injective (start, clip) entry h)
    (record { place = 0; sum = omega arith; at = refl; passes = here })
found_by media start p clip entry later false here h =
    let found = later entry h in
    record { place = suc found.place; sum = omega (arith, found.sum); at = found.at; passes = found.passes }

found_at : (media : List MediaNameView) (start : ℕ) (p : ℕ × MediaNameView → Bool) (entry : ℕ × MediaNameView)
    → find p (enumerate_from start media) ≡ Some entry → FoundAt media start p entry
found_at [] start p entry h = cc
found_at (clip ∷ media) start p entry h = found_by media start p clip entry (λ e later. found_at media (start + 1) p e later) (p (start, clip)) refl h

-- what is known of a producer, with its number of frames
abbrev pub IsKnownProducer : ConfigView → List MediaNameView → Spec → ℕ → Type 0
IsKnownProducer config media (Clip id) frames = (clip : MediaNameView) × IsNamedClip media id clip × (frames ≡ clip.frames)
IsKnownProducer config media (Colour value) frames = value < 2 ^ 32
IsKnownProducer config media (RouteChannel channel) frames = IsChannelOf config channel
IsKnownProducer config media (RouteLayer place) frames = IsPlaceOf config place

clip_known : (media : List MediaNameView) (word : List ℕ) (entry : ℕ × MediaNameView) → is_colour_word word ≡ false → is_route_word word ≡ false → named_colour word ≡ None
    → clip_named media word ≡ Some entry → entry.1.readable ≡ true → IsNamedClip media entry.0 entry.1
clip_known media word entry colour route named found readable =
    let place = found_at media 0 (λ e. is_same_name e.1.name word) entry found in
    let same = same_capitals entry.1.name word place.passes in
    let id : entry.0 ≡ place.place = omega (arith, place.sum) in
    record {
      at = ap (slice_get media) id ∙ place.at;
      found = clip_by_capitals media entry.1.name word same ∙ found;
      readable = readable;
      colour = colour_by_capitals entry.1.name word same ∙ colour;
      route = route_by_capitals entry.1.name word same ∙ route;
      named = named_by_capitals entry.1.name word same ∙ named;
    }

readable_by : (line : Line) (entry : ℕ × MediaNameView) (readable : Bool) (producer : Producer)
    → cond readable (Ok (record { spec = Clip entry.0; frames = entry.1.frames })) (Err (Unreadable line.name)) ≡ Ok producer
    → (readable ≡ true) × (record { spec = Clip entry.0; frames = entry.1.frames } ≡ producer)
readable_by line entry true producer h = (refl, ok_injective (record { spec = Clip entry.0; frames = entry.1.frames }) producer h)
readable_by line entry false producer h = cc

abbrev pub KnownOf : Line → Producer → Type 0
KnownOf line producer = IsKnownProducer line.config line.media producer.spec producer.frames

clip_producer_known : (line : Line) (word : List ℕ) (found : Option (ℕ × MediaNameView)) (producer : Producer) → is_colour_word word ≡ false → is_route_word word ≡ false → named_colour word ≡ None
    → clip_named line.media word ≡ found → clip_producer line found ≡ Ok producer → KnownOf line producer
clip_producer_known line word None producer colour route named is h = cc
clip_producer_known line word (Some entry) producer colour route named is h =
    let one = readable_by line entry entry.1.readable producer h in
    subst (KnownOf line) one.1 (entry.1, clip_known line.media word entry colour route named is one.0, refl)

named_below : (empty black white red green blue : Bool) (value : ℕ)
    → cond empty (Some 0x00000000) (cond black (Some 0xFF000000) (cond white (Some 0xFFFFFFFF) (cond red (Some 0xFFFF0000) (cond green (Some 0xFF00FF00) (cond blue (Some 0xFF0000FF) None))))) ≡ Some value
    → value < 2 ^ 32
named_below true black white red green blue value h = subst (λ v. v < 2 ^ 32) (some_injective 0x00000000 value h) (lit< tt)
named_below false true white red green blue value h = subst (λ v. v < 2 ^ 32) (some_injective 0xFF000000 value h) (lit< tt)
named_below false false true red green blue value h = subst (λ v. v < 2 ^ 32) (some_injective 0xFFFFFFFF value h) (lit< tt)
named_below false false false true green blue value h = subst (λ v. v < 2 ^ 32) (some_injective 0xFFFF0000 value h) (lit< tt)
named_below false false false false true blue value h = subst (λ v. v < 2 ^ 32) (some_injective 0xFF00FF00 value h) (lit< tt)
named_below false false false false false true value h = subst (λ v. v < 2 ^ 32) (some_injective 0xFF0000FF value h) (lit< tt)
named_below false false false false false false value h = cc

named_producer_known : (line : Line) (word : List ℕ) (named : Option ℕ) (producer : Producer) → is_colour_word word ≡ false → is_route_word word ≡ false
    → named_colour word ≡ named → named_producer line word named ≡ Ok producer → KnownOf line producer
named_producer_known line word None producer colour route is h = clip_producer_known line word (clip_named line.media word) producer colour route is refl h
named_producer_known line word (Some value) producer colour route is h =
    subst (KnownOf line) (ok_injective (plain (Colour value)) producer h)
    (named_below (is_word (codes "EMPTY") word) (is_word (codes "BLACK") word) (is_word (codes "WHITE") word) (is_word (codes "RED") word) (is_word (codes "GREEN") word) (is_word (codes "BLUE") word) value is)

-- hexadecimal digits write a number below 2 ^ 32
colour_by : (digits : List ℕ) (eight six : Bool) (value : ℕ) → (list_all is_ascii_hexdigit digits && (length digits == 8)) ≡ eight → (list_all is_ascii_hexdigit digits && (length digits == 6)) ≡ six
    → cond eight (Some (digits_value 16 digits)) (cond six (Some (0xFF000000 + digits_value 16 digits)) None) ≡ Some value → value < 2 ^ 32
colour_by digits true six value is_eight is_six h =
    let parts = and_parts (list_all is_ascii_hexdigit digits) (length digits == 8) is_eight in
    let long : length digits ≡ 8 = eqb-true (length digits) 8 parts.1 in
    let below : digits_value 16 digits < 16 ^ 8 = subst (λ n. digits_value 16 digits < 16 ^ n) long (hexadecimal_below digits parts.0) in
    subst (λ v. v < 2 ^ 32) (some_injective (digits_value 16 digits) value h) (omega (arith, below))
colour_by digits false true value is_eight is_six h =
    let parts = and_parts (list_all is_ascii_hexdigit digits) (length digits == 6) is_six in
    let long : length digits ≡ 6 = eqb-true (length digits) 6 parts.1 in
    let below : digits_value 16 digits < 16 ^ 6 = subst (λ n. digits_value 16 digits < 16 ^ n) long (hexadecimal_below digits parts.0) in
    subst (λ v. v < 2 ^ 32) (some_injective (0xFF000000 + digits_value 16 digits) value h) (omega (arith, below))
colour_by digits false false value is_eight is_six h = cc

colour_below : (digits : List ℕ) (value : ℕ) → colour_of_digits digits ≡ Some value → value < 2 ^ 32
colour_below digits value h = colour_by digits _ _ value refl refl h

route_known : (config : ConfigView) (media : List MediaNameView) (area : Area) (channel : ℕ) (layer : Option ℕ) → IsChannelOf config channel → IsLayer layer
    → IsKnownProducer config media (route_to channel layer) 0
route_known config media area channel None at known = at
route_known config media area channel (Some layer) at known = record { channel = at; layer = known }

ok_of : {A : Type 0} (r : Result A Refusal) (v : A) → result_ok r ≡ Some v → r ≡ Ok v
ok_of (Ok a) v h = cc
ok_of (Err e) v h = cc

producer_by : (line : Line) (at : ℕ) (word : List ℕ) (colour route : Bool) (producer : Producer) → is_colour_word word ≡ colour → is_route_word word ≡ route
    → cond colour (legal line at (colour_of_digits (drop 1 word)) >>= (λ value. Ok (plain (Colour value))))
    (cond route (legal line at (result_ok (area_of line at (drop 8 word))) >>= (λ area. Ok (plain (route_to area.channel area.layer))))
    (named_producer line word (named_colour word))) ≡ Ok producer
    → KnownOf line producer
producer_by line at word true route producer is_colour is_route h =
    let one = bound (legal line at (colour_of_digits (drop 1 word))) (λ value. Ok (plain (Colour value))) producer h in
    subst (KnownOf line) (ok_injective (plain (Colour one.value)) producer one.rest)
    (colour_below (drop 1 word) one.value (given_of (colour_of_digits (drop 1 word)) (Illegal line.name at) one.value one.first))
producer_by line at word false true producer is_colour is_route h =
    let one = bound (legal line at (result_ok (area_of line at (drop 8 word)))) (λ area. Ok (plain (route_to area.channel area.layer))) producer h in
    let read = ok_of (area_of line at (drop 8 word)) one.value (given_of (result_ok (area_of line at (drop 8 word))) (Illegal line.name at) one.value one.first) in
    let area = area_known line at (drop 8 word) one.value read in
    subst (KnownOf line) (ok_injective (plain (route_to one.value.channel one.value.layer)) producer one.rest)
    (route_known line.config line.media one.value one.value.channel one.value.layer area.channel area.layer)
producer_by line at word false false producer is_colour is_route h = named_producer_known line word (named_colour word) producer is_colour is_route refl h

pub producer_known : (line : Line) (at : ℕ) (word : List ℕ) (producer : Producer) → producer_of line at word ≡ Ok producer → KnownOf line producer
unfolding producer_of
producer_known line at word producer h = producer_by line at word (is_colour_word word) (is_route_word word) producer refl refl h
