-- What is known of a command that the words of a line ask for.
use Rattle.std.proofs.Common.{◌≡◌, ℕ, ◌≤◌, Bool, true, false, cond, nat_lt, List, length, Result, Ok, Err, refl, subst, arith}
use Rattle.std.specs.Prelude.{Option, Some, None, codes, unwrap_or, ok_or}
use Rattle.std.specs.List.{list_any, before_first, after_first}
use Rattle.amcp_text.specs.Numbers.{number_within}
use Rattle.play_types.specs.Config.{ConfigView}
use Rattle.play_types.specs.Media.{MediaNameView}
use Rattle.play_types.specs.Place.{PlaceView}
use Rattle.play_types.specs.declared.place.TheConstants.{MAX_LAYER}
use Rattle.play_types.specs.declared.command.Cmd.{Cmd}
use Rattle.play_types.specs.declared.command.Cmd.TheVariants as cmd
use Rattle.play_types.specs.declared.parsed.Refusal.{Refusal}
use Rattle.play_types.specs.declared.parsed.Refusal.TheVariants.{Channel, Illegal}
use Rattle.history_model.specs.commands.Line.{Line, ◌>>=◌, legal, word_at, ended, flag_at}
use Rattle.history_model.specs.commands.Places.{Area, is_dash, place_of, layer_of, area_of, area_at}
use Rattle.history_model.specs.commands.Command.{clear, swap, swapped, cleared, only_place, place_command}
use Rattle.cmd_print.proofs.Numbers.{number_within-between}
use Rattle.cmd_print.proofs.Known.{IsChannelOf, IsPlaceOf, IsKnown}

-- a step had a value, and what follows gave the result
pub record Bound {A B : Type 0} (x : Result A Refusal) (next : A → Result B Refusal) (y : B) : Type 0 where
  pub value : A
  pub first : x ≡ Ok value
  pub rest : next value ≡ Ok y

pub bound : {A B : Type 0} (x : Result A Refusal) (next : A → Result B Refusal) (y : B) → (x >>= next) ≡ Ok y → Bound x next y
bound (Ok a) next y h = record { value = a; first = refl; rest = h }
bound (Err r) next y h = cc

pub given_of : {A : Type 0} (o : Option A) (r : Refusal) (v : A) → ok_or o r ≡ Ok v → o ≡ Some v
given_of None r v h = cc
given_of (Some a) r v h = cc

unless : {A : Type 0} (b : Bool) (r : Refusal) (value y : A) → cond b (Err r) (Ok value) ≡ Ok y → value ≡ y
unless true r value y h = cc
unless false r value y h = cc

pub ended_of : {A : Type 0} (line : Line) (at : ℕ) (value y : A) → ended line at value ≡ Ok y → value ≡ y
ended_of line at value y h = unless (nat_lt at (length line.words)) (Illegal line.name at) value y h

abbrev pub area_with : ℕ → Option ℕ → Area
area_with channel layer = record { channel = channel; layer = layer }

-- the layer of an area is in range
abbrev pub IsLayer : Option ℕ → Type 0
IsLayer None = Unit {0}
IsLayer (Some layer) = layer ≤ MAX_LAYER

pub record IsKnownArea (config : ConfigView) (area : Area) : Type 0 where
  pub channel : IsChannelOf config area.channel
  pub layer : IsLayer area.layer

abbrev pub fine : {A : Type 0} → A → Result A Refusal
fine value = Ok value

pub ok_injective : {A : Type 0} (a b : A) → fine a ≡ fine b → a ≡ b
ok_injective a b h = cc

pub some_injective : {A : Type 0} (a b : A) → Some a ≡ Some b → a ≡ b
some_injective a b h = cc

layer_by : (line : Line) (at : ℕ) (word : List ℕ) (dash : Bool) (layer : Option ℕ)
    → cond dash (legal line at (number_within 0 MAX_LAYER (after_first is_dash word)) >>= (λ l. Ok (Some l))) (Ok None) ≡ Ok layer → IsLayer layer
layer_by line at word true layer h =
    let step = bound (legal line at (number_within 0 MAX_LAYER (after_first is_dash word))) (λ l. Ok (Some l)) layer h in
    let read = given_of (number_within 0 MAX_LAYER (after_first is_dash word)) (Illegal line.name at) step.value step.first in
    subst IsLayer (ok_injective (Some step.value) layer step.rest) ((number_within-between 0 MAX_LAYER (after_first is_dash word) step.value read).high)
layer_by line at word false layer h = subst IsLayer (ok_injective None layer h) tt

layer_known : (line : Line) (at : ℕ) (word : List ℕ) (layer : Option ℕ) → layer_of line at word ≡ Ok layer → IsLayer layer
layer_known line at word layer h = layer_by line at word (list_any is_dash word) layer h

pub area_known : (line : Line) (at : ℕ) (word : List ℕ) (area : Area) → area_of line at word ≡ Ok area → IsKnownArea line.config area
unfolding area_of
area_known line at word area h =
    let read = number_within 1 (length line.config.channels) (before_first is_dash word) in
    let one = bound (ok_or read (Channel line.name)) (λ channel. layer_of line at word >>= (λ layer. Ok (area_with channel layer))) area h in
    let two = bound (layer_of line at word) (λ layer. Ok (area_with one.value layer)) area one.rest in
    let between = number_within-between 1 (length line.config.channels) (before_first is_dash word) one.value (given_of read (Channel line.name) one.value one.first) in
    subst (IsKnownArea line.config) (ok_injective (area_with one.value two.value) area two.rest)
    (record { channel = record { low = between.low; high = between.high }; layer = layer_known line at word two.value two.first })

pub area_at_known : (line : Line) (at : ℕ) (area : Area) → area_at line at ≡ Ok area → IsKnownArea line.config area
area_at_known line at area h =
    let step = bound (word_at line at) (area_of line at) area h in
    area_known line at step.value area step.rest

layer_below : (layer : Option ℕ) → IsLayer layer → unwrap_or layer 0 ≤ MAX_LAYER
layer_below None known = omega arith
layer_below (Some layer) known = known

pub place_known : (config : ConfigView) (area : Area) → IsKnownArea config area → IsPlaceOf config (place_of area)
place_known config area known = record { channel = known.channel; layer = layer_below area.layer known.layer }

-- commands of a place alone
pub place_command_known : (line : Line) (command : PlaceView → Cmd) (asked : Cmd)
    → ((place : PlaceView) → IsPlaceOf line.config place → IsKnown line.config line.media (command place))
    → place_command line command ≡ Ok asked → IsKnown line.config line.media asked
place_command_known line command asked known h =
    let one = bound (only_place line) (λ place. Ok (command place)) asked h in
    let two = bound (area_at line 1) (λ area. ended line 2 (place_of area)) one.value one.first in
    let same = ended_of line 2 (place_of two.value) one.value two.rest in
    subst (IsKnown line.config line.media) (ok_injective (command one.value) asked one.rest)
    (subst (λ place. IsKnown line.config line.media (command place)) same (known (place_of two.value) (place_known line.config two.value (area_at_known line 1 two.value two.first))))

cleared_known : (config : ConfigView) (media : List MediaNameView) (channel : ℕ) (layer : Option ℕ) → IsChannelOf config channel → IsLayer layer → IsKnown config media (cleared channel layer)
cleared_known config media channel None at known = at
cleared_known config media channel (Some layer) at known = record { channel = at; layer = known }

pub clear_known : (line : Line) (asked : Cmd) → clear line ≡ Ok asked → IsKnown line.config line.media asked
unfolding clear
clear_known line asked h =
    let one = bound (area_at line 1) (λ area. ended line 2 (cleared area.channel area.layer)) asked h in
    let area = area_at_known line 1 one.value one.first in
    subst (IsKnown line.config line.media) (ended_of line 2 (cleared one.value.channel one.value.layer) asked one.rest)
    (cleared_known line.config line.media one.value.channel one.value.layer area.channel area.layer)

swapped_known : (config : ConfigView) (media : List MediaNameView) (one other : Area) (first second : Option ℕ) (command : Bool → Cmd) (transforms : Bool)
    → IsKnownArea config one → IsKnownArea config other → swapped one other first second ≡ Some command → IsKnown config media (command transforms)
swapped_known config media one other None None command transforms at to h =
    subst (λ (c : Bool → Cmd). IsKnown config media (c transforms)) (some_injective (cmd.SwapChannels one.channel other.channel) command h) (at.channel, to.channel)
swapped_known config media one other (Some a) (Some b) command transforms at to h =
    subst (λ (c : Bool → Cmd). IsKnown config media (c transforms)) (some_injective (cmd.SwapLayers (place_of one) (place_of other)) command h)
    (place_known config one at, place_known config other to)
swapped_known config media one other None (Some b) command transforms at to h = cc
swapped_known config media one other (Some a) None command transforms at to h = cc

pub swap_known : (line : Line) (asked : Cmd) → swap line ≡ Ok asked → IsKnown line.config line.media asked
unfolding swap
swap_known line asked h =
    let one = bound (area_at line 1)
    (λ one. area_at line 2 >>= (λ other. legal line 2 (swapped one other one.layer other.layer) >>= (λ command. flag_at line 3 (codes "TRANSFORMS") >>= (λ transforms. Ok (command transforms)))))
    asked h in
    let two = bound (area_at line 2)
    (λ other. legal line 2 (swapped one.value other one.value.layer other.layer) >>= (λ command. flag_at line 3 (codes "TRANSFORMS") >>= (λ transforms. Ok (command transforms))))
    asked one.rest in
    let three = bound (legal line 2 (swapped one.value two.value one.value.layer two.value.layer))
    (λ command. flag_at line 3 (codes "TRANSFORMS") >>= (λ transforms. Ok (command transforms))) asked two.rest in
    let four = bound (flag_at line 3 (codes "TRANSFORMS")) (λ transforms. Ok (three.value transforms)) asked three.rest in
    subst (IsKnown line.config line.media) (ok_injective (three.value four.value) asked four.rest)
    (swapped_known line.config line.media one.value two.value one.value.layer two.value.layer three.value four.value
    (area_at_known line 1 one.value one.first) (area_at_known line 2 two.value two.first)
    (given_of (swapped one.value two.value one.value.layer two.value.layer) (Illegal line.name 2) three.value three.first))
