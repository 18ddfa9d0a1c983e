use Rattle.std.proofs.Common.{◌≡◌, ◌∙◌, [], length, List, All, true, ℕ, replicate, sym, ap, subst}
use Rattle.std.proofs.lemmas.List.{length-replicate}
use Rattle.std.proofs.lemmas.List.Elements.{All-nil, All-replicate}
use Rattle.play_types.specs.Config.{ChannelView}
use Rattle.play_types.specs.declared.drawn.Drawn.{Drawn}
use Rattle.scene_pipe.specs.declared.item.Taken.{Taken}
use Rattle.scene_pipe.specs.declared.pipe.TheConstants.{SETS}
use Rattle.scene_pipe.specs.Items.{fits_taken}
use Rattle.scene_pipe.proofs.pipe.ScenePipe.new.Goals as goal

pub invariant_of-result : goal.invariant_of-result
invariant_of-result c =
    let channels : ℕ = c.len-channels.result in
    let many : length (replicate {A = List Drawn} (length c.args.config.now.channels) []) ≡ channels =
    length-replicate (length c.args.config.now.channels) [] ∙ sym (c.len-channels.ensures.value ∙ ap (λ (l : List ChannelView). length l) c.channels.ensures.value) in (
      subst (λ (sets : List (List (List Drawn))). All (λ scenes. length scenes ≡ channels) sets)
          (sym c.in_ok-held.ensures)
          (All-replicate (λ (scenes : List (List Drawn)). length scenes ≡ channels) SETS (replicate (length c.args.config.now.channels) []) many),
      subst (λ (items : List Taken). All (λ item. fits_taken channels item ≡ true) items)
          (sym c.in_ok-out.ensures.producer.0)
          (All-nil (λ (item : Taken). fits_taken channels item ≡ true)),
    )
