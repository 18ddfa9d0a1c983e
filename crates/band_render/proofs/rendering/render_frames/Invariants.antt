use Rattle.std.proofs.Common.{◌≡◌, ℕ, length}
use Rattle.play_types.specs.Scene.{IsConfigured}
use Rattle.play_scene.specs.Frames.{frame_at}
use Rattle.band_render.specs.Rendered.{sizes}
use Rattle.band_render.specs.inner.Drawing.{HasSoundOf, ShowsRows}
use Rattle.band_render.proofs.rendering.render_frames.Given as goal

-- all channels show their pictures, and those before this one have their sounds
abbrev pub invariant-loop-at : goal.invariant-loop-at
invariant-loop-at l = record {
  same_sizes : sizes l.next ≡ sizes l.tick.prev.now;
  room : length l.room ≡ length l.initial.room;
  shown : (channel : ℕ) → IsConfigured (length l.tick.prev.now) channel → ShowsRows l.tick channel (frame_at channel l.next);
  heard : (channel : ℕ) → IsConfigured l.at channel → HasSoundOf l.tick channel (frame_at channel l.next);
}
