-- What frames represent, and the bytes that they are written as.
use Rattle.std.proofs.Common.{◌≡◌, ◌≢◌, ℕ, List, [], ◌∷◌, ◌++◌, length, map, refl, sym, ap, subst, arith, append_assoc, append-nil}
use Rattle.play_types.specs.History.{ticks}
use Rattle.play_types.specs.Scene.{IsConfigured}
use Rattle.play_types.specs.Config.{ChannelView}
use Rattle.play_types.specs.declared.event.Event.{Event}
use Rattle.play_types.specs.declared.event.Event.TheVariants.{Do, Batch, Tick, Stop}
use Rattle.clip_format.specs.Table.{Entry}
use Rattle.history_model.specs.pictures.Media.{Setup}
use Rattle.play_scene.specs.Frames.{FrameView, frame_at, zero_frame}
use Rattle.play_scene.specs.Picture.{clips_of}
use Rattle.band_render.specs.Rendered.{AreRendered, sizes}
use Rattle.band_render.specs.Histories.{HasFrame, Represents, scenes_after}
use Rattle.play_ticker.specs.Frames.{AreBlank, AreLast, raw_frame, setup_for}
use Rattle.play_ticker.specs.inner.Writing.{bytes_in}
use Rattle.play_ticker.proofs.Frames.{GoesOn}

-- what frames represent, if other events than ticks are added
abbrev pub StaysShown : Type 0
StaysShown = (setup : Setup) (history : List Event) (event : Event) (entries : List Entry) (frames : List FrameView) → event ≢ Tick →
    Represents setup history entries frames → Represents setup (history ++ event ∷ []) entries frames

shown_after : StaysShown → (setup : Setup) (entries : List Entry) (frames : List FrameView) (seen rest : List Event) → ticks rest ≡ 0 →
    Represents setup seen entries frames → Represents setup (seen ++ rest) entries frames
shown_after law setup entries frames seen [] quiet is = subst (λ (h : List Event). Represents setup h entries frames) (sym (append-nil seen)) is
shown_after law setup entries frames seen (Do tag cmd ∷ rest) quiet is =
    subst (λ (h : List Event). Represents setup h entries frames) (append_assoc seen (Do tag cmd ∷ []) rest)
    (shown_after law setup entries frames (seen ++ Do tag cmd ∷ []) rest quiet (law setup seen (Do tag cmd) entries frames (λ e. absurd cc) is))
shown_after law setup entries frames seen (Batch tag cmds ∷ rest) quiet is =
    subst (λ (h : List Event). Represents setup h entries frames) (append_assoc seen (Batch tag cmds ∷ []) rest)
    (shown_after law setup entries frames (seen ++ Batch tag cmds ∷ []) rest quiet (law setup seen (Batch tag cmds) entries frames (λ e. absurd cc) is))
shown_after law setup entries frames seen (Tick ∷ rest) quiet is = absurd (omega (arith, quiet))
shown_after law setup entries frames seen (Stop tag ∷ rest) quiet is =
    subst (λ (h : List Event). Represents setup h entries frames) (append_assoc seen (Stop tag ∷ []) rest)
    (shown_after law setup entries frames (seen ++ Stop tag ∷ []) rest quiet (law setup seen (Stop tag) entries frames (λ e. absurd cc) is))

-- frames represent a history that goes on without a tick
pub shown-quiet : StaysShown → (setup : Setup) (entries : List Entry) (frames : List FrameView) (seen history : List Event) → GoesOn seen history →
    Represents setup seen entries frames → Represents setup history entries frames
shown-quiet law setup entries frames seen history on is =
    subst (λ (h : List Event). Represents setup h entries frames) on.whole (shown_after law setup entries frames seen on.rest on.quiet is)

-- what frames represent after a tick
abbrev pub ShowsTick : Type 0
ShowsTick = (setup : Setup) (history : List Event) (entries : List Entry) (prev next : List FrameView) →
    Represents setup history entries prev → AreRendered prev entries (scenes_after history (length prev)) next → Represents setup (history ++ Tick ∷ []) entries next

-- what blank frames represent
abbrev pub ShowsBlank : Type 0
ShowsBlank = (setup : Setup) (channels : List ChannelView) (entries : List Entry) → setup.clips ≡ clips_of entries →
    setup.channels ≡ sizes (map zero_frame channels) → Represents setup [] entries (map zero_frame channels)

-- blank frames are the last ones of no history
pub shows_blank : ShowsBlank → (entries : List Entry) (frames : List FrameView) → AreBlank frames → AreLast [] entries frames
shows_blank blank_law entries frames blank =
    let setup : Setup = setup_for frames entries in
    let nothing : Represents setup [] entries (map zero_frame blank.channels) = blank_law setup blank.channels entries refl (ap sizes blank.blank) in
    subst (Represents setup [] entries) (sym blank.blank) nothing

-- the last frames of given events are those of a history after them without ticks
pub shows_last : StaysShown → (given : List Event) (entries : List Entry) (frames : List FrameView) (history : List Event) → AreLast given entries frames → ticks history ≡ 0
    → Represents (setup_for frames entries) (given ++ history) entries frames
shows_last stays given entries frames history last none = shown_after stays (setup_for frames entries) entries frames given history none last

-- the bytes that are written are the frame of the tick
abbrev pub HasBytes : Type 0
HasBytes = (setup : Setup) (history : List Event) (entries : List Entry) (prev next : List FrameView) (channel : ℕ) →
    Represents setup history entries prev → AreRendered prev entries (scenes_after history (length prev)) next →
    IsConfigured (length prev) channel → HasFrame setup history channel (frame_at channel next)

pub tick_bytes : HasBytes → (setup : Setup) (history : List Event) (entries : List Entry) (prev next : List FrameView) → Represents setup history entries prev
    → AreRendered prev entries (scenes_after history (length prev)) next → (channel : ℕ) → IsConfigured (length prev) channel → bytes_in next channel ≡ raw_frame setup history channel
unfolding raw_frame
tick_bytes bytes setup history entries prev next shown rendered channel configured =
    let has = bytes setup history entries prev next channel shown rendered configured in
    λ i. has.picture i ++ has.sound i
