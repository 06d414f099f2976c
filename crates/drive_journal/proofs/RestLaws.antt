-- What a restart makes of zones that a command changed: the same, whichever of them were open before.
use Rattle.std.proofs.Common.{◌≡◌, ℕ, ◌/◌, ◌==◌, Bool, true, false, List, [], ◌∷◌, ◌++◌, map, length, Result, Ok, Err, inl, inr, refl, sym, ap, ◌∙◌}
use Rattle.std.specs.Prelude.{slice_set, if◌then◌else◌}
use Rattle.std.proofs.Math.ListN.{get_or-map}
use Rattle.std.proofs.lemmas.List.{map-set}
use Rattle.nvme_wire.specs.declared.command.Action.{Action}
use Rattle.nvme_wire.specs.declared.command.Action.TheVariants as actions
use Rattle.nvme_wire.specs.declared.command.Command.{Command}
use Rattle.nvme_wire.specs.declared.command.Command.TheVariants.{Flush, Read, Write, Append, Send, Receive}
use Rattle.nvme_wire.specs.declared.command.DecodeFault.{DecodeFault}
use Rattle.nvme_wire.specs.declared.zone_state.ZoneState.{ZoneState}
use Rattle.nvme_wire.specs.declared.zone_state.ZoneState.TheVariants.{Empty, ImplicitlyOpened, ExplicitlyOpened, Closed, ReadOnly, Full, Offline}
use Rattle.zone_states.specs.Sending.{zone_after}
use Rattle.zone_states.specs.Transition.{state_after}
use Rattle.zone_states.specs.Zone.{Zone, cut_blocks, opened_by_write, written_zone}
use Rattle.zone_states.specs.declared.geometry.Geometry.{Geometry}
use Rattle.drive_port.specs.Drive.{ClosesOne, IsClosing}
use Rattle.drive_port.specs.Run.{restarted_state, restarted_zone}
use Rattle.drive_port.specs.Step.{nowhere, sent_zone, zone_at}
use Rattle.drive_journal.specs.Replay.{at_rest, changed}

-- ---- closings

rest-closes : (z y : Zone) → ClosesOne z y → restarted_zone y ≡ restarted_zone z
rest-closes z y one =
    elim one.state [
      | inl same ↦ rw (same, one.blocks) refl
      | inr closed ↦ rw (closed.0, closed.1, one.blocks) refl
    ]

-- a closing changes nothing of zones at rest
pub rest-closing : (a b : List Zone) → IsClosing a b → at_rest b ≡ at_rest a
rest-closing [] [] h = refl
rest-closing (z ∷ zs) (y ∷ ys) h = rw (rest-closes z y h.0, rest-closing zs ys h.1) refl
rest-closing [] (y ∷ ys) h = absurd h
rest-closing (z ∷ zs) [] h = absurd h

-- ---- one zone

rest-twice : (state : ZoneState) → restarted_state (restarted_state state) ≡ restarted_state state
rest-twice Empty = refl
rest-twice ImplicitlyOpened = refl
rest-twice ExplicitlyOpened = refl
rest-twice Closed = refl
rest-twice ReadOnly = refl
rest-twice Full = refl
rest-twice Offline = refl

rest-filled : (is_full : Bool) (state : ZoneState) → restarted_state (if is_full then Full else opened_by_write state) ≡ restarted_state (if is_full then Full else opened_by_write (restarted_state state))
rest-filled true state = refl
rest-filled false Empty = refl
rest-filled false ImplicitlyOpened = refl
rest-filled false ExplicitlyOpened = refl
rest-filled false Closed = refl
rest-filled false ReadOnly = refl
rest-filled false Full = refl
rest-filled false Offline = refl

rest-written : (capacity : ℕ) (zone : Zone) (blocks : List (List ℕ)) → restarted_zone (written_zone capacity zone blocks) ≡ restarted_zone (written_zone capacity (restarted_zone zone) blocks)
rest-written capacity zone blocks =
    let all = zone.blocks ++ blocks in
    ap (λ (s : ZoneState). record { state = s; blocks = all }) (rest-filled (length all == capacity) zone.state)

rest-after : (action : Action) (state : ZoneState) (blocks : List (List ℕ)) → restarted_zone (zone_after action (record { state = state; blocks = blocks }) (state_after state action)) ≡ restarted_zone (zone_after action (record { state = restarted_state state; blocks = blocks }) (state_after (restarted_state state) action))
rest-after actions.Close Empty blocks = refl
rest-after actions.Close ImplicitlyOpened blocks = refl
rest-after actions.Close ExplicitlyOpened blocks = refl
rest-after actions.Close Closed blocks = refl
rest-after actions.Close ReadOnly blocks = refl
rest-after actions.Close Full blocks = refl
rest-after actions.Close Offline blocks = refl
rest-after actions.Finish Empty blocks = refl
rest-after actions.Finish ImplicitlyOpened blocks = refl
rest-after actions.Finish ExplicitlyOpened blocks = refl
rest-after actions.Finish Closed blocks = refl
rest-after actions.Finish ReadOnly blocks = refl
rest-after actions.Finish Full blocks = refl
rest-after actions.Finish Offline blocks = refl
rest-after actions.Open Empty blocks = refl
rest-after actions.Open ImplicitlyOpened blocks = refl
rest-after actions.Open ExplicitlyOpened blocks = refl
rest-after actions.Open Closed blocks = refl
rest-after actions.Open ReadOnly blocks = refl
rest-after actions.Open Full blocks = refl
rest-after actions.Open Offline blocks = refl
rest-after actions.Reset Empty blocks = refl
rest-after actions.Reset ImplicitlyOpened blocks = refl
rest-after actions.Reset ExplicitlyOpened blocks = refl
rest-after actions.Reset Closed blocks = refl
rest-after actions.Reset ReadOnly blocks = refl
rest-after actions.Reset Full blocks = refl
rest-after actions.Reset Offline blocks = refl
rest-after actions.Offline Empty blocks = refl
rest-after actions.Offline ImplicitlyOpened blocks = refl
rest-after actions.Offline ExplicitlyOpened blocks = refl
rest-after actions.Offline Closed blocks = refl
rest-after actions.Offline ReadOnly blocks = refl
rest-after actions.Offline Full blocks = refl
rest-after actions.Offline Offline blocks = refl

rest-sent : (action : Action) (state : ZoneState) (blocks : List (List ℕ)) → restarted_zone (sent_zone action (record { state = state; blocks = blocks })) ≡ restarted_zone (sent_zone action (record { state = restarted_state state; blocks = blocks }))
rest-sent actions.Close Empty blocks = refl
rest-sent actions.Close ImplicitlyOpened blocks = refl
rest-sent actions.Close ExplicitlyOpened blocks = refl
rest-sent actions.Close Closed blocks = refl
rest-sent actions.Close ReadOnly blocks = refl
rest-sent actions.Close Full blocks = refl
rest-sent actions.Close Offline blocks = refl
rest-sent actions.Finish Empty blocks = refl
rest-sent actions.Finish ImplicitlyOpened blocks = refl
rest-sent actions.Finish ExplicitlyOpened blocks = refl
rest-sent actions.Finish Closed blocks = refl
rest-sent actions.Finish ReadOnly blocks = refl
rest-sent actions.Finish Full blocks = refl
rest-sent actions.Finish Offline blocks = refl
rest-sent actions.Open Empty blocks = refl
rest-sent actions.Open ImplicitlyOpened blocks = refl
rest-sent actions.Open ExplicitlyOpened blocks = refl
rest-sent actions.Open Closed blocks = refl
rest-sent actions.Open ReadOnly blocks = refl
rest-sent actions.Open Full blocks = refl
rest-sent actions.Open Offline blocks = refl
rest-sent actions.Reset Empty blocks = refl
rest-sent actions.Reset ImplicitlyOpened blocks = refl
rest-sent actions.Reset ExplicitlyOpened blocks = refl
rest-sent actions.Reset Closed blocks = refl
rest-sent actions.Reset ReadOnly blocks = refl
rest-sent actions.Reset Full blocks = refl
rest-sent actions.Reset Offline blocks = refl
rest-sent actions.Offline Empty blocks = refl
rest-sent actions.Offline ImplicitlyOpened blocks = refl
rest-sent actions.Offline ExplicitlyOpened blocks = refl
rest-sent actions.Offline Closed blocks = refl
rest-sent actions.Offline ReadOnly blocks = refl
rest-sent actions.Offline Full blocks = refl
rest-sent actions.Offline Offline blocks = refl

-- ---- all zones

-- zones at rest stay as they are when they are restarted
pub rest-rest : (zones : List Zone) → at_rest (at_rest zones) ≡ at_rest zones
rest-rest [] = refl
rest-rest (z ∷ zs) = rw (rest-twice z.state, rest-rest zs) refl

rest-zone : (zones : List Zone) (i : ℕ) → zone_at (at_rest zones) i ≡ restarted_zone (zone_at zones i)
rest-zone zones i = get_or-map restarted_zone zones i nowhere

rest-map : (action : Action) (zones : List Zone) → at_rest (map (sent_zone action) zones) ≡ at_rest (map (sent_zone action) (at_rest zones))
rest-map action [] = refl
rest-map action (z ∷ zs) = rw (rest-sent action z.state z.blocks, rest-map action zs) refl

-- a zone that is set to what comes of it
rest-set : (f : Zone → Zone) → ((zone : Zone) → restarted_zone (f zone) ≡ restarted_zone (f (restarted_zone zone))) → (zones : List Zone) (i : ℕ)
    → at_rest (slice_set zones i (f (zone_at zones i))) ≡ at_rest (slice_set (at_rest zones) i (f (zone_at (at_rest zones) i)))
rest-set f same zones i =
    map-set restarted_zone zones i (f (zone_at zones i))
    ∙ ap (λ (z : Zone). slice_set (at_rest zones) i z) (same (zone_at zones i))
    ∙ ap (λ (z : Zone). slice_set (at_rest zones) i (restarted_zone (f z))) (sym (rest-zone zones i))
    ∙ ap (λ (zs : List Zone). slice_set zs i (restarted_zone (f (zone_at (at_rest zones) i)))) (sym (rest-rest zones))
    ∙ sym (map-set restarted_zone (at_rest zones) i (f (zone_at (at_rest zones) i)))

rest-changed : (geometry : Geometry) (zones : List Zone) (command : Result Command DecodeFault) (bytes : List ℕ) → at_rest (changed geometry zones command bytes) ≡ at_rest (changed geometry (at_rest zones) command bytes)
rest-changed geometry zones (Err fault) bytes = sym (rest-rest zones)
rest-changed geometry zones (Ok Flush) bytes = sym (rest-rest zones)
rest-changed geometry zones (Ok (Read slba blocks)) bytes = sym (rest-rest zones)
rest-changed geometry zones (Ok (Receive slba dwords options partial)) bytes = sym (rest-rest zones)
rest-changed geometry zones (Ok (Write slba blocks)) bytes =
    rest-set (λ zone. written_zone geometry.capacity zone (cut_blocks geometry.block blocks bytes)) (λ zone. rest-written geometry.capacity zone (cut_blocks geometry.block blocks bytes)) zones (slba / geometry.size)
rest-changed geometry zones (Ok (Append zslba blocks)) bytes =
    rest-set (λ zone. written_zone geometry.capacity zone (cut_blocks geometry.block blocks bytes)) (λ zone. rest-written geometry.capacity zone (cut_blocks geometry.block blocks bytes)) zones (zslba / geometry.size)
rest-changed geometry zones (Ok (Send slba action true)) bytes = rest-map action zones
rest-changed geometry zones (Ok (Send slba action false)) bytes =
    rest-set (λ zone. zone_after action zone (state_after zone.state action)) (λ zone. rest-after action zone.state zone.blocks) zones (slba / geometry.size)

-- zones that differ in what is open differ in no more after a change
pub same-changed : (geometry : Geometry) (a b : List Zone) (command : Result Command DecodeFault) (bytes : List ℕ) → at_rest a ≡ at_rest b → at_rest (changed geometry a command bytes) ≡ at_rest (changed geometry b command bytes)
same-changed geometry a b command bytes same =
    rest-changed geometry a command bytes ∙ ap (λ (zs : List Zone). at_rest (changed geometry zs command bytes)) same ∙ sym (rest-changed geometry b command bytes)

-- ---- closing what is open

closed-one : (state : ZoneState) (blocks : List (List ℕ)) → sent_zone actions.Close (record { state = state; blocks = blocks }) ≡ restarted_zone (record { state = state; blocks = blocks })
closed-one Empty blocks = refl
closed-one ImplicitlyOpened blocks = refl
closed-one ExplicitlyOpened blocks = refl
closed-one Closed blocks = refl
closed-one ReadOnly blocks = refl
closed-one Full blocks = refl
closed-one Offline blocks = refl

-- a Close of all zones is what a restart does
pub closed-all : (zones : List Zone) → map (sent_zone actions.Close) zones ≡ at_rest zones
closed-all [] = refl
closed-all (z ∷ zs) = rw (closed-one z.state z.blocks, closed-all zs) refl
