-- The job that an entry names has room at each of its ends.
use Rattle.std.proofs.Common.{◌≡◌, ℕ, Bool, true, List, [], ◌∷◌, Option, Some, None, find, refl, ap, ◌∙◌}
use Rattle.std.specs.Prelude.{◌==◌, ◌&&◌}
use Rattle.std.specs.List.{list_all}
use Rattle.std.proofs.lemmas.Bool.{and_from}
use Rattle.annex_base.proofs.Conditions.{eqb_refl}
use Rattle.annex_base.proofs.Lists.{find_member, list_any_member}
use Rattle.run_data.specs.declared.entry.FrameView.{FrameView}
use Rattle.node_model.specs.JobStep.{Turn}
use Rattle.node_model.specs.Jobs.{Work}
use Rattle.node_model.specs.Turns.{has_room}
use Rattle.step_judging.specs.Telling.{room_told}

-- at one of its ends as at any other
pub room_everywhere : (ws : List Work) (job : Option ℕ) (taken : Option FrameView) (sent : List FrameView) (slot peer : ℕ)
    → room_told ws job taken sent (record { peer = 0; slot = slot; client = true }) ≡ true → room_told ws job taken sent (record { peer = peer; slot = slot; client = true }) ≡ true
room_everywhere ws None taken sent slot peer has = has
room_everywhere ws (Some job) taken sent slot peer has = has

-- it runs in its slot
pub runs_there : (ws : List Work) (o : Option ℕ) (job : ℕ) (w : Work) (taken : Option FrameView) (sent : List FrameView) → o ≡ Some job → find (λ (v : Work). v.number == job) ws ≡ Some w
    → room_told ws o taken sent (record { peer = 0; slot = w.slot; client = true }) ≡ true
runs_there ws o job w taken sent named found =
    let p : Work → Bool = λ v. (v.number == job) && (v.slot == w.slot) in
    let here = find_member (λ (v : Work). v.number == job) ws w found in
    ap (λ (n : Option ℕ). room_told ws n taken sent (record { peer = 0; slot = w.slot; client = true })) named
    ∙ list_any_member p ws w here.0 (and_from (w.number == job) (w.slot == w.slot) here.1 (eqb_refl w.slot))

-- so wherever it needs room there is some
pub room_for_all : (t : Turn) (peers : List ℕ) → ((peer : ℕ) → has_room t peer ≡ true) → list_all (has_room t) peers ≡ true
room_for_all t [] room = refl
room_for_all t (p ∷ ps) room = and_from (has_room t p) (list_all (has_room t) ps) (room p) (room_for_all t ps room)
