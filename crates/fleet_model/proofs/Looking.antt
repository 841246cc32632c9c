-- The step that a node makes in a turn is the one that the driver's turn makes.
use Rattle.std.proofs.Common.{◌≡◌, ℕ, ◌+◌, Bool, true, false, List, [], ◌∷◌, ◌++◌, Option, Some, None, refl, sym, ap, ◌∙◌, subst}
use Rattle.std.specs.Prelude.{find, flat_map, is_some}
use Rattle.std.specs.Option.{option_to_list}
use Rattle.annex_base.specs.Lists.{Each}
use Rattle.link_ring.specs.Ends.{EndView}
use Rattle.run_data.specs.declared.entry.EntryKind.{EntryKind}
use Rattle.run_data.specs.declared.entry.FrameView.{FrameView}
use Rattle.run_model.specs.Past.{now}
use Rattle.node_model.specs.After.{AgreesAtDrops}
use Rattle.node_model.specs.AnyTime.{all_ends}
use Rattle.node_model.specs.Ends.{EndName}
use Rattle.node_model.specs.Look.{Look, Effect, entry_of, failed_in}
use Rattle.node_model.specs.SetUp.{SetUp}
use Rattle.node_model.specs.Slots.{job_of}
use Rattle.node_model.specs.State.{State}
use Rattle.node_model.specs.Step.{step}
use Rattle.node_ends.specs.Ends.{AreEnds, SeesEnds, hand_at, link_at, room_at}
use Rattle.joined_nodes.specs.Parts.{AreParts}
use Rattle.joined_nodes.specs.Sound.{AreSound}
use Rattle.driver_model.specs.Driver.{Driver, DriverInput, fails_at, frames_to, has_room, newest_count, set_up_of, state_at, without_old_flights}
use Rattle.driver_model.specs.Finding.{IsLookFor, MakesStep, driver_at_turn}
use Rattle.driver_model.specs.Sound.{IsSound}
use Rattle.driver_model.specs.Turning.{asked_key, at_hand, part_right, part_size, plain_look, told_words}
use Rattle.driver_model.specs.WordsRead.{AgreeWhereRead}
use Rattle.link_flights.specs.Fleets.{AreOwnEndsIn}
use Rattle.joined_nodes.specs.Running.{HadPathsOf}
use Rattle.joined_nodes.specs.Nodes as nodes
use Rattle.joined_nodes.specs.Nodes.{NodeView}
use Rattle.joined_nodes.specs.Stored.{StoreView}
use Rattle.joined_nodes.specs.Turning.{Finds, Looks, MakesAt, StepsBy, words_by}
use Rattle.fleet_model.specs.Matches.{DecidesMatches}
use Rattle.fleet_model.specs.Stores.{IsStoreOf}
use Rattle.fleet_model.proofs.Asking.{asks_the_drivers}
use Rattle.fleet_model.proofs.Failing.{first_of_calls}
use Rattle.fleet_model.proofs.Noting.{IsRaised}
use Rattle.fleet_model.proofs.PartAsked.{asks_no_job}
use Rattle.fleet_model.proofs.StepFinds as finds
use Rattle.fleet_model.proofs.States.{Carried, state_is, step_is}

-- the laws of looks
pub record LookLaws : Type 0 where
  pub carried : Carried
  pub found : finds.Finds
  pub hand : (links : List EndView) (s : SetUp) (st : State) (d : Driver) (k : Look) → AreEnds links s st → AreOwnEndsIn d.flights s links → SeesEnds links s k → k.at_hand ≡ (plain_look s (without_old_flights st s.number d)).at_hand

-- ---- the step

-- the driver's step, as the node made it: its entry is the node's last
pub record TurnMade {K : Type 0} (g : DriverInput) (d : Driver) (r : ℕ) (n m : NodeView K) (kind : EntryKind) (taken : Option FrameView) : Type 0 where
  pub made : Effect
  pub kind_is : made.kind ≡ kind
  pub taken_is : made.taken ≡ taken
  pub look : Look
  pub steps : step (set_up_of g d r) (state_at g d r) look ≡ Some made
  pub is_step : MakesStep g r d made
  pub adds : m.history ≡ n.history ++ entry_of r (plain_look (set_up_of g d r) (driver_at_turn g r d)) made ∷ []

-- the store is the driver's, whatever flies
store_at_turn : (g : DriverInput) (d : Driver) (r : ℕ) (v : StoreView) → IsStoreOf d r v → IsStoreOf (driver_at_turn g r d) r v
store_at_turn g d r v is = record { contents = is.contents; parts = is.parts; failing = is.failing }

pub node_makes_step : {K : Type 0} → LookLaws → (tells : K → StoreView) (g : DriverInput) (d : Driver) (r : ℕ) (n m : NodeView K) → IsSound g d → IsRaised tells g d r n → DecidesMatches g
    → AreParts (set_up_of g d r) (nodes.state_of (set_up_of g d r) n.history) n.parts → AreSound n.parts → AreOwnEndsIn d.flights (set_up_of g d r) n.parts.links
    → ((a : EndName) → is_some (link_at n.parts.links a) ≡ true → has_room r (driver_at_turn g r d).flights a ≡ room_at n.parts.links a)
    → Each (HadPathsOf (set_up_of g d r)) n.parts.jobs.running
    → ((made : Effect) → AgreeWhereRead (set_up_of g d r) (state_at g d r) made (words_by n made.kind) (told_words d.past r made.kind))
    → (by : StepsBy step (tells n.keeper) (tells m.keeper) n m) → TurnMade g d r n m by.kind by.taken
node_makes_step {K} laws tells g d r n m sound raised decides parts stands own rooms had words by = record {
  made = at.made;
  kind_is = at.same;
  taken_is = at.takes;
  look = k;
  steps = steps;
  is_step = record { look = k; is_look = is_look; steps = steps; fails = first };
  adds = at.adds ∙ ap (λ (e : _). n.history ++ e ∷ []) entry;
} where
  s : SetUp
  s = set_up_of g d r

  st : State
  st = state_at g d r

  st' : State
  st' = nodes.state_of s n.history

  c : Driver
  c = driver_at_turn g r d

  v : StoreView
  v = tells n.keeper

  agrees : AgreesAtDrops st st'
  agrees = state_is laws.carried g d r n sound raised.entries.history

  alike : (k : Look) → step s st k ≡ step s st' k
  alike k = step_is laws.carried g d r n k sound raised.entries.history

  -- a look of the node with this part
  look_with : ℕ → Bool → Look
  look_with part right = record {
    time = now d.past;
    count = newest_count d.past + 1;
    at_hand = at_hand s (frames_to r c.flights);
    room = has_room r c.flights;
    fails = failed_in by.kind;
    part = part;
    right = right;
    words = words_by n by.kind;
  }

  node_hand : flat_map (λ a. option_to_list (hand_at n.parts.links a)) (all_ends s) ≡ at_hand s (frames_to r c.flights)
  node_hand = laws.hand n.parts.links s st d (record (look_with 0 false) { at_hand = flat_map (λ a. option_to_list (hand_at n.parts.links a)) (all_ends s); room = room_at n.parts.links })
      (record { count = parts.ends.count; ends = λ a among. ap (λ (x : State). x.ends a) agrees.same ∙ parts.ends.ends a among }) own (record { at_hand = refl; room = λ a there. refl })

  looks : (part : ℕ) (right : Bool) → Looks n s (look_with part right)
  looks part right = record {
    ends = record { at_hand = sym node_hand; room = λ a there. rooms a there };
    time = sym raised.entries.time;
    count = ap (λ (x : ℕ). x + 1) (sym raised.entries.count);
    paths = had;
  }

  k0 : Look
  k0 = look_with by.part.part by.part.right

  at0 : MakesAt step by.kind by.taken v (tells m.keeper) n m s k0
  at0 = by.makes s k0 raised.entries.setup (looks by.part.part by.part.right) (record { fails = refl; part = by.part.asked; words = refl })

  no_job : (f : FrameView) → by.taken ≡ Some f → f.up ≡ true → job_of by.kind ≡ None
  no_job f taken up = ap job_of (sym at0.same) ∙ asks_no_job laws.found s st' k0 at0.made f at0.makes (at0.takes ∙ taken) up

  key_of : Effect
  key_of = record { kind = by.kind; taken = by.taken; sent = []; lines = []; calls = [] }

  k : Look
  k = look_with (part_size c r (asked_key st key_of)) (part_right g c r (asked_key st key_of))

  finds_it : Finds v.parts n by.kind by.taken k
  finds_it = record {
    fails = refl;
    part = asks_the_drivers g c r s st key_of v.parts n.parts by.kind by.taken decides
        (record { connections = parts.sessions.connections; each = λ i x there. let is = parts.sessions.each i x there in record { id = is.id; version = is.version; locks = is.locks; session = ap (λ (y : State). y.sessions (Rattle.node_sessions.specs.Sessions.end_of x)) agrees.same ∙ is.session } })
        (ap (λ (x : State). x.works) agrees.same ∙ parts.works.works) stands raised.store.parts refl refl no_job by.part;
    words = refl;
  }

  at : MakesAt step by.kind by.taken v (tells m.keeper) n m s k
  at = by.makes s k raised.entries.setup (looks (part_size c r (asked_key st key_of)) (part_right g c r (asked_key st key_of))) finds_it

  steps : step s st k ≡ Some at.made
  steps = alike k ∙ at.makes

  key_is : asked_key st key_of ≡ asked_key st at.made
  key_is = λ i. asked_key st (record { kind = sym at.same i; taken = sym at.takes i; sent = []; lines = []; calls = [] })

  is_look : IsLookFor g c r s st at.made k
  is_look = record {
    time_is = refl;
    count_is = refl;
    hand_is = refl;
    room_is = λ a. refl;
    part_is = ap (part_size c r) key_is;
    right_is = ap (part_right g c r) key_is;
    words_are = subst (λ (kind : EntryKind). AgreeWhereRead s st at.made (words_by n kind) (told_words d.past r at.made.kind)) at.same (words at.made);
    fails_is = ap failed_in (sym at.same);
  }

  first : failed_in at.made.kind ≡ find (fails_at c r) at.made.calls
  first = ap failed_in at.same ∙ first_of_calls c r at.made.calls v (failed_in by.kind) (tells m.keeper).failing (store_at_turn g d r v raised.store) at.calls

  entry : entry_of r k at.made ≡ entry_of r (plain_look s c) at.made
  entry = refl
