-- The ends of all nodes after a turn of one of them are the driver's flights after its own turn.
use Rattle.std.proofs.Common.{◌≡◌, ◌<◌, ℕ, List, length, map, Option, Some, None, refl, sym, ap, ◌∙◌}
use Rattle.std.specs.Prelude.{flat_map}
use Rattle.std.specs.Option.{option_map, option_to_list}
use Rattle.std.proofs.lemmas.List.{length-map}
use Rattle.annex_base.specs.Lists.{Member}
use Rattle.annex_base.specs.declared.kinds.EntryStamp.{EntryStamp}
use Rattle.annex_base.specs.declared.kinds.Word.{Word}
use Rattle.link_ring.specs.Ends.{EndView, after_drop}
use Rattle.run_data.specs.declared.entry.Entry.{Entry}
use Rattle.run_data.specs.declared.entry.FrameText.TheVariants as texts
use Rattle.run_data.specs.declared.entry.FrameView.{FrameView}
use Rattle.node_model.specs.AnyTime.{all_ends}
use Rattle.node_model.specs.Ends.{EndName, sent_at}
use Rattle.node_model.specs.Look.{Look, Effect}
use Rattle.node_model.specs.SetUp.{SetUp}
use Rattle.node_model.specs.State.{State}
use Rattle.node_model.specs.Step.{step}
use Rattle.node_ends.specs.declared.sending.Sending.{Sending}
use Rattle.node_ends.specs.declared.sending.Sending.TheVariants as sendings
use Rattle.node_ends.specs.Ends.{AreEnds, SeesEnds, end_at, end_in, hand_at, link_at, room_at}
use Rattle.node_ends.specs.Sent.{text_of_sending}
use Rattle.joined_nodes.specs.Posting.{Posts, word_with}
use Rattle.driver_model.specs.Driver.{Driver, adds, piece_of, without_old_flights}
use Rattle.driver_model.specs.Turning.{plain_look}
use Rattle.link_flights.specs.Entries.{link_after}
use Rattle.link_flights.specs.Fleets.{AreAllCarried, AreEndsIn, AreOwnEndsIn, PostsAsDefined}
use Rattle.fleet_model.proofs.BytesTaken.{link_dropped}

-- the laws of ends and flights
pub record EndLaws : Type 0 where
  pub dropped : (links : List EndView) (s : SetUp) (st : State) (d : Driver) (k : Look) → AreEnds links s st → AreOwnEndsIn d.flights s links → SeesEnds (map after_drop links) s k
      → k.at_hand ≡ (plain_look s (without_old_flights st s.number d)).at_hand
  pub own : (s : SetUp) (d : Driver) (ends : ℕ → List EndView) → s.number < length s.repos → AreEndsIn d.flights (length s.repos) ends → AreOwnEndsIn d.flights s (ends s.number)
  pub posted : (s : SetUp) (st : State) (d : Driver) (k : Look) (m : Effect) (e : Entry) (was now : List EndView) (sender : EntryStamp) (word : EndName → Sending → Option Word) (said : EndName → List Sending)
      → AreEnds was s st → k.at_hand ≡ flat_map (λ b. option_to_list (hand_at was b)) (all_ends s) → step s st k ≡ Some m → e.taken ≡ m.taken → e.sent ≡ m.sent
      → ((a : EndName) → map text_of_sending (said a) ≡ map (λ f. f.body) (sent_at a e.sent))
      → ((a : EndName) → link_at now a ≡ option_map (link_after sender (word a) a e.taken (said a)) (link_at was a))
      → ((a : EndName) (f : FrameView) (bytes : List ℕ) → Member f (sent_at a e.sent) → Member (sendings.Bytes bytes) (said a) → f.body ≡ texts.Bytes (length bytes) → bytes ≡ piece_of d st s.number f f.body)
      → PostsAsDefined s st d sender word said was now e
  pub moved : (s : SetUp) (st : State) (d : Driver) (was now : ℕ → List EndView) (mine : List EndView) (e : Entry) (sender : EntryStamp) (word : EndName → Sending → Option Word) (said : EndName → List Sending)
      → s.number < length s.repos → AreEnds (was s.number) s st → AreEndsIn d.flights (length s.repos) was → PostsAsDefined s st (without_old_flights st s.number d) sender word said (map after_drop (was s.number)) mine e
      → AreAllCarried (length s.repos) s.number mine was now → AreEndsIn (adds st s.number e (without_old_flights st s.number d)).flights (length s.repos) now
  pub idle : (s : SetUp) (st : State) (d : Driver) (was now : ℕ → List EndView) → s.number < length s.repos → AreEnds (was s.number) s st → AreEndsIn d.flights (length s.repos) was
      → AreAllCarried (length s.repos) s.number (map after_drop (was s.number)) was now → AreEndsIn (without_old_flights st s.number d).flights (length s.repos) now

-- ends that dropped old frames stand as before
stands_same : (links : List EndView) (a : EndName) → end_at (map after_drop links) a ≡ end_at links a
stands_same links a = ap end_in (link_dropped links a) ∙ go (link_at links a)
  where
    go : (o : Option EndView) → end_in (option_map after_drop o) ≡ end_in o
    go None = refl
    go (Some v) = refl

ends_dropped : (links : List EndView) (s : SetUp) (st : State) → AreEnds links s st → AreEnds (map after_drop links) s st
ends_dropped links s st are = record { count = length-map links after_drop ∙ are.count; ends = λ a among. are.ends a among ∙ sym (stands_same links a) }

-- what waits at the ends that dropped old frames is what the driver finds
pub dropped_hand : EndLaws → (s : SetUp) (st : State) (d : Driver) (was : ℕ → List EndView) → s.number < length s.repos → AreEnds (was s.number) s st → AreEndsIn d.flights (length s.repos) was
    → flat_map (λ b. option_to_list (hand_at (map after_drop (was s.number)) b)) (all_ends s) ≡ (plain_look s (without_old_flights st s.number d)).at_hand
dropped_hand laws s st d was known are ends =
    laws.dropped (was s.number) s st d (record (plain_look s d) { at_hand = flat_map (λ b. option_to_list (hand_at (map after_drop (was s.number)) b)) (all_ends s); room = room_at (map after_drop (was s.number)) })
    are (laws.own s d was known ends) (record { at_hand = refl; room = λ a there. refl })

-- an entry that took and sent the frames of this step, at ends that dropped old frames first
pub is_posted : EndLaws → (s : SetUp) (st : State) (d : Driver) (k : Look) (m : Effect) (e : Entry) (was : ℕ → List EndView) (mine : List EndView) (sender : EntryStamp)
    → s.number < length s.repos → AreEnds (was s.number) s st → AreEndsIn d.flights (length s.repos) was
    → step s st k ≡ Some m → k.at_hand ≡ (plain_look s (without_old_flights st s.number d)).at_hand → e.taken ≡ m.taken → e.sent ≡ m.sent
    → (p : Posts sender e.kind (map after_drop (was s.number)) mine e.taken e.sent)
    → ((a : EndName) (f : FrameView) (bytes : List ℕ) → Member f (sent_at a e.sent) → Member (sendings.Bytes bytes) (p.said a) → f.body ≡ texts.Bytes (length bytes) → bytes ≡ piece_of (without_old_flights st s.number d) st s.number f f.body)
    → PostsAsDefined s st (without_old_flights st s.number d) sender (λ a. word_with a e.taken e.kind) p.said (map after_drop (was s.number)) mine e
is_posted laws s st d k m e was mine sender known are ends steps hand taken sent p pieces =
    laws.posted s st (without_old_flights st s.number d) k m e (map after_drop (was s.number)) mine sender (λ a. word_with a e.taken e.kind) p.said
    (ends_dropped (was s.number) s st are) (hand ∙ sym (dropped_hand laws s st d was known are ends)) steps taken sent p.listed p.links pieces
