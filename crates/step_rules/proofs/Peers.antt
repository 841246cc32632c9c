-- What an entry of a run sends, it sends to repositories of the run; and a job that begins has such a peer.
use Rattle.std.proofs.Common.{◌≡◌, ℕ, ◌<◌, Bool, true, false, List, [], ◌∷◌, ◌++◌, ◌⊎◌, Option, Some, None, IfSome, inl, inr, refl, sym, ap, subst, ◌∙◌, arith}
use Rattle.std.specs.Prelude.{◌==◌, flat_map, if◌then◌else◌, length, map, not}
use Rattle.std.specs.List.{range_with_len}
use Rattle.annex_base.specs.Lists.{Each, Member}
use Rattle.annex_base.specs.declared.kinds.Word.{Word}
use Rattle.annex_base.proofs.Lists.{Each-from_members, Each-member, Member-append_cases, Member-filter_parts}
use Rattle.annex_base.proofs.Numbers.{range_below}
use Rattle.run_data.specs.declared.entry.By.TheVariants.{Script}
use Rattle.run_data.specs.declared.entry.Entry.{Entry}
use Rattle.run_data.specs.declared.entry.EntryKind.{EntryKind}
use Rattle.run_data.specs.declared.entry.EntryKind.TheVariants.{Begin, Close, Compact, Crash, Fault, Gain, Log}
use Rattle.run_data.specs.declared.entry.FrameText.{FrameText}
use Rattle.run_data.specs.declared.entry.FrameText.TheVariants.{Closing}
use Rattle.run_data.specs.declared.entry.FrameView.{FrameView}
use Rattle.run_data.specs.declared.job.JobKind.{JobKind}
use Rattle.node_model.specs.AnyTime.{IsPeer, MayCome, all_ends, close_at, ends_with}
use Rattle.node_model.specs.Ends.{End, EndName, end_sends, frames, server_end}
use Rattle.node_model.specs.SetUp.{SetUp, others, served_connections, slots}
use Rattle.run_model.specs.Run.{IsStep, OwnPart, OwnRun}
use Rattle.run_model.specs.States.{state_of}
use Rattle.step_facts.proofs.Below.{SentAreRead}
use Rattle.step_facts.proofs.Makers.{who}
use Rattle.step_facts.proofs.StepFacts.{kind_found}
use Rattle.step_facts.proofs.ServerEnds.{BySessionAt, GivesHere, TakesHere}
use Rattle.job_facts.proofs.OpenEnds.{job_sends_to}
use Rattle.step_state.specs.Peers.{BeginsWithin, HasPeersIn}

-- ---- other repositories are repositories

other_within : (s : SetUp) (peer : ℕ) → Member peer (others s) → peer < length s.repos
other_within s peer among =
    Each-member (λ x. x < length s.repos) (range_with_len 0 (length s.repos)) peer (range_below 0 (length s.repos) (length s.repos) (omega arith))
    (Member-filter_parts (λ x. not (x == s.number)) (range_with_len 0 (length s.repos)) peer among).0

from_flat : {X Y : Type 0} (f : X → List Y) (xs : List X) (y : Y) → Member y (flat_map f xs) → (x : X) × Member x xs × Member y (f x)
from_flat f [] y among = absurd among
from_flat f (x ∷ xs) y among = elim (Member-append_cases (f x) (flat_map f xs) y among) [
  | inl here ↦ (x, inl refl, here)
  | inr later ↦ (let z = from_flat f xs y later in (z.0, inr z.1, z.2))
]

of_slots : (peer : ℕ) (xs : List ℕ) (p q : ℕ) → Member {X = ℕ × ℕ} (p, q) (map (λ slot. (peer, slot)) xs) → p ≡ peer
of_slots peer [] p q among = absurd among
of_slots peer (x ∷ xs) p q (inl same) = ap (λ (c : ℕ × ℕ). c.0) same
of_slots peer (x ∷ xs) p q (inr later) = of_slots peer xs p q later

served_within : (s : SetUp) (p q : ℕ) → Member (p, q) (served_connections s) → p < length s.repos
served_within s p q among =
    let w = from_flat (λ peer. map (λ slot. (peer, slot)) slots) (others s) (p, q) among in
    subst (λ (n : ℕ). n < length s.repos) (sym (of_slots w.0 slots p q w.2)) (other_within s w.0 w.1)

of_peer : (peer : ℕ) (client : Bool) (a : EndName) → Member a (ends_with peer client) → a.peer ≡ peer
of_peer peer client a (inl same) = ap (λ (b : EndName). b.peer) same
of_peer peer client a (inr (inl same)) = ap (λ (b : EndName). b.peer) same
of_peer peer client a (inr (inr (inl same))) = ap (λ (b : EndName). b.peer) same
of_peer peer client a (inr (inr (inr (inl same)))) = ap (λ (b : EndName). b.peer) same
of_peer peer client a (inr (inr (inr (inr none)))) = absurd none

end_within : (s : SetUp) (a : EndName) → Member a (all_ends s) → a.peer < length s.repos
end_within s a among =
    let w = from_flat (λ peer. ends_with peer true ++ ends_with peer false) (others s) a among in
    let same : a.peer ≡ w.0 = elim (Member-append_cases (ends_with w.0 true) (ends_with w.0 false) a w.2) [ inl up ↦ of_peer w.0 true a up | inr down ↦ of_peer w.0 false a down ] in
    subst (λ (n : ℕ). n < length s.repos) (sym same) (other_within s w.0 w.1)

-- ---- frames

frames_to : (a : EndName) (c : End) (bodies : List FrameText) (g : FrameView) → Member g (frames a c bodies) → g.peer ≡ a.peer
frames_to a c [] g among = absurd among
frames_to a c (body ∷ bodies) g (inl same) = ap (λ (f : FrameView). f.peer) same
frames_to a c (body ∷ bodies) g (inr later) = frames_to a (end_sends c body) bodies g later

close_to : (s : SetUp) (past : List Entry) (a : EndName) (g : FrameView) → Member g (close_at s (state_of s past) a) → g.peer ≡ a.peer
close_to s past a g among = go ((state_of s past).ends a).opened among
  where
    go : (b : Bool) → Member g (if b then frames a ((state_of s past).ends a) (Closing ∷ []) else []) → g.peer ≡ a.peer
    go true m = frames_to a ((state_of s past).ends a) (Closing ∷ []) g m
    go false m = absurd m

come_within : (s : SetUp) (past : List Entry) (lines : List (List ℕ)) (sent : List FrameView) (kind : EntryKind) (g : FrameView) → MayCome s (state_of s past) lines sent kind → Member g sent → g.peer < length s.repos
come_within s past lines sent (Begin job what) g x m = absurd (subst (Member g) x.2 m)
come_within s past lines sent (Gain Script size key) g x m = absurd (subst (Member g) x.2 m)
come_within s past lines sent (Log file) g x m = absurd (subst (Member g) x.1 m)
come_within s past lines sent (Compact file) g x m = absurd (subst (Member g) x.2 m)
come_within s past lines sent (Fault call Script) g x m = absurd (subst (Member g) x.2 m)
come_within s past lines sent (Close peer slot client) g x m =
    let a : EndName = record { peer = peer; slot = slot; client = client } in
    subst (λ (n : ℕ). n < length s.repos) (sym (close_to s past a g (subst (Member g) x.3 m))) (end_within s a x.0)
come_within s past lines sent (Crash clock) g x m =
    let w = from_flat (close_at s (state_of s past)) (all_ends s) g (subst (Member g) x.1 m) in
    subst (λ (n : ℕ). n < length s.repos) (sym (close_to s past w.0 g w.2)) (end_within s w.0 w.1)
come_within s past lines sent kind g x m = absurd x

session_within : (s : SetUp) (past : List Entry) (e : Entry) (g : FrameView) → BySessionAt s past e → Member g e.sent → g.peer < length s.repos
session_within s past e g x m = subst (λ (n : ℕ). n < length s.repos) (sym (go x.3)) (served_within s x.0 x.1 x.2)
  where
    go : TakesHere s past (server_end x.0 x.1) e ⊎ GivesHere s past (server_end x.0 x.1) e → g.peer ≡ x.0
    go (inl y) = frames_to (server_end x.0 x.1) _ _ g (subst (Member g) y.sent_is m)
    go (inr y) = frames_to (server_end x.0 x.1) _ _ g (subst (Member g) y.sent_is m)

module _ (reads_back : SentAreRead) (s : SetUp) (past : List Entry) (words : ℕ → Option Word) (e : Entry) (run : OwnRun s past) (own : OwnPart s past words e) where
  pub sent_within : Each (λ f. f.peer < length s.repos) e.sent
  sent_within = Each-from_members (λ f. f.peer < length s.repos) e.sent sent
    where
      sent : (g : FrameView) → Member g e.sent → g.peer < length s.repos
      sent g m = elim (who s past words e own) [
        | inl x ↦ elim (x.2) [
          | inl none ↦ absurd (subst (Member g) none m)
          | inr any ↦ come_within s past e.lines e.sent e.kind g any.may m
        ]
        | inr x ↦ elim x [
          | inl y ↦ session_within s past e g y.1 m
          | inr y ↦ other_within s g.peer (job_sends_to reads_back s past words e run own y g m)
        ]
      ]

-- ---- a job that begins

peer_within : (s : SetUp) (kind : JobKind) (o : Option ℕ) → IsPeer s kind o → IfSome o (λ p. p < length s.repos)
peer_within s kind None is = tt
peer_within s kind (Some p) is = is.0

begun_within : (s : SetUp) (past : List Entry) (words : ℕ → Option Word) (e : Entry) → OwnPart s past words e → (kind : EntryKind) → e.kind ≡ kind → BeginsWithin (length s.repos) kind
begun_within s past words e own (Begin job what) is = elim (own.does) [
  | inl x ↦ absurd (steps x)
  | inr x ↦ peer_within s what.kind what.peer (subst (MayCome s (state_of s past) e.lines e.sent) is x.may).0.peer
]
  where
    steps : IsStep s past words e → ⊥
    steps x = elim (kind_found s (state_of s past) x.look x.made (Begin job what) x.makes (sym (ap (λ (y : Entry). y.kind) x.is) ∙ is) (λ h. h)) [
      | inl y ↦ y.found
      | inr y ↦ y.found
    ]
begun_within s past words e own kind is = tt

pub has_peers : SentAreRead → (s : SetUp) (past : List Entry) (words : ℕ → Option Word) (e : Entry) → OwnRun s past → OwnPart s past words e → HasPeersIn (length s.repos) e
has_peers reads_back s past words e run own = record { sent = sent_within reads_back s past words e run own; begun = begun_within s past words e own e.kind refl }
