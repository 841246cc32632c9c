-- A job speaks and listens only at the client's ends of its own slot.
use Rattle.std.proofs.Common.{◌≡◌, ℕ, Bool, true, false, List, [], ◌∷◌, Some, None, ◌⊎◌, inl, inr, refl, sym, ap, ◌∙◌, subst}
use Rattle.std.specs.Prelude.{if◌then◌else◌, ◌==◌, ◌&&◌, flat_map}
use Rattle.std.proofs.lemmas.Bool.{and_parts, eqb-true}
use Rattle.annex_base.specs.Lists.{Member}
use Rattle.annex_base.proofs.Lists.{Member-append_cases}
use Rattle.annex_base.specs.Bools.{same_bool}
use Rattle.run_data.specs.declared.entry.Entry.{Entry}
use Rattle.run_data.specs.declared.entry.EntryKind.{EntryKind}
use Rattle.run_data.specs.declared.entry.EntryKind.TheVariants.{Gain, Share, Bar, Gone, Order, Talk, Fault, End as ends_job}
use Rattle.run_data.specs.declared.entry.FrameView.{FrameView}
use Rattle.run_data.specs.declared.entry.FrameText.{FrameText}
use Rattle.node_model.specs.Rows.{is_lost_ordered}
use Rattle.node_model.specs.Ends.{End, EndName, end_sends, frames}
use Rattle.run_model.specs.Frames.{takes}
use Rattle.node_model.specs.SetUp.{SetUp}
use Rattle.node_model.specs.Jobs.{job_end}
use Rattle.node_model.specs.Look.{Effect}
use Rattle.node_model.specs.JobStep.{Turn, end_with, farewell, others_of}
use Rattle.node_model.specs.Found.{IsJobEntry, JobTakes, success_line}
use Rattle.run_data.specs.declared.entry.FrameText.TheVariants.{Line}
use Rattle.p2p_wire.specs.Messages.{order_of, text_of}
use Rattle.step_facts.proofs.JobSteps.{Stepped, stepped_found, turn_at}

-- the frame is listed at the client's end of this slot
abbrev pub AtSlot : ℕ → FrameView → Type 0
AtSlot slot g = (g.slot ≡ slot) × (g.up ≡ true)

frames_at : (a : EndName) (c : End) (bodies : List FrameText) (g : FrameView) → a.client ≡ true → Member g (frames a c bodies) → AtSlot a.slot g
frames_at a c [] g client m = absurd m
frames_at a c (body ∷ bodies) g client (inl m) = (ap (λ (f : FrameView). f.slot) m, ap (λ (f : FrameView). f.up) m ∙ client)
frames_at a c (body ∷ bodies) g client (inr m) = frames_at a (end_sends c body) bodies g client m

farewells_at : (t : Turn) (lost : Bool) (peers : List ℕ) (g : FrameView)
    → Member g (flat_map (λ peer. frames (job_end t.w peer) (end_with t peer) (farewell t lost peer (end_with t peer).opened)) peers) → AtSlot t.w.slot g
farewells_at t lost [] g m = absurd m
farewells_at t lost (p ∷ peers) g m = go (λ n. farewells_at t lost peers g n)
    (Member-append_cases (frames (job_end t.w p) (end_with t p) (farewell t lost p (end_with t p).opened)) (flat_map (λ peer. frames (job_end t.w peer) (end_with t peer) (farewell t lost peer (end_with t peer).opened)) peers) g m)
  where
    go : (Member g (flat_map (λ peer. frames (job_end t.w peer) (end_with t peer) (farewell t lost peer (end_with t peer).opened)) peers) → AtSlot t.w.slot g)
        → Member g (frames (job_end t.w p) (end_with t p) (farewell t lost p (end_with t p).opened)) ⊎ Member g (flat_map (λ peer. frames (job_end t.w peer) (end_with t peer) (farewell t lost peer (end_with t peer).opened)) peers) → AtSlot t.w.slot g
    go more (inl n) = frames_at (job_end t.w p) (end_with t p) (farewell t lost p (end_with t p).opened) g refl n
    go more (inr n) = more n

none_at : (slot : ℕ) (sent : List FrameView) (g : FrameView) → sent ≡ [] → Member g sent → AtSlot slot g
none_at slot sent g is m = absurd (subst (Member g) is m)

job_says : (t : Turn) (m : Effect) (kind : EntryKind) → IsJobEntry t m kind → (g : FrameView) → Member g m.sent → AtSlot t.w.slot g
job_says t m (Share hold end by key) x g n = none_at t.w.slot m.sent g x.sends_none n
job_says t m (Bar j need key) x g n = none_at t.w.slot m.sent g x.sends_none n
job_says t m (Gone by key) x g n = none_at t.w.slot m.sent g x.sends_none n
job_says t m (Order j peer deadline need key) x g n = frames_at (job_end t.w peer) (end_with t peer) (Line (text_of (order_of deadline key)) ∷ []) g refl (subst (Member g) x.sent_is n)
job_says t m (Gain by size key) x g n = frames_at (job_end t.w x.peer) (end_with t x.peer) success_line g refl (subst (Member g) x.sent_is n)
job_says t m (ends_job j outcome) x g n = farewells_at t (is_lost_ordered outcome) (others_of t) g (subst (Member g) x.sent_is n)
job_says t m (Talk (Some j)) x g n = elim (x.1) [
  | inl none ↦ none_at t.w.slot m.sent g none n
  | inr one ↦ frames_at (job_end t.w one.0) (end_with t one.0) (one.1 ∷ []) g refl (subst (Member g) one.2 n)
]
job_says t m (Fault call by) x g n = none_at t.w.slot m.sent g x.1 n
job_says t m kind x g n = absurd x

module _ (s : SetUp) (past : List Entry) (e : Entry) (x : Stepped s past e) where
  -- what it sends goes up, on a connection of its slot
  pub speaks : (g : FrameView) → Member g e.sent → AtSlot x.w.slot g
  speaks g m = job_says (turn_at s past e x) x.made x.made.kind (stepped_found s past e x).found g (subst (Member g) (ap (λ (y : Entry). y.sent) x.is) m)

  -- what it takes comes down, on a connection of its slot
  pub hears : (f : FrameView) → e.taken ≡ Some f → (f.slot ≡ x.w.slot) × (f.up ≡ false)
  hears f took = elim ((stepped_found s past e x).frame) [
    | inl none ↦ absurd (let both : Some f ≡ None = sym took ∙ ap (λ (y : Entry). y.taken) x.is ∙ none in cc)
    | inr takes ↦ at takes
  ]
    where
      at : JobTakes (turn_at s past e x) x.made → (f.slot ≡ x.w.slot) × (f.up ≡ false)
      at takes =
          let both : Some f ≡ Some takes.f = sym took ∙ ap (λ (y : Entry). y.taken) x.is ∙ takes.taken_is in
          let same : f ≡ takes.f = cc in
          let two = and_parts ((takes.f.peer == takes.peer) && (takes.f.slot == x.w.slot)) (same_bool true (if takes.f.up then false else true)) takes.of_end in
          let one = and_parts (takes.f.peer == takes.peer) (takes.f.slot == x.w.slot) two.0 in
          (ap (λ (g : FrameView). g.slot) same ∙ eqb-true takes.f.slot x.w.slot one.1, ap (λ (g : FrameView). g.up) same ∙ down takes.f.up two.1)
        where
          down : (b : Bool) → same_bool true (if b then false else true) ≡ true → b ≡ false
          down true h = absurd (cc)
          down false h = refl
