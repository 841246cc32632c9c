-- While a server's end is open, the clock is as it was set when the end said anything of its epoch: a crash closes every end, and
-- what opens an end has a later epoch.
use Rattle.std.proofs.Common.{◌≡◌, ℕ, ◌<◌, ◌≤◌, Bool, true, false, List, [], ◌∷◌, ◌++◌, Option, Some, None, ◌⊎◌, inl, inr, refl, sym, ap, ◌∙◌, subst, arith}
use Rattle.std.specs.Prelude.{if◌then◌else◌, flat_map, map}
use Rattle.std.proofs.lemmas.Bool.{true≢false}
use Rattle.annex_base.specs.Lists.{Member}
use Rattle.annex_base.specs.declared.kinds.Word.{Word}
use Rattle.annex_base.proofs.Lists.{Member-flat_map, Member-map, Member-append_right, Member-append_cases}
use Rattle.run_data.specs.declared.entry.Entry.{Entry}
use Rattle.run_data.specs.declared.entry.FrameView.{FrameView}
use Rattle.run_model.specs.Past.{Occurs, clock_set, is_of}
use Rattle.node_model.specs.SetUp.{SetUp, others, served_connections, slots}
use Rattle.node_model.specs.Ends.{End, EndName, end_takes, is_opening, may_take, sent_at, server_end}
use Rattle.run_model.specs.States.{end_at}
use Rattle.node_model.specs.AnyTime.{all_ends, ends_with}
use Rattle.run_model.specs.Run.{OwnPart, OwnRun}
use Rattle.step_facts.proofs.ServerEnds.{GivesHere, Shuts, TakesHere, end_of, gives_elsewhere, same_end, same_end-is, server_does, takes_elsewhere}
use Rattle.step_facts.proofs.EndMoves.{all_epoch, all_opened, end_gave, end_own, end_shuts, end_took-is, gave_none, may_epoch, own_induction, sends_all, shuts_none, takes_epoch, took_none}
use Rattle.step_facts.proofs.EndEpochs.{from_end, opening_later, opening_takes, own_takes, within}
use Rattle.run_laws.proofs.ClockKept.{NoCrash, clock_kept, clock_other}
use Rattle.job_facts.proofs.OpenEnds.{crash_sends, crash_shuts}

-- ---- the ends of a server are among all ends

abbrev slots_of : List ℕ → ℕ → List (ℕ × ℕ)
slots_of ss peer = map (λ slot. (peer, slot)) ss

in_slots : (n : ℕ) (ss : List ℕ) (p q : ℕ) → Member (p, q) (slots_of ss n) → (p ≡ n) × Member q ss
in_slots n [] p q m = absurd m
in_slots n (s ∷ ss) p q (inl m) = (ap (λ (x : ℕ × ℕ). x.0) m, inl (ap (λ (x : ℕ × ℕ). x.1) m))
in_slots n (s ∷ ss) p q (inr m) = let t = in_slots n ss p q m in (t.0, inr t.1)

in_served : (ns ss : List ℕ) (p q : ℕ) → Member (p, q) (flat_map (slots_of ss) ns) → Member p ns × Member q ss
in_served [] ss p q m = absurd m
in_served (n ∷ ns) ss p q m = elim (Member-append_cases (slots_of ss n) (flat_map (slots_of ss) ns) (p, q) m) [
  | inl k ↦ (let t = in_slots n ss p q k in (inl t.0, t.1))
  | inr k ↦ (let t = in_served ns ss p q k in (inr t.0, t.1))
]

served_end : (s : SetUp) (p q : ℕ) → Member (p, q) (served_connections s) → Member (server_end p q) (all_ends s)
served_end s p q m =
    let t = in_served (others s) slots p q m in
    Member-flat_map (λ n. ends_with n true ++ ends_with n false) (others s) p (server_end p q) t.0
    (Member-append_right (ends_with p true) (ends_with p false) (server_end p q) (Member-map (server_end p) slots q t.1))

-- ---- the invariant

-- what the end said of its epoch was said by the clock as it is set
abbrev pub SaidNow : SetUp → List Entry → EndName → Type 0
SaidNow s past a = (x : Entry) (before : List Entry) (g : FrameView) → Occurs past x before → is_of s.number x ≡ true → Member g x.sent → from_end g ≡ a → g.epoch ≡ (end_at past s.number a).epoch
    → clock_set s.repos before s.number ≡ clock_set s.repos past s.number

abbrev pub OpenSaid : SetUp → EndName → List Entry → Type 0
OpenSaid s a past = (end_at past s.number a).opened ≡ true → Member a (all_ends s) × SaidNow s past a

module _ (s : SetUp) (past : List Entry) (e : Entry) (words : ℕ → Option Word) (a : EndName) (run : OwnRun s past) (is : is_of s.number e ≡ true) (part : OwnPart s past words e) (old : OpenSaid s a past) (now : (end_at (e ∷ past) s.number a).opened ≡ true) where
  abbrev c : End
  c = end_at past s.number a

  -- without a crash, what the entry says itself is by this clock
  said_after : NoCrash e → ((x : Entry) (before : List Entry) (g : FrameView) → Occurs past x before → is_of s.number x ≡ true → Member g x.sent → from_end g ≡ a → g.epoch ≡ (end_at (e ∷ past) s.number a).epoch
      → clock_set s.repos before s.number ≡ clock_set s.repos past s.number) → SaidNow s (e ∷ past) a
  said_after none earlier x before g o mine m at epoch = by o
    where
      kept : clock_set s.repos past s.number ≡ clock_set s.repos (e ∷ past) s.number
      kept = sym (clock_kept s.repos past s.number e none)

      by : Occurs (e ∷ past) x before → clock_set s.repos before s.number ≡ clock_set s.repos (e ∷ past) s.number
      by (inl z) = ap (λ q. clock_set s.repos q s.number) z.1 ∙ kept
      by (inr z) = earlier x before g z mine m at epoch ∙ kept

  -- it was open before, at the same epoch
  stays_said : c.opened ≡ true → (end_at (e ∷ past) s.number a).epoch ≡ c.epoch → Member a (all_ends s) × SaidNow s (e ∷ past) a
  stays_said o same =
      let x = old o in
      (x.0, said_after (λ clock kind. true≢false (sym now ∙ crash_shuts s past words e part is clock kind a x.0 o)) (λ y before g z mine m at epoch. x.1 y before g z mine m at (epoch ∙ same)))

  -- it takes an Opening, of a later epoch than all that it said
  opens_said : Member a (all_ends s) → (f : FrameView) → e.taken ≡ Some f → (end_at (e ∷ past) s.number a).epoch ≡ f.epoch → c.epoch < f.epoch → Member a (all_ends s) × SaidNow s (e ∷ past) a
  opens_said member f took at later = (
    member,
    said_after (λ clock kind. let bad : None ≡ Some f = sym (crash_sends s past words e part clock kind).0 ∙ took in cc)
        (λ y before g z mine m from epoch. let early : g.epoch ≤ c.epoch = (within s a past run).sent_in y before g z mine m from in absurd (omega (arith, early, later, at, epoch))),
  )

  shuts_said : Shuts a e → Member a (all_ends s) × SaidNow s (e ∷ past) a
  shuts_said x =
      let none = shuts_none (sent_at a e.sent) x.closes in
      let after : end_at (e ∷ past) s.number a ≡ sends_all c (sent_at a e.sent) = end_own s.number past a e is ∙ end_shuts a c e x in
      stays_said (all_opened c (sent_at a e.sent) none (sym (ap (λ (z : End). z.opened) after) ∙ now)) (ap (λ (z : End). z.epoch) after ∙ all_epoch c (sent_at a e.sent) none)

  gives_said : GivesHere s past a e → Member a (all_ends s) × SaidNow s (e ∷ past) a
  gives_said x =
      let none = gave_none s past a e x in
      let after : end_at (e ∷ past) s.number a ≡ sends_all c (sent_at a e.sent) = end_own s.number past a e is ∙ end_gave s past a e x in
      stays_said (all_opened c (sent_at a e.sent) none (sym (ap (λ (z : End). z.opened) after) ∙ now)) (ap (λ (z : End). z.epoch) after ∙ all_epoch c (sent_at a e.sent) none)

  takes_said : Member a (all_ends s) → TakesHere s past a e → Member a (all_ends s) × SaidNow s (e ∷ past) a
  takes_said member x = go (is_opening x.f.body) refl
    where
      epoch : (end_at (e ∷ past) s.number a).epoch ≡ (end_takes c x.f.epoch x.f.body).epoch
      epoch = ap (λ (z : End). z.epoch) (end_own s.number past a e is ∙ end_took-is s past a e x) ∙ all_epoch (end_takes c x.f.epoch x.f.body) (sent_at a e.sent) (took_none s past a e x)

      go : (b : Bool) → is_opening x.f.body ≡ b → Member a (all_ends s) × SaidNow s (e ∷ past) a
      go true i = opens_said member x.f x.taken_is (epoch ∙ ap (λ (z : End). z.epoch) (opening_takes c x.f.epoch x.f.body i)) (opening_later c x.f i x.may)
      go false i = stays_said (may_epoch c x.f i x.may).0 (epoch ∙ takes_epoch c x.f.epoch x.f.body i)

own_said : (s : SetUp) (p q : ℕ) (past : List Entry) (e : Entry) (words : ℕ → Option Word) → OwnRun s past → is_of s.number e ≡ true → OwnPart s past words e → OpenSaid s (server_end p q) past → OpenSaid s (server_end p q) (e ∷ past)
own_said s p q past e words run is part old now = elim (server_does s past words e part) [
  | inl x ↦ (let b = server_end x.0 x.1 in go b (served_end s x.0 x.1 x.2) x.3 (same_end b a) refl)
  | inr x ↦ shuts_said s past e words a run is part old now (x p q)
]
  where
    a : EndName
    a = server_end p q

    here' : Member a (all_ends s) → TakesHere s past a e ⊎ GivesHere s past a e → Member a (all_ends s) × SaidNow s (e ∷ past) a
    here' m (inl y) = takes_said s past e words a run is part old now m y
    here' m (inr y) = gives_said s past e words a run is part old now y

    elsewhere : (b : EndName) → same_end b a ≡ false → TakesHere s past b e ⊎ GivesHere s past b e → Shuts a e
    elsewhere b apart (inl y) = takes_elsewhere s past b a e apart y
    elsewhere b apart (inr y) = gives_elsewhere s past b a e apart y

    go : (b : EndName) → Member b (all_ends s) → TakesHere s past b e ⊎ GivesHere s past b e → (same : Bool) → same_end b a ≡ same → Member a (all_ends s) × SaidNow s (e ∷ past) a
    go b m y true at = let is_a = same_end-is b a at in here' (subst (λ z. Member z (all_ends s)) is_a m) (subst (λ z. TakesHere s past z e ⊎ GivesHere s past z e) is_a y)
    go b m y false at = shuts_said s past e words a run is part old now (elsewhere b at y)

pub open_said : (s : SetUp) (p q : ℕ) (past : List Entry) → OwnRun s past → OpenSaid s (server_end p q) past
open_said s p q past run = own_induction s (OpenSaid s (server_end p q)) (λ o. absurd (true≢false (sym o))) other (own_said s p q) past run
  where
    other : (past : List Entry) (e : Entry) → is_of s.number e ≡ false → OpenSaid s (server_end p q) past → OpenSaid s (server_end p q) (e ∷ past)
    other past e is old o =
        let x = old (rw is at o) in
        (x.0, λ y before g z mine m at epoch. by x.1 y before g z mine m at epoch)
      where
        by : SaidNow s past (server_end p q) → (y : Entry) (before : List Entry) (g : FrameView) → Occurs (e ∷ past) y before → is_of s.number y ≡ true → Member g y.sent → from_end g ≡ server_end p q
            → g.epoch ≡ (end_at (e ∷ past) s.number (server_end p q)).epoch → clock_set s.repos before s.number ≡ clock_set s.repos (e ∷ past) s.number
        by x y before g (inl z) mine m at epoch = absurd (true≢false (sym (subst (λ (v : Entry). is_of s.number v ≡ true) z.0 mine) ∙ is))
        by x y before g (inr z) mine m at epoch = x y before g z mine m at (rw is at epoch) ∙ sym (clock_other s.repos past s.number e is)

-- an entry that takes a frame from a client, other than an Opening, finds the clock as it was set when anything was said on the way down
pub said_by_clock : (s : SetUp) (past : List Entry) (words : ℕ → Option Word) (e : Entry) → OwnRun s past → OwnPart s past words e → (f : FrameView) → e.taken ≡ Some f → f.up ≡ true → is_opening f.body ≡ false
    → (x : Entry) (before : List Entry) (g : FrameView) → Occurs past x before → is_of s.number x ≡ true → Member g x.sent → from_end g ≡ server_end f.peer f.slot → g.epoch ≡ f.epoch
    → clock_set s.repos before s.number ≡ clock_set s.repos past s.number
said_by_clock s past words e run part f took up line x before g o mine m at epoch =
    let same : end_of f ≡ server_end f.peer f.slot = λ i. record { peer = f.peer; slot = f.slot; client = if up i then false else true } in
    let may : may_take (end_at past s.number (server_end f.peer f.slot)) f ≡ true = ap (λ z. may_take (end_at past s.number z) f) (sym same) ∙ own_takes s past words e f part took in
    let here' = may_epoch (end_at past s.number (server_end f.peer f.slot)) f line may in
    (open_said s f.peer f.slot past run here'.0).1 x before g o mine m at (epoch ∙ here'.1)
