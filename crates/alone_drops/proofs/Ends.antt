-- The clients' ends since a drop began that runs alone: those that are open were opened since.
use Rattle.std.proofs.Common.{◌≡◌, ℕ, ◌+◌, ◌<◌, ◌≤◌, Bool, true, false, List, [], ◌∷◌, ◌++◌, Option, Some, None, ◌⊎◌, inl, inr, refl, sym, ap, ◌∙◌, subst, arith}
use Rattle.std.specs.Prelude.{if◌then◌else◌}
use Rattle.annex_base.specs.Lists.{Each, Member}
use Rattle.annex_base.specs.declared.kinds.Word.{Word}
use Rattle.run_data.specs.declared.entry.Entry.{Entry}
use Rattle.run_data.specs.declared.entry.FrameView.{FrameView}
use Rattle.run_data.specs.declared.entry.FrameText.{FrameText}
use Rattle.run_data.specs.declared.entry.FrameText.TheVariants.{Opening, Closing, Bytes, Line}
use Rattle.run_data.specs.declared.job.Job.{Job}
use Rattle.run_data.specs.declared.run.Run.{Run}
use Rattle.run_data.specs.Repos.{IsSetUp}
use Rattle.node_model.specs.Ends.{End, EndName, end_takes, end_took, is_opening, may_take, sent_at, taken_at, takes_at}
use Rattle.node_model.specs.SetUp.{SetUp}
use Rattle.run_model.specs.Past.{is_of}
use Rattle.run_model.specs.Run.{OwnPart, RunPast, set_up}
use Rattle.run_model.specs.States.{end_at}
use Rattle.step_facts.proofs.Below.{SentAreRead}
use Rattle.step_facts.proofs.EndEpochs.{between, between_grows, end_grows, opening_grows, opening_later, own_takes}
use Rattle.step_facts.proofs.EndMoves.{all_epoch, all_opened, end_own, sends_all}
use Rattle.past_facts.proofs.OwnRuns.{own_past, part_of}
use Rattle.job_facts.proofs.OpenEnds.{open_runs, opens_or}
use Rattle.step_facts.proofs.ServerEnds.{takes_end}
use Rattle.alone_drops.proofs.Since.{Beginning, Quietly, begins_quietly}

open_body : (body : FrameText) → is_opening body ≡ true → body ≡ Opening
open_body Opening e = refl
open_body body e = absurd (cc)

-- an end that is open after an own entry was open before it, or is at a later opening
pub opened_or : (s : SetUp) (past : List Entry) (words : ℕ → Option Word) (e : Entry) → OwnPart s past words e → is_of s.number e ≡ true → (a : EndName) → (end_at (e ∷ past) s.number a).opened ≡ true
    → ((end_at past s.number a).opened ≡ true) ⊎ ((end_at past s.number a).epoch < (end_at (e ∷ past) s.number a).epoch)
opened_or s past words e own is a now = elim (opens_or (sent_at a e.sent)) [
  | inr x ↦ inr (less c.epoch mid.epoch (end_at (e ∷ past) s.number a).epoch (between_grows s past words e own is a)
      (subst (λ (z : End). mid.epoch + 1 ≤ z.epoch) (sym after) (opening_grows mid (sent_at a e.sent) x.0 x.1 (open_body x.0.body x.2))))
  | inl none ↦ took (ap (λ (z : End). z.epoch) after ∙ all_epoch mid (sent_at a e.sent) none) e.taken refl (all_opened mid (sent_at a e.sent) none (ap (λ (z : End). z.opened) (sym after) ∙ now))
]
  where
    c : End
    c = end_at past s.number a

    mid : End
    mid = between s past words e own a

    after : end_at (e ∷ past) s.number a ≡ sends_all mid (sent_at a e.sent)
    after = end_own s.number past a e is

    less : (x y z : ℕ) → x ≤ y → y + 1 ≤ z → x < z
    less x y z i j = omega (arith, i, j)

    Goal : Type 0
    Goal = (c.opened ≡ true) ⊎ (c.epoch < (end_at (e ∷ past) s.number a).epoch)

    by_body : ((end_at (e ∷ past) s.number a).epoch ≡ mid.epoch) → (f : FrameView) → (t : e.taken ≡ Some f) → (i : takes_at a f ≡ true) → (body : FrameText) → f.body ≡ body → (end_takes c f.epoch body).opened ≡ true → Goal
    by_body same f t i Opening at m =
        let may : may_take c f ≡ true = ap (λ (z : EndName). may_take (end_at past s.number z) f) (sym (takes_end a f i)) ∙ own_takes s past words e f own t in
        let mid_is : mid ≡ end_takes c f.epoch f.body = ap (λ (o : Option FrameView). end_took c (taken_at a o)) t ∙ ap (λ (d : Bool). end_took c (if d then Some f else None)) i in
        let epoch : (end_at (e ∷ past) s.number a).epoch ≡ f.epoch = same ∙ ap (λ (z : End). z.epoch) mid_is ∙ ap (λ (q : FrameText). (end_takes c f.epoch q).epoch) at in
        inr (subst (λ n. c.epoch < n) (sym epoch) (opening_later c f (ap is_opening at) may))
    by_body same f t i Closing at m = absurd (cc)
    by_body same f t i (Bytes n) at m = inl m
    by_body same f t i (Line text) at m = inl m

    took : ((end_at (e ∷ past) s.number a).epoch ≡ mid.epoch) → (o : Option FrameView) → e.taken ≡ o → (end_took c (taken_at a o)).opened ≡ true → Goal
    took same None t m = inl m
    took same (Some f) t m = go (takes_at a f) refl m
      where
        go : (d : Bool) → takes_at a f ≡ d → (end_took c (if d then Some f else None)).opened ≡ true → Goal
        go false i m = inl m
        go true i m = by_body same f t i f.body refl m

-- an entry that takes and sends nothing leaves the ends
pub quiet_end : (past : List Entry) (e : Entry) (r : ℕ) (a : EndName) → e.taken ≡ None → e.sent ≡ [] → end_at (e ∷ past) r a ≡ end_at past r a
quiet_end past e r a none silent = go (is_of r e) refl
  where
    go : (d : Bool) → is_of r e ≡ d → end_at (e ∷ past) r a ≡ end_at past r a
    go true is = end_own r past a e is ∙ (λ i. sends_all (end_took (end_at past r a) (taken_at a (none i))) (sent_at a (silent i)))
    go false is = rw is refl

module _ (reads_back : SentAreRead) (run : Run) (repos : Each IsSetUp run.repos) (past : List Entry) (b : Entry) (a j : ℕ) (what : Job) (z : Beginning run past b a j what) where
  abbrev base : List Entry
  base = b ∷ past

  pub quietly : RunPast (set_up run) base → Quietly (set_up run a) past b j what
  quietly h = let p = part_of (set_up run) past b a h.0 z.by_a in begins_quietly (set_up run a) past p.words b p.own j what z.kind_is

  pub base_end : RunPast (set_up run) base → (r : ℕ) (n : EndName) → end_at base r n ≡ end_at past r n
  base_end h r n = let q = quietly h in quiet_end past b r n q.takes_none q.sends_none

  -- an end's opening is no earlier than it was
  pub epoch_since : (xs : List Entry) → RunPast (set_up run) (xs ++ base) → (r : ℕ) (n : EndName) → (end_at past r n).epoch ≤ (end_at (xs ++ base) r n).epoch
  epoch_since [] h r n = subst (λ (c : End). (end_at past r n).epoch ≤ c.epoch) (sym (base_end h r n)) (omega arith)
  epoch_since (e ∷ xs) h r n = go (epoch_since xs h.1 r n) (is_of r e) refl
    where
      more : (x y q : ℕ) → x ≤ y → y ≤ q → x ≤ q
      more x y q i k = omega (arith, i, k)

      go : (end_at past r n).epoch ≤ (end_at (xs ++ base) r n).epoch → (d : Bool) → is_of r e ≡ d → (end_at past r n).epoch ≤ (end_at (e ∷ xs ++ base) r n).epoch
      go old true is =
          let p = part_of (set_up run) (xs ++ base) e r h.0 is in
          more (end_at past r n).epoch (end_at (xs ++ base) r n).epoch (end_at (e ∷ xs ++ base) r n).epoch old (end_grows (set_up run r) (xs ++ base) p.words e p.own is n)
      go old false is = rw is old

  -- no client's end was open
  pub shut_first : RunPast (set_up run) base → (r : ℕ) (n : EndName) → n.client ≡ true → (end_at past r n).opened ≡ true → ⊥
  shut_first h r n client o =
      let x = open_runs reads_back (set_up run r) past (own_past run repos r past h.1).run n client o in
      subst (Member x.job) (z.idle r) x.runs

  -- **one that is open is at a later opening**
  pub opened_since : (xs : List Entry) → RunPast (set_up run) (xs ++ base) → (r : ℕ) (n : EndName) → n.client ≡ true → (end_at (xs ++ base) r n).opened ≡ true → (end_at past r n).epoch < (end_at (xs ++ base) r n).epoch
  opened_since [] h r n client o = absurd (shut_first h r n client (ap (λ (c : End). c.opened) (sym (base_end h r n)) ∙ o))
  opened_since (e ∷ xs) h r n client o = go (λ k. opened_since xs h.1 r n client k) (is_of r e) refl
    where
      first : ℕ
      first = (end_at past r n).epoch

      before : End
      before = end_at (xs ++ base) r n

      up : (x y q : ℕ) → x < y → y ≤ q → x < q
      up x y q i k = omega (arith, i, k)

      over : (x y q : ℕ) → x ≤ y → y < q → x < q
      over x y q i k = omega (arith, i, k)

      go : (before.opened ≡ true → first < before.epoch) → (d : Bool) → is_of r e ≡ d → first < (end_at (e ∷ xs ++ base) r n).epoch
      go old true is =
          let p = part_of (set_up run) (xs ++ base) e r h.0 is in
          elim (opened_or (set_up run r) (xs ++ base) p.words e p.own is n o) [
            | inl k ↦ up first before.epoch (end_at (e ∷ xs ++ base) r n).epoch (old k) (end_grows (set_up run r) (xs ++ base) p.words e p.own is n)
            | inr k ↦ over first before.epoch (end_at (e ∷ xs ++ base) r n).epoch (epoch_since xs h.1 r n) k
          ]
      go old false is = let k : before.opened ≡ true = rw is at o in rw is (old k)
