-- **Each refused job of a run has its cause in it**: no premise is left.
use Rattle.std.proofs.Common.{◌≡◌, ℕ, ◌+◌, ◌≤◌, Bool, true, false, List, [], ◌∷◌, Some, None, ◌⊎◌, inl, inr, refl, sym, ap, ◌∙◌, subst, arith}
use Rattle.std.specs.Prelude.{◌==◌, nat_le}
use Rattle.std.specs.List.{list_any}
use Rattle.std.proofs.lemmas.Bool.{true≢false}
use Rattle.std.proofs.lemmas.Bool.Decides.{nat_tests}
use Rattle.annex_base.specs.Lists.{Each, Member}
use Rattle.annex_base.proofs.Lists.{list_any_member, Each-member}
use Rattle.annex_base.proofs.Conditions.{eqb_refl}
use Rattle.step_facts.proofs.Below.{SentAreRead}
use Rattle.run_data.specs.declared.entry.Entry.{Entry}
use Rattle.run_data.specs.declared.entry.FrameView.{FrameView}
use Rattle.run_data.specs.declared.run.Run.{Run}
use Rattle.run_data.specs.Repos.{IsSetUp}
use Rattle.run_model.specs.Past.{is_of}
use Rattle.run_model.specs.Said.{is_close, message_in}
use Rattle.run_model.specs.Drops.{shuts}
use Rattle.run_model.specs.Causes.{ClosedWith, FellShort, HasCauses}
use Rattle.run_model.specs.Frames.{is_job}
use Rattle.p2p_wire.specs.declared.message.Message.TheVariants.{PutFrom}
use Rattle.node_model.specs.SetUp.{SetUp}
use Rattle.run_model.specs.States.{end_at, content, rows_at}
use Rattle.node_model.specs.Sessions.{is_closing, line_in}
use Rattle.node_model.specs.Jobs.{Puts, PutsBytes, Work, job_end, running_job}
use Rattle.run_model.specs.Run.{IsRun, RunPast, RunStep, set_up}
use Rattle.run_laws.proofs.SaidDown.{said_closing, said_is}
use Rattle.step_facts.proofs.JobSteps.{Steps, stepped_runs, turn_at}
use Rattle.job_facts.proofs.NotDropping.{moved_on}
use Rattle.dialogue_facts.proofs.EndReasons.{ShutOn}
use Rattle.cause_laws.proofs.Refusals.{stepped_own}
use Rattle.cause_laws.proofs.ClosedCauses.{ShutTold, ShutsTold, closed_grows}
use Rattle.dialogue_facts.proofs.DialogueTurns.{ClosesFor, FallsShort}
use Rattle.run_laws.proofs.HeardCauses.{SentClose, client_sent, shut_by}
use Rattle.cause_laws.proofs.ConversationClient
use Rattle.cause_laws.proofs.Conversations.{conversing}
use Rattle.past_facts.proofs.OwnRuns.{own_past}
use Rattle.cause_laws.proofs.OpenedBy.{opened_told}
use Rattle.cause_laws.proofs.ShutTold.{closed_told, took_closes}
use Rattle.dialogue_facts.proofs.Contents.{below}
use Rattle.cause_laws.proofs.PutsSizes.{sized}
use Rattle.cause_laws.proofs.Caused.{run_causes}

-- ---- a step that finds its connection closed

module _ (reads_back : SentAreRead) (run : Run) (repos : Each IsSetUp run.repos) (past : List Entry) (e : Entry) (h : RunPast (set_up run) past) (step : RunStep (set_up run) past e) (r : ℕ) where
  abbrev s : SetUp
  s = set_up run r

  module _ (w : Work) (b : Steps s past e w) where
    own : is_of r e ≡ true
    own = subst (λ (y : Entry). is_of r y ≡ true) (sym b.by.is) (eqb_refl r)

    abbrev v : Work
    v = b.by.w

    closing : ClosesFor (turn_at s past e b.by) b.by.made
    closing = (ConversationClient.keeps reads_back run repos past e h step r own (conversing reads_back run repos past h r) b.by (moved_on s past e w b)).1

    fell : (p : ℕ) → SentClose (job_end v p) e → FallsShort (turn_at s past e b.by) b.by.made.taken → FellShort (e ∷ past) r v.number p v.what.key
    fell p t short = go short.why
      where
        at : (t.g.peer ≡ p) × (t.g.slot ≡ v.slot) × (t.g.up ≡ true)
        at = client_sent p v.slot t.g t.of_end

        is_shut : is_close (message_in t.g.body) ≡ true
        is_shut = ap (λ c. is_close (message_in c)) t.body_is ∙ ap is_close said_closing

        closes : list_any (shuts p) e.sent ≡ true
        closes = list_any_member (shuts p) e.sent t.g t.sent (let q : (t.g.peer == p) ≡ true = ap (λ n. n == p) at.0 ∙ eqb_refl p in rw (q, at.2, is_shut) refl)

        mine : is_job r v.number e ≡ true
        mine = stepped_own s past e b.by own

        low : (place at left n : ℕ) → place ≡ at + n → nat_le n left ≡ true → place ≤ at + left
        low place at left n is l = grind (arith, nat_tests)

        go : ((f : FrameView) × (b.by.made.taken ≡ Some f) × (line_in f.body ≡ Some (PutFrom short.place)))
            ⊎ ((peer : ℕ) × (start : ℕ) × (at : ℕ) × (left : ℕ) × (n : ℕ) × (b.by.w.phase ≡ PutsBytes peer start at left) × (nat_le n left ≡ true) × (b.by.made.taken ≡ None) × (short.place ≡ at + n))
            → FellShort (e ∷ past) r b.by.w.number p b.by.w.what.key
        go (inl x) = record {
          entry = e;
          before = past;
          occurs = inl (refl, refl);
          own = mine;
          closes = closes;
          place = short.place;
          short = below (content past r b.by.w.what.key) short.place short.place short.short (omega arith);
          why' = inl (x.0, ap (λ (y : Entry). y.taken) b.by.is ∙ x.1, said_is x.0.body (PutFrom short.place) x.2);
        }
        go (inr x) =
            let old = sized reads_back run repos past h r b.by.w (stepped_runs s past e b.by) x.0 x.1 x.2 x.3 x.5 in
            record {
              entry = e;
              before = past;
              occurs = inl (refl, refl);
              own = mine;
              closes = closes;
              place = x.2 + x.3;
              short = below (content past r b.by.w.what.key) short.place (x.2 + x.3) short.short (low short.place x.2 x.3 x.4 x.8 x.6);
              why' = inr (old.entry, old.before, old.occurs, old.own, old.size_is);
            }

    told : (z : ShutOn (rows_at past r) v e) → ClosedWith (e ∷ past) r v.number z.peer ⊎ ((v.part ≡ Puts) × FellShort (e ∷ past) r v.number z.peer v.what.key)
    told z = go (end_at past r (job_end v z.peer)).opened refl
      where
        sent : SentClose (job_end v z.peer) e → ClosesFor (turn_at s past e b.by) b.by.made → ClosedWith (e ∷ past) r v.number z.peer ⊎ ((v.part ≡ Puts) × FellShort (e ∷ past) r v.number z.peer v.what.key)
        sent t (inl all) =
            let none = Each-member (λ g. is_closing g.body ≡ false) b.by.made.sent t.g all (subst (Member t.g) (ap (λ (y : Entry). y.sent) b.by.is) t.sent) in
            absurd (true≢false (sym (ap is_closing t.body_is) ∙ none))
        sent t (inr short) = inr (short.puts, fell z.peer t short)

        go : (c : Bool) → (end_at past r (job_end v z.peer)).opened ≡ c → ClosedWith (e ∷ past) r v.number z.peer ⊎ ((v.part ≡ Puts) × FellShort (e ∷ past) r v.number z.peer v.what.key)
        go false o = inl (closed_grows r e past (running_job v) z.peer (closed_told reads_back run repos past h r v (stepped_runs s past e b.by) z.peer z.on o))
        go true o = elim (shut_by (job_end v z.peer) (end_at past r (job_end v z.peer)) e o z.closed) [
          | inl t ↦ inl (took_closes past e r v.number z.peer v.slot (stepped_own s past e b.by own) (opened_told reads_back s past (own_past run repos r past h) v (stepped_runs s past e b.by) z.peer o) t)
          | inr t ↦ sent t closing
        ]

  pub shut_told : ShutTold (set_up run r) past e
  shut_told w b z = told w b z

module _ (reads_back : SentAreRead) (run : Run) (repos : Each IsSetUp run.repos) where
  pub shuts_told : (past : List Entry) → RunPast (set_up run) past → (r : ℕ) → ShutsTold (set_up run r) past
  shuts_told [] h r = tt
  shuts_told (e ∷ past) h r = (shut_told reads_back run repos past e h.1 h.0 r, shuts_told past h.1 r)

-- **each refused job of a run has its cause**
pub refusals_caused : SentAreRead → (run : Run) → IsRun run → HasCauses run
refusals_caused reads_back run h = run_causes reads_back run h (λ r past k. record { shut' = shuts_told reads_back run h.repos past k r })
