-- A move that is still at its transfer, though its entries tell that this is done, is to end.
use Rattle.std.proofs.Common.{◌≡◌, ◌≢◌, ℕ, Bool, true, false, List, [], ◌∷◌, ◌++◌, Option, Some, None, ◌⊎◌, inl, inr, refl, sym, ap, ◌∙◌, subst}
use Rattle.std.specs.Prelude.{length, slice_get, not, ◌&&◌, ◌||◌, ◌==◌, fold, option_map}
use Rattle.std.proofs.lemmas.Bool.{and_parts}
use Rattle.annex_base.proofs.Conditions.{if_either}
use Rattle.run_data.specs.declared.entry.Entry.{Entry}
use Rattle.run_data.specs.declared.entry.EntryKind.{EntryKind}
use Rattle.run_data.specs.declared.entry.EntryKind.TheVariants.{Gain, Share, Bar, Gone, Order, Talk, Fault, End as ends_job}
use Rattle.run_data.specs.declared.entry.FrameView.{FrameView}
use Rattle.run_data.specs.declared.entry.FrameText.{FrameText}
use Rattle.run_data.specs.declared.entry.FrameText.TheVariants.{Opening, Closing, Bytes, Line}
use Rattle.run_data.specs.declared.job.Outcome.{Outcome}
use Rattle.run_data.specs.declared.job.Outcome.TheVariants as outcomes
use Rattle.run_data.specs.declared.job.SourceFailure.{SourceFailure}
use Rattle.run_data.specs.declared.job.SourceCause.TheVariants as sources
use Rattle.node_model.specs.Rows.{option_is}
use Rattle.run_model.specs.Frames.{last_request, said_of, up_of, way_of}
use Rattle.run_model.specs.Logs.{has_it, has_stepped, hears_has_it, is_quiet, starts_drop}
use Rattle.run_model.specs.Said.{Said, message_in, said_line}
use Rattle.p2p_wire.specs.declared.message.Message.{Message}
use Rattle.p2p_wire.specs.declared.message.Message.TheVariants.{AlreadyHave, Success}
use Rattle.p2p_wire.specs.Messages.{message_of}
use Rattle.node_model.specs.Ends.{EndName, end_after, end_sends, end_took, frames, sent_at, taken_at}
use Rattle.node_model.specs.Sessions.{line_in}
use Rattle.node_model.specs.Jobs
use Rattle.node_model.specs.Jobs.{Drops, Fresh, Gets, Part, Phase, Puts, PutsAnswer, PutsOffer, Work, claims, closed_part, first_look, hears_frame, is_move, job_end, learns, listens, partner, quiet, talks, talks_on, after_frame, after_line, after_transfer}
use Rattle.node_model.specs.Look.{Effect}
use Rattle.node_model.specs.JobStep.{Turn, end_with, is_there, me}
use Rattle.node_model.specs.TransferStep.{next_source}
use Rattle.node_model.specs.Turns.{by_partner}
use Rattle.node_model.specs.Found.{IsJobEntry}
use Rattle.step_facts.proofs.JobFacts.{partner_found}
use Rattle.job_facts.proofs.PartTurns.{HasIt}
use Rattle.step_facts.proofs.ServerEnds.{sent_same}
use Rattle.step_facts.proofs.ClientTurns.{made_entry, moved, rows_of, talker}
use Rattle.job_facts.proofs.TransferMade.{QuietBy, SaysHas, Stuck, by_hears, by_quiet}

-- ---- what tells that a transfer is done

quiet_was : (o : Option FrameView) (fs : List FrameView) → is_quiet o fs ≡ true → (o ≡ None) × (fs ≡ [])
quiet_was None [] e = (refl, refl)
quiet_was None (f ∷ fs) e = absurd (cc)
quiet_was (Some f) fs e = absurd (cc)

has_was : (o : Option Message) (asked : Option Said) → has_it (said_line o) asked ≡ true → (m : Message) × (o ≡ Some m) × SaysHas m
has_was (Some AlreadyHave) asked e = (AlreadyHave, refl, tt)
has_was (Some Success) asked e = (Success, refl, tt)
has_was o asked e = absurd (cc)

body_has : (body : FrameText) (asked : Option Said) → has_it (message_in body) asked ≡ true → (m : Message) × (line_in body ≡ Some m) × SaysHas m
unfolding message_in
body_has (Line text) asked e = has_was (message_of text) asked e
body_has body asked e = absurd (cc)

abbrev TakesHas : Option FrameView → Type 0
TakesHas taken = (f : FrameView) × (taken ≡ Some f) × ((m : Message) × (line_in f.body ≡ Some m) × SaysHas m)

hears_was : (past : List Entry) (r : ℕ) (taken : Option FrameView) → hears_has_it past r taken ≡ true → TakesHas taken
hears_was past r None e = absurd (cc)
hears_was past r (Some f) e =
    (f, refl, body_has f.body (option_map said_of (last_request past (up_of (way_of r f)))) (and_parts (not f.up) (has_it (message_in f.body) (option_map said_of (last_request past (up_of (way_of r f))))) e).1)

-- ---- what its work is then

-- as it talks, a work claims and learns, and else is what it was
claims_is : (w : Work) (part : Part) (phase : Phase) → (b : Bool) × (claims w part phase ≡ record w { fills = b })
claims_is w Gets Fresh = (true, refl)
claims_is w part phase = (w.fills, refl)

learns_is : (w : Work) (phase : Phase) (taken : Option FrameView) → (n : ℕ) × (learns w phase taken ≡ record w { version = n })
learns_is w (Jobs.Greets peer) (Some f) = if_either (λ (x : Work). (n : ℕ) × (x ≡ record w { version = n })) (option_is w.what.peer peer)
    (record w { version = Jobs.version_said w.version (line_in f.body) }) w (λ e. (Jobs.version_said w.version (line_in f.body), refl)) (λ e. (w.version, refl))
learns_is w phase taken = (w.version, refl)

abbrev HasPeer : Work → Type 0
HasPeer w = (peer : ℕ) × (w.what.peer ≡ Some peer)

one_asked : (peer : ℕ) (xs : List SourceFailure) (x : SourceFailure) → slice_get (peer ∷ []) (length (xs ++ x ∷ [])) ≡ None
one_asked peer [] x = refl
one_asked peer (y ∷ ys) x = refl

closed_stuck : (r : ℕ) (w : Work) (peer : ℕ) (part : Part) → w.part ≡ part → part ≢ Drops → HasPeer w → Stuck (closed_part r w peer part)
closed_stuck r w peer Gets is apart one = inr (is, refl, (one.0, one.1, one_asked one.0 w.causes (record { repo = peer; cause = sources.Closed })))
closed_stuck r w peer Puts is apart one = inl refl
closed_stuck r w peer Drops is apart one = absurd (apart refl)

transferred_drops : (w : Work) (outcome : Outcome) → is_move w.what.kind ≡ true → (after_transfer w outcome).part ≡ Drops
transferred_drops w outcome move = rw move refl

look_stuck : (r : ℕ) (w : Work) (here : Bool) (bar : Option ℕ) → is_move w.what.kind ≡ true → w.part ≡ Gets → (here ≡ true) ⊎ ((peer : ℕ) × (w.what.peer ≡ Some peer) × (slice_get (peer ∷ []) (length w.causes) ≡ None))
    → (first_look r w Gets here bar).part ≢ Drops → Stuck (first_look r w Gets here bar)
look_stuck r w true bar move gets by apart = absurd (apart (transferred_drops w (outcomes.Got None None) move))
look_stuck r w false bar move gets (inl no_here) apart = absurd (cc)
look_stuck r w false bar move gets (inr none) apart = inr (gets, refl, none)

listens_drops : (w : Work) (phase : Phase) (m : Message) → is_move w.what.kind ≡ true → HasIt phase m → (listens w phase m).part ≡ Drops
listens_drops w (PutsOffer peer) AlreadyHave move has = transferred_drops w (outcomes.Copied None) move
listens_drops w (PutsAnswer peer start) Success move has = transferred_drops w (outcomes.Copied (Some start)) move
listens_drops w phase m move has = absurd has

took_drops : (w : Work) (body : FrameText) (m : Message) → is_move w.what.kind ≡ true → line_in body ≡ Some m → HasIt w.phase m → (after_frame w body).part ≡ Drops
took_drops w (Line text) m move is has = ap (λ o. (after_line w o).part) is ∙ listens_drops w w.phase m move has
took_drops w Opening m move is has = absurd (cc)
took_drops w Closing m move is has = absurd (cc)
took_drops w (Bytes n) m move is has = absurd (cc)

module _ (t : Turn) (m : Effect) (does : by_partner t (partner t.w.what.peer t.w.phase) ≡ Some m) (apart : t.w.part ≢ Drops) (move : is_move t.w.what.kind ≡ true) (one : HasPeer t.w) where
  abbrev e : Entry
  e = made_entry t m

  abbrev Tells : Type 0
  Tells = ((m.taken ≡ None) × (m.sent ≡ [])) ⊎ TakesHas m.taken

  -- for any work that talks as this one
  module _ (fills : Bool) (version : ℕ) where
    abbrev y : Work
    y = record t.w { fills = fills; version = version }

    abbrev IsStuck : Work → Type 0
    IsStuck x = x.part ≢ Drops → Stuck x

    hears_it : m.sent ≡ [] → (taken : Option FrameView) → m.taken ≡ taken → talks (rows_of t) (me t) y e m.sent ≡ hears_frame (rows_of t) (me t) y taken
    hears_it none taken is = ap (talks (rows_of t) (me t) y e) none ∙ ap (hears_frame (rows_of t) (me t) y) is

    alone_stuck : (j : ℕ) → m.kind ≡ Talk (Some j) → partner t.w.what.peer t.w.phase ≡ None → Tells → IsStuck (talks (rows_of t) (me t) y e m.sent)
    alone_stuck j kind on (inl none) = by (by_quiet t apart m (partner t.w.what.peer t.w.phase) refl does j kind none.0 none.1)
      where
        by : QuietBy t → IsStuck (talks (rows_of t) (me t) y e m.sent)
        by (inl x) = absurd (let no_peer : None ≡ Some x.0 = sym on ∙ x.1 in cc)
        by (inr x) =
            let is : talks (rows_of t) (me t) y e m.sent ≡ first_look (me t) y Gets (is_there t) (t.bar t.w.what.key) = hears_it none.1 None none.0 ∙ ap (quiet (rows_of t) (me t) y) x.1
            ∙ ap (λ part. first_look (me t) y part (is_there t) (t.bar t.w.what.key)) x.0 in
            subst IsStuck (sym is) (look_stuck (me t) y (is_there t) (t.bar t.w.what.key) move x.0 (found x.2))
          where
            found : (is_there t ≡ true) ⊎ (next_source t ≡ None) → (is_there t ≡ true) ⊎ ((peer : ℕ) × (t.w.what.peer ≡ Some peer) × (slice_get (peer ∷ []) (length t.w.causes) ≡ None))
            found (inl there) = inl there
            found (inr none) = inr (one.0, one.1, sym (ap (λ o. slice_get (Rattle.node_model.specs.TransferStep.sources t o) (length t.w.causes)) one.1) ∙ none)
    alone_stuck j kind on (inr has) = elim ((partner_found t m (partner t.w.what.peer t.w.phase) refl does).frame) [
      | inl none ↦ absurd (let no_frame : None ≡ Some has.0 = sym none ∙ has.1 in cc)
      | inr x ↦ absurd (let no_peer : None ≡ Some x.peer = sym on ∙ x.partner_is in cc)
    ]

    module _ (peer : ℕ) (on : partner t.w.what.peer t.w.phase ≡ Some peer) where
      abbrev a : EndName
      a = job_end t.w peer

      still_open : m.taken ≡ None → m.sent ≡ [] → (end_after a (end_with t peer) e).opened ≡ (end_with t peer).opened
      still_open taken sent i = (fold (λ c f. end_sends c f.body) (end_took (end_with t peer) (taken_at a (taken i))) (sent_at a (sent i))).opened

      closes : m.sent ≡ frames a (end_with t peer) (Closing ∷ []) → (end_after a (end_with t peer) e).opened ≡ false
      closes sent = ap (λ fs. (fold (λ c f. end_sends c f.body) (end_took (end_with t peer) (taken_at a m.taken)) fs).opened) (ap (sent_at a) sent ∙ sent_same a (end_with t peer) (Closing ∷ []))

      open_stuck : (j : ℕ) → m.kind ≡ Talk (Some j) → Tells → (end_after a (end_with t peer) e).opened ≡ true → IsStuck (talks (rows_of t) (me t) y e m.sent)
      open_stuck j kind (inl none) open' = by (by_quiet t apart m (partner t.w.what.peer t.w.phase) refl does j kind none.0 none.1)
        where
          by : QuietBy t → IsStuck (talks (rows_of t) (me t) y e m.sent)
          by (inl x) =
              let both : Some peer ≡ Some x.0 = sym on ∙ x.1 in
              let same : x.0 ≡ peer = cc in
              let shut : (end_with t peer).opened ≡ false = subst (λ p. (end_with t p).opened ≡ false) same x.2 in
              absurd (let no_open : true ≡ false = sym open' ∙ still_open none.0 none.1 ∙ shut in cc)
          by (inr x) = absurd (let no_peer : None ≡ Some peer = sym (ap (partner t.w.what.peer) x.1) ∙ on in cc)
      open_stuck j kind (inr has) open' = by (by_hears t apart m peer has.0 has.2.0 on (ap (by_partner t) (sym on) ∙ does) has.1 has.2.1 has.2.2)
        where
          by : (HasIt t.w.phase has.2.0 × (m.sent ≡ [])) ⊎ (m.sent ≡ frames (job_end t.w peer) (end_with t peer) (Closing ∷ [])) → IsStuck (talks (rows_of t) (me t) y e m.sent)
          by (inl x) = λ off. absurd (off (ap (λ (z : Work). z.part) (hears_it x.1 (Some has.0) has.1) ∙ took_drops y has.0.body has.2.0 move has.2.1 x.0))
          by (inr x) = absurd (let no_open : true ≡ false = sym open' ∙ closes x in cc)

      on_stuck : (j : ℕ) → m.kind ≡ Talk (Some j) → Tells → IsStuck (talks_on (rows_of t) (me t) y e (Some peer))
      on_stuck j kind tells = if_either IsStuck (end_after (job_end y peer) (t.ends (job_end y peer)) e).opened (talks (rows_of t) (me t) y e m.sent) (closed_part (me t) y peer y.part)
          (λ h. open_stuck j kind tells h) (λ h off. closed_stuck (me t) y peer t.w.part refl apart one)

    talk_stuck : (j : ℕ) → m.kind ≡ Talk (Some j) → Tells → IsStuck (talks_on (rows_of t) (me t) y e (partner t.w.what.peer t.w.phase))
    talk_stuck j kind tells = go (partner t.w.what.peer t.w.phase) refl
      where
        go : (p : Option ℕ) → partner t.w.what.peer t.w.phase ≡ p → IsStuck (talks_on (rows_of t) (me t) y e p)
        go None on = alone_stuck j kind on tells
        go (Some peer) on = on_stuck peer on j kind tells

  -- where the entry tells that the transfer is done, the move comes to its drop, or is to end
  pub kind_stuck : (past : List Entry) (r : ℕ) (kind : EntryKind) → m.kind ≡ kind → IsJobEntry t m kind → ((j : ℕ) (outcome : Outcome) → kind ≢ ends_job j outcome) → starts_drop past r t.w.number e kind ≡ true
      → (moved t m kind).part ≢ Drops → Stuck (moved t m kind)
  kind_stuck past r (Gain by size key) is k goes_on starts off =
      absurd (off (ap (λ p. (Jobs.after_gain t.w p).part) k.phase_is ∙ transferred_drops t.w (outcomes.Got (Some k.peer) (Some k.start)) move))
  kind_stuck past r (Talk (Some j)) is k goes_on starts off =
      let first = claims_is t.w t.w.part t.w.phase in
      let then' = learns_is (claims t.w t.w.part t.w.phase) t.w.phase m.taken in
      let talks_as : talker t m.taken ≡ record t.w { fills = first.0; version = then'.0 } = then'.1 ∙ ap (λ (x : Work). record x { version = then'.0 }) first.1 in
      subst (λ x. (talks_on (rows_of t) (me t) x e (partner t.w.what.peer t.w.phase)).part ≢ Drops → Stuck (talks_on (rows_of t) (me t) x e (partner t.w.what.peer t.w.phase))) (sym talks_as)
      (talk_stuck first.0 then'.0 j is tells) off
    where
      at : ((is_quiet m.taken m.sent && not (has_stepped past r t.w.number)) || hears_has_it past r m.taken) ≡ true
      at = (and_parts (j == t.w.number) ((is_quiet m.taken m.sent && not (has_stepped past r t.w.number)) || hears_has_it past r m.taken) starts).1

      tells : Tells
      tells = go (is_quiet m.taken m.sent) refl at
        where
          go : (b : Bool) → is_quiet m.taken m.sent ≡ b → ((b && not (has_stepped past r t.w.number)) || hears_has_it past r m.taken) ≡ true → Tells
          go true is h = inl (quiet_was m.taken m.sent is)
          go false is h = inr (hears_was past r m.taken h)
  kind_stuck past r (Share hold end by key) is k goes_on starts off = absurd (cc)
  kind_stuck past r (Bar j need key) is k goes_on starts off = absurd (cc)
  kind_stuck past r (Gone by key) is k goes_on starts off = absurd (cc)
  kind_stuck past r (Order j peer deadline need key) is k goes_on starts off = absurd (cc)
  kind_stuck past r (Fault call by) is k goes_on starts off = absurd (cc)
  kind_stuck past r (ends_job j outcome) is k goes_on starts off = absurd (goes_on j outcome refl)
  kind_stuck past r kind is k goes_on starts off = absurd k
