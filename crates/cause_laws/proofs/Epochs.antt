-- Of the openings of a connection: nothing is on the ways of one that is to come, and the server is at none later than the client.
use Rattle.std.proofs.Common.{◌≡◌, ◌≢◌, ℕ, ◌<◌, ◌≤◌, Bool, true, false, List, [], ◌∷◌, Option, Some, None, inl, inr, refl, sym, ap, ◌∙◌, subst, arith}
use Rattle.std.specs.Prelude.{◌==◌, slice_get, zero}
use Rattle.std.proofs.lemmas.Bool.{eqb-true}
use Rattle.annex_base.specs.Lists.{Each}
use Rattle.step_facts.proofs.Below.{SentAreRead}
use Rattle.run_data.specs.declared.entry.Entry.{Entry}
use Rattle.run_data.specs.declared.entry.FrameView.{FrameView}
use Rattle.run_data.specs.declared.entry.FrameText.{FrameText}
use Rattle.run_data.specs.declared.entry.FrameText.TheVariants.{Opening, Closing, Bytes, Line}
use Rattle.run_data.specs.declared.run.Run.{Run}
use Rattle.run_data.specs.Repos.{IsSetUp}
use Rattle.run_model.specs.Past.{is_of}
use Rattle.node_model.specs.Rows.{option_is}
use Rattle.run_model.specs.Said.{is_request}
use Rattle.run_model.specs.Frames.{FlyingFrame, MayTake, Way, frames_sent, taken_count, taker_of}
use Rattle.node_model.specs.Ends.{End, EndName, end_takes, server_end}
use Rattle.run_model.specs.States.{end_at}
use Rattle.run_model.specs.Run.{RunPast, set_up}
use Rattle.run_laws.proofs.WayCounts.{out_sender-is, out_taker-is, way_in, way_out}
use Rattle.step_facts.proofs.ServerEnds.{TakesHere, at_server}
use Rattle.step_facts.proofs.EndMoves.{all_epoch, end_gave, end_own, end_shuts, end_took-is, gave_none, shuts_none, took_none}
use Rattle.step_facts.proofs.EndEpochs.{end_grows, from_end, within}
use Rattle.step_facts.proofs.Flights.{Sending, sending}
use Rattle.past_facts.proofs.Turns
use Rattle.past_facts.proofs.Told.{on_parts, prefixes, sends_member, sends_on}
use Rattle.run_laws.proofs.SessionOwn.{way_at}
use Rattle.run_laws.proofs.FromStep.{message_past}
use Rattle.past_facts.proofs.OwnRuns.{Part, own_past, part_of}
use Rattle.cause_laws.proofs.Queues.{Queue, empty_queue}

-- the client's end of a connection
abbrev pub client_end : ℕ → ℕ → EndName
client_end p q = record { peer = p; slot = q; client = true }

pub not_both : (o : Option ℕ) (a b : ℕ) → option_is o a ≡ true → a ≢ b → option_is o b ≡ false
not_both None a b p apart = refl
not_both (Some n) a b p apart = go (n == b) refl
  where
    go : (c : Bool) → (n == b) ≡ c → c ≡ false
    go true e = absurd (apart (sym (eqb-true n a p) ∙ eqb-true n b e))
    go false e = refl

module _ (reads_back : SentAreRead) (run : Run) (repos : Each IsSetUp run.repos) where
  -- what was sent is of no later opening
  pub sent_epoch : (past : List Entry) → RunPast (set_up run) past → (r : ℕ) (a : EndName) (n k : ℕ) (it : FlyingFrame) → slice_get (frames_sent past (way_out r a n)) k ≡ Some it → n ≤ (end_at past r a).epoch
  sent_epoch past h r a n k it e =
      let w = way_out r a n in
      let z : Sending past w it = sending past w k it e in
      let parts = on_parts w (taker_of w) it.frame (sends_on w it.entry it.frame z.sends) in
      let at : from_end it.frame ≡ a = (λ i. record { peer = (parts.peer_is ∙ out_taker-is r a n) i; slot = parts.slot_is i; client = parts.up_is i }) in
      let own : is_of r it.entry ≡ true = ap (λ m. is_of m it.entry) (sym (out_sender-is r a n)) ∙ z.repo_is in
      subst (λ m. m ≤ (end_at past r a).epoch) parts.epoch_is
      ((within (set_up run r) a past (own_past run repos r past h).run).sent_in it.entry it.before it.frame z.occurs own (sends_member w it.entry it.frame z.sends) at)

  pub none_sent : (past : List Entry) → RunPast (set_up run) past → (r : ℕ) (a : EndName) (n : ℕ) → (end_at past r a).epoch < n → frames_sent past (way_out r a n) ≡ []
  none_sent past h r a n later = go (frames_sent past (way_out r a n)) refl
    where
      go : (xs : List FlyingFrame) → frames_sent past (way_out r a n) ≡ xs → xs ≡ []
      go [] is = refl
      go (x ∷ xs) is = absurd (let low = sent_epoch past h r a n zero x (ap (λ (ys : List FlyingFrame). slice_get ys zero) is) in less n (end_at past r a).epoch low later)
        where
          less : (n c : ℕ) → n ≤ c → c < n → ⊥
          less n c i j = omega (arith, i, j)

  pub none_yet : (past : List Entry) → RunPast (set_up run) past → (r : ℕ) (a : EndName) (n : ℕ) → (end_at past r a).epoch < n → Queue past (way_out r a n) []
  none_yet past h r a n later = empty_queue past (way_out r a n) (none_sent past h r a n later)
      (Turns.taken_of is_request past (way_out r a n) (prefixes run.repos past (way_out r a n) (message_past reads_back run repos past h))).within

  -- an Opening that the server takes was sent by the client
  pub opening_sent : (past : List Entry) → RunPast (set_up run) past → (r p q n : ℕ) (f : FrameView) → MayTake past (way_in p (server_end r q) n) f → n ≤ (end_at past r (client_end p q)).epoch
  opening_sent past h r p q n f t = sent_epoch past h r (client_end p q) n (taken_count past (way_out r (client_end p q) n)) t.it t.next

  -- **the server's opening is no later than the client's**
  pub follows : (past : List Entry) → RunPast (set_up run) past → (r p q : ℕ) → r ≢ p → (end_at past p (server_end r q)).epoch ≤ (end_at past r (client_end p q)).epoch
  follows [] h r p q apart = omega arith
  follows (e ∷ past) h r p q apart = by (follows past h.1 r p q apart) (is_of p e) refl
    where
      a : EndName
      a = client_end p q

      b : EndName
      b = server_end r q

      client : (c : Bool) → is_of r e ≡ c → (end_at past r a).epoch ≤ (end_at (e ∷ past) r a).epoch
      client true own = let x = part_of (set_up run) past e r h.0 own in end_grows (set_up run r) past x.words e x.own own a
      client false other = rw other (omega arith)

      more : (x y z : ℕ) → x ≤ y → y ≤ z → x ≤ z
      more x y z i j = omega (arith, i, j)

      server : (end_at past p b).epoch ≤ (end_at past r a).epoch → is_of p e ≡ true → (end_at (e ∷ past) p b).epoch ≤ (end_at past r a).epoch
      server was own = elim (at_server (set_up run p) past x.words e r q x.own) [
        | inl z ↦ subst (λ n. n ≤ (end_at past r a).epoch) (sym (ap (λ (c : End). c.epoch) (end_own p past b e own ∙ end_shuts b (end_at past p b) e z) ∙ all_epoch (end_at past p b) _ (shuts_none _ z.closes))) was
        | inr z ↦ elim z [
          | inl y ↦ subst (λ n. n ≤ (end_at past r a).epoch) (sym (ap (λ (c : End). c.epoch) (end_own p past b e own ∙ end_took-is (set_up run p) past b e y) ∙ all_epoch (end_takes (end_at past p b) y.f.epoch y.f.body) _ (took_none (set_up run p) past b e y))) (takes was y y.f.body refl)
          | inr y ↦ subst (λ n. n ≤ (end_at past r a).epoch) (sym (ap (λ (c : End). c.epoch) (end_own p past b e own ∙ end_gave (set_up run p) past b e y) ∙ all_epoch (end_at past p b) _ (gave_none (set_up run p) past b e y))) was
        ]
      ]
        where
          x : Part (set_up run) past p e
          x = part_of (set_up run) past e p h.0 own

          takes : (end_at past p b).epoch ≤ (end_at past r a).epoch → (y : TakesHere (set_up run p) past b e) → (body : FrameText) → y.f.body ≡ body → (end_takes (end_at past p b) y.f.epoch body).epoch ≤ (end_at past r a).epoch
          takes was y Opening is = opening_sent past h.1 r p q y.f.epoch y.f (subst (λ (w : Way). MayTake past w y.f) (way_at p b y.f y.of_end) (x.frames.takes y.f y.taken_is))
          takes was y Closing is = was
          takes was y (Bytes n) is = was
          takes was y (Line text) is = was

      by : (end_at past p b).epoch ≤ (end_at past r a).epoch → (c : Bool) → is_of p e ≡ c → (end_at (e ∷ past) p b).epoch ≤ (end_at (e ∷ past) r a).epoch
      by was true own = more (end_at (e ∷ past) p b).epoch (end_at past r a).epoch (end_at (e ∷ past) r a).epoch (server was own) (client (is_of r e) refl)
      by was false other = more (end_at (e ∷ past) p b).epoch (end_at past r a).epoch (end_at (e ∷ past) r a).epoch (rw other was) (client (is_of r e) refl)
