-- A hold is released only by the end of the job that it was vouched to.
use Rattle.std.proofs.Common.{◌≡◌, ℕ, true, List, Some, inl, inr, refl, sym, ap, ◌∙◌, subst, arith}
use Rattle.std.proofs.lemmas.Bool.{and_parts}
use Rattle.std.proofs.lemmas.Option.{same_Some}
use Rattle.annex_base.specs.Lists.{Member}
use Rattle.run_data.specs.declared.entry.By.{By}
use Rattle.run_data.specs.declared.entry.By.TheVariants.{Peer}
use Rattle.run_data.specs.declared.entry.Entry.{Entry}
use Rattle.run_data.specs.declared.job.Outcome.{Outcome}
use Rattle.run_data.specs.declared.entry.EntryKind.{EntryKind}
use Rattle.run_data.specs.declared.entry.EntryKind.TheVariants.{Share, End}
use Rattle.run_data.specs.declared.entry.FrameView.{FrameView}
use Rattle.run_data.specs.declared.run.RepoView.{RepoView}
use Rattle.run_model.specs.Past.{Occurs, is_of}
use Rattle.node_model.specs.Rows.{option_is}
use Rattle.run_model.specs.Frames.{Way, on_way, sender_of, taken_count, way_of}
use Rattle.node_model.specs.Slots.{job_of}
use Rattle.run_model.specs.Drops.{Lock, is_done, vouch, vouches}
use Rattle.past_facts.proofs.Own.{MayRelease, Meets, MessagePast, uses}
use Rattle.step_facts.proofs.Flights.{occurs_always, occurs_earlier, sending}
use Rattle.past_facts.proofs.OwnFacts.{AskedBy, VouchesBy, asked_by, vouches_by}
use Rattle.past_facts.proofs.Occurring.{occurs_done, occurs_same, same_job, vouches_occur}
use Rattle.past_facts.proofs.Told.{message_at, own_at, sends_member, sender_way, up_is, uses_sent}
use Rattle.step_facts.proofs.Plain.{option_same}
use Rattle.past_facts.proofs.Changes.{peer_no_job}

client_up : (r : ℕ) (f : FrameView) → f.up ≡ true → (way_of r f).client ≡ f.peer
client_up r f h = rw h refl

share_parts : (h i e f : ℕ) (o p : By) (k l : List ℕ) → Share h e o k ≡ Share i f p l → (h ≡ i) × (o ≡ p)
share_parts h i e f o p k l eq = (cc, cc)

end_job_of : (kind : EntryKind) (j : ℕ) (outcome : Outcome) → kind ≡ End j outcome → job_of kind ≡ Some j
end_job_of kind j outcome h = ap job_of h

pub released : (repos : List RepoView) (past : List Entry) (e : Entry) (r hold : ℕ) (key : List ℕ) → MessagePast repos past → Meets repos past e → is_of r e ≡ true → MayRelease r past e hold key
    → (a j since : ℕ) (owner : By) (k : List ℕ) → Member (Lock hold since owner k) (vouches past r a j) → is_done past a j ≡ true
released repos past e r hold key run m is rel a j since owner k member = finish found.0 found.1 found.2 found.3
  where
    w : Way
    w = way_of r rel.f

    found : (x : Entry) × (p : List Entry) × (Occurs past x p) × Member (Lock hold since owner k) (vouch p x r a j)
    found = vouches_occur past r a j (Lock hold since owner k) member

    -- the share that took the job's request
    by_share : (p : List Entry) → Occurs past rel.share p → VouchesBy p rel.share r a j (Lock hold since owner k) → is_done past a j ≡ true
    by_share p o (end, kind, inl own) =
        let parts = share_parts hold hold rel.end end (Peer rel.f.peer rel.f.slot) owner key k (sym rel.share_is ∙ kind) in
        absurd (peer_no_job rel.f.peer rel.f.slot j (parts.1 ∙ own.1))
    by_share p o (end, kind, inr (peer, slot, owner_is, yes', at)) = by_asker (asked_by repos p rel.share r a j rel.taken_then (occurs_always (Meets repos) past rel.share p run o) rel.own rel.took yes').0
      where
        by_asker : AskedBy p r a j rel.taken_then → is_done past a j ≡ true
        by_asker t =
            let w' = way_of r rel.taken_then in
            let parts = and_parts (is_of a t.it.entry) (option_is (job_of t.it.entry.kind) j) t.is_asked in
            let earlier : Occurs past t.it.entry t.it.before = occurs_earlier past rel.share t.it.entry p t.it.before o t.sending.occurs in
            let client : w.client ≡ rel.f.peer = client_up r rel.f rel.from_client in
            let from_peer : is_of rel.f.peer t.it.entry ≡ true = subst (λ q. is_of q t.it.entry ≡ true) (ap (λ (v : Way). sender_of v) rel.same_epoch ∙ sender_way r rel.f) t.sending.repo_is in
            let a_is : rel.f.peer ≡ a = same_Some rel.f.peer a (sym (option_same t.it.entry.repo rel.f.peer from_peer) ∙ option_same t.it.entry.repo a parts.0) in
            let uses_first : uses w t.it.entry ≡ true = uses_sent w t.it.entry t.it.frame (subst (λ v. Member t.it.frame (on_way v t.it.entry)) (rel.same_epoch ∙ sym (up_is r rel.f rel.from_client)) t.sending.sends) in
            by_unlock parts.0 (option_same (job_of t.it.entry.kind) j parts.1) earlier (client ∙ a_is) a_is uses_first
          where
            by_unlock : is_of a t.it.entry ≡ true → job_of t.it.entry.kind ≡ Some j → Occurs past t.it.entry t.it.before → w.client ≡ a → rel.f.peer ≡ a → uses w t.it.entry ≡ true → is_done past a j ≡ true
            by_unlock is_a job earlier client a_is uses_first =
                let u = m.frames r rel.f is rel.takes_it in
                let s = sending past w (taken_count past w) u.it u.next in
                let is_u : is_of a u.it.entry ≡ true = subst (λ q. is_of q u.it.entry ≡ true) (sender_way r rel.f ∙ a_is) s.repo_is in
                let own = own_at repos past u.it.entry u.it.before a run s.occurs is_u in
                let end = (own.sends u.it.frame (sends_member w u.it.entry u.it.frame s.sends)).unlock key (message_at u.it.frame.body rel.f.body _ u.body_is rel.asked_is) in
                let uses_last : uses w u.it.entry ≡ true = uses_sent w u.it.entry u.it.frame (subst (λ v. Member u.it.frame (on_way v u.it.entry)) (sym (up_is r rel.f rel.from_client)) s.sends) in
                let end_job : job_of u.it.entry.kind ≡ Some end.0 = end_job_of u.it.entry.kind end.0 end.1 end.2.0 in
                let same : end.0 ≡ j = same_job repos past w u.it.entry t.it.entry u.it.before t.it.before a end.0 j run client s.occurs earlier is_u is_a end_job job uses_last uses_first in
                occurs_done past u.it.entry u.it.before a j end.1 s.occurs is_u (subst (λ i. u.it.entry.kind ≡ End i end.1) same end.2.0) end.2.1

    finish : (x : Entry) (p : List Entry) → Occurs past x p → Member (Lock hold since owner k) (vouch p x r a j) → is_done past a j ≡ true
    finish x p o v =
        let t = vouches_by p x r a j (Lock hold since owner k) v in
        let own_x = own_at repos past x p r run o t.0 in
        let own_s = own_at repos past rel.share rel.before r run rel.stands rel.own in
        let nx = (own_x.share hold t.1.0 owner k t.1.1).number_is in
        let ns = (own_s.share hold rel.end (Peer rel.f.peer rel.f.slot) key rel.share_is).number_is in
        let same = occurs_same past x rel.share p rel.before r o rel.stands t.0 rel.own (omega (arith, nx, ns)) in
        by_share p (subst (λ (y : Entry). Occurs past y p) same.0 o) (subst (λ (y : Entry). VouchesBy p y r a j (Lock hold since owner k)) same.0 t.1)
