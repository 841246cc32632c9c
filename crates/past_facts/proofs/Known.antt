-- The evidence of a drop is what its job knows of it.
use Rattle.std.proofs.Common.{◌≡◌, ℕ, Bool, true, false, not, ◌&&◌, List, [], ◌∷◌, ◌++◌, length, Option, Some, None, refl, ap, ◌∙◌}
use Rattle.std.specs.Prelude.{option_map, if◌then◌else◌, ◌==◌}
use Rattle.drop_proof.specs.declared.evidence.Evidence.{Evidence}
use Rattle.drop_proof.specs.declared.rule.Need.{Need}
use Rattle.drop_proof.specs.declared.rule.Side.{Side}
use Rattle.drop_proof.specs.Judging.{is_enough}
use Rattle.run_data.specs.declared.entry.Entry.{Entry}
use Rattle.run_data.specs.declared.entry.FrameView.{FrameView}
use Rattle.run_data.specs.declared.job.Cause.{Cause}
use Rattle.run_data.specs.declared.run.RepoView.{RepoView}
use Rattle.p2p_wire.specs.declared.message.Message.TheVariants.{CheckPresent, Failure}
use Rattle.run_model.specs.Past.{clock}
use Rattle.run_model.specs.Said.{Said, Says, CloseIt, message_in}
use Rattle.run_model.specs.Frames.{SendingEntry, is_job, said_of, last_request, sender, up_of, way_of}
use Rattle.std.specs.List.{list_any}
use Rattle.run_model.specs.Drops.{Vouch, Lock, Look, offer_from, cause_said, cause_taken, cause_with, evidence, is_waiting, newer_cause, offer, or_closed, option_is_none, reply, shuts, standing, tells_cause, told_cause, waits}
use Rattle.node_model.specs.Evidence.{Standing, Claimed, Ignored, Asked, Offer, Gives, Fails, candidates, gather, pick, reached_candidates}
use Rattle.past_facts.proofs.Heard.{heard_cause, known_evidence, known_offer, knows, still_waits}
use Rattle.past_facts.proofs.Own.{MessagePast}
use Rattle.past_facts.proofs.Told.{heard_of, reply_heard}

-- ---- whether there is a cause doesn't rest on the sender

said_same : (m : Said) (o : Option Said) (s t : Option SendingEntry) → option_is_none (cause_said m o s) ≡ option_is_none (cause_said m o t)
said_same CloseIt o s t = refl
said_same (Says Failure) (Some (Says (CheckPresent key))) s t = refl
said_same (Says Failure) None s t = refl
said_same (Says Failure) (Some _) s t = refl
said_same _ o s t = refl

taken_same : (past : List Entry) (a r : ℕ) (s t : Option SendingEntry) (o : Option FrameView) → option_is_none (cause_taken past a r s o) ≡ option_is_none (cause_taken past a r t o)
taken_same past a r s t None = refl
taken_same past a r s t (Some f) = go ((f.peer == r) && not f.up)
  where
    asked_last : Option Said
    asked_last = option_map said_of (last_request past (up_of (way_of a f)))

    go : (b : Bool) → option_is_none (if b then cause_said (message_in f.body) asked_last s else None) ≡ option_is_none (if b then cause_said (message_in f.body) asked_last t else None)
    go true = said_same (message_in f.body) asked_last s t
    go false = refl

if_same : {X : Type 0} (b : Bool) (x y z : Option X) → option_is_none x ≡ option_is_none y → option_is_none (if b then z else x) ≡ option_is_none (if b then z else y)
if_same true x y z h = refl
if_same false x y z h = h

part_same : {X : Type 0} (b : Bool) (x y z : Option X) → option_is_none x ≡ option_is_none y → option_is_none (if b then x else z) ≡ option_is_none (if b then y else z)
part_same true x y z h = h
part_same false x y z h = refl

cause_same : (past : List Entry) (e : Entry) (r a j : ℕ) (s t : Option SendingEntry) → option_is_none (cause_with past e r a j s) ≡ option_is_none (cause_with past e r a j t)
cause_same past e r a j s t = if_same (r == a) _ _ _ (part_same (is_job a j e) _ _ _ (if_same (list_any (shuts r) e.sent) _ _ _ (taken_same past a r s t e.taken)))

newer_same : (x y old was : Option Cause) → option_is_none x ≡ option_is_none y → option_is_none old ≡ option_is_none was → option_is_none (newer_cause x old) ≡ option_is_none (newer_cause y was)
newer_same None None old was h k = k
newer_same None (Some y) old was h k = cc
newer_same (Some x) None old was h k = cc
newer_same (Some x) (Some y) old was h k = refl

closed_same : (past : List Entry) (e : Entry) (r a j : ℕ) (o p : Option Cause) → option_is_none o ≡ option_is_none p → option_is_none (or_closed past e r a j o) ≡ option_is_none (or_closed past e r a j p)
closed_same past e r a j None None h = refl
closed_same past e r a j None (Some y) h = cc
closed_same past e r a j (Some x) None h = cc
closed_same past e r a j (Some x) (Some y) h = refl

pub cause_known : (past : List Entry) (a j r : ℕ) → option_is_none (told_cause past a j r) ≡ option_is_none (heard_cause past a j r)
cause_known [] a j r = refl
cause_known (e ∷ past) a j r = newer_same (tells_cause past e r a j) (cause_with past e r a j None) (or_closed past e r a j (told_cause past a j r)) (or_closed past e r a j (heard_cause past a j r)) (cause_same past e r a j (sender past a e.taken) None)
    (closed_same past e r a j (told_cause past a j r) (heard_cause past a j r) (cause_known past a j r))

-- ---- offers

waiting_same : (s : Standing) (o : Option Vouch) (c d : Option Cause) → option_is_none c ≡ option_is_none d → is_waiting s o c ≡ is_waiting s (option_map heard_of o) d
waiting_same Asked None None None h = refl
waiting_same Asked None None (Some d) h = cc
waiting_same Asked None (Some c) None h = cc
waiting_same Asked None (Some c) (Some d) h = refl
waiting_same Asked (Some v) c d h = refl
waiting_same Claimed o c d h = refl
waiting_same (Ignored cause) o c d h = refl

offer_same : (clock : ℕ → ℕ) (s : Standing) (o : Option Vouch) → offer clock s o ≡ known_offer clock s (option_map heard_of o)
offer_same clock Claimed o = refl
offer_same clock (Ignored cause) o = refl
offer_same clock Asked None = refl
offer_same clock Asked (Some (Lock hold since owner key)) = refl
offer_same clock Asked (Some (Look key)) = refl

pub asked_known : (repos : List RepoView) (past : List Entry) (a j r : ℕ) → MessagePast repos past → offer_from repos past a j r ≡ knows repos past a j r
asked_known repos past a j r run = offer_same (clock repos past a) (standing repos past a j r) (reply past a j r) ∙ ap (λ o. known_offer (clock repos past a) (standing repos past a j r) o) (reply_heard repos past a j r run)

waits_known : (repos : List RepoView) (past : List Entry) (a j r : ℕ) → MessagePast repos past → waits repos past a j r ≡ still_waits repos past a j r
waits_known repos past a j r run = ap (λ b. not (r == a) && b) (waiting_same (standing repos past a j r) (reply past a j r) (told_cause past a j r) (heard_cause past a j r) (cause_known past a j r)
    ∙ ap (λ o. is_waiting (standing repos past a j r) o (heard_cause past a j r)) (reply_heard repos past a j r run))

pub reached_same : (w v : ℕ → Bool) → ((c : ℕ) → w c ≡ v c) → (cs : List ℕ) → reached_candidates w cs ≡ reached_candidates v cs
reached_same w v h [] = refl
reached_same w v h (c ∷ cs) = go (reached_same w v h cs) (w c) (v c) (h c)
  where
    go : reached_candidates w cs ≡ reached_candidates v cs → (a b : Bool) → a ≡ b → (if a then [] else c ∷ reached_candidates w cs) ≡ (if b then [] else c ∷ reached_candidates v cs)
    go ih true true e = refl
    go ih false false e = ap (λ xs. c ∷ xs) ih
    go ih true false e = cc
    go ih false true e = cc

pub gather_same : (side : Side) (need : Need) (f g : ℕ → Offer) → ((c : ℕ) → f c ≡ g c) → (cs : List ℕ) (items : List Evidence) → gather side need f cs items ≡ gather side need g cs items
gather_same side need f g h [] items = refl
gather_same side need f g h (c ∷ cs) items = go (λ more. gather_same side need f g h cs more) (is_enough side need items) (f c) (g c) (h c)
  where
    go : ((more : List Evidence) → gather side need f cs more ≡ gather side need g cs more) → (b : Bool) (o p : Offer) → o ≡ p
        → (if b then items else pick o (λ kind. gather side need f cs (items ++ record { repo = c; kind = kind } ∷ [])) (gather side need f cs items))
        ≡ (if b then items else pick p (λ kind. gather side need g cs (items ++ record { repo = c; kind = kind } ∷ [])) (gather side need g cs items))
    go ih true o p e = refl
    go ih false (Gives kind) (Gives kind') e = let same : kind ≡ kind' = cc in ih (items ++ record { repo = c; kind = kind } ∷ []) ∙ ap (λ k. gather side need g cs (items ++ record { repo = c; kind = k } ∷ [])) same
    go ih false Fails Fails e = ih items
    go ih false (Gives kind) Fails e = cc
    go ih false Fails (Gives kind) e = cc

-- the evidence is what the job knows
pub evidence_known : (side : Side) (repos : List RepoView) (past : List Entry) (a j target : ℕ) (need : Need) → MessagePast repos past → evidence side repos past a j target need ≡ known_evidence side repos past a j target need
evidence_known side repos past a j target need run =
    gather_same side need (offer_from repos past a j) (knows repos past a j) (λ c. asked_known repos past a j c run) (reached_candidates (waits repos past a j) (candidates side (length repos) a target)) []
    ∙ ap (λ cs. gather side need (knows repos past a j) cs []) (reached_same (waits repos past a j) (still_waits repos past a j) (λ c. waits_known repos past a j c run) (candidates side (length repos) a target))
