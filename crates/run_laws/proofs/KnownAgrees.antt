-- Where a drop's list of what it heard agrees with its entries, what it knows is the evidence known by its entries.
use Rattle.std.proofs.Common.{◌≡◌, ℕ, Bool, true, false, List, [], ◌∷◌, ◌++◌, Option, Some, None, refl, sym, ap, ◌∙◌}
use Rattle.std.specs.Prelude.{if◌then◌else◌}
use Rattle.std.proofs.lemmas.Bool.{true≢false}
use Rattle.drop_proof.specs.declared.evidence.Evidence.{Evidence}
use Rattle.drop_proof.specs.declared.rule.Need.{Need}
use Rattle.drop_proof.specs.declared.rule.Side.{Side}
use Rattle.drop_proof.specs.Judging.{is_enough}
use Rattle.run_data.specs.declared.entry.Entry.{Entry}
use Rattle.run_model.specs.Past.{begun_job, clock}
use Rattle.run_data.specs.Repos.{id_of}
use Rattle.run_model.specs.Logs.{read_at, settings_of}
use Rattle.node_model.specs.Evidence.{Standing, Claimed, Ignored, Asked, Offer, Gives, Fails, gather, pick, reached_candidates, standing_by}
use Rattle.run_model.specs.Drops.{key_in, standing}
use Rattle.past_facts.proofs.Heard
use Rattle.past_facts.proofs.Heard.{Heard, Locked_at, Seen_there, heard, known_evidence, known_offer, still_waits}
use Rattle.node_model.specs.SetUp.{SetUp}
use Rattle.run_model.specs.States.{state_of}
use Rattle.node_model.specs.Jobs
use Rattle.node_model.specs.Jobs.{Held, Seen, Unseen, Lacks, Work, heard_of, side_of, target_of}
use Rattle.node_model.specs.Knows
use Rattle.past_facts.proofs.Known.{gather_same}
use Rattle.step_facts.proofs.Knowing.{candidates_of, is_to_ask, known, knows_enough}
use Rattle.node_model.specs.Knows.{need_of, standing_of}
use Rattle.step_facts.proofs.Knowing

-- what a job heard, as its entries say it
abbrev pub heard_as : List ℕ → Option Jobs.Heard → Option Heard
heard_as key None = None
heard_as key (Some (Held since)) = Some (Locked_at since key)
heard_as key (Some Seen) = Some (Seen_there key)
heard_as key (Some Unseen) = None
heard_as key (Some (Lacks cause)) = None

-- the list of a job agrees with its entries
pub record Agrees (s : SetUp) (past : List Entry) (w : Work) : Type 0 where
  pub standing_is : (c : ℕ) → standing_of s (state_of s past) w c ≡ standing s.repos past s.number w.number c
  pub heard_is : (c : ℕ) → heard past s.number w.number c ≡ heard_as w.what.key (heard_of w c)
  -- whom its entries show as still to be asked, its list does too
  pub waits_too : (c : ℕ) → still_waits s.repos past s.number w.number c ≡ true → is_to_ask s (state_of s past) w c ≡ true

-- the two standings are one, where the job's key stood as the logs were read
pub standing_same : (s : SetUp) (past : List Entry) (w : Work) → key_in (begun_job (read_at past s.number w.number) s.number w.number) ≡ w.what.key → (c : ℕ)
    → standing_of s (state_of s past) w c ≡ standing s.repos past s.number w.number c
unfolding standing_of standing
standing_same s past w key c = ap (λ (k : List ℕ). standing_by (settings_of (read_at past s.number w.number) s.number) k (id_of s.repos c)) (sym key)

heard_offer_as : (clock : ℕ → ℕ) (key : List ℕ) (h : Option Jobs.Heard) → Heard.heard_offer clock (heard_as key h) ≡ Knows.heard_offer clock h
heard_offer_as clock key None = refl
heard_offer_as clock key (Some (Held since)) = refl
heard_offer_as clock key (Some Seen) = refl
heard_offer_as clock key (Some Unseen) = refl
heard_offer_as clock key (Some (Lacks cause)) = refl

offer_as : (clock : ℕ → ℕ) (key : List ℕ) (st : Standing) (h : Option Jobs.Heard) → known_offer clock st (heard_as key h) ≡ Knows.offer_by clock st h
offer_as clock key Claimed h = refl
offer_as clock key (Ignored cause) h = refl
offer_as clock key Asked h = heard_offer_as clock key h

pub knows_same : (s : SetUp) (past : List Entry) (w : Work) → Agrees s past w → (c : ℕ) → Heard.knows s.repos past s.number w.number c ≡ Knowing.knows s (state_of s past) w c
knows_same s past w x c =
    ap (λ (st : Standing). known_offer (clock s.repos past s.number) st (heard past s.number w.number c)) (sym (x.standing_is c))
    ∙ (ap (λ (h : Option Heard). known_offer (clock s.repos past s.number) (standing_of s (state_of s past) w c) h) (x.heard_is c)
    ∙ offer_as (clock s.repos past s.number) w.what.key (standing_of s (state_of s past) w c) (heard_of w c))

-- ---- gathering

-- what is enough isn't gathered on
enough_stays : (side : Side) (need : Need) (f : ℕ → Offer) (cs : List ℕ) (items : List Evidence) → is_enough side need items ≡ true → gather side need f cs items ≡ items
enough_stays side need f [] items e = refl
enough_stays side need f (c ∷ cs) items e = rw e refl

gather_more : (side : Side) (need : Need) (f : ℕ → Offer) (xs ys : List ℕ) (items : List Evidence) → is_enough side need (gather side need f xs items) ≡ true
    → gather side need f (xs ++ ys) items ≡ gather side need f xs items
gather_more side need f [] ys items e = enough_stays side need f ys items e
gather_more side need f (c ∷ xs) ys items e = go (λ zs h. gather_more side need f xs ys zs h) (is_enough side need items) (f c) e
  where
    go : ((zs : List Evidence) → is_enough side need (gather side need f xs zs) ≡ true → gather side need f (xs ++ ys) zs ≡ gather side need f xs zs) → (b : Bool) (o : Offer)
        → is_enough side need (if b then items else pick o (λ kind. gather side need f xs (items ++ record { repo = c; kind = kind } ∷ [])) (gather side need f xs items)) ≡ true
        → (if b then items else pick o (λ kind. gather side need f (xs ++ ys) (items ++ record { repo = c; kind = kind } ∷ [])) (gather side need f (xs ++ ys) items))
        ≡ (if b then items else pick o (λ kind. gather side need f xs (items ++ record { repo = c; kind = kind } ∷ [])) (gather side need f xs items))
    go more true o h = refl
    go more false (Gives kind) h = more (items ++ record { repo = c; kind = kind } ∷ []) h
    go more false Fails h = more items h

-- who waits for fewer reaches more
reached_more : (f g : ℕ → Bool) → ((c : ℕ) → g c ≡ true → f c ≡ true) → (cs : List ℕ) → (rest : List ℕ) × (reached_candidates g cs ≡ reached_candidates f cs ++ rest)
reached_more f g weaker [] = ([], refl)
reached_more f g weaker (c ∷ cs) = go (reached_more f g weaker cs) (f c) refl (g c) refl
  where
    go : (rest : List ℕ) × (reached_candidates g cs ≡ reached_candidates f cs ++ rest) → (a : Bool) → f c ≡ a → (b : Bool) → g c ≡ b → (rest : List ℕ) × (reached_candidates g (c ∷ cs) ≡ reached_candidates f (c ∷ cs) ++ rest)
    go more true x b y = (reached_candidates g (c ∷ cs), rw x refl)
    go more false x true y = absurd (true≢false (sym (weaker c y) ∙ x))
    go more false x false y = (more.0, rw (x, y) (ap (λ zs. c ∷ zs) more.1))

-- **the evidence known**: a drop whose list agrees with its entries, and that knows enough, knows just the evidence of its entries
pub known_agrees : (s : SetUp) (past : List Entry) (w : Work) → Agrees s past w → knows_enough s (state_of s past) w ≡ true
    → known_evidence (side_of w) s.repos past s.number w.number (target_of s.number w) (need_of s (state_of s past) w) ≡ known s (state_of s past) w
known_agrees s past w x enough =
    let st = state_of s past in
    let side = side_of w in
    let need = need_of s st w in
    let cs = candidates_of s w in
    let more = reached_more (is_to_ask s st w) (still_waits s.repos past s.number w.number) x.waits_too cs in
    gather_same side need (Heard.knows s.repos past s.number w.number) (Knowing.knows s st w) (knows_same s past w x) (reached_candidates (still_waits s.repos past s.number w.number) cs) []
    ∙ (ap (λ zs. gather side need (Knowing.knows s st w) zs []) more.1
    ∙ gather_more side need (Knowing.knows s st w) (reached_candidates (is_to_ask s st w) cs) more.0 [] enough)
