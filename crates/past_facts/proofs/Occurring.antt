-- Entries that stand in a past: their order, and what each of them says.
use Rattle.std.proofs.Common.{◌≡◌, ℕ, ◌+◌, ◌<◌, ◌≤◌, Bool, true, false, not, cond, ◌&&◌, List, [], ◌∷◌, length, Some, ◌⊎◌, inl, inr, refl, sym, ap, ◌∙◌, subst, arith, length-append}
use Rattle.std.specs.Prelude.{filter, map, if◌then◌else◌, ◌==◌}
use Rattle.std.proofs.lemmas.Bool.{true≢false, and_parts, or_left, or_right, or_cases, not-true}
use Rattle.std.proofs.lemmas.Option.{same_Some}
use Rattle.annex_base.specs.Lists.{Member}
use Rattle.annex_base.proofs.Conditions.{eqb_refl}
use Rattle.annex_base.proofs.Lists.{Member-append_cases}
use Rattle.run_data.specs.declared.entry.Entry.{Entry}
use Rattle.run_data.specs.declared.entry.EntryKind.TheVariants.{End}
use Rattle.run_data.specs.declared.entry.FrameView.{FrameView}
use Rattle.run_data.specs.declared.job.Outcome.{Outcome}
use Rattle.run_data.specs.declared.run.RepoView.{RepoView}
use Rattle.run_model.specs.Past.{Occurs, is_of, entry_count}
use Rattle.node_model.specs.Rows.{is_lost_ordered}
use Rattle.run_model.specs.Said.{Said, is_request}
use Rattle.run_model.specs.Frames.{Way, flying_frame, on_way, says, sender_of, sent_if, taken_if, taker_of, takes_if, up_of}
use Rattle.step_facts.proofs.Ways.{answers, down_of}
use Rattle.node_model.specs.Slots.{job_of}
use Rattle.run_model.specs.Drops.{Vouch, is_done, done_kind, vouch, vouches}
use Rattle.past_facts.proofs.Own.{MessagePast, uses}
use Rattle.past_facts.proofs.Turns.{sent_if-prefix, sent_if-step}
use Rattle.past_facts.proofs.Evident.{done_end}
use Rattle.past_facts.proofs.Told.{own_at}

-- ---- order

-- of two entries one comes first, or they are the same
pub occurs_order : (past : List Entry) (x y : Entry) (p q : List Entry) → Occurs past x p → Occurs past y q → ((x ≡ y) × (p ≡ q)) ⊎ (Occurs q x p ⊎ Occurs p y q)
occurs_order [] x y p q o u = absurd o
occurs_order (e ∷ past) x y p q (inl o) (inl u) = inl (o.0 ∙ sym u.0, o.1 ∙ sym u.1)
occurs_order (e ∷ past) x y p q (inl o) (inr u) = inr (inr (subst (λ (z : List Entry). Occurs z y q) (sym o.1) u))
occurs_order (e ∷ past) x y p q (inr o) (inl u) = inr (inl (subst (λ (z : List Entry). Occurs z x p) (sym u.1) o))
occurs_order (e ∷ past) x y p q (inr o) (inr u) = occurs_order past x y p q o u

made_more : (e : Entry) (past : List Entry) (r : ℕ) → entry_count past r ≤ entry_count (e ∷ past) r
made_more e past r = go (is_of r e)
  where
    go : (b : Bool) → entry_count past r ≤ (if b then entry_count past r + 1 else entry_count past r)
    go true = omega arith
    go false = omega arith

made_own : (e : Entry) (past : List Entry) (r : ℕ) → is_of r e ≡ true → entry_count past r < entry_count (e ∷ past) r
made_own e past r is = rw is (omega arith)

-- each entry of a repository has another number
occurs_made : (past : List Entry) (x : Entry) (p : List Entry) (r : ℕ) → Occurs past x p → is_of r x ≡ true → entry_count p r < entry_count past r
occurs_made [] x p r o is = absurd o
occurs_made (e ∷ past) x p r (inl o) is = subst (λ (q : List Entry). entry_count q r < entry_count (e ∷ past) r) (sym o.1) (made_own e past r (subst (λ (y : Entry). is_of r y ≡ true) o.0 is))
occurs_made (e ∷ past) x p r (inr o) is = omega (arith, occurs_made past x p r o is, made_more e past r)

pub occurs_same : (past : List Entry) (x y : Entry) (p q : List Entry) (r : ℕ) → Occurs past x p → Occurs past y q → is_of r x ≡ true → is_of r y ≡ true → entry_count p r ≡ entry_count q r → (x ≡ y) × (p ≡ q)
occurs_same past x y p q r o u is js same = elim (occurs_order past x y p q o u) [
  | inl s ↦ s
  | inr (inl s) ↦ absurd (omega (arith, occurs_made q x p r s is, same))
  | inr (inr s) ↦ absurd (omega (arith, occurs_made p y q r s js, same))
]

-- ---- jobs

-- all that is done on one connection in one epoch is done by one job
pub same_job : (repos : List RepoView) (past : List Entry) (w : Way) (x y : Entry) (p q : List Entry) (a i j : ℕ) → MessagePast repos past → w.client ≡ a → Occurs past x p → Occurs past y q → is_of a x ≡ true → is_of a y ≡ true
    → job_of x.kind ≡ Some i → job_of y.kind ≡ Some j → uses w x ≡ true → uses w y ≡ true → i ≡ j
same_job repos past w x y p q a i j run client o u is js xi yj ux uy = elim (occurs_order past x y p q o u) [
  | inl s ↦ same_Some i j (sym xi ∙ ap (λ (z : Entry). job_of z.kind) s.0 ∙ yj)
  | inr (inl s) ↦ (own_at repos past y q a run u js).one_job w client uy j i x p yj s is xi ux
  | inr (inr s) ↦ sym ((own_at repos past x p a run o is).one_job w client ux i j y q xi s js yj uy)
]

pub occurs_done : (past : List Entry) (x : Entry) (p : List Entry) (a j : ℕ) (outcome : Outcome) → Occurs past x p → is_of a x ≡ true → x.kind ≡ End j outcome → is_lost_ordered outcome ≡ false → is_done past a j ≡ true
occurs_done [] x p a j outcome o is kind lost = absurd o
occurs_done (e ∷ past) x p a j outcome (inl o) is kind lost =
    or_left (is_of a e && done_kind j e.kind) (is_done past a j) (subst (λ (y : Entry). (is_of a y && done_kind j y.kind) ≡ true) o.0 (rw (is, kind, eqb_refl j, lost) refl))
occurs_done (e ∷ past) x p a j outcome (inr o) is kind lost = or_right (is_of a e && done_kind j e.kind) (is_done past a j) (occurs_done past x p a j outcome o is kind lost)

-- the end of a done job
pub record Ended (past : List Entry) (a j : ℕ) : Type 0 where
  pub entry : Entry
  pub before : List Entry
  pub occurs : Occurs past entry before
  pub repo_is : is_of a entry ≡ true
  pub outcome : Outcome
  pub kind_is : entry.kind ≡ End j outcome
  pub not_lost : is_lost_ordered outcome ≡ false

end_kind : (j : ℕ) (outcome : Outcome) → done_kind j (End j outcome) ≡ true → is_lost_ordered outcome ≡ false
end_kind j outcome h = not-true (is_lost_ordered outcome) (and_parts (j == j) (not (is_lost_ordered outcome)) h).1

pub done_occurs : (past : List Entry) (a j : ℕ) → is_done past a j ≡ true → Ended past a j
done_occurs [] a j h = cc
done_occurs (e ∷ past) a j h = go (λ k. done_occurs past a j k) (or_cases (is_of a e && done_kind j e.kind) (is_done past a j) h)
  where
    go : (is_done past a j ≡ true → Ended past a j) → ((is_of a e && done_kind j e.kind) ≡ true) ⊎ (is_done past a j ≡ true) → Ended (e ∷ past) a j
    go ih (inl s) =
        let w = and_parts (is_of a e) (done_kind j e.kind) s in
        let t = done_end j e.kind w.1 in
        record { entry = e; before = past; occurs = inl (refl, refl); repo_is = w.0; outcome = t.0; kind_is = t.1; not_lost = end_kind j t.0 (subst (λ k. done_kind j k ≡ true) t.1 w.1) }
    go ih (inr s) = let t = ih s in record { entry = t.entry; before = t.before; occurs = inr t.occurs; repo_is = t.repo_is; outcome = t.outcome; kind_is = t.kind_is; not_lost = t.not_lost }

-- ---- vouches

pub vouches_occur : (past : List Entry) (r a j : ℕ) (v : Vouch) → Member v (vouches past r a j) → (x : Entry) × (p : List Entry) × (Occurs past x p) × Member v (vouch p x r a j)
vouches_occur [] r a j v m = absurd m
vouches_occur (e ∷ past) r a j v m = elim (Member-append_cases (vouch past e r a j) (vouches past r a j) v m) [
  | inl k ↦ (e, past, inl (refl, refl), k)
  | inr k ↦ let t = vouches_occur past r a j v k in (t.0, t.1, inr t.2, t.3)
]

-- ---- counts

taken_more : (q : Said → Bool) (e : Entry) (past : List Entry) (w : Way) → taken_if q past w ≤ taken_if q (e ∷ past) w
taken_more q e past w = go (is_of (taker_of w) e && takes_if q w e.taken)
  where
    go : (b : Bool) → taken_if q past w ≤ (if b then taken_if q past w + 1 else taken_if q past w)
    go true = omega arith
    go false = omega arith

pub taken_later : (q : Said → Bool) (past : List Entry) (x : Entry) (p : List Entry) (w : Way) → Occurs past x p → taken_if q p w ≤ taken_if q past w
taken_later q [] x p w o = absurd o
taken_later q (e ∷ past) x p w (inl o) = subst (λ (z : List Entry). taken_if q z w ≤ taken_if q (e ∷ past) w) (sym o.1) (taken_more q e past w)
taken_later q (e ∷ past) x p w (inr o) = omega (arith, taken_later q past x p w o, taken_more q e past w)

some_of : {X Y : Type 0} (f : X → Y) (p : X → Bool) (x : X) (xs : List X) → Member x xs → p x ≡ true → 1 ≤ length (map f (filter p xs))
some_of f p x [] m h = absurd m
some_of f p x (y ∷ ys) m h = go (λ k. some_of f p x ys k h) (p y) refl m
  where
    go : (Member x ys → 1 ≤ length (map f (filter p ys))) → (b : Bool) → p y ≡ b → (x ≡ y) ⊎ Member x ys → 1 ≤ length (map f (cond b (y ∷ filter p ys) (filter p ys)))
    go ih true e k = omega arith
    go ih false e (inl k) = absurd (true≢false (sym h ∙ ap p k ∙ e))
    go ih false e (inr k) = ih k

-- one more was sent once the entry stands that sends it
pub sent_later : (q : Said → Bool) (past : List Entry) (x : Entry) (p : List Entry) (w : Way) (g : FrameView) → Occurs past x p → is_of (sender_of w) x ≡ true → Member g (on_way w x) → says q g ≡ true → length (sent_if q p w) + 1 ≤ length (sent_if q past w)
sent_later q [] x p w g o is m h = absurd o
sent_later q (e ∷ past) x p w g (inl o) is m h = subst (λ (z : List Entry). length (sent_if q z w) + 1 ≤ length (sent_if q (e ∷ past) w)) (sym o.1) (here (subst (λ (y : Entry). is_of (sender_of w) y ≡ true) o.0 is) (subst (λ (y : Entry). Member g (on_way w y)) o.0 m))
  where
    here : is_of (sender_of w) e ≡ true → Member g (on_way w e) → length (sent_if q past w) + 1 ≤ length (sent_if q (e ∷ past) w)
    here own k =
        let len : length (sent_if q (e ∷ past) w) ≡ length (sent_if q past w) + length (map (flying_frame e past) (filter (says q) (on_way w e))) =
        ap length (sent_if-step q e past w own) ∙ length-append (sent_if q past w) (map (flying_frame e past) (filter (says q) (on_way w e))) in
        omega (arith, len, some_of (flying_frame e past) (says q) g (on_way w e) k h)
sent_later q (e ∷ past) x p w g (inr o) is m h = omega (arith, sent_later q past x p w g o is m h, more)
  where
    more : length (sent_if q past w) ≤ length (sent_if q (e ∷ past) w)
    more = let t = sent_if-prefix q (e ∷ past) e past w (inl (refl, refl)) in let len : length (sent_if q (e ∷ past) w) ≡ length (sent_if q past w) + length t.0 = ap length t.1 ∙ length-append (sent_if q past w) t.0 in omega (arith, len)

-- a server has sent no more answers than it took requests
pub answers_within : (repos : List RepoView) (past : List Entry) (w : Way) → MessagePast repos past → length (answers past (down_of w)) ≤ taken_if is_request past (up_of w)
answers_within repos [] w run = omega arith
answers_within repos (e ∷ past) w run = go (λ k. answers_within repos past w run.1) (is_of w.server e) refl
  where
    go : (Unit {0} → length (answers past (down_of w)) ≤ taken_if is_request past (up_of w)) → (b : Bool) → is_of w.server e ≡ b → length (answers (e ∷ past) (down_of w)) ≤ taken_if is_request (e ∷ past) (up_of w)
    go ih true is = (run.0.own w.server is).answered w refl
    go ih false is = let le = ih tt in rw is le
