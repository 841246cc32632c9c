-- What a drop reads of the logs stays what it was from the drop's first step on; its bar states what it read.
use Rattle.std.proofs.Common.{◌≡◌, ℕ, true, ◌&&◌, List, [], ◌∷◌, Option, Some, None, ◌⊎◌, inl, inr, refl, sym, ap, ◌∙◌}
use Rattle.std.specs.Prelude.{if◌then◌else◌}
use Rattle.std.specs.Option.{option_or, unwrap_or}
use Rattle.annex_base.proofs.Conditions.{eqb_refl}
use Rattle.annex_base.proofs.Options.{option_or-first, option_or-other}
use Rattle.run_data.specs.declared.entry.Entry.{Entry}
use Rattle.run_data.specs.declared.run.RepoView.{RepoView}
use Rattle.run_data.specs.Repos.{id_of}
use Rattle.wanted_expr.specs.Wanted.{required}
use Rattle.drop_proof.specs.declared.rule.Need.{Need}
use Rattle.node_model.specs.Knows.{need_by}
use Rattle.run_data.specs.declared.entry.EntryKind.TheVariants.{Bar, Order}
use Rattle.run_model.specs.Past.{Always, Decision, decision, is_of}
use Rattle.run_model.specs.Logs.{before_step, in_drop, is_step, need_read, read_at, settings_of}
use Rattle.past_facts.proofs.Own.{MessagePast}
use Rattle.past_facts.proofs.Changes.{Decides, decided_was}

-- the entry is the first step of its job's drop, or a later one
step_here : (e : Entry) (past : List Entry) (a j : ℕ) → is_of a e ≡ true → is_step j e.kind ≡ true → in_drop past a j ≡ true → (if is_of a e && (is_step j e.kind && in_drop past a j) then Some past else None) ≡ Some past
step_here e past a j is step dropping = rw (is, step, dropping) refl

bar_step : (e : Entry) (past : List Entry) (a j : ℕ) (d : Decision) → Decides e past a j d → is_step j e.kind ≡ true
bar_step e past a j d t = rw t.kind_is (eqb_refl j)

-- a job whose bar was put has made a step
pub step_made : (repos : List RepoView) (past : List Entry) (a j : ℕ) (d : Decision) → MessagePast repos past → decision past a j ≡ Some d → (before : List Entry) × (before_step past a j ≡ Some before)
step_made repos [] a j d run h = absurd (cc)
step_made repos (e ∷ past) a j d run h = go (λ k. step_made repos past a j d run.1 k) (decided_was e past a j d h)
  where
    go : (decision past a j ≡ Some d → (before : List Entry) × (before_step past a j ≡ Some before)) → (decision past a j ≡ Some d) ⊎ Decides e past a j d → (before : List Entry) × (before_step (e ∷ past) a j ≡ Some before)
    go ih (inl k) = let w = ih k in option_or-first (before_step past a j) (if is_of a e && (is_step j e.kind && in_drop past a j) then Some past else None) w.0 w.1
    go ih (inr t) = option_or-other (before_step past a j) (if is_of a e && (is_step j e.kind && in_drop past a j) then Some past else None) past
        (step_here e past a j t.repo_is (bar_step e past a j d t) ((run.0.own a t.repo_is).bar_put j d.need d.key t.kind_is).dropping)

unwrap-first : (o : Option (List Entry)) (past more : List Entry) → unwrap_or (option_or o (Some past)) more ≡ unwrap_or o past
unwrap-first None past more = refl
unwrap-first (Some before) past more = refl

-- a step of the drop is made by what is read before it
pub read_at-step : (e : Entry) (past : List Entry) (a j : ℕ) → is_of a e ≡ true → is_step j e.kind ≡ true → in_drop past a j ≡ true → read_at (e ∷ past) a j ≡ read_at past a j
read_at-step e past a j is step dropping = ap (λ o. unwrap_or (option_or (before_step past a j) o) (e ∷ past)) (step_here e past a j is step dropping) ∙ unwrap-first (before_step past a j) past (e ∷ past)

-- after the bar, what is read stays
pub read_at-kept : (repos : List RepoView) (e : Entry) (past : List Entry) (a j : ℕ) (d : Decision) → MessagePast repos past → decision past a j ≡ Some d → read_at (e ∷ past) a j ≡ read_at past a j
read_at-kept repos e past a j d run h = let w = step_made repos past a j d run h in rw w.1 refl

same_need : (paths : List (List ℕ)) (past more : List Entry) (a j : ℕ) → read_at more a j ≡ read_at past a j → need_read paths more a j ≡ need_read paths past a j
same_need paths past more a j h = ap (λ read. need_by (settings_of read a) paths) h

-- the bars and the orders that the entry is state the need that their jobs read, whose keys had these paths, and by what was read
-- their targets don't require the content
pub record StatesRead (repos : List RepoView) (paths : ℕ → ℕ → List (List ℕ)) (past : List Entry) (e : Entry) : Type 0 where
  pub bars : (r j : ℕ) (need : Need) (key : List ℕ) → is_of r e ≡ true → e.kind ≡ Bar j need key
      → (need ≡ need_read (paths r j) past r j) × (required (settings_of (read_at past r j) r) (id_of repos r) key (paths r j) ≡ None)
  pub orders : (r j target : ℕ) (deadline : Option ℕ) (need : Need) (key : List ℕ) → is_of r e ≡ true → e.kind ≡ Order j target deadline need key
      → (need ≡ need_read (paths r j) past r j) × (required (settings_of (read_at past r j) r) (id_of repos target) key (paths r j) ≡ None)

-- a bar, and so the removal that it decides, has the need that its drop read, whenever one reads it again
pub need_is_read : (repos : List RepoView) (paths : ℕ → ℕ → List (List ℕ)) (past : List Entry) (a j : ℕ) (d : Decision) → MessagePast repos past → Always (StatesRead repos paths) past → decision past a j ≡ Some d
    → d.need ≡ need_read (paths a j) past a j
need_is_read repos paths [] a j d run stated h = absurd (cc)
need_is_read repos paths (e ∷ past) a j d run stated h = go (λ k. need_is_read repos paths past a j d run.1 stated.1 k) (decided_was e past a j d h)
  where
    go : (decision past a j ≡ Some d → d.need ≡ need_read (paths a j) past a j) → (decision past a j ≡ Some d) ⊎ Decides e past a j d → d.need ≡ need_read (paths a j) (e ∷ past) a j
    go ih (inl k) = ih k ∙ sym (same_need (paths a j) past (e ∷ past) a j (read_at-kept repos e past a j d run.1 k))
    go ih (inr t) = let b = (run.0.own a t.repo_is).bar_put j d.need d.key t.kind_is in
        (stated.0.bars a j d.need d.key t.repo_is t.kind_is).0 ∙ sym (same_need (paths a j) past (e ∷ past) a j (read_at-step e past a j t.repo_is (bar_step e past a j d t) b.dropping))

-- and its target doesn't require the content, by what was read
pub bar_is_spared : (repos : List RepoView) (paths : ℕ → ℕ → List (List ℕ)) (past : List Entry) (a j : ℕ) (d : Decision) → MessagePast repos past → Always (StatesRead repos paths) past → decision past a j ≡ Some d
    → required (settings_of (read_at past a j) a) (id_of repos a) d.key (paths a j) ≡ None
bar_is_spared repos paths [] a j d run stated h = absurd (cc)
bar_is_spared repos paths (e ∷ past) a j d run stated h = go (λ k. bar_is_spared repos paths past a j d run.1 stated.1 k) (decided_was e past a j d h)
  where
    same : read_at (e ∷ past) a j ≡ read_at past a j → required (settings_of (read_at (e ∷ past) a j) a) (id_of repos a) d.key (paths a j) ≡ required (settings_of (read_at past a j) a) (id_of repos a) d.key (paths a j)
    same k = ap (λ read. required (settings_of read a) (id_of repos a) d.key (paths a j)) k

    go : (decision past a j ≡ Some d → required (settings_of (read_at past a j) a) (id_of repos a) d.key (paths a j) ≡ None) → (decision past a j ≡ Some d) ⊎ Decides e past a j d
        → required (settings_of (read_at (e ∷ past) a j) a) (id_of repos a) d.key (paths a j) ≡ None
    go ih (inl k) = same (read_at-kept repos e past a j d run.1 k) ∙ ih k
    go ih (inr t) = let b = (run.0.own a t.repo_is).bar_put j d.need d.key t.kind_is in
        same (read_at-step e past a j t.repo_is (bar_step e past a j d t) b.dropping) ∙ (stated.0.bars a j d.need d.key t.repo_is t.kind_is).1
